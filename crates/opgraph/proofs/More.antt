-- Growth of the families, which leaves the graph as it is.
use Rattle.std.proofs.Common.{◌≡◌, ℕ, zero, suc, ◌+◌, ◌<◌, ◌≤◌, List, [], ◌∷◌, ◌++◌, length, map, set, ◌⊎◌, inl, inr, Option, Some, None, IsSome, refl, sym, ap, ◌∙◌, subst, slice_get, arith, length-append}
use Rattle.std.proofs.Math.Path.{fun_ext}
use Rattle.std.proofs.lemmas.Bool.{cases_eq}
use Rattle.std.proofs.lemmas.List.{length-set}
use Rattle.opgraph.specs.declared.code.Code.{Code}
use Rattle.opgraph.specs.declared.code.Body.{Body}
use Rattle.node_lists.specs.Chains.{put_at}
use Rattle.node_lists.proofs.Chains.{put_here, put_away, key_here, key_away}
use Rattle.node_lists.proofs.Fields.{get_set, get_other}
use Rattle.node_lists.specs.Families.{Family, list_at, key_at, MoreSpare, MoreLists}
use Rattle.opgraph.specs.Graph.{OpRow, op_at, block_at, Same, Rewritten}
use Rattle.opgraph.specs.Parts.{or_zero, row_slot, inputs_of, row_of, uses_of, slot_of, graph_of, has_value, HasValue, Good, Kept, KeptNodes}
use Rattle.heap_nodes.proofs.Places.{some_same, none_some, some_of}
use Rattle.opgraph.proofs.Tables.{below_or, op_at_is, uses_at_is}
use Rattle.opgraph.proofs.Whole.{whole}

get_more : {X : Type 0} (xs : List X) (y : X) (i : ℕ) → i < length xs → slice_get (xs ++ y ∷ []) i ≡ slice_get xs i
get_more [] y i h = absurd (omega arith)
get_more (z ∷ xs) y zero h = refl
get_more (z ∷ xs) y (suc i) h = get_more xs y i (omega arith)

pub kept_refl : {T : Type 0} (f : Family T) → Kept f f
kept_refl f = record { held = refl; keys = refl; lists = refl; count = omega arith; full = λ z. z }

pub kept_more : {T : Type 0} (k : ℕ) (old new : Family T) → MoreLists k old new → Kept old new
kept_more k old new m = record {
  held = m.held;
  keys = m.keys;
  lists = m.lists;
  count = let e = m.count in omega arith;
  full = λ z. m.full;
}

pub nodes_refl : (f : Family (Unit {0})) → KeptNodes f f
nodes_refl f = record { keys = refl; lists = λ k. refl; count = refl; nodes = omega arith; full = λ z. z }

pub nodes_more : (old new : Family (Unit {0})) → MoreSpare tt old new → KeptNodes old new
nodes_more old new m = record {
  keys = m.keys;
  lists =
      λ k.
      ap (λ (h : Option ℕ → List ℕ). h (Some k)) m.lists
      ∙ key_away (length old.held ∷ old.spares) None (list_at old) (Some k) (λ z. none_some z);
  count = m.count;
  nodes = let e = ap length m.held ∙ length-append old.held (tt ∷ []) in omega arith;
  full = λ z. m.full;
}

module _ (o : Family Body) (i i' : Family ℕ) (u u' : Family (Unit {0})) (g : Good o i u) where
  pub more_lists_good : Kept i i' → Kept u u' → Good o i' u'
  more_lists_good k l = record {
    full_ops = g.full_ops;
    full_inputs = k.full g.full_inputs;
    full_uses = l.full g.full_uses;
    ops_inputs = let a = g.ops_inputs in let b = k.count in omega arith;
    ops_uses = let a = g.ops_uses in let b = l.count in omega arith;
    slots_uses =
        subst (λ n. n ≤ length u'.held) (ap length (sym k.held))
        (subst (λ n. length i.held ≤ n) (ap length (sym l.held)) g.slots_uses);
    reads =
        λ s h.
        subst (λ (f : ℕ → Option ℕ). IsSome (f s)) (sym l.keys)
        (g.reads s (subst (λ (f : ℕ → Option ℕ). IsSome (f s)) k.keys h));
    spare =
        λ s h.
        subst (λ (f : ℕ → Option ℕ). IsSome (f s)) (sym k.keys)
        (g.spare s (subst (λ (f : ℕ → Option ℕ). IsSome (f s)) l.keys h));
    places =
        λ x n s e.
        ap (λ hs. slice_get hs s) k.held
        ∙ g.places x n s (ap (λ (f : Option ℕ → List ℕ). slice_get (f (Some x)) n) (sym k.lists) ∙ e);
    owners = λ s x e. g.owners s x (ap (λ (f : ℕ → Option ℕ). f s) (sym k.keys) ∙ e);
    values = λ s v e. g.values s v (ap (λ (f : ℕ → Option ℕ). f s) (sym l.keys) ∙ e);
  }

  pub more_lists_same : Kept i i' → Kept u u' → Same (graph_of o i u) (graph_of o i' u')
  more_lists_same k l = record {
    ops =
        op_at_is o i' u'
        ∙ fun_ext (λ x.
        (λ j. row_slot (key_at o x) (slice_get o.held x) (map (λ s. or_zero (l.keys j s)) (k.lists j (Some x)))))
        ∙ sym (op_at_is o i u);
    blocks = refl;
    count = refl;
    uses =
        uses_at_is o i' u'
        ∙ fun_ext (λ v.
        (λ j.
        map
        (λ s. record { op = record { 0 = or_zero (k.keys j s) }; slot = or_zero (slice_get (k.held j) s) })
        (l.lists j (Some v))))
        ∙ sym (uses_at_is o i u);
  }

  pub more_nodes_good : (l : KeptNodes u u') → Good o i u'
  more_nodes_good l = record {
    full_ops = g.full_ops;
    full_inputs = g.full_inputs;
    full_uses = l.full g.full_uses;
    ops_inputs = g.ops_inputs;
    ops_uses = subst (λ n. length o.held ≤ n) (sym l.count) g.ops_uses;
    slots_uses = let a = g.slots_uses in let b = l.nodes in omega arith;
    reads = λ s h. subst (λ (f : ℕ → Option ℕ). IsSome (f s)) (sym l.keys) (g.reads s h);
    spare = λ s h. g.spare s (subst (λ (f : ℕ → Option ℕ). IsSome (f s)) l.keys h);
    places = g.places;
    owners = g.owners;
    values = λ s v e. g.values s v (ap (λ (f : ℕ → Option ℕ). f s) (sym l.keys) ∙ e);
  }

  pub more_nodes_same : (l : KeptNodes u u') → Same (graph_of o i u) (graph_of o i u')
  more_nodes_same l = record {
    ops =
        op_at_is o i u'
        ∙ fun_ext (λ x.
        ap
        (λ (f : ℕ → Option ℕ).
        row_slot (key_at o x) (slice_get o.held x) (map (λ s. or_zero (f s)) (list_at i (Some x)))) l.keys)
        ∙ sym (op_at_is o i u);
    blocks = refl;
    count = refl;
    uses = uses_at_is o i u' ∙ fun_ext (λ v. ap (map (slot_of i)) (l.lists v)) ∙ sym (uses_at_is o i u);
  }

  module _ (body : Body) (o' : Family Body) (m : MoreSpare body o o') where
    key_past : key_at o (length o.held) ≡ None
    key_past = by_key (key_at o (length o.held)) refl
      where
        by_key : (k : Option ℕ) → key_at o (length o.held) ≡ k → k ≡ None
        by_key None e = refl
        by_key (Some b) e = let low = g.full_ops.low (length o.held) b e in absurd (omega arith)

    same_row : (x : ℕ) (ins : List ℕ)
        → row_slot (key_at o' x) (slice_get o'.held x) ins ≡ row_slot (key_at o x) (slice_get o.held x) ins
    same_row x ins = (λ j. row_slot (m.keys j x) (slice_get (m.held j) x) ins) ∙ by_size (below_or x (length o.held))
      where
        by_size : (x < length o.held) ⊎ (length o.held ≤ x)
            → row_slot (key_at o x) (slice_get (o.held ++ body ∷ []) x) ins
            ≡ row_slot (key_at o x) (slice_get o.held x) ins
        by_size (inl h) = ap (λ b. row_slot (key_at o x) b ins) (get_more o.held body x h)
        by_size (inr h) = by_key (key_at o x) refl
          where
            by_key : (k : Option ℕ)
                → key_at o x ≡ k
                → row_slot k (slice_get (o.held ++ body ∷ []) x) ins ≡ row_slot k (slice_get o.held x) ins
            by_key None e = refl
            by_key (Some b) e = let low = g.full_ops.low x b e in absurd (omega arith)

    same_value : (v : ℕ) → HasValue o v → HasValue o' v
    same_value v h =
        subst (λ (f : ℕ → Option ℕ). has_value (f v) (slice_get o'.held v)) (sym m.keys)
        (subst (λ hs. has_value (key_at o v) (slice_get hs v)) (sym m.held)
        (subst (has_value (key_at o v)) (sym (get_more o.held body v low)) h))
      where
        key_some : (k : Option ℕ) (z : Option Body) → has_value k z → IsSome k
        key_some None z q = absurd q
        key_some (Some c) z q = refl

        low : v < length o.held
        low =
            let k = Rattle.opgraph.proofs.Tables.value_of (key_at o v) (key_some (key_at o v) (slice_get o.held v) h) in
            g.full_ops.low v k.0 k.1

    held_more : length o'.held ≡ length o.held + 1
    held_more = ap length m.held ∙ length-append o.held (body ∷ [])

    pub more_ops_good : length o.held < length i.lists → length o.held < length u.lists → Good o' i u
    more_ops_good a b = let e = held_more in record {
      full_ops = m.full;
      full_inputs = g.full_inputs;
      full_uses = g.full_uses;
      ops_inputs = omega arith;
      ops_uses = omega arith;
      slots_uses = g.slots_uses;
      reads = g.reads;
      spare = g.spare;
      places = g.places;
      owners = λ s x z. subst (λ (f : ℕ → Option ℕ). IsSome (f x)) (sym m.keys) (g.owners s x z);
      values = λ s v z. same_value v (g.values s v z);
    }

    blocks_same : block_at (graph_of o' i u) ≡ block_at (graph_of o i u)
    blocks_same =
        fun_ext (λ b.
        ap (λ (f : Option ℕ → List ℕ). f (Some b)) m.lists
        ∙ key_away (length o.held ∷ o.spares) None (list_at o) (Some b) (λ z. none_some z))

    pub more_ops_same : Same (graph_of o i u) (graph_of o' i u)
    more_ops_same = record {
      ops = op_at_is o' i u ∙ fun_ext (λ x. same_row x (inputs_of i u x)) ∙ sym (op_at_is o i u);
      blocks = blocks_same;
      count = m.count;
      uses = uses_at_is o' i u ∙ sym (uses_at_is o i u);
    }

    pub more_ops_spares : length o'.spares ≡ length o.spares + 1
    more_ops_spares =
        let e =
        ap length
        (ap (λ (f : Option ℕ → List ℕ). f None) m.lists
        ∙ key_here (length o.held ∷ o.spares) None (list_at o) None refl) in
        omega arith

  module _ (k : ℕ) (m : MoreSpare k i i') where
    list_same : (x : ℕ) → list_at i' (Some x) ≡ list_at i (Some x)
    list_same x =
        ap (λ (f : Option ℕ → List ℕ). f (Some x)) m.lists
        ∙ key_away (length i.held ∷ i.spares) None (list_at i) (Some x) (λ z. none_some z)

    held_slot : (s : ℕ) → s < length i.held → slice_get i'.held s ≡ slice_get i.held s
    held_slot s h = ap (λ hs. slice_get hs s) m.held ∙ get_more i.held k s h

    pub more_slots_good : length i.held < length u.held → Good o i' u
    more_slots_good a = let e = ap length m.held ∙ length-append i.held (k ∷ []) in record {
      full_ops = g.full_ops;
      full_inputs = m.full;
      full_uses = g.full_uses;
      ops_inputs = subst (λ n. length o.held ≤ n) (sym m.count) g.ops_inputs;
      ops_uses = g.ops_uses;
      slots_uses = omega arith;
      reads = λ s h. g.reads s (subst (λ (f : ℕ → Option ℕ). IsSome (f s)) m.keys h);
      spare = λ s h. subst (λ (f : ℕ → Option ℕ). IsSome (f s)) (sym m.keys) (g.spare s h);
      places =
          λ x n s z.
          let old = g.places x n s (ap (λ ps. slice_get ps n) (sym (list_same x)) ∙ z) in
          held_slot s (Rattle.node_lists.proofs.Fields.low_of i.held s n old) ∙ old;
      owners = λ s x z. g.owners s x (ap (λ (f : ℕ → Option ℕ). f s) (sym m.keys) ∙ z);
      values = g.values;
    }

    slot_same : (v : ℕ) → uses_of i' u v ≡ uses_of i u v
    slot_same v = along (list_at u (Some v)) (λ s n. low s n)
      where
        low : (s : ℕ) → Rattle.node_lists.specs.Chains.IsIn s (list_at u (Some v)) → s < length i.held
        low s n =
            let h = (g.full_uses.members (Some v) s n).1 in
            let x = Rattle.opgraph.proofs.Tables.value_of (key_at i s) (g.spare s (some_of h)) in
            g.full_inputs.low s x.0 x.1

        along : (ps : List ℕ) → ((s : ℕ) → Rattle.node_lists.specs.Chains.IsIn s ps → s < length i.held)
            → map (slot_of i') ps ≡ map (slot_of i) ps
        along [] h = refl
        along (p ∷ ps) h =
            λ j.
            record { op = record { 0 = or_zero (m.keys j p) }; slot = or_zero (held_slot p (h p (inl refl)) j) } ∷
            along ps (λ s n. h s (inr n)) j

    pub more_slots_same : Same (graph_of o i u) (graph_of o i' u)
    more_slots_same = record {
      ops =
          op_at_is o i' u
          ∙ fun_ext (λ x.
          ap (λ ps. row_slot (key_at o x) (slice_get o.held x) (map (λ s. or_zero (key_at u s)) ps)) (list_same x))
          ∙ sym (op_at_is o i u);
      blocks = refl;
      count = refl;
      uses = uses_at_is o i' u ∙ fun_ext slot_same ∙ sym (uses_at_is o i u);
    }

    pub more_slots_spares : length i'.spares ≡ length i.spares + 1
    more_slots_spares =
        let e =
        ap length
        (ap (λ (f : Option ℕ → List ℕ). f None) m.lists
        ∙ key_here (length i.held ∷ i.spares) None (list_at i) None refl) in
        omega arith

  -- one block more
  module _ (k : ℕ) (o' : Family Body) (m : MoreLists k o o') where
    pub more_blocks_good : Good o' i u
    more_blocks_good = record {
      full_ops = m.full;
      full_inputs = g.full_inputs;
      full_uses = g.full_uses;
      ops_inputs = subst (λ hs. length hs ≤ length i.lists) (sym m.held) g.ops_inputs;
      ops_uses = subst (λ hs. length hs ≤ length u.lists) (sym m.held) g.ops_uses;
      slots_uses = g.slots_uses;
      reads = g.reads;
      spare = g.spare;
      places = g.places;
      owners = λ s x z. subst (λ (f : ℕ → Option ℕ). IsSome (f x)) (sym m.keys) (g.owners s x z);
      values =
          λ s v z.
          subst (λ (f : ℕ → Option ℕ). has_value (f v) (slice_get o'.held v)) (sym m.keys)
          (subst (λ hs. has_value (key_at o v) (slice_get hs v)) (sym m.held) (g.values s v z));
    }

    pub more_blocks_ops : op_at (graph_of o' i u) ≡ op_at (graph_of o i u)
    more_blocks_ops =
        op_at_is o' i u
        ∙ fun_ext (λ x. (λ j. row_slot (m.keys j x) (slice_get (m.held j) x) (inputs_of i u x)))
        ∙ sym (op_at_is o i u)

    pub more_blocks_lists : block_at (graph_of o' i u) ≡ block_at (graph_of o i u)
    more_blocks_lists = fun_ext (λ b. ap (λ (f : Option ℕ → List ℕ). f (Some b)) m.lists)

  -- an op that does something else
  module _ (x b : ℕ) (code : Code) (old : Body) (ek : key_at o x ≡ Some b) (eo : slice_get o.held x ≡ Some old)
      (o' : Family Body) (eo' : o' ≡ record o { held = set o.held x (record old { code = code }) }) where
    abbrev new : Family Body
    new = record o { held = set o.held x (record old { code = code }) }

    length_new : length new.held ≡ length o.held
    length_new = length-set o.held x (record old { code = code })

    value_new : (v : ℕ) → HasValue o v → HasValue new v
    value_new v h =
        elim (cases_eq v x) [
          | inl d ↦
              subst (λ z. has_value (key_at o z) (slice_get new.held z)) (sym d)
              (subst (has_value (key_at o x)) (sym (get_set o.held x old (record old { code = code }) eo))
              (widths (key_at o x) (subst (has_value (key_at o x)) eo (subst (HasValue o) d h))))
          | inr n ↦ subst (has_value (key_at o v)) (sym (get_other o.held x v (record old { code = code }) n)) h
        ]
      where
        widths : (k : Option ℕ) → has_value k (Some old) → has_value k (Some (record old { code = code }))
        widths None q = q
        widths (Some c) q = q

    coded_new : Good new i u
    coded_new = record {
      full_ops = record {
        members = λ k j z. let h = g.full_ops.members k j z in (subst (λ n. j < n) (sym length_new) h.0, h.1);
        everyone = λ j z. g.full_ops.everyone j (subst (λ n. j < n) length_new z);
        apart = g.full_ops.apart;
        low = λ j k z. subst (λ n. j < n) (sym length_new) (g.full_ops.low j k z);
      };
      full_inputs = g.full_inputs;
      full_uses = g.full_uses;
      ops_inputs = subst (λ n. n ≤ length i.lists) (sym length_new) g.ops_inputs;
      ops_uses = subst (λ n. n ≤ length u.lists) (sym length_new) g.ops_uses;
      slots_uses = g.slots_uses;
      reads = g.reads;
      spare = g.spare;
      places = g.places;
      owners = g.owners;
      values = λ s v z. value_new v (g.values s v z);
    }

    pub coded_good : Good o' i u
    coded_good = subst (λ z. Good z i u) (sym eo') coded_new

    pub coded_row : (r : OpRow)
        → op_at (graph_of o i u) x ≡ Some r
        → Rewritten x (record r { code = code }) (graph_of o i u) (graph_of o' i u)
    coded_row r er =
        subst (λ z. Rewritten x (record r { code = code }) (graph_of o i u) (graph_of z i u)) (sym eo') (record {
          ops = op_at_is new i u ∙ rows ∙ ap (put_at (Some x) (Some (record r { code = code }))) (sym (op_at_is o i u));
          blocks = refl;
          count = refl;
          whole = whole new i u coded_new;
        })
      where
        row : row_of o i u x ≡ Some r
        row = sym (ap (λ (h : ℕ → Option OpRow). h x) (op_at_is o i u)) ∙ er

        is : r ≡ record { block = b; code = old.code; inputs = inputs_of i u x; width = old.width }
        is = some_same (sym row ∙ (λ j. row_slot (ek j) (eo j) (inputs_of i u x)))

        here : row_of new i u x ≡ Some (record r { code = code })
        here =
            (λ j. row_slot (ek j) (get_set o.held x old (record old { code = code }) eo j) (inputs_of i u x))
            ∙ (λ j. let z = sym is j in Some (record z { code = code }))

        rows : row_of new i u ≡ put_at (Some x) (Some (record r { code = code })) (row_of o i u)
        rows =
            fun_ext (λ y.
            elim (cases_eq x y) [
              | inl d ↦
                  ap (row_of new i u) (sym d)
                  ∙ here
                  ∙ sym (put_here (Some (record r { code = code })) (Some x) (row_of o i u) y (ap Some d))
              | inr n ↦
                  ap (λ z. row_slot (key_at o y) z (inputs_of i u y))
                  (get_other o.held x y (record old { code = code }) (λ z. n (sym z)))
                  ∙ sym
                  (put_away (Some (record r { code = code })) (Some x) (row_of o i u) y (λ z. n (some_same z)))
            ])
