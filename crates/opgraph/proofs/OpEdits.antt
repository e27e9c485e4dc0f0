-- Edits of the ops, with the slots as they are.
use Rattle.std.proofs.Common.{◌≡◌, ℕ, ◌+◌, ◌<◌, ◌≤◌, List, [], ◌∷◌, length, map, set, inl, inr, Option, Some, None, IsSome, refl, sym, ap, ◌∙◌, subst, slice_get, arith}
use Rattle.std.proofs.Math.Path.{fun_ext}
use Rattle.std.proofs.lemmas.Bool.{cases_eq}
use Rattle.std.proofs.lemmas.List.{length-set}
use Rattle.opgraph.specs.declared.code.Body.{Body}
use Rattle.node_lists.specs.Chains.{IsIn, removed, head_or, put_at}
use Rattle.node_lists.proofs.Chains.{put_here, put_away, key_here, key_away, removed_absent, head_none}
use Rattle.node_lists.proofs.Fields.{get_set, get_other}
use Rattle.node_lists.proofs.Families.{length_less}
use Rattle.node_lists.specs.Families.{Family, list_at, key_at, Moved}
use Rattle.opgraph.specs.Graph.{OpRow, block_at, IsOp, Added, Removed}
use Rattle.opgraph.specs.Parts.{or_zero, row_slot, inputs_of, row_of, uses_of, slot_of, graph_of, has_value, Good}
use Rattle.heap_nodes.proofs.Places.{some_same, none_some, some_of, get_in}
use Rattle.opgraph.proofs.Tables.{op_at_is}
use Rattle.opgraph.proofs.Whole.{row_back, whole}
use Rattle.opgraph.proofs.SlotEdits.{none_not, op_key}

empty_of : (ps : List ℕ) → ((t : ℕ) → IsIn t ps → ⊥) → ps ≡ []
empty_of [] n = refl
empty_of (p ∷ ps) n = absurd (n p (inl refl))

empty_map : {Y : Type 0} (f : ℕ → Y) (ps : List ℕ) → map f ps ≡ [] → ps ≡ []
empty_map f [] e = refl
empty_map f (p ∷ ps) e = absurd (cc)

module _ (o : Family Body) (i : Family ℕ) (u : Family (Unit {0})) (g : Good o i u) where
  -- an op that is in no block
  pub record FreeOp (x : ℕ) : Type 0 where
    pub low : x < length o.held
    pub key : key_at o x ≡ None

  pub free_op : (x : ℕ) → head_or (list_at o None) None ≡ Some x → FreeOp x
  free_op x e = let h = g.full_ops.members None x (head_none (list_at o None) x e) in record { low = h.0; key = h.1 }

  pub op_other : (x y : ℕ) → FreeOp x → IsOp (graph_of o i u) y → y ≡ x → ⊥
  op_other x y f h e = let k = op_key o i u g y h in none_not f.key (some_of (ap (key_at o) (sym e) ∙ k.1))

  no_slots : (x : ℕ) → FreeOp x → inputs_of i u x ≡ []
  no_slots x f =
      ap (map (λ s. or_zero (key_at u s)))
      (empty_of (list_at i (Some x)) (λ t m. none_not f.key (g.owners t x (g.full_inputs.members (Some x) t m).1)))

  module _ (x b : ℕ) (body : Body) (ps : List ℕ) (f : FreeOp x) (o1 o' : Family Body)
      (e1 : o1 ≡ record o { held = set o.held x body }) (m : Moved x (Some b) ps o1 o') where
    keys : key_at o' ≡ put_at (Some x) (Some b) (key_at o)
    keys = m.keys ∙ ap (λ (z : Family Body). put_at (Some x) (Some b) (key_at z)) e1

    held_is : o'.held ≡ set o.held x body
    held_is = m.held ∙ ap (λ (z : Family Body). z.held) e1

    key_y : (y : ℕ) → (x ≡ y → ⊥) → key_at o' y ≡ key_at o y
    key_y y n = ap (λ (h : ℕ → Option ℕ). h y) keys ∙ put_away (Some b) (Some x) (key_at o) y (λ e. n (some_same e))

    held_y : (y : ℕ) → (x ≡ y → ⊥) → slice_get o'.held y ≡ slice_get o.held y
    held_y y n = ap (λ hs. slice_get hs y) held_is ∙ get_other o.held x y body (λ e. n (sym e))

    key_x : key_at o' x ≡ Some b
    key_x = ap (λ (h : ℕ → Option ℕ). h x) keys ∙ put_here (Some b) (Some x) (key_at o) x refl

    held_x : slice_get o'.held x ≡ Some body
    held_x = let old = get_in o.held x f.low in ap (λ hs. slice_get hs x) held_is ∙ get_set o.held x old.0 body old.1

    held_length : length o'.held ≡ length o.held
    held_length = ap length held_is ∙ length-set o.held x body

    live_other : (y : ℕ) → IsSome (key_at o y) → x ≡ y → ⊥
    live_other y h e = none_not f.key (subst (λ z. IsSome (key_at o z)) (sym e) h)

    key_some : (v : ℕ) (k : Option ℕ) (z : Option Body) → has_value k z → IsSome k
    key_some v None z h = absurd h
    key_some v (Some c) z h = refl

    pub claimed_good : Good o' i u
    claimed_good = record {
      full_ops = m.full;
      full_inputs = g.full_inputs;
      full_uses = g.full_uses;
      ops_inputs = subst (λ n. n ≤ length i.lists) (sym held_length) g.ops_inputs;
      ops_uses = subst (λ n. n ≤ length u.lists) (sym held_length) g.ops_uses;
      slots_uses = g.slots_uses;
      reads = g.reads;
      spare = g.spare;
      places = g.places;
      owners = λ s y e. let h = g.owners s y e in subst IsSome (sym (key_y y (live_other y h))) h;
      values =
          λ s v e.
          let h = g.values s v e in
          let n = live_other v (key_some v (key_at o v) (slice_get o.held v) h) in
          subst (λ k. has_value k (slice_get o'.held v)) (sym (key_y v n))
          (subst (has_value (key_at o v)) (sym (held_y v n)) h);
    }

    abbrev pub row : OpRow
    row = record { block = b; code = body.code; inputs = []; width = body.width }

    rows : row_of o' i u ≡ put_at (Some x) (Some row) (row_of o i u)
    rows =
        fun_ext (λ y.
        elim (cases_eq x y) [
          | inl e ↦
              ap (row_of o' i u) (sym e)
              ∙ (λ j. row_slot (key_x j) (held_x j) (no_slots x f j))
              ∙ sym (put_here (Some row) (Some x) (row_of o i u) y (ap Some e))
          | inr n ↦
              (λ j. row_slot (key_y y n j) (held_y y n j) (inputs_of i u y))
              ∙ sym (put_away (Some row) (Some x) (row_of o i u) y (λ e. n (some_same e)))
        ])

    pub absent : (c : Option ℕ) → (None ≡ c → ⊥) → removed x (list_at o c) ≡ list_at o c
    absent c n = removed_absent x (list_at o c) (λ k. n (sym f.key ∙ (g.full_ops.members c x k).1))

    blocks : (qs : List ℕ) → ps ≡ qs → block_at (graph_of o' i u) ≡ put_at (Some b) qs (block_at (graph_of o i u))
    blocks qs e =
        fun_ext (λ y.
        ap (λ (h : Option ℕ → List ℕ). h (Some y)) m.lists
        ∙ elim (cases_eq b y) [
          | inl d ↦
              key_here ps (Some b) (λ j. removed x (list_at o1 j)) (Some y) (ap Some d)
              ∙ e
              ∙ sym (put_here qs (Some b) (block_at (graph_of o i u)) y (ap Some d))
          | inr n ↦
              key_away ps (Some b) (λ j. removed x (list_at o1 j)) (Some y) (λ d. n (some_same d))
              ∙ ap (λ (z : Family Body). removed x (list_at z (Some y))) e1
              ∙ absent (Some y) (λ d. none_some d)
              ∙ sym (put_away qs (Some b) (block_at (graph_of o i u)) y (λ d. n (some_same d)))
        ])

    pub claimed : (qs : List ℕ) → ps ≡ qs → Added x row qs (graph_of o i u) (graph_of o' i u)
    claimed qs e = record {
      fresh =
          ap (λ (h : ℕ → Option OpRow). h x) (op_at_is o i u)
          ∙ ap (λ k. row_slot k (slice_get o.held x) (inputs_of i u x)) f.key;
      ops = op_at_is o' i u ∙ rows ∙ ap (put_at (Some x) (Some row)) (sym (op_at_is o i u));
      blocks = blocks qs e;
      count = m.count ∙ ap (λ (z : Family Body). length z.lists) e1;
      whole = whole o' i u claimed_good;
    }

    pub claimed_spares : length o'.spares + 1 ≡ length o.spares
    claimed_spares =
        let e : list_at o' None ≡ removed x (list_at o None) =
        ap (λ (h : Option ℕ → List ℕ). h None) m.lists
        ∙ key_away ps (Some b) (λ j. removed x (list_at o1 j)) None (λ d. none_some (sym d))
        ∙ ap (λ (z : Family Body). removed x (list_at z None)) e1 in
        let h = subst (λ k. IsIn x (list_at o k)) f.key (g.full_ops.everyone x f.low) in
        let l = length_less x (list_at o None) h in let k = ap length e in omega arith

  -- an op with no inputs and no uses leaves its block
  module _ (x : ℕ) (r : OpRow) (er : row_of o i u x ≡ Some r) (none : inputs_of i u x ≡ [])
      (unused : uses_of i u x ≡ []) (o' : Family Body) (m : Moved x None (x ∷ removed x (list_at o None)) o o') where
    gone_key : (y : ℕ) → (x ≡ y → ⊥) → key_at o' y ≡ key_at o y
    gone_key y n = ap (λ (h : ℕ → Option ℕ). h y) m.keys ∙ put_away None (Some x) (key_at o) y (λ e. n (some_same e))

    gone_x : key_at o' x ≡ None
    gone_x = ap (λ (h : ℕ → Option ℕ). h x) m.keys ∙ put_here None (Some x) (key_at o) x refl

    owner_other : (s y : ℕ) → key_at i s ≡ Some y → x ≡ y → ⊥
    owner_other s y e d =
        let k = e ∙ ap Some (sym d) in
        let h = subst (λ c. IsIn s (list_at i c)) k (g.full_inputs.everyone s (g.full_inputs.low s x k)) in
        subst (IsIn s) (empty_map (λ t. or_zero (key_at u t)) (list_at i (Some x)) none) h

    value_other : (s v : ℕ) → key_at u s ≡ Some v → x ≡ v → ⊥
    value_other s v e d =
        let k = e ∙ ap Some (sym d) in
        let h = subst (λ c. IsIn s (list_at u c)) k (g.full_uses.everyone s (g.full_uses.low s x k)) in
        subst (IsIn s) (empty_map (slot_of i) (list_at u (Some x)) unused) h

    pub released_good : Good o' i u
    released_good = record {
      full_ops = m.full;
      full_inputs = g.full_inputs;
      full_uses = g.full_uses;
      ops_inputs = subst (λ hs. length hs ≤ length i.lists) (sym m.held) g.ops_inputs;
      ops_uses = subst (λ hs. length hs ≤ length u.lists) (sym m.held) g.ops_uses;
      slots_uses = g.slots_uses;
      reads = g.reads;
      spare = g.spare;
      places = g.places;
      owners = λ s y e. subst IsSome (sym (gone_key y (owner_other s y e))) (g.owners s y e);
      values =
          λ s v e.
          subst (λ k. has_value k (slice_get o'.held v)) (sym (gone_key v (value_other s v e)))
          (subst (λ hs. has_value (key_at o v) (slice_get hs v)) (sym m.held) (g.values s v e));
    }

    rows_gone : row_of o' i u ≡ put_at (Some x) None (row_of o i u)
    rows_gone =
        fun_ext (λ y.
        elim (cases_eq x y) [
          | inl e ↦
              ap (λ z. row_slot (key_at o' z) (slice_get o'.held z) (inputs_of i u z)) (sym e)
              ∙ ap (λ k. row_slot k (slice_get o'.held x) (inputs_of i u x)) gone_x
              ∙ sym (put_here None (Some x) (row_of o i u) y (ap Some e))
          | inr n ↦
              (λ j. row_slot (gone_key y n j) (slice_get (m.held j) y) (inputs_of i u y))
              ∙ sym (put_away None (Some x) (row_of o i u) y (λ e. n (some_same e)))
        ])

    x_key : key_at o x ≡ Some r.block
    x_key = row_back o i u g x r er

    pub released : Removed x r (graph_of o i u) (graph_of o' i u)
    released = record {
      ops = op_at_is o' i u ∙ rows_gone ∙ ap (put_at (Some x) None) (sym (op_at_is o i u));
      blocks =
          fun_ext (λ y.
          ap (λ (h : Option ℕ → List ℕ). h (Some y)) m.lists
          ∙ key_away (x ∷ removed x (list_at o None)) None (λ j. removed x (list_at o j)) (Some y) (λ d. none_some d)
          ∙ elim (cases_eq r.block y) [
            | inl d ↦
                ap (λ z. removed x (list_at o (Some z))) (sym d)
                ∙ sym
                (put_here (removed x (list_at o (Some r.block))) (Some r.block) (block_at (graph_of o i u))
                y (ap Some d))
            | inr n ↦
                removed_absent x (list_at o (Some y))
                (λ k. n (some_same (sym x_key ∙ (g.full_ops.members (Some y) x k).1)))
                ∙ sym
                (put_away (removed x (list_at o (Some r.block))) (Some r.block) (block_at (graph_of o i u))
                y (λ d. n (some_same d)))
          ]);
      count = m.count;
      whole = whole o' i u released_good;
    }

    pub released_spares : length o'.spares ≡ length o.spares + 1
    released_spares =
        let e : list_at o' None ≡ x ∷ removed x (list_at o None) =
        ap (λ (h : Option ℕ → List ℕ). h None) m.lists
        ∙ key_here (x ∷ removed x (list_at o None)) None (λ j. removed x (list_at o j)) None refl in
        let d = removed_absent x (list_at o None) (λ k. none_some (sym (g.full_ops.members None x k).1 ∙ x_key)) in
        let l = ap length d in let k = ap length e in omega arith
