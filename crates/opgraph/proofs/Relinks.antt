-- Slots that read other values, or none.
use Rattle.std.proofs.Common.{◌≡◌, ℕ, zero, suc, ◌+◌, ◌<◌, ◌≤◌, Bool, true, false, List, [], ◌∷◌, ◌++◌, length, map, set, ◌⊎◌, inl, inr, Option, Some, None, IsSome, refl, sym, ap, ◌∙◌, subst, slice_get, cond, arith}
use Rattle.std.proofs.Math.Path.{fun_ext}
use Rattle.std.proofs.lemmas.Bool.{cases_eq}
use Rattle.opgraph.specs.declared.code.Body.{Body}
use Rattle.opgraph.specs.declared.ids.Slot.{Slot}
use Rattle.node_lists.specs.Chains.{IsIn, Apart, removed, last_or, same_key}
use Rattle.node_lists.proofs.Chains.{put_here, put_away, key_here, key_away, removed_absent, removed_within, apart_sides, key_away}
use Rattle.node_lists.specs.Families.{Family, list_at, key_at, Moved}
use Rattle.opgraph.specs.Graph.{OpRow, op_at, uses_at, IsOp, IsValue, Rewritten, Renamed, inputs_in, renamed, renamed_row, front}
use Rattle.opgraph.specs.Parts.{or_zero, row_slot, inputs_of, slot_of, graph_of, HasValue, Good, moved_key, MovedAll}
use Rattle.heap_nodes.proofs.Places.{some_same, none_some, some_of}
use Rattle.opgraph.proofs.Tables.{value_of, op_at_is, uses_at_is}
use Rattle.opgraph.proofs.Whole.{in_at, row_ins, whole}
use Rattle.opgraph.proofs.SlotEdits.{none_not, map_on, value_is, rewritten}

map_put : (f h : ℕ → ℕ) (ps : List ℕ) (k s v : ℕ)
    → Apart ps
    → slice_get ps k ≡ Some s
    → f s ≡ v
    → ((t : ℕ) → (t ≡ s → ⊥) → f t ≡ h t)
    → map f ps ≡ set (map h ps) k v
map_put f h [] k s v d e fs other = none_some e
map_put f h (p ∷ ps) zero s v d e fs other =
    let q = some_same e in
    λ j. (ap f q ∙ fs) j ∷ map_on f h ps (λ t m. other t (λ z. d.0 (subst (λ w. IsIn w ps) (z ∙ sym q) m))) j
map_put f h (p ∷ ps) (suc k) s v d e fs other =
    λ j. other p (λ z. d.0 (subst (λ w. IsIn w ps) (sym z) (in_at ps k s e))) j ∷ map_put f h ps k s v d.1 e fs other j

module _ (o : Family Body) (i : Family ℕ) (u : Family (Unit {0})) (g : Good o i u) where
  -- one slot reads another value
  module _ (s x k v : ℕ) (e : slice_get (list_at i (Some x)) k ≡ Some s) (isvalue : IsValue (graph_of o i u) v)
      (u' : Family (Unit {0})) (n : Moved s (Some v) (s ∷ removed s (list_at u (Some v))) u u') where
    key_s : key_at i s ≡ Some x
    key_s = (g.full_inputs.members (Some x) s (in_at (list_at i (Some x)) k s e)).1

    use_s : key_at u' s ≡ Some v
    use_s = ap (λ (h : ℕ → Option ℕ). h s) n.keys ∙ put_here (Some v) (Some s) (key_at u) s refl

    use_t : (t : ℕ) → (t ≡ s → ⊥) → key_at u' t ≡ key_at u t
    use_t t d =
        ap (λ (h : ℕ → Option ℕ). h t) n.keys ∙ put_away (Some v) (Some s) (key_at u) t (λ z. d (sym (some_same z)))

    pub relinked_good : Good o i u'
    relinked_good = record {
      full_ops = g.full_ops;
      full_inputs = g.full_inputs;
      full_uses = n.full;
      ops_inputs = g.ops_inputs;
      ops_uses = subst (λ m. length o.held ≤ m) (sym n.count) g.ops_uses;
      slots_uses = subst (λ hs. length i.held ≤ length hs) (sym n.held) g.slots_uses;
      reads =
          λ t h.
          elim (cases_eq t s) [
            | inl z ↦ some_of (ap (key_at u') z ∙ use_s)
            | inr d ↦ subst IsSome (sym (use_t t d)) (g.reads t h)
          ];
      spare =
          λ t h.
          elim (cases_eq t s) [
            | inl z ↦ some_of (ap (key_at i) z ∙ key_s)
            | inr d ↦ g.spare t (subst IsSome (use_t t d) h)
          ];
      places = g.places;
      owners = g.owners;
      values =
          λ t w z.
          elim (cases_eq t s) [
            | inl d ↦
                subst (HasValue o) (some_same (sym use_s ∙ sym (ap (key_at u') d) ∙ z)) (value_is o i u g v isvalue)
            | inr d ↦ g.values t w (sym (use_t t d) ∙ z)
          ];
    }

    pub relinked_row : (r : OpRow)
        → op_at (graph_of o i u) x ≡ Some r
        → Rewritten x (record r { inputs = set r.inputs k v }) (graph_of o i u) (graph_of o i u')
    relinked_row r er =
        let row = sym (ap (λ (h : ℕ → Option OpRow). h x) (op_at_is o i u)) ∙ er in
        rewritten o i u g i u' relinked_good x r row (set r.inputs k v)
        (map_put (λ t. or_zero (key_at u' t)) (λ t. or_zero (key_at u t)) (list_at i (Some x)) k s v
        (g.full_inputs.apart (Some x)) e (ap or_zero use_s) (λ t d. ap or_zero (use_t t d))
        ∙ ap (λ ps. set ps k v) (sym (row_ins o i u g x r row)))
        (λ y d.
        map_on (λ t. or_zero (key_at u' t)) (λ t. or_zero (key_at u t)) (list_at i (Some y)) (λ t m.
        ap or_zero
        (use_t t (λ z. d (some_same (sym key_s ∙ ap (key_at i) (sym z) ∙ (g.full_inputs.members (Some y) t m).1))))))

  -- each slot that reads a value reads another one
  module _ (before after : ℕ) (isvalue : IsValue (graph_of o i u) after) (u' : Family (Unit {0}))
      (n : MovedAll before after u u') where
    moved_cases : (t w : ℕ) (k : Option ℕ) → moved_key before after k ≡ Some w → (w ≡ after) ⊎ (k ≡ Some w)
    moved_cases t w k e = by_test (same_key k (Some before)) e
      where
        by_test : (b : Bool) → cond b (Some after) k ≡ Some w → (w ≡ after) ⊎ (k ≡ Some w)
        by_test true f = inl (sym (some_same f))
        by_test false f = inr f

    some_moved : (k : Option ℕ) → IsSome k → IsSome (moved_key before after k)
    some_moved k h = by_test (same_key k (Some before))
      where
        by_test : (b : Bool) → IsSome (cond b (Some after) k)
        by_test true = refl
        by_test false = h

    moved_some : (k : Option ℕ) → IsSome (moved_key before after k) → IsSome k
    moved_some None h = h
    moved_some (Some w) h = refl

    pub renamed_good : Good o i u'
    renamed_good = record {
      full_ops = g.full_ops;
      full_inputs = g.full_inputs;
      full_uses = n.full;
      ops_inputs = g.ops_inputs;
      ops_uses = subst (λ m. length o.held ≤ m) (sym n.count) g.ops_uses;
      slots_uses = subst (λ hs. length i.held ≤ length hs) (sym n.held) g.slots_uses;
      reads = λ t h. subst IsSome (sym (n.keys t)) (some_moved (key_at u t) (g.reads t h));
      spare = λ t h. g.spare t (moved_some (key_at u t) (subst IsSome (n.keys t) h));
      places = g.places;
      owners = g.owners;
      values =
          λ t w e.
          elim (moved_cases t w (key_at u t) (sym (n.keys t) ∙ e)) [
            | inl z ↦ subst (HasValue o) (sym z) (value_is o i u g after isvalue)
            | inr z ↦ g.values t w z
          ];
    }

    one_moved : (w : ℕ) → or_zero (moved_key before after (Some w)) ≡ renamed before after w
    one_moved w = by_test (same_key (Some w) (Some before))
      where
        by_test : (b : Bool) → or_zero (cond b (Some after) (Some w)) ≡ cond b after w
        by_test true = refl
        by_test false = refl

    ins_moved : (x : ℕ) → inputs_of i u' x ≡ map (renamed before after) (inputs_of i u x)
    ins_moved x = along (list_at i (Some x)) (λ t m. g.reads t (some_of (g.full_inputs.members (Some x) t m).1))
      where
        along : (ps : List ℕ) → ((t : ℕ) → IsIn t ps → IsSome (key_at u t))
            → map (λ t. or_zero (key_at u' t)) ps ≡ map (renamed before after) (map (λ t. or_zero (key_at u t)) ps)
        along [] h = refl
        along (p ∷ ps) h =
            let w = value_of (key_at u p) (h p (inl refl)) in
            λ j.
            (ap or_zero (n.keys p)
            ∙ ap (λ k. or_zero (moved_key before after k)) w.1
            ∙ one_moved w.0
            ∙ ap (λ k. renamed before after (or_zero k)) (sym w.1))
            j ∷ along ps (λ t m. h t (inr m)) j

    row_moved : (k : Option ℕ) (b : Option Body) (ins : List ℕ)
        → row_slot k b (map (renamed before after) ins) ≡ renamed_row before after (row_slot k b ins)
    row_moved None b ins = refl
    row_moved (Some c) None ins = refl
    row_moved (Some c) (Some b) ins = refl

    pub renamed_graph : Renamed before after (graph_of o i u) (graph_of o i u')
    renamed_graph = record {
      ops =
          op_at_is o i u'
          ∙ fun_ext (λ x.
          ap (row_slot (key_at o x) (slice_get o.held x)) (ins_moved x)
          ∙ row_moved (key_at o x) (slice_get o.held x) (inputs_of i u x))
          ∙ (λ j x. renamed_row before after (sym (op_at_is o i u) j x));
      blocks = refl;
      count = refl;
      whole = whole o i u' renamed_good;
    }

    pub renamed_none : uses_at (graph_of o i u') before ≡ []
    renamed_none = ap (λ (h : ℕ → List Slot). h before) (uses_at_is o i u') ∙ ap (map (slot_of i)) n.none

  -- the last slot of an op becomes spare
  front_map : (f : ℕ → ℕ) (ps : List ℕ) (s : ℕ) → front (map f (ps ++ s ∷ [])) ≡ map f ps
  front_map f [] s = refl
  front_map f (p ∷ []) s = refl
  front_map f (p ∷ q ∷ qs) s = ap (λ zs. f p ∷ zs) (front_map f (q ∷ qs) s)

  module _ (s x : ℕ) (ps : List ℕ) (e : list_at i (Some x) ≡ ps ++ s ∷ []) (i' : Family ℕ) (u' : Family (Unit {0}))
      (m : Moved s None (s ∷ removed s (list_at i None)) i i') (n : Moved s None (s ∷ removed s (list_at u None)) u u')
    where
      here : IsIn s (list_at i (Some x))
      here = subst (IsIn s) (sym e) (Rattle.node_lists.proofs.Chains.in_right s ps (s ∷ []) (inl refl))

      owner : key_at i s ≡ Some x
      owner = (g.full_inputs.members (Some x) s here).1

      pub last_low : s < length i.held
      last_low = (g.full_inputs.members (Some x) s here).0

      pub last_use_low : s < length u.held
      last_use_low = let w = value_of (key_at u s) (g.reads s (some_of owner)) in g.full_uses.low s w.0 w.1

      far : IsIn s ps → ⊥
      far k = apart_sides ps (s ∷ []) s (subst Apart e (g.full_inputs.apart (Some x))) k (inl refl)

      list_x : list_at i' (Some x) ≡ ps
      list_x =
          ap (λ (h : Option ℕ → List ℕ). h (Some x)) m.lists
          ∙ key_away (s ∷ removed s (list_at i None)) None (λ j. removed s (list_at i j)) (Some x) (λ z. none_some z)
          ∙ ap (removed s) e ∙ removed_within s ps [] far ∙ Rattle.std.proofs.lemmas.List.append-nil ps

      list_y : (y : ℕ) → (x ≡ y → ⊥) → list_at i' (Some y) ≡ list_at i (Some y)
      list_y y d =
          ap (λ (h : Option ℕ → List ℕ). h (Some y)) m.lists
          ∙ key_away (s ∷ removed s (list_at i None)) None (λ j. removed s (list_at i j)) (Some y) (λ z. none_some z)
          ∙ removed_absent s (list_at i (Some y))
          (λ k. d (some_same (sym owner ∙ (g.full_inputs.members (Some y) s k).1)))

      off_s : key_at i' s ≡ None
      off_s = ap (λ (h : ℕ → Option ℕ). h s) m.keys ∙ put_here None (Some s) (key_at i) s refl

      off_t : (t : ℕ) → (t ≡ s → ⊥) → key_at i' t ≡ key_at i t
      off_t t d =
          ap (λ (h : ℕ → Option ℕ). h t) m.keys ∙ put_away None (Some s) (key_at i) t (λ z. d (sym (some_same z)))

      unused_s : key_at u' s ≡ None
      unused_s = ap (λ (h : ℕ → Option ℕ). h s) n.keys ∙ put_here None (Some s) (key_at u) s refl

      unused_t : (t : ℕ) → (t ≡ s → ⊥) → key_at u' t ≡ key_at u t
      unused_t t d =
          ap (λ (h : ℕ → Option ℕ). h t) n.keys ∙ put_away None (Some s) (key_at u) t (λ z. d (sym (some_same z)))

      more : (qs : List ℕ) (k t : ℕ) → slice_get qs k ≡ Some t → slice_get (qs ++ s ∷ []) k ≡ Some t
      more [] k t z = none_some z
      more (q ∷ qs) zero t z = z
      more (q ∷ qs) (suc k) t z = more qs k t z

      pub detached_good : Good o i' u'
      detached_good = record {
        full_ops = g.full_ops;
        full_inputs = m.full;
        full_uses = n.full;
        ops_inputs = subst (λ k. length o.held ≤ k) (sym m.count) g.ops_inputs;
        ops_uses = subst (λ k. length o.held ≤ k) (sym n.count) g.ops_uses;
        slots_uses =
            subst (λ k. k ≤ length u'.held) (ap length (sym m.held))
            (subst (λ hs. length i.held ≤ length hs) (sym n.held) g.slots_uses);
        reads =
            λ t h.
            elim (cases_eq t s) [
              | inl z ↦ none_not (ap (key_at i') z ∙ off_s) h
              | inr d ↦ subst IsSome (sym (unused_t t d)) (g.reads t (subst IsSome (off_t t d) h))
            ];
        spare =
            λ t h.
            elim (cases_eq t s) [
              | inl z ↦ none_not (ap (key_at u') z ∙ unused_s) h
              | inr d ↦ subst IsSome (sym (off_t t d)) (g.spare t (subst IsSome (unused_t t d) h))
            ];
        places =
            λ y k t z.
            ap (λ hs. slice_get hs t) m.held
            ∙ elim (cases_eq x y) [
              | inl d ↦
                  g.places x k t
                  (ap (λ qs. slice_get qs k) e
                  ∙ more ps k t
                  (ap (λ qs. slice_get qs k) (sym list_x) ∙ ap (λ w. slice_get (list_at i' (Some w)) k) d ∙ z))
                  ∙ refl
              | inr d ↦ g.places y k t (ap (λ qs. slice_get qs k) (sym (list_y y d)) ∙ z)
            ];
        owners =
            λ t y z.
            elim (cases_eq t s) [
              | inl d ↦ none_some (sym off_s ∙ ap (key_at i') (sym d) ∙ z)
              | inr d ↦ g.owners t y (sym (off_t t d) ∙ z)
            ];
        values =
            λ t w z.
            elim (cases_eq t s) [
              | inl d ↦ none_some (sym unused_s ∙ ap (key_at u') (sym d) ∙ z)
              | inr d ↦ g.values t w (sym (unused_t t d) ∙ z)
            ];
      }

      pub detached_row : (r : OpRow)
          → op_at (graph_of o i u) x ≡ Some r
          → Rewritten x (record r { inputs = front r.inputs }) (graph_of o i u) (graph_of o i' u')
      detached_row r er =
          let row = sym (ap (λ (h : ℕ → Option OpRow). h x) (op_at_is o i u)) ∙ er in
          let val = λ (t : ℕ). or_zero (key_at u t) in
          rewritten o i u g i' u' detached_good x r row (front r.inputs)
          (ap (map (λ t. or_zero (key_at u' t))) list_x
          ∙ map_on
          (λ t. or_zero (key_at u' t))
          val ps
          (λ t k. ap or_zero (unused_t t (λ z. far (subst (λ w. IsIn w ps) z k))))
          ∙ sym (front_map val ps s) ∙ ap (λ qs. front (map val qs)) (sym e) ∙ ap front (sym (row_ins o i u g x r row)))
          (λ y d.
          ap (map (λ t. or_zero (key_at u' t))) (list_y y d)
          ∙ map_on (λ t. or_zero (key_at u' t)) val (list_at i (Some y)) (λ t k.
          ap or_zero
          (unused_t t
          (λ z. d (some_same (sym owner ∙ ap (key_at i) (sym z) ∙ (g.full_inputs.members (Some y) t k).1))))))

      pub detached_spares : length i'.spares ≡ length i.spares + 1
      detached_spares =
          let l : list_at i' None ≡ s ∷ removed s (list_at i None) =
          ap (λ (h : Option ℕ → List ℕ). h None) m.lists
          ∙ key_here (s ∷ removed s (list_at i None)) None (λ j. removed s (list_at i j)) None refl in
          let d = removed_absent s (list_at i None) (λ k. none_some (sym (g.full_inputs.members None s k).1 ∙ owner)) in
          let a = ap length d in let b = ap length l in omega arith

-- a list with a last one
pub last_split : (ps : List ℕ) (s : ℕ) → last_or None ps ≡ Some s → (qs : List ℕ) × (ps ≡ qs ++ s ∷ [])
last_split [] s e = none_some e
last_split (p ∷ []) s e = ([], ap (λ z. z ∷ []) (some_same e))
last_split (p ∷ q ∷ qs) s e = let r = last_split (q ∷ qs) s e in (p ∷ r.0, ap (λ zs. p ∷ zs) r.1)

last_empty : (ps : List ℕ) → last_or None ps ≡ None → ps ≡ []
last_empty [] e = refl
last_empty (p ∷ ps) e = absurd (ends p ps e)
  where
    ends : (q : ℕ) (qs : List ℕ) → last_or (Some q) qs ≡ None → ⊥
    ends q [] f = none_some (sym f)
    ends q (z ∷ qs) f = ends z qs f

-- an op with inputs has a last one
pub last_some : (o : Family Body) (i : Family ℕ) (u : Family (Unit {0})) (g : Good o i u) (x : ℕ)
    → IsOp (graph_of o i u) x
    → 0 < length (inputs_in (op_at (graph_of o i u) x))
    → last_or None (list_at i (Some x)) ≡ None
    → ⊥
last_some o i u g x h some e =
    let at = ap (λ (f : ℕ → Option OpRow). f x) (op_at_is o i u) in
    let r = value_of (op_at (graph_of o i u) x) h in
    let none =
    row_ins o i u g x r.0 (sym at ∙ r.1)
    ∙ ap (map (λ s. or_zero (key_at u s))) (last_empty (list_at i (Some x)) e) in
    let zero_length = ap (λ z. length (inputs_in z)) r.1 ∙ ap length none in
    let big : 0 < 0 = subst (λ n. 0 < n) zero_length some in absurd (omega arith)
