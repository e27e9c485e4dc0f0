-- Edits of the slots of one op, with the ops as they are.
use Rattle.std.proofs.Common.{◌≡◌, ℕ, zero, suc, ◌+◌, ◌<◌, ◌≤◌, List, [], ◌∷◌, ◌++◌, length, map, set, ◌⊎◌, inl, inr, Option, Some, None, IsSome, refl, sym, ap, ◌∙◌, subst, slice_get, arith}
use Rattle.std.proofs.Math.Path.{fun_ext}
use Rattle.std.proofs.lemmas.Bool.{cases_eq}
use Rattle.std.proofs.lemmas.List.{length-set}
use Rattle.opgraph.specs.declared.code.Body.{Body}
use Rattle.node_lists.specs.Chains.{IsIn, removed, head_or, put_at}
use Rattle.node_lists.proofs.Chains.{put_here, put_away, key_here, key_away, removed_absent, head_none}
use Rattle.node_lists.proofs.Fields.{get_set, get_other}
use Rattle.node_lists.specs.Families.{Family, list_at, key_at, Moved}
use Rattle.opgraph.specs.Graph.{OpRow, op_at, IsOp, IsValue, Rewritten, has_width}
use Rattle.opgraph.specs.Parts.{or_zero, row_slot, inputs_of, row_of, graph_of, has_value, HasValue, Good}
use Rattle.heap_nodes.proofs.Places.{some_same, none_some, some_of, get_in}
use Rattle.opgraph.proofs.Tables.{value_of, op_at_is}
use Rattle.opgraph.proofs.Whole.{in_at, row_is, row_back, row_ins, whole}

pub none_not : {P : Type 0} {k : Option ℕ} → k ≡ None → IsSome k → P
none_not e h = let r = value_of _ h in none_some (sym e ∙ r.1)

pub map_on : (f h : ℕ → ℕ) (ps : List ℕ) → ((t : ℕ) → IsIn t ps → f t ≡ h t) → map f ps ≡ map h ps
map_on f h [] same = refl
map_on f h (p ∷ ps) same = λ j. same p (inl refl) j ∷ map_on f h ps (λ t m. same t (inr m)) j

module _ (o : Family Body) (i : Family ℕ) (u : Family (Unit {0})) (g : Good o i u) where
  pub op_key : (x : ℕ) → IsOp (graph_of o i u) x → (b : ℕ) × (key_at o x ≡ Some b)
  op_key x h =
      let r = value_of (row_of o i u x) (subst (λ (f : ℕ → Option OpRow). IsSome (f x)) (op_at_is o i u) h) in
      (r.0.block, row_back o i u g x r.0 r.1)

  pub op_low : (x : ℕ) → IsOp (graph_of o i u) x → x < length o.held
  op_low x h = let k = op_key x h in g.full_ops.low x k.0 k.1

  pub op_list : (x : ℕ) → IsOp (graph_of o i u) x → x < length i.lists
  op_list x h = let a = op_low x h in let b = g.ops_inputs in omega arith

  pub value_is : (v : ℕ) → IsValue (graph_of o i u) v → HasValue o v
  value_is v h =
      by_row (key_at o v) (slice_get o.held v) (subst (λ (f : ℕ → Option OpRow). has_width (f v)) (op_at_is o i u) h)
    where
      by_row : (k : Option ℕ) (body : Option Body) → has_width (row_slot k body (inputs_of i u v)) → has_value k body
      by_row None body f = absurd f
      by_row (Some b) None f = absurd f
      by_row (Some b) (Some body) f = f

  pub value_list : (v : ℕ) → IsValue (graph_of o i u) v → v < length u.lists
  value_list v h =
      let k = key_of (key_at o v) refl (value_is v h) in
      let a = g.full_ops.low v k.0 k.1 in let b = g.ops_uses in omega arith
    where
      key_of : (k : Option ℕ) → key_at o v ≡ k → has_value k (slice_get o.held v) → (b : ℕ) × (key_at o v ≡ Some b)
      key_of None e f = absurd f
      key_of (Some b) e f = (b, e)

  -- a slot that no op has
  pub record Free (s : ℕ) : Type 0 where
    pub low : s < length i.held
    pub key : key_at i s ≡ None
    pub use_key : key_at u s ≡ None

  pub free_of : (s : ℕ) → IsIn s (list_at i None) → Free s
  free_of s m =
      let h = g.full_inputs.members None s m in
      record { low = h.0; key = h.1; use_key = by_key (key_at u s) refl (g.spare s) h.1 }
    where
      by_key : (k : Option ℕ)
          → key_at u s ≡ k
          → (IsSome (key_at u s) → IsSome (key_at i s))
          → key_at i s ≡ None
          → key_at u s ≡ None
      by_key None e f z = e
      by_key (Some v) e f z = none_not z (f (some_of e))

  pub free_first : (s : ℕ) → head_or (list_at i None) None ≡ Some s → Free s
  free_first s e = free_of s (head_none (list_at i None) s e)

  pub free_use_low : (s : ℕ) → Free s → s < length u.held
  free_use_low s f = let a = f.low in let b = g.slots_uses in omega arith

  module _ (i' : Family ℕ) (u' : Family (Unit {0})) (g' : Good o i' u') (x : ℕ) (r : OpRow)
      (er : row_of o i u x ≡ Some r) where
    rows_put : (ins : List ℕ)
        → inputs_of i' u' x ≡ ins
        → ((y : ℕ) → (x ≡ y → ⊥) → inputs_of i' u' y ≡ inputs_of i u y)
        → row_of o i' u' ≡ put_at (Some x) (Some (record r { inputs = ins })) (row_of o i u)
    rows_put ins e others =
        fun_ext (λ y.
        elim (cases_eq x y) [
          | inl f ↦
              ap (row_of o i' u') (sym f)
              ∙ here
              ∙ sym (put_here (Some (record r { inputs = ins })) (Some x) (row_of o i u) y (ap Some f))
          | inr n ↦
              ap (row_slot (key_at o y) (slice_get o.held y)) (others y n)
              ∙ sym (put_away (Some (record r { inputs = ins })) (Some x) (row_of o i u) y (λ f. n (some_same f)))
        ])
      where
        here : row_of o i' u' x ≡ Some (record r { inputs = ins })
        here =
            let k = row_is o i u g x r.block (row_back o i u g x r er) in
            let k' = row_is o i' u' g' x r.block (row_back o i u g x r er) in
            let same : r
            ≡ record { block = r.block; code = k.0.code; inputs = inputs_of i u x; width = k.0.width } =
            some_same (sym er ∙ k.2) in
            let body : k'.0 ≡ k.0 = some_same (sym k'.1 ∙ k.1) in
            k'.2
            ∙ (λ j.
            Some
            (record {
              block = r.block;
              code = (ap (λ (z : Body). z.code) body ∙ sym (ap (λ (z : OpRow). z.code) same)) j;
              inputs = e j;
              width = (ap (λ (z : Body). z.width) body ∙ sym (ap (λ (z : OpRow). z.width) same)) j;
            }))

    pub rewritten : (ins : List ℕ)
        → inputs_of i' u' x ≡ ins
        → ((y : ℕ) → (x ≡ y → ⊥) → inputs_of i' u' y ≡ inputs_of i u y)
        → Rewritten x (record r { inputs = ins }) (graph_of o i u) (graph_of o i' u')
    rewritten ins e others = record {
      ops =
          op_at_is o i' u'
          ∙ rows_put ins e others
          ∙ ap (put_at (Some x) (Some (record r { inputs = ins }))) (sym (op_at_is o i u));
      blocks = refl;
      count = refl;
      whole = whole o i' u' g';
    }

  -- a spare slot becomes the last of an op
  module _ (s x v : ℕ) (f : Free s) (isop : IsOp (graph_of o i u) x) (isvalue : IsValue (graph_of o i u) v)
      (i1 i' : Family ℕ) (u' : Family (Unit {0})) (place : ℕ)
      (e1 : i1 ≡ record i { held = set i.held s place })
      (m : Moved s (Some x) (removed s (list_at i1 (Some x)) ++ s ∷ []) i1 i')
      (n : Moved s (Some v) (s ∷ removed s (list_at u (Some v))) u u') (ep : place ≡ length (list_at i (Some x)))
    where
      keys : key_at i' ≡ put_at (Some s) (Some x) (key_at i)
      keys = m.keys ∙ ap (λ (z : Family ℕ). put_at (Some s) (Some x) (key_at z)) e1

      absent : (y : ℕ) → IsIn s (list_at i (Some y)) → ⊥
      absent y k = none_not f.key (some_of (g.full_inputs.members (Some y) s k).1)

      list_x : list_at i' (Some x) ≡ list_at i (Some x) ++ s ∷ []
      list_x =
          ap (λ (h : Option ℕ → List ℕ). h (Some x)) m.lists
          ∙ key_here (removed s (list_at i1 (Some x)) ++ s ∷ []) (Some x) (λ j. removed s (list_at i1 j)) (Some x) refl
          ∙ ap (λ (z : Family ℕ). removed s (list_at z (Some x)) ++ s ∷ []) e1
          ∙ ap (λ ps. ps ++ s ∷ []) (removed_absent s (list_at i (Some x)) (absent x))

      list_y : (y : ℕ) → (x ≡ y → ⊥) → list_at i' (Some y) ≡ list_at i (Some y)
      list_y y k =
          ap (λ (h : Option ℕ → List ℕ). h (Some y)) m.lists
          ∙ key_away (removed s (list_at i1 (Some x)) ++ s ∷ []) (Some x) (λ j. removed s (list_at i1 j)) (Some y)
          (λ e. k (some_same e))
          ∙ ap (λ (z : Family ℕ). removed s (list_at z (Some y))) e1 ∙ removed_absent s (list_at i (Some y)) (absent y)

      key_s : key_at i' s ≡ Some x
      key_s = ap (λ (h : ℕ → Option ℕ). h s) keys ∙ put_here (Some x) (Some s) (key_at i) s refl

      key_t : (t : ℕ) → (t ≡ s → ⊥) → key_at i' t ≡ key_at i t
      key_t t k =
          ap (λ (h : ℕ → Option ℕ). h t) keys ∙ put_away (Some x) (Some s) (key_at i) t (λ e. k (sym (some_same e)))

      use_s : key_at u' s ≡ Some v
      use_s = ap (λ (h : ℕ → Option ℕ). h s) n.keys ∙ put_here (Some v) (Some s) (key_at u) s refl

      use_t : (t : ℕ) → (t ≡ s → ⊥) → key_at u' t ≡ key_at u t
      use_t t k =
          ap (λ (h : ℕ → Option ℕ). h t) n.keys ∙ put_away (Some v) (Some s) (key_at u) t (λ e. k (sym (some_same e)))

      held_is : i'.held ≡ set i.held s place
      held_is = m.held ∙ ap (λ (z : Family ℕ). z.held) e1

      held_t : (t k : ℕ) → (t ≡ s → ⊥) → slice_get i.held t ≡ Some k → slice_get i'.held t ≡ Some k
      held_t t k d e = ap (λ hs. slice_get hs t) held_is ∙ get_other i.held s t place d ∙ e

      place_in : (ps : List ℕ) (k t : ℕ)
          → slice_get (ps ++ s ∷ []) k ≡ Some t
          → (slice_get ps k ≡ Some t) ⊎ ((t ≡ s) × (k ≡ length ps))
      place_in [] zero t e = inr (sym (some_same e), refl)
      place_in [] (suc k) t e = none_some e
      place_in (p ∷ ps) zero t e = inl e
      place_in (p ∷ ps) (suc k) t e = elim (place_in ps k t e) [ inl h ↦ inl h | inr h ↦ inr (h.0, ap suc h.1) ]

      apart_t : (y k t : ℕ) → slice_get (list_at i (Some y)) k ≡ Some t → t ≡ s → ⊥
      apart_t y k t e d = absent y (subst (λ z. IsIn z (list_at i (Some y))) d (in_at (list_at i (Some y)) k t e))

      places : (y k t : ℕ) → slice_get (list_at i' (Some y)) k ≡ Some t → slice_get i'.held t ≡ Some k
      places y k t e =
          elim (cases_eq x y) [
            | inl d ↦
                in_x
                (place_in (list_at i (Some x)) k t
                (ap (λ ps. slice_get ps k) (sym list_x) ∙ ap (λ z. slice_get (list_at i' (Some z)) k) d ∙ e))
            | inr d ↦
                let h = ap (λ ps. slice_get ps k) (sym (list_y y d)) ∙ e in
                held_t t k (apart_t y k t h) (g.places y k t h)
          ]
        where
          in_x : (slice_get (list_at i (Some x)) k ≡ Some t) ⊎ ((t ≡ s) × (k ≡ length (list_at i (Some x))))
              → slice_get i'.held t ≡ Some k
          in_x (inl h) = held_t t k (apart_t x k t h) (g.places x k t h)
          in_x (inr h) =
              let old = get_in i.held s f.low in
              (λ j. slice_get (held_is j) (h.0 j)) ∙ get_set i.held s old.0 place old.1 ∙ ap Some (ep ∙ sym h.1)

      lengths : length i'.lists ≡ length i.lists
      lengths = m.count ∙ ap (λ (z : Family ℕ). length z.lists) e1

      held_length : length i'.held ≡ length i.held
      held_length = ap length held_is ∙ length-set i.held s place

      pub attached_good : Good o i' u'
      attached_good = record {
        full_ops = g.full_ops;
        full_inputs = m.full;
        full_uses = n.full;
        ops_inputs = subst (λ k. length o.held ≤ k) (sym lengths) g.ops_inputs;
        ops_uses = subst (λ k. length o.held ≤ k) (sym n.count) g.ops_uses;
        slots_uses =
            subst (λ k. k ≤ length u'.held) (sym held_length)
            (subst (λ hs. length i.held ≤ length hs) (sym n.held) g.slots_uses);
        reads =
            λ t h.
            elim (cases_eq t s) [
              | inl e ↦ some_of (ap (key_at u') e ∙ use_s)
              | inr d ↦ subst IsSome (sym (use_t t d)) (g.reads t (subst IsSome (key_t t d) h))
            ];
        spare =
            λ t h.
            elim (cases_eq t s) [
              | inl e ↦ some_of (ap (key_at i') e ∙ key_s)
              | inr d ↦ subst IsSome (sym (key_t t d)) (g.spare t (subst IsSome (use_t t d) h))
            ];
        places = places;
        owners =
            λ t y e.
            elim (cases_eq t s) [
              | inl d ↦
                  subst (λ z. IsSome (key_at o z)) (some_same (sym key_s ∙ sym (ap (key_at i') d) ∙ e))
                  (some_of (op_key x isop).1)
              | inr d ↦ g.owners t y (sym (key_t t d) ∙ e)
            ];
        values =
            λ t w e.
            elim (cases_eq t s) [
              | inl d ↦ subst (HasValue o) (some_same (sym use_s ∙ sym (ap (key_at u') d) ∙ e)) (value_is v isvalue)
              | inr d ↦ g.values t w (sym (use_t t d) ∙ e)
            ];
      }

      same_on : (y : ℕ) → map (λ t. or_zero (key_at u' t)) (list_at i (Some y)) ≡ inputs_of i u y
      same_on y =
          map_on
          (λ t. or_zero (key_at u' t))
          (λ t. or_zero (key_at u t))
          (list_at i (Some y))
          (λ t k. ap or_zero (use_t t (λ e. absent y (subst (λ z. IsIn z (list_at i (Some y))) e k))))

      pub attached_row : (r : OpRow)
          → op_at (graph_of o i u) x ≡ Some r
          → Rewritten x (record r { inputs = r.inputs ++ v ∷ [] }) (graph_of o i u) (graph_of o i' u')
      attached_row r er =
          let row = sym (ap (λ (h : ℕ → Option OpRow). h x) (op_at_is o i u)) ∙ er in
          rewritten i' u' attached_good x r row (r.inputs ++ v ∷ [])
          (ap (map (λ t. or_zero (key_at u' t))) list_x
          ∙ Rattle.std.proofs.lemmas.List.map-append (λ t. or_zero (key_at u' t)) (list_at i (Some x)) (s ∷ [])
          ∙ (λ j. (same_on x ∙ sym (row_ins o i u g x r row)) j ++ or_zero (use_s j) ∷ []))
          (λ y d. ap (map (λ t. or_zero (key_at u' t))) (list_y y d) ∙ same_on y)

      pub attached_spares : length i'.spares + 1 ≡ length i.spares
      attached_spares =
          let e : list_at i' None ≡ removed s (list_at i None) =
          ap (λ (h : Option ℕ → List ℕ). h None) m.lists
          ∙ key_away (removed s (list_at i1 (Some x)) ++ s ∷ []) (Some x)
          (λ j. removed s (list_at i1 j))
          None
          (λ e. none_some (sym e))
          ∙ ap (λ (z : Family ℕ). removed s (list_at z None)) e1 in
          let h = subst (λ k. IsIn s (list_at i k)) f.key (g.full_inputs.everyone s f.low) in
          let l = Rattle.node_lists.proofs.Families.length_less s (list_at i None) h in
          let k = ap length e in
          omega arith
