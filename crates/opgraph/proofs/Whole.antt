-- The lists of a graph are as its map says.
use Rattle.std.proofs.Common.{◌≡◌, ℕ, zero, suc, List, [], ◌∷◌, map, inl, inr, Option, Some, None, refl, sym, ap, ◌∙◌, subst, slice_get}
use Rattle.opgraph.specs.declared.code.Body.{Body}
use Rattle.opgraph.specs.declared.ids.Slot.{Slot}
use Rattle.node_lists.specs.Chains.{IsIn, Apart}
use Rattle.node_lists.specs.Families.{Family, list_at, key_at}
use Rattle.opgraph.specs.Graph.{OpRow, op_at, block_at, uses_at, Reads, IsAmong, IsOnce, IsWhole, inputs_in, in_block, has_width}
use Rattle.opgraph.specs.Parts.{or_zero, row_slot, inputs_of, row_of, uses_of, slot_of, graph_of, has_value, HasValue, Good}
use Rattle.heap_nodes.proofs.Places.{some_same, none_some, some_of, get_in, get_map}
use Rattle.opgraph.proofs.Tables.{value_of, of_map, op_at_is, uses_at_is}

-- places in lists

pub place_of : (s : ℕ) (ps : List ℕ) → IsIn s ps → (k : ℕ) × (slice_get ps k ≡ Some s)
place_of s [] m = absurd m
place_of s (p ∷ ps) (inl e) = (0, ap Some (sym e))
place_of s (p ∷ ps) (inr m) = let r = place_of s ps m in (suc r.0, r.1)

pub in_at : (ps : List ℕ) (k s : ℕ) → slice_get ps k ≡ Some s → IsIn s ps
in_at [] k s e = none_some e
in_at (p ∷ ps) zero s e = inl (sym (some_same e))
in_at (p ∷ ps) (suc k) s e = inr (in_at ps k s e)

among_map : (f : ℕ → Slot) (ps : List ℕ) (t : Slot) → IsAmong t (map f ps) → (s : ℕ) × IsIn s ps × (t ≡ f s)
among_map f [] t m = absurd m
among_map f (p ∷ ps) t (inl e) = (p, inl refl, e)
among_map f (p ∷ ps) t (inr m) = let r = among_map f ps t m in (r.0, inr r.1, r.2)

map_among : (f : ℕ → Slot) (ps : List ℕ) (s : ℕ) → IsIn s ps → IsAmong (f s) (map f ps)
map_among f [] s m = absurd m
map_among f (p ∷ ps) s (inl e) = inl (ap f e)
map_among f (p ∷ ps) s (inr m) = inr (map_among f ps s m)

once_map : (f : ℕ → Slot) (ps : List ℕ)
    → Apart ps
    → ((a b : ℕ) → IsIn a ps → IsIn b ps → f a ≡ f b → a ≡ b)
    → IsOnce (map f ps)
once_map f [] d one = tt
once_map f (p ∷ ps) d one = (
  (λ m.
      let r = among_map f ps (f p) m in d.0 (subst (λ v. IsIn v ps) (sym (one p r.0 (inl refl) (inr r.1) r.2)) r.1)),
  once_map f ps d.1 (λ a b m k e. one a b (inr m) (inr k) e),
)

module _ (o : Family Body) (i : Family ℕ) (u : Family (Unit {0})) (g : Good o i u) where
  -- what an op in a block is
  pub row_is : (x b : ℕ)
      → key_at o x ≡ Some b
      → (body : Body)
      × (slice_get o.held x ≡ Some body)
      × (row_of o i u x ≡ Some (record { block = b; code = body.code; inputs = inputs_of i u x; width = body.width }))
  row_is x b e =
      let r = get_in o.held x (g.full_ops.low x b e) in (r.0, r.1, (λ j. row_slot (e j) (r.1 j) (inputs_of i u x)))

  pub row_back : (x : ℕ) (r : OpRow) → row_of o i u x ≡ Some r → key_at o x ≡ Some r.block
  row_back x r e = by_key (key_at o x) (slice_get o.held x) e
    where
      by_key : (k : Option ℕ) (body : Option Body) → row_slot k body (inputs_of i u x) ≡ Some r → k ≡ Some r.block
      by_key None body f = none_some f
      by_key (Some b) None f = none_some f
      by_key (Some b) (Some body) f = ap (λ (z : OpRow). Some z.block) (some_same f)

  pub row_ins : (x : ℕ) (r : OpRow) → row_of o i u x ≡ Some r → r.inputs ≡ inputs_of i u x
  row_ins x r e = let k = row_is x r.block (row_back x r e) in ap (λ (z : OpRow). z.inputs) (some_same (sym e ∙ k.2))

  -- what a slot in use is
  pub record Used (s : ℕ) : Type 0 where
    pub op : ℕ
    pub place : ℕ
    pub value : ℕ
    pub key : key_at i s ≡ Some op
    pub use_key : key_at u s ≡ Some value
    pub held : slice_get i.held s ≡ Some place
    pub at : slice_get (list_at i (Some op)) place ≡ Some s

  pub used_by : (s x : ℕ) → key_at i s ≡ Some x → Used s
  used_by s x e =
      let v = value_of (key_at u s) (g.reads s (some_of e)) in
      let m = subst (λ k. IsIn s (list_at i k)) e (g.full_inputs.everyone s (g.full_inputs.low s x e)) in
      let p = place_of s (list_at i (Some x)) m in
      record { op = x; place = p.0; value = v.0; key = e; use_key = v.1; held = g.places x p.0 s p.1; at = p.1 }

  pub used : (s v : ℕ) → key_at u s ≡ Some v → Used s
  used s v e = let x = value_of (key_at i s) (g.spare s (some_of e)) in used_by s x.0 x.1

  slot_is : (s : ℕ) (w : Used s) → slot_of i s ≡ record { op = record { 0 = w.op }; slot = w.place }
  slot_is s w = λ j. record { op = record { 0 = or_zero (w.key j) }; slot = or_zero (w.held j) }

  reads_is : (t : Slot) (v : ℕ)
      → Reads (graph_of o i u) t v ≡ (slice_get (inputs_in (row_of o i u t.op.0)) t.slot ≡ Some v)
  reads_is t v = ap (λ (f : ℕ → Option OpRow). slice_get (inputs_in (f t.op.0)) t.slot ≡ Some v) (op_at_is o i u)

  use_reads : (s v : ℕ)
      → key_at u s ≡ Some v
      → slice_get (inputs_in (row_of o i u (slot_of i s).op.0)) (slot_of i s).slot ≡ Some v
  use_reads s v e =
      let w = used s v e in let b = value_of (key_at o w.op) (g.owners s w.op w.key) in let r = row_is w.op b.0 b.1 in
      subst (λ (t : Slot). slice_get (inputs_in (row_of o i u t.op.0)) t.slot ≡ Some v) (sym (slot_is s w))
      (ap (λ z. slice_get (inputs_in z) w.place) r.2
      ∙ get_map (λ z. or_zero (key_at u z)) (list_at i (Some w.op)) w.place s w.at
      ∙ ap (λ k. Some (or_zero k)) e)

  -- the slot that stands at a place of an op
  reads_use : (t : Slot) (v : ℕ)
      → slice_get (inputs_in (row_of o i u t.op.0)) t.slot ≡ Some v
      → (s : ℕ) × (key_at u s ≡ Some v) × (t ≡ slot_of i s)
  reads_use t v e = by_row (row_of o i u t.op.0) refl e
    where
      by_row : (z : Option OpRow)
          → row_of o i u t.op.0 ≡ z
          → slice_get (inputs_in z) t.slot ≡ Some v
          → (s : ℕ) × (key_at u s ≡ Some v) × (t ≡ slot_of i s)
      by_row None is f = none_some f
      by_row (Some r) is f =
          let m =
          of_map (λ z. or_zero (key_at u z)) (list_at i (Some t.op.0)) t.slot v
          (ap (λ ps. slice_get ps t.slot) (sym (row_ins t.op.0 r is)) ∙ f) in
          let s = m.0 in
          let k = (g.full_inputs.members (Some t.op.0) s (in_at (list_at i (Some t.op.0)) t.slot s m.1)).1 in
          let w = value_of (key_at u s) (g.reads s (some_of k)) in (
            s,
            w.1 ∙ ap Some (sym (ap or_zero w.1) ∙ m.2),
            sym (λ j. record { op = record { 0 = or_zero (k j) }; slot = or_zero (g.places t.op.0 t.slot s m.1 j) }),
          )

  low_use : (s v : ℕ) → key_at u s ≡ Some v → IsIn s (list_at u (Some v))
  low_use s v e = subst (λ k. IsIn s (list_at u k)) e (g.full_uses.everyone s (g.full_uses.low s v e))

  slots_one : (v a b : ℕ)
      → IsIn a (list_at u (Some v))
      → IsIn b (list_at u (Some v))
      → slot_of i a ≡ slot_of i b
      → a ≡ b
  slots_one v a b m k e =
      let x = used a v (g.full_uses.members (Some v) a m).1 in let y = used b v (g.full_uses.members (Some v) b k).1 in
      let f = sym (slot_is a x) ∙ e ∙ slot_is b y in
      let op = ap (λ (t : Slot). t.op.0) f in let place = ap (λ (t : Slot). t.slot) f in
      some_same (sym x.at ∙ (λ j. slice_get (list_at i (Some (op j))) (place j)) ∙ y.at)

  value_row : (v : ℕ) → HasValue o v → has_width (row_of o i u v)
  value_row v h = by_key (key_at o v) (slice_get o.held v) h
    where
      by_key : (k : Option ℕ) (body : Option Body) → has_value k body → has_width (row_slot k body (inputs_of i u v))
      by_key None body f = absurd f
      by_key (Some b) None f = absurd f
      by_key (Some b) (Some body) f = f

  pub whole : IsWhole (graph_of o i u)
  whole = record {
    uses =
        λ v t.
        let fwd : IsAmong t (uses_at (graph_of o i u) v) → Reads (graph_of o i u) t v =
        λ m.
        let r =
        among_map (slot_of i) (list_at u (Some v)) t
        (subst (λ (f : ℕ → List Slot). IsAmong t (f v)) (uses_at_is o i u) m) in
        subst (λ (z : Slot). Reads (graph_of o i u) z v) (sym r.2)
        (subst
        (λ (f : ℕ → Option OpRow). slice_get (inputs_in (f (slot_of i r.0).op.0)) (slot_of i r.0).slot ≡ Some v)
        (sym (op_at_is o i u)) (use_reads r.0 v (g.full_uses.members (Some v) r.0 r.1).1)) in
        let back : Reads (graph_of o i u) t v → IsAmong t (uses_at (graph_of o i u) v) =
        λ h.
        let r =
        reads_use t v
        (subst (λ (f : ℕ → Option OpRow). slice_get (inputs_in (f t.op.0)) t.slot ≡ Some v) (op_at_is o i u) h) in
        subst (λ (f : ℕ → List Slot). IsAmong t (f v)) (sym (uses_at_is o i u))
        (subst (λ (z : Slot). IsAmong z (uses_of i u v)) (sym r.2)
        (map_among (slot_of i) (list_at u (Some v)) r.0 (low_use r.0 v r.1))) in (fwd, back);
    uses_once =
        λ v.
        subst (λ (f : ℕ → List Slot). IsOnce (f v)) (sym (uses_at_is o i u))
        (once_map (slot_of i) (list_at u (Some v)) (g.full_uses.apart (Some v)) (slots_one v));
    ops =
        λ b x.
        let fwd : IsIn x (block_at (graph_of o i u) b) → in_block b (op_at (graph_of o i u) x) =
        λ m.
        let r = row_is x b (g.full_ops.members (Some b) x m).1 in
        subst (λ (f : ℕ → Option OpRow). in_block b (f x)) (sym (op_at_is o i u))
        (subst (in_block b) (sym r.2) refl) in
        let back : in_block b (op_at (graph_of o i u) x) → IsIn x (block_at (graph_of o i u) b) =
        λ h.
        in_back b x (row_of o i u x) refl
        (subst (λ (f : ℕ → Option OpRow). in_block b (f x)) (op_at_is o i u) h) in
        (fwd, back);
    ops_once = λ b. g.full_ops.apart (Some b);
    values =
        λ t v h.
        let r =
        reads_use t v
        (subst (λ (f : ℕ → Option OpRow). slice_get (inputs_in (f t.op.0)) t.slot ≡ Some v) (op_at_is o i u) h) in
        subst (λ (f : ℕ → Option OpRow). has_width (f v)) (sym (op_at_is o i u)) (value_row v (g.values r.0 v r.1));
  }
    where
      in_back : (b x : ℕ) (z : Option OpRow) → row_of o i u x ≡ z → in_block b z → IsIn x (list_at o (Some b))
      in_back b x None e h = absurd h
      in_back b x (Some r) e h =
          let k = row_back x r e ∙ ap Some h in
          subst (λ j. IsIn x (list_at o j)) k (g.full_ops.everyone x (g.full_ops.low x b k))
