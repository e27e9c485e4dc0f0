-- What the edges of the code mean.
use Rattle.std.proofs.Common.{◌≡◌, ℕ, zero, suc, ◌+◌, ◌<◌, ◌≤◌, Bool, true, false, List, [], ◌∷◌, length, refl, sym, ap, ◌∙◌, subst, arith, Option, Some, None, nat_lt}
use Rattle.std.specs.Prelude.{cond, slice_get}
use Rattle.std.proofs.lemmas.Bool.{le-ltb, lt-ltb, false≢true}
use Rattle.std.proofs.lemmas.Option.{slice_get_within, get_or_from_slice_get}
use Rattle.pcode_model.specs.declared.listing.Op.{Op}
use Rattle.pcode_model.specs.declared.listing.Instruction.{Instruction}
use Rattle.pcode_model.specs.declared.listing.Place.{Place}
use Rattle.pcode_model.specs.declared.listing.Listing.{Listing}
use Rattle.pcode_model.specs.declared.flow.FlowWhy.{FlowWhy}
use Rattle.pcode_model.specs.declared.flow.FlowWhy.TheVariants.{FallsOff}
use Rattle.pcode_model.specs.declared.flow.Turn.{Turn}
use Rattle.pcode_model.specs.declared.flow.Turn.TheVariants.{GoesOn}
use Rattle.pcode_model.specs.Places.{place, instruction_at, Standing, Passes, Does, standing, standing_in, standing_of, op_in, next_place, next_instruction}
use Rattle.pcode_model.specs.Flow.{IsIn, Way, Leads, Fails, stands, stands_by, way_to, turn_ways, standing_ways, ways, turn_in, turn_at, turn_of, next_in}
use Rattle.flow.specs.declared.edges.Edge.{Edge}
use Rattle.flow.specs.Slots.{at, ArePlaces}
use Rattle.flow.specs.Edges.{Means}
use Rattle.flow.proofs.Order.{in_of_slice}
use Rattle.flow.proofs.Listed.{stood_at}

pub means_to : (l : Listing) (ps : List Place) (why : FlowWhy) (p : Place) (s : ℕ)
    → ArePlaces l ps
    → slice_get ps s ≡ Some p
    → (s < length ps) × (way_to l why p ≡ Leads (at ps s))
means_to l ps why p s a e =
    let t : stands l p ≡ true = (a.each p).0 (in_of_slice ps s p e) in (
      slice_get_within ps s p e,
      ap (λ (b : Bool). cond b (Leads p) (Fails why)) t
          ∙ ap Leads (sym (get_or_from_slice_get ps s p (place 0 0) e)),
    )

pub means_faulty : (l : Listing) (ps : List Place) (why : FlowWhy) (p : Place)
    → ArePlaces l ps
    → (IsIn p ps → ⊥)
    → way_to l why p ≡ Fails why
means_faulty l ps why p a none = by (stands l p) refl where
  by : (b : Bool) → stands l p ≡ b → way_to l why p ≡ Fails why
  by true e = absurd (none ((a.each p).1 e))
  by false e = ap (λ (b : Bool). cond b (Leads p) (Fails why)) e

-- an equal way
pub means_same : (ps : List Place) (e : Edge) (v w : Way) → v ≡ w → Means ps e v → Means ps e w
means_same ps e v w same m = let P : Way → Type 0 = λ x. Means ps e x in subst P same m

-- ---- what stands at a place of an instruction

pub next_inside : (i : Instruction) (n : ℕ) → n + 1 < length i.ops → next_place i n ≡ place i.address (n + 1)
next_inside i n lt =
    let e : nat_lt (suc n) (length i.ops) ≡ true = lt-ltb (suc n) (length i.ops) (omega arith) in
    let f : suc n ≡ n + 1 = omega arith in
    ap (λ (b : Bool). cond b (place i.address (suc n)) (next_instruction i)) e ∙ ap (λ k. place i.address k) f

pub next_outside : (i : Instruction) (n : ℕ) → length i.ops ≤ n + 1 → next_place i n ≡ next_instruction i
next_outside i n le =
    let e : nat_lt (suc n) (length i.ops) ≡ false = le-ltb (suc n) (length i.ops) (omega arith) in
    ap (λ (b : Bool). cond b (place i.address (suc n)) (next_instruction i)) e

-- an instruction without ops at its index 0, or an op of an instruction
pub data Here (l : Listing) (p : Place) (i : Instruction) : Type 0 where
  Passing : standing l p ≡ Passes i → length i.ops ≡ 0 → Here l p i
  Doing : (op : Op) → standing l p ≡ Does i op → slice_get i.ops p.index ≡ Some op → Here l p i

pub here : (l : Listing) (p : Place) (i : Instruction)
    → instruction_at l p.address ≡ Some i
    → stands l p ≡ true
    → Here l p i
here l p i found h =
    let P : Standing → Type 0 = λ s. stands_by s ≡ true in
    by i.ops refl p.index refl (subst P (stood_at l p i found) h) where
      op_by : (ops : List Op) (n : ℕ)
          → i.ops ≡ ops
          → p.index ≡ n
          → standing_in i ops n ≡ op_in i (slice_get ops n)
          → (o : Option Op)
          → slice_get ops n ≡ o
          → stands_by (op_in i o) ≡ true
          → Here l p i
      op_by ops n e f g None h k = absurd (cc)
      op_by ops n e f g (Some op) h k =
          Doing op (stood_at l p i found
          ∙ (ap (λ x. standing_in i x p.index) e
          ∙ (ap (λ m. standing_in i ops m) f ∙ (g ∙ ap (λ o. op_in i o) h))))
          (ap (λ x. slice_get x p.index) e ∙ (ap (λ m. slice_get ops m) f ∙ h))

      by : (ops : List Op) → i.ops ≡ ops → (n : ℕ) → p.index ≡ n → stands_by (standing_in i ops n) ≡ true → Here l p i
      by [] e zero f k =
          Passing (stood_at l p i found ∙ (ap (λ x. standing_in i x p.index) e ∙ ap (λ m. standing_in i [] m) f))
          (ap length e)
      by [] e (suc n) f k = absurd (cc)
      by (op ∷ ops) e n f k = op_by (op ∷ ops) n e f refl (slice_get (op ∷ ops) n) refl k

-- the ways on from a place of an instruction by its turn
pub ways_here : (l : Listing) (p : Place) (i : Instruction)
    → instruction_at l p.address ≡ Some i
    → stands l p ≡ true
    → ways l [] p ≡ turn_ways l [] p i (turn_at l p)
ways_here l p i found h = by (here l p i found h) where
  by : Here l p i → ways l [] p ≡ turn_ways l [] p i (turn_at l p)
  by (Passing e none) =
      let t : turn_at l p ≡ GoesOn = ap (λ s. turn_in l s) e in
      ap (λ s. standing_ways l [] p s) e
      ∙ (ap (λ q. way_to l FallsOff q ∷ []) (sym (next_outside i p.index (omega arith)))
      ∙ ap (λ t'. turn_ways l [] p i t') (sym t))
  by (Doing op e at) =
      let t : turn_at l p ≡ turn_of l op.code op.inputs = ap (λ s. turn_in l s) e in
      ap (λ s. standing_ways l [] p s) e ∙ ap (λ t'. turn_ways l [] p i t') (sym t)

pub next_here : (l : Listing) (p : Place) (i : Instruction)
    → instruction_at l p.address ≡ Some i
    → stands l p ≡ true
    → next_in (standing l p) p.index ≡ Some (next_place i p.index)
next_here l p i found h = by (here l p i found h) where
  by : Here l p i → next_in (standing l p) p.index ≡ Some (next_place i p.index)
  by (Passing e none) = ap (λ s. next_in s p.index) e ∙ ap Some (sym (next_outside i p.index (omega arith)))
  by (Doing op e at) = ap (λ s. next_in s p.index) e

pub ways_by : (l : Listing) (p : Place) (i : Instruction) (t : Turn)
    → instruction_at l p.address ≡ Some i
    → stands l p ≡ true
    → turn_at l p ≡ t
    → ways l [] p ≡ turn_ways l [] p i t
ways_by l p i t found h e = ways_here l p i found h ∙ ap (λ u. turn_ways l [] p i u) e

pub none_stands : (l : Listing) (p : Place) → instruction_at l p.address ≡ None → stands l p ≡ true → ⊥
none_stands l p e h =
    let f : stands l p ≡ false = ap (λ o. stands_by (standing_of o p.index)) e in
    false≢true (sym f ∙ h)
