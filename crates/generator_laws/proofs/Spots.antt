-- The places of a generated listing, and the ways on from them: each leads to a place of the listing.
use Rattle.std.proofs.Common.{◌⊎◌, inl, inr, ◌≡◌, ◌∙◌, ◌<◌, ◌≤◌, ◌+◌, ◌%◌, ℕ, zero, suc, Bool, true, false, List, [], ◌∷◌, length, ap, refl, sym, subst, arith}
use Rattle.std.specs.Prelude.{Option, if◌then◌else◌, slice_get}
use Rattle.std.specs.List.{AllByRecursion}
use Rattle.pcode_model.specs.declared.flow.FlowWhy.{FlowWhy}
use Rattle.pcode_model.specs.declared.flow.FlowWhy.TheVariants.{FallsOff, NoTarget}
use Rattle.pcode_model.specs.declared.listing.Instruction.{Instruction}
use Rattle.pcode_model.specs.declared.listing.Listing.{Listing}
use Rattle.pcode_model.specs.declared.listing.Op.{Op}
use Rattle.pcode_model.specs.declared.listing.Place.{Place}
use Rattle.pcode_model.specs.Flow.{Fails, Leads, Way, is_branch, stands, standing_ways, stands_by, turn_in, way_to}
use Rattle.pcode_model.specs.Places.{Standing, op_in, place, standing, standing_in, standing_of}
use Rattle.generator.specs.declared.draws.Drawn.{Drawn}
use Rattle.generator.specs.declared.draws.Shape.{Shape}
use Rattle.generator.specs.declared.draws.Shape.TheVariants.{Constant, Sum, Xor, Product, Branch, Store, Load, Byte}
use Rattle.generator.specs.Generated.{address, listing_of, ops_by, ops_of, placed, returning}
use Rattle.generator_laws.proofs.Stands.{drawn_stands, last_stands}

-- the first place of an instruction
pub record IsFirst (p : Place) : Type 0 where
  pub number : ℕ
  pub few : number ≤ 2000
  pub at : p ≡ place (address number) 0

module _ (draws : ℕ → Drawn) where
  abbrev pub l : Listing
  l = listing_of draws

  -- an op of a drawn instruction
  pub record IsDrawn (p : Place) : Type 0 where
    pub number : ℕ
    pub few : number < 2000
    pub index : ℕ
    pub some : index < length (ops_of (draws number))
    pub at : p ≡ place (address number) index

  abbrev pub IsSpot : Place → Type 0
  IsSpot p = IsDrawn p ⊎ (p ≡ place (address 2000) 0)

  -- ---- what stands at a place

  pub drawn_standing : (i n : ℕ) → i < 2000
      → standing l (place (address i) n) ≡ standing_in (placed i (ops_of (draws i))) (ops_of (draws i)) n
  drawn_standing i n h = ap (λ (o : Option Instruction). standing_of o n) (drawn_stands draws i h)

  pub last_standing : standing l (place (address 2000) 0) ≡ standing_in (placed 2000 returning) returning 0
  last_standing = ap (λ (o : Option Instruction). standing_of o 0) (last_stands draws)

  some_stands : (i : Instruction) (ops : List Op) (n : ℕ) → n < length ops → stands_by (standing_in i ops n) ≡ true
  some_stands i [] n h = absurd (omega arith)
  some_stands i (op ∷ ops) n h = by (op ∷ ops) n h
    where
      by : (xs : List Op) (n : ℕ) → n < length xs → stands_by (op_in i (slice_get xs n)) ≡ true
      by [] n h = absurd (omega arith)
      by (x ∷ xs) zero h = refl
      by (x ∷ xs) (suc n) h = by xs n (omega arith)

  spot_stands : (p : Place) → IsSpot p → stands l p ≡ true
  spot_stands p (inl h) =
      ap (stands l) h.at
      ∙ ap stands_by (drawn_standing h.number h.index h.few)
      ∙ some_stands (placed h.number (ops_of (draws h.number))) (ops_of (draws h.number)) h.index h.some
  spot_stands p (inr e) = ap (stands l) e ∙ ap stands_by last_standing

  -- ---- first places

  shape_some : (s : Shape) (a b w : ℕ) → 0 < length (ops_by s a b w)
  shape_some Constant a b w = omega arith
  shape_some Sum a b w = omega arith
  shape_some Xor a b w = omega arith
  shape_some Product a b w = omega arith
  shape_some Branch a b w = omega arith
  shape_some Store a b w = omega arith
  shape_some Load a b w = omega arith
  shape_some Byte a b w = omega arith

  pub first_spot : (i : ℕ) → i ≤ 2000 → IsSpot (place (address i) 0)
  first_spot i h = by (near i h)
    where
      near : (i : ℕ) → i ≤ 2000 → (i < 2000) ⊎ (i ≡ 2000)
      near i h = grind arith

      by : (i < 2000) ⊎ (i ≡ 2000) → IsSpot (place (address i) 0)
      by (inl less) =
          let d : Drawn = draws i in
          inl (record { number = i; few = less; index = 0; some = shape_some d.shape d.first d.second d.word; at = refl })
      by (inr same) = inr (ap (λ (n : ℕ). place (address n) 0) same)

  -- ---- ways

  -- It leads to a place of the listing, and where a branch leads on, to the first one of an instruction.
  pub record Leading (branches : Bool) (w : Way) : Type 0 where
    pub to : Place
    pub spot : IsSpot to
    pub is : w ≡ Leads to
    pub first : branches ≡ true → IsFirst to

  leads : (why : FlowWhy) (q : Place) → IsSpot q → way_to l why q ≡ Leads q
  leads why q h = ap (λ (t : Bool). if t then Leads q else Fails why) (spot_stands q h)

  -- to the first place of an instruction
  to_first : (branches : Bool) (why : FlowWhy) (q : Place) → IsFirst q → Leading branches (way_to l why q)
  to_first branches why q h =
      let spot : IsSpot q = subst IsSpot (sym h.at) (first_spot h.number h.few) in
      record { to = q; spot = spot; is = leads why q spot; first = λ e. h }

  -- to the next instruction
  to_next : (branches : Bool) (i : ℕ) → i < 2000 → Leading branches (way_to l FallsOff (place (address i + 4) 0))
  to_next branches i h = to_first branches FallsOff (place (address i + 4) 0) (record {
    number = suc i;
    few = omega arith;
    at = ap (λ (a : ℕ). place a 0) (omega arith);
  })

  abbrev AllLead : Place → Standing → Type 0
  AllLead p s = AllByRecursion (Leading (is_branch (turn_in l s))) (standing_ways l [] p s)

  -- of an instruction with one op, after which the run goes on
  one_on : (i n : ℕ) → n < 1 → n ≡ 0
  one_on i n h = omega arith

  abbrev InShape : Shape → ℕ → ℕ → ℕ → ℕ → ℕ → Type 0
  InShape s a b w i n =
      AllLead (place (address i) n) (standing_in (placed i (ops_by s a b w)) (ops_by s a b w) n)

  shape_leads : (s : Shape) (a b w i n : ℕ) → i < 2000 → n < length (ops_by s a b w)
      → (ops_by s a b w ≡ ops_of (draws i))
      → InShape s a b w i n
  shape_leads Constant a b w i zero h k e = (to_next false i h, tt)
  shape_leads Constant a b w i (suc n) h k e = absurd (omega arith)
  shape_leads Sum a b w i zero h k e = (to_next false i h, tt)
  shape_leads Sum a b w i (suc n) h k e = absurd (omega arith)
  shape_leads Xor a b w i zero h k e = (to_next false i h, tt)
  shape_leads Xor a b w i (suc n) h k e = absurd (omega arith)
  shape_leads Product a b w i zero h k e = (to_next false i h, tt)
  shape_leads Product a b w i (suc n) h k e = absurd (omega arith)
  shape_leads Branch a b w i zero h k e =
      let q : Place = place (address i) 1 in
      let spot : IsSpot q = inl (record {
        number = i;
        few = h;
        index = 1;
        some = subst (λ (ops : List Op). 1 < length ops) e (omega arith);
        at = refl;
      }) in
      (record { to = q; spot = spot; is = leads FallsOff q spot; first = λ b. absurd (never b) }, tt)
    where
      never : false ≡ true → ⊥
      never b = cc
  shape_leads Branch a b w i (suc zero) h k e = (
    to_first true NoTarget (place (address (w % 2001)) 0)
        (record { number = w % 2001; few = omega arith; at = refl }),
    (to_next true i h, tt),
  )
  shape_leads Branch a b w i (suc (suc n)) h k e = absurd (omega arith)
  shape_leads Store a b w i zero h k e = (to_next false i h, tt)
  shape_leads Store a b w i (suc n) h k e = absurd (omega arith)
  shape_leads Load a b w i zero h k e = (to_next false i h, tt)
  shape_leads Load a b w i (suc n) h k e = absurd (omega arith)
  shape_leads Byte a b w i zero h k e = (to_next false i h, tt)
  shape_leads Byte a b w i (suc n) h k e = absurd (omega arith)

  -- Each way on from a place of the listing leads to one.
  pub spot_leads : (p : Place) → IsSpot p → AllLead p (standing l p)
  spot_leads p (inl h) =
      let d : Drawn = draws h.number in
      subst (λ (q : Place). AllLead q (standing l q)) (sym h.at)
      (subst (AllLead (place (address h.number) h.index)) (sym (drawn_standing h.number h.index h.few))
      (shape_leads d.shape d.first d.second d.word h.number h.index h.few h.some refl))
  spot_leads p (inr e) =
      subst (λ (q : Place). AllLead q (standing l q)) (sym e)
      (subst (AllLead (place (address 2000) 0)) (sym last_standing) tt)
