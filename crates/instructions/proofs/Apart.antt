-- Instructions that end before the next one begins.
use Rattle.std.proofs.Common.{◌≡◌, ℕ, zero, suc, ◌+◌, ◌<◌, ◌≤◌, Bool, true, false, List, [], ◌∷◌, length, refl, sym, ap, ◌∙◌, subst, inl, inr, ⊎_elim, arith, Option, Some, None, eq-eqb, ◌==◌, ◌≢◌}
use Rattle.std.specs.Prelude.{slice_get, cond}
use Rattle.std.proofs.lemmas.Bool.{cases_eq, cases_lt, cases_order, ne_eqb}
use Rattle.std.proofs.lemmas.Option.{slice_get_within}
use Rattle.pcode_model.specs.declared.listing.Instruction.{Instruction}
use Rattle.pcode_model.specs.Places.{instruction_in}
use Rattle.pcode_model.specs.Flow.{IsIn, AreApart}
use Rattle.pcode_model.proofs.Members.{member_at}

-- the instructions behind the first stay apart
pub apart_rest : (i : Instruction) (code : List Instruction) → AreApart (i ∷ code) → AreApart code
apart_rest i [] a = tt
apart_rest i (j ∷ code) a = a.1.1

-- an instruction has a byte at least
pub long : (i : Instruction) (code : List Instruction) → AreApart (i ∷ code) → 0 < i.length
long i [] a = a
long i (j ∷ code) a = a.0

-- the first instruction ends before each other one begins
pub apart_head : (i : Instruction) (code : List Instruction)
    → AreApart (i ∷ code)
    → (j : Instruction)
    → IsIn j code
    → i.address + i.length ≤ j.address
apart_head i [] a j h = absurd h
apart_head i (x ∷ code) a j (inl e) =
    let P : Instruction → Type 0 = λ y. i.address + i.length ≤ y.address in
    subst P (sym e) a.1.0
apart_head i (x ∷ code) a j (inr h) = omega (arith, a.1.0, apart_head x code a.1.1 j h)

-- of two instructions the one that begins first ends before the other begins
pub apart_in : (code : List Instruction)
    → AreApart code
    → (i j : Instruction)
    → IsIn i code
    → IsIn j code
    → i.address < j.address
    → i.address + i.length ≤ j.address
apart_in [] a i j h k lt = absurd h
apart_in (x ∷ code) a i j (inl e) (inl f) lt =
    absurd (omega (arith, ap (λ (y : Instruction). y.address) e, ap (λ (y : Instruction). y.address) f))
apart_in (x ∷ code) a i j (inl e) (inr k) lt =
    let P : Instruction → Type 0 = λ y. y.address + y.length ≤ j.address in
    subst P (sym e) (apart_head x code a j k)
apart_in (x ∷ code) a i j (inr h) (inl f) lt =
    absurd (omega (arith, apart_head x code a i h, ap (λ (y : Instruction). y.address) f))
apart_in (x ∷ code) a i j (inr h) (inr k) lt = apart_in code (apart_rest x code a) i j h k lt

-- what is found at an address is an instruction of the code, and stands there
pub found_in : (code : List Instruction) (a : ℕ) (i : Instruction)
    → instruction_in code a ≡ Some i
    → IsIn i code × (i.address ≡ a)
found_in [] a i e = absurd (cc)
found_in (x ∷ code) a i e =
    ⊎_elim
    (λ same.
    let f : Some x ≡ Some i = sym (hit same) ∙ e in
    (inl (sym (some_is f)), ap (λ (y : Instruction). y.address) (sym (some_is f)) ∙ same))
    (λ other. let r = found_in code a i (sym (miss other) ∙ e) in (inr r.0, r.1))
    (cases_eq x.address a) where
      some_is : {A : Type 0} {y z : A} → Some y ≡ Some z → y ≡ z
      some_is h = cc

      hit : x.address ≡ a → instruction_in (x ∷ code) a ≡ Some x
      hit h =
          let t : (x.address == a) ≡ true = eq-eqb x.address a h in
          ap (λ (b : Bool). cond b (Some x) (instruction_in code a)) t

      miss : x.address ≢ a → instruction_in (x ∷ code) a ≡ instruction_in code a
      miss h =
          let t : (x.address == a) ≡ false = ne_eqb x.address a h in
          ap (λ (b : Bool). cond b (Some x) (instruction_in code a)) t

-- ---- instructions by number

pub rising_at : (code : List Instruction)
    → AreApart code
    → (j k : ℕ) (i m : Instruction)
    → j < k
    → slice_get code j ≡ Some i
    → slice_get code k ≡ Some m
    → i.address < m.address
rising_at [] a j k i m lt e f = absurd (cc)
rising_at (x ∷ code) a j zero i m lt e f = absurd (omega arith)
rising_at (x ∷ code) a zero (suc k) i m lt e f =
    let same : x.address ≡ i.address = ap (λ (y : Instruction). y.address) (some_same e) in
    omega (arith, same, long x code a, apart_head x code a m (member_at code k m f)) where
      some_same : Some x ≡ Some i → x ≡ i
      some_same h = cc
rising_at (x ∷ code) a (suc j) (suc k) i m lt e f = rising_at code (apart_rest x code a) j k i m (omega arith) e f

-- an instruction of the code has a number
pub number_in : (code : List Instruction) (i : Instruction) → IsIn i code → (k : ℕ) × (slice_get code k ≡ Some i)
number_in [] i h = absurd h
number_in (x ∷ code) i (inl e) = (zero, ap Some (sym e))
number_in (x ∷ code) i (inr h) = let r = number_in code i h in (suc r.0, r.1)

-- an instruction is the one at its address
pub found_at : (code : List Instruction)
    → AreApart code
    → (k : ℕ) (i : Instruction)
    → slice_get code k ≡ Some i
    → instruction_in code i.address ≡ Some i
found_at [] a k i e = absurd (cc)
found_at (x ∷ code) a zero i e =
    let same : x ≡ i = some_same e in
    let t : (x.address == i.address) ≡ true = eq-eqb x.address i.address (ap (λ (y : Instruction). y.address) same) in
    ap (λ (b : Bool). cond b (Some x) (instruction_in code i.address)) t ∙ e where
      some_same : Some x ≡ Some i → x ≡ i
      some_same h = cc
found_at (x ∷ code) a (suc k) i e =
    let less : x.address < i.address = rising_at (x ∷ code) a zero (suc k) x i (omega arith) refl e in
    let t : (x.address == i.address) ≡ false = ne_eqb x.address i.address (λ h. omega arith) in
    ap (λ (b : Bool). cond b (Some x) (instruction_in code i.address)) t ∙ found_at code (apart_rest x code a) k i e

-- ---- the search by address

-- instructions below low stand before the address, and those from high on after it
pub record Searching (code : List Instruction) (a low high : ℕ) : Type 0 where
  pub inside : high ≤ length code
  pub ordered : low ≤ high
  pub below : (k : ℕ) (i : Instruction) → k < low → slice_get code k ≡ Some i → i.address < a
  pub above : (k : ℕ) (i : Instruction) → high ≤ k → slice_get code k ≡ Some i → a < i.address

pub search_up : (code : List Instruction) (a low high : ℕ)
    → AreApart code
    → Searching code a low high
    → (m : ℕ) (i : Instruction)
    → m < high
    → slice_get code m ≡ Some i
    → i.address < a
    → Searching code a (m + 1) high
search_up code a low high p s m i lt e less = record {
  inside = s.inside;
  ordered = omega arith;
  below = λ k j h f. ⊎_elim
      (λ same.
      let g : Some i ≡ Some j = sym e ∙ (ap (λ n. slice_get code n) (sym same) ∙ f) in
      let t : i.address ≡ j.address = ap (λ (y : Instruction). y.address) (some_same i j g) in
      omega arith)
      (λ o. ⊎_elim
      (λ b. let r : j.address < i.address = rising_at code p k m j i b f e in omega arith)
      (λ b. absurd (omega arith))
      o)
      (cases_order k m);
  above = s.above;
} where
  some_same : (y z : Instruction) → Some y ≡ Some z → y ≡ z
  some_same y z h = cc

pub search_down : (code : List Instruction) (a low high : ℕ)
    → AreApart code
    → Searching code a low high
    → (m : ℕ) (i : Instruction)
    → low ≤ m
    → m < high
    → slice_get code m ≡ Some i
    → a < i.address
    → Searching code a low m
search_down code a low high p s m i le lt e more = record {
  inside = omega (arith, s.inside);
  ordered = le;
  below = s.below;
  above = λ k j h f. ⊎_elim
      (λ same.
      let g : Some i ≡ Some j = sym e ∙ (ap (λ n. slice_get code n) (sym same) ∙ f) in
      let t : i.address ≡ j.address = ap (λ (y : Instruction). y.address) (some_same i j g) in
      omega arith)
      (λ o. ⊎_elim
      (λ b. absurd (omega arith))
      (λ b. let r : i.address < j.address = rising_at code p m k i j b e f in omega arith)
      o)
      (cases_order k m);
} where
  some_same : (y z : Instruction) → Some y ≡ Some z → y ≡ z
  some_same y z h = cc

is_none : (o : Option Instruction) → ((i : Instruction) → o ≡ Some i → ⊥) → o ≡ None
is_none None h = refl
is_none (Some i) h = absurd (h i refl)

pub search_none : (code : List Instruction) (a low high : ℕ)
    → Searching code a low high
    → high ≤ low
    → instruction_in code a ≡ None
search_none code a low high s le =
    is_none (instruction_in code a) (λ i e.
    let f = found_in code a i e in
    let n = number_in code i f.0 in
    ⊎_elim
    (λ b. let r : i.address < a = s.below n.0 i b n.1 in omega (arith, f.1))
    (λ b. let r : a < i.address = s.above n.0 i (omega arith) n.1 in omega (arith, f.1))
    (cases_lt n.0 low))

pub search_first : (code : List Instruction) (a : ℕ) → Searching code a 0 (length code)
search_first code a = record {
  inside = omega arith;
  ordered = omega arith;
  below = λ k i h e. absurd (omega arith);
  above = λ k i h e. absurd (omega (arith, slice_get_within code k i e));
}
