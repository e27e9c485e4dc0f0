-- Values that rise differ; and the arms of a switch whose values differ rise.
use Rattle.std.proofs.Common.{◌≡◌, ℕ, ◌<◌, ◌≤◌, Bool, true, false, not, List, [], ◌∷◌, map, refl, sym, ap, ◌∙◌, subst, arith}
use Rattle.std.specs.Prelude.{◌==◌, ◌&&◌, cond}
use Rattle.std.specs.List.{AllByRecursion}
use Rattle.std.proofs.lemmas.Bool.Decides.{nat_tests}
use Rattle.pcode_model.specs.Spaces.{or}
use Rattle.pcode_laws.proofs.Rules.{neither}
use Rattle.cmeaning.specs.declared.tree.Arm.{Arm as Branch}
use Rattle.cmeaning.specs.Valid.{is_in, are_distinct}
use Rattle.blockcode.specs.declared.code.Arm.{Arm}
use Rattle.blockcode.specs.CanLay.{values_of}
use Rattle.blockcode.specs.Laid.{branch_to, branches, by_value, switch_arms, targets, values_to, without}
use Rattle.blockcode.specs.Rising.{AreRising, ArmsRise, IsBefore, IsLeast, StandByLeast}
use Rattle.blockcode.proofs.ByValue.{values_rise}
use Rattle.blockcode.proofs.Targets.{out}

abbrev AllAbove : ℕ → List ℕ → Type 0
AllAbove n values = AllByRecursion (λ y. n < y) values

-- what is above a number isn't that number
above_out : (n : ℕ) (values : List ℕ) → AllAbove n values → is_in n values ≡ false
above_out n [] above = refl
above_out n (y ∷ ys) above =
    let less : n < y = above.0 in
    let other : (n == y) ≡ false = grind (arith, nat_tests, less) in
    ap (λ b. or b (is_in n ys)) other ∙ above_out n ys above.1

-- Values that rise differ.
pub rising_distinct : (values : List ℕ) → AreRising values → are_distinct values ≡ true
rising_distinct [] rise = refl
rising_distinct (x ∷ xs) rise =
    ap (λ b. not b && are_distinct xs) (above_out x xs rise.0) ∙ rising_distinct xs rise.1

-- ---- the values that lead to a block

above_to : (n t : ℕ) (arms : List Arm) → AllAbove n (values_of arms) → AllAbove n (values_to t arms)
above_to n t [] above = tt
above_to n t (a ∷ rest) above = by (a.to == t) (above_to n t rest above.1) where
  by : (b : Bool)
      → AllAbove n (values_to t rest)
      → AllAbove n (cond b (a.value ∷ values_to t rest) (values_to t rest))
  by true next = (above.0, next)
  by false next = next

rising_to : (t : ℕ) (arms : List Arm) → AreRising (values_of arms) → AreRising (values_to t arms)
rising_to t [] rise = tt
rising_to t (a ∷ rest) rise = by (a.to == t) (rising_to t rest rise.1) where
  by : (b : Bool)
      → AreRising (values_to t rest)
      → AreRising (cond b (a.value ∷ values_to t rest) (values_to t rest))
  by true next = (above_to a.value t rest rise.0, next)
  by false next = next

within_rise : (arms : List Arm) (ts : List ℕ)
    → AreRising (values_of arms)
    → AllByRecursion (λ (b : Branch). AreRising b.cases) (map (branch_to arms) ts)
within_rise arms [] rise = tt
within_rise arms (t ∷ ts) rise = (rising_to t arms rise, within_rise arms ts rise)

-- ---- the order of the arms

above_all : (n y : ℕ) (values : List ℕ) → AllAbove n values → is_in y values ≡ true → n < y
above_all n y [] above among = absurd (cc)
above_all n y (z ∷ values) above among = by (y == z) refl among (above_all n y values above.1) where
  by : (b : Bool) → (y == z) ≡ b
      → or b (is_in y values) ≡ true
      → (is_in y values ≡ true → n < y)
      → n < y
  by true e h next =
      let less : n < z = above.0 in
      let same : y ≡ z = grind (arith, nat_tests, e) in
      omega (arith, less, same)
  by false e h next = next h

module _ (a : Arm) (rest : List Arm) where
  -- another block's values are those of the other cases
  other_to : (t : ℕ) → (a.to == t) ≡ false → values_to t (a ∷ rest) ≡ values_to t rest
  other_to t ne = ap (λ b. cond b (a.value ∷ values_to t rest) (values_to t rest)) ne

  own_to : values_to a.to (a ∷ rest) ≡ a.value ∷ values_to a.to rest
  own_to =
      let same : (a.to == a.to) ≡ true = grind (arith, nat_tests) in
      ap (λ b. cond b (a.value ∷ values_to a.to rest) (values_to a.to rest)) same

  abbrev arm : ℕ → Branch
  arm t = branch_to (a ∷ rest) t

  -- the arm of the first case comes before every other
  first_before : (t : ℕ)
      → AllAbove a.value (values_of rest)
      → (a.to == t) ≡ false
      → IsBefore (arm a.to) (arm t)
  first_before t above ne x y least other =
      let P : List ℕ → Type 0 = λ vs. AllByRecursion (λ z. x ≤ z) vs in
      let low : x ≤ a.value = (subst P own_to least.1).0 in
      let among : is_in y (values_to t rest) ≡ true = sym (ap (is_in y) (other_to t ne)) ∙ other.0 in
      let high : a.value < y = above_all a.value y (values_to t rest) (above_to a.value t rest above) among in
      omega (arith, low, high)

  firsts_before : (ts : List ℕ)
      → AllAbove a.value (values_of rest)
      → is_in a.to ts ≡ false
      → AllByRecursion (IsBefore (arm a.to)) (map arm ts)
  firsts_before [] above absent = tt
  firsts_before (t ∷ ts) above absent =
      let parts = neither (a.to == t) (is_in a.to ts) absent in
      (first_before t above parts.0, firsts_before ts above parts.1)

  -- the others come as without it
  still_before : (t : ℕ) (ts : List ℕ)
      → (a.to == t) ≡ false
      → AllByRecursion (IsBefore (branch_to rest t)) (map (branch_to rest) ts)
      → AllByRecursion (IsBefore (arm t)) (map arm (without a.to ts))
  still_before t [] ne all = tt
  still_before t (u ∷ ts) ne all = by (u == a.to) refl (still_before t ts ne all.1) where
    by : (b : Bool) → (u == a.to) ≡ b
        → AllByRecursion (IsBefore (arm t)) (map arm (without a.to ts))
        → AllByRecursion (IsBefore (arm t)) (map arm (cond b (without a.to ts) (u ∷ without a.to ts)))
    by true e next = next
    by false e next =
        let apart : (a.to == u) ≡ false = grind (arith, nat_tests, e) in (
          (λ x y least other.
              all.0 x y (subst (IsLeast x) (other_to t ne) least) (subst (IsLeast y) (other_to u apart) other)),
          next,
        )

  still_stand : (ts : List ℕ)
      → StandByLeast (map (branch_to rest) ts)
      → StandByLeast (map arm (without a.to ts))
  still_stand [] stand = tt
  still_stand (t ∷ ts) stand = by (t == a.to) refl (still_stand ts stand.1) where
    by : (b : Bool) → (t == a.to) ≡ b
        → StandByLeast (map arm (without a.to ts))
        → StandByLeast (map arm (cond b (without a.to ts) (t ∷ without a.to ts)))
    by true e next = next
    by false e next =
        let ne : (a.to == t) ≡ false = grind (arith, nat_tests, e) in
        (still_before t ts ne stand.0, next)

stand_by_least : (arms : List Arm) → AreRising (values_of arms) → StandByLeast (branches arms)
stand_by_least [] rise = tt
stand_by_least (a ∷ rest) rise = (
  firsts_before a rest (without a.to (targets rest)) rise.0 (out a.to (targets rest)),
  still_stand a rest (targets rest) (stand_by_least rest rise.1),
)

rising_arms : (arms : List Arm) → AreRising (values_of arms) → ArmsRise (branches arms)
rising_arms arms rise = record {
  within = within_rise arms (targets arms) rise;
  by_least = stand_by_least arms rise;
}

-- The arms of a switch whose values differ: the values of each rise, and the arms stand by the least value of each.
pub arms_rise : (arms : List Arm) → are_distinct (values_of arms) ≡ true → ArmsRise (switch_arms arms)
arms_rise arms each = rising_arms (by_value arms) (values_rise arms each)
