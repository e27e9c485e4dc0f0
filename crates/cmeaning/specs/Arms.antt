-- The rules of arms, arm by arm.
use Rattle.std.specs.Prelude.{◌≡◌, ℕ, ◌&&◌, not, Bool, true, false, List, [], ◌∷◌, ◌++◌, map}
use Rattle.std.specs.Ordering.{nat_cmp}
use Rattle.std.specs.BTreeSet.{BTreeSet, contains}
use Rattle.pcode_model.specs.Spaces.{or}
use Rattle.cmeaning.specs.declared.tree.Arm.{Arm}
use Rattle.cmeaning.specs.declared.tree.CFunction.{CFunction}
use Rattle.cmeaning.specs.Valid.{is_in, are_words, has_case, all_hold, rule_of}

-- whether a value is a case of one of the arms
abbrev pub is_case : ℕ → List Arm → Bool
is_case x [] = false
is_case x (a ∷ rest) = or (is_in x a.cases) (is_case x rest)

-- the values are distinct, and none of them is a case of the arms
abbrev pub differ_from : List ℕ → List Arm → Bool
differ_from [] arms = true
differ_from (x ∷ xs) arms = not (or (is_in x xs) (is_case x arms)) && differ_from xs arms

abbrev pub arms_differ : List Arm → Bool
arms_differ [] = true
arms_differ (a ∷ rest) = differ_from a.cases rest && arms_differ rest

-- each case is a word of w bytes
abbrev pub arms_fit : ℕ → List Arm → Bool
arms_fit w [] = true
arms_fit w (a ∷ rest) = are_words w a.cases && arms_fit w rest

-- each arm has a case value, and its statements obey their rules
abbrev pub arms_right : CFunction → ℕ → List Arm → ℕ → Bool
arms_right f labels [] room = true
arms_right f labels (a ∷ rest) room = has_case a.cases
    && (all_hold false (map (rule_of f labels) a.body) false room && arms_right f labels rest room)

-- ---- by a set

-- No definition of validity, but how the code tests it: are_new [] (cases_of arms) is arms_differ arms, by the lemma
-- new_by_arms in proofs/Sets.antt, which is are_distinct (cases_of arms) of Valid.antt, by distinct_by_arms in
-- proofs/Distinct.antt.

-- a set has exactly the values of a list
abbrev pub Holds : BTreeSet ℕ → List ℕ → Type 0
Holds set known = (x : ℕ) → contains nat_cmp set x ≡ is_in x known

-- the values are distinct, and none of them is known
abbrev pub are_new : List ℕ → List ℕ → Bool
are_new known [] = true
are_new known (x ∷ xs) = not (is_in x known) && are_new (known ++ x ∷ []) xs
