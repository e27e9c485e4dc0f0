-- The turns of loops over arms.
use Rattle.std.proofs.Common.{◌≡◌, ℕ, ◌+◌, ◌<◌, Bool, List, ◌++◌, length, get_or, drop, map, sym, ap, ◌∙◌, append_assoc, arith}
use Rattle.cmeaning.specs.declared.tree.Arm.{Arm}
use Rattle.cmeaning.specs.Flat.{arm_cases, arm_span, arm_spans, cases_at}
use Rattle.flatcode.specs.declared.step.Case.{Case}
use Rattle.pcode_model.proofs.Members.{rest_at}
use Rattle.flatcode.specs.Steps.{arm_of, arms_of, case_of}

pub sum_turn : (returns : ℕ → Bool) (arms : List Arm) (i : ℕ) (x : Arm) (sum span n whole : ℕ)
    → i < length arms
    → x ≡ get_or arms i x
    → span ≡ arm_span (arm_of returns x) → n ≡ sum + span
    → sum + arm_spans (arms_of returns (drop i arms)) ≡ whole
    → n + arm_spans (arms_of returns (drop (i + 1) arms)) ≡ whole
sum_turn returns arms i x sum span n whole within is spans total before =
    let e : arm_spans (arms_of returns (drop i arms))
    ≡ arm_span (arm_of returns x) + arm_spans (arms_of returns (drop (i + 1) arms)) =
    ap (λ xs. arm_spans (arms_of returns xs)) (rest_at arms i x within is) in
    omega (arith, e)

pub cases_turn : (returns : ℕ → Bool) (arms : List Arm) (i : ℕ) (x : Arm) (cases new : List Case) (values : List ℕ)
    (p span q : ℕ) (whole : List (ℕ × ℕ))
    → i < length arms
    → x ≡ get_or arms i x
    → values ≡ x.cases
    → map case_of new ≡ map case_of cases ++ cases_at p values
    → span ≡ arm_span (arm_of returns x)
    → q ≡ p + span
    → map case_of cases ++ arm_cases (arms_of returns (drop i arms)) p ≡ whole
    → map case_of new ++ arm_cases (arms_of returns (drop (i + 1) arms)) q ≡ whole
cases_turn returns arms i x cases new values p span q whole within is values_are added spans next before =
    let rest = arms_of returns (drop (i + 1) arms) in
    ap (λ z. z ++ arm_cases rest q) (added ∙ ap (λ vs. map case_of cases ++ cases_at p vs) values_are)
    ∙ append_assoc (map case_of cases) (cases_at p x.cases) (arm_cases rest q)
    ∙ ap (λ n. map case_of cases ++ (cases_at p x.cases ++ arm_cases rest n)) (next ∙ ap (λ n. p + n) spans)
    ∙ sym (ap (λ xs. map case_of cases ++ arm_cases (arms_of returns xs) p) (rest_at arms i x within is))
    ∙ before
