-- That a head has what a body mentions, and that no label has two lines, part by part.
use Rattle.std.proofs.Common.{◌≡◌, ℕ, suc, ◌<◌, ◌≤◌, false, List, [], ◌∷◌, ◌++◌, refl, ap₂, arith}
use Rattle.std.specs.Prelude.{◌==◌}
use Rattle.std.proofs.lemmas.Bool.Decides.{nat_tests}
use Rattle.pcode_model.specs.Spaces.{or}
use Rattle.cmeaning.specs.Mentions.{Mention, Variable, Callee, LabelLine}
use Rattle.naming.specs.declared.head.Head.{Head}
use Rattle.naming.specs.Listed.{is_listed, with_one}
use Rattle.naming.specs.Covered.{Covers, HasOnce}
use Rattle.naming_laws.proofs.Found.{All, all_map, all_one}

pub covers_both : (h : Head) (xs ys : List Mention) → Covers h xs → Covers h ys → Covers h (xs ++ ys)
covers_both h [] ys c d = d
covers_both h (x ∷ xs) ys c d = (c.0, covers_both h xs ys c.1 d)

-- ---- the numbers of the lines of labels, where they rise along the text

abbrev pub HasNoLine : List Mention → Type 0
HasNoLine [] = Unit {0}
HasNoLine (Variable v ∷ xs) = HasNoLine xs
HasNoLine (Callee address ∷ xs) = HasNoLine xs
HasNoLine (LabelLine n ∷ xs) = ⊥

-- from one number on
abbrev pub Rises : ℕ → List Mention → Type 0
Rises from [] = Unit {0}
Rises from (Variable v ∷ xs) = Rises from xs
Rises from (Callee address ∷ xs) = Rises from xs
Rises from (LabelLine n ∷ xs) = (from ≤ n) × Rises (suc n) xs

pub no_line_both : (xs ys : List Mention) → HasNoLine xs → HasNoLine ys → HasNoLine (xs ++ ys)
no_line_both [] ys p q = q
no_line_both (Variable v ∷ xs) ys p q = no_line_both xs ys p q
no_line_both (Callee a ∷ xs) ys p q = no_line_both xs ys p q
no_line_both (LabelLine n ∷ xs) ys p q = absurd p

pub rises_behind : (from : ℕ) (xs ys : List Mention) → HasNoLine xs → Rises from ys → Rises from (xs ++ ys)
rises_behind from [] ys p q = q
rises_behind from (Variable v ∷ xs) ys p q = rises_behind from xs ys p q
rises_behind from (Callee a ∷ xs) ys p q = rises_behind from xs ys p q
rises_behind from (LabelLine n ∷ xs) ys p q = absurd p

pub rises_sooner : (from to : ℕ) (xs : List Mention) → from ≤ to → Rises to xs → Rises from xs
rises_sooner from to [] le h = tt
rises_sooner from to (Variable v ∷ xs) le h = rises_sooner from to xs le h
rises_sooner from to (Callee a ∷ xs) le h = rises_sooner from to xs le h
rises_sooner from to (LabelLine n ∷ xs) le h =
    let above = h.0 in
    let e : from ≤ n = omega (arith, le, above) in
    (e, h.1)

not_below : (n : ℕ) (known : List ℕ) → All (λ k. k < n) known → is_listed n known ≡ false
not_below n [] h = refl
not_below n (k ∷ known) h =
    let low = h.0 in
    let other : (k == n) ≡ false = grind (arith, nat_tests, low) in
    ap₂ or other (not_below n known h.1)

once_above : (known : List ℕ) (from : ℕ) (xs : List Mention)
    → All (λ k. k < from) known
    → Rises from xs
    → HasOnce known xs
once_above known from [] below h = tt
once_above known from (Variable v ∷ xs) below h = once_above known from xs below h
once_above known from (Callee a ∷ xs) below h = once_above known from xs below h
once_above known from (LabelLine n ∷ xs) below h =
    let above = h.0 in
    let lower : All (λ k. k < n) known =
    all_map (λ k. k < from) (λ k. k < n) known (λ k low. omega (arith, low, above)) below in
    let lowest : All (λ k. k < suc n) known =
    all_map (λ k. k < n) (λ k. k < suc n) known (λ k low. omega (arith, low)) lower in
    let own : n < suc n = omega arith in (
      not_below n known lower,
      once_above (with_one known n) (suc n) xs (all_one (λ k. k < suc n) known n lowest own) h.1,
    )

-- no label has two lines
pub once_rising : (from : ℕ) (xs : List Mention) → Rises from xs → HasOnce [] xs
once_rising from xs h = once_above [] from xs tt h
