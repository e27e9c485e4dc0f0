-- Lines that are put together are cut apart again.
use Rattle.std.proofs.Common.{◌≡◌, ◌∙◌, ◌<◌, ◌≤◌, ℕ, Bool, true, false, List, [], ◌∷◌, ◌++◌, ap, sym, refl, arith, append_assoc, append-nil}
use Rattle.std.specs.Prelude.{◌==◌, ◌&&◌, if◌then◌else◌}
use Rattle.std.specs.List.{AllByRecursion}
use Rattle.std.proofs.lemmas.Bool.Decides.{nat_tests}
use Rattle.listing_lines.specs.Text.{Line, lines_of, parts_of, starts_with_lf, with_front}
use Rattle.listing_print.specs.Printed.{ended, spaced}
use Rattle.pcodetext.proofs.Passing.{all_map}

-- neither LF nor CR
abbrev pub IsLine : Line → Type 0
IsLine line = AllByRecursion (λ b. 32 ≤ b) line

-- no space either
abbrev pub IsPart : Line → Type 0
IsPart part = AllByRecursion (λ b. 32 < b) part

-- no colon either, which is 58
abbrev pub IsToken : Line → Type 0
IsToken token = AllByRecursion (λ b. (32 < b) × ((b == 58) ≡ false)) token

abbrev Without : ℕ → Line → Type 0
Without x line = AllByRecursion (λ b. (b == x) ≡ false) line

pub all_append : {A : Type 0} (P : A → Type 0) → (xs ys : List A)
    → AllByRecursion P xs
    → AllByRecursion P ys
    → AllByRecursion P (xs ++ ys)
all_append P [] ys h g = g
all_append P (x ∷ xs) ys h g = (h.0, all_append P xs ys h.1 g)

pub token_is_part : (token : Line) → IsToken token → IsPart token
token_is_part token h = all_map (λ b. (32 < b) × ((b == 58) ≡ false)) (λ b. 32 < b) (λ b p. p.0) token h

-- ---- parts

same_is : (x : ℕ) → (x == x) ≡ true
same_is x = grind (arith, nat_tests)

no_space : (part : Line) → IsPart part → Without 32 part
no_space part h = all_map (λ b. 32 < b) (λ b. (b == 32) ≡ false) other part h
  where
    other : (b : ℕ) → 32 < b → (b == 32) ≡ false
    other b above = grind (arith, nat_tests)

no_colon : (token : Line) → IsToken token → Without 58 token
no_colon token h = all_map (λ b. (32 < b) × ((b == 58) ≡ false)) (λ b. (b == 58) ≡ false) (λ b p. p.1) token h

cut : (x : ℕ) (part rest : Line) → Without x part → parts_of x (part ++ x ∷ rest) ≡ part ∷ parts_of x rest
cut x [] rest h = ap (λ (t : Bool). if t then [] ∷ parts_of x rest else with_front x (parts_of x rest)) (same_is x)
cut x (b ∷ part) rest h =
    ap (λ (t : Bool). if t then [] ∷ parts_of x (part ++ x ∷ rest) else with_front b (parts_of x (part ++ x ∷ rest)))
    h.0
    ∙ ap (with_front b) (cut x part rest h.1)

alone : (x : ℕ) (part : Line) → Without x part → parts_of x part ≡ part ∷ []
alone x [] h = refl
alone x (b ∷ part) h =
    ap (λ (t : Bool). if t then [] ∷ parts_of x part else with_front b (parts_of x part)) h.0
    ∙ ap (with_front b) (alone x part h.1)

pub one_token : (token : Line) → IsToken token → parts_of 58 token ≡ token ∷ []
one_token token h = alone 58 token (no_colon token h)

pub token_then : (token rest : Line) → IsToken token → parts_of 58 (token ++ 58 ∷ rest) ≡ token ∷ parts_of 58 rest
token_then token rest h = cut 58 token rest (no_colon token h)

pub parts_are : (parts : List Line) (first : Line)
    → IsPart first
    → AllByRecursion IsPart parts
    → parts_of 32 (first ++ spaced parts) ≡ first ∷ parts
parts_are [] first h g = ap (parts_of 32) (append-nil first) ∙ alone 32 first (no_space first h)
parts_are (part ∷ parts) first h g =
    cut 32 first (part ++ spaced parts) (no_space first h)
    ∙ ap (λ (r : List Line). first ∷ r) (parts_are parts part g.0 g.1)

pub spaced_append : (xs ys : List Line) → spaced (xs ++ ys) ≡ spaced xs ++ spaced ys
spaced_append [] ys = refl
spaced_append (x ∷ xs) ys =
    ap (λ (r : Line). 32 ∷ x ++ r) (spaced_append xs ys)
    ∙ ap (λ (r : Line). 32 ∷ r) (sym (append_assoc x (spaced xs) (spaced ys)))

part_is_line : (part : Line) → IsPart part → IsLine part
part_is_line part h = all_map (λ b. 32 < b) (λ b. 32 ≤ b) (λ b p. omega arith) part h

pub spaced_is_line : (parts : List Line) (first : Line)
    → IsPart first
    → AllByRecursion IsPart parts
    → IsLine (first ++ spaced parts)
spaced_is_line parts first h g = all_append (λ b. 32 ≤ b) first (spaced parts) (part_is_line first h) (more parts g)
  where
    more : (ps : List Line) → AllByRecursion IsPart ps → IsLine (spaced ps)
    more [] g = tt
    more (p ∷ ps) g = (omega arith, all_append (λ b. 32 ≤ b) p (spaced ps) (part_is_line p g.0) (more ps g.1))

-- ---- lines

not_lf : (b : ℕ) → 32 ≤ b → (b == 10) ≡ false
not_lf b above = grind (arith, nat_tests)

not_cr : (b : ℕ) → 32 ≤ b → (b == 13) ≡ false
not_cr b above = grind (arith, nat_tests)

neither : (a b c : Bool) (x y z : List Line) → a ≡ false → b ≡ false → (if a then x else (if b && c then y else z)) ≡ z
neither a b c x y z p q =
    ap (λ (t : Bool). if t then x else (if b && c then y else z)) p ∙ ap (λ (t : Bool). if t && c then y else z) q

line_then : (line rest : Line) → IsLine line → lines_of (line ++ 10 ∷ rest) ≡ line ∷ lines_of rest
line_then [] rest h = refl
line_then (b ∷ line) rest h =
    neither (b == 10) (b == 13) (starts_with_lf (line ++ 10 ∷ rest)) _ _ _ (not_lf b h.0) (not_cr b h.0)
    ∙ ap (with_front b) (line_then line rest h.1)

pub lines_are : (lines : List Line) → AllByRecursion IsLine lines → lines_of (ended lines) ≡ lines
lines_are [] h = refl
lines_are (line ∷ lines) h = line_then line (ended lines) h.0 ∙ ap (λ (r : List Line). line ∷ r) (lines_are lines h.1)

pub ended_append : (xs ys : List Line) → ended (xs ++ ys) ≡ ended xs ++ ended ys
ended_append [] ys = refl
ended_append (x ∷ xs) ys =
    ap (λ (r : Line). x ++ 10 ∷ r) (ended_append xs ys) ∙ sym (append_assoc x (10 ∷ ended xs) (ended ys))
