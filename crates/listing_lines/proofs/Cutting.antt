-- How a text is cut into lines.
use Rattle.std.proofs.Common.{◌≡◌, ◌∙◌, ◌<◌, ◌≤◌, ◌+◌, ◌-◌, ap₂, ℕ, Bool, true, false, List, [], ◌∷◌, ◌++◌, length, take, drop, refl, sym, ap, arith, suc}
use Rattle.std.specs.Prelude.{if◌then◌else◌, ◌==◌, ◌&&◌}
use Rattle.std.proofs.lemmas.List.{take_all, length-drop}
use Rattle.std.proofs.lemmas.Bool.Decides.{nat_tests}
use Rattle.listing_lines.specs.Text.{Line, left, lines_of, parts_of, place_of, with_front, without_cr}

pub without_cr_last : (front : Line) (x : ℕ) → without_cr (front ++ x ∷ []) ≡ (if x == 13 then front else (front ++ x ∷ []))
without_cr_last [] x = refl
without_cr_last (b ∷ []) x = front (x == 13)
  where
    front : (t : Bool) → ◌≡◌ {A = Line} (b ∷ (if t then [] else (x ∷ []))) (if t then (b ∷ []) else (b ∷ x ∷ []))
    front true = refl
    front false = refl
without_cr_last (b ∷ c ∷ rest) x = ap (λ l. b ∷ l) (without_cr_last (c ∷ rest) x) ∙ front (x == 13)
  where
    front : (t : Bool) → ◌≡◌ {A = Line} (b ∷ (if t then (c ∷ rest) else (c ∷ rest ++ x ∷ []))) (if t then (b ∷ c ∷ rest) else (b ∷ c ∷ rest ++ x ∷ []))
    front true = refl
    front false = refl

-- a byte before a line that is empty, or isn't
head_empty : (b : ℕ) (cr : Bool) (lines rest : List Line) → lines ≡ [] ∷ rest → (if cr && true then lines else with_front b lines) ≡ (if cr then [] else (b ∷ [])) ∷ rest
head_empty b true lines rest e = e
head_empty b false lines rest e = ap (with_front b) e

head_more : (b : ℕ) (cr : Bool) (lines rest : List Line) (line : Line) → lines ≡ line ∷ rest → (if cr && false then lines else with_front b lines) ≡ (b ∷ line) ∷ rest
head_more b true lines rest line e = ap (with_front b) e
head_more b false lines rest line e = ap (with_front b) e

-- a line that LF ends
pub ended_line : (bytes : List ℕ) → place_of 10 bytes < length bytes → lines_of bytes ≡ without_cr (take (place_of 10 bytes) bytes) ∷ lines_of (drop (suc (place_of 10 bytes)) bytes)
ended_line [] h = absurd (omega arith)
ended_line (b ∷ []) h = by_lf (b == 10) h
  where
    by_lf : (t : Bool) → (if t then 0 else suc 0) < length (b ∷ [])
        → (if t then [] ∷ [] else (if b == 13 && false then [] else (b ∷ []) ∷ [])) ≡ without_cr (take (if t then 0 else suc 0) (b ∷ [])) ∷ lines_of (drop (suc (if t then 0 else suc 0)) (b ∷ []))
    by_lf true h = refl
    by_lf false h = absurd (omega arith)
ended_line (b ∷ c ∷ rest) h = by_lf (b == 10) h (ended_line (c ∷ rest))
  where
    by_c : (t : Bool) → lines_of (c ∷ rest) ≡ without_cr (take (if t then 0 else suc (place_of 10 rest)) (c ∷ rest)) ∷ lines_of (drop (suc (if t then 0 else suc (place_of 10 rest))) (c ∷ rest))
        → (if b == 13 && t then lines_of (c ∷ rest) else with_front b (lines_of (c ∷ rest)))
        ≡ without_cr (b ∷ take (if t then 0 else suc (place_of 10 rest)) (c ∷ rest)) ∷ lines_of (drop (suc (if t then 0 else suc (place_of 10 rest))) (c ∷ rest))
    by_c true e = head_empty b (b == 13) _ _ e
    by_c false e = head_more b (b == 13) _ _ _ e

    by_lf : (t : Bool) → (if t then 0 else suc (place_of 10 (c ∷ rest))) < length (b ∷ c ∷ rest) → (place_of 10 (c ∷ rest) < length (c ∷ rest) → lines_of (c ∷ rest) ≡ without_cr (take (place_of 10 (c ∷ rest)) (c ∷ rest)) ∷ lines_of (drop (suc (place_of 10 (c ∷ rest))) (c ∷ rest)))
        → (if t then [] ∷ lines_of (c ∷ rest) else (if b == 13 && c == 10 then lines_of (c ∷ rest) else with_front b (lines_of (c ∷ rest))))
        ≡ without_cr (take (if t then 0 else suc (place_of 10 (c ∷ rest))) (b ∷ c ∷ rest)) ∷ lines_of (drop (suc (if t then 0 else suc (place_of 10 (c ∷ rest)))) (b ∷ c ∷ rest))
    by_lf true h next = refl
    by_lf false h next = by_c (c == 10) (next (omega arith))

-- the rest that no LF ends
pub last_line : (b : ℕ) (bytes : List ℕ) → place_of 10 (b ∷ bytes) ≡ length (b ∷ bytes) → lines_of (b ∷ bytes) ≡ (b ∷ bytes) ∷ []
last_line b [] h = by_lf (b == 10) h
  where
    by_lf : (t : Bool) → (if t then 0 else suc 0) ≡ length (b ∷ []) → (if t then [] ∷ [] else (if b == 13 && false then [] else (b ∷ []) ∷ [])) ≡ (b ∷ []) ∷ []
    by_lf true h = absurd (omega arith)
    by_lf false h = none (b == 13)
      where
        none : (u : Bool) → ◌≡◌ {A = List Line} (if u && false then [] else (b ∷ []) ∷ []) ((b ∷ []) ∷ [])
        none true = refl
        none false = refl
last_line b (c ∷ rest) h = by_lf (b == 10) h (last_line c rest)
  where
    by_c : (t : Bool) → (if t then 0 else suc (place_of 10 rest)) ≡ length (c ∷ rest) → lines_of (c ∷ rest) ≡ (c ∷ rest) ∷ []
        → (if b == 13 && t then lines_of (c ∷ rest) else with_front b (lines_of (c ∷ rest))) ≡ (b ∷ c ∷ rest) ∷ []
    by_c true h e = absurd (omega arith)
    by_c false h e = head_more b (b == 13) _ _ _ e

    by_lf : (t : Bool) → (if t then 0 else suc (place_of 10 (c ∷ rest))) ≡ length (b ∷ c ∷ rest) → (place_of 10 (c ∷ rest) ≡ length (c ∷ rest) → lines_of (c ∷ rest) ≡ (c ∷ rest) ∷ [])
        → (if t then [] ∷ lines_of (c ∷ rest) else (if b == 13 && c == 10 then lines_of (c ∷ rest) else with_front b (lines_of (c ∷ rest)))) ≡ (b ∷ c ∷ rest) ∷ []
    by_lf true h next = absurd (omega arith)
    by_lf false h next = let shorter : place_of 10 (c ∷ rest) ≡ length (c ∷ rest) = omega arith in by_c (c == 10) shorter (next shorter)

pub cut_last : (bytes : List ℕ) → 0 < length bytes → place_of 10 bytes ≡ length bytes → lines_of bytes ≡ bytes ∷ []
cut_last [] some h = absurd (omega arith)
cut_last (b ∷ bytes) some h = last_line b bytes h

-- a line and its CR
pub with_cr : (line front : Line) (last : ℕ) → line ≡ front ++ last ∷ [] → last ≡ 13 → front ≡ without_cr line
with_cr line front last e is = sym (ap without_cr (e ∙ ap (λ x. front ++ x ∷ []) is) ∙ without_cr_last front 13)

not_cr : (last : ℕ) → (last ≡ 13 → ⊥) → (last == 13) ≡ false
not_cr last is = grind (arith, nat_tests)

pub with_no_cr : (line front : Line) (last : ℕ) → line ≡ front ++ last ∷ [] → (last ≡ 13 → ⊥) → line ≡ without_cr line
with_no_cr line front last e is = e ∙ sym (ap without_cr e ∙ without_cr_last front last ∙ ap (λ (t : Bool). if t then front else (front ++ last ∷ [])) (not_cr last is))

-- a line up to an LF at n, and what stands after it
pub cut_ended : (bytes line : List ℕ) (n : ℕ) → n ≡ place_of 10 bytes → n ≤ length bytes → (n ≡ length bytes → ⊥) → line ≡ without_cr (take n bytes)
    → lines_of bytes ≡ line ∷ lines_of (take (length bytes - (n + 1)) (drop (n + 1) bytes))
cut_ended bytes line n is within inner e =
    let next : n + 1 ≡ suc (place_of 10 bytes) = omega arith in
    let ended : place_of 10 bytes < length bytes = omega arith in
    let whole : take (length bytes - (n + 1)) (drop (n + 1) bytes) ≡ drop (suc (place_of 10 bytes)) bytes =
    take_all _ _ (omega (arith, length-drop (n + 1) bytes)) ∙ ap (λ k. drop k bytes) next in
    ended_line bytes ended ∙ ap₂ (λ x y. x ∷ lines_of y) (ap (λ k. without_cr (take k bytes)) (sym is) ∙ sym e) (sym whole)

-- the first part of a line, and the rest that begins with the byte after it
pub first_is : (x : ℕ) (line : Line) → parts_of x line ≡ take (place_of x line) line ∷ left x (drop (place_of x line) line)
first_is x [] = refl
first_is x (b ∷ line) = by_space (b == x) (first_is x line)
  where
    by_space : (t : Bool) → parts_of x line ≡ take (place_of x line) line ∷ left x (drop (place_of x line) line)
        → (if t then [] ∷ parts_of x line else with_front b (parts_of x line))
        ≡ take (if t then 0 else suc (place_of x line)) (b ∷ line) ∷ left x (drop (if t then 0 else suc (place_of x line)) (b ∷ line))
    by_space true next = refl
    by_space false next = ap (with_front b) next

pub cut_first : (x : ℕ) (line : Line) (n : ℕ) → n ≡ place_of x line → n ≤ length line → parts_of x line ≡ take n line ∷ left x (take (length line - n) (drop n line))
cut_first x line n is within =
    let whole : take (length line - n) (drop n line) ≡ drop n line = take_all _ _ (omega (arith, length-drop n line)) in
    first_is x line ∙ ap₂ (λ part rest. part ∷ left x rest) (ap (λ k. take k line) (sym is)) (ap (λ k. drop k line) (sym is) ∙ sym whole)
