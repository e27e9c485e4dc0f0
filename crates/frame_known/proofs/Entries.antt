-- What a row says of a slot.
use Rattle.std.proofs.Common.{◌≡◌, ℕ, zero, suc, ◌<◌, Bool, true, false, List, [], ◌∷◌, length, get_or, map, Option, Some, None, refl, sym, ap, ◌∙◌, inl, inr, ⊎_elim, arith}
use Rattle.std.specs.Prelude.{◌==◌, cond}
use Rattle.std.proofs.lemmas.Bool.{cases_eq, eqb-true, eq-eqb, ne_eqb}
use Rattle.pcode_model.specs.Flow.{IsIn}
use Rattle.frame_known.specs.Rows.{Row, is_offset, offset_in}

pub is_offset_is : (r : Option ℕ) (c : ℕ) → is_offset r c ≡ true → r ≡ Some c
is_offset_is None c h = absurd (cc)
is_offset_is (Some d) c h = ap Some (eqb-true d c h)

pub offset_is : (r : Option ℕ) (c : ℕ) → r ≡ Some c → is_offset r c ≡ true
offset_is r c e = ap (λ x. is_offset x c) e ∙ eq-eqb c c refl

-- Each number but one that stands further on differs from the first.
abbrev pub Rises : List ℕ → Type 0
Rises ks = (i j : ℕ) → i < j → j < length ks → get_or ks i 0 < get_or ks j 0

pub rises_rest : (k : ℕ) (ks : List ℕ) → Rises (k ∷ ks) → Rises ks
rises_rest k ks up i j lt inside = up (suc i) (suc j) (omega arith) (omega arith)

-- the entry of a slot by its number
pub offset_at : (ks : List ℕ) (row : Row) → Rises ks → length row ≡ length ks → (i : ℕ) → i < length ks
    → offset_in ks row (get_or ks i 0) ≡ get_or row i None
offset_at [] row up long i lt = absurd (omega arith)
offset_at (k ∷ ks) [] up long i lt = absurd (omega arith)
offset_at (k ∷ ks) (r ∷ row) up long zero lt = ap (λ b. cond b r (offset_in ks row k)) (eq-eqb k k refl)
offset_at (k ∷ ks) (r ∷ row) up long (suc i) lt =
    let less : k < get_or ks i 0 = up 0 (suc i) (omega arith) lt in
    ap (λ b. cond b r (offset_in ks row (get_or ks i 0))) (ne_eqb k (get_or ks i 0) (λ e. omega (arith, less, e)))
    ∙ offset_at ks row (rises_rest k ks up) (omega arith) i (omega arith)

pub offset_none : (ks : List ℕ) (row : Row) (n : ℕ) → (IsIn n ks → ⊥) → offset_in ks row n ≡ None
offset_none [] row n h = refl
offset_none (k ∷ ks) [] n h = refl
offset_none (k ∷ ks) (r ∷ row) n h =
    ap (λ b. cond b r (offset_in ks row n)) (ne_eqb k n (λ e. h (inl (sym e))))
    ∙ offset_none ks row n (λ is. h (inr is))

pub offset_some : (ks : List ℕ) (row : Row) (n c : ℕ) → offset_in ks row n ≡ Some c → IsIn n ks
offset_some [] row n c h = absurd (cc)
offset_some (k ∷ ks) [] n c h = absurd (cc)
offset_some (k ∷ ks) (r ∷ row) n c h = by (k == n) refl (offset_some ks row n c) h where
  by : (b : Bool)
      → (k == n) ≡ b
      → (offset_in ks row n ≡ Some c → IsIn n ks)
      → cond b r (offset_in ks row n) ≡ Some c
      → IsIn n (k ∷ ks)
  by true e rest h = inl (sym (eqb-true k n e))
  by false e rest h = inr (rest h)

-- an entry that is made slot by slot
pub offset_map : (f : ℕ → Option ℕ) (ks : List ℕ) (n : ℕ) → IsIn n ks → offset_in ks (map f ks) n ≡ f n
offset_map f [] n is = absurd is
offset_map f (k ∷ ks) n is = ⊎_elim
    (λ (e : k ≡ n). ap (λ b. cond b (f k) (offset_in ks (map f ks) n)) (eq-eqb k n e) ∙ ap f e)
    (λ ne. ap (λ b. cond b (f k) (offset_in ks (map f ks) n)) (ne_eqb k n ne)
    ∙ offset_map f ks n (⊎_elim (λ e. absurd (ne (sym e))) (λ h. h) is))
    (cases_eq k n)
