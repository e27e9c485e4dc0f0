-- The two tables by the space's number say what the list of bytes does.
use Rattle.std.proofs.Common.{◌≡◌, ◌∙◌, ◌<◌, ◌≤◌, ◌+◌, ℕ, suc, Bool, true, false, List, [], ◌∷◌, ◌++◌, length, ap, sym, refl, arith, get_or, set, subst, eqb-true, eq-eqb, ◌≢◌, length-set}
use Rattle.std.proofs.lemmas.List.{get_or-set_same, get_or-set_other, length-replicate, get_or-replicate}
use Rattle.std.specs.Prelude.{replicate}
use Rattle.std.specs.Prelude.{◌==◌, ◌&&◌, ◌||◌, nat_lt, nat_le, max, if◌then◌else◌}
use Rattle.std.proofs.lemmas.Bool.Decides.{nat_tests}
use Rattle.std.proofs.lemmas.Bool.{ltb-false}
use Rattle.pcode_model.specs.declared.listing.Fixed.{Fixed}
use Rattle.pcode_model.specs.Ranges.{meets}
use Rattle.pcodetext.specs.Tables.{HasTops, end_of, next_of, overlaps, stands_after}
use Rattle.pcodetext.proofs.Passing.{right_false}

late : (o x n : ℕ) → (nat_le o x || nat_lt o n) ≡ nat_lt o (max (suc x) n)
late o x n = grind (arith, nat_tests)

pub stands_after_is : (fixed : List Fixed) (space o : ℕ) → stands_after fixed space o ≡ nat_lt o (next_of space fixed)
stands_after_is [] space o = grind (arith, nat_tests)
stands_after_is (f ∷ fixed) space o = by_space (f.space == space) (stands_after_is fixed space o)
  where
    by_space : (t : Bool) → stands_after fixed space o ≡ nat_lt o (next_of space fixed)
        → ((t && nat_le o f.offset) || stands_after fixed space o)
        ≡ nat_lt o (if t then max (suc f.offset) (next_of space fixed) else next_of space fixed)
    by_space true next = ap (λ (b : Bool). nat_le o f.offset || b) next ∙ late o f.offset (next_of space fixed)
    by_space false next = next

meeting : (o size x more e : ℕ) (rest : Bool)
    → (nat_le o x || rest) ≡ false
    → (meets o size x more || nat_lt o e) ≡ nat_lt o (max (x + more) e)
meeting o size x more e rest before = grind (arith, nat_tests)

true_not_false : true ≡ false → ⊥
true_not_false h = cc

pub overlaps_is : (fixed : List Fixed) (space o size : ℕ)
    → stands_after fixed space o ≡ false
    → overlaps fixed space o size ≡ nat_lt o (end_of space fixed)
overlaps_is [] space o size before = grind (arith, nat_tests)
overlaps_is (f ∷ fixed) space o size before =
    by_space (f.space == space) before (overlaps_is fixed space o size (right_false _ _ before))
  where
    by_space : (t : Bool)
        → ((t && nat_le o f.offset) || stands_after fixed space o) ≡ false
        → overlaps fixed space o size ≡ nat_lt o (end_of space fixed)
        → ((t && meets o size f.offset (length f.bytes)) || overlaps fixed space o size)
        ≡ nat_lt o (if t then max (f.offset + length f.bytes) (end_of space fixed) else end_of space fixed)
    by_space true first next =
        ap (λ (b : Bool). meets o size f.offset (length f.bytes) || b) next
        ∙ meeting o size f.offset (length f.bytes) (end_of space fixed) _ first
    by_space false first next = next

next_more : (k : ℕ) (fixed : List Fixed) (f : Fixed)
    → next_of k (fixed ++ f ∷ []) ≡ (if f.space == k then max (suc f.offset) (next_of k fixed) else next_of k fixed)
next_more k [] f = refl
next_more k (g ∷ fixed) f = by_space (g.space == k) (f.space == k) (next_more k fixed f)
  where
    by_space : (t u : Bool)
        → next_of k (fixed ++ f ∷ []) ≡ (if u then max (suc f.offset) (next_of k fixed) else next_of k fixed)
        → (if t then max (suc g.offset) (next_of k (fixed ++ f ∷ [])) else next_of k (fixed ++ f ∷ []))
        ≡ (if u then max (suc f.offset) (if t then max (suc g.offset) (next_of k fixed) else next_of k fixed) else
        (if t then max (suc g.offset) (next_of k fixed) else next_of k fixed))
    by_space true true e = omega (arith, e)
    by_space true false e = omega (arith, e)
    by_space false true e = e
    by_space false false e = e

end_more : (k : ℕ) (fixed : List Fixed) (f : Fixed)
    → end_of k (fixed ++ f ∷ [])
    ≡ (if f.space == k then max (f.offset + length f.bytes) (end_of k fixed) else end_of k fixed)
end_more k [] f = refl
end_more k (g ∷ fixed) f = by_space (g.space == k) (f.space == k) (end_more k fixed f)
  where
    by_space : (t u : Bool)
        → end_of k (fixed ++ f ∷ []) ≡ (if u then max (f.offset + length f.bytes) (end_of k fixed) else end_of k fixed)
        → (if t then max (g.offset + length g.bytes) (end_of k (fixed ++ f ∷ [])) else end_of k (fixed ++ f ∷ []))
        ≡ (if u then max (f.offset + length f.bytes)
        (if t then max (g.offset + length g.bytes) (end_of k fixed) else end_of k fixed) else
        (if t then max (g.offset + length g.bytes) (end_of k fixed) else end_of k fixed))
    by_space true true e = omega (arith, e)
    by_space true false e = omega (arith, e)
    by_space false true e = e
    by_space false false e = e

-- a table with a new number at one place
put_at : (table : List ℕ) (space k v old : ℕ)
    → space < length table
    → get_or table k 0 ≡ old
    → get_or (set table space v) k 0 ≡ (if space == k then v else old)
put_at table space k v old within is = by_place (space == k) refl
  where
    by_place : (t : Bool) → (space == k) ≡ t → get_or (set table space v) k 0 ≡ (if t then v else old)
    by_place true e =
        let same : space ≡ k = eqb-true space k e in
        subst (λ (j : ℕ). get_or (set table space v) j 0 ≡ v) same (get_or-set_same table space v 0 within)
    by_place false e =
        let other : k ≢ space = (λ same. true_not_false (sym (eq-eqb space k (sym same)) ∙ e)) in
        get_or-set_other table space k v 0 other ∙ is

next_pushed : (nexts : List ℕ) (fixed : List Fixed) (f : Fixed) (k : ℕ)
    → f.space < length nexts
    → get_or nexts k 0 ≡ next_of k fixed
    → next_of f.space fixed ≤ f.offset
    → get_or (set nexts f.space (f.offset + 1)) k 0 ≡ next_of k (fixed ++ f ∷ [])
next_pushed nexts fixed f k within is low =
    let one : f.offset + 1 ≡ suc f.offset = omega arith in
    ap (λ (v : ℕ). get_or (set nexts f.space v) k 0) one
    ∙ put_at nexts f.space k (suc f.offset) (next_of k fixed) within is
    ∙ by_space (f.space == k) refl
    ∙ sym (next_more k fixed f)
  where
    by_space : (t : Bool)
        → (f.space == k) ≡ t
        → (if t then suc f.offset else next_of k fixed)
        ≡ (if t then max (suc f.offset) (next_of k fixed) else next_of k fixed)
    by_space true e =
        let same : next_of k fixed ≤ f.offset =
        subst (λ (j : ℕ). next_of j fixed ≤ f.offset) (eqb-true f.space k e) low in
        omega (arith, same)
    by_space false e = refl

end_pushed : (ends : List ℕ) (fixed : List Fixed) (f : Fixed) (k : ℕ)
    → f.space < length ends
    → get_or ends k 0 ≡ end_of k fixed
    → end_of f.space fixed ≤ f.offset + length f.bytes
    → get_or (set ends f.space (f.offset + length f.bytes)) k 0 ≡ end_of k (fixed ++ f ∷ [])
end_pushed ends fixed f k within is low =
    put_at ends f.space k (f.offset + length f.bytes) (end_of k fixed) within is
    ∙ by_space (f.space == k) refl
    ∙ sym (end_more k fixed f)
  where
    by_space : (t : Bool)
        → (f.space == k) ≡ t
        → (if t then f.offset + length f.bytes else end_of k fixed)
        ≡ (if t then max (f.offset + length f.bytes) (end_of k fixed) else end_of k fixed)
    by_space true e =
        let same : end_of k fixed ≤ f.offset + length f.bytes =
        subst (λ (j : ℕ). end_of j fixed ≤ f.offset + length f.bytes) (eqb-true f.space k e) low in
        omega (arith, same)
    by_space false e = refl

end_kept : (ends : List ℕ) (fixed : List Fixed) (f : Fixed) (k : ℕ)
    → get_or ends k 0 ≡ end_of k fixed
    → f.offset + length f.bytes ≤ end_of f.space fixed
    → get_or ends k 0 ≡ end_of k (fixed ++ f ∷ [])
end_kept ends fixed f k is high = is ∙ by_space (f.space == k) refl ∙ sym (end_more k fixed f)
  where
    by_space : (t : Bool)
        → (f.space == k) ≡ t
        → end_of k fixed ≡ (if t then max (f.offset + length f.bytes) (end_of k fixed) else end_of k fixed)
    by_space true e =
        let same : f.offset + length f.bytes ≤ end_of k fixed =
        subst (λ (j : ℕ). f.offset + length f.bytes ≤ end_of j fixed) (eqb-true f.space k e) high in
        omega (arith, same)
    by_space false e = refl

low_enough : (fixed : List Fixed) (space o : ℕ) → stands_after fixed space o ≡ false → next_of space fixed ≤ o
low_enough fixed space o free = ltb-false o (next_of space fixed) (sym (stands_after_is fixed space o) ∙ free)

pub pushed_past : (nexts ends : List ℕ) (fixed : List Fixed) (f : Fixed)
    → HasTops nexts ends fixed
    → f.space < 256
    → stands_after fixed f.space f.offset ≡ false
    → get_or ends f.space 0 < f.offset + length f.bytes
    → HasTops (set nexts f.space (f.offset + 1)) (set ends f.space (f.offset + length f.bytes)) (fixed ++ f ∷ [])
pushed_past nexts ends fixed f tops small free past =
    let here = tops.end f.space small in
    let low : end_of f.space fixed ≤ f.offset + length f.bytes = omega (arith, here, past) in
    let within : f.space < length nexts = omega (arith, tops.nexts_length, small) in
    let within_ends : f.space < length ends = omega (arith, tops.ends_length, small) in
    record {
      nexts_length = length-set nexts f.space (f.offset + 1) ∙ tops.nexts_length;
      ends_length = length-set ends f.space (f.offset + length f.bytes) ∙ tops.ends_length;
      next = λ k h. next_pushed nexts fixed f k within (tops.next k h) (low_enough fixed f.space f.offset free);
      end = λ k h. end_pushed ends fixed f k within_ends (tops.end k h) low;
    }

pub pushed_within : (nexts ends : List ℕ) (fixed : List Fixed) (f : Fixed)
    → HasTops nexts ends fixed
    → f.space < 256
    → stands_after fixed f.space f.offset ≡ false
    → f.offset + length f.bytes ≤ get_or ends f.space 0
    → HasTops (set nexts f.space (f.offset + 1)) ends (fixed ++ f ∷ [])
pushed_within nexts ends fixed f tops small free within_end =
    let here = tops.end f.space small in
    let high : f.offset + length f.bytes ≤ end_of f.space fixed = omega (arith, here, within_end) in
    let within : f.space < length nexts = omega (arith, tops.nexts_length, small) in
    record {
      nexts_length = length-set nexts f.space (f.offset + 1) ∙ tops.nexts_length;
      ends_length = tops.ends_length;
      next = λ k h. next_pushed nexts fixed f k within (tops.next k h) (low_enough fixed f.space f.offset free);
      end = λ k h. end_kept ends fixed f k (tops.end k h) high;
    }

pub no_tops : HasTops (replicate 256 0) (replicate 256 0) []
no_tops = record {
  nexts_length = length-replicate {A = ℕ} 256 0;
  ends_length = length-replicate {A = ℕ} 256 0;
  next = λ k h. get_or-replicate {A = ℕ} 256 k 0 0 h;
  end = λ k h. get_or-replicate {A = ℕ} 256 k 0 0 h;
}
