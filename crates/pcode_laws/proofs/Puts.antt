-- What stands at a place after something was put there or elsewhere.
use Rattle.std.proofs.Common.{◌≡◌, ◌≢◌, ℕ, suc, ◌<◌, true, false, ap, ◌⊎◌, ⊎_elim, arith}
use Rattle.std.specs.Prelude.{◌==◌, ◌&&◌, cond}
use Rattle.std.proofs.lemmas.Bool.Decides.{nat_tests}
use Rattle.pcode_model.specs.Spaces.{next, put, put_in}

pub put_at : {A : Type 0} (f : ℕ → A) (x : ℕ) (v : A) → put f x v x ≡ v
put_at f x v = let t : (x == x) ≡ true = grind (arith, nat_tests) in ap (λ b. cond b v (f x)) t

pub put_else : {A : Type 0} (f : ℕ → A) (x : ℕ) (v : A) (y : ℕ) → y ≢ x → put f x v y ≡ f y
put_else f x v y ne = let t : (y == x) ≡ false = grind (arith, nat_tests) in ap (λ b. cond b v (f y)) t

pub put_in_at : {A : Type 0} (s o : ℕ) (v : A) (f : ℕ → ℕ → A) → put_in s o v f s o ≡ v
put_in_at s o v f = let t : (s == s && o == o) ≡ true = grind (arith, nat_tests) in ap (λ b. cond b v (f s o)) t

-- another space, or another offset
abbrev pub IsOther : (s o t p : ℕ) → Type 0
IsOther s o t p = (t ≢ s) ⊎ (p ≢ o)

pub put_in_else : {A : Type 0} (s o : ℕ) (v : A) (f : ℕ → ℕ → A) (t p : ℕ)
    → IsOther s o t p
    → put_in s o v f t p ≡ f t p
put_in_else s o v f t p out =
    let c : (t == s && p == o) ≡ false =
    ⊎_elim (λ (ne : t ≢ s). grind (arith, nat_tests)) (λ (ne : p ≢ o). grind (arith, nat_tests)) out in
    ap (λ b. cond b v (f t p)) c

pub next_within : (size o : ℕ) → suc o < size → next size o ≡ suc o
next_within size o h = let t : (suc o == size) ≡ false = grind (arith, nat_tests) in ap (λ b. cond b 0 (suc o)) t

pub next_below : (size o : ℕ) → o < size → next size o < size
next_below size o lt = grind (arith, nat_tests)
