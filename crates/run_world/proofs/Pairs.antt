-- Maps by pairs of numbers as functions of two.
use Rattle.std.proofs.Common.{◌≡◌, ℕ, ◌==◌, ◌&&◌, Bool, true, false, cond, Option, Some, refl, ap, ◌∙◌, arith}
use Rattle.std.specs.Ordering.{nat_cmp, ordering_then, is_eq}
use Rattle.std.specs.BTreeMap.{BTreeMap, get, UpdatesBy}
use Rattle.std.proofs.Math.Path.{fun_ext}
use Rattle.std.proofs.lemmas.Bool.Decides.{nat_tests}
use Rattle.pcode_model.specs.Spaces.{put_in}
use Rattle.pcode_model.specs.Memory.{or_else}

pub pair_test : (s o t p : ℕ) → is_eq (ordering_then (nat_cmp s t) (nat_cmp o p)) ≡ (t == s && p == o)
pair_test s o t p = grind (arith, nat_tests)

pub put_at_pair : (m n : BTreeMap (ℕ × ℕ) ℕ) (s o : ℕ) (w : Option ℕ)
    → UpdatesBy
    (λ p q. ordering_then (nat_cmp p.0 q.0) (nat_cmp p.1 q.1))
    (λ q. ordering_then (nat_cmp s q.0) (nat_cmp o q.1))
    m n w
    → (λ t p. get (λ p q. ordering_then (nat_cmp p.0 q.0) (nat_cmp p.1 q.1)) n (t, p))
    ≡ put_in s o w (λ t p. get (λ p q. ordering_then (nat_cmp p.0 q.0) (nat_cmp p.1 q.1)) m (t, p))
put_at_pair m n s o w h =
    fun_ext (λ t. fun_ext (λ p. h.0 (t, p)
    ∙ ap (λ b. cond b w (get (λ p q. ordering_then (nat_cmp p.0 q.0) (nat_cmp p.1 q.1)) m (t, p)))
    (pair_test s o t p)))

-- the bytes with one put in, where a map has none as 0
pub bytes_put : (s o v : ℕ) (f g : ℕ → ℕ → Option ℕ)
    → g ≡ put_in s o (Some v) f
    → (λ t p. or_else (g t p) 0) ≡ put_in s o v (λ t p. or_else (f t p) 0)
bytes_put s o v f g same =
    fun_ext (λ t.
    fun_ext (λ p. ap (λ (h : ℕ → ℕ → Option ℕ). or_else (h t p) 0) same ∙ choice (t == s && p == o) (f t p))) where
      choice : (b : Bool) (x : Option ℕ) → or_else (cond b (Some v) x) 0 ≡ cond b v (or_else x 0)
      choice true x = refl
      choice false x = refl
