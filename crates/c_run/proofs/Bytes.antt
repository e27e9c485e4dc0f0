-- Bytes of a space.
use Rattle.std.proofs.Common.{◌≡◌, ℕ, zero, suc, List, length, refl, ap, ◌∙◌}
use Rattle.pcode_model.specs.Spaces.{bytes_at, next}

pub bytes_length : {A : Type 0} (size : ℕ) (f : ℕ → A) (o k : ℕ) → length (bytes_at size f o k) ≡ k
bytes_length size f o zero = refl
bytes_length size f o (suc k) = ap suc (bytes_length size f (next size o) k)

pub read_length : (size : ℕ) (f : ℕ → ℕ) (o k n : ℕ) (bytes : List ℕ)
    → bytes ≡ bytes_at size f o k
    → k ≡ n
    → length bytes ≡ n
read_length size f o k n bytes is count = ap length is ∙ bytes_length size f o k ∙ count
