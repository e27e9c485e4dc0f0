-- Bytes that are the same in a range.
use Rattle.std.proofs.Common.{◌≡◌, ◌∙◌, ℕ, zero, suc, ◌+◌, ◌<◌, ◌≤◌, [], ◌∷◌, refl, sym, ap, arith}
use Rattle.bits_core.specs.Bytes.{word_of}
use Rattle.pcode_model.specs.declared.listing.Varnode.{Varnode}
use Rattle.pcode_model.specs.declared.listing.Listing.{Listing}
use Rattle.pcode_model.specs.Spaces.{bytes_at, is_big, next, size_of}
use Rattle.pcode_model.specs.Memory.{Bytes}
use Rattle.pcode_model.specs.Step.{local_word}
use Rattle.pcode_laws.proofs.Puts.{next_within}
use Rattle.range_words.specs.Ranges.{IsInside}

-- Where bytes are the same at so many offsets from one on, so are the bytes read there, as long as they don't wrap.
pub same_bytes : (size : ℕ) (f g : ℕ → ℕ) (o k : ℕ)
    → o + k ≤ size
    → ((p : ℕ) → o ≤ p → p < o + k → f p ≡ g p)
    → bytes_at size f o k ≡ bytes_at size g o k
same_bytes size f g o zero within same = refl
same_bytes size f g o (suc zero) within same = ap (λ b. b ∷ []) (same o (omega arith) (omega arith))
same_bytes size f g o (suc (suc k)) within same =
    let n : next size o ≡ suc o = next_within size o (omega (arith, within)) in
    ap (λ b. b ∷ bytes_at size f (next size o) (suc k)) (same o (omega arith) (omega arith))
    ∙ ap (λ x. g o ∷ bytes_at size f x (suc k)) n
    ∙ ap (λ bs. g o ∷ bs) (same_bytes size f g (suc o) (suc k) (omega (arith, within))
    (λ p from to. same p (omega (arith, from)) (omega (arith, to))))
    ∙ ap (λ x. g o ∷ bytes_at size g x (suc k)) (sym n)

-- Memories that are the same in a range have the same word there.
pub same_word : (l : Listing) (v : Varnode) (m n : Bytes)
    → IsInside l v
    → ((p : ℕ) → v.offset ≤ p → p < v.offset + v.size → m v.space p ≡ n v.space p)
    → local_word l v m ≡ local_word l v n
same_word l v m n inside same =
    ap (word_of (is_big l v.space)) (same_bytes (size_of l v.space) (m v.space) (n v.space) v.offset v.size inside same)
