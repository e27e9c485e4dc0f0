-- Widths and words are the same where their numbers are.
use Rattle.std.proofs.Common.{◌≡◌, ℕ, ◌<◌, ◌≤◌, ap, ◌∙◌, subst}
use Rattle.std.specs.Coded.{le_prop}
use Rattle.bits_core.specs.declared.word.Width.{Width}
use Rattle.bits_core.specs.declared.word.Word.{Word}
use Rattle.bits_core.specs.Value.{limit}

abbrev width_of : (n : ℕ) → 0 < n → n ≤ 16 → Width
width_of n p q = record { bytes = n; from = p; to = q }

same_bounds : (n : ℕ) (p r : 0 < n) (q s : n ≤ 16) → width_of n p q ≡ width_of n r s
same_bounds n p r q s = ap (λ x. width_of n x q) (le_prop p r) ∙ ap (λ x. width_of n r x) (le_prop q s)

-- widths of as many bytes
pub same_width : (a b : Width) → a.bytes ≡ b.bytes → a ≡ b
same_width a b e =
    let P : ℕ → Type 0 = λ n. (p : 0 < n) (q : n ≤ 16) → a ≡ width_of n p q in
    subst P e (λ p q. same_bounds a.bytes a.from p a.to q) b.from b.to

abbrev word_of : (v : ℕ) (w : Width) → v < limit w.bytes → Word
word_of v w p = record { value = v; width = w; below = p }

same_proof : (v : ℕ) (w : Width) (p q : v < limit w.bytes) → word_of v w p ≡ word_of v w q
same_proof v w p q = ap (word_of v w) (le_prop p q)

-- words of one value and one width
pub same_word : (a b : Word) → a.value ≡ b.value → a.width ≡ b.width → a ≡ b
same_word a b e f =
    let P : ℕ → Type 0 = λ v. (p : v < limit (b.width).bytes) → a ≡ word_of v b.width p in
    let Q : Width → Type 0 = λ w. (p : a.value < limit w.bytes) → a ≡ word_of a.value w p in
    subst P e (subst Q f (λ p. same_proof a.value a.width a.below p)) b.below
