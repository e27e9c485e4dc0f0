-- Widths and words that are made from their numbers.
use Rattle.std.proofs.Common.{◌≡◌, ℕ, ◌+◌, ◌*◌, ◌/◌, ◌%◌, ◌^◌, ◌<◌, Bool, true, false, List, ◌∷◌, ◌++◌, Some, refl, ap, ◌∙◌, arith}
use Rattle.std.proofs.lemmas.Nat.{mod-mul-add}
use Rattle.std.specs.Char.{is_digit}
use Rattle.bits_core.specs.Value.{limit}
use Rattle.bits_core.specs.declared.word.Width.{Width}
use Rattle.bits_core.specs.declared.word.Word.{Word}
use Rattle.bits_core.proofs.Machine.{limit_most}
use Rattle.bits_core.proofs.Words.{same_width, same_word}
use Rattle.ctext.specs.Names.{type_text}
use Rattle.cread.specs.Names.{width_by, word_by, type_at}
use Rattle.cread.specs.Words.{after}
use Rattle.cread.proofs.Fronts.{decimal_again}

pub width_bytes : (n : ℕ) → 0 < n → n < 17 → (width_by n).bytes ≡ n
unfolding width_by
width_bytes n pos small = omega arith

pub width_again : (w : Width) → width_by w.bytes ≡ w
width_again w = let p = w.from in let q = w.to in same_width (width_by w.bytes) w (width_bytes w.bytes p (omega arith))

pub word_again : (w : Word) → word_by w.width w.value ≡ w
unfolding word_by
word_again w =
    let p : w.value < limit w.width.bytes = w.below in
    let whole : w.value ≡ 0 * limit w.width.bytes + w.value = omega arith in
    let same : w.value % limit w.width.bytes ≡ w.value =
    ap (λ (n : ℕ). n % limit w.width.bytes) whole ∙ mod-mul-add 0 (limit w.width.bytes) w.value p in
    same_word (word_by w.width w.value) w same refl

pub word_small : (w : Word) → w.value < 2 ^ 128
word_small w =
    let p : w.value < limit w.width.bytes = w.below in
    omega (arith, p, limit_most w.width.bytes w.width.to)

-- a type before another byte
pub type_again : (signed : Bool) (w c : ℕ) (rest : List ℕ)
    → w < 17
    → is_digit c 10 ≡ false
    → type_at (type_text signed w ++ c ∷ rest) ≡ Some (record { width = width_by w; signed = signed }, c ∷ rest)
unfolding type_at after
type_again true w c rest small stop =
    let n = decimal_again (8 * w) c rest (omega arith) stop in
    let same : 8 * w / 8 ≡ w = omega arith in
    rw n (ap (λ (m : ℕ). Some (record { width = width_by m; signed = true }, c ∷ rest)) same)
type_again false w c rest small stop =
    let n = decimal_again (8 * w) c rest (omega arith) stop in
    let same : 8 * w / 8 ≡ w = omega arith in
    rw n (ap (λ (m : ℕ). Some (record { width = width_by m; signed = false }, c ∷ rest)) same)
