-- What `==` of words tells.
use Rattle.std.proofs.Common.{◌≡◌, ◌==◌, ◌&&◌, true, refl, sym, ap, ◌∙◌, arith}
use Rattle.std.proofs.lemmas.Bool.{eqb-true, eq-eqb, and_parts}
use Rattle.bits_core.specs.declared.word.Word.{Word}
use Rattle.bits_core.proofs.Words.{same_width, same_word}

pub word_same : (a b : Word) → ((a.value == b.value) && (a.width.bytes == b.width.bytes)) ≡ true → a ≡ b
word_same a b h =
    let t = and_parts (a.value == b.value) (a.width.bytes == b.width.bytes) h in
    let v : a.value ≡ b.value = grind (arith, eqb-true, t.0) in
    let w : a.width.bytes ≡ b.width.bytes = grind (arith, eqb-true, t.1) in
    same_word a b v (same_width a.width b.width w)

pub word_test : (a b : Word) → a ≡ b → ((a.value == b.value) && (a.width.bytes == b.width.bytes)) ≡ true
word_test a b e =
    ap (λ (x : Word). (a.value == x.value) && (a.width.bytes == x.width.bytes)) (sym e)
    ∙ rw (eq-eqb a.value a.value refl, eq-eqb a.width.bytes a.width.bytes refl) refl
