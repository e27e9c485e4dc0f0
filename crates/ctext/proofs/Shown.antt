-- The four texts of each form, put together from their parts.
use Rattle.std.proofs.Common.{◌≡◌, ℕ, zero, suc, ◌<◌, arith, List, [], ◌∷◌, ◌++◌, refl, sym, append_assoc}
use Rattle.std.proofs.lemmas.List.{append-nil}
use Rattle.std.specs.Prelude.{codes}
use Rattle.std.specs.Fmt.{decimal}
use Rattle.ctext.specs.declared.expressions.Mode.{Mode}
use Rattle.ctext.specs.declared.expressions.Mode.TheVariants.{Plain, Operand, Signed, Test}
use Rattle.ctext.specs.Names.{hex}
use Rattle.ctext.specs.Expressions.{Form, shown, compound, simple, comparison, constant, suffix, unsigned_cast, part_text, before, behind, front, open_test, shut_test}

pub shown_compound : (m : Mode) (w : ℕ) (t : List ℕ) → shown m (compound w t) ≡ before m w ++ (t ++ behind m)
shown_compound Plain w t = sym (append-nil t)
shown_compound Operand w t = refl
shown_compound Signed w t = simp append_assoc
shown_compound Test w t = sym (append-nil t)

pub shown_simple : (m : Mode) (w : ℕ) (t : List ℕ) → shown m (simple w t) ≡ front m w ++ t
shown_simple Plain w t = refl
shown_simple Operand w t = refl
shown_simple Signed w t = simp append_assoc
shown_simple Test w t = refl

pub shown_constant : (m : Mode) (w n : ℕ)
    → shown m (constant w n) ≡ front m w ++ unsigned_cast w (codes "0x" ++ (hex n ++ suffix n))
shown_constant Plain w n = refl
shown_constant Operand w n = refl
shown_constant Signed w n = simp append_assoc
shown_constant Test w n = refl

pub shown_comparison : (m : Mode) (t : List ℕ) → shown m (comparison t) ≡ open_test m ++ (t ++ shut_test m)
shown_comparison Plain t = simp append_assoc
shown_comparison Operand t = simp append_assoc
shown_comparison Signed t = simp append_assoc
shown_comparison Test t = sym (append-nil t)

-- a part that is left after some bytes are dropped
pub part_dropped : (k w : ℕ) (f : Form)
    → 0 < k
    → part_text k w f ≡ codes "SUB" ++ (decimal w ++ (40 ∷ (f.plain ++ (codes ", 0x" ++ (hex k ++ 41 ∷ [])))))
part_dropped zero w f above = absurd (omega arith)
part_dropped (suc k) w f above = refl
