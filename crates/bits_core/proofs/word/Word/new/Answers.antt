use Rattle.std.proofs.Common.{ℕ, ◌<◌, bit_and, ◌∙◌, sym, ap, subst}
use Rattle.std.proofs.Math.Nat.{mod-lt}
use Rattle.bits_core.specs.Value.{limit}
use Rattle.bits_core.proofs.Limits.{limit_pos}
use Rattle.bits_core.proofs.Machine.{masked}
use Rattle.bits_core.proofs.word.Word.new.Goals as goal

pub invariant_of-result : goal.invariant_of-result
invariant_of-result c =
    let w = c.args.width.bytes in
    let P : ℕ → Type 0 = λ v. v < limit w in
    record { below = subst P (sym (ap (λ m. bit_and c.args.value m) c.mask.ensures ∙ masked c.args.value w)) (mod-lt c.args.value (limit_pos w)) }

pub returns-clause-value : goal.returns-clause-value
returns-clause-value c = ap (λ m. bit_and c.args.value m) c.mask.ensures ∙ masked c.args.value c.args.width.bytes
