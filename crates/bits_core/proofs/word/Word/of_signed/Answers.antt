use Rattle.std.proofs.Common.{◌∙◌, ap, ◌%◌}
use Rattle.bits_core.specs.Value.{limit}
use Rattle.bits_core.proofs.Machine.{word_of_signed}
use Rattle.bits_core.proofs.word.Word.of_signed.Goals as goal

pub returns-clause-value : goal.returns-clause-value
returns-clause-value c =
    c.new.ensures.value ∙ ap (λ n. n % limit c.args.width.bytes) c.cast_unsigned.ensures ∙ word_of_signed c.args.width.bytes c.args.value c.args.width.to c.ranges.value
