use Rattle.std.proofs.Common.{◌+◌, ◌/◌, ◌%◌, ap, ◌∙◌}
use Rattle.bits_core.specs.Value.{limit}
use Rattle.word_sets.proofs.Tops.{least_signed}
use Rattle.word_sets.proofs.comparing.least_signed.Goals as goal

pub returns-clause-value : goal.returns-clause-value
returns-clause-value c =
    c.new.ensures.value
    ∙ ap (λ n. (n / 2 + 1) % limit c.args.width.bytes) c.new-greatest.ensures.value
    ∙ least_signed c.args.width.bytes c.args.width.from c.args.width.to
