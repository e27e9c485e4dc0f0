use Rattle.std.proofs.Common.{◌≡◌, ◌%◌, ap, ◌∙◌}
use Rattle.bits_core.proofs.Words.{same_word}
use Rattle.bits_core.specs.declared.word.Width.{Width}
use Rattle.bits_core.specs.Value.{limit}
use Rattle.cmeaning.specs.declared.tree.Expr.TheVariants as E
use Rattle.op_values.specs.Nodes.{width_by, word_by}
use Rattle.op_values.proofs.nodes.constant.Goals as goal

pub returns : goal.returns
returns c =
    let w = width_by c.args.bytes in
    let f : c.new.result.width ≡ w = c.new.ensures.width ∙ c.width_by.ensures in
    let e : c.new.result.value ≡ c.args.value % limit w.bytes = c.new.ensures.value
    ∙ ap (λ x. x % limit (c.width_by.result).bytes) c.from.ensures
    ∙ ap (λ (v : Width). c.args.value % limit v.bytes) c.width_by.ensures in
    ap (λ x. E.Const x) (same_word c.new.result (word_by c.args.bytes c.args.value) e f)
