use Rattle.std.proofs.Common.{rules, ◌≡◌, ap, ◌∙◌}
use Rattle.std.proofs.Math.Nat.{zero-mod}
use Rattle.bits_core.specs.Value.{limit}
use Rattle.cmeaning.specs.declared.tree.Expr.TheVariants as E
use Rattle.negation.proofs.zero.Goals as goal

pub returns : goal.returns
returns c =
    let is : c.in_ok-new.field-0 ≡ E.Const c.new.result = search rules in (
      c.new.result,
      (
        record {
          width = ap (λ w. w.bytes) c.new.ensures.width;
          value = c.new.ensures.value ∙ zero-mod (limit c.args.width.bytes);
        },
        is,
      ),
    )
