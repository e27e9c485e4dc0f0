use Rattle.std.proofs.Common.{rules, ◌≡◌, ◌+◌, ◌≤◌}
use Rattle.cmeaning.specs.declared.tree.ExtendOp.TheVariants as X
use Rattle.rule_parts.proofs.Parted.{beyond, within_fires, past_fires, wider_fires}
use Rattle.rule_parts.proofs.singles.of_zext.Goals as goal

pub returns-then-k-w : goal.returns-then-k-w
returns-then-k-w g c =
    let zext : c.in_ok-op.op ≡ X.Zext = search rules in
    let within : c.args.k + c.args.w.bytes ≤ c.width-from.result.bytes = search rules in
    within_fires g.V.View.Sees c.args.a c.args.k c.args.w c.in_ok-op._wide c.in_ok-op.x c.width-from.result.bytes
    c.in_ok-op.op zext c.in_ok-op.ensures c.width-from.ensures c.piece.result within c.piece.ensures

pub returns-then-k-from : goal.returns-then-k-from
returns-then-k-from g c =
    let zext : c.in_ok-op.op ≡ X.Zext = search rules in
    let past : c.width-from.result.bytes ≤ c.args.k = search rules in
    past_fires g.V.View.Sees c.args.a c.args.k c.args.w c.in_ok-op._wide c.in_ok-op.x c.width-from.result.bytes
    c.in_ok-op.op zext c.in_ok-op.ensures c.width-from.ensures c.new-zero.result past c.new-zero.ensures.width
    c.new-zero.ensures.value

pub returns-then-k-ne0 : goal.returns-then-k-ne0
returns-then-k-ne0 g c =
    let zext : c.in_ok-op.op ≡ X.Zext = search rules in
    let n : c.args.k + c.args.w.bytes ≤ c.width-from.result.bytes → ⊥ = search rules in
    let m : c.width-from.result.bytes ≤ c.args.k → ⊥ = search rules in
    let z : c.args.k ≡ 0 → ⊥ = search rules in
    beyond g.V.View.Sees c.args.a c.args.k c.args.w c.in_ok-op._wide c.in_ok-op.x c.width-from.result.bytes c.in_ok-op.op
    zext c.in_ok-op.ensures c.width-from.ensures n m z

pub returns : goal.returns
returns g c =
    let zext : c.in_ok-op.op ≡ X.Zext = search rules in
    let zero : c.args.k ≡ 0 = search rules in
    let n : c.args.k + c.args.w.bytes ≤ c.width-from.result.bytes → ⊥ = search rules in
    wider_fires g.V.View.Sees c.args.a c.args.k c.args.w c.in_ok-op._wide c.in_ok-op.x c.width-from.result.bytes
    c.in_ok-op.op zext c.in_ok-op.ensures c.width-from.ensures zero n
