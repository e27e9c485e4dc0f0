use Rattle.std.proofs.Common.{◌+◌, get_or, drop, subst, sym, ap, ◌∙◌}
use Rattle.std.proofs.lemmas.List.{drop_more}
use Rattle.opgraph.specs.Graph.{op_at}
use Rattle.ssa_text.specs.Ranked.{added}
use Rattle.ssa_text.proofs.Meeting.{MultisMet, joined_met}
use Rattle.ssa_text.proofs.heads.multis_of.Goals as goal

pub loop-op-preserved : goal.loop-op-preserved
loop-op-preserved c =
    let xs = c.args.ops.now in
    let n = c.loop-op.op-index in
    let x = get_or xs n 0 in
    let split = drop_more xs n 0 c.loop-op-test.true in
    let now = joined_met (op_at c.args.graph.now) c.loop-op.ranked.items x (drop (n + 1) xs) xs
    (subst (λ ys. MultisMet (op_at c.args.graph.now) c.loop-op.ranked.items ys xs) split c.loop-op.invariant) in
    subst (λ rs. MultisMet (op_at c.args.graph.now) rs (drop (n + 1) xs) xs)
    (sym ((c.in_ok-meet.ensures {u = tt}) ∙ ap (λ o. added c.loop-op.ranked.items o x) c.atom_at.ensures)) now
