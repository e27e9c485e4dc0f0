use Rattle.std.proofs.Common.{[], ℕ, List, Option, IsSome, ap, sym, subst, refl, ◌∙◌}
use Rattle.node_lists.specs.Families.{inserted}
use Rattle.opgraph.specs.Graph.{OpRow, op_at, block_at, numbers}
use Rattle.opgraph.proofs.Tables.{value_of}
use Rattle.opgraph.proofs.Sames.{same_op, same_value, values_stay, added_op, added_value, added_after, added_then}
use Rattle.opgraph.proofs.graph.OpGraph.add_op_before.Goals as goal

pub claim_before-op-requires-clause-at : goal.claim_before-op-requires-clause-at
claim_before-op-requires-clause-at c =
    same_op c.args.at.0 c.args.self.now c.want.new.self c.want.ensures.same c.requires.at

pub attach_all-requires-clause-op : goal.attach_all-requires-clause-op
attach_all-requires-clause-op c =
    let x = c.claim_before-op.result in
    let z =
    value_of (op_at c.want.new.self c.args.at.0)
    (same_op c.args.at.0 c.args.self.now c.want.new.self c.want.ensures.same c.requires.at) in
    let row : OpRow = record { block = z.0.block; code = c.args.code; inputs = []; width = c.args.width } in
    subst IsSome
    (sym
    (added_op x row (inserted x c.args.at.0 (block_at c.want.new.self z.0.block)) c.want.new.self
    c.claim_before-op.new.self (c.claim_before-op.ensures.added z.0 z.1))) refl

pub attach_all-requires-clause-values : goal.attach_all-requires-clause-values
attach_all-requires-clause-values c =
    let x = c.claim_before-op.result in
    let z =
    value_of (op_at c.want.new.self c.args.at.0)
    (same_op c.args.at.0 c.args.self.now c.want.new.self c.want.ensures.same c.requires.at) in
    let row : OpRow = record { block = z.0.block; code = c.args.code; inputs = []; width = c.args.width } in
    values_stay c.want.new.self c.claim_before-op.new.self
    (added_value x row (inserted x c.args.at.0 (block_at c.want.new.self z.0.block)) c.want.new.self
    c.claim_before-op.new.self (c.claim_before-op.ensures.added z.0 z.1)) (numbers c.args.inputs.now)
    (values_stay c.args.self.now c.want.new.self (same_value c.args.self.now c.want.new.self c.want.ensures.same)
    (numbers c.args.inputs.now) c.requires.inputs)

pub returns-clause-added : goal.returns-clause-added
returns-clause-added c r e =
    let x = c.claim_before-op.result in
    let b = r.block in let row : OpRow = record { block = b; code = c.args.code; inputs = []; width = c.args.width } in
    let ps = inserted x c.args.at.0 (block_at c.want.new.self b) in
    let qs = inserted x c.args.at.0 (block_at c.args.self.now b) in
    let claimed =
    c.claim_before-op.ensures.added r (ap (λ (f : ℕ → Option OpRow). f c.args.at.0) c.want.ensures.same.ops ∙ e) in
    let a =
    added_after x row ps qs c.args.self.now c.want.new.self c.claim_before-op.new.self c.want.ensures.same
    claimed (ap (λ (f : ℕ → List ℕ). inserted x c.args.at.0 (f b)) c.want.ensures.same.blocks) in
    added_then x row (record row { inputs = numbers c.args.inputs.now }) qs c.args.self.now c.claim_before-op.new.self
    c.attach_all.new.self a
    (c.attach_all.ensures.row row (added_op x row ps c.want.new.self c.claim_before-op.new.self claimed)) refl
