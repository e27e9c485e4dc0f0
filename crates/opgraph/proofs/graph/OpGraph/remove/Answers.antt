use Rattle.std.proofs.Common.{[], IsSome, sym, ap, subst, refl}
use Rattle.opgraph.specs.Graph.{OpRow, op_at, inputs_in}
use Rattle.opgraph.proofs.Tables.{value_of}
use Rattle.opgraph.proofs.Sames.{row_after, unused_after, removed_after}
use Rattle.opgraph.proofs.graph.OpGraph.remove.Goals as goal

pub release-requires-clause-op : goal.release-requires-clause-op
release-requires-clause-op c =
    let r = value_of (op_at c.args.self.now c.args.op.0) c.requires.op in
    subst IsSome
    (sym
    (row_after c.args.op.0 (record r.0 { inputs = [] }) c.args.self.now c.detach_all.new.self
    (c.detach_all.ensures.row r.0 r.1))) refl

pub release-requires-clause-uses : goal.release-requires-clause-uses
release-requires-clause-uses c =
    let r = value_of (op_at c.args.self.now c.args.op.0) c.requires.op in
    unused_after c.args.op.0 r.0 c.args.self.now c.detach_all.new.self c.known.ensures
    (c.detach_all.ensures.row r.0 r.1) c.requires.uses

pub release-requires-clause-inputs : goal.release-requires-clause-inputs
release-requires-clause-inputs c =
    let r = value_of (op_at c.args.self.now c.args.op.0) c.requires.op in
    ap inputs_in
    (row_after c.args.op.0 (record r.0 { inputs = [] }) c.args.self.now c.detach_all.new.self
    (c.detach_all.ensures.row r.0 r.1))

pub returns-clause-removed : goal.returns-clause-removed
returns-clause-removed c r e =
    let now : OpRow = record r { inputs = [] } in let w = c.detach_all.ensures.row r e in
    removed_after c.args.op.0 r now c.args.self.now c.detach_all.new.self c.release.new.self w
    (c.release.ensures.removed now (row_after c.args.op.0 now c.args.self.now c.detach_all.new.self w)) refl
