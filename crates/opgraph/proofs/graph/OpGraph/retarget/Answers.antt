use Rattle.std.proofs.Common.{[], IsSome, sym, subst, refl}
use Rattle.opgraph.specs.Graph.{OpRow, op_at, numbers}
use Rattle.opgraph.proofs.Tables.{value_of}
use Rattle.opgraph.proofs.Sames.{row_after, rewritten_trans, value_stays, values_stay}
use Rattle.opgraph.proofs.graph.OpGraph.retarget.Goals as goal

pub set_code-requires : goal.set_code-requires
set_code-requires c =
    let r = value_of (op_at c.args.self.now c.args.op.0) c.requires.op in
    subst IsSome
    (sym
    (row_after c.args.op.0 (record r.0 { inputs = [] }) c.args.self.now c.detach_all.new.self
    (c.detach_all.ensures.row r.0 r.1))) refl

pub attach_all-requires-clause-op : goal.attach_all-requires-clause-op
attach_all-requires-clause-op c =
    let r = value_of (op_at c.args.self.now c.args.op.0) c.requires.op in let a : OpRow = record r.0 { inputs = [] } in
    let w = row_after c.args.op.0 a c.args.self.now c.detach_all.new.self (c.detach_all.ensures.row r.0 r.1) in
    subst IsSome
    (sym
    (row_after c.args.op.0 (record a { code = c.args.code }) c.detach_all.new.self c.set_code.new.self
    (c.set_code.ensures.row a w))) refl

pub attach_all-requires-clause-values : goal.attach_all-requires-clause-values
attach_all-requires-clause-values c =
    let x = c.args.op.0 in
    let r = value_of (op_at c.args.self.now x) c.requires.op in let a : OpRow = record r.0 { inputs = [] } in
    let v = c.detach_all.ensures.row r.0 r.1 in let w = row_after x a c.args.self.now c.detach_all.new.self v in
    values_stay c.detach_all.new.self c.set_code.new.self
    (value_stays x a (record a { code = c.args.code }) c.detach_all.new.self c.set_code.new.self w refl
    (c.set_code.ensures.row a w)) (numbers c.args.inputs.now)
    (values_stay c.args.self.now c.detach_all.new.self
    (value_stays x r.0 a c.args.self.now c.detach_all.new.self r.1 refl v) (numbers c.args.inputs.now)
    c.requires.inputs)

pub returns-clause-row : goal.returns-clause-row
returns-clause-row c r e =
    let x = c.args.op.0 in
    let a : OpRow = record r { inputs = [] } in let b : OpRow = record a { code = c.args.code } in
    let v = c.detach_all.ensures.row r e in
    let w = c.set_code.ensures.row a (row_after x a c.args.self.now c.detach_all.new.self v) in
    let z = c.attach_all.ensures.row b (row_after x b c.detach_all.new.self c.set_code.new.self w) in
    rewritten_trans x b (record b { inputs = numbers c.args.inputs.now }) c.args.self.now c.set_code.new.self
    c.attach_all.new.self (rewritten_trans x a b c.args.self.now c.detach_all.new.self c.set_code.new.self v w) z
