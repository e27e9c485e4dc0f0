use Rattle.std.proofs.Common.{[], ◌∷◌, ◌++◌, ℕ, List, IsSome, ap, sym, subst, refl}
use Rattle.opgraph.specs.Graph.{OpRow, block_at, numbers}
use Rattle.opgraph.proofs.Sames.{same_value, values_stay, added_op, added_value, added_after, added_then}
use Rattle.opgraph.proofs.graph.OpGraph.add_op.Goals as goal

pub attach_all-requires-clause-op : goal.attach_all-requires-clause-op
attach_all-requires-clause-op c =
    let x = c.claim_last-op.result in
    let b = c.args.block.0 in
    let row : OpRow = record { block = b; code = c.args.code; inputs = []; width = c.args.width } in
    subst IsSome
    (sym
    (added_op x row (block_at c.want.new.self b ++ x ∷ []) c.want.new.self c.claim_last-op.new.self
    c.claim_last-op.ensures.added)) refl

pub attach_all-requires-clause-values : goal.attach_all-requires-clause-values
attach_all-requires-clause-values c =
    let x = c.claim_last-op.result in
    let b = c.args.block.0 in
    let row : OpRow = record { block = b; code = c.args.code; inputs = []; width = c.args.width } in
    values_stay c.want.new.self c.claim_last-op.new.self
    (added_value x row (block_at c.want.new.self b ++ x ∷ []) c.want.new.self c.claim_last-op.new.self
    c.claim_last-op.ensures.added) (numbers c.args.inputs.now)
    (values_stay c.args.self.now c.want.new.self (same_value c.args.self.now c.want.new.self c.want.ensures.same)
    (numbers c.args.inputs.now) c.requires.inputs)

pub returns-clause-added : goal.returns-clause-added
returns-clause-added c =
    let x = c.claim_last-op.result in
    let b = c.args.block.0 in
    let row : OpRow = record { block = b; code = c.args.code; inputs = []; width = c.args.width } in
    let ps = block_at c.want.new.self b ++ x ∷ [] in let qs = block_at c.args.self.now b ++ x ∷ [] in
    let a =
    added_after x row ps qs c.args.self.now c.want.new.self c.claim_last-op.new.self c.want.ensures.same
    c.claim_last-op.ensures.added (ap (λ (f : ℕ → List ℕ). f b ++ x ∷ []) c.want.ensures.same.blocks) in
    added_then x row (record row { inputs = numbers c.args.inputs.now }) qs c.args.self.now c.claim_last-op.new.self
    c.attach_all.new.self a
    (c.attach_all.ensures.row row
    (added_op x row ps c.want.new.self c.claim_last-op.new.self c.claim_last-op.ensures.added)) refl
