use Rattle.std.proofs.Common.{[], ◌∷◌, ℕ, List, Some, ap}
use Rattle.opgraph.specs.declared.code.Code.TheVariants as code
use Rattle.opgraph.specs.Graph.{block_at}
use Rattle.opgraph.proofs.Sames.{added_after}
use Rattle.opgraph.proofs.graph.OpGraph.add_multi.Goals as goal

pub returns-clause-added : goal.returns-clause-added
returns-clause-added c =
    let x = c.claim_first.result in let b = c.args.block.0 in
    added_after x (record { block = b; code = code.Multi c.args.atom; inputs = []; width = Some c.args.width })
    (x ∷ block_at c.reserve.new.self b) (x ∷ block_at c.args.self.now b) c.args.self.now c.reserve.new.self
    c.claim_first.new.self c.reserve.ensures.same c.claim_first.ensures.added
    (ap (λ (f : ℕ → List ℕ). x ∷ f b) c.reserve.ensures.same.blocks)
