use Rattle.edges.specs.Live.{Live}
use Rattle.edges.proofs.Dead.{pruned_shows, pruned_defined}
use Rattle.edges.proofs.laws.without_dead.Goals as goal

pub returns : goal.returns
returns c = λ l k m e pruned defined. record {
  runs = pruned_shows l (Live k) k m pruned e defined;
  defined = pruned_defined l (Live k) k m pruned e defined;
}
