use Rattle.edges.proofs.Merge.{merged_shows, merged_defined}
use Rattle.edges.proofs.laws.under_names.Goals as goal

pub returns : goal.returns
returns c = λ l k m name e merged defined. record {
  runs = merged_shows l k name m merged e defined;
  defined = merged_defined l k name m merged e defined;
}
