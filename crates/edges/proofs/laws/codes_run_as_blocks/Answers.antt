use Rattle.edges.proofs.Codes.{seen_is}
use Rattle.edges.proofs.laws.codes_run_as_blocks.Goals as goal

pub returns : goal.returns
returns c = seen_is
