use Rattle.std.proofs.Common.{IsTrue}
use Rattle.machine.proofs.Machine.{two_way_waiting}
use Rattle.machine.proofs.Ranked.{two_way_ranked}
use Rattle.machine.proofs.Agree.{frame_law_by}
use Rattle.machine.proofs.simulations_show_the_same.Goals as goal

pub returns : goal.returns
returns c = record {
  waiting = λ a b related size. two_way_waiting a b (λ s t. IsTrue (related s t)) size;
  ranked = λ a b related. two_way_ranked a b (λ n s t. IsTrue (related n s t));
  follows = λ a b related. frame_law_by a b (λ s t. IsTrue (related s t));
}
