use Rattle.opgraph.proofs.More.{nodes_more}
use Rattle.opgraph.proofs.growth.ensure_use.Goals as goal

pub returns-in_ok-add_spare-clause-kept : goal.returns-in_ok-add_spare-clause-kept
returns-in_ok-add_spare-clause-kept c = nodes_more c.args.uses.now c.add_spare.new.self c.in_ok-add_spare.ensures.ok
