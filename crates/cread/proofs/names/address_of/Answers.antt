use Rattle.std.proofs.Common.{ap, ◌∙◌}
use Rattle.std.specs.Option.{option_map}
use Rattle.cread.proofs.Named.{addressed}
use Rattle.cread.proofs.names.address_of.Goals as goal

pub returns-in-Some : goal.returns-in-Some
returns-in-Some c = ap (option_map (λ d. d.address)) c.in-Some.ensures ∙ addressed c.args.name.now c.args.callees.now

pub returns-in-None : goal.returns-in-None
returns-in-None c = ap (option_map (λ d. d.address)) c.in-None.ensures ∙ addressed c.args.name.now c.args.callees.now
