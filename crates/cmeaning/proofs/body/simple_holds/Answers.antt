use Rattle.cmeaning.proofs.body.simple_holds.Goals as goal

pub returns-in_default : goal.returns-in_default
returns-in_default c = λ room. c.computation_holds.ensures c.args.rules.labels c.args.after_call c.args.in_loop room

pub returns-in-Call : goal.returns-in-Call
returns-in-Call c = λ room. c.call_holds.ensures c.args.rules.labels c.args.in_loop room
