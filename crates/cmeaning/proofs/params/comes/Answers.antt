use Rattle.std.proofs.Common.{sym, ◌∙◌}
use Rattle.cmeaning.proofs.Order.{model_came, no_last}
use Rattle.cmeaning.proofs.params.comes.Goals as goal

pub returns-in-Ok : goal.returns-in-Ok
returns-in-Ok c known holds =
    model_came c.args.seen.now c.insert.new.self c.args.last known c.args.p.now c.key.result c.in-Ok.added
    (sym c.storage_fits.ensures ∙ c.if-not-storage_fits.false) c.if-not-p.false
    (no_last c.args.last c.is_some.result c.is_some.ensures c.if-is_some.false) c.key.ensures
    c.in-Ok.ensures.added c.in-Ok.ensures.updates holds
