use Rattle.std.proofs.Common.{sym, ap, ◌∙◌}
use Rattle.cmeaning.specs.Places.{has_address}
use Rattle.cmeaning.specs.Valid.{declared_in}
use Rattle.cmeaning.proofs.Places.{none_first, some_first}
use Rattle.cmeaning.proofs.callees.CalleeDecls.declared.Goals as goal

pub returns-in-Some : goal.returns-in-Some
returns-in-Some c =
    c.get-in-Some.ensures.value
    ∙ (some_first (has_address c.args.address) c.in-Some.place.now c.self.inside.listed
    (sym (c.self.invariant.0 c.args.address) ∙ sym c.in-Some.ensures.value)).1
    ∙ ap (λ cs. declared_in cs c.args.address) c.self.view_is

pub returns-in-None : goal.returns-in-None
returns-in-None c =
    none_first (has_address c.args.address) c.self.inside.listed
    (sym (c.self.invariant.0 c.args.address) ∙ sym c.in-None.ensures.value)
    ∙ ap (λ cs. declared_in cs c.args.address) c.self.view_is
