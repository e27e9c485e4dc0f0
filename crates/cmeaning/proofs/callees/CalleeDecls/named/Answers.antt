use Rattle.std.proofs.Common.{sym, ap, ◌∙◌}
use Rattle.cmeaning.specs.Places.{first_of, has_name}
use Rattle.cmeaning.proofs.Places.{none_first, some_first}
use Rattle.cmeaning.proofs.callees.CalleeDecls.named.Goals as goal

pub returns-in-Some : goal.returns-in-Some
returns-in-Some c =
    c.get-in-Some.ensures.value
    ∙ (some_first (has_name c.args.name.now) c.in-Some.place.now c.self.inside.listed
    (sym (c.self.invariant.1 c.args.name.now) ∙ sym c.in-Some.ensures.value)).1
    ∙ ap (first_of (has_name c.args.name.now)) c.self.view_is

pub returns-in-None : goal.returns-in-None
returns-in-None c =
    none_first (has_name c.args.name.now) c.self.inside.listed
    (sym (c.self.invariant.1 c.args.name.now) ∙ sym c.in-None.ensures.value)
    ∙ ap (first_of (has_name c.args.name.now)) c.self.view_is
