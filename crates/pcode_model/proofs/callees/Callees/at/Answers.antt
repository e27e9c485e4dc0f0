use Rattle.std.proofs.Common.{◌∙◌, List, ℕ, ap, sym}
use Rattle.std.specs.Prelude.{nat_eq, position}
use Rattle.std.specs.List.{list_any}
use Rattle.pcode_model.specs.declared.listing.Function.{Function}
use Rattle.pcode_model.specs.Step.{callee_in}
use Rattle.pcode_model.proofs.CalleeTable.{addressed_is, callee_found, callee_none}
use Rattle.pcode_model.proofs.callees.Callees.at.Goals as goal

pub returns-in-Some : goal.returns-in-Some
returns-in-Some c =
    c.get.ensures.value
    ∙ callee_found c.args.address c.self.inside.listed c.in-Some.place
    (sym (ap (position (nat_eq c.args.address)) c.self.invariant) ∙ sym c.in-Some.ensures.index)
    ∙ ap (λ (fs : List Function). callee_in fs c.args.address) c.self.view_is

pub returns-in-None : goal.returns-in-None
returns-in-None c =
    sym (callee_none c.args.address c.self.inside.listed
    (sym (addressed_is c.args.address c.self.inside.listed)
    ∙ sym (ap (list_any (nat_eq c.args.address)) c.self.invariant)
    ∙ sym c.in-None.ensures.found))
    ∙ ap (λ (fs : List Function). callee_in fs c.args.address) c.self.view_is
