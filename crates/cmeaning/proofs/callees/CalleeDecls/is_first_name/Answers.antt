use Rattle.std.proofs.Common.{sym, ap, ap₂, ◌∙◌}
use Rattle.cmeaning.specs.Places.{place, has_name}
use Rattle.cmeaning.specs.Firsts.{is_place, is_first_name}
use Rattle.cmeaning.proofs.callees.CalleeDecls.is_first_name.Goals as goal

pub returns-in-Declared : goal.returns-in-Declared
returns-in-Declared c =
    c.stands_at.ensures
    ∙ ap (is_place c.args.at) (c.copied.ensures ∙ c.get.ensures.value ∙ c.self.invariant.1 c.as_slice.result.now)
    ∙ ap₂ (λ name callees. is_place c.args.at (place (has_name name) callees)) c.as_slice.ensures c.self.view_is
    ∙ ap (is_first_name c.args.at c.args.self.now) (sym c.in-Declared.is)
