use Rattle.std.proofs.Common.{ap, ◌∙◌}
use Rattle.cmeaning.specs.Entries.{is_param, has_entry}
use Rattle.cmeaning.specs.Places.{place}
use Rattle.cmeaning.proofs.Entries.{entry_place}
use Rattle.cmeaning.proofs.param_decls.ParamDecls.place.Goals as goal

pub returns : goal.returns
returns c =
    c.copied.ensures ∙ c.get.ensures.value ∙ c.self.invariant (c.args.model, c.key.result)
    ∙ ap (λ k. place (has_entry (c.args.model, k)) c.self.inside.listed) c.key.ensures
    ∙ entry_place c.args.model c.args.storage c.self.inside.listed
    ∙ ap (place (is_param c.args.model c.args.storage)) c.self.view_is
