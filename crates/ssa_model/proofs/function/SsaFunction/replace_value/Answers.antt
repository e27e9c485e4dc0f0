use Rattle.std.proofs.Common.{◌≡◌, sym, ap, ◌∙◌, subst}
use Rattle.opgraph.specs.Graph.{op_at}
use Rattle.ssa_model.specs.Outline.{form, width_at}
use Rattle.ssa_model.specs.Edits.{SsaForm, form_at, IsSsa, renaming, IsAvailableFor}
use Rattle.ssa_model.proofs.Forms.{renamed_form}
use Rattle.ssa_model.proofs.Renaming.{ssa_renamed}
use Rattle.ssa_model.proofs.function.SsaFunction.replace_value.Goals as goal

pub invariant_of-self : goal.invariant_of-self
invariant_of-self c =
    let p = c.self.inside.parts in let a = c.args.old_value.0 in let b = c.args.new_value.0 in
    let width =
    subst (λ (z : SsaForm). width_at (op_at z.parts.graph) a ≡ width_at (op_at z.parts.graph) b) (sym c.self.view_is)
    c.requires.width in
    let available = subst (λ (z : SsaForm). IsAvailableFor (form_at z) a b) (sym c.self.view_is) c.requires.available in
    subst IsSsa
    (sym (renamed_form p.blocks p.entry p.graph c.replace_uses.new.self a b c.replace_uses.ensures.renamed))
    (ssa_renamed a b (form p) width c.self.invariant available)

pub returns-clause-form : goal.returns-clause-form
returns-clause-form c =
    let p = c.self.inside.parts in let a = c.args.old_value.0 in let b = c.args.new_value.0 in
    renamed_form p.blocks p.entry p.graph c.replace_uses.new.self a b c.replace_uses.ensures.renamed
    ∙ ap (λ (z : SsaForm). renaming a b (form_at z)) c.self.view_is
