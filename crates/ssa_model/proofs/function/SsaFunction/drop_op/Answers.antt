use Rattle.std.proofs.Common.{◌≡◌, [], Some, sym, subst}
use Rattle.opgraph.specs.Graph.{OpRow, op_at, uses_at, IsOp}
use Rattle.opgraph.proofs.Tables.{value_of}
use Rattle.ssa_model.specs.Outline.{form, outline}
use Rattle.ssa_model.specs.Formed.{Formed}
use Rattle.ssa_model.specs.Edits.{SsaForm, form_at, IsSsa, without_op}
use Rattle.ssa_model.proofs.Forms.{removed_form, unread}
use Rattle.ssa_model.proofs.Places.{ssa_dropped}
use Rattle.ssa_model.proofs.function.SsaFunction.drop_op.Goals as goal

pub invariant_of-self : goal.invariant_of-self
invariant_of-self c =
    let p = c.self.inside.parts in let x = c.args.op.0 in
    let z =
    value_of (op_at p.graph x) (subst (λ (s : SsaForm). IsOp s.parts.graph x) (sym c.self.view_is) c.requires.op) in
    let none = subst (λ (s : SsaForm). uses_at s.parts.graph x ≡ []) (sym c.self.view_is) c.requires.uses in
    let formed =
    subst
    (λ (s : SsaForm).
    (r : OpRow) → op_at s.parts.graph x ≡ Some r → Formed (outline (without_op x r (form_at s)))) (sym c.self.view_is)
    c.requires.formed in
    subst IsSsa
    (sym (removed_form p.blocks p.entry p.graph c.remove.new.self x z.0 (c.remove.ensures.removed z.0 z.1)))
    (ssa_dropped x z.0 (form p) (unread p.graph c.known.ensures x none) c.self.invariant.strict (formed z.0 z.1))
