use Rattle.std.proofs.Common.{◌≡◌, Some, sym, subst, refl}
use Rattle.opgraph.specs.Graph.{OpRow, op_at, IsOp, numbers}
use Rattle.opgraph.proofs.Tables.{value_of}
use Rattle.ssa_model.specs.Outline.{form, outline}
use Rattle.ssa_model.specs.Formed.{Formed}
use Rattle.ssa_model.specs.Edits.{SsaForm, form_at, IsSsa, with_row, AreAvailable}
use Rattle.ssa_model.proofs.Forms.{rewritten_form}
use Rattle.ssa_model.proofs.Rows.{ssa_retargeted}
use Rattle.ssa_model.proofs.function.SsaFunction.retarget.Goals as goal

pub invariant_of-self : goal.invariant_of-self
invariant_of-self c =
    let p = c.self.inside.parts in let x = c.args.op.0 in let vs = numbers c.args.inputs.now in
    let z =
    value_of (op_at p.graph x) (subst (λ (s : SsaForm). IsOp s.parts.graph x) (sym c.self.view_is) c.requires.op) in
    let row : OpRow = record z.0 { code = c.args.code; inputs = vs } in
    let available =
    subst (λ (s : SsaForm). (r : OpRow) → op_at s.parts.graph x ≡ Some r → AreAvailable (form_at s) x r vs)
    (sym c.self.view_is) c.requires.available in
    let formed =
    subst
    (λ (s : SsaForm).
    (r : OpRow)
    → op_at s.parts.graph x ≡ Some r
    → Formed (outline (with_row x (record r { code = c.args.code; inputs = vs }) (form_at s)))) (sym c.self.view_is)
    c.requires.formed in
    subst IsSsa
    (sym (rewritten_form p.blocks p.entry p.graph c.retarget.new.self x row (c.retarget.ensures.row z.0 z.1)))
    (ssa_retargeted x z.0 row (form p) z.1 refl c.self.invariant.strict c.requires.plain (available z.0 z.1)
    (formed z.0 z.1))
