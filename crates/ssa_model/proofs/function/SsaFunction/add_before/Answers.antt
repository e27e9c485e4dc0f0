use Rattle.std.proofs.Common.{◌≡◌, ℕ, Some, None, sym, subst}
use Rattle.opgraph.specs.Graph.{OpRow, op_at, numbers, IsOp}
use Rattle.opgraph.proofs.Tables.{value_of}
use Rattle.ssa_model.specs.Outline.{form, outline}
use Rattle.ssa_model.specs.Formed.{Formed}
use Rattle.ssa_model.specs.Edits.{SsaForm, form_at, IsSsa, with_op, AreAvailable}
use Rattle.ssa_model.proofs.Forms.{same_form, added_form, apart, by_result}
use Rattle.ssa_model.proofs.Places.{ssa_added}
use Rattle.ssa_model.proofs.function.SsaFunction.add_before.Goals as goal

pub invariant_of-self : goal.invariant_of-self
invariant_of-self c =
    let p = c.self.inside.parts in
    let at = c.args.at.0 in let vs = numbers c.args.inputs.now in let h = c.add_op_before.new.self in
    let z =
    value_of (op_at p.graph at)
    (subst (λ (s : SsaForm). IsOp s.parts.graph at) (sym c.self.view_is) c.requires.at) in
    let row : OpRow = record { block = z.0.block; code = c.args.code; inputs = vs; width = Some c.args.width } in
    let available =
    subst (λ (s : SsaForm). (r : OpRow) → op_at s.parts.graph at ≡ Some r → AreAvailable (form_at s) at r vs)
    (sym c.self.view_is) c.requires.available in
    let formed =
    subst
    (λ (s : SsaForm).
    (x : ℕ) (r : OpRow)
    → op_at s.parts.graph x ≡ None
    → op_at s.parts.graph at ≡ Some r
    → Formed
    (outline
    (with_op x at (record { block = r.block; code = c.args.code; inputs = vs; width = Some c.args.width })
    (form_at s)))) (sym c.self.view_is) c.requires.formed in
    by_result c.add_op_before.result c.add_op_before.ensures.added c.add_op_before.ensures.failed
    (λ op added.
    let a = added z.0 z.1 in
    subst IsSsa (sym (added_form p.blocks p.entry p.graph h op.0 at row a))
    (ssa_added op.0 at row (form p) a.fresh (apart p.graph c.known.ensures op.0 a.fresh row.block)
    c.self.invariant.strict c.requires.plain (record { at = (available z.0 z.1).at })
    (formed op.0 z.0 a.fresh z.1)))
    (λ e failed. subst IsSsa (sym (same_form p.blocks p.entry p.graph h failed.0)) c.self.invariant)
