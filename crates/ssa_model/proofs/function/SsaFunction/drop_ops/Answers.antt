use Rattle.std.proofs.Common.{◌≡◌, ◌+◌, arith, ap, sym, ◌∙◌, subst}
use Rattle.opgraph.specs.Graph.{op_at}
use Rattle.ssa_model.specs.Outline.{form, outline}
use Rattle.ssa_model.specs.Formed.{Formed}
use Rattle.ssa_model.specs.Edits.{SsaForm, form_at, IsSsa}
use Rattle.ssa_model.specs.Drops.{op_numbers, AreOps, AreUnread, slots_of, without_ops}
use Rattle.ssa_model.proofs.Without.{ssa_without, ops_still, read_by_none, no_slots, dropped_form}
use Rattle.ssa_model.proofs.function.SsaFunction.drop_ops.Goals as goal

pub remove_all-requires-clause-ops : goal.remove_all-requires-clause-ops
remove_all-requires-clause-ops c =
    let xs = op_numbers c.args.ops.now in
    ops_still xs c.self.inside.parts.graph c.blank_all.new.graph c.blank_all.ensures.blanked xs (λ y m. m)
    (subst (λ (s : SsaForm). AreOps s.parts.graph xs) (sym c.self.view_is) c.requires.ops)

pub remove_all-requires-clause-unread : goal.remove_all-requires-clause-unread
remove_all-requires-clause-unread c =
    let xs = op_numbers c.args.ops.now in
    read_by_none xs c.self.inside.parts.graph c.blank_all.new.graph c.blank_all.ensures.blanked
    (subst (λ (s : SsaForm). AreUnread (op_at s.parts.graph) xs) (sym c.self.view_is) c.requires.unread)

pub invariant_of-self : goal.invariant_of-self
invariant_of-self c =
    let p = c.self.inside.parts in let xs = op_numbers c.args.ops.now in
    let unread =
    subst (λ (s : SsaForm). AreUnread (op_at s.parts.graph) xs) (sym c.self.view_is) c.requires.unread in
    let formed =
    subst (λ (s : SsaForm). Formed (outline (without_ops xs (form_at s)))) (sym c.self.view_is) c.requires.formed in
    subst IsSsa
    (sym (dropped_form xs p.graph c.blank_all.new.graph c.blank_all.ensures.blanked p.blocks p.entry
    c.remove_all.new.graph c.remove_all.ensures.cleared))
    (ssa_without xs (form p) c.self.invariant.strict unread formed)

pub returns-clause-form : goal.returns-clause-form
returns-clause-form c =
    let p = c.self.inside.parts in let xs = op_numbers c.args.ops.now in
    dropped_form xs p.graph c.blank_all.new.graph c.blank_all.ensures.blanked p.blocks p.entry
    c.remove_all.new.graph c.remove_all.ensures.cleared
    ∙ ap (λ (z : SsaForm). without_ops xs (form_at z)) c.self.view_is

pub returns-clause-spare_slots : goal.returns-clause-spare_slots
returns-clause-spare_slots c =
    let p = c.self.inside.parts in let xs = op_numbers c.args.ops.now in
    let none = no_slots xs p.graph c.blank_all.new.graph c.blank_all.ensures.blanked xs (λ y m. m) in
    let first = c.blank_all.ensures.spare_slots in let last = c.remove_all.ensures.spare_slots in
    let all : c.remove_all.new.graph.spare_slots ≡ p.graph.spare_slots + slots_of p.graph xs =
    omega (arith, none, first, last) in
    subst (λ (s : SsaForm). c.remove_all.new.graph.spare_slots ≡ s.parts.graph.spare_slots + slots_of s.parts.graph xs)
    c.self.view_is all
