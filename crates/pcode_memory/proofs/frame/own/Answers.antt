use Rattle.std.proofs.Common.{◌≡◌, ◌∙◌, ◌≤◌, List, Some, SFits, ap, length, rules, subst, sym, w32}
use Rattle.std.proofs.lemmas.Int.{to_z-of_z}
use Rattle.pcode_model.specs.declared.frame.FrameAccess.{FrameAccess}
use Rattle.pcode_model.specs.Frame.{own_in, wrapped}
use Rattle.pcode_model.specs.Places.{place}
use Rattle.run_world.specs.Setting.{size}
use Rattle.pcode_memory.specs.Frame.{ComesBefore, Rise}
use Rattle.pcode_memory.proofs.Frames.{own_is, own_isnt, own_past}
use Rattle.pcode_memory.proofs.frame.own.Goals as goal

pub returns-in_default : goal.returns-in_default
returns-in_default c =
    let q = c.args in
    let xs = c.as_slice-accesses.result.now in
    let up : Rise ComesBefore xs =
    subst (λ (ys : List FrameAccess). Rise ComesBefore ys) (sym c.as_slice-accesses.ensures) c.requires in
    let past : length xs ≤ c.accesses_before-past.result = search rules in
    sym (ap (λ (ys : List FrameAccess). own_in (size q.ram) ys (place q.address q.index) q.argument)
    (sym c.as_slice-accesses.ensures)
    ∙ own_past (size q.ram) (place q.address q.index) q.argument xs up c.accesses_before-past.result
    c.accesses_before-past.ensures past)

pub returns-then-is_at : goal.returns-then-is_at
returns-then-is_at c =
    let q = c.args in
    let xs = c.as_slice-accesses.result.now in
    let a = c.in-Some.access.now in
    let up : Rise ComesBefore xs =
    subst (λ (ys : List FrameAccess). Rise ComesBefore ys) (sym c.as_slice-accesses.ensures) c.requires in
    let fits : SFits w32 a.offset = search rules in
    let offset = c.wrapped.ensures ∙ ap (λ z. wrapped (size q.ram) z) (to_z-of_z w32 a.offset fits) in
    ap Some offset
    ∙ sym (ap (λ (ys : List FrameAccess). own_in (size q.ram) ys (place q.address q.index) q.argument)
    (sym c.as_slice-accesses.ensures)
    ∙ own_is (size q.ram) (place q.address q.index) q.argument xs up c.accesses_before-past.result
    c.accesses_before-past.ensures a (c.in-Some.ensures {u = tt}).lookup.3.0 (c.in-Some.ensures {u = tt}).lookup.1
    (sym c.is_at.ensures ∙ c.if-is_at.true))

pub returns-else-is_at : goal.returns-else-is_at
returns-else-is_at c =
    let q = c.args in
    let xs = c.as_slice-accesses.result.now in
    let a = c.in-Some.access.now in
    let up : Rise ComesBefore xs =
    subst (λ (ys : List FrameAccess). Rise ComesBefore ys) (sym c.as_slice-accesses.ensures) c.requires in
    sym (ap (λ (ys : List FrameAccess). own_in (size q.ram) ys (place q.address q.index) q.argument)
    (sym c.as_slice-accesses.ensures)
    ∙ own_isnt (size q.ram) (place q.address q.index) q.argument xs up c.accesses_before-past.result
    c.accesses_before-past.ensures a (c.in-Some.ensures {u = tt}).lookup.3.0 (c.in-Some.ensures {u = tt}).lookup.1
    (sym c.is_at.ensures ∙ c.if-is_at.false))
