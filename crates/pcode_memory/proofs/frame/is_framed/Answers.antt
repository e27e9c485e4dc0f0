use Rattle.std.proofs.Common.{◌≡◌, ◌∙◌, ◌%◌, List, ap, arith, of_z, sym, to_z}
use Rattle.std.specs.Int.{w128}
use Rattle.std.specs.Prelude.{pos, ◌-ℤ◌, ℤ}
use Rattle.std.proofs.lemmas.Int.{ints}
use Rattle.pcode_model.specs.declared.frame.FrameVariable.{FrameVariable}
use Rattle.pcode_model.specs.Spaces.{or}
use Rattle.run_world.specs.Setting.{size}
use Rattle.pcode_memory.specs.Frame.{any_holds}
use Rattle.pcode_memory.proofs.Frames.{framed_is}
use Rattle.pcode_memory.proofs.frame.is_framed.Goals as goal

pub returns-then-any_holds : goal.returns-then-any_holds
returns-then-any_holds c =
    let q = c.args in
    let vs = q.frame.now.variables in
    let x = pos (q.offset % size q.ram) in
    let above : to_z w128 (of_z w128 c.from-above.result) ≡ pos (q.offset % size q.ram) =
    omega (arith, ints, c.from-above.ensures, c.reduce.ensures.value) in
    let found =
    c.any_holds.ensures
    ∙ ap (λ (ys : List FrameVariable). any_holds ys (to_z w128 (of_z w128 c.from-above.result)))
    c.as_slice-variables.ensures
    ∙ ap (λ (z : ℤ). any_holds vs z) above in
    c.if-any_holds.true
    ∙ sym (framed_is (size q.ram) q.offset (omega arith) vs c.requires.near
    ∙ ap (λ b. or b (any_holds vs (x -ℤ pos (size q.ram)))) (sym found ∙ c.if-any_holds.true))

pub returns-else-any_holds : goal.returns-else-any_holds
returns-else-any_holds c =
    let q = c.args in
    let vs = q.frame.now.variables in
    let x = pos (q.offset % size q.ram) in
    let above : to_z w128 (of_z w128 c.from-above.result) ≡ pos (q.offset % size q.ram) =
    omega (arith, ints, c.from-above.ensures, c.reduce.ensures.value) in
    let below : to_z w128 (of_z w128
    (to_z w128 (of_z w128 (to_z w128 (of_z w128 c.from-above.result) -ℤ to_z w128 (of_z w128 c.from.result))) -ℤ
    pos 1))
    ≡ pos (q.offset % size q.ram) -ℤ pos (size q.ram) =
    omega (arith, ints, c.from-above.ensures, c.from.ensures, c.reduce.ensures.value, c.reduce.ensures.inside)
    in
    let found =
    c.any_holds.ensures
    ∙ ap (λ (ys : List FrameVariable). any_holds ys (to_z w128 (of_z w128 c.from-above.result)))
    c.as_slice-variables.ensures
    ∙ ap (λ (z : ℤ). any_holds vs z) above in
    c.any_holds-else-any_holds.ensures
    ∙ (ap (λ (z : ℤ). any_holds c.as_slice-variables.result.now z) below
    ∙ (ap (λ (ys : List FrameVariable). any_holds ys (x -ℤ pos (size q.ram))) c.as_slice-variables.ensures
    ∙ sym (framed_is (size q.ram) q.offset (omega arith) vs c.requires.near
    ∙ ap (λ b. or b (any_holds vs (x -ℤ pos (size q.ram)))) (sym found ∙ c.if-any_holds.false))))
