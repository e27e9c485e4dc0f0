use Rattle.std.proofs.Common.{◌≡◌, ◌∙◌, ◌≤◌, SFits, ap, length, of_z, rules, sym, to_z, w32}
use Rattle.std.specs.Int.{w128}
use Rattle.std.specs.Prelude.{int_le}
use Rattle.std.proofs.lemmas.Int.{to_z-of_z}
use Rattle.pcode_memory.specs.Frame.{ends_by, first_past}
use Rattle.pcode_memory.proofs.Frames.{held_by, held_past}
use Rattle.pcode_memory.proofs.frame.any_holds.Goals as goal

pub returns-in-None : goal.returns-in-None
returns-in-None c =
    let q = c.args in
    let here = to_z-of_z w128 q.offset c.ranges.offset in
    let is = c.variables_before.ensures ∙ ap (λ z. first_past (λ v. ends_by v z) q.variables.now) here in
    let past : length q.variables.now ≤ c.variables_before.result = search rules in
    sym (held_past q.offset q.variables.now c.requires c.variables_before.result is past)

pub returns-in-Some : goal.returns-in-Some
returns-in-Some c =
    let q = c.args in
    let v = c.in-Some.variable.now in
    let narrow : SFits w32 v.offset = search rules in
    let wide : SFits w128 c.from.result = search rules in
    let here = to_z-of_z w128 q.offset c.ranges.offset in
    let is = c.variables_before.ensures ∙ ap (λ z. first_past (λ v. ends_by v z) q.variables.now) here in
    let begins = to_z-of_z w128 c.from.result wide ∙ c.from.ensures ∙ to_z-of_z w32 v.offset narrow in
    ap (λ z. int_le z (to_z w128 (of_z w128 q.offset))) begins
    ∙ ap (λ z. int_le v.offset z) here
    ∙ sym
    (held_by q.offset q.variables.now c.requires c.variables_before.result is v (c.in-Some.ensures {u = tt}).lookup.3.0
    (c.in-Some.ensures {u = tt}).lookup.1)
