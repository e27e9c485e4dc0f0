use Rattle.std.proofs.Common.{◌≡◌, ◌∙◌, true, false, sym, ap}
use Rattle.pcode_model.specs.Spaces.{is_fixed, is_some}
use Rattle.run_world.proofs.Effects.{fixed_is}
use Rattle.run_world.proofs.Steps.{same_some}
use Rattle.pcode_memory.specs.Effects.{end_by}
use Rattle.pcode_memory.proofs.effects.refused.Goals as goal

pub returns-then-is_some : goal.returns-then-is_some
returns-then-is_some c =
    let l = c.args.context.now.listing.now in
    let framed = sym c.is_framed.ensures ∙ c.if-is_framed.false in
    let fixed : is_fixed l c.args.byte.space c.args.byte.offset ≡ true =
    sym (c.is_some.ensures
    ∙ same_some c.get.result
    ∙ ap is_some c.get.ensures
    ∙ fixed_is l c.args.context.now.setting c.requires.setting c.args.byte.space c.args.byte.offset)
    ∙ c.if-is_some.true in
    sym (ap (λ t. end_by t (is_fixed l c.args.byte.space c.args.byte.offset)) framed ∙ ap (end_by false) fixed)

pub returns : goal.returns
returns c =
    let l = c.args.context.now.listing.now in
    let framed = sym c.is_framed.ensures ∙ c.if-is_framed.false in
    let fixed : is_fixed l c.args.byte.space c.args.byte.offset ≡ false =
    sym (c.is_some.ensures
    ∙ same_some c.get.result
    ∙ ap is_some c.get.ensures
    ∙ fixed_is l c.args.context.now.setting c.requires.setting c.args.byte.space c.args.byte.offset)
    ∙ c.if-is_some.false in
    sym (ap (λ t. end_by t (is_fixed l c.args.byte.space c.args.byte.offset)) framed ∙ ap (end_by false) fixed)
