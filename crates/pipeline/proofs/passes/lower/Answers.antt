use Rattle.std.proofs.Common.{ap, ◌∙◌, arith}
use Rattle.layout.specs.Function.{head_of}
use Rattle.plain_form.proofs.Halves.{stack_small}
use Rattle.pipeline.proofs.Forms.{few_blocks_made, few_made, laid_is, lowers, lowers_to}
use Rattle.pipeline.proofs.passes.lower.Goals as goal

pub plain-requires-clause-code : goal.plain-requires-clause-code
plain-requires-clause-code c = c.requires.read.apart

pub plain-requires-clause-frame : goal.plain-requires-clause-frame
plain-requires-clause-frame c =
    let few = c.requires.read.limited.spaces in
    record { spaces = omega (arith, few); offsets = stack_small c.args.accepted.now.listing c.requires.read }

pub laid_out-requires : goal.laid_out-requires
laid_out-requires c =
    few_blocks_made c.args.accepted.now.listing c.args.accepted.now.frame c.args.accepted.now.flow c.args.accepted.now.atoms c.in_ok-code.code
    c.in_ok-code.ensures.code c.requires.few_blocks

pub returns : goal.returns
returns c =
    let l = c.args.accepted.now.listing in
    let frame = c.args.accepted.now.frame in
    let blocks = c.args.accepted.now.flow in
    let atoms = c.args.accepted.now.atoms in
    let passed = c.requires in
    let is = laid_is l frame blocks atoms c.in_ok-name.name c.result_width.result c.in_ok-callees.callees c.in_ok-head.head
    c.in_ok-code.code c.in_ok-function.function c.in_ok-function.ensures
    (c.in_ok-head.ensures
    ∙ ap (head_of c.in_ok-name.name c.result_width.result c.in_ok-callees.callees) c.as_slice-2.ensures)
    (c.in_ok-name.ensures ∙ c.as_slice.ensures) c.result_width.ensures c.in_ok-callees.ensures
    c.in_ok-code.ensures.code in
    lowers_to l frame c.in_ok-function.function _ is
    (lowers l passed.read passed.ops passed.built blocks passed.blocks passed.no_fault passed.few_blocks frame
    passed.frame atoms passed.atoms (few_made l frame blocks atoms c.in_ok-code.code c.in_ok-code.ensures.code c.in_ok-code.ensures.few))
