use Rattle.std.proofs.Common.{◌≡◌, ℕ, ◌≤◌, ap, arith, ◌∙◌}
use Rattle.pcode_model.specs.declared.listing.Space.{Space}
use Rattle.pcode_model.specs.declared.listing.SpaceKind.TheVariants.{Ram}
use Rattle.pcode_model.specs.Spaces.{number_of}
use Rattle.std.specs.Prelude.{List}
use Rattle.op_code.proofs.Frames.{stack_few, stack_shift, stack_some}
use Rattle.op_code.proofs.frame.stack_size.Goals as goal

pub overflow_shl-result : goal.overflow_shl-result
overflow_shl-result c =
    let ram = c.number_of-ram.ensures ∙ ap (λ (ss : List Space). number_of Ram ss) c.as_slice.ensures in
    let few : c.from.result ≤ 8 =
    stack_few c.args.listing.now c.number_of-ram.result c.from.result ram (c.from.ensures ∙ c.offset_bytes-bytes.ensures)
    c.requires in
    omega (arith, few)

pub returns : goal.returns
returns c =
    let ram = c.number_of-ram.ensures ∙ ap (λ (ss : List Space). number_of Ram ss) c.as_slice.ensures in
    let bytes = c.from.ensures ∙ c.offset_bytes-bytes.ensures in
    record {
      size = stack_shift c.args.listing.now c.number_of-ram.result c.from.result ram bytes c.requires;
      some = stack_some c.args.listing.now c.number_of-ram.result c.from.result ram bytes c.requires;
    }
