use Rattle.std.proofs.Common.{◌≡◌, ◌∙◌, ◌≤◌, ◌*◌, ◌^◌, ◌%◌, ap, arith}
use Rattle.bits_core.specs.Value.{limit}
use Rattle.instructions.proofs.Indices.{limit_by}
use Rattle.frame_facts.specs.Accesses.{stack_width}
use Rattle.frames.proofs.Low.{limit_few, width_few}
use Rattle.frames.proofs.offsets.limit.Goals as goal

pub returns : goal.returns
returns c =
    let l = c.args.listing.now in
    let few : c.width.result ≤ 8 = omega (arith, width_few l c.requires, c.width.ensures) in
    let value : 1 * 2 ^ (8 * c.width.result) % 2 ^ 128 ≡ limit (stack_width l) =
    limit_by c.width.result few ∙ ap limit c.width.ensures in
    record { value = value; few = omega (arith, value, limit_few l c.requires) }
