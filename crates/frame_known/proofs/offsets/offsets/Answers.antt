use Rattle.std.proofs.Common.{◌≡◌}
use Rattle.pcode_model.specs.Spaces.{first_ram}
use Rattle.frame_known.proofs.Ranges.{count_by, count_none}
use Rattle.frame_known.proofs.offsets.offsets.Goals as goal

pub returns-in-Some : goal.returns-in-Some
returns-in-Some c =
    let ram : c.number_of-ram.result ≡ first_ram c.args.listing.now = cc in
    let x =
    count_by c.args.listing.now c.in-Some.space.now c.number_of-ram.result c.from.result c.requires ram
    (c.in-Some.ensures {u = tt}).value c.from.ensures in
    record { value = x.value; some = x.some; few = x.few }

pub returns-in-None-clause-value : goal.returns-in-None-clause-value
returns-in-None-clause-value c =
    let ram : c.number_of-ram.result ≡ first_ram c.args.listing.now = cc in
    count_none c.args.listing.now c.number_of-ram.result ram (c.in-None.ensures {u = tt}).value
