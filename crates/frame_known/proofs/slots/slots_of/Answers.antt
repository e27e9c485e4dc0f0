use Rattle.std.proofs.lemmas.List.Filters.{dedup_is}
use Rattle.frame_known.proofs.Collected.{are_slots}
use Rattle.frame_known.proofs.slots.slots_of.Goals as goal

pub returns : goal.returns
returns c =
    are_slots c.args.listing.now c.requires
    (record { width = c.width.result; offsets = c.offsets.result; keys = c.dedup.new.self })
    c.in_ok-keys.keys.items c.sort_unstable.new.self.items c.width.ensures c.offsets.ensures.value
    c.offsets.ensures.some c.offsets.ensures.few (c.in_ok-keys.ensures {u = tt}) c.sort_unstable.ensures.permutation
    c.sort_unstable.ensures.sorted (dedup_is _ _ _ c.dedup.ensures.filtered)
