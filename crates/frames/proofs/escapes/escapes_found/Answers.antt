use Rattle.std.proofs.lemmas.List.Filters.{dedup_is}
use Rattle.frames.proofs.Whole.{escapes_listed}
use Rattle.frames.proofs.escapes.escapes_found.Goals as goal

pub returns : goal.returns
returns c =
    escapes_listed c.args.listing.now c.args.blocks.now c.args.known.now c.requires.known c.requires.flow
    c.in_ok-found.found.items c.sort_unstable.new.self.items c.dedup.new.self.items (c.in_ok-found.ensures {u = tt})
    c.sort_unstable.ensures.permutation c.sort_unstable.ensures.sorted (dedup_is _ _ _ c.dedup.ensures.filtered)
