use Rattle.std.proofs.Common.{List, subst}
use Rattle.pcode_model.specs.declared.tables.TableAt.{TableAt}
use Rattle.pcode_model.specs.Flow.{NoFault}
use Rattle.listing_suite.proofs.stack_frames.frame_of.Goals as goal

pub frame-requires-clause-no_fault : goal.frame-requires-clause-no_fault
frame-requires-clause-no_fault c =
    let P : List TableAt → Type 0 = λ t. NoFault c.in_ok-listing.listing t in
    subst P c.new-tables.ensures c.in-Ok.ensures.no_fault
