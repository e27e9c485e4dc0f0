use Rattle.std.proofs.Common.{Bool, rules}
use Rattle.std.proofs.lemmas.List.Sorted.{IsPartitionPoint-from_clause}
use Rattle.pcode_model.specs.declared.frame.FrameAccess.{FrameAccess}
use Rattle.pcode_model.specs.Places.{place}
use Rattle.pcode_memory.specs.Frame.{ComesBefore, comes_before}
use Rattle.pcode_memory.proofs.Frames.{comes_down, parted, point_is}
use Rattle.pcode_memory.proofs.frame.accesses_before.Goals as goal

pub returns : goal.returns
returns c =
    let q = c.args in
    let xs = q.accesses.now in
    let test : FrameAccess → Bool = λ a. comes_before a (place q.address q.index) q.argument in
    let parts = parted ComesBefore test (comes_down (place q.address q.index) q.argument) xs c.requires in
    let called = c.partition_point in
    let point =
    IsPartitionPoint-from_clause test xs called.result called.ensures.partitioned parts (λ a r f k. search rules) in
    point_is test xs called.result point called.ensures.bound
