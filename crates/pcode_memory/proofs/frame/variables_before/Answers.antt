use Rattle.std.proofs.Common.{Bool, rules}
use Rattle.std.proofs.lemmas.List.Sorted.{IsPartitionPoint-from_clause}
use Rattle.pcode_model.specs.declared.frame.FrameVariable.{FrameVariable}
use Rattle.pcode_memory.specs.Frame.{EndsBefore, ends_by}
use Rattle.pcode_memory.proofs.Frames.{ends_down, parted, point_is}
use Rattle.pcode_memory.proofs.frame.variables_before.Goals as goal

pub returns : goal.returns
returns c =
    let q = c.args in
    let xs = q.variables.now in
    let test : FrameVariable → Bool = λ v. ends_by v q.offset in
    let parts = parted EndsBefore test (ends_down q.offset) xs c.requires in
    let called = c.partition_point in
    let point =
    IsPartitionPoint-from_clause test xs called.result called.ensures.partitioned parts (λ a r f k. search rules) in
    point_is test xs called.result point called.ensures.bound
