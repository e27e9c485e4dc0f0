use Rattle.std.proofs.Common.{◌≡◌, ◌≤◌, drop}
use Rattle.pcode_model.specs.Memory.{poke_whole}
use Rattle.pcode_model.specs.Spaces.{each_at}
use Rattle.run_world.specs.Setting.{size}
use Rattle.pcode_memory.specs.Context.{whole_of}
use Rattle.pcode_memory.proofs.whole.Whole.write.Given as goal

abbrev pub invariant-loop-b : goal.invariant-loop-b
invariant-loop-b l = record {
  inside : l.here ≤ l.shape.last;
  written : each_at (size l.shape) (poke_whole l.context.listing.now l.space) l.here (drop l.b-index l.bytes)
      (whole_of l.self)
      ≡ each_at (size l.shape) (poke_whole l.context.listing.now l.space) l.address l.bytes (whole_of l.initial.self);
}
