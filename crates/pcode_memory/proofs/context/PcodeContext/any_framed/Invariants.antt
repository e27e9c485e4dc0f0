use Rattle.std.proofs.Common.{◌≡◌, ◌≤◌, ◌-◌}
use Rattle.pcode_model.specs.Memory.{is_framed}
use Rattle.pcode_model.specs.Spaces.{any_at}
use Rattle.run_world.specs.Setting.{size}
use Rattle.pcode_memory.specs.Context.{layout_of}
use Rattle.pcode_memory.proofs.context.PcodeContext.any_framed.Given as goal

abbrev pub invariant-loop : goal.invariant-loop
invariant-loop l = record {
  inside : l.here ≤ l.shape.last;
  none : any_at (size l.shape) (is_framed (layout_of l.self) l.space) l.here (l.count - l.counter)
      ≡ any_at (size l.shape) (is_framed (layout_of l.self) l.space) l.address l.count;
}
