use Rattle.std.proofs.Common.{◌≡◌, ◌≤◌, length, drop}
use Rattle.pcode_model.specs.Spaces.{fixed_in}
use Rattle.run_world.specs.Maps.{at}
use Rattle.run_world.proofs.setting.fixed_bytes.Given as goal

abbrev pub invariant-loop-i : goal.invariant-loop-i
invariant-loop-i l = record {
  inside : l.i ≤ length l.fixed;
  put : at l.map ≡ fixed_in (drop l.i l.fixed);
}

abbrev pub decreases-loop-i : goal.decreases-loop-i
decreases-loop-i l = l.i
