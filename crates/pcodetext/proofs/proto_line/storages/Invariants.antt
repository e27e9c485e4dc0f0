use Rattle.std.proofs.Common.{◌≡◌, ◌++◌, false, drop, map}
use Rattle.std.specs.List.{list_any}
use Rattle.pcodetext.specs.ProtoLine.{is_far, storage_of}
use Rattle.pcodetext.proofs.proto_line.storages.Given as goal

abbrev pub invariant-loop-range : goal.invariant-loop-range
invariant-loop-range l =
    record {
      made : map storage_of l.ranges ≡ l.made ++ map storage_of (drop l.range-index l.ranges);
      near : list_any is_far (drop l.range-index l.ranges) ≡ false;
    }
