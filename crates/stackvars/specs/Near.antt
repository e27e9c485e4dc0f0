-- Frames whose accesses lie near the stack pointer's entry word. This project's own.
use Rattle.std.specs.Prelude.{◌^◌, ◌<◌, pos, neg_ℤ, ◌≤ℤ◌}
use Rattle.std.specs.List.{AllByRecursion}
use Rattle.pcode_model.specs.declared.frame.Frame.{Frame}
use Rattle.pcode_model.specs.declared.frame.FrameAccess.{FrameAccess}

-- it begins at most 2^20 bytes from the entry word, and its size has at most five decimal digits
pub record IsNearAccess (a : FrameAccess) : Type 0 where
  pub from : neg_ℤ (pos (2 ^ 20)) ≤ℤ a.offset
  pub to : a.offset ≤ℤ pos (2 ^ 20)
  pub few : a.size < 10 ^ 5

-- so is each access of a frame variable
abbrev pub HasNearAccesses : Frame → Type 0
HasNearAccesses f = AllByRecursion IsNearAccess f.accesses
