use Rattle.std.proofs.Common.{◌≡◌, drop}
use Rattle.outside.specs.Files.{file_of}
use Rattle.outside.specs.Files.{folder_of}
use Rattle.outside.proofs.files.place_in.Given as goal

abbrev pub invariant-loop-i : goal.invariant-loop-i
invariant-loop-i l = file_of l.name (folder_of l.files) ≡ file_of l.name (folder_of (drop l.i l.files))
