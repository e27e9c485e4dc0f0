use Rattle.std.proofs.Common.{◌≡◌, drop}
use Rattle.entrytext.specs.Forms.{ram_from, ram_named}
use Rattle.entrytext.proofs.spaces.ram_named.Given as goal

abbrev pub invariant-loop-i : goal.invariant-loop-i
invariant-loop-i l = ram_named l.name l.spaces ≡ ram_from l.i l.name (drop l.i l.spaces)
