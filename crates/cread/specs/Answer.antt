-- What the reader of C text answers. This project's own.
use Rattle.std.specs.Prelude.{◌≡◌, Result, Ok, Err}
use Rattle.cmeaning.specs.declared.tree.CFunction.{CFunction}
use Rattle.cread.specs.declared.item.CFault.{CFault}
use Rattle.cread.specs.declared.item.CFault.TheVariants.{NotC, Memory}

-- the answer is this tree, unless memory ran out
abbrev pub IsAnswered : CFunction → Result CFunction CFault → Type 0
IsAnswered f (Ok g) = g ≡ f
IsAnswered f (Err NotC) = ⊥
IsAnswered f (Err Memory) = Unit {0}
