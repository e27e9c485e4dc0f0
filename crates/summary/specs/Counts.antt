-- The numbers of a listing and of its C, and their lines. This project's own.
use Rattle.std.specs.Prelude.{ℕ, List, length, ◌++◌, codes, decimal}
use Rattle.pcode_model.specs.declared.listing.Listing.{Listing}
use Rattle.pcode_model.specs.WellFormed.{total_ops}
use Rattle.cmeaning.specs.declared.tree.CFunction.{CFunction}
use Rattle.summary.specs.declared.counts.Counts.{Counts}
use Rattle.summary.specs.Gotos.{gotos_of}

-- of a listing with so many blocks and atoms, and of a C function with this text
abbrev pub counts_of : Listing → ℕ → ℕ → CFunction → List ℕ → Counts
counts_of l blocks atoms f text = record {
  ops = total_ops l.code;
  blocks = blocks;
  atoms = atoms;
  gotos = gotos_of f;
  bytes = length text;
}

-- a word, a space and a number in decimal
abbrev pub line : List ℕ → ℕ → List ℕ
line name n = name ++ (codes " " ++ (decimal n ++ codes "\n"))

abbrev pub lines_of : Counts → List ℕ
lines_of n =
    line (codes "ops") n.ops
    ++ (line (codes "blocks") n.blocks
    ++ (line (codes "atoms") n.atoms ++ (line (codes "gotos") n.gotos ++ line (codes "bytes") n.bytes)))
