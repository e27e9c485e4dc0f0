-- Small SSA functions.
use Rattle.std.specs.Prelude.{ℕ, negsuc, true, List, [], ◌∷◌, codes, Option, Some, None}
use Rattle.std.proofs.Common.{lit<, lit≤}
use Rattle.bits_core.specs.declared.word.Width.{Width}
use Rattle.pcode_model.specs.declared.listing.SpaceKind.TheVariants.{Constant, Ram, Register, Unique}
use Rattle.pcode_model.specs.declared.listing.Listing.{Listing}
use Rattle.pcode_model.specs.declared.storage.ParamStorage.TheVariants as P
use Rattle.cmeaning.specs.Examples as small
use Rattle.opgraph.specs.declared.code.Code.{Code}
use Rattle.opgraph.specs.declared.code.Code.TheVariants as K
use Rattle.opgraph.specs.declared.ids.BlockId.{BlockId}
use Rattle.opgraph.specs.Graph.{OpRow, Graph}
use Rattle.ssa_model.specs.declared.form.SsaExit.{SsaExit}
use Rattle.ssa_model.specs.declared.form.SsaExit.TheVariants as X
use Rattle.ssa_model.specs.declared.form.SsaBlock.{SsaBlock}
use Rattle.ssa_model.specs.declared.form.Parts.{Parts}

abbrev four : Width
four = record { bytes = 4; from = lit< tt; to = lit≤ tt }

abbrev two : Width
two = record { bytes = 2; from = lit< tt; to = lit≤ tt }

abbrev one : Width
one = record { bytes = 1; from = lit< tt; to = lit≤ tt }

abbrev to : ℕ → BlockId
to b = record { 0 = b }

-- an op of a block, with the values that it reads
abbrev op : ℕ → Code → List ℕ → Option Width → Option OpRow
op block code inputs width = Some (record { block = block; code = code; inputs = inputs; width = width })

abbrev graph : List (Option OpRow) → List (List ℕ) → Graph
graph ops blocks = record { ops = ops; blocks = blocks; uses = []; spare_ops = 0; spare_slots = 0 }

abbrev block : ℕ → List BlockId → SsaExit → SsaBlock
block id predecessors exit = record { id = to id; predecessors = predecessors; exit = exit }

-- a listing whose spaces 1 to 3 have these names, and whose function has this one
abbrev pub named : List ℕ → Listing
named name =
    let l = small.listing [] [] [] in
    record l {
      func = record (small.function 0x1000 true) { name = name };
      spaces =
          small.space Constant 8
          ∷ record (small.space Ram 8) { name = codes "ram" }
          ∷ record (small.space Register 4) { name = codes "register" }
          ∷ record (small.space Unique 4) { name = codes "unique" }
          ∷ [];
    }

-- A loop that adds an argument, and counts it down, until it is 0. Block 1 has its two MULTIEQUALs in the other order
-- than their atoms, and its predecessors in the other order than the blocks.
abbrev pub sum_loop : Parts
sum_loop = record {
  graph =
      graph
      (op 0 (K.Entry (P.Register 0x38)) [] (Some four)
      ∷ op 0 (K.Const 0) [] (Some four)
      ∷ op 0 K.Copy (1 ∷ []) (Some four)
      ∷ op 1 (K.Multi 0) (8 ∷ 2 ∷ []) (Some four)
      ∷ op 1 (K.Multi 1) (10 ∷ 0 ∷ []) (Some four)
      ∷ op 1 (K.Const 0) [] (Some four)
      ∷ op 1 K.Equal (4 ∷ 5 ∷ []) (Some one)
      ∷ op 1 K.CBranch (6 ∷ []) None
      ∷ op 2 K.Add (3 ∷ 4 ∷ []) (Some four)
      ∷ op 2 (K.Const 1) [] (Some four)
      ∷ op 2 K.Subtract (4 ∷ 9 ∷ []) (Some four)
      ∷ op 3 K.Return (3 ∷ []) None
      ∷ []) ((0 ∷ 1 ∷ 2 ∷ []) ∷ (4 ∷ 3 ∷ 5 ∷ 6 ∷ 7 ∷ []) ∷ (8 ∷ 9 ∷ 10 ∷ []) ∷ (11 ∷ []) ∷ []);
  blocks =
      block 0 [] (X.Jump (to 1))
      ∷ block 1 (to 2 ∷ to 0 ∷ []) (X.Test (to 3) (to 2))
      ∷ block 2 (to 1 ∷ []) (X.Jump (to 1))
      ∷ block 3 (to 1 ∷ []) X.Return
      ∷ [];
  entry = to 0;
}

-- a block that leads to itself, behind the one where the run begins
abbrev pub endless : Parts
endless = record {
  graph = graph [] ([] ∷ [] ∷ []);
  blocks = block 0 [] (X.Jump (to 1)) ∷ block 1 (to 0 ∷ to 1 ∷ []) (X.Jump (to 1)) ∷ [];
  entry = to 0;
}

-- a switch between a block that ends in a call that doesn't return, and one with each other kind of line
abbrev pub all_lines : Parts
all_lines = record {
  graph =
      graph
      (op 2 (K.Entry (P.Stack (negsuc 7))) [] (Some four)
      ∷ op 2 (K.Entry (P.Register 0x38)) [] (Some four)
      ∷ op 2 K.BranchInd (1 ∷ []) None
      ∷ op 0 (K.Store 1) (1 ∷ 0 ∷ []) None
      ∷ op 0 (K.Call 0x2000) (0 ∷ []) None
      ∷ op 1 (K.Part 2) (1 ∷ []) (Some two)
      ∷ op 1 K.CallInd (1 ∷ 5 ∷ []) (Some four)
      ∷ op 1 (K.Extra 0x10) [] (Some four)
      ∷ op 1 (K.Other 7) (7 ∷ []) (Some four)
      ∷ op 1 (K.Load 1) (8 ∷ []) (Some four)
      ∷ op 1 K.Quotient (9 ∷ 6 ∷ []) (Some four)
      ∷ op 1 K.Return [] None
      ∷ []) ((3 ∷ 4 ∷ []) ∷ (5 ∷ 6 ∷ 7 ∷ 8 ∷ 9 ∷ 10 ∷ 11 ∷ []) ∷ (0 ∷ 1 ∷ 2 ∷ []) ∷ []);
  blocks =
      block 2 [] (X.Switch (record { value = 0; to = to 0 } ∷ record { value = 10; to = to 1 } ∷ []))
      ∷ block 0 (to 2 ∷ []) X.Stop
      ∷ block 1 (to 2 ∷ []) X.Return
      ∷ [];
  entry = to 2;
}
