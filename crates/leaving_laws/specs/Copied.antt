-- A function whose MULTIEQUALs are copies through fresh variables. A block begins with `own = fresh` for each of its
-- MULTIEQUALs, by their atoms; it ends with `fresh = input` for those of each block that its exit leads to, the blocks
-- by their numbers. Its edges rename nothing.
use Rattle.std.specs.Prelude.{ℕ, zero, suc, ◌==◌, ◌&&◌, Bool, false, List, [], ◌∷◌, ◌++◌, length, map, Option, Some, None}
use Rattle.std.specs.List.{flat_map}
use Rattle.pcode_model.specs.declared.listing.Listing.{Listing}
use Rattle.edges.specs.Run.{Blocks}
use Rattle.edges.specs.Leave.{Shape, left_of}
use Rattle.opgraph.specs.Graph.{OpRow, op_at, block_at}
use Rattle.ssa_model.specs.declared.form.Parts.{Parts}
use Rattle.ssa_model.specs.Roles.{role_of}
use Rattle.ssa_model.specs.Outline.{only, is_multi, multis_of, block_with, targets_in}
use Rattle.ssa_model.specs.Drops.{is_in}
use Rattle.ssa_model.specs.Run.{blocks_of}
use Rattle.leaving_laws.specs.Values.{fresh, variable_width}

-- whether an op is a MULTIEQUAL of a block
abbrev pub is_head_in : ℕ → Option OpRow → Bool
is_head_in b None = false
is_head_in b (Some r) = r.block == b && is_multi (Some (role_of r.code))

-- the MULTIEQUALs of a block, by their atoms
abbrev pub heads_of : Parts → ℕ → List ℕ
heads_of p b = multis_of (op_at p.graph) (block_at p.graph b)

-- the numbers below another one, rising
abbrev pub up_to : ℕ → List ℕ
up_to zero = []
up_to (suc n) = up_to n ++ n ∷ []

-- the blocks that the exit of a block leads to, by number, each once
abbrev pub onward_of : Parts → ℕ → List ℕ
onward_of p b = only (λ c. is_in c (targets_in (block_with b p.blocks))) (up_to (length p.graph.blocks))

-- each of these blocks with each of its MULTIEQUALs
abbrev pub next_of : Parts → ℕ → List (ℕ × ℕ)
next_of p b = flat_map (λ (c : ℕ). map (λ (v : ℕ). (c, v)) (heads_of p c)) (onward_of p b)

abbrev pub shape_of : Parts → Shape
shape_of p = record {
  is_head = λ b v. is_head_in b (op_at p.graph v);
  heads = heads_of p;
  next = next_of p;
  fresh = fresh p;
}

-- the function with the copies, over the variables of its values
abbrev pub copied_blocks : Listing → Parts → Blocks
copied_blocks l p = record (left_of (shape_of p) (blocks_of l p)) { widths = variable_width p }
