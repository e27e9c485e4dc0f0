-- What a call leaves in the variables of registers. This project's own.
use Rattle.std.specs.Prelude.{ℕ, suc, ◌==◌, ◌&&◌, not, Bool, false, if◌then◌else◌, List, [], ◌∷◌, ◌++◌, map}
use Rattle.pcode_model.specs.declared.listing.Listing.{Listing}
use Rattle.pcode_model.specs.declared.listing.Proto.{Proto}
use Rattle.pcode_model.specs.declared.listing.Varnode.{Varnode}
use Rattle.pcode_model.specs.Atoms.{one_range}
use Rattle.pcode_model.specs.Ranges.{meets}
use Rattle.pcode_model.specs.Spaces.{or, register_space}
use Rattle.cmeaning.specs.declared.tree.Stmt.{Stmt}
use Rattle.cmeaning.specs.declared.tree.Stmt.TheVariants as S
-- a variable, and the offset in the register space from which it takes what a call left
pub use Rattle.op_code.specs.declared.left.Leftover.{Leftover}

-- the ranges in which a call of this prototype leaves nothing of the answer: those that it keeps, its result and the
-- stack pointer
abbrev pub spared : Listing → Proto → List Varnode
spared l p = p.keep ++ (one_range p.gives ++ one_range l.stack)

abbrev pub meets_some : List Varnode → Varnode → Bool
meets_some [] v = false
meets_some (w ∷ ws) v = or (meets v.offset v.size w.offset w.size) (meets_some ws v)

-- a range of registers in which a call leaves what the answer has there
abbrev pub is_left : Listing → Proto → Varnode → Bool
is_left l p v = v.space == register_space l && not (meets_some (spared l p) v)

-- of variables from a number on, by their ranges
abbrev pub left_from : Listing → Proto → ℕ → List Varnode → List Leftover
left_from l p n [] = []
left_from l p n (v ∷ vs) =
    if is_left l p v then (let x : Leftover = record { variable = n; offset = v.offset } in x ∷ left_from l p (suc n) vs)
    else left_from l p (suc n) vs

-- The variables that take what a call left, in their order.
abbrev pub leftovers : Listing → Proto → List Varnode → List Leftover
leftovers l p ranges = left_from l p 0 ranges

abbrev pub takes_left : Leftover → Stmt
takes_left x = S.Extra x.variable x.offset

abbrev pub extras : Listing → Proto → List Varnode → List Stmt
extras l p ranges = map takes_left (leftovers l p ranges)
