-- What the run of a listing with a frame rests on. This project's own.
use Rattle.std.specs.Prelude.{◌≡◌, ◌==◌, ℕ, Bool, true, false, not, if◌then◌else◌, IsSome}
use Rattle.std.specs.List.{AllByRecursion}
use Rattle.pcode_model.specs.declared.listing.Listing.{Listing}
use Rattle.pcode_model.specs.declared.listing.Instruction.{Instruction}
use Rattle.pcode_model.specs.declared.listing.Op.{Op}
use Rattle.pcode_model.specs.declared.listing.Place.{Place}
use Rattle.pcode_model.specs.declared.opcode.Opcode.{Opcode}
use Rattle.pcode_model.specs.declared.opcode.Opcode.TheVariants as O
use Rattle.pcode_model.specs.Memory as M
use Rattle.pcode_model.specs.Places.{Does, Nothing, Passes, Standing, standing}
use Rattle.pcode_model.specs.Spaces.{first_ram, or}
use Rattle.pcode_model.specs.Step.{varnode_at}
use Rattle.pcode_model.specs.declared.frame.Frame.{Frame}
use Rattle.pcode_model.specs.declared.frame.FrameAccess.{FrameAccess}

abbrev pub by_pointer : Opcode → Bool
by_pointer O.Load = true
by_pointer O.Store = true
by_pointer code = false

-- what stands there is no LOAD or STORE, or one of the space with that number
abbrev pub accesses : ℕ → Standing → Bool
accesses ram Nothing = true
accesses ram (Passes i) = true
accesses ram (Does i op) = or (not (by_pointer op.code)) ((varnode_at op.inputs 0).offset == ram)

-- the access is a call's argument, or its LOAD or STORE is one of the first ram space
abbrev pub lies_in_ram : Listing → FrameAccess → Bool
lies_in_ram l a = if a.argument == 0 then accesses (first_ram l) (standing l a.place) else true

-- the frame's own accesses lie in the first ram space
abbrev pub LiesInRam : Listing → Frame → Type 0
LiesInRam l f = AllByRecursion (λ a. lies_in_ram l a ≡ true) f.accesses

-- each LOAD and STORE that is a frame variable's access is one of the first ram space
abbrev pub OwnsFirstRam : Listing → M.Frame → Type 0
OwnsFirstRam l f =
    (p : Place) (i : Instruction) (op : Op)
    → standing l p ≡ Does i op
    → by_pointer op.code ≡ true
    → IsSome (f.own p 0)
    → (varnode_at op.inputs 0).offset ≡ first_ram l
