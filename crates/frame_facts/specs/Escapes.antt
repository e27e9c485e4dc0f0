-- By which reads an address of the stack may come to be known elsewhere. This project's own.
use Rattle.std.specs.Prelude.{◌≡◌, ℕ, ◌==◌, ◌&&◌, nat_le, Bool, true, false, List, [], ◌∷◌, ◌++◌, None}
use Rattle.bits_core.specs.declared.ops.Unary.TheVariants as U
use Rattle.bits_core.specs.declared.ops.Binary.TheVariants as B
use Rattle.pcode_model.specs.declared.listing.SpaceKind.TheVariants.{Constant}
use Rattle.pcode_model.specs.declared.listing.Varnode.{Varnode}
use Rattle.pcode_model.specs.declared.listing.Op.{Op}
use Rattle.pcode_model.specs.declared.listing.Place.{Place}
use Rattle.pcode_model.specs.declared.listing.Instruction.{Instruction}
use Rattle.pcode_model.specs.declared.listing.Listing.{Listing}
use Rattle.pcode_model.specs.declared.opcode.Opcode.{Opcode}
use Rattle.pcode_model.specs.declared.opcode.Opcode.TheVariants as O
use Rattle.pcode_model.specs.declared.tables.TableAt.{TableAt}
use Rattle.pcode_model.specs.Spaces.{kind_of, first_ram, same_kind, or}
use Rattle.pcode_model.specs.Places.{Does, standing}
use Rattle.pcode_model.specs.Step.{operands, proto_of, varnode_at}
use Rattle.pcode_model.specs.Flow.{IsIn, Reached}
use Rattle.pcode_model.specs.Atoms.{one_range, ranges_read}
use Rattle.frame_facts.specs.Facts.{Fact}

abbrev pub is_constant : Listing → Varnode → Bool
is_constant l v = same_kind Constant (kind_of l v.space)

-- one of two inputs is a constant
abbrev pub has_constant : Listing → List Varnode → Bool
has_constant l vs = or (is_constant l (varnode_at vs 0)) (is_constant l (varnode_at vs 1))

-- a constant that leaves of an address at most its low byte
abbrev pub is_low_mask : Listing → Varnode → Bool
is_low_mask l v = is_constant l v && nat_le v.offset 0xff

abbrev pub has_low_mask : Listing → List Varnode → Bool
has_low_mask l vs = or (is_low_mask l (varnode_at vs 0)) (is_low_mask l (varnode_at vs 1))

abbrev pub unless_harmless : Bool → List Varnode → List Varnode
unless_harmless true vs = []
unless_harmless false vs = vs

-- a LOAD's or STORE's space is the first ram space
abbrev pub is_of_memory : Listing → List Varnode → Bool
is_of_memory l vs = (varnode_at vs 0).offset == first_ram l

-- The ranges that an op reads so that an address in them escapes: all that it reads, but for
-- the inputs of COPY, POPCOUNT, LZCOUNT, the comparisons, INT_CARRY, INT_SCARRY and INT_SBORROW;
-- the inputs of INT_ADD and INT_SUB with a constant, and of INT_AND with a constant of at most 0xff;
-- the address of a LOAD or STORE in the first ram space;
-- a RETURN's destination.
-- A call reads its arguments in registers, and a RETURN the function's result.
abbrev pub told : Listing → Opcode → List Varnode → List Varnode
told l (O.Unary U.Copy) vs = []
told l (O.Unary U.CountOnes) vs = []
told l (O.Unary U.CountLeadingZeros) vs = []
told l (O.Binary B.Add) vs = unless_harmless (has_constant l vs) vs
told l (O.Binary B.Subtract) vs = unless_harmless (has_constant l vs) vs
told l (O.Binary B.And) vs = unless_harmless (has_low_mask l vs) vs
told l (O.Binary B.Equal) vs = []
told l (O.Binary B.NotEqual) vs = []
told l (O.Binary B.Less) vs = []
told l (O.Binary B.LessEqual) vs = []
told l (O.Binary B.SignedLess) vs = []
told l (O.Binary B.SignedLessEqual) vs = []
told l (O.Binary B.Carry) vs = []
told l (O.Binary B.SignedCarry) vs = []
told l (O.Binary B.SignedBorrow) vs = []
told l O.Load vs = unless_harmless (is_of_memory l vs) (varnode_at vs 1 ∷ [])
told l O.Store vs = unless_harmless (is_of_memory l vs) (varnode_at vs 1 ∷ []) ++ varnode_at vs 2 ∷ []
told l O.Return vs = one_range (proto_of l None).gives
told l code vs = ranges_read (operands l code vs)

-- At a reached place a range with this offset is read so that it escapes.
pub record Escapes (l : Listing) (t : List TableAt) (c : ℕ) : Type 0 where
  pub at : Place
  pub reached : Reached l t at
  pub instruction : Instruction
  pub op : Op
  pub does : standing l at ≡ Does instruction op
  pub range : Varnode
  pub is_told : IsIn range (told l op.code op.inputs)
  pub fact : Fact l t at range c
