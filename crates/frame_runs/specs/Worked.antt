-- Small cases: what ops make of a stack pointer that holds its entry word, which reads let its offset escape, and which
-- accesses share bytes. The listing is that of a worked run with a frame variable.
use Rattle.std.specs.Prelude.{◌≡◌, ℕ, ◌^◌, ◌-◌, ◌==◌, ◌&&◌, [], ◌∷◌, None, ℤ, pos, negsuc}
use Rattle.bits_core.specs.declared.ops.Unary.TheVariants as U
use Rattle.bits_core.specs.declared.ops.Binary.TheVariants as B
use Rattle.pcode_model.specs.declared.listing.Listing.{Listing}
use Rattle.pcode_model.specs.declared.listing.Proto.{Proto}
use Rattle.pcode_model.specs.declared.frame.FrameAccess.{FrameAccess}
use Rattle.pcode_model.specs.declared.opcode.Opcode.TheVariants as O
use Rattle.pcode_model.specs.Places.{place}
use Rattle.frame_law.specs.Worked.{address, constant, result, stack_pointer, stores_and}
use Rattle.frame_facts.specs.Facts.{Known, IsPopped, Makes}
use Rattle.frame_facts.specs.Escapes.{told}
use Rattle.frame_facts.specs.Accesses.{ShareByte, signed_offset}

abbrev pub listing : Listing
listing = stores_and [] address

-- the stack pointer alone is known
abbrev pub at_entry : Known
at_entry v c = v.space == stack_pointer.space && (v.offset == stack_pointer.offset &&
    (v.size == stack_pointer.size && c == 0))

abbrev pub pops : Proto
pops = record { name = []; args = []; gives = None; pop = 4; keep = [] }

-- A sum with a constant is an address, on either side, and a difference with the constant on the right; a call moves the
-- stack pointer by its pop count.
pub record WorkedOps : Type 0 where
  pub copied : Makes listing at_entry (O.Unary U.Copy) (stack_pointer ∷ []) 0
  pub added : Makes listing at_entry (O.Binary B.Add) (stack_pointer ∷ constant 8 ∷ []) 8
  pub added_left : Makes listing at_entry (O.Binary B.Add) (constant 8 ∷ stack_pointer ∷ []) 8
  pub taken_away : Makes listing at_entry (O.Binary B.Subtract) (stack_pointer ∷ constant 8 ∷ []) (2 ^ 32 - 8)
  pub taken_from : (c : ℕ) → Makes listing at_entry (O.Binary B.Subtract) (constant 8 ∷ stack_pointer ∷ []) c → ⊥
  pub popped : IsPopped listing at_entry pops stack_pointer 4
  pub below : signed_offset listing (2 ^ 32 - 8) ≡ negsuc 7

-- INT_AND with 0xff is harmless and with 0x100 isn't; a STORE's address is, and its value isn't.
pub record WorkedEscapes : Type 0 where
  pub compared : told listing (O.Binary B.Less) (stack_pointer ∷ result ∷ []) ≡ []
  pub added : told listing (O.Binary B.Add) (stack_pointer ∷ constant 8 ∷ []) ≡ []
  pub added_other : told listing (O.Binary B.Add) (stack_pointer ∷ result ∷ []) ≡ stack_pointer ∷ result ∷ []
  pub low_byte : told listing (O.Binary B.And) (stack_pointer ∷ constant 0xff ∷ []) ≡ []
  pub masked : told listing (O.Binary B.And) (stack_pointer ∷ constant 0x100 ∷ []) ≡ stack_pointer ∷ constant 0x100 ∷ []
  pub stored : told listing O.Store (constant 1 ∷ address ∷ stack_pointer ∷ []) ≡ stack_pointer ∷ []
  pub loaded : told listing O.Load (constant 1 ∷ stack_pointer ∷ []) ≡ []
  pub loaded_elsewhere : told listing O.Load (constant 4 ∷ stack_pointer ∷ []) ≡ stack_pointer ∷ []
  pub jumped : told listing O.BranchInd (stack_pointer ∷ []) ≡ stack_pointer ∷ []
  pub returned : told listing O.Return (stack_pointer ∷ []) ≡ result ∷ []

-- four bytes from an offset on
abbrev pub access : ℤ → FrameAccess
access o = record { place = place 0x1000 0; argument = 0; offset = o; size = 4 }

-- An access across the entry word shares bytes on both sides; accesses that touch share none.
pub record WorkedBytes : Type 0 where
  pub across : ShareByte (access (negsuc 1)) (access (negsuc 3))
  pub across_above : ShareByte (access (negsuc 1)) (access (pos 0))
  pub touching : ShareByte (access (negsuc 3)) (access (pos 0)) → ⊥

pub record WorkedFacts : Type 0 where
  pub ops : WorkedOps
  pub escapes : WorkedEscapes
  pub bytes : WorkedBytes
