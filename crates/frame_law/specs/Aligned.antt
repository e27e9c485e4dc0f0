-- Where the accesses of frame variables lie. This project's own.
use Rattle.std.specs.Prelude.{◌≡◌, ℕ, zero, suc, ◌<◌, true, List, [], ◌∷◌, Option, Some, None, Ok}
use Rattle.pcode_model.specs.declared.listing.Instruction.{Instruction}
use Rattle.pcode_model.specs.declared.listing.Place.{Place}
use Rattle.pcode_model.specs.declared.listing.Op.{Op}
use Rattle.pcode_model.specs.Spaces.{size_of, first_ram, next}
use Rattle.pcode_model.specs.Places.{Does, standing}
use Rattle.pcode_model.specs.Memory.{Layout, Bytes, Whole, offset_from, whole}
use Rattle.pcode_model.specs.Step.{State, Effect, Ends, Goes, Writes, Fetches, Puts, Calls, Asks, Operand, Reads, ReadsStack, effect_of, operands, read_all, size_out, stack_address, step}

-- how many bytes the first ram space has
abbrev pub ram_size : Layout → ℕ
ram_size y = size_of y.listing (first_ram y.listing)

-- each of so many bytes from an offset on is one of a frame variable
abbrev pub AllFramed : Layout → ℕ → ℕ → Type 0
AllFramed y c zero = Unit {0}
AllFramed y c (suc k) = (y.frame.framed c ≡ true) × AllFramed y (next (ram_size y) c) k

-- The access of so many bytes at an address is of the first ram space, at this offset from the stack pointer's entry
-- word, and all its bytes are frame variables'.
pub record IsOwn (y : Layout) (c space address count : ℕ) : Type 0 where
  pub ram : space ≡ first_ram y.listing
  pub inside : address < ram_size y
  pub offset : c ≡ offset_from (ram_size y) y.stack0 address
  pub framed : AllFramed y c count

-- an access that the frame gives an offset lies there
abbrev pub Aligned : Layout → Option ℕ → (space address count : ℕ) → Type 0
Aligned y None s a k = Unit {0}
Aligned y (Some c) s a k = IsOwn y c s a k

abbrev pub AlignedOperand : Layout → Place → Bytes → Operand → Type 0
AlignedOperand y p b (Reads v) = Unit {0}
AlignedOperand y p b (ReadsStack n offset size) =
    Aligned y (y.frame.own p n) (first_ram y.listing) (stack_address y.listing offset y.listing.stack b) size

abbrev pub AllAligned : Layout → Place → Bytes → List Operand → Type 0
AllAligned y p b [] = Unit {0}
AllAligned y p b (x ∷ xs) = AlignedOperand y p b x × AllAligned y p b xs

abbrev pub AlignedEffect : Layout → Effect → Type 0
AlignedEffect y (Ends e) = Unit {0}
AlignedEffect y (Goes to) = Unit {0}
AlignedEffect y (Writes out n) = Unit {0}
AlignedEffect y (Fetches out own space a) = Aligned y own space a (size_out out)
AlignedEffect y (Puts own space a k n) = Aligned y own space a k
AlignedEffect y (Calls to args p r) = Unit {0}
AlignedEffect y (Asks index args out) = Unit {0}

-- The accesses of the op at a state's place that are frame variables' lie where the frame says: those of its operands, and
-- its own, with the words that it reads.
pub record IsAligned (y : Layout) (s : State Whole) (i : Instruction) (op : Op) : Type 0 where
  pub reads : AllAligned y s.at s.local (operands y.listing op.code op.inputs)
  pub effect : (ws : List ℕ)
      → read_all (whole y) y.listing y.frame s (operands y.listing op.code op.inputs) ≡ Ok ws
      → AlignedEffect y (effect_of y.listing (y.frame.own s.at 0) i s.at.index s.local op.code op.out op.inputs ws)

-- What holds of places and of register and unique bytes at each step of the run, until it ends, and says where the
-- accesses of frame variables lie. (Where the run ends in the middle of an op, as in a call that has no answer, the
-- place is the next one already and the bytes are still the old ones.)
pub record Guides (y : Layout) (I : Place → Bytes → Type 0) : Type 0 where
  pub aligned : (s : State Whole) (i : Instruction) (op : Op)
      → standing y.listing s.at ≡ Does i op
      → I s.at s.local
      → IsAligned y s i op
  pub goes : (s : State Whole)
      → s.world.over ≡ None
      → I s.at s.local
      → (let t = step (whole y) y.listing y.frame s in t.world.over ≡ None → I t.at t.local)
