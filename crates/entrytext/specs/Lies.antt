-- When an entry lies in a listing: each byte lies in its space, and none of the state is read-only. This project's own.
use Rattle.std.specs.Prelude.{◌≡◌, ◌<◌, ℕ, true, false}
use Rattle.std.specs.List.{AllByRecursion}
use Rattle.pcode_model.specs.declared.listing.Listing.{Listing}
use Rattle.pcode_model.specs.declared.listing.SpaceKind.TheVariants.{Constant, Ram}
use Rattle.pcode_model.specs.Ranges.{is_kind}
use Rattle.pcode_model.specs.Spaces.{first_ram, is_fixed, kind_of, register_space, same_kind, size_of}
use Rattle.run_world.specs.declared.entry.Answer.{Answer}
use Rattle.run_world.specs.declared.entry.Byte.{Byte}
use Rattle.run_world.specs.declared.entry.Entry.{Entry}

-- a byte at an offset of its space
pub record IsInside (l : Listing) (b : Byte) : Type 0 where
  pub offset : b.offset < size_of l b.space
  pub value : b.value < 256

-- a byte of the space with the number n
pub record IsIn (l : Listing) (n : ℕ) (b : Byte) : Type 0 where
  pub inside : IsInside l b
  pub space : b.space ≡ n

-- a byte of a ram space
pub record IsInRam (l : Listing) (b : Byte) : Type 0 where
  pub inside : IsInside l b
  pub ram : is_kind Ram l.spaces b.space ≡ true

-- a byte of any space but the constant one, and no read-only byte
pub record IsOfState (l : Listing) (b : Byte) : Type 0 where
  pub inside : IsInside l b
  pub space : same_kind Constant (kind_of l b.space) ≡ false
  pub free : is_fixed l b.space b.offset ≡ false

pub record AnswerLiesIn (l : Listing) (a : Answer) : Type 0 where
  pub registers : AllByRecursion (IsIn l (register_space l)) a.registers
  pub memory : AllByRecursion (IsInRam l) a.memory
  pub hidden : AllByRecursion (IsIn l (first_ram l)) a.hidden

pub record LiesIn (l : Listing) (e : Entry) : Type 0 where
  pub state : AllByRecursion (IsOfState l) e.state
  pub hidden : AllByRecursion (IsIn l (first_ram l)) e.hidden
  pub answers : AllByRecursion (AnswerLiesIn l) e.answers
