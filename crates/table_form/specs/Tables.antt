-- The table of a BRANCHIND. This project's own.
use Rattle.std.specs.Prelude.{◌≡◌, ℕ, ◌+◌, ◌<◌, ◌≤◌, ◌⊎◌, ◌↔◌, true, List, [], ◌∷◌, ◌++◌, length, slice_get, Some, None}
use Rattle.std.specs.List.{AllByRecursion}
use Rattle.bits_core.specs.Value.{limit}
use Rattle.pcode_model.specs.declared.listing.SpaceKind.TheVariants.{Ram, Register, Unique}
use Rattle.pcode_model.specs.declared.listing.Instruction.{Instruction}
use Rattle.pcode_model.specs.declared.listing.Varnode.{Varnode}
use Rattle.pcode_model.specs.declared.listing.Place.{Place}
use Rattle.pcode_model.specs.declared.listing.Listing.{Listing}
use Rattle.pcode_model.specs.declared.tables.Case.{Case}
use Rattle.pcode_model.specs.declared.tables.Table.{Table}
use Rattle.pcode_model.specs.Spaces.{kind_of, size_of}
use Rattle.pcode_model.specs.Places.{instruction_at, place, standing}
use Rattle.pcode_model.specs.Flow.{IsIn, branch_in}
use Rattle.table_form.specs.Trees.{Tree, Entry, constant_of, reading, width}
use Rattle.table_form.specs.Values.{Gives}
use Rattle.table_form.specs.Slices.{Trace, IsSlice, first_of, guard_of, inner_of, input_at, length_of, read, target_of, tests, traced}
use Rattle.table_form.specs.Form.{IsSwitched, Passes}

-- ---- cases

-- Where x has the case's value, the target is the address of an instruction, whose first place is the case's place; that
-- is no place of the slice other than its first.
pub record LeadsTo (l : Listing) (end : Place) (front : List Place) (x : Tree) (c : Case) : Type 0 where
  pub address : ℕ
  pub gives : Gives l x c.value (target_of l front end) address
  pub stands : (i : Instruction) × (instruction_at l address ≡ Some i)
  pub is_first : c.place ≡ place address 0
  pub outside : IsIn c.place (inner_of front end) → ⊥

abbrev pub RisingCases : List Case → Type 0
RisingCases [] = Unit {0}
RisingCases (c ∷ rest) = AllByRecursion (λ (d : Case). c.value < d.value) rest × RisingCases rest

abbrev pub HasCase : List Case → ℕ → Type 0
HasCase [] v = ⊥
HasCase (c ∷ rest) v = (v ≡ c.value) ⊎ HasCase rest v

-- no CBRANCH of the slice leads to a place of the slice other than its first
abbrev pub LeavesAhead : Listing → Place → List Place → Type 0
LeavesAhead l end front =
    (p q : Place)
    → IsIn p front
    → tests l p ≡ true
    → branch_in (standing l p) p.index (input_at l p 0) ≡ Some q
    → IsIn q (inner_of front end)
    → ⊥

-- The slice has a table with the subtree of its target at a place of the reading order for x.
pub record HasTable (l : Listing) (end : Place) (front : List Place) (index : ℕ) (x : Tree) (cases : List Case)
    : Type 0 where
  pub slice : IsSlice l end front
  pub leaves : LeavesAhead l end front
  pub subtree : slice_get (reading (target_of l front end)) index ≡ Some x
  pub no_constant : constant_of x ≡ None
  pub switched : IsSwitched (guard_of l front) x
  pub each : (v : ℕ) → HasCase cases v ↔ ((v < limit (width x)) × Passes l (guard_of l front) x v)
  pub rising : RisingCases cases
  pub some : 0 < length cases
  pub few : length cases ≤ 1024
  pub places : AllByRecursion (LeadsTo l end front x) cases

-- ---- where x is held

-- a register or unique range that has the tree x
pub record HoldsTree (l : Listing) (t : Trace) (x : Tree) (v : Varnode) : Type 0 where
  pub kind : (kind_of l v.space ≡ Register) ⊎ (kind_of l v.space ≡ Unique)
  pub inside : v.offset + v.size ≤ size_of l v.space
  pub wide : v.size ≡ width x
  pub is : read l t v ≡ x

-- register before unique, and by rising offset
abbrev pub IsEarlier : Listing → Varnode → Varnode → Type 0
IsEarlier l v w =
    ((kind_of l v.space ≡ Register) × (kind_of l w.space ≡ Unique)) ⊎ ((v.space ≡ w.space) × (v.offset < w.offset))

-- the least place of the slice before which a range has the tree x, and the first such range
pub record IsHeld (l : Listing) (end : Place) (front : List Place) (x : Tree) (at : Place) (value : Varnode)
    : Type 0 where
  pub before : List Place
  pub after : List Place
  pub split : front ++ end ∷ [] ≡ before ++ at ∷ after
  pub holds : HoldsTree l (traced l before) x value
  pub least : (earlier rest : List Place) (q : Place) (w : Varnode)
      → before ≡ earlier ++ q ∷ rest
      → HoldsTree l (traced l earlier) x w
      → ⊥
  pub first : (w : Varnode) → HoldsTree l (traced l before) x w → (w ≡ value) ⊎ IsEarlier l value w

-- Where no such range ever has it, x is a range of a ram space at the slice's entry.
pub record IsRamRange (l : Listing) (end : Place) (front : List Place) (x : Tree) (at : Place) (value : Varnode)
    : Type 0 where
  pub ram : kind_of l value.space ≡ Ram
  pub entry : x ≡ Entry value.space value.offset value.size
  pub at_first : at ≡ first_of front end
  pub never : (before after : List Place) (q : Place) (w : Varnode)
      → front ++ end ∷ [] ≡ before ++ q ∷ after
      → HoldsTree l (traced l before) x w
      → ⊥

-- ---- the table

-- a shorter slice, or the same one and an earlier subtree
abbrev pub IsSooner : (n i m j : ℕ) → Type 0
IsSooner n i m j = (n < m) ⊎ ((n ≡ m) × (i < j))

-- The table of the BRANCHIND at a place: that of the shortest slice that has one, with its first x.
pub record IsTable (l : Listing) (end : Place) (table : Table) : Type 0 where
  pub front : List Place
  pub index : ℕ
  pub x : Tree
  pub has : HasTable l end front index x table.cases
  pub slice : table.slice ≡ length_of l front
  pub size : table.size.bytes ≡ width x
  pub held : IsHeld l end front x table.at table.value ⊎ IsRamRange l end front x table.at table.value
  pub first : (other : List Place) (j : ℕ) (y : Tree) (cases : List Case)
      → HasTable l end other j y cases
      → IsSooner (length_of l other) j (length_of l front) index
      → ⊥

abbrev pub HasNoTable : Listing → Place → Type 0
HasNoTable l end = (table : Table) → IsTable l end table → ⊥
