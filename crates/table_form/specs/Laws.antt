-- Laws of tables. This project's own.
use Rattle.std.specs.Prelude.{◌≡◌, ℕ}
use Rattle.pcode_model.specs.declared.listing.Place.{Place}
use Rattle.pcode_model.specs.declared.listing.Listing.{Listing}
use Rattle.pcode_model.specs.declared.tables.Table.{Table}
use Rattle.pcode_model.specs.Flow.{AreApart}
use Rattle.table_form.specs.Trees.{Tree}
use Rattle.table_form.specs.Values.{Gives}
use Rattle.table_form.specs.Tables.{IsTable}

-- a tree has one value at most where x has a value
abbrev pub OneValue : Type 0
OneValue = (l : Listing) (x t : Tree) (v i j : ℕ) → Gives l x v t i → Gives l x v t j → i ≡ j

-- the tables are one, in all that they say
pub record AreSame (t u : Table) : Type 0 where
  pub slice : t.slice ≡ u.slice
  pub at : t.at ≡ u.at
  pub value : t.value ≡ u.value
  pub size : t.size.bytes ≡ u.size.bytes
  pub cases : t.cases ≡ u.cases

-- a BRANCHIND has one table at most
abbrev pub OneTable : Type 0
OneTable = (l : Listing) (end : Place) (t u : Table) → AreApart l.code → IsTable l end t → IsTable l end u → AreSame t u
