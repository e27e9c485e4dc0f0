-- What the forms in memory show.
use Rattle.std.specs.Prelude.{ℕ, ◌&&◌, Bool, List, length, nat_le, nat_lt}
use Rattle.outside.specs.Calls.{CallsView}
use Rattle.outside.specs.Told.{Folder}

pub record MemSourceView : Type 0 where
  pub left : List ℕ
  pub calls : CallsView

pub record MemSinkView : Type 0 where
  pub taken : List ℕ
  -- how many bytes it takes in all
  pub room : ℕ
  pub calls : CallsView

pub record MemShelfView : Type 0 where
  pub left : List ℕ
  pub files : Folder
  pub calls : CallsView

-- the piece isn't empty and no room is left for it
abbrev pub is_full_for : MemSinkView → List ℕ → Bool
is_full_for sink piece = nat_lt 0 (length piece) && nat_le sink.room (length sink.taken)

-- a stream of std: the reader or writer itself, and the count of faults
pub record StdView (A : Type 0) : Type 0 where
  pub inner : A
  pub faults : ℕ
