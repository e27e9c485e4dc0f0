-- The registers after a call. This project's own.
use Rattle.std.specs.Prelude.{◌≡◌, ℕ, ◌+◌, ◌<◌, ◌≤◌, ◌^◌, ◌==◌, ◌&&◌, not, nat_lt, Bool, true, false, if◌then◌else◌, List, Option, Some, None}
use Rattle.pcode_model.specs.declared.listing.Varnode.{Varnode}
use Rattle.pcode_model.specs.Step.{in_some, in_option}

-- the register byte at an offset is left as it is
abbrev pub is_held : List Varnode → Option Varnode → ℕ → Bool
is_held keep stack o = if in_some keep o then true else in_option stack o

-- a range with a byte, which ends below 2 to the 64
pub record Ends (v : Varnode) : Type 0 where
  pub some : 0 < v.size
  pub below : v.offset + v.size ≤ 2 ^ 64

-- a test holds from an offset on up to a last one, or doesn't hold of it
abbrev pub HoldsTo : (ℕ → Bool) → ℕ → Option ℕ → Type 0
HoldsTo test o None = test o ≡ false
HoldsTo test o (Some last) = (o ≤ last) × ((p : ℕ) → o ≤ p → p ≤ last → test p ≡ true)

-- the bytes of a space by one function where they aren't held, and the others by another
abbrev pub mixed : (ℕ → Bool) → ℕ → (ℕ → Option ℕ) → (ℕ → ℕ → Option ℕ) → ℕ → ℕ → Option ℕ
mixed held space f g s o = if s == space && not (held o) then f o else g s o

-- without the bytes of a space below an offset that aren't held
abbrev pub forgotten : (ℕ → Bool) → ℕ → ℕ → (ℕ → ℕ → Option ℕ) → ℕ → ℕ → Option ℕ
forgotten held space k g s o = if s == space && (nat_lt o k && not (held o)) then None else g s o
