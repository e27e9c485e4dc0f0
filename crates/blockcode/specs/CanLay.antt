-- Which codes are laid out. This project's own.
use Rattle.std.specs.Prelude.{◌≡◌, ℕ, Bool, true, false, List, [], ◌∷◌, map, slice_get, Some}
use Rattle.pcode_model.specs.Spaces.{or}
use Rattle.cmeaning.specs.declared.tree.Stmt.{Stmt}
use Rattle.cmeaning.specs.Do.{callee_of}
use Rattle.cmeaning.specs.Flat.{Do, piece_of, single}
use Rattle.cmeaning.specs.Valid.{are_distinct}
use Rattle.blockcode.specs.declared.code.Arm.{Arm}
use Rattle.blockcode.specs.declared.code.Exit.{Exit}
use Rattle.blockcode.specs.declared.code.Exit.TheVariants as X
use Rattle.blockcode.specs.declared.code.Block.{Block}
use Rattle.blockcode.specs.declared.code.Code.{Code}
use Rattle.blockcode.specs.Numbers.{AreNumbered}
use Rattle.blockcode.specs.Run.{call_returns}

-- ---- statements, by whether the callee at an address is declared to return

-- a statement that is one step of flat code
pub record IsSimple (returns : ℕ → Bool) (s : Stmt) : Type 0 where
  pub leaves : Bool
  pub piece : piece_of returns s ≡ single leaves (Do s)

-- the callee that the statement calls is declared to return, or not to, as the call is said to
abbrev pub CallsAs : (ℕ → Bool) → Stmt → Bool → Type 0
CallsAs returns s does = (a : ℕ) → callee_of s ≡ Some a → does ≡ returns a

-- the statements of a block of this exit
abbrev pub AreSimple : (ℕ → Bool) → List Stmt → Exit → Type 0
AreSimple returns [] e = Unit {0}
AreSimple returns (s ∷ ss) e = (IsSimple returns s × CallsAs returns s (call_returns ss e)) × AreSimple returns ss e

abbrev pub AllSimple : (ℕ → Bool) → List Block → Type 0
AllSimple returns [] = Unit {0}
AllSimple returns (b ∷ bs) = AreSimple returns b.body b.exit × AllSimple returns bs

-- ---- exits

-- the last statement is a call
abbrev pub EndsInCall : List Stmt → Type 0
EndsInCall [] = ⊥
EndsInCall (s ∷ []) = (a : ℕ) × (callee_of s ≡ Some a)
EndsInCall (s ∷ t ∷ ss) = EndsInCall (t ∷ ss)

abbrev pub values_of : List Arm → List ℕ
values_of arms = map (λ (a : Arm). a.value) arms

-- The values of a switch differ, and before a Stop stands a call, which so doesn't return.
abbrev pub CanLeave : List Stmt → Exit → Type 0
CanLeave ss (X.Return e) = Unit {0}
CanLeave ss (X.Jump to) = Unit {0}
CanLeave ss (X.Test c taken other) = Unit {0}
CanLeave ss (X.Switch e arms) = are_distinct (values_of arms) ≡ true
CanLeave ss X.Stop = EndsInCall ss

-- ---- the whole

-- What is asked of a code, by whether the callee at an address is declared to return.
pub record CanLay (returns : ℕ → Bool) (k : Code) : Type 0 where
  pub numbers : AreNumbered k
  pub simple : AllSimple returns k.blocks
  pub leaves : (n : ℕ) (x : Block) → slice_get k.blocks n ≡ Some x → CanLeave x.body x.exit

-- ---- switches: a run of C goes on past a switch that has no case for the value, where the code's run ends

abbrev pub is_switch : Exit → Bool
is_switch (X.Switch e arms) = true
is_switch e = false

abbrev pub any_switch : List Block → Bool
any_switch [] = false
any_switch (b ∷ bs) = or (is_switch b.exit) (any_switch bs)

abbrev pub has_switch : Code → Bool
has_switch k = any_switch k.blocks
