-- The form of an SSA function, a clause a field.
use Rattle.std.specs.Prelude.{◌≡◌, ℕ, ◌+◌, ◌<◌, ◌==◌, ◌&&◌, nat_lt, Bool, true, false, List, [], ◌∷◌, ◌++◌, ◌↔◌, length, map, Option, Some, None}
use Rattle.bits_core.specs.Value.{limit}
use Rattle.cmeaning.specs.Shape.{is_part}
use Rattle.node_lists.specs.Chains.{IsIn, Apart, last_or}
use Rattle.ssa_model.specs.declared.form.Arm.{Arm}
use Rattle.ssa_model.specs.declared.form.SsaExit.{SsaExit}
use Rattle.ssa_model.specs.declared.form.SsaExit.TheVariants as X
use Rattle.ssa_model.specs.Roles.{Role, Constant, Starts, Joins, Copies, Unary, Arithmetic, Shifts, Compares, Signed, Extends, Piece, Part, Overflow, Count, Divides, Loads, Stores, Calls, CallsInd, CallsOther, Extra, Tests, Switches, Returns}
use Rattle.ssa_model.specs.Outline.{OpForm, Outline, ids, exit_at, predecessors_at, Leads}
use Rattle.ssa_model.specs.Paths.{Path, IsJoin}

-- ---- the widths of an op: of its value, 0 where it has none, and of its inputs

abbrev pub all_are : ℕ → List ℕ → Bool
all_are w [] = true
all_are w (v ∷ vs) = v == w && all_are w vs

-- as its node or its statement asks
abbrev pub fits : Role → ℕ → List ℕ → Bool
fits (Constant n) w [] = nat_lt 0 w && nat_lt n (limit w)
fits (Starts s) w [] = nat_lt 0 w
fits (Joins atom) w vs = nat_lt 0 w && all_are w vs
fits Copies w (v ∷ []) = nat_lt 0 w && v == w
fits (Unary op) w (v ∷ []) = nat_lt 0 w && v == w
fits (Arithmetic op) w (a ∷ b ∷ []) = nat_lt 0 w && (a == w && b == w)
fits (Shifts op) w (a ∷ b ∷ []) = nat_lt 0 w && a == w
fits (Compares op) w (a ∷ b ∷ []) = w == 1 && a == b
fits (Signed op) w (a ∷ b ∷ []) = w == 1 && a == b
fits (Extends op) w (a ∷ []) = nat_lt a w
fits Piece w (a ∷ b ∷ []) = nat_lt 0 w && a + b == w
fits (Part dropped) w (a ∷ []) = nat_lt 0 w && is_part dropped w a
fits (Overflow op) w (a ∷ b ∷ []) = w == 1 && a == b
fits (Count op) w (a ∷ []) = w == 1
fits (Divides op) w (a ∷ b ∷ []) = nat_lt 0 w && (a == w && b == w)
fits (Loads space) w (a ∷ []) = nat_lt 0 w
fits (Stores space) w (a ∷ b ∷ []) = w == 0
fits (Calls address) w vs = true
fits CallsInd w (a ∷ vs) = true
fits (CallsOther index) w vs = true
fits (Extra offset) w [] = nat_lt 0 w
fits Tests w (a ∷ []) = w == 0 && a == 1
fits Switches w (a ∷ []) = w == 0
fits Returns w [] = w == 0
fits Returns w (a ∷ []) = w == 0
fits role w vs = false

-- ---- ops in blocks

abbrev pub is_join : Option OpForm → Bool
is_join None = false
is_join (Some f) = joins f.role
  where
    joins : Role → Bool
    joins (Joins atom) = true
    joins role = false

abbrev pub no_join : (ℕ → Option OpForm) → List ℕ → Type 0
no_join forms [] = Unit {0}
no_join forms (x ∷ xs) = (is_join (forms x) ≡ false) × no_join forms xs

-- the MULTIEQUALs stand before all other ops
abbrev pub JoinsFirst : (ℕ → Option OpForm) → List ℕ → Type 0
JoinsFirst forms xs = (ys zs : List ℕ) (x : ℕ)
    → xs ≡ ys ++ x ∷ zs
    → is_join (forms x) ≡ false
    → no_join forms zs

-- y stands directly before x
abbrev pub IsNext : ℕ → ℕ → List ℕ → Type 0
IsNext y x zs = (before : List ℕ) × ((behind : List ℕ) × (zs ≡ before ++ y ∷ x ∷ behind))

-- a call that leaves registers, or what reads them
abbrev pub leaves_registers : Role → Bool
leaves_registers (Calls address) = true
leaves_registers CallsInd = true
leaves_registers (Extra offset) = true
leaves_registers role = false

-- the op by which a block is left
abbrev pub exit_role : SsaExit → Option Role
exit_role X.Return = Some Returns
exit_role (X.Jump to) = None
exit_role (X.Test taken other) = Some Tests
exit_role (X.Switch arms) = Some Switches
exit_role X.Stop = None

abbrev pub is_exit_role : Role → Bool
is_exit_role Tests = true
is_exit_role Switches = true
is_exit_role Returns = true
is_exit_role role = false

-- the op is the last one of its block, whose exit is this one
abbrev pub Closes : Outline → ℕ → OpForm → SsaExit → Type 0
Closes o x f e = (last_or None (o.lists f.block) ≡ Some x) × (exit_at o.blocks f.block ≡ Some e)

-- CALLs of one address are alike: in the widths of their arguments and value, and in whether they end a block at which
-- the run stops
pub record AreAlike (o : Outline) (x : ℕ) (f : OpForm) (y : ℕ) (g : OpForm) : Type 0 where
  pub inputs : f.inputs ≡ g.inputs
  pub width : f.width ≡ g.width
  pub stops : Closes o x f X.Stop ↔ Closes o y g X.Stop

abbrev pub values_below : ℕ → List Arm → Type 0
values_below n [] = Unit {0}
values_below n (a ∷ rest) = (a.value < n) × values_below n rest

-- ---- the form

pub record Formed (o : Outline) : Type 0 where
  -- the list of blocks has each block of the graph once, and the entry and the exits name such blocks
  pub once : Apart (ids o.blocks)
  pub all : (b : ℕ) → IsIn b (ids o.blocks) ↔ (b < o.count)
  pub entry : o.entry < o.count
  pub exits : (b c : ℕ) → Leads o.blocks b c → c < o.count
  -- every block is reached from the entry, and the entry has no predecessor
  pub reached : (b : ℕ) → b < o.count → (passed : List ℕ) × Path o.blocks o.entry passed b
  pub entered : predecessors_at o.blocks o.entry ≡ []
  -- a block's predecessors are the blocks with an exit to it, each once
  pub predecessors : (b c : ℕ) → IsIn b (predecessors_at o.blocks c) ↔ Leads o.blocks b c
  pub predecessors_once : (c : ℕ) → Apart (predecessors_at o.blocks c)
  -- each op has the inputs, the widths and the parts that its node or statement asks
  pub ops : (x : ℕ) (f : OpForm) → o.forms x ≡ Some f → fits f.role f.width f.inputs ≡ true
  -- MULTIEQUALs stand first, with an input for each predecessor
  pub joins_first : (b : ℕ) → JoinsFirst o.forms (o.lists b)
  pub joins : (x : ℕ) (f : OpForm)
      → o.forms x ≡ Some f
      → IsJoin f.role
      → length f.inputs ≡ length (predecessors_at o.blocks f.block)
  -- the last op of a block with a Test, a Switch or a Return is the exit's, and no other op is an exit's
  pub left : (b : ℕ) (e : SsaExit) (role : Role)
      → exit_at o.blocks b ≡ Some e
      → exit_role e ≡ Some role
      → (x : ℕ) × ((last_or None (o.lists b) ≡ Some x) × ((f : OpForm) × ((o.forms x ≡ Some f) × (f.role ≡ role))))
  pub leaves : (x : ℕ) (f : OpForm)
      → o.forms x ≡ Some f
      → is_exit_role f.role ≡ true
      → (e : SsaExit) × (Closes o x f e × (exit_role e ≡ Some f.role))
  -- the last op of a block at which the run stops is a CALL without a value
  pub stops : (b : ℕ)
      → exit_at o.blocks b ≡ Some X.Stop
      → (x : ℕ)
      × ((last_or None (o.lists b) ≡ Some x)
      × ((f : OpForm) × ((o.forms x ≡ Some f) × ((f.width ≡ 0) × ((callee : ℕ) × (f.role ≡ Calls callee))))))
  pub calls : (x y callee : ℕ) (f g : OpForm)
      → o.forms x ≡ Some f
      → o.forms y ≡ Some g
      → f.role ≡ Calls callee
      → g.role ≡ Calls callee
      → AreAlike o x f y g
  -- an EXTRAOUT stands directly after a CALL, a CALLIND or another EXTRAOUT
  pub extras : (x offset : ℕ) (f : OpForm)
      → o.forms x ≡ Some f
      → f.role ≡ Extra offset
      → (y : ℕ)
      × (IsNext y x (o.lists f.block)
      × ((g : OpForm) × ((o.forms y ≡ Some g) × (leaves_registers g.role ≡ true))))
  -- no two entry values begin at the same storage
  pub starts : (x y : ℕ) (f g : OpForm)
      → o.forms x ≡ Some f
      → o.forms y ≡ Some g
      → (s : Rattle.pcode_model.specs.declared.storage.ParamStorage.ParamStorage)
      → f.role ≡ Starts s
      → g.role ≡ Starts s
      → x ≡ y
  -- case values are distinct and within the value's width
  pub cases : (x w : ℕ) (f : OpForm) (arms : List Arm)
      → o.forms x ≡ Some f
      → Closes o x f (X.Switch arms)
      → f.inputs ≡ w ∷ []
      → Apart (map (λ (a : Arm). a.value) arms) × values_below (limit w) arms
  -- either all returns have a value of one width, or none has a value
  pub returns : (x y : ℕ) (f g : OpForm)
      → o.forms x ≡ Some f
      → o.forms y ≡ Some g
      → f.role ≡ Returns
      → g.role ≡ Returns
      → f.inputs ≡ g.inputs
