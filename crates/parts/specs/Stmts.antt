-- A simple statement by its parts: what it does, its target and its arguments. What it does depends on its arguments
-- through their values and widths alone, so whoever speaks of statements by their parts needs no case by their kinds.
-- This project's own.
use Rattle.std.specs.Prelude.{◌≡◌, ◌≢◌, ℕ, ◌%◌, Bool, true, false, List, [], ◌∷◌, Option, Some, None, Result, Ok, Err}
use Rattle.machine.specs.Trace.{Event, Call, Other, Store, End, DivZero, NoAnswer, NoReturn, Undefined}
use Rattle.bits_core.specs.Value.{limit, divide_value}
use Rattle.pcode_model.specs.declared.listing.Listing.{Listing}
use Rattle.pcode_model.specs.Spaces.{size_of, put}
use Rattle.pcode_model.specs.Memory.{Bytes, plain}
use Rattle.pcode_model.specs.World.{World, Answer, ended, recorded, with_memory, write_all, hide_all}
use Rattle.pcode_model.specs.Step.{bytes_in}
use Rattle.cmeaning.specs.declared.tree.StatementDivision.{StatementDivision}
use Rattle.cmeaning.specs.declared.tree.Expr.{Expr}
use Rattle.cmeaning.specs.declared.tree.Arm.{Arm}
use Rattle.cmeaning.specs.declared.tree.Stmt.{Stmt, out-Stmt}
use Rattle.cmeaning.specs.declared.tree.Stmt.TheOpen.{Stmt-F}
use Rattle.cmeaning.specs.declared.tree.Stmt.TheVariants as S
use Rattle.cmeaning.specs.Do.{Local, in_world, ends, accessed, loaded, divide_of, left_word}
use Rattle.parts.specs.Exprs.{Env, with_all, with_each, named, widths_of}

-- ---- the parts

-- what a statement does, with everything of it but its target and its arguments
pub data Action : Type 0 where
  Sets : Action
  Loads : Option (List ℕ) → Action
  Stores : Option (List ℕ) → Action
  Calls : ℕ → Action
  CallsInd : Action
  Others : ℕ → Action
  Extras : ℕ → Action
  Divides : StatementDivision → Action
  NotSimple : Action

abbrev pub layer_action : Stmt-F Stmt Arm → Action
layer_action (Stmt-F.Assign v e) = Sets
layer_action (Stmt-F.Load v space address) = Loads space
layer_action (Stmt-F.Store space address e) = Stores space
layer_action (Stmt-F.Call v callee args) = Calls callee
layer_action (Stmt-F.CallInd v callee args) = CallsInd
layer_action (Stmt-F.Other v index args) = Others index
layer_action (Stmt-F.Extra v offset) = Extras offset
layer_action (Stmt-F.Divide v op a b) = Divides op
layer_action s = NotSimple

abbrev pub layer_target : Stmt-F Stmt Arm → Option ℕ
layer_target (Stmt-F.Assign v e) = Some v
layer_target (Stmt-F.Load v space address) = Some v
layer_target (Stmt-F.Call v callee args) = v
layer_target (Stmt-F.CallInd v callee args) = v
layer_target (Stmt-F.Other v index args) = v
layer_target (Stmt-F.Extra v offset) = Some v
layer_target (Stmt-F.Divide v op a b) = Some v
layer_target s = None

abbrev pub layer_args : Stmt-F Stmt Arm → List Expr
layer_args (Stmt-F.Assign v e) = e ∷ []
layer_args (Stmt-F.Load v space address) = address ∷ []
layer_args (Stmt-F.Store space address e) = address ∷ e ∷ []
layer_args (Stmt-F.Call v callee args) = args
layer_args (Stmt-F.CallInd v callee args) = callee ∷ args
layer_args (Stmt-F.Other v index args) = args
layer_args (Stmt-F.Divide v op a b) = a ∷ b ∷ []
layer_args s = []

abbrev pub action_of : Stmt → Action
action_of s = layer_action (out-Stmt s)

-- a statement that has a meaning by itself
abbrev pub is_simple : Action → Bool
is_simple NotSimple = false
is_simple action = true

-- the variable that it assigns
abbrev pub target_of : Stmt → Option ℕ
target_of s = layer_target (out-Stmt s)

abbrev pub args_of : Stmt → List Expr
args_of s = layer_args (out-Stmt s)

-- ---- the statement with other parts

abbrev pub map_target : (ℕ → ℕ) → Option ℕ → Option ℕ
map_target g None = None
map_target g (Some v) = Some (g v)

abbrev pub layer_changed : (ℕ → ℕ) → (ℕ → Expr) → Stmt → Stmt-F Stmt Arm → Stmt
layer_changed g f s (Stmt-F.Assign v e) = S.Assign (g v) (with_all f e)
layer_changed g f s (Stmt-F.Load v space address) = S.Load (g v) space (with_all f address)
layer_changed g f s (Stmt-F.Store space address e) = S.Store space (with_all f address) (with_all f e)
layer_changed g f s (Stmt-F.Call v callee args) = S.Call (map_target g v) callee (with_each f args)
layer_changed g f s (Stmt-F.CallInd v callee args) = S.CallInd (map_target g v) (with_all f callee) (with_each f args)
layer_changed g f s (Stmt-F.Other v index args) = S.Other (map_target g v) index (with_each f args)
layer_changed g f s (Stmt-F.Extra v offset) = S.Extra (g v) offset
layer_changed g f s (Stmt-F.Divide v op a b) = S.Divide (g v) op (with_all f a) (with_all f b)
layer_changed g f s y = s

-- Its target under another name, and an expression in the place of each variable that it reads. What isn't simple
-- stays.
abbrev pub changed : (ℕ → ℕ) → (ℕ → Expr) → Stmt → Stmt
changed g f s = layer_changed g f s (out-Stmt s)

-- its variables under other names
abbrev pub renamed : (ℕ → ℕ) → Stmt → Stmt
renamed g s = changed g (named g) s

abbrev pub with_args : (ℕ → Expr) → Stmt → Stmt
with_args f s = changed (λ v. v) f s

-- ---- what is done with the values of the arguments

-- The run ends, and nothing else happens; or it goes on: with the value for the target, which depends on its width, the
-- register bytes that the last answer left, and the world.
pub data Done : Type 0 where
  Over : End → World Bytes → Done
  Goes : (value : ℕ → ℕ) → (left : ℕ → ℕ) → (world : World Bytes) → Done

abbrev pub put_into : (ℕ → ℕ) → Option ℕ → (ℕ → ℕ) → Env → Env
put_into ws None value env = env
put_into ws (Some v) value env = put env v (Some (value (ws v)))

abbrev pub performed : (ℕ → ℕ) → Option ℕ → Done → Local → Local
performed ws target (Over e w) x = in_world (ended e w) x
performed ws target (Goes value left w) x = record { env = put_into ws target value x.env; left = left; world = w }

-- a store of bytes at an address, from what writing them makes of the memory
abbrev pub stores : Event → Result Bytes End → (ℕ → ℕ) → World Bytes → Done
stores e (Err end) left w = Over end w
stores e (Ok m) left w = Goes (λ k. 0) left (recorded e (with_memory m w))

abbrev pub takes : Listing → Answer → List Answer → Result Bytes End → World Bytes → Done
takes l a rest (Err end) w = Over end w
takes l a rest (Ok m) w =
    let u : World Bytes =
    record { memory = hide_all (plain l) a.hidden m; answers = rest; events = w.events; over = w.over } in
    Goes (λ k. a.word % limit k) a.registers u

abbrev pub takes_from : Listing → List Answer → World Bytes → Done
takes_from l [] w = Over NoAnswer w
takes_from l (a ∷ rest) w = takes l a rest (write_all (plain l) a.memory w.memory) w

-- a call, after its event
abbrev pub takes_answer : Listing → World Bytes → Done
takes_answer l w = takes_from l w.answers w

abbrev pub calls : Listing → Bool → World Bytes → Done
calls l true w = takes_answer l w
calls l false w = Over NoReturn w

abbrev pub divides : Option ℕ → (ℕ → ℕ) → World Bytes → Done
divides None left w = Over DivZero w
divides (Some n) left w = Goes (λ k. n) left w

-- By whether the callee at an address returns, the widths of the arguments and their values. No statement has another
-- number of arguments than these.
abbrev pub act : Listing → (ℕ → Bool) → Action → List ℕ → List ℕ → (ℕ → ℕ) → World Bytes → Done
act l returns Sets ks (n ∷ []) left w = Goes (λ k. n) left w
act l returns (Loads space) ks (a ∷ []) left w = Goes (λ k. loaded l (accessed l space) k a w.memory) left w
act l returns (Stores space) (j ∷ k ∷ []) (a ∷ n ∷ []) left w =
    let s = accessed l space in
    let bs = bytes_in l s k n in
    stores (Store s (a % size_of l s) bs) ((plain l).write s (a % size_of l s) bs w.memory) left w
act l returns (Calls callee) ks ns left w = calls l (returns callee) (recorded (Call callee ns) w)
act l returns CallsInd ks (a ∷ ns) left w = takes_answer l (recorded (Call a ns) w)
act l returns (Others index) ks ns left w = takes_answer l (recorded (Other index ns) w)
act l returns (Extras offset) ks ns left w = Goes (λ k. left_word l offset k left) left w
act l returns (Divides op) (j ∷ k ∷ []) (m ∷ n ∷ []) left w = divides (divide_value (divide_of op) j m n) left w
act l returns action ks ns left w = Over Undefined w

-- where each argument has a value the action is done with them; else the run ends Undefined
abbrev pub done_with : Option (List ℕ) → Local → (List ℕ → Local) → Local
done_with None x next = ends Undefined x
done_with (Some ns) x next = next ns

-- what a simple statement does, by its parts, with the values of its arguments
abbrev pub done_by : Listing → (ℕ → ℕ) → (ℕ → Bool) → Stmt → Local → List ℕ → Local
done_by l ws returns s x ns =
    performed ws (target_of s) (act l returns (action_of s) (widths_of ws (args_of s)) ns x.left x.world) x

-- t is s with its target under another name and expressions in the place of its variables
pub record Changes (g : ℕ → ℕ) (f : ℕ → Expr) (s t : Stmt) : Type 0 where
  pub action : action_of t ≡ action_of s
  pub target : target_of t ≡ map_target g (target_of s)
  pub args : args_of t ≡ with_each f (args_of s)

-- an assignment, by its parts
pub record IsAssign (v : ℕ) (e : Expr) (s : Stmt) : Type 0 where
  pub action : action_of s ≡ Sets
  pub target : target_of s ≡ Some v
  pub args : args_of s ≡ e ∷ []

-- ---- how it ends

-- it doesn't end Undefined
abbrev pub IsFine : Done → Type 0
IsFine (Over e w) = e ≢ Undefined
IsFine (Goes value left w) = Unit {0}
