-- What a simple statement does. Memory, answers, events and ends are those of the p-code run, over memory that is bytes
-- alone; what is undefined is this project's own. Addresses are byte addresses, taken modulo the size of their space.
-- A statement evaluates its operands first: where one has no value the run ends Undefined, and nothing else happens.
use Rattle.std.specs.Prelude.{ℕ, suc, ◌-◌, ◌%◌, ◌==◌, ◌&&◌, Bool, true, false, if◌then◌else◌, List, [], ◌∷◌, length, slice_get, Option, Some, None}
use Rattle.machine.specs.Trace.{End, Call, Other, DivZero, NoReturn, Undefined}
use Rattle.bits_core.specs.declared.ops.Divide.{Divide}
use Rattle.bits_core.specs.declared.ops.Divide.TheVariants as D
use Rattle.bits_core.specs.Value.{limit, divide_value}
use Rattle.bits_core.specs.Bytes.{word_of}
use Rattle.pcode_model.specs.declared.listing.Space.{Space}
use Rattle.pcode_model.specs.declared.listing.Listing.{Listing}
use Rattle.pcode_model.specs.Spaces.{size_of, is_big, first_ram, register_space, bytes_at, put}
use Rattle.pcode_model.specs.Memory.{Bytes, plain}
use Rattle.pcode_model.specs.World.{World, ended, recorded, store, Taken, Stops, Took, take_answer}
use Rattle.pcode_model.specs.Step.{word_in_bytes, bytes_in}
use Rattle.cmeaning.specs.declared.tree.StatementDivision.{StatementDivision}
use Rattle.cmeaning.specs.declared.tree.StatementDivision.TheVariants.{Div, SDiv, Rem, SRem}
use Rattle.cmeaning.specs.declared.tree.Expr.{Expr}
use Rattle.cmeaning.specs.declared.tree.Stmt.{Stmt, out-Stmt}
use Rattle.cmeaning.specs.declared.tree.Stmt.TheOpen.{Stmt-F}
use Rattle.cmeaning.specs.declared.tree.Arm.{Arm}
use Rattle.cmeaning.specs.declared.tree.Param.{Param}
use Rattle.cmeaning.specs.declared.tree.Local as tree
use Rattle.cmeaning.specs.declared.tree.CFunction.{CFunction}
use Rattle.cmeaning.specs.Value.{width_of, value_of}

-- ---- the state of a C run, but for its place

-- The word that each variable holds, None where it was never assigned; the register bytes that the last answer left; and
-- the world.
pub record Local : Type 0 where
  pub env : ℕ → Option ℕ
  pub left : ℕ → ℕ
  pub world : World Bytes

abbrev pub in_world : World Bytes → Local → Local
in_world w x = record { env = x.env; left = x.left; world = w }

abbrev pub ends : End → Local → Local
ends e x = in_world (ended e x.world) x

-- a variable holds a word
abbrev pub assigned : ℕ → ℕ → Local → Local
assigned v n x = record { env = put x.env v (Some n); left = x.left; world = x.world }

-- ---- variables and spaces

abbrev pub local_width : Option tree.Local → ℕ
local_width None = 0
local_width (Some v) = v.width.bytes

abbrev pub variable_width : Option Param → Option tree.Local → ℕ
variable_width None v = local_width v
variable_width (Some p) v = p.width.bytes

-- a variable's width in bytes by its number, the parameters first and then the locals
abbrev pub widths_in : CFunction → ℕ → ℕ
widths_in f n = variable_width (slice_get f.params n) (slice_get f.locals (n - length f.params))

abbrev pub same_name : List ℕ → List ℕ → Bool
same_name [] [] = true
same_name [] (d ∷ ds) = false
same_name (c ∷ cs) [] = false
same_name (c ∷ cs) (d ∷ ds) = c == d && same_name cs ds

abbrev pub space_named : List ℕ → List Space → ℕ
space_named name [] = 0
space_named name (s ∷ rest) = if same_name name s.name then 0 else suc (space_named name rest)

-- the number of the space that a load or store names; without a name it is the first ram space
abbrev pub accessed : Listing → Option (List ℕ) → ℕ
accessed l None = first_ram l
accessed l (Some name) = space_named name l.spaces

-- ---- operands

abbrev pub with_word : Option ℕ → Local → (ℕ → Local) → Local
with_word None x next = ends Undefined x
with_word (Some n) x next = next n

abbrev pub with_words : List (Option ℕ) → Local → (List ℕ → Local) → Local
with_words [] x next = next []
with_words (a ∷ rest) x next = with_word a x (λ n. with_words rest x (λ ns. next (n ∷ ns)))

-- the values of expressions
abbrev pub values_of : (ℕ → ℕ) → (ℕ → Option ℕ) → List Expr → List (Option ℕ)
values_of ws env [] = []
values_of ws env (e ∷ es) = value_of ws env e ∷ values_of ws env es

-- ---- the effects of statements

-- so many bytes of a space from an address on, as a word
abbrev pub loaded : Listing → ℕ → ℕ → ℕ → Bytes → ℕ
loaded l s k a m = word_in_bytes l s (a % size_of l s) k m

-- a word of so many bytes is stored in a space, and the store is observed
abbrev pub stored : Listing → ℕ → ℕ → ℕ → ℕ → Local → Local
stored l s k a n x = in_world (store (plain l) s (a % size_of l s) (bytes_in l s k n) x.world) x

-- a call's target takes the answer's word, reduced to its width
abbrev pub with_target : (ℕ → ℕ) → Option ℕ → ℕ → (ℕ → Option ℕ) → ℕ → Option ℕ
with_target ws None n env = env
with_target ws (Some v) n env = put env v (Some (n % limit (ws v)))

abbrev pub answered : (ℕ → ℕ) → Option ℕ → Taken Bytes → Local → Local
answered ws v (Stops w) x = in_world w x
answered ws v (Took a w) x = record { env = with_target ws v a.word x.env; left = a.registers; world = w }

-- the next answer is taken
abbrev pub asks : Listing → (ℕ → ℕ) → Option ℕ → Local → Local
asks l ws v x = answered ws v (take_answer (plain l) x.world) x

abbrev pub called : Listing → (ℕ → ℕ) → Option ℕ → Bool → Local → Local
called l ws v true x = asks l ws v x
called l ws v false x = ends NoReturn x

abbrev pub divided : ℕ → Option ℕ → Local → Local
divided v None x = ends DivZero x
divided v (Some n) x = assigned v n x

abbrev pub divide_of : StatementDivision → Divide
divide_of Div = D.Quotient
divide_of SDiv = D.SignedQuotient
divide_of Rem = D.Remainder
divide_of SRem = D.SignedRemainder

-- the last answer's register bytes from an offset on, as a word
abbrev pub left_word : Listing → ℕ → ℕ → (ℕ → ℕ) → ℕ
left_word l offset k left = word_of (is_big l (register_space l))
    (bytes_at (size_of l (register_space l)) left offset k)

-- ---- simple statements

-- the address that a statement calls
abbrev pub callee_in : Stmt-F Stmt Arm → Option ℕ
callee_in (Stmt-F.Call v callee args) = Some callee
callee_in s = None

abbrev pub callee_of : Stmt → Option ℕ
callee_of s = callee_in (out-Stmt s)

-- by the widths of the variables, and by whether the callee at an address returns. What is no simple statement has no
-- meaning here.
abbrev pub do_layer : Listing → (ℕ → ℕ) → (ℕ → Bool) → Stmt-F Stmt Arm → Local → Local
do_layer l ws returns (Stmt-F.Assign v e) x = with_word (value_of ws x.env e) x (λ n. assigned v n x)
do_layer l ws returns (Stmt-F.Load v space address) x =
    with_word (value_of ws x.env address) x (λ a. assigned v (loaded l (accessed l space) (ws v) a x.world.memory) x)
do_layer l ws returns (Stmt-F.Store space address e) x =
    with_word (value_of ws x.env address) x
    (λ a. with_word (value_of ws x.env e) x (λ n. stored l (accessed l space) (width_of ws e) a n x))
do_layer l ws returns (Stmt-F.Call v callee args) x =
    with_words (values_of ws x.env args) x
    (λ ns. called l ws v (returns callee) (in_world (recorded (Call callee ns) x.world) x))
do_layer l ws returns (Stmt-F.CallInd v callee args) x =
    with_word (value_of ws x.env callee) x
    (λ a. with_words (values_of ws x.env args) x (λ ns. asks l ws v (in_world (recorded (Call a ns) x.world) x)))
do_layer l ws returns (Stmt-F.Other v index args) x =
    with_words (values_of ws x.env args) x (λ ns. asks l ws v (in_world (recorded (Other index ns) x.world) x))
do_layer l ws returns (Stmt-F.Extra v offset) x = assigned v (left_word l offset (ws v) x.left) x
do_layer l ws returns (Stmt-F.Divide v op a b) x =
    with_word (value_of ws x.env a) x
    (λ m. with_word (value_of ws x.env b) x (λ n. divided v (divide_value (divide_of op) (width_of ws a) m n) x))
do_layer l ws returns s x = ends Undefined x

abbrev pub do_simple : Listing → (ℕ → ℕ) → (ℕ → Bool) → Stmt → Local → Local
do_simple l ws returns s x = do_layer l ws returns (out-Stmt s) x
