-- What a valid tree is: a C function that has a text of the subset. This project's own.
use Rattle.std.specs.Prelude.{◌≡◌, ℕ, ◌+◌, ◌-◌, ◌^◌, ◌==◌, ◌&&◌, nat_lt, nat_le, not, Bool, true, false, if◌then◌else◌, IsTrue, List, [], ◌∷◌, ◌++◌, length, map, Option, Some, None, pos, negsuc}
use Rattle.std.specs.Int.Signed.{lt_z, le_z}
use Rattle.bits_core.specs.declared.word.Width.{Width}
use Rattle.bits_core.specs.Value.{limit}
use Rattle.pcode_model.specs.declared.storage.ParamStorage.{ParamStorage}
use Rattle.pcode_model.specs.declared.storage.ParamStorage.TheVariants.{Register, Unique, Stack}
use Rattle.pcode_model.specs.Spaces.{or}
use Rattle.cmeaning.specs.declared.numbering.Next.{Next}
use Rattle.cmeaning.specs.declared.shape.Shape.{Shape}
use Rattle.cmeaning.specs.declared.tree.Param.{Param}
use Rattle.cmeaning.specs.declared.tree.CName.{CName}
use Rattle.cmeaning.specs.declared.tree.CName.TheVariants.{Declared, Bare}
use Rattle.cmeaning.specs.declared.tree.CalleeDecl.{CalleeDecl}
use Rattle.cmeaning.specs.declared.tree.CFunction.{CFunction}
use Rattle.cmeaning.specs.declared.tree.Expr.{Expr}
use Rattle.cmeaning.specs.declared.tree.Arm.{Arm}
use Rattle.cmeaning.specs.declared.tree.Stmt.{Stmt, fold-Stmt}
use Rattle.cmeaning.specs.declared.tree.Stmt.TheFolds.{fold-Arm}
use Rattle.cmeaning.specs.declared.tree.Stmt.TheOpen.{Stmt-F, Arm-F}
pub use Rattle.listing_lines.specs.Tokens.{is_name}
pub use Rattle.cmeaning.specs.Callees.{declared_in}
use Rattle.cmeaning.specs.Do.{same_name, widths_in}
use Rattle.cmeaning.specs.Shape.{shape_of, is_right, has_width, is_condition}
use Rattle.cmeaning.specs.Mentions.{in_body, numbered}

-- ---- numbers

-- a number of 64 bits
abbrev pub is_long : ℕ → Bool
is_long n = nat_lt n (2 ^ 64)

-- ---- parameters

abbrev pub is_storage : ParamStorage → Bool
is_storage (Register offset) = is_long offset
is_storage (Unique offset) = is_long offset
is_storage (Stack offset) = le_z (negsuc 2147483647) offset && lt_z offset (pos 2147483648)

-- the order of storages: register, unique, stack, and by rising offset
abbrev pub is_before : ParamStorage → ParamStorage → Bool
is_before (Register a) (Register b) = nat_lt a b
is_before (Register a) (Unique b) = true
is_before (Register a) (Stack b) = true
is_before (Unique a) (Register b) = false
is_before (Unique a) (Unique b) = nat_lt a b
is_before (Unique a) (Stack b) = true
is_before (Stack a) (Register b) = false
is_before (Stack a) (Unique b) = false
is_before (Stack a) (Stack b) = lt_z a b

abbrev pub is_either_before : ParamStorage → ParamStorage → Bool
is_either_before a b = or (is_before a b) (is_before b a)

-- Of two parameters in this order. Model parameters come first, and two of them have different storages, which make their
-- names. The others come by their storages.
abbrev pub may_precede : Param → Param → Bool
may_precede p q = if p.model then (if q.model then is_either_before p.storage q.storage else true)
    else (not q.model && is_before p.storage q.storage)

abbrev pub precedes_all : Param → List Param → Bool
precedes_all p [] = true
precedes_all p (q ∷ qs) = may_precede p q && precedes_all p qs

abbrev pub are_params : List Param → Bool
are_params [] = true
are_params (p ∷ ps) = is_storage p.storage && (precedes_all p ps && are_params ps)

-- ---- declarations of callees

abbrev pub is_callee_name : CName → Bool
is_callee_name (Declared name) = is_name name
is_callee_name Bare = true

-- one that never returns has no result
abbrev pub result_fits : Bool → Option Width → Bool
result_fits true gives = true
result_fits false None = true
result_fits false (Some w) = false

-- A bare name is made from the address.
abbrev pub same_callee_name : CName → CName → Bool
same_callee_name (Declared a) (Declared b) = same_name a b
same_callee_name (Declared a) Bare = false
same_callee_name Bare (Declared b) = false
same_callee_name Bare Bare = false

abbrev pub are_apart : CalleeDecl → CalleeDecl → Bool
are_apart c d = not (c.address == d.address) && not (same_callee_name c.name d.name)

abbrev pub is_apart_from : CalleeDecl → List CalleeDecl → Bool
is_apart_from c [] = true
is_apart_from c (d ∷ ds) = are_apart c d && is_apart_from c ds

abbrev pub is_callee : CalleeDecl → Bool
is_callee c = is_long c.address && (is_callee_name c.name && result_fits c.returns c.gives)

abbrev pub are_callees : List CalleeDecl → Bool
are_callees [] = true
are_callees (c ∷ cs) = is_callee c && (is_apart_from c cs && are_callees cs)

-- ---- the parts of statements

abbrev pub is_variable : (ℕ → ℕ) → ℕ → Bool
is_variable ws v = nat_lt v (2 ^ 32) && nat_lt 0 (ws v)

abbrev pub is_target : (ℕ → ℕ) → Option ℕ → Bool
is_target ws None = true
is_target ws (Some v) = is_variable ws v

abbrev pub is_space : Option (List ℕ) → Bool
is_space None = true
is_space (Some name) = is_name name

-- expressions of any width
abbrev pub are_right : (ℕ → ℕ) → List Expr → Bool
are_right ws [] = true
are_right ws (e ∷ es) = is_right (shape_of ws e) && are_right ws es

-- as many expressions as widths, each of its width
abbrev pub have_widths : (ℕ → ℕ) → List Expr → List Width → Bool
have_widths ws [] [] = true
have_widths ws [] (w ∷ rest) = false
have_widths ws (e ∷ es) [] = false
have_widths ws (e ∷ es) (w ∷ rest) = has_width w.bytes (shape_of ws e) && have_widths ws es rest

-- a call's target is as wide as the callee's result
abbrev pub takes : (ℕ → ℕ) → Option ℕ → Option Width → Bool
takes ws None gives = true
takes ws (Some v) None = false
takes ws (Some v) (Some w) = is_variable ws v && ws v == w.bytes

abbrev pub is_call : (ℕ → ℕ) → Option ℕ → List Expr → Option CalleeDecl → Bool
is_call ws v args None = false
is_call ws v args (Some c) = have_widths ws args c.args && takes ws v c.gives

-- what is assigned has the variable's width
abbrev pub is_assigned : (ℕ → ℕ) → ℕ → Option Shape → Bool
is_assigned ws v e = is_variable ws v && has_width (ws v) e

abbrev pub is_returned : (ℕ → ℕ) → Option Width → Option Expr → Bool
is_returned ws None None = true
is_returned ws None (Some e) = false
is_returned ws (Some w) None = false
is_returned ws (Some w) (Some e) = has_width w.bytes (shape_of ws e)

-- ---- case values

abbrev pub is_in : ℕ → List ℕ → Bool
is_in x [] = false
is_in x (y ∷ ys) = or (x == y) (is_in x ys)

abbrev pub are_distinct : List ℕ → Bool
are_distinct [] = true
are_distinct (x ∷ xs) = not (is_in x xs) && are_distinct xs

-- the case values of arms, in the order of the text
abbrev pub cases_of : List Arm → List ℕ
cases_of [] = []
cases_of (a ∷ rest) = a.cases ++ cases_of rest

-- each a word of w bytes
abbrev pub are_words : ℕ → List ℕ → Bool
are_words w [] = true
are_words w (x ∷ xs) = nat_lt x (limit w) && are_words w xs

abbrev pub are_cases_of : List ℕ → Option Shape → Bool
are_cases_of values None = false
are_cases_of values (Some s) = are_distinct values && are_words s.width values

-- ---- statements

-- calls: whether an EXTRAOUT may stand directly after the statement.
-- holds: whether it obeys the rules; by whether it stands directly after a call or an EXTRAOUT of one, whether it stands
-- in a loop and not in a switch inside it, and how many levels of statements may stand inside it.
pub record Rule : Type 0 where
  pub calls : Bool
  pub holds : (after_call in_loop : Bool) → (room : ℕ) → Bool

-- an arm: its case values and its statements
pub record Cased : Type 0 where
  pub cases : List ℕ
  pub body : List Rule

-- statements one after another, with so many levels left for them
abbrev pub all_hold : Bool → List Rule → Bool → ℕ → Bool
all_hold after_call [] in_loop room = true
all_hold after_call (x ∷ xs) in_loop room = nat_lt 0 room
    && (x.holds after_call in_loop (room - 1) && all_hold x.calls xs in_loop room)

abbrev pub has_case : List ℕ → Bool
has_case [] = false
has_case (x ∷ xs) = true

-- each arm has a case value
abbrev pub arms_hold : List Cased → ℕ → Bool
arms_hold [] room = true
arms_hold (a ∷ rest) room = has_case a.cases && (all_hold false a.body false room && arms_hold rest room)

abbrev pub all_cases : List Cased → List ℕ
all_cases [] = []
all_cases (a ∷ rest) = a.cases ++ all_cases rest

-- a statement without statements in it
abbrev pub plainly : Bool → Rule
plainly right = record { calls = false; holds = λ after_call in_loop room. right }

abbrev pub calling : Bool → Rule
calling right = record { calls = true; holds = λ after_call in_loop room. right }

-- in a function whose next label would have the number `labels`
abbrev pub rule_step : CFunction → ℕ → Stmt-F Rule Cased → Rule
rule_step f labels (Stmt-F.Assign v e) = plainly (is_assigned (widths_in f) v (shape_of (widths_in f) e))
rule_step f labels (Stmt-F.Load v space address) =
    plainly (is_variable (widths_in f) v && (is_space space && is_right (shape_of (widths_in f) address)))
rule_step f labels (Stmt-F.Store space address e) =
    plainly (is_space space && (is_right (shape_of (widths_in f) address) && is_right (shape_of (widths_in f) e)))
rule_step f labels (Stmt-F.Call v callee args) = calling (is_call (widths_in f) v args (declared_in f.callees callee))
rule_step f labels (Stmt-F.CallInd v callee args) =
    calling (is_target (widths_in f) v && (is_right (shape_of (widths_in f) callee) && are_right (widths_in f) args))
rule_step f labels (Stmt-F.Other v index args) =
    plainly (is_target (widths_in f) v && (is_long index && are_right (widths_in f) args))
rule_step f labels (Stmt-F.Extra v offset) =
    record {
      calls = true;
      holds = λ after_call in_loop room. after_call
          && (is_variable (widths_in f) v && is_long offset);
    }
rule_step f labels (Stmt-F.Divide v op a b) =
    plainly (is_assigned (widths_in f) v (shape_of (widths_in f) a)
    && has_width (widths_in f v) (shape_of (widths_in f) b))
rule_step f labels (Stmt-F.If c body) =
    record {
      calls = false;
      holds = λ after_call in_loop room. is_condition (shape_of (widths_in f) c)
          && all_hold false body in_loop room;
    }
rule_step f labels (Stmt-F.IfElse c body other) =
    record {
      calls = false;
      holds = λ after_call in_loop room. is_condition (shape_of (widths_in f) c)
          && (all_hold false body in_loop room && all_hold false other in_loop room);
    }
rule_step f labels (Stmt-F.While c body) =
    record {
      calls = false;
      holds = λ after_call in_loop room. is_condition (shape_of (widths_in f) c)
          && all_hold false body true room;
    }
rule_step f labels (Stmt-F.DoWhile body c) =
    record {
      calls = false;
      holds = λ after_call in_loop room. is_condition (shape_of (widths_in f) c)
          && all_hold false body true room;
    }
rule_step f labels (Stmt-F.Loop body) =
    record { calls = false; holds = λ after_call in_loop room. all_hold false body true room }
rule_step f labels Stmt-F.Break = record { calls = false; holds = λ after_call in_loop room. in_loop }
rule_step f labels (Stmt-F.Switch e arms) =
    record {
      calls = false;
      holds =
          λ after_call in_loop room. are_cases_of (all_cases arms) (shape_of (widths_in f) e) && arms_hold arms room;
    }
rule_step f labels (Stmt-F.Goto n) = plainly (nat_lt 0 n && nat_lt n labels)
rule_step f labels (Stmt-F.Label n) = plainly (nat_lt n (2 ^ 32))
rule_step f labels (Stmt-F.Return e) = plainly (is_returned (widths_in f) f.gives e)

abbrev pub cased_step : Arm-F Rule Cased → Cased
cased_step a = record { cases = a.cases; body = a.body }

unfoldable pub cased_of : CFunction → ℕ → Arm → Cased
cased_of f labels a = fold-Arm Rule Cased (rule_step f labels) cased_step a

unfoldable pub rule_of : CFunction → ℕ → Stmt → Rule
rule_of f labels s = fold-Stmt Rule Cased (rule_step f labels) cased_step s

-- statements are at most 256 deep
abbrev pub is_body : CFunction → ℕ → List Stmt → Bool
is_body f labels body = all_hold false (map (rule_of f labels) body) false 256

-- ---- functions

-- each local appears, each callee has a call, and the statements obey their rules, by the next numbers after the body
abbrev pub is_complete : CFunction → Option Next → Bool
is_complete f None = false
is_complete f (Some n) = n.variable == length f.params + length f.locals
    && (n.callee == length f.callees && is_body f n.label f.body)

abbrev pub first_next : CFunction → Next
first_next f = record { variable = length f.params; callee = 0; label = 1 }

-- name, params, callees: names have their form, numbers their range, and parameters and declarations of callees differ
-- and stand in their order.
-- numbers: locals, callees and labels are numbered by first appearance in the body, and `next` are the numbers that would
-- come next.
-- locals, calls: each local appears, and each callee has a call.
-- body: the statements obey their rules.
pub record IsValid (f : CFunction) : Type 0 where
  pub next : Next
  pub name : IsTrue (is_name f.name)
  pub params : IsTrue (are_params f.params)
  pub callees : IsTrue (are_callees f.callees)
  pub numbers : numbered f.callees (in_body f.body) (Some (first_next f)) ≡ Some next
  pub locals : next.variable ≡ length f.params + length f.locals
  pub calls : next.callee ≡ length f.callees
  pub body : IsTrue (is_body f next.label f.body)
