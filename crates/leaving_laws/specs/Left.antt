-- The code of a function that leaves SSA form. A constant stands where it is read. Each other value has a variable of
-- its own, and each MULTIEQUAL one more: first come the entry values, which are the parameters, in the order of their
-- storages, and then the other ones in the order of the blocks and their ops.
use Rattle.std.specs.Prelude.{ℕ, suc, ◌==◌, Bool, true, false, if◌then◌else◌, List, [], ◌∷◌, ◌++◌, length, map, Option, Some, None}
use Rattle.std.specs.List.{flat_map}
use Rattle.bits_core.specs.declared.word.Width.{Width}
use Rattle.bits_core.specs.declared.word.Word.{Word}
use Rattle.pcode_model.specs.declared.listing.Listing.{Listing}
use Rattle.cmeaning.specs.declared.tree.Expr.{Expr}
use Rattle.cmeaning.specs.declared.tree.Expr.TheVariants as E
use Rattle.cmeaning.specs.declared.tree.Stmt.{Stmt}
use Rattle.blockcode.specs.declared.code.Variable.{Variable}
use Rattle.blockcode.specs.declared.code.Block.{Block}
use Rattle.blockcode.specs.declared.code.Code.{Code}
use Rattle.parts.specs.Stmts.{target_of, changed}
use Rattle.edges.specs.Exits.{exit_with}
use Rattle.edges.specs.Run.{stmts_at, exit_at}
use Rattle.opgraph.specs.Graph.{OpRow, op_at}
use Rattle.ssa_model.specs.declared.form.Parts.{Parts}
use Rattle.ssa_model.specs.Roles.{Role, Constant, Starts, Joins, role_of}
use Rattle.ssa_model.specs.Lines.{word_in}
use Rattle.ssa_model.specs.Starting.{all_ops, starting}
use Rattle.leaving_laws.specs.Values.{fresh}
use Rattle.leaving_laws.specs.Copied.{up_to, copied_blocks}

-- ---- variables

-- a variable of the code, and the number that it has in the function with copies
pub record Held : Type 0 where
  pub number : ℕ
  pub variable : Variable

abbrev pub local_of : ℕ → Width → Held
local_of x w = record { number = x; variable = record { width = w; storage = None } }

abbrev pub held_by : Parts → ℕ → Role → Option Width → List Held
held_by p x role None = []
held_by p x (Constant n) (Some w) = []
held_by p x (Starts s) (Some w) = []
held_by p x (Joins atom) (Some w) = local_of x w ∷ local_of (fresh p x) w ∷ []
held_by p x role (Some w) = local_of x w ∷ []

abbrev pub held_in : Parts → ℕ → Option OpRow → List Held
held_in p x None = []
held_in p x (Some r) = held_by p x (role_of r.code) r.width

abbrev pub parameter_by : ℕ → Role → Option Width → List Held
parameter_by x (Starts s) (Some w) = record { number = x; variable = record { width = w; storage = Some s } } ∷ []
parameter_by x role w = []

abbrev pub parameter_in : ℕ → Option OpRow → List Held
parameter_in x None = []
parameter_in x (Some r) = parameter_by x (role_of r.code) r.width

abbrev pub held_of : Parts → List Held
held_of p =
    flat_map (λ (x : ℕ). parameter_in x (op_at p.graph x)) (starting p)
    ++ flat_map (λ (x : ℕ). held_in p x (op_at p.graph x)) (all_ops p.graph (up_to (length p.graph.blocks)))

-- where a number stands in a list
abbrev pub place : ℕ → List ℕ → ℕ
place v [] = 0
place v (x ∷ xs) = if x == v then 0 else suc (place v xs)

abbrev pub held_numbers : Parts → List ℕ
held_numbers p = map (λ (h : Held). h.number) (held_of p)

-- the variable's number in the code
abbrev pub name_of : Parts → ℕ → ℕ
name_of p v = place v (held_numbers p)

-- ---- constants where they are read

abbrev pub constant_by : Role → Option Width → Option Word
constant_by (Constant n) (Some w) = Some (word_in w n)
constant_by role w = None

abbrev pub constant_in : Option OpRow → Option Word
constant_in None = None
constant_in (Some r) = constant_by (role_of r.code) r.width

abbrev pub seen_by : Option Word → ℕ → Expr
seen_by None x = E.Var x
seen_by (Some w) x = E.Const w

-- the constant or the variable that a value is
abbrev pub seen_value : Parts → ℕ → Expr
seen_value p v = seen_by (constant_in (op_at p.graph v)) (name_of p v)

abbrev pub is_word : Option Word → Bool
is_word None = false
is_word (Some w) = true

abbrev pub sets_constant : Parts → Option ℕ → Bool
sets_constant p None = false
sets_constant p (Some v) = is_word (constant_in (op_at p.graph v))

-- the statements but those that assign constants, over the code's variables
abbrev pub placed : Parts → List Stmt → List Stmt
placed p [] = []
placed p (a ∷ rest) =
    if sets_constant p (target_of a) then placed p rest else changed (name_of p) (seen_value p) a ∷ placed p rest

-- ---- the code

abbrev pub placed_block : Listing → Parts → ℕ → Block
placed_block l p b = record {
  body = placed p (stmts_at (copied_blocks l p) b);
  exit = exit_with (seen_value p) (exit_at (copied_blocks l p) b);
}

abbrev pub placed_code : Listing → Parts → Code
placed_code l p = record {
  variables = map (λ (h : Held). h.variable) (held_of p);
  blocks = map (placed_block l p) (up_to (length p.graph.blocks));
  entry = p.entry.0;
}
