-- Ops that are dropped at once. A set of them may read one another, as a cycle of MULTIEQUALs does.
use Rattle.std.specs.Prelude.{◌≡◌, ℕ, ◌+◌, ◌==◌, Bool, true, false, if◌then◌else◌, List, [], ◌∷◌, length, map, Option, Some, None}
use Rattle.node_lists.specs.Chains.{IsIn}
use Rattle.opgraph.specs.declared.code.Code.TheVariants as K
use Rattle.opgraph.specs.declared.ids.OpId.{OpId}
use Rattle.opgraph.specs.Graph.{OpRow, Graph, op_at, block_at, inputs_in, IsOp, IsWhole}
use Rattle.ssa_model.specs.Outline.{Form}

-- ---- numbers in lists

abbrev pub op_numbers : List OpId → List ℕ
op_numbers = map (λ (op : OpId). op.0)

abbrev pub is_in : ℕ → List ℕ → Bool
is_in x [] = false
is_in x (y ∷ ys) = if y == x then true else is_in x ys

-- the list without some numbers
abbrev pub without_all : List ℕ → List ℕ → List ℕ
without_all xs [] = []
without_all xs (y ∷ ys) = if is_in y xs then without_all xs ys else y ∷ without_all xs ys

-- ---- functions

abbrev pub AreOps : Graph → List ℕ → Type 0
AreOps g [] = Unit {0}
AreOps g (x ∷ xs) = IsOp g x × AreOps g xs

-- only ops of the list read values of the list
pub record AreUnread (rows : ℕ → Option OpRow) (xs : List ℕ) : Type 0 where
  pub at : (y v : ℕ) (r : OpRow) → rows y ≡ Some r → IsIn v r.inputs → IsIn v xs → IsIn y xs

-- no op reads a value of the list
pub record AreReadByNone (rows : ℕ → Option OpRow) (xs : List ℕ) : Type 0 where
  pub at : (y v : ℕ) (r : OpRow) → rows y ≡ Some r → IsIn v r.inputs → IsIn v xs → ⊥

-- the ops are gone from their blocks
abbrev pub without_ops : List ℕ → Form → Form
without_ops xs f = record f {
  rows = λ x. if is_in x xs then None else f.rows x;
  lists = λ b. without_all xs (f.lists b);
}

-- ---- graphs

-- how many slots the ops have
abbrev pub slots_of : Graph → List ℕ → ℕ
slots_of g [] = 0
slots_of g (x ∷ xs) = length (inputs_in (op_at g x)) + slots_of g xs

abbrev pub blank_row : OpRow → OpRow
blank_row r = record r { code = K.Const 0; inputs = [] }

abbrev pub blank : Option OpRow → Option OpRow
blank None = None
blank (Some r) = Some (blank_row r)

-- the ops are constants now, which read nothing
pub record Blanked (xs : List ℕ) (old new : Graph) : Type 0 where
  pub changed : (y : ℕ) → IsIn y xs → op_at new y ≡ blank (op_at old y)
  pub stays : (y : ℕ) → (IsIn y xs → ⊥) → op_at new y ≡ op_at old y
  pub blocks : block_at new ≡ block_at old
  pub count : length new.blocks ≡ length old.blocks
  pub whole : IsWhole new

-- the ops are no longer in the graph
pub record Cleared (xs : List ℕ) (old new : Graph) : Type 0 where
  pub gone : (y : ℕ) → IsIn y xs → op_at new y ≡ None
  pub stays : (y : ℕ) → (IsIn y xs → ⊥) → op_at new y ≡ op_at old y
  pub blocks : (b : ℕ) → block_at new b ≡ without_all xs (block_at old b)
  pub count : length new.blocks ≡ length old.blocks
  pub whole : IsWhole new
