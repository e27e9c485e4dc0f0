-- What a contract sees of a graph of operations. This project's own.
use Rattle.std.specs.Prelude.{◌≡◌, ℕ, ◌+◌, ◌<◌, ◌^◌, ◌==◌, if◌then◌else◌, List, [], ◌∷◌, ◌⊎◌, ◌↔◌, length, map, Option, Some, None, IsSome, slice_get}
use Rattle.bits_core.specs.declared.word.Width.{Width}
use Rattle.opgraph.specs.declared.code.Code.{Code}
use Rattle.opgraph.specs.declared.ids.OpId.{OpId}
use Rattle.opgraph.specs.declared.ids.Slot.{Slot}
use Rattle.opgraph.specs.declared.ids.ValueId.{ValueId}
use Rattle.node_lists.specs.Chains.{IsIn, Apart, removed, put_at}

-- what the graph says of an op: the number of its block, what it does, the
-- numbers of the values that its slots read, in order, and its value's width
pub record OpRow : Type 0 where
  pub block : ℕ
  pub code : Code
  pub inputs : List ℕ
  pub width : Option Width

-- the ops, the list of the ops of each block, the list of the slots that read
-- each value, and the spares, each by its number
pub record Graph : Type 0 where
  pub ops : List (Option OpRow)
  pub blocks : List (List ℕ)
  pub uses : List (List Slot)
  pub spare_ops : ℕ
  pub spare_slots : ℕ

abbrev pub op_slot : Option (Option OpRow) → Option OpRow
op_slot None = None
op_slot (Some r) = r

abbrev pub list_slot : {X : Type 0} → Option (List X) → List X
list_slot None = []
list_slot (Some xs) = xs

-- the map from ops to what the graph says of them
abbrev pub op_at : Graph → ℕ → Option OpRow
op_at g x = op_slot (slice_get g.ops x)

-- the ops of a block, in order
abbrev pub block_at : Graph → ℕ → List ℕ
block_at g b = Rattle.node_lists.specs.Families.list_slot (slice_get g.blocks b)

-- the slots that read a value
abbrev pub uses_at : Graph → ℕ → List Slot
uses_at g v = list_slot (slice_get g.uses v)

abbrev pub has_width : Option OpRow → Type 0
has_width None = ⊥
has_width (Some r) = IsSome r.width

abbrev pub inputs_in : Option OpRow → List ℕ
inputs_in None = []
inputs_in (Some r) = r.inputs

-- the op is in the graph
abbrev pub IsOp : Graph → ℕ → Type 0
IsOp g x = IsSome (op_at g x)

-- the block is in the graph
abbrev pub IsBlock : Graph → ℕ → Type 0
IsBlock g b = b < length g.blocks

-- the value is in the graph: it is that of an op with a width
abbrev pub IsValue : Graph → ℕ → Type 0
IsValue g v = has_width (op_at g v)

abbrev pub AreValues : Graph → List ℕ → Type 0
AreValues g [] = Unit {0}
AreValues g (v ∷ vs) = IsValue g v × AreValues g vs

-- the numbers of values
abbrev pub numbers : List ValueId → List ℕ
numbers = map (λ (v : ValueId). v.0)

-- the values of these numbers
abbrev pub value_ids : List ℕ → List ValueId
value_ids = map (λ (v : ℕ). record { 0 = v })

-- the number of an op
abbrev pub op_number : Option OpId → Option ℕ
op_number None = None
op_number (Some op) = Some op.0

-- a slot reads the value
abbrev pub Reads : Graph → Slot → ℕ → Type 0
Reads g t v = slice_get (inputs_in (op_at g t.op.0)) t.slot ≡ Some v

-- the slot stands in the list
abbrev pub IsAmong : Slot → List Slot → Type 0
IsAmong t [] = ⊥
IsAmong t (u ∷ us) = (t ≡ u) ⊎ IsAmong t us

-- no slot stands twice in the list
abbrev pub IsOnce : List Slot → Type 0
IsOnce [] = Unit {0}
IsOnce (u ∷ us) = (IsAmong u us → ⊥) × IsOnce us

-- the op x is in the block b
abbrev pub in_block : ℕ → Option OpRow → Type 0
in_block b None = ⊥
in_block b (Some r) = r.block ≡ b

-- the lists of a graph: the uses of a value are exactly the slots that read it,
-- each once, the ops of a block are exactly those that the map has in it, each
-- once, and each slot reads a value of the graph
pub record IsWhole (g : Graph) : Type 0 where
  pub uses : (v : ℕ) (t : Slot) → IsAmong t (uses_at g v) ↔ Reads g t v
  pub uses_once : (v : ℕ) → IsOnce (uses_at g v)
  pub ops : (b : ℕ) (x : ℕ) → IsIn x (block_at g b) ↔ in_block b (op_at g x)
  pub ops_once : (b : ℕ) → Apart (block_at g b)
  pub values : (t : Slot) (v : ℕ) → Reads g t v → IsValue g v

-- how many numbers there are in all the lists
abbrev pub total : List (List ℕ) → ℕ
total [] = 0
total (xs ∷ xss) = length xs + total xss

-- the greatest numbers: of blocks, of ops with the spare ones, and of inputs with the spare slots
pub record IsCounted (g : Graph) : Type 0 where
  pub blocks : length g.blocks < 2 ^ 32
  pub ops : total g.blocks + g.spare_ops < 2 ^ 32
  pub slots : total (map inputs_in g.ops) + g.spare_slots < 2 ^ 32

-- all is the same but maybe the spares
pub record Same (old new : Graph) : Type 0 where
  pub ops : op_at new ≡ op_at old
  pub blocks : block_at new ≡ block_at old
  pub count : length new.blocks ≡ length old.blocks
  pub uses : uses_at new ≡ uses_at old

-- a new op, which names none of the old graph, and the list of its block now
pub record Added (x : ℕ) (row : OpRow) (ops_of_block : List ℕ) (old new : Graph) : Type 0 where
  pub fresh : op_at old x ≡ None
  pub ops : op_at new ≡ put_at (Some x) (Some row) (op_at old)
  pub blocks : block_at new ≡ put_at (Some row.block) ops_of_block (block_at old)
  pub count : length new.blocks ≡ length old.blocks
  pub whole : IsWhole new

-- an op of which the graph says something else now
pub record Rewritten (x : ℕ) (row : OpRow) (old new : Graph) : Type 0 where
  pub ops : op_at new ≡ put_at (Some x) (Some row) (op_at old)
  pub blocks : block_at new ≡ block_at old
  pub count : length new.blocks ≡ length old.blocks
  pub whole : IsWhole new

-- an op that is no longer in the graph
pub record Removed (x : ℕ) (row : OpRow) (old new : Graph) : Type 0 where
  pub ops : op_at new ≡ put_at (Some x) None (op_at old)
  pub blocks : block_at new ≡ put_at (Some row.block) (removed x (block_at old row.block)) (block_at old)
  pub count : length new.blocks ≡ length old.blocks
  pub whole : IsWhole new

-- the value that is read where `before` was, if it is replaced by `after`
abbrev pub renamed : ℕ → ℕ → ℕ → ℕ
renamed before after v = (if v == before then after else v)

abbrev pub renamed_row : ℕ → ℕ → Option OpRow → Option OpRow
renamed_row before after None = None
renamed_row before after (Some r) = Some (record r { inputs = map (renamed before after) r.inputs })

-- each slot that read `before` reads `after`
pub record Renamed (before after : ℕ) (old new : Graph) : Type 0 where
  pub ops : op_at new ≡ (λ x. renamed_row before after (op_at old x))
  pub blocks : block_at new ≡ block_at old
  pub count : length new.blocks ≡ length old.blocks
  pub whole : IsWhole new

-- the spares
abbrev pub SameSpares : Graph → Graph → Type 0
SameSpares old new = (new.spare_ops ≡ old.spare_ops) × (new.spare_slots ≡ old.spare_slots)

-- the list without its last one
abbrev pub front : List ℕ → List ℕ
front [] = []
front (x ∷ []) = []
front (x ∷ y ∷ ys) = x ∷ front (y ∷ ys)
