-- The graph by its three families of lists: the ops by their blocks, the slots
-- by their ops, and the slots by the values that they read.
use Rattle.std.specs.Prelude.{◌≡◌, ℕ, zero, suc, ◌<◌, ◌≤◌, if◌then◌else◌, List, [], ◌∷◌, length, map, Option, Some, None, IsSome, slice_get}
use Rattle.opgraph.specs.declared.code.Body.{Body}
use Rattle.opgraph.specs.declared.ids.Slot.{Slot}
use Rattle.opgraph.specs.declared.ids.OpId.{OpId}
use Rattle.opgraph.specs.declared.ids.ValueId.{ValueId}
use Rattle.node_lists.specs.Families.{Family, list_at, key_at, IsFull}
use Rattle.node_lists.specs.Chains.{same_key}
use Rattle.opgraph.specs.Graph.{OpRow, Graph}

-- the n values of f, from 0 on
abbrev pub table : {X : Type 0} → ℕ → (ℕ → X) → List X
table zero f = []
table (suc n) f = f 0 ∷ table n (λ i. f (suc i))

abbrev pub or_zero : Option ℕ → ℕ
or_zero None = 0
or_zero (Some n) = n

abbrev pub row_slot : Option ℕ → Option Body → List ℕ → Option OpRow
row_slot None body ins = None
row_slot (Some b) None ins = None
row_slot (Some b) (Some body) ins = Some (record { block = b; code = body.code; inputs = ins; width = body.width })

-- the values that the slots of an op read
abbrev pub inputs_of : Family ℕ → Family (Unit {0}) → ℕ → List ℕ
inputs_of i u x = map (λ s. or_zero (key_at u s)) (list_at i (Some x))

-- what the graph says of an op
abbrev pub row_of : Family Body → Family ℕ → Family (Unit {0}) → ℕ → Option OpRow
row_of o i u x = row_slot (key_at o x) (slice_get o.held x) (inputs_of i u x)

-- the op and the place of a slot
abbrev pub slot_of : Family ℕ → ℕ → Slot
slot_of i s = record { op = record { 0 = or_zero (key_at i s) }; slot = or_zero (slice_get i.held s) }

-- the value that a slot reads
abbrev pub value_read : Family (Unit {0}) → ℕ → ValueId
value_read u s = record { 0 = or_zero (key_at u s) }

-- the slots that read a value
abbrev pub uses_of : Family ℕ → Family (Unit {0}) → ℕ → List Slot
uses_of i u v = map (slot_of i) (list_at u (Some v))

abbrev pub graph_of : Family Body → Family ℕ → Family (Unit {0}) → Graph
graph_of o i u = record {
  ops = table (length o.held) (row_of o i u);
  blocks = o.lists;
  uses = table (length u.lists) (uses_of i u);
  spare_ops = length o.spares;
  spare_slots = length i.spares;
}

abbrev pub has_value : Option ℕ → Option Body → Type 0
has_value None body = ⊥
has_value (Some b) None = ⊥
has_value (Some b) (Some body) = IsSome body.width

-- the op of the value is in a block and has a width
abbrev pub HasValue : Family Body → ℕ → Type 0
HasValue o v = has_value (key_at o v) (slice_get o.held v)

-- the families are those of a graph
pub record Good (o : Family Body) (i : Family ℕ) (u : Family (Unit {0})) : Type 0 where
  pub full_ops : IsFull o
  pub full_inputs : IsFull i
  pub full_uses : IsFull u
  -- each op has a list of slots, and a list of uses; each slot is a use
  pub ops_inputs : length o.held ≤ length i.lists
  pub ops_uses : length o.held ≤ length u.lists
  pub slots_uses : length i.held ≤ length u.held
  -- a slot of an op reads a value, and a spare one reads none
  pub reads : (s : ℕ) → IsSome (key_at i s) → IsSome (key_at u s)
  pub spare : (s : ℕ) → IsSome (key_at u s) → IsSome (key_at i s)
  -- a slot has its place among the slots of its op
  pub places : (x k s : ℕ) → slice_get (list_at i (Some x)) k ≡ Some s → slice_get i.held s ≡ Some k
  -- slots belong to ops that are in blocks, and read values of such ops
  pub owners : (s x : ℕ) → key_at i s ≡ Some x → IsSome (key_at o x)
  pub values : (s v : ℕ) → key_at u s ≡ Some v → HasValue o v

-- the same nodes in the same lists, and maybe more lists
pub record Kept {T : Type 0} (old new : Family T) : Type 0 where
  pub held : new.held ≡ old.held
  pub keys : key_at new ≡ key_at old
  pub lists : list_at new ≡ list_at old
  pub count : length old.lists ≤ length new.lists
  pub full : IsFull old → IsFull new

-- the same lists but that of the spare nodes, and maybe more spare nodes
pub record KeptNodes (old new : Family (Unit {0})) : Type 0 where
  pub keys : key_at new ≡ key_at old
  pub lists : (k : ℕ) → list_at new (Some k) ≡ list_at old (Some k)
  pub count : length new.lists ≡ length old.lists
  pub nodes : length old.held ≤ length new.held
  pub full : IsFull old → IsFull new

-- the key of a node whose list is `after` where it was `before`
abbrev pub moved_key : ℕ → ℕ → Option ℕ → Option ℕ
moved_key before after k = (if same_key k (Some before) then Some after else k)

-- each node of the list `before` is in the list `after` now
pub record MovedAll (before after : ℕ) (old new : Family (Unit {0})) : Type 0 where
  pub held : new.held ≡ old.held
  pub keys : (s : ℕ) → key_at new s ≡ moved_key before after (key_at old s)
  pub count : length new.lists ≡ length old.lists
  pub none : list_at new (Some before) ≡ []
  pub full : IsFull new

-- the ops of these numbers
abbrev pub op_ids : List ℕ → List OpId
op_ids = map (λ (x : ℕ). record { 0 = x })

-- each number is below n
abbrev pub AreLow : List ℕ → ℕ → Type 0
AreLow [] n = Unit {0}
AreLow (x ∷ xs) n = (x < n) × AreLow xs n
