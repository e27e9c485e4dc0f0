-- What the links in nodes say.
use Rattle.std.specs.Prelude.{◌≡◌, ℕ, List, length, Option, Some, None, slice_get}
use denote.RawPtr.{Ptr}
use Rattle.heap_nodes.specs.Rows.{Rows}
use Rattle.heap_nodes.specs.declared.link.Link.{Link}
use Rattle.node_lists.specs.declared.node.Node.{Node}
use Rattle.node_lists.specs.declared.node.Head.{Head}
use Rattle.node_lists.specs.ListArena.{Ends, State}

-- the number of the node that a link leads to
abbrev pub number : Option Link → Option ℕ
number None = None
number (Some l) = Some l.number

-- a link leads to one of the nodes at the places
abbrev pub Leads : Option Link → List Ptr → Type 0
Leads None ps = Unit {0}
Leads (Some l) ps = slice_get ps l.number ≡ Some l.place.ptr

abbrev pub of_slot : {X : Type 0} → (X → Option ℕ) → Option X → Option ℕ
of_slot f None = None
of_slot f (Some x) = f x

-- a field of each node, by the node's number
abbrev pub field : {X : Type 0} → (X → Option ℕ) → List X → ℕ → Option ℕ
field f xs i = of_slot f (slice_get xs i)

abbrev pub ends_of : Head → Ends
ends_of h = record { first = number h.first; last = number h.last; len = h.len }

abbrev pub no_ends : Ends
no_ends = record { first = None; last = None; len = 0 }

abbrev pub ends_slot : Option Head → Ends
ends_slot None = no_ends
ends_slot (Some h) = ends_of h

-- the ends of the list of a key
abbrev pub ends_at : List Head → Head → Option ℕ → Ends
ends_at hs spare None = ends_of spare
ends_at hs spare (Some k) = ends_slot (slice_get hs k)

module _ {T : Type 0} where
  abbrev pub prev_of : Node T → Option ℕ
  prev_of v = number v.prev

  abbrev pub next_of : Node T → Option ℕ
  next_of v = number v.next

  abbrev pub key_of : Node T → Option ℕ
  key_of v = number v.list

  abbrev pub held_of : Node T → T
  held_of v = v.held

  -- what the links of the nodes and heads say
  abbrev pub state_of : List (Node T) → List Head → Head → State
  state_of vs hs spare = record {
    n = length vs;
    prev = field prev_of vs;
    next = field next_of vs;
    key = field key_of vs;
    ends = ends_at hs spare;
  }

  -- each link leads to a node or a head
  pub record Sound (ns : Rows (Node T)) (hs : Rows Head) (free : Head) : Type 0 where
    pub node : (i : ℕ) (v : Node T)
        → slice_get ns.values i ≡ Some v
        → Leads v.prev ns.places × Leads v.next ns.places × Leads v.list hs.places
    pub head : (i : ℕ) (h : Head) → slice_get hs.values i ≡ Some h → Leads h.first ns.places × Leads h.last ns.places
    pub spare : Leads free.first ns.places × Leads free.last ns.places
