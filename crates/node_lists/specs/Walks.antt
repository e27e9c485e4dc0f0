-- The part of a list that a walk has left.
use Rattle.std.specs.Prelude.{◌≡◌, ℕ, List, length, Option, None}
use Rattle.heap_nodes.specs.declared.link.Link.{Link}
use Rattle.node_lists.specs.declared.list_arena.ListArena.{ListArena}
use Rattle.node_lists.specs.Chains.{Chain, head_or, follow}
use Rattle.node_lists.specs.Nodes.{number, Leads, field, next_of}
use Rattle.node_lists.specs.Edits.{links, IsSound}

module _ {T : Type 0} where
  abbrev pub nodes_left : ListArena T → Option Link → ℕ → List ℕ
  nodes_left t at left = follow (field next_of t.nodes.values) left (number at)

  -- the rest of a list begins at the link, and has so many nodes
  pub record IsWalk (t : ListArena T) (at : Option Link) (left : ℕ) : Type 0 where
    pub sound : IsSound t
    pub leads : Leads at t.nodes.places
    pub rest : List ℕ
    pub before : Option ℕ
    pub chain : Chain (links t).prev (links t).next before rest None
    pub first : number at ≡ head_or rest None
    pub count : left ≡ length rest
