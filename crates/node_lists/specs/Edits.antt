-- Edits of links, which leave where the nodes lie and what they hold.
use Rattle.std.specs.Prelude.{◌≡◌, length, map}
use Rattle.node_lists.specs.ListArena.{State}
use Rattle.node_lists.specs.Nodes.{state_of, held_of, Sound}
use Rattle.node_lists.specs.declared.list_arena.ListArena.{ListArena}

module _ {T : Type 0} where
  -- what the links say
  abbrev pub links : ListArena T → State
  links t = state_of t.nodes.values t.heads.values t.spare

  -- each link leads to a node or a head
  abbrev pub IsSound : ListArena T → Type 0
  IsSound t = Sound t.nodes t.heads t.spare

  -- the links say s now, and all else is as before
  pub record Edited (s : State) (old new : ListArena T) : Type 0 where
    pub state : links new ≡ s
    pub places : new.nodes.places ≡ old.nodes.places
    pub heads : new.heads.places ≡ old.heads.places
    pub count : length new.heads.values ≡ length old.heads.values
    pub held : map held_of new.nodes.values ≡ map held_of old.nodes.values
    pub sound : IsSound new
