-- What a contract sees of lists that share their nodes.
use Rattle.std.specs.Prelude.{◌≡◌, ℕ, ◌+◌, ◌<◌, ◌==◌, if◌then◌else◌, List, [], ◌∷◌, ◌++◌, length, map, Option, Some, None, slice_get, refl}
use Rattle.std.specs.Coded.{Coded, code_by, coded×, coded_list, coded_option, coded_ℕ}
use Rattle.node_lists.specs.declared.list_arena.ListArena.{ListArena}
use Rattle.node_lists.specs.declared.node.Head.{Head}
use Rattle.node_lists.specs.Chains.{IsIn, Apart, removed, follow, put_at, put_key}
use Rattle.node_lists.specs.Nodes.{number, field, next_of, key_of, held_of, of_slot}

-- what each node holds, the key of the list that it is in, the lists by their
-- numbers, and the list of the spare nodes
pub record Family (T : Type 0) : Type 0 where
  pub held : List T
  pub keys : List (Option ℕ)
  pub lists : List (List ℕ)
  pub spares : List ℕ

abbrev pub family_code : {T : Type 0} → Coded T → Coded (Family T)
family_code {T} t =
    code_by ((List T × List (Option ℕ)) × (List (List ℕ) × List ℕ))
    (coded× (coded× (coded_list t) (coded_list (coded_option coded_ℕ)))
    (coded× (coded_list (coded_list coded_ℕ)) (coded_list coded_ℕ)))
    (λ f. ((f.held, f.keys), (f.lists, f.spares)))
    (λ p. record { held = p.0.0; keys = p.0.1; lists = p.1.0; spares = p.1.1 }) (λ _. refl)

abbrev pub list_slot : Option (List ℕ) → List ℕ
list_slot None = []
list_slot (Some ps) = ps

abbrev pub same_option : Option ℕ → Option ℕ
same_option k = k

module _ {T : Type 0} where
  -- the nodes of the list of a key, in order
  abbrev pub list_at : Family T → Option ℕ → List ℕ
  list_at f None = f.spares
  list_at f (Some k) = list_slot (slice_get f.lists k)

  -- the key of the list that a node is in
  abbrev pub key_at : Family T → ℕ → Option ℕ
  key_at f i = of_slot same_option (slice_get f.keys i)

  -- the key is that of a list
  abbrev pub IsKey : Option ℕ → Family T → Type 0
  IsKey None f = Unit {0}
  IsKey (Some k) f = k < length f.lists

  -- no nodes and no lists
  abbrev pub nothing : Family T
  nothing = record { held = []; keys = []; lists = []; spares = [] }

  -- each node is in the list of its key, once, and in no other
  pub record IsFull (f : Family T) : Type 0 where
    pub members : (k : Option ℕ) (i : ℕ) → IsIn i (list_at f k) → (i < length f.held) × (key_at f i ≡ k)
    pub everyone : (i : ℕ) → i < length f.held → IsIn i (list_at f (key_at f i))
    pub apart : (k : Option ℕ) → Apart (list_at f k)
    pub low : (i k : ℕ) → key_at f i ≡ Some k → i < length f.held

  -- the node x went from its list to that of k, which is ps now
  pub record Moved (x : ℕ) (k : Option ℕ) (ps : List ℕ) (old new : Family T) : Type 0 where
    pub held : new.held ≡ old.held
    pub keys : key_at new ≡ put_at (Some x) k (key_at old)
    pub count : length new.lists ≡ length old.lists
    pub lists : list_at new ≡ put_key k ps (λ j. removed x (list_at old j))
    pub full : IsFull new

  -- one spare node more, the first of the spare ones
  pub record MoreSpare (x : T) (old new : Family T) : Type 0 where
    pub held : new.held ≡ old.held ++ x ∷ []
    pub keys : key_at new ≡ key_at old
    pub count : length new.lists ≡ length old.lists
    pub lists : list_at new ≡ put_key None (length old.held ∷ old.spares) (list_at old)
    pub full : IsFull new

  -- one list more, which is empty
  pub record MoreLists (k : ℕ) (old new : Family T) : Type 0 where
    pub number : k ≡ length old.lists
    pub held : new.held ≡ old.held
    pub keys : key_at new ≡ key_at old
    pub count : length new.lists ≡ length old.lists + 1
    pub lists : list_at new ≡ list_at old
    pub full : IsFull new

  -- what the nodes and heads say
  abbrev pub family_of : ListArena T → Family T
  family_of t =
      let next = field next_of t.nodes.values in
      record {
        held = map held_of t.nodes.values;
        keys = map key_of t.nodes.values;
        lists = map (λ (h : Head). follow next h.len (number h.first)) t.heads.values;
        spares = follow next t.spare.len (number t.spare.first);
      }

-- the list with x just before `at`
abbrev pub inserted : ℕ → ℕ → List ℕ → List ℕ
inserted x at [] = []
inserted x at (y ∷ ys) = (if y == at then x ∷ y ∷ ys else y ∷ inserted x at ys)
