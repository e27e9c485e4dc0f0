-- Lists that run through nodes: what the links say, and edits of them. A key
-- is the number of a list, or None for the list of the spare nodes.
use Rattle.std.specs.Prelude.{◌≡◌, ℕ, ◌+◌, ◌-◌, ◌<◌, List, length, Option, Some, None}
use Rattle.node_lists.specs.Chains.{IsIn, Apart, Chain, head_or, last_or, follow, put_at, put_key}

-- where a list begins and ends, and how long it is
pub record Ends : Type 0 where
  pub first : Option ℕ
  pub last : Option ℕ
  pub len : ℕ

-- the links of n nodes, the key of the list that each is in, and the ends
pub record State : Type 0 where
  pub n : ℕ
  pub prev : ℕ → Option ℕ
  pub next : ℕ → Option ℕ
  pub key : ℕ → Option ℕ
  pub ends : Option ℕ → Ends

-- the list of a key: what the links lead to from its first node
abbrev pub list_of : State → Option ℕ → List ℕ
list_of s k = follow s.next (s.ends k).len (s.ends k).first

-- the links and the ends are those of the list
pub record Threaded (s : State) (k : Option ℕ) (ps : List ℕ) : Type 0 where
  pub chain : Chain s.prev s.next None ps None
  pub first : (s.ends k).first ≡ head_or ps None
  pub last : (s.ends k).last ≡ last_or None ps
  pub len : (s.ends k).len ≡ length ps

-- the lists have all nodes but those that are out, each once and under its key
pub record Rep (out : ℕ → Type 0) (s : State) (lists : Option ℕ → List ℕ) : Type 0 where
  pub threaded : (k : Option ℕ) → Threaded s k (lists k)
  pub members : (k : Option ℕ) (i : ℕ) → IsIn i (lists k) → (i < s.n) × (s.key i ≡ k) × (out i → ⊥)
  pub everyone : (i : ℕ) → i < s.n → (out i → ⊥) → IsIn i (lists (s.key i))
  pub apart : (k : Option ℕ) → Apart (lists k)

-- the other one where there is none
abbrev pub if_none : Option ℕ → Option ℕ → Option ℕ → Option ℕ
if_none None other x = other
if_none (Some i) other x = x

-- x is taken out of its list: its neighbours are linked to one another
abbrev pub detached : ℕ → State → State
detached x s =
    let b = s.prev x in let a = s.next x in let k = s.key x in let h = s.ends k in
    record s {
      next = put_at b a s.next;
      prev = put_at a b s.prev;
      ends = put_key k (record { first = if_none b a h.first; last = if_none a b h.last; len = h.len - 1 }) s.ends;
    }

-- x is put into the list of k, between b and a
abbrev pub attached : ℕ → Option ℕ → Option ℕ → Option ℕ → State → State
attached x k b a s =
    let h = s.ends k in
    record s {
      next = put_at b (Some x) (put_at (Some x) a s.next);
      prev = put_at a (Some x) (put_at (Some x) b s.prev);
      key = put_at (Some x) k s.key;
      ends =
          put_key k (record { first = if_none b (Some x) h.first; last = if_none a (Some x) h.last; len = h.len + 1 })
          s.ends;
    }
