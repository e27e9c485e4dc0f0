-- The writes of one edit, taken together.
use Rattle.std.proofs.Common.{◌≡◌, ℕ, ◌+◌, ◌-◌, Option, Some, sym, ap, ◌∙◌}
use Rattle.node_lists.specs.declared.list_arena.ListArena.{ListArena}
use Rattle.node_lists.specs.declared.node.Head.{Head}
use Rattle.heap_nodes.specs.declared.link.Link.{Link}
use Rattle.node_lists.specs.Chains.{put_at, put_key}
use Rattle.node_lists.specs.ListArena.{Ends, State, if_none, detached, attached}
use Rattle.node_lists.specs.Nodes.{number, ends_of}
use Rattle.node_lists.specs.Edits.{links, Edited}

module _ {T : Type 0} where
  pub edited_trans : (s z : State) (t u v : ListArena T) → Edited s t u → Edited z u v → Edited z t v
  edited_trans s z t u v e f = record {
    state = f.state;
    places = f.places ∙ e.places;
    heads = f.heads ∙ e.heads;
    count = f.count ∙ e.count;
    held = f.held ∙ e.held;
    sound = f.sound;
  }

  pub edited_as : (s z : State) (t u : ListArena T) → s ≡ z → Edited s t u → Edited z t u
  edited_as s z t u e f = record {
    state = f.state ∙ e;
    places = f.places;
    heads = f.heads;
    count = f.count;
    held = f.held;
    sound = f.sound;
  }

-- the ends that are written
pub ends_made :
    (test other : Option ℕ) (h : Ends) (old head : Head) (first last : Option Link) (n : ℕ) (test' other' : Option ℕ)
    → ends_of head ≡ record { first = number first; last = number last; len = n }
    → ends_of old ≡ h
    → number first ≡ if_none test other (number old.first)
    → number last ≡ if_none test' other' (number old.last)
    → ends_of head ≡ record { first = if_none test other h.first; last = if_none test' other' h.last; len = n }
ends_made test other h old head first last n test' other' e f p q =
    e
    ∙ (λ i.
    record {
      first = (p ∙ ap (λ (x : Ends). if_none test other x.first) f) i;
      last = (q ∙ ap (λ (x : Ends). if_none test' other' x.last) f) i;
      len = n;
    })

pub detached_by : (s : State) (x : ℕ) (p n k : Option ℕ) (E : Ends) → s.prev x ≡ p → s.next x ≡ n → s.key x ≡ k
    → E ≡ record { first = if_none p n (s.ends k).first; last = if_none n p (s.ends k).last; len = (s.ends k).len - 1 }
    → record s { next = put_at p n s.next; prev = put_at n p s.prev; ends = put_key k E s.ends } ≡ detached x s
detached_by s x p n k E ep en ek eE =
    ap (λ (e : Ends). record s { next = put_at p n s.next; prev = put_at n p s.prev; ends = put_key k e s.ends }) eE
    ∙ (λ i. let b = sym ep i in let a = sym en i in let j = sym ek i in let h = s.ends j in
    record s { next = put_at b a s.next; prev = put_at a b s.prev; ends = put_key j (record { first = if_none b a h.first; last = if_none a b h.last; len = h.len - 1 }) s.ends })

module _ {T : Type 0} (t0 t1 t2 t3 : ListArena T) (x : ℕ) (p n k : Option ℕ) (E : Ends)
    (e1 : Edited (record (links t0) { next = put_at p n (links t0).next }) t0 t1)
    (e2 : Edited (record (links t1) { prev = put_at n p (links t1).prev }) t1 t2) where
  -- the ends are as they were
  pub ends_two : (links t2).ends ≡ (links t0).ends
  ends_two = ap (λ (s : State). s.ends) e2.state ∙ ap (λ (s : State). s.ends) e1.state

  pub detached_steps : Edited (record (links t2) { ends = put_key k E (links t2).ends }) t2 t3
      → (links t0).prev x ≡ p
      → (links t0).next x ≡ n
      → (links t0).key x ≡ k
      → E
      ≡ record {
        first = if_none p n ((links t0).ends k).first;
        last = if_none n p ((links t0).ends k).last;
        len = ((links t0).ends k).len - 1;
      }
      → Edited (detached x (links t0)) t0 t3
  detached_steps e3 ep en ek eE =
      let two : links t2 ≡ record (links t0) { next = put_at p n (links t0).next; prev = put_at n p (links t0).prev } = e2.state ∙ ap (λ (s : State). record s { prev = put_at n p s.prev }) e1.state in
      edited_trans (record (links t1) { prev = put_at n p (links t1).prev }) (detached x (links t0)) t0 t2 t3
      (edited_trans (record (links t0) { next = put_at p n (links t0).next })
      (record (links t1) { prev = put_at n p (links t1).prev }) t0 t1 t2 e1 e2)
      (edited_as (record (links t2) { ends = put_key k E (links t2).ends }) (detached x (links t0)) t2 t3
      (ap (λ (s : State). record s { ends = put_key k E s.ends }) two ∙ detached_by (links t0) x p n k E ep en ek eE)
      e3)

module _ {T : Type 0} (t0 t1 t2 t3 t4 : ListArena T) (x : ℕ) (b a k : Option ℕ) (E : Ends)
    (e1 : Edited
    (record (links t0) {
      prev = put_at (Some x) b (links t0).prev;
      next = put_at (Some x) a (links t0).next;
      key = put_at (Some x) k (links t0).key;
    }) t0 t1)
    (e2 : Edited (record (links t1) { next = put_at b (Some x) (links t1).next }) t1 t2)
    (e3 : Edited (record (links t2) { prev = put_at a (Some x) (links t2).prev }) t2 t3) where
  pub ends_three : (links t3).ends ≡ (links t0).ends
  ends_three =
      ap (λ (s : State). s.ends) e3.state ∙ ap (λ (s : State). s.ends) e2.state ∙ ap (λ (s : State). s.ends) e1.state

  abbrev one : State
  one =
      record (links t0) {
        prev = put_at (Some x) b (links t0).prev;
        next = put_at (Some x) a (links t0).next;
        key = put_at (Some x) k (links t0).key;
      }

  pub attached_steps : Edited (record (links t3) { ends = put_key k E (links t3).ends }) t3 t4
      → E
      ≡ record {
        first = if_none b (Some x) ((links t0).ends k).first;
        last = if_none a (Some x) ((links t0).ends k).last;
        len = ((links t0).ends k).len + 1;
      }
      → Edited (attached x k b a (links t0)) t0 t4
  attached_steps e4 eE =
      let two : links t2 ≡ record one { next = put_at b (Some x) one.next } = e2.state ∙ ap (λ (s : State). record s { next = put_at b (Some x) s.next }) e1.state in
      let three : links t3 ≡ record one { next = put_at b (Some x) one.next; prev = put_at a (Some x) one.prev } = e3.state ∙ ap (λ (s : State). record s { prev = put_at a (Some x) s.prev }) two in
      edited_trans (record (links t2) { prev = put_at a (Some x) (links t2).prev }) (attached x k b a (links t0)) t0 t3
      t4
      (edited_trans (record (links t1) { next = put_at b (Some x) (links t1).next }) (record (links t2) { prev = put_at a (Some x) (links t2).prev }) t0 t2 t3
      (edited_trans one (record (links t1) { next = put_at b (Some x) (links t1).next }) t0 t1 t2 e1 e2) e3)
      (edited_as (record (links t3) { ends = put_key k E (links t3).ends }) (attached x k b a (links t0)) t3 t4
      (ap (λ (s : State). record s { ends = put_key k E s.ends }) three
      ∙ ap
      (λ (e : Ends).
      record one {
        next = put_at b (Some x) one.next;
        prev = put_at a (Some x) one.prev;
        ends = put_key k e one.ends;
      }) eE) e4)
