-- Steps along a list.
use Rattle.std.proofs.Common.{◌≡◌, ℕ, zero, suc, ◌+◌, List, [], ◌∷◌, Option, Some, None, refl, sym, ap, ◌∙◌, slice_get, arith}
use Rattle.heap_nodes.specs.declared.link.Link.{Link}
use Rattle.node_lists.specs.declared.list_arena.ListArena.{ListArena}
use Rattle.node_lists.specs.declared.node.Node.{Node}
use Rattle.node_lists.specs.Chains.{head_or, Chain}
use Rattle.node_lists.specs.ListArena.{list_of}
use Rattle.node_lists.specs.Nodes.{number, Leads, of_slot, next_of}
use Rattle.node_lists.specs.Edits.{links}
use Rattle.node_lists.proofs.Moves.{Closed}
use Rattle.heap_nodes.proofs.Places.{some_same}

pub first_get : (ps : List ℕ) → head_or ps None ≡ slice_get ps 0
first_get [] = refl
first_get (p ∷ ps) = refl

next_get : (prev next : ℕ → Option ℕ) (b : Option ℕ) (ps : List ℕ)
    → Chain prev next b ps None
    → (k x : ℕ)
    → slice_get ps k ≡ Some x
    → next x ≡ slice_get ps (suc k)
next_get prev next b [] c k x e = absurd (cc)
next_get prev next b (p ∷ ps) c zero x e = ap next (sym (some_same e)) ∙ c.1 ∙ first_get ps
next_get prev next b (p ∷ ps) c (suc k) x e = next_get prev next (Some p) ps c.2 k x e

past_get : {X : Type 0} (ps : List X) (k : ℕ) → slice_get ps k ≡ None → slice_get ps (suc k) ≡ None
past_get [] k e = refl
past_get (p ∷ ps) zero e = absurd (cc)
past_get (p ∷ ps) (suc k) e = past_get ps k e

module _ {T : Type 0} (t : ListArena T) (s : Closed t) (k : Option ℕ) where
  -- the link after `place` nodes
  abbrev pub IsNth : Option Link → ℕ → Type 0
  IsNth at place = (number at ≡ slice_get (list_of (links t) k) place) × Leads at t.nodes.places

  pub nth_next : (at : Option Link) (l : Link) (v : Node T) (place : ℕ)
      → at ≡ Some l
      → slice_get t.nodes.values l.number ≡ Some v
      → IsNth at place
      → IsNth v.next (place + 1)
  nth_next at l v place e is n =
      let h = next_get (links t).prev (links t).next None (list_of (links t) k) (s.1.threaded k).chain place l.number (sym (ap number (sym e) ∙ n.0)) in
      let more : suc place ≡ place + 1 = omega arith in
      (sym (ap (of_slot next_of) is) ∙ h ∙ ap (slice_get (list_of (links t) k)) more, (s.0.node l.number v is).1)

  pub nth_past : (at : Option Link) (place : ℕ) → at ≡ None → IsNth at place → IsNth at (place + 1)
  nth_past at place e n =
      let h = past_get (list_of (links t) k) place (sym n.0 ∙ ap number e) in
      let more : suc place ≡ place + 1 = omega arith in
      (ap number e ∙ sym h ∙ ap (slice_get (list_of (links t) k)) more, n.1)

  pub nth_first : (at : Option Link) → number at ≡ ((links t).ends k).first → Leads at t.nodes.places → IsNth at 0
  nth_first at e l = (e ∙ (s.1.threaded k).first ∙ first_get (list_of (links t) k), l)
