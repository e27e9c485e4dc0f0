-- Steps of a walk.
use Rattle.std.proofs.Common.{◌≡◌, ℕ, ◌-◌, ◌≤◌, List, [], ◌∷◌, length, drop, Option, Some, None, refl, sym, ap, ◌∙◌, slice_get, arith}
use Rattle.heap_nodes.specs.declared.link.Link.{Link}
use Rattle.node_lists.specs.declared.list_arena.ListArena.{ListArena}
use Rattle.node_lists.specs.declared.node.Node.{Node}
use Rattle.node_lists.specs.Chains.{Chain, head_or, follow}
use Rattle.node_lists.specs.ListArena.{list_of}
use Rattle.node_lists.specs.Nodes.{number, Leads, field, of_slot, next_of}
use Rattle.node_lists.specs.Edits.{links}
use Rattle.node_lists.specs.Walks.{nodes_left, IsWalk}
use Rattle.node_lists.proofs.Chains.{follow_is}
use Rattle.node_lists.proofs.Moves.{Closed}
use Rattle.heap_nodes.proofs.Places.{some_same}

module _ {T : Type 0} (t : ListArena T) where
  pub left_is : (at : Option Link) (left : ℕ) (w : IsWalk t at left) → nodes_left t at left ≡ w.rest
  left_is at left w =
      (λ j. follow (field next_of t.nodes.values) (w.count j) (w.first j))
      ∙ follow_is (links t).prev (links t).next w.before w.rest w.chain

  pub started : (s : Closed t) (k : Option ℕ) (at : Option Link) (left : ℕ)
      → number at ≡ ((links t).ends k).first
      → Leads at t.nodes.places
      → left ≡ ((links t).ends k).len
      → IsWalk t at left
  started s k at left e l n =
      let h = s.1.threaded k in
      record {
        sound = s.0;
        leads = l;
        rest = list_of (links t) k;
        before = None;
        chain = h.chain;
        first = e ∙ h.first;
        count = n ∙ h.len;
      }

  -- where a node is left
  pub record Onward (l : Link) (v : Node T) (left : ℕ) (rest : List ℕ) : Type 0 where
    pub some : 1 ≤ left
    pub walk : IsWalk t v.next (left - 1)
    pub head : slice_get rest 0 ≡ Some l.number
    pub tail : drop 1 rest ≡ walk.rest

  onward_by : (l : Link) (v : Node T) (left : ℕ) (rest : List ℕ) (before : Option ℕ)
      → Rattle.node_lists.specs.Edits.IsSound t
      → slice_get t.nodes.values l.number ≡ Some v
      → Chain (links t).prev (links t).next before rest None
      → Some l.number ≡ head_or rest None
      → left ≡ length rest
      → Onward l v left rest
  onward_by l v left [] before s is c f n = absurd (cc)
  onward_by l v left (p ∷ ps) before s is c f n =
      let e = some_same f in record {
        some = omega arith;
        walk = record {
          sound = s;
          leads = (s.node l.number v is).1;
          rest = ps;
          before = Some p;
          chain = c.2;
          first = sym (ap (of_slot next_of) is) ∙ ap (links t).next e ∙ c.1;
          count = omega arith;
        };
        head = ap Some (sym e);
        tail = refl;
      }

  pub onward : (at : Option Link) (left : ℕ) (w : IsWalk t at left) (l : Link) (v : Node T)
      → at ≡ Some l
      → slice_get t.nodes.values l.number ≡ Some v
      → Onward l v left w.rest
  onward at left w l v e is =
      onward_by l v left w.rest w.before w.sound is w.chain (sym (ap number e) ∙ w.first) w.count

  empty_by : (rest : List ℕ) → None ≡ head_or rest None → rest ≡ []
  empty_by [] e = refl
  empty_by (p ∷ ps) e = absurd (cc)

  pub at_end : (at : Option Link) (left : ℕ) (w : IsWalk t at left) → at ≡ None → w.rest ≡ []
  at_end at left w e = empty_by w.rest (sym (ap number e) ∙ w.first)
