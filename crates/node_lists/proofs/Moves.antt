-- Moves of a node to the end or the front of a list, or to a place before another node.
use Rattle.std.proofs.Common.{◌≡◌, ℕ, ◌<◌, List, [], ◌∷◌, ◌++◌, length, inl, Option, Some, None, refl, sym, ap, ◌∙◌, subst, slice_get}
use Rattle.std.proofs.lemmas.List.{append-nil}
use Rattle.node_lists.specs.declared.node.Node.{Node}
use Rattle.node_lists.specs.declared.node.Head.{Head}
use Rattle.node_lists.specs.declared.list_arena.ListArena.{ListArena}
use Rattle.node_lists.specs.Chains.{IsIn, Apart, removed}
use Rattle.node_lists.specs.ListArena.{Ends, State, Rep, Threaded, list_of, detached, attached}
use Rattle.node_lists.specs.Nodes.{number, of_slot, prev_of, key_of, ends_of}
use Rattle.node_lists.specs.Edits.{links, IsSound, Edited}
use Rattle.node_lists.specs.Families.{Family, list_at, key_at, Moved, family_of, inserted}
use Rattle.node_lists.proofs.Chains.{Cut, cut, split, apart_sides}
use Rattle.node_lists.proofs.Detach.{still_in}
use Rattle.node_lists.proofs.Families.{list_at_is, key_at_is, held_length, out_rep, moved_rep, moved_family, inserted_within, some_len}

module _ {T : Type 0} where
  abbrev pub Closed : ListArena T → Type 0
  Closed t = IsSound t × Rep (λ _. ⊥) (links t) (list_of (links t))

  pub low_is : (t : ListArena T) (old : Family T) (node x : ℕ)
      → family_of t ≡ old
      → x ≡ node
      → node < length old.held
      → x < (links t).n
  low_is t old node x ev ex h =
      subst (λ i. i < (links t).n) (sym ex)
      (subst (λ n. node < n) (held_length t) (subst (λ (f : Family T). node < length f.held) (sym ev) h))

  pub some_is : (t : ListArena T) (x : ℕ) → Closed t → x < (links t).n → 0 < ((links t).ends ((links t).key x)).len
  some_is t x s low = some_len x (links t) (list_of (links t)) s.1 low

  module _ (t0 t1 : ListArena T) (old : Family T) (x node : ℕ) (k list : Option ℕ) (s : Closed t0)
      (ev : family_of t0 ≡ old) (ex : x ≡ node) (ek : k ≡ list) (h : node < length old.held)
      (e1 : Edited (detached x (links t0)) t0 t1) where
    low : x < (links t0).n
    low = low_is t0 old node x ev ex h

    rest_is : removed x (list_of (links t0) k) ≡ removed node (list_at old list)
    rest_is =
        ap (λ (f : Option ℕ → List ℕ). removed x (f k)) (sym (list_at_is t0))
        ∙ (λ i. removed (ex i) (list_at (ev i) (ek i)))

    pub room_is : (j : Option ℕ) → ((links t1).ends j).len < (links t1).n
    room_is j = Rattle.node_lists.proofs.Families.out_room t0 t1 t1 x s.1 low e1 j

    module _ (t2 : ListArena T) (head : Head) (eh : ends_of head ≡ (links t1).ends k) where
      pub last_moved : Edited (attached x k (number head.last) None (links t1)) t1 t2
          → Closed t2 × Moved node list (removed node (list_at old list) ++ node ∷ []) old (family_of t2)
      last_moved e2 =
          let xs = removed x (list_of (links t0) k) in
          let eb = ap (λ (e : Ends). e.last) eh ∙ ((out_rep t0 t1 t2 x s.1 low e1).threaded k).last in
          let is = sym (append-nil xs) in (
            (e2.sound, moved_rep t0 t1 t2 x s.1 low e1 k (number head.last) None xs [] e2 is eb refl),
            told (xs ++ x ∷ []) (removed node (list_at old list) ++ node ∷ []) (λ i. rest_is i ++ ex i ∷ [])
                (moved_family t0 t1 t2 x s.1 low e1 k (number head.last) None xs [] e2 is eb refl),
          )
        where
          told : (ps qs : List ℕ)
              → ps ≡ qs
              → Moved x k ps (family_of t0) (family_of t2)
              → Moved node list qs old (family_of t2)
          told ps qs ep m =
              subst (λ (f : Family T). Moved node list qs f (family_of t2)) ev
              (subst (λ p. Moved node list p (family_of t0) (family_of t2)) ep
              (subst (λ j. Moved node j ps (family_of t0) (family_of t2)) ek
              (subst (λ y. Moved y k ps (family_of t0) (family_of t2)) ex m)))

      pub first_moved : Edited (attached x k None (number head.first) (links t1)) t1 t2
          → Closed t2 × Moved node list (node ∷ removed node (list_at old list)) old (family_of t2)
      first_moved e2 =
          let ys = removed x (list_of (links t0) k) in
          let ea = ap (λ (e : Ends). e.first) eh ∙ ((out_rep t0 t1 t2 x s.1 low e1).threaded k).first in (
            (e2.sound, moved_rep t0 t1 t2 x s.1 low e1 k None (number head.first) [] ys e2 refl refl ea),
            told (x ∷ ys) (node ∷ removed node (list_at old list)) (λ i. ex i ∷ rest_is i)
                (moved_family t0 t1 t2 x s.1 low e1 k None (number head.first) [] ys e2 refl refl ea),
          )
        where
          told : (ps qs : List ℕ)
              → ps ≡ qs
              → Moved x k ps (family_of t0) (family_of t2)
              → Moved node list qs old (family_of t2)
          told ps qs ep m =
              subst (λ (f : Family T). Moved node list qs f (family_of t2)) ev
              (subst (λ p. Moved node list p (family_of t0) (family_of t2)) ep
              (subst (λ j. Moved node j ps (family_of t0) (family_of t2)) ek
              (subst (λ y. Moved y k ps (family_of t0) (family_of t2)) ex m)))

  module _ (t0 t1 t2 : ListArena T) (old : Family T) (x node y at : ℕ) (s : Closed t0) (ev : family_of t0 ≡ old)
      (ex : x ≡ node) (ey : y ≡ at) (h : node < length old.held) (ha : at < length old.held) (far : at ≡ node → ⊥)
      (e1 : Edited (detached x (links t0)) t0 t1) (v : Node T) (is : slice_get t1.nodes.values y ≡ Some v)
      (e2 : Edited (attached x (number v.list) (number v.prev) (Some y) (links t1)) t1 t2) where
    low_x : x < (links t0).n
    low_x = low_is t0 old node x ev ex h

    low_y : y < (links t0).n
    low_y = low_is t0 old at y ev ey ha

    out : Rep (λ i. i ≡ x) (links t1) (λ j. removed x (list_of (links t0) j))
    out = out_rep t0 t1 t2 x s.1 low_x e1

    key_is : number v.list ≡ (links t0).key y
    key_is = sym (ap (of_slot key_of) is) ∙ ap (λ (z : State). z.key y) e1.state

    there : IsIn y (removed x (list_of (links t0) (number v.list)))
    there =
        subst (λ j. IsIn y (removed x (list_of (links t0) j))) (sym key_is)
        (still_in x y (list_of (links t0) ((links t0).key y)) (λ e. far (sym ey ∙ e ∙ ex))
        (s.1.everyone y low_y (λ z. z)))

    before_moved_at : Cut y (removed x (list_of (links t0) (number v.list)))
        → Closed t2
        × Moved x (number v.list) (inserted x y (removed x (list_of (links t0) (number v.list)))) (family_of t0)
        (family_of t2)
    before_moved_at c =
        let k = number v.list in
        let t = subst (Threaded (links t1) k) c.is (out.threaded k) in let d = subst Apart c.is (out.apart k) in
        let eb = sym (ap (of_slot prev_of) is) ∙ (split (links t1).prev (links t1).next None c.xs (y ∷ c.ys) None t.chain).1.0 in
        let put =
        ap (inserted x y) c.is
        ∙ inserted_within x y c.xs c.ys (λ m. apart_sides c.xs (y ∷ c.ys) y d m (inl refl)) in (
          (e2.sound, moved_rep t0 t1 t2 x s.1 low_x e1 k (number v.prev) (Some y) c.xs (y ∷ c.ys) e2 c.is eb refl),
          subst (λ ps. Moved x k ps (family_of t0) (family_of t2)) (sym put)
              (moved_family t0 t1 t2 x s.1 low_x e1 k (number v.prev) (Some y) c.xs (y ∷ c.ys) e2 c.is eb refl),
        )

    pub before_moved :
        Closed t2
        × Moved node (key_at old at) (inserted node at (removed node (list_at old (key_at old at)))) old (family_of t2)
    before_moved =
        let m = before_moved_at (cut y (removed x (list_of (links t0) (number v.list))) there) in
        let ek : number v.list ≡ key_at (family_of t0) y = key_is ∙ ap (λ (f : ℕ → Option ℕ). f y) (sym (key_at_is t0)) in
        let ps = ap (λ (f : Option ℕ → List ℕ). inserted x y (removed x (f (number v.list)))) (sym (list_at_is t0)) in
        let one = subst (λ p. Moved x (number v.list) p (family_of t0) (family_of t2)) ps m.1 in
        let two = subst (λ j. Moved x j (inserted x y (removed x (list_at (family_of t0) j))) (family_of t0) (family_of t2)) ek one in
        let three = subst (λ z. Moved z (key_at (family_of t0) y) (inserted z y (removed z (list_at (family_of t0) (key_at (family_of t0) y)))) (family_of t0) (family_of t2)) ex two in
        let four = subst (λ z. Moved node (key_at (family_of t0) z) (inserted node z (removed node (list_at (family_of t0) (key_at (family_of t0) z)))) (family_of t0) (family_of t2)) ey three in (
          m.0,
          subst
              (λ (f : Family T).
              Moved node (key_at f at) (inserted node at (removed node (list_at f (key_at f at)))) f (family_of t2)) ev
              four,
        )
