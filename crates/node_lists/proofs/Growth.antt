-- One node or one list more.
use Rattle.std.proofs.Common.{◌≡◌, ℕ, zero, suc, ◌+◌, ◌<◌, List, [], ◌∷◌, ◌++◌, length, map, set, ◌⊎◌, inl, inr, Option, Some, None, refl, sym, ap, ◌∙◌, subst, slice_get, arith, length-append}
use Rattle.std.proofs.Math.Path.{fun_ext}
use Rattle.std.proofs.lemmas.Bool.{cases_eq}
use Rattle.std.proofs.lemmas.List.{length-map, map-append}
use denote.RawPtr.{Ptr}
use Rattle.heap_nodes.specs.Rows.{Rows, IsAdded}
use Rattle.heap_nodes.specs.declared.link.Link.{Link}
use Rattle.node_lists.specs.declared.node.Node.{Node}
use Rattle.node_lists.specs.declared.node.Head.{Head}
use Rattle.node_lists.specs.declared.list_arena.ListArena.{ListArena}
use Rattle.node_lists.specs.Chains.{follow, put_at, put_key}
use Rattle.node_lists.specs.ListArena.{State, Rep, list_of, attached}
use Rattle.node_lists.specs.Nodes.{number, Leads, field, of_slot, prev_of, next_of, key_of, held_of, ends_at, ends_slot}
use Rattle.node_lists.specs.Edits.{links, IsSound, Edited}
use Rattle.node_lists.specs.Families.{family_of, MoreSpare, MoreLists}
use Rattle.node_lists.proofs.Chains.{put_here, put_away}
use Rattle.heap_nodes.proofs.Places.{some_same}
use Rattle.node_lists.proofs.Fields.{field_same, map_same, map_set}
use Rattle.node_lists.proofs.Writes.{node_sound}
use Rattle.node_lists.proofs.Attach.{attached_rep}
use Rattle.node_lists.proofs.Families.{lists_are, own_rep, list_at_is, key_at_is, room, full}
use Rattle.node_lists.proofs.Moves.{Closed}

get_more : {X : Type 0} (xs : List X) (y : X) (i : ℕ) (x : X)
    → slice_get xs i ≡ Some x
    → slice_get (xs ++ y ∷ []) i ≡ Some x
get_more [] y i x e = absurd (cc)
get_more (z ∷ xs) y zero x e = e
get_more (z ∷ xs) y (suc i) x e = get_more xs y i x e

get_last : {X : Type 0} (xs : List X) (y : X) → slice_get (xs ++ y ∷ []) (length xs) ≡ Some y
get_last [] y = refl
get_last (z ∷ xs) y = get_last xs y

-- an element of the longer list is the new one or an old one
get_either : {X : Type 0} (xs : List X) (y : X) (i : ℕ) (x : X)
    → slice_get (xs ++ y ∷ []) i ≡ Some x
    → (x ≡ y) ⊎ (slice_get xs i ≡ Some x)
get_either [] y zero x e = inl (sym (some_same e))
get_either [] y (suc i) x e = absurd (cc)
get_either (z ∷ xs) y zero x e = inr e
get_either (z ∷ xs) y (suc i) x e = get_either xs y i x e

field_more : {X : Type 0} (f : X → Option ℕ) (xs : List X) (y : X) → f y ≡ None → field f (xs ++ y ∷ []) ≡ field f xs
field_more {X} f xs y e = fun_ext (at xs)
  where
    at : (zs : List X) (i : ℕ) → of_slot f (slice_get (zs ++ y ∷ []) i) ≡ of_slot f (slice_get zs i)
    at [] zero = e
    at [] (suc i) = refl
    at (z ∷ zs) zero = refl
    at (z ∷ zs) (suc i) = at zs i

field_past : {X : Type 0} (f : X → Option ℕ) (xs : List X) → field f xs (length xs) ≡ None
field_past f [] = refl
field_past f (x ∷ xs) = field_past f xs

leads_more : (o : Option Link) (ps : List Ptr) (p : Ptr) → Leads o ps → Leads o (ps ++ p ∷ [])
leads_more None ps p l = tt
leads_more (Some l) ps p e = get_more ps p l.number l.place.ptr e

length_more : {X : Type 0} (xs : List X) (y : X) → length (xs ++ y ∷ []) ≡ length xs + 1
length_more xs y = length-append xs (y ∷ [])

module _ {T : Type 0} (t : ListArena T) (s : Closed t) where
  module _ (l : Link) (hs : Rows Head) (h : Head) (ef : h.first ≡ None) (el : h.last ≡ None) (en : h.len ≡ 0)
      (more : IsAdded l h t.heads hs) where
    abbrev wider : ListArena T
    wider = record t { heads = hs }

    ends_more : ends_at (t.heads.values ++ h ∷ []) t.spare ≡ ends_at t.heads.values t.spare
    ends_more = fun_ext at
      where
        slot : (xs : List Head) (k : ℕ) → ends_slot (slice_get (xs ++ h ∷ []) k) ≡ ends_slot (slice_get xs k)
        slot [] zero = λ i. record { first = number (ef i); last = number (el i); len = en i }
        slot [] (suc k) = refl
        slot (x ∷ xs) zero = refl
        slot (x ∷ xs) (suc k) = slot xs k

        at : (k : Option ℕ) → ends_at (t.heads.values ++ h ∷ []) t.spare k ≡ ends_at t.heads.values t.spare k
        at None = refl
        at (Some k) = slot t.heads.values k

    wider_links : links wider ≡ links t
    wider_links =
        λ i.
        record {
          n = length t.nodes.values;
          prev = field prev_of t.nodes.values;
          next = field next_of t.nodes.values;
          key = field key_of t.nodes.values;
          ends = (ap (λ xs. ends_at xs t.spare) more.1 ∙ ends_more) i;
        }

    pub wider_closed : Closed wider
    wider_closed = (
      record {
        node =
            λ i v e.
            let m = s.0.node i v e in
            (m.0, m.1, subst (Leads v.list) (sym more.0) (leads_more v.list t.heads.places l.place.ptr m.2));
        head =
            λ i u e. old u (get_either t.heads.values h i u (sym (ap (λ xs. slice_get xs i) more.1) ∙ e)) (s.0.head i u);
        spare = s.0.spare;
      },
      subst (λ z. Rep (λ _. ⊥) z (list_of z)) (sym wider_links) s.1,
    )
      where
        old : (u : Head) {P : Type 0}
            → (u ≡ h) ⊎ P
            → (P → Leads u.first t.nodes.places × Leads u.last t.nodes.places)
            → Leads u.first t.nodes.places × Leads u.last t.nodes.places
        old u (inl e) f =
            subst (λ (x : Head). Leads x.first t.nodes.places × Leads x.last t.nodes.places) (sym e)
            (subst (λ o. Leads o t.nodes.places) (sym ef) tt, subst (λ o. Leads o t.nodes.places) (sym el) tt)
        old u (inr p) f = f p

    pub wider_family : MoreLists l.number (family_of t) (family_of wider)
    wider_family =
        let next = field next_of t.nodes.values in
        let old = length-map t.heads.values (λ (g : Head). follow next g.len (number g.first)) in record {
          number = more.2 ∙ sym old;
          held = refl;
          keys = refl;
          count =
              length-map hs.values (λ (g : Head). follow next g.len (number g.first))
              ∙ ap length more.1
              ∙ length_more t.heads.values h
              ∙ ap (λ n. n + 1) (sym old);
          lists = list_at_is wider ∙ ap list_of wider_links ∙ sym (list_at_is t);
          full = full wider wider_closed.1;
        }

  module _ (l : Link) (ns : Rows (Node T)) (v : Node T) (ep : v.prev ≡ None) (en : v.next ≡ None) (ek : v.list ≡ None)
      (more : IsAdded l v t.nodes ns) where
    abbrev longer : ListArena T
    longer = record t { nodes = ns }

    longer_links : links longer ≡ (let z = links t in record z { n = z.n + 1 })
    longer_links = let vs = t.nodes.values in λ i. record {
      n = (ap length more.1 ∙ length_more vs v) i;
      prev = (ap (field prev_of) more.1 ∙ field_more prev_of vs v (ap number ep)) i;
      next = (ap (field next_of) more.1 ∙ field_more next_of vs v (ap number en)) i;
      key = (ap (field key_of) more.1 ∙ field_more key_of vs v (ap number ek)) i;
      ends = ends_at t.heads.values t.spare;
    }

    pub longer_sound : IsSound longer
    longer_sound = record {
      node =
          λ i u e.
          by_kind u (get_either t.nodes.values v i u (sym (ap (λ xs. slice_get xs i) more.1) ∙ e)) (s.0.node i u);
      head = λ i h e. let m = s.0.head i h e in (grown h.first m.0, grown h.last m.1);
      spare = (grown t.spare.first s.0.spare.0, grown t.spare.last s.0.spare.1);
    }
      where
        grown : (o : Option Link) → Leads o t.nodes.places → Leads o ns.places
        grown o m = subst (Leads o) (sym more.0) (leads_more o t.nodes.places l.place.ptr m)

        by_kind : (u : Node T) {P : Type 0}
            → (u ≡ v) ⊎ P
            → (P → Leads u.prev t.nodes.places × Leads u.next t.nodes.places × Leads u.list t.heads.places)
            → Leads u.prev ns.places × Leads u.next ns.places × Leads u.list t.heads.places
        by_kind u (inl e) f =
            subst (λ (x : Node T). Leads x.prev ns.places × Leads x.next ns.places × Leads x.list t.heads.places)
            (sym e) (
              subst (λ o. Leads o ns.places) (sym ep) tt,
              subst (λ o. Leads o ns.places) (sym en) tt,
              subst (λ o. Leads o t.heads.places) (sym ek) tt,
            )
        by_kind u (inr p) f = let m = f p in (grown u.prev m.0, grown u.next m.1, m.2)

    longer_rep : Rep (λ i. i ≡ (links t).n) (let z = links t in record z { n = z.n + 1 }) (list_of (links t))
    longer_rep = record {
      threaded = λ k. let m = s.1.threaded k in record { chain = m.chain; first = m.first; last = m.last; len = m.len };
      members =
          λ k i m.
          let h = s.1.members k i m in let low = h.0 in (omega arith, h.1, (λ e. absurd (omega (arith, e, low))));
      everyone = λ i h n. let low : i < (links t).n = omega (arith, n) in s.1.everyone i low (λ z. z);
      apart = s.1.apart;
    }

    pub longer_out : Rep (λ i. i ≡ l.number) (links longer) (list_of (links t))
    longer_out =
        subst (λ x. Rep (λ i. i ≡ x) (links longer) (list_of (links t))) (sym more.2)
        (subst (λ z. Rep (λ i. i ≡ (links t).n) z (list_of (links t))) (sym longer_links) longer_rep)

    pub longer_low : l.number < (links longer).n
    longer_low = let e = ap (λ (z : State). z.n) longer_links in let f = more.2 in omega arith

    pub longer_leads : Leads (Some l) ns.places
    longer_leads = more.3

    pub longer_room : ((links longer).ends None).len < (links longer).n
    longer_room = room l.number (links longer) (list_of (links t)) longer_out longer_low None

    module _ (t2 : ListArena T)
        (e2 : Edited (attached l.number None None (number t.spare.first) (links longer)) longer t2) where
      filled : Rep (λ _. ⊥) (links t2) (put_key None (l.number ∷ list_of (links t) None) (list_of (links t)))
      filled =
          let ys = list_of (links t) None in let ea = (s.1.threaded None).first in
          subst (λ z. Rep (λ _. ⊥) z (put_key None (l.number ∷ ys) (list_of (links t))))
          ((λ i. attached l.number None None (sym ea i) (links longer)) ∙ sym e2.state)
          (attached_rep l.number None [] ys (links longer) (list_of (links t)) longer_out longer_low refl)

      pub filled_closed : Closed t2
      filled_closed = (
        e2.sound,
        own_rep (λ _. ⊥) (links t2) (put_key None (l.number ∷ list_of (links t) None) (list_of (links t))) filled,
      )

      keys_same : put_at (Some l.number) None (links longer).key ≡ (links t).key
      keys_same = ap (λ (z : State). put_at (Some l.number) None z.key) longer_links ∙ fun_ext at
        where
          at : (i : ℕ) → put_at (Some l.number) None (links t).key i ≡ (links t).key i
          at i =
              elim (cases_eq i l.number) [
                | inl e ↦
                    put_here None (Some l.number) (links t).key i (ap Some (sym e))
                    ∙ sym (ap (field key_of t.nodes.values) (e ∙ more.2) ∙ field_past key_of t.nodes.values)
                | inr n ↦ put_away None (Some l.number) (links t).key i (λ e. n (sym (some_same e)))
              ]

      pub filled_family : MoreSpare v.held (family_of t) (family_of t2)
      filled_family =
          let next = field next_of t.nodes.values in let next2 = field next_of t2.nodes.values in
          let ex : l.number ≡ length (family_of t).held = more.2 ∙ sym (length-map t.nodes.values held_of) in record {
            held = e2.held ∙ ap (map held_of) more.1 ∙ map-append held_of t.nodes.values (v ∷ []);
            keys = key_at_is t2 ∙ ap (λ (z : State). z.key) e2.state ∙ keys_same ∙ sym (key_at_is t);
            count =
                length-map t2.heads.values (λ (g : Head). follow next2 g.len (number g.first))
                ∙ e2.count
                ∙ sym (length-map t.heads.values (λ (g : Head). follow next g.len (number g.first)));
            lists =
                list_at_is t2
                ∙ lists_are (λ _. ⊥) (links t2) (put_key None (l.number ∷ list_of (links t) None) (list_of (links t)))
                filled
                ∙ (λ i. put_key None (ex i ∷ (sym (list_at_is t) i) None) (sym (list_at_is t) i));
            full = full t2 filled_closed.1;
          }

  module _ (at : Link) (v : Node T) (x : T) (ns : Rows (Node T)) (is : slice_get t.nodes.values at.number ≡ Some v)
      (ep : ns.places ≡ t.nodes.places) (ev : ns.values ≡ set t.nodes.values at.number (record v { held = x })) where
    abbrev w : Node T
    w = record v { held = x }

    abbrev other : ListArena T
    other = record t { nodes = ns }

    next_same : field next_of ns.values ≡ field next_of t.nodes.values
    next_same = ap (field next_of) ev ∙ field_same next_of t.nodes.values at.number v w is refl

    other_links : links other ≡ links t
    other_links = let vs = t.nodes.values in λ i. record {
      n = (ap length ev ∙ Rattle.std.proofs.lemmas.List.length-set vs at.number w) i;
      prev = (ap (field prev_of) ev ∙ field_same prev_of vs at.number v w is refl) i;
      next = next_same i;
      key = (ap (field key_of) ev ∙ field_same key_of vs at.number v w is refl) i;
      ends = ends_at t.heads.values t.spare;
    }

    pub held_closed : Closed other
    held_closed =
        let m = s.0.node at.number v is in
        (node_sound t at v w ns is ep ev s.0 m.0 m.1 m.2, subst (λ z. Rep (λ _. ⊥) z (list_of z)) (sym other_links) s.1)

    pub held_family : family_of other ≡ (let f = family_of t in record f { held = set f.held at.number x })
    held_family = λ i. record {
      held = (ap (map held_of) ev ∙ map_set held_of t.nodes.values at.number w) i;
      keys = (ap (map key_of) ev ∙ map_same key_of t.nodes.values at.number v w is refl) i;
      lists = map (λ (h : Head). follow (next_same i) h.len (number h.first)) t.heads.values;
      spares = follow (next_same i) t.spare.len (number t.spare.first);
    }
