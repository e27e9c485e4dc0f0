-- What a write to one node or head does to the links.
use Rattle.std.proofs.Common.{◌≡◌, length, map, set, inl, inr, Option, Some, None, refl, sym, ap, ◌∙◌, subst, slice_get}
use Rattle.std.proofs.lemmas.List.{length-set}
use Rattle.heap_nodes.specs.Rows.{Rows}
use Rattle.heap_nodes.specs.declared.link.Link.{Link}
use Rattle.node_lists.specs.declared.node.Node.{Node}
use Rattle.node_lists.specs.declared.node.Head.{Head}
use Rattle.node_lists.specs.declared.list_arena.ListArena.{ListArena}
use Rattle.node_lists.specs.Chains.{put_at, put_key}
use Rattle.node_lists.specs.ListArena.{State}
use Rattle.node_lists.specs.Nodes.{number, Leads, field, prev_of, next_of, key_of, held_of, state_of, ends_of, ends_at, Sound}
use Rattle.node_lists.specs.Edits.{links, IsSound, Edited}
use Rattle.node_lists.proofs.Fields.{get_cases, field_set, field_same, map_same, ends_set, ends_spare}

module _ {T : Type 0} (t : ListArena T) (at : Link) (v w : Node T) (ns' : Rows (Node T))
    (is : slice_get t.nodes.values at.number ≡ Some v)
    (ep : ns'.places ≡ t.nodes.places) (ev : ns'.values ≡ set t.nodes.values at.number w) (s : IsSound t) where
  pub node_sound : Leads w.prev t.nodes.places
      → Leads w.next t.nodes.places
      → Leads w.list t.heads.places
      → Sound ns' t.heads t.spare
  node_sound lp ln lk = record {
    node =
        λ i u e.
        elim (get_cases t.nodes.values at.number i v w u is (sym (ap (λ xs. slice_get xs i) ev) ∙ e)) [
          | inl f ↦
              let g = sym f in (
                moved u.prev (subst (λ (x : Node T). Leads x.prev t.nodes.places) g lp),
                moved u.next (subst (λ (x : Node T). Leads x.next t.nodes.places) g ln),
                subst (λ (x : Node T). Leads x.list t.heads.places) g lk,
              )
          | inr f ↦ let h = s.node i u f in (moved u.prev h.0, moved u.next h.1, h.2)
        ];
    head = λ i h e. let k = s.head i h e in (moved h.first k.0, moved h.last k.1);
    spare = (moved t.spare.first s.spare.0, moved t.spare.last s.spare.1);
  }
    where
      moved : (o : Option Link) → Leads o t.nodes.places → Leads o ns'.places
      moved o l = subst (Leads o) (sym ep) l

  pub node_written : w.held ≡ v.held
      → Leads w.prev t.nodes.places
      → Leads w.next t.nodes.places
      → Leads w.list t.heads.places
      → (z : State)
      → state_of (set t.nodes.values at.number w) t.heads.values t.spare ≡ z
      → Edited z t (record t { nodes = ns' })
  node_written eh lp ln lk z ez = record {
    state = ap (λ vs. state_of vs t.heads.values t.spare) ev ∙ ez;
    places = ep;
    heads = refl;
    count = refl;
    held = ap (map held_of) ev ∙ map_same held_of t.nodes.values at.number v w is eh;
    sound = node_sound lp ln lk;
  }

module _ {T : Type 0} (t : ListArena T) (o x : Option Link) (at : Link) (v : Node T) (ns' : Rows (Node T))
    (eo : o ≡ Some at) (is : slice_get t.nodes.values at.number ≡ Some v)
    (ep : ns'.places ≡ t.nodes.places) (s : IsSound t) (l : Leads x t.nodes.places) where
  pub next_written : ns'.values ≡ set t.nodes.values at.number (record v { next = x })
      → Edited (record (links t) { next = put_at (number o) (number x) (field next_of t.nodes.values) }) t
      (record t { nodes = ns' })
  next_written ev =
      let h = s.node at.number v is in
      let w : Node T = record v { next = x } in let vs = t.nodes.values in let j = at.number in
      node_written t at v w ns' is ep ev s refl h.0 l h.2
      (record (links t) { next = put_at (number o) (number x) (field next_of vs) })
      (λ i.
      record {
        n = length-set vs j w i;
        prev = field_same prev_of vs j v w is refl i;
        next =
            (field_set next_of vs j v w is ∙ ap (λ p. put_at (number p) (number x) (field next_of vs)) (sym eo)) i;
        key = field_same key_of vs j v w is refl i;
        ends = ends_at t.heads.values t.spare;
      })

  pub prev_written : ns'.values ≡ set t.nodes.values at.number (record v { prev = x })
      → Edited (record (links t) { prev = put_at (number o) (number x) (field prev_of t.nodes.values) }) t
      (record t { nodes = ns' })
  prev_written ev =
      let h = s.node at.number v is in
      let w : Node T = record v { prev = x } in let vs = t.nodes.values in let j = at.number in
      node_written t at v w ns' is ep ev s refl l h.1 h.2
      (record (links t) { prev = put_at (number o) (number x) (field prev_of vs) })
      (λ i.
      record {
        n = length-set vs j w i;
        prev =
            (field_set prev_of vs j v w is ∙ ap (λ p. put_at (number p) (number x) (field prev_of vs)) (sym eo)) i;
        next = field_same next_of vs j v w is refl i;
        key = field_same key_of vs j v w is refl i;
        ends = ends_at t.heads.values t.spare;
      })

module _ {T : Type 0} (t : ListArena T) (at : Link) (b a k : Option Link) (v : Node T) (ns' : Rows (Node T))
    (is : slice_get t.nodes.values at.number ≡ Some v) where
  pub place_written : ns'.places ≡ t.nodes.places
      → ns'.values ≡ set t.nodes.values at.number (record v { prev = b; next = a; list = k })
      → IsSound t
      → Leads b t.nodes.places
      → Leads a t.nodes.places
      → Leads k t.heads.places
      → Edited
      (record (links t) {
        prev = put_at (Some at.number) (number b) (field prev_of t.nodes.values);
        next = put_at (Some at.number) (number a) (field next_of t.nodes.values);
        key = put_at (Some at.number) (number k) (field key_of t.nodes.values);
      }) t (record t { nodes = ns' })
  place_written ep ev s lb la lk =
      let w : Node T = record v { prev = b; next = a; list = k } in let vs = t.nodes.values in let j = at.number in
      node_written t at v w ns' is ep ev s refl lb la lk
      (record (links t) {
        prev = put_at (Some j) (number b) (field prev_of vs);
        next = put_at (Some j) (number a) (field next_of vs);
        key = put_at (Some j) (number k) (field key_of vs);
      })
      (λ i.
      record {
        n = length-set vs j w i;
        prev = field_set prev_of vs j v w is i;
        next = field_set next_of vs j v w is i;
        key = field_set key_of vs j v w is i;
        ends = ends_at t.heads.values t.spare;
      })

module _ {T : Type 0} (t : ListArena T) (k : Option Link) (h : Head) (s : IsSound t) (lf : Leads h.first t.nodes.places)
    (ll : Leads h.last t.nodes.places) where
  pub spare_written : k ≡ None
      → Edited (record (links t) { ends = put_key (number k) (ends_of h) (ends_at t.heads.values t.spare) }) t
      (record t { spare = h })
  spare_written ek = record {
    state =
        λ i.
        record {
          n = length t.nodes.values;
          prev = field prev_of t.nodes.values;
          next = field next_of t.nodes.values;
          key = field key_of t.nodes.values;
          ends =
              (ends_spare t.heads.values t.spare h ∙ ap (λ p. put_key (number p) (ends_of h) (ends_at t.heads.values t.spare)) (sym ek))
              i;
        };
    places = refl;
    heads = refl;
    count = refl;
    held = refl;
    sound = record { node = s.node; head = s.head; spare = (lf, ll) };
  }

  pub head_written : (at : Link) (g : Head) (hs' : Rows Head)
      → k ≡ Some at
      → slice_get t.heads.values at.number ≡ Some g
      → hs'.places ≡ t.heads.places
      → hs'.values ≡ set t.heads.values at.number h
      → Edited (record (links t) { ends = put_key (number k) (ends_of h) (ends_at t.heads.values t.spare) }) t
      (record t { heads = hs' })
  head_written at g hs' ek is ep ev = record {
    state = λ i. record {
      n = length t.nodes.values;
      prev = field prev_of t.nodes.values;
      next = field next_of t.nodes.values;
      key = field key_of t.nodes.values;
      ends =
          (ap (λ xs. ends_at xs t.spare) ev ∙ ends_set t.heads.values t.spare at.number g h is ∙ ap (λ p. put_key (number p) (ends_of h) (ends_at t.heads.values t.spare)) (sym ek))
          i;
    };
    places = refl;
    heads = ep;
    count = ap length ev ∙ length-set t.heads.values at.number h;
    held = refl;
    sound = record {
      node = λ i v e. let m = s.node i v e in (m.0, m.1, subst (Leads v.list) (sym ep) m.2);
      head =
          λ i u e.
          elim (get_cases t.heads.values at.number i g h u is (sym (ap (λ xs. slice_get xs i) ev) ∙ e)) [
            | inl f ↦ (
              subst (λ (x : Head). Leads x.first t.nodes.places) (sym f) lf,
              subst (λ (x : Head). Leads x.last t.nodes.places) (sym f) ll,
            )
            | inr f ↦ s.head i u f
          ];
      spare = s.spare;
    };
  }
