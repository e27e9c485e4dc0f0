-- The offsets that are found are those that escape.
use Rattle.std.proofs.Common.{◌≡◌, ℕ, List, [], ◌∷◌, Option, Some, None, refl, sym, ap, ◌∙◌, subst, inl, inr, ⊎_elim}
use Rattle.std.specs.Prelude.{◌↔◌, ℤ}
use Rattle.pcode_model.specs.declared.listing.Place.{Place}
use Rattle.pcode_model.specs.declared.listing.Varnode.{Varnode}
use Rattle.pcode_model.specs.declared.listing.Listing.{Listing}
use Rattle.pcode_model.specs.declared.flow.Block.{Block}
use Rattle.pcode_model.specs.Places.{Standing, Nothing, Passes, Does, standing}
use Rattle.pcode_model.specs.Flow.{IsFlow, IsIn}
use Rattle.pcode_model.proofs.Members.{behind, in_either, in_front}
use Rattle.frame_facts.specs.Accesses.{signed_offset}
use Rattle.frame_facts.specs.Escapes.{told}
use Rattle.frame_facts.specs.Listed.{IsEscape}
use Rattle.frame_known.specs.declared.slots.Slots.{Slots}
use Rattle.frame_known.specs.Rows.{Row, offset_of}
use Rattle.frame_known.specs.Known.{AreRows}
use Rattle.frames.specs.Walk.{escapes_found, signed_in, signed_of, told_at, told_in}
use Rattle.frames.proofs.Places.{fact_of, known_of, place_of, reached_of}
use Rattle.frames.proofs.Walk.{IsPlaceOf, found_back, found_to}

module _ (l : Listing) (s : Slots) (row : Row) (o : ℤ) where
  -- a range with this offset
  record HasOffset (vs : List Varnode) : Type 0 where
    range : Varnode
    offset : ℕ
    among : IsIn range vs
    known : offset_of s row range ≡ Some offset
    is : o ≡ signed_offset l offset

  in_one : (r : Option ℕ) → IsIn o (signed_in l r) → (c : ℕ) × ((r ≡ Some c) × (o ≡ signed_offset l c))
  in_one None h = absurd h
  in_one (Some c) (inl same) = (c, (refl, same))
  in_one (Some c) (inr h) = absurd h

  signed_to : (vs : List Varnode) → IsIn o (signed_of l s row vs) → HasOffset vs
  signed_to [] h = absurd h
  signed_to (v ∷ vs) h = ⊎_elim
      (λ (here : IsIn o (signed_in l (offset_of s row v))).
      let c = in_one (offset_of s row v) here in
      record { range = v; offset = c.0; among = inl refl; known = c.1.0; is = c.1.1 })
      (λ (later : IsIn o (signed_of l s row vs)).
      let r = signed_to vs later in
      record { range = r.range; offset = r.offset; among = inr r.among; known = r.known; is = r.is })
      (in_either (signed_in l (offset_of s row v)) (signed_of l s row vs) o h)

  signed_back : (vs : List Varnode) (v : Varnode) (c : ℕ)
      → IsIn v vs
      → offset_of s row v ≡ Some c
      → o ≡ signed_offset l c
      → IsIn o (signed_of l s row vs)
  signed_back [] v c h known is = absurd h
  signed_back (w ∷ vs) v c (inl same) known is =
      let R : Option ℕ → Type 0 = λ r. IsIn o (signed_in l r) in
      in_front (signed_in l (offset_of s row w)) (signed_of l s row vs) o
      (subst R (sym known ∙ ap (offset_of s row) same) (inl is))
  signed_back (w ∷ vs) v c (inr later) known is =
      behind (signed_in l (offset_of s row w)) (signed_of l s row vs) o (signed_back vs v c later known is)

module _
    (l : Listing)
    (blocks : List Block)
    (s : Slots)
    (rows : List (Option Row))
    (are : AreRows l blocks s rows)
    (flow : IsFlow l [] blocks)
    (o : ℤ)
  where
    told_to : (p : Place) (r : Row) (here : Standing)
        → standing l p ≡ here
        → IsPlaceOf l s rows blocks p r
        → IsIn o (told_in l s r here)
        → IsEscape l [] o
    told_to p r Nothing stands at h = absurd h
    told_to p r (Passes i) stands at h = absurd h
    told_to p r (Does i op) stands at h =
        let t = signed_to l s r o (told l op.code op.inputs) h in (
          t.offset,
          (
            record {
              at = p;
              reached = reached_of l blocks s rows are flow p r at;
              instruction = i;
              op = op;
              does = stands;
              range = t.range;
              is_told = t.among;
              fact = fact_of l blocks s rows are flow p r t.range t.offset at t.known;
            },
            t.is,
          ),
        )

    escape_to : IsIn o (escapes_found l s rows blocks) → IsEscape l [] o
    escape_to h =
        let f = found_to (told_at l s) l s o rows blocks h in
        told_to f.place f.row (standing l f.place) refl f.is_place f.is_there

    escape_back : IsEscape l [] o → IsIn o (escapes_found l s rows blocks)
    escape_back escape =
        let e = escape.1.0 in
        let r = place_of l blocks s rows are flow e.at e.reached in
        let at = r.1 in
        let known = known_of l blocks s rows are flow e.at r.0 e.range escape.0 at e.fact in
        let S : Standing → Type 0 = λ t. IsIn o (told_in l s r.0 t) in
        let there = signed_back l s r.0 o (told l (e.op).code (e.op).inputs) e.range escape.0 e.is_told known escape.1.1
        in
        found_back (told_at l s) l s o rows blocks at.number at.block at.row e.at r.0 at.here at.known at.before
        (subst S (sym e.does) there)

    pub escapes_are : IsIn o (escapes_found l s rows blocks) ↔ IsEscape l [] o
    escapes_are = (escape_to, escape_back)
