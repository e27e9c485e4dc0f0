-- What is known along a block, and where its places lead.
use Rattle.std.proofs.Common.{◌≡◌, ℕ, zero, suc, Bool, true, false, List, [], ◌∷◌, ◌++◌, Option, Some, None, refl, sym, ap, ◌∙◌, subst, inl, inr}
use Rattle.std.specs.Prelude.{slice_get, cond, ◌==◌}
use Rattle.std.proofs.lemmas.Bool.{and_from, and_parts, eq-eqb, eqb-true}
use Rattle.bits_core.specs.declared.ops.Unary.TheVariants as U
use Rattle.bits_core.specs.declared.ops.Binary.TheVariants as B
use Rattle.pcode_model.specs.declared.listing.Op.{Op}
use Rattle.pcode_model.specs.declared.listing.Place.{Place}
use Rattle.pcode_model.specs.declared.listing.Proto.{Proto}
use Rattle.pcode_model.specs.declared.listing.Varnode.{Varnode}
use Rattle.pcode_model.specs.declared.listing.Listing.{Listing}
use Rattle.pcode_model.specs.declared.flow.Block.{Block}
use Rattle.pcode_model.specs.declared.opcode.Opcode.{Opcode}
use Rattle.pcode_model.specs.declared.opcode.Opcode.TheVariants as O
use Rattle.pcode_model.specs.Places.{Standing, Nothing, Passes, Does, standing}
use Rattle.pcode_model.specs.Step.{callee_at, proto_of, varnode_at}
use Rattle.pcode_model.specs.Flow.{IsBefore, IsIn, Rising, places_of}
use Rattle.pcode_model.proofs.Members.{in_front, behind, same_place}
use Rattle.flow.proofs.Order.{not_before, rising_head, rising_rest}
use Rattle.frame_facts.specs.Facts.{IsDifference, IsSum, Known, Makes, Over, OverCall, OverOp, OverOther}
use Rattle.frame_known.specs.declared.slots.Slots.{Slots}
use Rattle.frame_known.specs.Slots.{AreSlots}
use Rattle.frame_known.specs.Rows.{IsRow, Row, over_row}
use Rattle.frame_known.proofs.Below.{over_fine}
use Rattle.frame_known.specs.Meeting.{along}
use Rattle.frame_known.specs.Known.{Before}
use Rattle.frame_known.specs.Passing.{is_place}
use Rattle.frame_known.specs.Settling.{KnowsNoLess}

-- ---- from more an op passes on no less

module _ (l : Listing) (h k : Known) (more : KnowsNoLess h k) where
  sum_more : (v n : Varnode) (c : ℕ) → IsSum l h v n c → IsSum l k v n c
  sum_more v n c x = (x.0, (x.1.0, (more v x.1.0 x.1.1.0, x.1.1.1)))

  difference_more : (v n : Varnode) (c : ℕ) → IsDifference l h v n c → IsDifference l k v n c
  difference_more v n c x = (x.0, (x.1.0, (more v x.1.0 x.1.1.0, x.1.1.1)))

  makes_more : (code : Opcode) (vs : List Varnode) (c : ℕ) → Makes l h code vs c → Makes l k code vs c
  makes_more (O.Unary U.Copy) vs c x = more (varnode_at vs 0) c x
  makes_more (O.Binary B.Add) vs c (inl x) = inl (sum_more (varnode_at vs 0) (varnode_at vs 1) c x)
  makes_more (O.Binary B.Add) vs c (inr x) = inr (sum_more (varnode_at vs 1) (varnode_at vs 0) c x)
  makes_more (O.Binary B.Subtract) vs c x = difference_more (varnode_at vs 0) (varnode_at vs 1) c x
  makes_more code vs c x = absurd x

  other_more : (op : Op) (v : Varnode) (c : ℕ) → OverOther l h op v c → OverOther l k op v c
  other_more op v c (inl x) = inl (x.0, more v c x.1)
  other_more op v c (inr x) = inr (x.0, makes_more op.code op.inputs c x.1)

  call_more : (p : Proto) (v : Varnode) (c : ℕ) → OverCall l h p v c → OverCall l k p v c
  call_more p v c (inl x) = inl (x.0, more v c x.1)
  call_more p v c (inr x) = inr (x.0, (x.1.0, (more v x.1.0 x.1.1.0, x.1.1.1)))

  op_more : (code : Opcode) (out : Option Varnode) (vs : List Varnode) (v : Varnode) (c : ℕ)
      → OverOp l h (record { code = code; out = out; inputs = vs }) v c
      → OverOp l k (record { code = code; out = out; inputs = vs }) v c
  op_more O.Call out vs v c x = call_more (proto_of l (callee_at l (varnode_at vs 0).offset)) v c x
  op_more O.CallInd out vs v c x = call_more (proto_of l None) v c x
  op_more code out vs v c x = other_more (record { code = code; out = out; inputs = vs }) v c x

  pub over_more : (here : Standing) (v : Varnode) (c : ℕ) → Over l h here v c → Over l k here v c
  over_more Nothing v c x = absurd x
  over_more (Passes i) v c x = more v c x
  over_more (Does i op) v c x = op_more op.code op.out op.inputs v c x

-- ---- a place by a test

pub place_is : (q p : Place) → is_place q p ≡ true → q ≡ p
place_is q p h =
    let x = and_parts (q.address == p.address) (q.index == p.index) h in
    same_place q p (eqb-true q.address p.address x.0) (eqb-true q.index p.index x.1)

pub is_place_from : (q p : Place) → p ≡ q → is_place q p ≡ true
is_place_from q p e =
    and_from (q.address == p.address) (q.index == p.index) (eq-eqb q.address p.address (ap (λ x. x.address) (sym e)))
    (eq-eqb q.index p.index (ap (λ x. x.index) (sym e)))

isnt_place : (q p : Place) → (q ≡ p → ⊥) → is_place q p ≡ false
isnt_place q p h = by (is_place q p) refl where
  by : (b : Bool) → is_place q p ≡ b → b ≡ false
  by true e = absurd (h (place_is q p e))
  by false e = refl

-- ---- one block

module _ (l : Listing) (s : Slots) where
  pub before_in : (ps : List Place) (row : Row) (p : Place) (r : Row) → Before l s row ps p r → IsIn p ps
  before_in [] row p r h = absurd h
  before_in (q ∷ ps) row p r (inl h) = inl h.0
  before_in (q ∷ ps) row p r (inr h) = inr (before_in ps (over_row l s row (standing l q)) p r h)

  pub in_before : (ps : List Place) (row : Row) (p : Place) → IsIn p ps → (r : Row) × Before l s row ps p r
  in_before [] row p h = absurd h
  in_before (q ∷ ps) row p (inl e) = (row, inl (e, refl))
  in_before (q ∷ ps) row p (inr h) =
      let x = in_before ps (over_row l s row (standing l q)) p h in (x.0, inr x.1)

  -- ---- the row before a place, by the place

  abbrev pub find_along : Row → List Place → Place → Option Row
  find_along row [] p = None
  find_along row (q ∷ ps) p = cond (is_place q p) (Some row) (find_along (over_row l s row (standing l q)) ps p)

  found_along : (ps : List Place) (row : Row) (p : Place) (r : Row)
      → Rising ps
      → Before l s row ps p r
      → find_along row ps p ≡ Some r
  found_along [] row p r up h = absurd h
  found_along (q ∷ ps) row p r up (inl h) =
      ap (λ b. cond b (Some row) (find_along (over_row l s row (standing l q)) ps p)) (is_place_from q p h.0)
      ∙ ap Some (sym h.1)
  found_along (q ∷ ps) row p r up (inr h) =
      let next = over_row l s row (standing l q) in
      let later = rising_head q ps up p (before_in ps next p r h) in
      let ne : q ≡ p → ⊥ =
      λ e. not_before p (let P : Place → Type 0 = λ x. IsBefore x p in subst P e later) in
      ap (λ b. cond b (Some row) (find_along next ps p)) (isnt_place q p ne)
      ∙ found_along ps next p r (rising_rest q ps up) h

  missed_along : (ps : List Place) (row : Row) (p : Place) → (IsIn p ps → ⊥) → find_along row ps p ≡ None
  missed_along [] row p h = refl
  missed_along (q ∷ ps) row p h =
      let next = over_row l s row (standing l q) in
      ap (λ b. cond b (Some row) (find_along next ps p)) (isnt_place q p (λ e. h (inl (sym e))))
      ∙ missed_along ps next p (λ is. h (inr is))

  abbrev pub or_row : Option Row → Option Row → Option Row
  or_row None other = other
  or_row (Some r) other = Some r

  abbrev pub find_from : Option Row → List Place → Place → Option Row
  find_from None ps p = None
  find_from (Some row) ps p = find_along row ps p

  abbrev pub find_in : List Block → List (Option Row) → Place → Option Row
  find_in [] rows p = None
  find_in (b ∷ blocks) [] p = None
  find_in (b ∷ blocks) (r ∷ rows) p = or_row (find_from r b.places p) (find_in blocks rows p)

  rising_front : (ps qs : List Place) → Rising (ps ++ qs) → Rising ps
  rising_front [] qs up = tt
  rising_front (p ∷ []) qs up = tt
  rising_front (p ∷ q ∷ ps) qs up = (up.0, rising_front (q ∷ ps) qs up.1)

  rising_back : (ps qs : List Place) → Rising (ps ++ qs) → Rising qs
  rising_back [] qs up = up
  rising_back (p ∷ ps) qs up = rising_back ps qs (rising_rest p (ps ++ qs) up)

  -- no place stands in two parts of a list that rises
  rising_apart : (ps qs : List Place) (p : Place) → Rising (ps ++ qs) → IsIn p ps → IsIn p qs → ⊥
  rising_apart [] qs p up h k = h
  rising_apart (x ∷ ps) qs p up (inl e) k =
      not_before p (let P : Place → Type 0 = λ y. IsBefore y p in
      subst P (sym e) (rising_head x (ps ++ qs) up p (behind ps qs p k)))
  rising_apart (x ∷ ps) qs p up (inr h) k = rising_apart ps qs p (rising_rest x (ps ++ qs) up) h k

  pub has_place : (blocks : List Block) (n : ℕ) (b : Block) (p : Place)
      → slice_get blocks n ≡ Some b
      → IsIn p b.places
      → IsIn p (places_of blocks)
  has_place [] n b p e h = absurd (cc)
  has_place (x ∷ blocks) zero b p e h =
      let same : b ≡ x = cc in
      let P : Block → Type 0 = λ y. IsIn p y.places in in_front x.places (places_of blocks) p (subst P same h)
  has_place (x ∷ blocks) (suc n) b p e h = behind x.places (places_of blocks) p (has_place blocks n b p e h)

  pub found_in : (blocks : List Block) (rows : List (Option Row)) (n : ℕ) (b : Block) (row : Row) (p : Place) (r : Row)
      → Rising (places_of blocks)
      → slice_get blocks n ≡ Some b
      → slice_get rows n ≡ Some (Some row)
      → Before l s row b.places p r
      → find_in blocks rows p ≡ Some r
  found_in [] rows n b row p r up e f h = absurd (cc)
  found_in (x ∷ blocks) [] n b row p r up e f h = absurd (cc)
  found_in (x ∷ blocks) (o ∷ rows) zero b row p r up e f h =
      let same : b ≡ x = cc in
      let is : o ≡ Some row = cc in
      let P : Block → Type 0 = λ y. Before l s row y.places p r in
      let found = found_along x.places row p r (rising_front x.places (places_of blocks) up) (subst P same h) in
      ap (λ y. or_row (find_from y x.places p) (find_in blocks rows p)) is
      ∙ ap (λ y. or_row y (find_in blocks rows p)) found
  found_in (x ∷ blocks) (o ∷ rows) (suc n) b row p r up e f h =
      let later = has_place blocks n b p e (before_in b.places row p r h) in
      ap (λ y. or_row y (find_in blocks rows p)) (none o (λ is. rising_apart x.places (places_of blocks) p up is later))
      ∙ found_in blocks rows n b row p r (rising_back x.places (places_of blocks) up) e f h
    where
      none : (o : Option Row) → (IsIn p x.places → ⊥) → find_from o x.places p ≡ None
      none None h = refl
      none (Some y) h = missed_along x.places y p h

  -- one place stands in one block
  pub one_block : (blocks : List Block) (m n : ℕ) (b d : Block) (p : Place)
      → Rising (places_of blocks)
      → slice_get blocks m ≡ Some b
      → slice_get blocks n ≡ Some d
      → IsIn p b.places
      → IsIn p d.places
      → m ≡ n
  one_block [] m n b d p up e f h k = absurd (cc)
  one_block (x ∷ blocks) zero zero b d p up e f h k = refl
  one_block (x ∷ blocks) zero (suc n) b d p up e f h k =
      let same : b ≡ x = cc in
      let P : Block → Type 0 = λ y. IsIn p y.places in
      absurd (rising_apart x.places (places_of blocks) p up (subst P same h) (has_place blocks n d p f k))
  one_block (x ∷ blocks) (suc m) zero b d p up e f h k =
      let same : d ≡ x = cc in
      let P : Block → Type 0 = λ y. IsIn p y.places in
      absurd (rising_apart x.places (places_of blocks) p up (subst P same k) (has_place blocks m b p e h))
  one_block (x ∷ blocks) (suc m) (suc n) b d p up e f h k =
      ap suc (one_block blocks m n b d p (rising_back x.places (places_of blocks) up) e f h k)

  module _ (slots : AreSlots l s) where
    pub along_fine : (ps : List Place) (row : Row) → IsRow s row → IsRow s (along l s row ps)
    along_fine [] row fine = fine
    along_fine (p ∷ ps) row fine =
        along_fine ps (over_row l s row (standing l p)) (over_fine l s slots.some row fine (standing l p))

    find_fine : (ps : List Place) (row : Row) (p : Place) (r : Row)
        → IsRow s row
        → find_along row ps p ≡ Some r
        → IsRow s r
    find_fine [] row p r fine e = absurd (cc)
    find_fine (q ∷ ps) row p r fine e =
        by (is_place q p) (find_fine ps next p r (over_fine l s slots.some row fine (standing l q))) e
      where
        next : Row
        next = over_row l s row (standing l q)

        by : (b : Bool)
            → (find_along next ps p ≡ Some r → IsRow s r)
            → cond b (Some row) (find_along next ps p) ≡ Some r
            → IsRow s r
        by true rest e = let same : row ≡ r = cc in subst (λ x. IsRow s x) same fine
        by false rest e = rest e

    pub found_fine : (blocks : List Block) (rows : List (Option Row)) (p : Place) (r : Row)
        → ((n : ℕ) (row : Row) → slice_get rows n ≡ Some (Some row) → IsRow s row)
        → find_in blocks rows p ≡ Some r
        → IsRow s r
    found_fine [] rows p r fine e = absurd (cc)
    found_fine (b ∷ blocks) [] p r fine e = absurd (cc)
    found_fine (b ∷ blocks) (o ∷ rows) p r fine e =
        by o refl (find_from o b.places p) refl e (found_fine blocks rows p r (λ n row f. fine (suc n) row f))
      where
        by : (x : Option Row)
            → o ≡ x
            → (y : Option Row)
            → find_from x b.places p ≡ y
            → or_row y (find_in blocks rows p) ≡ Some r
            → (find_in blocks rows p ≡ Some r → IsRow s r)
            → IsRow s r
        by None f None g h rest = rest h
        by None f (Some y) g h rest = absurd (cc)
        by (Some row) f None g h rest = rest h
        by (Some row) f (Some y) g h rest =
            find_fine b.places row p r (fine 0 row (ap Some f)) (g ∙ h)
