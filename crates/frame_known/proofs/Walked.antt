-- Facts of sets that support themselves are known along a block, and where a place of a block leads is known what it
-- passes on.
use Rattle.std.proofs.Common.{◌≡◌, ℕ, true, false, List, [], ◌∷◌, Some, refl, sym, ap, ◌∙◌, subst, ◌⊎◌, inl, inr, ⊎_elim}
use Rattle.std.specs.Prelude.{slice_get}
use Rattle.pcode_model.specs.declared.listing.Place.{Place}
use Rattle.pcode_model.specs.declared.listing.Varnode.{Varnode}
use Rattle.pcode_model.specs.declared.listing.Listing.{Listing}
use Rattle.pcode_model.specs.declared.flow.Exit.{Exit}
use Rattle.pcode_model.specs.Places.{Nothing, standing}
use Rattle.pcode_model.specs.Flow.{IsIn, LeadsTo, NoFault, Reached, RunsBlock, stands_by}
use Rattle.pcode_model.specs.WellFormed.{IsWellFormed}
use Rattle.frame_facts.specs.Facts.{AreSupported, CanHold, Facts, Over}
use Rattle.frame_known.specs.declared.slots.Slots.{Slots}
use Rattle.frame_known.specs.Slots.{AreSlots}
use Rattle.frame_known.specs.Rows.{IsRow, Row, knows, over_row}
use Rattle.frame_known.proofs.Below.{over_fine}
use Rattle.frame_known.proofs.Meaning.{over_is}
use Rattle.frame_known.specs.Meeting.{along}
use Rattle.frame_known.specs.Known.{Before}
use Rattle.frame_known.specs.Entering.{nexts}
use Rattle.frame_known.specs.Settling.{KnowsNoLess}
use Rattle.frame_known.proofs.Along.{over_more}
use Rattle.frame_known.proofs.Ways.{Behind, inner_back, inner_on, last_back, last_on, reached_stands}

module _
    (l : Listing)
    (read : IsWellFormed l)
    (sound : NoFault l [])
    (s : Slots)
    (slots : AreSlots l s)
    (starts : List Place)
    (e : Exit)
  where
    abbrev next_row : Row → Place → Row
    next_row row p = over_row l s row (standing l p)

    -- something stands at a reached place
    some_stands : (p : Place) → Reached l [] p → standing l p ≡ Nothing → ⊥
    some_stands p r h =
        let f : true ≡ false = sym (reached_stands l sound p r) ∙ ap stands_by h in cc

    -- what a reached place passes on is known in the next row
    pub step_from : (row : Row) (p : Place) (v : Varnode) (c : ℕ)
        → IsRow s row
        → Reached l [] p
        → CanHold l v c × Over l (knows s row) (standing l p) v c
        → knows s (next_row row p) v c ≡ true
    step_from row p v c fine r h =
        (over_is l read s slots row fine p (standing l p) v c (over_fine l s slots.some row fine (standing l p)) refl
        (some_stands p r)).1 h

    pub step_over : (row : Row) (p : Place) (v : Varnode) (c : ℕ)
        → IsRow s row
        → Reached l [] p
        → knows s (next_row row p) v c ≡ true
        → Over l (knows s row) (standing l p) v c
    step_over row p v c fine r h =
        ((over_is l read s slots row fine p (standing l p) v c (over_fine l s slots.some row fine (standing l p)) refl
        (some_stands p r)).0 h).1

    -- the facts of a set that supports itself are known over an edge
    step_all : (f : Facts) (row : Row) (p q : Place)
        → AreSupported l [] f
        → IsRow s row
        → Reached l [] p
        → LeadsTo l [] p q
        → KnowsNoLess (f p) (knows s row)
        → KnowsNoLess (f q) (knows s (next_row row p))
    step_all f row p q sup fine r h more v c is =
        step_from row p v c fine r
        (sup.can q v c is, over_more l (f p) (knows s row) more (standing l p) v c (sup.edge p q v c r h is))

    pub all_before : (f : Facts) (x : Place) (ps : List Place) (row : Row)
        → AreSupported l [] f
        → IsRow s row
        → ((y : Place) → IsIn y (x ∷ ps) → Reached l [] y)
        → RunsBlock l [] starts (x ∷ ps) e
        → KnowsNoLess (f x) (knows s row)
        → (p : Place) (r : Row)
        → Before l s row (x ∷ ps) p r
        → KnowsNoLess (f p) (knows s r)
    all_before f x ps row sup fine reached runs more p r (inl h) =
        subst (λ z. KnowsNoLess (f z) (knows s r)) (sym h.0) (subst (λ z. KnowsNoLess (f x) (knows s z)) (sym h.1) more)
    all_before f x [] row sup fine reached runs more p r (inr h) = absurd h
    all_before f x (y ∷ ps) row sup fine reached runs more p r (inr h) =
        let rx = reached x (inl refl) in
        all_before f y ps (next_row row x) sup (over_fine l s slots.some row fine (standing l x))
        (λ z is. reached z (inr is)) runs.1
        (step_all f row x y sup fine rx (inner_back l sound starts x y rx runs.0) more) p r h

    pub all_behind : (f : Facts) (x : Place) (ps : List Place) (row : Row) (m : ℕ) (q : Place)
        → AreSupported l [] f
        → IsRow s row
        → ((y : Place) → IsIn y (x ∷ ps) → Reached l [] y)
        → RunsBlock l [] starts (x ∷ ps) e
        → KnowsNoLess (f x) (knows s row)
        → IsIn m (nexts e)
        → slice_get starts m ≡ Some q
        → KnowsNoLess (f q) (knows s (along l s row (x ∷ ps)))
    all_behind f x [] row m q sup fine reached runs more is get =
        let rx = reached x (inl refl) in
        step_all f row x q sup fine rx (last_back l sound starts x e m q rx runs is get) more
    all_behind f x (y ∷ ps) row m q sup fine reached runs more is get =
        let rx = reached x (inl refl) in
        all_behind f y ps (next_row row x) m q sup (over_fine l s slots.some row fine (standing l x))
        (λ z is. reached z (inr is)) runs.1
        (step_all f row x y sup fine rx (inner_back l sound starts x y rx runs.0) more) is get

    -- where a place of a block leads: to the next one, which has the next row, or behind the block
    abbrev pub LeadsOn : List Place → Row → Place → Row → Place → Type 0
    LeadsOn ps row p r q =
        Before l s row ps q (next_row r p) ⊎ (Behind l sound starts e q × (along l s row ps ≡ next_row r p))

    pub leads_on : (ps : List Place) (row : Row) (p : Place) (r : Row) (q : Place)
        → ((y : Place) → IsIn y ps → Reached l [] y)
        → RunsBlock l [] starts ps e
        → Before l s row ps p r
        → LeadsTo l [] p q
        → LeadsOn ps row p r q
    leads_on [] row p r q reached runs before h = absurd before
    leads_on (x ∷ []) row p r q reached runs (inl same) h =
        let here = subst (λ z. LeadsTo l [] z q) same.0 h in
        subst (λ z. LeadsOn (x ∷ []) row z r q) (sym same.0)
        (subst (λ z. LeadsOn (x ∷ []) row x z q) (sym same.1) (inr (last_on l sound starts x e q runs here, refl)))
    leads_on (x ∷ []) row p r q reached runs (inr before) h = absurd before
    leads_on (x ∷ y ∷ ps) row p r q reached runs (inl same) h =
        let here = subst (λ z. LeadsTo l [] z q) same.0 h in
        let next : q ≡ y = inner_on l sound starts x y q (reached x (inl refl)) runs.0 here in
        subst (λ z. LeadsOn (x ∷ y ∷ ps) row z r q) (sym same.0)
        (subst (λ z. LeadsOn (x ∷ y ∷ ps) row x z q) (sym same.1) (inl (inr (inl (next, refl)))))
    leads_on (x ∷ y ∷ ps) row p r q reached runs (inr before) h =
        ⊎_elim (λ a. inl (inr a)) (λ b. inr b)
        (leads_on (y ∷ ps) (next_row row x) p r q (λ z is. reached z (inr is)) runs.1 before h)
