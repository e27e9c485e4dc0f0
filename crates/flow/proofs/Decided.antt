-- Marks of what is decided, place by place, and which places are reached and begin blocks.
use Rattle.std.proofs.Common.{◌≡◌, ◌∙◌, ℕ, zero, suc, ◌<◌, Bool, true, false, List, [], ◌∷◌, ◌++◌, length, ap, refl, sym, subst, inl, inr, ◌⊎◌, ◌↔◌, arith}
use Rattle.std.specs.Prelude.{if◌then◌else◌}
use Rattle.std.specs.List.{slice_index_or}
use Rattle.std.proofs.lemmas.Bool.{false≢true}
use Rattle.pcode_model.specs.declared.listing.Listing.{Listing}
use Rattle.pcode_model.specs.declared.listing.Place.{Place}
use Rattle.pcode_model.specs.Flow.{BeginsBlock, Entry, IsIn, Led, Reached, is_branch, turn_at, ways}
use Rattle.pcode_model.specs.Step.{first_place}
use Rattle.pcode_model.proofs.Members.{behind, in_either, in_front}
use Rattle.flow.specs.Slots.{MarksReached, MarksStarts, Marked, at}
use Rattle.flow.proofs.Closure.{AreReached, Decided, in_targets, is_in, next, of_targets}

-- ---- marks

abbrev test : {P : Type 0} → Decided P → Bool
test (inl h) = true
test (inr not) = false

test_holds : {P : Type 0} (d : Decided P) → test d ≡ true → P
test_holds (inl h) e = h
test_holds (inr not) e = absurd (false≢true e)

holds_test : {P : Type 0} (d : Decided P) → P → test d ≡ true
holds_test (inl h) is = refl
holds_test (inr not) is = absurd (not is)

module _ (P : Place → Type 0) (decide : (p : Place) → Decided (P p)) where
  abbrev pub marks : List Place → List Bool
  marks [] = []
  marks (p ∷ ps) = test (decide p) ∷ marks ps

  pub marks_long : (ps : List Place) → length (marks ps) ≡ length ps
  marks_long [] = refl
  marks_long (p ∷ ps) = ap suc (marks_long ps)

  mark_at : (ps : List Place) (s : ℕ) → s < length ps → slice_index_or (marks ps) s false ≡ test (decide (at ps s))
  mark_at [] s inside = absurd (omega arith)
  mark_at (p ∷ ps) zero inside = refl
  mark_at (p ∷ ps) (suc s) inside = mark_at ps s (omega arith)

  -- A place is marked exactly where it holds there.
  pub each_marked : (ps : List Place) (s : ℕ) → s < length ps → Marked (marks ps) s ↔ P (at ps s)
  each_marked ps s inside = (
    (λ h. test_holds (decide (at ps s)) (sym (mark_at ps s inside) ∙ h)),
    (λ h. mark_at ps s inside ∙ holds_test (decide (at ps s)) h),
  )

-- ---- reached places, and where blocks begin

module _ (l : Listing) (found : List Place) (are : AreReached l found) where
  reached_by : (p : Place) → Decided (IsIn p found) → Decided (Reached l [] p)
  reached_by p (inl is) = inl ((are p).0 is)
  reached_by p (inr not) = inr (λ h. not ((are p).1 h))

  pub is_reached : (p : Place) → Decided (Reached l [] p)
  is_reached p = reached_by p (is_in p found)

  abbrev led_by : Bool → Place → List Place
  led_by branches p = if branches then next l p else []

  -- where the branches of these lead
  abbrev led : List Place → List Place
  led [] = []
  led (p ∷ ps) = led_by (is_branch (turn_at l p)) p ++ led ps

  begins_of : (b : Bool) (p q : Place)
      → is_branch (turn_at l p) ≡ b
      → Reached l [] p
      → IsIn q (led_by b p)
      → BeginsBlock l [] q
  begins_of true p q branches reached is = Led p q reached branches (of_targets (ways l [] p) q is)
  begins_of false p q branches reached is = absurd is

  led_begins : (ps : List Place) (q : Place) → ((p : Place) → IsIn p ps → Reached l [] p) → IsIn q (led ps) → BeginsBlock l [] q
  led_begins [] q all is = absurd is
  led_begins (p ∷ ps) q all is = by (in_either (led_by (is_branch (turn_at l p)) p) (led ps) q is)
      (led_begins ps q (λ r h. all r (inr h)))
    where
      by : IsIn q (led_by (is_branch (turn_at l p)) p) ⊎ IsIn q (led ps)
          → (IsIn q (led ps) → BeginsBlock l [] q)
          → BeginsBlock l [] q
      by (inl h) rest = begins_of (is_branch (turn_at l p)) p q refl (all p (inl refl)) h
      by (inr h) rest = rest h

  led_in : (ps : List Place) (p q : Place)
      → IsIn p ps
      → is_branch (turn_at l p) ≡ true
      → IsIn q (next l p)
      → IsIn q (led ps)
  led_in [] p q is branches leads = absurd is
  led_in (x ∷ ps) p q (inl e) branches leads =
      in_front (led_by (is_branch (turn_at l x)) x) (led ps) q
      (subst (λ (y : Place). IsIn q (led_by (is_branch (turn_at l y)) y)) e
      (subst (λ (b : Bool). IsIn q (led_by b p)) (sym branches) leads))
  led_in (x ∷ ps) p q (inr is) branches leads =
      behind (led_by (is_branch (turn_at l x)) x) (led ps) q (led_in ps p q is branches leads)

  starts_in : (p : Place) → BeginsBlock l [] p → IsIn p (first_place l ∷ led found)
  starts_in p Entry = inl refl
  starts_in p (Led q r reached branches leads) =
      inr (led_in found q r ((are q).1 reached) branches (in_targets (ways l [] q) r leads))

  in_starts : (p : Place) → IsIn p (first_place l ∷ led found) → BeginsBlock l [] p
  in_starts p (inl e) = subst (BeginsBlock l []) (sym e) Entry
  in_starts p (inr is) = led_begins found p (λ q h. (are q).0 h) is

  begins_by : (p : Place) → Decided (IsIn p (first_place l ∷ led found)) → Decided (BeginsBlock l [] p)
  begins_by p (inl is) = inl (in_starts p is)
  begins_by p (inr not) = inr (λ h. not (starts_in p h))

  pub begins_block : (p : Place) → Decided (BeginsBlock l [] p)
  begins_block p = begins_by p (is_in p (first_place l ∷ led found))

  module _ (ps : List Place) (all : (p : Place) → Reached l [] p → IsIn p ps) where
    abbrev pub reached_marks : List Bool
    reached_marks = marks (Reached l []) is_reached ps

    abbrev pub start_marks : List Bool
    start_marks = marks (BeginsBlock l []) begins_block ps

    pub marks_reached : MarksReached l [] ps reached_marks
    marks_reached = record {
      long = marks_long (Reached l []) is_reached ps;
      each = each_marked (Reached l []) is_reached ps;
      all = all;
    }

    pub marks_starts : MarksStarts l [] ps start_marks
    marks_starts = record {
      long = marks_long (BeginsBlock l []) begins_block ps;
      each = each_marked (BeginsBlock l []) begins_block ps;
    }
