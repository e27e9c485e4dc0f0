-- A walk over sorted accesses finds their runs: it carries the run so far, which the next access joins or ends.
use Rattle.std.proofs.Common.{◌≡◌, Bool, List, [], ◌∷◌, refl, sym, ap, subst, inl, inr, ⊎_elim, arith}
use Rattle.std.specs.Prelude.{cond, ℤ, ◌≤ℤ◌, ◌<ℤ◌}
use Rattle.std.specs.List.{AllByRecursion}
use Rattle.std.proofs.lemmas.Int.{ints}
use Rattle.std.proofs.lemmas.List.Sorted.{IsNonDecreasingBy-drop}
use Rattle.pcode_model.specs.declared.frame.FrameAccess.{FrameAccess}
use Rattle.pcode_model.specs.Flow.{IsIn}
use Rattle.stackvars.specs.Near.{IsNearAccess}
use Rattle.frame_facts.specs.Accesses.{IsByteOf}
use Rattle.frame_classes.specs.declared.runs.Run.{Run}
use Rattle.frame_classes.specs.Runs.{Alone, AreApart, AreChained, AreRuns, HasBytes, IsFilled, IsSorted, IsWithin, Linked, Rise, end, joined, place_of, run_of, swept}
use Rattle.frame_classes.proofs.Numbers.{IsGreater, greater_is, less_or_not, place_rises}

-- no access begins before the one before it
abbrev pub Climbs : ℤ → List FrameAccess → Type 0
Climbs n [] = Unit {0}
Climbs n (a ∷ rest) = (n ≤ℤ a.offset) × Climbs a.offset rest

climbs_more : (n m : ℤ) (xs : List FrameAccess) → n ≤ℤ m → Climbs m xs → Climbs n xs
climbs_more n m [] le up = tt
climbs_more n m (a ∷ xs) le up = (omega (arith, ints, le, up.0), up.1)

rise_more : (n m : ℤ) (runs : List Run) → n ≤ℤ m → Rise m runs → Rise n runs
rise_more n m [] le up = tt
rise_more n m (r ∷ runs) le up = (omega (arith, ints, le, up.0), up.1)

-- an access's own bytes
pub own_run : (a : FrameAccess) → IsWithin a (run_of a)
own_run a = record { from = omega (arith, ints); to = omega (arith, ints) }

module _ (xs : List FrameAccess) where
  filled_alone : (a : FrameAccess) → IsIn a xs → IsFilled xs (run_of a)
  filled_alone a is = record {
    first = a;
    is_first = is;
    within = own_run a;
    bytes = λ o from to. (a, (Alone a is, (from, to)));
  }

  -- An access that begins inside a run fills what it adds to it.
  module _
      (last : Run)
      (a : FrameAccess)
      (filled : IsFilled xs last)
      (is : IsIn a xs)
      (some : HasBytes a)
      (from : last.begin ≤ℤ a.offset)
      (inside : a.offset <ℤ last.end)
    where
      ends : IsGreater last.end (end a) (joined last (run_of a)).end
      ends = greater_is last.end (end a)

      -- a chain leads to it
      to_it : AreChained xs filled.first a
      to_it =
          let b = filled.bytes a.offset from inside in
          Linked filled.first b.0 a b.1.0 is (a.offset, (b.1.1, (omega (arith, ints), omega (arith, ints, some))))

      bytes_on : (o : ℤ)
          → last.begin ≤ℤ o
          → o <ℤ (joined last (run_of a)).end
          → (b : FrameAccess) × (AreChained xs filled.first b × IsByteOf b o)
      bytes_on o low high =
          ⊎_elim
          (λ old. filled.bytes o low old.0)
          (λ new. (a, (to_it, (omega (arith, ints, new.0, inside), added o high new.0))))
          (less_or_not o last.end)
        where
          added : (o : ℤ) → o <ℤ (joined last (run_of a)).end → last.end ≤ℤ o → o <ℤ end a
          added o high new =
              ⊎_elim
              (λ e. absurd (omega (arith, ints, e, high, new)))
              (λ e. omega (arith, ints, e, high))
              ends.one

      filled_on : IsFilled xs (joined last (run_of a))
      filled_on = record {
        first = filled.first;
        is_first = filled.is_first;
        within = record {
          from = filled.within.from;
          to = let h = filled.within.to in let g = ends.first in omega (arith, ints, h, g);
        };
        bytes = bytes_on;
      }

  -- What a walk from a run on finds.
  record Walked (last : Run) (ms : List FrameAccess) (runs : List Run) : Type 0 where
    covered : (a : FrameAccess) → IsIn a ms → (r : Run) × (IsIn r runs × IsWithin a r)
    kept : (r : Run) × (IsIn r runs × ((r.begin ≤ℤ last.begin) × (last.end ≤ℤ r.end)))
    filled : (r : Run) → IsIn r runs → IsFilled xs r
    rise : Rise last.begin runs

  -- ---- one access

  module _ (last : Run) (a : FrameAccess) (ms : List FrameAccess) (from : last.begin ≤ℤ a.offset) where
    joins : (runs : List Run) → Walked (joined last (run_of a)) ms runs → Walked last (a ∷ ms) runs
    joins runs w = record {
      covered = λ b is. ⊎_elim
          (λ e. subst (λ (x : FrameAccess). (r : Run) × (IsIn r runs × IsWithin x r)) (sym e) here)
          (λ rest. w.covered b rest)
          is;
      kept = (w.kept.0, (w.kept.1.0, (w.kept.1.1.0, longer)));
      filled = w.filled;
      rise = w.rise;
    } where
      ends : IsGreater last.end (end a) (joined last (run_of a)).end
      ends = greater_is last.end (end a)

      longer : last.end ≤ℤ w.kept.0.end
      longer = let h = w.kept.1.1.1 in let g = ends.first in omega (arith, ints, h, g)

      here : (r : Run) × (IsIn r runs × IsWithin a r)
      here =
          let h = w.kept.1.1 in
          let g = ends.second in
          (w.kept.0, (w.kept.1.0, record { from = omega (arith, ints, h.0, from); to = omega (arith, ints, h.1, g) }))

    begins : (runs : List Run)
        → IsFilled xs last
        → last.begin <ℤ last.end
        → last.end ≤ℤ a.offset
        → Walked (run_of a) ms runs
        → Walked last (a ∷ ms) (last ∷ runs)
    begins runs filled some past w = record {
      covered = λ b is. ⊎_elim
          (λ e. subst (λ (x : FrameAccess). (r : Run) × (IsIn r (last ∷ runs) × IsWithin x r)) (sym e) here)
          (λ rest. let c = w.covered b rest in (c.0, (inr c.1.0, c.1.1)))
          is;
      kept = (last, (inl refl, (omega (arith, ints), omega (arith, ints))));
      filled = λ r is. ⊎_elim
          (λ e. subst (λ (x : Run). IsFilled xs x) (sym e) filled)
          (λ rest. w.filled r rest)
          is;
      rise = (omega (arith, ints), (some, rise_more last.end a.offset runs past w.rise));
    } where
      here : (r : Run) × (IsIn r (last ∷ runs) × IsWithin a r)
      here =
          let h = w.kept.1.1 in
          (w.kept.0, (inr w.kept.1.0, record { from = omega (arith, ints, h.0); to = omega (arith, ints, h.1) }))

  -- ---- all of them

  walked : (last : Run) (ms : List FrameAccess)
      → IsFilled xs last
      → last.begin <ℤ last.end
      → ((a : FrameAccess) → IsIn a ms → IsIn a xs)
      → AllByRecursion HasBytes ms
      → Climbs last.begin ms
      → Walked last ms (swept last ms)
  walked last [] filled some among sizes up = record {
    covered = λ a is. absurd is;
    kept = (last, (inl refl, (omega (arith, ints), omega (arith, ints))));
    filled = λ r is. ⊎_elim (λ e. subst (λ (x : Run). IsFilled xs x) (sym e) filled) (λ no. absurd no) is;
    rise = (omega (arith, ints), (some, tt));
  }
  walked last (a ∷ ms) filled some among sizes up =
      ⊎_elim
      (λ inside.
      let j : Run = joined last (run_of a) in
      let wide : j.begin <ℤ j.end = let g = (greater_is last.end (end a)).first in omega (arith, ints, some, g) in
      let w : Walked j ms (swept j ms) =
      walked j ms (filled_on last a filled (among a (inl refl)) sizes.0 up.0 inside.0) wide
      (λ b is. among b (inr is)) sizes.1 (climbs_more last.begin a.offset ms up.0 up.1) in
      let e : swept last (a ∷ ms) ≡ swept j ms =
      ap (λ (b : Bool). cond b (swept j ms) (last ∷ swept (run_of a) ms)) inside.1 in
      subst (λ (rs : List Run). Walked last (a ∷ ms) rs) (sym e) (joins last a ms up.0 (swept j ms) w))
      (λ past.
      let n : Run = run_of a in
      let w : Walked n ms (swept n ms) =
      walked n ms (filled_alone a (among a (inl refl))) (omega (arith, ints, sizes.0))
      (λ b is. among b (inr is)) sizes.1 up.1 in
      let e : swept last (a ∷ ms) ≡ last ∷ swept n ms =
      ap (λ (b : Bool). cond b (swept (joined last n) ms) (last ∷ swept n ms)) past.1 in
      subst (λ (rs : List Run). Walked last (a ∷ ms) rs) (sym e)
      (begins last a ms up.0 (swept n ms) filled some past.0 w))
      (less_or_not a.offset last.end)

-- ---- sorted accesses

from_first : (a : FrameAccess) (ms : List FrameAccess)
    → AllByRecursion IsNearAccess (a ∷ ms)
    → IsSorted (a ∷ ms)
    → Climbs a.offset ms
from_first a [] near up = tt
from_first a (b ∷ ms) near up = (
  place_rises a.offset b.offset near.0.from near.1.0.from (up 0 1 a (omega arith) (omega arith)),
  from_first b ms near.1 (IsNonDecreasingBy-drop place_of 1 (a ∷ b ∷ ms) up),
)

apart_from : (n : ℤ) (runs : List Run) → Rise n runs → AreApart runs
apart_from n [] up = tt
apart_from n (r ∷ runs) up = up.1

-- The runs of sorted accesses are those from the first one on.
pub runs_from : (a : FrameAccess) (ms : List FrameAccess)
    → AllByRecursion IsNearAccess (a ∷ ms)
    → AllByRecursion HasBytes (a ∷ ms)
    → IsSorted (a ∷ ms)
    → AreRuns (a ∷ ms) (swept (run_of a) ms)
runs_from a ms near some up =
    let xs : List FrameAccess = a ∷ ms in
    let w : Walked xs (run_of a) ms (swept (run_of a) ms) =
    walked xs (run_of a) ms (filled_alone xs a (inl refl)) (omega (arith, ints, some.0)) (λ b is. inr is) some.1
    (from_first a ms near up) in
    record {
      covered = λ b is. ⊎_elim
          (λ e. subst (λ (x : FrameAccess). (r : Run) × (IsIn r (swept (run_of a) ms) × IsWithin x r)) (sym e) (
            w.kept.0,
            (
              w.kept.1.0,
              record {
                from = let h = w.kept.1.1.0 in omega (arith, ints, h);
                to = let h = w.kept.1.1.1 in omega (arith, ints, h);
              },
            ),
          ))
          (λ rest. w.covered b rest)
          is;
      filled = w.filled;
      apart = apart_from a.offset _ w.rise;
    }
