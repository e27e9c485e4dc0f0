-- Worked cases, by a sort of their marks that computes.
use Rattle.std.proofs.Common.{◌≡◌, ℕ, suc, ◌≤◌, Bool, true, false, List, [], ◌∷◌, ◌++◌, refl, inl, inr, ⊎_elim, ◌⊎◌, arith, if◌then◌else◌, nat_le, ap, subst, sym}
use Rattle.std.specs.Prelude.{cond}
use Rattle.std.proofs.lemmas.Bool.{cases_lt}
use Rattle.std.proofs.lemmas.Bool.Decides.{nat_tests}
use Rattle.pcode_model.specs.declared.atoms.Atom.{Atom}
use Rattle.pcode_model.specs.Atoms.{Range}
use Rattle.pcode_model.specs.Flow.{IsIn}
use Rattle.stackvars.specs.declared.sweep.Mark.{Mark}
use Rattle.stackvars.specs.Cuts.{atoms_of, more_cuts, opens}
use Rattle.stackvars.specs.Cases.{AcrossEntry, ArgumentCuts, ByteCuts, KeptCuts, LastByte, NoAccess, OverlapSplits, Splits, TouchingStay}
use Rattle.stackvars.proofs.Swept.{Climbs, pieces_climbing, pieces_same, swept}

abbrev placed : Mark → List Mark → List Mark
placed m [] = m ∷ []
placed m (x ∷ ms) = if nat_le m.position x.position then m ∷ x ∷ ms else x ∷ placed m ms

abbrev sorted : List Mark → List Mark
sorted [] = []
sorted (m ∷ ms) = placed m (sorted ms)

here : (m x : Mark) (ms : List Mark) → m.position ≤ x.position → placed m (x ∷ ms) ≡ m ∷ x ∷ ms
here m x ms le =
    let t : nat_le m.position x.position ≡ true = grind (arith, nat_tests) in
    ap (λ (b : Bool). cond b (m ∷ x ∷ ms) (x ∷ placed m ms)) t

there : (m x : Mark) (ms : List Mark) → suc x.position ≤ m.position → placed m (x ∷ ms) ≡ x ∷ placed m ms
there m x ms lt =
    let t : nat_le m.position x.position ≡ false = grind (arith, nat_tests) in
    ap (λ (b : Bool). cond b (m ∷ x ∷ ms) (x ∷ placed m ms)) t

placed_climbs : (a : ℕ) (m : Mark) (ms : List Mark) → a ≤ m.position → Climbs a ms → Climbs a (placed m ms)
placed_climbs a m [] le up = (le, tt)
placed_climbs a m (x ∷ ms) le up =
    ⊎_elim
    (λ lt. subst (Climbs a) (sym (there m x ms lt)) (up.0, placed_climbs x.position m ms (omega arith) up.1))
    (λ ge. subst (Climbs a) (sym (here m x ms ge)) (le, (ge, up.1)))
    (cases_lt x.position m.position)

sorted_climbs : (ms : List Mark) → Climbs 0 (sorted ms)
sorted_climbs [] = tt
sorted_climbs (m ∷ ms) = placed_climbs 0 m (sorted ms) (omega arith) (sorted_climbs ms)

placed_in : (m : Mark) (ms : List Mark) (y : Mark) → (y ≡ m) ⊎ IsIn y ms → IsIn y (placed m ms)
placed_in m [] y is = is
placed_in m (x ∷ ms) y is =
    let Q : List Mark → Type 0 = λ ns. IsIn y ns in
    ⊎_elim
    (λ lt. subst Q (sym (there m x ms lt))
    (⊎_elim
    (λ e. inr (placed_in m ms y (inl e)))
    (λ h. ⊎_elim (λ e. inl e) (λ k. inr (placed_in m ms y (inr k))) h)
    is))
    (λ ge. subst Q (sym (here m x ms ge)) is)
    (cases_lt x.position m.position)

in_placed : (m : Mark) (ms : List Mark) (y : Mark) → IsIn y (placed m ms) → (y ≡ m) ⊎ IsIn y ms
in_placed m [] y is = is
in_placed m (x ∷ ms) y is =
    let Q : List Mark → Type 0 = λ ns. IsIn y ns in
    ⊎_elim
    (λ lt. ⊎_elim
    (λ e. inr (inl e))
    (λ h. ⊎_elim (λ e. inl e) (λ k. inr (inr k)) (in_placed m ms y h))
    (subst Q (there m x ms lt) is))
    (λ ge. subst Q (here m x ms ge) is)
    (cases_lt x.position m.position)

sorted_in : (ms : List Mark) (y : Mark) → IsIn y ms → IsIn y (sorted ms)
sorted_in [] y is = is
sorted_in (m ∷ ms) y (inl e) = placed_in m (sorted ms) y (inl e)
sorted_in (m ∷ ms) y (inr is) = placed_in m (sorted ms) y (inr (sorted_in ms y is))

in_sorted : (ms : List Mark) (y : Mark) → IsIn y (sorted ms) → IsIn y ms
in_sorted [] y is = is
in_sorted (m ∷ ms) y is = ⊎_elim (λ e. inl e) (λ h. inr (in_sorted ms y h)) (in_placed m (sorted ms) y is)

-- the atoms by computation
splits : (accessed cuts : List Range) (atoms : List Atom)
    → atoms_of (swept 0 0 (sorted (opens accessed ++ more_cuts cuts))) ≡ atoms
    → Splits accessed cuts atoms
splits accessed cuts atoms made =
    let ms : List Mark = opens accessed ++ more_cuts cuts in
    record {
      pieces = swept 0 0 (sorted ms);
      are =
          pieces_same ms (sorted ms) (sorted_in ms) (in_sorted ms) (swept 0 0 (sorted ms))
          (pieces_climbing (sorted ms) (sorted_climbs ms));
      made = made;
    }

pub byte_cuts : ByteCuts
byte_cuts = splits _ _ _ refl

pub kept_cuts : KeptCuts
kept_cuts = splits _ _ _ refl

pub touching_stay : TouchingStay
touching_stay = splits _ _ _ refl

pub overlap_splits : OverlapSplits
overlap_splits = splits _ _ _ refl

pub no_access : NoAccess
no_access = splits _ _ _ refl

pub last_byte : LastByte
last_byte = splits _ _ _ refl

pub across_entry : AcrossEntry
across_entry = splits _ _ _ refl

pub argument_cuts : ArgumentCuts
argument_cuts = splits _ _ _ refl
