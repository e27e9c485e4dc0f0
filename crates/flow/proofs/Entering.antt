-- The function's first place, where nothing stands there.
use Rattle.std.proofs.Common.{◌≡◌, ℕ, true, List, [], ◌∷◌, refl, sym, ap, ◌∙◌, subst, inl, inr, ⊎_elim, arith}
use Rattle.pcode_model.specs.declared.listing.Place.{Place}
use Rattle.pcode_model.specs.declared.listing.Listing.{Listing}
use Rattle.pcode_model.specs.declared.flow.FlowWhy.{FlowWhy}
use Rattle.pcode_model.specs.declared.flow.FlowWhy.TheVariants.{NoTarget}
use Rattle.pcode_model.specs.Places.{Standing, Nothing, Passes, Does, standing}
use Rattle.pcode_model.specs.Step.{first_place}
use Rattle.pcode_model.specs.Flow.{IsIn, Way, Leads, Fails, stands_by, standing_ways, ways, Reached, First, Next, FirstFault, rank}
use Rattle.pcode_model.specs.declared.tables.TableAt.{TableAt}
use Rattle.flow.specs.declared.answer.FlowFault.{FlowFault}
use Rattle.flow.specs.declared.answer.FlowFault.TheVariants as F
use Rattle.flow.specs.Slots.{ArePlaces}
use Rattle.flow.specs.Answer.{HasTooMany, IsTooMany, IsFlowFault}

nothing_there : (l : Listing) (ps : List Place)
    → ArePlaces l ps
    → (IsIn (first_place l) ps → ⊥)
    → ways l [] (first_place l) ≡ Fails NoTarget ∷ []
nothing_there l ps a none = by (standing l (first_place l)) refl where
  stood : (s : Standing)
      → standing l (first_place l) ≡ s
      → stands_by s ≡ true
      → ways l [] (first_place l) ≡ Fails NoTarget ∷ []
  stood s e h = absurd (none ((a.each (first_place l)).1 (ap stands_by e ∙ h)))

  by : (s : Standing) → standing l (first_place l) ≡ s → ways l [] (first_place l) ≡ Fails NoTarget ∷ []
  by Nothing e = ap (λ s. standing_ways l [] (first_place l) s) e
  by (Passes i) e = stood (Passes i) e refl
  by (Does i op) e = stood (Does i op) e refl

alone : (l : Listing)
    → ways l [] (first_place l) ≡ Fails NoTarget ∷ []
    → (q : Place)
    → Reached l [] q
    → first_place l ≡ q
alone l e q First = refl
alone l e q (Next p q' r h) =
    let P : Place → Type 0 = λ z. IsIn (Leads q') (ways l [] z) in
    let Q : List Way → Type 0 = λ ws. IsIn (Leads q') ws in
    absurd (⊎_elim (λ f. never q' f) (λ bad. bad) (subst Q e (subst P (sym (alone l e p r)) h))) where
      never : (q : Place) → Leads q ≡ Fails NoTarget → ⊥
      never q f = cc

fails_same : (a b : FlowWhy) → Fails a ≡ Fails b → a ≡ b
fails_same a b e = cc

pub entry_fault : (l : Listing) (ps : List Place)
    → ArePlaces l ps
    → (IsIn (first_place l) ps → ⊥)
    → FirstFault l [] (first_place l) NoTarget
entry_fault l ps a none =
    let e = nothing_there l ps a none in
    let P : List Way → Type 0 = λ ws. IsIn (Fails NoTarget) ws in
    record {
      here = (First, inl (subst P (sym e) (inl refl)));
      least = λ q other h.
          let same = alone l e q h.0 in
          let Q : Place → Type 0 = λ z. IsIn (Fails other) (ways l [] z) in
          let R : List Way → Type 0 = λ ws. IsIn (Fails other) ws in
          inr (
            same,
            ⊎_elim
                (λ i. ⊎_elim
                (λ f. omega (arith, ap rank (fails_same other NoTarget f)))
                (λ bad. absurd bad)
                (subst R e (subst Q (sym same) i)))
                (λ b. absurd b.1.1)
                h.1,
          );
    }

-- ---- what the whole call answers

pub too_many_fault : (l : Listing) (t : List TableAt) (n : ℕ) (f : FlowFault)
    → HasTooMany l t n
    → IsTooMany n f
    → IsFlowFault l t f
too_many_fault l t n (F.NoTarget p) h k = absurd k
too_many_fault l t n (F.FallsOff p) h k = absurd k
too_many_fault l t n (F.BadRelative p) h k = absurd k
too_many_fault l t n (F.NoTable p) h k = absurd k
too_many_fault l t n (F.TableEntered p) h k = absurd k
too_many_fault l t n (F.TooManyBlocks m) h k = let P : ℕ → Type 0 = λ x. HasTooMany l t x in subst P (sym k) h
too_many_fault l t n F.Memory h k = tt
