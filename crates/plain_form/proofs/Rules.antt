-- What the rules of operations say of the ranges of an op.
use Rattle.std.proofs.Common.{◌≡◌, ◌≤◌, ◌+◌, ℕ, Bool, true, false, List, [], ◌∷◌, Option, Some, None, refl, inl, inr, sym, subst}
use Rattle.std.specs.Prelude.{◌&&◌, ◌==◌, not}
use Rattle.std.proofs.lemmas.Bool.{eqb-true, ltb-false}
use Rattle.pcode_model.specs.declared.listing.Listing.{Listing}
use Rattle.pcode_model.specs.declared.listing.Varnode.{Varnode}
use Rattle.pcode_model.specs.Atoms.{one_range}
use Rattle.pcode_model.specs.Flow.{IsIn}
use Rattle.pcode_model.specs.Rules.{any_leaves, leaves_space, output_leaves}
use Rattle.pcode_model.specs.Spaces.{size_of}
use Rattle.pcode_laws.proofs.Rules.{neither}

-- No input that is looked at goes past the end of its space.
pub stays_in : (l : Listing) (vs : List Varnode)
    → any_leaves l vs ≡ false
    → (v : Varnode)
    → IsIn v vs
    → leaves_space l v ≡ false
stays_in l [] h v is = absurd is
stays_in l (x ∷ vs) h v (inl e) = let P : Varnode → Type 0 = λ y. leaves_space l y ≡ false in
    subst P (sym e) (neither _ _ h).0
stays_in l (x ∷ vs) h v (inr is) = stays_in l vs (neither _ _ h).1 v is

-- Nor does the output.
pub output_stays : (l : Listing) (out : Option Varnode)
    → output_leaves l out ≡ false
    → (v : Varnode)
    → IsIn v (one_range out)
    → leaves_space l v ≡ false
output_stays l None h v is = absurd is
output_stays l (Some z) h v (inl e) = let P : Varnode → Type 0 = λ y. leaves_space l y ≡ false in subst P (sym e) h
output_stays l (Some z) h v (inr is) = absurd is

second : (a b : Bool) → a ≡ true → (a && b) ≡ false → b ≡ false
second true b e h = h
second false b e h = absurd (cc)

other_number : (m n : ℕ) → (m ≡ n → ⊥) → not (m == n) ≡ true
other_number m n h = (elim (m == n) as (λ b. (m == n) ≡ b → not b ≡ true)
    [ true ↦ λ e. absurd (h (eqb-true m n e)) | false ↦ λ e. refl ]) refl

-- A range that isn't a constant ends within its space.
pub ends_within : (l : Listing) (v : Varnode)
    → (v.space ≡ 0 → ⊥)
    → leaves_space l v ≡ false
    → v.offset + v.size ≤ size_of l v.space
ends_within l v other h = ltb-false _ _ (second _ _ (other_number v.space 0 other) h)
