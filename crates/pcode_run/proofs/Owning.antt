-- The accesses of a frame that lie in the first ram space.
use Rattle.std.proofs.Common.{◌≡◌, ◌==◌, ℕ, Bool, true, false, cond, List, [], ◌∷◌, Option, Some, IsSome, refl, subst, sym}
use Rattle.std.specs.Prelude.{◌&&◌, not}
use Rattle.std.specs.List.{AllByRecursion}
use Rattle.std.proofs.lemmas.Bool.{eqb-true, and_parts}
use Rattle.pcode_model.specs.declared.listing.Instruction.{Instruction}
use Rattle.pcode_model.specs.declared.listing.Listing.{Listing}
use Rattle.pcode_model.specs.declared.listing.Op.{Op}
use Rattle.pcode_model.specs.declared.listing.Place.{Place}
use Rattle.pcode_model.specs.Places.{Does, Standing, standing}
use Rattle.pcode_model.specs.Spaces.{first_ram, or, size_of}
use Rattle.pcode_model.specs.Step.{varnode_at}
use Rattle.pcode_model.specs.declared.frame.Frame.{Frame}
use Rattle.pcode_model.specs.declared.frame.FrameAccess.{FrameAccess}
use Rattle.pcode_model.specs.Frame.{frame_of, no_variables, own_in, wrapped}
use Rattle.pcode_memory.specs.Frame.{IsOrdered}
use Rattle.pcode_run.specs.Run.{LiesInRam, OwnsFirstRam, accesses, by_pointer, lies_in_ram}
use Rattle.pcode_model.proofs.Members.{same_place}

in_space : (b : Bool) (m n : ℕ) → b ≡ true → or (not b) (m == n) ≡ true → m ≡ n
in_space true m n is h = eqb-true m n h
in_space false m n is h = absurd (cc)

here : (l : Listing) (a : FrameAccess) (p : Place) (i : Instruction) (op : Op)
    → lies_in_ram l a ≡ true
    → (a.place.address == p.address && (a.place.index == p.index && a.argument == 0)) ≡ true
    → standing l p ≡ Does i op
    → by_pointer op.code ≡ true
    → (varnode_at op.inputs 0).offset ≡ first_ram l
here l a p i op lies is stands pointer =
    let x = and_parts _ _ is in
    let y = and_parts _ _ x.1 in
    let P : Bool → Type 0 = λ b. cond b (accesses (first_ram l) (standing l a.place)) true ≡ true in
    let Q : Place → Type 0 = λ q. accesses (first_ram l) (standing l q) ≡ true in
    let R : Standing → Type 0 = λ s. accesses (first_ram l) s ≡ true in
    in_space (by_pointer op.code) _ _ pointer
    (subst R stands (subst Q (same_place a.place p (eqb-true _ _ x.0) (eqb-true _ _ y.0)) (subst P y.1 lies)))

by_test : (b : Bool) (x rest : Option ℕ) {C : Type 0} → IsSome (cond b x rest) → (b ≡ true → C) → (IsSome rest → C) → C
by_test true x rest some first later = first refl
by_test false x rest some first later = later some

owns_in : (l : Listing) (size : ℕ) (owned : List FrameAccess)
    → AllByRecursion (λ a. lies_in_ram l a ≡ true) owned
    → (p : Place) (i : Instruction) (op : Op)
    → standing l p ≡ Does i op
    → by_pointer op.code ≡ true
    → IsSome (own_in size owned p 0)
    → (varnode_at op.inputs 0).offset ≡ first_ram l
owns_in l size [] all p i op stands pointer some = absurd (cc)
owns_in l size (a ∷ rest) all p i op stands pointer some =
    by_test (a.place.address == p.address && (a.place.index == p.index && a.argument == 0))
    (Some (wrapped size a.offset)) (own_in size rest p 0) some
    (λ is. here l a p i op all.0 is stands pointer)
    (λ more. owns_in l size rest all.1 p i op stands pointer more)

pub owns_ram : (l : Listing) (f : Frame) → LiesInRam l f → OwnsFirstRam l (frame_of l f)
owns_ram l f all p i op stands pointer some =
    owns_in l (size_of l (first_ram l)) f.accesses all p i op stands pointer some

-- ---- the frame without variables

-- stands in order
pub empty_ordered : (l : Listing) (f : Frame) → f ≡ no_variables → IsOrdered l f
empty_ordered l f e = subst (λ (g : Frame). IsOrdered l g) (sym e) (record { accesses = tt; variables = tt; near = tt })

-- and has no access outside the first ram space
pub empty_lies : (l : Listing) (f : Frame) → f ≡ no_variables → LiesInRam l f
empty_lies l f e = subst (λ (g : Frame). LiesInRam l g) (sym e) tt
