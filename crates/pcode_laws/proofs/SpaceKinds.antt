-- The kinds of a listing's spaces.
use Rattle.std.proofs.Common.{◌≡◌, suc, ◌≤◌, Bool, true, false, List, [], ◌∷◌, refl, arith}
use Rattle.std.specs.Prelude.{cond, slice_get}
use Rattle.pcode_model.specs.declared.listing.SpaceKind.{SpaceKind}
use Rattle.pcode_model.specs.declared.listing.SpaceKind.TheVariants.{Constant, Ram, Register, Unique}
use Rattle.pcode_model.specs.declared.listing.Space.{Space}
use Rattle.pcode_model.specs.Spaces.{kind_in, number_of, same_kind}
use Rattle.pcode_model.specs.WellFormed.{how_many}

-- Kinds that the test takes for one are one.
pub same_is : (j k : SpaceKind) → same_kind j k ≡ true → k ≡ j
same_is Constant Constant h = refl
same_is Ram Ram h = refl
same_is Register Register h = refl
same_is Unique Unique h = refl
same_is Constant Ram h = absurd (cc)
same_is Constant Register h = absurd (cc)
same_is Constant Unique h = absurd (cc)
same_is Ram Constant h = absurd (cc)
same_is Ram Register h = absurd (cc)
same_is Ram Unique h = absurd (cc)
same_is Register Constant h = absurd (cc)
same_is Register Ram h = absurd (cc)
same_is Register Unique h = absurd (cc)
same_is Unique Constant h = absurd (cc)
same_is Unique Ram h = absurd (cc)
same_is Unique Register h = absurd (cc)

-- The first space of a kind is of that kind.
pub first_is : (k : SpaceKind) (ss : List Space) → 1 ≤ how_many k ss → kind_in (slice_get ss (number_of k ss)) ≡ k
first_is k [] some = absurd (omega (arith, some))
first_is k (s ∷ ss) some = by (same_kind k s.kind) refl some (first_is k ss) where
  by : (b : Bool)
      → same_kind k s.kind ≡ b
      → 1 ≤ cond b (suc (how_many k ss)) (how_many k ss)
      → (1 ≤ how_many k ss → kind_in (slice_get ss (number_of k ss)) ≡ k)
      → kind_in (slice_get (s ∷ ss) (cond b 0 (suc (number_of k ss)))) ≡ k
  by true e some rest = same_is k s.kind e
  by false e some rest = rest some
