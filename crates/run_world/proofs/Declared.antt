-- The declared spaces of a listing: their sizes, and the numbers of the first ones of each kind.
use Rattle.std.proofs.Common.{◌≡◌, ℕ, zero, suc, ◌+◌, ◌<◌, ◌≤◌, ◌^◌, Bool, true, false, cond, List, [], ◌∷◌, length, refl, sym, ap, ◌∙◌, arith, lit<}
use Rattle.std.specs.Prelude.{nat_lt, slice_get}
use Rattle.std.specs.List.{AllByRecursion}
use Rattle.std.proofs.Math.Nat.{pow-le-pow_right}
use Rattle.std.proofs.lemmas.Bool.Decides.{nat_tests}
use Rattle.pcode_model.specs.declared.listing.Fixed.{Fixed}
use Rattle.pcode_model.specs.declared.listing.Listing.{Listing}
use Rattle.pcode_model.specs.declared.listing.Space.{Space}
use Rattle.pcode_model.specs.declared.listing.SpaceKind.{SpaceKind}
use Rattle.pcode_model.specs.declared.listing.SpaceKind.TheVariants.{Constant, Ram, Register, Unique}
use Rattle.pcode_model.specs.Spaces.{first_ram, kind_in, number_of, same_kind, size_in, size_of}
use Rattle.pcode_model.specs.WellFormed.{AreSpaces, IsDeclared, IsFixed, IsWellFormed, how_many}

-- the number of the first space of a kind that is there
pub number_below : (k : SpaceKind) (ss : List Space) → 1 ≤ how_many k ss → number_of k ss < length ss
number_below k [] some = absurd (omega (arith, some))
number_below k (s ∷ ss) some = step (same_kind k s.kind) some (number_below k ss) where
  step : (b : Bool)
      → 1 ≤ cond b (suc (how_many k ss)) (how_many k ss)
      → (1 ≤ how_many k ss → number_of k ss < length ss)
      → cond b 0 (suc (number_of k ss)) < suc (length ss)
  step true some below = omega arith
  step false some below = omega (arith, below some)

-- the space with the number of the first one of a kind is of that kind
pub kind_at : (k : SpaceKind) (ss : List Space)
    → 1 ≤ how_many k ss
    → same_kind k (kind_in (slice_get ss (number_of k ss))) ≡ true
kind_at k [] some = absurd (omega (arith, some))
kind_at k (s ∷ ss) some = step (same_kind k s.kind) refl some (kind_at k ss) where
  step : (b : Bool)
      → same_kind k s.kind ≡ b
      → 1 ≤ cond b (suc (how_many k ss)) (how_many k ss)
      → (1 ≤ how_many k ss → same_kind k (kind_in (slice_get ss (number_of k ss))) ≡ true)
      → same_kind k (kind_in (slice_get (s ∷ ss) (cond b 0 (suc (number_of k ss))))) ≡ true
  step true e some below = e
  step false e some below = below some

size_small : (n : ℕ) → n ≤ 8 → 256 ^ n ≤ 2 ^ 64
size_small n few =
    let most : 256 ^ n ≤ 256 ^ 8 = pow-le-pow_right (lit< tt) {i = n} {j = 8} few in
    omega (arith, most)

declared_size : (ss : List Space) (n : ℕ)
    → AllByRecursion IsDeclared ss
    → same_kind Constant (kind_in (slice_get ss n)) ≡ false
    → size_in (slice_get ss n) ≤ 2 ^ 64
declared_size [] n all other = omega arith
declared_size (s ∷ ss) zero all other = size_small s.size all.0.few
declared_size (s ∷ ss) (suc n) all other = declared_size ss n all.1 other

-- a space other than the constant space has at most 2 to the 64 bytes
pub size_most : (ss : List Space) (n : ℕ)
    → AreSpaces ss
    → same_kind Constant (kind_in (slice_get ss n)) ≡ false
    → size_in (slice_get ss n) ≤ 2 ^ 64
size_most [] n good other = absurd good
size_most (s ∷ ss) zero good other = absurd (not_constant s.kind (ap (λ (x : Space). x.kind) good.0) other) where
  not_constant : (k : SpaceKind) → k ≡ Constant → same_kind Constant k ≡ false → ⊥
  not_constant k is isnt = let e : true ≡ false = ap (same_kind Constant) (sym is) ∙ isnt in cc
size_most (s ∷ ss) (suc n) good other = declared_size ss n good.1 other

-- a ram, a register or a unique space isn't the constant space
pub ram_not_constant : (k : SpaceKind) → same_kind Ram k ≡ true → same_kind Constant k ≡ false
ram_not_constant Constant e = sym e
ram_not_constant Ram e = refl
ram_not_constant Register e = refl
ram_not_constant Unique e = refl

pub register_not_constant : (k : SpaceKind) → same_kind Register k ≡ true → same_kind Constant k ≡ false
register_not_constant Constant e = sym e
register_not_constant Ram e = refl
register_not_constant Register e = refl
register_not_constant Unique e = refl

pub unique_not_constant : (k : SpaceKind) → same_kind Unique k ≡ true → same_kind Constant k ≡ false
unique_not_constant Constant e = sym e
unique_not_constant Ram e = refl
unique_not_constant Register e = refl
unique_not_constant Unique e = refl

-- the first ram space has at most 2 to the 64 bytes
pub ram_size : (l : Listing) → IsWellFormed l → size_of l (first_ram l) ≤ 2 ^ 64
ram_size l good =
    size_most l.spaces (first_ram l) good.spaces
    (ram_not_constant (kind_in (slice_get l.spaces (first_ram l))) (kind_at Ram l.spaces good.complete.ram))

pub fixed_ends : (ss : List Space) (f : Fixed) → AreSpaces ss → IsFixed ss f → f.offset + length f.bytes ≤ 2 ^ 64
fixed_ends ss f good is =
    let most = size_most ss f.space good (ram_not_constant (kind_in (slice_get ss f.space)) is.kind) in
    let inside : nat_lt (size_in (slice_get ss f.space)) (f.offset + length f.bytes) ≡ false = is.inside in
    grind (arith, nat_tests, most, inside)

pub all_fixed_end : (ss : List Space) (fs : List Fixed)
    → AreSpaces ss
    → AllByRecursion (IsFixed ss) fs
    → AllByRecursion (λ f. f.offset + length f.bytes ≤ 2 ^ 64) fs
all_fixed_end ss [] good all = tt
all_fixed_end ss (f ∷ fs) good all = (fixed_ends ss f good all.0, all_fixed_end ss fs good all.1)
