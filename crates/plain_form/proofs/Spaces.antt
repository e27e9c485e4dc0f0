-- The spaces of a listing that was read, by their kinds.
use Rattle.std.proofs.Common.{◌≡◌, ◌≤◌, ◌<◌, ◌^◌, ℕ, zero, suc, Bool, true, false, List, [], ◌∷◌, length, Option, Some, None, refl, sym, subst, ap, ◌∙◌, arith, lit<}
use Rattle.std.proofs.Math.Nat.{pow-le-pow_right}
use Rattle.std.specs.Prelude.{if◌then◌else◌, slice_get}
use Rattle.std.specs.List.{AllByRecursion}
use Rattle.pcode_model.specs.declared.listing.Space.{Space}
use Rattle.pcode_model.specs.declared.listing.SpaceKind.{SpaceKind}
use Rattle.pcode_model.specs.declared.listing.SpaceKind.TheVariants.{Constant, Ram, Register, Unique}
use Rattle.pcode_model.specs.declared.listing.Listing.{Listing}
use Rattle.pcode_model.specs.Spaces.{kind_in, number_of, same_kind, size_in, size_of}
use Rattle.pcode_model.specs.WellFormed.{AreSpaces, IsDeclared, how_many}

-- the kind of the space with a number
abbrev pub kind_at : List Space → ℕ → SpaceKind
kind_at spaces n = kind_in (slice_get spaces n)

clash : true ≡ false → ⊥
clash h = cc

pub same_self : (k : SpaceKind) → same_kind k k ≡ true
same_self Constant = refl
same_self Ram = refl
same_self Register = refl
same_self Unique = refl

-- What the test takes for one kind is one.
pub same_is : (j k : SpaceKind) → same_kind j k ≡ true → j ≡ k
same_is Constant Constant h = refl
same_is Constant Ram h = absurd (clash (sym h))
same_is Constant Register h = absurd (clash (sym h))
same_is Constant Unique h = absurd (clash (sym h))
same_is Ram Constant h = absurd (clash (sym h))
same_is Ram Ram h = refl
same_is Ram Register h = absurd (clash (sym h))
same_is Ram Unique h = absurd (clash (sym h))
same_is Register Constant h = absurd (clash (sym h))
same_is Register Ram h = absurd (clash (sym h))
same_is Register Register h = refl
same_is Register Unique h = absurd (clash (sym h))
same_is Unique Constant h = absurd (clash (sym h))
same_is Unique Ram h = absurd (clash (sym h))
same_is Unique Register h = absurd (clash (sym h))
same_is Unique Unique h = refl

-- Two that differ by the test aren't one.
pub differ : (j k : SpaceKind) → same_kind j k ≡ false → k ≡ j → ⊥
differ j k h e = let P : SpaceKind → Type 0 = λ x. same_kind j x ≡ false in clash (sym (same_self j) ∙ subst P e h)

-- ---- constants

none_constant : (declared : List Space)
    → AllByRecursion IsDeclared declared
    → (n : ℕ)
    → n < length declared
    → kind_at declared n ≡ Constant
    → ⊥
none_constant [] h n small e = absurd (omega arith)
none_constant (s ∷ declared) h zero small e = differ Constant s.kind h.0.kind e
none_constant (s ∷ declared) h (suc n) small e = none_constant declared h.1 n (omega arith) e

-- only space 0 is a constant space
pub constant_is : (spaces : List Space)
    → AreSpaces spaces
    → (n : ℕ)
    → n < length spaces
    → kind_at spaces n ≡ Constant
    → n ≡ 0
constant_is [] h n small e = absurd h
constant_is (s ∷ declared) h zero small e = refl
constant_is (s ∷ declared) h (suc n) small e = absurd (none_constant declared h.1 n (omega arith) e)

pub first_constant : (spaces : List Space) → AreSpaces spaces → kind_at spaces 0 ≡ Constant
first_constant [] h = absurd h
first_constant (s ∷ declared) h = ap (λ x. x.kind) h.0

-- ---- sizes

declared_low : (declared : List Space)
    → AllByRecursion IsDeclared declared
    → (n : ℕ)
    → size_in (slice_get declared n) ≤ 2 ^ 64
declared_low [] h n = omega arith
declared_low (s ∷ declared) h zero =
    let power : 256 ^ s.size ≤ 256 ^ 8 = pow-le-pow_right (lit< tt) h.0.few in
    omega (arith, power)
declared_low (s ∷ declared) h (suc n) = declared_low declared h.1 n

-- a space that isn't the constant space has at most 2^64 bytes
pub low : (spaces : List Space)
    → AreSpaces spaces
    → (n : ℕ)
    → (kind_at spaces n ≡ Constant → ⊥)
    → size_in (slice_get spaces n) ≤ 2 ^ 64
low [] h n not = absurd h
low (s ∷ declared) h zero not = absurd (not (ap (λ x. x.kind) h.0))
low (s ∷ declared) h (suc n) not = declared_low declared h.1 n

-- a space has a byte
pub space_some : (l : Listing) (n : ℕ) → 0 < size_of l n
space_some l n = by (slice_get l.spaces n)
  where
    some : (k : ℕ) → 0 < 256 ^ k
    some zero = omega arith
    some (suc k) = let less : 0 < 256 ^ k = some k in grind (arith, less)

    by : (o : Option Space) → 0 < size_in o
    by None = omega arith
    by (Some s) = some s.size

-- ---- the first space of a kind

pub kind_of_first : (k : SpaceKind) (spaces : List Space)
    → 1 ≤ how_many k spaces
    → kind_at spaces (number_of k spaces) ≡ k
kind_of_first k [] h = absurd (omega arith)
kind_of_first k (s ∷ rest) h = by_kind (same_kind k s.kind) refl (kind_of_first k rest) h
  where
    by_kind : (t : Bool)
        → same_kind k s.kind ≡ t
        → (1 ≤ how_many k rest → kind_at rest (number_of k rest) ≡ k)
        → 1 ≤ (if t then suc (how_many k rest) else how_many k rest)
        → kind_at (s ∷ rest) (if t then 0 else suc (number_of k rest)) ≡ k
    by_kind true e more h = sym (same_is k s.kind e)
    by_kind false e more h = more h

none_there : (k : SpaceKind)
    → (k ≡ Constant → ⊥)
    → (spaces : List Space)
    → how_many k spaces ≡ 0
    → (n : ℕ)
    → kind_at spaces n ≡ k
    → ⊥
none_there k other [] h n e = other (sym e)
none_there k other (s ∷ rest) h n e = by_kind (same_kind k s.kind) refl (none_there k other rest) h n e
  where
    by_kind : (t : Bool)
        → same_kind k s.kind ≡ t
        → (how_many k rest ≡ 0 → (n : ℕ) → kind_at rest n ≡ k → ⊥)
        → (if t then suc (how_many k rest) else how_many k rest) ≡ 0
        → (n : ℕ) → kind_at (s ∷ rest) n ≡ k → ⊥
    by_kind true f more h n e = absurd (omega arith)
    by_kind false f more h zero e = differ k s.kind f e
    by_kind false f more h (suc n) e = more h n e

-- where there is one space of a kind, it is the first one
pub only : (k : SpaceKind)
    → (k ≡ Constant → ⊥)
    → (spaces : List Space)
    → how_many k spaces ≡ 1
    → (n : ℕ)
    → kind_at spaces n ≡ k
    → n ≡ number_of k spaces
only k other [] h n e = absurd (omega arith)
only k other (s ∷ rest) h n e = by_kind (same_kind k s.kind) refl (only k other rest) h n e
  where
    by_kind : (t : Bool)
        → same_kind k s.kind ≡ t
        → (how_many k rest ≡ 1 → (n : ℕ) → kind_at rest n ≡ k → n ≡ number_of k rest)
        → (if t then suc (how_many k rest) else how_many k rest) ≡ 1
        → (n : ℕ) → kind_at (s ∷ rest) n ≡ k → n ≡ (if t then 0 else suc (number_of k rest))
    by_kind true f more h zero e = refl
    by_kind true f more h (suc n) e = absurd (none_there k other rest (omega arith) n e)
    by_kind false f more h zero e = absurd (differ k s.kind f e)
    by_kind false f more h (suc n) e = ap suc (more h n e)
