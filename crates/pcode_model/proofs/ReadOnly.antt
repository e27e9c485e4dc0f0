-- Read-only bytes.
use Rattle.std.proofs.Common.{◌≡◌, ◌<◌, ◌-◌, ℕ, Bool, true, false, cond, List, [], ◌∷◌, zero, suc, Option, Some, None, subst}
use Rattle.std.specs.Prelude.{slice_get, IfSome}
use Rattle.std.specs.List.{AllByRecursion}
use Rattle.pcode_model.specs.declared.listing.Fixed.{Fixed}
use Rattle.pcode_model.specs.declared.listing.Listing.{Listing}
use Rattle.pcode_model.specs.declared.listing.Space.{Space}
use Rattle.pcode_model.specs.Spaces.{fixed_byte, fixed_in}
use Rattle.pcode_model.specs.WellFormed.{IsFixed, IsWellFormed}

abbrev IsByte : ℕ → Type 0
IsByte b = b < 256

get_small : (bytes : List ℕ) (n : ℕ) → AllByRecursion IsByte bytes → IfSome (slice_get bytes n) IsByte
get_small [] n all = tt
get_small (b ∷ bytes) zero all = all.0
get_small (b ∷ bytes) (suc n) all = get_small bytes n all.1

in_small : (spaces : List Space) (fixed : List Fixed) (s o : ℕ)
    → AllByRecursion (IsFixed spaces) fixed
    → IfSome (fixed_in fixed s o) IsByte
in_small spaces [] s o all = tt
in_small spaces (f ∷ fixed) s o all =
    by_place _ _ _ (get_small f.bytes (o - f.offset) all.0.bytes) (in_small spaces fixed s o all.1)
  where
    by_place : (here : Bool) (x y : Option ℕ) → IfSome x IsByte → IfSome y IsByte → IfSome (cond here x y) IsByte
    by_place true x y h g = h
    by_place false x y h g = g

-- What a read-only byte holds is a byte.
pub fixed_small : (l : Listing) → IsWellFormed l → (s o b : ℕ) → fixed_byte l s o ≡ Some b → b < 256
fixed_small l formed s o b is = subst (λ x. IfSome x IsByte) is (in_small l.spaces l.fixed s o formed.fixed)
