-- The spaces that lines name: none of them is the constant space, and where a name is known it is that of a ram space.
use Rattle.std.proofs.Common.{◌≡◌, ◌∙◌, ℕ, suc, ◌+◌, ◌≤◌, ◌^◌, Bool, true, false, List, [], ◌∷◌, refl, sym, ap, arith}
use Rattle.std.specs.Prelude.{◌&&◌, slice_get, Option, Some, IfSome, if◌then◌else◌}
use Rattle.std.specs.Str.{bytes_eq}
use Rattle.listing_lines.specs.Text.{Line}
use Rattle.pcode_model.specs.declared.listing.Listing.{Listing}
use Rattle.pcode_model.specs.declared.listing.Space.{Space}
use Rattle.pcode_model.specs.declared.listing.SpaceKind.TheVariants.{Constant, Ram, Register, Unique}
use Rattle.pcode_model.specs.Ranges.{is_kind}
use Rattle.pcode_model.specs.Spaces.{first_ram, kind_in, kind_of, register_space, same_kind, size_of, unique_space}
use Rattle.pcode_model.specs.WellFormed.{IsWellFormed}
use Rattle.run_world.proofs.Declared.{kind_at, ram_not_constant, register_not_constant, size_most, unique_not_constant}
use Rattle.entrytext.specs.Forms.{ram_from, ram_named}

-- no constant space
abbrev pub IsReal : Listing → ℕ → Type 0
IsReal l n = same_kind Constant (kind_of l n) ≡ false

pub ram_real : (l : Listing) (n : ℕ) → is_kind Ram l.spaces n ≡ true → IsReal l n
ram_real l n e = ram_not_constant (kind_of l n) e

module _ (l : Listing) (formed : IsWellFormed l) where
  pub register_real : IsReal l (register_space l)
  register_real = register_not_constant _ (kind_at Register l.spaces (omega (arith, formed.complete.register)))

  pub unique_real : IsReal l (unique_space l)
  unique_real = unique_not_constant _ (kind_at Unique l.spaces (omega (arith, formed.complete.unique)))

  pub first_ram_is : is_kind Ram l.spaces (first_ram l) ≡ true
  first_ram_is = kind_at Ram l.spaces formed.complete.ram

  pub real_size : (n : ℕ) → IsReal l n → size_of l n ≤ 2 ^ 64
  real_size n real = size_most l.spaces n formed.spaces real

next_place : (k i : ℕ) → suc k + i ≡ k + suc i
next_place k i = omega arith

ram_from_is : (all : List Space) (name : Line) (ss : List Space) (k : ℕ)
    → ((i : ℕ) → slice_get all (k + i) ≡ slice_get ss i)
    → IfSome (ram_from k name ss) (λ n. is_kind Ram all n ≡ true)
ram_from_is all name [] k at = tt
ram_from_is all name (s ∷ ss) k at =
    by_name (same_kind Ram s.kind) (bytes_eq s.name name) refl
    (ram_from_is all name ss (suc k) (λ i. ap (slice_get all) (next_place k i) ∙ at (suc i)))
  where
    here : k + 0 ≡ k
    here = omega arith

    by_name : (ram named : Bool) → same_kind Ram s.kind ≡ ram
        → IfSome (ram_from (suc k) name ss) (λ n. is_kind Ram all n ≡ true)
        → IfSome (if ram && named then Some k else ram_from (suc k) name ss) (λ n. is_kind Ram all n ≡ true)
    by_name true true e rest =
        ap (λ (o : Option Space). same_kind Ram (kind_in o)) (ap (slice_get all) (sym here) ∙ at 0) ∙ e
    by_name true false e rest = rest
    by_name false named e rest = rest

-- a name that is known is that of a ram space
pub ram_named_is : (name : Line) (ss : List Space) → IfSome (ram_named name ss) (λ n. is_kind Ram ss n ≡ true)
ram_named_is name ss = ram_from_is ss name ss 0 (λ i. ap (slice_get ss) (from_zero i))
  where
    from_zero : (i : ℕ) → 0 + i ≡ i
    from_zero i = omega arith
