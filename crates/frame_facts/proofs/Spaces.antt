-- The register space and the unique space are of their kinds, and a space is of one kind.
use Rattle.std.proofs.Common.{◌≡◌, ℕ, sym, ap, ◌∙◌, arith}
use Rattle.pcode_model.specs.declared.listing.SpaceKind.TheVariants.{Register, Unique}
use Rattle.pcode_model.specs.declared.listing.Listing.{Listing}
use Rattle.pcode_model.specs.Spaces.{kind_of, register_space, unique_space}
use Rattle.pcode_model.specs.WellFormed.{IsWellFormed}
use Rattle.pcode_laws.proofs.SpaceKinds.{first_is}

module _ (l : Listing) (read : IsWellFormed l) where
  pub register_is : kind_of l (register_space l) ≡ Register
  register_is = first_is Register l.spaces (omega (arith, read.complete.register))

  pub unique_is : kind_of l (unique_space l) ≡ Unique
  unique_is = first_is Unique l.spaces (omega (arith, read.complete.unique))

  -- a register range and a unique one have different spaces
  pub spaces_differ : (s : ℕ) → kind_of l s ≡ Register → s ≡ unique_space l → ⊥
  spaces_differ s e f =
      let g : kind_of l s ≡ Unique = ap (kind_of l) f ∙ unique_is in
      let h : Register ≡ Unique = sym e ∙ g in
      cc
