-- The width of the result of a listing that was read and whose ops obey their rules.
use Rattle.std.proofs.Common.{◌≡◌, Option, Some, None, refl, ap}
use Rattle.std.specs.Prelude.{IfSome}
use Rattle.std.specs.Option.{option_map}
use Rattle.bits_core.specs.declared.word.Width.{Width}
use Rattle.pcode_model.specs.declared.listing.Listing.{Listing}
use Rattle.pcode_model.specs.declared.listing.Varnode.{Varnode}
use Rattle.pcode_model.specs.Rules.{first_bad}
use Rattle.pcode_model.specs.Step.{proto_of}
use Rattle.pcode_model.specs.WellFormed.{IsStorage, IsWellFormed}
use Rattle.op_code.specs.Lowered.{result_width}
use Rattle.op_values.specs.Nodes.{width_by, width_of_range}
use Rattle.op_values.proofs.Means.{nearest_is}
use Rattle.plain_form.proofs.Read.{proto_is}

module _ (l : Listing) (read : IsWellFormed l) (good : first_bad l ≡ None) where
  width_is : (v : Varnode) → IsStorage l.spaces v → (width_by v.size).bytes ≡ v.size
  width_is v h = nearest_is v.size h.register.some h.few

  -- The width of the function's result is that of its prototype's.
  pub gives_is : option_map (λ (width : Width). width.bytes) (result_width l)
      ≡ option_map (λ (range : Varnode). range.size) (proto_of l None).gives
  gives_is = by (proto_of l None).gives (proto_is l read good).gives
    where
      by : (gives : Option Varnode)
          → IfSome gives (IsStorage l.spaces)
          → option_map (λ (width : Width). width.bytes) (width_of_range gives)
          ≡ option_map (λ (range : Varnode). range.size) gives
      by None h = refl
      by (Some v) h = ap Some (width_is v h)
