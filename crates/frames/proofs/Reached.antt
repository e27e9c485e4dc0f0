-- The accesses of a call's arguments, one after the other.
use Rattle.std.proofs.Common.{◌≡◌, ℕ, suc, ◌+◌, List, [], ◌∷◌, ◌++◌, Some, sym, ap, ◌∙◌, append-nil, arith}
use Rattle.pcode_model.specs.declared.frame.FrameAccess.{FrameAccess}
use Rattle.pcode_model.specs.declared.listing.Place.{Place}
use Rattle.pcode_model.specs.declared.listing.Storage.{Storage}
use Rattle.pcode_model.specs.declared.listing.Storage.TheVariants.{At, Stack}
use Rattle.pcode_model.specs.declared.listing.Varnode.{Varnode}
use Rattle.pcode_model.specs.declared.listing.Listing.{Listing}
use Rattle.pcode_model.specs.Step.{argument, arguments}
use Rattle.frame_facts.specs.Accesses.{reach, stack_reaches}
use Rattle.frame_known.specs.declared.slots.Slots.{Slots}
use Rattle.frame_known.specs.Rows.{Row, offset_of}
use Rattle.frames.specs.Walk.{access_in, accesses_of}

module _ (l : Listing) (s : Slots) (row : Row) (p : Place) (sp : Varnode) where
  abbrev of_arguments : ℕ → List Storage → List FrameAccess
  of_arguments n xs = accesses_of l s row p (stack_reaches (Some sp) (arguments n xs))

  pub one_argument : (n : ℕ) (a : Storage) (rest : List Storage)
      → of_arguments n (a ∷ rest)
      ≡ accesses_of l s row p (stack_reaches (Some sp) (argument n a ∷ [])) ++ of_arguments (n + 1) rest
  one_argument n (At v) rest = ap (λ k. of_arguments k rest) (let e : suc n ≡ n + 1 = omega arith in e)
  one_argument n (Stack offset size) rest =
      let here = access_in l p (reach n sp offset size) (offset_of s row sp) in
      ap (λ k. here ++ of_arguments k rest) (let e : suc n ≡ n + 1 = omega arith in e)
      ∙ ap (λ xs. xs ++ of_arguments (n + 1) rest) (sym (append-nil here))
