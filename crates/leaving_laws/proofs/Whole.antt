-- A function and its code, by way of the function with copies.
use Rattle.machine.specs.Trace.{Undefined}
use Rattle.machine.specs.TwoWay.{TwoWay}
use Rattle.machine.proofs.TwoWay.{two_way_trans, never_ends_along}
use Rattle.pcode_model.specs.declared.listing.Listing.{Listing}
use Rattle.pcode_model.specs.World.{Entry}
use Rattle.blockcode.specs.Run.{seen_code}
use Rattle.edges.specs.Run.{seen_blocks}
use Rattle.opgraph.specs.Graph.{IsWhole}
use Rattle.ssa_model.specs.declared.form.Parts.{Parts}
use Rattle.ssa_model.specs.Outline.{form}
use Rattle.ssa_model.specs.Edits.{IsSsa}
use Rattle.ssa_model.specs.Run.{seen_ssa}
use Rattle.ssa_laws.specs.Law.{NoneAtEntry}
use Rattle.leaving_laws.specs.Copied.{copied_blocks}
use Rattle.leaving_laws.specs.Left.{placed_code}
use Rattle.leaving_laws.specs.Laws.{AreCopies, IsCode}
use Rattle.leaving_laws.proofs.Strict.{function_defined}
use Rattle.leaving_laws.proofs.Copies.{are_copies}
use Rattle.leaving_laws.proofs.Placing.{placed_shows}

module _ (l : Listing) (p : Parts) (e : Entry) (whole : IsWhole p.graph) (ssa : IsSsa (form p)) where
  -- The code shows what the function shows.
  pub is_code : NoneAtEntry p → IsCode l p e
  is_code none = record {
    shows = both;
    defined =
        never_ends_along Undefined (seen_ssa l p e) (seen_code l (placed_code l p) e) both
        (function_defined l p e whole ssa none);
  }
    where
      copies : AreCopies l p e
      copies = are_copies l p e whole ssa none

      both : TwoWay (seen_ssa l p e) (seen_code l (placed_code l p) e)
      both =
          two_way_trans (seen_ssa l p e) (seen_blocks l (copied_blocks l p) e) (seen_code l (placed_code l p) e)
          copies.shows (placed_shows l p e whole ssa copies.defined)
