-- What is proved of the way out of SSA. Each law is the contract of a function of its name.
use Rattle.machine.specs.Trace.{Undefined}
use Rattle.machine.specs.TwoWay.{TwoWay, NeverEnds}
use Rattle.pcode_model.specs.declared.listing.Listing.{Listing}
use Rattle.pcode_model.specs.World.{Entry}
use Rattle.blockcode.specs.Run.{seen_code}
use Rattle.edges.specs.Run.{seen_blocks}
use Rattle.edges.specs.Live.{IsDefined}
use Rattle.ssa_model.specs.declared.form.Parts.{Parts}
use Rattle.ssa_model.specs.Run.{seen_ssa}
use Rattle.ssa_laws.specs.Law.{NoneAtEntry}
use Rattle.leaving_laws.specs.Copied.{copied_blocks}
use Rattle.leaving_laws.specs.Left.{placed_code}

-- No run of the function ends Undefined, where no MULTIEQUAL stands in the block where it begins.
abbrev pub IsDefinedFunction : Listing → Parts → Type 0
IsDefinedFunction l p = NoneAtEntry p → (e : Entry) → NeverEnds Undefined (seen_ssa l p e)

-- The function and the function with copies in the place of its MULTIEQUALs show the same, and the second doesn't end
-- Undefined either.
pub record AreCopies (l : Listing) (p : Parts) (e : Entry) : Type 0 where
  pub shows : TwoWay (seen_ssa l p e) (seen_blocks l (copied_blocks l p) e)
  pub defined : IsDefined l (copied_blocks l p) e

abbrev pub MultiequalsAreCopies : Listing → Parts → Type 0
MultiequalsAreCopies l p = NoneAtEntry p → (e : Entry) → AreCopies l p e

-- The function and its code show the same, and the code doesn't end Undefined either. In this code each division is
-- still a statement.
pub record IsCode (l : Listing) (p : Parts) (e : Entry) : Type 0 where
  pub shows : TwoWay (seen_ssa l p e) (seen_code l (placed_code l p) e)
  pub defined : NeverEnds Undefined (seen_code l (placed_code l p) e)

abbrev pub FunctionsAreCode : Listing → Parts → Type 0
FunctionsAreCode l p = NoneAtEntry p → (e : Entry) → IsCode l p e
