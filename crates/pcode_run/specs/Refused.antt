-- When a run isn't carried out. This project's own.
use Rattle.std.specs.Prelude.{◌≡◌, Some}
use Rattle.pcode_model.specs.declared.listing.Listing.{Listing}
use Rattle.pcode_model.specs.Rules.{first_bad}
use Rattle.pcode_model.specs.declared.frame.Frame.{Frame}
use Rattle.pcode_run.specs.Run.{LiesInRam}
use Rattle.pcode_run.specs.declared.listing_run.NoRun.{NoRun}
use Rattle.pcode_run.specs.declared.listing_run.NoRun.TheVariants.{BadFrame, BadOp, Memory}

-- the reason holds; want of memory is none of the listing's
abbrev pub IsRefused : Listing → Frame → NoRun → Type 0
IsRefused l f (BadOp fault) = first_bad l ≡ Some fault
IsRefused l f BadFrame = LiesInRam l f → ⊥
IsRefused l f Memory = Unit {0}
