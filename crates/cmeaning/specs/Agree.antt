-- When a C function means what a listing means. This project's own.
use Rattle.machine.specs.Agree.{Agree}
use Rattle.pcode_model.specs.declared.listing.Listing.{Listing}
use Rattle.pcode_model.specs.Spaces.{is_some}
use Rattle.pcode_model.specs.Memory.{Frame}
use Rattle.pcode_model.specs.World.{Entry, IsEntry}
use Rattle.pcode_model.specs.Step.{seen_p}
use Rattle.cmeaning.specs.declared.tree.CFunction.{CFunction}
use Rattle.cmeaning.specs.Step.{seen_c}

-- For every entry of the listing its run, whose frame variables are those of `frame`, agrees with the C function's run.
-- Words of returns are compared where the function gives a result.
abbrev pub AgreesWith : Listing → Frame → CFunction → Type 0
AgreesWith l frame f = (e : Entry) → IsEntry l e → Agree (is_some f.gives) (seen_p l frame e) (seen_c l f e)
