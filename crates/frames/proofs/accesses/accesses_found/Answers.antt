use Rattle.std.proofs.Common.{List, [], subst, sym}
use Rattle.pcode_model.specs.declared.frame.FrameAccess.{FrameAccess}
use Rattle.frame_facts.specs.Accesses.{IsFrameAccess}
use Rattle.frame_facts.specs.Listed.{IsAccessBefore, Lists}
use Rattle.frames.proofs.Whole.{accesses_listed}
use Rattle.frames.proofs.accesses.accesses_found.Goals as goal

pub returns : goal.returns
returns c =
    let l = c.args.listing.now in
    let P : List FrameAccess → Type 0 = λ xs. Lists (IsFrameAccess l [] []) IsAccessBefore xs in
    subst P (sym (c.in_ok-found.ensures {u = tt}))
    (accesses_listed l c.args.blocks.now c.args.known.now c.requires.known c.requires.flow)
