use Rattle.std.proofs.Common.{List, [], subst, sym}
use Rattle.pcode_model.specs.declared.frame.OffsetFact.{OffsetFact}
use Rattle.frame_facts.specs.Listed.{IsFactBefore, IsListedFact, Lists}
use Rattle.frames.proofs.Whole.{facts_listed}
use Rattle.frames.proofs.facts.facts_found.Goals as goal

pub returns : goal.returns
returns c =
    let l = c.args.listing.now in
    let P : List OffsetFact → Type 0 = λ xs. Lists (IsListedFact l []) IsFactBefore xs in
    subst P (sym (c.in_ok-facts.ensures {u = tt}))
    (facts_listed l c.args.blocks.now c.args.known.now c.requires.known c.requires.flow)
