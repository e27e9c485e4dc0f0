use Rattle.std.proofs.Common.{[], List, sym, subst}
use Rattle.std.specs.Prelude.{ℤ, ◌<ℤ◌}
use Rattle.std.specs.List.{AllByRecursion}
use Rattle.pcode_model.specs.declared.frame.FrameAccess.{FrameAccess}
use Rattle.pcode_model.specs.declared.frame.OffsetFact.{OffsetFact}
use Rattle.stackvars.specs.Near.{IsNearAccess}
use Rattle.frame_classes.specs.Runs.{HasBytes}
use Rattle.frame_facts.specs.Listed.{IsEscape, IsFactBefore, IsListedFact, Lists}
use Rattle.frames.proofs.Near.{listed_near, listed_some}
use Rattle.frames.proofs.listing_frame.frame.Goals as goal

pub variables-requires-clause-near : goal.variables-requires-clause-near
variables-requires-clause-near c =
    subst (λ (xs : List FrameAccess). AllByRecursion IsNearAccess xs) (sym c.deref.ensures.value)
    (listed_near c.args.listing.now c.requires.read c.requires.ops [] [] c.in_ok-accesses.accesses.items
    (c.in_ok-accesses.ensures {u = tt}))

pub variables-requires-clause-some : goal.variables-requires-clause-some
variables-requires-clause-some c =
    subst (λ (xs : List FrameAccess). AllByRecursion HasBytes xs) (sym c.deref.ensures.value)
    (listed_some c.args.listing.now c.requires.read c.requires.ops [] [] c.in_ok-accesses.accesses.items
    (c.in_ok-accesses.ensures {u = tt}))

pub returns : goal.returns
returns c =
    let l = c.args.listing.now in
    record {
      frame = record {
        facts = subst (λ (xs : List OffsetFact). Lists (IsListedFact l []) IsFactBefore xs) (sym c.from_vec.ensures)
            (c.in_ok-facts.ensures {u = tt});
        escapes = subst (λ (xs : List ℤ). Lists (IsEscape l []) ◌<ℤ◌ xs) (sym c.from_vec-2.ensures)
            (c.in_ok-escapes.ensures {u = tt});
        accesses = c.in_ok-classes.ensures.accesses;
        variables = c.in_ok-classes.ensures.variables;
      };
    }
