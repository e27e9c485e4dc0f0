use Rattle.std.proofs.Common.{rules}
use Rattle.generator.specs.Generated.{generated}
use Rattle.pipeline.proofs.Numbered.{built, formed, never_stops, obeys}
use Rattle.pipeline.proofs.generated.accept_generated.Goals as goal

pub blocks-requires : goal.blocks-requires
blocks-requires c = record { formed = formed c.args.number c.in_ok-listing.listing c.in_ok-listing.ensures }

pub variables-requires-clause-formed : goal.variables-requires-clause-formed
variables-requires-clause-formed c = formed c.args.number c.in_ok-listing.listing c.in_ok-listing.ensures

pub variables-requires-clause-ops : goal.variables-requires-clause-ops
variables-requires-clause-ops c = obeys c.args.number c.in_ok-listing.listing c.in_ok-listing.ensures

pub returns-in_err-flow-clause-memory : goal.returns-in_err-flow-clause-memory
returns-in_err-flow-clause-memory c =
    let memory =
    never_stops c.args.number c.in_ok-listing.listing c.in_ok-listing.ensures _ c.in_err-flow.ensures.stops in
    search (rules, memory)

pub frame-requires-clause-read : goal.frame-requires-clause-read
frame-requires-clause-read c = formed c.args.number c.in_ok-listing.listing c.in_ok-listing.ensures

pub frame-requires-clause-ops : goal.frame-requires-clause-ops
frame-requires-clause-ops c = obeys c.args.number c.in_ok-listing.listing c.in_ok-listing.ensures

pub returns-in_err-atoms-clause-memory : goal.returns-in_err-atoms-clause-memory
returns-in_err-atoms-clause-memory c =
    let memory =
    never_stops c.args.number c.in_ok-listing.listing c.in_ok-listing.ensures _ c.in_err-atoms.ensures.stops in
    search (rules, memory)

pub returns-clause-passed : goal.returns-clause-passed
returns-clause-passed c =
    let l = c.in_ok-listing.listing in
    record {
      read = formed c.args.number l c.in_ok-listing.ensures;
      ops = obeys c.args.number l c.in_ok-listing.ensures;
      built = built c.args.number l c.in_ok-listing.ensures;
      blocks = c.in_ok-flow.ensures.blocks;
      no_fault = c.in_ok-flow.ensures.no_fault;
      few_blocks = c.in_ok-flow.ensures.few;
      frame = c.in_ok-frame.ensures.frame;
      atoms = c.in_ok-atoms.ensures.atoms;
      few_atoms = c.in_ok-atoms.ensures.few;
    }
