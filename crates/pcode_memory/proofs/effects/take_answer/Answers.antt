use Rattle.std.proofs.Common.{◌≡◌, ◌+◌, ◌∙◌, List, sym, ap}
use Rattle.pcode_model.specs.Memory.{Whole}
use Rattle.pcode_model.specs.World.{Took}
use Rattle.run_world.specs.declared.entry.Byte.{Byte}
use Rattle.run_world.specs.Log.{world_of}
use Rattle.run_world.specs.Meaning.{answer_of}
use Rattle.pcode_memory.specs.Context.{layout_of, whole_of}
use Rattle.pcode_memory.specs.Effects.{concealed, first_refused, poked}
use Rattle.pcode_memory.proofs.Acting.{take_refused, take_made}
use Rattle.pcode_memory.proofs.effects.take_answer.Goals as goal

pub returns-in-Some-first_refused : goal.returns-in-Some-first_refused
returns-in-Some-first_refused c =
    let y = layout_of c.args.context.now in
    let a = c.in-Some.answer.now in
    sym (take_refused y (whole_of c.args.memory.now) c.args.context.now.answers.now c.args.log.now a
    c.in-Some-first_refused.end c.in-Some.ensures.lookup.3.0 c.in-Some.ensures.lookup.1
    (ap (first_refused y) (sym c.as_slice.ensures) ∙ sym c.first_refused.ensures ∙ c.in-Some-first_refused.is))

pub returns : goal.returns
returns c =
    let y = layout_of c.args.context.now in
    let a = c.in-Some.answer.now in
    let log = c.args.log.now in
    let memory : whole_of c.hide_bytes.new.memory
    ≡ concealed y a.hidden (poked c.args.context.now.listing.now a.memory (whole_of c.args.memory.now)) =
    c.in_ok-hide_bytes.ensures
    ∙ ap (λ (bs : List Byte). concealed y bs (whole_of c.write_bytes.new.memory)) c.as_slice-3.ensures
    ∙ ap (concealed y a.hidden) (c.in_ok-write_bytes.ensures
    ∙ ap (λ (bs : List Byte). poked c.args.context.now.listing.now bs (whole_of c.args.memory.now))
    c.as_slice-2.ensures) in
    ap
    (λ (w : Whole). Took (answer_of a) (world_of w c.args.context.now.answers.now
    (record { taken = log.taken + 1; events = log.events; end = log.end })))
    memory
    ∙ sym
    (take_made y (whole_of c.args.memory.now) c.args.context.now.answers.now log a c.in-Some.ensures.lookup.3.0
    c.in-Some.ensures.lookup.1
    (ap (first_refused y) (sym c.as_slice.ensures) ∙ sym c.first_refused.ensures ∙ c.in_default-first_refused.is))
