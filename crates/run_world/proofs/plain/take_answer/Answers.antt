use Rattle.std.proofs.Common.{◌≡◌, ◌+◌, ◌∙◌, sym, ap, List}
use Rattle.std.specs.List.{list_any}
use Rattle.pcode_model.specs.Memory.{Bytes}
use Rattle.pcode_model.specs.Spaces.{is_fixed}
use Rattle.pcode_model.specs.World.{Took}
use Rattle.run_world.specs.declared.entry.Byte.{Byte}
use Rattle.run_world.specs.Log.{world_of}
use Rattle.run_world.specs.Maps.{bytes_of}
use Rattle.run_world.specs.Meaning.{answer_of, poked}
use Rattle.run_world.proofs.Effects.{take_refused, take_made}
use Rattle.run_world.proofs.plain.take_answer.Goals as goal

pub returns-then-refuses : goal.returns-then-refuses
returns-then-refuses c =
    sym (take_refused c.args.listing.now (bytes_of c.args.memory.now) c.args.answers.now c.args.log.now
    c.in-Some.answer.now c.in-Some.ensures.lookup.3.0 c.in-Some.ensures.lookup.1
    (ap (list_any (λ b. is_fixed c.args.listing.now b.space b.offset)) (sym c.as_slice.ensures)
    ∙ sym c.refuses.ensures
    ∙ c.if-refuses.true))

pub returns : goal.returns
returns c =
    let log = c.args.log.now in
    let memory : bytes_of c.write_bytes.new.memory
    ≡ poked c.in-Some.answer.now.memory (bytes_of c.args.memory.now) =
    c.in_ok-write_bytes.ensures
    ∙ ap (λ (bs : List Byte). poked bs (bytes_of c.args.memory.now)) c.as_slice-2.ensures in
    ap
    (λ (m : Bytes). Took (answer_of c.in-Some.answer.now) (world_of m c.args.answers.now
    (record { taken = log.taken + 1; events = log.events; end = log.end })))
    memory
    ∙ sym (take_made c.args.listing.now (bytes_of c.args.memory.now) c.args.answers.now c.args.log.now
    c.in-Some.answer.now c.in-Some.ensures.lookup.3.0 c.in-Some.ensures.lookup.1
    (ap (list_any (λ b. is_fixed c.args.listing.now b.space b.offset)) (sym c.as_slice.ensures)
    ∙ sym c.refuses.ensures
    ∙ c.if-refuses.false))
