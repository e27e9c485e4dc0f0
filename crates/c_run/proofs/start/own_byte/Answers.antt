use Rattle.std.proofs.Common.{◌+◌, ◌%◌, ap, ◌∙◌}
use Rattle.pcode_model.specs.Spaces.{first_ram, size_of}
use Rattle.pcode_model.specs.Step.{stack0}
use Rattle.run_world.specs.Maps.{at_offset, bytes_of}
use Rattle.run_world.specs.Setting.{size}
use Rattle.c_run.specs.States.{entry_at}
use Rattle.c_run.proofs.Starts.{own_hidden, own_shown}
use Rattle.c_run.proofs.start.own_byte.Goals as goal

pub returns-in-Some : goal.returns-in-Some
returns-in-Some c =
    let l = c.args.context.now.listing.now in
    own_hidden (at_offset c.args.origin.now.hidden) (bytes_of c.args.origin.now.memory) (first_ram l)
    (stack0 l (entry_at c.args.origin.now)) (size_of l (first_ram l)) (size c.args.shape) c.args.offset
    c.args.origin.now.stack c.reduce-at.result
    c.in-Some.byte c.get.result c.requires.shape.size c.requires.origin.stack
    (c.reduce-at.ensures.value
    ∙ ap (λ z. (z + c.from-2.result) % size c.args.shape) c.from.ensures
    ∙ ap (λ z. (c.args.origin.now.stack + z) % size c.args.shape) c.from-2.ensures)
    c.get.ensures c.in-Some.is

pub returns-in-None : goal.returns-in-None
returns-in-None c =
    let l = c.args.context.now.listing.now in
    own_shown (at_offset c.args.origin.now.hidden) (bytes_of c.args.origin.now.memory) (first_ram l)
    c.args.context.now.setting.first_ram (stack0 l (entry_at c.args.origin.now)) (size_of l (first_ram l))
    (size c.args.shape) c.args.offset c.args.origin.now.stack c.reduce-at.result
    c.byte.result c.get.result c.requires.shape.size c.requires.origin.stack
    (c.reduce-at.ensures.value
    ∙ ap (λ z. (z + c.from-2.result) % size c.args.shape) c.from.ensures
    ∙ ap (λ z. (c.args.origin.now.stack + z) % size c.args.shape) c.from-2.ensures)
    c.get.ensures c.in-None.is
    c.requires.context.setting.first_ram c.byte.ensures
