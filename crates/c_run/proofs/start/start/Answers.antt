use Rattle.std.proofs.Common.{[], List, ap, ◌∙◌, None}
use Rattle.cmeaning.specs.declared.tree.Param.{Param}
use Rattle.cvalue.specs.Held.{env_of}
use Rattle.run_world.specs.declared.entry.Byte.{Byte}
use Rattle.run_world.specs.Maps.{at_offset, bytes_of}
use Rattle.run_world.specs.Meaning.{first_bytes, with_offsets}
use Rattle.c_run.specs.States.{left_of}
use Rattle.c_run.proofs.Starts.{left_none, start_is, words_at}
use Rattle.c_run.proofs.start.start.Goals as goal

pub returns-clause-means : goal.returns-clause-means
returns-clause-means c =
    let l = c.args.context.now.listing.now in
    let bytes = bytes_of c.in_ok-memory.memory in
    let hidden = at_offset c.in_ok-of_bytes.field-0 in
    start_is l c.args.f.now c.args.entry.now (env_of c.assign_params.new.variables.words.items)
    (left_of c.new-2.result) bytes hidden c.new-3.result
    (c.in_ok-assign_params.ensures.words ∙ ap (λ (ps : List Param). words_at l bytes hidden [] ps) c.as_slice-3.ensures)
    (left_none (at_offset c.new-2.result) c.new-2.ensures)
    (c.in_ok-memory.ensures ∙ ap (first_bytes l) c.as_slice.ensures)
    (c.in_ok-of_bytes.ensures ∙ ap (λ (bs : List Byte). with_offsets bs (λ o. None)) c.as_slice-2.ensures)
    c.new-3.ensures
