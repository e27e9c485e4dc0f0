use Rattle.std.proofs.Common.{◌∙◌, ℕ, List, Option, None, ap, false}
use Rattle.pcode_model.specs.Spaces.{is_some}
use Rattle.run_world.specs.declared.entry.Byte.{Byte}
use Rattle.run_world.specs.Maps.{at_offset, bytes_of}
use Rattle.run_world.specs.Meaning.{first_bytes, with_offsets}
use Rattle.pcode_memory.proofs.Memory.{whole_is}
use Rattle.pcode_run.proofs.run.first_memory.Goals as goal

pub returns : goal.returns
returns c =
    let q = c.args in
    let l = q.listing.now in
    let spoils : (ℕ → Option ℕ) → _ = λ f a. is_some (f a) in
    whole_is (bytes_of c.in_ok-bytes.bytes) (first_bytes l q.entry.now.state) (at_offset c.in_ok-hidden.hidden)
    (with_offsets q.entry.now.hidden (λ o. None))
    (λ a. is_some (at_offset c.new.result a))
    (λ a. false)
    ((c.in_ok-bytes.ensures {u = tt}) ∙ ap (λ (bs : List Byte). first_bytes l bs) c.as_slice.ensures)
    ((c.in_ok-hidden.ensures {u = tt}) ∙ ap (λ (bs : List Byte). with_offsets bs (λ o. None)) c.as_slice-2.ensures)
    (ap spoils c.new.ensures)
