use Rattle.std.proofs.Common.{◌≡◌, ◌∙◌, ap, subst, sym}
use Rattle.std.proofs.lemmas.Result.{IfOk-weaker}
use Rattle.pcode_model.specs.declared.listing.Listing.{Listing}
use Rattle.pcode_model.specs.declared.frame.Frame.{Frame}
use Rattle.pcode_run.specs.Run.{OwnsFirstRam}
use Rattle.pcode_run.proofs.Owning.{owns_ram}
use Rattle.machine.specs.Machine.{seen}
use Rattle.pcode_model.specs.Memory.{whole}
use Rattle.pcode_model.specs.Step.{machine, seen_p}
use Rattle.pcode_memory.specs.Context.{frame_in, layout_of}
use Rattle.pcode_model.specs.Frame.{frame_of}
use Rattle.run_world.specs.declared.trace.Trace.{Trace}
use Rattle.run_world.specs.Meaning.{entry_of, trace_of}
use Rattle.pcode_operands.specs.State.{state_of}
use Rattle.pcode_run.proofs.Turning.{seen_is}
use Rattle.pcode_run.proofs.run.run_p.Goals as goal

pub run_from-requires-clause-owns : goal.run_from-requires-clause-owns
run_from-requires-clause-owns c =
    let q = c.args in
    let made = c.in_ok-context.ensures {u = tt} in
    let P : Listing → Type 0 = λ l. OwnsFirstRam l (frame_of l q.frame.now) in
    let Q : Frame → Type 0 =
    λ f. OwnsFirstRam c.in_ok-context.context.listing.now (frame_of c.in_ok-context.context.listing.now f) in
    subst Q (sym made.frame) (subst P (sym made.listing) (owns_ram q.listing.now q.frame.now c.requires.owns))

pub returns : goal.returns
returns c =
    let q = c.args in
    let made = c.in_ok-context.ensures {u = tt} in
    let y = c.in_ok-context.context in
    let s = state_of y c.in_ok-state.state in
    let e = entry_of q.listing.now q.entry.now in
    let P : Trace → Type 0 = λ t. trace_of t ≡ seen (machine (whole (layout_of y)) y.listing.now (frame_in y)) s q.n in
    let Q : Trace → Type 0 = λ t. trace_of t ≡ seen_p q.listing.now (frame_of q.listing.now q.frame.now) e q.n in
    IfOk-weaker c.run_from.result P Q
    (λ t is. is
    ∙ seen_is (layout_of y) q.listing.now y.listing.now (frame_of q.listing.now q.frame.now) (frame_in y)
    e s q.n made.layout made.listing
    (ap (λ (f : Frame). frame_of y.listing.now f) made.frame
    ∙ ap (λ (l : Listing). frame_of l q.frame.now) made.listing)
    ((c.in_ok-state.ensures {u = tt}).state y made.answers))
    c.run_from.ensures
