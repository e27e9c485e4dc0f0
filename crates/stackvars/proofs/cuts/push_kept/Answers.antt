use Rattle.std.proofs.Common.{◌∙◌, ◌+◌, ◌++◌, List, ap, append_assoc, drop, sym, arith}
use Rattle.pcode_model.specs.declared.listing.Proto.{Proto}
use Rattle.pcode_model.specs.declared.listing.Varnode.{Varnode}
use Rattle.pcode_model.specs.Atoms.{kept_ranges, registers_at}
use Rattle.pcode_model.proofs.Members.{rest_at}
use Rattle.stackvars.specs.declared.sweep.Mark.{Mark}
use Rattle.stackvars.specs.Cuts.{more_cuts}
use Rattle.stackvars.proofs.Marked.{cuts_of_both}
use Rattle.stackvars.proofs.cuts.push_kept.Goals as goal

pub loop-proto-preserved : goal.loop-proto-preserved
loop-proto-preserved c =
    let protos : List Proto = c.args.protos.now in
    let i = c.loop-proto.proto-index in
    let proto : Proto = c.proto-item.result in
    let rest : List Proto = drop (i + 1) protos in
    let out : List Mark = c.loop-proto.marks.items in
    let here = rest_at protos i proto (omega arith) c.proto-item.is in
    let split = cuts_of_both (registers_at proto.keep) (kept_ranges rest) in
    ap (λ (ms : List Mark). ms ++ more_cuts (kept_ranges rest)) c.in_ok-push_registers.ensures
    ∙ (ap (λ (vs : List Varnode). (out ++ more_cuts (registers_at vs)) ++ more_cuts (kept_ranges rest)) c.as_slice.ensures
    ∙ (append_assoc out _ _
    ∙ (ap (λ (ms : List Mark). out ++ ms) (sym split)
    ∙ (ap (λ (ps : List Proto). out ++ more_cuts (kept_ranges ps)) (sym here)
    ∙ c.loop-proto.invariant))))
