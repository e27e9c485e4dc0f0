use Rattle.std.proofs.Common.{ap, sym, ◌∙◌}
use Rattle.std.specs.Option.{option_copied}
use Rattle.pcode_run.proofs.Protos.{callee_proto}
use Rattle.pcode_run.proofs.callees.called_at.Goals as goal

pub proto_at-requires : goal.proto_at-requires
proto_at-requires c =
    callee_proto c.args.listing.now c.args.address c.in-Some.f.now c.requires
    (sym c.callee_at.ensures ∙ ap option_copied c.in-Some.is)

pub own_proto-requires : goal.own_proto-requires
own_proto-requires c = c.requires.func.proto
