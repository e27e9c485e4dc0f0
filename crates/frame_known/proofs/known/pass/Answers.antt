use Rattle.std.proofs.Common.{subst, sym}
use Rattle.std.specs.Prelude.{IfSome}
use Rattle.frame_known.specs.Rows.{IsRow}
use Rattle.frame_known.specs.Entering.{AreLong}
use Rattle.frame_known.proofs.known.pass.Goals as goal

pub leave-requires-clause-long : goal.leave-requires-clause-long
leave-requires-clause-long c =
    let s = c.args.slots.now in
    let fine : IsRow s c.in-Some.out = subst (λ o. IfSome o (IsRow s)) c.in-Some.is (c.in_ok-out.ensures {u = tt}).row in
    subst (λ k. AreLong k c.args.rows.now.items) (sym fine.long) c.requires.long
