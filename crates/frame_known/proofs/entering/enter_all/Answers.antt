use Rattle.std.proofs.Common.{ℕ, List, get_or, take, subst, sym}
use Rattle.std.proofs.lemmas.List.{take_more}
use Rattle.frame_known.proofs.Brought.{Bringing, bringing_more}
use Rattle.frame_known.proofs.entering.enter_all.Goals as goal

pub loop-target-preserved : goal.loop-target-preserved
loop-target-preserved c =
    let ts = c.args.targets.now in
    let i = c.loop-target.target-index in
    let P : List ℕ → Type 0 =
    λ ms. Bringing c.args.out.now ms c.args.rows.now.items c.args.waits.now.items c.enter.new.rows.items
    c.enter.new.waits.items in
    subst P (sym (take_more ts i 0 c.loop-target-test.true))
    (bringing_more c.args.out.now (take i ts) c.args.rows.now.items c.args.waits.now.items c.loop-target.rows.items
    c.loop-target.waits.items (get_or ts i 0) c.enter.new.rows.items c.enter.new.waits.items c.loop-target.invariant
    (c.in_ok-enter.ensures {u = tt}))
