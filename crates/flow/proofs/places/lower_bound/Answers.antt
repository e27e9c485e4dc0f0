use Rattle.std.proofs.Common.{ℕ, ◌+◌, ◌-◌, ◌<◌, ◌/◌, arith, refl}
use Rattle.std.proofs.lemmas.Bool.{false≢true}
use Rattle.pcode_model.specs.Places.{place}
use Rattle.flow.specs.Slots.{at}
use Rattle.flow.proofs.Order.{bounding_up, bounding_down, not_under}
use Rattle.flow.proofs.places.lower_bound.Goals as goal

pub loop-low-preserved-then-comes_before : goal.loop-low-preserved-then-comes_before
loop-low-preserved-then-comes_before c =
    let m : ℕ = c.loop-low.low + (c.loop-low.high - c.loop-low.low) / 2 in
    let lt : m < c.loop-low.high = omega arith in
    bounding_up c.args.places.now (place c.args.address c.args.index) c.loop-low.low c.loop-low.high m c.requires
    c.loop-low.invariant lt ((c.if-comes_before.ensures {u = tt}).0 refl)

pub loop-low-preserved : goal.loop-low-preserved
loop-low-preserved c =
    let m : ℕ = c.loop-low.low + (c.loop-low.high - c.loop-low.low) / 2 in
    let lt : m < c.loop-low.high = omega arith in
    bounding_down c.args.places.now (place c.args.address c.args.index) c.loop-low.low c.loop-low.high m c.requires
    c.loop-low.invariant (omega arith) lt
    (not_under (place c.args.address c.args.index) (at c.args.places.now m)
    (λ h. false≢true ((c.if-comes_before.ensures {u = tt}).1 h)))
