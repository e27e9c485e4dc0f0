use Rattle.std.proofs.Common.{ℕ, subst}
use Rattle.pcode_model.specs.Places.{place}
use Rattle.flow.specs.Slots.{IsLowerBound}
use Rattle.flow.proofs.Order.{bound_of_member}
use Rattle.flow.proofs.blocks.number.Goals as goal

pub returns : goal.returns
returns c =
    let P : ℕ → Type 0 = λ a. IsLowerBound c.args.starts.now (place a c.args.place.index) c.lower_bound.result in
    bound_of_member c.args.starts.now c.args.place c.lower_bound.result c.requires.rising
    (subst P c.from.ensures c.lower_bound.ensures) c.requires.member
