use Rattle.std.proofs.Common.{rules, ◌≡◌, false}
use Rattle.rule_views.specs.declared.nodes.Pair.{Pair}
use Rattle.rule_views.specs.Sees.{NoPair}
use Rattle.rule_conditions.specs.Twice.{Joins, AreSame, NoneJoined}
use Rattle.rule_conditions.proofs.Joined.{no_order, other_order, other_letters, is_joined}
use Rattle.rule_conditions.proofs.letters.joined.Goals as goal

pub returns-in_err-order : goal.returns-in_err-order
returns-in_err-order g c =
    let sees = g.V.View.Sees in
    let none : NoPair sees c.args.b = search rules in
    let no : NoneJoined sees c.args.equality c.args.a c.args.b = no_order sees c.args.equality c.args.a c.args.b none in
    search rules

pub returns-in_err-to : goal.returns-in_err-to
returns-in_err-to g c =
    let sees = g.V.View.Sees in
    let n : (to : Pair) → Joins c.args.equality c.in_ok-order.order to → ⊥ = search rules in
    let no : NoneJoined sees c.args.equality c.args.a c.args.b =
    other_order sees c.args.equality c.args.a c.args.b c.in_ok-order.u c.in_ok-order.v c.in_ok-order.order
    c.in_ok-order.ensures n in
    search rules

pub returns-then-not-same_letters : goal.returns-then-not-same_letters
returns-then-not-same_letters g c =
    let differ : c.same_letters.result ≡ false = search rules in
    other_letters g.V.View.Sees c.args.equality c.args.a c.args.b c.in_ok-x.x c.in_ok-x.y c.in_ok-order.u c.in_ok-order.v
    c.in_ok-order.order c.in_ok-x.ensures c.in_ok-order.ensures c.same_letters.result c.same_letters.ensures.no differ

pub returns : goal.returns
returns g c =
    let sees = g.V.View.Sees in
    let same : AreSame sees c.in_ok-x.x c.in_ok-x.y c.in_ok-order.u c.in_ok-order.v =
    c.same_letters.ensures.yes (search rules) in
    is_joined sees c.args.equality c.args.a c.args.b c.in_ok-x.x c.in_ok-x.y c.in_ok-order.u c.in_ok-order.v
    c.in_ok-order.order c.in_ok-x.ensures c.in_ok-order.ensures c.in_ok-to.to c.in_ok-to.ensures same
