use Rattle.std.proofs.Common.{rules, ◌≡◌, false}
use Rattle.rule_conditions.specs.Twice.{AreTwo}
use Rattle.rule_conditions.proofs.Borrows.{differ, other_fires, equal_fires}
use Rattle.rule_conditions.proofs.letters.with_borrow.Goals as goal

pub returns-then-not-same_two : goal.returns-then-not-same_two
returns-then-not-same_two g c equality =
    let other : c.same_two.result ≡ false = search rules in
    differ g.V.View.Sees c.args.a c.args.b c.in_ok-x.x c.in_ok-x.y c.in_ok-u.u c.in_ok-u.v c.in_ok-x.ensures
    c.in_ok-u.ensures c.same_two.result c.same_two.ensures.no other

pub returns-in-Ne : goal.returns-in-Ne
returns-in-Ne g c =
    let sees = g.V.View.Sees in
    let same : AreTwo sees c.in_ok-x.x c.in_ok-x.y c.in_ok-u.u c.in_ok-u.v = c.same_two.ensures.yes (search rules) in
    other_fires sees c.args.a c.args.b c.in_ok-x.x c.in_ok-x.y c.in_ok-u.u c.in_ok-u.v c.in_ok-x.ensures
    c.in_ok-u.ensures c.args.op c.in-Ne.is same

pub returns-in-Eq : goal.returns-in-Eq
returns-in-Eq g c =
    let sees = g.V.View.Sees in
    let same : AreTwo sees c.in_ok-x.x c.in_ok-x.y c.in_ok-u.u c.in_ok-u.v = c.same_two.ensures.yes (search rules) in
    equal_fires sees c.args.a c.args.b c.in_ok-x.x c.in_ok-x.y c.in_ok-u.u c.in_ok-u.v c.in_ok-x.ensures
    c.in_ok-u.ensures c.args.op c.in-Eq.is same
