use Rattle.std.proofs.Common.{rules}
use Rattle.rules.specs.Table.{Form, Rule}
use Rattle.rule_views.specs.Fires.{NoneOfPair}
use Rattle.rule_find.specs.Found.{Commutes, ChangesOver, NoneOver}
use Rattle.rule_find.proofs.Places.{BothFolded, none_as_named, none_turned, turned}
use Rattle.rule_find.proofs.roots.find_pair.Goals as goal

pub returns-then-not-commutes : goal.returns-then-not-commutes
returns-then-not-commutes g c =
    let sees = g.V.View.Sees in
    let none : NoneOfPair Form sees c.args.p c.args.a c.args.b = search rules in
    let n : Commutes c.args.p → ⊥ = search rules in
    let over : ChangesOver c.args.p → NoneOver sees c.args.a c.args.b = search rules in
    let both : BothFolded sees c.args.p c.args.a c.args.b = search rules in
    none_as_named sees c.args.p c.args.a c.args.b none n over both

pub returns-in_err-found : goal.returns-in_err-found
returns-in_err-found g c =
    let sees = g.V.View.Sees in
    let none : NoneOfPair Form sees c.args.p c.args.a c.args.b = search rules in
    let other : NoneOfPair Form sees c.args.p c.args.b c.args.a = search rules in
    let over : ChangesOver c.args.p → NoneOver sees c.args.a c.args.b = search rules in
    let both : BothFolded sees c.args.p c.args.a c.args.b = search rules in
    let no : NoneOfPair Rule sees c.args.p c.args.a c.args.b =
    none_turned sees c.args.p c.args.a c.args.b none other over both in
    search rules

pub returns : goal.returns
returns g c =
    let commutes : Commutes c.args.p = search rules in
    turned g.V.View.Sees c.args.p c.args.a c.args.b c.in_ok-found.found.row c.in_ok-found.found.made commutes
    c.in_ok-found.ensures.found
