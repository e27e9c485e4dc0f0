use Rattle.std.proofs.Common.{List, ℕ, ap, length, ◌∙◌, ◌+◌}
use Rattle.std.proofs.lemmas.Result.{IfOk-weaker}
use Rattle.naming.proofs.Tables.{at_place, at_no_place}
use Rattle.naming.proofs.firsts.Numbers.place.Goals as goal

pub returns-in-Some : goal.returns-in-Some
returns-in-Some c = at_place c.args.self.now c.args.x c.found.result c.found.ensures c.in-Some.place c.in-Some.is

pub returns-in-None : goal.returns-in-None
returns-in-None c =
    IfOk-weaker c.behind.result _ _
    (λ n is. is ∙ ap (λ k. c.args.x + k) c.len.ensures ∙ ap (λ (l : List ℕ). c.args.x + length l) c.self.view_is
    ∙ at_no_place c.args.self.now c.args.x c.found.result c.found.ensures c.in-None.is)
    c.behind.ensures
