use Rattle.std.proofs.Common.{List, ℕ, sym, subst}
use Rattle.naming.specs.Places.{HasAll}
use Rattle.naming.proofs.Tables.{holds_more}
use Rattle.naming.proofs.firsts.Addresses.with.Goals as goal

pub invariant_of-result : goal.invariant_of-result
invariant_of-result c =
    subst (λ (l : List ℕ). HasAll l c.insert.new.self) (sym c.in_ok-push-in-Ok-true.ensures.ok)
    (holds_more c.self.inside.listed c.self.inside.known c.args.x c.self.invariant c.insert.new.self
    c.in-Ok-true.ensures.updates)
