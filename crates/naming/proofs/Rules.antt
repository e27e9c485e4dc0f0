-- The rules of statements by the body's own numbers, layer by layer.
use Rattle.std.proofs.Common.{◌≡◌, ℕ, Bool, map, sym, ap, ◌∙◌}
use Rattle.cmeaning.specs.declared.tree.Arm.{Arm}
use Rattle.cmeaning.specs.declared.tree.Stmt.{Stmt, fold-roll-Stmt, roll-Stmt, map-Stmt}
use Rattle.cmeaning.specs.declared.tree.Stmt.TheFolds.{fold_out-Arm}
use Rattle.cmeaning.specs.declared.tree.Stmt.TheOpen.{Stmt-F}
use Rattle.cmeaning.specs.Valid.{Rule, Cased, cased_step}
use Rattle.naming.specs.declared.head.Head.{Head}
use Rattle.naming.specs.Rules.{own_step, own_rule, own_cased}

-- of a statement that is rolled up from a layer
pub own_roll : (h : Head) (leads : ℕ → Bool) (l : Stmt-F Stmt Arm)
    → own_rule h leads (roll-Stmt l)
    ≡ own_step h leads (map-Stmt Stmt Arm Rule Cased (own_rule h leads) (own_cased h leads) l)
unfolding own_rule own_cased
own_roll h leads l = fold-roll-Stmt Rule Cased (own_step h leads) cased_step l

-- of a statement that is a layer
pub rule_is : (h : Head) (leads : ℕ → Bool) (s : Stmt) (y : Stmt-F Stmt Arm)
    → roll-Stmt y ≡ s
    → own_rule h leads s ≡ own_step h leads (map-Stmt Stmt Arm Rule Cased (own_rule h leads) (own_cased h leads) y)
rule_is h leads s y is = ap (own_rule h leads) (sym is) ∙ own_roll h leads y

pub own_cased_is : (h : Head) (leads : ℕ → Bool) (a : Arm)
    → own_cased h leads a ≡ record { cases = a.cases; body = map (own_rule h leads) a.body }
unfolding own_rule own_cased
own_cased_is h leads a = fold_out-Arm Rule Cased (own_step h leads) cased_step a
