-- The rules of statements for a body below a head, by its own numbers.
use Rattle.std.specs.Prelude.{ℕ, Bool, false, List, [], map}
use Rattle.cmeaning.specs.declared.tree.Arm.{Arm}
use Rattle.cmeaning.specs.declared.tree.Stmt.{Stmt, fold-Stmt}
use Rattle.cmeaning.specs.declared.tree.Stmt.TheFolds.{fold-Arm}
use Rattle.cmeaning.specs.declared.tree.Stmt.TheOpen.{Stmt-F}
use Rattle.cmeaning.specs.Mentions.{in_body}
use Rattle.cmeaning.specs.Valid.{Rule, Cased, plainly, all_hold, rule_step, cased_step}
use Rattle.naming.specs.declared.head.Head.{Head}
use Rattle.naming.specs.Run.{unnamed}
use Rattle.naming.specs.Covered.{has_line}

-- As in a valid function, but for a goto: its label has a line, by `leads`.
abbrev pub own_step : Head → (ℕ → Bool) → Stmt-F Rule Cased → Rule
own_step h leads (Stmt-F.Goto n) = plainly (leads n)
own_step h leads s = rule_step (unnamed h []) 0 s

unfoldable pub own_rule : Head → (ℕ → Bool) → Stmt → Rule
own_rule h leads s = fold-Stmt Rule Cased (own_step h leads) cased_step s

unfoldable pub own_cased : Head → (ℕ → Bool) → Arm → Cased
own_cased h leads a = fold-Arm Rule Cased (own_step h leads) cased_step a

-- the statements of a body obey their rules, and are at most 256 deep
abbrev pub obeys : Head → List Stmt → Bool
obeys h body = all_hold false (map (own_rule h (has_line (in_body body))) body) false 256
