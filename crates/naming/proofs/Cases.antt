-- The worked bodies, by computation.
use Rattle.std.proofs.Common.{◌≡◌, ℕ, List, [], ◌∷◌, ◌++◌, length, sym, ap, ◌∙◌, Option}
use Rattle.cmeaning.specs.declared.tree.Arm.{Arm}
use Rattle.cmeaning.specs.declared.tree.CFunction.{CFunction}
use Rattle.cmeaning.specs.declared.tree.Expr.{Expr, fold-roll-Expr}
use Rattle.cmeaning.specs.declared.tree.Expr.TheOpen.{Expr-F}
use Rattle.cmeaning.specs.declared.tree.Expr.TheVariants as E
use Rattle.cmeaning.specs.declared.tree.Stmt.{Stmt, fold-roll-Stmt, roll-Stmt, map-Stmt}
use Rattle.cmeaning.specs.declared.tree.Stmt.TheOpen.{Stmt-F}
use Rattle.cmeaning.specs.declared.tree.Stmt.TheVariants as S
use Rattle.cmeaning.specs.Mentions.{Variable, Callee, in_expr, in_exprs, in_option, in_target, in_stmt, in_body}
use Rattle.cmeaning.proofs.Mentions.{in_goto, in_label, in_layer, in_statement}
use Rattle.naming.specs.Renamed as R
use Rattle.naming.specs.Renamed.{Names, expr_by, exprs_by, option_by, target_by, stmt_layer, stmt_by, arm_by, body_by}
use Rattle.naming.specs.declared.head.Head.{Head}
use Rattle.naming.specs.declared.order.Order.{Order}
use Rattle.naming.specs.First.{order_of, names_of}
use Rattle.naming.specs.Named.{all_found, local_of, declared_all, named_function}
use Rattle.naming.specs.Worked as worked

-- ---- what is mentioned

in_var : (v : ℕ) → in_expr (E.Var v) ≡ Variable v ∷ []
in_var v = in_layer (E.Var v) (Expr-F.Var v) (E.rolls-Var v)

in_call : (v : Option ℕ) (a : ℕ) (es : List Expr)
    → in_stmt (S.Call v a es) ≡ in_target v ++ (Callee a ∷ in_exprs es)
in_call v a es = in_statement (S.Call v a es) (Stmt-F.Call v a es) (S.rolls-Call v a es)

in_if : (c : Expr) (body : List Stmt) → in_stmt (S.If c body) ≡ in_expr c ++ in_body body
in_if c body = in_statement (S.If c body) (Stmt-F.If c body) (S.rolls-If c body)

in_return : (e : Option Expr) → in_stmt (S.Return e) ≡ in_option e
in_return e = in_statement (S.Return e) (Stmt-F.Return e) (S.rolls-Return e)

ruleset mentions = (in_var, in_call, in_if, in_goto, in_label, in_return)

-- ---- renamed

renamed : (r : Names) (s : Stmt) (l : Stmt-F Stmt Arm)
    → roll-Stmt l ≡ s
    → stmt_by r s ≡ roll-Stmt (stmt_layer r (map-Stmt Stmt Arm Stmt Arm (stmt_by r) (arm_by r) l))
unfolding stmt_by arm_by
renamed r s l is = ap (stmt_by r) (sym is) ∙ fold-roll-Stmt Stmt Arm (R.stmt_step r) R.arm_step l

by_var : (r : Names) (v : ℕ) → expr_by r (E.Var v) ≡ E.Var (r.variable v)
unfolding expr_by
by_var r v = ap (expr_by r) (sym (E.rolls-Var v)) ∙ fold-roll-Expr Expr (R.expr_step r) (Expr-F.Var v)
    ∙ E.rolls-Var (r.variable v)

by_call : (r : Names) (v : Option ℕ) (a : ℕ) (es : List Expr)
    → stmt_by r (S.Call v a es) ≡ S.Call (target_by r v) a (exprs_by r es)
by_call r v a es = renamed r (S.Call v a es) (Stmt-F.Call v a es) (S.rolls-Call v a es)
    ∙ S.rolls-Call (target_by r v) a (exprs_by r es)

by_if : (r : Names) (c : Expr) (body : List Stmt) → stmt_by r (S.If c body) ≡ S.If (expr_by r c) (body_by r body)
by_if r c body = renamed r (S.If c body) (Stmt-F.If c body) (S.rolls-If c body)
    ∙ S.rolls-If (expr_by r c) (body_by r body)

by_goto : (r : Names) (n : ℕ) → stmt_by r (S.Goto n) ≡ S.Goto (r.label n)
by_goto r n = renamed r (S.Goto n) (Stmt-F.Goto n) (S.rolls-Goto n) ∙ S.rolls-Goto (r.label n)

by_label : (r : Names) (n : ℕ) → stmt_by r (S.Label n) ≡ S.Label (r.label n)
by_label r n = renamed r (S.Label n) (Stmt-F.Label n) (S.rolls-Label n) ∙ S.rolls-Label (r.label n)

by_return : (r : Names) (e : Option Expr) → stmt_by r (S.Return e) ≡ S.Return (option_by r e)
by_return r e = renamed r (S.Return e) (Stmt-F.Return e) (S.rolls-Return e) ∙ S.rolls-Return (option_by r e)

ruleset renames = (by_var, by_call, by_if, by_goto, by_label, by_return)

-- ---- the bodies

-- a named function, by its order and the renamed body
named_is : (h : Head) (body named : List Stmt) (o : Order)
    → order_of (length h.params) body ≡ o
    → body_by (names_of o) body ≡ named
    → named_function h body
    ≡ record {
      callees = declared_all h.callees o.callees;
      name = h.name;
      gives = h.gives;
      params = h.params;
      locals = all_found (local_of (length h.params) h.locals) o.variables;
      body = named;
    }
named_is h body named o order renamed =
    ap (λ (p : Order). let f : CFunction = record {
      callees = declared_all h.callees p.callees;
      name = h.name;
      gives = h.gives;
      params = h.params;
      locals = all_found (local_of (length h.params) h.locals) p.variables;
      body = body_by (names_of p) body;
    } in f) order
    ∙ ap (λ (ss : List Stmt). let f : CFunction = record {
      callees = declared_all h.callees o.callees;
      name = h.name;
      gives = h.gives;
      params = h.params;
      locals = all_found (local_of (length h.params) h.locals) o.variables;
      body = ss;
    } in f) renamed

order_is : order_of 2 worked.body ≡ worked.order
order_is = simp mentions

renamed_is : body_by (names_of worked.order) worked.body ≡ worked.function.body
renamed_is = simp renames

pub first_appearance : worked.FirstAppearance
first_appearance =
    (order_is, named_is worked.head worked.body worked.function.body worked.order order_is renamed_is)

own_order_is : order_of 1 worked.own_body ≡ worked.own_order
own_order_is = simp mentions

own_renamed_is : body_by (names_of worked.own_order) worked.own_body ≡ worked.own_body
own_renamed_is = simp renames

pub own_callee : worked.OwnCallee
own_callee =
    (own_order_is, named_is worked.own_head worked.own_body worked.own_body worked.own_order own_order_is own_renamed_is)
