-- The labels of a valid tree have numbers of 32 bits.
use Rattle.std.proofs.Common.{◌≡◌, ℕ, suc, ◌-◌, ◌^◌, ◌<◌, ◌≤◌, Bool, true, false, cond, eqb, ltb, ◌&&◌, List, [], ◌∷◌, ◌++◌, Option, Some, None, refl, sym, ap, ◌∙◌, subst, arith}
use Rattle.std.specs.Prelude.{map}
use Rattle.std.proofs.lemmas.Bool.{ltb-true, eqb-true, and_parts}
use Rattle.std.proofs.lemmas.List.{map-id}
use Rattle.cmeaning.specs.declared.numbering.Next.{Next}
use Rattle.cmeaning.specs.declared.tree.CFunction.{CFunction}
use Rattle.cmeaning.specs.declared.tree.CalleeDecl.{CalleeDecl}
use Rattle.cmeaning.specs.declared.tree.Expr.{Expr, fold-roll-Expr, ind-Expr, roll-Expr, map-Expr}
use Rattle.cmeaning.specs.declared.tree.Expr.TheOpen.{Expr-F}
use Rattle.cmeaning.specs.declared.tree.Arm.{Arm, roll-Arm, map-Arm}
use Rattle.cmeaning.specs.declared.tree.Stmt.{Stmt, fold-roll-Stmt, roll-Stmt, map-Stmt}
use Rattle.cmeaning.specs.declared.tree.Stmt.TheFolds.{ind-Stmt}
use Rattle.cmeaning.specs.declared.tree.Stmt.TheOpen.{Stmt-F, Arm-F}
use Rattle.cmeaning.specs.Mentions.{Mention, Variable, Callee, LabelLine, expr_step, in_expr, in_exprs, in_option, in_target, stmt_step, arm_step, in_stmt, in_arm, in_arms, in_body, place_of, met, with_variable, with_callee, with_label, mentioned, numbered}
use Rattle.cmeaning.specs.Shape.{shape_of, is_condition}
use Rattle.cmeaning.specs.Do.{widths_in}
use Rattle.cmeaning.specs.Valid.{Rule, Cased, rule_step, cased_step, rule_of, cased_of, all_hold, arms_hold, all_cases, are_cases_of}
use Rattle.cread.proofs.Switches.{arms_right}
use Rattle.cmeaning.proofs.Mentions.{in_arm_body}

-- ---- mentions

abbrev pub Low : Mention → Type 0
Low (Variable v) = Unit {0}
Low (Callee a) = Unit {0}
Low (LabelLine l) = l < 2 ^ 32

abbrev pub AllLow : List Mention → Type 0
AllLow [] = Unit {0}
AllLow (x ∷ xs) = Low x × AllLow xs

low_append : (xs ys : List Mention) → AllLow xs → AllLow ys → AllLow (xs ++ ys)
low_append [] ys p q = q
low_append (x ∷ xs) ys p q = (p.0, low_append xs ys p.1 q)

-- an expression has no label
expr_layer : {A : Type 0} (f : A → Expr)
    → ((a : A) → AllLow (in_expr (f a)))
    → (l : Expr-F A)
    → AllLow (expr_step (map-Expr Expr (List Mention) in_expr (map-Expr A Expr f l)))
expr_layer f h (Expr-F.Const c) = tt
expr_layer f h (Expr-F.Var v) = (tt, tt)
expr_layer f h (Expr-F.Unary op a) = h a
expr_layer f h (Expr-F.Arithmetic op a b) = low_append (in_expr (f a)) (in_expr (f b)) (h a) (h b)
expr_layer f h (Expr-F.Division op a b) = low_append (in_expr (f a)) (in_expr (f b)) (h a) (h b)
expr_layer f h (Expr-F.SignedDivision op a b) = low_append (in_expr (f a)) (in_expr (f b)) (h a) (h b)
expr_layer f h (Expr-F.Shift op a b) = low_append (in_expr (f a)) (in_expr (f b)) (h a) (h b)
expr_layer f h (Expr-F.Compare op a b) = low_append (in_expr (f a)) (in_expr (f b)) (h a) (h b)
expr_layer f h (Expr-F.SignedCompare op a b) = low_append (in_expr (f a)) (in_expr (f b)) (h a) (h b)
expr_layer f h (Expr-F.Extend op w a) = h a
expr_layer f h (Expr-F.Part k w a) = h a
expr_layer f h (Expr-F.Concat a b) = low_append (in_expr (f a)) (in_expr (f b)) (h a) (h b)
expr_layer f h (Expr-F.Overflow op a b) = low_append (in_expr (f a)) (in_expr (f b)) (h a) (h b)
expr_layer f h (Expr-F.Count op a) = h a

expr_rolled : {A : Type 0} (f : A → Expr)
    → ((a : A) → AllLow (in_expr (f a)))
    → (l : Expr-F A)
    → AllLow (in_expr (roll-Expr (map-Expr A Expr f l)))
unfolding in_expr
expr_rolled {A} f h l = subst AllLow (sym (fold-roll-Expr (List Mention) expr_step (map-Expr A Expr f l)))
    (expr_layer f h l)

low_expr : (e : Expr) → AllLow (in_expr e)
low_expr e = ind-Expr (λ x. AllLow (in_expr x))
    (λ l y is. subst (λ (z : Expr-F Expr). AllLow (in_expr (roll-Expr z))) is (expr_rolled (λ p. p.0) (λ p. p.1) y)) e

low_exprs : (es : List Expr) → AllLow (in_exprs es)
low_exprs [] = tt
low_exprs (e ∷ es) = low_append (in_expr e) (in_exprs es) (low_expr e) (low_exprs es)

low_option : (e : Option Expr) → AllLow (in_option e)
low_option None = tt
low_option (Some e) = low_expr e

low_target : (v : Option ℕ) → AllLow (in_target v)
low_target None = tt
low_target (Some v) = (tt, tt)

-- ---- statements

module _ (f : CFunction) (labels : ℕ) where
  -- where a statement obeys its rule, its labels are low
  abbrev pub StmtLow : Stmt → Type 0
  StmtLow t = (after_call in_loop : Bool) (room : ℕ) → (rule_of f labels t).holds after_call in_loop room ≡ true
      → AllLow (in_stmt t)

  abbrev pub BodyLow : List Stmt → Type 0
  BodyLow xs = (after_call in_loop : Bool) (room : ℕ)
      → all_hold after_call (map (rule_of f labels) xs) in_loop room ≡ true → AllLow (in_body xs)

  abbrev pub ArmLow : Arm → Type 0
  ArmLow a = BodyLow a.body

body_low : (f : CFunction) (labels : ℕ) {A : Type 0} (g : A → Stmt)
    → ((a : A) → StmtLow f labels (g a))
    → (xs : List A)
    → BodyLow f labels (map g xs)
body_low f labels g h [] after_call in_loop room ok = tt
body_low f labels g h (x ∷ xs) after_call in_loop room ok =
    let r = rule_of f labels (g x) in
    let others = all_hold r.calls (map (rule_of f labels) (map g xs)) in_loop room in
    let three = and_parts (ltb 0 room) (r.holds after_call in_loop (room - 1) && others) ok in
    let two = and_parts (r.holds after_call in_loop (room - 1)) others three.1 in
    low_append (in_stmt (g x)) (in_body (map g xs)) (h x after_call in_loop (room - 1) two.0)
    (body_low f labels g h xs r.calls in_loop room two.1)

arms_low : (f : CFunction) (labels : ℕ) {B : Type 0} (o : B → Arm)
    → ((b : B) → ArmLow f labels (o b))
    → (arms : List B) (room : ℕ)
    → arms_hold (map (cased_of f labels) (map o arms)) room ≡ true
    → AllLow (in_arms (map o arms))
arms_low f labels o q [] room ok = tt
arms_low f labels o q (a ∷ arms) room ok =
    let r = arms_right f labels (o a) (map o arms) room ok in
    low_append (in_arm (o a)) (in_arms (map o arms))
    (subst AllLow (sym (in_arm_body (o a))) (q a false false room r.body))
    (arms_low f labels o q arms room r.others)

abbrev Holding : CFunction → ℕ → Stmt-F Rule Cased → Bool → Bool → ℕ → Type 0
Holding f labels l after_call in_loop room = (rule_step f labels l).holds after_call in_loop room ≡ true

stmt_layer : (f : CFunction) (labels : ℕ) {A B : Type 0} (g : A → Stmt) (o : B → Arm)
    → ((a : A) → StmtLow f labels (g a))
    → ((b : B) → ArmLow f labels (o b))
    → (l : Stmt-F A B) (after_call in_loop : Bool) (room : ℕ)
    → Holding f labels (map-Stmt Stmt Arm Rule Cased (rule_of f labels) (cased_of f labels)
    (map-Stmt A B Stmt Arm g o l)) after_call in_loop room
    → AllLow (stmt_step (map-Stmt Stmt Arm (List Mention) (List Mention) in_stmt in_arm
    (map-Stmt A B Stmt Arm g o l)))
stmt_layer f labels g o h q (Stmt-F.Assign v e) after_call in_loop room ok = (tt, low_expr e)
stmt_layer f labels g o h q (Stmt-F.Load v space a) after_call in_loop room ok = (tt, low_expr a)
stmt_layer f labels g o h q (Stmt-F.Store space a e) after_call in_loop room ok =
    low_append (in_expr a) (in_expr e) (low_expr a) (low_expr e)
stmt_layer f labels g o h q (Stmt-F.Call v address es) after_call in_loop room ok =
    low_append (in_target v) (Callee address ∷ in_exprs es) (low_target v) (tt, low_exprs es)
stmt_layer f labels g o h q (Stmt-F.CallInd v e es) after_call in_loop room ok =
    low_append (in_target v) (in_expr e ++ in_exprs es) (low_target v)
    (low_append (in_expr e) (in_exprs es) (low_expr e) (low_exprs es))
stmt_layer f labels g o h q (Stmt-F.Other v index es) after_call in_loop room ok =
    low_append (in_target v) (in_exprs es) (low_target v) (low_exprs es)
stmt_layer f labels g o h q (Stmt-F.Extra v offset) after_call in_loop room ok = (tt, tt)
stmt_layer f labels g o h q (Stmt-F.Divide v op a b) after_call in_loop room ok =
    (tt, low_append (in_expr a) (in_expr b) (low_expr a) (low_expr b))
stmt_layer f labels g o h q (Stmt-F.If c xs) after_call in_loop room ok =
    let both = and_parts (is_condition (shape_of (widths_in f) c))
    (all_hold false (map (rule_of f labels) (map g xs)) in_loop room) ok in
    low_append (in_expr c) (in_body (map g xs)) (low_expr c) (body_low f labels g h xs false in_loop room both.1)
stmt_layer f labels g o h q (Stmt-F.IfElse c xs ys) after_call in_loop room ok =
    let one = all_hold false (map (rule_of f labels) (map g xs)) in_loop room in
    let two = all_hold false (map (rule_of f labels) (map g ys)) in_loop room in
    let three = and_parts (is_condition (shape_of (widths_in f) c)) (one && two) ok in
    let both = and_parts one two three.1 in
    low_append (in_expr c) (in_body (map g xs) ++ in_body (map g ys)) (low_expr c)
    (low_append (in_body (map g xs)) (in_body (map g ys)) (body_low f labels g h xs false in_loop room both.0)
    (body_low f labels g h ys false in_loop room both.1))
stmt_layer f labels g o h q (Stmt-F.While c xs) after_call in_loop room ok =
    let both = and_parts (is_condition (shape_of (widths_in f) c))
    (all_hold false (map (rule_of f labels) (map g xs)) true room) ok in
    low_append (in_expr c) (in_body (map g xs)) (low_expr c) (body_low f labels g h xs false true room both.1)
stmt_layer f labels g o h q (Stmt-F.DoWhile xs c) after_call in_loop room ok =
    let both = and_parts (is_condition (shape_of (widths_in f) c))
    (all_hold false (map (rule_of f labels) (map g xs)) true room) ok in
    low_append (in_body (map g xs)) (in_expr c) (body_low f labels g h xs false true room both.1) (low_expr c)
stmt_layer f labels g o h q (Stmt-F.Loop xs) after_call in_loop room ok = body_low f labels g h xs false true room ok
stmt_layer f labels g o h q Stmt-F.Break after_call in_loop room ok = tt
stmt_layer f labels g o h q (Stmt-F.Switch e arms) after_call in_loop room ok =
    let cased = map (cased_of f labels) (map o arms) in
    let both = and_parts (are_cases_of (all_cases cased) (shape_of (widths_in f) e)) (arms_hold cased room) ok in
    low_append (in_expr e) (in_arms (map o arms)) (low_expr e) (arms_low f labels o q arms room both.1)
stmt_layer f labels g o h q (Stmt-F.Goto n) after_call in_loop room ok = tt
stmt_layer f labels g o h q (Stmt-F.Label n) after_call in_loop room ok = (ltb-true _ _ ok, tt)
stmt_layer f labels g o h q (Stmt-F.Return e) after_call in_loop room ok = low_option e

stmt_rolled : (f : CFunction) (labels : ℕ) {A B : Type 0} (g : A → Stmt) (o : B → Arm)
    → ((a : A) → StmtLow f labels (g a))
    → ((b : B) → ArmLow f labels (o b))
    → (l : Stmt-F A B)
    → StmtLow f labels (roll-Stmt (map-Stmt A B Stmt Arm g o l))
unfolding rule_of cased_of in_stmt in_arm
stmt_rolled f labels {A} {B} g o h q l after_call in_loop room ok =
    let m = map-Stmt A B Stmt Arm g o l in
    subst AllLow (sym (fold-roll-Stmt (List Mention) (List Mention) stmt_step arm_step m))
    (stmt_layer f labels g o h q l after_call in_loop room
    (ap (λ (r : Rule). r.holds after_call in_loop room)
    (sym (fold-roll-Stmt Rule Cased (rule_step f labels) cased_step m)) ∙ ok))

arm_rolled : (f : CFunction) (labels : ℕ) {A B : Type 0} (g : A → Stmt) (o : B → Arm)
    → ((a : A) → StmtLow f labels (g a))
    → (l : Arm-F A B)
    → ArmLow f labels (roll-Arm (map-Arm A B Stmt Arm g o l))
arm_rolled f labels g o h l = body_low f labels g h l.body

low_stmt : (f : CFunction) (labels : ℕ) (t : Stmt) → StmtLow f labels t
low_stmt f labels t = ind-Stmt (StmtLow f labels) (ArmLow f labels)
    (λ l y is. subst (λ (z : Stmt-F Stmt Arm). StmtLow f labels (roll-Stmt z)) is
    (stmt_rolled f labels (λ p. p.0) (λ p. p.0) (λ p. p.1) (λ p. p.1) y))
    (λ l y is. subst (λ (z : Arm-F Stmt Arm). ArmLow f labels (roll-Arm z)) is
    (arm_rolled f labels (λ p. p.0) (λ p. p.0) (λ p. p.1) y)) t

pub low_body : (f : CFunction) (labels : ℕ) (xs : List Stmt) → BodyLow f labels xs
low_body f labels xs = subst (BodyLow f labels) (map-id xs) (body_low f labels (λ x. x) (low_stmt f labels) xs)

-- ---- numbers by first appearance

abbrev LowNext : Option Next → Type 0
LowNext None = Unit {0}
LowNext (Some n) = n.label ≤ 2 ^ 32

variable_low : (n : Next) (o : Option ℕ) → n.label ≤ 2 ^ 32 → LowNext (with_variable n o)
variable_low n None le = tt
variable_low n (Some v) le = le

callee_low : (n : Next) (o : Option ℕ) → n.label ≤ 2 ^ 32 → LowNext (with_callee n o)
callee_low n None le = tt
callee_low n (Some c) le = le

label_low : (n : Next) (l : ℕ) (b : Bool)
    → eqb l n.label ≡ b
    → l < 2 ^ 32
    → LowNext (with_label n (cond b (Some (suc n.label)) None))
label_low n l false same low = tt
label_low n l true same low = let at : l ≡ n.label = eqb-true _ _ same in omega arith

next_low : (cs : List CalleeDecl) (x : Mention) (o : Option Next) → Low x → LowNext o → LowNext (mentioned cs o x)
next_low cs x None low le = tt
next_low cs (Variable v) (Some n) low le = variable_low n (met n.variable v) le
next_low cs (Callee a) (Some n) low le = callee_low n (met n.callee (place_of cs a)) le
next_low cs (LabelLine l) (Some n) low le = label_low n l (eqb l n.label) refl low

all_low : (cs : List CalleeDecl) (xs : List Mention) (o : Option Next)
    → AllLow xs
    → LowNext o
    → LowNext (numbered cs xs o)
all_low cs [] o low le = le
all_low cs (x ∷ xs) o low le = all_low cs xs (mentioned cs o x) low.1 (next_low cs x o low.0 le)

pub label_bound : (cs : List CalleeDecl) (xs : List Mention) (n m : Next)
    → AllLow xs
    → n.label ≤ 2 ^ 32
    → numbered cs xs (Some n) ≡ Some m
    → m.label ≤ 2 ^ 32
label_bound cs xs n m low le h = subst LowNext h (all_low cs xs (Some n) low le)
