-- Each statement that obeys its rule is read again.
use Rattle.std.proofs.Common.{◌≡◌, ℕ, suc, ◌%◌, ◌^◌, ◌<◌, Bool, true, false, eqb, ltb, ◌&&◌, List, [], ◌∷◌, ◌++◌, Option, Some, None, refl, sym, ap, ◌∙◌, subst, arith, append_assoc, lit<}
use Rattle.std.specs.Prelude.{codes, map}
use Rattle.std.specs.Fmt.{decimal}
use Rattle.std.proofs.lemmas.Bool.{ltb-true, and_parts}
use Rattle.bits_core.specs.declared.word.Width.{Width}
use Rattle.cmeaning.specs.declared.shape.Shape.{Shape}
use Rattle.cmeaning.specs.declared.tree.CFunction.{CFunction}
use Rattle.cmeaning.specs.declared.tree.CalleeDecl.{CalleeDecl}
use Rattle.cmeaning.specs.declared.tree.StatementDivision.{StatementDivision}
use Rattle.cmeaning.specs.declared.tree.Expr.{Expr}
use Rattle.cmeaning.specs.declared.tree.Arm.{Arm, roll-Arm, map-Arm}
use Rattle.cmeaning.specs.declared.tree.Stmt.{Stmt, fold-roll-Stmt, roll-Stmt, map-Stmt}
use Rattle.cmeaning.specs.declared.tree.Stmt.TheFolds.{ind-Stmt}
use Rattle.cmeaning.specs.declared.tree.Stmt.TheOpen.{Stmt-F, Arm-F}
use Rattle.cmeaning.specs.declared.tree.Stmt.TheVariants as s
use Rattle.cmeaning.specs.Shape.{shape_of, is_right, has_width, is_condition}
use Rattle.cmeaning.specs.Valid.{Rule, Cased, rule_step, cased_step, rule_of, cased_of, all_hold, arms_hold, all_cases, are_distinct, are_words, are_cases_of, is_long, is_space, is_variable, is_target, are_right, have_widths, takes, is_call, is_assigned, is_returned}
use Rattle.cmeaning.specs.Callees.{declared_in}
use Rattle.cmeaning.specs.Do.{widths_in}
use Rattle.ctext.specs.Names.{Scope, scope_of, variable}
use Rattle.ctext.specs.Expressions.{form}
use Rattle.ctext.specs.Statements.{Lines, lines, lines_step, arm_step, all_arms, arm_text, assigned, return_text, assign_text, call_text, target_width, loop_head}
use Rattle.cread.specs.Words.{after, run_of, past_spaces}
use Rattle.cread.specs.Names.{type_at}
use Rattle.cread.specs.Statements.{line_at, plain_line_at, line_by, not_own, target_at, statement_by, statement_at}
use Rattle.cread.proofs.Fronts.{decimal_again, AllSpaces}
use Rattle.cread.proofs.Naming.{Named, space}
use Rattle.cread.proofs.Law.{Context, reads}
use Rattle.cread.proofs.Parts.{Written, written, written_right, written_width, written_test, value_again, all_right, all_wide, LineAt, target_line, IsNamed, RightText, behind_target, right_line, alone_line, target_named, variable_is_named}
use Rattle.cread.proofs.Calls.{load_right, store_right, call_right, indirect_right, other_right, extra_right, divide_right}
use Rattle.cread.proofs.Bodies.{Setting, LineOk, AllOk, worded, if_line, else_line, while_line, loop_line, do_line}
use Rattle.cread.proofs.Switches.{ArmOk, AllArmsOk, switch_line}

abbrev Texts : Type 0
Texts = List ℕ → List ℕ

-- ---- lines of one word

label_line : (sc : Scope) (k n : ℕ) (loop : Bool)
    → k < 2 ^ 32
    → LineAt sc (suc n) loop (s.Label k) (codes "L" ++ (decimal k ++ codes ":\n"))
unfolding statement_at statement_by line_at plain_line_at loop_head line_by after past_spaces run_of type_at
label_line sc k n loop small =
    worded sc (suc n) loop (s.Label k) (codes "L" ++ (decimal k ++ codes ":\n"))
    (λ rest.
    let grouped : (decimal k ++ codes ":\n") ++ rest ≡ decimal k ++ 58 ∷ 10 ∷ rest =
    append_assoc (decimal k) (codes ":\n") rest in
    let d = decimal_again k 58 (10 ∷ rest) (omega arith) refl in
    let same : k % 2 ^ 32 ≡ k = omega arith in
    rw (grouped, d, same) refl)
    (λ z. record { no_space = refl; not_case = refl; not_local = refl }) (λ z. refl) (omega arith)

goto_line : (sc : Scope) (k n : ℕ) (loop : Bool)
    → k < 2 ^ 32
    → LineAt sc (suc n) loop (s.Goto k) (codes "goto L" ++ (decimal k ++ codes ";\n"))
unfolding statement_at statement_by line_at plain_line_at loop_head line_by after past_spaces run_of type_at
goto_line sc k n loop small =
    worded sc (suc n) loop (s.Goto k) (codes "goto L" ++ (decimal k ++ codes ";\n"))
    (λ rest.
    let grouped : (decimal k ++ codes ";\n") ++ rest ≡ decimal k ++ 59 ∷ 10 ∷ rest =
    append_assoc (decimal k) (codes ";\n") rest in
    let d = decimal_again k 59 (10 ∷ rest) (omega arith) refl in
    let same : k % 2 ^ 32 ≡ k = omega arith in
    rw (grouped, d, same) refl)
    (λ z. record { no_space = refl; not_case = refl; not_local = refl }) (λ z. refl) (omega arith)

return_line : (sc : Scope) (n : ℕ) (loop : Bool) → LineAt sc (suc n) loop (s.Return None) (codes "return;\n")
unfolding statement_at statement_by line_at plain_line_at loop_head line_by after past_spaces run_of type_at
return_line sc n loop = worded sc (suc n) loop (s.Return None) (codes "return;\n") (λ rest. refl)
    (λ z. record { no_space = refl; not_case = refl; not_local = refl }) (λ z. refl) (omega arith)

give_line : (sc : Scope) (e : Expr) (n : ℕ) (loop : Bool)
    → Written sc e
    → LineAt sc (suc n) loop (s.Return (Some e)) (codes "return " ++ ((form sc e).plain ++ codes ";\n"))
unfolding statement_at statement_by line_at plain_line_at loop_head line_by after past_spaces run_of type_at
give_line sc e n loop w =
    worded sc (suc n) loop (s.Return (Some e)) (codes "return " ++ ((form sc e).plain ++ codes ";\n"))
    (λ rest.
    let grouped : ((form sc e).plain ++ codes ";\n") ++ rest ≡ (form sc e).plain ++ (codes ";\n" ++ rest) =
    append_assoc (form sc e).plain (codes ";\n") rest in
    let v = value_again sc e (form sc e).plain rest w.plain in
    rw (grouped, v) refl)
    (λ z. record { no_space = refl; not_case = refl; not_local = refl }) (λ z. refl) (omega arith)

only_outside : (arm : Bool) (z : List ℕ) → (arm && true) ≡ false → not_own arm (codes "break;\n" ++ z) ≡ true
only_outside true z both = absurd cc
only_outside false z both = refl

-- a break stands in a loop alone
break_line_at : (sc : Scope) (n : ℕ) → LineAt sc (suc n) true s.Break (codes "break;\n")
unfolding statement_at statement_by line_at plain_line_at loop_head line_by after past_spaces run_of type_at
break_line_at sc n = record {
  read = λ rest. refl;
  starts = λ z. record { no_space = refl; not_case = refl; not_local = refl };
  not_own = λ arm both z. only_outside arm z both;
  long = omega arith;
}

assigned_again : (sc : Scope) (v : ℕ) (e : Expr) (b : Bool) (rest : List ℕ)
    → Named sc v (variable sc v).name
    → Written sc e
    → (variable sc v).signed ≡ b
    → target_at sc ((variable sc v).name
    ++ (codes " = " ++ ((assigned (variable sc v) (form sc e) ++ codes ";\n") ++ rest))) ≡ Some (s.Assign v e, rest)
unfolding target_at after
assigned_again sc v e true rest named w flag =
    let text = (form sc e).signed in
    let one = named.again 32 (61 ∷ 32 ∷ ((text ++ codes ";\n") ++ rest)) space in
    let grouped : (text ++ codes ";\n") ++ rest ≡ text ++ (codes ";\n" ++ rest) =
    append_assoc text (codes ";\n") rest in
    let gap = (w.signed_head (codes ";\n" ++ rest)).not_right in
    let two = value_again sc e text rest w.signed in
    rw (flag, one, grouped, gap, two) refl
assigned_again sc v e false rest named w flag =
    let text = (form sc e).plain in
    let one = named.again 32 (61 ∷ 32 ∷ ((text ++ codes ";\n") ++ rest)) space in
    let grouped : (text ++ codes ";\n") ++ rest ≡ text ++ (codes ";\n" ++ rest) =
    append_assoc text (codes ";\n") rest in
    let gap = (w.plain_head (codes ";\n" ++ rest)).not_right in
    let two = value_again sc e text rest w.plain in
    rw (flag, one, grouped, gap, two) refl

-- what is assigned, in its form
assign_line : (sc : Scope) (v : ℕ) (e : Expr) (n : ℕ) (loop : Bool)
    → Named sc v (variable sc v).name
    → Written sc e
    → LineAt sc (suc n) loop (s.Assign v e) (assign_text sc v e)
assign_line sc v e n loop named w =
    target_line sc n v loop (s.Assign v e) (assigned (variable sc v) (form sc e) ++ codes ";\n") named
    (λ rest. assigned_again sc v e (variable sc v).signed rest named w refl)

-- ---- from the statement's own definitions to those of its layer

-- a statement's text, by those of the statements inside it
lines_roll : (sc : Scope) (l : Stmt-F Stmt Arm) (t : Stmt)
    → roll-Stmt l ≡ t
    → lines sc t ≡ lines_step sc (map-Stmt Stmt Arm Lines Texts (lines sc) (arm_text sc) l)
unfolding lines arm_text
lines_roll sc l t is = ap (lines sc) (sym is) ∙ fold-roll-Stmt Lines Texts (lines_step sc) arm_step l

-- its rule, by theirs
rule_roll : (f : CFunction) (labels : ℕ) (l : Stmt-F Stmt Arm) (t : Stmt)
    → roll-Stmt l ≡ t
    → rule_of f labels t ≡ rule_step f labels (map-Stmt Stmt Arm Rule Cased (rule_of f labels) (cased_of f labels) l)
unfolding rule_of cased_of
rule_roll f labels l t is =
    ap (rule_of f labels) (sym is) ∙ fold-roll-Stmt Rule Cased (rule_step f labels) cased_step l

abbrev inside_text : CFunction → Stmt-F Stmt Arm → Stmt-F Lines Texts
inside_text f l = map-Stmt Stmt Arm Lines Texts (lines (scope_of f)) (arm_text (scope_of f)) l

abbrev inside_rule : CFunction → ℕ → Stmt-F Stmt Arm → Stmt-F Rule Cased
inside_rule f labels l = map-Stmt Stmt Arm Rule Cased (rule_of f labels) (cased_of f labels) l

kind : (f : CFunction) (labels : ℕ) (t : Stmt) (l : Stmt-F Stmt Arm)
    → roll-Stmt l ≡ t
    → ((after_call in_loop : Bool) (room : ℕ) (d : List ℕ)
    → AllSpaces d
    → (rule_step f labels (inside_rule f labels l)).holds after_call in_loop room ≡ true
    → LineAt (scope_of f) (suc room) in_loop t ((lines_step (scope_of f) (inside_text f l)).text d))
    → LineOk f labels t
kind f labels t l is case after_call in_loop room d sd h =
    subst (λ (x : Lines). LineAt (scope_of f) (suc room) in_loop t (x.text d)) (sym (lines_roll (scope_of f) l t is))
    (case after_call in_loop room d sd
    (ap (λ (x : Rule). x.holds after_call in_loop room) (sym (rule_roll f labels l t is)) ∙ h))

-- a load
targeted : (sc : Scope) (n : ℕ) (loop : Bool) (v : ℕ) (t : Stmt) (text : List ℕ)
    → Named sc v (variable sc v).name
    → RightText sc (Some v) t text
    → LineAt sc (suc n) loop t ((variable sc v).name ++ (codes " = " ++ text))
targeted sc n loop v t text named r =
    target_line sc n v loop t text named (λ rest. behind_target sc v t text rest named r)

target_fits : (sc : Scope) (ws : ℕ → ℕ) → Context sc ws → (v : Option ℕ) → target_width sc v < 17
target_fits sc ws ok None = lit< tt
target_fits sc ws ok (Some v) = ok.fits v

taken : (sc : Scope) (ws : ℕ → ℕ)
    → Context sc ws
    → (v : Option ℕ) (gives : Option Width)
    → takes ws v gives ≡ true
    → IsNamed sc v
taken sc ws ok None gives h = tt
taken sc ws ok (Some v) None h = absurd cc
taken sc ws ok (Some v) (Some w) h =
    variable_is_named sc ws v ok (and_parts (is_variable ws v) (eqb (ws v) w.bytes) h).0

loop_case : (f : CFunction) (labels : ℕ) → (xs : List Stmt) → AllOk f labels xs → LineOk f labels (s.Loop xs)
loop_case f labels xs all =
    let sc = scope_of f in
    kind f labels (s.Loop xs) (Stmt-F.Loop xs) (s.rolls-Loop xs)
    (λ after_call in_loop room d sd h. loop_line f labels xs all in_loop room d sd h)

break_case : (f : CFunction) (labels : ℕ) → LineOk f labels s.Break
break_case f labels =
    let sc = scope_of f in
    kind f labels s.Break Stmt-F.Break s.rolls-Break
    (λ after_call in_loop room d sd h.
    subst (λ (b : Bool). LineAt sc (suc room) b s.Break (codes "break;\n")) (sym h) (break_line_at sc room))

label_case : (f : CFunction) (labels : ℕ) (n : ℕ) → LineOk f labels (s.Label n)
label_case f labels n =
    let sc = scope_of f in
    kind f labels (s.Label n) (Stmt-F.Label n) (s.rolls-Label n)
    (λ after_call in_loop room d sd h. label_line sc n room in_loop (ltb-true _ _ h))

listed : (f : CFunction) (labels : ℕ) {A : Type 0} (g : A → Stmt)
    → ((a : A) → LineOk f labels (g a))
    → (xs : List A)
    → AllOk f labels (map g xs)
listed f labels g h [] = tt
listed f labels g h (a ∷ xs) = (h a, listed f labels g h xs)

listed_arms : (f : CFunction) (labels : ℕ) {B : Type 0} (g : B → Arm)
    → ((b : B) → ArmOk f labels (g b))
    → (xs : List B)
    → AllArmsOk f labels (map g xs)
listed_arms f labels g h [] = tt
listed_arms f labels g h (a ∷ xs) = (h a, listed_arms f labels g h xs)

-- an arm whose statements are read again
arm_ok : (f : CFunction) (labels : ℕ) {A B : Type 0} (g : A → Stmt) (o : B → Arm)
    → ((a : A) → LineOk f labels (g a))
    → (l : Arm-F A B)
    → ArmOk f labels (roll-Arm (map-Arm A B Stmt Arm g o l))
arm_ok f labels g o h l = listed f labels g h l.body

module _ (f : CFunction) (labels : ℕ) (k : Setting f labels) where
  assign_case : (v : ℕ) (e : Expr) → LineOk f labels (s.Assign v e)
  assign_case v e =
      let sc = scope_of f in
      let ws = widths_in f in
      kind f labels (s.Assign v e) (Stmt-F.Assign v e) (s.rolls-Assign v e)
      (λ after_call in_loop room d sd h.
      let both = and_parts (is_variable ws v) (has_width (ws v) (shape_of ws e)) h in
      assign_line sc v e room in_loop (variable_is_named sc ws v k.context both.0)
      (written_width sc ws k.context (ws v) e both.1))

  load_case : (v : ℕ) (name : Option (List ℕ)) (a : Expr) → LineOk f labels (s.Load v name a)
  load_case v name a =
      let sc = scope_of f in
      let ws = widths_in f in
      kind f labels (s.Load v name a) (Stmt-F.Load v name a) (s.rolls-Load v name a)
      (λ after_call in_loop room d sd h.
      let three = and_parts (is_variable ws v) (is_space name && is_right (shape_of ws a)) h in
      let two = and_parts (is_space name) (is_right (shape_of ws a)) three.1 in
      targeted sc room in_loop v (s.Load v name a) _ (variable_is_named sc ws v k.context three.0)
      (load_right sc v name (variable sc v).width a (k.context.fits v) two.0 (written_right sc ws k.context a two.1)))

  store_case : (name : Option (List ℕ)) (a e : Expr) → LineOk f labels (s.Store name a e)
  store_case name a e =
      let sc = scope_of f in
      let ws = widths_in f in
      kind f labels (s.Store name a e) (Stmt-F.Store name a e) (s.rolls-Store name a e)
      (λ after_call in_loop room d sd h.
      let three = and_parts (is_space name) (is_right (shape_of ws a) && is_right (shape_of ws e)) h in
      let two = and_parts (is_right (shape_of ws a)) (is_right (shape_of ws e)) three.1 in
      let y = written_right sc ws k.context e two.1 in
      alone_line sc room in_loop (s.Store name a e) _
      (store_right sc name (form sc e).width a e y.width three.0 (written_right sc ws k.context a two.0) y))

  -- a call of a declared callee
  called : (v : Option ℕ) (address : ℕ) (es : List Expr) (o : Option CalleeDecl) (room : ℕ) (loop : Bool)
      → declared_in f.callees address ≡ o
      → is_call (widths_in f) v es o ≡ true
      → LineAt (scope_of f) (suc room) loop (s.Call v address es) (call_text (scope_of f) v address es)
  called v address es None room loop at h = absurd cc
  called v address es (Some c) room loop at h =
      let sc = scope_of f in
      let ws = widths_in f in
      let both = and_parts (have_widths ws es c.args) (takes ws v c.gives) h in
      right_line sc room loop v (s.Call v address es) _ (taken sc ws k.context v c.gives both.1)
      (call_right sc v address c es k.callees at (all_wide sc ws k.context es c.args both.0))

  call_case : (v : Option ℕ) (address : ℕ) (es : List Expr) → LineOk f labels (s.Call v address es)
  call_case v address es =
      let sc = scope_of f in
      let ws = widths_in f in
      kind f labels (s.Call v address es) (Stmt-F.Call v address es) (s.rolls-Call v address es)
      (λ after_call in_loop room d sd h.
      called v address es (declared_in f.callees address) room in_loop refl h)

  call_ind_case : (v : Option ℕ) (e : Expr) (es : List Expr) → LineOk f labels (s.CallInd v e es)
  call_ind_case v e es =
      let sc = scope_of f in
      let ws = widths_in f in
      kind f labels (s.CallInd v e es) (Stmt-F.CallInd v e es) (s.rolls-CallInd v e es)
      (λ after_call in_loop room d sd h.
      let three = and_parts (is_target ws v) (is_right (shape_of ws e) && are_right ws es) h in
      let two = and_parts (is_right (shape_of ws e)) (are_right ws es) three.1 in
      right_line sc room in_loop v (s.CallInd v e es) _ (target_named sc ws v k.context three.0)
      (indirect_right sc v (target_width sc v) e es (target_fits sc ws k.context v)
      (written_right sc ws k.context e two.0) (all_right sc ws k.context es two.1)))

  other_case : (v : Option ℕ) (index : ℕ) (es : List Expr) → LineOk f labels (s.Other v index es)
  other_case v index es =
      let sc = scope_of f in
      let ws = widths_in f in
      kind f labels (s.Other v index es) (Stmt-F.Other v index es) (s.rolls-Other v index es)
      (λ after_call in_loop room d sd h.
      let three = and_parts (is_target ws v) (is_long index && are_right ws es) h in
      let two = and_parts (is_long index) (are_right ws es) three.1 in
      right_line sc room in_loop v (s.Other v index es) _ (target_named sc ws v k.context three.0)
      (other_right sc v (target_width sc v) index es (target_fits sc ws k.context v) (ltb-true _ _ two.0)
      (all_right sc ws k.context es two.1)))

  extra_case : (v offset : ℕ) → LineOk f labels (s.Extra v offset)
  extra_case v offset =
      let sc = scope_of f in
      let ws = widths_in f in
      kind f labels (s.Extra v offset) (Stmt-F.Extra v offset) (s.rolls-Extra v offset)
      (λ after_call in_loop room d sd h.
      let three = and_parts after_call (is_variable ws v && is_long offset) h in
      let two = and_parts (is_variable ws v) (is_long offset) three.1 in
      right_line sc room in_loop (Some v) (s.Extra v offset) _ (variable_is_named sc ws v k.context two.0)
      (extra_right sc v (variable sc v).width offset (k.context.fits v) (ltb-true _ _ two.1)))

  divide_case : (v : ℕ) (op : StatementDivision) (a b : Expr) → LineOk f labels (s.Divide v op a b)
  divide_case v op a b =
      let sc = scope_of f in
      let ws = widths_in f in
      kind f labels (s.Divide v op a b) (Stmt-F.Divide v op a b) (s.rolls-Divide v op a b)
      (λ after_call in_loop room d sd h.
      let two = and_parts (is_assigned ws v (shape_of ws a)) (has_width (ws v) (shape_of ws b)) h in
      let left = and_parts (is_variable ws v) (has_width (ws v) (shape_of ws a)) two.0 in
      right_line sc room in_loop (Some v) (s.Divide v op a b) _ (variable_is_named sc ws v k.context left.0)
      (divide_right sc v op a b (written_width sc ws k.context (ws v) a left.1)
      (written_width sc ws k.context (ws v) b two.1)))

  -- ---- statements with bodies

  if_case : (e : Expr) (xs : List Stmt) → AllOk f labels xs → LineOk f labels (s.If e xs)
  if_case e xs all =
      let sc = scope_of f in
      let ws = widths_in f in
      kind f labels (s.If e xs) (Stmt-F.If e xs) (s.rolls-If e xs)
      (λ after_call in_loop room d sd h.
      let both = and_parts (is_condition (shape_of ws e)) (all_hold false (map (rule_of f labels) xs) in_loop room) h in
      if_line f labels e xs (written_test sc ws k.context e both.0) all in_loop room d sd both.1)

  else_case : (e : Expr) (xs ys : List Stmt)
      → AllOk f labels xs
      → AllOk f labels ys
      → LineOk f labels (s.IfElse e xs ys)
  else_case e xs ys all also =
      let sc = scope_of f in
      let ws = widths_in f in
      let r = rule_of f labels in
      kind f labels (s.IfElse e xs ys) (Stmt-F.IfElse e xs ys) (s.rolls-IfElse e xs ys)
      (λ after_call in_loop room d sd h.
      let three = and_parts (is_condition (shape_of ws e))
      (all_hold false (map r xs) in_loop room && all_hold false (map r ys) in_loop room) h in
      let two = and_parts (all_hold false (map r xs) in_loop room) (all_hold false (map r ys) in_loop room) three.1 in
      else_line f labels e xs ys (written_test sc ws k.context e three.0) all also in_loop room d sd two.0 two.1)

  while_case : (e : Expr) (xs : List Stmt) → AllOk f labels xs → LineOk f labels (s.While e xs)
  while_case e xs all =
      let sc = scope_of f in
      let ws = widths_in f in
      kind f labels (s.While e xs) (Stmt-F.While e xs) (s.rolls-While e xs)
      (λ after_call in_loop room d sd h.
      let both = and_parts (is_condition (shape_of ws e)) (all_hold false (map (rule_of f labels) xs) true room) h in
      while_line f labels e xs (written_test sc ws k.context e both.0) all in_loop room d sd both.1)

  do_case : (xs : List Stmt) (e : Expr) → AllOk f labels xs → LineOk f labels (s.DoWhile xs e)
  do_case xs e all =
      let sc = scope_of f in
      let ws = widths_in f in
      kind f labels (s.DoWhile xs e) (Stmt-F.DoWhile xs e) (s.rolls-DoWhile xs e)
      (λ after_call in_loop room d sd h.
      let both = and_parts (is_condition (shape_of ws e)) (all_hold false (map (rule_of f labels) xs) true room) h in
      do_line f labels xs e all (written_test sc ws k.context e both.0) in_loop room d sd both.1)

  switched : (e : Expr) (arms : List Arm) (o : Option Shape)
      → AllArmsOk f labels arms
      → (loop : Bool) (room : ℕ) (d : List ℕ)
      → AllSpaces d
      → shape_of (widths_in f) e ≡ o
      → are_cases_of (all_cases (map (cased_of f labels) arms)) o ≡ true
      → arms_hold (map (cased_of f labels) arms) room ≡ true
      → LineAt (scope_of f) (suc room) loop (s.Switch e arms)
      (codes "switch (" ++ ((form (scope_of f) e).plain
      ++ (codes ") {\n" ++ (all_arms (map (arm_text (scope_of f)) arms) d ++ (d ++ codes "}\n")))))
  switched e arms None all loop room d sd is h g = absurd cc
  switched e arms (Some o) all loop room d sd is h g =
      let sc = scope_of f in
      let ws = widths_in f in
      let values = all_cases (map (cased_of f labels) arms) in
      let both = and_parts (are_distinct values) (are_words o.width values) h in
      let z = (reads sc ws k.context e o is).size in
      let fits = z.fits in
      switch_line f labels o.width e arms (written sc ws k.context e o is) all loop room d sd (omega arith) both.1 g

  switch_case : (e : Expr) (arms : List Arm) → AllArmsOk f labels arms → LineOk f labels (s.Switch e arms)
  switch_case e arms all =
      let sc = scope_of f in
      let ws = widths_in f in
      kind f labels (s.Switch e arms) (Stmt-F.Switch e arms) (s.rolls-Switch e arms)
      (λ after_call in_loop room d sd h.
      let both = and_parts (are_cases_of (all_cases (map (cased_of f labels) arms)) (shape_of ws e))
      (arms_hold (map (cased_of f labels) arms) room) h in
      switched e arms (shape_of ws e) all in_loop room d sd refl both.0 both.1)

  -- ---- the others

  goto_case : (n : ℕ) → LineOk f labels (s.Goto n)
  goto_case n =
      let sc = scope_of f in
      kind f labels (s.Goto n) (Stmt-F.Goto n) (s.rolls-Goto n)
      (λ after_call in_loop room d sd h.
      let both = and_parts (ltb 0 n) (ltb n labels) h in
      let low : n < labels = ltb-true _ _ both.1 in
      let few = k.few in
      goto_line sc n room in_loop (omega arith))

  returned : (gives : Option Width) (e : Option Expr) (room : ℕ) (loop : Bool)
      → is_returned (widths_in f) gives e ≡ true
      → LineAt (scope_of f) (suc room) loop (s.Return e) (return_text (scope_of f) e)
  returned gives None room loop h = return_line (scope_of f) room loop
  returned None (Some e) room loop h = absurd cc
  returned (Some w) (Some e) room loop h =
      give_line (scope_of f) e room loop (written_width (scope_of f) (widths_in f) k.context w.bytes e h)

  return_case : (e : Option Expr) → LineOk f labels (s.Return e)
  return_case e =
      let sc = scope_of f in
      kind f labels (s.Return e) (Stmt-F.Return e) (s.rolls-Return e)
      (λ after_call in_loop room d sd h. returned f.gives e room in_loop h)

  -- ---- all of them

  layer_ok : {A B : Type 0} (g : A → Stmt) (o : B → Arm)
      → ((a : A) → LineOk f labels (g a))
      → ((b : B) → ArmOk f labels (o b))
      → (l : Stmt-F A B)
      → LineOk f labels (roll-Stmt (map-Stmt A B Stmt Arm g o l))
  layer_ok g o h q (Stmt-F.Assign v e) = subst (LineOk f labels) (sym (s.rolls-Assign v e)) (assign_case v e)
  layer_ok g o h q (Stmt-F.Load v name a) = subst (LineOk f labels) (sym (s.rolls-Load v name a)) (load_case v name a)
  layer_ok g o h q (Stmt-F.Store name a e) =
      subst (LineOk f labels) (sym (s.rolls-Store name a e)) (store_case name a e)
  layer_ok g o h q (Stmt-F.Call v address es) =
      subst (LineOk f labels) (sym (s.rolls-Call v address es)) (call_case v address es)
  layer_ok g o h q (Stmt-F.CallInd v e es) =
      subst (LineOk f labels) (sym (s.rolls-CallInd v e es)) (call_ind_case v e es)
  layer_ok g o h q (Stmt-F.Other v index es) =
      subst (LineOk f labels) (sym (s.rolls-Other v index es)) (other_case v index es)
  layer_ok g o h q (Stmt-F.Extra v offset) =
      subst (LineOk f labels) (sym (s.rolls-Extra v offset)) (extra_case v offset)
  layer_ok g o h q (Stmt-F.Divide v op a b) =
      subst (LineOk f labels) (sym (s.rolls-Divide v op a b)) (divide_case v op a b)
  layer_ok g o h q (Stmt-F.If e xs) =
      subst (LineOk f labels) (sym (s.rolls-If e (map g xs))) (if_case e (map g xs) (listed f labels g h xs))
  layer_ok g o h q (Stmt-F.IfElse e xs ys) =
      subst (LineOk f labels) (sym (s.rolls-IfElse e (map g xs) (map g ys)))
      (else_case e (map g xs) (map g ys) (listed f labels g h xs) (listed f labels g h ys))
  layer_ok g o h q (Stmt-F.While e xs) =
      subst (LineOk f labels) (sym (s.rolls-While e (map g xs))) (while_case e (map g xs) (listed f labels g h xs))
  layer_ok g o h q (Stmt-F.DoWhile xs e) =
      subst (LineOk f labels) (sym (s.rolls-DoWhile (map g xs) e)) (do_case (map g xs) e (listed f labels g h xs))
  layer_ok g o h q (Stmt-F.Loop xs) =
      subst (LineOk f labels) (sym (s.rolls-Loop (map g xs))) (loop_case f labels (map g xs) (listed f labels g h xs))
  layer_ok g o h q Stmt-F.Break = subst (LineOk f labels) (sym s.rolls-Break) (break_case f labels)
  layer_ok g o h q (Stmt-F.Switch e arms) =
      subst (LineOk f labels) (sym (s.rolls-Switch e (map o arms)))
      (switch_case e (map o arms) (listed_arms f labels o q arms))
  layer_ok g o h q (Stmt-F.Goto n) = subst (LineOk f labels) (sym (s.rolls-Goto n)) (goto_case n)
  layer_ok g o h q (Stmt-F.Label n) = subst (LineOk f labels) (sym (s.rolls-Label n)) (label_case f labels n)
  layer_ok g o h q (Stmt-F.Return e) = subst (LineOk f labels) (sym (s.rolls-Return e)) (return_case e)

  pub line_ok : (t : Stmt) → LineOk f labels t
  line_ok t = ind-Stmt (LineOk f labels) (ArmOk f labels)
      (λ l y is. subst (λ (z : Stmt-F Stmt Arm). LineOk f labels (roll-Stmt z)) is
      (layer_ok (λ p. p.0) (λ p. p.0) (λ p. p.1) (λ p. p.1) y))
      (λ l y is. subst (λ (z : Arm-F Stmt Arm). ArmOk f labels (roll-Arm z)) is
      (arm_ok f labels (λ p. p.0) (λ p. p.0) (λ p. p.1) y)) t

  pub lines_ok : (xs : List Stmt) → AllOk f labels xs
  lines_ok [] = tt
  lines_ok (x ∷ xs) = (line_ok x, lines_ok xs)
