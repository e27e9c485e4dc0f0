-- Statements with bodies are read again, where the statements inside them are.
use Rattle.std.proofs.Common.{◌≡◌, ℕ, zero, suc, ◌-◌, ◌^◌, ◌<◌, ◌≤◌, Bool, true, false, eqb, ltb, ◌&&◌, List, [], ◌∷◌, ◌++◌, length, Some, None, refl, ◌∙◌, subst, arith, append_assoc, length-append}
use Rattle.std.specs.Prelude.{codes, map}
use Rattle.std.proofs.lemmas.Bool.{ltb-true, and_parts}
use Rattle.cmeaning.specs.declared.tree.CFunction.{CFunction}
use Rattle.cmeaning.specs.declared.tree.Expr.{Expr}
use Rattle.cmeaning.specs.declared.tree.Stmt.{Stmt}
use Rattle.cmeaning.specs.declared.tree.Stmt.TheVariants as s
use Rattle.cmeaning.specs.Valid.{are_callees, rule_of, all_hold}
use Rattle.cmeaning.specs.Do.{widths_in}
use Rattle.ctext.specs.Names.{Scope, scope_of}
use Rattle.ctext.specs.Expressions.{form}
use Rattle.ctext.specs.Statements.{lines, deeper, all_lines, loop_head}
use Rattle.cread.specs.Names.{type_at, variable_at, entry_at}
use Rattle.cread.specs.Words.{after, run_of, past_spaces, many_by}
use Rattle.cread.specs.Expressions.{expr_at}
use Rattle.cread.specs.Statements.{line_at, plain_line_at, right_at, division_at, effect_at, target_at, not_own, spaced_by, body_by, closed_by, head_at, if_by, while_by, loop_by, do_by, line_by, statement_by, statement_at}
use Rattle.cread.proofs.Naming.{IsEnd, at_close}
use Rattle.cread.proofs.Fronts.{AllSpaces, spaces_again, no_spaces}
use Rattle.cread.proofs.Law.{Context}
use Rattle.cread.proofs.Parts.{Written, Starts, own_of, LineAt}

-- what is known of the function around
pub record Setting (f : CFunction) (labels : ℕ) : Type 0 where
  pub context : Context (scope_of f) (widths_in f)
  pub callees : are_callees f.callees ≡ true
  pub few : labels ≤ 2 ^ 32

-- a statement that obeys its rule is read again
abbrev pub LineOk : CFunction → ℕ → Stmt → Type 0
LineOk f labels t = (after_call in_loop : Bool) (room : ℕ) (d : List ℕ) → AllSpaces d
    → (rule_of f labels t).holds after_call in_loop room ≡ true
    → LineAt (scope_of f) (suc room) in_loop t ((lines (scope_of f) t).text d)

abbrev pub AllOk : CFunction → ℕ → List Stmt → Type 0
AllOk f labels [] = Unit {0}
AllOk f labels (x ∷ xs) = LineOk f labels x × AllOk f labels xs

abbrev texts : CFunction → List Stmt → List ℕ → List ℕ
texts f xs d = all_lines (map (lines (scope_of f)) xs) d

abbrev Holds : CFunction → ℕ → Bool → List Stmt → Bool → ℕ → Type 0
Holds f labels after_call xs in_loop room = all_hold after_call (map (rule_of f labels) xs) in_loop room ≡ true

-- ---- where rows end

statement_brace : (sc : Scope) (n : ℕ) (rest : List ℕ) → statement_at sc n (125 ∷ rest) ≡ None
unfolding statement_at statement_by line_at plain_line_at loop_head effect_at right_at division_at target_at
    variable_at entry_at after
statement_brace sc zero rest = refl
statement_brace sc (suc n) rest = refl

statement_case : (sc : Scope) (n : ℕ) (rest : List ℕ) → statement_at sc n (codes "case 0x" ++ rest) ≡ None
unfolding statement_at statement_by line_at plain_line_at loop_head effect_at right_at division_at target_at
    variable_at entry_at after
statement_case sc zero rest = refl
statement_case sc (suc n) rest = refl

own_brace : (arm : Bool) (rest : List ℕ) → not_own arm (125 ∷ rest) ≡ true
unfolding after
own_brace true rest = refl
own_brace false rest = refl

pub past_pad : (d : List ℕ) (b : ℕ) (rest : List ℕ)
    → AllSpaces d
    → eqb b 32 ≡ false
    → past_spaces (d ++ b ∷ rest) ≡ b ∷ rest
past_pad d b rest sd other = spaces_again d (b ∷ rest) sd ∙ no_spaces b rest other

pub brace_ends : (sc : Scope) (n : ℕ) (arm : Bool) (d rest : List ℕ)
    → AllSpaces d
    → spaced_by arm (statement_at sc n) (d ++ 125 ∷ rest) ≡ None
brace_ends sc n arm d rest sd =
    let p = past_pad d 125 rest sd refl in
    let o = own_brace arm rest in
    rw (p, o) (statement_brace sc n rest)

pub case_ends : (sc : Scope) (n : ℕ) (d rest : List ℕ)
    → AllSpaces d
    → spaced_by true (statement_at sc n) (d ++ (codes "case 0x" ++ rest)) ≡ None
unfolding after
case_ends sc n d rest sd =
    let p = past_pad d 99 (codes "ase 0x" ++ rest) sd refl in
    rw p (statement_case sc n rest)

pub break_ends : (sc : Scope) (n : ℕ) (d rest : List ℕ)
    → AllSpaces d
    → spaced_by true (statement_at sc n) (d ++ (codes "break;\n" ++ rest)) ≡ None
unfolding after
break_ends sc n d rest sd =
    let p = past_pad d 98 (codes "reak;\n" ++ rest) sd refl in
    rw p refl

-- ---- rows of statements

moved_line : (sc : Scope) (n m : ℕ) (loop : Bool) (t : Stmt) (text : List ℕ)
    → n ≡ m
    → LineAt sc n loop t text
    → LineAt sc m loop t text
moved_line sc n m loop t text is l = subst (λ (k : ℕ). LineAt sc k loop t text) is l

-- the first of a row
pub record First (f : CFunction) (labels : ℕ) (x : Stmt) (xs : List Stmt) (in_loop : Bool) (room : ℕ)
    (d : List ℕ) : Type 0 where
  pub line : LineAt (scope_of f) room in_loop x ((lines (scope_of f) x).text d)
  pub others : Holds f labels (rule_of f labels x).calls xs in_loop room

pub deeper_spaces : (d : List ℕ) → AllSpaces d → AllSpaces (deeper d)
deeper_spaces d sd = (refl, (refl, sd))

pub head_again : (sc : Scope) (e : Expr) (text rest : List ℕ)
    → ((c : ℕ) (rest : List ℕ) → IsEnd c → expr_at sc (text ++ c ∷ rest) ≡ Some (e, c ∷ rest))
    → head_at sc (text ++ 41 ∷ 32 ∷ 123 ∷ 10 ∷ rest) ≡ Some (e, rest)
unfolding after
head_again sc e text rest is = let one = is 41 (32 ∷ 123 ∷ 10 ∷ rest) at_close in rw one refl

-- a line that begins with a word of its own
pub worded : (sc : Scope) (n : ℕ) (loop : Bool) (t : Stmt) (text : List ℕ)
    → ((rest : List ℕ) → statement_at sc n (text ++ rest) ≡ Some (t, rest))
    → ((z : List ℕ) → Starts (text ++ z))
    → ((z : List ℕ) → after (codes "break;\n") (text ++ z) ≡ None)
    → 0 < length text
    → LineAt sc n loop t text
worded sc n loop t text read starts no_break long = record {
  read = read;
  starts = starts;
  not_own = λ arm both z. own_of arm (text ++ z) (no_break z);
  long = long;
}

module _ (f : CFunction) (labels : ℕ) where
  pub first_ok : (x : Stmt) (xs : List Stmt) (after_call in_loop : Bool) (room : ℕ) (d : List ℕ)
      → LineOk f labels x
      → AllSpaces d
      → Holds f labels after_call (x ∷ xs) in_loop room
      → First f labels x xs in_loop room d
  first_ok x xs after_call in_loop room d ok sd h =
      let three = and_parts (ltb 0 room)
      ((rule_of f labels x).holds after_call in_loop (room - 1)
      && all_hold (rule_of f labels x).calls (map (rule_of f labels) xs) in_loop room) h in
      let two = and_parts ((rule_of f labels x).holds after_call in_loop (room - 1))
      (all_hold (rule_of f labels x).calls (map (rule_of f labels) xs) in_loop room) three.1 in
      let some : 0 < room = ltb-true _ _ three.0 in
      record {
        line = moved_line (scope_of f) (suc (room - 1)) room in_loop x ((lines (scope_of f) x).text d) (omega arith)
            (ok after_call in_loop (room - 1) d sd two.0);
        others = two.1;
      }

  row_again : (xs : List Stmt)
      → AllOk f labels xs
      → (arm after_call in_loop : Bool) (room k : ℕ) (d rest : List ℕ)
      → (arm && in_loop) ≡ false
      → AllSpaces d
      → Holds f labels after_call xs in_loop room
      → spaced_by arm (statement_at (scope_of f) room) rest ≡ None
      → length xs ≤ k
      → ◌≡◌ {A = List Stmt × List ℕ} (many_by (spaced_by arm (statement_at (scope_of f) room)) k
      (texts f xs d ++ rest)) (xs, rest)
  unfolding many_by
  row_again [] all arm after_call in_loop room zero d rest loop sd h ends le = refl
  row_again [] all arm after_call in_loop room (suc k) d rest loop sd h ends le = rw ends refl
  row_again (x ∷ xs) all arm after_call in_loop room zero d rest loop sd h ends le = absurd (omega arith)
  row_again (x ∷ xs) all arm after_call in_loop room (suc k) d rest loop sd h ends le =
      let sc = scope_of f in
      let first = first_ok x xs after_call in_loop room d all.0 sd h in
      let text = (lines sc x).text d in
      let others = texts f xs d ++ rest in
      let grouped : (d ++ (text ++ texts f xs d)) ++ rest ≡ d ++ (text ++ others) = simp append_assoc in
      let spaced : past_spaces (d ++ (text ++ others)) ≡ text ++ others =
      spaces_again d (text ++ others) sd ∙ (first.line.starts others).no_space in
      let own = first.line.not_own arm loop others in
      let read = first.line.read others in
      let more = row_again xs all.1 arm (rule_of f labels x).calls in_loop room k d rest loop sd first.others ends
      (omega arith) in
      rw (grouped, spaced, own, read, more) refl

  row_long : (xs : List Stmt)
      → AllOk f labels xs
      → (after_call in_loop : Bool) (room : ℕ) (d z : List ℕ)
      → AllSpaces d
      → Holds f labels after_call xs in_loop room
      → length xs ≤ length (texts f xs d ++ z)
  row_long [] all after_call in_loop room d z sd h = omega arith
  row_long (x ∷ xs) all after_call in_loop room d z sd h =
      let first = first_ok x xs after_call in_loop room d all.0 sd h in
      let text = (lines (scope_of f) x).text d in
      let one = first.line.long in
      let more = row_long xs all.1 (rule_of f labels x).calls in_loop room d z sd first.others in
      omega (
        arith,
        one,
        more,
        length-append (d ++ (text ++ texts f xs d)) z,
        length-append d (text ++ texts f xs d),
        length-append text (texts f xs d),
        length-append (texts f xs d) z,
      )

  pub body_again : (xs : List Stmt)
      → AllOk f labels xs
      → (arm after_call in_loop : Bool) (room : ℕ) (d rest : List ℕ)
      → (arm && in_loop) ≡ false
      → AllSpaces d
      → Holds f labels after_call xs in_loop room
      → spaced_by arm (statement_at (scope_of f) room) rest ≡ None
      → ◌≡◌ {A = List Stmt × List ℕ} (body_by arm (statement_at (scope_of f) room) (texts f xs d ++ rest)) (xs, rest)
  body_again xs all arm after_call in_loop room d rest loop sd h ends =
      row_again xs all arm after_call in_loop room (length (texts f xs d ++ rest)) d rest loop sd h ends
      (row_long xs all after_call in_loop room d rest sd h)

  -- a body that is no arm's, one level deeper, up to the line with its brace
  inner_again : (xs : List Stmt)
      → AllOk f labels xs
      → (in_loop : Bool) (room : ℕ) (d rest : List ℕ)
      → AllSpaces d
      → Holds f labels false xs in_loop room
      → ◌≡◌ {A = List Stmt × List ℕ} (body_by false (statement_at (scope_of f) room)
      (texts f xs (deeper d) ++ (d ++ 125 ∷ rest))) (xs, d ++ 125 ∷ rest)
  inner_again xs all in_loop room d rest sd h =
      body_again xs all false false in_loop room (deeper d) (d ++ 125 ∷ rest) refl (deeper_spaces d sd) h
      (brace_ends (scope_of f) room false d rest sd)

  closed_again : (xs : List Stmt)
      → AllOk f labels xs
      → (in_loop : Bool) (room : ℕ) (d rest : List ℕ)
      → AllSpaces d
      → Holds f labels false xs in_loop room
      → closed_by (statement_at (scope_of f) room) (texts f xs (deeper d) ++ (d ++ 125 ∷ 10 ∷ rest)) ≡ Some (xs, rest)
  unfolding after
  closed_again xs all in_loop room d rest sd h =
      let one = inner_again xs all in_loop room d (10 ∷ rest) sd h in
      let p = past_pad d 125 (10 ∷ rest) sd refl in
      rw (one, p) refl

  -- ---- the kinds of statements

  pub if_line : (e : Expr) (xs : List Stmt)
      → Written (scope_of f) e
      → AllOk f labels xs
      → (in_loop : Bool) (room : ℕ) (d : List ℕ)
      → AllSpaces d
      → Holds f labels false xs in_loop room
      → LineAt (scope_of f) (suc room) in_loop (s.If e xs)
      (codes "if (" ++ ((form (scope_of f) e).test
      ++ (codes ") {\n" ++ (texts f xs (deeper d) ++ (d ++ codes "}\n")))))
  unfolding statement_at statement_by line_at plain_line_at loop_head line_by if_by after past_spaces run_of type_at
  if_line e xs w all in_loop room d sd h =
      let sc = scope_of f in
      let test = (form sc e).test in
      let body = texts f xs (deeper d) in
      worded sc (suc room) in_loop (s.If e xs)
      (codes "if (" ++ (test ++ (codes ") {\n" ++ (body ++ (d ++ codes "}\n")))))
      (λ rest.
      let last = d ++ 125 ∷ 10 ∷ rest in
      let grouped : (test ++ (codes ") {\n" ++ (body ++ (d ++ codes "}\n")))) ++ rest
      ≡ test ++ 41 ∷ 32 ∷ 123 ∷ 10 ∷ (body ++ last) = simp append_assoc in
      let head = head_again sc e test (body ++ last) w.test in
      let inner = inner_again xs all in_loop room d (10 ∷ rest) sd h in
      let p = past_pad d 125 (10 ∷ rest) sd refl in
      rw (grouped, head, inner, p) refl)
      (λ z. record { no_space = refl; not_case = refl; not_local = refl }) (λ z. refl) (omega arith)

  pub else_line : (e : Expr) (xs ys : List Stmt)
      → Written (scope_of f) e
      → AllOk f labels xs
      → AllOk f labels ys
      → (in_loop : Bool) (room : ℕ) (d : List ℕ)
      → AllSpaces d
      → Holds f labels false xs in_loop room
      → Holds f labels false ys in_loop room
      → LineAt (scope_of f) (suc room) in_loop (s.IfElse e xs ys)
      (codes "if (" ++ ((form (scope_of f) e).test
      ++ (codes ") {\n" ++ (texts f xs (deeper d)
      ++ (d ++ (codes "} else {\n" ++ (texts f ys (deeper d) ++ (d ++ codes "}\n"))))))))
  unfolding statement_at statement_by line_at plain_line_at loop_head line_by if_by after past_spaces run_of type_at
  else_line e xs ys w all also in_loop room d sd h g =
      let sc = scope_of f in
      let test = (form sc e).test in
      let body = texts f xs (deeper d) in
      let other = texts f ys (deeper d) in
      worded sc (suc room) in_loop (s.IfElse e xs ys)
      (codes "if (" ++ (test ++ (codes ") {\n"
      ++ (body ++ (d ++ (codes "} else {\n" ++ (other ++ (d ++ codes "}\n"))))))))
      (λ rest.
      let last = other ++ (d ++ 125 ∷ 10 ∷ rest) in
      let mid = codes " else {\n" ++ last in
      let grouped : (test ++ (codes ") {\n"
      ++ (body ++ (d ++ (codes "} else {\n" ++ (other ++ (d ++ codes "}\n"))))))) ++ rest
      ≡ test ++ 41 ∷ 32 ∷ 123 ∷ 10 ∷ (body ++ (d ++ 125 ∷ mid)) = simp append_assoc in
      let head = head_again sc e test (body ++ (d ++ 125 ∷ mid)) w.test in
      let inner = inner_again xs all in_loop room d mid sd h in
      let p = past_pad d 125 mid sd refl in
      let second = closed_again ys also in_loop room d rest sd g in
      rw (grouped, head, inner, p, second) refl)
      (λ z. record { no_space = refl; not_case = refl; not_local = refl }) (λ z. refl) (omega arith)

  pub while_line : (e : Expr) (xs : List Stmt)
      → Written (scope_of f) e
      → AllOk f labels xs
      → (in_loop : Bool) (room : ℕ) (d : List ℕ)
      → AllSpaces d
      → Holds f labels false xs true room
      → LineAt (scope_of f) (suc room) in_loop (s.While e xs)
      (codes "while (" ++ ((form (scope_of f) e).test
      ++ (codes ") {\n" ++ (texts f xs (deeper d) ++ (d ++ codes "}\n")))))
  unfolding statement_at statement_by line_at plain_line_at loop_head line_by while_by after past_spaces run_of type_at
  while_line e xs w all in_loop room d sd h =
      let sc = scope_of f in
      let test = (form sc e).test in
      let body = texts f xs (deeper d) in
      worded sc (suc room) in_loop (s.While e xs)
      (codes "while (" ++ (test ++ (codes ") {\n" ++ (body ++ (d ++ codes "}\n")))))
      (λ rest.
      let last = d ++ 125 ∷ 10 ∷ rest in
      let grouped : (test ++ (codes ") {\n" ++ (body ++ (d ++ codes "}\n")))) ++ rest
      ≡ test ++ 41 ∷ 32 ∷ 123 ∷ 10 ∷ (body ++ last) = simp append_assoc in
      let endless = (w.test_head (41 ∷ 32 ∷ 123 ∷ 10 ∷ (body ++ last))).not_endless in
      let head = head_again sc e test (body ++ last) w.test in
      let second = closed_again xs all true room d rest sd h in
      rw (grouped, endless, head, second) refl)
      (λ z. record { no_space = refl; not_case = refl; not_local = refl }) (λ z. refl) (omega arith)

  pub loop_line : (xs : List Stmt)
      → AllOk f labels xs
      → (in_loop : Bool) (room : ℕ) (d : List ℕ)
      → AllSpaces d
      → Holds f labels false xs true room
      → LineAt (scope_of f) (suc room) in_loop (s.Loop xs) (loop_head ++ (texts f xs (deeper d) ++ (d ++ codes "}\n")))
  unfolding statement_at statement_by line_at plain_line_at loop_head line_by loop_by after past_spaces run_of type_at
  loop_line xs all in_loop room d sd h =
      let sc = scope_of f in
      let body = texts f xs (deeper d) in
      worded sc (suc room) in_loop (s.Loop xs) (loop_head ++ (body ++ (d ++ codes "}\n")))
      (λ rest.
      let grouped : (body ++ (d ++ codes "}\n")) ++ rest ≡ body ++ (d ++ 125 ∷ 10 ∷ rest) = simp append_assoc in
      let second = closed_again xs all true room d rest sd h in
      rw (grouped, second) refl)
      (λ z. record { no_space = refl; not_case = refl; not_local = refl }) (λ z. refl) (omega arith)

  pub do_line : (xs : List Stmt) (e : Expr)
      → AllOk f labels xs
      → Written (scope_of f) e
      → (in_loop : Bool) (room : ℕ) (d : List ℕ)
      → AllSpaces d
      → Holds f labels false xs true room
      → LineAt (scope_of f) (suc room) in_loop (s.DoWhile xs e)
      (codes "do {\n" ++ (texts f xs (deeper d)
      ++ (d ++ (codes "} while (" ++ ((form (scope_of f) e).test ++ codes ");\n")))))
  unfolding statement_at statement_by line_at plain_line_at loop_head line_by do_by after past_spaces run_of type_at
  do_line xs e all w in_loop room d sd h =
      let sc = scope_of f in
      let test = (form sc e).test in
      let body = texts f xs (deeper d) in
      worded sc (suc room) in_loop (s.DoWhile xs e)
      (codes "do {\n" ++ (body ++ (d ++ (codes "} while (" ++ (test ++ codes ");\n")))))
      (λ rest.
      let last = codes " while (" ++ (test ++ 41 ∷ 59 ∷ 10 ∷ rest) in
      let grouped : (body ++ (d ++ (codes "} while (" ++ (test ++ codes ");\n")))) ++ rest
      ≡ body ++ (d ++ 125 ∷ last) = simp append_assoc in
      let inner = inner_again xs all true room d last sd h in
      let p = past_pad d 125 last sd refl in
      let condition = w.test 41 (59 ∷ 10 ∷ rest) at_close in
      rw (grouped, inner, p, condition) refl)
      (λ z. record { no_space = refl; not_case = refl; not_local = refl }) (λ z. refl) (omega arith)
