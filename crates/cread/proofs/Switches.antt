-- Switches are read again, where the statements inside them are.
use Rattle.std.proofs.Common.{◌≡◌, ℕ, zero, suc, ◌^◌, ◌<◌, ◌≤◌, Bool, true, false, ltb, ◌&&◌, List, [], ◌∷◌, ◌++◌, length, Some, None, refl, sym, ap, ◌∙◌, subst, arith, append_assoc, length-append}
use Rattle.std.specs.Prelude.{codes, map}
use Rattle.std.proofs.lemmas.Bool.{ltb-true, and_parts, and_from}
use Rattle.bits_core.specs.Value.{limit}
use Rattle.bits_core.proofs.Machine.{limit_most}
use Rattle.cmeaning.specs.declared.tree.CFunction.{CFunction}
use Rattle.cmeaning.specs.declared.tree.Expr.{Expr}
use Rattle.cmeaning.specs.declared.tree.Arm.{Arm}
use Rattle.cmeaning.specs.declared.tree.Stmt.{Stmt}
use Rattle.cmeaning.specs.declared.tree.Stmt.TheVariants as s
use Rattle.cmeaning.specs.Valid.{Cased, rule_of, cased_of, all_hold, has_case, arms_hold, all_cases, are_words}
use Rattle.ctext.specs.Names.{Scope, scope_of, hex}
use Rattle.ctext.specs.Expressions.{form}
use Rattle.ctext.specs.Statements.{lines, deeper, all_lines, breaks, case_lines, break_line, body_text, body_breaks, arm_text, all_arms, loop_head}
use Rattle.ctext.proofs.Nested.{arm_lines}
use Rattle.cread.specs.Words.{after, run_of, past_spaces, number_from, decimal_at, many_by}
use Rattle.cread.specs.Names.{type_at}
use Rattle.cread.specs.Statements.{line_at, plain_line_at, spaced_by, case_at, cases_at, past_break, arm_by, switch_by, line_by, statement_by, statement_at}
use Rattle.cread.proofs.Fronts.{hex_again, AllSpaces, spaces_again}
use Rattle.cread.proofs.Parts.{Written, LineAt}
use Rattle.cread.proofs.Bodies.{AllOk, first_ok, past_pad, brace_ends, case_ends, break_ends, body_again, deeper_spaces, head_again, worded}
use Rattle.cmeaning.proofs.Switches.{cased_is}

abbrev texts : CFunction → List Stmt → List ℕ → List ℕ
texts f xs d = all_lines (map (lines (scope_of f)) xs) d

-- ---- case values

abbrev pub AllSmall : List ℕ → Type 0
AllSmall [] = Unit {0}
AllSmall (x ∷ xs) = (x < 2 ^ 128) × AllSmall xs

words_small : (w : ℕ) (xs : List ℕ) → w ≤ 16 → are_words w xs ≡ true → AllSmall xs
words_small w [] le h = tt
words_small w (x ∷ xs) le h =
    let both = and_parts (ltb x (limit w)) (are_words w xs) h in
    let low : x < limit w = ltb-true _ _ both.0 in
    (omega (arith, low, limit_most w le), words_small w xs le both.1)

words_front : (w : ℕ) (xs ys : List ℕ)
    → are_words w (xs ++ ys) ≡ true
    → (are_words w xs ≡ true) × (are_words w ys ≡ true)
words_front w [] ys h = (refl, h)
words_front w (x ∷ xs) ys h =
    let both = and_parts (ltb x (limit w)) (are_words w (xs ++ ys)) h in
    let rest = words_front w xs ys both.1 in
    (and_from (ltb x (limit w)) (are_words w xs) both.0 rest.0, rest.1)

case_again : (d : List ℕ) (n : ℕ) (rest : List ℕ)
    → AllSpaces d
    → n < 2 ^ 128
    → case_at (d ++ (codes "case 0x" ++ (hex n ++ 58 ∷ 10 ∷ rest))) ≡ Some (n, rest)
unfolding case_at after
case_again d n rest sd low =
    let p = past_pad d 99 (codes "ase 0x" ++ (hex n ++ 58 ∷ 10 ∷ rest)) sd refl in
    let h = hex_again n 58 (10 ∷ rest) low refl in
    rw (p, h) refl

case_lines_again : (ns d tail : List ℕ) (k : ℕ)
    → AllSpaces d
    → AllSmall ns
    → case_at tail ≡ None
    → length ns ≤ k
    → ◌≡◌ {A = List ℕ × List ℕ} (many_by case_at k (case_lines ns d ++ tail)) (ns, tail)
unfolding many_by
case_lines_again [] d tail zero sd small ends le = refl
case_lines_again [] d tail (suc k) sd small ends le = rw ends refl
case_lines_again (n ∷ ns) d tail zero sd small ends le = absurd (omega arith)
case_lines_again (n ∷ ns) d tail (suc k) sd small ends le =
    let grouped : (d ++ (codes "case 0x" ++ (hex n ++ (codes ":\n" ++ case_lines ns d)))) ++ tail
    ≡ d ++ (codes "case 0x" ++ (hex n ++ 58 ∷ 10 ∷ (case_lines ns d ++ tail))) = simp append_assoc in
    let one = case_again d n (case_lines ns d ++ tail) sd small.0 in
    let more = case_lines_again ns d tail k sd small.1 ends (omega arith) in
    rw (grouped, one, more) refl

cases_long : (ns d z : List ℕ) → length ns ≤ length (case_lines ns d ++ z)
cases_long [] d z = omega arith
cases_long (n ∷ ns) d z =
    let more = cases_long ns d z in
    omega (
      arith,
      more,
      length-append (d ++ (codes "case 0x" ++ (hex n ++ (codes ":\n" ++ case_lines ns d)))) z,
      length-append d (codes "case 0x" ++ (hex n ++ (codes ":\n" ++ case_lines ns d))),
      length-append (hex n)
          (codes ":\n" ++ case_lines ns d),
      length-append (case_lines ns d) z,
    )

cases_again : (n : ℕ) (ns d tail : List ℕ)
    → AllSpaces d
    → AllSmall (n ∷ ns)
    → case_at tail ≡ None
    → cases_at (case_lines (n ∷ ns) d ++ tail) ≡ Some (n ∷ ns, tail)
unfolding cases_at
cases_again n ns d tail sd small ends =
    let grouped : (d ++ (codes "case 0x" ++ (hex n ++ (codes ":\n" ++ case_lines ns d)))) ++ tail
    ≡ d ++ (codes "case 0x" ++ (hex n ++ 58 ∷ 10 ∷ (case_lines ns d ++ tail))) = simp append_assoc in
    let one = case_again d n (case_lines ns d ++ tail) sd small.0 in
    let more = case_lines_again ns d tail (length (case_lines ns d ++ tail)) sd small.1 ends (cases_long ns d tail) in
    rw (grouped, one, more) refl

-- ---- arms

-- what follows an arm
pub data ArmEnd (d : List ℕ) : List ℕ → Type 0 where
  at_brace : (z : List ℕ) → ArmEnd d (d ++ 125 ∷ z)
  at_case : (z : List ℕ) → ArmEnd d (d ++ (codes "case 0x" ++ z))

row_ends : (sc : Scope) (n : ℕ) (d more : List ℕ)
    → AllSpaces d
    → ArmEnd d more
    → spaced_by true (statement_at sc n) more ≡ None
row_ends sc n d _ sd (at_brace z) = brace_ends sc n true d z sd
row_ends sc n d _ sd (at_case z) = case_ends sc n d z sd

no_break : (d more : List ℕ) → AllSpaces d → ArmEnd d more → past_break more ≡ more
unfolding after
no_break d _ sd (at_brace z) = let p = past_pad d 125 z sd refl in rw p refl
no_break d _ sd (at_case z) = let p = past_pad d 99 (codes "ase 0x" ++ z) sd refl in rw p refl

break_row : (sc : Scope) (n : ℕ) (b : Bool) (d dd more : List ℕ)
    → AllSpaces d
    → AllSpaces dd
    → ArmEnd d more
    → spaced_by true (statement_at sc n) (break_line b dd ++ more) ≡ None
break_row sc n false d dd more sd sdd end = row_ends sc n d more sd end
break_row sc n true d dd more sd sdd end =
    let grouped : (dd ++ codes "break;\n") ++ more ≡ dd ++ (codes "break;\n" ++ more) =
    append_assoc dd (codes "break;\n") more in rw grouped (break_ends sc n dd more sdd)

behind_break : (b : Bool) (d dd more : List ℕ)
    → AllSpaces d
    → AllSpaces dd
    → ArmEnd d more
    → past_break (break_line b dd ++ more) ≡ more
unfolding after
behind_break false d dd more sd sdd end = no_break d more sd end
behind_break true d dd more sd sdd end =
    let grouped : (dd ++ codes "break;\n") ++ more ≡ dd ++ 98 ∷ (codes "reak;\n" ++ more) =
    append_assoc dd (codes "break;\n") more in
    let p = past_pad dd 98 (codes "reak;\n" ++ more) sdd refl in
    rw (grouped, p) refl

break_no_case : (dd more : List ℕ) → AllSpaces dd → case_at ((dd ++ codes "break;\n") ++ more) ≡ None
unfolding case_at after
break_no_case dd more sdd =
    let grouped : (dd ++ codes "break;\n") ++ more ≡ dd ++ 98 ∷ (codes "reak;\n" ++ more) =
    append_assoc dd (codes "break;\n") more in
    let p = past_pad dd 98 (codes "reak;\n" ++ more) sdd refl in
    rw (grouped, p) refl

-- an arm whose statements are read again
abbrev pub ArmOk : CFunction → ℕ → Arm → Type 0
ArmOk f labels a = AllOk f labels a.body

abbrev pub AllArmsOk : CFunction → ℕ → List Arm → Type 0
AllArmsOk f labels [] = Unit {0}
AllArmsOk f labels (a ∷ arms) = ArmOk f labels a × AllArmsOk f labels arms

module _ (f : CFunction) (labels : ℕ) where
  -- no case line stands behind the case lines
  body_no_case : (xs : List Stmt) (room : ℕ) (dd more : List ℕ)
      → AllOk f labels xs
      → AllSpaces dd
      → all_hold false (map (rule_of f labels) xs) false room ≡ true
      → case_at (texts f xs dd ++ (break_line (breaks (map (lines (scope_of f)) xs)) dd ++ more)) ≡ None
  unfolding case_at
  body_no_case [] room dd more all sdd h = break_no_case dd more sdd
  body_no_case (x ∷ xs) room dd more all sdd h =
      let sc = scope_of f in
      let first = first_ok f labels x xs false false room dd all.0 sdd h in
      let text = (lines sc x).text dd in
      let last = break_line (breaks (map (lines sc) (x ∷ xs))) dd ++ more in
      let others = texts f xs dd ++ last in
      let grouped : (dd ++ (text ++ texts f xs dd)) ++ last ≡ dd ++ (text ++ others) = simp append_assoc in
      let spaced : past_spaces (dd ++ (text ++ others)) ≡ text ++ others =
      spaces_again dd (text ++ others) sdd ∙ (first.line.starts others).no_space in
      let gap = (first.line.starts others).not_case in
      rw (grouped, spaced, gap) refl

  arm_read : (n : ℕ) (ns : List ℕ) (xs : List Stmt) (room : ℕ) (d more : List ℕ)
      → AllOk f labels xs
      → AllSpaces d
      → AllSmall (n ∷ ns)
      → all_hold false (map (rule_of f labels) xs) false room ≡ true
      → ArmEnd d more
      → arm_by (statement_at (scope_of f) room)
      ((case_lines (n ∷ ns) d ++ (texts f xs (deeper d)
      ++ break_line (breaks (map (lines (scope_of f)) xs)) (deeper d))) ++ more)
      ≡ Some (record { cases = n ∷ ns; body = xs }, more)
  unfolding arm_by
  arm_read n ns xs room d more all sd small h end =
      let sc = scope_of f in
      let b = breaks (map (lines sc) xs) in
      let dd = deeper d in
      let sdd = deeper_spaces d sd in
      let last = break_line b dd ++ more in
      let tail = texts f xs dd ++ last in
      let grouped : (case_lines (n ∷ ns) d ++ (texts f xs dd ++ break_line b dd)) ++ more
      ≡ case_lines (n ∷ ns) d ++ tail = simp append_assoc in
      let one = cases_again n ns d tail sd small (body_no_case xs room dd more all sdd h) in
      let two = body_again f labels xs all true false false room dd last refl sdd h
      (break_row sc room b d dd more sd sdd end) in
      let three = behind_break b d dd more sd sdd end in
      rw (grouped, one, two, three) refl

  arm_split : (cs : List ℕ) (xs : List Stmt) (room : ℕ) (d more : List ℕ)
      → AllOk f labels xs
      → AllSpaces d
      → has_case cs ≡ true
      → AllSmall cs
      → all_hold false (map (rule_of f labels) xs) false room ≡ true
      → ArmEnd d more
      → arm_by (statement_at (scope_of f) room)
      ((case_lines cs d ++ (texts f xs (deeper d)
      ++ break_line (breaks (map (lines (scope_of f)) xs)) (deeper d))) ++ more)
      ≡ Some (record { cases = cs; body = xs }, more)
  arm_split [] xs room d more all sd some small h end = absurd cc
  arm_split (n ∷ ns) xs room d more all sd some small h end = arm_read n ns xs room d more all sd small h end

  arm_again : (a : Arm) (room : ℕ) (d more : List ℕ)
      → ArmOk f labels a
      → AllSpaces d
      → has_case a.cases ≡ true
      → AllSmall a.cases
      → all_hold false (map (rule_of f labels) a.body) false room ≡ true
      → ArmEnd d more
      → arm_by (statement_at (scope_of f) room) (arm_text (scope_of f) a d ++ more) ≡ Some (a, more)
  unfolding body_text body_breaks
  arm_again a room d more all sd some small h end =
      ap (λ (t : List ℕ). arm_by (statement_at (scope_of f) room) (t ++ more)) (arm_lines (scope_of f) a d)
      ∙ arm_split a.cases a.body room d more all sd some small h end

cases_begin : (cs d body more : List ℕ) → has_case cs ≡ true → ArmEnd d ((case_lines cs d ++ body) ++ more)
cases_begin [] d body more some = absurd cc
cases_begin (n ∷ ns) d body more some =
    let z = hex n ++ (codes ":\n" ++ (case_lines ns d ++ (body ++ more))) in
    let grouped : ((d ++ (codes "case 0x" ++ (hex n ++ (codes ":\n" ++ case_lines ns d)))) ++ body) ++ more
    ≡ d ++ (codes "case 0x" ++ z) = simp append_assoc in
    subst (ArmEnd d) (sym grouped) (at_case z)

cases_some : (cs d body : List ℕ) → has_case cs ≡ true → 0 < length (case_lines cs d ++ body)
cases_some [] d body some = absurd cc
cases_some (n ∷ ns) d body some =
    let line = codes "case 0x" ++ (hex n ++ (codes ":\n" ++ case_lines ns d)) in
    omega (arith, length-append (d ++ line) body, length-append d line)

-- an arm begins with a case line
arm_begins : (sc : Scope) (a : Arm) (d more : List ℕ) → has_case a.cases ≡ true → ArmEnd d (arm_text sc a d ++ more)
arm_begins sc a d more some = subst (λ (t : List ℕ). ArmEnd d (t ++ more)) (sym (arm_lines sc a d))
    (cases_begin a.cases d (body_text sc a.body (deeper d) ++ break_line (body_breaks sc a.body) (deeper d)) more
    some)

-- what the rules say of arms
pub record ArmsRight (f : CFunction) (labels : ℕ) (a : Arm) (arms : List Arm) (room : ℕ) : Type 0 where
  pub some : has_case a.cases ≡ true
  pub body : all_hold false (map (rule_of f labels) a.body) false room ≡ true
  pub others : arms_hold (map (cased_of f labels) arms) room ≡ true

pub arms_right : (f : CFunction) (labels : ℕ) (a : Arm) (arms : List Arm) (room : ℕ)
    → arms_hold (map (cased_of f labels) (a ∷ arms)) room ≡ true
    → ArmsRight f labels a arms room
arms_right f labels a arms room h =
    let k : Cased = record { cases = a.cases; body = map (rule_of f labels) a.body } in
    let g : (has_case k.cases && (all_hold false k.body false room && arms_hold (map (cased_of f labels) arms) room))
    ≡ true = ap (λ (c : Cased). has_case c.cases
    && (all_hold false c.body false room && arms_hold (map (cased_of f labels) arms) room))
    (sym (cased_is f labels a)) ∙ h in
    let three = and_parts (has_case k.cases)
    (all_hold false k.body false room && arms_hold (map (cased_of f labels) arms) room) g in
    let two = and_parts (all_hold false k.body false room) (arms_hold (map (cased_of f labels) arms) room) three.1 in
    record { some = three.0; body = two.0; others = two.1 }

arms_small : (f : CFunction) (labels w : ℕ) (a : Arm) (arms : List Arm)
    → are_words w (all_cases (map (cased_of f labels) (a ∷ arms))) ≡ true
    → (are_words w a.cases ≡ true) × (are_words w (all_cases (map (cased_of f labels) arms)) ≡ true)
arms_small f labels w a arms h =
    let more = all_cases (map (cased_of f labels) arms) in
    words_front w a.cases more (ap (λ (c : Cased). are_words w (c.cases ++ more)) (sym (cased_is f labels a)) ∙ h)

arms_end : (f : CFunction) (labels : ℕ) (arms : List Arm) (room : ℕ) (d rest : List ℕ)
    → arms_hold (map (cased_of f labels) arms) room ≡ true
    → ArmEnd d (all_arms (map (arm_text (scope_of f)) arms) d ++ (d ++ 125 ∷ rest))
arms_end f labels [] room d rest h = at_brace rest
arms_end f labels (a ∷ arms) room d rest h =
    let sc = scope_of f in
    let others = all_arms (map (arm_text sc) arms) d in
    let r = arms_right f labels a arms room h in
    subst (ArmEnd d) (sym (append_assoc (arm_text sc a d) others (d ++ 125 ∷ rest)))
    (arm_begins sc a d (others ++ (d ++ 125 ∷ rest)) r.some)

no_arm : (sc : Scope) (n : ℕ) (d rest : List ℕ) → AllSpaces d → arm_by (statement_at sc n) (d ++ 125 ∷ rest) ≡ None
unfolding arm_by cases_at case_at after
no_arm sc n d rest sd = let p = past_pad d 125 rest sd refl in rw p refl

arms_again : (f : CFunction) (labels w : ℕ) (arms : List Arm) (room k : ℕ) (d rest : List ℕ)
    → AllArmsOk f labels arms
    → AllSpaces d
    → w ≤ 16
    → are_words w (all_cases (map (cased_of f labels) arms)) ≡ true
    → arms_hold (map (cased_of f labels) arms) room ≡ true
    → length arms ≤ k
    → ◌≡◌ {A = List Arm × List ℕ} (many_by (arm_by (statement_at (scope_of f) room)) k
    (all_arms (map (arm_text (scope_of f)) arms) d ++ (d ++ 125 ∷ rest))) (arms, d ++ 125 ∷ rest)
unfolding many_by
arms_again f labels w [] room zero d rest all sd le words h few = refl
arms_again f labels w [] room (suc k) d rest all sd le words h few = let gap = no_arm (scope_of f) room d rest sd in
    rw gap refl
arms_again f labels w (a ∷ arms) room zero d rest all sd le words h few = absurd (omega arith)
arms_again f labels w (a ∷ arms) room (suc k) d rest all sd le words h few =
    let sc = scope_of f in
    let others = all_arms (map (arm_text sc) arms) d in
    let r = arms_right f labels a arms room h in
    let small = arms_small f labels w a arms words in
    let grouped : (arm_text sc a d ++ others) ++ (d ++ 125 ∷ rest)
    ≡ arm_text sc a d ++ (others ++ (d ++ 125 ∷ rest)) =
    append_assoc (arm_text sc a d) others (d ++ 125 ∷ rest) in
    let one = arm_again f labels a room d (others ++ (d ++ 125 ∷ rest)) all.0 sd r.some
    (words_small w a.cases le small.0) r.body (arms_end f labels arms room d rest r.others) in
    let more = arms_again f labels w arms room k d rest all.1 sd le small.1 r.others (omega arith) in
    rw (grouped, one, more) refl

-- each arm has a case line
arms_long : (f : CFunction) (labels : ℕ) (arms : List Arm) (room : ℕ) (d z : List ℕ)
    → arms_hold (map (cased_of f labels) arms) room ≡ true
    → length arms ≤ length (all_arms (map (arm_text (scope_of f)) arms) d ++ z)
arms_long f labels [] room d z h = omega arith
arms_long f labels (a ∷ arms) room d z h =
    let sc = scope_of f in
    let others = all_arms (map (arm_text sc) arms) d in
    let r = arms_right f labels a arms room h in
    let one : 0 < length (arm_text sc a d) =
    subst (λ (t : List ℕ). 0 < length t) (sym (arm_lines sc a d))
    (cases_some a.cases d (body_text sc a.body (deeper d) ++ break_line (body_breaks sc a.body) (deeper d))
    r.some) in
    let more = arms_long f labels arms room d z r.others in
    omega (
      arith,
      one,
      more,
      length-append (arm_text sc a d ++ others) z,
      length-append (arm_text sc a d) others,
      length-append others z,
    )

pub switch_line : (f : CFunction) (labels w : ℕ) (e : Expr) (arms : List Arm)
    → Written (scope_of f) e
    → AllArmsOk f labels arms
    → (in_loop : Bool) (room : ℕ) (d : List ℕ)
    → AllSpaces d
    → w ≤ 16
    → are_words w (all_cases (map (cased_of f labels) arms)) ≡ true
    → arms_hold (map (cased_of f labels) arms) room ≡ true
    → LineAt (scope_of f) (suc room) in_loop (s.Switch e arms)
    (codes "switch (" ++ ((form (scope_of f) e).plain
    ++ (codes ") {\n" ++ (all_arms (map (arm_text (scope_of f)) arms) d ++ (d ++ codes "}\n")))))
unfolding statement_at statement_by line_at plain_line_at loop_head line_by switch_by after past_spaces run_of type_at
    decimal_at number_from
switch_line f labels w e arms x all in_loop room d sd le words h =
    let sc = scope_of f in
    let value = (form sc e).plain in
    let body = all_arms (map (arm_text sc) arms) d in
    worded sc (suc room) in_loop (s.Switch e arms)
    (codes "switch (" ++ (value ++ (codes ") {\n" ++ (body ++ (d ++ codes "}\n")))))
    (λ rest.
    let last = d ++ 125 ∷ 10 ∷ rest in
    let grouped : (value ++ (codes ") {\n" ++ (body ++ (d ++ codes "}\n")))) ++ rest
    ≡ value ++ 41 ∷ 32 ∷ 123 ∷ 10 ∷ (body ++ last) = simp append_assoc in
    let head = head_again sc e value (body ++ last) x.plain in
    let inner = arms_again f labels w arms room (length (body ++ last)) d (10 ∷ rest) all sd le words h
    (arms_long f labels arms room d last h) in
    let p = past_pad d 125 (10 ∷ rest) sd refl in
    rw (grouped, head, inner, p) refl)
    (λ z. record { no_space = refl; not_case = refl; not_local = refl }) (λ z. refl) (omega arith)
