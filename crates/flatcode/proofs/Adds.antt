-- What the parts of statements add, together.
use Rattle.std.proofs.Common.{◌≡◌, ℕ, suc, ◌+◌, ◌<◌, Bool, true, false, not, if◌then◌else◌, List, [], ◌∷◌, ◌++◌, length, get_or, drop, map, Option, refl, sym, ap, ◌∙◌, subst, append_assoc, arith}
use Rattle.std.proofs.Math.Path.{fun_ext}
use Rattle.std.proofs.lemmas.List.{append-nil}
use Rattle.cmeaning.specs.declared.tree.Arm.{Arm}
use Rattle.cmeaning.specs.declared.tree.CFunction.{CFunction}
use Rattle.cmeaning.specs.declared.tree.Expr.{Expr}
use Rattle.cmeaning.specs.declared.tree.Stmt.{Stmt}
use Rattle.cmeaning.specs.declared.tree.Stmt.TheOpen.{Stmt-F}
use Rattle.cmeaning.specs.declared.tree.Stmt.TheVariants as S
use Rattle.cmeaning.specs.Flat.{Flat, Do, Test, Jump, Choose, Piece, single, found_in, flat_of, returns_by, Branch, breaks, last_leaves, spans, all_labels, all_steps, arm_span, arm_spans, arm_cases, arm_labels, arm_steps, piece_of, piece_step, pieces_of}
use Rattle.cmeaning.proofs.Flat.{branch_of, branch_is, piece_of_if, piece_of_if_else, piece_of_while, piece_of_do_while, piece_of_loop, piece_of_switch}
use Rattle.flatcode.specs.declared.draft.Draft.{Draft}
use Rattle.flatcode.specs.Steps.{flat_steps, place_in, arm_of, arms_of}
use Rattle.flatcode.specs.Adds.{Adds, pair_of, Puts, PutsAll, PutsArm, PutsArms}
use Rattle.pcode_model.proofs.Members.{rest_at}

abbrev Labels : Type 0
Labels = List (ℕ × ℕ)

abbrev Steps : Type 0
Steps = (ℕ → ℕ) → List Flat

adds_then : (a b c : Draft) (m n : ℕ) (l k : Labels) (s t : Steps)
    → Adds a b m l s
    → Adds b c n k t
    → Adds a c (m + n) (l ++ k) (λ place. s place ++ t place)
adds_then a b c m n l k s t x y = record {
  count = omega (arith, x.count, y.count);
  labels_added = y.labels_added ∙ ap (λ z. z ++ k) x.labels_added ∙ append_assoc (map pair_of a.labels.items) l k;
  steps_added = λ place. y.steps_added place
      ∙ ap (λ z. z ++ t place) (x.steps_added place)
      ∙ append_assoc (flat_steps place a.steps.items) (s place) (t place);
}

pub adds_none : (a : Draft) → Adds a a 0 [] (λ place. [])
adds_none a =
    record {
      count = omega arith;
      labels_added = sym (append-nil (map pair_of a.labels.items));
      steps_added = λ place. sym (append-nil (flat_steps place a.steps.items));
    }

adds_as : (a b : Draft) (m n : ℕ) (l k : Labels) (s t : Steps)
    → Adds a b m l s
    → m ≡ n
    → l ≡ k
    → ((place : ℕ → ℕ) → s place ≡ t place)
    → Adds a b n k t
adds_as a b m n l k s t x e f g = record {
  count = omega (arith, x.count, e);
  labels_added = x.labels_added ∙ ap (λ z. map pair_of a.labels.items ++ z) f;
  steps_added = λ place. x.steps_added place ∙ ap (λ z. flat_steps place a.steps.items ++ z) (g place);
}

-- a step with other numbers
test_at : (a b : Draft) (c : Expr) (p q m n : ℕ)
    → p ≡ m
    → q ≡ n
    → Adds a b 1 [] (λ place. Test c p q ∷ [])
    → Adds a b 1 [] (λ place. Test c m n ∷ [])
test_at a b c p q m n e f x =
    adds_as a b 1 1 [] []
    (λ place. Test c p q ∷ [])
    (λ place. Test c m n ∷ [])
    x refl refl
    (λ place. ap (λ z. Test c z q ∷ []) e ∙ ap (λ z. Test c m z ∷ []) f)

jump_at : (a b : Draft) (p m : ℕ) → p ≡ m → Adds a b 1 [] (λ place. Jump p ∷ []) → Adds a b 1 [] (λ place. Jump m ∷ [])
jump_at a b p m e x =
    adds_as a b 1 1 [] [] (λ place. Jump p ∷ []) (λ place. Jump m ∷ []) x refl refl (λ place. ap (λ z. Jump z ∷ []) e)

-- statements at a position, with the position behind the innermost loop
body_at : (a b : Draft) (xs : List Piece) (p m out to : ℕ)
    → p ≡ m
    → out ≡ to
    → Adds a b (spans xs) (all_labels xs p) (λ place. all_steps xs place out p)
    → Adds a b (spans xs) (all_labels xs m) (λ place. all_steps xs place to m)
body_at a b xs p m out to e f x =
    adds_as a b (spans xs) (spans xs) (all_labels xs p) (all_labels xs m)
    (λ place. all_steps xs place out p)
    (λ place. all_steps xs place to m)
    x refl (ap (all_labels xs) e)
    (λ place. ap (λ z. all_steps xs place z p) f ∙ ap (λ z. all_steps xs place to z) e)

as_piece : (a b : Draft) (x y : Piece) (out : ℕ) → x ≡ y → Puts a b y out → Puts a b x out
as_piece a b x y out e h = let P : Piece → Type 0 = λ z. Puts a b z out in subst P (sym e) h

-- ---- statements

pub if_adds : (returns : ℕ → Bool) (a b c : Draft) (condition : Expr) (body : List Stmt) (out start first span miss : ℕ)
    → start ≡ length a.steps.items → first ≡ start + 1 → span ≡ spans (pieces_of returns body) → miss ≡ first + span
    → Adds a b 1 [] (λ place. Test condition first miss ∷ [])
    → PutsAll b c (pieces_of returns body) out
    → Puts a c (piece_of returns (S.If condition body)) out
if_adds returns a b c condition body out start first span miss start_is first_is span_is miss_is x y =
    let xs = pieces_of returns body in
    let p = length a.steps.items in
    let t = test_at a b condition first miss (suc p) (suc p + spans xs) (omega arith) (omega arith) x in
    let s = body_at b c xs (length b.steps.items) (suc p) out out (omega (arith, x.count)) refl y in
    let all =
    adds_then a b c 1 (spans xs) [] (all_labels xs (suc p))
    (λ place. Test condition (suc p) (suc p + spans xs) ∷ [])
    (λ place. all_steps xs place out (suc p))
    t s in
    as_piece a c (piece_of returns (S.If condition body)) _ out (piece_of_if returns condition body)
    (adds_as a c (1 + spans xs) (suc (spans xs)) (all_labels xs (suc p)) (all_labels xs (suc p)) _ _ all
    (omega arith) refl (λ place. refl))

pub if_else_adds : (returns : ℕ → Bool) (a b c d e : Draft) (condition : Expr) (body other : List Stmt)
    (out start first span n miss rest end : ℕ)
    → start ≡ length a.steps.items
    → first ≡ start + 1
    → span ≡ spans (pieces_of returns body)
    → n ≡ first + span
    → miss ≡ n + 1
    → rest ≡ spans (pieces_of returns other)
    → end ≡ miss + rest
    → Adds a b 1 [] (λ place. Test condition first miss ∷ [])
    → PutsAll b c (pieces_of returns body) out
    → Adds c d 1 [] (λ place. Jump end ∷ [])
    → PutsAll d e (pieces_of returns other) out
    → Puts a e (piece_of returns (S.IfElse condition body other)) out
if_else_adds returns a b c d e condition body other out start first span n miss rest end start_is first_is span_is
    n_is miss_is rest_is end_is x y z w =
    let xs = pieces_of returns body in
    let ys = pieces_of returns other in
    let p = length a.steps.items in
    let q = suc (suc p + spans xs) in
    let t = test_at a b condition first miss (suc p) q (omega arith) (omega arith) x in
    let s = body_at b c xs (length b.steps.items) (suc p) out out (omega (arith, x.count)) refl y in
    let j = jump_at c d end (q + spans ys) (omega arith) z in
    let r = body_at d e ys (length d.steps.items) q out out (omega (arith, x.count, y.count, z.count)) refl w in
    let last =
    adds_then c d e 1 (spans ys) [] (all_labels ys q)
    (λ place. Jump (q + spans ys) ∷ [])
    (λ place. all_steps ys place out q)
    j r in
    let more =
    adds_then b c e (spans xs) (1 + spans ys) (all_labels xs (suc p)) (all_labels ys q)
    (λ place. all_steps xs place out (suc p))
    (λ place. Jump (q + spans ys) ∷ all_steps ys place out q)
    s last in
    let all =
    adds_then a b e 1 (spans xs + (1 + spans ys)) [] (all_labels xs (suc p) ++ all_labels ys q)
    (λ place. Test condition (suc p) q ∷ [])
    (λ place. all_steps xs place out (suc p) ++ Jump (q + spans ys) ∷ all_steps ys place out q)
    t more in
    as_piece a e (piece_of returns (S.IfElse condition body other)) _ out
    (piece_of_if_else returns condition body other)
    (adds_as a e (1 + (spans xs + (1 + spans ys))) (suc (spans xs + suc (spans ys)))
    (all_labels xs (suc p) ++ all_labels ys q) (all_labels xs (suc p) ++ all_labels ys q) _ _ all (omega arith)
    refl (λ place. refl))

pub while_adds : (returns : ℕ → Bool) (a b c d : Draft) (condition : Expr) (body : List Stmt)
    (out start first span n end : ℕ)
    → start ≡ length a.steps.items
    → first ≡ start + 1
    → span ≡ spans (pieces_of returns body)
    → n ≡ first + span
    → end ≡ n + 1
    → Adds a b 1 [] (λ place. Test condition first end ∷ [])
    → PutsAll b c (pieces_of returns body) end
    → Adds c d 1 [] (λ place. Jump start ∷ [])
    → Puts a d (piece_of returns (S.While condition body)) out
while_adds returns a b c d condition body out start first span n end start_is first_is span_is n_is end_is x y z =
    let xs = pieces_of returns body in
    let p = length a.steps.items in
    let q = suc (suc p + spans xs) in
    let t = test_at a b condition first end (suc p) q (omega arith) (omega arith) x in
    let s = body_at b c xs (length b.steps.items) (suc p) end q (omega (arith, x.count)) (omega arith) y in
    let j = jump_at c d start p start_is z in
    let more =
    adds_then b c d (spans xs) 1 (all_labels xs (suc p)) []
    (λ place. all_steps xs place q (suc p))
    (λ place. Jump p ∷ [])
    s j in
    let all =
    adds_then a b d 1 (spans xs + 1) [] (all_labels xs (suc p) ++ [])
    (λ place. Test condition (suc p) q ∷ [])
    (λ place. all_steps xs place q (suc p) ++ Jump p ∷ [])
    t more in
    as_piece a d (piece_of returns (S.While condition body)) _ out (piece_of_while returns condition body)
    (adds_as a d (1 + (spans xs + 1)) (suc (spans xs + 1)) (all_labels xs (suc p) ++ []) (all_labels xs (suc p)) _
    _ all (omega arith) (append-nil (all_labels xs (suc p))) (λ place. refl))

pub do_while_adds : (returns : ℕ → Bool) (a b c : Draft) (condition : Expr) (body : List Stmt)
    (out start span n end : ℕ)
    → start ≡ length a.steps.items → span ≡ spans (pieces_of returns body) → n ≡ start + span → end ≡ n + 1
    → PutsAll a b (pieces_of returns body) end → Adds b c 1 [] (λ place. Test condition start end ∷ [])
    → Puts a c (piece_of returns (S.DoWhile body condition)) out
do_while_adds returns a b c condition body out start span n end start_is span_is n_is end_is y x =
    let xs = pieces_of returns body in
    let p = length a.steps.items in
    let q = suc (p + spans xs) in
    let s = body_at a b xs p p end q refl (omega arith) y in
    let t = test_at b c condition start end p q start_is (omega arith) x in
    let all =
    adds_then a b c (spans xs) 1 (all_labels xs p) []
    (λ place. all_steps xs place q p)
    (λ place. Test condition p q ∷ [])
    s t in
    as_piece a c (piece_of returns (S.DoWhile body condition)) _ out (piece_of_do_while returns body condition)
    (adds_as a c (spans xs + 1) (spans xs + 1) (all_labels xs p ++ []) (all_labels xs p) _ _ all refl
    (append-nil (all_labels xs p)) (λ place. refl))

pub loop_adds : (returns : ℕ → Bool) (a b c : Draft) (body : List Stmt) (out start span n end : ℕ)
    → start ≡ length a.steps.items → span ≡ spans (pieces_of returns body) → n ≡ start + span → end ≡ n + 1
    → PutsAll a b (pieces_of returns body) end → Adds b c 1 [] (λ place. Jump start ∷ [])
    → Puts a c (piece_of returns (S.Loop body)) out
loop_adds returns a b c body out start span n end start_is span_is n_is end_is y x =
    let xs = pieces_of returns body in
    let p = length a.steps.items in
    let q = suc (p + spans xs) in
    let s = body_at a b xs p p end q refl (omega arith) y in
    let j = jump_at b c start p start_is x in
    let all =
    adds_then a b c (spans xs) 1 (all_labels xs p) []
    (λ place. all_steps xs place q p)
    (λ place. Jump p ∷ [])
    s j in
    as_piece a c (piece_of returns (S.Loop body)) _ out (piece_of_loop returns body)
    (adds_as a c (spans xs + 1) (spans xs + 1) (all_labels xs p ++ []) (all_labels xs p) _ _ all refl
    (append-nil (all_labels xs p)) (λ place. refl))

-- ---- switches

branches_are : (returns : ℕ → Bool) (arms : List Arm) → map (branch_of returns) arms ≡ arms_of returns arms
branches_are returns [] = refl
branches_are returns (a ∷ rest) =
    ap (λ x. x ∷ map (branch_of returns) rest) (branch_is returns a)
    ∙ ap (λ xs. arm_of returns a ∷ xs) (branches_are returns rest)

arms_at : (a b : Draft) (xs : List Branch) (p m out past to : ℕ)
    → p ≡ m
    → past ≡ to
    → Adds a b (arm_spans xs) (arm_labels xs p) (λ place. arm_steps xs place out past p)
    → Adds a b (arm_spans xs) (arm_labels xs m) (λ place. arm_steps xs place out to m)
arms_at a b xs p m out past to e f x =
    adds_as a b (arm_spans xs) (arm_spans xs) (arm_labels xs p) (arm_labels xs m)
    (λ place. arm_steps xs place out past p)
    (λ place. arm_steps xs place out to m)
    x refl (ap (arm_labels xs) e)
    (λ place. ap (λ z. arm_steps xs place out z p) f ∙ ap (λ z. arm_steps xs place out to z) e)

choose_at : (a b : Draft) (e : Expr) (cases to : List (ℕ × ℕ)) (p m : ℕ)
    → cases ≡ to
    → p ≡ m
    → Adds a b 1 [] (λ place. Choose e cases p ∷ [])
    → Adds a b 1 [] (λ place. Choose e to m ∷ [])
choose_at a b e cases to p m f g x =
    adds_as a b 1 1 [] []
    (λ place. Choose e cases p ∷ [])
    (λ place. Choose e to m ∷ [])
    x refl refl
    (λ place. ap (λ z. Choose e z p ∷ []) f ∙ ap (λ z. Choose e to z ∷ []) g)

pub switch_adds : (returns : ℕ → Bool) (a b c : Draft) (value : Expr) (arms : List Arm) (cases : List (ℕ × ℕ))
    (out start first span other : ℕ)
    → start ≡ length a.steps.items
    → first ≡ start + 1
    → span ≡ arm_spans (arms_of returns arms)
    → other ≡ first + span
    → cases ≡ arm_cases (arms_of returns arms) first
    → Adds a b 1 [] (λ place. Choose value cases other ∷ [])
    → PutsArms b c (arms_of returns arms) out other
    → Puts a c (piece_of returns (S.Switch value arms)) out
switch_adds returns a b c value arms cases out start first span other start_is first_is span_is other_is cases_are x y =
    let xs = arms_of returns arms in
    let p = length a.steps.items in
    let q = suc p + arm_spans xs in
    let at : first ≡ suc p = omega arith in
    let t =
    choose_at a b value cases (arm_cases xs (suc p)) other q (cases_are ∙ ap (arm_cases xs) at) (omega arith) x in
    let s = arms_at b c xs (length b.steps.items) (suc p) out other q (omega (arith, x.count)) (omega arith) y in
    let all =
    adds_then a b c 1 (arm_spans xs) [] (arm_labels xs (suc p))
    (λ place. Choose value (arm_cases xs (suc p)) q ∷ [])
    (λ place. arm_steps xs place out q (suc p))
    t s in
    as_piece a c (piece_of returns (S.Switch value arms)) _ out
    (piece_of_switch returns value arms
    ∙ ap (λ z. piece_step returns (Stmt-F.Switch value z)) (branches_are returns arms))
    (adds_as a c (1 + arm_spans xs) (suc (arm_spans xs)) (arm_labels xs (suc p)) (arm_labels xs (suc p)) _ _ all
    (omega arith) refl (λ place. refl))

-- an arm that ends without `break;`, and one that ends with it
pub arm_leaves : (a b : Draft) (arm : Branch) (out past : ℕ) (left : Bool)
    → left ≡ last_leaves false arm.body
    → left ≡ true
    → PutsAll a b arm.body out
    → PutsArm a b arm out past
arm_leaves a b arm out past left is h x =
    let e : breaks arm ≡ false = ap not (sym is ∙ h) in
    let p = length a.steps.items in
    adds_as a b (spans arm.body) (arm_span arm) (all_labels arm.body p) (all_labels arm.body p)
    (λ place. all_steps arm.body place out p)
    (λ place. all_steps arm.body place out p ++ (if breaks arm then Jump past ∷ [] else []))
    x
    (sym (ap (λ t. if t then suc (spans arm.body) else spans arm.body) e)) refl
    (λ place. sym (append-nil (all_steps arm.body place out p))
    ∙ sym (ap (λ (t : Bool). all_steps arm.body place out p ++ (if t then Jump past ∷ [] else [])) e))

pub arm_breaks : (a b c : Draft) (arm : Branch) (out past : ℕ) (left : Bool)
    → left ≡ last_leaves false arm.body
    → left ≡ false
    → PutsAll a b arm.body out
    → Adds b c 1 [] (λ place. Jump past ∷ [])
    → PutsArm a c arm out past
arm_breaks a b c arm out past left is h x y =
    let e : breaks arm ≡ true = ap not (sym is ∙ h) in
    let p = length a.steps.items in
    let all =
    adds_then a b c (spans arm.body) 1 (all_labels arm.body p) []
    (λ place. all_steps arm.body place out p)
    (λ place. Jump past ∷ [])
    x y in
    let span : spans arm.body + 1 ≡ suc (spans arm.body) = omega arith in
    adds_as a c (spans arm.body + 1) (arm_span arm) (all_labels arm.body p ++ []) (all_labels arm.body p)
    (λ place. all_steps arm.body place out p ++ Jump past ∷ [])
    (λ place. all_steps arm.body place out p ++ (if breaks arm then Jump past ∷ [] else []))
    all
    (span ∙ sym (ap (λ t. if t then suc (spans arm.body) else spans arm.body) e)) (append-nil (all_labels arm.body p))
    (λ place. sym (ap (λ (t : Bool). all_steps arm.body place out p ++ (if t then Jump past ∷ [] else [])) e))

-- ---- the turns of the loops

body_cons : (a b c : Draft) (x : Piece) (xs : List Piece) (out : ℕ)
    → Puts a b x out
    → PutsAll b c xs out
    → PutsAll a c (x ∷ xs) out
body_cons a b c x xs out s t =
    let p = length a.steps.items in
    let rest = body_at b c xs (length b.steps.items) (p + x.span) out out s.count refl t in
    adds_then a b c x.span (spans xs) (x.labels p) (all_labels xs (p + x.span))
    (λ place. x.steps place out p)
    (λ place. all_steps xs place out (p + x.span))
    s rest

arms_cons : (a b c : Draft) (x : Branch) (xs : List Branch) (out past : ℕ)
    → PutsArm a b x out past
    → PutsArms b c xs out past
    → PutsArms a c (x ∷ xs) out past
arms_cons a b c x xs out past s t =
    let p = length a.steps.items in
    let rest = arms_at b c xs (length b.steps.items) (p + arm_span x) out past past s.count refl t in
    let jump = if breaks x then Jump past ∷ [] else [] in
    let all =
    adds_then a b c (arm_span x) (arm_spans xs) (all_labels x.body p) (arm_labels xs (p + arm_span x))
    (λ place. all_steps x.body place out p ++ jump)
    (λ place. arm_steps xs place out past (p + arm_span x))
    s rest in
    adds_as a c (arm_span x + arm_spans xs) (arm_spans (x ∷ xs))
    (all_labels x.body p ++ arm_labels xs (p + arm_span x)) (arm_labels (x ∷ xs) p) _
    (λ place. arm_steps (x ∷ xs) place out past p) all refl refl
    (λ place. append_assoc (all_steps x.body place out p) jump (arm_steps xs place out past (p + arm_span x)))

pub body_turn : (returns : ℕ → Bool) (a b c : Draft) (body : List Stmt) (i : ℕ) (s : Stmt) (out : ℕ)
    → i < length body
    → s ≡ get_or body i s
    → Puts a b (piece_of returns s) out
    → PutsAll b c (pieces_of returns (drop (i + 1) body)) out
    → PutsAll a c (pieces_of returns (drop i body)) out
body_turn returns a b c body i s out within is x y =
    let P : List Stmt → Type 0 = λ z. PutsAll a c (pieces_of returns z) out in
    subst P (sym (rest_at body i s within is))
    (body_cons a b c (piece_of returns s) (pieces_of returns (drop (i + 1) body)) out x y)

pub arms_turn : (returns : ℕ → Bool) (a b c : Draft) (arms : List Arm) (i : ℕ) (arm : Arm) (out past : ℕ)
    → i < length arms
    → arm ≡ get_or arms i arm
    → PutsArm a b (arm_of returns arm) out past
    → PutsArms b c (arms_of returns (drop (i + 1) arms)) out past
    → PutsArms a c (arms_of returns (drop i arms)) out past
arms_turn returns a b c arms i arm out past within is x y =
    let P : List Arm → Type 0 = λ z. PutsArms a c (arms_of returns z) out past in
    subst P (sym (rest_at arms i arm within is))
    (arms_cons a b c (arm_of returns arm) (arms_of returns (drop (i + 1) arms)) out past x y)

-- ---- statements of one step or none

simple_of : (returns : ℕ → Bool) (s t : Stmt) (leaves : Bool)
    → s ≡ t
    → piece_of returns t ≡ single leaves (Do t)
    → piece_of returns s ≡ single leaves (Do s)
simple_of returns s t leaves is e = ap (piece_of returns) is ∙ e ∙ ap (λ z. single leaves (Do z)) (sym is)

pub simple_adds : (returns : ℕ → Bool) (a b : Draft) (s t : Stmt) (leaves : Bool) (out : ℕ)
    → s ≡ t
    → piece_of returns t ≡ single leaves (Do t)
    → Adds a b 1 [] (λ place. Do s ∷ [])
    → Puts a b (piece_of returns s) out
simple_adds returns a b s t leaves out is e x =
    as_piece a b (piece_of returns s) (single leaves (Do s)) out (simple_of returns s t leaves is e) x

pub other_adds : (returns : ℕ → Bool) (a b : Draft) (s t : Stmt) (piece : Piece) (out : ℕ)
    → s ≡ t
    → piece_of returns t ≡ piece
    → Puts a b piece out
    → Puts a b (piece_of returns s) out
other_adds returns a b s t piece out is e x =
    as_piece a b (piece_of returns s) piece out (ap (piece_of returns) is ∙ e) x

-- ---- the function

pub flat_is : (f : CFunction) (a b : Draft) (table : List (Option ℕ)) (end : ℕ)
    → a.steps.items ≡ []
    → a.labels.items ≡ []
    → end ≡ spans (pieces_of (returns_by f.callees) f.body)
    → PutsAll a b (pieces_of (returns_by f.callees) f.body) end
    → ((default n : ℕ) → place_in table default n ≡ found_in (map pair_of b.labels.items) default n)
    → flat_steps (place_in table end) b.steps.items ≡ flat_of f
unfolding flat_of
flat_is f a b table end none no_labels end_is x places =
    let xs = pieces_of (returns_by f.callees) f.body in
    let begin : length a.steps.items ≡ 0 = ap length none in
    let labels : map pair_of b.labels.items ≡ all_labels xs 0 =
    x.labels_added
    ∙ ap (λ z. map pair_of z ++ all_labels xs (length a.steps.items)) no_labels
    ∙ ap (all_labels xs) begin in
    let place : place_in table end ≡ found_in (all_labels xs 0) (spans xs) =
    fun_ext
    (λ n. places end n ∙ ap (λ z. found_in z end n) labels ∙ ap (λ z. found_in (all_labels xs 0) z n) end_is) in
    x.steps_added (place_in table end)
    ∙ ap (λ z. flat_steps (place_in table end) z ++ all_steps xs (place_in table end) end (length a.steps.items))
    none
    ∙ ap (all_steps xs (place_in table end) end) begin
    ∙ ap (λ z. all_steps xs z end 0) place
    ∙ ap (λ z. all_steps xs (found_in (all_labels xs 0) (spans xs)) z 0) end_is
