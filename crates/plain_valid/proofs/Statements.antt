-- The statements and exits of the plain lowering suit a head that has the variables which they name.
use Rattle.std.proofs.Common.{◌≡◌, ℕ, suc, ◌+◌, ◌<◌, ◌≤◌, ◌^◌, Bool, true, false, List, [], ◌∷◌, ◌++◌, length, map, Option, Some, None, refl, sym, ap, ◌∙◌, arith}
use Rattle.std.specs.Prelude.{◌==◌, ◌&&◌, cond, nat_lt, slice_get}
use Rattle.std.specs.List.{AllByRecursion}
use Rattle.std.proofs.lemmas.Bool.Decides.{nat_tests}
use Rattle.pcode_model.specs.declared.listing.Space.{Space}
use Rattle.pcode_model.specs.declared.listing.SpaceKind.TheVariants.{Ram}
use Rattle.pcode_model.specs.declared.listing.Varnode.{Varnode}
use Rattle.pcode_model.specs.declared.listing.Listing.{Listing}
use Rattle.pcode_model.specs.declared.listing.Storage.{Storage}
use Rattle.pcode_model.specs.declared.listing.Storage.TheVariants.{At, Stack}
use Rattle.pcode_model.specs.Spaces.{first_ram, kind_in}
use Rattle.pcode_model.specs.Step.{arguments, callee_at, proto_of, returns as does_return}
use Rattle.pcode_model.specs.WellFormed.{IsNamedSpace}
use Rattle.pcode_model.proofs.Members.{member_at, of_member}
use Rattle.cmeaning.specs.declared.tree.Arm.{Arm}
use Rattle.cmeaning.specs.declared.tree.Expr.{Expr}
use Rattle.cmeaning.specs.declared.tree.StatementDivision.{StatementDivision}
use Rattle.cmeaning.specs.declared.tree.Stmt.{Stmt, map-Stmt, roll-Stmt}
use Rattle.cmeaning.specs.declared.tree.Stmt.TheOpen.{Stmt-F}
use Rattle.cmeaning.specs.declared.tree.Stmt.TheVariants as S
use Rattle.cmeaning.specs.Callees.{declared_in}
use Rattle.cmeaning.specs.Shape.{has_width, is_condition, is_right, shape_of}
use Rattle.cmeaning.specs.Mentions.{Mention, Variable, Callee, LabelLine, in_body, in_expr, in_exprs, in_option, in_stmt, in_target}
use Rattle.cmeaning.specs.Valid.{Cased, Rule, all_hold, are_right, calling, have_widths, is_assigned, is_call, is_long, is_name, is_returned, is_space, is_target, is_variable, plainly, takes}
use Rattle.cmeaning.proofs.Mentions.{in_statement}
use Rattle.naming.specs.declared.head.Head.{Head}
use Rattle.naming.specs.Rules.{own_cased, own_rule, own_step}
use Rattle.naming.specs.Run.{widths_of}
use Rattle.naming.proofs.Rules.{rule_is}
use Rattle.blockcode.specs.declared.code.Exit.{Exit}
use Rattle.blockcode.specs.declared.code.Exit.TheVariants as X
use Rattle.layout.specs.Callees.{callee_decl, gives_by, width_passed}
use Rattle.layout.specs.Suits.{BodySuits, ExitSuits, Knows}
use Rattle.layout.proofs.Suiting.{knows_append, knows_in, knows_one, obey_one, suits_append, suits_none}
use Rattle.plain_valid.proofs.Callees.{EachCalled, IsDeclared, called_back, called_front, callee_of_call}
use Rattle.op_values.specs.Nodes.{nearest, width_of_range}
use Rattle.op_values.proofs.Means.{nearest_is}
use Rattle.op_code.specs.declared.left.Leftover.{Leftover}
use Rattle.op_code.specs.Left.{takes_left}
use Rattle.op_code.specs.Made.{name_in, name_of, range_word}
use Rattle.op_code.specs.Form.{IsMemory}
use Rattle.op_code.specs.Lowered.{result, result_in, result_width}
use Rattle.plain_valid.proofs.Shapes.{AllBelow, Fits, below_append}
use Rattle.plain_valid.proofs.EachKind.{AreRight, Gives, HaveWidths, IsLeft, IsTarget, IsVariable, Kinds, are_right as rights, width_read, widths_passed}

-- ---- names of spaces

named_at : (spaces : List Space) (s : ℕ) (o : Option Space)
    → slice_get spaces s ≡ o
    → kind_in o ≡ Ram
    → AllByRecursion IsNamedSpace spaces
    → is_name (name_in o) ≡ true
named_at spaces s None e ram all = absurd (cc)
named_at spaces s (Some x) e ram all = of_member IsNamedSpace x spaces all (member_at spaces s x e)

-- a ram space is the first one or has a name
space_named : (l : Listing) (s : ℕ)
    → AllByRecursion IsNamedSpace l.spaces
    → IsMemory l s
    → is_space (name_of l s) ≡ true
space_named l s all is = by (s == first_ram l)
  where
    by : (t : Bool) → is_space (cond t None (Some (name_in (slice_get l.spaces s)))) ≡ true
    by true = refl
    by false = named_at l.spaces s (slice_get l.spaces s) refl is.ram all

long_is : (k : ℕ) → k < 2 ^ 64 → is_long k ≡ true
long_is k low = grind (arith, nat_tests)

-- ---- variables and expressions

module _ (ws : ℕ → ℕ) (n : ℕ) where
  variable_is : (v w : ℕ) → n ≤ 2 ^ 32 → IsVariable ws n v w → is_variable ws v ≡ true
  variable_is v w few is =
      let below : v < 2 ^ 32 = omega (arith, is.within, few) in
      let some : 0 < ws v = omega (arith, is.width, is.some) in
      grind (arith, nat_tests)

  width_is : (e : Expr) (w d : ℕ) → Fits ws n e w d → has_width w (shape_of ws e) ≡ true
  width_is e w d f =
      let same : w ≡ (f.shape).width = sym f.width in
      ap (has_width w) f.is ∙ (let t : ((f.shape).width == w) ≡ true = grind (arith, nat_tests) in t)

  right_is : (e : Expr) (w d : ℕ) → Fits ws n e w d → is_right (shape_of ws e) ≡ true
  right_is e w d f = ap is_right f.is

  -- what has a variable's width
  has_its_width : (v w d : ℕ) (e : Expr)
      → IsVariable ws n v w
      → Fits ws n e w d
      → has_width (ws v) (shape_of ws e) ≡ true
  has_its_width v w d e is f = ap (λ k. has_width k (shape_of ws e)) is.width ∙ width_is e w d f

  assigned_is : (v w d : ℕ) (e : Expr)
      → n ≤ 2 ^ 32
      → IsVariable ws n v w
      → Fits ws n e w d
      → is_assigned ws v (shape_of ws e) ≡ true
  assigned_is v w d e few is f =
      ap (λ b. b && has_width (ws v) (shape_of ws e)) (variable_is v w few is) ∙ has_its_width v w d e is f

  -- an operand as a condition
  condition_is : (c : Expr) (w : ℕ) → Fits ws n c w 16 → is_condition (shape_of ws c) ≡ true
  condition_is c w f = ap is_condition f.is ∙ by (f.shape).comparison
    where
      by : (b : Bool) → cond b true (nat_lt (f.shape).depth 64) ≡ true
      by true = refl
      by false = let deep : (f.shape).depth < 64 = omega (arith, f.depth) in grind (arith, nat_tests)

  -- ---- calls

  target_is : (v : Option ℕ) (out : Option Varnode) → n ≤ 2 ^ 32 → IsTarget ws n v out → is_target ws v ≡ true
  target_is None None few h = refl
  target_is None (Some z) few h = absurd h
  target_is (Some v) None few h = absurd h
  target_is (Some v) (Some z) few h = variable_is v z.size few h.1

  -- a target has the result's width
  takes_is : (v : Option ℕ) (gives : Option Varnode)
      → n ≤ 2 ^ 32
      → IsTarget ws n v gives
      → takes ws v (width_of_range gives) ≡ true
  takes_is None None few h = refl
  takes_is None (Some z) few h = absurd h
  takes_is (Some v) None few h = absurd h
  takes_is (Some v) (Some z) few h =
      let same : ws v ≡ nearest z.size = h.1.width ∙ sym (nearest_is z.size h.0.0 h.0.1) in
      ap (λ t. t && ws v == nearest z.size) (variable_is v z.size few h.1)
      ∙ (let t : (ws v == nearest z.size) ≡ true = grind (arith, nat_tests) in t)

  all_right : (es : List Expr) → AreRight ws n es → are_right ws es ≡ true
  all_right [] h = refl
  all_right (e ∷ es) h = ap (λ t. t && are_right ws es) (right_is e h.0.0 16 h.0.1) ∙ all_right es h.1

  below_all : (es : List Expr) → AreRight ws n es → AllBelow n (in_exprs es)
  below_all [] h = tt
  below_all (e ∷ es) h = below_append n (in_expr e) (in_exprs es) h.0.1.mentions (below_all es h.1)

  -- arguments have the widths that are declared
  one_passed : (e : Expr) (k : ℕ) → ((0 < k) × (k ≤ 16)) × Fits ws n e k 16 → has_width (nearest k) (shape_of ws e) ≡ true
  one_passed e k h = ap (λ w. has_width w (shape_of ws e)) (nearest_is k h.0.0 h.0.1) ∙ width_is e k 16 h.1

  passed_are : (es : List Expr) (j : ℕ) (args : List Storage)
      → HaveWidths ws n es (map width_read (arguments j args))
      → have_widths ws es (map width_passed args) ≡ true
  passed_are [] j [] h = refl
  passed_are (e ∷ es) j [] h = absurd h
  passed_are [] j (At v ∷ args) h = absurd h
  passed_are [] j (Stack offset size ∷ args) h = absurd h
  passed_are (e ∷ es) j (At v ∷ args) h =
      ap (λ t. t && have_widths ws es (map width_passed args)) (one_passed e v.size h.0)
      ∙ passed_are es (suc j) args h.1
  passed_are (e ∷ es) j (Stack offset size ∷ args) h =
      ap (λ t. t && have_widths ws es (map width_passed args)) (one_passed e size h.0)
      ∙ passed_are es (suc j) args h.1

-- ---- below a head

module _ (h : Head) where
  abbrev variables : ℕ
  variables = length h.params + length h.locals

  knows_below : (xs : List Mention) → AllBelow variables xs → Knows h xs
  knows_below [] b = tt
  knows_below (Variable v ∷ xs) b = (b.0, knows_below xs b.1)
  knows_below (Callee address ∷ xs) b = absurd b.0
  knows_below (LabelLine n ∷ xs) b = absurd b.0

  knows_target : (v : Option ℕ) (out : Option Varnode)
      → IsTarget (widths_of h) variables v out
      → Knows h (in_target v)
  knows_target None out is = tt
  knows_target (Some v) None is = absurd is
  knows_target (Some v) (Some z) is = (is.1.within, tt)

  -- a statement without statements in it
  known_suits : (s : Stmt) (y : Stmt-F Stmt Arm) (xs : List Mention) (right : Bool)
      → roll-Stmt y ≡ s
      → in_stmt s ≡ xs
      → Knows h xs
      → ((leads : ℕ → Bool)
      → own_step h leads (map-Stmt Stmt Arm Rule Cased (own_rule h leads) (own_cased h leads) y) ≡ plainly right)
      → right ≡ true
      → BodySuits h (s ∷ [])
  known_suits s y xs right is mentions knows step holds = record {
    knows = knows_one h s xs mentions knows;
    obey = λ leads. obey_one h leads s
        (λ after. ap (λ (r : Rule). r.holds after false 255) (rule_is h leads s y is ∙ step leads) ∙ holds);
  }

  -- one that mentions variables
  one_suits : (s : Stmt) (y : Stmt-F Stmt Arm) (xs : List Mention) (right : Bool)
      → roll-Stmt y ≡ s
      → in_stmt s ≡ xs
      → AllBelow variables xs
      → ((leads : ℕ → Bool)
      → own_step h leads (map-Stmt Stmt Arm Rule Cased (own_rule h leads) (own_cased h leads) y) ≡ plainly right)
      → right ≡ true
      → BodySuits h (s ∷ [])
  one_suits s y xs right is mentions below step holds =
      known_suits s y xs right is mentions (knows_below xs below) step holds

  -- ---- calls and their EXTRAOUTs

  extras_know : (l : Listing) (left : List Leftover)
      → AllByRecursion (IsLeft l (widths_of h) variables) left
      → Knows h (in_body (map takes_left left))
  extras_know l [] all = tt
  extras_know l (x ∷ left) all =
      let s = S.Extra x.variable x.offset in
      let y = Stmt-F.Extra x.variable x.offset in
      knows_in h (s ∷ []) (map takes_left left)
      (knows_one h s (Variable x.variable ∷ []) (in_statement s y (S.rolls-Extra x.variable x.offset))
      (all.0.is.within, tt))
      (extras_know l left all.1)

  -- behind a call they obey their rules
  extras_obey : (l : Listing) (leads : ℕ → Bool) (left : List Leftover)
      → variables ≤ 2 ^ 32
      → AllByRecursion (IsLeft l (widths_of h) variables) left
      → all_hold true (map (own_rule h leads) (map takes_left left)) false 256 ≡ true
  extras_obey l leads [] few all = refl
  extras_obey l leads (x ∷ left) few all =
      let ws = widths_of h in
      let s = S.Extra x.variable x.offset in
      let y = Stmt-F.Extra x.variable x.offset in
      let rest = map (own_rule h leads) (map takes_left left) in
      let long = long_is x.offset all.0.long in
      ap (λ (r : Rule). r.holds true false 255 && all_hold r.calls rest false 256)
      (rule_is h leads s y (S.rolls-Extra x.variable x.offset))
      ∙ ap (λ t. (t && is_long x.offset) && all_hold true rest false 256)
      (variable_is ws variables x.variable all.0.width few all.0.is)
      ∙ ap (λ t. t && all_hold true rest false 256) long
      ∙ extras_obey l leads left few all.1

  -- a statement that EXTRAOUTs may follow, with those that do
  group_suits : (l : Listing) (s : Stmt) (y : Stmt-F Stmt Arm) (xs : List Mention) (right : Bool) (left : List Leftover)
      → variables ≤ 2 ^ 32
      → roll-Stmt y ≡ s
      → in_stmt s ≡ xs
      → Knows h xs
      → ((leads : ℕ → Bool)
      → own_step h leads (map-Stmt Stmt Arm Rule Cased (own_rule h leads) (own_cased h leads) y) ≡ calling right)
      → right ≡ true
      → AllByRecursion (IsLeft l (widths_of h) variables) left
      → BodySuits h (s ∷ map takes_left left)
  group_suits l s y xs right left few is mentions knows step holds all = record {
    knows = knows_in h (s ∷ []) (map takes_left left) (knows_one h s xs mentions knows) (extras_know l left all);
    obey = λ leads after.
        let rest = map (own_rule h leads) (map takes_left left) in
        ap (λ (r : Rule). r.holds after false 255 && all_hold r.calls rest false 256)
        (rule_is h leads s y is ∙ step leads)
        ∙ ap (λ t. t && all_hold true rest false 256) holds
        ∙ extras_obey l leads left few all;
  }

-- Statements that suit a head where each address that they call has the listing's declaration, and with an exit.
abbrev AreCalled : Listing → Head → List Stmt → Type 0
AreCalled l h ss = EachCalled (IsDeclared l h.callees) ss

abbrev pub Suit : Listing → Head → List Stmt → Type 0
Suit l h ss = AreCalled l h ss → BodySuits h ss

abbrev pub BlockSuits : Listing → Head → List Stmt → Exit → Type 0
BlockSuits l h ss e = AreCalled l h ss → BodySuits h ss × ExitSuits h e

module _ (l : Listing) (ranges : List Varnode) (h : Head) (few : length h.params + length h.locals ≤ 2 ^ 32) where
  abbrev Shaped : Expr → ℕ → ℕ → Type 0
  Shaped e w d = Fits (widths_of h) (variables h) e w d

  abbrev IsOwn : ℕ → ℕ → Type 0
  IsOwn v w = IsVariable (widths_of h) (variables h) v w

  -- ---- statements

  assign_suits : (v w d : ℕ) (e : Expr) → IsOwn v w → Shaped e w d → BodySuits h (S.Assign v e ∷ [])
  assign_suits v w d e is f =
      let ws = widths_of h in
      let s = S.Assign v e in
      let y = Stmt-F.Assign v e in
      one_suits h s y (Variable v ∷ in_expr e) (is_assigned ws v (shape_of ws e)) (S.rolls-Assign v e)
      (in_statement s y (S.rolls-Assign v e)) (is.within, f.mentions) (λ leads. refl)
      (assigned_is ws (variables h) v w d e few is f)

  -- from a space without a name, or with a right one
  load_suits : (v w u d : ℕ) (space : Option (List ℕ)) (e : Expr)
      → IsOwn v w
      → is_space space ≡ true
      → Shaped e u d
      → BodySuits h (S.Load v space e ∷ [])
  load_suits v w u d space e is named f =
      let ws = widths_of h in
      let s = S.Load v space e in
      let y = Stmt-F.Load v space e in
      let right = is_right (shape_of ws e) in
      one_suits h s y (Variable v ∷ in_expr e) (is_variable ws v && (is_space space && right)) (S.rolls-Load v space e)
      (in_statement s y (S.rolls-Load v space e)) (is.within, f.mentions) (λ leads. refl)
      (ap (λ b. b && (is_space space && right)) (variable_is ws (variables h) v w few is)
      ∙ ap (λ b. b && right) named ∙ right_is ws (variables h) e u d f)

  store_suits : (u d w c : ℕ) (space : Option (List ℕ)) (a e : Expr)
      → is_space space ≡ true
      → Shaped a u d
      → Shaped e w c
      → BodySuits h (S.Store space a e ∷ [])
  store_suits u d w c space a e named f g =
      let ws = widths_of h in
      let n = variables h in
      let s = S.Store space a e in
      let y = Stmt-F.Store space a e in
      let first = is_right (shape_of ws a) in
      let second = is_right (shape_of ws e) in
      one_suits h s y (in_expr a ++ in_expr e) (is_space space && (first && second)) (S.rolls-Store space a e)
      (in_statement s y (S.rolls-Store space a e)) (below_append n (in_expr a) (in_expr e) f.mentions g.mentions)
      (λ leads. refl)
      (ap (λ b. b && (first && second)) named ∙ ap (λ b. b && second) (right_is ws n a u d f) ∙ right_is ws n e w c g)

  divide_suits : (op : StatementDivision) (v w : ℕ) (a b : Expr)
      → IsOwn v w
      → Shaped a w 16
      → Shaped b w 16
      → BodySuits h (S.Divide v op a b ∷ [])
  divide_suits op v w a b is f g =
      let ws = widths_of h in
      let n = variables h in
      let s = S.Divide v op a b in
      let y = Stmt-F.Divide v op a b in
      let wide = has_width (ws v) (shape_of ws b) in
      one_suits h s y (Variable v ∷ (in_expr a ++ in_expr b)) (is_assigned ws v (shape_of ws a) && wide)
      (S.rolls-Divide v op a b) (in_statement s y (S.rolls-Divide v op a b))
      (is.within, below_append n (in_expr a) (in_expr b) f.mentions g.mentions) (λ leads. refl)
      (ap (λ t. t && wide) (assigned_is ws n v w 16 a few is f) ∙ has_its_width ws n v w 16 b is g)

  -- ---- calls

  abbrev IsOwnTarget : Option ℕ → Option Varnode → Type 0
  IsOwnTarget v out = IsTarget (widths_of h) (variables h) v out

  abbrev AreOwn : List Expr → Type 0
  AreOwn args = AreRight (widths_of h) (variables h) args

  abbrev AreLeft : List Leftover → Type 0
  AreLeft left = AllByRecursion (IsLeft l (widths_of h) (variables h)) left

  -- the listing's declaration of a callee
  declared_call : (t : Bool) (v : Option ℕ) (a : ℕ) (args : List Expr)
      → does_return (callee_at l a) ≡ t
      → takes (widths_of h) v (gives_by t (proto_of l (callee_at l a)).gives) ≡ true
      → HaveWidths (widths_of h) (variables h) args (widths_passed (proto_of l (callee_at l a)).args)
      → is_call (widths_of h) v args (Some (callee_decl l a)) ≡ true
  declared_call t v a args is target wide =
      let ws = widths_of h in
      let p = proto_of l (callee_at l a) in
      ap (λ b. b && takes ws v (gives_by (does_return (callee_at l a)) p.gives))
      (passed_are ws (variables h) args 0 p.args wide)
      ∙ ap (λ b. takes ws v (gives_by b p.gives)) is
      ∙ target

  call_suits : (v : Option ℕ) (a : ℕ) (args : List Expr) (left : List Leftover)
      → Knows h (in_target v)
      → Knows h (in_exprs args)
      → IsDeclared l h.callees a
      → is_call (widths_of h) v args (Some (callee_decl l a)) ≡ true
      → AreLeft left
      → BodySuits h (S.Call v a args ∷ map takes_left left)
  call_suits v a args left target known is right all =
      let s = S.Call v a args in
      let y = Stmt-F.Call v a args in
      group_suits h l s y (in_target v ++ (Callee a ∷ in_exprs args))
      (is_call (widths_of h) v args (declared_in h.callees a)) left few (S.rolls-Call v a args)
      (in_statement s y (S.rolls-Call v a args))
      (knows_append h (in_target v) (Callee a ∷ in_exprs args) target ((callee_decl l a, is), known)) (λ leads. refl)
      (ap (is_call (widths_of h) v args) is ∙ right) all

  indirect_suits : (v : Option ℕ) (out : Option Varnode) (w : ℕ) (to : Expr) (args : List Expr) (left : List Leftover)
      → IsOwnTarget v out
      → Shaped to w 16
      → AreOwn args
      → AreLeft left
      → BodySuits h (S.CallInd v to args ∷ map takes_left left)
  indirect_suits v out w to args left target f own all =
      let ws = widths_of h in
      let n = variables h in
      let s = S.CallInd v to args in
      let y = Stmt-F.CallInd v to args in
      let right = is_right (shape_of ws to) in
      group_suits h l s y (in_target v ++ (in_expr to ++ in_exprs args))
      (is_target ws v && (right && are_right ws args)) left few (S.rolls-CallInd v to args)
      (in_statement s y (S.rolls-CallInd v to args))
      (knows_append h (in_target v) (in_expr to ++ in_exprs args) (knows_target h v out target)
      (knows_below h (in_expr to ++ in_exprs args)
      (below_append n (in_expr to) (in_exprs args) f.mentions (below_all ws n args own)))) (λ leads. refl)
      (ap (λ b. b && (right && are_right ws args)) (target_is ws n v out few target)
      ∙ ap (λ b. b && are_right ws args) (right_is ws n to w 16 f) ∙ all_right ws n args own) all

  other_suits : (v : Option ℕ) (out : Option Varnode) (index : ℕ) (args : List Expr)
      → index < 2 ^ 64
      → IsOwnTarget v out
      → AreOwn args
      → BodySuits h (S.Other v index args ∷ [])
  other_suits v out index args low target own =
      let ws = widths_of h in
      let n = variables h in
      let s = S.Other v index args in
      let y = Stmt-F.Other v index args in
      let long = long_is index low in
      known_suits h s y (in_target v ++ in_exprs args) (is_target ws v && (is_long index && are_right ws args))
      (S.rolls-Other v index args) (in_statement s y (S.rolls-Other v index args))
      (knows_append h (in_target v) (in_exprs args) (knows_target h v out target)
      (knows_below h (in_exprs args) (below_all ws n args own))) (λ leads. refl)
      (ap (λ b. b && (is_long index && are_right ws args)) (target_is ws n v out few target)
      ∙ ap (λ b. b && are_right ws args) long ∙ all_right ws n args own)

  -- ---- the result

  result_suits : (o : Option Varnode)
      → Gives l ranges (widths_of h) (variables h) o
      → (is_returned (widths_of h) (width_of_range o) (result_in l ranges o) ≡ true)
      × Knows h (in_option (result_in l ranges o))
  result_suits None given = (refl, tt)
  result_suits (Some v) given =
      let ws = widths_of h in
      let e = range_word l ranges v in (
        ap (λ k. has_width k (shape_of ws e)) (nearest_is v.size (given.0).0 (given.0).1)
            ∙ width_is ws (variables h) e v.size 16 given.1,
        knows_below h (in_expr e) (given.1).mentions,
      )

  return_suits : h.gives ≡ result_width l
      → Gives l ranges (widths_of h) (variables h) (proto_of l None).gives
      → ExitSuits h (X.Return (result l ranges))
  return_suits gives given =
      let r = result_suits (proto_of l None).gives given in
      (ap (λ g. is_returned (widths_of h) g (result l ranges)) gives ∙ r.0, r.1)

  -- ---- kinds

  before_suits : (xs ys : List Stmt) (e : Exit)
      → Suit l h xs
      → BlockSuits l h ys e
      → BlockSuits l h (xs ++ ys) e
  before_suits xs ys e f g called =
      let D = IsDeclared l h.callees in
      let rest = g (called_back D xs ys called) in
      (suits_append h xs ys (f (called_front D xs ys called)) rest.0, rest.1)

  knows_args : (args : List Expr) (ks : List ℕ)
      → HaveWidths (widths_of h) (variables h) args ks
      → Knows h (in_exprs args)
  knows_args args ks wide =
      let ws = widths_of h in
      let n = variables h in
      knows_below h (in_exprs args) (below_all ws n args (rights ws n args ks wide))

  -- The kinds of statements and exits suit a head, where the listing's spaces are named and the head gives the result.
  pub suit_kinds : (m : ℕ)
      → AllByRecursion IsNamedSpace l.spaces
      → h.gives ≡ result_width l
      → Kinds l ranges (widths_of h) (length h.params + length h.locals) m (Suit l h) (BlockSuits l h)
  suit_kinds m named gives = record {
    none = λ called. suits_none h;
    append = λ xs ys f g called.
        let D = IsDeclared l h.callees in
        suits_append h xs ys (f (called_front D xs ys called)) (g (called_back D xs ys called));
    assign = λ v w d e is f called. assign_suits v w d e is f;
    load = λ v w s u d e is mem f called.
        load_suits v w u d (name_of l s) e is (space_named l s named mem) f;
    store = λ s u d w c a e mem f g called.
        store_suits u d w c (name_of l s) a e (space_named l s named mem) f g;
    divide = λ op v w a b is f g called. divide_suits op v w a b is f g;
    call = λ v a args left low is target wide all called.
        let p = proto_of l (callee_at l a) in
        call_suits v a args left (knows_target h v p.gives target) (knows_args args (widths_passed p.args) wide)
        (called.0 a (callee_of_call v a args))
        (declared_call true v a args is (takes_is (widths_of h) (variables h) v p.gives few target) wide) all;
    indirect = λ v out w to args left target f own all called. indirect_suits v out w to args left target f own all;
    other = λ v out index args low target own called. other_suits v out index args low target own;
    before = before_suits;
    jump = λ to below called. (suits_none h, tt);
    test = λ c taken other f low high called. (
      suits_none h,
      (condition_is (widths_of h) (variables h) c 1 f, knows_below h (in_expr c) f.mentions),
    );
    returns = λ given called. (suits_none h, return_suits gives given);
    stops = λ a args low is wide called. (
      call_suits None a args [] tt (knows_args args (widths_passed (proto_of l (callee_at l a)).args) wide)
          (called.0 a (callee_of_call None a args)) (declared_call false None a args is refl wide) tt,
      tt,
    );
  }
