-- What a laid body mentions is the head's, and each label has one line, where a goto names its block.
use Rattle.std.proofs.Common.{◌≡◌, ℕ, zero, suc, ◌+◌, ◌-◌, ◌<◌, ◌≤◌, ◌^◌, Bool, true, false, List, [], ◌∷◌, ◌++◌, length, map, refl, sym, ap, ◌∙◌, subst, arith}
use Rattle.std.specs.Prelude.{◌==◌, cond}
use Rattle.std.proofs.lemmas.Bool.Decides.{nat_tests}
use Rattle.pcode_model.specs.Spaces.{or}
use Rattle.cmeaning.specs.declared.tree.Expr.{Expr}
use Rattle.cmeaning.specs.declared.tree.Stmt.{Stmt}
use Rattle.cmeaning.specs.declared.tree.Stmt.TheOpen.{Stmt-F}
use Rattle.cmeaning.specs.declared.tree.Stmt.TheVariants as S
use Rattle.cmeaning.specs.Mentions.{Mention, Variable, Callee, LabelLine, all, in_expr, in_option, in_stmt, in_arms, in_body}
use Rattle.cmeaning.proofs.Mentions.{in_append, in_arm_body, in_goto, in_label, in_statement}
use Rattle.naming.specs.declared.head.Head.{Head}
use Rattle.naming.specs.Listed.{is_listed, with_one}
use Rattle.naming.specs.Covered.{Covers, HasOnce, IsCovered, has_line}
use Rattle.naming_laws.proofs.Found.{listed_more}
use Rattle.blockcode.specs.declared.code.Arm.{Arm}
use Rattle.blockcode.specs.declared.code.Exit.{Exit}
use Rattle.blockcode.specs.declared.code.Exit.TheVariants as X
use Rattle.blockcode.specs.declared.code.Block.{Block}
use Rattle.blockcode.specs.declared.code.Code.{Code}
use Rattle.blockcode.specs.Laid.{is_named, branch_to, branches, by_value, switch_arms, targets, label_line, goto, exit_lines, laid_from, laid_body}
use Rattle.layout.specs.Suits.{Knows, BodySuits, ExitSuits, AllSuit}
use Rattle.layout.proofs.Suiting.{knows_append, knows_in, knows_one}

-- ---- what lines mention

-- a goto alone
only_goto : (n : ℕ) → in_body (S.Goto n ∷ []) ≡ []
only_goto n = ap (λ ms. ms ++ []) (in_goto n)

in_test : (c : Expr) (n : ℕ) → in_stmt (S.If c (S.Goto n ∷ [])) ≡ in_expr c ++ []
in_test c n = in_statement (S.If c (S.Goto n ∷ [])) (Stmt-F.If c (S.Goto n ∷ [])) (S.rolls-If c (S.Goto n ∷ []))
    ∙ ap (λ ms. in_expr c ++ ms) (only_goto n)

in_branches : (arms : List Arm) (ts : List ℕ) → in_arms (map (branch_to arms) ts) ≡ []
in_branches arms [] = refl
in_branches arms (t ∷ ts) =
    ap (λ ms. ms ++ in_arms (map (branch_to arms) ts)) (in_arm_body (branch_to arms t) ∙ only_goto t)
    ∙ in_branches arms ts

in_switch : (e : Expr) (arms : List Arm) → in_stmt (S.Switch e (branches arms)) ≡ in_expr e ++ []
in_switch e arms =
    in_statement (S.Switch e (branches arms)) (Stmt-F.Switch e (branches arms)) (S.rolls-Switch e (branches arms))
    ∙ ap (λ ms. in_expr e ++ ms) (in_branches arms (targets arms))

in_jump : (next to : ℕ) → in_body (goto next to) ≡ []
in_jump next to = by (to == next) where
  by : (b : Bool) → in_body (cond b [] (S.Goto to ∷ [])) ≡ []
  by true = refl
  by false = only_goto to

-- ---- known by the head

module _ (h : Head) where
  knows_none : (xs : List Mention) → xs ≡ [] → Knows h xs
  knows_none xs none = subst (Knows h) (sym none) tt

  knows_exit : (next : ℕ) (e : Exit) → ExitSuits h e → Knows h (in_body (exit_lines next e))
  knows_exit next (X.Return e) s = knows_one h (S.Return e) (in_option e)
      (in_statement (S.Return e) (Stmt-F.Return e) (S.rolls-Return e)) s.1
  knows_exit next (X.Jump to) s = knows_none (in_body (goto next to)) (in_jump next to)
  knows_exit next (X.Test c taken other) s =
      knows_in h (S.If c (S.Goto taken ∷ []) ∷ []) (goto next other)
      (knows_one h (S.If c (S.Goto taken ∷ [])) (in_expr c ++ []) (in_test c taken) (knows_append h (in_expr c) [] s.1 tt))
      (knows_none (in_body (goto next other)) (in_jump next other))
  knows_exit next (X.Switch e arms) s =
      knows_one h (S.Switch e (switch_arms arms)) (in_expr e ++ []) (in_switch e (by_value arms))
      (knows_append h (in_expr e) [] s.1 tt)
  knows_exit next X.Stop s = tt

  -- the lines of a block without its label
  knows_block : (next : ℕ) (x : Block)
      → BodySuits h x.body × ExitSuits h x.exit
      → Knows h (in_body (x.body ++ exit_lines next x.exit))
  knows_block next x s = knows_in h x.body (exit_lines next x.exit) (s.0).knows (knows_exit next x.exit s.1)

  -- ---- what is covered

  covers_append : (xs ys : List Mention) → Knows h xs → Covers h ys → Covers h (xs ++ ys)
  covers_append [] ys k l = l
  covers_append (Variable v ∷ xs) ys k l = (k.0, covers_append xs ys k.1 l)
  covers_append (Callee a ∷ xs) ys k l = (k.0, covers_append xs ys k.1 l)
  covers_append (LabelLine n ∷ xs) ys k l = absurd k.0

  once_append : (known : List ℕ) (xs ys : List Mention) → Knows h xs → HasOnce known ys → HasOnce known (xs ++ ys)
  once_append known [] ys k l = l
  once_append known (Variable v ∷ xs) ys k l = once_append known xs ys k.1 l
  once_append known (Callee a ∷ xs) ys k l = once_append known xs ys k.1 l
  once_append known (LabelLine n ∷ xs) ys k l = absurd k.0

  -- ---- labels

  abbrev AllUnder : ℕ → List ℕ → Type 0
  AllUnder n known = (m : ℕ) → is_listed m known ≡ true → m < n

  is_new : (n : ℕ) (known : List ℕ) → AllUnder n known → is_listed n known ≡ false
  is_new n known under = by (is_listed n known) refl where
    by : (b : Bool) → is_listed n known ≡ b → b ≡ false
    by false e = refl
    by true e = absurd (omega (arith, under n e))

  under_more : (n : ℕ) (known : List ℕ) → AllUnder n known → AllUnder (suc n) (with_one known n)
  under_more n known under m is =
      by (is_listed m known) refl (n == m) refl
      (sym (listed_more known n m)
      ∙ sym (ap (λ b. is_listed m (cond b known (known ++ n ∷ []))) (is_new n known under))
      ∙ is) where
        by : (b : Bool) → is_listed m known ≡ b → (c : Bool) → (n == m) ≡ c → or b c ≡ true → m < suc n
        by true e c f g = omega (arith, under m e)
        by false e true f g = let same : n ≡ m = grind (arith, nat_tests, f) in omega (arith, same)
        by false e false f g = absurd (cc)

  module _ (named : ℕ → Bool) where
    regroup : (a b c : List Stmt) → a ++ (b ++ c) ≡ (a ++ b) ++ c
    regroup [] b c = refl
    regroup (s ∷ a) b c = ap (λ ss. s ∷ ss) (regroup a b c)

    -- a block's mentions, with its label in front
    mentions_are : (b : Bool) (n : ℕ) (x : Block) (rest : List Stmt)
        → in_body (label_line b n ++ (x.body ++ (exit_lines (suc n) x.exit ++ rest)))
        ≡ in_body (label_line b n) ++ (in_body (x.body ++ exit_lines (suc n) x.exit) ++ in_body rest)
    mentions_are b n x rest =
        in_append (label_line b n) (x.body ++ (exit_lines (suc n) x.exit ++ rest))
        ∙ ap (λ ss. in_body (label_line b n) ++ in_body ss) (regroup x.body (exit_lines (suc n) x.exit) rest)
        ∙ ap (λ ms. in_body (label_line b n) ++ ms) (in_append (x.body ++ exit_lines (suc n) x.exit) rest)

    line_covered : (b : Bool) (n : ℕ) (ms : List Mention)
        → n < 2 ^ 32 - 1
        → Covers h ms
        → Covers h (in_body (label_line b n) ++ ms)
    line_covered false n ms few c = c
    line_covered true n ms few c =
        subst (λ xs. Covers h ((xs ++ []) ++ ms)) (sym (in_label n)) (few, c)

    line_once : (b : Bool) (n : ℕ) (known : List ℕ) (ms : List Mention)
        → AllUnder n known
        → ((known : List ℕ) → AllUnder (suc n) known → HasOnce known ms)
        → HasOnce known (in_body (label_line b n) ++ ms)
    line_once false n known ms under rest = rest known (λ m is. omega (arith, under m is))
    line_once true n known ms under rest =
        subst (λ xs. HasOnce known ((xs ++ []) ++ ms)) (sym (in_label n))
        (is_new n known under, rest (with_one known n) (under_more n known under))

    laid_covers : (n : ℕ) (blocks : List Block)
        → n + length blocks < 2 ^ 32 - 1
        → AllSuit h blocks
        → Covers h (in_body (laid_from named n blocks))
    laid_covers n [] few all = tt
    laid_covers n (x ∷ xs) few all =
        subst (Covers h) (sym (mentions_are (named n) n x (laid_from named (suc n) xs)))
        (line_covered (named n) n _ (omega (arith, few))
        (covers_append (in_body (x.body ++ exit_lines (suc n) x.exit)) (in_body (laid_from named (suc n) xs))
        (knows_block (suc n) x all.0) (laid_covers (suc n) xs (omega (arith, few)) all.1)))

    laid_once : (n : ℕ) (blocks : List Block) (known : List ℕ)
        → AllUnder n known
        → AllSuit h blocks
        → HasOnce known (in_body (laid_from named n blocks))
    laid_once n [] known under all = tt
    laid_once n (x ∷ xs) known under all =
        subst (HasOnce known) (sym (mentions_are (named n) n x (laid_from named (suc n) xs)))
        (line_once (named n) n known _ under
        (λ later above. once_append later (in_body (x.body ++ exit_lines (suc n) x.exit))
        (in_body (laid_from named (suc n) xs)) (knows_block (suc n) x all.0)
        (laid_once (suc n) xs later above all.1)))

  -- The head covers the laid body, where it covers the code's statements and exits.
  pub laid_covered : (k : Code)
      → length h.params + length h.locals ≤ 2 ^ 32
      → length k.blocks < 2 ^ 32 - 1
      → AllSuit h k.blocks
      → IsCovered h (laid_body k)
  laid_covered k narrow few all =
      let jump = goto 0 k.entry in
      let rest = laid_from (is_named k) 0 k.blocks in
      let is : in_body (laid_body k) ≡ in_body rest = in_append jump rest
      ∙ ap (λ ms. ms ++ in_body rest) (in_jump 0 k.entry) in
      record {
        mentions = subst (Covers h) (sym is)
            (laid_covers (is_named k) 0 k.blocks (omega (arith, few)) all);
        few = narrow;
        once = subst (HasOnce []) (sym is) (laid_once (is_named k) 0 k.blocks [] (λ m e. absurd (cc)) all);
      }

-- ---- a block that a goto names has its line

line_behind : (xs ys : List Mention) (n : ℕ) → has_line ys n ≡ true → has_line (xs ++ ys) n ≡ true
line_behind [] ys n e = e
line_behind (Variable v ∷ xs) ys n e = line_behind xs ys n e
line_behind (Callee a ∷ xs) ys n e = line_behind xs ys n e
line_behind (LabelLine m ∷ xs) ys n e = by (m == n) (line_behind xs ys n e) where
  by : (b : Bool) → has_line (xs ++ ys) n ≡ true → or b (has_line (xs ++ ys) n) ≡ true
  by true next = refl
  by false next = next

line_here : (b : Bool) (n : ℕ) (rest : List Stmt) → b ≡ true → has_line (in_body (label_line b n ++ rest)) n ≡ true
line_here false n rest e = absurd (cc)
line_here true n rest e =
    let same : (n == n) ≡ true = grind (arith, nat_tests) in
    ap (λ ms. has_line (ms ++ in_body rest) n) (in_label n)
    ∙ ap (λ b. or b (has_line (in_body rest) n)) same

line_in : (xs ys : List Stmt) (n : ℕ) → has_line (in_body ys) n ≡ true → has_line (in_body (xs ++ ys)) n ≡ true
line_in xs ys n e = ap (λ ms. has_line ms n) (in_append xs ys) ∙ line_behind (in_body xs) (in_body ys) n e

line_there : (named : ℕ → Bool) (c n m : ℕ) (blocks : List Block)
    → m ≡ n + c
    → c < length blocks
    → named m ≡ true
    → has_line (in_body (laid_from named n blocks)) m ≡ true
line_there named c n m [] e lt is = absurd (omega arith)
line_there named zero n m (x ∷ xs) e lt is =
    let same : m ≡ n = omega (arith, e) in
    let rest = x.body ++ (exit_lines (suc n) x.exit ++ laid_from named (suc n) xs) in
    ap (has_line (in_body (label_line (named n) n ++ rest))) same
    ∙ line_here (named n) n rest (ap named (sym same) ∙ is)
line_there named (suc c) n m (x ∷ xs) e lt is =
    let later : m ≡ suc n + c = omega (arith, e) in
    let rest = laid_from named (suc n) xs in
    line_in (label_line (named n) n) (x.body ++ (exit_lines (suc n) x.exit ++ rest)) m
    (line_in x.body (exit_lines (suc n) x.exit ++ rest) m
    (line_in (exit_lines (suc n) x.exit) rest m
    (line_there named c (suc n) m xs later (omega (arith, lt)) is)))

pub named_has_line : (k : Code) (b : ℕ)
    → b < length k.blocks
    → is_named k b ≡ true
    → has_line (in_body (laid_body k)) b ≡ true
named_has_line k b lt is =
    line_in (goto 0 k.entry) (laid_from (is_named k) 0 k.blocks) b
    (line_there (is_named k) b 0 b k.blocks (let e : b ≡ 0 + b = omega arith in e) lt is)
