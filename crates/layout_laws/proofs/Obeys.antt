-- The lines of a laid body obey their rules, and the function that is made of it is a valid tree.
use Rattle.std.proofs.Common.{◌≡◌, ◌≢◌, ℕ, suc, ◌+◌, ◌<◌, ◌≤◌, ◌^◌, ◌&&◌, Bool, true, false, List, [], ◌∷◌, ◌++◌, length, map, Some, refl, sym, ap, ◌∙◌, arith}
use Rattle.std.specs.Prelude.{IsTrue, ◌==◌, cond, slice_get}
use Rattle.std.proofs.lemmas.Bool.Decides.{nat_tests}
use Rattle.pcode_model.specs.Spaces.{or}
use Rattle.cmeaning.specs.declared.tree.Expr.{Expr}
use Rattle.cmeaning.specs.declared.tree.Stmt.{Stmt}
use Rattle.cmeaning.specs.declared.tree.Stmt.TheOpen.{Stmt-F}
use Rattle.cmeaning.specs.declared.tree.Stmt.TheVariants as S
use Rattle.cmeaning.specs.Mentions.{in_body}
use Rattle.cmeaning.specs.Shape.{shape_of, is_condition}
use Rattle.cmeaning.specs.Valid.{all_cases, all_hold, are_callees, are_cases_of, are_params, arms_hold, has_case, is_in, is_name, IsValid}
use Rattle.naming.specs.declared.head.Head.{Head}
use Rattle.naming.specs.Named.{named_function}
use Rattle.naming.specs.Run.{widths_of}
use Rattle.naming.specs.Covered.{has_line}
use Rattle.naming.specs.Rules.{own_cased, own_rule}
use Rattle.naming.proofs.Rules.{own_cased_is, rule_is}
use Rattle.naming_laws.proofs.Valid.{named_valid}
use Rattle.blockcode.specs.declared.code.Arm.{Arm}
use Rattle.blockcode.specs.declared.code.Exit.{Exit}
use Rattle.blockcode.specs.declared.code.Exit.TheVariants as X
use Rattle.blockcode.specs.declared.code.Block.{Block}
use Rattle.blockcode.specs.declared.code.Code.{Code}
use Rattle.blockcode.specs.CanLay.{values_of}
use Rattle.blockcode.specs.Laid.{arms_name, blocks_name, branch_to, branches, by_value, exit_lines, exit_names, goto, is_named, jump_names, label_line, laid_body, laid_from, targets, values_to, without}
use Rattle.blockcode.specs.Numbers.{AreNumbered, ArmsBelow, ExitBelow}
use Rattle.blockcode.proofs.ByValue.{name_kept}
use Rattle.layout.specs.Suits.{AllSuit, ExitSuits}
use Rattle.layout.proofs.Suiting as Suiting
use Rattle.layout.proofs.Suiting.{obey_append, obey_none, obey_one}
use Rattle.layout_laws.proofs.Cases.{cases_kept, cases_led, led_values}
use Rattle.layout_laws.proofs.Covered.{laid_covered, named_has_line}
use Rattle.layout_laws.proofs.Laid.{below_at, block_names, jump_named, or_true, same_number, true_or}

-- ---- the arms of a switch

in_kept : (x t : ℕ) (ts : List ℕ) → is_in t (without x ts) ≡ true → is_in t ts ≡ true
in_kept x t [] h = h
in_kept x t (y ∷ ts) h = by (y == x) h (in_kept x t ts) where
  by : (b : Bool)
      → is_in t (cond b (without x ts) (y ∷ without x ts)) ≡ true
      → (is_in t (without x ts) ≡ true → is_in t ts ≡ true)
      → or (t == y) (is_in t ts) ≡ true
  by true h next = or_true (t == y) (is_in t ts) (next h)
  by false h next = either (t == y) h
    where
      either : (c : Bool) → or c (is_in t (without x ts)) ≡ true → or c (is_in t ts) ≡ true
      either true h = refl
      either false h = next h

-- a block that a switch leads to is named by it, and has a value
target_named : (arms : List Arm) (t : ℕ) → is_in t (targets arms) ≡ true → arms_name arms t ≡ true
target_named [] t h = absurd (cc)
target_named (a ∷ rest) t h = by (t == a.to) refl h (λ k. target_named rest t (in_kept a.to t (targets rest) k)) where
  by : (b : Bool) → (t == a.to) ≡ b
      → or b (is_in t (without a.to (targets rest))) ≡ true
      → (is_in t (without a.to (targets rest)) ≡ true → arms_name rest t ≡ true)
      → or (a.to == t) (arms_name rest t) ≡ true
  by true e h next = true_or (a.to == t) (arms_name rest t) (grind (arith, nat_tests, e))
  by false e h next = or_true (a.to == t) (arms_name rest t) (next h)

target_cased : (arms : List Arm) (t : ℕ) → arms_name arms t ≡ true → has_case (values_to t arms) ≡ true
target_cased [] t h = absurd (cc)
target_cased (a ∷ rest) t h = by (a.to == t) h (target_cased rest t) where
  by : (b : Bool)
      → or b (arms_name rest t) ≡ true
      → (arms_name rest t ≡ true → has_case (values_to t rest) ≡ true)
      → has_case (cond b (a.value ∷ values_to t rest) (values_to t rest)) ≡ true
  by true h next = refl
  by false h next = next h

-- ---- rules

module _ (h : Head) (leads : ℕ → Bool) where
  abbrev Obey : List Stmt → Type 0
  Obey ss = Suiting.Obey h leads ss

  goto_holds : (n : ℕ) (after in_loop : Bool) (room : ℕ)
      → leads n ≡ true
      → (own_rule h leads (S.Goto n)).holds after in_loop room ≡ true
  goto_holds n after in_loop room is =
      ap (λ r. r.holds after in_loop room) (rule_is h leads (S.Goto n) (Stmt-F.Goto n) (S.rolls-Goto n)) ∙ is

  obey_jump : (next to : ℕ) → ((to ≢ next) → leads to ≡ true) → Obey (goto next to)
  obey_jump next to is = by (to == next) refl where
    by : (b : Bool) → (to == next) ≡ b → Obey (cond b [] (S.Goto to ∷ []))
    by true e = obey_none h leads
    by false e =
        let ne : to ≢ next = λ f. let t : (to == next) ≡ true = grind (arith, nat_tests) in absurd (cc) in
        obey_one h leads (S.Goto to) (λ after. goto_holds to after false 255 (is ne))

  obey_test : (c : Expr) (n : ℕ)
      → is_condition (shape_of (widths_of h) c) ≡ true
      → leads n ≡ true
      → Obey (S.If c (S.Goto n ∷ []) ∷ [])
  obey_test c n is lead = obey_one h leads (S.If c (S.Goto n ∷ []))
      (λ after. ap (λ r. r.holds after false 255)
      (rule_is h leads (S.If c (S.Goto n ∷ [])) (Stmt-F.If c (S.Goto n ∷ [])) (S.rolls-If c (S.Goto n ∷ [])))
      ∙ ap (λ b. b && ((own_rule h leads (S.Goto n)).holds false false 254 && true)) is
      ∙ ap (λ b. b && true) (goto_holds n false false 254 lead))

  cases_are : (arms : List Arm) (ts : List ℕ)
      → all_cases (map (own_cased h leads) (map (branch_to arms) ts)) ≡ led_values arms ts
  cases_are arms [] = refl
  cases_are arms (t ∷ ts) =
      ap (λ c. c.cases ++ all_cases (map (own_cased h leads) (map (branch_to arms) ts)))
      (own_cased_is h leads (branch_to arms t))
      ∙ ap (λ vs. values_to t arms ++ vs) (cases_are arms ts)

  arms_obey : (arms : List Arm) (ts : List ℕ)
      → ((t : ℕ) → is_in t ts ≡ true → (leads t ≡ true) × (has_case (values_to t arms) ≡ true))
      → arms_hold (map (own_cased h leads) (map (branch_to arms) ts)) 255 ≡ true
  arms_obey arms [] each = refl
  arms_obey arms (t ∷ ts) each =
      let rest = arms_hold (map (own_cased h leads) (map (branch_to arms) ts)) 255 in
      let here = each t (true_or (t == t) (is_in t ts) (same_number t)) in
      ap (λ c. has_case c.cases && (all_hold false c.body false 255 && rest)) (own_cased_is h leads (branch_to arms t))
      ∙ ap (λ b. b && (((own_rule h leads (S.Goto t)).holds false false 254 && true) && rest)) here.1
      ∙ ap (λ b. (b && true) && rest) (goto_holds t false false 254 here.0)
      ∙ arms_obey arms ts (λ u is. each u (or_true (u == t) (is_in u ts) is))

  obey_switch : (e : Expr) (arms : List Arm)
      → are_cases_of (values_of arms) (shape_of (widths_of h) e) ≡ true
      → ((t : ℕ) → arms_name arms t ≡ true → leads t ≡ true)
      → Obey (S.Switch e (branches arms) ∷ [])
  obey_switch e arms is lead = obey_one h leads (S.Switch e (branches arms))
      (λ after. ap (λ r. r.holds after false 255)
      (rule_is h leads (S.Switch e (branches arms)) (Stmt-F.Switch e (branches arms)) (S.rolls-Switch e (branches arms)))
      ∙ ap (λ vs. are_cases_of vs (shape_of (widths_of h) e)
      && arms_hold (map (own_cased h leads) (branches arms)) 255) (cases_are arms (targets arms))
      ∙ ap (λ b. b && arms_hold (map (own_cased h leads) (branches arms)) 255)
      (cases_led arms (shape_of (widths_of h) e) is)
      ∙ arms_obey arms (targets arms)
      (λ t among. let named = target_named arms t among in (lead t named, target_cased arms t named)))

  -- ---- lines

  obey_exit : (next : ℕ) (e : Exit)
      → ExitSuits h e
      → ((b : ℕ) → exit_names next e b ≡ true → leads b ≡ true)
      → Obey (exit_lines next e)
  obey_exit next (X.Return e) s lead = obey_one h leads (S.Return e)
      (λ after. ap (λ r. r.holds after false 255) (rule_is h leads (S.Return e) (Stmt-F.Return e) (S.rolls-Return e)) ∙ s.0)
  obey_exit next (X.Jump to) s lead = obey_jump next to (λ ne. lead to (jump_named next to ne))
  obey_exit next (X.Test c taken other) s lead =
      obey_append h leads (S.If c (S.Goto taken ∷ []) ∷ []) (goto next other)
      (obey_test c taken s.0 (lead taken (true_or (taken == taken) (jump_names next other taken) (same_number taken))))
      (obey_jump next other
      (λ ne. lead other (or_true (taken == other) (jump_names next other other) (jump_named next other ne))))
  obey_exit next (X.Switch e arms) s lead =
      obey_switch e (by_value arms) (cases_kept arms (shape_of (widths_of h) e) s.0)
      (λ t is. lead t (sym (name_kept t arms) ∙ is))
  obey_exit next X.Stop s lead = obey_none h leads

  obey_label : (b : Bool) (n : ℕ) → n < 2 ^ 32 → Obey (label_line b n)
  obey_label false n few = obey_none h leads
  obey_label true n few = obey_one h leads (S.Label n)
      (λ after. ap (λ r. r.holds after false 255) (rule_is h leads (S.Label n) (Stmt-F.Label n) (S.rolls-Label n))
      ∙ grind (arith, nat_tests))

  obey_laid : (named : ℕ → Bool) (n : ℕ) (blocks : List Block)
      → n + length blocks ≤ 2 ^ 32
      → AllSuit h blocks
      → ((c : ℕ) (x : Block) (b : ℕ) → slice_get blocks c ≡ Some x → exit_names (suc (n + c)) x.exit b ≡ true
      → leads b ≡ true)
      → Obey (laid_from named n blocks)
  obey_laid named n [] few all lead = obey_none h leads
  obey_laid named n (x ∷ xs) few all lead =
      let ex = exit_lines (suc n) x.exit in
      let rest = laid_from named (suc n) xs in
      let here : n + 0 ≡ n = omega arith in
      obey_append h leads (label_line (named n) n) (x.body ++ (ex ++ rest)) (obey_label (named n) n (omega (arith, few)))
      (obey_append h leads x.body (ex ++ rest) ((all.0.0).obey leads)
      (obey_append h leads ex rest
      (obey_exit (suc n) x.exit all.0.1
      (λ b names. lead 0 x b refl (ap (λ m. exit_names (suc m) x.exit b) here ∙ names)))
      (obey_laid named (suc n) xs (omega (arith, few)) all.1
      (λ c y b get names. let later : n + suc c ≡ suc n + c = omega arith in
      lead (suc c) y b get (ap (λ m. exit_names (suc m) y.exit b) later ∙ names)))))

-- ---- the whole

jump_below : (next to b n : ℕ) → to < n → jump_names next to b ≡ true → b < n
jump_below next to b n lt is = by (to == next) is where
  by : (c : Bool) → cond c false (to == b) ≡ true → b < n
  by true h = absurd (cc)
  by false h = let same : to ≡ b = grind (arith, nat_tests, h) in omega (arith, lt, same)

arms_below : (arms : List Arm) (b n : ℕ) → ArmsBelow n arms → arms_name arms b ≡ true → b < n
arms_below [] b n below is = absurd (cc)
arms_below (a ∷ rest) b n below is = by (a.to == b) refl is (arms_below rest b n below.1) where
  by : (c : Bool) → (a.to == b) ≡ c
      → or c (arms_name rest b) ≡ true
      → (arms_name rest b ≡ true → b < n)
      → b < n
  by true e h next = let same : a.to ≡ b = grind (arith, nat_tests, e) in omega (arith, below.0, same)
  by false e h next = next h

-- what an exit names is a block of the code
exit_below : (next : ℕ) (e : Exit) (b n : ℕ) → ExitBelow n e → exit_names next e b ≡ true → b < n
exit_below next (X.Return e) b n below is = absurd (cc)
exit_below next (X.Jump to) b n below is = jump_below next to b n below is
exit_below next (X.Test c taken other) b n below is = by (taken == b) refl is where
  by : (c : Bool) → (taken == b) ≡ c → or c (jump_names next other b) ≡ true → b < n
  by true e h = let same : taken ≡ b = grind (arith, nat_tests, e) in omega (arith, below.0, same)
  by false e h = jump_below next other b n below.1 h
exit_below next (X.Switch e arms) b n below is = arms_below arms b n below is
exit_below next X.Stop b n below is = absurd (cc)

-- The function that a code is laid out as below a head is a valid tree.
pub laid_valid : (h : Head) (k : Code)
    → AreNumbered k
    → AllSuit h k.blocks
    → length h.params + length h.locals ≤ 2 ^ 32
    → IsTrue (is_name h.name)
    → IsTrue (are_params h.params)
    → IsTrue (are_callees h.callees)
    → IsValid (named_function h (laid_body k))
laid_valid h k numbers all narrow name params callees =
    let leads = has_line (in_body (laid_body k)) in
    let n = length k.blocks in
    let entry : (k.entry ≢ 0) → leads k.entry ≡ true = λ ne. named_has_line k k.entry numbers.entry
    (true_or (jump_names 0 k.entry k.entry) (blocks_name 0 k.blocks k.entry) (jump_named 0 k.entry ne)) in
    let exits : (c : ℕ) (x : Block) (b : ℕ) → slice_get k.blocks c ≡ Some x → exit_names (suc (0 + c)) x.exit b ≡ true
    → leads b ≡ true = λ c x b get names. let zero : 0 + c ≡ c = omega arith in
    let there : exit_names (suc c) x.exit b ≡ true = sym (ap (λ m. exit_names (suc m) x.exit b) zero) ∙ names in
    named_has_line k b (exit_below (suc c) x.exit b n (below_at n k.blocks c x numbers.exits get) there)
    (block_names k c x b get there) in
    named_valid h (laid_body k) (laid_covered h k narrow numbers.few all) name params callees
    (obey_append h leads (goto 0 k.entry) (laid_from (is_named k) 0 k.blocks) (obey_jump h leads 0 k.entry entry)
    (obey_laid h leads (is_named k) 0 k.blocks (let few = numbers.few in omega (arith, few)) all exits) false)
