-- The returns, tests and switches of the laid-out body, and its whole run.
use Rattle.std.proofs.Common.{◌≡◌, ℕ, zero, suc, ◌+◌, ◌-◌, Bool, true, false, List, [], ◌∷◌, ◌++◌, length, drop, refl, sym, ap, ◌∙◌, subst, Option, Some, None, arith, inl}
use Rattle.std.specs.Prelude.{◌==◌, cond, nat_lt, slice_get}
use Rattle.machine.specs.Trace.{End, Returned, Undefined, Trace}
use Rattle.machine.specs.TwoWay.{TwoWay, IsFront}
use Rattle.machine.specs.Machine.{after, Machine, seen, IsMonotone, RankedSimulates}
use Rattle.machine.proofs.TwoWay.{front_trans}
use Rattle.pcode_model.specs.declared.listing.Listing.{Listing}
use Rattle.pcode_model.specs.Spaces.{or}
use Rattle.pcode_model.specs.World.{shown}
use Rattle.cmeaning.specs.declared.tree.Expr.{Expr}
use Rattle.cmeaning.specs.declared.tree.Stmt.{Stmt}
use Rattle.cmeaning.specs.declared.tree.Stmt.TheVariants as S
use Rattle.cmeaning.specs.Value.{value_of}
use Rattle.cmeaning.specs.Do.{Local, ends}
use Rattle.cmeaning.specs.Flat.{Flat, Test, Jump, Choose, Give, found_in, piece_of}
use Rattle.cmeaning.specs.Step.{CState, tested, goes_by, gives, given}
use Rattle.cmeaning.specs.Valid.{are_distinct}
use Rattle.cmeaning.proofs.Flat.{piece_of_if, piece_of_goto, piece_of_return}
use Rattle.blockcode.specs.declared.code.Arm.{Arm}
use Rattle.blockcode.specs.declared.code.Exit.{Exit}
use Rattle.blockcode.specs.declared.code.Exit.TheVariants as X
use Rattle.blockcode.specs.declared.code.Block.{Block}
use Rattle.blockcode.specs.declared.code.Code.{Code}
use Rattle.blockcode.specs.Run.{CodeState, widths, chosen, enters, enters_by, returns_with, leave, code_step, code_machine}
use Rattle.blockcode.proofs.Arms.{rising_distinct}
use Rattle.blockcode.proofs.ByValue.{switch_kept, values_rise}
use Rattle.blockcode.specs.CanLay.{AreSimple, CanLeave, any_switch, has_switch, is_switch, values_of}
use Rattle.blockcode.specs.Laid.{branches, by_value, goto, exit_lines, laid_from, placed, targets}
use Rattle.blockcode.proofs.Straight.{get_in_front, get_of_drop, rest_of_drop, still, step_in}
use Rattle.layout_laws.proofs.Switches.{case_leads, cases_from, chosen_by, chosen_is, jumps, leads_to, switch_span, switch_steps}
use Rattle.layout_laws.proofs.Follows.{Lines, flat_from, Leads, JumpLeads, ArmsLead, IsLaid, Given, behind, NeverLost, Related, Went, body_run, goes_on, entered, arrives, ended_goes, jump_goes, simple_goes, c_is, c_still, front}

-- ---- returns

-- both have ended in the same way
record EndsAlike (x y : Local) : Type 0 where
  same : x ≡ y
  how : End
  over : x.world.over ≡ Some how

gives_alike : (o : Option ℕ) (u : CodeState) (c : CState)
    → u.local ≡ c.local
    → EndsAlike (returns_with o u).local (gives o c).local
gives_alike None u c same = record { same = ap (ends Undefined) same; how = Undefined; over = refl }
gives_alike (Some n) u c same =
    record { same = ap (ends (Returned (Some n))) same; how = Returned (Some n); over = refl }

return_alike : (ws : ℕ → ℕ) (e : Option Expr) (u : CodeState) (c : CState)
    → u.local ≡ c.local
    → EndsAlike (leave ws (X.Return e) u).local (given ws e c).local
return_alike ws None u c same = record { same = ap (ends (Returned None)) same; how = Returned None; over = refl }
return_alike ws (Some e) u c same =
    let v : value_of ws u.local.env e ≡ value_of ws c.local.env e = ap (λ x. value_of ws x.env e) same in
    let P : Option ℕ → Type 0 = λ o. EndsAlike (returns_with (value_of ws u.local.env e) u).local (gives o c).local in
    subst P v (gives_alike (value_of ws u.local.env e) u c same)

-- ---- the flat code of a test and of a switch

if_steps : (returns : ℕ → Bool) (place : ℕ → ℕ) (out : ℕ) (c : Expr) (m p : ℕ)
    → (piece_of returns (S.If c (S.Goto m ∷ []))).steps place out p ≡ Test c (suc p) (suc (suc p)) ∷ Jump (place m) ∷ []
if_steps returns place out c m p =
    ap (λ a. a.steps place out p) (piece_of_if returns c (S.Goto m ∷ []))
    ∙ ap (λ a. Test c (suc p) (suc p + (a.span + 0)) ∷ (a.steps place out (suc p) ++ [])) (piece_of_goto returns m)
    ∙ ap (λ q. Test c (suc p) q ∷ Jump (place m) ∷ []) (let e : suc p + (1 + 0) ≡ suc (suc p) = omega arith in e)

if_span : (returns : ℕ → Bool) (c : Expr) (m : ℕ) → (piece_of returns (S.If c (S.Goto m ∷ []))).span ≡ 2
if_span returns c m = ap (λ a. a.span) (piece_of_if returns c (S.Goto m ∷ []))
    ∙ ap (λ a. suc (a.span + 0)) (piece_of_goto returns m)

module _ (k : Code) (g : Lines) where
  -- the test, the jump of its body, and what follows
  test_stands : (p : ℕ) (e : Expr) (m : ℕ) (rest : List Stmt)
      → drop p g.flat ≡ flat_from k g (S.If e (S.Goto m ∷ []) ∷ rest) p
      → drop p g.flat
      ≡ Test e (suc p) (suc (suc p)) ∷ Jump (g.place m) ∷ flat_from k g rest (suc (suc p))
  test_stands p e m rest left =
      let s = S.If e (S.Goto m ∷ []) in
      let z : p + 2 ≡ suc (suc p) = omega arith in
      left
      ∙ ap (λ l. l ++ flat_from k g rest (p + (piece_of g.returns s).span)) (if_steps g.returns g.place g.out e m p)
      ∙ ap (λ n. Test e (suc p) (suc (suc p)) ∷ Jump (g.place m) ∷ flat_from k g rest (p + n)) (if_span g.returns e m)
      ∙ ap (λ q. Test e (suc p) (suc (suc p)) ∷ Jump (g.place m) ∷ flat_from k g rest q) z

  -- the choice, and the jumps
  switch_stands : (p : ℕ) (e : Expr) (arms : List Arm) (rest : List Stmt)
      → drop p g.flat ≡ flat_from k g (S.Switch e (branches arms) ∷ rest) p
      → drop p g.flat
      ≡ Choose e (cases_from arms (targets arms) (suc p)) (suc p + length (targets arms))
      ∷ (jumps g.place (targets arms) ++ flat_from k g rest (p + suc (length (targets arms))))
  switch_stands p e arms rest left =
      let s = S.Switch e (branches arms) in
      let first = Choose e (cases_from arms (targets arms) (suc p)) (suc p + length (targets arms)) in
      left
      ∙ ap (λ l. l ++ flat_from k g rest (p + (piece_of g.returns s).span))
      (switch_steps arms g.returns e g.place g.out p)
      ∙ ap (λ n. first ∷ (jumps g.place (targets arms) ++ flat_from k g rest (p + n))) (switch_span arms g.returns e)

get_behind : {A : Type 0} (xs : List A) (n m : ℕ) → slice_get xs (n + m) ≡ slice_get (drop n xs) m
get_behind xs zero m = ap (slice_get xs) (let e : 0 + m ≡ m = omega arith in e)
get_behind [] (suc n) m = refl
get_behind (x ∷ xs) (suc n) m = ap (slice_get (x ∷ xs)) (let e : suc n + m ≡ suc (n + m) = omega arith in e)
    ∙ get_behind xs n m

switch_found : (blocks : List Block) (n : ℕ) (x : Block) (e : Expr) (arms : List Arm)
    → slice_get blocks n ≡ Some x
    → x.exit ≡ X.Switch e arms
    → any_switch blocks ≡ true
switch_found [] n x e arms get is = absurd (cc)
switch_found (b ∷ bs) zero x e arms get is =
    let same : b ≡ x = cc in
    ap (λ (y : Block). or (is_switch y.exit) (any_switch bs)) same ∙ ap (λ z. or (is_switch z) (any_switch bs)) is
switch_found (b ∷ bs) (suc n) x e arms get is =
    or_true (is_switch b.exit) (any_switch bs) (switch_found bs n x e arms get is) where
      or_true : (p q : Bool) → q ≡ true → or p q ≡ true
      or_true true q h = refl
      or_true false q h = h

module _ (l : Listing) (k : Code) (g : Lines) (all : Given k g) where
  return_goes : (n : ℕ) (e : Option Expr) (rest : List Stmt) (u : CodeState) (c : CState)
      → NeverLost l k g u
      → u.local.world.over ≡ None
      → u.local ≡ c.local
      → code_step l k u ≡ leave (widths k.variables) (X.Return e) u
      → drop c.position g.flat ≡ flat_from k g (S.Return e ∷ rest) c.position
      → Went l k g n u c
  return_goes n e rest u c never go same mu left =
      let one = front k g c.position (S.Return e) (Give e) rest left
      (ap (λ a. a.steps g.place g.out c.position) (piece_of_return g.returns e))
      (ap (λ a. a.span) (piece_of_return g.returns e)) in
      let mc = c_is l k g c (Some (Give e)) (ap (λ z. z.world.over) (sym same) ∙ go)
      (get_of_drop g.flat c.position (Give e) (flat_from k g rest (suc c.position)) one) in
      let alike = return_alike (widths k.variables) e u c same in
      ended_goes l k g n u (leave (widths k.variables) (X.Return e) u) c (given (widths k.variables) e c) alike.how
      never mu mc alike.same alike.over

  -- ---- tests

  test_by : (n taken other : ℕ) (e : Expr) (o : Option ℕ) (u : CodeState) (c : CState)
      → NeverLost l k g u
      → u.local.world.over ≡ None
      → u.local ≡ c.local
      → code_step l k u ≡ enters_by o u (λ n. enters (tested taken other n) u)
      → Leads k g taken
      → JumpLeads k g (suc u.block) other
      → (body_run l k g).step c ≡ goes_by o c (tested (suc c.position) (suc (suc c.position)))
      → drop c.position g.flat
      ≡ Test e (suc c.position) (suc (suc c.position)) ∷ Jump (g.place taken) ∷ flat_from k g
      (goto (suc u.block) other ++ laid_from g.named (suc u.block) (drop (suc u.block) k.blocks))
      (suc (suc c.position))
      → Went l k g n u c
  test_by n taken other e None u c never go same mu lead jump mc stands =
      ended_goes l k g n u (enters_by None u (λ n. enters (tested taken other n) u)) c
      (goes_by None c (tested (suc c.position) (suc (suc c.position)))) Undefined never mu mc
      (ap (ends Undefined) same) refl
  test_by n taken other e (Some zero) u c never go same mu lead jump mc stands =
      let p = c.position in
      let goc = ap (λ z. z.world.over) (sym same) ∙ go in
      let rest = goto (suc u.block) other ++ laid_from g.named (suc u.block) (drop (suc u.block) k.blocks) in
      let flat = flat_from k g rest (suc (suc p)) in
      let c1 : CState = record { position = suc (suc p); local = c.local } in
      let past = rest_of_drop g.flat (suc p) (Jump (g.place taken)) flat
      (rest_of_drop g.flat p (Test e (suc p) (suc (suc p))) (Jump (g.place taken) ∷ flat) stands) in
      let a = arrives l k g all (suc u.block) other u c1 same goc jump past in
      goes_on l k g n u (enters other u) c (after (body_run l k g).step a.steps c1) (suc a.steps)
      (length k.blocks - other) never mu (ap (λ z. after (body_run l k g).step a.steps z) mc) (inl (omega arith)) a.meets
  test_by n taken other e (Some (suc w)) u c never go same mu lead jump mc stands =
      let p = c.position in
      let goc = ap (λ z. z.world.over) (sym same) ∙ go in
      let rest = goto (suc u.block) other ++ laid_from g.named (suc u.block) (drop (suc u.block) k.blocks) in
      let flat = flat_from k g rest (suc (suc p)) in
      let c1 : CState = record { position = suc p; local = c.local } in
      let c2 : CState = record { position = g.place taken; local = c.local } in
      let past = rest_of_drop g.flat p (Test e (suc p) (suc (suc p))) (Jump (g.place taken) ∷ flat) stands in
      let m2 : (body_run l k g).step c1 ≡ c2 = c_is l k g c1 (Some (Jump (g.place taken))) goc
      (get_of_drop g.flat (suc p) (Jump (g.place taken)) flat past) in
      goes_on l k g n u (enters taken u) c c2 2 (length k.blocks - taken) never mu (ap (body_run l k g).step mc ∙ m2)
      (inl (omega arith)) (entered l k g all taken u c2 same lead.0 lead.1)

  test_goes : (n taken other : ℕ) (e : Expr) (u : CodeState) (c : CState)
      → NeverLost l k g u
      → u.local.world.over ≡ None
      → u.local ≡ c.local
      → code_step l k u ≡ leave (widths k.variables) (X.Test e taken other) u
      → IsLaid k g (suc u.block) (X.Test e taken other)
      → drop c.position g.flat ≡ flat_from k g (exit_lines (suc u.block) (X.Test e taken other)
      ++ laid_from g.named (suc u.block) (drop (suc u.block) k.blocks)) c.position
      → Went l k g n u c
  test_goes n taken other e u c never go same mu laid left =
      let p = c.position in
      let rest = goto (suc u.block) other ++ laid_from g.named (suc u.block) (drop (suc u.block) k.blocks) in
      let stands = test_stands k g p e taken rest left in
      let flat = flat_from k g rest (suc (suc p)) in
      let v : value_of (widths k.variables) c.local.env e ≡ value_of (widths k.variables) u.local.env e =
      ap (λ x. value_of (widths k.variables) x.env e) (sym same) in
      let mc = c_is l k g c (Some (Test e (suc p) (suc (suc p)))) (ap (λ z. z.world.over) (sym same) ∙ go)
      (get_of_drop g.flat p (Test e (suc p) (suc (suc p))) (Jump (g.place taken) ∷ flat) stands)
      ∙ ap (λ o. goes_by o c (tested (suc p) (suc (suc p)))) v in
      test_by n taken other e (value_of (widths k.variables) u.local.env e) u c never go same mu laid.0 laid.1 mc stands

  -- ---- switches

  led_placed : (a : Arm) (xs : List Arm) → Leads k g a.to → ArmsLead k g xs → ArmsLead k g (placed a xs)
  led_placed a [] lead all = (lead, tt)
  led_placed a (x ∷ xs) lead all = by (nat_lt x.value a.value) (led_placed a xs lead all.1) where
    by : (b : Bool) → ArmsLead k g (placed a xs) → ArmsLead k g (cond b (x ∷ placed a xs) (a ∷ x ∷ xs))
    by true next = (all.0, next)
    by false next = (lead, all)

  led_kept : (arms : List Arm) → ArmsLead k g arms → ArmsLead k g (by_value arms)
  led_kept [] all = tt
  led_kept (a ∷ rest) all = led_placed a (by_value rest) all.0 (led_kept rest all.1)

  arm_leads : (arms : List Arm) (w t : ℕ) → ArmsLead k g arms → leads_to arms w ≡ Some t → Leads k g t
  arm_leads [] w t lead is = absurd (cc)
  arm_leads (a ∷ rest) w t lead is = by (a.value == w) is (arm_leads rest w t lead.1) where
    by : (b : Bool)
        → cond b (Some a.to) (leads_to rest w) ≡ Some t
        → (leads_to rest w ≡ Some t → Leads k g t)
        → Leads k g t
    by true is next = let same : a.to ≡ t = cc in let P : ℕ → Type 0 = λ z. Leads k g z in subst P same lead.0
    by false is next = next is

  -- to the block of the value's case; a run that meets a value without one ends, which a code with a switch never does
  choice_goes : (n : ℕ) (arms : List Arm) (w : ℕ) (o : Option ℕ) (u : CodeState) (c : CState) (cases : List (ℕ × ℕ))
      (other : ℕ)
      → NeverLost l k g u
      → has_switch k ≡ true
      → u.local.world.over ≡ None
      → u.local ≡ c.local
      → leads_to arms w ≡ o
      → code_step l k u ≡ chosen_by o u
      → ((t : ℕ) → o ≡ Some t → slice_get g.flat (found_in cases other w) ≡ Some (Jump (g.place t)))
      → ArmsLead k g arms
      → (body_run l k g).step c ≡ record { position = found_in cases other w; local = c.local }
      → Went l k g n u c
  choice_goes n arms w None u c cases other never has go same is mu jump lead mc =
      absurd (never has 1 (ap (λ (s : CodeState). s.local.world.over) mu))
  choice_goes n arms w (Some t) u c cases other never has go same is mu jump lead mc =
      let goc = ap (λ z. z.world.over) (sym same) ∙ go in
      let to = arm_leads arms w t lead is in
      let c1 : CState = record { position = found_in cases other w; local = c.local } in
      let c2 : CState = record { position = g.place t; local = c.local } in
      let m2 : (body_run l k g).step c1 ≡ c2 = c_is l k g c1 (Some (Jump (g.place t))) goc (jump t refl) in
      goes_on l k g n u (enters t u) c c2 2 (length k.blocks - t) never mu (ap (body_run l k g).step mc ∙ m2)
      (inl (omega arith)) (entered l k g all t u c2 same to.0 to.1)

  value_goes : (n : ℕ) (arms : List Arm) (o : Option ℕ) (rest : List Flat) (u : CodeState) (c : CState)
      → NeverLost l k g u
      → has_switch k ≡ true
      → u.local.world.over ≡ None
      → u.local ≡ c.local
      → are_distinct (values_of arms) ≡ true
      → code_step l k u ≡ enters_by o u (chosen arms u)
      → ArmsLead k g arms
      → (body_run l k g).step c
      ≡ goes_by o c (found_in (cases_from arms (targets arms) (suc c.position)) (suc c.position + length (targets arms)))
      → drop (suc c.position) g.flat ≡ jumps g.place (targets arms) ++ rest
      → Went l k g n u c
  value_goes n arms None rest u c never has go same distinct mu lead mc stands =
      let to = found_in (cases_from arms (targets arms) (suc c.position)) (suc c.position + length (targets arms)) in
      ended_goes l k g n u (enters_by None u (chosen arms u)) c (goes_by None c to) Undefined never mu mc
      (ap (ends Undefined) same) refl
  value_goes n arms (Some w) rest u c never has go same distinct mu lead mc stands =
      let p = suc c.position in
      let other = p + length (targets arms) in
      let jump : (t : ℕ) → leads_to arms w ≡ Some t
      → slice_get g.flat (found_in (cases_from arms (targets arms) p) other w) ≡ Some (Jump (g.place t)) =
      λ t is. let case = case_leads arms p other w t distinct is in
      ap (slice_get g.flat) case.found
      ∙ get_behind g.flat p case.index
      ∙ ap (λ xs. slice_get xs case.index) stands
      ∙ get_in_front (jumps g.place (targets arms)) rest case.index (Jump (g.place t)) (case.jump g.place) in
      choice_goes n arms w (leads_to arms w) u c (cases_from arms (targets arms) p) other never has go same refl
      (mu ∙ chosen_is arms u w) jump lead mc

  switch_goes : (n : ℕ) (e : Expr) (arms : List Arm) (rest : List Stmt) (u : CodeState) (c : CState)
      → NeverLost l k g u
      → has_switch k ≡ true
      → u.local.world.over ≡ None
      → u.local ≡ c.local
      → are_distinct (values_of arms) ≡ true
      → code_step l k u ≡ leave (widths k.variables) (X.Switch e arms) u
      → ArmsLead k g arms
      → drop c.position g.flat ≡ flat_from k g (S.Switch e (branches arms) ∷ rest) c.position
      → Went l k g n u c
  switch_goes n e arms rest u c never has go same distinct mu lead left =
      let p = c.position in
      let cases = cases_from arms (targets arms) (suc p) in
      let other = suc p + length (targets arms) in
      let flat = flat_from k g rest (p + suc (length (targets arms))) in
      let stands = switch_stands k g p e arms rest left in
      let v : value_of (widths k.variables) c.local.env e ≡ value_of (widths k.variables) u.local.env e =
      ap (λ x. value_of (widths k.variables) x.env e) (sym same) in
      let mc = c_is l k g c (Some (Choose e cases other)) (ap (λ z. z.world.over) (sym same) ∙ go)
      (get_of_drop g.flat p (Choose e cases other) (jumps g.place (targets arms) ++ flat) stands)
      ∙ ap (λ o. goes_by o c (found_in cases other)) v in
      value_goes n arms (value_of (widths k.variables) u.local.env e) flat u c never has go same distinct mu lead mc
      (rest_of_drop g.flat p (Choose e cases other) (jumps g.place (targets arms) ++ flat) stands)

  -- ---- all

  exit_goes : (n : ℕ) (e : Exit) (u : CodeState) (c : CState)
      → NeverLost l k g u
      → ((v : Expr) (arms : List Arm) → e ≡ X.Switch v arms → has_switch k ≡ true)
      → u.local.world.over ≡ None
      → u.local ≡ c.local
      → code_step l k u ≡ leave (widths k.variables) e u
      → CanLeave [] e
      → IsLaid k g (suc u.block) e
      → drop c.position g.flat ≡ flat_from k g
      (exit_lines (suc u.block) e ++ laid_from g.named (suc u.block) (drop (suc u.block) k.blocks)) c.position
      → n + u.block ≡ length k.blocks
      → Went l k g n u c
  exit_goes n (X.Return e) u c never has go same mu leaves laid left rank =
      return_goes n e (laid_from g.named (suc u.block) (drop (suc u.block) k.blocks)) u c never go same mu left
  exit_goes n (X.Jump to) u c never has go same mu leaves laid left rank =
      jump_goes l k g all n to u c never go same mu laid left rank
  exit_goes n (X.Test e taken other) u c never has go same mu leaves laid left rank =
      test_goes n taken other e u c never go same mu laid left
  exit_goes n (X.Switch e arms) u c never has go same mu leaves laid left rank =
      let sorted = by_value arms in
      switch_goes n e sorted (laid_from g.named (suc u.block) (drop (suc u.block) k.blocks)) u c never (has e arms refl)
      go same (rising_distinct (values_of sorted) (values_rise arms leaves))
      (mu ∙ sym (switch_kept (widths k.variables) e arms u)) (led_kept arms laid) left
  exit_goes n X.Stop u c never has go same mu leaves laid left rank = absurd leaves

  body_goes : (n : ℕ) (b : Block) (ss : List Stmt) (u : CodeState) (c : CState)
      → NeverLost l k g u
      → u.local.world.over ≡ None
      → u.local ≡ c.local
      → slice_get k.blocks u.block ≡ Some b
      → drop u.position b.body ≡ ss
      → AreSimple g.returns ss b.exit
      → CanLeave ss b.exit
      → drop c.position g.flat ≡ flat_from k g (ss ++ behind k g u.block b) c.position
      → n + u.block ≡ length k.blocks
      → Went l k g n u c
  body_goes n b [] u c never go same get here simple leaves left rank =
      exit_goes n b.exit u c never (λ v arms is. switch_found k.blocks u.block b v arms get is) go same
      (step_in l k u b [] go get here) leaves (all.exits u.block b get) left rank
  body_goes n b (s ∷ ss) u c never go same get here simple leaves left rank =
      simple_goes l k g all n u c b s ss never go same get here simple leaves left rank

  goes_at : (n : ℕ) (u : CodeState) (c : CState) (o : Option End)
      → u.local.world.over ≡ o
      → Related l k g n u c
      → Went l k g n u c
  goes_at n u c None go rel =
      let a = rel.meets.at go in
      body_goes n a.block (drop u.position a.block.body) u c rel.never go rel.meets.local a.get refl a.simple a.leaves
      a.left a.rank
  goes_at n u c (Some h) go rel =
      inl (still l k u h go, c_still l k g c h (ap (λ z. z.world.over) (sym rel.meets.local) ∙ go))

  pub simulates : RankedSimulates (code_machine l k) (body_run l k g) (Related l k g)
  simulates = record {
    same = λ n u c rel. ap (λ x. shown x.world) rel.meets.local;
    goes = λ n u c rel. goes_at n u c u.local.world.over refl rel;
  }

-- a run that a step of the second comes to
two_way_after : {T : Type 0} (r : ℕ → Trace) (b : Machine T)
    → IsMonotone b
    → (t t' : T)
    → b.step t ≡ t'
    → TwoWay r (seen b t')
    → TwoWay r (seen b t)
two_way_after {T} r b mono t t' moved w = record {
  there = λ n. let m = w.there n in let P : T → Type 0 = λ x. IsFront (r n) (seen b x m.0) in
      (suc m.0, subst P (sym moved) m.1);
  back = λ m. back_at r b mono t t' moved w m;
} where
  back_at : {T : Type 0} (r : ℕ → Trace) (b : Machine T)
      → IsMonotone b
      → (t t' : T)
      → b.step t ≡ t'
      → TwoWay r (seen b t')
      → (m : ℕ)
      → (n : ℕ) × IsFront (seen b t m) (r n)
  back_at {T} r b mono t t' moved w zero = let n = w.back 0 in let P : T → Type 0 =
      λ x. IsFront (b.sight t) (b.sight x) in
      (n.0, front_trans (b.sight t) (b.sight t') (r n.0) (subst P moved (mono t)) n.1)
  back_at {T} r b mono t t' moved w (suc m) = let n = w.back m in let P : T → Type 0 =
      λ x. IsFront (seen b x m) (r n.0) in (n.0, subst P (sym moved) n.1)

-- or that some steps of it come to
pub two_way_later : {T : Type 0} (r : ℕ → Trace) (b : Machine T)
    → IsMonotone b
    → (n : ℕ) (t : T)
    → TwoWay r (seen b (after b.step n t))
    → TwoWay r (seen b t)
two_way_later r b mono zero t w = w
two_way_later r b mono (suc n) t w = two_way_after r b mono t (b.step t) refl (two_way_later r b mono n (b.step t) w)
