-- The flat code of a laid switch: the choice, and a jump for each block that it leads to. A value leads to the jump to
-- the block of its case.
use Rattle.std.proofs.Common.{◌≡◌, ℕ, suc, ◌+◌, Bool, true, false, not, List, [], ◌∷◌, ◌++◌, length, map, refl, sym, ap, ◌∙◌, Option, Some, None, arith, length-append}
use Rattle.std.specs.Prelude.{◌==◌, cond, slice_get}
use Rattle.std.proofs.lemmas.Bool.{and_parts}
use Rattle.std.proofs.lemmas.Bool.Decides.{nat_tests}
use Rattle.pcode_model.specs.Spaces.{or}
use Rattle.pcode_laws.proofs.Rules.{neither, or_rest}
use Rattle.cmeaning.specs.declared.tree.Expr.{Expr}
use Rattle.cmeaning.specs.declared.tree.Stmt.TheOpen.{Stmt-F}
use Rattle.cmeaning.specs.declared.tree.Stmt.TheVariants as S
use Rattle.cmeaning.specs.Do.{ends}
use Rattle.cmeaning.specs.Flat.{Flat, Jump, Choose, Piece, Branch, arm_span, arm_spans, arm_labels, arm_steps, arm_cases, cases_at, found_in, piece_step, piece_of}
use Rattle.cmeaning.specs.Valid.{is_in, are_distinct}
use Rattle.cmeaning.proofs.Flat.{branch_is, branch_of, piece_of_goto, piece_of_switch}
use Rattle.machine.specs.Trace.{BadTarget}
use Rattle.blockcode.specs.declared.code.Arm.{Arm}
use Rattle.blockcode.specs.Run.{CodeState, at, chosen, enters}
use Rattle.blockcode.specs.Laid.{values_to, without, targets, branch_to, branches}
use Rattle.blockcode.specs.CanLay.{values_of}
use Rattle.layout_laws.proofs.Pieces.{IsMeasured, labels_in}

abbrev goto_piece : ℕ → Piece
goto_piece to = record { span = 1; leaves = true; labels = λ p. []; steps = λ place out p. Jump (place to) ∷ [] }

abbrev branch_piece : List Arm → ℕ → Branch
branch_piece arms to = record { cases = values_to to arms; body = goto_piece to ∷ [] }

abbrev pieces : List Arm → List ℕ → List Branch
pieces arms ts = map (branch_piece arms) ts

-- the jumps of the arms
abbrev pub jumps : (ℕ → ℕ) → List ℕ → List Flat
jumps place ts = map (λ t. Jump (place t)) ts

-- each value with the position of its arm, where the arms stand from a position on
abbrev pub cases_from : List Arm → List ℕ → ℕ → List (ℕ × ℕ)
cases_from arms ts p = arm_cases (pieces arms ts) p

-- ---- the steps

module _ (arms : List Arm) where
  one_step : (t : ℕ) → arm_span (branch_piece arms t) ≡ 1
  one_step t = refl

  spans_are : (ts : List ℕ) → arm_spans (pieces arms ts) ≡ length ts
  spans_are [] = refl
  spans_are (t ∷ ts) = omega (arith, one_step t, spans_are ts)

  labels_none : (ts : List ℕ) (p : ℕ) → arm_labels (pieces arms ts) p ≡ []
  labels_none [] p = refl
  labels_none (t ∷ ts) p = labels_none ts (p + 1)

  steps_are : (place : ℕ → ℕ) (out past : ℕ) (ts : List ℕ) (p : ℕ)
      → arm_steps (pieces arms ts) place out past p ≡ jumps place ts
  steps_are place out past [] p = refl
  steps_are place out past (t ∷ ts) p = ap (λ l. Jump (place t) ∷ l) (steps_are place out past ts (p + 1))

  branches_are : (returns : ℕ → Bool) (ts : List ℕ)
      → map (branch_of returns) (map (branch_to arms) ts) ≡ pieces arms ts
  branches_are returns [] = refl
  branches_are returns (t ∷ ts) =
      ap (λ b. b ∷ map (branch_of returns) (map (branch_to arms) ts))
      (branch_is returns (branch_to arms t)
      ∙ ap (λ (x : Piece). let b : Branch = record { cases = values_to t arms; body = x ∷ [] } in b)
      (piece_of_goto returns t))
      ∙ ap (λ bs. branch_piece arms t ∷ bs) (branches_are returns ts)

  module _ (returns : ℕ → Bool) (e : Expr) where
    piece_is : piece_of returns (S.Switch e (branches arms))
        ≡ piece_step returns (Stmt-F.Switch e (pieces arms (targets arms)))
    piece_is = piece_of_switch returns e (branches arms)
        ∙ ap (λ bs. piece_step returns (Stmt-F.Switch e bs)) (branches_are returns (targets arms))

    pub switch_span : (piece_of returns (S.Switch e (branches arms))).span ≡ suc (length (targets arms))
    switch_span = ap (λ a. a.span) piece_is ∙ ap suc (spans_are (targets arms))

    pub switch_steps : (place : ℕ → ℕ) (out p : ℕ)
        → (piece_of returns (S.Switch e (branches arms))).steps place out p
        ≡ Choose e (cases_from arms (targets arms) (suc p)) (suc p + length (targets arms)) ∷ jumps place (targets arms)
    switch_steps place out p =
        let past = suc p + arm_spans (pieces arms (targets arms)) in
        ap (λ a. a.steps place out p) piece_is
        ∙ ap (λ l. Choose e (cases_from arms (targets arms) (suc p)) past ∷ l)
        (steps_are place out past (targets arms) (suc p))
        ∙ ap (λ n. Choose e (cases_from arms (targets arms) (suc p)) (suc p + n) ∷ jumps place (targets arms))
        (spans_are (targets arms))

    pub switch_labels : (p : ℕ) → labels_in returns (S.Switch e (branches arms) ∷ []) p ≡ []
    switch_labels p = ap (λ a. a.labels p ++ []) piece_is ∙ ap (λ l. l ++ []) (labels_none (targets arms) (suc p))

    pub switch_measured : IsMeasured returns (S.Switch e (branches arms) ∷ [])
    switch_measured = record {
      steps = λ place out p.
          let ts = targets arms in
          let all = Choose e (cases_from arms ts (suc p)) (suc p + length ts) ∷ jumps place ts in
          ap (λ l. length (l ++ [])) (switch_steps place out p)
          ∙ length-append all []
          ∙ omega (arith, jumps_length place ts, switch_span);
    } where
      jumps_length : (place : ℕ → ℕ) (ts : List ℕ) → length (jumps place ts) ≡ length ts
      jumps_length place [] = refl
      jumps_length place (t ∷ ts) = ap suc (jumps_length place ts)

-- ---- where a value leads

abbrev pub leads_to : List Arm → ℕ → Option ℕ
leads_to [] w = None
leads_to (a ∷ rest) w = cond (a.value == w) (Some a.to) (leads_to rest w)

abbrev pub chosen_by : Option ℕ → CodeState → CodeState
chosen_by None s = at s.block s.position (ends BadTarget s.local)
chosen_by (Some b) s = enters b s

pub chosen_is : (arms : List Arm) (s : CodeState) (w : ℕ) → chosen arms s w ≡ chosen_by (leads_to arms w) s
chosen_is [] s w = refl
chosen_is (a ∷ rest) s w = by (a.value == w) (chosen_is rest s w) where
  by : (b : Bool)
      → chosen rest s w ≡ chosen_by (leads_to rest w) s
      → cond b (enters a.to s) (chosen rest s w) ≡ chosen_by (cond b (Some a.to) (leads_to rest w)) s
  by true next = refl
  by false next = next

-- ---- the arm of a value

self : (n : ℕ) → (n == n) ≡ true
self n = grind (arith, nat_tests)

or_first : (a b : Bool) → a ≡ true → or a b ≡ true
or_first a b e = ap (λ x. or x b) e

or_second : (a b : Bool) → b ≡ true → or a b ≡ true
or_second true b e = refl
or_second false b e = e

-- its arm has the value
value_listed : (arms : List Arm) (w t : ℕ) → leads_to arms w ≡ Some t → is_in w (values_to t arms) ≡ true
value_listed [] w t h = absurd (cc)
value_listed (a ∷ rest) w t h = by (a.value == w) (a.to == t) refl refl h (value_listed rest w t) where
  by : (b c : Bool) → (a.value == w) ≡ b → (a.to == t) ≡ c
      → cond b (Some a.to) (leads_to rest w) ≡ Some t
      → (leads_to rest w ≡ Some t → is_in w (values_to t rest) ≡ true)
      → is_in w (cond c (a.value ∷ values_to t rest) (values_to t rest)) ≡ true
  by true true e f h next =
      or_first (w == a.value) (is_in w (values_to t rest)) (grind (arith, nat_tests, e))
  by true false e f h next = let same : a.to ≡ t = cc in
      let s : (a.to == t) ≡ true = grind (arith, nat_tests, same) in absurd (cc)
  by false true e f h next = or_second (w == a.value) (is_in w (values_to t rest)) (next h)
  by false false e f h next = next h

kept_by_without : (x t : ℕ) (ts : List ℕ) → (x == t) ≡ false → is_in t ts ≡ true → is_in t (without x ts) ≡ true
kept_by_without x t [] ne h = absurd (cc)
kept_by_without x t (y ∷ ts) ne h = by (y == x) refl h (kept_by_without x t ts ne) where
  by : (b : Bool) → (y == x) ≡ b
      → or (t == y) (is_in t ts) ≡ true
      → (is_in t ts ≡ true → is_in t (without x ts) ≡ true)
      → is_in t (cond b (without x ts) (y ∷ without x ts)) ≡ true
  by true e h next = let other : (t == y) ≡ false = grind (arith, nat_tests, e, ne) in
      next (or_rest (t == y) (is_in t ts) other h)
  by false e h next = both (t == y) h
    where
      both : (c : Bool) → or c (is_in t ts) ≡ true → or c (is_in t (without x ts)) ≡ true
      both true h = refl
      both false h = next h

-- and there is an arm for its block
target_listed : (arms : List Arm) (w t : ℕ) → leads_to arms w ≡ Some t → is_in t (targets arms) ≡ true
target_listed [] w t h = absurd (cc)
target_listed (a ∷ rest) w t h = by (a.value == w) (a.to == t) refl h (target_listed rest w t) where
  by : (b c : Bool) → (a.to == t) ≡ c
      → cond b (Some a.to) (leads_to rest w) ≡ Some t
      → (leads_to rest w ≡ Some t → is_in t (targets rest) ≡ true)
      → is_in t (targets (a ∷ rest)) ≡ true
  by b true f h next = or_first (t == a.to) (is_in t (without a.to (targets rest))) (grind (arith, nat_tests, f))
  by true false f h next = let same : a.to ≡ t = cc in
      let s : (a.to == t) ≡ true = grind (arith, nat_tests, same) in absurd (cc)
  by false false f h next = or_second (t == a.to) (is_in t (without a.to (targets rest)))
      (kept_by_without a.to t (targets rest) f (next h))

value_of_arm : (arms : List Arm) (w u : ℕ) → is_in w (values_to u arms) ≡ true → is_in w (values_of arms) ≡ true
value_of_arm [] w u h = absurd (cc)
value_of_arm (a ∷ rest) w u h = by (a.to == u) h (value_of_arm rest w u) where
  by : (c : Bool)
      → is_in w (cond c (a.value ∷ values_to u rest) (values_to u rest)) ≡ true
      → (is_in w (values_to u rest) ≡ true → is_in w (values_of rest) ≡ true)
      → or (w == a.value) (is_in w (values_of rest)) ≡ true
  by true h next = both (w == a.value) h
    where
      both : (b : Bool) → or b (is_in w (values_to u rest)) ≡ true → or b (is_in w (values_of rest)) ≡ true
      both true h = refl
      both false h = next h
  by false h next = or_second (w == a.value) (is_in w (values_of rest)) (next h)

not_in : (b : Bool) → not b ≡ true → b ≡ true → ⊥
not_in true h g = absurd (cc)
not_in false h g = absurd (cc)

-- No other arm has the value.
value_once : (arms : List Arm) (w t u : ℕ)
    → are_distinct (values_of arms) ≡ true
    → leads_to arms w ≡ Some t
    → is_in w (values_to u arms) ≡ true
    → u ≡ t
value_once [] w t u d h g = absurd (cc)
value_once (a ∷ rest) w t u d h g =
    let parts = and_parts (not (is_in a.value (values_of rest))) (are_distinct (values_of rest)) d in
    by (a.value == w) (a.to == u) refl refl parts.0 h g (value_once rest w t u parts.1) where
      by : (b c : Bool) → (a.value == w) ≡ b → (a.to == u) ≡ c
          → not (is_in a.value (values_of rest)) ≡ true
          → cond b (Some a.to) (leads_to rest w) ≡ Some t
          → is_in w (cond c (a.value ∷ values_to u rest) (values_to u rest)) ≡ true
          → (leads_to rest w ≡ Some t → is_in w (values_to u rest) ≡ true → u ≡ t)
          → u ≡ t
      by true true e f d h g next = let same : a.to ≡ t = cc in let to : a.to ≡ u = grind (arith, nat_tests, f) in
          sym to ∙ same
      by true false e f d h g next =
          let same : w ≡ a.value = grind (arith, nat_tests, e) in
          absurd (not_in (is_in a.value (values_of rest)) d
          (ap (λ v. is_in v (values_of rest)) (sym same) ∙ value_of_arm rest w u g))
      by false true e f d h g next =
          let other : (w == a.value) ≡ false = grind (arith, nat_tests, e) in
          next h (or_rest (w == a.value) (is_in w (values_to u rest)) other g)
      by false false e f d h g next = next h g

-- ---- the position of the arm

found_here : (vs : List ℕ) (more : List (ℕ × ℕ)) (d q w : ℕ)
    → is_in w vs ≡ true
    → found_in (cases_at q vs ++ more) d w ≡ q
found_here [] more d q w h = absurd (cc)
found_here (v ∷ vs) more d q w h = by (v == w) refl h (found_here vs more d q w) where
  by : (b : Bool) → (v == w) ≡ b
      → or (w == v) (is_in w vs) ≡ true
      → (is_in w vs ≡ true → found_in (cases_at q vs ++ more) d w ≡ q)
      → cond b q (found_in (cases_at q vs ++ more) d w) ≡ q
  by true e h next = refl
  by false e h next = let other : (w == v) ≡ false = grind (arith, nat_tests, e) in
      next (or_rest (w == v) (is_in w vs) other h)

found_behind : (vs : List ℕ) (more : List (ℕ × ℕ)) (d q w : ℕ)
    → is_in w vs ≡ false
    → found_in (cases_at q vs ++ more) d w ≡ found_in more d w
found_behind [] more d q w h = refl
found_behind (v ∷ vs) more d q w h = by (v == w) refl h (found_behind vs more d q w) where
  by : (b : Bool) → (v == w) ≡ b
      → or (w == v) (is_in w vs) ≡ false
      → (is_in w vs ≡ false → found_in (cases_at q vs ++ more) d w ≡ found_in more d w)
      → cond b q (found_in (cases_at q vs ++ more) d w) ≡ found_in more d w
  by true e h next = let same : (w == v) ≡ true = grind (arith, nat_tests, e) in
      let none = neither (w == v) (is_in w vs) h in absurd (cc)
  by false e h next = next (neither (w == v) (is_in w vs) h).1

-- The value leads to the position of the jump to its block.
pub record Leads (arms : List Arm) (ts : List ℕ) (p d w t : ℕ) : Type 0 where
  pub index : ℕ
  pub found : found_in (cases_from arms ts p) d w ≡ p + index
  pub jump : (place : ℕ → ℕ) → slice_get (jumps place ts) index ≡ Some (Jump (place t))

module _ (arms : List Arm) (d w t : ℕ)
    (has : is_in w (values_to t arms) ≡ true)
    (only : (u : ℕ) → is_in w (values_to u arms) ≡ true → u ≡ t)
  where
    led : (ts : List ℕ) (p : ℕ) → is_in t ts ≡ true → Leads arms ts p d w t
    led [] p h = absurd (cc)
    led (x ∷ ts) p h = by (is_in w (values_to x arms)) refl (led ts (p + 1)) where
      by : (b : Bool) → is_in w (values_to x arms) ≡ b
          → (is_in t ts ≡ true → Leads arms ts (p + 1) d w t)
          → Leads arms (x ∷ ts) p d w t
      by true e next =
          let here : p ≡ p + 0 = omega arith in record {
            index = 0;
            found = found_here (values_to x arms) (cases_from arms ts (p + 1)) d p w e ∙ here;
            jump = λ place. ap (λ u. Some (Jump (place u))) (only x e);
          }
      by false e next =
          let other : (t == x) ≡ false = apart (t == x) refl in
          let behind = next (or_rest (t == x) (is_in t ts) other h) in
          let later : (p + 1) + behind.index ≡ p + suc behind.index = omega arith in record {
            index = suc behind.index;
            found = found_behind (values_to x arms) (cases_from arms ts (p + 1)) d p w e ∙ behind.found ∙ later;
            jump = behind.jump;
          }
        where
          apart : (b : Bool) → (t == x) ≡ b → b ≡ false
          apart false f = refl
          apart true f =
              let same : t ≡ x = grind (arith, nat_tests, f) in
              let there : is_in w (values_to x arms) ≡ true = ap (λ u. is_in w (values_to u arms)) (sym same) ∙ has in
              absurd (cc)

-- A value that has a case leads to the jump to the case's block.
pub case_leads : (arms : List Arm) (p d w t : ℕ)
    → are_distinct (values_of arms) ≡ true
    → leads_to arms w ≡ Some t
    → Leads arms (targets arms) p d w t
case_leads arms p d w t distinct is =
    led arms d w t (value_listed arms w t is) (λ u h. value_once arms w t u distinct is h) (targets arms) p
    (target_listed arms w t is)
