-- The one theorem of the table: what each rule keeps.
use Rattle.std.proofs.Common.{◌≡◌, ℕ, ◌≤◌, Option, refl, sym, ap, ◌∙◌, arith}
use Rattle.std.proofs.Math.Path.{fun_ext}
use Rattle.cmeaning.specs.declared.tree.ArithmeticOp.{ArithmeticOp}
use Rattle.cmeaning.specs.declared.tree.CompareOp.{CompareOp}
use Rattle.cmeaning.specs.declared.tree.OverflowOp.{OverflowOp}
use Rattle.cmeaning.specs.declared.tree.Expr.{Expr, fold-Expr}
use Rattle.cmeaning.specs.declared.tree.Expr.TheOpen.{Expr-F}
use Rattle.cmeaning.specs.declared.tree.Expr.TheVariants as E
use Rattle.cmeaning.specs.Value.{Meaning, meaning_step, meaning_of, value_of}
use Rattle.rules.specs.Size.{depth_of}
use Rattle.rules.specs.Readings.{as_c, reading_step, read_as, value_by}
use Rattle.rules.specs.Keeps.{Keeps}
use Rattle.rules.specs.Table.{Form, OfFolds, OfArithmetic, OfShifts, OfParts, OfBooleans, OfComparisons, Rule, AsNamed, Turned, TurnedTest, TurnedFlag, F2, F2_test}
use Rattle.rules.proofs.Nodes.{depths}
use Rattle.rules.proofs.Total.{everywhere, everywhere_reads, zeros, zero_words, total}
use Rattle.rules.proofs.Has.{Under, Has}
use Rattle.rules.proofs.Folds.{c_reads, fold_has, fold_depth}
use Rattle.rules.proofs.Arithmetic.{turn, sum_has, sum_depth}
use Rattle.rules.proofs.Shifts.{shift_has, shift_depth}
use Rattle.rules.proofs.Parts.{part_has, part_depth}
use Rattle.rules.proofs.Booleans.{boolean_has, boolean_depth}
use Rattle.rules.proofs.Comparisons.{turn_test, turn_flag, comparison_has, comparison_depth}

-- the reading of C is the meaning of C
same_step : (ws : ℕ → ℕ) (l : Expr-F Meaning) → reading_step as_c ws l ≡ meaning_step ws l
same_step ws (Expr-F.Const c) = refl
same_step ws (Expr-F.Var v) = refl
same_step ws (Expr-F.Unary op a) = refl
same_step ws (Expr-F.Arithmetic op a b) = refl
same_step ws (Expr-F.Division op a b) = refl
same_step ws (Expr-F.SignedDivision op a b) = refl
same_step ws (Expr-F.Shift op a b) = refl
same_step ws (Expr-F.Compare op a b) = refl
same_step ws (Expr-F.SignedCompare op a b) = refl
same_step ws (Expr-F.Extend op w a) = refl
same_step ws (Expr-F.Part k w a) = refl
same_step ws (Expr-F.Concat a b) = refl
same_step ws (Expr-F.Overflow op a b) = refl
same_step ws (Expr-F.Count op a) = refl

pub read_as_c : (ws : ℕ → ℕ) (e : Expr) → read_as as_c ws e ≡ meaning_of ws e
unfolding read_as meaning_of
read_as_c ws e = ap (λ s. fold-Expr Meaning s e) (fun_ext (same_step ws))

pub value_in_c : (ws : ℕ → ℕ) (env : ℕ → Option ℕ) (e : Expr) → value_by as_c ws env e ≡ value_of ws env e
value_in_c ws env e = ap (λ m. m.value env) (read_as_c ws e)

-- a rewrite keeps what it is to keep where it takes values to values, by whatever reading
pub keeps_by : (ws : ℕ → ℕ) (l r : Expr)
    → ((u : Under ws) (w n : ℕ) → Has ws u l w n → Has ws u r w n)
    → depth_of r ≤ depth_of l
    → Keeps ws l r
keeps_by ws l r f d = record {
  size = λ w s. (
      let t = total ws l w s in
      let u : Under ws =
      record { reading = everywhere; reads = everywhere_reads; env = zeros; words = zero_words ws } in
      (f u w t.0 (record { size = s; value = t.1 })).size);
  value_by = λ q i env words w n s at. (
      let u : Under ws = record { reading = q; reads = i; env = env; words = words } in
      (f u w n (record { size = s; value = at })).value);
  value = λ env words w n s at. (
      let u : Under ws = record { reading = as_c; reads = c_reads; env = env; words = words } in
      sym (value_in_c ws env r) ∙ (f u w n (record { size = s; value = value_in_c ws env l ∙ at })).value);
  depth = d;
}

pub form_has : (ws : ℕ → ℕ) (u : Under ws) (l r : Expr) → Form ws l r → (w n : ℕ) → Has ws u l w n → Has ws u r w n
form_has ws u l r (OfFolds x y f) w n h = fold_has ws u l r f w n h
form_has ws u l r (OfArithmetic x y f) w n h = sum_has ws u l r f w n h
form_has ws u l r (OfShifts x y f) w n h = shift_has ws u l r f w n h
form_has ws u l r (OfParts x y f) w n h = part_has ws u l r f w n h
form_has ws u l r (OfBooleans x y f) w n h = boolean_has ws u l r f w n h
form_has ws u l r (OfComparisons x y f) w n h = comparison_has ws u l r f w n h

form_depth : (ws : ℕ → ℕ) (l r : Expr) → Form ws l r → depth_of r ≤ depth_of l
form_depth ws l r (OfFolds x y f) = fold_depth ws l r f
form_depth ws l r (OfArithmetic x y f) = sum_depth ws l r f
form_depth ws l r (OfShifts x y f) = shift_depth ws l r f
form_depth ws l r (OfParts x y f) = part_depth ws l r f
form_depth ws l r (OfBooleans x y f) = boolean_depth l r f
form_depth ws l r (OfComparisons x y f) = comparison_depth l r f

turned_depth : (op : ArithmeticOp) (x y : Expr) → depth_of (E.Arithmetic op x y) ≡ depth_of (E.Arithmetic op y x)
turned_depth op x y = simp depths (omega arith)

turned_test_depth : (op : CompareOp) (x y : Expr) → depth_of (E.Compare op x y) ≡ depth_of (E.Compare op y x)
turned_test_depth op x y = simp depths (omega arith)

turned_flag_depth : (op : OverflowOp) (x y : Expr) → depth_of (E.Overflow op x y) ≡ depth_of (E.Overflow op y x)
turned_flag_depth op x y = simp depths (omega arith)

has : (ws : ℕ → ℕ) (u : Under ws) (l r : Expr) → Rule ws l r → (w n : ℕ) → Has ws u l w n → Has ws u r w n
has ws u l r (AsNamed x y f) w n h = form_has ws u l r f w n h
has ws u l r (Turned op x y z k f) w n h = form_has ws u (E.Arithmetic op x y) r f w n (turn ws u op x y k w n h)
has ws u l r (TurnedTest op x y z k f) w n h = form_has ws u (E.Compare op x y) r f w n (turn_test ws u op x y k w n h)
has ws u l r (TurnedFlag op x y z k f) w n h = form_has ws u (E.Overflow op x y) r f w n (turn_flag ws u op x y k w n h)
has ws u l r (F2 op c x k no_const) w n h = turn ws u op x (E.Const c) k w n h
has ws u l r (F2_test op c x k no_const) w n h = turn_test ws u op x (E.Const c) k w n h

depth : (ws : ℕ → ℕ) (l r : Expr) → Rule ws l r → depth_of r ≤ depth_of l
depth ws l r (AsNamed x y f) = form_depth ws l r f
depth ws l r (Turned op x y z k f) =
    let p : depth_of r ≤ depth_of (E.Arithmetic op x y) = form_depth ws (E.Arithmetic op x y) r f in
    let q : depth_of (E.Arithmetic op x y) ≡ depth_of (E.Arithmetic op y x) = turned_depth op x y in omega arith
depth ws l r (TurnedTest op x y z k f) =
    let p : depth_of r ≤ depth_of (E.Compare op x y) = form_depth ws (E.Compare op x y) r f in
    let q : depth_of (E.Compare op x y) ≡ depth_of (E.Compare op y x) = turned_test_depth op x y in omega arith
depth ws l r (TurnedFlag op x y z k f) =
    let p : depth_of r ≤ depth_of (E.Overflow op x y) = form_depth ws (E.Overflow op x y) r f in
    let q : depth_of (E.Overflow op x y) ≡ depth_of (E.Overflow op y x) = turned_flag_depth op x y in omega arith
depth ws l r (F2 op c x k no_const) =
    let q : depth_of (E.Arithmetic op x (E.Const c)) ≡ depth_of (E.Arithmetic op (E.Const c) x) =
    turned_depth op x (E.Const c) in
    omega arith
depth ws l r (F2_test op c x k no_const) =
    let q : depth_of (E.Compare op x (E.Const c)) ≡ depth_of (E.Compare op (E.Const c) x) =
    turned_test_depth op x (E.Const c) in
    omega arith

-- Each rule keeps the width and the value of what it rewrites, and makes it no deeper.
pub sound : (ws : ℕ → ℕ) (l r : Expr) → Rule ws l r → Keeps ws l r
sound ws l r f = keeps_by ws l r (λ u. has ws u l r f) (depth ws l r f)
