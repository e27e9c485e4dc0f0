-- What nodes of two operands mean, and the widths of their operands.
use Rattle.std.proofs.Common.{◌≡◌, ℕ, ◌+◌, ◌<◌, ◌≤◌, true, Option, Some, sym, ap, ◌∙◌, subst, arith}
use Rattle.bits_core.specs.declared.word.Width.{Width}
use Rattle.bits_core.specs.declared.word.Word.{Word}
use Rattle.cmeaning.specs.declared.tree.ArithmeticOp.{ArithmeticOp}
use Rattle.cmeaning.specs.declared.tree.DivisionOp.{DivisionOp}
use Rattle.cmeaning.specs.declared.tree.SignedDivisionOp.{SignedDivisionOp}
use Rattle.cmeaning.specs.declared.tree.ShiftOp.{ShiftOp}
use Rattle.cmeaning.specs.declared.tree.CompareOp.{CompareOp}
use Rattle.cmeaning.specs.declared.tree.SignedCompareOp.{SignedCompareOp}
use Rattle.cmeaning.specs.declared.tree.ExtendOp.{ExtendOp}
use Rattle.cmeaning.specs.declared.tree.OverflowOp.{OverflowOp}
use Rattle.cmeaning.specs.declared.tree.Expr.{Expr}
use Rattle.cmeaning.specs.declared.tree.Expr.TheOpen.{Expr-F}
use Rattle.cmeaning.specs.declared.tree.Expr.TheVariants as E
use Rattle.cmeaning.specs.Shape.{shape_of, is_right}
use Rattle.cmeaning.specs.Value.{Meaning, meaning_of, width_of}
use Rattle.cmeaning.proofs.Value.{meaning_roll}
use Rattle.cvalue.specs.Held.{Tells, IsWide, AreAlike}
use Rattle.cvalue.specs.Nodes as N
use Rattle.cvalue.proofs.Right as right

pub told : (o : Option Word) (m n : Meaning) (env : ℕ → Option ℕ) → m ≡ n → Tells o m env → Tells o n env
told o m n env e t = let P : Meaning → Type 0 = λ z. Tells o z env in subst P e t

wide_at : (n : ℕ) (o : Option Word) (x : Word) → IsWide n o → o ≡ Some x → x.width.bytes ≡ n
wide_at n o x h is = let P : Option Word → Type 0 = λ z. IsWide n z in subst P is h

pub words_alike : (ws : ℕ → ℕ) (env : ℕ → Option ℕ) (a b : Expr) (p q : Option Word)
    → Tells p (meaning_of ws a) env
    → Tells q (meaning_of ws b) env
    → width_of ws a ≡ width_of ws b
    → AreAlike p q
words_alike ws env a b p q s t same x y is_x is_y =
    wide_at (width_of ws a) p x s.width is_x ∙ same ∙ sym (wide_at (width_of ws b) q y t.width is_y)

pub words_short : (ws : ℕ → ℕ) (env : ℕ → Option ℕ) (a b : Expr) (p q : Option Word)
    → Tells p (meaning_of ws a) env
    → Tells q (meaning_of ws b) env
    → width_of ws a + width_of ws b ≤ 16
    → (x y : Word)
    → p ≡ Some x
    → q ≡ Some y
    → x.width.bytes + y.width.bytes ≤ 16
words_short ws env a b p q s t few x y is_x is_y =
    omega (arith, wide_at (width_of ws a) p x s.width is_x, wide_at (width_of ws b) q y t.width is_y)

pub word_below : (ws : ℕ → ℕ) (env : ℕ → Option ℕ) (a : Expr) (n : ℕ) (p : Option Word)
    → Tells p (meaning_of ws a) env
    → width_of ws a < n
    → (x : Word)
    → p ≡ Some x
    → x.width.bytes < n
word_below ws env a n p s few x is_x = omega (arith, wide_at (width_of ws a) p x s.width is_x)

pub arithmetic_means : (ws : ℕ → ℕ) (e : Expr) (op : ArithmeticOp) (a b x y : Expr)
    → e ≡ E.Arithmetic op a b
    → x ≡ a
    → y ≡ b
    → N.arithmetic op (meaning_of ws x) (meaning_of ws y) ≡ meaning_of ws e
arithmetic_means ws e op a b x y is p q =
    ap (λ z. N.arithmetic op (meaning_of ws z) (meaning_of ws y)) p
    ∙ ap (λ z. N.arithmetic op (meaning_of ws a) (meaning_of ws z)) q
    ∙ sym (ap (meaning_of ws) (sym (E.rolls-Arithmetic op a b)) ∙ meaning_roll ws (Expr-F.Arithmetic op a b))
    ∙ ap (meaning_of ws) (sym is)

pub arithmetic_alike : (ws : ℕ → ℕ) (e : Expr) (op : ArithmeticOp) (a b x y : Expr)
    → e ≡ E.Arithmetic op a b
    → x ≡ a
    → y ≡ b
    → is_right (shape_of ws e) ≡ true
    → width_of ws x ≡ width_of ws y
arithmetic_alike ws e op a b x y is p q h =
    ap (width_of ws) p
    ∙ (right.arithmetic_right ws op a b (ap (λ z. is_right (shape_of ws z)) (sym is) ∙ h)).same
    ∙ ap (width_of ws) (sym q)

pub division_means : (ws : ℕ → ℕ) (e : Expr) (op : DivisionOp) (a b x y : Expr)
    → e ≡ E.Division op a b
    → x ≡ a
    → y ≡ b
    → N.division op (meaning_of ws x) (meaning_of ws y) ≡ meaning_of ws e
division_means ws e op a b x y is p q =
    ap (λ z. N.division op (meaning_of ws z) (meaning_of ws y)) p
    ∙ ap (λ z. N.division op (meaning_of ws a) (meaning_of ws z)) q
    ∙ sym (ap (meaning_of ws) (sym (E.rolls-Division op a b)) ∙ meaning_roll ws (Expr-F.Division op a b))
    ∙ ap (meaning_of ws) (sym is)

pub division_alike : (ws : ℕ → ℕ) (e : Expr) (op : DivisionOp) (a b x y : Expr)
    → e ≡ E.Division op a b
    → x ≡ a
    → y ≡ b
    → is_right (shape_of ws e) ≡ true
    → width_of ws x ≡ width_of ws y
division_alike ws e op a b x y is p q h =
    ap (width_of ws) p
    ∙ (right.division_right ws op a b (ap (λ z. is_right (shape_of ws z)) (sym is) ∙ h)).same
    ∙ ap (width_of ws) (sym q)

pub signed_division_means : (ws : ℕ → ℕ) (e : Expr) (op : SignedDivisionOp) (a b x y : Expr)
    → e ≡ E.SignedDivision op a b
    → x ≡ a
    → y ≡ b
    → N.signed_division op (meaning_of ws x) (meaning_of ws y) ≡ meaning_of ws e
signed_division_means ws e op a b x y is p q =
    ap (λ z. N.signed_division op (meaning_of ws z) (meaning_of ws y)) p
    ∙ ap (λ z. N.signed_division op (meaning_of ws a) (meaning_of ws z)) q
    ∙ sym
    (ap (meaning_of ws) (sym (E.rolls-SignedDivision op a b)) ∙ meaning_roll ws (Expr-F.SignedDivision op a b))
    ∙ ap (meaning_of ws) (sym is)

pub signed_division_alike : (ws : ℕ → ℕ) (e : Expr) (op : SignedDivisionOp) (a b x y : Expr)
    → e ≡ E.SignedDivision op a b
    → x ≡ a
    → y ≡ b
    → is_right (shape_of ws e) ≡ true
    → width_of ws x ≡ width_of ws y
signed_division_alike ws e op a b x y is p q h =
    ap (width_of ws) p
    ∙ (right.signed_division_right ws op a b (ap (λ z. is_right (shape_of ws z)) (sym is) ∙ h)).same
    ∙ ap (width_of ws) (sym q)

pub shift_means : (ws : ℕ → ℕ) (e : Expr) (op : ShiftOp) (a b x y : Expr)
    → e ≡ E.Shift op a b
    → x ≡ a
    → y ≡ b
    → N.shift op (meaning_of ws x) (meaning_of ws y) ≡ meaning_of ws e
shift_means ws e op a b x y is p q =
    ap (λ z. N.shift op (meaning_of ws z) (meaning_of ws y)) p
    ∙ ap (λ z. N.shift op (meaning_of ws a) (meaning_of ws z)) q
    ∙ sym (ap (meaning_of ws) (sym (E.rolls-Shift op a b)) ∙ meaning_roll ws (Expr-F.Shift op a b))
    ∙ ap (meaning_of ws) (sym is)

pub compare_means : (ws : ℕ → ℕ) (e : Expr) (op : CompareOp) (a b x y : Expr)
    → e ≡ E.Compare op a b
    → x ≡ a
    → y ≡ b
    → N.compare op (meaning_of ws x) (meaning_of ws y) ≡ meaning_of ws e
compare_means ws e op a b x y is p q =
    ap (λ z. N.compare op (meaning_of ws z) (meaning_of ws y)) p
    ∙ ap (λ z. N.compare op (meaning_of ws a) (meaning_of ws z)) q
    ∙ sym (ap (meaning_of ws) (sym (E.rolls-Compare op a b)) ∙ meaning_roll ws (Expr-F.Compare op a b))
    ∙ ap (meaning_of ws) (sym is)

pub compare_alike : (ws : ℕ → ℕ) (e : Expr) (op : CompareOp) (a b x y : Expr)
    → e ≡ E.Compare op a b
    → x ≡ a
    → y ≡ b
    → is_right (shape_of ws e) ≡ true
    → width_of ws x ≡ width_of ws y
compare_alike ws e op a b x y is p q h =
    ap (width_of ws) p
    ∙ (right.compare_right ws op a b (ap (λ z. is_right (shape_of ws z)) (sym is) ∙ h)).same
    ∙ ap (width_of ws) (sym q)

pub signed_compare_means : (ws : ℕ → ℕ) (e : Expr) (op : SignedCompareOp) (a b x y : Expr)
    → e ≡ E.SignedCompare op a b
    → x ≡ a
    → y ≡ b
    → N.signed_compare op (meaning_of ws x) (meaning_of ws y) ≡ meaning_of ws e
signed_compare_means ws e op a b x y is p q =
    ap (λ z. N.signed_compare op (meaning_of ws z) (meaning_of ws y)) p
    ∙ ap (λ z. N.signed_compare op (meaning_of ws a) (meaning_of ws z)) q
    ∙ sym (ap (meaning_of ws) (sym (E.rolls-SignedCompare op a b)) ∙ meaning_roll ws (Expr-F.SignedCompare op a b))
    ∙ ap (meaning_of ws) (sym is)

pub signed_compare_alike : (ws : ℕ → ℕ) (e : Expr) (op : SignedCompareOp) (a b x y : Expr)
    → e ≡ E.SignedCompare op a b
    → x ≡ a
    → y ≡ b
    → is_right (shape_of ws e) ≡ true
    → width_of ws x ≡ width_of ws y
signed_compare_alike ws e op a b x y is p q h =
    ap (width_of ws) p
    ∙ (right.signed_compare_right ws op a b (ap (λ z. is_right (shape_of ws z)) (sym is) ∙ h)).same
    ∙ ap (width_of ws) (sym q)

pub concat_means : (ws : ℕ → ℕ) (e : Expr) (a b x y : Expr)
    → e ≡ E.Concat a b
    → x ≡ a
    → y ≡ b
    → N.concat (meaning_of ws x) (meaning_of ws y) ≡ meaning_of ws e
concat_means ws e a b x y is p q =
    ap (λ z. N.concat (meaning_of ws z) (meaning_of ws y)) p ∙ ap (λ z. N.concat (meaning_of ws a) (meaning_of ws z)) q
    ∙ sym (ap (meaning_of ws) (sym (E.rolls-Concat a b)) ∙ meaning_roll ws (Expr-F.Concat a b))
    ∙ ap (meaning_of ws) (sym is)

pub concat_short : (ws : ℕ → ℕ) (e a b x y : Expr)
    → e ≡ E.Concat a b
    → x ≡ a
    → y ≡ b
    → is_right (shape_of ws e) ≡ true
    → width_of ws x + width_of ws y ≤ 16
concat_short ws e a b x y is p q h =
    let few = (right.concat_right ws a b (ap (λ z. is_right (shape_of ws z)) (sym is) ∙ h)).few in
    omega (arith, few, ap (width_of ws) p, ap (width_of ws) q)

pub overflow_means : (ws : ℕ → ℕ) (e : Expr) (op : OverflowOp) (a b x y : Expr)
    → e ≡ E.Overflow op a b
    → x ≡ a
    → y ≡ b
    → N.overflow op (meaning_of ws x) (meaning_of ws y) ≡ meaning_of ws e
overflow_means ws e op a b x y is p q =
    ap (λ z. N.overflow op (meaning_of ws z) (meaning_of ws y)) p
    ∙ ap (λ z. N.overflow op (meaning_of ws a) (meaning_of ws z)) q
    ∙ sym (ap (meaning_of ws) (sym (E.rolls-Overflow op a b)) ∙ meaning_roll ws (Expr-F.Overflow op a b))
    ∙ ap (meaning_of ws) (sym is)

pub overflow_alike : (ws : ℕ → ℕ) (e : Expr) (op : OverflowOp) (a b x y : Expr)
    → e ≡ E.Overflow op a b
    → x ≡ a
    → y ≡ b
    → is_right (shape_of ws e) ≡ true
    → width_of ws x ≡ width_of ws y
overflow_alike ws e op a b x y is p q h =
    ap (width_of ws) p
    ∙ (right.overflow_right ws op a b (ap (λ z. is_right (shape_of ws z)) (sym is) ∙ h)).same
    ∙ ap (width_of ws) (sym q)

pub extend_below : (ws : ℕ → ℕ) (e : Expr) (op : ExtendOp) (out : Width) (a x : Expr)
    → e ≡ E.Extend op out a
    → x ≡ a
    → is_right (shape_of ws e) ≡ true
    → width_of ws x < out.bytes
extend_below ws e op out a x is p h =
    let wider = right.extend_wider ws op out a (ap (λ z. is_right (shape_of ws z)) (sym is) ∙ h) in
    omega (arith, wider, ap (width_of ws) p)
