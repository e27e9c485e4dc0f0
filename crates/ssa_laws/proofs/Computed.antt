-- What an op computes from words is a word of its width.
use Rattle.std.proofs.Common.{◌≡◌, ℕ, ◌+◌, ◌/◌, ◌<◌, Bool, true, false, List, [], ◌∷◌, drop, map, Option, Some, None, refl, sym, ap, ◌∙◌, subst, arith, true≢false}
use Rattle.std.specs.Prelude.{◌==◌, ◌&&◌, nat_lt}
use Rattle.std.proofs.lemmas.Bool.{ltb-true}
use Rattle.std.proofs.Math.Nat.{mod-lt}
use Rattle.heap_nodes.proofs.Places.{some_same, none_some}
use Rattle.bits_core.specs.declared.word.Width.{Width}
use Rattle.bits_core.specs.declared.ops.Unary.TheVariants as U
use Rattle.bits_core.specs.declared.ops.Binary.TheVariants as B
use Rattle.bits_core.specs.Value.{limit, part, unary_value, binary_value}
use Rattle.bits_core.proofs.Limits.{limit_pos}
use Rattle.laws.proofs.Words.{unary_word, binary_word, divide_word}
use Rattle.pcode_model.specs.declared.listing.Listing.{Listing}
use Rattle.cmeaning.specs.declared.tree.UnaryOp.{UnaryOp}
use Rattle.cmeaning.specs.declared.tree.UnaryOp.TheVariants.{Neg, Not}
use Rattle.cmeaning.specs.declared.tree.ArithmeticOp.{ArithmeticOp}
use Rattle.cmeaning.specs.declared.tree.ArithmeticOp.TheVariants.{Add, Sub, Mul, And, Or, Xor}
use Rattle.cmeaning.specs.declared.tree.ShiftOp.{ShiftOp}
use Rattle.cmeaning.specs.declared.tree.ShiftOp.TheVariants.{Shl, Shr, Sar}
use Rattle.cmeaning.specs.declared.tree.CompareOp.{CompareOp}
use Rattle.cmeaning.specs.declared.tree.CompareOp.TheVariants.{Eq, Ne, Lt, Le}
use Rattle.cmeaning.specs.declared.tree.SignedCompareOp.{SignedCompareOp}
use Rattle.cmeaning.specs.declared.tree.SignedCompareOp.TheVariants.{SLt, SLe}
use Rattle.cmeaning.specs.declared.tree.ExtendOp.{ExtendOp}
use Rattle.cmeaning.specs.declared.tree.ExtendOp.TheVariants.{Zext, Sext}
use Rattle.cmeaning.specs.declared.tree.OverflowOp.{OverflowOp}
use Rattle.cmeaning.specs.declared.tree.OverflowOp.TheVariants.{Carry, SCarry, SBorrow}
use Rattle.cmeaning.specs.declared.tree.CountOp.{CountOp}
use Rattle.cmeaning.specs.declared.tree.CountOp.TheVariants.{Popcount, Lzcount}
use Rattle.cmeaning.specs.declared.tree.Expr.{Expr}
use Rattle.cmeaning.specs.declared.tree.Expr.TheVariants as E
use Rattle.cmeaning.specs.declared.tree.Arm.{Arm}
use Rattle.cmeaning.specs.declared.tree.StatementDivision.{StatementDivision}
use Rattle.cmeaning.specs.declared.tree.Stmt.{Stmt, out-Stmt, roll-Stmt}
use Rattle.cmeaning.specs.declared.tree.Stmt.TheVariants as S
use Rattle.cmeaning.specs.declared.tree.Stmt.TheViews.{out-roll-Stmt}
use Rattle.cmeaning.specs.declared.tree.Stmt.TheOpen.{Stmt-F}
use Rattle.cmeaning.specs.Do.{divide_of, values_of}
use Rattle.cmeaning.specs.Value.{unary_of, arithmetic_of, shift_of, compare_of, signed_compare_of, extend_of, overflow_of, count_of, with_value, with_values, width_of, value_of}
use Rattle.cmeaning.proofs.Value.{value_of_const, value_of_var, width_of_var}
use Rattle.node_lists.proofs.Chains.{eqb_is}
use Rattle.parts.specs.Exprs.{Env, One, Two, one, two, one_value, two_value, all_of, both, widths_of}
use Rattle.parts.specs.Exprs as node
use Rattle.parts.specs.Stmts.{Sets, Divides, layer_action, layer_args, action_of}
use Rattle.parts.proofs.Nodes.{value_one, value_two}
use Rattle.parts.proofs.Parts.{assign_is}
use Rattle.ssa_model.specs.Roles.{Role, Constant, Starts, Joins, Copies, Unary, Arithmetic, Shifts, Compares, Signed, Extends, Piece, Part, Overflow, Count, Divides as Division, Loads, Stores, Calls, CallsInd, CallsOther, Extra, Tests, Switches, Returns}
use Rattle.ssa_model.specs.Outline.{bytes_of}
use Rattle.ssa_model.specs.Lines.{said, input, target, word_in, line_by}
use Rattle.ssa_model.specs.Formed.{fits}
use Rattle.ssa_laws.specs.Law.{computes, computed_with, value_in}
use Rattle.ssa_laws.proofs.Lines.{both_hold}
use Rattle.ssa_laws.proofs.Keeps.{one_line, no_line}

-- ---- operations

unary_low : (op : UnaryOp) (v a : ℕ) → 0 < v → a < limit v → unary_value (unary_of op) v a v < limit v
unary_low Neg v a some h = unary_word U.Negate v v a some refl h
unary_low Not v a some h = unary_word U.Complement v v a some refl h

extend_low : (op : ExtendOp) (v w a : ℕ) → 0 < w → v < w → a < limit v → unary_value (extend_of op) v a w < limit w
extend_low Zext v w a some wider h = unary_word U.ZeroExtend v w a some wider h
extend_low Sext v w a some wider h = unary_word U.SignExtend v w a some wider h

part_low : (a k w : ℕ) → part a k w < limit w
unfolding part
part_low a k w = mod-lt (a / limit k) (limit_pos w)

count_low : (op : CountOp) (v a : ℕ) → a < limit v → unary_value (count_of op) v a 1 < limit 1
count_low Popcount v a h = unary_word U.CountOnes v 1 a (omega arith) tt h
count_low Lzcount v a h = unary_word U.CountLeadingZeros v 1 a (omega arith) tt h

module _ (v a b : ℕ) (h : a < limit v) where
  arithmetic_low : (op : ArithmeticOp) → 0 < v → b < limit v → binary_value (arithmetic_of op) v a v b v < limit v
  arithmetic_low Add some g = binary_word B.Add v v v a b some (refl, refl) h g
  arithmetic_low Sub some g = binary_word B.Subtract v v v a b some (refl, refl) h g
  arithmetic_low Mul some g = binary_word B.Multiply v v v a b some (refl, refl) h g
  arithmetic_low And some g = binary_word B.And v v v a b some (refl, refl) h g
  arithmetic_low Or some g = binary_word B.Or v v v a b some (refl, refl) h g
  arithmetic_low Xor some g = binary_word B.Xor v v v a b some (refl, refl) h g

  shift_low : (op : ShiftOp) (w : ℕ) → 0 < v → b < limit w → binary_value (shift_of op) v a w b v < limit v
  shift_low Shl w some g = binary_word B.Left v w v a b some refl h g
  shift_low Shr w some g = binary_word B.Right v w v a b some refl h g
  shift_low Sar w some g = binary_word B.SignedRight v w v a b some refl h g

  compare_low : (op : CompareOp) → b < limit v → binary_value (compare_of op) v a v b 1 < limit 1
  compare_low Eq g = binary_word B.Equal v v 1 a b (omega arith) (refl, refl) h g
  compare_low Ne g = binary_word B.NotEqual v v 1 a b (omega arith) (refl, refl) h g
  compare_low Lt g = binary_word B.Less v v 1 a b (omega arith) (refl, refl) h g
  compare_low Le g = binary_word B.LessEqual v v 1 a b (omega arith) (refl, refl) h g

  signed_compare_low : (op : SignedCompareOp) → b < limit v → binary_value (signed_compare_of op) v a v b 1 < limit 1
  signed_compare_low SLt g = binary_word B.SignedLess v v 1 a b (omega arith) (refl, refl) h g
  signed_compare_low SLe g = binary_word B.SignedLessEqual v v 1 a b (omega arith) (refl, refl) h g

  overflow_low : (op : OverflowOp) → b < limit v → binary_value (overflow_of op) v a v b 1 < limit 1
  overflow_low Carry g = binary_word B.Carry v v 1 a b (omega arith) (refl, refl) h g
  overflow_low SCarry g = binary_word B.SignedCarry v v 1 a b (omega arith) (refl, refl) h g
  overflow_low SBorrow g = binary_word B.SignedBorrow v v 1 a b (omega arith) (refl, refl) h g

-- ---- by the form of an op

some_of : (w : ℕ) → nat_lt 0 w ≡ true → 0 < w
some_of w h = grind (arith, ltb-true)

unfit : {P : Type 0} → false ≡ true → P
unfit e = absurd (true≢false (sym e))

-- The values of variables are words; x has a width.
module _ (l : Listing) (x : ℕ) (ws : ℕ → ℕ) (env : Env) (words : (v m : ℕ) → env v ≡ Some m → m < limit (ws v)) where
  -- what an assignment or a division computes by these inputs is a word
  abbrev IsLow : List ℕ → Role → Option Width → Type 0
  IsLow vs role w =
      (a : Stmt) (n : ℕ)
      → line_by l x vs role w ≡ a ∷ []
      → computes (action_of a) ≡ true
      → value_in ws env a ≡ Some n
      → n < limit (bytes_of w)

  of_value : (e : Expr) (n : ℕ)
      → computed_with Sets (width_of ws e ∷ []) (both (value_of ws env e) (Some [])) ≡ Some n
      → value_of ws env e ≡ Some n
  of_value e n is = by (value_of ws env e) is
    where
      by : (o : Option ℕ) → computed_with Sets (width_of ws e ∷ []) (both o (Some [])) ≡ Some n → o ≡ Some n
      by None h = none_some h
      by (Some m) h = h

  -- by the value of the expression that is assigned
  assigned_low : (vs : List ℕ) (role : Role) (w : Width) (e : Expr)
      → line_by l x vs role (Some w) ≡ S.Assign x e ∷ []
      → ((n : ℕ) → value_of ws env e ≡ Some n → n < limit w.bytes)
      → IsLow vs role (Some w)
  assigned_low vs role w e line low a n is c value =
      let same : a ≡ S.Assign x e = one_line (sym is ∙ line) in
      let parts = assign_is x e in
      low n (of_value e n
      ((λ i. computed_with (sym parts.action i) (widths_of ws (sym parts.args i))
      (all_of (values_of ws env (sym parts.args i))))
      ∙ ap (value_in ws env) (sym same)
      ∙ value))

  -- by the value of the one input
  one_low : (vs : List ℕ) (role : Role) (w : Width) (k : One) (v : ℕ)
      → line_by l x vs role (Some w) ≡ S.Assign x (one k (E.Var v)) ∷ []
      → ((m n : ℕ) → m < limit (ws v) → one_value k (ws v) m ≡ Some n → n < limit w.bytes)
      → IsLow vs role (Some w)
  one_low vs role w k v line low =
      assigned_low vs role w (one k (E.Var v)) line
      (λ n is. by n (env v) refl
      ((λ i. with_value (sym (value_of_var ws env v) i) (one_value k (sym (width_of_var ws v) i)))
      ∙ sym (value_one ws env k (E.Var v)) ∙ is))
    where
      by : (n : ℕ) (o : Option ℕ) → env v ≡ o → with_value o (one_value k (ws v)) ≡ Some n → n < limit w.bytes
      by n None is h = none_some h
      by n (Some m) is h = low m n (words v m is) h

  -- by the values of the two inputs
  two_low : (vs : List ℕ) (role : Role) (w : Width) (k : Two) (u v : ℕ)
      → line_by l x vs role (Some w) ≡ S.Assign x (two k (E.Var u) (E.Var v)) ∷ []
      → ((i j n : ℕ) → i < limit (ws u) → j < limit (ws v) → two_value k (ws u) (ws v) i j ≡ Some n → n < limit w.bytes)
      → IsLow vs role (Some w)
  two_low vs role w k u v line low =
      assigned_low vs role w (two k (E.Var u) (E.Var v)) line
      (λ n is. by n (env u) (env v) refl refl
      ((λ i. with_values (sym (value_of_var ws env u) i) (sym (value_of_var ws env v) i)
      (two_value k (sym (width_of_var ws u) i) (sym (width_of_var ws v) i)))
      ∙ sym (value_two ws env k (E.Var u) (E.Var v)) ∙ is))
    where
      by : (n : ℕ) (o o' : Option ℕ)
          → env u ≡ o
          → env v ≡ o'
          → with_values o o' (two_value k (ws u) (ws v)) ≡ Some n
          → n < limit w.bytes
      by n None o' is is' h = none_some h
      by n (Some i) None is is' h = none_some h
      by n (Some i) (Some j) is is' h = low i j n (words u i is) (words v j is') h

  -- of a division's first input
  divided_low : (u v : ℕ) (op : StatementDivision) (w : Width)
      → ws u ≡ w.bytes
      → IsLow (u ∷ v ∷ []) (Division op) (Some w)
  divided_low u v op w same a n is c value =
      let out : out-Stmt (S.Divide x op (E.Var u) (E.Var v)) ≡ Stmt-F.Divide x op (E.Var u) (E.Var v) =
      ap out-Stmt (sym (S.rolls-Divide x op (E.Var u) (E.Var v)))
      ∙ out-roll-Stmt (Stmt-F.Divide x op (E.Var u) (E.Var v)) in
      by (env u) (env v) refl
      ((λ i. computed_with (Divides op) (sym (width_of_var ws u) i ∷ sym (width_of_var ws v) i ∷ [])
      (both (sym (value_of_var ws env u) i) (both (sym (value_of_var ws env v) i) (Some []))))
      ∙ (λ i. computed_with (layer_action (sym out i)) (widths_of ws (layer_args (sym out i)))
      (all_of (values_of ws env (layer_args (sym out i)))))
      ∙ ap (value_in ws env) (sym (one_line (sym is)))
      ∙ value)
    where
      by : (o o' : Option ℕ)
          → env u ≡ o
          → computed_with (Divides op) (ws u ∷ ws v ∷ []) (both o (both o' (Some []))) ≡ Some n
          → n < limit w.bytes
      by None o' is h = none_some h
      by (Some i) None is h = none_some h
      by (Some i) (Some j) is h =
          subst (λ k. n < limit k) same (divide_word (divide_of op) (ws u) i j n (words u i is) h)

  -- a statement that computes nothing
  no_low : (vs : List ℕ) (role : Role) (w : Option Width) (y : Stmt-F Stmt Arm) (b : Stmt)
      → roll-Stmt y ≡ b
      → line_by l x vs role w ≡ b ∷ []
      → computes (layer_action y) ≡ false
      → IsLow vs role w
  no_low vs role w y b rolls line none a n is c value =
      let out : out-Stmt b ≡ y = ap out-Stmt (sym rolls) ∙ out-roll-Stmt y in
      unfit (sym none ∙ ap (λ z. computes (layer_action z)) (sym out)
      ∙ ap (λ z. computes (action_of z)) (one_line (sym line ∙ is)) ∙ c)

  no_lines : (vs : List ℕ) (role : Role) (w : Option Width) → line_by l x vs role w ≡ [] → IsLow vs role w
  no_lines vs role w none a n is c value = no_line (sym none ∙ is)

  -- by the widths that the form asks
  abbrev Fits : List ℕ → Role → Option Width → Type 0
  Fits vs role w = fits role (bytes_of w) (map ws vs) ≡ true

  low_width : (w : Width) (n v : ℕ) → ws v ≡ w.bytes → n < limit (ws v) → n < limit w.bytes
  low_width w n v same h = subst (λ k. n < limit k) same h

  -- of the tests that a form asks: the second and the third of three
  second : (b : Bool) (u w : ℕ) → (b && u == w) ≡ true → u ≡ w
  second b u w h = eqb_is u w (both_hold b (u == w) h).1

  both_same : (b : Bool) (u v w : ℕ) → (b && (u == w && v == w)) ≡ true → (u ≡ w) × (v ≡ w)
  both_same b u v w h =
      let q = both_hold (u == w) (v == w) (both_hold b (u == w && v == w) h).1 in
      (eqb_is u w q.0, eqb_is v w q.1)

  -- a value of one byte, of two inputs of one width
  byte_and_same : (u v w : ℕ) → (w == 1 && u == v) ≡ true → (w ≡ 1) × (u ≡ v)
  byte_and_same u v w h = let q = both_hold (w == 1) (u == v) h in (eqb_is w 1 q.0, eqb_is u v q.1)

  pub computed_low : (vs : List ℕ) (role : Role) (w : Option Width) → Fits vs role w → IsLow vs role w
  computed_low vs (Constant n) None f = no_lines vs (Constant n) None refl
  computed_low vs (Constant n) (Some w) f =
      assigned_low vs (Constant n) w (E.Const (word_in w n)) refl
      (λ m is. subst (λ k. k < limit w.bytes) (some_same (sym (value_of_const ws env (word_in w n)) ∙ is))
      (mod-lt n (limit_pos w.bytes)))
  computed_low vs (Starts s) w f = no_lines vs (Starts s) w refl
  computed_low vs (Joins atom) w f = no_lines vs (Joins atom) w refl
  computed_low vs Copies None f = no_lines vs Copies None refl
  computed_low [] Copies (Some w) f = unfit f
  computed_low (v ∷ []) Copies (Some w) f =
      assigned_low (v ∷ []) Copies w (E.Var v) refl
      (λ m is.
      low_width w m v (second (nat_lt 0 w.bytes) (ws v) w.bytes f) (words v m (sym (value_of_var ws env v) ∙ is)))
  computed_low (v ∷ u ∷ vs) Copies (Some w) f = unfit f
  computed_low vs (Unary op) None f = no_lines vs (Unary op) None refl
  computed_low [] (Unary op) (Some w) f = unfit f
  computed_low (v ∷ []) (Unary op) (Some w) f =
      one_low (v ∷ []) (Unary op) w (node.Unary op) v refl
      (λ m n h is.
      let same = second (nat_lt 0 w.bytes) (ws v) w.bytes f in
      low_width w n v same
      (subst (λ k. k < limit (ws v)) (some_same is) (unary_low op (ws v) m (subst (λ k. 0 < k) (sym same) w.from) h)))
  computed_low (v ∷ u ∷ vs) (Unary op) (Some w) f = unfit f
  computed_low vs (Arithmetic op) None f = no_lines vs (Arithmetic op) None refl
  computed_low [] (Arithmetic op) (Some w) f = unfit f
  computed_low (u ∷ []) (Arithmetic op) (Some w) f = unfit f
  computed_low (u ∷ v ∷ []) (Arithmetic op) (Some w) f =
      two_low (u ∷ v ∷ []) (Arithmetic op) w (node.Arithmetic op) u v refl
      (λ i j n h g is.
      let same = both_same (nat_lt 0 w.bytes) (ws u) (ws v) w.bytes f in
      let alike : ws v ≡ ws u = same.1 ∙ sym same.0 in
      let value : binary_value (arithmetic_of op) (ws u) i (ws u) j (ws u) ≡ n =
      ap (λ k. binary_value (arithmetic_of op) (ws u) i k j (ws u)) (sym alike) ∙ some_same is in
      low_width w n u same.0
      (subst (λ k. k < limit (ws u)) value
      (arithmetic_low (ws u) i j h op (subst (λ k. 0 < k) (sym same.0) w.from) (subst (λ k. j < limit k) alike g))))
  computed_low (u ∷ v ∷ t ∷ vs) (Arithmetic op) (Some w) f = unfit f
  computed_low vs (Shifts op) None f = no_lines vs (Shifts op) None refl
  computed_low [] (Shifts op) (Some w) f = unfit f
  computed_low (u ∷ []) (Shifts op) (Some w) f = unfit f
  computed_low (u ∷ v ∷ []) (Shifts op) (Some w) f =
      two_low (u ∷ v ∷ []) (Shifts op) w (node.Shift op) u v refl
      (λ i j n h g is.
      let same = second (nat_lt 0 w.bytes) (ws u) w.bytes f in
      low_width w n u same
      (subst (λ k. k < limit (ws u)) (some_same is)
      (shift_low (ws u) i j h op (ws v) (subst (λ k. 0 < k) (sym same) w.from) g)))
  computed_low (u ∷ v ∷ t ∷ vs) (Shifts op) (Some w) f = unfit f
  computed_low vs (Compares op) None f = no_lines vs (Compares op) None refl
  computed_low [] (Compares op) (Some w) f = unfit f
  computed_low (u ∷ []) (Compares op) (Some w) f = unfit f
  computed_low (u ∷ v ∷ []) (Compares op) (Some w) f =
      two_low (u ∷ v ∷ []) (Compares op) w (node.Compare op) u v refl
      (λ i j n h g is.
      let same = byte_and_same (ws u) (ws v) w.bytes f in
      let value : binary_value (compare_of op) (ws u) i (ws u) j 1 ≡ n =
      ap (λ k. binary_value (compare_of op) (ws u) i k j 1) same.1 ∙ some_same is in
      subst (λ k. n < limit k) (sym same.0)
      (subst (λ k. k < limit 1) value (compare_low (ws u) i j h op (subst (λ k. j < limit k) (sym same.1) g))))
  computed_low (u ∷ v ∷ t ∷ vs) (Compares op) (Some w) f = unfit f
  computed_low vs (Signed op) None f = no_lines vs (Signed op) None refl
  computed_low [] (Signed op) (Some w) f = unfit f
  computed_low (u ∷ []) (Signed op) (Some w) f = unfit f
  computed_low (u ∷ v ∷ []) (Signed op) (Some w) f =
      two_low (u ∷ v ∷ []) (Signed op) w (node.SignedCompare op) u v refl
      (λ i j n h g is.
      let same = byte_and_same (ws u) (ws v) w.bytes f in
      let value : binary_value (signed_compare_of op) (ws u) i (ws u) j 1 ≡ n =
      ap (λ k. binary_value (signed_compare_of op) (ws u) i k j 1) same.1 ∙ some_same is in
      subst (λ k. n < limit k) (sym same.0)
      (subst (λ k. k < limit 1) value (signed_compare_low (ws u) i j h op (subst (λ k. j < limit k) (sym same.1) g))))
  computed_low (u ∷ v ∷ t ∷ vs) (Signed op) (Some w) f = unfit f
  computed_low vs (Extends op) None f = no_lines vs (Extends op) None refl
  computed_low [] (Extends op) (Some w) f = unfit f
  computed_low (v ∷ []) (Extends op) (Some w) f =
      one_low (v ∷ []) (Extends op) w (node.Extend op w) v refl
      (λ m n h is.
      subst (λ k. k < limit w.bytes) (some_same is)
      (extend_low op (ws v) w.bytes m w.from (grind (arith, ltb-true, f)) h))
  computed_low (v ∷ u ∷ vs) (Extends op) (Some w) f = unfit f
  computed_low vs Piece None f = no_lines vs Piece None refl
  computed_low [] Piece (Some w) f = unfit f
  computed_low (u ∷ []) Piece (Some w) f = unfit f
  computed_low (u ∷ v ∷ []) Piece (Some w) f =
      two_low (u ∷ v ∷ []) Piece w node.Concat u v refl
      (λ i j n h g is.
      let same : ws u + ws v ≡ w.bytes = second (nat_lt 0 w.bytes) (ws u + ws v) w.bytes f in
      subst (λ k. n < limit k) same
      (subst (λ k. k < limit (ws u + ws v)) (some_same is)
      (binary_word B.Piece (ws u) (ws v) (ws u + ws v) i j (subst (λ k. 0 < k) (sym same) w.from) refl h g)))
  computed_low (u ∷ v ∷ t ∷ vs) Piece (Some w) f = unfit f
  computed_low vs (Part dropped) None f = no_lines vs (Part dropped) None refl
  computed_low [] (Part dropped) (Some w) f = unfit f
  computed_low (v ∷ []) (Part dropped) (Some w) f =
      one_low (v ∷ []) (Part dropped) w (node.Part dropped w) v refl
      (λ m n h is. subst (λ k. k < limit w.bytes) (some_same is) (part_low m dropped w.bytes))
  computed_low (v ∷ u ∷ vs) (Part dropped) (Some w) f = unfit f
  computed_low vs (Overflow op) None f = no_lines vs (Overflow op) None refl
  computed_low [] (Overflow op) (Some w) f = unfit f
  computed_low (u ∷ []) (Overflow op) (Some w) f = unfit f
  computed_low (u ∷ v ∷ []) (Overflow op) (Some w) f =
      two_low (u ∷ v ∷ []) (Overflow op) w (node.Overflow op) u v refl
      (λ i j n h g is.
      let same = byte_and_same (ws u) (ws v) w.bytes f in
      let value : binary_value (overflow_of op) (ws u) i (ws u) j 1 ≡ n =
      ap (λ k. binary_value (overflow_of op) (ws u) i k j 1) same.1 ∙ some_same is in
      subst (λ k. n < limit k) (sym same.0)
      (subst (λ k. k < limit 1) value (overflow_low (ws u) i j h op (subst (λ k. j < limit k) (sym same.1) g))))
  computed_low (u ∷ v ∷ t ∷ vs) (Overflow op) (Some w) f = unfit f
  computed_low vs (Count op) None f = no_lines vs (Count op) None refl
  computed_low [] (Count op) (Some w) f = unfit f
  computed_low (v ∷ []) (Count op) (Some w) f =
      one_low (v ∷ []) (Count op) w (node.Count op) v refl
      (λ m n h is.
      subst (λ k. n < limit k) (sym (eqb_is w.bytes 1 f))
      (subst (λ k. k < limit 1) (some_same is) (count_low op (ws v) m h)))
  computed_low (v ∷ u ∷ vs) (Count op) (Some w) f = unfit f
  computed_low vs (Division op) None f = no_lines vs (Division op) None refl
  computed_low [] (Division op) (Some w) f = unfit f
  computed_low (u ∷ []) (Division op) (Some w) f = unfit f
  computed_low (u ∷ v ∷ []) (Division op) (Some w) f =
      divided_low u v op w (both_same (nat_lt 0 w.bytes) (ws u) (ws v) w.bytes f).0
  computed_low (u ∷ v ∷ t ∷ vs) (Division op) (Some w) f = unfit f
  computed_low vs (Loads space) None f = no_lines vs (Loads space) None refl
  computed_low vs (Loads space) (Some w) f =
      no_low vs (Loads space) (Some w) (Stmt-F.Load x (said l space) (input vs 0))
      (S.Load x (said l space) (input vs 0)) (S.rolls-Load x (said l space) (input vs 0)) refl refl
  computed_low vs (Stores space) w f =
      no_low vs (Stores space) w (Stmt-F.Store (said l space) (input vs 0) (input vs 1))
      (S.Store (said l space) (input vs 0) (input vs 1)) (S.rolls-Store (said l space) (input vs 0) (input vs 1)) refl
      refl
  computed_low vs (Calls callee) w f =
      no_low vs (Calls callee) w (Stmt-F.Call (target x w) callee (map E.Var vs))
      (S.Call (target x w) callee (map E.Var vs)) (S.rolls-Call (target x w) callee (map E.Var vs)) refl refl
  computed_low vs CallsInd w f =
      no_low vs CallsInd w (Stmt-F.CallInd (target x w) (input vs 0) (map E.Var (drop 1 vs)))
      (S.CallInd (target x w) (input vs 0) (map E.Var (drop 1 vs)))
      (S.rolls-CallInd (target x w) (input vs 0) (map E.Var (drop 1 vs))) refl refl
  computed_low vs (CallsOther index) w f =
      no_low vs (CallsOther index) w (Stmt-F.Other (target x w) index (map E.Var vs))
      (S.Other (target x w) index (map E.Var vs)) (S.rolls-Other (target x w) index (map E.Var vs)) refl refl
  computed_low vs (Extra offset) None f = no_lines vs (Extra offset) None refl
  computed_low vs (Extra offset) (Some w) f =
      no_low vs (Extra offset) (Some w) (Stmt-F.Extra x offset) (S.Extra x offset) (S.rolls-Extra x offset) refl refl
  computed_low vs Tests w f = no_lines vs Tests w refl
  computed_low vs Switches w f = no_lines vs Switches w refl
  computed_low vs Returns w f = no_lines vs Returns w refl
