-- Induction on expressions by the number of operands, and what each of the four kinds of nodes reads, is worth, and
-- becomes with expressions in the place of its variables.
use Rattle.std.proofs.Common.{◌≡◌, ℕ, ◌+◌, ◌==◌, max, cond, List, [], ◌∷◌, ◌++◌, sym, ap, ◌∙◌, subst, arith}
use Rattle.bits_core.specs.declared.word.Word.{Word}
use Rattle.cmeaning.specs.declared.tree.Expr.{Expr, fold-roll-Expr, ind-Expr, roll-Expr, map-Expr}
use Rattle.cmeaning.specs.declared.tree.Expr.TheOpen.{Expr-F}
use Rattle.cmeaning.specs.declared.tree.Expr.TheVariants as E
use Rattle.cmeaning.specs.Value.{with_value, with_values, width_of, value_of}
use Rattle.cmeaning.proofs.Value as V
use Rattle.parts.specs.Exprs.{One, Unary, Extend, Part, Count, Two, Arithmetic, Division, SignedDivision, Shift, Compare, SignedCompare, Concat, Overflow, Env, one, two, one_width, two_width, one_value, two_value, variables_step, variables, times, reads, depth_step, depth, with_step, with_all}

-- ---- induction

module _
    (P : Expr → Type 0)
    (of_const : (c : Word) → P (E.Const c))
    (of_var : (x : ℕ) → P (E.Var x))
    (of_one : (k : One) (a : Expr) → P a → P (one k a))
    (of_two : (k : Two) (a b : Expr) → P a → P b → P (two k a b))
  where
    layer : {A : Type 0} (f : A → Expr) → ((a : A) → P (f a)) → (l : Expr-F A) → P (roll-Expr (map-Expr A Expr f l))
    layer f h (Expr-F.Const c) = subst P (sym (E.rolls-Const c)) (of_const c)
    layer f h (Expr-F.Var x) = subst P (sym (E.rolls-Var x)) (of_var x)
    layer f h (Expr-F.Unary op a) = subst P (sym (E.rolls-Unary op (f a))) (of_one (Unary op) (f a) (h a))
    layer f h (Expr-F.Extend op w a) = subst P (sym (E.rolls-Extend op w (f a))) (of_one (Extend op w) (f a) (h a))
    layer f h (Expr-F.Part dropped w a) =
        subst P (sym (E.rolls-Part dropped w (f a))) (of_one (Part dropped w) (f a) (h a))
    layer f h (Expr-F.Count op a) = subst P (sym (E.rolls-Count op (f a))) (of_one (Count op) (f a) (h a))
    layer f h (Expr-F.Arithmetic op a b) =
        subst P (sym (E.rolls-Arithmetic op (f a) (f b))) (of_two (Arithmetic op) (f a) (f b) (h a) (h b))
    layer f h (Expr-F.Division op a b) =
        subst P (sym (E.rolls-Division op (f a) (f b))) (of_two (Division op) (f a) (f b) (h a) (h b))
    layer f h (Expr-F.SignedDivision op a b) =
        subst P (sym (E.rolls-SignedDivision op (f a) (f b))) (of_two (SignedDivision op) (f a) (f b) (h a) (h b))
    layer f h (Expr-F.Shift op a b) =
        subst P (sym (E.rolls-Shift op (f a) (f b))) (of_two (Shift op) (f a) (f b) (h a) (h b))
    layer f h (Expr-F.Compare op a b) =
        subst P (sym (E.rolls-Compare op (f a) (f b))) (of_two (Compare op) (f a) (f b) (h a) (h b))
    layer f h (Expr-F.SignedCompare op a b) =
        subst P (sym (E.rolls-SignedCompare op (f a) (f b))) (of_two (SignedCompare op) (f a) (f b) (h a) (h b))
    layer f h (Expr-F.Concat a b) =
        subst P (sym (E.rolls-Concat (f a) (f b))) (of_two Concat (f a) (f b) (h a) (h b))
    layer f h (Expr-F.Overflow op a b) =
        subst P (sym (E.rolls-Overflow op (f a) (f b))) (of_two (Overflow op) (f a) (f b) (h a) (h b))

    -- Induction as one would write it over a plain tree.
    pub by_parts : (e : Expr) → P e
    by_parts e =
        let Q : Expr-F Expr → Type 0 = λ z. P (roll-Expr z) in
        ind-Expr P (λ l y is. subst Q is (layer (λ p. p.0) (λ p. p.1) y)) e

-- ---- widths and values

pub width_one : (ws : ℕ → ℕ) (k : One) (a : Expr) → width_of ws (one k a) ≡ one_width k (width_of ws a)
width_one ws (Unary op) a = V.width_of_unary ws op a
width_one ws (Extend op w) a = V.width_of_extend ws op w a
width_one ws (Part dropped w) a = V.width_of_part ws dropped w a
width_one ws (Count op) a = V.width_of_count ws op a

pub width_two : (ws : ℕ → ℕ) (k : Two) (a b : Expr)
    → width_of ws (two k a b) ≡ two_width k (width_of ws a) (width_of ws b)
width_two ws (Arithmetic op) a b = V.width_of_arithmetic ws op a b
width_two ws (Division op) a b = V.width_of_division ws op a b
width_two ws (SignedDivision op) a b = V.width_of_signed_division ws op a b
width_two ws (Shift op) a b = V.width_of_shift ws op a b
width_two ws (Compare op) a b = V.width_of_compare ws op a b
width_two ws (SignedCompare op) a b = V.width_of_signed_compare ws op a b
width_two ws Concat a b = V.width_of_concat ws a b
width_two ws (Overflow op) a b = V.width_of_overflow ws op a b

pub value_one : (ws : ℕ → ℕ) (env : Env) (k : One) (a : Expr)
    → value_of ws env (one k a) ≡ with_value (value_of ws env a) (one_value k (width_of ws a))
value_one ws env (Unary op) a = V.value_of_unary ws env op a
value_one ws env (Extend op w) a = V.value_of_extend ws env op w a
value_one ws env (Part dropped w) a = V.value_of_part ws env dropped w a
value_one ws env (Count op) a = V.value_of_count ws env op a

pub value_two : (ws : ℕ → ℕ) (env : Env) (k : Two) (a b : Expr)
    → value_of ws env (two k a b)
    ≡ with_values (value_of ws env a) (value_of ws env b) (two_value k (width_of ws a) (width_of ws b))
value_two ws env (Arithmetic op) a b = V.value_of_arithmetic ws env op a b
value_two ws env (Division op) a b = V.value_of_division ws env op a b
value_two ws env (SignedDivision op) a b = V.value_of_signed_division ws env op a b
value_two ws env (Shift op) a b = V.value_of_shift ws env op a b
value_two ws env (Compare op) a b = V.value_of_compare ws env op a b
value_two ws env (SignedCompare op) a b = V.value_of_signed_compare ws env op a b
value_two ws env Concat a b = V.value_of_concat ws env a b
value_two ws env (Overflow op) a b = V.value_of_overflow ws env op a b

-- ---- the variables that are read

variables_layer : (e : Expr) (l : Expr-F Expr)
    → roll-Expr l ≡ e
    → variables e ≡ variables_step (map-Expr Expr (List ℕ) variables l)
unfolding variables
variables_layer e l is = ap variables (sym is) ∙ fold-roll-Expr (List ℕ) variables_step l

pub variables_const : (c : Word) → variables (E.Const c) ≡ []
variables_const c = variables_layer (E.Const c) (Expr-F.Const c) (E.rolls-Const c)

pub variables_var : (x : ℕ) → variables (E.Var x) ≡ x ∷ []
variables_var x = variables_layer (E.Var x) (Expr-F.Var x) (E.rolls-Var x)

pub variables_one : (k : One) (a : Expr) → variables (one k a) ≡ variables a
variables_one (Unary op) a = variables_layer (E.Unary op a) (Expr-F.Unary op a) (E.rolls-Unary op a)
variables_one (Extend op w) a = variables_layer (E.Extend op w a) (Expr-F.Extend op w a) (E.rolls-Extend op w a)
variables_one (Part dropped w) a =
    variables_layer (E.Part dropped w a) (Expr-F.Part dropped w a) (E.rolls-Part dropped w a)
variables_one (Count op) a = variables_layer (E.Count op a) (Expr-F.Count op a) (E.rolls-Count op a)

pub variables_two : (k : Two) (a b : Expr) → variables (two k a b) ≡ variables a ++ variables b
variables_two (Arithmetic op) a b =
    variables_layer (E.Arithmetic op a b) (Expr-F.Arithmetic op a b) (E.rolls-Arithmetic op a b)
variables_two (Division op) a b =
    variables_layer (E.Division op a b) (Expr-F.Division op a b) (E.rolls-Division op a b)
variables_two (SignedDivision op) a b =
    variables_layer (E.SignedDivision op a b) (Expr-F.SignedDivision op a b) (E.rolls-SignedDivision op a b)
variables_two (Shift op) a b = variables_layer (E.Shift op a b) (Expr-F.Shift op a b) (E.rolls-Shift op a b)
variables_two (Compare op) a b = variables_layer (E.Compare op a b) (Expr-F.Compare op a b) (E.rolls-Compare op a b)
variables_two (SignedCompare op) a b =
    variables_layer (E.SignedCompare op a b) (Expr-F.SignedCompare op a b) (E.rolls-SignedCompare op a b)
variables_two Concat a b = variables_layer (E.Concat a b) (Expr-F.Concat a b) (E.rolls-Concat a b)
variables_two (Overflow op) a b =
    variables_layer (E.Overflow op a b) (Expr-F.Overflow op a b) (E.rolls-Overflow op a b)

pub times_append : (v : ℕ) (xs ys : List ℕ) → times v (xs ++ ys) ≡ times v xs + times v ys
times_append v [] ys = omega arith
times_append v (x ∷ xs) ys = let i = times_append v xs ys in omega (arith, i)

pub reads_const : (c : Word) (v : ℕ) → reads (E.Const c) v ≡ 0
unfolding reads
reads_const c v = ap (times v) (variables_const c)

pub reads_var : (x v : ℕ) → reads (E.Var x) v ≡ cond (v == x) 1 0
unfolding reads
reads_var x v = ap (times v) (variables_var x) ∙ omega arith

pub reads_one : (k : One) (a : Expr) (v : ℕ) → reads (one k a) v ≡ reads a v
unfolding reads
reads_one k a v = ap (times v) (variables_one k a)

pub reads_two : (k : Two) (a b : Expr) (v : ℕ) → reads (two k a b) v ≡ reads a v + reads b v
unfolding reads
reads_two k a b v = ap (times v) (variables_two k a b) ∙ times_append v (variables a) (variables b)

-- ---- depth

depth_layer : (e : Expr) (l : Expr-F Expr) → roll-Expr l ≡ e → depth e ≡ depth_step (map-Expr Expr ℕ depth l)
unfolding depth
depth_layer e l is = ap depth (sym is) ∙ fold-roll-Expr ℕ depth_step l

pub depth_const : (c : Word) → depth (E.Const c) ≡ 1
depth_const c = depth_layer (E.Const c) (Expr-F.Const c) (E.rolls-Const c)

pub depth_var : (x : ℕ) → depth (E.Var x) ≡ 1
depth_var x = depth_layer (E.Var x) (Expr-F.Var x) (E.rolls-Var x)

pub depth_one : (k : One) (a : Expr) → depth (one k a) ≡ depth a + 1
depth_one (Unary op) a = depth_layer (E.Unary op a) (Expr-F.Unary op a) (E.rolls-Unary op a)
depth_one (Extend op w) a = depth_layer (E.Extend op w a) (Expr-F.Extend op w a) (E.rolls-Extend op w a)
depth_one (Part dropped w) a =
    depth_layer (E.Part dropped w a) (Expr-F.Part dropped w a) (E.rolls-Part dropped w a)
depth_one (Count op) a = depth_layer (E.Count op a) (Expr-F.Count op a) (E.rolls-Count op a)

pub depth_two : (k : Two) (a b : Expr) → depth (two k a b) ≡ max (depth a) (depth b) + 1
depth_two (Arithmetic op) a b =
    depth_layer (E.Arithmetic op a b) (Expr-F.Arithmetic op a b) (E.rolls-Arithmetic op a b)
depth_two (Division op) a b = depth_layer (E.Division op a b) (Expr-F.Division op a b) (E.rolls-Division op a b)
depth_two (SignedDivision op) a b =
    depth_layer (E.SignedDivision op a b) (Expr-F.SignedDivision op a b) (E.rolls-SignedDivision op a b)
depth_two (Shift op) a b = depth_layer (E.Shift op a b) (Expr-F.Shift op a b) (E.rolls-Shift op a b)
depth_two (Compare op) a b = depth_layer (E.Compare op a b) (Expr-F.Compare op a b) (E.rolls-Compare op a b)
depth_two (SignedCompare op) a b =
    depth_layer (E.SignedCompare op a b) (Expr-F.SignedCompare op a b) (E.rolls-SignedCompare op a b)
depth_two Concat a b = depth_layer (E.Concat a b) (Expr-F.Concat a b) (E.rolls-Concat a b)
depth_two (Overflow op) a b = depth_layer (E.Overflow op a b) (Expr-F.Overflow op a b) (E.rolls-Overflow op a b)

-- ---- expressions in the place of variables

with_layer : (f : ℕ → Expr) (e : Expr) (l : Expr-F Expr)
    → roll-Expr l ≡ e
    → with_all f e ≡ with_step f (map-Expr Expr Expr (with_all f) l)
unfolding with_all
with_layer f e l is = ap (with_all f) (sym is) ∙ fold-roll-Expr Expr (with_step f) l

pub with_const : (f : ℕ → Expr) (c : Word) → with_all f (E.Const c) ≡ E.Const c
with_const f c = with_layer f (E.Const c) (Expr-F.Const c) (E.rolls-Const c)

pub with_var : (f : ℕ → Expr) (x : ℕ) → with_all f (E.Var x) ≡ f x
with_var f x = with_layer f (E.Var x) (Expr-F.Var x) (E.rolls-Var x)

pub with_one : (f : ℕ → Expr) (k : One) (a : Expr) → with_all f (one k a) ≡ one k (with_all f a)
with_one f (Unary op) a = with_layer f (E.Unary op a) (Expr-F.Unary op a) (E.rolls-Unary op a)
with_one f (Extend op w) a = with_layer f (E.Extend op w a) (Expr-F.Extend op w a) (E.rolls-Extend op w a)
with_one f (Part dropped w) a =
    with_layer f (E.Part dropped w a) (Expr-F.Part dropped w a) (E.rolls-Part dropped w a)
with_one f (Count op) a = with_layer f (E.Count op a) (Expr-F.Count op a) (E.rolls-Count op a)

pub with_two : (f : ℕ → Expr) (k : Two) (a b : Expr)
    → with_all f (two k a b) ≡ two k (with_all f a) (with_all f b)
with_two f (Arithmetic op) a b =
    with_layer f (E.Arithmetic op a b) (Expr-F.Arithmetic op a b) (E.rolls-Arithmetic op a b)
with_two f (Division op) a b = with_layer f (E.Division op a b) (Expr-F.Division op a b) (E.rolls-Division op a b)
with_two f (SignedDivision op) a b =
    with_layer f (E.SignedDivision op a b) (Expr-F.SignedDivision op a b) (E.rolls-SignedDivision op a b)
with_two f (Shift op) a b = with_layer f (E.Shift op a b) (Expr-F.Shift op a b) (E.rolls-Shift op a b)
with_two f (Compare op) a b = with_layer f (E.Compare op a b) (Expr-F.Compare op a b) (E.rolls-Compare op a b)
with_two f (SignedCompare op) a b =
    with_layer f (E.SignedCompare op a b) (Expr-F.SignedCompare op a b) (E.rolls-SignedCompare op a b)
with_two f Concat a b = with_layer f (E.Concat a b) (Expr-F.Concat a b) (E.rolls-Concat a b)
with_two f (Overflow op) a b = with_layer f (E.Overflow op a b) (Expr-F.Overflow op a b) (E.rolls-Overflow op a b)
