-- The value of an expression with expressions in the place of its variables, and what a change of the environment does
-- to a value.
use Rattle.std.proofs.Common.{◌≡◌, ◌≢◌, ℕ, ◌<◌, List, [], ◌∷◌, Option, Some, None, refl, sym, ap, ◌∙◌, subst, arith}
use Rattle.cmeaning.specs.declared.tree.Expr.{Expr}
use Rattle.cmeaning.specs.declared.tree.Expr.TheVariants as E
use Rattle.pcode_model.specs.Spaces.{put}
use Rattle.cmeaning.specs.Value.{with_value, with_values, width_of, value_of}
use Rattle.cmeaning.specs.Do.{values_of}
use Rattle.cmeaning.proofs.Value.{value_of_const, value_of_var, width_of_const, width_of_var}
use Rattle.parts.specs.Exprs.{One, Two, Env, one, two, one_width, two_width, one_value, two_value, reads, reads_all, with_all, with_each, own, seen_through, KeepsWidths, both, all_of, widths_of, AgreeOn, Below}
use Rattle.parts.proofs.Nodes.{by_parts, width_one, width_two, value_one, value_two, reads_var, reads_one, reads_two, with_const, with_var, with_one, with_two}

-- ---- what is read

-- A variable reads itself.
pub reads_self : (x : ℕ) → 0 < reads (E.Var x) x
reads_self x = let r = reads_var x x in grind (arith, r)

-- And nothing else.
pub read_is : (x y : ℕ) → 0 < reads (E.Var x) y → y ≡ x
read_is x y r = let e = reads_var x y in grind (arith, r, e)

pub var_unread : (x y : ℕ) → x ≢ y → reads (E.Var x) y ≡ 0
var_unread x y ne = let r = reads_var x y in grind (arith, r, ne)

-- What is read by an operand is read by the node.
pub in_one : (k : One) (a : Expr) (v : ℕ) → 0 < reads a v → 0 < reads (one k a) v
in_one k a v r = let P : ℕ → Type 0 = λ n. 0 < n in subst P (sym (reads_one k a v)) r

pub in_left : (k : Two) (a b : Expr) (v : ℕ) → 0 < reads a v → 0 < reads (two k a b) v
in_left k a b v r = let P : ℕ → Type 0 = λ n. 0 < n in subst P (sym (reads_two k a b v)) (omega (arith, r))

pub in_right : (k : Two) (a b : Expr) (v : ℕ) → 0 < reads b v → 0 < reads (two k a b) v
in_right k a b v r = let P : ℕ → Type 0 = λ n. 0 < n in subst P (sym (reads_two k a b v)) (omega (arith, r))

-- ---- expressions in the place of variables

module _ (ws ws' : ℕ → ℕ) (f : ℕ → Expr) where
  abbrev Keeps : Expr → Type 0
  Keeps e = KeepsWidths ws ws' f (reads e)

  -- The width stays where each variable's does.
  pub width_with : (e : Expr) → KeepsWidths ws ws' f (reads e) → width_of ws' (with_all f e) ≡ width_of ws e
  width_with e = by_parts (λ e. Keeps e → width_of ws' (with_all f e) ≡ width_of ws e)
      (λ c h. ap (width_of ws') (with_const f c) ∙ width_of_const ws' c ∙ sym (width_of_const ws c))
      (λ x h. ap (width_of ws') (with_var f x) ∙ h x (reads_self x) ∙ sym (width_of_var ws x))
      (λ k a ha h.
      ap (width_of ws') (with_one f k a)
      ∙ width_one ws' k (with_all f a)
      ∙ ap (one_width k) (ha (λ v r. h v (in_one k a v r)))
      ∙ sym (width_one ws k a))
      (λ k a b ha hb h.
      ap (width_of ws') (with_two f k a b)
      ∙ width_two ws' k (with_all f a) (with_all f b)
      ∙ ap (λ n. two_width k n (width_of ws' (with_all f b))) (ha (λ v r. h v (in_left k a b v r)))
      ∙ ap (two_width k (width_of ws a)) (hb (λ v r. h v (in_right k a b v r)))
      ∙ sym (width_two ws k a b))
      e

  -- The value is then that of the expression in the environment that f gives.
  pub value_with : (t : Env) (e : Expr)
      → KeepsWidths ws ws' f (reads e)
      → value_of ws' t (with_all f e) ≡ value_of ws (seen_through ws' f t) e
  value_with t e =
      let s = seen_through ws' f t in
      by_parts (λ e. Keeps e → value_of ws' t (with_all f e) ≡ value_of ws s e)
      (λ c h. ap (value_of ws' t) (with_const f c) ∙ value_of_const ws' t c ∙ sym (value_of_const ws s c))
      (λ x h. ap (value_of ws' t) (with_var f x) ∙ sym (value_of_var ws s x))
      (λ k a ha h.
      let ka : Keeps a = λ v r. h v (in_one k a v r) in
      ap (value_of ws' t) (with_one f k a)
      ∙ value_one ws' t k (with_all f a)
      ∙ ap (λ n. with_value (value_of ws' t (with_all f a)) (one_value k n)) (width_with a ka)
      ∙ ap (λ o. with_value o (one_value k (width_of ws a))) (ha ka)
      ∙ sym (value_one ws s k a))
      (λ k a b ha hb h.
      let ka : Keeps a = λ v r. h v (in_left k a b v r) in
      let kb : Keeps b = λ v r. h v (in_right k a b v r) in
      let x = value_of ws' t (with_all f a) in
      let y = value_of ws' t (with_all f b) in
      ap (value_of ws' t) (with_two f k a b)
      ∙ value_two ws' t k (with_all f a) (with_all f b)
      ∙ ap (λ n. with_values x y (two_value k n (width_of ws' (with_all f b)))) (width_with a ka)
      ∙ ap (λ n. with_values x y (two_value k (width_of ws a) n)) (width_with b kb)
      ∙ ap (λ o. with_values o y (two_value k (width_of ws a) (width_of ws b))) (ha ka)
      ∙ ap (λ o. with_values (value_of ws s a) o (two_value k (width_of ws a) (width_of ws b))) (hb kb)
      ∙ sym (value_two ws s k a b))
      e

  -- The same of several.
  pub values_with : (t : Env) (es : List Expr)
      → KeepsWidths ws ws' f (reads_all es)
      → all_of (values_of ws' t (with_each f es)) ≡ all_of (values_of ws (seen_through ws' f t) es)
  values_with t [] h = refl
  values_with t (e ∷ es) h =
      ap (λ o. both o (all_of (values_of ws' t (with_each f es)))) (value_with t e (λ v r. h v (omega (arith, r))))
      ∙ ap (both (value_of ws (seen_through ws' f t) e)) (values_with t es (λ v r. h v (omega (arith, r))))

  pub widths_with : (es : List Expr)
      → KeepsWidths ws ws' f (reads_all es)
      → widths_of ws' (with_each f es) ≡ widths_of ws es
  widths_with [] h = refl
  widths_with (e ∷ es) h =
      ap (λ n. n ∷ widths_of ws' (with_each f es)) (width_with e (λ v r. h v (omega (arith, r))))
      ∙ ap (λ ns. width_of ws e ∷ ns) (widths_with es (λ v r. h v (omega (arith, r))))

module _ (f : ℕ → Expr) where
  -- Where f puts each variable that is read in its own place nothing changes.
  pub with_own : (e : Expr) → ((v : ℕ) → 0 < reads e v → f v ≡ E.Var v) → with_all f e ≡ e
  with_own e = by_parts (λ e. ((v : ℕ) → 0 < reads e v → f v ≡ E.Var v) → with_all f e ≡ e)
      (λ c h. with_const f c)
      (λ x h. with_var f x ∙ h x (reads_self x))
      (λ k a ha h. with_one f k a ∙ ap (one k) (ha (λ v r. h v (in_one k a v r))))
      (λ k a b ha hb h.
      with_two f k a b
      ∙ ap (λ z. two k z (with_all f b)) (ha (λ v r. h v (in_left k a b v r)))
      ∙ ap (two k a) (hb (λ v r. h v (in_right k a b v r))))
      e

  pub with_each_own : (es : List Expr) → ((v : ℕ) → 0 < reads_all es v → f v ≡ E.Var v) → with_each f es ≡ es
  with_each_own [] h = refl
  with_each_own (e ∷ es) h =
      ap (λ z. z ∷ with_each f es) (with_own e (λ v r. h v (omega (arith, r))))
      ∙ ap (λ zs. e ∷ zs) (with_each_own es (λ v r. h v (omega (arith, r))))

pub with_itself : (e : Expr) → with_all own e ≡ e
with_itself e = with_own own e (λ v r. refl)

pub with_each_itself : (es : List Expr) → with_each own es ≡ es
with_each_itself es = with_each_own own es (λ v r. refl)

-- ---- another environment

pub value_some : (o : Option ℕ) (g : ℕ → Option ℕ) (n : ℕ)
    → with_value o g ≡ Some n
    → (x : ℕ) × (o ≡ Some x) × (g x ≡ Some n)
value_some None g n h = absurd (cc)
value_some (Some x) g n h = (x, refl, h)

pub both_some : (o : Option ℕ) (os : Option (List ℕ)) (ns : List ℕ)
    → both o os ≡ Some ns
    → (x : ℕ) × (xs : List ℕ) × (o ≡ Some x) × (os ≡ Some xs)
both_some None os ns h = absurd (cc)
both_some (Some x) None ns h = absurd (cc)
both_some (Some x) (Some xs) ns h = (x, xs, refl, refl)

module _ (ws : ℕ → ℕ) (s t : Env) where
  -- Where t has the same word for each variable that is read and has one in s, a value in s is one in t.
  pub value_agree : (e : Expr) → AgreeOn (reads e) s t → (n : ℕ) → value_of ws s e ≡ Some n → value_of ws t e ≡ Some n
  value_agree e =
      by_parts (λ e. AgreeOn (reads e) s t → (n : ℕ) → value_of ws s e ≡ Some n → value_of ws t e ≡ Some n)
      (λ c h n is. value_of_const ws t c ∙ sym (value_of_const ws s c) ∙ is)
      (λ x h n is. value_of_var ws t x ∙ h x (reads_self x) n (sym (value_of_var ws s x) ∙ is))
      (λ k a ha h n is.
      let g = one_value k (width_of ws a) in
      let p = value_some (value_of ws s a) g n (sym (value_one ws s k a) ∙ is) in
      value_one ws t k a ∙ ap (λ o. with_value o g) (ha (λ v r. h v (in_one k a v r)) p.0 p.1) ∙ p.2)
      (λ k a b ha hb h n is.
      let g = two_value k (width_of ws a) (width_of ws b) in
      let p = value_some (value_of ws s a) (λ x. with_value (value_of ws s b) (g x)) n
      (sym (value_two ws s k a b) ∙ is) in
      let q = value_some (value_of ws s b) (g p.0) n p.2 in
      value_two ws t k a b
      ∙ ap (λ o. with_values o (value_of ws t b) g) (ha (λ v r. h v (in_left k a b v r)) p.0 p.1)
      ∙ ap (λ o. with_value o (g p.0)) (hb (λ v r. h v (in_right k a b v r)) q.0 q.1)
      ∙ q.2)
      e

  pub values_agree : (es : List Expr)
      → AgreeOn (reads_all es) s t
      → Below (all_of (values_of ws s es)) (all_of (values_of ws t es))
  values_agree [] h ns is = is
  values_agree (x ∷ xs) h ns is =
      let p = both_some (value_of ws s x) (all_of (values_of ws s xs)) ns is in
      ap (λ o. both o (all_of (values_of ws t xs)))
      (value_agree x (λ v r. h v (omega (arith, r))) p.0 p.2 ∙ sym p.2)
      ∙ ap (both (value_of ws s x)) (values_agree xs (λ v r. h v (omega (arith, r))) p.1 p.3 ∙ sym p.3)
      ∙ is

  -- A variable that isn't read doesn't matter.
  pub value_unread : (e : Expr) → ((v : ℕ) → 0 < reads e v → s v ≡ t v) → value_of ws s e ≡ value_of ws t e
  value_unread e = by_parts (λ e. ((v : ℕ) → 0 < reads e v → s v ≡ t v) → value_of ws s e ≡ value_of ws t e)
      (λ c h. value_of_const ws s c ∙ sym (value_of_const ws t c))
      (λ x h. value_of_var ws s x ∙ h x (reads_self x) ∙ sym (value_of_var ws t x))
      (λ k a ha h.
      value_one ws s k a
      ∙ ap (λ o. with_value o (one_value k (width_of ws a))) (ha (λ v r. h v (in_one k a v r)))
      ∙ sym (value_one ws t k a))
      (λ k a b ha hb h.
      let g = two_value k (width_of ws a) (width_of ws b) in
      value_two ws s k a b
      ∙ ap (λ o. with_values o (value_of ws s b) g) (ha (λ v r. h v (in_left k a b v r)))
      ∙ ap (λ o. with_values (value_of ws t a) o g) (hb (λ v r. h v (in_right k a b v r)))
      ∙ sym (value_two ws t k a b))
      e

pub put_same : {A : Type 0} (s : ℕ → A) (x : ℕ) (n : A) → put s x n x ≡ n
put_same s x n = grind arith

pub put_other : {A : Type 0} (s : ℕ → A) (x : ℕ) (n : A) (v : ℕ) → v ≢ x → put s x n v ≡ s v
put_other s x n v ne = grind (arith, ne)

unread_ne : (e : Expr) (y v : ℕ) → reads e y ≡ 0 → 0 < reads e v → v ≢ y
unread_ne e y v h r = λ eq. let P : ℕ → Type 0 = λ z. 0 < reads e z in let q = subst P eq r in omega (arith, h, q)

-- Nor does what it is given.
pub value_put : (ws : ℕ → ℕ) (s : Env) (y : ℕ) (o : Option ℕ) (e : Expr)
    → reads e y ≡ 0
    → value_of ws (put s y o) e ≡ value_of ws s e
value_put ws s y o e h = value_unread ws (put s y o) s e (λ v r. put_other s y o v (unread_ne e y v h r))
