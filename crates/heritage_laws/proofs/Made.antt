-- What the ops of an expression compute, and what its table must have.
use Rattle.std.proofs.Common.{◌≡◌, ℕ, zero, suc, ◌+◌, ◌<◌, List, [], ◌∷◌, ◌++◌, ◌⊎◌, inl, inr, map, Some, refl, sym, ap, ◌∙◌, subst, arith}
use Rattle.pcode_model.specs.declared.listing.Listing.{Listing}
use Rattle.cmeaning.specs.declared.tree.Expr.{Expr}
use Rattle.cmeaning.specs.declared.tree.Expr.TheVariants as E
use Rattle.cmeaning.specs.declared.tree.Stmt.TheVariants as S
use Rattle.cmeaning.specs.Value.{with_value, width_of, value_of}
use Rattle.cmeaning.specs.Do.{values_of}
use Rattle.cmeaning.proofs.Value.{value_of_var, value_of_const, width_of_var}
use Rattle.parts.specs.Exprs.{Env, One, Two, one, two, one_value, two_value, reads, reads_all, both, all_of, widths_of, Below}
use Rattle.parts.proofs.Nodes.{value_one, value_two, reads_const, reads_one, reads_two}
use Rattle.parts.proofs.Values.{read_is, in_one, value_some, both_some}
use Rattle.parts.proofs.Values as parts
use Rattle.node_lists.specs.Chains.{IsIn}
use Rattle.node_lists.proofs.Chains.{in_left, in_right}
use Rattle.opgraph.specs.Graph.{Graph, op_at}
use Rattle.ssa_model.specs.Outline.{width_at}
use Rattle.ssa_model.specs.Lines.{line_of}
use Rattle.ssa_laws.proofs.Runs.{append_append}
use Rattle.heritage_laws.proofs.Strict.{said}
use Rattle.heritage_laws.specs.Certificate.{Table, IsMade, Makes, Reads, OfConst, OfOne, OfTwo, MakesAll, NoMore, Next}

-- ---- which ops are made

pub made_in : (i : ℕ) (before made ops : List ℕ) → IsMade i before made ops → IsIn i (before ++ ops)
made_in i before made ops (inl e) =
    subst (λ zs. IsIn i (before ++ zs)) (sym e) (in_right i before (made ++ i ∷ []) (in_right i made (i ∷ []) (inl refl)))
made_in i before made ops (inr h) = subst (λ zs. IsIn i (before ++ zs)) (sym h.0) h.1

made_more : (i : ℕ) (before made ops : List ℕ)
    → IsMade i before made ops
    → (j : ℕ)
    → IsIn j (before ++ made)
    → IsIn j (before ++ ops)
made_more i before made ops (inl e) j m =
    subst (λ zs. IsIn j (before ++ zs)) (sym e)
    (subst (IsIn j) (append_append before made (i ∷ [])) (in_left j (before ++ made) (i ∷ []) m))
made_more i before made ops (inr h) j m = subst (λ zs. IsIn j (before ++ zs)) (sym h.0) m

-- the variable has a value
abbrev pub Has : Table → ℕ → Type 0
Has t x = (u : ℕ) × (t x ≡ Some u)

either_reads : (m n : ℕ) → 0 < m + n → (0 < m) ⊎ (0 < n)
either_reads zero n h = inr (omega (arith, h))
either_reads (suc m) n h = inl (omega arith)

module _ (l : Listing) (g : Graph) (ws : ℕ → ℕ) where
  abbrev ws' : ℕ → ℕ
  ws' = width_at (op_at g)

  -- ---- widths

  pub made_width : (t : Table) (before : List ℕ) (e : Expr) (ops : List ℕ) (v : ℕ)
      → Makes l g ws t before e ops v
      → ws' v ≡ width_of ws e
  made_width t before e ops v (Reads b x w is width) = width ∙ sym (width_of_var ws x)
  made_width t before e ops v (OfConst b o c i says width how) = width
  made_width t before e ops v (OfOne b m o k a x i makes says width how) = width
  made_width t before e ops v (OfTwo b m n o k a c x y i first second says width how) = width

  pub all_widths : (t : Table) (before : List ℕ) (es : List Expr) (ops vs : List ℕ)
      → MakesAll l g ws t before es ops vs
      → widths_of ws' (map E.Var vs) ≡ widths_of ws es
  all_widths t before es ops vs (NoMore b) = refl
  all_widths t before es ops vs (Next b m o e rest v us makes next) =
      ap (λ n. n ∷ widths_of ws' (map E.Var us)) (width_of_var ws' v ∙ made_width t b e m v makes)
      ∙ ap (λ ns. width_of ws e ∷ ns) (all_widths t (b ++ m) rest o us next)

  -- ---- values

  -- what assigns has the value of what it assigns
  abbrev pub IsComputed : Env → ℕ → Type 0
  IsComputed y i =
      (u : Expr)
      → line_of l i (op_at g i) ≡ S.Assign i u ∷ []
      → (n : ℕ) × (y i ≡ Some n) × (value_of ws' y u ≡ Some n)

  abbrev pub AreComputed : Env → List ℕ → Type 0
  AreComputed y place = (i : ℕ) → IsIn i place → IsComputed y i

  -- the values of the table have what the variables have that are read
  abbrev pub Fits : (ℕ → ℕ) → Table → Env → Env → Type 0
  Fits count t s y = (x u : ℕ) → 0 < count x → t x ≡ Some u → (n : ℕ) → s x ≡ Some n → y u ≡ Some n

  module _ (s y : Env) where
    pub one_operand : (k : One) (a : Expr) (n : ℕ)
        → value_of ws s (one k a) ≡ Some n
        → (m : ℕ) × (value_of ws s a ≡ Some m)
    one_operand k a n h =
        let q = value_some (value_of ws s a) (one_value k (width_of ws a)) n (sym (value_one ws s k a) ∙ h) in (q.0, q.1)

    pub two_operands : (k : Two) (a b : Expr) (n : ℕ)
        → value_of ws s (two k a b) ≡ Some n
        → ((m : ℕ) × (value_of ws s a ≡ Some m)) × ((m : ℕ) × (value_of ws s b ≡ Some m))
    two_operands k a b n h =
        let f = two_value k (width_of ws a) (width_of ws b) in
        let q = value_some (value_of ws s a) (λ m. with_value (value_of ws s b) (f m)) n (sym (value_two ws s k a b) ∙ h) in
        let r = value_some (value_of ws s b) (f q.0) n q.2 in ((q.0, q.1), (r.0, r.1))

    -- A node over the values of its operands has the node's value.
    pub node_one : (k : One) (a : Expr) (x n : ℕ)
        → ws' x ≡ width_of ws a
        → ((m : ℕ) → value_of ws s a ≡ Some m → y x ≡ Some m)
        → value_of ws s (one k a) ≡ Some n
        → value_of ws' y (one k (E.Var x)) ≡ Some n
    node_one k a x n width same h =
        let q = value_some (value_of ws s a) (one_value k (width_of ws a)) n (sym (value_one ws s k a) ∙ h) in
        value_one ws' y k (E.Var x)
        ∙ ap (λ o. with_value o (one_value k (width_of ws' (E.Var x)))) (value_of_var ws' y x ∙ same q.0 q.1)
        ∙ ap (λ w. one_value k w q.0) (width_of_var ws' x ∙ width)
        ∙ q.2

    pub node_two : (k : Two) (a b : Expr) (x z n : ℕ)
        → ws' x ≡ width_of ws a
        → ws' z ≡ width_of ws b
        → ((m : ℕ) → value_of ws s a ≡ Some m → y x ≡ Some m)
        → ((m : ℕ) → value_of ws s b ≡ Some m → y z ≡ Some m)
        → value_of ws s (two k a b) ≡ Some n
        → value_of ws' y (two k (E.Var x) (E.Var z)) ≡ Some n
    node_two k a b x z n width width' same same' h =
        let f = two_value k (width_of ws a) (width_of ws b) in
        let q = value_some (value_of ws s a) (λ m. with_value (value_of ws s b) (f m)) n (sym (value_two ws s k a b) ∙ h) in
        let r = value_some (value_of ws s b) (f q.0) n q.2 in
        let here = two_value k (width_of ws' (E.Var x)) (width_of ws' (E.Var z)) in
        value_two ws' y k (E.Var x) (E.Var z)
        ∙ ap (λ o. with_value o (λ m. with_value (value_of ws' y (E.Var z)) (here m))) (value_of_var ws' y x ∙ same q.0 q.1)
        ∙ ap (λ o. with_value o (here q.0)) (value_of_var ws' y z ∙ same' r.0 r.1)
        ∙ ap (λ w. two_value k w (width_of ws' (E.Var z)) q.0 r.0) (width_of_var ws' x ∙ width)
        ∙ ap (λ w. two_value k (width_of ws a) w q.0 r.0) (width_of_var ws' z ∙ width')
        ∙ r.2

    -- The value that is made has the expression's value.
    pub made_value : (t : Table) (before : List ℕ) (e : Expr) (ops : List ℕ) (v : ℕ)
        → Makes l g ws t before e ops v
        → Fits (reads e) t s y
        → AreComputed y (before ++ ops)
        → (n : ℕ)
        → value_of ws s e ≡ Some n
        → y v ≡ Some n
    made_value t before e ops v (Reads b x w is width) fits computed n h =
        fits x w (parts.reads_self x) is n (sym (value_of_var ws s x) ∙ h)
    made_value t before e ops v (OfConst b o c i says width how) fits computed n h =
        let q = computed i (made_in i b [] o how) (E.Const c) (said says) in
        q.1 ∙ sym q.2 ∙ value_of_const ws' y c ∙ sym (value_of_const ws s c) ∙ h
    made_value t before e ops v (OfOne b m o k a x i makes says width how) fits computed n h =
        let q = computed i (made_in i b m o how) (one k (E.Var x)) (said says) in
        q.1
        ∙ sym q.2
        ∙ node_one k a x n (made_width t b a m x makes)
        (made_value t b a m x makes (λ w u r. fits w u (in_one k a w r)) (λ j q. computed j (made_more i b m o how j q))) h
    made_value t before e ops v (OfTwo b m r o k a c x z i first second says width how) fits computed n h =
        let q = computed i (made_in i b (m ++ r) o how) (two k (E.Var x) (E.Var z)) (said says) in
        q.1
        ∙ sym q.2
        ∙ node_two k a c x z n (made_width t b a m x first) (made_width t (b ++ m) c r z second)
        (made_value t b a m x first (λ w u d. fits w u (parts.in_left k a c w d))
        (λ j d. computed j (made_more i b (m ++ r) o how j
        (subst (IsIn j) (append_append b m r) (in_left j (b ++ m) r d)))))
        (made_value t (b ++ m) c r z second (λ w u d. fits w u (parts.in_right k a c w d))
        (λ j d. computed j (made_more i b (m ++ r) o how j (subst (IsIn j) (append_append b m r) d))))
        h

    pub all_values : (t : Table) (before : List ℕ) (es : List Expr) (ops vs : List ℕ)
        → MakesAll l g ws t before es ops vs
        → Fits (reads_all es) t s y
        → AreComputed y (before ++ ops)
        → Below (all_of (values_of ws s es)) (all_of (values_of ws' y (map E.Var vs)))
    all_values t before es ops vs (NoMore b) fits computed ns h = h
    all_values t before es ops vs (Next b m o e rest v us makes next) fits computed ns h =
        let q = both_some (value_of ws s e) (all_of (values_of ws s rest)) ns h in
        ap (λ z. both z (all_of (values_of ws' y (map E.Var us))))
        (value_of_var ws' y v
        ∙ made_value t b e m v makes (λ w u r. fits w u (omega (arith, r)))
        (λ j d. computed j (subst (IsIn j) (append_append b m o) (in_left j (b ++ m) o d))) q.0 q.2
        ∙ sym q.2)
        ∙ ap (both (value_of ws s e))
        (all_values t (b ++ m) rest o us next (λ w u r. fits w u (omega (arith, r)))
        (λ j d. computed j (subst (IsIn j) (append_append b m o) d)) q.1 q.3
        ∙ sym q.3)
        ∙ h

  -- ---- what is read

  -- The table has each variable that is read.
  pub made_reads : (t : Table) (before : List ℕ) (e : Expr) (ops : List ℕ) (v : ℕ)
      → Makes l g ws t before e ops v
      → (x : ℕ)
      → 0 < reads e x
      → Has t x
  made_reads t before e ops v (Reads b z w is width) x r = (w, ap t (read_is z x r) ∙ is)
  made_reads t before e ops v (OfConst b o c i says width how) x r =
      absurd (let q = reads_const c x in omega (arith, q, r))
  made_reads t before e ops v (OfOne b m o k a z i makes says width how) x r =
      made_reads t b a m z makes x (let q = reads_one k a x in omega (arith, q, r))
  made_reads t before e ops v (OfTwo b m n o k a c y z i first second says width how) x r =
      by_case (either_reads (reads a x) (reads c x) (let q = reads_two k a c x in omega (arith, q, r)))
      (made_reads t b a m y first x) (made_reads t (b ++ m) c n z second x)
    where
      by_case : (0 < reads a x) ⊎ (0 < reads c x) → (0 < reads a x → Has t x) → (0 < reads c x → Has t x) → Has t x
      by_case (inl h) f f' = f h
      by_case (inr h) f f' = f' h

  pub all_reads : (t : Table) (before : List ℕ) (es : List Expr) (ops vs : List ℕ)
      → MakesAll l g ws t before es ops vs
      → (x : ℕ)
      → 0 < reads_all es x
      → Has t x
  all_reads t before es ops vs (NoMore b) x r = absurd (omega (arith, r))
  all_reads t before es ops vs (Next b m o e rest v us makes next) x r =
      by_case (either_reads (reads e x) (reads_all rest x) r) (made_reads t b e m v makes x)
      (all_reads t (b ++ m) rest o us next x)
    where
      by_case : (0 < reads e x) ⊎ (0 < reads_all rest x)
          → (0 < reads e x → Has t x)
          → (0 < reads_all rest x → Has t x)
          → Has t x
      by_case (inl h) f f' = f h
      by_case (inr h) f f' = f' h
