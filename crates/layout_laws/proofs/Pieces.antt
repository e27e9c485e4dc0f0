-- The flat code of statements one after another.
use Rattle.std.proofs.Common.{◌≡◌, ℕ, zero, suc, ◌+◌, Bool, List, [], ◌∷◌, ◌++◌, length, drop, refl, sym, ap, ◌∙◌, Option, arith, append_assoc, length-append}
use Rattle.cmeaning.specs.declared.tree.Expr.{Expr}
use Rattle.cmeaning.specs.declared.tree.Stmt.{Stmt}
use Rattle.cmeaning.specs.declared.tree.Stmt.TheVariants as S
use Rattle.cmeaning.specs.Flat.{Flat, Do, Test, Jump, spans, all_labels, all_steps, piece_of, pieces_of}
use Rattle.blockcode.specs.declared.code.Exit.{Exit}
use Rattle.blockcode.specs.CanLay.{AreSimple}
use Rattle.cmeaning.proofs.Flat.{piece_of_if, piece_of_goto, piece_of_label, piece_of_return}

-- by whether callees return: how many steps, the labels from a position on, and the steps
abbrev pub span_of : (ℕ → Bool) → List Stmt → ℕ
span_of returns ss = spans (pieces_of returns ss)

abbrev pub labels_in : (ℕ → Bool) → List Stmt → ℕ → List (ℕ × ℕ)
labels_in returns ss p = all_labels (pieces_of returns ss) p

abbrev pub steps_of : (ℕ → Bool) → (ℕ → ℕ) → ℕ → List Stmt → ℕ → List Flat
steps_of returns place out ss p = all_steps (pieces_of returns ss) place out p

module _ (returns : ℕ → Bool) where
  pub span_append : (xs ys : List Stmt) → span_of returns (xs ++ ys) ≡ span_of returns xs + span_of returns ys
  span_append [] ys = omega arith
  span_append (x ∷ xs) ys = omega (arith, span_append xs ys)

  pub steps_append : (place : ℕ → ℕ) (out : ℕ) (xs ys : List Stmt) (p : ℕ)
      → steps_of returns place out (xs ++ ys) p ≡ steps_of returns place out xs p
      ++ steps_of returns place out ys (p + span_of returns xs)
  steps_append place out [] ys p = ap (steps_of returns place out ys) (let e : p ≡ p + 0 = omega arith in e)
  steps_append place out (x ∷ xs) ys p =
      let a = piece_of returns x in
      let e : p + a.span + span_of returns xs ≡ p + (a.span + span_of returns xs) = omega arith in
      ap (λ l. a.steps place out p ++ l)
      (steps_append place out xs ys (p + a.span)
      ∙ ap (λ q. steps_of returns place out xs (p + a.span) ++ steps_of returns place out ys q) e)
      ∙ sym (append_assoc (a.steps place out p) (steps_of returns place out xs (p + a.span))
      (steps_of returns place out ys (p + (a.span + span_of returns xs))))

  pub labels_append : (xs ys : List Stmt) (p : ℕ)
      → labels_in returns (xs ++ ys) p ≡ labels_in returns xs p ++ labels_in returns ys (p + span_of returns xs)
  labels_append [] ys p = ap (labels_in returns ys) (let e : p ≡ p + 0 = omega arith in e)
  labels_append (x ∷ xs) ys p =
      let a = piece_of returns x in
      let e : p + a.span + span_of returns xs ≡ p + (a.span + span_of returns xs) = omega arith in
      ap (λ l. a.labels p ++ l) (labels_append xs ys (p + a.span)
      ∙ ap (λ q. labels_in returns xs (p + a.span) ++ labels_in returns ys q) e)
      ∙ sym (append_assoc (a.labels p) (labels_in returns xs (p + a.span))
      (labels_in returns ys (p + (a.span + span_of returns xs))))

  pub goto_single : (n : ℕ) (s : Stmt)
      → s ≡ S.Goto n
      → (place : ℕ → ℕ) (out p : ℕ)
      → (piece_of returns s).steps place out p ≡ Jump (place n) ∷ []
  goto_single n s e place out p = ap (λ x. (piece_of returns x).steps place out p) e
      ∙ ap (λ a. a.steps place out p) (piece_of_goto returns n)

  pub simple_span : (ss : List Stmt) (e : Exit) → AreSimple returns ss e → span_of returns ss ≡ length ss
  simple_span [] e h = refl
  simple_span (s ∷ ss) e h = let one : (piece_of returns s).span ≡ 1 = ap (λ a. a.span) (h.0.0).piece in
      omega (arith, one, simple_span ss e h.1)

  pub simple_labels : (ss : List Stmt) (e : Exit) (p : ℕ) → AreSimple returns ss e → labels_in returns ss p ≡ []
  simple_labels [] e p h = refl
  simple_labels (s ∷ ss) e p h =
      ap (λ l. l ++ labels_in returns ss (p + (piece_of returns s).span)) (ap (λ a. a.labels p) (h.0.0).piece)
      ∙ simple_labels ss e (p + (piece_of returns s).span) h.1

  -- as many steps as the span says, and no labels
  pub record IsMeasured (ss : List Stmt) : Type 0 where
    pub steps : (place : ℕ → ℕ) (out p : ℕ) → length (steps_of returns place out ss p) ≡ span_of returns ss

  pub simple_measured : (ss : List Stmt) (e : Exit) → AreSimple returns ss e → IsMeasured ss
  simple_measured [] e h = record { steps = λ place out p. refl }
  simple_measured (s ∷ ss) x h =
      let e : (piece_of returns s).span ≡ 1 = ap (λ a. a.span) (h.0.0).piece in
      let rest = simple_measured ss x h.1 in
      record {
        steps = λ place out p.
            let f : (piece_of returns s).steps place out p ≡ Do s ∷ [] = ap (λ a. a.steps place out p) (h.0.0).piece in
            ap (λ l. length (l ++ steps_of returns place out ss (p + (piece_of returns s).span))) f
            ∙ (let g : suc (length (steps_of returns place out ss (p + (piece_of returns s).span)))
            ≡ suc (span_of returns ss) = ap suc (rest.steps place out (p + (piece_of returns s).span)) in
            omega (arith, e, g));
      }

  pub measured_append : (xs ys : List Stmt) → IsMeasured xs → IsMeasured ys → IsMeasured (xs ++ ys)
  measured_append xs ys a b = record {
    steps = λ place out p.
        ap length (steps_append place out xs ys p)
        ∙ length-append (steps_of returns place out xs p) (steps_of returns place out ys (p + span_of returns xs))
        ∙ omega (arith, a.steps place out p, b.steps place out (p + span_of returns xs), span_append xs ys);
  }

pub drop_past : {A : Type 0} (xs ys : List A) (n m : ℕ) → length xs ≡ n → drop (n + m) (xs ++ ys) ≡ drop m ys
drop_past [] ys n m e = ap (λ k. drop k ys) (let f : n + m ≡ m = omega (arith, e) in f)
drop_past (x ∷ xs) ys zero m e = absurd (omega (arith, e))
drop_past (x ∷ xs) ys (suc n) m e =
    ap (λ k. drop k (x ∷ xs ++ ys)) (let f : suc n + m ≡ suc (n + m) = omega arith in f)
    ∙ drop_past xs ys n m (omega (arith, e))

-- ---- lines of blocks

module _ (returns : ℕ → Bool) where
  pub measured_goto : (n : ℕ) → IsMeasured returns (S.Goto n ∷ [])
  measured_goto n = record {
    steps =
        λ place out p. ap (λ a. length (a.steps place out p ++ [])) (piece_of_goto returns n)
        ∙ sym (ap (λ a. a.span + 0) (piece_of_goto returns n));
  }

  pub measured_return : (e : Option Expr) → IsMeasured returns (S.Return e ∷ [])
  measured_return e = record {
    steps =
        λ place out p. ap (λ a. length (a.steps place out p ++ [])) (piece_of_return returns e)
        ∙ sym (ap (λ a. a.span + 0) (piece_of_return returns e));
  }

  pub measured_label : (n : ℕ) → IsMeasured returns (S.Label n ∷ [])
  measured_label n = record {
    steps =
        λ place out p. ap (λ a. length (a.steps place out p ++ [])) (piece_of_label returns n)
        ∙ sym (ap (λ a. a.span + 0) (piece_of_label returns n));
  }

  pub measured_if : (c : Expr) (ss : List Stmt) → IsMeasured returns ss → IsMeasured returns (S.If c ss ∷ [])
  measured_if c ss m = record {
    steps = λ place out p.
        ap (λ a. length (a.steps place out p ++ [])) (piece_of_if returns c ss)
        ∙ length-append (Test c (suc p) (suc p + span_of returns ss) ∷ steps_of returns place out ss (suc p)) []
        ∙ (let e : length (steps_of returns place out ss (suc p)) ≡ span_of returns ss = m.steps place out (suc p) in
        let f : (piece_of returns (S.If c ss)).span ≡ suc (span_of returns ss) =
        ap (λ a. a.span) (piece_of_if returns c ss) in omega (arith, e, f));
  }

  pub label_none : (n p : ℕ) → labels_in returns (S.Goto n ∷ []) p ≡ []
  label_none n p = ap (λ a. a.labels p ++ []) (piece_of_goto returns n)
