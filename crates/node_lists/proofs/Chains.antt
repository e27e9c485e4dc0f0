-- Facts on lists of numbers and the links along them.
use Rattle.std.proofs.Common.{◌≡◌, ℕ, Bool, true, false, eqb, List, [], ◌∷◌, ◌++◌, length, ◌⊎◌, inl, inr, Option, Some, None, refl, sym, ap, ◌∙◌, subst, cond, arith, true≢false}
use Rattle.std.proofs.lemmas.Bool.{eq-eqb}
use Rattle.node_lists.specs.Chains.{IsIn, Apart, removed, head_or, last_or, Chain, follow, same_key, put_at, put_key}

-- tests

pub eqb_is : (a b : ℕ) → eqb a b ≡ true → a ≡ b
eqb_is a b e = grind arith

pub eqb_not : (a b : ℕ) → (a ≡ b → ⊥) → eqb a b ≡ false
eqb_not a b n = by_test (eqb a b) refl
  where
    by_test : (t : Bool) → eqb a b ≡ t → t ≡ false
    by_test true e = absurd (n (eqb_is a b e))
    by_test false e = refl

pub same_key_is : (a b : Option ℕ) → same_key a b ≡ true → a ≡ b
same_key_is None None e = refl
same_key_is None (Some b) e = absurd (true≢false (sym e))
same_key_is (Some a) None e = absurd (true≢false (sym e))
same_key_is (Some a) (Some b) e = ap Some (eqb_is a b e)

pub same_key_refl : (a : Option ℕ) → same_key a a ≡ true
same_key_refl None = refl
same_key_refl (Some a) = eq-eqb a a refl

pub same_key_not : (a b : Option ℕ) → (a ≡ b → ⊥) → same_key a b ≡ false
same_key_not a b n = by_test (same_key a b) refl
  where
    by_test : (t : Bool) → same_key a b ≡ t → t ≡ false
    by_test true e = absurd (n (same_key_is a b e))
    by_test false e = refl

pub cases_key : (a b : Option ℕ) → (a ≡ b) ⊎ (a ≡ b → ⊥)
cases_key a b = by_test (same_key a b) refl
  where
    by_test : (t : Bool) → same_key a b ≡ t → (a ≡ b) ⊎ (a ≡ b → ⊥)
    by_test true e = inl (same_key_is a b e)
    by_test false e = inr (λ f. true≢false (sym (same_key_refl a) ∙ ap (same_key a) f ∙ e))

module _ {X : Type 0} (x : X) where
  pub put_here : (b : Option ℕ) (f : ℕ → X) (i : ℕ) → b ≡ Some i → put_at b x f i ≡ x
  put_here b f i e = ap (λ t. cond t x (f i)) (ap (λ c. same_key c (Some i)) e ∙ same_key_refl (Some i))

  pub put_away : (b : Option ℕ) (f : ℕ → X) (i : ℕ) → (b ≡ Some i → ⊥) → put_at b x f i ≡ f i
  put_away b f i n = ap (λ t. cond t x (f i)) (same_key_not b (Some i) n)

  pub key_here : (k : Option ℕ) (f : Option ℕ → X) (j : Option ℕ) → k ≡ j → put_key k x f j ≡ x
  key_here k f j e = ap (λ t. cond t x (f j)) (ap (λ c. same_key c j) e ∙ same_key_refl j)

  pub key_away : (k : Option ℕ) (f : Option ℕ → X) (j : Option ℕ) → (k ≡ j → ⊥) → put_key k x f j ≡ f j
  key_away k f j n = ap (λ t. cond t x (f j)) (same_key_not k j n)

-- membership

pub in_left : (i : ℕ) (xs ys : List ℕ) → IsIn i xs → IsIn i (xs ++ ys)
in_left i [] ys m = absurd m
in_left i (x ∷ xs) ys (inl e) = inl e
in_left i (x ∷ xs) ys (inr m) = inr (in_left i xs ys m)

pub in_right : (i : ℕ) (xs ys : List ℕ) → IsIn i ys → IsIn i (xs ++ ys)
in_right i [] ys m = m
in_right i (x ∷ xs) ys m = inr (in_right i xs ys m)

pub in_either : (i : ℕ) (xs ys : List ℕ) → IsIn i (xs ++ ys) → IsIn i xs ⊎ IsIn i ys
in_either i [] ys m = inr m
in_either i (x ∷ xs) ys (inl e) = inl (inl e)
in_either i (x ∷ xs) ys (inr m) = elim (in_either i xs ys m) [ inl a ↦ inl (inr a) | inr b ↦ inr b ]

-- apartness

pub apart_left : (xs ys : List ℕ) → Apart (xs ++ ys) → Apart xs
apart_left [] ys d = tt
apart_left (x ∷ xs) ys d = ((λ m. d.0 (in_left x xs ys m)), apart_left xs ys d.1)

pub apart_right : (xs ys : List ℕ) → Apart (xs ++ ys) → Apart ys
apart_right [] ys d = d
apart_right (x ∷ xs) ys d = apart_right xs ys d.1

pub apart_sides : (xs ys : List ℕ) (i : ℕ) → Apart (xs ++ ys) → IsIn i xs → IsIn i ys → ⊥
apart_sides [] ys i d m k = m
apart_sides (x ∷ xs) ys i d (inl e) k = d.0 (in_right x xs ys (subst (λ v. IsIn v ys) e k))
apart_sides (x ∷ xs) ys i d (inr m) k = apart_sides xs ys i d.1 m k

pub apart_with : (x : ℕ) (xs ys : List ℕ) → (IsIn x (xs ++ ys) → ⊥) → Apart (xs ++ ys) → Apart (xs ++ x ∷ ys)
apart_with x [] ys n d = (n, d)
apart_with x (y ∷ xs) ys n d = (far, apart_with x xs ys (λ m. n (inr m)) d.1)
  where
    far : IsIn y (xs ++ x ∷ ys) → ⊥
    far m = elim (in_either y xs (x ∷ ys) m) [ inl a ↦ d.0 (in_left y xs ys a) | inr b ↦ here b ]
      where
        here : IsIn y (x ∷ ys) → ⊥
        here (inl e) = n (inl (sym e))
        here (inr k) = d.0 (in_right y xs ys k)

pub apart_without : (x : ℕ) (xs ys : List ℕ) → Apart (xs ++ x ∷ ys) → Apart (xs ++ ys)
apart_without x [] ys d = d.1
apart_without x (y ∷ xs) ys d = (far, apart_without x xs ys d.1)
  where
    far : IsIn y (xs ++ ys) → ⊥
    far m =
        elim (in_either y xs ys m) [
          | inl a ↦ d.0 (in_left y xs (x ∷ ys) a)
          | inr b ↦ d.0 (in_right y xs (x ∷ ys) (inr b))
        ]

-- taking one out

pub removed_absent : (x : ℕ) (xs : List ℕ) → (IsIn x xs → ⊥) → removed x xs ≡ xs
removed_absent x [] n = refl
removed_absent x (y ∷ ys) n =
    ap (λ t. cond t ys (y ∷ removed x ys)) (eqb_not y x (λ e. n (inl (sym e))))
    ∙ ap (λ zs. y ∷ zs) (removed_absent x ys (λ m. n (inr m)))

pub removed_within : (x : ℕ) (xs ys : List ℕ) → (IsIn x xs → ⊥) → removed x (xs ++ x ∷ ys) ≡ xs ++ ys
removed_within x [] ys n = ap (λ t. cond t ys (x ∷ removed x ys)) (eq-eqb x x refl)
removed_within x (y ∷ xs) ys n =
    ap (λ t. cond t (xs ++ x ∷ ys) (y ∷ removed x (xs ++ x ∷ ys))) (eqb_not y x (λ e. n (inl (sym e))))
    ∙ ap (λ zs. y ∷ zs) (removed_within x xs ys (λ m. n (inr m)))

pub record Cut (x : ℕ) (ps : List ℕ) : Type 0 where
  pub xs : List ℕ
  pub ys : List ℕ
  pub is : ps ≡ xs ++ x ∷ ys

pub cut : (x : ℕ) (ps : List ℕ) → IsIn x ps → Cut x ps
cut x [] m = absurd m
cut x (p ∷ ps) (inl e) = record { xs = []; ys = ps; is = ap (λ v. v ∷ ps) (sym e) }
cut x (p ∷ ps) (inr m) = let c = cut x ps m in record { xs = p ∷ c.xs; ys = c.ys; is = ap (λ qs. p ∷ qs) c.is }

-- ends

pub head_app : (xs ys : List ℕ) (e : Option ℕ) → head_or (xs ++ ys) e ≡ head_or xs (head_or ys e)
head_app [] ys e = refl
head_app (x ∷ xs) ys e = refl

pub last_app : (b : Option ℕ) (xs ys : List ℕ) → last_or b (xs ++ ys) ≡ last_or (last_or b xs) ys
last_app b [] ys = refl
last_app b (x ∷ xs) ys = last_app (Some x) xs ys

some_is : {a b : ℕ} → Some a ≡ Some b → a ≡ b
some_is e = cc

pub last_in : (b : ℕ) (xs : List ℕ) (i : ℕ) → last_or (Some b) xs ≡ Some i → IsIn i (b ∷ xs)
last_in b [] i e = inl (sym (some_is e))
last_in b (x ∷ xs) i e = inr (last_in x xs i e)

pub last_none : (xs : List ℕ) (i : ℕ) → last_or None xs ≡ Some i → IsIn i xs
last_none [] i e = absurd (cc)
last_none (x ∷ xs) i e = last_in x xs i e

pub head_none : (xs : List ℕ) (i : ℕ) → head_or xs None ≡ Some i → IsIn i xs
head_none [] i e = absurd (cc)
head_none (x ∷ xs) i e = inl (sym (some_is e))

-- chains

pub follow_is : (prev next : ℕ → Option ℕ) (b : Option ℕ) (ps : List ℕ)
    → Chain prev next b ps None
    → follow next (length ps) (head_or ps None) ≡ ps
follow_is prev next b [] c = refl
follow_is prev next b (p ∷ ps) c =
    ap (λ qs. p ∷ qs) (ap (follow next (length ps)) c.1 ∙ follow_is prev next (Some p) ps c.2)

pub split : (prev next : ℕ → Option ℕ) (b : Option ℕ) (xs ys : List ℕ) (e : Option ℕ)
    → Chain prev next b (xs ++ ys) e
    → Chain prev next b xs (head_or ys e) × Chain prev next (last_or b xs) ys e
split prev next b [] ys e c = (tt, c)
split prev next b (x ∷ xs) ys e c =
    let r = split prev next (Some x) xs ys e c.2 in ((c.0, c.1 ∙ head_app xs ys e, r.0), r.1)

pub join : (prev next : ℕ → Option ℕ) (b : Option ℕ) (xs ys : List ℕ) (e : Option ℕ)
    → Chain prev next b xs (head_or ys e)
    → Chain prev next (last_or b xs) ys e
    → Chain prev next b (xs ++ ys) e
join prev next b [] ys e c d = d
join prev next b (x ∷ xs) ys e c d = (c.0, c.1 ∙ sym (head_app xs ys e), join prev next (Some x) xs ys e c.2 d)

module _ (prev next prev' next' : ℕ → Option ℕ) where
  pub frame : (b : Option ℕ) (ps : List ℕ) (e : Option ℕ)
      → ((i : ℕ) → IsIn i ps → (prev' i ≡ prev i) × (next' i ≡ next i))
      → Chain prev next b ps e
      → Chain prev' next' b ps e
  frame b [] e same c = tt
  frame b (p ∷ ps) e same c =
      let h = same p (inl refl) in (h.0 ∙ c.0, h.1 ∙ c.1, frame (Some p) ps e (λ i m. same i (inr m)) c.2)

  pub ends : (b : Option ℕ) (ps : List ℕ) (e e' : Option ℕ) → Apart ps → ((i : ℕ) → IsIn i ps → prev' i ≡ prev i)
      → ((i : ℕ) → IsIn i ps → (last_or b ps ≡ Some i → ⊥) → next' i ≡ next i)
      → ((i : ℕ) → IsIn i ps → last_or b ps ≡ Some i → next' i ≡ e')
      → Chain prev next b ps e
      → Chain prev' next' b ps e'
  ends b [] e e' d sp sn at c = tt
  ends b (p ∷ []) e e' d sp sn at c = (sp p (inl refl) ∙ c.0, at p (inl refl) refl, tt)
  ends b (p ∷ q ∷ qs) e e' d sp sn at c = (
    sp p (inl refl) ∙ c.0,
    sn p (inl refl) (λ h. d.0 (last_in q qs p h)) ∙ c.1,
    ends (Some p) (q ∷ qs) e e' d.1 (λ i m. sp i (inr m)) (λ i m. sn i (inr m)) (λ i m. at i (inr m)) c.2,
  )

  pub begins : (b b' : Option ℕ) (ps : List ℕ) (e : Option ℕ) → Apart ps → ((i : ℕ) → IsIn i ps → next' i ≡ next i)
      → ((i : ℕ) → IsIn i ps → (head_or ps None ≡ Some i → ⊥) → prev' i ≡ prev i)
      → ((i : ℕ) → IsIn i ps → head_or ps None ≡ Some i → prev' i ≡ b')
      → Chain prev next b ps e
      → Chain prev' next' b' ps e
  begins b b' [] e d sn sp at c = tt
  begins b b' (p ∷ ps) e d sn sp at c = (
    at p (inl refl) refl,
    sn p (inl refl) ∙ c.1,
    frame (Some p) ps e (λ i m. (sp i (inr m) (λ h. d.0 (subst (λ v. IsIn v ps) (sym (some_is h)) m)), sn i (inr m)))
        c.2,
  )
