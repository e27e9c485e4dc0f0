-- A node that is put into a list.
use Rattle.std.proofs.Common.{◌≡◌, ℕ, ◌+◌, ◌<◌, List, [], ◌∷◌, ◌++◌, length, ◌⊎◌, inl, inr, Option, Some, None, refl, sym, ap, ◌∙◌, subst, arith, length-append}
use Rattle.std.proofs.lemmas.Bool.{cases_eq}
use Rattle.node_lists.specs.Chains.{IsIn, Apart, head_or, last_or, Chain, put_at, put_key}
use Rattle.node_lists.specs.ListArena.{Ends, State, Threaded, Rep, if_none, attached}
use Rattle.node_lists.proofs.Chains.{cases_key, put_here, put_away, key_here, key_away, in_left, in_right, in_either, apart_left, apart_right, apart_sides, apart_with, last_app, last_none, head_none, split, join, frame, ends, begins}
use Rattle.node_lists.proofs.Detach.{keeps}

first_with : (x : ℕ) (xs ys : List ℕ)
    → if_none (last_or None xs) (Some x) (head_or (xs ++ ys) None) ≡ head_or (xs ++ x ∷ ys) None
first_with x [] ys = refl
first_with x (z ∷ zs) ys = keeps z zs (Some x) (Some z)

last_with : (x : ℕ) (xs ys : List ℕ)
    → if_none (head_or ys None) (Some x) (last_or None (xs ++ ys)) ≡ last_or None (xs ++ x ∷ ys)
last_with x xs [] = sym (last_app None xs (x ∷ []))
last_with x xs (y ∷ ys) = last_app None xs (y ∷ ys) ∙ sym (last_app None xs (x ∷ y ∷ ys))

some_is : {a b : ℕ} → Some a ≡ Some b → a ≡ b
some_is e = cc

chain_with : (prev next : ℕ → Option ℕ) (x : ℕ) (xs ys : List ℕ)
    → (IsIn x (xs ++ ys) → ⊥)
    → Apart (xs ++ ys)
    → Chain prev next None (xs ++ ys) None
    → Chain (put_at (head_or ys None) (Some x) (put_at (Some x) (last_or None xs) prev))
    (put_at (last_or None xs) (Some x) (put_at (Some x) (head_or ys None) next)) None (xs ++ x ∷ ys) None
chain_with prev next x xs ys far d c =
    let r = split prev next None xs ys None c in let b = last_or None xs in let a = head_or ys None in
    let prev1 = put_at (Some x) b prev in let next1 = put_at (Some x) a next in
    let prev2 = put_at a (Some x) prev1 in let next2 = put_at b (Some x) next1 in
    let p1 = λ (i : ℕ) (n : i ≡ x → ⊥). put_away b (Some x) prev i (λ e. n (sym (some_is e))) in
    let n1 = λ (i : ℕ) (n : i ≡ x → ⊥). put_away a (Some x) next i (λ e. n (sym (some_is e))) in
    let left = λ (i : ℕ) (m : IsIn i xs) (e : i ≡ x). far (subst (λ v. IsIn v (xs ++ ys)) e (in_left i xs ys m)) in
    let right = λ (i : ℕ) (m : IsIn i ys) (e : i ≡ x). far (subst (λ v. IsIn v (xs ++ ys)) e (in_right i xs ys m)) in
    join prev2 next2 None xs (x ∷ ys) None
    (ends prev next prev2 next2 None xs (head_or ys None) (Some x) (apart_left xs ys d)
    (λ i m. put_away (Some x) a prev1 i (λ e. apart_sides xs ys i d m (head_none ys i e)) ∙ p1 i (left i m))
    (λ i m n. put_away (Some x) b next1 i n ∙ n1 i (left i m))
    (λ i m e. put_here (Some x) b next1 i e) r.0) (
      put_away (Some x) a prev1 x (λ e. far (in_right x xs ys (head_none ys x e))) ∙ put_here b (Some x) prev x refl,
      put_away (Some x) b next1 x (λ e. far (in_left x xs ys (last_none xs x e))) ∙ put_here a (Some x) next x refl,
      begins prev next prev2 next2 (last_or None xs) (Some x) ys None (apart_right xs ys d)
          (λ i m. put_away (Some x) b next1 i (λ e. apart_sides xs ys i d (last_none xs i e) m) ∙ n1 i (right i m))
          (λ i m n. put_away (Some x) a prev1 i n ∙ p1 i (right i m))
          (λ i m e. put_here (Some x) a prev1 i e) r.1,
    )

module _ (x : ℕ) (k : Option ℕ) (xs ys : List ℕ) (s : State) (lists : Option ℕ → List ℕ) (r : Rep (λ i. i ≡ x) s lists)
    (low : x < s.n) (is : lists k ≡ xs ++ ys) where
  abbrev b : Option ℕ
  b = last_or None xs

  abbrev a : Option ℕ
  a = head_or ys None

  abbrev s' : State
  s' = attached x k b a s

  abbrev end : Ends
  end = record {
    first = if_none b (Some x) (s.ends k).first;
    last = if_none a (Some x) (s.ends k).last;
    len = (s.ends k).len + 1;
  }

  far : (j : Option ℕ) → IsIn x (lists j) → ⊥
  far j m = (r.members j x m).2 refl

  far_k : IsIn x (xs ++ ys) → ⊥
  far_k m = far k (subst (IsIn x) (sym is) m)

  at_k : Threaded s' k (xs ++ x ∷ ys)
  at_k =
      let d = subst Apart is (r.apart k) in let t = subst (Threaded s k) is (r.threaded k) in
      let here = key_here end k s.ends k refl in
      let first : if_none b (Some x) (s.ends k).first ≡ head_or (xs ++ x ∷ ys) None = ap (if_none b (Some x)) t.first ∙ first_with x xs ys in
      let last : if_none a (Some x) (s.ends k).last ≡ last_or None (xs ++ x ∷ ys) = ap (if_none a (Some x)) t.last ∙ last_with x xs ys in
      let len : (s.ends k).len + 1 ≡ length (xs ++ x ∷ ys) = omega (arith, t.len, length-append xs (x ∷ ys), length-append xs ys) in
      record {
        chain = chain_with s.prev s.next x xs ys far_k d t.chain;
        first = ap (λ (h : Ends). h.first) here ∙ first;
        last = ap (λ (h : Ends). h.last) here ∙ last;
        len = ap (λ (h : Ends). h.len) here ∙ len;
      }

  away : (j : Option ℕ) → (k ≡ j → ⊥) → Threaded s' j (lists j)
  away j n =
      let u = r.threaded j in let there = key_away end k s.ends j n in
      let other = λ (i : ℕ) (m : IsIn i (lists j)) (o : IsIn i (xs ++ ys)). n (sym (r.members k i (subst (IsIn i) (sym is) o)).1 ∙ (r.members j i m).1) in
      let new = λ (i : ℕ) (m : IsIn i (lists j)) (e : Some x ≡ Some i). (r.members j i m).2 (sym (some_is e)) in
      record {
        chain = frame s.prev s.next s'.prev s'.next None (lists j) None
            (λ i m. (
              put_away (Some x) a (put_at (Some x) b s.prev) i (λ e. other i m (in_right i xs ys (head_none ys i e)))
                  ∙ put_away b (Some x) s.prev i (new i m),
              put_away (Some x) b (put_at (Some x) a s.next) i (λ e. other i m (in_left i xs ys (last_none xs i e)))
                  ∙ put_away a (Some x) s.next i (new i m),
            )) u.chain;
        first = ap (λ (h : Ends). h.first) there ∙ u.first;
        last = ap (λ (h : Ends). h.last) there ∙ u.last;
        len = ap (λ (h : Ends). h.len) there ∙ u.len;
      }

  abbrev lists' : Option ℕ → List ℕ
  lists' = put_key k (xs ++ x ∷ ys) lists

  at_here : (j : Option ℕ) → k ≡ j → lists' j ≡ xs ++ x ∷ ys
  at_here j e = key_here (xs ++ x ∷ ys) k lists j e

  at_away : (j : Option ℕ) → (k ≡ j → ⊥) → lists' j ≡ lists j
  at_away j n = key_away (xs ++ x ∷ ys) k lists j n

  members : (j : Option ℕ) (i : ℕ) → IsIn i (lists' j) → (i < s.n) × (s'.key i ≡ j) × (⊥ → ⊥)
  members j i m =
      elim (cases_key k j) [
        | inl e ↦ in_k e (in_either i xs (x ∷ ys) (subst (IsIn i) (at_here j e) m))
        | inr n ↦ old (subst (IsIn i) (at_away j n) m)
      ]
    where
      old : IsIn i (lists j) → (i < s.n) × (s'.key i ≡ j) × (⊥ → ⊥)
      old o = let h = r.members j i o in (h.0, put_away k (Some x) s.key i (λ e. h.2 (sym (some_is e))) ∙ h.1, (λ z. z))

      in_k : k ≡ j → IsIn i xs ⊎ IsIn i (x ∷ ys) → (i < s.n) × (s'.key i ≡ j) × (⊥ → ⊥)
      in_k e (inl o) = old (subst (λ v. IsIn i (lists v)) e (subst (IsIn i) (sym is) (in_left i xs ys o)))
      in_k e (inr (inl f)) =
          (subst (λ v. v < s.n) (sym f) low, put_here k (Some x) s.key i (ap Some (sym f)) ∙ e, (λ z. z))
      in_k e (inr (inr o)) = old (subst (λ v. IsIn i (lists v)) e (subst (IsIn i) (sym is) (in_right i xs ys o)))

  everyone : (i : ℕ) → i < s.n → (⊥ → ⊥) → IsIn i (lists' (s'.key i))
  everyone i h z =
      elim (cases_eq i x) [
        | inl e ↦
            subst (λ v. IsIn i (lists' v)) (sym (put_here k (Some x) s.key i (ap Some (sym e))))
            (subst (IsIn i) (sym (at_here k refl)) (in_right i xs (x ∷ ys) (inl e)))
        | inr n ↦
            subst (λ v. IsIn i (lists' v)) (sym (put_away k (Some x) s.key i (λ e. n (sym (some_is e)))))
            (in_old n (cases_key k (s.key i)))
      ]
    where
      widen : IsIn i xs ⊎ IsIn i ys → IsIn i (xs ++ x ∷ ys)
      widen (inl m) = in_left i xs (x ∷ ys) m
      widen (inr m) = in_right i xs (x ∷ ys) (inr m)

      in_old : (i ≡ x → ⊥) → (k ≡ s.key i) ⊎ (k ≡ s.key i → ⊥) → IsIn i (lists' (s.key i))
      in_old n (inl e) =
          subst (IsIn i) (sym (at_here (s.key i) e))
          (widen (in_either i xs ys (subst (IsIn i) (ap lists (sym e) ∙ is) (r.everyone i h n))))
      in_old n (inr f) = subst (IsIn i) (sym (at_away (s.key i) f)) (r.everyone i h n)

  pub attached_rep : Rep (λ _. ⊥) (attached x k (last_or None xs) (head_or ys None) s) (put_key k (xs ++ x ∷ ys) lists)
  attached_rep = record {
    threaded =
        λ j.
        elim (cases_key k j) [
          | inl e ↦ subst (Threaded s' j) (sym (at_here j e)) (subst (λ v. Threaded s' v (xs ++ x ∷ ys)) e at_k)
          | inr n ↦ subst (Threaded s' j) (sym (at_away j n)) (away j n)
        ];
    members = members;
    everyone = everyone;
    apart =
        λ j.
        elim (cases_key k j) [
          | inl e ↦ subst Apart (sym (at_here j e)) (apart_with x xs ys far_k (subst Apart is (r.apart k)))
          | inr n ↦ subst Apart (sym (at_away j n)) (r.apart j)
        ];
  }
