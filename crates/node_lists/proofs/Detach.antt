-- A node that is taken out of its list.
use Rattle.std.proofs.Common.{◌≡◌, ℕ, ◌+◌, ◌-◌, ◌<◌, List, [], ◌∷◌, ◌++◌, length, ◌⊎◌, inl, inr, Option, Some, None, refl, sym, ap, ◌∙◌, subst, arith, length-append}
use Rattle.std.proofs.lemmas.Bool.{cases_eq}
use Rattle.std.proofs.lemmas.List.{append-nil}
use Rattle.node_lists.specs.Chains.{IsIn, Apart, removed, head_or, last_or, Chain, put_at}
use Rattle.node_lists.specs.ListArena.{Ends, State, Threaded, Rep, if_none, detached}
use Rattle.node_lists.proofs.Chains.{cases_key, put_here, put_away, key_here, key_away, in_left, in_right, in_either, apart_left, apart_right, apart_sides, apart_without, removed_absent, removed_within, Cut, cut, last_app, last_none, head_none, split, join, frame, ends, begins}

pub keeps : (z : ℕ) (zs : List ℕ) (o v : Option ℕ) → if_none (last_or (Some z) zs) o v ≡ v
keeps z [] o v = refl
keeps z (w ∷ ws) o v = keeps w ws o v

first_without : (x : ℕ) (xs ys : List ℕ)
    → if_none (last_or None xs) (head_or ys None) (head_or (xs ++ x ∷ ys) None) ≡ head_or (xs ++ ys) None
first_without x [] ys = refl
first_without x (z ∷ zs) ys = keeps z zs (head_or ys None) (Some z)

last_without : (x : ℕ) (xs ys : List ℕ)
    → if_none (head_or ys None) (last_or None xs) (last_or None (xs ++ x ∷ ys)) ≡ last_or None (xs ++ ys)
last_without x xs [] = ap (last_or None) (sym (append-nil xs))
last_without x xs (y ∷ ys) = last_app None xs (x ∷ y ∷ ys) ∙ sym (last_app None xs (y ∷ ys))

chain_without : (prev next : ℕ → Option ℕ) (x : ℕ) (xs ys : List ℕ)
    → Apart (xs ++ x ∷ ys)
    → Chain prev next None (xs ++ x ∷ ys) None
    → Chain (put_at (next x) (prev x) prev) (put_at (prev x) (next x) next) None (xs ++ ys) None
chain_without prev next x xs ys d c =
    let r = split prev next None xs (x ∷ ys) None c in
    let b = prev x in let a = next x in let eb = r.1.0 in let ea = r.1.1 in
    let d' = apart_without x xs ys d in
    let prev' = put_at a b prev in let next' = put_at b a next in
    join prev' next' None xs ys None
    (ends prev next prev' next' None xs (Some x) (head_or ys None) (apart_left xs ys d')
    (λ i m. put_away b a prev i (λ e. apart_sides xs ys i d' m (head_none ys i (sym ea ∙ e))))
    (λ i m n. put_away a b next i (λ e. n (sym eb ∙ e)))
    (λ i m e. put_here a b next i (eb ∙ e) ∙ ea) r.0)
    (begins prev next prev' next' (Some x) (last_or None xs) ys None (apart_right xs ys d')
    (λ i m. put_away a b next i (λ e. apart_sides xs ys i d' (last_none xs i (sym eb ∙ e)) m))
    (λ i m n. put_away b a prev i (λ e. n (sym ea ∙ e)))
    (λ i m e. put_here b a prev i (ea ∙ e) ∙ eb) r.1.2)

pub cases_in : (y : ℕ) (zs : List ℕ) → IsIn y zs ⊎ (IsIn y zs → ⊥)
cases_in y [] = inr (λ k. k)
cases_in y (z ∷ zs) =
    elim (cases_eq y z) [
      | inl e ↦ inl (inl e)
      | inr n ↦ elim (cases_in y zs) [ inl k ↦ inl (inr k) | inr l ↦ inr (λ k. elim k [ inl e ↦ n e | inr j ↦ l j ]) ]
    ]

pub absent : (x : ℕ) (xs : List ℕ) → Apart xs → IsIn x (removed x xs) → ⊥
absent x xs d m = by_place (cases_in x xs)
  where
    by_place : IsIn x xs ⊎ (IsIn x xs → ⊥) → ⊥
    by_place (inr n) = n (subst (IsIn x) (removed_absent x xs n) m)
    by_place (inl k) =
        let c = cut x xs k in let d' = subst Apart c.is d in
        let m' = subst (IsIn x) (ap (removed x) c.is ∙ removed_within x c.xs c.ys (λ l. apart_sides c.xs (x ∷ c.ys) x d' l (inl refl))) m in
        elim (in_either x c.xs c.ys m') [
          | inl l ↦ apart_sides c.xs (x ∷ c.ys) x d' l (inl refl)
          | inr l ↦ (apart_right c.xs (x ∷ c.ys) d').0 l
        ]

pub in_less : (x i : ℕ) (xs : List ℕ) → IsIn i (removed x xs) → IsIn i xs
in_less x i [] m = m
in_less x i (y ∷ ys) m =
    elim (cases_eq y x) [
      | inl e ↦ inr (subst (IsIn i) (removed_within x [] ys (λ k. k)) (subst (λ v. IsIn i (removed x (v ∷ ys))) e m))
      | inr n ↦ elim (subst (IsIn i) (skipped n) m) [ inl e ↦ inl e | inr k ↦ inr (in_less x i ys k) ]
    ]
  where
    skipped : (y ≡ x → ⊥) → removed x (y ∷ ys) ≡ y ∷ removed x ys
    skipped n =
        ap (λ t. Rattle.std.proofs.Common.cond t ys (y ∷ removed x ys)) (Rattle.node_lists.proofs.Chains.eqb_not y x n)

pub still_in : (x i : ℕ) (xs : List ℕ) → (i ≡ x → ⊥) → IsIn i xs → IsIn i (removed x xs)
still_in x i [] n m = m
still_in x i (y ∷ ys) n m =
    elim (cases_eq y x) [
      | inl e ↦
          subst (λ v. IsIn i (removed x (v ∷ ys))) (sym e)
          (subst (IsIn i) (sym (removed_within x [] ys (λ k. k))) (rest e m))
      | inr k ↦ subst (IsIn i) (sym (skipped k)) (onward m (still_in x i ys n))
    ]
  where
    skipped : (y ≡ x → ⊥) → removed x (y ∷ ys) ≡ y ∷ removed x ys
    skipped k =
        ap (λ t. Rattle.std.proofs.Common.cond t ys (y ∷ removed x ys)) (Rattle.node_lists.proofs.Chains.eqb_not y x k)

    rest : y ≡ x → IsIn i (y ∷ ys) → IsIn i ys
    rest e (inl f) = absurd (n (f ∙ e))
    rest e (inr k) = k

    onward : IsIn i (y ∷ ys) → (IsIn i ys → IsIn i (removed x ys)) → IsIn i (y ∷ removed x ys)
    onward (inl e) f = inl e
    onward (inr k) f = inr (f k)

pub apart_less : (x : ℕ) (xs : List ℕ) → Apart xs → Apart (removed x xs)
apart_less x [] d = tt
apart_less x (y ∷ ys) d =
    elim (cases_eq y x) [
      | inl e ↦
          subst (λ v. Apart (removed x (v ∷ ys))) (sym e) (subst Apart (sym (removed_within x [] ys (λ k. k))) d.1)
      | inr n ↦
          subst Apart
          (sym
          (ap (λ t. Rattle.std.proofs.Common.cond t ys (y ∷ removed x ys))
          (Rattle.node_lists.proofs.Chains.eqb_not y x n)))
          ((λ m. d.0 (in_less x y ys m)), apart_less x ys d.1)
    ]

module _ (x : ℕ) (s : State) (lists : Option ℕ → List ℕ) (r : Rep (λ _. ⊥) s lists) (low : x < s.n) where
  abbrev k : Option ℕ
  k = s.key x

  abbrev end : Ends
  end = record {
    first = if_none (s.prev x) (s.next x) (s.ends k).first;
    last = if_none (s.next x) (s.prev x) (s.ends k).last;
    len = (s.ends k).len - 1;
  }

  at_k : (c : Cut x (lists k)) → Threaded (detached x s) k (removed x (lists k))
  at_k c =
      let d = subst Apart c.is (r.apart k) in let t = subst (Threaded s k) c.is (r.threaded k) in
      let l = split s.prev s.next None c.xs (x ∷ c.ys) None t.chain in
      let is = ap (removed x) c.is ∙ removed_within x c.xs c.ys (λ m. apart_sides c.xs (x ∷ c.ys) x d m (inl refl)) in
      let here = key_here end k s.ends k refl in
      let first : if_none (s.prev x) (s.next x) (s.ends k).first ≡ head_or (c.xs ++ c.ys) None = (λ i. if_none (l.1.0 i) (l.1.1 i) (t.first i)) ∙ first_without x c.xs c.ys in
      let last : if_none (s.next x) (s.prev x) (s.ends k).last ≡ last_or None (c.xs ++ c.ys) = (λ i. if_none (l.1.1 i) (l.1.0 i) (t.last i)) ∙ last_without x c.xs c.ys in
      let len : (s.ends k).len - 1 ≡ length (c.xs ++ c.ys) = omega (arith, t.len, length-append c.xs (x ∷ c.ys), length-append c.xs c.ys) in
      subst (Threaded (detached x s) k) (sym is) (record {
        chain = chain_without s.prev s.next x c.xs c.ys d t.chain;
        first = ap (λ (h : Ends). h.first) here ∙ first;
        last = ap (λ (h : Ends). h.last) here ∙ last;
        len = ap (λ (h : Ends). h.len) here ∙ len;
      })

  away : (c : Cut x (lists k)) (j : Option ℕ) → (k ≡ j → ⊥) → Threaded (detached x s) j (removed x (lists j))
  away c j n =
      let d = subst Apart c.is (r.apart k) in
      let t = subst (Threaded s k) c.is (r.threaded k) in let u = r.threaded j in
      let l = split s.prev s.next None c.xs (x ∷ c.ys) None t.chain in
      let other = λ (i : ℕ) (m : IsIn i (lists j)) (o : IsIn i (c.xs ++ x ∷ c.ys)). n (sym (r.members k i (subst (IsIn i) (sym c.is) o)).1 ∙ (r.members j i m).1) in
      let there = key_away end k s.ends j n in
      subst (Threaded (detached x s) j) (sym (removed_absent x (lists j) (λ m. n (r.members j x m).1))) (record {
        chain =
            frame s.prev s.next (put_at (s.next x) (s.prev x) s.prev) (put_at (s.prev x) (s.next x) s.next) None
            (lists j) None
            (λ i m. (
              put_away (s.prev x) (s.next x) s.prev i
                  (λ e. other i m (in_right i c.xs (x ∷ c.ys) (inr (head_none c.ys i (sym l.1.1 ∙ e))))),
              put_away (s.next x) (s.prev x) s.next i
                  (λ e. other i m (in_left i c.xs (x ∷ c.ys) (last_none c.xs i (sym l.1.0 ∙ e)))),
            )) u.chain;
        first = ap (λ (h : Ends). h.first) there ∙ u.first;
        last = ap (λ (h : Ends). h.last) there ∙ u.last;
        len = ap (λ (h : Ends). h.len) there ∙ u.len;
      })

  pub detached_rep : Rep (λ i. i ≡ x) (detached x s) (λ j. removed x (lists j))
  detached_rep = let c = cut x (lists k) (r.everyone x low (λ h. h)) in record {
    threaded =
        λ j.
        elim (cases_key k j) [
          | inl e ↦ subst (λ v. Threaded (detached x s) v (removed x (lists v))) e (at_k c)
          | inr n ↦ away c j n
        ];
    members =
        λ j i m.
        let o = r.members j i (in_less x i (lists j) m) in
        (o.0, o.1, (λ e. absent x (lists j) (r.apart j) (subst (λ v. IsIn v (removed x (lists j))) e m)));
    everyone = λ i h n. still_in x i (lists (s.key i)) n (r.everyone i h (λ z. z));
    apart = λ j. apart_less x (lists j) (r.apart j);
  }
