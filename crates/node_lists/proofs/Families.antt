-- The lists that contracts see are those of the links.
use Rattle.std.proofs.Common.{◌≡◌, ℕ, zero, suc, ◌<◌, ◌≤◌, List, [], ◌∷◌, ◌++◌, length, map, ◌⊎◌, inl, inr, Option, Some, None, refl, sym, ap, ◌∙◌, subst, slice_get, cond, arith}
use Rattle.std.proofs.Math.Path.{fun_ext}
use Rattle.std.proofs.lemmas.Bool.{cases_eq, eq-eqb}
use Rattle.std.proofs.lemmas.List.{length-map}
use Rattle.node_lists.specs.declared.list_arena.ListArena.{ListArena}
use Rattle.node_lists.specs.declared.node.Head.{Head}
use Rattle.node_lists.specs.declared.node.Node.{Node}
use Rattle.node_lists.specs.Chains.{IsIn, Apart, removed, head_or, last_or, follow, put_at, put_key}
use Rattle.node_lists.specs.ListArena.{State, Rep, list_of, detached, attached}
use Rattle.node_lists.specs.Nodes.{number, field, next_of, key_of, held_of, of_slot, ends_slot}
use Rattle.node_lists.specs.Edits.{links, Edited}
use Rattle.node_lists.specs.Families.{list_at, key_at, IsFull, Moved, family_of, list_slot, same_option, inserted}
use Rattle.node_lists.proofs.Chains.{follow_is, eqb_not}
use Rattle.node_lists.proofs.Detach.{detached_rep, cases_in, in_less, absent, apart_less}
use Rattle.node_lists.proofs.Attach.{attached_rep}

-- lists are what the links lead to

pub lists_are : (out : ℕ → Type 0) (s : State) (N : Option ℕ → List ℕ) → Rep out s N → list_of s ≡ N
lists_are out s N r =
    fun_ext (λ k.
    let t = r.threaded k in (λ i. follow s.next (t.len i) (t.first i)) ∙ follow_is s.prev s.next None (N k) t.chain)

pub own_rep : (out : ℕ → Type 0) (s : State) (N : Option ℕ → List ℕ) → Rep out s N → Rep out s (list_of s)
own_rep out s N r = subst (Rep out s) (sym (lists_are out s N r)) r

-- no list is longer than there are nodes

pub length_less : (x : ℕ) (xs : List ℕ) → IsIn x xs → length xs ≡ suc (length (removed x xs))
length_less x [] m = absurd m
length_less x (y ∷ ys) m =
    elim (cases_eq y x) [
      | inl e ↦ ap suc (ap length (sym (ap (λ t. cond t ys (y ∷ removed x ys)) (eq-eqb y x e))))
      | inr n ↦
          ap suc (length_less x ys (rest n m))
          ∙ ap (λ l. suc (length l)) (sym (ap (λ t. cond t ys (y ∷ removed x ys)) (eqb_not y x n)))
    ]
  where
    rest : (y ≡ x → ⊥) → IsIn x (y ∷ ys) → IsIn x ys
    rest n (inl e) = absurd (n (sym e))
    rest n (inr k) = k

pub fits : (n : ℕ) (ps : List ℕ) → Apart ps → ((i : ℕ) → IsIn i ps → i < n) → length ps ≤ n
fits zero [] d low = omega arith
fits zero (p ∷ ps) d low = absurd (omega (arith, low p (inl refl)))
fits (suc n) ps d low = by_place (cases_in n ps) (fits n (removed n ps) (apart_less n ps d))
  where
    by_place : IsIn n ps ⊎ (IsIn n ps → ⊥)
        → (((i : ℕ) → IsIn i (removed n ps) → i < n) → length (removed n ps) ≤ n)
        → length ps ≤ suc n
    by_place (inl m) rest =
        let e = length_less n ps m in
        let h : length (removed n ps) ≤ n =
        rest (λ i k. below i (in_less n i ps k) (λ f. absent n ps d (subst (λ v. IsIn v (removed n ps)) f k))) in
        omega arith
      where
        below : (i : ℕ) → IsIn i ps → (i ≡ n → ⊥) → i < n
        below i k f = let h : i < suc n = low i k in omega (arith, f)
    by_place (inr m) rest =
        let e = Rattle.node_lists.proofs.Chains.removed_absent n ps m in
        let h : length (removed n ps) ≤ n = rest (λ i k. below i (subst (IsIn i) e k)) in
        let g = ap length e in omega arith
      where
        below : (i : ℕ) → IsIn i ps → i < n
        below i k =
            let h : i < suc n = low i k in let f : i ≡ n → ⊥ = λ e. m (subst (λ v. IsIn v ps) e k) in omega (arith, f)

-- a list has room for a node that is out
pub room : (x : ℕ) (s : State) (N : Option ℕ → List ℕ)
    → Rep (λ i. i ≡ x) s N
    → x < s.n
    → (k : Option ℕ)
    → (s.ends k).len < s.n
room x s N r low k =
    let h : length (x ∷ N k) ≤ s.n = fits s.n (x ∷ N k) ((λ m. (r.members k x m).2 refl), r.apart k) below in
    let e = (r.threaded k).len in omega arith
  where
    below : (i : ℕ) → IsIn i (x ∷ N k) → i < s.n
    below i (inl e) = subst (λ v. v < s.n) (sym e) low
    below i (inr m) = (r.members k i m).0

some_length : (x : ℕ) (xs : List ℕ) → IsIn x xs → 0 < length xs
some_length x [] m = absurd m
some_length x (y ∷ ys) m = omega arith

-- the list of a node isn't empty
pub some_len : (x : ℕ) (s : State) (N : Option ℕ → List ℕ) → Rep (λ _. ⊥) s N → x < s.n → 0 < (s.ends (s.key x)).len
some_len x s N r low =
    let h = some_length x (N (s.key x)) (r.everyone x low (λ z. z)) in let e = (r.threaded (s.key x)).len in omega arith

field_low : {X : Type 0} (f : X → Option ℕ) (xs : List X) (i k : ℕ) → field f xs i ≡ Some k → i < length xs
field_low f [] i k e = absurd (cc)
field_low f (x ∷ xs) zero k e = omega arith
field_low f (x ∷ xs) (suc i) k e = let h : i < length xs = field_low f xs i k e in omega arith

module _ {T : Type 0} where
  pub list_at_is : (t : ListArena T) → list_at (family_of t) ≡ list_of (links t)
  list_at_is t = fun_ext at
    where
      next : ℕ → Option ℕ
      next = field next_of t.nodes.values

      slot : (hs : List Head) (k : ℕ)
          → list_slot (slice_get (map (λ (h : Head). follow next h.len (number h.first)) hs) k)
          ≡ follow next (ends_slot (slice_get hs k)).len (ends_slot (slice_get hs k)).first
      slot [] k = refl
      slot (h ∷ hs) zero = refl
      slot (h ∷ hs) (suc k) = slot hs k

      at : (k : Option ℕ) → list_at (family_of t) k ≡ list_of (links t) k
      at None = refl
      at (Some k) = slot t.heads.values k

  pub key_at_is : (t : ListArena T) → key_at (family_of t) ≡ (links t).key
  key_at_is t = fun_ext (slot t.nodes.values)
    where
      slot : (vs : List (Node T)) (i : ℕ)
          → of_slot same_option (slice_get (map key_of vs) i) ≡ of_slot key_of (slice_get vs i)
      slot [] i = refl
      slot (v ∷ vs) zero = refl
      slot (v ∷ vs) (suc i) = slot vs i

  pub held_length : (t : ListArena T) → length (family_of t).held ≡ (links t).n
  held_length t = length-map t.nodes.values held_of

  pub full : (t : ListArena T) → Rep (λ _. ⊥) (links t) (list_of (links t)) → IsFull (family_of t)
  full t r =
      let el = list_at_is t in let ek = key_at_is t in let en = held_length t in record {
        members =
            λ k i m.
            let h = r.members k i (subst (λ (f : Option ℕ → List ℕ). IsIn i (f k)) el m) in
            (subst (λ n. i < n) (sym en) h.0, ap (λ (f : ℕ → Option ℕ). f i) ek ∙ h.1);
        everyone =
            λ i h.
            let m = r.everyone i (subst (λ n. i < n) en h) (λ z. z) in
            subst (λ (f : Option ℕ → List ℕ). IsIn i (f (key_at (family_of t) i))) (sym el)
            (subst (λ k. IsIn i (list_of (links t) k)) (ap (λ (f : ℕ → Option ℕ). f i) (sym ek)) m);
        apart = λ k. subst (λ (f : Option ℕ → List ℕ). Apart (f k)) (sym el) (r.apart k);
        low =
            λ i k e.
            subst (λ n. i < n) (sym en)
            (field_low key_of t.nodes.values i k (sym (ap (λ (f : ℕ → Option ℕ). f i) ek) ∙ e));
      }

  module _ (t0 t1 t2 : ListArena T) (x : ℕ) (r : Rep (λ _. ⊥) (links t0) (list_of (links t0))) (low : x < (links t0).n)
      (e1 : Edited (detached x (links t0)) t0 t1) where
    pub out_rep : Rep (λ i. i ≡ x) (links t1) (λ j. removed x (list_of (links t0) j))
    out_rep =
        subst (λ s. Rep (λ i. i ≡ x) s (λ j. removed x (list_of (links t0) j))) (sym e1.state)
        (detached_rep x (links t0) (list_of (links t0)) r low)

    pub out_low : x < (links t1).n
    out_low = subst (λ (s : State). x < s.n) (sym e1.state) low

    pub out_room : (k : Option ℕ) → ((links t1).ends k).len < (links t1).n
    out_room k = room x (links t1) (λ j. removed x (list_of (links t0) j)) out_rep out_low k

    module _ (k b a : Option ℕ) (xs ys : List ℕ) (e2 : Edited (attached x k b a (links t1)) t1 t2)
        (is : removed x (list_of (links t0) k) ≡ xs ++ ys) (eb : b ≡ last_or None xs) (ea : a ≡ head_or ys None) where
      in_rep : Rep (λ _. ⊥) (links t2) (put_key k (xs ++ x ∷ ys) (λ j. removed x (list_of (links t0) j)))
      in_rep =
          let made = attached_rep x k xs ys (links t1) (λ j. removed x (list_of (links t0) j)) out_rep out_low is in
          let same : attached x k (last_or None xs) (head_or ys None) (links t1) ≡ links t2 = (λ i. attached x k (sym eb i) (sym ea i) (links t1)) ∙ sym e2.state in
          subst (λ s. Rep (λ _. ⊥) s (put_key k (xs ++ x ∷ ys) (λ j. removed x (list_of (links t0) j)))) same made

      pub moved_rep : Rep (λ _. ⊥) (links t2) (list_of (links t2))
      moved_rep = own_rep (λ _. ⊥) (links t2) (put_key k (xs ++ x ∷ ys) (λ j. removed x (list_of (links t0) j))) in_rep

      pub moved_family : Moved x k (xs ++ x ∷ ys) (family_of t0) (family_of t2)
      moved_family = record {
        held = e2.held ∙ e1.held;
        keys =
            key_at_is t2
            ∙ ap (λ (s : State). s.key) e2.state
            ∙ ap (λ (s : State). put_at (Some x) k s.key) e1.state
            ∙ ap (put_at (Some x) k) (sym (key_at_is t0));
        count =
            length-map t2.heads.values (λ (h : Head). follow (field next_of t2.nodes.values) h.len (number h.first))
            ∙ e2.count
            ∙ e1.count
            ∙ sym
            (length-map t0.heads.values (λ (h : Head). follow (field next_of t0.nodes.values) h.len (number h.first)));
        lists =
            list_at_is t2
            ∙ lists_are (λ _. ⊥) (links t2) (put_key k (xs ++ x ∷ ys) (λ j. removed x (list_of (links t0) j))) in_rep
            ∙ ap (λ (f : Option ℕ → List ℕ). put_key k (xs ++ x ∷ ys) (λ j. removed x (f j))) (sym (list_at_is t0));
        full = full t2 moved_rep;
      }

pub inserted_within : (x at : ℕ) (xs ys : List ℕ) → (IsIn at xs → ⊥) → inserted x at (xs ++ at ∷ ys) ≡ xs ++ x ∷ at ∷ ys
inserted_within x at [] ys n = ap (λ t. cond t (x ∷ at ∷ ys) (at ∷ inserted x at ys)) (eq-eqb at at refl)
inserted_within x at (y ∷ xs) ys n =
    ap (λ t. cond t (x ∷ y ∷ (xs ++ at ∷ ys)) (y ∷ inserted x at (xs ++ at ∷ ys))) (eqb_not y at (λ e. n (inl (sym e))))
    ∙ ap (λ zs. y ∷ zs) (inserted_within x at xs ys (λ m. n (inr m)))
