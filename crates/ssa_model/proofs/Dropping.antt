-- Ops that are dropped at once: what the graph is then, and that the function is strict.
use Rattle.std.proofs.Common.{◌≡◌, ℕ, zero, suc, ◌+◌, ◌<◌, Bool, true, false, eqb, cond, List, [], ◌∷◌, ◌++◌, length, take, get_or, ◌⊎◌, inl, inr, Option, Some, None, IsSome, refl, sym, ap, ◌∙◌, subst, arith, slice_get, true≢false}
use Rattle.std.proofs.lemmas.Bool.{cases_eq, eq-eqb}
use Rattle.heap_nodes.proofs.Places.{none_some, some_same}
use Rattle.node_lists.specs.Chains.{IsIn, Apart, removed, put_at}
use Rattle.node_lists.proofs.Chains.{eqb_not, in_left, in_right, in_either, cases_key, put_here, put_away}
use Rattle.opgraph.specs.declared.ids.OpId.{OpId}
use Rattle.opgraph.specs.declared.ids.Slot.{Slot}
use Rattle.opgraph.specs.Graph.{OpRow, Graph, op_at, block_at, uses_at, inputs_in, in_block, IsAmong, IsOp, IsWhole, Rewritten, Removed}
use Rattle.opgraph.proofs.Whole.{in_at}
use Rattle.ssa_model.specs.Paths.{before_op}
use Rattle.ssa_model.specs.Drops.{op_numbers, is_in, without_all, AreOps, blank_row, blank, Blanked, Cleared, slots_of}

-- ---- numbers in lists

pub cases_in : (x : ℕ) (xs : List ℕ) → IsIn x xs ⊎ (IsIn x xs → ⊥)
cases_in x [] = inr (λ m. m)
cases_in x (y ∷ ys) = by_case (cases_eq x y) (cases_in x ys)
  where
    by_case : (x ≡ y) ⊎ (x ≡ y → ⊥)
        → IsIn x ys ⊎ (IsIn x ys → ⊥)
        → IsIn x (y ∷ ys) ⊎ (IsIn x (y ∷ ys) → ⊥)
    by_case (inl e) c = inl (inl e)
    by_case (inr n) (inl m) = inl (inr m)
    by_case (inr n) (inr f) = inr (neither n f)
      where
        neither : (x ≡ y → ⊥) → (IsIn x ys → ⊥) → IsIn x (y ∷ ys) → ⊥
        neither n f (inl e) = n e
        neither n f (inr m) = f m

pub in_is : (x : ℕ) (xs : List ℕ) → IsIn x xs → is_in x xs ≡ true
in_is x [] m = absurd m
in_is x (y ∷ ys) (inl e) = ap (λ t. cond t true (is_in x ys)) (eq-eqb y x (sym e))
in_is x (y ∷ ys) (inr m) = by_test (eqb y x) (in_is x ys m)
  where
    by_test : (t : Bool) → is_in x ys ≡ true → cond t true (is_in x ys) ≡ true
    by_test true h = refl
    by_test false h = h

pub is_not : (x : ℕ) (xs : List ℕ) → (IsIn x xs → ⊥) → is_in x xs ≡ false
is_not x [] n = refl
is_not x (y ∷ ys) n =
    ap (λ t. cond t true (is_in x ys)) (eqb_not y x (λ e. n (inl (sym e)))) ∙ is_not x ys (λ m. n (inr m))

skips : (xs : List ℕ) (y : ℕ) (ys : List ℕ) → IsIn y xs → without_all xs (y ∷ ys) ≡ without_all xs ys
skips xs y ys m = ap (λ t. cond t (without_all xs ys) (y ∷ without_all xs ys)) (in_is y xs m)

keeps : (xs : List ℕ) (y : ℕ) (ys : List ℕ) → (IsIn y xs → ⊥) → without_all xs (y ∷ ys) ≡ y ∷ without_all xs ys
keeps xs y ys n = ap (λ t. cond t (without_all xs ys) (y ∷ without_all xs ys)) (is_not y xs n)

pub in_kept : (xs ys : List ℕ) (v : ℕ) → (IsIn v xs → ⊥) → IsIn v ys → IsIn v (without_all xs ys)
in_kept xs [] v n m = absurd m
in_kept xs (y ∷ ys) v n m = by_case (cases_in y xs) m (in_kept xs ys v n)
  where
    by_case : IsIn y xs ⊎ (IsIn y xs → ⊥)
        → IsIn v (y ∷ ys)
        → (IsIn v ys → IsIn v (without_all xs ys))
        → IsIn v (without_all xs (y ∷ ys))
    by_case (inl k) (inl e) rest = absurd (n (subst (λ w. IsIn w xs) (sym e) k))
    by_case (inl k) (inr h) rest = subst (IsIn v) (sym (skips xs y ys k)) (rest h)
    by_case (inr f) (inl e) rest = subst (IsIn v) (sym (keeps xs y ys f)) (inl e)
    by_case (inr f) (inr h) rest = subst (IsIn v) (sym (keeps xs y ys f)) (inr (rest h))

before_here : (x y : ℕ) (ys : List ℕ) → y ≡ x → before_op x (y ∷ ys) ≡ []
before_here x y ys e = ap (λ t. cond t [] (y ∷ before_op x ys)) (eq-eqb y x e)

before_far : (x y : ℕ) (ys : List ℕ) → (y ≡ x → ⊥) → before_op x (y ∷ ys) ≡ y ∷ before_op x ys
before_far x y ys n = ap (λ t. cond t [] (y ∷ before_op x ys)) (eqb_not y x n)

-- what stood before an op that stays still does
pub before_kept : (xs ys : List ℕ) (x v : ℕ)
    → (IsIn v xs → ⊥)
    → IsIn v (before_op x ys)
    → IsIn v (before_op x (without_all xs ys))
before_kept xs [] x v n m = absurd m
before_kept xs (y ∷ ys) x v n m = by_place (cases_eq y x) (cases_in y xs) (before_kept xs ys x v n)
  where
    by_place : (y ≡ x) ⊎ (y ≡ x → ⊥)
        → IsIn y xs ⊎ (IsIn y xs → ⊥)
        → (IsIn v (before_op x ys) → IsIn v (before_op x (without_all xs ys)))
        → IsIn v (before_op x (without_all xs (y ∷ ys)))
    by_place (inl e) c rest = absurd (subst (IsIn v) (before_here x y ys e) m)
    by_place (inr f) (inl k) rest =
        subst (λ zs. IsIn v (before_op x zs)) (sym (skips xs y ys k))
        (there (subst (IsIn v) (before_far x y ys f) m))
      where
        there : IsIn v (y ∷ before_op x ys) → IsIn v (before_op x (without_all xs ys))
        there (inl e) = absurd (n (subst (λ w. IsIn w xs) (sym e) k))
        there (inr h) = rest h
    by_place (inr f) (inr k) rest =
        subst (λ zs. IsIn v (before_op x zs)) (sym (keeps xs y ys k))
        (subst (IsIn v) (sym (before_far x y (without_all xs ys) f))
        (there (subst (IsIn v) (before_far x y ys f) m)))
      where
        there : IsIn v (y ∷ before_op x ys) → IsIn v (y ∷ before_op x (without_all xs ys))
        there (inl e) = inl e
        there (inr h) = inr (rest h)

-- ---- one op after another

only_one : (x y : ℕ) → IsIn y (x ∷ []) → y ≡ x
only_one x y (inl e) = e
only_one x y (inr m) = absurd m

kept_all : (x : ℕ) (ys : List ℕ) → (IsIn x ys → ⊥) → without_all (x ∷ []) ys ≡ ys
kept_all x [] n = refl
kept_all x (y ∷ ys) n =
    keeps (x ∷ []) y ys (λ m. n (inl (sym (only_one x y m))))
    ∙ ap (λ zs. y ∷ zs) (kept_all x ys (λ m. n (inr m)))

removed_is : (x : ℕ) (ys : List ℕ) → Apart ys → removed x ys ≡ without_all (x ∷ []) ys
removed_is x [] a = refl
removed_is x (y ∷ ys) a = by_case (cases_eq y x) (removed_is x ys a.1)
  where
    by_case : (y ≡ x) ⊎ (y ≡ x → ⊥)
        → removed x ys ≡ without_all (x ∷ []) ys
        → removed x (y ∷ ys) ≡ without_all (x ∷ []) (y ∷ ys)
    by_case (inl e) rest =
        ap (λ t. cond t ys (y ∷ removed x ys)) (eq-eqb y x e)
        ∙ sym (kept_all x ys (λ m. a.0 (subst (λ w. IsIn w ys) (sym e) m)))
        ∙ sym (skips (x ∷ []) y ys (inl e))
    by_case (inr n) rest =
        ap (λ t. cond t ys (y ∷ removed x ys)) (eqb_not y x n)
        ∙ ap (λ zs. y ∷ zs) rest
        ∙ sym (keeps (x ∷ []) y ys (λ m. n (only_one x y m)))

without_more : (xs : List ℕ) (x : ℕ) (ys : List ℕ)
    → without_all (x ∷ []) (without_all xs ys) ≡ without_all (xs ++ x ∷ []) ys
without_more xs x [] = refl
without_more xs x (y ∷ ys) = by_case (cases_in y xs) (cases_eq y x) (without_more xs x ys)
  where
    both : List ℕ
    both = xs ++ x ∷ []

    by_case : IsIn y xs ⊎ (IsIn y xs → ⊥)
        → (y ≡ x) ⊎ (y ≡ x → ⊥)
        → without_all (x ∷ []) (without_all xs ys) ≡ without_all (xs ++ x ∷ []) ys
        → without_all (x ∷ []) (without_all xs (y ∷ ys)) ≡ without_all (xs ++ x ∷ []) (y ∷ ys)
    by_case (inl m) c rest =
        ap (without_all (x ∷ [])) (skips xs y ys m)
        ∙ rest
        ∙ sym (skips both y ys (in_left y xs (x ∷ []) m))
    by_case (inr n) (inl e) rest =
        ap (without_all (x ∷ [])) (keeps xs y ys n)
        ∙ skips (x ∷ []) y (without_all xs ys) (inl e)
        ∙ rest
        ∙ sym (skips both y ys (in_right y xs (x ∷ []) (inl e)))
    by_case (inr n) (inr f) rest =
        ap (without_all (x ∷ [])) (keeps xs y ys n)
        ∙ keeps (x ∷ []) y (without_all xs ys) (λ m. f (only_one x y m))
        ∙ ap (λ zs. y ∷ zs) rest
        ∙ sym (keeps both y ys neither)
      where
        in_one : IsIn y xs ⊎ IsIn y (x ∷ []) → ⊥
        in_one (inl m) = n m
        in_one (inr m) = f (only_one x y m)

        neither : IsIn y both → ⊥
        neither m = in_one (in_either y xs (x ∷ []) m)

-- ---- graphs

blank_twice : (o : Option OpRow) (r : OpRow) → blank o ≡ Some r → Some (blank_row r) ≡ blank o
blank_twice None r e = none_some e
blank_twice (Some s) r e = ap (λ (z : OpRow). Some (blank_row z)) (sym (some_same e))

pub blank_is : (o : Option OpRow) → IsSome o → IsSome (blank o)
blank_is None h = absurd (true≢false (sym h))
blank_is (Some r) h = h

pub blanked_none : (g : Graph) → IsWhole g → Blanked [] g g
blanked_none g whole =
    record { changed = λ y m. absurd m; stays = λ y n. refl; blocks = refl; count = refl; whole = whole }

module _ (xs : List ℕ) (x : ℕ) (old g h : Graph) (r : OpRow) (at : op_at g x ≡ Some r) where
  module _ (b : Blanked xs old g) (s : Rewritten x (blank_row r) g h) where
    here : (y : ℕ) → Some x ≡ Some y → op_at h y ≡ Some (blank_row r)
    here y e = ap (λ (f : ℕ → Option OpRow). f y) s.ops ∙ put_here (Some (blank_row r)) (Some x) (op_at g) y e

    away : (y : ℕ) → (Some x ≡ Some y → ⊥) → op_at h y ≡ op_at g y
    away y n = ap (λ (f : ℕ → Option OpRow). f y) s.ops ∙ put_away (Some (blank_row r)) (Some x) (op_at g) y n

    blank_here : Some (blank_row r) ≡ blank (op_at old x)
    blank_here = by_case (cases_in x xs)
      where
        by_case : IsIn x xs ⊎ (IsIn x xs → ⊥) → Some (blank_row r) ≡ blank (op_at old x)
        by_case (inl m) = blank_twice (op_at old x) r (sym (b.changed x m) ∙ at)
        by_case (inr n) = ap blank (sym at ∙ b.stays x n)

    changed : (y : ℕ) → IsIn y (xs ++ x ∷ []) → op_at h y ≡ blank (op_at old y)
    changed y m = by_case (cases_key (Some x) (Some y)) (in_either y xs (x ∷ []) m)
      where
        by_case : (Some x ≡ Some y) ⊎ (Some x ≡ Some y → ⊥)
            → IsIn y xs ⊎ IsIn y (x ∷ [])
            → op_at h y ≡ blank (op_at old y)
        by_case (inl e) c = here y e ∙ blank_here ∙ ap (λ z. blank (op_at old z)) (some_same e)
        by_case (inr n) (inl k) = away y n ∙ b.changed y k
        by_case (inr n) (inr k) = absurd (n (ap Some (sym (only_one x y k))))

    stays : (y : ℕ) → (IsIn y (xs ++ x ∷ []) → ⊥) → op_at h y ≡ op_at old y
    stays y n =
        away y (λ e. n (in_right y xs (x ∷ []) (inl (sym (some_same e)))))
        ∙ b.stays y (λ m. n (in_left y xs (x ∷ []) m))

    pub blanked_more : Blanked (xs ++ x ∷ []) old h
    blanked_more = record {
      changed = changed;
      stays = stays;
      blocks = s.blocks ∙ b.blocks;
      count = s.count ∙ b.count;
      whole = s.whole;
    }

  module _ (whole : IsWhole g) (c : Cleared xs old g) (s : Removed x r g h) where
    gone : (y : ℕ) → IsIn y (xs ++ x ∷ []) → op_at h y ≡ None
    gone y m = by_case (cases_key (Some x) (Some y)) (in_either y xs (x ∷ []) m)
      where
        row : op_at h y ≡ put_at (Some x) None (op_at g) y
        row = ap (λ (f : ℕ → Option OpRow). f y) s.ops

        by_case : (Some x ≡ Some y) ⊎ (Some x ≡ Some y → ⊥) → IsIn y xs ⊎ IsIn y (x ∷ []) → op_at h y ≡ None
        by_case (inl e) k = row ∙ put_here None (Some x) (op_at g) y e
        by_case (inr n) (inl k) = row ∙ put_away None (Some x) (op_at g) y n ∙ c.gone y k
        by_case (inr n) (inr k) = absurd (n (ap Some (sym (only_one x y k))))

    left : (y : ℕ) → (IsIn y (xs ++ x ∷ []) → ⊥) → op_at h y ≡ op_at old y
    left y n =
        ap (λ (f : ℕ → Option OpRow). f y) s.ops
        ∙ put_away None (Some x) (op_at g) y (λ e. n (in_right y xs (x ∷ []) (inl (sym (some_same e)))))
        ∙ c.stays y (λ m. n (in_left y xs (x ∷ []) m))

    one_less : (b : ℕ) → block_at h b ≡ without_all (x ∷ []) (block_at g b)
    one_less b = by_case (cases_key (Some r.block) (Some b))
      where
        list : block_at h b ≡ put_at (Some r.block) (removed x (block_at g r.block)) (block_at g) b
        list = ap (λ (f : ℕ → List ℕ). f b) s.blocks

        by_case : (Some r.block ≡ Some b) ⊎ (Some r.block ≡ Some b → ⊥)
            → block_at h b ≡ without_all (x ∷ []) (block_at g b)
        by_case (inl e) =
            list
            ∙ put_here (removed x (block_at g r.block)) (Some r.block) (block_at g) b e
            ∙ removed_is x (block_at g r.block) (whole.ops_once r.block)
            ∙ ap (λ d. without_all (x ∷ []) (block_at g d)) (some_same e)
        by_case (inr n) =
            list
            ∙ put_away (removed x (block_at g r.block)) (Some r.block) (block_at g) b n
            ∙ sym (kept_all x (block_at g b) (λ m. n (ap Some (subst (in_block b) at ((whole.ops b x).0 m)))))

    pub cleared_more : Cleared (xs ++ x ∷ []) old h
    cleared_more = record {
      gone = gone;
      stays = left;
      blocks =
          λ b. one_less b ∙ ap (without_all (x ∷ [])) (c.blocks b) ∙ without_more xs x (block_at old b);
      count = s.count ∙ c.count;
      whole = s.whole;
    }

without_none : (ys : List ℕ) → ys ≡ without_all [] ys
without_none [] = refl
without_none (y ∷ ys) = ap (λ zs. y ∷ zs) (without_none ys)

pub cleared_none : (g : Graph) → IsWhole g → Cleared [] g g
cleared_none g whole = record {
  gone = λ y m. absurd m;
  stays = λ y n. refl;
  blocks = λ b. without_none (block_at g b);
  count = refl;
  whole = whole;
}

-- what no op reads has no use
pub no_uses : (g : Graph) (x : ℕ)
    → IsWhole g
    → ((y : ℕ) (t : OpRow) → op_at g y ≡ Some t → IsIn x t.inputs → ⊥)
    → uses_at g x ≡ []
no_uses g x whole unread = by_case (uses_at g x) refl
  where
    by_row : (s : Slot) (o : Option OpRow) → op_at g s.op.0 ≡ o → slice_get (inputs_in o) s.slot ≡ Some x → ⊥
    by_row s None e k = none_some k
    by_row s (Some t) e k = unread s.op.0 t e (in_at t.inputs s.slot x k)

    by_case : (us : List Slot) → uses_at g x ≡ us → uses_at g x ≡ []
    by_case [] e = e
    by_case (u ∷ us) e =
        absurd (by_row u (op_at g u.op.0) refl ((whole.uses x u).0 (subst (IsAmong u) (sym e) (inl refl))))

-- ---- lists of ops

pub ops_more : (ops : List OpId) (k : ℕ)
    → k < length ops
    → op_numbers (take k ops) ++ (get_or ops k (record { 0 = 0 })).0 ∷ [] ≡ op_numbers (take (k + 1) ops)
ops_more ops k low = more ops k low ∙ (let e : suc k ≡ k + 1 = omega arith in ap (λ n. op_numbers (take n ops)) e)
  where
    more : (ws : List OpId) (n : ℕ)
        → n < length ws
        → op_numbers (take n ws) ++ (get_or ws n (record { 0 = 0 })).0 ∷ [] ≡ op_numbers (take (suc n) ws)
    more [] n h = absurd (omega arith)
    more (w ∷ ws) zero h = refl
    more (w ∷ ws) (suc n) h = ap (λ us. w.0 ∷ us) (more ws n (omega arith))

pub op_there : (g : Graph) (ops : List OpId) (k : ℕ)
    → AreOps g (op_numbers ops)
    → k < length ops
    → IsOp g (get_or ops k (record { 0 = 0 })).0
op_there g [] k a low = absurd (omega arith)
op_there g (v ∷ vs) zero a low = a.0
op_there g (v ∷ vs) (suc k) a low = op_there g vs k a.1 (omega arith)

pub op_in : (ops : List OpId) (k : ℕ) → k < length ops → IsIn (get_or ops k (record { 0 = 0 })).0 (op_numbers ops)
op_in [] k low = absurd (omega arith)
op_in (v ∷ vs) zero low = inl refl
op_in (v ∷ vs) (suc k) low = inr (op_in vs k (omega arith))

in_taken : (ops : List OpId) (k x : ℕ) → IsIn x (op_numbers (take k ops)) → IsIn x (op_numbers ops)
in_taken [] zero x m = m
in_taken [] (suc k) x m = m
in_taken (v ∷ vs) zero x m = absurd m
in_taken (v ∷ vs) (suc k) x (inl e) = inl e
in_taken (v ∷ vs) (suc k) x (inr m) = inr (in_taken vs k x m)

-- where no op stands twice, one isn't among those before it
pub not_before : (ops : List OpId) (k : ℕ)
    → Apart (op_numbers ops)
    → k < length ops
    → IsIn (get_or ops k (record { 0 = 0 })).0 (op_numbers (take k ops))
    → ⊥
not_before [] k a low m = absurd (omega arith)
not_before (v ∷ vs) zero a low m = absurd m
not_before (v ∷ vs) (suc k) a low (inl e) =
    a.0 (subst (λ w. IsIn w (op_numbers vs)) e (op_in vs k (omega arith)))
not_before (v ∷ vs) (suc k) a low (inr m) = not_before vs k a.1 (omega arith) m

-- an op is there as long as only constants were made of others
pub blanked_there : (xs : List ℕ) (old g : Graph) (x : ℕ) → Blanked xs old g → IsOp old x → IsOp g x
blanked_there xs old g x b h = by_case (cases_in x xs)
  where
    by_case : IsIn x xs ⊎ (IsIn x xs → ⊥) → IsOp g x
    by_case (inl m) = subst IsSome (sym (b.changed x m)) (blank_is (op_at old x) h)
    by_case (inr n) = subst IsSome (sym (b.stays x n)) h

-- what is left of a graph in which no op reads x
pub unread_still : (xs : List ℕ) (old g : Graph) (x : ℕ)
    → Cleared xs old g
    → ((y : ℕ) (t : OpRow) → op_at old y ≡ Some t → IsIn x t.inputs → ⊥)
    → (y : ℕ) (t : OpRow)
    → op_at g y ≡ Some t
    → IsIn x t.inputs
    → ⊥
unread_still xs old g x c none y t e m = by_case (cases_in y xs)
  where
    by_case : IsIn y xs ⊎ (IsIn y xs → ⊥) → ⊥
    by_case (inl k) = none_some (sym (c.gone y k) ∙ e)
    by_case (inr n) = none y t (sym (c.stays y n) ∙ e) m

-- ---- slots

slots_more : (g : Graph) (xs : List ℕ) (x : ℕ)
    → slots_of g (xs ++ x ∷ []) ≡ slots_of g xs + length (inputs_in (op_at g x))
slots_more g [] x = zero_right (length (inputs_in (op_at g x)))
  where
    zero_right : (n : ℕ) → n + 0 ≡ 0 + n
    zero_right n = omega arith
slots_more g (y ∷ ys) x =
    ap (λ n. length (inputs_in (op_at g y)) + n) (slots_more g ys x)
    ∙ moved (length (inputs_in (op_at g y))) (slots_of g ys) (length (inputs_in (op_at g x)))
  where
    moved : (a b c : ℕ) → a + (b + c) ≡ a + b + c
    moved a b c = omega arith

pub slots_step : (g : Graph) (ops : List OpId) (k : ℕ)
    → k < length ops
    → slots_of g (op_numbers (take k ops)) + length (inputs_in (op_at g (get_or ops k (record { 0 = 0 })).0))
    ≡ slots_of g (op_numbers (take (k + 1) ops))
slots_step g ops k low =
    sym (slots_more g (op_numbers (take k ops)) (get_or ops k (record { 0 = 0 })).0)
    ∙ ap (slots_of g) (ops_more ops k low)
