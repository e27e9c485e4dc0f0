-- What reads a value isn't on every path to that value's place.
use Rattle.std.proofs.Common.{◌≡◌, ℕ, List, [], ◌∷◌, ◌⊎◌, inl, inr, Option, Some, None, refl, sym, subst}
use Rattle.std.proofs.lemmas.Bool.{cases_eq}
use Rattle.node_lists.specs.Chains.{IsIn}
use Rattle.node_lists.proofs.Detach.{cases_in}
use Rattle.opgraph.specs.Graph.{OpRow, in_block}
use Rattle.ssa_model.specs.declared.form.SsaBlock.{SsaBlock}
use Rattle.ssa_model.specs.Roles.{role_of}
use Rattle.ssa_model.specs.Outline.{Form, OpForm, form_in, outline}
use Rattle.ssa_model.specs.Paths.{Path, Start, Step, IsPassed, IsJoin, Read, Available, Strict, before_op}
use Rattle.ssa_model.proofs.Lists.{before_here, before_far}

-- ---- what stands before an op

pub in_before : (x v : ℕ) (xs : List ℕ) → IsIn v (before_op x xs) → IsIn v xs
in_before x v [] m = m
in_before x v (y ∷ ys) m = by_case (cases_eq y x) (in_before x v ys)
  where
    by_case : (y ≡ x) ⊎ (y ≡ x → ⊥) → (IsIn v (before_op x ys) → IsIn v ys) → IsIn v (y ∷ ys)
    by_case (inl e) next = absurd (subst (IsIn v) (before_here x y ys e) m)
    by_case (inr n) next = further (subst (IsIn v) (before_far x y ys n) m)
      where
        further : IsIn v (y ∷ before_op x ys) → IsIn v (y ∷ ys)
        further (inl e) = inl e
        further (inr k) = inr (next k)

-- of two ops only one stands before the other
one_before : (x v : ℕ) (xs : List ℕ) → IsIn x (before_op v xs) → IsIn v (before_op x xs) → ⊥
one_before x v [] m k = m
one_before x v (y ∷ ys) m k = by_case (cases_eq y x) (cases_eq y v) (one_before x v ys)
  where
    behind : (w : ℕ) (zs : List ℕ) → (y ≡ w → ⊥) → IsIn w (y ∷ zs) → IsIn w zs
    behind w zs n (inl e) = absurd (n (sym e))
    behind w zs n (inr h) = h

    by_case : (y ≡ x) ⊎ (y ≡ x → ⊥)
        → (y ≡ v) ⊎ (y ≡ v → ⊥)
        → (IsIn x (before_op v ys) → IsIn v (before_op x ys) → ⊥)
        → ⊥
    by_case (inl e) q next = subst (IsIn v) (before_here x y ys e) k
    by_case (inr n) (inl e) next = subst (IsIn x) (before_here v y ys e) m
    by_case (inr n) (inr o) next =
        next (behind x (before_op v ys) n (subst (IsIn x) (before_far v y ys o) m))
        (behind v (before_op x ys) o (subst (IsIn v) (before_far x y ys n) k))

-- ---- the first time that a path comes to a block

pub record Arrival (blocks : List SsaBlock) (entry : ℕ) (among : List ℕ) (c : ℕ) : Type 0 where
  pub passed : List ℕ
  pub path : Path blocks entry passed c
  pub new : IsIn c passed → ⊥
  pub less : (x : ℕ) → IsIn x passed → IsIn x among

-- of a path that passed the block, the part up to its first time there
pub cut_at : (blocks : List SsaBlock) (entry c : ℕ) (passed : List ℕ) (b : ℕ)
    → Path blocks entry passed b
    → IsIn c passed
    → Arrival blocks entry passed c
cut_at blocks entry c [] b Start m = absurd m
cut_at blocks entry c (d ∷ passed) b (Step ps from to p lead) m =
    by_case (cases_in c ps) m (cut_at blocks entry c ps from p)
  where
    by_case : IsIn c ps ⊎ (IsIn c ps → ⊥)
        → IsIn c (from ∷ ps)
        → (IsIn c ps → Arrival blocks entry ps c)
        → Arrival blocks entry (from ∷ ps) c
    by_case (inl k) q next =
        let a = next k in
        record { passed = a.passed; path = a.path; new = a.new; less = λ x h. inr (a.less x h) }
    by_case (inr n) (inl e) next = record {
      passed = ps;
      path = subst (Path blocks entry ps) (sym e) p;
      new = n;
      less = λ x h. inr h;
    }
    by_case (inr n) (inr k) next = absurd (n k)

pub arrival : (blocks : List SsaBlock) (entry c : ℕ) (passed : List ℕ)
    → Path blocks entry passed c
    → Arrival blocks entry passed c
arrival blocks entry c passed p = by_case (cases_in c passed)
  where
    by_case : IsIn c passed ⊎ (IsIn c passed → ⊥) → Arrival blocks entry passed c
    by_case (inl m) = cut_at blocks entry c passed c p m
    by_case (inr n) = record { passed = passed; path = p; new = n; less = λ x h. h }

-- ---- a path that doesn't pass a value

-- some path to a place doesn't pass v
pub record IsMissed (f : Form) (v b : ℕ) (before : List ℕ) : Type 0 where
  pub passed : List ℕ
  pub path : Path f.blocks f.entry passed b
  pub misses : IsPassed ((outline f).forms v) v passed before → ⊥

-- so it isn't available
pub missed_not : (f : Form) (v b : ℕ) (before : List ℕ)
    → IsMissed f v b before
    → Available (outline f) v b before
    → ⊥
missed_not f v b before m h = m.misses (h m.passed m.path)

-- the op has a row, and its block isn't passed, nor is it before the place
pub not_passed : (f : Form) (v : ℕ) (r : OpRow) (passed before : List ℕ)
    → f.rows v ≡ Some r
    → (IsIn r.block passed → ⊥)
    → (IsIn v before → ⊥)
    → IsPassed ((outline f).forms v) v passed before
    → ⊥
not_passed f v r passed before e n o h =
    by_case (subst (λ (z : Option OpRow). IsPassed (form_in f.rows z) v passed before) e h)
  where
    by_case : IsIn r.block passed ⊎ IsIn v before → ⊥
    by_case (inl m) = n m
    by_case (inr m) = o m

-- what is not missed with more before the place isn't with less
pub missed_less : (f : Form) (v b : ℕ) (before less : List ℕ)
    → (IsIn v less → IsIn v before)
    → IsMissed f v b before
    → IsMissed f v b less
missed_less f v b before less k m = record {
  passed = m.passed;
  path = m.path;
  misses = λ h. m.misses (by_row ((outline f).forms v) h);
}
  where
    by_row : (o : Option OpForm) → IsPassed o v m.passed less → IsPassed o v m.passed before
    by_row None h = h
    by_row (Some g) (inl q) = inl q
    by_row (Some g) (inr q) = inr (k q)

-- each op stands in the list of its block alone
abbrev pub ArePlaced : Form → Type 0
ArePlaced f = (b x : ℕ) → IsIn x (f.lists b) → in_block b (f.rows x)

pub block_is : (f : Form)
    → ArePlaced f
    → (b x : ℕ) (r : OpRow)
    → f.rows x ≡ Some r
    → IsIn x (f.lists b)
    → r.block ≡ b
block_is f placed b x r e m = subst (in_block b) e (placed b x m)

module _ (f : Form) (strict : Strict f) (placed : ArePlaced f) where
  -- Of an op v that reads x, some path to x doesn't pass v.
  pub avoids : (v x : ℕ) (r t : OpRow)
      → f.rows v ≡ Some r
      → f.rows x ≡ Some t
      → (IsJoin (role_of r.code) → ⊥)
      → IsIn x r.inputs
      → ((passed : List ℕ) × Path f.blocks f.entry passed r.block)
      → IsMissed f v t.block (before_op x (f.lists t.block))
  avoids v x r t ev ex plain m reach =
      let a = arrival f.blocks f.entry r.block reach.0 reach.1 in
      by_place a
      (subst (λ (z : Option OpRow). IsPassed (form_in f.rows z) x a.passed (before_op v (f.lists r.block))) ex
      (strict.passes x r.block (before_op v (f.lists r.block)) (Read v r ev plain m refl refl) a.passed a.path))
    where
      by_place : (a : Arrival f.blocks f.entry reach.0 r.block)
          → IsIn t.block a.passed ⊎ IsIn x (before_op v (f.lists r.block))
          → IsMissed f v t.block (before_op x (f.lists t.block))
      by_place a (inl k) =
          let c = cut_at f.blocks f.entry t.block a.passed r.block a.path k in
          record {
            passed = c.passed;
            path = c.path;
            misses = not_passed f v r c.passed (before_op x (f.lists t.block)) ev
                (λ h. a.new (c.less r.block h))
                (λ h. a.new
                (subst (λ d. IsIn d a.passed)
                (sym (block_is f placed t.block v r ev (in_before x v (f.lists t.block) h))) k));
          }
      by_place a (inr k) =
          let same : t.block ≡ r.block = block_is f placed r.block x t ex (in_before v x (f.lists r.block) k) in
          subst (λ d. IsMissed f v d (before_op x (f.lists d))) (sym same)
          (record {
            passed = a.passed;
            path = a.path;
            misses = not_passed f v r a.passed (before_op x (f.lists r.block)) ev a.new
                (one_before x v (f.lists r.block) k);
          })
