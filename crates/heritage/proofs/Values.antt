-- Values that are put into rows.
use Rattle.std.proofs.Common.{◌≡◌, ℕ, ◌+◌, ◌*◌, ◌/◌, ◌%◌, ◌==◌, ◌&&◌, ◌<◌, ◌≤◌, nat_lt, Bool, true, false, List, length, sym, ap, ap₂, ◌∙◌, refl, if◌then◌else◌, arith}
use Rattle.std.specs.Prelude.{Option, Some, None, get_or, cond, slice_set}
use Rattle.std.specs.Ordering.{is_eq, nat_cmp}
use Rattle.std.specs.Cmp.{both_tied, unsigned_tied}
use Rattle.std.proofs.Math.Nat.{mul-le-mul_right}
use Rattle.std.proofs.lemmas.Nat.{div-mul-add, mod-mul-add}
use Rattle.std.proofs.lemmas.List.{get_or-set_other}
use Rattle.std.proofs.lemmas.Grind.{get_or-set_at}
use Rattle.std.proofs.lemmas.Bool.{eqb-true, eqb-false, ltb-true, ltb-false}
use Rattle.std.proofs.lemmas.Bool.Decides.{nat_tests}
use Rattle.std.proofs.Math.Path.{fun_ext}
use Rattle.std.specs.BTreeMap.{BTreeMap, get, Updates}
use Rattle.heritage.specs.Rows.{pair_cmp, with_value}

-- a place is that of one block and one of the first variables
pub same_place : (b c low v w : ℕ)
    → v < low
    → w < low
    → b * low + v ≡ c * low + w
    → (b ≡ c) × (v ≡ w)
same_place b c low v w vl wl e = (
  sym (div-mul-add b low v vl) ∙ ap (λ n. n / low) e ∙ div-mul-add c low w wl,
  sym (mod-mul-add b low v vl) ∙ ap (λ n. n % low) e ∙ mod-mul-add c low w wl,
)

-- a place lies within the blocks
pub place_within : (blocks b low v : ℕ) → b < blocks → v < low → b * low + v < blocks * low
place_within blocks b low v bl vl = omega (arith, mul-le-mul_right low bl)

turned : (a b : ℕ) → (a == b) ≡ (b == a)
turned a b = grind (arith, nat_tests)

pub pair_is : (c d b v : ℕ) → is_eq (pair_cmp (c, d) (b, v)) ≡ ((c == b) && (d == v))
pair_is c d b v =
    sym (both_tied (c == b) (d == v) (nat_cmp c b) (nat_cmp d v) (sym (unsigned_tied c b)) (sym (unsigned_tied d v)))

module _ (xs : List (Option ℕ)) (rest : ℕ → ℕ → Option ℕ) (low block variable value : ℕ) (first : variable < low)
    (inside : block * low + variable < length xs) where
  -- the value that the first variables have in the places, and the others in the rest
  abbrev before : ℕ → ℕ → Option ℕ
  before b v = if nat_lt v low then get_or xs (b * low + v) None else rest b v

  abbrev after : ℕ → ℕ → Option ℕ
  after b v =
      if nat_lt v low then get_or (slice_set xs (block * low + variable) (Some value)) (b * low + v) None else rest b v

  -- one of the first variables has its value in its place
  pub put_dense : after ≡ with_value block variable value before
  put_dense = fun_ext (λ b. fun_ext (λ v. at b v (nat_lt v low) (b == block) (v == variable) refl refl refl))
    where
      at : (b v : ℕ) (t p q : Bool)
          → nat_lt v low ≡ t
          → (b == block) ≡ p
          → (v == variable) ≡ q
          → (if t then get_or (slice_set xs (block * low + variable) (Some value)) (b * low + v) None else rest b v)
          ≡ (if p && q then Some value else (if t then get_or xs (b * low + v) None else rest b v))
      at b v true true true lt e f =
          get_or-set_at xs (block * low + variable) (b * low + v) (Some value) None
          (ap₂ (λ c w. c * low + w) (eqb-true b block e) (eqb-true v variable f)) inside
      at b v true true false lt e f =
          get_or-set_other xs (block * low + variable) (b * low + v) (Some value) None
          (λ same. eqb-false v variable f (same_place b block low v variable (ltb-true v low lt) first same).1)
      at b v true false q lt e f =
          get_or-set_other xs (block * low + variable) (b * low + v) (Some value) None
          (λ same. eqb-false b block e (same_place b block low v variable (ltb-true v low lt) first same).0)
      at b v false true true lt e f =
          let same : v ≡ variable = eqb-true v variable f in
          absurd (omega (arith, ltb-false v low lt, same, first))
      at b v false true false lt e f = refl
      at b v false false q lt e f = refl

-- another variable has its value in the table
pub put_sparse : (old new : BTreeMap (ℕ × ℕ) ℕ) (xs : ℕ → ℕ → Option ℕ) (low block variable value : ℕ)
    → low ≤ variable
    → Updates pair_cmp old new (block, variable) (Some value)
    → (λ b v. if nat_lt v low then xs b v else get pair_cmp new (b, v))
    ≡ (with_value block variable value (λ b v. if nat_lt v low then xs b v else get pair_cmp old (b, v)))
put_sparse old new xs low block variable value above updates =
    fun_ext (λ b. fun_ext (λ v. at b v (nat_lt v low) (b == block) (v == variable) refl refl refl))
  where
    got : (b v : ℕ) → get pair_cmp new (b, v) ≡ cond ((block == b) && (variable == v)) (Some value) (get pair_cmp old (b, v))
    got b v = updates.0 (b, v) ∙ ap (λ t. cond t (Some value) (get pair_cmp old (b, v))) (pair_is block variable b v)

    at : (b v : ℕ) (t p q : Bool)
        → nat_lt v low ≡ t
        → (b == block) ≡ p
        → (v == variable) ≡ q
        → (if t then xs b v else get pair_cmp new (b, v))
        ≡ (if p && q then Some value else (if t then xs b v else get pair_cmp old (b, v)))
    at b v true true true lt e f = absurd (omega (arith, ltb-true v low lt, eqb-true v variable f, above))
    at b v true true false lt e f = refl
    at b v true false q lt e f = refl
    at b v false true true lt e f =
        got b v ∙ ap₂ (λ s t. cond (s && t) (Some value) (get pair_cmp old (b, v))) (turned block b ∙ e) (turned variable v ∙ f)
    at b v false true false lt e f =
        got b v ∙ ap₂ (λ s t. cond (s && t) (Some value) (get pair_cmp old (b, v))) (turned block b ∙ e) (turned variable v ∙ f)
    at b v false false q lt e f =
        got b v ∙ ap₂ (λ s t. cond (s && t) (Some value) (get pair_cmp old (b, v))) (turned block b ∙ e) (turned variable v ∙ f)
