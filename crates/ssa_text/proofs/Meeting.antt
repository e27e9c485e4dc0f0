-- The heads that were met are the heads among the ops that were met, with their ranks.
use Rattle.std.proofs.Common.{◌≡◌, ℕ, Bool, true, false, cond, List, [], ◌∷◌, ◌++◌, Option, Some, None, refl, sym, ap, ◌∙◌}
use Rattle.sorting.specs.declared.ranked.Ranked.{Ranked}
use Rattle.sorting.specs.Ranks.{HaveRanks, numbers_of}
use Rattle.ssa_model.specs.Roles.{Role, Joins, Starts}
use Rattle.ssa_model.specs.Outline.{Rows, atom_in, is_multi, only, role_at}
use Rattle.ssa_model.specs.Starting.{is_start, start_rank, storage_rank}
use Rattle.ssa_text.specs.Ranked.{added, atom_if, rank_if}

-- Of what ops have met so far, by a test and a rank of a role.
pub record Met (keeps : ℕ → Bool) (rank : ℕ → ℕ) (ranked : List Ranked) (left all : List ℕ) : Type 0 where
  pub numbers : numbers_of ranked ++ only keeps left ≡ only keeps all
  pub ranks : HaveRanks rank ranked

module _ (keeps : ℕ → Bool) (rank : ℕ → ℕ) where
  numbers_more : (rs : List Ranked) (r : Ranked) (ys : List ℕ)
      → numbers_of (rs ++ r ∷ []) ++ ys ≡ numbers_of rs ++ r.number ∷ ys
  numbers_more [] r ys = refl
  numbers_more (s ∷ rs) r ys = ap (λ zs. s.number ∷ zs) (numbers_more rs r ys)

  ranks_more : (rs : List Ranked) (r : Ranked) → HaveRanks rank rs → r.rank ≡ rank r.number → HaveRanks rank (rs ++ r ∷ [])
  ranks_more [] r all is = (is, tt)
  ranks_more (s ∷ rs) r all is = (all.0, ranks_more rs r all.1 is)

  pub none_met : (all : List ℕ) → Met keeps rank [] all all
  none_met all = record { numbers = refl; ranks = tt }

  -- an op that is kept
  met : (rs : List Ranked) (r : Ranked) (left all : List ℕ)
      → keeps r.number ≡ true
      → r.rank ≡ rank r.number
      → Met keeps rank rs (r.number ∷ left) all
      → Met keeps rank (rs ++ r ∷ []) left all
  met rs r left all kept is h = record {
    numbers =
        numbers_more rs r (only keeps left)
        ∙ ap (λ b. numbers_of rs ++ cond b (r.number ∷ only keeps left) (only keeps left)) (sym kept)
        ∙ h.numbers;
    ranks = ranks_more rs r h.ranks is;
  }

  -- another one
  passed : (rs : List Ranked) (x : ℕ) (left all : List ℕ)
      → keeps x ≡ false
      → Met keeps rank rs (x ∷ left) all
      → Met keeps rank rs left all
  passed rs x left all other h = record {
    numbers = ap (λ b. numbers_of rs ++ cond b (x ∷ only keeps left) (only keeps left)) (sym other) ∙ h.numbers;
    ranks = h.ranks;
  }

abbrev pub MultisMet : Rows → List Ranked → List ℕ → List ℕ → Type 0
MultisMet rows rs left all = Met (λ y. is_multi (role_at rows y)) (λ y. atom_in (role_at rows y)) rs left all

abbrev pub StartsMet : Rows → List Ranked → List ℕ → List ℕ → Type 0
StartsMet rows rs left all = Met (λ y. is_start (role_at rows y)) (λ y. start_rank (role_at rows y)) rs left all

-- by the rank of an op, where it has one
pub joined_met : (rows : Rows) (rs : List Ranked) (x : ℕ) (left all : List ℕ)
    → MultisMet rows rs (x ∷ left) all
    → MultisMet rows (added rs (atom_if (role_at rows x)) x) left all
joined_met rows rs x left all h = by (role_at rows x) refl
  where
    by : (r : Option Role)
        → role_at rows x ≡ r
        → MultisMet rows (added rs (atom_if r) x) left all
    by None e = passed (λ y. is_multi (role_at rows y)) (λ y. atom_in (role_at rows y)) rs x left all (ap is_multi e) h
    by (Some (Joins atom)) e =
        met (λ y. is_multi (role_at rows y)) (λ y. atom_in (role_at rows y)) rs (record { rank = atom; number = x }) left all (ap is_multi e) (sym (ap atom_in e)) h
    by (Some role) e = passed (λ y. is_multi (role_at rows y)) (λ y. atom_in (role_at rows y)) rs x left all (ap is_multi e) h

pub started_met : (rows : Rows) (rs : List Ranked) (x : ℕ) (left all : List ℕ)
    → StartsMet rows rs (x ∷ left) all
    → StartsMet rows (added rs (rank_if (role_at rows x)) x) left all
started_met rows rs x left all h = by (role_at rows x) refl
  where
    by : (r : Option Role)
        → role_at rows x ≡ r
        → StartsMet rows (added rs (rank_if r) x) left all
    by None e = passed (λ y. is_start (role_at rows y)) (λ y. start_rank (role_at rows y)) rs x left all (ap is_start e) h
    by (Some (Starts s)) e =
        met (λ y. is_start (role_at rows y)) (λ y. start_rank (role_at rows y)) rs (record { rank = storage_rank s; number = x }) left all (ap is_start e) (sym (ap start_rank e)) h
    by (Some role) e = passed (λ y. is_start (role_at rows y)) (λ y. start_rank (role_at rows y)) rs x left all (ap is_start e) h
