-- What variables hold after one is assigned.
use Rattle.std.proofs.Common.{◌≡◌, ℕ, zero, suc, ◌+◌, ◌-◌, ◌<◌, List, [], ◌∷◌, length, slice_get, slice_set, Option, Some, None, refl, arith}
use Rattle.std.proofs.Math.Dec.{eqb-suc-suc, eqb-suc-zero, eqb-zero-suc}
use Rattle.std.proofs.lemmas.Option.{slice_get_within}
use Rattle.std.proofs.Math.Path.{fun_ext}
use Rattle.std.proofs.Math.ListN.{replicate}
use Rattle.bits_core.specs.declared.word.Word.{Word}
use Rattle.cmeaning.specs.declared.tree.CFunction.{CFunction}
use Rattle.cmeaning.specs.declared.tree.Local.{Local}
use Rattle.cmeaning.specs.declared.tree.Param.{Param}
use Rattle.cmeaning.specs.Do.{widths_in, variable_width, local_width}
use Rattle.pcode_model.specs.Spaces.{put}
use Rattle.cvalue.specs.Held.{env_of, AreWide}

env_set_at : (xs : List (Option Word)) (v k : ℕ) (w : Word)
    → v < length xs
    → env_of (slice_set xs v (Some w)) k ≡ put (env_of xs) v (Some w.value) k
env_set_at [] v k w h = absurd (omega arith)
env_set_at (x ∷ xs) zero zero w h = refl
env_set_at (x ∷ xs) zero (suc k) w h = rw (eqb-suc-zero k) refl
env_set_at (x ∷ xs) (suc v) zero w h = rw (eqb-zero-suc v) refl
env_set_at (x ∷ xs) (suc v) (suc k) w h = rw (eqb-suc-suc k v) (env_set_at xs v k w (omega arith))

pub env_set : (xs : List (Option Word)) (v : ℕ) (w : Word)
    → v < length xs
    → env_of (slice_set xs v (Some w)) ≡ put (env_of xs) v (Some w.value)
env_set xs v w h = fun_ext (λ k. env_set_at xs v k w h)

pub wide_set : (ws : ℕ → ℕ) (xs : List (Option Word)) (v : ℕ) (w : Word)
    → AreWide ws xs
    → w.width.bytes ≡ ws v
    → AreWide ws (slice_set xs v (Some w))
wide_set ws [] v w h e k y is = h k y is
wide_set ws (x ∷ xs) zero w h e zero y is = let same : w ≡ y = cc in cc
wide_set ws (x ∷ xs) zero w h e (suc k) y is = h (suc k) y is
wide_set ws (x ∷ xs) (suc v) w h e zero y is = h zero y is
wide_set ws (x ∷ xs) (suc v) w h e (suc k) y is = wide_set (λ n. ws (suc n)) xs v w (λ n. h (suc n)) e k y is

local_inside : (xs : List Local) (n : ℕ) → 0 < local_width (slice_get xs n) → n < length xs
local_inside [] n h = absurd (omega arith)
local_inside (x ∷ xs) zero h = omega arith
local_inside (x ∷ xs) (suc n) h = let below : n < length xs = local_inside xs n h in omega arith

inside_by : (o : Option Param) (params : List Param) (locals : List Local) (v : ℕ)
    → slice_get params v ≡ o
    → 0 < variable_width o (slice_get locals (v - length params))
    → v < length params + length locals
inside_by None params locals v is h =
    let below : v - length params < length locals = local_inside locals (v - length params) h in
    omega arith
inside_by (Some p) params locals v is h = let below : v < length params = slice_get_within params v p is in omega arith

-- a variable that has a width is one of the function's
pub inside : (f : CFunction) (v : ℕ) → 0 < widths_in f v → v < length f.params + length f.locals
inside f v h = inside_by (slice_get f.params v) f.params f.locals v refl h

none_held_at : (n v : ℕ) → env_of (replicate n None) v ≡ None
none_held_at zero v = refl
none_held_at (suc n) zero = refl
none_held_at (suc n) (suc v) = none_held_at n v

pub none_held : (n : ℕ) → env_of (replicate n None) ≡ λ v. None
none_held n = fun_ext (λ v. none_held_at n v)

pub none_wide : (ws : ℕ → ℕ) (n : ℕ) → AreWide ws (replicate n None)
none_wide ws zero v w is = cc
none_wide ws (suc n) zero w is = cc
none_wide ws (suc n) (suc v) w is = none_wide (λ k. ws (suc k)) n v w is
