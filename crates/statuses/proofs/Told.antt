-- What came of reading where no fault was counted and the bytes are told.
use Rattle.std.proofs.Common.{◌≡◌, ◌∙◌, ◌≤◌, ◌+◌, ℕ, ◌++◌, List, Bool, true, false, Option, Some, None, Result, Ok, Err, length, length-append, append-nil, refl, sym, ap, subst, arith}
use Rattle.std.specs.Prelude.{nat_lt, if◌then◌else◌}
use Rattle.std.specs.Io.KnownBytes.{Consumes, IsAtEnd}
use Rattle.std.proofs.lemmas.Bool.Decides.{nat_tests}
use Rattle.outside.specs.Causes.{Rose}
use Rattle.outside.specs.Reading.{Gave, TookExactly}
use Rattle.outside.specs.Told.{Told}
use Rattle.outside.specs.declared.reading.ReadEnd.{ReadEnd}
use Rattle.outside.specs.declared.reading.ReadEnd.TheVariants.{Fault, TooLong, Memory}
use Rattle.statuses.specs.Told.{Quiet, whole}

-- no fault was counted, so that none can have been
pub no_fault : {P : Type 0} (before now : ℕ) → Quiet before now → Rose before now → P
no_fault before now quiet rose = absurd (omega arith)

-- a source that tells its bytes gave them all
all_came : (told : List ℕ) (left_new : Option (List ℕ)) (bytes : List ℕ)
    → Consumes (Some told) left_new bytes
    → IsAtEnd left_new
    → told ≡ bytes
all_came told None bytes came end = absurd came
all_came told (Some rest) bytes came end = came ∙ ap (λ l. bytes ++ l) end ∙ append-nil bytes

longer : (told : List ℕ) (left_new : Option (List ℕ)) (n : ℕ) → TookExactly (Some told) left_new n → n ≤ length told
longer told None n came = absurd came.1
longer told (Some rest) n came = omega (arith, ap length came.1, length-append came.0 rest, came.2)

short_whole : (limit : ℕ) (bytes : List ℕ) → length bytes ≤ limit → Ok bytes ≡ whole limit bytes
short_whole limit bytes short = by (nat_lt limit (length bytes)) refl
  where
    by : (t : Bool)
        → nat_lt limit (length bytes) ≡ t
        → ◌≡◌ {A = Result (List ℕ) ReadEnd} (Ok bytes) (if t then Err TooLong else Ok bytes)
    by true e = absurd (grind (arith, nat_tests))
    by false e = refl

long_whole : (limit : ℕ) (bytes : List ℕ) → limit + 1 ≤ length bytes → Err TooLong ≡ whole limit bytes
long_whole limit bytes long = by (nat_lt limit (length bytes)) refl
  where
    by : (t : Bool)
        → nat_lt limit (length bytes) ≡ t
        → ◌≡◌ {A = Result (List ℕ) ReadEnd} (Err TooLong) (if t then Err TooLong else Ok bytes)
    by true e = refl
    by false e = absurd (grind (arith, nat_tests))

module _ (limit : ℕ) (old new : Told) (told : List ℕ) (is : old.left ≡ Some told) where
  -- Where a source that tells its bytes was read to its end, these are all of them.
  pub all_whole : (bytes : List ℕ) → Gave limit old new (Ok bytes) → Ok bytes ≡ whole limit told
  all_whole bytes g =
      let e : told ≡ bytes = all_came told new.left bytes
      (subst (λ (l : Option (List ℕ)). Consumes l new.left bytes) is g.0) g.1 in
      subst (λ (b : List ℕ). Ok b ≡ whole limit told) e
      (short_whole limit told (subst (λ (b : List ℕ). length b ≤ limit) (sym e) g.2))

  -- Where one byte too many came, there are too many.
  pub too_many : Gave limit old new (Err TooLong) → Err TooLong ≡ whole limit told
  too_many g = long_whole limit told
      (longer told new.left (limit + 1) (subst (λ (l : Option (List ℕ)). TookExactly l new.left (limit + 1)) is g.0))

  -- Reading a source that tells its bytes gave what must come, unless memory ran out.
  pub came_whole : Quiet old.faults new.faults
      → (came : Result (List ℕ) ReadEnd)
      → Gave limit old new came
      → (came ≡ Err Memory → ⊥)
      → came ≡ whole limit told
  came_whole quiet (Ok bytes) g not = all_whole bytes g
  came_whole quiet (Err Fault) g not = no_fault old.faults new.faults quiet g.1
  came_whole quiet (Err TooLong) g not = too_many g
  came_whole quiet (Err Memory) g not = absurd (not refl)
