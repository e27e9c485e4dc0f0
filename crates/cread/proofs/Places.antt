-- The places of parameters, as the tables have them.
use Rattle.std.proofs.Common.{◌≡◌, ℕ, suc, ◌+◌, ◌<◌, Bool, true, false, List, [], ◌∷◌, length, refl, sym, ap, ◌∙◌, arith}
use Rattle.std.specs.Prelude.{Option, Some, None, IfSome, if◌then◌else◌}
use Rattle.std.specs.Option.{option_map}
use Rattle.cmeaning.specs.declared.tree.Param.{Param}
use Rattle.cmeaning.specs.Places.{place}
use Rattle.cmeaning.proofs.Places.{some_first}
use Rattle.cread.specs.declared.item.Entry.{Entry}
use Rattle.cread.specs.Names.{is_entry, place_of}

later : (e : Entry) (n : ℕ) (ps : List Param) → option_map (λ m. n + m) (place (is_entry e) ps) ≡ place_of e n ps
later e n [] = refl
later e n (p ∷ ps) = by_test (is_entry e p) (later e (n + 1) ps)
  where
    one : (o : Option ℕ) → option_map (λ m. n + m) (option_map suc o) ≡ option_map (λ m. (n + 1) + m) o
    one None = refl
    one (Some m) = ap (λ (k : ℕ). Some k) (omega arith)

    by_test : (t : Bool) → option_map (λ m. (n + 1) + m) (place (is_entry e) ps) ≡ place_of e (n + 1) ps
        → option_map (λ m. n + m) (if t then Some 0 else option_map suc (place (is_entry e) ps))
        ≡ (if t then Some n else place_of e (n + 1) ps)
    by_test true next = ap (λ (k : ℕ). Some k) (omega arith)
    by_test false next = one (place (is_entry e) ps) ∙ next

pub place_is : (e : Entry) (ps : List Param) → place (is_entry e) ps ≡ place_of e 0 ps
place_is e ps = by_place (place (is_entry e) ps) ∙ later e 0 ps
  where
    by_place : (o : Option ℕ) → o ≡ option_map (λ m. 0 + m) o
    by_place None = refl
    by_place (Some m) = ap (λ (k : ℕ). Some k) (omega arith)

pub place_within : {A : Type 0} (test : A → Bool) (xs : List A) (o : Option ℕ)
    → o ≡ place test xs
    → IfSome o (λ n. n < length xs)
place_within test xs None is = tt
place_within test xs (Some n) is = (some_first test n xs (sym is)).0
