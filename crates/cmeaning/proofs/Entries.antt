-- The first places of parameters, by their table.
use Rattle.std.proofs.Common.{◌≡◌, ℕ, ◌==◌, ◌&&◌, nat_lt, Bool, true, false, List, [], ◌∷◌, ◌++◌, length, refl, sym, ap, ap₂, ◌∙◌, arith}
use Rattle.std.specs.Prelude.{ℤ, cond, suc, if◌then◌else◌, Option, Some, None}
use Rattle.std.specs.Option.{option_map}
use Rattle.std.specs.declared.cmp.Ordering.{Ordering}
use Rattle.std.specs.declared.cmp.Ordering.TheVariants.{Less, Equal, Greater}
use Rattle.std.specs.Ordering.{is_eq, bool_cmp, nat_cmp, int_cmp, ordering_then}
use Rattle.std.specs.BTreeMap.{BTreeMap, get, Updates}
use Rattle.std.proofs.lemmas.Bool.Decides.{nat_tests}
use Rattle.std.proofs.lemmas.Map.Lookups.{CmpEqualImpliesEq, exact_unsigned, exact_signed, exact_pairs}
use Rattle.pcode_model.specs.declared.storage.ParamStorage.{ParamStorage}
use Rattle.pcode_model.specs.declared.storage.ParamStorage.TheVariants.{Register, Unique, Stack}
use Rattle.cmeaning.specs.declared.tree.Param.{Param}
use Rattle.cmeaning.specs.Places.{place}
use Rattle.cmeaning.specs.Entries.{same_flag, same_storage, is_param, key_of, key_cmp, entry_key, entry_cmp, has_entry, HasPlaces}
use Rattle.cmeaning.proofs.Places.{put, kept}

-- ---- keys

both_tie : (a b : Ordering) → is_eq (ordering_then a b) ≡ is_eq a && is_eq b
both_tie Less b = refl
both_tie Equal b = refl
both_tie Greater b = refl

flags_tie : (a b : Bool) → is_eq (bool_cmp a b) ≡ same_flag a b
flags_tie true true = refl
flags_tie true false = refl
flags_tie false true = refl
flags_tie false false = refl

numbers_tie : (a b : ℕ) → is_eq (cond (nat_lt a b) Less (cond (nat_lt b a) Greater Equal)) ≡ (a == b)
numbers_tie a b = by_tests (nat_lt a b) refl (nat_lt b a) refl
  where
    by_tests : (s : Bool)
        → nat_lt a b ≡ s
        → (t : Bool)
        → nat_lt b a ≡ t
        → is_eq (cond s Less (cond t Greater Equal)) ≡ (a == b)
    by_tests true p t q = grind (arith, nat_tests, p)
    by_tests false p true q = grind (arith, nat_tests, q)
    by_tests false p false q = grind (arith, nat_tests, p, q)

storages_tie : (a b : ParamStorage) → is_eq (key_cmp (key_of a) (key_of b)) ≡ same_storage a b
storages_tie (Register a) (Register b) = numbers_tie a b
storages_tie (Register a) (Unique b) = refl
storages_tie (Register a) (Stack b) = refl
storages_tie (Unique a) (Register b) = refl
storages_tie (Unique a) (Unique b) = numbers_tie a b
storages_tie (Unique a) (Stack b) = refl
storages_tie (Stack a) (Register b) = refl
storages_tie (Stack a) (Unique b) = refl
storages_tie (Stack a) (Stack b) = refl

entry_is : (model : Bool) (storage : ParamStorage) (p : Param)
    → has_entry (entry_key model storage) p ≡ is_param model storage p
entry_is model storage p =
    both_tie (bool_cmp p.model model) (key_cmp (key_of p.storage) (key_of storage))
    ∙ ap₂ (λ (s t : Bool). s && t) (flags_tie p.model model) (storages_tie p.storage storage)

equal_is : (o : Ordering) → is_eq o ≡ true → o ≡ Equal
equal_is Less h = absurd cc
equal_is Equal h = refl
equal_is Greater h = absurd cc

exact_flags : CmpEqualImpliesEq bool_cmp
exact_flags true true e = refl
exact_flags true false e = absurd cc
exact_flags false true e = absurd cc
exact_flags false false e = refl

same_key : (j k : Bool × (ℕ × ℤ)) → is_eq (entry_cmp j k) ≡ true → j ≡ k
same_key j k h = exact_pairs bool_cmp key_cmp exact_flags (exact_pairs nat_cmp int_cmp exact_unsigned exact_signed) j
    k (equal_is (entry_cmp j k) h)

-- ---- the table

pub entry_put : (ps : List Param) (p : Param) (m n : BTreeMap (Bool × (ℕ × ℤ)) ℕ) (key : Bool × (ℕ × ℤ)) (end : ℕ)
    → entry_key p.model p.storage ≡ key
    → end ≡ length ps
    → HasPlaces ps m
    → get entry_cmp m key ≡ None
    → Updates entry_cmp m n key (Some end) → HasPlaces (ps ++ p ∷ []) n
entry_put ps p m n key end same last table absent updates =
    put has_entry ps p (get entry_cmp m) table (get entry_cmp n)
    (λ k. updates.0 k ∙ ap₂ (λ (j : Bool × (ℕ × ℤ)) (e : ℕ). cond (is_eq (entry_cmp j k)) (Some e)
    (get entry_cmp m k)) (sym same) last)
    (λ k hit. ap (get entry_cmp m) (sym (same_key (entry_key p.model p.storage) k hit) ∙ same) ∙ absent)

pub entry_kept : (ps : List Param) (p : Param) (m : BTreeMap (Bool × (ℕ × ℤ)) ℕ) (key : Bool × (ℕ × ℤ))
    → entry_key p.model p.storage ≡ key
    → HasPlaces ps m
    → (get entry_cmp m key ≡ None → ⊥)
    → HasPlaces (ps ++ p ∷ []) m
entry_kept ps p m key same table present =
    kept has_entry ps p (get entry_cmp m) table
    (λ k hit none. present (ap (get entry_cmp m) (sym same ∙ same_key (entry_key p.model p.storage) k hit) ∙ none))

-- tests that agree have one place
same_place : {A : Type 0} (s t : A → Bool) (xs : List A) → ((x : A) → s x ≡ t x) → place s xs ≡ place t xs
same_place s t [] same = refl
same_place s t (x ∷ xs) same = ap₂ (λ (b : Bool) (o : Option ℕ). if b then Some 0 else option_map suc o) (same x)
    (same_place s t xs same)

pub entry_place : (model : Bool) (storage : ParamStorage) (ps : List Param)
    → place (has_entry (entry_key model storage)) ps ≡ place (is_param model storage) ps
entry_place model storage ps = same_place (has_entry (entry_key model storage)) (is_param model storage) ps
    (entry_is model storage)
