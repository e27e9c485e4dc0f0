-- The addresses of callees, as a table of them answers.
use Rattle.std.proofs.Common.{◌≡◌, ◌∙◌, ◌+◌, ◌<◌, ℕ, zero, suc, Bool, true, false, cond, List, [], ◌∷◌, ◌++◌, Some, None, ap, ap₂, sym, refl, map, length, get_or, arith}
use Rattle.std.specs.Prelude.{◌==◌, ◌||◌, Option, IsSome, if◌then◌else◌, nat_eq, position, slice_get}
use Rattle.std.specs.List.{list_any}
use Rattle.std.specs.Option.{is_some, option_to_list}
use Rattle.std.proofs.lemmas.Bool.Decides.{nat_tests}
use Rattle.std.proofs.lemmas.List.{map-append}
use Rattle.std.proofs.lemmas.List.Quantifiers.{position-Some}
use Rattle.indexmap.proofs.RemoveLemmas.{popped_last}
use Rattle.pcode_model.specs.declared.listing.Function.{Function}
use Rattle.pcode_model.specs.Functions.{function_address, has_address}
use Rattle.pcode_model.specs.Step.{callee_in}

same_back : (a b : ℕ) → (a == b) ≡ (b == a)
same_back a b = grind (arith, nat_tests)

pub addressed_is : (address : ℕ) (fs : List Function)
    → list_any (nat_eq address) (map function_address fs) ≡ list_any (has_address address) fs
addressed_is address [] = refl
addressed_is address (f ∷ fs) = ap₂ (λ (t u : Bool). t || u) (same_back address f.address) (addressed_is address fs)

-- ---- the callee of an address

-- the first function of an address stands where the address first does
callee_first : (address : ℕ) (fs : List Function) (i : ℕ)
    → i < length (map function_address fs)
    → (address == get_or (map function_address fs) i 0) ≡ true
    → ((k : ℕ) → k < i → (address == get_or (map function_address fs) k 0) ≡ false)
    → slice_get fs i ≡ callee_in fs address
callee_first address [] i within hit before = absurd (omega (arith, within))
callee_first address (f ∷ fs) zero within hit before =
    sym (ap (λ (t : Bool). cond t (Some f) (callee_in fs address)) (same_back f.address address ∙ hit))
callee_first address (f ∷ fs) (suc i) within hit before =
    callee_first address fs i (omega (arith, within)) hit (λ k below. before (suc k) (omega (arith, below)))
    ∙ sym (ap (λ (t : Bool). cond t (Some f) (callee_in fs address))
    (same_back f.address address ∙ before zero (omega arith)))

pub callee_found : (address : ℕ) (fs : List Function) (i : ℕ)
    → position (nat_eq address) (map function_address fs) ≡ Some i
    → slice_get fs i ≡ callee_in fs address
callee_found address fs i is =
    let first = position-Some (nat_eq address) (map function_address fs) i 0 is in
    callee_first address fs i first.0 first.1 first.2

pub callee_none : (address : ℕ) (fs : List Function)
    → list_any (has_address address) fs ≡ false
    → callee_in fs address ≡ None
callee_none address [] none = refl
callee_none address (f ∷ fs) none = by_test (f.address == address) none (callee_none address fs)
  where
    by_test : (t : Bool)
        → (t || list_any (has_address address) fs) ≡ false
        → (list_any (has_address address) fs ≡ false → callee_in fs address ≡ None)
        → cond t (Some f) (callee_in fs address) ≡ None
    by_test true e rest = absurd cc
    by_test false e rest = rest e

-- ---- one callee more

addresses_with : (fs : List Function) (f : Function) (old addresses : List ℕ)
    → old ≡ map function_address fs
    → list_any (has_address f.address) fs ≡ false
    → addresses ≡ (if list_any (nat_eq f.address) old then old else old ++ f.address ∷ [])
    → addresses ≡ map function_address fs ++ f.address ∷ []
addresses_with fs f old addresses held none e =
    let other : list_any (nat_eq f.address) old ≡ false =
    ap (list_any (nat_eq f.address)) held ∙ addressed_is f.address fs ∙ none in
    e
    ∙ ap (λ (t : Bool). if t then old else old ++ f.address ∷ []) other
    ∙ ap (λ (xs : List ℕ). xs ++ f.address ∷ []) held

pub addresses_more : (fs new : List Function) (f : Function) (old addresses : List ℕ)
    → old ≡ map function_address fs
    → list_any (has_address f.address) fs ≡ false
    → addresses ≡ (if list_any (nat_eq f.address) old then old else old ++ f.address ∷ [])
    → new ≡ fs ++ f ∷ []
    → addresses ≡ map function_address new
addresses_more fs new f old addresses held none e more =
    addresses_with fs f old addresses held none e
    ∙ sym (map-append function_address fs (f ∷ []))
    ∙ ap (map function_address) (sym more)

-- the last address taken out again
pub addresses_back : (fs : List Function) (f : Function) (old addresses back : List ℕ) (last : Option ℕ)
    → old ≡ map function_address fs
    → list_any (has_address f.address) fs ≡ false
    → addresses ≡ (if list_any (nat_eq f.address) old then old else old ++ f.address ∷ [])
    → addresses ≡ back ++ option_to_list last
    → (0 < length addresses → IsSome last)
    → back ≡ map function_address fs
addresses_back fs f old addresses back last held none e cut some =
    let is : addresses ≡ map function_address fs ++ f.address ∷ [] = addresses_with fs f old addresses held none e in
    (popped_last (map function_address fs) back f.address last (sym is ∙ cut)
    (some (positive (map function_address fs) addresses is))).1
  where
    positive : (xs ys : List ℕ) → ys ≡ xs ++ f.address ∷ [] → 0 < length ys
    positive [] ys h = let one = ap length h in omega (arith, one)
    positive (x ∷ xs) ys h = let one = ap length h in omega (arith, one)
