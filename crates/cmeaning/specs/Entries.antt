-- Parameters by whether they are the prototype's arguments and by their storages, and the table of their places. No
-- definition of validity, but how the code looks storages up. Two keys differ where is_either_before of Valid.antt holds, by
-- the lemma either_is in proofs/Order.antt, and the place by key is the place by is_param, by entry_place in proofs/Entries.antt.
use Rattle.std.specs.Prelude.{◌≡◌, ℕ, ◌==◌, ◌&&◌, Bool, true, false, ℤ, pos, List}
use Rattle.std.specs.Ordering.{is_eq, int_eq, bool_cmp, nat_cmp, int_cmp, ordering_then}
use Rattle.std.specs.declared.cmp.Ordering.{Ordering}
use Rattle.std.specs.BTreeMap.{BTreeMap, get}
use Rattle.pcode_model.specs.declared.storage.ParamStorage.{ParamStorage}
use Rattle.pcode_model.specs.declared.storage.ParamStorage.TheVariants.{Register, Unique, Stack}
use Rattle.cmeaning.specs.declared.tree.Param.{Param}
use Rattle.cmeaning.specs.Places.{place}

abbrev pub same_flag : Bool → Bool → Bool
same_flag true b = b
same_flag false true = false
same_flag false false = true

abbrev pub same_storage : ParamStorage → ParamStorage → Bool
same_storage (Register a) (Register b) = a == b
same_storage (Register a) (Unique b) = false
same_storage (Register a) (Stack b) = false
same_storage (Unique a) (Register b) = false
same_storage (Unique a) (Unique b) = a == b
same_storage (Unique a) (Stack b) = false
same_storage (Stack a) (Register b) = false
same_storage (Stack a) (Unique b) = false
same_storage (Stack a) (Stack b) = int_eq a b

-- the parameter of a storage, among the prototype's arguments or the others
abbrev pub is_param : Bool → ParamStorage → Param → Bool
is_param model storage p = same_flag p.model model && same_storage p.storage storage

-- ---- the table

-- a storage as a key: the number of its space, and its offset
abbrev pub key_of : ParamStorage → ℕ × ℤ
key_of (Register offset) = (0, pos offset)
key_of (Unique offset) = (1, pos offset)
key_of (Stack offset) = (2, offset)

abbrev pub key_cmp : ℕ × ℤ → ℕ × ℤ → Ordering
key_cmp a b = ordering_then (nat_cmp a.0 b.0) (int_cmp a.1 b.1)

abbrev pub entry_key : Bool → ParamStorage → Bool × (ℕ × ℤ)
entry_key model storage = (model, key_of storage)

abbrev pub entry_cmp : Bool × (ℕ × ℤ) → Bool × (ℕ × ℤ) → Ordering
entry_cmp a b = ordering_then (bool_cmp a.0 b.0) (key_cmp a.1 b.1)

abbrev pub has_entry : Bool × (ℕ × ℤ) → Param → Bool
has_entry key p = is_eq (entry_cmp (entry_key p.model p.storage) key)

-- where each key is listed first
abbrev pub HasPlaces : List Param → BTreeMap (Bool × (ℕ × ℤ)) ℕ → Type 0
HasPlaces params places = (key : Bool × (ℕ × ℤ)) → get entry_cmp places key ≡ place (has_entry key) params
