-- Where the first thing of a kind stands in a list, and the tables of callees by it. No definition of validity, but how the
-- code looks callees up. In proofs/Places.antt: place (has_address a) is place_of of Mentions.antt, by place_some and
-- place_none.
use Rattle.std.specs.Prelude.{◌≡◌, ℕ, suc, ◌==◌, if◌then◌else◌, Bool, false, List, [], ◌∷◌, Option, Some, None}
use Rattle.std.specs.Option.{option_map}
use Rattle.std.specs.Ordering.{nat_cmp}
use Rattle.std.specs.Cmp.Lexicographic.{slice_cmp}
use Rattle.std.specs.Str.{bytes_eq}
use Rattle.std.specs.BTreeMap.{BTreeMap, get, get_by}
use Rattle.cmeaning.specs.declared.tree.CName.{CName}
use Rattle.cmeaning.specs.declared.tree.CName.TheVariants.{Declared, Bare}
use Rattle.cmeaning.specs.declared.tree.CalleeDecl.{CalleeDecl}
pub use Rattle.cmeaning.specs.Callees.{first_of, has_address}

-- the place of the first that passes a test
abbrev pub place : {A : Type 0} → (A → Bool) → List A → Option ℕ
place test [] = None
place test (x ∷ xs) = if test x then Some 0 else option_map suc (place test xs)

abbrev pub is_text : List ℕ → CName → Bool
is_text name (Declared text) = bytes_eq text name
is_text name Bare = false

abbrev pub has_name : List ℕ → CalleeDecl → Bool
has_name name c = is_text name c.name

-- ---- tables

-- where each address is listed first
abbrev pub HasAddresses : List CalleeDecl → BTreeMap ℕ ℕ → Type 0
HasAddresses callees places = (address : ℕ) → get nat_cmp places address ≡ place (has_address address) callees

-- where each declared name is listed first, by keys that stand for names
abbrev pub HasNames : {K : Type 0} → (K → List ℕ) → List CalleeDecl → BTreeMap K ℕ → Type 0
HasNames text callees places = (name : List ℕ) → get_by (λ k. slice_cmp nat_cmp name (text k)) places
    ≡ place (has_name name) callees
