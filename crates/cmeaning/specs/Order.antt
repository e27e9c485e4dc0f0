-- Parameters one after another, by what came before. No definition of validity, but how the code tests it, with a set of keys:
-- may_all_come None [] is are_params of Valid.antt, by the lemma params_come in proofs/Order.antt.
use Rattle.std.specs.Prelude.{◌≡◌, ℕ, ◌&&◌, not, Bool, true, false, if◌then◌else◌, ℤ, List, [], ◌∷◌, ◌++◌, Option, Some, None}
use Rattle.std.specs.Ordering.{is_eq}
use Rattle.std.specs.BTreeSet.{BTreeSet, contains}
use Rattle.pcode_model.specs.declared.storage.ParamStorage.{ParamStorage}
use Rattle.pcode_model.specs.Spaces.{or}
use Rattle.cmeaning.specs.declared.tree.Param.{Param}
use Rattle.cmeaning.specs.Entries.{key_of, key_cmp}
use Rattle.cmeaning.specs.Valid.{is_storage, is_before}

-- one of the parameters has the key
abbrev pub has_key : ℕ × ℤ → List Param → Bool
has_key key [] = false
has_key key (p ∷ ps) = or (is_eq (key_cmp (key_of p.storage) key)) (has_key key ps)

-- a set has exactly the keys of parameters
abbrev pub HoldsKeys : BTreeSet (ℕ × ℤ) → List Param → Type 0
HoldsKeys set known = (key : ℕ × ℤ) → contains key_cmp set key ≡ has_key key known

-- whether the last storage, if there is one, comes before
abbrev pub comes_before : Option ParamStorage → ParamStorage → Bool
comes_before None q = true
comes_before (Some p) q = is_before p q

abbrev pub is_nothing : Option ParamStorage → Bool
is_nothing None = true
is_nothing (Some p) = false

-- Whether a parameter may come behind the model parameters `known` and, unless it is None, a last other one of this storage.
abbrev pub may_come : Option ParamStorage → List Param → Param → Bool
may_come last known p = is_storage p.storage
    && (if p.model then (is_nothing last && not (has_key (key_of p.storage) known)) else comes_before last p.storage)

abbrev pub next_last : Option ParamStorage → Param → Option ParamStorage
next_last last p = if p.model then last else Some p.storage

abbrev pub next_known : List Param → Param → List Param
next_known known p = if p.model then known ++ p ∷ [] else known

abbrev pub may_all_come : Option ParamStorage → List Param → List Param → Bool
may_all_come last known [] = true
may_all_come last known (p ∷ ps) = may_come last known p && may_all_come (next_last last p) (next_known known p) ps
