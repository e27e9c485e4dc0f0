-- The callees that stand first, each of its address and of its name. No definition of validity, but how the code tests it,
-- with tables: are_firsts cs 0 cs is are_callees cs of Valid.antt, by the lemma callees_by_firsts in proofs/Firsts.antt.
use Rattle.std.specs.Prelude.{ℕ, ◌+◌, ◌==◌, ◌&&◌, Bool, true, false, List, [], ◌∷◌, Option, Some, None}
use Rattle.cmeaning.specs.declared.tree.CName.{CName}
use Rattle.cmeaning.specs.declared.tree.CName.TheVariants.{Declared, Bare}
use Rattle.cmeaning.specs.declared.tree.CalleeDecl.{CalleeDecl}
use Rattle.cmeaning.specs.Places.{place, has_address, has_name}
use Rattle.cmeaning.specs.Valid.{is_callee}

abbrev pub is_place : ℕ → Option ℕ → Bool
is_place n None = false
is_place n (Some m) = m == n

abbrev pub is_first_name : ℕ → List CalleeDecl → CName → Bool
is_first_name n callees (Declared name) = is_place n (place (has_name name) callees)
is_first_name n callees Bare = true

-- the callee at the place n is the first of its address and of its name
abbrev pub is_first : ℕ → List CalleeDecl → CalleeDecl → Bool
is_first n callees c = is_place n (place (has_address c.address) callees) && is_first_name n callees c.name

-- each of the last callees, of which the first has the place n, is right and the first of its address and of its name
abbrev pub are_firsts : List CalleeDecl → ℕ → List CalleeDecl → Bool
are_firsts callees n [] = true
are_firsts callees n (c ∷ cs) = is_callee c && (is_first n callees c && are_firsts callees (n + 1) cs)
