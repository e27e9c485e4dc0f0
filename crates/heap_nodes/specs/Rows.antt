-- What a contract sees of an arena: where its nodes lie, and what they hold.
use Rattle.std.specs.Prelude.{◌≡◌, List, [], ◌∷◌, ◌++◌, length, map, Some, slice_get, refl}
use Rattle.std.specs.Coded.{Coded, code_by, coded×, coded_list}
use denote.RawPtr.{Ptr, coded_ptr}
use Rattle.heap_nodes.specs.declared.owner.Owner.{Owner}
use Rattle.heap_nodes.specs.declared.link.Link.{Link}

-- the nodes by their numbers, which count from 0
pub record Rows (T : Type 0) : Type 0 where
  pub places : List Ptr
  pub values : List T

abbrev pub rows_code : {T : Type 0} → Coded T → Coded (Rows T)
rows_code {T} t =
    code_by (List Ptr × List T) (coded× (coded_list coded_ptr) (coded_list t)) (λ r. (r.places, r.values))
    (λ p. record { places = p.0; values = p.1 }) (λ _. refl)

-- the link leads to the node of its number
abbrev pub IsLink : {T : Type 0} → Link → Rows T → Type 0
IsLink l r = slice_get r.places l.number ≡ Some l.place.ptr

-- one node more, to which the link leads
abbrev pub IsAdded : {T : Type 0} → Link → T → Rows T → Rows T → Type 0
IsAdded l x old new =
    (new.places ≡ old.places ++ l.place.ptr ∷ [])
    × (new.values ≡ old.values ++ x ∷ [])
    × (l.number ≡ length old.values)
    × IsLink l new

-- what the owned nodes hold
abbrev pub values_of : {T A : Type 0} → List (Owner T A) → List T
values_of = map (λ o. o.value)
