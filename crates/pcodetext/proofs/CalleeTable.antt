-- The names of callees, as a table of them answers.
use Rattle.std.proofs.Common.{◌≡◌, ◌∙◌, ◌+◌, ℕ, Bool, true, false, List, [], ◌∷◌, ◌++◌, ap, ap₂, sym, refl, map}
use Rattle.std.specs.Prelude.{◌||◌, Some, None, if◌then◌else◌}
use Rattle.std.specs.List.{list_any}
use Rattle.std.specs.Option.{is_some}
use Rattle.std.specs.Str.{bytes_eq}
use Rattle.std.proofs.lemmas.List.{map-append}
use Rattle.listing_lines.specs.Text.{Line}
use Rattle.pcode_model.specs.declared.listing.Function.{Function}
use Rattle.pcodetext.specs.Tables.{function_name, has_name, place_from, place_in}
use Rattle.pcodetext.proofs.Passing.{none_is}

-- a name has a number among the callees' exactly where a callee has it
named_from : (name : Line) (k : ℕ) (fs : List Function)
    → is_some (place_from k name (map function_name fs)) ≡ list_any (has_name name) fs
named_from name k [] = refl
named_from name k (f ∷ fs) = by_test (bytes_eq f.name name) (named_from name (k + 1) fs)
  where
    by_test : (t : Bool) → is_some (place_from (k + 1) name (map function_name fs)) ≡ list_any (has_name name) fs
        → is_some (if t then Some k else place_from (k + 1) name (map function_name fs))
        ≡ (t || list_any (has_name name) fs)
    by_test true e = refl
    by_test false e = e

pub named_is : (name : Line) (fs : List Function)
    → is_some (place_in name (map function_name fs)) ≡ list_any (has_name name) fs
named_is name fs = named_from name 0 fs

-- ---- one callee more

pub other_name : (name : Line) (fs : List Function)
    → list_any (has_name name) fs ≡ false
    → place_in name (map function_name fs) ≡ None
other_name name fs none = none_is (place_in name (map function_name fs)) (named_is name fs ∙ none)

pub names_more : (fs new : List Function) (f : Function) (old names : List Line) (name : Line)
    → old ≡ map function_name fs
    → name ≡ f.name
    → names ≡ old ++ name ∷ [] → new ≡ fs ++ f ∷ [] → names ≡ map function_name new
names_more fs new f old names name held named e more =
    e
    ∙ ap₂ (λ (xs : List Line) (n : Line). xs ++ n ∷ []) held named
    ∙ sym (map-append function_name fs (f ∷ []))
    ∙ ap (map function_name) (sym more)
