-- A run that comes in by the slice's first place and falls through its CBRANCH has in x a word that passes, and its
-- target's word is the address of that word's place.
use Rattle.std.proofs.Common.{◌≡◌, ℕ, List, [], ◌∷◌, Option, Some, None, sym, ap, ◌∙◌, subst, inl, inr}
use Rattle.std.specs.List.{AllByRecursion}
use Rattle.pcode_model.specs.declared.listing.Instruction.{Instruction}
use Rattle.pcode_model.specs.declared.listing.Place.{Place}
use Rattle.pcode_model.specs.declared.listing.Listing.{Listing}
use Rattle.pcode_model.specs.declared.tables.Case.{Case}
use Rattle.pcode_model.specs.Places.{instruction_at, place}
use Rattle.pcode_model.specs.Flow.{IsIn}
use Rattle.pcode_model.proofs.Members.{member_at}
use Rattle.table_form.specs.Trees.{Tree, constant_of, reading}
use Rattle.table_form.specs.Values.{Gives}
use Rattle.table_form.specs.Slices.{guard_of, inner_of, target_of}
use Rattle.table_form.specs.Form.{IsSwitched, Passes}
use Rattle.table_form.specs.Tables.{HasCase, HasTable, LeadsTo}
use Rattle.table_runs.specs.Words.{Words, value}
use Rattle.table_runs.specs.Outside.{IsOutside}
use Rattle.table_runs.proofs.Giving.{IsFixedLoad, gives_value}
use Rattle.table_runs.proofs.Guarding.{guard_has, masked_is}
use Rattle.table_runs.proofs.Sound.{IsSound, sound_below, sound_in}

-- the guard's word is 0, if there is a guard
abbrev pub FallsThrough : Words → Option Tree → Type 0
FallsThrough e None = Unit {0}
FallsThrough e (Some guard) = IsSound e guard × (value e guard ≡ 0)

-- the case of x's word: where it is, the target's word is its address
pub record Leads (l : Listing) (end : Place) (front : List Place) (e : Words) (x : Tree) (cases : List Case)
    : Type 0 where
  pub case : Case
  pub is_case : HasCase cases (value e x)
  pub word : case.value ≡ value e x
  pub stands : (i : Instruction) × (instruction_at l (value e (target_of l front end)) ≡ Some i)
  pub is_first : case.place ≡ place (value e (target_of l front end)) 0
  pub outside : IsIn case.place (inner_of front end) → ⊥

module _ (l : Listing) (end : Place) (front : List Place) (e : Words) where
  passes : (guard : Option Tree) (x : Tree)
      → constant_of x ≡ None
      → IsSound e x
      → IsSwitched guard x
      → FallsThrough e guard
      → Passes l guard x (value e x)
  passes (Some guard) x free sound is falls =
      subst (Gives l x (value e x) guard) falls.1 (guard_has l e x free guard is falls.0)
  passes None x free sound is falls = rw is.1 (masked_is e x is.0 sound is.1)

  found : (x : Tree) (cases : List Case)
      → AllByRecursion (LeadsTo l end front x) cases
      → (v : ℕ)
      → HasCase cases v
      → (c : Case) × ((c.value ≡ v) × LeadsTo l end front x c)
  found x [] all v h = absurd h
  found x (c ∷ rest) all v (inl same) = (c, (sym same, all.0))
  found x (c ∷ rest) all v (inr h) = found x rest all.1 v h

  module _ (index : ℕ) (x : Tree) (cases : List Case) (table : HasTable l end front index x cases)
      (sound : IsSound e (target_of l front end)) (falls : FallsThrough e (guard_of l front))
      (fixed : (u : Tree) → IsOutside x u (target_of l front end) → IsFixedLoad l e u) where
    x_sound : IsSound e x
    x_sound = sound_in e (target_of l front end) x sound (member_at (reading (target_of l front end)) index x table.subtree)

    -- x's word passes
    pub passing : HasCase cases (value e x)
    passing =
        (table.each (value e x)).1
        (sound_below e x x_sound, passes (guard_of l front) x table.no_constant x_sound table.switched falls)

    -- and it leads to its case's place
    pub passing_leads : Leads l end front e x cases
    passing_leads =
        let f = found x cases table.places (value e x) passing in
        let goes = f.1.1 in
        let same : value e (target_of l front end) ≡ goes.address =
        gives_value l e x fixed (subst (λ v. Gives l x v (target_of l front end) goes.address) f.1.0 goes.gives) in
        record {
          case = f.0;
          is_case = passing;
          word = f.1.0;
          stands = subst (λ a. (i : Instruction) × (instruction_at l a ≡ Some i)) (sym same) goes.stands;
          is_first = goes.is_first ∙ ap (λ a. place a 0) (sym same);
          outside = goes.outside;
        }
