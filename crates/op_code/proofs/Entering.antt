-- The entry is the number of the block that begins at the first place, and each block of the flow begins somewhere.
use Rattle.std.proofs.Common.{◌≡◌, ℕ, suc, Bool, true, false, List, [], ◌∷◌, ◌++◌, length, Some, refl, sym, ap, ◌∙◌, arith, ⊎_elim}
use Rattle.std.specs.Prelude.{slice_get, cond}
use Rattle.std.proofs.lemmas.Bool.Decides.{nat_tests}
use Rattle.pcode_model.specs.declared.listing.Place.{Place}
use Rattle.pcode_model.specs.declared.listing.Listing.{Listing}
use Rattle.pcode_model.specs.declared.tables.TableAt.{TableAt}
use Rattle.pcode_model.specs.declared.flow.Exit.{Exit}
use Rattle.pcode_model.specs.declared.flow.Block as flow_block
use Rattle.pcode_model.specs.Step.{first_place}
use Rattle.pcode_model.specs.Flow.{AllRun, Entry, IsFlow, IsIn, RunsBlock, first_in, starts_of}
use Rattle.op_code.specs.Lowered.{place_number, same_place}

same_by : (p q : Place) → same_place p q ≡ true → p ≡ q
same_by p q t =
    let a : p.address ≡ q.address = grind (arith, nat_tests) in
    let i : p.index ≡ q.index = grind (arith, nat_tests) in
    ap (λ (x : ℕ). let r : Place = record { address = x; index = p.index } in r) a
    ∙ ap (λ (x : ℕ). let r : Place = record { address = q.address; index = x } in r) i

same_self : (p : Place) → same_place p p ≡ true
same_self p = grind (arith, nat_tests)

number_at : (t : Bool) (q p : Place) (rest : List Place)
    → same_place q p ≡ t
    → (IsIn p rest → slice_get rest (place_number rest p) ≡ Some p)
    → IsIn p (q ∷ rest)
    → slice_get (q ∷ rest) (cond t 0 (suc (place_number rest p))) ≡ Some p
number_at true q p rest is later h = ap (λ x. Some x) (same_by q p is)
number_at false q p rest is later h = ⊎_elim
    (λ (same : p ≡ q). let s : same_place q p ≡ true = ap (λ x. same_place x p) (sym same) ∙ same_self p in absurd (cc))
    later h

number_found : (ps : List Place) (p : Place) → IsIn p ps → slice_get ps (place_number ps p) ≡ Some p
number_found [] p h = absurd h
number_found (q ∷ rest) p h = number_at (same_place q p) q p rest refl (number_found rest p) h

-- The entry is the number of the first place.
pub entry_found : (l : Listing) (t : List TableAt) (blocks : List flow_block.Block)
    → IsFlow l t blocks
    → slice_get (starts_of blocks) (place_number (starts_of blocks) (first_place l)) ≡ Some (first_place l)
entry_found l t blocks flow = number_found (starts_of blocks) (first_place l)
    ((flow.starts.each (first_place l)).1 Entry)

first_length : (l : Listing) (t : List TableAt) (starts ps : List Place) (e : Exit) (rest : List Place)
    → RunsBlock l t starts ps e
    → length (first_in ps ++ rest) ≡ suc (length rest)
first_length l t starts [] e rest runs = absurd runs
first_length l t starts (p ∷ ps) e rest runs = refl

-- There are as many places where blocks begin as blocks.
pub as_many : (l : Listing) (t : List TableAt) (starts : List Place) (blocks : List flow_block.Block)
    → AllRun l t starts blocks
    → length (starts_of blocks) ≡ length blocks
as_many l t starts [] all = refl
as_many l t starts (b ∷ blocks) all = first_length l t starts b.places b.exit (starts_of blocks) all.0
    ∙ ap suc (as_many l t starts blocks all.1)
