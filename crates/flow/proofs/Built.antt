-- A listing whose flow has no fault has its blocks.
use Rattle.std.proofs.Common.{◌≡◌, ℕ, zero, suc, ◌+◌, ◌<◌, ◌≤◌, Bool, true, false, List, [], ◌∷◌, ◌++◌, length, refl, sym, subst, inl, arith}
use Rattle.std.specs.Prelude.{Option, Some, None}
use Rattle.std.specs.List.{slice_index_or}
use Rattle.pcode_model.specs.declared.flow.Block.{Block}
use Rattle.pcode_model.specs.declared.flow.Exit.{Exit}
use Rattle.pcode_model.specs.declared.flow.FlowWhy.TheVariants.{NoTarget}
use Rattle.pcode_model.specs.declared.listing.Listing.{Listing}
use Rattle.pcode_model.specs.declared.listing.Place.{Place}
use Rattle.pcode_model.specs.Flow.{AreApart, Fails, First, IsFlow, IsIn, Next, NoFault, Reached, Way, stands, stands_by, standing_ways, ways}
use Rattle.pcode_model.specs.Places.{Does, Nothing, Passes, Standing, standing}
use Rattle.pcode_model.specs.Step.{first_place}
use Rattle.flow.specs.Blocks.{ExitOf, Passed}
use Rattle.flow.specs.Slots.{ArePlaces, Marked, at, picked}
use Rattle.flow.proofs.Listed.{are_places, places_in}
use Rattle.flow.proofs.Reaching.{lead_stands}
use Rattle.flow.proofs.Scanning.{Known, Scanned, scanned_first, scanned_last, scanned_on, scanned_past}
use Rattle.flow.proofs.Left.{exit_at}
use Rattle.flow.proofs.Decided.{marks_reached, marks_starts, reached_marks, start_marks}
use Rattle.flow.proofs.Closure.{AreReached, reached_listed}

-- ---- the scan

-- what has been scanned of the first n places
record Scan (l : Listing) (ps : List Place) (reached begins : List Bool) (starts : List Place) (n : ℕ) : Type 0 where
  blocks : List Block
  pending : List Place
  scanned : Scanned l ps reached begins starts blocks pending n

module _
    (l : Listing)
    (ps : List Place)
    (reached begins : List Bool)
    (starts : List Place)
    (k : Known l ps reached begins starts)
    (sound : NoFault l [])
  where
    abbrev Upto : ℕ → Type 0
    Upto n = Scan l ps reached begins starts n

    -- so many places, and one more
    one_more : (n : ℕ) → Upto (n + 1) → Upto (suc n)
    one_more n h = subst Upto (omega arith) h

    left_by : (n : ℕ) → n < length ps → Marked reached n → (x : Upto n) → (e : Option Exit) → ExitOf l starts ps n e → Upto (suc n)
    left_by n inside marked x None exit = one_more n (record {
      blocks = x.blocks;
      pending = x.pending ++ at ps n ∷ [];
      scanned =
          scanned_on l ps reached begins starts x.blocks x.pending n None x.blocks (x.pending ++ at ps n ∷ []) k x.scanned
          inside marked exit (refl, refl);
    })
    left_by n inside marked x (Some e) exit = one_more n (record {
      blocks = x.blocks ++ record { places = x.pending ++ at ps n ∷ []; exit = e } ∷ [];
      pending = [];
      scanned =
          scanned_on l ps reached begins starts x.blocks x.pending n (Some e)
          (x.blocks ++ record { places = x.pending ++ at ps n ∷ []; exit = e } ∷ []) [] k x.scanned inside marked exit
          (refl, refl);
    })

    on : (n : ℕ) → n < length ps → Upto n → (b : Bool) → slice_index_or reached n false ≡ b → Upto (suc n)
    on n inside x true marked =
        let e = exit_at l ps reached begins starts k sound n inside marked in
        left_by n inside marked x e.0 e.1
    on n inside x false marked = one_more n (record {
      blocks = x.blocks;
      pending = x.pending;
      scanned = scanned_past l ps reached begins starts x.blocks x.pending n k x.scanned inside marked;
    })

    scan : (n : ℕ) → n ≤ length ps → Upto n
    scan zero few = record { blocks = []; pending = []; scanned = scanned_first l ps reached begins starts }
    scan (suc n) few = on n (omega arith) (scan n (omega arith)) (slice_index_or reached n false) refl

    scanned_blocks : (blocks : List Block) × IsFlow l [] blocks
    scanned_blocks =
        let x = scan (length ps) (omega arith) in
        (x.blocks, scanned_last l ps reached begins starts x.blocks x.pending (length ps) k x.scanned refl)

-- ---- the listing

module _ (l : Listing) (apart : AreApart l.code) (sound : NoFault l []) where
  first_stands : (s : Standing) → standing l (first_place l) ≡ s → stands_by s ≡ true
  first_stands Nothing is =
      absurd (sound (first_place l) NoTarget (
        First,
        inl (subst (λ (x : Standing). IsIn (Fails NoTarget) (standing_ways l [] (first_place l) x)) (sym is) (inl refl)),
      ))
  first_stands (Passes i) is = refl
  first_stands (Does i op) is = refl

  reached_stands : (p : Place) → Reached l [] p → stands l p ≡ true
  reached_stands p First = first_stands (standing l (first_place l)) refl
  reached_stands p (Next q r reached leads) = lead_stands l q r leads

  abbrev all : List Place
  all = places_in l.code

  are_all : ArePlaces l all
  are_all = are_places l l.code all refl apart refl

  reached_in : (p : Place) → Reached l [] p → IsIn p all
  reached_in p h = (are_all.each p).1 (reached_stands p h)

  by_found : (found : List Place) → AreReached l found → (blocks : List Block) × IsFlow l [] blocks
  by_found found are =
      let reached = reached_marks l found are all reached_in in
      let begins = start_marks l found are all reached_in in
      scanned_blocks l all reached begins (picked begins all (length all)) (record {
        apart = apart;
        places = are_all;
        reaches = marks_reached l found are all reached_in;
        begin = marks_starts l found are all reached_in;
        same = refl;
      }) sound

  -- The blocks of a listing whose flow has no fault.
  pub blocks_listed : (blocks : List Block) × IsFlow l [] blocks
  blocks_listed = let x = reached_listed l all reached_in in by_found x.0 x.1
