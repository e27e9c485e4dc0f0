-- A block is its ops and then the way out of its last place.
use Rattle.std.proofs.Common.{◌≡◌, ℕ, zero, suc, ◌+◌, ◌-◌, List, [], ◌∷◌, ◌++◌, length, Some, sym, ap, ◌∙◌, arith}
use Rattle.std.specs.Prelude.{slice_get}
use Rattle.std.proofs.lemmas.List.{append-nil, append_assoc, length-append}
use Rattle.std.proofs.lemmas.Option.{slice_get_within}
use Rattle.pcode_model.specs.declared.listing.Varnode.{Varnode}
use Rattle.pcode_model.specs.declared.listing.Place.{Place}
use Rattle.pcode_model.specs.declared.listing.Listing.{Listing}
use Rattle.pcode_model.specs.declared.flow.Exit as flow_exit
use Rattle.pcode_model.specs.Places.{standing}
use Rattle.cmeaning.specs.declared.tree.Stmt.{Stmt}
use Rattle.blockcode.specs.declared.code.Variable.{Variable}
use Rattle.op_code.specs.Made.{Made, Own, nothing, followed}
use Rattle.op_code.specs.Lowered.{BlockMade, WayOut, in_front, last_made, place_made, places_made, way_out}
use Rattle.op_code.proofs.Each.{grown_length}
use Rattle.plaincode.specs.Body.{body_made}

abbrev made_by : WayOut → List Stmt → List Variable → BlockMade
made_by w body locals = record { block = record { body = body; exit = w.exit }; locals = locals }

front_made : (here rest : Made) (w : WayOut)
    → in_front here (last_made rest w) ≡ last_made (followed here rest) w
front_made here rest w =
    ap (λ x. made_by w x (here.locals ++ (rest.locals ++ w.locals)))
    (sym (append_assoc here.statements rest.statements w.loads))
    ∙ ap (λ x. made_by w ((here.statements ++ rest.statements) ++ w.loads) x)
    (sym (append_assoc here.locals rest.locals w.locals))

module _ (l : Listing) (own : Place → Own) (ranges : List Varnode) (e : flow_exit.Exit) where
  -- these ops, and then the way out of this place
  abbrev ended : ℕ → Made → Place → BlockMade
  ended next m last = last_made m (way_out l ranges (next + length m.locals) (standing l last) e)

  ended_front : (next : ℕ) (here rest : Made) (last : Place)
      → in_front here (ended (next + length here.locals) rest last) ≡ ended next (followed here rest) last
  ended_front next here rest last =
      let to : ℕ → WayOut = λ n. way_out l ranges n (standing l last) e in
      let n : next + length here.locals + length rest.locals ≡ next + length (here.locals ++ rest.locals) =
      omega (arith, length-append here.locals rest.locals) in
      ap (λ k. in_front here (last_made rest (to k))) n
      ∙ front_made here rest (to (next + length (here.locals ++ rest.locals)))

  ended_one : (next : ℕ) (here : Made) (last : Place)
      → ended next here last ≡ ended next (followed here nothing) last
  ended_one next here last =
      ap (λ x. let m : Made = record { statements = x; locals = here.locals } in ended next m last)
      (sym (append-nil here.statements))
      ∙ ap (λ x. let m : Made = record { statements = here.statements ++ []; locals = x } in ended next m last)
      (sym (append-nil here.locals))

  ended_last : (next : ℕ) (ps : List Place) (k : ℕ) (last : Place)
      → length ps ≡ suc k
      → slice_get ps k ≡ Some last
      → places_made l own ranges next ps e ≡ ended next (body_made l own ranges next ps) last
  ended_last next [] k last long is = absurd (omega (arith, long))
  ended_last next (p ∷ []) zero last long is =
      let same : p ≡ last = cc in
      ap (λ x. ended next (place_made l own ranges next p) x) same
      ∙ ended_one next (place_made l own ranges next p) last
  ended_last next (p ∷ []) (suc k) last long is = absurd (omega (arith, long))
  ended_last next (p ∷ q ∷ rest) zero last long is = absurd (omega (arith, long))
  ended_last next (p ∷ q ∷ rest) (suc k) last long is =
      let here = place_made l own ranges next p in
      ap (in_front here) (ended_last (next + length here.locals) (q ∷ rest) k last (omega (arith, long)) is)
      ∙ ended_front next here (body_made l own ranges (next + length here.locals) (q ∷ rest)) last

  -- A block is what its ops make, and then the way out of its last place, numbered behind the variables of then.
  pub places_last : (variables made : List Variable) (ps : List Place) (last : Place)
      → Some last ≡ slice_get ps (length ps - 1)
      → made ≡ variables ++ (body_made l own ranges (length variables) ps).locals
      → places_made l own ranges (length variables) ps e
      ≡ last_made (body_made l own ranges (length variables) ps) (way_out l ranges (length made) (standing l last) e)
  places_last variables made ps last is grown =
      let next = length variables in
      let m = body_made l own ranges next ps in
      let within = slice_get_within ps (length ps - 1) last (sym is) in
      ended_last next ps (length ps - 1) last (omega (arith, within)) (sym is)
      ∙ ap (λ n. last_made m (way_out l ranges n (standing l last) e))
      (grown_length variables made m.locals grown)

  -- A block's locals are those of its ops, and then those of the way out.
  pub locals_last : (variables made all : List Variable) (ps : List Place) (last : Place)
      → Some last ≡ slice_get ps (length ps - 1)
      → made ≡ variables ++ (body_made l own ranges (length variables) ps).locals
      → all ≡ made ++ (way_out l ranges (length made) (standing l last) e).locals
      → all ≡ variables ++ (places_made l own ranges (length variables) ps e).locals
  locals_last variables made all ps last is grown more =
      let m = body_made l own ranges (length variables) ps in
      let w = way_out l ranges (length made) (standing l last) e in
      more ∙ ap (λ x. x ++ w.locals) grown ∙ append_assoc variables m.locals w.locals
      ∙ ap (λ x. variables ++ x.locals) (sym (places_last variables made ps last is grown))
