-- The pieces of a listing's line are its atoms.
use Rattle.std.proofs.Common.{◌≡◌, ◌∙◌, ℕ, ◌+◌, ◌-◌, ◌<◌, ◌≤◌, List, [], ◌∷◌, refl, sym, ap, subst, inl, inr, ⊎_elim, arith}
use Rattle.std.specs.Prelude.{ℤ, pos, ◌+ℤ◌}
use Rattle.std.specs.List.{AllByRecursion}
use Rattle.std.proofs.lemmas.Bool.{cases_lt}
use Rattle.std.proofs.lemmas.Int.{ints}
use Rattle.pcode_model.specs.declared.listing.Listing.{Listing}
use Rattle.pcode_model.specs.declared.storage.ParamStorage.{ParamStorage}
use Rattle.pcode_model.specs.declared.storage.ParamStorage.TheVariants as P
use Rattle.pcode_model.specs.declared.atoms.Atom.{Atom}
use Rattle.pcode_model.specs.declared.flow.Block.{Block}
use Rattle.pcode_model.specs.declared.frame.Frame.{Frame}
use Rattle.pcode_model.specs.Spaces.{register_space, unique_space}
use Rattle.pcode_model.specs.Flow.{IsFlow, IsIn}
use Rattle.pcode_model.specs.Atoms.{AreAtoms, Area, Cuts, InOrder, IsAccessed, IsAtom, IsCut, LiesIn, Range, area_of, offset_of}
use Rattle.stackvars.specs.declared.sweep.Mark.{Mark}
use Rattle.stackvars.specs.declared.sweep.Piece.{Piece}
use Rattle.stackvars.specs.Cuts.{AreInReach, Fits, IsInReach, atom, atoms_of, begin, mark, storage_at}
use Rattle.pcode_model.specs.Atoms as model
use Rattle.stackvars.specs.Sweep.{ArePieces, IsMarked, IsPiece, RiseFrom}
use Rattle.stackvars.proofs.Members.{to_recursion}
use Rattle.stackvars.proofs.Swept.{piece}
use Rattle.stackvars.proofs.Areas.{IsAt, Within, above, between, ends, one_offset, one_place, ordered, stands, stored}
use Rattle.stackvars.proofs.Marked.{Over, access_marked, cuts_marked, last, line, marked_cut, under_access}

-- ---- order

in_order : (n : ℕ) (ps : List Piece)
    → ((p : Piece) → IsIn p ps → p.begin < p.end)
    → RiseFrom n ps
    → InOrder (atoms_of ps)
in_order n [] some up = tt
in_order n (p ∷ []) some up = tt
in_order n (p ∷ q ∷ ps) some up =
    let less : p.begin < p.end = some p (inl refl) in
    let le : p.end ≤ q.begin = up.1.0 in
    (ordered p.begin q.begin (omega arith), in_order p.end (q ∷ ps) (λ r is. some r (inr is)) up.1)

-- ---- lists

atom_in : (ps : List Piece) (p : Piece) → IsIn p ps → IsIn (atom p) (atoms_of ps)
atom_in [] p is = absurd is
atom_in (q ∷ ps) p (inl e) = inl (ap atom e)
atom_in (q ∷ ps) p (inr is) = inr (atom_in ps p is)

piece_of : (ps : List Piece) (a : Atom) → IsIn a (atoms_of ps) → (p : Piece) × (IsIn p ps × (a ≡ atom p))
piece_of [] a is = absurd is
piece_of (p ∷ ps) a (inl e) = (p, (inl refl, e))
piece_of (p ∷ ps) a (inr is) = let r = piece_of ps a is in (r.0, (inr r.1.0, r.1.1))

-- ---- a piece that lies in a range in reach

-- it is one of storage
fits : (p : Piece) (s : ParamStorage) (k : ℕ)
    → p.begin < p.end
    → begin s ≤ p.begin
    → p.end ≤ begin s + k
    → IsInReach s k
    → Fits p
fits p (P.Register o) k some from to reach =
    let low = reach.0 in
    let narrow = reach.1 in
    record {
      some = some;
      narrow = omega arith;
      register = λ less. omega arith;
      unique = λ less. omega arith;
      frame = λ le. absurd (omega arith);
    }
fits p (P.Unique o) k some from to reach =
    let low = reach.0 in
    let narrow = reach.1 in
    record {
      some = some;
      narrow = omega arith;
      register = λ less. absurd (omega arith);
      unique = λ less. omega arith;
      frame = λ le. absurd (omega arith);
    }
fits p (P.Stack o) k some from to reach =
    let e = ends (P.Stack o) k reach in
    let first = e.0.is in
    let low = reach.0 in
    let high = reach.1.0 in
    let narrow = reach.1.1 in
    let within = e.0.within in
    record {
      some = some;
      narrow = omega arith;
      register = λ less. absurd (omega arith);
      unique = λ less. absurd (omega arith);
      frame = λ le. (omega (arith, ints), omega (arith, ints));
    }

-- ---- cuts and marks

module _
    (l : Listing)
    (bs : List Block)
    (flow : IsFlow l [] bs)
    (differ : register_space l ≡ unique_space l → ⊥)
    (f : Frame)
    (reach : AreInReach l f) where
  abbrev ms : List Mark
  ms = line l bs flow differ f

  abbrev Cut : Area → ℤ → Type 0
  Cut area o = IsCut l [] f area o

  -- where the line is marked there is a cut
  cut_at : (area : Area) (o : ℤ) (n : ℕ) → IsAt area o n → IsMarked ms n → Cut area o
  cut_at area o n at is =
      let c = marked_cut l bs flow differ f n is in
      let r : Range = c.range in
      let e = ends r.storage r.size (reach r c.cuts) in
      ⊎_elim
      (λ here.
      let there : IsAt (area_of r.storage) (offset_of r.storage) n = subst (IsAt _ _) (sym here) e.0 in
      let same = one_offset (area_of r.storage) area (offset_of r.storage) o n there at in
      (r, (c.cuts, (same.0, inl (sym same.1)))))
      (λ here.
      let there : IsAt (area_of r.storage) (offset_of r.storage +ℤ pos r.size) n = subst (IsAt _ _) (sym here) e.1 in
      let same = one_offset (area_of r.storage) area (offset_of r.storage +ℤ pos r.size) o n there at in
      (r, (c.cuts, (same.0, inr (sym same.1)))))
      c.bounds

  -- where there is a cut the line is marked
  marked_at : (area : Area) (o : ℤ) (n : ℕ) → IsAt area o n → Cut area o → IsMarked ms n
  marked_at area o n at (r, (c, (same, end))) =
      let e = ends r.storage r.size (reach r c) in
      let m = cuts_marked l bs flow differ f r c in
      let here : IsAt (area_of r.storage) o n = subst (λ a. IsAt a o n) (sym same) at in
      ⊎_elim
      (λ first.
      let x : IsAt (area_of r.storage) (offset_of r.storage) n = subst (λ z. IsAt (area_of r.storage) z n) first here in
      subst (IsMarked ms) (one_place _ _ _ _ e.0 x) m.0)
      (λ final.
      let x : IsAt (area_of r.storage) (offset_of r.storage +ℤ pos r.size) n = subst (λ z. IsAt (area_of r.storage) z n) final here in
      subst (IsMarked ms) (one_place _ _ _ _ e.1 x) m.1)
      end

  -- ---- a piece is an atom

  -- an access goes on to the end of a piece that it lies over
  covers : (p : Piece) (r : Range) → IsPiece ms p → IsAccessed l [] f r → p.begin < last r → p.end ≤ last r
  covers p r is acc past =
      ⊎_elim
      (λ (h : last r < p.end). absurd (is.whole (last r) past h (cuts_marked l bs flow differ f r (inl acc)).1))
      (λ (h : p.end ≤ last r). h)
      (cases_lt (last r) p.end)

  -- what is said of a piece
  abbrev pub IsPlaced : Piece → Type 0
  IsPlaced p = Fits p × IsAtom l [] f (atom p)

  -- a piece is one of storage, and an atom
  pub placed : (p : Piece) → IsPiece ms p → IsPlaced p
  placed p is =
      let over : Over l bs flow differ f p.begin = under_access l bs flow differ f p.begin is.under in
      let r : Range = over.range in
      let acc : IsAccessed l [] f r = over.accessed in
      let from : begin r.storage ≤ p.begin = over.from in
      let to : p.end ≤ last r = covers p r is acc over.past in
      let some : p.begin < p.end = is.some in
      let e = ends r.storage r.size (reach r (inl acc)) in
      let within : (n : ℕ) → begin r.storage ≤ n → n ≤ last r → Within (area_of r.storage) n =
      λ n low high. between _ _ n _ low high e.0.within e.1.within in
      let s : ParamStorage = storage_at p.begin in
      let at : IsAt (area_of s) (offset_of s) p.begin = stands p.begin in
      let there : IsAt (area_of r.storage) (offset_of r.storage +ℤ pos (p.begin - begin r.storage))
      (begin r.storage + (p.begin - begin r.storage)) =
      above _ _ _ (p.begin - begin r.storage) e.0
      (within (begin r.storage + (p.begin - begin r.storage)) (omega arith) (omega arith)) in
      let place : begin r.storage + (p.begin - begin r.storage) ≡ p.begin = omega arith in
      let same = one_offset _ _ _ _ p.begin (subst (IsAt _ _) place there) at in
      let on : (d : ℕ) → d ≤ p.end - p.begin → IsAt (area_of s) (offset_of s +ℤ pos d) (p.begin + d) =
      λ d few. above _ _ _ d at
      (subst (λ a. Within a (p.begin + d)) same.0 (within (p.begin + d) (omega arith) (omega arith))) in
      let end : p.begin + (p.end - p.begin) ≡ p.end = omega arith in (
        fits p r.storage r.size some from to (reach r (inl acc)),
        record {
          some = omega arith;
          begins = cut_at _ _ p.begin at is.begins;
          ends = cut_at _ _ (p.begin + (p.end - p.begin)) (on (p.end - p.begin) (omega arith))
              (subst (IsMarked ms) (sym end) is.ends);
          whole = λ d more less cut.
              is.whole (p.begin + d) (omega arith) (omega arith)
              (marked_at _ _ (p.begin + d) (on d (omega arith)) cut);
          access = r;
          accessed = acc;
          inside = (sym same.0, (p.begin - begin r.storage, (sym same.1, omega arith)));
        },
      )

  -- ---- an atom is a piece

  abbrev Atomic : Atom → Type 0
  Atomic a = IsAtom l [] f a

  -- an atom's piece
  abbrev IsPieceOf : Atom → Type 0
  IsPieceOf a = (p : Piece) × (IsPiece ms p × (a ≡ atom p))

  pub pieced : (a : Atom) → Atomic a → IsPieceOf a
  pieced a is =
      let r : Range = is.access in
      let acc : IsAccessed l [] f r = is.accessed in
      let d : ℕ = is.inside.1.0 in
      let in_range : d + a.size ≤ r.size = is.inside.1.1.1 in
      let some : 0 < a.size = is.some in
      let e = ends r.storage r.size (reach r (inl acc)) in
      let within : (n : ℕ) → begin r.storage ≤ n → n ≤ last r → Within (area_of r.storage) n =
      λ n low high. between _ _ n _ low high e.0.within e.1.within in
      let n : ℕ = begin r.storage + d in
      let there : IsAt (area_of r.storage) (offset_of r.storage +ℤ pos d) n =
      above _ _ _ d e.0 (within n (omega arith) (omega arith)) in
      let at : IsAt (area_of a.storage) (offset_of a.storage) n =
      subst (λ x. IsAt x (offset_of a.storage) n) (sym is.inside.0)
      (subst (λ o. IsAt (area_of r.storage) o n) (sym is.inside.1.1.0) there) in
      let on : (k : ℕ) → k ≤ a.size → IsAt (area_of a.storage) (offset_of a.storage +ℤ pos k) (n + k) =
      λ k few. above _ _ _ k at
      (subst (λ x. Within x (n + k)) (sym is.inside.0) (within (n + k) (omega arith) (omega arith))) in
      let size : n + a.size - n ≡ a.size = omega arith in (
        piece n (n + a.size),
        (
          record {
            some = omega arith;
            begins = marked_at _ _ n at is.begins;
            ends = marked_at _ _ (n + a.size) (on a.size (omega arith)) is.ends;
            whole = λ m more less marked.
                let e : m ≡ n + (m - n) = omega arith in
                is.whole (m - n) (omega arith) (omega arith)
                (cut_at _ _ (n + (m - n)) (on (m - n) (omega arith)) (subst (IsMarked ms) e marked));
            under = (
              mark (begin r.storage) (last r),
              (access_marked l bs flow differ f r acc, (omega arith, omega arith)),
            );
          },
          sym (ap (λ x. model.range x (n + a.size - n)) (stored a.storage n at)
              ∙ ap (λ k. model.range a.storage k) size),
        ),
      )

  -- ---- all of them

  -- the pieces of the line are pieces of storage
  pub all_fit : (ps : List Piece) → ArePieces ms ps → AllByRecursion Fits ps
  all_fit ps are = to_recursion Fits ps (λ p is. (placed p ((are.each p).0 is)).0)

  -- the pieces of the line are the atoms
  pub are_atoms : (ps : List Piece) → ArePieces ms ps → AreAtoms l [] f (atoms_of ps)
  are_atoms ps are = record {
    each = λ a. (
      (λ is.
          let r = piece_of ps a is in
          subst Atomic (sym r.1.1) (placed r.0 ((are.each r.0).0 r.1.0)).1),
      (λ is.
          let r = pieced a is in
          subst (λ (x : Atom). IsIn x (atoms_of ps)) (sym r.1.1) (atom_in ps r.0 ((are.each r.0).1 r.1.0))),
    );
    in_order = in_order 0 ps (λ p is. ((are.each p).0 is).some) are.rise;
  }
