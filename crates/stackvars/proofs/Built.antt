-- A listing whose flow has no fault has its atoms: the cuts of its accesses can be put in order.
use Rattle.std.proofs.Common.{◌≡◌, ℕ, zero, suc, ◌<◌, ◌≤◌, List, [], ◌∷◌, length, refl, sym, ap, subst, inl, inr, ◌⊎◌, arith}
use Rattle.std.specs.Prelude.{None}
use Rattle.std.specs.List.{slice_index_or}
use Rattle.std.specs.List.Sorted.{IsNonDecreasingBy}
use Rattle.std.proofs.lemmas.Bool.{cases_lt}
use Rattle.pcode_model.specs.declared.atoms.Atom.{Atom}
use Rattle.pcode_model.specs.declared.flow.Block.{Block}
use Rattle.pcode_model.specs.declared.frame.Frame.{Frame}
use Rattle.pcode_model.specs.declared.listing.Listing.{Listing}
use Rattle.pcode_model.specs.Atoms.{AreAtoms}
use Rattle.pcode_model.specs.Flow.{IsFlow, IsIn}
use Rattle.pcode_model.specs.Rules.{first_bad}
use Rattle.pcode_model.specs.WellFormed.{IsWellFormed}
use Rattle.stackvars.specs.Collected.{collected}
use Rattle.stackvars.specs.Cuts.{atoms_of, marks}
use Rattle.stackvars.specs.Near.{HasNearAccesses}
use Rattle.stackvars.specs.Sweep.{position_of}
use Rattle.stackvars.proofs.Found.{found_atoms}
use Rattle.stackvars.proofs.Swept.{are_pieces, pieces_same, swept}

-- ---- lists in order

module _ {A : Type 0} (key : A → ℕ) where
  -- no key is below the one before it
  abbrev Climbs : ℕ → List A → Type 0
  Climbs a [] = Unit {0}
  Climbs a (x ∷ xs) = (a ≤ key x) × Climbs (key x) xs

  record Put (a : ℕ) (x : A) (xs : List A) : Type 0 where
    list : List A
    climbs : Climbs a list
    there : (y : A) → IsIn y (x ∷ xs) → IsIn y list
    back : (y : A) → IsIn y list → IsIn y (x ∷ xs)

  behind : (a : ℕ) (x y : A) (xs : List A) → a ≤ key y → Put (key y) x xs → Put a x (y ∷ xs)
  behind a x y xs low r = record { list = y ∷ r.list; climbs = (low, r.climbs); there = there; back = back }
    where
      there : (z : A) → IsIn z (x ∷ y ∷ xs) → IsIn z (y ∷ r.list)
      there z (inl e) = inr (r.there z (inl e))
      there z (inr (inl e)) = inl e
      there z (inr (inr is)) = inr (r.there z (inr is))

      moved : (z : A) → IsIn z (x ∷ xs) → IsIn z (x ∷ y ∷ xs)
      moved z (inl e) = inl e
      moved z (inr is) = inr (inr is)

      back : (z : A) → IsIn z (y ∷ r.list) → IsIn z (x ∷ y ∷ xs)
      back z (inl e) = inr (inl e)
      back z (inr is) = moved z (r.back z is)

  placed : (a : ℕ) (x y : A) (xs : List A)
      → a ≤ key x
      → (a ≤ key y) × Climbs (key y) xs
      → (key y < key x) ⊎ (key x ≤ key y)
      → (key y ≤ key x → Put (key y) x xs)
      → Put a x (y ∷ xs)
  placed a x y xs low up (inl less) rest = behind a x y xs up.0 (rest (omega arith))
  placed a x y xs low up (inr more) rest = record {
    list = x ∷ y ∷ xs;
    climbs = (low, (more, up.1));
    there = λ z is. is;
    back = λ z is. is;
  }

  put : (a : ℕ) (x : A) (xs : List A) → a ≤ key x → Climbs a xs → Put a x xs
  put a x [] low up = record { list = x ∷ []; climbs = (low, tt); there = λ z is. is; back = λ z is. is }
  put a x (y ∷ xs) low up = placed a x y xs low up (cases_lt (key y) (key x)) (λ h. put (key y) x xs h up.1)

  record Ordered (xs : List A) : Type 0 where
    list : List A
    climbs : Climbs 0 list
    there : (y : A) → IsIn y xs → IsIn y list
    back : (y : A) → IsIn y list → IsIn y xs

  with_first : (x : A) (xs : List A) → Ordered xs → Ordered (x ∷ xs)
  with_first x xs r = record { list = p.list; climbs = p.climbs; there = there; back = back }
    where
      p : Put 0 x r.list
      p = put 0 x r.list (omega arith) r.climbs

      there : (y : A) → IsIn y (x ∷ xs) → IsIn y p.list
      there y (inl e) = p.there y (inl e)
      there y (inr is) = p.there y (inr (r.there y is))

      before : (y : A) → IsIn y (x ∷ r.list) → IsIn y (x ∷ xs)
      before y (inl e) = inl e
      before y (inr is) = inr (r.back y is)

      back : (y : A) → IsIn y p.list → IsIn y (x ∷ xs)
      back y is = before y (p.back y is)

  in_order : (xs : List A) → Ordered xs
  in_order [] = record { list = []; climbs = tt; there = λ y is. is; back = λ y is. is }
  in_order (x ∷ xs) = with_first x xs (in_order xs)

  -- ---- by number

  low_at : (a : ℕ) (xs : List A) (j : ℕ) (d : A) → Climbs a xs → j < length xs → a ≤ key (slice_index_or xs j d)
  low_at a [] j d up inside = absurd (omega arith)
  low_at a (x ∷ xs) zero d up inside = up.0
  low_at a (x ∷ xs) (suc j) d up inside =
      let rest = low_at (key x) xs j d up.1 (omega arith) in
      let first = up.0 in
      omega (arith, first, rest)

  climbs_at : (a : ℕ) (xs : List A) → Climbs a xs → IsNonDecreasingBy key xs
  climbs_at a [] up i j d le inside = absurd (omega arith)
  climbs_at a (x ∷ xs) up zero zero d le inside = omega arith
  climbs_at a (x ∷ xs) up zero (suc j) d le inside = low_at (key x) xs j d up.1 (omega arith)
  climbs_at a (x ∷ xs) up (suc i) zero d le inside = absurd (omega arith)
  climbs_at a (x ∷ xs) up (suc i) (suc j) d le inside = climbs_at (key x) xs up.1 i j d (omega arith) (omega arith)

-- ---- the atoms

-- The atoms of a listing that was read, whose ops obey their rules and that has these blocks and this frame.
pub atoms_listed : (l : Listing) (blocks : List Block)
    → IsFlow l [] blocks
    → IsWellFormed l
    → first_bad l ≡ None
    → (f : Frame)
    → HasNearAccesses f
    → (atoms : List Atom) × AreAtoms l [] f atoms
atoms_listed l blocks flow read ops f near =
    let xs = collected l blocks f in
    let s = in_order position_of (marks l xs) in
    let ps = swept 0 0 s.list in (
      atoms_of ps,
      found_atoms l blocks flow read ops f near xs refl (marks l xs) refl ps
          (pieces_same (marks l xs) s.list s.there s.back ps (are_pieces s.list (climbs_at position_of 0 s.list s.climbs))),
    )
