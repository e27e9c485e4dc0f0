-- The ranges of a listing's atoms are a table: each lies inside its space, and no two share a byte, since an atom that
-- began inside another one would cut it. Each has 1 to 16 bytes.
use Rattle.std.proofs.Common.{◌≡◌, ◌∙◌, ◌≤◌, ◌<◌, ◌+◌, ℕ, zero, suc, List, [], ◌∷◌, Some, refl, inl, inr, sym, subst, ap, arith, ⊎_elim}
use Rattle.std.specs.Prelude.{slice_get, pos, ℤ, ◌+ℤ◌, ◌≤ℤ◌, ◌<ℤ◌}
use Rattle.std.proofs.lemmas.Bool.{cases_lt}
use Rattle.std.proofs.lemmas.Int.{ints}
use Rattle.pcode_model.specs.declared.storage.ParamStorage.{ParamStorage}
use Rattle.pcode_model.specs.declared.storage.ParamStorage.TheVariants as P
use Rattle.pcode_model.specs.declared.atoms.Atom.{Atom}
use Rattle.pcode_model.specs.declared.frame.Frame.{Frame}
use Rattle.pcode_model.specs.declared.frame.FrameAccess.{FrameAccess}
use Rattle.pcode_model.specs.declared.listing.Varnode.{Varnode}
use Rattle.pcode_model.specs.declared.listing.Listing.{Listing}
use Rattle.pcode_model.specs.Flow.{IsIn}
use Rattle.pcode_model.specs.Spaces.{register_space, unique_space}
use Rattle.pcode_model.specs.Atoms.{Accesses, AreAtoms, Area, InOrder, IsAccessed, IsAtom, IsCut, LiesIn, Registers, Stacked, StandsBefore, Uniques, range, varnode}
use Rattle.pcode_model.proofs.Members.{member_at}
use Rattle.pcode_model.specs.WellFormed.{IsWellFormed}
use Rattle.range_words.specs.Own.{stack_size}
use Rattle.range_words.specs.Ranges.{AreApart, IsInside, IsTable}
use Rattle.op_code.specs.Lowerable.{AreNarrow}
use Rattle.op_code.specs.Lowered.{range_at, range_of, ranges_of}
use Rattle.op_code.proofs.Rows.{AreSome}
use Rattle.op_code.proofs.Variables.{IsAtomAt, atom_at, range_size}
use Rattle.stackvars.proofs.Reach.{spaces_differ}
use Rattle.frame_facts.proofs.Numbers.{more_by}
use Rattle.plain_form.proofs.Formed.{Inside}
use Rattle.frame_facts.proofs.Bounded.{IsKnown}
use Rattle.plain_form.proofs.Halves.{IsHalfway, centred_is, even, off_frame, room}

-- ---- the order of atoms

-- The order of storages is transitive.
pub before_trans : (r s t : ParamStorage) → StandsBefore r s → StandsBefore s t → StandsBefore r t
before_trans (P.Register a) (P.Register b) (P.Register c) p q = omega (arith, p, q)
before_trans (P.Register a) (P.Register b) (P.Unique c) p q = tt
before_trans (P.Register a) (P.Register b) (P.Stack c) p q = tt
before_trans (P.Register a) (P.Unique b) (P.Register c) p q = absurd q
before_trans (P.Register a) (P.Unique b) (P.Unique c) p q = tt
before_trans (P.Register a) (P.Unique b) (P.Stack c) p q = tt
before_trans (P.Register a) (P.Stack b) (P.Register c) p q = absurd q
before_trans (P.Register a) (P.Stack b) (P.Unique c) p q = absurd q
before_trans (P.Register a) (P.Stack b) (P.Stack c) p q = tt
before_trans (P.Unique a) (P.Register b) t p q = absurd p
before_trans (P.Unique a) (P.Unique b) (P.Register c) p q = absurd q
before_trans (P.Unique a) (P.Unique b) (P.Unique c) p q = omega (arith, p, q)
before_trans (P.Unique a) (P.Unique b) (P.Stack c) p q = tt
before_trans (P.Unique a) (P.Stack b) (P.Register c) p q = absurd q
before_trans (P.Unique a) (P.Stack b) (P.Unique c) p q = absurd q
before_trans (P.Unique a) (P.Stack b) (P.Stack c) p q = tt
before_trans (P.Stack a) (P.Register b) t p q = absurd p
before_trans (P.Stack a) (P.Unique b) t p q = absurd p
before_trans (P.Stack a) (P.Stack b) (P.Register c) p q = absurd q
before_trans (P.Stack a) (P.Stack b) (P.Unique c) p q = absurd q
before_trans (P.Stack a) (P.Stack b) (P.Stack c) p q = omega (arith, ints, p, q)

first_before : (a : Atom) (rest : List Atom)
    → InOrder (a ∷ rest)
    → (b : Atom)
    → IsIn b rest
    → StandsBefore a.storage b.storage
first_before a [] h b is = absurd is
first_before a (x ∷ rest) h b (inl e) = let Q : Atom → Type 0 = λ y. StandsBefore a.storage y.storage in
    subst Q (sym e) h.0
first_before a (x ∷ rest) h b (inr is) = before_trans a.storage x.storage b.storage h.0 (first_before x rest h.1 b is)

order_tail : (a : Atom) (rest : List Atom) → InOrder (a ∷ rest) → InOrder rest
order_tail a [] h = tt
order_tail a (x ∷ rest) h = h.1

-- of two atoms the one with the lesser number stands before
one_before : (atoms : List Atom)
    → InOrder atoms
    → (m n : ℕ) (a b : Atom)
    → slice_get atoms m ≡ Some a
    → slice_get atoms n ≡ Some b
    → m < n
    → StandsBefore a.storage b.storage
one_before [] order m n a b p q less = absurd (cc)
one_before (x ∷ xs) order m zero a b p q less = absurd (omega (arith, less))
one_before (x ∷ xs) order zero (suc n) a b p q less =
    let is : x ≡ a = cc in
    let Q : Atom → Type 0 = λ y. StandsBefore y.storage b.storage in
    subst Q is (first_before x xs order b (member_at xs n b q))
one_before (x ∷ xs) order (suc m) (suc n) a b p q less =
    one_before xs (order_tail x xs order) m n a b p q (omega (arith, less))

-- ---- numbers and ranges

same_number : (m n : ℕ) → pos m ≡ pos n → m ≡ n
same_number m n e = cc

apart_turned : (v w : Varnode) → AreApart v w → AreApart w v
apart_turned v w (inl ne) = inl (λ e. ne (sym e))
apart_turned v w (inr (inl before)) = inr (inr before)
apart_turned v w (inr (inr behind)) = inr (inl behind)

-- The range of an atom is a variable's.
pub in_ranges : (l : Listing) (atoms : List Atom) (a : Atom) → IsIn a atoms → IsIn (range_of l a) (ranges_of l atoms)
in_ranges l [] a is = absurd is
in_ranges l (x ∷ xs) a (inl e) = inl (ap (range_of l) e)
in_ranges l (x ∷ xs) a (inr is) = inr (in_ranges l xs a is)

-- ---- atoms

-- an offset of the frame lies in one of the halves of the first ram space
abbrev IsHome : Listing → ParamStorage → Type 0
IsHome l (P.Register o) = Unit {0}
IsHome l (P.Unique o) = Unit {0}
IsHome l (P.Stack o) = IsHalfway (stack_size l) o

-- what is known of an atom's range
pub record Placed (l : Listing) (s : ParamStorage) (k : ℕ) : Type 0 where
  pub home : IsHome l s
  pub narrow : k ≤ 16
  pub inside : IsInside l (range_at l s k)

-- a range of the frame that lies in an access
stack_placed : (l : Listing)
    → IsWellFormed l
    → (a : FrameAccess)
    → IsKnown l a
    → (z : ℤ) (k d : ℕ)
    → 0 < k
    → z ≡ a.offset +ℤ pos d
    → d + k ≤ a.size
    → Placed l (P.Stack z) k
stack_placed l read a known z k d some at fits =
    let space = room l read known.pointer known.is_pointer in
    let two = even l read in
    let few = known.few.1 in
    let from = known.within.0 in
    let to = known.within.1 in
    let home : IsHalfway (stack_size l) z = record { low = omega (arith, ints); high = omega (arith, ints) } in
    let here = centred_is (stack_size l) z two home in
    record { home = home; narrow = omega (arith, few, fits); inside = omega (arith, ints) }

module _
    (l : Listing)
    (read : IsWellFormed l)
    (inner : (v : Varnode) → Accesses l [] v → Inside l v)
    (f : Frame)
    (known : (a : FrameAccess) → IsIn a f.accesses → IsKnown l a)
  where
    differ : register_space l ≡ unique_space l → ⊥
    differ = spaces_differ l read

    -- a part of a range that lies inside its space
    part : (s m k o d j : ℕ)
        → Inside l (varnode s o j)
        → pos m ≡ pos (o + d)
        → d + k ≤ j
        → (k ≤ 16) × IsInside l (varnode s m k)
    part s m k o d j whole at fits =
        let same : m ≡ o + d = same_number m (o + d) at in
        (omega (arith, whole.narrow, fits), omega (arith, whole.inside, same, fits))

    -- an atom lies in a range that is accessed
    lies : (s : ParamStorage) (k : ℕ) (t : ParamStorage) (j : ℕ)
        → 0 < k
        → IsAccessed l [] f (range t j)
        → LiesIn (range s k) (range t j)
        → Placed l s k
    lies (P.Register m) k (P.Register o) j some acc within =
        let r = register_space l in
        let p = part r m k o within.1.0 j (inner (varnode r o j) acc) within.1.1.0 within.1.1.1 in
        record { home = tt; narrow = p.0; inside = p.1 }
    lies (P.Unique m) k (P.Unique o) j some acc within =
        let u = unique_space l in
        let p = part u m k o within.1.0 j (inner (varnode u o j) acc) within.1.1.0 within.1.1.1 in
        record { home = tt; narrow = p.0; inside = p.1 }
    lies (P.Stack z) k (P.Stack o) j some (a, (is, (at, size))) within =
        let e : z ≡ a.offset +ℤ pos within.1.0 = within.1.1.0 ∙ ap (λ x. x +ℤ pos within.1.0) (sym at) in
        let fits = within.1.1.1 in
        stack_placed l read a (known a is) z k within.1.0 some e (omega (arith, fits, size))
    lies (P.Register m) k (P.Unique o) j some acc within = let e : Registers ≡ Uniques = within.0 in absurd (cc)
    lies (P.Register m) k (P.Stack o) j some acc within = let e : Registers ≡ Stacked = within.0 in absurd (cc)
    lies (P.Unique m) k (P.Register o) j some acc within = let e : Uniques ≡ Registers = within.0 in absurd (cc)
    lies (P.Unique m) k (P.Stack o) j some acc within = let e : Uniques ≡ Stacked = within.0 in absurd (cc)
    lies (P.Stack z) k (P.Register o) j some acc within = let e : Stacked ≡ Registers = within.0 in absurd (cc)
    lies (P.Stack z) k (P.Unique o) j some acc within = let e : Stacked ≡ Uniques = within.0 in absurd (cc)

    -- What is known of an atom's range.
    pub placed : (a : Atom) → IsAtom l [] f a → Placed l a.storage a.size
    placed a is = lies a.storage a.size is.access.storage is.access.size is.some is.accessed is.inside

    -- of two atoms of one area the second begins where the first one ends, or later
    ends_before : (area : Area) (m : ℤ) (j : ℕ) (n : ℤ)
        → ((d : ℕ) → 0 < d → d < j → IsCut l [] f area (m +ℤ pos d) → ⊥)
        → IsCut l [] f area n
        → m <ℤ n
        → (m +ℤ pos j) ≤ℤ n
    ends_before area m j n whole cut less =
        let more = more_by m n (omega (arith, ints, less)) in
        let e : n ≡ m +ℤ pos more.0 = more.1 in
        ⊎_elim
        (λ (within : more.0 < j).
        absurd (whole more.0 (omega (arith, ints, less, e)) within (subst (λ o. IsCut l [] f area o) e cut)))
        (λ (past : j ≤ more.0). omega (arith, ints, e, past))
        (cases_lt more.0 j)

    before_apart : (s : ParamStorage) (j : ℕ) (t : ParamStorage) (k : ℕ)
        → IsAtom l [] f (range s j)
        → IsAtom l [] f (range t k)
        → Placed l s j
        → Placed l t k
        → StandsBefore s t
        → AreApart (range_at l s j) (range_at l t k)
    before_apart (P.Register m) j (P.Register n) k a b x y first =
        let h = ends_before Registers (pos m) j (pos n) a.whole b.begins (omega (arith, ints, first)) in
        inr (inl (omega (arith, ints, h)))
    before_apart (P.Register m) j (P.Unique n) k a b x y first = inl differ
    before_apart (P.Register m) j (P.Stack n) k a b x y first = inl (λ e. off_frame l read (register_space l) (inl refl) e)
    before_apart (P.Unique m) j (P.Register n) k a b x y first = absurd first
    before_apart (P.Unique m) j (P.Unique n) k a b x y first =
        let h = ends_before Uniques (pos m) j (pos n) a.whole b.begins (omega (arith, ints, first)) in
        inr (inl (omega (arith, ints, h)))
    before_apart (P.Unique m) j (P.Stack n) k a b x y first = inl (λ e. off_frame l read (unique_space l) (inr refl) e)
    before_apart (P.Stack m) j (P.Register n) k a b x y first = absurd first
    before_apart (P.Stack m) j (P.Unique n) k a b x y first = absurd first
    before_apart (P.Stack m) j (P.Stack n) k a b x y first =
        let h = ends_before Stacked m j n a.whole b.begins first in
        let two = even l read in
        let e = centred_is (stack_size l) m two x.home in
        let g = centred_is (stack_size l) n two y.home in
        inr (inl (omega (arith, ints, h, e, g)))

    narrow_all : (atoms : List Atom) → ((a : Atom) → IsIn a atoms → IsAtom l [] f a) → AreNarrow atoms
    narrow_all [] each = tt
    narrow_all (a ∷ rest) each =
        let is = each a (inl refl) in
        ((is.some, (placed a is).narrow), narrow_all rest (λ b h. each b (inr h)))

    module _ (atoms : List Atom) (are : AreAtoms l [] f atoms) where
      -- Atoms have 1 to 16 bytes.
      pub atoms_narrow : AreNarrow atoms
      atoms_narrow = narrow_all atoms (λ a. (are.each a).0)

      of_range : (n : ℕ) (v : Varnode) → slice_get (ranges_of l atoms) n ≡ Some v → IsAtomAt l atoms n v
      of_range n v h = atom_at l atoms n v atoms_narrow h

      at : (n : ℕ) (a : Atom) → slice_get atoms n ≡ Some a → IsAtom l [] f a
      at n a h = (are.each a).0 (member_at atoms n a h)

      rising : (m n : ℕ) (v w : Varnode)
          → slice_get (ranges_of l atoms) m ≡ Some v
          → slice_get (ranges_of l atoms) n ≡ Some w
          → m < n
          → AreApart v w
      rising m n v w p q less =
          let a = of_range m v p in
          let b = of_range n w q in
          let V : Varnode → Type 0 = λ x. AreApart x w in
          let W : Varnode → Type 0 = λ x. AreApart (range_of l a.atom) x in
          let first = one_before atoms are.in_order m n a.atom b.atom a.get b.get less in
          let x = at m a.atom a.get in
          let y = at n b.atom b.get in
          subst V a.range (subst W b.range
          (before_apart (a.atom).storage (a.atom).size (b.atom).storage (b.atom).size x y (placed a.atom x)
          (placed b.atom y) first))

      -- The atoms' ranges lie inside their spaces, and no two share a byte.
      pub atoms_table : IsTable l (ranges_of l atoms)
      atoms_table = record {
        inside = λ n v h.
            let a = of_range n v h in
            let V : Varnode → Type 0 = λ x. IsInside l x in
            subst V a.range (placed a.atom (at n a.atom a.get)).inside;
        apart = λ m n v w p q ne. ⊎_elim
            (λ (less : m < n). rising m n v w p q less)
            (λ (more : n ≤ m). apart_turned w v (rising n m w v q p (omega (arith, more, ne))))
            (cases_lt m n);
      }

      -- Each has a byte.
      pub atoms_some : AreSome (ranges_of l atoms)
      atoms_some n v h =
          let a = of_range n v h in
          let V : Varnode → Type 0 = λ x. 0 < x.size in
          let some : 0 < (a.atom).size = (at n a.atom a.get).some in
          subst V a.range (subst (λ k. 0 < k) (sym (range_size l (a.atom).storage (a.atom).size)) some)
