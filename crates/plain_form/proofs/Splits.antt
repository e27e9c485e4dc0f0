-- The ends of kept ranges cut, so that each atom of the register space lies in a kept range or apart from it.
use Rattle.std.proofs.Common.{◌≡◌, ◌≤◌, ◌<◌, ◌+◌, ◌-◌, ◌⊎◌, ℕ, false, List, [], ◌∷◌, refl, inl, inr, sym, subst, ap, arith, ⊎_elim}
use Rattle.std.specs.Prelude.{pos}
use Rattle.std.proofs.lemmas.Bool.{cases_lt}
use Rattle.std.proofs.lemmas.Bool.Decides.{nat_tests}
use Rattle.pcode_model.specs.declared.storage.ParamStorage.{ParamStorage}
use Rattle.pcode_model.specs.declared.storage.ParamStorage.TheVariants as P
use Rattle.pcode_model.specs.declared.atoms.Atom.{Atom}
use Rattle.pcode_model.specs.declared.frame.Frame.{Frame}
use Rattle.pcode_model.specs.declared.listing.Listing.{Listing}
use Rattle.pcode_model.specs.declared.listing.Proto.{Proto}
use Rattle.pcode_model.specs.declared.listing.Varnode.{Varnode}
use Rattle.pcode_model.specs.Atoms.{AreAtoms, IsAtom, IsCut, Registers, kept_ranges, range, registers_at}
use Rattle.pcode_model.specs.Flow.{IsIn}
use Rattle.pcode_model.specs.Ranges.{meets}
use Rattle.pcode_model.specs.Spaces.{register_space}
use Rattle.pcode_model.specs.WellFormed.{IsWellFormed, ShareNothing}
use Rattle.pcode_model.proofs.Members.{behind, in_front}
use Rattle.stackvars.proofs.Reach.{spaces_differ}
use Rattle.op_code.specs.Form.{IsSplitBy}
use Rattle.op_code.specs.Lowered.{range_of, ranges_of}
use Rattle.plain_form.proofs.Halves.{off_frame}

-- ---- kept ranges

kept_by : (keep : List Varnode) (k : Varnode) → IsIn k keep → IsIn (range (P.Register k.offset) k.size) (registers_at keep)
kept_by [] k is = absurd is
kept_by (v ∷ keep) k (inl e) = inl (ap (λ (x : Varnode). range (P.Register x.offset) x.size) e)
kept_by (v ∷ keep) k (inr is) = inr (kept_by keep k is)

-- A kept range of a prototype cuts.
pub kept_of : (protos : List Proto) (p : Proto) (k : Varnode)
    → IsIn p protos
    → IsIn k p.keep
    → IsIn (range (P.Register k.offset) k.size) (kept_ranges protos)
kept_of [] p k among is = absurd among
kept_of (q ∷ protos) p k (inl e) is =
    let I : Proto → Type 0 = λ x. IsIn k x.keep in
    in_front (registers_at q.keep) (kept_ranges protos) (range (P.Register k.offset) k.size)
    (kept_by q.keep k (subst I e is))
kept_of (q ∷ protos) p k (inr among) is =
    behind (registers_at q.keep) (kept_ranges protos) (range (P.Register k.offset) k.size) (kept_of protos p k among is)

-- ---- ranges of atoms

record IsRangeOf (l : Listing) (atoms : List Atom) (v : Varnode) : Type 0 where
  atom : Atom
  among : IsIn atom atoms
  range_is : v ≡ range_of l atom

of_range : (l : Listing) (atoms : List Atom) (v : Varnode) → IsIn v (ranges_of l atoms) → IsRangeOf l atoms v
of_range l [] v is = absurd is
of_range l (a ∷ atoms) v (inl e) = record { atom = a; among = inl refl; range_is = e }
of_range l (a ∷ atoms) v (inr is) =
    let r = of_range l atoms v is in record { atom = r.atom; among = inr r.among; range_is = r.range_is }

-- ---- what lies in a range, or apart from it

no_meeting : (o j k n : ℕ) → k + n ≤ o → meets o j k n ≡ false
no_meeting o j k n h = grind (arith, nat_tests)

no_meeting_before : (o j k n : ℕ) → o + j ≤ k → meets o j k n ≡ false
no_meeting_before o j k n h = grind (arith, nat_tests)

module _
    (l : Listing)
    (read : IsWellFormed l)
    (f : Frame)
    (k : Varnode)
    (kept : IsIn (range (P.Register k.offset) k.size) (kept_ranges l.protos))
  where
    cut_first : IsCut l [] f Registers (pos k.offset)
    cut_first = (range (P.Register k.offset) k.size, (inr (inr kept), (refl, inl refl)))

    cut_last : IsCut l [] f Registers (pos (k.offset + k.size))
    cut_last = (range (P.Register k.offset) k.size, (inr (inr kept), (refl, inr refl)))

    abbrev Split : ℕ → ℕ → Type 0
    Split o j = ((k.offset ≤ o) × (o + j ≤ k.offset + k.size)) ⊎ (meets o j k.offset k.size ≡ false)

    -- no cut stands inside an atom
    none_inside : (o j n : ℕ)
        → IsAtom l [] f (range (P.Register o) j)
        → IsCut l [] f Registers (pos n)
        → o < n
        → n < o + j
        → ⊥
    none_inside o j n atom cut more less =
        let at : n ≡ o + (n - o) = omega (arith, more) in
        let C : ℕ → Type 0 = λ m. IsCut l [] f Registers (pos m) in
        atom.whole (n - o) (omega (arith, more)) (omega (arith, more, less)) (subst C at cut)

    split_meeting : (o j : ℕ)
        → IsAtom l [] f (range (P.Register o) j)
        → o < k.offset + k.size
        → k.offset < o + j
        → Split o j
    split_meeting o j atom before after = ⊎_elim
        (λ (lower : o < k.offset). absurd (none_inside o j k.offset atom cut_first lower after))
        (λ (first : k.offset ≤ o). ⊎_elim
        (λ (inner : k.offset + k.size < o + j).
        absurd (none_inside o j (k.offset + k.size) atom cut_last before inner))
        (λ (last : o + j ≤ k.offset + k.size). inl (first, last))
        (cases_lt (k.offset + k.size) (o + j)))
        (cases_lt o k.offset)

    split_at : (o j : ℕ) → IsAtom l [] f (range (P.Register o) j) → Split o j
    split_at o j atom = ⊎_elim
        (λ (before : o < k.offset + k.size). ⊎_elim
        (λ (after : k.offset < o + j). split_meeting o j atom before after)
        (λ (apart : o + j ≤ k.offset). inr (no_meeting_before o j k.offset k.size apart))
        (cases_lt k.offset (o + j)))
        (λ (apart : k.offset + k.size ≤ o). inr (no_meeting o j k.offset k.size apart))
        (cases_lt o (k.offset + k.size))

    split_by : (s : ParamStorage) (j : ℕ)
        → IsAtom l [] f (range s j)
        → (range_of l (range s j)).space ≡ register_space l
        → Split (range_of l (range s j)).offset j
    split_by (P.Register o) j atom home = split_at o j atom
    split_by (P.Unique o) j atom home = absurd (spaces_differ l read (sym home))
    split_by (P.Stack o) j atom home = absurd (off_frame l read (register_space l) (inl refl) (sym home))

    module _
        (atoms : List Atom)
        (are : AreAtoms l [] f atoms)
      where
        -- Each variable of a register lies in the kept range or apart from it.
        pub splits : IsSplitBy l (ranges_of l atoms) k
        splits v is home =
            let r = of_range l atoms v is in
            let a = r.atom in
            let H : Varnode → Type 0 = λ x. x.space ≡ register_space l in
            let G : Varnode → Type 0 = λ x.
            ((k.offset ≤ x.offset) × (x.offset + x.size ≤ k.offset + k.size)) ⊎ ShareNothing x k in
            let there = split_by a.storage a.size ((are.each a).0 r.among) (subst H r.range_is home) in
            subst G (sym r.range_is) (sized a.storage a.size there)
          where
            sized : (s : ParamStorage) (j : ℕ)
                → Split (range_of l (range s j)).offset j
                → (let x = range_of l (range s j) in
                ((k.offset ≤ x.offset) × (x.offset + x.size ≤ k.offset + k.size)) ⊎ ShareNothing x k)
            sized (P.Register o) j h = h
            sized (P.Unique o) j h = h
            sized (P.Stack o) j h = h
