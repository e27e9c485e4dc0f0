-- Each access of a listing's frame is a row of the atoms' variables, and what an op accesses there is what it reaches.
use Rattle.std.proofs.Common.{◌≡◌, ◌≢◌, ◌∙◌, ◌<◌, ℕ, List, [], Some, refl, inl, inr, ◌⊎◌, ⊎_elim, sym, ap, subst, arith}
use Rattle.std.specs.Prelude.{ℤ, pos, negsuc, neg_ℤ, ◌-ℤ◌}
use Rattle.std.proofs.lemmas.Bool.{cases_eq}
use Rattle.std.proofs.lemmas.Int.{ints}
use Rattle.pcode_model.specs.declared.atoms.Atom.{Atom}
use Rattle.pcode_model.specs.declared.frame.Frame.{Frame}
use Rattle.pcode_model.specs.declared.frame.FrameAccess.{FrameAccess}
use Rattle.pcode_model.specs.declared.listing.Instruction.{Instruction}
use Rattle.pcode_model.specs.declared.listing.Listing.{Listing}
use Rattle.pcode_model.specs.declared.listing.Op.{Op}
use Rattle.pcode_model.specs.declared.listing.Place.{Place}
use Rattle.pcode_model.specs.declared.listing.Varnode.{Varnode}
use Rattle.pcode_model.specs.declared.storage.ParamStorage.{ParamStorage}
use Rattle.pcode_model.specs.declared.storage.ParamStorage.TheVariants as P
use Rattle.pcode_model.specs.Atoms.{Accesses, AreAtoms, IsAccessed, Stacked, area_of, range, varnode}
use Rattle.pcode_model.specs.Flow.{IsIn}
use Rattle.pcode_model.specs.Frame.{own_in, wrapped}
use Rattle.pcode_model.specs.Places.{Does, standing}
use Rattle.pcode_model.specs.Spaces.{first_ram}
use Rattle.pcode_model.specs.WellFormed.{IsWellFormed}
use Rattle.range_words.specs.Own.{centred, frame_range, half, stack_size}
use Rattle.frame_facts.specs.Accesses.{Reach, reaches}
use Rattle.frame_facts.specs.Listed.{IsFrame}
use Rattle.frame_facts.proofs.Reaches.{same_op}
use Rattle.frame_facts.proofs.Numbers.{wrapped_below}
use Rattle.frame_facts.proofs.Owns.{own_listed}
use Rattle.op_code.specs.Cover.{HasCover}
use Rattle.op_code.specs.Form.{IsFramed}
use Rattle.op_code.specs.Lowered.{ranges_of}
use Rattle.op_code.proofs.Apart.{registers_stacked, uniques_stacked}
use Rattle.op_code.proofs.Atoms.{accessed_row}
use Rattle.op_code.proofs.Rows.{row_covers}
use Rattle.plain_form.proofs.Formed.{Inside}
use Rattle.frame_facts.proofs.Bounded.{IsKnown}
use Rattle.plain_form.proofs.Halves.{IsHalfway, centred_is, even, room}
use Rattle.plain_form.proofs.Spaces.{space_some}
use Rattle.plain_form.proofs.Table.{Placed, atoms_some, atoms_table, in_ranges, placed}

-- ---- ranges of the frame, told apart

pos_same : (m n : ℕ) → pos m ≡ pos n → m ≡ n
pos_same m n e = cc

neg_same : (m n : ℕ) → negsuc m ≡ negsuc n → m ≡ n
neg_same m n e = cc

tell_offset : (y z : ℤ) → (y ≡ z) ⊎ (y ≢ z)
tell_offset (pos m) (pos n) = ⊎_elim (λ e. inl (ap pos e)) (λ ne. inr (λ h. ne (pos_same m n h))) (cases_eq m n)
tell_offset (pos m) (negsuc n) = inr (λ e. cc)
tell_offset (negsuc m) (pos n) = inr (λ e. cc)
tell_offset (negsuc m) (negsuc n) =
    ⊎_elim (λ e. inl (ap negsuc e)) (λ ne. inr (λ h. ne (neg_same m n h))) (cases_eq m n)

stack_same : (y z : ℤ) → P.Stack y ≡ P.Stack z → y ≡ z
stack_same y z e = cc

tell_stacked : (s : ParamStorage) (n : ℕ) (z : ℤ) (k : ℕ)
    → (range (P.Stack z) k ≡ range s n) ⊎ (range (P.Stack z) k ≢ range s n)
tell_stacked (P.Register p) n z k = inr (λ h. registers_stacked (sym (ap (λ (a : Atom). area_of a.storage) h)))
tell_stacked (P.Unique p) n z k = inr (λ h. uniques_stacked (sym (ap (λ (a : Atom). area_of a.storage) h)))
tell_stacked (P.Stack y) n z k =
    ⊎_elim
    (λ (e : z ≡ y). ⊎_elim
    (λ (g : k ≡ n). inl (ap (λ x. range (P.Stack x) k) e ∙ ap (λ j. range (P.Stack y) j) g))
    (λ (ne : k ≢ n). inr (λ h. ne (ap (λ (a : Atom). a.size) h)))
    (cases_eq k n))
    (λ (ne : z ≢ y). inr (λ h. ne (stack_same z y (ap (λ (a : Atom). a.storage) h))))
    (tell_offset z y)

-- What an op accesses of the frame by a number: as many bytes as its reach of that number has.
pub record IsOwned (l : Listing) (ranges : List Varnode) (op : Op) (n c : ℕ) : Type 0 where
  pub by : Reach
  pub is_by : IsIn by (reaches l op)
  pub number : by.number ≡ n
  pub framed : IsFramed l ranges c by.size

module _
    (l : Listing)
    (read : IsWellFormed l)
    (inner : (v : Varnode) → Accesses l [] v → Inside l v)
    (f : Frame)
    (known : (a : FrameAccess) → IsIn a f.accesses → IsKnown l a)
    (atoms : List Atom)
    (are : AreAtoms l [] f atoms)
  where
    abbrev middle : ℕ
    middle = half (stack_size l)

    -- the storage of the frame that is counted so far from half the space below the entry word
    abbrev at : ℕ → ParamStorage
    at o = P.Stack (pos o -ℤ pos middle)

    -- the range of an atom of the frame
    named : (o k : ℕ) → IsIn (range (at o) k) atoms → IsIn (varnode (first_ram l) o k) (ranges_of l atoms)
    named o k is =
        let p : Placed l (at o) k = placed l read inner f known (range (at o) k) ((are.each (range (at o) k)).0 is) in
        let e = centred_is (stack_size l) (pos o -ℤ pos middle) (even l read) p.home in
        let same : centred (stack_size l) (wrapped (stack_size l) (pos o -ℤ pos middle)) ≡ o = omega (arith, ints, e) in
        subst (λ x. IsIn (varnode (first_ram l) x k) (ranges_of l atoms)) same
        (in_ranges l atoms (range (at o) k) is)

    -- the range of an access
    abbrev Covered : FrameAccess → Type 0
    Covered a = HasCover (ranges_of l atoms) (frame_range l (wrapped (stack_size l) a.offset) a.size)

    -- An access of the frame has a cover.
    pub own_cover : (a : FrameAccess) → IsIn a f.accesses → Covered a
    own_cover a is =
        let k = known a is in
        let space = room l read k.pointer k.is_pointer in
        let few = k.few.1 in
        let from = k.within.0 in
        let to = k.within.1 in
        let home : IsHalfway (stack_size l) a.offset = record { low = omega (arith, ints); high = omega (arith, ints) } in
        let e = centred_is (stack_size l) a.offset (even l read) home in
        let o : ℕ = centred (stack_size l) (wrapped (stack_size l) a.offset) in
        let back : a.offset ≡ pos o -ℤ pos middle = omega (arith, ints, e) in
        let there : IsAccessed l [] f (range (at o) a.size) =
        subst (λ z. IsAccessed l [] f (range (P.Stack z) a.size)) back (a, (is, (refl, refl))) in
        let row =
        accessed_row l [] f atoms are (ranges_of l atoms) Stacked (first_ram l) at (neg_ℤ (pos middle)) (λ x. refl)
        (λ x. omega (arith, ints)) (λ b x j. tell_stacked b.storage b.size (pos x -ℤ pos middle) j) named o a.size there
        in
        row_covers l (ranges_of l atoms) (atoms_table l read inner f known atoms are)
        (atoms_some l read inner f known atoms are)
        (frame_range l (wrapped (stack_size l) a.offset) a.size) row.0 row.1

    -- By each number that the frame lists at an op's place it accesses the frame so.
    pub owned : (evaluated : List Place)
        → IsFrame l [] evaluated f
        → (p : Place) (i : Instruction) (op : Op) (n c : ℕ)
        → standing l p ≡ Does i op
        → own_in (stack_size l) f.accesses p n ≡ Some c
        → IsOwned l (ranges_of l atoms) op n c
    owned evaluated frame p i op n c is h =
        let a = own_listed (stack_size l) f.accesses p n c h in
        let x = (((frame.accesses.each a.access).0 a.has).1.is_class).access in
        let there : standing l p ≡ Does x.instruction x.op = ap (standing l) (sym a.at) ∙ x.does in
        let same : x.op ≡ op = same_op l p i x.instruction op x.op is there in
        let below = wrapped_below (stack_size l) a.access.offset (space_some l (first_ram l)) in
        let cover : HasCover (ranges_of l atoms) (frame_range l c x.by.size) =
        subst (λ k. HasCover (ranges_of l atoms) (frame_range l c k)) x.size
        (subst (λ o. HasCover (ranges_of l atoms) (frame_range l o a.access.size)) (sym a.offset)
        (own_cover a.access a.has)) in
        record {
          by = x.by;
          is_by = subst (λ (y : Op). IsIn x.by (reaches l y)) same x.is_by;
          number = sym x.number ∙ a.number;
          framed = record { below = subst (λ y. y < stack_size l) (sym a.offset) below; cover = cover };
        }
