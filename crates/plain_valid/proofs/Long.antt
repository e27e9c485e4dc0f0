-- The atoms of a listing begin at numbers of 64 bits, or of 32 bits in the frame, where each access ends within them.
use Rattle.std.proofs.Common.{◌≡◌, ◌≢◌, sym, ℕ, zero, suc, ◌+◌, ◌<◌, ◌≤◌, ◌^◌, List, [], ◌∷◌, Some, refl, subst, arith, inl, inr}
use Rattle.std.specs.Prelude.{pos, slice_get, ◌+ℤ◌}
use Rattle.std.proofs.lemmas.Int.{ints}
use Rattle.pcode_model.specs.declared.frame.Frame.{Frame}
use Rattle.pcode_model.specs.declared.frame.FrameAccess.{FrameAccess}
use Rattle.pcode_model.specs.declared.listing.Varnode.{Varnode}
use Rattle.pcode_model.specs.declared.listing.Listing.{Listing}
use Rattle.pcode_model.specs.declared.storage.ParamStorage.{ParamStorage}
use Rattle.pcode_model.specs.declared.storage.ParamStorage.TheVariants as P
use Rattle.pcode_model.specs.declared.tables.TableAt.{TableAt}
use Rattle.pcode_model.specs.declared.atoms.Atom.{Atom}
use Rattle.pcode_model.specs.Atoms.{Accesses, AreAtoms, IsAccessed, IsAtom, area_of, offset_of, range}
use Rattle.pcode_model.specs.Flow.{IsIn}
use Rattle.pcode_model.specs.Spaces.{first_ram, register_space}
use Rattle.op_code.specs.Lowered.{range_at, range_of, ranges_of}
use Rattle.plain_valid.specs.Long.{AreLong, IsLong, IsLongAccess}

module _
    (l : Listing)
    (t : List TableAt)
    (f : Frame)
    (low : (v : Varnode) → Accesses l t v → v.offset + v.size ≤ 2 ^ 64)
    (near : (a : FrameAccess) → IsIn a f.accesses → IsLongAccess l a)
  where
    -- so many bytes of a storage lie in an access of m bytes, d bytes above where it begins
    within_long : (s r : ParamStorage) (size m d : ℕ) → 0 < size
        → area_of s ≡ area_of r → offset_of s ≡ offset_of r +ℤ pos d → d + size ≤ m
        → IsAccessed l t f (range r m) → IsLong l s
    within_long (P.Register o) (P.Register p) size m d some area at fits acc =
        omega (arith, ints, some, at, fits, low _ acc)
    within_long (P.Register o) (P.Unique p) size m d some area at fits acc = absurd (cc)
    within_long (P.Register o) (P.Stack p) size m d some area at fits acc = absurd (cc)
    within_long (P.Unique o) (P.Register p) size m d some area at fits acc = absurd (cc)
    within_long (P.Unique o) (P.Unique p) size m d some area at fits acc =
        omega (arith, ints, some, at, fits, low _ acc)
    within_long (P.Unique o) (P.Stack p) size m d some area at fits acc = absurd (cc)
    within_long (P.Stack o) (P.Register p) size m d some area at fits acc = absurd (cc)
    within_long (P.Stack o) (P.Unique p) size m d some area at fits acc = absurd (cc)
    within_long (P.Stack o) (P.Stack p) size m d some area at fits (a, (is, (e, g))) =
        let k = near a is in
        let low = k.begins in
        let high = k.ends in
        ((omega (arith, ints), omega (arith, ints)), k.stack)

    atom_long : (a : Atom) → IsAtom l t f a → IsLong l a.storage
    atom_long a is =
        let place = is.inside.1 in
        within_long a.storage is.access.storage a.size is.access.size place.0 is.some is.inside.0 place.1.0 place.1.1
        is.accessed

    each_long : (atoms : List Atom) → ((a : Atom) → IsIn a atoms → IsAtom l t f a) → AreLong l atoms
    each_long [] each = tt
    each_long (a ∷ atoms) each = (atom_long a (each a (inl refl)), each_long atoms (λ b h. each b (inr h)))

-- Each atom begins at a number of 64 bits, or of 32 bits in the frame.
pub atoms_long : (l : Listing) (t : List TableAt) (f : Frame) (atoms : List Atom)
    → AreAtoms l t f atoms
    → ((v : Varnode) → Accesses l t v → v.offset + v.size ≤ 2 ^ 64)
    → ((a : FrameAccess) → IsIn a f.accesses → IsLongAccess l a)
    → AreLong l atoms
atoms_long l t f atoms are low near = each_long l t f low near atoms (λ a. (are.each a).0)

-- ---- their ranges

module _ (l : Listing) (registers : register_space l ≢ first_ram l) where
  range_low : (s : ParamStorage) (size : ℕ)
      → IsLong l s
      → (range_at l s size).space ≡ register_space l
      → (range_at l s size).offset < 2 ^ 64
  range_low (P.Register o) size long home = long
  range_low (P.Unique o) size long home = long
  range_low (P.Stack o) size long home = absurd (registers (sym home))

  -- The range of each atom of the register space begins at a number of 64 bits.
  pub ranges_low : (atoms : List Atom)
      → AreLong l atoms
      → (n : ℕ) (v : Varnode)
      → slice_get (ranges_of l atoms) n ≡ Some v
      → v.space ≡ register_space l
      → v.offset < 2 ^ 64
  ranges_low [] long n v e home = absurd (cc)
  ranges_low (a ∷ atoms) long zero v e home =
      let same : range_of l a ≡ v = cc in
      let R : Varnode → Type 0 = λ x. x.offset < 2 ^ 64 in
      let H : Varnode → Type 0 = λ x. x.space ≡ register_space l in
      subst R same (range_low a.storage a.size long.0 (subst H (sym same) home))
  ranges_low (a ∷ atoms) long (suc n) v e home = ranges_low atoms long.1 n v e home
