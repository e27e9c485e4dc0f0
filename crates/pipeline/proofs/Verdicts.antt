-- No input is both accepted and refused.
use Rattle.std.proofs.Common.{◌≡◌, ◌∙◌, ℕ, List, [], Some, None, length, ap, inl, inr, sym, subst, arith}
use Rattle.std.specs.Prelude.{ℤ, pos, ◌+ℤ◌}
use Rattle.pcode_model.specs.declared.atoms.Atom.{Atom}
use Rattle.pcode_model.specs.declared.flow.FlowWhy.TheVariants as W
use Rattle.pcode_model.specs.declared.frame.Frame.{Frame}
use Rattle.pcode_model.specs.declared.frame.FrameAccess.{FrameAccess}
use Rattle.pcode_model.specs.declared.listing.Listing.{Listing}
use Rattle.pcode_model.specs.declared.listing.Place.{Place}
use Rattle.pcode_model.specs.declared.rules.OpFault.{OpFault}
use Rattle.pcode_model.specs.declared.storage.ParamStorage.{ParamStorage}
use Rattle.pcode_model.specs.declared.storage.ParamStorage.TheVariants as P
use Rattle.pcode_model.specs.Flow.{AreStarts, IsIn}
use Rattle.pcode_model.specs.Atoms.{AreAtoms, Area, Cuts, IsAccessed, IsAtom, IsCut, Range, area_of, offset_of, range}
use Rattle.pcode_model.specs.Rules.{first_bad}
use Rattle.pcodetext.specs.declared.fault.TextFault.{TextFault}
use Rattle.pcodetext.specs.Meaning.{Good, Bad}
use Rattle.pcodetext.proofs.Whole.{good_same}
use Rattle.flow.specs.declared.answer.FlowFault.TheVariants as F
use Rattle.frame_facts.specs.Listed.{IsFrame}
use Rattle.frame_facts.proofs.Whole.{same_accesses}
use Rattle.stackvars.specs.declared.fault.AtomFault.TheVariants as A
use Rattle.refusals.specs.Good.{Bytes, RefusedBy}
use Rattle.refusals.specs.declared.refusal.Refusal.{Refusal}
use Rattle.refusals.specs.declared.refusal.Refusal.TheVariants as R
use Rattle.pipeline.specs.Verdict.{Accepts, HasAtoms, IsAccepted, IsRefused}
use Rattle.pipeline.proofs.Ordered.{same_atoms, same_places}

-- ---- as many blocks, and as many atoms

starts_same : (l : Listing) (ps qs : List Place) → AreStarts l [] ps → AreStarts l [] qs → ps ≡ qs
starts_same l ps qs a b = same_places ps qs a.rising b.rising (λ p is. (b.each p).1 ((a.each p).0 is))
    (λ p is. (a.each p).1 ((b.each p).0 is))

-- What is accessed by one frame is accessed by another one that has its accesses.
module _ (l : Listing) (f g : Frame) (has : (a : FrameAccess) → IsIn a f.accesses → IsIn a g.accesses) where
  accessed_by : (s : ParamStorage) (k : ℕ) → IsAccessed l [] f (range s k) → IsAccessed l [] g (range s k)
  accessed_by (P.Register o) k h = h
  accessed_by (P.Unique o) k h = h
  accessed_by (P.Stack o) k h = (h.0, (has h.0 h.1.0, h.1.1))

  cuts_by : (r : Range) → Cuts l [] f r → Cuts l [] g r
  cuts_by r (inl h) = inl (accessed_by r.storage r.size h)
  cuts_by r (inr h) = inr h

  cut_by : (area : Area) (o : ℤ) → IsCut l [] f area o → IsCut l [] g area o
  cut_by area o h = (h.0, (cuts_by h.0 h.1.0, h.1.1))

atom_by : (l : Listing) (f g : Frame)
    → ((a : FrameAccess) → IsIn a f.accesses → IsIn a g.accesses)
    → ((a : FrameAccess) → IsIn a g.accesses → IsIn a f.accesses)
    → (a : Atom)
    → IsAtom l [] f a
    → IsAtom l [] g a
atom_by l f g there back a is = record {
  some = is.some;
  begins = cut_by l f g there (area_of a.storage) (offset_of a.storage) is.begins;
  ends = cut_by l f g there (area_of a.storage) (offset_of a.storage +ℤ pos a.size) is.ends;
  whole = λ d low high cut. is.whole d low high (cut_by l g f back (area_of a.storage) (offset_of a.storage +ℤ pos d) cut);
  access = is.access;
  accessed = accessed_by l f g there is.access.storage is.access.size is.accessed;
  inside = is.inside;
}

-- The atoms with one frame of a listing are those with another one.
pub atoms_by : (l : Listing) (f g : Frame)
    → IsFrame l [] [] f
    → IsFrame l [] [] g
    → (atoms : List Atom)
    → AreAtoms l [] f atoms
    → AreAtoms l [] g atoms
atoms_by l f g is also atoms are =
    let there = same_accesses l [] [] f g is also in
    let back = same_accesses l [] [] g f also is in
    record {
      each = λ a. (
        λ h. atom_by l f g there back a ((are.each a).0 h),
        λ h. (are.each a).1 (atom_by l g f back there a h),
      );
      in_order = are.in_order;
    }

atoms_same : (l : Listing) (m n : ℕ) → HasAtoms l m → HasAtoms l n → m ≡ n
atoms_same l m n (f, (is, (xs, (a, x)))) (g, (also, (ys, (b, y)))) =
    let c = atoms_by l f g is also xs a in
    sym x
    ∙ ap length (same_atoms xs ys c.in_order b.in_order
    (λ z h. (b.each z).1 ((c.each z).0 h))
    (λ z h. (c.each z).1 ((b.each z).0 h)))
    ∙ y

-- ---- verdicts

good_not_bad : (l : Listing) (fault : TextFault) → Good l ≡ Bad fault → ⊥
good_not_bad l fault e = cc

none_not_some : (fault : OpFault) → None ≡ Some fault → ⊥
none_not_some fault e = cc

module _ (bytes : Bytes) (l : Listing) (a : Accepts bytes l) where
  the_listing : (Q : Listing → Type 0) → RefusedBy bytes Q → Q l
  the_listing Q (m, (good, q)) = subst Q (good_same m l (sym good.read ∙ a.good.read)) q

  not_refused : (fault : Refusal) → IsRefused bytes fault → ⊥
  not_refused (R.Text fault) h = good_not_bad l fault (sym a.good.read ∙ h)
  not_refused (R.Op fault) (m, (read, bad)) =
      let same : m ≡ l = good_same m l (sym read ∙ a.good.read) in
      none_not_some fault (sym a.good.ops ∙ subst (λ x. first_bad x ≡ Some fault) same bad)
  not_refused R.NotBuilt h = the_listing _ h a.built
  not_refused (R.Flow (F.NoTarget p)) h = a.flow p W.NoTarget (the_listing _ h).1.here
  not_refused (R.Flow (F.FallsOff p)) h = a.flow p W.FallsOff (the_listing _ h).1.here
  not_refused (R.Flow (F.BadRelative p)) h = a.flow p W.BadRelative (the_listing _ h).1.here
  not_refused (R.Flow (F.NoTable p)) h = a.flow p W.NoTable (the_listing _ h).1.here
  not_refused (R.Flow (F.TableEntered p)) h = a.flow p W.TableEntered (the_listing _ h).1.here
  not_refused (R.Flow (F.TooManyBlocks n)) h =
      let many = (the_listing _ h).1.1 in
      let same = ap length (starts_same l a.blocks.0 many.0 a.blocks.1.0 many.1.0) in
      omega (arith, same, many.1.1.0, many.1.1.1, a.blocks.1.1)
  not_refused (R.Flow F.Memory) h = h
  not_refused (R.Atoms (A.TooManyAtoms n)) h =
      let fault = (the_listing _ h).1.1.1 in
      let many : HasAtoms l n = (fault.0, (fault.1.0, fault.1.1.0)) in
      let same = atoms_same l a.atoms.0 n a.atoms.1.0 many in
      omega (arith, same, fault.1.1.1, a.atoms.1.1)
  not_refused (R.Atoms A.Memory) h = h
  not_refused R.Memory h = h

pub never_both : (bytes : Bytes) (fault : Refusal) → IsAccepted bytes → IsRefused bytes fault → ⊥
never_both bytes fault (l, a) h = not_refused bytes l a fault h
