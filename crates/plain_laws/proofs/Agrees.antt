-- The code of the plain lowering agrees with the listing: by the frame law, since the run of a listing without frame
-- variables ends Outside where it reads a hidden byte, and the run of the code goes on.
use Rattle.std.proofs.Common.{◌≡◌, ◌≢◌, Bool, true, false, List, length, refl}
use Rattle.std.specs.Prelude.{Ok, Err}
use Rattle.machine.specs.Trace.{End, ReadOnlyWrite, Undefined}
use Rattle.machine.specs.TwoWay.{NeverEnds, TwoWay}
use Rattle.machine.specs.Agree.{Agree, FrameLaw}
use Rattle.machine.proofs.Agree.{agree_by_frame}
use Rattle.machine.proofs.TwoWay.{never_ends_along}
use Rattle.pcode_model.specs.declared.listing.Listing.{Listing}
use Rattle.pcode_model.specs.declared.tables.TableAt.{TableAt}
use Rattle.pcode_model.specs.declared.atoms.Atom.{Atom}
use Rattle.pcode_model.specs.declared.flow.Block.{Block}
use Rattle.pcode_model.specs.Spaces.{is_fixed}
use Rattle.pcode_model.specs.Memory.{Frame, any_fixed, apart, unless}
use Rattle.pcode_model.specs.World.{Entry, IsEntry}
use Rattle.pcode_model.specs.Step.{first_apart, seen_f, seen_p, start}
use Rattle.pcode_laws.proofs.AsBytes.{apart_as_bytes}
use Rattle.pcode_laws.proofs.Ends.{Allows, ends_within}
use Rattle.blockcode.specs.Run.{seen_code}
use Rattle.range_words.proofs.Own.{apart_has_own}
use Rattle.op_code.specs.Lowered.{lowered}
use Rattle.op_code.specs.Lowerable.{IsLowerable}
use Rattle.plain_laws.proofs.Keeps.{keeps}

abbrev Defined : End → Type 0
Defined e = e ≢ Undefined

ok_never : {A : Type 0} (x : A) (e : End) → Ok x ≡ Err e → Defined e
ok_never x e f = absurd (cc)

fixed_ends : {A : Type 0} (b : Bool) (x : A) (e : End) → unless b ReadOnlyWrite (Ok x) ≡ Err e → Defined e
fixed_ends true x e f = λ g. absurd (cc)
fixed_ends false x e f = ok_never x e f

-- the frame run never ends Undefined
pub frame_run_defined : (l : Listing) (f : Frame) (e : Entry) → NeverEnds Undefined (seen_f l f e)
frame_run_defined l f e n over =
    let allows : Allows (apart l) l Defined = record {
      div_zero = λ d. absurd (cc);
      no_return = λ d. absurd (cc);
      bad_target = λ d. absurd (cc);
      no_answer = λ d. absurd (cc);
      returned = λ b d. absurd (cc);
      read = λ s a k w e f. ok_never _ e f;
      write = λ s a bs w e f. fixed_ends (any_fixed l s a (length bs)) _ e f;
      read_own = λ a c k w e f. ok_never _ e f;
      answer = λ x w e f. fixed_ends (is_fixed l x.space x.offset) _ e f;
    } in
    ends_within (apart l) l f Defined allows (start l e (first_apart l e)) refl n Undefined over refl

module _
    (l : Listing)
    (t : List TableAt)
    (f : Frame)
    (blocks : List Block)
    (atoms : List Atom)
    (form : IsLowerable l t f blocks atoms)
    (e : Entry)
    (entry : IsEntry l e)
  where
    -- the run whose frame variables have bytes of their own, and the code's
    pub frame_run_keeps : TwoWay (seen_f l f e) (seen_code l (lowered l f blocks atoms) e)
    frame_run_keeps = keeps (apart l) (λ w. w.bytes) (λ w. w.own) l f t blocks atoms e (first_apart l e) form entry
        (apart_as_bytes l) (apart_has_own l) refl refl

    -- The run of the code agrees with the run of the listing, up to where that one ends Outside, where the frame's law
    -- holds.
    pub code_agrees : FrameLaw (seen_p l f e) (seen_f l f e)
        → Agree true (seen_p l f e) (seen_code l (lowered l f blocks atoms) e)
    code_agrees law =
        let target = seen_code l (lowered l f blocks atoms) e in
        agree_by_frame true (seen_p l f e) (seen_f l f e) target law frame_run_keeps
        (never_ends_along Undefined (seen_f l f e) target frame_run_keeps (frame_run_defined l f e))
