-- The C function of the plain lowering agrees with the listing: the links of the chain, one behind another.
use Rattle.std.proofs.Common.{◌≡◌, ◌≢◌, ◌<◌, ◌≤◌, ◌^◌, ℕ, Bool, true, false, List, length, Option, Some, None, refl, sym, ap, ◌∙◌, subst, arith}
use Rattle.std.specs.Prelude.{Result, Ok, Err}
use Rattle.std.specs.List.{AllByRecursion}
use Rattle.machine.specs.Trace.{End, Returned, ReadOnlyWrite, Outside, BadTarget, Trace}
use Rattle.machine.specs.TwoWay.{NeverEnds, bare, bare_end}
use Rattle.machine.specs.Agree.{Agree, FrameLaw}
use Rattle.machine.proofs.Agree.{agree_along}
use Rattle.machine.proofs.TwoWay.{two_way_as, never_ends_along}
use Rattle.pcode_model.specs.declared.atoms.Atom.{Atom}
use Rattle.pcode_model.specs.declared.flow.Block.{Block}
use Rattle.pcode_model.specs.declared.listing.Listing.{Listing}
use Rattle.pcode_model.specs.declared.listing.Varnode.{Varnode}
use Rattle.pcode_model.specs.declared.tables.TableAt.{TableAt}
use Rattle.pcode_model.specs.Spaces.{is_fixed, is_some}
use Rattle.pcode_model.specs.Memory.{Frame, any_fixed, any_framed, any_hidden, is_framed, unless, whole}
use Rattle.pcode_model.specs.WellFormed.{IsNamedSpace}
use Rattle.pcode_model.specs.World.{Entry, IsEntry}
use Rattle.pcode_model.specs.Step.{first_whole, layout as layout_of, proto_of, result_of, seen_f, seen_p, start}
use Rattle.pcode_laws.proofs.Ends.{Allows, ends_within}
use Rattle.cmeaning.specs.Agree.{AgreesWith}
use Rattle.cmeaning.specs.Step.{seen_c}
use Rattle.naming.specs.Covered.{IsCovered}
use Rattle.blockcode.specs.declared.code.Code.{Code}
use Rattle.blockcode.specs.CanLay.{has_switch}
use Rattle.blockcode.specs.Laid.{laid_body}
use Rattle.blockcode.specs.Run.{seen_code}
use Rattle.layout_laws.proofs.Covered.{laid_covered}
use Rattle.layout_laws.proofs.Keeps as layout
use Rattle.op_values.specs.Nodes.{width_of_range}
use Rattle.op_code.specs.Lowered.{lowered}
use Rattle.op_code.specs.Lowerable.{IsLowerable}
use Rattle.plain_laws.proofs.Agrees as lowering
use Rattle.plain_valid.specs.Function.{plain_head, plain_function}
use Rattle.plain_valid.specs.Long.{HasLong}
use Rattle.plain_valid.proofs.Laying.{can_lay, no_switch}
use Rattle.plain_valid.proofs.Suits.{plain_suits}
use Rattle.plain_valid.proofs.Valid.{few_declared, plain_declares}

-- ---- returns without a word

-- not the end of a return with this word
abbrev IsOther : ℕ → End → Type 0
IsOther w e = e ≢ Returned (Some w)

ends_unless : {A : Type 0} (w : ℕ) (b : Bool) (d : End) (r : Result A End) (e : End)
    → IsOther w d
    → ((e : End) → r ≡ Err e → IsOther w e)
    → unless b d r ≡ Err e
    → IsOther w e
ends_unless w true d r e q h f = let s : d ≡ e = cc in subst (IsOther w) s q
ends_unless w false d r e q h f = h e f

ok_never : {A : Type 0} (w : ℕ) (x : A) (e : End) → Ok x ≡ Err e → IsOther w e
ok_never w x e f = absurd (cc)

-- The p-code run returns a word only where the prototype has a result.
pub never_word : (l : Listing) (f : Frame) (e : Entry) (w : ℕ)
    → (proto_of l None).gives ≡ None
    → NeverEnds (Returned (Some w)) (seen_p l f e)
never_word l f e w none n over =
    ends_within (whole (layout_of l f e)) l f (IsOther w) allows (start l e (first_whole e)) refl n (Returned (Some w)) over refl
  where
    outside : IsOther w Outside
    outside d = absurd (cc)

    fixed : IsOther w ReadOnlyWrite
    fixed d = absurd (cc)

    allows : Allows (whole (layout_of l f e)) l (IsOther w)
    allows = record {
      div_zero = λ d. absurd (cc);
      no_return = λ d. absurd (cc);
      bad_target = λ d. absurd (cc);
      no_answer = λ d. absurd (cc);
      returned = λ b d.
          let g : Returned (result_of l b (proto_of l None).gives) ≡ Returned None =
          ap (λ o. Returned (result_of l b o)) none in
          absurd (cc);
      read = λ s a k v d h. ends_unless w (any_framed (layout_of l f e) s a k) Outside _ d outside
          (λ d g. ends_unless w (any_hidden l v s a k) Outside _ d outside (ok_never w _) g) h;
      write = λ s a bs v d h. ends_unless w (any_framed (layout_of l f e) s a (length bs)) Outside _ d outside
          (λ d g. ends_unless w (any_fixed l s a (length bs)) ReadOnlyWrite _ d fixed (ok_never w _) g) h;
      read_own = λ a c k v d h. ends_unless w _ Outside _ d outside (ok_never w _) h;
      answer = λ x v d h. ends_unless w (is_framed (layout_of l f e) x.space x.offset) Outside _ d outside
          (λ d g. ends_unless w (is_fixed l x.space x.offset) ReadOnlyWrite _ d fixed (ok_never w _) g) h;
    }

wordless_end : (o : Option End) → ((w : ℕ) → o ≢ Some (Returned (Some w))) → bare_end o ≡ o
wordless_end None h = refl
wordless_end (Some (Returned None)) h = refl
wordless_end (Some (Returned (Some w))) h = absurd (h w refl)
wordless_end (Some e) h = refl

wordless : (r : ℕ → Trace) → ((w : ℕ) → NeverEnds (Returned (Some w)) r) → (n : ℕ) → bare (r n) ≡ r n
wordless r h n = ap (λ o. let t : Trace = record { events = (r n).events; over = o } in t)
    (wordless_end (r n).over (λ w e. h w n e))

-- Agreement with a run that returns no words where the listing's doesn't is agreement where words are dropped.
without_words : (gives : Option Varnode) (source target : ℕ → Trace)
    → ((w : ℕ) → gives ≡ None → NeverEnds (Returned (Some w)) source)
    → Agree true source target
    → Agree (is_some (width_of_range gives)) source target
without_words (Some v) source target h agree = agree
without_words None source target h agree = record {
  same = λ never.
      let both = agree.same never in
      two_way_as false source target both
      (wordless target (λ w. never_ends_along (Returned (Some w)) source target both (h w refl)));
  until = agree.until;
  defined = agree.defined;
}

-- ---- the chain

module _
    (l : Listing)
    (t : List TableAt)
    (f : Frame)
    (blocks : List Block)
    (atoms : List Atom)
    (form : IsLowerable l t f blocks atoms)
    (long : HasLong l t atoms)
    (few : length (lowered l f blocks atoms).variables ≤ 2 ^ 32)
    (named : AllByRecursion IsNamedSpace l.spaces)
  where
    abbrev code : Code
    code = lowered l f blocks atoms

    -- The head of the plain lowering covers its body.
    pub plain_covered : IsCovered (plain_head l code) (laid_body code)
    plain_covered = laid_covered (plain_head l code) code (few_declared l f blocks atoms few)
        (can_lay l t f blocks atoms form long few).numbers.few (plain_suits l t f blocks atoms form long few named)

    -- no run of this code meets a switch
    never_switches : (e : Entry) → has_switch code ≡ true → NeverEnds BadTarget (seen_code l code e)
    never_switches e has = let no : true ≡ false = sym has ∙ no_switch l f blocks atoms in absurd (cc)

    -- For every entry the run of a listing agrees with the run of the C function, where the frame law holds of the frame:
    -- the listing and the code of its plain lowering, that code and the body that it is laid out as, that body and the named
    -- function.
    pub agrees : ((e : Entry) → IsEntry l e → FrameLaw (seen_p l f e) (seen_f l f e))
        → AgreesWith l f (plain_function l f blocks atoms)
    agrees law e entry =
        let p = seen_p l f e in
        let c = seen_c l (plain_function l f blocks atoms) e in
        let h = plain_head l code in
        let laid = layout.function_keeps l h code e (can_lay l t f blocks atoms form long few)
        (plain_declares l f blocks atoms) plain_covered (never_switches e) in
        let lowers = lowering.code_agrees l t f blocks atoms form e entry (law e entry) in
        without_words (proto_of l None).gives p c (λ w none. never_word l f e w none)
        (agree_along true p (seen_code l code e) c lowers laid)
