-- The facts guide the run of a listing: at each step they say where the accesses of frame variables lie.
use Rattle.std.proofs.Common.{◌≡◌, ℕ, suc, ◌+◌, ◌*◌, ◌%◌, true, List, [], ◌∷◌, Option, Some, None, refl, sym, ap, ◌∙◌, subst, inl, inr, arith, IfSome}
use Rattle.std.specs.Prelude.{Ok, slice_index}
use Rattle.std.proofs.lemmas.Bool.{eqb-true}
use Rattle.pcode_model.specs.declared.listing.Op.{Op}
use Rattle.pcode_model.specs.declared.listing.Place.{Place}
use Rattle.pcode_model.specs.declared.listing.Storage.{Storage}
use Rattle.pcode_model.specs.declared.listing.Storage.TheVariants as storage
use Rattle.pcode_model.specs.declared.listing.Varnode.{Varnode}
use Rattle.pcode_model.specs.declared.listing.Instruction.{Instruction}
use Rattle.pcode_model.specs.declared.listing.Listing.{Listing}
use Rattle.pcode_model.specs.declared.opcode.Opcode.{Opcode}
use Rattle.pcode_model.specs.declared.opcode.Opcode.TheVariants as O
use Rattle.pcode_model.specs.declared.frame.Frame as listed
use Rattle.pcode_model.specs.declared.frame.FrameAccess.{FrameAccess}
use Rattle.pcode_model.specs.Spaces.{first_ram, size_of}
use Rattle.pcode_model.specs.Places.{Does, standing}
use Rattle.pcode_model.specs.WellFormed.{IsStackPointer}
use Rattle.pcode_model.specs.Memory.{Bytes, Layout, Whole, whole}
use Rattle.pcode_model.specs.World.{Entry}
use Rattle.pcode_model.specs.Frame.{frame_of, own_in, wrapped}
use Rattle.pcode_model.specs.Flow.{IsIn}
use Rattle.pcode_model.specs.Step.{State, Reads, ReadsStack, arguments, all_read, all_but_first, byte_address, divided, effect_of, layout, local_word, operands, proto_of, callee_at, read_all, size_out, stack0, stack_address, varnode_at}
use Rattle.frame_law.specs.Aligned.{Aligned, AlignedEffect, AllAligned, Guides, IsOwn}
use Rattle.frame_law.proofs.Keeps.{listing_law}
use Rattle.frame_facts.specs.Facts.{Fact, offsets}
use Rattle.frame_facts.specs.Escapes.{is_of_memory}
use Rattle.frame_facts.specs.Accesses.{IsVariableAccess, Reach, reach, reaches, stack_reaches}
use Rattle.frame_facts.specs.Listed.{IsFrame}
use Rattle.frame_runs.specs.Laws.{IsRun, LawOfFrame}
use Rattle.frame_facts.proofs.Reaches.{memory_reach, one_byte, reach_of, same_op}
use Rattle.frame_runs.proofs.Made.{first_read, reads_local}
use Rattle.frame_runs.proofs.Runs.{Stands, never_switches, start_stands, step_stands}
use Rattle.frame_facts.proofs.Owns.{own_listed}
use Rattle.frame_runs.proofs.Owned.{lies}

-- a range with a fact has bytes
no_bytes : (l : Listing) → {e : Entry} → IsRun l e → (v : Varnode) (c : ℕ) (p : Place) → Fact l [] p v c
    → v.size ≡ 0 → ⊥
no_bytes l run v c p fact empty =
    let x = (fact.1.1).can p v c fact.1.0 in
    let P : Option Varnode → Type 0 = λ o. IfSome o (IsStackPointer l.spaces) in
    let pointer : IsStackPointer l.spaces x.stack = subst P x.is run.read.stack in
    let w : x.stack.size ≡ 0 = sym x.wide ∙ empty in
    omega (arith, pointer.some, w)

module _
    (l : Listing)
    (e : Entry)
    (evaluated : List Place)
    (fr : listed.Frame)
    (run : IsRun l e)
    (frame : IsFrame l [] evaluated fr)
  where
    y : Layout
    y = layout l (frame_of l fr) e

    -- the access that the frame lists for a number at a place, with what it reaches by
    record Found (p : Place) (op : Op) (n c : ℕ) : Type 0 where
      access : FrameAccess
      own : IsVariableAccess l [] evaluated access
      at : access.place ≡ p
      offset : c ≡ wrapped (offsets l) access.offset
      by : Reach
      is_by : IsIn by (reaches l op)
      number : by.number ≡ n
      size : access.size ≡ by.size
      same : (own.1.is_class.access).by ≡ by

    found : (p : Place) (i : Instruction) (op : Op) (n c : ℕ)
        → standing l p ≡ Does i op
        → own_in (offsets l) fr.accesses p n ≡ Some c
        → Found p op n c
    found p i op n c is h =
        let a = own_listed (offsets l) fr.accesses p n c h in
        let own = (frame.accesses.each a.access).0 a.has in
        let x = own.1.is_class.access in
        let P : Op → Type 0 = λ z. IsIn x.by (reaches l z) in
        let there : standing l p ≡ Does x.instruction x.op = ap (standing l) (sym a.at) ∙ x.does in
        record {
          access = a.access;
          own = own;
          at = a.at;
          offset = a.offset;
          by = x.by;
          is_by = subst P (same_op l p i x.instruction op x.op is there) x.is_by;
          number = sym x.number ∙ a.number;
          size = x.size;
          same = refl;
        }

    module _ (p : Place) (b : Bytes) (stands : Stands l [] (stack0 l e) p b) (i : Instruction) (op : Op)
        (is : standing l p ≡ Does i op) where
      -- an access by this reach lies there
      lies_by : (n c : ℕ) (base : Varnode) (above k : ℕ)
          → (f : Found p op n c)
          → f.by ≡ reach n base above k
          → IsOwn (layout l (frame_of l fr) e) c (first_ram l) ((local_word l base b + above) % offsets l) k
      lies_by n c base above k f is_by =
          let S : Place → Type 0 = λ q. Stands l [] (stack0 l e) q b in
          let there = lies l e evaluated fr run frame f.access f.own b (subst S (sym f.at) stands) in
          let x = f.own.1.is_class.access in
          let g : x.by ≡ reach n base above k = f.same ∙ is_by in
          let A : Reach → Type 0 = λ r. IsOwn (layout l (frame_of l fr) e) (wrapped (offsets l) f.access.offset)
          (first_ram l) ((local_word l r.base b + r.above) % offsets l) f.access.size in
          let one = subst A g there in
          let B : ℕ → Type 0 = λ z. IsOwn (layout l (frame_of l fr) e) z (first_ram l)
          ((local_word l base b + above) % offsets l) f.access.size in
          let C : ℕ → Type 0 = λ z. IsOwn (layout l (frame_of l fr) e) c (first_ram l)
          ((local_word l base b + above) % offsets l) z in
          subst C (f.size ∙ ap (λ (r : Reach). r.size) is_by) (subst B (sym f.offset) one)

      stack_lies : (sp : Varnode) (args : List Storage) (n o k : ℕ)
          → l.stack ≡ Some sp
          → IsIn (ReadsStack n o k) (arguments 0 args)
          → ((r : Reach) → IsIn r (reaches l op) → IsIn r (stack_reaches l.stack (arguments 0 args)))
          → (own : Option ℕ)
          → own_in (offsets l) fr.accesses p n ≡ own
          → Aligned (layout l (frame_of l fr) e) own (first_ram l) (stack_address l o l.stack b) k
      stack_lies sp args n o k stack has all None h = tt
      stack_lies sp args n o k stack has all (Some c) h =
          let f = found p i op n c is h in
          let R : Option Varnode → Type 0 = λ s. IsIn f.by (stack_reaches s (arguments 0 args)) in
          let only = reach_of sp 0 args n o k f.by has (subst R stack (all f.by f.is_by)) f.number in
          let A : Option Varnode
          → Type 0 = λ s. IsOwn (layout l (frame_of l fr) e) c (first_ram l) (stack_address l o s b) k in
          subst A (sym stack) (lies_by n c sp o k f only)

      -- the operands of an op that aren't on the stack are of no concern
      none_of : (vs : List Varnode) → AllAligned (layout l (frame_of l fr) e) p b (all_read vs)
      none_of [] = tt
      none_of (v ∷ vs) = (tt, none_of vs)

      none_past : (vs : List Varnode) → AllAligned (layout l (frame_of l fr) e) p b (all_but_first vs)
      none_past [] = tt
      none_past (v ∷ vs) = none_of vs

      -- without a stack pointer nothing has a fact
      no_pointer : (n c : ℕ) → l.stack ≡ None → Found p op n c → ⊥
      no_pointer n c none f =
          let x = f.own.1.is_class.access in
          let can = (x.fact.1.1).can f.access.place x.by.base x.base x.fact.1.0 in
          let g : Some can.stack ≡ None = sym can.is ∙ none in
          cc

      all_stack : (args all : List Storage) (j : ℕ)
          → ((n o k : ℕ) → IsIn (ReadsStack n o k) (arguments j args) → IsIn (ReadsStack n o k) (arguments 0 all))
          → ((r : Reach) → IsIn r (reaches l op) → IsIn r (stack_reaches l.stack (arguments 0 all)))
          → AllAligned (layout l (frame_of l fr) e) p b (arguments j args)
      all_stack [] all j has reached = tt
      all_stack (storage.At v ∷ args) all j has reached =
          (tt, all_stack args all (suc j) (λ n o k x. has n o k (inr x)) reached)
      all_stack (storage.Stack o k ∷ args) all j has reached =
          (by l.stack refl, all_stack args all (suc j) (λ n o k x. has n o k (inr x)) reached)
        where
          none : (own : Option ℕ)
              → own_in (offsets l) fr.accesses p j ≡ own
              → l.stack ≡ None
              → Aligned (layout l (frame_of l fr) e) own (first_ram l) (stack_address l o l.stack b) k
          none None h empty = tt
          none (Some c) h empty = absurd (no_pointer j c empty (found p i op j c is h))

          by : (s : Option Varnode)
              → l.stack ≡ s
              → Aligned (layout l (frame_of l fr) e) (own_in (offsets l) fr.accesses p j) (first_ram l)
              (stack_address l o l.stack b) k
          by None h = none (own_in (offsets l) fr.accesses p j) refl h
          by (Some sp) h = stack_lies sp all j o k h (has j o k (inl refl)) reached
              (own_in (offsets l) fr.accesses p j) refl

    -- the operands of a call, by its operation
    call_aligned : (p : Place) (b : Bytes)
        → Stands l [] (stack0 l e) p b
        → (i : Instruction) (code : Opcode) (out : Option Varnode) (vs : List Varnode)
        → standing l p ≡ Does i (record { code = code; out = out; inputs = vs })
        → AllAligned (layout l (frame_of l fr) e) p b (operands l code vs)
    call_aligned p b stands i O.Call out [] is = tt
    call_aligned p b stands i O.Call out (to ∷ vs) is =
        let args = (proto_of l (callee_at l to.offset)).args in
        all_stack p b stands i (record { code = O.Call; out = out; inputs = to ∷ vs }) is args args 0 (λ n o k x. x)
        (λ r x. x)
    call_aligned p b stands i O.CallInd out [] is = tt
    call_aligned p b stands i O.CallInd out (to ∷ vs) is =
        let args = (proto_of l None).args in (
          tt,
          all_stack p b stands i (record { code = O.CallInd; out = out; inputs = to ∷ vs }) is args args 0
              (λ n o k x. x)
              (λ r x. past r l.stack x),
        )
      where
        past : (r : Reach) (s : Option Varnode)
            → IsIn r (stack_reaches s (Reads to ∷ arguments 0 (proto_of l None).args))
            → IsIn r (stack_reaches s (arguments 0 (proto_of l None).args))
        past r None x = absurd x
        past r (Some sp) x = x
    call_aligned p b stands i (O.Unary op) out vs is = none_of p b stands i
        (record { code = O.Unary op; out = out; inputs = vs }) is vs
    call_aligned p b stands i (O.Binary op) out vs is = none_of p b stands i
        (record { code = O.Binary op; out = out; inputs = vs }) is vs
    call_aligned p b stands i (O.Divide op) out vs is = none_of p b stands i
        (record { code = O.Divide op; out = out; inputs = vs }) is vs
    call_aligned p b stands i O.Load out vs is = none_past p b stands i
        (record { code = O.Load; out = out; inputs = vs }) is vs
    call_aligned p b stands i O.Store out vs is = none_past p b stands i
        (record { code = O.Store; out = out; inputs = vs }) is vs
    call_aligned p b stands i O.Branch out vs is = tt
    call_aligned p b stands i O.CBranch out vs is = none_past p b stands i
        (record { code = O.CBranch; out = out; inputs = vs }) is vs
    call_aligned p b stands i O.BranchInd out vs is = none_of p b stands i
        (record { code = O.BranchInd; out = out; inputs = vs }) is vs
    call_aligned p b stands i O.CallOther out vs is = none_past p b stands i
        (record { code = O.CallOther; out = out; inputs = vs }) is vs
    call_aligned p b stands i O.Return out vs is = none_of p b stands i
        (record { code = O.Return; out = out; inputs = vs }) is vs
    call_aligned p b stands i (O.Float name) out vs is = tt
    call_aligned p b stands i (O.FloatConversion op) out vs is = tt
    call_aligned p b stands i (O.Analysis op) out vs is = tt
    call_aligned p b stands i (O.LeftOut op) out vs is = tt

    -- ---- a LOAD's or STORE's own access

    module _ (s : State Whole) (stands : Stands l [] (stack0 l e) s.at s.local) (i : Instruction) where
      -- the word of the address that is read
      address_read : (vs : List Varnode) (base : ℕ) (ws : List ℕ)
          → Fact l [] s.at (varnode_at vs 1) base
          → read_all (whole (layout l (frame_of l fr) e)) l (frame_of l fr) s (all_but_first vs) ≡ Ok ws
          → slice_index ws 0 ≡ local_word l (varnode_at vs 1) s.local
      address_read [] base ws fact r = absurd (no_bytes l run (varnode_at [] 1) base s.at fact refl)
      address_read (a ∷ []) base ws fact r = absurd (no_bytes l run (varnode_at (a ∷ []) 1) base s.at fact refl)
      address_read (a ∷ v ∷ rest) base ws fact r =
          (first_read (whole (layout l (frame_of l fr) e)) l s _ _ ws _ r
          (reads_local (whole (layout l (frame_of l fr) e)) l s run.read v
          ((fact.1.1).can s.at v base fact.1.0).is_local)).0

      own_lies : (op : Op) (vs : List Varnode) (ws : List ℕ) (k : ℕ)
          → standing l s.at ≡ Does i op
          → ((r : Reach) → IsIn r (reaches l op) → (is_of_memory l vs ≡ true) × (r ≡ reach 0 (varnode_at vs 1) 0 k))
          → read_all (whole (layout l (frame_of l fr) e)) l (frame_of l fr) s (all_but_first vs) ≡ Ok ws
          → (own : Option ℕ)
          → own_in (offsets l) fr.accesses s.at 0 ≡ own
          → Aligned (layout l (frame_of l fr) e) own (varnode_at vs 0).offset
          (byte_address l (varnode_at vs 0).offset (slice_index ws 0)) k
      own_lies op vs ws k is only r None h = tt
      own_lies op vs ws k is only r (Some c) h =
          let f = found s.at i op 0 c is h in
          let o = only f.by f.is_by in
          let x = f.own.1.is_class.access in
          let base_is : x.by.base ≡ varnode_at vs 1 = ap (λ (z : Reach). z.base) (f.same ∙ o.1) in
          let F : Place → Type 0 = λ q. Fact l [] q x.by.base x.base in
          let G : Varnode → Type 0 = λ z. Fact l [] s.at z x.base in
          let fact = subst G base_is (subst F f.at x.fact) in
          let there = lies_by s.at s.local stands i op is 0 c (varnode_at vs 1) 0 k f o.1 in
          let space : (varnode_at vs 0).offset ≡ first_ram l = eqb-true (varnode_at vs 0).offset (first_ram l) o.0 in
          let word = address_read vs x.base ws fact r in
          let ram = first_ram l in
          let at_ram : byte_address l ram (slice_index ws 0) ≡ (local_word l
          (varnode_at vs 1) s.local + 0) % offsets l =
          ap (λ z. slice_index ws 0 * z % size_of l ram) (one_byte l run.read)
          ∙ ap (λ z. z % size_of l ram)
          (let g : slice_index ws 0 * 1 ≡ local_word l (varnode_at vs 1) s.local + 0 = omega (arith, word) in g) in
          let A : ℕ → Type 0 = λ z. IsOwn (layout l (frame_of l fr) e) c ram z k in
          let B : ℕ → Type 0 = λ z. IsOwn (layout l (frame_of l fr) e) c z (byte_address l z (slice_index ws 0)) k in
          subst B (sym space) (subst A (sym at_ram) there)

      divided_aligned : (out : Option Varnode) (o : Option ℕ)
          → AlignedEffect (layout l (frame_of l fr) e) (divided out o)
      divided_aligned out None = tt
      divided_aligned out (Some n) = tt

      effect_aligned : (code : Opcode) (out : Option Varnode) (vs : List Varnode) (ws : List ℕ)
          → standing l s.at ≡ Does i (record { code = code; out = out; inputs = vs })
          → read_all (whole (layout l (frame_of l fr) e)) l (frame_of l fr) s (operands l code vs) ≡ Ok ws
          → AlignedEffect (layout l (frame_of l fr) e)
          (effect_of l (own_in (offsets l) fr.accesses s.at 0) i s.at.index s.local code out vs ws)
      effect_aligned O.Load out vs ws is r =
          own_lies (record { code = O.Load; out = out; inputs = vs }) vs ws (size_out out) is
          (memory_reach l vs (size_out out)) r (own_in (offsets l) fr.accesses s.at 0) refl
      effect_aligned O.Store out vs ws is r =
          own_lies (record { code = O.Store; out = out; inputs = vs }) vs ws (varnode_at vs 2).size is
          (memory_reach l vs (varnode_at vs 2).size) r (own_in (offsets l) fr.accesses s.at 0) refl
      effect_aligned (O.Divide op) out vs ws is r = divided_aligned out _
      effect_aligned O.CallInd out vs [] is r = tt
      effect_aligned O.CallInd out vs (w ∷ ws) is r = tt
      effect_aligned (O.Unary op) out vs ws is r = tt
      effect_aligned (O.Binary op) out vs ws is r = tt
      effect_aligned O.Branch out vs ws is r = tt
      effect_aligned O.CBranch out vs ws is r = tt
      effect_aligned O.BranchInd out vs ws is r = tt
      effect_aligned O.Call out vs ws is r = tt
      effect_aligned O.CallOther out vs ws is r = tt
      effect_aligned O.Return out vs ws is r = tt
      effect_aligned (O.Float name) out vs ws is r = tt
      effect_aligned (O.FloatConversion op) out vs ws is r = tt
      effect_aligned (O.Analysis op) out vs ws is r = tt
      effect_aligned (O.LeftOut op) out vs ws is r = tt

    -- Reached places and their facts guide the run.
    pub guides : Guides (layout l (frame_of l fr) e) (Stands l [] (stack0 l e))
    guides = record {
      aligned = λ s i op is stands. record {
        reads = call_aligned s.at s.local stands i op.code op.out op.inputs is;
        effect = λ ws r. effect_aligned s stands i op.code op.out op.inputs ws is r;
      };
      goes = λ s on stands. step_stands l [] run.read run.ops run.sound (never_switches l run.sound) (stack0 l e)
          (whole (layout l (frame_of l fr) e)) (frame_of l fr) s (λ o. stands);
    }

    -- The run of the listing and the run whose frame variables have bytes of their own show the same until the first ends
    -- Outside.
    pub law_of_frame : LawOfFrame l e fr
    law_of_frame = listing_law l (frame_of l fr) e run.low (Stands l [] (stack0 l e)) guides
        (start_stands l [] e run.low)
