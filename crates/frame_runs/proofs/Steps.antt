-- What is known before an op, as the op passes it on, holds after it, over any memory, unless the run has ended.
use Rattle.std.proofs.Common.{◌≡◌, ℕ, ◌+◌, ◌%◌, ◌<◌, Bool, true, false, List, [], ◌∷◌, Option, Some, None, refl, sym, ap, ◌∙◌, subst, ◌⊎◌, inl, inr, arith, IfSome}
use Rattle.std.specs.Prelude.{Result, Ok, Err, slice_index}
use Rattle.machine.specs.Trace.{End, Call}
use Rattle.bits_core.specs.Value.{limit, add, sub}
use Rattle.bits_core.specs.declared.ops.Unary.TheVariants as U
use Rattle.bits_core.specs.declared.ops.Binary.TheVariants as B
use Rattle.pcode_model.specs.declared.listing.Varnode.{Varnode}
use Rattle.pcode_model.specs.declared.listing.Op.{Op}
use Rattle.pcode_model.specs.declared.listing.Place.{Place}
use Rattle.pcode_model.specs.declared.listing.Proto.{Proto}
use Rattle.pcode_model.specs.declared.listing.Instruction.{Instruction}
use Rattle.pcode_model.specs.declared.listing.Listing.{Listing}
use Rattle.pcode_model.specs.declared.opcode.Opcode.{Opcode}
use Rattle.pcode_model.specs.declared.opcode.Opcode.TheVariants as O
use Rattle.pcode_model.specs.Rules.{first_bad}
use Rattle.pcode_model.specs.Spaces.{kind_of}
use Rattle.pcode_model.specs.Places.{Standing, Nothing, Passes, Does, standing, next_place}
use Rattle.pcode_model.specs.WellFormed.{IsWellFormed, IsProto, IsStackPointer}
use Rattle.pcode_model.specs.Memory.{Acts, Frame}
use Rattle.pcode_model.specs.Atoms.{IsLocal}
use Rattle.pcode_model.specs.World.{Answer, World, Taken, Stops, Took, took, take_from, take_answer, write_all, recorded}
use Rattle.pcode_model.specs.Step.{State, Writes, Calls, moved, in_world, local_word, write_varnode, after_call, answered, returns, apply, effect_of, effect_at, read_varnode, read_all, all_read, with_word, operands, step_at, varnode_at, size_out, proto_of, callee_at}
use Rattle.range_words.specs.Ranges.{IsInside}
use Rattle.range_words.proofs.Variables.{read_written}
use Rattle.frame_facts.specs.Facts.{Known, offsets, CanHold, IsSum, IsDifference, Makes, Over, OverOp, OverOther, OverCall}
use Rattle.frame_runs.specs.Laws.{HoldsOffset}
use Rattle.frame_facts.proofs.Spaces.{register_is, unique_is}
use Rattle.frame_facts.proofs.Ops.{output_inside}
use Rattle.frame_facts.proofs.Prototypes.{offsets_are, proto_fine}
use Rattle.frame_runs.proofs.Calls.{call_holds}
use Rattle.frame_runs.proofs.Made.{reads_local, reads_constant, first_read, two_read, sum_is, sum_is_right, difference_is}
use Rattle.frame_runs.proofs.Effects.{IsCall, writes_to, effect_keeps}

-- ---- a run that goes on took an answer

abbrev IsOver : Option End → Type 0
IsOver None = ⊥
IsOver (Some e) = Unit {0}

-- where no answer is taken the run has ended
abbrev EndsOrTakes : {M : Type 0} → Taken M → Type 0
EndsOrTakes (Stops w) = IsOver w.over
EndsOrTakes (Took a w) = Unit {0}

took_or_ended : {M : Type 0} (m : Acts M) (a : Answer) (rest : List Answer) (r : Result M End) (w : World M)
    → EndsOrTakes (took m a rest r w)
took_or_ended m a rest (Err e) w = tt
took_or_ended m a rest (Ok x) w = tt

takes : {M : Type 0} (m : Acts M) (answers : List Answer) (w : World M) → EndsOrTakes (take_from m answers w)
takes m [] w = tt
takes m (a ∷ rest) w = took_or_ended m a rest (write_all m a.memory w.memory) w

going_on : (o : Option End) → IsOver o → o ≡ None → ⊥
going_on None h e = h
going_on (Some x) h e = cc

module _
    {M : Type 0}
    (m : Acts M)
    (l : Listing)
    (read : IsWellFormed l)
    (good : first_bad l ≡ None)
    (f : Frame)
    (entry : ℕ)
    (k : Known)
    (can : (v : Varnode) (c : ℕ) → k v c ≡ true → CanHold l v c)
    (s : State M)
    (holds : (v : Varnode) (c : ℕ) → k v c ≡ true → HoldsOffset l entry v c s.local)
  where
    -- ---- reads

    known_reads : (v : Varnode) (c : ℕ)
        → k v c ≡ true
        → read_varnode m l (kind_of l v.space) v s ≡ Ok ((entry + c) % offsets l)
    known_reads v c h = reads_local m l s read v (can v c h).is_local ∙ ap (λ w. Ok w) (holds v c h)

    -- no address is known in a range without bytes
    has_bytes : (v : Varnode) (c : ℕ) → k v c ≡ true → v.size ≡ 0 → ⊥
    has_bytes v c h e =
        let x = can v c h in
        let P : Option Varnode → Type 0 = λ o. IfSome o (IsStackPointer l.spaces) in
        let p : IsStackPointer l.spaces x.stack = subst P x.is read.stack in
        let w : x.stack.size ≡ 0 = sym x.wide ∙ e in
        omega (arith, p.some, w)

    -- ---- what is written to the output

    -- the word of an output that a read range's address makes
    Wrote : Varnode → ℕ → ℕ → Type 0
    Wrote v c n = n ≡ (entry + c) % offsets l

    copied : (v : Varnode) (c : ℕ) (vs : List Varnode) (ws : List ℕ)
        → k (varnode_at vs 0) c ≡ true
        → read_all m l f s (all_read vs) ≡ Ok ws
        → slice_index ws 0 ≡ (entry + c) % offsets l
    copied v c [] ws h r = absurd (has_bytes (varnode_at [] 0) c h refl)
    copied v c (a ∷ rest) ws h r = (first_read m l s _ _ ws _ r (known_reads a c h)).0

    summed : (width c : ℕ) (vs : List Varnode) (ws : List ℕ)
        → offsets l ≡ limit width
        → IsSum l k (varnode_at vs 0) (varnode_at vs 1) c ⊎ IsSum l k (varnode_at vs 1) (varnode_at vs 0) c
        → read_all m l f s (all_read vs) ≡ Ok ws
        → add width (slice_index ws 0) (slice_index ws 1) ≡ (entry + c) % offsets l
    summed width c [] ws e (inl h) r = absurd (has_bytes (varnode_at [] 0) h.1.0 h.1.1.0 refl)
    summed width c [] ws e (inr h) r = absurd (has_bytes (varnode_at [] 1) h.1.0 h.1.1.0 refl)
    summed width c (a ∷ []) ws e (inl h) r =
        let one = first_read m l s _ _ ws _ r (known_reads a h.1.0 h.1.1.0) in
        let none : one.1.0 ≡ [] = let g : Ok [] ≡ Ok one.1.0 = one.1.1.0 in cc in
        let x : slice_index ws 1 ≡ 0 = ap (λ ys. slice_index ys 1) (one.1.1.1
        ∙ ap (λ us. (entry + h.1.0) % offsets l ∷ us) none) in
        ap (λ y. add width y (slice_index ws 1)) one.0 ∙ ap (λ y. add width ((entry + h.1.0) % offsets l) y) x
        ∙ sum_is entry h.1.0 0 c (offsets l) width e h.1.1.1
    summed width c (a ∷ []) ws e (inr h) r = absurd (has_bytes (varnode_at (a ∷ []) 1) h.1.0 h.1.1.0 refl)
    summed width c (a ∷ b ∷ rest) ws e (inl h) r =
        let two = two_read m l s f a b rest ws _ b.offset r (known_reads a h.1.0 h.1.1.0)
        (reads_constant m l s b h.0) in
        ap (λ y. add width y (slice_index ws 1)) two.0 ∙ ap (λ y. add width ((entry + h.1.0) % offsets l) y) two.1
        ∙ sum_is entry h.1.0 b.offset c (offsets l) width e h.1.1.1
    summed width c (a ∷ b ∷ rest) ws e (inr h) r =
        let two = two_read m l s f a b rest ws a.offset _ r (reads_constant m l s a h.0)
        (known_reads b h.1.0 h.1.1.0) in
        ap (λ y. add width y (slice_index ws 1)) two.0 ∙ ap (λ y. add width a.offset y) two.1
        ∙ sum_is_right entry h.1.0 a.offset c (offsets l) width e h.1.1.1

    taken_away : (width c : ℕ) (vs : List Varnode) (ws : List ℕ)
        → offsets l ≡ limit width
        → IsDifference l k (varnode_at vs 0) (varnode_at vs 1) c
        → read_all m l f s (all_read vs) ≡ Ok ws
        → sub width (slice_index ws 0) (slice_index ws 1) ≡ (entry + c) % offsets l
    taken_away width c [] ws e h r = absurd (has_bytes (varnode_at [] 0) h.1.0 h.1.1.0 refl)
    taken_away width c (a ∷ []) ws e h r =
        let one = first_read m l s _ _ ws _ r (known_reads a h.1.0 h.1.1.0) in
        let none : one.1.0 ≡ [] = let g : Ok [] ≡ Ok one.1.0 = one.1.1.0 in cc in
        let x : slice_index ws 1 ≡ 0 = ap (λ ys. slice_index ys 1) (one.1.1.1
        ∙ ap (λ us. (entry + h.1.0) % offsets l ∷ us) none) in
        ap (λ y. sub width y (slice_index ws 1)) one.0 ∙ ap (λ y. sub width ((entry + h.1.0) % offsets l) y) x
        ∙ difference_is entry h.1.0 0 c (offsets l) width e h.1.1.1
    taken_away width c (a ∷ b ∷ rest) ws e h r =
        let two = two_read m l s f a b rest ws _ b.offset r (known_reads a h.1.0 h.1.1.0)
        (reads_constant m l s b h.0) in
        ap (λ y. sub width y (slice_index ws 1)) two.0 ∙ ap (λ y. sub width ((entry + h.1.0) % offsets l) y) two.1
        ∙ difference_is entry h.1.0 b.offset c (offsets l) width e h.1.1.1

    -- an address that is written to a range is read from it
    local_written : (next : Place) (v : Varnode) (c n : ℕ) (out : Option Varnode)
        → out ≡ Some v
        → CanHold l v c
        → n ≡ (entry + c) % offsets l
        → HoldsOffset l entry v c (apply m l next (Writes out n) s).local
    local_written next v c n out e x is =
        let size : offsets l ≡ limit v.size = offsets_are l read x.stack x.is ∙ ap limit (sym x.wide) in
        let some : 0 < offsets l = let b = x.below in omega (arith, b) in
        let low : n < limit v.size = let g : (entry + c) % offsets l < offsets l = omega (arith, some) in
        omega (arith, is, g, size) in
        ap (λ o. local_word l v (apply m l next (Writes o n) s).local) e
        ∙ by x.is_local (read_written l v n s.local x.inside low)
        ∙ is
      where
        by : IsLocal l v.space
            → local_word l v (with_word l v n s.local) ≡ n
            → local_word l v (write_varnode m l (kind_of l v.space) v n (moved next s)).local ≡ n
        by (inl h) back = ap (λ t. local_word l v (write_varnode m l t v n (moved next s)).local) (ap (kind_of l) h
            ∙ register_is l read) ∙ back
        by (inr h) back = ap (λ t. local_word l v (write_varnode m l t v n (moved next s)).local) (ap (kind_of l) h
            ∙ unique_is l read) ∙ back

    -- ---- ops

    width : (out : Option Varnode) (v : Varnode) (c : ℕ) → out ≡ Some v → CanHold l v c
        → offsets l ≡ limit (size_out out)
    width out v c e x =
        offsets_are l read x.stack x.is ∙ ap limit (sym x.wide) ∙ ap (λ o. limit (size_out o)) (sym e)

    made_holds : (i : Instruction) (next : Place) (out : Option Varnode) (vs : List Varnode) (v : Varnode) (c : ℕ)
        (code : Opcode) (ws : List ℕ)
        → out ≡ Some v
        → CanHold l v c
        → Makes l k code vs c
        → read_all m l f s (operands l code vs) ≡ Ok ws
        → HoldsOffset l entry v c
        (apply m l next (effect_of l (f.own s.at 0) i s.at.index s.local code out vs ws) s).local
    made_holds i next out vs v c (O.Unary U.Copy) ws e x h r =
        local_written next v c (slice_index ws 0) out e x (copied v c vs ws h r)
    made_holds i next out vs v c (O.Binary B.Add) ws e x h r =
        local_written next v c (add (size_out out) (slice_index ws 0) (slice_index ws 1)) out e x
        (summed (size_out out) c vs ws (width out v c e x) h r)
    made_holds i next out vs v c (O.Binary B.Subtract) ws e x h r =
        local_written next v c (sub (size_out out) (slice_index ws 0) (slice_index ws 1)) out e x
        (taken_away (size_out out) c vs ws (width out v c e x) h r)
    made_holds i next out vs v c code ws e x h r = absurd h

    -- over an op that isn't a call
    other_holds : (i : Instruction) (next : Place) (out : Option Varnode) (vs : List Varnode) (v : Varnode) (c : ℕ)
        (code : Opcode) (ws : List ℕ)
        → (IsCall code → ⊥)
        → ((w : Varnode) → out ≡ Some w → IsInside l w)
        → CanHold l v c
        → OverOther l k (record { code = code; out = out; inputs = vs }) v c
        → read_all m l f s (operands l code vs) ≡ Ok ws
        → HoldsOffset l entry v c
        (apply m l next (effect_of l (f.own s.at 0) i s.at.index s.local code out vs ws) s).local
    other_holds i next out vs v c code ws other fits x (inl kept) r =
        effect_keeps m l out fits v x.inside kept.0 next
        (effect_of l (f.own s.at 0) i s.at.index s.local code out vs ws) s
        (writes_to l (f.own s.at 0) i s.at.index s.local code out vs ws other)
        ∙ holds v c kept.1
    other_holds i next out vs v c code ws other fits x (inr made) r =
        made_holds i next out vs v c code ws made.0 x made.1 r

    -- over a call that goes on
    answered_holds : (p : Proto) (stack : Varnode) (t : Taken M) (u : State M) (v : Varnode) (c : ℕ)
        → l.stack ≡ Some stack
        → IsProto l.spaces l.stack p
        → u.local ≡ s.local
        → EndsOrTakes t
        → (answered l p t u).world.over ≡ None
        → CanHold l v c
        → OverCall l k p v c
        → HoldsOffset l entry v c (answered l p t u).local
    answered_holds p stack (Stops w) u v c is fine same end on x h = absurd (going_on w.over end on)
    answered_holds p stack (Took a w) u v c is fine same end on x h =
        ap (λ b. local_word l v (after_call l p a b)) same
        ∙ call_holds l read stack is p fine entry k a s.local holds v c x h

    called_holds : (p : Proto) (returns : Bool) (to : ℕ) (ws : List ℕ) (next : Place) (v : Varnode) (c : ℕ)
        → IsProto l.spaces l.stack p
        → (apply m l next (Calls to ws p returns) s).world.over ≡ None
        → CanHold l v c
        → OverCall l k p v c
        → HoldsOffset l entry v c (apply m l next (Calls to ws p returns) s).local
    called_holds p true to ws next v c fine on x h =
        let u = in_world (recorded (Call to ws) s.world) (moved next s) in
        answered_holds p x.stack (take_answer m u.world) u v c x.is fine refl (takes m u.world.answers u.world) on x h
    called_holds p false to ws next v c fine on x h = absurd (cc)

    indirect_holds : (i : Instruction) (next : Place) (out : Option Varnode) (vs : List Varnode) (ws : List ℕ)
        (v : Varnode) (c : ℕ)
        → (let t = apply m l next (effect_of l (f.own s.at 0) i s.at.index s.local O.CallInd out vs ws) s in
        t.world.over ≡ None → CanHold l v c → OverCall l k (proto_of l None) v c → HoldsOffset l entry v c t.local)
    indirect_holds i next out vs [] v c on x h = absurd (cc)
    indirect_holds i next out vs (w ∷ ws) v c on x h =
        called_holds (proto_of l None) true w ws next v c (proto_fine l read None) on x h

    -- over any op whose operands are read
    code_holds : (i : Instruction) (next : Place) (out : Option Varnode) (vs : List Varnode) (v : Varnode) (c : ℕ)
        (code : Opcode) (ws : List ℕ)
        → ((w : Varnode) → out ≡ Some w → IsInside l w)
        → (let t = apply m l next (effect_of l (f.own s.at 0) i s.at.index s.local code out vs ws) s in
        t.world.over ≡ None
        → CanHold l v c
        → OverOp l k (record { code = code; out = out; inputs = vs }) v c
        → read_all m l f s (operands l code vs) ≡ Ok ws
        → HoldsOffset l entry v c t.local)
    code_holds i next out vs v c O.Call ws fits on x h r =
        let callee = callee_at l (varnode_at vs 0).offset in
        called_holds (proto_of l callee) (returns callee) (varnode_at vs 0).offset ws next v c
        (proto_fine l read callee)
        on x h
    code_holds i next out vs v c O.CallInd ws fits on x h r = indirect_holds i next out vs ws v c on x h
    code_holds i next out vs v c (O.Unary op) ws fits on x h r =
        other_holds i next out vs v c (O.Unary op) ws (λ e. e) fits x h r
    code_holds i next out vs v c (O.Binary op) ws fits on x h r =
        other_holds i next out vs v c (O.Binary op) ws (λ e. e) fits x h r
    code_holds i next out vs v c (O.Divide op) ws fits on x h r =
        other_holds i next out vs v c (O.Divide op) ws (λ e. e) fits x h r
    code_holds i next out vs v c code ws fits on x h r = other_holds i next out vs v c code ws (λ e. e) fits x h r

    read_holds : (i : Instruction) (op : Op) (next : Place) (v : Varnode) (c : ℕ) (r : Result (List ℕ) End)
        → ((w : Varnode) → op.out ≡ Some w → IsInside l w)
        → read_all m l f s (operands l op.code op.inputs) ≡ r
        → (let t = apply m l next (effect_at l f i op r s) s in
        t.world.over ≡ None → CanHold l v c → OverOp l k op v c → HoldsOffset l entry v c t.local)
    read_holds i op next v c (Err e) fits r on x h = absurd (cc)
    read_holds i op next v c (Ok ws) fits r on x h =
        code_holds i next op.out op.inputs v c op.code ws fits on x h r

    -- What stands at a place passes on what is known before it, and that holds after it.
    pub at_holds : (here : Standing)
        → standing l s.at ≡ here
        → (v : Varnode) (c : ℕ)
        → (step_at m l f here s).world.over ≡ None
        → CanHold l v c
        → Over l k here v c
        → HoldsOffset l entry v c (step_at m l f here s).local
    at_holds Nothing is v c on x h = absurd h
    at_holds (Passes i) is v c on x h = holds v c h
    at_holds (Does i op) is v c on x h =
        read_holds i op (next_place i s.at.index) v c (read_all m l f s (operands l op.code op.inputs))
        (output_inside l good s.at i op is) refl on x h
