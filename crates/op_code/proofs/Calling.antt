-- What stands for CALL, CALLIND and CALLOTHER does what they do: operands are read, and then an answer is taken.
use Rattle.std.proofs.Common.{◌≡◌, ℕ, ◌+◌, ◌%◌, ◌≤◌, Bool, true, false, List, [], ◌∷◌, ◌++◌, length, Option, Some, None, refl, sym, ap, ◌∙◌, subst, arith, inl, inr, ◌⊎◌}
use Rattle.std.specs.Prelude.{IfSome, Ok}
use Rattle.std.proofs.Math.Nat.{mod-lt}
use Rattle.machine.specs.Trace.{Event, Call, NoReturn, Other}
use Rattle.bits_core.specs.Value.{limit}
use Rattle.bits_core.proofs.Limits.{limit_pos}
use Rattle.pcode_model.specs.declared.listing.Varnode.{Varnode}
use Rattle.pcode_model.specs.declared.listing.Instruction.{Instruction}
use Rattle.pcode_model.specs.declared.listing.Place.{Place}
use Rattle.pcode_model.specs.declared.listing.Proto.{Proto}
use Rattle.pcode_model.specs.declared.listing.Listing.{Listing}
use Rattle.pcode_model.specs.declared.opcode.Opcode.{Opcode}
use Rattle.pcode_model.specs.declared.opcode.Opcode.TheVariants as O
use Rattle.pcode_model.specs.Memory.{Acts, Bytes, Frame}
use Rattle.pcode_model.specs.Places.{Does, next_place}
use Rattle.pcode_model.specs.World.{Stops, Taken, Took, recorded}
use Rattle.pcode_model.specs.Step.{Operand, State, all_read, arguments, asked, callee_at, called, in_world, moved, proto_of, read_all, returns, step_at}
use Rattle.pcode_model.specs.Step as listing
use Rattle.pcode_laws.specs.AsBytes.{AsBytes, seen_over, taken_over}
use Rattle.range_words.specs.Own.{HasOwn}
use Rattle.cmeaning.specs.declared.tree.Expr.{Expr}
use Rattle.cmeaning.specs.declared.tree.Stmt.{Stmt}
use Rattle.cmeaning.specs.declared.tree.Stmt.TheVariants as S
use Rattle.cmeaning.specs.Do.{Local, assigned, do_simple, ends, values_of, with_words}
use Rattle.cmeaning.specs.Do as code
use Rattle.cmeaning.proofs.Do.{do_call, do_call_ind, do_other}
use Rattle.cmeaning.specs.Value.{value_of}
use Rattle.blockcode.proofs.Straight.{run_all}
use Rattle.op_code.specs.Made.{Asking, Read, answered, asks, call_made, calls, none_own, op_made, passed, read_one, reads}
use Rattle.op_code.specs.Form.{AllOperands, IsCallable, IsOutput, IsPlainOp}
use Rattle.op_code.proofs.Called.{Records, call_meets, taken_after, taken_so, words_run}
use Rattle.op_code.proofs.Computes.{Computed, Failed, computes_meets}
use Rattle.op_code.proofs.Operands.{AllHave, goes, operands_same, reads_all, reads_same, run_append, run_one}
use Rattle.op_code.proofs.Sees.{AreWide, Meets, Sees, Setting, wide_back, wide_front}
use Rattle.op_code.proofs.Sets.{ended_meets}
use Rattle.op_code.proofs.Steps.{call_step, indirect_step, op_of, other_step}
use Rattle.op_code.proofs.Taken.{IsTakenSo, left_by, sees_taken, stops_meets, takes_same}

-- ---- statements

module _ {M : Type 0} (m : Acts M) (l : Listing) (f : Frame) (ws : ℕ → ℕ) (s : State M) (x : Local) where
  call_records : (to : ℕ) (xs : List Operand) (es : List Expr) (ns : List ℕ)
      → AllHave m l f ws s x.env xs es ns
      → Records l ws (λ v. S.Call v to es) (Call to ns) x
  call_records to xs es ns have v q all =
      do_call l ws q v to es x
      ∙ words_run m l f ws s x xs es ns
      (λ ks. code.called l ws v (q to) (code.in_world (recorded (Call to ks) x.world) x))
      have
      ∙ ap (λ b. code.called l ws v b (code.in_world (recorded (Call to ns) x.world) x)) (all to)

  indirect_records : (e : Expr) (a : ℕ) (xs : List Operand) (es : List Expr) (ns : List ℕ)
      → value_of ws x.env e ≡ Some a
      → AllHave m l f ws s x.env xs es ns
      → Records l ws (λ v. S.CallInd v e es) (Call a ns) x
  indirect_records e a xs es ns value have v q all =
      do_call_ind l ws q v e es x
      ∙ ap (λ o. code.with_word o x (λ b. with_words (values_of ws x.env es) x
      (λ ks. code.asks l ws v (code.in_world (recorded (Call b ks) x.world) x)))) value
      ∙ words_run m l f ws s x xs es ns (λ ks. code.asks l ws v (code.in_world (recorded (Call a ks) x.world) x)) have

  -- whichever callees return
  other_any : (index : ℕ) (xs : List Operand) (es : List Expr) (ns : List ℕ) (v : Option ℕ) (q : ℕ → Bool)
      → AllHave m l f ws s x.env xs es ns
      → do_simple l ws q (S.Other v index es) x
      ≡ code.asks l ws v (code.in_world (recorded (Other index ns) x.world) x)
  other_any index xs es ns v q have =
      do_other l ws q v index es x
      ∙ words_run m l f ws s x xs es ns
      (λ ks. code.asks l ws v (code.in_world (recorded (Other index ks) x.world) x)) have

  -- A callee that doesn't return ends the run behind the event.
  call_ends : (to : ℕ) (xs : List Operand) (es : List Expr) (ns : List ℕ) (q : ℕ → Bool)
      → AllHave m l f ws s x.env xs es ns
      → q to ≡ false
      → do_simple l ws q (S.Call None to es) x ≡ ends NoReturn (code.in_world (recorded (Call to ns) x.world) x)
  call_ends to xs es ns q have never =
      do_call l ws q None to es x
      ∙ words_run m l f ws s x xs es ns
      (λ ks. code.called l ws None (q to) (code.in_world (recorded (Call to ks) x.world) x)) have
      ∙ ap (λ b. code.called l ws None b (code.in_world (recorded (Call to ns) x.world) x)) never

-- ---- ops

module _
    {M : Type 0}
    (m : Acts M)
    (l : Listing)
    (f : Frame)
    (look : M → Bytes)
    (own : M → ℕ → ℕ)
    (ranges : List Varnode)
    (ws : ℕ → ℕ)
    (is : AsBytes m l look)
    (has : HasOwn m l look own)
    (set : Setting l ranges ws)
    (i : Instruction)
    (s : State M)
    (x : Local)
    (go : s.world.over ≡ None)
    (sees : Sees l ranges look own s x)
    (n : ℕ)
    (free : length ranges ≤ n)
    (returns' : List Stmt → Bool)
  where
    abbrev at : Place
    at = next_place i s.at.index

    abbrev done : Opcode → Option Varnode → List Varnode → State M
    done code out vs = step_at m l f (Does i (op_of code out vs)) s

    abbrev Meet : Opcode → Option Varnode → List Varnode → Type 0
    Meet code out vs = Meets l ranges look own at (done code out vs)
        (run_all l ws returns' (op_made l (f.own s.at) ranges n code out vs).statements x)

    -- the state where an event is recorded
    abbrev noted : Event → State M
    noted e = in_world (recorded e s.world) (moved at s)

    -- a call that returns, by what is read
    calls_meet : (p : Proto) (xs : List Operand) (make : Asking) (event : List ℕ → Event) (t : State M)
        → IsCallable l (f.own s.at) ranges p
        → AllOperands l (f.own s.at) ranges xs
        → AreWide ws n (calls l ranges n p (reads l (f.own s.at) ranges n xs) make).locals
        → ((ss : List Stmt) → returns' ss ≡ true)
        → ((y : Local) (ns : List ℕ)
        → AllHave m l f ws s y.env xs (reads l (f.own s.at) ranges n xs).words ns
        → read_all m l f s xs ≡ Ok ns
        → Records l ws make (event ns) y × (t ≡ called m l p true (noted (event ns))))
        → Meets l ranges look own at t
        (run_all l ws returns' (calls l ranges n p (reads l (f.own s.at) ranges n xs) make).statements x)
    calls_meet p xs make event t call ops wide all does =
        let reading = reads l (f.own s.at) ranges n xs in
        let k = n + length reading.locals in
        let made = answered l ranges k p p.gives make in
        let rest = λ (ss : List Stmt). returns' (ss ++ made.statements) in
        let y : Local = run_all l ws rest reading.loads x in
        let r = reads_all m l f look own ranges ws is has set s go xs rest n x ops free
        (wide_front ws n reading.locals made.locals wide) sees in
        let on = goes m l f look own ranges ws is has set s go y r.sees in
        let P : Local → Type 0 = λ u. Meets l ranges look own at t u in
        let Q : State M → Type 0 = λ u. Meets l ranges look own at u (run_all l ws returns' made.statements y) in
        let d = does y r.words r.have r.read in
        subst P (sym (run_append l ws returns' reading.loads made.statements x))
        (subst Q (sym d.1)
        (call_meets m l f look own ranges ws is has set at s go p call make (event r.words) y on r.sees returns' all k
        (omega (arith, free)) d.0 (wide_back ws n reading.locals made.locals wide)))

    -- ---- CALL

    call_by : (b : Bool) (to : Varnode)
        → returns (callee_at l to.offset) ≡ b
        → b ≡ true
        → IsCallable l (f.own s.at) ranges (proto_of l (callee_at l to.offset))
        → AreWide ws n (call_made b l (f.own s.at) ranges n to.offset (proto_of l (callee_at l to.offset))).locals
        → ((ss : List Stmt) → returns' ss ≡ true)
        → Meets l ranges look own at (done O.Call None (to ∷ []))
        (run_all l ws returns'
        (call_made b l (f.own s.at) ranges n to.offset (proto_of l (callee_at l to.offset))).statements x)
    call_by false to returning turn call wide all = absurd (cc)
    call_by true to returning turn call wide all =
        let p = proto_of l (callee_at l to.offset) in
        let xs = arguments 0 p.args in
        let es = (passed l (f.own s.at) ranges n p).words in
        calls_meet p xs (λ v. S.Call v to.offset es) (λ ns. Call to.offset ns) (done O.Call None (to ∷ [])) call
        call.args wide all
        (λ y ns have read. (
          call_records m l f ws s y to.offset xs es ns have,
          call_step m l f i s to ns read ∙ ap (λ b. called m l p b (noted (Call to.offset ns))) returning,
        ))

    pub returning_meets : (to : Varnode)
        → IsPlainOp l (f.own s.at) ranges O.Call None (to ∷ [])
        → returns (callee_at l to.offset) ≡ true
        → AreWide ws n (op_made l (f.own s.at) ranges n O.Call None (to ∷ [])).locals
        → ((ss : List Stmt) → returns' ss ≡ true)
        → Meet O.Call None (to ∷ [])
    returning_meets to call turn wide all =
        call_by (returns (callee_at l to.offset)) to refl turn call wide all

    never_by : (b : Bool) (to : Varnode)
        → returns (callee_at l to.offset) ≡ b
        → b ≡ false
        → IsCallable l (f.own s.at) ranges (proto_of l (callee_at l to.offset))
        → AreWide ws n (call_made b l (f.own s.at) ranges n to.offset (proto_of l (callee_at l to.offset))).locals
        → returns' [] ≡ false
        → ((done O.Call None (to ∷ [])).world.over ≡ Some NoReturn)
        × Meets l ranges look own at (done O.Call None (to ∷ []))
        (run_all l ws returns'
        (call_made b l (f.own s.at) ranges n to.offset (proto_of l (callee_at l to.offset))).statements x)
    never_by true to returning turn call wide never = absurd (cc)
    never_by false to returning turn call wide never =
        let p = proto_of l (callee_at l to.offset) in
        let xs = arguments 0 p.args in
        let reading = passed l (f.own s.at) ranges n p in
        let one = S.Call None to.offset reading.words in
        let rest = λ (ss : List Stmt). returns' (ss ++ one ∷ []) in
        let y : Local = run_all l ws rest reading.loads x in
        let r = reads_all m l f look own ranges ws is has set s go xs rest n x call.args free
        (wide_front ws n reading.locals [] wide) sees in
        let on = goes m l f look own ranges ws is has set s go y r.sees in
        let e = Call to.offset r.words in
        let z : Local = code.in_world (recorded e y.world) y in
        let ran = run_one l ws returns' one [] y (ends NoReturn z) on
        (call_ends m l f ws s y to.offset xs reading.words r.words (λ c. returns' []) r.have never) in
        let seen : Sees l ranges look own (noted e) z = record {
          world = ap (recorded e) (r.sees).world;
          holds = (r.sees).holds;
          bytes = (r.sees).bytes;
          memory = (r.sees).memory;
          answers = (r.sees).answers;
        } in
        let stepped = call_step m l f i s to r.words r.read
        ∙ ap (λ b. called m l p b (noted e)) returning in
        let P : Local → Type 0 = λ u. Meets l ranges look own at (done O.Call None (to ∷ [])) u in
        let Q : State M → Type 0 = λ u. Meets l ranges look own at u (ends NoReturn z) in (
          ap (λ (u : State M). u.world.over) stepped,
          subst P (sym (run_append l ws returns' reading.loads (one ∷ []) x ∙ ran))
              (subst Q (sym stepped) (ended_meets l ranges look own at (noted e) z NoReturn seen)),
        )

    -- Both end behind the event where the callee doesn't return.
    pub never_meets : (to : Varnode)
        → IsPlainOp l (f.own s.at) ranges O.Call None (to ∷ [])
        → returns (callee_at l to.offset) ≡ false
        → AreWide ws n (op_made l (f.own s.at) ranges n O.Call None (to ∷ [])).locals
        → returns' [] ≡ false
        → ((done O.Call None (to ∷ [])).world.over ≡ Some NoReturn) × Meet O.Call None (to ∷ [])
    never_meets to call turn wide never = never_by (returns (callee_at l to.offset)) to refl turn call wide never

    -- ---- CALLIND

    -- the first word is the address
    abbrev event_of : List ℕ → Event
    event_of [] = Call 0 []
    event_of (a ∷ ns) = Call a ns

    indirect_does : (to : Varnode) (d : Expr) (es : List Expr) (y : Local) (ns : List ℕ)
        → AllHave m l f ws s y.env (listing.Reads to ∷ arguments 0 (proto_of l None).args) (d ∷ es) ns
        → read_all m l f s (listing.Reads to ∷ arguments 0 (proto_of l None).args) ≡ Ok ns
        → Records l ws (λ v. S.CallInd v d es) (event_of ns) y
        × (done O.CallInd None (to ∷ []) ≡ called m l (proto_of l None) true (noted (event_of ns)))
    indirect_does to d es y [] have read = absurd have
    indirect_does to d es y (a ∷ ns) have read = (
      indirect_records m l f ws s y d a (arguments 0 (proto_of l None).args) es ns have.0.means.value have.1,
      indirect_step m l f i s to a ns read,
    )

    pub indirect_meets : (to : Varnode)
        → IsPlainOp l (f.own s.at) ranges O.CallInd None (to ∷ [])
        → AreWide ws n (op_made l (f.own s.at) ranges n O.CallInd None (to ∷ [])).locals
        → ((ss : List Stmt) → returns' ss ≡ true)
        → Meet O.CallInd None (to ∷ [])
    indirect_meets to h wide all =
        let p = proto_of l None in
        let xs = arguments 0 p.args in
        let one = read_one l ranges n to in
        let es = (reads l (f.own s.at) ranges (n + length one.locals) xs).words in
        calls_meet p (listing.Reads to ∷ xs) (λ v. S.CallInd v one.word es) event_of (done O.CallInd None (to ∷ [])) h.1
        (h.0, h.1.args) wide all
        (λ y ns have read. indirect_does to one.word es y ns have read)

    -- ---- CALLOTHER

    -- what the answer leads to
    abbrev asked_by : Option Varnode → Taken M → State M
    asked_by out t = asked m l out t (moved at s)

    -- with an output
    module _
        (e : Event)
        (y : Local)
        (seen : Sees l ranges look own s y)
        (make_at : ℕ → Stmt)
        (after : State M)
      where
        abbrev Output : Varnode → Type 0
        Output z = Computed m l f look own ranges ws is has set at s go n free z make_at y after
            ⊎ Failed m l f look own ranges ws is has set at s go n free make_at y after

        output_made : (z : Varnode) (t : Taken M)
            → IsTakenSo m l look own is has (own s.world.memory) t
            → ((v : ℕ) (q : ℕ → Bool)
            → do_simple l ws q (make_at v) y
            ≡ code.answered ws (Some v) (taken_over look t) (code.in_world (recorded e y.world) y))
            → after ≡ asked_by (Some z) t
            → Output z
        output_made z (Stops w) so does step =
            let P : State M → Type 0 = λ u. Meets l ranges look own at u (code.in_world (seen_over look w) y) in
            inr (record {
              to = code.in_world (seen_over look w) y;
              end = so.end;
              over = so.over;
              fails = does;
              meets = subst P (sym step) (stops_meets m l look own is has ranges s y seen at w so);
            })
        output_made z (Took a w) so does step =
            let to : Local = left_by m l look own is has a (seen_over look w) y in
            inl (record {
              word = a.word % limit z.size;
              below = mod-lt a.word (limit_pos z.size);
              base = in_world w s;
              to = to;
              on = so.over;
              sees = sees_taken m l look own is has ranges s y seen a w so;
              makes = λ v q wide. does v q ∙ ap (λ k. assigned v (a.word % limit k) to) wide;
              step = step;
            })

    -- without one
    alone_meets : (make : Stmt) (e : Event) (y : Local) (t : Taken M)
        → y.world.over ≡ None
        → Sees l ranges look own s y
        → IsTakenSo m l look own is has (own s.world.memory) t
        → ((q : ℕ → Bool)
        → do_simple l ws q make y
        ≡ code.answered ws None (taken_over look t) (code.in_world (recorded e y.world) y))
        → Meets l ranges look own at (asked_by None t) (run_all l ws returns' (make ∷ []) y)
    alone_meets make e y (Stops w) on seen so does =
        let to : Local = code.in_world (seen_over look w) y in
        let P : Local → Type 0 = λ u. Meets l ranges look own at (asked_by None (Stops w)) u in
        subst P (sym (run_one l ws returns' make [] y to on (does (λ c. returns' []))))
        (stops_meets m l look own is has ranges s y seen at w so)
    alone_meets make e y (Took a w) on seen so does =
        let to : Local = left_by m l look own is has a (seen_over look w) y in
        let there = sees_taken m l look own is has ranges s y seen a w so in
        let P : Local → Type 0 = λ u. Meets l ranges look own at (asked_by None (Took a w)) u in
        subst P (sym (run_one l ws returns' make [] y to on (does (λ c. returns' []))))
        (record {
          sees = record {
            world = there.world;
            holds = there.holds;
            bytes = there.bytes;
            memory = there.memory;
            answers = there.answers;
          };
          at = λ g. refl;
        })

    -- whether callees return doesn't matter to it
    other_does : (v : Option ℕ) (index : Varnode) (vs : List Varnode) (es : List Expr) (y : Local) (ns : List ℕ)
        (q : ℕ → Bool)
        → AllHave m l f ws s y.env (all_read vs) es ns
        → Sees l ranges look own s y
        → (let e = Other index.offset ns in
        do_simple l ws q (S.Other v index.offset es) y
        ≡ code.answered ws v (taken_over look (taken_after m l f look own ranges ws is has set at s go e))
        (code.in_world (recorded e y.world) y))
    other_does v index vs es y ns q have seen =
        let e = Other index.offset ns in
        other_any m l f ws s y index.offset (all_read vs) es ns v q have
        ∙ ap (λ t. code.answered ws v t (code.in_world (recorded e y.world) y))
        (takes_same m l look own is has ranges s y seen e)

    -- what is made of what is read
    abbrev OtherMeets : Option Varnode → Varnode → List Varnode → Read → Type 0
    OtherMeets out index vs r =
        let made = asks l ranges n out r (λ v. S.Other v index.offset r.words) in
        AreWide ws n made.locals
        → Meets l ranges look own at (done O.CallOther out (index ∷ vs)) (run_all l ws returns' made.statements x)

    other_read : (out : Option Varnode) (index : Varnode) (vs : List Varnode)
        → AllOperands l (f.own s.at) ranges (all_read vs)
        → IfSome out (IsOutput l ranges)
        → OtherMeets out index vs (reads l (f.own s.at) ranges n (all_read vs))
    other_read None index vs ops output wide =
        let reading = reads l (f.own s.at) ranges n (all_read vs) in
        let one = S.Other None index.offset reading.words in
        let rest = λ (ss : List Stmt). returns' (ss ++ one ∷ []) in
        let y : Local = run_all l ws rest reading.loads x in
        let r = reads_all m l f look own ranges ws is has set s go (all_read vs) rest n x ops free
        (wide_front ws n reading.locals [] wide) sees in
        let on = goes m l f look own ranges ws is has set s go y r.sees in
        let e = Other index.offset r.words in
        let P : Local → Type 0 = λ u. Meets l ranges look own at (done O.CallOther None (index ∷ vs)) u in
        let Q : State M → Type 0 = λ u. Meets l ranges look own at u (run_all l ws returns' (one ∷ []) y) in
        subst P (sym (run_append l ws returns' reading.loads (one ∷ []) x))
        (subst Q (sym (other_step m l f i s None index vs r.words r.read))
        (alone_meets one e y (taken_after m l f look own ranges ws is has set at s go e) on r.sees
        (taken_so m l f look own ranges ws is has set at s go e y r.sees)
        (λ q. other_does None index vs reading.words y r.words q r.have r.sees)))
    other_read (Some z) index vs ops output wide =
        let es = (reads l (f.own s.at) ranges n (all_read vs)).words in
        let make : Asking = λ u. S.Other u index.offset es in
        let after = done O.CallOther (Some z) (index ∷ vs) in
        computes_meets m l f look own ranges ws is has set at s go n free (all_read vs) z returns' (λ v. make (Some v))
        x after output ops wide sees
        (λ y r. let e = Other index.offset r.words in
        output_made e y r.sees (λ v. make (Some v)) after z
        (taken_after m l f look own ranges ws is has set at s go e)
        (taken_so m l f look own ranges ws is has set at s go e y r.sees)
        (λ v q. other_does (Some v) index vs es y r.words q r.have r.sees)
        (other_step m l f i s (Some z) index vs r.words r.read))

    pub other_meets : (out : Option Varnode) (index : Varnode) (vs : List Varnode)
        → IsPlainOp l (f.own s.at) ranges O.CallOther out (index ∷ vs)
        → AreWide ws n (op_made l (f.own s.at) ranges n O.CallOther out (index ∷ vs)).locals
        → Meet O.CallOther out (index ∷ vs)
    other_meets out index vs h wide =
        let R : Read → Type 0 = λ r. OtherMeets out index vs r in
        subst R (reads_same l (f.own s.at) none_own ranges n vs)
        (other_read out index vs (operands_same l none_own (f.own s.at) ranges vs h.0) h.1) wide
