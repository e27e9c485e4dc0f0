-- What stands for the last op of a block goes where the op goes.
use Rattle.std.proofs.Common.{◌≡◌, ◌≢◌, ℕ, zero, suc, ◌≤◌, Bool, true, false, List, [], ◌∷◌, ◌++◌, length, Option, Some, None, refl, sym, ap, ◌∙◌, subst, append-nil, arith}
use Rattle.std.specs.Prelude.{Ok, slice_get, ◌==◌, cond, if◌then◌else◌}
use Rattle.std.proofs.lemmas.Bool.Decides.{nat_tests}
use Rattle.machine.specs.Trace.{End, NoReturn, Returned}
use Rattle.pcode_model.specs.declared.listing.SpaceKind.{SpaceKind}
use Rattle.pcode_model.specs.declared.listing.SpaceKind.TheVariants.{Constant, Ram, Register, Unique}
use Rattle.pcode_model.specs.declared.listing.Varnode.{Varnode}
use Rattle.pcode_model.specs.declared.listing.Instruction.{Instruction}
use Rattle.pcode_model.specs.declared.listing.Place.{Place}
use Rattle.pcode_model.specs.declared.listing.Listing.{Listing}
use Rattle.pcode_model.specs.declared.opcode.Opcode.{Opcode}
use Rattle.pcode_model.specs.declared.opcode.Opcode.TheVariants as O
use Rattle.pcode_model.specs.declared.tables.TableAt.{TableAt}
use Rattle.pcode_model.specs.declared.flow.Turn.TheVariants.{GoesOn}
use Rattle.pcode_model.specs.declared.flow.Exit as flow_exit
use Rattle.pcode_model.specs.declared.flow.Exit.TheVariants as F
use Rattle.pcode_model.specs.Spaces.{first_ram, kind_of}
use Rattle.pcode_model.specs.Places.{Standing, Nothing, Passes, Does, next_place, branch_place}
use Rattle.pcode_model.specs.Memory.{Acts, Frame, Bytes}
use Rattle.pcode_model.specs.World.{ended}
use Rattle.pcode_model.specs.Step.{State, moved, in_world, local_word, with_first, effect_at, apply, callee_at, gone, read_varnode, step_at, proto_of, result_of}
use Rattle.pcode_model.specs.Step.{returns as does_return}
use Rattle.pcode_model.specs.Flow.{call_turn, turn_of, turn_in, next_in, IsStart, JumpsTo, TestsTo, LeavesBy}
use Rattle.pcode_laws.specs.AsBytes.{AsBytes}
use Rattle.range_words.specs.Own.{HasOwn}
use Rattle.range_words.proofs.Own.{register_off, unique_off, word_else}
use Rattle.cmeaning.specs.declared.tree.Expr.{Expr}
use Rattle.cmeaning.specs.declared.tree.Stmt.{Stmt}
use Rattle.cmeaning.specs.Do.{Local, ends}
use Rattle.cmeaning.specs.Step.{tested}
use Rattle.cmeaning.specs.Value.{value_of}
use Rattle.blockcode.specs.declared.code.Exit.{Exit}
use Rattle.blockcode.specs.declared.code.Exit.TheVariants as X
use Rattle.blockcode.specs.Run.{CodeState, call_returns, at, enters, enters_by, returns_with, leave}
use Rattle.blockcode.proofs.Straight.{run_all}
use Rattle.op_code.specs.Cover.{HasCover}
use Rattle.op_code.specs.Made.{read_one}
use Rattle.op_code.specs.Form.{IsLocalBy, IsOperand, IsPlainOp, IsResult}
use Rattle.op_code.proofs.Operands.{range_has, reads_by, word_read}
use Rattle.op_code.proofs.Calling.{never_meets}
use Rattle.op_code.proofs.Ops.{op_meets}
use Rattle.op_code.proofs.Sees.{AreWide, Meets, Sees, Setting}
use Rattle.op_code.proofs.Steps.{op_of}
use Rattle.op_code.specs.Lowered.{directly, made_in, result, result_in, tests, way_out}
use Rattle.op_code.specs.Lowerable.{IsPlain}

-- Both have left the block: they go together, and the code stands where the block begins that begins at the place.
pub record Left {M : Type 0} (l : Listing) (ranges : List Varnode) (look : M → Bytes) (own : M → ℕ → ℕ)
    (starts : List Place) (s : State M) (u : CodeState) : Type 0 where
  pub sees : Sees l ranges look own s u.local
  pub at : s.world.over ≡ None → (u.position ≡ 0) × (slice_get starts u.block ≡ Some s.at)

-- The code's next step from u, before this exit, leads to v: the exit is taken, unless the run has ended.
pub record Leaving (ws : ℕ → ℕ) (e : Exit) (u v : CodeState) : Type 0 where
  pub on : u.local.world.over ≡ None → v ≡ leave ws e u
  pub off : (h : End) → u.local.world.over ≡ Some h → v ≡ u

-- In front of a jump every call returns.
pub jump_returns : (n : ℕ) (ss : List Stmt) → call_returns ss (X.Jump n) ≡ true
jump_returns n [] = refl
jump_returns n (a ∷ ss) = refl

module _
    {M : Type 0}
    (m : Acts M)
    (l : Listing)
    (f : Frame)
    (look : M → Bytes)
    (own : M → ℕ → ℕ)
    (ranges : List Varnode)
    (ws : ℕ → ℕ)
    (returns : List Stmt → Bool)
    (is : AsBytes m l look)
    (has : HasOwn m l look own)
    (set : Setting l ranges ws)
    (starts : List Place)
  where
    -- what stands at a place from which the run goes on to the next one, where a call in front of any statements returns
    pub goes_to : (here : Standing) (q : Place) (s : State M) (x : Local) (n : ℕ)
        → IsPlain l (f.own s.at) ranges here
        → turn_in l here ≡ GoesOn
        → next_in here s.at.index ≡ Some q
        → s.world.over ≡ None
        → Sees l ranges look own s x
        → length ranges ≤ n
        → AreWide ws n (made_in l (f.own s.at) ranges n here).locals
        → ((ss : List Stmt) → returns ss ≡ true)
        → Meets l ranges look own q (step_at m l f here s)
        (run_all l ws returns (made_in l (f.own s.at) ranges n here).statements x)
    goes_to Nothing q s x n h turn next go sees free wide all = absurd h
    goes_to (Passes i) q s x n h turn next go sees free wide all = record {
      sees = record {
        world = sees.world;
        holds = sees.holds;
        bytes = sees.bytes;
        memory = sees.memory;
        answers = sees.answers;
      };
      at = λ _. cc;
    }
    goes_to (Does i op) q s x n h turn next go sees free wide all =
        let met = op_meets m l f look own ranges ws is has set i s x go sees n free returns op.code op.out
        op.inputs h turn wide all in
        record { sees = met.sees; at = λ g. let e = met.at g in cc }

    -- ---- the ways to leave

    sees_at : (s : State M) (x y : Local) → y ≡ x → Sees l ranges look own s x → Sees l ranges look own s y
    sees_at s x y e sees = let P : Local → Type 0 = λ z. Sees l ranges look own s z in subst P (sym e) sees

    jump_left : (q : Place) (n : ℕ) (s : State M) (u : CodeState)
        → Meets l ranges look own q s u.local
        → slice_get starts n ≡ Some q
        → Left l ranges look own starts s (enters n u)
    jump_left q n s u met e = record {
      sees = met.sees;
      at = λ g. (refl, e ∙ ap (λ p. Some p) (sym (met.at g)));
    }

    jump_by : (q : Place) (n : ℕ) (s : State M) (u v : CodeState) (o : Option End)
        → s.world.over ≡ o
        → Meets l ranges look own q s u.local
        → slice_get starts n ≡ Some q
        → Leaving ws (X.Jump n) u v
        → Left l ranges look own starts s v
    jump_by q n s u v None go met e leaving =
        let P : CodeState → Type 0 = λ w. Left l ranges look own starts s w in
        subst P (sym (leaving.on (ap (λ w. w.over) (sym met.sees.world) ∙ go))) (jump_left q n s u met e)
    jump_by q n s u v (Some h) go met e leaving =
        let P : CodeState → Type 0 = λ w. Left l ranges look own starts s w in
        subst P (sym (leaving.off h (ap (λ w. w.over) (sym met.sees.world) ∙ go)))
        (record { sees = met.sees; at = λ g. absurd (cc) })

    -- a call in front of these statements and this exit returns or doesn't
    abbrev IsBefore : Exit → Type 0
    IsBefore e = (ss : List Stmt) → returns ss ≡ call_returns ss e

    leaves_on : (here : Standing) (e : flow_exit.Exit) (s : State M) (x : Local) (u v : CodeState) (n k : ℕ)
        → IsPlain l (f.own s.at) ranges here
        → turn_in l here ≡ GoesOn
        → JumpsTo starts (next_in here s.at.index) e
        → s.world.over ≡ None
        → Sees l ranges look own s x
        → length ranges ≤ n
        → AreWide ws n (made_in l (f.own s.at) ranges n here).locals
        → IsBefore (way_out l ranges k here e).exit
        → u.local
        ≡ run_all l ws returns ((made_in l (f.own s.at) ranges n here).statements ++ (way_out l ranges k here e).loads) x
        → Leaving ws (way_out l ranges k here e).exit u v
        → Left l ranges look own starts (step_at m l f here s) v
    leaves_on here F.Return s x u v n k h turn jump go sees free wide before ran leaving = absurd jump
    leaves_on here (F.Jump b) s x u v n k h turn jump go sees free wide before ran leaving =
        let ss = (made_in l (f.own s.at) ranges n here).statements in
        let met = goes_to here jump.0 s x n h turn jump.1.0 go sees free wide
        (λ rest. before rest ∙ jump_returns b rest) in
        let same : u.local ≡ run_all l ws returns ss x = ran ∙ ap (λ xs. run_all l ws returns xs x) (append-nil ss) in
        let P : Local → Type 0 = λ y. Meets l ranges look own jump.0 (step_at m l f here s) y in
        jump_by jump.0 b (step_at m l f here s) u v (step_at m l f here s).world.over refl (subst P (sym same) met)
        jump.1.1 leaving
    leaves_on here (F.Test a b) s x u v n k h turn jump go sees free wide before ran leaving = absurd jump
    leaves_on here (F.Switch t ns) s x u v n k h turn jump go sees free wide before ran leaving = absurd jump
    leaves_on here F.Stop s x u v n k h turn jump go sees free wide before ran leaving = absurd jump

    -- ---- calls

    -- a call of a callee that never returns has ended both runs
    stop_left : (i : Instruction) (to : Varnode) (e : flow_exit.Exit) (s : State M) (x : Local) (u v : CodeState)
        (n k : ℕ)
        → (let here = Does i (op_of O.Call None (to ∷ [])) in
        let way = way_out l ranges k here e in
        IsPlainOp l (f.own s.at) ranges O.Call None (to ∷ [])
        → does_return (callee_at l to.offset) ≡ false
        → e ≡ F.Stop
        → s.world.over ≡ None
        → Sees l ranges look own s x
        → length ranges ≤ n
        → AreWide ws n (made_in l (f.own s.at) ranges n here).locals
        → IsBefore way.exit
        → u.local ≡ run_all l ws returns ((made_in l (f.own s.at) ranges n here).statements ++ way.loads) x
        → Leaving ws way.exit u v
        → Left l ranges look own starts (step_at m l f here s) v)
    stop_left i to e s x u v n k h never is_stop go sees free wide before ran leaving =
        let here = Does i (op_of O.Call None (to ∷ [])) in
        let t : State M = step_at m l f here s in
        let ss = (made_in l (f.own s.at) ranges n here).statements in
        let B : flow_exit.Exit → Type 0 = λ e. IsBefore (way_out l ranges k here e).exit in
        let R : flow_exit.Exit → Type 0 =
        λ e. u.local ≡ run_all l ws returns (ss ++ (way_out l ranges k here e).loads) x in
        let Q : flow_exit.Exit → Type 0 = λ e. Leaving ws (way_out l ranges k here e).exit u v in
        let leave' : Leaving ws X.Stop u v = subst Q is_stop leaving in
        let both = never_meets m l f look own ranges ws is has set i s x go sees n free returns to h never wide
        (subst B is_stop before []) in
        let same : u.local ≡ run_all l ws returns ss x =
        subst R is_stop ran ∙ ap (λ xs. run_all l ws returns xs x) (append-nil ss) in
        let there = sees_at t (run_all l ws returns ss x) u.local same both.1.sees in
        let over : u.local.world.over ≡ Some NoReturn = ap (λ w. w.over) (sym there.world) ∙ both.0 in
        let P : CodeState → Type 0 = λ w. Left l ranges look own starts t w in
        let ended = both.0 in
        subst P (sym (leave'.off NoReturn over)) (record { sees = there; at = λ g. absurd (cc) })

    call_left : (i : Instruction) (to : Varnode) (b : Bool) (t : List TableAt) (e : flow_exit.Exit) (s : State M)
        (x : Local) (u v : CodeState) (n k : ℕ)
        → (let here = Does i (op_of O.Call None (to ∷ [])) in
        let way = way_out l ranges k here e in
        IsPlainOp l (f.own s.at) ranges O.Call None (to ∷ [])
        → does_return (callee_at l to.offset) ≡ b
        → LeavesBy t starts s.at here (call_turn b) e
        → s.world.over ≡ None
        → Sees l ranges look own s x
        → length ranges ≤ n
        → AreWide ws n (made_in l (f.own s.at) ranges n here).locals
        → IsBefore way.exit
        → u.local ≡ run_all l ws returns ((made_in l (f.own s.at) ranges n here).statements ++ way.loads) x
        → Leaving ws way.exit u v
        → Left l ranges look own starts (step_at m l f here s) v)
    call_left i to true t e s x u v n k h returning by go sees free wide before ran leaving =
        leaves_on (Does i (op_of O.Call None (to ∷ []))) e s x u v n k h (ap call_turn returning) by go sees free wide
        before ran leaving
    call_left i to false t e s x u v n k h never by go sees free wide before ran leaving =
        stop_left i to e s x u v n k h never by go sees free wide before ran leaving

    sees_moved : (p : Place) (s : State M) (x : Local)
        → Sees l ranges look own s x
        → Sees l ranges look own (moved p s) x
    sees_moved p s x sees =
        record {
          world = sees.world;
          holds = sees.holds;
          bytes = sees.bytes;
          memory = sees.memory;
          answers = sees.answers;
        }

    -- to a place where a block begins
    gone_left : (to : Option Place) (n : ℕ) (s : State M) (u : CodeState)
        → IsStart starts to n
        → Sees l ranges look own s u.local
        → Left l ranges look own starts (gone to s) (enters n u)
    gone_left to n s u start sees =
        let P : Option Place → Type 0 = λ o. Left l ranges look own starts (gone o s) (enters n u) in
        subst P (sym start.1.0) (record { sees = sees_moved start.0 s u.local sees; at = λ g. (refl, start.1.1) })

    -- an exit is taken
    taken : (e : Exit) (s t : State M) (u v : CodeState)
        → s.world.over ≡ None
        → Sees l ranges look own s u.local
        → Leaving ws e u v
        → Left l ranges look own starts t (leave ws e u)
        → Left l ranges look own starts t v
    taken e s t u v go sees leaving left =
        let P : CodeState → Type 0 = λ w. Left l ranges look own starts t w in
        subst P (sym (leaving.on (ap (λ w. w.over) (sym sees.world) ∙ go))) left

    branch_left : (i : Instruction) (to : Varnode) (e : flow_exit.Exit) (s : State M) (x : Local) (u v : CodeState)
        (here : Standing) (k : ℕ)
        → JumpsTo starts (branch_place i s.at.index to) e
        → s.world.over ≡ None
        → Sees l ranges look own s x
        → u.local ≡ run_all l ws returns (way_out l ranges k here e).loads x
        → Leaving ws (way_out l ranges k here e).exit u v
        → Left l ranges look own starts (gone (branch_place i s.at.index to) s) v
    branch_left i to F.Return s x u v here k jump go sees ran leaving = absurd jump
    branch_left i to (F.Jump n) s x u v here k jump go sees ran leaving =
        let there = sees_at s x u.local ran sees in
        taken (X.Jump n) s (gone (branch_place i s.at.index to) s) u v go there leaving
        (gone_left (branch_place i s.at.index to) n s u jump there)
    branch_left i to (F.Test a b) s x u v here k jump go sees ran leaving = absurd jump
    branch_left i to (F.Switch t ns) s x u v here k jump go sees ran leaving = absurd jump
    branch_left i to F.Stop s x u v here k jump go sees ran leaving = absurd jump

    -- ---- tests

    some_word : (n : ℕ) → (suc n == 0) ≡ false
    some_word n = grind (arith, nat_tests)

    -- to one of two blocks, which are one
    same_left : (a b n : ℕ) (to next : Option Place) (s : State M) (u : CodeState)
        → (a == b) ≡ true
        → IsStart starts to a
        → IsStart starts next b
        → Sees l ranges look own s u.local
        → Left l ranges look own starts (gone (if n == 0 then next else to) s) (enters a u)
    same_left a b zero to next s u same sa sb sees =
        let e : a ≡ b = grind (arith, nat_tests) in
        let P : ℕ → Type 0 = λ k. Left l ranges look own starts (gone next s) (enters k u) in
        subst P (sym e) (gone_left next b s u sb sees)
    same_left a b (suc n) to next s u same sa sb sees =
        let P : Bool → Type 0 = λ z. Left l ranges look own starts (gone (cond z next to) s) (enters a u) in
        subst P (sym (some_word n)) (gone_left to a s u sa sees)

    -- by the value of a condition
    value_left : (c : Expr) (a b n : ℕ) (to next : Option Place) (s : State M) (u : CodeState)
        → IsStart starts to a
        → IsStart starts next b
        → Sees l ranges look own s u.local
        → value_of ws u.local.env c ≡ Some n
        → Left l ranges look own starts (gone (if n == 0 then next else to) s) (leave ws (X.Test c a b) u)
    value_left c a b zero to next s u sa sb sees has =
        let P : Option ℕ → Type 0 = λ o. Left l ranges look own starts (gone next s)
        (enters_by o u (λ n. enters (tested a b n) u)) in
        subst P (sym has) (gone_left next b s u sb sees)
    value_left c a b (suc n) to next s u sa sb sees has =
        let P : Option ℕ → Type 0 = λ o. Left l ranges look own starts (gone to s)
        (enters_by o u (λ n. enters (tested a b n) u)) in
        let Q : Bool → Type 0 = λ z. Left l ranges look own starts (gone (cond z next to) s)
        (enters_by (value_of ws u.local.env c) u (λ n. enters (tested a b n) u)) in
        subst Q (sym (some_word n)) (subst P (sym has) (gone_left to a s u sa sees))

    test_step : (i : Instruction) (to v : Varnode) (s : State M) (a : ℕ)
        → read_varnode m l (kind_of l v.space) v s ≡ Ok a
        → step_at m l f (Does i (op_of O.CBranch None (to ∷ v ∷ []))) s
        ≡ gone (if a == 0 then Some (next_place i s.at.index) else branch_place i s.at.index to) s
    test_step i to v s a read =
        ap (λ r. apply m l (next_place i s.at.index)
        (effect_at l f i (op_of O.CBranch None (to ∷ v ∷ [])) (with_first r (Ok [])) s) s) read

    test_flag : (i : Instruction) (to c : Varnode) (a b : ℕ) (same : Bool) (s : State M) (x : Local) (u v : CodeState)
        (k : ℕ)
        → (a == b) ≡ same
        → IsOperand l ranges c
        → IsStart starts (branch_place i s.at.index to) a
        → IsStart starts (Some (next_place i s.at.index)) b
        → s.world.over ≡ None
        → Sees l ranges look own s x
        → length ranges ≤ k
        → (let out = cond same (directly (X.Jump a)) (tests (read_one l ranges k c) a b) in
        AreWide ws k out.locals
        → u.local ≡ run_all l ws returns out.loads x
        → Leaving ws out.exit u v
        → Left l ranges look own starts (step_at m l f (Does i (op_of O.CBranch None (to ∷ c ∷ []))) s) v)
    test_flag i to c a b true s x u v k flag h sa sb go sees free wide ran leaving =
        let r = word_read m l look is (kind_of l c.space) c s in
        let there = sees_at s x u.local ran sees in
        let next = Some (next_place i s.at.index) in
        let P : State M → Type 0 = λ t. Left l ranges look own starts t v in
        subst P (sym (test_step i to c s r.0 r.1))
        (taken (X.Jump a) s (gone (if r.0 == 0 then next else branch_place i s.at.index to) s) u v go there leaving
        (same_left a b r.0 (branch_place i s.at.index to) next s u flag sa sb there))
    test_flag i to c a b false s x u v k flag h sa sb go sees free wide ran leaving =
        let one = read_one l ranges k c in
        let y : Local = run_all l ws returns one.loads x in
        let r = reads_by m l f look own ranges ws is has set s go (kind_of l c.space) returns k c x refl h.0 h.1 free
        wide sees in
        let has = r.has y.env r.sees.holds (λ j lt. refl) in
        let there = sees_at s y u.local ran r.sees in
        let next = Some (next_place i s.at.index) in
        let value : value_of ws u.local.env one.word ≡ Some r.word =
        ap (λ z. value_of ws z.env one.word) ran ∙ has.means.value in
        let P : State M → Type 0 = λ t. Left l ranges look own starts t v in
        subst P (sym (test_step i to c s r.word has.read))
        (taken (X.Test one.word a b) s (gone (if r.word == 0 then next else branch_place i s.at.index to) s) u v go
        there leaving (value_left one.word a b r.word (branch_place i s.at.index to) next s u sa sb there value))

    test_left : (i : Instruction) (to c : Varnode) (e : flow_exit.Exit) (s : State M) (x : Local) (u v : CodeState)
        (k : ℕ)
        → IsPlainOp l (f.own s.at) ranges O.CBranch None (to ∷ c ∷ [])
        → TestsTo starts (branch_place i s.at.index to) (Some (next_place i s.at.index)) e
        → s.world.over ≡ None
        → Sees l ranges look own s x
        → length ranges ≤ k
        → (let out = way_out l ranges k (Does i (op_of O.CBranch None (to ∷ c ∷ []))) e in
        AreWide ws k out.locals
        → u.local ≡ run_all l ws returns out.loads x
        → Leaving ws out.exit u v
        → Left l ranges look own starts (step_at m l f (Does i (op_of O.CBranch None (to ∷ c ∷ []))) s) v)
    test_left i to c F.Return s x u v k h to' go sees free wide ran leaving = absurd to'
    test_left i to c (F.Jump n) s x u v k h to' go sees free wide ran leaving = absurd to'
    test_left i to c (F.Test a b) s x u v k h to' go sees free wide ran leaving =
        test_flag i to c a b (a == b) s x u v k refl h.1 to'.0 to'.1 go sees free wide ran leaving
    test_left i to c (F.Switch t ns) s x u v k h to' go sees free wide ran leaving = absurd to'
    test_left i to c F.Stop s x u v k h to' go sees free wide ran leaving = absurd to'

    -- ---- returns

    has_cover : (k : SpaceKind) (v : Varnode) → IsLocalBy k ranges v → HasCover ranges v
    has_cover Constant v h = absurd h
    has_cover Ram v h = absurd h
    has_cover Register v h = h
    has_cover Unique v h = h

    sees_end : (e : End) (s : State M) (u v : CodeState)
        → v ≡ at u.block u.position (ends e u.local)
        → Sees l ranges look own s u.local
        → Left l ranges look own starts (in_world (ended e s.world) s) v
    sees_end e s u v same sees =
        let P : CodeState → Type 0 = λ w. Left l ranges look own starts (in_world (ended e s.world) s) w in
        subst P (sym same) (record {
          sees = record {
            world = ap (ended e) sees.world;
            holds = sees.holds;
            bytes = sees.bytes;
            memory = sees.memory;
            answers = sees.answers;
          };
          at = λ g. absurd (cc);
        })

    off_frame : (k : SpaceKind) (v : Varnode) → kind_of l v.space ≡ k → IsLocalBy k ranges v → v.space ≢ first_ram l
    off_frame Constant v kind h = absurd h
    off_frame Ram v kind h = absurd h
    off_frame Register v kind h = register_off l v.space kind
    off_frame Unique v kind h = unique_off l v.space kind

    returns_by : (gives : Option Varnode) (s : State M) (u : CodeState)
        → IsResult l ranges gives
        → s.world.over ≡ None
        → Sees l ranges look own s u.local
        → Left l ranges look own starts (in_world (ended (Returned (result_of l s.local gives)) s.world) s)
        (leave ws (X.Return (result_in l ranges gives)) u)
    returns_by None s u h go sees = sees_end (Returned None) s u _ refl sees
    returns_by (Some v) s u h go sees =
        let kind = kind_of l v.space in
        let means = range_has m l f look own ranges ws is has set s go v u.local.env h.0 (has_cover kind v h.1)
        sees.holds in
        let same = word_else l (own s.world.memory) s.local v (off_frame kind v refl h.1) in
        sees_end (Returned (Some (local_word l v s.local))) s u _
        (ap (λ o. returns_with o u) (means.value ∙ ap (λ n. Some n) same)) sees

    return_step : (i : Instruction) (to : Varnode) (s : State M) (a : ℕ)
        → read_varnode m l (kind_of l to.space) to s ≡ Ok a
        → step_at m l f (Does i (op_of O.Return None (to ∷ []))) s
        ≡ in_world (ended (Returned (result_of l s.local (proto_of l None).gives)) s.world) s
    return_step i to s a read =
        ap (λ r. apply m l (next_place i s.at.index)
        (effect_at l f i (op_of O.Return None (to ∷ [])) (with_first r (Ok [])) s) s) read

    return_left : (i : Instruction) (to : Varnode) (e : flow_exit.Exit) (s : State M) (x : Local) (u v : CodeState)
        (k : ℕ) (here : Standing)
        → IsPlainOp l (f.own s.at) ranges O.Return None (to ∷ [])
        → e ≡ F.Return
        → s.world.over ≡ None
        → Sees l ranges look own s x
        → u.local ≡ run_all l ws returns (way_out l ranges k here e).loads x
        → Leaving ws (way_out l ranges k here e).exit u v
        → Left l ranges look own starts (step_at m l f (Does i (op_of O.Return None (to ∷ []))) s) v
    return_left i to e s x u v k here h is_return go sees ran leaving =
        let R : flow_exit.Exit → Type 0 = λ e. u.local ≡ run_all l ws returns (way_out l ranges k here e).loads x in
        let Q : flow_exit.Exit → Type 0 = λ e. Leaving ws (way_out l ranges k here e).exit u v in
        let same : u.local ≡ x = subst R is_return ran in
        let leave' : Leaving ws (X.Return (result l ranges)) u v = subst Q is_return leaving in
        let there = sees_at s x u.local same sees in
        let r = word_read m l look is (kind_of l to.space) to s in
        let t : State M = in_world (ended (Returned (result_of l s.local (proto_of l None).gives)) s.world) s in
        let P : State M → Type 0 = λ t. Left l ranges look own starts t v in
        subst P (sym (return_step i to s r.0 r.1))
        (taken (X.Return (result l ranges)) s t u v go there leave'
        (returns_by (proto_of l None).gives s u h.1 go there))

    -- ---- all

    leaves_op : (t : List TableAt) (i : Instruction) (code : Opcode) (out : Option Varnode) (vs : List Varnode)
        (e : flow_exit.Exit) (s : State M) (x : Local) (u v : CodeState) (n k : ℕ)
        → IsPlainOp l (f.own s.at) ranges code out vs
        → LeavesBy t starts s.at (Does i (op_of code out vs)) (turn_of l code vs) e
        → s.world.over ≡ None
        → Sees l ranges look own s x
        → length ranges ≤ n
        → length ranges ≤ k
        → (let here = Does i (op_of code out vs) in
        let way = way_out l ranges k here e in
        AreWide ws n (made_in l (f.own s.at) ranges n here).locals
        → AreWide ws k way.locals
        → IsBefore way.exit
        → u.local ≡ run_all l ws returns ((made_in l (f.own s.at) ranges n here).statements ++ way.loads) x
        → Leaving ws way.exit u v
        → Left l ranges look own starts (step_at m l f here s) v)
    leaves_op t i (O.Unary op) out vs e s x u v n k h by go sees free later wide more before ran leaving =
        leaves_on (Does i (op_of (O.Unary op) out vs)) e s x u v n k h refl by go sees free wide before ran leaving
    leaves_op t i (O.Binary op) out vs e s x u v n k h by go sees free later wide more before ran leaving =
        leaves_on (Does i (op_of (O.Binary op) out vs)) e s x u v n k h refl by go sees free wide before ran leaving
    leaves_op t i (O.Divide op) out vs e s x u v n k h by go sees free later wide more before ran leaving =
        leaves_on (Does i (op_of (O.Divide op) out vs)) e s x u v n k h refl by go sees free wide before ran leaving
    leaves_op t i O.Load out vs e s x u v n k h by go sees free later wide more before ran leaving =
        leaves_on (Does i (op_of O.Load out vs)) e s x u v n k h refl by go sees free wide before ran leaving
    leaves_op t i O.Store out vs e s x u v n k h by go sees free later wide more before ran leaving =
        leaves_on (Does i (op_of O.Store out vs)) e s x u v n k h refl by go sees free wide before ran leaving
    leaves_op t i O.Call None (to ∷ []) e s x u v n k h by go sees free later wide more before ran leaving =
        call_left i to (does_return (callee_at l to.offset)) t e s x u v n k h refl by go sees free wide before ran
        leaving
    leaves_op t i O.CallInd out vs e s x u v n k h by go sees free later wide more before ran leaving =
        leaves_on (Does i (op_of O.CallInd out vs)) e s x u v n k h refl by go sees free wide before ran leaving
    leaves_op t i O.CallOther out vs e s x u v n k h by go sees free later wide more before ran leaving =
        leaves_on (Does i (op_of O.CallOther out vs)) e s x u v n k h refl by go sees free wide before ran leaving
    leaves_op t i O.Branch None (to ∷ []) e s x u v n k h by go sees free later wide more before ran leaving =
        branch_left i to e s x u v (Does i (op_of O.Branch None (to ∷ []))) k by go sees ran leaving
    leaves_op t i O.CBranch None (to ∷ c ∷ []) e s x u v n k h by go sees free later wide more before ran leaving =
        test_left i to c e s x u v k h by go sees later more ran leaving
    leaves_op t i O.Return None (to ∷ []) e s x u v n k h by go sees free later wide more before ran leaving =
        return_left i to e s x u v k (Does i (op_of O.Return None (to ∷ []))) h by go sees ran leaving
    leaves_op t i O.Call (Some z) vs e s x u v n k h by go sees free later wide more before ran leaving = absurd h
    leaves_op t i O.Call None [] e s x u v n k h by go sees free later wide more before ran leaving = absurd h
    leaves_op t i O.Call None (to ∷ a ∷ vs) e s x u v n k h by go sees free later wide more before ran leaving = absurd h
    leaves_op t i code out vs e s x u v n k h by go sees free later wide more before ran leaving = absurd h

    pub leaves : (t : List TableAt) (here : Standing) (e : flow_exit.Exit) (s : State M) (x : Local)
        (u v : CodeState) (n k : ℕ)
        → IsPlain l (f.own s.at) ranges here
        → LeavesBy t starts s.at here (turn_in l here) e
        → s.world.over ≡ None
        → Sees l ranges look own s x
        → length ranges ≤ n
        → length ranges ≤ k
        → (let way = way_out l ranges k here e in
        AreWide ws n (made_in l (f.own s.at) ranges n here).locals
        → AreWide ws k way.locals
        → IsBefore way.exit
        → u.local ≡ run_all l ws returns ((made_in l (f.own s.at) ranges n here).statements ++ way.loads) x
        → Leaving ws way.exit u v
        → Left l ranges look own starts (step_at m l f here s) v)
    leaves t Nothing e s x u v n k h by go sees free later wide more before ran leaving = absurd h
    leaves t (Passes i) e s x u v n k h by go sees free later wide more before ran leaving =
        leaves_on (Passes i) e s x u v n k h refl by go sees free wide before ran leaving
    leaves t (Does i op) e s x u v n k h by go sees free later wide more before ran leaving =
        leaves_op t i op.code op.out op.inputs e s x u v n k h by go sees free later wide more before ran leaving
