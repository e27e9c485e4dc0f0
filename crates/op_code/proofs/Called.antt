-- What stands for a call does what the call does: it is recorded, takes an answer, leaves what the answer has, and pops
-- the stack pointer.
-- The range of each variable of a register lies in a range that the call spares, or meets none (Spared.antt). The
-- result's variables have their old words until its parts are assigned, so before that the variables hold the words of
-- bytes that spare the result too (Kept.antt). What takes what is left assigns no variable of the result, so that the
-- call's own assignment may be thought of behind it (Extras.antt), where it and the parts are one write of the result
-- (Writing.antt).
use Rattle.std.proofs.Common.{◌≡◌, ℕ, ◌+◌, ◌%◌, ◌<◌, ◌≤◌, Bool, true, List, [], ◌∷◌, ◌++◌, length, Option, Some, None, refl, sym, ap, ◌∙◌, subst, arith}
use Rattle.std.specs.Prelude.{IfSome}
use Rattle.std.proofs.Math.Nat.{mod-lt}
use Rattle.std.proofs.lemmas.Option.{slice_get_past}
use Rattle.machine.specs.Trace.{Event}
use Rattle.bits_core.specs.Value.{limit}
use Rattle.bits_core.proofs.Limits.{limit_pos}
use Rattle.pcode_model.specs.declared.listing.Varnode.{Varnode}
use Rattle.pcode_model.specs.declared.listing.Place.{Place}
use Rattle.pcode_model.specs.declared.listing.Proto.{Proto}
use Rattle.pcode_model.specs.declared.listing.Listing.{Listing}
use Rattle.pcode_model.specs.Memory.{Acts, Bytes, Frame}
use Rattle.pcode_model.specs.Spaces.{is_big, register_space}
use Rattle.pcode_model.specs.World.{Answer, Stops, Taken, Took, World, recorded, take_answer}
use Rattle.pcode_model.specs.Step.{Operand, State, after_call, after_callee, in_world, local_word, moved, with_pop, with_word}
use Rattle.pcode_model.specs.Step as listing
use Rattle.pcode_laws.specs.AsBytes.{AsBytes, seen_over, taken_over}
use Rattle.range_words.specs.Own.{HasOwn, with_own}
use Rattle.range_words.specs.Ranges.{AreBytes, Holds}
use Rattle.range_words.proofs.Variables.{bytes_written}
use Rattle.cmeaning.specs.declared.tree.Expr.{Expr}
use Rattle.cmeaning.specs.declared.tree.Stmt.{Stmt}
use Rattle.cmeaning.specs.Do.{Local, assigned, do_simple, values_of, with_words}
use Rattle.cmeaning.specs.Do as code
use Rattle.blockcode.proofs.Straight.{run_all, run_over}
use Rattle.op_code.specs.Cover.{cover}
use Rattle.op_code.specs.Words.{target, write_range}
use Rattle.op_code.specs.Left.{extras, spared}
use Rattle.op_code.specs.Made.{Asking, answered, gives_back, local_for, pops}
use Rattle.op_code.specs.Form.{IsCallable, IsGiven}
use Rattle.op_code.proofs.Extras.{extras_hold, extras_swap}
use Rattle.op_code.proofs.Kept.{left_alone, replaced, replaced_bytes, result_over, result_own}
use Rattle.op_code.proofs.Operands.{AllHave, run_append, run_one}
use Rattle.op_code.proofs.Popped.{pops_meet}
use Rattle.op_code.proofs.Reading.{cover_inside}
use Rattle.op_code.proofs.Sees.{AreWide, Meets, Sees, Setting, seen_bytes, wide_back, wide_front}
use Rattle.op_code.proofs.Sets.{target_wide}
use Rattle.op_code.proofs.Spared.{spared_alone, spared_off, target_other}
use Rattle.op_code.proofs.Taken.{IsStopped, IsTaken, IsTakenSo, left_by, stops_meets, takes_same, takes_so}
use Rattle.op_code.proofs.Writing.{write_wrote}

-- ---- arguments

-- words that all have values
pub words_run : {M : Type 0} (m : Acts M) (l : Listing) (f : Frame) (ws : ℕ → ℕ) (s : State M) (x : Local)
    (xs : List Operand) (es : List Expr) (ns : List ℕ) (next : List ℕ → Local)
    → AllHave m l f ws s x.env xs es ns
    → with_words (values_of ws x.env es) x next ≡ next ns
words_run m l f ws s x [] [] [] next have = refl
words_run m l f ws s x [] [] (n ∷ ns) next have = absurd have
words_run m l f ws s x [] (e ∷ es) ns next have = absurd have
words_run m l f ws s x (v ∷ vs) [] ns next have = absurd have
words_run m l f ws s x (v ∷ vs) (e ∷ es) [] next have = absurd have
words_run m l f ws s x (v ∷ vs) (e ∷ es) (n ∷ ns) next have =
    ap (λ o. code.with_word o x (λ k. with_words (values_of ws x.env es) x (λ ks. next (k ∷ ks)))) have.0.means.value
    ∙ words_run m l f ws s x vs es ns (λ ks. next (n ∷ ks)) have.1

-- The statement records this and takes the next answer.
abbrev pub Records : Listing → (ℕ → ℕ) → Asking → Event → Local → Type 0
Records l ws make e x = (v : Option ℕ) (returns : ℕ → Bool)
    → ((a : ℕ) → returns a ≡ true)
    → do_simple l ws returns (make v) x ≡ code.asks l ws v (code.in_world (recorded e x.world) x)

module _
    {M : Type 0}
    (m : Acts M)
    (l : Listing)
    (f : Frame)
    (look : M → Bytes)
    (own : M → ℕ → ℕ)
    (ranges : List Varnode)
    (ws : ℕ → ℕ)
    (is : AsBytes m l look)
    (has : HasOwn m l look own)
    (set : Setting l ranges ws)
    (next : Place)
    (s : State M)
    (go : s.world.over ≡ None)
  where
    -- what the event leads to
    abbrev pub taken_after : Event → Taken M
    taken_after e = take_answer m (recorded e s.world)

    -- both take the same answer
    pub answers_so : (make : Asking) (e : Event) (x : Local) (v : Option ℕ) (returns : ℕ → Bool)
        → Sees l ranges look own s x
        → Records l ws make e x
        → ((a : ℕ) → returns a ≡ true)
        → do_simple l ws returns (make v) x
        ≡ code.answered ws v (taken_over look (taken_after e)) (code.in_world (recorded e x.world) x)
    answers_so make e x v returns sees records all =
        records v returns all
        ∙ ap (λ t. code.answered ws v t (code.in_world (recorded e x.world) x))
        (takes_same m l look own is has ranges s x sees e)

    pub taken_so : (e : Event) (x : Local)
        → Sees l ranges look own s x
        → IsTakenSo m l look own is has (own s.world.memory) (taken_after e)
    taken_so e x sees = takes_so m l look own is has (recorded e s.world) go sees.memory sees.answers

    -- ---- a call that returns

    module _ (p : Proto) (call : IsCallable l (f.own s.at) ranges p) where
      given_registers : (given : Option Varnode)
          → IfSome given (IsGiven l ranges)
          → IfSome given (λ z. z.space ≡ register_space l)
      given_registers None h = tt
      given_registers (Some z) h = h.0

      -- the state with the answer's bytes, before the pop
      abbrev mid : Answer → World M → State M
      mid a w = record {
        at = next;
        local = listing.with_result l p.gives a.word (after_callee l p a s.local);
        world = w;
      }

      module _
          (a : Answer)
          (w : World M)
          (x : Local)
          (sees : Sees l ranges look own s x)
          (taken : IsTaken m l look own is has (own s.world.memory) a w)
        where
          -- the code before and behind what it takes of the registers
          abbrev first : Local
          first = left_by m l look own is has a (seen_over look w) x

          abbrev alone : Bytes
          alone = replaced l (left_alone l p) a.registers (seen_bytes l own s)

          alone_bytes : AreBytes alone
          alone_bytes =
              replaced_bytes l (left_alone l p) a.registers (seen_bytes l own s) taken.answer.registers sees.bytes

          mid_bytes : seen_bytes l own (mid a w) ≡ listing.with_result l p.gives a.word alone
          mid_bytes =
              ap (λ g. with_own l g (mid a w).local) taken.frame
              ∙ result_own l (own s.world.memory) set.registers p a s.local (given_registers p.gives call.gives)

          sees_after : (b : Bytes) (y : Local)
              → listing.with_result l p.gives a.word alone ≡ b
              → AreBytes b
              → y.world ≡ seen_over look w
              → Holds l ranges b y.env
              → Sees l ranges look own (mid a w) y
          sees_after b y after are world holds =
              let B : Bytes → Type 0 = λ c. AreBytes c in
              let H : Bytes → Type 0 = λ c. Holds l ranges c y.env in
              record {
                world = sym world;
                holds = subst H (sym (mid_bytes ∙ after)) holds;
                bytes = subst B (sym (mid_bytes ∙ after)) are;
                memory = taken.memory;
                answers = taken.answers;
              }

          -- without a result
          none_sees : (returns : List Stmt → Bool)
              → p.gives ≡ None
              → Sees l ranges look own (mid a w) (run_all l ws returns (extras l p ranges) first)
          none_sees returns none =
              let y : Local = run_all l ws returns (extras l p ranges) first in
              let r = extras_hold l p ws returns ranges (seen_bytes l own s) first (f.own s.at) set call taken.over
              sees.holds in
              let H : List Varnode → Type 0 =
              λ vs. Holds l ranges (replaced l vs a.registers (seen_bytes l own s)) y.env in
              sees_after alone y (ap (λ gives. listing.with_result l gives a.word alone) none) alone_bytes r.world
              (subst H (spared_alone l ranges set.table p (f.own s.at) call none) r.holds)

          -- with one
          some_sees : (returns : List Stmt → Bool) (k : ℕ) (z : Varnode)
              → p.gives ≡ Some z
              → IsGiven l ranges z
              → length ranges ≤ k
              → AreWide ws k (local_for (cover ranges z) z)
              → (let t = target ranges k z in
              Sees l ranges look own (mid a w)
              (run_all l ws returns (extras l p ranges ++ write_range (is_big l z.space) ranges z k)
              (assigned t (a.word % limit (ws t)) first)))
          some_sees returns k z gives given behind wide =
              let t = target ranges k z in
              let n = a.word % limit z.size in
              let parts = write_range (is_big l z.space) ranges z k in
              let ahead = λ (ss : List Stmt). returns (ss ++ parts) in
              let free = slice_get_past ranges k behind in
              let narrow = given.1.0 in
              let covers = given.1.1 in
              let width = target_wide l ranges ws k z (cover ranges z) set narrow covers wide in
              let below : n < limit z.size = mod-lt a.word (limit_pos z.size) in
              let y : Local = run_all l ws ahead (extras l p ranges) first in
              let r = extras_hold l p ws ahead ranges (seen_bytes l own s) first (f.own s.at) set call taken.over
              sees.holds in
              let on : y.world.over ≡ None = ap (λ (v : World Bytes). v.over) r.world ∙ taken.over in
              let bytes : Bytes = replaced l (spared l p) a.registers (seen_bytes l own s) in
              let wrote = write_wrote l ranges set.table ws returns z narrow.0 narrow.1 n below k bytes y covers free
              width r.holds on in
              let end : Local = run_all l ws returns parts (assigned t n y) in
              let ran : run_all l ws returns (extras l p ranges ++ parts) (assigned t (a.word % limit (ws t)) first)
              ≡ end =
              ap (λ j. run_all l ws returns (extras l p ranges ++ parts) (assigned t (a.word % limit j) first)) width
              ∙ run_append l ws returns (extras l p ranges) parts (assigned t n first)
              ∙ ap (run_all l ws returns parts)
              (extras_swap l p ws ahead ranges t n first taken.over
              (target_other l ranges set.table p (f.own s.at) call k z gives narrow.0 covers free)) in
              let over = result_over l (left_alone l p) (spared l p) a.registers z n (seen_bytes l own s) given.0
              (cover_inside l ranges z set.table narrow.0 covers)
              (spared_off l ranges set.table p (f.own s.at) call z gives) in
              let H : Bytes → Type 0 = λ b. Holds l ranges b end.env in
              let P : Local → Type 0 = λ u. Sees l ranges look own (mid a w) u in
              subst P (sym ran)
              (sees_after (with_word l z n alone) end (ap (λ g. listing.with_result l g a.word alone) gives)
              (bytes_written l z n alone alone_bytes) (wrote.world ∙ r.world) (subst H over wrote.holds))

      module _
          (make : Asking)
          (e : Event)
          (x : Local)
          (on : x.world.over ≡ None)
          (sees : Sees l ranges look own s x)
          (returns : List Stmt → Bool)
          (all : (ss : List Stmt) → returns ss ≡ true)
          (k : ℕ)
          (behind : length ranges ≤ k)
        where
          -- the state where the event is recorded
          abbrev called : Taken M → State M
          called t = listing.answered l p t (in_world (recorded e s.world) (moved next s))

          abbrev Answered : Taken M → Type 0
          Answered t = (v : Option ℕ) (q : ℕ → Bool)
              → ((c : ℕ) → q c ≡ true)
              → do_simple l ws q (make v) x
              ≡ code.answered ws v (taken_over look t) (code.in_world (recorded e x.world) x)

          -- the run ends before anything else
          stopped_meets : (w : World M) (v : Option ℕ) (rest : List Stmt)
              → IsStopped m l look own is has (own s.world.memory) w
              → Answered (Stops w)
              → Meets l ranges look own next (called (Stops w)) (run_all l ws returns (make v ∷ rest) x)
          stopped_meets w v rest stopped does =
              let y : Local = code.in_world (seen_over look w) x in
              let ran = run_one l ws returns (make v) rest x y on (does v (λ c. returns rest) (λ c. all rest))
              ∙ run_over l ws returns rest y stopped.end stopped.over in
              let P : Local → Type 0 = λ u. Meets l ranges look own next (called (Stops w)) u in
              subst P (sym ran) (stops_meets m l look own is has ranges s x sees next w stopped)

          -- what follows the call, before the pop
          taken_sees : (a : Answer) (w : World M) (gives : Option Varnode) (q : List Stmt → Bool)
              → p.gives ≡ gives
              → IsTaken m l look own is has (own s.world.memory) a w
              → Answered (Took a w)
              → ((ss : List Stmt) → q ss ≡ true)
              → AreWide ws k (gives_back l ranges k p gives make).locals
              → Sees l ranges look own (mid a w) (run_all l ws q (gives_back l ranges k p gives make).statements x)
          taken_sees a w None q gives so does every wide =
              let rest = extras l p ranges in
              let y : Local = left_by m l look own is has a (seen_over look w) x in
              let ran = run_one l ws q (make None) rest x y on (does None (λ c. q rest) (λ c. every rest)) in
              let P : Local → Type 0 = λ u. Sees l ranges look own (mid a w) u in
              subst P (sym ran) (none_sees a w x sees so q gives)
          taken_sees a w (Some z) q gives so does every wide =
              let t = target ranges k z in
              let rest = extras l p ranges ++ write_range (is_big l z.space) ranges z k in
              let y : Local = assigned t (a.word % limit (ws t)) (left_by m l look own is has a (seen_over look w) x) in
              let ran = run_one l ws q (make (Some t)) rest x y on (does (Some t) (λ c. q rest) (λ c. every rest)) in
              let P : Local → Type 0 = λ u. Sees l ranges look own (mid a w) u in
              let G : Option Varnode → Type 0 = λ g. IfSome g (IsGiven l ranges) in
              subst P (sym ran) (some_sees a w x sees so q k z gives (subst G gives call.gives) behind wide)

          taken_meets : (t : Taken M) (gives : Option Varnode)
              → p.gives ≡ gives
              → IsTakenSo m l look own is has (own s.world.memory) t
              → Answered t
              → AreWide ws k (answered l ranges k p gives make).locals
              → Meets l ranges look own next (called t)
              (run_all l ws returns (answered l ranges k p gives make).statements x)
          taken_meets (Stops w) None gives so does wide =
              stopped_meets w None (extras l p ranges ++ (pops l ranges (k + 0) p).statements) so does
          taken_meets (Stops w) (Some z) gives so does wide =
              let rest = extras l p ranges ++ write_range (is_big l z.space) ranges z k in
              let pop = pops l ranges (k + length (local_for (cover ranges z) z)) p in
              stopped_meets w (Some (target ranges k z)) (rest ++ pop.statements) so does
          taken_meets (Took a w) gives is_gives so does wide =
              let back = gives_back l ranges k p gives make in
              let j = k + length back.locals in
              let pop = pops l ranges j p in
              let q = λ (ss : List Stmt). returns (ss ++ pop.statements) in
              let y : Local = run_all l ws q back.statements x in
              let seen = taken_sees a w gives q is_gives so does (λ ss. all (ss ++ pop.statements))
              (wide_front ws k back.locals pop.locals wide) in
              let going : y.world.over ≡ None = ap (λ (v : World Bytes). v.over) (sym seen.world) ∙ so.over in
              let P : Local → Type 0 = λ u. Meets l ranges look own next (called (Took a w)) u in
              subst P (sym (run_append l ws returns back.statements pop.statements x))
              (pops_meet m l look own ranges ws is has set next (mid a w).local w returns j (omega (arith, behind)) y
              going seen p call.stack (wide_back ws k back.locals pop.locals wide))

          -- A call that returns.
          pub call_meets : Records l ws make e x
              → AreWide ws k (answered l ranges k p p.gives make).locals
              → Meets l ranges look own next (called (taken_after e))
              (run_all l ws returns (answered l ranges k p p.gives make).statements x)
          call_meets records wide =
              taken_meets (taken_after e) p.gives refl (taken_so e x sees)
              (λ v q every. answers_so make e x v q sees records every) wide
