-- The run of the lowered code shows what the run of the listing shows, place by place.
use Rattle.std.proofs.Common.{◌≡◌, ℕ, zero, suc, ◌+◌, ◌<◌, ◌≤◌, Bool, true, false, List, [], ◌∷◌, ◌++◌, length, drop, Option, Some, None, refl, sym, ap, ◌∙◌, subst, append-nil, append_assoc, arith, ◌⊎◌, inl, inr}
use Rattle.std.specs.Prelude.{◌==◌, cond, slice_get}
use Rattle.machine.specs.Trace.{End}
use Rattle.machine.specs.Machine.{after, seen, GoesRanked, RankedSimulates}
use Rattle.machine.specs.TwoWay.{TwoWay}
use Rattle.machine.proofs.Machine.{after_more}
use Rattle.machine.proofs.Ranked.{two_way_ranked}
use Rattle.pcode_model.specs.declared.listing.Varnode.{Varnode}
use Rattle.pcode_model.specs.declared.listing.Instruction.{Instruction}
use Rattle.pcode_model.specs.declared.listing.Op.{Op}
use Rattle.pcode_model.specs.declared.listing.Place.{Place}
use Rattle.pcode_model.specs.declared.listing.Proto.{Proto}
use Rattle.pcode_model.specs.declared.listing.Listing.{Listing}
use Rattle.pcode_model.specs.declared.opcode.Opcode.{Opcode}
use Rattle.pcode_model.specs.declared.opcode.Opcode.TheVariants as O
use Rattle.pcode_model.specs.declared.flow.Turn.{Turn}
use Rattle.pcode_model.specs.declared.flow.Turn.TheVariants.{GoesOn, Returns, Stops, Branches, Tests, Switches}
use Rattle.pcode_model.specs.declared.tables.TableAt.{TableAt}
use Rattle.pcode_model.specs.declared.flow.Exit as flow_exit
use Rattle.pcode_model.specs.declared.flow.Exit.TheVariants as F
use Rattle.pcode_model.specs.declared.flow.Block as flow_block
use Rattle.pcode_model.specs.Places.{Standing, Nothing, Passes, Does, next_instruction, standing}
use Rattle.pcode_model.specs.Memory.{Acts, Frame, Bytes}
use Rattle.pcode_model.specs.World.{shown, unless_over}
use Rattle.pcode_model.specs.Step.{State, callee_at, machine, proto_of, returns, step, step_at, varnode_at}
use Rattle.pcode_model.specs.Flow.{IsIn, IsFlow, JumpsTo, LeavesBy, Reached, RunsBlock, call_turn, turn_in, turn_of, AllRun, starts_of, places_of, first_in}
use Rattle.pcode_laws.specs.AsBytes.{AsBytes}
use Rattle.range_words.specs.Own.{HasOwn}
use Rattle.pcode_laws.proofs.Grows.{pcode_grows}
use Rattle.cmeaning.specs.declared.tree.Expr.{Expr}
use Rattle.cmeaning.specs.declared.tree.Stmt.{Stmt}
use Rattle.cmeaning.specs.declared.tree.Stmt.TheVariants as S
use Rattle.cmeaning.specs.Do.{Local}
use Rattle.blockcode.specs.declared.code.Exit.{Exit}
use Rattle.blockcode.specs.declared.code.Exit.TheVariants as X
use Rattle.blockcode.specs.declared.code.Block.{Block}
use Rattle.blockcode.specs.declared.code.Code.{Code}
use Rattle.blockcode.specs.Run.{CodeState, call_returns, widths, leave, code_step, code_machine}
use Rattle.blockcode.proofs.Grows.{code_grows}
use Rattle.blockcode.proofs.Straight.{step_in, still, Stands, arrives, returns_in}
use Rattle.op_code.proofs.Sees.{AreWide, Sees, Setting, wide_back, wide_front}
use Rattle.op_code.specs.Form.{IsPlainOp}
use Rattle.op_code.specs.Made.{Own, ReadOne, call_made, op_made, passed}
use Rattle.op_code.specs.Lowered.{block_made, blocks_made, condition_in, directly, made_in, place_made, places_made, result, tests, way_out}
use Rattle.op_code.specs.Lowerable.{IsPlain}
use Rattle.plain_laws.proofs.Exits.{Left, Leaving, goes_to, jump_returns, leaves}
use Rattle.pcode_model.proofs.Members.{in_front, behind}

-- ---- blocks of the flow

module _ (l : Listing) (t : List TableAt) (starts : List Place) where
  -- the block that begins at a place
  pub record Begins (blocks : List flow_block.Block) (n : ℕ) (p : Place) : Type 0 where
    pub block : flow_block.Block
    pub others : List Place
    pub get : slice_get blocks n ≡ Some block
    pub places : block.places ≡ p ∷ others
    pub runs : RunsBlock l t starts (p ∷ others) block.exit

  begins_first : (b : flow_block.Block) (blocks : List flow_block.Block) (ps : List Place) (p : Place)
      → b.places ≡ ps
      → RunsBlock l t starts ps b.exit
      → slice_get (first_in ps ++ starts_of blocks) 0 ≡ Some p
      → Begins (b ∷ blocks) 0 p
  begins_first b blocks [] p is runs e = absurd runs
  begins_first b blocks (q ∷ others) p is runs e =
      let same : q ≡ p = cc in
      let P : Place → Type 0 = λ x. b.places ≡ x ∷ others in
      let Q : Place → Type 0 = λ x. RunsBlock l t starts (x ∷ others) b.exit in
      record { block = b; others = others; get = refl; places = subst P same is; runs = subst Q same runs }

  begins_later : (b : flow_block.Block) (blocks : List flow_block.Block) (ps : List Place) (n : ℕ) (p : Place)
      → RunsBlock l t starts ps b.exit
      → slice_get (first_in ps ++ starts_of blocks) (suc n) ≡ Some p
      → slice_get (starts_of blocks) n ≡ Some p
  begins_later b blocks [] n p runs e = absurd runs
  begins_later b blocks (q ∷ others) n p runs e = e

  pub begins : (blocks : List flow_block.Block)
      → AllRun l t starts blocks
      → (n : ℕ) (p : Place)
      → slice_get (starts_of blocks) n ≡ Some p
      → Begins blocks n p
  begins [] all n p e = absurd (cc)
  begins (b ∷ blocks) all zero p e =
      let P : List Place → Type 0 = λ ps. slice_get (first_in ps ++ starts_of blocks) 0 ≡ Some p in
      begins_first b blocks b.places p refl all.0 e
  begins (b ∷ blocks) all (suc n) p e =
      let next = begins blocks all.1 n p (begins_later b blocks b.places n p all.0 e) in
      record { block = next.block; others = next.others; get = next.get; places = next.places; runs = next.runs }

-- a block's places are among those of all blocks
pub in_block : (blocks : List flow_block.Block) (n : ℕ) (b : flow_block.Block) (p : Place)
    → slice_get blocks n ≡ Some b
    → IsIn p b.places
    → IsIn p (places_of blocks)
in_block [] n b p e h = absurd (cc)
in_block (x ∷ blocks) zero b p e h =
    let same : b ≡ x = cc in
    let P : flow_block.Block → Type 0 = λ y. IsIn p y.places in
    in_front x.places (places_of blocks) p (subst P same h)
in_block (x ∷ blocks) (suc n) b p e h = behind x.places (places_of blocks) p (in_block blocks n b p e h)

-- The block of code of a number, and the number from which its locals count.
record MadeAt (l : Listing) (owns : Place → Own) (ranges : List Varnode) (ws : ℕ → ℕ) (first : ℕ) (blocks : List Block)
    (b : flow_block.Block) (n : ℕ) : Type 0 where
  next : ℕ
  later : first ≤ next
  get : slice_get blocks n ≡ Some (block_made l owns ranges next b).block
  wide : AreWide ws next (block_made l owns ranges next b).locals

made_at : (l : Listing) (owns : Place → Own) (ranges : List Varnode) (ws : ℕ → ℕ) (blocks : List flow_block.Block)
    (first n : ℕ) (b : flow_block.Block)
    → slice_get blocks n ≡ Some b
    → AreWide ws first (blocks_made l owns ranges first blocks).locals
    → MadeAt l owns ranges ws first (blocks_made l owns ranges first blocks).blocks b n
made_at l owns ranges ws [] first n b e wide = absurd (cc)
made_at l owns ranges ws (x ∷ blocks) first zero b e wide =
    let same : x ≡ b = cc in
    let locals = (block_made l owns ranges first x).locals in
    let rest = (blocks_made l owns ranges (first + length locals) blocks).locals in
    let P : flow_block.Block → Type 0 = λ y. AreWide ws first (block_made l owns ranges first y).locals in
    record {
      next = first;
      later = omega arith;
      get = ap (λ y. Some (block_made l owns ranges first y).block) same;
      wide = subst P same (wide_front ws first locals rest wide);
    }
made_at l owns ranges ws (x ∷ blocks) first (suc n) b e wide =
    let locals = (block_made l owns ranges first x).locals in
    let rest = (blocks_made l owns ranges (first + length locals) blocks).locals in
    let r = made_at l owns ranges ws blocks (first + length locals) n b e (wide_back ws first locals rest wide) in
    record { next = r.next; later = omega (arith, r.later); get = r.get; wide = r.wide }

-- ---- calls

-- In front of a statement, or of another exit than Stop, a call returns.
some_returns : (zs : List Stmt) (e : Exit) → (zs ≡ [] → ⊥) → call_returns zs e ≡ true
some_returns [] e some = absurd (some refl)
some_returns (a ∷ zs) e some = refl

-- It isn't the last thing of its block.
abbrev GoesBehind : List Stmt → Exit → Type 0
GoesBehind body e = (ss : List Stmt) → call_returns (ss ++ body) e ≡ true

in_it : (xs ys : List Stmt) (a : Stmt) (ss : List Stmt) → ss ++ (xs ++ a ∷ ys) ≡ [] → ⊥
in_it [] ys a [] e = absurd (cc)
in_it (x ∷ xs) ys a [] e = absurd (cc)
in_it xs ys a (s ∷ ss) e = absurd (cc)

return_behind : (o : Option Expr) (zs : List Stmt) → call_returns zs (X.Return o) ≡ true
return_behind o [] = refl
return_behind o (a ∷ zs) = refl

test_behind : (c : ReadOne) (m n : ℕ) (same : Bool) (zs : List Stmt)
    → call_returns zs (cond same (directly (X.Jump m)) (tests c m n)).exit ≡ true
test_behind c m n true [] = refl
test_behind c m n true (a ∷ zs) = refl
test_behind c m n false [] = refl
test_behind c m n false (a ∷ zs) = refl

module _ (l : Listing) (owns : Place → Own) (ranges : List Varnode) where
  switches_none : (own : Own) (code : Opcode) (out : Option Varnode) (vs : List Varnode)
      → IsPlainOp l own ranges code out vs
      → turn_of l code vs ≡ Switches
      → ⊥
  switches_none own O.BranchInd out vs h turn = absurd h
  switches_none own O.Call out vs h turn = by (returns (callee_at l (varnode_at vs 0).offset)) turn
    where
      by : (b : Bool) → call_turn b ≡ Switches → ⊥
      by true e = absurd (cc)
      by false e = absurd (cc)
  switches_none own code out vs h turn = absurd (cc)

  -- a call of a callee that never returns is a statement
  call_some : (own : Own) (b : Bool) (next address : ℕ) (p : Proto) (way : List Stmt) (ss : List Stmt)
      → call_turn b ≡ Stops
      → ss ++ ((call_made b l own ranges next address p).statements ++ way) ≡ []
      → ⊥
  call_some own true next address p way ss turn e = absurd (cc)
  call_some own false next address p way ss turn e =
      let r = passed l own ranges next p in
      in_it r.loads way (S.Call None address r.words) ss
      (ap (λ zs. ss ++ zs) (sym (append_assoc r.loads (S.Call None address r.words ∷ []) way)) ∙ e)

  stops_some : (own : Own) (next : ℕ) (code : Opcode) (out : Option Varnode) (vs : List Varnode)
      (way ss : List Stmt)
      → IsPlainOp l own ranges code out vs
      → turn_of l code vs ≡ Stops
      → ss ++ ((op_made l own ranges next code out vs).statements ++ way) ≡ []
      → ⊥
  stops_some own next O.Call out vs way ss h turn e =
      let a = (varnode_at vs 0).offset in
      call_some own (returns (callee_at l a)) next a (proto_of l (callee_at l a)) way ss turn e
  stops_some own next O.BranchInd out vs way ss h turn e = absurd h
  stops_some own next code out vs way ss h turn e = absurd (cc)

  -- what stands for the last place
  last_by : (t : List TableAt) (starts : List Place) (p : Place) (next k : ℕ) (i : Instruction) (op : Op) (turn : Turn)
      (e : flow_exit.Exit)
      → IsPlainOp l (owns p) ranges op.code op.out op.inputs
      → turn_of l op.code op.inputs ≡ turn
      → LeavesBy t starts p (Does i op) turn e
      → (let way = way_out l ranges k (Does i op) e in
      GoesBehind ((op_made l (owns p) ranges next op.code op.out op.inputs).statements ++ way.loads) way.exit)
  last_by t starts p next k i op turn F.Return h is by ss = return_behind (result l ranges) (ss ++ _)
  last_by t starts p next k i op turn (F.Jump n) h is by ss = jump_returns n (ss ++ _)
  last_by t starts p next k i op turn (F.Test m n) h is by ss =
      test_behind (condition_in l ranges k (Does i op)) m n (m == n) (ss ++ _)
  last_by t starts p next k i op Switches (F.Switch table ns) h is by ss =
      absurd (switches_none (owns p) op.code op.out op.inputs h is)
  last_by t starts p next k i op GoesOn (F.Switch table ns) h is by ss = absurd by
  last_by t starts p next k i op Returns (F.Switch table ns) h is by ss = absurd (cc)
  last_by t starts p next k i op Stops (F.Switch table ns) h is by ss = absurd (cc)
  last_by t starts p next k i op (Branches to) (F.Switch table ns) h is by ss = absurd by
  last_by t starts p next k i op (Tests to) (F.Switch table ns) h is by ss = absurd by
  last_by t starts p next k i op Switches F.Stop h is by ss =
      absurd (switches_none (owns p) op.code op.out op.inputs h is)
  last_by t starts p next k i op GoesOn F.Stop h is by ss = absurd by
  last_by t starts p next k i op Returns F.Stop h is by ss = absurd (cc)
  last_by t starts p next k i op Stops F.Stop h is by ss =
      some_returns (ss ++ ((op_made l (owns p) ranges next op.code op.out op.inputs).statements ++ [])) X.Stop
      (stops_some (owns p) next op.code op.out op.inputs [] ss h is)
  last_by t starts p next k i op (Branches to) F.Stop h is by ss = absurd by
  last_by t starts p next k i op (Tests to) F.Stop h is by ss = absurd by

  passes_by : (to : Option Place) (starts : List Place) (k : ℕ) (i : Instruction) (e : flow_exit.Exit)
      → JumpsTo starts to e
      → (let way = way_out l ranges k (Passes i) e in GoesBehind ([] ++ way.loads) way.exit)
  passes_by to starts k i F.Return jump ss = absurd jump
  passes_by to starts k i (F.Jump n) jump ss = jump_returns n (ss ++ [])
  passes_by to starts k i (F.Test m n) jump ss = absurd jump
  passes_by to starts k i (F.Switch table ns) jump ss = absurd jump
  passes_by to starts k i F.Stop jump ss = absurd jump

  last_behind : (t : List TableAt) (starts : List Place) (p : Place) (next k : ℕ) (here : Standing)
      (e : flow_exit.Exit)
      → IsPlain l (owns p) ranges here
      → LeavesBy t starts p here (turn_in l here) e
      → (let way = way_out l ranges k here e in
      GoesBehind ((made_in l (owns p) ranges next here).statements ++ way.loads) way.exit)
  last_behind t starts p next k Nothing e h by = absurd h
  last_behind t starts p next k (Passes i) e h by = passes_by (Some (next_instruction i)) starts k i e by
  last_behind t starts p next k (Does i op) e h by =
      last_by t starts p next k i op (turn_of l op.code op.inputs) e h refl by

  -- In front of further places of its block a call returns.
  places_behind : (t : List TableAt) (starts : List Place) (next : ℕ) (q : Place) (others : List Place)
      (e : flow_exit.Exit)
      → RunsBlock l t starts (q ∷ others) e
      → ((p : Place) → IsIn p (q ∷ others) → IsPlain l (owns p) ranges (standing l p))
      → (let made = places_made l owns ranges next (q ∷ others) e in GoesBehind made.block.body made.block.exit)
  places_behind t starts next q [] e runs plain ss =
      let k = next + length (place_made l owns ranges next q).locals in
      last_behind t starts q next k (standing l q) e (plain q (inl refl)) runs ss
  places_behind t starts next q (r ∷ others) e runs plain ss =
      let here = place_made l owns ranges next q in
      let rest = places_made l owns ranges (next + length here.locals) (r ∷ others) e in
      ap (λ zs. call_returns zs rest.block.exit) (sym (append_assoc ss here.statements rest.block.body))
      ∙ places_behind t starts (next + length here.locals) r others e runs.1 (λ p is. plain p (inr is))
      (ss ++ here.statements)

-- ---- what is related

-- what is given: the flow, the variables, what stands at the reached places, and the code
pub record Given (l : Listing) (t : List TableAt) (f : Frame) (blocks : List flow_block.Block) (ranges : List Varnode)
    (k : Code) : Type 0 where
  pub first : ℕ
  pub flow : IsFlow l t blocks
  pub setting : Setting l ranges (widths k.variables)
  pub plain : (p : Place) → Reached l t p → IsPlain l (f.own p) ranges (standing l p)
  pub blocks_are : k.blocks ≡ (blocks_made l f.own ranges first blocks).blocks
  pub free : length ranges ≤ first
  pub wide : AreWide (widths k.variables) first (blocks_made l f.own ranges first blocks).locals

module _
    {M : Type 0}
    (m : Acts M)
    (l : Listing)
    (f : Frame)
    (t : List TableAt)
    (blocks : List flow_block.Block)
    (ranges : List Varnode)
    (k : Code)
    (look : M → Bytes)
    (own : M → ℕ → ℕ)
    (is : AsBytes m l look)
    (has : HasOwn m l look own)
    (given : Given l t f blocks ranges k)
  where
    -- the code stands where the statements of a place begin; n places follow in the block
    record At (n : ℕ) (p : Place) (u : CodeState) : Type 0 where
      block : Block
      others : List Place
      exit : flow_exit.Exit
      next : ℕ
      free : length ranges ≤ next
      wide : AreWide (widths k.variables) next (places_made l f.own ranges next (p ∷ others) exit).locals
      runs : RunsBlock l t (starts_of blocks) (p ∷ others) exit
      plain : (q : Place) → IsIn q (p ∷ others) → IsPlain l (f.own q) ranges (standing l q)
      here : Stands k block (places_made l f.own ranges next (p ∷ others) exit).block.body u
      exit_is : block.exit ≡ (places_made l f.own ranges next (p ∷ others) exit).block.exit
      rank : n ≡ length others

    record Related (n : ℕ) (s : State M) (u : CodeState) : Type 0 where
      sees : Sees l ranges look own s u.local
      at : s.world.over ≡ None → At n s.at u

    -- at the beginning of a block
    enters_at : (p : Place) (u : CodeState) (b : Begins l t (starts_of blocks) blocks u.block p)
        → u.position ≡ 0
        → At (length b.others) p u
    enters_at p u b begin =
        let ws = widths k.variables in
        let made = made_at l f.own ranges ws blocks given.first u.block b.block b.get given.wide in
        let c : Block = (block_made l f.own ranges made.next b.block).block in
        let got : slice_get k.blocks u.block ≡ Some c = ap (λ bs. slice_get bs u.block) given.blocks_are ∙ made.get in
        let P : List Place → Type 0 =
        λ ps. AreWide ws made.next (places_made l f.own ranges made.next ps b.block.exit).locals in
        record {
          block = c;
          others = b.others;
          exit = b.block.exit;
          next = made.next;
          free = omega (arith, given.free, made.later);
          wide = subst P b.places made.wide;
          runs = b.runs;
          plain = λ q h. given.plain q ((given.flow.each q).0
              (in_block blocks u.block b.block q b.get
              (let P : List Place → Type 0 = λ ps. IsIn q ps in subst P (sym b.places) h)));
          here = record {
            block = got;
            left = λ g. ap (λ z. drop z c.body) begin
                ∙ ap (λ ps. (places_made l f.own ranges made.next ps b.block.exit).block.body) b.places;
          };
          exit_is = ap (λ ps. (places_made l f.own ranges made.next ps b.block.exit).block.exit) b.places;
          rank = refl;
        }

    -- ---- steps

    abbrev Went : ℕ → State M → CodeState → Type 0
    Went n s u = GoesRanked (machine m l f) (code_machine l k) Related n s u

    goes_on : (n : ℕ) (s s' : State M) (u u' : CodeState) (j r : ℕ)
        → step m l f s ≡ s'
        → after (code_step l k) j u ≡ u'
        → (0 < j) ⊎ (r < n)
        → Related r s' u'
        → Went n s u
    goes_on n s s' u u' j r e g less rel =
        let P : State _ → Type 0 = λ x. Related r x (after (code_step l k) j u) in
        let Q : CodeState → Type 0 = λ x. Related r s' x in
        inr (0, (j, (r, (less, subst P (sym e) (subst Q (sym g) rel)))))

    stepped : (s : State M) → s.world.over ≡ None → step m l f s ≡ step_at m l f (standing l s.at) s
    stepped s e = ap (λ o. unless_over o s (step_at m l f (standing l s.at) s)) e

    going : (s : State M) (x : Local) → Sees l ranges look own s x → x.world.over ≡ s.world.over
    going s x sees = ap (λ w. w.over) (sym sees.world)

    -- to the next place of the block
    next_goes : (n next : ℕ) (s : State M) (u : CodeState) (b : Block) (q : Place) (others : List Place)
        (exit : flow_exit.Exit)
        → s.world.over ≡ None
        → Sees l ranges look own s u.local
        → length ranges ≤ next
        → AreWide (widths k.variables) next (places_made l f.own ranges next (s.at ∷ q ∷ others) exit).locals
        → RunsBlock l t (starts_of blocks) (s.at ∷ q ∷ others) exit
        → ((p : Place) → IsIn p (s.at ∷ q ∷ others) → IsPlain l (f.own p) ranges (standing l p))
        → Stands k b (places_made l f.own ranges next (s.at ∷ q ∷ others) exit).block.body u
        → b.exit ≡ (places_made l f.own ranges next (s.at ∷ q ∷ others) exit).block.exit
        → n ≡ length (q ∷ others)
        → Went n s u
    next_goes n next s u b q others exit go sees free wide runs plain here exit_is rank =
        let ws = widths k.variables in
        let made = place_made l f.own ranges next s.at in
        let ss = made.statements in
        let next' = next + length made.locals in
        let rest = places_made l f.own ranges next' (q ∷ others) exit in
        let s' : State _ = step_at m l f (standing l s.at) s in
        let u' : CodeState = after (code_step l k) (length ss) u in
        let there = arrives l k b rest.block.body ss u here in
        let met = goes_to m l f look own ranges ws (returns_in b rest.block.body) is has given.setting
        (starts_of blocks) (standing l s.at) q s u.local next (plain s.at (inl refl)) runs.0.goes_on runs.0.next go
        sees free (wide_front ws next made.locals rest.locals wide)
        (λ zs. ap (call_returns (zs ++ rest.block.body)) exit_is
        ∙ places_behind l f.own ranges t (starts_of blocks) next' q others exit runs.1 (λ p h. plain p (inr h)) zs) in
        let P : Local → Type 0 = λ x. Sees l ranges look own s' x in
        let sees' : Sees l ranges look own s' u'.local = subst P (sym there.local) met.sees in
        let rel : Related (length others) s' u' = record {
          sees = sees';
          at = λ g. let Q : Place → Type 0 = λ p. At (length others) p u' in subst Q (sym (met.at g)) (record {
            block = b;
            others = others;
            exit = exit;
            next = next';
            free = omega (arith, free);
            wide = wide_back ws next made.locals rest.locals wide;
            runs = runs.1;
            plain = λ p h. plain p (inr h);
            here = there.here;
            exit_is = exit_is;
            rank = refl;
          });
        } in
        goes_on n s s' u u' (length ss) (length others) (stepped s go) refl (inr (omega (arith, rank))) rel

    -- after the block
    relates : (s : State M) (u : CodeState) (o : Option End)
        → s.world.over ≡ o
        → Left l ranges look own (starts_of blocks) s u
        → (n : ℕ) × Related n s u
    relates s u None e left =
        let there = left.at e in
        let b = begins l t (starts_of blocks) blocks given.flow.run u.block s.at there.1 in
        (length b.others, record { sees = left.sees; at = λ g. enters_at s.at u b there.0 })
    relates s u (Some h) e left = (0, record { sees = left.sees; at = λ g. absurd (cc) })

    -- out of the block
    last_goes : (n next : ℕ) (s : State M) (u : CodeState) (b : Block) (exit : flow_exit.Exit)
        → s.world.over ≡ None
        → Sees l ranges look own s u.local
        → length ranges ≤ next
        → AreWide (widths k.variables) next (places_made l f.own ranges next (s.at ∷ []) exit).locals
        → RunsBlock l t (starts_of blocks) (s.at ∷ []) exit
        → IsPlain l (f.own s.at) ranges (standing l s.at)
        → Stands k b ((places_made l f.own ranges next (s.at ∷ []) exit).block.body ++ []) u
        → b.exit ≡ (places_made l f.own ranges next (s.at ∷ []) exit).block.exit
        → Went n s u
    last_goes n next s u b exit go sees free wide runs plain here exit_is =
        let ws = widths k.variables in
        let made = place_made l f.own ranges next s.at in
        let next' = next + length made.locals in
        let way = way_out l ranges next' (standing l s.at) exit in
        let ss = made.statements ++ way.loads in
        let s' : State _ = step_at m l f (standing l s.at) s in
        let u1 : CodeState = after (code_step l k) (length ss) u in
        let u' : CodeState = code_step l k u1 in
        let there = arrives l k b [] ss u here in
        let leaving : Leaving ws way.exit u1 u' = record {
          on = λ g. step_in l k u1 b [] g there.here.block (there.here.left g) ∙ ap (λ e. leave ws e u1) exit_is;
          off = λ h g. still l k u1 h g;
        } in
        let left = leaves m l f look own ranges ws (returns_in b []) is has given.setting (starts_of blocks) t
        (standing l s.at) exit s u.local u1 u' next next' plain runs go sees free (omega (arith, free))
        (wide_front ws next made.locals way.locals wide) (wide_back ws next made.locals way.locals wide)
        (λ zs. ap (λ xs. call_returns xs b.exit) (append-nil zs) ∙ ap (call_returns zs) exit_is) there.local leaving in
        let rel = relates s' u' s'.world.over refl left in
        goes_on n s s' u u' (length ss + 1) rel.0 (stepped s go) (sym (after_more (code_step l k) u (length ss) 1))
        (inl (omega arith)) rel.1

    by_places : (n next : ℕ) (s : State M) (u : CodeState) (b : Block) (others : List Place) (exit : flow_exit.Exit)
        → s.world.over ≡ None
        → Sees l ranges look own s u.local
        → length ranges ≤ next
        → AreWide (widths k.variables) next (places_made l f.own ranges next (s.at ∷ others) exit).locals
        → RunsBlock l t (starts_of blocks) (s.at ∷ others) exit
        → ((p : Place) → IsIn p (s.at ∷ others) → IsPlain l (f.own p) ranges (standing l p))
        → Stands k b (places_made l f.own ranges next (s.at ∷ others) exit).block.body u
        → b.exit ≡ (places_made l f.own ranges next (s.at ∷ others) exit).block.exit
        → n ≡ length others
        → Went n s u
    by_places n next s u b [] exit go sees free wide runs plain here exit_is rank =
        let body = (places_made l f.own ranges next (s.at ∷ []) exit).block.body in
        let P : List _ → Type 0 = λ xs. Stands k b xs u in
        last_goes n next s u b exit go sees free wide runs (plain s.at (inl refl))
        (subst P (sym (append-nil body)) here)
        exit_is
    by_places n next s u b (q ∷ others) exit go sees free wide runs plain here exit_is rank =
        next_goes n next s u b q others exit go sees free wide runs plain here exit_is rank

    goes_by : (n : ℕ) (s : State M) (u : CodeState) (o : Option End) → s.world.over ≡ o → Related n s u → Went n s u
    goes_by n s u None go rel =
        let a = rel.at go in
        by_places n a.next s u a.block a.others a.exit go rel.sees a.free a.wide a.runs a.plain a.here a.exit_is a.rank
    goes_by n s u (Some h) go rel =
        inl (
          ap (λ o. unless_over o s (step_at m l f (standing l s.at) s)) go,
          still l k u h
              (going s u.local rel.sees ∙ go),
        )

    simulates : RankedSimulates (machine m l f) (code_machine l k) Related
    simulates = record {
      same = λ n s u rel. ap shown rel.sees.world;
      goes = λ n s u rel. goes_by n s u s.world.over refl rel;
    }

    -- The two runs show the same from where they see the same and the code stands where the place's block begins.
    pub follows : (s : State M) (u : CodeState)
        → Left l ranges look own (starts_of blocks) s u
        → TwoWay (seen (machine m l f) s) (seen (code_machine l k) u)
    follows s u left =
        let rel = relates s u s.world.over refl left in
        two_way_ranked (machine m l f) (code_machine l k) Related (pcode_grows m l f) (code_grows l k) simulates
        rel.0 s u rel.1
