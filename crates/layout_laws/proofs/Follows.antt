-- A statement and a goto of the laid-out body do what the code does.
use Rattle.std.proofs.Common.{◌≡◌, ◌≢◌, ℕ, zero, suc, ◌+◌, ◌-◌, ◌<◌, Bool, true, false, List, [], ◌∷◌, ◌++◌, length, drop, refl, sym, ap, ◌∙◌, subst, Option, Some, None, arith, ◌⊎◌, inl, inr, ⊎_elim}
use Rattle.std.specs.Prelude.{◌==◌, cond, slice_get}
use Rattle.std.proofs.lemmas.Bool.Decides.{nat_tests}
use Rattle.machine.specs.Trace.{End, BadTarget, NoReturn, Undefined}
use Rattle.machine.specs.TwoWay.{NeverEnds}
use Rattle.machine.specs.Machine.{Machine, after, seen, GoesRanked}
use Rattle.pcode_model.specs.declared.listing.Listing.{Listing}
use Rattle.pcode_model.specs.World.{recorded, unless_over}
use Rattle.machine.specs.Trace.{Call}
use Rattle.cmeaning.specs.declared.tree.Arm.{Arm as CArm}
use Rattle.cmeaning.specs.declared.tree.Stmt.{Stmt, out-Stmt}
use Rattle.cmeaning.specs.declared.tree.Stmt.TheOpen.{Stmt-F}
use Rattle.cmeaning.specs.declared.tree.Stmt.TheVariants as S
use Rattle.cmeaning.specs.Do.{Local, callee_in, callee_of, called, do_layer, do_simple, in_world, values_of, with_words}
use Rattle.cmeaning.specs.Flat.{Flat, Do, Jump, piece_of}
use Rattle.cmeaning.specs.Step.{CState, carry_out}
use Rattle.cmeaning.proofs.Do.{do_by_callee}
use Rattle.cmeaning.proofs.Flat.{piece_of_goto}
use Rattle.blockcode.specs.declared.code.Arm.{Arm}
use Rattle.blockcode.specs.declared.code.Exit.{Exit}
use Rattle.blockcode.specs.declared.code.Exit.TheVariants as X
use Rattle.blockcode.specs.declared.code.Block.{Block}
use Rattle.blockcode.specs.declared.code.Code.{Code}
use Rattle.blockcode.specs.Run.{CodeState, widths, call_returns, enters, code_step, code_machine}
use Rattle.blockcode.specs.CanLay.{AreSimple, CanLeave, has_switch}
use Rattle.blockcode.specs.Laid.{goto, exit_lines, laid_from}
use Rattle.blockcode.proofs.Straight.{dropped, get_of_drop, rest_of_drop, step_in}
use Rattle.naming.specs.Run.{flat_machine}
use Rattle.layout_laws.proofs.Pieces.{steps_of}
use Rattle.layout_laws.proofs.Positions.{label_steps}

-- ---- where lines stand

-- Flat code, with what its lines were made by: whether callees return, which blocks have a label, where each label leads,
-- and the position behind the innermost loop.
pub record Lines : Type 0 where
  pub returns : ℕ → Bool
  pub named : ℕ → Bool
  pub place : ℕ → ℕ
  pub out : ℕ
  pub flat : List Flat

module _ (k : Code) (g : Lines) where
  -- the flat code of lines from a position on
  abbrev pub flat_from : List Stmt → ℕ → List Flat
  flat_from ss p = steps_of g.returns g.place g.out ss p

  -- from the position p on stand the lines of the blocks from a number on
  abbrev pub StandsFrom : ℕ → ℕ → Type 0
  StandsFrom b p = drop p g.flat ≡ flat_from (laid_from g.named b (drop b k.blocks)) p

  -- there is a block of the number, and its label leads to its lines
  abbrev pub Leads : ℕ → Type 0
  Leads to = (to < length k.blocks) × StandsFrom to (g.place to)

  -- there is a block of the number, which is the next one or has a label
  abbrev pub JumpLeads : ℕ → ℕ → Type 0
  JumpLeads next to = (to < length k.blocks) × ((to ≢ next) → StandsFrom to (g.place to))

  abbrev pub ArmsLead : List Arm → Type 0
  ArmsLead [] = Unit {0}
  ArmsLead (a ∷ rest) = Leads a.to × ArmsLead rest

  abbrev pub IsLaid : ℕ → Exit → Type 0
  IsLaid next (X.Return e) = Unit {0}
  IsLaid next (X.Jump to) = JumpLeads next to
  IsLaid next (X.Test c taken other) = Leads taken × JumpLeads next other
  IsLaid next (X.Switch e arms) = ArmsLead arms
  IsLaid next X.Stop = Unit {0}

  -- what is given of each block
  pub record Given : Type 0 where
    pub simple : (n : ℕ) (x : Block) → slice_get k.blocks n ≡ Some x → AreSimple g.returns x.body x.exit
    pub leaves : (n : ℕ) (x : Block) → slice_get k.blocks n ≡ Some x → CanLeave x.body x.exit
    pub exits : (n : ℕ) (x : Block) → slice_get k.blocks n ≡ Some x → IsLaid (suc n) x.exit

  -- the lines behind some statements of a block
  abbrev pub behind : ℕ → Block → List Stmt
  behind n x = exit_lines (suc n) x.exit ++ laid_from g.named (suc n) (drop (suc n) k.blocks)

  -- ---- what is related

  -- the body's run stands at the lines of the block that the code's run has still to do; n blocks follow
  pub record At (n : ℕ) (u : CodeState) (c : CState) : Type 0 where
    pub block : Block
    pub get : slice_get k.blocks u.block ≡ Some block
    pub simple : AreSimple g.returns (drop u.position block.body) block.exit
    pub leaves : CanLeave (drop u.position block.body) block.exit
    pub left : drop c.position g.flat ≡ flat_from (drop u.position block.body ++ behind u.block block) c.position
    pub rank : n + u.block ≡ length k.blocks

  pub record Meets (n : ℕ) (u : CodeState) (c : CState) : Type 0 where
    pub local : u.local ≡ c.local
    pub at : u.local.world.over ≡ None → At n u c

some_block : (xs : List Block) (n : ℕ) → n < length xs → (x : Block) × (slice_get xs n ≡ Some x)
some_block [] n lt = absurd (omega arith)
some_block (x ∷ xs) zero lt = (x, refl)
some_block (x ∷ xs) (suc n) lt = some_block xs n (omega (arith, lt))

-- at the beginning of a block
enters_at : (k : Code) (g : Lines) (given : Given k g) (u : CodeState) (c : CState)
    → u.position ≡ 0
    → u.block < length k.blocks
    → StandsFrom k g u.block c.position
    → At k g (length k.blocks - u.block) u c
enters_at k g given u c begin lt stands =
    let b = some_block k.blocks u.block lt in
    let rest = behind k g u.block b.0 in
    let whole : (b.0).body ≡ drop u.position (b.0).body = ap (λ z. drop z (b.0).body) (sym begin) in
    let P : List Stmt → Type 0 = λ ss. AreSimple g.returns ss (b.0).exit in
    let Q : List Stmt → Type 0 = λ ss. CanLeave ss (b.0).exit in
    record {
      block = b.0;
      get = b.1;
      simple = subst P whole (given.simple u.block b.0 b.1);
      leaves = subst Q whole (given.leaves u.block b.0 b.1);
      left = stands
          ∙ ap (λ xs. flat_from k g (laid_from g.named u.block xs) c.position) (dropped k.blocks u.block b.0 b.1)
          ∙ label_steps g.returns g.place g.out (g.named u.block) u.block ((b.0).body ++ rest) c.position
          ∙ ap (λ ss. flat_from k g (ss ++ rest) c.position) whole;
      rank = omega (arith, lt);
    }

-- one step in front of others
pub front : (k : Code) (g : Lines) (p : ℕ) (s : Stmt) (x : Flat) (rest : List Stmt)
    → drop p g.flat ≡ flat_from k g (s ∷ rest) p
    → (piece_of g.returns s).steps g.place g.out p ≡ x ∷ []
    → (piece_of g.returns s).span ≡ 1
    → drop p g.flat ≡ x ∷ flat_from k g rest (suc p)
front k g p s x rest left steps span =
    let z : p + 1 ≡ suc p = omega arith in
    left
    ∙ ap (λ l. l ++ flat_from k g rest (p + (piece_of g.returns s).span)) steps
    ∙ ap (λ m. x ∷ flat_from k g rest (p + m)) span
    ∙ ap (λ q. x ∷ flat_from k g rest q) z

-- ---- a call that doesn't return ends the run

words_end : (os : List (Option ℕ)) (x : Local) (next : List ℕ → Local)
    → ((ns : List ℕ) → (h : End) × ((next ns).world.over ≡ Some h))
    → (h : End) × ((with_words os x next).world.over ≡ Some h)
words_end [] x next ends = ends []
words_end (None ∷ os) x next ends = (Undefined, refl)
words_end (Some n ∷ os) x next ends = words_end os x (λ ns. next (n ∷ ns)) (λ ns. ends (n ∷ ns))

module _ (l : Listing) (ws : ℕ → ℕ) (returns : ℕ → Bool) (x : Local) where
  layer_ends : (y : Stmt-F Stmt CArm) (a : ℕ)
      → callee_in y ≡ Some a
      → returns a ≡ false
      → (h : End) × ((do_layer l ws returns y x).world.over ≡ Some h)
  layer_ends (Stmt-F.Call v callee args) a is never =
      let same : callee ≡ a = cc in
      let none : returns callee ≡ false = ap returns same ∙ never in
      let call = λ (b : Bool) (ns : List ℕ). called l ws v b (in_world (recorded (Call callee ns) x.world) x) in
      let P : Bool → Type 0 = λ b. (h : End) × ((with_words (values_of ws x.env args) x (call b)).world.over ≡ Some h) in
      subst P (sym none) (words_end (values_of ws x.env args) x (call false) (λ ns. (NoReturn, refl)))
  layer_ends y a is never = absurd (none_some y is) where
    none_some : (y : Stmt-F Stmt CArm) → callee_in y ≡ Some a → ⊥
    none_some y e = absurd (cc)

  call_ends : (s : Stmt) (a : ℕ)
      → callee_of s ≡ Some a
      → returns a ≡ false
      → (h : End) × ((do_simple l ws returns s x).world.over ≡ Some h)
  call_ends s a is never = layer_ends (out-Stmt s) a is never

-- behind a statement that doesn't end the run
leaves_behind : (l : Listing) (ws : ℕ → ℕ) (x : Local) (s : Stmt) (ss : List Stmt) (e : Exit)
    → CanLeave (s ∷ ss) e
    → (do_simple l ws (λ a. call_returns ss e) s x).world.over ≡ None
    → CanLeave ss e
leaves_behind l ws x s ss (X.Return e) h go = tt
leaves_behind l ws x s ss (X.Jump to) h go = tt
leaves_behind l ws x s ss (X.Test c taken other) h go = tt
leaves_behind l ws x s ss (X.Switch e arms) h go = h
leaves_behind l ws x s [] X.Stop h go =
    let over = call_ends l ws (λ a. false) x s h.0 h.1 refl in absurd (cc)
leaves_behind l ws x s (t ∷ ss) X.Stop h go = h

-- ---- a step of the body's run

module _ (l : Listing) (k : Code) (g : Lines) where
  abbrev pub body_run : Machine CState
  body_run = flat_machine l (widths k.variables) g.returns g.flat

  pub c_is : (c : CState) (o : Option Flat)
      → c.local.world.over ≡ None
      → slice_get g.flat c.position ≡ o
      → body_run.step c ≡ carry_out l (widths k.variables) g.returns o c
  c_is c o go e =
      ap (λ z. unless_over z c (carry_out l (widths k.variables) g.returns (slice_get g.flat c.position) c)) go
      ∙ ap (λ z. carry_out l (widths k.variables) g.returns z c) e

  pub c_still : (c : CState) (h : End) → c.local.world.over ≡ Some h → body_run.step c ≡ c
  c_still c h e =
      ap (λ z. unless_over z c (carry_out l (widths k.variables) g.returns (slice_get g.flat c.position) c)) e

  -- The C goes on past a switch that names no case, where the code ends BadTarget: so a code with a switch never ends so.
  abbrev pub NeverLost : CodeState → Type 0
  NeverLost u = has_switch k ≡ true → NeverEnds BadTarget (seen (code_machine l k) u)

  pub record Related (n : ℕ) (u : CodeState) (c : CState) : Type 0 where
    pub meets : Meets k g n u c
    pub never : NeverLost u

  abbrev pub Went : ℕ → CodeState → CState → Type 0
  Went n u c = GoesRanked (code_machine l k) body_run Related n u c

  pub goes_on : (n : ℕ) (u u' : CodeState) (c c' : CState) (j r : ℕ)
      → NeverLost u
      → code_step l k u ≡ u'
      → after body_run.step j c ≡ c'
      → (0 < j) ⊎ (r < n)
      → Meets k g r u' c'
      → Went n u c
  goes_on n u u' c c' j r never e h less meets =
      let P : CodeState → Type 0 = λ x. Meets k g r x (after body_run.step j c) in
      let Q : CState → Type 0 = λ x. Meets k g r u' x in
      inr (
        0,
        (
          j,
          (
            r,
            (
              less,
              record {
                meets = subst P (sym e) (subst Q (sym h) meets);
                never = λ has m. never has (suc m);
              },
            ),
          ),
        ),
      )

  -- both have ended
  pub ended_goes : (n : ℕ) (u u' : CodeState) (c c' : CState) (h : End)
      → NeverLost u
      → code_step l k u ≡ u'
      → body_run.step c ≡ c'
      → u'.local ≡ c'.local
      → u'.local.world.over ≡ Some h
      → Went n u c
  ended_goes n u u' c c' h never mu mc same over =
      goes_on n u u' c c' 1 n never mu mc (inl (omega arith)) (record { local = same; at = λ e. absurd (cc) })

  module _ (given : Given k g) where
    -- ---- a statement

    pub simple_goes : (n : ℕ) (u : CodeState) (c : CState) (b : Block) (s : Stmt) (ss : List Stmt)
        → NeverLost u
        → u.local.world.over ≡ None
        → u.local ≡ c.local
        → slice_get k.blocks u.block ≡ Some b
        → drop u.position b.body ≡ s ∷ ss
        → AreSimple g.returns (s ∷ ss) b.exit
        → CanLeave (s ∷ ss) b.exit
        → drop c.position g.flat ≡ flat_from k g (s ∷ (ss ++ behind k g u.block b)) c.position
        → n + u.block ≡ length k.blocks
        → Went n u c
    simple_goes n u c b s ss never go same get here simple leaves left rank =
        let ws = widths k.variables in
        let rest = ss ++ behind k g u.block b in
        let one = front k g c.position s (Do s) rest left
        (ap (λ a. a.steps g.place g.out c.position) (simple.0.0).piece) (ap (λ a. a.span) (simple.0.0).piece) in
        let says : ℕ → Bool = λ a. call_returns ss b.exit in
        let x : Local = do_simple l ws says s u.local in
        let y : Local = do_simple l ws g.returns s c.local in
        let xy : x ≡ y = do_by_callee l ws says g.returns s u.local simple.0.1
        ∙ ap (do_simple l ws g.returns s) same in
        let u' : CodeState = record { block = u.block; position = suc u.position; local = x } in
        let c' : CState = record { position = suc c.position; local = y } in
        let mu : code_step l k u ≡ u' = step_in l k u b (s ∷ ss) go get here in
        let goc : c.local.world.over ≡ None = ap (λ z. z.world.over) (sym same) ∙ go in
        let mc : body_run.step c ≡ c' = c_is c (Some (Do s)) goc
        (get_of_drop g.flat c.position (Do s) (flat_from k g rest (suc c.position)) one) in
        let next : ss ≡ drop (suc u.position) b.body = sym (rest_of_drop b.body u.position s ss here) in
        let P : List Stmt → Type 0 = λ z. AreSimple g.returns z b.exit in
        let L : List Stmt → Type 0 = λ z. CanLeave z b.exit in
        let Q : List Stmt → Type 0 = λ z. drop (suc c.position) g.flat
        ≡ flat_from k g (z ++ behind k g u.block b) (suc c.position) in
        let meets : Meets k g n u' c' = record {
          local = xy;
          at = λ still. record {
            block = b;
            get = get;
            simple = subst P next simple.1;
            leaves = subst L next (leaves_behind l ws u.local s ss b.exit leaves still);
            left = subst Q next (rest_of_drop g.flat c.position (Do s) (flat_from k g rest (suc c.position)) one);
            rank = rank;
          };
        } in
        goes_on n u u' c c' 1 n never mu mc (inl (omega arith)) meets

    -- ---- gotos

    -- both have entered a block
    pub entered : (to : ℕ) (u : CodeState) (c : CState)
        → u.local ≡ c.local
        → to < length k.blocks
        → StandsFrom k g to c.position
        → Meets k g (length k.blocks - to) (enters to u) c
    entered to u c same lt stands =
        record { local = same; at = λ _. enters_at k g given (enters to u) c refl lt stands }

    -- The code has entered a block, and the body's run comes there in some steps, or in none where the block is the next.
    pub record Arrives (next to : ℕ) (u : CodeState) (c : CState) : Type 0 where
      pub steps : ℕ
      pub less : (0 < steps) ⊎ (to ≡ next)
      pub meets : Meets k g (length k.blocks - to) (enters to u) (after body_run.step steps c)

    -- a goto in front of others
    goto_leads : (to : ℕ) (rest : List Stmt) (c : CState)
        → c.local.world.over ≡ None
        → drop c.position g.flat ≡ flat_from k g (S.Goto to ∷ rest) c.position
        → body_run.step c ≡ record { position = g.place to; local = c.local }
    goto_leads to rest c go left =
        let one = front k g c.position (S.Goto to) (Jump (g.place to)) rest left
        (ap (λ a. a.steps g.place g.out c.position) (piece_of_goto g.returns to))
        (ap (λ a. a.span) (piece_of_goto g.returns to)) in
        c_is c (Some (Jump (g.place to))) go
        (get_of_drop g.flat c.position (Jump (g.place to)) (flat_from k g rest (suc c.position)) one)

    pub arrives : (next to : ℕ) (u : CodeState) (c : CState)
        → u.local ≡ c.local
        → c.local.world.over ≡ None
        → JumpLeads k g next to
        → drop c.position g.flat
        ≡ flat_from k g (goto next to ++ laid_from g.named next (drop next k.blocks)) c.position
        → Arrives next to u c
    arrives next to u c same go jump left = by (to == next) refl left where
      by : (b : Bool) → (to == next) ≡ b
          → drop c.position g.flat ≡ flat_from k g
          (cond b [] (S.Goto to ∷ []) ++ laid_from g.named next (drop next k.blocks)) c.position
          → Arrives next to u c
      by true is left =
          let e : to ≡ next = grind (arith, nat_tests) in
          let P : ℕ → Type 0 = λ z. StandsFrom k g z c.position in
          record { steps = 0; less = inr e; meets = entered to u c same jump.0 (subst P (sym e) left) }
      by false is left =
          let ne : to ≢ next = λ e. let t : (to == next) ≡ true = grind (arith, nat_tests) in absurd (cc) in
          let c' : CState = record { position = g.place to; local = c.local } in
          let moved : body_run.step c ≡ c' = goto_leads to (laid_from g.named next (drop next k.blocks)) c go left in
          let P : CState → Type 0 = λ z. Meets k g (length k.blocks - to) (enters to u) z in
          record {
            steps = 1;
            less = inl (omega arith);
            meets = subst P (sym moved) (entered to u c' same jump.0 (jump.1 ne));
          }

    pub jump_goes : (n to : ℕ) (u : CodeState) (c : CState)
        → NeverLost u
        → u.local.world.over ≡ None
        → u.local ≡ c.local
        → code_step l k u ≡ enters to u
        → JumpLeads k g (suc u.block) to
        → drop c.position g.flat ≡ flat_from k g
        (goto (suc u.block) to ++ laid_from g.named (suc u.block) (drop (suc u.block) k.blocks)) c.position
        → n + u.block ≡ length k.blocks
        → Went n u c
    jump_goes n to u c never go same mu jump left rank =
        let a = arrives (suc u.block) to u c same (ap (λ z. z.world.over) (sym same) ∙ go) jump left in
        goes_on n u (enters to u) c (after body_run.step a.steps c) a.steps (length k.blocks - to) never mu refl
        (⊎_elim (λ lt. inl lt) (λ e. inr (omega (arith, e, rank, jump.0))) a.less) a.meets
