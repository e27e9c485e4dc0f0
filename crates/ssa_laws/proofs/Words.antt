-- At each state of a run a variable holds a word of its width: what a statement gives is one, from words and bytes.
use Rattle.std.proofs.Common.{◌≡◌, ℕ, ◌+◌, ◌<◌, Bool, true, false, List, [], ◌∷◌, ◌++◌, length, map, Option, Some, None, Result, Ok, Err, ◌⊎◌, inl, inr, refl, sym, ap, ◌∙◌, subst, arith}
use Rattle.std.specs.Prelude.{◌==◌, cond, ◌%◌}
use Rattle.std.proofs.lemmas.Bool.{cases_eq}
use Rattle.node_lists.proofs.Chains.{eqb_is}
use Rattle.heap_nodes.proofs.Places.{some_same, none_some}
use Rattle.bits_core.specs.Value.{limit, divide_value}
use Rattle.bits_core.specs.declared.word.Width.{Width}
use Rattle.bits_core.proofs.Limits.{limit_pos}
use Rattle.std.proofs.Math.Nat.{mod-lt}
use Rattle.machine.specs.Trace.{Event, Store, Call, Other, End, ReadOnlyWrite, Undefined}
use Rattle.pcode_model.specs.declared.listing.Listing.{Listing}
use Rattle.pcode_model.specs.declared.storage.ParamStorage.{ParamStorage}
use Rattle.pcode_model.specs.declared.storage.ParamStorage.TheVariants as P
use Rattle.pcode_model.specs.Spaces.{size_of, first_ram, register_space, unique_space, each_at, is_fixed}
use Rattle.pcode_model.specs.Memory.{ByteWrite, HiddenWrite, Bytes, poke, plain, or_else, unless, any_fixed}
use Rattle.pcode_model.specs.Frame.{wrapped}
use Rattle.pcode_model.specs.Step.{bytes_in, first_apart, stack0}
use Rattle.pcode_model.specs.World.{World, Answer, Entry, IsEntry, AllWrites, AllAnswers, recorded, and_then, write_all, hide_all, unless_over}
use Rattle.range_words.specs.Ranges.{AreBytes}
use Rattle.range_words.proofs.Variables.{byte_put, bytes_stored, word_below}
use Rattle.cmeaning.specs.declared.tree.Stmt.{Stmt}
use Rattle.cmeaning.specs.Do.{Local, ends, accessed, divide_of, values_of, do_simple}
use Rattle.cmeaning.specs.Step.{word_at}
use Rattle.parts.specs.Exprs.{all_of, widths_of}
use Rattle.parts.specs.Stmts.{Action, Sets, Loads, Stores, Calls, CallsInd, Others, Extras, Divides, NotSimple, Done, Over, Goes, action_of, target_of, args_of, put_into, performed, stores, takes, takes_from, calls, divides, act, done_with, done_by}
use Rattle.parts.proofs.Parts.{do_by_parts}
use Rattle.edges.specs.Exits.{exit_args, Where, Onto, Out, leads}
use Rattle.edges.specs.Run.{Blocks, Going, stmts_of, exit_at, stmts_at, arrives, leaves, returns_at, exec, blocks_step, start_blocks}
use Rattle.edges.proofs.Steps.{holds_after, into_same, into_other}
use Rattle.opgraph.specs.Graph.{OpRow, op_at, block_at, IsWhole}
use Rattle.ssa_model.specs.declared.form.SsaBlock.{SsaBlock}
use Rattle.ssa_model.specs.declared.form.Parts.{Parts}
use Rattle.ssa_model.specs.Roles.{Role, Starts, Joins, role_of}
use Rattle.ssa_model.specs.Outline.{bytes_of, form, form_of, form_in, width_in, exit_in, block_with, predecessors_at}
use Rattle.ssa_model.specs.Formed.{fits, all_are}
use Rattle.ssa_model.specs.Edits.{IsSsa}
use Rattle.ssa_model.specs.Lines.{target, line_of, body_of, block_by, beside, or_else as given_or, carried, carried_row}
use Rattle.ssa_model.specs.Run.{first_by, first_word, blocks_of}
use Rattle.ssa_laws.specs.Law.{computes, computed, computed_with, state_after}
use Rattle.ssa_laws.proofs.Lines.{IsLine, NoLine, OneLine, both_hold}
use Rattle.ssa_laws.proofs.Keeps.{line_at, target_is, join_fits}
use Rattle.ssa_laws.proofs.Computed.{computed_low}

-- ---- edges

-- of inputs of one width the one for a block has that width
beside_width : (ws : ℕ → ℕ) (from w u : ℕ) (bs vs : List ℕ)
    → all_are w (map ws vs) ≡ true
    → beside from bs vs ≡ Some u
    → ws u ≡ w
beside_width ws from w u [] vs h is = none_some is
beside_width ws from w u (b ∷ bs) [] h is = none_some is
beside_width ws from w u (b ∷ bs) (v ∷ vs) h is =
    let each = both_hold (ws v == w) (all_are w (map ws vs)) h in
    by (b == from) is (eqb_is (ws v) w each.0) (beside_width ws from w u bs vs each.1)
  where
    by : (t : Bool)
        → cond t (Some v) (beside from bs vs) ≡ Some u
        → ws v ≡ w
        → (beside from bs vs ≡ Some u → ws u ≡ w)
        → ws u ≡ w
    by true q here next = ap ws (sym (some_same q)) ∙ here
    by false q here next = next q

pub carried_width : (ws : ℕ → ℕ) (v from to : ℕ) (bs : List ℕ) (r : OpRow) (role : Role)
    → ws v ≡ bytes_of r.width
    → fits role (bytes_of r.width) (map ws r.inputs) ≡ true
    → ws (carried v from to bs r role) ≡ ws v
carried_width ws v from to bs r (Joins atom) own h = by (r.block == to) (beside from bs r.inputs) refl
  where
    by : (t : Bool) (o : Option ℕ) → beside from bs r.inputs ≡ o → ws (cond t (given_or o v) v) ≡ ws v
    by false o is = refl
    by true None is = refl
    by true (Some u) is =
        beside_width ws from (bytes_of r.width) u bs r.inputs
        (join_fits ws (bytes_of r.width) r.inputs (Joins atom) tt h) is ∙ sym own
carried_width ws v from to bs r role own h = refl

module _ (l : Listing) where
  -- ---- the world

  -- bytes of memory and of what a call has left, and answers that hold such
  pub record IsLow (left : ℕ → ℕ) (w : World Bytes) : Type 0 where
    pub left_low : (o : ℕ) → left o < 256
    pub memory : AreBytes w.memory
    pub answers : AllAnswers l w.answers

  abbrev HasBytes : Result Bytes End → Type 0
  HasBytes (Ok m) = AreBytes m
  HasBytes (Err e) = Unit {0}

  writes_low : (xs : List ByteWrite) (m : Bytes) → AllWrites l xs → AreBytes m → HasBytes (write_all (plain l) xs m)
  writes_low [] m all are = are
  writes_low (x ∷ xs) m all are =
      by (is_fixed l x.space x.offset)
      (writes_low xs (poke x.space x.offset x.value m) all.1 (byte_put x.space x.offset x.value m all.0.1.1 are))
    where
      by : (t : Bool)
          → HasBytes (write_all (plain l) xs (poke x.space x.offset x.value m))
          → HasBytes (and_then (unless t ReadOnlyWrite (Ok (poke x.space x.offset x.value m))) (write_all (plain l) xs))
      by true h = tt
      by false h = h

  hides_low : (xs : List HiddenWrite) (m : Bytes) → AreBytes m → AreBytes (hide_all (plain l) xs m)
  hides_low [] m are = are
  hides_low (x ∷ xs) m are = hides_low xs m are

  -- ---- what a statement does

  -- it ends the run, or gives its target a word and leaves bytes
  abbrev GoesLow : (ℕ → ℕ) → Option ℕ → Done → Type 0
  GoesLow ws o (Over e w) = Unit {0}
  GoesLow ws o (Goes value left w) = ((x : ℕ) → o ≡ Some x → value (ws x) < limit (ws x)) × IsLow left w

  stores_low : (ws : ℕ → ℕ) (o : Option ℕ) (e : Event) (left : ℕ → ℕ) (w : World Bytes) (m : Result Bytes End)
      → IsLow left w
      → HasBytes m
      → GoesLow ws o (stores e m left w)
  stores_low ws o e left w (Err end) low are = tt
  stores_low ws o e left w (Ok m) low are =
      (λ x is. limit_pos (ws x), record { left_low = low.left_low; memory = are; answers = low.answers })

  takes_low : (ws : ℕ → ℕ) (o : Option ℕ) (left : ℕ → ℕ) (w : World Bytes) (answers : List Answer)
      → AreBytes w.memory
      → AllAnswers l answers
      → GoesLow ws o (takes_from l answers w)
  takes_low ws o left w [] are all = tt
  takes_low ws o left w (a ∷ rest) are all =
      by (write_all (plain l) a.memory w.memory) (writes_low a.memory w.memory all.0.memory are)
    where
      by : (m : Result Bytes End) → HasBytes m → GoesLow ws o (takes l a rest m w)
      by (Err end) h = tt
      by (Ok m) h = (
        λ x is. mod-lt a.word (limit_pos (ws x)),
        record { left_low = all.0.registers; memory = hides_low a.hidden m h; answers = all.1 },
      )

  module _ (ws : ℕ → ℕ) (o : Option ℕ) (returns : ℕ → Bool) (left : ℕ → ℕ) (w : World Bytes) (low : IsLow left w) where
    abbrev IsGiven : Action → List ℕ → List ℕ → Type 0
    IsGiven action ks ns =
        computes action ≡ true → (n x : ℕ) → o ≡ Some x → computed action ks ns ≡ Some n → n < limit (ws x)

    called_low : (t : Bool) (e : Event) → GoesLow ws o (calls l t (recorded e w))
    called_low true e = takes_low ws o left (recorded e w) w.answers low.memory low.answers
    called_low false e = tt

    stored_low : (t : Bool) (e : Event) (s a k n : ℕ)
        → GoesLow ws o
        (stores e (unless t ReadOnlyWrite (Ok (each_at (size_of l s) (poke s) a (bytes_in l s k n) w.memory))) left w)
    stored_low true e s a k n = tt
    stored_low false e s a k n =
        stores_low ws o e left w (Ok (each_at (size_of l s) (poke s) a (bytes_in l s k n) w.memory)) low
        (bytes_stored l s a k n w.memory low.memory)

    act_low : (action : Action) (ks ns : List ℕ)
        → IsGiven action ks ns
        → GoesLow ws o (act l returns action ks ns left w)
    act_low Sets ks [] g = tt
    act_low Sets ks (n ∷ []) g = (λ x is. g refl n x is refl, low)
    act_low Sets ks (n ∷ m ∷ ns) g = tt
    act_low (Loads space) ks [] g = tt
    act_low (Loads space) ks (a ∷ []) g =
        (λ x is. word_below l (accessed l space) (a % size_of l (accessed l space)) (ws x) w.memory low.memory, low)
    act_low (Loads space) ks (a ∷ b ∷ ns) g = tt
    act_low (Stores space) [] ns g = tt
    act_low (Stores space) (j ∷ []) ns g = tt
    act_low (Stores space) (j ∷ k ∷ []) [] g = tt
    act_low (Stores space) (j ∷ k ∷ []) (a ∷ []) g = tt
    act_low (Stores space) (j ∷ k ∷ []) (a ∷ n ∷ []) g =
        let s = accessed l space in
        let b = a % size_of l s in
        stored_low (any_fixed l s b (length (bytes_in l s k n))) (Store s b (bytes_in l s k n)) s b k n
    act_low (Stores space) (j ∷ k ∷ []) (a ∷ n ∷ m ∷ ns) g = tt
    act_low (Stores space) (i ∷ j ∷ k ∷ ks) ns g = tt
    act_low (Calls callee) ks ns g = called_low (returns callee) (Call callee ns)
    act_low CallsInd ks [] g = tt
    act_low CallsInd ks (a ∷ ns) g = called_low true (Call a ns)
    act_low (Others index) ks ns g = called_low true (Other index ns)
    act_low (Extras offset) ks ns g =
        (λ x is. word_below l (register_space l) offset (ws x) (λ s. left) (λ s. low.left_low), low)
    act_low (Divides op) [] ns g = tt
    act_low (Divides op) (j ∷ []) ns g = tt
    act_low (Divides op) (j ∷ k ∷ []) [] g = tt
    act_low (Divides op) (j ∷ k ∷ []) (m ∷ []) g = tt
    act_low (Divides op) (j ∷ k ∷ []) (m ∷ n ∷ []) g = by (divide_value (divide_of op) j m n) (g refl)
      where
        by : (d : Option ℕ) → ((u x : ℕ) → o ≡ Some x → d ≡ Some u → u < limit (ws x)) → GoesLow ws o (divides d left w)
        by None h = tt
        by (Some u) h = (λ x is. h u x is refl, low)
    act_low (Divides op) (j ∷ k ∷ []) (m ∷ n ∷ u ∷ ns) g = tt
    act_low (Divides op) (i ∷ j ∷ k ∷ ks) ns g = tt
    act_low NotSimple ks ns g = tt

  module _ (p : Parts) (e : Entry) (whole : IsWhole p.graph) (ssa : IsSsa (form p)) (entry : IsEntry l e) where
    abbrev k : Blocks
    k = blocks_of l p

    -- ---- a state

    pub record HasWords (y : Local) : Type 0 where
      pub env : (v m : ℕ) → y.env v ≡ Some m → m < limit (k.widths v)
      pub world : y.world.over ≡ None → IsLow y.left y.world

    -- and what is left of the block are statements of ops
    abbrev IsFine : Going → Type 0
    IsFine s = ((ops : List ℕ) × (s.rest ≡ body_of l p.graph ops)) × HasWords s.local

    form_fits : (v : ℕ) (r : OpRow)
        → op_at p.graph v ≡ Some r
        → fits (role_of r.code) (bytes_of r.width) (map k.widths r.inputs) ≡ true
    form_fits v r is = ssa.formed.ops v (form_of (op_at p.graph) r) (ap (form_in (op_at p.graph)) is)

    ended_words : (h : End) (y : Local) → HasWords y → HasWords (ends h y)
    ended_words h y words = record { env = words.env; world = λ over. none_some (sym over) }

    performed_words : (o : Option ℕ) (d : Done) (y : Local)
        → HasWords y
        → GoesLow k.widths o d
        → HasWords (performed k.widths o d y)
    performed_words o (Over h w) y words low = record { env = words.env; world = λ over. none_some (sym over) }
    performed_words o (Goes value left w) y words low = record {
      env = λ v m is. by o low.0 v m is;
      world = λ over. low.1;
    }
      where
        by : (o : Option ℕ)
            → ((x : ℕ) → o ≡ Some x → value (k.widths x) < limit (k.widths x))
            → (v m : ℕ)
            → put_into k.widths o value y.env v ≡ Some m
            → m < limit (k.widths v)
        by None g v m is = words.env v m is
        by (Some x) g v m is = by_case (cases_eq v x)
          where
            by_case : (v ≡ x) ⊎ (v ≡ x → ⊥) → m < limit (k.widths v)
            by_case (inl h) =
                let same : Some x ≡ Some v = ap Some (sym h) in
                subst (λ z. z < limit (k.widths v))
                (some_same (sym (into_same k.widths (Some x) value y.env v same) ∙ is)) (g v same)
            by_case (inr n) =
                words.env v m (sym (into_other k.widths (Some x) value y.env v (λ q. n (sym (some_same q)))) ∙ is)

    stmt_words : (x : ℕ) (t : OpRow) (a : Stmt) (returns : ℕ → Bool) (y : Local)
        → op_at p.graph x ≡ Some t
        → line_of l x (Some t) ≡ a ∷ []
        → y.world.over ≡ None
        → HasWords y
        → HasWords (do_simple l k.widths returns a y)
    stmt_words x t a returns y row line over words =
        subst HasWords (sym (do_by_parts l k.widths returns a y))
        (by_values (all_of (values_of k.widths y.env (args_of a))) refl)
      where
        target_x : (z : ℕ) → target_of a ≡ Some z → k.widths z ≡ bytes_of t.width
        target_x z is = by t.width (sym (target_is l p e whole ssa x t a row line) ∙ is)
          where
            by : (w : Option Width)
                → target x w ≡ Some z
                → k.widths z ≡ bytes_of t.width
            by None q = none_some q
            by (Some w) q = ap k.widths (sym (some_same q)) ∙ ap width_in row

        given : (ns : List ℕ) (n z : ℕ)
            → all_of (values_of k.widths y.env (args_of a)) ≡ Some ns
            → computes (action_of a) ≡ true
            → target_of a ≡ Some z
            → computed (action_of a) (widths_of k.widths (args_of a)) ns ≡ Some n
            → n < limit (k.widths z)
        given ns n z is c to value =
            subst (λ w. n < limit w) (sym (target_x z to))
            (computed_low l x k.widths y.env words.env t.inputs (role_of t.code) t.width (form_fits x t row) a n line c
            (ap (computed_with (action_of a) (widths_of k.widths (args_of a))) is ∙ value))

        by_values : (o : Option (List ℕ))
            → all_of (values_of k.widths y.env (args_of a)) ≡ o
            → HasWords (done_with o y (done_by l k.widths returns a y))
        by_values None is = ended_words Undefined y words
        by_values (Some ns) is =
            performed_words (target_of a)
            (act l returns (action_of a) (widths_of k.widths (args_of a)) ns y.left y.world) y words
            (act_low k.widths (target_of a) returns y.left y.world (words.world over) (action_of a)
            (widths_of k.widths (args_of a)) ns (λ c n z to value. given ns n z is c to value))

    -- ---- an edge

    through_width : (from to v : ℕ) → k.widths (k.through from to v) ≡ k.widths v
    through_width from to v = by (op_at p.graph v) refl
      where
        by : (o : Option OpRow)
            → op_at p.graph v ≡ o
            → k.widths (carried_row v from to (predecessors_at p.blocks to) o) ≡ k.widths v
        by None is = refl
        by (Some r) is =
            carried_width k.widths v from to (predecessors_at p.blocks to) r (role_of r.code) (ap width_in is)
            (form_fits v r is)

    stmts_fine : (c : ℕ) → (ops : List ℕ) × (stmts_at k c ≡ body_of l p.graph ops)
    stmts_fine c = by (block_with c p.blocks)
      where
        by : (o : Option SsaBlock)
            → (ops : List ℕ) × (stmts_of (block_by l p.graph c (exit_in o)) ≡ body_of l p.graph ops)
        by None = ([], refl)
        by (Some z) = (block_at p.graph c, refl)

    arrives_fine : (b : ℕ) (h : Where) (y : Local) → HasWords y → IsFine (arrives k b h y)
    arrives_fine b (Out h) y words = (([], refl), ended_words h y words)
    arrives_fine b (Onto c) y words = (
      stmts_fine c,
      record {
        env = λ v m is. subst (λ w. m < limit w) (through_width b c v) (words.env (k.through b c v) m is);
        world = words.world;
      },
    )

    leaves_fine : (b : ℕ) (o : Option (List ℕ)) (y : Local) → HasWords y → IsFine (leaves k b o y)
    leaves_fine b None y words = (([], refl), ended_words Undefined y words)
    leaves_fine b (Some ns) y words = arrives_fine b (leads (exit_at k b) ns) y words

    -- ---- a step

    exec_fine : (b : ℕ) (ops : List ℕ) (y : Local)
        → y.world.over ≡ None
        → HasWords y
        → IsFine (exec l k b (body_of l p.graph ops) y)
    exec_fine b [] y over words = leaves_fine b (all_of (values_of k.widths y.env (exit_args (exit_at k b)))) y words
    exec_fine b (x ∷ xs) y over words = by_row (op_at p.graph x) refl (exec_fine b xs y over words)
      where
        by_line : (t : OpRow)
            → op_at p.graph x ≡ Some t
            → IsLine l x t.inputs (role_of t.code) t.width
            → IsFine (exec l k b (body_of l p.graph xs) y)
            → IsFine (exec l k b (line_of l x (Some t) ++ body_of l p.graph xs) y)
        by_line t row (NoLine none h) next =
            subst (λ cs. IsFine (exec l k b (cs ++ body_of l p.graph xs) y)) (sym none) next
        by_line t row (OneLine a one to reads c) next =
            subst (λ cs. IsFine (exec l k b (cs ++ body_of l p.graph xs) y)) (sym one)
            ((xs, refl), stmt_words x t a (returns_at k b (body_of l p.graph xs)) y row one over words)

        by_row : (o : Option OpRow)
            → op_at p.graph x ≡ o
            → IsFine (exec l k b (body_of l p.graph xs) y)
            → IsFine (exec l k b (line_of l x (op_at p.graph x) ++ body_of l p.graph xs) y)
        by_row None is next =
            subst (λ r. IsFine (exec l k b (line_of l x r ++ body_of l p.graph xs) y)) (sym is) next
        by_row (Some t) is next =
            subst (λ r. IsFine (exec l k b (line_of l x r ++ body_of l p.graph xs) y)) (sym is)
            (by_line t is (line_at l p e whole ssa x t is) next)

    step_fine : (s : Going) → IsFine s → IsFine (blocks_step l k s)
    step_fine s fine = by s.local.world.over refl
      where
        by : (o : Option End)
            → s.local.world.over ≡ o
            → IsFine (unless_over o s (exec l k s.block s.rest s.local))
        by None is =
            subst (λ cs. IsFine (exec l k s.block cs s.local)) (sym fine.0.1)
            (exec_fine s.block fine.0.0 s.local is fine.1)
        by (Some h) is = fine

    -- ---- a run begins

    own_low : (o : ℕ) → (first_apart l e).own o < 256
    own_low o =
        let a = (stack0 l e + o) % size_of l (first_ram l) in
        by (e.hidden a) (λ b is. entry.hidden a b is) (entry.bytes (first_ram l) a)
      where
        by : (h : Option ℕ) → ((b : ℕ) → h ≡ Some b → b < 256) → {n : ℕ} → n < 256 → or_else h n < 256
        by None hidden small = small
        by (Some b) hidden small = hidden b refl

    word_at_low : (w : ℕ) (s : ParamStorage) → word_at l e w s < limit w
    word_at_low w (P.Register offset) = word_below l (register_space l) offset w e.bytes entry.bytes
    word_at_low w (P.Unique offset) = word_below l (unique_space l) offset w e.bytes entry.bytes
    word_at_low w (P.Stack offset) =
        word_below l (first_ram l) (wrapped (size_of l (first_ram l)) offset) w (λ s. (first_apart l e).own)
        (λ s. own_low)

    first_low : (v m : ℕ) → first_word l e (op_at p.graph v) ≡ Some m → m < limit (k.widths v)
    first_low v m is = by_row (op_at p.graph v) is
      where
        by_role : (w : ℕ) (role : Role) → first_by l e w role ≡ Some m → m < limit w
        by_role w (Starts s) q = subst (λ z. z < limit w) (some_same q) (word_at_low w s)
        by_role w role q = none_some q

        by_row : (o : Option OpRow) → first_word l e o ≡ Some m → m < limit (width_in o)
        by_row None q = none_some q
        by_row (Some r) q = by_role (bytes_of r.width) (role_of r.code) q

    start_fine : IsFine (start_blocks l k e)
    start_fine = (
      stmts_fine p.entry.0,
      record {
        env = first_low;
        world = λ over. record { left_low = λ o. omega arith; memory = entry.bytes; answers = entry.answers };
      },
    )

    pub values_words : (n v m : ℕ) → (state_after l p e n).local.env v ≡ Some m → m < limit (k.widths v)
    values_words n = (holds_after l k IsFine step_fine n (start_blocks l k e) start_fine).1.env
