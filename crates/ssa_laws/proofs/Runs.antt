-- What is kept along a run, for each of its states.
use Rattle.std.proofs.Common.{◌≡◌, ℕ, zero, suc, ◌+◌, ◌<◌, Bool, true, false, List, [], ◌∷◌, ◌++◌, ◌⊎◌, inl, inr, length, map, Option, Some, None, refl, sym, ap, ◌∙◌, subst, arith, true≢false}
use Rattle.std.specs.Prelude.{◌==◌, cond}
use Rattle.std.proofs.lemmas.Bool.{cases_eq, eq-eqb}
use Rattle.heap_nodes.proofs.Places.{none_some}
use Rattle.bits_core.specs.Value.{divide_value}
use Rattle.machine.specs.Trace.{End}
use Rattle.machine.specs.Machine.{after}
use Rattle.pcode_model.specs.declared.listing.Listing.{Listing}
use Rattle.pcode_model.specs.Memory.{Bytes}
use Rattle.pcode_model.specs.World.{World, Entry, unless_over}
use Rattle.cmeaning.specs.declared.tree.Stmt.{Stmt}
use Rattle.cmeaning.specs.Do.{Local, divide_of, values_of, do_simple}
use Rattle.cmeaning.specs.Step.{tested}
use Rattle.node_lists.specs.Chains.{IsIn, last_or}
use Rattle.node_lists.proofs.Chains.{eqb_not, in_right}
use Rattle.parts.specs.Exprs.{Env, all_of, widths_of}
use Rattle.parts.specs.Stmts.{Action, Sets, Divides, Done, Over, Goes, action_of, target_of, args_of, put_into, performed, divides, act, done_with, done_by}
use Rattle.parts.proofs.Parts.{do_by_parts}
use Rattle.edges.specs.Exits.{exit_args, Where, Onto, Out, by_arms, leads}
use Rattle.edges.specs.Run.{Blocks, Going, going, stmts_of, exit_of, exit_at, stmts_at, arrives, leaves, returns_at, exec, blocks_step, start_blocks}
use Rattle.edges.proofs.Steps.{holds_after}
use Rattle.opgraph.specs.Graph.{OpRow, op_at, block_at, in_block, IsWhole}
use Rattle.ssa_model.specs.declared.form.Arm.{Arm}
use Rattle.ssa_model.specs.declared.form.SsaBlock.{SsaBlock}
use Rattle.ssa_model.specs.declared.form.SsaExit.{SsaExit}
use Rattle.ssa_model.specs.declared.form.SsaExit.TheVariants as X
use Rattle.ssa_model.specs.declared.form.Parts.{Parts}
use Rattle.ssa_model.specs.Roles.{role_of}
use Rattle.ssa_model.specs.Outline.{form, outline, ids, targets, targets_in, exit_in, block_with, Leads}
use Rattle.ssa_model.specs.Paths.{Available}
use Rattle.ssa_model.specs.Edits.{IsSsa}
use Rattle.ssa_model.specs.Lines.{line_of, body_of, exit_over, last_inputs, block_by}
use Rattle.ssa_model.specs.Run.{blocks_of}
use Rattle.ssa_laws.specs.Law.{computes, computed, computed_with, state_after, StandsAt, Equations}
use Rattle.ssa_laws.proofs.Avoids.{missed_not, missed_less, IsMissed}
use Rattle.ssa_laws.proofs.Lines.{IsLine, NoLine, OneLine}
use Rattle.ssa_laws.proofs.Keeps.{Keeps, line_at, pass, carried_out}
use Rattle.ssa_laws.proofs.Keeps as keeps

-- ---- lists

pub one_further : (xs ys : List ℕ) (x : ℕ) → xs ++ x ∷ ys ≡ (xs ++ x ∷ []) ++ ys
one_further [] ys x = refl
one_further (z ∷ xs) ys x = ap (λ zs. z ∷ zs) (one_further xs ys x)

pub none_more : (xs : List ℕ) → xs ++ [] ≡ xs
none_more [] = refl
none_more (x ∷ xs) = ap (λ ys. x ∷ ys) (none_more xs)

length_append : {X : Type 0} (xs ys : List X) → length (xs ++ ys) ≡ length xs + length ys
length_append [] ys = omega arith
length_append (x ∷ xs) ys = let h = length_append xs ys in omega (arith, h)

pub append_append : {X : Type 0} (xs ys zs : List X) → ((xs ++ ys) ++ zs) ≡ (xs ++ (ys ++ zs))
append_append [] ys zs = refl
append_append (x ∷ xs) ys zs = ap (λ us. x ∷ us) (append_append xs ys zs)

-- ---- what a statement that goes on gives its target

abbrev value_of_done : Done → ℕ → ℕ
value_of_done (Over e w) k = 0
value_of_done (Goes value left w) k = value k

act_computes : (l : Listing) (returns : ℕ → Bool) (action : Action) (ks ns : List ℕ) (left value left' : ℕ → ℕ)
    (w w' : World Bytes) (k : ℕ)
    → act l returns action ks ns left w ≡ Goes value left' w'
    → computes action ≡ true
    → computed action ks ns ≡ Some (value k)
act_computes l returns Sets ks [] left value left' w w' k is h = absurd (cc)
act_computes l returns Sets ks (n ∷ []) left value left' w w' k is h = ap (λ d. Some (value_of_done d k)) is
act_computes l returns Sets ks (n ∷ m ∷ ns) left value left' w w' k is h = absurd (cc)
act_computes l returns (Divides op) [] ns left value left' w w' k is h = absurd (cc)
act_computes l returns (Divides op) (i ∷ []) ns left value left' w w' k is h = absurd (cc)
act_computes l returns (Divides op) (i ∷ j ∷ []) [] left value left' w w' k is h = absurd (cc)
act_computes l returns (Divides op) (i ∷ j ∷ []) (m ∷ []) left value left' w w' k is h = absurd (cc)
act_computes l returns (Divides op) (i ∷ j ∷ []) (m ∷ n ∷ []) left value left' w w' k is h =
    by_value (divide_value (divide_of op) i m n) is
  where
    by_value : (o : Option ℕ) → divides o left w ≡ Goes value left' w' → o ≡ Some (value k)
    by_value None q = absurd (cc)
    by_value (Some u) q = ap (λ d. Some (value_of_done d k)) q
act_computes l returns (Divides op) (i ∷ j ∷ []) (m ∷ n ∷ u ∷ ns) left value left' w w' k is h = absurd (cc)
act_computes l returns (Divides op) (i ∷ j ∷ u ∷ ks) ns left value left' w w' k is h = absurd (cc)
act_computes l returns action ks ns left value left' w w' k is h = absurd (true≢false (sym h))

-- ---- exits

target_of_arms : (arms : List Arm) (n c : ℕ)
    → by_arms (map (λ (a : Arm). record { value = a.value; to = a.to.0 }) arms) n ≡ Onto c
    → IsIn c (map (λ (a : Arm). a.to.0) arms)
target_of_arms [] n c is = absurd (cc)
target_of_arms (a ∷ arms) n c is = by_case (a.value == n) is (target_of_arms arms n c)
  where
    by_case : (b : Bool)
        → cond b (Onto a.to.0)
        (by_arms (map (λ (a : Arm). record { value = a.value; to = a.to.0 }) arms) n)
        ≡ Onto c
        → (by_arms (map (λ (a : Arm). record { value = a.value; to = a.to.0 }) arms) n ≡ Onto c
        → IsIn c (map (λ (a : Arm). a.to.0) arms))
        → IsIn c (a.to.0 ∷ map (λ (a : Arm). a.to.0) arms)
    by_case true q next = inl (cc)
    by_case false q next = inr (next q)

one_of_two : (t u n c : ℕ) → Onto (tested t u n) ≡ Onto c → IsIn c (t ∷ u ∷ [])
one_of_two t u zero c is = inr (inl (cc))
one_of_two t u (suc n) c is = inl (cc)

-- an exit leads to one of its targets
pub leads_to : (x : SsaExit) (vs ns : List ℕ) (c : ℕ) → leads (exit_over x vs) ns ≡ Onto c → IsIn c (targets x)
leads_to X.Return [] ns c is = absurd (cc)
leads_to X.Return (v ∷ vs) [] c is = absurd (cc)
leads_to X.Return (v ∷ vs) (n ∷ ns) c is = absurd (cc)
leads_to (X.Jump to) vs ns c is = inl (cc)
leads_to (X.Test taken other) vs [] c is = absurd (cc)
leads_to (X.Test taken other) vs (n ∷ ns) c is = one_of_two taken.0 other.0 n c is
leads_to (X.Switch arms) vs [] c is = absurd (cc)
leads_to (X.Switch arms) vs (n ∷ ns) c is = target_of_arms arms n c is
leads_to X.Stop vs ns c is = absurd (cc)

module _ (l : Listing) (p : Parts) (e : Entry) (whole : IsWhole p.graph) (ssa : IsSsa (form p)) where
  abbrev k : Blocks
  k = blocks_of l p

  -- the next op has a statement, if there is one
  abbrev IsReady : List ℕ → Type 0
  IsReady [] = Unit {0}
  IsReady (x ∷ xs) = line_of l x (op_at p.graph x) ≡ [] → ⊥

  -- where a run stands in a block, with what is kept there
  pub record Here (env : Env) (b : ℕ) (rest : List Stmt) : Type 0 where
    pub before : List ℕ
    pub behind : List ℕ
    pub ops : block_at p.graph b ≡ before ++ behind
    pub left : rest ≡ body_of l p.graph behind
    pub ready : IsReady behind
    pub kept : Keeps l p e whole ssa env b before

  pub row_in : (b x : ℕ) → IsIn x (block_at p.graph b) → (t : OpRow) × (op_at p.graph x ≡ Some t) × (t.block ≡ b)
  row_in b x m = by_row (op_at p.graph x) refl ((whole.ops b x).0 m)
    where
      by_row : (o : Option OpRow)
          → op_at p.graph x ≡ o
          → in_block b o
          → (t : OpRow) × (op_at p.graph x ≡ Some t) × (t.block ≡ b)
      by_row None is h = absurd h
      by_row (Some t) is h = (t, is, h)

  -- ops without statements are passed
  advance : (env : Env) (b : ℕ) (before behind : List ℕ)
      → block_at p.graph b ≡ before ++ behind
      → Keeps l p e whole ssa env b before
      → Here env b (body_of l p.graph behind)
  advance env b before [] ops kept = record {
    before = before;
    behind = [];
    ops = ops;
    left = refl;
    ready = tt;
    kept = kept;
  }
  advance env b before (x ∷ xs) ops kept =
      by_line (line_of l x (op_at p.graph x)) refl
      (advance env b (before ++ x ∷ []) xs (ops ∙ one_further before xs x))
    where
      found : (t : OpRow) × (op_at p.graph x ≡ Some t) × (t.block ≡ b)
      found = row_in b x (subst (IsIn x) (sym ops) (in_right x before (x ∷ xs) (inl refl)))

      by_line : (cs : List Stmt)
          → line_of l x (op_at p.graph x) ≡ cs
          → (Keeps l p e whole ssa env b (before ++ x ∷ []) → Here env b (body_of l p.graph xs))
          → Here env b (line_of l x (op_at p.graph x) ++ body_of l p.graph xs)
      by_line [] is next =
          subst (λ cs. Here env b (cs ++ body_of l p.graph xs)) (sym is)
          (next (pass l p e whole ssa env b x found.0 before found.1 found.2
          (ap (line_of l x) (sym found.1) ∙ is) kept))
      by_line (a ∷ cs) is next = record {
        before = before;
        behind = x ∷ xs;
        ops = ops;
        left = refl;
        ready = λ h. absurd (cc);
        kept = kept;
      }

  -- ---- a statement

  -- what is known of a state: if the run isn't over, where it stands
  abbrev IsHere : Going → Type 0
  IsHere s = s.local.world.over ≡ None → Here s.local.env s.block s.rest

  performed_here : (b x : ℕ) (t : OpRow) (a : Stmt) (before behind ns : List ℕ) (y : Local) (d : Done)
      → op_at p.graph x ≡ Some t
      → block_at p.graph b ≡ before ++ x ∷ behind
      → line_of l x (Some t) ≡ a ∷ []
      → Keeps l p e whole ssa y.env b before
      → all_of (values_of k.widths y.env (args_of a)) ≡ Some ns
      → act l (returns_at k b (body_of l p.graph behind)) (action_of a) (widths_of k.widths (args_of a)) ns y.left y.world ≡ d
      → IsHere (going b (body_of l p.graph behind) (performed k.widths (target_of a) d y))
  performed_here b x t a before behind ns y (Over h w) row ops line kept vs is over = absurd (cc)
  performed_here b x t a before behind ns y (Goes value left w) row ops line kept vs is over =
      advance (put_into k.widths (target_of a) value y.env) b (before ++ x ∷ []) behind
      (ops ∙ one_further before behind x)
      (carried_out l p e whole ssa y.env b x t a before behind value row ops line
      (λ h.
      ap (computed_with (action_of a) (widths_of k.widths (args_of a))) vs
      ∙ act_computes l (returns_at k b (body_of l p.graph behind)) (action_of a) (widths_of k.widths (args_of a)) ns
      y.left value left y.world w (k.widths x) is h) kept)

  stmt_here : (b x : ℕ) (t : OpRow) (a : Stmt) (before behind : List ℕ) (y : Local)
      → op_at p.graph x ≡ Some t
      → block_at p.graph b ≡ before ++ x ∷ behind
      → line_of l x (Some t) ≡ a ∷ []
      → Keeps l p e whole ssa y.env b before
      → IsHere (going b (body_of l p.graph behind)
      (do_simple l k.widths (returns_at k b (body_of l p.graph behind)) a y))
  stmt_here b x t a before behind y row ops line kept =
      let r = returns_at k b (body_of l p.graph behind) in
      subst (λ (z : Local). IsHere (going b (body_of l p.graph behind) z)) (sym (do_by_parts l k.widths r a y))
      (by_values (all_of (values_of k.widths y.env (args_of a))) refl)
    where
      by_values : (o : Option (List ℕ))
          → all_of (values_of k.widths y.env (args_of a)) ≡ o
          → IsHere (going b (body_of l p.graph behind)
          (done_with o y (done_by l k.widths (returns_at k b (body_of l p.graph behind)) a y)))
      by_values None is = λ over. absurd (cc)
      by_values (Some ns) is =
          performed_here b x t a before behind ns y
          (act l (returns_at k b (body_of l p.graph behind)) (action_of a) (widths_of k.widths (args_of a)) ns y.left
          y.world) row ops line kept is refl

  -- ---- an exit

  pub exit_is : (b : ℕ) (ns : List ℕ) (c : ℕ) → leads (exit_at k b) ns ≡ Onto c → Leads p.blocks b c
  exit_is b ns c is = by_block (block_with b p.blocks) is
    where
      by_block : (o : Option SsaBlock)
          → leads (exit_of (block_by l p.graph b (exit_in o))) ns ≡ Onto c
          → IsIn c (targets_in o)
      by_block None h = absurd (cc)
      by_block (Some z) h = leads_to z.exit (last_inputs p.graph (last_or None (block_at p.graph b))) ns c h

  pub in_ids : (c : ℕ) (bs : List SsaBlock) → IsIn c (ids bs) → (z : SsaBlock) × (block_with c bs ≡ Some z)
  in_ids c [] m = absurd m
  in_ids c (z ∷ bs) m = by_case (cases_eq z.id.0 c) m (in_ids c bs)
    where
      by_case : (z.id.0 ≡ c) ⊎ (z.id.0 ≡ c → ⊥)
          → IsIn c (z.id.0 ∷ ids bs)
          → (IsIn c (ids bs) → (y : SsaBlock) × (block_with c bs ≡ Some y))
          → (y : SsaBlock) × (block_with c (z ∷ bs) ≡ Some y)
      by_case (inl h) q next = (z, ap (λ t. cond t (Some z) (block_with c bs)) (eq-eqb z.id.0 c h))
      by_case (inr n) (inl h) next = absurd (n (sym h))
      by_case (inr n) (inr h) next =
          let y = next h in
          (y.0, ap (λ t. cond t (Some z) (block_with c bs)) (eqb_not z.id.0 c n) ∙ y.1)

  -- the statements of a block are those of its ops
  pub stmts_are : (c : ℕ) → c < (outline (form p)).count → stmts_at k c ≡ body_of l p.graph (block_at p.graph c)
  stmts_are c low =
      let z = in_ids c p.blocks ((ssa.formed.all c).1 low) in
      ap (λ o. stmts_of (block_by l p.graph c (exit_in o))) z.1

  arrives_here : (b : ℕ) (ns : List ℕ) (y : Local) (h : Where)
      → leads (exit_at k b) ns ≡ h
      → Keeps l p e whole ssa y.env b (block_at p.graph b)
      → IsHere (arrives k b h y)
  arrives_here b ns y (Out g) is kept over = absurd (cc)
  arrives_here b ns y (Onto c) is kept over =
      let lead = exit_is b ns c is in
      subst (Here (λ v. y.env (k.through b c v)) c) (sym (stmts_are c (ssa.formed.exits b c lead)))
      (advance (λ v. y.env (k.through b c v)) c [] (block_at p.graph c) refl
      (keeps.over_edge l p e whole ssa y.env b c ((ssa.formed.predecessors b c).1 lead) kept))

  leaves_here : (b : ℕ) (y : Local) (o : Option (List ℕ))
      → Keeps l p e whole ssa y.env b (block_at p.graph b)
      → IsHere (leaves k b o y)
  leaves_here b y None kept = λ over. absurd (cc)
  leaves_here b y (Some ns) kept = arrives_here b ns y (leads (exit_at k b) ns) refl kept

  -- ---- a step

  exec_here : (b : ℕ) (y : Local) (before behind : List ℕ)
      → block_at p.graph b ≡ before ++ behind
      → IsReady behind
      → Keeps l p e whole ssa y.env b before
      → IsHere (exec l k b (body_of l p.graph behind) y)
  exec_here b y before [] ops ready kept =
      leaves_here b y (all_of (values_of k.widths y.env (exit_args (exit_at k b))))
      (subst (Keeps l p e whole ssa y.env b) (sym (ops ∙ none_more before)) kept)
  exec_here b y before (x ∷ xs) ops ready kept = by_line (line_at l p e whole ssa x found.0 found.1)
    where
      found : (t : OpRow) × (op_at p.graph x ≡ Some t) × (t.block ≡ b)
      found = row_in b x (subst (IsIn x) (sym ops) (in_right x before (x ∷ xs) (inl refl)))

      by_line : IsLine l x found.0.inputs (role_of found.0.code) found.0.width
          → IsHere (exec l k b (line_of l x (op_at p.graph x) ++ body_of l p.graph xs) y)
      by_line (NoLine none h) = absurd (ready (ap (line_of l x) found.1 ∙ none))
      by_line (OneLine a one t r c) =
          subst (λ cs. IsHere (exec l k b (cs ++ body_of l p.graph xs) y)) (sym (ap (line_of l x) found.1 ∙ one))
          (stmt_here b x found.0 a before xs y found.1 ops one kept)

  step_here : (s : Going) → IsHere s → IsHere (blocks_step l k s)
  step_here s here = by_over s.local.world.over refl
    where
      by_here : Here s.local.env s.block s.rest → IsHere (exec l k s.block s.rest s.local)
      by_here h =
          subst (λ cs. IsHere (exec l k s.block cs s.local)) (sym h.left)
          (exec_here s.block s.local h.before h.behind h.ops h.ready h.kept)

      by_over : (o : Option End)
          → s.local.world.over ≡ o
          → IsHere (unless_over o s (exec l k s.block s.rest s.local))
      by_over None is = by_here (here is)
      by_over (Some h) is = λ over. none_some (sym over ∙ is)

  start_here : IsHere (start_blocks l k e)
  start_here over =
      subst (Here (k.first l e) k.entry) (sym (stmts_are p.entry.0 ssa.formed.entry))
      (advance (k.first l e) p.entry.0 [] (block_at p.graph p.entry.0) refl (keeps.at_start l p e whole ssa))

  pub run_here : (n : ℕ) → IsHere (after (blocks_step l k) n (start_blocks l k e))
  run_here n = holds_after l k IsHere step_here n (start_blocks l k e) start_here

  -- ---- places with the same statements left

  pub body_append : (xs ys : List ℕ) → body_of l p.graph (xs ++ ys) ≡ body_of l p.graph xs ++ body_of l p.graph ys
  body_append [] ys = refl
  body_append (x ∷ xs) ys =
      ap (λ cs. line_of l x (op_at p.graph x) ++ cs) (body_append xs ys)
      ∙ sym (append_append (line_of l x (op_at p.graph x)) (body_of l p.graph xs) (body_of l p.graph ys))

  -- a place with these statements left isn't behind the one whose next op has a statement
  no_further : (before behind xs ys : List ℕ)
      → before ++ behind ≡ xs ++ ys
      → body_of l p.graph behind ≡ body_of l p.graph ys
      → IsReady ys
      → (v : ℕ)
      → IsIn v before
      → IsIn v xs
  no_further [] behind xs ys same body ready v m = absurd m
  no_further (b ∷ before) behind [] [] same body ready v m = absurd (cc)
  no_further (b ∷ before) behind [] (y ∷ ys) same body ready v m =
      absurd (longer (line_of l y (op_at p.graph y)) refl)
    where
      tail : List ℕ → List ℕ
      tail [] = []
      tail (z ∷ zs) = zs

      longer : (cs : List Stmt) → line_of l y (op_at p.graph y) ≡ cs → ⊥
      longer [] is = ready is
      longer (a ∷ cs) is =
          let split : body_of l p.graph ys ≡ body_of l p.graph before ++ body_of l p.graph behind =
          ap (body_of l p.graph) (sym (ap tail same)) ∙ body_append before behind in
          let one : length (body_of l p.graph behind)
          ≡ length (cs ++ body_of l p.graph ys) + 1 =
          ap length body ∙ ap (λ zs. length (zs ++ body_of l p.graph ys)) is ∙ omega arith in
          let two : length (body_of l p.graph ys)
          ≡ length (body_of l p.graph before) + length (body_of l p.graph behind) =
          ap length split ∙ length_append (body_of l p.graph before) (body_of l p.graph behind) in
          let three : length (cs ++ body_of l p.graph ys) ≡ length cs + length (body_of l p.graph ys) =
          length_append cs (body_of l p.graph ys) in
          omega (arith, one, two, three)
  no_further (b ∷ before) behind (x ∷ xs) ys same body ready v (inl h) = inl (h ∙ head_same same)
    where
      head_same : b ∷ before ++ behind ≡ x ∷ xs ++ ys → b ≡ x
      head_same e = cc
  no_further (b ∷ before) behind (x ∷ xs) ys same body ready v (inr m) =
      inr (no_further before behind xs ys (ap tail same) body ready v m)
    where
      tail : List ℕ → List ℕ
      tail [] = []
      tail (z ∷ zs) = zs

  -- wherever a value is available its equation holds
  pub equations_hold : (n : ℕ)
      → (state_after l p e n).local.world.over ≡ None
      → (before behind : List ℕ)
      → StandsAt l p (state_after l p e n) before behind
      → (v : ℕ) (r : OpRow)
      → op_at p.graph v ≡ Some r
      → Available (outline (form p)) v (state_after l p e n).block before
      → Equations l p e (state_after l p e n).local.env v r
  equations_hold n over before behind stands v r row available = by_here (run_here n over)
    where
      by_here : Here (state_after l p e n).local.env (state_after l p e n).block (state_after l p e n).rest
          → Equations l p e (state_after l p e n).local.env v r
      by_here h = by_kept (h.kept.each v r row)
        where
          by_kept : Equations l p e (state_after l p e n).local.env v r
              ⊎ IsMissed (form p) v (state_after l p e n).block h.before
              → Equations l p e (state_after l p e n).local.env v r
          by_kept (inl eq) = eq
          by_kept (inr m) =
              absurd (missed_not (form p) v (state_after l p e n).block before
              (missed_less (form p) v (state_after l p e n).block h.before before
              (no_further before behind h.before h.behind (sym stands.ops ∙ h.ops) (sym stands.rest ∙ h.left) h.ready v)
              m) available)
