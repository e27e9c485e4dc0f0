-- An op of the same value leaves the run equal step by step.
use Rattle.std.proofs.Common.{◌≡◌, ℕ, zero, suc, ◌<◌, Bool, true, List, [], ◌∷◌, ◌++◌, ◌⊎◌, inl, inr, Option, Some, None, refl, sym, ap, ◌∙◌, subst, true≢false}
use Rattle.std.proofs.Math.Path.{fun_ext}
use Rattle.std.proofs.lemmas.Bool.{cases_eq}
use Rattle.heap_nodes.proofs.Places.{some_same, none_some}
use Rattle.bits_core.specs.declared.word.Width.{Width}
use Rattle.machine.specs.Trace.{End, Undefined}
use Rattle.machine.specs.Machine.{after}
use Rattle.pcode_model.specs.declared.listing.Listing.{Listing}
use Rattle.pcode_model.specs.Memory.{Bytes}
use Rattle.pcode_model.specs.World.{World, Entry, first_world, unless_over}
use Rattle.cmeaning.specs.declared.tree.Stmt.{Stmt}
use Rattle.cmeaning.specs.Do.{Local, ends, values_of, do_simple}
use Rattle.blockcode.specs.declared.code.Exit.{Exit}
use Rattle.blockcode.specs.Run.{call_returns}
use Rattle.node_lists.specs.Chains.{last_or}
use Rattle.node_lists.proofs.Chains.{put_here, put_away}
use Rattle.parts.specs.Exprs.{all_of, widths_of}
use Rattle.parts.specs.Stmts.{Action, Sets, Divides, Goes, action_of, target_of, args_of, performed, divides, act, done_with, done_by}
use Rattle.parts.proofs.Parts.{do_by_parts}
use Rattle.edges.specs.Exits.{exit_args, Where, Onto, Out, leads}
use Rattle.edges.specs.Run.{Blocks, Going, going, stmts_of, exit_of, exit_at, stmts_at, over_edge, arrives, leaves, returns_at, exec, blocks_step, first_state, start_blocks}
use Rattle.opgraph.specs.Graph.{OpRow, op_at, block_at, inputs_in, IsWhole}
use Rattle.ssa_model.specs.declared.form.SsaExit.{SsaExit}
use Rattle.ssa_model.specs.declared.form.SsaExit.TheVariants as X
use Rattle.ssa_model.specs.declared.form.SsaBlock.{SsaBlock}
use Rattle.ssa_model.specs.declared.form.Parts.{Parts}
use Rattle.ssa_model.specs.Roles.{Role, Starts, Joins, role_of}
use Rattle.ssa_model.specs.Outline.{Form, form, outline, forms_of, form_in, width_in, width_at, exit_in, block_with, predecessors_in, predecessors_at}
use Rattle.ssa_model.specs.Formed.{exit_role}
use Rattle.ssa_model.specs.Edits.{IsSsa}
use Rattle.ssa_model.specs.Lines.{line_of, line_by, body_of, exit_over, last_inputs, block_by, target, carried, carried_row}
use Rattle.ssa_model.specs.Run.{first_by, first_word, blocks_of}
use Rattle.ssa_laws.specs.Law.{computes, computed, computed_with, value_in, state_after, StandsAt}
use Rattle.ssa_laws.specs.Retarget.{IsSameValue}
use Rattle.ssa_laws.proofs.Lines.{IsLine, NoLine, OneLine}
use Rattle.ssa_laws.proofs.Keeps.{line_at, target_is, no_line}
use Rattle.ssa_laws.proofs.Runs.{stmts_are, in_ids, exit_is, one_further, none_more}

-- ---- what a statement does that computes a value

act_gives : (l : Listing) (returns : ℕ → Bool) (action : Action) (ks ns : List ℕ) (m : ℕ) (left : ℕ → ℕ)
    (w : World Bytes)
    → computes action ≡ true
    → computed action ks ns ≡ Some m
    → act l returns action ks ns left w ≡ Goes (λ k. m) left w
act_gives l returns Sets ks [] m left w h is = none_some is
act_gives l returns Sets ks (n ∷ []) m left w h is = ap (λ z. Goes (λ k. z) left w) (some_same is)
act_gives l returns Sets ks (n ∷ u ∷ ns) m left w h is = none_some is
act_gives l returns (Divides op) [] ns m left w h is = none_some is
act_gives l returns (Divides op) (i ∷ []) ns m left w h is = none_some is
act_gives l returns (Divides op) (i ∷ j ∷ []) [] m left w h is = none_some is
act_gives l returns (Divides op) (i ∷ j ∷ []) (u ∷ []) m left w h is = none_some is
act_gives l returns (Divides op) (i ∷ j ∷ []) (u ∷ v ∷ []) m left w h is = ap (λ o. divides o left w) is
act_gives l returns (Divides op) (i ∷ j ∷ []) (u ∷ v ∷ z ∷ ns) m left w h is = none_some is
act_gives l returns (Divides op) (i ∷ j ∷ z ∷ ks) ns m left w h is = none_some is
act_gives l returns action ks ns m left w h is = absurd (true≢false (sym h))

does : (l : Listing) (ws : ℕ → ℕ) (returns : ℕ → Bool) (a : Stmt) (m : ℕ) (y : Local)
    → computes (action_of a) ≡ true
    → value_in ws y.env a ≡ Some m
    → do_simple l ws returns a y ≡ performed ws (target_of a) (Goes (λ k. m) y.left y.world) y
does l ws returns a m y h is =
    do_by_parts l ws returns a y ∙ by_values (all_of (values_of ws y.env (args_of a))) is
  where
    by_values : (o : Option (List ℕ))
        → computed_with (action_of a) (widths_of ws (args_of a)) o ≡ Some m
        → done_with o y (done_by l ws returns a y) ≡ performed ws (target_of a) (Goes (λ k. m) y.left y.world) y
    by_values None q = none_some q
    by_values (Some ns) q =
        ap (λ d. performed ws (target_of a) d y)
        (act_gives l returns (action_of a) (widths_of ws (args_of a)) ns m y.left y.world h q)

-- ---- lists of statements of which both are empty, or none

abbrev BothEmpty : List Stmt → List Stmt → Type 0
BothEmpty [] [] = Unit {0}
BothEmpty [] (b ∷ bs) = ⊥
BothEmpty (a ∷ cs) [] = ⊥
BothEmpty (a ∷ cs) (b ∷ bs) = Unit {0}

behind_both : (cs xs ys : List Stmt) → BothEmpty xs ys → BothEmpty (cs ++ xs) (cs ++ ys)
behind_both [] xs ys h = h
behind_both (c ∷ cs) xs ys h = tt

returns_alike : (xs ys : List Stmt) (e : Exit) → BothEmpty xs ys → call_returns xs e ≡ call_returns ys e
returns_alike [] [] e h = refl
returns_alike [] (b ∷ ys) e h = absurd h
returns_alike (a ∷ xs) [] e h = absurd h
returns_alike (a ∷ xs) (b ∷ ys) e h = refl

-- no two statements
abbrev IsShort : List Stmt → Type 0
IsShort [] = Unit {0}
IsShort (a ∷ []) = Unit {0}
IsShort (a ∷ b ∷ cs) = ⊥

-- ---- rows that have a statement

first_none : (l : Listing) (e : Entry) (x : ℕ) (vs : List ℕ) (role : Role) (w : Option Width) (k : ℕ) (a : Stmt)
    → line_by l x vs role w ≡ a ∷ []
    → first_by l e k role ≡ None
first_none l e x vs (Starts s) w k a is = no_line is
first_none l e x vs role w k a is = refl

carried_same : (l : Listing) (x : ℕ) (vs : List ℕ) (role : Role) (w : Option Width) (a : Stmt)
    (v from to : ℕ) (bs : List ℕ) (r : OpRow)
    → line_by l x vs role w ≡ a ∷ []
    → carried v from to bs r role ≡ v
carried_same l x vs (Joins atom) w a v from to bs r is = no_line is
carried_same l x vs role w a v from to bs r is = refl

no_exit : (l : Listing) (x : ℕ) (vs : List ℕ) (role : Role) (w : Option Width) (a : Stmt) (e : SsaExit)
    → line_by l x vs role w ≡ a ∷ []
    → exit_role e ≡ Some role
    → ⊥
no_exit l x vs role w a X.Return is h = no_line (ap (λ z. line_by l x vs z w) (some_same h) ∙ is)
no_exit l x vs role w a (X.Jump to) is h = none_some h
no_exit l x vs role w a (X.Test taken other) is h = no_line (ap (λ z. line_by l x vs z w) (some_same h) ∙ is)
no_exit l x vs role w a (X.Switch arms) is h = no_line (ap (λ z. line_by l x vs z w) (some_same h) ∙ is)
no_exit l x vs role w a X.Stop is h = none_some h

-- an exit that no op has reads nothing
pub exit_plain : (e : SsaExit) (vs us : List ℕ) → exit_role e ≡ None → exit_over e vs ≡ exit_over e us
exit_plain X.Return vs us h = none_some (sym h)
exit_plain (X.Jump to) vs us h = refl
exit_plain (X.Test taken other) vs us h = none_some (sym h)
exit_plain (X.Switch arms) vs us h = none_some (sym h)
exit_plain X.Stop vs us h = refl

-- a step more at the end is a step more
pub step_last : (l : Listing) (k : Blocks) (n : ℕ) (s : Going)
    → blocks_step l k (after (blocks_step l k) n s) ≡ after (blocks_step l k) n (blocks_step l k s)
step_last l k zero s = refl
step_last l k (suc n) s = step_last l k n (blocks_step l k s)

module _
    (l : Listing) (p q : Parts) (x : ℕ) (r s : OpRow) (a b : Stmt)
    (e : Entry)
    (whole : IsWhole p.graph)
    (ssa : IsSsa (form p))
    (whole' : IsWhole q.graph)
    (ssa' : IsSsa (form q))
    (same : IsSameValue l p q x r s a b)
  where
    abbrev k : Blocks
    k = blocks_of l p

    abbrev k' : Blocks
    k' = blocks_of l q

    row_here : op_at q.graph x ≡ Some s
    row_here = ap (λ (f : Form). f.rows x) same.form ∙ put_here (Some s) (Some x) (op_at p.graph) x refl

    row_away : (v : ℕ) → (x ≡ v → ⊥) → op_at q.graph v ≡ op_at p.graph v
    row_away v n =
        ap (λ (f : Form). f.rows v) same.form ∙ put_away (Some s) (Some x) (op_at p.graph) v (λ h. n (some_same h))

    lists_same : (c : ℕ) → block_at q.graph c ≡ block_at p.graph c
    lists_same c = ap (λ (f : Form). f.lists c) same.form

    blocks_same : q.blocks ≡ p.blocks
    blocks_same = ap (λ (f : Form). f.blocks) same.form

    -- a fact of each op, by whether it is x
    by_op : (P : ℕ → Type 0) → P x → ((v : ℕ) → (x ≡ v → ⊥) → P v) → (v : ℕ) → P v
    by_op P here away v = by_case (cases_eq x v)
      where
        by_case : (x ≡ v) ⊎ (x ≡ v → ⊥) → P v
        by_case (inl h) = subst P h here
        by_case (inr n) = away v n

    widths_same : k'.widths ≡ k.widths
    widths_same =
        fun_ext (by_op (λ v. k'.widths v ≡ k.widths v)
        (ap width_in row_here ∙ ap Rattle.ssa_model.specs.Outline.bytes_of same.width ∙ sym (ap width_in same.row))
        (λ v n. ap width_in (row_away v n)))

    first_same : k'.first l e ≡ k.first l e
    first_same =
        fun_ext (by_op (λ v. k'.first l e v ≡ k.first l e v)
        (ap (first_word l e) row_here
        ∙ first_none l e x s.inputs (role_of s.code) s.width (Rattle.ssa_model.specs.Outline.bytes_of s.width) b same.after
        ∙ sym (ap (first_word l e) same.row
        ∙ first_none l e x r.inputs (role_of r.code) r.width (Rattle.ssa_model.specs.Outline.bytes_of r.width) a
        same.before))
        (λ v n. ap (first_word l e) (row_away v n)))

    through_same : (from to : ℕ) → k'.through from to ≡ k.through from to
    through_same from to =
        fun_ext (by_op (λ v. k'.through from to v ≡ k.through from to v)
        (ap (carried_row x from to (predecessors_at q.blocks to)) row_here
        ∙ carried_same l x s.inputs (role_of s.code) s.width b x from to (predecessors_at q.blocks to) s same.after
        ∙ sym (ap (carried_row x from to (predecessors_at p.blocks to)) same.row
        ∙ carried_same l x r.inputs (role_of r.code) r.width a x from to (predecessors_at p.blocks to) r same.before))
        (λ v n. λ i. carried_row v from to (predecessors_at (blocks_same i) to) (row_away v n i)))

    -- ---- bodies and exits

    line_away : (v : ℕ) → (x ≡ v → ⊥) → line_of l v (op_at q.graph v) ≡ line_of l v (op_at p.graph v)
    line_away v n = ap (line_of l v) (row_away v n)

    line_here : line_of l x (op_at p.graph x) ≡ a ∷ []
    line_here = ap (line_of l x) same.row ∙ same.before

    line_there : line_of l x (op_at q.graph x) ≡ b ∷ []
    line_there = ap (line_of l x) row_here ∙ same.after

    bodies_both : (zs : List ℕ) → BothEmpty (body_of l p.graph zs) (body_of l q.graph zs)
    bodies_both [] = tt
    bodies_both (z ∷ zs) =
        by_op (λ v. BothEmpty (line_of l v (op_at p.graph v) ++ body_of l p.graph zs)
        (line_of l v (op_at q.graph v) ++ body_of l q.graph zs))
        (subst (λ cs. BothEmpty (cs ++ body_of l p.graph zs) (line_of l x (op_at q.graph x) ++ body_of l q.graph zs))
        (sym line_here)
        (subst (λ cs. BothEmpty (a ∷ body_of l p.graph zs) (cs ++ body_of l q.graph zs)) (sym line_there) tt))
        (λ v n.
        subst (λ cs. BothEmpty (line_of l v (op_at p.graph v) ++ body_of l p.graph zs) (cs ++ body_of l q.graph zs))
        (sym (line_away v n))
        (behind_both (line_of l v (op_at p.graph v)) (body_of l p.graph zs) (body_of l q.graph zs) (bodies_both zs))) z

    -- the last op's inputs matter only where it is an exit's
    exits_by : (c : ℕ) (o : Option SsaBlock)
        → block_with c p.blocks ≡ o
        → exit_of (block_by l q.graph c (exit_in o)) ≡ exit_of (block_by l p.graph c (exit_in o))
    exits_by c None is = refl
    exits_by c (Some z) is =
        by_last (last_or None (block_at p.graph c)) refl
        (ap (last_or None) (lists_same c))
      where
        by_role : (o : Option Role)
            → exit_role z.exit ≡ o
            → last_or None (block_at p.graph c) ≡ Some x
            → exit_over z.exit (last_inputs q.graph (Some x)) ≡ exit_over z.exit (last_inputs p.graph (Some x))
        by_role None h last =
            exit_plain z.exit (last_inputs q.graph (Some x)) (last_inputs p.graph (Some x)) h
        by_role (Some role) h last =
            let left = ssa.formed.left c z.exit role (ap exit_in is) h in
            absurd (last_role left.0 left.1.0 left.1.1.0 left.1.1.1.0 left.1.1.1.1)
          where
            last_role : (y : ℕ)
                → last_or None (block_at p.graph c) ≡ Some y
                → (f : Rattle.ssa_model.specs.Outline.OpForm)
                → forms_of (op_at p.graph) y ≡ Some f
                → f.role ≡ role
                → ⊥
            last_role y is' f form_is role_is =
                no_exit l x r.inputs (role_of r.code) r.width a z.exit same.before
                (h
                ∙ ap Some (sym role_is)
                ∙ ap (λ (o : Option Rattle.ssa_model.specs.Outline.OpForm). role_or o)
                (sym form_is ∙ ap (forms_of (op_at p.graph)) (some_same (sym is' ∙ last)) ∙ ap (form_in (op_at p.graph)) same.row))
              where
                role_or : Option Rattle.ssa_model.specs.Outline.OpForm → Option Role
                role_or None = None
                role_or (Some f) = Some f.role

        by_last : (o : Option ℕ)
            → last_or None (block_at p.graph c) ≡ o
            → last_or None (block_at q.graph c) ≡ last_or None (block_at p.graph c)
            → exit_over z.exit (last_inputs q.graph (last_or None (block_at q.graph c)))
            ≡ exit_over z.exit (last_inputs p.graph (last_or None (block_at p.graph c)))
        by_last None h e =
            ap (λ o. exit_over z.exit (last_inputs q.graph o)) (e ∙ h)
            ∙ sym (ap (λ o. exit_over z.exit (last_inputs p.graph o)) h)
        by_last (Some y) h e =
            ap (λ o. exit_over z.exit (last_inputs q.graph o)) (e ∙ h)
            ∙ by_op (λ v. last_or None (block_at p.graph c) ≡ Some v
            → exit_over z.exit (last_inputs q.graph (Some v)) ≡ exit_over z.exit (last_inputs p.graph (Some v)))
            (λ last. by_role (exit_role z.exit) refl last)
            (λ v n last. ap (λ o. exit_over z.exit (inputs_in o)) (row_away v n)) y h
            ∙ sym (ap (λ o. exit_over z.exit (last_inputs p.graph o)) h)

    exits_same : (c : ℕ) → exit_at k' c ≡ exit_at k c
    exits_same c =
        ap (λ bs. exit_of (block_by l q.graph c (exit_in (block_with c bs)))) blocks_same
        ∙ exits_by c (block_with c p.blocks) refl

    -- at most one statement
    short_line : (z : ℕ) → IsShort (line_of l z (op_at p.graph z))
    short_line z = by_row (op_at p.graph z) refl
      where
        by_line : (t : OpRow) → IsLine l z t.inputs (role_of t.code) t.width → IsShort (line_of l z (Some t))
        by_line t (NoLine none h) = subst IsShort (sym none) tt
        by_line t (OneLine d one h i c) = subst IsShort (sym one) tt

        by_row : (o : Option OpRow) → op_at p.graph z ≡ o → IsShort (line_of l z o)
        by_row None is = tt
        by_row (Some t) is = by_line t (line_at l p e whole ssa z t is)

    -- ---- states

    -- both stand at one place with the same words and the same world
    pub data Pair : Going → Going → Type 0 where
      At : (c : ℕ) (before behind : List ℕ) (y : Local)
          → block_at p.graph c ≡ before ++ behind
          → Pair (going c (body_of l p.graph behind) y) (going c (body_of l q.graph behind) y)

    stmts_same : (c : ℕ)
        → c < (outline (form p)).count
        → stmts_at k' c ≡ body_of l q.graph (block_at p.graph c)
    stmts_same c low = by_block (block_with c p.blocks) refl
      where
        by_block : (o : Option SsaBlock) → block_with c p.blocks ≡ o → stmts_at k' c ≡ body_of l q.graph (block_at p.graph c)
        by_block None is =
            let z = in_ids l p e whole ssa c p.blocks ((ssa.formed.all c).1 low) in none_some (sym is ∙ z.1)
        by_block (Some z) is =
            ap (λ bs. stmts_of (block_by l q.graph c (exit_in (block_with c bs)))) blocks_same
            ∙ ap (λ o. stmts_of (block_by l q.graph c (exit_in o))) is
            ∙ ap (body_of l q.graph) (lists_same c)

    arrive_pair : (c : ℕ) (ns : List ℕ) (y : Local) (h : Where)
        → leads (exit_at k c) ns ≡ h
        → Pair (arrives k c h y) (arrives k' c h y)
    arrive_pair c ns y (Out e) is =
        At c (block_at p.graph c) [] (ends e y) (sym (none_more (block_at p.graph c)))
    arrive_pair c ns y (Onto d) is =
        let low = ssa.formed.exits c d (exit_is l p e whole ssa c ns d is) in
        subst (λ f. Pair (going d (stmts_at k d) (over_edge (k.through c d) y)) (going d (stmts_at k' d) (over_edge f y)))
        (sym (through_same c d))
        (subst (λ cs. Pair (going d (stmts_at k d) (over_edge (k.through c d) y)) (going d cs (over_edge (k.through c d) y)))
        (sym (stmts_same d low))
        (subst (λ cs. Pair (going d cs (over_edge (k.through c d) y))
        (going d (body_of l q.graph (block_at p.graph d)) (over_edge (k.through c d) y)))
        (sym (stmts_are l p e whole ssa d low))
        (At d [] (block_at p.graph d) (over_edge (k.through c d) y) refl)))

    leave_pair : (c : ℕ) (y : Local) (o : Option (List ℕ)) → Pair (leaves k c o y) (leaves k' c o y)
    leave_pair c y None =
        At c (block_at p.graph c) [] (ends Undefined y) (sym (none_more (block_at p.graph c)))
    leave_pair c y (Some ns) =
        subst (λ e. Pair (arrives k c (leads (exit_at k c) ns) y) (arrives k' c (leads e ns) y)) (sym (exits_same c))
        (arrive_pair c ns y (leads (exit_at k c) ns) refl)

    values_same : (c : ℕ) (y : Local)
        → all_of (values_of k'.widths y.env (exit_args (exit_at k' c)))
        ≡ all_of (values_of k.widths y.env (exit_args (exit_at k c)))
    values_same c y = λ i. all_of (values_of (widths_same i) y.env (exit_args (exits_same c i)))

    targets_same : target_of b ≡ target_of a
    targets_same =
        target_is l q e whole' ssa' x s b row_here same.after
        ∙ ap (target x) same.width
        ∙ sym (target_is l p e whole ssa x r a same.row same.before)

    -- the two statements of x leave one state
    own_same : (c : ℕ) (zs : List ℕ) (y : Local) (m : ℕ)
        → value_in k.widths y.env a ≡ Some m
        → value_in k.widths y.env b ≡ Some m
        → do_simple l k'.widths (returns_at k' c (body_of l q.graph zs)) b y
        ≡ do_simple l k.widths (returns_at k c (body_of l p.graph zs)) a y
    own_same c zs y m mine theirs =
        ap (λ ws. do_simple l ws (returns_at k' c (body_of l q.graph zs)) b y) widths_same
        ∙ does l k.widths (returns_at k' c (body_of l q.graph zs)) b m y same.computes_after theirs
        ∙ ap (λ o. performed k.widths o (Goes (λ n. m) y.left y.world) y) targets_same
        ∙ sym (does l k.widths (returns_at k c (body_of l p.graph zs)) a m y same.computes_before mine)

    other_same : (c : ℕ) (zs : List ℕ) (y : Local) (d : Stmt)
        → do_simple l k'.widths (returns_at k' c (body_of l q.graph zs)) d y
        ≡ do_simple l k.widths (returns_at k c (body_of l p.graph zs)) d y
    other_same c zs y d =
        let returns : returns_at k' c (body_of l q.graph zs) ≡ returns_at k c (body_of l p.graph zs) =
        fun_ext (λ callee.
        ap (call_returns (body_of l q.graph zs)) (exits_same c)
        ∙ sym (returns_alike (body_of l p.graph zs) (body_of l q.graph zs) (exit_at k c) (bodies_both zs))) in
        λ i. do_simple l (widths_same i) (returns i) d y

    -- what the premise says of a place, told by the ops that are left
    abbrev ValueAt : ℕ → List ℕ → Local → Type 0
    ValueAt c behind y =
        (ys zs : List ℕ)
        → block_at p.graph c ≡ ys ++ x ∷ zs
        → body_of l p.graph behind ≡ body_of l p.graph (x ∷ zs)
        → (m : ℕ) × (value_in k.widths y.env a ≡ Some m) × (value_in k.widths y.env b ≡ Some m)

    stmt_pair : (c z : ℕ) (before zs : List ℕ) (y : Local) (d d' : Stmt)
        → block_at p.graph c ≡ before ++ z ∷ zs
        → do_simple l k'.widths (returns_at k' c (body_of l q.graph zs)) d' y
        ≡ do_simple l k.widths (returns_at k c (body_of l p.graph zs)) d y
        → Pair (exec l k c (d ∷ body_of l p.graph zs) y) (exec l k' c (d' ∷ body_of l q.graph zs) y)
    stmt_pair c z before zs y d d' ops alike =
        subst (λ (u : Local). Pair (going c (body_of l p.graph zs)
        (do_simple l k.widths (returns_at k c (body_of l p.graph zs)) d y)) (going c (body_of l q.graph zs) u))
        (sym alike)
        (At c (before ++ z ∷ []) zs (do_simple l k.widths (returns_at k c (body_of l p.graph zs)) d y)
        (ops ∙ one_further before zs z))

    exec_pair : (c : ℕ) (before behind : List ℕ) (y : Local)
        → block_at p.graph c ≡ before ++ behind
        → ValueAt c behind y
        → Pair (exec l k c (body_of l p.graph behind) y) (exec l k' c (body_of l q.graph behind) y)
    exec_pair c before [] y ops value =
        subst (λ o. Pair (leaves k c (all_of (values_of k.widths y.env (exit_args (exit_at k c)))) y) (leaves k' c o y))
        (sym (values_same c y))
        (leave_pair c y (all_of (values_of k.widths y.env (exit_args (exit_at k c)))))
    exec_pair c before (z ∷ zs) y ops value =
        by_case (cases_eq x z) (exec_pair c (before ++ z ∷ []) zs y (ops ∙ one_further before zs z))
      where
        lines : (cs ds : List Stmt)
            → line_of l z (op_at p.graph z) ≡ cs
            → line_of l z (op_at q.graph z) ≡ ds
            → Pair (exec l k c (cs ++ body_of l p.graph zs) y) (exec l k' c (ds ++ body_of l q.graph zs) y)
            → Pair (exec l k c (body_of l p.graph (z ∷ zs)) y) (exec l k' c (body_of l q.graph (z ∷ zs)) y)
        lines cs ds e f h =
            subst (λ us. Pair (exec l k c (us ++ body_of l p.graph zs) y) (exec l k' c (body_of l q.graph (z ∷ zs)) y))
            (sym e)
            (subst (λ us. Pair (exec l k c (cs ++ body_of l p.graph zs) y) (exec l k' c (us ++ body_of l q.graph zs) y))
            (sym f) h)

        by_line : (x ≡ z → ⊥)
            → (cs : List Stmt)
            → line_of l z (op_at p.graph z) ≡ cs
            → (ValueAt c zs y → Pair (exec l k c (body_of l p.graph zs) y) (exec l k' c (body_of l q.graph zs) y))
            → IsShort cs
            → Pair (exec l k c (body_of l p.graph (z ∷ zs)) y) (exec l k' c (body_of l q.graph (z ∷ zs)) y)
        by_line n [] is next short =
            lines [] [] is (line_away z n ∙ is)
            (next (λ ys us g h. value ys us g (ap (λ cs. cs ++ body_of l p.graph zs) is ∙ h)))
        by_line n (d ∷ []) is next short =
            lines (d ∷ []) (d ∷ []) is (line_away z n ∙ is) (stmt_pair c z before zs y d d ops (other_same c zs y d))
        by_line n (d ∷ d' ∷ cs) is next short = absurd short

        by_case : (x ≡ z) ⊎ (x ≡ z → ⊥)
            → (ValueAt c zs y → Pair (exec l k c (body_of l p.graph zs) y) (exec l k' c (body_of l q.graph zs) y))
            → Pair (exec l k c (body_of l p.graph (z ∷ zs)) y) (exec l k' c (body_of l q.graph (z ∷ zs)) y)
        by_case (inl h) next =
            let m = value before zs (ops ∙ ap (λ v. before ++ v ∷ zs) (sym h)) (ap (λ v. body_of l p.graph (v ∷ zs)) (sym h)) in
            lines (a ∷ []) (b ∷ [])
            (ap (λ v. line_of l v (op_at p.graph v)) (sym h) ∙ line_here)
            (ap (λ v. line_of l v (op_at q.graph v)) (sym h) ∙ line_there)
            (stmt_pair c z before zs y a b ops (own_same c zs y m.0 m.1 m.2))
        by_case (inr n) next = by_line n (line_of l z (op_at p.graph z)) refl next (short_line z)

    -- ---- steps

    step_pair : (s t : Going)
        → Pair s t
        → ((before behind : List ℕ)
        → s.local.world.over ≡ None
        → StandsAt l p s before (x ∷ behind)
        → (m : ℕ) × (value_in k.widths s.local.env a ≡ Some m) × (value_in k.widths s.local.env b ≡ Some m))
        → Pair (blocks_step l k s) (blocks_step l k' t)
    step_pair s t (At c before behind y ops) value = by_over y.world.over refl
      where
        by_over : (o : Option End)
            → y.world.over ≡ o
            → Pair (unless_over o (going c (body_of l p.graph behind) y) (exec l k c (body_of l p.graph behind) y))
            (unless_over o (going c (body_of l q.graph behind) y) (exec l k' c (body_of l q.graph behind) y))
        by_over None is =
            exec_pair c before behind y ops (λ ys zs g h. value ys zs is (record { ops = g; rest = h }))
        by_over (Some h) is = At c before behind y ops

    start_pair : Pair (start_blocks l k e) (start_blocks l k' e)
    start_pair =
        let low = ssa.formed.entry in
        let entry : q.entry.0 ≡ p.entry.0 = ap (λ (f : Form). f.entry) same.form in
        let mine = stmts_are l p e whole ssa p.entry.0 low in
        let theirs : stmts_at k' q.entry.0 ≡ body_of l q.graph (block_at p.graph p.entry.0) =
        ap (stmts_at k') entry ∙ stmts_same p.entry.0 low in
        let pair = At p.entry.0 [] (block_at p.graph p.entry.0) (first_state l k e) refl in
        subst (λ (t : Going). Pair (start_blocks l k e) t)
        (λ i. going (sym entry i) (sym theirs i)
        (record { env = sym first_same i; left = λ o. 0; world = first_world e.bytes e }))
        (subst (λ (t : Going). Pair t (going p.entry.0 (body_of l q.graph (block_at p.graph p.entry.0)) (first_state l k e)))
        (λ i. going p.entry.0 (sym mine i) (first_state l k e)) pair)

    pairs_from : (n m : ℕ) (t : Going)
        → Pair (after (blocks_step l k) m (start_blocks l k e)) t
        → Pair (after (blocks_step l k) n (after (blocks_step l k) m (start_blocks l k e))) (after (blocks_step l k') n t)
    pairs_from zero m t pair = pair
    pairs_from (suc n) m t pair =
        subst (λ (s : Going). Pair (after (blocks_step l k) n s) (after (blocks_step l k') n (blocks_step l k' t)))
        (sym (step_last l k m (start_blocks l k e)))
        (pairs_from n (suc m) (blocks_step l k' t)
        (subst (λ (s : Going). Pair s (blocks_step l k' t)) (step_last l k m (start_blocks l k e))
        (step_pair (after (blocks_step l k) m (start_blocks l k e)) t pair
        (λ before behind over stands. same.value e m before behind over stands))))

    same_place : (s t : Going) → Pair s t → (t.block ≡ s.block) × (t.local ≡ s.local)
    same_place s t (At c before behind y ops) = (refl, refl)

    -- the runs are equal step by step
    pub run_alike : (n : ℕ)
        → ((state_after l q e n).block ≡ (state_after l p e n).block)
        × ((state_after l q e n).local ≡ (state_after l p e n).local)
    run_alike n =
        same_place (state_after l p e n) (state_after l q e n) (pairs_from n 0 (start_blocks l k' e) start_pair)
