-- To read another value, which holds the same, leaves the run equal step by step.
use Rattle.std.proofs.Common.{◌≡◌, ℕ, zero, suc, ◌<◌, Bool, true, false, List, [], ◌∷◌, ◌++◌, ◌⊎◌, inl, inr, map, Option, Some, None, refl, sym, ap, ◌∙◌, subst, slice_get, arith}
use Rattle.std.specs.Prelude.{◌==◌, cond}
use Rattle.std.proofs.Math.Path.{fun_ext}
use Rattle.heap_nodes.proofs.Places.{some_same}
use Rattle.machine.specs.Trace.{End, Undefined}
use Rattle.machine.specs.Machine.{after}
use Rattle.pcode_model.specs.declared.listing.Listing.{Listing}
use Rattle.pcode_model.specs.World.{Entry, first_world, unless_over}
use Rattle.cmeaning.specs.declared.tree.Stmt.{Stmt}
use Rattle.cmeaning.specs.Do.{Local, ends, values_of, do_simple}
use Rattle.node_lists.specs.Chains.{IsIn, Apart, last_or}
use Rattle.node_lists.proofs.Chains.{eqb_is, in_right, apart_sides}
use Rattle.opgraph.proofs.Relinks.{last_split}
use Rattle.std.proofs.lemmas.List.{map-append}
use Rattle.blockcode.specs.Run.{call_returns}
use Rattle.parts.specs.Exprs.{Env, reads_all, named, all_of}
use Rattle.parts.specs.Stmts.{with_args}
use Rattle.edges.specs.Exits.{exit_args, exit_with, Where, Onto, Out, leads}
use Rattle.edges.specs.Run.{Blocks, Going, going, stmts_of, exit_of, exit_at, stmts_at, over_edge, arrives, leaves, returns_at, exec, blocks_step, first_state, start_blocks}
use Rattle.edges.proofs.Steps.{exit_with_args, exit_with_leads}
use Rattle.opgraph.specs.Graph.{OpRow, op_at, block_at, inputs_in, IsWhole, renamed, renamed_row}
use Rattle.ssa_model.specs.declared.form.SsaBlock.{SsaBlock}
use Rattle.ssa_model.specs.declared.form.Parts.{Parts}
use Rattle.ssa_model.specs.Roles.{Role, Joins, role_of}
use Rattle.ssa_model.specs.Outline.{Form, bytes_of, form, outline, form_of, form_in, width_in, exit_in, block_with, predecessors_at}
use Rattle.ssa_model.specs.Paths.{UsedAt, Read, Joined, IsJoin, before_op}
use Rattle.ssa_model.specs.Formed.{fits}
use Rattle.ssa_model.specs.Edits.{IsSsa}
use Rattle.ssa_model.specs.Lines.{line_of, line_by, body_of, exit_over, last_inputs, block_by, beside, or_else, carried, carried_row}
use Rattle.ssa_model.specs.Run.{first_word, blocks_of}
use Rattle.ssa_model.proofs.Renaming.{width_kept, either, value_kept}
use Rattle.ssa_laws.specs.Law.{state_after, StandsAt}
use Rattle.ssa_laws.specs.Replace.{IsSameWord}
use Rattle.ssa_laws.proofs.Lines.{IsLine, NoLine, OneLine}
use Rattle.ssa_laws.proofs.Keeps.{line_at, reads_inputs, no_line, join_line, before_first}
use Rattle.ssa_laws.proofs.Runs.{row_in, stmts_are, exit_is, in_ids, one_further, none_more}
use Rattle.ssa_laws.proofs.Retargets.{step_last}
use Rattle.ssa_laws.proofs.Leaving.{exit_lines, exit_no_join, args_in, leaver, last_is, is_read}
use Rattle.ssa_laws.proofs.Renames.{line_under, exit_under, calls_under, AreSame, values_under, does_under, beside_under}

-- ---- edges

carried_under : (g : ℕ → ℕ) (env : Env) (v from to : ℕ) (bs : List ℕ) (r : OpRow) (role : Role)
    → (IsJoin role
    → r.block ≡ to
    → (k u : ℕ)
    → slice_get bs k ≡ Some from
    → slice_get r.inputs k ≡ Some u
    → env (g u) ≡ env u)
    → env (carried v from to bs (record r { inputs = map g r.inputs }) role) ≡ env (carried v from to bs r role)
carried_under g env v from to bs r (Joins atom) h = by (r.block == to) refl
  where
    by : (t : Bool)
        → (r.block == to) ≡ t
        → env (cond t (or_else (beside from bs (map g r.inputs)) v) v)
        ≡ env (cond t (or_else (beside from bs r.inputs) v) v)
    by true is = beside_under g env from v bs r.inputs (h tt (eqb_is r.block to is))
    by false is = refl
carried_under g env v from to bs r role h = refl

module _
    (l : Listing) (p q : Parts) (old new : ℕ) (e : Entry)
    (whole : IsWhole p.graph)
    (ssa : IsSsa (form p))
    (same : IsSameWord l p q old new)
  where
    abbrev k : Blocks
    k = blocks_of l p

    abbrev k' : Blocks
    k' = blocks_of l q

    abbrev g : ℕ → ℕ
    g = renamed old new

    -- ---- what stays

    row_same : (v : ℕ) → op_at q.graph v ≡ renamed_row old new (op_at p.graph v)
    row_same v = ap (λ (z : Form). z.rows v) same.edited

    lists_same : (c : ℕ) → block_at q.graph c ≡ block_at p.graph c
    lists_same c = ap (λ (z : Form). z.lists c) same.edited

    blocks_same : q.blocks ≡ p.blocks
    blocks_same = ap (λ (z : Form). z.blocks) same.edited

    widths_same : k'.widths ≡ k.widths
    widths_same = fun_ext (λ v. ap width_in (row_same v) ∙ width_kept old new (op_at p.graph v))

    first_same : k'.first l e ≡ k.first l e
    first_same = fun_ext (λ v. ap (first_word l e) (row_same v) ∙ by (op_at p.graph v))
      where
        by : (o : Option OpRow) → first_word l e (renamed_row old new o) ≡ first_word l e o
        by None = refl
        by (Some r) = refl

    form_fits : (v : ℕ) (r : OpRow)
        → op_at p.graph v ≡ Some r
        → fits (role_of r.code) (bytes_of r.width) (map k.widths r.inputs) ≡ true
    form_fits v r is = ssa.formed.ops v (form_of (op_at p.graph) r) (ap (form_in (op_at p.graph)) is)

    -- a statement reads the values of its inputs under g
    line_same : (v : ℕ) → line_of l v (op_at q.graph v) ≡ map (with_args (named g)) (line_of l v (op_at p.graph v))
    line_same v = ap (line_of l v) (row_same v) ∙ by (op_at p.graph v) refl
      where
        by : (o : Option OpRow)
            → op_at p.graph v ≡ o
            → line_of l v (renamed_row old new o) ≡ map (with_args (named g)) (line_of l v o)
        by None is = refl
        by (Some r) is = line_under g l v k.widths r.inputs (role_of r.code) r.width (form_fits v r is)

    body_same : (zs : List ℕ) → body_of l q.graph zs ≡ map (with_args (named g)) (body_of l p.graph zs)
    body_same [] = refl
    body_same (z ∷ zs) =
        (λ i. line_same z i ++ body_same zs i)
        ∙ sym (map-append (with_args (named g)) (line_of l z (op_at p.graph z)) (body_of l p.graph zs))

    inputs_same : (o : Option ℕ) → last_inputs q.graph o ≡ map g (last_inputs p.graph o)
    inputs_same None = refl
    inputs_same (Some y) = ap inputs_in (row_same y) ∙ by (op_at p.graph y)
      where
        by : (o : Option OpRow) → inputs_in (renamed_row old new o) ≡ map g (inputs_in o)
        by None = refl
        by (Some r) = refl

    -- ---- exits

    exits_same : (c : ℕ) → exit_at k' c ≡ exit_with (named g) (exit_at k c)
    exits_same c =
        ap (λ bs. exit_of (block_by l q.graph c (exit_in (block_with c bs)))) blocks_same
        ∙ by (block_with c p.blocks) refl
      where
        by : (o : Option SsaBlock)
            → block_with c p.blocks ≡ o
            → exit_of (block_by l q.graph c (exit_in o))
            ≡ exit_with (named g) (exit_of (block_by l p.graph c (exit_in o)))
        by None is = refl
        by (Some z) is =
            ap (exit_over z.exit)
            (ap (λ xs. last_inputs q.graph (last_or None xs)) (lists_same c)
            ∙ inputs_same (last_or None (block_at p.graph c)))
            ∙ exit_under g z.exit (last_inputs p.graph (last_or None (block_at p.graph c)))
            (is_read l p ssa c z is)

    -- ---- places

    -- What the premise says of a place, told by the ops that are left: where the old value is read, the new one
    -- holds the same.
    abbrev WordAt : ℕ → List ℕ → Local → Type 0
    WordAt c behind y =
        (ys zs : List ℕ)
        → block_at p.graph c ≡ ys ++ zs
        → body_of l p.graph behind ≡ body_of l p.graph zs
        → UsedAt (form p) old c ys
        → y.env new ≡ y.env old

    -- a value that is read at a place holds the same under g
    same_word : (c : ℕ) (behind ys zs : List ℕ) (y : Local) (v : ℕ)
        → WordAt c behind y
        → block_at p.graph c ≡ ys ++ zs
        → body_of l p.graph behind ≡ body_of l p.graph zs
        → UsedAt (form p) v c ys
        → y.env (g v) ≡ y.env v
    same_word c behind ys zs y v word ops body used = by (either old new v (g v) refl)
      where
        by : ((v ≡ old) × (g v ≡ new)) ⊎ (g v ≡ v) → y.env (g v) ≡ y.env v
        by (inl h) =
            ap y.env h.1 ∙ word ys zs ops body (subst (λ z. UsedAt (form p) z c ys) h.0 used) ∙ ap y.env (sym h.0)
        by (inr h) = ap y.env h

    -- an op reads its inputs where it stands
    used_here : (c x v : ℕ) (t : OpRow) (before behind : List ℕ)
        → block_at p.graph c ≡ before ++ x ∷ behind
        → op_at p.graph x ≡ Some t
        → (IsJoin (role_of t.code) → ⊥)
        → IsIn v t.inputs
        → UsedAt (form p) v c before
    used_here c x v t before behind ops row plain m =
        let found = row_in l p e whole ssa c x (subst (IsIn x) (sym ops) (in_right x before (x ∷ behind) (inl refl))) in
        let place : t.block ≡ c = ap (λ (z : OpRow). z.block) (some_same (sym row ∙ found.1)) ∙ found.2 in
        Read x t row plain m (sym place)
        (sym
        (ap (λ d. before_op x (block_at p.graph d)) place
        ∙ ap (before_op x) ops
        ∙ before_first x before behind
        (λ n. apart_sides before (x ∷ behind) x (subst Apart ops (whole.ops_once c)) n (inl refl))))

    value_width : (v : ℕ) → k.widths (g v) ≡ k.widths v
    value_width v = value_kept old new (form p) same.width v

    -- ---- an exit

    exit_args_same : (c : ℕ) (y : Local)
        → WordAt c [] y
        → AreSame g k.widths y.env (reads_all (exit_args (exit_at k c)))
    exit_args_same c y word v r = (value_width v, by_block (block_with c p.blocks) refl r)
      where
        by_block : (o : Option SsaBlock)
            → block_with c p.blocks ≡ o
            → 0 < reads_all (exit_args (exit_of (block_by l p.graph c (exit_in o)))) v
            → y.env (g v) ≡ y.env v
        by_block None is h = absurd (omega (arith, h))
        by_block (Some z) is h =
            let read =
            args_in z.exit (last_inputs p.graph (last_or None (block_at p.graph c))) v (is_read l p ssa c z is) h in
            let role = read.1.0 in
            let x = leaver l p ssa c z role is read.1.1 in
            let split = last_split (block_at p.graph c) x.op x.last in
            let none : line_of l x.op (op_at p.graph x.op) ≡ [] =
            ap (line_of l x.op) x.at
            ∙ ap (λ r. line_by l x.op x.row.inputs r x.row.width) x.is
            ∙ exit_lines l x.op x.row.inputs x.row.width z.exit role read.1.1 in
            same_word c [] split.0 (x.op ∷ []) y v word split.1
            (sym (ap (λ cs. cs ++ []) none))
            (used_here c x.op v x.row split.0 [] split.1 x.at
            (λ j. exit_no_join z.exit role read.1.1 (subst IsJoin x.is j))
            (subst (IsIn v) (last_is l p ssa c z.exit role x) read.0))

    -- over an edge the words are the same
    over_same : (c d : ℕ) (y : Local)
        → WordAt c [] y
        → over_edge (k'.through c d) y ≡ over_edge (k.through c d) y
    over_same c d y word =
        ap (λ (s : Env). record { env = s; left = y.left; world = y.world }) (fun_ext (λ v. by v))
      where
        by_row : (v : ℕ) (o : Option OpRow)
            → op_at p.graph v ≡ o
            → y.env (carried_row v c d (predecessors_at p.blocks d) (renamed_row old new o))
            ≡ y.env (carried_row v c d (predecessors_at p.blocks d) o)
        by_row v None is = refl
        by_row v (Some r) is =
            carried_under g y.env v c d (predecessors_at p.blocks d) r (role_of r.code)
            (λ j here n u from at.
            same_word c [] (block_at p.graph c) [] y u word (sym (none_more (block_at p.graph c))) refl
            (Joined v n r is j (ap (λ b. slice_get (predecessors_at p.blocks b) n) here ∙ from) at refl))

        by : (v : ℕ) → y.env (k'.through c d v) ≡ y.env (k.through c d v)
        by v =
            (λ i. y.env (carried_row v c d (predecessors_at (blocks_same i) d) (row_same v i)))
            ∙ by_row v (op_at p.graph v) refl

    -- ---- states

    -- both stand at one place with the same words and the same world
    pub data Pair : Going → Going → Type 0 where
      At : (c : ℕ) (before behind : List ℕ) (y : Local)
          → block_at p.graph c ≡ before ++ behind
          → Pair (going c (body_of l p.graph behind) y) (going c (body_of l q.graph behind) y)

    stmts_same : (c : ℕ)
        → c < (outline (form p)).count
        → stmts_at k' c ≡ body_of l q.graph (block_at p.graph c)
    stmts_same c low =
        let z = in_ids l p e whole ssa c p.blocks ((ssa.formed.all c).1 low) in
        ap (λ bs. stmts_of (block_by l q.graph c (exit_in (block_with c bs)))) blocks_same
        ∙ ap (λ o. stmts_of (block_by l q.graph c (exit_in o))) z.1
        ∙ ap (body_of l q.graph) (lists_same c)

    arrive_pair : (c : ℕ) (ns : List ℕ) (y : Local) (h : Where)
        → leads (exit_at k c) ns ≡ h
        → WordAt c [] y
        → Pair (arrives k c h y) (arrives k' c h y)
    arrive_pair c ns y (Out e) is word =
        At c (block_at p.graph c) [] (ends e y) (sym (none_more (block_at p.graph c)))
    arrive_pair c ns y (Onto d) is word =
        let low = ssa.formed.exits c d (exit_is l p e whole ssa c ns d is) in
        let z = over_edge (k.through c d) y in
        subst (λ (u : Local). Pair (going d (stmts_at k d) z) (going d (stmts_at k' d) u)) (sym (over_same c d y word))
        (subst (λ cs. Pair (going d (stmts_at k d) z) (going d cs z)) (sym (stmts_same d low))
        (subst (λ cs. Pair (going d cs z) (going d (body_of l q.graph (block_at p.graph d)) z))
        (sym (stmts_are l p e whole ssa d low))
        (At d [] (block_at p.graph d) z refl)))

    leave_pair : (c : ℕ) (y : Local) (o : Option (List ℕ))
        → WordAt c [] y
        → Pair (leaves k c o y) (leaves k' c o y)
    leave_pair c y None word =
        At c (block_at p.graph c) [] (ends Undefined y) (sym (none_more (block_at p.graph c)))
    leave_pair c y (Some ns) word =
        subst (λ h. Pair (arrives k c (leads (exit_at k c) ns) y) (arrives k' c h y))
        (sym (ap (λ x. leads x ns) (exits_same c) ∙ exit_with_leads (named g) (exit_at k c) ns))
        (arrive_pair c ns y (leads (exit_at k c) ns) refl word)

    values_same : (c : ℕ) (y : Local)
        → WordAt c [] y
        → all_of (values_of k'.widths y.env (exit_args (exit_at k' c)))
        ≡ all_of (values_of k.widths y.env (exit_args (exit_at k c)))
    values_same c y word =
        (λ i. all_of (values_of (widths_same i) y.env (exit_args (exits_same c i))))
        ∙ ap (λ es. all_of (values_of k.widths y.env es)) (exit_with_args (named g) (exit_at k c))
        ∙ values_under g k.widths y.env (exit_args (exit_at k c)) (exit_args_same c y word)

    -- the statement of an op does the same
    does_same : (c x : ℕ) (t : OpRow) (before zs : List ℕ) (y : Local) (a : Stmt)
        → block_at p.graph c ≡ before ++ x ∷ zs
        → op_at p.graph x ≡ Some t
        → line_of l x (Some t) ≡ a ∷ []
        → WordAt c (x ∷ zs) y
        → do_simple l k'.widths (returns_at k' c (body_of l q.graph zs)) (with_args (named g) a) y
        ≡ do_simple l k.widths (returns_at k c (body_of l p.graph zs)) a y
    does_same c x t before zs y a ops row line word =
        let returns : returns_at k' c (body_of l q.graph zs) ≡ returns_at k c (body_of l p.graph zs) =
        fun_ext (λ callee.
        (λ i. call_returns (body_same zs i) (exits_same c i))
        ∙ calls_under g (body_of l p.graph zs) (exit_at k c)) in
        (λ i. do_simple l (widths_same i) (returns i) (with_args (named g) a) y)
        ∙ does_under g l k.widths (returns_at k c (body_of l p.graph zs)) a y
        (λ v r. (
          value_width v,
          same_word c (x ∷ zs) before (x ∷ zs) y v word ops refl
              (used_here c x v t before zs ops row
              (λ j. no_line (sym (join_line l x t.inputs (role_of t.code) t.width j) ∙ line))
              (reads_inputs l p e whole ssa x v t a row line r)),
        ))

    exec_pair : (c : ℕ) (before behind : List ℕ) (y : Local)
        → block_at p.graph c ≡ before ++ behind
        → WordAt c behind y
        → Pair (exec l k c (body_of l p.graph behind) y) (exec l k' c (body_of l q.graph behind) y)
    exec_pair c before [] y ops word =
        subst (λ o. Pair (leaves k c (all_of (values_of k.widths y.env (exit_args (exit_at k c)))) y) (leaves k' c o y))
        (sym (values_same c y word))
        (leave_pair c y (all_of (values_of k.widths y.env (exit_args (exit_at k c)))) word)
    exec_pair c before (x ∷ zs) y ops word =
        by_line (line_at l p e whole ssa x found.0 found.1)
        (exec_pair c (before ++ x ∷ []) zs y (ops ∙ one_further before zs x))
      where
        found : (t : OpRow) × (op_at p.graph x ≡ Some t) × (t.block ≡ c)
        found = row_in l p e whole ssa c x (subst (IsIn x) (sym ops) (in_right x before (x ∷ zs) (inl refl)))

        by_line : IsLine l x found.0.inputs (role_of found.0.code) found.0.width
            → (WordAt c zs y → Pair (exec l k c (body_of l p.graph zs) y) (exec l k' c (body_of l q.graph zs) y))
            → Pair (exec l k c (body_of l p.graph (x ∷ zs)) y) (exec l k' c (body_of l q.graph (x ∷ zs)) y)
        by_line (NoLine none h) next =
            let mine : line_of l x (op_at p.graph x) ≡ [] = ap (line_of l x) found.1 ∙ none in
            let theirs : line_of l x (op_at q.graph x) ≡ [] = line_same x ∙ ap (map (with_args (named g))) mine in
            subst (λ cs. Pair (exec l k c (cs ++ body_of l p.graph zs) y) (exec l k' c (body_of l q.graph (x ∷ zs)) y))
            (sym mine)
            (subst (λ cs. Pair (exec l k c (body_of l p.graph zs) y) (exec l k' c (cs ++ body_of l q.graph zs) y))
            (sym theirs)
            (next (λ ys us place body. word ys us place (ap (λ cs. cs ++ body_of l p.graph zs) mine ∙ body))))
        by_line (OneLine a one to reads comp) next =
            let mine : line_of l x (op_at p.graph x) ≡ a ∷ [] = ap (line_of l x) found.1 ∙ one in
            let b = with_args (named g) a in
            let theirs : line_of l x (op_at q.graph x) ≡ b ∷ [] = line_same x ∙ ap (map (with_args (named g))) mine in
            let done = do_simple l k.widths (returns_at k c (body_of l p.graph zs)) a y in
            subst (λ cs. Pair (exec l k c (cs ++ body_of l p.graph zs) y) (exec l k' c (body_of l q.graph (x ∷ zs)) y))
            (sym mine)
            (subst (λ cs. Pair (exec l k c (a ∷ body_of l p.graph zs) y) (exec l k' c (cs ++ body_of l q.graph zs) y))
            (sym theirs)
            (subst (λ (u : Local). Pair (going c (body_of l p.graph zs) done) (going c (body_of l q.graph zs) u))
            (sym (does_same c x found.0 before zs y a ops found.1 one word))
            (At c (before ++ x ∷ []) zs done (ops ∙ one_further before zs x))))

    -- ---- steps

    step_pair : (s t : Going)
        → Pair s t
        → ((before behind : List ℕ)
        → s.local.world.over ≡ None
        → StandsAt l p s before behind
        → UsedAt (form p) old s.block before
        → s.local.env new ≡ s.local.env old)
        → Pair (blocks_step l k s) (blocks_step l k' t)
    step_pair s t (At c before behind y ops) word = by_over y.world.over refl
      where
        by_over : (o : Option End)
            → y.world.over ≡ o
            → Pair (unless_over o (going c (body_of l p.graph behind) y) (exec l k c (body_of l p.graph behind) y))
            (unless_over o (going c (body_of l q.graph behind) y) (exec l k' c (body_of l q.graph behind) y))
        by_over None is =
            exec_pair c before behind y ops (λ ys zs place body. word ys zs is (record { ops = place; rest = body }))
        by_over (Some h) is = At c before behind y ops

    start_pair : Pair (start_blocks l k e) (start_blocks l k' e)
    start_pair =
        let low = ssa.formed.entry in
        let entry : q.entry.0 ≡ p.entry.0 = ap (λ (f : Form). f.entry) same.edited in
        let mine = stmts_are l p e whole ssa p.entry.0 low in
        let theirs : stmts_at k' q.entry.0 ≡ body_of l q.graph (block_at p.graph p.entry.0) =
        ap (stmts_at k') entry ∙ stmts_same p.entry.0 low in
        let pair = At p.entry.0 [] (block_at p.graph p.entry.0) (first_state l k e) refl in
        subst (λ (t : Going). Pair (start_blocks l k e) t)
        (λ i. going (sym entry i) (sym theirs i)
        (record { env = sym first_same i; left = λ o. 0; world = first_world e.bytes e }))
        (subst
        (λ (t : Going). Pair t (going p.entry.0 (body_of l q.graph (block_at p.graph p.entry.0)) (first_state l k e)))
        (λ i. going p.entry.0 (sym mine i) (first_state l k e)) pair)

    pairs_from : (n m : ℕ) (t : Going)
        → Pair (after (blocks_step l k) m (start_blocks l k e)) t
        → Pair (after (blocks_step l k) n (after (blocks_step l k) m (start_blocks l k e)))
        (after (blocks_step l k') n t)
    pairs_from zero m t pair = pair
    pairs_from (suc n) m t pair =
        subst (λ (s : Going). Pair (after (blocks_step l k) n s) (after (blocks_step l k') n (blocks_step l k' t)))
        (sym (step_last l k m (start_blocks l k e)))
        (pairs_from n (suc m) (blocks_step l k' t)
        (subst (λ (s : Going). Pair s (blocks_step l k' t)) (step_last l k m (start_blocks l k e))
        (step_pair (after (blocks_step l k) m (start_blocks l k e)) t pair
        (λ before behind over stands used. same.word e m before behind over stands used))))

    same_place : (s t : Going) → Pair s t → (t.block ≡ s.block) × (t.local ≡ s.local)
    same_place s t (At c before behind y ops) = (refl, refl)

    -- the runs are equal step by step
    pub replaced_alike : (n : ℕ)
        → ((state_after l q e n).block ≡ (state_after l p e n).block)
        × ((state_after l q e n).local ≡ (state_after l p e n).local)
    replaced_alike n =
        same_place (state_after l p e n) (state_after l q e n) (pairs_from n 0 (start_blocks l k' e) start_pair)
