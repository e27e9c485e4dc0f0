-- A function without quiet ops, whose values they alone read, shows the same. What is needed of the variables are the
-- values of the ops that stay.
use Rattle.std.proofs.Common.{◌≡◌, ◌≢◌, ℕ, ◌<◌, Bool, true, false, List, [], ◌∷◌, ◌++◌, ◌⊎◌, inl, inr, Option, Some, None, refl, sym, ap, ◌∙◌, subst, arith}
use Rattle.std.specs.Prelude.{◌==◌, cond}
use Rattle.heap_nodes.proofs.Places.{some_same, none_some}
use Rattle.pcode_model.specs.declared.listing.Listing.{Listing}
use Rattle.pcode_model.specs.World.{Entry}
use Rattle.cmeaning.specs.declared.tree.Expr.TheVariants as E
use Rattle.cmeaning.specs.declared.tree.Stmt.{Stmt}
use Rattle.cmeaning.proofs.Value.{value_of_var, width_of_var}
use Rattle.blockcode.specs.declared.code.Exit.TheVariants as C
use Rattle.blockcode.specs.Run.{call_returns}
use Rattle.node_lists.specs.Chains.{IsIn, last_or}
use Rattle.node_lists.proofs.Chains.{last_none}
use Rattle.parts.specs.Exprs.{reads_all, own, named, KeepsWidths}
use Rattle.parts.specs.Stmts.{action_of, target_of, args_of}
use Rattle.parts.proofs.Nodes.{with_var}
use Rattle.parts.proofs.Values.{with_each_itself}
use Rattle.edges.specs.Exits.{exit_args, leads}
use Rattle.edges.specs.Run.{Blocks, stmts_of, exit_of, stmts_at, exit_at}
use Rattle.edges.specs.Live.{IsDefined, EndsInCall, IsLeftOf}
use Rattle.edges.specs.Laws.{Shows}
use Rattle.edges.specs.Follow.{Link, Needs, NothingKnown, IsQuiet, Follows, Ends, Kept, Gone, StandsFor}
use Rattle.edges.proofs.Follow.{shows_the_same, target_defined}
use Rattle.edges.proofs.Dead.{Itself}
use Rattle.edges.proofs.Returns.{KeepsCalls, Nothing, Both, Less, left_behind, returns_kept, quiet_no_call}
use Rattle.edges.proofs.Steps.{KeepsStmt, both_do, source_drops, KeepsExit, both_leave, own_carried, moved_own}
use Rattle.opgraph.specs.Graph.{OpRow, op_at, block_at, inputs_in, IsWhole}
use Rattle.ssa_model.specs.declared.form.SsaExit.{SsaExit}
use Rattle.ssa_model.specs.declared.form.SsaExit.TheVariants as X
use Rattle.ssa_model.specs.declared.form.SsaBlock.{SsaBlock}
use Rattle.ssa_model.specs.declared.form.Parts.{Parts}
use Rattle.ssa_model.specs.Roles.{Role, Joins, role_of}
use Rattle.ssa_model.specs.Outline.{Form, form, form_of, form_in, width_in, exit_in, block_with, predecessors_at}
use Rattle.ssa_model.specs.Formed.{exit_role, is_exit_role}
use Rattle.ssa_model.specs.Drops.{without_all}
use Rattle.ssa_model.specs.Edits.{IsSsa}
use Rattle.ssa_model.specs.Lines.{line_of, body_of, exit_over, last_inputs, block_by, beside, or_else, carried, carried_row}
use Rattle.ssa_model.specs.Run.{first_word, blocks_of}
use Rattle.ssa_model.proofs.Dropping.{cases_in, in_is, is_not}
use Rattle.ssa_laws.specs.Quiet.{IsWithout}
use Rattle.ssa_laws.proofs.Lines.{IsLine, NoLine, OneLine}
use Rattle.ssa_laws.proofs.Keeps.{line_at, reads_inputs, target_at, target_is}
use Rattle.ssa_laws.proofs.Runs.{row_in}
use Rattle.ssa_laws.proofs.Retargets.{exit_plain}
use Rattle.ssa_laws.proofs.Leaving.{Leaves, args_in, leaver, is_read}
use Rattle.ssa_laws.proofs.Stopping.{stops_called}
use Rattle.ssa_laws.proofs.Words.{carried_width}

exit_is_exit : (e : SsaExit) (role : Role) → exit_role e ≡ Some role → is_exit_role role ≡ true
exit_is_exit X.Return role h = ap is_exit_role (sym (some_same h))
exit_is_exit (X.Jump to) role h = none_some h
exit_is_exit (X.Test taken other) role h = ap is_exit_role (sym (some_same h))
exit_is_exit (X.Switch arms) role h = ap is_exit_role (sym (some_same h))
exit_is_exit X.Stop role h = none_some h

-- what an edge gives a MULTIEQUAL is one of its inputs
beside_in : (from u : ℕ) (bs vs : List ℕ) → beside from bs vs ≡ Some u → IsIn u vs
beside_in from u [] vs is = none_some is
beside_in from u (b ∷ bs) [] is = none_some is
beside_in from u (b ∷ bs) (v ∷ vs) is = by (b == from) is (beside_in from u bs vs)
  where
    by : (t : Bool)
        → cond t (Some v) (beside from bs vs) ≡ Some u
        → (beside from bs vs ≡ Some u → IsIn u vs)
        → IsIn u (v ∷ vs)
    by true q next = inl (sym (some_same q))
    by false q next = inr (next q)

-- over an edge a value is itself or one of its inputs
pub carried_is : (v from to : ℕ) (bs : List ℕ) (r : OpRow) (role : Role)
    → (carried v from to bs r role ≡ v) ⊎ IsIn (carried v from to bs r role) r.inputs
carried_is v from to bs r (Joins atom) = by (r.block == to) (beside from bs r.inputs) refl
  where
    by : (t : Bool) (o : Option ℕ)
        → beside from bs r.inputs ≡ o
        → (cond t (or_else o v) v ≡ v) ⊎ IsIn (cond t (or_else o v) v) r.inputs
    by false o is = inl refl
    by true None is = inl refl
    by true (Some u) is = inr (beside_in from u bs r.inputs is)
carried_is v from to bs r role = inl refl

module _
    (l : Listing) (p q : Parts) (xs : List ℕ) (e : Entry)
    (whole : IsWhole p.graph)
    (ssa : IsSsa (form p))
    (whole' : IsWhole q.graph)
    (ssa' : IsSsa (form q))
    (less : IsWithout l p q xs)
  where
    abbrev k : Blocks
    k = blocks_of l p

    abbrev m : Blocks
    m = blocks_of l q

    abbrev link : Link
    link = Itself k m

    -- the values of the ops that stay
    abbrev needs : Needs
    needs b rest v = IsIn v xs → ⊥

    -- ---- what stays

    row_kept : (v : ℕ) → (IsIn v xs → ⊥) → op_at q.graph v ≡ op_at p.graph v
    row_kept v n =
        ap (λ (z : Form). z.rows v) less.edited ∙ ap (λ t. cond t None (op_at p.graph v)) (is_not v xs n)

    row_gone : (v : ℕ) → IsIn v xs → op_at q.graph v ≡ None
    row_gone v i =
        ap (λ (z : Form). z.rows v) less.edited ∙ ap (λ t. cond t None (op_at p.graph v)) (in_is v xs i)

    lists_less : (c : ℕ) → block_at q.graph c ≡ without_all xs (block_at p.graph c)
    lists_less c = ap (λ (z : Form). z.lists c) less.edited

    blocks_same : q.blocks ≡ p.blocks
    blocks_same = ap (λ (z : Form). z.blocks) less.edited

    width_kept : (v : ℕ) → (IsIn v xs → ⊥) → k.widths v ≡ m.widths v
    width_kept v n = ap width_in (sym (row_kept v n))

    -- an op that stays reads values that stay
    input_kept : (x v : ℕ) (r : OpRow) → (IsIn x xs → ⊥) → op_at p.graph x ≡ Some r → IsIn v r.inputs → IsIn v xs → ⊥
    input_kept x v r n row reads i = n (less.unread.at x v r row reads i)

    own_widths : (count : ℕ → ℕ) → ((v : ℕ) → 0 < count v → IsIn v xs → ⊥) → KeepsWidths k.widths m.widths own count
    own_widths count kept v r = width_of_var m.widths v ∙ sym (width_kept v (kept v r))

    -- ---- edges

    through_kept : (b c v : ℕ) → (IsIn v xs → ⊥) → IsIn (k.through b c v) xs → ⊥
    through_kept b c v n = by (op_at p.graph v) refl
      where
        by : (o : Option OpRow)
            → op_at p.graph v ≡ o
            → IsIn (carried_row v b c (predecessors_at p.blocks c) o) xs
            → ⊥
        by None is i = n i
        by (Some r) is i = by_case (carried_is v b c (predecessors_at p.blocks c) r (role_of r.code))
          where
            by_case : (carried v b c (predecessors_at p.blocks c) r (role_of r.code) ≡ v)
                ⊎ IsIn (carried v b c (predecessors_at p.blocks c) r (role_of r.code)) r.inputs
                → ⊥
            by_case (inl h) = n (subst (λ z. IsIn z xs) h i)
            by_case (inr h) =
                input_kept v (carried v b c (predecessors_at p.blocks c) r (role_of r.code)) r n is h i

    through_same : (b c v : ℕ) → (IsIn v xs → ⊥) → m.through b c v ≡ k.through b c v
    through_same b c v n = λ i. carried_row v b c (predecessors_at (blocks_same i) c) (row_kept v n i)

    through_width : (b c v : ℕ) → m.widths (m.through b c v) ≡ m.widths v
    through_width b c v = by (op_at q.graph v) refl
      where
        by : (o : Option OpRow)
            → op_at q.graph v ≡ o
            → m.widths (carried_row v b c (predecessors_at q.blocks c) o) ≡ m.widths v
        by None is = refl
        by (Some r) is =
            carried_width m.widths v b c (predecessors_at q.blocks c) r (role_of r.code) (ap width_in is)
            (ssa'.formed.ops v (form_of (op_at q.graph) r) (ap (form_in (op_at q.graph)) is))

    -- ---- exits

    -- the op by which a block is left stays
    leaver_stays : (c : ℕ) (z : SsaBlock) (role : Role)
        → block_with c p.blocks ≡ Some z
        → exit_role z.exit ≡ Some role
        → (x : ℕ)
        × ((r : OpRow)
        × (last_or None (block_at p.graph c) ≡ Some x)
        × (last_or None (block_at q.graph c) ≡ Some x)
        × (op_at p.graph x ≡ Some r)
        × (op_at q.graph x ≡ Some r)
        × (IsIn x xs → ⊥))
    leaver_stays c z role is has =
        let x = leaver l q ssa' c z role (ap (block_with c) blocks_same ∙ is) has in
        by x (cases_in x.op xs)
      where
        by : (x : Leaves l q ssa' c z.exit role)
            → IsIn x.op xs ⊎ (IsIn x.op xs → ⊥)
            → (x : ℕ)
            × ((r : OpRow)
            × (last_or None (block_at p.graph c) ≡ Some x)
            × (last_or None (block_at q.graph c) ≡ Some x)
            × (op_at p.graph x ≡ Some r)
            × (op_at q.graph x ≡ Some r)
            × (IsIn x xs → ⊥))
        by x (inl i) = none_some (sym (row_gone x.op i) ∙ x.at)
        by x (inr n) =
            let row : op_at p.graph x.op ≡ Some x.row = sym (row_kept x.op n) ∙ x.at in
            let found = row_in l q e whole' ssa' c x.op (last_none (block_at q.graph c) x.op x.last) in
            let place : x.row.block ≡ c = ap (λ (t : OpRow). t.block) (some_same (sym x.at ∙ found.1)) ∙ found.2 in
            let closes = ssa.formed.leaves x.op (form_of (op_at p.graph) x.row) (ap (form_in (op_at p.graph)) row)
            (ap is_exit_role x.is ∙ exit_is_exit z.exit role has) in (
              x.op,
              (x.row, ap (λ d. last_or None (block_at p.graph d)) (sym place) ∙ closes.1.0.0, x.last, row, x.at, n),
            )

    exits_same : (c : ℕ) → exit_at m c ≡ exit_at k c
    exits_same c =
        ap (λ bs. exit_of (block_by l q.graph c (exit_in (block_with c bs)))) blocks_same
        ∙ by_block (block_with c p.blocks) refl
      where
        by_role : (z : SsaBlock) (o : Option Role)
            → block_with c p.blocks ≡ Some z
            → exit_role z.exit ≡ o
            → exit_over z.exit (last_inputs q.graph (last_or None (block_at q.graph c)))
            ≡ exit_over z.exit (last_inputs p.graph (last_or None (block_at p.graph c)))
        by_role z None is none =
            exit_plain z.exit (last_inputs q.graph (last_or None (block_at q.graph c)))
            (last_inputs p.graph (last_or None (block_at p.graph c))) none
        by_role z (Some role) is has =
            let x = leaver_stays c z role is has in
            ap (exit_over z.exit)
            (ap (last_inputs q.graph) x.1.2
            ∙ ap inputs_in (x.1.4 ∙ sym x.1.3)
            ∙ sym (ap (last_inputs p.graph) x.1.1))

        by_block : (o : Option SsaBlock)
            → block_with c p.blocks ≡ o
            → exit_of (block_by l q.graph c (exit_in o)) ≡ exit_of (block_by l p.graph c (exit_in o))
        by_block None is = refl
        by_block (Some z) is = by_role z (exit_role z.exit) is refl

    exit_kept : (c v : ℕ) → 0 < reads_all (exit_args (exit_at k c)) v → IsIn v xs → ⊥
    exit_kept c v r = by (block_with c p.blocks) refl r
      where
        by : (o : Option SsaBlock)
            → block_with c p.blocks ≡ o
            → 0 < reads_all (exit_args (exit_of (block_by l p.graph c (exit_in o)))) v
            → IsIn v xs
            → ⊥
        by None is h = absurd (omega (arith, h))
        by (Some z) is h =
            let read = args_in z.exit (last_inputs p.graph (last_or None (block_at p.graph c))) v (is_read l p ssa c z is) h in
            let x = leaver_stays c z read.1.0 is read.1.1 in
            input_kept x.0 v x.1.0 x.1.5 x.1.3
            (subst (IsIn v) (ap (last_inputs p.graph) x.1.1 ∙ ap inputs_in x.1.3) read.0)

    keeps_exit : (b : ℕ) → KeepsExit link needs b own
    keeps_exit b = record {
      leads = λ ns. ap (λ x. leads x ns) (exits_same b) ∙ sym (moved_own (leads (exit_at k b) ns));
      args = with_each_itself (exit_args (exit_at k b)) ∙ sym (ap exit_args (exits_same b));
      widths = own_widths (reads_all (exit_args (exit_at k b))) (exit_kept b);
      needed = exit_kept b;
      edges = λ c to v need. record {
        needed = through_kept b c v need;
        same = with_var (named (m.through b c)) v ∙ ap E.Var (through_same b c v need);
        widths = λ y r. through_width b c y;
      };
    }

    -- ---- statements

    line_kept : (x : ℕ) → (IsIn x xs → ⊥) → line_of l x (op_at q.graph x) ≡ line_of l x (op_at p.graph x)
    line_kept x n = ap (line_of l x) (row_kept x n)

    -- the ops behind a place that stay
    abbrev kept_body : List ℕ → List Stmt
    kept_body zs = body_of l q.graph (without_all xs zs)

    kept_more : (x : ℕ) (zs : List ℕ)
        → (IsIn x xs → ⊥)
        → kept_body (x ∷ zs) ≡ line_of l x (op_at p.graph x) ++ kept_body zs
    kept_more x zs n =
        ap (λ t. body_of l q.graph (cond t (without_all xs zs) (x ∷ without_all xs zs))) (is_not x xs n)
        ∙ ap (λ cs. cs ++ kept_body zs) (line_kept x n)

    kept_less : (x : ℕ) (zs : List ℕ) → IsIn x xs → kept_body (x ∷ zs) ≡ kept_body zs
    kept_less x zs i =
        ap (λ t. body_of l q.graph (cond t (without_all xs zs) (x ∷ without_all xs zs))) (in_is x xs i)

    module _ (b : ℕ) where
      -- what is left of the block, and what stands for it; and the calls stay
      pub record IsLess (rest rest' : List Stmt) : Type 0 where
        pub calls : KeepsCalls rest rest'
        pub follows : (exit_at k b ≡ C.Stop → IsLeftOf rest) → Follows l link needs NothingKnown b own rest rest'

      ends_less : IsLess [] []
      ends_less = record {
        calls = Nothing;
        follows = λ left. Ends own [] (both_leave link needs NothingKnown b own (keeps_exit b));
      }

      kept_stmt : (x : ℕ) (r : OpRow) (a : Stmt) (rest rest' : List Stmt)
          → (IsIn x xs → ⊥)
          → op_at p.graph x ≡ Some r
          → line_of l x (Some r) ≡ a ∷ []
          → KeepsCalls rest rest'
          → (exit_at k b ≡ C.Stop → IsLeftOf rest)
          → KeepsStmt link needs b own own a a rest rest'
      kept_stmt x r a rest rest' n row line calls left =
          let reads = λ (v : ℕ) (h : 0 < reads_all (args_of a) v).
          input_kept x v r n row (reads_inputs l p e whole ssa x v r a row line h) in
          record {
            action = refl;
            returns = λ c is.
                returns_kept rest rest' (exit_at k b) calls left ∙ ap (call_returns rest') (sym (exits_same b));
            args = with_each_itself (args_of a);
            widths = own_widths (reads_all (args_of a)) reads;
            needed = reads;
            carried = λ v need.
                own_carried k.widths m.widths (needs b (a ∷ rest)) (target_of a) v (width_kept v need) (λ h. need);
          }

      kept_less_one : (x : ℕ) (r : OpRow) (a : Stmt) (rest rest' : List Stmt)
          → (IsIn x xs → ⊥)
          → op_at p.graph x ≡ Some r
          → line_of l x (Some r) ≡ a ∷ []
          → IsLess rest rest'
          → IsLess (a ∷ rest) (a ∷ rest')
      kept_less_one x r a rest rest' n row line next = record {
        calls = Both a a rest rest' next.calls;
        follows = λ left.
            let left' = λ (h : exit_at k b ≡ C.Stop). left_behind a rest (left h) in
            Kept own own a a rest rest'
            (both_do link needs NothingKnown b own own a a rest rest'
            (kept_stmt x r a rest rest' n row line next.calls left'))
            (next.follows left');
      }

      -- a statement of an op that goes gives its value alone
      gone_less_one : (x : ℕ) (r : OpRow) (a : Stmt) (rest rest' : List Stmt)
          → IsIn x xs
          → op_at p.graph x ≡ Some r
          → line_of l x (Some r) ≡ a ∷ []
          → IsLess rest rest'
          → IsLess (a ∷ rest) rest'
      gone_less_one x r a rest rest' i row line next = record {
        calls = Less a rest rest' (quiet_no_call a quiet) next.calls;
        follows = λ left.
            Gone own own a rest rest'
            (source_drops link needs NothingKnown b l own a rest rest' quiet (λ v need. (away v need, need)))
            (next.follows (λ h. left_behind a rest (left h)));
      }
        where
          quiet : IsQuiet (action_of a)
          quiet = less.quiet x a i (ap (line_of l x) row ∙ line)

          away : (v : ℕ) → (IsIn v xs → ⊥) → target_of a ≢ Some v
          away v need is =
              need (subst (λ z. IsIn z xs) (sym (target_at x v r.width (sym (target_is l p e whole ssa x r a row line) ∙ is))) i)

      drop_follows : (zs : List ℕ) → IsLess (body_of l p.graph zs) (kept_body zs)
      drop_follows [] = ends_less
      drop_follows (x ∷ zs) = by_case (cases_in x xs) (drop_follows zs)
        where
          lines : (o : Option OpRow)
              → op_at p.graph x ≡ o
              → (IsIn x xs → ⊥)
              → IsLess (body_of l p.graph zs) (kept_body zs)
              → IsLess (line_of l x o ++ body_of l p.graph zs) (line_of l x o ++ kept_body zs)
          lines None row n next = next
          lines (Some r) row n next = by_line (line_at l p e whole ssa x r row)
            where
              by_line : IsLine l x r.inputs (role_of r.code) r.width
                  → IsLess (line_of l x (Some r) ++ body_of l p.graph zs) (line_of l x (Some r) ++ kept_body zs)
              by_line (NoLine none h) =
                  subst (λ cs. IsLess (cs ++ body_of l p.graph zs) (cs ++ kept_body zs)) (sym none) next
              by_line (OneLine a one t reads c) =
                  subst (λ cs. IsLess (cs ++ body_of l p.graph zs) (cs ++ kept_body zs)) (sym one)
                  (kept_less_one x r a (body_of l p.graph zs) (kept_body zs) n row one next)

          gone : (o : Option OpRow)
              → op_at p.graph x ≡ o
              → IsIn x xs
              → IsLess (body_of l p.graph zs) (kept_body zs)
              → IsLess (line_of l x o ++ body_of l p.graph zs) (kept_body zs)
          gone None row i next = next
          gone (Some r) row i next = by_line (line_at l p e whole ssa x r row)
            where
              by_line : IsLine l x r.inputs (role_of r.code) r.width
                  → IsLess (line_of l x (Some r) ++ body_of l p.graph zs) (kept_body zs)
              by_line (NoLine none h) = subst (λ cs. IsLess (cs ++ body_of l p.graph zs) (kept_body zs)) (sym none) next
              by_line (OneLine a one t reads c) =
                  subst (λ cs. IsLess (cs ++ body_of l p.graph zs) (kept_body zs)) (sym one)
                  (gone_less_one x r a (body_of l p.graph zs) (kept_body zs) i row one next)

          by_case : IsIn x xs ⊎ (IsIn x xs → ⊥)
              → IsLess (body_of l p.graph zs) (kept_body zs)
              → IsLess (body_of l p.graph (x ∷ zs)) (kept_body (x ∷ zs))
          by_case (inl i) next =
              subst (IsLess (body_of l p.graph (x ∷ zs))) (sym (kept_less x zs i)) (gone (op_at p.graph x) refl i next)
          by_case (inr n) next =
              subst (IsLess (body_of l p.graph (x ∷ zs))) (sym (kept_more x zs n)) (lines (op_at p.graph x) refl n next)

      -- ---- a block

      left_of : (o : Option SsaBlock)
          → block_with b p.blocks ≡ o
          → exit_at k b ≡ C.Stop
          → IsLeftOf (stmts_of (block_by l p.graph b (exit_in o)))
      left_of None is stop = inr refl
      left_of (Some z) is stop =
          let block = ap (λ o. block_by l p.graph b (exit_in o)) is in
          inl (subst EndsInCall (ap stmts_of block) (stops_called l p ssa b (_, block) stop))

      block_follows : Follows l link needs NothingKnown b own (stmts_at k b) (stmts_at m b)
      block_follows =
          subst (Follows l link needs NothingKnown b own (stmts_at k b)) (sym there) (by (block_with b p.blocks) refl)
        where
          there : stmts_at m b ≡ stmts_of (block_by l q.graph b (exit_in (block_with b p.blocks)))
          there = ap (λ bs. stmts_of (block_by l q.graph b (exit_in (block_with b bs)))) blocks_same

          by : (o : Option SsaBlock)
              → block_with b p.blocks ≡ o
              → Follows l link needs NothingKnown b own (stmts_of (block_by l p.graph b (exit_in o)))
              (stmts_of (block_by l q.graph b (exit_in o)))
          by None is = ends_less.follows (λ h. inr refl)
          by (Some z) is =
              subst (Follows l link needs NothingKnown b own (body_of l p.graph (block_at p.graph b)))
              (sym (ap (body_of l q.graph) (lists_less b)))
              ((drop_follows (block_at p.graph b)).follows (left_of (Some z) is))

    stands : StandsFor l link needs NothingKnown
    stands = record {
      entry = sym (ap (λ (z : Form). z.entry) less.edited);
      first = λ g v need n h.
          value_of_var m.widths (m.first l g) v ∙ ap (first_word l g) (row_kept v need) ∙ h;
      blocks = block_follows;
    }

    -- The function without the ops shows the same.
    pub without_shows : IsDefined l k e → Shows l k m e
    without_shows defined = record {
      runs = shows_the_same l link needs NothingKnown stands e (λ i j. tt) defined;
      defined = target_defined l link needs NothingKnown stands e (λ i j. tt) defined;
    }
