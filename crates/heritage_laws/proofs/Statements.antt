-- The ops of a block's statements do what the statements do.
use Rattle.std.proofs.Common.{◌≡◌, ◌≢◌, ℕ, List, [], ◌∷◌, ◌++◌, ◌⊎◌, inl, inr, Option, Some, None, refl, sym, ap, ◌∙◌, subst, arith}
use Rattle.std.proofs.lemmas.Bool.{cases_eq}
use Rattle.heap_nodes.proofs.Places.{none_some, some_same}
use Rattle.pcode_model.specs.declared.listing.Listing.{Listing}
use Rattle.pcode_model.specs.Spaces.{put}
use Rattle.pcode_model.specs.World.{Entry}
use Rattle.cmeaning.specs.declared.tree.Expr.{Expr}
use Rattle.cmeaning.specs.declared.tree.Expr.TheVariants as E
use Rattle.cmeaning.specs.declared.tree.Stmt.{Stmt}
use Rattle.cmeaning.specs.declared.tree.Stmt.TheVariants as S
use Rattle.cmeaning.specs.Value.{value_of}
use Rattle.cmeaning.specs.Do.{Local, values_of}
use Rattle.cmeaning.proofs.Value.{value_of_var}
use Rattle.blockcode.specs.declared.code.Exit.TheVariants as X
use Rattle.blockcode.specs.declared.code.Code.{Code}
use Rattle.blockcode.specs.Run.{widths, call_returns}
use Rattle.parts.specs.Exprs.{reads, reads_all, all_of, widths_of}
use Rattle.parts.specs.Stmts.{Sets, Calls, action_of, target_of, args_of, map_target, put_into, IsAssign}
use Rattle.parts.proofs.Values.{put_same, put_other}
use Rattle.parts.proofs.Ends.{one_some}
use Rattle.edges.specs.Run.{exit_at}
use Rattle.edges.specs.Live.{Live, Read, Past, EndsInCall, IsLeftOf, IsCall}
use Rattle.edges.specs.Follow.{Sees, BothDo, IsQuiet, Gives, Kept, Gone}
use Rattle.edges.proofs.Returns.{left_behind}
use Rattle.edges.proofs.Steps.{Carried, sees_after, assign_gives, into_same, into_other}
use Rattle.node_lists.proofs.Chains.{in_left, in_right}
use Rattle.opgraph.specs.Graph.{op_at, block_at, IsWhole}
use Rattle.ssa_model.specs.declared.form.Parts.{Parts}
use Rattle.ssa_model.specs.Outline.{form, width_at}
use Rattle.ssa_model.specs.Paths.{Path}
use Rattle.ssa_model.specs.Edits.{IsSsa}
use Rattle.ssa_model.specs.Lines.{line_of, body_of}
use Rattle.ssa_laws.proofs.Runs.{none_more, append_append, body_append}
use Rattle.heritage_laws.specs.Certificate.{Table, gets, IsOver, copies, Says, Carries, IsSource, Makes, MakesAll, Renders, Finish, Assigns, Copied, Does, Tables, Certified}
use Rattle.heritage_laws.proofs.Made.{all_widths, made_value, all_values}
use Rattle.heritage_laws.proofs.Strict.{said, IsSafe, more, says_row, makes_safe, all_safe, made_last, source_passed, put_safe, gets_safe, table_more}
use Rattle.heritage_laws.proofs.Tabled.{IsBlock}
use Rattle.heritage_laws.proofs.Follows.{seen_by, see, kb, pb, link, Knows, Follow, Meet, Safe, safe_more, computed_at, computed_before, fits_at, fresh, also_op, GoesOn, HasValue, ReadsLive, makes_follow, all_follow, args_hold}

some_eq : {v w : ℕ} → v ≡ w → Some v ≡ Some w
some_eq e = ap (λ z. Some z) e

-- ---- calls that return

-- where the exit isn't empty, nothing is in front of it
last_none : {X : Type 0} (xs ys : List X) → xs ++ ys ≡ [] → ys ≡ []
last_none [] ys is = is
last_none (x ∷ xs) ys is = absurd (cc)

not_call : (a : Stmt) → action_of a ≡ Sets → IsCall a → ⊥
not_call a sets call = no (sym sets ∙ call.1)
  where
    no : Sets ≡ Calls call.0 → ⊥
    no q = cc

module _
    (l : Listing) (k : Code) (p : Parts) (e : Entry) (whole : IsWhole p.graph) (ssa : IsSsa (form p)) (c : Tables)
    (certified : Certified l k p c)
  where
    abbrev ws : ℕ → ℕ
    ws = widths k.variables

    abbrev ws' : ℕ → ℕ
    ws' = width_at (op_at p.graph)

    lines_of : List ℕ → List Stmt
    lines_of xs = body_of l p.graph xs

    -- the op's statement is among those of these ops
    has_line : (made behind : List ℕ) (i : ℕ) (a : Stmt)
        → line_of l i (op_at p.graph i) ≡ a ∷ []
        → body_of l p.graph (made ++ i ∷ behind) ≡ []
        → ⊥
    has_line made behind i a line none =
        no (ap (λ cs. cs ++ body_of l p.graph behind) (sym line)
        ∙ last_none (body_of l p.graph made) (body_of l p.graph (i ∷ behind))
        (sym (body_append l p e whole ssa made (i ∷ behind)) ∙ none))
      where
        no : a ∷ body_of l p.graph behind ≡ [] → ⊥
        no q = cc

    -- Statements of which the last is a call are told by some ops that have statements.
    pub call_stands : (t : Table) (before : List ℕ) (body : List Stmt) (ops : List ℕ) (t' : Table)
        → Renders l p.graph ws t before body ops t'
        → EndsInCall body
        → (last : List ℕ)
        → body_of l p.graph (ops ++ last) ≡ []
        → ⊥
    call_stands t before body ops t' (Finish s b) ends last none = ends
    call_stands t before body ops t' (Assigns s s' b m o a [] v u x is lone makes next) ends last none =
        not_call a is.action ends
    call_stands t before body ops t' (Assigns s s' b m o a (d ∷ rest) v u x is lone makes next) ends last none =
        call_stands (put s v (Some x)) (b ++ m) (d ∷ rest) o s' next ends last
        (last_none (body_of l p.graph m) (body_of l p.graph (o ++ last))
        (sym (body_append l p e whole ssa m (o ++ last))
        ∙ ap (body_of l p.graph) (sym (append_append m o last))
        ∙ none))
    call_stands t before body ops t' (Copied s s' b m o a rest v u x y i is lone makes source says next) ends last none =
        has_line m (o ++ last) i (S.Assign i (E.Var y)) (said says)
        (ap (body_of l p.graph)
        (sym (append_append m (i ∷ []) (o ++ last)) ∙ sym (append_append (m ++ i ∷ []) o last)) ∙ none)
    call_stands t before body ops t' (Does s s' b m o a rest i vs sets makes does next) ends last none =
        has_line m (o ++ last) i (does.line vs) (said does.says)
        (ap (body_of l p.graph)
        (sym (append_append m (i ∷ []) (o ++ last)) ∙ sym (append_append (m ++ i ∷ []) o last)) ∙ none)

    -- ---- an assignment of the code alone

    assigns_follow : (b : ℕ) (t : Table) (a : Stmt) (rest lines : List Stmt) (v u : ℕ) (x : Expr)
        → IsAssign v x a
        → ((s y : Local)
        → Meet l k p e whole ssa c certified b (seen_by t) (a ∷ rest) lines s y
        → (n : ℕ)
        → value_of ws s.env x ≡ Some n
        → y.env u ≡ Some n)
        → Follow l k p e whole ssa c certified b (seen_by (put t v (Some u))) rest lines
        → Follow l k p e whole ssa c certified b (seen_by t) (a ∷ rest) lines
    assigns_follow b t a rest lines v u x is value next =
        Gone (seen_by t) (seen_by (put t v (Some u))) a rest lines
        (record { quiet = subst IsQuiet (sym is.action) tt; after = after }) next
      where
        after : (s y : Local)
            → Meet l k p e whole ssa c certified b (seen_by t) (a ∷ rest) lines s y
            → (g : ℕ → ℕ)
            → Gives l (kb l k p e whole ssa c certified) a s g
            → Sees ws' (seen_by (put t v (Some u))) (Live (kb l k p e whole ssa c certified) b rest)
            (put_into ws (target_of a) g s.env) y.env
        after s y meets g gives w live n h = by_case (cases_eq w v)
          where
            by_case : (w ≡ v) ⊎ (w ≡ v → ⊥) → value_of ws' y.env (see (put t v (Some u) w)) ≡ Some n
            by_case (inl same) =
                ap (λ z. value_of ws' y.env (see (put t v (Some u) z))) same
                ∙ ap (λ o. value_of ws' y.env (see o)) (put_same t v (Some u))
                ∙ value_of_var ws' y.env u
                ∙ value s y meets n
                (assign_gives l (kb l k p e whole ssa c certified) v x a s g is gives (ws w)
                ∙ sym (into_same ws (target_of a) g s.env w (is.target ∙ some_eq (sym same)))
                ∙ h)
            by_case (inr other) =
                ap (λ o. value_of ws' y.env (see o)) (put_other t v (Some u) w other)
                ∙ meets.sees w (Past b a rest w away live) n (sym (into_other ws (target_of a) g s.env w away) ∙ h)
              where
                away : target_of a ≢ Some w
                away q = other (sym (some_same (sym is.target ∙ q)))

    assign_reads : (b : ℕ) (a : Stmt) (rest : List Stmt) (v : ℕ) (u : Expr)
        → IsAssign v u a
        → ReadsLive l k p e whole ssa c certified b (a ∷ rest) (reads u)
    assign_reads b a rest v u is w r =
        Read b a rest w (let q = ap (λ es. reads_all es w) is.args in omega (arith, q, r))

    assign_holds : (b : ℕ) (a : Stmt) (rest : List Stmt) (v : ℕ) (u : Expr)
        → IsAssign v u a
        → HasValue l k p e whole ssa c certified b (a ∷ rest) u
    assign_holds b a rest v u is s over on =
        let ns = args_hold l k p e whole ssa c certified b a rest s over on in
        let q = one_some (value_of ws s.env u) ns.0 (ap (λ es. all_of (values_of ws s.env es)) (sym is.args) ∙ ns.1) in
        (q.0, q.1)

    -- ---- a statement of both

    module _
        (b : ℕ) (t : Table) (before made behind : List ℕ) (a : Stmt) (rest : List Stmt) (i : ℕ) (vs : List ℕ)
        (block : IsBlock l k p e whole ssa c certified b)
        (makes : MakesAll l p.graph ws t before (args_of a) made vs)
        (carries : Carries l p.graph ws a i vs)
        (place : block_at p.graph b ≡ (before ++ made) ++ i ∷ behind)
        (safe : Safe l k p e whole ssa c certified b before t)
        (returns : call_returns rest (exit_at (kb l k p e whole ssa c certified) b)
        ≡ call_returns (body_of l p.graph behind) (exit_at (pb l k p e whole ssa c certified) b))
      where
        abbrev N : List Stmt → ℕ → Type 0
        N body = Live (kb l k p e whole ssa c certified) b body

        abbrev line' : Stmt
        line' = carries.line vs

        over : IsOver a line' i vs
        over = carries.parts vs refl

        left : line' ∷ body_of l p.graph behind ≡ body_of l p.graph (i ∷ behind)
        left = ap (λ cs. cs ++ body_of l p.graph behind) (sym (said carries.says))

        carried : (v : ℕ)
            → N rest v
            → Carried ws ws' (N (a ∷ rest)) (seen_by t) (seen_by (gets t (target_of a) i)) (target_of a)
            (target_of line') v
        carried v live = by_target (target_of a) refl
          where
            unread : (y : ℕ) → y ≡ i → reads (seen_by t v) y ≡ 0
            unread y same =
                subst (λ z. reads (seen_by t v) z ≡ 0) (sym same)
                (fresh l k p e whole ssa c certified b t (before ++ made) behind i block place
                (safe_more l k p e whole ssa c certified b before made t safe) v)

            by_target : (o : Option ℕ)
                → target_of a ≡ o
                → Carried ws ws' (N (a ∷ rest)) (seen_by t) (seen_by (gets t (target_of a) i)) (target_of a)
                (target_of line') v
            by_target None is =
                let away : target_of a ≢ Some v = λ q. none_some (sym is ∙ q) in
                inr (
                  away,
                  Past b a rest v away live,
                  ap (λ o. see (gets t o i v)) is,
                  λ y q. none_some (sym (over.target ∙ ap (map_target (λ w. i)) is) ∙ q),
                )
            by_target (Some z) is = by_case (cases_eq v z)
              where
                by_case : (v ≡ z) ⊎ (v ≡ z → ⊥)
                    → Carried ws ws' (N (a ∷ rest)) (seen_by t) (seen_by (gets t (target_of a) i)) (target_of a)
                    (target_of line') v
                by_case (inl same) = inl (
                  i,
                  is ∙ some_eq (sym same),
                  over.target ∙ ap (map_target (λ w. i)) is,
                  sym (carries.width v (is ∙ some_eq (sym same))),
                  ap (λ o. see (gets t o i v)) is
                      ∙ ap (λ w. see (put t z (Some i) w)) same
                      ∙ ap (λ o. see o) (put_same t z (Some i)),
                )
                by_case (inr other) =
                    let away : target_of a ≢ Some v = λ q. other (sym (some_same (sym is ∙ q))) in
                    inr (
                      away,
                      Past b a rest v away live,
                      ap (λ o. see (gets t o i v)) is ∙ ap (λ o. see o) (put_other t z (Some i) v other),
                      λ y q. unread y (sym (some_same (sym (over.target ∙ ap (map_target (λ w. i)) is) ∙ q))),
                    )

        both : BothDo (link l k p e whole ssa c certified) (Live (kb l k p e whole ssa c certified))
            (Knows l k p e whole ssa c certified) b (seen_by t) (seen_by (gets t (target_of a) i)) a line' rest
            (body_of l p.graph behind)
        both = record {
          action = sym over.action;
          returns = λ callee is. returns;
          widths =
              sym (all_widths l p.graph ws t before (args_of a) made vs makes) ∙ ap (widths_of ws') (sym over.args);
          values = λ x y meets ns h.
              ap (λ es. all_of (values_of ws' y.env es)) over.args
              ∙ all_values l p.graph ws x.env y.env t before (args_of a) made vs makes
              (fits_at l k p e whole ssa c certified b t (a ∷ rest) (line' ∷ body_of l p.graph behind)
              (reads_all (args_of a)) x y meets (λ w r. Read b a rest w r))
              (computed_before l k p e whole ssa c certified b (seen_by t) (a ∷ rest)
              (line' ∷ body_of l p.graph behind) (before ++ made) (i ∷ behind) x y meets place left) ns h;
          after = λ x y meets value.
              sees_after ws ws' (N (a ∷ rest)) (N rest) (seen_by t) (seen_by (gets t (target_of a) i)) (target_of a)
              (target_of line') x.env y.env value meets.sees carried;
        }

        both_follow : Follow l k p e whole ssa c certified b (seen_by (gets t (target_of a) i)) rest
            (body_of l p.graph behind)
            → Follow l k p e whole ssa c certified b (seen_by t) (a ∷ rest) (body_of l p.graph (i ∷ behind))
        both_follow next =
            subst (λ cs. Follow l k p e whole ssa c certified b (seen_by t) (a ∷ rest) cs) left
            (Kept (seen_by t) (seen_by (gets t (target_of a) i)) a line' rest (body_of l p.graph behind) both next)

    -- ---- a COPY

    module _
        (b : ℕ) (t : Table) (before made behind : List ℕ) (a : Stmt) (rest : List Stmt) (v : ℕ) (u : Expr) (x y i : ℕ)
        (is : IsAssign v u a)
        (makes : Makes l p.graph ws t before u made x)
        (source : IsSource l p.graph x y)
        (says : Says l p.graph i (copies i) (y ∷ []))
        (safe : Safe l k p e whole ssa c certified b before t)
      where
        -- what the COPY reads has the value, wherever these ops stand before
        source_value : (place after : List ℕ) (lines : List Stmt) (s z : Local)
            → Meet l k p e whole ssa c certified b (seen_by t) (a ∷ rest) lines s z
            → block_at p.graph b ≡ ((before ++ made) ++ place) ++ after
            → lines ≡ body_of l p.graph after
            → (n : ℕ)
            → value_of ws s.env u ≡ Some n
            → z.env y ≡ Some n
        source_value place after lines s z meets ops left n h = by_source source
          where
            there : z.env x ≡ Some n
            there =
                made_value l p.graph ws s.env z.env t before u made x makes
                (fits_at l k p e whole ssa c certified b t (a ∷ rest) lines (reads u) s z meets
                (assign_reads b a rest v u is))
                (λ j m. computed_before l k p e whole ssa c certified b (seen_by t) (a ∷ rest) lines
                ((before ++ made) ++ place) after s z meets ops left j
                (in_left j (before ++ made) place m)) n h

            by_source : (x ≡ y) ⊎ Says l p.graph x (copies x) (y ∷ []) → z.env y ≡ Some n
            by_source (inl same) = ap z.env (sym same) ∙ there
            by_source (inr copy) =
                let row = says_row l p whole x (S.Assign x (E.Var y)) (said copy) in
                let q =
                computed_at l k p e whole ssa c certified b (seen_by t) (a ∷ rest) lines ((before ++ made) ++ place) after s
                z meets ops left x row.0 row.1
                (λ passed path.
                more l p whole passed (before ++ made) place x
                (makes_safe l p whole passed ws t before u made x makes (safe passed path)).1.value)
                (E.Var y) (said copy) in
                sym (value_of_var ws' z.env y) ∙ q.2 ∙ sym q.1 ∙ there

        copy_follow : IsBlock l k p e whole ssa c certified b
            → block_at p.graph b ≡ (before ++ made) ++ i ∷ behind
            → Follow l k p e whole ssa c certified b (seen_by (put t v (Some i))) rest (body_of l p.graph behind)
            → Follow l k p e whole ssa c certified b (seen_by t) (a ∷ rest) (body_of l p.graph (i ∷ behind))
        copy_follow block place next =
            also_op l k p e whole ssa c certified b t (a ∷ rest) (before ++ made) behind i (E.Var y) block place (said says)
            (safe_more l k p e whole ssa c certified b before made t safe) copied
            (assigns_follow b t a rest (body_of l p.graph behind) v i u is behind_copy next)
          where
            no_more : (before ++ made) ++ [] ≡ before ++ made
            no_more = none_more (before ++ made)

            copied : (s z : Local)
                → Meet l k p e whole ssa c certified b (seen_by t) (a ∷ rest) (body_of l p.graph (i ∷ behind)) s z
                → GoesOn l k p e whole ssa c certified b (a ∷ rest) s
                → (n : ℕ) × (value_of ws' z.env (E.Var y) ≡ Some n)
            copied s z meets on =
                let q = assign_holds b a rest v u is s meets.over on in (
                  q.0,
                  value_of_var ws' z.env y
                      ∙ source_value [] (i ∷ behind) (body_of l p.graph (i ∷ behind)) s z meets
                      (place ∙ ap (λ zs. zs ++ i ∷ behind) (sym no_more)) refl q.0 q.1,
                )

            behind_copy : (s z : Local)
                → Meet l k p e whole ssa c certified b (seen_by t) (a ∷ rest) (body_of l p.graph behind) s z
                → (n : ℕ)
                → value_of ws s.env u ≡ Some n
                → z.env i ≡ Some n
            behind_copy s z meets n h =
                let here : block_at p.graph b ≡ ((before ++ made) ++ i ∷ []) ++ behind =
                place ∙ sym (append_append (before ++ made) (i ∷ []) behind) in
                let q =
                computed_before l k p e whole ssa c certified b (seen_by t) (a ∷ rest) (body_of l p.graph behind)
                ((before ++ made) ++ i ∷ []) behind s z meets here refl i
                (in_right i (before ++ made) (i ∷ []) (inl refl)) (E.Var y) (said says) in
                q.1
                ∙ sym q.2
                ∙ value_of_var ws' z.env y
                ∙ source_value (i ∷ []) behind (body_of l p.graph behind) s z meets here refl n h

    -- ---- the statements of a block

    abbrev IsLeft : ℕ → List Stmt → Type 0
    IsLeft b rest = exit_at (kb l k p e whole ssa c certified) b ≡ X.Stop → IsLeftOf rest

    -- a call returns in both, or in none, in front of the statements that are left
    abbrev pub ReturnAlike : ℕ → List ℕ → Type 0
    ReturnAlike b last =
        (t t' : Table) (before : List ℕ) (rest : List Stmt) (ops : List ℕ)
        → Renders l p.graph ws t before rest ops t'
        → IsLeft b rest
        → call_returns rest (exit_at (kb l k p e whole ssa c certified) b)
        ≡ call_returns (body_of l p.graph (ops ++ last)) (exit_at (pb l k p e whole ssa c certified) b)

    module _
        (b : ℕ) (last : List ℕ)
        (block : IsBlock l k p e whole ssa c certified b)
        (alike : ReturnAlike b last)
      where
        abbrev F : Table → List Stmt → List ℕ → Type 0
        F t body xs = Follow l k p e whole ssa c certified b (seen_by t) body (body_of l p.graph xs)

        -- Where the statements begin in the block, and the table is safe.
        pub record Begins (t : Table) (before : List ℕ) (body : List Stmt) (ops : List ℕ) : Type 0 where
          pub place : block_at p.graph b ≡ before ++ (ops ++ last)
          pub safe : Safe l k p e whole ssa c certified b before t
          pub left : IsLeft b body

        split : (made ops : List ℕ) → (made ++ ops) ++ last ≡ made ++ (ops ++ last)
        split made ops = append_append made ops last

        split_op : (made ops : List ℕ) (i : ℕ) → ((made ++ i ∷ []) ++ ops) ++ last ≡ made ++ i ∷ (ops ++ last)
        split_op made ops i = append_append (made ++ i ∷ []) ops last ∙ append_append made (i ∷ []) (ops ++ last)

        -- behind the ops of the first statement
        placed_op : (before made ops : List ℕ) (i : ℕ)
            → block_at p.graph b ≡ before ++ (((made ++ i ∷ []) ++ ops) ++ last)
            → block_at p.graph b ≡ (before ++ made) ++ i ∷ (ops ++ last)
        placed_op before made ops i place =
            place
            ∙ ap (λ zs. before ++ zs) (split_op made ops i)
            ∙ sym (append_append before made (i ∷ (ops ++ last)))

        pub renders_follow : (t : Table) (before : List ℕ) (body : List Stmt) (ops : List ℕ) (t' : Table)
            → Renders l p.graph ws t before body ops t'
            → Begins t before body ops
            → F t' [] last
            → F t body (ops ++ last)
        renders_follow t before body ops t' (Finish s bf) begins next = next
        renders_follow t before body ops t' (Assigns s s' bf m o a rest v u x is lone makes after) begins next =
            subst (F s (a ∷ rest)) (sym (split m o))
            (makes_follow l k p e whole ssa c certified b s (a ∷ rest) bf u m x makes block begins.safe
            (assign_reads b a rest v u is) (assign_holds b a rest v u is) (o ++ last)
            (begins.place ∙ ap (λ zs. bf ++ zs) (split m o))
            (assigns_follow b s a rest (body_of l p.graph (o ++ last)) v x u is
            (λ r y meets n h.
            made_value l p.graph ws r.env y.env s bf u m x makes
            (fits_at l k p e whole ssa c certified b s (a ∷ rest) (body_of l p.graph (o ++ last)) (reads u) r y meets
            (assign_reads b a rest v u is))
            (computed_before l k p e whole ssa c certified b (seen_by s) (a ∷ rest) (body_of l p.graph (o ++ last))
            (bf ++ m) (o ++ last) r y meets there refl) n h)
            (renders_follow (put s v (Some x)) (bf ++ m) rest o s' after
            (record {
              place = there;
              safe = λ passed path.
                  put_safe l p whole passed (bf ++ m) s v x
                  (table_more l p whole passed bf m s (begins.safe passed path))
                  (makes_safe l p whole passed ws s bf u m x makes (begins.safe passed path)).1;
              left = λ stop. left_behind a rest (begins.left stop);
            }) next)))
          where
            there : block_at p.graph b ≡ (bf ++ m) ++ (o ++ last)
            there = begins.place ∙ ap (λ zs. bf ++ zs) (split m o) ∙ sym (append_append bf m (o ++ last))
        renders_follow t before body ops t' (Copied s s' bf m o a rest v u x y i is lone makes source says after) begins next =
            subst (F s (a ∷ rest)) (sym (split_op m o i))
            (makes_follow l k p e whole ssa c certified b s (a ∷ rest) bf u m x makes block begins.safe
            (assign_reads b a rest v u is) (assign_holds b a rest v u is) (i ∷ (o ++ last))
            (begins.place ∙ ap (λ zs. bf ++ zs) (split_op m o i))
            (copy_follow b s bf m (o ++ last) a rest v u x y i is makes source says begins.safe block
            (placed_op bf m o i begins.place)
            (renders_follow (put s v (Some i)) (bf ++ (m ++ i ∷ [])) rest o s' after
            (record {
              place = begins.place ∙ ap (λ zs. bf ++ zs) (split (m ++ i ∷ []) o)
                  ∙ sym (append_append bf (m ++ i ∷ []) (o ++ last));
              safe = λ passed path.
                  put_safe l p whole passed (bf ++ (m ++ i ∷ [])) s v i
                  (table_more l p whole passed bf (m ++ i ∷ []) s (begins.safe passed path)) (done passed path);
              left = λ stop. left_behind a rest (begins.left stop);
            }) next)))
          where
            done : (passed : List ℕ)
                → Path p.blocks p.entry.0 passed b
                → IsSafe l p whole passed (bf ++ (m ++ i ∷ [])) i
            done passed path =
                let d = makes_safe l p whole passed ws s bf u m x makes (begins.safe passed path) in
                (made_last l p whole passed bf m (copies i) (y ∷ []) i says d.0
                (source_passed l p whole passed (bf ++ m) x y source d.1)).1
        renders_follow t before body ops t' (Does s s' bf m o a rest i vs sets makes does after) begins next =
            subst (F s (a ∷ rest)) (sym (split_op m o i))
            (all_follow l k p e whole ssa c certified b s (a ∷ rest) bf (args_of a) m vs makes block begins.safe
            (λ w r. Read b a rest w r) (args_hold l k p e whole ssa c certified b a rest) (i ∷ (o ++ last))
            (begins.place ∙ ap (λ zs. bf ++ zs) (split_op m o i))
            (both_follow b s bf m (o ++ last) a rest i vs block makes does (placed_op bf m o i begins.place) begins.safe
            (alike (gets s (target_of a) i) s' (bf ++ (m ++ i ∷ [])) rest o after
            (λ stop. left_behind a rest (begins.left stop)))
            (renders_follow (gets s (target_of a) i) (bf ++ (m ++ i ∷ [])) rest o s' after
            (record {
              place = begins.place ∙ ap (λ zs. bf ++ zs) (split (m ++ i ∷ []) o)
                  ∙ sym (append_append bf (m ++ i ∷ []) (o ++ last));
              safe = λ passed path.
                  gets_safe l p whole passed (bf ++ (m ++ i ∷ [])) s (target_of a) i
                  (table_more l p whole passed bf (m ++ i ∷ []) s (begins.safe passed path)) (done passed path);
              left = λ stop. left_behind a rest (begins.left stop);
            }) next)))
          where
            done : (passed : List ℕ)
                → Path p.blocks p.entry.0 passed b
                → IsSafe l p whole passed (bf ++ (m ++ i ∷ [])) i
            done passed path =
                let d = all_safe l p whole passed ws s bf (args_of a) m vs makes (begins.safe passed path) in
                (made_last l p whole passed bf m does.line vs i does.says d.0 d.1).1
