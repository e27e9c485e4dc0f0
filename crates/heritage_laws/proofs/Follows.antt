-- A function that stands for a code by a certificate shows what the code shows: what is live is seen as its value of the
-- table. The ops of an expression are assignments of the function alone; an assignment is then one of the code alone, and
-- what isn't an assignment both do.
use Rattle.std.proofs.Common.{◌≡◌, ◌≢◌, ℕ, ◌<◌, true, List, [], ◌∷◌, ◌++◌, inl, inr, Option, Some, None, refl, sym, ap, ◌∙◌, subst, arith}
use Rattle.heap_nodes.proofs.Places.{none_some}
use Rattle.machine.specs.Trace.{Undefined}
use Rattle.pcode_model.specs.declared.listing.Listing.{Listing}
use Rattle.pcode_model.specs.World.{Entry}
use Rattle.cmeaning.specs.declared.tree.Expr.{Expr}
use Rattle.cmeaning.specs.declared.tree.Expr.TheVariants as E
use Rattle.cmeaning.specs.declared.tree.Stmt.{Stmt}
use Rattle.cmeaning.specs.declared.tree.Stmt.TheVariants as S
use Rattle.cmeaning.specs.Examples as example
use Rattle.cmeaning.specs.Value.{value_of}
use Rattle.cmeaning.specs.Do.{Local, values_of}
use Rattle.cmeaning.proofs.Value.{value_of_var}
use Rattle.blockcode.specs.declared.code.Code.{Code}
use Rattle.blockcode.specs.Run.{widths}
use Rattle.parts.specs.Exprs.{Env, one, two, reads, reads_all, both, all_of, widths_of}
use Rattle.parts.specs.Stmts.{Sets, action_of, target_of, args_of, put_into, act, done_by, done_with}
use Rattle.parts.proofs.Nodes.{reads_const}
use Rattle.parts.proofs.Values.{var_unread, value_put, put_same, put_other, both_some, in_one}
use Rattle.parts.proofs.Values as parts
use Rattle.parts.proofs.Parts.{assign_is}
use Rattle.edges.specs.Run.{Blocks, Going, going, stmts_at, blocks_step, start_blocks, blocks_of_code}
use Rattle.edges.specs.Live.{Live}
use Rattle.edges.specs.Follow.{Link, Known, Sees, Meets, IsQuiet, Gives, Follows, Also, IsKnown}
use Rattle.edges.proofs.Follow.{does}
use Rattle.node_lists.specs.Chains.{IsIn, Apart}
use Rattle.node_lists.proofs.Chains.{in_left, in_right, apart_sides}
use Rattle.opgraph.specs.Graph.{OpRow, op_at, block_at, IsWhole}
use Rattle.ssa_model.specs.declared.form.Parts.{Parts}
use Rattle.ssa_model.specs.Outline.{form, outline, width_at}
use Rattle.ssa_model.specs.Paths.{Path, IsPassed, Available}
use Rattle.ssa_model.specs.Edits.{IsSsa}
use Rattle.ssa_model.specs.Lines.{line_of, body_of}
use Rattle.ssa_model.specs.Run.{blocks_of}
use Rattle.ssa_laws.specs.Law.{computed_with, value_in, StandsAt, Equations}
use Rattle.ssa_laws.proofs.Avoids.{arrival, not_passed}
use Rattle.ssa_laws.proofs.Runs.{equations_hold, row_in, append_append}
use Rattle.heritage_laws.specs.Certificate.{Table, IsMade, Makes, Reads, OfConst, OfOne, OfTwo, MakesAll, NoMore, Next, Tables, Certified}
use Rattle.heritage_laws.proofs.Made.{Fits, AreComputed, IsComputed, made_width, one_operand, two_operands, node_one, node_two, made_value}
use Rattle.heritage_laws.proofs.Strict.{said, AreSafe, here, table_more}
use Rattle.heritage_laws.proofs.Tabled.{IsBlock, reached}

-- how a variable is seen, by its value; one that has none isn't
abbrev pub see : Option ℕ → Expr
see None = example.zero
see (Some u) = E.Var u

abbrev pub seen_by : Table → ℕ → Expr
seen_by t w = see (t w)

-- an assignment computes what it assigns
assigned_value : (ws : ℕ → ℕ) (y : Env) (i n : ℕ) (u : Expr)
    → value_in ws y (S.Assign i u) ≡ Some n
    → value_of ws y u ≡ Some n
assigned_value ws y i n u h = by_value (value_of ws y u) refl
  where
    is : (o : Option ℕ)
        → value_of ws y u ≡ o
        → computed_with Sets (widths_of ws (args_of (S.Assign i u))) (both o (Some [])) ≡ Some n
    is o e =
        ap (λ z. computed_with Sets (widths_of ws (args_of (S.Assign i u))) (both z (Some []))) (sym e)
        ∙ ap (λ es. computed_with Sets (widths_of ws (args_of (S.Assign i u))) (all_of (values_of ws y es)))
        (sym (assign_is i u).args)
        ∙ ap
        (λ z. computed_with z (widths_of ws (args_of (S.Assign i u))) (all_of (values_of ws y (args_of (S.Assign i u)))))
        (sym (assign_is i u).action)
        ∙ h

    by_value : (o : Option ℕ) → value_of ws y u ≡ o → value_of ws y u ≡ Some n
    by_value None e = none_some (is None e)
    by_value (Some m) e = e ∙ is (Some m) e

module _
    (l : Listing) (k : Code) (p : Parts) (e : Entry) (whole : IsWhole p.graph) (ssa : IsSsa (form p)) (c : Tables)
    (certified : Certified l k p c)
  where
    abbrev pub kb : Blocks
    kb = blocks_of_code k

    abbrev pub pb : Blocks
    pb = blocks_of l p

    abbrev ws : ℕ → ℕ
    ws = widths k.variables

    abbrev ws' : ℕ → ℕ
    ws' = width_at (op_at p.graph)

    abbrev pub link : Link
    link = record { source = kb; target = pb; to = λ b. b; at = λ b. seen_by (c.at b) }

    -- the equations of all values hold that are available in the function
    abbrev pub Knows : Known
    Knows s t =
        t.local.world.over ≡ None
        → (before behind : List ℕ)
        → StandsAt l p t before behind
        → (v : ℕ) (r : OpRow)
        → op_at p.graph v ≡ Some r
        → Available (outline (form p)) v t.block before
        → Equations l p e t.local.env v r

    pub is_known : IsKnown l link Knows e
    is_known i j over before behind stands v r row available =
        equations_hold l p e whole ssa j over before behind stands v r row available

    abbrev pub Follow : ℕ → (ℕ → Expr) → List Stmt → List Stmt → Type 0
    Follow b f body lines = Follows l link (Live kb) Knows b f body lines

    abbrev pub Meet : ℕ → (ℕ → Expr) → (body lines : List Stmt) → Local → Local → Type 0
    Meet b f body lines x y = Meets link (Live kb) Knows b f body lines x y

    abbrev pub IsPath : List ℕ → ℕ → Type 0
    IsPath passed b = Path p.blocks p.entry.0 passed b

    -- on each path to the place the table has what was passed
    abbrev pub Safe : ℕ → List ℕ → Table → Type 0
    Safe b before t = (passed : List ℕ) → IsPath passed b → AreSafe l p whole passed before t

    pub safe_more : (b : ℕ) (before more : List ℕ) (t : Table) → Safe b before t → Safe b (before ++ more) t
    safe_more b before more t safe passed path = table_more l p whole passed before more t (safe passed path)

    -- ---- what is known at a place

    -- what is available has its equation
    pub computed_at : (b : ℕ) (f : ℕ → Expr) (body lines : List Stmt) (before behind : List ℕ) (x y : Local)
        → Meet b f body lines x y
        → block_at p.graph b ≡ before ++ behind
        → lines ≡ body_of l p.graph behind
        → (i : ℕ) (r : OpRow)
        → op_at p.graph i ≡ Some r
        → Available (outline (form p)) i b before
        → IsComputed l p.graph ws y.env i
    computed_at b f body lines before behind x y meets ops left i r row available u line =
        let eq =
        meets.knows (ap (λ w. w.over) (sym meets.world) ∙ meets.over) before behind (record { ops = ops; rest = left }) i r
        row available in
        let q = eq.equation (S.Assign i u) (ap (line_of l i) (sym row) ∙ line)
        (subst (λ z. Rattle.ssa_laws.specs.Law.computes z ≡ true) (sym (assign_is i u).action) refl) in
        (q.0, q.1.0, assigned_value ws' y.env i q.0 u q.1.1)

    -- so has what stands before in the block
    pub computed_before : (b : ℕ) (f : ℕ → Expr) (body lines : List Stmt) (before behind : List ℕ) (x y : Local)
        → Meet b f body lines x y
        → block_at p.graph b ≡ before ++ behind
        → lines ≡ body_of l p.graph behind
        → AreComputed l p.graph ws y.env before
    computed_before b f body lines before behind x y meets ops left i m =
        let row = row_in l p e whole ssa b i (subst (IsIn i) (sym ops) (in_left i before behind m)) in
        computed_at b f body lines before behind x y meets ops left i row.0 row.1
        (λ passed path. here l p whole passed before i row.0 row.1 m)

    -- what is live has in the function what it has in the code
    pub fits_at : (b : ℕ) (t : Table) (body lines : List Stmt) (count : ℕ → ℕ) (x y : Local)
        → Meet b (seen_by t) body lines x y
        → ((w : ℕ) → 0 < count w → Live kb b body w)
        → Fits l p.graph ws count t x.env y.env
    fits_at b t body lines count x y meets live w u r is n h =
        sym (value_of_var ws' y.env u)
        ∙ ap (λ o. value_of ws' y.env (see o)) (sym is)
        ∙ meets.sees w (live w r) n h

    -- ---- an op of the function alone

    -- no value of the table is that of an op that stands behind
    pub fresh : (b : ℕ) (t : Table) (before behind : List ℕ) (i : ℕ)
        → IsBlock l k p e whole ssa c certified b
        → block_at p.graph b ≡ before ++ i ∷ behind
        → Safe b before t
        → (w : ℕ)
        → reads (seen_by t w) i ≡ 0
    fresh b t before behind i block ops safe w = by_value (t w) refl
      where
        row : (r : OpRow) × (op_at p.graph i ≡ Some r) × (r.block ≡ b)
        row = row_in l p e whole ssa b i (subst (IsIn i) (sym ops) (in_right i before (i ∷ behind) (inl refl)))

        not_before : IsIn i before → ⊥
        not_before m = apart_sides before (i ∷ behind) i (subst Apart ops (whole.ops_once b)) m (inl refl)

        other : (u : ℕ) → t w ≡ Some u → u ≡ i → ⊥
        other u is same =
            let path = reached l k p e whole ssa c certified b block in
            let a = arrival p.blocks p.entry.0 b path.0 path.1 in
            not_passed (form p) i row.0 a.passed before row.1 (λ m. a.new (subst (λ d. IsIn d a.passed) row.2 m)) not_before
            (subst (λ v. IsPassed ((outline (form p)).forms v) v a.passed before) same (safe a.passed a.path w u is).value)

        by_value : (o : Option ℕ) → t w ≡ o → reads (see o) i ≡ 0
        by_value None is = reads_const _ i
        by_value (Some u) is = var_unread u i (other u is)

    -- the source's next step isn't lost
    abbrev pub GoesOn : ℕ → List Stmt → Local → Type 0
    GoesOn b body x = (blocks_step l kb (going b body x)).local.world.over ≢ Some Undefined

    pub also_op : (b : ℕ) (t : Table) (body : List Stmt) (before behind : List ℕ) (i : ℕ) (u : Expr)
        → IsBlock l k p e whole ssa c certified b
        → block_at p.graph b ≡ before ++ i ∷ behind
        → line_of l i (op_at p.graph i) ≡ S.Assign i u ∷ []
        → Safe b before t
        → ((x y : Local)
        → Meet b (seen_by t) body (body_of l p.graph (i ∷ behind)) x y
        → GoesOn b body x
        → (n : ℕ) × (value_of ws' y.env u ≡ Some n))
        → Follow b (seen_by t) body (body_of l p.graph behind)
        → Follow b (seen_by t) body (body_of l p.graph (i ∷ behind))
    also_op b t body before behind i u block ops line safe value next =
        subst (λ cs. Follow b (seen_by t) body (cs ++ body_of l p.graph behind)) (sym line)
        (Also (seen_by t) (seen_by t) a body (body_of l p.graph behind) (record { quiet = quiet; after = after }) next)
      where
        a : Stmt
        a = S.Assign i u

        quiet : IsQuiet (action_of (S.Assign i u))
        quiet = subst IsQuiet (sym (assign_is i u).action) tt

        after : (x y : Local)
            → Meet b (seen_by t) body (S.Assign i u ∷ body_of l p.graph behind) x y
            → GoesOn b body x
            → (g : ℕ → ℕ)
            × Gives l pb (S.Assign i u) y g
            × Sees ws' (seen_by t) (Live kb b body) x.env (put_into ws' (target_of (S.Assign i u)) g y.env)
        after x y meets on =
            let v = value x y
            (subst (λ cs. Meet b (seen_by t) body (cs ++ body_of l p.graph behind) x y) (sym line) meets) on in (
              λ w. v.0,
              (
                v.0 ∷ [],
                ap (λ es. all_of (values_of ws' y.env es)) (assign_is i u).args ∙ ap (λ o. both o (Some [])) v.1,
                ap (λ h. act l (λ c. true) h (widths_of ws' (args_of (S.Assign i u))) (v.0 ∷ []) y.left y.world)
                    (assign_is i u).action,
              ),
              λ w live n h.
                  ap (λ o. value_of ws' (put_into ws' o (λ z. v.0) y.env) (seen_by t w)) (assign_is i u).target
                  ∙ value_put ws' y.env i (Some v.0) (seen_by t w) (fresh b t before behind i block ops safe w)
                  ∙ meets.sees w live n h,
            )

    -- ---- the ops of an expression

    -- where the source goes on, the expression has a value
    abbrev pub HasValue : ℕ → List Stmt → Expr → Type 0
    HasValue b body a =
        (x : Local) → x.world.over ≡ None → GoesOn b body x → (n : ℕ) × (value_of ws x.env a ≡ Some n)

    abbrev pub ReadsLive : ℕ → List Stmt → (ℕ → ℕ) → Type 0
    ReadsLive b body count = (w : ℕ) → 0 < count w → Live kb b body w

    -- an op that is made, or taken again, behind those of its operands
    by_made : (b : ℕ) (f : ℕ → Expr) (body : List Stmt) (before made ops behind : List ℕ) (i : ℕ)
        → IsMade i before made ops
        → block_at p.graph b ≡ before ++ (ops ++ behind)
        → (block_at p.graph b ≡ (before ++ made) ++ i ∷ behind
        → Follow b f body (body_of l p.graph behind)
        → Follow b f body (body_of l p.graph (i ∷ behind)))
        → ((rest : List ℕ)
        → block_at p.graph b ≡ before ++ (made ++ rest)
        → Follow b f body (body_of l p.graph rest)
        → Follow b f body (body_of l p.graph (made ++ rest)))
        → Follow b f body (body_of l p.graph behind)
        → Follow b f body (body_of l p.graph (ops ++ behind))
    by_made b f body before made ops behind i (inl is) place also operands next =
        subst (λ zs. Follow b f body (body_of l p.graph zs)) (sym split)
        (operands (i ∷ behind) here' (also (here' ∙ sym (append_append before made (i ∷ behind))) next))
      where
        split : ops ++ behind ≡ made ++ i ∷ behind
        split = ap (λ zs. zs ++ behind) is ∙ append_append made (i ∷ []) behind

        here' : block_at p.graph b ≡ before ++ (made ++ i ∷ behind)
        here' = place ∙ ap (λ zs. before ++ zs) split
    by_made b f body before made ops behind i (inr h) place also operands next =
        subst (λ zs. Follow b f body (body_of l p.graph (zs ++ behind))) (sym h.0)
        (operands behind (place ∙ ap (λ zs. before ++ (zs ++ behind)) h.0) next)

    pub makes_follow : (b : ℕ) (t : Table) (body : List Stmt) (before : List ℕ) (a : Expr) (ops : List ℕ) (v : ℕ)
        → Makes l p.graph ws t before a ops v
        → IsBlock l k p e whole ssa c certified b
        → Safe b before t
        → ReadsLive b body (reads a)
        → HasValue b body a
        → (behind : List ℕ)
        → block_at p.graph b ≡ before ++ (ops ++ behind)
        → Follow b (seen_by t) body (body_of l p.graph behind)
        → Follow b (seen_by t) body (body_of l p.graph (ops ++ behind))
    makes_follow b t body before a ops v (Reads bf z w is width) block safe live value behind place next = next
    makes_follow b t body before a ops v (OfConst bf o n i says width how) block safe live value behind place next =
        by_made b (seen_by t) body bf [] o behind i how place
        (λ at. also_op b t body (bf ++ []) behind i (E.Const n) block at (said says) (safe_more b bf [] t safe)
        (λ x y meets on. (_, Rattle.cmeaning.proofs.Value.value_of_const ws' y.env n)))
        (λ rest at after. after) next
    makes_follow b t body before a ops v (OfOne bf m o h d z i makes says width how) block safe live value behind place next =
        by_made b (seen_by t) body bf m o behind i how place
        (λ at. also_op b t body (bf ++ m) behind i (one h (E.Var z)) block at (said says) (safe_more b bf m t safe)
        (λ x y meets on.
        let n = value x meets.over on in (
          n.0,
          node_one l p.graph ws x.env y.env h d z n.0 (made_width l p.graph ws t bf d m z makes)
              (made_value l p.graph ws x.env y.env t bf d m z makes
              (fits_at b t body (body_of l p.graph (i ∷ behind)) (reads d) x y meets (λ w r. live w (in_one h d w r)))
              (computed_before b (seen_by t) body (body_of l p.graph (i ∷ behind)) (bf ++ m) (i ∷ behind) x y meets at
              refl)) n.1,
        )))
        (λ rest at after.
        makes_follow b t body bf d m z makes block safe (λ w r. live w (in_one h d w r))
        (λ x over on. let n = value x over on in one_operand l p.graph ws x.env x.env h d n.0 n.1) rest at after) next
    makes_follow b t body before a ops v (OfTwo bf m r o h d g z q i first second says width how) block safe live value behind
        place next =
        by_made b (seen_by t) body bf (m ++ r) o behind i how place
        (λ at. also_op b t body (bf ++ (m ++ r)) behind i (two h (E.Var z) (E.Var q)) block at (said says)
        (safe_more b bf (m ++ r) t safe)
        (λ x y meets on.
        let n = value x meets.over on in
        let lines = body_of l p.graph (i ∷ behind) in
        let computed = computed_before b (seen_by t) body lines (bf ++ (m ++ r)) (i ∷ behind) x y meets at refl in (
          n.0,
          node_two l p.graph ws x.env y.env h d g z q n.0 (made_width l p.graph ws t bf d m z first)
              (made_width l p.graph ws t (bf ++ m) g r q second)
              (made_value l p.graph ws x.env y.env t bf d m z first
              (fits_at b t body lines (reads d) x y meets (λ w s. live w (parts.in_left h d g w s)))
              (λ j s. computed j (subst (IsIn j) (append_append bf m r) (in_left j (bf ++ m) r s))))
              (made_value l p.graph ws x.env y.env t (bf ++ m) g r q second
              (fits_at b t body lines (reads g) x y meets (λ w s. live w (parts.in_right h d g w s)))
              (λ j s. computed j (subst (IsIn j) (append_append bf m r) s))) n.1,
        )))
        (λ rest at after.
        subst (λ zs. Follow b (seen_by t) body (body_of l p.graph zs)) (sym (append_append m r rest))
        (makes_follow b t body bf d m z first block safe (λ w s. live w (parts.in_left h d g w s))
        (λ x over on. let n = value x over on in (two_operands l p.graph ws x.env x.env h d g n.0 n.1).0) (r ++ rest)
        (at ∙ ap (λ zs. bf ++ zs) (append_append m r rest))
        (makes_follow b t body (bf ++ m) g r q second block (safe_more b bf m t safe)
        (λ w s. live w (parts.in_right h d g w s))
        (λ x over on. let n = value x over on in (two_operands l p.graph ws x.env x.env h d g n.0 n.1).1) rest
        (at ∙ ap (λ zs. bf ++ zs) (append_append m r rest) ∙ sym (append_append bf m (r ++ rest))) after))) next

    -- ---- the ops of several expressions

    abbrev pub HaveValues : ℕ → List Stmt → List Expr → Type 0
    HaveValues b body es =
        (x : Local)
        → x.world.over ≡ None
        → GoesOn b body x
        → (ns : List ℕ) × (all_of (values_of ws x.env es) ≡ Some ns)

    pub all_follow : (b : ℕ) (t : Table) (body : List Stmt) (before : List ℕ) (es : List Expr) (ops vs : List ℕ)
        → MakesAll l p.graph ws t before es ops vs
        → IsBlock l k p e whole ssa c certified b
        → Safe b before t
        → ReadsLive b body (reads_all es)
        → HaveValues b body es
        → (behind : List ℕ)
        → block_at p.graph b ≡ before ++ (ops ++ behind)
        → Follow b (seen_by t) body (body_of l p.graph behind)
        → Follow b (seen_by t) body (body_of l p.graph (ops ++ behind))
    all_follow b t body before es ops vs (NoMore bf) block safe live values behind place next = next
    all_follow b t body before es ops vs (Next bf m o a rest v us makes others) block safe live values behind place next =
        subst (λ zs. Follow b (seen_by t) body (body_of l p.graph zs)) (sym (append_append m o behind))
        (makes_follow b t body bf a m v makes block safe (λ w r. live w (omega (arith, r)))
        (λ x over on.
        let n = values x over on in
        let q = both_some (value_of ws x.env a) (all_of (values_of ws x.env rest)) n.0 n.1 in (q.0, q.2))
        (o ++ behind) (place ∙ ap (λ zs. bf ++ zs) (append_append m o behind))
        (all_follow b t body (bf ++ m) rest o us others block (safe_more b bf m t safe) (λ w r. live w (omega (arith, r)))
        (λ x over on.
        let n = values x over on in
        let q = both_some (value_of ws x.env a) (all_of (values_of ws x.env rest)) n.0 n.1 in (q.1, q.3))
        behind
        (place ∙ ap (λ zs. bf ++ zs) (append_append m o behind) ∙ sym (append_append bf m (o ++ behind))) next))

    -- where the source's next statement is carried out, its arguments have values
    pub args_hold : (b : ℕ) (a : Stmt) (rest : List Stmt) → HaveValues b (a ∷ rest) (args_of a)
    args_hold b a rest x over on = by_values (all_of (values_of ws x.env (args_of a))) refl
      where
        by_values : (o : Option (List ℕ))
            → all_of (values_of ws x.env (args_of a)) ≡ o
            → (ns : List ℕ) × (all_of (values_of ws x.env (args_of a)) ≡ Some ns)
        by_values (Some ns) is = (ns, is)
        by_values None is =
            absurd
            (on (ap (λ (s : Going). s.local.world.over)
            (does l kb b a rest x over
            ∙ ap
            (λ o. going b rest
            (done_with o x (done_by l ws (Rattle.edges.specs.Run.returns_at kb b rest) a x))) is)))
