-- The blocks of a function that stands for a code do what the code's blocks do, so both show the same.
use Rattle.std.proofs.Common.{◌≡◌, ℕ, ◌<◌, true, List, [], ◌∷◌, ◌++◌, ◌⊎◌, inl, inr, length, map, Option, Some, None, refl, sym, ap, ◌∙◌, subst, slice_get, arith}
use Rattle.heap_nodes.proofs.Places.{none_some, some_same}
use Rattle.bits_core.specs.declared.word.Width.{Width}
use Rattle.machine.proofs.TwoWay.{two_way_from}
use Rattle.pcode_model.specs.declared.listing.Listing.{Listing}
use Rattle.pcode_model.specs.World.{Entry}
use Rattle.cmeaning.specs.declared.tree.Expr.{Expr}
use Rattle.cmeaning.specs.declared.tree.Expr.TheVariants as E
use Rattle.cmeaning.specs.declared.tree.Stmt.{Stmt}
use Rattle.cmeaning.specs.Step.{word_at}
use Rattle.cmeaning.specs.Value.{value_of}
use Rattle.cmeaning.specs.Do.{Local, values_of}
use Rattle.cmeaning.proofs.Value.{value_of_var}
use Rattle.blockcode.specs.declared.code.Block.{Block}
use Rattle.blockcode.specs.declared.code.Exit.{Exit}
use Rattle.blockcode.specs.declared.code.Exit.TheVariants as C
use Rattle.blockcode.specs.declared.code.Variable.{Variable}
use Rattle.blockcode.specs.declared.code.Code.{Code}
use Rattle.blockcode.specs.Run.{widths, call_returns, seen_code}
use Rattle.blockcode.specs.Run as code
use Rattle.parts.specs.Exprs.{reads_all, all_of}
use Rattle.edges.specs.Exits.{exit_args, leads, LeadsTo}
use Rattle.edges.specs.Run.{Blocks, Going, going, stmts_of, exit_of, stmts_at, exit_at, leaves, blocks_step, seen_blocks, blocks_of_code}
use Rattle.edges.specs.Live.{Live, LiveIn, Leave, Onward, EndsInCall, IsLeftOf, IsStrict, IsDefined, IsSound}
use Rattle.edges.specs.Follow.{Sees, BothLeave, Ends, StandsFor}
use Rattle.edges.proofs.Codes.{seen_is}
use Rattle.edges.proofs.Follow.{goes_on, shows_the_same, target_defined}
use Rattle.edges.proofs.Steps.{moved_own}
use Rattle.edges.proofs.Strict.{strict_defined}
use Rattle.node_lists.specs.Chains.{IsIn, last_or}
use Rattle.node_lists.proofs.Chains.{last_app}
use Rattle.opgraph.specs.Graph.{OpRow, op_at, block_at, IsWhole}
use Rattle.ssa_model.specs.declared.form.SsaExit.{SsaExit}
use Rattle.ssa_model.specs.declared.form.SsaExit.TheVariants as X
use Rattle.ssa_model.specs.declared.form.Parts.{Parts}
use Rattle.ssa_model.specs.Roles.{Role, Starts, role_of}
use Rattle.ssa_model.specs.Outline.{bytes_of, form, role_in, width_in, exit_in, block_with, width_at}
use Rattle.ssa_model.specs.Formed.{exit_role}
use Rattle.ssa_model.specs.Edits.{IsSsa}
use Rattle.ssa_model.specs.Lines.{line_of, line_by, body_of, input, exit_over, last_inputs, block_by, through}
use Rattle.ssa_model.specs.Run.{first_word, first_by, blocks_of, seen_ssa}
use Rattle.ssa_laws.proofs.Keeps.{join_line}
use Rattle.ssa_laws.proofs.Runs.{none_more, append_append, body_append}
use Rattle.heritage_laws.specs.Laws.{ShowsCode}
use Rattle.heritage_laws.specs.Certificate.{Table, exit_on, Makes, MakesAll, NoMore, Next, Renders, Finish, Assigns, Copied, Does, Closes, RendersBlock, IsHead, Tables, Certified}
use Rattle.heritage_laws.proofs.Made.{all_values}
use Rattle.heritage_laws.proofs.Strict.{renders_safe, at_safe}
use Rattle.heritage_laws.proofs.Tabled.{exit_on_leads, code_leads, led_block, crosses, live_tabled}
use Rattle.heritage_laws.proofs.Follows.{see, seen_by, link, Knows, is_known, Follow, Safe, HaveValues, all_follow, fits_at, computed_before}
use Rattle.heritage_laws.proofs.Statements.{call_stands, ReturnAlike, renders_follow}

-- ---- what an exit reads

all_length : (l : Listing) (p : Parts) (ws : ℕ → ℕ) (t : Table) (before : List ℕ) (es : List Expr) (ops vs : List ℕ)
    → MakesAll l p.graph ws t before es ops vs
    → length vs ≡ length es
all_length l p ws t before es ops vs (NoMore b) = refl
all_length l p ws t before es ops vs (Next b m o a rest v us makes next) =
    let h = all_length l p ws t (b ++ m) rest o us next in omega (arith, h)

none_read : (vs : List ℕ) → length vs ≡ 0 → [] ≡ map E.Var vs
none_read [] h = refl
none_read (v ∷ vs) h = absurd (omega (arith, h))

one_read : (vs : List ℕ) → length vs ≡ 1 → input vs 0 ∷ [] ≡ map E.Var vs
one_read [] h = absurd (omega (arith, h))
one_read (v ∷ []) h = refl
one_read (v ∷ w ∷ vs) h = absurd (omega (arith, h))

exit_on_args : (x : Exit) (vs : List ℕ) → length vs ≡ length (exit_args x) → exit_args (exit_on x vs) ≡ map E.Var vs
exit_on_args (C.Return None) vs h = none_read vs h
exit_on_args (C.Return (Some e)) vs h = one_read vs h
exit_on_args (C.Jump b) vs h = none_read vs h
exit_on_args (C.Test e taken other) vs h = one_read vs h
exit_on_args (C.Switch e arms) vs h = one_read vs h
exit_on_args C.Stop vs h = none_read vs h

-- an exit without an op reads nothing
exit_plain : (e : SsaExit) (vs ws : List ℕ) → exit_role e ≡ None → exit_over e vs ≡ exit_over e ws
exit_plain X.Return vs ws is = none_some (sym is)
exit_plain (X.Jump to) vs ws is = refl
exit_plain (X.Test taken other) vs ws is = none_some (sym is)
exit_plain (X.Switch arms) vs ws is = none_some (sym is)
exit_plain X.Stop vs ws is = refl

-- an exit's op has no statement
exit_line : (l : Listing) (i : ℕ) (vs : List ℕ) (e : SsaExit) (role : Role) (w : Option Width)
    → exit_role e ≡ Some role
    → line_by l i vs role w ≡ []
exit_line l i vs X.Return role w is = ap (λ r. line_by l i vs r w) (sym (some_same is))
exit_line l i vs (X.Jump to) role w is = none_some is
exit_line l i vs (X.Test taken other) role w is = ap (λ r. line_by l i vs r w) (sym (some_same is))
exit_line l i vs (X.Switch arms) role w is = ap (λ r. line_by l i vs r w) (sym (some_same is))
exit_line l i vs X.Stop role w is = none_some is

start_line : (l : Listing) (i : ℕ) (vs : List ℕ) (role : Role) (w : Option Width)
    → ((s : Rattle.pcode_model.specs.declared.storage.ParamStorage.ParamStorage) × (role ≡ Starts s))
    → line_by l i vs role w ≡ []
start_line l i vs role None s = ap (λ r. line_by l i vs r None) s.1
start_line l i vs role (Some w) s = ap (λ r. line_by l i vs r (Some w)) s.1

-- ---- calls at the end of a block

-- only before the exit Stop there is a call that doesn't return
return_elsewhere : (ss : List Stmt) (x : Exit) → (x ≡ C.Stop → ⊥) → call_returns ss x ≡ true
return_elsewhere [] (C.Return e) n = refl
return_elsewhere [] (C.Jump b) n = refl
return_elsewhere [] (C.Test e taken other) n = refl
return_elsewhere [] (C.Switch e arms) n = refl
return_elsewhere [] C.Stop n = absurd (n refl)
return_elsewhere (s ∷ ss) x n = refl

return_before : (ss : List Stmt) (x : Exit) → (ss ≡ [] → ⊥) → call_returns ss x ≡ true
return_before [] x n = absurd (n refl)
return_before (s ∷ ss) x n = refl

is_stop : (x : Exit) → (x ≡ C.Stop) ⊎ (x ≡ C.Stop → ⊥)
is_stop (C.Return e) = inr (λ q. cc)
is_stop (C.Jump b) = inr (λ q. cc)
is_stop (C.Test e taken other) = inr (λ q. cc)
is_stop (C.Switch e arms) = inr (λ q. cc)
is_stop C.Stop = inl refl

still_stop : (x : Exit) (vs : List ℕ) → exit_on x vs ≡ C.Stop → x ≡ C.Stop
still_stop (C.Return None) vs q = absurd (cc)
still_stop (C.Return (Some e)) vs q = absurd (cc)
still_stop (C.Jump b) vs q = absurd (cc)
still_stop (C.Test e taken other) vs q = absurd (cc)
still_stop (C.Switch e arms) vs q = absurd (cc)
still_stop C.Stop vs q = refl

no_role : (e : SsaExit) (vs : List ℕ) → exit_over e vs ≡ C.Stop → exit_role e ≡ None
no_role X.Return [] q = absurd (cc)
no_role X.Return (v ∷ vs) q = absurd (cc)
no_role (X.Jump to) vs q = refl
no_role (X.Test taken other) vs q = absurd (cc)
no_role (X.Switch arms) vs q = absurd (cc)
no_role X.Stop vs q = refl

nothing_made : (l : Listing) (p : Parts) (ws : ℕ → ℕ) (t : Table) (before : List ℕ) (es : List Expr) (ops vs : List ℕ)
    → MakesAll l p.graph ws t before es ops vs
    → es ≡ []
    → ops ≡ []
nothing_made l p ws t before es ops vs (NoMore b) none = refl
nothing_made l p ws t before es ops vs (Next b m o a rest v us makes next) none = absurd (cc)

nothing_rendered : (l : Listing) (p : Parts) (ws : ℕ → ℕ) (t : Table) (before : List ℕ) (body : List Stmt) (ops : List ℕ)
    (t' : Table)
    → Renders l p.graph ws t before body ops t'
    → body ≡ []
    → ops ≡ []
nothing_rendered l p ws t before body ops t' (Finish s b) none = refl
nothing_rendered l p ws t before body ops t' (Assigns s s' b m o a rest v u x is lone makes next) none = absurd (cc)
nothing_rendered l p ws t before body ops t' (Copied s s' b m o a rest v u x y i is lone makes source says next) none =
    absurd (cc)
nothing_rendered l p ws t before body ops t' (Does s s' b m o a rest i vs sets makes does next) none = absurd (cc)

module _
    (l : Listing) (k : Code) (p : Parts) (e : Entry) (whole : IsWhole p.graph) (ssa : IsSsa (form p)) (c : Tables)
    (certified : Certified l k p c)
    (sound : IsSound (blocks_of_code k))
  where
    abbrev K : Blocks
    K = blocks_of_code k

    abbrev P : Blocks
    P = blocks_of l p

    abbrev ws : ℕ → ℕ
    ws = widths k.variables

    abbrev ws' : ℕ → ℕ
    ws' = width_at (op_at p.graph)

    -- ---- a block

    module _ (b : ℕ) (x : Block) (is : slice_get k.blocks b ≡ Some x) where
      abbrev Rendered : Type 0
      Rendered = (z : SsaExit) × (exit_in (block_with b p.blocks) ≡ Some z) × RendersBlock l p.graph ws (c.heads b) b x z (c.at b) (c.now b)

      rendered : Rendered
      rendered = certified.blocks b x is

      abbrev body : List ℕ
      body = rendered.2.body

      abbrev last : List ℕ
      last = rendered.2.last

      abbrev made : List ℕ
      made = rendered.2.leaves.made

      abbrev vs : List ℕ
      vs = rendered.2.leaves.vs

      code_exit : exit_at K b ≡ x.exit
      code_exit = ap exit_of is

      code_stmts : stmts_at K b ≡ x.body
      code_stmts = ap stmts_of is

      -- what is left behind the ops that are made for the exit
      record Tail : Type 0 where
        pub ops : List ℕ
        pub same : last ≡ made ++ ops
        pub none : body_of l p.graph ops ≡ []
        pub inputs : exit_over rendered.0 (last_inputs p.graph (last_or None (block_at p.graph b))) ≡ exit_over rendered.0 vs

      tail : Tail
      tail = by_role (exit_role rendered.0) refl rendered.2.leaves.closes
        where
          by_role : (o : Option Role) → exit_role rendered.0 ≡ o → Closes p.graph o made vs last → Tail
          by_role None none closes = record {
            ops = [];
            same = closes ∙ sym (none_more made);
            none = refl;
            inputs = exit_plain rendered.0 _ vs none;
          }
          by_role (Some role) some closes = record {
            ops = closes.0 ∷ [];
            same = closes.1;
            none = no_line (op_at p.graph closes.0) refl;
            inputs = ap (exit_over rendered.0) (ap (last_inputs p.graph) at_end ∙ closes.3);
          }
            where
              no_line : (o : Option OpRow) → op_at p.graph closes.0 ≡ o → body_of l p.graph (closes.0 ∷ []) ≡ []
              no_line None none = ap (λ o. line_of l closes.0 o ++ []) none
              no_line (Some r) row =
                  ap (λ o. line_of l closes.0 o ++ []) row
                  ∙ ap (λ cs. cs ++ [])
                  (exit_line l closes.0 r.inputs rendered.0 (role_of r.code) r.width
                  (some ∙ sym closes.2 ∙ ap role_in row))

              at_end : last_or None (block_at p.graph b) ≡ Some closes.0
              at_end =
                  ap (last_or None)
                  (rendered.2.ops
                  ∙ ap (λ zs. c.heads b ++ (body ++ zs)) closes.1
                  ∙ ap (λ zs. c.heads b ++ zs) (sym (append_append body made (closes.0 ∷ [])))
                  ∙ sym (append_append (c.heads b) (body ++ made) (closes.0 ∷ [])))
                  ∙ last_app None (c.heads b ++ (body ++ made)) (closes.0 ∷ [])

      own_exit : exit_at P b ≡ exit_on x.exit vs
      own_exit =
          ap (λ o. exit_of (block_by l p.graph b o)) rendered.1 ∙ tail.inputs ∙ rendered.2.leaves.same vs refl

      heads_quiet : (hs : List ℕ) → ((v : ℕ) → IsIn v hs → IsIn v (c.heads b)) → body_of l p.graph hs ≡ []
      heads_quiet [] within = refl
      heads_quiet (h ∷ hs) within =
          ap (λ cs. cs ++ body_of l p.graph hs) (quiet (certified.heads b h (within h (inl refl))))
          ∙ heads_quiet hs (λ v m. within v (inr m))
        where
          by_head : (r : OpRow) → IsHead k.entry b r → line_by l h r.inputs (role_of r.code) r.width ≡ []
          by_head r (inl j) = join_line l h r.inputs (role_of r.code) r.width j
          by_head r (inr s) = start_line l h r.inputs (role_of r.code) r.width s.1

          quiet : ((r : OpRow) × (op_at p.graph h ≡ Some r) × IsHead k.entry b r) → line_of l h (op_at p.graph h) ≡ []
          quiet q = ap (line_of l h) q.1 ∙ by_head q.0 q.2

      own_stmts : stmts_at P b ≡ body_of l p.graph (body ++ last)
      own_stmts =
          ap (λ o. stmts_of (block_by l p.graph b o)) rendered.1
          ∙ ap (body_of l p.graph) rendered.2.ops
          ∙ body_append l p e whole ssa (c.heads b) (body ++ last)
          ∙ ap (λ cs. cs ++ body_of l p.graph (body ++ last)) (heads_quiet (c.heads b) (λ v m. m))

      -- ---- calls

      return_alike : ReturnAlike l k p e whole ssa c certified b last
      return_alike t t' before rest ops renders left =
          by_stop (is_stop x.exit)
        where
          ends : x.exit ≡ C.Stop → exit_at P b ≡ C.Stop
          ends stop = own_exit ∙ ap (λ z. exit_on z vs) stop

          nothing_left : x.exit ≡ C.Stop → last ≡ []
          nothing_left stop =
              let none = no_role rendered.0 vs (rendered.2.leaves.same vs refl ∙ ap (λ z. exit_on z vs) stop) in
              let closes : last ≡ made =
              subst (λ o. Closes p.graph o made vs last) none rendered.2.leaves.closes in
              closes
              ∙ nothing_made l p ws (c.now b) (c.heads b ++ body) (exit_args x.exit) made vs rendered.2.leaves.args
              (ap exit_args stop)

          by_left : x.exit ≡ C.Stop
              → IsLeftOf rest
              → call_returns rest (exit_at K b) ≡ call_returns (body_of l p.graph (ops ++ last)) (exit_at P b)
          by_left stop (inl call) =
              return_before rest (exit_at K b) (λ q. subst EndsInCall q call)
              ∙ sym (return_before (body_of l p.graph (ops ++ last)) (exit_at P b)
              (call_stands l k p e whole ssa c certified t before rest ops t' renders call last))
          by_left stop (inr none) =
              ap (λ z. call_returns z (exit_at K b)) none
              ∙ ap (call_returns []) (code_exit ∙ stop ∙ sym (ends stop))
              ∙ ap (λ zs. call_returns (body_of l p.graph zs) (exit_at P b))
              (sym (ap (λ zs. zs ++ last) (nothing_rendered l p ws t before rest ops t' renders none) ∙ nothing_left stop))

          by_stop : (x.exit ≡ C.Stop) ⊎ (x.exit ≡ C.Stop → ⊥)
              → call_returns rest (exit_at K b) ≡ call_returns (body_of l p.graph (ops ++ last)) (exit_at P b)
          by_stop (inl stop) = by_left stop (left (code_exit ∙ stop))
          by_stop (inr n) =
              return_elsewhere rest (exit_at K b) (λ q. n (sym code_exit ∙ q))
              ∙ sym (return_elsewhere (body_of l p.graph (ops ++ last)) (exit_at P b)
              (λ q. n (still_stop x.exit vs (sym own_exit ∙ q))))

      -- ---- the exit

      args_hold : HaveValues l k p e whole ssa c certified b [] (exit_args x.exit)
      args_hold s over on = by_values (all_of (values_of ws s.env (exit_args x.exit))) refl
        where
          step : blocks_step l K (going b [] s) ≡ leaves K b (all_of (values_of ws s.env (exit_args x.exit))) s
          step =
              goes_on l K b [] s over
              ∙ ap (λ z. leaves K b (all_of (values_of ws s.env (exit_args z))) s) code_exit

          by_values : (o : Option (List ℕ))
              → all_of (values_of ws s.env (exit_args x.exit)) ≡ o
              → (ns : List ℕ) × (all_of (values_of ws s.env (exit_args x.exit)) ≡ Some ns)
          by_values (Some ns) q = (ns, q)
          by_values None q =
              absurd (on (ap (λ (z : Going). z.local.world.over) (step ∙ ap (λ o. leaves K b o s) q)))

      leave_live : (w : ℕ) → 0 < reads_all (exit_args x.exit) w → Live K b [] w
      leave_live w r = Leave b w (let q = ap (λ z. reads_all (exit_args z) w) code_exit in omega (arith, q, r))

      onward : (d : ℕ)
          → LeadsTo (exit_at K b) d
          → (s y : Local)
          → Sees ws' (seen_by (c.now b)) (Live K b []) s.env y.env
          → Sees ws' (seen_by (c.at d)) (Live K d (stmts_at K d)) s.env (λ v. y.env (through p b d v))
      onward d leads_there s y sees v live n h =
          let lead = code_leads l k p e whole ssa c certified b d (x, is) leads_there in
          let z = led_block l k p e whole ssa c certified b d lead in
          let r = certified.blocks d z.0 z.1 in
          let there : Renders l p.graph ws (c.at d) (c.heads d) (stmts_at K d) r.2.body (c.now d) =
          subst (λ o. Renders l p.graph ws (c.at d) (c.heads d) (stmts_of o) r.2.body (c.now d)) (sym z.1) r.2.renders in
          let u = live_tabled l k p e whole ssa c certified d z (stmts_at K d) (c.at d) (c.heads d) r.2.body there v live in
          let q = crosses l k p e whole ssa c certified b d v u.0 lead u.1 in
          ap (λ o. value_of ws' (λ w. y.env (through p b d w)) (see o)) u.1
          ∙ value_of_var ws' (λ w. y.env (through p b d w)) u.0
          ∙ ap y.env q.2
          ∙ sym (value_of_var ws' y.env q.0)
          ∙ ap (λ o. value_of ws' y.env (see o)) (sym q.1)
          ∙ sees v (Onward b d v v leads_there refl live) n h

      both_leave : BothLeave (link l k p e whole ssa c certified) (Live K) (Knows l k p e whole ssa c certified) b
          (seen_by (c.now b)) []
      both_leave = record {
        leads = λ ns.
            ap (λ z. leads z ns) own_exit
            ∙ exit_on_leads x.exit vs ns
            ∙ ap (λ z. leads z ns) (sym code_exit)
            ∙ sym (moved_own (leads (exit_at K b) ns));
        after = λ s y meets. (
          y.env,
          record {
            copied = refl;
            values = λ ns h.
                ap (λ z. all_of (values_of ws' y.env (exit_args z))) own_exit
                ∙ ap (λ es. all_of (values_of ws' y.env es))
                (exit_on_args x.exit vs
                (all_length l p ws (c.now b) (c.heads b ++ body) (exit_args x.exit) made vs rendered.2.leaves.args))
                ∙ all_values l p.graph ws s.env y.env (c.now b) (c.heads b ++ body) (exit_args x.exit) made vs
                rendered.2.leaves.args
                (fits_at l k p e whole ssa c certified b (c.now b) [] [] (reads_all (exit_args x.exit)) s y meets leave_live)
                (computed_before l k p e whole ssa c certified b (seen_by (c.now b)) [] [] ((c.heads b ++ body) ++ made)
                tail.ops s y meets at_tail (sym tail.none)) ns
                (ap (λ z. all_of (values_of ws s.env (exit_args z))) (sym code_exit) ∙ h);
            onward = λ d leads_there. onward d leads_there s y meets.sees;
          },
        );
      }
        where
          at_tail : block_at p.graph b ≡ ((c.heads b ++ body) ++ made) ++ tail.ops
          at_tail =
              rendered.2.ops
              ∙ ap (λ zs. c.heads b ++ (body ++ zs)) tail.same
              ∙ sym (append_append (c.heads b) body (made ++ tail.ops))
              ∙ sym (append_append (c.heads b ++ body) made tail.ops)

      safe_here : Safe l k p e whole ssa c certified b (c.heads b) (c.at b)
      safe_here passed path = at_safe l p whole k c certified passed b path

      safe_end : Safe l k p e whole ssa c certified b (c.heads b ++ body) (c.now b)
      safe_end passed path =
          (renders_safe l p whole passed ws (c.at b) (c.heads b) x.body body (c.now b) rendered.2.renders
          (safe_here passed path)).1

      exit_follows : Follow l k p e whole ssa c certified b (seen_by (c.now b)) [] (body_of l p.graph last)
      exit_follows =
          subst (λ zs. Follow l k p e whole ssa c certified b (seen_by (c.now b)) [] (body_of l p.graph zs)) (sym tail.same)
          (all_follow l k p e whole ssa c certified b (c.now b) [] (c.heads b ++ body) (exit_args x.exit) made vs
          rendered.2.leaves.args (x, is) safe_end leave_live args_hold tail.ops
          (rendered.2.ops
          ∙ ap (λ zs. c.heads b ++ (body ++ zs)) tail.same
          ∙ sym (append_append (c.heads b) body (made ++ tail.ops)))
          (subst (λ cs. Follow l k p e whole ssa c certified b (seen_by (c.now b)) [] cs) (sym tail.none)
          (Ends (seen_by (c.now b)) [] both_leave)))

      block_follows : Follow l k p e whole ssa c certified b (seen_by (c.at b)) (stmts_at K b) (stmts_at P b)
      block_follows =
          subst (λ cs. Follow l k p e whole ssa c certified b (seen_by (c.at b)) cs (stmts_at P b)) (sym code_stmts)
          (subst (λ cs. Follow l k p e whole ssa c certified b (seen_by (c.at b)) x.body cs) (sym own_stmts)
          (renders_follow l k p e whole ssa c certified b last (x, is) return_alike (c.at b) (c.heads b) x.body body
          (c.now b) rendered.2.renders
          (record {
            place = rendered.2.ops;
            safe = safe_here;
            left = λ stop. inl (subst EndsInCall code_stmts (sound.stops b (x, is) stop));
          }) exit_follows))

    -- what is no block of either ends both runs
    outside_follows : (b : ℕ)
        → slice_get k.blocks b ≡ None
        → Follow l k p e whole ssa c certified b (seen_by (c.at b)) (stmts_at K b) (stmts_at P b)
    outside_follows b is =
        subst (λ cs. Follow l k p e whole ssa c certified b (seen_by (c.at b)) cs (stmts_at P b)) (sym (ap stmts_of is))
        (subst (λ cs. Follow l k p e whole ssa c certified b (seen_by (c.at b)) [] cs)
        (sym (ap (λ o. stmts_of (block_by l p.graph b o)) none))
        (Ends (seen_by (c.at b)) [] (record {
          leads = λ ns.
              ap (λ z. leads z ns) own_exit
              ∙ ap (λ z. leads z ns) (sym (ap exit_of is))
              ∙ sym (moved_own (leads (exit_at K b) ns));
          after = λ s y meets. (
            y.env,
            record {
              copied = refl;
              values = λ ns h.
                  ap (λ z. all_of (values_of ws' y.env (exit_args z))) own_exit
                  ∙ ap (λ z. all_of (values_of ws s.env (exit_args z))) (sym (ap exit_of is))
                  ∙ h;
              onward = λ d leads_there.
                  absurd (let q = ap (λ o. leads (exit_of o) leads_there.0) (sym is) ∙ leads_there.1 in cc);
            },
          );
        })))
      where
        none : exit_in (block_with b p.blocks) ≡ None
        none = (certified.outside b is).0

        own_exit : exit_at P b ≡ C.Stop
        own_exit = ap (λ o. exit_of (block_by l p.graph b o)) none

    follows : (b : ℕ) → Follow l k p e whole ssa c certified b (seen_by (c.at b)) (stmts_at K b) (stmts_at P b)
    follows b = by_block (slice_get k.blocks b) refl
      where
        by_block : (o : Option Block)
            → slice_get k.blocks b ≡ o
            → Follow l k p e whole ssa c certified b (seen_by (c.at b)) (stmts_at K b) (stmts_at P b)
        by_block None is = outside_follows b is
        by_block (Some x) is = block_follows b x is

    -- ---- the runs begin

    -- where the entry value of a parameter has the entry's word
    first_value : (d : Entry) (v u n : ℕ)
        → c.at k.entry v ≡ Some u
        → code.first_word l d (slice_get k.variables v) ≡ Some n
        → first_word l d (op_at p.graph u) ≡ Some n
    first_value d v u n is h = by_row (op_at p.graph u) refl
      where
        variable : Variable
        variable = (certified.first v u is).1.0

        first : Rattle.heritage_laws.specs.Certificate.IsFirst p.graph u variable
        first = (certified.first v u is).1.2

        parameter : code.first_word l d (slice_get k.variables v) ≡ Some (word_at l d variable.width.bytes first.storage)
        parameter =
            ap (code.first_word l d) (certified.first v u is).1.1
            ∙ ap (code.word_in l d variable.width.bytes) first.parameter

        by_row : (o : Option OpRow) → op_at p.graph u ≡ o → first_word l d (op_at p.graph u) ≡ Some n
        by_row None row = none_some (sym (ap role_in row) ∙ first.role)
        by_row (Some r) row =
            ap (first_word l d) row
            ∙ ap (first_by l d (bytes_of r.width)) (some_same (sym (ap role_in row) ∙ first.role))
            ∙ ap (λ w. Some (word_at l d w first.storage)) (sym (ap width_in row) ∙ first.width)
            ∙ sym parameter
            ∙ h

    entry_tabled : (v : ℕ) → LiveIn K k.entry v → (u : ℕ) × (c.at k.entry v ≡ Some u)
    entry_tabled v live =
        let x = sound.entry in
        let r = certified.blocks k.entry x.0 x.1 in
        live_tabled l k p e whole ssa c certified k.entry x (stmts_at K k.entry) (c.at k.entry) (c.heads k.entry) r.2.body
        (subst (λ o. Renders l p.graph ws (c.at k.entry) (c.heads k.entry) (stmts_of o) r.2.body (c.now k.entry)) (sym x.1)
        r.2.renders) v live

    -- what is live at the entry is a parameter
    strict : IsStrict l K e
    strict v live =
        let u = entry_tabled v live in
        let q = certified.first v u.0 u.1 in (
          word_at l e q.1.0.width.bytes q.1.2.storage,
          ap (code.first_word l e) q.1.1 ∙ ap (code.word_in l e q.1.0.width.bytes) q.1.2.parameter,
        )

    stands : StandsFor l (link l k p e whole ssa c certified) (Live K) (Knows l k p e whole ssa c certified)
    stands = record {
      entry = sym certified.entry;
      first = λ d v live n h.
          let u = entry_tabled v live in
          ap (λ o. value_of ws' (P.first l d) (see o)) u.1
          ∙ value_of_var ws' (P.first l d) u.0
          ∙ first_value d v u.0 n u.1 h;
      blocks = follows;
    }

    -- ---- the theorem

    defined : IsDefined l K e
    defined = strict_defined l K sound e strict

    -- Both show the same, and neither ends Undefined.
    pub shows_code : ShowsCode l k p e
    shows_code = record {
      runs =
          two_way_from (seen_code l k e) (seen_blocks l K e) (seen_ssa l p e) (seen_is l k e)
          (shows_the_same l (link l k p e whole ssa c certified) (Live K) (Knows l k p e whole ssa c certified) stands e
          (is_known l k p e whole ssa c certified) defined);
      defined =
          target_defined l (link l k p e whole ssa c certified) (Live K) (Knows l k p e whole ssa c certified) stands e
          (is_known l k p e whole ssa c certified) defined;
    }
