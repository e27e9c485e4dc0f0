-- Strictness by live variables: what is live at the beginning of a function in SSA form is an entry value. A use of a
-- value is passed by its op on each path; so where a value is live, each path has passed its op, or it is an entry value,
-- or a MULTIEQUAL of the block.
use Rattle.std.proofs.Common.{◌≡◌, ◌≢◌, ℕ, ◌<◌, List, [], ◌∷◌, ◌++◌, ◌⊎◌, inl, inr, Option, Some, None, refl, sym, ap, ◌∙◌, subst, slice_get, true≢false}
use Rattle.std.specs.Prelude.{IsSome}
use Rattle.std.proofs.lemmas.Bool.{cases_eq}
use Rattle.heap_nodes.proofs.Places.{some_same}
use Rattle.bits_core.specs.declared.word.Width.{Width}
use Rattle.pcode_model.specs.declared.listing.Listing.{Listing}
use Rattle.pcode_model.specs.declared.storage.ParamStorage.{ParamStorage}
use Rattle.pcode_model.specs.World.{Entry}
use Rattle.cmeaning.specs.declared.tree.Stmt.{Stmt}
use Rattle.cmeaning.specs.Step.{word_at}
use Rattle.parts.specs.Exprs.{reads_all}
use Rattle.parts.specs.Stmts.{target_of}
use Rattle.edges.specs.Exits.{exit_args}
use Rattle.edges.specs.Run.{Blocks, stmts_at, exit_at}
use Rattle.edges.specs.Live.{Live, Read, Past, Leave, Onward, LiveIn, IsStrict, IsDefined}
use Rattle.edges.proofs.Strict.{strict_defined}
use Rattle.node_lists.specs.Chains.{IsIn}
use Rattle.node_lists.proofs.Chains.{in_left, in_right, in_either, last_none}
use Rattle.node_lists.proofs.Detach.{cases_in}
use Rattle.opgraph.specs.Graph.{OpRow, op_at, block_at, inputs_in, has_width, in_block, IsWhole}
use Rattle.opgraph.proofs.Whole.{place_of, in_at}
use Rattle.ssa_model.specs.declared.form.Parts.{Parts}
use Rattle.ssa_model.specs.Roles.{Starts, role_of}
use Rattle.ssa_model.specs.Outline.{bytes_of, form, form_in, outline, predecessors_at, Leads}
use Rattle.ssa_model.specs.Paths as paths
use Rattle.ssa_model.specs.Paths.{Path, Start, Step, IsPassed, Available, IsJoin, before_op}
use Rattle.ssa_model.specs.Edits.{IsSsa}
use Rattle.ssa_model.specs.Lines.{line_of, body_of, through}
use Rattle.ssa_model.specs.Run.{blocks_of, first_by, first_word}
use Rattle.ssa_model.proofs.Lists.{before_here, before_far}
use Rattle.ssa_laws.specs.Law.{NoneAtEntry}
use Rattle.ssa_laws.proofs.Avoids.{in_before}
use Rattle.ssa_laws.proofs.Lines.{IsLine, NoLine, OneLine, IsGiven}
use Rattle.ssa_laws.proofs.Keeps.{line_at, reads_inputs, target_is, target_some, join_line, join_cases, no_line}
use Rattle.ssa_laws.proofs.Runs.{one_further, append_append, row_in, exit_is, stmts_are}
use Rattle.leaving_laws.proofs.Sound.{function_sound}
use Rattle.leaving_laws.proofs.Inputs.{ReadLast, exit_reads, Joined, edge_input, edge_plain}

-- what stands before an op, up to which these stand
before_within : (x v : ℕ) (xs ys : List ℕ) → IsIn v (before_op x (xs ++ x ∷ ys)) → IsIn v xs
before_within x v [] ys m = subst (IsIn v) (before_here x x ys refl) m
before_within x v (y ∷ xs) ys m = by_case (cases_eq y x) (before_within x v xs ys)
  where
    by_case : (y ≡ x) ⊎ (y ≡ x → ⊥) → (IsIn v (before_op x (xs ++ x ∷ ys)) → IsIn v xs) → IsIn v (y ∷ xs)
    by_case (inl e) next = absurd (subst (IsIn v) (before_here x y (xs ++ x ∷ ys) e) m)
    by_case (inr n) next = further (subst (IsIn v) (before_far x y (xs ++ x ∷ ys) n) m)
      where
        further : IsIn v (y ∷ before_op x (xs ++ x ∷ ys)) → IsIn v (y ∷ xs)
        further (inl e) = inl e
        further (inr k) = inr (next k)

module _ (l : Listing) (p : Parts) (e : Entry) (whole : IsWhole p.graph) (ssa : IsSsa (form p)) where
  abbrev k : Blocks
  k = blocks_of l p

  abbrev IsRow : ℕ → OpRow → Type 0
  IsRow v r = op_at p.graph v ≡ Some r

  abbrev IsPath : List ℕ → ℕ → Type 0
  IsPath passed b = Path p.blocks p.entry.0 passed b

  -- ---- where a value is live

  -- It is an entry value, or each path here passed its op, or it is a MULTIEQUAL of the block.
  pub record Passes (v b : ℕ) (before : List ℕ) : Type 0 where
    pub row : OpRow
    pub is : IsRow v row
    pub value : 0 < bytes_of row.width
    pub passes : ((s : ParamStorage) × (role_of row.code ≡ Starts s))
        ⊎ ((passed : List ℕ) → IsPath passed b → IsIn row.block passed ⊎ (IsIn v before ⊎ ((row.block ≡ b) × IsJoin (role_of row.code))))

  -- an input is a value
  pub input_value : (x v : ℕ) (t : OpRow) → IsRow x t → IsIn v t.inputs → (r : OpRow) × (IsRow v r × (0 < bytes_of r.width))
  input_value x v t is m = by_row (op_at p.graph v) refl (whole.values _ v (ap (λ o. slice_get (inputs_in o) k.0) is ∙ k.1))
    where
      k : (n : ℕ) × (slice_get t.inputs n ≡ Some v)
      k = place_of v t.inputs m

      by_row : (o : Option OpRow)
          → op_at p.graph v ≡ o
          → has_width o
          → (r : OpRow) × (IsRow v r × (0 < bytes_of r.width))
      by_row None at h = absurd h
      by_row (Some r) at h = (r, (at, wide r.width h))
        where
          wide : (w : Option Width) → IsSome w → 0 < bytes_of w
          wide None h = absurd (true≢false (sym h))
          wide (Some w) h = w.from

  passed_or_before : (v b : ℕ) (r : OpRow) (before passed : List ℕ)
      → IsRow v r
      → Available (outline (form p)) v b before
      → IsPath passed b
      → IsIn r.block passed ⊎ IsIn v before
  passed_or_before v b r before passed is available path =
      subst (λ o. IsPassed (form_in (op_at p.graph) o) v passed before) is (available passed path)

  -- ---- ops without statements

  -- A value whose op stands in a block, and has no statement, is an entry value or a MULTIEQUAL of the block.
  abbrev AreQuiet : List ℕ → Type 0
  AreQuiet xs = (x : ℕ) → IsIn x xs → line_of l x (op_at p.graph x) ≡ []

  given : (v b : ℕ) (r : OpRow) (before quiet : List ℕ)
      → IsRow v r
      → 0 < bytes_of r.width
      → AreQuiet quiet
      → ((x : ℕ) → IsIn x quiet → IsIn x (block_at p.graph b))
      → ((passed : List ℕ) → IsPath passed b → IsIn r.block passed ⊎ IsIn v (before ++ quiet))
      → Passes v b before
  given v b r before quiet is wide none within h = by_line (line_at l p e whole ssa v r is)
    where
      lineless : IsIn v quiet → line_of l v (Some r) ≡ []
      lineless m = sym (ap (line_of l v) is) ∙ none v m

      place : IsIn v quiet → r.block ≡ b
      place m = subst (in_block b) is ((whole.ops b v).0 (within v m))

      by_start : IsGiven (role_of r.code) → Passes v b before
      by_start (inr s) = record { row = r; is = is; value = wide; passes = inl s }
      by_start (inl j) = record {
        row = r;
        is = is;
        value = wide;
        passes = inr (λ passed path. by_side passed (h passed path));
      }
        where
          by_either : IsIn v before ⊎ IsIn v quiet → IsIn v before ⊎ ((r.block ≡ b) × IsJoin (role_of r.code))
          by_either (inl m) = inl m
          by_either (inr m) = inr (place m, j)

          by_side : (passed : List ℕ)
              → IsIn r.block passed ⊎ IsIn v (before ++ quiet)
              → IsIn r.block passed ⊎ (IsIn v before ⊎ ((r.block ≡ b) × IsJoin (role_of r.code)))
          by_side passed (inl m) = inl m
          by_side passed (inr m) = inr (by_either (in_either v before quiet m))

      -- the op has a statement, so it isn't one of the quiet ones
      by_line : IsLine l v r.inputs (role_of r.code) r.width → Passes v b before
      by_line (NoLine nothing g) = by_start (g wide)
      by_line (OneLine a one t reads c) = record {
        row = r;
        is = is;
        value = wide;
        passes = inr (λ passed path. by_side passed (h passed path));
      }
        where
          by_either : IsIn v before ⊎ IsIn v quiet → IsIn v before ⊎ ((r.block ≡ b) × IsJoin (role_of r.code))
          by_either (inl m) = inl m
          by_either (inr m) = no_line (sym (lineless m) ∙ one)

          by_side : (passed : List ℕ)
              → IsIn r.block passed ⊎ IsIn v (before ++ quiet)
              → IsIn r.block passed ⊎ (IsIn v before ⊎ ((r.block ≡ b) × IsJoin (role_of r.code)))
          by_side passed (inl m) = inl m
          by_side passed (inr m) = inr (by_either (in_either v before quiet m))

  -- ---- the next statement

  -- the first statement of some ops
  record Next (b : ℕ) (ops : List ℕ) (a : Stmt) (rest : List Stmt) : Type 0 where
    skipped : List ℕ
    op : ℕ
    later : List ℕ
    ops_are : ops ≡ skipped ++ op ∷ later
    quiet : AreQuiet skipped
    row : OpRow
    is : IsRow op row
    block : row.block ≡ b
    line : line_of l op (Some row) ≡ a ∷ []
    left : rest ≡ body_of l p.graph later

  next : (b : ℕ) (ops : List ℕ) (a : Stmt) (rest : List Stmt)
      → ((x : ℕ) → IsIn x ops → IsIn x (block_at p.graph b))
      → a ∷ rest ≡ body_of l p.graph ops
      → Next b ops a rest
  next b [] a rest within is = absurd (cc)
  next b (x ∷ xs) a rest within is =
      by_line (line_at l p e whole ssa x found.0 found.1) (next b xs a rest (λ y m. within y (inr m)))
    where
      found : (t : OpRow) × IsRow x t × (t.block ≡ b)
      found = row_in l p e whole ssa b x (within x (inl refl))

      by_line : IsLine l x found.0.inputs (role_of found.0.code) found.0.width
          → (a ∷ rest ≡ body_of l p.graph xs → Next b xs a rest)
          → Next b (x ∷ xs) a rest
      by_line (NoLine none g) further =
          let nothing : line_of l x (op_at p.graph x) ≡ [] = ap (line_of l x) found.1 ∙ none in
          let n = further (is ∙ ap (λ cs. cs ++ body_of l p.graph xs) nothing) in
          record {
            skipped = x ∷ n.skipped;
            op = n.op;
            later = n.later;
            ops_are = ap (λ ys. x ∷ ys) n.ops_are;
            quiet = λ y m. by_place n.skipped y nothing n.quiet m;
            row = n.row;
            is = n.is;
            block = n.block;
            line = n.line;
            left = n.left;
          }
        where
          by_place : (ys : List ℕ) (y : ℕ)
              → line_of l x (op_at p.graph x) ≡ []
              → AreQuiet ys
              → IsIn y (x ∷ ys)
              → line_of l y (op_at p.graph y) ≡ []
          by_place ys y nothing none (inl h) = subst (λ z. line_of l z (op_at p.graph z) ≡ []) (sym h) nothing
          by_place ys y nothing none (inr h) = none y h
      by_line (OneLine c one t reads h) further =
          let q : a ∷ rest ≡ c ∷ body_of l p.graph xs =
          is ∙ ap (λ cs. cs ++ body_of l p.graph xs) (ap (line_of l x) found.1 ∙ one) in
          record {
            skipped = [];
            op = x;
            later = xs;
            ops_are = refl;
            quiet = λ y m. absurd m;
            row = found.0;
            is = found.1;
            block = found.2;
            line = one ∙ (let s : c ∷ [] ≡ a ∷ [] = cc in s);
            left = cc;
          }

  -- ops that have no statements
  all_quiet : (b : ℕ) (ops : List ℕ)
      → [] ≡ body_of l p.graph ops
      → AreQuiet ops
  all_quiet b [] is x m = absurd m
  all_quiet b (y ∷ ys) is x m = by_line (line_of l y (op_at p.graph y)) refl is m (all_quiet b ys)
    where
      by_line : (cs : List Stmt)
          → line_of l y (op_at p.graph y) ≡ cs
          → [] ≡ cs ++ body_of l p.graph ys
          → IsIn x (y ∷ ys)
          → ([] ≡ body_of l p.graph ys → AreQuiet ys)
          → line_of l x (op_at p.graph x) ≡ []
      by_line (c ∷ cs) at none q more = absurd (cc)
      by_line [] at none (inl h) more = subst (λ z. line_of l z (op_at p.graph z) ≡ []) (sym h) at
      by_line [] at none (inr h) more = more none x h

  -- ---- uses

  not_join_line : (x : ℕ) (t : OpRow) (a : Stmt) → line_of l x (Some t) ≡ a ∷ [] → IsJoin (role_of t.code) → ⊥
  not_join_line x t a line j =
      no_line (sym (join_line l x t.inputs (role_of t.code) t.width j) ∙ line)

  -- a value that an op reads, which stands behind these and quiet ones
  read_passes : (b x v : ℕ) (t : OpRow) (before quiet later : List ℕ)
      → IsRow x t
      → t.block ≡ b
      → (IsJoin (role_of t.code) → ⊥)
      → IsIn v t.inputs
      → block_at p.graph b ≡ (before ++ quiet) ++ x ∷ later
      → AreQuiet quiet
      → Passes v b before
  read_passes b x v t before quiet later is place plain m ops none =
      given v b r.0 before quiet r.1.0 r.1.1 none
      (λ y q. subst (IsIn y) (sym ops) (in_left y (before ++ quiet) (x ∷ later) (in_right y before quiet q)))
      (λ passed path. by_side passed (passed_or_before v b r.0 (before_op x (block_at p.graph b)) passed r.1.0 available path))
    where
      r : (s : OpRow) × (IsRow v s × (0 < bytes_of s.width))
      r = input_value x v t is m

      available : Available (outline (form p)) v b (before_op x (block_at p.graph b))
      available =
          ssa.strict.passes v b (before_op x (block_at p.graph b))
          (paths.Read x t is plain m (sym place) (ap (λ c. before_op x (block_at p.graph c)) (sym place)))

      by_side : (passed : List ℕ)
          → IsIn r.0.block passed ⊎ IsIn v (before_op x (block_at p.graph b))
          → IsIn r.0.block passed ⊎ IsIn v (before ++ quiet)
      by_side passed (inl q) = inl q
      by_side passed (inr q) =
          inr (before_within x v (before ++ quiet) later
          (subst (λ ys. IsIn v (before_op x ys)) ops q))

  -- a value that is seen at the end of a block
  end_passes : (b v : ℕ) (r : OpRow) (before quiet : List ℕ)
      → IsRow v r
      → 0 < bytes_of r.width
      → block_at p.graph b ≡ before ++ quiet
      → AreQuiet quiet
      → ((passed : List ℕ) → IsPath passed b → IsIn r.block passed ⊎ IsIn v (block_at p.graph b))
      → Passes v b before
  end_passes b v r before quiet is wide ops none h =
      given v b r before quiet is wide none (λ y q. subst (IsIn y) (sym ops) (in_right y before quiet q))
      (λ passed path. subst (λ ys. IsIn r.block passed ⊎ IsIn v ys) ops (h passed path))

  -- the exit reads it
  leave_passes : (b v : ℕ) (before behind : List ℕ)
      → block_at p.graph b ≡ before ++ behind
      → AreQuiet behind
      → 0 < reads_all (exit_args (exit_at k b)) v
      → Passes v b before
  leave_passes b v before behind ops none h =
      end_passes b v r.0 before behind r.1.0 r.1.1 ops none (λ passed path. by_side passed (side passed path))
    where
      x : ReadLast l p whole ssa b v
      x = exit_reads l p whole ssa b v h

      r : (s : OpRow) × (IsRow v s × (0 < bytes_of s.width))
      r = input_value x.op v x.row x.is x.read

      place : x.row.block ≡ b
      place = subst (in_block b) x.is ((whole.ops b x.op).0 (last_none (block_at p.graph b) x.op x.last))

      side : (passed : List ℕ) → IsPath passed b → IsIn r.0.block passed ⊎ IsIn v (before_op x.op (block_at p.graph b))
      side passed path =
          passed_or_before v b r.0 (before_op x.op (block_at p.graph b)) passed r.1.0
          (ssa.strict.passes v b (before_op x.op (block_at p.graph b))
          (paths.Read x.op x.row x.is x.plain x.read (sym place)
          (ap (λ c. before_op x.op (block_at p.graph c)) (sym place)))) path

      by_side : (passed : List ℕ)
          → IsIn r.0.block passed ⊎ IsIn v (before_op x.op (block_at p.graph b))
          → IsIn r.0.block passed ⊎ IsIn v (block_at p.graph b)
      by_side passed (inl m) = inl m
      by_side passed (inr m) = inr (in_before x.op v (block_at p.graph b) m)

  -- an edge carries it
  onward_passes : (b c w : ℕ) (before behind : List ℕ)
      → block_at p.graph b ≡ before ++ behind
      → AreQuiet behind
      → Leads p.blocks b c
      → Passes w c []
      → Passes (through p b c w) b before
  onward_passes b c w before behind ops none lead h =
      by_join (join_cases (role_of h.row.code)) (cases_eq h.row.block c)
    where
      before_b : IsIn b (predecessors_at p.blocks c)
      before_b = (ssa.formed.predecessors b c).1 lead

      -- a value that isn't the edge's
      by_plain : (IsJoin (role_of h.row.code) → h.row.block ≡ c → ⊥) → Passes w b before
      by_plain n = by_passes h.passes
        where
          by_side : (passed : List ℕ)
              → IsIn h.row.block (b ∷ passed) ⊎ (IsIn w [] ⊎ ((h.row.block ≡ c) × IsJoin (role_of h.row.code)))
              → IsIn h.row.block passed ⊎ IsIn w (block_at p.graph b)
          by_side passed (inl (inl m)) = inr ((whole.ops b w).1 (subst (in_block b) (sym h.is) m))
          by_side passed (inl (inr m)) = inl m
          by_side passed (inr (inl m)) = absurd m
          by_side passed (inr (inr m)) = absurd (n m.1 m.0)

          by_passes : ((s : ParamStorage) × (role_of h.row.code ≡ Starts s))
              ⊎ ((passed : List ℕ) → IsPath passed c → IsIn h.row.block passed ⊎ (IsIn w [] ⊎ ((h.row.block ≡ c) × IsJoin (role_of h.row.code))))
              → Passes w b before
          by_passes (inl s) = record { row = h.row; is = h.is; value = h.value; passes = inl s }
          by_passes (inr q) =
              end_passes b w h.row before behind h.is h.value ops none
              (λ passed path. by_side passed (q (b ∷ passed) (Step passed b c path lead)))

      -- a MULTIEQUAL of the next block takes its input
      by_input : IsJoin (role_of h.row.code) → h.row.block ≡ c → Passes (through p b c w) b before
      by_input j same = subst (λ z. Passes z b before) (sym q.is) (by_value (input_value w q.beside.value h.row h.is member))
        where
          q : Joined l p whole ssa b c w h.row
          q = edge_input l p whole ssa b c w h.row h.is j same before_b

          member : IsIn q.beside.value h.row.inputs
          member = in_at h.row.inputs q.beside.place q.beside.value q.beside.value_at

          by_value : (s : OpRow) × (IsRow q.beside.value s × (0 < bytes_of s.width)) → Passes q.beside.value b before
          by_value s =
              end_passes b q.beside.value s.0 before behind s.1.0 s.1.1 ops none
              (λ passed path.
              passed_or_before q.beside.value b s.0 (block_at p.graph b) passed s.1.0
              (ssa.strict.passes q.beside.value b (block_at p.graph b)
              (paths.Joined w q.beside.place h.row h.is j
              (ap (λ d. slice_get (predecessors_at p.blocks d) q.beside.place) same ∙ q.beside.block_at)
              q.beside.value_at refl)) path)

      stays : (IsJoin (role_of h.row.code) → h.row.block ≡ c → ⊥) → Passes (through p b c w) b before
      stays n = subst (λ z. Passes z b before) (sym (edge_plain l p whole ssa b c w h.row h.is n)) (by_plain n)

      by_join : IsJoin (role_of h.row.code) ⊎ (IsJoin (role_of h.row.code) → ⊥)
          → (h.row.block ≡ c) ⊎ (h.row.block ≡ c → ⊥)
          → Passes (through p b c w) b before
      by_join (inl j) (inl same) = by_input j same
      by_join (inl j) (inr n) = stays (λ i. n)
      by_join (inr n) q = stays (λ i. absurd (n i))

  -- past the next statement
  past_passes : (b v : ℕ) (a : Stmt) (rest : List Stmt) (before behind : List ℕ) (n : Next b behind a rest)
      → block_at p.graph b ≡ before ++ behind
      → target_of a ≢ Some v
      → Passes v b ((before ++ n.skipped) ++ n.op ∷ [])
      → Passes v b before
  past_passes b v a rest before behind n ops other h = by_passes h.passes
    where
      not_op : v ≡ n.op → ⊥
      not_op same =
          let same_row : h.row ≡ n.row = some_same (sym h.is ∙ ap (op_at p.graph) same ∙ n.is) in
          other (target_is l p e whole ssa n.op n.row a n.is n.line
          ∙ target_some n.op n.row.width (subst (λ (t : OpRow). 0 < bytes_of t.width) same_row h.value)
          ∙ ap Some (sym same))

      by_last : IsIn v (before ++ n.skipped) ⊎ IsIn v (n.op ∷ []) → IsIn v (before ++ n.skipped)
      by_last (inl m) = m
      by_last (inr (inl m)) = absurd (not_op m)
      by_last (inr (inr m)) = absurd m

      -- the MULTIEQUALs of a block stand among its ops
      by_side : (passed : List ℕ)
          → IsIn h.row.block passed ⊎ (IsIn v ((before ++ n.skipped) ++ n.op ∷ []) ⊎ ((h.row.block ≡ b) × IsJoin (role_of h.row.code)))
          → IsIn h.row.block passed ⊎ (IsIn v (before ++ n.skipped) ⊎ ((h.row.block ≡ b) × IsJoin (role_of h.row.code)))
      by_side passed (inl m) = inl m
      by_side passed (inr (inl m)) = inr (inl (by_last (in_either v (before ++ n.skipped) (n.op ∷ []) m)))
      by_side passed (inr (inr m)) = inr (inr m)

      lineless : IsIn v n.skipped → line_of l v (Some h.row) ≡ []
      lineless m = sym (ap (line_of l v) h.is) ∙ n.quiet v m

      place : IsIn v n.skipped → h.row.block ≡ b
      place m =
          subst (in_block b) h.is
          ((whole.ops b v).0
          (subst (IsIn v) (sym ops)
          (in_right v before behind (subst (IsIn v) (sym n.ops_are) (in_left v n.skipped (n.op ∷ n.later) m)))))

      by_skipped : IsGiven (role_of h.row.code) → IsIn v n.skipped → Passes v b before
      by_skipped (inr s) m = record { row = h.row; is = h.is; value = h.value; passes = inl s }
      by_skipped (inl j) m =
          record { row = h.row; is = h.is; value = h.value; passes = inr (λ passed path. inr (inr (place m, j))) }

      by_line : IsLine l v h.row.inputs (role_of h.row.code) h.row.width → IsIn v n.skipped → Passes v b before
      by_line (NoLine nothing g) m = by_skipped (g h.value) m
      by_line (OneLine c one t reads has) m = no_line (sym (lineless m) ∙ one)

      by_place : IsIn v n.skipped ⊎ (IsIn v n.skipped → ⊥)
          → ((passed : List ℕ) → IsPath passed b → IsIn h.row.block passed ⊎ (IsIn v (before ++ n.skipped) ⊎ ((h.row.block ≡ b) × IsJoin (role_of h.row.code))))
          → Passes v b before
      by_place (inl m) q = by_line (line_at l p e whole ssa v h.row h.is) m
      by_place (inr apart) q =
          record { row = h.row; is = h.is; value = h.value; passes = inr (λ passed path. further passed (q passed path)) }
        where
          behind_skipped : IsIn v before ⊎ IsIn v n.skipped → IsIn v before
          behind_skipped (inl m) = m
          behind_skipped (inr m) = absurd (apart m)

          further : (passed : List ℕ)
              → IsIn h.row.block passed ⊎ (IsIn v (before ++ n.skipped) ⊎ ((h.row.block ≡ b) × IsJoin (role_of h.row.code)))
              → IsIn h.row.block passed ⊎ (IsIn v before ⊎ ((h.row.block ≡ b) × IsJoin (role_of h.row.code)))
          further passed (inl m) = inl m
          further passed (inr (inl m)) = inr (inl (behind_skipped (in_either v before n.skipped m)))
          further passed (inr (inr m)) = inr (inr m)

      by_passes : ((s : ParamStorage) × (role_of h.row.code ≡ Starts s))
          ⊎ ((passed : List ℕ) → IsPath passed b → IsIn h.row.block passed ⊎ (IsIn v ((before ++ n.skipped) ++ n.op ∷ []) ⊎ ((h.row.block ≡ b) × IsJoin (role_of h.row.code))))
          → Passes v b before
      by_passes (inl s) = record { row = h.row; is = h.is; value = h.value; passes = inl s }
      by_passes (inr q) = by_place (cases_in v n.skipped) (λ passed path. by_side passed (q passed path))

  -- the ops of a block up to behind the next statement
  regroup : (before skipped later : List ℕ) (x : ℕ)
      → before ++ (skipped ++ x ∷ later) ≡ ((before ++ skipped) ++ x ∷ []) ++ later
  regroup before skipped later x =
      sym (append_append before skipped (x ∷ later)) ∙ one_further (before ++ skipped) later x

  -- Where a value is live, each path here passed its op, or it is an entry value or a MULTIEQUAL of the block.
  pub live_passes : (b : ℕ) (rest : List Stmt) (v : ℕ)
      → Live k b rest v
      → (before behind : List ℕ)
      → block_at p.graph b ≡ before ++ behind
      → rest ≡ body_of l p.graph behind
      → Passes v b before
  live_passes b rest v (Read c a more w r) before behind ops is =
      let n = next c behind a more (λ y m. subst (IsIn y) (sym ops) (in_right y before behind m)) is in
      read_passes c n.op w n.row before n.skipped n.later n.is n.block (not_join_line n.op n.row a n.line)
      (reads_inputs l p e whole ssa n.op w n.row a n.is n.line r)
      (ops ∙ ap (λ ys. before ++ ys) n.ops_are ∙ sym (append_append before n.skipped (n.op ∷ n.later))) n.quiet
  live_passes b rest v (Past c a more w other live) before behind ops is =
      let n = next c behind a more (λ y m. subst (IsIn y) (sym ops) (in_right y before behind m)) is in
      past_passes c w a more before behind n ops other
      (live_passes c more w live ((before ++ n.skipped) ++ n.op ∷ []) n.later
      (ops ∙ ap (λ ys. before ++ ys) n.ops_are ∙ regroup before n.skipped n.later n.op) n.left)
  live_passes b rest v (Leave c w r) before behind ops is =
      leave_passes c w before behind ops (all_quiet c behind is) r
  live_passes b rest v (Onward d c u w to same live) before behind ops is =
      let lead = exit_is l p e whole ssa d to.0 c to.1 in
      let q = live_passes c (stmts_at k c) w live [] (block_at p.graph c) refl
      (stmts_are l p e whole ssa c (ssa.formed.exits d c lead)) in
      subst (λ z. Passes z d before) same (onward_passes d c w before behind ops (all_quiet d behind is) lead q)

  -- What is live at the beginning is an entry value.
  pub live_first : NoneAtEntry p
      → (v : ℕ)
      → LiveIn k k.entry v
      → (r : OpRow) × (IsRow v r × ((s : ParamStorage) × (role_of r.code ≡ Starts s)))
  live_first none v live = by_passes q.passes
    where
      q : Passes v p.entry.0 []
      q = live_passes p.entry.0 (stmts_at k p.entry.0) v live [] (block_at p.graph p.entry.0) refl
          (stmts_are l p e whole ssa p.entry.0 ssa.formed.entry)

      by_side : IsIn q.row.block [] ⊎ (IsIn v [] ⊎ ((q.row.block ≡ p.entry.0) × IsJoin (role_of q.row.code))) → ⊥
      by_side (inl m) = m
      by_side (inr (inl m)) = m
      by_side (inr (inr m)) = none v q.row q.is m.1 m.0

      by_passes : ((s : ParamStorage) × (role_of q.row.code ≡ Starts s))
          ⊎ ((passed : List ℕ) → IsPath passed p.entry.0 → IsIn q.row.block passed ⊎ (IsIn v [] ⊎ ((q.row.block ≡ p.entry.0) × IsJoin (role_of q.row.code))))
          → (r : OpRow) × (IsRow v r × ((s : ParamStorage) × (role_of r.code ≡ Starts s)))
      by_passes (inl s) = (q.row, (q.is, s))
      by_passes (inr h) = absurd (by_side (h [] Start))

  pub function_strict : NoneAtEntry p → IsStrict l k e
  function_strict none v live =
      let r = live_first none v live in (
        word_at l e (bytes_of r.0.width) r.1.1.0,
        ap (first_word l e) r.1.0 ∙ ap (first_by l e (bytes_of r.0.width)) r.1.1.1,
      )

  -- A function in SSA form never ends Undefined.
  pub function_defined : NoneAtEntry p → IsDefined l k e
  function_defined none = strict_defined l k (function_sound l p e whole ssa) e (function_strict none)
