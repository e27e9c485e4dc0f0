-- The statements of the function with copies, as far as constants and places of variables go.
use Rattle.std.proofs.Common.{◌≡◌, ℕ, ◌<◌, List, [], ◌∷◌, ◌++◌, inl, inr, length, Option, Some, None, refl, sym, ap, ◌∙◌, subst, arith}
use Rattle.std.specs.Prelude.{◌≤◌}
use Rattle.std.proofs.lemmas.Option.{slice_get_past}
use Rattle.heap_nodes.proofs.Places.{some_same, none_some}
use Rattle.bits_core.specs.declared.word.Width.{Width}
use Rattle.bits_core.specs.declared.word.Word.{Word}
use Rattle.pcode_model.specs.declared.listing.Listing.{Listing}
use Rattle.pcode_model.specs.World.{Entry}
use Rattle.cmeaning.specs.declared.tree.Expr.TheVariants as E
use Rattle.cmeaning.specs.declared.tree.Stmt.{Stmt}
use Rattle.cmeaning.specs.declared.tree.Stmt.TheVariants as S
use Rattle.parts.specs.Exprs.{reads_all}
use Rattle.parts.specs.Stmts.{target_of, args_of, IsAssign}
use Rattle.parts.proofs.Parts.{assign_is}
use Rattle.edges.specs.Exits.{exit_args}
use Rattle.edges.specs.Run.{Blocks, stmts_of, stmts_at, exit_at}
use Rattle.edges.specs.Follow.{Needed, In, copies_of, laid}
use Rattle.edges.specs.Leave.{input}
use Rattle.node_lists.specs.Chains.{IsIn}
use Rattle.opgraph.specs.Graph.{OpRow, op_slot, op_at, block_at, IsWhole}
use Rattle.opgraph.proofs.Whole.{in_at}
use Rattle.ssa_model.specs.declared.form.SsaExit.{SsaExit}
use Rattle.ssa_model.specs.declared.form.Parts.{Parts}
use Rattle.ssa_model.specs.Roles.{Role, Constant, Joins, role_of}
use Rattle.ssa_model.specs.Outline.{bytes_of, form, exit_in, block_with, targets_in}
use Rattle.ssa_model.specs.Paths.{IsJoin}
use Rattle.ssa_model.specs.Edits.{IsSsa}
use Rattle.ssa_model.specs.Lines.{line_of, line_by, body_of, block_by, target, through}
use Rattle.ssa_model.specs.Run.{blocks_of}
use Rattle.ssa_laws.proofs.Lines.{IsLine, NoLine, OneLine}
use Rattle.ssa_laws.proofs.Keeps.{line_at, reads_inputs, target_is, one_line}
use Rattle.leaving_laws.specs.Values.{fresh}
use Rattle.leaving_laws.specs.Copied.{heads_of, next_of, copied_blocks}
use Rattle.leaving_laws.specs.Left.{constant_by, constant_in}
use Rattle.leaving_laws.proofs.Inputs.{reads_one, Joined, exit_reads, edge_input}
use Rattle.leaving_laws.proofs.Strict.{input_value}
use Rattle.leaving_laws.proofs.Heads.{in_number, Head, in_heads, in_next}
use Rattle.leaving_laws.proofs.Known.{wide_head}
use Rattle.leaving_laws.proofs.Places.{HasPlace, value_placed, fresh_placed}

-- the statement of a constant
constant_line : (l : Listing) (x : ℕ) (vs : List ℕ) (role : Role) (o : Option Width) (w : Word)
    → constant_by role o ≡ Some w
    → line_by l x vs role o ≡ S.Assign x (E.Const w) ∷ []
constant_line l x vs (Constant n) (Some u) w is = ap (λ z. S.Assign x (E.Const z) ∷ []) (some_same is)
constant_line l x vs (Constant n) None w is = none_some is
constant_line l x vs role o w is = none_some is

join_constant : (role : Role) (o : Option Width) → IsJoin role → constant_by role o ≡ None
join_constant (Joins atom) o j = refl
join_constant role o j = absurd j

target_there : (x y : ℕ) (w : Option Width) → target x w ≡ Some y → (y ≡ x) × (0 < bytes_of w)
target_there x y None is = none_some is
target_there x y (Some w) is = (sym (some_same is), w.from)

module _ (l : Listing) (p : Parts) (e : Entry) (whole : IsWhole p.graph) (ssa : IsSsa (form p)) where
  abbrev k : Blocks
  k = blocks_of l p

  abbrev Placed : ℕ → Type 0
  Placed v = HasPlace l p e whole ssa v

  -- What a statement reads and assigns has a place, and what assigns a constant is that constant's assignment.
  pub record Fits (a : Stmt) : Type 0 where
    pub reads : Needed (reads_all (args_of a)) Placed
    pub target : (x : ℕ) → target_of a ≡ Some x → Placed x
    pub constant : (x : ℕ) (w : Word)
        → target_of a ≡ Some x
        → constant_in (op_at p.graph x) ≡ Some w
        → IsAssign x (E.Const w) a

  abbrev pub AllFit : List Stmt → Type 0
  AllFit [] = Unit {0}
  AllFit (a ∷ rest) = Fits a × AllFit rest

  fit_append : (xs ys : List Stmt) → AllFit xs → AllFit ys → AllFit (xs ++ ys)
  fit_append [] ys h i = i
  fit_append (a ∷ xs) ys h i = (h.0, fit_append xs ys h.1 i)

  placed_input : (x v : ℕ) (t : OpRow) → op_at p.graph x ≡ Some t → IsIn v t.inputs → Placed v
  placed_input x v t is m =
      let r = input_value l p e whole ssa x v t is m in value_placed l p e whole ssa v r.0 r.1.0 r.1.1

  -- ---- ops

  line_fits : (x : ℕ) (o : Option OpRow) → op_at p.graph x ≡ o → AllFit (line_of l x o)
  line_fits x None is = tt
  line_fits x (Some r) is = by_line (line_at l p e whole ssa x r is)
    where
      one_fits : (a : Stmt) → line_of l x (Some r) ≡ a ∷ [] → Fits a
      one_fits a one = record {
        reads = λ v h. placed_input x v r is (reads_inputs l p e whole ssa x v r a is one h);
        target = λ y t.
            let there = target_there x y r.width (sym (target_is l p e whole ssa x r a is one) ∙ t) in
            subst Placed (sym there.0) (value_placed l p e whole ssa x r is there.1);
        constant = λ y w t c.
            let there = target_there x y r.width (sym (target_is l p e whole ssa x r a is one) ∙ t) in
            let here : constant_by (role_of r.code) r.width ≡ Some w =
            sym (ap constant_in is) ∙ ap (λ z. constant_in (op_at p.graph z)) (sym there.0) ∙ c in
            let same : a ≡ S.Assign x (E.Const w) =
            one_line (sym one ∙ constant_line l x r.inputs (role_of r.code) r.width w here) in
            subst (λ z. IsAssign z (E.Const w) a) (sym there.0)
            (subst (IsAssign x (E.Const w)) (sym same) (assign_is x (E.Const w)));
      }

      by_line : IsLine l x r.inputs (role_of r.code) r.width → AllFit (line_of l x (Some r))
      by_line (NoLine none g) = subst AllFit (sym none) tt
      by_line (OneLine a one t reads c) = subst AllFit (sym one) (one_fits a one, tt)

  body_fits : (xs : List ℕ) → AllFit (body_of l p.graph xs)
  body_fits [] = tt
  body_fits (x ∷ xs) =
      fit_append (line_of l x (op_at p.graph x)) (body_of l p.graph xs) (line_fits x (op_at p.graph x) refl)
      (body_fits xs)

  stmts_fit : (b : ℕ) → AllFit (stmts_at k b)
  stmts_fit b = by_exit (exit_in (block_with b p.blocks))
    where
      by_exit : (o : Option SsaExit) → AllFit (stmts_of (block_by l p.graph b o))
      by_exit None = tt
      by_exit (Some x) = body_fits (block_at p.graph b)

  pub exit_fits : (b : ℕ) → Needed (reads_all (exit_args (exit_at k b))) Placed
  exit_fits b v h = let r = exit_reads l p whole ssa b v h in placed_input r.op v r.row r.is r.read

  -- ---- copies

  -- from a place to a variable that is no constant
  record Copies {A : Type 0} (g h : A → ℕ) (x : A) : Type 0 where
    into : Placed (g x)
    plain : constant_in (op_at p.graph (g x)) ≡ None
    from : Placed (h x)

  copies_fit : {A : Type 0} (g h : A → ℕ) (xs : List A) (rest : List Stmt)
      → ((x : A) → In x xs → Copies g h x)
      → AllFit rest
      → AllFit (laid (copies_of g h xs) rest)
  copies_fit g h [] rest each fit = fit
  copies_fit {A} g h (x ∷ xs) rest each fit =
      (one, copies_fit g h xs rest (λ y m. each y (inr m)) fit)
    where
      c : Copies g h x
      c = each x (inl refl)

      is : IsAssign (g x) (E.Var (h x)) (S.Assign (g x) (E.Var (h x)))
      is = assign_is (g x) (E.Var (h x))

      one : Fits (S.Assign (g x) (E.Var (h x)))
      one = record {
        reads = λ v r.
            subst Placed (sym (reads_one (h x) v (subst (λ es. 0 < reads_all es v) is.args r))) c.from;
        target = λ y t. subst Placed (some_same (sym is.target ∙ t)) c.into;
        constant = λ y w t q.
            none_some (sym c.plain
            ∙ ap (λ z. constant_in (op_at p.graph z)) (some_same (sym is.target ∙ t))
            ∙ q);
      }

  head_placed : (b v : ℕ) → Head p b v → Placed v
  head_placed b v h = value_placed l p e whole ssa v h.row h.is (wide_head l p e whole ssa b v h)

  second_placed : (b v : ℕ) → Head p b v → Placed (fresh p v)
  second_placed b v h = inl (fresh_placed l p e whole ssa v h.row h.is h.join (wide_head l p e whole ssa b v h))

  second_plain : (v : ℕ) → constant_in (op_at p.graph (fresh p v)) ≡ None
  second_plain v = ap (λ o. constant_in (op_slot o)) (slice_get_past p.graph.ops (fresh p v) past)
    where
      past : length p.graph.ops ≤ fresh p v
      past = omega arith

  begins_fit : (b v : ℕ) → Head p b v → Copies (λ z. z) (fresh p) v
  begins_fit b v h = record {
    into = head_placed b v h;
    plain = ap constant_in h.is ∙ join_constant (role_of h.row.code) h.row.width h.join;
    from = second_placed b v h;
  }

  ends_fit : (b c v : ℕ) → IsIn c (targets_in (block_with b p.blocks)) → Head p c v → Placed (through p b c v)
  ends_fit b c v to h =
      subst Placed (sym q.is)
      (placed_input v q.beside.value h.row h.is
      (in_at h.row.inputs q.beside.place q.beside.value q.beside.value_at))
    where
      q : Joined l p whole ssa b c v h.row
      q = edge_input l p whole ssa b c v h.row h.is h.join h.place ((ssa.formed.predecessors b c).1 to)

  -- The statements of each block of the function with copies fit.
  pub block_fits : (b : ℕ) → AllFit (stmts_at (copied_blocks l p) b)
  block_fits b =
      copies_fit (λ v. v) (fresh p) (heads_of p b) _
      (λ v m. begins_fit b v (in_heads p whole b v (in_number v (heads_of p b) m)))
      (fit_append (stmts_at k b) (laid (copies_of (λ (x : ℕ × ℕ). fresh p x.1) (input k b) (next_of p b)) [])
      (stmts_fit b)
      (copies_fit (λ (x : ℕ × ℕ). fresh p x.1) (input k b) (next_of p b) []
      (λ x m.
      let h = in_next p whole b x m in
      record {
        into = second_placed x.0 x.1 h.1;
        plain = second_plain x.1;
        from = ends_fit b x.0 x.1 h.0 h.1;
      })
      tt))
