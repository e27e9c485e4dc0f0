-- MULTIEQUALs are copies through fresh variables: what the general lemma on blocks with edges asks of a function.
use Rattle.std.proofs.Common.{◌≡◌, ℕ, ◌<◌, Bool, true, false, cond, List, [], ◌∷◌, ◌++◌, ◌⊎◌, inl, inr, length, Option, Some, None, refl, sym, ap, ◌∙◌, subst, slice_get, arith}
use Rattle.std.specs.Prelude.{◌-◌}
use Rattle.std.proofs.lemmas.Bool.{lt-ltb}
use Rattle.std.proofs.lemmas.Option.{slice_get_within}
use Rattle.heap_nodes.proofs.Places.{some_same, none_some}
use Rattle.pcode_model.specs.declared.listing.Listing.{Listing}
use Rattle.pcode_model.specs.World.{Entry}
use Rattle.cmeaning.specs.declared.tree.Stmt.{Stmt}
use Rattle.parts.specs.Exprs.{reads_all}
use Rattle.edges.specs.Exits.{exit_args}
use Rattle.edges.specs.Run.{Blocks, stmts_of, stmts_at, exit_at}
use Rattle.edges.specs.Follow.{Needed}
use Rattle.edges.specs.Leave.{AreValues, IsLeft}
use Rattle.edges.proofs.Leave.{left_shows, left_defined}
use Rattle.node_lists.specs.Chains.{IsIn}
use Rattle.opgraph.specs.Graph.{OpRow, op_slot, op_at, block_at, IsWhole}
use Rattle.ssa_model.specs.declared.form.SsaExit.{SsaExit}
use Rattle.ssa_model.specs.declared.form.Parts.{Parts}
use Rattle.ssa_model.specs.Roles.{role_of}
use Rattle.ssa_model.specs.Outline.{form, exit_in, block_with, predecessors_at}
use Rattle.ssa_model.specs.Edits.{IsSsa}
use Rattle.ssa_model.specs.Lines.{line_of, body_of, block_by, carried, carried_row, through}
use Rattle.ssa_model.specs.Run.{blocks_of}
use Rattle.ssa_laws.proofs.Dropped.{carried_is}
use Rattle.ssa_laws.specs.Law.{NoneAtEntry}
use Rattle.ssa_laws.proofs.Lines.{IsLine, NoLine, OneLine}
use Rattle.ssa_laws.proofs.Keeps.{line_at, reads_inputs}
use Rattle.ssa_laws.proofs.Runs.{exit_is}
use Rattle.leaving_laws.specs.Copied.{is_head_in, heads_of, shape_of, copied_blocks}
use Rattle.leaving_laws.specs.Laws.{AreCopies}
use Rattle.leaving_laws.proofs.Inputs.{exit_reads, edge_plain}
use Rattle.leaving_laws.proofs.Strict.{input_value, function_defined}
use Rattle.leaving_laws.proofs.Heads.{in_number, number_in, Head, head_is, is_head, not_head, in_heads, heads_in, in_next, next_in}
use Rattle.leaving_laws.proofs.Leads.{leads_named}
use Rattle.leaving_laws.proofs.Known.{inputs_known}

module _ (l : Listing) (p : Parts) (e : Entry) (whole : IsWhole p.graph) (ssa : IsSsa (form p)) where
  abbrev k : Blocks
  k = blocks_of l p

  abbrev m : Blocks
  m = copied_blocks l p

  -- an op of the function
  abbrev IsOp : ℕ → Type 0
  IsOp v = (r : OpRow) × (op_at p.graph v ≡ Some r)

  pub op_low : (v : ℕ) → IsOp v → v < length p.graph.ops
  op_low v r = by_slot (slice_get p.graph.ops v) refl r.1
    where
      by_slot : (o : Option (Option OpRow))
          → slice_get p.graph.ops v ≡ o
          → op_slot o ≡ Some r.0
          → v < length p.graph.ops
      by_slot None is some = none_some some
      by_slot (Some x) is some = slice_get_within p.graph.ops v x is

  input_is : (x v : ℕ) (t : OpRow) → op_at p.graph x ≡ Some t → IsIn v t.inputs → IsOp v
  input_is x v t is i = let r = input_value l p e whole ssa x v t is i in (r.0, r.1.0)

  pub through_is : (b c v : ℕ) → IsOp v → IsOp (through p b c v)
  through_is b c v r =
      subst IsOp (sym same) (by_side (carried_is v b c (predecessors_at p.blocks c) r.0 (role_of r.0.code)))
    where
      over : ℕ
      over = carried v b c (predecessors_at p.blocks c) r.0 (role_of r.0.code)

      same : through p b c v ≡ over
      same = ap (carried_row v b c (predecessors_at p.blocks c)) r.1

      by_side : (over ≡ v) ⊎ IsIn over r.0.inputs → IsOp over
      by_side (inl q) = subst IsOp (sym q) r
      by_side (inr i) = input_is v over r.0 r.1 i

  pub plain_edge : (b c v : ℕ) → is_head_in c (op_at p.graph v) ≡ false → through p b c v ≡ v
  plain_edge b c v other = by_row (op_at p.graph v) refl
    where
      by_row : (o : Option OpRow) → op_at p.graph v ≡ o → through p b c v ≡ v
      by_row None is = ap (carried_row v b c (predecessors_at p.blocks c)) is
      by_row (Some r) is = edge_plain l p whole ssa b c v r is (not_head p c v r is other)

  -- ---- what is read

  line_values : (x : ℕ) (o : Option OpRow) → op_at p.graph x ≡ o → AreValues IsOp (line_of l x o)
  line_values x None is = tt
  line_values x (Some r) is = by_line (line_at l p e whole ssa x r is)
    where
      by_line : IsLine l x r.inputs (role_of r.code) r.width → AreValues IsOp (line_of l x (Some r))
      by_line (NoLine none g) = subst (AreValues IsOp) (sym none) tt
      by_line (OneLine a one t reads c) =
          subst (AreValues IsOp) (sym one)
          ((λ v h. input_is x v r is (reads_inputs l p e whole ssa x v r a is one h)), tt)

  append_values : (fs bs : List Stmt) → AreValues IsOp fs → AreValues IsOp bs → AreValues IsOp (fs ++ bs)
  append_values [] bs h i = i
  append_values (a ∷ fs) bs h i = (h.0, append_values fs bs h.1 i)

  body_values : (xs : List ℕ) → AreValues IsOp (body_of l p.graph xs)
  body_values [] = tt
  body_values (x ∷ xs) =
      append_values (line_of l x (op_at p.graph x)) (body_of l p.graph xs) (line_values x (op_at p.graph x) refl)
      (body_values xs)

  stmts_values : (b : ℕ) → AreValues IsOp (stmts_at k b)
  stmts_values b = by_exit (exit_in (block_with b p.blocks))
    where
      by_exit : (o : Option SsaExit) → AreValues IsOp (stmts_of (block_by l p.graph b o))
      by_exit None = tt
      by_exit (Some x) = body_values (block_at p.graph b)

  exit_values : (b : ℕ) → Needed (reads_all (exit_args (exit_at k b))) IsOp
  exit_values b v h = let r = exit_reads l p whole ssa b v h in input_is r.op v r.row r.is r.read

  -- ---- the whole

  no_start : NoneAtEntry p → (v : ℕ) (c : Bool) → is_head_in p.entry.0 (op_at p.graph v) ≡ c → c ≡ false
  no_start none v false is = refl
  no_start none v true is = let h = head_is p p.entry.0 v is in absurd (none v h.row h.is h.join h.place)

  same_home : (b c v : ℕ) → Head p b v → Head p c v → b ≡ c
  same_home b c v h i =
      sym h.place ∙ ap (λ (r : OpRow). r.block) (some_same (sym h.is ∙ i.is)) ∙ i.place

  width_is : (v : ℕ) → IsOp v → k.widths v ≡ m.widths v
  width_is v r =
      let count = length p.graph.ops in
      sym (ap (λ c. cond c (k.widths v) (k.widths (v - count))) (lt-ltb v count (op_low v r)))

  is_left : NoneAtEntry p → IsLeft IsOp (shape_of p) k m
  is_left none = record {
    heads = λ b v i. let h = in_heads p whole b v (in_number v (heads_of p b) i) in ((h.row, h.is), is_head p b v h);
    listed = λ b v h. number_in v (heads_of p b) (heads_in p whole b v (head_is p b v h));
    home = λ b c v h i. same_home b c v (head_is p b v h) (head_is p c v i);
    next = λ b x i. let h = in_next p whole b x i in (leads_named l p whole ssa b x.0 h.0, is_head p x.0 x.1 h.1);
    nexts = λ b c v to h.
        let lead = exit_is l p e whole ssa b to.0 c to.1 in
        next_in p whole b c v (ssa.formed.exits b c lead) lead (head_is p c v h);
    fresh = λ v w r same. let low = op_low v r in omega (arith, low, same);
    each = λ v w same. omega (arith, same);
    values = through_is;
    plain = plain_edge;
    start = λ v. no_start none v (is_head_in p.entry.0 (op_at p.graph v)) refl;
    stmts = stmts_values;
    exits = exit_values;
    entry = refl;
    first = λ n f v r. refl;
    widths = width_is;
    through = refl;
    same = λ b. refl;
    body = λ b. refl;
  }

  -- The function with copies shows what the function shows.
  pub are_copies : NoneAtEntry p → AreCopies l p e
  are_copies none =
      let known = inputs_known l p e whole ssa none in
      let defined = function_defined l p e whole ssa none in
      record {
        shows = left_shows l IsOp (shape_of p) k m (is_left none) e known defined;
        defined = left_defined l IsOp (shape_of p) k m (is_left none) e known defined;
      }
