-- What the exit of a block reads, and what an edge gives to a value.
use Rattle.std.proofs.Common.{◌≡◌, ℕ, ◌<◌, true, false, List, [], ◌∷◌, inl, length, map, Option, Some, None, refl, sym, ap, ◌∙◌, subst, arith, true≢false}
use Rattle.heap_nodes.proofs.Places.{some_same, none_some}
use Rattle.pcode_model.specs.declared.listing.Listing.{Listing}
use Rattle.cmeaning.specs.declared.tree.Expr.TheVariants as E
use Rattle.parts.specs.Exprs.{reads_all}
use Rattle.parts.proofs.Values.{read_is}
use Rattle.edges.specs.Exits.{exit_args}
use Rattle.edges.specs.Run.{Blocks, exit_of, exit_at}
use Rattle.node_lists.specs.Chains.{IsIn, last_or}
use Rattle.opgraph.specs.Graph.{OpRow, op_at, block_at, inputs_in, IsWhole}
use Rattle.ssa_model.specs.declared.form.SsaExit.{SsaExit}
use Rattle.ssa_model.specs.declared.form.SsaExit.TheVariants as X
use Rattle.ssa_model.specs.declared.form.Parts.{Parts}
use Rattle.ssa_model.specs.Roles.{Role, Tests, Switches, Returns, role_of}
use Rattle.ssa_model.specs.Outline.{OpForm, bytes_of, width_at, form, form_of, form_in, exit_in, block_with, predecessors_at}
use Rattle.ssa_model.specs.Paths.{IsJoin}
use Rattle.ssa_model.specs.Formed.{fits, exit_role}
use Rattle.ssa_model.specs.Edits.{IsSsa}
use Rattle.ssa_model.specs.Lines.{exit_over, last_inputs, block_by, carried_row, through}
use Rattle.ssa_model.specs.Run.{blocks_of}
use Rattle.ssa_laws.proofs.Keeps.{IsBeside, is_beside, carried_plain, carried_join, map_length}

-- one read of one variable
pub reads_one : (u v : ℕ) → 0 < reads_all (E.Var u ∷ []) v → v ≡ u
reads_one u v h = read_is u v (omega (arith, h))

reads_none : (v : ℕ) → 0 < reads_all [] v → ⊥
reads_none v h = omega (arith, h)

unfit : {P : Type 0} → false ≡ true → P
unfit h = absurd (true≢false (sym h))

module _ (l : Listing) (p : Parts) (whole : IsWhole p.graph) (ssa : IsSsa (form p)) where
  abbrev k : Blocks
  k = blocks_of l p

  abbrev IsRow : ℕ → OpRow → Type 0
  IsRow v r = op_at p.graph v ≡ Some r

  -- ---- exits

  -- the op by which a block is left
  pub record Closing (b : ℕ) (role : Role) : Type 0 where
    pub op : ℕ
    pub row : OpRow
    pub last : last_or None (block_at p.graph b) ≡ Some op
    pub is : IsRow op row
    pub role_is : role_of row.code ≡ role
    pub fitting : fits role (bytes_of row.width) (map (width_at (op_at p.graph)) row.inputs) ≡ true

  pub closing : (b : ℕ) (e : SsaExit) (role : Role)
      → exit_in (block_with b p.blocks) ≡ Some e
      → exit_role e ≡ Some role
      → Closing b role
  closing b e role at has = by_row (op_at p.graph found.0) refl found.1.1.1.0
    where
      found : (x : ℕ)
          × ((last_or None (block_at p.graph b) ≡ Some x)
          × ((f : OpForm) × ((form_in (op_at p.graph) (op_at p.graph x) ≡ Some f) × (f.role ≡ role))))
      found = ssa.formed.left b e role at has

      by_row : (o : Option OpRow)
          → op_at p.graph found.0 ≡ o
          → form_in (op_at p.graph) o ≡ Some found.1.1.0
          → Closing b role
      by_row None is some = none_some some
      by_row (Some t) is some =
          let same : form_of (op_at p.graph) t ≡ found.1.1.0 = some_same some in
          let role_is : role_of t.code ≡ role = ap (λ (f : OpForm). f.role) same ∙ found.1.1.1.1 in
          record {
            op = found.0;
            row = t;
            last = found.1.0;
            is = is;
            role_is = role_is;
            fitting =
                subst (λ z. fits z (bytes_of t.width) (map (width_at (op_at p.graph)) t.inputs) ≡ true) role_is
                (ssa.formed.ops found.0 (form_of (op_at p.graph) t) (ap (form_in (op_at p.graph)) is));
          }

  -- the last op of the block reads the value, and is no MULTIEQUAL
  pub record ReadLast (b v : ℕ) : Type 0 where
    pub op : ℕ
    pub row : OpRow
    pub last : last_or None (block_at p.graph b) ≡ Some op
    pub is : IsRow op row
    pub plain : IsJoin (role_of row.code) → ⊥
    pub read : IsIn v row.inputs

  closed_inputs : (b : ℕ) (role : Role) (c : Closing b role)
      → last_inputs p.graph (last_or None (block_at p.graph b)) ≡ c.row.inputs
  closed_inputs b role c = ap (last_inputs p.graph) c.last ∙ ap inputs_in c.is

  read_last : (b v : ℕ) (role : Role) (c : Closing b role) → (IsJoin role → ⊥) → IsIn v c.row.inputs → ReadLast b v
  read_last b v role c plain m = record {
    op = c.op;
    row = c.row;
    last = c.last;
    is = c.is;
    plain = λ j. plain (subst IsJoin c.role_is j);
    read = m;
  }

  tests_one : (w : ℕ) (vs : List ℕ) (v : ℕ)
      → fits Tests w (map (width_at (op_at p.graph)) vs) ≡ true
      → 0 < reads_all (exit_args (exit_over (X.Test (record { 0 = 0 }) (record { 0 = 0 })) vs)) v
      → IsIn v vs
  tests_one w [] v fit h = unfit fit
  tests_one w (u ∷ vs) v fit h = inl (reads_one u v h)

  switches_one : (w : ℕ) (vs : List ℕ) (v : ℕ)
      → fits Switches w (map (width_at (op_at p.graph)) vs) ≡ true
      → 0 < reads_all (exit_args (exit_over (X.Switch []) vs)) v
      → IsIn v vs
  switches_one w [] v fit h = unfit fit
  switches_one w (u ∷ vs) v fit h = inl (reads_one u v h)

  returns_one : (vs : List ℕ) (v : ℕ) → 0 < reads_all (exit_args (exit_over X.Return vs)) v → IsIn v vs
  returns_one [] v h = absurd (reads_none v h)
  returns_one (u ∷ vs) v h = inl (reads_one u v h)

  by_exit : (b v : ℕ) (o : Option SsaExit)
      → exit_in (block_with b p.blocks) ≡ o
      → 0 < reads_all (exit_args (exit_of (block_by l p.graph b o))) v
      → ReadLast b v
  by_exit b v None at h = absurd (reads_none v h)
  by_exit b v (Some X.Return) at h =
      let c = closing b X.Return Returns at refl in
      read_last b v Returns c (λ j. j)
      (returns_one c.row.inputs v
      (subst (λ vs. 0 < reads_all (exit_args (exit_over X.Return vs)) v) (closed_inputs b Returns c) h))
  by_exit b v (Some (X.Jump to)) at h = absurd (reads_none v h)
  by_exit b v (Some (X.Test taken other)) at h =
      let c = closing b (X.Test taken other) Tests at refl in
      read_last b v Tests c (λ j. j)
      (tests_one (bytes_of c.row.width) c.row.inputs v c.fitting
      (subst (λ vs. 0 < reads_all (exit_args (exit_over (X.Test taken other) vs)) v) (closed_inputs b Tests c) h))
  by_exit b v (Some (X.Switch arms)) at h =
      let c = closing b (X.Switch arms) Switches at refl in
      read_last b v Switches c (λ j. j)
      (switches_one (bytes_of c.row.width) c.row.inputs v c.fitting
      (subst (λ vs. 0 < reads_all (exit_args (exit_over (X.Switch arms) vs)) v) (closed_inputs b Switches c) h))
  by_exit b v (Some X.Stop) at h = absurd (reads_none v h)

  -- What an exit reads is read by the last op of its block.
  pub exit_reads : (b v : ℕ) → 0 < reads_all (exit_args (exit_at k b)) v → ReadLast b v
  exit_reads b v h = by_exit b v (exit_in (block_with b p.blocks)) refl h

  -- ---- edges

  -- what a MULTIEQUAL has over an edge to its block
  pub record Joined (b c w : ℕ) (r : OpRow) : Type 0 where
    pub beside : IsBeside b (predecessors_at p.blocks c) r.inputs
    pub is : through p b c w ≡ beside.value

  pub edge_input : (b c w : ℕ) (r : OpRow)
      → IsRow w r
      → IsJoin (role_of r.code)
      → r.block ≡ c
      → IsIn b (predecessors_at p.blocks c)
      → Joined b c w r
  edge_input b c w r is j same lead =
      let q = is_beside b (predecessors_at p.blocks c) r.inputs lead
      (sym (map_length (width_at (op_at p.graph)) r.inputs)
      ∙ ssa.formed.joins w (form_of (op_at p.graph) r) (ap (form_in (op_at p.graph)) is) j
      ∙ ap (λ d. length (predecessors_at p.blocks d)) same) in
      record {
        beside = q;
        is = ap (carried_row w b c (predecessors_at p.blocks c)) is
            ∙ carried_join w b c q.value (predecessors_at p.blocks c) r (role_of r.code) j same q.is;
      }

  -- any other value stays
  pub edge_plain : (b c w : ℕ) (r : OpRow)
      → IsRow w r
      → (IsJoin (role_of r.code) → r.block ≡ c → ⊥)
      → through p b c w ≡ w
  edge_plain b c w r is n =
      ap (carried_row w b c (predecessors_at p.blocks c)) is
      ∙ carried_plain w b c (predecessors_at p.blocks c) r (role_of r.code) n
