-- The op by which a block is left: it has the exit's role, and the exit reads its inputs.
use Rattle.std.proofs.Common.{◌≡◌, ℕ, ◌<◌, true, List, [], ◌∷◌, inl, map, Option, Some, None, refl, sym, ap, ◌∙◌, subst, arith, true≢false}
use Rattle.heap_nodes.proofs.Places.{some_same, none_some}
use Rattle.bits_core.specs.declared.word.Width.{Width}
use Rattle.pcode_model.specs.declared.listing.Listing.{Listing}
use Rattle.node_lists.specs.Chains.{IsIn, last_or}
use Rattle.parts.proofs.Values.{read_is}
use Rattle.parts.specs.Exprs.{reads_all}
use Rattle.edges.specs.Exits.{exit_args}
use Rattle.opgraph.specs.Graph.{OpRow, op_at, block_at, inputs_in}
use Rattle.ssa_model.specs.declared.form.SsaExit.{SsaExit}
use Rattle.ssa_model.specs.declared.form.SsaExit.TheVariants as X
use Rattle.ssa_model.specs.declared.form.SsaBlock.{SsaBlock}
use Rattle.ssa_model.specs.declared.form.Parts.{Parts}
use Rattle.ssa_model.specs.Roles.{Role, Tests, Switches, Returns, role_of}
use Rattle.ssa_model.specs.Outline.{OpForm, bytes_of, form, form_of, form_in, forms_of, width_at, exit_in, block_with}
use Rattle.ssa_model.specs.Paths.{IsJoin}
use Rattle.ssa_model.specs.Formed.{exit_role, fits}
use Rattle.ssa_model.specs.Edits.{IsSsa}
use Rattle.ssa_model.specs.Lines.{line_by, exit_over, last_inputs}

-- a test and a switch read something
abbrev pub IsRead : SsaExit → List ℕ → Type 0
IsRead (X.Test taken other) vs = vs ≡ [] → ⊥
IsRead (X.Switch arms) vs = vs ≡ [] → ⊥
IsRead e vs = Unit {0}

-- ---- ops by which a block is left

-- such an op is no statement and no MULTIEQUAL
pub exit_lines : (l : Listing) (x : ℕ) (vs : List ℕ) (w : Option Width) (e : SsaExit) (role : Role)
    → exit_role e ≡ Some role
    → line_by l x vs role w ≡ []
exit_lines l x vs w X.Return role h = ap (λ z. line_by l x vs z w) (sym (some_same h))
exit_lines l x vs w (X.Jump to) role h = none_some h
exit_lines l x vs w (X.Test taken other) role h = ap (λ z. line_by l x vs z w) (sym (some_same h))
exit_lines l x vs w (X.Switch arms) role h = ap (λ z. line_by l x vs z w) (sym (some_same h))
exit_lines l x vs w X.Stop role h = none_some h

pub exit_no_join : (e : SsaExit) (role : Role) → exit_role e ≡ Some role → IsJoin role → ⊥
exit_no_join X.Return role h j = subst IsJoin (sym (some_same h)) j
exit_no_join (X.Jump to) role h j = none_some h
exit_no_join (X.Test taken other) role h j = subst IsJoin (sym (some_same h)) j
exit_no_join (X.Switch arms) role h j = subst IsJoin (sym (some_same h)) j
exit_no_join X.Stop role h j = none_some h

-- an op with a role that reads isn't without inputs
exit_reads : (ws : ℕ → ℕ) (e : SsaExit) (vs : List ℕ) (w : ℕ)
    → ((role : Role) → exit_role e ≡ Some role → fits role w (map ws vs) ≡ true)
    → IsRead e vs
exit_reads ws X.Return vs w h = tt
exit_reads ws (X.Jump to) vs w h = tt
exit_reads ws (X.Test taken other) [] w h = absurd (true≢false (sym (h Tests refl)))
exit_reads ws (X.Test taken other) (v ∷ vs) w h = λ e. absurd (cc)
exit_reads ws (X.Switch arms) [] w h = absurd (true≢false (sym (h Switches refl)))
exit_reads ws (X.Switch arms) (v ∷ vs) w h = λ e. absurd (cc)
exit_reads ws X.Stop vs w h = tt

-- what an exit reads is what its op reads
pub args_in : (e : SsaExit) (vs : List ℕ) (v : ℕ)
    → IsRead e vs
    → 0 < reads_all (exit_args (exit_over e vs)) v
    → IsIn v vs × ((role : Role) × (exit_role e ≡ Some role))
args_in X.Return [] v some h = absurd (omega (arith, h))
args_in X.Return (u ∷ vs) v some h = (inl (read_is u v (omega (arith, h))), (Returns, refl))
args_in (X.Jump to) vs v some h = absurd (omega (arith, h))
args_in (X.Test taken other) [] v some h = absurd (some refl)
args_in (X.Test taken other) (u ∷ vs) v some h = (inl (read_is u v (omega (arith, h))), (Tests, refl))
args_in (X.Switch arms) [] v some h = absurd (some refl)
args_in (X.Switch arms) (u ∷ vs) v some h = (inl (read_is u v (omega (arith, h))), (Switches, refl))
args_in X.Stop vs v some h = absurd (omega (arith, h))

module _ (l : Listing) (p : Parts) (ssa : IsSsa (form p)) where
  abbrev ws : ℕ → ℕ
  ws = width_at (op_at p.graph)

  form_fits : (v : ℕ) (r : OpRow)
      → op_at p.graph v ≡ Some r
      → fits (role_of r.code) (bytes_of r.width) (map ws r.inputs) ≡ true
  form_fits v r is = ssa.formed.ops v (form_of (op_at p.graph) r) (ap (form_in (op_at p.graph)) is)

  -- the op by which a block is left
  pub record Leaves (c : ℕ) (z : SsaExit) (role : Role) : Type 0 where
    pub op : ℕ
    pub row : OpRow
    pub last : last_or None (block_at p.graph c) ≡ Some op
    pub at : op_at p.graph op ≡ Some row
    pub is : role_of row.code ≡ role

  pub leaver : (c : ℕ) (z : SsaBlock) (role : Role)
      → block_with c p.blocks ≡ Some z
      → exit_role z.exit ≡ Some role
      → Leaves c z.exit role
  leaver c z role is has =
      let left = ssa.formed.left c z.exit role (ap exit_in is) has in
      by left.0 left.1.0 left.1.1.0 left.1.1.1.0 left.1.1.1.1 (op_at p.graph left.0) refl
    where
      by : (x : ℕ)
          → last_or None (block_at p.graph c) ≡ Some x
          → (f : OpForm)
          → forms_of (op_at p.graph) x ≡ Some f
          → f.role ≡ role
          → (o : Option OpRow)
          → op_at p.graph x ≡ o
          → Leaves c z.exit role
      by x last f form_is role_is None at = none_some (sym (ap (form_in (op_at p.graph)) at) ∙ form_is)
      by x last f form_is role_is (Some t) at = record {
        op = x;
        row = t;
        last = last;
        at = at;
        is = ap (λ (h : OpForm). h.role) (some_same (sym (ap (form_in (op_at p.graph)) at) ∙ form_is)) ∙ role_is;
      }

  pub last_is : (c : ℕ) (z : SsaExit) (role : Role) (x : Leaves c z role)
      → last_inputs p.graph (last_or None (block_at p.graph c)) ≡ x.row.inputs
  last_is c z role x = ap (last_inputs p.graph) x.last ∙ ap inputs_in x.at

  pub is_read : (c : ℕ) (z : SsaBlock)
      → block_with c p.blocks ≡ Some z
      → IsRead z.exit (last_inputs p.graph (last_or None (block_at p.graph c)))
  is_read c z is =
      by (exit_role z.exit) refl
    where
      by : (o : Option Role)
          → exit_role z.exit ≡ o
          → IsRead z.exit (last_inputs p.graph (last_or None (block_at p.graph c)))
      by None none =
          exit_reads ws z.exit (last_inputs p.graph (last_or None (block_at p.graph c))) 0
          (λ role h. none_some (sym none ∙ h))
      by (Some role) has =
          let x = leaver c z role is has in
          subst (IsRead z.exit) (sym (last_is c z.exit role x))
          (exit_reads ws z.exit x.row.inputs (bytes_of x.row.width)
          (λ role' h.
          subst (λ r. fits r (bytes_of x.row.width) (map ws x.row.inputs) ≡ true)
          (x.is ∙ some_same (sym has ∙ h)) (form_fits x.op x.row x.at)))
