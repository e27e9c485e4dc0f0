-- Before the exit Stop stands a call.
use Rattle.std.proofs.Common.{◌≡◌, ℕ, List, [], ◌∷◌, ◌++◌, map, Option, Some, None, refl, sym, ap, ◌∙◌, subst}
use Rattle.heap_nodes.proofs.Places.{some_same, none_some}
use Rattle.pcode_model.specs.declared.listing.Listing.{Listing}
use Rattle.cmeaning.specs.declared.tree.Expr.{Expr}
use Rattle.cmeaning.specs.declared.tree.Expr.TheVariants as E
use Rattle.cmeaning.specs.declared.tree.Stmt.{Stmt, out-Stmt}
use Rattle.cmeaning.specs.declared.tree.Stmt.TheVariants as S
use Rattle.cmeaning.specs.declared.tree.Stmt.TheViews.{out-roll-Stmt}
use Rattle.cmeaning.specs.declared.tree.Stmt.TheOpen.{Stmt-F}
use Rattle.blockcode.specs.declared.code.Exit.TheVariants as C
use Rattle.parts.specs.Stmts.{layer_action}
use Rattle.edges.specs.Run.{Blocks, stmts_of, exit_of, stmts_at, exit_at}
use Rattle.edges.specs.Live.{IsCall, EndsInCall, IsBlock}
use Rattle.node_lists.specs.Chains.{last_or}
use Rattle.opgraph.specs.Graph.{OpRow, op_at, block_at}
use Rattle.ssa_model.specs.declared.form.SsaExit.{SsaExit}
use Rattle.ssa_model.specs.declared.form.SsaExit.TheVariants as X
use Rattle.ssa_model.specs.declared.form.Parts.{Parts}
use Rattle.ssa_model.specs.Roles.{Calls, role_of}
use Rattle.ssa_model.specs.Outline.{OpForm, form, form_in, exit_in, block_with}
use Rattle.ssa_model.specs.Edits.{IsSsa}
use Rattle.ssa_model.specs.Lines.{target, line_of, line_by, body_of, exit_over, last_inputs, block_by}
use Rattle.ssa_model.specs.Run.{blocks_of}

stops_over : (e : SsaExit) (vs : List ℕ) → exit_over e vs ≡ C.Stop → e ≡ X.Stop
stops_over X.Return [] is = absurd (cc)
stops_over X.Return (v ∷ vs) is = absurd (cc)
stops_over (X.Jump to) vs is = absurd (cc)
stops_over (X.Test taken other) vs is = absurd (cc)
stops_over (X.Switch arms) vs is = absurd (cc)
stops_over X.Stop vs is = refl

ends_after : (fs bs : List Stmt) → EndsInCall bs → EndsInCall (fs ++ bs)
ends_after [] bs h = h
ends_after (a ∷ []) [] h = absurd h
ends_after (a ∷ []) (b ∷ bs) h = h
ends_after (a ∷ c ∷ fs) bs h = ends_after (c ∷ fs) bs h

call_is : (t : Option ℕ) (callee : ℕ) (es : List Expr) → IsCall (S.Call t callee es)
call_is t callee es =
    let y = Stmt-F.Call t callee es in
    (callee, ap layer_action (ap out-Stmt (sym (S.rolls-Call t callee es)) ∙ out-roll-Stmt y))

module _ (l : Listing) (p : Parts) (ssa : IsSsa (form p)) where
  abbrev k : Blocks
  k = blocks_of l p

  calls_last : (xs : List ℕ) (x callee : ℕ) (r : OpRow)
      → last_or None xs ≡ Some x
      → op_at p.graph x ≡ Some r
      → role_of r.code ≡ Calls callee
      → EndsInCall (body_of l p.graph xs)
  calls_last [] x callee r last row role = none_some last
  calls_last (y ∷ []) x callee r last row role =
      let one : line_of l x (op_at p.graph x) ≡ S.Call (target x r.width) callee (map E.Var r.inputs) ∷ [] =
      ap (line_of l x) row ∙ ap (λ z. line_by l x r.inputs z r.width) role in
      let same : y ≡ x = some_same last in
      let P : ℕ → Type 0 = λ z. EndsInCall (line_of l z (op_at p.graph z) ++ []) in
      subst P (sym same)
      (subst (λ cs. EndsInCall (cs ++ [])) (sym one) (call_is (target x r.width) callee (map E.Var r.inputs)))
  calls_last (y ∷ z ∷ zs) x callee r last row role =
      ends_after (line_of l y (op_at p.graph y)) (body_of l p.graph (z ∷ zs))
      (calls_last (z ∷ zs) x callee r last row role)

  form_row : (x : ℕ) (o : Option OpRow) (f : OpForm)
      → form_in (op_at p.graph) o ≡ Some f
      → (r : OpRow) × ((o ≡ Some r) × (role_of r.code ≡ f.role))
  form_row x None f is = none_some is
  form_row x (Some r) f is = (r, (refl, ap (λ (g : OpForm). g.role) (some_same is)))

  call_ends : (b : ℕ) → exit_in (block_with b p.blocks) ≡ Some X.Stop → EndsInCall (body_of l p.graph (block_at p.graph b))
  call_ends b stop =
      let s = ssa.formed.stops b stop in
      let f = s.1.1.0 in
      let is = s.1.1.1 in
      let r = form_row s.0 (op_at p.graph s.0) f is.0 in
      calls_last (block_at p.graph b) s.0 is.1.1.0 r.0 s.1.0 r.1.0 (r.1.1 ∙ is.1.1.1)

  pub stops_called : (b : ℕ) → IsBlock k b → exit_at k b ≡ C.Stop → EndsInCall (stmts_at k b)
  stops_called b block is = by_exit (exit_in (block_with b p.blocks)) refl block.1 is
    where
      by_exit : (o : Option SsaExit)
          → exit_in (block_with b p.blocks) ≡ o
          → block_by l p.graph b o ≡ Some block.0
          → exit_of (block_by l p.graph b o) ≡ C.Stop
          → EndsInCall (stmts_of (block_by l p.graph b o))
      by_exit None at some stop = none_some some
      by_exit (Some x) at some stop =
          call_ends b
          (at ∙ ap Some (stops_over x (last_inputs p.graph (last_or None (block_at p.graph b))) stop))
