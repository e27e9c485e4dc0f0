use Rattle.std.proofs.Common.{◌≡◌, ◌<◌, ℕ, List, length, Option, Some, None, sym, ap, ◌∙◌, subst, slice_get, unwrap_or}
use Rattle.node_lists.specs.Families.{list_at, key_at}
use Rattle.opgraph.specs.Graph.{OpRow, Graph, op_at, IsOp, IsWhole, inputs_in}
use Rattle.opgraph.specs.Parts.{or_zero}
use Rattle.heap_nodes.proofs.Places.{none_some, some_same, some_of, get_in, get_map}
use Rattle.opgraph.proofs.Tables.{op_at_is, value_of}
use Rattle.opgraph.proofs.Whole.{row_is, in_at, whole}
use Rattle.opgraph.proofs.SlotEdits.{op_list, op_key}
use Rattle.opgraph.proofs.graph.OpGraph.input.Goals as goal
use Rattle.opgraph.proofs.graph.OpGraph.input.Goals.{in-None, in-Some}

pub nth-requires : goal.nth-requires
nth-requires c =
    op_list c.self.inside.ops c.self.inside.inputs c.self.inside.uses c.self.invariant c.args.op.0
    (subst (λ (z : Graph). IsOp z c.args.op.0) (sym c.self.view_is) c.requires.op)

pub list-value-requires : goal.list-value-requires
list-value-requires c =
    let i = c.self.inside.inputs in
    let u = c.self.inside.uses in let g = c.self.invariant in let s = c.in-Some.slot in let x = c.args.op.0 in
    let k =
    (g.full_inputs.members (Some x) s
    (in_at (list_at i (Some x)) c.args.slot s (sym c.nth.ensures ∙ c.in-Some.is))).1 in
    let w = value_of (key_at u s) (g.reads s (some_of k)) in g.full_uses.low s w.0 w.1

pub returns-clause-value : goal.returns-clause-value
returns-clause-value c =
    let o = c.self.inside.ops in
    let i = c.self.inside.inputs in let u = c.self.inside.uses in let x = c.args.op.0 in let g = c.self.invariant in
    let k = op_key o i u g x (subst (λ (z : Graph). IsOp z x) (sym c.self.view_is) c.requires.op) in
    let r = row_is o i u g x k.0 k.1 in
    let row =
    ap (λ (z : Graph). op_at z x) (sym c.self.view_is)
    ∙ ap (λ (h : ℕ → Option OpRow). h x) (op_at_is o i u)
    ∙ r.2 in
    let low =
    subst (λ n. c.args.slot < n)
    (ap (λ z. length (inputs_in z)) row
    ∙ Rattle.std.proofs.lemmas.List.length-map (list_at i (Some x)) (λ s. or_zero (key_at u s)))
    c.requires.slot in
    let got = get_in (list_at i (Some x)) c.args.slot low in
    let at =
    ap (λ z. slice_get (inputs_in z) c.args.slot) row
    ∙ get_map (λ s. or_zero (key_at u s)) (list_at i (Some x)) c.args.slot got.0 got.1 in
    elim c.match-nth.branch [
      | in-None w ↦ none_some (sym w.in-None.is ∙ c.nth.ensures ∙ got.1)
      | in-Some w ↦
          let e = some_same (sym w.in-Some.is ∙ c.nth.ensures ∙ got.1) in
          at
          ∙ ap Some
          (same (key_at u got.0)
          ∙ ap (λ z. unwrap_or z 0) (ap (key_at u) (sym e) ∙ sym w.list-value.ensures ∙ sym w.value-is)
          ∙ sym c.unwrap_or.ensures)
    ]
  where
    same : (v : Option ℕ) → or_zero v ≡ unwrap_or v 0
    same None = Rattle.std.proofs.Common.refl
    same (Some n) = Rattle.std.proofs.Common.refl

pub returns-clause-known : goal.returns-clause-known
returns-clause-known c =
    let all =
    subst IsWhole c.self.view_is
    (whole c.self.inside.ops c.self.inside.inputs c.self.inside.uses c.self.invariant) in
    all.values (record { op = c.args.op; slot = c.args.slot }) c.unwrap_or.result (returns-clause-value c)
