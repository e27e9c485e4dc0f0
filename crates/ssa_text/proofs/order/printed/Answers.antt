use Rattle.std.proofs.Common.{ℕ, Bool, ◌+◌, ◌++◌, ◌∷◌, drop, sym, ap, ◌∙◌, append_assoc}
use Rattle.std.specs.Prelude.{not, ◌==◌}
use Rattle.std.proofs.lemmas.List.{drop_more}
use Rattle.opgraph.specs.Graph.{op_at}
use Rattle.ssa_model.specs.Outline.{ids, only, width_at}
use Rattle.ssa_text.specs.Text.{all_lines, lines_from}
use Rattle.ssa_text.proofs.Only.{only_both}
use Rattle.ssa_text.proofs.order.printed.Goals as goal

pub loop-block-preserved : goal.loop-block-preserved
loop-block-preserved c =
    let p = c.args.parts.now in
    let starts = c.args.starts.now in
    let keeps : ℕ → Bool = λ x. not (width_at (op_at p.graph) x == 0) in
    let rest = all_lines p starts (ids (drop (c.loop-block.block-index + 1) p.blocks)) in
    let here = lines_from p starts c.block-item.result.id.0 in
    let n = c.loop-block.block-index in
    let b = c.block-item.result in
    let items = c.as_slice-block-items.result.now in
    let same = c.as_slice-block-items.ensures in
    let split = ap (drop n) (sym same) ∙ drop_more items n b c.loop-block-test.true
    ∙ ap (λ x. x ∷ drop (n + 1) items) (sym c.block-item.is) ∙ ap (λ xs. b ∷ drop (n + 1) xs) same in
    ap (λ xs. xs ++ only keeps rest) ((c.in_ok-put_values.ensures {u = tt}) ∙ ap (λ xs. c.loop-block.values.items ++ only keeps xs) (c.deref.ensures.value ∙ c.in_ok-lines.ensures))
    ∙ append_assoc _ (only keeps here) (only keeps rest)
    ∙ ap (λ xs. c.loop-block.values.items ++ xs) (sym (only_both keeps here rest))
    ∙ ap (λ bs. c.loop-block.values.items ++ only keeps (all_lines p starts (ids bs))) (sym split)
    ∙ c.loop-block.invariant
