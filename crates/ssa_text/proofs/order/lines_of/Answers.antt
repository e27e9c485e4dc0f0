use Rattle.std.proofs.Common.{ℕ, List, ◌++◌, ap, ◌∙◌, append_assoc}
use Rattle.std.specs.Prelude.{if◌then◌else◌, [], ◌==◌}
use Rattle.opgraph.specs.Graph.{block_at, op_at}
use Rattle.ssa_model.specs.Outline.{multis_of, only, role_at}
use Rattle.ssa_text.specs.Text.{has_line}
use Rattle.ssa_text.proofs.order.lines_of.Goals as goal

pub returns : goal.returns
returns c =
    let g = c.args.parts.now.graph in
    let multis : List ℕ = multis_of (op_at g) (block_at g c.args.block.0) in
    let begins : List ℕ = if c.args.block.0 == c.args.parts.now.entry.0 then c.args.starts.now else [] in
    let others : List ℕ → List ℕ = λ xs. only (λ x. has_line (role_at (op_at g) x)) xs in
    let ops = c.in_ok-ops.ensures in
    let first = (c.in_ok-put_starts.ensures {u = tt}) ∙ ap (λ xs. xs ++ begins) c.new-lines.ensures.items in
    let second = c.deref-2.ensures.value ∙ c.in_ok-multis.ensures
    ∙ ap (multis_of (op_at g)) (c.deref.ensures.value ∙ ops) in
    (c.in_ok-put_others.ensures {u = tt})
    ∙ ap (λ xs. c.extend_from_slice.new.self.items ++ others xs) (c.deref-3.ensures.value ∙ ops)
    ∙ ap (λ xs. xs ++ others (block_at g c.args.block.0))
    (c.in_ok-extend_from_slice.ensures.items ∙ ap (λ xs. xs ++ c.deref-2.result.now) first ∙ ap (λ xs. begins ++ xs) second)
    ∙ append_assoc begins multis (others (block_at g c.args.block.0))
