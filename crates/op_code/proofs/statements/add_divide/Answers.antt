use Rattle.std.proofs.Common.{◌≡◌, ℕ, List, length, ap, ap₂, ◌∙◌, subst}
use Rattle.std.proofs.lemmas.Result.{on_ok_weaker}
use Rattle.pcode_model.specs.Step.{varnode_at}
use Rattle.cmeaning.specs.declared.tree.Stmt.{Stmt}
use Rattle.op_code.specs.Adds.{Adds, before}
use Rattle.op_code.specs.Made.{Made, both_read, divides, sets, word_at}
use Rattle.op_code.specs.Sources.{set_to}
use Rattle.op_code.proofs.Adds.{adds_more}
use Rattle.op_code.proofs.statements.add_divide.Goals as goal

pub returns : goal.returns
returns c =
    let l = c.args.listing.now in
    let ranges = c.args.table.now in
    let variables = c.args.variables.now in
    let there = c.read_both.new.variables in
    let divisor = varnode_at c.args.op.now.inputs 1 in
    let read = both_read l ranges (length variables) c.args.op.now.inputs 0 in
    let known = c.in_ok-left.ensures {u = tt} in
    let make = divides l c.args.code divisor (word_at read 0) (word_at read 1) in
    let same : set_to c.in_ok-source.source ≡ make =
    c.in_ok-source.ensures {u = tt}
    ∙ ap (λ v. divides l c.args.code v c.in_ok-left.left c.in_ok-left.right) c.input.ensures
    ∙ ap₂ (divides l c.args.code divisor) known.first known.second in
    let to : (ℕ → Stmt) → ℕ → Made = λ m n. sets l ranges n c.args.op.now.out m in
    on_ok_weaker c.set.result
    (λ e. adds_more variables there c.set.new.variables c.args.body.now c.read_both.new.body c.set.new.body (before read)
    (to make) known.added
    (subst (λ m. Adds there c.set.new.variables c.read_both.new.body c.set.new.body (to m (length there))) same e))
    c.set.ensures
