use Rattle.std.proofs.Common.{Bool, List, ◌++◌, length, ap, ap₂, ◌∙◌}
use Rattle.std.proofs.lemmas.Result.{on_ok_weaker}
use Rattle.pcode_model.specs.Spaces.{is_big}
use Rattle.cmeaning.specs.declared.tree.Stmt.{Stmt}
use Rattle.op_code.specs.Cover.{Piece, cover}
use Rattle.op_code.specs.Made.{local_for}
use Rattle.op_code.specs.Sources.{set_to}
use Rattle.op_code.specs.Words.{parts_by, target_by}
use Rattle.op_code.proofs.Settled.{settled}
use Rattle.op_code.proofs.outputs.set_range.Goals as goal

pub returns : goal.returns
returns c =
    let v = c.args.out in
    let big = is_big c.args.listing.now in
    let variables = c.args.variables.now in
    let next = length variables in
    let n = c.in_ok-target.target in
    let ps = c.in_ok-pieces.pieces.items in
    let pushed = c.push.new.self in
    let parts : Bool → List Piece → List Stmt = λ b qs. pushed ++ parts_by b v n qs in
    let number = c.in_ok-target.ensures.number ∙ ap (target_by next) c.deref.ensures.value in
    let order = c.is_big-big.ensures ∙ ap big c.from.ensures in
    on_ok_weaker c.assign_parts.result
    (λ e. record {
      statements =
          settled (big v.space) v (set_to c.args.source) next n c.statement.result ps (cover c.args.table.now v)
          c.args.body.now pushed c.assign_parts.new.body c.in_ok-pieces.ensures number c.statement.ensures
          c.in_ok-push.ensures.ok (e ∙ ap₂ parts order c.deref-2.ensures.value);
      locals =
          c.in_ok-target.ensures.locals
          ∙ ap (λ (qs : List Piece). variables ++ local_for qs v) (c.deref.ensures.value ∙ c.in_ok-pieces.ensures);
      few = c.in_ok-target.ensures.few;
    })
    c.assign_parts.ensures
