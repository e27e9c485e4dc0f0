use Rattle.std.proofs.Common.{◌≡◌, ◌≤◌, ◌^◌, ◌++◌, length, drop}
use Rattle.plaincode.specs.Body.{body_made}
use Rattle.op_code.specs.FrameTable.{own_at}
use Rattle.plaincode.proofs.blocks.body.Given as goal

abbrev pub invariant-loop-place : goal.invariant-loop-place
invariant-loop-place l =
    let all = body_made l.listing (own_at l.frame) l.table (length l.initial.variables) l.places in
    let rest = body_made l.listing (own_at l.frame) l.table (length l.variables) (drop l.place-index l.places) in
    record {
      statements : l.body ++ rest.statements ≡ all.statements;
      locals : l.variables ++ rest.locals ≡ l.initial.variables ++ all.locals;
      few : length l.variables ≤ 2 ^ 32;
    }
