use Rattle.std.proofs.Common.{◌≡◌, ◌-◌, suc, sym, arith}
use Rattle.ctext.specs.Names.{scope_of}
use Rattle.cread.proofs.Dispatch.{statement_word}
use Rattle.cread.proofs.statements.+lines.Goals as goal

pub statement-returns-in-Some : goal.statement-returns-in-Some
statement-returns-in-Some t c =
    let one : c.args.levels ≡ suc (c.args.levels - 1) = omega arith in
    let is = statement_word (scope_of c.args.f.now) c.args.levels (c.args.levels - 1) c.args.bytes.now c.in-Some.word
    c.in-Some.rest.now one (sym c.in-Some.ensures) in
    rw is c.behind_word.ensures
