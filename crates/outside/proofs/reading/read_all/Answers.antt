use Rattle.std.proofs.Common.{rules, refl}
use Rattle.outside.proofs.Pieces.{gave_end}
use Rattle.outside.proofs.reading.read_all.Goals as goal

pub returns-in-Err-clause-gave : goal.returns-in-Err-clause-gave
returns-in-Err-clause-gave g c =
    let i = c.loop-src.invariant in
    let h = c.in-Err.ensures in
    gave_end c.args.limit _ (g.S.Source.told c.args.src.now) (g.S.Source.told c.loop-src.src) (g.S.Source.told c.read_more.new.src) c.loop-src.bytes c.in-Err.end
    refl (search rules) i.1 i.2 h.fault h.most h.not_long h.kept
