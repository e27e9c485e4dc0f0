use Rattle.std.proofs.Common.{refl}
use Rattle.statuses.proofs.Pieces.{after_front, short_front}
use Rattle.statuses.proofs.delivery.write_line.Goals as goal

pub returns-in-Ok-clause-writes : goal.returns-in-Ok-clause-writes
returns-in-Ok-clause-writes g c =
    after_front c.args.status (g.K.Sink.told c.args.sink.now) (g.K.Sink.told c.write_all.new.out) (g.K.Sink.told c.write_whole.new.sink) c.args.name.now c.args.words.now c.write_whole.result c.in-Ok.ensures.whole c.write_whole.ensures.writes

pub returns-in-Err-clause-writes : goal.returns-in-Err-clause-writes
returns-in-Err-clause-writes g c =
    short_front c.args.status (g.K.Sink.told c.args.sink.now) (g.K.Sink.told c.write_all.new.out) c.args.name.now c.args.words.now _ refl c.in-Err.ensures.cut
