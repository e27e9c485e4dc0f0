use Rattle.std.proofs.Common.{arith}
use Rattle.ctext.proofs.Hexadecimal.{hex_more}
use Rattle.ctext.proofs.digits.+put_hex.Goals as goal

pub returns-then-n-ge16 : goal.returns-then-n-ge16
returns-then-n-ge16 t c = hex_more c.args.out.now.items c.put_hex.new.out.items c.push.new.self.items c.args.n
    c.glyph.result c.if-n-ge16.true (omega arith) c.in_ok-put_hex.ensures c.glyph.ensures c.in_ok-push.ensures.items
