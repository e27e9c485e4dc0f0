use Rattle.std.proofs.Common.{arith}
use Rattle.std.proofs.lemmas.Bool.Decides.{nat_tests}
use Rattle.bits_core.proofs.Limits.{halves}
use Rattle.bits_core.proofs.Machine.{half_mask}
use Rattle.bits_core.proofs.word.Word.is_negative.Goals as goal

pub returns : goal.returns
returns c =
    let hs = halves c.args.self.width.bytes c.args.self.width.from in
    grind (arith, nat_tests, half_mask c.args.self.width.bytes c.args.self.width.from)
