use Rattle.std.proofs.Common.{◌≡◌, ◌∙◌, length, ap, sym, arith, string_bytes}
use Rattle.std.specs.Prelude.{None}
use Rattle.runwords.specs.Request.{steps_of}
use Rattle.runwords.proofs.Four.{no_steps}
use Rattle.runwords.proofs.plan.read_words.Goals as goal

pub returns-in_default : goal.returns-in_default
returns-in_default c =
    let four : length c.args.words.now ≡ 4 = omega arith in
    let none : steps_of (string_bytes c.index-words-3.result) ≡ None = ap steps_of (sym c.as_bytes.ensures.value)
    ∙ sym c.in_default.ensures in
    sym (no_steps string_bytes c.args.words.now c.index-words-3.result four c.index-words-3.is none)
