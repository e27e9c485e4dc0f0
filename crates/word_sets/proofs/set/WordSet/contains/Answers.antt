use Rattle.std.proofs.Common.{refl, ap, ◌∙◌, arith}
use Rattle.std.proofs.lemmas.List.{take_all}
use Rattle.word_sets.specs.Turns.{turned}
use Rattle.word_sets.proofs.Turns.{turns_here, turns_later}
use Rattle.word_sets.proofs.set.WordSet.contains.Goals as goal
use Rattle.word_sets.proofs.set.WordSet.contains.Goals.{then-turn-word, else-turn-word}

pub loop-turn-preserved : goal.loop-turn-preserved
loop-turn-preserved c =
    let i = c.loop-turn.turn-index in
    let cs = c.deref-turns.result.now in
    let b = c.args.self.now.first in
    let was = c.loop-turn.is_in in
    elim c.if-turn-word.branch [
      | then-turn-word w ↦ rw w.is_in-is
          (turns_here b cs i _ c.args.word was c.loop-turn-test.true refl w.if-turn-word.true c.loop-turn.invariant)
      | else-turn-word w ↦ rw w.is_in-is
          (turns_later b cs i _ c.args.word was c.loop-turn-test.true refl w.if-turn-word.false c.loop-turn.invariant)
    ]

pub returns : goal.returns
returns c =
    c.loop-turn.invariant
    ∙ ap (λ cs. turned c.args.self.now.first cs c.args.word)
    (take_all c.loop-turn.turn-index c.deref-turns.result.now (omega (arith, c.loop-turn-test.false))
    ∙ c.deref-turns.ensures.value)
