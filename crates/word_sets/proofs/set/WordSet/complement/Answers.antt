use Rattle.word_sets.proofs.Turns.{not-turned}
use Rattle.word_sets.proofs.set.WordSet.complement.Goals as goal

pub returns : goal.returns
returns c = λ v. not-turned c.args.self.first c.args.self.turns.items v
