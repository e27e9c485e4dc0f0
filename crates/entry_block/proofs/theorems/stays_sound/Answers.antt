use Rattle.entry_block.proofs.Keeps.{apart_sound}
use Rattle.entry_block.proofs.theorems.stays_sound.Goals as goal

pub returns : goal.returns
returns c = λ k numbered sound. apart_sound k numbered sound
