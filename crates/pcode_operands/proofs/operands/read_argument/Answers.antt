use Rattle.std.proofs.Common.{◌≤◌, ◌^◌, ℕ, subst, sym}
use Rattle.pcode_model.specs.Spaces.{size_of}
use Rattle.run_world.proofs.Declared.{ram_size}
use Rattle.pcode_operands.proofs.operands.read_argument.Goals as goal

pub word_at-requires-clause-small : goal.word_at-requires-clause-small
word_at-requires-clause-small c =
    let P : ℕ → Type 0 = λ n. size_of c.args.context.now.listing.now n ≤ 2 ^ 64 in
    subst P (sym c.requires.context.setting.first_ram)
    (ram_size c.args.context.now.listing.now c.requires.context.formed)
