use Rattle.std.proofs.Common.{◌≤◌, ◌^◌, ℕ, subst, sym}
use Rattle.pcode_model.specs.Spaces.{size_of}
use Rattle.run_world.proofs.Declared.{ram_size}
use Rattle.pcode_run.proofs.run.context.Goals as goal

pub new-ram-requires : goal.new-ram-requires
new-ram-requires c =
    let P : ℕ → Type 0 = λ n. size_of c.args.listing.now n ≤ 2 ^ 64 in
    subst P (sym (c.in_ok-setting.ensures {u = tt}).first_ram) (ram_size c.args.listing.now c.requires.formed)
