use Rattle.std.proofs.Common.{◌≤◌, ◌^◌, ℕ, sym, subst}
use Rattle.pcode_model.specs.Spaces.{size_of}
use Rattle.c_run.proofs.Every.{flat_fits, flat_may}
use Rattle.run_world.proofs.Declared.{ram_size}
use Rattle.c_run.proofs.Spaces.{registers_small, uniques_small}
use Rattle.c_run.proofs.Turns.{fit_all, may_all}
use Rattle.c_run.proofs.run.run_c.Goals as goal

pub new-requires-2 : goal.new-requires-2
new-requires-2 c =
    subst (λ (n : ℕ). size_of c.args.listing.now n ≤ 2 ^ 64) (sym c.in_ok-setting.ensures.first_ram)
    (ram_size c.args.listing.now c.requires.formed)

pub new-requires-3 : goal.new-requires-3
new-requires-3 c =
    subst (λ (n : ℕ). size_of c.args.listing.now n ≤ 2 ^ 64) (sym c.in_ok-setting.ensures.registers)
    (registers_small c.args.listing.now c.requires.formed)

pub new-requires-4 : goal.new-requires-4
new-requires-4 c =
    subst (λ (n : ℕ). size_of c.args.listing.now n ≤ 2 ^ 64) (sym c.in_ok-setting.ensures.uniques)
    (uniques_small c.args.listing.now c.requires.formed)

pub run_from-requires-clause-right : goal.run_from-requires-clause-right
run_from-requires-clause-right c =
    may_all c.args.f.now c.in_ok-local.local.variables.f.now c.in_ok-local.ensures.function
    (flat_may c.args.listing.now c.args.f.now c.requires.formed c.requires.valid c.requires.fits)

pub run_from-requires-clause-fits : goal.run_from-requires-clause-fits
run_from-requires-clause-fits c =
    fit_all c.args.listing.now c.args.f.now c.in_ok-local.local.variables.f.now c.in_ok-local.ensures.function
    (flat_fits c.args.listing.now c.args.f.now c.requires.formed c.requires.valid c.requires.fits)
