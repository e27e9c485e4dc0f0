use Rattle.std.proofs.Common.{◌≡◌, arith, false}
use Rattle.run_verdict.specs.Search.{any_table}
use Rattle.run_verdict.proofs.Search.{none_found, runnable}
use Rattle.run_verdict.proofs.tables.is_runnable.Goals as goal

pub returns : goal.returns
returns c =
    let l = c.args.listing.now in (
      λ t. let none : any_table l.code ≡ false = grind arith in runnable l none,
      λ h. let none = none_found l h in grind arith,
    )
