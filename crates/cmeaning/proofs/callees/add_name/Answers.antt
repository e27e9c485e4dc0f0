use Rattle.std.proofs.Common.{◌∙◌}
use Rattle.std.specs.Prelude.{vec_items}
use Rattle.cmeaning.proofs.Places.{no_name}
use Rattle.cmeaning.proofs.callees.add_name.Goals as goal

pub returns-in-Bare : goal.returns-in-Bare
returns-in-Bare c = λ listed d table named last. no_name vec_items listed d c.args.names.now (named ∙ c.in-Bare.is)
    table
