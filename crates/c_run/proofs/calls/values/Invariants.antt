use Rattle.std.proofs.Common.{◌≡◌, ◌++◌, drop, map, true}
use Rattle.std.specs.Option.{option_map}
use Rattle.cmeaning.specs.Do.{values_of, widths_in}
use Rattle.cmeaning.specs.Valid.{are_right}
use Rattle.cvalue.specs.Held.{env_of}
use Rattle.run_world.specs.Meaning.{value_of}
use Rattle.c_run.specs.States.{all_of}
use Rattle.c_run.proofs.calls.values.Given as goal

abbrev pub invariant-loop-e : goal.invariant-loop-e
invariant-loop-e l = record {
  right : are_right (widths_in l.local.variables.f.now) (drop l.e-index l.args) ≡ true;
  values : all_of (values_of (widths_in l.local.variables.f.now) (env_of l.local.variables.words.items) l.args)
      ≡ option_map (λ ns. map value_of l.words ++ ns)
      (all_of (values_of (widths_in l.local.variables.f.now) (env_of l.local.variables.words.items)
      (drop l.e-index l.args)));
}
