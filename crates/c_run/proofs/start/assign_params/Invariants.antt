use Rattle.std.proofs.Common.{◌≡◌, slice_get, take}
use Rattle.cmeaning.specs.Step.{first_word}
use Rattle.cvalue.specs.Held.{env_of}
use Rattle.c_run.specs.States.{entry_at}
use Rattle.c_run.proofs.start.assign_params.Given as goal

abbrev pub invariant-loop-i : goal.invariant-loop-i
invariant-loop-i l = record {
  words : env_of l.variables.words.items
      ≡ (λ v. first_word l.context.listing.now (entry_at l.origin) (slice_get (take l.i l.params) v));
  function : l.variables.f.now ≡ l.fn.variables.f.now;
}
