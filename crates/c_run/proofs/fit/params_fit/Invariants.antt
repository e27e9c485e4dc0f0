use Rattle.std.proofs.Common.{◌≡◌, drop}
use Rattle.cmeaning.specs.Fits.{params_fit}
use Rattle.c_run.proofs.fit.params_fit.Given as goal

abbrev pub invariant-loop-p : goal.invariant-loop-p
invariant-loop-p l = params_fit l.listing (drop l.p-index l.params) ≡ params_fit l.listing l.params
