use Rattle.std.proofs.Common.{◌≡◌, drop, map}
use Rattle.cmeaning.specs.Do.{widths_in}
use Rattle.cmeaning.specs.Fits.{all_true, arm_fits, body_fits}
use Rattle.c_run.proofs.fit.+fits.Given as goal

abbrev pub invariant-arms_fit-loop-arm : goal.invariant-arms_fit-loop-arm
invariant-arms_fit-loop-arm l =
    all_true (map (arm_fits l.listing (widths_in l.f)) (drop l.arm-index l.arms))
    ≡ all_true (map (arm_fits l.listing (widths_in l.f)) l.arms)

abbrev pub invariant-body_fits-loop-s : goal.invariant-body_fits-loop-s
invariant-body_fits-loop-s l =
    body_fits l.listing (widths_in l.f) (drop l.s-index l.body) ≡ body_fits l.listing (widths_in l.f) l.body
