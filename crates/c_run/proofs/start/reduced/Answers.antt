use Rattle.std.proofs.Common.{◌≡◌, ◌+◌, ◌-◌, ◌*◌, ◌%◌, ℕ, drop, arith, ap, ◌∙◌, sym}
use Rattle.bits_core.specs.Bytes.{number}
use Rattle.run_world.specs.Setting.{size}
use Rattle.c_run.proofs.Starts.{reduced_more}
use Rattle.c_run.proofs.start.reduced.Goals as goal

pub loop-i-preserved : goal.loop-i-preserved
loop-i-preserved c =
    let later : c.loop-i.i - 1 + 1 ≡ c.loop-i.i = omega arith in
    record {
      inside = omega arith;
      value =
          reduced_more c.args.bytes.now (c.loop-i.i - 1) (size c.args.shape) c.loop-i.n c.reduce-n.result
          c.from-in-loop-i.result (omega arith)
          (c.loop-i.invariant.value
          ∙ ap (λ (k : ℕ). number (drop k c.args.bytes.now) % size c.args.shape) (sym later))
          c.from-in-loop-i.ensures (c.reduce-n.ensures.value
          ∙ ap (λ z. (z * 256 + c.from-in-loop-i.result) % size c.args.shape) c.from.ensures);
    }
