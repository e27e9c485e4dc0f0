use Rattle.std.proofs.Common.{◌-◌, ◌<◌, ◌≡◌, ◌+◌, ◌*◌, ◌^◌, ℕ, length, get_or, drop, arith, ap, ◌∙◌, sym, subst}
use Rattle.bits_core.specs.Bytes.{number}
use Rattle.run_world.proofs.Steps.{one_more_fits, one_more_below, number_above}
use Rattle.run_world.proofs.words.number.Goals as goal

pub overflow_mul-n : goal.overflow_mul-n
overflow_mul-n c =
    omega (
      arith,
      one_more_fits c.loop-i.n 0 (length c.args.bytes.now - c.loop-i.i) c.loop-i.invariant.below (omega arith)
          (omega arith),
    )

pub overflow_add-n : goal.overflow_add-n
overflow_add-n c =
    let byte : c.from.result < 256 = omega (arith, c.from.ensures, c.type_inv.bytes (c.loop-i.i - 1)) in
    omega (
      arith,
      one_more_fits c.loop-i.n c.from.result (length c.args.bytes.now - c.loop-i.i) c.loop-i.invariant.below byte
          (omega arith),
    )

pub loop-i-preserved : goal.loop-i-preserved
loop-i-preserved c =
    let byte : c.from.result < 256 = omega (arith, c.from.ensures, c.type_inv.bytes (c.loop-i.i - 1)) in
    let later : c.loop-i.i - 1 + 1 ≡ c.loop-i.i = omega arith in
    let left : length c.args.bytes.now - c.loop-i.i + 1 ≡ length c.args.bytes.now - (c.loop-i.i - 1) = omega arith in
    let P : ℕ → Type 0 = λ k. c.loop-i.n * 256 + c.from.result < 256 ^ k in
    record {
      inside = omega arith;
      value =
          let read : c.loop-i.n * 256 + c.from.result
          ≡ number (drop c.loop-i.i c.args.bytes.now) * 256 + get_or c.args.bytes.now (c.loop-i.i - 1) 0 =
          omega (arith, c.loop-i.invariant.value, c.from.ensures) in
          read
          ∙ ap (λ (k : ℕ). number (drop k c.args.bytes.now) * 256 + get_or c.args.bytes.now (c.loop-i.i - 1) 0)
          (sym later)
          ∙ sym (number_above c.args.bytes.now (c.loop-i.i - 1) (omega arith));
      below =
          subst P left
          (one_more_below c.loop-i.n c.from.result (length c.args.bytes.now - c.loop-i.i) c.loop-i.invariant.below
          byte);
    }
