-- The greatest word of a width, and the least one in signed order.
use Rattle.std.proofs.Common.{◌≡◌, ℕ, ◌+◌, ◌-◌, ◌/◌, ◌%◌, ◌^◌, ◌<◌, ◌≤◌, sym, ap, ◌∙◌, arith}
use Rattle.std.proofs.Math.Nat.{mod-eq_of_lt}
use Rattle.bits_core.specs.Value.{limit, half, complement}
use Rattle.bits_core.proofs.Limits.{limit_pos, halves}
use Rattle.bits_core.proofs.Machine.{half_mask}
use Rattle.bits_core.proofs.Operations.{complement_by}

pub top_is : (w : ℕ) → w ≤ 16 → (2 ^ 128 - 1) % limit w ≡ limit w - 1
unfolding complement
top_is w le =
    let e : 2 ^ 128 - 1 - 0 ≡ 2 ^ 128 - 1 = omega arith in
    ap (λ n. n % limit w) (sym e) ∙ complement_by w 0 le (limit_pos w) ∙ omega arith

pub least_signed : (w : ℕ) → 0 < w → w ≤ 16 → ((2 ^ 128 - 1) % limit w / 2 + 1) % limit w ≡ half w
least_signed w some le =
    let h = halves w some in
    let e : (limit w - 1) / 2 + 1 ≡ half w = omega (arith, half_mask w some, h) in
    let low : half w < limit w = omega (arith, h) in
    ap (λ n. (n / 2 + 1) % limit w) (top_is w le) ∙ ap (λ n. n % limit w) e ∙ mod-eq_of_lt low
