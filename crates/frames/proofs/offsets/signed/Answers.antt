use Rattle.std.proofs.Common.{◌≡◌, ◌∙◌, ◌<◌, ◌≤◌, ◌-◌, ◌/◌, ℕ, SFits, to_z, w64, ap, sym, rules, arith}
use Rattle.std.specs.Prelude.{pos, neg_ℤ}
use Rattle.std.proofs.lemmas.Int.{to_z-of_z, to_z_pos}
use Rattle.frame_facts.specs.Accesses.{stack_width}
use Rattle.frames.proofs.Low.{signed_over, signed_under}
use Rattle.frames.proofs.offsets.signed.Goals as goal

pub returns-then-wide-limit : goal.returns-then-wide-limit
returns-then-wide-limit c =
    let w = stack_width c.args.listing.now in
    let lt : c.args.offset < c.limit-limit.result / 2 = omega (arith, c.if-wide-limit.true, c.from-wide.ensures) in
    let few = c.limit-limit.ensures.few in
    let value : to_z w64 c.args.offset ≡ pos c.args.offset = to_z_pos w64 c.args.offset (omega (arith, few, lt)) in
    value ∙ sym (signed_under w c.args.offset c.limit-limit.result c.limit-limit.ensures.value lt)

pub returns-else-wide-limit : goal.returns-else-wide-limit
returns-else-wide-limit c =
    let w = stack_width c.args.listing.now in
    let le : c.limit-limit.result / 2 ≤ c.args.offset = omega (arith, c.if-wide-limit.false, c.from-wide.ensures) in
    let low : c.args.offset < c.limit-limit.result = omega (arith, c.requires.low, c.limit-limit.ensures.value) in
    let over = signed_over w c.args.offset c.limit-limit.result c.limit-limit.ensures.value le low in
    let fits : SFits w64 c.below.result = search rules in
    let wide : c.limit-limit.result - c.from-wide.result ≡ c.limit-limit.result - c.args.offset =
    ap (λ (n : ℕ). c.limit-limit.result - n) c.from-wide.ensures in
    let h = c.below.ensures in
    to_z-of_z w64 c.below.result fits ∙ h ∙ ap (λ (n : ℕ). neg_ℤ (pos n)) wide ∙ sym over
