use Rattle.std.proofs.Common.{rules, ◌≡◌, ◌∙◌, ◌+◌, ◌-◌, ℕ, suc, true, sym, ap, arith}
use Rattle.std.specs.Prelude.{◌&&◌}
use Rattle.pcode_model.specs.Step.{in_some}
use Rattle.frame_known.specs.Rows.{all_kept}
use Rattle.frame_known.proofs.calls.all_kept.Goals as goal

pub loop-byte-preserved : goal.loop-byte-preserved
loop-byte-preserved c =
    let keep = c.args.keep.now in
    let o : ℕ = c.args.offset + c.from.result in
    let k : ℕ = c.args.size - (c.loop-byte.byte + 1) in
    let here : in_some keep (c.args.offset + c.from.result) ≡ true =
    sym c.in_some.ensures ∙ c.if-not-in_some.false in
    let first : all_kept keep o (suc k) ≡ all_kept keep (suc o) k =
    ap (λ b. b && all_kept keep (suc o) k) here in
    let size : suc k ≡ c.args.size - c.loop-byte.byte = omega arith in
    let at : c.from.result ≡ c.loop-byte.byte = search rules in
    let next : suc o ≡ c.args.offset + (c.loop-byte.byte + 1) = omega (arith, at) in
    let start : o ≡ c.args.offset + c.loop-byte.byte = omega (arith, at) in
    ap (λ x. all_kept keep x k) (sym next) ∙ sym first ∙ ap (all_kept keep o) size
    ∙ ap (λ x. all_kept keep x (c.args.size - c.loop-byte.byte)) start ∙ c.loop-byte.invariant
