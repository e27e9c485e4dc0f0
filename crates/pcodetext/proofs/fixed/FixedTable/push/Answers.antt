use Rattle.std.proofs.Common.{◌≡◌, ◌∙◌, ◌<◌, ◌≤◌, ◌+◌, ap, arith, get_or, length}
use Rattle.std.specs.Prelude.{List, false}
use Rattle.pcode_model.specs.declared.listing.Fixed.{Fixed}
use Rattle.pcodetext.specs.Tables.{stands_after}
use Rattle.pcodetext.proofs.Tops.{pushed_past, pushed_within}
use Rattle.pcodetext.proofs.fixed.FixedTable.push.Goals as goal

pub invariant_of-self-then-self-space : goal.invariant_of-self-then-self-space
invariant_of-self-then-self-space c =
    let f : Fixed = record { space = c.args.space; offset = c.args.offset; bytes = c.args.bytes } in
    let free : stands_after c.self.inside.fixed c.args.space c.args.offset ≡ false =
    ap (λ (fixed : List Fixed). stands_after fixed c.args.space c.args.offset) c.self.view_is ∙ c.requires in
    let past : get_or c.self.inside.ends c.args.space 0 < c.args.offset + length c.args.bytes =
    omega (arith, c.if-self-space.true, c.from.ensures, c.len.ensures) in
    rw ((c.in_ok-push.ensures {u = tt}).ok, c.from-2.ensures, c.from.ensures, c.len.ensures)
    (pushed_past _ _ _ f c.self.invariant c.ranges.space.fits free past)

pub invariant_of-self-else-self-space : goal.invariant_of-self-else-self-space
invariant_of-self-else-self-space c =
    let f : Fixed = record { space = c.args.space; offset = c.args.offset; bytes = c.args.bytes } in
    let free : stands_after c.self.inside.fixed c.args.space c.args.offset ≡ false =
    ap (λ (fixed : List Fixed). stands_after fixed c.args.space c.args.offset) c.self.view_is ∙ c.requires in
    let within : c.args.offset + length c.args.bytes ≤ get_or c.self.inside.ends c.args.space 0 =
    omega (arith, c.if-self-space.false, c.from.ensures, c.len.ensures) in
    rw ((c.in_ok-push.ensures {u = tt}).ok, c.from-2.ensures)
    (pushed_within _ _ _ f c.self.invariant c.ranges.space.fits free within)
