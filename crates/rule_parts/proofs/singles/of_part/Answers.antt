use Rattle.std.proofs.Common.{rules, ◌≡◌, ◌+◌, min}
use Rattle.rule_parts.proofs.Parted.{part_fires}
use Rattle.rule_parts.proofs.singles.of_part.Goals as goal

pub returns : goal.returns
returns g c =
    let is : c.min-dropped.result ≡ min (min (c.in_ok-j.j + c.args.k) 255) c.width.result.bytes = search rules in
    part_fires g.V.View.Sees c.args.a c.args.k c.args.w c.in_ok-j.j c.min-dropped.result c.width.result.bytes
    c.in_ok-j._wide c.in_ok-j.x c.in_ok-j.ensures c.width.ensures c.width.result.to is
