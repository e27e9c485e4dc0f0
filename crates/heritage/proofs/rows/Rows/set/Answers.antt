use Rattle.std.specs.Prelude.{◌+◌, ◌*◌, ◌<◌, Some, None, get_or, length, nat_lt, if◌then◌else◌, slice_set}
use Rattle.std.specs.BTreeMap.{get}
use Rattle.std.proofs.Common.{ap, sym, subst, ◌∙◌}
use Rattle.heritage.specs.Rows.{pair_cmp}
use Rattle.heritage.proofs.Values.{place_within, put_dense, put_sparse}
use Rattle.heritage.proofs.rows.Rows.set.Goals as goal

pub returns-then-variable-self-clause-value : goal.returns-then-variable-self-clause-value
returns-then-variable-self-clause-value c =
    let r = c.args.self.now in
    let within : c.args.block * r.low + c.args.variable < length r.dense.items =
    subst (λ n. c.args.block * r.low + c.args.variable < n) (sym c.requires.1.0.places)
    (place_within c.requires.0 c.args.block r.low c.args.variable c.requires.1.1 c.if-variable-self.true) in
    ap (λ at. λ b v. if nat_lt v r.low
    then get_or (slice_set r.dense.items at (Some c.args.value)) (b * r.low + v) None
    else get pair_cmp r.sparse (b, v)) c.place-place.ensures
    ∙ put_dense r.dense.items (λ b v. get pair_cmp r.sparse (b, v)) r.low c.args.block c.args.variable c.args.value
    c.if-variable-self.true within

pub returns-in-Ok-clause-value : goal.returns-in-Ok-clause-value
returns-in-Ok-clause-value c =
    let r = c.args.self.now in
    put_sparse r.sparse c.insert.new.self (λ b v. get_or r.dense.items (b * r.low + v) None) r.low c.args.block
    c.args.variable c.args.value c.if-variable-self.false c.in-Ok.ensures.updates
