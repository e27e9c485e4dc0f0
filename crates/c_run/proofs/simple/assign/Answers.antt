use Rattle.std.proofs.Common.{sym, ap, ◌∙◌, ℕ, subst}
use Rattle.cmeaning.specs.Do.{assigned, widths_in, with_word}
use Rattle.cmeaning.specs.Flat.{returns_by}
use Rattle.cmeaning.proofs.Do as done
use Rattle.cvalue.specs.Held.{IsWide}
use Rattle.c_run.specs.States.{local_of}
use Rattle.c_run.proofs.Accesses as access
use Rattle.c_run.proofs.Effects.{becomes_as}
use Rattle.c_run.proofs.simple.assign.Goals as goal

pub assign-requires : goal.assign-requires
assign-requires c =
    let P : ℕ → Type 0 = λ z. IsWide z c.value-word.result in
    subst P
    (access.width_for (widths_in c.args.local.now.variables.f.now) c.args.value.now
    ((widths_in c.args.local.now.variables.f.now) c.args.target) c.requires.1)
    c.value-word.ensures.width

pub returns : goal.returns
returns c =
    becomes_as c.args.context.now.answers.now c.args.local.now c.assign.new.self _ _
    (c.assign.ensures c.args.context.now.answers.now)
    (ap
    (λ z. with_word z (local_of c.args.context.now.answers.now c.args.local.now)
    (λ n. assigned c.args.target n (local_of c.args.context.now.answers.now c.args.local.now)))
    c.value-word.ensures.value
    ∙ sym (done.do_assign c.args.context.now.listing.now (widths_in c.args.local.now.variables.f.now)
    (returns_by c.args.local.now.variables.f.now.callees) c.args.target c.args.value.now
    (local_of c.args.context.now.answers.now c.args.local.now)))
