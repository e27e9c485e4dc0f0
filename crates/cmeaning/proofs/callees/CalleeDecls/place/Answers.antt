use Rattle.std.proofs.Common.{◌<◌, length, sym, ap, ◌∙◌, subst, arith}
use Rattle.cmeaning.specs.Mentions.{place_of}
use Rattle.cmeaning.specs.Places.{has_address}
use Rattle.cmeaning.proofs.Places.{some_first, place_none, place_some}
use Rattle.cmeaning.proofs.callees.CalleeDecls.place.Goals as goal

pub returns-in-Some-clause-value : goal.returns-in-Some-clause-value
returns-in-Some-clause-value c =
    place_some c.self.inside.listed c.args.address c.in-Some.place.now
    (sym (c.self.invariant.0 c.args.address) ∙ sym c.in-Some.ensures.value)
    ∙ ap (λ cs. place_of cs c.args.address) c.self.view_is

pub returns-in-Some-clause-within : goal.returns-in-Some-clause-within
returns-in-Some-clause-within c =
    let within = (some_first (has_address c.args.address) c.in-Some.place.now c.self.inside.listed
    (sym (c.self.invariant.0 c.args.address) ∙ sym c.in-Some.ensures.value)).0 in
    rw (← c.self.view_is) (omega (arith, within))

pub returns-in-Some-clause-fits : goal.returns-in-Some-clause-fits
returns-in-Some-clause-fits c =
    let within = (some_first (has_address c.args.address) c.in-Some.place.now c.self.inside.listed
    (sym (c.self.invariant.0 c.args.address) ∙ sym c.in-Some.ensures.value)).0 in
    let listed : c.in-Some.place.now < length c.as_slice-count.result.now =
    subst (λ cs. c.in-Some.place.now < length cs) (sym c.as_slice-count.ensures) within in
    grind (arith, listed, c.as_slice-count.type_inv)

pub returns-in-None-clause-value : goal.returns-in-None-clause-value
returns-in-None-clause-value c =
    ap length c.as_slice-count.ensures
    ∙ place_none c.self.inside.listed c.args.address
    (sym (c.self.invariant.0 c.args.address) ∙ sym c.in-None.ensures.value)
    ∙ ap (λ cs. place_of cs c.args.address) c.self.view_is
