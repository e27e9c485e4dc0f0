use Rattle.std.proofs.Common.{map, ◌≡◌, ℕ, [], rules}
use Rattle.cmeaning.specs.Flat.{spans, pieces_of, returns_by, found_in}
use Rattle.flatcode.specs.declared.draft.Draft.{Draft}
use Rattle.flatcode.specs.Steps.{place_in}
use Rattle.flatcode.specs.Adds.{PutsAll, pair_of}
use Rattle.flatcode.proofs.Adds.{flat_is}
use Rattle.flatcode.proofs.code.flat.Goals as goal

pub returns : goal.returns
returns c =
    let a : Draft = record { steps = c.new.result; labels = c.new-2.result } in
    let none : a.steps.items ≡ [] = search rules in
    let no_labels : a.labels.items ≡ [] = search rules in
    let callees = c.as_slice-callees.ensures in
    let body = c.as_slice-body.ensures in
    let end : c.in_ok-end.end ≡ spans (pieces_of (returns_by c.args.f.now.callees) c.args.f.now.body) =
    rw (← callees, ← body) c.in_ok-end.ensures in
    let puts : PutsAll a c.put_body.new.code (pieces_of (returns_by c.args.f.now.callees) c.args.f.now.body)
    c.in_ok-end.end =
    rw (← callees, ← body) c.in_ok-put_body.ensures in
    let places : (default n : ℕ)
    → place_in c.in_ok-labels.labels.items default n
    ≡ found_in (map pair_of c.put_body.new.code.labels.items) default n =
    rw (← c.as_slice.ensures.value) c.in_ok-labels.ensures in
    flat_is c.args.f.now a c.put_body.new.code c.in_ok-labels.labels.items c.in_ok-end.end none no_labels end puts
    places
