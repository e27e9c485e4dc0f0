use Rattle.std.proofs.Common.{◌≡◌, [], ◌∷◌, ◌++◌, length, sym, ap, ◌∙◌, arith}
use Rattle.layout.specs.Collected.{with_case}
use Rattle.layout.proofs.Collected.{begun, joined, place_within, places_begun, places_joined}
use Rattle.layout.proofs.branches.AllLed.with.Goals as goal
use Rattle.layout.proofs.branches.AllLed.with.Goals.{in-Some+in_ok-add_value-in-Some, in-None+in_ok-add_place-in-None+in_ok-first-in-None+in_ok-push-in-None}

pub add_value-requires : goal.add_value-requires
add_value-requires c = place_within c.self.inside.listed.items c.args.arm.to c.in-Some.place
    (sym (c.self.invariant c.args.arm.to) ∙ sym c.found.ensures ∙ c.in-Some.is)

pub invariant_of-result : goal.invariant_of-result
invariant_of-result c = elim c.match-found.branch [
  | in-Some+in_ok-add_value-in-Some w ↦ rw w.listed-is (rw w.places-is
      (places_joined c.self.inside.listed.items _ w.in-Some.place c.args.arm.value c.self.inside.places c.self.invariant
      w.in_ok-add_value-in-Some.ensures))
  | in-None+in_ok-add_place-in-None+in_ok-first-in-None+in_ok-push-in-None w ↦
      let last : w.len.result ≡ length c.self.inside.listed.items =
      omega (arith, w.len.ensures, c.self.inside.listed.ok.0) in
      rw w.listed-is (rw w.places-is
      (places_begun c.self.inside.listed.items _ c.args.arm _ w.len.result c.self.inside.places w.add_place.new.places
      c.self.invariant
      (sym c.found.ensures ∙ w.in-None.is) last w.in_ok-first-in-None.ensures w.in_ok-push-in-None.ensures.items
      w.in_ok-add_place-in-None.ensures))
]

pub returns : goal.returns
returns c = elim c.match-found.branch [
  | in-Some+in_ok-add_value-in-Some w ↦ rw w.listed-is
      (w.in_ok-add_value-in-Some.ensures
      ∙ joined c.args.arm c.self.inside.listed.items w.in-Some.place
      (sym (c.self.invariant c.args.arm.to) ∙ sym c.found.ensures ∙ w.in-Some.is)
      ∙ ap (λ xs. with_case xs c.args.arm) c.self.view_is)
  | in-None+in_ok-add_place-in-None+in_ok-first-in-None+in_ok-push-in-None w ↦ rw w.listed-is
      (w.in_ok-push-in-None.ensures.items
      ∙ ap (λ x. c.self.inside.listed.items ++ x ∷ []) w.in_ok-first-in-None.ensures
      ∙ begun c.args.arm c.self.inside.listed.items
      (sym (c.self.invariant c.args.arm.to) ∙ sym c.found.ensures ∙ w.in-None.is)
      ∙ ap (λ xs. with_case xs c.args.arm) c.self.view_is)
]
