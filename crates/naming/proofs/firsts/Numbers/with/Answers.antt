use Rattle.std.proofs.Common.{◌≡◌, ◌+◌, ◌++◌, ◌∷◌, [], List, ℕ, ap, sym, subst, ◌∙◌, arith}
use Rattle.std.specs.Prelude.{is_some, false}
use Rattle.naming.specs.Places.{is_same, entry, place, HasPlaces}
use Rattle.naming.proofs.Tables.{known, unknown, added}
use Rattle.naming.proofs.firsts.Numbers.with.Goals as goal

pub returns-then-is_some : goal.returns-then-is_some
returns-then-is_some c =
    known c.args.self c.args.x c.found.result c.found.ensures (sym c.is_some.ensures ∙ c.if-is_some.true)

pub invariant_of-result : goal.invariant_of-result
invariant_of-result c =
    let old = c.self.inside.listed in
    let table = entry c.self.inside.places.items in
    let hasnt : is_some (table c.args.x) ≡ false =
    ap is_some (c.self.invariant c.args.x ∙ ap (place (is_same c.args.x)) c.self.view_is ∙ sym c.found.ensures)
    ∙ sym c.is_some.ensures ∙ c.if-is_some.false in
    let last : 0 + c.len.result ≡ c.len.result = omega arith in
    subst (λ (l : List ℕ). HasPlaces l (entry c.set_place.new.table.items)) (sym c.in_ok-push.ensures.ok)
    (added old table (entry c.set_place.new.table.items) c.args.x c.in_ok-place.place
    (c.in_ok-place.ensures ∙ last ∙ c.len.ensures) c.self.invariant hasnt (λ y. c.in_ok-set_place.ensures y))

pub returns : goal.returns
returns c =
    c.in_ok-push.ensures.ok
    ∙ ap (λ (l : List ℕ). l ++ c.args.x ∷ []) c.self.view_is
    ∙ unknown c.args.self c.args.x c.found.result c.found.ensures (sym c.is_some.ensures ∙ c.if-is_some.false)
