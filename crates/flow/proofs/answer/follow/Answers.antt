use Rattle.std.proofs.Common.{◌≡◌, ℕ, List, Bool, [], length, sym, ap, ◌∙◌, subst, arith}
use Rattle.pcode_model.specs.declared.listing.Place.{Place}
use Rattle.pcode_model.specs.declared.listing.Listing.{Listing}
use Rattle.pcode_model.specs.declared.tables.TableAt.{TableAt}
use Rattle.pcode_model.specs.declared.flow.FlowWhy.TheVariants.{NoTarget}
use Rattle.pcode_model.specs.Places.{place}
use Rattle.pcode_model.specs.Step.{first_place}
use Rattle.pcode_model.specs.Flow.{IsIn, FirstFault, NoFault}
use Rattle.flow.specs.Slots.{MarksReached, MarksStarts, picked}
use Rattle.flow.specs.Answer.{IsFlowFault}
use Rattle.flow.proofs.Marking.{are_starts}
use Rattle.flow.proofs.Entering.{entry_fault, too_many_fault}
use Rattle.flow.proofs.answer.follow.Goals as goal

pub returns-in_default-clause-fault : goal.returns-in_default-clause-fault
returns-in_default-clause-fault c =
    let l : Listing = c.args.listing.now in
    let P : List TableAt → Type 0 = λ t. FirstFault l t (first_place l) NoTarget in
    let Q : List Place → Type 0 = λ ps. IsIn (place c.from.result 0) ps in
    let R : ℕ → Type 0 = λ a. IsIn (place a 0) c.in_ok-places.places.items in
    subst P (sym c.requires.no_tables)
    (entry_fault l c.in_ok-places.places.items (c.in_ok-places.ensures {u = tt})
    (λ h. c.in_default.ensures {u = tt} (subst Q (sym c.deref.ensures.value) (subst R (sym c.from.ensures) h))))

pub returns-then-len-gt-MAX_BLOCKS-clause-fault : goal.returns-then-len-gt-MAX_BLOCKS-clause-fault
returns-then-len-gt-MAX_BLOCKS-clause-fault c =
    let l : Listing = c.args.listing.now in
    let ps : List Place = c.in_ok-places.places.items in
    let reached : List Bool = c.in_ok-reached.reached.items in
    let begins : List Bool = c.in_ok-begins.begins.items in
    let T : List TableAt → Type 0 = λ t. IsFlowFault l t c.too_many.result in
    let P : List Place → Type 0 = λ x. MarksReached l [] x reached in
    let Q : List Place → Type 0 = λ x. MarksStarts l [] x begins in
    let starts : c.in_ok-starts.starts.items ≡ picked begins ps (length ps) =
    c.in_ok-starts.ensures {u = tt}
    ∙ (ap (λ x. picked x c.deref-7.result.now (length c.deref-7.result.now)) c.deref-8.ensures.value
    ∙ ap (λ x. picked begins x (length x)) c.deref-7.ensures.value) in
    let long : length (picked begins ps (length ps)) ≡ c.len-then-len-gt-MAX_BLOCKS.result =
    omega (arith, ap length starts, c.in_ok-starts.starts.ok.0) in
    let sound = c.in_default-first_fault.ensures {u = tt} in
    subst T (sym c.requires.no_tables)
    (too_many_fault l [] c.len-then-len-gt-MAX_BLOCKS.result c.too_many.result (
      sound,
      (
        picked begins ps (length ps),
        (
          are_starts l ps reached begins (c.in_ok-places.ensures {u = tt})
              (subst P c.deref-2.ensures.value (c.in_ok-reached.ensures {u = tt}))
              (subst Q c.deref-5.ensures.value (c.in_ok-begins.ensures {u = tt})),
          (long, omega arith),
        ),
      ),
    )
    c.too_many.ensures)

pub returns-clause-no_fault : goal.returns-clause-no_fault
returns-clause-no_fault c =
    let P : List TableAt → Type 0 = λ t. NoFault c.args.listing.now t in
    subst P (sym c.requires.no_tables) (c.in_default-first_fault.ensures {u = tt})

pub returns-clause-few : goal.returns-clause-few
returns-clause-few c =
    let count = (c.in_ok-blocks.ensures {u = tt}).count in
    omega (arith, count, ap length c.deref-12.ensures.value, c.in_ok-starts.starts.ok.0)
