use Rattle.std.proofs.Common.{◌≡◌, List, rules, subst}
use Rattle.std.specs.List.Sorted.{IsNonDecreasingBy}
use Rattle.std.proofs.lemmas.List.Sorted.{answers_always, IsNonDecreasingBy-from_sort_by_key}
use Rattle.blockcode.specs.declared.code.Arm.{Arm}
use Rattle.blockcode.specs.Laid.{by_value}
use Rattle.layout.proofs.Sorted.{sorted_are, value_of}
use Rattle.layout.proofs.branches.by_value.Goals as goal

pub returns : goal.returns
returns c =
    let sorted : List Arm = c.sort_by_key.new.self.items in
    let up : IsNonDecreasingBy value_of sorted =
    IsNonDecreasingBy-from_sort_by_key value_of sorted c.in_ok-sort_by_key.ensures.sorted
    (λ a r q k. search rules) in
    let stable = c.sort_by_key.ensures.stable value_of (answers_always _ _ _ (λ f a r g h. search rules)) in
    subst (λ (xs : List Arm). sorted ≡ by_value xs) c.in_ok-cases.ensures.items
    (sorted_are _ sorted up stable)
