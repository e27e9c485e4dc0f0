use Rattle.std.proofs.Common.{List, rules, ap, ◌∙◌}
use Rattle.std.specs.List.Sorted.{IsNonDecreasingBy}
use Rattle.std.proofs.lemmas.List.Sorted.{answers_always, IsNonDecreasingBy-from_sort_by_key}
use Rattle.sorting.specs.declared.ranked.Ranked.{Ranked}
use Rattle.sorting.specs.Ranks.{numbers_of}
use Rattle.sorting.proofs.Numbers.{rank_of, sorted_numbers}
use Rattle.sorting.proofs.Sorted.{sorted_are}
use Rattle.sorting.proofs.ranked.sort_by_rank.Goals as goal

pub returns-clause-sorted : goal.returns-clause-sorted
returns-clause-sorted c = λ rank all.
    let sorted : List Ranked = c.sort_by_key.new.self.items in
    let up : IsNonDecreasingBy rank_of sorted =
    IsNonDecreasingBy-from_sort_by_key rank_of sorted c.in_ok-sort_by_key.ensures.sorted (λ a r q k. search rules) in
    let stable = c.sort_by_key.ensures.stable rank_of (answers_always _ _ _ (λ f a r g h. search rules)) in
    ap numbers_of (sorted_are rank_of _ sorted up stable) ∙ sorted_numbers rank _ all
