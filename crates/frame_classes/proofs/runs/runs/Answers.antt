use Rattle.std.proofs.Common.{List, rules, subst, sym}
use Rattle.std.specs.List.{AllByRecursion}
use Rattle.std.proofs.lemmas.List.Sorted.{IsNonDecreasingBy-from_sort_by_key}
use Rattle.std.proofs.lemmas.Result.{IfOk-weaker}
use Rattle.pcode_model.specs.declared.frame.FrameAccess.{FrameAccess}
use Rattle.stackvars.specs.Near.{IsNearAccess}
use Rattle.frame_classes.specs.Runs.{AreRuns, HasBytes, IsSorted, place_of}
use Rattle.frame_classes.proofs.Moved.{all_moved, runs_moved}
use Rattle.frame_classes.proofs.runs.runs.Goals as goal

pub sorted_runs-requires-clause-sorted : goal.sorted_runs-requires-clause-sorted
sorted_runs-requires-clause-sorted c =
    let up : IsSorted c.sort_by_key.new.self.items =
    IsNonDecreasingBy-from_sort_by_key place_of c.sort_by_key.new.self.items c.in_ok-sort_by_key.ensures.sorted
    (λ a r q k. search rules) in
    subst (λ (xs : List FrameAccess). IsSorted xs) (sym c.deref.ensures.value) up

pub sorted_runs-requires-clause-near : goal.sorted_runs-requires-clause-near
sorted_runs-requires-clause-near c =
    let P : List FrameAccess → Type 0 = λ xs. AllByRecursion IsNearAccess xs in
    subst P (sym c.deref.ensures.value)
    (all_moved IsNearAccess c.in_ok-sorted.sorted.items _ c.in_ok-sort_by_key.ensures.permutation
    (subst P (sym c.in_ok-sorted.ensures.items) c.requires.near))

pub sorted_runs-requires-clause-some : goal.sorted_runs-requires-clause-some
sorted_runs-requires-clause-some c =
    let P : List FrameAccess → Type 0 = λ xs. AllByRecursion HasBytes xs in
    subst P (sym c.deref.ensures.value)
    (all_moved HasBytes c.in_ok-sorted.sorted.items _ c.in_ok-sort_by_key.ensures.permutation
    (subst P (sym c.in_ok-sorted.ensures.items) c.requires.some))

pub returns : goal.returns
returns c =
    IfOk-weaker c.sorted_runs.result _ _
    (λ runs are. subst (λ (xs : List FrameAccess). AreRuns xs runs.items) c.in_ok-sorted.ensures.items
    (runs_moved c.in_ok-sorted.sorted.items _ c.in_ok-sort_by_key.ensures.permutation runs.items
    (subst (λ (xs : List FrameAccess). AreRuns xs runs.items) c.deref.ensures.value are)))
    c.sorted_runs.ensures
