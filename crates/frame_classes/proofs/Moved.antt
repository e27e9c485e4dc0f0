-- The runs of accesses are the same in whatever order they stand.
use Rattle.std.proofs.Common.{List}
use Rattle.std.specs.List.{AllByRecursion}
use Rattle.std.specs.List.Sorted.{IsPermutation}
use Rattle.std.proofs.lemmas.List.Elements.{All-from_recursion, recursion_from_All}
use Rattle.std.proofs.lemmas.List.Sorted.{All-permutation, IsPermutation-sym}
use Rattle.pcode_model.specs.declared.frame.FrameAccess.{FrameAccess}
use Rattle.pcode_model.specs.Flow.{IsIn}
use Rattle.stackvars.proofs.Members.{permuted}
use Rattle.frame_classes.specs.declared.runs.Run.{Run}
use Rattle.frame_classes.specs.Runs.{Alone, AreChained, AreRuns, IsFilled, Linked}

pub all_moved : {A : Type 0} (Q : A → Type 0) (xs ys : List A)
    → IsPermutation xs ys
    → AllByRecursion Q xs
    → AllByRecursion Q ys
all_moved Q xs ys moved all = recursion_from_All Q ys (All-permutation Q xs ys moved (All-from_recursion Q xs all))

module _ (xs ys : List FrameAccess) (there : (a : FrameAccess) → IsIn a xs → IsIn a ys) where
  chained_moved : (a b : FrameAccess) → AreChained xs a b → AreChained ys a b
  chained_moved a b (Alone c is) = Alone c (there c is)
  chained_moved a b (Linked c d e chain is share) = Linked c d e (chained_moved c d chain) (there e is) share

  filled_moved : (r : Run) → IsFilled xs r → IsFilled ys r
  filled_moved r filled = record {
    first = filled.first;
    is_first = there filled.first filled.is_first;
    within = filled.within;
    bytes = λ o from to.
        let b = filled.bytes o from to in (b.0, (chained_moved filled.first b.0 b.1.0, b.1.1));
  }

pub runs_moved : (xs ys : List FrameAccess)
    → IsPermutation xs ys
    → (runs : List Run)
    → AreRuns ys runs
    → AreRuns xs runs
runs_moved xs ys moved runs are = record {
  covered = λ a is. are.covered a (permuted xs ys moved a is);
  filled = λ r is. filled_moved ys xs (permuted ys xs (IsPermutation-sym xs ys moved)) r (are.filled r is);
  apart = are.apart;
}
