use Rattle.std.proofs.Common.{subst, ℕ, List}
use Rattle.std.specs.Prelude.{Err}
use Rattle.std.specs.List.Sorted.{IsBinarySearchResult}
use Rattle.std.specs.Ordering.{nat_cmp}
use Rattle.pcode_model.specs.Flow.{IsIn}
use Rattle.frame_known.proofs.Found.{none_missed}
use Rattle.frame_known.proofs.slots.Slots.find.Goals as goal

pub returns-in-Err : goal.returns-in-Err
returns-in-Err c wide is =
    let P : List ℕ → Type 0 =
    λ xs. IsBinarySearchResult (λ y. nat_cmp y c.key.result) xs (Err c.in-Err.field-0) in
    let Q : ℕ → Type 0 = λ n. IsIn n c.args.self.now.keys.items → ⊥ in
    subst Q c.key.ensures.value
    (none_missed c.args.self.now.keys.items c.requires c.key.result c.in-Err.field-0
    (subst P c.deref.ensures.value c.in-Err.ensures.position))
    is
