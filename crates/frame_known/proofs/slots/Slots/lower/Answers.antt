use Rattle.std.proofs.Common.{subst, ℕ, List}
use Rattle.std.specs.Prelude.{Ok, Err}
use Rattle.std.specs.List.Sorted.{IsBinarySearchResult}
use Rattle.std.specs.Ordering.{nat_cmp}
use Rattle.frame_known.proofs.Found.{lower_found, lower_missed}
use Rattle.frame_known.proofs.slots.Slots.lower.Goals as goal

pub returns-in-Ok : goal.returns-in-Ok
returns-in-Ok c =
    let P : List ℕ → Type 0 =
    λ xs. IsBinarySearchResult (λ y. nat_cmp y c.args.number) xs (Ok c.in-Ok.slot) in
    lower_found c.args.self.now.keys.items c.requires c.args.number c.in-Ok.slot
    (subst P c.deref.ensures.value c.in-Ok.ensures.position)

pub returns-in-Err : goal.returns-in-Err
returns-in-Err c =
    let P : List ℕ → Type 0 =
    λ xs. IsBinarySearchResult (λ y. nat_cmp y c.args.number) xs (Err c.in-Err.slot) in
    lower_missed c.args.self.now.keys.items c.requires c.args.number c.in-Err.slot
    (subst P c.deref.ensures.value c.in-Err.ensures.position)
