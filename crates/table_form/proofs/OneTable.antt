-- A BRANCHIND has one table at most.
use Rattle.std.proofs.Common.{◌≡◌, ℕ, List, Some, sym, ap, ◌∙◌, subst, ◌⊎◌, inl, inr, ⊎_elim}
use Rattle.std.proofs.lemmas.Option.{same_Some}
use Rattle.std.specs.Prelude.{slice_get}
use Rattle.std.proofs.lemmas.Bool.{cases_order}
use Rattle.pcode_model.specs.declared.listing.Place.{Place}
use Rattle.pcode_model.specs.declared.listing.Varnode.{Varnode}
use Rattle.pcode_model.specs.declared.listing.Listing.{Listing}
use Rattle.pcode_model.specs.declared.tables.Case.{Case}
use Rattle.pcode_model.specs.declared.tables.Table.{Table}
use Rattle.pcode_model.specs.Flow.{AreApart}
use Rattle.table_form.specs.Trees.{Tree, reading, width}
use Rattle.table_form.specs.Slices.{length_of, target_of}
use Rattle.table_form.specs.Tables.{HasTable, IsHeld, IsRamRange, IsSooner, IsTable}
use Rattle.table_form.specs.Laws.{AreSame, OneTable}
use Rattle.table_form.proofs.Cases.{same_cases}
use Rattle.table_form.proofs.Chains.{one_slice}
use Rattle.table_form.proofs.Held.{not_ram, one_held, one_ram}

-- neither is sooner than the other
same_order : (n i m j : ℕ) → (IsSooner n i m j → ⊥) → (IsSooner m j n i → ⊥) → (n ≡ m) × (i ≡ j)
same_order n i m j a b = ⊎_elim
    (λ (e : n ≡ m). (
      e,
      ⊎_elim (λ same. same)
          (λ side. ⊎_elim (λ lt. absurd (a (inr (e, lt)))) (λ gt. absurd (b (inr (sym e, gt)))) side) (cases_order i j),
    ))
    (λ side. ⊎_elim (λ lt. absurd (a (inl lt))) (λ gt. absurd (b (inl gt))) side)
    (cases_order n m)

module _ (l : Listing) (end : Place) where
  one_where : (front : List Place) (x : Tree) (p q : Place) (v w : Varnode)
      → IsHeld l end front x p v ⊎ IsRamRange l end front x p v
      → IsHeld l end front x q w ⊎ IsRamRange l end front x q w
      → (p ≡ q) × (v ≡ w)
  one_where front x p q v w (inl a) (inl b) = one_held l end front x p q v w a b
  one_where front x p q v w (inl a) (inr b) = absurd (not_ram l end front x p q v w a b)
  one_where front x p q v w (inr a) (inl b) = absurd (not_ram l end front x q p w v b a)
  one_where front x p q v w (inr a) (inr b) = one_ram l end front x p q v w a b

  cases_same : (front : List Place) (i : ℕ) (x : Tree) (cs ds : List Case)
      → HasTable l end front i x cs
      → HasTable l end front i x ds
      → cs ≡ ds
  cases_same front i x cs ds a b =
      same_cases l end front x cs ds a.rising b.rising a.places b.places
      (λ v h. (b.each v).1 ((a.each v).0 h))
      (λ v h. (a.each v).1 ((b.each v).0 h))

  one : AreApart l.code → (t u : Table) → IsTable l end t → IsTable l end u → AreSame t u
  one apart t u a b =
      let order = same_order (length_of l a.front) a.index (length_of l b.front) b.index
      (b.first a.front a.index a.x t.cases a.has) (a.first b.front b.index b.x u.cases b.has) in
      let fronts : a.front ≡ b.front = one_slice l apart end a.front b.front a.has.slice b.has.slice order.0 in
      let subtree : slice_get (reading (target_of l a.front end)) a.index ≡ Some b.x =
      ap (slice_get (reading (target_of l a.front end))) order.1
      ∙ ap (λ f. slice_get (reading (target_of l f end)) b.index) fronts
      ∙ b.has.subtree in
      let xs : a.x ≡ b.x = same_Some _ _ (sym a.has.subtree ∙ subtree) in
      let has : HasTable l end a.front a.index a.x u.cases =
      subst (λ f. HasTable l end f a.index a.x u.cases) (sym fronts)
      (subst (λ i. HasTable l end b.front i a.x u.cases) (sym order.1)
      (subst (λ y. HasTable l end b.front b.index y u.cases) (sym xs) b.has)) in
      let held : IsHeld l end a.front a.x u.at u.value ⊎ IsRamRange l end a.front a.x u.at u.value =
      subst (λ f. IsHeld l end f a.x u.at u.value ⊎ IsRamRange l end f a.x u.at u.value) (sym fronts)
      (subst (λ y. IsHeld l end b.front y u.at u.value ⊎ IsRamRange l end b.front y u.at u.value) (sym xs) b.held) in
      let place = one_where a.front a.x t.at u.at t.value u.value a.held held in
      record {
        slice = a.slice ∙ order.0 ∙ sym b.slice;
        at = place.0;
        value = place.1;
        size = a.size ∙ ap width xs ∙ sym b.size;
        cases = cases_same a.front a.index a.x t.cases u.cases a.has has;
      }

pub one_table : OneTable
one_table l end t u apart a b = one l end apart t u a b
