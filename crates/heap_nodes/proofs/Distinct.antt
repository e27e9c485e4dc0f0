-- Nodes that take room lie at different places.
use Rattle.std.proofs.Common.{◌≡◌, ℕ, ◌+◌, ◌<◌, true, false, List, [], ◌∷◌, refl, subst, arith}
use Rattle.std.specs.List.{AllByRecursion, IsDistinct}
use seplogic.Ra.Ura.{Ura}
use base.Fraction.{full_share}
use mir.Val.{Val}
use prog.Memory.{size}
use prog.Model.{Model}
use base.Logic.{SProp, ent, sep, never, never_e, via, fst∗}
use base.Fml.{fat, froom}
use types.Logic.{Logic, sem}
use types.Kit.{Item, Goal, Seq, mean, prop, ‵, raw, ◌⊛◌, some, ◌$◌, ◌∵◌, !, qed, by, move, keep, use1, use2, pick, split, fsplit, done}
use contract.Monad.{fact, fact_i, fact_use}
use denote.RattleType.{RattleType}
use denote.Memory.{part_at, mem, lone}
use denote.Index.{row}
use denote.Param.{layout}
use denote.RawPtr.{Ptr, block_ptr, null_ptr, lies_at}
use borrow.Table.OneValue.{part_out}
use Rattle.std_alloc.proofs.BoxSteps.Form as box
use Rattle.std_alloc.proofs.BoxSteps.Steps.{el_room}
use Rattle.heap_nodes.specs.Owners.{same_ptr, places, IsApart}
use Rattle.heap_nodes.specs.contracts.owner.Owner as C
use Rattle.heap_nodes.proofs.Found.{same_ptr_eq}

module _ {M : Type 1} {𝓤 : Ura M} {𝓛 : Logic 𝓤} {K : Type 0} {Γ : List (Item 𝓤)} {G : Goal 𝓤 𝓛.H} where
  -- a fact that two entries show is learned, and they stay
  pub knows : K
      → {i j : Item 𝓤} (φ : Type 0)
      → ent 𝓤 (sep 𝓤 (mean 𝓛 i) (mean 𝓛 j)) (fact 𝓤 φ)
      → (φ → Seq K 𝓛 (i ∷ j ∷ Γ) G)
      → Seq K 𝓛 (i ∷ j ∷ Γ) G
  knows t {i} {j} φ h k =
      let shown : Seq K 𝓛 (i ∷ j ∷ Γ) (prop (fact 𝓤 φ)) = use2 𝓛 (raw (fact 𝓤 φ)) h $ keep t (0 ∷ []) $ done t in
      record { prf = fact_use 𝓤 φ shown.prf (λ x. (k x).prf) }

  pub knows1 : K → {i : Item 𝓤} (φ : Type 0) → ent 𝓤 (mean 𝓛 i) (fact 𝓤 φ) → (φ → Seq K 𝓛 (i ∷ Γ) G) → Seq K 𝓛 (i ∷ Γ) G
  knows1 t {i} φ h k =
      let shown : Seq K 𝓛 (i ∷ Γ) (prop (fact 𝓤 φ)) = use1 𝓛 (raw (fact 𝓤 φ)) h $ keep t (0 ∷ []) $ done t in
      record { prf = fact_use 𝓤 φ shown.prf (λ x. (k x).prf) }

module _ (E : box.Bx) {M : Type 1} {𝓤 : Ura M} (𝓛 : Logic 𝓤) (𝓜 : Model 𝓤 𝓛.H) (sized : 0 < size (layout E.row)) where
  abbrev R : RattleType
  R = box.R E

  abbrev B : RattleType
  B = C.the_row R (box.P E) E.al.g

  clash : (p : Ptr) (x y : R.Denot)
      → ent 𝓤 (sep 𝓤 (sem 𝓛 (lies_at R full_share p x)) (sem 𝓛 (lies_at R full_share p y))) (never 𝓤)
  clash (block_ptr b o) x y =
      let s = size (layout E.row) in
      qed 𝓛 (‵ (part_at R full_share x b o) ∷ ‵ (part_at R full_share y b o) ∷ []) ∵ use1 𝓛 (‵ (froom (box.τ E) b o))
      (el_room E 𝓛 x b o) $ move ! (1 ∷ []) $ use1 𝓛 (‵ (froom (box.τ E) b o)) (el_room E 𝓛 y b o) $
      by !
      (𝓜.room-room (box.τ E) (box.τ E) b o o o (omega arith, omega (arith, sized)) (omega arith, omega (arith, sized)))
  clash null_ptr x y = fst∗ 𝓤 (never 𝓤) (never 𝓤)

  node_of : (x : B.Denot) (b o : ℕ)
      → ent 𝓤 (sem 𝓛 (part_at B full_share x b o)) (sem 𝓛 (lies_at R full_share x.at x.value))
  node_of x b o = qed 𝓛 (‵ (part_at B full_share x b o) ∷ []) ∵
      use1 𝓛 (some (λ (w : Val). ‵ (fat full_share (lone B.mir) b o w) ⊛ ‵ (B.own_val x (w ∷ []))))
      (part_out 𝓛 B refl full_share x b o) $ pick ! (λ w. split ! $ move ! (1 ∷ []) $
      fsplit ! $ move ! (1 ∷ []) $ fsplit ! $ keep ! (0 ∷ []) $ done !)

  two : (p q : Ptr) (x y : R.Denot)
      → ent 𝓤 (sep 𝓤 (sem 𝓛 (lies_at R full_share p x)) (sem 𝓛 (lies_at R full_share q y)))
      (fact 𝓤 (same_ptr p q ≡ false))
  two p q x y =
      let F : Ptr → SProp 𝓤 = λ r. sep 𝓤 (sem 𝓛 (lies_at R full_share p x)) (sem 𝓛 (lies_at R full_share r y)) in
      (elim (same_ptr p q) as (λ t. same_ptr p q ≡ t → ent 𝓤 (F q) (fact 𝓤 (same_ptr p q ≡ false))) [
        | true ↦
            λ e. via 𝓤 (never 𝓤) (subst (λ r. ent 𝓤 (F r) (never 𝓤)) (same_ptr_eq p q e) (clash p x y)) (never_e 𝓤 _)
        | false ↦ λ e. fact_i 𝓤 (same_ptr p q ≡ false) (F q) e
      ]) refl

  fresh : (x : B.Denot) (ys : List B.Denot) (b o : ℕ)
      → ent 𝓤 (sep 𝓤 (sem 𝓛 (lies_at R full_share x.at x.value)) (sem 𝓛 (row B full_share ys b o)))
      (fact 𝓤 (AllByRecursion (λ q. same_ptr x.at q ≡ false) (places ys)))
  fresh x [] b o = fact_i 𝓤 _ _ tt
  fresh x (y ∷ ys) b o =
      let Node = lies_at R full_share x.at x.value in
      qed 𝓛 (‵ Node ∷ ‵ (row B full_share (y ∷ ys) b o) ∷ []) ∵ move ! (1 ∷ []) $ fsplit ! $ use1 𝓛
      (‵ (lies_at R full_share y.at y.value)) (node_of y b o) $ move ! (2 ∷ 0 ∷ []) $
      knows ! (same_ptr x.at y.at ≡ false) (two x.at y.at x.value y.value) (λ here. move ! (0 ∷ 2 ∷ []) $
      knows ! (AllByRecursion (λ q. same_ptr x.at q ≡ false) (places ys)) (fresh x ys b (o + (mem B).size)) (λ rest.
      by ! (fact_i 𝓤 _ _ (here, rest))))

  pub row_apart : (xs : List B.Denot) (b o : ℕ) → ent 𝓤 (sem 𝓛 (row B full_share xs b o)) (fact 𝓤 (IsApart (places xs)))
  unfolding IsDistinct
  row_apart [] b o = fact_i 𝓤 _ _ tt
  row_apart (x ∷ xs) b o =
      qed 𝓛 (‵ (row B full_share (x ∷ xs) b o) ∷ []) ∵ fsplit ! $ use1 𝓛 (‵ (lies_at R full_share x.at x.value))
      (node_of x b o) $
      knows ! (AllByRecursion (λ q. same_ptr x.at q ≡ false) (places xs)) (fresh x xs b (o + (mem B).size))
      (λ here. move ! (1 ∷ []) $
      knows1 ! (IsApart (places xs)) (row_apart xs b (o + (mem B).size)) (λ rest. by ! (fact_i 𝓤 _ _ (here, rest))))
