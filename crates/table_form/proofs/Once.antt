-- A tree has one value at most where x has a value.
use Rattle.std.proofs.Common.{◌≡◌, ◌≢◌, ℕ, List, [], ◌∷◌, map, Some, refl, sym, ap, ◌∙◌, subst, ◌⊎◌, inl, inr, ⊎_elim}
use Rattle.bits_core.specs.Bytes.{word_of}
use Rattle.pcode_model.specs.declared.listing.Listing.{Listing}
use Rattle.pcode_model.specs.Spaces.{is_big}
use Rattle.table_form.specs.Trees.{Doing, OfOne, OfTwo, Divides, Loads, Drops, Joins, Tree, Entry, Number, Node, Trees, End, More, width}
use Rattle.table_form.specs.Values.{Sized, IsFixedWord, Makes, Gives, Here, OfNumber, OfNode, GiveAll, NoMore, OneMore}
use Rattle.table_form.specs.Laws.{OneValue}

same_some : (xs ys : List ℕ) → map Some xs ≡ map Some ys → xs ≡ ys
same_some [] [] h = refl
same_some [] (y ∷ ys) h = absurd (cc)
same_some (x ∷ xs) [] h = absurd (cc)
same_some (x ∷ xs) (y ∷ ys) h = cc (same_some xs ys (cc))

module _ (l : Listing) where
  fixed_once : (s a k i j : ℕ) → IsFixedWord l s a k i → IsFixedWord l s a k j → i ≡ j
  fixed_once s a k i j g h =
      g.word ∙ ap (word_of (is_big l s)) (same_some g.bytes h.bytes (sym g.fixed ∙ h.fixed)) ∙ sym h.word

  makes_once : (d : Doing) (k i j : ℕ) (ws : List Sized) → Makes l d k ws i → Makes l d k ws j → i ≡ j
  makes_once (OfOne op) k i j ws g h = g ∙ sym h
  makes_once (OfTwo op) k i j ws g h = g ∙ sym h
  makes_once (Divides op) k i j ws g h = let e : Some i ≡ Some j = sym g ∙ h in cc
  makes_once (Loads s) k i j ws g h = fixed_once s _ k i j g h
  makes_once (Drops d) k i j ws g h = g ∙ sym h
  makes_once Joins k i j ws g h = g ∙ sym h

  module _ (x : Tree) (v : ℕ) where
    abbrev Inside : Tree → ℕ → Type 0
    Inside (Entry s o k) n = ⊥
    Inside (Number i k) n = n ≡ i
    Inside (Node d k ts) n = (ws : List Sized) × (GiveAll l x v ts ws × Makes l d k ws n)

    abbrev AllInside : Trees → List Sized → Type 0
    AllInside End us = us ≡ []
    AllInside (More t ts) us =
        (i : ℕ) × ((ws : List Sized) × (Gives l x v t i × (GiveAll l x v ts ws × (us ≡ record { size = width t; value = i } ∷ ws))))

    inside : {t : Tree} {n : ℕ} → Gives l x v t n → ((t ≡ x) × (n ≡ v)) ⊎ ((t ≢ x) × Inside t n)
    inside Here = inl (refl, refl)
    inside (OfNumber n k o) = inr (o, refl)
    inside (OfNode d k n ts ws o g m) = inr (o, (ws, (g, m)))

    all_inside : {ts : Trees} {us : List Sized} → GiveAll l x v ts us → AllInside ts us
    all_inside NoMore = refl
    all_inside (OneMore n t ts ws g h) = (n, (ws, (g, (h, refl))))

    mutual
      gives_once : {t : Tree} {i : ℕ} → Gives l x v t i → (j : ℕ) → Gives l x v t j → i ≡ j
      gives_once Here j h = ⊎_elim (λ (e, f). sym f) (λ (ne, y). absurd (ne refl)) (inside h)
      gives_once (OfNumber n k o) j h = ⊎_elim (λ (e, f). absurd (o e)) (λ (ne, y). sym y) (inside h)
      gives_once (OfNode d k n ts ws o g m) j h =
          ⊎_elim (λ (e, f). absurd (o e))
          (λ (ne, y). makes_once d k n j ws m (subst (λ us. Makes l d k us j) (sym (all_once g y.0 y.1.0)) y.1.1)) (inside h)

      all_once : {ts : Trees} {us : List Sized}
          → GiveAll l x v ts us
          → (ws : List Sized)
          → GiveAll l x v ts ws
          → us ≡ ws
      all_once NoMore ws h = sym (all_inside h)
      all_once (OneMore n t ts us g h) ws k =
          let y = all_inside k in
          ap (λ i. record { size = width t; value = i } ∷ us) (gives_once g y.0 y.1.1.0)
          ∙ ap (λ xs. record { size = width t; value = y.0 } ∷ xs) (all_once h y.1.0 y.1.1.1.0) ∙ sym y.1.1.1.1

pub one_value : OneValue
one_value l x t v i j g h = gives_once l x v g j h
