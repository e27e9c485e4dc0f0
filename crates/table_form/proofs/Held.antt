-- Where x is held is one place, and the range that holds it is one.
use Rattle.std.proofs.Common.{◌≡◌, ℕ, List, [], ◌∷◌, ◌++◌, refl, sym, ap, ◌∙◌, subst, ◌⊎◌, inl, inr, arith}
use Rattle.pcode_model.specs.declared.listing.Place.{Place}
use Rattle.pcode_model.specs.declared.listing.SpaceKind.TheVariants.{Register, Unique}
use Rattle.pcode_model.specs.declared.listing.Varnode.{Varnode}
use Rattle.pcode_model.specs.declared.listing.Listing.{Listing}
use Rattle.pcode_model.specs.Spaces.{kind_of}
use Rattle.table_form.specs.Trees.{Tree, Entry}
use Rattle.table_form.specs.Slices.{traced}
use Rattle.table_form.specs.Tables.{HoldsTree, IsEarlier, IsHeld, IsRamRange}

-- ---- two cuts of one list

pub data Cuts (xs : List Place) (p : Place) (ys : List Place) (q : Place) : Type 0 where
  Same : xs ≡ ys → p ≡ q → Cuts xs p ys q
  Sooner : (rest : List Place) → ys ≡ xs ++ p ∷ rest → Cuts xs p ys q
  Later : (rest : List Place) → xs ≡ ys ++ q ∷ rest → Cuts xs p ys q

head_same : {p q : Place} {xs ys : List Place} → p ∷ xs ≡ q ∷ ys → p ≡ q
head_same h = cc

tail_same : {p q : Place} {xs ys : List Place} → p ∷ xs ≡ q ∷ ys → xs ≡ ys
tail_same h = cc

cuts : (xs : List Place) (p : Place) (ends : List Place) (ys : List Place) (q : Place) (others : List Place)
    → xs ++ p ∷ ends ≡ ys ++ q ∷ others
    → Cuts xs p ys q
cuts [] p ends [] q others h = Same refl (head_same h)
cuts [] p ends (y ∷ ys) q others h = Sooner ys (ap (λ z. z ∷ ys) (sym (head_same h)))
cuts (x ∷ xs) p ends [] q others h = Later xs (ap (λ z. z ∷ xs) (head_same h))
cuts (x ∷ xs) p ends (y ∷ ys) q others h = by (cuts xs p ends ys q others (tail_same h))
  where
    first : x ≡ y
    first = head_same h

    by : Cuts xs p ys q → Cuts (x ∷ xs) p (y ∷ ys) q
    by (Same e f) = Same (ap (λ z. z ∷ xs) first ∙ ap (λ zs. y ∷ zs) e) f
    by (Sooner rest e) = Sooner rest (ap (λ z. z ∷ ys) (sym first) ∙ ap (λ zs. x ∷ zs) e)
    by (Later rest e) = Later rest (ap (λ z. z ∷ xs) first ∙ ap (λ zs. y ∷ zs) e)

-- ---- ranges

kinds_differ : Unique ≡ Register → ⊥
kinds_differ h = absurd (cc)

module _ (l : Listing) (v w : Varnode) where
  not_both : IsEarlier l v w → IsEarlier l w v → ⊥
  not_both (inl a) (inl b) = kinds_differ (sym a.1 ∙ b.0)
  not_both (inl a) (inr b) = kinds_differ (sym a.1 ∙ ap (kind_of l) b.0 ∙ a.0)
  not_both (inr a) (inl b) = kinds_differ (sym b.1 ∙ ap (kind_of l) a.0 ∙ b.0)
  not_both (inr a) (inr b) = omega (arith, a.1, b.1)

  one_first : (w ≡ v) ⊎ IsEarlier l v w → (v ≡ w) ⊎ IsEarlier l w v → v ≡ w
  one_first (inl e) k = sym e
  one_first (inr a) (inl e) = e
  one_first (inr a) (inr b) = absurd (not_both a b)

same_entry : (a b c d e f : ℕ) → Entry a b c ≡ Entry d e f → (a ≡ d) × ((b ≡ e) × (c ≡ f))
same_entry a b c d e f h = (cc, (cc, cc))

same_varnode : (v w : Varnode) → v.space ≡ w.space → v.offset ≡ w.offset → v.size ≡ w.size → v ≡ w
same_varnode v w a b c =
    ap (λ s. record { space = s; offset = v.offset; size = v.size }) a
    ∙ ap (λ o. record { space = w.space; offset = o; size = v.size }) b
    ∙ ap (λ k. record { space = w.space; offset = w.offset; size = k }) c

-- ---- where x is held

module _ (l : Listing) (end : Place) (front : List Place) (x : Tree) (p q : Place) (v w : Varnode) where
  pub one_held : IsHeld l end front x p v → IsHeld l end front x q w → (p ≡ q) × (v ≡ w)
  one_held a b = by (cuts a.before p a.after b.before q b.after (sym a.split ∙ b.split))
    where
      by : Cuts a.before p b.before q → (p ≡ q) × (v ≡ w)
      by (Same e f) =
          let there : HoldsTree l (traced l a.before) x w = subst (λ zs. HoldsTree l (traced l zs) x w) (sym e) b.holds in
          let back : HoldsTree l (traced l b.before) x v = subst (λ zs. HoldsTree l (traced l zs) x v) e a.holds in
          (f, one_first l v w (a.first w there) (b.first v back))
      by (Sooner rest e) = absurd (b.least a.before rest p v e a.holds)
      by (Later rest e) = absurd (a.least b.before rest q w e b.holds)

  pub not_ram : IsHeld l end front x p v → IsRamRange l end front x q w → ⊥
  not_ram a b = b.never a.before a.after p v a.split a.holds

  pub one_ram : IsRamRange l end front x p v → IsRamRange l end front x q w → (p ≡ q) × (v ≡ w)
  one_ram a b =
      let e = same_entry v.space v.offset v.size w.space w.offset w.size (sym a.entry ∙ b.entry) in
      (a.at_first ∙ sym b.at_first, same_varnode v w e.0 e.1.0 e.1.1)
