-- Two lists with the same members, each in a strict order, are one list.
use Rattle.std.proofs.Common.{◌≡◌, List, [], ◌∷◌, inl, inr, refl, sym, subst, arith}
use Rattle.pcode_model.specs.declared.atoms.Atom.{Atom}
use Rattle.pcode_model.specs.declared.listing.Place.{Place}
use Rattle.pcode_model.specs.declared.storage.ParamStorage.{ParamStorage}
use Rattle.pcode_model.specs.declared.storage.ParamStorage.TheVariants as P
use Rattle.pcode_model.specs.Atoms.{InOrder, StandsBefore}
use Rattle.pcode_model.specs.Flow.{IsBefore, IsIn, Rising}
use Rattle.std.proofs.lemmas.Int.{ints}
use Rattle.plain_form.proofs.Table.{before_trans}
use Rattle.flow.proofs.Order.{before_trans as before_place, not_before}

-- each member stands before the next one
abbrev pub Ordered : {A : Type 0} → (A → A → Type 0) → List A → Type 0
Ordered R [] = Unit {0}
Ordered R (a ∷ []) = Unit {0}
Ordered R (a ∷ b ∷ rest) = R a b × Ordered R (b ∷ rest)

module _ {A : Type 0} (R : A → A → Type 0) (strict : (a : A) → R a a → ⊥) (on : (a b c : A) → R a b → R b c → R a c)
  where
    after : (a : A) (rest : List A) → Ordered R (a ∷ rest) → (b : A) → IsIn b rest → R a b
    after a [] h b is = absurd is
    after a (x ∷ rest) h b (inl e) = subst (λ y. R a y) (sym e) h.0
    after a (x ∷ rest) h b (inr is) = on a x b h.0 (after x rest h.1 b is)

    rest_ordered : (a : A) (rest : List A) → Ordered R (a ∷ rest) → Ordered R rest
    rest_ordered a [] h = tt
    rest_ordered a (x ∷ rest) h = h.1

    first_same : (x y : A) (xs ys : List A)
        → Ordered R (x ∷ xs)
        → Ordered R (y ∷ ys)
        → IsIn x (y ∷ ys)
        → IsIn y (x ∷ xs)
        → x ≡ y
    first_same x y xs ys h g (inl e) back = e
    first_same x y xs ys h g (inr is) (inl e) = sym e
    first_same x y xs ys h g (inr is) (inr was) = absurd (strict x (on x y x (after x xs h y was) (after y ys g x is)))

    -- the members after the first are the same too
    rest_same : (x y : A) (xs ys : List A)
        → x ≡ y
        → Ordered R (x ∷ xs)
        → ((a : A) → IsIn a (x ∷ xs) → IsIn a (y ∷ ys))
        → (a : A)
        → IsIn a xs
        → IsIn a ys
    rest_same x y xs ys e h there a is = by_place (there a (inr is))
      where
        by_place : IsIn a (y ∷ ys) → IsIn a ys
        by_place (inl same) = absurd (strict x (subst (λ z. R x z) (cc) (after x xs h a is)))
        by_place (inr more) = more

    pub same_list : (xs ys : List A)
        → Ordered R xs
        → Ordered R ys
        → ((a : A) → IsIn a xs → IsIn a ys)
        → ((a : A) → IsIn a ys → IsIn a xs)
        → xs ≡ ys
    same_list [] [] h g there back = refl
    same_list [] (y ∷ ys) h g there back = absurd (back y (inl refl))
    same_list (x ∷ xs) [] h g there back = absurd (there x (inl refl))
    same_list (x ∷ xs) (y ∷ ys) h g there back =
        let e : x ≡ y = first_same x y xs ys h g (there x (inl refl)) (back y (inl refl)) in
        let rest : xs ≡ ys = same_list xs ys (rest_ordered x xs h) (rest_ordered y ys g) (rest_same x y xs ys e h there)
        (rest_same y x ys xs (sym e) g back) in
        cc

-- ---- places

ordered_places : (ps : List Place) → Rising ps → Ordered IsBefore ps
ordered_places [] h = tt
ordered_places (p ∷ []) h = tt
ordered_places (p ∷ q ∷ rest) h = (h.0, ordered_places (q ∷ rest) h.1)

pub same_places : (ps qs : List Place)
    → Rising ps
    → Rising qs
    → ((p : Place) → IsIn p ps → IsIn p qs)
    → ((p : Place) → IsIn p qs → IsIn p ps)
    → ps ≡ qs
same_places ps qs h g there back =
    same_list IsBefore not_before before_place ps qs (ordered_places ps h) (ordered_places qs g) there back

-- ---- atoms

never_stands : (s : ParamStorage) → StandsBefore s s → ⊥
never_stands (P.Register o) h = omega (arith, h)
never_stands (P.Unique o) h = omega (arith, h)
never_stands (P.Stack o) h = omega (arith, ints, h)

ordered_atoms : (atoms : List Atom) → InOrder atoms → Ordered (λ a b. StandsBefore a.storage b.storage) atoms
ordered_atoms [] h = tt
ordered_atoms (a ∷ []) h = tt
ordered_atoms (a ∷ b ∷ rest) h = (h.0, ordered_atoms (b ∷ rest) h.1)

pub same_atoms : (xs ys : List Atom)
    → InOrder xs
    → InOrder ys
    → ((a : Atom) → IsIn a xs → IsIn a ys)
    → ((a : Atom) → IsIn a ys → IsIn a xs)
    → xs ≡ ys
same_atoms xs ys h g there back =
    same_list (λ a b. StandsBefore a.storage b.storage) (λ a. never_stands a.storage)
    (λ a b c. before_trans a.storage b.storage c.storage) xs ys (ordered_atoms xs h) (ordered_atoms ys g) there back
