-- Blocks that are taken from the end, made anew and turned.
use Rattle.std.proofs.Common.{◌≡◌, ◌∙◌, ℕ, List, [], ◌∷◌, ◌++◌, refl, sym, ap, append_assoc}
use Rattle.std.specs.Prelude.{map, reverse}
use Rattle.std.proofs.lemmas.List.{reverse-append, map-append}
use Rattle.blockcode.specs.declared.code.Block.{Block}
use Rattle.blockcode.specs.Numbers.{ExitBelow, ExitsBelow}

-- The exits of all but the last one, and of the last one.
pub below_last : (n : ℕ) (xs : List Block) (x : Block)
    → ExitsBelow n (xs ++ x ∷ [])
    → ExitsBelow n xs × ExitBelow n x.exit
below_last n [] x h = (tt, h.0)
below_last n (y ∷ xs) x h = let r = below_last n xs x h.1 in ((h.0, r.0), r.1)

module _ {A : Type 0} (f : A → A) where
  -- one more, from the end
  pub one_more : (done xs : List A) (x : A)
      → (done ++ f x ∷ []) ++ map f (reverse xs) ≡ done ++ map f (reverse (xs ++ x ∷ []))
  one_more done xs x =
      append_assoc done (f x ∷ []) (map f (reverse xs))
      ∙ sym (ap (λ ys. done ++ map f ys) (reverse-append xs (x ∷ [])))

  -- Turned twice they stand in order.
  pub in_order : (xs : List A) → reverse (map f (reverse xs)) ≡ map f xs
  in_order [] = refl
  in_order (x ∷ xs) =
      ap (λ ys. reverse (map f ys)) (reverse-append (x ∷ []) xs)
      ∙ ap reverse (map-append f (reverse xs) (x ∷ []))
      ∙ reverse-append (map f (reverse xs)) (f x ∷ [])
      ∙ ap (λ ys. f x ∷ ys) (in_order xs)
