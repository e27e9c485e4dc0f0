-- What a tree gives where x has its word is the tree's word.
use Rattle.std.proofs.Common.{◌≡◌, ℕ, List, ◌∷◌, refl, sym, ap, ◌∙◌, subst}
use Rattle.pcode_model.specs.declared.listing.Listing.{Listing}
use Rattle.pcode_model.specs.Memory.{or_else}
use Rattle.pcode_model.specs.Step.{byte_address}
use Rattle.table_form.specs.Trees.{Doing, OfOne, OfTwo, Divides, Loads, Drops, Joins, Tree, Node, Trees, width}
use Rattle.table_form.specs.Values.{Sized, IsFixedWord, Makes, Gives, Here, OfNumber, OfNode, GiveAll, NoMore, OneMore, word}
use Rattle.table_runs.specs.Words.{Words, made, value, values}
use Rattle.table_runs.specs.Outside.{IsOutside, IsOutsideOne, Itself, Within, InFirst, InRest}

-- where the node is a LOAD of read-only bytes, its word is theirs
abbrev pub IsFixedLoad : Listing → Words → Tree → Type 0
IsFixedLoad l e u =
    (s k n : ℕ) (ts : Trees)
    → u ≡ Node (Loads s) k ts
    → IsFixedWord l s (byte_address l s (word (values e ts) 0).value) k n
    → value e u ≡ n

module _ (l : Listing) (e : Words) (x : Tree) where
  makes_value : (d : Doing) (k n : ℕ) (ts : Trees)
      → IsFixedLoad l e (Node d k ts)
      → Makes l d k (values e ts) n
      → made e d k ts (values e ts) ≡ n
  makes_value (OfOne op) k n ts fixed m = sym m
  makes_value (OfTwo op) k n ts fixed m = sym m
  makes_value (Divides op) k n ts fixed m = ap (λ r. or_else r 0) m
  makes_value (Loads s) k n ts fixed m = fixed s k n ts refl m
  makes_value (Drops d) k n ts fixed m = sym m
  makes_value Joins k n ts fixed m = sym m

  mutual
    -- The LOADs that the tree evaluates outside x are of read-only bytes where these are what it gives.
    pub gives_value : {t : Tree} {n : ℕ}
        → ((u : Tree) → IsOutside x u t → IsFixedLoad l e u)
        → Gives l x (value e x) t n
        → value e t ≡ n
    gives_value fixed Here = refl
    gives_value fixed (OfNumber n k o) = refl
    gives_value fixed (OfNode d k n ts ws o g m) =
        let same : values e ts ≡ ws = gives_values (λ u h. fixed u (Within d k ts o h)) g in
        makes_value d k n ts (fixed (Node d k ts) (Itself o)) (subst (λ us. Makes l d k us n) (sym same) m)

    gives_values : {ts : Trees} {ws : List Sized}
        → ((u : Tree) → IsOutsideOne x u ts → IsFixedLoad l e u)
        → GiveAll l x (value e x) ts ws
        → values e ts ≡ ws
    gives_values fixed NoMore = refl
    gives_values fixed (OneMore n t ts ws g h) =
        ap (λ v. record { size = width t; value = v } ∷ values e ts) (gives_value (λ u i. fixed u (InFirst t ts i)) g)
        ∙ ap (λ us. record { size = width t; value = n } ∷ us) (gives_values (λ u i. fixed u (InRest t ts i)) h)
