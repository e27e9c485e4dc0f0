-- Small sets of words.
use Rattle.std.specs.Prelude.{◌≡◌, true, false, [], ◌∷◌}
use Rattle.word_sets.specs.declared.comparisons.Order.TheVariants.{Less, LessEqual, SignedLess}
use Rattle.word_sets.specs.Turns.{turned, in_arc}
use Rattle.word_sets.specs.Comparing.{compared, in_strict}
use Rattle.word_sets.specs.Words.{words_of}

-- The words below 8 of a set by its turning points: none, all, those from 2 on before 5, and two that cancel.
pub record WorkedTurns : Type 0 where
  pub none : words_of (turned false []) 8 ≡ []
  pub all : words_of (turned true []) 3 ≡ 0 ∷ 1 ∷ 2 ∷ []
  pub between : words_of (turned false (2 ∷ 5 ∷ [])) 8 ≡ 2 ∷ 3 ∷ 4 ∷ []
  pub outside : words_of (turned true (2 ∷ 5 ∷ [])) 8 ≡ 0 ∷ 1 ∷ 5 ∷ 6 ∷ 7 ∷ []
  pub twice : words_of (turned false (2 ∷ 2 ∷ [])) 8 ≡ []
  pub greatest : words_of (turned false (7 ∷ [])) 8 ≡ 7 ∷ []

-- arcs, also around the end and up to it
pub record WorkedArcs : Type 0 where
  pub inside : words_of (in_arc 2 5) 8 ≡ 2 ∷ 3 ∷ 4 ∷ []
  pub around : words_of (in_arc 6 2) 8 ≡ 0 ∷ 1 ∷ 6 ∷ 7 ∷ []
  pub to_the_end : words_of (in_arc 6 0) 8 ≡ 6 ∷ 7 ∷ []
  pub empty : words_of (in_arc 3 3) 8 ≡ []

-- At one byte 200 is less than 3 in signed order and not in unsigned order; the arc that ends at 3 begins at the least
-- word of the order.
pub record WorkedOrders : Type 0 where
  pub unsigned : compared Less 1 200 3 ≡ 0
  pub unsigned_arc : in_strict true 0 3 4 200 ≡ false
  pub signed : compared SignedLess 1 200 3 ≡ 1
  pub signed_arc : in_strict true 128 3 4 200 ≡ true
  pub above : in_strict false 0 3 4 200 ≡ true
  pub equal : compared LessEqual 1 3 3 ≡ 1
