-- The value of a comparison of a moved word with a constant.
use Rattle.std.specs.Prelude.{ℕ, Bool, true, false, if◌then◌else◌}
use Rattle.bits_core.specs.Value.{add, half, binary_value}
use Rattle.bits_core.specs.declared.ops.Binary.{Binary}
use Rattle.bits_core.specs.declared.ops.Binary.TheVariants as B
use Rattle.word_sets.specs.declared.comparisons.Order.{Order}
use Rattle.word_sets.specs.declared.comparisons.Order.TheVariants.{Equal, NotEqual, Less, LessEqual, SignedLess, SignedLessEqual}
use Rattle.word_sets.specs.declared.comparisons.Comparison.{Comparison}
use Rattle.word_sets.specs.Turns.{in_arc}

-- the operation that compares so
abbrev pub operation_of : Order → Binary
operation_of Equal = B.Equal
operation_of NotEqual = B.NotEqual
operation_of Less = B.Less
operation_of LessEqual = B.LessEqual
operation_of SignedLess = B.SignedLess
operation_of SignedLessEqual = B.SignedLessEqual

-- its value at two words of w bytes
abbrev pub compared : Order → ℕ → ℕ → ℕ → ℕ
compared o w a b = binary_value (operation_of o) w a w b 1

-- the comparison's value where the word is v
abbrev pub comparison_value : Comparison → ℕ → ℕ
comparison_value t v =
    let w = t.constant.width.bytes in
    let y = add w v t.moved.value in
    if t.word_first then compared t.order w y t.constant.value else compared t.order w t.constant.value y

-- the least word of w bytes in an order
abbrev pub least_of : Order → ℕ → ℕ
least_of Equal w = 0
least_of NotEqual w = 0
least_of Less w = 0
least_of LessEqual w = 0
least_of SignedLess w = half w
least_of SignedLessEqual w = half w

-- Whether v comes, from a least word on, before a word, or else from behind it on.
abbrev pub in_strict : Bool → (start at after : ℕ) → ℕ → Bool
in_strict true start at after v = in_arc start at v
in_strict false start at after v = in_arc after start v
