-- The value of a node over constants: its width and its number, and which widths agree.
use Rattle.std.specs.Prelude.{◌≡◌, ℕ, ◌+◌, ◌<◌, ◌≤◌}
use Rattle.bits_core.specs.declared.word.Word.{Word}
use Rattle.bits_core.specs.declared.ops.Binary.{Binary}
use Rattle.bits_core.specs.declared.ops.Binary.TheVariants as B
use Rattle.bits_core.specs.declared.ops.Divide.{Divide}
use Rattle.bits_core.specs.Value.{unary_value, binary_value, quotient_or_rest}
use Rattle.cmeaning.specs.Value.{unary_of, extend_of, count_of, arithmetic_of, shift_of, compare_of, signed_compare_of, overflow_of, division_of, signed_division_of}
use Rattle.rules.specs.Letters.{IsWord}
use Rattle.rule_views.specs.declared.nodes.Single.{Single}
use Rattle.rule_views.specs.declared.nodes.Single.TheVariants as S
use Rattle.rule_views.specs.declared.nodes.Pair.{Pair}
use Rattle.rule_views.specs.declared.nodes.Pair.TheVariants as P

abbrev pub Subpiece : Binary
Subpiece = B.Subpiece

-- ---- of one constant of v bytes

abbrev pub SingleAgrees : Single → ℕ → Type 0
SingleAgrees (S.Extend op w) v = v < w.bytes
SingleAgrees s v = Unit {0}

abbrev pub single_width : Single → ℕ → ℕ
single_width (S.Unary op) v = v
single_width (S.Extend op w) v = w.bytes
single_width (S.Part k w) v = w.bytes
single_width (S.Count op) v = 1

abbrev pub single_number : Single → ℕ → ℕ → ℕ
single_number (S.Unary op) v a = unary_value (unary_of op) v a v
single_number (S.Extend op w) v a = unary_value (extend_of op) v a w.bytes
single_number (S.Part k w) v a = binary_value B.Subpiece v a 1 k w.bytes
single_number (S.Count op) v a = unary_value (count_of op) v a 1

abbrev pub IsSingleValue : Single → Word → Word → Type 0
IsSingleValue s c e = IsWord (single_width s c.width.bytes) (single_number s c.width.bytes c.value) e

-- ---- of two constants of v and of u bytes

abbrev pub Agree : Pair → ℕ → ℕ → Type 0
Agree (P.Shift op) v u = Unit {0}
Agree P.Concat v u = v + u ≤ 16
Agree p v u = v ≡ u

abbrev pub pair_width : Pair → ℕ → ℕ → ℕ
pair_width (P.Arithmetic op) v u = v
pair_width (P.Division op) v u = v
pair_width (P.SignedDivision op) v u = v
pair_width (P.Shift op) v u = v
pair_width (P.Compare op) v u = 1
pair_width (P.SignedCompare op) v u = 1
pair_width P.Concat v u = v + u
pair_width (P.Overflow op) v u = 1

-- a division, whose divisor may be 0
abbrev pub Divides : Pair → Type 0
Divides (P.Division op) = Unit {0}
Divides (P.SignedDivision op) = Unit {0}
Divides p = ⊥

abbrev pub pair_number : Pair → ℕ → ℕ → ℕ → ℕ → ℕ
pair_number (P.Arithmetic op) v a u b = binary_value (arithmetic_of op) v a v b v
pair_number (P.Division op) v a u b = quotient_or_rest (division_of op) v a b
pair_number (P.SignedDivision op) v a u b = quotient_or_rest (signed_division_of op) v a b
pair_number (P.Shift op) v a u b = binary_value (shift_of op) v a u b v
pair_number (P.Compare op) v a u b = binary_value (compare_of op) v a u b 1
pair_number (P.SignedCompare op) v a u b = binary_value (signed_compare_of op) v a u b 1
pair_number P.Concat v a u b = binary_value B.Piece v a u b (v + u)
pair_number (P.Overflow op) v a u b = binary_value (overflow_of op) v a u b 1

-- a division by 0
abbrev pub NoPairValue : Pair → Word → Type 0
NoPairValue p d = Divides p × (d.value ≡ 0)

pub record IsPairValue (p : Pair) (c d e : Word) : Type 0 where
  pub word : IsWord (pair_width p c.width.bytes d.width.bytes)
      (pair_number p c.width.bytes c.value d.width.bytes d.value) e
  pub divides : Divides p → d.value ≡ 0 → ⊥

pub record IsQuotient (op : Divide) (c d q : Word) : Type 0 where
  pub word : IsWord c.width.bytes (quotient_or_rest op c.width.bytes c.value d.value) q
  pub divides : d.value ≡ 0 → ⊥
