-- Worked texts.
use Rattle.std.specs.Prelude.{◌≡◌, ℕ, List, [], ◌∷◌, ◌++◌, codes}
use Rattle.ssa_model.specs.Examples.{named, sum_loop, endless, all_lines}
use Rattle.ssa_text.specs.Text.{ssa_text}

-- lines, each ended by LF
abbrev ended : List (List ℕ) → List ℕ
ended [] = []
ended (line ∷ lines) = line ++ 10 ∷ ended lines

abbrev sum_text : List ℕ
sum_text =
    ended
    (codes "ssa f_sum"
    ∷ codes "b1:"
    ∷ codes "  n1:4 = ENTRY register:0x38:4"
    ∷ codes "  n2:4 = COPY 0x0:4"
    ∷ codes "  GOTO b2"
    ∷ codes "b2:"
    ∷ codes "  n3:4 = MULTIEQUAL b1:n2 b3:n6"
    ∷ codes "  n4:4 = MULTIEQUAL b1:n1 b3:n7"
    ∷ codes "  n5:1 = INT_EQUAL n4 0x0:4"
    ∷ codes "  IF n5 b4 b3"
    ∷ codes "b3:"
    ∷ codes "  n6:4 = INT_ADD n3 n4"
    ∷ codes "  n7:4 = INT_SUB n4 0x1:4"
    ∷ codes "  GOTO b2"
    ∷ codes "b4:"
    ∷ codes "  RETURN n3"
    ∷ [])

abbrev spin_text : List ℕ
spin_text =
    ended (codes "ssa f_spin" ∷ codes "b1:" ∷ codes "  GOTO b2" ∷ codes "b2:" ∷ codes "  GOTO b2" ∷ [])

abbrev all_text : List ℕ
all_text =
    ended
    (codes "ssa f_all"
    ∷ codes "b1:"
    ∷ codes "  n1:4 = ENTRY register:0x38:4"
    ∷ codes "  n2:4 = ENTRY stack:-0x8:4"
    ∷ codes "  SWITCH n1 0x0:b2 0xa:b3"
    ∷ codes "b2:"
    ∷ codes "  STORE ram n1 n2"
    ∷ codes "  CALL 0x2000 n2"
    ∷ codes "  STOP"
    ∷ codes "b3:"
    ∷ codes "  n3:2 = SUBPIECE n1 0x2"
    ∷ codes "  n4:4 = CALLIND n1 n3"
    ∷ codes "  n5:4 = EXTRAOUT 0x10"
    ∷ codes "  n6:4 = CALLOTHER 0x7 n5"
    ∷ codes "  n7:4 = LOAD ram n6"
    ∷ codes "  n8:4 = INT_DIV n7 n4"
    ∷ codes "  RETURN"
    ∷ [])

pub record Texts : Type 0 where
  pub sum : ssa_text (named (codes "sum")) sum_loop ≡ sum_text
  pub endless : ssa_text (named (codes "spin")) endless ≡ spin_text
  pub all : ssa_text (named (codes "all")) all_lines ≡ all_text
