-- What is drawn for the instructions of a generated listing. The sequence is a linear congruential one.
use Rattle.std.specs.Prelude.{ℕ, zero, suc, ◌+◌, ◌*◌, ◌/◌, ◌%◌, ◌^◌, ◌==◌, if◌then◌else◌}
use Rattle.generator.specs.declared.draws.Drawn.{Drawn}
use Rattle.generator.specs.declared.draws.Shape.{Shape}
use Rattle.generator.specs.declared.draws.Shape.TheVariants.{Constant, Sum, Xor, Product, Branch, Store, Load, Byte}

-- ---- the sequence

-- the state after a state
abbrev pub next : ℕ → ℕ
next s = (s * 6364136223846793005 + 1442695040888963407) % 2 ^ 64

-- what a state draws: its upper 31 bits
abbrev pub top : ℕ → ℕ
top s = s / 2 ^ 33

-- the state before the instruction of that number, each of which takes two draws; the first state is the listing's number
abbrev pub before : ℕ → ℕ → ℕ
before number zero = number
before number (suc i) = next (next (before number i))

-- ---- what is drawn

abbrev pub shape_of : ℕ → Shape
shape_of n = if n == 0 then Constant
    else (if n == 1 then Sum
    else (if n == 2 then Xor
    else (if n == 3 then Product
    else (if n == 4 then Branch
    else (if n == 5 then Store
    else (if n == 6 then Load else Byte))))))

-- By the two draws of an instruction: the first one has both registers and the shape, the second one is the word.
abbrev pub drawn : ℕ → ℕ → Drawn
drawn r t = record { shape = shape_of (r / 64 % 8); first = r % 8; second = r / 8 % 8; word = t }

abbrev pub drawn_after : ℕ → Drawn
drawn_after s = drawn (top (next s)) (top (next (next s)))

-- what is drawn for the instruction i of the listing with this number
abbrev pub drawn_at : ℕ → ℕ → Drawn
drawn_at number i = drawn_after (before number i)
