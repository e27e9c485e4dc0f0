-- Lists of numbers, and links that run along them. This project's own.
use Rattle.std.specs.Prelude.{◌≡◌, ℕ, zero, suc, Bool, true, false, ◌==◌, if◌then◌else◌, List, [], ◌∷◌, ◌⊎◌, Option, Some, None}

-- the number stands in the list
abbrev pub IsIn : ℕ → List ℕ → Type 0
IsIn i [] = ⊥
IsIn i (x ∷ xs) = (i ≡ x) ⊎ IsIn i xs

-- no number stands twice in the list
abbrev pub Apart : List ℕ → Type 0
Apart [] = Unit {0}
Apart (x ∷ xs) = (IsIn x xs → ⊥) × Apart xs

-- the list without the first x
abbrev pub removed : ℕ → List ℕ → List ℕ
removed x [] = []
removed x (y ∷ ys) = (if y == x then ys else y ∷ removed x ys)

-- the first number of the list, or e where it is empty
abbrev pub head_or : List ℕ → Option ℕ → Option ℕ
head_or [] e = e
head_or (x ∷ xs) e = Some x

-- the last number of the list, or b where it is empty
abbrev pub last_or : Option ℕ → List ℕ → Option ℕ
last_or b [] = b
last_or b (x ∷ xs) = last_or (Some x) xs

-- the links lead along the list, from what is before it to what is after it
abbrev pub Chain : (prev next : ℕ → Option ℕ) → Option ℕ → List ℕ → Option ℕ → Type 0
Chain prev next b [] e = Unit {0}
Chain prev next b (x ∷ xs) e = (prev x ≡ b) × (next x ≡ head_or xs e) × Chain prev next (Some x) xs e

-- the first n numbers that the links lead to
abbrev pub follow : (next : ℕ → Option ℕ) → ℕ → Option ℕ → List ℕ
follow next zero at = []
follow next (suc n) None = []
follow next (suc n) (Some x) = x ∷ follow next n (next x)

-- whether two are the same number, or both none
abbrev pub same_key : Option ℕ → Option ℕ → Bool
same_key None None = true
same_key None (Some b) = false
same_key (Some a) None = false
same_key (Some a) (Some b) = a == b

-- a function with another value at one number, if there is one
abbrev pub put_at : {X : Type 0} → Option ℕ → X → (ℕ → X) → ℕ → X
put_at b x f i = (if same_key b (Some i) then x else f i)

-- a function with another value at one key
abbrev pub put_key : {X : Type 0} → Option ℕ → X → (Option ℕ → X) → Option ℕ → X
put_key k x f j = (if same_key k j then x else f j)
