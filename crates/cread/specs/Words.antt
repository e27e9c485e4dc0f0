-- Reading from left to right: words, numbers, names and rows of things. A reader takes more than the texts of valid trees,
-- since what is read is checked and printed afterwards.
use Rattle.std.specs.Prelude.{◌≡◌, ℕ, zero, suc, ◌+◌, ◌*◌, ◌%◌, ◌^◌, ◌==◌, Bool, if◌then◌else◌, List, [], ◌∷◌, ◌++◌, take, drop, Option, Some, None, Result, Ok, Err}
use Rattle.std.specs.Char.{digit_value, is_digit}
use Rattle.listing_lines.specs.Tokens.{is_name_byte}
use Rattle.cread.specs.declared.item.CFault.{CFault}
use Rattle.cread.specs.declared.item.CFault.TheVariants.{NotC, Memory}

infixl 10 ◌>>=◌
abbrev pub ◌>>=◌ : {A B : Type 0} → Option A → (A → Option B) → Option B
None >>= f = None
(Some x) >>= f = f x

-- What a function returned, seen by view, is what reading gives, unless memory ran out.
abbrev pub Fails : {Y : Type 0} → CFault → Option Y → Type 0
Fails NotC read = read ≡ None
Fails Memory read = Unit {0}

abbrev pub Gives : {X Y : Type 0} → (X → Y) → Result X CFault → Option Y → Type 0
Gives view (Ok x) read = read ≡ Some (view x)
Gives view (Err e) read = Fails e read

-- what is read behind a word, or else without it
abbrev pub chosen : {A B : Type 0} → Option A → (A → B) → B → B
chosen None f other = other
chosen (Some x) f other = f x

-- ---- words, spaces and names

-- what follows a word
unfoldable pub after : List ℕ → List ℕ → Option (List ℕ)
after [] bs = Some bs
after (w ∷ ws) [] = None
after (w ∷ ws) (b ∷ bs) = if w == b then after ws bs else None

-- something up to a word
abbrev pub ended : {A : Type 0} → List ℕ → A × List ℕ → Option (A × List ℕ)
ended word x = after word x.1 >>= λ rest. Some (x.0, rest)

abbrev pub or_else : List ℕ → Option (List ℕ) → List ℕ
or_else bs None = bs
or_else bs (Some rest) = rest

-- how many bytes of a kind stand at the front
unfoldable pub run_of : (ℕ → Bool) → List ℕ → ℕ
run_of p [] = 0
run_of p (b ∷ bs) = if p b then suc (run_of p bs) else 0

abbrev pub is_space : ℕ → Bool
is_space b = b == 32

-- behind the spaces at the front
unfoldable pub past_spaces : List ℕ → List ℕ
past_spaces bs = drop (run_of is_space bs) bs

-- the letters and digits at the front, and what follows them
unfoldable pub name_at : List ℕ → List ℕ × List ℕ
name_at bs = (take (run_of is_name_byte bs) bs, drop (run_of is_name_byte bs) bs)

-- ---- numbers

-- the number that digits at the front add to n, modulo 2 ^ 128
unfoldable pub number_from : ℕ → ℕ → List ℕ → ℕ × List ℕ
number_from radix n [] = (n, [])
number_from radix n (b ∷ bs) = if is_digit b radix then number_from radix ((n * radix + digit_value b) % 2 ^ 128) bs
    else (n, b ∷ bs)

unfoldable pub decimal_at : List ℕ → ℕ × List ℕ
decimal_at bs = number_from 10 0 bs

unfoldable pub hex_at : List ℕ → ℕ × List ℕ
hex_at bs = number_from 16 0 bs

-- ---- rows of things

abbrev pub put_first : {A : Type 0} → A → List A × List ℕ → List A × List ℕ
put_first x xs = (x ∷ xs.0, xs.1)

-- behind the things that stand already
abbrev pub behind : {A : Type 0} → List A → List A × List ℕ → List A × List ℕ
behind front xs = (front ++ xs.0, xs.1)

-- as many things as stand in a row, at most so many
unfoldable pub many_by : {A : Type 0} → (List ℕ → Option (A × List ℕ)) → ℕ → List ℕ → List A × List ℕ
many_by item zero bytes = ([], bytes)
many_by item (suc k) bytes = chosen (item bytes) (λ x. put_first x.0 (many_by item k x.1)) ([], bytes)
