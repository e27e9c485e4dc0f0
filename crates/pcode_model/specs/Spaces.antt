-- The spaces of a listing, and bytes by space and offset. This project's own, after the address spaces of the
-- P-Code Reference Manual.
use Rattle.std.specs.Prelude.{ℕ, zero, suc, ◌+◌, ◌-◌, ◌^◌, ◌==◌, ◌&&◌, nat_le, nat_lt, Bool, true, false, if◌then◌else◌, List, [], ◌∷◌, length, slice_get, Option, Some, None}
use Rattle.pcode_model.specs.declared.listing.SpaceKind.{SpaceKind}
use Rattle.pcode_model.specs.declared.listing.SpaceKind.TheVariants.{Constant, Ram, Register, Unique}
use Rattle.pcode_model.specs.declared.listing.Space.{Space}
use Rattle.pcode_model.specs.declared.listing.Fixed.{Fixed}
use Rattle.pcode_model.specs.declared.listing.Listing.{Listing}

-- ---- the spaces by their numbers; a number past the last one is read as the constant space

abbrev pub kind_in : Option Space → SpaceKind
kind_in None = Constant
kind_in (Some s) = s.kind

abbrev pub kind_of : Listing → ℕ → SpaceKind
kind_of l n = kind_in (slice_get l.spaces n)

abbrev pub size_in : Option Space → ℕ
size_in None = 1
size_in (Some s) = 256 ^ s.size

-- how many bytes the space has
abbrev pub size_of : Listing → ℕ → ℕ
size_of l n = size_in (slice_get l.spaces n)

abbrev pub offset_bytes_in : Option Space → ℕ
offset_bytes_in None = 0
offset_bytes_in (Some s) = s.size

abbrev pub big_in : Option Space → Bool
big_in None = false
big_in (Some s) = s.big

-- whether the byte at a word's offset is its most significant one
abbrev pub is_big : Listing → ℕ → Bool
is_big l n = big_in (slice_get l.spaces n)

abbrev pub word_in : Option Space → ℕ
word_in None = 1
word_in (Some s) = s.word

-- the bytes of a word of the space, which the offset of a LOAD or STORE counts
abbrev pub word_size : Listing → ℕ → ℕ
word_size l n = word_in (slice_get l.spaces n)

abbrev pub same_kind : SpaceKind → SpaceKind → Bool
same_kind Constant Constant = true
same_kind Ram Ram = true
same_kind Register Register = true
same_kind Unique Unique = true
same_kind j k = false

-- the number of the first space of a kind
abbrev pub number_of : SpaceKind → List Space → ℕ
number_of k [] = 0
number_of k (s ∷ rest) = if same_kind k s.kind then 0 else suc (number_of k rest)

abbrev pub first_ram : Listing → ℕ
first_ram l = number_of Ram l.spaces

abbrev pub register_space : Listing → ℕ
register_space l = number_of Register l.spaces

abbrev pub unique_space : Listing → ℕ
unique_space l = number_of Unique l.spaces

-- the bytes of an offset in the first ram space
abbrev pub address_bytes : List Space → ℕ
address_bytes spaces = offset_bytes_in (slice_get spaces (number_of Ram spaces))

-- ---- bytes of a space, whose offsets go on at 0 past its last one

-- the next offset in a space of so many bytes
abbrev pub next : ℕ → ℕ → ℕ
next size o = if suc o == size then 0 else suc o

-- so many bytes from an offset on
abbrev pub bytes_at : {A : Type 0} → ℕ → (ℕ → A) → ℕ → ℕ → List A
bytes_at size f o zero = []
bytes_at size f o (suc k) = f o ∷ bytes_at size f (next size o) k

abbrev pub or : Bool → Bool → Bool
or true b = true
or false b = b

-- whether a test holds of one of so many offsets from this one on
abbrev pub any_at : ℕ → (ℕ → Bool) → ℕ → ℕ → Bool
any_at size f o zero = false
any_at size f o (suc k) = or (f o) (any_at size f (next size o) k)

-- the function with another value at one argument
abbrev pub put : {A : Type 0} → (ℕ → A) → ℕ → A → ℕ → A
put f x v y = if y == x then v else f y

-- the bytes by space and offset with another byte at one place
abbrev pub put_in : {A : Type 0} → ℕ → ℕ → A → (ℕ → ℕ → A) → ℕ → ℕ → A
put_in s o v f t p = if t == s && p == o then v else f t p

-- a change of one byte, made for each byte of a list from an offset on
abbrev pub each_at : {A W : Type 0} → ℕ → (ℕ → A → W → W) → ℕ → List A → W → W
each_at size change o [] w = w
each_at size change o (b ∷ bs) w = each_at size change (next size o) bs (change o b w)

-- ---- read-only bytes

abbrev pub fixed_in : List Fixed → ℕ → ℕ → Option ℕ
fixed_in [] s o = None
fixed_in (f ∷ rest) s o = if f.space == s && (nat_le f.offset o && nat_lt o (f.offset + length f.bytes)) then slice_get f.bytes (o - f.offset) else fixed_in rest s o

-- the byte that the listing's `bytes` lines give this offset of this space
abbrev pub fixed_byte : Listing → ℕ → ℕ → Option ℕ
fixed_byte l s o = fixed_in l.fixed s o

abbrev pub is_some : {A : Type 0} → Option A → Bool
is_some None = false
is_some (Some x) = true

abbrev pub is_fixed : Listing → ℕ → ℕ → Bool
is_fixed l s o = is_some (fixed_byte l s o)
