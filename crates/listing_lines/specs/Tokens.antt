-- Names, numbers and bytes as they are written.
use Rattle.std.specs.Prelude.{◌==◌, ◌+◌, ◌*◌, ◌&&◌, ◌||◌, ℕ, Bool, false, List, [], ◌∷◌, length, Option, Some, None, if◌then◌else◌, nat_le}
use Rattle.std.specs.List.{list_all}
use Rattle.std.specs.Option.{option_map}
use Rattle.std.specs.Char.{digit_value, is_digit}
use Rattle.std.specs.Str.Parse.{digits_value}
use Rattle.listing_lines.specs.Text.{Line}

-- `_`, `A` to `Z` and `a` to `z`
abbrev pub is_letter : ℕ → Bool
is_letter b = b == 95 || ((nat_le 65 b && nat_le b 90) || (nat_le 97 b && nat_le b 122))

-- a letter, or `0` to `9`
abbrev pub is_name_byte : ℕ → Bool
is_name_byte b = is_letter b || (nat_le 48 b && nat_le b 57)

-- a letter, then at most 63 letters or digits
abbrev pub is_name : Line → Bool
is_name [] = false
is_name (first ∷ more) = is_letter first && (nat_le (length more) 63 && list_all is_name_byte more)

-- the number that 1 to `most` digits write
abbrev pub number_of : ℕ → ℕ → Line → Option ℕ
number_of radix most digits = if nat_le 1 (length digits) && (nat_le (length digits) most && list_all (λ b. is_digit b radix) digits)
    then Some (digits_value radix digits) else None

-- what `0x` and 1 to 16 hexadecimal digits of either case write
abbrev pub hexadecimal_of : Line → Option ℕ
hexadecimal_of (first ∷ second ∷ digits) = if first == 48 && second == 120 then number_of 16 16 digits else None
hexadecimal_of _ = None

-- more digits than one, of which the first is 0
abbrev pub has_leading_zero : Line → Bool
has_leading_zero (first ∷ second ∷ more) = first == 48
has_leading_zero _ = false

-- what at most 5 decimal digits without a leading zero write
abbrev pub decimal_of : Line → Option ℕ
decimal_of part = if has_leading_zero part then None else number_of 10 5 part

-- the bytes that pairs of hexadecimal digits write, the first digit being the high one
abbrev pub pairs_of : Line → Option (List ℕ)
pairs_of [] = Some []
pairs_of (high ∷ []) = None
pairs_of (high ∷ low ∷ more) = if is_digit high 16 && is_digit low 16
    then option_map (λ bytes. (digit_value high * 16 + digit_value low) ∷ bytes) (pairs_of more) else None

-- the same, of at least one pair
abbrev pub bytes_of : Line → Option (List ℕ)
bytes_of [] = None
bytes_of (b ∷ digits) = pairs_of (b ∷ digits)
