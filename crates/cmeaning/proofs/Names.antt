-- The bytes of a name.
use Rattle.std.proofs.Common.{◌≡◌, ◌&&◌, ℕ, true, List, [], ◌∷◌, length, ap, ◌∙◌}
use Rattle.std.specs.Prelude.{◌||◌, nat_le}
use Rattle.std.specs.List.{list_all}
use Rattle.std.proofs.lemmas.Bool.{and_parts}
use Rattle.listing_lines.specs.Tokens.{is_letter, is_name, is_name_byte}

-- All bytes of a name are letters or digits.
pub name_bytes : (name : List ℕ) → is_name name ≡ true → list_all is_name_byte name ≡ true
name_bytes [] h = absurd (cc)
name_bytes (b ∷ bs) h =
    let first = and_parts (is_letter b) (nat_le (length bs) 63 && list_all is_name_byte bs) h in
    let rest = and_parts (nat_le (length bs) 63) (list_all is_name_byte bs) first.1 in
    ap (λ t. (t || (nat_le 48 b && nat_le b 57)) && list_all is_name_byte bs) first.0 ∙ rest.1
