-- Ranges, places and names are read back from their canonical text.
use Rattle.std.proofs.Common.{◌≡◌, ◌∙◌, ◌<◌, ◌+◌, ◌%◌, ◌^◌, ℕ, suc, Bool, true, false, List, [], ◌∷◌, ◌++◌, map, ap, sym, refl, arith, subst, append_assoc}
use Rattle.std.proofs.Math.Nat.{mod-mod}
use Rattle.std.specs.Prelude.{◌==◌, codes, decimal, Option, Some, None, IfSome, if◌then◌else◌, slice_get}
use Rattle.std.specs.Fmt.{digits}
use Rattle.std.specs.List.{list_all}
use Rattle.std.specs.Option.{option_map}
use Rattle.std.specs.Str.{bytes_eq}
use Rattle.std.proofs.lemmas.Bool.Decides.{nat_tests}
use Rattle.std.proofs.lemmas.Slice.Eq.{bytes_eq-Decides}
use Rattle.std.proofs.lemmas.Bool.{and_parts, not-false}
use Rattle.listing_lines.specs.Text.{Line, parts_of}
use Rattle.listing_lines.specs.Tokens.{decimal_of, hexadecimal_of, is_letter, is_name, is_name_byte}
use Rattle.listing_lines.proofs.Numbers.{decimal_small, hexadecimal_small}
use Rattle.listing_print.specs.Printed as printed
use Rattle.listing_print.specs.Printed.{hexadecimal, name_of, place_part, range_part, sized_part, storage_part}
use Rattle.pcode_model.specs.declared.listing.Space.{Space}
use Rattle.pcode_model.specs.declared.listing.Proto.{Proto}
use Rattle.pcodetext.specs.declared.written.Named.{Named}
use Rattle.pcodetext.specs.declared.written.Named.TheVariants as named
use Rattle.pcodetext.specs.declared.written.Written.{Written}
use Rattle.pcode_model.specs.declared.listing.SpaceKind.{SpaceKind}
use Rattle.pcode_model.specs.declared.listing.SpaceKind.TheVariants.{Register}
use Rattle.pcode_model.specs.WellFormed.{AreSpaces}
use Rattle.pcodetext.specs.Checks.{is_of_kind, is_unknown, of_unknown}
use Rattle.pcodetext.specs.ProtoLine.{is_no_argument, is_other, of_no_argument, of_other, storage_of}
use Rattle.pcodetext.specs.Convert.{number, reduced, varnode}
use Rattle.pcodetext.proofs.Passing.{never}
use Rattle.pcodetext.specs.Tables.{place_from, place_in, proto_name, space_name}
use Rattle.pcodetext.specs.Written.{named_by, numbered, place_by, place_of, placed, range_by, range_of, written}
use Rattle.listing_again.proofs.Cuts.{IsPart, IsToken, all_append, one_token, token_is_part, token_then}
use Rattle.listing_again.proofs.Numbers.{decimal_back, decimal_token, hexadecimal_back, hexadecimal_token}
use Rattle.pcodetext.proofs.Ranges.{reduced_le, register_kind, register_offset}

-- ---- names

letter_token : (b : ℕ) → is_letter b ≡ true → (32 < b) × ((b == 58) ≡ false)
letter_token b h = (grind (arith, nat_tests), grind (arith, nat_tests))

name_byte_token : (b : ℕ) → is_name_byte b ≡ true → (32 < b) × ((b == 58) ≡ false)
name_byte_token b h = (grind (arith, nat_tests), grind (arith, nat_tests))

name_bytes_token : (bytes : Line) → list_all is_name_byte bytes ≡ true → IsToken bytes
name_bytes_token [] h = tt
name_bytes_token (b ∷ bytes) h =
    let both = and_parts (is_name_byte b) (list_all is_name_byte bytes) h in
    (name_byte_token b both.0, name_bytes_token bytes both.1)

pub name_token : (name : Line) → is_name name ≡ true → IsToken name
name_token [] h = tt
name_token (b ∷ bytes) h =
    let both = and_parts _ _ h in (letter_token b both.0, name_bytes_token bytes (and_parts _ _ both.1).1)

-- what stands at a place that was found
found_from : {A : Type 0} (f : A → Line) (name : Line) (xs : List A) (k : ℕ)
    → IfSome (place_from k name (map f xs)) (λ n. (m : ℕ) × ((n ≡ k + m) × (option_map f (slice_get xs m) ≡ Some name)))
found_from f name [] k = tt
found_from f name (x ∷ xs) k =
    by_name (bytes_eq (f x) name) refl (place_from (k + 1) name (map f xs)) (found_from f name xs (k + 1))
  where
    later : (o : Option ℕ) → IfSome o (λ n. (m : ℕ) × ((n ≡ k + 1 + m) × (option_map f (slice_get xs m) ≡ Some name)))
        → IfSome o (λ n. (m : ℕ) × ((n ≡ k + m) × (option_map f (slice_get (x ∷ xs) m) ≡ Some name)))
    later None h = tt
    later (Some n) h = (suc h.0, (omega (arith, h.1.0), h.1.1))

    by_name : (t : Bool)
        → bytes_eq (f x) name ≡ t
        → (o : Option ℕ)
        → IfSome o (λ n. (m : ℕ) × ((n ≡ k + 1 + m) × (option_map f (slice_get xs m) ≡ Some name)))
        → IfSome (if t then Some k else o)
        (λ n. (m : ℕ) × ((n ≡ k + m) × (option_map f (slice_get (x ∷ xs) m) ≡ Some name)))
    by_name true e o h = (0, (omega arith, ap Some ((bytes_eq-Decides (f x) name).0 e)))
    by_name false e o h = later o h

pub found : {A : Type 0} (f : A → Line) (name : Line) (xs : List A)
    → IfSome (place_in name (map f xs)) (λ n. option_map f (slice_get xs n) ≡ Some name)
found f name xs = here (place_in name (map f xs)) (found_from f name xs 0)
  where
    here : (o : Option ℕ)
        → IfSome o (λ n. (m : ℕ) × ((n ≡ 0 + m) × (option_map f (slice_get xs m) ≡ Some name)))
        → IfSome o (λ n. option_map f (slice_get xs n) ≡ Some name)
    here None h = tt
    here (Some n) h =
        let same : h.0 ≡ n = omega (arith, h.1.0) in
        subst (λ (m : ℕ). option_map f (slice_get xs m) ≡ Some name) same h.1.1

space_of : (o : Option Space) (name : Line) → option_map space_name o ≡ Some name → printed.space_name o ≡ name
space_of None name h = cc
space_of (Some s) name h = cc

proto_of : (o : Option Proto) (name : Line) → option_map proto_name o ≡ Some name → printed.proto_name o ≡ name
proto_of None name h = cc
proto_of (Some p) name h = cc

-- the space's name stands for it
abbrev pub IsSpelled : List Space → Named → Type 0
IsSpelled spaces (named.Space n) =
    (is_name (name_of spaces n) ≡ true) × (named_by spaces (name_of spaces n) ≡ named.Space n)
IsSpelled spaces named.Stack = Unit {0}
IsSpelled spaces named.Unknown = Unit {0}

pub spelled : (spaces : List Space) (name : Line) → is_name name ≡ true → IsSpelled spaces (named_by spaces name)
spelled spaces name is =
    by_stack (bytes_eq name (codes "stack")) refl (place_in name (map space_name spaces)) refl
    (found space_name name spaces)
  where
    by_stack : (t : Bool)
        → bytes_eq name (codes "stack") ≡ t
        → (o : Option ℕ)
        → place_in name (map space_name spaces) ≡ o
        → IfSome o (λ n. option_map space_name (slice_get spaces n) ≡ Some name)
        → IsSpelled spaces (if t then named.Stack else numbered o)
    by_stack true e o q h = tt
    by_stack false e None q h = tt
    by_stack false e (Some n) q h =
        let same : name_of spaces n ≡ name = space_of (slice_get spaces n) name h in
        let known : named_by spaces name ≡ named.Space n =
        ap (λ (t : Bool). if t then named.Stack else numbered (place_in name (map space_name spaces))) e
        ∙ ap numbered q in
        (ap is_name same ∙ is, ap (named_by spaces) same ∙ known)

-- a prototype's name stands for its number
pub record IsCalled (protos : List Proto) (n : ℕ) : Type 0 where
  pub name : is_name (printed.proto_name (slice_get protos n)) ≡ true
  pub known : place_in (printed.proto_name (slice_get protos n)) (map proto_name protos) ≡ Some n

pub called : (protos : List Proto) (name : Line)
    → is_name name ≡ true
    → IfSome (place_in name (map proto_name protos)) (IsCalled protos)
called protos name is = by_place (place_in name (map proto_name protos)) refl (found proto_name name protos)
  where
    by_place : (o : Option ℕ)
        → place_in name (map proto_name protos) ≡ o
        → IfSome o (λ n. option_map proto_name (slice_get protos n) ≡ Some name)
        → IfSome o (IsCalled protos)
    by_place None q h = tt
    by_place (Some n) q h =
        let same : printed.proto_name (slice_get protos n) ≡ name = proto_of (slice_get protos n) name h in
        record { name = ap is_name same ∙ is; known = ap (λ (x : Line). place_in x (map proto_name protos)) same ∙ q }

-- ---- ranges

pub record IsRange (spaces : List Space) (w : Written) : Type 0 where
  pub space : IsSpelled spaces w.space
  pub offset : w.offset < 16 ^ 16
  pub size : w.size < 10 ^ 5

written_is : (spaces : List Space) (space : Named) (offset size : Option ℕ)
    → IsSpelled spaces space
    → IfSome offset (λ n. n < 16 ^ 16)
    → IfSome size (λ n. n < 10 ^ 5)
    → IfSome (written space offset size) (IsRange spaces)
written_is spaces space None size s h g = tt
written_is spaces space (Some o) None s h g = tt
written_is spaces space (Some o) (Some n) s h g = record { space = s; offset = h; size = g }

range_by_is : (spaces : List Space) (parts : List Line) → IfSome (range_by spaces parts) (IsRange spaces)
range_by_is spaces [] = tt
range_by_is spaces (a ∷ []) = tt
range_by_is spaces (a ∷ b ∷ []) = tt
range_by_is spaces (a ∷ b ∷ c ∷ []) = by_name (is_name a) refl
  where
    by_name : (t : Bool)
        → is_name a ≡ t
        → IfSome (if t then written (named_by spaces a) (hexadecimal_of b) (decimal_of c) else None) (IsRange spaces)
    by_name true e =
        written_is spaces (named_by spaces a) (hexadecimal_of b) (decimal_of c) (spelled spaces a e)
        (hexadecimal_small b) (decimal_small c)
    by_name false e = tt
range_by_is spaces (a ∷ b ∷ c ∷ d ∷ parts) = tt

pub range_is : (spaces : List Space) (part : Line) → IfSome (range_of spaces part) (IsRange spaces)
range_is spaces part = range_by_is spaces (parts_of 58 part)

sized_is : (name : Line) (offset size : ℕ)
    → sized_part name offset size ≡ name ++ 58 ∷ (hexadecimal offset ++ 58 ∷ decimal size)
sized_is name offset size =
    append_assoc (name ++ codes ":0x" ++ digits 16 false offset) (codes ":") (decimal size)
    ∙ append_assoc (name ++ codes ":0x") (digits 16 false offset) (58 ∷ decimal size)
    ∙ append_assoc name (codes ":0x") (digits 16 false offset ++ 58 ∷ decimal size)

place_part_to : (name : Line) (offset : ℕ) → place_part name offset ≡ name ++ 58 ∷ hexadecimal offset
place_part_to name offset = append_assoc name (codes ":0x") (digits 16 false offset)

-- a range of that name
pub sized_back : (spaces : List Space) (name : Line) (offset size : ℕ)
    → is_name name ≡ true
    → offset < 16 ^ 16
    → size < 10 ^ 5
    → range_of spaces (sized_part name offset size)
    ≡ Some (record { space = named_by spaces name; offset = offset; size = size })
sized_back spaces name offset size is far long =
    let cut : parts_of 58 (sized_part name offset size) ≡ name ∷ hexadecimal offset ∷ decimal size ∷ [] =
    ap (parts_of 58) (sized_is name offset size)
    ∙ token_then name (hexadecimal offset ++ 58 ∷ decimal size) (name_token name is)
    ∙ ap (λ (r : List Line). name ∷ r) (token_then (hexadecimal offset) (decimal size) (hexadecimal_token offset far)
    ∙ ap (λ (r : List Line). hexadecimal offset ∷ r) (one_token (decimal size) (decimal_token size long))) in
    ap (range_by spaces) cut
    ∙ ap
    (λ (t : Bool).
    if t then written (named_by spaces name) (hexadecimal_of (hexadecimal offset)) (decimal_of (decimal size))
    else None) is
    ∙ ap (λ (o : Option ℕ). written (named_by spaces name) o (decimal_of (decimal size))) (hexadecimal_back offset far)
    ∙ ap (written (named_by spaces name) (Some offset)) (decimal_back size long)

sized_part_is : (name : Line) (offset size : ℕ)
    → is_name name ≡ true
    → offset < 16 ^ 16
    → size < 10 ^ 5
    → IsPart (sized_part name offset size)
sized_part_is name offset size is far long =
    let last : IsPart (58 ∷ decimal size) = (omega arith, token_is_part (decimal size) (decimal_token size long)) in
    let more : IsPart (hexadecimal offset ++ 58 ∷ decimal size) =
    all_append (λ b. 32 < b) (hexadecimal offset) (58 ∷ decimal size)
    (token_is_part (hexadecimal offset) (hexadecimal_token offset far)) last in
    subst IsPart (sym (sized_is name offset size))
    (all_append (λ b. 32 < b) name (58 ∷ (hexadecimal offset ++ 58 ∷ decimal size))
    (token_is_part name (name_token name is)) (omega arith, more))

-- ---- places

placed_is : (spaces : List Space) (space : Named) (offset : Option ℕ)
    → IsSpelled spaces space
    → IfSome offset (λ n. n < 16 ^ 16)
    → IfSome (placed space offset) (λ p. IsSpelled spaces p.0 × (p.1 < 16 ^ 16))
placed_is spaces space None s h = tt
placed_is spaces space (Some o) s h = (s, h)

place_by_is : (spaces : List Space) (parts : List Line)
    → IfSome (place_by spaces parts) (λ p. IsSpelled spaces p.0 × (p.1 < 16 ^ 16))
place_by_is spaces [] = tt
place_by_is spaces (a ∷ []) = tt
place_by_is spaces (a ∷ b ∷ []) = by_name (is_name a) refl
  where
    by_name : (t : Bool)
        → is_name a ≡ t
        → IfSome (if t then placed (named_by spaces a) (hexadecimal_of b) else None)
        (λ p. IsSpelled spaces p.0 × (p.1 < 16 ^ 16))
    by_name true e = placed_is spaces (named_by spaces a) (hexadecimal_of b) (spelled spaces a e) (hexadecimal_small b)
    by_name false e = tt
place_by_is spaces (a ∷ b ∷ c ∷ parts) = tt

pub place_is : (spaces : List Space) (part : Line)
    → IfSome (place_of spaces part) (λ p. IsSpelled spaces p.0 × (p.1 < 16 ^ 16))
place_is spaces part = place_by_is spaces (parts_of 58 part)

pub place_back : (spaces : List Space) (name : Line) (offset : ℕ)
    → is_name name ≡ true
    → offset < 16 ^ 16
    → place_of spaces (place_part name offset) ≡ Some (named_by spaces name, offset)
place_back spaces name offset is far =
    let cut : parts_of 58 (place_part name offset) ≡ name ∷ hexadecimal offset ∷ [] =
    ap (parts_of 58) (place_part_to name offset)
    ∙ token_then name (hexadecimal offset) (name_token name is)
    ∙ ap (λ (r : List Line). name ∷ r) (one_token (hexadecimal offset) (hexadecimal_token offset far)) in
    ap (place_by spaces) cut
    ∙ ap (λ (t : Bool). if t then placed (named_by spaces name) (hexadecimal_of (hexadecimal offset)) else None) is
    ∙ ap (placed (named_by spaces name)) (hexadecimal_back offset far)

pub place_part_is : (name : Line) (offset : ℕ)
    → is_name name ≡ true
    → offset < 16 ^ 16
    → IsPart (place_part name offset)
place_part_is name offset is far =
    subst IsPart (sym (place_part_to name offset))
    (all_append (λ b. 32 < b) name (58 ∷ hexadecimal offset) (token_is_part name (name_token name is))
    (omega arith, token_is_part (hexadecimal offset) (hexadecimal_token offset far)))

-- ---- constants

-- the range as the canonical text has it
abbrev pub canonical : Written → Written
canonical w = record { space = w.space; offset = reduced (number w.space) w.offset w.size; size = w.size }

reduced_twice : (n offset size : ℕ) → reduced n (reduced n offset size) size ≡ reduced n offset size
reduced_twice n offset size = by_space (n == 0)
  where
    by_space : (t : Bool)
        → (if t then (if t then offset % 256 ^ size else offset) % 256 ^ size else
        (if t then offset % 256 ^ size else offset))
        ≡ (if t then offset % 256 ^ size else offset)
    by_space true = mod-mod offset (256 ^ size)
    by_space false = refl

pub same_varnode : (w : Written) → varnode (canonical w) ≡ varnode w
same_varnode w =
    ap (λ (o : ℕ). record { space = number w.space; offset = o; size = w.size })
    (reduced_twice (number w.space) w.offset w.size)

pub canonical_is : (spaces : List Space) (w : Written) → IsRange spaces w → IsRange spaces (canonical w)
canonical_is spaces w h = record {
  space = h.space;
  offset = omega (arith, reduced_le (number w.space) w.offset w.size, h.offset);
  size = h.size;
}

-- ---- ranges of known spaces

known_back : (spaces : List Space) (space : Named) (offset size : ℕ)
    → is_unknown space ≡ false
    → IsSpelled spaces space
    → offset < 16 ^ 16
    → size < 10 ^ 5
    →
    (range_of spaces (sized_part (name_of spaces (number space)) offset size)
    ≡ Some (record { space = space; offset = offset; size = size }))
    × IsPart (sized_part (name_of spaces (number space)) offset size)
known_back spaces (named.Space n) offset size known s far long = (
  sized_back spaces (name_of spaces n) offset size s.0 far long
      ∙ ap (λ (space : Named). Some (record { space = space; offset = offset; size = size })) s.1,
  sized_part_is (name_of spaces n) offset size s.0 far long,
)
known_back spaces named.Stack offset size known s far long = absurd (never known)
known_back spaces named.Unknown offset size known s far long = absurd (never known)

pub record IsReadBack (spaces : List Space) (text : Line) (w : Written) : Type 0 where
  pub read : range_of spaces text ≡ Some w
  pub part : IsPart text

pub range_back : (spaces : List Space) (w : Written)
    → IsRange spaces w
    → of_unknown w ≡ false
    → IsReadBack spaces (range_part spaces (varnode w)) (canonical w)
range_back spaces w h known =
    let c = canonical_is spaces w h in
    let both =
    known_back spaces w.space (reduced (number w.space) w.offset w.size) w.size known h.space c.offset h.size in
    record { read = both.0; part = both.1 }

known_kind : (kind : SpaceKind) (spaces : List Space) (space : Named)
    → is_of_kind kind spaces space ≡ true
    → is_unknown space ≡ false
known_kind kind spaces (named.Space n) k = refl
known_kind kind spaces named.Stack k = absurd (never (sym k))
known_kind kind spaces named.Unknown k = absurd (never (sym k))

pub register_back : (spaces : List Space) (w : Written)
    → AreSpaces spaces
    → IsRange spaces w
    → is_of_kind Register spaces w.space ≡ true
    → IsReadBack spaces (range_part spaces (varnode w)) w
register_back spaces w a h kind =
    let back = range_back spaces w h (known_kind Register spaces w.space kind) in
    let same : canonical w ≡ w =
    ap (λ (o : ℕ). record { space = w.space; offset = o; size = w.size }) (register_offset spaces a w kind) in
    record { read = back.read ∙ ap Some same; part = back.part }

-- an argument's storage
argument_by : (spaces : List Space) (space : Named) (offset size : ℕ)
    → AreSpaces spaces
    → IsSpelled spaces space
    → offset < 16 ^ 16
    → size < 10 ^ 5
    → is_other spaces space ≡ false → is_no_argument space ≡ false
    → IsReadBack spaces (storage_part spaces (storage_of (record { space = space; offset = offset; size = size })))
    (record { space = space; offset = offset; size = size })
argument_by spaces (named.Space n) offset size a s far long other known =
    register_back spaces (record { space = named.Space n; offset = offset; size = size }) a
    (record { space = s; offset = far; size = long }) (not-false _ other)
argument_by spaces named.Stack offset size a s far long other known =
    record {
      read = sized_back spaces (codes "stack") offset size refl far long;
      part = sized_part_is (codes "stack") offset size refl far long;
    }
argument_by spaces named.Unknown offset size a s far long other known = absurd (never known)

pub argument_back : (spaces : List Space) (w : Written)
    → AreSpaces spaces
    → IsRange spaces w
    → of_other spaces w ≡ false
    → of_no_argument w ≡ false
    → IsReadBack spaces (storage_part spaces (storage_of w)) w
argument_back spaces w a h other known =
    argument_by spaces w.space w.offset w.size a h.space h.offset h.size other known

pub kept_back : (spaces : List Space) (w : Written)
    → AreSpaces spaces
    → IsRange spaces w
    → of_other spaces w ≡ false
    → of_unknown w ≡ false
    → IsReadBack spaces (range_part spaces (varnode w)) w
kept_back spaces w a h other known = register_back spaces w a h (register_kind spaces w.space other known)

-- a part that is a range is no word
pub not_word : (spaces : List Space) (part word : Line) (w : Written)
    → range_of spaces word ≡ None
    → range_of spaces part ≡ Some w
    → bytes_eq part word ≡ false
not_word spaces part word w none some = by_test (bytes_eq part word) refl
  where
    differ : range_of spaces part ≡ None → ⊥
    differ e = cc

    by_test : (t : Bool) → bytes_eq part word ≡ t → t ≡ false
    by_test true e = absurd (differ (ap (range_of spaces) ((bytes_eq-Decides part word).0 e) ∙ none))
    by_test false e = refl
