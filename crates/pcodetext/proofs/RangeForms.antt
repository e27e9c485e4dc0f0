-- Ranges that lines write: the number of a known space, an offset of at most 16 hexadecimal digits, and a size of at most
-- five decimal ones.
use Rattle.std.proofs.Common.{◌<◌, ◌^◌, ℕ, Bool, true, false, List, [], ◌∷◌, length, map}
use Rattle.std.specs.Prelude.{codes, Option, Some, None, IfSome, if◌then◌else◌}
use Rattle.std.specs.List.{AllByRecursion}
use Rattle.std.specs.Str.{bytes_eq}
use Rattle.listing_lines.specs.Text.{Line, parts_of}
use Rattle.listing_lines.specs.Tokens.{decimal_of, hexadecimal_of, is_name}
use Rattle.listing_lines.proofs.Numbers.{decimal_small, hexadecimal_small}
use Rattle.pcode_model.specs.declared.listing.Space.{Space}
use Rattle.pcodetext.specs.declared.written.Named.{Named}
use Rattle.pcodetext.specs.declared.written.Named.TheVariants as named
use Rattle.pcodetext.specs.declared.written.Written.{Written}
use Rattle.pcodetext.specs.Tables.{place_in, space_name}
use Rattle.pcodetext.specs.Written.{named_by, numbered, range_by, range_of, ranges_of, with_first, written}
use Rattle.pcodetext.proofs.FormIs.{IsAmong, IsWritten, named_small}

numbered_small : (n : ℕ) (o : Option ℕ) → IfSome o (λ k. k < n) → IsAmong n (numbered o)
numbered_small n None h = tt
numbered_small n (Some k) h = h

space_small : (spaces : List Space) (name : Line) → IsAmong (length spaces) (named_by spaces name)
space_small spaces name = by_name (bytes_eq name (codes "stack"))
  where
    by_name : (t : Bool)
        → IsAmong (length spaces) (if t then named.Stack else numbered (place_in name (map space_name spaces)))
    by_name true = tt
    by_name false = numbered_small (length spaces) _ (named_small space_name name spaces)

written_small : (n : ℕ) (space : Named) (offset size : Option ℕ)
    → IsAmong n space
    → IfSome offset (λ o. o < 16 ^ 16)
    → IfSome size (λ k. k < 10 ^ 5)
    → IfSome (written space offset size) (IsWritten n)
written_small n space None size h below few = tt
written_small n space (Some o) None h below few = tt
written_small n space (Some o) (Some k) h below few = record { space = h; offset = below; size = few }

pub range_small : (spaces : List Space) (part : Line) → IfSome (range_of spaces part) (IsWritten (length spaces))
range_small spaces part = by_parts (parts_of 58 part)
  where
    by_name : (t : Bool) (name offset size : Line)
        → IfSome (if t then written (named_by spaces name) (hexadecimal_of offset) (decimal_of size) else None)
        (IsWritten (length spaces))
    by_name true name offset size =
        written_small (length spaces) _ (hexadecimal_of offset) (decimal_of size) (space_small spaces name)
        (hexadecimal_small offset) (decimal_small size)
    by_name false name offset size = tt

    by_parts : (parts : List Line) → IfSome (range_by spaces parts) (IsWritten (length spaces))
    by_parts [] = tt
    by_parts (a ∷ []) = tt
    by_parts (a ∷ b ∷ []) = tt
    by_parts (a ∷ b ∷ c ∷ []) = by_name (is_name a) a b c
    by_parts (a ∷ b ∷ c ∷ d ∷ parts) = tt

pub ranges_small : (spaces : List Space) (parts : List Line)
    → IfSome (ranges_of spaces parts) (AllByRecursion (IsWritten (length spaces)))
ranges_small spaces [] = tt
ranges_small spaces (part ∷ parts) =
    joined (range_of spaces part) (ranges_of spaces parts) (range_small spaces part) (ranges_small spaces parts)
  where
    joined : (o : Option Written) (more : Option (List Written))
        → IfSome o (IsWritten (length spaces))
        → IfSome more (AllByRecursion (IsWritten (length spaces)))
        → IfSome (with_first o more) (AllByRecursion (IsWritten (length spaces)))
    joined None more h g = tt
    joined (Some w) None h g = tt
    joined (Some w) (Some ws) h g = (h, g)
