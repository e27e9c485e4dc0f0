-- The line of read-only bytes: what its form has, and that it keeps to the rules.
use Rattle.std.proofs.Common.{◌≡◌, ◌<◌, ◌≤◌, ◌+◌, ℕ, Bool, true, false, List, [], ◌∷◌, ◌++◌, length, sym, arith, eq-eqb}
use Rattle.std.specs.Prelude.{◌==◌, ◌&&◌, nat_le, nat_lt, Option, Some, None, IfSome}
use Rattle.std.specs.List.{AllByRecursion}
use Rattle.std.specs.Option.{is_none}
use Rattle.std.proofs.lemmas.Bool.Decides.{nat_tests}
use Rattle.std.proofs.lemmas.Bool.{ltb-false, not-false}
use Rattle.line_reader.proofs.Faults.{AllFalse, all_false}
use Rattle.listing_lines.specs.Text.{Line}
use Rattle.listing_lines.specs.Tokens.{bytes_of}
use Rattle.listing_lines.proofs.Bytes.{AreBytes, bytes_small}
use Rattle.pcode_model.specs.declared.listing.Fixed.{Fixed}
use Rattle.pcode_model.specs.declared.listing.Space.{Space}
use Rattle.pcode_model.specs.declared.listing.SpaceKind.TheVariants.{Ram}
use Rattle.pcode_model.specs.Ranges.{meets}
use Rattle.pcode_model.specs.WellFormed.{FixedRise, IsFixed}
use Rattle.pcodetext.specs.declared.partial_listing.PartialListing.{PartialListing}
use Rattle.pcodetext.specs.declared.bytes_line.BytesLine.{BytesLine}
use Rattle.pcodetext.specs.declared.line_kinds.Form.TheVariants as form
use Rattle.pcodetext.specs.declared.written.Named.{Named}
use Rattle.pcodetext.specs.declared.written.Named.TheVariants as named
use Rattle.pcodetext.specs.BytesLine.{bytes_faults, bytes_form, bytes_made, fixed_of, is_double, is_late}
use Rattle.pcodetext.specs.Checks.{is_of_kind, leaves_known}
use Rattle.pcodetext.specs.Convert.{number}
use Rattle.pcodetext.specs.Tables.{overlaps, stands_after}
use Rattle.pcodetext.specs.Written.{place_of}
use Rattle.pcodetext.proofs.FormIs.{IsForm, Known}
use Rattle.pcodetext.proofs.Formed.{KeepFixed, Keeps}
use Rattle.pcodetext.proofs.Passing.{all_snoc, left_false, never, not_both, right_false}

-- ---- its form

bytes_made_is : (n : Known) (place : Option (Named × ℕ)) (bytes : Option (List ℕ))
    → IfSome bytes (λ bs. (0 < length bs) × AreBytes bs)
    → IsForm n (bytes_made place bytes)
bytes_made_is n None bytes h = tt
bytes_made_is n (Some p) None h = tt
bytes_made_is n (Some p) (Some b) h = h

pub bytes_form_is : (n : Known) (spaces : List Space) (parts : List Line) → IsForm n (bytes_form spaces parts)
bytes_form_is n spaces [] = tt
bytes_form_is n spaces (a ∷ []) = tt
bytes_form_is n spaces (a ∷ b ∷ []) = bytes_made_is n (place_of spaces a) (bytes_of b) (bytes_small b)
bytes_form_is n spaces (a ∷ b ∷ c ∷ parts) = tt

-- ---- bytes that end before an offset

apart : (o size x more : ℕ) → nat_le o x ≡ false → meets o size x more ≡ false → x + more ≤ o
apart o size x more late double = grind (arith, nat_tests)

module _ (space offset size : ℕ) where
  -- bytes of the space that begin before an offset and share no byte with what stands there end before it
  ends : (f : Fixed)
      → (f.space == space && nat_le offset f.offset) ≡ false
      → (f.space == space && meets offset size f.offset (length f.bytes)) ≡ false
      → f.space ≡ space
      → f.offset + length f.bytes ≤ offset
  ends f late double same = by_test (f.space == space) (eq-eqb f.space space same) late double
    where
      by_test : (t : Bool)
          → t ≡ true
          → (t && nat_le offset f.offset) ≡ false
          → (t && meets offset size f.offset (length f.bytes)) ≡ false
          → f.offset + length f.bytes ≤ offset
      by_test true e l d = apart offset size f.offset (length f.bytes) l d
      by_test false e l d = absurd (never (sym e))

  end_before : (fixed : List Fixed)
      → stands_after fixed space offset ≡ false
      → overlaps fixed space offset size ≡ false
      → AllByRecursion (λ f. f.space ≡ space → f.offset + length f.bytes ≤ offset) fixed
  end_before [] late double = tt
  end_before (f ∷ fixed) late double = (
    ends f (left_false _ _ late) (left_false _ _ double),
    end_before fixed (right_false _ _ late) (right_false _ _ double),
  )

rise_snoc : (fixed : List Fixed) (new : Fixed)
    → FixedRise fixed
    → AllByRecursion (λ f. f.space ≡ new.space → f.offset + length f.bytes ≤ new.offset) fixed
    → FixedRise (fixed ++ new ∷ [])
rise_snoc [] new h p = (tt, tt)
rise_snoc (f ∷ fixed) new h p =
    let Ends : Fixed → Type 0 = λ g. f.space ≡ g.space → f.offset + length f.bytes ≤ g.offset in
    (all_snoc Ends fixed new h.0 p.0, rise_snoc fixed new h.1 p.1)

-- ---- some bytes more

module _ (spaces : List Space) (offset : ℕ) (bytes : List ℕ) where
  abbrev bytes_in : Named → Fixed
  bytes_in space = record { space = number space; offset = offset; bytes = bytes }

  fixed_by : (space : Named)
      → (0 < length bytes) × AreBytes bytes
      → nat_lt 4096 (length bytes) ≡ false
      → is_of_kind Ram spaces space ≡ true
      → leaves_known spaces space offset (length bytes) ≡ false
      → IsFixed spaces (bytes_in space)
  fixed_by (named.Space n) is few kind inside =
      record { kind = kind; some = is.0; few = ltb-false _ _ few; bytes = is.1; inside = inside }
  fixed_by named.Stack is few kind inside = absurd (never (sym kind))
  fixed_by named.Unknown is few kind inside = absurd (never (sym kind))

  rise_more : (fixed : List Fixed) (space : Named)
      → FixedRise fixed
      → is_late fixed space offset ≡ false
      → is_double fixed space offset (length bytes) ≡ false
      → is_of_kind Ram spaces space ≡ true
      → FixedRise (fixed ++ bytes_in space ∷ [])
  rise_more fixed (named.Space n) h late double kind =
      rise_snoc fixed (bytes_in (named.Space n)) h (end_before n offset (length bytes) fixed late double)
  rise_more fixed named.Stack h late double kind = absurd (never (sym kind))
  rise_more fixed named.Unknown h late double kind = absurd (never (sym kind))

keep_fixed : (s : PartialListing) (l : BytesLine)
    → KeepFixed s.spaces s.fixed
    → (0 < length l.bytes) × AreBytes l.bytes
    → AllFalse (bytes_faults s l)
    → KeepFixed s.spaces (s.fixed ++ fixed_of l ∷ [])
keep_fixed s l f is p =
    let kind : is_of_kind Ram s.spaces l.space ≡ true = not-false _ p.1.1.1.1.1.0 in
    let new = fixed_by s.spaces l.offset l.bytes l.space is p.1.1.1.1.0 kind p.1.1.1.1.1.1.0 in
    record {
      formed = all_snoc (IsFixed s.spaces) s.fixed (fixed_of l) f.formed new;
      rising = rise_more s.spaces l.offset l.bytes s.fixed l.space f.rising p.1.0 p.1.1.1.0 kind;
    }

-- ---- it keeps to the rules

pub bytes_keeps : (s : PartialListing) (l : BytesLine) → Keeps s (form.Bytes l)
bytes_keeps s l f is h =
    let p : AllFalse (bytes_faults s l) = all_false (bytes_faults s l) h in
    let opened : is_none s.func ≡ false = left_false _ _ p.0 in
    record {
      version = f.version;
      spaces = f.spaces;
      stack = f.stack;
      protos = f.protos;
      functions = f.functions;
      fixed = keep_fixed s l f.fixed is p;
      code = f.code;
      no_func = f.no_func;
      early = λ z. absurd (not_both s.func opened z);
    }
