-- What a form that is read has, kind by kind: names of their form, a declared space's kind, the number of a known
-- prototype, bytes, the numbers of known spaces, and sizes and lengths of at most five decimal digits.
use Rattle.std.proofs.Common.{◌≡◌, ◌<◌, ◌+◌, ◌^◌, ℕ, Bool, true, false, List, [], ◌∷◌, length, map, arith, refl}
use Rattle.std.specs.Prelude.{Option, Some, None, IfSome, if◌then◌else◌}
use Rattle.std.specs.List.{AllByRecursion}
use Rattle.std.proofs.lemmas.List.{length-map}
use Rattle.std.specs.Str.{bytes_eq}
use Rattle.listing_lines.specs.Text.{Line}
use Rattle.listing_lines.specs.Tokens.{is_name}
use Rattle.listing_lines.proofs.Bytes.{AreBytes}
use Rattle.pcode_model.specs.declared.listing.Proto.{Proto}
use Rattle.pcode_model.specs.declared.listing.Space.{Space}
use Rattle.pcode_model.specs.declared.listing.SpaceKind.TheVariants.{Constant}
use Rattle.pcode_model.specs.Spaces.{same_kind}
use Rattle.pcodetext.specs.declared.partial_listing.PartialListing.{PartialListing}
use Rattle.pcodetext.specs.declared.line_kinds.Form.{Form}
use Rattle.pcodetext.specs.declared.line_kinds.Form.TheVariants as form
use Rattle.pcodetext.specs.declared.function_line.FunctionLine.{FunctionLine}
use Rattle.pcodetext.specs.declared.written.Named.{Named}
use Rattle.pcodetext.specs.declared.written.Named.TheVariants as named
use Rattle.pcodetext.specs.declared.written.Written.{Written}
use Rattle.pcodetext.specs.LineKinds.{is_two}
use Rattle.pcodetext.specs.Tables.{place_from, place_in}

-- what the lines before say of the names of a line: whether they say version 2, and how many spaces and prototypes
pub record Known : Type 0 where
  pub two : Bool
  pub spaces : ℕ
  pub protos : ℕ

abbrev pub known : Bool → List Space → List Proto → Known
known two spaces protos = record { two = two; spaces = length spaces; protos = length protos }

abbrev pub known_of : PartialListing → Known
known_of s = known (is_two s.version) s.spaces s.protos

-- among so many prototypes
abbrev pub NamesProto : ℕ → FunctionLine → Type 0
NamesProto protos l = IfSome l.proto (λ n. n < protos)

abbrev pub IsFunctionLine : ℕ → FunctionLine → Type 0
IsFunctionLine protos l = NamesProto protos l × (is_name l.name ≡ true)

-- among so many spaces, where it is known
abbrev pub IsAmong : ℕ → Named → Type 0
IsAmong spaces (named.Space n) = n < spaces
IsAmong spaces named.Stack = Unit {0}
IsAmong spaces named.Unknown = Unit {0}

-- a range in one of so many spaces, where it is known, at an offset of at most 16 hexadecimal digits, in a size of at most
-- five decimal ones
pub record IsWritten (spaces : ℕ) (w : Written) : Type 0 where
  pub space : IsAmong spaces w.space
  pub offset : w.offset < 16 ^ 16
  pub size : w.size < 10 ^ 5

-- only in version 2 some value is another one than in version 1
abbrev pub IsOneBefore : {A : Type 0} → Bool → A → A → Type 0
IsOneBefore two first a = two ≡ false → a ≡ first

abbrev pub IsForm : Known → Form → Type 0
IsForm n (form.Func l) = IsFunctionLine n.protos l × (l.returns ≡ true)
IsForm n (form.Callee l) = IsFunctionLine n.protos l × IsOneBefore n.two true l.returns
IsForm n (form.Nothing) = Unit {0}
IsForm n (form.Pcode version) = Unit {0}
IsForm n (form.Space l) = (same_kind Constant l.kind ≡ false) × ((is_name l.name ≡ true) × IsOneBefore n.two 1 l.word)
IsForm n (form.Stack w) = IsWritten n.spaces w
IsForm n (form.Proto l) = (is_name l.name ≡ true) × AllByRecursion (IsWritten n.spaces) l.keep
IsForm n (form.Bytes l) = (0 < length l.bytes) × AreBytes l.bytes
IsForm n (form.At l) = l.length < 10 ^ 5
IsForm n (form.Op l) = IfSome l.out (IsWritten n.spaces) × AllByRecursion (IsWritten n.spaces) l.inputs
IsForm n form.End = Unit {0}

pub either : (n : Known) (t : Bool) (x y : Form) → IsForm n x → IsForm n y → IsForm n (if t then x else y)
either n true x y p q = p
either n false x y p q = q

pub when : (n : Known) (t : Bool) (x : Form) → (t ≡ true → IsForm n x) → IsForm n (if t then x else form.Nothing)
when n true x h = h refl
when n false x h = tt

-- ---- a name's place among the names of a list

place_small : (k : ℕ) (name : Line) (names : List Line)
    → IfSome (place_from k name names) (λ n. n < k + length names)
place_small k name [] = tt
place_small k name (known ∷ names) = by_name (bytes_eq known name) (place_small (k + 1) name names)
  where
    wider : (o : Option ℕ)
        → IfSome o (λ n. n < k + 1 + length names)
        → IfSome o (λ n. n < k + length (known ∷ names))
    wider None h = tt
    wider (Some n) h = omega arith

    by_name : (t : Bool)
        → IfSome (place_from (k + 1) name names) (λ n. n < k + 1 + length names)
        → IfSome (if t then Some k else place_from (k + 1) name names) (λ n. n < k + length (known ∷ names))
    by_name true h = omega arith
    by_name false h = wider _ h

pub named_small : {A : Type 0} (f : A → Line) (name : Line) (xs : List A)
    → IfSome (place_in name (map f xs)) (λ n. n < length xs)
named_small f name xs = narrow (place_in name (map f xs)) (place_small 0 name (map f xs))
  where
    narrow : (o : Option ℕ) → IfSome o (λ n. n < 0 + length (map f xs)) → IfSome o (λ n. n < length xs)
    narrow None h = tt
    narrow (Some n) h = omega (arith, length-map xs f)
