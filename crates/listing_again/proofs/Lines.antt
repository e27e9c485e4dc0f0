-- The canonical line of a form is read as that form.
use Rattle.std.proofs.Common.{◌≡◌, ◌∙◌, ◌<◌, ◌^◌, ℕ, Bool, true, false, List, [], ◌∷◌, ◌++◌, map, ap, sym, refl, append_assoc, subst, rules}
use Rattle.std.specs.Prelude.{◌==◌, codes, decimal, Option, Some, None, IfSome, if◌then◌else◌, slice_get}
use Rattle.std.specs.List.{AllByRecursion}
use Rattle.std.specs.Option.{is_none}
use Rattle.std.proofs.lemmas.Bool.{and_from, not-false, eqb-true}
use Rattle.listing_lines.specs.Text.{Line, parts_of}
use Rattle.listing_lines.specs.Tokens.{bytes_of, decimal_of, is_name}
use Rattle.listing_print.specs.Printed as printed
use Rattle.listing_print.specs.Printed.{at_line, bytes_line, function_line, hexadecimal, kind_word, name_of, order_word, pairs, place_part, range_part, returns_parts, space_line, spaced, stack_line, version_line}
use Rattle.pcode_model.specs.declared.listing.Proto.{Proto}
use Rattle.pcode_model.specs.declared.listing.Space.{Space}
use Rattle.pcode_model.specs.declared.listing.SpaceKind.{SpaceKind}
use Rattle.pcode_model.specs.declared.listing.SpaceKind.TheVariants.{Constant, Ram, Register, Unique}
use Rattle.pcode_model.specs.Spaces.{number_of, same_kind}
use Rattle.pcode_model.specs.WellFormed.{AreSpaces}
use Rattle.pcodetext.specs.declared.partial_listing.PartialListing.{PartialListing}
use Rattle.pcodetext.specs.declared.at_line.AtLine.{AtLine}
use Rattle.pcodetext.specs.declared.bytes_line.BytesLine.{BytesLine}
use Rattle.pcodetext.specs.declared.line_kinds.Form.{Form}
use Rattle.pcodetext.specs.declared.line_kinds.Form.TheVariants as form
use Rattle.pcodetext.specs.declared.function_line.FunctionLine.{FunctionLine}
use Rattle.pcodetext.specs.declared.written.Named.{Named}
use Rattle.pcodetext.specs.declared.written.Named.TheVariants as named
use Rattle.pcodetext.specs.declared.space_line.SpaceLine.{SpaceLine}
use Rattle.pcodetext.specs.declared.written.Written.{Written}
use Rattle.pcodetext.specs.Checks.{is_of_kind}
use Rattle.pcodetext.specs.FunctionLine.{callee_made, func_made, function_made, function_of, is_first_ram, is_misplaced, proto_number, returns_by}
use Rattle.pcodetext.specs.AtLine.{at_made}
use Rattle.pcodetext.specs.BytesLine.{bytes_made}
use Rattle.pcodetext.specs.LineKinds.{form_by, form_of, is_two}
use Rattle.pcodetext.specs.PcodeLine.{pcode_made}
use Rattle.pcodetext.specs.SpaceLine.{kind_of, order_of, space_made, space_of, word_by}
use Rattle.pcodetext.specs.StackLine.{stack_made}
use Rattle.pcodetext.specs.Convert.{number, varnode}
use Rattle.pcodetext.specs.Tables.{place_in, proto_name}
use Rattle.pcodetext.specs.Written.{named_by, place_of}
use Rattle.pcodetext.proofs.Passing.{left_false, never}
use Rattle.listing_again.proofs.Cuts.{IsLine, IsPart, all_append, parts_are, spaced_append, spaced_is_line, token_is_part}
use Rattle.listing_again.proofs.Numbers.{bytes_back, decimal_back, decimal_token, hexadecimal_back, hexadecimal_token, pairs_part}
use Rattle.listing_again.proofs.Ranges.{IsCalled, IsRange, IsSpelled, name_token, place_back, place_part_is, register_back}
use Rattle.listing_again.proofs.Told.{IsBytesTold, IsFunctionTold, IsSpaceTold}

-- a line whose parts are read as a form
pub record IsReadAs (s : PartialListing) (line : Line) (f : Form) : Type 0 where
  pub clean : IsLine line
  pub read : form_of s line ≡ f

pub made_of : (s : PartialListing) (line word : Line) (parts : List Line) (f : Form)
    → line ≡ word ++ spaced parts
    → IsPart word
    → AllByRecursion IsPart parts
    → form_by s (word ∷ parts) ≡ f
    → IsReadAs s line f
made_of s line word parts f e h g read = record {
  clean = subst IsLine (sym e) (spaced_is_line parts word h g);
  read = ap (λ (l : Line). form_by s (parts_of 32 l)) e ∙ ap (form_by s) (parts_are parts word h g) ∙ read;
}

pub name_part : (name : Line) → is_name name ≡ true → IsPart name
name_part name is = token_is_part name (name_token name is)

decimal_part : (n : ℕ) → n < 10 ^ 5 → IsPart (decimal n)
decimal_part n small = token_is_part (decimal n) (decimal_token n small)

pub hexadecimal_part : (n : ℕ) → n < 16 ^ 16 → IsPart (hexadecimal n)
hexadecimal_part n small = token_is_part (hexadecimal n) (hexadecimal_token n small)

-- ---- `pcode N`

pub pcode_again : (s : PartialListing) (n : ℕ) → n < 10 ^ 5 → IsReadAs s (version_line n) (form.Pcode n)
pcode_again s n small =
    made_of s _ (codes "pcode") (decimal n ∷ []) _ refl (search rules) (decimal_part n small, tt)
    (ap pcode_made (decimal_back n small))

-- ---- `space`

kind_back : (kind : SpaceKind) → same_kind Constant kind ≡ false → kind_of (kind_word kind) ≡ Some kind
kind_back Constant h = absurd (never h)
kind_back Ram h = refl
kind_back Register h = refl
kind_back Unique h = refl

kind_part : (kind : SpaceKind) → IsPart (kind_word kind)
kind_part Constant = search rules
kind_part Ram = search rules
kind_part Register = search rules
kind_part Unique = search rules

order_back : (big : Bool) → order_of (order_word big) ≡ Some big
order_back true = refl
order_back false = refl

order_part : (big : Bool) → IsPart (order_word big)
order_part true = search rules
order_part false = search rules

-- the version that `space` lines are printed in
abbrev pub version_of : Option ℕ → ℕ
version_of None = 1
version_of (Some version) = version

two_is : (version : Option ℕ) → (version_of version == 2) ≡ is_two version
two_is None = refl
two_is (Some n) = refl

word_parts_by : (two : Bool) (l : SpaceLine)
    → IsSpaceTold two l
    → (AllByRecursion IsPart (if two then decimal l.word ∷ [] else []))
    × (word_by two (if two then decimal l.word ∷ [] else []) ≡ Some l.word)
word_parts_by true l h = ((decimal_part l.word h.word, tt), decimal_back l.word h.word)
word_parts_by false l h = (tt, ap Some (sym (h.one refl)))

pub space_again : (s : PartialListing) (l : SpaceLine)
    → IsSpaceTold (is_two s.version) l
    → IsReadAs s (space_line (version_of s.version) (space_of l)) (form.Space l)
space_again s l h =
    let front : List Line = l.name ∷ kind_word l.kind ∷ decimal l.size ∷ order_word l.big ∷ [] in
    let word : List Line = if is_two s.version then decimal l.word ∷ [] else [] in
    let both = word_parts_by (is_two s.version) l h in
    let line : space_line (version_of s.version) (space_of l) ≡ codes "space" ++ spaced (front ++ word) =
    ap (λ (t : Bool). codes "space" ++ spaced front ++ spaced (if t then decimal l.word ∷ [] else []))
    (two_is s.version)
    ∙ ap (λ (r : Line). codes "space" ++ r) (sym (spaced_append front word)) in
    made_of s _ (codes "space") (front ++ word) _ line (search rules)
    (name_part l.name h.name, (kind_part l.kind, (decimal_part l.size h.size, (order_part l.big, both.0))))
    (ap
    (λ (k : Option SpaceKind).
    space_made l.name k (decimal_of (decimal l.size)) (order_of (order_word l.big))
    (word_by (is_two s.version) word)) (kind_back l.kind h.kind)
    ∙ ap
    (λ (n : Option ℕ).
    space_made l.name (Some l.kind) n (order_of (order_word l.big)) (word_by (is_two s.version) word))
    (decimal_back l.size h.size)
    ∙ ap (λ (b : Option Bool). space_made l.name (Some l.kind) (Some l.size) b (word_by (is_two s.version) word))
    (order_back l.big)
    ∙ ap (space_made l.name (Some l.kind) (Some l.size) (Some l.big)) both.1
    ∙ ap (λ (t : Bool). if t then form.Space l else form.Nothing) h.name)

-- ---- `stack VN`

pub stack_again : (s : PartialListing) (w : Written)
    → AreSpaces s.spaces
    → IsRange s.spaces w
    → is_of_kind Register s.spaces w.space ≡ true
    → IsReadAs s (stack_line s.spaces (varnode w)) (form.Stack w)
stack_again s w a h kind =
    let back = register_back s.spaces w a h kind in
    made_of s _ (codes "stack") (range_part s.spaces (varnode w) ∷ []) _ refl (search rules) (back.part, tt)
    (ap stack_made back.read)

-- ---- `at HEX LENGTH`

pub at_again : (s : PartialListing) (l : AtLine)
    → l.address < 16 ^ 16
    → l.length < 10 ^ 5
    → IsReadAs s (at_line (record { address = l.address; length = l.length; ops = [] })) (form.At l)
at_again s l far long =
    made_of s _ (codes "at") (hexadecimal l.address ∷ decimal l.length ∷ []) _ refl (search rules)
    (hexadecimal_part _ far, (decimal_part _ long, tt))
    (ap (λ (o : Option ℕ). at_made o (decimal_of (decimal l.length))) (hexadecimal_back _ far)
    ∙ ap (at_made (Some l.address)) (decimal_back _ long))

-- ---- `end`

pub end_again : (s : PartialListing) → IsReadAs s (codes "end") form.End
end_again s = made_of s _ (codes "end") [] _ (search rules) (search rules) tt refl

-- ---- `bytes SPACE:HEX PAIRS`

bytes_by : (s : PartialListing) (space : Named) (offset : ℕ) (bytes : List ℕ)
    → is_of_kind Ram s.spaces space ≡ true
    → IsBytesTold s.spaces (record { space = space; offset = offset; bytes = bytes })
    → IsReadAs s (bytes_line s.spaces (record { space = number space; offset = offset; bytes = bytes }))
    (form.Bytes (record { space = space; offset = offset; bytes = bytes }))
bytes_by s (named.Space n) offset bytes kind h =
    made_of s _ (codes "bytes") (place_part (name_of s.spaces n) offset ∷ pairs bytes ∷ []) _ refl (search rules)
    (place_part_is _ offset h.space.0 h.offset, (pairs_part bytes h.bytes, tt))
    (ap (λ (p : Option (Named × ℕ)). bytes_made p (bytes_of (pairs bytes)))
    (place_back s.spaces (name_of s.spaces n) offset h.space.0 h.offset)
    ∙ ap (bytes_made (Some (_, offset))) (bytes_back bytes h.some h.bytes)
    ∙ ap (λ (space : Named). form.Bytes (record { space = space; offset = offset; bytes = bytes })) h.space.1)
bytes_by s named.Stack offset bytes kind h = absurd (never (sym kind))
bytes_by s named.Unknown offset bytes kind h = absurd (never (sym kind))

pub bytes_again : (s : PartialListing) (l : BytesLine) → is_of_kind Ram s.spaces l.space ≡ true → IsBytesTold s.spaces l
    → IsReadAs s (bytes_line s.spaces (record { space = number l.space; offset = l.offset; bytes = l.bytes }))
    (form.Bytes l)
bytes_again s l kind h = bytes_by s l.space l.offset l.bytes kind h

-- ---- `func` and `callee`

-- the parts after the word, but for `noreturn`
abbrev function_parts : List Space → List Proto → Line → ℕ → ℕ → List Line
function_parts spaces protos name address proto =
    name ∷ place_part (name_of spaces (number_of Ram spaces)) address ∷ printed.proto_name (slice_get protos proto) ∷ []

record IsFunctionBack (spaces : List Space) (protos : List Proto) (l : FunctionLine) : Type 0 where
  parts : AllByRecursion IsPart (function_parts spaces protos l.name l.address (proto_number l.proto))
  read : (returns : Option Bool) → returns ≡ Some l.returns
      → function_made protos l.name (printed.proto_name (slice_get protos (proto_number l.proto)))
      (place_of spaces (place_part (name_of spaces (number_of Ram spaces)) l.address)) returns
      ≡ Some l

function_by : (spaces : List Space) (protos : List Proto) (name : Line) (space : Named) (address : ℕ)
    (proto : Option ℕ) (returns : Bool)
    → is_name name ≡ true
    → IsSpelled spaces space
    → address < 16 ^ 16
    → IfSome proto (IsCalled protos) → is_first_ram spaces space ≡ true → is_none proto ≡ false
    → IsFunctionBack spaces protos
    (record { name = name; space = space; address = address; proto = proto; returns = returns })
function_by spaces protos name named.Stack address proto returns n s far c first known = absurd (never (sym first))
function_by spaces protos name named.Unknown address proto returns n s far c first known = absurd (never (sym first))
function_by spaces protos name (named.Space k) address None returns n s far c first known = absurd (never known)
function_by spaces protos name (named.Space k) address (Some p) returns n s far c first known =
    let same : number_of Ram spaces ≡ k = eqb-true _ _ first in
    let is : is_name (name_of spaces (number_of Ram spaces)) ≡ true =
    ap (λ (m : ℕ). is_name (name_of spaces m)) same ∙ s.0 in
    let stands : named_by spaces (name_of spaces (number_of Ram spaces)) ≡ named.Space k =
    ap (λ (m : ℕ). named_by spaces (name_of spaces m)) same ∙ s.1 in
    let called : Line = printed.proto_name (slice_get protos p) in
    record {
      parts = (
        name_part name n,
        (place_part_is (name_of spaces (number_of Ram spaces)) address is far, (name_part called c.name, tt)),
      );
      read =
          λ r e.
          ap
          (function_made protos name called
          (place_of spaces (place_part (name_of spaces (number_of Ram spaces)) address))) e
          ∙ ap (λ (o : Option (Named × ℕ)). function_made protos name called o (Some returns))
          (place_back spaces (name_of spaces (number_of Ram spaces)) address is far)
          ∙ ap
          (λ (t : Bool).
          if t then Some
          (record {
            name = name;
            space = named_by spaces (name_of spaces (number_of Ram spaces));
            address = address;
            proto = place_in called (map proto_name protos);
            returns = returns;
          }) else None) (and_from _ _ n c.name)
          ∙ ap
          (λ (space : Named).
          Some
          (record {
            name = name;
            space = space;
            address = address;
            proto = place_in called (map proto_name protos);
            returns = returns;
          })) stands
          ∙ ap
          (λ (o : Option ℕ).
          Some (record { name = name; space = named.Space k; address = address; proto = o; returns = returns }))
          c.known;
    }

function_back : (spaces : List Space) (protos : List Proto) (l : FunctionLine)
    → IsFunctionTold spaces protos l
    → is_misplaced spaces l ≡ false
    → is_none l.proto ≡ false
    → IsFunctionBack spaces protos l
function_back spaces protos l h placed known =
    function_by spaces protos l.name l.space l.address l.proto l.returns h.name h.space h.address h.proto
    (not-false _ (left_false _ _ placed)) known

function_line_is : (word : Line) (spaces : List Space) (protos : List Proto) (l : FunctionLine)
    → function_line word spaces protos (function_of l)
    ≡ word ++ spaced (function_parts spaces protos l.name l.address (proto_number l.proto) ++ returns_parts l.returns)
function_line_is word spaces protos l =
    append_assoc word (spaced (function_parts spaces protos l.name l.address (proto_number l.proto)))
    (spaced (returns_parts l.returns))
    ∙ ap (λ (r : Line). word ++ r)
    (sym
    (spaced_append (function_parts spaces protos l.name l.address (proto_number l.proto))
    (returns_parts l.returns)))

pub func_again : (s : PartialListing) (l : FunctionLine)
    → IsFunctionTold s.spaces s.protos l
    → l.returns ≡ true
    → is_misplaced s.spaces l ≡ false
    → is_none l.proto ≡ false
    → IsReadAs s (function_line (codes "func") s.spaces s.protos (function_of l)) (form.Func l)
func_again s l h returns placed known =
    let back = function_back s.spaces s.protos l h placed known in
    let parts : List Line = function_parts s.spaces s.protos l.name l.address (proto_number l.proto) in
    let line =
    function_line_is (codes "func") s.spaces s.protos l
    ∙ ap (λ (r : Bool). codes "func" ++ spaced (parts ++ returns_parts r)) returns in
    made_of s _ (codes "func") parts _ line (search rules) back.parts
    (ap func_made (back.read (Some true) (ap Some (sym returns))))

pub callee_again : (s : PartialListing) (l : FunctionLine)
    → IsFunctionTold s.spaces s.protos l
    → (is_two s.version ≡ false → l.returns ≡ true)
    → is_misplaced s.spaces l ≡ false
    → is_none l.proto ≡ false
    → IsReadAs s (function_line (codes "callee") s.spaces s.protos (function_of l)) (form.Callee l)
callee_again s l h returns placed known =
    let back = function_back s.spaces s.protos l h placed known in
    let parts : List Line = function_parts s.spaces s.protos l.name l.address (proto_number l.proto) in
    let line = function_line_is (codes "callee") s.spaces s.protos l in
    let last = ends l.returns (is_two s.version) returns in
    made_of s _ (codes "callee") (parts ++ returns_parts l.returns) _ line (search rules)
    (all_append IsPart parts (returns_parts l.returns) back.parts last.0) (ap callee_made (back.read _ last.1))
  where
    ends : (r two : Bool)
        → (two ≡ false → r ≡ true)
        → AllByRecursion IsPart (returns_parts r) × (returns_by two (returns_parts r) ≡ Some r)
    ends true two h = (tt, refl)
    ends false true h = ((search rules, tt), refl)
    ends false false h = absurd (never (sym (h refl)))
