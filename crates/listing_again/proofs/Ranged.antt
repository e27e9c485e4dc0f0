-- The lines that have any number of ranges: of prototypes and of operations.
use Rattle.std.proofs.Common.{◌≡◌, ◌∙◌, ℕ, Bool, true, false, List, [], ◌∷◌, ◌++◌, map, ap, sym, refl, append_assoc, subst, rules}
use Rattle.std.specs.Prelude.{◌&&◌, codes, Option, Some, None, IfSome, if◌then◌else◌}
use Rattle.std.specs.List.{AllByRecursion, list_any}
use Rattle.std.specs.Option.{option_map}
use Rattle.std.specs.Str.{bytes_eq}
use Rattle.std.proofs.lemmas.Slice.Eq.{bytes_eq-Decides}
use Rattle.listing_lines.specs.Text.{Line}
use Rattle.listing_lines.specs.Tokens.{hexadecimal_of, is_name}
use Rattle.listing_print.specs.Printed.{hexadecimal, op_line, proto_line, range_part, result_part, spaced, storage_part}
use Rattle.operations.specs.Words.{word_of}
use Rattle.pcode_model.specs.declared.listing.Op.{Op}
use Rattle.pcode_model.specs.declared.listing.Space.{Space}
use Rattle.pcode_model.specs.declared.opcode.Opcode.{Opcode}
use Rattle.pcode_model.specs.WellFormed.{AreSpaces}
use Rattle.pcodetext.specs.declared.partial_listing.PartialListing.{PartialListing}
use Rattle.pcodetext.specs.declared.line_kinds.Form.TheVariants as form
use Rattle.pcodetext.specs.declared.op_line.OpLine.{OpLine}
use Rattle.pcodetext.specs.declared.proto_line.ProtoLine.{ProtoLine}
use Rattle.pcodetext.specs.declared.written.Written.{Written}
use Rattle.pcodetext.specs.Checks.{of_some, of_unknown}
use Rattle.pcodetext.specs.ProtoLine.{is_foreign, is_unknown_proto, of_no_argument, of_other, proto_args, proto_made, proto_of, storage_of}
use Rattle.pcodetext.specs.OpLine.{op_assigned, op_by, op_made}
use Rattle.pcodetext.specs.Convert.{varnode}
use Rattle.operations.specs.Operations.{opcode_of}
use Rattle.pcodetext.specs.Written.{before, range_of, range_or_none, ranges_of, ranges_until, with_first}
use Rattle.pcodetext.proofs.Passing.{left_false, right_false}
use Rattle.listing_again.proofs.Cuts.{IsPart, all_append, spaced_append}
use Rattle.listing_again.proofs.Numbers.{hexadecimal_back}
use Rattle.listing_again.proofs.Ranges.{IsRange, IsReadBack, argument_back, canonical, kept_back, not_word, range_back}
use Rattle.listing_again.proofs.Lines.{IsReadAs, hexadecimal_part, made_of, name_part}
use Rattle.listing_again.proofs.Told.{IsOpTold, IsProtoTold, IsWord}

-- ---- any number of ranges

-- parts that are read as ranges, one by one
abbrev AreReadBack : List Space → List Line → List Written → Type 0
AreReadBack spaces [] [] = Unit {0}
AreReadBack spaces [] (w ∷ ws) = ⊥
AreReadBack spaces (part ∷ parts) [] = ⊥
AreReadBack spaces (part ∷ parts) (w ∷ ws) = IsReadBack spaces part w × AreReadBack spaces parts ws

all_parts : (spaces : List Space) (parts : List Line) (ws : List Written)
    → AreReadBack spaces parts ws
    → AllByRecursion IsPart parts
all_parts spaces [] [] h = tt
all_parts spaces [] (w ∷ ws) h = absurd h
all_parts spaces (part ∷ parts) [] h = absurd h
all_parts spaces (part ∷ parts) (w ∷ ws) h = (h.0.part, all_parts spaces parts ws h.1)

ranges_back : (spaces : List Space) (parts : List Line) (ws : List Written)
    → AreReadBack spaces parts ws
    → ranges_of spaces parts ≡ Some ws
ranges_back spaces [] [] h = refl
ranges_back spaces [] (w ∷ ws) h = absurd h
ranges_back spaces (part ∷ parts) [] h = absurd h
ranges_back spaces (part ∷ parts) (w ∷ ws) h =
    ap (λ (o : Option Written). with_first o (ranges_of spaces parts)) h.0.read
    ∙ ap (with_first (Some w)) (ranges_back spaces parts ws h.1)

same_word : (word : Line) → bytes_eq word word ≡ true
same_word word = (bytes_eq-Decides word word).1 refl

until_back : (word : Line) (rest : List Line) (spaces : List Space)
    → range_of spaces word ≡ None
    → (parts : List Line) (ws : List Written)
    → AreReadBack spaces parts ws
    → ranges_until word spaces (parts ++ word ∷ rest) ≡ Some (ws, rest)
until_back word rest spaces none [] [] h =
    ap (λ (t : Bool). if t then Some ([], rest) else before (range_of spaces word) (ranges_until word spaces rest))
    (same_word word)
until_back word rest spaces none [] (w ∷ ws) h = absurd h
until_back word rest spaces none (part ∷ parts) [] h = absurd h
until_back word rest spaces none (part ∷ parts) (w ∷ ws) h =
    ap
    (λ (t : Bool).
    if t then Some ([], parts ++ word ∷ rest) else before (range_of spaces part)
    (ranges_until word spaces (parts ++ word ∷ rest))) (not_word spaces part word w none h.0.read)
    ∙ ap (λ (o : Option Written). before o (ranges_until word spaces (parts ++ word ∷ rest))) h.0.read
    ∙ ap (before (Some w)) (until_back word rest spaces none parts ws h.1)

-- ---- prototypes

arguments_back : (spaces : List Space) (ws : List Written)
    → AreSpaces spaces
    → AllByRecursion (IsRange spaces) ws
    → list_any (of_other spaces) ws ≡ false
    → list_any of_no_argument ws ≡ false
    → AreReadBack spaces (map (storage_part spaces) (map storage_of ws)) ws
arguments_back spaces [] a h other known = tt
arguments_back spaces (w ∷ ws) a h other known = (
  argument_back spaces w a h.0 (left_false _ _ other) (left_false _ _ known),
  arguments_back spaces ws a h.1 (right_false _ _ other) (right_false _ _ known),
)

keeps_back : (spaces : List Space) (ws : List Written)
    → AreSpaces spaces
    → AllByRecursion (IsRange spaces) ws
    → list_any (of_other spaces) ws ≡ false
    → list_any of_unknown ws ≡ false
    → AreReadBack spaces (map (range_part spaces) (map varnode ws)) ws
keeps_back spaces [] a h other known = tt
keeps_back spaces (w ∷ ws) a h other known = (
  kept_back spaces w a h.0 (left_false _ _ other) (left_false _ _ known),
  keeps_back spaces ws a h.1 (right_false _ _ other) (right_false _ _ known),
)

result_back : (spaces : List Space) (o : Option Written)
    → AreSpaces spaces
    → IfSome o (IsRange spaces)
    → of_some (of_other spaces) o ≡ false
    → of_some of_unknown o ≡ false
    → (range_or_none spaces (result_part spaces (option_map varnode o)) ≡ Some o)
    × IsPart (result_part spaces (option_map varnode o))
result_back spaces None a h other known = (refl, search rules)
result_back spaces (Some w) a h other known =
    let back = kept_back spaces w a h other known in (
      ap (λ (t : Bool). if t then Some None else option_map Some (range_of spaces (range_part spaces (varnode w))))
          (not_word spaces (range_part spaces (varnode w)) (codes "none") w refl back.read)
          ∙ ap (option_map Some) back.read,
      back.part,
    )

args_word : IsPart (codes "args")
args_word = search rules

result_word : IsPart (codes "result")
result_word = search rules

pop_word : IsPart (codes "pop")
pop_word = search rules

keep_word : IsPart (codes "keep")
keep_word = search rules

proto_word : IsPart (codes "proto")
proto_word = search rules

-- the parts after `proto`
abbrev proto_parts : Line → List Line → Line → ℕ → List Line → List Line
proto_parts name args gives pop keep =
    name ∷ codes "args" ∷ args ++ codes "result" ∷ gives ∷ codes "pop" ∷ hexadecimal pop ∷ codes "keep" ∷ keep

proto_line_is : (name : Line) (args : List Line) (gives : Line) (pop : ℕ) (keep : List Line)
    → (codes "proto" ++ spaced (name ∷ codes "args" ∷ []) ++ spaced args) ++
    (spaced (codes "result" ∷ gives ∷ codes "pop" ∷ hexadecimal pop ∷ codes "keep" ∷ []) ++ spaced keep)
    ≡ codes "proto" ++ spaced (proto_parts name args gives pop keep)
proto_line_is name args gives pop keep =
    let front : List Line = name ∷ codes "args" ∷ [] in
    let back : List Line = codes "result" ∷ gives ∷ codes "pop" ∷ hexadecimal pop ∷ codes "keep" ∷ [] in
    ap (λ (r : Line). codes "proto" ++ r) (append_assoc (spaced front) (spaced args) (spaced back ++ spaced keep)
    ∙ ap (λ (r : Line). spaced front ++ (spaced args ++ r)) (sym (spaced_append back keep))
    ∙ ap (λ (r : Line). spaced front ++ r) (sym (spaced_append args (back ++ keep)))
    ∙ sym (spaced_append front (args ++ (back ++ keep))))

pub proto_again : (s : PartialListing) (l : ProtoLine)
    → AreSpaces s.spaces
    → IsProtoTold s.spaces l
    → is_foreign s.spaces l ≡ false
    → is_unknown_proto l ≡ false
    → IsReadAs s (proto_line s.spaces (proto_of l)) (form.Proto l)
proto_again s l a h foreign unknown =
    let spaces : List Space = s.spaces in
    let args : List Line = map (storage_part spaces) (map storage_of l.args) in
    let gives : Line = result_part spaces (option_map varnode l.gives) in
    let keep : List Line = map (range_part spaces) (map varnode l.keep) in
    let args_back =
    arguments_back spaces l.args a h.args (left_false _ _ (left_false _ _ foreign))
    (left_false _ _ (left_false _ _ unknown)) in
    let gives_back =
    result_back spaces l.gives a h.gives (right_false _ _ (left_false _ _ foreign))
    (right_false _ _ (left_false _ _ unknown)) in
    let keep_back = keeps_back spaces l.keep a h.keep (right_false _ _ foreign) (right_false _ _ unknown) in
    let rest : List Line = gives ∷ codes "pop" ∷ hexadecimal l.pop ∷ codes "keep" ∷ keep in
    let rest_parts : AllByRecursion IsPart (codes "result" ∷ rest) = (
      result_word,
      (
        gives_back.1,
        (pop_word, (hexadecimal_part l.pop h.pop, (keep_word, all_parts spaces keep l.keep keep_back))),
      ),
    ) in
    made_of s _ (codes "proto") (proto_parts l.name args gives l.pop keep) _
    (proto_line_is l.name args gives l.pop keep) proto_word (
      name_part l.name h.name,
      (args_word, all_append IsPart args (codes "result" ∷ rest) (all_parts spaces args l.args args_back) rest_parts),
    )
    (ap
    (λ (t : Bool). if t
    && true then proto_args spaces l.name
    (ranges_until (codes "result") spaces (args ++ codes "result" ∷ rest)) else form.Nothing)
    h.name
    ∙ ap (proto_args spaces l.name) (until_back (codes "result") rest spaces refl args l.args args_back)
    ∙ ap
    (λ (g : Option (Option Written)).
    proto_made l.name l.args g (hexadecimal_of (hexadecimal l.pop)) (ranges_of spaces keep)) gives_back.0
    ∙ ap (λ (p : Option ℕ). proto_made l.name l.args (Some l.gives) p (ranges_of spaces keep))
    (hexadecimal_back l.pop h.pop)
    ∙ ap (proto_made l.name l.args (Some l.gives) (Some l.pop)) (ranges_back spaces keep l.keep keep_back))

-- ---- operations

abbrev pub op_of : OpLine → Opcode → Op
op_of l code = record { code = code; out = option_map varnode l.out; inputs = map varnode l.inputs }

-- the line as its canonical text has it
abbrev pub canonical_op : OpLine → OpLine
canonical_op l = record { out = option_map canonical l.out; code = l.code; inputs = map canonical l.inputs }

inputs_back : (spaces : List Space) (ws : List Written)
    → AllByRecursion (IsRange spaces) ws
    → list_any of_unknown ws ≡ false
    → AreReadBack spaces (map (range_part spaces) (map varnode ws)) (map canonical ws)
inputs_back spaces [] h known = tt
inputs_back spaces (w ∷ ws) h known =
    (range_back spaces w h.0 (left_false _ _ known), inputs_back spaces ws h.1 (right_false _ _ known))

-- what stands after the two spaces
abbrev op_parts : Line → Option Line → List Line → List Line
op_parts word None inputs = word ∷ inputs
op_parts word (Some out) inputs = out ∷ codes "=" ∷ word ∷ inputs

op_made_is : (out : Option Written) (word : Line) (code : Opcode) (inputs : List Written)
    → is_name word ≡ true
    → opcode_of word ≡ Some code
    → op_made out word (Some inputs) ≡ form.Op (record { out = out; code = Some code; inputs = inputs })
op_made_is out word code inputs name known =
    ap
    (λ (t : Bool). if t then form.Op (record { out = out; code = opcode_of word; inputs = inputs }) else form.Nothing)
    name
    ∙ ap (λ (o : Option Opcode). form.Op (record { out = out; code = o; inputs = inputs })) known

-- without an output
op_without : (spaces : List Space) (word : Line) (parts : List Line) (ws : List Written)
    → AreReadBack spaces parts ws
    → op_by spaces word parts ≡ op_made None word (Some ws)
op_without spaces word [] [] h = refl
op_without spaces word [] (w ∷ ws) h = absurd h
op_without spaces word (part ∷ parts) [] h = absurd h
op_without spaces word (part ∷ parts) (w ∷ ws) h =
    ap
    (λ (t : Bool).
    if t then op_assigned spaces (range_of spaces word) parts else op_made None word
    (ranges_of spaces (part ∷ parts))) (not_word spaces part (codes "=") w refl h.0.read)
    ∙ ap (op_made None word) (ranges_back spaces (part ∷ parts) (w ∷ ws) h)

op_lines_by : (s : PartialListing) (out : Option Written) (code : Opcode) (inputs : List Written)
    → IfSome out (IsRange s.spaces)
    → IsWord code
    → AllByRecursion (IsRange s.spaces) inputs
    → of_some of_unknown out ≡ false → list_any of_unknown inputs ≡ false
    → IsReadAs s (op_line s.spaces (record { code = code; out = option_map varnode out; inputs = map varnode inputs }))
    (form.Op (record { out = option_map canonical out; code = Some code; inputs = map canonical inputs }))
op_lines_by s None code inputs o c h known_out known =
    let spaces : List Space = s.spaces in
    let ranges : List Line = map (range_part spaces) (map varnode inputs) in
    let back = inputs_back spaces inputs h known in
    made_of s _ [] ([] ∷ word_of code ∷ ranges) _
    (ap (λ (r : Line). 32 ∷ r) (sym (spaced_append (word_of code ∷ []) ranges))) tt
    (tt, (name_part _ c.name, all_parts spaces ranges _ back))
    (op_without spaces (word_of code) ranges _ back ∙ op_made_is None (word_of code) code _ c.name c.known)
op_lines_by s (Some w) code inputs o c h known_out known =
    let spaces : List Space = s.spaces in
    let out : Line = range_part spaces (varnode w) in
    let ranges : List Line = map (range_part spaces) (map varnode inputs) in
    let back = inputs_back spaces inputs h known in
    let first = range_back spaces w o known_out in
    let front : List Line = out ∷ codes "=" ∷ [] in
    let line : spaced front ++ spaced (word_of code ∷ []) ++ spaced ranges ≡ spaced (front ++ word_of code ∷ ranges) =
    append_assoc (spaced front) (spaced (word_of code ∷ [])) (spaced ranges)
    ∙ ap (λ (r : Line). spaced front ++ r) (sym (spaced_append (word_of code ∷ []) ranges))
    ∙ sym (spaced_append front (word_of code ∷ ranges)) in
    made_of s _ [] ([] ∷ front ++ word_of code ∷ ranges) _ (ap (λ (r : Line). 32 ∷ r) line) tt
    (tt, (first.part, (search rules, (name_part _ c.name, all_parts spaces ranges _ back))))
    (ap (λ (o : Option Written). op_assigned spaces o (word_of code ∷ ranges)) first.read
    ∙ ap (op_made (Some (canonical w)) (word_of code)) (ranges_back spaces ranges _ back)
    ∙ op_made_is (Some (canonical w)) (word_of code) code _ c.name c.known)

pub op_again : (s : PartialListing) (l : OpLine) (code : Opcode)
    → l.code ≡ Some code
    → IsOpTold s.spaces l
    → of_some of_unknown l.out ≡ false
    → list_any of_unknown l.inputs ≡ false
    → IsReadAs s (op_line s.spaces (op_of l code)) (form.Op (canonical_op l))
op_again s l code is h known_out known =
    let word : IsWord code = subst (λ (o : Option Opcode). IfSome o IsWord) is h.code in
    subst
    (λ (o : Option Opcode).
    IsReadAs s (op_line s.spaces (op_of l code))
    (form.Op (record { out = option_map canonical l.out; code = o; inputs = map canonical l.inputs }))) (sym is)
    (op_lines_by s l.out code l.inputs h.out word h.inputs known_out known)
