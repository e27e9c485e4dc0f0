-- What the form of a line has: numbers that fit, and names that stand for what they name.
use Rattle.std.proofs.Common.{◌≡◌, ◌∙◌, ◌<◌, ◌^◌, ℕ, Bool, true, false, List, [], ◌∷◌, length, map, ap, refl, arith}
use Rattle.std.specs.Prelude.{◌==◌, ◌&&◌, codes, Option, Some, None, IfSome, if◌then◌else◌}
use Rattle.std.specs.List.{AllByRecursion}
use Rattle.std.specs.Option.{option_map}
use Rattle.std.specs.Str.{bytes_eq}
use Rattle.std.proofs.lemmas.Bool.{and_parts}
use Rattle.listing_lines.specs.Text.{Line, parts_of}
use Rattle.listing_lines.specs.Tokens.{bytes_of, decimal_of, hexadecimal_of, is_name}
use Rattle.pcode_model.specs.declared.listing.Space.{Space}
use Rattle.pcode_model.specs.declared.listing.SpaceKind.{SpaceKind}
use Rattle.pcode_model.specs.declared.listing.SpaceKind.TheVariants.{Constant}
use Rattle.pcode_model.specs.declared.listing.Proto.{Proto}
use Rattle.pcode_model.specs.declared.opcode.Opcode.{Opcode}
use Rattle.pcode_model.specs.Spaces.{same_kind}
use Rattle.pcodetext.specs.declared.partial_listing.PartialListing.{PartialListing}
use Rattle.pcodetext.specs.declared.bytes_line.BytesLine.{BytesLine}
use Rattle.pcodetext.specs.declared.line_kinds.Form.{Form}
use Rattle.pcodetext.specs.declared.line_kinds.Form.TheVariants as form
use Rattle.pcodetext.specs.declared.function_line.FunctionLine.{FunctionLine}
use Rattle.pcodetext.specs.declared.written.Named.{Named}
use Rattle.pcodetext.specs.declared.op_line.OpLine.{OpLine}
use Rattle.pcodetext.specs.declared.proto_line.ProtoLine.{ProtoLine}
use Rattle.pcodetext.specs.declared.space_line.SpaceLine.{SpaceLine}
use Rattle.pcodetext.specs.declared.written.Written.{Written}
use Rattle.pcodetext.specs.AtLine.{at_form, at_made}
use Rattle.pcodetext.specs.BytesLine.{bytes_form, bytes_made}
use Rattle.pcodetext.specs.EndLine.{end_form}
use Rattle.pcodetext.specs.FunctionLine.{callee_form, callee_made, func_form, func_made, function_made, returns_by}
use Rattle.pcodetext.specs.LineKinds.{form_by, form_of, head_form, is_two}
use Rattle.pcodetext.specs.OpLine.{op_assigned, op_by, op_form, op_made}
use Rattle.pcodetext.specs.PcodeLine.{pcode_form, pcode_made}
use Rattle.pcodetext.specs.ProtoLine.{proto_args, proto_form, proto_made, proto_rest}
use Rattle.pcodetext.specs.SpaceLine.{kind_of, order_of, space_form, space_made, word_by}
use Rattle.pcodetext.specs.StackLine.{stack_form, stack_made}
use Rattle.operations.specs.Operations.{opcode_of}
use Rattle.operations.specs.Words.{word_of}
use Rattle.operations.proofs.Exact.{opcode_is}
use Rattle.pcodetext.specs.Tables.{place_in, proto_name}
use Rattle.pcodetext.specs.Written.{before, place_of, range_of, range_or_none, ranges_of, ranges_until, with_first}
use Rattle.listing_lines.proofs.Bytes.{AreBytes, bytes_small}
use Rattle.listing_lines.proofs.Numbers.{decimal_small, hexadecimal_small}
use Rattle.listing_again.proofs.Ranges.{IsCalled, IsRange, IsSpelled, called, place_is, range_is}
use Rattle.pcodetext.proofs.SpaceLine.{kind_is}

pub record IsSpaceTold (two : Bool) (l : SpaceLine) : Type 0 where
  pub name : is_name l.name ≡ true
  pub kind : same_kind Constant l.kind ≡ false
  pub size : l.size < 10 ^ 5
  pub word : l.word < 10 ^ 5
  pub one : two ≡ false → l.word ≡ 1

pub record IsProtoTold (spaces : List Space) (l : ProtoLine) : Type 0 where
  pub name : is_name l.name ≡ true
  pub args : AllByRecursion (IsRange spaces) l.args
  pub gives : IfSome l.gives (IsRange spaces)
  pub pop : l.pop < 16 ^ 16
  pub keep : AllByRecursion (IsRange spaces) l.keep

pub record IsFunctionTold (spaces : List Space) (protos : List Proto) (l : FunctionLine) : Type 0 where
  pub name : is_name l.name ≡ true
  pub space : IsSpelled spaces l.space
  pub address : l.address < 16 ^ 16
  pub proto : IfSome l.proto (IsCalled protos)

pub record IsBytesTold (spaces : List Space) (l : BytesLine) : Type 0 where
  pub space : IsSpelled spaces l.space
  pub offset : l.offset < 16 ^ 16
  pub some : 0 < length l.bytes
  pub bytes : AreBytes l.bytes

-- an operation whose word is known
pub record IsWord (code : Opcode) : Type 0 where
  pub name : is_name (word_of code) ≡ true
  pub known : opcode_of (word_of code) ≡ Some code

pub record IsOpTold (spaces : List Space) (l : OpLine) : Type 0 where
  pub out : IfSome l.out (IsRange spaces)
  pub code : IfSome l.code IsWord
  pub inputs : AllByRecursion (IsRange spaces) l.inputs

abbrev pub IsTold : Bool → List Space → List Proto → Form → Type 0
IsTold two spaces protos (form.Pcode n) = n < 10 ^ 5
IsTold two spaces protos (form.Space l) = IsSpaceTold two l
IsTold two spaces protos (form.Stack w) = IsRange spaces w
IsTold two spaces protos (form.Proto l) = IsProtoTold spaces l
IsTold two spaces protos (form.Func l) = IsFunctionTold spaces protos l × (l.returns ≡ true)
IsTold two spaces protos (form.Callee l) = IsFunctionTold spaces protos l × (two ≡ false → l.returns ≡ true)
IsTold two spaces protos (form.Bytes l) = IsBytesTold spaces l
IsTold two spaces protos (form.At l) = (l.address < 16 ^ 16) × (l.length < 10 ^ 5)
IsTold two spaces protos (form.Op l) = IsOpTold spaces l
IsTold two spaces protos form.End = Unit {0}
IsTold two spaces protos form.Nothing = Unit {0}

-- ---- operations

word_is : (word : Line) → is_name word ≡ true → IfSome (opcode_of word) IsWord
word_is word is = by_code (opcode_of word) refl (opcode_is word)
  where
    by_code : (o : Option Opcode) → opcode_of word ≡ o → IfSome o (λ c. word_of c ≡ word) → IfSome o IsWord
    by_code None e h = tt
    by_code (Some c) e h = record { name = ap is_name h ∙ is; known = ap opcode_of h ∙ e }

-- ---- ranges, one a part

ranges_are : (spaces : List Space) (parts : List Line)
    → IfSome (ranges_of spaces parts) (AllByRecursion (IsRange spaces))
ranges_are spaces [] = tt
ranges_are spaces (part ∷ parts) =
    joined (range_of spaces part) (ranges_of spaces parts) (range_is spaces part) (ranges_are spaces parts)
  where
    joined : (o : Option Written) (more : Option (List Written))
        → IfSome o (IsRange spaces)
        → IfSome more (AllByRecursion (IsRange spaces))
        → IfSome (with_first o more) (AllByRecursion (IsRange spaces))
    joined None more h g = tt
    joined (Some w) None h g = tt
    joined (Some w) (Some ws) h g = (h, g)

until_is : (word : Line) (spaces : List Space) (parts : List Line)
    → IfSome (ranges_until word spaces parts) (λ found. AllByRecursion (IsRange spaces) found.0)
until_is word spaces [] = tt
until_is word spaces (part ∷ parts) =
    by_word (bytes_eq part word) (range_of spaces part) (ranges_until word spaces parts) (range_is spaces part)
    (until_is word spaces parts)
  where
    joined : (o : Option Written) (more : Option (List Written × List Line))
        → IfSome o (IsRange spaces)
        → IfSome more (λ found. AllByRecursion (IsRange spaces) found.0)
        → IfSome (before o more) (λ found. AllByRecursion (IsRange spaces) found.0)
    joined None more h g = tt
    joined (Some w) None h g = tt
    joined (Some w) (Some found) h g = (h, g)

    by_word : (t : Bool) (o : Option Written) (more : Option (List Written × List Line))
        → IfSome o (IsRange spaces)
        → IfSome more (λ found. AllByRecursion (IsRange spaces) found.0)
        → IfSome (if t then Some ([], parts) else before o more) (λ found. AllByRecursion (IsRange spaces) found.0)
    by_word true o more h g = tt
    by_word false o more h g = joined o more h g

or_none_is : (spaces : List Space) (part : Line)
    → IfSome (range_or_none spaces part) (λ gives. IfSome gives (IsRange spaces))
or_none_is spaces part = by_word (bytes_eq part (codes "none")) (range_of spaces part) (range_is spaces part)
  where
    by_word : (t : Bool) (o : Option Written)
        → IfSome o (IsRange spaces)
        → IfSome (if t then Some None else option_map Some o) (λ gives. IfSome gives (IsRange spaces))
    by_word true o h = tt
    by_word false None h = tt
    by_word false (Some w) h = h

-- ---- forms

when : (two : Bool) (spaces : List Space) (protos : List Proto) (t : Bool) (f g : Form)
    → (t ≡ true → IsTold two spaces protos f)
    → IsTold two spaces protos g
    → IsTold two spaces protos (if t then f else g)
when two spaces protos true f g h k = h refl
when two spaces protos false f g h k = k

pcode_told : (two : Bool) (spaces : List Space) (protos : List Proto) (parts : List Line)
    → IsTold two spaces protos (pcode_form parts)
pcode_told two spaces protos [] = tt
pcode_told two spaces protos (a ∷ []) = made (decimal_of a) (decimal_small a)
  where
    made : (o : Option ℕ) → IfSome o (λ n. n < 10 ^ 5) → IsTold two spaces protos (pcode_made o)
    made None h = tt
    made (Some n) h = h
pcode_told two spaces protos (a ∷ b ∷ parts) = tt

word_told : (two : Bool) (parts : List Line) → IfSome (word_by two parts) (λ n. (n < 10 ^ 5) × (two ≡ false → n ≡ 1))
word_told true [] = tt
word_told false [] = (omega arith, λ e. refl)
word_told true (a ∷ []) = wide (decimal_of a) (decimal_small a)
  where
    wide : (o : Option ℕ) → IfSome o (λ n. n < 10 ^ 5) → IfSome o (λ n. (n < 10 ^ 5) × (true ≡ false → n ≡ 1))
    wide None h = tt
    wide (Some n) h = (h, λ e. absurd (never e))
      where
        never : true ≡ false → ⊥
        never e = cc
word_told false (a ∷ []) = tt
word_told true (a ∷ b ∷ parts) = tt
word_told false (a ∷ b ∷ parts) = tt

space_made_told :
    (two : Bool) (spaces : List Space) (protos : List Proto) (name : Line) (kind : Option SpaceKind) (size : Option ℕ)
    (big : Option Bool) (word : Option ℕ)
    → IfSome kind (λ k. same_kind Constant k ≡ false)
    → IfSome size (λ n. n < 10 ^ 5)
    → IfSome word (λ n. (n < 10 ^ 5) × (two ≡ false → n ≡ 1))
    → IsTold two spaces protos (space_made name kind size big word)
space_made_told two spaces protos name None size big word h g k = tt
space_made_told two spaces protos name (Some kind) None big word h g k = tt
space_made_told two spaces protos name (Some kind) (Some size) None word h g k = tt
space_made_told two spaces protos name (Some kind) (Some size) (Some big) None h g k = tt
space_made_told two spaces protos name (Some kind) (Some size) (Some big) (Some word) h g k =
    when two spaces protos (is_name name) _ _ (λ e. record { name = e; kind = h; size = g; word = k.0; one = k.1 }) tt

space_told : (two : Bool) (spaces : List Space) (protos : List Proto) (parts : List Line)
    → IsTold two spaces protos (space_form two parts)
space_told two spaces protos [] = tt
space_told two spaces protos (a ∷ []) = tt
space_told two spaces protos (a ∷ b ∷ []) = tt
space_told two spaces protos (a ∷ b ∷ c ∷ []) = tt
space_told two spaces protos (a ∷ b ∷ c ∷ d ∷ parts) =
    space_made_told two spaces protos a (kind_of b) (decimal_of c) (order_of d) (word_by two parts) (kind_is b)
    (decimal_small c) (word_told two parts)

stack_told : (two : Bool) (spaces : List Space) (protos : List Proto) (parts : List Line)
    → IsTold two spaces protos (stack_form spaces parts)
stack_told two spaces protos [] = tt
stack_told two spaces protos (a ∷ []) = made (range_of spaces a) (range_is spaces a)
  where
    made : (o : Option Written) → IfSome o (IsRange spaces) → IsTold two spaces protos (stack_made o)
    made None h = tt
    made (Some w) h = h
stack_told two spaces protos (a ∷ b ∷ parts) = tt

proto_made_told :
    (two : Bool) (spaces : List Space) (protos : List Proto) (name : Line) (args : List Written)
    (gives : Option (Option Written)) (pop : Option ℕ) (keep : Option (List Written))
    → is_name name ≡ true
    → AllByRecursion (IsRange spaces) args
    → IfSome gives (λ g. IfSome g (IsRange spaces))
    → IfSome pop (λ n. n < 16 ^ 16)
    → IfSome keep (AllByRecursion (IsRange spaces))
    → IsTold two spaces protos (proto_made name args gives pop keep)
proto_made_told two spaces protos name args None pop keep n a g p k = tt
proto_made_told two spaces protos name args (Some gives) None keep n a g p k = tt
proto_made_told two spaces protos name args (Some gives) (Some pop) None n a g p k = tt
proto_made_told two spaces protos name args (Some gives) (Some pop) (Some keep) n a g p k = record {
  name = n;
  args = a;
  gives = g;
  pop = p;
  keep = k;
}

proto_rest_told : (two : Bool) (spaces : List Space) (protos : List Proto) (name : Line) (args : List Written)
    (parts : List Line)
    → is_name name ≡ true
    → AllByRecursion (IsRange spaces) args
    → IsTold two spaces protos (proto_rest spaces name args parts)
proto_rest_told two spaces protos name args [] n h = tt
proto_rest_told two spaces protos name args (a ∷ []) n h = tt
proto_rest_told two spaces protos name args (a ∷ b ∷ []) n h = tt
proto_rest_told two spaces protos name args (a ∷ b ∷ c ∷ []) n h = tt
proto_rest_told two spaces protos name args (a ∷ b ∷ c ∷ d ∷ parts) n h =
    when two spaces protos (bytes_eq b (codes "pop") && bytes_eq d (codes "keep")) _ _
    (λ e. proto_made_told two spaces protos name args _ _ _ n h (or_none_is spaces a) (hexadecimal_small c)
    (ranges_are spaces parts))
    tt

proto_told : (two : Bool) (spaces : List Space) (protos : List Proto) (parts : List Line)
    → IsTold two spaces protos (proto_form spaces parts)
proto_told two spaces protos [] = tt
proto_told two spaces protos (a ∷ []) = tt
proto_told two spaces protos (a ∷ b ∷ parts) = when two spaces protos (is_name a && bytes_eq b (codes "args")) _ _
    (λ e. args_told (and_parts _ _ e).0 (ranges_until (codes "result") spaces parts)
    (until_is (codes "result") spaces parts))
    tt
  where
    args_told : is_name a ≡ true
        → (o : Option (List Written × List Line))
        → IfSome o (λ found. AllByRecursion (IsRange spaces) found.0)
        → IsTold two spaces protos (proto_args spaces a o)
    args_told n None h = tt
    args_told n (Some found) h = proto_rest_told two spaces protos a found.0 found.1 n h

function_told : (spaces : List Space) (protos : List Proto) (name proto : Line) (place : Option (Named × ℕ))
    (returns : Option Bool)
    → IfSome place (λ p. IsSpelled spaces p.0 × (p.1 < 16 ^ 16))
    → IfSome (function_made protos name proto place returns)
    (λ l. IsFunctionTold spaces protos l × (Some l.returns ≡ returns))
function_told spaces protos name proto None returns h = tt
function_told spaces protos name proto (Some place) None h = tt
function_told spaces protos name proto (Some place) (Some returns) h = by_names (is_name name && is_name proto) refl
  where
    by_names : (t : Bool) → (is_name name && is_name proto) ≡ t
        → IfSome
        (if t then Some
        (record {
          name = name;
          space = place.0;
          address = place.1;
          proto = place_in proto (map proto_name protos);
          returns = returns;
        }) else None) (λ l. IsFunctionTold spaces protos l × (Some l.returns ≡ Some returns))
    by_names true e =
        let names = and_parts _ _ e in
        (record { name = names.0; space = h.0; address = h.1; proto = called protos proto names.1 }, refl)
    by_names false e = tt

func_told : (two : Bool) (spaces : List Space) (protos : List Proto) (parts : List Line)
    → IsTold two spaces protos (func_form spaces protos parts)
func_told two spaces protos [] = tt
func_told two spaces protos (a ∷ []) = tt
func_told two spaces protos (a ∷ b ∷ []) = tt
func_told two spaces protos (a ∷ b ∷ c ∷ []) =
    made (function_made protos a c (place_of spaces b) (Some true))
    (function_told spaces protos a c (place_of spaces b) (Some true) (place_is spaces b))
  where
    same : (r : Bool) → Some r ≡ Some true → r ≡ true
    same r e = cc

    made : (o : Option FunctionLine)
        → IfSome o (λ l. IsFunctionTold spaces protos l × (Some l.returns ≡ Some true))
        → IsTold two spaces protos (func_made o)
    made None h = tt
    made (Some l) h = (h.0, same l.returns h.1)
func_told two spaces protos (a ∷ b ∷ c ∷ d ∷ parts) = tt

callee_told : (two : Bool) (spaces : List Space) (protos : List Proto) (parts : List Line)
    → IsTold two spaces protos (callee_form two spaces protos parts)
callee_told two spaces protos [] = tt
callee_told two spaces protos (a ∷ []) = tt
callee_told two spaces protos (a ∷ b ∷ []) = tt
callee_told two spaces protos (a ∷ b ∷ c ∷ parts) =
    made (returns_by two parts) (returns_told two parts)
    (function_made protos a c (place_of spaces b) (returns_by two parts))
    (function_told spaces protos a c (place_of spaces b) (returns_by two parts) (place_is spaces b))
  where
    returns_told : (t : Bool) (ps : List Line) → t ≡ false → IfSome (returns_by t ps) (λ r. r ≡ true)
    returns_told t [] e = refl
    returns_told true (p ∷ []) e = by_true e
      where
        by_true : true ≡ false → IfSome (returns_by true (p ∷ [])) (λ r. r ≡ true)
        by_true e = absurd (never e)
          where
            never : true ≡ false → ⊥
            never e = cc
    returns_told false (p ∷ []) e = tt
    returns_told t (p ∷ q ∷ ps) e = tt

    same : (o : Option Bool) (r : Bool) → Some r ≡ o → IfSome o (λ r. r ≡ true) → r ≡ true
    same None r e h = absurd (no e)
      where
        no : Some r ≡ None → ⊥
        no e = cc
    same (Some b) r e h = some b e h
      where
        some : (b : Bool) → Some r ≡ Some b → b ≡ true → r ≡ true
        some b e h = cc

    made : (returns : Option Bool)
        → (two ≡ false → IfSome returns (λ r. r ≡ true))
        → (o : Option FunctionLine)
        → IfSome o (λ l. IsFunctionTold spaces protos l × (Some l.returns ≡ returns))
        → IsTold two spaces protos (callee_made o)
    made returns r None h = tt
    made returns r (Some l) h = (h.0, λ e. same returns l.returns h.1 (r e))

bytes_told : (two : Bool) (spaces : List Space) (protos : List Proto) (parts : List Line)
    → IsTold two spaces protos (bytes_form spaces parts)
bytes_told two spaces protos [] = tt
bytes_told two spaces protos (a ∷ []) = tt
bytes_told two spaces protos (a ∷ b ∷ []) = made (place_of spaces a) (bytes_of b) (place_is spaces a) (bytes_small b)
  where
    made : (place : Option (Named × ℕ)) (bytes : Option (List ℕ))
        → IfSome place (λ p. IsSpelled spaces p.0 × (p.1 < 16 ^ 16))
        → IfSome bytes (λ b. (0 < length b) × AreBytes b)
        → IsTold two spaces protos (bytes_made place bytes)
    made None bytes h g = tt
    made (Some p) None h g = tt
    made (Some p) (Some b) h g = record { space = h.0; offset = h.1; some = g.0; bytes = g.1 }
bytes_told two spaces protos (a ∷ b ∷ c ∷ parts) = tt

at_told : (two : Bool) (spaces : List Space) (protos : List Proto) (parts : List Line)
    → IsTold two spaces protos (at_form parts)
at_told two spaces protos [] = tt
at_told two spaces protos (a ∷ []) = tt
at_told two spaces protos (a ∷ b ∷ []) = made (hexadecimal_of a) (decimal_of b) (hexadecimal_small a) (decimal_small b)
  where
    made : (o p : Option ℕ)
        → IfSome o (λ n. n < 16 ^ 16)
        → IfSome p (λ n. n < 10 ^ 5)
        → IsTold two spaces protos (at_made o p)
    made None p h g = tt
    made (Some a) None h g = tt
    made (Some a) (Some b) h g = (h, g)
at_told two spaces protos (a ∷ b ∷ c ∷ parts) = tt

op_made_told : (two : Bool) (spaces : List Space) (protos : List Proto) (out : Option Written) (code : Line)
    (inputs : Option (List Written))
    → IfSome out (IsRange spaces)
    → IfSome inputs (AllByRecursion (IsRange spaces))
    → IsTold two spaces protos (op_made out code inputs)
op_made_told two spaces protos out code None h g = tt
op_made_told two spaces protos out code (Some inputs) h g =
    when two spaces protos (is_name code) _ _ (λ e. record { out = h; code = word_is code e; inputs = g }) tt

op_told : (two : Bool) (spaces : List Space) (protos : List Proto) (parts : List Line)
    → IsTold two spaces protos (op_form spaces parts)
op_told two spaces protos [] = tt
op_told two spaces protos (a ∷ []) = tt
op_told two spaces protos (blank ∷ first ∷ parts) =
    when two spaces protos (length blank == 0) _ _ (λ e. by_parts parts) tt
  where
    assigned : (o : Option Written) (ps : List Line)
        → IfSome o (IsRange spaces)
        → IsTold two spaces protos (op_assigned spaces o ps)
    assigned None ps h = tt
    assigned (Some w) [] h = tt
    assigned (Some w) (p ∷ ps) h =
        op_made_told two spaces protos (Some w) p (ranges_of spaces ps) h (ranges_are spaces ps)

    by_parts : (ps : List Line) → IsTold two spaces protos (op_by spaces first ps)
    by_parts [] = op_made_told two spaces protos None first (ranges_of spaces []) tt (ranges_are spaces [])
    by_parts (p ∷ ps) =
        when two spaces protos (bytes_eq p (codes "=")) _ _
        (λ e. assigned (range_of spaces first) ps (range_is spaces first))
        (op_made_told two spaces protos None first (ranges_of spaces (p ∷ ps)) tt (ranges_are spaces (p ∷ ps)))

end_told : (two : Bool) (spaces : List Space) (protos : List Proto) (parts : List Line)
    → IsTold two spaces protos (end_form parts)
end_told two spaces protos [] = tt
end_told two spaces protos (p ∷ parts) = tt

head_told : (s : PartialListing) (word : Line) (parts : List Line)
    → IsTold (is_two s.version) s.spaces s.protos (head_form s word parts)
head_told s word parts =
    let two : Bool = is_two s.version in
    let spaces : List Space = s.spaces in
    let protos : List Proto = s.protos in
    when two spaces protos (bytes_eq word (codes "pcode")) _ _ (λ e. pcode_told two spaces protos parts)
    (when two spaces protos (bytes_eq word (codes "space")) _ _ (λ e. space_told two spaces protos parts)
    (when two spaces protos (bytes_eq word (codes "stack")) _ _ (λ e. stack_told two spaces protos parts)
    (when two spaces protos (bytes_eq word (codes "proto")) _ _ (λ e. proto_told two spaces protos parts)
    (when two spaces protos (bytes_eq word (codes "func")) _ _ (λ e. func_told two spaces protos parts)
    (when two spaces protos (bytes_eq word (codes "end")) _ _ (λ e. end_told two spaces protos parts) tt)))))

by_told : (s : PartialListing) (parts : List Line) → IsTold (is_two s.version) s.spaces s.protos (form_by s parts)
by_told s [] = tt
by_told s (word ∷ parts) =
    let two : Bool = is_two s.version in
    let spaces : List Space = s.spaces in
    let protos : List Proto = s.protos in
    when two spaces protos (length word == 0) _ _ (λ e. op_told two spaces protos parts)
    (when two spaces protos (bytes_eq word (codes "at")) _ _ (λ e. at_told two spaces protos parts)
    (when two spaces protos (bytes_eq word (codes "bytes")) _ _ (λ e. bytes_told two spaces protos parts)
    (when two spaces protos (bytes_eq word (codes "callee")) _ _ (λ e. callee_told two spaces protos parts)
    (head_told s word parts))))

pub told : (s : PartialListing) (line : Line) → IsTold (is_two s.version) s.spaces s.protos (form_of s line)
told s line = by_told s (parts_of 32 line)
