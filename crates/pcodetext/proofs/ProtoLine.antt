-- The line that declares a prototype: what its form has, and that it keeps to the rules.
use Rattle.std.proofs.Common.{◌≡◌, ◌<◌, ◌≤◌, ◌^◌, ℕ, Bool, true, false, List, [], ◌∷◌, ◌++◌, length, ap, sym, refl, arith, subst, map}
use Rattle.std.specs.Prelude.{◌==◌, ◌&&◌, ◌||◌, codes, not, nat_lt, Option, Some, None, IfSome, IsSome}
use Rattle.std.specs.List.{AllByRecursion, list_any}
use Rattle.std.specs.Option.{is_none, option_map}
use Rattle.std.specs.Str.{bytes_eq}
use Rattle.std.proofs.lemmas.Bool.{and_parts, not-false, ltb-false}
use Rattle.std.proofs.lemmas.List.{length-map}
use Rattle.line_reader.proofs.Faults.{AllFalse, all_false}
use Rattle.listing_lines.specs.Text.{Line}
use Rattle.listing_lines.specs.Tokens.{hexadecimal_of, is_name}
use Rattle.pcode_model.specs.declared.listing.Function.{Function}
use Rattle.pcode_model.specs.declared.listing.Proto.{Proto}
use Rattle.pcode_model.specs.declared.listing.Space.{Space}
use Rattle.pcode_model.specs.declared.listing.SpaceKind.TheVariants.{Register}
use Rattle.pcode_model.specs.declared.listing.Varnode.{Varnode}
use Rattle.pcode_model.specs.Ranges.{meets}
use Rattle.pcode_model.specs.WellFormed.{AreSpaces, IsArgument, IsFunction, IsNamedProto, IsProto, IsRegister, IsStorage, ShareNothing}
use Rattle.pcodetext.specs.declared.partial_listing.PartialListing.{PartialListing}
use Rattle.pcodetext.specs.declared.line_kinds.Form.TheVariants as form
use Rattle.pcodetext.specs.declared.proto_line.ProtoLine.{ProtoLine}
use Rattle.pcodetext.specs.declared.written.Named.{Named}
use Rattle.pcodetext.specs.declared.written.Named.TheVariants as named
use Rattle.pcodetext.specs.declared.written.Written.{Written}
use Rattle.pcodetext.specs.Checks.{is_complete, is_empty, is_of_kind, leaves_known, leaves_space, of_some, of_unknown}
use Rattle.pcodetext.specs.Convert.{varnode}
use Rattle.pcodetext.specs.LineKinds.{is_two}
use Rattle.pcodetext.specs.ProtoLine.{has_bad_size, is_bad_argument, is_bad_kept, is_bad_proto, is_bad_result, is_far, is_foreign, is_no_argument, is_other, is_stack, is_unknown_proto, meets_result, meets_stack, of_no_argument, of_other, proto_args, proto_faults, proto_form, proto_made, proto_of, proto_rest, storage_of}
use Rattle.pcodetext.specs.Tables.{proto_name}
use Rattle.pcodetext.specs.Written.{range_or_none, ranges_of, ranges_until}
use Rattle.pcodetext.proofs.Distinct.{distinct_snoc, others}
use Rattle.pcodetext.proofs.FormIs.{IsForm, IsWritten, Known, known, when}
use Rattle.pcodetext.proofs.Formed.{KeepFunctions, KeepProtos, Keeps}
use Rattle.pcodetext.proofs.Passing.{all_map, all_snoc, le_false, le_snoc, left_false, length_snoc, never, right_false, some_length, some_map, zero_false}
use Rattle.pcodetext.proofs.RangeForms.{ranges_small}
use Rattle.pcodetext.proofs.Ranges.{register_by, register_is, register_kind, register_offset}
use Rattle.pcodetext.proofs.Spaces.{complete_is}

-- ---- its form

module _ (two : Bool) (spaces : List Space) (protos : List Proto) (name : Line) where
  abbrev here : Known
  here = known two spaces protos

  proto_made_is :
      (args : List Written) (gives : Option (Option Written)) (pop : Option ℕ) (keep : Option (List Written))
      → is_name name ≡ true
      → IfSome keep (AllByRecursion (IsWritten (length spaces)))
      → IsForm here (proto_made name args gives pop keep)
  proto_made_is args None pop keep h few = tt
  proto_made_is args (Some g) None keep h few = tt
  proto_made_is args (Some g) (Some p) None h few = tt
  proto_made_is args (Some g) (Some p) (Some k) h few = (h, few)

  proto_rest_is : (args : List Written) (parts : List Line)
      → is_name name ≡ true
      → IsForm here (proto_rest spaces name args parts)
  proto_rest_is args [] h = tt
  proto_rest_is args (a ∷ []) h = tt
  proto_rest_is args (a ∷ b ∷ []) h = tt
  proto_rest_is args (a ∷ b ∷ c ∷ []) h = tt
  proto_rest_is args (a ∷ b ∷ c ∷ d ∷ parts) h =
      when here (bytes_eq b (codes "pop") && bytes_eq d (codes "keep")) _
      (λ e. proto_made_is args (range_or_none spaces a) (hexadecimal_of c) (ranges_of spaces parts) h
      (ranges_small spaces parts))

  proto_args_is : (found : Option (List Written × List Line))
      → is_name name ≡ true
      → IsForm here (proto_args spaces name found)
  proto_args_is None h = tt
  proto_args_is (Some found) h = proto_rest_is found.0 found.1 h

pub proto_form_is : (two : Bool) (spaces : List Space) (protos : List Proto) (parts : List Line)
    → IsForm (known two spaces protos) (proto_form spaces parts)
proto_form_is two spaces protos [] = tt
proto_form_is two spaces protos (a ∷ []) = tt
proto_form_is two spaces protos (a ∷ b ∷ parts) =
    when (known two spaces protos) (is_name a && bytes_eq b (codes "args")) _
    (λ e. proto_args_is two spaces protos a (ranges_until (codes "result") spaces parts) (and_parts _ _ e).0)

-- ---- arguments

-- so few bytes are fewer than five decimal digits write
short_size : (size : ℕ) → size ≤ 16 → size < 10 ^ 5
short_size size few = omega (arith, few)

argument_by : (spaces : List Space) (stack : Option Varnode) (space : Named) (offset size : ℕ)
    → (((size == 0 || nat_lt 16 size) || leaves_known spaces space offset size) || (is_stack space && is_none stack))
    ≡ false
    → is_other spaces space ≡ false
    → is_no_argument space ≡ false
    → (is_stack space && nat_lt 0xffff offset) ≡ false
    → IsArgument spaces stack (storage_of (record { space = space; offset = offset; size = size }))
argument_by spaces stack (named.Space n) offset size bad other known far =
    let sizes : (size == 0 || nat_lt 16 size) ≡ false = left_false _ _ (left_false _ _ bad) in
    let some : 0 < size = zero_false _ (left_false _ _ sizes) in
    let inside = right_false _ _ (left_false _ _ bad) in
    let few : size ≤ 16 = ltb-false _ _ (right_false _ _ sizes) in
    record {
      register = register_by spaces (named.Space n) offset size (not-false _ other) some (short_size size few) inside;
      few = few;
    }
argument_by spaces stack named.Stack offset size bad other known far =
    let sizes : (size == 0 || nat_lt 16 size) ≡ false = left_false _ _ (left_false _ _ bad) in (
      zero_false _ (left_false _ _ sizes),
      ltb-false _ _ (right_false _ _ sizes),
      ltb-false _ _ far,
      there stack (right_false _ _ bad),
    )
  where
    there : (o : Option Varnode) → is_none o ≡ false → IsSome o
    there None h = absurd (never h)
    there (Some v) h = refl
argument_by spaces stack named.Unknown offset size bad other known far = absurd (never known)

-- ---- ranges that share no byte

module _ (spaces : List Space) (are : AreSpaces spaces) (w : Written)
    (kind : is_of_kind Register spaces w.space ≡ true) where
  apart_from_stack : (stack : Option Varnode) → meets_stack stack w ≡ false → IfSome stack (ShareNothing (varnode w))
  apart_from_stack None h = tt
  apart_from_stack (Some v) h =
      subst (λ (o : ℕ). meets o w.size v.offset v.size ≡ false) (sym (register_offset spaces are w kind)) h

  apart_from_result : (gives : Option Written)
      → of_some (λ g. not (is_of_kind Register spaces g.space)) gives ≡ false
      → meets_result gives w ≡ false
      → IfSome (option_map varnode gives) (ShareNothing (varnode w))
  apart_from_result None is h = tt
  apart_from_result (Some g) is h =
      subst (λ (o : ℕ). meets o w.size (varnode g).offset g.size ≡ false) (sym (register_offset spaces are w kind))
      (subst (λ (o : ℕ). meets w.offset w.size o g.size ≡ false)
      (sym (register_offset spaces are g (not-false _ is))) h)

module _ (s : PartialListing) (are : AreSpaces s.spaces) where
  argument_is : (w : Written)
      → is_bad_argument s w ≡ false
      → of_other s.spaces w ≡ false
      → of_no_argument w ≡ false
      → is_far w ≡ false
      → IsArgument s.spaces s.stack (storage_of w)
  argument_is w bad other known far = argument_by s.spaces s.stack w.space w.offset w.size bad other known far

  arguments_are : (ws : List Written)
      → list_any (is_bad_argument s) ws ≡ false
      → list_any (of_other s.spaces) ws ≡ false
      → list_any of_no_argument ws ≡ false
      → list_any is_far ws ≡ false
      → AllByRecursion (IsArgument s.spaces s.stack) (map storage_of ws)
  arguments_are [] bad other known far = tt
  arguments_are (w ∷ ws) bad other known far = (
    argument_is w (left_false _ _ bad) (left_false _ _ other) (left_false _ _ known) (left_false _ _ far),
    arguments_are ws (right_false _ _ bad) (right_false _ _ other) (right_false _ _ known) (right_false _ _ far),
  )

  -- ---- the result

  module _ (w : Written) (bad : is_bad_result s w ≡ false) where
    -- its size is one, and it doesn't leave its space
    stays : (has_bad_size w || leaves_space s.spaces w) ≡ false
    stays = left_false (has_bad_size w || leaves_space s.spaces w) (meets_stack s.stack w) bad

    sized : has_bad_size w ≡ false
    sized = left_false (has_bad_size w) (leaves_space s.spaces w) stays

    inside : leaves_space s.spaces w ≡ false
    inside = right_false (has_bad_size w) (leaves_space s.spaces w) stays

    off_stack : meets_stack s.stack w ≡ false
    off_stack = right_false (has_bad_size w || leaves_space s.spaces w) (meets_stack s.stack w) bad

  result_is : (gives : Option Written)
      → of_some (is_bad_result s) gives ≡ false
      → of_some (of_other s.spaces) gives ≡ false
      → of_some of_unknown gives ≡ false
      → IfSome (option_map varnode gives) (IsStorage s.spaces)
  result_is None bad other known = tt
  result_is (Some w) bad other known =
      let kind = register_kind s.spaces w.space other known in
      let some : 0 < w.size = zero_false _ (left_false _ _ (sized w bad)) in
      let few : w.size ≤ 16 = ltb-false _ _ (right_false _ _ (sized w bad)) in
      record { register = register_is s.spaces w kind some (short_size w.size few) (inside w bad); few = few }

  result_apart : (gives : Option Written)
      → of_some (is_bad_result s) gives ≡ false
      → of_some (of_other s.spaces) gives ≡ false
      → of_some of_unknown gives ≡ false
      → IfSome (option_map varnode gives) (λ result. IfSome s.stack (ShareNothing result))
  result_apart None bad other known = tt
  result_apart (Some w) bad other known =
      apart_from_stack s.spaces are w (register_kind s.spaces w.space other known) s.stack (off_stack w bad)

  result_in_registers : (gives : Option Written)
      → of_some (of_other s.spaces) gives ≡ false
      → of_some of_unknown gives ≡ false
      → of_some (λ g. not (is_of_kind Register s.spaces g.space)) gives ≡ false
  result_in_registers None other known = refl
  result_in_registers (Some g) other known = ap not (register_kind s.spaces g.space other known)

  -- ---- kept ranges

  module _
      (gives : Option Written)
      (in_registers : of_some (λ g. not (is_of_kind Register s.spaces g.space)) gives ≡ false) where
    kept_are : (ws : List Written)
        → list_any (is_bad_kept s gives) ws ≡ false
        → list_any (of_other s.spaces) ws ≡ false
        → list_any of_unknown ws ≡ false
        → AllByRecursion (IsWritten (length s.spaces)) ws
        → AllByRecursion (IsRegister s.spaces) (map varnode ws)
    kept_are [] bad other known is = tt
    kept_are (w ∷ ws) bad other known is =
        let here : (is_empty w || leaves_space s.spaces w) ≡ false = left_false _ _ (left_false _ _ bad) in
        let kind = register_kind s.spaces w.space (left_false _ _ other) (left_false _ _ known) in (
          register_is s.spaces w kind (zero_false _ (left_false _ _ here)) is.0.size (right_false _ _ here),
          kept_are ws (right_false _ _ bad) (right_false _ _ other) (right_false _ _ known) is.1,
        )

    kept_apart : (ws : List Written)
        → list_any (is_bad_kept s gives) ws ≡ false
        → list_any (of_other s.spaces) ws ≡ false
        → list_any of_unknown ws ≡ false
        → AllByRecursion
        (λ kept. IfSome s.stack (ShareNothing kept) × IfSome (option_map varnode gives) (ShareNothing kept))
        (map varnode ws)
    kept_apart [] bad other known = tt
    kept_apart (w ∷ ws) bad other known =
        let meeting : (meets_stack s.stack w || meets_result gives w) ≡ false =
        right_false _ _ (left_false _ _ bad) in
        let kind = register_kind s.spaces w.space (left_false _ _ other) (left_false _ _ known) in (
          (
            apart_from_stack s.spaces are w kind s.stack (left_false _ _ meeting),
            apart_from_result s.spaces are w kind gives in_registers (right_false _ _ meeting),
          ),
          kept_apart ws (right_false _ _ bad) (right_false _ _ other) (right_false _ _ known),
        )

  -- ---- a prototype

  module _
      (l : ProtoLine)
      (foreign : is_foreign s.spaces l ≡ false)
      (unknown : is_unknown_proto l ≡ false)
      (pop : nat_lt 0xffff l.pop ≡ false)
      (far : list_any is_far l.args ≡ false)
      (bad : is_bad_proto s l ≡ false)
      (kept : AllByRecursion (IsWritten (length s.spaces)) l.keep) where
    counts : (nat_lt 16 (length l.args) || nat_lt 64 (length l.keep)) ≡ false
    counts = left_false _ _ (left_false _ _ bad)

    other : of_some (of_other s.spaces) l.gives ≡ false
    other = right_false _ _ (left_false _ _ foreign)

    known_result : of_some of_unknown l.gives ≡ false
    known_result = right_false _ _ (left_false _ _ unknown)

    bad_result : of_some (is_bad_result s) l.gives ≡ false
    bad_result = left_false _ _ (right_false _ _ bad)

    bad_kept : list_any (is_bad_kept s l.gives) l.keep ≡ false
    bad_kept = right_false _ _ (right_false _ _ bad)

    proto_is : IsProto s.spaces s.stack (proto_of l)
    proto_is =
        let registers = result_in_registers l.gives other known_result in
        record {
          args =
              let bad_args = right_false _ _ (left_false _ _ bad) in
              let other_args = left_false _ _ (left_false _ _ foreign) in
              arguments_are l.args bad_args other_args (left_false _ _ (left_false _ _ unknown)) far;
          args_few =
              subst (λ (n : ℕ). n ≤ 16) (sym (length-map l.args storage_of)) (ltb-false _ _ (left_false _ _ counts));
          gives = result_is l.gives bad_result other known_result;
          pop = ltb-false _ _ pop;
          keep = kept_are l.gives registers l.keep bad_kept (right_false _ _ foreign) (right_false _ _ unknown) kept;
          keep_few =
              subst (λ (n : ℕ). n ≤ 64) (sym (length-map l.keep varnode)) (ltb-false _ _ (right_false _ _ counts));
          result_apart = result_apart l.gives bad_result other known_result;
          kept_apart = kept_apart l.gives registers l.keep bad_kept (right_false _ _ foreign) (right_false _ _ unknown);
        }

-- ---- one prototype more

keep_proto : (s : PartialListing) (l : ProtoLine)
    → AreSpaces s.spaces
    → KeepProtos s.spaces s.stack s.protos
    → IsNamedProto (proto_of l)
    → AllByRecursion (IsWritten (length s.spaces)) l.keep
    → AllFalse (proto_faults s l)
    → KeepProtos s.spaces s.stack (s.protos ++ proto_of l ∷ [])
keep_proto s l are f named kept p =
    let whole : is_complete s.spaces ≡ true = not-false _ (left_false _ _ p.1.0) in
    let other = others proto_name l.name s.protos p.1.1.1.0 in
    let few : length s.protos < 64 = le_false _ _ p.1.1.1.1.0 in
    let new = proto_is s are l p.0 p.1.1.0 p.1.1.1.1.1.0 p.1.1.1.1.1.1.0 p.1.1.1.1.1.1.1.0 kept in
    record {
      complete = λ some. complete_is s.spaces whole;
      formed = all_snoc (IsProto s.spaces s.stack) s.protos (proto_of l) f.formed new;
      named = all_snoc IsNamedProto s.protos (proto_of l) f.named named;
      few = let one = length_snoc s.protos (proto_of l) in omega (arith, one, few);
      distinct = distinct_snoc proto_name s.protos (proto_of l) f.distinct other;
    }

function_more : (spaces : List Space) (n m : ℕ) → n ≤ m → (g : Function) → IsFunction spaces n g → IsFunction spaces m g
function_more spaces n m le g h = record { proto = omega (arith, h.proto, le); inside = h.inside }

functions_more :
    (two : Bool) (spaces : List Space) (n m : ℕ) (func : Option Function) (callees : List Function)
    → n ≤ m
    → KeepFunctions two spaces n func callees
    → KeepFunctions two spaces m func callees
functions_more two spaces n m func callees le f =
    let more = function_more spaces n m le in
    record {
      func = some_map (IsFunction spaces n) (IsFunction spaces m) more func f.func;
      func_named = f.func_named;
      returns = f.returns;
      callees = all_map (IsFunction spaces n) (IsFunction spaces m) more callees f.callees;
      named = f.named;
      few = f.few;
      names = f.names;
      addresses = f.addresses;
      one = f.one;
    }

pub proto_keeps : (s : PartialListing) (l : ProtoLine) → Keeps s (form.Proto l)
proto_keeps s l f is h =
    let p : AllFalse (proto_faults s l) = all_false (proto_faults s l) h in
    let e = f.early (right_false _ _ p.1.0) in
    let more : length s.protos ≤ length (s.protos ++ proto_of l ∷ []) = le_snoc s.protos (proto_of l) in
    record {
      version = f.version;
      spaces = f.spaces;
      stack = f.stack;
      protos = keep_proto s l f.spaces.formed f.protos is.0 is.1 p;
      functions = functions_more (is_two s.version) s.spaces (length s.protos) _ s.func s.callees more f.functions;
      fixed = f.fixed;
      code = f.code;
      no_func = λ z. absurd (some_length s.protos _ z);
      early = λ z. record { callees = e.callees; fixed = e.fixed; done = e.done; last = e.last };
    }
