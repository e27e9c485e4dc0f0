-- The line of an op: what its form has, and that it keeps to the rules.
use Rattle.std.proofs.Common.{◌≡◌, ◌∙◌, ◌<◌, ◌+◌, ◌%◌, ◌^◌, ℕ, Bool, true, false, List, [], ◌∷◌, ◌++◌, length, ap, sym, refl, arith, subst, map, lit<}
use Rattle.std.proofs.Math.Nat.{mod-le, mod-lt, one-le-pow}
use Rattle.std.specs.Prelude.{◌==◌, Option, Some, None, IfSome, if◌then◌else◌}
use Rattle.std.specs.List.{AllByRecursion, list_any}
use Rattle.std.specs.Option.{is_none, option_map}
use Rattle.line_reader.proofs.Faults.{AllFalse, all_false}
use Rattle.listing_lines.specs.Text.{Line}
use Rattle.listing_lines.specs.Tokens.{is_name}
use Rattle.pcode_model.specs.declared.listing.Instruction.{Instruction}
use Rattle.pcode_model.specs.declared.listing.Op.{Op}
use Rattle.pcode_model.specs.declared.listing.Proto.{Proto}
use Rattle.pcode_model.specs.declared.listing.Space.{Space}
use Rattle.pcode_model.specs.declared.opcode.Opcode.{Opcode}
use Rattle.pcode_model.specs.WellFormed.{AreSpaces, IsKnown, IsKnownOp, IsOp, IsOperand, IsShort}
use Rattle.pcodetext.specs.declared.partial_listing.PartialListing.{PartialListing}
use Rattle.pcodetext.specs.declared.line_kinds.Form.TheVariants as form
use Rattle.pcodetext.specs.declared.op_line.OpLine.{OpLine}
use Rattle.pcodetext.specs.declared.written.Named.{Named}
use Rattle.pcodetext.specs.declared.written.Named.TheVariants as named
use Rattle.pcodetext.specs.declared.written.Written.{Written}
use Rattle.pcodetext.specs.Checks.{is_empty, of_some}
use Rattle.pcodetext.specs.Convert.{number, reduced, varnode}
use Rattle.pcodetext.specs.OpLine.{op_assigned, op_by, op_faults, op_form, op_made, with_op}
use Rattle.pcodetext.specs.Written.{range_of, ranges_of}
use Rattle.pcodetext.proofs.FormIs.{IsAmong, IsForm, IsWritten, Known, either, known, when}
use Rattle.pcodetext.proofs.Formed.{KeepCode, Keeps}
use Rattle.pcodetext.proofs.Instructions.{apart_same, ops_op, total_op}
use Rattle.pcodetext.proofs.Passing.{all_last, le_false, left_false, never, not_both, right_false, zero_false}
use Rattle.pcodetext.proofs.RangeForms.{range_small, ranges_small}
use Rattle.pcodetext.proofs.Spaces.{some_spaces}

-- ---- its form

op_made_is : (n : Known) (out : Option Written) (code : Line) (inputs : Option (List Written))
    → IfSome out (IsWritten n.spaces)
    → IfSome inputs (AllByRecursion (IsWritten n.spaces))
    → IsForm n (op_made out code inputs)
op_made_is n out code None h g = tt
op_made_is n out code (Some inputs) h g = when n (is_name code) _ (λ e. (h, g))

module _ (two : Bool) (spaces : List Space) (protos : List Proto) where
  abbrev here : Known
  here = known two spaces protos

  op_assigned_is : (out : Option Written) (parts : List Line)
      → IfSome out (IsWritten (length spaces))
      → IsForm here (op_assigned spaces out parts)
  op_assigned_is None parts h = tt
  op_assigned_is (Some out) [] h = tt
  op_assigned_is (Some out) (code ∷ parts) h =
      op_made_is here (Some out) code (ranges_of spaces parts) h (ranges_small spaces parts)

  op_by_is : (first : Line) (parts : List Line) → IsForm here (op_by spaces first parts)
  op_by_is first [] = op_made_is here None first (ranges_of spaces []) tt (ranges_small spaces [])
  op_by_is first (second ∷ parts) =
      let inputs : Option (List Written) = ranges_of spaces (second ∷ parts) in
      either here _ _ _ (op_assigned_is (range_of spaces first) parts (range_small spaces first))
      (op_made_is here None first inputs tt (ranges_small spaces (second ∷ parts)))

  pub op_form_is : (parts : List Line) → IsForm here (op_form spaces parts)
  op_form_is [] = tt
  op_form_is (a ∷ []) = tt
  op_form_is (a ∷ b ∷ parts) = when here (length {A = ℕ} a == 0) _ (λ e. op_by_is b parts)

-- ---- its ranges

reduced_small : (n offset size : ℕ) → n ≡ 0 → reduced n offset size < 256 ^ size
reduced_small n offset size e =
    subst (λ (k : ℕ). reduced k offset size < 256 ^ size) (sym e) (mod-lt offset (one-le-pow size 256 (lit< tt)))

reduced_below : (n offset size : ℕ) → offset < 16 ^ 16 → reduced n offset size < 2 ^ 64
reduced_below n offset size below = by_test (n == 0)
  where
    by_test : (t : Bool) → (if t then offset % 256 ^ size else offset) < 2 ^ 64
    by_test true = let less = mod-le offset (256 ^ size) in omega (arith, below, less)
    by_test false = omega (arith, below)

operand_is : (n : ℕ) (w : Written) → is_empty w ≡ false → IsWritten n w → IsOperand (varnode w)
operand_is n w some is = record {
  some = zero_false _ some;
  few = is.size;
  long = reduced_below (number w.space) w.offset w.size is.offset;
  reduced = λ e. reduced_small (number w.space) w.offset w.size e;
}

-- a range with the number of one of so many spaces
known_by : (n : ℕ) (space : Named) → 0 < n → IsAmong n space → number space < n
known_by n (named.Space k) some h = h
known_by n named.Stack some h = some
known_by n named.Unknown some h = some

module _ (spaces : List Space) (are : AreSpaces spaces) where
  output_is : (out : Option Written)
      → of_some is_empty out ≡ false
      → IfSome out (IsWritten (length spaces))
      → IfSome (option_map varnode out) IsOperand
  output_is None some is = tt
  output_is (Some w) some is = operand_is (length spaces) w some is

  inputs_are : (ws : List Written)
      → list_any is_empty ws ≡ false
      → AllByRecursion (IsWritten (length spaces)) ws
      → AllByRecursion IsOperand (map varnode ws)
  inputs_are [] some is = tt
  inputs_are (w ∷ ws) some is =
      (operand_is (length spaces) w (left_false _ _ some) is.0, inputs_are ws (right_false _ _ some) is.1)

  output_known : (out : Option Written)
      → IfSome out (IsWritten (length spaces))
      → IfSome (option_map varnode out) (IsKnown spaces)
  output_known None is = tt
  output_known (Some w) is = known_by (length spaces) w.space (some_spaces spaces are) is.space

  inputs_known : (ws : List Written)
      → AllByRecursion (IsWritten (length spaces)) ws
      → AllByRecursion (IsKnown spaces) (map varnode ws)
  inputs_known [] is = tt
  inputs_known (w ∷ ws) is =
      (known_by (length spaces) w.space (some_spaces spaces are) is.0.space, inputs_known ws is.1)

  -- ---- one op more of the last instruction

  module _
      (done : List Instruction)
      (ops : ℕ)
      (ended : Bool)
      (l : OpLine)
      (out : of_some is_empty l.out ≡ false)
      (inputs : list_any is_empty l.inputs ≡ false)
      (few : ops < 16384)
      (is : IfSome l.out (IsWritten (length spaces)) × AllByRecursion (IsWritten (length spaces)) l.inputs) where
    op_more : (code : Option Opcode) (last : Option Instruction)
        → is_none code ≡ false
        → is_none last ≡ false
        → KeepCode spaces done last ops ended
        → KeepCode spaces done (with_op l code last) (ops + 1) ended
    op_more None last known opened f = absurd (never known)
    op_more (Some code) None known opened f = absurd (never opened)
    op_more (Some code) (Some i) known opened f =
        let op : Op = record { code = code; out = option_map varnode l.out; inputs = map varnode l.inputs } in
        let formed : IsOp op = record { out = output_is l.out out is.0; inputs = inputs_are l.inputs inputs is.1 } in
        let known_op : IsKnownOp spaces op =
        record { out = output_known l.out is.0; inputs = inputs_known l.inputs is.1 } in
        record {
          apart = apart_same done i (record i { ops = i.ops ++ op ∷ [] }) refl refl f.apart;
          first = λ e. absurd (never e);
          formed = ops_op IsOp done i op f.formed formed;
          known = ops_op (IsKnownOp spaces) done i op f.known known_op;
          short = all_last IsShort done i (record i { ops = i.ops ++ op ∷ [] }) (λ short. short) f.short;
          total = total_op done i op ∙ ap (λ n. n + 1) f.total;
          few = omega arith;
          closed = λ e. refl;
        }

-- ---- it keeps to the rules

pub op_keeps : (s : PartialListing) (l : OpLine) → Keeps s (form.Op l)
op_keeps s l f is h =
    let p : AllFalse (op_faults s l) = all_false (op_faults s l) h in
    let opened : is_none s.last ≡ false = left_false _ _ p.0 in
    let known : is_none l.code ≡ false = left_false _ _ (left_false _ _ p.1.0) in
    let out : of_some is_empty l.out ≡ false = left_false _ _ p.1.1.1.0 in
    let inputs : list_any is_empty l.inputs ≡ false = right_false _ _ p.1.1.1.0 in
    let more = op_more s.spaces f.spaces.formed s.done s.ops s.ended l out inputs (le_false _ _ p.1.1.0) is in
    record {
      version = f.version;
      spaces = f.spaces;
      stack = f.stack;
      protos = f.protos;
      functions = f.functions;
      fixed = f.fixed;
      code = more l.code s.last known opened f.code;
      no_func = f.no_func;
      early = λ z. absurd (not_both s.last opened (f.early z).last);
    }
