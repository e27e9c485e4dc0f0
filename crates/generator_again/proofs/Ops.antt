-- The line of an op whose ranges are read back as they are printed.
use Rattle.std.proofs.Common.{◌≡◌, ◌<◌, ◌+◌, ◌^◌, ℕ, Bool, true, false, List, [], ◌∷◌, ◌++◌, map, ap, ap₂, refl, subst}
use Rattle.std.specs.Prelude.{◌==◌, ◌||◌, nat_le, Option, Some, None, IfSome}
use Rattle.std.specs.List.{AllByRecursion, list_any}
use Rattle.std.specs.Option.{option_map}
use Rattle.line_reader.specs.Faults.{first_fault}
use Rattle.listing_print.specs.Printed.{op_line}
use Rattle.pcode_model.specs.declared.listing.Instruction.{Instruction}
use Rattle.pcode_model.specs.declared.listing.Op.{Op}
use Rattle.pcode_model.specs.declared.listing.Varnode.{Varnode}
use Rattle.pcodetext.specs.declared.fault.Why.TheVariants as why
use Rattle.pcodetext.specs.declared.line_kinds.Form.TheVariants as form
use Rattle.pcodetext.specs.declared.op_line.OpLine.{OpLine}
use Rattle.pcodetext.specs.declared.partial_listing.PartialListing.{PartialListing}
use Rattle.pcodetext.specs.declared.written.Named.TheVariants as named
use Rattle.pcodetext.specs.declared.written.Written.{Written}
use Rattle.pcodetext.specs.Checks.{is_empty, of_some, of_unknown}
use Rattle.pcodetext.specs.Convert.{reduced, varnode}
use Rattle.listing_again.proofs.Lines.{IsReadAs}
use Rattle.listing_again.proofs.Ranged.{canonical_op, op_again, op_of}
use Rattle.listing_again.proofs.Ranges.{IsRange, IsSpelled, canonical}
use Rattle.listing_again.proofs.Told.{IsWord}
use Rattle.generator.specs.Generated.{function, proto, spaces}
use Rattle.generator_again.proofs.Saying.{Says, says_line}

-- ---- ranges

-- a range of some bytes in a space whose name stands for it; a constant is in the form in which it is kept
pub record IsPrintable (v : Varnode) : Type 0 where
  pub space : IsSpelled spaces (named.Space v.space)
  pub offset : v.offset < 16 ^ 16
  pub some : (v.size == 0) ≡ false
  pub size : v.size < 10 ^ 5
  pub kept : reduced v.space v.offset v.size ≡ v.offset

abbrev written : Varnode → Written
written v = record { space = named.Space v.space; offset = v.offset; size = v.size }

is_range : (v : Varnode) → IsPrintable v → IsRange spaces (written v)
is_range v h = record { space = h.space; offset = h.offset; size = h.size }

same_written : (v : Varnode) → IsPrintable v → canonical (written v) ≡ written v
same_written v h = ap (λ (o : ℕ). record { space = named.Space v.space; offset = o; size = v.size }) h.kept

same_varnode : (v : Varnode) → IsPrintable v → varnode (written v) ≡ v
same_varnode v h = ap (λ (o : ℕ). record { space = v.space; offset = o; size = v.size }) h.kept

-- ---- lists of ranges

are_ranges : (vs : List Varnode) → AllByRecursion IsPrintable vs → AllByRecursion (IsRange spaces) (map written vs)
are_ranges [] h = tt
are_ranges (v ∷ vs) h = (is_range v h.0, are_ranges vs h.1)

same_list : (vs : List Varnode) → AllByRecursion IsPrintable vs → map canonical (map written vs) ≡ map written vs
same_list [] h = refl
same_list (v ∷ vs) h =
    ap₂ (λ (w : Written) (ws : List Written). w ∷ ws) (same_written v h.0) (same_list vs h.1)

back_list : (vs : List Varnode) → AllByRecursion IsPrintable vs → map varnode (map written vs) ≡ vs
back_list [] h = refl
back_list (v ∷ vs) h = ap₂ (λ (w : Varnode) (ws : List Varnode). w ∷ ws) (same_varnode v h.0) (back_list vs h.1)

none_unknown : (vs : List Varnode) → list_any of_unknown (map written vs) ≡ false
none_unknown [] = refl
none_unknown (v ∷ vs) = none_unknown vs

none_empty : (vs : List Varnode) → AllByRecursion IsPrintable vs → list_any is_empty (map written vs) ≡ false
none_empty [] h = refl
none_empty (v ∷ vs) h = ap₂ (λ (a b : Bool). a || b) h.0.some (none_empty vs h.1)

-- ---- an output

out_range : (o : Option Varnode) → IfSome o IsPrintable → IfSome (option_map written o) (IsRange spaces)
out_range None h = tt
out_range (Some v) h = is_range v h

same_out : (o : Option Varnode)
    → IfSome o IsPrintable
    → option_map canonical (option_map written o) ≡ option_map written o
same_out None h = refl
same_out (Some v) h = ap Some (same_written v h)

back_out : (o : Option Varnode) → IfSome o IsPrintable → option_map varnode (option_map written o) ≡ o
back_out None h = refl
back_out (Some v) h = ap Some (same_varnode v h)

known_out : (o : Option Varnode) → of_some of_unknown (option_map written o) ≡ false
known_out None = refl
known_out (Some v) = refl

some_out : (o : Option Varnode) → IfSome o IsPrintable → of_some is_empty (option_map written o) ≡ false
some_out None h = refl
some_out (Some v) h = h.some

-- ---- the op

pub record IsPrintableOp (op : Op) : Type 0 where
  pub code : IsWord op.code
  pub out : IfSome op.out IsPrintable
  pub inputs : AllByRecursion IsPrintable op.inputs

abbrev line_of : Op → OpLine
line_of op = record { out = option_map written op.out; code = Some op.code; inputs = map written op.inputs }

op_back : (op : Op) → IsPrintableOp op → op_of (line_of op) op.code ≡ op
op_back op h =
    ap₂ (λ (o : Option Varnode) (vs : List Varnode). record { code = op.code; out = o; inputs = vs })
    (back_out op.out h.out) (back_list op.inputs h.inputs)

line_same : (op : Op) → IsPrintableOp op → canonical_op (line_of op) ≡ line_of op
line_same op h =
    ap₂ (λ (o : Option Written) (ws : List Written). record { out = o; code = Some op.code; inputs = ws })
    (same_out op.out h.out) (same_list op.inputs h.inputs)

-- the listing has these instructions and, last, this one, and so many ops
abbrev pub coded : List Instruction → Option Instruction → ℕ → PartialListing
coded done last ops = record {
  version = Some 1;
  spaces = spaces;
  stack = None;
  protos = proto ∷ [];
  func = Some function;
  callees = [];
  fixed = [];
  done = done;
  last = last;
  ops = ops;
  ended = false;
}

op_read : (done : List Instruction) (last : Option Instruction) (n : ℕ) (op : Op)
    → IsPrintableOp op
    → IsReadAs (coded done last n) (op_line spaces op) (form.Op (line_of op))
op_read done last n op h =
    let read =
    op_again (coded done last n) (line_of op) op.code refl
    (record { out = out_range op.out h.out; code = h.code; inputs = are_ranges op.inputs h.inputs })
    (known_out op.out) (none_unknown op.inputs) in
    subst (λ (o : Op). IsReadAs (coded done last n) (op_line spaces o) (form.Op (line_of op))) (op_back op h)
    (subst
    (λ (l : OpLine). IsReadAs (coded done last n) (op_line spaces (op_of (line_of op) op.code)) (form.Op l))
    (line_same op h) read)

no_fault : (unknown_out unknown many empty_out empty : Bool)
    → unknown_out ≡ false
    → unknown ≡ false
    → many ≡ false
    → empty_out ≡ false
    → empty ≡ false
    → first_fault
    ((false, why.Order) ∷ ((false || unknown_out) || unknown, why.Unknown) ∷ (many, why.Range)
    ∷ (empty_out || empty, why.Range) ∷ [])
    ≡ None
no_fault false false false false false a b c d e = refl
no_fault true unknown many empty_out empty a b c d e = cc
no_fault false true many empty_out empty a b c d e = cc
no_fault false false true empty_out empty a b c d e = cc
no_fault false false false true empty a b c d e = cc
no_fault false false false false true a b c d e = cc

-- The line of an op adds it to the last instruction.
pub op_says : (done : List Instruction) (i : Instruction) (n : ℕ) (op : Op)
    → IsPrintableOp op
    → nat_le 16384 n ≡ false
    → Says (coded done (Some i) n) (op_line spaces op ∷ [])
    (coded done (Some (record i { ops = i.ops ++ op ∷ [] })) (n + 1))
op_says done i n op h few =
    says_line (coded done (Some i) n) _ _ (form.Op (line_of op)) refl (op_read done (Some i) n op h)
    (no_fault _ _ _ _ _ (known_out op.out) (none_unknown op.inputs) few (some_out op.out h.out)
    (none_empty op.inputs h.inputs))
    (ap (λ (o : Op). coded done (Some (record i { ops = i.ops ++ o ∷ [] })) (n + 1)) (op_back op h))
