-- A line without a fault adds one canonical line, which says the same.
use Rattle.std.proofs.Common.{◌≡◌, ◌∙◌, ◌<◌, ◌+◌, ℕ, Bool, true, false, List, [], ◌∷◌, ◌++◌, length, map, ap, sym, refl, arith, append-nil, subst}
use Rattle.std.specs.Prelude.{codes, Option, Some, None}
use Rattle.std.specs.Option.{is_none, is_some, option_to_list}
use Rattle.std.proofs.lemmas.Bool.{not-false}
use Rattle.listing_lines.specs.Text.{Line}
use Rattle.listing_print.specs.Printed.{at_line, bytes_line, function_line, op_line, proto_line, space_line, stack_line, version_line}
use Rattle.pcode_model.specs.declared.listing.Function.{Function}
use Rattle.pcode_model.specs.declared.listing.Instruction.{Instruction}
use Rattle.pcode_model.specs.declared.listing.Proto.{Proto}
use Rattle.pcode_model.specs.declared.listing.Space.{Space}
use Rattle.pcode_model.specs.declared.listing.Varnode.{Varnode}
use Rattle.pcode_model.specs.declared.opcode.Opcode.{Opcode}
use Rattle.pcodetext.specs.declared.partial_listing.PartialListing.{PartialListing}
use Rattle.pcodetext.specs.declared.at_line.AtLine.{AtLine}
use Rattle.pcodetext.specs.declared.bytes_line.BytesLine.{BytesLine}
use Rattle.pcodetext.specs.declared.line_kinds.Form.{Form}
use Rattle.pcodetext.specs.declared.line_kinds.Form.TheVariants as form
use Rattle.pcodetext.specs.declared.function_line.FunctionLine.{FunctionLine}
use Rattle.pcodetext.specs.declared.op_line.OpLine.{OpLine}
use Rattle.pcodetext.specs.declared.proto_line.ProtoLine.{ProtoLine}
use Rattle.pcodetext.specs.declared.space_line.SpaceLine.{SpaceLine}
use Rattle.pcodetext.specs.declared.written.Written.{Written}
use Rattle.line_reader.specs.Faults.{first_fault}
use Rattle.pcodetext.specs.Checks.{is_complete}
use Rattle.pcodetext.specs.LineKinds.{after, faults}
use Rattle.pcodetext.specs.Convert.{number, varnode}
use Rattle.pcodetext.specs.FunctionLine.{function_of}
use Rattle.pcodetext.specs.OpLine.{with_op}
use Rattle.pcode_model.specs.WellFormed.{constant_space}
use Rattle.pcodetext.proofs.Formed.{IsFormed}
use Rattle.line_reader.proofs.Faults.{AllFalse, all_false}
use Rattle.std.proofs.lemmas.List.{nil_from_length}
use Rattle.pcodetext.proofs.Passing.{left_false, never, no_length, none_is, right_false, zero_false}
use Rattle.listing_again.proofs.Growth.{at_grows, bytes_grow, callees_grow, early_lines, end_grows, late_lines, no_ops, op_grows, protos_grow, said_lines, space_grows, up_to_bytes, up_to_callees, up_to_protos}
use Rattle.listing_again.proofs.Lines.{IsReadAs, version_of}
use Rattle.listing_again.proofs.Ranged.{op_of}
use Rattle.pcodetext.specs.ProtoLine.{proto_of}
use Rattle.pcodetext.proofs.Spaces.{some_spaces}
use Rattle.pcodetext.specs.SpaceLine.{space_of}

-- what stands after what hasn't come yet
pub record IsOrdered (s : PartialListing) : Type 0 where
  pub version : is_none s.version ≡ true
      → (s.spaces ≡ constant_space ∷ []) × ((is_some s.stack ≡ false) × (length s.protos ≡ 0))
  pub callees : is_none s.func ≡ true → s.callees ≡ []
  pub fixed : is_none s.func ≡ true → s.fixed ≡ []
  pub last : is_none s.func ≡ true → is_some s.last ≡ false

pub record IsKept (s t : PartialListing) (line : Line) : Type 0 where
  pub ordered : IsOrdered t
  pub lines : said_lines t ≡ said_lines s ++ line ∷ []

-- the canonical line says the same: it is read as a form without a fault, after which the same is said
pub record IsAgain (s t : PartialListing) (line : Line) (f : Form) : Type 0 where
  pub read : IsReadAs s line f
  pub none : first_fault (faults s f) ≡ None
  pub after : after s f ≡ t

never_both : (b : Bool) → b ≡ true → b ≡ false → ⊥
never_both b p q = never (sym p ∙ q)

none_some : {A : Type 0} (o : Option A) → is_none o ≡ true → is_some o ≡ false
none_some None e = refl
none_some (Some a) e = absurd (never (sym e))

some_none : {A : Type 0} (o : Option A) → is_some o ≡ false → is_none o ≡ true
some_none None e = refl
some_none (Some a) e = absurd (never e)

-- without an instruction the text goes on
not_ended : (s : PartialListing) → IsFormed s → is_some s.last ≡ false → s.ended ≡ false
not_ended s f none = by_end s.ended refl
  where
    by_end : (b : Bool) → s.ended ≡ b → b ≡ false
    by_end true e = absurd (never_both (is_some s.last) (f.code.closed e) none)
    by_end false e = refl

no_code : (s : PartialListing) → IsFormed s → is_some s.last ≡ false → s.done ++ option_to_list s.last ≡ []
no_code s f none = no_ops s.done s.last (f.code.first none) none

-- without a function nothing stands after the prototypes
before_func : (s : PartialListing)
    → IsFormed s
    → IsOrdered s
    → is_none s.func ≡ true
    → (front : List Line) (spaces : List Space)
    → late_lines front spaces s.protos s.func s.callees s.fixed (s.done ++ option_to_list s.last) s.ended
    ≡ front ++ map (proto_line spaces) s.protos
before_func s f o e front spaces =
    let none = o.last e in
    up_to_protos front spaces s.protos s.func s.callees s.fixed _ s.ended (none_is s.func (none_some s.func e))
    (o.callees e) (o.fixed e) (no_code s f none) (not_ended s f none)

-- without a prototype nothing stands after the stack pointer
before_protos : (s : PartialListing) → IsFormed s → length s.protos ≡ 0 → (front : List Line) (spaces : List Space)
    → late_lines front spaces s.protos s.func s.callees s.fixed (s.done ++ option_to_list s.last) s.ended ≡ front
before_protos s f z front spaces =
    let none = f.no_func z in
    let e = f.early none in
    up_to_protos front spaces s.protos s.func s.callees s.fixed _ s.ended (none_is s.func none) e.callees e.fixed
    (no_code s f e.last) (not_ended s f e.last)
    ∙ ap (λ (ps : List Proto). front ++ map (proto_line spaces) ps) (nil_from_length s.protos z) ∙ append-nil front

-- ---- line by line

pub pcode_kept : (s : PartialListing) (n : ℕ)
    → IsFormed s
    → IsOrdered s
    → first_fault (faults s (form.Pcode n)) ≡ None
    → IsKept s (after s (form.Pcode n)) (version_line n)
pcode_kept s n f o h =
    let p : AllFalse (faults s (form.Pcode n)) = all_false (faults s (form.Pcode n)) h in
    let new = some_none s.version p.1.0 in
    let empty = o.version new in
    let old : early_lines s.version s.spaces s.stack ≡ [] =
    none_early s.version s.spaces s.stack p.1.0 empty.0 empty.1.0 in
    let first : early_lines (Some n) s.spaces s.stack ≡ version_line n ∷ [] =
    first_early s.spaces s.stack empty.0 empty.1.0 in
    record {
      ordered = record { version = λ e. absurd (never (sym e)); callees = o.callees; fixed = o.fixed; last = o.last };
      lines = before_protos s f empty.1.1 (early_lines (Some n) s.spaces s.stack) s.spaces ∙ first
          ∙ ap (λ (r : List Line). r ++ version_line n ∷ [])
          (sym (before_protos s f empty.1.1 (early_lines s.version s.spaces s.stack) s.spaces ∙ old));
    }
  where
    none_early : (v : Option ℕ) (spaces : List Space) (stack : Option Varnode)
        → is_some v ≡ false
        → spaces ≡ constant_space ∷ []
        → is_some stack ≡ false
        → early_lines v spaces stack ≡ []
    none_early (Some v) spaces stack a b c = absurd (never a)
    none_early None spaces (Some w) a b c = absurd (never c)
    none_early None spaces None a b c = ap (λ (ss : List Space). early_lines None ss None) b

    first_early : (spaces : List Space) (stack : Option Varnode)
        → spaces ≡ constant_space ∷ []
        → is_some stack ≡ false
        → early_lines (Some n) spaces stack ≡ version_line n ∷ []
    first_early spaces (Some w) b c = absurd (never c)
    first_early spaces None b c = ap (λ (ss : List Space). early_lines (Some n) ss None) b

pub space_kept : (s : PartialListing) (l : SpaceLine)
    → IsFormed s
    → IsOrdered s
    → first_fault (faults s (form.Space l)) ≡ None
    → IsKept s (after s (form.Space l)) (space_line (version_of s.version) (space_of l))
space_kept s l f o h =
    let p : AllFalse (faults s (form.Space l)) = all_false (faults s (form.Space l)) h in
    let none : length s.protos ≡ 0 = no_length _ (right_false _ _ p.0) in
    let spaces : List Space = s.spaces ++ space_of l ∷ [] in
    record {
      ordered = record {
        version = λ e. absurd (never_both _ e (left_false _ _ (left_false _ _ p.0)));
        callees = o.callees;
        fixed = o.fixed;
        last = o.last;
      };
      lines = before_protos s f none (early_lines s.version spaces s.stack) spaces
          ∙ space_grows s.version s.spaces (space_of l) s.stack (some_spaces s.spaces f.spaces.formed)
          (right_false _ _ (left_false _ _ p.0))
          ∙ ap (λ (r : List Line). r ++ space_line (version_of s.version) (space_of l) ∷ [])
          (sym (before_protos s f none (early_lines s.version s.spaces s.stack) s.spaces));
    }

-- the constant space alone is no complete list
not_complete : (spaces : List Space) → spaces ≡ constant_space ∷ [] → is_complete spaces ≡ true → ⊥
not_complete spaces e h = never (sym h ∙ ap is_complete e)

pub stack_kept : (s : PartialListing) (w : Written)
    → IsFormed s
    → IsOrdered s
    → first_fault (faults s (form.Stack w)) ≡ None
    → IsKept s (after s (form.Stack w)) (stack_line s.spaces (varnode w))
stack_kept s w f o h =
    let p : AllFalse (faults s (form.Stack w)) = all_false (faults s (form.Stack w)) h in
    let none : length s.protos ≡ 0 = no_length _ (right_false _ _ p.0) in
    let complete = not-false _ (left_false _ _ (left_false _ _ p.0)) in
    record {
      ordered = record {
        version = λ e. absurd (not_complete s.spaces (o.version e).0 complete);
        callees = o.callees;
        fixed = o.fixed;
        last = o.last;
      };
      lines =
          before_protos s f none (early_lines s.version s.spaces (Some (varnode w))) s.spaces
          ∙ grows s.stack (right_false _ _ (left_false _ _ p.0))
          ∙ ap (λ (r : List Line). r ++ stack_line s.spaces (varnode w) ∷ [])
          (sym (before_protos s f none (early_lines s.version s.spaces s.stack) s.spaces));
    }
  where
    grows : (stack : Option Varnode)
        → is_some stack ≡ false
        → early_lines s.version s.spaces (Some (varnode w))
        ≡ early_lines s.version s.spaces stack ++ stack_line s.spaces (varnode w) ∷ []
    grows None e = ap (λ (r : List Line). r ++ stack_line s.spaces (varnode w) ∷ []) (sym (append-nil _))
    grows (Some v) e = absurd (never e)

pub proto_kept : (s : PartialListing) (l : ProtoLine)
    → IsFormed s
    → IsOrdered s
    → first_fault (faults s (form.Proto l)) ≡ None
    → IsKept s (after s (form.Proto l)) (proto_line s.spaces (proto_of l))
proto_kept s l f o h =
    let p : AllFalse (faults s (form.Proto l)) = all_false (faults s (form.Proto l)) h in
    let complete = not-false _ (left_false _ _ p.1.0) in
    let none = some_none s.func (right_false _ _ p.1.0) in
    let front : List Line = early_lines s.version s.spaces s.stack in
    let code : List Instruction = s.done ++ option_to_list s.last in
    record {
      ordered = record {
        version = λ e. absurd (not_complete s.spaces (o.version e).0 complete);
        callees = o.callees;
        fixed = o.fixed;
        last = o.last;
      };
      lines =
          up_to_protos front s.spaces (s.protos ++ proto_of l ∷ []) s.func s.callees s.fixed code s.ended
          (none_is s.func (right_false _ _ p.1.0)) (o.callees none) (o.fixed none) (no_code s f (o.last none))
          (not_ended s f (o.last none))
          ∙ protos_grow front s.spaces s.protos (proto_of l)
          ∙ ap (λ (r : List Line). r ++ proto_line s.spaces (proto_of l) ∷ [])
          (sym (before_func s f o none front s.spaces));
    }

no_protos : (n : ℕ) → 0 < n → n ≡ 0 → ⊥
no_protos n some none = omega arith

pub func_kept : (s : PartialListing) (l : FunctionLine)
    → IsFormed s
    → IsOrdered s
    → first_fault (faults s (form.Func l)) ≡ None
    → IsKept s (after s (form.Func l)) (function_line (codes "func") s.spaces s.protos (function_of l))
func_kept s l f o h =
    let p : AllFalse (faults s (form.Func l)) = all_false (faults s (form.Func l)) h in
    let some : 0 < length s.protos = zero_false _ (left_false _ _ p.0) in
    let none = some_none s.func (right_false _ _ p.0) in
    let front : List Line = early_lines s.version s.spaces s.stack in
    let code : List Instruction = s.done ++ option_to_list s.last in
    let line : Line = function_line (codes "func") s.spaces s.protos (function_of l) in
    record {
      ordered = record {
        version = λ e. absurd (no_protos (length s.protos) some (o.version e).1.1);
        callees = λ e. absurd (never (sym e));
        fixed = λ e. absurd (never (sym e));
        last = λ e. absurd (never (sym e));
      };
      lines =
          up_to_callees front s.spaces s.protos (Some (function_of l)) s.callees s.fixed code s.ended (o.fixed none)
          (no_code s f (o.last none)) (not_ended s f (o.last none))
          ∙ ap
          (λ (cs : List Function).
          ((front ++ map (proto_line s.spaces) s.protos) ++ line ∷ []) ++ map
          (function_line (codes "callee") s.spaces s.protos) cs) (o.callees none)
          ∙ append-nil _
          ∙ ap (λ (r : List Line). r ++ line ∷ []) (sym (before_func s f o none front s.spaces));
    }

pub callee_kept : (s : PartialListing) (l : FunctionLine)
    → IsFormed s
    → IsOrdered s
    → first_fault (faults s (form.Callee l)) ≡ None
    → IsKept s (after s (form.Callee l)) (function_line (codes "callee") s.spaces s.protos (function_of l))
callee_kept s l f o h =
    let p : AllFalse (faults s (form.Callee l)) = all_false (faults s (form.Callee l)) h in
    let some = left_false _ _ (left_false _ _ p.0) in
    let fixed = nil_from_length s.fixed (no_length _ (right_false _ _ (left_false _ _ p.0))) in
    let none = right_false _ _ p.0 in
    let front : List Line = early_lines s.version s.spaces s.stack in
    let code : List Instruction = s.done ++ option_to_list s.last in
    let line : Line = function_line (codes "callee") s.spaces s.protos (function_of l) in
    record {
      ordered = record {
        version = o.version;
        callees = λ e. absurd (never_both _ e some);
        fixed = o.fixed;
        last = o.last;
      };
      lines =
          up_to_callees front s.spaces s.protos s.func (s.callees ++ function_of l ∷ []) s.fixed code s.ended fixed
          (no_code s f none) (not_ended s f none)
          ∙ callees_grow _ s.spaces s.protos s.callees (function_of l)
          ∙ ap (λ (r : List Line). r ++ line ∷ [])
          (sym
          (up_to_callees front s.spaces s.protos s.func s.callees s.fixed code s.ended fixed (no_code s f none)
          (not_ended s f none)));
    }

pub bytes_kept : (s : PartialListing) (l : BytesLine)
    → IsFormed s
    → IsOrdered s
    → first_fault (faults s (form.Bytes l)) ≡ None
    → IsKept s (after s (form.Bytes l))
    (bytes_line s.spaces (record { space = number l.space; offset = l.offset; bytes = l.bytes }))
bytes_kept s l f o h =
    let p : AllFalse (faults s (form.Bytes l)) = all_false (faults s (form.Bytes l)) h in
    let some = left_false _ _ p.0 in
    let none = right_false _ _ p.0 in
    let front : List Line = early_lines s.version s.spaces s.stack in
    let code : List Instruction = s.done ++ option_to_list s.last in
    record {
      ordered = record {
        version = o.version;
        callees = o.callees;
        fixed = λ e. absurd (never_both _ e some);
        last = o.last;
      };
      lines =
          up_to_bytes front s.spaces s.protos s.func s.callees
          (s.fixed ++ record { space = number l.space; offset = l.offset; bytes = l.bytes } ∷ []) code s.ended
          (no_code s f none) (not_ended s f none)
          ∙ bytes_grow _ s.spaces s.fixed (record { space = number l.space; offset = l.offset; bytes = l.bytes })
          ∙ ap (λ (r : List Line).
          r ++ bytes_line s.spaces (record { space = number l.space; offset = l.offset; bytes = l.bytes }) ∷ [])
          (sym
          (up_to_bytes front s.spaces s.protos s.func s.callees s.fixed code s.ended (no_code s f none)
          (not_ended s f none)));
    }

pub at_kept : (s : PartialListing) (l : AtLine)
    → IsOrdered s
    → first_fault (faults s (form.At l)) ≡ None
    → IsKept s (after s (form.At l)) (at_line (record { address = l.address; length = l.length; ops = [] }))
at_kept s l o h =
    let p : AllFalse (faults s (form.At l)) = all_false (faults s (form.At l)) h in
    let some = left_false _ _ p.0 in
    record {
      ordered = record {
        version = o.version;
        callees = o.callees;
        fixed = o.fixed;
        last = λ e. absurd (never_both _ e some);
      };
      lines = at_grows _ s.spaces (s.done ++ option_to_list s.last) l.address l.length s.ended (right_false _ _ p.0);
    }

op_kept_by : (s : PartialListing) (l : OpLine) (code : Opcode) (last : Option Instruction)
    → is_none last ≡ false
    → is_none s.func ≡ false
    → s.ended ≡ false
    → IsOrdered (record s { last = last })
    → IsKept (record s { last = last }) (record s { last = with_op l (Some code) last; ops = s.ops + 1 })
    (op_line s.spaces (op_of l code))
op_kept_by s l code None opened some going o = absurd (never opened)
op_kept_by s l code (Some i) opened some going o = record {
  ordered = record {
    version = o.version;
    callees = o.callees;
    fixed = o.fixed;
    last = λ e. absurd (never_both _ e some);
  };
  lines = op_grows _ s.spaces s.done i (op_of l code) s.ended going;
}

-- where there is an instruction there is a function
has_func : (s : PartialListing) → IsOrdered s → is_none s.last ≡ false → is_none s.func ≡ false
has_func s o opened = by_func (is_none s.func) refl
  where
    by_func : (b : Bool) → is_none s.func ≡ b → b ≡ false
    by_func true e = absurd (never_both (is_none s.last) (some_none s.last (o.last e)) opened)
    by_func false e = refl

pub op_kept : (s : PartialListing) (l : OpLine) (code : Opcode)
    → l.code ≡ Some code
    → IsOrdered s
    → first_fault (faults s (form.Op l)) ≡ None
    → IsKept s (after s (form.Op l)) (op_line s.spaces (op_of l code))
op_kept s l code is o h =
    let p : AllFalse (faults s (form.Op l)) = all_false (faults s (form.Op l)) h in
    let opened = left_false _ _ p.0 in
    subst
    (λ (c : Option Opcode).
    IsKept s (record s { last = with_op l c s.last; ops = s.ops + 1 }) (op_line s.spaces (op_of l code))) (sym is)
    (op_kept_by s l code s.last opened (has_func s o opened) (right_false _ _ p.0) o)

pub end_kept : (s : PartialListing)
    → IsOrdered s
    → first_fault (faults s form.End) ≡ None
    → IsKept s (after s form.End) (codes "end")
end_kept s o h =
    let p : AllFalse (faults s form.End) = all_false (faults s form.End) h in
    record {
      ordered = record { version = o.version; callees = o.callees; fixed = o.fixed; last = o.last };
      lines = end_grows _ _ s.ended (right_false _ _ p.0);
    }
