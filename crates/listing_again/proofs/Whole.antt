-- The canonical text of a listing that was read is read as that listing.
use Rattle.std.proofs.Common.{◌≡◌, ◌∙◌, ◌+◌, ℕ, Bool, true, false, List, [], ◌∷◌, ◌++◌, map, ap, sym, refl, subst, ap₂}
use Rattle.std.specs.Prelude.{◌||◌, codes, nat_le, Option, Some, None, if◌then◌else◌}
use Rattle.std.specs.List.{AllByRecursion, list_any}
use Rattle.std.specs.Option.{is_none, option_map}
use Rattle.std.proofs.lemmas.Bool.{not-false}
use Rattle.listing_lines.specs.Text.{Line}
use Rattle.listing_print.specs.Printed.{at_line, bytes_line, function_line, op_line, proto_line, space_line, stack_line, text_of, version_line}
use Rattle.pcode_model.specs.declared.listing.Function.{Function}
use Rattle.pcode_model.specs.declared.listing.Instruction.{Instruction}
use Rattle.pcode_model.specs.declared.listing.Listing.{Listing}
use Rattle.pcode_model.specs.declared.listing.Varnode.{Varnode}
use Rattle.pcode_model.specs.declared.opcode.Opcode.{Opcode}
use Rattle.pcodetext.specs.declared.partial_listing.PartialListing.{PartialListing}
use Rattle.pcodetext.specs.declared.fault.TextFault.TheVariants.{Syntax}
use Rattle.pcodetext.specs.declared.fault.Why.{Why}
use Rattle.pcodetext.specs.declared.fault.Why.TheVariants as why
use Rattle.pcodetext.specs.declared.line_kinds.Form.{Form}
use Rattle.pcodetext.specs.declared.line_kinds.Form.TheVariants as form
use Rattle.pcodetext.specs.declared.op_line.OpLine.{OpLine}
use Rattle.pcodetext.specs.declared.written.Written.{Written}
use Rattle.line_reader.specs.Faults.{first_fault}
use Rattle.pcodetext.specs.Checks.{is_empty, of_some, of_unknown}
use Rattle.pcodetext.specs.LineKinds.{after, faults, form_of, is_two}
use Rattle.line_reader.specs.Reading.{Progress, advance, advanced, concluded, moved}
use Rattle.line_reader.specs.Reading.Progress.{Going}
use Rattle.line_reader.specs.Reading.Read.{Bad, Good}
use Rattle.line_reader.specs.Reading.Step.{Goes}
use Rattle.line_reader.proofs.Faults.{fails_not, goes_same}
use Rattle.line_reader.proofs.Kept.{bad_not, good_same, read_keeps}
use Rattle.pcodetext.specs.Convert.{number, varnode}
use Rattle.pcodetext.specs.FunctionLine.{function_of}
use Rattle.pcodetext.specs.Meaning.{fault_at, finished, is_skipped, listing_of, reading, start, step, step_by, stepped, whole}
use Rattle.pcodetext.specs.OpLine.{with_op}
use Rattle.pcodetext.proofs.LineKinds.{form_is, keeps}
use Rattle.pcodetext.proofs.Formed.{IsFormed}
use Rattle.pcodetext.specs.ProtoLine.{proto_of}
use Rattle.pcodetext.specs.SpaceLine.{space_of}
use Rattle.pcodetext.proofs.Whole.{start_formed}
use Rattle.line_reader.proofs.Faults.{AllFalse, all_false}
use Rattle.pcodetext.proofs.Passing.{left_false, never, right_false}
use Rattle.listing_again.proofs.Cuts.{IsLine, all_append, lines_are}
use Rattle.listing_again.proofs.Growth.{said_lines, text_is}
use Rattle.listing_again.proofs.Lines.{IsReadAs, at_again, bytes_again, callee_again, end_again, func_again, pcode_again, space_again, stack_again, version_of}
use Rattle.listing_again.proofs.Order.{IsKept, IsOrdered, at_kept, bytes_kept, callee_kept, end_kept, func_kept, op_kept, pcode_kept, proto_kept, space_kept, stack_kept}
use Rattle.listing_again.proofs.Ranged.{canonical_op, op_again, op_of, proto_again}
use Rattle.listing_again.proofs.Ranges.{canonical, same_varnode}
use Rattle.listing_again.proofs.Told.{IsOpTold, IsTold, told}

-- ---- a canonical line says what the line said

pub record IsSaidAgain (s t : PartialListing) (line : Line) : Type 0 where
  pub kept : IsKept s t line
  pub clean : IsLine line
  pub said : step s line ≡ Goes t

says : (s t : PartialListing) (line : Line) (g : Form)
    → is_skipped line ≡ false
    → IsReadAs s line g
    → first_fault (faults s g) ≡ None
    → after s g ≡ t
    → step s line ≡ Goes t
says s t line g skipped h none is =
    ap (λ (b : Bool). if b then Goes s else step_by s (form_of s line)) skipped
    ∙ ap (step_by s) h.read
    ∙ ap (stepped s g) none
    ∙ ap Goes is

-- a line that is read as the form that it was made of
same_form : (s : PartialListing) (f : Form) (line : Line)
    → is_skipped line ≡ false
    → first_fault (faults s f) ≡ None
    → IsKept s (after s f) line
    → IsReadAs s line f
    → IsSaidAgain s (after s f) line
same_form s f line skipped none k r = record {
  kept = k;
  clean = r.clean;
  said = says s (after s f) line f skipped r none refl;
}

some_same : (test : Written → Bool) → ((w : Written) → test (canonical w) ≡ test w) → (o : Option Written)
    → of_some test (option_map canonical o) ≡ of_some test o
some_same test same None = refl
some_same test same (Some w) = same w

any_same : (test : Written → Bool) → ((w : Written) → test (canonical w) ≡ test w) → (ws : List Written)
    → list_any test (map canonical ws) ≡ list_any test ws
any_same test same [] = refl
any_same test same (w ∷ ws) = ap₂ (λ (a b : Bool). a || b) (same w) (any_same test same ws)

op_faults : (s : PartialListing) (l : OpLine) → faults s (form.Op (canonical_op l)) ≡ faults s (form.Op l)
op_faults s l =
    ap₂ (λ (a b : Bool).
    (is_none s.last || s.ended, why.Order) ∷ ((is_none l.code || a) || b, why.Unknown) ∷
    (nat_le 16384 s.ops, why.Range)
    ∷ (of_some is_empty (option_map canonical l.out) || list_any is_empty (map canonical l.inputs), why.Range) ∷ [])
    (some_same of_unknown (λ w. refl) l.out) (any_same of_unknown (λ w. refl) l.inputs)
    ∙ ap₂ (λ (a b : Bool).
    (is_none s.last || s.ended, why.Order) ∷
    ((is_none l.code || of_some of_unknown l.out) || list_any of_unknown l.inputs, why.Unknown) ∷
    (nat_le 16384 s.ops, why.Range) ∷ (a || b, why.Range) ∷ [])
    (some_same is_empty (λ w. refl) l.out) (any_same is_empty (λ w. refl) l.inputs)

out_same : (o : Option Written) → option_map varnode (option_map canonical o) ≡ option_map varnode o
out_same None = refl
out_same (Some w) = ap Some (same_varnode w)

inputs_same : (ws : List Written) → map varnode (map canonical ws) ≡ map varnode ws
inputs_same [] = refl
inputs_same (w ∷ ws) = ap₂ (λ (v : Varnode) (vs : List Varnode). v ∷ vs) (same_varnode w) (inputs_same ws)

with_same : (l : OpLine) (code : Option Opcode) (last : Option Instruction)
    → with_op (canonical_op l) code last ≡ with_op l code last
with_same l None last = refl
with_same l (Some code) None = refl
with_same l (Some code) (Some i) =
    ap₂
    (λ (out : Option Varnode) (inputs : List Varnode).
    Some (record i { ops = i.ops ++ record { code = code; out = out; inputs = inputs } ∷ [] })) (out_same l.out)
    (inputs_same l.inputs)

op_said : (s : PartialListing) (l : OpLine)
    → IsOrdered s
    → IsOpTold s.spaces l
    → first_fault (faults s (form.Op l)) ≡ None
    → (line : Line) × IsSaidAgain s (after s (form.Op l)) line
op_said s l o h none = by_code l.code refl (left_false _ _ (left_false _ _ p.1.0))
  where
    p : AllFalse (faults s (form.Op l))
    p = all_false (faults s (form.Op l)) none

    by_code : (c : Option Opcode)
        → l.code ≡ c
        → is_none c ≡ false
        → (line : Line) × IsSaidAgain s (after s (form.Op l)) line
    by_code None e known = absurd (never known)
    by_code (Some code) e known =
        let read = op_again s l code e h (right_false _ _ (left_false _ _ p.1.0)) (right_false _ _ p.1.0) in (
          op_line s.spaces (op_of l code),
          record {
            kept = op_kept s l code e o none;
            clean = read.clean;
            said =
                says s (after s (form.Op l)) _ (form.Op (canonical_op l)) refl read
                (ap first_fault (op_faults s l) ∙ none)
                (ap (λ (last : Option Instruction). record s { last = last; ops = s.ops + 1 })
                (with_same l l.code s.last));
          },
        )

said_again : (s : PartialListing) (f : Form)
    → IsFormed s
    → IsOrdered s
    → IsTold (is_two s.version) s.spaces s.protos f
    → first_fault (faults s f) ≡ None
    → (line : Line) × IsSaidAgain s (after s f) line
said_again s form.Nothing g o h none = absurd (never (all_false (faults s form.Nothing) none).0)
said_again s (form.Pcode n) g o h none =
    (version_line n, same_form s (form.Pcode n) _ refl none (pcode_kept s n g o none) (pcode_again s n h))
said_again s (form.Space l) g o h none = (
  space_line (version_of s.version) (space_of l),
  same_form s (form.Space l) _ refl none (space_kept s l g o none) (space_again s l h),
)
said_again s (form.Stack w) g o h none =
    let p : AllFalse (faults s (form.Stack w)) = all_false (faults s (form.Stack w)) none in (
      stack_line s.spaces (varnode w),
      same_form s (form.Stack w) _ refl none (stack_kept s w g o none)
          (stack_again s w g.spaces.formed h (not-false _ p.1.1.0)),
    )
said_again s (form.Proto l) g o h none =
    let p : AllFalse (faults s (form.Proto l)) = all_false (faults s (form.Proto l)) none in (
      proto_line s.spaces (proto_of l),
      same_form s (form.Proto l) _ refl none (proto_kept s l g o none) (proto_again s l g.spaces.formed h p.0 p.1.1.0),
    )
said_again s (form.Func l) g o h none =
    let p : AllFalse (faults s (form.Func l)) = all_false (faults s (form.Func l)) none in (
      function_line (codes "func") s.spaces s.protos (function_of l),
      same_form s (form.Func l) _ refl none (func_kept s l g o none)
          (func_again s l h.0 h.1 p.1.1.1.0 (left_false _ _ p.1.0)),
    )
said_again s (form.Callee l) g o h none =
    let p : AllFalse (faults s (form.Callee l)) = all_false (faults s (form.Callee l)) none in (
      function_line (codes "callee") s.spaces s.protos (function_of l),
      same_form s (form.Callee l) _ refl none (callee_kept s l g o none)
          (callee_again s l h.0 h.1 (right_false _ _ p.1.1.1.0) (left_false _ _ p.1.0)),
    )
said_again s (form.Bytes l) g o h none =
    let p : AllFalse (faults s (form.Bytes l)) = all_false (faults s (form.Bytes l)) none in (
      bytes_line s.spaces (record { space = number l.space; offset = l.offset; bytes = l.bytes }),
      same_form s (form.Bytes l) _ refl none (bytes_kept s l g o none) (bytes_again s l (not-false _ p.1.1.1.1.1.0) h),
    )
said_again s (form.At l) g o h none = (
  at_line (record { address = l.address; length = l.length; ops = [] }),
  same_form s (form.At l) _ refl none (at_kept s l o none) (at_again s l h.0 h.1),
)
said_again s (form.Op l) g o h none = op_said s l o h none
said_again s form.End g o h none = (codes "end", same_form s form.End _ refl none (end_kept s o none) (end_again s))

-- ---- line by line

-- the canonical lines of what was said say it again
pub record IsReread (s : PartialListing) : Type 0 where
  pub formed : IsFormed s
  pub ordered : IsOrdered s
  pub clean : AllByRecursion IsLine (said_lines s)
  pub number : ℕ
  pub read : advanced step (Going 1 start) (said_lines s) ≡ Going number s

advanced_more : (p : Progress PartialListing Why) (lines : List Line) (line : Line)
    → advanced step p (lines ++ line ∷ []) ≡ advance step (advanced step p lines) line
advanced_more p [] line = refl
advanced_more p (l ∷ lines) line = advanced_more (advance step p l) lines line

line_reread : (s t : PartialListing) (line : Line) → IsReread s → IsFormed t → IsSaidAgain s t line → IsReread t
line_reread s t line h formed g = record {
  formed = formed;
  ordered = g.kept.ordered;
  clean =
      subst (AllByRecursion IsLine) (sym g.kept.lines)
      (all_append IsLine (said_lines s) (line ∷ []) h.clean (g.clean, tt));
  number = h.number + 1;
  read =
      ap (advanced step (Going 1 start)) g.kept.lines
      ∙ advanced_more (Going 1 start) (said_lines s) line
      ∙ ap (λ (p : Progress PartialListing Why). advance step p line) h.read
      ∙ ap (moved h.number) g.said;
}

step_reread : (s t : PartialListing) (line : Line) → IsReread s → step s line ≡ Goes t → IsReread t
step_reread s t line h = by_skip (is_skipped line)
  where
    f : Form
    f = form_of s line

    by_fault : (fault : Option Why) → first_fault (faults s f) ≡ fault → stepped s f fault ≡ Goes t → IsReread t
    by_fault (Some w) is e = absurd (fails_not w t e)
    by_fault None is e =
        let again = said_again s f h.formed h.ordered (told s line) is in
        subst IsReread (goes_same _ _ e)
        (line_reread s (after s f) again.0 h (keeps s f h.formed (form_is s line) is) again.1)

    by_skip : (b : Bool) → (if b then Goes s else step_by s f) ≡ Goes t → IsReread t
    by_skip true e = subst IsReread (goes_same _ _ e) h
    by_skip false e = by_fault (first_fault (faults s f)) refl e

start_reread : IsReread start
start_reread = record {
  formed = start_formed;
  ordered = record { version = λ e. (refl, (refl, refl)); callees = λ e. refl; fixed = λ e. refl; last = λ e. refl };
  clean = tt;
  number = 1;
  read = refl;
}

-- ---- the whole text

text_again : (s : PartialListing) (version : ℕ) (func : Function)
    → s.ended ≡ true
    → s.version ≡ Some version
    → s.func ≡ Some func
    → IsReread s
    → reading (text_of (listing_of s version func)) ≡ Good (listing_of s version func)
text_again s version func e v f h =
    ap reading (text_is s version func e v f)
    ∙ ap (λ (ls : List Line). concluded fault_at finished (advanced step (Going 1 start) ls))
    (lines_are (said_lines s) h.clean)
    ∙ ap (concluded fault_at finished) h.read
    ∙ ap (λ (b : Bool). if b then whole s h.number s.version s.func else Bad (Syntax h.number)) e
    ∙ ap (λ (o : Option ℕ). whole s h.number o s.func) v ∙ ap (whole s h.number (Some version)) f

whole_again : (n : ℕ) (s : PartialListing) (l : Listing)
    → IsReread s
    → finished n s ≡ Good l
    → reading (text_of l) ≡ Good l
whole_again n s l h = by_end s.ended s.version s.func refl refl refl
  where
    by_end : (over : Bool) (version : Option ℕ) (func : Option Function)
        → s.ended ≡ over
        → s.version ≡ version
        → s.func ≡ func
        → (if over then whole s n version func else Bad (Syntax n)) ≡ Good l
        → reading (text_of l) ≡ Good l
    by_end false version func a b c e = absurd (bad_not _ _ e)
    by_end true None func a b c e = absurd (bad_not _ _ e)
    by_end true (Some v) None a b c e = absurd (bad_not _ _ e)
    by_end true (Some v) (Some g) a b c e =
        subst (λ (m : Listing). reading (text_of m) ≡ Good m) (good_same _ _ e) (text_again s v g a b c h)

-- the canonical text of a listing that is read says that listing
pub read_again : (bytes : List ℕ) (l : Listing) → reading bytes ≡ Good l → reading (text_of l) ≡ Good l
read_again =
    read_keeps step IsReread step_reread fault_at finished (λ l. reading (text_of l) ≡ Good l)
    whole_again start start_reread
