-- The line `stack VN`: what its form has, and that it keeps to the rules.
use Rattle.std.proofs.Common.{◌≡◌, ◌<◌, ◌^◌, Bool, false, List, [], ◌∷◌, length, arith}
use Rattle.std.specs.Prelude.{◌==◌, ◌||◌, nat_le, not, Option, Some, None, IfSome}
use Rattle.std.proofs.lemmas.Bool.{not-false, eqb-true}
use Rattle.line_reader.proofs.Faults.{AllFalse, all_false}
use Rattle.listing_lines.specs.Text.{Line}
use Rattle.pcode_model.specs.declared.listing.Proto.{Proto}
use Rattle.pcode_model.specs.declared.listing.Space.{Space}
use Rattle.pcode_model.specs.declared.listing.SpaceKind.TheVariants.{Register}
use Rattle.pcode_model.specs.Spaces.{address_bytes}
use Rattle.pcode_model.specs.WellFormed.{IsStackPointer}
use Rattle.pcodetext.specs.declared.partial_listing.PartialListing.{PartialListing}
use Rattle.pcodetext.specs.declared.line_kinds.Form.TheVariants as form
use Rattle.pcodetext.specs.declared.written.Written.{Written}
use Rattle.pcodetext.specs.Checks.{is_of_kind, leaves_space}
use Rattle.pcodetext.specs.Convert.{varnode}
use Rattle.pcodetext.specs.StackLine.{stack_faults, stack_form, stack_made}
use Rattle.pcodetext.specs.Written.{range_of}
use Rattle.pcodetext.proofs.FormIs.{IsForm, IsWritten, Known, known}
use Rattle.pcodetext.proofs.Formed.{Keeps, no_protos}
use Rattle.pcodetext.proofs.Passing.{le_false, left_false, no_length, right_false}
use Rattle.pcodetext.proofs.RangeForms.{range_small}
use Rattle.pcodetext.proofs.Ranges.{register_is}

stack_made_is : (n : Known) (o : Option Written) → IfSome o (IsWritten n.spaces) → IsForm n (stack_made o)
stack_made_is n None h = tt
stack_made_is n (Some w) h = h

pub stack_form_is : (two : Bool) (spaces : List Space) (protos : List Proto) (parts : List Line)
    → IsForm (known two spaces protos) (stack_form spaces parts)
stack_form_is two spaces protos [] = tt
stack_form_is two spaces protos (a ∷ []) =
    stack_made_is (known two spaces protos) (range_of spaces a) (range_small spaces a)
stack_form_is two spaces protos (a ∷ b ∷ parts) = tt

-- a stack pointer is as wide as the first ram space's offsets
stack_is : (spaces : List Space) (w : Written)
    → w.size < 10 ^ 5
    → not (is_of_kind Register spaces w.space) ≡ false
    → (nat_le w.size 1 || not (w.size == address_bytes spaces)) ≡ false
    → leaves_space spaces w ≡ false
    → IsStackPointer spaces (varnode w)
stack_is spaces w few kind size inside =
    let wide : 1 < w.size = le_false _ _ (left_false _ _ size) in
    record {
      register = register_is spaces w (not-false _ kind) (omega arith) few inside;
      wide = eqb-true _ _ (not-false _ (right_false _ _ size));
      some = omega arith;
    }

pub stack_keeps : (s : PartialListing) (w : Written) → Keeps s (form.Stack w)
stack_keeps s w f is h =
    let p : AllFalse (stack_faults s w) = all_false (stack_faults s w) h in
    let none : length s.protos ≡ 0 = no_length _ (right_false _ _ p.0) in
    record {
      version = f.version;
      spaces = f.spaces;
      stack = stack_is s.spaces w is.size p.1.1.0 p.1.1.1.0 p.1.1.1.1.0;
      protos = no_protos s.spaces (Some (varnode w)) s.protos none;
      functions = f.functions;
      fixed = f.fixed;
      code = f.code;
      no_func = f.no_func;
      early = λ z. let e = f.early z in record { callees = e.callees; fixed = e.fixed; done = e.done; last = e.last };
    }
