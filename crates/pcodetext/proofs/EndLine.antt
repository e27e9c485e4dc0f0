-- The line `end`: what its form has, and that it keeps to the rules.
use Rattle.std.proofs.Common.{◌≡◌, true, false, List, [], ◌∷◌, refl}
use Rattle.std.specs.Prelude.{Option, Some, None}
use Rattle.std.specs.Option.{is_none, is_some}
use Rattle.line_reader.proofs.Faults.{AllFalse, all_false}
use Rattle.listing_lines.specs.Text.{Line}
use Rattle.pcode_model.specs.declared.listing.Instruction.{Instruction}
use Rattle.pcodetext.specs.declared.partial_listing.PartialListing.{PartialListing}
use Rattle.pcodetext.specs.declared.line_kinds.Form.TheVariants as form
use Rattle.pcodetext.specs.EndLine.{end_faults, end_form}
use Rattle.pcodetext.proofs.FormIs.{IsForm, Known}
use Rattle.pcodetext.proofs.Formed.{Keeps}
use Rattle.pcodetext.proofs.Passing.{left_false, never}

pub end_form_is : (n : Known) (parts : List Line) → IsForm n (end_form parts)
end_form_is n [] = tt
end_form_is n (p ∷ parts) = tt

pub end_keeps : (s : PartialListing) → Keeps s form.End
end_keeps s f is h =
    let p : AllFalse (end_faults s) = all_false (end_faults s) h in
    record {
      version = f.version;
      spaces = f.spaces;
      stack = f.stack;
      protos = f.protos;
      functions = f.functions;
      fixed = f.fixed;
      code = record {
        apart = f.code.apart;
        first = f.code.first;
        formed = f.code.formed;
        known = f.code.known;
        short = f.code.short;
        total = f.code.total;
        few = f.code.few;
        closed = λ e. some_is s.last (left_false _ _ p.0);
      };
      no_func = f.no_func;
      early = λ z. let e = f.early z in record { callees = e.callees; fixed = e.fixed; done = e.done; last = e.last };
    }
  where
    some_is : (o : Option Instruction) → is_none o ≡ false → is_some o ≡ true
    some_is None e = absurd (never e)
    some_is (Some i) e = refl
