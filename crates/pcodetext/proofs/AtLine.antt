-- The line that begins an instruction: what its form has, and that it keeps to the rules.
use Rattle.std.proofs.Common.{◌≡◌, ◌∙◌, ◌<◌, ◌+◌, ◌^◌, ℕ, false, List, [], ◌∷◌, ◌++◌, refl, arith}
use Rattle.std.specs.Prelude.{Option, Some, None, IfSome}
use Rattle.std.specs.Option.{is_none, option_to_list}
use Rattle.line_reader.proofs.Faults.{AllFalse, all_false}
use Rattle.listing_lines.specs.Text.{Line}
use Rattle.listing_lines.specs.Tokens.{decimal_of, hexadecimal_of}
use Rattle.listing_lines.proofs.Numbers.{decimal_small}
use Rattle.pcode_model.specs.declared.listing.Instruction.{Instruction}
use Rattle.pcode_model.specs.WellFormed.{HasKnownOps, HasOps, IsShort, total_ops}
use Rattle.pcodetext.specs.declared.partial_listing.PartialListing.{PartialListing}
use Rattle.pcodetext.specs.declared.at_line.AtLine.{AtLine}
use Rattle.pcodetext.specs.declared.line_kinds.Form.TheVariants as form
use Rattle.pcodetext.specs.AtLine.{at_faults, at_form, at_made}
use Rattle.pcodetext.proofs.FormIs.{IsForm, Known}
use Rattle.pcodetext.proofs.Formed.{Keeps}
use Rattle.pcodetext.proofs.Instructions.{apart_more, total_more}
use Rattle.pcodetext.proofs.Passing.{all_snoc, left_false, never, not_both, zero_false}

at_made_is : (n : Known) (address size : Option ℕ) → IfSome size (λ k. k < 10 ^ 5) → IsForm n (at_made address size)
at_made_is n None size few = tt
at_made_is n (Some a) None few = tt
at_made_is n (Some a) (Some l) few = few

pub at_form_is : (n : Known) (parts : List Line) → IsForm n (at_form parts)
at_form_is n [] = tt
at_form_is n (a ∷ []) = tt
at_form_is n (a ∷ b ∷ []) = at_made_is n (hexadecimal_of a) (decimal_of b) (decimal_small b)
at_form_is n (a ∷ b ∷ c ∷ parts) = tt

pub at_keeps : (s : PartialListing) (l : AtLine) → Keeps s (form.At l)
at_keeps s l f is h =
    let p : AllFalse (at_faults s l) = all_false (at_faults s l) h in
    let opened : is_none s.func ≡ false = left_false _ _ p.0 in
    let i : Instruction = record { address = l.address; length = l.length; ops = [] } in
    let code : List Instruction = s.done ++ option_to_list s.last in
    let same : total_ops (code ++ i ∷ []) ≡ s.ops = total_more code i ∙ plus_none (total_ops code) ∙ f.code.total in
    record {
      version = f.version;
      spaces = f.spaces;
      stack = f.stack;
      protos = f.protos;
      functions = f.functions;
      fixed = f.fixed;
      code = record {
        apart = apart_more s.done s.last i f.code.apart f.code.first p.1.0 (zero_false _ p.1.1.0);
        first = λ e. absurd (never e);
        formed = all_snoc HasOps code i f.code.formed tt;
        known = all_snoc (HasKnownOps s.spaces) code i f.code.known tt;
        short = all_snoc IsShort code i f.code.short is;
        total = same;
        few = f.code.few;
        closed = λ e. refl;
      };
      no_func = f.no_func;
      early = λ z. absurd (not_both s.func opened z);
    }
  where
    plus_none : (n : ℕ) → n + 0 ≡ n
    plus_none n = omega arith
