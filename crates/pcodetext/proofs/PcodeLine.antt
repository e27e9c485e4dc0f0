-- The line `pcode N`: what its form has, and that it keeps to the rules.
use Rattle.std.proofs.Common.{◌≡◌, ◌⊎◌, inl, inr, ℕ, Bool, true, false, List, [], ◌∷◌, length, refl}
use Rattle.std.specs.Prelude.{◌==◌, ◌&&◌, ◌||◌, not, Option, Some, None}
use Rattle.std.specs.Option.{is_none, is_some}
use Rattle.std.proofs.lemmas.Bool.{eqb-true}
use Rattle.line_reader.proofs.Faults.{AllFalse, all_false}
use Rattle.listing_lines.specs.Text.{Line}
use Rattle.listing_lines.specs.Tokens.{decimal_of}
use Rattle.pcode_model.specs.declared.listing.Function.{Function}
use Rattle.pcode_model.specs.declared.listing.Space.{Space}
use Rattle.pcodetext.specs.declared.partial_listing.PartialListing.{PartialListing}
use Rattle.pcodetext.specs.declared.line_kinds.Form.TheVariants as form
use Rattle.pcodetext.specs.LineKinds.{is_two}
use Rattle.pcodetext.specs.PcodeLine.{pcode_faults, pcode_form, pcode_made}
use Rattle.pcodetext.proofs.FormIs.{IsForm, Known}
use Rattle.pcodetext.proofs.Formed.{KeepFunctions, KeepSpaces, Keeps}
use Rattle.pcodetext.proofs.Passing.{never}

pcode_made_is : (n : Known) (o : Option ℕ) → IsForm n (pcode_made o)
pcode_made_is n None = tt
pcode_made_is n (Some v) = tt

pub pcode_form_is : (n : Known) (parts : List Line) → IsForm n (pcode_form parts)
pcode_form_is n [] = tt
pcode_form_is n (a ∷ []) = pcode_made_is n (decimal_of a)
pcode_form_is n (a ∷ b ∷ parts) = tt

is_one : (n : ℕ) (a b : Bool) → (n == 1) ≡ a → (n == 2) ≡ b → not (a || b) ≡ false → (n ≡ 1) ⊎ (n ≡ 2)
is_one n true b p q e = inl (eqb-true n 1 p)
is_one n false true p q e = inr (eqb-true n 2 q)
is_one n false false p q e = absurd (never e)

version_is : (v : Option ℕ) (n : ℕ)
    → (is_none v && not (n == 1 || n == 2)) ≡ false
    → is_some v ≡ false
    → (n ≡ 1) ⊎ (n ≡ 2)
version_is None n e g = is_one n (n == 1) (n == 2) refl refl e
version_is (Some v) n e g = absurd (never g)

not_two : (v : Option ℕ) → is_some v ≡ false → is_two v ≡ false
not_two None e = refl
not_two (Some v) e = absurd (never e)

-- ---- the first line may say another version, where none was said

spaces_of_version : (old two : Bool) (spaces : List Space) → old ≡ false → KeepSpaces old spaces → KeepSpaces two spaces
spaces_of_version old two spaces none f = record {
  formed = f.formed;
  words = f.words;
  named = f.named;
  few = f.few;
  distinct = f.distinct;
  no_stack = f.no_stack;
  one = λ e. f.one none;
}

functions_of_version :
    (old two : Bool) (spaces : List Space) (protos : ℕ) (func : Option Function) (callees : List Function)
    → old ≡ false
    → KeepFunctions old spaces protos func callees
    → KeepFunctions two spaces protos func callees
functions_of_version old two spaces protos func callees none f = record {
  func = f.func;
  func_named = f.func_named;
  returns = f.returns;
  callees = f.callees;
  named = f.named;
  few = f.few;
  names = f.names;
  addresses = f.addresses;
  one = λ e. f.one none;
}

pub pcode_keeps : (s : PartialListing) (n : ℕ) → Keeps s (form.Pcode n)
pcode_keeps s n f is h =
    let p : AllFalse (pcode_faults s n) = all_false (pcode_faults s n) h in
    let none : is_two s.version ≡ false = not_two s.version p.1.0 in
    let protos : ℕ = length s.protos in
    record {
      version = version_is s.version n p.0 p.1.0;
      spaces = spaces_of_version (is_two s.version) (n == 2) s.spaces none f.spaces;
      stack = f.stack;
      protos = f.protos;
      functions = functions_of_version (is_two s.version) (n == 2) s.spaces protos s.func s.callees none f.functions;
      fixed = f.fixed;
      code = f.code;
      no_func = f.no_func;
      early = λ z. let e = f.early z in record { callees = e.callees; fixed = e.fixed; done = e.done; last = e.last };
    }
