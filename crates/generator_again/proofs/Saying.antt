-- What lines say, one after another.
use Rattle.std.proofs.Common.{◌≡◌, ◌∙◌, ◌+◌, ℕ, Bool, true, false, List, [], ◌∷◌, ◌++◌, ap, refl}
use Rattle.std.specs.Prelude.{Option, Some, None, if◌then◌else◌}
use Rattle.std.specs.List.{AllByRecursion}
use Rattle.listing_lines.specs.Text.{Line}
use Rattle.line_reader.specs.Faults.{first_fault}
use Rattle.line_reader.specs.Reading.{Progress, advance, advanced, concluded, moved}
use Rattle.line_reader.specs.Reading.Progress.{Going}
use Rattle.line_reader.specs.Reading.Read.{Bad, Good}
use Rattle.line_reader.specs.Reading.Step.{Goes}
use Rattle.listing_print.specs.Printed.{text_of}
use Rattle.pcode_model.specs.declared.listing.Function.{Function}
use Rattle.pcodetext.specs.declared.fault.TextFault.TheVariants.{Syntax}
use Rattle.pcodetext.specs.declared.fault.Why.{Why}
use Rattle.pcodetext.specs.declared.line_kinds.Form.{Form}
use Rattle.pcodetext.specs.declared.partial_listing.PartialListing.{PartialListing}
use Rattle.pcodetext.specs.LineKinds.{after, faults, form_of}
use Rattle.pcodetext.specs.Meaning.{fault_at, finished, is_skipped, listing_of, reading, start, step, step_by, stepped, whole}
use Rattle.listing_again.proofs.Cuts.{IsLine, all_append, lines_are}
use Rattle.listing_again.proofs.Growth.{said_lines, text_is}
use Rattle.listing_again.proofs.Lines.{IsReadAs}

-- Where this is said, these lines have no fault, and after them that is said.
pub record Says (s : PartialListing) (lines : List Line) (t : PartialListing) : Type 0 where
  pub clean : AllByRecursion IsLine lines
  pub read : (n : ℕ) → (m : ℕ) × (advanced step (Going n s) lines ≡ Going m t)

pub says_nothing : (s : PartialListing) → Says s [] s
says_nothing s = record { clean = tt; read = λ n. (n, refl) }

advanced_append : (p : Progress PartialListing Why) (xs ys : List Line)
    → advanced step p (xs ++ ys) ≡ advanced step (advanced step p xs) ys
advanced_append p [] ys = refl
advanced_append p (x ∷ xs) ys = advanced_append (advance step p x) xs ys

pub says_then : (s t u : PartialListing) (xs ys : List Line) → Says s xs t → Says t ys u → Says s (xs ++ ys) u
says_then s t u xs ys h g = record {
  clean = all_append IsLine xs ys h.clean g.clean;
  read =
      λ n.
      let first = h.read n in
      let second = g.read first.0 in (
        second.0,
        advanced_append (Going n s) xs ys
            ∙ ap (λ (p : Progress PartialListing Why). advanced step p ys) first.1
            ∙ second.1,
      );
}

line_said : (s t : PartialListing) (line : Line) (f : Form)
    → is_skipped line ≡ false
    → form_of s line ≡ f
    → first_fault (faults s f) ≡ None
    → after s f ≡ t
    → step s line ≡ Goes t
line_said s t line f skipped read none is =
    ap (λ (b : Bool). if b then Goes s else step_by s (form_of s line)) skipped
    ∙ ap (step_by s) read
    ∙ ap (stepped s f) none
    ∙ ap Goes is

-- A line that is read as a form without a fault says what the form says.
pub says_line : (s t : PartialListing) (line : Line) (f : Form)
    → is_skipped line ≡ false
    → IsReadAs s line f
    → first_fault (faults s f) ≡ None
    → after s f ≡ t
    → Says s (line ∷ []) t
says_line s t line f skipped h none is = record {
  clean = (h.clean, tt);
  read = λ n. (n + 1, ap (moved n) (line_said s t line f skipped h.read none is));
}

-- Where the canonical lines of what is said say it, the canonical text is that of its listing.
pub text_says : (s : PartialListing) (version : ℕ) (func : Function)
    → s.ended ≡ true
    → s.version ≡ Some version
    → s.func ≡ Some func
    → Says start (said_lines s) s
    → reading (text_of (listing_of s version func)) ≡ Good (listing_of s version func)
text_says s version func e v f h =
    let all = h.read 1 in
    ap reading (text_is s version func e v f)
    ∙ ap (λ (ls : List Line). concluded fault_at finished (advanced step (Going 1 start) ls))
    (lines_are (said_lines s) h.clean)
    ∙ ap (concluded fault_at finished) all.1
    ∙ ap (λ (b : Bool). if b then whole s all.0 s.version s.func else Bad (Syntax all.0)) e
    ∙ ap (λ (o : Option ℕ). whole s all.0 o s.func) v
    ∙ ap (whole s all.0 (Some version)) f
