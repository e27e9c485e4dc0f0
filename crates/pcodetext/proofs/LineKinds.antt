-- Every kind of line: what the form of a line has, and that a line without a fault keeps to the rules.
use Rattle.std.proofs.Common.{ℕ, List, [], ◌∷◌, length}
use Rattle.std.specs.Prelude.{◌==◌, codes, if◌then◌else◌}
use Rattle.std.specs.Str.{bytes_eq}
use Rattle.listing_lines.specs.Text.{Line, parts_of}
use Rattle.pcodetext.specs.declared.partial_listing.PartialListing.{PartialListing}
use Rattle.pcodetext.specs.declared.line_kinds.Form.{Form}
use Rattle.pcodetext.specs.declared.line_kinds.Form.TheVariants as form
use Rattle.pcodetext.specs.LineKinds.{form_by, form_of, head_form, is_two}
use Rattle.pcodetext.proofs.FormIs.{IsForm, either, known_of}
use Rattle.pcodetext.proofs.Formed.{Keeps}
use Rattle.pcodetext.proofs.AtLine.{at_form_is, at_keeps}
use Rattle.pcodetext.proofs.BytesLine.{bytes_form_is, bytes_keeps}
use Rattle.pcodetext.proofs.EndLine.{end_form_is, end_keeps}
use Rattle.pcodetext.proofs.FunctionLine.{callee_form_is, callee_keeps, func_form_is, func_keeps}
use Rattle.pcodetext.proofs.OpLine.{op_form_is, op_keeps}
use Rattle.pcodetext.proofs.PcodeLine.{pcode_form_is, pcode_keeps}
use Rattle.pcodetext.proofs.ProtoLine.{proto_form_is, proto_keeps}
use Rattle.pcodetext.proofs.SpaceLine.{space_form_is, space_keeps}
use Rattle.pcodetext.proofs.StackLine.{stack_form_is, stack_keeps}

module _ (s : PartialListing) (word : Line) (parts : List Line) where
  -- a line by its first word, where that is one of two
  by_word : (name : List ℕ) (x y : Form)
      → IsForm (known_of s) x
      → IsForm (known_of s) y
      → IsForm (known_of s) (if bytes_eq word name then x else y)
  by_word name x y = either (known_of s) (bytes_eq word name) x y

  head_is : IsForm (known_of s) (head_form s word parts)
  head_is =
      by_word (codes "pcode") _ _ (pcode_form_is (known_of s) parts)
      (by_word (codes "space") _ _ (space_form_is (known_of s) parts)
      (by_word (codes "stack") _ _ (stack_form_is (is_two s.version) s.spaces s.protos parts)
      (by_word (codes "proto") _ _ (proto_form_is (is_two s.version) s.spaces s.protos parts)
      (by_word (codes "func") _ _ (func_form_is (is_two s.version) s.spaces s.protos parts)
      (by_word (codes "end") _ form.Nothing (end_form_is (known_of s) parts) (tt {0}))))))

  by_word_is : IsForm (known_of s) (form_by s (word ∷ parts))
  by_word_is =
      either (known_of s) (length {A = ℕ} word == 0) _ _ (op_form_is (is_two s.version) s.spaces s.protos parts)
      (by_word (codes "at") _ _ (at_form_is (known_of s) parts)
      (by_word (codes "bytes") _ _ (bytes_form_is (known_of s) s.spaces parts)
      (by_word (codes "callee") _ _ (callee_form_is (is_two s.version) s.spaces s.protos parts) head_is)))

pub form_is : (s : PartialListing) (line : Line) → IsForm (known_of s) (form_of s line)
form_is s line = by_parts (parts_of 32 line)
  where
    by_parts : (parts : List Line) → IsForm (known_of s) (form_by s parts)
    by_parts [] = tt
    by_parts (word ∷ parts) = by_word_is s word parts

-- a line that keeps to the rules, whatever its form
pub keeps : (s : PartialListing) (l : Form) → Keeps s l
keeps s (form.Pcode n) f is h = pcode_keeps s n f is h
keeps s (form.Space l) f is h = space_keeps s l f is h
keeps s (form.Stack w) f is h = stack_keeps s w f is h
keeps s (form.Proto l) f is h = proto_keeps s l f is h
keeps s (form.Func l) f is h = func_keeps s l f is h
keeps s (form.Callee l) f is h = callee_keeps s l f is h
keeps s (form.Bytes l) f is h = bytes_keeps s l f is h
keeps s (form.At l) f is h = at_keeps s l f is h
keeps s (form.Op l) f is h = op_keeps s l f is h
keeps s form.End f is h = end_keeps s f is h
keeps s form.Nothing f is h = f
