-- The text of a generated listing is read back as that listing.
use Rattle.std.proofs.Common.{◌≡◌, ◌+◌, ℕ, true, List, [], ◌∷◌, ◌++◌, refl, arith}
use Rattle.std.specs.Prelude.{codes, Option, Some}
use Rattle.line_reader.specs.Reading.Read.{Good}
use Rattle.listing_print.specs.Printed.{text_of}
use Rattle.pcode_model.specs.declared.listing.Instruction.{Instruction}
use Rattle.pcodetext.specs.declared.line_kinds.Form.TheVariants as form
use Rattle.pcodetext.specs.declared.partial_listing.PartialListing.{PartialListing}
use Rattle.pcodetext.specs.Meaning.{reading, start}
use Rattle.listing_again.proofs.Growth.{code_lines}
use Rattle.listing_again.proofs.Lines.{end_again}
use Rattle.generator.specs.declared.draws.Drawn.{Drawn}
use Rattle.generator.specs.Draws.{drawn_at}
use Rattle.generator.specs.Generated.{code_of, function, generated, generated_text, instructions, listing_of, placed, returning, spaces}
use Rattle.generator.specs.Fit.{AreFit}
use Rattle.generator_again.proofs.Coded.{CodeSaid, code_says, more_says, returning_prints}
use Rattle.generator.proofs.Fits.{drawn_fits}
use Rattle.generator_again.proofs.Header.{before_code, header_lines, header_says}
use Rattle.generator_again.proofs.Ops.{coded}
use Rattle.generator_again.proofs.Saying.{Says, says_line, says_then, text_says}

-- after `end`
abbrev over : List Instruction → Option Instruction → ℕ → PartialListing
over done last ops = record (coded done last ops) { ended = true }

end_says : (done : List Instruction) (i : Instruction) (n : ℕ)
    → Says (coded done (Some i) n) (codes "end" ∷ []) (over done (Some i) n)
end_says done i n = says_line _ _ _ form.End refl (end_again (coded done (Some i) n)) refl refl

module _ (draws : ℕ → Drawn) (fit : AreFit draws) where
  said : CodeSaid draws fit 2000
  said = code_says draws fit 2000 (omega arith)

  last : Instruction
  last = placed 2000 returning

  all_says : Says start (header_lines ++ (code_lines spaces (code_of draws) ++ codes "end" ∷ []))
      (over (instructions draws 2000) (Some (placed 2000 returning)) (said.ops + 1))
  all_says =
      says_then start before_code _ _ _ header_says
      (says_then before_code (coded (instructions draws 2000) (Some (placed 2000 returning)) (said.ops + 1)) _ _ _
      (more_says draws fit 2000 said.ops returning (omega arith) returning_prints (omega (arith, said.few)) said.said)
      (end_says (instructions draws 2000) (placed 2000 returning) (said.ops + 1)))

  -- The text of the listing of any draws that fit is read back as that listing.
  pub listing_read : reading (text_of (listing_of draws)) ≡ Good (listing_of draws)
  listing_read =
      text_says (over (instructions draws 2000) (Some (placed 2000 returning)) (said.ops + 1)) 1 function refl refl refl
      all_says

-- The text with any number is read as the listing with that number.
pub generated_read : (number : ℕ) → reading (generated_text number) ≡ Good (generated number)
unfolding generated
generated_read number = listing_read (drawn_at number) (drawn_fits number)
