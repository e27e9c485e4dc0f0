-- What a line does is what its form does.
use Rattle.std.proofs.Common.{◌≡◌, ◌∙◌, subst, sym}
use Rattle.std.specs.Prelude.{Result}
use Rattle.listing_lines.specs.Text.{Line}
use Rattle.line_reader.specs.declared.fault.LineFault.{LineFault}
use Rattle.line_reader.specs.Answer.{Does}
use Rattle.pcode_model.specs.declared.listing.Listing.{Listing}
use Rattle.entrytext.specs.declared.fault.Why.{Why}
use Rattle.entrytext.specs.declared.form.Form.{Form}
use Rattle.entrytext.specs.declared.partial_entry.PartialEntry.{PartialEntry}
use Rattle.entrytext.specs.Forms.{form_of}
use Rattle.entrytext.specs.Meaning.{step, step_by}

pub by_form : {T : Type 0} (l : Listing) (s new : PartialEntry) (line : Line) (f g : Form)
    (result : Result T (LineFault Why))
    → f ≡ form_of l line
    → f ≡ g
    → Does (step_by l s g) new result
    → Does (step l s line) new result
by_form l s new line f g result is e does = subst (λ h. Does (step_by l s h) new result) (sym e ∙ is) does
