use Rattle.std.proofs.Common.{◌≡◌, ◌∙◌, Bool, ap, ap₂, sym}
use Rattle.std.specs.Prelude.{◌&&◌, ◌||◌}
use Rattle.std.specs.List.{list_any}
use Rattle.listing_lines.specs.Text.{Line}
use Rattle.pcode_model.specs.Functions.{has_address}
use Rattle.pcodetext.specs.FunctionLine.{is_first_ram}
use Rattle.pcodetext.specs.Tables.{has_name}
use Rattle.pcodetext.proofs.FunctionLine.{taken_is}
use Rattle.pcodetext.proofs.partial_listing.PartialListing.is_callee.Goals as goal

pub returns-then-has_name : goal.returns-then-has_name
returns-then-has_name c =
    let l = c.args.line.now in
    let fs = c.args.self.now.callees in
    let first : Bool = is_first_ram c.args.self.now.spaces l.space in
    let named : c.has_name.result ≡ list_any (has_name l.name) fs =
    c.has_name.ensures ∙ ap (λ (name : Line). list_any (has_name name) fs) c.as_slice.ensures in
    c.if-has_name.true
    ∙ sym (taken_is c.args.self.now.spaces l fs
    ∙ ap (λ (t : Bool). t || (first && list_any (has_address l.address) fs)) (sym named ∙ c.if-has_name.true))

pub returns-then-is_first_ram : goal.returns-then-is_first_ram
returns-then-is_first_ram c =
    let l = c.args.line.now in
    let fs = c.args.self.now.callees in
    let named : c.has_name.result ≡ list_any (has_name l.name) fs =
    c.has_name.ensures ∙ ap (λ (name : Line). list_any (has_name name) fs) c.as_slice.ensures in
    c.has_address.ensures
    ∙ sym (taken_is c.args.self.now.spaces l fs
    ∙ ap₂ (λ (t u : Bool). t || (u && list_any (has_address l.address) fs)) (sym named ∙ c.if-has_name.false)
    (sym c.is_first_ram.ensures ∙ c.if-is_first_ram.true))
