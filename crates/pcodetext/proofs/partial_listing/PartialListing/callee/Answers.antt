use Rattle.std.proofs.Common.{◌≡◌, ◌∙◌, true, false, ap, sym}
use Rattle.std.specs.List.{list_any}
use Rattle.std.proofs.lemmas.Bool.{not-false}
use Rattle.pcode_model.specs.declared.listing.Function.{Function}
use Rattle.pcode_model.specs.Functions.{has_address}
use Rattle.pcodetext.specs.Checks.{leaves_known}
use Rattle.pcodetext.specs.FunctionLine.{is_first_ram, is_taken_by}
use Rattle.pcodetext.specs.Tables.{has_name}
use Rattle.pcodetext.proofs.Passing.{left_false, right_false}
use Rattle.pcodetext.proofs.FunctionLine.{free_address, free_name}
use Rattle.pcodetext.proofs.partial_listing.PartialListing.callee.Goals as goal

pub push-requires-clause-other_name : goal.push-requires-clause-other_name
push-requires-clause-other_name c =
    let free : list_any (is_taken_by c.args.self.now.spaces c.args.line) c.args.self.now.callees ≡ false =
    right_false _ _ (sym c.is_taken.ensures ∙ c.if-is_taken.false) in
    ap (λ (f : Function). list_any (has_name f.name) c.args.self.now.callees) c.function.ensures
    ∙ free_name c.args.self.now.spaces c.args.line c.args.self.now.callees free

pub push-requires-clause-other_address : goal.push-requires-clause-other_address
push-requires-clause-other_address c =
    let free : list_any (is_taken_by c.args.self.now.spaces c.args.line) c.args.self.now.callees ≡ false =
    right_false _ _ (sym c.is_taken.ensures ∙ c.if-is_taken.false) in
    let first : is_first_ram c.args.self.now.spaces c.args.line.space ≡ true =
    not-false _ (left_false _ (leaves_known c.args.self.now.spaces c.args.line.space c.args.line.address 1)
    (sym c.is_misplaced.ensures ∙ c.if-is_misplaced.false)) in
    ap (λ (f : Function). list_any (has_address f.address) c.args.self.now.callees) c.function.ensures
    ∙ free_address c.args.self.now.spaces c.args.line c.args.self.now.callees free first
