-- What is read next, numbered behind the variables of then.
use Rattle.std.proofs.Common.{◌≡◌, ℕ, ◌+◌, List, ◌∷◌, ◌++◌, length, sym, ap, ◌∙◌}
use Rattle.std.proofs.lemmas.List.{length-append}
use Rattle.pcode_model.specs.declared.listing.Varnode.{Varnode}
use Rattle.pcode_model.specs.declared.listing.Listing.{Listing}
use Rattle.pcode_model.specs.Step.{Operand}
use Rattle.blockcode.specs.declared.code.Variable.{Variable}
use Rattle.op_code.specs.Made.{Own, read_operand, reads, with_more}

-- the number behind the variables of then
pub grown_length : (variables then locals : List Variable)
    → then ≡ variables ++ locals
    → length variables + length locals ≡ length then
grown_length variables then locals grown = sym (length-append variables locals) ∙ ap length (sym grown)

module _ (l : Listing) (own : Own) (ranges : List Varnode) (variables then : List Variable) where
  pub reads_from : (x : Operand) (xs : List Operand)
      → then ≡ variables ++ (read_operand l own ranges (length variables) x).locals
      → reads l own ranges (length variables) (x ∷ xs)
      ≡ with_more (read_operand l own ranges (length variables) x) (reads l own ranges (length then) xs)
  reads_from x xs grown =
      let here = read_operand l own ranges (length variables) x in
      ap (λ n. with_more here (reads l own ranges n xs)) (grown_length variables then here.locals grown)
