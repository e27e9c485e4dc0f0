use Rattle.std.proofs.Common.{List, rules, subst, sym}
use Rattle.std.specs.List.Sorted.{IsNonDecreasingBy}
use Rattle.std.proofs.lemmas.List.Sorted.{IsNonDecreasingBy-from_sort_by_key}
use Rattle.std.proofs.lemmas.Result.{IfOk-weaker}
use Rattle.stackvars.specs.declared.sweep.Mark.{Mark}
use Rattle.stackvars.specs.Sweep.{ArePieces, position_of}
use Rattle.stackvars.proofs.Swept.{pieces_moved}
use Rattle.stackvars.proofs.sweep.pieces.Goals as goal

pub sweep-requires : goal.sweep-requires
sweep-requires c =
    let sorted : List Mark = c.sort_by_key.new.self.items in
    let up : IsNonDecreasingBy position_of sorted =
    IsNonDecreasingBy-from_sort_by_key position_of sorted c.in_ok-sort_by_key.ensures.sorted
    (λ a r q k. search rules)
    in
    subst (λ (ms : List Mark). IsNonDecreasingBy position_of ms) (sym c.deref.ensures.value) up

pub returns : goal.returns
returns c =
    IfOk-weaker c.sweep.result _ _
    (λ ps are.
    pieces_moved c.args.marks.items c.sort_by_key.new.self.items c.in_ok-sort_by_key.ensures.permutation ps.items
    (subst (λ (ms : List Mark). ArePieces ms ps.items) c.deref.ensures.value are))
    c.sweep.ensures
