use Rattle.std.proofs.Common.{◌≡◌, ◌∙◌, ◌++◌, [], ◌∷◌, sym, ap, subst}
use Rattle.std.specs.Prelude.{map, reverse}
use Rattle.std.proofs.lemmas.List.{append-nil}
use Rattle.blockcode.specs.Numbers.{ExitsBelow}
use Rattle.entry_block.specs.Entered.{shifted_block as block_shifted}
use Rattle.entry_block.proofs.Turned.{below_last, in_order, one_more}
use Rattle.entry_block.proofs.entered.shifted_blocks.Goals as goal

pub shifted_block-requires-clause-below : goal.shifted_block-requires-clause-below
shifted_block-requires-clause-below c =
    let all : ExitsBelow c.len-count.result (c.pop.new.self ++ c.in-Some.block ∷ []) =
    subst (λ bs. ExitsBelow c.len-count.result bs) c.in-Some.ensures c.loop-block.invariant.below in
    (below_last c.len-count.result c.pop.new.self c.in-Some.block all).1

pub loop-block-preserved : goal.loop-block-preserved
loop-block-preserved c =
    let f = block_shifted c.args.entry in
    let left = c.pop.new.self in
    let all : ExitsBelow c.len-count.result (left ++ c.in-Some.block ∷ []) =
    subst (λ bs. ExitsBelow c.len-count.result bs) c.in-Some.ensures c.loop-block.invariant.below in
    record {
      moved =
          ap (λ bs. bs ++ map f (reverse left)) c.in_ok-push.ensures.items
          ∙ ap (λ b. (c.loop-block.moved.items ++ b ∷ []) ++ map f (reverse left)) c.in_ok-shifted_block.ensures
          ∙ one_more f c.loop-block.moved.items left c.in-Some.block
          ∙ ap (λ bs. c.loop-block.moved.items ++ map f (reverse bs)) (sym c.in-Some.ensures)
          ∙ c.loop-block.invariant.moved;
      below = (below_last c.len-count.result left c.in-Some.block all).0;
    }

pub returns : goal.returns
returns c =
    let f = block_shifted c.args.entry in
    let none : c.loop-block.blocks ≡ [] = c.in_default.ensures.0 in
    let items : c.loop-block.moved.items ≡ map f (reverse c.args.blocks) =
    sym (append-nil c.loop-block.moved.items)
    ∙ ap (λ bs. c.loop-block.moved.items ++ map f (reverse bs)) (sym none)
    ∙ c.loop-block.invariant.moved in
    c.reverse.ensures.items ∙ ap reverse items ∙ in_order f c.args.blocks
