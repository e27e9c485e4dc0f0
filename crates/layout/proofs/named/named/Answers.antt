use Rattle.std.proofs.Common.{◌≡◌, ◌<◌, false, List, [], length, drop, refl, ap, ◌∙◌, subst, Some, arith}
use Rattle.std.proofs.lemmas.List.{drop_all}
use Rattle.std.proofs.lemmas.Option.{slice_get_read}
use Rattle.std.specs.Prelude.{slice_get}
use Rattle.std.specs.List.{slice_index_or}
use Rattle.blockcode.specs.declared.code.Block.{Block}
use Rattle.blockcode.specs.Laid.{is_named}
use Rattle.layout.proofs.Flags.{mark_next, mark_last}
use Rattle.layout.proofs.named.named.Goals as goal

pub loop-n-preserved : goal.loop-n-preserved
loop-n-preserved c =
    let n = c.loop-n.n in
    let blocks = c.args.code.now.blocks in
    let x = c.index-blocks-n.result in
    let long = c.loop-n.invariant.long in
    let lt : n < length c.as_slice-blocks.result.now = omega arith in
    let got : slice_get c.as_slice-blocks.result.now n ≡ Some x =
    slice_get_read c.as_slice-blocks.result.now (length c.as_slice-blocks.result.now) n x refl lt
    c.index-blocks-n.is in
    let P : List Block → Type 0 = λ xs. slice_get xs n ≡ Some x in
    let get : slice_get blocks n ≡ Some x = subst P c.as_slice-blocks.ensures got in
    record {
      long = c.mark_exit.ensures.length ∙ long;
      flags = λ b below. mark_next (slice_index_or c.loop-n.named.items b false)
          (slice_index_or c.mark_exit.new.named.items b false) blocks n x b (is_named c.args.code.now b) get
          (c.loop-n.invariant.flags b below)
          (c.mark_exit.ensures.flags b (omega (arith, below, long, c.mark_exit.ensures.length)));
    }

pub returns-clause-flags : goal.returns-clause-flags
returns-clause-flags c =
    let blocks = c.args.code.now.blocks in
    let none : drop c.loop-n.n blocks ≡ [] =
    drop_all c.loop-n.n blocks (omega (arith, ap length c.as_slice-blocks.ensures)) in
    λ b below. mark_last (slice_index_or c.loop-n.named.items b false) blocks c.loop-n.n b (is_named c.args.code.now b)
    none (c.loop-n.invariant.flags b below)
