-- Flags of the blocks that gotos name.
use Rattle.std.proofs.Common.{◌≡◌, ℕ, suc, ◌+◌, Bool, true, false, List, [], drop, refl, sym, ap, ◌∙◌, Some, arith}
use Rattle.std.specs.Prelude.{slice_get}
use Rattle.pcode_model.specs.Spaces.{or}
use Rattle.blockcode.specs.declared.code.Block.{Block}
use Rattle.blockcode.specs.Laid.{exit_names, blocks_name}
use Rattle.blockcode.proofs.Straight.{dropped}

or_false : (a : Bool) → or a false ≡ a
or_false true = refl
or_false false = refl

or_turned : (e o r : Bool) → or (or e o) r ≡ or o (or e r)
or_turned true true r = refl
or_turned true false r = refl
or_turned false true r = refl
or_turned false false r = refl

-- a block's exit was marked
pub mark_next : (old new : Bool) (blocks : List Block) (n : ℕ) (x : Block) (b : ℕ) (is : Bool)
    → slice_get blocks n ≡ Some x
    → or old (blocks_name n (drop n blocks) b) ≡ is
    → new ≡ or (exit_names (n + 1) x.exit b) old
    → or new (blocks_name (n + 1) (drop (n + 1) blocks) b) ≡ is
mark_next old new blocks n x b is get was marked =
    let s : n + 1 ≡ suc n = omega arith in
    let r = blocks_name (suc n) (drop (suc n) blocks) b in
    let e = exit_names (suc n) x.exit b in
    ap (λ k. or new (blocks_name k (drop k blocks) b)) s
    ∙ ap (λ v. or v r) (marked ∙ ap (λ k. or (exit_names k x.exit b) old) s)
    ∙ or_turned e old r
    ∙ sym (ap (λ xs. or old (blocks_name n xs b)) (dropped blocks n x get))
    ∙ was

-- all exits were marked
pub mark_last : (old : Bool) (blocks : List Block) (n b : ℕ) (is : Bool)
    → drop n blocks ≡ []
    → or old (blocks_name n (drop n blocks) b) ≡ is
    → old ≡ is
mark_last old blocks n b is none was = sym (or_false old) ∙ sym (ap (λ xs. or old (blocks_name n xs b)) none) ∙ was
