-- The blocks of the plain lowering suit its head.
use Rattle.std.proofs.Common.{ℕ, ◌+◌, ◌≤◌, ◌^◌, List, [], ◌∷◌, length, refl, sym, subst}
use Rattle.std.specs.List.{AllByRecursion}
use Rattle.pcode_model.specs.declared.listing.Listing.{Listing}
use Rattle.pcode_model.specs.declared.tables.TableAt.{TableAt}
use Rattle.pcode_model.specs.declared.atoms.Atom.{Atom}
use Rattle.pcode_model.specs.Memory.{Frame}
use Rattle.pcode_model.specs.declared.flow.Block as flow_block
use Rattle.pcode_model.specs.WellFormed.{IsNamedSpace}
use Rattle.cmeaning.specs.declared.tree.Stmt.{Stmt}
use Rattle.naming.specs.declared.head.Head.{Head}
use Rattle.naming.specs.Run.{widths_of}
use Rattle.blockcode.specs.declared.code.Block.{Block}
use Rattle.blockcode.specs.declared.code.Exit.{Exit}
use Rattle.layout.specs.Suits.{AllSuit}
use Rattle.plain_valid.proofs.Callees.{AllCalled, IsDeclared, all_declared}
use Rattle.op_code.specs.Lowered.{lowered, ranges_of}
use Rattle.op_code.specs.Lowerable.{IsLowerable}
use Rattle.plain_valid.specs.Function.{plain_head}
use Rattle.plain_valid.specs.Long.{HasLong}
use Rattle.plain_valid.proofs.EachKind.{AllHold, Kinds}
use Rattle.plain_valid.proofs.Statements.{BlockSuits, Suit, suit_kinds}
use Rattle.plain_valid.proofs.Valid.{few_declared, head, variables_declared, widths_kept}
use Rattle.plain_valid.proofs.Whole.{each_block}

-- What holds of each kind of statement and exit by the head's variables holds of all blocks.
pub below_head : (l : Listing) (t : List TableAt) (f : Frame) (blocks : List flow_block.Block) (atoms : List Atom)
    (P : List Stmt → Type 0) (B : List Stmt → Exit → Type 0)
    → IsLowerable l t f blocks atoms
    → HasLong l t atoms
    → length (lowered l f blocks atoms).variables ≤ 2 ^ 32
    → (let h = plain_head l (lowered l f blocks atoms) in
    Kinds l (ranges_of l atoms) (widths_of h) (length h.params + length h.locals) (length blocks) P B
    → AllHold B (lowered l f blocks atoms).blocks)
below_head l t f blocks atoms P B form long few kinds =
    let vs = (lowered l f blocks atoms).variables in
    let K : (ℕ → ℕ) → Type 0 = λ ws. Kinds l (ranges_of l atoms) ws (length vs) (length blocks) P B in
    let L : ℕ → Type 0 =
    λ n. Kinds l (ranges_of l atoms) (widths_of (head l f blocks atoms)) n (length blocks) P B in
    each_block l t f blocks atoms form long few P B
    (subst K (sym (widths_kept l f blocks atoms)) (subst L (sym (variables_declared l f blocks atoms)) kinds))

all_suit : (l : Listing) (h : Head) (xs : List Block)
    → AllHold (BlockSuits l h) xs
    → AllCalled (IsDeclared l h.callees) xs
    → AllSuit h xs
all_suit l h [] all called = tt
all_suit l h (x ∷ xs) all called = (all.0 called.0, all_suit l h xs all.1 called.1)

-- Each statement and each exit of the plain lowering obeys its rule, and mentions what the head has, where the
-- variables have numbers of 32 bits and the names of the listing's spaces have the form of names.
pub plain_suits : (l : Listing) (t : List TableAt) (f : Frame) (blocks : List flow_block.Block) (atoms : List Atom)
    → IsLowerable l t f blocks atoms
    → HasLong l t atoms
    → length (lowered l f blocks atoms).variables ≤ 2 ^ 32
    → AllByRecursion IsNamedSpace l.spaces
    → AllSuit (plain_head l (lowered l f blocks atoms)) (lowered l f blocks atoms).blocks
plain_suits l t f blocks atoms form long few named =
    let k = lowered l f blocks atoms in
    let h = plain_head l k in
    all_suit l h k.blocks
    (below_head l t f blocks atoms (Suit l h) (BlockSuits l h) form long few
    (suit_kinds l (ranges_of l atoms) h (few_declared l f blocks atoms few) (length blocks) named refl))
    (all_declared l k)
