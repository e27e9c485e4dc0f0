-- What is asked of each kind of statement and exit that the plain lowering makes, so that it holds of all blocks.
use Rattle.std.proofs.Common.{◌≡◌, ℕ, ◌+◌, ◌<◌, ◌≤◌, ◌^◌, true, false, List, [], ◌∷◌, ◌++◌, length, length-append, map, Option, Some, None, arith}
use Rattle.std.specs.List.{AllByRecursion}
use Rattle.pcode_model.specs.declared.listing.Varnode.{Varnode}
use Rattle.pcode_model.specs.declared.listing.Listing.{Listing}
use Rattle.pcode_model.specs.declared.listing.Storage.{Storage}
use Rattle.pcode_model.specs.Spaces.{register_space, size_of}
use Rattle.pcode_model.specs.Step.{Operand, Reads, ReadsStack, arguments, callee_at, proto_of, returns as does_return}
use Rattle.cmeaning.specs.declared.tree.Expr.{Expr}
use Rattle.cmeaning.specs.declared.tree.Stmt.{Stmt}
use Rattle.cmeaning.specs.declared.tree.Stmt.TheVariants as S
use Rattle.cmeaning.specs.declared.tree.StatementDivision.{StatementDivision}
use Rattle.blockcode.specs.declared.code.Block.{Block}
use Rattle.blockcode.specs.declared.code.Exit.{Exit}
use Rattle.blockcode.specs.declared.code.Exit.TheVariants as X
use Rattle.blockcode.specs.declared.code.Variable.{Variable}
use Rattle.op_code.specs.declared.left.Leftover.{Leftover}
use Rattle.op_code.specs.Left.{takes_left}
use Rattle.op_code.specs.Made.{name_of, range_word}
use Rattle.op_code.specs.Form.{IsMemory, IsNarrow}
use Rattle.op_code.specs.Lowered.{result}
use Rattle.op_code.proofs.Sees.{AreWide, wide_back, wide_front}
use Rattle.plain_valid.proofs.Shapes.{Fits}

-- by the widths of n variables: one of them, of so many bytes
pub record IsVariable (ws : ℕ → ℕ) (n v w : ℕ) : Type 0 where
  pub within : v < n
  pub width : ws v ≡ w
  pub some : 0 < w

-- the variables from a number on have the widths of these
pub record AreLocals (ws : ℕ → ℕ) (n next : ℕ) (vs : List Variable) : Type 0 where
  pub wide : AreWide ws next vs
  pub within : next + length vs ≤ n

-- what a function of these ranges gives, if it gives a result
abbrev pub Gives : Listing → List Varnode → (ℕ → ℕ) → ℕ → Option Varnode → Type 0
Gives l ranges ws n None = Unit {0}
Gives l ranges ws n (Some v) = IsNarrow v × Fits ws n (range_word l ranges v) v.size 16

-- ---- calls

-- expressions of any width
abbrev pub AreRight : (ℕ → ℕ) → ℕ → List Expr → Type 0
AreRight ws n [] = Unit {0}
AreRight ws n (e ∷ es) = ((w : ℕ) × Fits ws n e w 16) × AreRight ws n es

-- as many as these widths of 1 to 16 bytes, each as wide as its own
abbrev pub HaveWidths : (ℕ → ℕ) → ℕ → List Expr → List ℕ → Type 0
HaveWidths ws n [] [] = Unit {0}
HaveWidths ws n [] (k ∷ ks) = ⊥
HaveWidths ws n (e ∷ es) [] = ⊥
HaveWidths ws n (e ∷ es) (k ∷ ks) = (((0 < k) × (k ≤ 16)) × Fits ws n e k 16) × HaveWidths ws n es ks

pub are_right : (ws : ℕ → ℕ) (n : ℕ) (es : List Expr) (ks : List ℕ) → HaveWidths ws n es ks → AreRight ws n es
are_right ws n [] [] h = tt
are_right ws n [] (k ∷ ks) h = absurd h
are_right ws n (e ∷ es) [] h = absurd h
are_right ws n (e ∷ es) (k ∷ ks) h = ((k, h.0.1), are_right ws n es ks h.1)

-- how many bytes an operand has
abbrev pub width_read : Operand → ℕ
width_read (Reads v) = v.size
width_read (ReadsStack n offset size) = size

-- how many bytes the arguments of a call have
abbrev pub widths_passed : List Storage → List ℕ
widths_passed args = map width_read (arguments 0 args)

-- the variable that is assigned the word of a range, where there is one
abbrev pub IsTarget : (ℕ → ℕ) → ℕ → Option ℕ → Option Varnode → Type 0
IsTarget ws n None None = Unit {0}
IsTarget ws n None (Some z) = ⊥
IsTarget ws n (Some v) None = ⊥
IsTarget ws n (Some v) (Some z) = IsNarrow z × IsVariable ws n v z.size

-- a variable that takes bytes of the register space
pub record IsLeft (l : Listing) (ws : ℕ → ℕ) (n : ℕ) (x : Leftover) : Type 0 where
  pub width : ℕ
  pub is : IsVariable ws n x.variable width
  pub inside : x.offset + width ≤ size_of l (register_space l)
  pub long : x.offset < 2 ^ 64

-- ---- kinds

-- Of statements and exits that name n variables with these widths, and blocks below a number: what holds of each kind.
-- P: of statements that lead on. An EXTRAOUT stands behind a call, so a call and its EXTRAOUTs are one kind.
-- B: of a block's statements and its exit. A call that never returns is the last statement of a block without exit.
pub record Kinds (l : Listing) (ranges : List Varnode) (ws : ℕ → ℕ) (n blocks : ℕ) (P : List Stmt → Type 0)
    (B : List Stmt → Exit → Type 0) : Type 0 where
  pub none : P []
  pub append : (xs ys : List Stmt) → P xs → P ys → P (xs ++ ys)
  pub assign : (v w d : ℕ) (e : Expr) → IsVariable ws n v w → Fits ws n e w d → P (S.Assign v e ∷ [])
  pub load : (v w s u d : ℕ) (e : Expr)
      → IsVariable ws n v w
      → IsMemory l s
      → Fits ws n e u d
      → P (S.Load v (name_of l s) e ∷ [])
  pub store : (s u d w c : ℕ) (a e : Expr)
      → IsMemory l s
      → Fits ws n a u d
      → Fits ws n e w c
      → P (S.Store (name_of l s) a e ∷ [])
  pub divide : (op : StatementDivision) (v w : ℕ) (a b : Expr)
      → IsVariable ws n v w
      → Fits ws n a w 16
      → Fits ws n b w 16
      → P (S.Divide v op a b ∷ [])
  pub call : (v : Option ℕ) (a : ℕ) (args : List Expr) (left : List Leftover)
      → a < 2 ^ 64
      → does_return (callee_at l a) ≡ true
      → IsTarget ws n v (proto_of l (callee_at l a)).gives
      → HaveWidths ws n args (widths_passed (proto_of l (callee_at l a)).args)
      → AllByRecursion (IsLeft l ws n) left
      → P (S.Call v a args ∷ map takes_left left)
  pub indirect : (v : Option ℕ) (out : Option Varnode) (w : ℕ) (to : Expr) (args : List Expr) (left : List Leftover)
      → IsTarget ws n v out
      → Fits ws n to w 16
      → AreRight ws n args
      → AllByRecursion (IsLeft l ws n) left
      → P (S.CallInd v to args ∷ map takes_left left)
  pub other : (v : Option ℕ) (out : Option Varnode) (index : ℕ) (args : List Expr)
      → index < 2 ^ 64
      → IsTarget ws n v out
      → AreRight ws n args
      → P (S.Other v index args ∷ [])
  pub before : (xs ys : List Stmt) (e : Exit) → P xs → B ys e → B (xs ++ ys) e
  pub jump : (to : ℕ) → to < blocks → B [] (X.Jump to)
  pub test : (c : Expr) (taken other : ℕ)
      → Fits ws n c 1 16
      → taken < blocks
      → other < blocks
      → B [] (X.Test c taken other)
  pub returns : Gives l ranges ws n (proto_of l None).gives → B [] (X.Return (result l ranges))
  pub stops : (a : ℕ) (args : List Expr)
      → a < 2 ^ 64
      → does_return (callee_at l a) ≡ false
      → HaveWidths ws n args (widths_passed (proto_of l (callee_at l a)).args)
      → B (S.Call None a args ∷ []) X.Stop

-- each block's statements and its exit
abbrev pub AllHold : (List Stmt → Exit → Type 0) → List Block → Type 0
AllHold B [] = Unit {0}
AllHold B (x ∷ xs) = B x.body x.exit × AllHold B xs

-- ---- locals, one behind another

module _ (ws : ℕ → ℕ) (n next : ℕ) (xs ys : List Variable) (are : AreLocals ws n next (xs ++ ys)) where
  pub locals_front : AreLocals ws n next xs
  locals_front = record {
    wide = wide_front ws next xs ys are.wide;
    within = omega (arith, are.within, length-append xs ys);
  }

  pub locals_back : AreLocals ws n (next + length xs) ys
  locals_back = record {
    wide = wide_back ws next xs ys are.wide;
    within = omega (arith, are.within, length-append xs ys);
  }
