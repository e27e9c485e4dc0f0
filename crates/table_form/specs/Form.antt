-- Which word of a slice is switched on, and by which of its values the slice goes on. This project's own.
use Rattle.std.specs.Prelude.{◌≡◌, ℕ, nat_lt, Bool, true, false, if◌then◌else◌, Option, Some, None, bit_and}
use Rattle.bits_core.specs.declared.ops.Unary.TheVariants as U
use Rattle.bits_core.specs.declared.ops.Binary.{Binary}
use Rattle.bits_core.specs.declared.ops.Binary.TheVariants as B
use Rattle.pcode_model.specs.declared.listing.Listing.{Listing}
use Rattle.table_form.specs.Trees.{Doing, OfTwo, Tree, Entry, Number, Node, Trees, End, More, constant_of, node_of_one, node_of_two}
use Rattle.table_form.specs.Values.{Gives}

-- ---- guards

-- BOOL_AND, BOOL_OR, BOOL_XOR
abbrev pub joins : Binary → Bool
joins B.BoolAnd = true
joins B.BoolOr = true
joins B.BoolXor = true
joins op = false

abbrev pub compares : Binary → Bool
compares B.Equal = true
compares B.NotEqual = true
compares B.Less = true
compares B.LessEqual = true
compares B.SignedLess = true
compares B.SignedLessEqual = true
compares op = false

abbrev pub IsConstant : Tree → Type 0
IsConstant t = (n : ℕ) × (constant_of t ≡ Some n)

-- x, or x plus or minus a constant
pub data IsMoved (x : Tree) : Tree → Type 0 where
  Itself : IsMoved x x
  Plus : (k : ℕ) (c : Tree) → IsConstant c → IsMoved x (node_of_two B.Add k x c)
  Onto : (k : ℕ) (c : Tree) → IsConstant c → IsMoved x (node_of_two B.Add k c x)
  Minus : (k : ℕ) (c : Tree) → IsConstant c → IsMoved x (node_of_two B.Subtract k x c)

-- made by BOOL_ operations of comparisons of x, or of x plus or minus a constant, with constants
pub data IsGuard (x : Tree) : Tree → Type 0 where
  Negates : (k : ℕ) (g : Tree) → IsGuard x g → IsGuard x (node_of_one U.BoolNegate k g)
  Joins : (op : Binary) (k : ℕ) (g h : Tree)
      → joins op ≡ true
      → IsGuard x g
      → IsGuard x h
      → IsGuard x (node_of_two op k g h)
  Left : (op : Binary) (k : ℕ) (e c : Tree)
      → compares op ≡ true
      → IsMoved x e
      → IsConstant c
      → IsGuard x (node_of_two op k e c)
  Right : (op : Binary) (k : ℕ) (c e : Tree)
      → compares op ≡ true
      → IsConstant c
      → IsMoved x e
      → IsGuard x (node_of_two op k c e)

-- ---- masks

abbrev pub is_and : Binary → Bool
is_and B.And = true
is_and op = false

abbrev pub ands : Doing → Bool
ands (OfTwo op) = is_and op
ands d = false

-- a mask, or what else there is
abbrev pub mask_or : Option ℕ → Option ℕ → Option ℕ
mask_or None other = other
mask_or (Some n) other = if nat_lt n 1024 then Some n else other

abbrev pub first_mask : Trees → Option ℕ
first_mask End = None
first_mask (More t ts) = mask_or (constant_of t) (first_mask ts)

-- the first constant below 1,024 that is an input of an INT_AND
abbrev pub mask_of : Tree → Option ℕ
mask_of (Entry s o k) = None
mask_of (Number v k) = None
mask_of (Node d k ts) = if ands d then first_mask ts else None

-- ---- the two forms, by the guard of the slice, if it has a CBRANCH

-- x may be switched on: it is what the guard compares, or it has a mask
abbrev pub IsSwitched : Option Tree → Tree → Type 0
IsSwitched (Some guard) x = IsGuard x guard
IsSwitched None x = (mask : ℕ) × (mask_of x ≡ Some mask)

abbrev pub IsAllowed : Option ℕ → ℕ → Type 0
IsAllowed None v = ⊥
IsAllowed (Some mask) v = bit_and v mask ≡ v

-- the values of x that pass: with them the guard is 0, or the mask allows them
abbrev pub Passes : Listing → Option Tree → Tree → ℕ → Type 0
Passes l (Some guard) x v = Gives l x v guard 0
Passes l None x v = IsAllowed (mask_of x) v
