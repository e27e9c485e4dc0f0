-- What an op is in a function in SSA form. The only definition with a case for each code.
use Rattle.std.specs.Prelude.{ℕ}
use Rattle.pcode_model.specs.declared.storage.ParamStorage.{ParamStorage}
use Rattle.cmeaning.specs.declared.tree.UnaryOp.{UnaryOp}
use Rattle.cmeaning.specs.declared.tree.UnaryOp.TheVariants.{Neg, Not}
use Rattle.cmeaning.specs.declared.tree.ArithmeticOp.{ArithmeticOp}
use Rattle.cmeaning.specs.declared.tree.ArithmeticOp.TheVariants.{Add, Sub, Mul, And, Or, Xor}
use Rattle.cmeaning.specs.declared.tree.StatementDivision.{StatementDivision}
use Rattle.cmeaning.specs.declared.tree.StatementDivision.TheVariants.{Div, SDiv, Rem, SRem}
use Rattle.cmeaning.specs.declared.tree.ShiftOp.{ShiftOp}
use Rattle.cmeaning.specs.declared.tree.ShiftOp.TheVariants.{Shl, Shr, Sar}
use Rattle.cmeaning.specs.declared.tree.CompareOp.{CompareOp}
use Rattle.cmeaning.specs.declared.tree.CompareOp.TheVariants.{Eq, Ne, Lt, Le}
use Rattle.cmeaning.specs.declared.tree.SignedCompareOp.{SignedCompareOp}
use Rattle.cmeaning.specs.declared.tree.SignedCompareOp.TheVariants.{SLt, SLe}
use Rattle.cmeaning.specs.declared.tree.ExtendOp.{ExtendOp}
use Rattle.cmeaning.specs.declared.tree.ExtendOp.TheVariants.{Zext, Sext}
use Rattle.cmeaning.specs.declared.tree.OverflowOp.{OverflowOp}
use Rattle.cmeaning.specs.declared.tree.OverflowOp.TheVariants.{Carry, SCarry, SBorrow}
use Rattle.cmeaning.specs.declared.tree.CountOp.{CountOp}
use Rattle.cmeaning.specs.declared.tree.CountOp.TheVariants.{Popcount, Lzcount}
use Rattle.opgraph.specs.declared.code.Code.{Code}
use Rattle.opgraph.specs.declared.code.Code.TheVariants as K

pub data Role : Type 0 where
  -- a constant, and what stands at a storage as the function is entered
  Constant : (value : ℕ) → Role
  Starts : (storage : ParamStorage) → Role
  -- a MULTIEQUAL of an atom
  Joins : (atom : ℕ) → Role
  -- the nodes of expressions
  Copies : Role
  Unary : (op : UnaryOp) → Role
  Arithmetic : (op : ArithmeticOp) → Role
  Shifts : (op : ShiftOp) → Role
  Compares : (op : CompareOp) → Role
  Signed : (op : SignedCompareOp) → Role
  Extends : (op : ExtendOp) → Role
  Piece : Role
  Part : (dropped : ℕ) → Role
  Overflow : (op : OverflowOp) → Role
  Count : (op : CountOp) → Role
  -- a division, which ends the run where its divisor is 0
  Divides : (op : StatementDivision) → Role
  -- what reads or writes the world
  Loads : (space : ℕ) → Role
  Stores : (space : ℕ) → Role
  Calls : (address : ℕ) → Role
  CallsInd : Role
  CallsOther : (index : ℕ) → Role
  Extra : (offset : ℕ) → Role
  -- what a block's exit reads
  Tests : Role
  Switches : Role
  Returns : Role

abbrev pub role_of : Code → Role
role_of (K.Const n) = Constant n
role_of (K.Entry s) = Starts s
role_of (K.Multi atom) = Joins atom
role_of K.Copy = Copies
role_of K.Negate = Unary Neg
role_of K.Complement = Unary Not
role_of K.Add = Arithmetic Add
role_of K.Subtract = Arithmetic Sub
role_of K.Multiply = Arithmetic Mul
role_of K.And = Arithmetic And
role_of K.Or = Arithmetic Or
role_of K.Xor = Arithmetic Xor
role_of K.Quotient = Divides Div
role_of K.SignedQuotient = Divides SDiv
role_of K.Remainder = Divides Rem
role_of K.SignedRemainder = Divides SRem
role_of K.Left = Shifts Shl
role_of K.Right = Shifts Shr
role_of K.SignedRight = Shifts Sar
role_of K.Equal = Compares Eq
role_of K.NotEqual = Compares Ne
role_of K.Less = Compares Lt
role_of K.LessEqual = Compares Le
role_of K.SignedLess = Signed SLt
role_of K.SignedLessEqual = Signed SLe
role_of K.ZeroExtend = Extends Zext
role_of K.SignExtend = Extends Sext
role_of K.Piece = Piece
role_of (K.Part dropped) = Part dropped
role_of K.Carry = Overflow Carry
role_of K.SignedCarry = Overflow SCarry
role_of K.SignedBorrow = Overflow SBorrow
role_of K.CountOnes = Count Popcount
role_of K.CountLeadingZeros = Count Lzcount
role_of (K.Load space) = Loads space
role_of (K.Store space) = Stores space
role_of (K.Call address) = Calls address
role_of K.CallInd = CallsInd
role_of (K.Other index) = CallsOther index
role_of (K.Extra offset) = Extra offset
role_of K.CBranch = Tests
role_of K.BranchInd = Switches
role_of K.Return = Returns
