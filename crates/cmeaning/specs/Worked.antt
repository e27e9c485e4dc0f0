-- Worked runs: what small listings and C functions show after so many steps.
use Rattle.std.specs.Prelude.{◌≡◌, ℕ, ◌==◌, ◌-◌, ◌^◌, if◌then◌else◌, true, false, [], ◌∷◌, codes, Some, None}
use Rattle.machine.specs.Trace.{Call, Store, Returned, DivZero, ReadOnlyWrite, NoAnswer, NoReturn, Outside, BadTarget, Undefined}
use Rattle.bits_core.specs.declared.ops.Unary.TheVariants as U
use Rattle.bits_core.specs.declared.ops.Binary.TheVariants as B
use Rattle.bits_core.specs.declared.ops.Divide.TheVariants as D
use Rattle.bits_core.specs.Value.{binary_value, unary_value}
use Rattle.pcode_model.specs.declared.listing.Listing.{Listing}
use Rattle.pcode_model.specs.declared.opcode.Opcode.TheVariants as O
use Rattle.pcode_model.specs.Memory.{no_frame}
use Rattle.pcode_model.specs.World.{Answer}
use Rattle.pcode_model.specs.Step.{seen_p}
use Rattle.cmeaning.specs.declared.tree.ArithmeticOp.TheVariants.{Add, Sub}
use Rattle.cmeaning.specs.declared.tree.ShiftOp.TheVariants.{Shl, Sar}
use Rattle.cmeaning.specs.declared.tree.CompareOp.TheVariants.{Ne}
use Rattle.cmeaning.specs.declared.tree.StatementDivision.TheVariants.{Div}
use Rattle.cmeaning.specs.declared.tree.Expr.TheVariants as E
use Rattle.cmeaning.specs.declared.tree.Stmt.TheVariants as S
use Rattle.cmeaning.specs.declared.tree.CFunction.{CFunction}
use Rattle.cmeaning.specs.Fits.{Fits}
use Rattle.cmeaning.specs.Flat.{Do, Test, Jump, Choose, Give, flat_of}
use Rattle.cmeaning.specs.Step.{seen_c}
use Rattle.cmeaning.specs.Examples.{four, register_place, varnode, argument, result, constant, sets, does, returns, instruction, function, listing, runs, entry, ended, gave, zero, one, hundred, bits, place, param, local, callee, c_function}

-- ---- one addition: the argument and 1

abbrev pub adds : Listing
adds = runs (sets (O.Binary B.Add) result (argument ∷ constant 1 4 ∷ []) ∷ [])

abbrev pub adds_c : CFunction
adds_c = c_function [] (S.Return (Some (E.Arithmetic Add param one)) ∷ [])

-- of 5 both give 6
pub record OneAddition : Type 0 where
  pub pcode : seen_p adds no_frame (entry 5 []) 2 ≡ gave 6
  pub c : seen_c adds adds_c (entry 5 []) 1 ≡ gave 6

-- ---- a division, 100 by the argument, whose result is stored at 64

abbrev pub divides : Listing
divides = runs (sets (O.Divide D.Quotient) result (constant 100 4 ∷ argument ∷ []) ∷ does O.Store
    (constant 1 4 ∷ constant 64 8 ∷ result ∷ []) ∷ [])

abbrev pub divides_c : CFunction
divides_c = c_function [] (S.Divide 1 Div hundred param ∷ S.Store None place local ∷ S.Return (Some local) ∷ [])

-- By 0 both end at the division, before the store; by 4 both store 25.
pub record DivisionByZero : Type 0 where
  pub pcode : seen_p divides no_frame (entry 0 []) 3 ≡ ended [] DivZero
  pub c : seen_c divides divides_c (entry 0 []) 3 ≡ ended [] DivZero
  pub pcode_divides : seen_p divides no_frame (entry 4 []) 3
      ≡ ended (Store 1 64 (25 ∷ 0 ∷ 0 ∷ 0 ∷ []) ∷ []) (Returned (Some 25))
  pub c_divides : seen_c divides divides_c (entry 4 []) 3
      ≡ ended (Store 1 64 (25 ∷ 0 ∷ 0 ∷ 0 ∷ []) ∷ []) (Returned (Some 25))

-- ---- what is undefined

abbrev pub empty_c : CFunction
empty_c = c_function [] []

-- it calls with a local that was never assigned
abbrev pub unassigned_c : CFunction
unassigned_c = c_function (callee 0x2000 None true ∷ []) (S.Call None 0x2000 (local ∷ []) ∷ S.Return (Some zero) ∷ [])

-- it divides the local by 0
abbrev pub divides_unassigned_c : CFunction
divides_unassigned_c = c_function [] (S.Divide 1 Div local zero ∷ [])

-- Running past the last step is undefined. So is an operand that was never assigned: it goes before the call's event and
-- before a division by 0.
pub record UndefinedRuns : Type 0 where
  pub falls_off : seen_c adds empty_c (entry 5 []) 1 ≡ ended [] Undefined
  pub operand : seen_c adds unassigned_c (entry 5 []) 1 ≡ ended [] Undefined
  pub before_division : seen_c adds divides_unassigned_c (entry 5 []) 1 ≡ ended [] Undefined

-- ---- a call of a function that isn't declared, and then a load from 64

abbrev pub calls : Listing
calls = runs (does O.Call (varnode 1 0x2000 8 ∷ []) ∷ sets O.Load result (constant 1 4 ∷ constant 64 8 ∷ []) ∷ [])

abbrev pub calls_c : CFunction
calls_c = c_function (callee 0x2000 None true ∷ [])
    (S.Call None 0x2000 (param ∷ []) ∷ S.Load 1 None place ∷ S.Return (Some local) ∷ [])

-- it writes 9 at 64
abbrev pub writes : Answer
writes = record {
  word = 7;
  registers = λ o. 0;
  memory = record { space = 1; offset = 64; value = 9 } ∷ [];
  hidden = [];
}

-- it hides 9 at a place
abbrev pub hides : ℕ → Answer
hides place = record { word = 7; registers = λ o. 0; memory = []; hidden = record { offset = place; value = 9 } ∷ [] }

-- A callee that isn't declared takes the arguments of the function's own prototype. What its answer writes is found by a
-- later load. What it hides changes nothing where it isn't read; a p-code load of a hidden byte ends Outside, and the C
-- run goes on. Without an answer both end after the call's event.
pub record Calls : Type 0 where
  pub pcode : seen_p calls no_frame (entry 5 (writes ∷ [])) 3 ≡ ended (Call 0x2000 (5 ∷ []) ∷ []) (Returned (Some 9))
  pub c : seen_c calls calls_c (entry 5 (writes ∷ [])) 3 ≡ ended (Call 0x2000 (5 ∷ []) ∷ []) (Returned (Some 9))
  pub pcode_hides : seen_p calls no_frame (entry 5 (hides 65536 ∷ [])) 3
      ≡ ended (Call 0x2000 (5 ∷ []) ∷ []) (Returned (Some 0))
  pub c_hides : seen_c calls calls_c (entry 5 (hides 65536 ∷ [])) 3
      ≡ ended (Call 0x2000 (5 ∷ []) ∷ []) (Returned (Some 0))
  pub pcode_reads_hidden : seen_p calls no_frame (entry 5 (hides 65 ∷ [])) 3 ≡ ended (Call 0x2000 (5 ∷ []) ∷ []) Outside
  pub c_reads_hidden : seen_c calls calls_c (entry 5 (hides 65 ∷ [])) 3
      ≡ ended (Call 0x2000 (5 ∷ []) ∷ []) (Returned (Some 0))
  pub pcode_no_answer : seen_p calls no_frame (entry 5 []) 3 ≡ ended (Call 0x2000 (5 ∷ []) ∷ []) NoAnswer
  pub c_no_answer : seen_c calls calls_c (entry 5 []) 3 ≡ ended (Call 0x2000 (5 ∷ []) ∷ []) NoAnswer

-- ---- a call of a function that never returns

abbrev pub dies : Listing
dies = listing (function 0x2000 false ∷ []) [] (instruction 0x1000 (does O.Call (varnode 1 0x2000 8 ∷ []) ∷ []) ∷ [])

abbrev pub dies_c : CFunction
dies_c = c_function (callee 0x2000 None false ∷ []) (S.Call None 0x2000 (param ∷ []) ∷ [])

-- both end after the call's event, and take no answer
pub record NeverReturns : Type 0 where
  pub pcode : seen_p dies no_frame (entry 5 (writes ∷ [])) 1 ≡ ended (Call 0x2000 (5 ∷ []) ∷ []) NoReturn
  pub c : seen_c dies dies_c (entry 5 (writes ∷ [])) 1 ≡ ended (Call 0x2000 (5 ∷ []) ∷ []) NoReturn

-- ---- a store of four bytes at 64, of which the third is read-only

abbrev pub fixes : Listing
fixes = listing [] (record { space = 1; offset = 66; bytes = 1 ∷ [] } ∷ [])
    (instruction 0x1000 (does O.Store (constant 1 4 ∷ constant 64 8 ∷ argument ∷ []) ∷ returns ∷ []) ∷ [])

abbrev pub fixes_c : CFunction
fixes_c = c_function [] (S.Store None place param ∷ S.Return (Some zero) ∷ [])

-- nothing is stored and nothing recorded
pub record ReadOnlyStore : Type 0 where
  pub pcode : seen_p fixes no_frame (entry 5 []) 2 ≡ ended [] ReadOnlyWrite
  pub c : seen_c fixes fixes_c (entry 5 []) 2 ≡ ended [] ReadOnlyWrite

-- ---- a register that a call leaves

abbrev pub leaves : Listing
leaves = runs (does O.Call (varnode 1 0x2000 8 ∷ []) ∷ sets (O.Unary U.Copy) result (argument ∷ []) ∷ [])

abbrev pub leaves_c : CFunction
leaves_c = c_function (callee 0x2000 None true ∷ [])
    (S.Call None 0x2000 (param ∷ []) ∷ S.Extra 1 0x38 ∷ S.Return (Some local) ∷ [])

abbrev pub left : Answer
left = record { word = 7; registers = λ o. if o == 0x39 then 2 else 0; memory = []; hidden = [] }

-- the argument's register isn't kept, so it holds what the answer left there: 2 in its second byte
pub record LeftByCall : Type 0 where
  pub pcode : seen_p leaves no_frame (entry 5 (left ∷ [])) 3 ≡ ended (Call 0x2000 (5 ∷ []) ∷ []) (Returned (Some 512))
  pub c : seen_c leaves leaves_c (entry 5 (left ∷ [])) 3 ≡ ended (Call 0x2000 (5 ∷ []) ∷ []) (Returned (Some 512))

-- ---- a loop that counts down

abbrev pub counts : Listing
counts = listing [] [] (instruction 0x1000
    (sets (O.Binary B.Subtract) argument (argument ∷ constant 1 4 ∷ []) ∷ does O.Store
    (constant 1 4 ∷ constant 64 8 ∷ argument ∷ []) ∷ sets (O.Binary B.NotEqual) (varnode 3 0 1)
    (argument ∷ constant 0 4 ∷ []) ∷ does O.CBranch (varnode 1 0x1000 8 ∷ varnode 3 0 1 ∷ []) ∷ sets
    (O.Unary U.Copy) result (argument ∷ []) ∷ returns ∷ []) ∷ [])

abbrev pub counts_c : CFunction
counts_c = c_function [] (S.DoWhile (S.Assign 0 (E.Arithmetic Sub param one) ∷ S.Store None place param ∷ [])
    (E.Compare Ne param zero) ∷ S.Return (Some param) ∷ [])

-- from 2 it runs twice
pub record RunsTwice : Type 0 where
  pub pcode : seen_p counts no_frame (entry 2 []) 10
      ≡ ended (Store 1 64 (1 ∷ 0 ∷ 0 ∷ 0 ∷ []) ∷ Store 1 64 (0 ∷ 0 ∷ 0 ∷ 0 ∷ []) ∷ []) (Returned (Some 0))
  pub c : seen_c counts counts_c (entry 2 []) 7
      ≡ ended (Store 1 64 (1 ∷ 0 ∷ 0 ∷ 0 ∷ []) ∷ Store 1 64 (0 ∷ 0 ∷ 0 ∷ 0 ∷ []) ∷ []) (Returned (Some 0))

-- ---- flat code

-- L1: if (param) { local = 1; } else { goto L1; }
-- while (param) { if (local) { break; } }
-- while (1) { goto L2; }
-- L2: return local;
abbrev pub wanders_c : CFunction
wanders_c = c_function [] (S.Label 1 ∷ S.IfElse param (S.Assign 1 one ∷ []) (S.Goto 1 ∷ []) ∷ S.While param
    (S.If local (S.Break ∷ []) ∷ []) ∷ S.Loop (S.Goto 2 ∷ []) ∷ S.Label 2 ∷ S.Return (Some local) ∷ [])

-- switch (param) { case 1: case 2: return 1; case 3: local = 0; break; } return param;
abbrev pub chooses_c : CFunction
chooses_c = c_function [] (S.Switch param
    (record { cases = 1 ∷ 2 ∷ []; body = S.Return (Some one) ∷ [] } ∷ record {
      cases = 3 ∷ [];
      body = S.Assign 1 zero ∷ [];
    } ∷ []) ∷ S.Return (Some param) ∷ [])

-- Where the steps of these bodies lead. An arm that ends in a return has no jump past the switch, and a value that no
-- arm names goes on after it.
pub record FlatCode : Type 0 where
  pub wanders : flat_of wanders_c
      ≡ Test param 1 3 ∷ Do (S.Assign 1 one) ∷ Jump 4 ∷ Jump 0 ∷ Test param 5 8 ∷ Test local 6 7 ∷ Jump 8 ∷ Jump
      4 ∷ Jump 10 ∷ Jump 8 ∷ Give (Some local) ∷ []
  pub chooses : flat_of chooses_c
      ≡ Choose param ((1, 1) ∷ (2, 1) ∷ (3, 2) ∷ []) 4 ∷ Give (Some one) ∷ Do (S.Assign 1 zero) ∷ Jump 4 ∷ Give
      (Some param) ∷ []
  pub first_arm : seen_c adds chooses_c (entry 2 []) 2 ≡ gave 1
  pub second_arm : seen_c adds chooses_c (entry 3 []) 4 ≡ gave 3
  pub no_arm : seen_c adds chooses_c (entry 7 []) 2 ≡ gave 7

-- ---- branches within an instruction

-- a branch by a count, over a copy of 1 and one of 2
abbrev pub branches : ℕ → Listing
branches count = runs (sets (O.Unary U.Copy) result (constant 3 4 ∷ []) ∷ does O.Branch (constant count 4 ∷ []) ∷ sets
    (O.Unary U.Copy) result (constant 1 4 ∷ []) ∷ sets (O.Unary U.Copy) result (constant 2 4 ∷ []) ∷ [])

-- By 2 it passes over one op. By 3 it comes to the op count, which means the next instruction. By -1, which is signed at
-- its own size, it goes back. By 4 or -2 it has no place to go to.
pub record RelativeBranch : Type 0 where
  pub over_one : seen_p (branches 2) no_frame (entry 5 []) 4 ≡ gave 2
  pub to_next : seen_p (branches 3) no_frame (entry 5 []) 3 ≡ gave 3
  pub back : seen_p (branches 0xffffffff) no_frame (entry 5 []) 9 ≡ record { events = []; over = None }
  pub past : seen_p (branches 4) no_frame (entry 5 []) 2 ≡ ended [] BadTarget
  pub before : seen_p (branches 0xfffffffe) no_frame (entry 5 []) 2 ≡ ended [] BadTarget

-- ---- shifts by the width

abbrev pub shifts : Listing
shifts = runs (sets (O.Binary B.Left) result (argument ∷ constant 32 1 ∷ []) ∷ [])

abbrev pub shifts_c : CFunction
shifts_c = c_function [] (S.Return (Some (E.Shift Shl param bits)) ∷ [])

-- a shift of 0 - 1
abbrev pub shifts_signed : Listing
shifts_signed = runs (sets (O.Binary B.Subtract) (varnode 3 0 4) (constant 0 4 ∷ constant 1 4 ∷ []) ∷ sets
    (O.Binary B.SignedRight) result (varnode 3 0 4 ∷ constant 32 1 ∷ []) ∷ [])

abbrev pub shifts_signed_c : CFunction
shifts_signed_c = c_function [] (S.Return (Some (E.Shift Sar (E.Arithmetic Sub zero one) bits)) ∷ [])

-- nothing is left of 5, and of -1 all sign bits
pub record ShiftByWidth : Type 0 where
  pub pcode : seen_p shifts no_frame (entry 5 []) 2 ≡ gave 0
  pub c : seen_c shifts shifts_c (entry 5 []) 1 ≡ gave 0
  pub pcode_signed : seen_p shifts_signed no_frame (entry 5 []) 3 ≡ gave 0xffffffff
  pub c_signed : seen_c shifts_signed shifts_signed_c (entry 5 []) 1 ≡ gave 0xffffffff

-- ---- both ends of the widths

-- sums and differences wrap at one byte and at 16 bytes
pub record Wraps : Type 0 where
  pub byte_up : binary_value B.Add 1 255 1 1 1 ≡ 0
  pub byte_down : binary_value B.Subtract 1 0 1 1 1 ≡ 255
  pub byte_negated : unary_value U.Negate 1 1 1 ≡ 255
  pub widest_up : binary_value B.Add 16 (2 ^ 128 - 1) 16 1 16 ≡ 0
  pub widest_down : binary_value B.Subtract 16 0 16 1 16 ≡ 2 ^ 128 - 1
  pub widest_negated : unary_value U.Negate 16 1 16 ≡ 2 ^ 128 - 1

-- ---- the end of a space

abbrev pub ends : Listing
ends = runs (does O.Store (constant 1 4 ∷ constant (2 ^ 64 - 2) 8 ∷ argument ∷ []) ∷ sets O.Load (varnode 2 0x0 1)
    (constant 1 4 ∷ constant 0 8 ∷ []) ∷ [])

-- a store of four bytes two before the end of ram goes on at offset 0
abbrev pub GoesOnAtZero : Type 0
GoesOnAtZero = seen_p ends no_frame
    (record { bytes = λ s o. if s == 2 then (if o == 0x3a then 8 else 0) else 0; hidden = λ o. None; answers = [] }) 3
    ≡ ended (Store 1 (2 ^ 64 - 2) (0 ∷ 0 ∷ 8 ∷ 0 ∷ []) ∷ []) (Returned (Some 8))

-- ---- a register that is read as memory

-- No parameter: u32 f(void) { l0 = MEM4(register, 0x38); return l0 + 1; }
abbrev pub reads_register_c : CFunction
reads_register_c = record {
  callees = [];
  name = codes "f";
  gives = Some four;
  params = [];
  locals = record { width = four; signed = false } ∷ [];
  body = S.Load 0 (Some (codes "register")) register_place ∷ S.Return (Some (E.Arithmetic Add param one)) ∷ [];
}

-- It shows the sum of the argument and 1 as the listing does, without a parameter, but it doesn't fit the listing: what
-- fits names ram spaces alone. The function that takes the argument fits.
pub record RegisterAsMemory : Type 0 where
  pub c : seen_c adds reads_register_c (entry 5 []) 2 ≡ gave 6
  pub misfits : Fits adds reads_register_c → ⊥
  pub fits : Fits adds adds_c
