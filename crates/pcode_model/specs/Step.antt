-- The step of the p-code run, after the P-Code Reference Manual; ends, answers, hidden bytes and the order of effects
-- are this project's own. One step carries out one op, or passes an instruction without ops: it reads all operands,
-- then writes. The step is defined over any memory, so that the p-code run and the frame run are two instances.
use Rattle.std.specs.Prelude.{ℕ, suc, ◌+◌, ◌*◌, ◌%◌, ◌==◌, ◌&&◌, nat_le, nat_lt, Bool, true, false, if◌then◌else◌, List, [], ◌∷◌, slice_get, slice_index, Option, Some, None, Result, Ok, Err}
use Rattle.machine.specs.Trace.{End, Returned, DivZero, NoReturn, BadTarget, Trace, Call, Other}
use Rattle.machine.specs.Machine.{Machine, seen}
use Rattle.bits_core.specs.Value.{limit, unary_value, binary_value, divide_value}
use Rattle.bits_core.specs.Bytes.{word_bytes, word_of}
use Rattle.pcode_model.specs.declared.listing.SpaceKind.{SpaceKind}
use Rattle.pcode_model.specs.declared.listing.SpaceKind.TheVariants.{Constant, Ram, Register, Unique}
use Rattle.pcode_model.specs.declared.listing.Varnode.{Varnode}
use Rattle.pcode_model.specs.declared.listing.Op.{Op}
use Rattle.pcode_model.specs.declared.listing.Instruction.{Instruction}
use Rattle.pcode_model.specs.declared.listing.Place.{Place}
use Rattle.pcode_model.specs.declared.listing.Storage.{Storage}
use Rattle.pcode_model.specs.declared.listing.Storage.TheVariants.{At, Stack}
use Rattle.pcode_model.specs.declared.listing.Proto.{Proto}
use Rattle.pcode_model.specs.declared.listing.Function.{Function}
use Rattle.pcode_model.specs.declared.listing.Listing.{Listing}
use Rattle.pcode_model.specs.declared.opcode.Opcode.{Opcode}
use Rattle.pcode_model.specs.declared.opcode.Opcode.TheVariants as O
use Rattle.pcode_model.specs.Spaces.{kind_of, size_of, is_big, word_size, first_ram, register_space, bytes_at, put_in, each_at}
use Rattle.pcode_model.specs.Places.{Standing, Nothing, Passes, Does, standing, next_place, next_instruction, branch_place, place}
use Rattle.pcode_model.specs.Memory.{Acts, Frame, Layout, Bytes, Whole, Apart, whole, apart, or_else}
use Rattle.pcode_model.specs.World.{Answer, Entry, World, ended, recorded, store, Taken, Stops, Took, take_answer, first_world, shown, unless_over}

-- ---- the state

-- Where the run stands, the bytes of the register space and the unique space, and the world.
pub record State (M : Type 0) : Type 0 where
  pub at : Place
  pub local : Bytes
  pub world : World M

abbrev pub moved : {M : Type 0} → Place → State M → State M
moved p s = record { at = p; local = s.local; world = s.world }

abbrev pub in_world : {M : Type 0} → World M → State M → State M
in_world w s = record { at = s.at; local = s.local; world = w }

-- ---- words of ranges

-- the word that a range of a space holds
abbrev pub word_in_bytes : Listing → ℕ → ℕ → ℕ → Bytes → ℕ
word_in_bytes l s o k m = word_of (is_big l s) (bytes_at (size_of l s) (m s) o k)

-- the word of a register or unique range
abbrev pub local_word : Listing → Varnode → Bytes → ℕ
local_word l v m = word_in_bytes l v.space v.offset v.size m

-- the bytes of a word in the order of a space
abbrev pub bytes_in : Listing → ℕ → ℕ → ℕ → List ℕ
bytes_in l s k n = word_bytes (is_big l s) k n

-- the bytes with a word written to a register or unique range
abbrev pub with_word : Listing → Varnode → ℕ → Bytes → Bytes
with_word l v n m = each_at (size_of l v.space) (put_in v.space) v.offset (bytes_in l v.space v.size n) m

-- ---- what an op reads

-- An operand of an op: a varnode, or a call's argument of a number on the stack, so many bytes above the stack pointer.
pub data Operand : Type 0 where
  Reads : Varnode → Operand
  ReadsStack : (number offset size : ℕ) → Operand

abbrev pub argument : ℕ → Storage → Operand
argument n (At v) = Reads v
argument n (Stack offset size) = ReadsStack n offset size

abbrev pub arguments : ℕ → List Storage → List Operand
arguments n [] = []
arguments n (a ∷ rest) = argument n a ∷ arguments (suc n) rest

-- ---- callees

abbrev pub no_proto : Proto
no_proto = record { name = []; args = []; gives = None; pop = 0; keep = [] }

abbrev pub proto_in : Option Proto → Proto
proto_in None = no_proto
proto_in (Some p) = p

-- the prototype of a number
abbrev pub proto_at : Listing → ℕ → Proto
proto_at l n = proto_in (slice_get l.protos n)

abbrev pub callee_in : List Function → ℕ → Option Function
callee_in [] a = None
callee_in (f ∷ rest) a = if f.address == a then Some f else callee_in rest a

-- the callee that is declared at an address
abbrev pub callee_at : Listing → ℕ → Option Function
callee_at l a = callee_in l.callees a

-- A callee that isn't declared has the prototype of the listing's own function.
abbrev pub proto_of : Listing → Option Function → Proto
proto_of l None = proto_at l l.func.proto
proto_of l (Some f) = proto_at l f.proto

abbrev pub returns : Option Function → Bool
returns None = true
returns (Some f) = f.returns

-- ---- operands by operation. Destinations of branches and of CALL, and the constants that name a space or an index,
-- aren't read; RETURN reads its destination and observes nothing of it.

abbrev pub call_operands : Listing → List Varnode → List Operand
call_operands l [] = []
call_operands l (to ∷ rest) = arguments 0 (proto_of l (callee_at l to.offset)).args

abbrev pub indirect_operands : Listing → List Varnode → List Operand
indirect_operands l [] = []
indirect_operands l (to ∷ rest) = Reads to ∷ arguments 0 (proto_of l None).args

abbrev pub all_read : List Varnode → List Operand
all_read [] = []
all_read (v ∷ rest) = Reads v ∷ all_read rest

abbrev pub all_but_first : List Varnode → List Operand
all_but_first [] = []
all_but_first (v ∷ rest) = all_read rest

abbrev pub operands : Listing → Opcode → List Varnode → List Operand
operands l (O.Unary op) vs = all_read vs
operands l (O.Binary op) vs = all_read vs
operands l (O.Divide op) vs = all_read vs
operands l O.Load vs = all_but_first vs
operands l O.Store vs = all_but_first vs
operands l O.Branch vs = []
operands l O.CBranch vs = all_but_first vs
operands l O.BranchInd vs = all_read vs
operands l O.Call vs = call_operands l vs
operands l O.CallInd vs = indirect_operands l vs
operands l O.CallOther vs = all_but_first vs
operands l O.Return vs = all_read vs
operands l (O.Float name) vs = []
operands l (O.FloatConversion op) vs = []
operands l (O.Analysis op) vs = []
operands l (O.LeftOut op) vs = []

-- bytes read by a pointer, or those of a frame variable
abbrev pub read_at : {M : Type 0} → Acts M → Option ℕ → (space address count : ℕ) → M → Result (List ℕ) End
read_at m None s a k w = m.read s a k w
read_at m (Some c) s a k w = m.read_own a c k w

abbrev pub as_word : Listing → ℕ → Result (List ℕ) End → Result ℕ End
as_word l s (Err e) = Err e
as_word l s (Ok bs) = Ok (word_of (is_big l s) bs)

-- the address above the stack pointer
abbrev pub stack_address : Listing → ℕ → Option Varnode → Bytes → ℕ
stack_address l offset None m = offset % size_of l (first_ram l)
stack_address l offset (Some sp) m = (local_word l sp m + offset) % size_of l (first_ram l)

abbrev pub read_varnode : {M : Type 0} → Acts M → Listing → SpaceKind → Varnode → State M → Result ℕ End
read_varnode m l Constant v s = Ok v.offset
read_varnode m l Ram v s = as_word l v.space (m.read v.space v.offset v.size s.world.memory)
read_varnode m l Register v s = Ok (local_word l v s.local)
read_varnode m l Unique v s = Ok (local_word l v s.local)

abbrev pub read_operand : {M : Type 0} → Acts M → Listing → Frame → State M → Operand → Result ℕ End
read_operand m l f s (Reads v) = read_varnode m l (kind_of l v.space) v s
read_operand m l f s (ReadsStack n offset size) = as_word l (first_ram l) (read_at m (f.own s.at n) (first_ram l) (stack_address l offset l.stack s.local) size s.world.memory)

abbrev pub with_first : Result ℕ End → Result (List ℕ) End → Result (List ℕ) End
with_first (Err e) ns = Err e
with_first (Ok n) (Err e) = Err e
with_first (Ok n) (Ok ns) = Ok (n ∷ ns)

-- the words of the operands in order, or the end that the first of them meets
abbrev pub read_all : {M : Type 0} → Acts M → Listing → Frame → State M → List Operand → Result (List ℕ) End
read_all m l f s [] = Ok []
read_all m l f s (x ∷ xs) = with_first (read_operand m l f s x) (read_all m l f s xs)

-- ---- what an op does

-- The handful of effects that ops have. Where an effect names no place to go to, the run goes to the next place.
-- Ends: the run ends so.
-- Goes: to a place, or nowhere.
-- Writes: a word to the output.
-- Fetches: bytes from a byte address of a space to the output, as a frame variable's access or by a pointer.
-- Puts: so many bytes of a word to a byte address of a space, likewise.
-- Calls: a function, recorded with its target and arguments; it returns or doesn't, by its prototype.
-- Asks: CALLOTHER, recorded with its index and words.
pub data Effect : Type 0 where
  Ends : End → Effect
  Goes : Option Place → Effect
  Writes : (out : Option Varnode) (word : ℕ) → Effect
  Fetches : (out : Option Varnode) (own : Option ℕ) (space address : ℕ) → Effect
  Puts : (own : Option ℕ) (space address size word : ℕ) → Effect
  Calls : (target : ℕ) (args : List ℕ) (proto : Proto) (returns : Bool) → Effect
  Asks : (index : ℕ) (args : List ℕ) (out : Option Varnode) → Effect

abbrev pub varnode_at : List Varnode → ℕ → Varnode
varnode_at vs n = varnode_in (slice_get vs n) where
  varnode_in : Option Varnode → Varnode
  varnode_in None = record { space = 0; offset = 0; size = 0 }
  varnode_in (Some v) = v

abbrev pub size_out : Option Varnode → ℕ
size_out None = 0
size_out (Some v) = v.size

abbrev pub divided : Option Varnode → Option ℕ → Effect
divided out None = Ends DivZero
divided out (Some n) = Writes out n

-- the byte address of an offset in a space
abbrev pub byte_address : Listing → ℕ → ℕ → ℕ
byte_address l s offset = offset * word_size l s % size_of l s

abbrev pub result_of : Listing → Bytes → Option Varnode → Option ℕ
result_of l m None = None
result_of l m (Some v) = Some (local_word l v m)

-- by the operation, the output and the inputs, at an index of an instruction, with the operands' words; the register
-- and unique bytes are those of the state, and `own` is the frame's
abbrev pub effect_of : Listing → Option ℕ → Instruction → ℕ → Bytes → Opcode → Option Varnode → List Varnode → List ℕ → Effect
effect_of l own i n m (O.Unary op) out vs ws = Writes out (unary_value op (varnode_at vs 0).size (slice_index ws 0) (size_out out))
effect_of l own i n m (O.Binary op) out vs ws = Writes out (binary_value op (varnode_at vs 0).size (slice_index ws 0) (varnode_at vs 1).size (slice_index ws 1) (size_out out))
effect_of l own i n m (O.Divide op) out vs ws = divided out (divide_value op (size_out out) (slice_index ws 0) (slice_index ws 1))
effect_of l own i n m O.Load out vs ws = Fetches out own (varnode_at vs 0).offset (byte_address l (varnode_at vs 0).offset (slice_index ws 0))
effect_of l own i n m O.Store out vs ws = Puts own (varnode_at vs 0).offset (byte_address l (varnode_at vs 0).offset (slice_index ws 0)) (varnode_at vs 2).size (slice_index ws 1)
effect_of l own i n m O.Branch out vs ws = Goes (branch_place i n (varnode_at vs 0))
effect_of l own i n m O.CBranch out vs ws = Goes (if slice_index ws 0 == 0 then Some (next_place i n) else branch_place i n (varnode_at vs 0))
effect_of l own i n m O.BranchInd out vs ws = Goes (Some (place (slice_index ws 0) 0))
effect_of l own i n m O.Call out vs ws = Calls (varnode_at vs 0).offset ws (proto_of l (callee_at l (varnode_at vs 0).offset)) (returns (callee_at l (varnode_at vs 0).offset))
effect_of l own i n m O.CallInd out vs [] = Ends BadTarget
effect_of l own i n m O.CallInd out vs (w ∷ ws) = Calls w ws (proto_of l None) true
effect_of l own i n m O.CallOther out vs ws = Asks (varnode_at vs 0).offset ws out
effect_of l own i n m O.Return out vs ws = Ends (Returned (result_of l m (proto_of l None).gives))
effect_of l own i n m (O.Float name) out vs ws = Ends BadTarget
effect_of l own i n m (O.FloatConversion op) out vs ws = Ends BadTarget
effect_of l own i n m (O.Analysis op) out vs ws = Ends BadTarget
effect_of l own i n m (O.LeftOut op) out vs ws = Ends BadTarget

-- ---- what an effect makes of a state

-- a word written to the output: to a register or unique range, or as an observed store to a ram range
abbrev pub write_varnode : {M : Type 0} → Acts M → Listing → SpaceKind → Varnode → ℕ → State M → State M
write_varnode m l Constant v n s = s
write_varnode m l Ram v n s = in_world (store m v.space v.offset (bytes_in l v.space v.size n) s.world) s
write_varnode m l Register v n s = record { at = s.at; local = with_word l v n s.local; world = s.world }
write_varnode m l Unique v n s = record { at = s.at; local = with_word l v n s.local; world = s.world }

abbrev pub write_out : {M : Type 0} → Acts M → Listing → Option Varnode → ℕ → State M → State M
write_out m l None n s = s
write_out m l (Some v) n s = write_varnode m l (kind_of l v.space) v n s

abbrev pub fetched : {M : Type 0} → Acts M → Listing → Option Varnode → Result ℕ End → State M → State M
fetched m l out (Err e) s = in_world (ended e s.world) s
fetched m l out (Ok n) s = write_out m l out n s

-- a store by a pointer is observed, and a frame variable's isn't
abbrev pub put_at : {M : Type 0} → Acts M → Option ℕ → (space address : ℕ) → List ℕ → World M → World M
put_at m None s a bs w = store m s a bs w
put_at m (Some c) s a bs w = record { memory = m.write_own a c bs w.memory; answers = w.answers; events = w.events; over = w.over }

abbrev pub in_range : Varnode → ℕ → Bool
in_range v o = nat_le v.offset o && nat_lt o (v.offset + v.size)

abbrev pub in_option : Option Varnode → ℕ → Bool
in_option None o = false
in_option (Some v) o = in_range v o

abbrev pub in_some : List Varnode → ℕ → Bool
in_some [] o = false
in_some (v ∷ rest) o = if in_range v o then true else in_some rest o

-- After a call each register byte that is neither kept nor one of the stack pointer has the answer's byte.
abbrev pub after_callee : Listing → Proto → Answer → Bytes → Bytes
after_callee l p a m s o = if s == register_space l then (if in_some p.keep o then m s o else (if in_option l.stack o then m s o else a.registers o)) else m s o

abbrev pub with_result : Listing → Option Varnode → ℕ → Bytes → Bytes
with_result l None n m = m
with_result l (Some v) n m = with_word l v (n % limit v.size) m

abbrev pub with_pop : Listing → Option Varnode → ℕ → Bytes → Bytes
with_pop l None pop m = m
with_pop l (Some sp) pop m = with_word l sp ((local_word l sp m + pop) % limit sp.size) m

-- The result storage has the answer's word, and the stack pointer stands higher by the prototype's pop count.
abbrev pub after_call : Listing → Proto → Answer → Bytes → Bytes
after_call l p a m = with_pop l l.stack p.pop (with_result l p.gives a.word (after_callee l p a m))

abbrev pub answered : {M : Type 0} → Listing → Proto → Taken M → State M → State M
answered l p (Stops w) s = in_world w s
answered l p (Took a w) s = record { at = s.at; local = after_call l p a s.local; world = w }

abbrev pub called : {M : Type 0} → Acts M → Listing → Proto → Bool → State M → State M
called m l p true s = answered l p (take_answer m s.world) s
called m l p false s = in_world (ended NoReturn s.world) s

abbrev pub output : Option Varnode → ℕ → ℕ
output None n = n
output (Some v) n = n % limit v.size

abbrev pub asked : {M : Type 0} → Acts M → Listing → Option Varnode → Taken M → State M → State M
asked m l out (Stops w) s = in_world w s
asked m l out (Took a w) s = write_out m l out (output out a.word) (in_world w s)

abbrev pub gone : {M : Type 0} → Option Place → State M → State M
gone None s = in_world (ended BadTarget s.world) s
gone (Some p) s = moved p s

-- `next` is the next place
abbrev pub apply : {M : Type 0} → Acts M → Listing → Place → Effect → State M → State M
apply m l next (Ends e) s = in_world (ended e s.world) s
apply m l next (Goes to) s = gone to s
apply m l next (Writes out n) s = write_out m l out n (moved next s)
apply m l next (Fetches out own space a) s = fetched m l out (as_word l space (read_at m own space a (size_out out) s.world.memory)) (moved next s)
apply m l next (Puts own space a k n) s = in_world (put_at m own space a (bytes_in l space k n) s.world) (moved next s)
apply m l next (Calls to args p r) s = called m l p r (in_world (recorded (Call to args) s.world) (moved next s))
apply m l next (Asks index args out) s = asked m l out (take_answer m (recorded (Other index args) s.world)) (moved next s)

abbrev pub effect_at : {M : Type 0} → Listing → Frame → Instruction → Op → Result (List ℕ) End → State M → Effect
effect_at l f i op (Err e) s = Ends e
effect_at l f i op (Ok ws) s = effect_of l (f.own s.at 0) i s.at.index s.local op.code op.out op.inputs ws

abbrev pub step_at : {M : Type 0} → Acts M → Listing → Frame → Standing → State M → State M
step_at m l f Nothing s = in_world (ended BadTarget s.world) s
step_at m l f (Passes i) s = moved (next_instruction i) s
step_at m l f (Does i op) s = apply m l (next_place i s.at.index) (effect_at l f i op (read_all m l f s (operands l op.code op.inputs)) s) s

-- After an end nothing changes.
abbrev pub step : {M : Type 0} → Acts M → Listing → Frame → State M → State M
step m l f s = unless_over s.world.over s (step_at m l f (standing l s.at) s)

abbrev pub machine : {M : Type 0} → Acts M → Listing → Frame → Machine (State M)
machine m l f = record { step = step m l f; sight = λ s. shown s.world }

-- ---- the runs

abbrev pub first_place : Listing → Place
first_place l = place l.func.address 0

abbrev pub stack_word : Listing → Option Varnode → Bytes → ℕ
stack_word l None m = 0
stack_word l (Some sp) m = local_word l sp m

-- the stack pointer's word at entry
abbrev pub stack0 : Listing → Entry → ℕ
stack0 l e = stack_word l l.stack e.bytes

abbrev pub layout : Listing → Frame → Entry → Layout
layout l f e = record { listing = l; frame = f; stack0 = stack0 l e }

abbrev pub first_whole : Entry → Whole
first_whole e = record { bytes = e.bytes; hidden = e.hidden; spoiled = λ a. false }

abbrev pub start : {M : Type 0} → Listing → Entry → M → State M
start l e m = record { at = first_place l; local = e.bytes; world = first_world m e }

-- What the p-code run has shown after n steps from index 0 of the function's address.
abbrev pub seen_p : Listing → Frame → Entry → ℕ → Trace
seen_p l f e n = seen (machine (whole (layout l f e)) l f) (start l e (first_whole e)) n

-- the frame variables' own bytes are first filled with the hidden bytes, or the memory's where none is hidden
abbrev pub first_apart : Listing → Entry → Apart
first_apart l e = record { bytes = e.bytes; own = λ c. let a = (stack0 l e + c) % size_of l (first_ram l) in or_else (e.hidden a) (e.bytes (first_ram l) a) }

-- What the frame run has shown after n steps: frame variables have bytes of their own, and nothing is Outside.
abbrev pub seen_f : Listing → Frame → Entry → ℕ → Trace
seen_f l f e n = seen (machine (apart l) l f) (start l e (first_apart l e)) n
