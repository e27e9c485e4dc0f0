-- How a run of p-code may end.
use Rattle.std.proofs.Common.{◌≡◌, ℕ, zero, suc, Bool, true, false, List, [], ◌∷◌, refl, sym, subst, Option, Some, None}
use Rattle.std.specs.Prelude.{Result, Ok, Err}
use Rattle.machine.specs.Trace.{Event, End, Returned, DivZero, NoAnswer, NoReturn, BadTarget, Call, Other}
use Rattle.machine.specs.Machine.{after, seen}
use Rattle.pcode_model.specs.declared.listing.SpaceKind.{SpaceKind}
use Rattle.pcode_model.specs.declared.listing.SpaceKind.TheVariants.{Constant, Ram, Register, Unique}
use Rattle.pcode_model.specs.declared.listing.Varnode.{Varnode}
use Rattle.pcode_model.specs.declared.listing.Instruction.{Instruction}
use Rattle.pcode_model.specs.declared.listing.Place.{Place}
use Rattle.pcode_model.specs.declared.listing.Proto.{Proto}
use Rattle.pcode_model.specs.declared.listing.Op.{Op}
use Rattle.pcode_model.specs.declared.listing.Listing.{Listing}
use Rattle.pcode_model.specs.declared.opcode.Opcode.{Opcode}
use Rattle.pcode_model.specs.declared.opcode.Opcode.TheVariants as O
use Rattle.pcode_model.specs.Spaces.{kind_of, first_ram}
use Rattle.pcode_model.specs.Places.{Standing, Nothing, Passes, Does, standing, next_place}
use Rattle.pcode_model.specs.Memory.{Acts, Frame, Bytes, ByteWrite}
use Rattle.pcode_model.specs.World.{Answer, World, recorded, stored_as, Taken, Stops, Took, took, take_from, take_answer, write_all, and_then, unless_over}
use Rattle.pcode_model.specs.Step.{State, Effect, Ends, Goes, Writes, Fetches, Puts, Calls, Asks, Operand, Reads, ReadsStack, moved, in_world, write_varnode, write_out, fetched, put_at, read_at, as_word, read_varnode, read_operand, with_first, read_all, divided, effect_of, effect_at, answered, called, output, asked, gone, apply, operands, step_at, step, machine, proto_of, result_of, stack_address, bytes_in, size_out}
use Rattle.pcode_laws.proofs.Grows.{world_taken}

-- which ends there may be: those that a step gives by itself, and those that the memory gives
pub record Allows {M : Type 0} (m : Acts M) (l : Listing) (Q : End → Type 0) : Type 0 where
  pub div_zero : Q DivZero
  pub no_return : Q NoReturn
  pub bad_target : Q BadTarget
  pub no_answer : Q NoAnswer
  pub returned : (b : Bytes) → Q (Returned (result_of l b (proto_of l None).gives))
  pub read : (s a k : ℕ) (w : M) (e : End) → m.read s a k w ≡ Err e → Q e
  pub write : (s a : ℕ) (bs : List ℕ) (w : M) (e : End) → m.write s a bs w ≡ Err e → Q e
  pub read_own : (a c k : ℕ) (w : M) (e : End) → m.read_own a c k w ≡ Err e → Q e
  pub answer : (x : ByteWrite) (w : M) (e : End) → m.answer x w ≡ Err e → Q e

-- no end, or one of these
abbrev pub Within : (End → Type 0) → Option End → Type 0
Within Q None = Unit {0}
Within Q (Some e) = Q e

-- an error is one of these
pub record Errs {A : Type 0} (Q : End → Type 0) (r : Result A End) : Type 0 where
  pub err : (e : End) → r ≡ Err e → Q e

errs_ok : {A : Type 0} (Q : End → Type 0) (x : A) → Errs Q (Ok x)
errs_ok Q x = record { err = λ e f. absurd (cc) }

errs_err : {A : Type 0} (Q : End → Type 0) (e : End) → Q e → Errs {A = A} Q (Err e)
errs_err Q e h = record { err = λ d f. let s : e ≡ d = cc in subst Q s h }

-- ---- reads

errs_word : (Q : End → Type 0) (l : Listing) (s : ℕ) (r : Result (List ℕ) End) → Errs Q r → Errs Q (as_word l s r)
errs_word Q l s (Err e) h = errs_err Q e (h.err e refl)
errs_word Q l s (Ok bs) h = errs_ok Q _

errs_at : {M : Type 0} (m : Acts M) (l : Listing) (Q : End → Type 0)
    → Allows m l Q
    → (own : Option ℕ) (s a k : ℕ) (w : M)
    → Errs Q (read_at m own s a k w)
errs_at m l Q h None s a k w = record { err = h.read s a k w }
errs_at m l Q h (Some c) s a k w = record { err = h.read_own a c k w }

errs_varnode : {M : Type 0} (m : Acts M) (l : Listing) (Q : End → Type 0)
    → Allows m l Q
    → (k : SpaceKind) (v : Varnode) (s : State M)
    → Errs Q (read_varnode m l k v s)
errs_varnode m l Q h Constant v s = errs_ok Q v.offset
errs_varnode m l Q h Ram v s =
    errs_word Q l v.space (m.read v.space v.offset v.size s.world.memory)
    (record { err = h.read v.space v.offset v.size s.world.memory })
errs_varnode m l Q h Register v s = errs_ok Q _
errs_varnode m l Q h Unique v s = errs_ok Q _

errs_operand : {M : Type 0} (m : Acts M) (l : Listing) (f : Frame) (Q : End → Type 0)
    → Allows m l Q
    → (s : State M) (x : Operand)
    → Errs Q (read_operand m l f s x)
errs_operand m l f Q h s (Reads v) = errs_varnode m l Q h (kind_of l v.space) v s
errs_operand m l f Q h s (ReadsStack n offset size) =
    errs_word Q l (first_ram l)
    (read_at m (f.own s.at n) (first_ram l) (stack_address l offset l.stack s.local) size s.world.memory)
    (errs_at m l Q h (f.own s.at n) (first_ram l) (stack_address l offset l.stack s.local) size s.world.memory)

errs_first : (Q : End → Type 0) (r : Result ℕ End) (rs : Result (List ℕ) End)
    → Errs Q r
    → Errs Q rs
    → Errs Q (with_first r rs)
errs_first Q (Err e) rs h hs = errs_err Q e (h.err e refl)
errs_first Q (Ok n) (Err e) h hs = errs_err Q e (hs.err e refl)
errs_first Q (Ok n) (Ok ns) h hs = errs_ok Q (n ∷ ns)

errs_all : {M : Type 0} (m : Acts M) (l : Listing) (f : Frame) (Q : End → Type 0)
    → Allows m l Q
    → (s : State M) (xs : List Operand)
    → Errs Q (read_all m l f s xs)
errs_all m l f Q h s [] = errs_ok Q []
errs_all m l f Q h s (x ∷ xs) =
    errs_first Q (read_operand m l f s x) (read_all m l f s xs) (errs_operand m l f Q h s x) (errs_all m l f Q h s xs)

-- ---- worlds

within_store : {M : Type 0} (Q : End → Type 0) (x : Event) (r : Result M End) (w : World M)
    → Errs Q r
    → Within Q w.over
    → Within Q (stored_as x r w).over
within_store Q x (Err e) w h in' = h.err e refl
within_store Q x (Ok m) w h in' = in'

within_varnode : {M : Type 0} (m : Acts M) (l : Listing) (Q : End → Type 0)
    → Allows m l Q
    → (k : SpaceKind) (v : Varnode) (n : ℕ) (s : State M)
    → Within Q s.world.over
    → Within Q (write_varnode m l k v n s).world.over
within_varnode m l Q h Constant v n s in' = in'
within_varnode m l Q h Ram v n s in' =
    within_store Q _ (m.write v.space v.offset (bytes_in l v.space v.size n) s.world.memory) s.world
    (record { err = h.write v.space v.offset (bytes_in l v.space v.size n) s.world.memory }) in'
within_varnode m l Q h Register v n s in' = in'
within_varnode m l Q h Unique v n s in' = in'

within_out : {M : Type 0} (m : Acts M) (l : Listing) (Q : End → Type 0)
    → Allows m l Q
    → (out : Option Varnode) (n : ℕ) (s : State M)
    → Within Q s.world.over
    → Within Q (write_out m l out n s).world.over
within_out m l Q h None n s in' = in'
within_out m l Q h (Some v) n s in' = within_varnode m l Q h (kind_of l v.space) v n s in'

within_fetched : {M : Type 0} (m : Acts M) (l : Listing) (Q : End → Type 0)
    → Allows m l Q
    → (out : Option Varnode) (r : Result ℕ End) (s : State M)
    → Errs Q r
    → Within Q s.world.over
    → Within Q (fetched m l out r s).world.over
within_fetched m l Q h out (Err e) s errs in' = errs.err e refl
within_fetched m l Q h out (Ok n) s errs in' = within_out m l Q h out n s in'

within_put : {M : Type 0} (m : Acts M) (l : Listing) (Q : End → Type 0)
    → Allows m l Q
    → (own : Option ℕ) (s a : ℕ) (bs : List ℕ) (w : World M)
    → Within Q w.over
    → Within Q (put_at m own s a bs w).over
within_put m l Q h None s a bs w in' =
    within_store Q _ (m.write s a bs w.memory) w (record { err = h.write s a bs w.memory }) in'
within_put m l Q h (Some c) s a bs w in' = in'

errs_then : {M : Type 0} (Q : End → Type 0) (r : Result M End) (f : M → Result M End)
    → Errs Q r
    → ((x : M) → Errs Q (f x))
    → Errs Q (and_then r f)
errs_then Q (Ok x) f h g = g x
errs_then Q (Err e) f h g = errs_err Q e (h.err e refl)

errs_writes : {M : Type 0} (m : Acts M) (l : Listing) (Q : End → Type 0)
    → Allows m l Q
    → (xs : List ByteWrite) (w : M)
    → Errs Q (write_all m xs w)
errs_writes m l Q h [] w = errs_ok Q w
errs_writes m l Q h (x ∷ xs) w =
    errs_then Q (m.answer x w) (write_all m xs) (record { err = h.answer x w }) (λ y. errs_writes m l Q h xs y)

within_took : {M : Type 0} (m : Acts M) (Q : End → Type 0) (a : Answer) (rest : List Answer) (r : Result M End)
    (w : World M)
    → Errs Q r
    → Within Q w.over
    → Within Q (world_taken (took m a rest r w)).over
within_took m Q a rest (Err e) w h in' = h.err e refl
within_took m Q a rest (Ok x) w h in' = in'

within_from : {M : Type 0} (m : Acts M) (l : Listing) (Q : End → Type 0)
    → Allows m l Q
    → (answers : List Answer) (w : World M)
    → Within Q w.over
    → Within Q (world_taken (take_from m answers w)).over
within_from m l Q h [] w in' = h.no_answer
within_from m l Q h (a ∷ rest) w in' =
    within_took m Q a rest (write_all m a.memory w.memory) w (errs_writes m l Q h a.memory w.memory) in'

within_answered : {M : Type 0} (l : Listing) (Q : End → Type 0) (p : Proto) (t : Taken M) (s : State M)
    → Within Q (world_taken t).over
    → Within Q (answered l p t s).world.over
within_answered l Q p (Stops w) s in' = in'
within_answered l Q p (Took a w) s in' = in'

within_asked : {M : Type 0} (m : Acts M) (l : Listing) (Q : End → Type 0)
    → Allows m l Q
    → (out : Option Varnode) (t : Taken M) (s : State M)
    → Within Q (world_taken t).over
    → Within Q (asked m l out t s).world.over
within_asked m l Q h out (Stops w) s in' = in'
within_asked m l Q h out (Took a w) s in' = within_out m l Q h out (output out a.word) (in_world w s) in'

within_called : {M : Type 0} (m : Acts M) (l : Listing) (Q : End → Type 0)
    → Allows m l Q
    → (p : Proto) (returns : Bool) (s : State M)
    → Within Q s.world.over
    → Within Q (called m l p returns s).world.over
within_called m l Q h p true s in' =
    within_answered l Q p (take_answer m s.world) s (within_from m l Q h s.world.answers s.world in')
within_called m l Q h p false s in' = h.no_return

within_gone : {M : Type 0} (l : Listing) (Q : End → Type 0)
    → Q BadTarget
    → (to : Option Place) (s : State M)
    → Within Q s.world.over
    → Within Q (gone to s).world.over
within_gone l Q h None s in' = h
within_gone l Q h (Some p) s in' = in'

-- ---- effects

-- an effect that ends the run ends it so
abbrev EndsWithin : (End → Type 0) → Effect → Type 0
EndsWithin Q (Ends e) = Q e
EndsWithin Q e = Unit {0}

within_effect : {M : Type 0} (m : Acts M) (l : Listing) (Q : End → Type 0)
    → Allows m l Q
    → (next : Place) (e : Effect) (s : State M)
    → EndsWithin Q e
    → Within Q s.world.over
    → Within Q (apply m l next e s).world.over
within_effect m l Q h next (Ends e) s ends in' = ends
within_effect m l Q h next (Goes to) s ends in' = within_gone l Q h.bad_target to s in'
within_effect m l Q h next (Writes out n) s ends in' = within_out m l Q h out n (moved next s) in'
within_effect m l Q h next (Fetches out own space a) s ends in' =
    within_fetched m l Q h out (as_word l space (read_at m own space a (size_out out) s.world.memory)) (moved next s)
    (errs_word Q l space (read_at m own space a (size_out out) s.world.memory)
    (errs_at m l Q h own space a (size_out out) s.world.memory)) in'
within_effect m l Q h next (Puts own space a k n) s ends in' =
    within_put m l Q h own space a (bytes_in l space k n) s.world in'
within_effect m l Q h next (Calls to args p r) s ends in' =
    within_called m l Q h p r (in_world (recorded (Call to args) s.world) (moved next s)) in'
within_effect m l Q h next (Asks index args out) s ends in' =
    within_asked m l Q h out (take_answer m (recorded (Other index args) s.world)) (moved next s)
    (within_from m l Q h s.world.answers (recorded (Other index args) s.world) in')

ends_divided : {M : Type 0} (m : Acts M) (l : Listing) (Q : End → Type 0)
    → Allows m l Q
    → (out : Option Varnode) (o : Option ℕ)
    → EndsWithin Q (divided out o)
ends_divided m l Q h out None = h.div_zero
ends_divided m l Q h out (Some n) = tt

ends_effect : {M : Type 0} (m : Acts M) (l : Listing) (Q : End → Type 0)
    → Allows m l Q
    → (own : Option ℕ) (i : Instruction) (n : ℕ) (b : Bytes) (code : Opcode) (out : Option Varnode) (vs : List Varnode)
    (ws : List ℕ)
    → EndsWithin Q (effect_of l own i n b code out vs ws)
ends_effect m l Q h own i n b (O.Unary op) out vs ws = tt
ends_effect m l Q h own i n b (O.Binary op) out vs ws = tt
ends_effect m l Q h own i n b (O.Divide op) out vs ws = ends_divided m l Q h out _
ends_effect m l Q h own i n b O.Load out vs ws = tt
ends_effect m l Q h own i n b O.Store out vs ws = tt
ends_effect m l Q h own i n b O.Branch out vs ws = tt
ends_effect m l Q h own i n b O.CBranch out vs ws = tt
ends_effect m l Q h own i n b O.BranchInd out vs ws = tt
ends_effect m l Q h own i n b O.Call out vs ws = tt
ends_effect m l Q h own i n b O.CallInd out vs [] = h.bad_target
ends_effect m l Q h own i n b O.CallInd out vs (w ∷ ws) = tt
ends_effect m l Q h own i n b O.CallOther out vs ws = tt
ends_effect m l Q h own i n b O.Return out vs ws = h.returned b
ends_effect m l Q h own i n b (O.Float name) out vs ws = h.bad_target
ends_effect m l Q h own i n b (O.FloatConversion op) out vs ws = h.bad_target
ends_effect m l Q h own i n b (O.Analysis op) out vs ws = h.bad_target
ends_effect m l Q h own i n b (O.LeftOut op) out vs ws = h.bad_target

ends_at : {M : Type 0} (m : Acts M) (l : Listing) (f : Frame) (Q : End → Type 0)
    → Allows m l Q
    → (i : Instruction) (op : Op) (r : Result (List ℕ) End) (s : State M)
    → Errs Q r
    → EndsWithin Q (effect_at l f i op r s)
ends_at m l f Q h i op (Err e) s errs = errs.err e refl
ends_at m l f Q h i op (Ok ws) s errs =
    ends_effect m l Q h (f.own s.at 0) i s.at.index s.local op.code op.out op.inputs ws

within_step_at : {M : Type 0} (m : Acts M) (l : Listing) (f : Frame) (Q : End → Type 0)
    → Allows m l Q
    → (at : Standing) (s : State M)
    → Within Q s.world.over
    → Within Q (step_at m l f at s).world.over
within_step_at m l f Q h Nothing s in' = h.bad_target
within_step_at m l f Q h (Passes i) s in' = in'
within_step_at m l f Q h (Does i op) s in' =
    let r = read_all m l f s (operands l op.code op.inputs) in
    within_effect m l Q h (next_place i s.at.index) (effect_at l f i op r s) s
    (ends_at m l f Q h i op r s (errs_all m l f Q h s (operands l op.code op.inputs))) in'

within_over : {M : Type 0} (Q : End → Type 0) (o : Option End) (s t : State M)
    → Within Q s.world.over
    → Within Q t.world.over
    → Within Q (unless_over o s t).world.over
within_over Q None s t hs ht = ht
within_over Q (Some e) s t hs ht = hs

within_after : {M : Type 0} (m : Acts M) (l : Listing) (f : Frame) (Q : End → Type 0)
    → Allows m l Q
    → (n : ℕ) (s : State M)
    → Within Q s.world.over
    → Within Q (after (step m l f) n s).world.over
within_after m l f Q h zero s in' = in'
within_after m l f Q h (suc n) s in' =
    within_after m l f Q h n (step m l f s)
    (within_over Q s.world.over s (step_at m l f (standing l s.at) s) in'
    (within_step_at m l f Q h (standing l s.at) s in'))

is_within : (Q : End → Type 0) (o : Option End) (e : End) → o ≡ Some e → Within Q o → Q e
is_within Q o e f h = let P : Option End → Type 0 = λ x. Within Q x in subst P f h

-- A run that hasn't ended yet ends, if at all, with one of these.
pub ends_within : {M : Type 0} (m : Acts M) (l : Listing) (f : Frame) (Q : End → Type 0)
    → Allows m l Q
    → (s : State M)
    → s.world.over ≡ None
    → (n : ℕ) (e : End)
    → (seen (machine m l f) s n).over ≡ Some e
    → Q e
ends_within m l f Q h s go n e over =
    let P : Option End → Type 0 = λ o. Within Q o in
    is_within Q (after (step m l f) n s).world.over e over (within_after m l f Q h n s (subst P (sym go) tt))
