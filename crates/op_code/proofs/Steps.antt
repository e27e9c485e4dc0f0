-- What a step of the listing does, by the words that its op reads.
use Rattle.std.proofs.Common.{◌≡◌, ◌≢◌, ℕ, true, List, [], ◌∷◌, Option, Some, None, ap, ◌∙◌}
use Rattle.std.specs.Prelude.{Ok}
use Rattle.machine.specs.Trace.{DivZero, Call, Other}
use Rattle.bits_core.specs.declared.ops.Unary.{Unary}
use Rattle.bits_core.specs.declared.ops.Binary.{Binary}
use Rattle.bits_core.specs.declared.ops.Divide.{Divide}
use Rattle.bits_core.specs.Value.{binary_value, divide_value, quotient_or_rest, unary_value}
use Rattle.laws.proofs.Division.{divide_some}
use Rattle.pcode_model.specs.declared.listing.Varnode.{Varnode}
use Rattle.pcode_model.specs.declared.listing.Instruction.{Instruction}
use Rattle.pcode_model.specs.declared.listing.Op.{Op}
use Rattle.pcode_model.specs.declared.listing.Listing.{Listing}
use Rattle.pcode_model.specs.declared.opcode.Opcode.{Opcode}
use Rattle.pcode_model.specs.declared.opcode.Opcode.TheVariants as O
use Rattle.pcode_model.specs.Places.{Does, next_place}
use Rattle.pcode_model.specs.Spaces.{kind_of}
use Rattle.pcode_model.specs.Memory.{Acts, Bytes, Frame}
use Rattle.pcode_model.specs.World.{ended, recorded, store, take_answer}
use Rattle.pcode_model.specs.Step.{State, all_read, apply, as_word, asked, byte_address, bytes_in, callee_at, called, divided, effect_at, fetched, in_world, moved, operands, proto_of, put_at, read_all, read_at, returns, step_at, word_in_bytes, write_varnode}
use Rattle.pcode_laws.specs.AsBytes.{AsBytes}
use Rattle.op_code.proofs.Access.{read_is}

abbrev pub op_of : Opcode → Option Varnode → List Varnode → Op
op_of code out vs = record { code = code; out = out; inputs = vs }

module _ {M : Type 0} (m : Acts M) (l : Listing) (f : Frame) (i : Instruction) (s : State M) where
  pub unary_step : (op : Unary) (z v : Varnode) (a : ℕ)
      → read_all m l f s (all_read (v ∷ [])) ≡ Ok (a ∷ [])
      → step_at m l f (Does i (op_of (O.Unary op) (Some z) (v ∷ []))) s
      ≡ write_varnode m l (kind_of l z.space) z (unary_value op v.size a z.size) (moved (next_place i s.at.index) s)
  unary_step op z v a read =
      ap (λ r. apply m l (next_place i s.at.index) (effect_at l f i (op_of (O.Unary op) (Some z) (v ∷ [])) r s) s) read

  pub binary_step : (op : Binary) (z v w : Varnode) (a b : ℕ)
      → read_all m l f s (all_read (v ∷ w ∷ [])) ≡ Ok (a ∷ b ∷ [])
      → step_at m l f (Does i (op_of (O.Binary op) (Some z) (v ∷ w ∷ []))) s
      ≡ write_varnode m l (kind_of l z.space) z (binary_value op v.size a w.size b z.size)
      (moved (next_place i s.at.index) s)
  binary_step op z v w a b read =
      ap (λ r. apply m l (next_place i s.at.index) (effect_at l f i (op_of (O.Binary op) (Some z) (v ∷ w ∷ [])) r s) s)
      read

  -- a division by another number than 0
  pub divide_step : (op : Divide) (z v w : Varnode) (a b : ℕ)
      → read_all m l f s (all_read (v ∷ w ∷ [])) ≡ Ok (a ∷ b ∷ [])
      → b ≢ 0
      → step_at m l f (Does i (op_of (O.Divide op) (Some z) (v ∷ w ∷ []))) s
      ≡ write_varnode m l (kind_of l z.space) z (quotient_or_rest op z.size a b) (moved (next_place i s.at.index) s)
  divide_step op z v w a b read some =
      let next = next_place i s.at.index in
      ap (λ r. apply m l next (effect_at l f i (op_of (O.Divide op) (Some z) (v ∷ w ∷ [])) r s) s) read
      ∙ ap (λ o. apply m l next (divided (Some z) o) s) (divide_some op z.size a b some)

  -- and one by 0
  pub divide_ends : (op : Divide) (z v w : Varnode) (a b : ℕ)
      → read_all m l f s (all_read (v ∷ w ∷ [])) ≡ Ok (a ∷ b ∷ [])
      → divide_value op z.size a b ≡ None
      → step_at m l f (Does i (op_of (O.Divide op) (Some z) (v ∷ w ∷ []))) s ≡ in_world (ended DivZero s.world) s
  divide_ends op z v w a b read none =
      let next = next_place i s.at.index in
      ap (λ r. apply m l next (effect_at l f i (op_of (O.Divide op) (Some z) (v ∷ w ∷ [])) r s) s) read
      ∙ ap (λ o. apply m l next (divided (Some z) o) s) none

  pub store_step : (t v w : Varnode) (a b : ℕ)
      → read_all m l f s (all_read (v ∷ w ∷ [])) ≡ Ok (a ∷ b ∷ [])
      → f.own s.at 0 ≡ None
      → step_at m l f (Does i (op_of O.Store None (t ∷ v ∷ w ∷ []))) s
      ≡ in_world (store m t.offset (byte_address l t.offset a) (bytes_in l t.offset w.size b) s.world)
      (moved (next_place i s.at.index) s)
  store_step t v w a b read free =
      let next = next_place i s.at.index in
      let at = byte_address l t.offset a in
      ap (λ r. apply m l next (effect_at l f i (op_of O.Store None (t ∷ v ∷ w ∷ [])) r s) s) read
      ∙ ap (λ own. in_world (put_at m own t.offset at (bytes_in l t.offset w.size b) s.world) (moved next s)) free

  pub load_step : (look : M → Bytes)
      → AsBytes m l look
      → (t v z : Varnode) (a : ℕ)
      → read_all m l f s (all_read (v ∷ [])) ≡ Ok (a ∷ [])
      → f.own s.at 0 ≡ None
      → step_at m l f (Does i (op_of O.Load (Some z) (t ∷ v ∷ []))) s
      ≡ write_varnode m l (kind_of l z.space) z
      (word_in_bytes l t.offset (byte_address l t.offset a) z.size (look s.world.memory))
      (moved (next_place i s.at.index) s)
  load_step look is t v z a read free =
      let next = next_place i s.at.index in
      let at = byte_address l t.offset a in
      ap (λ r. apply m l next (effect_at l f i (op_of O.Load (Some z) (t ∷ v ∷ [])) r s) s) read
      ∙ ap (λ own. fetched m l (Some z) (as_word l t.offset (read_at m own t.offset at z.size s.world.memory))
      (moved next s)) free
      ∙ ap (λ r. fetched m l (Some z) r (moved next s)) (read_is m l look is t.offset at z.size s.world.memory)

  -- accesses of frame variables
  pub own_load_step : (c : ℕ) (t v z : Varnode) (a : ℕ)
      → read_all m l f s (all_read (v ∷ [])) ≡ Ok (a ∷ [])
      → f.own s.at 0 ≡ Some c
      → step_at m l f (Does i (op_of O.Load (Some z) (t ∷ v ∷ []))) s
      ≡ fetched m l (Some z)
      (as_word l t.offset (m.read_own (byte_address l t.offset a) c z.size s.world.memory))
      (moved (next_place i s.at.index) s)
  own_load_step c t v z a read own =
      let next = next_place i s.at.index in
      let at = byte_address l t.offset a in
      ap (λ r. apply m l next (effect_at l f i (op_of O.Load (Some z) (t ∷ v ∷ [])) r s) s) read
      ∙ ap (λ o. fetched m l (Some z) (as_word l t.offset (read_at m o t.offset at z.size s.world.memory))
      (moved next s)) own

  pub own_store_step : (c : ℕ) (t v w : Varnode) (a b : ℕ)
      → read_all m l f s (all_read (v ∷ w ∷ [])) ≡ Ok (a ∷ b ∷ [])
      → f.own s.at 0 ≡ Some c
      → step_at m l f (Does i (op_of O.Store None (t ∷ v ∷ w ∷ []))) s
      ≡ in_world (put_at m (Some c) t.offset (byte_address l t.offset a) (bytes_in l t.offset w.size b) s.world)
      (moved (next_place i s.at.index) s)
  own_store_step c t v w a b read own =
      let next = next_place i s.at.index in
      let at = byte_address l t.offset a in
      ap (λ r. apply m l next (effect_at l f i (op_of O.Store None (t ∷ v ∷ w ∷ [])) r s) s) read
      ∙ ap (λ o. in_world (put_at m o t.offset at (bytes_in l t.offset w.size b) s.world) (moved next s)) own

  -- a call of an address
  pub call_step : (to : Varnode) (ns : List ℕ)
      → read_all m l f s (operands l O.Call (to ∷ [])) ≡ Ok ns
      → step_at m l f (Does i (op_of O.Call None (to ∷ []))) s
      ≡ called m l (proto_of l (callee_at l to.offset)) (returns (callee_at l to.offset))
      (in_world (recorded (Call to.offset ns) s.world) (moved (next_place i s.at.index) s))
  call_step to ns read =
      ap (λ r. apply m l (next_place i s.at.index) (effect_at l f i (op_of O.Call None (to ∷ [])) r s) s) read

  -- and of a word
  pub indirect_step : (to : Varnode) (a : ℕ) (ns : List ℕ)
      → read_all m l f s (operands l O.CallInd (to ∷ [])) ≡ Ok (a ∷ ns)
      → step_at m l f (Does i (op_of O.CallInd None (to ∷ []))) s
      ≡ called m l (proto_of l None) true
      (in_world (recorded (Call a ns) s.world) (moved (next_place i s.at.index) s))
  indirect_step to a ns read =
      ap (λ r. apply m l (next_place i s.at.index) (effect_at l f i (op_of O.CallInd None (to ∷ [])) r s) s) read

  pub other_step : (out : Option Varnode) (index : Varnode) (vs : List Varnode) (ns : List ℕ)
      → read_all m l f s (all_read vs) ≡ Ok ns
      → step_at m l f (Does i (op_of O.CallOther out (index ∷ vs))) s
      ≡ asked m l out (take_answer m (recorded (Other index.offset ns) s.world)) (moved (next_place i s.at.index) s)
  other_step out index vs ns read =
      ap (λ r. apply m l (next_place i s.at.index) (effect_at l f i (op_of O.CallOther out (index ∷ vs)) r s) s) read
