-- What an op makes of a state, by the words that were read.
use Rattle.std.proofs.Common.{◌≡◌, ℕ, List, [], ◌∷◌, length, Option, Some, Result, Ok, Err, sym, subst, ap, ◌∙◌, arith}
use Rattle.bits_core.specs.declared.word.Word.{Word}
use Rattle.bits_core.specs.declared.ops.Unary.{Unary}
use Rattle.bits_core.specs.declared.ops.Binary.{Binary}
use Rattle.bits_core.specs.declared.ops.Divide.{Divide}
use Rattle.std.specs.Prelude.{IfSome}
use Rattle.bits_core.specs.Value.{IsUnarySized, IsBinarySized, unary_value, binary_value, divide_value}
use Rattle.machine.specs.Trace.{End}
use Rattle.pcode_model.specs.declared.listing.Listing.{Listing}
use Rattle.pcode_model.specs.declared.listing.Instruction.{Instruction}
use Rattle.pcode_model.specs.declared.listing.Op.{Op}
use Rattle.pcode_model.specs.declared.listing.Varnode.{Varnode}
use Rattle.pcode_model.specs.declared.opcode.Opcode.{Opcode}
use Rattle.pcode_model.specs.declared.opcode.Opcode.TheVariants as O
use Rattle.pcode_model.specs.Memory.{Acts, Frame}
use Rattle.pcode_model.specs.Places.{Does, next_place}
use Rattle.pcode_model.specs.Spaces.{kind_of}
use Rattle.pcode_model.specs.Step.{State, Reads, Writes, all_but_first, all_read, apply, divided, effect_at, in_world, operands, read_all, read_varnode, size_out, step_at, varnode_at, with_first}
use Rattle.pcode_model.specs.World.{ended}
use Rattle.pcode_operands.specs.Words.{got_word}
use Rattle.pcode_run.specs.Steps.{got_two}

-- ---- widths of words that were read

pub width_is : (o : Option Word) (a : Word) (n : ℕ) → o ≡ Some a → IfSome o (λ w. w.width.bytes ≡ n) → a.width.bytes ≡ n
width_is o a n is h = let P : Option Word → Type 0 = λ x. IfSome x (λ w. w.width.bytes ≡ n) in subst P is h

pub widths_are : (o : Option (Word × Word)) (p : Word × Word) (m n : ℕ)
    → o ≡ Some p
    → IfSome o (λ w. (w.0.width.bytes ≡ m) × (w.1.width.bytes ≡ n))
    → (p.0.width.bytes ≡ m) × (p.1.width.bytes ≡ n)
widths_are o p m n is h =
    let P : Option (Word × Word) → Type 0 = λ x. IfSome x (λ w. (w.0.width.bytes ≡ m) × (w.1.width.bytes ≡ n)) in
    subst P is h

pub unary_sized : (code : Unary) (v w m n : ℕ) → v ≡ m → w ≡ n → IsUnarySized code m n → IsUnarySized code v w
unary_sized code v w m n from to h =
    let P : ℕ → Type 0 = λ x. IsUnarySized code x n in
    let Q : ℕ → Type 0 = λ x. IsUnarySized code v x in
    subst Q (sym to) (subst P (sym from) h)

pub binary_sized : (code : Binary) (u v w k m n : ℕ)
    → u ≡ k
    → v ≡ m
    → w ≡ n
    → IsBinarySized code k m n
    → IsBinarySized code u v w
binary_sized code u v w k m n first second to h =
    let P : ℕ → Type 0 = λ x. IsBinarySized code x m n in
    let Q : ℕ → Type 0 = λ x. IsBinarySized code u x n in
    let R : ℕ → Type 0 = λ x. IsBinarySized code u v x in
    subst R (sym to) (subst Q (sym second) (subst P (sym first) h))

module _ {M : Type 0} (m : Acts M) (l : Listing) (f : Frame) (i : Instruction) (s : State M) where
  -- by the code, the output and the inputs of an op, and what was read
  abbrev made : Opcode → Option Varnode → List Varnode → Result (List ℕ) End → State M
  made code out vs r =
      apply m l (next_place i s.at.index) (effect_at l f i (record { code = code; out = out; inputs = vs }) r s) s

  pub does : (op : Op) (code : Opcode) (r : Result (List ℕ) End)
      → op.code ≡ code
      → read_all m l f s (operands l code op.inputs) ≡ r
      → step_at m l f (Does i op) s ≡ made code op.out op.inputs r
  does op code r kind read =
      ap (λ (c : Opcode). made c op.out op.inputs (read_all m l f s (operands l c op.inputs))) kind
      ∙ ap (λ (x : Result (List ℕ) End). made code op.out op.inputs x) read

  pub ends : (op : Op) (code : Opcode) (e : End)
      → op.code ≡ code
      → read_all m l f s (operands l code op.inputs) ≡ Err e
      → in_world (ended e s.world) s ≡ step_at m l f (Does i op) s
  ends op code e kind read = sym (does op code (Err e) kind read)

module _ {M : Type 0} (m : Acts M) (l : Listing) (f : Frame) (s : State M) where
  -- what was read of the only input
  pub one : (vs : List Varnode) (v : Varnode) (w o : Option Word)
      → length vs ≡ 1
      → v ≡ varnode_at vs 0
      → got_word w ≡ read_varnode m l (kind_of l v.space) v s
      → w ≡ o
      → read_all m l f s (all_read vs) ≡ with_first (got_word o) (Ok [])
  one [] v w o count is read got = absurd (omega (arith, count))
  one (x ∷ []) v w o count is read got =
      ap (λ (y : Varnode). read_all m l f s (Reads y ∷ [])) (sym is)
      ∙ ap (λ (r : Result ℕ End). with_first r (Ok [])) (sym read ∙ ap got_word got)
  one (x ∷ y ∷ vs) v w o count is read got = absurd (omega (arith, count))

  -- of the second of two inputs
  pub other : (vs : List Varnode) (v : Varnode) (w o : Option Word)
      → length vs ≡ 2
      → v ≡ varnode_at vs 1
      → got_word w ≡ read_varnode m l (kind_of l v.space) v s
      → w ≡ o
      → read_all m l f s (all_but_first vs) ≡ with_first (got_word o) (Ok [])
  other [] v w o count is read got = absurd (omega (arith, count))
  other (x ∷ []) v w o count is read got = absurd (omega (arith, count))
  other (x ∷ y ∷ []) v w o count is read got =
      ap (λ (z : Varnode). read_all m l f s (Reads z ∷ [])) (sym is)
      ∙ ap (λ (r : Result ℕ End). with_first r (Ok [])) (sym read ∙ ap got_word got)
  other (x ∷ y ∷ z ∷ vs) v w o count is read got = absurd (omega (arith, count))

  -- of both inputs
  pub two : (vs : List Varnode) (v w : Varnode) (r o : Option (Word × Word))
      → length vs ≡ 2
      → v ≡ varnode_at vs 0
      → w ≡ varnode_at vs 1
      → got_two r ≡ read_all m l f s (Reads v ∷ Reads w ∷ [])
      → r ≡ o
      → read_all m l f s (all_read vs) ≡ got_two o
  two [] v w r o count first second read got = absurd (omega (arith, count))
  two (x ∷ []) v w r o count first second read got = absurd (omega (arith, count))
  two (x ∷ y ∷ []) v w r o count first second read got =
      ap (λ (z : Varnode). read_all m l f s (Reads z ∷ Reads y ∷ [])) (sym first)
      ∙ ap (λ (z : Varnode). read_all m l f s (Reads v ∷ Reads z ∷ [])) (sym second)
      ∙ sym read
      ∙ ap got_two got
  two (x ∷ y ∷ z ∷ vs) v w r o count first second read got = absurd (omega (arith, count))

  -- of the second and the third of three inputs
  pub last_two : (vs : List Varnode) (v w : Varnode) (r o : Option (Word × Word))
      → length vs ≡ 3
      → v ≡ varnode_at vs 1
      → w ≡ varnode_at vs 2
      → got_two r ≡ read_all m l f s (Reads v ∷ Reads w ∷ [])
      → r ≡ o
      → read_all m l f s (all_but_first vs) ≡ got_two o
  last_two [] v w r o count first second read got = absurd (omega (arith, count))
  last_two (x ∷ []) v w r o count first second read got = absurd (omega (arith, count))
  last_two (x ∷ y ∷ []) v w r o count first second read got = absurd (omega (arith, count))
  last_two (x ∷ y ∷ z ∷ []) v w r o count first second read got =
      ap (λ (u : Varnode). read_all m l f s (Reads u ∷ Reads z ∷ [])) (sym first)
      ∙ ap (λ (u : Varnode). read_all m l f s (Reads v ∷ Reads u ∷ [])) (sym second)
      ∙ sym read
      ∙ ap got_two got
  last_two (x ∷ y ∷ z ∷ u ∷ vs) v w r o count first second read got = absurd (omega (arith, count))

module _ {M : Type 0} (m : Acts M) (l : Listing) (f : Frame) (i : Instruction) (s : State M) (op : Op) where
  pub unary_done : (code : Unary) (a : Word) (n v w : ℕ)
      → op.code ≡ O.Unary code
      → read_all m l f s (all_read op.inputs) ≡ Ok (a.value ∷ [])
      → n ≡ unary_value code v a.value w
      → v ≡ (varnode_at op.inputs 0).size
      → w ≡ size_out op.out
      → apply m l (next_place i s.at.index) (Writes op.out n) s ≡ step_at m l f (Does i op) s
  unary_done code a n v w kind read is from to =
      ap (λ x. apply m l (next_place i s.at.index) (Writes op.out x) s)
      (is
      ∙ ap (λ x. unary_value code x a.value w) from
      ∙ ap (λ x. unary_value code (varnode_at op.inputs 0).size a.value x) to)
      ∙ sym (does m l f i s op (O.Unary code) (Ok (a.value ∷ [])) kind read)

  pub binary_done : (code : Binary) (a b : Word) (n u v w : ℕ)
      → op.code ≡ O.Binary code
      → read_all m l f s (all_read op.inputs) ≡ Ok (a.value ∷ b.value ∷ [])
      → n ≡ binary_value code u a.value v b.value w
      → u ≡ (varnode_at op.inputs 0).size
      → v ≡ (varnode_at op.inputs 1).size
      → w ≡ size_out op.out
      → apply m l (next_place i s.at.index) (Writes op.out n) s ≡ step_at m l f (Does i op) s
  binary_done code a b n u v w kind read is first second to =
      ap (λ x. apply m l (next_place i s.at.index) (Writes op.out x) s)
      (is
      ∙ ap (λ x. binary_value code x a.value v b.value w) first
      ∙ ap (λ x. binary_value code (varnode_at op.inputs 0).size a.value x b.value w) second
      ∙ ap (λ x. binary_value code (varnode_at op.inputs 0).size a.value (varnode_at op.inputs 1).size b.value x)
      to)
      ∙ sym (does m l f i s op (O.Binary code) (Ok (a.value ∷ b.value ∷ [])) kind read)

  pub divide_done : (code : Divide) (a b : Word) (w : ℕ)
      → op.code ≡ O.Divide code
      → read_all m l f s (all_read op.inputs) ≡ Ok (a.value ∷ b.value ∷ [])
      → w ≡ size_out op.out
      → apply m l (next_place i s.at.index) (divided op.out (divide_value code w a.value b.value)) s
      ≡ step_at m l f (Does i op) s
  divide_done code a b w kind read to =
      ap (λ x. apply m l (next_place i s.at.index) (divided op.out (divide_value code x a.value b.value)) s) to
      ∙ sym (does m l f i s op (O.Divide code) (Ok (a.value ∷ b.value ∷ [])) kind read)
