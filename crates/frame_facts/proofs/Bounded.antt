-- Each access of the frame has 1 to 16 bytes, and begins near the stack pointer's entry word.
use Rattle.std.proofs.Common.{◌≡◌, ◌≤◌, ◌^◌, ℕ, suc, Bool, true, false, List, [], ◌∷◌, Option, Some, None, length, refl, inl, inr, ⊎_elim, sym, subst, ap, arith}
use Rattle.std.specs.Prelude.{◌==◌, cond}
use Rattle.std.specs.List.{AllByRecursion}
use Rattle.std.proofs.lemmas.Bool.{not-false}
use Rattle.pcode_model.specs.declared.frame.Frame.{Frame}
use Rattle.pcode_model.specs.declared.frame.FrameAccess.{FrameAccess}
use Rattle.pcode_model.specs.declared.listing.Instruction.{Instruction}
use Rattle.pcode_model.specs.declared.listing.Listing.{Listing}
use Rattle.pcode_model.specs.declared.listing.Op.{Op}
use Rattle.pcode_model.specs.declared.listing.Place.{Place}
use Rattle.pcode_model.specs.declared.listing.Storage.{Storage}
use Rattle.pcode_model.specs.declared.listing.Storage.TheVariants.{At, Stack}
use Rattle.pcode_model.specs.declared.listing.Varnode.{Varnode}
use Rattle.pcode_model.specs.declared.opcode.Opcode.{Opcode}
use Rattle.pcode_model.specs.declared.opcode.Opcode.TheVariants as O
use Rattle.pcode_model.specs.declared.rules.OpWhy.TheVariants.{Arity}
use Rattle.pcode_model.specs.declared.tables.TableAt.{TableAt}
use Rattle.pcode_model.specs.Atoms.{one_range}
use Rattle.pcode_model.specs.Flow.{IsIn}
use Rattle.pcode_model.specs.Rules.{first_bad, has_operands, input_ranges, operands_of}
use Rattle.pcode_model.specs.Step.{Operand, Reads, arguments, callee_at, proto_of, size_out, varnode_at}
use Rattle.pcode_model.specs.WellFormed.{IsArgument, IsWellFormed}
use Rattle.instructions.proofs.Standing.{StandsIn, stands_in}
use Rattle.pcode_laws.proofs.Rules.{breaks_none}
use Rattle.frame_facts.specs.Accesses.{IsFrameAccess, IsWithinLimits, Reach, frame_limit, only_memory, reach, reaches, stack_reaches}
use Rattle.frame_facts.specs.Escapes.{is_of_memory}
use Rattle.frame_facts.specs.Listed.{IsFrame}
use Rattle.frame_facts.proofs.Counted.{counted, of_three, third, with_output}
use Rattle.frame_facts.proofs.Few.{IsFew, input_few, output_few}
use Rattle.frame_facts.proofs.Prototypes.{proto_fine}

-- what an access of the frame is, whatever its place
pub record IsKnown (l : Listing) (a : FrameAccess) : Type 0 where
  pub few : IsFew a.size
  pub within : IsWithinLimits l a.offset
  -- there is a stack pointer
  pub pointer : Varnode
  pub is_pointer : l.stack ≡ Some pointer

-- ---- what an op reaches

memory_size : (l : Listing) (vs : List Varnode) (k : ℕ) (r : Reach) → IsIn r (only_memory l vs k) → r.size ≡ k
memory_size l vs k r is = by (is_of_memory l vs) is where
  by : (b : Bool) → IsIn r (cond b (reach 0 (varnode_at vs 1) 0 k ∷ []) []) → r.size ≡ k
  by true is = ⊎_elim (λ e. ap (λ (x : Reach). x.size) e) (λ bad. absurd bad) is
  by false is = absurd is

stack_few : (l : Listing) (stack : Option Varnode) (args : List Storage)
    → AllByRecursion (IsArgument l.spaces l.stack) args
    → (n : ℕ) (r : Reach)
    → IsIn r (stack_reaches stack (arguments n args))
    → IsFew r.size
stack_few l None args all n r is = absurd is
stack_few l (Some sp) [] all n r is = absurd is
stack_few l (Some sp) (At v ∷ args) all n r is = stack_few l (Some sp) args all.1 (suc n) r is
stack_few l (Some sp) (Stack offset size ∷ args) all n r (inl e) =
    subst IsFew (sym (ap (λ (x : Reach). x.size) e)) (all.0.0, all.0.1)
stack_few l (Some sp) (Stack offset size ∷ args) all n r (inr is) = stack_few l (Some sp) args all.1 (suc n) r is

none_reached : (stack : Option Varnode) (r : Reach) → IsIn r (stack_reaches stack []) → ⊥
none_reached None r is = is
none_reached (Some sp) r is = is

-- What a call's arguments reach is no more with the address that it reads.
pub past_read : (stack : Option Varnode) (v : Varnode) (xs : List Operand) (r : Reach)
    → IsIn r (stack_reaches stack (Reads v ∷ xs))
    → IsIn r (stack_reaches stack xs)
past_read None v xs r is = is
past_read (Some sp) v xs r is = is

module _
    (l : Listing)
    (read : IsWellFormed l)
    (good : first_bad l ≡ None)
    (i : Instruction)
    (op : Op)
    (stand : StandsIn l.code i op)
  where
    enough : has_operands (operands_of op.code) op.out (length op.inputs) ≡ true
    enough = not-false _ (breaks_none l good i stand.code_has op stand.ops_have Arity (inr (inr (inr (inl refl)))))

    abbrev AllFew : Opcode → Option Varnode → List Varnode → Type 0
    AllFew code out vs = (r : Reach) → IsIn r (reaches l (record { code = code; out = out; inputs = vs })) → IsFew r.size

    loaded : (out : Option Varnode) (vs : List Varnode)
        → has_operands (operands_of O.Load) out (length vs) ≡ true
        → ((v : Varnode) → IsIn v (one_range out) → IsFew v.size)
        → AllFew O.Load out vs
    loaded out vs ar few r is =
        let F : Option Varnode → Type 0 = λ o. ((v : Varnode) → IsIn v (one_range o) → IsFew v.size) → IsFew (size_out o) in
        let known : F out = with_output F out (third _ _ _ ar) (λ z h. h z (inl refl)) in
        subst IsFew (sym (memory_size l vs (size_out out) r is)) (known few)

    stored : (out : Option Varnode) (vs : List Varnode)
        → has_operands (operands_of O.Store) out (length vs) ≡ true
        → ((v : Varnode) → IsIn v vs → IsFew v.size)
        → AllFew O.Store out vs
    stored out vs ar few r is =
        let F : List Varnode → Type 0 = λ xs. ((v : Varnode) → IsIn v xs → IsFew v.size) → IsFew (varnode_at xs 2).size in
        let known : F vs = of_three F vs (counted 3 _ _ ar) (λ x y z h. h z (inr (inr (inl refl)))) in
        subst IsFew (sym (memory_size l vs (varnode_at vs 2).size r is)) (known few)

    called : (out : Option Varnode) (vs : List Varnode) → AllFew O.Call out vs
    called out [] r is = absurd (none_reached l.stack r is)
    called out (to ∷ vs) r is =
        let to_it = callee_at l to.offset in
        stack_few l l.stack (proto_of l to_it).args (proto_fine l read to_it).args 0 r is

    called_by : (out : Option Varnode) (vs : List Varnode) → AllFew O.CallInd out vs
    called_by out [] r is = absurd (none_reached l.stack r is)
    called_by out (to ∷ vs) r is =
        let args : List Storage = (proto_of l None).args in
        stack_few l l.stack args (proto_fine l read None).args 0 r (past_read l.stack to (arguments 0 args) r is)

    few_by : (code : Opcode) (out : Option Varnode) (vs : List Varnode)
        → has_operands (operands_of code) out (length vs) ≡ true
        → ((v : Varnode) → IsIn v (one_range out) → IsFew v.size)
        → ((v : Varnode) → IsIn v (input_ranges code vs) → IsFew v.size)
        → AllFew code out vs
    few_by O.Load out vs ar outs ins r is = loaded out vs ar outs r is
    few_by O.Store out vs ar outs ins r is = stored out vs ar ins r is
    few_by O.Call out vs ar outs ins r is = called out vs r is
    few_by O.CallInd out vs ar outs ins r is = called_by out vs r is
    few_by code out vs ar outs ins r is = absurd is

    -- What an op reaches has 1 to 16 bytes.
    pub reaches_few : (r : Reach) → IsIn r (reaches l op) → IsFew r.size
    reaches_few = few_by op.code op.out op.inputs enough
        (output_few l read i op stand good) (input_few l read i op stand good)

-- ---- the accesses of a frame

-- The frame begins at most 2^20 bytes from the entry word.
pub limit_near : (w : ℕ) → frame_limit w ≤ 2 ^ 20
limit_near w = by (w == 2) where
  by : (b : Bool) → cond b (2 ^ 12) (2 ^ 20) ≤ 2 ^ 20
  by true = omega arith
  by false = omega arith

module _
    (l : Listing)
    (read : IsWellFormed l)
    (good : first_bad l ≡ None)
    (t : List TableAt)
    (evaluated : List Place)
  where
    -- What is said of an access of the frame.
    pub known_access : (a : FrameAccess) → IsFrameAccess l t evaluated a → IsKnown l a
    known_access a is =
        let stand = stands_in l a.place is.instruction is.op is.does in
        let few : IsFew is.by.size = reaches_few l read good is.instruction is.op stand is.by is.is_by in
        let can = (is.fact.1.1).can a.place is.by.base is.base is.fact.1.0 in
        record {
          few = subst IsFew (sym is.size) few;
          within = is.within;
          pointer = can.stack;
          is_pointer = can.is;
        }

    -- An access of the frame has 1 to 16 bytes.
    pub few_access : (a : FrameAccess) → IsFrameAccess l t evaluated a → IsFew a.size
    few_access a is = (known_access a is).few

    module _ (f : Frame) (frame : IsFrame l t evaluated f) where
      -- The same of the accesses of variables.
      pub framed : (a : FrameAccess) → IsIn a f.accesses → IsKnown l a
      framed a is = known_access a ((frame.accesses.each a).0 is).1.is_class.access
