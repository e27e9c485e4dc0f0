-- In a well-formed listing whose ops obey their rules, with a frame near the entry word, each range whose ends cut ends in a
-- space of 64 bits or, in the frame, at an offset of 32 bits.
use Rattle.std.proofs.Common.{◌≡◌, ◌∙◌, ℕ, zero, suc, ◌+◌, ◌^◌, ◌<◌, ◌≤◌, Bool, true, false, List, [], ◌∷◌, ◌++◌, refl, sym, ap, subst, inl, inr, ⊎_elim, arith, lit<, Option, Some, None, IfSome, if◌then◌else◌, not, ◌&&◌}
use Rattle.std.specs.Prelude.{slice_get, ◌==◌}
use Rattle.std.specs.List.{AllByRecursion}
use Rattle.std.proofs.Math.Nat.{pow-le-pow_right}
use Rattle.std.proofs.lemmas.Bool.{ne_eqb}
use Rattle.std.proofs.lemmas.Bool.Decides.{nat_tests}
use Rattle.std.proofs.lemmas.Int.{ints}
use Rattle.pcode_model.specs.declared.listing.SpaceKind.{SpaceKind}
use Rattle.pcode_model.specs.declared.listing.SpaceKind.TheVariants.{Constant, Ram, Register, Unique}
use Rattle.pcode_model.specs.declared.listing.Space.{Space}
use Rattle.pcode_model.specs.declared.listing.Function.{Function}
use Rattle.pcode_model.specs.declared.listing.Instruction.{Instruction}
use Rattle.pcode_model.specs.declared.listing.Listing.{Listing}
use Rattle.pcode_model.specs.declared.listing.Op.{Op}
use Rattle.pcode_model.specs.declared.listing.Proto.{Proto}
use Rattle.pcode_model.specs.declared.listing.Storage.{Storage}
use Rattle.pcode_model.specs.declared.listing.Storage.TheVariants.{At, Stack}
use Rattle.pcode_model.specs.declared.listing.Varnode.{Varnode}
use Rattle.pcode_model.specs.declared.opcode.Opcode.{Opcode}
use Rattle.pcode_model.specs.declared.opcode.Opcode.TheVariants as O
use Rattle.pcode_model.specs.declared.rules.OpWhy.TheVariants.{OutOfSpace}
use Rattle.pcode_model.specs.declared.frame.Frame.{Frame}
use Rattle.pcode_model.specs.declared.frame.FrameAccess.{FrameAccess}
use Rattle.pcode_model.specs.declared.storage.ParamStorage.{ParamStorage}
use Rattle.pcode_model.specs.declared.storage.ParamStorage.TheVariants as P
use Rattle.pcode_model.specs.Atoms as model
use Rattle.pcode_model.specs.Atoms.{Accesses, IsAccessed, IsLocal, argument_ranges, further_ranges, kept_ranges, one_range, op_ranges, ranges_in, ranges_read, registers_at}
use Rattle.pcode_model.specs.Flow.{IsIn}
use Rattle.pcode_model.specs.Places.{instruction_in, op_in, standing_in, standing_of}
use Rattle.pcode_model.specs.Ranges.{leaves}
use Rattle.pcode_model.specs.Rules.{any_leaves, first_bad, input_ranges, leaves_space, names_address, output_leaves, past_first}
use Rattle.pcode_model.specs.Spaces.{number_of, register_space, same_kind, size_in, unique_space}
use Rattle.pcode_model.specs.Step.{all_but_first, all_read, arguments, callee_at, operands, proto_at, proto_in, proto_of, varnode_at}
use Rattle.pcode_model.specs.WellFormed.{AreSpaces, HasOps, IsArgument, IsDeclared, IsOp, IsOperand, IsProto, IsRegister, IsStackPointer, IsStorage, IsWellFormed, how_many}
use Rattle.pcode_model.proofs.Members.{in_either, member_at, of_member}
use Rattle.pcode_laws.proofs.Rules.{breaks_none, neither}
use Rattle.instructions.proofs.Apart.{found_in}
use Rattle.stackvars.specs.Accesses.{passed}
use Rattle.stackvars.specs.Near.{HasNearAccesses, IsNearAccess}
use Rattle.stackvars.specs.Cuts.{AreInReach, IsInReach}
use Rattle.stackvars.proofs.Ops.{read_all, read_past}
use Rattle.stackvars.proofs.Passed.{reads_passed}

-- ---- the register space and the unique space

differ_step : (k : SpaceKind) (m n h : ℕ)
    → 0 < (if same_kind Register k then suc h else h)
    → (if same_kind Register k then 0 else suc m) ≡ (if same_kind Unique k then 0 else suc n)
    → (0 < h) × (m ≡ n)
differ_step Constant m n h some e = (some, omega arith)
differ_step Ram m n h some e = (some, omega arith)
differ_step Register m n h some e = absurd (omega arith)
differ_step Unique m n h some e = absurd (omega arith)

differ_in : (ss : List Space) → 0 < how_many Register ss → number_of Register ss ≡ number_of Unique ss → ⊥
differ_in [] some e = omega arith
differ_in (s ∷ ss) some e =
    let r = differ_step s.kind (number_of Register ss) (number_of Unique ss) (how_many Register ss) some e in
    differ_in ss r.0 r.1

-- In a well-formed listing the register space isn't the unique space.
pub spaces_differ : (l : Listing) → IsWellFormed l → register_space l ≡ unique_space l → ⊥
spaces_differ l read e =
    let one : how_many Register l.spaces ≡ 1 = read.complete.register in differ_in l.spaces (omega arith) e

-- space 0 is neither of them
not_first : (k : SpaceKind) → same_kind k Constant ≡ false → (ss : List Space) → AreSpaces ss → number_of k ss ≡ 0 → ⊥
not_first k other [] are e = are
not_first k other (s ∷ ss) are e =
    let f : (if same_kind k Constant then 0 else suc (number_of k ss)) ≡ 0 =
    subst (λ (x : Space). number_of k (x ∷ ss) ≡ 0) are.0 e in
    let g : (if false then 0 else suc (number_of k ss)) ≡ 0 =
    subst (λ (b : Bool). (if b then 0 else suc (number_of k ss)) ≡ 0) other f in
    absurd (omega arith)

local_space : (l : Listing) → IsWellFormed l → (s : ℕ) → IsLocal l s → (s == 0) ≡ false
local_space l read s is =
    ne_eqb s 0
    (λ e. ⊎_elim
    (λ h. not_first Register refl l.spaces read.spaces (sym h ∙ e))
    (λ h. not_first Unique refl l.spaces read.spaces (sym h ∙ e))
    is)

-- ---- spaces have at most 2^64 bytes

abbrev IsSmall : Space → Type 0
IsSmall s = s.size ≤ 8

small_declared : (ss : List Space) → AllByRecursion IsDeclared ss → AllByRecursion IsSmall ss
small_declared [] all = tt
small_declared (s ∷ ss) all = (all.0.few, small_declared ss all.1)

small_spaces : (ss : List Space) → AreSpaces ss → AllByRecursion IsSmall ss
small_spaces [] are = absurd are
small_spaces (s ∷ ss) are =
    let e : s.size ≡ 8 = ap (λ (x : Space). x.size) are.0 in (omega arith, small_declared ss are.1)

size_within : (ss : List Space) → AllByRecursion IsSmall ss → (n : ℕ) → size_in (slice_get ss n) ≤ 2 ^ 64
size_within [] small zero = omega arith
size_within [] small (suc n) = omega arith
size_within (s ∷ ss) small zero =
    let power : 256 ^ s.size ≤ 256 ^ 8 = pow-le-pow_right (lit< tt) small.0 in
    let whole : 256 ^ 8 ≡ 2 ^ 64 = refl in
    omega (arith, power, whole)
size_within (s ∷ ss) small (suc n) = size_within ss small.1 n

-- ---- ranges

-- it ends in a space of 64 bits, and its size has 32
abbrev Good : Varnode → Type 0
Good v = (v.offset + v.size ≤ 2 ^ 64) × (v.size < 2 ^ 32)

abbrev AllGood : List Varnode → Type 0
AllGood vs = (v : Varnode) → IsIn v vs → Good v

record GoodProto (p : Proto) : Type 0 where
  args : AllGood (passed p.args)
  gives : AllGood (one_range p.gives)
  keep : AllGood p.keep

-- a varnode of what is read
-- What is read of all inputs, or of all but the first one, is an input.
pub read_back : (vs : List Varnode) (v : Varnode) → IsIn v (ranges_read (all_read vs)) → IsIn v vs
read_back vs v is = subst (λ (xs : List Varnode). IsIn v xs) (read_all vs) is

pub read_rest : (vs : List Varnode) (v : Varnode) → IsIn v (ranges_read (all_but_first vs)) → IsIn v (past_first vs)
read_rest vs v is = subst (λ (xs : List Varnode). IsIn v xs) (read_past vs) is

pub of_rest : (vs : List Varnode) (v : Varnode) → IsIn v (past_first vs) → IsIn v vs
of_rest [] v is = absurd is
of_rest (x ∷ vs) v is = inr is

rest_in : (b : Bool) (vs : List Varnode) (v : Varnode)
    → IsIn v (past_first vs)
    → IsIn v (if b then past_first vs else vs)
rest_in true vs v is = is
rest_in false vs v is = of_rest vs v is

in_all : (b : Bool) (vs : List Varnode) (v : Varnode)
    → IsIn v (if b then past_first vs else vs)
    → IsIn v vs
in_all true vs v is = of_rest vs v is
in_all false vs v is = is

-- ---- the op of a range that is accessed

module _ (l : Listing) (v : Varnode) where
  -- the op of these ops that accesses it
  abbrev OfOps : List Op → Type 0
  OfOps ops = (op : Op) × (IsIn op ops × IsIn v (op_ranges l None op))

  by_op : (i : Instruction) (o : Option Op)
      → IsIn v (ranges_in l None (op_in i o))
      → (op : Op) × ((o ≡ Some op) × IsIn v (op_ranges l None op))
  by_op i None is = absurd is
  by_op i (Some op) is = (op, (refl, is))

  by_ops : (i : Instruction) (ops : List Op) (n : ℕ) → IsIn v (ranges_in l None (standing_in i ops n)) → OfOps ops
  by_ops i [] zero is = absurd is
  by_ops i [] (suc n) is = absurd is
  by_ops i (x ∷ ops) n is =
      let r = by_op i (slice_get (x ∷ ops) n) is in (r.0, (member_at (x ∷ ops) n r.0 r.1.0, r.1.1))

  by_place : (o : Option Instruction) (n : ℕ)
      → IsIn v (ranges_in l None (standing_of o n))
      → (i : Instruction) × ((o ≡ Some i) × OfOps i.ops)
  by_place None n is = absurd is
  by_place (Some i) n is = (i, (refl, by_ops i i.ops n is))

-- ---- a well-formed listing

module _ (l : Listing) (read : IsWellFormed l) (checked : first_bad l ≡ None) where
  within : (n o k : ℕ) → leaves l.spaces n o k ≡ false → o + k ≤ 2 ^ 64
  within n o k e =
      let size : size_in (slice_get l.spaces n) ≤ 2 ^ 64 = size_within l.spaces (small_spaces l.spaces read.spaces) n in
      let le : o + k ≤ size_in (slice_get l.spaces n) = grind (arith, nat_tests, e) in
      omega (arith, size, le)

  good_register : (v : Varnode) → IsRegister l.spaces v → Good v
  good_register v is = (within v.space v.offset v.size is.inside, omega (arith, is.few))

  good_passed : (args : List Storage) → AllByRecursion (IsArgument l.spaces l.stack) args → AllGood (passed args)
  good_passed [] all v is = absurd is
  good_passed (At x ∷ args) all v (inl e) = subst Good (sym e) (good_register x all.0.register)
  good_passed (At x ∷ args) all v (inr is) = good_passed args all.1 v is
  good_passed (Stack offset size ∷ args) all v is = good_passed args all.1 v is

  good_given : (o : Option Varnode) → IfSome o (IsStorage l.spaces) → AllGood (one_range o)
  good_given None all v is = absurd is
  good_given (Some x) all v (inl e) = subst Good (sym e) (good_register x all.register)
  good_given (Some x) all v (inr is) = absurd is

  good_stack : (o : Option Varnode) → IfSome o (IsStackPointer l.spaces) → AllGood (one_range o)
  good_stack None all v is = absurd is
  good_stack (Some x) all v (inl e) = subst Good (sym e) (good_register x all.register)
  good_stack (Some x) all v (inr is) = absurd is

  good_proto : (p : Proto) → IsProto l.spaces l.stack p → GoodProto p
  good_proto p is = record {
    args = good_passed p.args is.args;
    gives = good_given p.gives is.gives;
    keep = λ v h. good_register v (of_member (IsRegister l.spaces) v p.keep is.keep h);
  }

  good_option : (o : Option Proto) → ((p : Proto) → o ≡ Some p → IsIn p l.protos) → GoodProto (proto_in o)
  good_option None there = record { args = λ v is. absurd is; gives = λ v is. absurd is; keep = λ v is. absurd is }
  good_option (Some p) there =
      good_proto p (of_member (IsProto l.spaces l.stack) p l.protos read.protos (there p refl))

  good_at : (n : ℕ) → GoodProto (proto_at l n)
  good_at n = good_option (slice_get l.protos n) (λ p e. member_at l.protos n p e)

  good_called : (f : Option Function) → GoodProto (proto_of l f)
  good_called None = good_at l.func.proto
  good_called (Some f) = good_at f.proto

  -- ---- an op

  off_space : (v : Varnode)
      → IsLocal l v.space
      → leaves_space l v ≡ false
      → leaves l.spaces v.space v.offset v.size ≡ false
  off_space v is e =
      subst (λ (b : Bool). (not b && leaves l.spaces v.space v.offset v.size) ≡ false) (local_space l read v.space is) e

  off_spaces : (vs : List Varnode) → any_leaves l vs ≡ false → (v : Varnode) → IsIn v vs → leaves_space l v ≡ false
  off_spaces [] h v is = absurd is
  off_spaces (x ∷ vs) h v (inl e) =
      subst (λ (y : Varnode). leaves_space l y ≡ false) (sym e) (neither _ _ h).0
  off_spaces (x ∷ vs) h v (inr is) = off_spaces vs (neither _ _ h).1 v is

  good_operand : (v : Varnode) → IsLocal l v.space → leaves_space l v ≡ false → IsOperand v → Good v
  good_operand v is e operand =
      (within v.space v.offset v.size (off_space v is e), omega (arith, operand.few))

  module _ (i : Instruction) (in_code : IsIn i l.code) (op : Op) (in_ops : IsIn op i.ops) where
    formed : IsOp op
    formed = of_member IsOp op i.ops (of_member HasOps i l.code read.ops in_code) in_ops

    no_fault : (any_leaves l (input_ranges op.code op.inputs) ≡ false) × (output_leaves l op.out ≡ false)
    no_fault =
        let h = breaks_none l checked i in_code op in_ops OutOfSpace (inr (inr (inr (inr (inr (inr (inl refl))))))) in
        neither _ _ (neither _ _ h).1

    good_input : (v : Varnode) → IsLocal l v.space → IsIn v (input_ranges op.code op.inputs) → Good v
    good_input v is h =
        good_operand v is (off_spaces (input_ranges op.code op.inputs) no_fault.0 v h)
        (of_member IsOperand v op.inputs formed.inputs (in_all (names_address op.code op.inputs) op.inputs v h))

    good_out : (o : Option Varnode)
        → output_leaves l o ≡ false
        → IfSome o IsOperand
        → (v : Varnode)
        → IsLocal l v.space
        → IsIn v (one_range o)
        → Good v
    good_out None stays all v is h = absurd h
    good_out (Some x) stays all v is (inl e) =
        subst Good (sym e) (good_operand x (subst (λ (y : Varnode). IsLocal l y.space) e is) stays all)
    good_out (Some x) stays all v is (inr h) = absurd h

    -- what calls read besides
    good_read : (n : ℕ) (args : List Storage) (v : Varnode)
        → AllGood (passed args)
        → IsIn v (ranges_read (arguments n args))
        → Good v
    good_read n args v all h = all v (subst (λ (vs : List Varnode). IsIn v vs) (reads_passed n args) h)

    good_operands : (code : Opcode) (vs : List Varnode)
        → ((v : Varnode) → IsLocal l v.space → IsIn v (input_ranges code vs) → Good v)
        → (v : Varnode)
        → IsLocal l v.space
        → IsIn v (ranges_read (operands l code vs))
        → Good v
    good_operands (O.Unary op) vs all v is h = all v is (read_back vs v h)
    good_operands (O.Binary op) vs all v is h = all v is (read_back vs v h)
    good_operands (O.Divide op) vs all v is h = all v is (read_back vs v h)
    good_operands O.Load vs all v is h = all v is (of_rest vs v (read_rest vs v h))
    good_operands O.Store vs all v is h = all v is (of_rest vs v (read_rest vs v h))
    good_operands O.Branch vs all v is h = absurd h
    good_operands O.CBranch vs all v is h = all v is (rest_in (names_address O.CBranch vs) vs v (read_rest vs v h))
    good_operands O.BranchInd vs all v is h = all v is (read_back vs v h)
    good_operands O.Call [] all v is h = absurd h
    good_operands O.Call (to ∷ vs) all v is h =
        good_read 0 (proto_of l (callee_at l to.offset)).args v (good_called (callee_at l to.offset)).args h
    good_operands O.CallInd [] all v is h = absurd h
    good_operands O.CallInd (to ∷ vs) all v is (inl e) = all v is (inl e)
    good_operands O.CallInd (to ∷ vs) all v is (inr h) = good_read 0 (proto_of l None).args v (good_called None).args h
    good_operands O.CallOther vs all v is h = all v is (of_rest vs v (read_rest vs v h))
    good_operands O.Return vs all v is h = all v is (read_back vs v h)
    good_operands (O.Float name) vs all v is h = absurd h
    good_operands (O.FloatConversion op) vs all v is h = absurd h
    good_operands (O.Analysis op) vs all v is h = absurd h
    good_operands (O.LeftOut op) vs all v is h = absurd h

    good_back : (p : Proto) → GoodProto p → AllGood (one_range p.gives ++ one_range l.stack)
    good_back p good v h =
        ⊎_elim (λ k. good.gives v k) (λ k. good_stack l.stack read.stack v k)
        (in_either (one_range p.gives) (one_range l.stack) v h)

    good_further : (code : Opcode) (vs : List Varnode) → AllGood (further_ranges l None code vs)
    good_further (O.Unary op) vs v h = absurd h
    good_further (O.Binary op) vs v h = absurd h
    good_further (O.Divide op) vs v h = absurd h
    good_further O.Load vs v h = absurd h
    good_further O.Store vs v h = absurd h
    good_further O.Branch vs v h = absurd h
    good_further O.CBranch vs v h = absurd h
    good_further O.BranchInd vs v h = absurd h
    good_further O.Call vs v h =
        let f : Option Function = callee_at l (varnode_at vs 0).offset in
        good_back (proto_of l f) (good_called f) v h
    good_further O.CallInd vs v h = good_back (proto_of l None) (good_called None) v h
    good_further O.CallOther vs v h = absurd h
    good_further O.Return vs v h = (good_called None).gives v h
    good_further (O.Float name) vs v h = absurd h
    good_further (O.FloatConversion op) vs v h = absurd h
    good_further (O.Analysis op) vs v h = absurd h
    good_further (O.LeftOut op) vs v h = absurd h

    good_op : (v : Varnode) → IsLocal l v.space → IsIn v (op_ranges l None op) → Good v
    good_op v is h =
        ⊎_elim
        (λ k. good_operands op.code op.inputs good_input v is k)
        (λ k. ⊎_elim
        (λ j. good_out op.out no_fault.1 formed.out v is j)
        (λ j. good_further op.code op.inputs v j)
        (in_either (one_range op.out) (further_ranges l None op.code op.inputs) v k))
        (in_either (ranges_read (operands l op.code op.inputs))
        (one_range op.out ++ further_ranges l None op.code op.inputs) v h)

  -- ---- what cuts

  good_access : (v : Varnode) → Accesses l [] v → Good v
  good_access v acc =
      let r = by_place l v (instruction_in l.code acc.at.address) acc.at.index acc.range in
      good_op r.0 (found_in l.code acc.at.address r.0 r.1.0).0 r.1.1.0 r.1.1.1.0 v acc.is_local r.1.1.1.1

  abbrev AllReach : List model.Range → Type 0
  AllReach rs = (r : model.Range) → IsIn r rs → IsInReach r.storage r.size

  same_reach : (r q : model.Range) → r ≡ q → IsInReach q.storage q.size → IsInReach r.storage r.size
  same_reach r q e h = subst (λ (x : model.Range). IsInReach x.storage x.size) (sym e) h

  argument_reach : (args : List Storage)
      → AllByRecursion (IsArgument l.spaces l.stack) args
      → AllReach (argument_ranges args)
  argument_reach [] all r is = absurd is
  argument_reach (At v ∷ args) all r (inl e) = same_reach r _ e (good_register v all.0.register)
  argument_reach (Stack offset size ∷ args) all r (inl e) =
      let few : size ≤ 16 = all.0.1 in
      let low : offset ≤ 0xffff = all.0.2 in
      same_reach r _ e (omega (arith, ints), (omega (arith, ints), omega arith))
  argument_reach (a ∷ args) all r (inr is) = argument_reach args all.1 r is

  argument_of : (o : Option Proto)
      → ((p : Proto) → o ≡ Some p → IsIn p l.protos)
      → AllReach (argument_ranges (proto_in o).args)
  argument_of None there r is = absurd is
  argument_of (Some p) there r is =
      argument_reach p.args (of_member (IsProto l.spaces l.stack) p l.protos read.protos (there p refl)).args r is

  registers_reach : (vs : List Varnode) → AllByRecursion (IsRegister l.spaces) vs → AllReach (registers_at vs)
  registers_reach [] all r is = absurd is
  registers_reach (v ∷ vs) all r (inl e) = same_reach r _ e (good_register v all.0)
  registers_reach (v ∷ vs) all r (inr is) = registers_reach vs all.1 r is

  kept_reach : (ps : List Proto) → AllByRecursion (IsProto l.spaces l.stack) ps → AllReach (kept_ranges ps)
  kept_reach [] all r is = absurd is
  kept_reach (p ∷ ps) all r is =
      ⊎_elim (λ h. registers_reach p.keep all.0.keep r h) (λ h. kept_reach ps all.1 r h)
      (in_either (registers_at p.keep) (kept_ranges ps) r is)

  module _ (f : Frame) (near : HasNearAccesses f) where
    stacked_reach : (a : FrameAccess) → IsNearAccess a → IsInReach (P.Stack a.offset) a.size
    stacked_reach a is =
        let low = is.from in
        let high = is.to in
        let few = is.few in
        (omega (arith, ints), (omega (arith, ints), omega arith))

    access_reach : (s : ParamStorage) (k : ℕ) → IsAccessed l [] f (model.range s k) → IsInReach s k
    access_reach (P.Register o) k acc = good_access (model.varnode (register_space l) o k) acc
    access_reach (P.Unique o) k acc = good_access (model.varnode (unique_space l) o k) acc
    access_reach (P.Stack o) k acc =
        let reach = stacked_reach acc.0 (of_member IsNearAccess acc.0 f.accesses near acc.1.0) in
        subst (λ x. IsInReach (P.Stack x) k) acc.1.1.0 (subst (λ n. IsInReach (P.Stack acc.0.offset) n) acc.1.1.1 reach)

    -- each range whose ends cut is in reach
    pub in_reach : AreInReach l f
    in_reach r (inl acc) = access_reach r.storage r.size acc
    in_reach r (inr (inl is)) =
        argument_of (slice_get l.protos l.func.proto) (λ p e. member_at l.protos l.func.proto p e) r is
    in_reach r (inr (inr is)) = kept_reach l.protos read.protos r is
