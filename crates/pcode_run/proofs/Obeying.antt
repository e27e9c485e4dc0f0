-- What an op that breaks no rule has: ranges that are read and written, and sizes that fit.
use Rattle.std.proofs.Common.{◌≡◌, ◌⊎◌, ◌<◌, ◌≤◌, ◌+◌, ◌-◌, ◌^◌, take, drop, ◌==◌, ℕ, zero, suc, Bool, true, false, cond, List, [], ◌∷◌, length, Option, Some, None, refl, inl, inr, sym, subst, ap, ◌∙◌, arith, lit<}
use Rattle.std.specs.Prelude.{◌&&◌, not, nat_le, nat_lt, slice_get, IfSome}
use Rattle.std.specs.List.{AllByRecursion}
use Rattle.std.proofs.lemmas.Bool.Decides.{nat_tests}
use Rattle.std.proofs.Math.Nat.{pow-le-pow_right}
use Rattle.std.proofs.Math.Seq.{take-length}
use Rattle.std.proofs.lemmas.Bool.{ltb-false, and_parts}
use Rattle.bits_core.specs.declared.ops.Unary.{Unary}
use Rattle.bits_core.specs.declared.ops.Binary.{Binary}
use Rattle.bits_core.specs.declared.ops.Divide.{Divide}
use Rattle.bits_core.specs.Value.{IsUnarySized, IsBinarySized}
use Rattle.pcode_model.specs.declared.listing.Listing.{Listing}
use Rattle.pcode_model.specs.declared.listing.Op.{Op}
use Rattle.pcode_model.specs.declared.listing.Space.{Space}
use Rattle.pcode_model.specs.declared.listing.SpaceKind.TheVariants.{Constant, Ram}
use Rattle.pcode_model.specs.declared.listing.Varnode.{Varnode}
use Rattle.pcode_model.specs.declared.opcode.Opcode.{Opcode}
use Rattle.pcode_model.specs.declared.opcode.Opcode.TheVariants as O
use Rattle.pcode_model.specs.declared.rules.OpWhy.{OpWhy}
use Rattle.pcode_model.specs.declared.rules.OpWhy.TheVariants.{Arity, BadSpace, TooWide, OutOfSpace, SizeRule}
use Rattle.pcode_model.specs.declared.rules.Output.TheVariants as output
use Rattle.pcode_model.specs.declared.rules.Operands.{Operands}
use Rattle.pcode_model.specs.Flow.{IsIn}
use Rattle.pcode_model.specs.Rules.{any_leaves, any_wide, breaks, has_operands, has_output, input_ranges, inputs_stand, is_wide, leaves_space, names_address, operands_of, output_leaves, output_wide, past_first, rules, sizes_fit}
use Rattle.pcode_model.specs.Spaces.{kind_in, kind_of, or, same_kind, size_in, size_of}
use Rattle.pcode_model.specs.Step.{size_out, varnode_at}
use Rattle.pcode_model.specs.WellFormed.{AreSpaces, IsDeclared, IsOperand}
use Rattle.pcode_laws.proofs.Rules.{neither, none_broken}
use Rattle.pcode_laws.proofs.Sizes.{binary_is, same_three, unary_is}
use Rattle.run_world.proofs.Declared.{ram_not_constant, size_most}
use Rattle.pcode_operands.specs.Used.{IsInside, IsUsed}
use Rattle.pcode_run.specs.Steps.{Obeys}

-- ---- ranges

not_wide : (n : ℕ) → nat_lt 16 n ≡ false → n ≤ 16
not_wide n h = grind (arith, nat_tests)

zero_constant : (ss : List Space) → AreSpaces ss → same_kind Constant (kind_in (slice_get ss 0)) ≡ true
zero_constant [] good = absurd good
zero_constant (s ∷ ss) good = ap (λ (x : Space). same_kind Constant x.kind) good.0

is_zero : (n : ℕ) → (n ≡ 0) ⊎ (0 < n)
is_zero zero = inl refl
is_zero (suc n) = inr (omega arith)

not_true : true ≡ false → ⊥
not_true h = cc

other_space : (n : ℕ) → 0 < n → (n == 0) ≡ false
other_space n h = grind (arith, nat_tests)

no_declared : (ss : List Space) (n : ℕ)
    → AllByRecursion IsDeclared ss
    → same_kind Constant (kind_in (slice_get ss n)) ≡ true
    → size_in (slice_get ss n) ≡ 1
no_declared [] n all is = refl
no_declared (s ∷ ss) zero all is = absurd (not_true (sym is ∙ all.0.kind))
no_declared (s ∷ ss) (suc n) all is = no_declared ss n all.1 is

-- a space that isn't declared and isn't the constant one has one byte
undeclared : (ss : List Space) (n : ℕ)
    → AreSpaces ss
    → 0 < n
    → same_kind Constant (kind_in (slice_get ss n)) ≡ true
    → size_in (slice_get ss n) ≡ 1
undeclared [] n good some is = refl
undeclared (s ∷ ss) zero good some is = absurd (omega (arith, some))
undeclared (s ∷ ss) (suc n) good some is = no_declared ss n good.1 is

fits_by : (l : Listing) (v : Varnode)
    → AreSpaces l.spaces
    → IsOperand v
    → leaves_space l v ≡ false
    → same_kind Constant (kind_of l v.space) ≡ true
    → (v.space ≡ 0) ⊎ (0 < v.space)
    → v.offset < 256 ^ v.size
fits_by l v good is inside constant (inl zero_space) = is.reduced zero_space
fits_by l v good is inside constant (inr some) =
    let e : (v.space == 0) ≡ false = other_space v.space some in
    let P : Bool → Type 0 = λ b. (not b && nat_lt (size_of l v.space) (v.offset + v.size)) ≡ false in
    let within : v.offset + v.size ≤ size_of l v.space = ltb-false _ _ (subst P e inside) in
    let one = undeclared l.spaces v.space good some constant in
    let first : v.offset ≡ 0 = omega (arith, within, one, is.some) in
    let least : 256 ^ 0 ≤ 256 ^ v.size = pow-le-pow_right (lit< tt) {i = 0} {j = v.size} (omega arith) in
    omega (arith, first, least)

not_zero_space : (l : Listing) (v : Varnode)
    → AreSpaces l.spaces
    → same_kind Constant (kind_of l v.space) ≡ false
    → (v.space ≡ 0) ⊎ (0 < v.space)
    → (v.space == 0) ≡ false
not_zero_space l v good other (inl e) =
    let P : ℕ → Type 0 = λ n. same_kind Constant (kind_of l n) ≡ false in
    absurd (not_true (sym (zero_constant l.spaces good) ∙ subst P e other))
not_zero_space l v good other (inr some) = other_space v.space some

inside_by : (l : Listing) (v : Varnode)
    → AreSpaces l.spaces
    → leaves_space l v ≡ false
    → same_kind Constant (kind_of l v.space) ≡ false
    → IsInside l v
inside_by l v good inside other =
    let e = not_zero_space l v good other (is_zero v.space) in
    let P : Bool → Type 0 = λ b. (not b && nat_lt (size_of l v.space) (v.offset + v.size)) ≡ false in
    record { inside = ltb-false _ _ (subst P e inside); small = size_most l.spaces v.space good other }

pub used_by : (l : Listing) (v : Varnode)
    → AreSpaces l.spaces
    → IsOperand v
    → is_wide v ≡ false
    → leaves_space l v ≡ false
    → IsUsed l v
used_by l v good is narrow inside = record {
  some = is.some;
  few = not_wide v.size narrow;
  inside = λ other. inside_by l v good inside other;
  fits = λ constant. fits_by l v good is inside constant (is_zero v.space);
}

all_used : (l : Listing) (vs : List Varnode)
    → AreSpaces l.spaces
    → AllByRecursion IsOperand vs
    → any_wide vs ≡ false
    → any_leaves l vs ≡ false
    → AllByRecursion (IsUsed l) vs
all_used l [] good all narrow inside = tt
all_used l (v ∷ vs) good all narrow inside =
    let p = neither _ _ narrow in
    let q = neither _ _ inside in
    (used_by l v good all.0 p.0 q.0, all_used l vs good all.1 p.1 q.1)

-- ---- the inputs and the output of an op

module _ (l : Listing) (op : Op) (code : Opcode) (kind : op.code ≡ code) (obeys : Obeys l op) where
  keeps : (why : OpWhy) → IsIn why rules → breaks l op why ≡ false
  keeps why is = none_broken l op rules obeys.checked why is

  not_not : (b : Bool) → not b ≡ false → b ≡ true
  not_not true h = refl
  not_not false h = absurd (not_true h)

  pub counted : has_operands (operands_of code) op.out (length op.inputs) ≡ true
  counted =
      let P : Opcode → Type 0 = λ c. has_operands (operands_of c) op.out (length op.inputs) ≡ true in
      subst P kind (not_not _ (keeps Arity (inr (inr (inr (inl refl))))))

  pub sized : sizes_fit code (size_out op.out) op.inputs ≡ true
  sized =
      let P : Opcode → Type 0 = λ c. sizes_fit c (size_out op.out) op.inputs ≡ true in
      subst P kind (not_not _ (keeps SizeRule (inr (inr (inr (inr (inr (inr (inr (inl refl))))))))))

  pub placed : inputs_stand l code op.inputs ≡ true
  placed =
      let P : Opcode → Type 0 = λ c. inputs_stand l c op.inputs ≡ true in
      subst P kind (and_parts _ _ (not_not _ (keeps BadSpace (inr (inr (inr (inr (inl refl)))))))).1

  narrow : or (any_wide (input_ranges code op.inputs)) (output_wide op.out) ≡ false
  narrow =
      let P : Opcode → Type 0 = λ c. or (any_wide (input_ranges c op.inputs)) (output_wide op.out) ≡ false in
      subst P kind (keeps TooWide (inr (inr (inr (inr (inr (inl refl)))))))

  within : or (any_leaves l (input_ranges code op.inputs)) (output_leaves l op.out) ≡ false
  within =
      let P : Opcode → Type 0 = λ c. or (any_leaves l (input_ranges c op.inputs)) (output_leaves l op.out) ≡ false in
      subst P kind (neither _ _ (keeps OutOfSpace (inr (inr (inr (inr (inr (inr (inl refl))))))))).1

  -- the inputs of an op that names no address
  pub inputs_used : AreSpaces l.spaces → names_address code op.inputs ≡ false → AllByRecursion (IsUsed l) op.inputs
  inputs_used good isnt =
      let P : Bool → Type 0 = λ b. any_wide (cond b (past_first op.inputs) op.inputs) ≡ false in
      let Q : Bool → Type 0 = λ b. any_leaves l (cond b (past_first op.inputs) op.inputs) ≡ false in
      all_used l op.inputs good obeys.formed.inputs (subst P isnt (neither _ _ narrow).0)
      (subst Q isnt (neither _ _ within).0)

  rest_wide : (b : Bool) (vs : List Varnode)
      → any_wide (cond b (past_first vs) vs) ≡ false
      → any_wide (past_first vs) ≡ false
  rest_wide true vs h = h
  rest_wide false [] h = h
  rest_wide false (v ∷ vs) h = (neither _ _ h).1

  rest_leaves : (b : Bool) (vs : List Varnode)
      → any_leaves l (cond b (past_first vs) vs) ≡ false
      → any_leaves l (past_first vs) ≡ false
  rest_leaves true vs h = h
  rest_leaves false [] h = h
  rest_leaves false (v ∷ vs) h = (neither _ _ h).1

  rest_operands : (vs : List Varnode) → AllByRecursion IsOperand vs → AllByRecursion IsOperand (past_first vs)
  rest_operands [] h = h
  rest_operands (v ∷ vs) h = h.1

  -- the inputs past the first one
  pub rest_used : AreSpaces l.spaces → AllByRecursion (IsUsed l) (past_first op.inputs)
  rest_used good =
      all_used l (past_first op.inputs) good (rest_operands op.inputs obeys.formed.inputs)
      (rest_wide (names_address code op.inputs) op.inputs (neither _ _ narrow).0)
      (rest_leaves (names_address code op.inputs) op.inputs (neither _ _ within).0)

  pub out_used : AreSpaces l.spaces → IfSome op.out (IsUsed l)
  out_used good = by op.out obeys.formed.out (neither _ _ narrow).1 (neither _ _ within).1 where
    by : (o : Option Varnode)
        → IfSome o IsOperand
        → output_wide o ≡ false
        → output_leaves l o ≡ false
        → IfSome o (IsUsed l)
    by None is n w = tt
    by (Some v) is n w = used_by l v good is n w

-- ---- how many inputs there are

module _ (op : Op) where
  pub least : (n m : ℕ) (o : _)
      → has_operands (record { least = n; most = m; output = o }) op.out (length op.inputs) ≡ true
      → (n ≤ length op.inputs) × ((length op.inputs ≤ m) × (has_output o op.out ≡ true))
  least n m o h =
      let p = and_parts _ _ h in
      let q = and_parts _ _ p.1 in
      let a : nat_le n (length op.inputs) ≡ true = p.0 in
      let b : nat_le (length op.inputs) m ≡ true = q.0 in
      (grind (arith, nat_tests, a), (grind (arith, nat_tests, b), q.1))

pub out_sized : (l : Listing) (o : Option Varnode)
    → IfSome o (IsUsed l)
    → has_output output.Has o ≡ true
    → (0 < size_out o) × (size_out o ≤ 16)
out_sized l None used has = absurd (not_true (sym has))
out_sized l (Some v) used has = (used.some, used.few)

pub first_used : (l : Listing) (vs : List Varnode)
    → AllByRecursion (IsUsed l) vs
    → 1 ≤ length vs
    → IsUsed l (varnode_at vs 0)
first_used l [] all some = absurd (omega (arith, some))
first_used l (v ∷ vs) all some = all.0

pub second_used : (l : Listing) (vs : List Varnode)
    → AllByRecursion (IsUsed l) (past_first vs)
    → 2 ≤ length vs
    → IsUsed l (varnode_at vs 1)
second_used l [] all some = absurd (omega (arith, some))
second_used l (v ∷ []) all some = absurd (omega (arith, some))
second_used l (v ∷ w ∷ vs) all some = all.0

pub third_used : (l : Listing) (vs : List Varnode)
    → AllByRecursion (IsUsed l) (past_first vs)
    → 3 ≤ length vs
    → IsUsed l (varnode_at vs 2)
third_used l [] all some = absurd (omega (arith, some))
third_used l (v ∷ []) all some = absurd (omega (arith, some))
third_used l (v ∷ w ∷ []) all some = absurd (omega (arith, some))
third_used l (v ∷ w ∷ x ∷ vs) all some = all.1.0

-- ---- by what an op is

pub record HasOne (l : Listing) (op : Op) : Type 0 where
  pub count : length op.inputs ≡ 1
  pub first : IsUsed l (varnode_at op.inputs 0)

pub record HasTwo (l : Listing) (op : Op) : Type 0 where
  pub count : length op.inputs ≡ 2
  pub first : IsUsed l (varnode_at op.inputs 0)
  pub second : IsUsed l (varnode_at op.inputs 1)

pub record HasOutput (l : Listing) (op : Op) : Type 0 where
  pub used : IfSome op.out (IsUsed l)
  pub some : 0 < size_out op.out
  pub few : size_out op.out ≤ 16

one_of : (l : Listing) (op : Op)
    → AreSpaces l.spaces
    → AllByRecursion (IsUsed l) op.inputs
    → 1 ≤ length op.inputs
    → length op.inputs ≤ 1
    → HasOne l op
one_of l op good all some few = record { count = omega (arith, some, few); first = first_used l op.inputs all some }

two_of : (l : Listing) (op : Op)
    → AreSpaces l.spaces
    → AllByRecursion (IsUsed l) op.inputs
    → 2 ≤ length op.inputs
    → length op.inputs ≤ 2
    → HasTwo l op
two_of l op good all some few =
    record {
      count = omega (arith, some, few);
      first = first_used l op.inputs all (omega (arith, some));
      second = second_used l op.inputs (rest op.inputs all) some;
    } where
      rest : (vs : List Varnode) → AllByRecursion (IsUsed l) vs → AllByRecursion (IsUsed l) (past_first vs)
      rest [] h = h
      rest (v ∷ vs) h = h.1

output_of : (l : Listing) (op : Op) → IfSome op.out (IsUsed l) → has_output output.Has op.out ≡ true → HasOutput l op
output_of l op used has = let p = out_sized l op.out used has in record { used = used; some = p.0; few = p.1 }

module _ (l : Listing) (op : Op) (obeys : Obeys l op) (good : AreSpaces l.spaces) where
  pub unary_input : (code : Unary) → op.code ≡ O.Unary code → HasOne l op
  unary_input code kind =
      let n = least op 1 1 output.Has (counted l op (O.Unary code) kind obeys) in
      one_of l op good (inputs_used l op (O.Unary code) kind obeys good refl) n.0 n.1.0

  pub unary_output : (code : Unary) → op.code ≡ O.Unary code → HasOutput l op
  unary_output code kind =
      let n = least op 1 1 output.Has (counted l op (O.Unary code) kind obeys) in
      output_of l op (out_used l op (O.Unary code) kind obeys good) n.1.1

  pub unary_fits : (code : Unary)
      → op.code ≡ O.Unary code
      → IsUnarySized code (varnode_at op.inputs 0).size (size_out op.out)
  unary_fits code kind = unary_is code _ _ (sized l op (O.Unary code) kind obeys)

  pub binary_inputs : (code : Binary) → op.code ≡ O.Binary code → HasTwo l op
  binary_inputs code kind =
      let n = least op 2 2 output.Has (counted l op (O.Binary code) kind obeys) in
      two_of l op good (inputs_used l op (O.Binary code) kind obeys good refl) n.0 n.1.0

  pub binary_output : (code : Binary) → op.code ≡ O.Binary code → HasOutput l op
  binary_output code kind =
      let n = least op 2 2 output.Has (counted l op (O.Binary code) kind obeys) in
      output_of l op (out_used l op (O.Binary code) kind obeys good) n.1.1

  pub binary_fits : (code : Binary)
      → op.code ≡ O.Binary code
      → IsBinarySized code (varnode_at op.inputs 0).size (varnode_at op.inputs 1).size (size_out op.out)
  binary_fits code kind = binary_is code _ _ _ (sized l op (O.Binary code) kind obeys)

  pub divide_inputs : (code : Divide) → op.code ≡ O.Divide code → HasTwo l op
  divide_inputs code kind =
      let n = least op 2 2 output.Has (counted l op (O.Divide code) kind obeys) in
      two_of l op good (inputs_used l op (O.Divide code) kind obeys good refl) n.0 n.1.0

  pub divide_output : (code : Divide) → op.code ≡ O.Divide code → HasOutput l op
  divide_output code kind =
      let n = least op 2 2 output.Has (counted l op (O.Divide code) kind obeys) in
      output_of l op (out_used l op (O.Divide code) kind obeys good) n.1.1

  pub divide_fits : (code : Divide)
      → op.code ≡ O.Divide code
      → ((varnode_at op.inputs 0).size ≡ size_out op.out) × ((varnode_at op.inputs 1).size ≡ size_out op.out)
  divide_fits code kind = let p = same_three _ _ _ _ (sized l op (O.Divide code) kind obeys) in (p.0, p.1.0)

  -- BRANCHIND, CALLIND and RETURN
  pub only_input : (code : Opcode)
      → op.code ≡ code
      → operands_of code ≡ record { least = 1; most = 1; output = output.Lacks }
      → names_address code op.inputs ≡ false
      → HasOne l op
  only_input code kind takes isnt =
      let P : Operands → Type 0 = λ x. has_operands x op.out (length op.inputs) ≡ true in
      let n = least op 1 1 output.Lacks (subst P takes (counted l op code kind obeys)) in
      one_of l op good (inputs_used l op code kind obeys good isnt) n.0 n.1.0

  pub test_input : op.code ≡ O.CBranch → (length op.inputs ≡ 2) × IsUsed l (varnode_at op.inputs 1)
  test_input kind =
      let n = least op 2 2 output.Lacks (counted l op O.CBranch kind obeys) in
      (omega (arith, n.0, n.1.0), second_used l op.inputs (rest_used l op O.CBranch kind obeys good) n.0)

  -- what a LOAD has: a ram space's number, an offset and an output
  pub load_input : op.code ≡ O.Load → (length op.inputs ≡ 2) × IsUsed l (varnode_at op.inputs 1)
  load_input kind =
      let n = least op 2 2 output.Has (counted l op O.Load kind obeys) in
      (omega (arith, n.0, n.1.0), second_used l op.inputs (rest_used l op O.Load kind obeys good) n.0)

  pub load_output : op.code ≡ O.Load → HasOutput l op
  load_output kind =
      let n = least op 2 2 output.Has (counted l op O.Load kind obeys) in
      output_of l op (out_used l op O.Load kind obeys good) n.1.1

  pub load_ram : op.code ≡ O.Load → same_kind Ram (kind_of l (varnode_at op.inputs 0).offset) ≡ true
  load_ram kind = (and_parts _ _ (placed l op O.Load kind obeys)).1

  -- and a STORE: a ram space's number, an offset and a word
  pub store_inputs : op.code ≡ O.Store
      → (length op.inputs ≡ 3) × (IsUsed l (varnode_at op.inputs 1) × IsUsed l (varnode_at op.inputs 2))
  store_inputs kind =
      let n = least op 3 3 output.Lacks (counted l op O.Store kind obeys) in
      let all = rest_used l op O.Store kind obeys good in
      (omega (arith, n.0, n.1.0), (second_used l op.inputs all (omega (arith, n.0)), third_used l op.inputs all n.0))

  pub store_ram : op.code ≡ O.Store → same_kind Ram (kind_of l (varnode_at op.inputs 0).offset) ≡ true
  store_ram kind = (and_parts _ _ (placed l op O.Store kind obeys)).1

  pub call_some : op.code ≡ O.Call → 1 ≤ length op.inputs
  call_some kind = (least op 1 1 output.Lacks (counted l op O.Call kind obeys)).0

  pub other_some : op.code ≡ O.CallOther → 1 ≤ length op.inputs
  other_some kind = (least op 1 16 output.May (counted l op O.CallOther kind obeys)).0

-- ---- a ram space's number

pub ram_number : (ss : List Space) (n : ℕ) → same_kind Ram (kind_in (slice_get ss n)) ≡ true → n < length ss
ram_number [] n is = absurd (not_true (sym is))
ram_number (s ∷ ss) zero is = omega arith
ram_number (s ∷ ss) (suc n) is = let below = ram_number ss n is in omega (arith, below)

pub ram_small : (l : Listing) (n : ℕ) → AreSpaces l.spaces → same_kind Ram (kind_of l n) ≡ true → size_of l n ≤ 2 ^ 64
ram_small l n good is = size_most l.spaces n good (ram_not_constant (kind_of l n) is)

-- ---- a slice past the first input

pub rest_is : (vs : List Varnode) → take (length vs - 1) (drop 1 vs) ≡ past_first vs
rest_is [] = refl
rest_is (v ∷ vs) = let e : suc (length vs) - 1 ≡ length vs = omega arith in ap (λ k. take k vs) e ∙ take-length vs
