-- A listing's frame is one that a run can go by: its accesses and variables stand in their orders, near the stack pointer's
-- entry word, and its accesses lie in the first ram space.
use Rattle.std.proofs.Common.{◌≡◌, ◌≢◌, ◌∙◌, ◌<◌, ◌≤◌, ◌+◌, ◌*◌, ◌^◌, ℕ, Bool, true, false, List, [], ◌∷◌, Option, refl, inl, inr, ⊎_elim, sym, subst, ap, arith, lit<}
use Rattle.std.proofs.Math.Nat.{pow-le-pow_right}
use Rattle.std.specs.Prelude.{◌==◌, cond, not, IfSome, ℤ, pos, ◌+ℤ◌, ◌-ℤ◌, ◌≤ℤ◌, ◌<ℤ◌, neg_ℤ}
use Rattle.std.specs.List.{AllByRecursion}
use Rattle.std.proofs.lemmas.Bool.{cases_eq, cases_lt}
use Rattle.std.proofs.lemmas.Bool.Decides.{nat_tests}
use Rattle.std.proofs.lemmas.Int.{ints}
use Rattle.bits_core.specs.Value.{limit}
use Rattle.pcode_model.specs.declared.frame.Frame.{Frame}
use Rattle.pcode_model.specs.declared.frame.FrameAccess.{FrameAccess}
use Rattle.pcode_model.specs.declared.frame.FrameVariable.{FrameVariable}
use Rattle.pcode_model.specs.declared.listing.Listing.{Listing}
use Rattle.pcode_model.specs.declared.listing.Place.{Place}
use Rattle.pcode_model.specs.declared.listing.Varnode.{Varnode}
use Rattle.pcode_model.specs.declared.opcode.Opcode.{Opcode}
use Rattle.pcode_model.specs.declared.opcode.Opcode.TheVariants as O
use Rattle.pcode_model.specs.Flow.{IsIn}
use Rattle.pcode_model.specs.Places.{standing}
use Rattle.pcode_model.specs.Spaces.{first_ram, or, size_of}
use Rattle.pcode_model.specs.WellFormed.{IsStackPointer, IsWellFormed}
use Rattle.pcode_memory.specs.Frame.{ComesBefore, EndsBefore, IsNear, IsOrdered, Rise}
use Rattle.pcode_run.specs.Run.{LiesInRam, accesses, by_pointer, lies_in_ram}
use Rattle.stackvars.proofs.Members.{to_recursion}
use Rattle.frame_facts.specs.Accesses.{IsFrameAccess, IsFrameVariable, Reach, Same, frame_limit, reaches, stack_width, width_in}
use Rattle.frame_facts.specs.Escapes.{is_of_memory}
use Rattle.frame_facts.specs.Listed.{InOrderBy, IsAccessBefore, IsFrame, IsVariableBefore}
use Rattle.frame_facts.proofs.Prototypes.{offsets_are}
use Rattle.frame_facts.proofs.Classes.{joined_access, variables_same}
use Rattle.frame_facts.proofs.Numbers.{more_by}
use Rattle.frame_facts.proofs.Reaches.{memory_reach}
use Rattle.frame_classes.proofs.Order.{access_on}

-- ---- orders

module _
    {A : Type 0}
    (Is : A → Type 0)
    (before stands : A → A → Type 0)
    (on : (a b c : A) → before a b → before b c → before a c)
    (so : (a b : A) → Is a → Is b → before a b → stands a b)
  where
    first_rises : (a b : A) (xs : List A)
        → Is a
        → AllByRecursion Is (b ∷ xs)
        → before a b
        → InOrderBy before (b ∷ xs)
        → AllByRecursion (stands a) (b ∷ xs)
    first_rises a b [] is all less order = (so a b is all.0 less, tt)
    first_rises a b (c ∷ xs) is all less order =
        (so a b is all.0 less, first_rises a c xs is all.1 (on a b c less order.0) order.1)

    -- Where each stands before the next one, each stands so to all that follow.
    pub rises : (xs : List A) → AllByRecursion Is xs → InOrderBy before xs → Rise stands xs
    rises [] all order = tt
    rises (a ∷ []) all order = (tt, tt)
    rises (a ∷ b ∷ xs) all order = (first_rises a b xs all.0 all.1 order.0 order.1, rises (b ∷ xs) all.1 order.1)

-- ---- how wide the stack is

wide_by : (w : ℕ) → 2 ≤ w → 2 * (frame_limit w + 16) ≤ limit w
unfolding limit
wide_by w two = ⊎_elim
    (λ (is : w ≡ 2).
    let P : ℕ → Type 0 = λ n. 2 * (frame_limit n + 16) ≤ 256 ^ n in
    subst P (sym is) (omega arith))
    (λ (ne : w ≢ 2).
    let three : 3 ≤ w = omega (arith, two, ne) in
    let far : (w == 2) ≡ false = grind (arith, nat_tests) in
    let most : 256 ^ 3 ≤ 256 ^ w = pow-le-pow_right (lit< tt) three in
    let is : frame_limit w ≡ 2 ^ 20 = ap (λ b. cond b (2 ^ 12) (2 ^ 20)) far in
    omega (arith, is, most))
    (cases_eq w 2)

-- ---- accesses

comes_before : (a b : FrameAccess) → IsAccessBefore a b → ComesBefore a b
comes_before a b (inl (inl less)) = grind (arith, nat_tests, less)
comes_before a b (inl (inr both)) = let e = both.0 in let less = both.1 in grind (arith, nat_tests)
comes_before a b (inr both) =
    let e = ap (λ (p : Place). p.address) both.0 in
    let f = ap (λ (p : Place). p.index) both.0 in
    let less = both.1 in
    grind (arith, nat_tests)

lies_by : (l : Listing) (code : Opcode) (out : Option Varnode) (vs : List Varnode) (r : Reach)
    → IsIn r (reaches l (record { code = code; out = out; inputs = vs }))
    → or (not (by_pointer code)) (is_of_memory l vs) ≡ true
lies_by l (O.Unary op) out vs r is = refl
lies_by l (O.Binary op) out vs r is = refl
lies_by l (O.Divide op) out vs r is = refl
lies_by l O.Load out vs r is = (memory_reach l vs _ r is).0
lies_by l O.Store out vs r is = (memory_reach l vs _ r is).0
lies_by l O.Branch out vs r is = refl
lies_by l O.CBranch out vs r is = refl
lies_by l O.BranchInd out vs r is = refl
lies_by l O.Call out vs r is = refl
lies_by l O.CallInd out vs r is = refl
lies_by l O.CallOther out vs r is = refl
lies_by l O.Return out vs r is = refl
lies_by l (O.Float name) out vs r is = refl
lies_by l (O.FloatConversion op) out vs r is = refl
lies_by l (O.Analysis op) out vs r is = refl
lies_by l (O.LeftOut op) out vs r is = refl

access_lies : (l : Listing) (a : FrameAccess) → IsFrameAccess l [] [] a → lies_in_ram l a ≡ true
access_lies l a is = by (a.argument == 0)
  where
    here : accesses (first_ram l) (standing l a.place) ≡ true
    here = ap (accesses (first_ram l)) is.does
        ∙ lies_by l is.op.code is.op.out is.op.inputs is.by is.is_by

    by : (b : Bool) → cond b (accesses (first_ram l) (standing l a.place)) true ≡ true
    by true = here
    by false = refl

-- ---- variables

variable_on : (u v w : FrameVariable) → IsVariableBefore u v → IsVariableBefore v w → IsVariableBefore u w
variable_on u v w a b = omega (arith, ints, a, b)

ends_before : (l : Listing) (v w : FrameVariable)
    → (IsFrameVariable l [] [] v × (0 < v.size))
    → (IsFrameVariable l [] [] w × (0 < w.size))
    → IsVariableBefore v w
    → EndsBefore v w
ends_before l v w is also less =
    let d = more_by v.offset w.offset (omega (arith, ints, less)) in
    ⊎_elim
    (λ (within : d.0 < v.size).
    let some = also.1 in
    let same = variables_same l [] [] v w is.0 also.0 w.offset
    (omega (arith, ints, less), omega (arith, ints, d.1, within)) (omega (arith, ints), omega (arith, ints, some)) in
    absurd (omega (arith, ints, less, same.0)))
    (λ (past : v.size ≤ d.0). omega (arith, ints, d.1, past))
    (cases_lt d.0 v.size)

module _
    (l : Listing)
    (read : IsWellFormed l)
    (few : (a : FrameAccess) → IsFrameAccess l [] [] a → (0 < a.size) × (a.size ≤ 16))
    (v : FrameVariable)
    (is : IsFrameVariable l [] [] v)
  where
    abbrev first : FrameAccess
    first = is.0

    access : IsFrameAccess l [] [] first
    access = is.1.is_class.access

    some : 0 < v.size
    some =
        let k = few first access in
        let more = k.0 in
        let byte = (is.1.is_class.bytes first.offset).1
        (first, (Same first access, (omega (arith, ints), omega (arith, ints, more)))) in
        omega (arith, ints, byte.0, byte.1)

    -- the stack is wider than all that may be accessed of the frame
    wide : 2 * (frame_limit (stack_width l) + 16) ≤ size_of l (first_ram l)
    wide =
        let can = (access.fact.1.1).can first.place access.by.base access.base access.fact.1.0 in
        let P : Option Varnode → Type 0 = λ o. IfSome o (IsStackPointer l.spaces) in
        let pointer : IsStackPointer l.spaces can.stack = subst P can.is read.stack in
        let W : ℕ → Type 0 = λ n. 2 * (frame_limit (stack_width l) + 16) ≤ n in
        let width : can.stack.size ≡ stack_width l = sym (ap width_in can.is) in
        subst W (sym (offsets_are l read can.stack can.is ∙ ap limit width))
        (wide_by (stack_width l) (omega (arith, width, pointer.some)))

    near : IsNear (size_of l (first_ram l)) v
    near =
        let more = some in
        let low = (is.1.is_class.bytes v.offset).0 (omega (arith, ints), omega (arith, ints, more)) in
        let high = (is.1.is_class.bytes ((v.offset +ℤ pos v.size) -ℤ pos 1)).0
        (omega (arith, ints, more), omega (arith, ints, more)) in
        let x = joined_access l [] [] first low.0 low.1.0 in
        let y = joined_access l [] [] first high.0 high.1.0 in
        let a = low.1.1.0 in
        let b = high.1.1.1 in
        let c = x.within.0 in
        let d = y.within.1 in
        let k = few high.0 y in
        let e = k.1 in
        let w = wide in
        record {
          some = more;
          low = omega (arith, ints, a, c, w);
          high = omega (arith, ints, b, d, e, w);
        }

-- ---- the frame

module _
    (l : Listing)
    (read : IsWellFormed l)
    (few : (a : FrameAccess) → IsFrameAccess l [] [] a → (0 < a.size) × (a.size ≤ 16))
    (f : Frame)
    (frame : IsFrame l [] [] f)
  where
    abbrev IsOne : FrameVariable → Type 0
    IsOne v = IsFrameVariable l [] [] v × (0 < v.size)

    one : (v : FrameVariable) → IsIn v f.variables → IsOne v
    one v is = let own = (frame.variables.each v).0 is in (own, (near l read few v own).some)

    pub frame_ordered : IsOrdered l f
    frame_ordered = record {
      accesses = rises (λ (a : FrameAccess). Unit {0}) IsAccessBefore ComesBefore access_on
          (λ a b x y less. comes_before a b less) f.accesses (to_recursion (λ (a : FrameAccess). Unit {0}) f.accesses
          (λ a is. tt)) frame.accesses.in_order;
      variables = rises IsOne IsVariableBefore EndsBefore variable_on (ends_before l) f.variables
          (to_recursion IsOne f.variables one) frame.variables.in_order;
      near = to_recursion (IsNear (size_of l (first_ram l))) f.variables
          (λ v is. near l read few v ((frame.variables.each v).0 is));
    }

    pub frame_lies : LiesInRam l f
    frame_lies = to_recursion (λ (a : FrameAccess). lies_in_ram l a ≡ true) f.accesses
        (λ a is. access_lies l a ((frame.accesses.each a).0 is).1.is_class.access)
