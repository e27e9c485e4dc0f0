-- The first ram space has two halves, and where there is a stack pointer the frame has room in both: an offset from the
-- entry word, counted from half the space below it, stands that much higher.
use Rattle.std.proofs.Common.{◌≡◌, ◌∙◌, ◌<◌, ◌≤◌, ◌+◌, ◌-◌, ◌*◌, ◌%◌, ◌^◌, ℕ, zero, suc, true, false, Some, refl, inl, inr, sym, ap, subst, ⊎_elim, arith, lit<, nat_lt}
use Rattle.std.specs.Prelude.{cond, slice_get, IfSome, ℤ, pos, negsuc, ◌+ℤ◌, ◌≤ℤ◌, ◌<ℤ◌}
use Rattle.std.proofs.Math.Nat.{mod-eq_of_lt, pow-le-pow_right, pow-suc}
use Rattle.std.proofs.lemmas.Bool.{cases_eq, ne_eqb}
use Rattle.std.proofs.lemmas.Bool.Decides.{nat_tests}
use Rattle.std.proofs.lemmas.Int.{ints}
use Rattle.pcode_model.specs.declared.listing.Listing.{Listing}
use Rattle.pcode_model.specs.declared.listing.SpaceKind.TheVariants.{Constant, Ram, Register, Unique}
use Rattle.pcode_model.specs.declared.listing.Varnode.{Varnode}
use Rattle.pcode_model.specs.Atoms.{IsLocal}
use Rattle.pcode_model.specs.Frame.{wrapped}
use Rattle.pcode_model.specs.Spaces.{first_ram, kind_of}
use Rattle.pcode_model.specs.WellFormed.{IsStackPointer, IsWellFormed}
use Rattle.range_words.specs.Own.{centred, half, stack_size}
use Rattle.frame_facts.specs.Accesses.{frame_limit, stack_width, width_in}
use Rattle.op_code.proofs.Frames.{size_by_bytes}
use Rattle.plain_form.proofs.Memory.{memory_is}
use Rattle.plain_form.proofs.Spaces.{differ, kind_of_first, low}

-- ---- powers

even_power : (k : ℕ) → 0 < k → half (256 ^ k) + half (256 ^ k) ≡ 256 ^ k
even_power zero some = absurd (omega arith)
even_power (suc k) some =
    let e : 256 ^ suc k ≡ 256 ^ k * 256 = pow-suc 256 k in
    omega (arith, e)

room_in : (w : ℕ) → 2 ≤ w → frame_limit w + 16 ≤ half (256 ^ w)
room_in w some = ⊎_elim
    (λ (two : w ≡ 2).
    let R : ℕ → Type 0 = λ n. frame_limit n + 16 ≤ half (256 ^ n) in
    subst R (sym two) (omega arith))
    (λ more.
    let three : 3 ≤ w = omega (arith, some, more) in
    let power : 256 ^ 3 ≤ 256 ^ w = pow-le-pow_right (lit< tt) three in
    let other : frame_limit w ≡ 2 ^ 20 = ap (λ b. cond b (2 ^ 12) (2 ^ 20)) (ne_eqb w 2 more) in
    omega (arith, power, other))
    (cases_eq w 2)

-- ---- the first ram space

-- The first ram space is one.
pub first_ram_is : (l : Listing) → IsWellFormed l → kind_of l (first_ram l) ≡ Ram
first_ram_is l read = kind_of_first Ram l.spaces read.complete.ram

-- It has at most 2^64 addresses.
pub stack_small : (l : Listing) → IsWellFormed l → stack_size l ≤ 2 ^ 64
stack_small l read =
    low l.spaces read.spaces (first_ram l) (λ e. differ Ram Constant refl (sym e ∙ first_ram_is l read))

-- It is neither the register space nor the unique space.
pub off_frame : (l : Listing) → IsWellFormed l → (s : ℕ) → IsLocal l s → s ≡ first_ram l → ⊥
off_frame l read s (inl e) f =
    let r : kind_of l s ≡ Register = ap (kind_of l) e ∙ kind_of_first Register l.spaces (omega (arith, read.complete.register)) in
    differ Ram Register refl (sym r ∙ (ap (kind_of l) f ∙ first_ram_is l read))
off_frame l read s (inr e) f =
    let u : kind_of l s ≡ Unique = ap (kind_of l) e ∙ kind_of_first Unique l.spaces (omega (arith, read.complete.unique)) in
    differ Ram Unique refl (sym u ∙ (ap (kind_of l) f ∙ first_ram_is l read))

-- It has two halves.
pub even : (l : Listing) → IsWellFormed l → half (stack_size l) + half (stack_size l) ≡ stack_size l
even l read =
    let memory = memory_is l read (first_ram l) (first_ram_is l read) in
    subst (λ n. half n + half n ≡ n) (sym (size_by_bytes (slice_get l.spaces (first_ram l)))) (even_power _ memory.some)

-- The stack pointer is as wide as its offsets.
pub pointer_is : (l : Listing) → IsWellFormed l → (sp : Varnode) → l.stack ≡ Some sp → IsStackPointer l.spaces sp
pointer_is l read sp is = subst (λ o. IfSome o (IsStackPointer l.spaces)) is read.stack

pub pointer_wide : (l : Listing) → IsWellFormed l → (sp : Varnode) → l.stack ≡ Some sp → stack_size l ≡ 256 ^ sp.size
pointer_wide l read sp is =
    size_by_bytes (slice_get l.spaces (first_ram l)) ∙ ap (λ n. 256 ^ n) (sym (pointer_is l read sp is).wide)

-- Each half has room for the frame.
pub room : (l : Listing)
    → IsWellFormed l
    → (sp : Varnode)
    → l.stack ≡ Some sp
    → frame_limit (stack_width l) + 16 ≤ half (stack_size l)
room l read sp is =
    let here : frame_limit sp.size + 16 ≤ half (256 ^ sp.size) = room_in sp.size (pointer_is l read sp is).some in
    let wide : stack_width l ≡ sp.size = ap width_in is in
    subst (λ n. frame_limit n + 16 ≤ half (stack_size l)) (sym wide)
    (subst (λ n. frame_limit sp.size + 16 ≤ half n) (sym (pointer_wide l read sp is)) here)

-- ---- offsets, counted from half the space below the entry word

-- an offset that lies in one of the halves
pub record IsHalfway (size : ℕ) (o : ℤ) : Type 0 where
  pub low : pos 0 ≤ℤ (o +ℤ pos (half size))
  pub high : o <ℤ pos (half size)

-- It stands half the space higher.
pub centred_is : (size : ℕ) (o : ℤ)
    → half size + half size ≡ size
    → IsHalfway size o
    → pos (centred size (wrapped size o)) ≡ o +ℤ pos (half size)
centred_is size (pos n) two at =
    let high = at.high in
    let less : n < half size = omega (arith, ints, high) in
    let same : n % size ≡ n = mod-eq_of_lt (omega (arith, less, two)) in
    let t : nat_lt n (half size) ≡ true = grind (arith, nat_tests) in
    ap (λ x. pos (centred size x)) same ∙ ap (λ b. pos (cond b (n + half size) (n - half size))) t
centred_is size (negsuc n) two at =
    let low = at.low in
    let less : suc n ≤ half size = omega (arith, ints, low) in
    let same : n % size ≡ n = mod-eq_of_lt (omega (arith, less, two)) in
    let c : ℕ = size - suc n in
    let t : nat_lt c (half size) ≡ false = grind (arith, nat_tests, two, less) in
    ap (λ x. pos (centred size (size - suc x))) same
    ∙ (ap (λ b. pos (cond b (c + half size) (c - half size))) t
    ∙ omega (arith, ints, two, less))
