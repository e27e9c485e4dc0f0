-- Where the places of the three areas stand on the line, and which storage stands at a place.
use Rattle.std.proofs.Common.{◌≡◌, ◌∙◌, ℕ, suc, ◌+◌, ◌-◌, ◌^◌, ◌<◌, ◌≤◌, Bool, true, false, refl, sym, ap, subst, ⊎_elim, arith, nat_lt}
use Rattle.std.specs.Prelude.{ℤ, pos, negsuc, ◌+ℤ◌, ◌-ℤ◌, ◌≤ℤ◌, cond}
use Rattle.std.proofs.lemmas.Bool.{cases_lt}
use Rattle.std.proofs.lemmas.Bool.Decides.{nat_tests}
use Rattle.std.proofs.lemmas.Int.{ints}
use Rattle.pcode_model.specs.declared.storage.ParamStorage.{ParamStorage}
use Rattle.pcode_model.specs.declared.storage.ParamStorage.TheVariants as P
use Rattle.pcode_model.specs.Atoms.{Area, Registers, StandsBefore, Stacked, Uniques, area_of, offset_of}
use Rattle.stackvars.specs.Cuts.{IsInReach, begin, entry_word, frames, from_entry, storage_at, uniques}

-- ---- areas

-- where an area's offset 0 stands
abbrev pub origin : Area → ℕ
origin Registers = 0
origin Uniques = uniques
origin Stacked = entry_word

-- the places of an area
abbrev pub Within : Area → ℕ → Type 0
Within Registers n = n < uniques
Within Uniques n = (uniques ≤ n) × (n < frames)
Within Stacked n = frames ≤ n

-- a place that is of two areas shows them to be one
pub same_area : (a b : Area) (n : ℕ) → Within a n → Within b n → a ≡ b
same_area Registers Registers n h k = refl
same_area Registers Uniques n h k = let low = k.0 in absurd (omega arith)
same_area Registers Stacked n h k = absurd (omega arith)
same_area Uniques Registers n h k = let low = h.0 in absurd (omega arith)
same_area Uniques Uniques n h k = refl
same_area Uniques Stacked n h k = let high = h.1 in absurd (omega arith)
same_area Stacked Registers n h k = absurd (omega arith)
same_area Stacked Uniques n h k = let high = k.1 in absurd (omega arith)
same_area Stacked Stacked n h k = refl

-- what stands between two places of an area is of the area
pub between : (a : Area) (m x n : ℕ) → m ≤ x → x ≤ n → Within a m → Within a n → Within a x
between Registers m x n from to h k = omega arith
between Uniques m x n from to h k = let low = h.0 in let high = k.1 in (omega arith, omega arith)
between Stacked m x n from to h k = omega arith

-- the place of an area's offset
pub record IsAt (a : Area) (o : ℤ) (n : ℕ) : Type 0 where
  pub is : pos n ≡ pos (origin a) +ℤ o
  pub within : Within a n

-- an offset has one place
pub one_place : (a : Area) (o : ℤ) (m n : ℕ) → IsAt a o m → IsAt a o n → m ≡ n
one_place a o m n x y = let e = x.is in let f = y.is in omega (arith, ints)

-- so far above a place
pub above : (a : Area) (o : ℤ) (n d : ℕ) → IsAt a o n → Within a (n + d) → IsAt a (o +ℤ pos d) (n + d)
above a o n d x within = record { is = let e = x.is in omega (arith, ints); within = within }

-- a place is that of one offset of one area
pub one_offset : (a b : Area) (o p : ℤ) (n : ℕ) → IsAt a o n → IsAt b p n → (a ≡ b) × (o ≡ p)
one_offset a b o p n x y =
    let same : a ≡ b = same_area a b n x.within y.within in
    let there : IsAt b o n = subst (λ z. IsAt z o n) same x in
    (same, (let e = there.is in let f = y.is in omega (arith, ints)))

-- ---- the ends of a range

abbrev Ends : ParamStorage → ℕ → Type 0
Ends s k = IsAt (area_of s) (offset_of s) (begin s) × IsAt (area_of s) (offset_of s +ℤ pos k) (begin s + k)

frame_begin : (o : ℤ) → pos 0 ≤ℤ (o +ℤ pos (2 ^ 31)) → (pos (from_entry o) ≡ pos entry_word +ℤ o) × (frames ≤ from_entry o)
frame_begin (pos n) low = (refl, omega arith)
frame_begin (negsuc n) low =
    let near : suc n ≤ 2 ^ 31 = omega (arith, ints) in
    (omega (arith, ints, near), omega (arith, near))

-- both ends of a range in reach are places of its area
pub ends : (s : ParamStorage) (k : ℕ) → IsInReach s k → Ends s k
ends (P.Register o) k reach =
    let low = reach.0 in
    (record { is = ap pos (omega arith); within = omega arith }, record { is = ap pos (omega arith); within = omega arith })
ends (P.Unique o) k reach =
    let low = reach.0 in (
      record { is = refl; within = (omega arith, omega arith) },
      record { is = omega (arith, ints); within = (omega arith, omega arith) },
    )
ends (P.Stack o) k reach =
    let at = frame_begin o reach.0 in
    let e = at.0 in
    let some = at.1 in (
      record { is = e; within = some },
      record { is = omega (arith, ints); within = omega arith },
    )

-- ---- the storage at a place

register_at : (n : ℕ) → n < uniques → storage_at n ≡ P.Register n
register_at n less =
    let t : nat_lt n uniques ≡ true = grind (arith, nat_tests) in
    ap (λ (b : Bool). cond b (P.Register n) (cond (nat_lt n frames) (P.Unique (n - uniques)) (P.Stack (pos n -ℤ pos entry_word)))) t

past_registers : (n : ℕ)
    → uniques ≤ n
    → storage_at n ≡ cond (nat_lt n frames) (P.Unique (n - uniques)) (P.Stack (pos n -ℤ pos entry_word))
past_registers n le =
    let t : nat_lt n uniques ≡ false = grind (arith, nat_tests) in
    ap (λ (b : Bool). cond b (P.Register n) (cond (nat_lt n frames) (P.Unique (n - uniques)) (P.Stack (pos n -ℤ pos entry_word)))) t

unique_at : (n : ℕ) → uniques ≤ n → n < frames → storage_at n ≡ P.Unique (n - uniques)
unique_at n le less =
    let t : nat_lt n frames ≡ true = grind (arith, nat_tests) in
    past_registers n le ∙ ap (λ (b : Bool). cond b (P.Unique (n - uniques)) (P.Stack (pos n -ℤ pos entry_word))) t

stacked_at : (n : ℕ) → frames ≤ n → storage_at n ≡ P.Stack (pos n -ℤ pos entry_word)
stacked_at n le =
    let t : nat_lt n frames ≡ false = grind (arith, nat_tests) in
    past_registers n (omega arith)
    ∙ ap (λ (b : Bool). cond b (P.Unique (n - uniques)) (P.Stack (pos n -ℤ pos entry_word))) t

-- which of the three areas a place is of
by_area : (P : ℕ → Type 0)
    → ((n : ℕ) → n < uniques → P n)
    → ((n : ℕ) → uniques ≤ n → n < frames → P n)
    → ((n : ℕ) → frames ≤ n → P n)
    → (n : ℕ)
    → P n
by_area P registers uniques_of stacks n =
    ⊎_elim
    (λ h. registers n h)
    (λ h. ⊎_elim (λ k. uniques_of n h k) (λ k. stacks n k) (cases_lt n frames))
    (cases_lt n uniques)

-- the storage has this place
abbrev Has : ℕ → ParamStorage → Type 0
Has n s = IsAt (area_of s) (offset_of s) n

abbrev Stands : ℕ → Type 0
Stands n = Has n (storage_at n)

-- what stands at a place has this place
pub stands : (n : ℕ) → Stands n
stands n = by_area Stands at_register at_unique at_stack n where
  at_register : (n : ℕ) → n < uniques → Stands n
  at_register n h = subst (Has n) (sym (register_at n h)) (record { is = ap pos (omega arith); within = h })

  at_unique : (n : ℕ) → uniques ≤ n → n < frames → Stands n
  at_unique n h k =
      subst (Has n) (sym (unique_at n h k)) (record { is = ap pos (omega arith); within = (h, k) })

  at_stack : (n : ℕ) → frames ≤ n → Stands n
  at_stack n h =
      subst (Has n) (sym (stacked_at n h)) (record { is = omega (arith, ints); within = h })

-- a storage is what stands at its place
pub stored : (s : ParamStorage) (n : ℕ) → IsAt (area_of s) (offset_of s) n → storage_at n ≡ s
stored (P.Register o) n at =
    let e : n ≡ o = (let x = at.is in omega (arith, ints)) in
    register_at n at.within ∙ ap P.Register e
stored (P.Unique o) n at =
    let e : n - uniques ≡ o = (let x = at.is in omega (arith, ints)) in
    unique_at n at.within.0 at.within.1 ∙ ap P.Unique e
stored (P.Stack o) n at =
    let e : pos n -ℤ pos entry_word ≡ o = (let x = at.is in omega (arith, ints)) in
    stacked_at n at.within ∙ ap P.Stack e

-- ---- order

abbrev Before : ℕ → ℕ → Type 0
Before m n = StandsBefore (storage_at m) (storage_at n)

ordered_as : (m n : ℕ) (s t : ParamStorage) → storage_at m ≡ s → storage_at n ≡ t → StandsBefore s t → Before m n
ordered_as m n s t e f h =
    subst (λ x. StandsBefore x (storage_at n)) (sym e) (subst (λ x. StandsBefore s x) (sym f) h)

-- storages stand in the order of their places
pub ordered : (m n : ℕ) → m < n → StandsBefore (storage_at m) (storage_at n)
ordered m n less =
    ⊎_elim
    (λ (a : m < uniques). by_area (λ x. m < x → Before m x)
    (λ x b lt. ordered_as m x _ _ (register_at m a) (register_at x b) lt)
    (λ x b d lt. ordered_as m x _ _ (register_at m a) (unique_at x b d) tt)
    (λ x b lt. ordered_as m x _ _ (register_at m a) (stacked_at x b) tt)
    n less)
    (λ (a : uniques ≤ m). ⊎_elim
    (λ (d : m < frames). by_area (λ x. m < x → Before m x)
    (λ x b lt. absurd (omega arith))
    (λ x b e lt. ordered_as m x _ _ (unique_at m a d) (unique_at x b e) (omega arith))
    (λ x b lt. ordered_as m x _ _ (unique_at m a d) (stacked_at x b) tt)
    n less)
    (λ (d : frames ≤ m).
    let h : frames ≤ n = omega arith in
    ordered_as m n _ _ (stacked_at m d) (stacked_at n h) (omega (arith, ints)))
    (cases_lt m frames))
    (cases_lt m uniques)
