-- Offsets of slots are words of the stack pointer's width.
use Rattle.std.proofs.Common.{◌≡◌, ℕ, zero, suc, ◌-◌, ◌*◌, ◌/◌, ◌^◌, ◌%◌, ◌<◌, ◌≤◌, lit<, [], ◌∷◌, length, get_or, Option, Some, None, refl, sym, ap, ◌∙◌, subst, arith}
use Rattle.std.specs.Prelude.{slice_get, IfSome, cond, pos, neg_ℤ, ◌-ℤ◌}
use Rattle.std.proofs.Math.Nat.{pow-le-pow_right}
use Rattle.std.proofs.lemmas.Bool.{le-ltb, lt-ltb}
use Rattle.std.proofs.lemmas.Int.{ints}
use Rattle.pcode_model.specs.declared.listing.Space.{Space}
use Rattle.pcode_model.specs.Spaces.{first_ram, offset_bytes_in}
use Rattle.pcode_model.specs.WellFormed.{IsStackPointer}
use Rattle.pcode_model.proofs.Sizes.{size_is}
use Rattle.frame_known.proofs.Ranges.{size_few}
use Rattle.bits_core.specs.Value.{half, signed}
use Rattle.pcode_model.specs.declared.listing.Varnode.{Varnode}
use Rattle.pcode_model.specs.declared.listing.Listing.{Listing}
use Rattle.pcode_model.specs.Flow.{IsIn}
use Rattle.pcode_model.specs.WellFormed.{IsWellFormed}
use Rattle.bits_core.specs.Value.{limit}
use Rattle.frame_facts.specs.Accesses.{stack_width, width_in}
use Rattle.frame_facts.specs.Facts.{offsets}
use Rattle.frame_facts.proofs.Prototypes.{offsets_are}
use Rattle.frame_known.specs.declared.slots.Slots.{Slots}
use Rattle.frame_known.specs.Slots.{AreSlots, key}
use Rattle.frame_known.specs.Rows.{AreBelow, IsBelow, IsRow, Row, offset_of}
use Rattle.frame_known.proofs.Entries.{offset_is}
use Rattle.frame_known.proofs.Meaning.{can_from, held}

module _ (l : Listing) (read : IsWellFormed l) where
  pub stack_low : (sp : Varnode) (c : ℕ) → l.stack ≡ Some sp → c < offsets l → c < limit (stack_width l)
  stack_low sp c is low =
      let e : offsets l ≡ limit (stack_width l) = offsets_are l read sp is ∙ sym (ap (λ o. limit (width_in o)) is) in
      subst (λ m. c < m) e low

  -- an offset that a slot may have
  pub slot_low : (s : Slots) (n c : ℕ)
      → AreSlots l s
      → IsIn n s.keys.items
      → c < s.offsets
      → c < limit (stack_width l)
  slot_low s n c slots is low =
      let below : c < offsets l = subst (λ m. c < m) slots.count low in
      let can = slots.held n c is below in
      stack_low can.stack c can.is below

pub below_at : (m : ℕ) (row : Row) (k : ℕ) → AreBelow m row → k < length row → IsBelow m (get_or row k None)
below_at m [] k h lt = absurd (omega (arith, lt))
below_at m (r ∷ row) zero h lt = h.0
below_at m (r ∷ row) (suc k) h lt = below_at m row k h.1 (omega (arith, lt))

-- where a row knows an offset, each word of an address is one of the stack pointer's width
pub known_low : (l : Listing) (s : Slots) (row : Row) (v : Varnode) (d n : ℕ)
    → IsWellFormed l
    → AreSlots l s
    → IsRow s row
    → offset_of s row v ≡ Some d
    → n % s.offsets < limit (stack_width l)
known_low l s row v d n read slots fine e =
    let x = held s row v d (offset_is (offset_of s row v) d e) in
    let some = slots.some in
    slot_low l read s (key v) (n % s.offsets) slots x.has (omega (arith, some))

-- an offset that a row knows is one
pub known_below : (l : Listing) (s : Slots) (row : Row) (v : Varnode) (d : ℕ)
    → IsWellFormed l
    → AreSlots l s
    → IsRow s row
    → offset_of s row v ≡ Some d
    → d < limit (stack_width l)
known_below l s row v d read slots fine e =
    let x = held s row v d (offset_is (offset_of s row v) d e) in
    let can = can_from l read s slots row fine row fine v d x in
    stack_low l read can.stack d can.is can.below

-- ---- the width of the stack pointer

pub width_few : (l : Listing) → IsWellFormed l → stack_width l ≤ 8
width_few l read = by l.stack read.stack where
  bytes : (o : Option Space) → slice_get l.spaces (first_ram l) ≡ o → offset_bytes_in o ≤ 8
  bytes None e = omega arith
  bytes (Some s) e = size_few l.spaces (first_ram l) s read.spaces e

  by : (o : Option Varnode) → IfSome o (IsStackPointer l.spaces) → width_in o ≤ 8
  by None h = omega arith
  by (Some sp) h = omega (arith, h.wide, bytes (slice_get l.spaces (first_ram l)) refl)

pub limit_few : (l : Listing) → IsWellFormed l → limit (stack_width l) ≤ 2 ^ 64
unfolding limit
limit_few l read =
    let w = width_few l read in
    let power : 2 ^ (8 * stack_width l) ≤ 2 ^ 64 = pow-le-pow_right (lit< tt) {j = 64} (omega (arith, w)) in
    omega (arith, power, size_is (stack_width l))

pub signed_under : (w a m : ℕ) → m ≡ limit w → a < m / 2 → signed w a ≡ pos a
unfolding half
signed_under w a m e lt =
    let h : a < limit w / 2 = subst (λ x. a < x / 2) e lt in
    ap (λ b. cond b (pos a) (pos a -ℤ pos (limit w))) (lt-ltb a (limit w / 2) h)

pub signed_over : (w a m : ℕ) → m ≡ limit w → m / 2 ≤ a → a < m → signed w a ≡ neg_ℤ (pos (m - a))
unfolding half
signed_over w a m e le lt =
    let h : limit w / 2 ≤ a = subst (λ x. x / 2 ≤ a) e le in
    ap (λ b. cond b (pos a) (pos a -ℤ pos (limit w))) (le-ltb a (limit w / 2) h)
    ∙ omega (arith, ints, e, lt)
