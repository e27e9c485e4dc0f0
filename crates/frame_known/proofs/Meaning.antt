-- What a row knows after an op is what the op passes on.
use Rattle.std.proofs.Common.{◌≡◌, ℕ, zero, suc, ◌+◌, ◌-◌, ◌%◌, ◌<◌, ◌≤◌, ◌^◌, Bool, true, false, List, Option, Some, None, refl, sym, ap, ◌∙◌, subst, inl, inr, ⊎_elim, ◌⊎◌, arith}
use Rattle.std.specs.Prelude.{◌==◌, ◌&&◌, ◌↔◌, cond, IfSome}
use Rattle.std.proofs.lemmas.Bool.{and_parts, and_from, cases_order, eqb-true, eq-eqb}
use Rattle.std.proofs.lemmas.Bool.Decides.{nat_tests}
use Rattle.bits_core.specs.declared.ops.Unary.TheVariants as U
use Rattle.bits_core.specs.declared.ops.Binary.TheVariants as B
use Rattle.pcode_model.specs.declared.listing.SpaceKind.TheVariants.{Constant}
use Rattle.pcode_model.specs.declared.listing.Varnode.{Varnode}
use Rattle.pcode_model.specs.declared.listing.Op.{Op}
use Rattle.pcode_model.specs.declared.listing.Place.{Place}
use Rattle.pcode_model.specs.declared.listing.Proto.{Proto}
use Rattle.pcode_model.specs.declared.listing.Instruction.{Instruction}
use Rattle.pcode_model.specs.declared.listing.Listing.{Listing}
use Rattle.pcode_model.specs.declared.opcode.Opcode.{Opcode}
use Rattle.pcode_model.specs.declared.opcode.Opcode.TheVariants as O
use Rattle.pcode_model.specs.Spaces.{kind_of, register_space, same_kind, unique_space, or}
use Rattle.pcode_model.specs.Places.{Standing, Nothing, Passes, Does, standing}
use Rattle.pcode_model.specs.Step.{callee_at, proto_of, varnode_at, in_range, in_some}
use Rattle.pcode_model.specs.Flow.{IsIn}
use Rattle.pcode_model.specs.WellFormed.{IsProto, IsStackPointer, IsWellFormed, ShareNothing}
use Rattle.pcode_laws.proofs.Rules.{either}
use Rattle.frame_facts.specs.Facts.{CanHold, IsConstant, IsDifference, IsKept, IsSum, Known, Makes, Over, OverCall, OverOp, OverOther, offsets, writes}
use Rattle.frame_facts.specs.Escapes.{is_constant}
use Rattle.frame_facts.proofs.Spaces.{spaces_differ}
use Rattle.pcode_laws.proofs.SpaceKinds.{same_is}
use Rattle.flow.proofs.Adjacent.{some_same}
use Rattle.frame_facts.proofs.Prototypes.{kept_meets, proto_fine}
use Rattle.frame_known.specs.declared.slots.Slots.{Slots}
use Rattle.frame_known.specs.Slots.{AreSlots, is_wide, key, makes_address, range_of}
use Rattle.frame_known.specs.Rows.{IsRow, Row, after, after_call, after_other, all_kept, first_of, is_at, is_offset, keeps, knows, made, offset_in, offset_of, over_row, plus, plus_if}
use Rattle.frame_known.proofs.Ranges.{holds_low, holds_some, is_wide_from, key_same, not_constant, range_back, shares_itself, wide_is}
use Rattle.frame_known.proofs.Entries.{is_offset_is, offset_is, offset_map, offset_some}
use Rattle.frame_known.proofs.Below.{entry_below}

-- ---- what a row knows

-- The range is a slot with this offset.
pub record Held (s : Slots) (row : Row) (v : Varnode) (c : ℕ) : Type 0 where
  pub wide : v.size ≡ s.width
  pub low : v.offset < 2 ^ 64
  pub has : IsIn (key v) s.keys.items
  pub entry : offset_in s.keys.items row (key v) ≡ Some c

pub held : (s : Slots) (row : Row) (v : Varnode) (c : ℕ) → knows s row v c ≡ true → Held s row v c
held s row v c h = by (is_wide s.width v) refl h where
  by : (b : Bool)
      → is_wide s.width v ≡ b
      → is_offset (cond b (offset_in s.keys.items row (key v)) None) c ≡ true
      → Held s row v c
  by true e h =
      let w = wide_is s.width v e in
      let f = is_offset_is (offset_in s.keys.items row (key v)) c h in
      record { wide = w.0; low = w.1; has = offset_some s.keys.items row (key v) c f; entry = f }
  by false e h = absurd (cc)

offset_from : (s : Slots) (row : Row) (v : Varnode) (c : ℕ) → Held s row v c → offset_of s row v ≡ Some c
offset_from s row v c h =
    ap (λ b. cond b (offset_in s.keys.items row (key v)) None) (is_wide_from s.width v h.wide h.low) ∙ h.entry

pub knows_from : (s : Slots) (row : Row) (v : Varnode) (c : ℕ) → Held s row v c → knows s row v c ≡ true
knows_from s row v c h = offset_is (offset_of s row v) c (offset_from s row v c h)

-- a range has one offset
pub knows_once : (s : Slots) (row : Row) (v : Varnode) (c d : ℕ)
    → knows s row v c ≡ true
    → knows s row v d ≡ true
    → c ≡ d
knows_once s row v c d h k =
    let a = is_offset_is (offset_of s row v) c h in
    let b = is_offset_is (offset_of s row v) d k in
    let e : Some c ≡ Some d = sym a ∙ b in cc

-- ---- kept bytes

all_kept_each : (keep : List Varnode) (o k : ℕ)
    → all_kept keep o k ≡ true
    → (x : ℕ)
    → o ≤ x
    → x < o + k
    → in_some keep x ≡ true
all_kept_each keep o zero h x low high = absurd (omega (arith, low, high))
all_kept_each keep o (suc k) h x low high =
    let p = and_parts (in_some keep o) (all_kept keep (suc o) k) h in
    let rest = all_kept_each keep (suc o) k p.1 in
    ⊎_elim
    (λ (e : x ≡ o). ap (in_some keep) e ∙ p.0)
    (λ o'. ⊎_elim
    (λ (lt : x < o). absurd (omega (arith, lt, low)))
    (λ (gt : o < x). rest x (omega (arith, gt)) (omega (arith, high)))
    o')
    (cases_order x o)

all_kept_from : (keep : List Varnode) (o k : ℕ)
    → ((x : ℕ) → o ≤ x → x < o + k → in_some keep x ≡ true)
    → all_kept keep o k ≡ true
all_kept_from keep o zero h = refl
all_kept_from keep o (suc k) h =
    and_from (in_some keep o) (all_kept keep (suc o) k) (h o (omega arith) (omega arith))
    (all_kept_from keep (suc o) k (λ x low high. h x (omega (arith, low)) (omega (arith, high))))

-- the range that a number is at
pub at_is : (w : ℕ) (o : Option Varnode) (n : ℕ)
    → is_at w o n ≡ true
    → (u : Varnode) × ((o ≡ Some u) × ((u.size ≡ w) × ((u.offset < 2 ^ 64) × (key u ≡ n))))
at_is w None n h = absurd (cc)
at_is w (Some u) n h =
    let p = and_parts (is_wide w u) (key u == n) h in
    let q = wide_is w u p.0 in
    (u, (refl, (q.0, (q.1, eqb-true (key u) n p.1))))

pub is_at_from : (w : ℕ) (o : Option Varnode) (v : Varnode)
    → o ≡ Some v
    → v.size ≡ w
    → v.offset < 2 ^ 64
    → is_at w o (key v) ≡ true
is_at_from w o v e wide low =
    ap (λ x. is_at w x (key v)) e
    ∙ and_from (is_wide w v) (key v == key v) (is_wide_from w v wide low) (eq-eqb (key v) (key v) refl)

module _ (l : Listing) (read : IsWellFormed l) (s : Slots) (slots : AreSlots l s) (row : Row) (fine : IsRow s row) where
  abbrev k : Known
  k = knows s row

  -- what is known can hold an address
  pub can_from : (r : Row) → IsRow s r → (v : Varnode) (c : ℕ) → Held s r v c → CanHold l v c
  can_from r good v c h =
      let low : c < offsets l =
      subst (λ (m : ℕ). c < m) slots.count (entry_below s.offsets s.keys.items r (key v) c good.below h.entry) in
      let P : Varnode → Type 0 = λ u. CanHold l u c in
      subst P (range_back s.width v h.wide h.low) (slots.held (key v) c h.has low)

  is_held : (v : Varnode) (c : ℕ) → k v c ≡ true → CanHold l v c
  is_held v c h = can_from row fine v c (held s row v c h)

  wide_of : (v : Varnode) (c : ℕ) → CanHold l v c → v.size ≡ s.width
  wide_of v c can = can.wide ∙ (slots.stack can.stack can.is).0

  -- ---- sums

  sum_sound : (base n : Varnode) (c : ℕ)
      → plus_if (is_constant l n) s.offsets (offset_of s row base) n.offset ≡ Some c
      → IsSum l k base n c
  sum_sound base n c h = by (is_constant l n) (offset_of s row base) refl refl h where
    by : (b : Bool) (r : Option ℕ)
        → is_constant l n ≡ b
        → offset_of s row base ≡ r
        → plus_if b s.offsets r n.offset ≡ Some c
        → IsSum l k base n c
    by true None e f h = absurd (cc)
    by true (Some b) e f h =
        let g : c ≡ (b + n.offset) % s.offsets = sym (some_same h) in (
          same_is Constant (kind_of l n.space) e,
          (b, (offset_is (offset_of s row base) b f, g ∙ ap (λ m. (b + n.offset) % m) slots.count)),
        )
    by false r e f h = absurd (cc)

  constant_test : (n : Varnode) → IsConstant l n → is_constant l n ≡ true
  constant_test n e = ap (same_kind Constant) e

  sum_complete : (base n : Varnode) (c : ℕ)
      → IsSum l k base n c
      → plus_if (is_constant l n) s.offsets (offset_of s row base) n.offset ≡ Some c
  sum_complete base n c h =
      let b = h.1.0 in
      let r = is_offset_is (offset_of s row base) b h.1.1.0 in
      ap (λ t. plus_if t s.offsets (offset_of s row base) n.offset) (constant_test n h.0)
      ∙ ap (λ x. plus s.offsets x n.offset) r
      ∙ ap Some (ap (λ m. (b + n.offset) % m) slots.count ∙ sym h.1.1.1)

  difference_sound : (base n : Varnode) (c : ℕ)
      → plus_if (is_constant l n) s.offsets (offset_of s row base) (s.offsets - n.offset) ≡ Some c
      → IsDifference l k base n c
  difference_sound base n c h = by (is_constant l n) (offset_of s row base) refl refl h where
    by : (b : Bool) (r : Option ℕ)
        → is_constant l n ≡ b
        → offset_of s row base ≡ r
        → plus_if b s.offsets r (s.offsets - n.offset) ≡ Some c
        → IsDifference l k base n c
    by true None e f h = absurd (cc)
    by true (Some b) e f h =
        let g : c ≡ (b + (s.offsets - n.offset)) % s.offsets = sym (some_same h) in (
          same_is Constant (kind_of l n.space) e,
          (b, (offset_is (offset_of s row base) b f, g ∙ ap (λ m. (b + (m - n.offset)) % m) slots.count)),
        )
    by false r e f h = absurd (cc)

  difference_complete : (base n : Varnode) (c : ℕ)
      → IsDifference l k base n c
      → plus_if (is_constant l n) s.offsets (offset_of s row base) (s.offsets - n.offset) ≡ Some c
  difference_complete base n c h =
      let b = h.1.0 in
      let r = is_offset_is (offset_of s row base) b h.1.1.0 in
      ap (λ t. plus_if t s.offsets (offset_of s row base) (s.offsets - n.offset)) (constant_test n h.0)
      ∙ ap (λ x. plus s.offsets x (s.offsets - n.offset)) r
      ∙ ap Some (ap (λ m. (b + (m - n.offset)) % m) slots.count ∙ sym h.1.1.1)

  -- ---- what an op makes

  first_sound : (x y : Option ℕ) (c : ℕ) → first_of x y ≡ Some c → (x ≡ Some c) ⊎ (y ≡ Some c)
  first_sound None y c h = inr h
  first_sound (Some d) y c h = inl h

  made_sound : (code : Opcode) (vs : List Varnode) (c : ℕ) → made l s row code vs ≡ Some c → Makes l k code vs c
  made_sound (O.Unary U.Copy) vs c h = offset_is (offset_of s row (varnode_at vs 0)) c h
  made_sound (O.Binary B.Add) vs c h =
      let a = varnode_at vs 0 in
      let b = varnode_at vs 1 in
      ⊎_elim (λ e. inl (sum_sound a b c e)) (λ e. inr (sum_sound b a c e))
      (first_sound (plus_if (is_constant l b) s.offsets (offset_of s row a) b.offset)
      (plus_if (is_constant l a) s.offsets (offset_of s row b) a.offset) c h)
  made_sound (O.Binary B.Subtract) vs c h = difference_sound (varnode_at vs 0) (varnode_at vs 1) c h
  made_sound code vs c h = absurd (cc)

  -- a range that is known isn't constant
  known_constant : (v : Varnode) (b : ℕ) → k v b ≡ true → is_constant l v ≡ false
  known_constant v b h = by (is_constant l v) refl where
    by : (t : Bool) → is_constant l v ≡ t → t ≡ false
    by true e = absurd (not_constant l read v.space (is_held v b h).is_local (same_is Constant (kind_of l v.space) e))
    by false e = refl

  made_complete : (code : Opcode) (vs : List Varnode) (c : ℕ) → Makes l k code vs c → made l s row code vs ≡ Some c
  made_complete (O.Unary U.Copy) vs c h = is_offset_is (offset_of s row (varnode_at vs 0)) c h
  made_complete (O.Binary B.Add) vs c (inl h) =
      let a = varnode_at vs 0 in
      let b = varnode_at vs 1 in
      ap (λ x. first_of x (plus_if (is_constant l a) s.offsets (offset_of s row b) a.offset)) (sum_complete a b c h)
  made_complete (O.Binary B.Add) vs c (inr h) =
      let a = varnode_at vs 0 in
      let b = varnode_at vs 1 in
      let none = known_constant b h.1.0 h.1.1.0 in
      ap (λ t. first_of (plus_if t s.offsets (offset_of s row a) b.offset)
      (plus_if (is_constant l a) s.offsets (offset_of s row b) a.offset)) none
      ∙ sum_complete b a c h
  made_complete (O.Binary B.Subtract) vs c h = difference_complete (varnode_at vs 0) (varnode_at vs 1) c h
  made_complete code vs c h = absurd h

  makes_address_by : (code : Opcode) (vs : List Varnode) (c : ℕ) → Makes l k code vs c → makes_address code ≡ true
  makes_address_by (O.Unary U.Copy) vs c h = refl
  makes_address_by (O.Binary B.Add) vs c h = refl
  makes_address_by (O.Binary B.Subtract) vs c h = refl
  makes_address_by code vs c h = absurd h

  -- ---- over an op that isn't a call

  other_sound : (op : Op) (v : Varnode) (c : ℕ)
      → v.size ≡ s.width
      → v.offset < 2 ^ 64
      → after_other l s row op (key v) ≡ Some c
      → OverOther l k op v c
  other_sound op v c wide low h =
      by (is_at s.width op.out (key v)) (writes op.out (range_of s.width (key v))) refl refl h
    where
      by : (b t : Bool)
          → is_at s.width op.out (key v) ≡ b
          → writes op.out (range_of s.width (key v)) ≡ t
          → cond b (made l s row op.code op.inputs) (cond t None (offset_in s.keys.items row (key v))) ≡ Some c
          → OverOther l k op v c
      by true t e f h =
          let a = at_is s.width op.out (key v) e in
          let same : a.0 ≡ v = key_same a.0 v (a.1.1.0 ∙ sym wide) a.1.1.1.0 low a.1.1.1.1 in
          inr (a.1.0 ∙ ap Some same, made_sound op.code op.inputs c h)
      by false true e f h = absurd (cc)
      by false false e f h =
          let x : Held s row v c =
          record { wide = wide; low = low; has = offset_some s.keys.items row (key v) c h; entry = h } in
          inl (ap (writes op.out) (sym (range_back s.width v wide low)) ∙ f, knows_from s row v c x)

  other_complete : (op : Op) (v : Varnode) (c : ℕ)
      → CanHold l v c
      → OverOther l k op v c
      → after_other l s row op (key v) ≡ Some c
  other_complete op v c can (inl h) =
      let x = held s row v c h.1 in
      let free : writes op.out (range_of s.width (key v)) ≡ false =
      ap (writes op.out) (range_back s.width v x.wide x.low) ∙ h.0 in
      let rest = cond (writes op.out (range_of s.width (key v))) None (offset_in s.keys.items row (key v)) in
      ap (λ b. cond b (made l s row op.code op.inputs) rest) (by (is_at s.width op.out (key v)) refl x)
      ∙ ap (λ b. cond b None (offset_in s.keys.items row (key v))) free
      ∙ x.entry
    where
      by : (b : Bool) → is_at s.width op.out (key v) ≡ b → Held s row v c → b ≡ false
      by true e x =
          let a = at_is s.width op.out (key v) e in
          let same : a.0 ≡ v = key_same a.0 v (a.1.1.0 ∙ sym x.wide) a.1.1.1.0 x.low a.1.1.1.1 in
          let w : writes op.out v ≡ true =
          ap (λ o. writes o v) (a.1.0 ∙ ap Some same)
          ∙ shares_itself v (let g = holds_some l read v c can in omega (arith, g)) in
          sym w ∙ h.0
      by false e x = refl
  other_complete op v c can (inr h) =
      let low = holds_low l read v c can in
      let rest = cond (writes op.out (range_of s.width (key v))) None (offset_in s.keys.items row (key v)) in
      ap (λ b. cond b (made l s row op.code op.inputs) rest)
      (is_at_from s.width op.out v h.0 (wide_of v c can) low)
      ∙ made_complete op.code op.inputs c h.1

  -- ---- over a call

  module _ (p : Proto) (proto : IsProto l.spaces l.stack p) where
    abbrev Stays : Varnode → Type 0
    Stays v = IsKept l p v ⊎ (v.space ≡ unique_space l)

    keeps_sound : (v : Varnode) → keeps l p.keep v ≡ true → Stays v
    keeps_sound v h =
        ⊎_elim
        (λ e. inr (eqb-true v.space (unique_space l) e))
        (λ e.
        let q = and_parts (v.space == register_space l) (all_kept p.keep v.offset v.size) e in
        inl (record {
          register = eqb-true v.space (register_space l) q.0;
          each = all_kept_each p.keep v.offset v.size q.1;
        }))
        (either (v.space == unique_space l) (v.space == register_space l && all_kept p.keep v.offset v.size) h)

    or_left : (a b : Bool) → a ≡ true → or a b ≡ true
    or_left true b e = refl
    or_left false b e = absurd (cc)

    or_right : (a b : Bool) → b ≡ true → or a b ≡ true
    or_right true b e = refl
    or_right false b e = e

    keeps_from : (v : Varnode) → Stays v → keeps l p.keep v ≡ true
    keeps_from v (inl h) =
        or_right (v.space == unique_space l) (v.space == register_space l && all_kept p.keep v.offset v.size)
        (and_from (v.space == register_space l) (all_kept p.keep v.offset v.size)
        (eq-eqb v.space (register_space l) h.register) (all_kept_from p.keep v.offset v.size h.each))
    keeps_from v (inr e) =
        or_left (v.space == unique_space l) (v.space == register_space l && all_kept p.keep v.offset v.size)
        (eq-eqb v.space (unique_space l) e)

    pointer : (sp : Varnode) → l.stack ≡ Some sp → IsStackPointer l.spaces sp
    pointer sp is = let P : Option Varnode → Type 0 = λ o. IfSome o (IsStackPointer l.spaces) in subst P is read.stack

    -- a call keeps no byte of the stack pointer
    stack_moves : (v : Varnode) → l.stack ≡ Some v → Stays v → ⊥
    stack_moves v is (inl h) =
        let some = (pointer v is).some in
        let here : in_range v v.offset ≡ true = grind (arith, nat_tests, some) in
        kept_meets (λ x. IfSome l.stack (ShareNothing x) × IfSome p.gives (ShareNothing x)) v v.offset
        (λ x q. let P : Option Varnode → Type 0 = λ o. IfSome o (ShareNothing x) in subst P is q.0)
        here p.keep proto.kept_apart (h.each v.offset (omega arith) (omega (arith, some)))
    stack_moves v is (inr e) =
        spaces_differ l read v.space (same_is _ (kind_of l v.space) (pointer v is).register.kind) e

    call_sound : (v : Varnode) (c : ℕ)
        → v.size ≡ s.width
        → v.offset < 2 ^ 64
        → after_call l s row p (key v) ≡ Some c
        → OverCall l k p v c
    call_sound v c wide low h =
        by (is_at s.width l.stack (key v)) (keeps l p.keep (range_of s.width (key v)))
        (offset_in s.keys.items row (key v)) refl refl refl h
      where
        by : (b t : Bool) (r : Option ℕ)
            → is_at s.width l.stack (key v) ≡ b
            → keeps l p.keep (range_of s.width (key v)) ≡ t
            → offset_in s.keys.items row (key v) ≡ r
            → cond b (plus s.offsets r p.pop) (cond t r None) ≡ Some c
            → OverCall l k p v c
        by true t None e f g h = absurd (cc)
        by true t (Some b) e f g h =
            let a = at_is s.width l.stack (key v) e in
            let same : a.0 ≡ v = key_same a.0 v (a.1.1.0 ∙ sym wide) a.1.1.1.0 low a.1.1.1.1 in
            let x : Held s row v b =
            record { wide = wide; low = low; has = offset_some s.keys.items row (key v) b g; entry = g } in
            inr (
              a.1.0 ∙ ap Some same,
              (b, (knows_from s row v b x, sym (some_same h) ∙ ap (λ m. (b + p.pop) % m) slots.count)),
            )
        by false true r e f g h =
            let x : Held s row v c =
            record { wide = wide; low = low; has = offset_some s.keys.items row (key v) c (g ∙ h); entry = g ∙ h } in
            inl (keeps_sound v (ap (keeps l p.keep) (sym (range_back s.width v wide low)) ∙ f), knows_from s row v c x)
        by false false r e f g h = absurd (cc)

    call_complete : (v : Varnode) (c : ℕ)
        → CanHold l v c
        → OverCall l k p v c
        → after_call l s row p (key v) ≡ Some c
    call_complete v c can (inl h) =
        let x = held s row v c h.1 in
        let r = offset_in s.keys.items row (key v) in
        let stays : keeps l p.keep (range_of s.width (key v)) ≡ true =
        ap (keeps l p.keep) (range_back s.width v x.wide x.low) ∙ keeps_from v h.0 in
        ap (λ b. cond b (plus s.offsets r p.pop) (cond (keeps l p.keep (range_of s.width (key v))) r None))
        (by (is_at s.width l.stack (key v)) refl x)
        ∙ ap (λ b. cond b r None) stays
        ∙ x.entry
      where
        by : (b : Bool) → is_at s.width l.stack (key v) ≡ b → Held s row v c → b ≡ false
        by true e x =
            let a = at_is s.width l.stack (key v) e in
            let same : a.0 ≡ v = key_same a.0 v (a.1.1.0 ∙ sym x.wide) a.1.1.1.0 x.low a.1.1.1.1 in
            absurd (stack_moves v (a.1.0 ∙ ap Some same) h.0)
        by false e x = refl
    call_complete v c can (inr h) =
        let b = h.1.0 in
        let x = held s row v b h.1.1.0 in
        let r = offset_in s.keys.items row (key v) in
        ap (λ b. cond b (plus s.offsets r p.pop) (cond (keeps l p.keep (range_of s.width (key v))) r None))
        (is_at_from s.width l.stack v h.0 x.wide x.low)
        ∙ ap (λ y. plus s.offsets y p.pop) x.entry
        ∙ ap Some (ap (λ m. (b + p.pop) % m) slots.count ∙ sym h.1.1.1)

  -- ---- over an op

  op_sound : (code : Opcode) (out : Option Varnode) (vs : List Varnode) (v : Varnode) (c : ℕ)
      → v.size ≡ s.width
      → v.offset < 2 ^ 64
      → after l s row (record { code = code; out = out; inputs = vs }) (key v) ≡ Some c
      → OverOp l k (record { code = code; out = out; inputs = vs }) v c
  op_sound O.Call out vs v c wide low h =
      let f = callee_at l (varnode_at vs 0).offset in
      call_sound (proto_of l f) (proto_fine l read f) v c wide low h
  op_sound O.CallInd out vs v c wide low h = call_sound (proto_of l None) (proto_fine l read None) v c wide low h
  op_sound code out vs v c wide low h =
      other_sound (record { code = code; out = out; inputs = vs }) v c wide low h

  op_complete : (code : Opcode) (out : Option Varnode) (vs : List Varnode) (v : Varnode) (c : ℕ)
      → CanHold l v c
      → OverOp l k (record { code = code; out = out; inputs = vs }) v c
      → after l s row (record { code = code; out = out; inputs = vs }) (key v) ≡ Some c
  op_complete O.Call out vs v c can h =
      let f = callee_at l (varnode_at vs 0).offset in
      call_complete (proto_of l f) (proto_fine l read f) v c can h
  op_complete O.CallInd out vs v c can h = call_complete (proto_of l None) (proto_fine l read None) v c can h
  op_complete code out vs v c can h =
      other_complete (record { code = code; out = out; inputs = vs }) v c can h

  -- what an op passes on is in a slot
  call_slot : (p : Proto) (v : Varnode) (c : ℕ) → OverCall l k p v c → IsIn (key v) s.keys.items
  call_slot p v c (inl h) = (held s row v c h.1).has
  call_slot p v c (inr h) = (held s row v h.1.0 h.1.1.0).has

  other_slot : (q : Place) (i : Instruction) (op : Op) (v : Varnode) (c : ℕ)
      → standing l q ≡ Does i op
      → CanHold l v c
      → OverOther l k op v c
      → IsIn (key v) s.keys.items
  other_slot q i op v c is can (inl h) = (held s row v c h.1).has
  other_slot q i op v c is can (inr h) =
      slots.outputs q i op v c is (makes_address_by op.code op.inputs c h.1) h.0 can

  op_slot : (q : Place) (i : Instruction) (code : Opcode) (out : Option Varnode) (vs : List Varnode) (v : Varnode) (c : ℕ)
      → standing l q ≡ Does i (record { code = code; out = out; inputs = vs })
      → CanHold l v c
      → OverOp l k (record { code = code; out = out; inputs = vs }) v c
      → IsIn (key v) s.keys.items
  op_slot q i O.Call out vs v c is can h = call_slot _ v c h
  op_slot q i O.CallInd out vs v c is can h = call_slot _ v c h
  op_slot q i code out vs v c is can h =
      other_slot q i (record { code = code; out = out; inputs = vs }) v c is can h

  -- What a row knows after a place is what the place passes on, and can be held.
  pub over_is : (q : Place) (here : Standing) (v : Varnode) (c : ℕ)
      → IsRow s (over_row l s row here)
      → standing l q ≡ here
      → (here ≡ Nothing → ⊥)
      → (knows s (over_row l s row here) v c ≡ true) ↔ (CanHold l v c × Over l k here v c)
  over_is q Nothing v c good is some = absurd (some refl)
  over_is q (Passes i) v c good is some = (λ h. (is_held v c h, h), λ h. h.1)
  over_is q (Does i op) v c good is some = (
    λ h.
        let x = held s (over_row l s row (Does i op)) v c h in
        let f = after l s row op in (
          can_from (over_row l s row (Does i op)) good v c x,
          op_sound op.code op.out op.inputs v c x.wide x.low
              (sym (offset_map f s.keys.items (key v) x.has) ∙ x.entry),
        ),
    λ h.
        let f = after l s row op in
        let has = op_slot q i op.code op.out op.inputs v c is h.0 h.1 in
        knows_from s (over_row l s row (Does i op)) v c (record {
          wide = wide_of v c h.0;
          low = holds_low l read v c h.0;
          has = has;
          entry = offset_map f s.keys.items (key v) has ∙ op_complete op.code op.out op.inputs v c h.0 h.1;
        }),
  )
