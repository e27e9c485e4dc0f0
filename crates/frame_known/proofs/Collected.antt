-- The collected numbers are the slots of a listing.
use Rattle.std.proofs.Common.{◌≡◌, ℕ, zero, suc, ◌<◌, ◌≤◌, ◌^◌, Bool, true, false, List, [], ◌∷◌, length, get_or, Option, Some, None, IsPermutation, refl, sym, ap, ◌∙◌, subst, inl, inr, ⊎_elim, arith}
use Rattle.std.specs.Prelude.{◌==◌, ◌&&◌, cond}
use Rattle.std.specs.List.{Contains, dedup}
use Rattle.std.specs.List.Sorted.{IsSorted, IsStrictlyIncreasing}
use Rattle.std.specs.Ordering.{nat_cmp}
use Rattle.std.proofs.lemmas.Bool.{and_from, and_parts, eq-eqb, eqb-true}
use Rattle.std.proofs.lemmas.Bool.Decides.{nat_tests}
use Rattle.std.proofs.lemmas.List.Kept.{Contains-dedup_nat, Contains-from_dedup}
use Rattle.std.proofs.lemmas.List.Sorted.{Contains-permutation, IsPermutation-sym}
use Rattle.std.proofs.lemmas.Map.Keys.{IsStrictlyIncreasing-dedup}
use Rattle.pcode_model.specs.declared.listing.Varnode.{Varnode}
use Rattle.pcode_model.specs.declared.listing.Op.{Op}
use Rattle.pcode_model.specs.declared.listing.Place.{Place}
use Rattle.pcode_model.specs.declared.listing.Instruction.{Instruction}
use Rattle.pcode_model.specs.declared.listing.Listing.{Listing}
use Rattle.pcode_model.specs.Spaces.{register_space, unique_space, or}
use Rattle.pcode_model.specs.Ranges.{leaves}
use Rattle.pcode_model.specs.Places.{Does, standing}
use Rattle.pcode_model.specs.Flow.{IsIn}
use Rattle.pcode_model.specs.WellFormed.{IsWellFormed}
use Rattle.pcode_model.specs.Atoms.{IsLocal}
use Rattle.pcode_model.proofs.Members.{behind, in_either, in_front}
use Rattle.pcode_laws.proofs.Rules.{either}
use Rattle.instructions.proofs.Standing.{stands_in}
use Rattle.frame_facts.specs.Facts.{CanHold, offsets}
use Rattle.frame_facts.specs.Accesses.{stack_width, width_in}
use Rattle.frame_known.specs.declared.slots.Slots.{Slots}
use Rattle.frame_known.specs.Slots.{AreSlots, all_keys, can_hold, code_keys, is_local, key, key_in, makes_address, not, op_keys, ops_keys, range_of}
use Rattle.frame_known.proofs.Ranges.{holds_low, key_low, range_back, stack_holds}

-- ---- members

-- a member stands at some number
pub contained : {A : Type 0} (x : A) (xs : List A) → IsIn x xs → Contains xs x
contained x [] h = absurd h
contained x (y ∷ xs) (inl e) = (zero, omega arith, sym e)
contained x (y ∷ xs) (inr h) = let r = contained x xs h in (suc r.0, omega (arith, r.1), r.2)

-- what stands at some number is a member
pub member : {A : Type 0} (x : A) (xs : List A) → Contains xs x → IsIn x xs
member x [] h = absurd (omega (arith, h.1))
member {A = A} x (y ∷ xs) h = by (member x xs) h.0 h.1 h.2 where
  by : (Contains xs x → IsIn x xs) → (k : ℕ) → k < length (y ∷ xs) → get_or (y ∷ xs) k x ≡ x → IsIn x (y ∷ xs)
  by rest zero lt e = inl (sym e)
  by rest (suc k) lt e = inr (rest (k, omega (arith, lt), e))

-- ---- which numbers are collected

module _ (l : Listing) (w : ℕ) where
  -- a number that was collected is that of a range that can hold an address
  record Collected (n : ℕ) : Type 0 where
    range : Varnode
    can : can_hold l w range ≡ true
    is : n ≡ key range

  in_key : (o : Option Varnode) (n : ℕ) → IsIn n (key_in l w o) → Collected n
  in_key None n h = absurd h
  in_key (Some v) n h = by (can_hold l w v) refl h where
    by : (b : Bool) → can_hold l w v ≡ b → IsIn n (cond b (key v ∷ []) []) → Collected n
    by true e (inl f) = record { range = v; can = e; is = f }
    by true e (inr f) = absurd f
    by false e f = absurd f

  in_op : (op : Op) (n : ℕ) → IsIn n (op_keys l w op) → Collected n
  in_op op n h = by (makes_address op.code) h where
    by : (b : Bool) → IsIn n (cond b (key_in l w op.out) []) → Collected n
    by true h = in_key op.out n h
    by false h = absurd h

  in_ops : (ops : List Op) (n : ℕ) → IsIn n (ops_keys l w ops) → Collected n
  in_ops [] n h = absurd h
  in_ops (op ∷ ops) n h =
      ⊎_elim (λ a. in_op op n a) (λ b. in_ops ops n b) (in_either (op_keys l w op) (ops_keys l w ops) n h)

  in_code : (code : List Instruction) (n : ℕ) → IsIn n (code_keys l w code) → Collected n
  in_code [] n h = absurd h
  in_code (i ∷ code) n h =
      ⊎_elim (λ a. in_ops i.ops n a) (λ b. in_code code n b)
      (in_either (ops_keys l w i.ops) (code_keys l w code) n h)

  key_has : (o : Option Varnode) (v : Varnode) → o ≡ Some v → can_hold l w v ≡ true → IsIn (key v) (key_in l w o)
  key_has o v e can =
      let P : Option Varnode → Type 0 = λ x. IsIn (key v) (key_in l w x) in
      let Q : Bool → Type 0 = λ b. IsIn (key v) (cond b (key v ∷ []) []) in
      subst P (sym e) (subst Q (sym can) (inl refl))

  op_has : (op : Op) (v : Varnode)
      → makes_address op.code ≡ true
      → op.out ≡ Some v
      → can_hold l w v ≡ true
      → IsIn (key v) (op_keys l w op)
  op_has op v makes e can =
      let Q : Bool → Type 0 = λ b. IsIn (key v) (cond b (key_in l w op.out) []) in
      subst Q (sym makes) (key_has op.out v e can)

  ops_have : (ops : List Op) (op : Op) (n : ℕ) → IsIn op ops → IsIn n (op_keys l w op) → IsIn n (ops_keys l w ops)
  ops_have [] op n is h = absurd is
  ops_have (x ∷ ops) op n (inl e) h =
      let P : Op → Type 0 = λ y. IsIn n (op_keys l w y) in
      in_front (op_keys l w x) (ops_keys l w ops) n (subst P e h)
  ops_have (x ∷ ops) op n (inr is) h =
      behind (op_keys l w x) (ops_keys l w ops) n (ops_have ops op n is h)

  code_has : (code : List Instruction) (i : Instruction) (n : ℕ)
      → IsIn i code
      → IsIn n (ops_keys l w i.ops)
      → IsIn n (code_keys l w code)
  code_has [] i n is h = absurd is
  code_has (x ∷ code) i n (inl e) h =
      let P : Instruction → Type 0 = λ y. IsIn n (ops_keys l w y.ops) in
      in_front (ops_keys l w x.ops) (code_keys l w code) n (subst P e h)
  code_has (x ∷ code) i n (inr is) h =
      behind (ops_keys l w x.ops) (code_keys l w code) n (code_has code i n is h)

-- ---- the slots

local_is : (l : Listing) (s : ℕ) → is_local l s ≡ true → IsLocal l s
local_is l s h =
    ⊎_elim (λ e. inl (eqb-true s (register_space l) e)) (λ e. inr (eqb-true s (unique_space l) e))
    (either (s == register_space l) (s == unique_space l) h)

local_from : (l : Listing) (s : ℕ) → IsLocal l s → is_local l s ≡ true
local_from l s (inl e) = ap (λ b. or b (s == unique_space l)) (eq-eqb s (register_space l) e)
local_from l s (inr e) = by (s == register_space l) where
  by : (b : Bool) → or b (s == unique_space l) ≡ true
  by true = refl
  by false = eq-eqb s (unique_space l) e

not_is : (b : Bool) → not b ≡ true → b ≡ false
not_is true h = absurd (cc)
not_is false h = refl

module _ (l : Listing) (read : IsWellFormed l) (sp : Varnode) (is : l.stack ≡ Some sp) where
  can_is : (v : Varnode) (c : ℕ) → can_hold l sp.size v ≡ true → c < offsets l → CanHold l v c
  can_is v c h low =
      let p = and_parts (v.size == sp.size)
      (is_local l v.space && not (leaves l.spaces v.space v.offset v.size)) h in
      let q = and_parts (is_local l v.space) (not (leaves l.spaces v.space v.offset v.size)) p.1 in
      let stays : leaves l.spaces v.space v.offset v.size ≡ false = not_is _ q.1 in
      record {
        stack = sp;
        is = is;
        wide = eqb-true v.size sp.size p.0;
        is_local = local_is l v.space q.0;
        inside = grind (arith, nat_tests);
        below = low;
      }

  can_from : (v : Varnode) (c : ℕ) → CanHold l v c → can_hold l sp.size v ≡ true
  can_from v c can =
      let same : can.stack ≡ sp = let e : Some can.stack ≡ Some sp = sym can.is ∙ is in cc in
      let wide : v.size ≡ sp.size = can.wide ∙ ap (λ x. x.size) same in
      let inside = can.inside in
      let stays : leaves l.spaces v.space v.offset v.size ≡ false = grind (arith, nat_tests, inside) in
      and_from (v.size == sp.size) (is_local l v.space && not (leaves l.spaces v.space v.offset v.size))
      (eq-eqb v.size sp.size wide)
      (and_from (is_local l v.space) (not (leaves l.spaces v.space v.offset v.size)) (local_from l v.space can.is_local)
      (ap not stays))

  -- each collected number is that of a range that can hold an address
  collected_holds : (n c : ℕ)
      → IsIn n (all_keys l (Some sp))
      → c < offsets l
      → (v : Varnode) × ((n ≡ key v) × ((v.size ≡ sp.size) × CanHold l v c))
  collected_holds n c (inl e) low = (sp, (e, (refl, stack_holds l read sp c is low)))
  collected_holds n c (inr h) low =
      let x = in_code l sp.size l.code n h in
      let can = can_is x.range c x.can low in
      let same : can.stack ≡ sp = let e : Some can.stack ≡ Some sp = sym can.is ∙ is in cc in
      (x.range, (x.is, (can.wide ∙ ap (λ y. y.size) same, can)))

  range_holds : (n c : ℕ) → IsIn n (all_keys l (Some sp)) → c < offsets l → CanHold l (range_of sp.size n) c
  range_holds n c h low =
      let x = collected_holds n c h low in
      let can = x.1.1.1 in
      let back : range_of sp.size n ≡ x.0 =
      ap (range_of sp.size) x.1.0 ∙ range_back sp.size x.0 x.1.1.0 (holds_low l read x.0 c can) in
      let P : Varnode → Type 0 = λ u. CanHold l u c in subst P (sym back) can

  range_low : (n c : ℕ) → IsIn n (all_keys l (Some sp)) → c < offsets l → n < 2 ^ 72
  range_low n c h low =
      let x = collected_holds n c h low in
      omega (arith, x.1.0, key_low l read x.0 c x.1.1.1)

  output_has : (p : Place) (i : Instruction) (op : Op) (v : Varnode) (c : ℕ)
      → standing l p ≡ Does i op
      → makes_address op.code ≡ true
      → op.out ≡ Some v
      → CanHold l v c
      → IsIn (key v) (all_keys l (Some sp))
  output_has p i op v c here makes e can =
      let s = stands_in l p i op here in
      inr (code_has l sp.size l.code i (key v) s.code_has
      (ops_have l sp.size i.ops op (key v) s.ops_have
      (op_has l sp.size op v makes e (can_from v c can))))

pub are_slots : (l : Listing)
    → IsWellFormed l
    → (s : Slots) (all sorted : List ℕ)
    → s.width ≡ stack_width l
    → s.offsets ≡ offsets l
    → 0 < s.offsets
    → s.offsets ≤ 2 ^ 64
    → all ≡ all_keys l l.stack
    → IsPermutation all sorted
    → IsSorted nat_cmp sorted
    → s.keys.items ≡ dedup ◌==◌ sorted
    → AreSlots l s
are_slots l read s all sorted wide count some few is moved up kept = record {
  rising = subst (λ xs. IsStrictlyIncreasing xs) (sym kept) (IsStrictlyIncreasing-dedup sorted up);
  count = count;
  some = some;
  few = few;
  low = λ n h. by_stack n (λ sp e. range_low l read sp e n 0 (subst (λ o. IsIn n (all_keys l o)) e (back n h)) positive)
      (back n h);
  held = λ n c h low. by_stack n
      (λ sp e.
      let at : range_of sp.size n ≡ range_of s.width n = ap (λ k. range_of k n) (sym (wide_of sp e)) in
      subst (λ v. CanHold l v c) at
      (range_holds l read sp e n c (subst (λ o. IsIn n (all_keys l o)) e (back n h)) low))
      (back n h);
  stack = λ sp e. (sym (wide_of sp e), onto (key sp) (subst (λ o. IsIn (key sp) (all_keys l o)) (sym e) (inl refl)));
  outputs = λ p i op v c here makes e can.
      onto (key v) (subst (λ o. IsIn (key v) (all_keys l o)) (sym can.is)
      (output_has l read can.stack can.is p i op v c here makes e can));
}
  where
    positive : 0 < offsets l
    positive = omega (arith, some, count)

    wide_of : (sp : Varnode) → l.stack ≡ Some sp → s.width ≡ sp.size
    wide_of sp e = wide ∙ ap width_in e

    back : (n : ℕ) → IsIn n s.keys.items → IsIn n (all_keys l l.stack)
    back n h =
        let a : IsIn n (dedup ◌==◌ sorted) = subst (λ xs. IsIn n xs) kept h in
        let b = Contains-from_dedup ◌==◌ sorted n (contained n (dedup ◌==◌ sorted) a) in
        let c = Contains-permutation sorted all n (IsPermutation-sym all sorted moved) b in
        subst (λ xs. IsIn n xs) is (member n all c)

    onto : (n : ℕ) → IsIn n (all_keys l l.stack) → IsIn n s.keys.items
    onto n h =
        let a : IsIn n all = subst (λ xs. IsIn n xs) (sym is) h in
        let b = Contains-permutation all sorted n moved (contained n all a) in
        subst (λ xs. IsIn n xs) (sym kept) (member n (dedup ◌==◌ sorted) (Contains-dedup_nat sorted n b))

    by_stack : {P : Type 0} (n : ℕ) → ((sp : Varnode) → l.stack ≡ Some sp → P) → IsIn n (all_keys l l.stack) → P
    by_stack {P} n f h = by l.stack refl h where
      by : (o : Option Varnode) → l.stack ≡ o → IsIn n (all_keys l o) → P
      by None e h = absurd h
      by (Some sp) e h = f sp e
