-- Slices that end at one place and have equally many ops are one slice.
use Rattle.std.proofs.Common.{◌≡◌, ℕ, zero, suc, ◌+◌, ◌<◌, Bool, true, false, List, [], ◌∷◌, ◌++◌, length, Option, Some, None, refl, sym, ap, ◌∙◌, subst, ◌⊎◌, inl, inr, ⊎_elim, arith}
use Rattle.std.specs.Prelude.{cond, nat_lt, slice_get}
use Rattle.std.proofs.lemmas.Bool.Decides.{nat_tests}
use Rattle.std.proofs.lemmas.Bool.{cases_order}
use Rattle.std.proofs.lemmas.List.{append-nil, append_assoc}
use Rattle.std.proofs.lemmas.Option.{slice_get_within, same_Some}
use Rattle.pcode_model.specs.declared.listing.Instruction.{Instruction}
use Rattle.pcode_model.specs.declared.listing.Op.{Op}
use Rattle.pcode_model.specs.declared.listing.Place.{Place}
use Rattle.pcode_model.specs.declared.listing.Listing.{Listing}
use Rattle.pcode_model.specs.Places.{instruction_in, op_in, place, standing, standing_in, standing_of}
use Rattle.pcode_model.specs.Flow.{AreApart, IsIn, next_in, ops_in}
use Rattle.pcode_model.proofs.Members.{same_place}
use Rattle.instructions.proofs.Apart.{apart_in, apart_rest, found_in, long}
use Rattle.table_form.specs.Slices.{Follow, IsSlice, first_of, length_of, ops_over}

-- ---- a place has one place before it

long_in : (code : List Instruction) → AreApart code → (j : Instruction) → IsIn j code → 0 < j.length
long_in [] a j h = absurd h
long_in (x ∷ code) a j (inl e) = let P : Instruction → Type 0 = λ y. 0 < y.length in subst P (sym e) (long x code a)
long_in (x ∷ code) a j (inr h) = long_in code (apart_rest x code a) j h

-- the next op of one instruction
pub record IsInside (p q : Place) : Type 0 where
  pub address : q.address ≡ p.address
  pub index : q.index ≡ suc p.index

-- from the last op of an instruction, or from one without ops, to the next one
pub record IsOver (i : Instruction) (p q : Place) : Type 0 where
  pub address : q.address ≡ i.address + i.length
  pub index : q.index ≡ 0
  pub is_last : (suc p.index ≡ length i.ops) ⊎ ((p.index ≡ 0) × (length i.ops ≡ 0))

pub record Steps (l : Listing) (p q : Place) : Type 0 where
  pub instruction : Instruction
  pub found : instruction_in l.code p.address ≡ Some instruction
  pub how : IsInside p q ⊎ IsOver instruction p q

module _ (l : Listing) (p q : Place) (i : Instruction) (found : instruction_in l.code p.address ≡ Some i) where
  by_next : (b : Bool)
      → nat_lt (suc p.index) (length i.ops) ≡ b
      → p.index < length i.ops
      → cond b (place i.address (suc p.index)) (place (i.address + i.length) 0) ≡ q
      → IsInside p q ⊎ IsOver i p q
  by_next true e low h =
      let same : i.address ≡ p.address = (found_in l.code p.address i found).1 in
      inl (record { address = ap (λ (r : Place). r.address) (sym h) ∙ same; index = ap (λ (r : Place). r.index) (sym h) })
  by_next false e low h =
      let last : suc p.index ≡ length i.ops = grind (arith, nat_tests) in
      inr (record { address = ap (λ (r : Place). r.address) (sym h); index = ap (λ (r : Place). r.index) (sym h); is_last = inl last })

  by_op : (o : Option Op)
      → slice_get i.ops p.index ≡ o
      → next_in (op_in i o) p.index ≡ Some q
      → IsInside p q ⊎ IsOver i p q
  by_op None e h = absurd (cc)
  by_op (Some op) e h =
      by_next (nat_lt (suc p.index) (length i.ops)) refl (slice_get_within i.ops p.index op e) (same_Some _ _ h)

  by_ops : (ops : List Op) (n : ℕ)
      → i.ops ≡ ops
      → p.index ≡ n
      → next_in (standing_in i ops n) p.index ≡ Some q
      → IsInside p q ⊎ IsOver i p q
  by_ops [] zero e f h =
      let same : place (i.address + i.length) 0 ≡ q = same_Some _ _ h in
      inr (record { address = ap (λ (r : Place). r.address) (sym same); index = ap (λ (r : Place). r.index) (sym same); is_last = inr (f, ap length e) })
  by_ops [] (suc n) e f h = absurd (cc)
  by_ops (op ∷ ops) n e f h =
      by_op (slice_get (op ∷ ops) n) (ap (λ xs. slice_get xs p.index) e ∙ ap (slice_get (op ∷ ops)) f) h

steps_of : (l : Listing) (p q : Place) (o : Option Instruction)
    → instruction_in l.code p.address ≡ o
    → next_in (standing_of o p.index) p.index ≡ Some q
    → Steps l p q
steps_of l p q None e h = absurd (cc)
steps_of l p q (Some i) e h = record { instruction = i; found = e; how = by_ops l p q i e i.ops p.index refl refl h }

module _ (l : Listing) (apart : AreApart l.code) where
  same_index : (a b m n : ℕ) → m ≡ n → (suc a ≡ m) ⊎ ((a ≡ 0) × (m ≡ 0)) → (suc b ≡ n) ⊎ ((b ≡ 0) × (n ≡ 0)) → a ≡ b
  same_index a b m n many (inl e) (inl f) = omega arith
  same_index a b m n many (inl e) (inr f) = absurd (omega (arith, f.1))
  same_index a b m n many (inr e) (inl f) = absurd (omega (arith, e.1))
  same_index a b m n many (inr e) (inr f) = e.0 ∙ sym f.0

  same_over : (p r q : Place) (i j : Instruction)
      → instruction_in l.code p.address ≡ Some i
      → instruction_in l.code r.address ≡ Some j
      → IsOver i p q
      → IsOver j r q
      → p ≡ r
  same_over p r q i j found other x y =
      let f = found_in l.code p.address i found in
      let g = found_in l.code r.address j other in
      let ends : i.address + i.length ≡ j.address + j.length = sym x.address ∙ y.address in
      ⊎_elim
      (λ (e : i.address ≡ j.address).
      let at : p.address ≡ r.address = sym f.1 ∙ e ∙ g.1 in
      let same : i ≡ j = same_Some _ _ (sym found ∙ ap (instruction_in l.code) at ∙ other) in
      let many : length i.ops ≡ length j.ops = ap (λ (z : Instruction). length z.ops) same in
      same_place p r at (same_index p.index r.index (length i.ops) (length j.ops) many x.is_last y.is_last))
      (λ side. ⊎_elim
      (λ (lt : i.address < j.address). absurd (omega (arith, apart_in l.code apart i j f.0 g.0 lt, long_in l.code apart j g.0)))
      (λ (gt : j.address < i.address). absurd (omega (arith, apart_in l.code apart j i g.0 f.0 gt, long_in l.code apart i f.0)))
      side)
      (cases_order i.address j.address)

  same_how : (p r q : Place) (i j : Instruction)
      → instruction_in l.code p.address ≡ Some i
      → instruction_in l.code r.address ≡ Some j
      → IsInside p q ⊎ IsOver i p q
      → IsInside r q ⊎ IsOver j r q
      → p ≡ r
  same_how p r q i j found other (inl x) (inl y) =
      same_place p r (sym x.address ∙ y.address) (omega (arith, x.index, y.index))
  same_how p r q i j found other (inl x) (inr y) = absurd (omega (arith, x.index, y.index))
  same_how p r q i j found other (inr x) (inl y) = absurd (omega (arith, x.index, y.index))
  same_how p r q i j found other (inr x) (inr y) = same_over p r q i j found other x y

  -- two places that one place follows are one place
  pub same_before : (p r q : Place)
      → next_in (standing l p) p.index ≡ Some q
      → next_in (standing l r) r.index ≡ Some q
      → p ≡ r
  same_before p r q h k =
      let x = steps_of l p q (instruction_in l.code p.address) refl h in
      let y = steps_of l r q (instruction_in l.code r.address) refl k in
      same_how p r q x.instruction y.instruction x.found y.found x.how y.how

-- ---- slices

-- the first list is the end of the second
pub record IsEndOf (xs ys : List Place) : Type 0 where
  pub ahead : List Place
  pub is : ys ≡ ahead ++ xs

-- a list is empty or has a last item
pub data Last (xs : List Place) : Type 0 where
  Empty : xs ≡ [] → Last xs
  Ends : (before : List Place) (p : Place) → xs ≡ before ++ p ∷ [] → Last xs

last_of : (xs : List Place) → Last xs
last_of [] = Empty refl
last_of (x ∷ xs) = by (last_of xs)
  where
    by : Last xs → Last (x ∷ xs)
    by (Empty e) = Ends [] x (ap (λ ys. x ∷ ys) e)
    by (Ends before p e) = Ends (x ∷ before) p (ap (λ ys. x ∷ ys) e)

follow_at : (l : Listing) (end : Place) (before : List Place) (p : Place) (rest : List Place)
    → Follow l (before ++ p ∷ rest) end
    → next_in (standing l p) p.index ≡ Some (first_of rest end)
follow_at l end [] p rest f = f.0
follow_at l end (q ∷ before) p rest f = follow_at l end before p rest f.1.1

module _ (l : Listing) (apart : AreApart l.code) (end : Place) where
  -- of two lists of places that follow one another to one end, one is the end of the other
  one_ends : (xs ys : List Place) → Follow l xs end → Follow l ys end → IsEndOf xs ys ⊎ IsEndOf ys xs
  one_ends [] ys f g = inl (record { ahead = ys; is = sym (append-nil ys) })
  one_ends (p ∷ xs) ys f g = by (one_ends xs ys f.1.1 g)
    where
      longer : (e : IsEndOf xs ys) → Last e.ahead → IsEndOf (p ∷ xs) ys ⊎ IsEndOf ys (p ∷ xs)
      longer e (Empty none) =
          let same : ys ≡ xs = e.is ∙ ap (λ zs. zs ++ xs) none in
          inr (record { ahead = p ∷ []; is = ap (λ zs. p ∷ zs) (sym same) })
      longer e (Ends before r is) =
          let split : ys ≡ before ++ r ∷ xs = e.is ∙ ap (λ zs. zs ++ xs) is ∙ append_assoc before (r ∷ []) xs in
          let follows = follow_at l end before r xs (subst (λ zs. Follow l zs end) split g) in
          let same : r ≡ p = same_before l apart r p (first_of xs end) follows f.0 in
          inl (record { ahead = before; is = split ∙ ap (λ z. before ++ z ∷ xs) same })

      by : IsEndOf xs ys ⊎ IsEndOf ys xs → IsEndOf (p ∷ xs) ys ⊎ IsEndOf ys (p ∷ xs)
      by (inl e) = longer e (last_of e.ahead)
      by (inr e) = inr (record { ahead = p ∷ e.ahead; is = ap (λ zs. p ∷ zs) e.is })

  ops_both : (xs ys : List Place) → ops_over l (xs ++ ys) ≡ ops_over l xs + ops_over l ys
  ops_both [] ys = omega arith
  ops_both (p ∷ xs) ys = omega (arith, ops_both xs ys)

  no_more : (xs ys : List Place)
      → IsSlice l end ys
      → (ahead : List Place)
      → ys ≡ ahead ++ xs
      → ops_over l xs ≡ ops_over l ys
      → xs ≡ ys
  no_more xs ys s [] e many = sym e
  no_more xs ys s (p ∷ ahead) e many =
      let first : ops_in (standing l p) ≡ 1 = ap (λ zs. ops_in (standing l (first_of zs end))) (sym e) ∙ s.begins in
      let all : ops_over l ys ≡ ops_in (standing l p) + (ops_over l ahead + ops_over l xs) =
      ap (ops_over l) e ∙ ap (λ n. ops_in (standing l p) + n) (ops_both ahead xs) in
      absurd (omega arith)

  -- two slices that end at one place and have equally many ops are one slice
  pub one_slice : (xs ys : List Place)
      → IsSlice l end xs
      → IsSlice l end ys
      → length_of l xs ≡ length_of l ys
      → xs ≡ ys
  one_slice xs ys s t many = ⊎_elim
      (λ e. no_more xs ys t e.ahead e.is (omega arith))
      (λ e. sym (no_more ys xs s e.ahead e.is (omega arith)))
      (one_ends xs ys s.follow t.follow)
