-- The accesses that are found are those of the frame, in their order.
use Rattle.std.proofs.Common.{◌≡◌, ◌<◌, ◌≤◌, ◌+◌, ◌%◌, ℕ, suc, Bool, true, false, List, [], ◌∷◌, Option, Some, None, refl, sym, ap, ◌∙◌, subst, inl, inr, ⊎_elim, arith}
use Rattle.std.specs.Prelude.{cond, ℤ, ◌≤ℤ◌, int_le}
use Rattle.std.proofs.lemmas.Bool.{and_from, and_parts}
use Rattle.std.proofs.lemmas.Int.{ints}
use Rattle.pcode_model.specs.declared.listing.Place.{Place}
use Rattle.pcode_model.specs.declared.listing.Op.{Op}
use Rattle.pcode_model.specs.declared.listing.Storage.{Storage}
use Rattle.pcode_model.specs.declared.listing.Storage.TheVariants.{At, Stack}
use Rattle.pcode_model.specs.declared.listing.Varnode.{Varnode}
use Rattle.pcode_model.specs.declared.listing.Listing.{Listing}
use Rattle.pcode_model.specs.declared.opcode.Opcode.{Opcode}
use Rattle.pcode_model.specs.declared.opcode.Opcode.TheVariants as O
use Rattle.pcode_model.specs.declared.flow.Block.{Block}
use Rattle.pcode_model.specs.declared.frame.FrameAccess.{FrameAccess}
use Rattle.pcode_model.specs.Places.{Standing, Nothing, Passes, Does, standing}
use Rattle.pcode_model.specs.Flow.{IsFlow, IsIn}
use Rattle.pcode_model.specs.Step.{arguments, call_operands, callee_at, indirect_operands, proto_of, size_out, varnode_at}
use Rattle.pcode_model.proofs.Members.{behind, in_either, in_front}
use Rattle.frame_facts.specs.Facts.{offsets}
use Rattle.frame_facts.specs.Escapes.{is_of_memory}
use Rattle.frame_facts.specs.Accesses.{IsFrameAccess, IsWithinLimits, Reach, reach, reaches, signed_offset, stack_reaches}
use Rattle.frame_facts.specs.Listed.{IsAccessBefore, Lists}
use Rattle.frame_known.specs.declared.slots.Slots.{Slots}
use Rattle.frame_known.specs.Rows.{Row, offset_of}
use Rattle.frame_known.specs.Known.{AreRows}
use Rattle.frames.specs.Walk.{access, access_in, accesses_at, accesses_found, accesses_in, accesses_of, along_from, is_near}
use Rattle.frames.proofs.Places.{fact_of, known_of, place_of, reached_of}
use Rattle.frames.proofs.Sorted.{AreSorted, blocks_sorted, both_sorted, from_own, from_sorted, in_order, places_sorted}
use Rattle.frames.proofs.Walk.{IsPlaceOf, found_back, found_to}

-- ---- limits

int_at_most : (x y : ℤ) → int_le x y ≡ true → x ≤ℤ y
int_at_most x y h = grind (arith, ints)

int_is_le : (x y : ℤ) → x ≤ℤ y → int_le x y ≡ true
int_is_le x y h = grind (arith, ints)

near_within : (l : Listing) (o : ℤ) → is_near l o ≡ true → IsWithinLimits l o
near_within l o h =
    let both = and_parts _ _ h in
    (int_at_most _ o both.0, int_at_most o _ both.1)

within_near : (l : Listing) (o : ℤ) → IsWithinLimits l o → is_near l o ≡ true
within_near l o h = and_from _ _ (int_is_le _ o h.0) (int_is_le o _ h.1)

-- ---- at one place

module _ (l : Listing) (s : Slots) (row : Row) (p : Place) (a : FrameAccess) where
  abbrev offset_at : Reach → ℕ → ℤ
  offset_at r c = signed_offset l ((c + r.above) % offsets l)

  -- of one way to reach memory
  record IsReached (r : Reach) : Type 0 where
    offset : ℕ
    known : offset_of s row r.base ≡ Some offset
    near : is_near l (offset_at r offset) ≡ true
    is : a ≡ access p r (offset_at r offset)

  of_test : (b : Bool) (x : FrameAccess) → IsIn a (cond b (x ∷ []) []) → (b ≡ true) × (a ≡ x)
  of_test true x (inl same) = (refl, same)
  of_test true x (inr h) = absurd h
  of_test false x h = absurd h

  in_one : (r : Reach) (o : Option ℕ) → offset_of s row r.base ≡ o → IsIn a (access_in l p r o) → IsReached r
  in_one r None e h = absurd h
  in_one r (Some c) e h =
      let t = of_test (is_near l (offset_at r c)) (access p r (offset_at r c)) h in
      record { offset = c; known = e; near = t.0; is = t.1 }

  in_back : (r : Reach) (c : ℕ)
      → offset_of s row r.base ≡ Some c
      → is_near l (offset_at r c) ≡ true
      → a ≡ access p r (offset_at r c)
      → IsIn a (access_in l p r (offset_of s row r.base))
  in_back r c known near is =
      let R : Option ℕ → Type 0 = λ o. IsIn a (access_in l p r o) in
      let B : Bool → Type 0 = λ b. IsIn a (cond b (access p r (offset_at r c) ∷ []) []) in
      subst R (sym known) (subst B (sym near) (inl is))

  of_to : (rs : List Reach) → IsIn a (accesses_of l s row p rs) → (r : Reach) × (IsIn r rs × IsReached r)
  of_to [] h = absurd h
  of_to (r ∷ rs) h = ⊎_elim
      (λ (here : IsIn a (access_in l p r (offset_of s row r.base))).
      (r, (inl refl, in_one r (offset_of s row r.base) refl here)))
      (λ (later : IsIn a (accesses_of l s row p rs)). let q = of_to rs later in (q.0, (inr q.1.0, q.1.1)))
      (in_either (access_in l p r (offset_of s row r.base)) (accesses_of l s row p rs) a h)

  of_back : (rs : List Reach) (r : Reach) (c : ℕ)
      → IsIn r rs
      → offset_of s row r.base ≡ Some c
      → is_near l (offset_at r c) ≡ true
      → a ≡ access p r (offset_at r c)
      → IsIn a (accesses_of l s row p rs)
  of_back [] r c h known near is = absurd h
  of_back (q ∷ rs) r c (inl same) known near is =
      let P : Reach → Type 0 = λ x. IsIn a (access_in l p x (offset_of s row x.base)) in
      in_front (access_in l p q (offset_of s row q.base)) (accesses_of l s row p rs) a
      (subst P same (in_back r c known near is))
  of_back (q ∷ rs) r c (inr later) known near is =
      behind (access_in l p q (offset_of s row q.base)) (accesses_of l s row p rs) a
      (of_back rs r c later known near is)

-- ---- numbers of accesses at one place

abbrev IsLower : Reach → Reach → Type 0
IsLower r q = r.number < q.number

stack_from : (sp : Varnode) (args : List Storage) (n : ℕ) (r : Reach)
    → IsIn r (stack_reaches (Some sp) (arguments n args))
    → n ≤ r.number
stack_from sp [] n r h = absurd h
stack_from sp (At v ∷ args) n r h = omega (arith, stack_from sp args (suc n) r h)
stack_from sp (Stack o k ∷ args) n r (inl same) =
    let is : r.number ≡ n = ap (λ (x : Reach). x.number) same in omega (arith, is)
stack_from sp (Stack o k ∷ args) n r (inr h) = omega (arith, stack_from sp args (suc n) r h)

stack_sorted : (sp : Varnode) (args : List Storage) (n : ℕ)
    → AreSorted IsLower (stack_reaches (Some sp) (arguments n args))
stack_sorted sp [] n = tt
stack_sorted sp (At v ∷ args) n = stack_sorted sp args (suc n)
stack_sorted sp (Stack o k ∷ args) n = (λ r h. stack_from sp args (suc n) r h, stack_sorted sp args (suc n))

call_sorted : (st : Option Varnode) (l : Listing) (vs : List Varnode)
    → AreSorted IsLower (stack_reaches st (call_operands l vs))
call_sorted None l vs = tt
call_sorted (Some sp) l [] = tt
call_sorted (Some sp) l (to ∷ vs) = stack_sorted sp (proto_of l (callee_at l to.offset)).args 0

indirect_sorted : (st : Option Varnode) (l : Listing) (vs : List Varnode)
    → AreSorted IsLower (stack_reaches st (indirect_operands l vs))
indirect_sorted None l vs = tt
indirect_sorted (Some sp) l [] = tt
indirect_sorted (Some sp) l (to ∷ vs) = stack_sorted sp (proto_of l None).args 0

memory_sorted : (b : Bool) (r : Reach) → AreSorted IsLower (cond b (r ∷ []) [])
memory_sorted true r = (λ q h. absurd h, tt)
memory_sorted false r = tt

reaches_sorted : (l : Listing) (code : Opcode) (out : Option Varnode) (vs : List Varnode)
    → (let op : Op = record { code = code; out = out; inputs = vs } in AreSorted IsLower (reaches l op))
reaches_sorted l O.Load out vs = memory_sorted (is_of_memory l vs) (reach 0 (varnode_at vs 1) 0 (size_out out))
reaches_sorted l O.Store out vs =
    memory_sorted (is_of_memory l vs) (reach 0 (varnode_at vs 1) 0 (varnode_at vs 2).size)
reaches_sorted l O.Call out vs = call_sorted l.stack l vs
reaches_sorted l O.CallInd out vs = indirect_sorted l.stack l vs
reaches_sorted l code out vs = tt

module _ (l : Listing) (s : Slots) (row : Row) (p : Place) where
  one_sorted : (r : Reach) (o : Option ℕ) → AreSorted IsAccessBefore (access_in l p r o)
  one_sorted r None = tt
  one_sorted r (Some c) = by (is_near l (signed_offset l ((c + r.above) % offsets l)))
    where
      by : (b : Bool)
          → AreSorted IsAccessBefore (cond b (access p r (signed_offset l ((c + r.above) % offsets l)) ∷ []) [])
      by true = (λ q h. absurd h, tt)
      by false = tt

  of_sorted : (rs : List Reach) → AreSorted IsLower rs → AreSorted IsAccessBefore (accesses_of l s row p rs)
  of_sorted [] up = tt
  of_sorted (r ∷ rs) up =
      both_sorted IsAccessBefore (access_in l p r (offset_of s row r.base)) (accesses_of l s row p rs)
      (one_sorted r (offset_of s row r.base)) (of_sorted rs up.1)
      (λ a b x y.
      let f = in_one l s row p a r (offset_of s row r.base) refl x in
      let g = of_to l s row p b rs y in
      let less = up.0 g.0 g.1.0 in
      let first : a.argument ≡ r.number = ap (λ (z : FrameAccess). z.argument) f.is in
      let second : b.argument ≡ (g.0).number = ap (λ (z : FrameAccess). z.argument) g.1.1.is in
      inr (
        ap (λ (z : FrameAccess). z.place) f.is ∙ sym (ap (λ (z : FrameAccess). z.place) g.1.1.is),
        omega (arith, less, first, second),
      ))

  in_sorted : (here : Standing) → AreSorted IsAccessBefore (accesses_in l s row p here)
  in_sorted Nothing = tt
  in_sorted (Passes i) = tt
  in_sorted (Does i op) = of_sorted (reaches l op) (reaches_sorted l op.code op.out op.inputs)

  in_place : (here : Standing) (a : FrameAccess) → IsIn a (accesses_in l s row p here) → a.place ≡ p
  in_place Nothing a h = absurd h
  in_place (Passes i) a h = absurd h
  in_place (Does i op) a h =
      let f = of_to l s row p a (reaches l op) h in ap (λ (z : FrameAccess). z.place) f.1.1.is

-- ---- all

module _
    (l : Listing)
    (blocks : List Block)
    (s : Slots)
    (rows : List (Option Row))
    (are : AreRows l blocks s rows)
    (flow : IsFlow l [] blocks)
  where
    in_to : (p : Place) (r : Row) (here : Standing) (a : FrameAccess)
        → standing l p ≡ here
        → IsPlaceOf l s rows blocks p r
        → IsIn a (accesses_in l s r p here)
        → IsFrameAccess l [] [] a
    in_to p r Nothing a stands at h = absurd h
    in_to p r (Passes i) a stands at h = absurd h
    in_to p r (Does i op) a stands at h =
        let f = of_to l s r p a (reaches l op) h in
        let by = f.0 in
        let t = f.1.1 in
        let o = offset_at l s r p a by t.offset in
        let there : IsFrameAccess l [] [] (access p by o) = record {
          reached = reached_of l blocks s rows are flow p r at;
          instruction = i;
          op = op;
          does = stands;
          by = by;
          is_by = f.1.0;
          number = refl;
          size = refl;
          base = t.offset;
          fact = fact_of l blocks s rows are flow p r by.base t.offset at t.known;
          offset = refl;
          within = near_within l o t.near;
          kept = λ none. none;
        } in
        let P : FrameAccess → Type 0 = λ x. IsFrameAccess l [] [] x in
        subst P (sym t.is) there

    access_to : (a : FrameAccess) → IsIn a (accesses_found l s rows blocks) → IsFrameAccess l [] [] a
    access_to a h =
        let f = found_to (accesses_at l s) l s a rows blocks h in
        in_to f.place f.row (standing l f.place) a refl f.is_place f.is_there

    access_back : (a : FrameAccess) → IsFrameAccess l [] [] a → IsIn a (accesses_found l s rows blocks)
    access_back a is =
        let p = a.place in
        let r = place_of l blocks s rows are flow p is.reached in
        let at = r.1 in
        let by = is.by in
        let known = known_of l blocks s rows are flow p r.0 by.base is.base at is.fact in
        let o = offset_at l s r.0 p a by is.base in
        let near : is_near l o ≡ true = ap (is_near l) (sym is.offset) ∙ within_near l a.offset is.within in
        let same : a ≡ access p by o =
        ap (λ (n : ℕ). let x : FrameAccess = record { place = p; argument = n; offset = a.offset; size = a.size } in x)
        is.number
        ∙ ap (λ (z : ℤ). let x : FrameAccess = record { place = p; argument = by.number; offset = z; size = a.size } in x)
        is.offset
        ∙ ap (λ (n : ℕ). let x : FrameAccess = record { place = p; argument = by.number; offset = o; size = n } in x)
        is.size in
        let S : Standing → Type 0 = λ t. IsIn a (accesses_in l s r.0 p t) in
        let there = of_back l s r.0 p a (reaches l is.op) by is.base is.is_by known near same in
        found_back (accesses_at l s) l s a rows blocks at.number at.block at.row p r.0 at.here at.known at.before
        (subst S (sym is.does) there)

    -- All accesses of the frame, each once and in order.
    pub accesses_are : Lists (IsFrameAccess l [] []) IsAccessBefore (accesses_found l s rows blocks)
    accesses_are = record {
      each = λ a. (access_to a, access_back a);
      in_order = in_order IsAccessBefore (accesses_found l s rows blocks)
          (blocks_sorted (λ (a : FrameAccess). a.place) IsAccessBefore (λ x y b. inl b)
          (along_from (accesses_at l s) l s)
          (from_own (λ (a : FrameAccess). a.place) IsAccessBefore (λ x y b. inl b) l s (accesses_at l s)
          (λ row p a h. in_place l s row p (standing l p) a h) (λ row p. in_sorted l s row p (standing l p)))
          (from_sorted (λ (a : FrameAccess). a.place) IsAccessBefore (λ x y b. inl b) l s (accesses_at l s)
          (λ row p a h. in_place l s row p (standing l p) a h) (λ row p. in_sorted l s row p (standing l p)))
          rows blocks (places_sorted _ flow.rising));
    }
