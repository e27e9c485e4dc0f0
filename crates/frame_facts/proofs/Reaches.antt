-- What an op reaches by the stack pointer, and which op that is.
use Rattle.std.proofs.Common.{◌≡◌, ℕ, suc, ◌≤◌, Bool, true, false, List, [], ◌∷◌, Option, Some, None, refl, sym, ap, ◌∙◌, inl, inr, ⊎_elim, arith}
use Rattle.std.specs.Prelude.{cond, slice_get}
use Rattle.pcode_model.specs.declared.listing.Op.{Op}
use Rattle.pcode_model.specs.declared.listing.Place.{Place}
use Rattle.pcode_model.specs.declared.listing.Space.{Space}
use Rattle.pcode_model.specs.declared.listing.Storage.{Storage}
use Rattle.pcode_model.specs.declared.listing.Storage.TheVariants as storage
use Rattle.pcode_model.specs.declared.listing.Varnode.{Varnode}
use Rattle.pcode_model.specs.declared.listing.Instruction.{Instruction}
use Rattle.pcode_model.specs.declared.listing.Listing.{Listing}
use Rattle.pcode_model.specs.Spaces.{first_ram, word_size, word_in}
use Rattle.pcode_model.specs.Places.{Does, standing}
use Rattle.pcode_model.specs.WellFormed.{IsWellFormed}
use Rattle.pcode_model.specs.Flow.{IsIn}
use Rattle.pcode_model.specs.Step.{ReadsStack, arguments, varnode_at}
use Rattle.frame_facts.specs.Escapes.{is_of_memory}
use Rattle.frame_facts.specs.Accesses.{Reach, only_memory, reach, stack_reaches}

-- ---- arguments by their numbers

-- what stands on the stack has a number from this one on
numbered : (j : ℕ) (args : List Storage) (n o k : ℕ) → IsIn (ReadsStack n o k) (arguments j args) → j ≤ n
numbered j [] n o k is = absurd is
numbered j (storage.At v ∷ args) n o k (inl e) = absurd (cc)
numbered j (storage.At v ∷ args) n o k (inr is) = let h = numbered (suc j) args n o k is in omega (arith, h)
numbered j (storage.Stack p q ∷ args) n o k (inl e) = let f : n ≡ j = cc in omega (arith, f)
numbered j (storage.Stack p q ∷ args) n o k (inr is) = let h = numbered (suc j) args n o k is in omega (arith, h)

reach_numbered : (sp : Varnode) (j : ℕ) (args : List Storage) (r : Reach)
    → IsIn r (stack_reaches (Some sp) (arguments j args))
    → j ≤ r.number
reach_numbered sp j [] r is = absurd is
reach_numbered sp j (storage.At v ∷ args) r is = let h = reach_numbered sp (suc j) args r is in omega (arith, h)
reach_numbered sp j (storage.Stack p q ∷ args) r (inl e) = let f : r.number ≡ j = ap (λ (x : Reach). x.number) e in
    omega (arith, f)
reach_numbered sp j (storage.Stack p q ∷ args) r (inr is) = let h = reach_numbered sp (suc j) args r is in
    omega (arith, h)

-- an argument on the stack is reached by its number alone
pub reach_of : (sp : Varnode) (j : ℕ) (args : List Storage) (n o k : ℕ) (r : Reach)
    → IsIn (ReadsStack n o k) (arguments j args)
    → IsIn r (stack_reaches (Some sp) (arguments j args))
    → r.number ≡ n
    → r ≡ reach n sp o k
reach_of sp j [] n o k r is has e = absurd is
reach_of sp j (storage.At v ∷ args) n o k r (inl x) has e = absurd (cc)
reach_of sp j (storage.At v ∷ args) n o k r (inr is) has e = reach_of sp (suc j) args n o k r is has e
reach_of sp j (storage.Stack p q ∷ args) n o k r (inl x) (inl h) e =
    let a : n ≡ j = cc in
    let b : o ≡ p = cc in
    let c : k ≡ q = cc in
    h ∙ ap (λ y. reach y sp p q) (sym a) ∙ ap (λ y. reach n sp y q) (sym b) ∙ ap (λ y. reach n sp o y) (sym c)
reach_of sp j (storage.Stack p q ∷ args) n o k r (inl x) (inr has) e =
    let a : n ≡ j = cc in
    let h = reach_numbered sp (suc j) args r has in
    absurd (omega (arith, h, e, a))
reach_of sp j (storage.Stack p q ∷ args) n o k r (inr is) (inl h) e =
    let f : r.number ≡ j = ap (λ (x : Reach). x.number) h in
    let g = numbered (suc j) args n o k is in
    absurd (omega (arith, f, g, e))
reach_of sp j (storage.Stack p q ∷ args) n o k r (inr is) (inr has) e = reach_of sp (suc j) args n o k r is has e

-- ---- one reach of a LOAD or STORE

pub memory_reach : (l : Listing) (vs : List Varnode) (k : ℕ) (r : Reach)
    → IsIn r (only_memory l vs k)
    → (is_of_memory l vs ≡ true) × (r ≡ reach 0 (varnode_at vs 1) 0 k)
memory_reach l vs k r is = by (is_of_memory l vs) is where
  by : (b : Bool)
      → IsIn r (cond b (reach 0 (varnode_at vs 1) 0 k ∷ []) [])
      → (b ≡ true) × (r ≡ reach 0 (varnode_at vs 1) 0 k)
  by true is = (refl, ⊎_elim (λ e. e) (λ bad. absurd bad) is)
  by false is = absurd is

pub same_op : (l : Listing) (p : Place) (i j : Instruction) (op other : Op)
    → standing l p ≡ Does i op
    → standing l p ≡ Does j other
    → other ≡ op
same_op l p i j op other e f = let g : Does j other ≡ Does i op = sym f ∙ e in cc

-- the first ram space has words of one byte
pub one_byte : (l : Listing) → IsWellFormed l → word_size l (first_ram l) ≡ 1
one_byte l read = by (slice_get l.spaces (first_ram l)) refl where
  by : (o : Option Space) → slice_get l.spaces (first_ram l) ≡ o → word_in o ≡ 1
  by None e = refl
  by (Some s) e = read.words (first_ram l) s e (inr refl)
