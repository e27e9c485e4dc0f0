-- An entry that lies in a listing is an entry of the definition.
use Rattle.std.proofs.Common.{◌≡◌, ◌∙◌, ◌<◌, ◌⊎◌, ℕ, Bool, true, false, List, [], ◌∷◌, Option, Some, None, inl, inr, refl, sym, ap, subst, arith}
use Rattle.std.specs.Prelude.{◌==◌, ◌&&◌, if◌then◌else◌, map}
use Rattle.std.specs.List.{AllByRecursion}
use Rattle.std.proofs.lemmas.Bool.{and_parts, eqb-true}
use Rattle.pcode_model.specs.declared.listing.Listing.{Listing}
use Rattle.pcode_model.specs.declared.listing.SpaceKind.{SpaceKind}
use Rattle.pcode_model.specs.declared.listing.SpaceKind.TheVariants.{Constant, Ram, Register, Unique}
use Rattle.pcode_model.specs.Memory.{or_else}
use Rattle.pcode_model.specs.Spaces.{first_ram, fixed_byte, is_fixed, is_some, kind_of, put, put_in, same_kind, size_of}
use Rattle.pcode_model.specs.World.{AllAnswers, AllHidden, AllWrites, IsAnswer, IsEntry}
use Rattle.run_world.specs.declared.entry.Answer.{Answer}
use Rattle.run_world.specs.declared.entry.Byte.{Byte}
use Rattle.run_world.specs.declared.entry.Entry.{Entry}
use Rattle.run_world.specs.Meaning.{answer_of, entry_of, first_bytes, hidden, registers_of, with_bytes, with_offsets, written}
use Rattle.entrytext.specs.Lies.{AnswerLiesIn, IsIn, IsInRam, IsInside, IsOfState, LiesIn}

-- ---- bytes put into a function

abbrev Small : (ℕ → Option ℕ) → Type 0
Small f = (o b : ℕ) → f o ≡ Some b → b < 256

either : (t : Bool) (x y : Option ℕ) (b : ℕ)
    → (x ≡ Some b → b < 256)
    → (y ≡ Some b → b < 256)
    → (if t then x else y) ≡ Some b
    → b < 256
either true x y b h g e = h e
either false x y b h g e = g e

one_small : (v b : ℕ) → v < 256 → Some v ≡ Some b → b < 256
one_small v b h e = let s : v ≡ b = cc in subst (λ n. n < 256) s h

bytes_small : (bs : List Byte)
    → AllByRecursion (λ b. b.value < 256) bs
    → (f : ℕ → ℕ → Option ℕ)
    → ((s : ℕ) → Small (f s))
    → (s : ℕ)
    → Small (with_bytes bs f s)
bytes_small [] h f small s = small s
bytes_small (x ∷ bs) h f small s = bytes_small bs h.1 (put_in x.space x.offset (Some x.value) f)
    (λ t p b. either (t == x.space && p == x.offset) (Some x.value) (f t p) b (one_small x.value b h.0) (small t p b)) s

offsets_small : (bs : List Byte)
    → AllByRecursion (λ b. b.value < 256) bs
    → (f : ℕ → Option ℕ)
    → Small f
    → Small (with_offsets bs f)
offsets_small [] h f small = small
offsets_small (x ∷ bs) h f small = offsets_small bs h.1 (put f x.offset (Some x.value))
    (λ p b. either (p == x.offset) (Some x.value) (f p) b (one_small x.value b h.0) (small p b))

none_small : Small (λ o. None)
none_small o b e = absurd (cc)

else_small : (o : Option ℕ) → ((b : ℕ) → o ≡ Some b → b < 256) → or_else o 0 < 256
else_small None h = omega arith
else_small (Some b) h = h b refl

values_in : (l : Listing) (n : ℕ) (bs : List Byte)
    → AllByRecursion (IsIn l n) bs
    → AllByRecursion (λ b. b.value < 256) bs
values_in l n [] h = tt
values_in l n (b ∷ bs) h = (h.0.inside.value, values_in l n bs h.1)

-- ---- kinds

ram_is : (k : SpaceKind) → same_kind Ram k ≡ true → k ≡ Ram
ram_is Constant h = absurd (cc)
ram_is Ram h = refl
ram_is Register h = absurd (cc)
ram_is Unique h = absurd (cc)

-- ---- an entry

module _ (l : Listing) (bytes : (s : ℕ) → Small (fixed_byte l s)) where
  values_of : (bs : List Byte) → AllByRecursion (IsOfState l) bs → AllByRecursion (λ b. b.value < 256) bs
  values_of [] h = tt
  values_of (b ∷ bs) h = (h.0.inside.value, values_of bs h.1)

  -- a byte of the state leaves the read-only bytes as they are
  not_here : (x : Byte)
      → IsOfState l x
      → (s o b : ℕ)
      → fixed_byte l s o ≡ Some b
      → (s == x.space && o == x.offset) ≡ true
      → ⊥
  not_here x h s o b e t =
      let p = and_parts _ _ t in
      let fixed : is_fixed l s o ≡ true = ap is_some e in
      let at_space : is_fixed l x.space o ≡ true = subst (λ n. is_fixed l n o ≡ true) (eqb-true s x.space p.0) fixed in
      let at : is_fixed l x.space x.offset ≡ true =
      subst (λ n. is_fixed l x.space n ≡ true) (eqb-true o x.offset p.1) at_space in
      let free = h.free in
      clash (sym at ∙ free)
    where
      clash : true ≡ false → ⊥
      clash c = cc

  over : (t : Bool) (x y : Option ℕ) → (t ≡ true → ⊥) → (if t then x else y) ≡ y
  over true x y h = absurd (h refl)
  over false x y h = refl

  fixed_stay : (bs : List Byte)
      → AllByRecursion (IsOfState l) bs
      → (f : ℕ → ℕ → Option ℕ) (s o b : ℕ)
      → fixed_byte l s o ≡ Some b
      → f s o ≡ Some b
      → with_bytes bs f s o ≡ Some b
  fixed_stay [] h f s o b e is = is
  fixed_stay (x ∷ bs) h f s o b e is = fixed_stay bs h.1 (put_in x.space x.offset (Some x.value) f) s o b e
      (over (s == x.space && o == x.offset) (Some x.value) (f s o) (not_here x h.0 s o b e) ∙ is)

  writes_in : (bs : List Byte) → AllByRecursion (IsInRam l) bs → AllWrites l (map written bs)
  writes_in [] h = tt
  writes_in (b ∷ bs) h = ((ram_is (kind_of l b.space) h.0.ram, (h.0.inside.offset, h.0.inside.value)), writes_in bs h.1)

  hidden_in : (bs : List Byte) → AllByRecursion (IsIn l (first_ram l)) bs → AllHidden l (map hidden bs)
  hidden_in [] h = tt
  hidden_in (b ∷ bs) h = (
    (subst (λ n. b.offset < size_of l n) h.0.space h.0.inside.offset, h.0.inside.value),
    hidden_in bs h.1,
  )

  answer_is : (a : Answer) → AnswerLiesIn l a → IsAnswer l (answer_of a)
  answer_is a h = record {
    registers = λ o. else_small (with_offsets a.registers (λ p. None) o)
        (offsets_small a.registers (values_in l _ a.registers h.registers) (λ p. None) none_small o);
    memory = writes_in a.memory h.memory;
    hidden = hidden_in a.hidden h.hidden;
  }

  answers_are : (rest : List Answer) → AllByRecursion (AnswerLiesIn l) rest → AllAnswers l (map answer_of rest)
  answers_are [] h = tt
  answers_are (a ∷ rest) h = (answer_is a h.0, answers_are rest h.1)

  -- An entry that lies in a listing whose read-only bytes are bytes is one of its entries.
  pub is_entry : (e : Entry) → LiesIn l e → IsEntry l (entry_of l e)
  is_entry e lies = record {
    bytes = λ s o. else_small (with_bytes e.state (fixed_byte l) s o)
        (bytes_small e.state (values_of e.state lies.state) (fixed_byte l) bytes s o);
    hidden = λ o b is. offsets_small e.hidden (values_in l _ e.hidden lies.hidden) (λ p. None) none_small o b is;
    fixed = λ s o b is. ap (λ x. or_else x 0) (fixed_stay e.state lies.state (fixed_byte l) s o b is is);
    answers = answers_are e.answers lies.answers;
  }
