-- A statement can name each ram space of a listing that was read, and the space's offsets and words have at most 8
-- bytes.
use Rattle.std.proofs.Common.{◌≡◌, ◌∙◌, ◌<◌, ◌≤◌, ℕ, zero, suc, Bool, true, false, List, [], ◌∷◌, Option, Some, None, refl, sym, ap, subst, arith}
use Rattle.std.specs.Prelude.{◌==◌, if◌then◌else◌, slice_get}
use Rattle.std.specs.List.{AllByRecursion}
use Rattle.std.proofs.lemmas.Bool.{and_from, and_parts, eqb-true}
use Rattle.pcode_model.specs.declared.listing.Listing.{Listing}
use Rattle.pcode_model.specs.declared.listing.Space.{Space}
use Rattle.pcode_model.specs.declared.listing.SpaceKind.TheVariants.{Constant, Ram}
use Rattle.pcode_model.specs.Spaces.{first_ram, kind_in, kind_of, offset_bytes_in, word_in}
use Rattle.pcode_model.specs.WellFormed.{AreDistinct, AreSpaces, IsDeclared, IsWellFormed}
use Rattle.pcode_model.proofs.Members.{member_at, of_member}
use Rattle.cmeaning.specs.Do.{accessed, same_name, space_named}
use Rattle.op_code.specs.Form.{IsMemory}
use Rattle.op_code.specs.Made.{name_in, name_of}
use Rattle.plain_form.proofs.Spaces.{differ}

-- ---- names

same_name_self : (a : List ℕ) → same_name a a ≡ true
same_name_self [] = refl
same_name_self (c ∷ cs) = let same : (c == c) ≡ true = grind arith in and_from _ _ same (same_name_self cs)

same_name_is : (a b : List ℕ) → same_name a b ≡ true → a ≡ b
same_name_is [] [] h = refl
same_name_is [] (d ∷ ds) h = absurd (cc)
same_name_is (c ∷ cs) [] h = absurd (cc)
same_name_is (c ∷ cs) (d ∷ ds) h =
    let p = and_parts _ _ h in
    ap (λ (x : ℕ). x ∷ cs) (eqb-true c d p.0) ∙ ap (λ (xs : List ℕ). d ∷ xs) (same_name_is cs ds p.1)

untrue : (b : Bool) → (b ≡ true → ⊥) → b ≡ false
untrue true h = absurd (h refl)
untrue false h = refl

-- where no two spaces have one name, a space's name leads to its number
named_at : (spaces : List Space)
    → AreDistinct (λ (x : Space). x.name) spaces
    → (n : ℕ) (s : Space)
    → slice_get spaces n ≡ Some s
    → space_named s.name spaces ≡ n
named_at [] h n s e = absurd (cc)
named_at (x ∷ rest) h zero s e =
    let same : x ≡ s = cc in
    let P : Space → Type 0 = λ y. space_named y.name (x ∷ rest) ≡ 0 in
    subst P same (ap (λ (b : Bool). if b then 0 else suc (space_named x.name rest)) (same_name_self x.name))
named_at (x ∷ rest) h (suc n) s e =
    let P : Space → Type 0 = λ y. x.name ≡ y.name → ⊥ in
    let differ = of_member P s rest h.0 (member_at rest n s e) in
    let other : same_name s.name x.name ≡ false = untrue _ (λ t. differ (sym (same_name_is s.name x.name t))) in
    ap (λ (b : Bool). if b then 0 else suc (space_named s.name rest)) other ∙ ap suc (named_at rest h.1 n s e)

-- ---- declared spaces

-- a space with its number
record Declared (spaces : List Space) (n : ℕ) : Type 0 where
  space : Space
  here : slice_get spaces n ≡ Some space
  declared : IsDeclared space

declared_in : (spaces : List Space)
    → AllByRecursion IsDeclared spaces
    → (n : ℕ)
    → kind_in (slice_get spaces n) ≡ Ram
    → Declared spaces n
declared_in [] h n e = absurd (cc)
declared_in (s ∷ rest) h zero e = record { space = s; here = refl; declared = h.0 }
declared_in (s ∷ rest) h (suc n) e =
    let d = declared_in rest h.1 n e in record { space = d.space; here = d.here; declared = d.declared }

-- a ram space is a declared one
declared_at : (spaces : List Space)
    → AreSpaces spaces
    → (n : ℕ)
    → kind_in (slice_get spaces n) ≡ Ram
    → Declared spaces n
declared_at [] h n e = absurd h
declared_at (s ∷ rest) h zero e = absurd (differ Ram Constant refl (sym (ap (λ (x : Space). x.kind) h.0) ∙ e))
declared_at (s ∷ rest) h (suc n) e =
    let d = declared_in rest h.1 n e in record { space = d.space; here = d.here; declared = d.declared }

-- ---- ram spaces

name_is : (l : Listing)
    → AreDistinct (λ (x : Space). x.name) l.spaces
    → (n : ℕ) (s : Space)
    → slice_get l.spaces n ≡ Some s
    → accessed l (name_of l n) ≡ n
name_is l distinct n s here = by_test (n == first_ram l) refl
  where
    by_test : (t : Bool)
        → (n == first_ram l) ≡ t
        → accessed l (if t then None else Some (name_in (slice_get l.spaces n))) ≡ n
    by_test true e = sym (eqb-true n (first_ram l) e)
    by_test false e =
        let P : Option Space → Type 0 = λ o. space_named (name_in o) l.spaces ≡ n in
        subst P (sym here) (named_at l.spaces distinct n s here)

-- Each ram space of a listing that was read is memory to the lowering.
pub memory_is : (l : Listing) → IsWellFormed l → (n : ℕ) → kind_of l n ≡ Ram → IsMemory l n
memory_is l read n ram =
    let d = declared_at l.spaces read.spaces n ram in
    let Some_bytes : Option Space → Type 0 = λ o. 0 < offset_bytes_in o in
    let Few_bytes : Option Space → Type 0 = λ o. offset_bytes_in o ≤ 8 in
    let Few_in_word : Option Space → Type 0 = λ o. word_in o ≤ 8 in
    record {
      ram = ram;
      name = name_is l read.distinct.spaces n d.space d.here;
      some = subst Some_bytes (sym d.here) d.declared.some;
      few = subst Few_bytes (sym d.here) d.declared.few;
      word = subst Few_in_word (sym d.here) d.declared.word_few;
    }
