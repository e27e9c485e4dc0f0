-- The table of the accesses of frame variables, and the numbers of the frame's ranges.
use Rattle.std.proofs.Common.{◌≡◌, ◌∙◌, ℕ, suc, ◌+◌, ◌*◌, ◌%◌, ◌≤◌, ◌<◌, ◌^◌, ◌==◌, ◌&&◌, Bool, true, false, List, [], ◌∷◌, Some, cond, drop, get_or, length, refl, ap, sym, subst, arith, lit<}
use Rattle.std.specs.Prelude.{Option, None, nat_lt, slice_get}
use Rattle.std.specs.Ordering.{is_eq}
use Rattle.std.specs.BTreeMap.{BTreeMap, get, Updates}
use Rattle.std.proofs.Math.Path.{fun_ext}
use Rattle.std.proofs.Math.Nat.{pow-le-pow_right}
use Rattle.std.proofs.lemmas.Bool.Decides.{nat_tests}
use Rattle.std.proofs.lemmas.List.{at_drop_more}
use Rattle.pcode_model.specs.declared.frame.FrameAccess.{FrameAccess}
use Rattle.pcode_model.specs.declared.listing.Listing.{Listing}
use Rattle.pcode_model.specs.declared.listing.Place.{Place}
use Rattle.pcode_model.specs.declared.listing.Space.{Space}
use Rattle.pcode_model.specs.declared.listing.SpaceKind.{SpaceKind}
use Rattle.pcode_model.specs.Frame.{own_in, wrapped}
use Rattle.pcode_model.specs.Spaces.{first_ram, number_of, offset_bytes_in, same_kind, size_in}
use Rattle.pcode_model.proofs.Sizes.{shift_is}
use Rattle.range_words.specs.Own.{stack_size}
use Rattle.op_code.specs.Made.{Own, offset_bytes}
use Rattle.op_code.specs.FrameTable.{Key, access_cmp, access_key, offset_at}

-- ---- numbers of spaces, and their sizes

number_if : (b : Bool) (n k : ℕ) → n ≤ k → cond b 0 (suc n) ≤ suc k
number_if true n k h = omega arith
number_if false n k h = omega (arith, h)

-- the first space of a kind has a number of at most how many there are
pub number_within : (k : SpaceKind) (xs : List Space) → number_of k xs ≤ length xs
number_within k [] = omega arith
number_within k (x ∷ xs) = number_if (same_kind k x.kind) (number_of k xs) (length xs) (number_within k xs)

-- a space has a number of bytes by that of its offsets' bytes
pub size_by_bytes : (o : Option Space) → size_in o ≡ 256 ^ offset_bytes_in o
size_by_bytes None = refl
size_by_bytes (Some s) = refl

-- offsets of a space of at most 2 to the 64 bytes have at most 8 bytes
pub few_bytes : (k : ℕ) → 256 ^ k ≤ 2 ^ 64 → k ≤ 8
few_bytes k small = by_less (nat_lt 8 k) refl
  where
    by_less : (b : Bool) → nat_lt 8 k ≡ b → k ≤ 8
    by_less true wide =
        let past : 9 ≤ k = grind (arith, nat_tests) in
        let more : 256 ^ 9 ≤ 256 ^ k = pow-le-pow_right (lit< tt) {i = 9} {j = k} past in
        absurd (omega (arith, more, small))
    by_less false narrow = grind (arith, nat_tests)

-- The number of the first ram space, and the bytes of its offsets.
module _ (l : Listing) (n k : ℕ) (ram : n ≡ first_ram l) (bytes : k ≡ offset_bytes l n) where
  size_is_power : stack_size l ≡ 256 ^ k
  size_is_power = size_by_bytes (slice_get l.spaces (first_ram l))
      ∙ ap (λ m. 256 ^ offset_bytes l m) (sym ram)
      ∙ ap (λ j. 256 ^ j) (sym bytes)

  module _ (small : stack_size l ≤ 2 ^ 64) where
    pub stack_few : k ≤ 8
    stack_few = few_bytes k (subst (λ s. s ≤ 2 ^ 64) size_is_power small)

    pub stack_shift : 1 * 2 ^ (8 * k) % 2 ^ 128 ≡ stack_size l
    stack_shift = shift_is k stack_few ∙ sym size_is_power

    pub stack_some : 0 < 1 * 2 ^ (8 * k) % 2 ^ 128
    stack_some =
        let some : 256 ^ 0 ≤ 256 ^ k = pow-le-pow_right (lit< tt) {i = 0} {j = k} (omega arith) in
        omega (arith, some, shift_is k stack_few)

-- ---- the table

abbrev is_access : FrameAccess → Place → ℕ → Bool
is_access a p n = a.place.address == p.address && (a.place.index == p.index && a.argument == n)

-- the key of an access is that of a place and a number, where it is one there of that number
key_test : (a : FrameAccess) (p : Place) (n : ℕ)
    → is_eq (access_cmp (access_key a.place a.argument) (access_key p n)) ≡ is_access a p n
key_test a p n = grind (arith, nat_tests)

-- An access that is put in counts before those that follow it in the list.
pub own_put : (size : ℕ) (a : FrameAccess) (rest : List FrameAccess) (m n : BTreeMap Key ℕ)
    → Updates access_cmp m n (access_key a.place a.argument) (Some (wrapped size a.offset))
    → offset_at m ≡ own_in size rest
    → offset_at n ≡ own_in size (a ∷ rest)
own_put size a rest m n updates same =
    let here : Option ℕ = Some (wrapped size a.offset) in
    fun_ext (λ p. fun_ext (λ k. updates.0 (access_key p k)
    ∙ ap (λ b. cond b here (offset_at m p k)) (key_test a p k)
    ∙ ap (λ (f : Place → Own). cond (is_access a p k) here (f p k)) same))

-- The accesses from one on are put in behind those that follow it.
pub own_step : (size i : ℕ) (xs : List FrameAccess) (d : FrameAccess) (m n : BTreeMap Key ℕ) (number offset : ℕ)
    → i < length xs
    → number ≡ (get_or xs i d).argument
    → offset ≡ wrapped size (get_or xs i d).offset
    → Updates access_cmp m n (access_key (get_or xs i d).place number) (Some offset)
    → offset_at m ≡ own_in size (drop (i + 1) xs)
    → offset_at n ≡ own_in size (drop i xs)
own_step size i xs d m n number offset within same at updates rest =
    let a = get_or xs i d in
    let put : Updates access_cmp m n (access_key a.place a.argument) (Some (wrapped size a.offset)) =
    subst (λ k. Updates access_cmp m n (access_key a.place k) (Some (wrapped size a.offset))) same
    (subst (λ o. Updates access_cmp m n (access_key a.place number) (Some o)) at updates) in
    own_put size a (drop (i + 1) xs) m n put rest ∙ sym (at_drop_more (own_in size) xs i d within)
