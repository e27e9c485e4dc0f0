-- Variables that hold the words of ranges.
use Rattle.std.proofs.Common.{◌≡◌, ◌≢◌, ℕ, zero, suc, ◌+◌, ◌<◌, ◌≤◌, Bool, true, false, List, [], ◌∷◌, length, refl, sym, ap, ◌∙◌, subst, inl, inr, ⊎_elim, arith, Option, Some, None}
use Rattle.std.specs.Prelude.{◌==◌, ◌&&◌, cond, slice_get}
use Rattle.std.specs.List.{All}
use Rattle.std.proofs.lemmas.List.Elements.{All-nil, All-cons, All-head, All-tail}
use Rattle.std.proofs.Math.Path.{fun_ext}
use Rattle.std.proofs.lemmas.Bool.{cases_eq}
use Rattle.std.proofs.lemmas.Bool.Decides.{nat_tests}
use Rattle.bits_core.specs.Value.{limit}
use Rattle.bits_core.specs.Bytes.{word_bytes, word_of}
use Rattle.laws.proofs.Bytes.{length-word_bytes, word_again, word_bytes-word_of, word_bytes_below, word_of_below}
use Rattle.pcode_model.specs.declared.listing.Varnode.{Varnode}
use Rattle.pcode_model.specs.declared.listing.Listing.{Listing}
use Rattle.pcode_model.specs.Spaces.{size_of, is_big, next, bytes_at, put, put_in, each_at}
use Rattle.pcode_model.specs.Memory.{Bytes}
use Rattle.pcode_model.specs.Step.{bytes_in, local_word, with_word, word_in_bytes}
use Rattle.pcode_laws.proofs.Puts.{put_at, put_else}
use Rattle.range_words.specs.Ranges.{IsInside, AreApart, IsTable, Holds, AreBytes}
use Rattle.range_words.proofs.Written.{IsAway, written_on, written_away}

-- ---- one range

-- where a range lies, as seen from the bytes of another that is written
away_from : (a b : Varnode) (k : ℕ) → k ≡ a.size → AreApart b a → IsAway a.space a.offset k b.space b.offset b.size
away_from a b k long apart = ⊎_elim (λ ne. inl ne)
    (λ side. inr (⊎_elim (λ (before : b.offset + b.size ≤ a.offset). inl before)
    (λ (behind : a.offset + a.size ≤ b.offset). inr (omega (arith, behind, long))) side)) apart

module _ (l : Listing) (a : Varnode) (n : ℕ) (m : Bytes) (inside : IsInside l a) where
  -- a written range is read back
  pub read_written : n < limit a.size → local_word l a (with_word l a n m) ≡ n
  read_written below =
      let big = is_big l a.space in
      let bs = word_bytes big a.size n in
      let long : length bs ≡ a.size = length-word_bytes big a.size n in
      let size = size_of l a.space in
      let after : ℕ → ℕ = each_at size (put_in a.space) a.offset bs m a.space in
      let on : bytes_at size after a.offset (length bs) ≡ bs =
      written_on size a.space a.offset bs m (omega (arith, inside, long)) in
      ap (λ k. word_of big (bytes_at size after a.offset k)) (sym long)
      ∙ ap (word_of big) on
      ∙ word_again big a.size n below

  -- a range that has no byte in common with the written one keeps its word
  pub read_else : (b : Varnode)
      → IsInside l b
      → AreApart b a
      → local_word l b (with_word l a n m) ≡ local_word l b m
  read_else b within apart =
      let big = is_big l a.space in
      let bs = word_bytes big a.size n in
      let long : length bs ≡ a.size = length-word_bytes big a.size n in
      ap (word_of (is_big l b.space))
      (written_away (size_of l a.space) a.space a.offset bs m (size_of l b.space) b.space b.offset b.size
      (omega (arith, inside, long)) within (away_from a b (length bs) long apart))

-- ---- the variables of a table

module _ (l : Listing) (ranges : List Varnode) where
  -- A range's word is written, and its variable is assigned it.
  pub holds_written : IsTable l ranges
      → (v : ℕ) (a : Varnode)
      → slice_get ranges v ≡ Some a
      → (n : ℕ)
      → n < limit a.size
      → (m : Bytes) (env : ℕ → Option ℕ)
      → Holds l ranges m env
      → Holds l ranges (with_word l a n m) (put env v (Some n))
  holds_written table v a e n below m env holds w b f = ⊎_elim
      (λ (same : w ≡ v).
      let g : Some b ≡ Some a = sym f ∙ ap (slice_get ranges) same ∙ e in
      let is : b ≡ a = cc in
      let at_w : put env v (Some n) w ≡ Some n = ap (put env v (Some n)) same ∙ put_at env v (Some n) in
      at_w ∙ ap (λ x. Some x) (sym (read_written l a n m (table.inside v a e) below))
      ∙ ap (λ c. Some (local_word l c (with_word l a n m))) (sym is))
      (λ (ne : w ≢ v).
      put_else env v (Some n) w ne ∙ holds w b f
      ∙ ap (λ x. Some x)
      (sym (read_else l a n m (table.inside v a e) b (table.inside w b f) (table.apart w v b a f e ne))))
      (cases_eq w v)

  -- a variable that stands for no range is assigned
  pub holds_other : (v : ℕ)
      → slice_get ranges v ≡ None
      → (o : Option ℕ) (m : Bytes) (env : ℕ → Option ℕ)
      → Holds l ranges m env
      → Holds l ranges m (put env v o)
  holds_other v free o m env holds w b f =
      let other : w ≢ v = λ e. let g : slice_get ranges w ≡ slice_get ranges v = ap (slice_get ranges) e in
      absurd (cc) in
      put_else env v o w other ∙ holds w b f

-- ---- bytes

abbrev IsByte : ℕ → Type 0
IsByte b = b < 256

-- bytes stay bytes when one of them is put among them
pub byte_put : (s o b : ℕ) (m : Bytes) → b < 256 → AreBytes m → AreBytes (put_in s o b m)
byte_put s o b m h are t p =
    let P : Bool → Type 0 = λ c. cond c b (m t p) < 256 in elim (t == s && p == o) as P [ true ↦ h | false ↦ are t p ]

each_below : (size s : ℕ) (bs : List ℕ) (o : ℕ) (m : Bytes)
    → All IsByte bs
    → AreBytes m
    → AreBytes (each_at size (put_in s) o bs m)
each_below size s [] o m h are = are
each_below size s (b ∷ bs) o m h are = each_below size s bs (next size o) (put_in s o b m) (All-tail IsByte b bs h)
    (byte_put s o b m (All-head IsByte b bs h) are)

-- bytes stay bytes when a word is written to a space
pub bytes_stored : (l : Listing) (s a k n : ℕ) (m : Bytes)
    → AreBytes m
    → AreBytes (each_at (size_of l s) (put_in s) a (bytes_in l s k n) m)
bytes_stored l s a k n m are = each_below (size_of l s) s (bytes_in l s k n) a m (word_bytes_below (is_big l s) k n) are

-- and when one is written to a range
pub bytes_written : (l : Listing) (a : Varnode) (n : ℕ) (m : Bytes) → AreBytes m → AreBytes (with_word l a n m)
bytes_written l a n m are = bytes_stored l a.space a.offset a.size n m are

all_at : (size : ℕ) (f : ℕ → ℕ) (o k : ℕ) → ((p : ℕ) → f p < 256) → All IsByte (bytes_at size f o k)
all_at size f o zero are = All-nil IsByte
all_at size f o (suc k) are =
    All-cons IsByte (f o) (bytes_at size f (next size o) k) (are o) (all_at size f (next size o) k are)

pub length-bytes_at : (size : ℕ) (f : ℕ → ℕ) (o k : ℕ) → length (bytes_at size f o k) ≡ k
length-bytes_at size f o zero = refl
length-bytes_at size f o (suc k) = ap suc (length-bytes_at size f (next size o) k)

-- the word of so many bytes of a space has their width
pub word_below : (l : Listing) (s o k : ℕ) (m : Bytes) → AreBytes m → word_in_bytes l s o k m < limit k
word_below l s o k m are =
    let xs = bytes_at (size_of l s) (m s) o k in
    let P : ℕ → Type 0 = λ j. word_of (is_big l s) xs < limit j in
    subst P (length-bytes_at (size_of l s) (m s) o k)
    (word_of_below (is_big l s) xs (all_at (size_of l s) (m s) o k (are s)))

-- the word of a range has the range's width
pub local_word_below : (l : Listing) (a : Varnode) (m : Bytes) → AreBytes m → local_word l a m < limit a.size
local_word_below l a m are = word_below l a.space a.offset a.size m are

-- ---- the word that stands there

put_same : (s o : ℕ) (m : Bytes) → put_in s o (m s o) m ≡ m
put_same s o m = fun_ext (λ t. fun_ext (λ p. by t p (t == s && p == o) refl))
  where
    by : (t p : ℕ) (b : Bool) → (t == s && p == o) ≡ b → cond b (m s o) (m t p) ≡ m t p
    by t p true e =
        let here : s ≡ t = grind (arith, nat_tests) in
        let at : o ≡ p = grind (arith, nat_tests) in
        ap (λ r. m r o) here ∙ ap (m t) at
    by t p false e = refl

each_same : (size s o k : ℕ) (m : Bytes) → each_at size (put_in s) o (bytes_at size (m s) o k) m ≡ m
each_same size s o zero m = refl
each_same size s o (suc k) m =
    ap (each_at size (put_in s) (next size o) (bytes_at size (m s) (next size o) k)) (put_same s o m)
    ∙ each_same size s (next size o) k m

-- A range that is written the word that it has stays as it is.
pub written_same : (l : Listing) (a : Varnode) (m : Bytes) → AreBytes m → with_word l a (local_word l a m) m ≡ m
written_same l a m are =
    let s = a.space in
    let size = size_of l s in
    let big = is_big l s in
    let bs = bytes_at size (m s) a.offset a.size in
    let there : word_bytes big a.size (word_of big bs) ≡ bs =
    ap (λ k. word_bytes big k (word_of big bs)) (sym (length-bytes_at size (m s) a.offset a.size))
    ∙ word_bytes-word_of big bs (all_at size (m s) a.offset a.size (are s)) in
    ap (λ xs. each_at size (put_in s) a.offset xs m) there ∙ each_same size s a.offset a.size m
