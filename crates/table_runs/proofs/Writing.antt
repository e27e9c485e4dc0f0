-- What was written to a space still says what its bytes are once a word is written to a range.
use Rattle.std.proofs.Common.{◌≡◌, ℕ, zero, suc, ◌+◌, ◌-◌, ◌<◌, ◌≤◌, Bool, true, false, cond, length, get_or, Option, Some, None, refl, sym, ap, ◌∙◌, subst, inl, inr, ⊎_elim, arith}
use Rattle.std.proofs.lemmas.Option.{same_Some}
use Rattle.std.specs.Prelude.{◌==◌, ◌&&◌}
use Rattle.std.proofs.lemmas.Bool.{cases_eq, cases_lt}
use Rattle.std.proofs.lemmas.Bool.Decides.{nat_tests}
use Rattle.bits_core.specs.Bytes.{word_bytes}
use Rattle.laws.proofs.Bytes.{length-word_bytes}
use Rattle.pcode_model.specs.declared.listing.Varnode.{Varnode}
use Rattle.pcode_model.specs.declared.listing.Listing.{Listing}
use Rattle.pcode_model.specs.Spaces.{bytes_at, is_big, size_of}
use Rattle.pcode_model.specs.Memory.{Bytes}
use Rattle.pcode_model.specs.Step.{in_range, with_word}
use Rattle.range_words.specs.Ranges.{IsInside}
use Rattle.range_words.proofs.Written.{IsOff, written_off, written_on}
use Rattle.table_form.specs.Trees.{Tree}
use Rattle.table_form.specs.Slices.{Trace, Written, is_same, wrote}
use Rattle.table_runs.specs.Words.{Words}
use Rattle.table_runs.proofs.Bytes.{onward}
use Rattle.table_runs.proofs.Reading.{IsByteOf, Traces}
use Rattle.table_runs.proofs.Sound.{Says}

byte_at : (size : ℕ) (f : ℕ → ℕ) (o n j : ℕ) → o + n ≤ size → j < n → f (o + j) ≡ get_or (bytes_at size f o n) j 0
byte_at size f o zero j within lt = absurd (omega arith)
byte_at size f o (suc n) zero within lt = let z : o + 0 ≡ o = omega arith in ap f z
byte_at size f o (suc n) (suc j) within lt =
    let z : o + suc j ≡ suc o + j = omega arith in
    ap f z
    ∙ byte_at size f (suc o) n j (omega (arith, within)) (omega (arith, lt))
    ∙ ap (λ xs. get_or xs j 0) (sym (onward size f o n within))

same_ranges : (u w : Written) → is_same (Some u) (Some w) ≡ true → (u.to ≡ w.to) × (u.size ≡ w.size)
same_ranges u w h = (grind (arith, nat_tests), grind (arith, nat_tests))

module _ (l : Listing) (e : Words) (v : Varnode) (tree : Tree) (n : ℕ) (inside : IsInside l v)
    (says : Says e tree v.size n) (t : Trace) (m0 m : Bytes)
    (all : (s : ℕ) → Traces l e s (t s) m0 m) where
  abbrev now : Written
  now = record { to = v.offset; size = v.size; tree = tree }

  long : length (word_bytes (is_big l v.space) v.size n) ≡ v.size
  long = length-word_bytes (is_big l v.space) v.size n

  fits : v.offset + length (word_bytes (is_big l v.space) v.size n) ≤ size_of l v.space
  fits = omega (arith, long, inside)

  off : (s o : ℕ) → (s == v.space && in_range v o) ≡ false → IsOff v.space v.offset v.size s o
  off s o h = ⊎_elim
      (λ (same : s ≡ v.space). ⊎_elim (λ (lt : o < v.offset). inr (inl lt))
      (λ (ge : v.offset ≤ o). inr (inr (grind (arith, nat_tests)))) (cases_lt o v.offset))
      (λ ne. inl ne) (cases_eq s v.space)

  stays : (s o : ℕ) → (s == v.space && in_range v o) ≡ false → with_word l v n m s o ≡ m s o
  stays s o h =
      written_off (size_of l v.space) v.space v.offset (word_bytes (is_big l v.space) v.size n) m s o fits
      (subst (λ k. IsOff v.space v.offset k s o) (sym long) (off s o h))

  there : (s o : ℕ) → (s == v.space && in_range v o) ≡ true → (s ≡ v.space) × ((v.offset ≤ o) × (o < v.offset + v.size))
  there s o h = (grind (arith, nat_tests), (grind (arith, nat_tests), grind (arith, nat_tests)))

  bytes_now : bytes_at (size_of l v.space) (with_word l v n m v.space) v.offset v.size ≡ word_bytes (is_big l v.space) v.size n
  bytes_now =
      ap (bytes_at (size_of l v.space) (with_word l v n m v.space) v.offset) (sym long)
      ∙ written_on (size_of l v.space) v.space v.offset (word_bytes (is_big l v.space) v.size n) m fits

  byte_now : (o : ℕ)
      → v.offset ≤ o
      → o < v.offset + v.size
      → with_word l v n m v.space o ≡ get_or (word_bytes (is_big l v.space) v.size n) (o - v.offset) 0
  byte_now o from below =
      let z : v.offset + (o - v.offset) ≡ o = omega arith in
      ap (with_word l v n m v.space) (sym z)
      ∙ byte_at (size_of l v.space) (with_word l v n m v.space) v.offset v.size (o - v.offset) inside (omega arith)
      ∙ ap (λ xs. get_or xs (o - v.offset) 0) bytes_now

  itself : (s o : ℕ) → (s == v.space && in_range v o) ≡ true → IsByteOf l e s (now) o (with_word l v n m s o)
  itself s o h =
      let x = there s o h in
      record {
        from = x.1.0;
        below = x.1.1;
        byte =
            ap (λ r. with_word l v n m r o) x.0 ∙ byte_now o x.1.0 x.1.1
            ∙ ap (λ r. get_or (word_bytes (is_big l r) v.size n) (o - v.offset) 0) (sym x.0)
            ∙ ap (λ w. get_or (word_bytes (is_big l s) v.size w) (o - v.offset) 0) (sym says.is);
        wide = says.wide;
        sound = says.sound;
      }

  apart : (s o p : ℕ) (u : Written)
      → (s == v.space && in_range v o) ≡ true
      → (s == v.space && in_range v p) ≡ false
      → t s p ≡ Some u
      → (u.to ≡ v.offset) × (u.size ≡ v.size)
      → ⊥
  apart s o p u here out is same =
      let x = there s o here in
      let h = (all s).wrote p u is in
      let low : v.offset ≤ p = omega (arith, h.from, same.0) in
      let high : p < v.offset + v.size = omega (arith, h.below, same.0, same.1) in
      let in_it : (s == v.space && in_range v p) ≡ true = let f = x.0 in grind (arith, nat_tests) in
      absurd (cc)

  -- what was written to each space, the range included
  pub writes_traces : (s : ℕ) → Traces l e s (wrote v tree t s) m0 (with_word l v n m)
  writes_traces s = record {
    kept = λ o. kept o (s == v.space && in_range v o) refl;
    wrote = λ o w. wrote_at o w (s == v.space && in_range v o) refl;
    once = λ o p. once o p (s == v.space && in_range v o) (s == v.space && in_range v p) refl refl;
  }
    where
      kept : (o : ℕ) (b : Bool)
          → (s == v.space && in_range v o) ≡ b
          → cond b (Some (now)) (t s o) ≡ None
          → with_word l v n m s o ≡ m0 s o
      kept o true h f = absurd (cc)
      kept o false h f = stays s o h ∙ (all s).kept o f

      wrote_at : (o : ℕ) (w : Written) (b : Bool)
          → (s == v.space && in_range v o) ≡ b
          → cond b (Some (now)) (t s o) ≡ Some w
          → IsByteOf l e s w o (with_word l v n m s o)
      wrote_at o w true h f = subst (λ u. IsByteOf l e s u o (with_word l v n m s o)) (same_Some _ _ f) (itself s o h)
      wrote_at o w false h f =
          let old = (all s).wrote o w f in
          record { from = old.from; below = old.below; byte = stays s o h ∙ old.byte; wide = old.wide; sound = old.sound }

      one_out : (o p : ℕ) (u : Option Written)
          → (s == v.space && in_range v o) ≡ true
          → (s == v.space && in_range v p) ≡ false
          → t s p ≡ u
          → is_same (Some (now)) u ≡ true
          → ⊥
      one_out o p None h k is same = absurd (cc)
      one_out o p (Some u) h k is same =
          let r = same_ranges (now) u same in
          apart s o p u h k is (sym r.0, sym r.1)

      other_out : (o p : ℕ) (u : Option Written)
          → (s == v.space && in_range v o) ≡ false
          → (s == v.space && in_range v p) ≡ true
          → t s o ≡ u
          → is_same u (Some (now)) ≡ true
          → ⊥
      other_out o p None h k is same = absurd (cc)
      other_out o p (Some u) h k is same =
          apart s p o u k h is (same_ranges u (now) same)

      once : (o p : ℕ) (a b : Bool)
          → (s == v.space && in_range v o) ≡ a
          → (s == v.space && in_range v p) ≡ b
          → is_same (cond a (Some (now)) (t s o)) (cond b (Some (now)) (t s p)) ≡ true
          → cond a (Some (now)) (t s o) ≡ cond b (Some (now)) (t s p)
      once o p true true h k same = refl
      once o p true false h k same = absurd (one_out o p (t s p) h k refl same)
      once o p false true h k same = absurd (other_out o p (t s o) h k refl same)
      once o p false false h k same = (all s).once o p same
