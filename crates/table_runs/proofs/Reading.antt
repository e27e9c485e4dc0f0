-- Each tree has, by the words at the slice's entry, the word that its range holds now.
use Rattle.std.proofs.Common.{◌≡◌, ℕ, zero, suc, ◌+◌, ◌-◌, ◌<◌, ◌≤◌, Bool, true, false, cond, ◌∷◌, get_or, Option, Some, None, refl, sym, ap, ◌∙◌, arith}
use Rattle.std.specs.Prelude.{◌==◌}
use Rattle.std.proofs.lemmas.Bool.Decides.{nat_tests}
use Rattle.bits_core.specs.Bytes.{place_of_part, word_bytes, word_of}
use Rattle.bits_core.specs.Value.{limit, part}
use Rattle.laws.proofs.Parts.{part_whole}
use Rattle.pcode_model.specs.declared.listing.Listing.{Listing}
use Rattle.pcode_model.specs.Spaces.{bytes_at, is_big, next, size_of}
use Rattle.pcode_model.specs.Memory.{Bytes}
use Rattle.pcode_model.specs.Step.{word_in_bytes}
use Rattle.range_words.specs.Ranges.{AreBytes}
use Rattle.range_words.proofs.Variables.{word_below}
use Rattle.table_form.specs.Trees.{Entry, width}
use Rattle.table_form.specs.Slices.{Part, Written, dropped, is_same, is_wide_as, part_tree, piece, written_tree}
use Rattle.table_runs.specs.Words.{Words, value}
use Rattle.table_runs.proofs.Bytes.{onward, part_word}
use Rattle.table_runs.proofs.Parts.{IsPart}
use Rattle.table_runs.proofs.Sound.{IsSound, Says, piece_says, same_says, sound_below}

-- the byte at an offset of a space is that of an output that still stands there
pub record IsByteOf (l : Listing) (e : Words) (s : ℕ) (w : Written) (o b : ℕ) : Type 0 where
  pub from : w.to ≤ o
  pub below : o < w.to + w.size
  pub byte : b ≡ get_or (word_bytes (is_big l s) w.size (value e w.tree)) (o - w.to) 0
  pub wide : width w.tree ≡ w.size
  pub sound : IsSound e w.tree

-- What was written to a space says what its bytes are now, by those at the slice's entry.
pub record Traces (l : Listing) (e : Words) (s : ℕ) (last : ℕ → Option Written) (m0 m : Bytes) : Type 0 where
  pub kept : (o : ℕ) → last o ≡ None → m s o ≡ m0 s o
  pub wrote : (o : ℕ) (w : Written) → last o ≡ Some w → IsByteOf l e s w o (m s o)
  pub once : (o p : ℕ) → is_same (last o) (last p) ≡ true → last o ≡ last p

module _ (size : ℕ) (f g : ℕ → ℕ) where
  bytes_same : (o n : ℕ)
      → o + n ≤ size
      → ((j : ℕ) → j < n → f (o + j) ≡ g (o + j))
      → bytes_at size f o n ≡ bytes_at size g o n
  bytes_same o zero within h = refl
  bytes_same o (suc n) within h =
      let z : o + 0 ≡ o = omega arith in
      let first : f o ≡ g o = ap f (sym z) ∙ h 0 (omega arith) ∙ ap g z in
      let rest : bytes_at size f (suc o) n ≡ bytes_at size g (suc o) n =
      bytes_same (suc o) n (omega (arith, within)) (λ j lt.
      let a : suc o + j ≡ o + suc j = omega arith in ap f a ∙ h (suc j) (omega arith) ∙ ap g (sym a)) in
      ap (λ ys. f o ∷ ys) (onward size f o n within ∙ rest ∙ sym (onward size g o n within))
      ∙ ap (λ b. b ∷ bytes_at size g (next size o) n) first

module _ (l : Listing) (e : Words) (s : ℕ) (last : ℕ → Option Written) (m0 m : Bytes)
    (entry : (o k : ℕ) → e.range s o k ≡ word_in_bytes l s o k m0)
    (small : AreBytes m0) (bytes : AreBytes m) (t : Traces l e s last m0 m) where
  entry_says : (o n : ℕ)
      → o + n ≤ size_of l s
      → ((j : ℕ) → j < n → last (o + j) ≡ None)
      → Says e (Entry s o n) n (word_in_bytes l s o n m)
  entry_says o n within each = record {
    is =
        entry o n
        ∙ ap (word_of (is_big l s)) (bytes_same (size_of l s) (m0 s) (m s) o n within (λ j lt. sym (t.kept (o + j) (each j lt))));
    wide = refl;
    sound = rw (entry o n) (word_below l s o n m0 small);
  }

  module _ (w : Written) (o n : ℕ) (some : 0 < n) (within : o + n ≤ size_of l s) (each : (j : ℕ) → j < n → last (o + j) ≡ Some w) where
    first : IsByteOf l e s w o (m s o)
    first = let z : o + 0 ≡ o = omega arith in t.wrote o w (ap last (sym z) ∙ each 0 some)

    ends : o + n ≤ w.to + w.size
    ends = omega (arith, (t.wrote (o + (n - 1)) w (each (n - 1) (omega arith))).below)

    digits : (k : ℕ)
        → k + n ≤ w.size
        → place_of_part (is_big l s) w.size k n ≡ o - w.to
        → word_in_bytes l s o n m ≡ part (value e w.tree) k n
    digits k low place =
        part_word (size_of l s) (m s) (is_big l s) w.size (value e w.tree) o n (o - w.to) k within low place (omega (arith, first.from, ends)) (λ j lt.
        let i : o + j - w.to ≡ o - w.to + j = omega (arith, first.from) in
        (t.wrote (o + j) w (each j lt)).byte ∙ ap (λ x. get_or (word_bytes (is_big l s) w.size (value e w.tree)) x 0) i)

    low_of : (big : Bool) → dropped big w o n + n ≤ w.size
    low_of true = omega (arith, first.from, ends)
    low_of false = omega (arith, first.from, ends)

    place_is : (big : Bool) → place_of_part big w.size (dropped big w o n) n ≡ o - w.to
    place_is true = omega (arith, first.from, ends)
    place_is false = refl

    word_is : word_in_bytes l s o n m ≡ part (value e w.tree) (dropped (is_big l s) w o n) n
    word_is = digits (dropped (is_big l s) w o n) (low_of (is_big l s)) (place_is (is_big l s))

    whole_is : n ≡ w.size → (big : Bool) → dropped big w o n ≡ 0
    whole_is same true = omega (arith, first.from, ends)
    whole_is same false = omega (arith, first.from, ends)

    pub output_says : Says e (written_tree l s (Some w) o n) n (word_in_bytes l s o n m)
    output_says = by (n == w.size) refl
      where
        by : (b : Bool)
            → (n == w.size) ≡ b
            → Says e (cond b w.tree (piece (is_wide_as l.stack n) w.tree (dropped (is_big l s) w o n) n)) n (word_in_bytes l s o n m)
        by true f =
            let same : n ≡ w.size = grind (arith, nat_tests) in
            let lt : value e w.tree < limit n = rw (first.wide, ← same) at (sound_below e w.tree first.sound) in
            record {
              is =
                  sym (word_is ∙ ap (λ k. part (value e w.tree) k n) (whole_is same (is_big l s)) ∙ part_whole (value e w.tree) n lt);
              wide = first.wide ∙ sym same;
              sound = first.sound;
            }
        by false f =
            same_says e (piece_says e (is_wide_as l.stack n) w.tree (dropped (is_big l s) w o n) n first.sound) (sym word_is)

  pub part_is : (p : Part)
      → IsPart last p
      → p.from + p.size ≤ size_of l s
      → Says e (part_tree l s p) p.size (word_in_bytes l s p.from p.size m)
  part_is p h within = by p.writer refl
    where
      by : (u : Option Written)
          → p.writer ≡ u
          → Says e (written_tree l s u p.from p.size) p.size (word_in_bytes l s p.from p.size m)
      by None f = entry_says p.from p.size within (λ j lt. h.each j lt ∙ f)
      by (Some w) f = output_says w p.from p.size h.some within (λ j lt. h.each j lt ∙ f)
