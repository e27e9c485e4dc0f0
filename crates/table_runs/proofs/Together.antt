-- A range holds the word of its tree.
use Rattle.std.proofs.Common.{◌≡◌, ℕ, ◌+◌, ◌≤◌, Bool, true, false, List, [], ◌∷◌, ◌++◌, map, reverse, Option, refl, sym, ap, ◌∙◌, subst, arith}
use Rattle.std.proofs.lemmas.List.{reverse-append}
use Rattle.bits_core.specs.Bytes.{word_of}
use Rattle.bits_core.specs.Value.{concat}
use Rattle.pcode_model.specs.declared.listing.Listing.{Listing}
use Rattle.pcode_model.specs.Spaces.{bytes_at, is_big, size_of}
use Rattle.pcode_model.specs.Memory.{Bytes}
use Rattle.pcode_model.specs.Step.{word_in_bytes}
use Rattle.range_words.specs.Ranges.{AreBytes}
use Rattle.range_words.proofs.Variables.{word_below}
use Rattle.table_form.specs.Trees.{Tree, Joins, Node, trees}
use Rattle.table_form.specs.Slices.{Part, Written, high_first, part_tree, parts, together}
use Rattle.table_runs.specs.Words.{Words, value}
use Rattle.table_runs.proofs.Bytes.{split_big, split_little}
use Rattle.table_runs.proofs.Parts.{Cover, IsPart, parts_cover}
use Rattle.table_runs.proofs.Sound.{AreSound, Says, same_says, sound_last, together_value, value_last, wide, wide_last}
use Rattle.table_runs.proofs.Reading.{Traces, part_is}

-- trees that say, together, which word so many bytes have
pub record SayTogether (e : Words) (ts : List Tree) (k n : ℕ) : Type 0 where
  pub is : together_value e ts ≡ n
  pub wide : wide e ts ≡ k
  pub sound : AreSound e (trees ts)

reverse_cons : (t : Tree) (ts : List Tree) → reverse (t ∷ ts) ≡ reverse ts ++ t ∷ []
reverse_cons t ts = reverse-append (t ∷ []) ts

nothing : (big : Bool) → 0 ≡ word_of big []
nothing true = refl
nothing false = refl

module _ (l : Listing) (e : Words) (s : ℕ) (last : ℕ → Option Written) (m0 m : Bytes)
    (entry : (o k : ℕ) → e.range s o k ≡ word_in_bytes l s o k m0)
    (small : AreBytes m0) (bytes : AreBytes m) (t : Traces l e s last m0 m) where
  says : (big : Bool)
      → is_big l s ≡ big
      → (p : Part)
      → IsPart last p
      → p.from + p.size ≤ size_of l s
      → Says e (part_tree l s p) p.size (word_of big (bytes_at (size_of l s) (m s) p.from p.size))
  says big f p h within =
      same_says e (part_is l e s last m0 m entry small bytes t p h within) (ap (λ b. word_of b (bytes_at (size_of l s) (m s) p.from p.size)) f)

  all_big : is_big l s ≡ true → (ps : List Part) (o k : ℕ) → Cover last o k ps → o + k ≤ size_of l s
      → SayTogether e (map (part_tree l s) ps) k (word_of true (bytes_at (size_of l s) (m s) o k))
  all_big f [] o k c within =
      record { is = ap (λ j. word_of true (bytes_at (size_of l s) (m s) o j)) (sym c); wide = sym c; sound = tt }
  all_big f (p ∷ ps) o k c within =
      let rest = c.0 in
      let x = c.1 in
      let many : k ≡ p.size + rest = x.1.1.0 in
      let first = says true f p x.1.0 (omega (arith, x.0)) in
      let others = all_big f ps (o + p.size) rest x.1.1.1 (omega arith) in
      record {
        is =
            ap (λ n. concat n (value e (part_tree l s p)) (together_value e (map (part_tree l s) ps))) others.wide
            ∙ ap (λ v. concat rest v (together_value e (map (part_tree l s) ps))) (first.is ∙ ap (λ a. word_of true (bytes_at (size_of l s) (m s) a p.size)) x.0)
            ∙ ap (concat rest (word_of true (bytes_at (size_of l s) (m s) o p.size))) others.is
            ∙ sym (split_big (size_of l s) (m s) o p.size rest (omega arith))
            ∙ ap (λ n. word_of true (bytes_at (size_of l s) (m s) o n)) (sym many);
        wide = omega (arith, first.wide, others.wide);
        sound = (first.sound, others.sound);
      }

  all_little : is_big l s ≡ false → (ps : List Part) (o k : ℕ) → Cover last o k ps → o + k ≤ size_of l s
      → SayTogether e (reverse (map (part_tree l s) ps)) k (word_of false (bytes_at (size_of l s) (m s) o k))
  all_little f [] o k c within =
      record { is = ap (λ j. word_of false (bytes_at (size_of l s) (m s) o j)) (sym c); wide = sym c; sound = tt }
  all_little f (p ∷ ps) o k c within =
      let rest = c.0 in
      let x = c.1 in
      let many : k ≡ p.size + rest = x.1.1.0 in
      let first = says false f p x.1.0 (omega (arith, x.0)) in
      let others = all_little f ps (o + p.size) rest x.1.1.1 (omega arith) in
      let behind = reverse (map (part_tree l s) ps) in
      let here = part_tree l s p in
      let both : SayTogether e (behind ++ here ∷ []) k (word_of false (bytes_at (size_of l s) (m s) o k)) = record {
        is =
            value_last e behind here
            ∙ ap (λ n. concat n (together_value e behind) (value e here)) first.wide
            ∙ ap (λ v. concat p.size v (value e here)) others.is
            ∙ ap (concat p.size (word_of false (bytes_at (size_of l s) (m s) (o + p.size) rest))) (first.is ∙ ap (λ a. word_of false (bytes_at (size_of l s) (m s) a p.size)) x.0)
            ∙ sym (split_little (size_of l s) (m s) o p.size rest (omega arith))
            ∙ ap (λ n. word_of false (bytes_at (size_of l s) (m s) o n)) (sym many);
        wide = omega (arith, wide_last e behind here, first.wide, others.wide);
        sound = sound_last e behind here others.sound first.sound;
      } in
      subst (λ ts. SayTogether e ts k (word_of false (bytes_at (size_of l s) (m s) o k))) (sym (reverse_cons here (map (part_tree l s) ps))) both

  all_say : (big : Bool) → is_big l s ≡ big → (ps : List Part) (o k : ℕ) → Cover last o k ps → o + k ≤ size_of l s
      → SayTogether e (high_first big (map (part_tree l s) ps)) k (word_of big (bytes_at (size_of l s) (m s) o k))
  all_say true f ps o k c within = all_big f ps o k c within
  all_say false f ps o k c within = all_little f ps o k c within

  node_says : (ts : List Tree) (o k : ℕ)
      → SayTogether e ts k (word_in_bytes l s o k m)
      → Says e (Node Joins k (trees ts)) k (word_in_bytes l s o k m)
  node_says ts o k h = record {
    is = h.is;
    wide = refl;
    sound = (let e = h.is in rw e (word_below l s o k m bytes), (tt, h.sound));
  }

  together_says : (ps : List Part) (o k : ℕ)
      → Cover last o k ps
      → o + k ≤ size_of l s
      → Says e (together (is_big l s) k (map (part_tree l s) ps)) k (word_in_bytes l s o k m)
  together_says [] o k c within =
      node_says [] o k (record { is = nothing (is_big l s) ∙ ap (λ j. word_in_bytes l s o j m) (sym c); wide = sym c; sound = tt })
  together_says (p ∷ []) o k c within =
      let x = c.1 in
      let size : p.size ≡ k = omega (arith, x.1.1.0, x.1.1.1) in
      let h = part_is l e s last m0 m entry small bytes t p x.1.0 (omega (arith, x.0)) in
      record {
        is = h.is ∙ ap (λ a. word_in_bytes l s a p.size m) x.0 ∙ ap (λ n. word_in_bytes l s o n m) size;
        wide = h.wide ∙ size;
        sound = h.sound;
      }
  together_says (p ∷ q ∷ ps) o k c within =
      node_says (high_first (is_big l s) (map (part_tree l s) (p ∷ q ∷ ps))) o k
      (all_say (is_big l s) refl (p ∷ q ∷ ps) o k c within)

  -- A range that lies within its space holds the word of its tree.
  pub range_says : (o k : ℕ)
      → o + k ≤ size_of l s
      → Says e (together (is_big l s) k (map (part_tree l s) (parts last o k))) k (word_in_bytes l s o k m)
  range_says o k within = together_says (parts last o k) o k (parts_cover last t.once o k) within
