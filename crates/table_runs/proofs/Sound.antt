-- Trees whose words fit their widths, their parts, and trees together.
use Rattle.std.proofs.Common.{◌≡◌, ℕ, ◌+◌, ◌*◌, ◌<◌, Bool, true, false, cond, List, [], ◌∷◌, ◌++◌, refl, sym, ap, ◌∙◌, subst, inl, inr, ⊎_elim, arith}
use Rattle.std.specs.Prelude.{◌==◌, ◌&&◌, nat_le}
use Rattle.std.proofs.lemmas.Bool.Decides.{nat_tests}
use Rattle.bits_core.specs.declared.ops.Unary.TheVariants as U
use Rattle.bits_core.specs.Value.{concat, limit, part, zext}
use Rattle.bits_core.proofs.Limits.{limit-add}
use Rattle.laws.proofs.Parts.{part_whole}
use Rattle.pcode_model.specs.Flow.{IsIn}
use Rattle.pcode_model.proofs.Members.{in_either}
use Rattle.table_form.specs.Trees.{Doing, OfOne, OfTwo, Divides, Loads, Drops, Joins, Tree, Entry, Number, Node, Trees, End, More, cut, extends, part_of, part_within, reading, readings, trees, width}
use Rattle.table_form.specs.Slices.{piece}
use Rattle.table_form.specs.Values.{joined, sizes}
use Rattle.table_runs.specs.Words.{Words, value, values}
use Rattle.table_runs.proofs.Bytes.{part_below}

-- operations of one input have one, those of two have two
abbrev pub HasInputs : Doing → Trees → Type 0
HasInputs (OfOne op) ts = (t : Tree) × (ts ≡ More t End)
HasInputs (OfTwo op) ts = (t : Tree) × ((u : Tree) × (ts ≡ More t (More u End)))
HasInputs d ts = Unit {0}

-- the word of each node fits its width
abbrev mutual
  pub IsSound : Words → Tree → Type 0
  IsSound e (Entry s o k) = e.range s o k < limit k
  IsSound e (Number v k) = v < limit k
  IsSound e (Node d k ts) = (value e (Node d k ts) < limit k) × (HasInputs d ts × AreSound e ts)

  pub AreSound : Words → Trees → Type 0
  AreSound e End = Unit {0}
  AreSound e (More t ts) = IsSound e t × AreSound e ts

-- a tree that says which word so many bytes have
pub record Says (e : Words) (t : Tree) (k n : ℕ) : Type 0 where
  pub is : value e t ≡ n
  pub wide : width t ≡ k
  pub sound : IsSound e t

is_extended : (d : Doing) → extends d ≡ true → d ≡ OfOne U.ZeroExtend
is_extended (OfOne U.ZeroExtend) e = refl
is_extended (OfOne U.Copy) e = absurd (cc)
is_extended (OfOne U.Negate) e = absurd (cc)
is_extended (OfOne U.Complement) e = absurd (cc)
is_extended (OfOne U.SignExtend) e = absurd (cc)
is_extended (OfOne U.CountOnes) e = absurd (cc)
is_extended (OfOne U.CountLeadingZeros) e = absurd (cc)
is_extended (OfOne U.BoolNegate) e = absurd (cc)
is_extended (OfTwo op) e = absurd (cc)
is_extended (Divides op) e = absurd (cc)
is_extended (Loads s) e = absurd (cc)
is_extended (Drops d) e = absurd (cc)
is_extended Joins e = absurd (cc)

zext_is : (v : ℕ) → zext v ≡ v
unfolding zext
zext_is v = refl

module _ (e : Words) where
  pub sound_below : (t : Tree) → IsSound e t → value e t < limit (width t)
  sound_below (Entry s o k) h = h
  sound_below (Number v k) h = h
  sound_below (Node d k ts) h = h.0

  pub same_says : {t : Tree} {k n j : ℕ} → Says e t k n → n ≡ j → Says e t k j
  same_says h same = record { is = h.is ∙ same; wide = h.wide; sound = h.sound }

  pub cut_says : (t : Tree) (d n : ℕ) → IsSound e t → Says e (cut t d n) n (part (value e t) d n)
  cut_says t d n h = record { is = refl; wide = refl; sound = (part_below (value e t) d n, (tt, (h, tt))) }

  mutual
    pub part_says : (t : Tree) (d n : ℕ) → IsSound e t → Says e (part_of t d n) n (part (value e t) d n)
    part_says (Entry s o k) d n h = cut_says (Entry s o k) d n h
    part_says (Number v k) d n h = cut_says (Number v k) d n h
    part_says (Node what k ts) d n h =
        by (extends what) refl (λ f. within_says what k ts ts d n h (is_extended what f) refl h.1.1)
      where
        by : (b : Bool)
            → extends what ≡ b
            → (extends what ≡ true → Says e (part_within (Node what k ts) ts d n) n (part (value e (Node what k ts)) d n))
            → Says e (cond b (part_within (Node what k ts) ts d n) (cut (Node what k ts) d n)) n (part (value e (Node what k ts)) d n)
        by false f within = cut_says (Node what k ts) d n h
        by true f within = within f

    within_says : (what : Doing) (k : ℕ) (all ts : Trees) (d n : ℕ)
        → IsSound e (Node what k all)
        → what ≡ OfOne U.ZeroExtend
        → all ≡ ts
        → AreSound e ts
        → Says e (part_within (Node what k all) ts d n) n (part (value e (Node what k all)) d n)
    within_says what k all End d n h f same inner = cut_says (Node what k all) d n h
    within_says what k all (More t ts) d n h f same inner =
        by (nat_le (d + n) (width t)) (d == 0 && n == width t) refl (part_says t d n inner.0)
      where
        input : value e (Node what k all) ≡ value e t
        input =
            ap (λ w. value e (Node w k all)) f
            ∙ ap (λ us. value e (Node (OfOne U.ZeroExtend) k us)) same
            ∙ zext_is (value e t)

        by : (b c : Bool)
            → (d == 0 && n == width t) ≡ c
            → Says e (part_of t d n) n (part (value e t) d n)
            → Says e (cond b (cond c t (part_of t d n)) (cut (Node what k all) d n)) n (part (value e (Node what k all)) d n)
        by false c g it = cut_says (Node what k all) d n h
        by true false g it = same_says it (ap (λ v. part v d n) (sym input))
        by true true g it =
            let z : d ≡ 0 = grind (arith, nat_tests) in
            let w : width t ≡ n = grind (arith, nat_tests) in
            let lt : value e t < limit n = rw w at (sound_below t inner.0) in
            record {
              is = sym (ap (λ v. part v d n) input ∙ ap (λ j. part (value e t) j n) z ∙ part_whole (value e t) n lt);
              wide = w;
              sound = inner.0;
            }

  -- a part of an output is that part of its tree's word
  pub piece_says : (b : Bool) (t : Tree) (d n : ℕ) → IsSound e t → Says e (piece b t d n) n (part (value e t) d n)
  piece_says true t d n h = cut_says t d n h
  piece_says false t d n h = part_says t d n h

  -- ---- subtrees

  mutual
    pub sound_in : (t x : Tree) → IsSound e t → IsIn x (reading t) → IsSound e x
    sound_in (Entry s o k) x h (inl f) = subst (IsSound e) (sym f) h
    sound_in (Entry s o k) x h (inr f) = absurd f
    sound_in (Number v k) x h (inl f) = subst (IsSound e) (sym f) h
    sound_in (Number v k) x h (inr f) = absurd f
    sound_in (Node d k ts) x h (inl f) = subst (IsSound e) (sym f) h
    sound_in (Node d k ts) x h (inr f) = sound_inside ts x h.1.1 f

    sound_inside : (ts : Trees) (x : Tree) → AreSound e ts → IsIn x (readings ts) → IsSound e x
    sound_inside End x h f = absurd f
    sound_inside (More t ts) x h f =
        ⊎_elim (λ g. sound_in t x h.0 g) (λ g. sound_inside ts x h.1 g) (in_either (reading t) (readings ts) x f)

  -- ---- trees together, the high part first

  abbrev pub wide : List Tree → ℕ
  wide ts = sizes (values e (trees ts))

  abbrev pub together_value : List Tree → ℕ
  together_value ts = joined (values e (trees ts))

  concat_last : (u v t i j : ℕ)
      → limit (i + j) ≡ limit i * limit j
      → concat (i + j) u (concat j v t) ≡ concat j (concat i u v) t
  unfolding concat
  concat_last u v t i j h = ap (λ n. u * n + (v * limit j + t)) h ∙ grind (arith)

  concat_one : (v k : ℕ) → concat 0 v 0 ≡ concat k 0 v
  unfolding concat limit
  concat_one v k = omega arith

  pub wide_last : (ts : List Tree) (t : Tree) → wide (ts ++ t ∷ []) ≡ wide ts + width t
  wide_last [] t = omega arith
  wide_last (u ∷ ts) t = omega (arith, wide_last ts t)

  pub value_last : (ts : List Tree) (t : Tree)
      → together_value (ts ++ t ∷ []) ≡ concat (width t) (together_value ts) (value e t)
  value_last [] t = concat_one (value e t) (width t)
  value_last (u ∷ ts) t =
      ap (λ n. concat n (value e u) (together_value (ts ++ t ∷ []))) (wide_last ts t)
      ∙ ap (concat (wide ts + width t) (value e u)) (value_last ts t)
      ∙ concat_last (value e u) (together_value ts) (value e t) (wide ts) (width t) (limit-add (wide ts) (width t))

  pub sound_last : (ts : List Tree) (t : Tree)
      → AreSound e (trees ts)
      → IsSound e t
      → AreSound e (trees (ts ++ t ∷ []))
  sound_last [] t h g = (g, tt)
  sound_last (u ∷ ts) t h g = (h.0, sound_last ts t h.1 g)
