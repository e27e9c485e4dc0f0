-- The word that an op writes is the word of the tree that it makes.
use Rattle.std.proofs.Common.{◌≡◌, ℕ, ◌+◌, ◌<◌, Bool, true, false, Some, refl, ap, ◌∙◌, arith}
use Rattle.bits_core.specs.declared.ops.Unary.{Unary}
use Rattle.bits_core.specs.declared.ops.Unary.TheVariants as U
use Rattle.bits_core.specs.declared.ops.Binary.{Binary}
use Rattle.bits_core.specs.declared.ops.Binary.TheVariants as B
use Rattle.bits_core.specs.declared.ops.Divide.{Divide}
use Rattle.bits_core.specs.Value.{IsBinarySized, IsUnarySized, binary_value, concat, divide_value, limit, unary_value}
use Rattle.laws.proofs.Words.{binary_word, divide_word, unary_word}
use Rattle.pcode_model.specs.Memory.{or_else}
use Rattle.table_form.specs.Trees.{Divides, Joins, Loads, Tree, Node, End, More, node_of_one, node_of_two, width}
use Rattle.table_form.specs.Slices.{binary_tree, unary_tree}
use Rattle.table_runs.specs.Words.{Words, value}
use Rattle.table_runs.proofs.Sound.{Says, cut_says, same_says, sound_below}

module _ (e : Words) where
  says_below : {t : Tree} {k n : ℕ} → Says e t k n → n < limit k
  says_below {t = t} h = rw (h.wide, h.is) at (sound_below e t h.sound)

  node_one_says : (op : Unary) (t : Tree) (v k n : ℕ)
      → 0 < k
      → IsUnarySized op v k
      → Says e t v n
      → Says e (node_of_one op k t) k (unary_value op v n k)
  node_one_says op t v k n some sized h =
      let same : value e (node_of_one op k t) ≡ unary_value op v n k =
      ap (λ j. unary_value op j (value e t) k) h.wide ∙ ap (λ j. unary_value op v j k) h.is in
      record {
        is = same;
        wide = refl;
        sound = (rw same (unary_word op v k n some sized (says_below h)), ((t, refl), (h.sound, tt)));
      }

  node_two_says : (op : Binary) (t u : Tree) (v w k m n : ℕ)
      → 0 < k
      → IsBinarySized op v w k
      → Says e t v m
      → Says e u w n
      → Says e (node_of_two op k t u) k (binary_value op v m w n k)
  node_two_says op t u v w k m n some sized g h =
      let same : value e (node_of_two op k t u) ≡ binary_value op v m w n k =
      ap (λ j. binary_value op j (value e t) (width u) (value e u) k) g.wide
      ∙ ap (λ j. binary_value op v j (width u) (value e u) k) g.is
      ∙ ap (λ j. binary_value op v m j (value e u) k) h.wide
      ∙ ap (λ j. binary_value op v m w j k) h.is in
      record {
        is = same;
        wide = refl;
        sound =
            (rw same (binary_word op v w k m n some sized (says_below g) (says_below h)), ((t, (u, refl)), (g.sound, (h.sound, tt))));
      }

  -- ---- operations of one input

  pub unary_says : (op : Unary) (constant : Bool) (t : Tree) (v k n : ℕ)
      → 0 < k
      → IsUnarySized op v k
      → Says e t v n
      → Says e (unary_tree op constant k t) k (unary_value op v n k)
  unary_says U.Copy true t v k n some sized h = node_one_says U.Copy t v k n some sized h
  unary_says U.Copy false t v k n some sized h = record { is = h.is; wide = h.wide ∙ sized; sound = h.sound }
  unary_says U.Negate constant t v k n some sized h = node_one_says U.Negate t v k n some sized h
  unary_says U.Complement constant t v k n some sized h = node_one_says U.Complement t v k n some sized h
  unary_says U.ZeroExtend constant t v k n some sized h = node_one_says U.ZeroExtend t v k n some sized h
  unary_says U.SignExtend constant t v k n some sized h = node_one_says U.SignExtend t v k n some sized h
  unary_says U.CountOnes constant t v k n some sized h = node_one_says U.CountOnes t v k n some sized h
  unary_says U.CountLeadingZeros constant t v k n some sized h =
      node_one_says U.CountLeadingZeros t v k n some sized h
  unary_says U.BoolNegate constant t v k n some sized h = node_one_says U.BoolNegate t v k n some sized h

  -- ---- operations of two inputs

  concat_last : (n : ℕ) → concat 0 n 0 ≡ n
  unfolding concat limit
  concat_last n = omega arith

  concat_both : (w m n : ℕ) → concat (w + 0) m (concat 0 n 0) ≡ concat w m n
  concat_both w m n =
      let z : w + 0 ≡ w = omega arith in ap (λ i. concat i m (concat 0 n 0)) z ∙ ap (concat w m) (concat_last n)

  joined_says : (t u : Tree) (v w k m n : ℕ)
      → 0 < k
      → IsBinarySized B.Piece v w k
      → Says e t v m
      → Says e u w n
      → Says e (Node Joins k (More t (More u End))) k (binary_value B.Piece v m w n k)
  joined_says t u v w k m n some sized g h =
      let same : value e (Node Joins k (More t (More u End))) ≡ concat w m n =
      ap (λ j. concat (j + 0) (value e t) (concat 0 (value e u) 0)) h.wide
      ∙ ap (λ j. concat (w + 0) j (concat 0 (value e u) 0)) g.is
      ∙ ap (λ j. concat (w + 0) m (concat 0 j 0)) h.is
      ∙ concat_both w m n in
      record {
        is = same;
        wide = refl;
        sound =
            (rw same (binary_word B.Piece v w k m n some sized (says_below g) (says_below h)), (tt, (g.sound, (h.sound, tt))));
      }

  -- SUBPIECE drops as many bytes as its second input's word says
  pub binary_says : (op : Binary) (t u : Tree) (v w k m n : ℕ)
      → 0 < k
      → IsBinarySized op v w k
      → Says e t v m
      → Says e u w n
      → Says e (binary_tree op k t u n) k (binary_value op v m w n k)
  binary_says B.Piece t u v w k m n some sized g h = joined_says t u v w k m n some sized g h
  binary_says B.Subpiece t u v w k m n some sized g h =
      same_says e (cut_says e t n k g.sound) (ap (λ j. binary_value B.Subpiece v j w n k) g.is)
  binary_says B.Add t u v w k m n some sized g h = node_two_says B.Add t u v w k m n some sized g h
  binary_says B.Subtract t u v w k m n some sized g h = node_two_says B.Subtract t u v w k m n some sized g h
  binary_says B.Multiply t u v w k m n some sized g h = node_two_says B.Multiply t u v w k m n some sized g h
  binary_says B.And t u v w k m n some sized g h = node_two_says B.And t u v w k m n some sized g h
  binary_says B.Or t u v w k m n some sized g h = node_two_says B.Or t u v w k m n some sized g h
  binary_says B.Xor t u v w k m n some sized g h = node_two_says B.Xor t u v w k m n some sized g h
  binary_says B.Equal t u v w k m n some sized g h = node_two_says B.Equal t u v w k m n some sized g h
  binary_says B.NotEqual t u v w k m n some sized g h = node_two_says B.NotEqual t u v w k m n some sized g h
  binary_says B.Less t u v w k m n some sized g h = node_two_says B.Less t u v w k m n some sized g h
  binary_says B.LessEqual t u v w k m n some sized g h = node_two_says B.LessEqual t u v w k m n some sized g h
  binary_says B.SignedLess t u v w k m n some sized g h = node_two_says B.SignedLess t u v w k m n some sized g h
  binary_says B.SignedLessEqual t u v w k m n some sized g h = node_two_says B.SignedLessEqual t u v w k m n some sized g h
  binary_says B.Carry t u v w k m n some sized g h = node_two_says B.Carry t u v w k m n some sized g h
  binary_says B.SignedCarry t u v w k m n some sized g h = node_two_says B.SignedCarry t u v w k m n some sized g h
  binary_says B.SignedBorrow t u v w k m n some sized g h = node_two_says B.SignedBorrow t u v w k m n some sized g h
  binary_says B.Left t u v w k m n some sized g h = node_two_says B.Left t u v w k m n some sized g h
  binary_says B.Right t u v w k m n some sized g h = node_two_says B.Right t u v w k m n some sized g h
  binary_says B.SignedRight t u v w k m n some sized g h = node_two_says B.SignedRight t u v w k m n some sized g h
  binary_says B.BoolAnd t u v w k m n some sized g h = node_two_says B.BoolAnd t u v w k m n some sized g h
  binary_says B.BoolOr t u v w k m n some sized g h = node_two_says B.BoolOr t u v w k m n some sized g h
  binary_says B.BoolXor t u v w k m n some sized g h = node_two_says B.BoolXor t u v w k m n some sized g h

  -- ---- divisions and LOADs

  pub divide_says : (op : Divide) (t u : Tree) (k m n j : ℕ)
      → Says e t k m
      → Says e u k n
      → divide_value op k m n ≡ Some j
      → Says e (Node (Divides op) k (More t (More u End))) k j
  divide_says op t u k m n j g h d =
      let same : value e (Node (Divides op) k (More t (More u End))) ≡ j =
      ap (λ i. or_else (divide_value op k i (value e u)) 0) g.is
      ∙ ap (λ i. or_else (divide_value op k m i) 0) h.is
      ∙ ap (λ r. or_else r 0) d in
      record {
        is = same;
        wide = refl;
        sound = (rw same (divide_word op k m n j (says_below g) d), (tt, (g.sound, (h.sound, tt))));
      }

  pub load_says : (s k v a n : ℕ) (t : Tree)
      → Says e t v a
      → e.load s k (More t End) a ≡ n
      → n < limit k
      → Says e (Node (Loads s) k (More t End)) k n
  load_says s k v a n t h read below =
      let same : value e (Node (Loads s) k (More t End)) ≡ n = ap (e.load s k (More t End)) h.is ∙ read in
      record { is = same; wide = refl; sound = (rw same below, (tt, (h.sound, tt))) }
