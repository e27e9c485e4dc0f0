-- Where x has its word, a guard of x gives the guard's word; and a masked x has a word that the mask allows.
use Rattle.std.proofs.Common.{◌≡◌, ◌≢◌, ℕ, suc, ◌+◌, ◌<◌, Bool, true, false, cond, [], Option, Some, None, bit_and, refl, sym, ap, ◌∙◌, subst, ◌⊎◌, inl, inr, ⊎_elim, arith}
use Rattle.std.specs.Prelude.{nat_lt}
use Rattle.std.proofs.lemmas.Option.{same_Some}
use Rattle.std.proofs.lemmas.Nat.{and_assoc}
use Rattle.std.specs.Int.Bits.{and_comm, and_self}
use Rattle.bits_core.specs.declared.ops.Unary.{Unary}
use Rattle.bits_core.specs.declared.ops.Unary.TheVariants as U
use Rattle.bits_core.specs.declared.ops.Binary.{Binary}
use Rattle.bits_core.specs.declared.ops.Binary.TheVariants as B
use Rattle.pcode_model.specs.declared.listing.Listing.{Listing}
use Rattle.table_form.specs.Trees.{Doing, OfOne, OfTwo, Divides, Loads, Drops, Joins, Tree, Entry, Number, Node, Trees, End, More, constant_of, copies, is_copy, node_of_one, node_of_two, number_in, number_of}
use Rattle.table_form.specs.Values.{Gives, Here, OfNumber, OfNode, NoMore, OneMore}
use Rattle.table_form.specs.Form.{IsConstant, IsGuard, IsMoved, Itself, Plus, Onto, Minus, Joins as Both, Left, Right, Negates, first_mask, is_and, mask_of, mask_or}
use Rattle.table_runs.specs.Words.{Words, value, values}
use Rattle.table_runs.proofs.Sound.{AreSound, HasInputs, IsSound}

-- how many nodes a tree has
abbrev mutual
  size : Tree → ℕ
  size (Entry s o k) = 1
  size (Number v k) = 1
  size (Node d k ts) = suc (sizes ts)

  sizes : Trees → ℕ
  sizes End = 0
  sizes (More t ts) = size t + sizes ts

module _ (l : Listing) (e : Words) (x : Tree) (free : constant_of x ≡ None) where
  abbrev pub Has : Tree → Type 0
  Has t = Gives l x (value e x) t (value e t)

  -- what is larger than x isn't x
  larger : (t : Tree) → size x < size t → t ≢ x
  larger t lt same = let h : size t ≡ size x = ap size same in omega (arith, h, lt)

  one_has : (op : Unary) (k : ℕ) (t : Tree) → node_of_one op k t ≢ x → Has t → Has (node_of_one op k t)
  one_has op k t other h =
      OfNode (OfOne op) k _ (More t End) (values e (More t End)) other (OneMore (value e t) t End [] h NoMore) refl

  two_has : (op : Binary) (k : ℕ) (t u : Tree) → node_of_two op k t u ≢ x → Has t → Has u → Has (node_of_two op k t u)
  two_has op k t u other g h =
      OfNode (OfTwo op) k _ (More t (More u End)) (values e (More t (More u End))) other
      (OneMore (value e t) t (More u End) _ g (OneMore (value e u) u End [] h NoMore)) refl

  -- ---- constants

  no_constant : (c : Tree) → IsConstant c → c ≢ x
  no_constant c is same = let h : Some is.0 ≡ None = sym is.1 ∙ ap constant_of same ∙ free in absurd (cc)

  number_has : (t : Tree) → IsConstant t → (n : ℕ) → number_of t ≡ Some n → Has t
  number_has (Entry s o k) is n h = absurd (cc)
  number_has (Number v k) is n h = OfNumber v k (no_constant (Number v k) is)
  number_has (Node d k ts) is n h = absurd (cc)

  number_constant : (t : Tree) (n : ℕ) → number_of t ≡ Some n → IsConstant t
  number_constant (Entry s o k) n h = absurd (cc)
  number_constant (Number v k) n h = (v, refl)
  number_constant (Node d k ts) n h = absurd (cc)

  copied_has : (d : Doing) (k : ℕ) (ts : Trees)
      → Node d k ts ≢ x
      → HasInputs d ts
      → (n : ℕ)
      → cond (copies d) (number_in ts) None ≡ Some n
      → Has (Node d k ts)
  copied_has (OfOne op) k ts other inputs n h = by (is_copy op) h
    where
      by : (b : Bool) → cond b (number_in ts) None ≡ Some n → Has (Node (OfOne op) k ts)
      by false f = absurd (cc)
      by true f =
          let g : number_of inputs.0 ≡ Some n = ap number_in (sym inputs.1) ∙ f in
          subst (λ us. Has (Node (OfOne op) k us)) (sym inputs.1)
          (one_has op k inputs.0 (subst (λ us. Node (OfOne op) k us ≢ x) inputs.1 other)
          (number_has inputs.0 (number_constant inputs.0 n g) n g))
  copied_has (OfTwo op) k ts other inputs n h = absurd (cc)
  copied_has (Divides op) k ts other inputs n h = absurd (cc)
  copied_has (Loads s) k ts other inputs n h = absurd (cc)
  copied_has (Drops d) k ts other inputs n h = absurd (cc)
  copied_has Joins k ts other inputs n h = absurd (cc)

  constant_has : (c : Tree) → IsConstant c → IsSound e c → Has c
  constant_has (Entry s o k) is sound = let h : None ≡ Some is.0 = is.1 in absurd (cc)
  constant_has (Number v k) is sound = OfNumber v k (no_constant (Number v k) is)
  constant_has (Node d k ts) is sound = copied_has d k ts (no_constant (Node d k ts) is) sound.1.0 is.0 is.1

  -- ---- guards

  moved_larger : (t : Tree) → IsMoved x t → size x < suc (size t)
  moved_larger t Itself = omega arith
  moved_larger t (Plus k c is) = omega arith
  moved_larger t (Onto k c is) = omega arith
  moved_larger t (Minus k c is) = omega arith

  moved_has : (t : Tree) → IsMoved x t → IsSound e t → Has t
  moved_has t Itself sound = Here
  moved_has t (Plus k c is) sound =
      two_has B.Add k x c (larger t (node_larger x c)) Here (constant_has c is sound.1.1.1.0)
    where
      node_larger : (a b : Tree) → size a < suc (size a + (size b + 0))
      node_larger a b = omega arith
  moved_has t (Onto k c is) sound =
      two_has B.Add k c x (larger t (node_larger x c)) (constant_has c is sound.1.1.0) Here
    where
      node_larger : (a b : Tree) → size a < suc (size b + (size a + 0))
      node_larger a b = omega arith
  moved_has t (Minus k c is) sound =
      two_has B.Subtract k x c (larger t (node_larger x c)) Here (constant_has c is sound.1.1.1.0)
    where
      node_larger : (a b : Tree) → size a < suc (size a + (size b + 0))
      node_larger a b = omega arith

  guard_larger : (t : Tree) → IsGuard x t → size x < size t
  guard_larger t (Negates k g is) = omega (arith, guard_larger g is)
  guard_larger t (Both op k g h j is others) = omega (arith, guard_larger g is)
  guard_larger t (Left op k m c j is constant) = omega (arith, moved_larger m is)
  guard_larger t (Right op k c m j constant is) = omega (arith, moved_larger m is)

  -- A guard of x gives its word where x has its word.
  pub guard_has : (t : Tree) → IsGuard x t → IsSound e t → Has t
  guard_has t (Negates k g is) sound =
      one_has U.BoolNegate k g (larger t (guard_larger t (Negates k g is))) (guard_has g is sound.1.1.0)
  guard_has t (Both op k g h j is others) sound =
      two_has op k g h (larger t (guard_larger t (Both op k g h j is others)))
      (guard_has g is sound.1.1.0) (guard_has h others sound.1.1.1.0)
  guard_has t (Left op k m c j is constant) sound =
      two_has op k m c (larger t (guard_larger t (Left op k m c j is constant)))
      (moved_has m is sound.1.1.0) (constant_has c constant sound.1.1.1.0)
  guard_has t (Right op k c m j constant is) sound =
      two_has op k c m (larger t (guard_larger t (Right op k c m j constant is)))
      (constant_has c constant sound.1.1.0) (moved_has m is sound.1.1.1.0)

-- ---- masks

module _ (e : Words) where
  number_is : (t : Tree) (n : ℕ) → number_of t ≡ Some n → value e t ≡ n
  number_is (Entry s o k) n h = absurd (cc)
  number_is (Number v k) n h = same_Some v n h
  number_is (Node d k ts) n h = absurd (cc)

  copied_is : (op : Unary) (k : ℕ) (ts : Trees)
      → HasInputs (OfOne op) ts
      → (n : ℕ)
      → cond (is_copy op) (number_in ts) None ≡ Some n
      → value e (Node (OfOne op) k ts) ≡ n
  copied_is U.Copy k ts inputs n h =
      ap (λ us. value e (Node (OfOne U.Copy) k us)) inputs.1
      ∙ number_is inputs.0 n (ap number_in (sym inputs.1) ∙ h)
  copied_is U.Negate k ts inputs n h = absurd (cc)
  copied_is U.Complement k ts inputs n h = absurd (cc)
  copied_is U.ZeroExtend k ts inputs n h = absurd (cc)
  copied_is U.SignExtend k ts inputs n h = absurd (cc)
  copied_is U.CountOnes k ts inputs n h = absurd (cc)
  copied_is U.CountLeadingZeros k ts inputs n h = absurd (cc)
  copied_is U.BoolNegate k ts inputs n h = absurd (cc)

  -- the word of a constant, or of a copied one
  constant_is : (t : Tree) (n : ℕ) → IsSound e t → constant_of t ≡ Some n → value e t ≡ n
  constant_is (Entry s o k) n sound h = absurd (cc)
  constant_is (Number v k) n sound h = same_Some v n h
  constant_is (Node (OfOne op) k ts) n sound h = copied_is op k ts sound.1.0 n h
  constant_is (Node (OfTwo op) k ts) n sound h = absurd (cc)
  constant_is (Node (Divides op) k ts) n sound h = absurd (cc)
  constant_is (Node (Loads s) k ts) n sound h = absurd (cc)
  constant_is (Node (Drops d) k ts) n sound h = absurd (cc)
  constant_is (Node Joins k ts) n sound h = absurd (cc)

  one_mask : (c : Option ℕ) (m : ℕ) → mask_or c None ≡ Some m → c ≡ Some m
  one_mask None m h = absurd (cc)
  one_mask (Some n) m h = by (nat_lt n 1024) h
    where
      by : (b : Bool) → cond b (Some n) None ≡ Some m → Some n ≡ Some m
      by true g = g
      by false g = absurd (cc)

  -- the mask is one of two constants
  mask_is : (c d : Option ℕ) (m : ℕ) → mask_or c (mask_or d None) ≡ Some m → (c ≡ Some m) ⊎ (d ≡ Some m)
  mask_is None d m h = inr (one_mask d m h)
  mask_is (Some n) d m h = by (nat_lt n 1024) h
    where
      by : (b : Bool) → cond b (Some n) (mask_or d None) ≡ Some m → (Some n ≡ Some m) ⊎ (d ≡ Some m)
      by true g = inl g
      by false g = inr (one_mask d m g)

  and_left : (a b : ℕ) → bit_and (bit_and a b) a ≡ bit_and a b
  and_left a b = ap (λ n. bit_and n a) (and_comm a b) ∙ and_assoc a b a ∙ ap (bit_and b) (and_self a) ∙ and_comm b a

  and_right : (a b : ℕ) → bit_and (bit_and a b) b ≡ bit_and a b
  and_right a b = and_assoc b a b ∙ ap (bit_and a) (and_self b)

  masked_and : (op : Binary) (k m : ℕ) (ts : Trees)
      → HasInputs (OfTwo op) ts
      → AreSound e ts
      → cond (is_and op) (first_mask ts) None ≡ Some m
      → bit_and (value e (Node (OfTwo op) k ts)) m ≡ value e (Node (OfTwo op) k ts)
  masked_and op k m ts inputs sound h = by (is_and op) refl h
    where
      t : Tree
      t = inputs.0

      u : Tree
      u = inputs.1.0

      both : AreSound e (More t (More u End))
      both = subst (AreSound e) inputs.1.1 sound

      anded : is_and op ≡ true → value e (Node (OfTwo op) k ts) ≡ bit_and (value e t) (value e u)
      anded f = ap (λ us. value e (Node (OfTwo op) k us)) inputs.1.1 ∙ of_and op f
        where
          of_and : (o : Binary) → is_and o ≡ true → value e (node_of_two o k t u) ≡ bit_and (value e t) (value e u)
          of_and B.And g = refl
          of_and o g = absurd (cc)

      by : (b : Bool)
          → is_and op ≡ b
          → cond b (first_mask ts) None ≡ Some m
          → bit_and (value e (Node (OfTwo op) k ts)) m ≡ value e (Node (OfTwo op) k ts)
      by false f g = absurd (cc)
      by true f g =
          let which : (constant_of t ≡ Some m) ⊎ (constant_of u ≡ Some m) =
          mask_is (constant_of t) (constant_of u) m (ap first_mask (sym inputs.1.1) ∙ g) in
          ap (λ n. bit_and n m) (anded f)
          ∙ ⊎_elim
          (λ c. let same : value e t ≡ m = constant_is t m both.0 c in
          ap (bit_and (bit_and (value e t) (value e u))) (sym same) ∙ and_left (value e t) (value e u))
          (λ c. let same : value e u ≡ m = constant_is u m both.1.0 c in
          ap (bit_and (bit_and (value e t) (value e u))) (sym same) ∙ and_right (value e t) (value e u)) which
          ∙ sym (anded f)

  -- The word of a masked x is one that the mask allows.
  pub masked_is : (x : Tree) (m : ℕ) → IsSound e x → mask_of x ≡ Some m → bit_and (value e x) m ≡ value e x
  masked_is (Entry s o k) m sound h = absurd (cc)
  masked_is (Number v k) m sound h = absurd (cc)
  masked_is (Node (OfOne op) k ts) m sound h = absurd (cc)
  masked_is (Node (OfTwo op) k ts) m sound h = masked_and op k m ts sound.1.0 sound.1.1 h
  masked_is (Node (Divides op) k ts) m sound h = absurd (cc)
  masked_is (Node (Loads s) k ts) m sound h = absurd (cc)
  masked_is (Node (Drops d) k ts) m sound h = absurd (cc)
  masked_is (Node Joins k ts) m sound h = absurd (cc)
