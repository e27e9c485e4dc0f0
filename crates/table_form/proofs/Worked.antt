-- Small slices: by computation.
use Rattle.std.proofs.Common.{◌≡◌, ◌≢◌, ℕ, [], ◌∷◌, refl}
use Rattle.bits_core.specs.declared.ops.Binary.{Binary}
use Rattle.bits_core.specs.declared.ops.Binary.TheVariants as B
use Rattle.bits_core.specs.Value.{add, limit, lt, mul}
use Rattle.pcode_model.specs.Step.{byte_address}
use Rattle.table_form.specs.Trees.{Doing, Loads, OfTwo, Tree, Number, Node, Trees, End, More, node_of_two, width}
use Rattle.table_form.specs.Values.{IsFixedWord, Gives, Here, OfNumber, OfNode, NoMore, OneMore, Makes}
use Rattle.table_form.specs.Form.{Itself, Right}
use Rattle.table_form.specs.Worked.{WorkedSlice, WorkedTrees, entry_address, guard, guarded, index, target}

number_index : (n k : ℕ) → Number n k ≢ index
number_index n k h = absurd (cc)

node_index : (d : Doing) (k : ℕ) (ts : Trees) → Node d k ts ≢ index
node_index d k ts h = absurd (cc)

two : (v : ℕ) (op : Binary) (k a b : ℕ) (t u : Tree) (n : ℕ)
    → Gives guarded index v t a
    → Gives guarded index v u b
    → Makes guarded (OfTwo op) k (record { size = width t; value = a } ∷ record { size = width u; value = b } ∷ []) n
    → Gives guarded index v (node_of_two op k t u) n
two v op k a b t u n g h m =
    OfNode (OfTwo op) k n (More t (More u End)) _ (node_index _ k _) (OneMore a t (More u End) _ g (OneMore b u End [] h NoMore)) m

constant : (v n k : ℕ) → Gives guarded index v (Number n k) n
constant v n k = OfNumber n k (number_index n k)

less : (v : ℕ) (n : ℕ) → n ≡ lt 1 v → Gives guarded index v guard n
less v n e = two v B.Less 1 1 v (Number 1 4) index n (constant v 1 4) Here e

leads : (v a : ℕ)
    → IsFixedWord guarded 1 (byte_address guarded 1 (add 4 (mul 4 v 4) 0x2000)) 4 a
    → Gives guarded index v target a
leads v a f =
    OfNode (Loads 1) 4 a (More entry_address End) _ (node_index _ 4 _)
    (OneMore (add 4 (mul 4 v 4) 0x2000) entry_address End []
    (two v B.Add 4 (mul 4 v 4) 0x2000 (node_of_two B.Multiply 4 index (Number 4 4)) (Number 0x2000 4) (add 4 (mul 4 v 4) 0x2000)
    (two v B.Multiply 4 v 4 index (Number 4 4) (mul 4 v 4) Here (constant v 4 4) refl) (constant v 0x2000 4) refl) NoMore) f

pub worked_trees : WorkedTrees
worked_trees = record {
  three_little = refl;
  three_big = refl;
  one_part = refl;
  whole = refl;
  untouched = refl;
  constant = refl;
  copied = refl;
  low = refl;
  some_low = refl;
  past = refl;
  high = refl;
  low_big = refl;
  stack_wide = refl;
  stack_other = refl;
}

pub worked_slice : WorkedSlice
unfolding add limit lt mul
worked_slice = record {
  is_slice =
      record { follow = (refl, (record { passed = refl; stores = refl }, (refl, (record { passed = refl; stores = refl }, (refl, (record { passed = refl; stores = refl }, (refl, (record { passed = refl; stores = refl }, (refl, (record { passed = refl; stores = refl }, tt)))))))))); begins = refl; ends = refl; once = refl };
  six = refl;
  guard_is = refl;
  target_is = refl;
  order = refl;
  is_guard = Right B.Less 1 (Number 1 4) index refl (1, refl) Itself;
  zero_passes = less 0 0 refl;
  one_passes = less 1 0 refl;
  two_fails = less 2 1 refl;
  first = leads 0 0x1010 (record { bytes = 0x10 ∷ 0x10 ∷ 0 ∷ 0 ∷ []; fixed = refl; word = refl });
  second = leads 1 0x1020 (record { bytes = 0x20 ∷ 0x10 ∷ 0 ∷ 0 ∷ []; fixed = refl; word = refl });
  mask_is = refl;
  masked = refl;
  no_mask = refl;
  first_mask = refl;
}
