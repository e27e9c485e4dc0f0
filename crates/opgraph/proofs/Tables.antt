-- The graph's map and lists are those of its families.
use Rattle.std.proofs.Common.{◌≡◌, ℕ, zero, suc, ◌<◌, ◌≤◌, List, [], ◌∷◌, length, map, ◌⊎◌, inl, inr, Option, Some, None, IsSome, refl, sym, ap, ◌∙◌, slice_get, arith, true≢false}
use Rattle.std.proofs.Math.Path.{fun_ext}
use native.Mathlib.Nat.{not-suc-le-zero, le_of_suc-le-suc}
use Rattle.heap_nodes.proofs.Places.{none_some, some_same}
use Rattle.opgraph.specs.declared.code.Body.{Body}
use Rattle.node_lists.specs.Families.{Family, key_at}
use Rattle.opgraph.specs.Graph.{op_slot, list_slot, op_at, uses_at}
use Rattle.opgraph.specs.Parts.{table, row_slot, row_of, uses_of, slot_of, graph_of}

pub value_of : {X : Type 0} (o : Option X) → IsSome o → (x : X) × (o ≡ Some x)
value_of None h = absurd (true≢false (sym h))
value_of (Some x) h = (x, refl)

pub below_or : (x n : ℕ) → (x < n) ⊎ (n ≤ x)
below_or x zero = inr (omega arith)
below_or zero (suc n) = inl (omega arith)
below_or (suc x) (suc n) = elim (below_or x n) [ inl h ↦ inl (omega arith) | inr h ↦ inr (omega arith) ]

pub get_past : {X : Type 0} (xs : List X) (i : ℕ) → length xs ≤ i → slice_get xs i ≡ None
get_past [] i h = refl
get_past (x ∷ xs) zero h = absurd (not-suc-le-zero h)
get_past (x ∷ xs) (suc i) h = get_past xs i (le_of_suc-le-suc h)

pub of_map : {X Y : Type 0} (f : X → Y) (xs : List X) (i : ℕ) (y : Y)
    → slice_get (map f xs) i ≡ Some y
    → (x : X) × (slice_get xs i ≡ Some x) × (f x ≡ y)
of_map f [] i y e = none_some e
of_map f (z ∷ xs) zero y e = (z, refl, some_same e)
of_map f (z ∷ xs) (suc i) y e = of_map f xs i y e

module _ {X : Type 0} where
  table_in : (n : ℕ) (f : ℕ → X) (x : ℕ) → x < n → slice_get (table n f) x ≡ Some (f x)
  table_in zero f x h = absurd (not-suc-le-zero h)
  table_in (suc n) f zero h = refl
  table_in (suc n) f (suc x) h = table_in n (λ i. f (suc i)) x (le_of_suc-le-suc h)

  table_out : (n : ℕ) (f : ℕ → X) (x : ℕ) → n ≤ x → slice_get (table n f) x ≡ None
  table_out zero f x h = refl
  table_out (suc n) f zero h = absurd (not-suc-le-zero h)
  table_out (suc n) f (suc x) h = table_out n (λ i. f (suc i)) x (le_of_suc-le-suc h)

no_body : (k : Option ℕ) (ins : List ℕ) → row_slot k None ins ≡ None
no_body None ins = refl
no_body (Some b) ins = refl

module _ (o : Family Body) (i : Family ℕ) (u : Family (Unit {0})) where
  pub op_at_is : op_at (graph_of o i u) ≡ row_of o i u
  op_at_is = fun_ext (λ x. by_size x (below_or x (length o.held)))
    where
      by_size : (x : ℕ) → (x < length o.held) ⊎ (length o.held ≤ x) → op_at (graph_of o i u) x ≡ row_of o i u x
      by_size x (inl h) = ap op_slot (table_in (length o.held) (row_of o i u) x h)
      by_size x (inr h) =
          ap op_slot (table_out (length o.held) (row_of o i u) x h)
          ∙ sym
          (ap (λ b. row_slot (key_at o x) b (Rattle.opgraph.specs.Parts.inputs_of i u x)) (get_past o.held x h)
          ∙ no_body (key_at o x) (Rattle.opgraph.specs.Parts.inputs_of i u x))

  pub uses_at_is : uses_at (graph_of o i u) ≡ uses_of i u
  uses_at_is = fun_ext (λ v. by_size v (below_or v (length u.lists)))
    where
      by_size : (v : ℕ) → (v < length u.lists) ⊎ (length u.lists ≤ v) → uses_at (graph_of o i u) v ≡ uses_of i u v
      by_size v (inl h) = ap list_slot (table_in (length u.lists) (uses_of i u) v h)
      by_size v (inr h) =
          ap list_slot (table_out (length u.lists) (uses_of i u) v h)
          ∙ sym (ap (λ l. map (slot_of i) (Rattle.node_lists.specs.Families.list_slot l)) (get_past u.lists v h))
