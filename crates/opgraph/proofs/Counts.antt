-- There are no more nodes in the lists of a family than it has nodes, so the graph's numbers are below those of its
-- nodes.
use Rattle.std.proofs.Common.{◌≡◌, ℕ, zero, suc, ◌+◌, ◌<◌, ◌≤◌, ◌^◌, List, [], ◌∷◌, ◌++◌, length, map, inl, inr, Option, Some, None, refl, sym, ap, ◌∙◌, subst, slice_get, arith, length-append}
use Rattle.std.proofs.lemmas.List.{length-map}
use native.Mathlib.Nat.{not-suc-le-zero, le_of_suc-le-suc}
use Rattle.opgraph.specs.declared.code.Body.{Body}
use Rattle.node_lists.specs.Chains.{IsIn, Apart}
use Rattle.node_lists.specs.Families.{Family, list_at, list_slot, key_at, IsFull}
use Rattle.node_lists.proofs.Chains.{in_either}
use Rattle.node_lists.proofs.Families.{fits}
use Rattle.heap_nodes.proofs.Places.{none_some, some_same}
use Rattle.opgraph.specs.Graph.{OpRow, total, inputs_in, IsCounted}
use Rattle.opgraph.specs.Parts.{table, row_slot, row_of, inputs_of, graph_of, Good}

abbrev flat : List (List ℕ) → List ℕ
flat [] = []
flat (xs ∷ xss) = xs ++ flat xss

flat_length : (xss : List (List ℕ)) → length (flat xss) ≡ total xss
flat_length [] = refl
flat_length (xs ∷ xss) = length-append xs (flat xss) ∙ ap (λ n. length xs + n) (flat_length xss)

apart_app : (xs ys : List ℕ)
    → Apart xs
    → Apart ys
    → ((i : ℕ) → IsIn i xs → IsIn i ys → ⊥)
    → Apart (xs ++ ys)
apart_app [] ys d e n = e
apart_app (x ∷ xs) ys d e n = (
  (λ m. elim (in_either x xs ys m) [ inl a ↦ d.0 a | inr b ↦ n x (inl refl) b ]),
  apart_app xs ys d.1 e (λ i m k. n i (inr m) k),
)

module _ {T : Type 0} (f : Family T) (full : IsFull f) where
  -- the node is in the list of a key from k on
  record Later (k i : ℕ) : Type 0 where
    key : ℕ
    from : k ≤ key
    is : key_at f i ≡ Some key
    low : i < length f.held

  record Flats (k : ℕ) (xss : List (List ℕ)) : Type 0 where
    apart : Apart (flat xss)
    later : (i : ℕ) → IsIn i (flat xss) → Later k i

  flats_more : (k : ℕ) (xs : List ℕ) (xss : List (List ℕ))
      → xs ≡ list_at f (Some k)
      → Flats (suc k) xss
      → Flats k (xs ∷ xss)
  flats_more k xs xss first rest = record {
    apart = apart_app xs (flat xss) (subst Apart (sym first) (full.apart (Some k))) rest.apart clash;
    later = λ i m. elim (in_either i xs (flat xss) m) [ inl a ↦ here i a | inr b ↦ there i b ];
  }
    where
      here : (i : ℕ) → IsIn i xs → Later k i
      here i m =
          let r = full.members (Some k) i (subst (IsIn i) first m) in
          record { key = k; from = omega arith; is = r.1; low = r.0 }

      there : (i : ℕ) → IsIn i (flat xss) → Later k i
      there i m =
          let r = rest.later i m in record { key = r.key; from = omega (arith, r.from); is = r.is; low = r.low }

      clash : (i : ℕ) → IsIn i xs → IsIn i (flat xss) → ⊥
      clash i m n =
          let r = rest.later i n in
          let e : k ≡ r.key = some_same (sym (full.members (Some k) i (subst (IsIn i) first m)).1 ∙ r.is) in
          omega (arith, r.from, e)

  flats : (k : ℕ) (xss : List (List ℕ))
      → ((j : ℕ) → list_slot (slice_get xss j) ≡ list_at f (Some (k + j)))
      → Flats k xss
  flats k [] h = record { apart = tt; later = λ i m. absurd m }
  flats k (xs ∷ xss) h =
      flats_more k xs xss (h 0 ∙ ap (λ n. list_at f (Some n)) (here k))
      (flats (suc k) xss (λ j. h (suc j) ∙ ap (λ n. list_at f (Some n)) (next k j)))
    where
      here : (n : ℕ) → n + 0 ≡ n
      here n = omega arith

      next : (n j : ℕ) → n + suc j ≡ suc n + j
      next n j = omega arith

  -- no more nodes are in lists than there are
  pub counted : total f.lists + length f.spares ≤ length f.held
  counted =
      let e = length-append (flat f.lists) f.spares in
      let n = flat_length f.lists in
      let h : length (flat f.lists ++ f.spares) ≤ length f.held =
      fits (length f.held) (flat f.lists ++ f.spares)
      (apart_app (flat f.lists) f.spares all.apart (full.apart None) clash)
      low in
      omega (arith, e, n, h)
    where
      from_zero : (n : ℕ) → 0 + n ≡ n
      from_zero n = omega arith

      all : Flats 0 f.lists
      all = flats 0 f.lists (λ j. ap (λ n. list_at f (Some n)) (sym (from_zero j)))

      clash : (i : ℕ) → IsIn i (flat f.lists) → IsIn i f.spares → ⊥
      clash i m n = none_some (sym (full.members None i n).1 ∙ (all.later i m).is)

      low : (i : ℕ) → IsIn i (flat f.lists ++ f.spares) → i < length f.held
      low i m =
          elim (in_either i (flat f.lists) f.spares m) [
            | inl a ↦ (all.later i a).low
            | inr b ↦ (full.members None i b).0
          ]

rows : (n : ℕ) (f : ℕ → Option OpRow) (xss : List (List ℕ))
    → n ≤ length xss
    → ((x : ℕ) → length (inputs_in (f x)) ≤ length (list_slot (slice_get xss x)))
    → total (map inputs_in (table n f)) ≤ total xss
rows zero f xss l h = omega arith
rows (suc n) f [] l h = absurd (not-suc-le-zero l)
rows (suc n) f (xs ∷ xss) l h =
    let a : length (inputs_in (f 0)) ≤ length xs = h 0 in
    let b = rows n (λ i. f (suc i)) xss (le_of_suc-le-suc l) (λ x. h (suc x)) in omega (arith, a, b)

row_short : (k : Option ℕ) (body : Option Body) (ins ps : List ℕ)
    → length ins ≡ length ps
    → length (inputs_in (row_slot k body ins)) ≤ length ps
row_short None body ins ps e = omega arith
row_short (Some b) None ins ps e = omega arith
row_short (Some b) (Some body) ins ps e = omega (arith, e)

-- the numbers of the graph are no greater than those of the nodes and lists that it is made of
pub counted_graph : (o : Family Body) (i : Family ℕ) (u : Family (Unit {0}))
    → Good o i u
    → length o.lists < 2 ^ 32
    → length o.held < 2 ^ 32
    → length i.held < 2 ^ 32
    → IsCounted (graph_of o i u)
counted_graph o i u g blocks ops slots = record {
  blocks = blocks;
  ops = let h = counted o g.full_ops in omega (arith, h, ops);
  slots =
      let h = counted i g.full_inputs in
      let k = rows (length o.held) (row_of o i u) i.lists g.ops_inputs short in omega (arith, h, k, slots);
}
  where
    short : (x : ℕ) → length (inputs_in (row_of o i u x)) ≤ length (list_slot (slice_get i.lists x))
    short x =
        row_short (key_at o x) (slice_get o.held x) (inputs_of i u x) (list_at i (Some x))
        (length-map (list_at i (Some x)) (λ s. Rattle.opgraph.specs.Parts.or_zero (key_at u s)))
