-- The MULTIEQUALs of a block, and those of the blocks that a block leads to.
use Rattle.std.proofs.Common.{◌≡◌, ℕ, zero, suc, ◌<◌, Bool, true, false, cond, List, [], ◌∷◌, ◌++◌, ◌⊎◌, inl, inr, length, map, Option, Some, None, refl, sym, ap, ◌∙◌, subst, arith, true≢false}
use Rattle.std.specs.Prelude.{◌==◌, ◌&&◌, nat_lt}
use Rattle.std.specs.List.{flat_map}
use Rattle.std.proofs.lemmas.Bool.{cases_eq, eq-eqb}
use Rattle.edges.specs.Follow.{In}
use Rattle.node_lists.specs.Chains.{IsIn}
use Rattle.node_lists.proofs.Chains.{eqb_is, in_left, in_right}
use Rattle.opgraph.specs.Graph.{OpRow, op_at, block_at, in_block, IsWhole}
use Rattle.sorting.specs.Order.{placed_by, by_key}
use Rattle.ssa_model.specs.declared.form.Parts.{Parts}
use Rattle.ssa_model.specs.Roles.{Role, Joins, role_of}
use Rattle.ssa_model.specs.Outline.{only, role_at, role_in, is_multi, atom_in, block_with, targets_in}
use Rattle.ssa_model.specs.Paths.{IsJoin}
use Rattle.ssa_model.specs.Drops.{is_in}
use Rattle.ssa_model.proofs.Dropping.{in_is}
use Rattle.ssa_laws.proofs.Lines.{both_hold}
use Rattle.leaving_laws.specs.Copied.{is_head_in, heads_of, up_to, onward_of, next_of}

-- ---- lists of numbers

pub in_number : (v : ℕ) (xs : List ℕ) → In v xs → IsIn v xs
in_number v [] m = m
in_number v (x ∷ xs) (inl e) = inl e
in_number v (x ∷ xs) (inr m) = inr (in_number v xs m)

pub number_in : (v : ℕ) (xs : List ℕ) → IsIn v xs → In v xs
number_in v [] m = m
number_in v (x ∷ xs) (inl e) = inl e
number_in v (x ∷ xs) (inr m) = inr (number_in v xs m)

module _ (key : ℕ → ℕ) where
  in_placed : (x v : ℕ) (ys : List ℕ) → IsIn v (placed_by key x ys) → IsIn v (x ∷ ys)
  in_placed x v [] m = m
  in_placed x v (y ∷ ys) m = by_less (nat_lt (key y) (key x)) (in_placed x v ys) m
    where
      further : IsIn v (x ∷ ys) → IsIn v (x ∷ y ∷ ys)
      further (inl e) = inl e
      further (inr k) = inr (inr k)

      by_less : (c : Bool)
          → (IsIn v (placed_by key x ys) → IsIn v (x ∷ ys))
          → IsIn v (cond c (y ∷ placed_by key x ys) (x ∷ y ∷ ys))
          → IsIn v (x ∷ y ∷ ys)
      by_less true next (inl e) = inr (inl e)
      by_less true next (inr k) = further (next k)
      by_less false next k = k

  placed_in : (x v : ℕ) (ys : List ℕ) → IsIn v (x ∷ ys) → IsIn v (placed_by key x ys)
  placed_in x v [] m = m
  placed_in x v (y ∷ ys) m = by_less (nat_lt (key y) (key x)) (placed_in x v ys) m
    where
      by_less : (c : Bool)
          → (IsIn v (x ∷ ys) → IsIn v (placed_by key x ys))
          → IsIn v (x ∷ y ∷ ys)
          → IsIn v (cond c (y ∷ placed_by key x ys) (x ∷ y ∷ ys))
      by_less true next (inl e) = inr (next (inl e))
      by_less true next (inr (inl e)) = inl e
      by_less true next (inr (inr k)) = inr (next (inr k))
      by_less false next k = k

  in_order : (v : ℕ) (xs : List ℕ) → IsIn v (by_key key xs) → IsIn v xs
  in_order v [] m = m
  in_order v (x ∷ xs) m = by_case (in_placed x v (by_key key xs) m) (in_order v xs)
    where
      by_case : IsIn v (x ∷ by_key key xs) → (IsIn v (by_key key xs) → IsIn v xs) → IsIn v (x ∷ xs)
      by_case (inl e) next = inl e
      by_case (inr k) next = inr (next k)

  pub order_in : (v : ℕ) (xs : List ℕ) → IsIn v xs → IsIn v (by_key key xs)
  order_in v [] m = m
  order_in v (x ∷ xs) (inl e) = placed_in x v (by_key key xs) (inl e)
  order_in v (x ∷ xs) (inr m) = placed_in x v (by_key key xs) (inr (order_in v xs m))

module _ (keeps : ℕ → Bool) where
  in_only : (v : ℕ) (xs : List ℕ) → IsIn v (only keeps xs) → IsIn v xs × (keeps v ≡ true)
  in_only v [] m = absurd m
  in_only v (x ∷ xs) m = by_kept (keeps x) refl (in_only v xs) m
    where
      by_kept : (c : Bool)
          → keeps x ≡ c
          → (IsIn v (only keeps xs) → IsIn v xs × (keeps v ≡ true))
          → IsIn v (cond c (x ∷ only keeps xs) (only keeps xs))
          → IsIn v (x ∷ xs) × (keeps v ≡ true)
      by_kept true is next (inl e) = (inl e, ap keeps e ∙ is)
      by_kept true is next (inr k) = let h = next k in (inr h.0, h.1)
      by_kept false is next k = let h = next k in (inr h.0, h.1)

  pub only_in : (v : ℕ) (xs : List ℕ) → IsIn v xs → keeps v ≡ true → IsIn v (only keeps xs)
  only_in v [] m h = m
  only_in v (x ∷ xs) m h = by_kept (keeps x) refl (λ k. only_in v xs k h) m
    where
      by_kept : (c : Bool)
          → keeps x ≡ c
          → (IsIn v xs → IsIn v (only keeps xs))
          → IsIn v (x ∷ xs)
          → IsIn v (cond c (x ∷ only keeps xs) (only keeps xs))
      by_kept true is next (inl e) = inl e
      by_kept true is next (inr k) = inr (next k)
      by_kept false is next (inl e) = absurd (true≢false (sym h ∙ ap keeps e ∙ is))
      by_kept false is next (inr k) = next k

is_in_list : (x : ℕ) (xs : List ℕ) → is_in x xs ≡ true → IsIn x xs
is_in_list x [] h = absurd (true≢false (sym h))
is_in_list x (y ∷ ys) h = by_same (y == x) refl (is_in_list x ys) h
  where
    by_same : (c : Bool)
        → (y == x) ≡ c
        → (is_in x ys ≡ true → IsIn x ys)
        → cond c true (is_in x ys) ≡ true
        → IsIn x (y ∷ ys)
    by_same true is next q = inl (sym (eqb_is y x is))
    by_same false is next q = inr (next q)

pub below_in : (c n : ℕ) → c < n → IsIn c (up_to n)
below_in c zero h = absurd (omega (arith, h))
below_in c (suc n) h = by_case (cases_eq c n) (below_in c n)
  where
    by_case : (c ≡ n) ⊎ (c ≡ n → ⊥) → (c < n → IsIn c (up_to n)) → IsIn c (up_to n ++ n ∷ [])
    by_case (inl e) next = in_right c (up_to n) (n ∷ []) (inl e)
    by_case (inr k) next = in_left c (up_to n) (n ∷ []) (next (grind (arith, h, k)))

-- ---- pairs

module _ (f : ℕ → List ℕ) where
  abbrev with_each : ℕ → List (ℕ × ℕ)
  with_each c = map (λ (v : ℕ). (c, v)) (f c)

  in_append : {A : Type 0} (x : A) (xs ys : List A) → In x (xs ++ ys) → In x xs ⊎ In x ys
  in_append x [] ys m = inr m
  in_append x (y ∷ xs) ys (inl e) = inl (inl e)
  in_append x (y ∷ xs) ys (inr m) = by_side (in_append x xs ys m)
    where
      by_side : In x xs ⊎ In x ys → In x (y ∷ xs) ⊎ In x ys
      by_side (inl k) = inl (inr k)
      by_side (inr k) = inr k

  append_left : {A : Type 0} (x : A) (xs ys : List A) → In x xs → In x (xs ++ ys)
  append_left x [] ys m = absurd m
  append_left x (y ∷ xs) ys (inl e) = inl e
  append_left x (y ∷ xs) ys (inr m) = inr (append_left x xs ys m)

  append_right : {A : Type 0} (x : A) (xs ys : List A) → In x ys → In x (xs ++ ys)
  append_right x [] ys m = m
  append_right x (y ∷ xs) ys m = inr (append_right x xs ys m)

  in_row : (x : ℕ × ℕ) (c : ℕ) (vs : List ℕ) → In x (map (λ (v : ℕ). (c, v)) vs) → (x.0 ≡ c) × IsIn x.1 vs
  in_row x c [] m = absurd m
  in_row x c (v ∷ vs) (inl e) = (ap (λ (z : ℕ × ℕ). z.0) e, inl (ap (λ (z : ℕ × ℕ). z.1) e))
  in_row x c (v ∷ vs) (inr m) = let h = in_row x c vs m in (h.0, inr h.1)

  row_in : (c v : ℕ) (vs : List ℕ) → IsIn v vs → In {A = ℕ × ℕ} (c, v) (map (λ (u : ℕ). (c, u)) vs)
  row_in c v [] m = absurd m
  row_in c v (u ∷ us) (inl e) = inl (λ i. (c, e i))
  row_in c v (u ∷ us) (inr m) = inr (row_in c v us m)

  in_pairs : (x : ℕ × ℕ) (cs : List ℕ) → In x (flat_map with_each cs) → IsIn x.0 cs × IsIn x.1 (f x.0)
  in_pairs x [] m = absurd m
  in_pairs x (c ∷ cs) m = by_side (in_append x (with_each c) (flat_map with_each cs) m) (in_pairs x cs)
    where
      by_side : In x (with_each c) ⊎ In x (flat_map with_each cs)
          → (In x (flat_map with_each cs) → IsIn x.0 cs × IsIn x.1 (f x.0))
          → IsIn x.0 (c ∷ cs) × IsIn x.1 (f x.0)
      by_side (inl k) next =
          let h = in_row x c (f c) k in (inl h.0, subst (λ z. IsIn x.1 (f z)) (sym h.0) h.1)
      by_side (inr k) next = let h = next k in (inr h.0, h.1)

  pairs_in : (c v : ℕ) (cs : List ℕ) → IsIn c cs → IsIn v (f c) → In {A = ℕ × ℕ} (c, v) (flat_map with_each cs)
  pairs_in c v [] m k = absurd m
  pairs_in c v (d ∷ cs) (inl e) k =
      append_left (c, v) (with_each d) (flat_map with_each cs)
      (subst (λ z. In {A = ℕ × ℕ} (c, v) (with_each z)) e (row_in c v (f c) k))
  pairs_in c v (d ∷ cs) (inr m) k =
      append_right (c, v) (with_each d) (flat_map with_each cs) (pairs_in c v cs m k)

-- ---- MULTIEQUALs

join_is : (role : Role) → is_multi (Some role) ≡ true → IsJoin role
join_is (Joins atom) h = tt
join_is role h = absurd (true≢false (sym h))

multi_is : (role : Role) → IsJoin role → is_multi (Some role) ≡ true
multi_is (Joins atom) j = refl
multi_is role j = absurd j

-- a MULTIEQUAL of the block
pub record Head (p : Parts) (b v : ℕ) : Type 0 where
  pub row : OpRow
  pub is : op_at p.graph v ≡ Some row
  pub place : row.block ≡ b
  pub join : IsJoin (role_of row.code)

pub head_is : (p : Parts) (b v : ℕ) → is_head_in b (op_at p.graph v) ≡ true → Head p b v
head_is p b v h = by_row (op_at p.graph v) refl h
  where
    by_row : (o : Option OpRow) → op_at p.graph v ≡ o → is_head_in b o ≡ true → Head p b v
    by_row None is k = absurd (true≢false (sym k))
    by_row (Some r) is k =
        let both = both_hold (r.block == b) (is_multi (Some (role_of r.code))) k in
        record { row = r; is = is; place = eqb_is r.block b both.0; join = join_is (role_of r.code) both.1 }

pub is_head : (p : Parts) (b v : ℕ) → Head p b v → is_head_in b (op_at p.graph v) ≡ true
is_head p b v h =
    ap (is_head_in b) h.is
    ∙ (λ i. eq-eqb h.row.block b h.place i && multi_is (role_of h.row.code) h.join i)

pub not_head : (p : Parts) (b v : ℕ) (r : OpRow)
    → op_at p.graph v ≡ Some r
    → is_head_in b (op_at p.graph v) ≡ false
    → IsJoin (role_of r.code)
    → r.block ≡ b
    → ⊥
not_head p b v r is other j place =
    true≢false (sym (is_head p b v (record { row = r; is = is; place = place; join = j })) ∙ other)

module _ (p : Parts) (whole : IsWhole p.graph) where
  -- The MULTIEQUALs of a block are the ops of its list.
  pub in_heads : (b v : ℕ) → IsIn v (heads_of p b) → Head p b v
  in_heads b v m = by_row (op_at p.graph v) refl found.1 ((whole.ops b v).0 found.0)
    where
      found : IsIn v (block_at p.graph b) × (is_multi (role_at (op_at p.graph) v) ≡ true)
      found =
          in_only (λ x. is_multi (role_at (op_at p.graph) x)) v (block_at p.graph b)
          (in_order (λ x. atom_in (role_at (op_at p.graph) x)) v
          (only (λ x. is_multi (role_at (op_at p.graph) x)) (block_at p.graph b)) m)

      by_row : (o : Option OpRow)
          → op_at p.graph v ≡ o
          → is_multi (role_in o) ≡ true
          → in_block b o
          → Head p b v
      by_row None is h k = absurd k
      by_row (Some r) is h k = record { row = r; is = is; place = k; join = join_is (role_of r.code) h }

  pub heads_in : (b v : ℕ) → Head p b v → IsIn v (heads_of p b)
  heads_in b v h =
      order_in (λ x. atom_in (role_at (op_at p.graph) x)) v
      (only (λ x. is_multi (role_at (op_at p.graph) x)) (block_at p.graph b))
      (only_in (λ x. is_multi (role_at (op_at p.graph) x)) v (block_at p.graph b)
      ((whole.ops b v).1 (subst (in_block b) (sym h.is) h.place))
      (ap (λ o. is_multi (role_in o)) h.is ∙ multi_is (role_of h.row.code) h.join))

  pub in_next : (b : ℕ) (x : ℕ × ℕ)
      → In x (next_of p b)
      → IsIn x.0 (targets_in (block_with b p.blocks)) × Head p x.0 x.1
  in_next b x m =
      let h = in_pairs (heads_of p) x (onward_of p b) m in
      let to = in_only (λ c. is_in c (targets_in (block_with b p.blocks))) x.0 (up_to (length p.graph.blocks)) h.0 in
      (is_in_list x.0 (targets_in (block_with b p.blocks)) to.1, in_heads x.0 x.1 h.1)

  pub next_in : (b c v : ℕ)
      → c < length p.graph.blocks
      → IsIn c (targets_in (block_with b p.blocks))
      → Head p c v
      → In {A = ℕ × ℕ} (c, v) (next_of p b)
  next_in b c v low to h =
      pairs_in (heads_of p) c v (onward_of p b)
      (only_in (λ d. is_in d (targets_in (block_with b p.blocks))) c (up_to (length p.graph.blocks))
      (below_in c (length p.graph.blocks) low)
      (in_is c (targets_in (block_with b p.blocks)) to))
      (heads_in c v h)
