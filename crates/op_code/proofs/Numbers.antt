-- The variables by where their ranges begin, by their table.
use Rattle.std.proofs.Common.{◌≡◌, ℕ, ◌==◌, Bool, true, List, [], ◌∷◌, ◌++◌, length, sym, ap, ap₂, ◌∙◌}
use Rattle.std.specs.Prelude.{Some, None, cond, slice_get}
use Rattle.std.specs.Ordering.{is_eq, nat_cmp}
use Rattle.std.specs.Cmp.{Equal-is, both_tied, unsigned_tied}
use Rattle.std.specs.BTreeMap.{BTreeMap, get, Updates}
use Rattle.std.proofs.lemmas.Map.Lookups.{exact_unsigned, exact_pairs}
use Rattle.pcode_model.specs.declared.listing.Varnode.{Varnode}
use Rattle.cmeaning.proofs.Places.{put, kept}
use Rattle.op_code.specs.Cover.{begins, piece_by, piece_of, pieces_at}
use Rattle.op_code.specs.Numbers.{key_of, key_cmp, HasNumbers}

-- ---- keys

same_key : (j k : ℕ × ℕ) → is_eq (key_cmp j k) ≡ true → j ≡ k
same_key j k h = exact_pairs nat_cmp nat_cmp exact_unsigned exact_unsigned j k ((Equal-is (key_cmp j k)).0 h)

abbrev begins_at : ℕ × ℕ → Varnode → Bool
begins_at key v = begins key.0 key.1 v

key_is : (v : Varnode) (key : ℕ × ℕ) → begins_at key v ≡ is_eq (key_cmp (key_of v) key)
key_is v key = both_tied (v.space == key.0) (v.offset == key.1) (nat_cmp v.space key.0) (nat_cmp v.offset key.1)
    (sym (unsigned_tied v.space key.0)) (sym (unsigned_tied v.offset key.1))

-- ---- the table

module _ (ranges : List Varnode) (v : Varnode) (m : BTreeMap (ℕ × ℕ) ℕ) (key : ℕ × ℕ) (same : key_of v ≡ key)
    (table : HasNumbers ranges m) where
  its_key : (k : ℕ × ℕ) → begins_at k v ≡ true → key ≡ k
  its_key k hit = sym same ∙ same_key (key_of v) k (sym (key_is v k) ∙ hit)

  pub number_put : (n : BTreeMap (ℕ × ℕ) ℕ) (end : ℕ)
      → end ≡ length ranges
      → get key_cmp m key ≡ None
      → Updates key_cmp m n key (Some end)
      → HasNumbers (ranges ++ v ∷ []) n
  number_put n end last absent updates =
      put begins_at ranges v (get key_cmp m) table (get key_cmp n)
      (λ k. updates.0 k ∙ ap₂ (λ (j : ℕ × ℕ) (e : ℕ). cond (is_eq (key_cmp j k)) (Some e) (get key_cmp m k))
      (sym same) last ∙ ap (λ t. cond t (Some (length ranges)) (get key_cmp m k)) (sym (key_is v k)))
      (λ k hit. ap (get key_cmp m) (sym (its_key k hit)) ∙ absent)

  pub number_kept : (get key_cmp m key ≡ None → ⊥) → HasNumbers (ranges ++ v ∷ []) m
  number_kept present =
      kept begins_at ranges v (get key_cmp m) table
      (λ k hit none. present (ap (get key_cmp m) (its_key k hit) ∙ none))

-- ---- what the table gives

module _ (ranges : List Varnode) (m : BTreeMap (ℕ × ℕ) ℕ) (table : HasNumbers ranges m) (space offset : ℕ) where
  pub pieces_none : None ≡ get key_cmp m (space, offset) → pieces_at ranges space offset ≡ []
  pieces_none absent = ap (piece_by ranges) (sym (table (space, offset)) ∙ sym absent)

  pub pieces_some : (n : ℕ)
      → Some n ≡ get key_cmp m (space, offset)
      → pieces_at ranges space offset ≡ piece_of n (slice_get ranges n)
  pieces_some n there = ap (piece_by ranges) (sym (table (space, offset)) ∙ sym there)
