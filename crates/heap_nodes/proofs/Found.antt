-- Where the box at a pointer stands in a row of boxes.
use Rattle.std.proofs.Common.{◌≡◌, ℕ, suc, ◌<◌, Bool, true, false, List, [], ◌∷◌, length, get_or, set, refl, sym, ap, ◌∙◌, subst, arith, cond, Some, IsSome, true≢false}
use denote.RawPtr.{Ptr, block_ptr, null_ptr}
use Rattle.heap_nodes.specs.declared.owner.Owner.{Owner}
use Rattle.heap_nodes.specs.Owners.{same_ptr, value_at, set_at}

pub same_ptr_eq : (p q : Ptr) → same_ptr p q ≡ true → p ≡ q
same_ptr_eq (block_ptr b o) (block_ptr c p) e = grind arith
same_ptr_eq (block_ptr b o) null_ptr e = absurd (true≢false (sym e))
same_ptr_eq null_ptr (block_ptr c p) e = absurd (true≢false (sym e))
same_ptr_eq null_ptr null_ptr e = refl

module _ {T A : Type 0} where
  pub record Found (p : Ptr) (xs : List (Owner T A)) : Type 0 where
    pub index : ℕ
    pub box : Owner T A
    pub low : index < length xs
    pub at : box.at ≡ p
    pub is : get_or xs index box ≡ box
    pub value : value_at p xs ≡ Some box.value
    pub put : (x : T) → set_at p x xs ≡ set xs index (record box { value = x })

  found_by : (p : Ptr) (b : Owner T A) (bs : List (Owner T A)) (t : Bool)
      → same_ptr b.at p ≡ t
      → (IsSome (value_at p bs) → Found p bs)
      → IsSome (value_at p (b ∷ bs))
      → Found p (b ∷ bs)
  found_by p b bs true e rest h = record {
    index = 0;
    box = b;
    low = omega arith;
    at = same_ptr_eq b.at p e;
    is = refl;
    value = ap (λ t. cond t (Some b.value) (value_at p bs)) e;
    put = λ x. ap (λ t. cond t (record b { value = x } ∷ bs) (b ∷ set_at p x bs)) e;
  }
  found_by p b bs false e rest h =
      let f = rest (subst (λ t. IsSome (cond t (Some b.value) (value_at p bs))) e h) in
      record {
        index = suc f.index;
        box = f.box;
        low = omega (arith, f.low);
        at = f.at;
        is = f.is;
        value = ap (λ t. cond t (Some b.value) (value_at p bs)) e ∙ f.value;
        put = λ x. ap (λ t. cond t (record b { value = x } ∷ bs) (b ∷ set_at p x bs)) e ∙ ap (λ ys. b ∷ ys) (f.put x);
      }

  pub found : (p : Ptr) (xs : List (Owner T A)) → IsSome (value_at p xs) → Found p xs
  found p [] h = absurd (true≢false (sym h))
  found p (b ∷ bs) h = found_by p b bs (same_ptr b.at p) refl (found p bs) h
