-- What an op that copies an address, or adds a constant to one or takes one away, writes to its output.
use Rattle.std.proofs.Common.{◌≡◌, ℕ, ◌+◌, ◌-◌, ◌%◌, List, ◌∷◌, refl, sym, ap, ◌∙◌, inl, inr, arith}
use Rattle.std.specs.Prelude.{Result, Ok, Err, slice_index}
use Rattle.machine.specs.Trace.{End}
use Rattle.bits_core.specs.Value.{limit, add, sub}
use Rattle.pcode_model.specs.declared.listing.Varnode.{Varnode}
use Rattle.pcode_model.specs.declared.listing.Listing.{Listing}
use Rattle.pcode_model.specs.Spaces.{kind_of}
use Rattle.pcode_model.specs.WellFormed.{IsWellFormed}
use Rattle.pcode_model.specs.Memory.{Acts, Frame}
use Rattle.pcode_model.specs.Atoms.{IsLocal}
use Rattle.pcode_model.specs.Step.{State, local_word, read_varnode, read_all, with_first, all_read}
use Rattle.frame_facts.specs.Facts.{IsConstant}
use Rattle.frame_facts.proofs.Spaces.{register_is, unique_is}
use Rattle.frame_runs.proofs.Words.{sum_again}

module _ {M : Type 0} (m : Acts M) (l : Listing) (s : State M) where
  -- a register or unique range reads as its word
  pub reads_local : IsWellFormed l
      → (v : Varnode)
      → IsLocal l v.space
      → read_varnode m l (kind_of l v.space) v s ≡ Ok (local_word l v s.local)
  reads_local read v (inl e) = ap (λ k. read_varnode m l k v s) (ap (kind_of l) e ∙ register_is l read)
  reads_local read v (inr e) = ap (λ k. read_varnode m l k v s) (ap (kind_of l) e ∙ unique_is l read)

  -- a constant reads as itself
  pub reads_constant : (v : Varnode) → IsConstant l v → read_varnode m l (kind_of l v.space) v s ≡ Ok v.offset
  reads_constant v e = ap (λ k. read_varnode m l k v s) e

  -- the first word of those that are read, and the rest
  pub first_read : (r : Result ℕ End) (rs : Result (List ℕ) End) (ws : List ℕ) (n : ℕ)
      → with_first r rs ≡ Ok ws
      → r ≡ Ok n
      → (slice_index ws 0 ≡ n) × ((us : List ℕ) × ((rs ≡ Ok us) × (ws ≡ n ∷ us)))
  first_read (Err e) rs ws n h f = absurd (cc)
  first_read (Ok x) (Err e) ws n h f = absurd (cc)
  first_read (Ok x) (Ok us) ws n h f =
      let a : x ≡ n = cc in
      let b : x ∷ us ≡ ws = cc in
      let c : ws ≡ n ∷ us = sym b ∙ ap (λ y. y ∷ us) a in
      (ap (λ ys. slice_index ys 0) c, (us, (refl, c)))

  -- the first two words, where both inputs are known to read so
  pub two_read : (f : Frame) (a b : Varnode) (rest : List Varnode) (ws : List ℕ) (x y : ℕ)
      → read_all m l f s (all_read (a ∷ b ∷ rest)) ≡ Ok ws
      → read_varnode m l (kind_of l a.space) a s ≡ Ok x
      → read_varnode m l (kind_of l b.space) b s ≡ Ok y
      → (slice_index ws 0 ≡ x) × (slice_index ws 1 ≡ y)
  two_read f a b rest ws x y h ra rb =
      let one = first_read (read_varnode m l (kind_of l a.space) a s) (read_all m l f s (all_read
      (b ∷ rest))) ws x h ra in
      let two = first_read (read_varnode m l (kind_of l b.space) b s) (read_all m l f s
      (all_read rest)) one.1.0 y one.1.1.0 rb in
      (one.0, ap (λ ys. slice_index ys 1) one.1.1.1 ∙ two.0)

-- ---- sums and differences, at the width of an address

pub sum_is : (entry b n c size w : ℕ)
    → size ≡ limit w
    → c ≡ (b + n) % size
    → add w ((entry + b) % size) n ≡ (entry + c) % size
unfolding add
sum_is entry b n c size w e f =
    ap (λ z. ((entry + b) % size + n) % z) (sym e)
    ∙ sum_again size entry b n
    ∙ ap (λ z. (entry + z) % size) (sym f)

pub sum_is_right : (entry b n c size w : ℕ)
    → size ≡ limit w
    → c ≡ (b + n) % size
    → add w n ((entry + b) % size) ≡ (entry + c) % size
unfolding add
sum_is_right entry b n c size w e f =
    ap (λ z. z % limit w) (let g : n + (entry + b) % size ≡ (entry + b) % size + n = omega arith in g)
    ∙ sum_is entry b n c size w e f

pub difference_is : (entry b n c size w : ℕ)
    → size ≡ limit w
    → c ≡ (b + (size - n)) % size
    → sub w ((entry + b) % size) n ≡ (entry + c) % size
unfolding sub
difference_is entry b n c size w e f =
    ap (λ z. ((entry + b) % size + (z - n)) % z) (sym e)
    ∙ sum_again size entry b (size - n)
    ∙ ap (λ z. (entry + z) % size) (sym f)
