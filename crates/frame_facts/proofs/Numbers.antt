-- Signed numbers as offsets of a space that wraps.
use Rattle.std.proofs.Common.{◌≡◌, ◌≢◌, ℕ, zero, suc, ◌+◌, ◌-◌, ◌%◌, ◌<◌, ◌≤◌, Bool, true, false, refl, sym, ap, ◌∙◌, ◌⊎◌, inl, inr, ⊎_elim, arith}
use Rattle.std.specs.Prelude.{◌==◌, cond, nat_lt, nat_le, ℤ, pos, negsuc, neg_ℤ, ◌+ℤ◌, ◌-ℤ◌, ◌≤ℤ◌}
use Rattle.std.proofs.Math.Nat.{mod-add-mod, add-mod-mod, mod-eq_of_lt, add-mod_right, mod_self}
use Rattle.std.proofs.Math.IntN.{+ℤ_idr, +ℤ_one}
use Rattle.std.proofs.lemmas.Bool.{cases_eq, cases_lt}
use Rattle.std.proofs.lemmas.Bool.Decides.{nat_tests}
use Rattle.std.proofs.lemmas.Int.{ints}
use Rattle.bits_core.specs.Value.{limit, half, signed}
use Rattle.pcode_model.specs.Spaces.{next}
use Rattle.pcode_model.specs.Frame.{wrapped}
use Rattle.pcode_model.specs.Memory.{offset_from}

-- ---- one further

suc_wraps : (size n : ℕ) → 0 < size → suc n % size ≡ next size (n % size)
suc_wraps size n some = ⊎_elim
    (λ (last : suc (n % size) ≡ size).
    let t : (suc (n % size) == size) ≡ true = grind (arith, nat_tests) in
    let z : suc (n % size) % size ≡ 0 = ap (λ x. x % size) last ∙ mod_self size in
    e ∙ z ∙ sym (ap (λ b. cond b 0 (suc (n % size))) t))
    (λ (less : suc (n % size) ≢ size).
    let t : (suc (n % size) == size) ≡ false = grind (arith, nat_tests) in
    let below : n % size < size = omega (arith, some) in
    let lt : suc (n % size) < size = omega (arith, less, below) in
    e ∙ mod-eq_of_lt lt ∙ sym (ap (λ b. cond b 0 (suc (n % size))) t))
    (cases_eq (suc (n % size)) size)
  where
    e : suc n % size ≡ suc (n % size) % size
    e = ap (λ z. z % size) (let g : suc n ≡ 1 + n = omega arith in g) ∙ sym (add-mod-mod 1 n size)
        ∙ ap (λ z. z % size) (let g : 1 + n % size ≡ suc (n % size) = omega arith in g)

-- the offset of the number that is one more
pub wrapped_next : (size : ℕ) (z : ℤ) → 0 < size → wrapped size (z +ℤ pos 1) ≡ next size (wrapped size z)
wrapped_next size (pos n) some = ap (λ z. z % size) (let g : n + 1 ≡ suc n = omega arith in g) ∙ suc_wraps size n some
wrapped_next size (negsuc zero) some =
    let z : 0 % size ≡ 0 = mod-eq_of_lt some in
    let e : suc (size - suc (0 % size)) ≡ size = omega (arith, some, z) in
    let t : (suc (size - suc (0 % size)) == size) ≡ true = grind (arith, nat_tests) in
    z ∙ sym (ap (λ b. cond b 0 (suc (size - suc (0 % size)))) t)
wrapped_next size (negsuc (suc n)) some =
    ap (wrapped size) (+ℤ_one (negsuc (suc n))) ∙ by (cases_eq (suc (n % size)) size)
  where
    below : n % size < size
    below = omega (arith, some)

    by : ((suc (n % size) ≡ size) ⊎ (suc (n % size) ≢ size))
        → size - suc (n % size) ≡ next size (size - suc (suc n % size))
    by (inl last) =
        let t : (suc (n % size) == size) ≡ true = grind (arith, nat_tests) in
        let z : suc n % size ≡ 0 = suc_wraps size n some ∙ ap (λ b. cond b 0 (suc (n % size))) t in
        let u : (suc (size - suc (suc n % size)) == size) ≡ true = grind (arith, nat_tests, z, some) in
        let w : size - suc (n % size) ≡ 0 = omega (arith, last) in
        w ∙ sym (ap (λ b. cond b 0 (suc (size - suc (suc n % size)))) u)
    by (inr less) =
        let t : (suc (n % size) == size) ≡ false = grind (arith, nat_tests) in
        let z : suc n % size ≡ suc (n % size) = suc_wraps size n some ∙ ap (λ b. cond b 0 (suc (n % size))) t in
        let u : (suc (size - suc (suc n % size)) == size) ≡ false = grind (arith, nat_tests, z, below, less) in
        let w : size - suc (n % size) ≡ suc (size - suc (suc n % size)) = omega (arith, z, below, less) in
        w ∙ sym (ap (λ b. cond b 0 (suc (size - suc (suc n % size)))) u)

pub next_sum : (size w d : ℕ) → 0 < size → next size ((w + d) % size) ≡ (w + suc d) % size
next_sum size w d some =
    sym (suc_wraps size (w + d) some) ∙ ap (λ z. z % size) (let g : suc (w + d) ≡ w + suc d = omega arith in g)

pub wrapped_below : (size : ℕ) (z : ℤ) → 0 < size → wrapped size z < size
wrapped_below size (pos n) some = omega (arith, some)
wrapped_below size (negsuc n) some = omega (arith, some)

-- the offset of a number that is so much more
pub wrapped_sum : (size : ℕ) (z : ℤ) (d : ℕ) → 0 < size → wrapped size (z +ℤ pos d) ≡ (wrapped size z + d) % size
wrapped_sum size z zero some =
    let below = wrapped_below size z some in
    ap (wrapped size) (+ℤ_idr z) ∙ sym (mod-eq_of_lt below)
    ∙ ap (λ x. x % size) (let g : wrapped size z ≡ wrapped size z + 0 = omega arith in g)
wrapped_sum size z (suc d) some =
    let e : z +ℤ pos (suc d) ≡ (z +ℤ pos d) +ℤ pos 1 = omega (arith, ints) in
    ap (wrapped size) e ∙ wrapped_next size (z +ℤ pos d) some ∙ ap (next size) (wrapped_sum size z d some)
    ∙ next_sum size (wrapped size z) d some

-- ---- offsets and their signed numbers

pub wrapped_signed : (w c : ℕ) → c < limit w → wrapped (limit w) (signed w c) ≡ c
wrapped_signed w c low = by (nat_lt c (half w)) where
  back : wrapped (limit w) (pos c -ℤ pos (limit w)) ≡ c
  back =
      let e : pos c -ℤ pos (limit w) ≡ negsuc (limit w - suc c) = omega (arith, ints, low) in
      let f : (limit w - suc c) % limit w ≡ limit w - suc c = mod-eq_of_lt (omega (arith, low)) in
      let g : limit w - suc (limit w - suc c) ≡ c = omega (arith, low) in
      ap (wrapped (limit w)) e ∙ ap (λ x. limit w - suc x) f ∙ g

  by : (b : Bool) → wrapped (limit w) (cond b (pos c) (pos c -ℤ pos (limit w))) ≡ c
  by true = mod-eq_of_lt low
  by false = back

-- how much one number is more than another one
pub more_by : (y z : ℤ) → y ≤ℤ z → (d : ℕ) × (z ≡ y +ℤ pos d)
more_by y z h = by (z -ℤ y) refl where
  by : (x : ℤ) → z -ℤ y ≡ x → (d : ℕ) × (z ≡ y +ℤ pos d)
  by (pos d) e = (d, omega (arith, ints, e))
  by (negsuc n) e = absurd (let f : negsuc n ≡ neg_ℤ (pos (suc n)) = refl in omega (arith, ints, e, f, h))

-- ---- addresses

-- the offset of an address that an offset makes
pub offset_back : (size entry c : ℕ) → entry < size → c < size → c ≡ offset_from size entry ((entry + c) % size)
offset_back size entry c a b = ⊎_elim
    (λ (lt : entry + c < size).
    let e : (entry + c) % size ≡ entry + c = mod-eq_of_lt lt in
    let t : nat_le entry (entry + c) ≡ true = grind (arith, nat_tests) in
    (let g : c ≡ entry + c - entry = omega arith in g)
    ∙ sym (ap (λ x. cond x (entry + c - entry) (entry + c + size - entry)) t)
    ∙ ap (offset_from size entry) (sym e))
    (λ (ge : size ≤ entry + c).
    let f : (entry + c) % size ≡ entry + c - size =
    ap (λ z. z % size) (let g : entry + c ≡ (entry + c - size) + size = omega (arith, ge) in g)
    ∙ add-mod_right (entry + c - size) size ∙ mod-eq_of_lt (omega (arith, a, b, ge)) in
    let t : nat_le entry (entry + c - size) ≡ false = grind (arith, nat_tests, b, ge) in
    (let g : c ≡ entry + c - size + size - entry = omega (arith, ge) in g)
    ∙ sym (ap (λ x. cond x (entry + c - size - entry) (entry + c - size + size - entry)) t)
    ∙ ap (offset_from size entry) (sym f))
    (cases_lt (entry + c) size)

-- how far an offset lies above another one
pub lies_above : (size w d : ℕ) → 0 < size → w < size → ((w + d) % size + size - w) % size ≡ d % size
lies_above size w d some low =
    let e : (w + d) % size + size - w ≡ (w + d) % size + (size - w) = omega (arith, low) in
    let g : w + d + (size - w) ≡ d + size = omega (arith, low) in
    ap (λ z. z % size) e ∙ mod-add-mod (w + d) size (size - w) ∙ ap (λ z. z % size) g ∙ add-mod_right d size
