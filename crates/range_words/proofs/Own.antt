-- The bytes of frame variables as ranges: what is read of one, and what a write of one makes.
use Rattle.std.proofs.Common.{◌≡◌, ◌≢◌, ℕ, zero, suc, ◌+◌, ◌-◌, ◌<◌, Bool, true, false, List, [], ◌∷◌, length, refl, sym, ap, ◌∙◌, arith}
use Rattle.std.specs.Prelude.{◌==◌, ◌&&◌, cond, nat_lt, slice_get, Ok}
use Rattle.std.proofs.Math.Path.{fun_ext}
use Rattle.std.proofs.lemmas.Bool.Decides.{nat_tests}
use Rattle.machine.specs.Trace.{End, ReadOnlyWrite}
use Rattle.bits_core.specs.Bytes.{word_of}
use Rattle.pcode_model.specs.declared.listing.Space.{Space}
use Rattle.pcode_model.specs.declared.listing.SpaceKind.{SpaceKind}
use Rattle.pcode_model.specs.declared.listing.SpaceKind.TheVariants.{Constant, Ram, Register, Unique}
use Rattle.pcode_model.specs.declared.listing.Varnode.{Varnode}
use Rattle.pcode_model.specs.declared.listing.Listing.{Listing}
use Rattle.pcode_model.specs.Spaces.{bytes_at, each_at, first_ram, is_big, is_fixed, kind_in, kind_of, next, number_of, put, put_in, same_kind, size_of}
use Rattle.pcode_model.specs.Memory.{Apart, Bytes, any_fixed, apart, keep_own, poke_apart, unless}
use Rattle.pcode_model.specs.Step.{bytes_in, local_word, with_word}
use Rattle.pcode_laws.proofs.Puts.{next_below}
use Rattle.range_words.specs.Own.{HasOwn, centred, frame_range, half, stack_size, with_own}
use Rattle.range_words.specs.Ranges.{AreBytes}

-- ---- offsets

-- with so many addresses in each half
abbrev shifted : ℕ → ℕ → ℕ
shifted h c = cond (nat_lt c h) (c + h) (c - h)

module _ (h size : ℕ) (even : h + h ≡ size) where
  shifted_below : (c : ℕ) → c < size → shifted h c < size
  shifted_below c below = grind (arith, nat_tests)

  shifted_back : (c : ℕ) → c < size → shifted h (shifted h c) ≡ c
  shifted_back c below = grind (arith, nat_tests)

  shifted_next : (c : ℕ) → c < size → shifted h (next size c) ≡ next size (shifted h c)
  shifted_next c below = grind (arith, nat_tests)

  shifted_same : (c p : ℕ) → c < size → p < size → (shifted h p == c) ≡ (p == shifted h c)
  shifted_same c p below lt = grind (arith, nat_tests)

module _ (size : ℕ) (even : half size + half size ≡ size) (c : ℕ) (below : c < size) where
  pub centred_below : centred size c < size
  centred_below = shifted_below (half size) size even c below

  pub centred_back : centred size (centred size c) ≡ c
  centred_back = shifted_back (half size) size even c below

  pub centred_next : centred size (next size c) ≡ next size (centred size c)
  centred_next = shifted_next (half size) size even c below

  pub centred_same : (p : ℕ) → p < size → (centred size p == c) ≡ (p == centred size c)
  centred_same p lt = shifted_same (half size) size even c p below lt

-- ---- other spaces

kind_first : (spaces : List Space) (k : SpaceKind)
    → k ≢ Ram
    → k ≢ Constant
    → kind_in (slice_get spaces (number_of Ram spaces)) ≡ k
    → ⊥
kind_first [] k ram constant is = constant (sym is)
kind_first (s ∷ rest) k ram constant is = by s.kind refl is (λ h. kind_first rest k ram constant h)
  where
    by : (j : SpaceKind)
        → s.kind ≡ j
        → kind_in (slice_get (s ∷ rest) (cond (same_kind Ram j) 0 (suc (number_of Ram rest)))) ≡ k
        → (kind_in (slice_get rest (number_of Ram rest)) ≡ k → ⊥)
        → ⊥
    by Ram e h later = ram (sym h ∙ e)
    by Constant e h later = later h
    by Register e h later = later h
    by Unique e h later = later h

register_ram : Register ≢ Ram
register_ram e = absurd (cc)

register_constant : Register ≢ Constant
register_constant e = absurd (cc)

unique_ram : Unique ≢ Ram
unique_ram e = absurd (cc)

unique_constant : Unique ≢ Constant
unique_constant e = absurd (cc)

module _ (l : Listing) (s : ℕ) where
  -- The first ram space is no register space and no unique space.
  pub register_off : kind_of l s ≡ Register → s ≢ first_ram l
  register_off is same =
      kind_first l.spaces Register register_ram register_constant (ap (kind_of l) (sym same) ∙ is)

  pub unique_off : kind_of l s ≡ Unique → s ≢ first_ram l
  unique_off is same = kind_first l.spaces Unique unique_ram unique_constant (ap (kind_of l) (sym same) ∙ is)

module _ (l : Listing) (own : ℕ → ℕ) (m : Bytes) where
  with_own_else : (s o : ℕ) → s ≢ first_ram l → with_own l own m s o ≡ m s o
  with_own_else s o ne =
      let out : (s == first_ram l && nat_lt o (stack_size l)) ≡ false = grind (arith, nat_tests) in
      ap (λ b. cond b (own (centred (stack_size l) o)) (m s o)) out

  -- A range of another space keeps its word.
  pub word_else : (v : Varnode) → v.space ≢ first_ram l → local_word l v (with_own l own m) ≡ local_word l v m
  word_else v ne =
      ap (λ (f : ℕ → ℕ). word_of (is_big l v.space) (bytes_at (size_of l v.space) f v.offset v.size))
      (fun_ext (λ o. with_own_else v.space o ne))

  -- Bytes with bytes are bytes.
  pub own_bytes : AreBytes m → ((o : ℕ) → own o < 256) → AreBytes (with_own l own m)
  own_bytes are small s o = by (s == first_ram l && nat_lt o (stack_size l))
    where
      by : (b : Bool) → cond b (own (centred (stack_size l) o)) (m s o) < 256
      by true = small (centred (stack_size l) o)
      by false = are s o

module _ (l : Listing) (own : ℕ → ℕ) (s : ℕ) (ne : s ≢ first_ram l) where
  one_else : (o b : ℕ) (m : Bytes) → with_own l own (put_in s o b m) ≡ put_in s o b (with_own l own m)
  one_else o b m = fun_ext (λ t. fun_ext (λ p.
      by t p (t == first_ram l && nat_lt p (stack_size l)) (t == s && p == o) refl refl))
    where
      by : (t p : ℕ) (c d : Bool)
          → (t == first_ram l && nat_lt p (stack_size l)) ≡ c
          → (t == s && p == o) ≡ d
          → cond c (own (centred (stack_size l) p)) (cond d b (m t p))
          ≡ cond d b (cond c (own (centred (stack_size l) p)) (m t p))
      by t p true true e f =
          let ram : t ≡ first_ram l = grind (arith, nat_tests) in
          let there : t ≡ s = grind (arith, nat_tests) in
          absurd (ne (sym there ∙ ram))
      by t p true false e f = refl
      by t p false true e f = refl
      by t p false false e f = refl

  each_else : (size o : ℕ) (bs : List ℕ) (m : Bytes)
      → with_own l own (each_at size (put_in s) o bs m) ≡ each_at size (put_in s) o bs (with_own l own m)
  each_else size o [] m = refl
  each_else size o (b ∷ bs) m =
      each_else size (next size o) bs (put_in s o b m)
      ∙ ap (each_at size (put_in s) (next size o) bs) (one_else o b m)

-- A word is written to a range of another space beside them.
pub written_else : (l : Listing) (own : ℕ → ℕ) (v : Varnode) (n : ℕ) (m : Bytes)
    → v.space ≢ first_ram l
    → with_own l own (with_word l v n m) ≡ with_word l v n (with_own l own m)
written_else l own v n m ne =
    each_else l own v.space ne (size_of l v.space) v.offset (bytes_in l v.space v.size n) m

-- ---- ranges of the frame

module _ (l : Listing) (even : half (stack_size l) + half (stack_size l) ≡ stack_size l) where
  abbrev stack : ℕ
  stack = stack_size l

  abbrev ram : ℕ
  ram = first_ram l

  at_own : (own : ℕ → ℕ) (m : Bytes) (c : ℕ) → c < stack → with_own l own m ram (centred stack c) ≡ own c
  at_own own m c below =
      let lt = centred_below stack even c below in
      let here : (ram == ram && nat_lt (centred stack c) stack) ≡ true = within (centred stack c) lt in
      ap (λ b. cond b (own (centred stack (centred stack c))) (m ram (centred stack c))) here
      ∙ ap own (centred_back stack even c below)
    where
      within : (p : ℕ) → p < stack → (ram == ram && nat_lt p stack) ≡ true
      within p lt = grind (arith, nat_tests)

  read_own_at : (own : ℕ → ℕ) (m : Bytes) (c k : ℕ)
      → c < stack
      → bytes_at stack (with_own l own m ram) (centred stack c) k ≡ bytes_at stack own c k
  read_own_at own m c zero below = refl
  read_own_at own m c (suc k) below =
      let there = with_own l own m ram in
      ap (λ b. b ∷ bytes_at stack there (next stack (centred stack c)) k) (at_own own m c below)
      ∙ ap (λ o. own c ∷ bytes_at stack there o k) (sym (centred_next stack even c below))
      ∙ ap (λ bs. own c ∷ bs) (read_own_at own m (next stack c) k (next_below stack c below))

  -- The word of a range of the frame is that of its bytes.
  pub frame_word_is : (own : ℕ → ℕ) (m : Bytes) (c k : ℕ)
      → c < stack
      → local_word l (frame_range l c k) (with_own l own m) ≡ word_of (is_big l ram) (bytes_at stack own c k)
  frame_word_is own m c k below = ap (word_of (is_big l ram)) (read_own_at own m c k below)

  one_own : (own : ℕ → ℕ) (m : Bytes) (c b : ℕ)
      → c < stack
      → with_own l (put own c b) m ≡ put_in ram (centred stack c) b (with_own l own m)
  one_own own m c b below = fun_ext (λ t. fun_ext (λ p. by t p (t == ram && nat_lt p stack) refl))
    where
      by : (t p : ℕ) (d : Bool)
          → (t == ram && nat_lt p stack) ≡ d
          → cond d (cond (centred stack p == c) b (own (centred stack p))) (m t p)
          ≡ cond (t == ram && p == centred stack c) b (cond d (own (centred stack p)) (m t p))
      by t p true e =
          let lt : p < stack = grind (arith, nat_tests) in
          let there : (t == ram) ≡ true = grind (arith, nat_tests) in
          ap (λ a. cond a b (own (centred stack p)))
          (centred_same stack even c below p lt ∙ sym (ap (λ a. a && p == centred stack c) there))
      by t p false e =
          let lt = centred_below stack even c below in
          let off : (t == ram && p == centred stack c) ≡ false = beside t p (centred stack c) lt e in
          sym (ap (λ a. cond a b (m t p)) off)
        where
          beside : (t p o : ℕ) → o < stack → (t == ram && nat_lt p stack) ≡ false → (t == ram && p == o) ≡ false
          beside t p o lt e = grind (arith, nat_tests)

  each_own : (own : ℕ → ℕ) (m : Bytes) (c : ℕ) (bs : List ℕ)
      → c < stack
      → with_own l (each_at stack (λ o b f. put f o b) c bs own) m
      ≡ each_at stack (put_in ram) (centred stack c) bs (with_own l own m)
  each_own own m c [] below = refl
  each_own own m c (b ∷ bs) below =
      each_own (put own c b) m (next stack c) bs (next_below stack c below)
      ∙ ap (λ o. each_at stack (put_in ram) o bs (with_own l (put own c b) m)) (centred_next stack even c below)
      ∙ ap (each_at stack (put_in ram) (next stack (centred stack c)) bs) (one_own own m c b below)

  -- A word that is written to bytes of the frame is written to their range.
  pub frame_written : (own : ℕ → ℕ) (m : Bytes) (c k n : ℕ)
      → c < stack
      → with_own l (each_at stack (λ o b f. put f o b) c (bytes_in l ram k n) own) m
      ≡ with_word l (frame_range l c k) n (with_own l own m)
  frame_written own m c k n below = each_own own m c (bytes_in l ram k n) below

-- ---- the memory with bytes of frame variables apart

keeps_own : (size c : ℕ) (bs : List ℕ) (w : Apart)
    → (each_at size keep_own c bs w).own ≡ each_at size (λ o b f. put f o b) c bs w.own
keeps_own size c [] w = refl
keeps_own size c (b ∷ bs) w = keeps_own size (next size c) bs (keep_own c b w)

keeps_bytes : (size c : ℕ) (bs : List ℕ) (w : Apart) → (each_at size keep_own c bs w).bytes ≡ w.bytes
keeps_bytes size c [] w = refl
keeps_bytes size c (b ∷ bs) w = keeps_bytes size (next size c) bs (keep_own c b w)

pokes_own : (size s a : ℕ) (bs : List ℕ) (w : Apart) → (each_at size (poke_apart s) a bs w).own ≡ w.own
pokes_own size s a [] w = refl
pokes_own size s a (b ∷ bs) w = pokes_own size s (next size a) bs (poke_apart s a b w)

-- what is there unless a test says that the run ends
the_one : {A : Type 0} (b : Bool) (e : End) (x v : A) → unless b e (Ok x) ≡ Ok v → v ≡ x
the_one true e x v is = absurd (cc)
the_one false e x v is = cc

-- In the frame run they are what its memory has by offset.
pub apart_has_own : (l : Listing) → HasOwn (apart l) l (λ w. w.bytes) (λ w. w.own)
apart_has_own l = record {
  read_own = λ a c k w. refl;
  write_own = λ a c bs w. keeps_own (stack_size l) c bs w;
  look_own = λ a c bs w. keeps_bytes (stack_size l) c bs w;
  write = λ s a bs w v is.
      ap (λ (x : Apart). x.own)
      (the_one (any_fixed l s a (length bs)) ReadOnlyWrite (each_at (size_of l s) (poke_apart s) a bs w) v is)
      ∙ pokes_own (size_of l s) s a bs w;
  answer = λ x w v is.
      ap (λ (y : Apart). y.own)
      (the_one (is_fixed l x.space x.offset) ReadOnlyWrite (poke_apart x.space x.offset x.value w) v is);
  hide = λ x w. refl;
}
