-- The look-ups by halves find what the frame says.
use Rattle.std.proofs.Common.{◌≡◌, ◌∙◌, ℕ, zero, suc, ◌+◌, ◌-◌, ◌<◌, ◌≤◌, ◌%◌, ◌==◌, ◌⊎◌, Bool, true, false, cond, List, [], ◌∷◌, length, get_or, Option, Some, None, refl, sym, ap, subst, inl, inr, ⊎_elim, arith}
use Rattle.std.specs.Prelude.{◌&&◌, ◌||◌, nat_lt, int_le, int_lt, ℤ, pos, negsuc, ◌+ℤ◌, ◌-ℤ◌, ◌≤ℤ◌, ◌<ℤ◌, slice_get}
use Rattle.std.specs.List.{AllByRecursion}
use Rattle.std.specs.List.Sorted.{IsPartitionPoint, IsPartitionedBy}
use Rattle.std.proofs.lemmas.Bool.{and_parts, eqb-true, cases_lt, lt-ltb, le-ltb}
use Rattle.std.proofs.lemmas.Bool.Decides.{nat_tests}
use Rattle.std.proofs.lemmas.Int.{ints}
use Rattle.std.proofs.lemmas.Option.{slice_get_past, slice_get_read}
use Rattle.std.proofs.Math.Nat.{mod-add-mod, mod-eq_of_lt, mod-eq-sub-mod, mod-lt}
use Rattle.pcode_model.specs.declared.frame.FrameAccess.{FrameAccess}
use Rattle.pcode_model.specs.declared.frame.FrameVariable.{FrameVariable}
use Rattle.pcode_model.specs.declared.listing.Place.{Place}
use Rattle.pcode_model.specs.Frame.{framed_in, is_byte_of, own_in, wrapped}
use Rattle.pcode_model.specs.Spaces.{or}
use Rattle.pcode_memory.specs.Frame.{ComesBefore, EndsBefore, IsNear, Rise, any_holds, begins_by, comes_before, end_of, ends_by, first_past, holds, is_at, own_of}

-- ---- lists in order

module _ {A : Type 0} where
  all_at : (P : A → Type 0) (xs : List A) → AllByRecursion P xs → (k : ℕ) (d : A) → k < length xs → P (get_or xs k d)
  all_at P [] all k d lt = absurd (omega (arith, lt))
  all_at P (x ∷ xs) all zero d lt = all.0
  all_at P (x ∷ xs) all (suc k) d lt = all_at P xs all.1 k d (omega (arith, lt))

  -- a test that an element passes with each one that comes after it
  pub parted : (R : A → A → Type 0) (test : A → Bool)
      → ((x y : A) → R x y → test y ≡ true → test x ≡ true)
      → (xs : List A)
      → Rise R xs
      → IsPartitionedBy test xs
  parted R test down [] up i j d le lt is = absurd (omega (arith, lt))
  parted R test down (x ∷ xs) up zero zero d le lt is = is
  parted R test down (x ∷ xs) up zero (suc j) d le lt is =
      down x (get_or xs j d) (all_at (R x) xs up.0 j d (omega (arith, lt))) is
  parted R test down (x ∷ xs) up (suc i) zero d le lt is = absurd (omega (arith, le))
  parted R test down (x ∷ xs) up (suc i) (suc j) d le lt is =
      parted R test down xs up.1 i j d (omega (arith, le)) (omega (arith, lt)) is

  by_test : (t : Bool) (x : A) (rest : Option A) → t ≡ false → cond t rest (Some x) ≡ Some x
  by_test true x rest e = absurd (cc)
  by_test false x rest e = refl

  past_test : (t : Bool) (x : A) (rest : Option A) → t ≡ true → cond t rest (Some x) ≡ rest
  past_test true x rest e = refl
  past_test false x rest e = absurd (cc)

  -- the element at a partition point is the first one that doesn't pass
  pub point_is : (test : A → Bool) (xs : List A) (k : ℕ)
      → IsPartitionPoint (λ x. test x ≡ true) (λ x. test x ≡ false) xs k
      → k ≤ length xs
      → slice_get xs k ≡ first_past test xs
  point_is test [] zero point le = refl
  point_is test [] (suc k) point le = refl
  point_is test (x ∷ xs) zero point le =
      sym (by_test (test x) x (first_past test xs) (point.1 0 x (omega arith) (omega arith)))
  point_is test (x ∷ xs) (suc k) point le =
      point_is test xs k (
        (λ i d low high. point.0 (suc i) d (omega arith) (omega (arith, high))),
        (λ i d low high. point.1 (suc i) d (omega (arith, low)) (omega (arith, high))),
      )
      (omega (arith, le))
      ∙ sym (past_test (test x) x (first_past test xs) (point.0 0 x (omega arith) (omega arith)))

-- ---- accesses

and_made : (s t : Bool) → s ≡ true → t ≡ true → (s && t) ≡ true
and_made true t a b = b
and_made false t a b = absurd (cc)

-- a place and a number, with what comes before them
before_down : (a b c d e f g h k : ℕ)
    → (nat_lt a d || (a == d && (nat_lt b e || (b == e && nat_lt c f)))) ≡ true
    → (nat_lt d g || (d == g && (nat_lt e h || (e == h && nat_lt f k)))) ≡ true
    → (nat_lt a g || (a == g && (nat_lt b h || (b == h && nat_lt c k)))) ≡ true
before_down a b c d e f g h k x y = grind (arith, nat_tests, x, y)

pub comes_down : (p : Place) (n : ℕ) (a b : FrameAccess)
    → ComesBefore a b
    → comes_before b p n ≡ true
    → comes_before a p n ≡ true
comes_down p n a b x y =
    before_down a.place.address a.place.index a.argument b.place.address b.place.index b.argument p.address p.index n x
    y

-- what comes before a place with a number isn't there
not_at : (a b c g h k : ℕ)
    → (nat_lt a g || (a == g && (nat_lt b h || (b == h && nat_lt c k)))) ≡ true
    → (a == g && (b == h && c == k)) ≡ false
not_at a b c g h k x = grind (arith, nat_tests, x)

-- what comes after something that doesn't come before it isn't there
later_not_at : (a b c d e f g h k : ℕ)
    → (nat_lt a d || (a == d && (nat_lt b e || (b == e && nat_lt c f)))) ≡ true
    → (nat_lt a g || (a == g && (nat_lt b h || (b == h && nat_lt c k)))) ≡ false
    → (d == g && (e == h && f == k)) ≡ false
later_not_at a b c d e f g h k x y = grind (arith, nat_tests, x, y)

own_test : (t : Bool) (o : ℕ) → t ≡ true → cond t (Some o) None ≡ Some o
own_test true o e = refl
own_test false o e = absurd (cc)

no_test : (t : Bool) (o : ℕ) → t ≡ false → cond t (Some o) None ≡ None
no_test true o e = absurd (cc)
no_test false o e = refl

module _ (size : ℕ) (p : Place) (n : ℕ) where
  passed : (t : Bool) (a : FrameAccess) (rest : List FrameAccess)
      → is_at a p n ≡ t
      → t ≡ false
      → own_in size (a ∷ rest) p n ≡ own_in size rest p n
  passed true a rest e f = absurd (cc)
  passed false a rest e f = ap (λ (b : Bool). cond b (Some (wrapped size a.offset)) (own_in size rest p n)) e

  none_later : (a : FrameAccess) (rest : List FrameAccess)
      → AllByRecursion (ComesBefore a) rest
      → comes_before a p n ≡ false
      → own_in size rest p n ≡ None
  none_later a [] all past = refl
  none_later a (b ∷ rest) all past =
      passed false b rest
      (later_not_at a.place.address a.place.index a.argument b.place.address b.place.index b.argument p.address
      p.index n all.0 past)
      refl
      ∙ none_later a rest all.1 past

  here : (t : Bool) (a : FrameAccess) (rest : List FrameAccess)
      → is_at a p n ≡ t
      → own_in size rest p n ≡ None
      → own_in size (a ∷ rest) p n ≡ own_of size (Some a) p n
  here t a rest e none = ap (λ (o : Option ℕ). cond (is_at a p n) (Some (wrapped size a.offset)) o) none

  -- the access of a place with a number is the first one that doesn't come before them, or there is none
  abbrev found : List FrameAccess → Option FrameAccess
  found xs = first_past (λ a. comes_before a p n) xs

  own_step : (t : Bool) (a : FrameAccess) (rest : List FrameAccess)
      → comes_before a p n ≡ t
      → AllByRecursion (ComesBefore a) rest
      → own_in size rest p n ≡ own_of size (found rest) p n
      → own_in size (a ∷ rest) p n ≡ own_of size (found (a ∷ rest)) p n
  own_step true a rest e all more =
      passed false a rest (not_at a.place.address a.place.index a.argument p.address p.index n e) refl
      ∙ (more
      ∙ ap (λ (o : Option FrameAccess). own_of size o p n) (sym (past_test (comes_before a p n) a (found rest) e)))
  own_step false a rest e all more =
      here (is_at a p n) a rest refl (none_later a rest all e)
      ∙ ap (λ (o : Option FrameAccess). own_of size o p n) (sym (by_test (comes_before a p n) a (found rest) e))

  own_found : (xs : List FrameAccess) → Rise ComesBefore xs → own_in size xs p n ≡ own_of size (found xs) p n
  own_found [] up = refl
  own_found (a ∷ rest) up = own_step (comes_before a p n) a rest refl up.0 (own_found rest up.1)

  -- what stands where the accesses that come before them end
  module _ (xs : List FrameAccess) (up : Rise ComesBefore xs) (k : ℕ)
      (is : slice_get xs k ≡ first_past (λ a. comes_before a p n) xs) where
    own_at : own_in size xs p n ≡ own_of size (slice_get xs k) p n
    own_at = own_found xs up ∙ ap (λ (o : Option FrameAccess). own_of size o p n) (sym is)

    pub own_past : length xs ≤ k → own_in size xs p n ≡ None
    own_past past = own_at ∙ ap (λ (o : Option FrameAccess). own_of size o p n) (slice_get_past xs k past)

    own_there : (a : FrameAccess) → k < length xs → a ≡ get_or xs k a → own_in size xs p n ≡ own_of size (Some a) p n
    own_there a lt at =
        own_at ∙ ap (λ (o : Option FrameAccess). own_of size o p n) (slice_get_read xs (length xs) k a refl lt at)

    pub own_is : (a : FrameAccess)
        → k < length xs
        → a ≡ get_or xs k a
        → is_at a p n ≡ true
        → own_in size xs p n ≡ Some (wrapped size a.offset)
    own_is a lt at same = own_there a lt at ∙ own_test (is_at a p n) (wrapped size a.offset) same

    pub own_isnt : (a : FrameAccess)
        → k < length xs
        → a ≡ get_or xs k a
        → is_at a p n ≡ false
        → own_in size xs p n ≡ None
    own_isnt a lt at other = own_there a lt at ∙ no_test (is_at a p n) (wrapped size a.offset) other

-- ---- variables

le_yes : (x y : ℤ) → x ≤ℤ y → int_le x y ≡ true
le_yes x y h = grind (arith, ints)

le_no : (x y : ℤ) → y <ℤ x → int_le x y ≡ false
le_no x y h = grind (arith, ints)

lt_yes : (x y : ℤ) → x <ℤ y → int_lt x y ≡ true
lt_yes x y h = grind (arith, ints)

lt_no : (x y : ℤ) → y ≤ℤ x → int_lt x y ≡ false
lt_no x y h = grind (arith, ints)

le_from : (x y : ℤ) → int_le x y ≡ true → x ≤ℤ y
le_from x y h = grind (arith, ints, h)

le_not : (x y : ℤ) → int_le x y ≡ false → y <ℤ x
le_not x y h = grind (arith, ints, h)

pub ends_down : (x : ℤ) (v w : FrameVariable) → EndsBefore v w → ends_by w x ≡ true → ends_by v x ≡ true
ends_down x v w apart h = le_yes (end_of v) x (let e = le_from (end_of w) x h in omega (arith, ints, apart, e))

no_low : (s t : Bool) → t ≡ false → (s && t) ≡ false
no_low true t e = e
no_low false t e = refl

no_high : (s t : Bool) → s ≡ false → (s && t) ≡ false
no_high true t e = absurd (cc)
no_high false t e = refl

or_rest : (s t : Bool) → s ≡ false → or s t ≡ t
or_rest true t e = absurd (cc)
or_rest false t e = refl

or_first : (s t : Bool) → t ≡ false → or s t ≡ s
or_first true t e = refl
or_first false t e = e

and_first : (s t : Bool) → t ≡ true → (s && t) ≡ s
and_first true t e = e
and_first false t e = refl

module _ (x : ℤ) where
  none_above : (v : FrameVariable) (rest : List FrameVariable)
      → AllByRecursion (EndsBefore v) rest
      → x <ℤ end_of v
      → any_holds rest x ≡ false
  none_above v [] all over = refl
  none_above v (w ∷ rest) all over =
      or_rest (holds w x) (any_holds rest x)
      (no_high _ _ (le_no w.offset x (let e : end_of v ≤ℤ w.offset = all.0 in omega (arith, ints, e, over))))
      ∙ none_above v rest all.1 over

  abbrev past : List FrameVariable → Option FrameVariable
  past vs = first_past (λ v. ends_by v x) vs

  holds_step : (t : Bool) (v : FrameVariable) (rest : List FrameVariable)
      → ends_by v x ≡ t
      → AllByRecursion (EndsBefore v) rest
      → any_holds rest x ≡ begins_by (past rest) x
      → any_holds (v ∷ rest) x ≡ begins_by (past (v ∷ rest)) x
  holds_step true v rest e all more =
      or_rest (holds v x) (any_holds rest x) (no_low _ _ (lt_no x (end_of v) (le_from (end_of v) x e)))
      ∙ (more ∙ ap (λ (o : Option FrameVariable). begins_by o x) (sym (past_test (ends_by v x) v (past rest) e)))
  holds_step false v rest e all more =
      or_first (holds v x) (any_holds rest x) (none_above v rest all (le_not (end_of v) x e))
      ∙ (and_first (int_le v.offset x) (int_lt x (end_of v)) (lt_yes x (end_of v) (le_not (end_of v) x e))
      ∙ ap (λ (o : Option FrameVariable). begins_by o x) (sym (by_test (ends_by v x) v (past rest) e)))

  -- a variable with the byte at an offset is the first one that doesn't end by it, or there is none
  holds_found : (vs : List FrameVariable) → Rise EndsBefore vs → any_holds vs x ≡ begins_by (past vs) x
  holds_found [] up = refl
  holds_found (v ∷ rest) up = holds_step (ends_by v x) v rest refl up.0 (holds_found rest up.1)

  module _ (vs : List FrameVariable) (up : Rise EndsBefore vs) (k : ℕ)
      (is : slice_get vs k ≡ first_past (λ v. ends_by v x) vs) where
    held_at : any_holds vs x ≡ begins_by (slice_get vs k) x
    held_at = holds_found vs up ∙ ap (λ (o : Option FrameVariable). begins_by o x) (sym is)

    pub held_past : length vs ≤ k → any_holds vs x ≡ false
    held_past past = held_at ∙ ap (λ (o : Option FrameVariable). begins_by o x) (slice_get_past vs k past)

    pub held_by : (v : FrameVariable) → k < length vs → v ≡ get_or vs k v → any_holds vs x ≡ int_le v.offset x
    held_by v lt at =
        held_at ∙ ap (λ (o : Option FrameVariable). begins_by o x) (slice_get_read vs (length vs) k v refl lt at)

-- ---- both sides of the entry word

one_true : (b s t : Bool) → b ≡ true → (s ≡ true) ⊎ (t ≡ true) → b ≡ or s t
one_true b true t e h = e
one_true b false t e (inl f) = absurd (cc)
one_true b false t e (inr f) = e ∙ sym f

none_true : (b s t : Bool) → b ≡ false → s ≡ false → t ≡ false → b ≡ or s t
none_true b true t e f g = absurd (cc)
none_true b false t e f g = e ∙ sym g

or_four : (a b s t : Bool) → or (or a b) (or s t) ≡ or (or a s) (or b t)
or_four true b s t = refl
or_four false true true t = refl
or_four false true false t = refl
or_four false false s t = refl

module _ (o e x : ℤ) where
  inside : o ≤ℤ x → x <ℤ e → (int_le o x && int_lt x e) ≡ true
  inside low high = and_made (int_le o x) (int_lt x e) (le_yes o x low) (lt_yes x e high)

  under : x <ℤ o → (int_le o x && int_lt x e) ≡ false
  under low = no_high (int_le o x) (int_lt x e) (le_no o x low)

  over : e ≤ℤ x → (int_le o x && int_lt x e) ≡ false
  over high = no_low (int_le o x) (int_lt x e) (lt_no x e high)

module _ (size c : ℕ) (some : 0 < size) where
  -- the offset below the space's size, and as far below the entry word
  abbrev m : ℕ
  m = c % size

  abbrev x : ℤ
  x = pos (c % size)

  abbrev y : ℤ
  y = pos (c % size) -ℤ pos size

  m_low : c % size < size
  m_low = mod-lt c some

  wrap_low : (k : ℕ) → c % size + k < size → (c + k) % size ≡ c % size + k
  wrap_low k lt = sym (mod-add-mod c size k) ∙ mod-eq_of_lt lt

  wrap_high : (k : ℕ) → size ≤ c % size + k → c % size + k < size + size → (c + k) % size ≡ c % size + k - size
  wrap_high k ge lt = sym (mod-add-mod c size k) ∙ (mod-eq-sub-mod ge ∙ mod-eq_of_lt (omega arith))

  above : (n : ℕ) → n < size → c + size - n % size ≡ c + (size - n)
  above n lt = let e : n % size ≡ n = mod-eq_of_lt lt in omega (arith, e, lt)

  beneath : (n : ℕ) → n < size → c + size - (size - suc (n % size)) ≡ c + suc n
  beneath n lt = let e : n % size ≡ n = mod-eq_of_lt lt in omega (arith, e, lt)

  -- a variable that begins above the entry word
  byte_above : (n k : ℕ) → n < size → n + k ≤ size
      → nat_lt ((c + size - n % size) % size) k
      ≡ or (int_le (pos n) x && int_lt x (pos (n + k))) (int_le (pos n) y && int_lt y (pos (n + k)))
  byte_above n k low high = ⊎_elim before from (cases_lt (c % size) n) where
    below_zero : (int_le (pos n) y && int_lt y (pos (n + k))) ≡ false
    below_zero = under (pos n) (pos (n + k)) y (omega (arith, ints, m_low))

    at : (v : ℕ) → (c + (size - n)) % size ≡ v → (c + size - n % size) % size ≡ v
    at v e = ap (λ (z : ℕ). z % size) (above n low) ∙ e

    value : (v : ℕ) (b : Bool)
        → (c + size - n % size) % size ≡ v
        → nat_lt v k ≡ b
        → nat_lt ((c + size - n % size) % size) k ≡ b
    value v b e f = ap (λ (z : ℕ). nat_lt z k) e ∙ f

    before : c % size < n
        → nat_lt ((c + size - n % size) % size) k
        ≡ or (int_le (pos n) x && int_lt x (pos (n + k))) (int_le (pos n) y && int_lt y (pos (n + k)))
    before lt =
        let v : ℕ = c % size + (size - n) in
        none_true _ _ _
        (value v false (at v (wrap_low (size - n) (omega (arith, lt, low))))
        (le-ltb v k (omega (arith, lt, low, high))))
        (under (pos n) (pos (n + k)) x (omega (arith, ints, lt)))
        below_zero

    from : n ≤ c % size
        → nat_lt ((c + size - n % size) % size) k
        ≡ or (int_le (pos n) x && int_lt x (pos (n + k))) (int_le (pos n) y && int_lt y (pos (n + k)))
    from ge =
        let v : ℕ = c % size + (size - n) - size in
        let e : (c + size - n % size) % size ≡ v =
        at v (wrap_high (size - n) (omega (arith, ge, low)) (omega (arith, m_low, low))) in
        ⊎_elim
        (λ lt. one_true _ _ _ (value v true e (lt-ltb v k (omega (arith, ge, lt, low))))
        (inl (inside (pos n) (pos (n + k)) x (omega (arith, ints, ge)) (omega (arith, ints, lt)))))
        (λ past. none_true _ _ _ (value v false e (le-ltb v k (omega (arith, ge, past, low))))
        (over (pos n) (pos (n + k)) x (omega (arith, ints, past))) below_zero)
        (cases_lt (c % size) (n + k))

  -- a variable that begins below the entry word
  byte_beneath : (n k : ℕ) → n < size
      → nat_lt ((c + size - (size - suc (n % size))) % size) k
      ≡ or (int_le (negsuc n) x && int_lt x (negsuc n +ℤ pos k)) (int_le (negsuc n) y && int_lt y (negsuc n +ℤ pos k))
  byte_beneath n k low = ⊎_elim before from (cases_lt (c % size + suc n) size) where
    at : (v : ℕ) → (c + suc n) % size ≡ v → (c + size - (size - suc (n % size))) % size ≡ v
    at v is = ap (λ (z : ℕ). z % size) (beneath n low) ∙ is

    value : (v : ℕ) (b : Bool)
        → (c + size - (size - suc (n % size))) % size ≡ v
        → nat_lt v k ≡ b
        → nat_lt ((c + size - (size - suc (n % size))) % size) k ≡ b
    value v b is f = ap (λ (z : ℕ). nat_lt z k) is ∙ f

    before : c % size + suc n < size
        → nat_lt ((c + size - (size - suc (n % size))) % size) k
        ≡ or (int_le (negsuc n) x && int_lt x (negsuc n +ℤ pos k))
        (int_le (negsuc n) y && int_lt y (negsuc n +ℤ pos k))
    before lt =
        let v : ℕ = c % size + suc n in
        let is : (c + size - (size - suc (n % size))) % size ≡ v = at v (wrap_low (suc n) lt) in
        ⊎_elim
        (λ less. one_true _ _ _ (value v true is (lt-ltb v k less))
        (inl (inside (negsuc n) (negsuc n +ℤ pos k) x (omega (arith, ints)) (omega (arith, ints, less)))))
        (λ past. none_true _ _ _ (value v false is (le-ltb v k past))
        (over (negsuc n) (negsuc n +ℤ pos k) x (omega (arith, ints, past)))
        (under (negsuc n) (negsuc n +ℤ pos k) y (omega (arith, ints, lt))))
        (cases_lt (c % size + suc n) k)

    from : size ≤ c % size + suc n
        → nat_lt ((c + size - (size - suc (n % size))) % size) k
        ≡ or (int_le (negsuc n) x && int_lt x (negsuc n +ℤ pos k))
        (int_le (negsuc n) y && int_lt y (negsuc n +ℤ pos k))
    from ge =
        let v : ℕ = c % size + suc n - size in
        let is : (c + size - (size - suc (n % size))) % size ≡ v =
        at v (wrap_high (suc n) ge (omega (arith, m_low, low))) in
        ⊎_elim
        (λ less.
        one_true _ _ _ (value v true is (lt-ltb v k (omega (arith, ge, less))))
        (inr (inside (negsuc n) (negsuc n +ℤ pos k) y (omega (arith, ints, ge)) (omega (arith, ints, less)))))
        (λ past. none_true _ _ _ (value v false is (le-ltb v k (omega (arith, ge, past))))
        (over (negsuc n) (negsuc n +ℤ pos k) x (omega (arith, ints, past)))
        (over (negsuc n) (negsuc n +ℤ pos k) y (omega (arith, ints, past))))
        (cases_lt (c % size + suc n) (k + size))

  byte_by : (o : ℤ) (k : ℕ)
      → 0 < k
      → pos 0 ≤ℤ (o +ℤ pos size)
      → (o +ℤ pos k) ≤ℤ pos size
      → nat_lt ((c + size - wrapped size o) % size) k
      ≡ or (int_le o x && int_lt x (o +ℤ pos k)) (int_le o y && int_lt y (o +ℤ pos k))
  byte_by (pos n) k more low high = byte_above n k (omega (arith, ints, more, high)) (omega (arith, ints, high))
  byte_by (negsuc n) k more low high = byte_beneath n k (omega (arith, ints, low))

  byte_is : (v : FrameVariable) → IsNear size v → is_byte_of size v c ≡ or (holds v x) (holds v y)
  byte_is v near = byte_by v.offset v.size near.some near.low near.high

  -- the byte at an offset is one of a variable at that offset below the size, or as far below the entry word
  pub framed_is : (vs : List FrameVariable)
      → AllByRecursion (IsNear size) vs
      → framed_in size vs c ≡ or (any_holds vs (pos (c % size))) (any_holds vs (pos (c % size) -ℤ pos size))
  framed_is [] near = refl
  framed_is (v ∷ rest) near =
      ap (λ (b : Bool). or b (framed_in size rest c)) (byte_is v near.0)
      ∙ (ap (λ (b : Bool). or (or (holds v x) (holds v y)) b) (framed_is rest near.1)
      ∙ or_four (holds v x) (holds v y) (any_holds rest x) (any_holds rest y))
