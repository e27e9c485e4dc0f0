-- Ranges as numbers, and back.
use Rattle.std.proofs.Common.{◌≡◌, ℕ, zero, suc, ◌*◌, ◌/◌, ◌%◌, ◌<◌, ◌≤◌, ◌^◌, Bool, true, false, List, [], ◌∷◌, length, Option, Some, None, refl, sym, ap, ◌∙◌, subst, inl, inr, arith, lit<}
use Rattle.std.specs.Prelude.{cond, slice_get, IfSome}
use Rattle.std.proofs.Math.Nat.{pow-le-pow_right}
use Rattle.std.proofs.lemmas.Nat.{pow_pos}
use Rattle.std.proofs.lemmas.Bool.Decides.{nat_tests}
use Rattle.std.specs.List.{AllByRecursion}
use Rattle.pcode_model.specs.declared.listing.Varnode.{Varnode}
use Rattle.pcode_model.specs.declared.listing.Space.{Space}
use Rattle.pcode_model.specs.declared.listing.Listing.{Listing}
use Rattle.pcode_model.specs.declared.listing.SpaceKind.{SpaceKind}
use Rattle.pcode_model.specs.declared.listing.SpaceKind.TheVariants.{Constant, Register, Unique}
use Rattle.pcode_model.specs.Spaces.{kind_in, kind_of, number_of, same_kind, size_in, size_of, first_ram, register_space}
use Rattle.pcode_model.specs.WellFormed.{AreSpaces, IsDeclared, IsRegister, IsStackPointer, IsWellFormed, how_many}
use Rattle.pcode_model.specs.Atoms.{IsLocal}
use Rattle.pcode_model.proofs.Sizes.{shift_is, size_is}
use Rattle.frame_facts.specs.Facts.{CanHold, offsets, shares}
use Rattle.frame_facts.proofs.Spaces.{register_is, unique_is}
use Rattle.frame_known.specs.Slots.{is_wide, key, range_of}

-- ---- numbers

pub range_back : (w : ℕ) (v : Varnode) → v.size ≡ w → v.offset < 2 ^ 64 → range_of w (key v) ≡ v
range_back w v e low =
    let s : key v / 2 ^ 64 ≡ v.space = omega (arith, low) in
    let o : key v % 2 ^ 64 ≡ v.offset = omega (arith, low) in
    let R : ℕ → ℕ → ℕ → Varnode = λ a b c. record { space = a; offset = b; size = c } in
    ap (λ a. R a (key v % 2 ^ 64) w) s ∙ ap (λ b. R v.space b w) o ∙ ap (λ c. R v.space v.offset c) (sym e)

pub key_back : (w n : ℕ) → key (range_of w n) ≡ n
key_back w n = omega arith

pub key_same : (v u : Varnode) → v.size ≡ u.size → v.offset < 2 ^ 64 → u.offset < 2 ^ 64 → key v ≡ key u → v ≡ u
key_same v u e lv lu k =
    sym (range_back u.size v e lv) ∙ ap (range_of u.size) k ∙ range_back u.size u refl lu

pub wide_is : (w : ℕ) (v : Varnode) → is_wide w v ≡ true → (v.size ≡ w) × (v.offset < 2 ^ 64)
wide_is w v h = (grind (arith, nat_tests), grind (arith, nat_tests))

pub is_wide_from : (w : ℕ) (v : Varnode) → v.size ≡ w → v.offset < 2 ^ 64 → is_wide w v ≡ true
is_wide_from w v e low = grind (arith, nat_tests)

-- ---- sizes of spaces

few : (n : ℕ) → n ≤ 8 → 256 ^ n ≤ 2 ^ 64
few n le = let power : 2 ^ (8 * n) ≤ 2 ^ 64 = pow-le-pow_right (lit< tt) {j = 64} (omega arith) in
    omega (arith, power, size_is n)

declared_few : (ss : List Space) (n : ℕ) (s : Space) → AllByRecursion IsDeclared ss → slice_get ss n ≡ Some s → s.size ≤ 8
declared_few [] n s all e = absurd (cc)
declared_few (x ∷ ss) zero s all e =
    let same : x ≡ s = cc in
    let P : Space → Type 0 = λ y. y.size ≤ 8 in subst P same all.0.few
declared_few (x ∷ ss) (suc n) s all e = declared_few ss n s all.1 e

-- a space's offsets have at most 8 bytes
pub size_few : (ss : List Space) (n : ℕ) (s : Space) → AreSpaces ss → slice_get ss n ≡ Some s → s.size ≤ 8
size_few [] n s all e = absurd all
size_few (x ∷ ss) zero s all e =
    let same : x ≡ s = cc in
    let P : Space → Type 0 = λ y. y.size ≤ 8 in
    subst P same (subst P (sym all.0) (omega arith))
size_few (x ∷ ss) (suc n) s all e = declared_few ss n s all.1 e

-- a space has at most 2^64 bytes
pub space_few : (l : Listing) (n : ℕ) → IsWellFormed l → size_of l n ≤ 2 ^ 64
space_few l n read = by (slice_get l.spaces n) refl where
  by : (o : Option Space) → slice_get l.spaces n ≡ o → size_in o ≤ 2 ^ 64
  by None e = omega arith
  by (Some s) e = few s.size (size_few l.spaces n s read.spaces e)

module _ (l : Listing) (read : IsWellFormed l) where
  pub holds_low : (v : Varnode) (c : ℕ) → CanHold l v c → v.offset < 2 ^ 64
  holds_low v c can =
      let a : 0 < v.size = omega (arith, can.wide, (stack_some can.stack can.is)) in
      omega (arith, can.inside, space_few l v.space read, a)
    where
      stack_some : (sp : Varnode) → l.stack ≡ Some sp → 2 ≤ sp.size
      stack_some sp is =
          let P : Option Varnode → Type 0 = λ o. IfSome o (IsStackPointer l.spaces) in
          let h : IsStackPointer l.spaces sp = subst P is read.stack in h.some

  pub holds_some : (v : Varnode) (c : ℕ) → CanHold l v c → 2 ≤ v.size
  holds_some v c can =
      let P : Option Varnode → Type 0 = λ o. IfSome o (IsStackPointer l.spaces) in
      let h : IsStackPointer l.spaces can.stack = subst P can.is read.stack in
      omega (arith, can.wide, h.some)

  pub not_constant : (s : ℕ) → IsLocal l s → kind_of l s ≡ Constant → ⊥
  not_constant s (inl e) h =
      let f : Constant ≡ Register = sym h ∙ ap (kind_of l) e ∙ register_is l read in cc
  not_constant s (inr e) h =
      let f : Constant ≡ Unique = sym h ∙ ap (kind_of l) e ∙ unique_is l read in cc

-- ---- spaces of one kind

none_other : (k : SpaceKind) (ss : List Space) (n : ℕ)
    → same_kind k Constant ≡ false
    → how_many k ss ≡ 0
    → same_kind k (kind_in (slice_get ss n)) ≡ true
    → ⊥
none_other k [] n c h e = let f : true ≡ false = sym e ∙ c in cc
none_other k (s ∷ ss) n c h e = by (same_kind k s.kind) refl h n e (λ m. none_other k ss m c) where
  by : (b : Bool)
      → same_kind k s.kind ≡ b
      → cond b (suc (how_many k ss)) (how_many k ss) ≡ 0
      → (n : ℕ)
      → same_kind k (kind_in (slice_get (s ∷ ss) n)) ≡ true
      → ((m : ℕ) → how_many k ss ≡ 0 → same_kind k (kind_in (slice_get ss m)) ≡ true → ⊥)
      → ⊥
  by true f h n e rest = omega (arith, h)
  by false f h zero e rest = let g : true ≡ false = sym e ∙ f in cc
  by false f h (suc m) e rest = rest m h e

-- the only space of a kind is the first one
only_one : (k : SpaceKind) (ss : List Space) (n : ℕ)
    → same_kind k Constant ≡ false
    → how_many k ss ≡ 1
    → same_kind k (kind_in (slice_get ss n)) ≡ true
    → n ≡ number_of k ss
only_one k [] n c h e = absurd (omega (arith, h))
only_one k (s ∷ ss) n c h e = by (same_kind k s.kind) refl h n e (λ m. only_one k ss m c) where
  by : (b : Bool)
      → same_kind k s.kind ≡ b
      → cond b (suc (how_many k ss)) (how_many k ss) ≡ 1
      → (n : ℕ)
      → same_kind k (kind_in (slice_get (s ∷ ss) n)) ≡ true
      → ((m : ℕ) → how_many k ss ≡ 1 → same_kind k (kind_in (slice_get ss m)) ≡ true → m ≡ number_of k ss)
      → n ≡ cond b 0 (suc (number_of k ss))
  by true f h zero e rest = refl
  by true f h (suc m) e rest = absurd (none_other k ss m c (omega (arith, h)) e)
  by false f h zero e rest = absurd (let g : true ≡ false = sym e ∙ f in cc)
  by false f h (suc m) e rest = ap suc (rest m h e)

number_few : (k : SpaceKind) (ss : List Space) → number_of k ss ≤ length ss
number_few k [] = omega arith
number_few k (s ∷ ss) = by (same_kind k s.kind) (number_few k ss) where
  by : (b : Bool) → number_of k ss ≤ length ss → cond b 0 (suc (number_of k ss)) ≤ suc (length ss)
  by true h = omega arith
  by false h = omega (arith, h)

module _ (l : Listing) (read : IsWellFormed l) where
  pub register_local : (v : Varnode) → IsRegister l.spaces v → v.space ≡ register_space l
  register_local v r = only_one Register l.spaces v.space refl read.complete.register r.kind

  local_few : (s : ℕ) → IsLocal l s → s ≤ 9
  local_few s (inl e) = omega (arith, e, number_few Register l.spaces, read.limited.spaces)
  local_few s (inr e) = omega (arith, e, number_few Unique l.spaces, read.limited.spaces)

  -- a range that can hold an address is a small number
  pub key_low : (v : Varnode) (c : ℕ) → CanHold l v c → key v < 2 ^ 72
  key_low v c can = omega (arith, local_few v.space can.is_local, holds_low l read v c can)

  -- the stack pointer can hold an address
  pub stack_holds : (sp : Varnode) (c : ℕ) → l.stack ≡ Some sp → c < offsets l → CanHold l sp c
  stack_holds sp c is low =
      let P : Option Varnode → Type 0 = λ o. IfSome o (IsStackPointer l.spaces) in
      let h : IsStackPointer l.spaces sp = subst P is read.stack in
      let e = h.register.inside in
      record {
        stack = sp;
        is = is;
        wide = refl;
        is_local = inl (register_local sp h.register);
        inside = grind (arith, nat_tests);
        below = low;
      }

-- ---- the number of offsets

pub record Count (l : Listing) (n : ℕ) : Type 0 where
  pub value : n ≡ offsets l
  pub some : 0 < n
  pub few : n ≤ 2 ^ 64

pub count_by : (l : Listing) (s : Space) (n k : ℕ)
    → IsWellFormed l
    → n ≡ first_ram l
    → Some s ≡ slice_get l.spaces n
    → k ≡ s.size
    → Count l (1 * 2 ^ (8 * k) % 2 ^ 128)
count_by l s n k read is has e =
    let get : slice_get l.spaces (first_ram l) ≡ Some s = ap (slice_get l.spaces) (sym is) ∙ sym has in
    let low : k ≤ 8 = omega (arith, e, size_few l.spaces (first_ram l) s read.spaces get) in
    let power = shift_is k low in
    let value : 1 * 2 ^ (8 * k) % 2 ^ 128 ≡ offsets l =
    power ∙ ap (λ x. 256 ^ x) e ∙ sym (ap size_in get) in
    record {
      value = value;
      some = omega (arith, power, size_is k, pow_pos (8 * k));
      few = omega (arith, power, few k low);
    }

pub count_none : (l : Listing) (n : ℕ) → n ≡ first_ram l → None ≡ slice_get l.spaces n → 1 ≡ offsets l
count_none l n is has =
    let get : slice_get l.spaces (first_ram l) ≡ None = ap (slice_get l.spaces) (sym is) ∙ sym has in
    sym (ap size_in get)

-- ---- bytes in common

pub shares_itself : (v : Varnode) → 0 < v.size → shares v v ≡ true
shares_itself v some = grind (arith, nat_tests)
