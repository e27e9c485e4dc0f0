-- Two atoms of a listing are one, or their ranges have no byte in common; and each lies within its space.
use Rattle.std.proofs.Common.{◌≡◌, ◌≢◌, ℕ, ◌+◌, ◌-◌, ◌<◌, ◌≤◌, sym, ap, ◌∙◌, subst, inl, inr, ⊎_elim, ◌⊎◌, arith}
use Rattle.std.specs.Prelude.{List, pos}
use Rattle.std.proofs.lemmas.Bool.{cases_lt}
use Rattle.pcode_model.specs.declared.listing.Varnode.{Varnode}
use Rattle.pcode_model.specs.declared.listing.Listing.{Listing}
use Rattle.pcode_model.specs.declared.storage.ParamStorage.{ParamStorage}
use Rattle.pcode_model.specs.declared.storage.ParamStorage.TheVariants as P
use Rattle.pcode_model.specs.declared.tables.TableAt.{TableAt}
use Rattle.pcode_model.specs.declared.atoms.Atom.{Atom}
use Rattle.pcode_model.specs.declared.frame.Frame.{Frame}
use Rattle.pcode_model.specs.Atoms.{Accesses, IsAccessed, IsAtom, IsCut, LiesIn, Registers, Stacked, Uniques, range, varnode}
use Rattle.pcode_model.specs.Spaces.{register_space, unique_space}
use Rattle.range_words.specs.Ranges.{AreApart, IsInside}
use Rattle.op_code.specs.Ranges.{IsRangeOf}

-- ---- offsets

module _ (Cut : ℕ → Type 0) where
  -- From one cut to the next one.
  abbrev IsWhole : (offset bytes : ℕ) → Type 0
  IsWhole o k = (0 < k) × (Cut o × (Cut (o + k) × ((d : ℕ) → 0 < d → d < k → Cut (o + d) → ⊥)))

  -- Two such ranges don't begin at one place and end at different ones,
  ends_with : (o j k : ℕ) → IsWhole o j → IsWhole o k → j < k → ⊥
  ends_with o j k a b less = b.1.1.1 j a.0 less a.1.1.0

  -- and none begins within the other.
  begins_in : (o p k n : ℕ) → IsWhole o k → IsWhole p n → o < p → p < o + k → ⊥
  begins_in o p k n a b from to =
      let same : p ≡ o + (p - o) = omega (arith, from) in
      a.1.1.1 (p - o) (omega (arith, from)) (omega (arith, from, to)) (subst Cut same b.1.0)

  abbrev OneOrApart : (o k p n : ℕ) → Type 0
  OneOrApart o k p n = ((o ≡ p) × (k ≡ n)) ⊎ ((o + k ≤ p) ⊎ (p + n ≤ o))

  one_or_apart : (o k p n : ℕ) → IsWhole o k → IsWhole p n → OneOrApart o k p n
  one_or_apart o k p n a b = ⊎_elim
      (λ (before : o < p). ⊎_elim
      (λ (in_it : p < o + k). absurd (begins_in o p k n a b before in_it))
      (λ (past : o + k ≤ p). inr (inl past))
      (cases_lt p (o + k)))
      (λ (not_before : p ≤ o). ⊎_elim
      (λ (behind : p < o). ⊎_elim
      (λ (in_it : o < p + n). absurd (begins_in p o n k b a behind in_it))
      (λ (past : p + n ≤ o). inr (inr past))
      (cases_lt o (p + n)))
      (λ (not_behind : o ≤ p).
      let same : p ≡ o = omega (arith, not_before, not_behind) in
      let at_o : IsWhole o n = subst (λ x. IsWhole x n) same b in
      ⊎_elim
      (λ (shorter : k < n). absurd (ends_with o k n a at_o shorter))
      (λ (not_shorter : n ≤ k). ⊎_elim
      (λ (longer : n < k). absurd (ends_with o n k at_o a longer))
      (λ (not_longer : k ≤ n). inl (sym same, omega (arith, not_shorter, not_longer)))
      (cases_lt n k))
      (cases_lt k n))
      (cases_lt p o))
      (cases_lt o p)

-- ---- areas

pub registers_uniques : Registers ≡ Uniques → ⊥
registers_uniques e = cc

pub registers_stacked : Registers ≡ Stacked → ⊥
registers_stacked e = cc

pub uniques_stacked : Uniques ≡ Stacked → ⊥
uniques_stacked e = cc

-- ---- atoms

module _ (l : Listing) (t : List TableAt) (f : Frame) where
  register_whole : (o k : ℕ)
      → IsAtom l t f (range (P.Register o) k)
      → IsWhole (λ x. IsCut l t f Registers (pos x)) o k
  register_whole o k a = (a.some, (a.begins, (a.ends, a.whole)))

  unique_whole : (o k : ℕ)
      → IsAtom l t f (range (P.Unique o) k)
      → IsWhole (λ x. IsCut l t f Uniques (pos x)) o k
  unique_whole o k a = (a.some, (a.begins, (a.ends, a.whole)))

  module _ (space : ℕ) (at : ℕ → ParamStorage) where
    in_space : (v w : Varnode) (o k p n : ℕ)
        → v ≡ varnode space o k
        → w ≡ varnode space p n
        → ((o ≡ p) × (k ≡ n)) ⊎ ((o + k ≤ p) ⊎ (p + n ≤ o))
        → (range (at o) k ≡ range (at p) n) ⊎ AreApart v w
    in_space v w o k p n e g (inl same) =
        inl (ap (λ x. range (at x) k) same.0 ∙ ap (λ x. range (at p) x) same.1)
    in_space v w o k p n e g (inr side) =
        let V : Varnode → Type 0 = λ x. AreApart x w in
        let W : Varnode → Type 0 = λ x. AreApart (varnode space o k) x in
        inr (subst V (sym e) (subst W (sym g) (inr side)))

  elsewhere : (space other : ℕ) (v w : Varnode) (o k p n : ℕ)
      → space ≢ other
      → v ≡ varnode space o k
      → w ≡ varnode other p n
      → AreApart v w
  elsewhere space other v w o k p n ne e g =
      inl (λ h. ne (sym (ap (λ (x : Varnode). x.space) e) ∙ h ∙ ap (λ (x : Varnode). x.space) g))

  apart_by : (s u : ParamStorage) (k n : ℕ) (v w : Varnode)
      → register_space l ≢ unique_space l
      → IsAtom l t f (range s k)
      → IsAtom l t f (range u n)
      → IsRangeOf l s k v
      → IsRangeOf l u n w
      → (range s k ≡ range u n) ⊎ AreApart v w
  apart_by (P.Register o) (P.Register p) k n v w ne a b e g =
      in_space (register_space l) P.Register v w o k p n e g
      (one_or_apart (λ x. IsCut l t f Registers (pos x)) o k p n (register_whole o k a) (register_whole p n b))
  apart_by (P.Register o) (P.Unique p) k n v w ne a b e g =
      inr (elsewhere (register_space l) (unique_space l) v w o k p n ne e g)
  apart_by (P.Unique o) (P.Register p) k n v w ne a b e g =
      inr (elsewhere (unique_space l) (register_space l) v w o k p n (λ h. ne (sym h)) e g)
  apart_by (P.Unique o) (P.Unique p) k n v w ne a b e g =
      in_space (unique_space l) P.Unique v w o k p n e g
      (one_or_apart (λ x. IsCut l t f Uniques (pos x)) o k p n (unique_whole o k a) (unique_whole p n b))
  apart_by (P.Stack z) u k n v w ne a b e g = absurd e
  apart_by (P.Register o) (P.Stack z) k n v w ne a b e g = absurd g
  apart_by (P.Unique o) (P.Stack z) k n v w ne a b e g = absurd g

  -- Two atoms of the register space and the unique space are one, or their ranges have no byte in common.
  pub atoms_apart : (a b : Atom) (v w : Varnode)
      → register_space l ≢ unique_space l
      → IsAtom l t f a
      → IsAtom l t f b
      → IsRangeOf l a.storage a.size v
      → IsRangeOf l b.storage b.size w
      → (a ≡ b) ⊎ AreApart v w
  atoms_apart a b v w ne p q e g = apart_by a.storage b.storage a.size b.size v w ne p q e g

  -- ---- within the space

  same_number : (m n : ℕ) → pos m ≡ pos n → m ≡ n
  same_number m n e = cc

  within : (space o k b n d : ℕ) (v : Varnode)
      → o ≡ b + d
      → d + k ≤ n
      → IsInside l (varnode space b n)
      → v ≡ varnode space o k
      → IsInside l v
  within space o k b n d v at fits inside is =
      let V : Varnode → Type 0 = λ x. IsInside l x in
      subst V (sym is) (omega (arith, at, fits, inside))

  inside_by : (s u : ParamStorage) (k n : ℕ) (v : Varnode)
      → ((w : Varnode) → Accesses l t w → IsInside l w)
      → LiesIn (range s k) (range u n)
      → IsAccessed l t f (range u n)
      → IsRangeOf l s k v
      → IsInside l v
  inside_by (P.Register o) (P.Register b) k n v all lies accessed is =
      within (register_space l) o k b n lies.1.0 v (same_number o (b + lies.1.0) lies.1.1.0) lies.1.1.1
      (all (varnode (register_space l) b n) accessed) is
  inside_by (P.Register o) (P.Unique b) k n v all lies accessed is = absurd (registers_uniques lies.0)
  inside_by (P.Register o) (P.Stack z) k n v all lies accessed is = absurd (registers_stacked lies.0)
  inside_by (P.Unique o) (P.Register b) k n v all lies accessed is = absurd (registers_uniques (sym lies.0))
  inside_by (P.Unique o) (P.Unique b) k n v all lies accessed is =
      within (unique_space l) o k b n lies.1.0 v (same_number o (b + lies.1.0) lies.1.1.0) lies.1.1.1
      (all (varnode (unique_space l) b n) accessed) is
  inside_by (P.Unique o) (P.Stack z) k n v all lies accessed is = absurd (uniques_stacked lies.0)
  inside_by (P.Stack z) u k n v all lies accessed is = absurd is

  -- Where each range that is accessed lies within its space, so does each atom.
  pub atom_inside : ((w : Varnode) → Accesses l t w → IsInside l w)
      → (a : Atom) (v : Varnode)
      → IsAtom l t f a
      → IsRangeOf l a.storage a.size v
      → IsInside l v
  atom_inside all a v atom is =
      inside_by a.storage atom.access.storage a.size atom.access.size v all atom.inside atom.accessed is
