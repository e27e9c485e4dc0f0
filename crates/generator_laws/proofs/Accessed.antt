-- The ranges that a generated listing accesses lie in nine registers and one unique byte, so it has few atoms.
use Rattle.std.proofs.Common.{◌⊎◌, inl, inr, ◌≡◌, ◌<◌, ◌≤◌, ◌+◌, ℕ, zero, suc, List, [], ◌∷◌, length, refl, sym, subst, arith}
use Rattle.std.specs.Prelude.{None, pos, ◌+ℤ◌}
use Rattle.std.specs.List.{AllByRecursion}
use Rattle.pcode_model.specs.declared.atoms.Atom.{Atom}
use Rattle.pcode_model.specs.declared.listing.Place.{Place}
use Rattle.pcode_model.specs.declared.listing.Varnode.{Varnode}
use Rattle.pcode_model.specs.declared.storage.ParamStorage.{ParamStorage}
use Rattle.pcode_model.specs.declared.storage.ParamStorage.TheVariants as P
use Rattle.pcode_model.specs.Atoms.{AreAtoms, Cuts, InOrder, IsAccessed, IsAtom, Range, StandsBefore, area_of, offset_of, range, ranges_at, ranges_in, varnode}
use Rattle.pcode_model.specs.Flow.{IsIn, Reached}
use Rattle.pcode_model.specs.Frame.{no_variables}
use Rattle.pcode_model.specs.Places.{Standing, standing, standing_in}
use Rattle.generator.specs.declared.draws.Drawn.{Drawn}
use Rattle.generator.specs.declared.draws.Shape.{Shape}
use Rattle.generator.specs.declared.draws.Shape.TheVariants.{Constant, Sum, Xor, Product, Branch, Store, Load, Byte}
use Rattle.generator.specs.Generated.{constant, flag, listing_of, low_byte, ops_by, placed, register, returning}
use Rattle.generator.specs.Fit.{AreFit}
use Rattle.generator_laws.proofs.Flowing.{reached_spot}
use Rattle.generator_laws.proofs.Spots.{IsSpot, drawn_standing, l, last_standing}

-- ---- the ranges of an op

record IsNear (v : Varnode) : Type 0 where
  register : v.space ≡ 2 → v.offset + v.size ≤ 36
  unique : v.space ≡ 3 → v.offset + v.size ≤ 1

register_near : (k : ℕ) → k < 9 → IsNear (register k)
register_near k h = record { register = λ e. omega arith; unique = λ e. absurd (omega (arith, e)) }

byte_near : (k : ℕ) → k < 9 → IsNear (low_byte k)
byte_near k h = record { register = λ e. omega arith; unique = λ e. absurd (omega (arith, e)) }

constant_near : (w : ℕ) → IsNear (constant w)
constant_near w = record { register = λ e. absurd (omega (arith, e)); unique = λ e. absurd (omega (arith, e)) }

flag_near : IsNear flag
flag_near = record { register = λ e. absurd (omega (arith, e)); unique = λ e. omega arith }

module _ (draws : ℕ → Drawn) where
  abbrev AllNear : Standing → Type 0
  AllNear s = AllByRecursion IsNear (ranges_in (l draws) None s)

  abbrev NearIn : Shape → ℕ → ℕ → ℕ → ℕ → ℕ → Type 0
  NearIn s a b w i n = AllNear (standing_in (placed i (ops_by s a b w)) (ops_by s a b w) n)

  shape_near : (s : Shape) (a b w i n : ℕ) → a < 9 → b < 9 → n < length (ops_by s a b w) → NearIn s a b w i n
  shape_near Constant a b w i zero x y k = (constant_near w, (register_near a x, tt))
  shape_near Constant a b w i (suc n) x y k = absurd (omega arith)
  shape_near Sum a b w i zero x y k = (register_near a x, (register_near b y, (register_near a x, tt)))
  shape_near Sum a b w i (suc n) x y k = absurd (omega arith)
  shape_near Xor a b w i zero x y k = (register_near a x, (register_near b y, (register_near a x, tt)))
  shape_near Xor a b w i (suc n) x y k = absurd (omega arith)
  shape_near Product a b w i zero x y k = (register_near a x, (register_near b y, (register_near a x, tt)))
  shape_near Product a b w i (suc n) x y k = absurd (omega arith)
  shape_near Branch a b w i zero x y k = (register_near a x, (register_near b y, (flag_near, tt)))
  shape_near Branch a b w i (suc zero) x y k = (flag_near, tt)
  shape_near Branch a b w i (suc (suc n)) x y k = absurd (omega arith)
  shape_near Store a b w i zero x y k = (register_near a x, (register_near b y, tt))
  shape_near Store a b w i (suc n) x y k = absurd (omega arith)
  shape_near Load a b w i zero x y k = (register_near b y, (register_near a x, tt))
  shape_near Load a b w i (suc n) x y k = absurd (omega arith)
  shape_near Byte a b w i zero x y k = (register_near b y, (constant_near 1, (byte_near a x, tt)))
  shape_near Byte a b w i (suc n) x y k = absurd (omega arith)

  last_near : AllNear (standing_in (placed 2000 returning) returning 0)
  last_near = (register_near 8 (omega arith), (register_near 0 (omega arith), tt))

  among_near : (v : Varnode) (vs : List Varnode) → IsIn v vs → AllByRecursion IsNear vs → IsNear v
  among_near v [] h all = absurd h
  among_near v (x ∷ vs) (inl e) all = subst IsNear (sym e) all.0
  among_near v (x ∷ vs) (inr h) all = among_near v vs h all.1

  module _ (fit : AreFit draws) where
    spot_near : (p : Place) → IsSpot draws p → AllNear (standing (l draws) p)
    spot_near p (inl h) =
        let d : Drawn = draws h.number in
        let few = fit h.number in
        subst (λ (q : Place). AllNear (standing (l draws) q)) (sym h.at)
        (subst AllNear (sym (drawn_standing draws h.number h.index h.few))
        (shape_near d.shape d.first d.second d.word h.number h.index (omega (arith, few.first))
        (omega (arith, few.second)) h.some))
    spot_near p (inr e) =
        subst (λ (q : Place). AllNear (standing (l draws) q)) (sym e)
        (subst AllNear (sym (last_standing draws)) last_near)

    accessed_near : (v : Varnode) (p : Place) → Reached (l draws) [] p → IsIn v (ranges_at (l draws) [] p) → IsNear v
    accessed_near v p reached h =
        among_near v (ranges_at (l draws) [] p) h (spot_near p (reached_spot draws p reached))

    -- ---- what cuts

    abbrev EndsNear : ParamStorage → ℕ → Type 0
    EndsNear (P.Register o) k = o + k ≤ 36
    EndsNear (P.Unique o) k = o + k ≤ 1
    EndsNear (P.Stack o) k = ⊥

    access_ends : (s : ParamStorage) (k : ℕ) → IsAccessed (l draws) [] no_variables (range s k) → EndsNear s k
    access_ends (P.Register o) k h = (accessed_near (varnode 2 o k) h.at h.reached h.range).register refl
    access_ends (P.Unique o) k h = (accessed_near (varnode 3 o k) h.at h.reached h.range).unique refl
    access_ends (P.Stack o) k h = h.1.0

    cut_ends : (r : Range) → Cuts (l draws) [] no_variables r → EndsNear r.storage r.size
    cut_ends r (inl h) = access_ends r.storage r.size h
    cut_ends r (inr (inl (inl e))) = subst (λ (x : Range). EndsNear x.storage x.size) (sym e) (omega arith)
    cut_ends r (inr (inl (inr (inl e)))) = subst (λ (x : Range). EndsNear x.storage x.size) (sym e) (omega arith)
    cut_ends r (inr (inl (inr (inr h)))) = absurd h
    cut_ends r (inr (inr h)) = absurd h

    abbrev IsLow : ParamStorage → Type 0
    IsLow (P.Register o) = o ≤ 36
    IsLow (P.Unique o) = o ≤ 1
    IsLow (P.Stack o) = ⊥

    same_pos : (m n : ℕ) → pos m ≡ pos n → m ≡ n
    same_pos m n e = cc

    end_low : (o p k top : ℕ) → p + k ≤ top → (pos o ≡ pos p) ⊎ (pos o ≡ pos p +ℤ pos k) → o ≤ top
    end_low o p k top h (inl e) = omega (arith, h, same_pos o p e)
    end_low o p k top h (inr e) = omega (arith, h, same_pos o (p + k) e)

    end_is_low : (s t : ParamStorage) (k : ℕ)
        → area_of t ≡ area_of s
        → (offset_of s ≡ offset_of t) ⊎ (offset_of s ≡ offset_of t +ℤ pos k)
        → EndsNear t k
        → IsLow s
    end_is_low (P.Register o) (P.Register p) k a e h = end_low o p k 36 h e
    end_is_low (P.Register o) (P.Unique p) k a e h = cc
    end_is_low (P.Register o) (P.Stack p) k a e h = absurd h
    end_is_low (P.Unique o) (P.Register p) k a e h = cc
    end_is_low (P.Unique o) (P.Unique p) k a e h = end_low o p k 1 h e
    end_is_low (P.Unique o) (P.Stack p) k a e h = absurd h
    end_is_low (P.Stack o) (P.Register p) k a e h = cc
    end_is_low (P.Stack o) (P.Unique p) k a e h = cc
    end_is_low (P.Stack o) (P.Stack p) k a e h = absurd h

    atom_low : (a : Atom) → IsAtom (l draws) [] no_variables a → IsLow a.storage
    atom_low a h =
        let r : Range = h.begins.0 in
        let end = h.begins.1.1 in
        end_is_low a.storage r.storage r.size end.0 end.1 (cut_ends r h.begins.1.0)

    -- ---- how many there are

    abbrev rank : ParamStorage → ℕ
    rank (P.Register o) = o
    rank (P.Unique o) = 37 + o
    rank (P.Stack o) = 0

    rank_low : (s : ParamStorage) → IsLow s → rank s ≤ 38
    rank_low (P.Register o) h = omega (arith, h)
    rank_low (P.Unique o) h = omega (arith, h)
    rank_low (P.Stack o) h = absurd h

    rank_rises : (s t : ParamStorage) → IsLow s → IsLow t → StandsBefore s t → rank s < rank t
    rank_rises (P.Register o) (P.Register p) h g b = b
    rank_rises (P.Register o) (P.Unique p) h g b = omega (arith, h)
    rank_rises (P.Register o) (P.Stack p) h g b = absurd g
    rank_rises (P.Unique o) (P.Register p) h g b = absurd b
    rank_rises (P.Unique o) (P.Unique p) h g b = omega (arith, b)
    rank_rises (P.Unique o) (P.Stack p) h g b = absurd g
    rank_rises (P.Stack o) t h g b = absurd h

    abbrev AllLow : List Atom → Type 0
    AllLow atoms = AllByRecursion (λ a. IsLow a.storage) atoms

    few_in_order : (a : Atom) (rest : List Atom)
        → IsLow a.storage
        → AllLow rest
        → InOrder (a ∷ rest)
        → rank a.storage + length (a ∷ rest) ≤ 39
    few_in_order a [] low all r = omega (arith, rank_low a.storage low)
    few_in_order a (b ∷ rest) low all r =
        let more = few_in_order b rest all.0 all.1 r.1 in
        let less = rank_rises a.storage b.storage low all.0 r.0 in
        omega (arith, more, less)

    few_low : (atoms : List Atom) → AllLow atoms → InOrder atoms → length atoms ≤ 39
    few_low [] all r = omega arith
    few_low (a ∷ atoms) all r = let few = few_in_order a atoms all.0 all.1 r in omega (arith, few)

    each_low : (atoms : List Atom)
        → ((a : Atom) → IsIn a atoms → IsAtom (l draws) [] no_variables a)
        → AllLow atoms
    each_low [] h = tt
    each_low (a ∷ atoms) h = (atom_low a (h a (inl refl)), each_low atoms (λ b i. h b (inr i)))

    -- The atoms of the listing of draws that fit are at most 39.
    pub few_atoms : (atoms : List Atom) → AreAtoms (listing_of draws) [] no_variables atoms → length atoms ≤ 39
    few_atoms atoms are = few_low atoms (each_low atoms (λ a i. (are.each a).0 i)) are.in_order
