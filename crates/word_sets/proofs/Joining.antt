-- The walk over the turning points of two sets, the least first.
use Rattle.std.proofs.Common.{◌≡◌, ℕ, ◌+◌, ◌-◌, ◌<◌, ◌≤◌, Bool, true, false, not, List, [], ◌∷◌, ◌++◌, length, get_or, take, refl, sym, ap, ◌∙◌, ⊎_elim, arith}
use Rattle.std.proofs.lemmas.Bool.{cases_lt}
use Rattle.std.proofs.lemmas.List.{take_more, length_push, get_or_push, get_or_append_left}
use Rattle.std.proofs.lemmas.List.Sorted.{IsNonDecreasingBy-push}
use Rattle.std.specs.List.Sorted.{IsNonDecreasing}
use Rattle.word_sets.specs.Turns.{turned, noted, IsNext}
use Rattle.word_sets.proofs.Turns.{turned_past, turned_before, noted_past, noted_before}

-- a list that doesn't fall and ends at m at most
pub record Upto (cs : List ℕ) (m : ℕ) : Type 0 where
  pub rising : IsNonDecreasing cs
  pub most : (k d : ℕ) → k < length cs → get_or cs k d ≤ m

module _ (cs : List ℕ) (m c : ℕ) (u : Upto cs m) (le : m ≤ c) where
  upto_push : Upto (cs ++ c ∷ []) c
  upto_push = record {
    rising = IsNonDecreasingBy-push (λ x. x) cs c u.rising
        (λ d lt. let h : get_or cs (length cs - 1) d ≤ m = u.most (length cs - 1) d (omega arith) in omega arith);
    most = λ k d lt. ⊎_elim
        (λ lo. let e : get_or (cs ++ c ∷ []) k d ≡ get_or cs k d = get_or_append_left cs (c ∷ []) d k lo in
        omega (arith, e, u.most k d lo))
        (λ hi. let e : length cs ≡ k = omega (arith, length_push cs c) in omega (arith, get_or_push cs c d k e))
        (cases_lt k (length cs));
  }

  upto_stays : Upto cs c
  upto_stays = record { rising = u.rising; most = λ k d lt. omega (arith, u.most k d lt) }

  upto_noted : (x y : Bool) → Upto (noted cs x y c) c
  upto_noted true true = upto_stays
  upto_noted false false = upto_stays
  upto_noted true false = upto_push
  upto_noted false true = upto_push

-- i points of a and j of b are passed, all at most `mark`; p and q hold from there on, and `out` has the joined set's
-- points
pub record Joining (F : Bool → Bool → Bool) (f g : Bool) (a b : List ℕ) (i j : ℕ) (p q : Bool) (mark : ℕ)
    (out : List ℕ) : Type 0 where
  pub all : (v : ℕ) → turned (F f g) out v ≡ F (turned f (take i a) v) (turned g (take j b) v)
  pub here_a : (v : ℕ) → mark ≤ v → turned f (take i a) v ≡ p
  pub here_b : (v : ℕ) → mark ≤ v → turned g (take j b) v ≡ q
  pub ahead_a : (k : ℕ) → i ≤ k → k < length a → mark ≤ get_or a k 0
  pub ahead_b : (k : ℕ) → j ≤ k → k < length b → mark ≤ get_or b k 0
  pub upto : Upto out mark
  pub low_a : i ≤ length a
  pub low_b : j ≤ length b

-- before the walk
pub joining_first : (F : Bool → Bool → Bool) (f g : Bool) (a b : List ℕ) → Joining F f g a b 0 0 f g 0 []
joining_first F f g a b = record {
  all = λ v. refl;
  here_a = λ v le. refl;
  here_b = λ v le. refl;
  ahead_a = λ k ge lt. omega arith;
  ahead_b = λ k ge lt. omega arith;
  upto = record { rising = λ i j d le lt. absurd (omega arith); most = λ k d lt. absurd (omega arith) };
  low_a = omega arith;
  low_b = omega arith;
}

module _
    (F : Bool → Bool → Bool)
    (f g : Bool)
    (a b : List ℕ)
    (i j : ℕ)
    (p q : Bool)
    (mark : ℕ)
    (out : List ℕ)
    (s : Joining F f g a b i j p q mark out)
  where
    -- the two sets in the other order
    pub swapped : Joining (λ x y. F y x) g f b a j i q p mark out
    swapped = record {
      all = s.all;
      here_a = s.here_b;
      here_b = s.here_a;
      ahead_a = s.ahead_b;
      ahead_b = s.ahead_a;
      upto = s.upto;
      low_a = s.low_b;
      low_b = s.low_a;
    }

    -- the first set's next point is passed
    pub joining_step : (x y : Bool)
        → IsNonDecreasing a
        → IsNonDecreasing b
        → IsNext a i b j
        → x ≡ F p q
        → y ≡ F (not p) q
        → Joining F f g a b (i + 1) j (not p) q (get_or a i 0) (noted out x y (get_or a i 0))
    joining_step x y up vp n ex ey =
        let c : ℕ = get_or a i 0 in
        let there : i < length a = n.there in
        let ge : mark ≤ c = s.ahead_a i (omega arith) there in
        let more : take (i + 1) a ≡ take i a ++ c ∷ [] = take_more a i 0 there in
        let past : (v : ℕ) → c ≤ v → turned f (take (i + 1) a) v ≡ not p =
        λ v le. rw more (turned_past f (take i a) c v le ∙ ap not (s.here_a v (omega arith))) in
        let before : (v : ℕ) → v < c → turned f (take (i + 1) a) v ≡ turned f (take i a) v =
        λ v lt. rw more (turned_before f (take i a) c v lt) in
        record {
          all = λ v. ⊎_elim
              (λ lt. noted_before (F f g) out c v x y lt ∙ s.all v
              ∙ ap (λ z. F z (turned g (take j b) v)) (sym (before v lt)))
              (λ le.
              let was : turned (F f g) out v ≡ x =
              s.all v ∙ ap (λ z. F z (turned g (take j b) v)) (s.here_a v (omega arith))
              ∙ ap (F p) (s.here_b v (omega arith)) ∙ sym ex in
              noted_past (F f g) out c v x y le was ∙ ey
              ∙ sym (ap (λ z. F z (turned g (take j b) v)) (past v le) ∙ ap (F (not p)) (s.here_b v (omega arith))))
              (cases_lt v c);
          here_a = past;
          here_b = λ v le. s.here_b v (omega arith);
          ahead_a = λ k ge' lt. up i k 0 (omega arith) lt;
          ahead_b = λ k ge' lt.
              let l : get_or a i 0 ≤ get_or b j 0 = n.least (omega arith) in omega (arith, l, vp j k 0 ge' lt);
          upto = upto_noted out mark c s.upto ge x y;
          low_a = omega arith;
          low_b = s.low_b;
        }
