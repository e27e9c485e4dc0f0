-- What holds after one turning point more.
use Rattle.std.proofs.Common.{◌≡◌, ℕ, ◌+◌, ◌<◌, ◌≤◌, Bool, true, false, not, nat_le, List, [], ◌∷◌, ◌++◌, length, get_or, take, if◌then◌else◌, refl, sym, ap, ◌∙◌, ⊎_elim, arith}
use Rattle.std.proofs.lemmas.Bool.Decides.{nat_tests}
use Rattle.std.proofs.lemmas.Bool.{cases_lt}
use Rattle.std.proofs.lemmas.List.{take_more}
use Rattle.word_sets.specs.Turns.{turned, noted, in_arc}

-- what isn't in the set is the set with its beginning turned
pub not-turned : (b : Bool) (cs : List ℕ) (v : ℕ) → turned (not b) cs v ≡ not (turned b cs v)
not-turned b [] v = refl
not-turned b (c ∷ cs) v =
    ⊎_elim
    (λ lt. let e : nat_le c v ≡ false = grind (arith, nat_tests) in rw e (not-turned b cs v))
    (λ le. let e : nat_le c v ≡ true = grind (arith, nat_tests) in rw e (not-turned (not b) cs v))
    (cases_lt v c)

-- at a last point and past it the other holds
pub turned_past : (b : Bool) (cs : List ℕ) (c v : ℕ) → c ≤ v → turned b (cs ++ c ∷ []) v ≡ not (turned b cs v)
turned_past b [] c v le = let e : nat_le c v ≡ true = grind (arith, nat_tests) in rw e refl
turned_past b (x ∷ xs) c v le = turned_past (if nat_le x v then not b else b) xs c v le

-- before a last point the same holds
pub turned_before : (b : Bool) (cs : List ℕ) (c v : ℕ) → v < c → turned b (cs ++ c ∷ []) v ≡ turned b cs v
turned_before b [] c v lt = let e : nat_le c v ≡ false = grind (arith, nat_tests) in rw e refl
turned_before b (x ∷ xs) c v lt = turned_before (if nat_le x v then not b else b) xs c v lt

module _ (b : Bool) (cs : List ℕ) (c v : ℕ) where
  -- where what holds from c on is noted, it holds there
  pub noted_past : (x y : Bool) → c ≤ v → turned b cs v ≡ x → turned b (noted cs x y c) v ≡ y
  noted_past true true le e = e
  noted_past false false le e = e
  noted_past true false le e = turned_past b cs c v le ∙ ap not e
  noted_past false true le e = turned_past b cs c v le ∙ ap not e

  pub noted_before : (x y : Bool) → v < c → turned b (noted cs x y c) v ≡ turned b cs v
  noted_before true true lt = refl
  noted_before false false lt = refl
  noted_before true false lt = turned_before b cs c v lt
  noted_before false true lt = turned_before b cs c v lt

-- an arc's two points, the lesser first
pub arc_turned : (from to v : ℕ) → from ≤ to → turned false (from ∷ to ∷ []) v ≡ in_arc from to v
arc_turned from to v le = grind (arith, nat_tests)

pub arc_around : (from to v : ℕ) → to < from → turned true (to ∷ from ∷ []) v ≡ in_arc from to v
arc_around from to v lt = grind (arith, nat_tests)

-- ---- a walk over the points, which asks for one word

module _ (b : Bool) (cs : List ℕ) (i x v : ℕ) (is_in : Bool) (lt : i < length cs) (here : x ≡ get_or cs i 0) where
  pub turns_here : x ≤ v → is_in ≡ turned b (take i cs) v → not is_in ≡ turned b (take (i + 1) cs) v
  turns_here le e =
      let more : take (i + 1) cs ≡ take i cs ++ get_or cs i 0 ∷ [] = take_more cs i 0 lt in
      rw more (ap not e ∙ sym (turned_past b (take i cs) (get_or cs i 0) v (omega (arith, here, le))))

  pub turns_later : v < x → is_in ≡ turned b (take i cs) v → is_in ≡ turned b (take (i + 1) cs) v
  turns_later above e =
      let more : take (i + 1) cs ≡ take i cs ++ get_or cs i 0 ∷ [] = take_more cs i 0 lt in
      rw more (e ∙ sym (turned_before b (take i cs) (get_or cs i 0) v (omega (arith, here, above))))
