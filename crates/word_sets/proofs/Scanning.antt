-- The walk over the words of a set, in order.
use Rattle.std.proofs.Common.{◌≡◌, ℕ, zero, suc, ◌+◌, ◌-◌, ◌%◌, ◌^◌, ◌<◌, ◌≤◌, min, Bool, true, false, not, nat_le, List, [], ◌∷◌, ◌++◌, length, get_or, take, drop, if◌then◌else◌, refl, sym, ap, ◌∙◌, ◌⊎◌, inl, inr, ⊎_elim, arith, add-one, length-drop, append_assoc, Option, Some, None}
use Rattle.std.proofs.lemmas.Bool.Decides.{nat_tests}
use Rattle.std.proofs.lemmas.Bool.{cases_lt}
use Rattle.std.proofs.lemmas.List.{append-nil, take_more, length_push, length-append, take-append-drop, get_or-drop}
use Rattle.std.specs.Option.{MatchOption}
use Rattle.std.specs.List.Sorted.{IsNonDecreasing}
use Rattle.bits_core.specs.Value.{limit}
use Rattle.bits_core.proofs.Limits.{limit_pos}
use Rattle.word_sets.specs.declared.set.WordSet.{WordSet}
use Rattle.word_sets.specs.Sets.{has}
use Rattle.word_sets.specs.Turns.{turned}
use Rattle.word_sets.specs.Words.{words_of, IsTurn, IsTake}
use Rattle.word_sets.proofs.Tops.{top_is}
use Rattle.word_sets.proofs.Turns.{turned_past}

-- ---- the words below a number

module _ (p : ℕ → Bool) where
  pub words_in : (n : ℕ) → p n ≡ true → words_of p (n + 1) ≡ words_of p n ++ n ∷ []
  unfolding words_of
  words_in n e = rw (add-one, e) refl

  pub words_out : (n : ℕ) → p n ≡ false → words_of p (suc n) ≡ words_of p n
  unfolding words_of
  words_out n e = rw e refl

  -- numbers at which it doesn't hold add nothing
  pub words_skip : (n m : ℕ) → n ≤ m → ((v : ℕ) → n ≤ v → v < m → p v ≡ false) → words_of p m ≡ words_of p n
  words_skip n zero le none = let e : n ≡ zero = omega arith in rw e refl
  words_skip n (suc m) le none =
      ⊎_elim
      (λ lt. words_out m (none m (omega arith) (omega arith))
      ∙ words_skip n m (omega arith) (λ v a b. none v a (omega arith)))
      (λ ge. let e : n ≡ suc m = omega arith in rw e refl)
      (cases_lt n (suc m))

  one_more : (n : ℕ) → (rest : List ℕ) × (words_of p (suc n) ≡ words_of p n ++ rest)
  unfolding words_of
  one_more n =
      elim (p n) as (λ b. (rest : List ℕ) × ((if b then words_of p n ++ n ∷ [] else words_of p n)
      ≡ words_of p n ++ rest)) [
        | true ↦ (n ∷ [], refl)
        | false ↦ ([], sym (append-nil (words_of p n)))
      ]

  -- the words below a number come first among those below a greater one
  pub words_on : (n m : ℕ) → n ≤ m → (rest : List ℕ) × (words_of p m ≡ words_of p n ++ rest)
  words_on n zero le = let e : n ≡ zero = omega arith in rw e ([], sym (append-nil (words_of p zero)))
  words_on n (suc m) le =
      ⊎_elim
      (λ lt.
      let before = words_on n m (omega arith) in
      let step = one_more m in
      (before.0 ++ step.0, step.1 ∙ ap (λ xs. xs ++ step.0) before.1 ∙ append_assoc (words_of p n) before.0 step.0))
      (λ ge. let e : n ≡ suc m = omega arith in rw e ([], sym (append-nil (words_of p (suc m)))))
      (cases_lt n (suc m))

-- ---- what holds past some of the turning points

turned-append : (b : Bool) (xs ys : List ℕ) (v : ℕ) → turned b (xs ++ ys) v ≡ turned (turned b xs v) ys v
turned-append b [] ys v = refl
turned-append b (x ∷ xs) ys v = turned-append (if nat_le x v then not b else b) xs ys v

turned_above : (b : Bool) (ys : List ℕ) (v : ℕ) → ((k : ℕ) → k < length ys → v < get_or ys k 0) → turned b ys v ≡ b
turned_above b [] v h = refl
turned_above b (y ∷ ys) v h =
    let here : v < y = h 0 (omega arith) in
    let e : nat_le y v ≡ false = grind (arith, nat_tests) in
    rw e (turned_above b ys v (λ k lt. h (suc k) (omega arith)))

-- i turning points are passed and the words below `word`; `is_in` holds from there on, and `out` has the set's words
-- below
pub record Scanning (b : Bool) (cs : List ℕ) (top most i : ℕ) (is_in : Bool) (word : ℕ) (out : List ℕ) : Type 0 where
  pub here : (v : ℕ) → word ≤ v → turned b (take i cs) v ≡ is_in
  pub found : out ≡ words_of (turned b cs) (min word (top + 1))
  pub few : length out ≤ most
  pub low : i ≤ length cs

-- before the walk
pub scanning_first : (b : Bool) (cs : List ℕ) (top most : ℕ) → Scanning b cs top most 0 b 0 []
unfolding words_of
scanning_first b cs top most = record {
  here = λ v le. refl;
  found = let e : min 0 (top + 1) ≡ 0 = omega arith in rw e refl;
  few = omega arith;
  low = omega arith;
}

module _
    (b : Bool)
    (cs : List ℕ)
    (top most i : ℕ)
    (is_in : Bool)
    (word : ℕ)
    (out : List ℕ)
    (up : IsNonDecreasing cs)
    (s : Scanning b cs top most i is_in word out)
  where
    -- a word from here on, before the next turning point
    from_here : (v : ℕ) → word ≤ v → (i < length cs → v < get_or cs i 0) → turned b cs v ≡ is_in
    from_here v le above =
        ap (λ xs. turned b xs v) (sym (take-append-drop i cs))
        ∙ turned-append b (take i cs) (drop i cs) v
        ∙ turned_above (turned b (take i cs) v) (drop i cs) v
        (λ k lt.
        let l : i + k < length cs = omega (arith, length-drop i cs) in
        let u : get_or cs i 0 ≤ get_or cs (i + k) 0 = up i (i + k) 0 (omega arith) l in
        rw (get_or-drop i cs k 0) (omega (arith, above (omega arith))))
        ∙ s.here v le

    -- a turning point is passed
    pub scanning_turn : (turn word' : ℕ)
        → IsTurn cs i is_in word top turn
        → word ≤ word'
        → turn ≤ word'
        → (word' ≡ word) ⊎ (word' ≡ turn)
        → Scanning b cs top most (i + 1) (not is_in) word' out
    scanning_turn turn word' t ge ge' which =
        let more : take (i + 1) cs ≡ take i cs ++ get_or cs i 0 ∷ [] = take_more cs i 0 t.there in
        record {
          here = λ v le. rw more (turned_past b (take i cs) (get_or cs i 0) v (omega (arith, t.turn_is))
              ∙ ap not (s.here v (omega arith)));
          found = s.found ∙ sym (⊎_elim
              (λ off. words_skip (turned b cs) (min word (top + 1)) (min word' (top + 1)) (omega arith)
              (λ v lo hi.
              let w : word ≤ v = omega (arith, t.below) in
              from_here v w (λ l. ⊎_elim (λ e. absurd (omega arith)) (λ e. omega (arith, t.turn_is)) which) ∙ off))
              (λ le.
              let e : word' ≡ word = ⊎_elim (λ e. e) (λ e. omega arith) which in
              ap (λ n. words_of (turned b cs) (min n (top + 1))) e)
              t.why);
          few = s.few;
          low = omega (arith, t.there);
        }

    module _ (t : IsTake cs i is_in word top) where
      -- the word that is taken comes next
      pub scanned : out ++ word ∷ [] ≡ words_of (turned b cs) (word + 1)
      scanned =
          let e : min word (top + 1) ≡ word = omega (arith, t.below) in
          let f : out ≡ words_of (turned b cs) word = s.found ∙ ap (words_of (turned b cs)) e in
          ap (λ xs. xs ++ word ∷ []) f
          ∙ sym (words_in (turned b cs) word (from_here word (omega arith) t.ahead ∙ t.inside))

      pub scanning_take : length out < most → Scanning b cs top most i is_in (word + 1) (out ++ word ∷ [])
      scanning_take lt =
          let e : min (word + 1) (top + 1) ≡ word + 1 = omega (arith, t.below) in
          record {
            here = λ v le. s.here v (omega arith);
            found = scanned ∙ ap (words_of (turned b cs)) (sym e);
            few = omega (arith, length_push out word);
            low = s.low;
          }

      -- one more than are wanted
      pub scanned_many : most ≤ length out → most < length (words_of (turned b cs) (top + 1))
      scanned_many full =
          let on = words_on (turned b cs) (word + 1) (top + 1) (omega (arith, t.below)) in
          let f : words_of (turned b cs) (top + 1) ≡ (out ++ word ∷ []) ++ on.0 = on.1
          ∙ ap (λ xs. xs ++ on.0) (sym scanned) in
          omega (arith, ap length f, length-append (out ++ word ∷ []) on.0, length_push out word)

      pub scanned_last : word ≡ top → out ++ word ∷ [] ≡ words_of (turned b cs) (top + 1)
      scanned_last end = scanned ∙ ap (λ n. words_of (turned b cs) (n + 1)) end

    -- no word is left
    pub scanned_all : (top < word) ⊎ ((is_in ≡ false) × (length cs ≤ i)) → out ≡ words_of (turned b cs) (top + 1)
    scanned_all (inl past) =
        let e : min word (top + 1) ≡ top + 1 = omega arith in s.found ∙ ap (words_of (turned b cs)) e
    scanned_all (inr (off, none)) =
        s.found ∙ sym (words_skip (turned b cs) (min word (top + 1)) (top + 1) (omega arith)
        (λ v lo hi. from_here v (omega arith) (λ l. absurd (omega arith)) ∙ off))

-- up to the greatest word of a width, all words of the set
pub all_words : (s : WordSet) (w top : ℕ) (turns : List ℕ)
    → w ≤ 16
    → turns ≡ s.turns.items
    → top ≡ (2 ^ 128 - 1) % limit w
    → words_of (turned s.first turns) (top + 1) ≡ words_of (has s) (limit w)
all_words s w top turns le e t =
    let n : top + 1 ≡ limit w = omega (arith, t, top_is w le, limit_pos w) in
    ap (λ cs. words_of (turned s.first cs) (top + 1)) e ∙ ap (words_of (has s)) n

-- the words that were found, or none where there are none
pub found_all : {A : Type 0} (items : A → List ℕ) (most : ℕ) (all out : List ℕ) (o : Option A)
    → out ≡ all
    → length out ≤ most
    → MatchOption o (out ≡ []) (λ a. (items a ≡ out) × (0 < length (items a)))
    → MatchOption o ((all ≡ []) ⊎ (most < length all)) (λ a. (items a ≡ all) × (0 < length all) × (length all ≤ most))
found_all items most all out None e few h = inl (sym e ∙ h)
found_all items most all out (Some a) e few h =
    let same : items a ≡ all = h.0 ∙ e in
    (same, omega (arith, h.1, ap length same), omega (arith, few, ap length e))
