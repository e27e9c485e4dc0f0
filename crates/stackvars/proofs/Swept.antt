-- A walk over marks in their order finds the pieces: it carries the last cut and how far the stretches so far go.
use Rattle.std.proofs.Common.{◌≡◌, ◌∙◌, ℕ, ◌<◌, ◌≤◌, max, Bool, true, false, List, [], ◌∷◌, refl, sym, ap, subst, inl, inr, ⊎_elim, ◌⊎◌, arith, if◌then◌else◌, nat_lt, ◌&&◌}
use Rattle.std.specs.Prelude.{cond}
use Rattle.std.specs.List.Sorted.{IsNonDecreasingBy, IsPermutation}
use Rattle.std.proofs.Math.Nat.{le-max_left, le-max_right}
use Rattle.std.proofs.lemmas.Bool.{cases_lt}
use Rattle.std.proofs.lemmas.Bool.Decides.{nat_tests}
use Rattle.std.proofs.lemmas.List.Sorted.{IsNonDecreasingBy-drop, IsPermutation-sym}
use Rattle.pcode_model.specs.Flow.{IsIn}
use Rattle.stackvars.specs.declared.sweep.Mark.{Mark}
use Rattle.stackvars.specs.declared.sweep.Piece.{Piece}
use Rattle.stackvars.specs.Sweep.{ArePieces, IsMarked, IsPiece, IsUnder, RiseFrom, position_of}
use Rattle.stackvars.proofs.Members.{permuted}

abbrev pub piece : ℕ → ℕ → Piece
piece b e = record { begin = b; end = e }

abbrev pub mark : ℕ → ℕ → Mark
mark n r = record { position = n; reach = r }

-- the pieces from a cut on, with stretches from before that go so far
abbrev pub swept : ℕ → ℕ → List Mark → List Piece
swept a r [] = []
swept a r (m ∷ ms) =
    if nat_lt a m.position && nat_lt a r then piece a m.position ∷ swept m.position (max r m.reach) ms
    else swept m.position (max r m.reach) ms

-- no mark stands before the one before it
abbrev pub Climbs : ℕ → List Mark → Type 0
Climbs a [] = Unit {0}
Climbs a (m ∷ ms) = (a ≤ m.position) × Climbs m.position ms

-- ---- one mark

least : (a : ℕ) (ms : List Mark) → Climbs a ms → (x : Mark) → IsIn x ms → a ≤ x.position
least a [] up x is = absurd is
least a (m ∷ ms) up x (inl e) = let f : x.position ≡ m.position = ap (λ (y : Mark). y.position) e in omega (arith, up.0)
least a (m ∷ ms) up x (inr is) = let f : m.position ≤ x.position = least m.position ms up.1 x is in omega (arith, up.0)

made : (a r : ℕ) (m : Mark) (ms : List Mark)
    → a < m.position
    → a < r
    → swept a r (m ∷ ms) ≡ piece a m.position ∷ swept m.position (max r m.reach) ms
made a r m ms some under =
    let t : (nat_lt a m.position && nat_lt a r) ≡ true = grind (arith, nat_tests) in
    ap
    (λ (b : Bool). cond b (piece a m.position ∷ swept m.position (max r m.reach) ms)
    (swept m.position (max r m.reach) ms)) t

passed : (a r : ℕ) (m : Mark) (ms : List Mark)
    → (m.position ≤ a) ⊎ (r ≤ a)
    → swept a r (m ∷ ms) ≡ swept m.position (max r m.reach) ms
passed a r m ms none =
    let t : (nat_lt a m.position && nat_lt a r) ≡ false =
    ⊎_elim (λ (h : m.position ≤ a). grind (arith, nat_tests)) (λ (h : r ≤ a). grind (arith, nat_tests)) none
    in
    ap
    (λ (b : Bool). cond b (piece a m.position ∷ swept m.position (max r m.reach) ms)
    (swept m.position (max r m.reach) ms)) t

-- a piece is made, or the mark is passed
abbrev Made : ℕ → ℕ → Mark → Type 0
Made a r m = ((a < m.position) × (a < r)) ⊎ ((m.position ≤ a) ⊎ (r ≤ a))

made_or_passed : (a r : ℕ) (m : Mark) → Made a r m
made_or_passed a r m =
    ⊎_elim
    (λ lt. ⊎_elim (λ less. inl (lt, less)) (λ no. inr (inr no)) (cases_lt a r))
    (λ no. inr (inl no))
    (cases_lt a m.position)

-- ---- the pieces from a cut on, where the next mark is m, and from m on

module _
    (a r : ℕ)
    (m : Mark)
    (ms : List Mark)
    (first : a ≤ m.position)
    (up : Climbs m.position ms) where
  abbrev here : List Mark
  here = mark a r ∷ m ∷ ms

  abbrev there : List Mark
  there = mark m.position (max r m.reach) ∷ ms

  marked_here : (n : ℕ) → IsMarked there n → IsMarked here n
  marked_here n (x, (inl e, at)) = (m, (inr (inl refl), sym (ap (λ (y : Mark). y.position) e) ∙ at))
  marked_here n (x, (inr is, at)) = (x, (inr (inr is), at))

  marked_there : (n : ℕ) → m.position ≤ n → IsMarked here n → IsMarked there n
  marked_there n le (x, (inl e, at)) =
      let f : x.position ≡ a = ap (λ (y : Mark). y.position) e in
      (mark m.position (max r m.reach), (inl refl, omega (arith, first, le, f, at)))
  marked_there n le (x, (inr (inl e), at)) =
      (mark m.position (max r m.reach), (inl refl, sym (ap (λ (y : Mark). y.position) e) ∙ at))
  marked_there n le (x, (inr (inr is), at)) = (x, (inr is, at))

  from_there : (n : ℕ) → IsMarked there n → m.position ≤ n
  from_there n (x, (inl e, at)) =
      let f : x.position ≡ m.position = ap (λ (y : Mark). y.position) e in omega (arith, f, at)
  from_there n (x, (inr is, at)) =
      let f : m.position ≤ x.position = least m.position ms up x is in omega (arith, f, at)

  under_here : (n : ℕ) → IsUnder there n → IsUnder here n
  under_here n (x, (inl e, at)) =
      let f : x.position ≡ m.position = ap (λ (y : Mark). y.position) e in
      let g : x.reach ≡ max r m.reach = ap (λ (y : Mark). y.reach) e in
      ⊎_elim
      (λ less. (mark a r, (inl refl, (omega (arith, first, f, at.0), less))))
      (λ no. (m, (inr (inl refl), (omega (arith, f, at.0), grind (arith, g, at.1, no)))))
      (cases_lt n r)
  under_here n (x, (inr is, at)) = (x, (inr (inr is), at))

  under_there : (n : ℕ) → m.position ≤ n → IsUnder here n → IsUnder there n
  under_there n le (x, (inl e, at)) =
      let g : x.reach ≡ r = ap (λ (y : Mark). y.reach) e in
      (mark m.position (max r m.reach), (inl refl, (le, omega (arith, g, at.1, le-max_left r m.reach))))
  under_there n le (x, (inr (inl e), at)) =
      let g : x.reach ≡ m.reach = ap (λ (y : Mark). y.reach) e in
      (mark m.position (max r m.reach), (inl refl, (le, omega (arith, g, at.1, le-max_right r m.reach))))
  under_there n le (x, (inr (inr is), at)) = (x, (inr is, at))

  lifted : (p : Piece) → IsPiece there p → IsPiece here p
  lifted p is =
      let le : m.position ≤ p.begin = from_there p.begin is.begins in
      record {
        some = is.some;
        begins = marked_here p.begin is.begins;
        ends = marked_here p.end is.ends;
        whole = λ n more less at. is.whole n more less (marked_there n (omega (arith, le, more)) at);
        under = under_here p.begin is.under;
      }

  lowered : (p : Piece) → m.position ≤ p.begin → IsPiece here p → IsPiece there p
  lowered p le is = record {
    some = is.some;
    begins = marked_there p.begin le is.begins;
    ends = marked_there p.end (omega (arith, le, is.some)) is.ends;
    whole = λ n more less at. is.whole n more less (marked_here n at);
    under = under_there p.begin le is.under;
  }

  -- the piece between the two
  between : a < m.position → a < r → IsPiece here (piece a m.position)
  between some under = record {
    some = some;
    begins = (mark a r, (inl refl, refl));
    ends = (m, (inr (inl refl), refl));
    whole = λ n more less at.
        let f : m.position ≤ n = or_later n more at in omega (arith, f, less);
    under = (mark a r, (inl refl, (omega arith, under)));
  } where
    or_later : (n : ℕ) → a < n → IsMarked here n → m.position ≤ n
    or_later n more (x, (inl e, at)) =
        let f : x.position ≡ a = ap (λ (y : Mark). y.position) e in absurd (omega (arith, more, f, at))
    or_later n more (x, (inr (inl e), at)) =
        let f : x.position ≡ m.position = ap (λ (y : Mark). y.position) e in omega (arith, f, at)
    or_later n more (x, (inr (inr is), at)) =
        let f : m.position ≤ x.position = least m.position ms up x is in omega (arith, f, at)

  begin_is : (n : ℕ) → n < m.position → IsMarked here n → n ≡ a
  begin_is n less (x, (inl e, at)) = sym at ∙ ap (λ (y : Mark). y.position) e
  begin_is n less (x, (inr (inl e), at)) =
      let f : x.position ≡ m.position = ap (λ (y : Mark). y.position) e in absurd (omega (arith, f, at, less))
  begin_is n less (x, (inr (inr is), at)) =
      let f : m.position ≤ x.position = least m.position ms up x is in absurd (omega (arith, f, at, less))

  end_is : (p : Piece) → p.begin ≡ a → p.begin < m.position → IsPiece here p → p.end ≡ m.position
  end_is p b less is =
      ⊎_elim
      (λ (before : p.end < m.position).
      let f : p.end ≡ a = begin_is p.end before is.ends in absurd (omega (arith, f, b, is.some)))
      (λ (le : m.position ≤ p.end). ⊎_elim
      (λ (past : m.position < p.end).
      absurd (is.whole m.position less past (m, (inr (inl refl), refl))))
      (λ (ge : p.end ≤ m.position). omega (arith, le, ge))
      (cases_lt m.position p.end))
      (cases_lt p.end m.position)

  open_is : (n : ℕ) → n ≡ a → n < m.position → IsUnder here n → a < r
  open_is n b less (x, (inl e, at)) =
      let g : x.reach ≡ r = ap (λ (y : Mark). y.reach) e in omega (arith, b, g, at.1)
  open_is n b less (x, (inr (inl e), at)) =
      let f : x.position ≡ m.position = ap (λ (y : Mark). y.position) e in absurd (omega (arith, f, at.0, less))
  open_is n b less (x, (inr (inr is), at)) =
      let f : m.position ≤ x.position = least m.position ms up x is in absurd (omega (arith, f, at.0, less))

  -- a piece that begins before m
  only : (p : Piece)
      → p.begin < m.position
      → IsPiece here p
      → (p ≡ piece a m.position) × ((a < m.position) × (a < r))
  only p less is =
      let b : p.begin ≡ a = begin_is p.begin less is.begins in
      let e : p.end ≡ m.position = end_is p b less is in (
        ap (λ n. piece n p.end) b ∙ ap (λ n. piece a n) e,
        (omega (arith, b, less), open_is p.begin b less is.under),
      )

-- ---- the walk

-- the marks from a cut on
abbrev marks_from : ℕ → ℕ → List Mark → List Mark
marks_from a r ms = mark a r ∷ ms

alone : (a r : ℕ) (n : ℕ) → IsMarked (marks_from a r []) n → n ≡ a
alone a r n (x, (inl e, at)) = sym at ∙ ap (λ (y : Mark). y.position) e
alone a r n (x, (inr is, at)) = absurd is

found : (a r : ℕ) (ms : List Mark) → Climbs a ms → (p : Piece) → IsIn p (swept a r ms) → IsPiece (marks_from a r ms) p
found a r [] up p is = absurd is
found a r (m ∷ ms) up p is =
    let Q : List Piece → Type 0 = λ ps. IsIn p ps in
    ⊎_elim
    (λ (h : (a < m.position) × (a < r)). ⊎_elim
    (λ (e : p ≡ piece a m.position).
    subst (λ (x : Piece). IsPiece (marks_from a r (m ∷ ms)) x) (sym e) (between a r m ms up.0 up.1 h.0 h.1))
    (λ k. lifted a r m ms up.0 up.1 p (found m.position (max r m.reach) ms up.1 p k))
    (subst Q (made a r m ms h.0 h.1) is))
    (λ h. lifted a r m ms up.0 up.1 p (found m.position (max r m.reach) ms up.1 p (subst Q (passed a r m ms h) is)))
    (made_or_passed a r m)

later : (a r : ℕ) (m : Mark) (ms : List Mark) (p : Piece)
    → IsIn p (swept m.position (max r m.reach) ms)
    → IsIn p (swept a r (m ∷ ms))
later a r m ms p is =
    let Q : List Piece → Type 0 = λ ps. IsIn p ps in
    ⊎_elim
    (λ (h : (a < m.position) × (a < r)). subst Q (sym (made a r m ms h.0 h.1)) (inr is))
    (λ h. subst Q (sym (passed a r m ms h)) is)
    (made_or_passed a r m)

all_found : (a r : ℕ) (ms : List Mark)
    → Climbs a ms
    → (p : Piece)
    → IsPiece (marks_from a r ms) p
    → IsIn p (swept a r ms)
all_found a r [] up p is =
    let b : p.begin ≡ a = alone a r p.begin is.begins in
    let e : p.end ≡ a = alone a r p.end is.ends in
    absurd (omega (arith, b, e, is.some))
all_found a r (m ∷ ms) up p is =
    let Q : List Piece → Type 0 = λ ps. IsIn p ps in
    ⊎_elim
    (λ (less : p.begin < m.position).
    let o = only a r m ms up.0 up.1 p less is in
    subst Q (sym (made a r m ms o.1.0 o.1.1)) (inl o.0))
    (λ (le : m.position ≤ p.begin).
    later a r m ms p
    (all_found m.position (max r m.reach) ms up.1 p (lowered a r m ms up.0 up.1 p le is)))
    (cases_lt p.begin m.position)

-- ---- the order

rise_more : (a b : ℕ) (ps : List Piece) → a ≤ b → RiseFrom b ps → RiseFrom a ps
rise_more a b [] le up = tt
rise_more a b (p ∷ ps) le up = (omega (arith, le, up.0), up.1)

rises : (a r : ℕ) (ms : List Mark) → Climbs a ms → RiseFrom a (swept a r ms)
rises a r [] up = tt
rises a r (m ∷ ms) up =
    let Q : List Piece → Type 0 = λ ps. RiseFrom a ps in
    let rest : RiseFrom m.position (swept m.position (max r m.reach) ms) = rises m.position (max r m.reach) ms up.1 in
    ⊎_elim
    (λ (h : (a < m.position) × (a < r)). subst Q (sym (made a r m ms h.0 h.1)) (omega arith, rest))
    (λ h. subst Q (sym (passed a r m ms h)) (rise_more a m.position _ up.0 rest))
    (made_or_passed a r m)

-- ---- from the line's begin on

module _ (ms : List Mark) where
  marked_line : (n : ℕ) → IsMarked ms n → IsMarked (mark 0 0 ∷ ms) n
  marked_line n (x, (is, at)) = (x, (inr is, at))

  under_line : (n : ℕ) → IsUnder (mark 0 0 ∷ ms) n → IsUnder ms n
  under_line n (x, (inl e, at)) =
      let g : x.reach ≡ 0 = ap (λ (y : Mark). y.reach) e in absurd (omega (arith, g, at.1))
  under_line n (x, (inr is, at)) = (x, (is, at))

  -- where a stretch lies over the line's begin, a mark stands there
  marked_under : (n : ℕ) → IsUnder ms n → IsMarked (mark 0 0 ∷ ms) n → IsMarked ms n
  marked_under n (y, (on, past)) (x, (inl e, at)) =
      let f : x.position ≡ 0 = ap (λ (z : Mark). z.position) e in (y, (on, omega (arith, f, at, past.0)))
  marked_under n u (x, (inr is, at)) = (x, (is, at))

  marked_end : (n : ℕ) → 0 < n → IsMarked (mark 0 0 ∷ ms) n → IsMarked ms n
  marked_end n some (x, (inl e, at)) =
      let f : x.position ≡ 0 = ap (λ (z : Mark). z.position) e in absurd (omega (arith, f, at, some))
  marked_end n some (x, (inr is, at)) = (x, (is, at))

  off_line : (p : Piece) → IsPiece (mark 0 0 ∷ ms) p → IsPiece ms p
  off_line p is =
      let u : IsUnder ms p.begin = under_line p.begin is.under in
      record {
        some = is.some;
        begins = marked_under p.begin u is.begins;
        ends = marked_end p.end (omega (arith, is.some)) is.ends;
        whole = λ n more less at. is.whole n more less (marked_line n at);
        under = u;
      }

  on_line : (p : Piece) → IsPiece ms p → IsPiece (mark 0 0 ∷ ms) p
  on_line p is = record {
    some = is.some;
    begins = marked_line p.begin is.begins;
    ends = marked_line p.end is.ends;
    whole = λ n more less at. is.whole n more less (marked_end n (omega (arith, more)) at);
    under = let u = is.under in (u.0, (inr u.1.0, u.1.1));
  }

-- ---- sorted marks

from_first : (x : Mark) (ms : List Mark) → IsNonDecreasingBy position_of (x ∷ ms) → Climbs x.position ms
from_first x [] up = tt
from_first x (y ∷ ms) up = (
  up 0 1 x (omega arith) (omega arith),
  from_first y ms (IsNonDecreasingBy-drop position_of 1 (x ∷ y ∷ ms) up),
)

climbs : (ms : List Mark) → IsNonDecreasingBy position_of ms → Climbs 0 ms
climbs [] up = tt
climbs (x ∷ ms) up = (omega arith, from_first x ms up)

-- A walk over marks in their order finds all pieces.
pub pieces_climbing : (ms : List Mark) → Climbs 0 ms → ArePieces ms (swept 0 0 ms)
pieces_climbing ms up = record {
  each = λ p. (
    (λ is. off_line ms p (found 0 0 ms up p is)),
    (λ is. all_found 0 0 ms up p (on_line ms p is)),
  );
  rise = rises 0 0 ms up;
}

pub are_pieces : (ms : List Mark) → IsNonDecreasingBy position_of ms → ArePieces ms (swept 0 0 ms)
are_pieces ms sorted = pieces_climbing ms (climbs ms sorted)

-- ---- marks in another order

module _ (xs ys : List Mark) (there : (m : Mark) → IsIn m xs → IsIn m ys) where
  marked_moved : (n : ℕ) → IsMarked xs n → IsMarked ys n
  marked_moved n (x, (is, at)) = (x, (there x is, at))

  under_moved : (n : ℕ) → IsUnder xs n → IsUnder ys n
  under_moved n (x, (is, at)) = (x, (there x is, at))

piece_moved : (xs ys : List Mark)
    → ((m : Mark) → IsIn m xs → IsIn m ys)
    → ((m : Mark) → IsIn m ys → IsIn m xs)
    → (p : Piece)
    → IsPiece xs p
    → IsPiece ys p
piece_moved xs ys there back p is = record {
  some = is.some;
  begins = marked_moved xs ys there p.begin is.begins;
  ends = marked_moved xs ys there p.end is.ends;
  whole = λ n more less at. is.whole n more less (marked_moved ys xs back n at);
  under = under_moved xs ys there p.begin is.under;
}

-- The same marks have the same pieces.
pub pieces_same : (xs ys : List Mark)
    → ((m : Mark) → IsIn m xs → IsIn m ys)
    → ((m : Mark) → IsIn m ys → IsIn m xs)
    → (ps : List Piece)
    → ArePieces ys ps
    → ArePieces xs ps
pieces_same xs ys there back ps are = record {
  each = λ p. (
    (λ is. piece_moved ys xs back there p ((are.each p).0 is)),
    (λ is. (are.each p).1 (piece_moved xs ys there back p is)),
  );
  rise = are.rise;
}

-- The order of marks doesn't matter.
pub pieces_moved : (xs ys : List Mark) → IsPermutation xs ys → (ps : List Piece) → ArePieces ys ps → ArePieces xs ps
pieces_moved xs ys moved ps are =
    pieces_same xs ys (permuted xs ys moved) (permuted ys xs (IsPermutation-sym xs ys moved)) ps are
