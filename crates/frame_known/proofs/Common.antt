-- What two rows know, and how much a row may still lose.
use Rattle.std.proofs.Common.{◌≡◌, ℕ, zero, suc, ◌+◌, ◌<◌, ◌≤◌, Bool, true, false, List, [], ◌∷◌, length, get_or, set, Option, Some, None, refl, sym, ap, ◌∙◌, arith}
use Rattle.std.specs.Prelude.{cond, ◌==◌}
use Rattle.std.proofs.lemmas.Bool.{eq-eqb, eqb-true}
use Rattle.pcode_model.specs.declared.listing.Varnode.{Varnode}
use Rattle.frame_known.specs.declared.slots.Slots.{Slots}
use Rattle.frame_known.specs.Rows.{AreBelow, IsBelow, IsRow, Row, knows, offset_in}
use Rattle.frame_known.proofs.Meaning.{held, knows_from}
use Rattle.frame_known.specs.Meeting.{both, common, count, one_known}
use Rattle.frame_known.specs.Entering.{row_at, waiting, weight, weights}

-- ---- one entry

both_left : (r t : Option ℕ) (c : ℕ) → both r t ≡ Some c → r ≡ Some c
both_left None t c h = absurd (cc)
both_left (Some d) None c h = absurd (cc)
both_left (Some d) (Some e) c h = by (d == e) h where
  by : (b : Bool) → cond b (Some d) None ≡ Some c → Some d ≡ Some c
  by true h = h
  by false h = absurd (cc)

both_right : (r t : Option ℕ) (c : ℕ) → both r t ≡ Some c → t ≡ Some c
both_right None t c h = absurd (cc)
both_right (Some d) None c h = absurd (cc)
both_right (Some d) (Some e) c h = by (d == e) refl h where
  by : (b : Bool) → (d == e) ≡ b → cond b (Some d) None ≡ Some c → Some e ≡ Some c
  by true f h = ap Some (sym (eqb-true d e f)) ∙ h
  by false f h = absurd (cc)

both_from : (r t : Option ℕ) (c : ℕ) → r ≡ Some c → t ≡ Some c → both r t ≡ Some c
both_from r t c e f =
    ap (λ x. both x t) e ∙ ap (both (Some c)) f ∙ ap (λ b. cond b (Some c) None) (eq-eqb c c refl)

-- ---- rows

pub common_long : (row other : Row) → length row ≡ length other → length (common row other) ≡ length row
common_long [] other e = refl
common_long (r ∷ row) [] e = absurd (omega (arith, e))
common_long (r ∷ row) (t ∷ other) e =
    let rest = common_long row other (omega (arith, e)) in omega (arith, rest)

in_common : (ks : List ℕ) (row other : Row) (n c : ℕ)
    → length row ≡ length other
    → (offset_in ks (common row other) n ≡ Some c → (offset_in ks row n ≡ Some c) × (offset_in ks other n ≡ Some c))
    × (offset_in ks row n ≡ Some c → offset_in ks other n ≡ Some c → offset_in ks (common row other) n ≡ Some c)
in_common [] row other n c e = (λ h. absurd (cc), λ h f. absurd (cc))
in_common (k ∷ ks) [] [] n c e = (λ h. absurd (cc), λ h f. absurd (cc))
in_common (k ∷ ks) [] (t ∷ other) n c e = absurd (omega (arith, e))
in_common (k ∷ ks) (r ∷ row) [] n c e = absurd (omega (arith, e))
in_common (k ∷ ks) (r ∷ row) (t ∷ other) n c e =
    by (k == n) (in_common ks row other n c (omega (arith, e)))
  where
    rest : Option ℕ
    rest = offset_in ks (common row other) n

    by : (b : Bool)
        → (rest ≡ Some c → (offset_in ks row n ≡ Some c) × (offset_in ks other n ≡ Some c))
        × (offset_in ks row n ≡ Some c → offset_in ks other n ≡ Some c → rest ≡ Some c)
        → (cond b (both r t) rest ≡ Some c
        → (cond b r (offset_in ks row n) ≡ Some c) × (cond b t (offset_in ks other n) ≡ Some c))
        × (cond b r (offset_in ks row n) ≡ Some c → cond b t (offset_in ks other n) ≡ Some c
        → cond b (both r t) rest ≡ Some c)
    by true ih = (λ h. (both_left r t c h, both_right r t c h), λ h f. both_from r t c h f)
    by false ih = ih

below_both : (m : ℕ) (r t : Option ℕ) → IsBelow m r → IsBelow m (both r t)
below_both m None t h = tt
below_both m (Some c) None h = tt
below_both m (Some c) (Some d) h = by (c == d) where
  by : (b : Bool) → IsBelow m (cond b (Some c) None)
  by true = h
  by false = tt

below_common : (m : ℕ) (row other : Row) → AreBelow m row → AreBelow m (common row other)
below_common m [] other h = tt
below_common m (r ∷ row) [] h = tt
below_common m (r ∷ row) (t ∷ other) h = (below_both m r t h.0, below_common m row other h.1)

module _ (s : Slots) (row other : Row) (fine : IsRow s row) (good : IsRow s other) where
  same_long : length row ≡ length other
  same_long = fine.long ∙ sym good.long

  pub common_fine : IsRow s (common row other)
  common_fine = record {
    long = common_long row other same_long ∙ fine.long;
    below = below_common s.offsets row other fine.below;
  }

  pub common_left : (v : Varnode) (c : ℕ) → knows s (common row other) v c ≡ true → knows s row v c ≡ true
  common_left v c h =
      let x = held s (common row other) v c h in
      knows_from s row v c (record {
        wide = x.wide;
        low = x.low;
        has = x.has;
        entry = ((in_common s.keys.items row other _ c same_long).0 x.entry).0;
      })

  pub common_right : (v : Varnode) (c : ℕ) → knows s (common row other) v c ≡ true → knows s other v c ≡ true
  common_right v c h =
      let x = held s (common row other) v c h in
      knows_from s other v c (record {
        wide = x.wide;
        low = x.low;
        has = x.has;
        entry = ((in_common s.keys.items row other _ c same_long).0 x.entry).1;
      })

  pub common_both : (v : Varnode) (c : ℕ)
      → knows s row v c ≡ true
      → knows s other v c ≡ true
      → knows s (common row other) v c ≡ true
  common_both v c h k =
      let x = held s row v c h in
      let y = held s other v c k in
      knows_from s (common row other) v c (record {
        wide = x.wide;
        low = x.low;
        has = x.has;
        entry = (in_common s.keys.items row other _ c same_long).1 x.entry y.entry;
      })

-- ---- how much may still be lost

one_few : (r : Option ℕ) → one_known r ≤ 1
one_few None = omega arith
one_few (Some c) = omega arith

pub count_few : (row : Row) → count row ≤ length row
count_few [] = omega arith
count_few (r ∷ row) = omega (arith, one_few r, count_few row)

pub weights_set : (k : ℕ) (rows : List (Option Row)) (m : ℕ) (r : Option Row)
    → m < length rows
    → weights k (set rows m r) + weight k (row_at rows m) ≡ weights k rows + weight k r
weights_set k [] m r lt = absurd (omega (arith, lt))
weights_set k (o ∷ rows) zero r lt = omega arith
weights_set k (o ∷ rows) (suc m) r lt = omega (arith, weights_set k rows m r (omega (arith, lt)))

pub waiting_on : (waits : List Bool) (m : ℕ) → waiting (set waits m true) ≤ waiting waits + 1
waiting_on [] m = omega arith
waiting_on (true ∷ waits) zero = omega arith
waiting_on (false ∷ waits) zero = omega arith
waiting_on (true ∷ waits) (suc m) = omega (arith, waiting_on waits m)
waiting_on (false ∷ waits) (suc m) = omega (arith, waiting_on waits m)

pub waiting_off : (waits : List Bool) (m : ℕ)
    → get_or waits m false ≡ true
    → waiting (set waits m false) + 1 ≡ waiting waits
waiting_off [] m h = absurd (cc)
waiting_off (true ∷ waits) zero h = refl
waiting_off (false ∷ waits) zero h = absurd (cc)
waiting_off (true ∷ waits) (suc m) h = omega (arith, waiting_off waits m h)
waiting_off (false ∷ waits) (suc m) h = omega (arith, waiting_off waits m h)
