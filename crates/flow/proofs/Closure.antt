-- The reached places of a listing can be listed.
use Rattle.std.proofs.Common.{◌≡◌, ℕ, zero, suc, ◌+◌, ◌≤◌, List, [], ◌∷◌, length, refl, sym, subst, inl, inr, ◌⊎◌, ◌↔◌, arith}
use Rattle.pcode_model.specs.declared.listing.Listing.{Listing}
use Rattle.pcode_model.specs.declared.listing.Place.{Place}
use Rattle.pcode_model.specs.Flow.{Fails, First, IsBefore, IsIn, Leads, LeadsTo, Next, Reached, Way, ways}
use Rattle.pcode_model.specs.Step.{first_place}
use Rattle.flow.proofs.Adjacent.{lead_same}
use Rattle.flow.proofs.Order.{not_before, ordered}

-- holds or not
abbrev pub Decided : Type 0 → Type 0
Decided P = P ⊎ (P → ⊥)

-- ---- members

differ : (p q : Place) → IsBefore p q → p ≡ q → ⊥
differ p q before same = not_before q (subst (λ (x : Place). IsBefore x q) same before)

joined : (p q : Place) (ps : List Place)
    → (p ≡ q) ⊎ (IsBefore p q ⊎ IsBefore q p)
    → Decided (IsIn p ps)
    → Decided (IsIn p (q ∷ ps))
joined p q ps (inl same) rest = inl (inl same)
joined p q ps (inr order) (inl is) = inl (inr is)
joined p q ps (inr (inl before)) (inr not) = inr neither
  where
    neither : IsIn p (q ∷ ps) → ⊥
    neither (inl same) = differ p q before same
    neither (inr is) = not is
joined p q ps (inr (inr after)) (inr not) = inr neither
  where
    neither : IsIn p (q ∷ ps) → ⊥
    neither (inl same) = differ q p after (sym same)
    neither (inr is) = not is

-- Whether a place is a member is decided.
pub is_in : (p : Place) (ps : List Place) → Decided (IsIn p ps)
is_in p [] = inr (λ is. is)
is_in p (q ∷ ps) = joined p q ps (ordered p q) (is_in p ps)

-- the other members
record Without (p : Place) (ps : List Place) : Type 0 where
  others : List Place
  fewer : length others + 1 ≡ length ps
  each : (q : Place) → IsIn q ps → (q ≡ p) ⊎ IsIn q others

first_out : (p x : Place) (ps : List Place) → p ≡ x → Without p (x ∷ ps)
first_out p x ps same = record { others = ps; fewer = omega arith; each = each }
  where
    each : (q : Place) → IsIn q (x ∷ ps) → (q ≡ p) ⊎ IsIn q ps
    each q (inl e) = inl (subst (λ (y : Place). q ≡ y) (sym same) e)
    each q (inr is) = inr is

later_out : (p x : Place) (ps : List Place) → Without p ps → Without p (x ∷ ps)
later_out p x ps rest = record { others = x ∷ rest.others; fewer = omega (arith, rest.fewer); each = each }
  where
    later : (q : Place) → (q ≡ p) ⊎ IsIn q rest.others → (q ≡ p) ⊎ IsIn q (x ∷ rest.others)
    later q (inl e) = inl e
    later q (inr h) = inr (inr h)

    each : (q : Place) → IsIn q (x ∷ ps) → (q ≡ p) ⊎ IsIn q (x ∷ rest.others)
    each q (inl e) = inr (inl e)
    each q (inr h) = later q (rest.each q h)

without : (p : Place) (ps : List Place) → IsIn p ps → Without p ps
without p [] is = absurd is
without p (x ∷ ps) (inl same) = first_out p x ps same
without p (x ∷ ps) (inr is) = later_out p x ps (without p ps is)

-- ---- where ways lead

abbrev pub targets : List Way → List Place
targets [] = []
targets (Leads q ∷ ws) = q ∷ targets ws
targets (Fails why ∷ ws) = targets ws

pub in_targets : (ws : List Way) (q : Place) → IsIn (Leads q) ws → IsIn q (targets ws)
in_targets [] q is = absurd is
in_targets (Leads p ∷ ws) q (inl e) = inl (lead_same q p e)
in_targets (Leads p ∷ ws) q (inr is) = inr (in_targets ws q is)
in_targets (Fails why ∷ ws) q (inl e) = absurd (cc)
in_targets (Fails why ∷ ws) q (inr is) = in_targets ws q is

pub of_targets : (ws : List Way) (q : Place) → IsIn q (targets ws) → IsIn (Leads q) ws
of_targets [] q is = absurd is
of_targets (Leads p ∷ ws) q (inl e) = inl (cc)
of_targets (Leads p ∷ ws) q (inr is) = inr (of_targets ws q is)
of_targets (Fails why ∷ ws) q is = inr (of_targets ws q is)

-- ---- a list that grows

-- a member of the first list that isn't one of the second
record Missing (xs ps : List Place) : Type 0 where
  place : Place
  member : IsIn place xs
  out : IsIn place ps → ⊥

missing_more : (x : Place) (xs ps : List Place) → Missing xs ps → Missing (x ∷ xs) ps
missing_more x xs ps m = record { place = m.place; member = inr m.member; out = m.out }

missing : (xs ps : List Place) → ((q : Place) → IsIn q xs → IsIn q ps) ⊎ Missing xs ps
missing [] ps = inl (λ q is. absurd is)
missing (x ∷ xs) ps = by (is_in x ps) (missing xs ps)
  where
    by : Decided (IsIn x ps)
        → ((q : Place) → IsIn q xs → IsIn q ps) ⊎ Missing xs ps
        → ((q : Place) → IsIn q (x ∷ xs) → IsIn q ps) ⊎ Missing (x ∷ xs) ps
    by (inr not) rest = inr (record { place = x; member = inl refl; out = not })
    by (inl is) (inr m) = inr (missing_more x xs ps m)
    by (inl is) (inl all) = inl every
      where
        every : (q : Place) → IsIn q (x ∷ xs) → IsIn q ps
        every q (inl e) = subst (λ (y : Place). IsIn y ps) (sym e) is
        every q (inr h) = all q h

module _ (l : Listing) where
  abbrev pub next : Place → List Place
  next p = targets (ways l [] p)

  -- each place that one of these leads to is a member
  abbrev Closed : List Place → List Place → Type 0
  Closed xs ps = (p q : Place) → IsIn p xs → LeadsTo l [] p q → IsIn q ps

  -- one of these leads to a place that isn't a member
  record Open (xs ps : List Place) : Type 0 where
    from : Place
    to : Place
    member : IsIn from xs
    leads : LeadsTo l [] from to
    out : IsIn to ps → ⊥

  closed_or_open : (xs ps : List Place) → Closed xs ps ⊎ Open xs ps
  closed_or_open [] ps = inl (λ p q is. absurd is)
  closed_or_open (x ∷ xs) ps = by (missing (next x) ps) (closed_or_open xs ps)
    where
      by : ((q : Place) → IsIn q (next x) → IsIn q ps) ⊎ Missing (next x) ps
          → Closed xs ps ⊎ Open xs ps
          → Closed (x ∷ xs) ps ⊎ Open (x ∷ xs) ps
      by (inr m) rest = inr (record {
        from = x;
        to = m.place;
        member = inl refl;
        leads = of_targets (ways l [] x) m.place m.member;
        out = m.out;
      })
      by (inl all) (inr o) = inr (record {
        from = o.from;
        to = o.to;
        member = inr o.member;
        leads = o.leads;
        out = o.out;
      })
      by (inl all) (inl closed) = inl every
        where
          every : Closed (x ∷ xs) ps
          every p q (inl e) leads =
              all q (in_targets (ways l [] x) q (subst (λ (y : Place). LeadsTo l [] y q) e leads))
          every p q (inr is) leads = closed p q is leads

  -- all reached places
  abbrev pub AreReached : List Place → Type 0
  AreReached ps = (p : Place) → IsIn p ps ↔ Reached l [] p

  closed_all : (ps : List Place)
      → IsIn (first_place l) ps
      → Closed ps ps
      → (p : Place)
      → Reached l [] p
      → IsIn p ps
  closed_all ps begins closed p First = begins
  closed_all ps begins closed p (Next q r reached leads) = closed q r (closed_all ps begins closed q reached) leads

  -- from a list of reached places, where the rest stand in a list of so many
  abbrev Grows : ℕ → Type 0
  Grows n = (rest ps : List Place)
      → length rest ≤ n
      → IsIn (first_place l) ps
      → ((p : Place) → IsIn p ps → Reached l [] p)
      → ((p : Place) → Reached l [] p → IsIn p ps ⊎ IsIn p rest)
      → (found : List Place) × AreReached found

  -- the place that is missing joins
  module _
      (rest ps : List Place)
      (begins : IsIn (first_place l) ps)
      (sound : (p : Place) → IsIn p ps → Reached l [] p)
      (cover : (p : Place) → Reached l [] p → IsIn p ps ⊎ IsIn p rest)
    where
      module _ (new : Place) (reached : Reached l [] new) (w : Without new rest) where
        sound_more : (p : Place) → IsIn p (new ∷ ps) → Reached l [] p
        sound_more p (inl e) = subst (Reached l []) (sym e) reached
        sound_more p (inr h) = sound p h

        moved : (p : Place) → (p ≡ new) ⊎ IsIn p w.others → IsIn p (new ∷ ps) ⊎ IsIn p w.others
        moved p (inl e) = inl (inl e)
        moved p (inr h) = inr h

        cover_by : (p : Place) → IsIn p ps ⊎ IsIn p rest → IsIn p (new ∷ ps) ⊎ IsIn p w.others
        cover_by p (inl h) = inl (inr h)
        cover_by p (inr h) = moved p (w.each p h)

        cover_more : (p : Place) → Reached l [] p → IsIn p (new ∷ ps) ⊎ IsIn p w.others
        cover_more p h = cover_by p (cover p h)

      opens : (m : ℕ) → Grows m → length rest ≤ suc m → (o : Open ps ps) → Reached l [] o.to
          → IsIn o.to ps ⊎ IsIn o.to rest
          → (found : List Place) × AreReached found
      opens m again few o reached (inl is) = absurd (o.out is)
      opens m again few o reached (inr is) =
          let w = without o.to rest is in
          again w.others (o.to ∷ ps) (omega (arith, w.fewer, few)) (inr begins) (sound_more o.to reached w)
          (cover_more o.to reached w)

      closes : Closed ps ps → (found : List Place) × AreReached found
      closes closed = (ps, (λ p. (sound p, closed_all ps begins closed p)))

      led : (o : Open ps ps) → Reached l [] o.to
      led o = Next o.from o.to (sound o.from o.member) o.leads

      by : (m : ℕ) → Grows m → length rest ≤ suc m → Closed ps ps ⊎ Open ps ps → (found : List Place) × AreReached found
      by m again few (inl closed) = closes closed
      by m again few (inr o) = opens m again few o (led o) (cover o.to (led o))

      none_left : (xs : List Place) → length xs ≤ 0 → (p : Place) → IsIn p xs → ⊥
      none_left [] few p is = is
      none_left (x ∷ xs) few p is = omega (arith, few)

      stays : (o : Open ps ps) → length rest ≤ 0 → IsIn o.to ps ⊎ IsIn o.to rest → ⊥
      stays o few (inl is) = o.out is
      stays o few (inr is) = none_left rest few o.to is

      ended : length rest ≤ 0 → Closed ps ps ⊎ Open ps ps → (found : List Place) × AreReached found
      ended few (inl closed) = closes closed
      ended few (inr o) = absurd (stays o few (cover o.to (led o)))

  grown : (n : ℕ) → Grows n
  grown zero rest ps few begins sound cover = ended rest ps begins sound cover few (closed_or_open ps ps)
  grown (suc m) rest ps few begins sound cover = by rest ps begins sound cover m (grown m) few (closed_or_open ps ps)

  -- Where all reached places stand in a list, there is a list of just these.
  pub reached_listed : (places : List Place)
      → ((p : Place) → Reached l [] p → IsIn p places)
      → (found : List Place) × AreReached found
  reached_listed places all =
      grown (length places) places (first_place l ∷ []) (omega arith) (inl refl) begun (λ p h. inr (all p h))
    where
      begun : (p : Place) → IsIn p (first_place l ∷ []) → Reached l [] p
      begun p (inl e) = subst (Reached l []) (sym e) First
      begun p (inr h) = absurd h
