-- The flow of a generated listing has no fault, and few blocks begin in it.
use Rattle.std.proofs.Common.{inl, inr, ◌≡◌, ◌<◌, ◌≤◌, ◌+◌, ℕ, Bool, List, [], ◌∷◌, length, ap, refl, sym, subst, arith}
use Rattle.std.specs.List.{AllByRecursion}
use Rattle.pcode_model.specs.declared.flow.FlowWhy.{FlowWhy}
use Rattle.pcode_model.specs.declared.listing.Place.{Place}
use Rattle.pcode_model.specs.Flow.{AreStarts, BeginsBlock, Entry, Led, Fails, First, IsBefore, IsIn, Leads, Next, NoFault, Reached, Rising, Way, ways}
use Rattle.generator.specs.declared.draws.Drawn.{Drawn}
use Rattle.generator.specs.Generated.{listing_of}
use Rattle.generator_laws.proofs.Spots.{IsFirst, IsSpot, Leading, first_spot, l, spot_leads}

never_fails : (why : FlowWhy) (q : Place) → Fails why ≡ Leads q → ⊥
never_fails why q e = cc

module _ (draws : ℕ → Drawn) where
  -- one of some ways
  among : (t : Bool) (w : Way) (ws : List Way) → IsIn w ws → AllByRecursion (Leading draws t) ws → Leading draws t w
  among t w [] h all = absurd h
  among t w (x ∷ ws) (inl e) all = subst (Leading draws t) (sym e) all.0
  among t w (x ∷ ws) (inr h) all = among t w ws h all.1

  -- Each place that a run can come to is a place of the listing.
  pub reached_spot : (p : Place) → Reached (l draws) [] p → IsSpot draws p
  reached_spot p First = first_spot draws 0 (omega arith)
  reached_spot p (Next q r reached step) =
      let lead = among _ (Leads p) (ways (l draws) [] q) step (spot_leads draws q (reached_spot q reached)) in
      let same : p ≡ lead.to = let is = lead.is in cc in
      subst (IsSpot draws) (sym same) lead.spot

  -- No place of the flow has a fault.
  pub no_fault : NoFault (listing_of draws) []
  no_fault p why (reached, inl fails) =
      let lead = among _ (Fails why) (ways (l draws) [] p) fails (spot_leads draws p (reached_spot p reached)) in
      never_fails why lead.to lead.is
  no_fault p why (reached, inr entered) = entered.1.1

  -- ---- blocks

  -- A block begins at the first place of an instruction.
  pub begins_first : (p : Place) → BeginsBlock (l draws) [] p → IsFirst p
  begins_first p Entry = record { number = 0; few = omega arith; at = refl }
  begins_first p (Led q r reached branches step) =
      let lead = among _ (Leads p) (ways (l draws) [] q) step (spot_leads draws q (reached_spot q reached)) in
      let same : p ≡ lead.to = let is = lead.is in cc in
      subst IsFirst (sym same) (lead.first branches)

-- ---- how many rising places there are

later : (p q : Place) (f : IsFirst p) (g : IsFirst q) → IsBefore p q → f.number < g.number
later p q f g (inl less) =
    let a = ap (λ (x : Place). x.address) f.at in
    let b = ap (λ (x : Place). x.address) g.at in
    omega (arith, a, b, less)
later p q f g (inr (same, less)) =
    let b = ap (λ (x : Place). x.index) g.at in
    absurd (omega (arith, b, less))

few_rising : (p : Place) (rest : List Place) (f : IsFirst p)
    → AllByRecursion IsFirst rest
    → Rising (p ∷ rest)
    → f.number + length (p ∷ rest) ≤ 2001
few_rising p [] f all r = omega (arith, f.few)
few_rising p (q ∷ rest) f all r =
    let more = few_rising q rest all.0 all.1 r.1 in
    let less = later p q f all.0 r.0 in
    omega (arith, more, less)

each_first : (ps : List Place) → ((p : Place) → IsIn p ps → IsFirst p) → AllByRecursion IsFirst ps
each_first [] h = tt
each_first (p ∷ ps) h = (h p (inl refl), each_first ps (λ q i. h q (inr i)))

few_firsts : (ps : List Place) → AllByRecursion IsFirst ps → Rising ps → length ps ≤ 2001
few_firsts [] all r = omega arith
few_firsts (p ∷ ps) all r = let few = few_rising p ps all.0 all.1 r in omega (arith, few)

-- However blocks are listed by where they begin, there are at most 2,001.
pub few_starts : (draws : ℕ → Drawn) (starts : List Place) → AreStarts (listing_of draws) [] starts → length starts ≤ 2001
few_starts draws starts h =
    few_firsts starts (each_first starts (λ p i. begins_first draws p ((h.each p).0 i))) h.rising
