-- Two lists of cases of the same values are one list.
use Rattle.std.proofs.Common.{◌≡◌, ℕ, ◌<◌, List, [], ◌∷◌, refl, sym, ap, ◌∙◌, subst, ◌⊎◌, inl, inr, arith}
use Rattle.std.specs.List.{AllByRecursion}
use Rattle.pcode_model.specs.declared.tables.Case.{Case}
use Rattle.pcode_model.specs.declared.listing.Place.{Place}
use Rattle.pcode_model.specs.declared.listing.Listing.{Listing}
use Rattle.pcode_model.specs.Places.{place}
use Rattle.table_form.specs.Trees.{Tree}
use Rattle.table_form.specs.Values.{Gives}
use Rattle.table_form.specs.Slices.{target_of}
use Rattle.table_form.specs.Tables.{HasCase, LeadsTo, RisingCases}
use Rattle.table_form.proofs.Once.{one_value}

above : (c : Case) (cs : List Case) (v : ℕ)
    → AllByRecursion (λ (d : Case). c.value < d.value) cs
    → HasCase cs v
    → c.value < v
above c [] v all h = absurd h
above c (d ∷ cs) v all (inl e) = omega (arith, all.0)
above c (d ∷ cs) v all (inr h) = above c cs v all.1 h

same_first : (c d : Case) (cs ds : List Case)
    → AllByRecursion (λ (e : Case). c.value < e.value) cs
    → AllByRecursion (λ (e : Case). d.value < e.value) ds
    → (c.value ≡ d.value) ⊎ HasCase ds c.value
    → (d.value ≡ c.value) ⊎ HasCase cs d.value
    → c.value ≡ d.value
same_first c d cs ds a b (inl e) k = e
same_first c d cs ds a b (inr h) (inl e) = sym e
same_first c d cs ds a b (inr h) (inr k) = absurd (omega (arith, above c cs d.value a k, above d ds c.value b h))

same_case : (c d : Case) → c.value ≡ d.value → c.place ≡ d.place → c ≡ d
same_case c d e f =
    ap (λ v. record { value = v; place = c.place }) e ∙ ap (λ p. record { value = d.value; place = p }) f

module _ (l : Listing) (end : Place) (front : List Place) (x : Tree) where
  same_place : (c d : Case) → c.value ≡ d.value → LeadsTo l end front x c → LeadsTo l end front x d → c.place ≡ d.place
  same_place c d e h k =
      let gives : Gives l x d.value (target_of l front end) h.address =
      subst (λ v. Gives l x v (target_of l front end) h.address) e h.gives in
      h.is_first
      ∙ ap (λ a. place a 0) (one_value l x (target_of l front end) d.value h.address k.address gives k.gives)
      ∙ sym k.is_first

  pub same_cases : (cs ds : List Case)
      → RisingCases cs
      → RisingCases ds
      → AllByRecursion (LeadsTo l end front x) cs
      → AllByRecursion (LeadsTo l end front x) ds
      → ((v : ℕ) → HasCase cs v → HasCase ds v)
      → ((v : ℕ) → HasCase ds v → HasCase cs v)
      → cs ≡ ds
  same_cases [] [] r s p q there back = refl
  same_cases [] (d ∷ ds) r s p q there back = absurd (back d.value (inl refl))
  same_cases (c ∷ cs) [] r s p q there back = absurd (there c.value (inl refl))
  same_cases (c ∷ cs) (d ∷ ds) r s p q there back =
      let e : c.value ≡ d.value = same_first c d cs ds r.0 s.0 (there c.value (inl refl)) (back d.value (inl refl)) in
      let first : c ≡ d = same_case c d e (same_place c d e p.0 q.0) in
      ap (λ z. z ∷ cs) first
      ∙ ap (λ zs. d ∷ zs) (same_cases cs ds r.1 s.1 p.1 q.1
      (λ v h. rest c d cs ds v e r.0 h (there v (inr h)))
      (λ v h. rest d c ds cs v (sym e) s.0 h (back v (inr h))))
    where
      rest : (c d : Case) (cs ds : List Case) (v : ℕ)
          → c.value ≡ d.value
          → AllByRecursion (λ (e : Case). c.value < e.value) cs
          → HasCase cs v
          → (v ≡ d.value) ⊎ HasCase ds v
          → HasCase ds v
      rest c d cs ds v e a h (inl f) = absurd (omega (arith, above c cs v a h))
      rest c d cs ds v e a h (inr k) = k
