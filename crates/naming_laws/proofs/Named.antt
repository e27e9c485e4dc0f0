-- The function that is made of a body below a head that has all that the body mentions: its numbers are those of a valid
-- function, and it keeps what is mentioned.
use Rattle.std.proofs.Common.{◌≡◌, ℕ, suc, ◌+◌, ◌-◌, ◌^◌, ◌<◌, ◌≤◌, Bool, true, false, cond, List, [], ◌∷◌, length, map, refl, sym, ap, ◌∙◌, Option, Some, None, arith}
use Rattle.std.specs.Prelude.{◌==◌, nat_lt, slice_get}
use Rattle.std.proofs.lemmas.Bool.{ltb-true}
use Rattle.std.proofs.lemmas.Bool.Decides.{nat_tests}
use Rattle.std.proofs.lemmas.Option.{slice_get_past}
use Rattle.pcode_model.specs.Spaces.{or}
use Rattle.pcode_laws.proofs.Within.{get_within}
use Rattle.cmeaning.specs.declared.tree.Stmt.{Stmt}
use Rattle.cmeaning.specs.declared.tree.Param.{Param}
use Rattle.cmeaning.specs.declared.tree.Local.{Local}
use Rattle.cmeaning.specs.declared.tree.CalleeDecl.{CalleeDecl}
use Rattle.cmeaning.specs.declared.tree.CFunction.{CFunction}
use Rattle.cmeaning.specs.Callees.{declared_in, does_return, returns_by}
use Rattle.cmeaning.specs.Do.{widths_in, variable_width, local_width}
use Rattle.cmeaning.specs.Mentions.{Mention, Variable, Callee, LabelLine, place_of, numbered, in_body}
use Rattle.cmeaning.specs.Valid.{first_next}
use Rattle.naming.specs.declared.head.Head.{Head}
use Rattle.naming.specs.declared.order.Order.{Order}
use Rattle.naming.specs.Listed.{is_listed, place_in}
use Rattle.naming.specs.First.{none_noted, order_of, variable_number, names_of, next_of}
use Rattle.naming.specs.Named.{local_of, named_function}
use Rattle.naming.specs.Renamed.{Names, mention_by}
use Rattle.naming.specs.Run.{widths_of, returns_of}
use Rattle.naming_laws.specs.Kept.{Kept, KeepsOne, Obeys, ObeysOne}
use Rattle.naming.specs.Covered.{Covers, CoversOne, IsCovered}
use Rattle.naming_laws.proofs.Places.{place_within}
use Rattle.naming_laws.proofs.Numbers.{AreDeclared, numbered_first}
use Rattle.naming_laws.proofs.Mentions.{in_body_by}
use Rattle.naming_laws.proofs.Found.{All, all_map, are_few, IsFound, IsWithin, found_long, found_at}
use Rattle.naming_laws.proofs.Callees.{addresses, addresses_are, declared_again}
use Rattle.naming_laws.proofs.Orders.{IsSound, sound, IsIn, AllIn, mentioned_in}

place_of_is : (cs : List CalleeDecl) (a : ℕ)
    → is_listed a (addresses cs) ≡ true
    → place_of cs a ≡ place_in (addresses cs) a
place_of_is [] a h = absurd (cc)
place_of_is (c ∷ cs) a h = by_test (c.address == a) h (λ g. place_of_is cs a g)
  where
    by_test : (b : Bool)
        → or b (is_listed a (addresses cs)) ≡ true
        → (is_listed a (addresses cs) ≡ true → place_of cs a ≡ place_in (addresses cs) a)
        → cond b 0 (suc (place_of cs a)) ≡ cond b 0 (suc (place_in (addresses cs) a))
    by_test true g next = refl
    by_test false g next = ap suc (next g)

no_some : (q : Param) → Some q ≡ None → ⊥
no_some q e = cc

same_param : (q : Option Param) (x y : Option Local) → (q ≡ None → ⊥) → variable_width q x ≡ variable_width q y
same_param None x y there = absurd (there refl)
same_param (Some p) x y there = refl

module _ (h : Head) (body : List Stmt) (covered : IsCovered h body) where
  abbrev params : ℕ
  params = length h.params

  abbrev last : Order
  last = order_of params body

  abbrev pub f : CFunction
  f = named_function h body

  abbrev pub names : Names
  names = names_of last

  s : IsSound h last
  s = sound h body covered

  all_in : AllIn last (in_body body)
  all_in = mentioned_in params body

  -- ---- what is found

  locals_found : All (IsFound (local_of params h.locals)) last.variables
  locals_found =
      all_map (IsWithin params (length h.locals)) (IsFound (local_of params h.locals)) last.variables
      (λ v within. get_within h.locals (v - params)
      (let from = within.0 in let to = within.1 in omega (arith, from, to))) s.variables

  addresses_same : addresses f.callees ≡ last.callees
  addresses_same = addresses_are h.callees last.callees s.callees

  variables_few : length last.variables ≤ length h.locals
  variables_few = are_few last.variables params (length h.locals) s.variables_apart s.variables

  labels_few : length last.labels ≤ 2 ^ 32 - 1
  labels_few = are_few last.labels 0 (2 ^ 32 - 1) s.labels_apart s.labels

  -- ---- numbers

  -- what the validity test asks of numbers
  pub named_numbers : numbered f.callees (in_body f.body) (Some (first_next f)) ≡ Some (next_of last)
  named_numbers =
      let declared : AreDeclared f.callees last = λ a g.
      let here : is_listed a (addresses f.callees) ≡ true = ap (is_listed a) addresses_same ∙ g in
      place_of_is f.callees a here ∙ ap (λ (xs : List ℕ). place_in xs a) addresses_same in
      let none : params ≡ params + 0 = omega arith in
      ap (λ (ms : List Mention). numbered f.callees ms (Some (first_next f))) (in_body_by names body)
      ∙ ap (λ (n : ℕ). numbered f.callees (map (mention_by names) (in_body body))
      (Some (record { variable = n; callee = 0; label = 1 }))) none
      ∙ numbered_first f.callees (none_noted params) (in_body body) declared covered.once

  -- each local appears
  pub named_locals : (next_of last).variable ≡ length f.params + length f.locals
  named_locals =
      ap (λ (n : ℕ). n + length last.variables) s.params
      ∙ ap (λ (n : ℕ). params + n) (sym (found_long (local_of params h.locals) last.variables locals_found))

  -- each callee has a call
  pub named_callees : (next_of last).callee ≡ length f.callees
  named_callees = sym (found_long (declared_in h.callees) last.callees s.callees)

  -- ---- widths

  number_is : (v : ℕ) → variable_number last v ≡ cond (nat_lt v params) v (params + place_in last.variables v)
  number_is v = ap (λ (n : ℕ). cond (nat_lt v n) v (n + place_in last.variables v)) s.params

  listed_above : (v : ℕ) → IsIn last (Variable v) → nat_lt v params ≡ false → is_listed v last.variables ≡ true
  listed_above v is_in above = is_in (ap (nat_lt v) s.params ∙ above)

  width_kept : (v : ℕ) → IsIn last (Variable v) → widths_of h v ≡ widths_in f (names.variable v)
  width_kept v is_in = by_test (nat_lt v params) refl ∙ ap (widths_in f) (sym (number_is v))
    where
      by_test : (b : Bool)
          → nat_lt v params ≡ b
          → widths_of h v ≡ widths_in f (cond b v (params + place_in last.variables v))
      by_test true below =
          let low : v < params = ltb-true v params below in
          let p = get_within h.params v low in
          same_param (slice_get h.params v) (slice_get h.locals (v - params)) (slice_get f.locals (v - params))
          (λ none. no_some p.0 (sym p.1 ∙ none))
      by_test false above =
          let from : params ≤ v = grind (arith, nat_tests, above) in
          let place = place_in last.variables v in
          let past : params ≤ params + place = omega arith in
          let less : params + place - params ≡ place = omega arith in
          let there = found_at (local_of params h.locals) last.variables v locals_found (listed_above v is_in above) in
          ap (λ (q : Option Param). variable_width q (slice_get h.locals (v - params))) (slice_get_past h.params v from)
          ∙ ap local_width (sym there)
          ∙ ap (λ (n : ℕ). local_width (slice_get f.locals n)) (sym less)
          ∙ ap (λ (q : Option Param). variable_width q (slice_get f.locals (params + place - params)))
          (sym (slice_get_past h.params (params + place) past))

  -- a number of 32 bits stays one
  small_kept : (v : ℕ)
      → IsIn last (Variable v)
      → v < params + length h.locals
      → nat_lt v (2 ^ 32) ≡ nat_lt (names.variable v) (2 ^ 32)
  small_kept v is_in within = by_test (nat_lt v params) refl ∙ ap (λ (n : ℕ). nat_lt n (2 ^ 32)) (sym (number_is v))
    where
      by_test : (b : Bool)
          → nat_lt v params ≡ b
          → nat_lt v (2 ^ 32) ≡ nat_lt (cond b v (params + place_in last.variables v)) (2 ^ 32)
      by_test true below = refl
      by_test false above =
          let few = covered.few in
          let low = place_within last.variables v (listed_above v is_in above) in
          let locals = variables_few in
          let old : nat_lt v (2 ^ 32) ≡ true = grind (arith, nat_tests, few, within) in
          let new : nat_lt (params + place_in last.variables v) (2 ^ 32) ≡ true =
          grind (arith, nat_tests, few, low, locals) in
          old ∙ sym new

  callee_kept : (a : ℕ) → is_listed a last.callees ≡ true → declared_in h.callees a ≡ declared_in f.callees a
  callee_kept a is_in = sym (declared_again h.callees last.callees a s.callees is_in)

  label_kept : (n : ℕ)
      → n < 2 ^ 32 - 1
      → is_listed n last.labels ≡ true
      → nat_lt n (2 ^ 32) ≡ nat_lt (names.label n) (2 ^ 32)
  label_kept n small is_in =
      let low = place_within last.labels n is_in in
      let few = labels_few in
      let old : nat_lt n (2 ^ 32) ≡ true = grind (arith, nat_tests, small) in
      let new : nat_lt (suc (place_in last.labels n)) (2 ^ 32) ≡ true = grind (arith, nat_tests, low, few) in
      old ∙ sym new

  -- ---- what is mentioned is kept

  keeps_one : (x : Mention)
      → IsIn last x
      → KeepsOne names (widths_of h) (widths_in f) (returns_of h) (returns_by f.callees) x
  keeps_one (Variable v) is_in = width_kept v is_in
  keeps_one (Callee a) is_in = ap does_return (callee_kept a is_in)
  keeps_one (LabelLine n) is_in = tt

  keeps : (xs : List Mention)
      → AllIn last xs
      → Kept names (widths_of h) (widths_in f) (returns_of h) (returns_by f.callees) xs
  keeps [] is_in = tt
  keeps (x ∷ xs) is_in = (keeps_one x is_in.0, keeps xs is_in.1)

  pub named_keeps : Kept names (widths_of h) (widths_in f) (returns_of h) (returns_by f.callees) (in_body body)
  named_keeps = keeps (in_body body) all_in

  obeys_one : (x : Mention) → IsIn last x → CoversOne h x → ObeysOne names h f x
  obeys_one (Variable v) is_in within = (width_kept v is_in, small_kept v is_in within)
  obeys_one (Callee a) is_in found = callee_kept a is_in
  obeys_one (LabelLine n) is_in small = label_kept n small is_in

  obeys_all : (xs : List Mention) → AllIn last xs → Covers h xs → Obeys names h f xs
  obeys_all [] is_in c = tt
  obeys_all (x ∷ xs) is_in c = (obeys_one x is_in.0 c.0, obeys_all xs is_in.1 c.1)

  pub named_obeys : Obeys names h f (in_body body)
  named_obeys = obeys_all (in_body body) all_in covered.mentions
