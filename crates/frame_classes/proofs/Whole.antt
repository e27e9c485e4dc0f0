-- The runs of a listing's accesses of the frame are its classes, and those below every escape its frame variables.
use Rattle.std.proofs.Common.{◌-◌, ◌≡◌, ◌∙◌, ◌^◌, ℕ, true, List, [], ◌∷◌, refl, sym, ap, subst, inl, inr, arith}
use Rattle.std.specs.Prelude.{ℤ, pos, ◌+ℤ◌, ◌-ℤ◌, ◌≤ℤ◌, ◌<ℤ◌, int_lt}
use Rattle.std.specs.List.{AllByRecursion}
use Rattle.std.proofs.lemmas.Int.{ints}
use Rattle.pcode_model.specs.declared.frame.FrameAccess.{FrameAccess}
use Rattle.pcode_model.specs.declared.frame.FrameVariable.{FrameVariable}
use Rattle.pcode_model.specs.declared.listing.Listing.{Listing}
use Rattle.pcode_model.specs.declared.listing.Place.{Place}
use Rattle.pcode_model.specs.declared.tables.TableAt.{TableAt}
use Rattle.pcode_model.specs.Flow.{IsIn}
use Rattle.pcode_model.proofs.Members.{of_member}
use Rattle.stackvars.specs.Near.{IsNearAccess}
use Rattle.stackvars.proofs.Members.{to_recursion}
use Rattle.frame_facts.specs.Accesses.{AreJoined, Chained, IsAccessOf, IsByte, IsByteOf, IsClass, IsFrameAccess, IsFrameVariable, IsVariableAccess, Same, signed_offset}
use Rattle.frame_facts.specs.Escapes.{Escapes}
use Rattle.frame_facts.specs.Listed.{InOrderBy, IsAccessBefore, IsEscape, IsVariableBefore, Lists}
use Rattle.frame_facts.proofs.Classes.{joined_back, joined_on, variables_same}
use Rattle.frame_classes.specs.declared.runs.Run.{Run}
use Rattle.frame_classes.specs.Runs.{Alone, AreChained, AreRuns, HasBytes, IsWithin, Linked}
use Rattle.frame_classes.specs.FrameVariables.{Fits, before, is_below, limit, variable, variables_of}
use Rattle.frame_classes.proofs.Apart.{IsInRun, has_bytes, in_variables, limit_within, one_run, variable_ends, variable_in, variables_rise, within_limit}
use Rattle.frame_classes.proofs.Order.{before_all, before_in, before_ordered, in_before}

-- ---- runs of accesses

chain_end : (xs : List FrameAccess) (a b : FrameAccess) → AreChained xs a b → IsIn b xs
chain_end xs a b (Alone c is) = is
chain_end xs a b (Linked c d e chain is share) = is

module _ (xs : List FrameAccess) (near : AllByRecursion IsNearAccess xs) (runs : List Run) (are : AreRuns xs runs) where
  fits : (r : Run) → IsIn r runs → Fits r
  fits r is =
      let some = has_bytes runs are.apart r is in
      let f = are.filled r is in
      let low = f.bytes r.begin (omega (arith, ints)) some in
      let high = f.bytes (r.end -ℤ pos 1) (omega (arith, ints, some)) (omega (arith, ints)) in
      let first = of_member IsNearAccess low.0 xs near (chain_end xs f.first low.0 low.1.0) in
      let last = of_member IsNearAccess high.0 xs near (chain_end xs f.first high.0 high.1.0) in
      let from = first.from in
      let to = last.to in
      let few = last.few in
      record {
        from = omega (arith, ints, from, low.1.1.0);
        some = some;
        to = omega (arith, ints, to, few, high.1.1.1);
      }

  -- Each fits a variable.
  pub all_fit : AllByRecursion Fits runs
  all_fit = to_recursion Fits runs fits

-- ---- the least escape

least_first : (e : ℤ) (es : List ℤ) → InOrderBy ◌<ℤ◌ (e ∷ es) → (o : ℤ) → IsIn o (e ∷ es) → e ≤ℤ o
least_first e es order o (inl f) = omega (arith, ints, f)
least_first e es order o (inr is) =
    let h = before_all ◌<ℤ◌ (λ a b c x y. omega (arith, ints, x, y)) e es order o is in omega (arith, ints, h)

module _ (l : Listing) (t : List TableAt) (escapes : List ℤ) (listed : Lists (IsEscape l t) ◌<ℤ◌ escapes) where
  abbrev EndsBelow : ℤ → Type 0
  EndsBelow n = (c : ℕ) → Escapes l t c → n ≤ℤ signed_offset l c

  pub ends_below : (r : Run) → is_below escapes r ≡ true → EndsBelow r.end
  ends_below r low c is = by escapes listed.in_order ((listed.each (signed_offset l c)).1 (c, (is, refl))) low where
    by : (es : List ℤ)
        → InOrderBy ◌<ℤ◌ es
        → IsIn (signed_offset l c) es
        → is_below es r ≡ true
        → r.end ≤ℤ signed_offset l c
    by [] order is low = absurd is
    by (e ∷ es) order is low =
        let h = least_first e es order (signed_offset l c) is in
        let g : r.end ≤ℤ e = grind (arith, ints) in
        omega (arith, ints, h, g)

  pub below_ends : (r : Run) → EndsBelow r.end → is_below escapes r ≡ true
  below_ends r ends = by escapes (λ o is. (listed.each o).0 is) where
    by : (es : List ℤ) → ((o : ℤ) → IsIn o es → IsEscape l t o) → is_below es r ≡ true
    by [] each = refl
    by (e ∷ es) each =
        let is = each e (inl refl) in
        let h = ends is.0 is.1.0 in
        let g : r.end ≤ℤ e = omega (arith, ints, h, is.1.1) in
        grind (arith, ints)

-- ---- classes

module _
    (l : Listing)
    (t : List TableAt)
    (evaluated : List Place)
    (xs : List FrameAccess)
    (listed : Lists (IsFrameAccess l t evaluated) IsAccessBefore xs)
    (some : AllByRecursion HasBytes xs)
    (near : AllByRecursion IsNearAccess xs)
    (runs : List Run)
    (are : AreRuns xs runs)
  where
    abbrev Joined : FrameAccess → FrameAccess → Type 0
    Joined a b = AreJoined l t evaluated a b

    is_access : (a : FrameAccess) → IsIn a xs → IsFrameAccess l t evaluated a
    is_access a is = (listed.each a).0 is

    is_listed : (a : FrameAccess) → IsFrameAccess l t evaluated a → IsIn a xs
    is_listed a is = (listed.each a).1 is

    own_byte : (a : FrameAccess) → IsIn a xs → IsByteOf a a.offset
    own_byte a is = let h = of_member HasBytes a xs some is in (omega (arith, ints), omega (arith, ints, h))

    first_byte : (r : Run) (a : FrameAccess) → IsIn a xs → IsWithin a r → IsInRun r a.offset
    first_byte r a is within =
        let h = of_member HasBytes a xs some is in
        let g = within.to in
        (within.from, omega (arith, ints, g, h))

    joined_to : (a b : FrameAccess) → AreChained xs a b → Joined a b
    joined_to a b (Alone c is) = Same c (is_access c is)
    joined_to a b (Linked c d e chain is share) = Chained c d e (joined_to c d chain) (is_access e is) share

    -- An access with a byte in a run lies in it,
    within_of : (r : Run) → IsIn r runs → (a : FrameAccess) → IsIn a xs → (o : ℤ) → IsByteOf a o → IsInRun r o → IsWithin a r
    within_of r is a among o byte in_r =
        let c = are.covered a among in
        let from = c.1.1.from in
        let to = c.1.1.to in
        let e : c.0 ≡ r =
        one_run runs are.apart c.0 r c.1.0 is o (omega (arith, ints, from, byte.0), omega (arith, ints, to, byte.1)) in_r in
        subst (λ (s : Run). IsWithin a s) e c.1.1

    -- and so does what is joined to it.
    joined_within : (r : Run) → IsIn r runs → (a b : FrameAccess) → IsWithin a r → Joined a b → IsWithin b r
    joined_within r is a b within (Same c access) = within
    joined_within r is a b within (Chained c d e chain access share) =
        let w = joined_within r is c d within chain in
        let from = w.from in
        let to = w.to in
        within_of r is e (is_listed e access) share.0 share.1.1
        (omega (arith, ints, from, share.1.0.0), omega (arith, ints, to, share.1.0.1))

    module _ (r : Run) (is : IsIn r runs) (a : FrameAccess) (among : IsIn a xs) (within : IsWithin a r) where
      ends : ((variable r).offset +ℤ pos (variable r).size) ≡ r.end
      ends = variable_ends r (has_bytes runs are.apart r is)

      from_first : Joined (are.filled r is).first a
      from_first =
          let f = are.filled r is in
          let at = first_byte r a among within in
          let b = f.bytes a.offset at.0 at.1 in
          Chained f.first b.0 a (joined_to f.first b.0 b.1.0) (is_access a among) (a.offset, (b.1.1, own_byte a among))

      bytes_to : (o : ℤ)
          → IsByte (variable r).offset (variable r).size o
          → (b : FrameAccess) × (Joined a b × IsByteOf b o)
      bytes_to o byte =
          let f = are.filled r is in
          let b = f.bytes o byte.0 (omega (arith, ints, ends, byte.1)) in
          let to : Joined f.first b.0 = joined_to f.first b.0 b.1.0 in (
            b.0,
            (
              joined_on l t evaluated a f.first b.0 (joined_back l t evaluated f.first a from_first) to,
              b.1.1,
            ),
          )

      bytes_back : (o : ℤ)
          → (b : FrameAccess) × (Joined a b × IsByteOf b o)
          → IsByte (variable r).offset (variable r).size o
      bytes_back o b =
          let w = joined_within r is a b.0 within b.1.0 in
          let from = w.from in
          let to = w.to in
          (omega (arith, ints, from, b.1.1.0), omega (arith, ints, to, b.1.1.1, ends))

      -- A run is the class of each access in it.
      run_class : IsClass l t evaluated a (variable r)
      run_class = record { access = is_access a among; bytes = λ o. (bytes_to o, bytes_back o) }

    -- ---- variables

    module _ (escapes : List ℤ) (escaped : Lists (IsEscape l t) ◌<ℤ◌ escapes) where
      abbrev Below : Run → Type 0
      Below r = is_below escapes r ≡ true

      own_variable : (r : Run) (is : IsIn r runs) (a : FrameAccess) (among : IsIn a xs) (within : IsWithin a r)
          → Below r
          → IsAccessOf l t evaluated (variable r) a
      own_variable r is a among within low = record {
        is_class = run_class r is a among within;
        below = λ c escape.
            let h = ends_below l t escapes escaped r low c escape in
            let e = ends r is a among within in
            omega (arith, ints, h, e);
      }

      -- The run that an access of a variable lies in.
      record HasRun (v : FrameVariable) (a : FrameAccess) : Type 0 where
        among : IsIn a xs
        run : Run
        is : IsIn run runs
        within : IsWithin a run
        low : Below run

      has_run : (v : FrameVariable) (a : FrameAccess) → IsAccessOf l t evaluated v a → HasRun v a
      has_run v a own =
          let among : IsIn a xs = is_listed a own.is_class.access in
          let c = are.covered a among in
          let r : Run = c.0 in
          let e = ends r c.1.0 a among c.1.1 in
          let more = has_bytes runs are.apart r c.1.0 in
          let b = bytes_to r c.1.0 a among c.1.1 (r.end -ℤ pos 1) (omega (arith, ints, more), omega (arith, ints, e)) in
          let last = (own.is_class.bytes (r.end -ℤ pos 1)).1 b in
          let low : Below r =
          below_ends l t escapes escaped r
          (λ n escape. let h = own.below n escape in omega (arith, ints, h, last.1)) in
          record { among = among; run = r; is = c.1.0; within = c.1.1; low = low }

      is_variable : (v : FrameVariable) → IsIn v (variables_of escapes runs) → IsFrameVariable l t evaluated v
      is_variable v is =
          let f = in_variables escapes runs v is in
          let filled = are.filled f.0 f.1.0 in
          subst (λ (w : FrameVariable). IsFrameVariable l t evaluated w) (sym f.1.1.1)
          (filled.first, own_variable f.0 f.1.0 filled.first filled.is_first filled.within f.1.1.0)

      -- variables with the same bytes are the same
      same_variable : (v w : FrameVariable) → v.offset ≡ w.offset → v.size ≡ w.size → v ≡ w
      same_variable v w e f =
          ap (λ (o : ℤ). record { offset = o; size = v.size }) e ∙ ap (λ (k : ℕ). record { offset = w.offset; size = k }) f

      variable_listed : (v : FrameVariable) → IsFrameVariable l t evaluated v → IsIn v (variables_of escapes runs)
      variable_listed v (a, own) =
          let h = has_run v a own in
          let w : FrameVariable = variable h.run in
          let also : IsFrameVariable l t evaluated w = (a, own_variable h.run h.is a h.among h.within h.low) in
          let at : IsByteOf a a.offset = own_byte a h.among in
          let in_v = (own.is_class.bytes a.offset).1 (a, (Same a own.is_class.access, at)) in
          let in_w = bytes_back h.run h.is a h.among h.within a.offset (a, (Same a own.is_class.access, at)) in
          let e = variables_same l t evaluated v w (a, own) also a.offset in_v in_w in
          subst (λ (x : FrameVariable). IsIn x (variables_of escapes runs)) (sym (same_variable v w e.0 e.1))
          (variable_in escapes runs h.run h.is h.low)

      -- The runs below every escape are the frame variables.
      pub variables_listed : Lists (IsFrameVariable l t evaluated) IsVariableBefore (variables_of escapes runs)
      variables_listed = record {
        each = λ v. (is_variable v, variable_listed v);
        in_order = variables_rise escapes runs are.apart;
      }

      -- ---- their accesses

      abbrev bound : ℤ
      bound = limit escapes runs

      small : (a : FrameAccess) → IsIn a xs → a.offset <ℤ pos (2 ^ 63 - 1)
      small a is = let h = (of_member IsNearAccess a xs near is).to in omega (arith, ints, h)

      found_access : (a : FrameAccess) → IsIn a (before bound xs) → IsVariableAccess l t evaluated a
      found_access a is =
          let h = in_before bound xs a is in
          let c = are.covered a h.0 in
          let less : a.offset <ℤ bound = let e = h.1 in grind (arith, ints) in
          let low : Below c.0 =
          limit_within escapes a.offset (small a h.0) runs are.apart c.0 c.1.0 (first_byte c.0 a h.0 c.1.1) less in
          (variable c.0, own_variable c.0 c.1.0 a h.0 c.1.1 low)

      access_found : (a : FrameAccess) → IsVariableAccess l t evaluated a → IsIn a (before bound xs)
      access_found a (v, own) =
          let h = has_run v a own in
          let less : a.offset <ℤ bound =
          within_limit escapes a.offset (small a h.among) runs are.apart h.run h.is (first_byte h.run a h.among h.within)
          h.low in
          let e : int_lt a.offset bound ≡ true = grind (arith, ints) in
          before_in bound xs a h.among e

      -- What begins before the first run that isn't one is an access of a variable.
      pub accesses_listed : Lists (IsVariableAccess l t evaluated) IsAccessBefore (before bound xs)
      accesses_listed = record {
        each = λ a. (found_access a, access_found a);
        in_order = before_ordered bound xs listed.in_order;
      }
