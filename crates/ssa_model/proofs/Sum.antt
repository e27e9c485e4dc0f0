-- The loop of the worked text is strict and formed, so what the form asks can be met.
use Rattle.std.proofs.Common.{◌≡◌, ℕ, zero, suc, ◌<◌, Bool, true, false, eqb, List, [], ◌∷◌, ◌⊎◌, inl, inr, length, Option, Some, None, refl, sym, ap, ◌∙◌, subst, cond, slice_get, arith, true≢false}
use Rattle.bits_core.specs.Value.{limit}
use Rattle.heap_nodes.proofs.Places.{none_some, some_same}
use Rattle.node_lists.specs.Chains.{IsIn}
use Rattle.node_lists.proofs.Chains.{eqb_is}
use Rattle.opgraph.specs.Graph.{OpRow, op_slot}
use Rattle.ssa_model.specs.declared.form.SsaExit.{SsaExit}
use Rattle.ssa_model.specs.declared.form.SsaExit.TheVariants as X
use Rattle.ssa_model.specs.declared.form.SsaBlock.{SsaBlock}
use Rattle.ssa_model.specs.Roles.{Role, Starts, Calls, Extra, Tests, Returns, role_of}
use Rattle.ssa_model.specs.Outline.{OpForm, Form, Outline, form, outline, form_in, block_with, exit_in, targets_in, predecessors_in, exit_at, predecessors_at, Leads}
use Rattle.ssa_model.specs.Paths.{Path, Start, Step, IsPassed, IsJoin, UsedAt, Read, Joined, Available, before_op}
use Rattle.ssa_model.specs.Formed.{fits, is_exit_role, exit_role, Closes}
use Rattle.ssa_model.specs.Edits.{IsSsa}
use Rattle.ssa_model.specs.Examples.{sum_loop}
use Rattle.ssa_model.proofs.Tests.{are_apart, Each, each, InOrder, joins_first}

abbrev f : Form
f = form sum_loop

abbrev o : Outline
o = outline f

-- ---- ops

-- a fact of each op's form
abbrev InForm : (OpForm → Type 0) → Option OpForm → Type 0
InForm Q None = Unit {0}
InForm Q (Some g) = Q g

abbrev EachForm : (ℕ → OpForm → Type 0) → Type 0
EachForm Q = Each (λ (n : ℕ) (r : Option OpRow). InForm (Q n) (form_in f.rows r)) 0 sum_loop.graph.ops

by_form : (Q : ℕ → OpForm → Type 0) → EachForm Q → (x : ℕ) (g : OpForm) → o.forms x ≡ Some g → Q x g
by_form Q h x g e = at (slice_get sum_loop.graph.ops x) refl e
  where
    at : (w : Option (Option OpRow))
        → slice_get sum_loop.graph.ops x ≡ w
        → form_in f.rows (op_slot w) ≡ Some g
        → Q x g
    at None k d = none_some d
    at (Some None) k d = none_some d
    at (Some (Some r)) k d =
        subst (Q x) (some_same d)
        (each (λ (n : ℕ) (s : Option OpRow). InForm (Q n) (form_in f.rows s)) sum_loop.graph.ops h x (Some r) k)

-- a fact of each op's row
abbrev InRow : (OpRow → Type 0) → Option OpRow → Type 0
InRow Q None = Unit {0}
InRow Q (Some r) = Q r

by_row : (Q : ℕ → OpRow → Type 0)
    → Each (λ (n : ℕ) (r : Option OpRow). InRow (Q n) r) 0 sum_loop.graph.ops
    → (x : ℕ) (r : OpRow)
    → f.rows x ≡ Some r
    → Q x r
by_row Q h x r e = at (slice_get sum_loop.graph.ops x) refl e
  where
    at : (w : Option (Option OpRow)) → slice_get sum_loop.graph.ops x ≡ w → op_slot w ≡ Some r → Q x r
    at None k d = none_some d
    at (Some None) k d = none_some d
    at (Some (Some s)) k d =
        subst (Q x) (some_same d)
        (each (λ (n : ℕ) (t : Option OpRow). InRow (Q n) t) sum_loop.graph.ops h x (Some s) k)

-- ---- blocks

abbrev at_number : ℕ → Option SsaBlock
at_number b = block_with b sum_loop.blocks

-- a fact of each block, by its number
by_block : (R : ℕ → Option SsaBlock → Type 0)
    → R 0 (at_number 0)
    → R 1 (at_number 1)
    → R 2 (at_number 2)
    → R 3 (at_number 3)
    → ((b : ℕ) → R b None)
    → (b : ℕ)
    → R b (at_number b)
by_block R h0 h1 h2 h3 hn b = test0 (eqb 0 b) refl
  where
    test3 : (t : Bool) → eqb 3 b ≡ t → R b (cond t (at_number 3) None)
    test3 true e = subst (λ c. R c (at_number 3)) (eqb_is 3 b e) h3
    test3 false e = hn b

    test2 : (t : Bool) → eqb 2 b ≡ t → R b (cond t (at_number 2) (cond (eqb 3 b) (at_number 3) None))
    test2 true e = subst (λ c. R c (at_number 2)) (eqb_is 2 b e) h2
    test2 false e = test3 (eqb 3 b) refl

    test1 : (t : Bool)
        → eqb 1 b ≡ t
        → R b (cond t (at_number 1) (cond (eqb 2 b) (at_number 2) (cond (eqb 3 b) (at_number 3) None)))
    test1 true e = subst (λ c. R c (at_number 1)) (eqb_is 1 b e) h1
    test1 false e = test2 (eqb 2 b) refl

    test0 : (t : Bool)
        → eqb 0 b ≡ t
        → R b
        (cond t (at_number 0)
        (cond (eqb 1 b) (at_number 1) (cond (eqb 2 b) (at_number 2) (cond (eqb 3 b) (at_number 3) None))))
    test0 true e = subst (λ c. R c (at_number 0)) (eqb_is 0 b e) h0
    test0 false e = test1 (eqb 1 b) refl

to_block : (c to b n : ℕ) → c ≡ to → to < n → c < n
to_block c to b n e h = omega (arith, e, h)

exits_there : (b c : ℕ) → Leads sum_loop.blocks b c → c < 4
exits_there b c m =
    by_block (λ (d : ℕ) (x : Option SsaBlock). IsIn c (targets_in x) → c < 4) jump test jump none (λ d h. absurd h) b m
  where
    jump : IsIn c (1 ∷ []) → c < 4
    jump (inl e) = omega (arith, e)
    jump (inr h) = absurd h

    test : IsIn c (3 ∷ 2 ∷ []) → c < 4
    test (inl e) = omega (arith, e)
    test (inr (inl e)) = omega (arith, e)
    test (inr (inr h)) = absurd h

    none : IsIn c [] → c < 4
    none h = absurd h

-- ---- paths

-- a path to a block passes block 0 unless the block is that one, and block 1 unless it is one of these two
record Along (passed : List ℕ) (b : ℕ) : Type 0 where
  zero_passed : (b ≡ 0) ⊎ IsIn 0 passed
  one_passed : ((b ≡ 0) ⊎ (b ≡ 1)) ⊎ IsIn 1 passed

not_zero : (b n : ℕ) {A : Type 0} → b ≡ 0 → b ≡ suc n → A
not_zero b n e h = absurd (omega (arith, e, h))

later : (passed : List ℕ) (n : ℕ) → Along passed (suc n) → IsIn 0 passed
later passed n a = by_case a.zero_passed
  where
    by_case : (suc n ≡ 0) ⊎ IsIn 0 passed → IsIn 0 passed
    by_case (inl e) = not_zero (suc n) n e refl
    by_case (inr m) = m

behind : (passed : List ℕ) (n : ℕ) → Along passed (suc (suc n)) → IsIn 1 passed
behind passed n a = by_case a.one_passed
  where
    by_case : ((suc (suc n) ≡ 0) ⊎ (suc (suc n) ≡ 1)) ⊎ IsIn 1 passed → IsIn 1 passed
    by_case (inl (inl e)) = not_zero (suc (suc n)) (suc n) e refl
    by_case (inl (inr e)) = absurd (omega (arith, e))
    by_case (inr m) = m

one_on : (passed : List ℕ) (from to : ℕ)
    → Along passed from
    → Leads sum_loop.blocks from to
    → Along (from ∷ passed) to
one_on passed from to a m =
    by_block
    (λ (d : ℕ) (x : Option SsaBlock). Along passed d → IsIn to (targets_in x) → Along (d ∷ passed) to) at0 at1 at2 at3
    (λ d h n. absurd n) from a m
  where
    at0 : Along passed 0 → IsIn to (1 ∷ []) → Along (0 ∷ passed) to
    at0 h (inl e) = record { zero_passed = inr (inl refl); one_passed = inl (inr e) }
    at0 h (inr n) = absurd n

    at1 : Along passed 1 → IsIn to (3 ∷ 2 ∷ []) → Along (1 ∷ passed) to
    at1 h n = record { zero_passed = inr (inr (later passed 0 h)); one_passed = inr (inl refl) }

    at2 : Along passed 2 → IsIn to (1 ∷ []) → Along (2 ∷ passed) to
    at2 h (inl e) = record { zero_passed = inr (inr (later passed 1 h)); one_passed = inl (inr e) }
    at2 h (inr n) = absurd n

    at3 : Along passed 3 → IsIn to [] → Along (3 ∷ passed) to
    at3 h n = absurd n

along : (passed : List ℕ) (b : ℕ) → Path sum_loop.blocks 0 passed b → Along passed b
along [] b Start = record { zero_passed = inl refl; one_passed = inl (inl refl) }
along (c ∷ passed) b (Step ps from to p m) = one_on ps from to (along ps from p) m

-- ---- strict

-- a value of block 1 is passed on each path to a later block
of_one : (v b n : ℕ) (before : List ℕ)
    → ((passed : List ℕ) → IsIn 1 passed → IsPassed (o.forms v) v passed before)
    → b ≡ suc (suc n)
    → Available o v b before
of_one v b n before h e passed p =
    h passed (behind passed n (subst (Along passed) e (along passed b p)))

single : (v w b : ℕ) (before : List ℕ) → IsIn v (w ∷ []) → Available o w b before → Available o v b before
single v w b before (inl e) h = subst (λ u. Available o u b before) (sym e) h
single v w b before (inr m) h = absurd m

double : (v w u b : ℕ) (before : List ℕ)
    → IsIn v (w ∷ u ∷ [])
    → Available o w b before
    → Available o u b before
    → Available o v b before
double v w u b before (inl e) h k = subst (λ z. Available o z b before) (sym e) h
double v w u b before (inr m) h k = single v u b before m k

-- the two inputs of a MULTIEQUAL of block 1
join_at : (k from v w u : ℕ)
    → slice_get (2 ∷ 0 ∷ []) k ≡ Some from
    → slice_get (w ∷ u ∷ []) k ≡ Some v
    → Available o w 2 (f.lists 2)
    → Available o u 0 (f.lists 0)
    → Available o v from (f.lists from)
join_at zero from v w u p e h g =
    subst (λ b. Available o v b (f.lists b)) (some_same p) (subst (λ z. Available o z 2 (f.lists 2)) (some_same e) h)
join_at (suc zero) from v w u p e h g =
    subst (λ b. Available o v b (f.lists b)) (some_same p) (subst (λ z. Available o z 0 (f.lists 0)) (some_same e) g)
join_at (suc (suc k)) from v w u p e h g = none_some p

abbrev ReadsIn : ℕ → OpRow → Type 0
ReadsIn x r =
    (IsJoin (role_of r.code) → ⊥)
    → (v : ℕ)
    → IsIn v r.inputs
    → Available o v r.block (before_op x (f.lists r.block))

abbrev JoinsIn : ℕ → OpRow → Type 0
JoinsIn x r =
    IsJoin (role_of r.code)
    → (k b v : ℕ)
    → slice_get (predecessors_at sum_loop.blocks r.block) k ≡ Some b
    → slice_get r.inputs k ≡ Some v
    → Available o v b (f.lists b)

reads : (x : ℕ) (r : OpRow) → f.rows x ≡ Some r → ReadsIn x r
reads = by_row ReadsIn (
  λ n v m. absurd m,
  (
    λ n v m. absurd m,
    (
      λ n v m. single v 1 0 (0 ∷ 1 ∷ []) m (λ ps q. inr (inr (inl refl))),
      (
        λ n v m. absurd (n tt),
        (
          λ n v m. absurd (n tt),
          (
            λ n v m. absurd m,
            (
              λ n v m.
                  double v 4 5 1 (4 ∷ 3 ∷ 5 ∷ []) m (λ ps q. inr (inl refl)) (λ ps q. inr (inr (inr (inl refl)))),
              (
                λ n v m. single v 6 1 (4 ∷ 3 ∷ 5 ∷ 6 ∷ []) m (λ ps q. inr (inr (inr (inr (inl refl))))),
                (
                  λ n v m. double v 3 4 2 [] m (of_one 3 2 0 [] (λ ps k. inl k) refl)
                      (of_one 4 2 0 [] (λ ps k. inl k) refl),
                  (
                    λ n v m. absurd m,
                    (
                      λ n v m. double v 4 9 2 (8 ∷ 9 ∷ []) m (of_one 4 2 0 (8 ∷ 9 ∷ []) (λ ps k. inl k) refl)
                          (λ ps q. inr (inr (inl refl))),
                      (λ n v m. single v 3 3 [] m (of_one 3 3 1 [] (λ ps k. inl k) refl), tt),
                    ),
                  ),
                ),
              ),
            ),
          ),
        ),
      ),
    ),
  ),
)

joined : (x : ℕ) (r : OpRow) → f.rows x ≡ Some r → JoinsIn x r
joined = by_row JoinsIn (
  λ j k b v p e. absurd j,
  (
    λ j k b v p e. absurd j,
    (
      λ j k b v p e. absurd j,
      (
        λ j k b v p e. join_at k b v 8 2 p e (λ ps q. inr (inl refl)) (λ ps q. inr (inr (inr (inl refl)))),
        (
          λ j k b v p e. join_at k b v 10 0 p e (λ ps q. inr (inr (inr (inl refl)))) (λ ps q. inr (inl refl)),
          (
            λ j k b v p e. absurd j,
            (
              λ j k b v p e. absurd j,
              (
                λ j k b v p e. absurd j,
                (
                  λ j k b v p e. absurd j,
                  (λ j k b v p e. absurd j, (λ j k b v p e. absurd j, (λ j k b v p e. absurd j, tt))),
                ),
              ),
            ),
          ),
        ),
      ),
    ),
  ),
)

passes : (v b : ℕ) (before : List ℕ) → UsedAt f v b before → Available o v b before
passes v b before (Read x r e n m eb eo) =
    subst (λ c. Available o v c before) (sym eb) (subst (Available o v r.block) (sym eo) (reads x r e n v m))
passes v b before (Joined x k r e j ep ev eo) = subst (Available o v b) (sym eo) (joined x r e j k b v ep ev)

-- ---- formed

abbrev is_extra : Role → Bool
is_extra (Extra offset) = true
is_extra role = false

abbrev is_call : Role → Bool
is_call (Calls callee) = true
is_call role = false

abbrev is_start : Role → Bool
is_start (Starts s) = true
is_start role = false

abbrev is_return : Role → Bool
is_return Returns = true
is_return role = false

abbrev is_switch : Option SsaExit → Bool
is_switch (Some (X.Switch arms)) = true
is_switch e = false

abbrev is_stop : Option SsaExit → Bool
is_stop (Some X.Stop) = true
is_stop e = false

never : {A : Type 0} {b : Bool} → b ≡ false → b ≡ true → A
never e h = absurd (true≢false (sym h ∙ e))

fits_all : (x : ℕ) (g : OpForm) → o.forms x ≡ Some g → fits g.role g.width g.inputs ≡ true
unfolding limit
fits_all =
    by_form (λ (x : ℕ) (g : OpForm). fits g.role g.width g.inputs ≡ true)
    (refl, (refl, (refl, (refl, (refl, (refl, (refl, (refl, (refl, (refl, (refl, (refl, tt))))))))))))

joins_full : (x : ℕ) (g : OpForm)
    → o.forms x ≡ Some g
    → IsJoin g.role
    → length g.inputs ≡ length (predecessors_at sum_loop.blocks g.block)
joins_full = by_form
    (λ (x : ℕ) (g : OpForm).
    IsJoin g.role → length g.inputs ≡ length (predecessors_at sum_loop.blocks g.block)) (
      λ j. absurd j,
      (
        λ j. absurd j,
        (
          λ j. absurd j,
          (
            λ j. refl,
            (
              λ j. refl,
              (
                λ j. absurd j,
                (
                  λ j. absurd j,
                  (λ j. absurd j, (λ j. absurd j, (λ j. absurd j, (λ j. absurd j, (λ j. absurd j, tt))))),
                ),
              ),
            ),
          ),
        ),
      ),
    )

closes : (x : ℕ) (g : OpForm)
    → o.forms x ≡ Some g
    → is_exit_role g.role ≡ true
    → (e : SsaExit) × (Closes o x g e × (exit_role e ≡ Some g.role))
closes = by_form
    (λ (x : ℕ) (g : OpForm).
    is_exit_role g.role ≡ true → (e : SsaExit) × (Closes o x g e × (exit_role e ≡ Some g.role))) (
      λ h. absurd (true≢false (sym h)),
      (
        λ h. absurd (true≢false (sym h)),
        (
          λ h. absurd (true≢false (sym h)),
          (
            λ h. absurd (true≢false (sym h)),
            (
              λ h. absurd (true≢false (sym h)),
              (
                λ h. absurd (true≢false (sym h)),
                (
                  λ h. absurd (true≢false (sym h)),
                  (
                    λ h. (X.Test (record { 0 = 3 }) (record { 0 = 2 }), ((refl, refl), refl)),
                    (
                      λ h. absurd (true≢false (sym h)),
                      (
                        λ h. absurd (true≢false (sym h)),
                        (λ h. absurd (true≢false (sym h)), (λ h. (X.Return, ((refl, refl), refl)), tt)),
                      ),
                    ),
                  ),
                ),
              ),
            ),
          ),
        ),
      ),
    )

no_extra : (x : ℕ) (g : OpForm) → o.forms x ≡ Some g → is_extra g.role ≡ false
no_extra =
    by_form (λ (x : ℕ) (g : OpForm). is_extra g.role ≡ false)
    (refl, (refl, (refl, (refl, (refl, (refl, (refl, (refl, (refl, (refl, (refl, (refl, tt))))))))))))

no_call : (x : ℕ) (g : OpForm) → o.forms x ≡ Some g → is_call g.role ≡ false
no_call =
    by_form (λ (x : ℕ) (g : OpForm). is_call g.role ≡ false)
    (refl, (refl, (refl, (refl, (refl, (refl, (refl, (refl, (refl, (refl, (refl, (refl, tt))))))))))))

no_switch : (x : ℕ) (g : OpForm) → o.forms x ≡ Some g → is_switch (exit_at sum_loop.blocks g.block) ≡ false
no_switch =
    by_form (λ (x : ℕ) (g : OpForm). is_switch (exit_at sum_loop.blocks g.block) ≡ false)
    (refl, (refl, (refl, (refl, (refl, (refl, (refl, (refl, (refl, (refl, (refl, (refl, tt))))))))))))

one_start : (x : ℕ) (g : OpForm) → o.forms x ≡ Some g → is_start g.role ≡ true → x ≡ 0
one_start = by_form (λ (x : ℕ) (g : OpForm). is_start g.role ≡ true → x ≡ 0) (
  λ h. refl,
  (
    λ h. absurd (true≢false (sym h)),
    (
      λ h. absurd (true≢false (sym h)),
      (
        λ h. absurd (true≢false (sym h)),
        (
          λ h. absurd (true≢false (sym h)),
          (
            λ h. absurd (true≢false (sym h)),
            (
              λ h. absurd (true≢false (sym h)),
              (
                λ h. absurd (true≢false (sym h)),
                (
                  λ h. absurd (true≢false (sym h)),
                  (
                    λ h. absurd (true≢false (sym h)),
                    (λ h. absurd (true≢false (sym h)), (λ h. absurd (true≢false (sym h)), tt)),
                  ),
                ),
              ),
            ),
          ),
        ),
      ),
    ),
  ),
)

one_return : (x : ℕ) (g : OpForm) → o.forms x ≡ Some g → is_return g.role ≡ true → x ≡ 11
one_return = by_form (λ (x : ℕ) (g : OpForm). is_return g.role ≡ true → x ≡ 11) (
  λ h. absurd (true≢false (sym h)),
  (
    λ h. absurd (true≢false (sym h)),
    (
      λ h. absurd (true≢false (sym h)),
      (
        λ h. absurd (true≢false (sym h)),
        (
          λ h. absurd (true≢false (sym h)),
          (
            λ h. absurd (true≢false (sym h)),
            (
              λ h. absurd (true≢false (sym h)),
              (
                λ h. absurd (true≢false (sym h)),
                (
                  λ h. absurd (true≢false (sym h)),
                  (λ h. absurd (true≢false (sym h)), (λ h. absurd (true≢false (sym h)), (λ h. refl, tt))),
                ),
              ),
            ),
          ),
        ),
      ),
    ),
  ),
)

no_stop : (b : ℕ) → is_stop (exit_at sum_loop.blocks b) ≡ false
no_stop =
    by_block (λ (b : ℕ) (x : Option SsaBlock). is_stop (exit_in x) ≡ false) refl refl refl refl (λ b. refl)

reached : (b : ℕ) → b < 4 → (passed : List ℕ) × Path sum_loop.blocks 0 passed b
reached zero h = ([], Start)
reached (suc zero) h = (0 ∷ [], Step [] 0 1 Start (inl refl))
reached (suc (suc zero)) h = (1 ∷ 0 ∷ [], Step (0 ∷ []) 1 2 (Step [] 0 1 Start (inl refl)) (inr (inl refl)))
reached (suc (suc (suc zero))) h = (1 ∷ 0 ∷ [], Step (0 ∷ []) 1 3 (Step [] 0 1 Start (inl refl)) (inl refl))
reached (suc (suc (suc (suc b)))) h = absurd (omega (arith, h))

in_ids : (b : ℕ) → b < 4 → IsIn b (0 ∷ 1 ∷ 2 ∷ 3 ∷ [])
in_ids zero h = inl refl
in_ids (suc zero) h = inr (inl refl)
in_ids (suc (suc zero)) h = inr (inr (inl refl))
in_ids (suc (suc (suc zero))) h = inr (inr (inr (inl refl)))
in_ids (suc (suc (suc (suc b)))) h = absurd (omega (arith, h))

of_ids : (b : ℕ) → IsIn b (0 ∷ 1 ∷ 2 ∷ 3 ∷ []) → b < 4
of_ids b (inl e) = omega (arith, e)
of_ids b (inr (inl e)) = omega (arith, e)
of_ids b (inr (inr (inl e))) = omega (arith, e)
of_ids b (inr (inr (inr (inl e)))) = omega (arith, e)
of_ids b (inr (inr (inr (inr m)))) = absurd m

leads_from : (b c : ℕ) → IsIn b (predecessors_at sum_loop.blocks c) → Leads sum_loop.blocks b c
leads_from b c m =
    by_block
    (λ (d : ℕ) (x : Option SsaBlock). IsIn b (predecessors_in x) → Leads sum_loop.blocks b d) (λ h. absurd h) at1
    at2 at2'
    (λ d h. absurd h) c m
  where
    at1 : IsIn b (2 ∷ 0 ∷ []) → Leads sum_loop.blocks b 1
    at1 (inl e) = subst (λ d. Leads sum_loop.blocks d 1) (sym e) (inl refl)
    at1 (inr (inl e)) = subst (λ d. Leads sum_loop.blocks d 1) (sym e) (inl refl)
    at1 (inr (inr h)) = absurd h

    at2 : IsIn b (1 ∷ []) → Leads sum_loop.blocks b 2
    at2 (inl e) = subst (λ d. Leads sum_loop.blocks d 2) (sym e) (inr (inl refl))
    at2 (inr h) = absurd h

    at2' : IsIn b (1 ∷ []) → Leads sum_loop.blocks b 3
    at2' (inl e) = subst (λ d. Leads sum_loop.blocks d 3) (sym e) (inl refl)
    at2' (inr h) = absurd h

come_from : (b c : ℕ) → Leads sum_loop.blocks b c → IsIn b (predecessors_at sum_loop.blocks c)
come_from b c m =
    by_block
    (λ (d : ℕ) (x : Option SsaBlock). IsIn c (targets_in x) → IsIn d (predecessors_at sum_loop.blocks c)) at0 at1 at2
    (λ h. absurd h) (λ d h. absurd h) b m
  where
    at0 : IsIn c (1 ∷ []) → IsIn 0 (predecessors_at sum_loop.blocks c)
    at0 (inl e) = subst (λ d. IsIn 0 (predecessors_at sum_loop.blocks d)) (sym e) (inr (inl refl))
    at0 (inr h) = absurd h

    at1 : IsIn c (3 ∷ 2 ∷ []) → IsIn 1 (predecessors_at sum_loop.blocks c)
    at1 (inl e) = subst (λ d. IsIn 1 (predecessors_at sum_loop.blocks d)) (sym e) (inl refl)
    at1 (inr (inl e)) = subst (λ d. IsIn 1 (predecessors_at sum_loop.blocks d)) (sym e) (inl refl)
    at1 (inr (inr h)) = absurd h

    at2 : IsIn c (1 ∷ []) → IsIn 2 (predecessors_at sum_loop.blocks c)
    at2 (inl e) = subst (λ d. IsIn 2 (predecessors_at sum_loop.blocks d)) (sym e) (inl refl)
    at2 (inr h) = absurd h

in_order : (b : ℕ) → InOrder o.forms (o.lists b)
in_order zero = (λ n. (refl, (refl, tt)), (λ n. (refl, tt), (λ n. tt, tt)))
in_order (suc zero) = (
  λ n. absurd (true≢false n),
  (
    λ n. absurd (true≢false n),
    (λ n. (refl, (refl, tt)), (λ n. (refl, tt), (λ n. tt, tt))),
  ),
)
in_order (suc (suc zero)) = (λ n. (refl, (refl, tt)), (λ n. (refl, tt), (λ n. tt, tt)))
in_order (suc (suc (suc zero))) = (λ n. tt, tt)
in_order (suc (suc (suc (suc b)))) = tt

abbrev Left : ℕ → Option SsaBlock → Type 0
Left b x =
    (e : SsaExit) (role : Role)
    → exit_in x ≡ Some e
    → exit_role e ≡ Some role
    → (op : ℕ)
    × ((Rattle.node_lists.specs.Chains.last_or None (o.lists b) ≡ Some op)
    × ((g : OpForm) × ((o.forms op ≡ Some g) × (g.role ≡ role))))

left : (b : ℕ) → Left b (at_number b)
left = by_block Left jump test jump2 returned (λ b e role h k. none_some h)
  where
    by_role : (e d : SsaExit) (role : Role) → Some e ≡ Some d → exit_role d ≡ Some role → exit_role e ≡ Some role
    by_role e d role h k = ap exit_role (some_same h) ∙ k

    jump : Left 0 (at_number 0)
    jump e role h k = none_some (by_role (X.Jump (record { 0 = 1 })) e role h k)

    test : Left 1 (at_number 1)
    test e role h k = (
      7,
      (
        refl,
        (
          record { block = 1; role = Tests; width = 0; inputs = 1 ∷ [] },
          (refl, some_same (by_role (X.Test (record { 0 = 3 }) (record { 0 = 2 })) e role h k)),
        ),
      ),
    )

    jump2 : Left 2 (at_number 2)
    jump2 e role h k = none_some (by_role (X.Jump (record { 0 = 1 })) e role h k)

    returned : Left 3 (at_number 3)
    returned e role h k = (
      11,
      (
        refl,
        (
          record { block = 3; role = Returns; width = 0; inputs = 4 ∷ [] },
          (refl, some_same (by_role X.Return e role h k)),
        ),
      ),
    )

pub sum_is_ssa : IsSsa (form sum_loop)
sum_is_ssa = record {
  strict = record { passes = passes };
  formed = record {
    once = are_apart (0 ∷ 1 ∷ 2 ∷ 3 ∷ []) refl;
    all = λ b. (of_ids b, in_ids b);
    entry = omega arith;
    exits = exits_there;
    reached = reached;
    entered = refl;
    predecessors = λ b c. (leads_from b c, come_from b c);
    predecessors_once =
        by_block
        (λ (c : ℕ) (x : Option SsaBlock). Rattle.node_lists.specs.Chains.Apart (predecessors_in x))
        tt (are_apart (2 ∷ 0 ∷ []) refl) (are_apart (1 ∷ []) refl) (are_apart (1 ∷ []) refl)
        (λ c. tt);
    ops = fits_all;
    joins_first = λ b. joins_first o.forms (o.lists b) (in_order b);
    joins = joins_full;
    left = λ b e role h k. left b e role h k;
    leaves = closes;
    stops = λ b h. never (no_stop b) (ap is_stop h);
    calls = λ x y callee g h e d r s. never (no_call x g e) (ap is_call r);
    extras = λ x offset g e r. never (no_extra x g e) (ap is_extra r);
    starts =
        λ x y g h e d s r q.
        one_start x g e (ap is_start r) ∙ sym (one_start y h d (ap is_start q));
    cases = λ x w g arms e c i. never (no_switch x g e) (ap is_switch c.1);
    returns =
        λ x y g h e d r s.
        ap (λ (z : OpForm). z.inputs)
        (some_same
        (sym e ∙ ap o.forms (one_return x g e (ap is_return r) ∙ sym (one_return y h d (ap is_return s))) ∙ d));
  };
}
