-- A run that comes into a slice by its first place and falls through: what was written says what the bytes are at its
-- end, and the guard's word is 0.
use Rattle.std.proofs.Common.{◌≡◌, ℕ, Bool, true, false, List, [], ◌∷◌, ◌++◌, Option, Some, None, Result, Ok, Err, refl, sym, ap, ◌∙◌, subst, inl, inr, arith}
use Rattle.std.specs.Prelude.{◌==◌, if◌then◌else◌}
use Rattle.std.proofs.lemmas.Bool.Decides.{nat_tests}
use Rattle.std.proofs.lemmas.List.{append-nil, append_assoc}
use Rattle.machine.specs.Trace.{End}
use Rattle.pcode_model.specs.declared.listing.Varnode.{Varnode}
use Rattle.pcode_model.specs.declared.listing.Op.{Op}
use Rattle.pcode_model.specs.declared.listing.Instruction.{Instruction}
use Rattle.pcode_model.specs.declared.listing.Place.{Place}
use Rattle.pcode_model.specs.declared.listing.Listing.{Listing}
use Rattle.pcode_model.specs.declared.opcode.Opcode.{Opcode}
use Rattle.pcode_model.specs.declared.opcode.Opcode.TheVariants as O
use Rattle.pcode_model.specs.Spaces.{kind_of}
use Rattle.pcode_model.specs.Memory.{Acts, Frame}
use Rattle.pcode_model.specs.Places.{Standing, Nothing, Passes, Does, branch_place, next_place, standing}
use Rattle.pcode_model.specs.Flow.{IsIn, branch_in}
use Rattle.pcode_model.specs.World.{unless_over}
use Rattle.pcode_model.specs.Step.{State, gone, operands, read_all, read_varnode, step, step_at, varnode_at, with_first}
use Rattle.pcode_model.proofs.Members.{behind, in_front}
use Rattle.table_form.specs.Slices.{Follow, Trace, after_standing, first_of, guard_from, inner_of, input_at, inputs_in, is_test, read, tests_in, traced, traced_from, untouched}
use Rattle.table_form.specs.Tables.{LeavesAhead}
use Rattle.table_runs.specs.Words.{Words}
use Rattle.table_runs.specs.Shapes.{HasShape, One, Two, Divides, Loads, Tests}
use Rattle.table_runs.proofs.Leading.{FallsThrough}
use Rattle.table_runs.proofs.Stepping.{After, Enters, Holds, LoadSays, op_keeps, operand_says}

traced_more : (l : Listing) (t : Trace) (ps : List Place) (p : Place)
    → traced_from l t (ps ++ p ∷ []) ≡ after_standing l (standing l p) (traced_from l t ps)
traced_more l t [] p = refl
traced_more l t (q ∷ ps) p = traced_more l (after_standing l (standing l q) t) ps p

-- the place behind another one of a slice isn't its first
next_inside : (before rest : List Place) (p end : Place)
    → IsIn (first_of rest end) (inner_of (before ++ p ∷ rest) end)
next_inside [] [] p end = inl refl
next_inside [] (q ∷ rest) p end = inl refl
next_inside (b ∷ before) [] p end = behind (before ++ p ∷ []) (end ∷ []) end (inl refl)
next_inside (b ∷ before) (q ∷ rest) p end =
    in_front (before ++ p ∷ q ∷ rest) (end ∷ []) q (behind before (p ∷ q ∷ rest) q (inr (inl refl)))

module _ {M : Type 0} (m : Acts M) (l : Listing) (f : Frame) where
  -- the steps at these places, one after the other, lead from one state to another
  abbrev pub Walked : List Place → State M → State M → Type 0
  Walked [] s r = s ≡ r
  Walked (p ∷ rest) s r = (s.at ≡ p) × ((s.world.over ≡ None) × Walked rest (step m l f s) r)

  walked_over : (ps : List Place) (s r : State M) → Walked ps s r → r.world.over ≡ None → s.world.over ≡ None
  walked_over [] s r w over = ap (λ (x : State M). x.world.over) w ∙ over
  walked_over (p ∷ ps) s r w over = w.1.0

  walked_at : (ps : List Place) (end : Place) (s r : State M) → Walked ps s r → r.at ≡ end → s.at ≡ first_of ps end
  walked_at [] end s r w at = ap (λ (x : State M). x.at) w ∙ at
  walked_at (p ∷ ps) end s r w at = w.0

  pub stepped : (s : State M) (p : Place)
      → s.at ≡ p
      → s.world.over ≡ None
      → step m l f s ≡ step_at m l f (standing l p) s
  stepped s p at going =
      ap (λ o. unless_over o s (step_at m l f (standing l s.at) s)) going
      ∙ ap (λ q. step_at m l f (standing l q) s) at

  module _
      (e : Words)
      (first : State M)
      (enters : Enters m l e first)
      (front : List Place)
      (end : Place)
      (shapes : (before after : List Place) (p : Place) (i : Instruction) (op : Op)
      → front ≡ before ++ p ∷ after
      → standing l p ≡ Does i op
      → HasShape l op.code op.out op.inputs)
    where
      -- what is known of a state of the walk by what was written
      abbrev pub HoldsAt : Trace → State M → Type 0
      HoldsAt t s = Holds m l f e first enters t s

      -- each LOAD of the slice reads what its tree's LOAD gives
      abbrev pub LoadsSay : Type 0
      LoadsSay =
          (before after : List Place) (p : Place) (i : Instruction) (op : Op) (s : State M) (h : HoldsAt (traced l before) s)
          → front ≡ before ++ p ∷ after
          → s.at ≡ p
          → standing l p ≡ Does i op
          → LoadSays m l f e first enters (traced l before) s h op.code op.out op.inputs

      module _ (loads : LoadsSay) where
        step_holds : (before after : List Place) (p : Place) (s : State M)
            → front ≡ before ++ p ∷ after
            → HoldsAt (traced l before) s
            → s.at ≡ p
            → s.world.over ≡ None
            → (step m l f s).world.over ≡ None
            → HoldsAt (traced l (before ++ p ∷ [])) (step m l f s)
        step_holds before after p s split h at going over =
            let same = stepped s p at going in
            subst (λ t. HoldsAt t (step m l f s)) (sym (traced_more l untouched before p))
            (subst (HoldsAt (after_standing l (standing l p) (traced l before))) (sym same)
            (by (standing l p) refl (ap (λ (x : State M). x.world.over) (sym same) ∙ over)))
          where
            by : (x : Standing)
                → standing l p ≡ x
                → (step_at m l f x s).world.over ≡ None
                → HoldsAt (after_standing l x (traced l before)) (step_at m l f x s)
            by Nothing g none = absurd (cc)
            by (Passes i) g none =
                record { world = h.world; bytes = h.bytes; traces = h.traces; untouched = h.untouched }
            by (Does i op) g none =
                op_keeps m l f e first enters (traced l before) s h i op.code op.out op.inputs
                (shapes before after p i op split g) (loads before after p i op s h split at g) none

        pub walked_from : (before rest : List Place) (s r : State M)
            → front ≡ before ++ rest
            → HoldsAt (traced l before) s
            → Walked rest s r
            → r.world.over ≡ None
            → HoldsAt (traced l front) r
        walked_from before [] s r split h w over =
            subst (HoldsAt (traced l front)) w (subst (λ ps. HoldsAt (traced l ps) s) (sym (split ∙ append-nil before)) h)
        walked_from before (p ∷ rest) s r split h w over =
            walked_from (before ++ p ∷ []) rest (step m l f s) r (split ∙ sym (append_assoc before (p ∷ []) rest))
            (step_holds before rest p s split h w.0 w.1.0 (walked_over rest (step m l f s) r w.1.1 over)) w.1.1 over

        -- ---- the guard

        -- the run goes on, at this place
        abbrev GoesTo : Place → State M → Type 0
        GoesTo p s = (s.world.over ≡ None) × (s.at ≡ p)

        abbrev done : (before : List Place) (s : State M)
            → HoldsAt (traced l before) s
            → Instruction
            → Opcode
            → Option Varnode
            → List Varnode
            → Result (List ℕ) End
            → State M
        done before s h i code out vs ws = After m l f e first enters (traced l before) s h i code out vs ws

        module _ (follow : Follow l front end) (leaves : LeavesAhead l end front) where
          -- the CBRANCH of the slice isn't taken
          test_falls : (before after : List Place) (p : Place) (i : Instruction) (op : Op) (s : State M)
              → front ≡ before ++ p ∷ after
              → (h : HoldsAt (traced l before) s)
              → s.at ≡ p
              → standing l p ≡ Does i op
              → is_test op.code ≡ true
              → GoesTo (first_of after end) (step_at m l f (Does i op) s)
              → FallsThrough e (Some (read l (traced l before) (input_at l p 1)))
          test_falls before after p i op s split h at g is next =
              subst (λ x. FallsThrough e (Some (read l (traced l before) (varnode_at (inputs_in x) 1)))) (sym g)
              (by op.code op.out op.inputs (shapes before after p i op split g) is next
              (λ q w. leaves p q inside (ap tests_in g ∙ is) (ap (λ x. branch_in x p.index (varnode_at (inputs_in x) 0)) g ∙ w)))
            where
              inside : IsIn p front
              inside = subst (IsIn p) (sym split) (behind before (p ∷ after) p (inl refl))

              by : (code : Opcode) (out : Option Varnode) (vs : List Varnode)
                  → HasShape l code out vs
                  → is_test code ≡ true
                  → GoesTo (first_of after end) (done before s h i code out vs (read_all m l f s (operands l code vs)))
                  → ((q : Place) → branch_place i p.index (varnode_at vs 0) ≡ Some q → IsIn q (inner_of front end) → ⊥)
                  → FallsThrough e (Some (read l (traced l before) (varnode_at vs 1)))
              by code out vs (One op z v sized made r) is next away = absurd (cc)
              by code out vs (Two op z v w sized drops made r q) is next away = absurd (cc)
              by code out vs (Divides op z v w one other made r q) is next away = absurd (cc)
              by code out vs (Loads z space v made r) is next away = absurd (cc)
              by code out vs (Tests to v r) is next away =
                  fall (read_varnode m l (kind_of l v.space) v s) refl next
                where
                  taken : (o : Option Place)
                      → branch_place i s.at.index to ≡ o
                      → GoesTo (first_of after end) (gone o s)
                      → ⊥
                  taken None w goes = let none = goes.0 in absurd (cc)
                  taken (Some q) w goes =
                      away q (ap (λ (x : Place). branch_place i x.index to) (sym at) ∙ w)
                      (subst (λ x. IsIn x (inner_of front end)) (sym goes.1)
                      (subst (λ ps. IsIn (first_of after end) (inner_of ps end)) (sym split) (next_inside before after p end)))

                  fall : (x : Result ℕ End)
                      → read_varnode m l (kind_of l v.space) v s ≡ x
                      → GoesTo (first_of after end) (done before s h i O.CBranch None (to ∷ v ∷ []) (with_first x (Ok [])))
                      → FallsThrough e (Some (read l (traced l before) v))
                  fall (Err x) w goes = let none = goes.0 in absurd (cc)
                  fall (Ok n) w goes = which (n == 0) refl goes
                    where
                      which : (b : Bool)
                          → (n == 0) ≡ b
                          → GoesTo (first_of after end)
                          (gone (if b then Some (next_place i s.at.index) else branch_place i s.at.index to) s)
                          → FallsThrough e (Some (read l (traced l before) v))
                      which true k goes =
                          let says = operand_says m l f e first enters (traced l before) s h v n r w in
                          let none_left : n ≡ 0 = grind (arith, nat_tests) in
                          (says.sound, says.is ∙ none_left)
                      which false k goes = absurd (taken (branch_place i s.at.index to) refl goes)

          -- The guard of a slice that is walked through is 0, if it has one.
          pub guard_from_falls : (before rest : List Place) (s r : State M)
              → front ≡ before ++ rest
              → HoldsAt (traced l before) s
              → Walked rest s r
              → r.world.over ≡ None
              → r.at ≡ end
              → FallsThrough e (guard_from l (traced l before) rest)
          guard_from_falls before [] s r split h w over at = tt
          guard_from_falls before (p ∷ rest) s r split h w over at =
              by (standing l p) refl
              (guard_from_falls (before ++ p ∷ []) rest (step m l f s) r (split ∙ sym (append_assoc before (p ∷ []) rest))
              (step_holds before rest p s split h w.0 w.1.0 (walked_over rest (step m l f s) r w.1.1 over)) w.1.1 over at)
            where
              same : step m l f s ≡ step_at m l f (standing l p) s
              same = stepped s p w.0 w.1.0

              by : (x : Standing)
                  → standing l p ≡ x
                  → FallsThrough e (guard_from l (traced l (before ++ p ∷ [])) rest)
                  → FallsThrough e
                  (if tests_in x
                  then Some (read l (traced l before) (input_at l p 1))
                  else guard_from l (after_standing l (standing l p) (traced l before)) rest)
              by x g later = which (tests_in x) refl
                where
                  which : (b : Bool)
                      → tests_in x ≡ b
                      → FallsThrough e
                      (if b
                      then Some (read l (traced l before) (input_at l p 1))
                      else guard_from l (after_standing l (standing l p) (traced l before)) rest)
                  which false is = subst (λ t. FallsThrough e (guard_from l t rest)) (traced_more l untouched before p) later
                  which true is = at_test x g is
                    where
                      at_test : (y : Standing)
                          → standing l p ≡ y
                          → tests_in y ≡ true
                          → FallsThrough e (Some (read l (traced l before) (input_at l p 1)))
                      at_test Nothing k t = absurd (cc)
                      at_test (Passes i) k t = absurd (cc)
                      at_test (Does i op) k t =
                          let now : step m l f s ≡ step_at m l f (Does i op) s = same ∙ ap (λ z. step_at m l f z s) k in
                          test_falls before rest p i op s split h w.0 k t (
                            ap (λ (z : State M). z.world.over) (sym now) ∙ walked_over rest (step m l f s) r w.1.1 over,
                            ap (λ (z : State M). z.at) (sym now) ∙ walked_at rest end (step m l f s) r w.1.1 at,
                          )
