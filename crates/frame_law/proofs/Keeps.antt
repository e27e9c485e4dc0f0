-- The frame law, for any frame whose accesses lie where it says, and for a listing without frame variables.
use Rattle.std.proofs.Common.{◌≡◌, ℕ, ◌+◌, ◌%◌, ◌<◌, ◌≤◌, List, [], ◌∷◌, Option, Some, None, refl, sym, ap, ◌∙◌, subst, ◌⊎◌, inl, inr, ⊎_elim, arith}
use Rattle.std.proofs.Math.Nat.{mod-eq_of_lt, add-mod_right}
use Rattle.std.proofs.lemmas.Bool.Decides.{nat_tests}
use Rattle.std.proofs.lemmas.Bool.{cases_lt}
use Rattle.machine.specs.Trace.{End}
use Rattle.machine.specs.Machine.{seen}
use Rattle.machine.specs.Agree.{FrameLaw, IsOut}
use Rattle.machine.proofs.Agree.{frame_law_by}
use Rattle.pcode_model.specs.declared.listing.Varnode.{Varnode}
use Rattle.pcode_model.specs.declared.listing.Instruction.{Instruction}
use Rattle.pcode_model.specs.declared.listing.Place.{Place}
use Rattle.pcode_model.specs.declared.listing.Listing.{Listing}
use Rattle.pcode_model.specs.declared.opcode.Opcode.{Opcode}
use Rattle.pcode_model.specs.declared.opcode.Opcode.TheVariants as O
use Rattle.pcode_model.specs.Spaces.{size_of, first_ram}
use Rattle.pcode_model.specs.Places.{standing}
use Rattle.pcode_model.specs.Memory.{Frame, Layout, Bytes, Whole, Apart, apart, no_frame, offset_from, or_else, whole}
use Rattle.pcode_model.specs.World.{Entry, shown, unless_over}
use Rattle.pcode_model.specs.Step.{State, Operand, Reads, ReadsStack, divided, effect_of, operands, stack0, layout, first_whole, first_apart, machine, start, step, step_at, seen_p, seen_f}
use Rattle.pcode_laws.proofs.Grows.{pcode_grows}
use Rattle.frame_law.specs.Aligned.{ram_size, AllAligned, AlignedEffect, Guides}
use Rattle.frame_law.proofs.States.{over_memory, Alike, Went, alike, at_goes}
use Rattle.frame_law.proofs.Memories.{Same}

-- ---- any two runs that begin alike

-- what guides the run holds unless it has ended, and the states are alike
record Related (y : Layout) (I : Place → Bytes → Type 0) (s : State Whole) (t : State Apart) : Type 0 where
  holds : s.world.over ≡ None → I s.at s.local
  alike : Alike y s t

module _
    (y : Layout)
    (I : Place → Bytes → Type 0)
    (low : y.stack0 < ram_size y)
    (guides : Guides y I)
  where
    -- a run that has ended stays, and one that hasn't takes its step
    by : (s : State Whole) (v : Apart) (u : State Whole) (t : State Apart)
        → Same y s.world.memory v
        → (s.world.over ≡ None → Went y u t)
        → (o : Option End)
        → s.world.over ≡ o
        → Went y (unless_over o s u) (unless_over o (over_memory s v) t)
    by s v u t same h None e = h e
    by s v u t same h (Some x) e = alike y s v same

    -- a run that goes on after a step went on before it
    going : (s u : State Whole)
        → (unless_over s.world.over s u).world.over ≡ None
        → (o : Option End)
        → s.world.over ≡ o
        → s.world.over ≡ None
    going s u f None e = e
    going s u f (Some x) e =
        let g : s.world.over ≡ None = ap (λ o. (unless_over o s u).world.over) (sym e) ∙ f in g

    goes : (s : State Whole) (t : State Apart)
        → Related y I s t
        → (let u = step (whole y) y.listing y.frame s in
        let v = step (apart y.listing) y.listing y.frame t in
        Related y I u v ⊎ IsOut (shown u.world) (shown v.world))
    goes s t r =
        let v = r.alike.world in
        let u = step (whole y) y.listing y.frame s in
        let P : State Apart → Type 0 = λ x. Went y u (step (apart y.listing) y.listing y.frame x) in
        let here = standing y.listing s.at in
        let went = by s v (step_at (whole y) y.listing y.frame here s)
        (step_at (apart y.listing) y.listing y.frame here (over_memory s v)) r.alike.same
        (λ e. at_goes y low here s v (λ i op is. guides.aligned s i op is (r.holds e)) r.alike.same)
        s.world.over refl in
        ⊎_elim
        (λ (a : Alike y u (step (apart y.listing) y.listing y.frame t)).
        inl (record { holds = λ f. let e = going s _ f s.world.over refl in guides.goes s e (r.holds e) f; alike = a }))
        (λ (o : IsOut (shown u.world) (shown (step (apart y.listing) y.listing y.frame t).world)). inr o)
        (subst P (sym r.alike.is) went)

    -- Runs that begin alike show the same until the first ends Outside.
    pub frame_law : (s : State Whole) (t : State Apart)
        → I s.at s.local
        → Alike y s t
        → FrameLaw (seen (machine (whole y) y.listing y.frame) s) (seen (machine (apart y.listing) y.listing y.frame) t)
    frame_law s t holds is =
        frame_law_by (machine (whole y) y.listing y.frame) (machine (apart y.listing) y.listing y.frame) (Related y I)
        (pcode_grows (whole y) y.listing y.frame) (pcode_grows (apart y.listing) y.listing y.frame)
        (record { same = λ s t r. sym (ap (λ u. shown u.world) r.alike.is); goes = goes })
        s t (record { holds = λ e. holds; alike = is })

-- ---- the runs of a listing

address_of : (size s a : ℕ) → s < size → a < size → (s + offset_from size s a) % size ≡ a
address_of size s a ls la = ⊎_elim
    (λ (lt : a < s).
    let e : s + offset_from size s a ≡ a + size = grind (arith, nat_tests) in
    ap (λ z. z % size) e ∙ add-mod_right a size ∙ mod-eq_of_lt la)
    (λ (le : s ≤ a).
    let e : s + offset_from size s a ≡ a = grind (arith, nat_tests) in
    ap (λ z. z % size) e ∙ mod-eq_of_lt la)
    (cases_lt a s)

module _ (l : Listing) (f : Frame) (e : Entry) (low : stack0 l e < size_of l (first_ram l)) where
  starts_alike : Alike (layout l f e) (start l e (first_whole e)) (start l e (first_apart l e))
  starts_alike = record {
    world = first_apart l e;
    is = refl;
    same = record {
      bytes = refl;
      own = λ a lt fr clear. ap (λ z. or_else (e.hidden z) (e.bytes (first_ram l) z))
          (address_of (size_of l (first_ram l)) (stack0 l e) a low lt);
    };
  }

  -- For any frame, where something that holds at each step says where the accesses of its variables lie.
  pub listing_law : (I : Place → Bytes → Type 0)
      → Guides (layout l f e) I
      → (let s = start l e (first_whole e) in I s.at s.local)
      → FrameLaw (seen_p l f e) (seen_f l f e)
  listing_law I guides holds =
      frame_law (layout l f e) I low guides (start l e (first_whole e)) (start l e (first_apart l e)) holds starts_alike

-- ---- no frame variables

none_divided : (y : Layout) (out : Option Varnode) (o : Option ℕ) → AlignedEffect y (divided out o)
none_divided y out None = tt
none_divided y out (Some n) = tt

module _ (y : Layout) (i : Instruction) (n : ℕ) (b : Bytes) (out : Option Varnode) (vs : List Varnode) where
  none_effect : (code : Opcode) (ws : List ℕ) → AlignedEffect y (effect_of y.listing None i n b code out vs ws)
  none_effect (O.Unary op) ws = tt
  none_effect (O.Binary op) ws = tt
  none_effect (O.Divide op) ws = none_divided y out _
  none_effect O.Load ws = tt
  none_effect O.Store ws = tt
  none_effect O.Branch ws = tt
  none_effect O.CBranch ws = tt
  none_effect O.BranchInd ws = tt
  none_effect O.Call ws = tt
  none_effect O.CallInd [] = tt
  none_effect O.CallInd (w ∷ ws) = tt
  none_effect O.CallOther ws = tt
  none_effect O.Return ws = tt
  none_effect (O.Float name) ws = tt
  none_effect (O.FloatConversion op) ws = tt
  none_effect (O.Analysis op) ws = tt
  none_effect (O.LeftOut op) ws = tt

none_aligned : (l : Listing) (e : Entry) (p : Place) (b : Bytes) (xs : List Operand)
    → AllAligned (layout l no_frame e) p b xs
none_aligned l e p b [] = tt
none_aligned l e p b (Reads z ∷ xs) = (tt, none_aligned l e p b xs)
none_aligned l e p b (ReadsStack n offset size ∷ xs) = (tt, none_aligned l e p b xs)

abbrev Anything : Place → Bytes → Type 0
Anything p b = Unit {0}

-- The run of a listing without frame variables, whose memory hides bytes, and the run that looks at none.
pub law_without_frame : (l : Listing) (e : Entry)
    → stack0 l e < size_of l (first_ram l)
    → FrameLaw (seen_p l no_frame e) (seen_f l no_frame e)
law_without_frame l e low = listing_law l no_frame e low Anything
    (record {
      aligned = λ s i op is h. record {
        reads = none_aligned l e s.at s.local (operands l op.code op.inputs);
        effect = λ ws r. none_effect (layout l no_frame e) i s.at.index s.local op.out op.inputs op.code ws;
      };
      goes = λ s e h f. tt;
    })
    tt
