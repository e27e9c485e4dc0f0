-- The steps of a run, one after another.
use Rattle.std.proofs.Common.{◌≡◌, ℕ, zero, suc, ◌+◌, ◌-◌, ◌<◌, ◌≤◌, List, [], ◌∷◌, Option, Some, None, refl, sym, ap, ◌∙◌, arith, slice_get, subst}
use Rattle.std.specs.Prelude.{IfSome, IsSome}
use Rattle.std.specs.List.{AllByRecursion}
use Rattle.machine.specs.Trace.{End, Trace}
use Rattle.machine.specs.Machine.{after, seen}
use Rattle.pcode_model.specs.declared.listing.Listing.{Listing}
use Rattle.pcode_model.specs.World.{shown, unless_over}
use Rattle.cmeaning.specs.declared.tree.CFunction.{CFunction}
use Rattle.cmeaning.specs.Do.{widths_in}
use Rattle.cmeaning.specs.Flat.{Flat, flat_of, returns_by}
use Rattle.cmeaning.specs.Step.{CState, c_machine, c_step, carry_out}
use Rattle.run_world.specs.declared.entry.Answer.{Answer}
use Rattle.run_world.specs.declared.trace.End as worlds
use Rattle.run_world.specs.Meaning.{end_of, over_of}
use Rattle.c_run.specs.declared.local.Local.{Local}
use Rattle.c_run.specs.May.{MayStep, StepFits}
use Rattle.c_run.specs.States.{Goes, state_of}

pub all_at : {A : Type 0} (P : A → Type 0) (xs : List A) (k : ℕ) → AllByRecursion P xs → IfSome (slice_get xs k) P
all_at P [] k all = tt
all_at P (x ∷ xs) zero all = all.0
all_at P (x ∷ xs) (suc k) all = all_at P xs k all.1

pub step_now : (l : Listing) (f : CFunction) (s : CState)
    → s.local.world.over ≡ None
    → c_step l f s ≡ carry_out l (widths_in f) (returns_by f.callees) (slice_get (flat_of f) s.position) s
step_now l f s over =
    ap (λ o. unless_over o s (carry_out l (widths_in f) (returns_by f.callees) (slice_get (flat_of f) s.position) s))
    over

step_ended : (l : Listing) (f : CFunction) (s : CState) (e : End) → s.local.world.over ≡ Some e → c_step l f s ≡ s
step_ended l f s e over =
    ap (λ o. unless_over o s (carry_out l (widths_in f) (returns_by f.callees) (slice_get (flat_of f) s.position) s))
    over

pub stays : (l : Listing) (f : CFunction) (s : CState) (e : End) (k : ℕ)
    → s.local.world.over ≡ Some e
    → after (c_step l f) k s ≡ s
stays l f s e zero over = refl
stays l f s e (suc k) over = ap (after (c_step l f) k) (step_ended l f s e over) ∙ stays l f s e k over

pub run_turn : (l : Listing) (f g : CFunction) (answers : List Answer) (old new : Local) (code : List Flat)
    (p q n i : ℕ) (all : CState)
    → i < n
    → g ≡ f
    → code ≡ flat_of f
    → (state_of answers old p).local.world.over ≡ None
    → Goes answers old new q
    (carry_out l (widths_in g) (returns_by g.callees) (slice_get code p) (state_of answers old p))
    → after (c_step l f) (n - i) (state_of answers old p) ≡ all
    → after (c_step l f) (n - (i + 1)) (state_of answers new q) ≡ all
run_turn l f g answers old new code p q n i all more same code_is over goes before =
    let s = state_of answers old p in
    let left : n - i ≡ suc (n - (i + 1)) = omega arith in
    let stepped : state_of answers new q ≡ c_step l f s =
    goes.means ∙ ap (λ z. carry_out l (widths_in z) (returns_by z.callees) (slice_get code p) s) same
    ∙ ap (λ z. carry_out l (widths_in f) (returns_by f.callees) (slice_get z p) s) code_is
    ∙ sym (step_now l f s over) in
    ap (after (c_step l f) (n - (i + 1))) stepped ∙ ap (λ k. after (c_step l f) k s) (sym left) ∙ before

pub run_ends : (l : Listing) (f : CFunction) (s first : CState) (n i : ℕ)
    → n ≤ i
    → after (c_step l f) (n - i) s ≡ after (c_step l f) n first
    → shown s.local.world ≡ shown (after (c_step l f) n first).local.world
run_ends l f s first n i done before =
    let none : n - i ≡ 0 = omega arith in
    ap (λ (z : CState). shown z.local.world) (sym (ap (λ k. after (c_step l f) k s) none) ∙ before)

pub run_over : (l : Listing) (f : CFunction) (s first : CState) (n i : ℕ) (o : Option worlds.End)
    → s.local.world.over ≡ over_of o
    → IsSome o
    → after (c_step l f) (n - i) s ≡ after (c_step l f) n first
    → shown s.local.world ≡ shown (after (c_step l f) n first).local.world
run_over l f s first n i None over some before = cc
run_over l f s first n i (Some e) over some before =
    ap (λ (z : CState). shown z.local.world) (sym (stays l f s (end_of e) (n - i) over) ∙ before)

-- ---- the whole run

pub may_all : (f g : CFunction)
    → g ≡ f
    → AllByRecursion (MayStep (widths_in f)) (flat_of f)
    → AllByRecursion (MayStep (widths_in g)) (flat_of g)
may_all f g is h =
    let P : CFunction → Type 0 = λ z. AllByRecursion (MayStep (widths_in z)) (flat_of z) in
    subst P (sym is) h

pub fit_all : (l : Listing) (f g : CFunction)
    → g ≡ f
    → AllByRecursion (StepFits l (widths_in f)) (flat_of f)
    → AllByRecursion (StepFits l (widths_in g)) (flat_of g)
fit_all l f g is h =
    let P : CFunction → Type 0 = λ z. AllByRecursion (StepFits l (widths_in z)) (flat_of z) in
    subst P (sym is) h

pub run_is : (l : Listing) (f g : CFunction) (s t : CState) (n : ℕ) (shown : Trace)
    → g ≡ f
    → s ≡ t
    → shown ≡ seen (c_machine l g) s n
    → shown ≡ seen (c_machine l f) t n
run_is l f g s t n shown same begin is =
    is ∙ ap (λ z. seen (c_machine l z) s n) same ∙ ap (λ z. seen (c_machine l f) z n) begin
