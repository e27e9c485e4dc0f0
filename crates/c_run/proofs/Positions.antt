-- Where steps go.
use Rattle.std.proofs.Common.{◌≡◌, ℕ, suc, ◌+◌, Bool, List, Option, Some, refl, sym, ap, ◌∙◌, subst, add-one, slice_get}
use Rattle.std.specs.Prelude.{option_map}
use Rattle.std.proofs.lemmas.Option.{slice_get-map}
use Rattle.pcode_model.specs.declared.listing.Listing.{Listing}
use Rattle.cmeaning.specs.declared.tree.Expr.{Expr}
use Rattle.cmeaning.specs.Do as D
use Rattle.cmeaning.specs.Flat.{Flat}
use Rattle.cmeaning.specs.Step.{CState, at, carry_out, given}
use Rattle.flatcode.specs.declared.step.FlatCode.{FlatCode}
use Rattle.flatcode.specs.declared.step.Step.{Step}
use Rattle.flatcode.specs.Steps.{code_of, flat_step, place_in}
use Rattle.run_world.specs.declared.entry.Answer.{Answer}
use Rattle.c_run.specs.declared.local.Local.{Local}
use Rattle.c_run.specs.States.{Becomes, Goes, local_of}

pub jump_goes : (answers : List Answer) (old : Local) (p q : ℕ)
    → p ≡ q
    → Goes answers old old p (at q (local_of answers old))
jump_goes answers old p q e = record { means = ap (λ n. at n (local_of answers old)) e; function = refl }

module _ (answers : List Answer) (old new : Local) where
  pub goes_as : (p : ℕ) (x y : CState)
      → Goes answers old new p x
      → x ≡ y
      → Goes answers old new p y
  goes_as p x y g e = record { means = g.means ∙ e; function = g.function }

  pub done_goes : (p : ℕ) (x : D.Local)
      → Becomes answers old new x
      → Goes answers old new (p + 1) (at (suc p) x)
  done_goes p x b =
      record
      { means = ap (λ n. at n (local_of answers new)) (add-one p) ∙ ap (at (suc p)) b.means; function = b.function }

  pub stays_goes : (p : ℕ) (x : D.Local)
      → Becomes answers old new x
      → Goes answers old new p (at p x)
  stays_goes p x b = record { means = ap (at p) b.means; function = b.function }

  -- by what the step is
  pub step_goes : (next : ℕ) (l : Listing) (ws : ℕ → ℕ) (returns : ℕ → Bool) (place : ℕ → ℕ) (s t : Step) (st : CState)
      → s ≡ t
      → Goes answers old new next (carry_out l ws returns (Some (flat_step place t)) st)
      → Goes answers old new next (carry_out l ws returns (Some (flat_step place s)) st)
  step_goes next l ws returns place s t st is g =
      let P : Step → Type 0 = λ z. Goes answers old new next (carry_out l ws returns (Some (flat_step place z)) st) in
      subst P (sym is) g

  pub given_goes : (next : ℕ) (ws : ℕ → ℕ) (e t : Option Expr) (st : CState)
      → e ≡ t
      → Goes answers old new next (given ws t st)
      → Goes answers old new next (given ws e st)
  given_goes next ws e t st is g =
      let P : Option Expr → Type 0 = λ z. Goes answers old new next (given ws z st) in
      subst P (sym is) g

  -- by what stands at the position
  pub code_goes : (next : ℕ) (l : Listing) (ws : ℕ → ℕ) (returns : ℕ → Bool) (code : FlatCode) (p : ℕ)
      (o : Option Step) (st : CState)
      → slice_get code.steps.items p ≡ o
      → Goes answers old new next
      (carry_out l ws returns (option_map (flat_step (place_in code.labels.items code.end)) o) st)
      → Goes answers old new next (carry_out l ws returns (slice_get (code_of code) p) st)
  code_goes next l ws returns code p o st is g =
      let f = flat_step (place_in code.labels.items code.end) in
      let e : slice_get (code_of code) p ≡ option_map f o = slice_get-map f code.steps.items p ∙ ap (option_map f) is in
      let P : Option Flat → Type 0 = λ z. Goes answers old new next (carry_out l ws returns z st) in subst P (sym e) g
