-- What effects on the state of a run mean.
use Rattle.std.proofs.Common.{◌≡◌, ℕ, List, Option, Some, None, sym, ap, ◌∙◌, subst}
use Rattle.machine.specs.Trace.{Undefined, Returned}
use Rattle.bits_core.specs.declared.word.Word.{Word}
use Rattle.cmeaning.specs.Do as D
use Rattle.cmeaning.specs.Step.{at, goes_by, gives}
use Rattle.cvalue.specs.Held.{number_in}
use Rattle.run_world.specs.declared.entry.Answer.{Answer}
use Rattle.c_run.specs.declared.local.Local.{Local}
use Rattle.c_run.specs.States.{Becomes, Goes, local_of, state_of}

module _ (answers : List Answer) (old new : Local) where
  pub becomes_as : (x y : D.Local)
      → Becomes answers old new x
      → x ≡ y
      → Becomes answers old new y
  becomes_as x y b e = record { means = b.means ∙ e; function = b.function }

  -- an operand without a value
  pub word_lacks : (w : Option Word) (o : Option ℕ) (to : ℕ → D.Local)
      → w ≡ None
      → number_in w ≡ o
      → Becomes answers old new (D.ends Undefined (local_of answers old))
      → Becomes answers old new (D.with_word o (local_of answers old) to)
  word_lacks w o to none is b =
      let e : None ≡ o = ap number_in (sym none) ∙ is in
      let P : Option ℕ → Type 0 = λ z. Becomes answers old new (D.with_word z (local_of answers old) to) in subst P e b

  pub word_has : (w : Option Word) (x : Word) (o : Option ℕ) (to : ℕ → D.Local)
      → w ≡ Some x
      → number_in w ≡ o
      → Becomes answers old new (to x.value) → Becomes answers old new (D.with_word o (local_of answers old) to)
  word_has w x o to some is b =
      let e : Some x.value ≡ o = ap number_in (sym some) ∙ is in
      let P : Option ℕ → Type 0 = λ z. Becomes answers old new (D.with_word z (local_of answers old) to) in subst P e b

  pub goes_lacks : (p : ℕ) (w : Option Word) (o : Option ℕ) (to : ℕ → ℕ)
      → w ≡ None
      → number_in w ≡ o
      → Becomes answers old new (D.ends Undefined (local_of answers old))
      → Goes answers old new p (goes_by o (state_of answers old p) to)
  goes_lacks p w o to none is b =
      let e : None ≡ o = ap number_in (sym none) ∙ is in
      let P : Option ℕ → Type 0 = λ z. Goes answers old new p (goes_by z (state_of answers old p) to) in
      subst P e (record { means = ap (at p) b.means; function = b.function })

  pub gives_lacks : (p : ℕ) (w : Option Word) (o : Option ℕ)
      → w ≡ None
      → number_in w ≡ o
      → Becomes answers old new (D.ends Undefined (local_of answers old))
      → Goes answers old new p (gives o (state_of answers old p))
  gives_lacks p w o none is b =
      let e : None ≡ o = ap number_in (sym none) ∙ is in
      let P : Option ℕ → Type 0 = λ z. Goes answers old new p (gives z (state_of answers old p)) in
      subst P e (record { means = ap (at p) b.means; function = b.function })

  pub gives_has : (p : ℕ) (w : Option Word) (x : Word) (o : Option ℕ)
      → w ≡ Some x
      → number_in w ≡ o
      → Becomes answers old new (D.ends (Returned (Some x.value)) (local_of answers old))
      → Goes answers old new p (gives o (state_of answers old p))
  gives_has p w x o some is b =
      let e : Some x.value ≡ o = ap number_in (sym some) ∙ is in
      let P : Option ℕ → Type 0 = λ z. Goes answers old new p (gives z (state_of answers old p)) in
      subst P e (record { means = ap (at p) b.means; function = b.function })
