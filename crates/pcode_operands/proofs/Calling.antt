-- The registers after a call.
use Rattle.std.proofs.Common.{◌≡◌, ℕ, zero, suc, ◌+◌, ◌<◌, ◌≤◌, ◌==◌, ◌&&◌, Bool, true, false, List, [], ◌∷◌, length, take, get_or, Option, Some, None, refl, ap, ◌∙◌, arith, add-one}
use Rattle.std.specs.Prelude.{not, nat_lt, if◌then◌else◌}
use Rattle.std.specs.List.{AllByRecursion}
use Rattle.std.proofs.Math.Path.{fun_ext}
use Rattle.std.proofs.lemmas.Bool.Decides.{nat_tests}
use Rattle.pcode_model.specs.declared.listing.Listing.{Listing}
use Rattle.pcode_model.specs.declared.listing.Proto.{Proto}
use Rattle.pcode_model.specs.declared.listing.Varnode.{Varnode}
use Rattle.pcode_model.specs.Memory.{or_else}
use Rattle.pcode_model.specs.Spaces.{put, put_in, register_space}
use Rattle.pcode_model.specs.Step.{in_range, in_some, in_option, after_callee}
use Rattle.pcode_model.specs.World as W
use Rattle.run_world.specs.declared.entry.Byte.{Byte}
use Rattle.run_world.specs.declared.entry.Answer.{Answer}
use Rattle.run_world.specs.Meaning.{answer_of, with_offsets}
use Rattle.pcode_operands.specs.Calls.{is_held, mixed, forgotten}

-- ---- lists

pub all_at : {A : Type 0} (P : A → Type 0) (xs : List A) (i : ℕ) (d : A)
    → AllByRecursion P xs
    → i < length xs
    → P (get_or xs i d)
all_at P [] i d all more = absurd (omega (arith, more))
all_at P (x ∷ xs) zero d all more = all.0
all_at P (x ∷ xs) (suc i) d all more = all_at P xs i d all.1 (omega (arith, more))

pub some_at : (xs : List Varnode) (i : ℕ) (d : Varnode) (p : ℕ)
    → i < length xs
    → in_range (get_or xs i d) p ≡ true
    → in_some xs p ≡ true
some_at [] i d p more is = absurd (omega (arith, more))
some_at (x ∷ xs) zero d p more is = ap (λ (b : Bool). if b then true else in_some xs p) is
some_at (x ∷ xs) (suc i) d p more is = later (in_range x p) (some_at xs i d p (omega (arith, more)) is) where
  later : (b : Bool) → in_some xs p ≡ true → (if b then true else in_some xs p) ≡ true
  later true e = refl
  later false e = e

none_suc : (xs : List Varnode) (i : ℕ) (d : Varnode) (p : ℕ)
    → i < length xs
    → in_some (take i xs) p ≡ false
    → in_range (get_or xs i d) p ≡ false
    → in_some (take (suc i) xs) p ≡ false
none_suc [] i d p more before isnt = absurd (omega (arith, more))
none_suc (x ∷ xs) zero d p more before isnt = ap (λ (b : Bool). if b then true else false) isnt
none_suc (x ∷ xs) (suc i) d p more before isnt =
    step (in_range x p) before (λ e. none_suc xs i d p (omega (arith, more)) e isnt) where
      step : (b : Bool)
          → (if b then true else in_some (take i xs) p) ≡ false
          → (in_some (take i xs) p ≡ false → in_some (take (suc i) xs) p ≡ false)
          → (if b then true else in_some (take (suc i) xs) p) ≡ false
      step true e next = absurd (cc)
      step false e next = next e

pub none_more : (xs : List Varnode) (i : ℕ) (d : Varnode) (p : ℕ)
    → i < length xs
    → in_some (take i xs) p ≡ false
    → in_range (get_or xs i d) p ≡ false
    → in_some (take (i + 1) xs) p ≡ false
none_more xs i d p more before isnt =
    ap (λ (k : ℕ). in_some (take k xs) p) (add-one i) ∙ none_suc xs i d p more before isnt

-- ---- held bytes

pub held_by : (keep : List Varnode) (stack : Option Varnode) (p : ℕ)
    → in_some keep p ≡ true
    → is_held keep stack p ≡ true
held_by keep stack p is = ap (λ (b : Bool). if b then true else in_option stack p) is

pub held_or : (keep : List Varnode) (stack : Option Varnode) (p : ℕ)
    → in_option stack p ≡ true
    → is_held keep stack p ≡ true
held_or keep stack p is = either (in_some keep p) where
  either : (b : Bool) → (if b then true else in_option stack p) ≡ true
  either true = refl
  either false = is

pub held_not : (keep : List Varnode) (stack : Option Varnode) (p : ℕ)
    → in_some keep p ≡ false
    → in_option stack p ≡ false
    → is_held keep stack p ≡ false
held_not keep stack p isnt other = ap (λ (b : Bool). if b then true else in_option stack p) isnt ∙ other

-- ---- forgetting

module _ (test : ℕ → Bool) (space : ℕ) (g : ℕ → ℕ → Option ℕ) where
  none_point : (s o : ℕ) → g s o ≡ forgotten test space 0 g s o
  none_point s o = grind (arith, nat_tests)

  pub forgets_none : g ≡ forgotten test space 0 g
  forgets_none = fun_ext (λ s. fun_ext (λ o. none_point s o))

  same_test : (k n o : ℕ)
      → k ≤ n
      → (k ≤ o → o < n → test o ≡ true)
      → (nat_lt o k && not (test o)) ≡ (nat_lt o n && not (test o))
  same_test k n o le held = grind (arith, nat_tests, held)

  pub forgets_held : (k n : ℕ)
      → k ≤ n
      → ((o : ℕ) → k ≤ o → o < n → test o ≡ true)
      → forgotten test space k g ≡ forgotten test space n g
  forgets_held k n le held =
      fun_ext
      (λ s. fun_ext (λ o. ap (λ (b : Bool). if s == space && b then None else g s o) (same_test k n o le (held o))))

  forget_point : (k s o : ℕ)
      → test k ≡ false
      → put_in space k None (forgotten test space k g) s o ≡ forgotten test space (k + 1) g s o
  forget_point k s o isnt =
      let here : o ≡ k → test o ≡ false = λ e. ap test e ∙ isnt in
      grind (arith, nat_tests, here)

  pub forgets_one : (k : ℕ)
      → test k ≡ false
      → put_in space k None (forgotten test space k g) ≡ forgotten test space (k + 1) g
  forgets_one k isnt = fun_ext (λ s. fun_ext (λ o. forget_point k s o isnt))

  skip_point : (k n s o : ℕ)
      → k ≤ n
      → (k ≤ o → o < n → forgotten test space k g space o ≡ None)
      → forgotten test space k g s o ≡ forgotten test space n g s o
  skip_point k n s o le none = grind (arith, nat_tests, none)

  pub forgets_absent : (k n : ℕ)
      → k ≤ n
      → ((o : ℕ) → k ≤ o → o < n → forgotten test space k g space o ≡ None)
      → forgotten test space k g ≡ forgotten test space n g
  forgets_absent k n le none = fun_ext (λ s. fun_ext (λ o. skip_point k n s o le (none o)))

  end_point : (k s o : ℕ)
      → (k ≤ o → forgotten test space k g space o ≡ None)
      → forgotten test space k g s o ≡ mixed test space (λ p. None) g s o
  end_point k s o none = grind (arith, nat_tests, none)

  pub forgets_all : (k : ℕ)
      → ((o : ℕ) → k ≤ o → forgotten test space k g space o ≡ None)
      → forgotten test space k g ≡ mixed test space (λ p. None) g
  forgets_all k none = fun_ext (λ s. fun_ext (λ o. end_point k s o (none o)))

  -- ---- taking in

  put_point : (f : ℕ → Option ℕ) (a v s o : ℕ)
      → test a ≡ false
      → put_in space a (Some v) (mixed test space f g) s o ≡ mixed test space (put f a (Some v)) g s o
  put_point f a v s o isnt =
      let here : o ≡ a → test o ≡ false = λ e. ap test e ∙ isnt in
      grind (arith, nat_tests, here)

  pub mixes_one : (f : ℕ → Option ℕ) (a v : ℕ)
      → test a ≡ false
      → put_in space a (Some v) (mixed test space f g) ≡ mixed test space (put f a (Some v)) g
  mixes_one f a v isnt = fun_ext (λ s. fun_ext (λ o. put_point f a v s o isnt))

  keep_point : (f : ℕ → Option ℕ) (a v s o : ℕ)
      → test a ≡ true
      → mixed test space f g s o ≡ mixed test space (put f a (Some v)) g s o
  keep_point f a v s o is =
      let here : o ≡ a → test o ≡ true = λ e. ap test e ∙ is in
      grind (arith, nat_tests, here)

  pub mixes_held : (f : ℕ → Option ℕ) (a v : ℕ)
      → test a ≡ true
      → mixed test space f g ≡ mixed test space (put f a (Some v)) g
  mixes_held f a v is = fun_ext (λ s. fun_ext (λ o. keep_point f a v s o is))

offsets_suc : (bs : List Byte) (i : ℕ) (d : Byte) (f : ℕ → Option ℕ)
    → i < length bs
    → with_offsets (take (suc i) bs) f
    ≡ put (with_offsets (take i bs) f) (get_or bs i d).offset (Some (get_or bs i d).value)
offsets_suc [] i d f more = absurd (omega (arith, more))
offsets_suc (b ∷ bs) zero d f more = refl
offsets_suc (b ∷ bs) (suc i) d f more = offsets_suc bs i d (put f b.offset (Some b.value)) (omega (arith, more))

pub offsets_more : (bs : List Byte) (i : ℕ) (d : Byte) (f : ℕ → Option ℕ)
    → i < length bs
    → with_offsets (take (i + 1) bs) f
    ≡ put (with_offsets (take i bs) f) (get_or bs i d).offset (Some (get_or bs i d).value)
offsets_more bs i d f more = ap (λ (k : ℕ). with_offsets (take k bs) f) (add-one i) ∙ offsets_suc bs i d f more

-- ---- all in all

pub callee_is : (l : Listing) (p : Proto) (a : W.Answer) (f : ℕ → Option ℕ) (g : ℕ → ℕ → Option ℕ)
    → ((o : ℕ) → or_else (f o) 0 ≡ a.registers o)
    → (λ s o. or_else (mixed (is_held p.keep l.stack) (register_space l) f g s o) 0)
    ≡ after_callee l p a (λ s o. or_else (g s o) 0)
callee_is l p a f g same =
    fun_ext
    (λ s. fun_ext (λ o. point (s == register_space l) (in_some p.keep o) (in_option l.stack o) (f o) (g s o)
    (a.registers o) (same o))) where
      point : (b c d : Bool) (x y : Option ℕ) (z : ℕ)
          → or_else x 0 ≡ z
          → or_else (if b && not (if c then true else d) then x else y) 0
          ≡ (if b then (if c then or_else y 0 else (if d then or_else y 0 else z)) else or_else y 0)
      point true true d x y z e = refl
      point true false true x y z e = refl
      point true false false x y z e = e
      point false c d x y z e = refl

pub changed : (l : Listing) (p : Proto) (a : Answer) (keep : List Varnode) (space : ℕ) (regs : List Byte)
    (g h : ℕ → ℕ → Option ℕ)
    → keep ≡ p.keep
    → space ≡ register_space l
    → regs ≡ a.registers
    → h ≡ mixed (is_held keep l.stack) space (with_offsets regs (λ o. None)) g
    → (λ s o. or_else (h s o) 0) ≡ after_callee l p (answer_of a) (λ s o. or_else (g s o) 0)
changed l p a keep space regs g h kept home given e =
    ap (λ (f : ℕ → ℕ → Option ℕ). λ (s : ℕ). λ (o : ℕ). or_else (f s o) 0)
    (e ∙ ap (λ (k : List Varnode). mixed (is_held k l.stack) space (with_offsets regs (λ o. None)) g) kept
    ∙ ap (λ (n : ℕ). mixed (is_held p.keep l.stack) n (with_offsets regs (λ o. None)) g) home
    ∙ ap (λ (bs : List Byte). mixed (is_held p.keep l.stack) (register_space l) (with_offsets bs (λ o. None)) g) given)
    ∙ callee_is l p (answer_of a) (with_offsets a.registers (λ o. None)) g (λ o. refl)
