-- Memory with hidden and spoiled bytes, as functions.
use Rattle.std.proofs.Common.{◌≡◌, ℕ, ◌==◌, Bool, true, false, cond, Option, Some, None, refl, sym, ap, ◌∙◌, arith}
use Rattle.std.proofs.Math.Path.{fun_ext}
use Rattle.std.proofs.lemmas.Bool.Decides.{nat_tests}
use Rattle.pcode_model.specs.Memory.{Bytes, Whole, Layout, conceal, is_framed}
use Rattle.pcode_model.specs.Spaces.{is_some, or, put, first_ram}
use Rattle.pcode_memory.specs.Context.{spoil}

-- memories are the same where their bytes, their hidden bytes and their spoiled ones are
pub whole_is : (b c : Bytes) (h g : ℕ → Option ℕ) (s t : ℕ → Bool)
    → b ≡ c
    → h ≡ g
    → s ≡ t
    → (let w : Whole = record { bytes = b; hidden = h; spoiled = s } in w)
    ≡ (let w : Whole = record { bytes = c; hidden = g; spoiled = t } in w)
whole_is b c h g s t x y z = λ i. record { bytes = x i; hidden = y i; spoiled = z i }

some_put : (f : ℕ → Option ℕ) (a v x : ℕ) (t : Bool) → is_some (cond t (Some v) (f x)) ≡ cond t true (is_some (f x))
some_put f a v x true = refl
some_put f a v x false = refl

none_put : (f : ℕ → Option ℕ) (a x : ℕ) (t : Bool) → is_some (cond t None (f x)) ≡ cond t false (is_some (f x))
none_put f a x true = refl
none_put f a x false = refl

pub spoiled_there : (f g : ℕ → Option ℕ) (a v : ℕ)
    → g ≡ put f a (Some v)
    → (λ x. is_some (g x)) ≡ put (λ x. is_some (f x)) a true
spoiled_there f g a v e = fun_ext (λ x. ap (λ (h : ℕ → Option ℕ). is_some (h x)) e ∙ some_put f a v x (x == a))

pub spoiled_gone : (f g : ℕ → Option ℕ) (a : ℕ)
    → g ≡ put f a None
    → (λ x. is_some (g x)) ≡ put (λ x. is_some (f x)) a false
spoiled_gone f g a e = fun_ext (λ x. ap (λ (h : ℕ → Option ℕ). is_some (h x)) e ∙ none_put f a x (x == a))

pub put_point : (f : ℕ → Bool) (a x : ℕ) → put f a (f a) x ≡ f x
put_point f a x = grind (arith, nat_tests)

pub put_same : (f : ℕ → Bool) (a : ℕ) → put f a (f a) ≡ f
put_same f a = fun_ext (λ x. put_point f a x)

-- a byte of a frame variable is spoiled as it is hidden, and another one stays as it is
pub conceal_framed : (y : Layout) (a b : ℕ) (w : Whole)
    → is_framed y (first_ram y.listing) a ≡ true
    → spoil a (let v : Whole = record { bytes = w.bytes; hidden = put w.hidden a (Some b); spoiled = w.spoiled } in v)
    ≡ conceal y a b w
conceal_framed y a b w is =
    sym (ap
    (λ (t : Bool).
    let v : Whole =
    record { bytes = w.bytes; hidden = put w.hidden a (Some b); spoiled = put w.spoiled a (or t (w.spoiled a)) } in
    v)
    is)

pub conceal_other : (y : Layout) (a b : ℕ) (w : Whole)
    → is_framed y (first_ram y.listing) a ≡ false
    → (let v : Whole = record { bytes = w.bytes; hidden = put w.hidden a (Some b); spoiled = w.spoiled } in v)
    ≡ conceal y a b w
conceal_other y a b w isnt =
    sym (ap
    (λ (t : Bool).
    let v : Whole =
    record
    { bytes = w.bytes; hidden = put w.hidden a (Some b); spoiled = put w.spoiled a (or t (w.spoiled a)) } in
    v)
    isnt
    ∙ ap
    (λ (s : ℕ → Bool).
    let v : Whole = record { bytes = w.bytes; hidden = put w.hidden a (Some b); spoiled = s } in
    v)
    (put_same w.spoiled a))
