-- A head that declares a code's variables has as many, with the same widths.
use Rattle.std.proofs.Common.{◌≡◌, ℕ, zero, suc, ◌+◌, ◌-◌, List, [], ◌∷◌, length, None, refl, sym, ap, ◌∙◌, arith}
use Rattle.std.specs.Prelude.{slice_get}
use Rattle.std.proofs.Math.Path.{fun_ext}
use Rattle.bits_core.specs.declared.word.Width.{Width}
use Rattle.cmeaning.specs.declared.tree.Local.{Local}
use Rattle.cmeaning.specs.declared.tree.Param.{Param}
use Rattle.cmeaning.specs.Do.{variable_width}
use Rattle.naming.specs.declared.head.Head.{Head}
use Rattle.naming.specs.Run.{widths_of}
use Rattle.blockcode.specs.declared.code.Variable.{Variable}
use Rattle.blockcode.specs.Run.{width_in, widths}
use Rattle.layout.specs.Suits.{Declares}

width_at : (vs : List Variable) (ps : List Param) (xs : List Local) (n : ℕ)
    → Declares vs ps xs
    → width_in (slice_get vs n) ≡ variable_width (slice_get ps n) (slice_get xs (n - length ps))
width_at [] [] [] n d = refl
width_at [] [] (x ∷ xs) n d = absurd d
width_at [] (p ∷ ps) xs n d = absurd d
width_at (v ∷ vs) (p ∷ ps) xs zero d = ap (λ (w : Width). w.bytes) d.0.0
width_at (v ∷ vs) (p ∷ ps) xs (suc n) d =
    let e : suc n - suc (length ps) ≡ n - length ps = omega arith in
    width_at vs ps xs n d.1 ∙ sym (ap (λ m. variable_width (slice_get ps n) (slice_get xs m)) e)
width_at (v ∷ vs) [] [] n d = absurd d
width_at (v ∷ vs) [] (x ∷ xs) zero d = ap (λ (w : Width). w.bytes) d.0.0
width_at (v ∷ vs) [] (x ∷ xs) (suc n) d =
    let e : suc n - 0 ≡ suc n = omega arith in
    let f : n - 0 ≡ n = omega arith in
    width_at vs [] xs n d.1
    ∙ ap (λ m. variable_width None (slice_get xs m)) f
    ∙ sym (ap (λ m. variable_width None (slice_get (x ∷ xs) m)) e)

-- The variables have the same widths.
pub widths_declared : (h : Head) (vs : List Variable) → Declares vs h.params h.locals → widths vs ≡ widths_of h
widths_declared h vs d = fun_ext (λ n. width_at vs h.params h.locals n d)

-- There are as many.
pub count_declared : (vs : List Variable) (ps : List Param) (xs : List Local)
    → Declares vs ps xs
    → length vs ≡ length ps + length xs
count_declared [] [] [] d = refl
count_declared [] [] (x ∷ xs) d = absurd d
count_declared [] (p ∷ ps) xs d = absurd d
count_declared (v ∷ vs) (p ∷ ps) xs d = omega (arith, count_declared vs ps xs d.1)
count_declared (v ∷ vs) [] [] d = absurd d
count_declared (v ∷ vs) [] (x ∷ xs) d = omega (arith, count_declared vs [] xs d.1)
