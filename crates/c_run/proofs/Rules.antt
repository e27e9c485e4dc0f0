-- What the rules of a valid tree say of expressions and variables.
use Rattle.std.proofs.Common.{◌≡◌, ℕ, ◌<◌, ◌^◌, true, List, [], ◌∷◌, Option, Some, None, refl}
use Rattle.std.specs.Prelude.{nat_lt, ◌==◌}
use Rattle.std.proofs.lemmas.Bool.{ltb-true, and_from}
use Rattle.bits_core.specs.declared.word.Width.{Width}
use Rattle.cmeaning.specs.declared.shape.Shape.{Shape}
use Rattle.cmeaning.specs.declared.tree.CalleeDecl.{CalleeDecl}
use Rattle.cmeaning.specs.declared.tree.Expr.{Expr}
use Rattle.cmeaning.specs.Shape.{shape_of, is_right, has_width, is_condition}
use Rattle.cmeaning.specs.Valid.{are_cases_of, are_right, have_widths, is_assigned, is_call, is_returned, is_target, is_variable, takes}
use Rattle.c_run.specs.May.{AreRight, IsFor, IsTarget, may_give}
use Rattle.c_run.proofs.Spaces.{both}

pub right_width : (w : ℕ) (o : Option Shape) → has_width w o ≡ true → is_right o ≡ true
right_width w None h = h
right_width w (Some s) h = refl

pub right_condition : (o : Option Shape) → is_condition o ≡ true → is_right o ≡ true
right_condition None h = h
right_condition (Some s) h = refl

pub right_value : (values : List ℕ) (o : Option Shape) → are_cases_of values o ≡ true → is_right o ≡ true
right_value values None h = h
right_value values (Some s) h = refl

pub there : (ws : ℕ → ℕ) (v : ℕ) → is_variable ws v ≡ true → 0 < ws v
there ws v h = ltb-true _ _ (both (nat_lt v (2 ^ 32)) (nat_lt 0 (ws v)) h).1

pub target_there : (ws : ℕ → ℕ) (v : Option ℕ) → is_target ws v ≡ true → IsTarget ws v
target_there ws None h = tt
target_there ws (Some v) h = there ws v h

takes_there : (ws : ℕ → ℕ) (v : Option ℕ) (gives : Option Width) → takes ws v gives ≡ true → IsTarget ws v
takes_there ws None gives h = tt
takes_there ws (Some v) None h = absurd cc
takes_there ws (Some v) (Some w) h = there ws v (both (is_variable ws v) (ws v == w.bytes) h).0

widths_right : (ws : ℕ → ℕ) (es : List Expr) (ns : List Width) → have_widths ws es ns ≡ true → are_right ws es ≡ true
widths_right ws [] ns h = refl
widths_right ws (e ∷ es) [] h = absurd cc
widths_right ws (e ∷ es) (w ∷ ns) h =
    let two = both (has_width w.bytes (shape_of ws e)) (have_widths ws es ns) h in
    and_from (is_right (shape_of ws e)) (are_right ws es) (right_width w.bytes (shape_of ws e) two.0)
    (widths_right ws es ns two.1)

pub call_right : (ws : ℕ → ℕ) (v : Option ℕ) (args : List Expr) (c : Option CalleeDecl)
    → is_call ws v args c ≡ true
    → IsTarget ws v × AreRight ws args
call_right ws v args None h = absurd cc
call_right ws v args (Some c) h =
    let two = both (have_widths ws args c.args) (takes ws v c.gives) h in
    (takes_there ws v c.gives two.1, widths_right ws args c.args two.0)

pub returned_right : (ws : ℕ → ℕ) (gives : Option Width) (e : Option Expr)
    → is_returned ws gives e ≡ true
    → may_give ws e
returned_right ws gives None h = tt
returned_right ws None (Some e) h = absurd cc
returned_right ws (Some w) (Some e) h = right_width w.bytes (shape_of ws e) h

pub assigned_right : (ws : ℕ → ℕ) (v : ℕ) (e : Expr) → is_assigned ws v (shape_of ws e) ≡ true → IsFor ws v e
assigned_right ws v e h =
    let two = both (is_variable ws v) (has_width (ws v) (shape_of ws e)) h in
    (there ws v two.0, two.1)
