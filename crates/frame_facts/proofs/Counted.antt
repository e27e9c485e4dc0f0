-- An op that obeys the rule of arity has as many inputs as its operation, and an output where that has one.
use Rattle.std.proofs.Common.{◌≡◌, ℕ, Bool, true, List, [], ◌∷◌, Option, Some, None, length, arith}
use Rattle.std.specs.Prelude.{◌&&◌, nat_le}
use Rattle.std.proofs.lemmas.Bool.Decides.{nat_tests}
use Rattle.std.proofs.lemmas.Bool.{and_parts}
use Rattle.pcode_model.specs.declared.listing.Varnode.{Varnode}
use Rattle.pcode_model.specs.declared.rules.Output.TheVariants as output
use Rattle.pcode_model.specs.Rules.{has_output}

pub third : (a b c : Bool) → (a && (b && c)) ≡ true → c ≡ true
third a b c h = (and_parts _ _ (and_parts _ _ h).1).1

pub counted : (n m : ℕ) (b : Bool) → (nat_le n m && (nat_le m n && b)) ≡ true → m ≡ n
counted n m b h =
    let p = and_parts _ _ h in
    let q = and_parts _ _ p.1 in
    let e : nat_le n m ≡ true = p.0 in
    let f : nat_le m n ≡ true = q.0 in
    grind (arith, nat_tests)

pub with_output : (P : Option Varnode → Type 0) (out : Option Varnode)
    → has_output output.Has out ≡ true
    → ((z : Varnode) → P (Some z))
    → P out
with_output P None h f = absurd (cc)
with_output P (Some z) h f = f z

pub without_output : (P : Option Varnode → Type 0) (out : Option Varnode)
    → has_output output.Lacks out ≡ true
    → P None
    → P out
without_output P None h p = p
without_output P (Some z) h p = absurd (cc)

pub of_one : (P : List Varnode → Type 0) (vs : List Varnode) → length vs ≡ 1 → ((x : Varnode) → P (x ∷ [])) → P vs
of_one P [] h f = absurd (omega arith)
of_one P (x ∷ []) h f = f x
of_one P (x ∷ y ∷ vs) h f = absurd (omega arith)

pub of_two : (P : List Varnode → Type 0) (vs : List Varnode)
    → length vs ≡ 2
    → ((x y : Varnode) → P (x ∷ y ∷ []))
    → P vs
of_two P [] h f = absurd (omega arith)
of_two P (x ∷ vs) h f = of_one (λ ys. P (x ∷ ys)) vs (omega arith) (f x)

pub of_three : (P : List Varnode → Type 0) (vs : List Varnode)
    → length vs ≡ 3
    → ((x y z : Varnode) → P (x ∷ y ∷ z ∷ []))
    → P vs
of_three P [] h f = absurd (omega arith)
of_three P (x ∷ vs) h f = of_two (λ ys. P (x ∷ ys)) vs (omega arith) (f x)
