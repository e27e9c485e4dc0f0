-- What is known of the order of a body below a head that has all that the body mentions.
use Rattle.std.proofs.Common.{◌≡◌, ℕ, ◌+◌, ◌-◌, ◌^◌, ◌<◌, ◌≤◌, Bool, true, false, cond, List, [], ◌∷◌, ◌++◌, length, refl, sym, ap, ◌∙◌, subst, arith}
use Rattle.std.specs.Prelude.{◌==◌, nat_lt}
use Rattle.std.proofs.lemmas.Bool.{eqb-true}
use Rattle.std.proofs.lemmas.Bool.Decides.{nat_tests}
use Rattle.pcode_model.specs.Spaces.{or}
use Rattle.cmeaning.specs.declared.tree.Stmt.{Stmt}
use Rattle.cmeaning.specs.Callees.{declared_in}
use Rattle.cmeaning.specs.Mentions.{Mention, Variable, Callee, LabelLine, in_body}
use Rattle.naming.specs.declared.head.Head.{Head}
use Rattle.naming.specs.declared.order.Order.{Order}
use Rattle.naming.specs.Listed.{is_listed, with_one}
use Rattle.naming.specs.First.{noted, all_noted, none_noted, order_of}
use Rattle.naming.specs.Covered.{Covers, CoversOne, IsCovered, has_line}
use Rattle.naming_laws.proofs.Places.{GoesOn}
use Rattle.naming_laws.proofs.Numbers.{IsLater, later_all, in_one}
use Rattle.naming_laws.proofs.Found.{All, all_one, AreDistinct, distinct_one, IsFound, IsWithin, listed_more}

-- ---- all that is listed is had by the head, and listed once

pub record IsSound (h : Head) (o : Order) : Type 0 where
  pub params : o.params ≡ length h.params
  pub variables : All (IsWithin (length h.params) (length h.locals)) o.variables
  pub variables_apart : AreDistinct o.variables
  pub callees : All (IsFound (declared_in h.callees)) o.callees
  pub callees_apart : AreDistinct o.callees
  pub labels : All (IsWithin 0 (2 ^ 32 - 1)) o.labels
  pub labels_apart : AreDistinct o.labels

module _ (h : Head) where
  sound_one : (o : Order) (x : Mention) → IsSound h o → CoversOne h x → IsSound h (noted o x)
  sound_one o (Variable v) s within = record {
    params = s.params;
    variables = by_test (nat_lt v o.params) refl;
    variables_apart = apart (nat_lt v o.params);
    callees = s.callees;
    callees_apart = s.callees_apart;
    labels = s.labels;
    labels_apart = s.labels_apart;
  }
    where
      by_test : (b : Bool)
          → nat_lt v o.params ≡ b
          → All (IsWithin (length h.params) (length h.locals)) (cond b o.variables (with_one o.variables v))
      by_test true below = s.variables
      by_test false above =
          let same = s.params in
          let from : length h.params ≤ v = grind (arith, nat_tests, above, same) in
          all_one (IsWithin (length h.params) (length h.locals)) o.variables v s.variables (from, within)

      apart : (b : Bool) → AreDistinct (cond b o.variables (with_one o.variables v))
      apart true = s.variables_apart
      apart false = distinct_one o.variables v s.variables_apart
  sound_one o (Callee a) s found = record {
    params = s.params;
    variables = s.variables;
    variables_apart = s.variables_apart;
    callees = all_one (IsFound (declared_in h.callees)) o.callees a s.callees found;
    callees_apart = distinct_one o.callees a s.callees_apart;
    labels = s.labels;
    labels_apart = s.labels_apart;
  }
  sound_one o (LabelLine n) s small = record {
    params = s.params;
    variables = s.variables;
    variables_apart = s.variables_apart;
    callees = s.callees;
    callees_apart = s.callees_apart;
    labels = all_one (IsWithin 0 (2 ^ 32 - 1)) o.labels n s.labels
        (let z : 0 ≤ n = omega arith in z, let t : n < 0 + (2 ^ 32 - 1) = omega (arith, small) in t);
    labels_apart = distinct_one o.labels n s.labels_apart;
  }

  sound_all : (o : Order) (xs : List Mention) → IsSound h o → Covers h xs → IsSound h (all_noted o xs)
  sound_all o [] s c = s
  sound_all o (x ∷ xs) s c = sound_all (noted o x) xs (sound_one o x s c.0) c.1

  pub sound : (body : List Stmt) → IsCovered h body → IsSound h (order_of (length h.params) body)
  sound body c = sound_all (none_noted (length h.params)) (in_body body)
      (record {
        params = refl;
        variables = tt;
        variables_apart = tt;
        callees = tt;
        callees_apart = tt;
        labels = tt;
        labels_apart = tt;
      })
      c.mentions

-- ---- all that is mentioned is listed

abbrev pub IsIn : Order → Mention → Type 0
IsIn o (Variable v) = nat_lt v o.params ≡ false → is_listed v o.variables ≡ true
IsIn o (Callee a) = is_listed a o.callees ≡ true
IsIn o (LabelLine n) = is_listed n o.labels ≡ true

abbrev pub AllIn : Order → List Mention → Type 0
AllIn o [] = Unit {0}
AllIn o (x ∷ xs) = IsIn o x × AllIn o xs

in_variable : (f o : Order) (v : ℕ)
    → IsLater f (noted o (Variable v))
    → nat_lt v f.params ≡ false
    → is_listed v f.variables ≡ true
in_variable f o v later above =
    let other : nat_lt v o.params ≡ false = ap (nat_lt v) (sym later.params) ∙ above in
    in_one o.variables f.variables v
    (subst (λ (b : Bool). GoesOn (cond b o.variables (with_one o.variables v)) f.variables) other later.variables)

in_later : (f o : Order) (x : Mention) → IsLater f (noted o x) → IsIn f x
in_later f o (Variable v) later = in_variable f o v later
in_later f o (Callee a) later = in_one o.callees f.callees a later.callees
in_later f o (LabelLine n) later = in_one o.labels f.labels n later.labels

all_in : (f o : Order) (xs : List Mention) → f ≡ all_noted o xs → AllIn f xs
all_in f o [] is = tt
all_in f o (x ∷ xs) is = (
  in_later f o x (subst (λ (g : Order). IsLater g (noted o x)) (sym is) (later_all (noted o x) xs)),
  all_in f (noted o x) xs is,
)

pub mentioned_in : (params : ℕ) (body : List Stmt) → AllIn (order_of params body) (in_body body)
mentioned_in params body = all_in (order_of params body) (none_noted params) (in_body body) refl

-- ---- the labels that are listed are those that have a line

listed_or : (xs : List ℕ) (m n : ℕ) → is_listed n (with_one xs m) ≡ or (is_listed n xs) (m == n)
listed_or xs m n = by_test (is_listed m xs) refl
  where
    taken : (b c : Bool) → (c ≡ true → b ≡ true) → b ≡ or b c
    taken true c h = refl
    taken false true h = h refl
    taken false false h = refl

    by_test : (b : Bool)
        → is_listed m xs ≡ b
        → is_listed n (cond b xs (xs ++ m ∷ [])) ≡ or (is_listed n xs) (m == n)
    by_test true is =
        taken (is_listed n xs) (m == n) (λ hit. ap (λ k. is_listed k xs) (sym (eqb-true m n hit)) ∙ is)
    by_test false is = listed_more xs m n

lines : (o : Order) (xs : List Mention) (n : ℕ)
    → is_listed n (all_noted o xs).labels ≡ or (is_listed n o.labels) (has_line xs n)
lines o [] n = or_false (is_listed n o.labels)
  where
    or_false : (b : Bool) → b ≡ or b false
    or_false true = refl
    or_false false = refl
lines o (Variable v ∷ xs) n = lines (noted o (Variable v)) xs n
lines o (Callee a ∷ xs) n = lines (noted o (Callee a)) xs n
lines o (LabelLine m ∷ xs) n =
    lines (noted o (LabelLine m)) xs n
    ∙ ap (λ b. or b (has_line xs n)) (listed_or o.labels m n)
    ∙ grouped (is_listed n o.labels) (m == n) (has_line xs n)
  where
    grouped : (b c d : Bool) → or (or b c) d ≡ or b (or c d)
    grouped true c d = refl
    grouped false c d = refl

pub line_listed : (params : ℕ) (body : List Stmt) (n : ℕ)
    → is_listed n (order_of params body).labels ≡ has_line (in_body body) n
line_listed params body n = lines (none_noted params) (in_body body) n
