-- Declarations that are taken from others by their addresses.
use Rattle.std.proofs.Common.{◌≡◌, ℕ, ◌&&◌, not, Bool, true, false, cond, List, [], ◌∷◌, map, refl, sym, ap, ap₂, ◌∙◌, Option, Some}
use Rattle.std.specs.Prelude.{◌==◌}
use Rattle.std.proofs.lemmas.Bool.{eqb-true}
use Rattle.pcode_laws.proofs.Rules.{neither, or_rest}
use Rattle.cmeaning.specs.declared.tree.CName.{CName}
use Rattle.cmeaning.specs.declared.tree.CName.TheVariants.{Declared, Bare}
use Rattle.cmeaning.specs.declared.tree.CalleeDecl.{CalleeDecl}
use Rattle.cmeaning.specs.Callees.{declared_in}
use Rattle.cmeaning.specs.Do.{same_name}
use Rattle.cmeaning.specs.Valid.{same_callee_name, are_apart, is_apart_from, is_callee, are_callees}
use Rattle.naming.specs.Listed.{is_listed}
use Rattle.naming.specs.Named.{with_found, declared_all}
use Rattle.naming_laws.proofs.Found.{All, AreDistinct, IsFound, turned}
use Rattle.naming_laws.proofs.Places.{own}

same_decl : (c d : CalleeDecl) → Some c ≡ Some d → c ≡ d
same_decl c d e = cc

true_not : true ≡ false → ⊥
true_not e = cc

and_left : (a b : Bool) → a && b ≡ true → a ≡ true
and_left true b h = refl
and_left false b h = h

and_right : (a b : Bool) → a && b ≡ true → b ≡ true
and_right true b h = h
and_right false b h = absurd (cc)

both : (a b : Bool) → a ≡ true → b ≡ true → a && b ≡ true
both a b p q = ap₂ (λ (c d : Bool). c && d) p q

pub declared_address : (cs : List CalleeDecl) (a : ℕ) (c : CalleeDecl) → declared_in cs a ≡ Some c → c.address ≡ a
declared_address [] a c is = absurd (cc)
declared_address (d ∷ cs) a c is = by_test (d.address == a) refl is (λ g. declared_address cs a c g)
  where
    by_test : (b : Bool)
        → (d.address == a) ≡ b
        → cond b (Some d) (declared_in cs a) ≡ Some c
        → (declared_in cs a ≡ Some c → c.address ≡ a)
        → c.address ≡ a
    by_test true same g next = ap (λ (x : CalleeDecl). x.address) (sym (same_decl d c g)) ∙ eqb-true d.address a same
    by_test false same g next = next g

abbrev pub addresses : List CalleeDecl → List ℕ
addresses cs = map (λ (c : CalleeDecl). c.address) cs

-- ---- what is taken

module _ (cs : List CalleeDecl) where
  abbrev pub AreDeclared : List ℕ → Type 0
  AreDeclared ns = All (IsFound (declared_in cs)) ns

  pub addresses_are : (ns : List ℕ) → AreDeclared ns → addresses (declared_all cs ns) ≡ ns
  addresses_are [] h = refl
  addresses_are (n ∷ ns) h =
      ap (λ (o : Option CalleeDecl). addresses (with_found o (declared_all cs ns))) h.0.1
      ∙ ap₂ (λ (x : ℕ) (xs : List ℕ). x ∷ xs) (declared_address cs n h.0.0 h.0.1) (addresses_are ns h.1)

  -- the declaration of an address that is taken stays
  pub declared_again : (ns : List ℕ) (a : ℕ)
      → AreDeclared ns
      → is_listed a ns ≡ true
      → declared_in (declared_all cs ns) a ≡ declared_in cs a
  declared_again [] a h listed = absurd (cc)
  declared_again (n ∷ ns) a h listed =
      ap (λ (o : Option CalleeDecl). declared_in (with_found o (declared_all cs ns)) a) h.0.1
      ∙ by_test (h.0.0.address == a) refl (λ g. declared_again ns a h.1 g)
    where
      is_n : h.0.0.address ≡ n
      is_n = declared_address cs n h.0.0 h.0.1

      by_test : (b : Bool)
          → (h.0.0.address == a) ≡ b
          → (is_listed a ns ≡ true → declared_in (declared_all cs ns) a ≡ declared_in cs a)
          → cond b (Some h.0.0) (declared_in (declared_all cs ns) a) ≡ declared_in cs a
      by_test true same next =
          sym h.0.1 ∙ ap (declared_in cs) (sym is_n ∙ eqb-true h.0.0.address a same)
      by_test false other next =
          next (or_rest (n == a) (is_listed a ns) (ap (λ k. k == a) (sym is_n) ∙ other) listed)

-- ---- they are declarations as a function has them

names_turned : (xs ys : List ℕ) → same_name xs ys ≡ same_name ys xs
names_turned [] [] = refl
names_turned [] (y ∷ ys) = refl
names_turned (x ∷ xs) [] = refl
names_turned (x ∷ xs) (y ∷ ys) = ap₂ (λ (a b : Bool). a && b) (turned x y) (names_turned xs ys)

callee_names_turned : (a b : CName) → same_callee_name a b ≡ same_callee_name b a
callee_names_turned (Declared a) (Declared b) = names_turned a b
callee_names_turned (Declared a) Bare = refl
callee_names_turned Bare (Declared b) = refl
callee_names_turned Bare Bare = refl

apart_turned : (c d : CalleeDecl) → are_apart c d ≡ are_apart d c
apart_turned c d =
    ap₂ (λ (a b : Bool). not a && not b) (turned c.address d.address) (callee_names_turned c.name d.name)

right_of : (cs : List CalleeDecl) (a : ℕ) (c : CalleeDecl)
    → are_callees cs ≡ true
    → declared_in cs a ≡ Some c
    → is_callee c ≡ true
right_of [] a c right is = absurd (cc)
right_of (d ∷ cs) a c right is =
    let rest = and_right (is_callee d) (is_apart_from d cs && are_callees cs) right in
    by_test (d.address == a) is (λ g. right_of cs a c (and_right (is_apart_from d cs) (are_callees cs) rest) g)
  where
    by_test : (b : Bool)
        → cond b (Some d) (declared_in cs a) ≡ Some c
        → (declared_in cs a ≡ Some c → is_callee c ≡ true)
        → is_callee c ≡ true
    by_test true g next =
        ap is_callee (sym (same_decl d c g)) ∙ and_left (is_callee d) (is_apart_from d cs && are_callees cs) right
    by_test false g next = next g

apart_of : (x : CalleeDecl) (cs : List CalleeDecl) (b : ℕ) (d : CalleeDecl)
    → is_apart_from x cs ≡ true
    → declared_in cs b ≡ Some d
    → are_apart x d ≡ true
apart_of x [] b d apart is = absurd (cc)
apart_of x (y ∷ cs) b d apart is =
    by_test (y.address == b) is (λ g. apart_of x cs b d (and_right (are_apart x y) (is_apart_from x cs) apart) g)
  where
    by_test : (t : Bool)
        → cond t (Some y) (declared_in cs b) ≡ Some d
        → (declared_in cs b ≡ Some d → are_apart x d ≡ true)
        → are_apart x d ≡ true
    by_test true g next =
        ap (are_apart x) (sym (same_decl y d g)) ∙ and_left (are_apart x y) (is_apart_from x cs) apart
    by_test false g next = next g

two_apart : (cs : List CalleeDecl) (a b : ℕ) (c d : CalleeDecl)
    → are_callees cs ≡ true
    → declared_in cs a ≡ Some c
    → declared_in cs b ≡ Some d
    → (a == b) ≡ false
    → are_apart c d ≡ true
two_apart [] a b c d right is_c is_d other = absurd (cc)
two_apart (x ∷ cs) a b c d right is_c is_d other =
    by_tests (x.address == a) (x.address == b) refl refl is_c is_d
    (λ g h. two_apart cs a b c d (and_right (is_apart_from x cs) (are_callees cs) rest) g h other)
  where
    rest : is_apart_from x cs && are_callees cs ≡ true
    rest = and_right (is_callee x) (is_apart_from x cs && are_callees cs) right

    apart : is_apart_from x cs ≡ true
    apart = and_left (is_apart_from x cs) (are_callees cs) rest

    by_tests : (t u : Bool)
        → (x.address == a) ≡ t
        → (x.address == b) ≡ u
        → cond t (Some x) (declared_in cs a) ≡ Some c
        → cond u (Some x) (declared_in cs b) ≡ Some d
        → (declared_in cs a ≡ Some c → declared_in cs b ≡ Some d → are_apart c d ≡ true)
        → are_apart c d ≡ true
    by_tests true true p q g h next =
        let same : a ≡ b = sym (eqb-true x.address a p) ∙ eqb-true x.address b q in
        absurd (true_not (sym (own b) ∙ ap (λ k. k == b) (sym same) ∙ other))
    by_tests true false p q g h next =
        ap (λ (y : CalleeDecl). are_apart y d) (sym (same_decl x c g)) ∙ apart_of x cs b d apart h
    by_tests false true p q g h next =
        apart_turned c d ∙ ap (λ (y : CalleeDecl). are_apart y c) (sym (same_decl x d h)) ∙ apart_of x cs a c apart g
    by_tests false false p q g h next = next g h

module _ (cs : List CalleeDecl) (right : are_callees cs ≡ true) where
  apart_all : (a : ℕ) (c : CalleeDecl) (ns : List ℕ)
      → declared_in cs a ≡ Some c
      → AreDeclared cs ns
      → is_listed a ns ≡ false
      → is_apart_from c (declared_all cs ns) ≡ true
  apart_all a c [] is h new = refl
  apart_all a c (n ∷ ns) is h new =
      ap (λ (o : Option CalleeDecl). is_apart_from c (with_found o (declared_all cs ns))) h.0.1
      ∙ both (are_apart c h.0.0) (is_apart_from c (declared_all cs ns))
      (two_apart cs a n c h.0.0 right is h.0.1 (turned a n ∙ (neither (n == a) (is_listed a ns) new).0))
      (apart_all a c ns is h.1 (neither (n == a) (is_listed a ns) new).1)

  pub callees_all : (ns : List ℕ) → AreDeclared cs ns → AreDistinct ns → are_callees (declared_all cs ns) ≡ true
  callees_all [] h distinct = refl
  callees_all (n ∷ ns) h distinct =
      let more = declared_all cs ns in
      ap (λ (o : Option CalleeDecl). are_callees (with_found o more)) h.0.1
      ∙ both (is_callee h.0.0) (is_apart_from h.0.0 more && are_callees more) (right_of cs n h.0.0 right h.0.1)
      (both (is_apart_from h.0.0 more) (are_callees more) (apart_all n h.0.0 ns h.0.1 h.1 distinct.0)
      (callees_all ns h.1 distinct.1))
