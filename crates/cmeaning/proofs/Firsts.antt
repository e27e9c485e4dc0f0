-- Callees that stand first, each of its address and of its name, are apart.
use Rattle.std.proofs.Common.{◌≡◌, ℕ, suc, ◌+◌, ◌==◌, ◌&&◌, not, Bool, true, false, List, [], ◌∷◌, ◌++◌, length, refl, sym, ap, ap₂, ◌∙◌, arith}
use Rattle.std.specs.Prelude.{Option, Some, None, if◌then◌else◌}
use Rattle.std.specs.Option.{option_map}
use Rattle.std.specs.Str.{bytes_eq}
use Rattle.std.specs.Cmp.Lexicographic.{bytes_decides}
use Rattle.std.proofs.lemmas.Bool.Decides.{nat_tests}
use Rattle.std.proofs.lemmas.List.{append_assoc}
use Rattle.cmeaning.specs.declared.tree.CName.{CName}
use Rattle.cmeaning.specs.declared.tree.CName.TheVariants.{Declared, Bare}
use Rattle.cmeaning.specs.declared.tree.CalleeDecl.{CalleeDecl}
use Rattle.cmeaning.specs.Do.{same_name}
use Rattle.cmeaning.specs.Valid.{same_callee_name, are_apart, is_apart_from, is_callee, are_callees}
use Rattle.cmeaning.specs.Places.{place, has_address, has_name, is_text}
use Rattle.cmeaning.specs.Firsts.{is_place, is_first_name, is_first, are_firsts}

-- none passes
abbrev none_of : {A : Type 0} → (A → Bool) → List A → Bool
none_of test [] = true
none_of test (x ∷ xs) = not (test x) && none_of test xs

next_place : (n : ℕ) (o : Option ℕ) → is_place (suc n) (option_map suc o) ≡ is_place n o
next_place n None = refl
next_place n (Some m) = grind (arith, nat_tests)

zero_not : (n : ℕ) → (0 == suc n) ≡ false
zero_not n = grind (arith, nat_tests)

first_is : {A : Type 0} (test : A → Bool) (front : List A) (x : A) (rest : List A)
    → test x ≡ true
    → is_place (length front) (place test (front ++ x ∷ rest)) ≡ none_of test front
first_is test [] x rest passes =
    ap (λ (t : Bool). is_place 0 (if t then Some 0 else option_map suc (place test rest))) passes
first_is test (y ∷ front) x rest passes = by_test (test y) (first_is test front x rest passes)
  where
    by_test : (t : Bool) → is_place (length front) (place test (front ++ x ∷ rest)) ≡ none_of test front
        → is_place (suc (length front)) (if t then Some 0 else option_map suc (place test (front ++ x ∷ rest)))
        ≡ not t && none_of test front
    by_test true next = zero_not (length front)
    by_test false next = next_place (length front) (place test (front ++ x ∷ rest)) ∙ next

same_text : (a b : List ℕ) → bytes_eq a b ≡ same_name a b
same_text [] [] = refl
same_text [] (d ∷ ds) = refl
same_text (c ∷ cs) [] = refl
same_text (c ∷ cs) (d ∷ ds) = ap (λ (t : Bool). c == d && t) (same_text cs ds)

-- the callees before are apart from one
abbrev are_before : List CalleeDecl → CalleeDecl → Bool
are_before [] c = true
are_before (d ∷ ds) c = are_apart d c && are_before ds c

both : (a b c d : Bool) → (not a && b) && (not c && d) ≡ (not a && not c) && (b && d)
both true b c d = refl
both false true true d = refl
both false true false d = refl
both false false true d = refl
both false false false d = refl

alone : (a b : Bool) → not a && b ≡ (not a && not false) && b
alone true b = refl
alone false b = refl

same_as : (name : List ℕ) (d : CName) → is_text name d ≡ same_callee_name d (Declared name)
same_as name (Declared text) = same_text text name
same_as name Bare = refl

never_bare : (d : CName) → false ≡ same_callee_name d Bare
never_bare (Declared text) = refl
never_bare Bare = refl

-- of a callee with a name, and of one without
named_before : (front : List CalleeDecl) (c : CalleeDecl) (name : List ℕ)
    → c.name ≡ Declared name
    → none_of (has_address c.address) front && none_of (has_name name) front ≡ are_before front c
named_before [] c name named = refl
named_before (d ∷ front) c name named =
    both (d.address == c.address) (none_of (has_address c.address) front) (is_text name d.name)
    (none_of (has_name name) front)
    ∙ ap₂ (λ (t u : Bool). (not (d.address == c.address) && not t) && u)
    (same_as name d.name ∙ ap (same_callee_name d.name) (sym named)) (named_before front c name named)

bare_before : (front : List CalleeDecl) (c : CalleeDecl)
    → c.name ≡ Bare
    → none_of (has_address c.address) front ≡ are_before front c
bare_before [] c bare = refl
bare_before (d ∷ front) c bare =
    alone (d.address == c.address) (none_of (has_address c.address) front)
    ∙ ap₂ (λ (t u : Bool). (not (d.address == c.address) && not t) && u)
    (never_bare d.name ∙ ap (same_callee_name d.name) (sym bare)) (bare_before front c bare)

and_true : (b : Bool) → b && true ≡ b
and_true true = refl
and_true false = refl

own_address : (a : ℕ) → (a == a) ≡ true
own_address a = grind (arith, nat_tests)

before_is : (front : List CalleeDecl) (c : CalleeDecl) (rest : List CalleeDecl)
    → is_first (length front) (front ++ c ∷ rest) c ≡ are_before front c
before_is front c rest = by_name c.name refl
  where
    address : is_place (length front) (place (has_address c.address) (front ++ c ∷ rest))
        ≡ none_of (has_address c.address) front
    address = first_is (has_address c.address) front c rest (own_address c.address)

    by_name : (n : CName)
        → c.name ≡ n
        → is_place (length front) (place (has_address c.address) (front ++ c ∷ rest))
        && is_first_name (length front) (front ++ c ∷ rest) n ≡ are_before front c
    by_name (Declared name) is =
        ap₂ (λ (t u : Bool). t && u) address
        (first_is (has_name name) front c rest (ap (is_text name) is ∙ (bytes_decides name name).1 refl))
        ∙ named_before front c name is
    by_name Bare is = and_true (is_place (length front) (place (has_address c.address) (front ++ c ∷ rest))) ∙ address
        ∙ bare_before front c is

-- ---- one after another

abbrev all_before : List CalleeDecl → List CalleeDecl → Bool
all_before front [] = true
all_before front (c ∷ cs) = are_before front c && all_before front cs

before_more : (front : List CalleeDecl) (c e : CalleeDecl)
    → are_before (front ++ c ∷ []) e ≡ are_before front e && are_apart c e
before_more [] c e = and_true (are_apart c e)
before_more (d ∷ front) c e = ap (λ (t : Bool). are_apart d e && t) (before_more front c e)
    ∙ grouped (are_apart d e) (are_before front e) (are_apart c e)
  where
    grouped : (a b t : Bool) → a && (b && t) ≡ (a && b) && t
    grouped true b t = refl
    grouped false b t = refl

all_more : (front : List CalleeDecl) (c : CalleeDecl) (cs : List CalleeDecl)
    → all_before (front ++ c ∷ []) cs ≡ all_before front cs && is_apart_from c cs
all_more front c [] = refl
all_more front c (e ∷ cs) = ap₂ (λ (t u : Bool). t && u) (before_more front c e) (all_more front c cs)
    ∙ crossed (are_before front e) (are_apart c e) (all_before front cs) (is_apart_from c cs)
  where
    crossed : (a b t u : Bool) → (a && b) && (t && u) ≡ (a && t) && (b && u)
    crossed true true t u = refl
    crossed true false true u = refl
    crossed true false false u = refl
    crossed false b t u = refl

moved : (a b d e f : Bool) → a && (b && ((d && e) && f)) ≡ (b && d) && (a && (e && f))
moved true true d e f = grouped d e f
  where
    grouped : (x y z : Bool) → (x && y) && z ≡ x && (y && z)
    grouped true y z = refl
    grouped false y z = refl
moved true false d e f = refl
moved false true true e f = refl
moved false true false e f = refl
moved false false d e f = refl

firsts_are : (front cs all : List CalleeDecl) (n : ℕ)
    → all ≡ front ++ cs
    → n ≡ length front
    → are_firsts all n cs ≡ all_before front cs && are_callees cs
firsts_are front [] all n is count = refl
firsts_are front (c ∷ cs) all n is count =
    ap₂ (λ (t u : Bool). is_callee c && (t && u))
    (ap₂ (λ (k : ℕ) (xs : List CalleeDecl). is_first k xs c) count is ∙ before_is front c cs)
    (firsts_are (front ++ c ∷ []) cs all (n + 1) (is ∙ sym (append_assoc front (c ∷ []) cs))
    (ap (λ (k : ℕ). k + 1) count ∙ sym (one_longer front))
    ∙ ap (λ (t : Bool). t && are_callees cs) (all_more front c cs))
    ∙ moved (is_callee c) (are_before front c) (all_before front cs) (is_apart_from c cs) (are_callees cs)
  where
    one_longer : (xs : List CalleeDecl) → length (xs ++ c ∷ []) ≡ length xs + 1
    one_longer [] = refl
    one_longer (x ∷ xs) = let more = one_longer xs in omega (arith, more)

all_none : (cs : List CalleeDecl) → all_before [] cs ≡ true
all_none [] = refl
all_none (c ∷ cs) = all_none cs

pub callees_by_firsts : (cs : List CalleeDecl) → are_firsts cs 0 cs ≡ are_callees cs
callees_by_firsts cs = firsts_are [] cs cs 0 refl refl ∙ ap (λ (t : Bool). t && are_callees cs) (all_none cs)
