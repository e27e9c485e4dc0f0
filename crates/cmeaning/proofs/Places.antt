-- The first places of callees, by tables.
use Rattle.std.proofs.Common.{◌≡◌, ℕ, suc, ◌<◌, ◌==◌, Bool, true, false, List, [], ◌∷◌, ◌++◌, length, refl, sym, ap, ap₂, ◌∙◌, subst, arith}
use Rattle.std.specs.declared.cmp.Ordering.{Ordering}
use Rattle.std.specs.Option.{option_map}
use Rattle.std.specs.Prelude.{Option, Some, None, is_some, cond, if◌then◌else◌, slice_get}
use Rattle.std.specs.Ordering.{nat_cmp, is_eq}
use Rattle.std.specs.Cmp.{unsigned_tied, eq_by_cmp_equiv}
use Rattle.std.specs.Cmp.Lexicographic.{slice_cmp, nat_list_cmp_total, bytes_decides}
use Rattle.std.specs.Str.{bytes_eq}
use Rattle.std.specs.Map.{lookup, IsKeyTest, AreApart, KeepsOthers}
use Rattle.std.specs.BTreeMap.{BTreeMap, get, get_by, Updates}
use Rattle.std.proofs.lemmas.Map.Text.{is_eq-slice_cmp}
use Rattle.std.proofs.lemmas.Bool.{eqb-true}
use Rattle.cmeaning.specs.declared.tree.CName.{CName}
use Rattle.cmeaning.specs.declared.tree.CName.TheVariants.{Declared, Bare}
use Rattle.cmeaning.specs.declared.tree.CalleeDecl.{CalleeDecl}
use Rattle.cmeaning.specs.Mentions.{place_of}
use Rattle.cmeaning.specs.Valid.{declared_in}
use Rattle.cmeaning.specs.Places.{place, first_of, has_address, has_name, is_text, HasAddresses, HasNames}

no_some : {n : ℕ} → Some n ≡ None → ⊥
no_some e = cc

no_none : {n : ℕ} → None ≡ Some n → ⊥
no_none e = cc

some_same : {m n : ℕ} → Some m ≡ Some n → m ≡ n
some_same e = cc

true_not : true ≡ false → ⊥
true_not e = cc

-- ---- what stands at a place

pub none_first : {A : Type 0} (test : A → Bool) (xs : List A) → place test xs ≡ None → None ≡ first_of test xs
none_first test [] e = refl
none_first {A} test (x ∷ xs) e = by_test (test x) e (place test xs) refl (none_first test xs)
  where
    by_test : (t : Bool)
        → (if t then Some 0 else option_map suc (place test xs)) ≡ None
        → (o : Option ℕ)
        → place test xs ≡ o
        → (place test xs ≡ None → None ≡ first_of test xs)
        → None ≡ (if t then Some x else first_of test xs)
    by_test true g o is next = absurd (no_some g)
    by_test false g None is next = next is
    by_test false g (Some n) is next = absurd (no_some (sym (ap (option_map suc) is) ∙ g))

pub some_first : {A : Type 0} (test : A → Bool) (m : ℕ) (xs : List A)
    → place test xs ≡ Some m
    → (m < length xs) × (slice_get xs m ≡ first_of test xs)
some_first test m [] e = absurd (no_none e)
some_first {A} test m (x ∷ xs) e = by_test (test x) e (place test xs) refl (λ n is. some_first test n xs is)
  where
    Good : Bool → ℕ → Type 0
    Good t n = (n < suc (length xs)) × (slice_get (x ∷ xs) n ≡ (if t then Some x else first_of test xs))

    by_test : (t : Bool)
        → (if t then Some 0 else option_map suc (place test xs)) ≡ Some m
        → (o : Option ℕ)
        → place test xs ≡ o
        → ((n : ℕ) → place test xs ≡ Some n → (n < length xs) × (slice_get xs n ≡ first_of test xs))
        → Good t m
    by_test true g o is next = subst (Good true) (some_same g) (omega arith, refl)
    by_test false g None is next = absurd (no_none (sym (ap (option_map suc) is) ∙ g))
    by_test false g (Some n) is next =
        let found = next n is in
        let within : n < length xs = found.0 in
        subst (Good false) (some_same (sym (ap (option_map suc) is) ∙ g)) (omega (arith, within), found.1)

-- a place, or the end
abbrev or_end : Option ℕ → ℕ → ℕ
or_end (Some n) end = n
or_end None end = end

suc_end : (o : Option ℕ) (n : ℕ) → or_end (option_map suc o) (suc n) ≡ suc (or_end o n)
suc_end None n = refl
suc_end (Some m) n = refl

place_is : (cs : List CalleeDecl) (a : ℕ) → place_of cs a ≡ or_end (place (has_address a) cs) (length cs)
place_is [] a = refl
place_is (c ∷ cs) a = by_test (c.address == a) (place_is cs a)
  where
    by_test : (t : Bool)
        → place_of cs a ≡ or_end (place (has_address a) cs) (length cs)
        → (if t then 0 else suc (place_of cs a))
        ≡ or_end (if t then Some 0 else option_map suc (place (has_address a) cs)) (suc (length cs))
    by_test true next = refl
    by_test false next = ap suc next ∙ sym (suc_end (place (has_address a) cs) (length cs))

pub place_none : (cs : List CalleeDecl) (a : ℕ) → place (has_address a) cs ≡ None → length cs ≡ place_of cs a
place_none cs a e = ap (λ (o : Option ℕ). or_end o (length cs)) (sym e) ∙ sym (place_is cs a)

pub place_some : (cs : List CalleeDecl) (a m : ℕ) → place (has_address a) cs ≡ Some m → m ≡ place_of cs a
place_some cs a m e = ap (λ (o : Option ℕ). or_end o (length cs)) (sym e) ∙ sym (place_is cs a)

-- ---- one more

abbrev or_new : Option ℕ → Bool → ℕ → Option ℕ
or_new (Some m) t n = Some m
or_new None t n = if t then Some n else None

suc_new : (o : Option ℕ) (t : Bool) (n : ℕ) → option_map suc (or_new o t n) ≡ or_new (option_map suc o) t (suc n)
suc_new (Some m) t n = refl
suc_new None true n = refl
suc_new None false n = refl

place_more : {A : Type 0} (test : A → Bool) (xs : List A) (x : A)
    → place test (xs ++ x ∷ []) ≡ or_new (place test xs) (test x) (length xs)
place_more test [] x = refl
place_more test (y ∷ ys) x = by_test (test y) (place_more test ys x)
  where
    by_test : (t : Bool)
        → place test (ys ++ x ∷ []) ≡ or_new (place test ys) (test x) (length ys)
        → (if t then Some 0 else option_map suc (place test (ys ++ x ∷ [])))
        ≡ or_new (if t then Some 0 else option_map suc (place test ys)) (test x) (suc (length ys))
    by_test true next = refl
    by_test false next = ap (option_map suc) next ∙ suc_new (place test ys) (test x) (length ys)

-- a table by any queries, of which some hit the new thing
module _ {A Q : Type 0} (test : Q → A → Bool) (xs : List A) (x : A) (old : Q → Option ℕ)
    (table : (q : Q) → old q ≡ place (test q) xs) where
  pub put : (new : Q → Option ℕ)
      → ((q : Q) → new q ≡ cond (test q x) (Some (length xs)) (old q))
      → ((q : Q) → test q x ≡ true → old q ≡ None)
      → (q : Q)
      → new q ≡ place (test q) (xs ++ x ∷ [])
  put new update absent q = update q ∙ by_test (test q x) refl (old q) refl ∙ sym (place_more (test q) xs x)
    where
      by_test : (t : Bool)
          → test q x ≡ t
          → (o : Option ℕ)
          → old q ≡ o
          → cond t (Some (length xs)) (old q) ≡ or_new (place (test q) xs) t (length xs)
      by_test true hit o is = ap (λ (p : Option ℕ). or_new p true (length xs)) (sym (absent q hit) ∙ table q)
      by_test false miss None is = is ∙ ap (λ (p : Option ℕ). or_new p false (length xs)) (sym is ∙ table q)
      by_test false miss (Some n) is = is ∙ ap (λ (p : Option ℕ). or_new p false (length xs)) (sym is ∙ table q)

  pub kept : ((q : Q) → test q x ≡ true → old q ≡ None → ⊥) → (q : Q) → old q ≡ place (test q) (xs ++ x ∷ [])
  kept present q = by_test (test q x) refl (old q) refl ∙ sym (place_more (test q) xs x)
    where
      by_test : (t : Bool)
          → test q x ≡ t
          → (o : Option ℕ)
          → old q ≡ o
          → old q ≡ or_new (place (test q) xs) t (length xs)
      by_test true hit None is = absurd (present q hit is)
      by_test true hit (Some n) is = is ∙ ap (λ (p : Option ℕ). or_new p true (length xs)) (sym is ∙ table q)
      by_test false miss None is = is ∙ ap (λ (p : Option ℕ). or_new p false (length xs)) (sym is ∙ table q)
      by_test false miss (Some n) is = is ∙ ap (λ (p : Option ℕ). or_new p false (length xs)) (sym is ∙ table q)

-- ---- addresses

pub known_there : (o : Option ℕ) (t : Bool) → t ≡ is_some o → t ≡ true → o ≡ None → ⊥
known_there o t is known none = cc

pub nothing_there : (o : Option ℕ) (t : Bool) → t ≡ is_some o → t ≡ false → o ≡ None
nothing_there None t is unknown = refl
nothing_there (Some n) t is unknown = absurd (true_not (sym is ∙ unknown))

pub address_put : (cs : List CalleeDecl) (c : CalleeDecl) (m n : BTreeMap ℕ ℕ) (address end : ℕ)
    → c.address ≡ address
    → end ≡ length cs
    → HasAddresses cs m
    → get nat_cmp m address ≡ None
    → Updates nat_cmp m n address (Some end)
    → HasAddresses (cs ++ c ∷ []) n
address_put cs c m n address end same last table absent updates =
    put has_address cs c (get nat_cmp m) table (get nat_cmp n)
    (λ a. updates.0 a ∙ ap₂ (λ (b : Bool) (k : ℕ). cond b (Some k) (get nat_cmp m a))
    (unsigned_tied address a ∙ ap (λ (k : ℕ). k == a) (sym same)) last)
    (λ a hit. ap (get nat_cmp m) (sym (eqb-true c.address a hit) ∙ same) ∙ absent)

pub address_kept : (cs : List CalleeDecl) (c : CalleeDecl) (m : BTreeMap ℕ ℕ) (address : ℕ)
    → c.address ≡ address
    → HasAddresses cs m
    → (get nat_cmp m address ≡ None → ⊥)
    → HasAddresses (cs ++ c ∷ []) m
address_kept cs c m address same table present =
    kept has_address cs c (get nat_cmp m) table
    (λ a hit none. present (ap (get nat_cmp m) (sym same ∙ eqb-true c.address a hit) ∙ none))

-- ---- names

module _ {K : Type 0} (text : K → List ℕ) where
  abbrev pub at : BTreeMap K ℕ → List ℕ → Option ℕ
  at m name = get_by (λ k. slice_cmp nat_cmp name (text k)) m

  abbrev pub by_text : K → K → Ordering
  by_text j k = slice_cmp nat_cmp (text j) (text k)

  others : {eq : K → K → Bool} {test : K → Bool} (old new : List (K × ℕ))
      → KeepsOthers eq test old new
      → (other : K → Bool)
      → IsKeyTest eq other
      → AreApart test other
      → lookup other new ≡ lookup other old
  unfolding KeepsOthers
  others old new h = h

  elsewhere : (bs cs ks : List ℕ)
      → bytes_eq bs cs ≡ false
      → is_eq (slice_cmp nat_cmp bs ks) ≡ true
      → is_eq (slice_cmp nat_cmp cs ks) ≡ false
  elsewhere bs cs ks apart here = by_test (is_eq (slice_cmp nat_cmp cs ks)) refl
    where
      by_test : (t : Bool) → is_eq (slice_cmp nat_cmp cs ks) ≡ t → is_eq (slice_cmp nat_cmp cs ks) ≡ false
      by_test false is = is
      by_test true is =
          let first : bs ≡ ks = (bytes_decides bs ks).0 (sym (is_eq-slice_cmp bs ks) ∙ here) in
          let second : cs ≡ ks = (bytes_decides cs ks).0 (sym (is_eq-slice_cmp cs ks) ∙ is) in
          absurd (true_not (sym ((bytes_decides bs cs).1 (first ∙ sym second)) ∙ apart))

  updated : (m n : BTreeMap K ℕ) (key : K) (w : Option ℕ)
      → Updates by_text m n key w
      → (name : List ℕ)
      → at n name ≡ cond (bytes_eq (text key) name) w (at m name)
  updated m n key w updates name = by_test (bytes_eq (text key) name) refl
    where
      by_test : (t : Bool) → bytes_eq (text key) name ≡ t → at n name ≡ cond t w (at m name)
      by_test true is = ap (at n) (sym ((bytes_decides (text key) name).0 is)) ∙ updates.1
      by_test false is =
          others m.entries n.entries updates.3 (λ k. is_eq (slice_cmp nat_cmp name (text k)))
          (λ x y. (eq_by_cmp_equiv nat_list_cmp_total).congr name (text x) (text y))
          (λ k. elsewhere (text key) name (text k) is)

  pub name_put : (cs : List CalleeDecl) (c : CalleeDecl) (m n : BTreeMap K ℕ) (key : K) (known : List ℕ) (end : ℕ)
      → c.name ≡ Declared known
      → text key ≡ known
      → end ≡ length cs
      → HasNames text cs m
      → at m known ≡ None
      → Updates by_text m n key (Some end)
      → HasNames text (cs ++ c ∷ []) n
  name_put cs c m n key known end named copied last table absent updates =
      put has_name cs c (at m) table (at n)
      (λ name. updated m n key (Some end) updates name
      ∙ ap₂ (λ (d : CName) (k : ℕ). cond (is_text name d) (Some k) (at m name)) (ap Declared copied ∙ sym named)
      last)
      (λ name hit. ap (at m) (sym ((bytes_decides known name).0 (ap (is_text name) (sym named) ∙ hit))) ∙ absent)

  pub name_kept : (cs : List CalleeDecl) (c : CalleeDecl) (m : BTreeMap K ℕ) (known : List ℕ)
      → c.name ≡ Declared known
      → HasNames text cs m
      → (at m known ≡ None → ⊥)
      → HasNames text (cs ++ c ∷ []) m
  name_kept cs c m known named table present =
      kept has_name cs c (at m) table
      (λ name hit none. present (ap (at m) ((bytes_decides known name).0 (ap (is_text name) (sym named) ∙ hit))
      ∙ none))

  pub no_name : (cs : List CalleeDecl) (c : CalleeDecl) (m : BTreeMap K ℕ)
      → c.name ≡ Bare
      → HasNames text cs m
      → HasNames text (cs ++ c ∷ []) m
  no_name cs c m bare table = kept has_name cs c (at m) table
      (λ name hit none. true_not (sym hit ∙ ap (is_text name) bare))
