-- The declarations of the callees of a code: each address that the code calls has the listing's, and they are
-- declarations as a function has them.
use Rattle.std.proofs.Common.{◌≡◌, ℕ, ◌<◌, ◌^◌, ◌&&◌, ◌==◌, not, Bool, true, false, cond, List, [], ◌∷◌, ◌++◌, map, refl, sym, ap, ap₂, ◌∙◌, subst, Option, Some, None, arith, inl, inr}
use Rattle.std.proofs.lemmas.Bool.{and_from, and_parts, eqb-true}
use Rattle.std.proofs.lemmas.Option.{none-some}
use Rattle.std.proofs.lemmas.Bool.Decides.{nat_tests}
use Rattle.pcode_model.specs.declared.listing.Function.{Function}
use Rattle.pcode_model.specs.declared.listing.Listing.{Listing}
use Rattle.pcode_model.specs.declared.listing.Varnode.{Varnode}
use Rattle.pcode_model.specs.Flow.{IsIn}
use Rattle.pcode_model.specs.Spaces.{or}
use Rattle.pcode_model.specs.Step.{callee_at, callee_in as find_callee, proto_of, returns}
use Rattle.pcode_model.specs.WellFormed.{AreApartByName, AreDistinct, AreNamed, IsNamedFunction}
use Rattle.pcode_model.proofs.Members.{of_member}
use Rattle.pcode_laws.proofs.Rules.{neither}
use Rattle.cmeaning.specs.declared.tree.CalleeDecl.{CalleeDecl}
use Rattle.cmeaning.specs.declared.tree.Arm.{Arm}
use Rattle.cmeaning.specs.declared.tree.Expr.{Expr}
use Rattle.cmeaning.specs.declared.tree.Stmt.{Stmt, out-roll-Stmt, roll-Stmt}
use Rattle.cmeaning.specs.declared.tree.Stmt.TheOpen.{Stmt-F}
use Rattle.cmeaning.specs.declared.tree.Stmt.TheVariants as S
use Rattle.cmeaning.specs.Callees.{declared_in, does_return, returns_by}
use Rattle.cmeaning.specs.Do.{callee_in, callee_of, same_name}
use Rattle.cmeaning.specs.Valid.{are_apart, are_callees, is_apart_from, is_callee, is_callee_name, is_long, result_fits, same_callee_name}
use Rattle.naming.specs.Listed.{is_listed}
use Rattle.naming_laws.proofs.Found as Found
use Rattle.naming_laws.proofs.Found.{All, all_one, distinct_one}
use Rattle.naming_laws.proofs.Numbers.{in_one}
use Rattle.naming_laws.proofs.Places.{GoesOn, goes_one, goes_same, goes_trans}
use Rattle.blockcode.specs.declared.code.Block.{Block}
use Rattle.blockcode.specs.declared.code.Code.{Code}
use Rattle.layout.specs.Callees.{called_by, called_in, callee_decl, callees_of, gives_by, name_by, with_called}

-- ---- what holds of each address that is called

-- by statements
abbrev pub EachCalled : (ℕ → Type 0) → List Stmt → Type 0
EachCalled P [] = Unit {0}
EachCalled P (s ∷ ss) = ((a : ℕ) → callee_of s ≡ Some a → P a) × EachCalled P ss

-- by the statements of blocks
abbrev pub AllCalled : (ℕ → Type 0) → List Block → Type 0
AllCalled P [] = Unit {0}
AllCalled P (b ∷ bs) = EachCalled P b.body × AllCalled P bs

module _ (P : ℕ → Type 0) where
  -- What holds of two lists of statements holds of both behind each other, and the other way round.
  pub called_append : (xs ys : List Stmt) → EachCalled P xs → EachCalled P ys → EachCalled P (xs ++ ys)
  called_append [] ys h g = g
  called_append (x ∷ xs) ys h g = (h.0, called_append xs ys h.1 g)

  pub called_front : (xs ys : List Stmt) → EachCalled P (xs ++ ys) → EachCalled P xs
  called_front [] ys h = tt
  called_front (x ∷ xs) ys h = (h.0, called_front xs ys h.1)

  pub called_back : (xs ys : List Stmt) → EachCalled P (xs ++ ys) → EachCalled P ys
  called_back [] ys h = h
  called_back (x ∷ xs) ys h = called_back xs ys h.1

-- The address that a statement calls, by its layer.
pub callee_layer : (s : Stmt) (y : Stmt-F Stmt Arm) → roll-Stmt y ≡ s → callee_of s ≡ callee_in y
callee_layer s y is = ap callee_of (sym is) ∙ ap callee_in (out-roll-Stmt y)

-- A call by an address calls it.
pub callee_of_call : (v : Option ℕ) (a : ℕ) (args : List Expr) → callee_of (S.Call v a args) ≡ Some a
callee_of_call v a args = callee_layer (S.Call v a args) (Stmt-F.Call v a args) (S.rolls-Call v a args)

-- A statement that calls no address has no part in what holds of those that are called.
pub calls_none : (P : ℕ → Type 0) (s : Stmt) → callee_of s ≡ None → (a : ℕ) → callee_of s ≡ Some a → P a
calls_none P s none a is = absurd (none-some a (sym none ∙ is))

-- Of one that calls an address it is enough that it holds of that one.
pub calls_one : (P : ℕ → Type 0) (s : Stmt) (b : ℕ) → callee_of s ≡ Some b → P b → (a : ℕ) → callee_of s ≡ Some a → P a
calls_one P s b one h a is = let same : b ≡ a = some_same b a (sym one ∙ is) in subst P same h
  where
    some_same : (x y : ℕ) → Some x ≡ Some y → x ≡ y
    some_same x y e = cc

module _ (P Q : ℕ → Type 0) (leads : (a : ℕ) → P a → Q a) where
  each_map : (ss : List Stmt) → EachCalled P ss → EachCalled Q ss
  each_map [] h = tt
  each_map (s ∷ ss) h = (λ a is. leads a (h.0 a is), each_map ss h.1)

  -- What holds of each address that blocks call, by what leads from the one to the other.
  pub called_map : (bs : List Block) → AllCalled P bs → AllCalled Q bs
  called_map [] h = tt
  called_map (b ∷ bs) h = (each_map b.body h.0, called_map bs h.1)

-- ---- each address that is called is listed, and once

goes_called : (known : List ℕ) (o : Option ℕ) → GoesOn known (with_called known o)
goes_called known None = goes_same known
goes_called known (Some a) = goes_one known a

goes_by : (known : List ℕ) (ss : List Stmt) → GoesOn known (called_by known ss)
goes_by known [] = goes_same known
goes_by known (s ∷ ss) =
    let more = with_called known (callee_of s) in
    goes_trans known more (called_by more ss) (goes_called known (callee_of s)) (goes_by more ss)

goes_in : (known : List ℕ) (bs : List Block) → GoesOn known (called_in known bs)
goes_in known [] = goes_same known
goes_in known (b ∷ bs) =
    let more = called_by known b.body in
    goes_trans known more (called_in more bs) (goes_by known b.body) (goes_in more bs)

abbrev IsListed : List ℕ → ℕ → Type 0
IsListed xs a = is_listed a xs ≡ true

one_listed : (known all : List ℕ) (o : Option ℕ) (a : ℕ)
    → GoesOn (with_called known o) all
    → o ≡ Some a
    → IsListed all a
one_listed known all o a goes is =
    in_one known all a (subst (λ (x : Option ℕ). GoesOn (with_called known x) all) is goes)

each_listed : (known all : List ℕ) (ss : List Stmt)
    → GoesOn (called_by known ss) all
    → EachCalled (IsListed all) ss
each_listed known all [] goes = tt
each_listed known all (s ∷ ss) goes =
    let more = with_called known (callee_of s) in (
      λ a is. one_listed known all (callee_of s) a
          (goes_trans more (called_by more ss) all (goes_by more ss) goes) is,
      each_listed more all ss goes,
    )

all_listed : (known all : List ℕ) (bs : List Block)
    → GoesOn (called_in known bs) all
    → AllCalled (IsListed all) bs
all_listed known all [] goes = tt
all_listed known all (b ∷ bs) goes =
    let more = called_by known b.body in (
      each_listed known all b.body (goes_trans more (called_in more bs) all (goes_in more bs) goes),
      all_listed more all bs goes,
    )

once_called : (known : List ℕ) (o : Option ℕ) → Found.AreDistinct known → Found.AreDistinct (with_called known o)
once_called known None h = h
once_called known (Some a) h = distinct_one known a h

once_by : (known : List ℕ) (ss : List Stmt) → Found.AreDistinct known → Found.AreDistinct (called_by known ss)
once_by known [] h = h
once_by known (s ∷ ss) h =
    once_by (with_called known (callee_of s)) ss (once_called known (callee_of s) h)

once_in : (known : List ℕ) (bs : List Block) → Found.AreDistinct known → Found.AreDistinct (called_in known bs)
once_in known [] h = h
once_in known (b ∷ bs) h = once_in (called_by known b.body) bs (once_by known b.body h)

-- ---- and only these are

module _ (P : ℕ → Type 0) where
  only_called : (known : List ℕ) (o : Option ℕ)
      → All P known
      → ((a : ℕ) → o ≡ Some a → P a)
      → All P (with_called known o)
  only_called known None h each = h
  only_called known (Some a) h each = all_one P known a h (each a refl)

  only_by : (known : List ℕ) (ss : List Stmt) → All P known → EachCalled P ss → All P (called_by known ss)
  only_by known [] h each = h
  only_by known (s ∷ ss) h each =
      only_by (with_called known (callee_of s)) ss (only_called known (callee_of s) h each.0) each.1

  only_in : (known : List ℕ) (bs : List Block) → All P known → AllCalled P bs → All P (called_in known bs)
  only_in known [] h each = h
  only_in known (b ∷ bs) h each = only_in (called_by known b.body) bs (only_by known b.body h each.0) each.1

-- ---- what is declared

module _ (l : Listing) where
  -- the declaration of an address that is listed
  found : (ns : List ℕ) (a : ℕ) → IsListed ns a → declared_in (map (callee_decl l) ns) a ≡ Some (callee_decl l a)
  found [] a h = absurd (cc)
  found (n ∷ ns) a h = by (n == a) refl h (found ns a) where
    by : (t : Bool)
        → (n == a) ≡ t
        → or t (is_listed a ns) ≡ true
        → (IsListed ns a → declared_in (map (callee_decl l) ns) a ≡ Some (callee_decl l a))
        → cond t (Some (callee_decl l n)) (declared_in (map (callee_decl l) ns) a) ≡ Some (callee_decl l a)
    by true same g next = ap (λ b. Some (callee_decl l b)) (eqb-true n a same)
    by false other g next = next g

  -- by these declarations the callee at an address is the listing's
  abbrev pub IsDeclared : List CalleeDecl → ℕ → Type 0
  IsDeclared cs a = declared_in cs a ≡ Some (callee_decl l a)

  -- Each address that a code calls has the listing's declaration.
  pub all_declared : (k : Code) → AllCalled (IsDeclared (callees_of l k)) k.blocks
  all_declared k =
      let ns = called_in [] k.blocks in
      called_map (IsListed ns) (IsDeclared (callees_of l k)) (found ns) k.blocks
      (all_listed [] ns k.blocks (goes_same ns))

  -- It is declared to return where the listing's callee returns.
  pub declared_returns : (cs : List CalleeDecl) (a : ℕ) → IsDeclared cs a → returns_by cs a ≡ returns (callee_at l a)
  declared_returns cs a is = ap does_return is

-- ---- they are declarations as a function has them

callee_is : (fs : List Function) (a : ℕ) (f : Function)
    → find_callee fs a ≡ Some f
    → IsIn f fs × (f.address ≡ a)
callee_is [] a f is = absurd (cc)
callee_is (g ∷ fs) a f is = by (g.address == a) refl is (callee_is fs a f) where
  by : (t : Bool)
      → (g.address == a) ≡ t
      → cond t (Some g) (find_callee fs a) ≡ Some f
      → (find_callee fs a ≡ Some f → IsIn f fs × (f.address ≡ a))
      → IsIn f (g ∷ fs) × (f.address ≡ a)
  by true same h next =
      let is_g : g ≡ f = cc in
      (inl (sym is_g), ap (λ (x : Function). x.address) (sym is_g) ∙ eqb-true g.address a same)
  by false other h next = let r = next h in (inr r.0, r.1)

-- two that have one name are one
one_named : (fs : List Function) (f g : Function)
    → AreDistinct (λ (x : Function). x.name) fs
    → IsIn f fs
    → IsIn g fs
    → f.name ≡ g.name
    → f ≡ g
one_named [] f g apart is_f is_g same = absurd is_f
one_named (x ∷ fs) f g apart (inl e) (inl d) same = e ∙ sym d
one_named (x ∷ fs) f g apart (inl e) (inr d) same =
    let is : x.name ≡ g.name = ap (λ (y : Function). y.name) (sym e) ∙ same in
    absurd (of_member (λ (y : Function). x.name ≡ y.name → ⊥) g fs apart.0 d is)
one_named (x ∷ fs) f g apart (inr e) (inl d) same =
    let is : x.name ≡ f.name = ap (λ (y : Function). y.name) (sym d) ∙ sym same in
    absurd (of_member (λ (y : Function). x.name ≡ y.name → ⊥) f fs apart.0 e is)
one_named (x ∷ fs) f g apart (inr e) (inr d) same = one_named fs f g apart.1 e d same

same_is : (xs ys : List ℕ) → same_name xs ys ≡ true → xs ≡ ys
same_is [] [] h = refl
same_is [] (y ∷ ys) h = absurd (cc)
same_is (x ∷ xs) [] h = absurd (cc)
same_is (x ∷ xs) (y ∷ ys) h =
    let parts = and_parts (x == y) (same_name xs ys) h in
    ap₂ (λ (b : ℕ) (bs : List ℕ). b ∷ bs) (eqb-true x y parts.0) (same_is xs ys parts.1)

module _ (l : Listing) (named : AreNamed l) (distinct : AreApartByName l) where
  named_by : (a : ℕ) (o : Option Function) → callee_at l a ≡ o → is_callee_name (name_by o) ≡ true
  named_by a None is = refl
  named_by a (Some f) is = of_member IsNamedFunction f l.callees named.callees (callee_is l.callees a f is).0

  result_by : (t : Bool) (gives : Option Varnode) → result_fits t (gives_by t gives) ≡ true
  result_by true gives = refl
  result_by false gives = refl

  one_right : (a : ℕ) → a < 2 ^ 64 → is_callee (callee_decl l a) ≡ true
  one_right a low =
      let f = callee_at l a in
      let name = is_callee_name (name_by f) in
      let result = result_fits (returns f) (gives_by (returns f) (proto_of l f).gives) in
      and_from (is_long a) (name && result) (grind (arith, nat_tests))
      (and_from name result (named_by a f refl) (result_by (returns f) (proto_of l f).gives))

  -- callees at two addresses have two names
  apart_by : (a b : ℕ) (o p : Option Function)
      → (a ≡ b → ⊥)
      → callee_at l a ≡ o
      → callee_at l b ≡ p
      → not (same_callee_name (name_by o) (name_by p)) ≡ true
  apart_by a b None None other is_f is_g = refl
  apart_by a b None (Some g) other is_f is_g = refl
  apart_by a b (Some f) None other is_f is_g = refl
  apart_by a b (Some f) (Some g) other is_f is_g = by (same_name f.name g.name) refl where
    by : (t : Bool) → same_name f.name g.name ≡ t → not t ≡ true
    by false e = refl
    by true e =
        let at_a = callee_is l.callees a f is_f in
        let at_b = callee_is l.callees b g is_g in
        let one = one_named l.callees f g distinct.functions.1 at_a.0 at_b.0 (same_is f.name g.name e) in
        absurd (other (sym at_a.1 ∙ ap (λ (x : Function). x.address) one ∙ at_b.1))

  two_apart : (a b : ℕ) → (b == a) ≡ false → are_apart (callee_decl l a) (callee_decl l b) ≡ true
  two_apart a b other =
      let differ : (a ≡ b → ⊥) = λ e. let t : (b == a) ≡ true = grind (arith, nat_tests) in absurd (cc) in
      and_from (not (a == b)) (not (same_callee_name (name_by (callee_at l a)) (name_by (callee_at l b))))
      (grind (arith, nat_tests)) (apart_by a b (callee_at l a) (callee_at l b) differ refl refl)

  apart_all : (a : ℕ) (ns : List ℕ)
      → is_listed a ns ≡ false
      → is_apart_from (callee_decl l a) (map (callee_decl l) ns) ≡ true
  apart_all a [] new = refl
  apart_all a (n ∷ ns) new =
      let parts = neither (n == a) (is_listed a ns) new in
      let rest = is_apart_from (callee_decl l a) (map (callee_decl l) ns) in
      and_from (are_apart (callee_decl l a) (callee_decl l n)) rest (two_apart a n parts.0) (apart_all a ns parts.1)

  all_right : (ns : List ℕ)
      → Found.AreDistinct ns
      → All (λ a. a < 2 ^ 64) ns
      → are_callees (map (callee_decl l) ns) ≡ true
  all_right [] once low = refl
  all_right (n ∷ ns) once low =
      let cs = map (callee_decl l) ns in
      and_from (is_callee (callee_decl l n)) (is_apart_from (callee_decl l n) cs && are_callees cs) (one_right n low.0)
      (and_from (is_apart_from (callee_decl l n) cs) (are_callees cs) (apart_all n ns once.0)
      (all_right ns once.1 low.1))

  -- The callees of a code whose addresses are numbers of 64 bits, where the listing's names have their form and differ.
  pub callees_right : (k : Code)
      → AllCalled (λ a. a < 2 ^ 64) k.blocks
      → are_callees (callees_of l k) ≡ true
  callees_right k low =
      all_right (called_in [] k.blocks) (once_in [] k.blocks tt) (only_in (λ a. a < 2 ^ 64) [] k.blocks tt low)
