-- Parameters that may come one after another are those in order.
use Rattle.std.proofs.Common.{◌≡◌, ℕ, ◌+◌, ◌<◌, ◌≤◌, ◌&&◌, nat_lt, not, Bool, true, false, IsTrue, List, [], ◌∷◌, ◌++◌, length, drop, refl, sym, ap, ap₂, ◌∙◌, subst, arith}
use Rattle.std.specs.Prelude.{ℤ, pos, negsuc, cond, if◌then◌else◌, Option, Some, None, is_some}
use Rattle.std.specs.Int.Signed.{lt_z}
use Rattle.std.specs.declared.cmp.Ordering.TheVariants.{Less, Equal, Greater}
use Rattle.std.specs.Ordering.{is_eq}
use Rattle.std.specs.BTreeSet.{BTreeSet, contains, Updates}
use Rattle.std.proofs.Math.ListN.{get_or}
use Rattle.std.proofs.lemmas.Bool.Decides.{nat_tests}
use Rattle.std.proofs.lemmas.List.{at_drop_more, at_drop_all}
use Rattle.pcode_model.specs.declared.storage.ParamStorage.{ParamStorage}
use Rattle.pcode_model.specs.declared.storage.ParamStorage.TheVariants.{Register, Unique, Stack}
use Rattle.pcode_model.specs.Spaces.{or}
use Rattle.cmeaning.specs.declared.tree.Param.{Param}
use Rattle.cmeaning.specs.Valid.{is_storage, is_before, is_either_before, precedes_all, are_params}
use Rattle.cmeaning.specs.Entries.{key_of, key_cmp}
use Rattle.cmeaning.specs.Order.{has_key, HoldsKeys, comes_before, is_nothing, may_come, next_last, next_known, may_all_come}

-- ---- storages

one_below : (s t : Bool) → or s t ≡ not (is_eq (cond s Less (cond t Greater Equal)))
one_below true t = refl
one_below false true = refl
one_below false false = refl

-- two storages are in some order where their keys differ
either_is : (a b : ParamStorage) → is_either_before a b ≡ not (is_eq (key_cmp (key_of a) (key_of b)))
either_is (Register a) (Register b) = one_below (nat_lt a b) (nat_lt b a)
either_is (Register a) (Unique b) = refl
either_is (Register a) (Stack b) = refl
either_is (Unique a) (Register b) = refl
either_is (Unique a) (Unique b) = one_below (nat_lt a b) (nat_lt b a)
either_is (Unique a) (Stack b) = refl
either_is (Stack a) (Register b) = refl
either_is (Stack a) (Unique b) = refl
either_is (Stack a) (Stack b) = one_below (lt_z a b) (lt_z b a)

below_chain : (a b c : ℕ) → nat_lt a b ≡ true → nat_lt b c ≡ true → nat_lt a c ≡ true
below_chain a b c p q = grind (arith, nat_tests, p, q)

below_chain_z : (a b c : ℤ) → lt_z a b ≡ true → lt_z b c ≡ true → lt_z a c ≡ true
below_chain_z (pos a) (pos b) (pos c) p q = below_chain a b c p q
below_chain_z (pos a) (pos b) (negsuc c) p q = absurd cc
below_chain_z (pos a) (negsuc b) c p q = absurd cc
below_chain_z (negsuc a) (pos b) (pos c) p q = refl
below_chain_z (negsuc a) (pos b) (negsuc c) p q = absurd cc
below_chain_z (negsuc a) (negsuc b) (pos c) p q = refl
below_chain_z (negsuc a) (negsuc b) (negsuc c) p q = below_chain c b a q p

pub before_chain : (a b c : ParamStorage) → is_before a b ≡ true → is_before b c ≡ true → is_before a c ≡ true
before_chain (Register a) (Register b) (Register c) p q = below_chain a b c p q
before_chain (Register a) (Register b) (Unique c) p q = refl
before_chain (Register a) (Register b) (Stack c) p q = refl
before_chain (Register a) (Unique b) (Register c) p q = absurd cc
before_chain (Register a) (Unique b) (Unique c) p q = refl
before_chain (Register a) (Unique b) (Stack c) p q = refl
before_chain (Register a) (Stack b) (Register c) p q = absurd cc
before_chain (Register a) (Stack b) (Unique c) p q = refl
before_chain (Register a) (Stack b) (Stack c) p q = refl
before_chain (Unique a) (Register b) c p q = absurd cc
before_chain (Unique a) (Unique b) (Register c) p q = absurd cc
before_chain (Unique a) (Unique b) (Unique c) p q = below_chain a b c p q
before_chain (Unique a) (Unique b) (Stack c) p q = refl
before_chain (Unique a) (Stack b) (Register c) p q = absurd cc
before_chain (Unique a) (Stack b) (Unique c) p q = absurd cc
before_chain (Unique a) (Stack b) (Stack c) p q = refl
before_chain (Stack a) (Register b) c p q = absurd cc
before_chain (Stack a) (Unique b) c p q = absurd cc
before_chain (Stack a) (Stack b) (Register c) p q = absurd cc
before_chain (Stack a) (Stack b) (Unique c) p q = absurd cc
before_chain (Stack a) (Stack b) (Stack c) p q = below_chain_z a b c p q

-- ---- what the pairs say

-- behind one that is no model parameter
abbrev behind : ParamStorage → List Param → Bool
behind s [] = true
behind s (q ∷ qs) = (not q.model && is_before s q.storage) && behind s qs

abbrev behind_last : Option ParamStorage → List Param → Bool
behind_last None qs = true
behind_last (Some s) qs = behind s qs

-- the model parameters have other keys
abbrev new_keys : List Param → List Param → Bool
new_keys known [] = true
new_keys known (q ∷ qs) = (if q.model then not (has_key (key_of q.storage) known) else true) && new_keys known qs

behind_is : (p : Param) (qs : List Param) → p.model ≡ false → precedes_all p qs ≡ behind p.storage qs
behind_is p [] other = refl
behind_is p (q ∷ qs) other =
    ap₂ (λ (t u : Bool). (if t then (if q.model then is_either_before p.storage q.storage else true)
    else (not q.model && is_before p.storage q.storage)) && u) other (behind_is p qs other)

has_more : (key : ℕ × ℤ) (known : List Param) (p : Param)
    → has_key key (known ++ p ∷ []) ≡ or (has_key key known) (is_eq (key_cmp (key_of p.storage) key))
has_more key [] p = or_false (is_eq (key_cmp (key_of p.storage) key))
  where
    or_false : (b : Bool) → or b false ≡ b
    or_false true = refl
    or_false false = refl
has_more key (q ∷ known) p = ap (or (is_eq (key_cmp (key_of q.storage) key))) (has_more key known p)
    ∙ grouped (is_eq (key_cmp (key_of q.storage) key)) (has_key key known) (is_eq (key_cmp (key_of p.storage) key))
  where
    grouped : (a b c : Bool) → or a (or b c) ≡ or (or a b) c
    grouped true b c = refl
    grouped false b c = refl

keys_more : (known : List Param) (p : Param) (qs : List Param)
    → p.model ≡ true
    → new_keys (known ++ p ∷ []) qs ≡ new_keys known qs && precedes_all p qs
keys_more known p [] model = refl
keys_more known p (q ∷ qs) model =
    ap₂ (λ (t u : Bool). (if q.model then not t else true) && u) (has_more (key_of q.storage) known p)
    (keys_more known p qs model)
    ∙ by_model q.model (has_key (key_of q.storage) known) (is_eq (key_cmp (key_of p.storage) (key_of q.storage)))
    (new_keys known qs) (precedes_all p qs)
    ∙ ap₂ (λ (t u : Bool). ((if q.model then not (has_key (key_of q.storage) known) else true) && new_keys known qs)
    && ((if t then (if q.model then u else true) else (not q.model && is_before p.storage q.storage))
    && precedes_all p qs))
    (sym model) (sym (either_is p.storage q.storage))
  where
    by_model : (m a b c d : Bool)
        → (if m then not (or a b) else true) && (c && d) ≡ ((if m then not a else true) && c)
        && ((if m then not b else true) && d)
    by_model false a b c d = refl
    by_model true true b c d = refl
    by_model true false true true d = refl
    by_model true false true false d = refl
    by_model true false false c d = refl

-- ---- both are the same

and_no : (b : Bool) → b && false ≡ false
and_no true = refl
and_no false = refl

never : true ≡ false → ⊥
never h = cc

-- behind one, and so behind those before it
chained : (s p : ParamStorage) (qs : List Param) → is_before s p ≡ true → behind p qs ≡ true → behind s qs ≡ true
chained s p [] first all = refl
chained s p (q ∷ qs) first all =
    let parts = split (not q.model && is_before p q.storage) (behind p qs) all in
    let here = split (not q.model) (is_before p q.storage) parts.0 in
    join (not q.model && is_before s q.storage) (behind s qs)
    (join (not q.model) (is_before s q.storage) here.0 (before_chain s p q.storage first here.1))
    (chained s p qs first parts.1)
  where
    split : (a b : Bool) → a && b ≡ true → (a ≡ true) × (b ≡ true)
    split true b h = (refl, h)
    split false b h = absurd (never (sym h))

    join : (a b : Bool) → a ≡ true → b ≡ true → a && b ≡ true
    join a b h k = rw (h, k) refl

over : (s p : ParamStorage) (qs : List Param)
    → is_before s p && behind p qs ≡ (is_before s p && behind s qs) && behind p qs
over s p qs = by_tests (is_before s p) refl (behind p qs) refl
  where
    by_tests : (t : Bool) → is_before s p ≡ t → (u : Bool) → behind p qs ≡ u → t && u ≡ (t && behind s qs) && u
    by_tests false a u b = refl
    by_tests true a false b = sym (and_no (behind s qs))
    by_tests true a true b = ap (λ (t : Bool). t && true) (sym (chained s p qs a b))

model_moved : (st n has keys pre rest : Bool)
    → (st && (n && not has)) && ((keys && pre) && rest) ≡ n && ((not has && keys) && (st && (pre && rest)))
model_moved true true true keys pre rest = refl
model_moved true true false true pre rest = refl
model_moved true true false false pre rest = refl
model_moved true false has keys pre rest = refl
model_moved false true true keys pre rest = refl
model_moved false true false true pre rest = refl
model_moved false true false false pre rest = refl
model_moved false false has keys pre rest = refl

none_moved : (st b k r : Bool) → (st && true) && (b && (k && r)) ≡ k && (st && (b && r))
none_moved true true k r = refl
none_moved true false true r = refl
none_moved true false false r = refl
none_moved false b true r = refl
none_moved false b false r = refl

some_moved : (st f b s k r : Bool)
    → f && b ≡ (f && s) && b
    → (st && f) && (b && (k && r)) ≡ (f && s) && (k && (st && (b && r)))
some_moved true false b s k r h = refl
some_moved false false b s k r h = refl
some_moved true true false true true r h = refl
some_moved true true false true false r h = refl
some_moved true true false false k r h = refl
some_moved false true b true true r h = refl
some_moved false true b true false r h = refl
some_moved false true b false k r h = refl
some_moved true true true true k r h = refl
some_moved true true true false k r h = absurd (never h)

-- what the loop says
abbrev Same : Option ParamStorage → List Param → List Param → Type 0
Same last known ps = may_all_come last known ps ≡ behind_last last ps && (new_keys known ps && are_params ps)

none_is : (known : List Param) (p : Param) (ps : List Param)
    → ((last : Option ParamStorage) (seen : List Param) → Same last seen ps)
    → Same None known (p ∷ ps)
none_is known p ps ih = by_model p.model refl
  where
    by_model : (m : Bool) → p.model ≡ m
        → (is_storage p.storage && (if m then not (has_key (key_of p.storage) known) else true))
        && may_all_come (if m then None else Some p.storage) (if m then known ++ p ∷ [] else known) ps
        ≡ ((if m then not (has_key (key_of p.storage) known) else true) && new_keys known ps)
        && (is_storage p.storage && (precedes_all p ps && are_params ps))
    by_model true is =
        ap (λ (t : Bool). (is_storage p.storage && not (has_key (key_of p.storage) known)) && t)
        (ih None (known ++ p ∷ []) ∙ ap (λ (t : Bool). t && are_params ps) (keys_more known p ps is))
        ∙ model_moved (is_storage p.storage) true (has_key (key_of p.storage) known) (new_keys known ps)
        (precedes_all p ps) (are_params ps)
    by_model false is =
        ap (λ (t : Bool). (is_storage p.storage && true) && t) (ih (Some p.storage) known)
        ∙ none_moved (is_storage p.storage) (behind p.storage ps) (new_keys known ps) (are_params ps)
        ∙ ap (λ (t : Bool). new_keys known ps && (is_storage p.storage && (t && are_params ps)))
        (sym (behind_is p ps is))

some_is : (s : ParamStorage) (known : List Param) (p : Param) (ps : List Param)
    → ((last : Option ParamStorage) (seen : List Param) → Same last seen ps)
    → Same (Some s) known (p ∷ ps)
some_is s known p ps ih = by_model p.model refl
  where
    by_model : (m : Bool) → p.model ≡ m
        → (is_storage p.storage && (if m then false else is_before s p.storage))
        && may_all_come (if m then Some s else Some p.storage) (if m then known ++ p ∷ [] else known) ps
        ≡ ((not m && is_before s p.storage) && behind s ps)
        && (((if m then not (has_key (key_of p.storage) known) else true) && new_keys known ps)
        && (is_storage p.storage && (precedes_all p ps && are_params ps)))
    by_model true is = ap (λ (t : Bool). t && may_all_come (Some s) (known ++ p ∷ []) ps)
        (and_no (is_storage p.storage))
    by_model false is =
        ap (λ (t : Bool). (is_storage p.storage && is_before s p.storage) && t) (ih (Some p.storage) known)
        ∙ some_moved (is_storage p.storage) (is_before s p.storage) (behind p.storage ps) (behind s ps)
        (new_keys known ps) (are_params ps) (over s p.storage ps)
        ∙ ap (λ (t : Bool). (is_before s p.storage && behind s ps)
        && (new_keys known ps && (is_storage p.storage && (t && are_params ps)))) (sym (behind_is p ps is))

same : (last : Option ParamStorage) (known ps : List Param) → Same last known ps
same None known [] = refl
same (Some s) known [] = refl
same None known (p ∷ ps) = none_is known p ps (λ last seen. same last seen ps)
same (Some s) known (p ∷ ps) = some_is s known p ps (λ last seen. same last seen ps)

all_new : (ps : List Param) → new_keys [] ps ≡ true
all_new [] = refl
all_new (p ∷ ps) = by_model p.model (all_new ps)
  where
    by_model : (m : Bool) → new_keys [] ps ≡ true → (if m then true else true) && new_keys [] ps ≡ true
    by_model true next = next
    by_model false next = next

pub params_come : (ps : List Param) → may_all_come None [] ps ≡ are_params ps
params_come ps = same None [] ps ∙ ap (λ (t : Bool). t && are_params ps) (all_new ps)

-- ---- sets

one_more : (b c : Bool) → cond b true c ≡ or c b
one_more true true = refl
one_more true false = refl
one_more false true = refl
one_more false false = refl

pub keys_put : (set new : BTreeSet (ℕ × ℤ)) (known : List Param) (p : Param)
    → HoldsKeys set known
    → Updates key_cmp set new (key_of p.storage) true
    → HoldsKeys new (known ++ p ∷ [])
keys_put set new known p holds updates key =
    updates.0 key
    ∙ ap (cond (is_eq (key_cmp (key_of p.storage) key)) true) (holds key)
    ∙ one_more (is_eq (key_cmp (key_of p.storage) key)) (has_key key known)
    ∙ sym (has_more key known p)

pub no_last : (last : Option ParamStorage) (t : Bool) → t ≡ is_some last → t ≡ false → is_nothing last ≡ true
no_last None t is none = refl
no_last (Some s) t is none = absurd (never (sym is ∙ none))

-- what adding a model parameter to the set says of it
pub model_came : (set new : BTreeSet (ℕ × ℤ)) (last : Option ParamStorage) (known : List Param) (p : Param)
    (key : ℕ × ℤ) (added : Bool)
    → is_storage p.storage ≡ true
    → p.model ≡ true
    → is_nothing last ≡ true
    → key ≡ key_of p.storage
    → added ≡ not (contains key_cmp set key) → Updates key_cmp set new key true → HoldsKeys set known →
    (added ≡ may_come last known p) × (IsTrue added → HoldsKeys new (next_known known p))
model_came set new last known p key added right model first is_key is updates holds =
    let here : added ≡ not (has_key (key_of p.storage) known) = is
    ∙ ap (λ (k : ℕ × ℤ). not (contains key_cmp set k)) is_key ∙ ap not (holds (key_of p.storage)) in
    let says : may_come last known p ≡ not (has_key (key_of p.storage) known) =
    ap₂ (λ (t m : Bool). t && (if m then (is_nothing last && not (has_key (key_of p.storage) known)) else comes_before
    last p.storage)) right model
    ∙ ap (λ (t : Bool). t && not (has_key (key_of p.storage) known)) first in (
      here ∙ sym says,
      λ t. subst (HoldsKeys new) (ap (λ (m : Bool). if m then known ++ p ∷ [] else known) (sym model))
          (keys_put set new known p holds (subst (λ (k : ℕ × ℤ). Updates key_cmp set new k true) is_key updates)),
    )

-- ---- the turns of the loop

-- what is left to come
abbrev pub Left : BTreeSet (ℕ × ℤ) → Option ParamStorage → ℕ → List Param → Type 0
Left set last i ps = (known : List Param)
    × (HoldsKeys set known × (may_all_come last known (drop i ps) ≡ may_all_come None [] ps))

-- what a turn says of a parameter
abbrev pub Comes : BTreeSet (ℕ × ℤ) → BTreeSet (ℕ × ℤ) → Option ParamStorage → Param → Bool → Type 0
Comes set new last p b = (known : List Param) → HoldsKeys set known → (b ≡ may_come last known p)
    × (IsTrue b → HoldsKeys new (next_known known p))

first_left : (last : Option ParamStorage) (known ps : List Param) (i : ℕ) (p : Param)
    → i < length ps
    → p ≡ get_or ps i p
    → may_all_come last known (drop i ps) ≡ may_come last known p
    && may_all_come (next_last last p) (next_known known p) (drop (i + 1) ps)
first_left last known ps i p within is =
    at_drop_more (may_all_come last known) ps i p within
    ∙ ap (λ (q : Param). may_all_come last known (q ∷ drop (i + 1) ps)) (sym is)

pub param_came : (set new : BTreeSet (ℕ × ℤ)) (last : Option ParamStorage) (ps : List Param) (i : ℕ) (p : Param)
    (b : Bool)
    → i < length ps
    → p ≡ get_or ps i p
    → Left set last i ps
    → Comes set new last p b
    → b ≡ true
    → Left new (next_last last p) (i + 1) ps
param_came set new last ps i p b within is left comes came =
    let by = comes left.0 left.1.0 in (
      next_known left.0 p,
      (
        by.1 came,
        ap
            (λ (t : Bool). t && may_all_come (next_last last p) (next_known left.0 p) (drop (i + 1) ps)) (sym came ∙ by.0)
            ∙ sym (first_left last left.0 ps i p within is) ∙ left.1.1,
      ),
    )

pub param_failed : (set new : BTreeSet (ℕ × ℤ)) (last : Option ParamStorage) (ps : List Param) (i : ℕ) (p : Param)
    (b : Bool)
    → i < length ps
    → p ≡ get_or ps i p
    → Left set last i ps
    → Comes set new last p b
    → b ≡ false
    → false ≡ are_params ps
param_failed set new last ps i p b within is left comes failed =
    let by = comes left.0 left.1.0 in
    ap (λ (t : Bool). t && may_all_come (next_last last p) (next_known left.0 p) (drop (i + 1) ps))
    (sym failed ∙ by.0) ∙ sym (first_left last left.0 ps i p within is) ∙ left.1.1 ∙ params_come ps

pub params_end : (set : BTreeSet (ℕ × ℤ)) (last : Option ParamStorage) (ps : List Param) (i : ℕ)
    → length ps ≤ i
    → Left set last i ps
    → true ≡ are_params ps
params_end set last ps i past left = sym (at_drop_all (may_all_come last left.0) ps i past) ∙ left.1.1 ∙ params_come ps
