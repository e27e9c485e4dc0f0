-- The ends of simple statements: one whose arguments have values doesn't end Undefined, and one that goes on leaves a
-- run that isn't over.
use Rattle.std.proofs.Common.{◌≡◌, ◌≢◌, ℕ, ◌%◌, ◌<◌, Bool, true, false, List, [], ◌∷◌, Option, Some, None, Result, Ok, Err, refl, sym, ap, ◌∙◌, subst, arith}
use Rattle.machine.specs.Trace.{Event, Store, Call, Other, End, Undefined, ReadOnlyWrite}
use Rattle.bits_core.specs.Value.{divide_value}
use Rattle.pcode_model.specs.declared.listing.Listing.{Listing}
use Rattle.pcode_model.specs.Spaces.{size_of}
use Rattle.pcode_model.specs.Memory.{Bytes, ByteWrite, plain, unless}
use Rattle.pcode_model.specs.World.{World, Answer, recorded, write_all, and_then}
use Rattle.pcode_model.specs.Step.{bytes_in}
use Rattle.cmeaning.specs.declared.tree.Expr.{Expr}
use Rattle.cmeaning.specs.declared.tree.Arm.{Arm}
use Rattle.cmeaning.specs.declared.tree.Stmt.{Stmt, out-Stmt}
use Rattle.cmeaning.specs.declared.tree.Stmt.TheOpen.{Stmt-F}
use Rattle.cmeaning.specs.Value.{width_of, value_of}
use Rattle.cmeaning.specs.Do.{accessed, values_of, divide_of}
use Rattle.parts.specs.Exprs.{Env, reads_all, Holds, AreTotal, both, all_of, widths_of}
use Rattle.parts.specs.Stmts.{Action, Sets, Loads, Stores, Calls, CallsInd, Others, Extras, Divides, is_simple, layer_action, layer_args, action_of, args_of, Done, Over, Goes, IsFine, stores, takes, takes_from, calls, divides, act}

-- ---- values

-- Arguments that are total have values where their variables have words.
pub values_some : (ws : ℕ → ℕ) (env : Env) (es : List Expr)
    → AreTotal ws es
    → ((v : ℕ) → 0 < reads_all es v → Holds env v)
    → (ns : List ℕ) × (all_of (values_of ws env es) ≡ Some ns)
values_some ws env [] total h = ([], refl)
values_some ws env (e ∷ es) total h =
    let r = total.0 env (λ v p. h v (omega (arith, p))) in
    let rs = values_some ws env es total.1 (λ v p. h v (omega (arith, p))) in
    (r.0 ∷ rs.0, ap (λ o. both o (all_of (values_of ws env es))) r.1 ∙ ap (both (Some r.0)) rs.1)

pub one_some : (o : Option ℕ) (ns : List ℕ) → both o (Some []) ≡ Some ns → (n : ℕ) × (o ≡ Some n) × (ns ≡ n ∷ [])
one_some None ns e = absurd (cc)
one_some (Some n) ns e = (n, refl, cc)

two_some : (o p : Option ℕ) (ns : List ℕ)
    → both o (both p (Some [])) ≡ Some ns
    → (m : ℕ) × (n : ℕ) × (ns ≡ m ∷ n ∷ [])
two_some None p ns e = absurd (cc)
two_some (Some m) None ns e = absurd (cc)
two_some (Some m) (Some n) ns e = (m, n, cc)

first_some : (o : Option ℕ) (os : Option (List ℕ)) (ns : List ℕ)
    → both o os ≡ Some ns
    → (n : ℕ) × (ms : List ℕ) × (ns ≡ n ∷ ms)
first_some None os ns e = absurd (cc)
first_some (Some n) None ns e = absurd (cc)
first_some (Some n) (Some ms) ns e = (n, ms, cc)

-- ---- memory

abbrev FineResult : Result Bytes End → Type 0
FineResult (Err e) = e ≢ Undefined
FineResult (Ok m) = Unit {0}

unless_fine : (b : Bool) (m : Bytes) → FineResult (unless b ReadOnlyWrite (Ok m))
unless_fine true m = λ e. cc
unless_fine false m = tt

then_fine : (r : Result Bytes End) (f : Bytes → Result Bytes End)
    → FineResult r
    → ((m : Bytes) → FineResult (f m))
    → FineResult (and_then r f)
then_fine (Ok m) f h g = g m
then_fine (Err e) f h g = h

-- what goes on has the end that was before
abbrev KeepsOver : World Bytes → Done → Type 0
KeepsOver w (Over e w') = Unit {0}
KeepsOver w (Goes value left w') = w'.over ≡ w.over

stores_fine : (e : Event) (r : Result Bytes End) (left : ℕ → ℕ) (w : World Bytes)
    → FineResult r
    → IsFine (stores e r left w)
stores_fine e (Err h) left w f = f
stores_fine e (Ok m) left w f = tt

stores_keep : (e : Event) (r : Result Bytes End) (left : ℕ → ℕ) (w : World Bytes) → KeepsOver w (stores e r left w)
stores_keep e (Err h) left w = tt
stores_keep e (Ok m) left w = refl

divides_fine : (o : Option ℕ) (left : ℕ → ℕ) (w : World Bytes) → IsFine (divides o left w)
divides_fine None left w = λ e. cc
divides_fine (Some n) left w = tt

divides_keep : (o : Option ℕ) (left : ℕ → ℕ) (w : World Bytes) → KeepsOver w (divides o left w)
divides_keep None left w = tt
divides_keep (Some n) left w = refl

module _ (l : Listing) where
  all_fine : (xs : List ByteWrite) (m : Bytes) → FineResult (write_all (plain l) xs m)
  all_fine [] m = tt
  all_fine (x ∷ xs) m = then_fine ((plain l).answer x m) (write_all (plain l) xs) (unless_fine _ _) (all_fine xs)

  takes_fine : (a : Answer) (rest : List Answer) (r : Result Bytes End) (w : World Bytes)
      → FineResult r
      → IsFine (takes l a rest r w)
  takes_fine a rest (Err h) w f = f
  takes_fine a rest (Ok m) w f = tt

  takes_keep : (a : Answer) (rest : List Answer) (r : Result Bytes End) (w : World Bytes)
      → KeepsOver w (takes l a rest r w)
  takes_keep a rest (Err h) w = tt
  takes_keep a rest (Ok m) w = refl

  from_fine : (answers : List Answer) (w : World Bytes) → IsFine (takes_from l answers w)
  from_fine [] w = λ e. cc
  from_fine (a ∷ rest) w =
      takes_fine a rest (write_all (plain l) a.memory w.memory) w (all_fine a.memory w.memory)

  from_keep : (answers : List Answer) (w : World Bytes) → KeepsOver w (takes_from l answers w)
  from_keep [] w = tt
  from_keep (a ∷ rest) w = takes_keep a rest (write_all (plain l) a.memory w.memory) w

  calls_fine : (returns : Bool) (w : World Bytes) → IsFine (calls l returns w)
  calls_fine true w = from_fine w.answers w
  calls_fine false w = λ e. cc

  calls_keep : (returns : Bool) (w : World Bytes) → KeepsOver w (calls l returns w)
  calls_keep true w = from_keep w.answers w
  calls_keep false w = tt

  -- ---- statements

  module _ (returns : ℕ → Bool) where
    layer_fine : (ws : ℕ → ℕ) (y : Stmt-F Stmt Arm) (env : Env) (ns : List ℕ) (left : ℕ → ℕ) (w : World Bytes)
        → is_simple (layer_action y) ≡ true
        → all_of (values_of ws env (layer_args y)) ≡ Some ns
        → IsFine (act l returns (layer_action y) (widths_of ws (layer_args y)) ns left w)
    layer_fine ws (Stmt-F.Assign v e) env ns left w simple h =
        let o = one_some (value_of ws env e) ns h in
        let P : List ℕ → Type 0 = λ z. IsFine (act l returns Sets (width_of ws e ∷ []) z left w) in
        subst P (sym o.2) tt
    layer_fine ws (Stmt-F.Load v space address) env ns left w simple h =
        let o = one_some (value_of ws env address) ns h in
        let P : List ℕ → Type 0 = λ z. IsFine (act l returns (Loads space) (width_of ws address ∷ []) z left w) in
        subst P (sym o.2) tt
    layer_fine ws (Stmt-F.Store space address e) env ns left w simple h =
        let o = two_some (value_of ws env address) (value_of ws env e) ns h in
        let s = accessed l space in
        let bs = bytes_in l s (width_of ws e) o.1 in
        let ks = width_of ws address ∷ width_of ws e ∷ [] in
        let P : List ℕ → Type 0 = λ z. IsFine (act l returns (Stores space) ks z left w) in
        subst P (sym o.2)
        (stores_fine (Store s (o.0 % size_of l s) bs) ((plain l).write s (o.0 % size_of l s) bs w.memory) left w
        (unless_fine _ _))
    layer_fine ws (Stmt-F.Call v callee args) env ns left w simple h =
        calls_fine (returns callee) (recorded (Call callee ns) w)
    layer_fine ws (Stmt-F.CallInd v callee args) env ns left w simple h =
        let o = first_some (value_of ws env callee) (all_of (values_of ws env args)) ns h in
        let P : List ℕ → Type 0 = λ z. IsFine (act l returns CallsInd (widths_of ws (callee ∷ args)) z left w) in
        subst P (sym o.2) (from_fine w.answers (recorded (Call o.0 o.1) w))
    layer_fine ws (Stmt-F.Other v index args) env ns left w simple h =
        from_fine w.answers (recorded (Other index ns) w)
    layer_fine ws (Stmt-F.Extra v offset) env ns left w simple h = tt
    layer_fine ws (Stmt-F.Divide v op a b) env ns left w simple h =
        let o = two_some (value_of ws env a) (value_of ws env b) ns h in
        let ks = width_of ws a ∷ width_of ws b ∷ [] in
        let P : List ℕ → Type 0 = λ z. IsFine (act l returns (Divides op) ks z left w) in
        subst P (sym o.2) (divides_fine (divide_value (divide_of op) (width_of ws a) o.0 o.1) left w)
    layer_fine ws y env ns left w simple h = absurd (cc)

    -- A simple statement whose arguments have values doesn't end Undefined.
    pub act_fine : (ws : ℕ → ℕ) (a : Stmt) (env : Env) (ns : List ℕ) (left : ℕ → ℕ) (w : World Bytes)
        → is_simple (action_of a) ≡ true
        → all_of (values_of ws env (args_of a)) ≡ Some ns
        → IsFine (act l returns (action_of a) (widths_of ws (args_of a)) ns left w)
    act_fine ws a env ns left w simple h = layer_fine ws (out-Stmt a) env ns left w simple h

    act_keep : (action : Action) (ks ns : List ℕ) (left : ℕ → ℕ) (w : World Bytes)
        → KeepsOver w (act l returns action ks ns left w)
    act_keep Sets ks (n ∷ []) left w = refl
    act_keep (Loads space) ks (a ∷ []) left w = refl
    act_keep (Stores space) (j ∷ k ∷ []) (a ∷ n ∷ []) left w =
        let s = accessed l space in
        let bs = bytes_in l s k n in
        stores_keep (Store s (a % size_of l s) bs) ((plain l).write s (a % size_of l s) bs w.memory) left w
    act_keep (Calls callee) ks ns left w = calls_keep (returns callee) (recorded (Call callee ns) w)
    act_keep CallsInd ks (a ∷ ns) left w = from_keep w.answers (recorded (Call a ns) w)
    act_keep (Others index) ks ns left w = from_keep w.answers (recorded (Other index ns) w)
    act_keep (Extras offset) ks ns left w = refl
    act_keep (Divides op) (j ∷ k ∷ []) (m ∷ n ∷ []) left w =
        divides_keep (divide_value (divide_of op) j m n) left w
    act_keep action ks ns left w = tt

    -- What goes on is over where it was before.
    pub over_kept : (action : Action) (ks ns : List ℕ) (left value u : ℕ → ℕ) (w w' : World Bytes)
        → act l returns action ks ns left w ≡ Goes value u w'
        → w'.over ≡ w.over
    over_kept action ks ns left value u w w' e =
        let P : Done → Type 0 = λ d. KeepsOver w d in subst P e (act_keep action ks ns left w)

  -- Of the callees it counts only whether the one that a statement calls returns.
  pub act_returns : (returns returns' : ℕ → Bool) (action : Action) (ks ns : List ℕ) (left : ℕ → ℕ) (w : World Bytes)
      → ((callee : ℕ) → action ≡ Calls callee → returns callee ≡ returns' callee)
      → act l returns action ks ns left w ≡ act l returns' action ks ns left w
  act_returns r r' Sets ks (n ∷ []) left w h = refl
  act_returns r r' (Loads space) ks (a ∷ []) left w h = refl
  act_returns r r' (Stores space) (j ∷ k ∷ []) (a ∷ n ∷ []) left w h = refl
  act_returns r r' (Calls callee) ks ns left w h = ap (λ b. calls l b (recorded (Call callee ns) w)) (h callee refl)
  act_returns r r' CallsInd ks (a ∷ ns) left w h = refl
  act_returns r r' (Others index) ks ns left w h = refl
  act_returns r r' (Extras offset) ks ns left w h = refl
  act_returns r r' (Divides op) (j ∷ k ∷ []) (m ∷ n ∷ []) left w h = refl
  act_returns r r' action ks ns left w h = refl
