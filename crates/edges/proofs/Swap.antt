-- A small function in SSA form whose loop swaps two values, and that it is left by copies: the conditions can be met.
use Rattle.std.proofs.Common.{◌≡◌, ℕ, zero, suc, ◌<◌, true, List, [], ◌∷◌, Some, refl, sym, ap, ◌∙◌, subst, ◌⊎◌, inl, inr, ⊎_elim, arith}
use Rattle.machine.specs.TwoWay.{TwoWay}
use Rattle.pcode_model.specs.declared.listing.Listing.{Listing}
use Rattle.pcode_model.specs.World.{Entry}
use Rattle.cmeaning.specs.declared.tree.Expr.{Expr}
use Rattle.cmeaning.specs.declared.tree.Expr.TheVariants as E
use Rattle.cmeaning.proofs.Value.{value_of_var}
use Rattle.cmeaning.proofs.Do.{do_assign}
use Rattle.blockcode.specs.declared.code.Exit.TheVariants as X
use Rattle.parts.specs.Exprs.{reads_all, IsTotal, AreTotal}
use Rattle.parts.proofs.Nodes.{reads_var}
use Rattle.parts.proofs.Values.{reads_self}
use Rattle.edges.specs.Exits.{exit_args, leads, LeadsTo, Onto}
use Rattle.edges.specs.Run.{stmts_at, exit_at, seen_blocks}
use Rattle.edges.specs.Live.{Leave, Onward, LiveIn, IsStrict, AreSound, IsBlock, IsSound}
use Rattle.edges.specs.Follow.{In}
use Rattle.edges.specs.Leave.{AreValues, IsLeft, left_of}
use Rattle.edges.specs.Small.{Swap, swap, is_swap_head, swap_heads, swap_next, swap_shape}
use Rattle.edges.proofs.Strict.{strict_defined}
use Rattle.edges.proofs.Leave.{left_shows, inputs_known}

abbrev V : ℕ → Type 0
V v = v < 4

head_is : (b v : ℕ) → is_swap_head b v ≡ true → (b ≡ 1) × ((v ≡ 2) ⊎ (v ≡ 3))
head_is b v e = grind (arith, e)

listed : (b v : ℕ) → is_swap_head b v ≡ true → In v (swap_heads b)
listed b v e =
    let r = head_is b v e in
    let P : ℕ → Type 0 = λ z. In v (swap_heads z) in
    subst P (sym r.0) (⊎_elim (λ two. inl two) (λ three. inr (inl three)) r.1)

-- what holds of 2 and 3 holds of the heads of block 1
by_two : {A : Type 0} (P : A → Type 0) (a b x : A) → P a → P b → In x (a ∷ b ∷ []) → P x
by_two P a b x pa pb i =
    ⊎_elim (λ e. subst P (sym e) pa) (λ j. ⊎_elim (λ e. subst P (sym e) pb) (λ k. absurd k) j) i

heads : (b v : ℕ) → In v (swap_heads b) → V v × (is_swap_head b v ≡ true)
heads zero v i = absurd i
heads (suc zero) v i =
    by_two (λ z. V z × (is_swap_head 1 z ≡ true)) 2 3 v (omega arith, refl) (omega arith, refl) i
heads (suc (suc n)) v i = absurd i

no_way : (c : ℕ) (ns : List ℕ) (e : Expr) → leads (X.Return (Some e)) ns ≡ Onto c → ⊥
no_way c [] e h = cc
no_way c (n ∷ ns) e h = cc

nowhere : (c : ℕ) (ns : List ℕ) → leads X.Stop ns ≡ Onto c → ⊥
nowhere c ns h = cc

leads_of : (b : ℕ) (x : ℕ × ℕ)
    → In x ((1, 2) ∷ (1, 3) ∷ [])
    → LeadsTo (exit_at swap b) 1
    → LeadsTo (exit_at swap b) x.0 × (is_swap_head x.0 x.1 ≡ true)
leads_of b x i to =
    by_two (λ z. LeadsTo (exit_at swap b) z.0 × (is_swap_head z.0 z.1 ≡ true)) (1, 2) (1, 3) x
    (to, refl) (to, refl) i

next : (b : ℕ) (x : ℕ × ℕ)
    → In x (swap_next b)
    → LeadsTo (exit_at swap b) x.0 × (is_swap_head x.0 x.1 ≡ true)
next zero x i = leads_of 0 x i ([], refl)
next (suc zero) x i = leads_of 1 x i (1 ∷ [], refl)
next (suc (suc n)) x i = absurd i

in_two : (c v : ℕ) → is_swap_head c v ≡ true → In {A = ℕ × ℕ} (c, v) ((1, 2) ∷ (1, 3) ∷ [])
in_two c v e =
    let r = head_is c v e in
    let at : ◌≡◌ {A = ℕ × ℕ} (c, v) (1, v) = ap (λ (z : ℕ). let q : ℕ × ℕ = (z, v) in q) r.0 in
    ⊎_elim
    (λ two. inl (at ∙ ap (λ (z : ℕ). let q : ℕ × ℕ = (1, z) in q) two))
    (λ three. inr (inl (at ∙ ap (λ (z : ℕ). let q : ℕ × ℕ = (1, z) in q) three)))
    r.1

nexts : (b c v : ℕ) → LeadsTo (exit_at swap b) c → is_swap_head c v ≡ true → In {A = ℕ × ℕ} (c, v) (swap_next b)
nexts zero c v to e = in_two c v e
nexts (suc zero) c v to e = in_two c v e
nexts (suc (suc zero)) c v to e = absurd (no_way c to.0 (E.Var 3) to.1)
nexts (suc (suc (suc n))) c v to e = absurd (nowhere c to.0 to.1)

reads_only : (x v : ℕ) → 0 < reads_all (E.Var x ∷ []) v → v ≡ x
reads_only x v r = let e = reads_var x v in grind (arith, r, e)

exits : (b v : ℕ) → 0 < reads_all (exit_args (exit_at swap b)) v → V v
exits zero v r = absurd (omega (arith, r))
exits (suc zero) v r = let e = reads_only 2 v r in omega (arith, e)
exits (suc (suc zero)) v r = let e = reads_only 3 v r in omega (arith, e)
exits (suc (suc (suc n))) v r = absurd (omega (arith, r))

stmts : (b : ℕ) → AreValues V (stmts_at swap b)
stmts zero = tt
stmts (suc zero) = tt
stmts (suc (suc zero)) = tt
stmts (suc (suc (suc n))) = tt

swap_is_left : IsLeft V swap_shape swap (left_of swap_shape swap)
swap_is_left = record {
  heads = heads;
  listed = listed;
  home = λ b c v e f. (head_is b v e).0 ∙ sym (head_is c v f).0;
  next = next;
  nexts = nexts;
  fresh = λ v w need e. omega (arith, need, e);
  each = λ v w e. omega (arith, e);
  values = λ b c v need. grind (arith, need);
  plain = λ b c v e. grind (arith, e);
  start = λ v. refl;
  stmts = stmts;
  exits = exits;
  entry = refl;
  first = λ l e v need. refl;
  widths = λ v need. refl;
  through = refl;
  same = λ b. refl;
  body = λ b. refl;
}

-- ---- so the copies show what the function shows, from every entry

onto_is : (b c : ℕ) → Onto b ≡ Onto c → b ≡ c
onto_is b c e = cc

tested_block : (c : ℕ) (ns : List ℕ) → leads (X.Test (E.Var 2) 1 2) ns ≡ Onto c → IsBlock swap c
tested_block c [] h = absurd (cc)
tested_block c (zero ∷ ns) h = let P : ℕ → Type 0 = λ z. IsBlock swap z in subst P (onto_is 2 c h) (_, refl)
tested_block c (suc n ∷ ns) h = let P : ℕ → Type 0 = λ z. IsBlock swap z in subst P (onto_is 1 c h) (_, refl)

onward : (b c : ℕ) → LeadsTo (exit_at swap b) c → IsBlock swap c
onward zero c to = let P : ℕ → Type 0 = λ z. IsBlock swap z in subst P (onto_is 1 c to.1) (_, refl)
onward (suc zero) c to = tested_block c to.0 to.1
onward (suc (suc zero)) c to = absurd (no_way c to.0 (E.Var 3) to.1)
onward (suc (suc (suc n))) c to = absurd (nowhere c to.0 to.1)

var_total : (ws : ℕ → ℕ) (v : ℕ) → IsTotal ws (E.Var v)
var_total ws v env h = let r = h v (reads_self v) in (r.0, value_of_var ws env v ∙ r.1)

sound_stmts : (b : ℕ) → AreSound swap.widths (stmts_at swap b)
sound_stmts zero = tt
sound_stmts (suc zero) = tt
sound_stmts (suc (suc zero)) = tt
sound_stmts (suc (suc (suc n))) = tt

sound_exits : (b : ℕ) → AreTotal swap.widths (exit_args (exit_at swap b))
sound_exits zero = tt
sound_exits (suc zero) = (var_total swap.widths 2, tt)
sound_exits (suc (suc zero)) = (var_total swap.widths 3, tt)
sound_exits (suc (suc (suc n))) = tt

no_block : (n : ℕ) → IsBlock swap (suc (suc (suc n))) → ⊥
no_block n is = let e = is.1 in cc

no_stop : (b : ℕ) → IsBlock swap b → exit_at swap b ≡ X.Stop → ⊥
no_stop zero is e = cc
no_stop (suc zero) is e = cc
no_stop (suc (suc zero)) is e = cc
no_stop (suc (suc (suc n))) is e = no_block n is

sound : IsSound swap
sound = record {
  entry = (_, refl);
  onward = onward;
  stmts = sound_stmts;
  exits = sound_exits;
  stops = λ b is e. absurd (no_stop b is e);
}

reads_own : (v : ℕ) → 0 < reads_all (E.Var v ∷ []) v
reads_own v = let r = reads_self v in omega (arith, r)

live : (b v : ℕ) → In v (swap_heads b) → LiveIn swap b v
live zero v i = absurd i
live (suc zero) v i =
    by_two (λ z. LiveIn swap 1 z) 2 3 v (Leave 1 2 (reads_own 2))
    (Onward 1 2 3 3 (0 ∷ [], refl) refl (Leave 2 3 (reads_own 3))) i
live (suc (suc n)) v i = absurd i

swap_left : (l : Listing) (e : Entry) → TwoWay (seen_blocks l swap e) (seen_blocks l (left_of swap_shape swap) e)
swap_left l e =
    let m = left_of swap_shape swap in
    let strict : IsStrict l swap e = λ v is. (_, refl) in
    left_shows l V swap_shape swap m swap_is_left e
    (inputs_known l V swap_shape swap m swap_is_left sound live e strict)
    (strict_defined l swap sound e strict)

pub swaps : Swap
swaps = record {
  at_once = λ l e. simp (do_assign, value_of_var);
  in_turn = λ l e. simp (do_assign, value_of_var);
  left = swap_left;
}
