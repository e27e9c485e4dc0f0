-- A code runs as the blocks that it is.
use Rattle.std.proofs.Common.{◌≡◌, ℕ, zero, suc, Bool, true, false, cond, ◌==◌, List, [], ◌∷◌, drop, Option, Some, None, refl, sym, ap, ◌∙◌}
use Rattle.std.specs.Prelude.{slice_get}
use Rattle.machine.specs.Trace.{End, Undefined}
use Rattle.machine.specs.Machine.{after}
use Rattle.pcode_model.specs.declared.listing.Listing.{Listing}
use Rattle.pcode_model.specs.World.{Entry, unless_over, shown}
use Rattle.cmeaning.specs.declared.tree.Expr.{Expr}
use Rattle.cmeaning.specs.declared.tree.Stmt.{Stmt}
use Rattle.cmeaning.specs.Value.{value_of}
use Rattle.cmeaning.specs.Do.{ends, values_of, do_simple}
use Rattle.cmeaning.specs.Step.{tested}
use Rattle.blockcode.specs.declared.code.Arm.{Arm}
use Rattle.blockcode.specs.declared.code.Exit.{Exit}
use Rattle.blockcode.specs.declared.code.Exit.TheVariants as X
use Rattle.blockcode.specs.declared.code.Block.{Block}
use Rattle.blockcode.specs.declared.code.Code.{Code}
use Rattle.blockcode.specs.Run.{CodeState, at, widths, call_returns, enters, enters_by, returns_with, chosen, leave, pass, pass_in, code_step, start_code, seen_code}
use Rattle.blockcode.proofs.Straight.{rest_of_drop}
use Rattle.parts.specs.Exprs.{both, all_of}
use Rattle.edges.specs.Exits.{exit_args, Where, Onto, Out, by_arms, leads}
use Rattle.edges.specs.Run.{Blocks, stmts_of, exit_of, stmts_at, exit_at, Going, going, arrives, leaves, exec, blocks_step, seen_blocks, blocks_of_code}

-- ---- exits

-- to a block or to the end, as a state of the code run
abbrev arrives_code : Where → CodeState → CodeState
arrives_code (Onto b) s = enters b s
arrives_code (Out e) s = at s.block s.position (ends e s.local)

abbrev leaves_code : Exit → Option (List ℕ) → CodeState → CodeState
leaves_code x None s = at s.block s.position (ends Undefined s.local)
leaves_code x (Some ns) s = arrives_code (leads x ns) s

chosen_is : (arms : List Arm) (n : ℕ) (s : CodeState) → chosen arms s n ≡ arrives_code (by_arms arms n) s
chosen_is [] n s = refl
chosen_is (a ∷ rest) n s =
    let P : Bool → Type 0 =
    λ c. cond c (enters a.to s) (chosen rest s n) ≡ arrives_code (cond c (Onto a.to) (by_arms rest n)) s in
    elim (a.value == n) as P [ true ↦ refl | false ↦ chosen_is rest n s ]

returns_is : (e : Expr) (o : Option ℕ) (s : CodeState)
    → returns_with o s ≡ leaves_code (X.Return (Some e)) (both o (Some [])) s
returns_is e None s = refl
returns_is e (Some n) s = refl

test_is : (e : Expr) (taken other : ℕ) (o : Option ℕ) (s : CodeState)
    → enters_by o s (λ n. enters (tested taken other n) s) ≡ leaves_code (X.Test e taken other) (both o (Some [])) s
test_is e taken other None s = refl
test_is e taken other (Some n) s = refl

switch_is : (e : Expr) (arms : List Arm) (o : Option ℕ) (s : CodeState)
    → enters_by o s (chosen arms s) ≡ leaves_code (X.Switch e arms) (both o (Some [])) s
switch_is e arms None s = refl
switch_is e arms (Some n) s = chosen_is arms n s

-- Leaving a block, by the exit's parts.
leave_is : (ws : ℕ → ℕ) (x : Exit) (s : CodeState)
    → leave ws x s ≡ leaves_code x (all_of (values_of ws s.local.env (exit_args x))) s
leave_is ws (X.Return None) s = refl
leave_is ws (X.Return (Some e)) s = returns_is e (value_of ws s.local.env e) s
leave_is ws (X.Jump b) s = refl
leave_is ws (X.Test e taken other) s = test_is e taken other (value_of ws s.local.env e) s
leave_is ws (X.Switch e arms) s = switch_is e arms (value_of ws s.local.env e) s
leave_is ws X.Stop s = refl

-- ---- states

drop_nothing : {A : Type 0} (n : ℕ) (xs : List A) → xs ≡ [] → drop n xs ≡ []
drop_nothing zero xs e = e
drop_nothing (suc n) [] e = refl
drop_nothing (suc n) (x ∷ xs) e = absurd (cc)

module _ (k : Code) where
  abbrev blocks : Blocks
  blocks = blocks_of_code k

  -- a state of the code run with the statements that are left
  abbrev going_of : CodeState → Going
  going_of s = going s.block (drop s.position (stmts_at blocks s.block)) s.local

  abbrev AtEnd : CodeState → Type 0
  AtEnd s = drop s.position (stmts_at blocks s.block) ≡ []

  arrived : (s : CodeState) (h : Where) → AtEnd s → going_of (arrives_code h s) ≡ arrives blocks s.block h s.local
  arrived s (Onto b) e = refl
  arrived s (Out h) e = ap (λ r. going s.block r (ends h s.local)) e

  left_is : (s : CodeState) (o : Option (List ℕ))
      → AtEnd s
      → going_of (leaves_code (exit_at blocks s.block) o s) ≡ leaves blocks s.block o s.local
  left_is s None e = ap (λ r. going s.block r (ends Undefined s.local)) e
  left_is s (Some ns) e = arrived s (leads (exit_at blocks s.block) ns) e

  module _ (l : Listing) where
    left_in : (s : CodeState)
        → AtEnd s
        → going_of (leave (widths k.variables) (exit_at blocks s.block) s) ≡ exec l blocks s.block [] s.local
    left_in s e =
        ap going_of (leave_is (widths k.variables) (exit_at blocks s.block) s)
        ∙ left_is s (all_of (values_of (widths k.variables) s.local.env (exit_args (exit_at blocks s.block)))) e

    pass_is : (s : CodeState) (b : Block) (rest : List Stmt)
        → slice_get k.blocks s.block ≡ Some b
        → drop s.position b.body ≡ rest
        → going_of (pass l (widths k.variables) rest b.exit s) ≡ exec l blocks s.block rest s.local
    pass_is s b [] here e =
        ap (λ x. going_of (leave (widths k.variables) x s)) (sym (ap exit_of here))
        ∙ left_in s (ap (λ o. drop s.position (stmts_of o)) here ∙ e)
    pass_is s b (a ∷ rest) here e =
        let left : drop (suc s.position) (stmts_at blocks s.block) ≡ rest =
        ap (λ o. drop (suc s.position) (stmts_of o)) here ∙ rest_of_drop b.body s.position a rest e in
        let done = λ (x : Exit). do_simple l (widths k.variables) (λ c. call_returns rest x) a s.local in
        ap (λ r. going s.block r (done b.exit)) left
        ∙ sym (ap (λ x. going s.block rest (done x)) (ap exit_of here))

    in_block : (s : CodeState) (o : Option Block)
        → slice_get k.blocks s.block ≡ o
        → going_of (pass_in l (widths k.variables) o s)
        ≡ exec l blocks s.block (drop s.position (stmts_of o)) s.local
    in_block s (Some b) here = pass_is s b (drop s.position b.body) here refl
    in_block s None here =
        let none : drop s.position (stmts_of None) ≡ [] = drop_nothing s.position (stmts_of None) refl in
        ap (λ x. going_of (leave (widths k.variables) x s)) (sym (ap exit_of here))
        ∙ left_in s (ap (λ o. drop s.position (stmts_of o)) here ∙ none)
        ∙ sym (ap (λ r. exec l blocks s.block r s.local) none)

    over_is : (s : CodeState) (o : Option End)
        → going_of (unless_over o s (pass_in l (widths k.variables) (slice_get k.blocks s.block) s))
        ≡ unless_over o (going_of s)
        (exec l blocks s.block (drop s.position (stmts_at blocks s.block)) s.local)
    over_is s None = in_block s (slice_get k.blocks s.block) refl
    over_is s (Some h) = refl

    step_is : (s : CodeState) → going_of (code_step l k s) ≡ blocks_step l blocks (going_of s)
    step_is s = over_is s s.local.world.over

    after_is : (n : ℕ) (s : CodeState)
        → going_of (after (code_step l k) n s) ≡ after (blocks_step l blocks) n (going_of s)
    after_is zero s = refl
    after_is (suc n) s = after_is n (code_step l k s) ∙ ap (after (blocks_step l blocks) n) (step_is s)

-- A code of blocks is the case in which no edge renames, and its run shows its own at each step.
pub seen_is : (l : Listing) (k : Code) (e : Entry) (n : ℕ) → seen_code l k e n ≡ seen_blocks l (blocks_of_code k) e n
seen_is l k e n = ap (λ (s : Going). shown s.local.world) (after_is k l n (start_code l k e))
