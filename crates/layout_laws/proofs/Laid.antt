-- The laid-out body has the blocks' lines one behind another, and its labels lead to them.
use Rattle.std.proofs.Common.{◌≡◌, ◌≢◌, ℕ, zero, suc, ◌+◌, ◌<◌, Bool, true, false, List, [], ◌∷◌, ◌++◌, length, drop, refl, sym, ap, ◌∙◌, subst, Some, arith}
use Rattle.std.specs.Prelude.{◌==◌, cond, slice_get}
use Rattle.std.proofs.lemmas.Bool.Decides.{nat_tests}
use Rattle.pcode_model.specs.Spaces.{or}
use Rattle.cmeaning.specs.Flat.{found_in, flat_body, pieces_of}
use Rattle.blockcode.specs.declared.code.Arm.{Arm}
use Rattle.blockcode.specs.declared.code.Exit.{Exit}
use Rattle.blockcode.specs.declared.code.Exit.TheVariants as X
use Rattle.blockcode.specs.declared.code.Block.{Block}
use Rattle.blockcode.specs.declared.code.Code.{Code}
use Rattle.blockcode.specs.Laid.{jump_names, arms_name, exit_names, blocks_name, is_named, goto, laid_from, laid_body}
use Rattle.blockcode.specs.Numbers.{ArmsBelow, ExitBelow, ExitsBelow}
use Rattle.blockcode.specs.CanLay.{AllSimple, AreSimple, CanLay}
use Rattle.layout_laws.proofs.Pieces.{span_of, labels_in, steps_of, steps_append, labels_append, drop_past}
use Rattle.layout_laws.proofs.Positions.{measured_jump, unlabelled_jump, position, placed, label_leads}
use Rattle.layout_laws.proofs.Follows.{Lines, StandsFrom, Leads, JumpLeads, ArmsLead, IsLaid, Given}

-- ---- blocks that a goto names

pub or_true : (a b : Bool) → b ≡ true → or a b ≡ true
or_true true b e = refl
or_true false b e = e

pub true_or : (a b : Bool) → a ≡ true → or a b ≡ true
true_or a b e = ap (λ x. or x b) e

pub same_number : (n : ℕ) → (n == n) ≡ true
same_number n = grind (arith, nat_tests)

pub jump_named : (next to : ℕ) → to ≢ next → jump_names next to to ≡ true
jump_named next to ne =
    let t : (to == next) ≡ false = grind (arith, nat_tests) in
    ap (λ c. cond c false (to == to)) t ∙ same_number to

exit_named : (blocks : List Block) (n c : ℕ) (x : Block) (b m : ℕ)
    → slice_get blocks c ≡ Some x
    → m ≡ suc (n + c)
    → exit_names m x.exit b ≡ true
    → blocks_name n blocks b ≡ true
exit_named [] n c x b m e f h = absurd (cc)
exit_named (y ∷ blocks) n zero x b m e f h =
    let same : x ≡ y = cc in
    let z : m ≡ suc n = omega (arith, f) in
    true_or (exit_names (suc n) y.exit b) (blocks_name (suc n) blocks b)
    (ap (λ k. exit_names k y.exit b) (sym z) ∙ ap (λ (w : Block). exit_names m w.exit b) (sym same) ∙ h)
exit_named (y ∷ blocks) n (suc c) x b m e f h =
    or_true (exit_names (suc n) y.exit b) (blocks_name (suc n) blocks b)
    (exit_named blocks (suc n) c x b m e (omega (arith, f)) h)

pub block_names : (k : Code) (n : ℕ) (x : Block) (b : ℕ)
    → slice_get k.blocks n ≡ Some x
    → exit_names (suc n) x.exit b ≡ true
    → is_named k b ≡ true
block_names k n x b e h = or_true (jump_names 0 k.entry b) (blocks_name 0 k.blocks b)
    (exit_named k.blocks 0 n x b (suc n) e (let z : suc n ≡ suc (0 + n) = omega arith in z) h)

-- ---- what is said of each block

pub below_at : (m : ℕ) (blocks : List Block) (n : ℕ) (x : Block)
    → ExitsBelow m blocks
    → slice_get blocks n ≡ Some x
    → ExitBelow m x.exit
below_at m [] n x h e = absurd (cc)
below_at m (y ∷ blocks) zero x h e = let same : y ≡ x = cc in let P : Block → Type 0 = λ z. ExitBelow m z.exit in
    subst P same h.0
below_at m (y ∷ blocks) (suc n) x h e = below_at m blocks n x h.1 e

simple_at : (returns : ℕ → Bool) (blocks : List Block) (n : ℕ) (x : Block)
    → AllSimple returns blocks
    → slice_get blocks n ≡ Some x
    → AreSimple returns x.body x.exit
simple_at returns [] n x h e = absurd (cc)
simple_at returns (y ∷ blocks) zero x h e = let same : y ≡ x = cc in let P : Block → Type 0 =
    λ z. AreSimple returns z.body z.exit in subst P same h.0
simple_at returns (y ∷ blocks) (suc n) x h e = simple_at returns blocks n x h.1 e

-- ---- where labels lead

module _ (returns : ℕ → Bool) (k : Code) where
  abbrev out : ℕ
  out = span_of returns (laid_body k)

  abbrev place : ℕ → ℕ
  place = found_in (labels_in returns (laid_body k) 0) out

  -- the flat code of the body
  abbrev pub lines : Lines
  lines = record {
    returns = returns;
    named = is_named k;
    place = place;
    out = out;
    flat = flat_body (pieces_of returns (laid_body k));
  }

  -- where the lines of the blocks begin
  abbrev first : ℕ
  first = span_of returns (goto 0 k.entry)

  abbrev rest_at : ℕ → ℕ
  rest_at b = first + position returns 0 k.blocks b

  flat_is : lines.flat ≡ steps_of returns place out (goto 0 k.entry) 0
      ++ steps_of returns place out (laid_from (is_named k) 0 k.blocks) first
  flat_is =
      let z : 0 + first ≡ first = omega arith in
      steps_append returns place out (goto 0 k.entry) (laid_from (is_named k) 0 k.blocks) 0
      ∙ ap (λ q. steps_of returns place out (goto 0 k.entry) 0
      ++ steps_of returns place out (laid_from (is_named k) 0 k.blocks) q) z

  module _ (can : CanLay returns k) where
    label_place : (b : ℕ) → b < length k.blocks → is_named k b ≡ true → place b ≡ rest_at b
    label_place b lt named =
        let rest = laid_from (is_named k) 0 k.blocks in
        let z : 0 + first ≡ first = omega arith in
        let e : b ≡ 0 + b = omega arith in
        ap (λ ls. found_in ls out b)
        (labels_append returns (goto 0 k.entry) rest 0
        ∙ ap (λ ls. ls ++ labels_in returns rest (0 + first)) (unlabelled_jump returns 0 k.entry 0))
        ∙ ap (λ q. found_in (labels_in returns rest q) out b) z
        ∙ label_leads returns (is_named k) b 0 b k.blocks out first e can.simple lt named

    block_stands : (b p : ℕ) → b < length k.blocks → p ≡ rest_at b → StandsFrom k lines b p
    block_stands b p lt at =
        let jump = goto 0 k.entry in
        let rest = laid_from (is_named k) 0 k.blocks in
        let e : b ≡ 0 + b = omega arith in
        ap (λ xs. drop p xs) flat_is
        ∙ ap (λ r. drop r (steps_of returns place out jump 0 ++ steps_of returns place out rest first)) at
        ∙ drop_past (steps_of returns place out jump 0) (steps_of returns place out rest first) first
        (position returns 0 k.blocks b) ((measured_jump returns 0 k.entry).steps place out 0)
        ∙ placed returns (is_named k) place out b 0 b k.blocks first e can.simple lt
        ∙ ap (steps_of returns place out (laid_from (is_named k) b (drop b k.blocks))) (sym at)

    leads : (b : ℕ) → b < length k.blocks → is_named k b ≡ true → Leads k lines b
    leads b lt named = (lt, block_stands b (place b) lt (label_place b lt named))

    pub jump_leads : (next to : ℕ)
        → to < length k.blocks
        → ((to ≢ next) → is_named k to ≡ true)
        → JumpLeads k lines next to
    jump_leads next to lt named = (lt, λ ne. (leads to lt (named ne)).1)

    arms_lead : (arms : List Arm)
        → ArmsBelow (length k.blocks) arms
        → ((b : ℕ) → arms_name arms b ≡ true → is_named k b ≡ true)
        → ArmsLead k lines arms
    arms_lead [] below names = tt
    arms_lead (a ∷ rest) below names = (
      leads a.to below.0 (names a.to (true_or (a.to == a.to) (arms_name rest a.to) (same_number a.to))),
      arms_lead rest below.1 (λ b h. names b (or_true (a.to == b) (arms_name rest b) h)),
    )

    exit_laid : (next : ℕ) (e : Exit)
        → ExitBelow (length k.blocks) e
        → ((b : ℕ) → exit_names next e b ≡ true → is_named k b ≡ true)
        → IsLaid k lines next e
    exit_laid next (X.Return e) below names = tt
    exit_laid next (X.Jump to) below names = jump_leads next to below (λ ne. names to (jump_named next to ne))
    exit_laid next (X.Test c taken other) below names = (
      leads taken below.0
          (names taken (true_or (taken == taken) (jump_names next other taken) (same_number taken))),
      jump_leads next other below.1
          (λ ne. names other (or_true (taken == other) (jump_names next other other) (jump_named next other ne))),
    )
    exit_laid next (X.Switch e arms) below names = arms_lead arms below names
    exit_laid next X.Stop below names = tt

    pub lines_given : Given k lines
    lines_given = record {
      simple = λ n x e. simple_at returns k.blocks n x can.simple e;
      leaves = can.leaves;
      exits = λ n x e. exit_laid (suc n) x.exit (below_at (length k.blocks) k.blocks n x can.numbers.exits e)
          (λ b h. block_names k n x b e h);
    }
