-- Where the code of each block stands, and where its label leads.
use Rattle.std.proofs.Common.{◌≡◌, ◌≢◌, ℕ, zero, suc, ◌+◌, ◌<◌, Bool, true, false, List, [], ◌∷◌, ◌++◌, length, drop, refl, sym, ap, ◌∙◌, arith}
use Rattle.std.specs.Prelude.{◌==◌, cond}
use Rattle.std.proofs.lemmas.Bool.Decides.{nat_tests}
use Rattle.cmeaning.specs.declared.tree.Stmt.{Stmt}
use Rattle.cmeaning.specs.declared.tree.Stmt.TheVariants as S
use Rattle.cmeaning.specs.Flat.{found_in, piece_of}
use Rattle.cmeaning.proofs.Flat.{piece_of_if, piece_of_label, piece_of_return}
use Rattle.blockcode.specs.declared.code.Exit.{Exit}
use Rattle.blockcode.specs.declared.code.Exit.TheVariants as X
use Rattle.blockcode.specs.declared.code.Block.{Block}
use Rattle.blockcode.specs.CanLay.{AllSimple, AreSimple}
use Rattle.blockcode.specs.Laid.{by_value, label_line, goto, exit_lines, laid_from}
use Rattle.layout_laws.proofs.Pieces.{span_of, labels_in, steps_of, steps_append, labels_append, simple_labels, IsMeasured, simple_measured, measured_append, drop_past, measured_goto, measured_return, measured_label, measured_if, label_none}
use Rattle.layout_laws.proofs.Switches.{switch_labels, switch_measured}

-- ---- lines of a block

module _ (returns : ℕ → Bool) where
  measured_none : IsMeasured returns []
  measured_none = record { steps = λ place out p. refl }

  measured_label_line : (b : Bool) (n : ℕ) → IsMeasured returns (label_line b n)
  measured_label_line true n = measured_label returns n
  measured_label_line false n = measured_none

  pub measured_jump : (next to : ℕ) → IsMeasured returns (goto next to)
  measured_jump next to = by (to == next) where
    by : (b : Bool) → IsMeasured returns (cond b [] (S.Goto to ∷ []))
    by true = measured_none
    by false = measured_goto returns to

  pub measured_exit : (next : ℕ) (e : Exit) → IsMeasured returns (exit_lines next e)
  measured_exit next (X.Return e) = measured_return returns e
  measured_exit next (X.Jump to) = measured_jump next to
  measured_exit next (X.Test c taken other) =
      measured_append returns (S.If c (S.Goto taken ∷ []) ∷ []) (goto next other)
      (measured_if returns c (S.Goto taken ∷ []) (measured_goto returns taken)) (measured_jump next other)
  measured_exit next (X.Switch e arms) = switch_measured (by_value arms) returns e
  measured_exit next X.Stop = measured_none

  pub unlabelled_jump : (next to p : ℕ) → labels_in returns (goto next to) p ≡ []
  unlabelled_jump next to p = by (to == next) where
    by : (b : Bool) → labels_in returns (cond b [] (S.Goto to ∷ [])) p ≡ []
    by true = refl
    by false = label_none returns to p

  unlabelled_exit : (next : ℕ) (e : Exit) (p : ℕ) → labels_in returns (exit_lines next e) p ≡ []
  unlabelled_exit next (X.Return e) p = ap (λ a. a.labels p ++ []) (piece_of_return returns e)
  unlabelled_exit next (X.Jump to) p = unlabelled_jump next to p
  unlabelled_exit next (X.Test c taken other) p =
      let a = piece_of returns (S.If c (S.Goto taken ∷ [])) in
      ap (λ l. l ++ labels_in returns (goto next other) (p + a.span))
      (ap (λ a. a.labels p) (piece_of_if returns c (S.Goto taken ∷ [])) ∙ label_none returns taken (suc p))
      ∙ unlabelled_jump next other (p + a.span)
  unlabelled_exit next (X.Switch e arms) p = switch_labels (by_value arms) returns e p
  unlabelled_exit next X.Stop p = refl

-- ---- blocks

module _ (returns : ℕ → Bool) where
  -- how many steps a block makes
  abbrev pub block_span : ℕ → Block → ℕ
  block_span n x = span_of returns x.body + span_of returns (exit_lines (suc n) x.exit)

  -- where the code of the block c after the first stands, from where the first one's does
  abbrev pub position : ℕ → List Block → ℕ → ℕ
  position n [] c = 0
  position n (x ∷ xs) zero = 0
  position n (x ∷ xs) (suc c) = block_span n x + position (suc n) xs c

  pub label_steps : (place : ℕ → ℕ) (out : ℕ) (b : Bool) (n : ℕ) (rest : List Stmt) (p : ℕ)
      → steps_of returns place out (label_line b n ++ rest) p ≡ steps_of returns place out rest p
  label_steps place out false n rest p = refl
  label_steps place out true n rest p =
      let a = piece_of returns (S.Label n) in
      ap (λ b. b.steps place out p ++ steps_of returns place out rest (p + b.span)) (piece_of_label returns n)
      ∙ ap (steps_of returns place out rest) (let e : p + 0 ≡ p = omega arith in e)

  module _ (named : ℕ → Bool) where
    -- after a block's lines come the next block's
    past_block : (place : ℕ → ℕ) (out n : ℕ) (x : Block) (xs : List Block) (p m : ℕ)
        → AreSimple returns x.body x.exit
        → drop (block_span n x + m) (steps_of returns place out (laid_from named n (x ∷ xs)) p)
        ≡ drop m (steps_of returns place out (laid_from named (suc n) xs) (p + block_span n x))
    past_block place out n x xs p m simple =
        let a = span_of returns x.body in
        let ex = exit_lines (suc n) x.exit in
        let b = span_of returns ex in
        let rest = laid_from named (suc n) xs in
        let r = ex ++ rest in
        let e : (a + b) + m ≡ a + (b + m) = omega arith in
        let f : p + a + b ≡ p + (a + b) = omega arith in
        ap (drop ((a + b) + m)) (label_steps place out (named n) n (x.body ++ r) p
        ∙ steps_append returns place out x.body r p)
        ∙ ap (λ k. drop k (steps_of returns place out x.body p ++ steps_of returns place out r (p + a))) e
        ∙ drop_past (steps_of returns place out x.body p) (steps_of returns place out r (p + a)) a (b + m)
        ((simple_measured returns x.body x.exit simple).steps place out p)
        ∙ ap (drop (b + m)) (steps_append returns place out ex rest (p + a))
        ∙ drop_past (steps_of returns place out ex (p + a)) (steps_of returns place out rest (p + a + b)) b m
        ((measured_exit returns (suc n) x.exit).steps place out (p + a))
        ∙ ap (λ q. drop m (steps_of returns place out rest q)) f

    -- a block's code stands at its position
    pub placed : (place : ℕ → ℕ) (out c n m : ℕ) (xs : List Block) (p : ℕ)
        → m ≡ n + c
        → AllSimple returns xs
        → c < length xs
        → drop (position n xs c) (steps_of returns place out (laid_from named n xs) p)
        ≡ steps_of returns place out (laid_from named m (drop c xs)) (p + position n xs c)
    placed place out c n m [] p e all lt = absurd (omega arith)
    placed place out zero n m (x ∷ xs) p e all lt =
        let h : n ≡ m = omega (arith, e) in
        let g : p ≡ p + 0 = omega arith in
        ap (λ k. steps_of returns place out (laid_from named k (x ∷ xs)) p) h
        ∙ ap (steps_of returns place out (laid_from named m (x ∷ xs))) g
    placed place out (suc c) n m (x ∷ xs) p e all lt =
        let k = block_span n x in
        let q = position (suc n) xs c in
        let h : m ≡ suc n + c = omega (arith, e) in
        let g : p + k + q ≡ p + (k + q) = omega arith in
        past_block place out n x xs p q all.0
        ∙ placed place out c (suc n) m xs (p + k) h all.1 (omega (arith, lt))
        ∙ ap (steps_of returns place out (laid_from named m (drop c xs))) g

-- ---- labels

found_here : (labels : List (ℕ × ℕ)) (d m p : ℕ) → found_in ((m, p) ∷ labels) d m ≡ p
found_here labels d m p = let t : (m == m) ≡ true = grind (arith, nat_tests) in
    ap (λ b. cond b p (found_in labels d m)) t

found_past : (labels : List (ℕ × ℕ)) (d m n p : ℕ) → n ≢ m → found_in ((n, p) ∷ labels) d m ≡ found_in labels d m
found_past labels d m n p ne = let t : (n == m) ≡ false = grind (arith, nat_tests) in
    ap (λ b. cond b p (found_in labels d m)) t

module _ (returns named : ℕ → Bool) where
  -- the labels of a block and of those after it
  block_labels : (n : ℕ) (x : Block) (xs : List Block) (p : ℕ)
      → AreSimple returns x.body x.exit
      → labels_in returns (x.body ++ (exit_lines (suc n) x.exit ++ laid_from named (suc n) xs)) p
      ≡ labels_in returns (laid_from named (suc n) xs) (p + block_span returns n x)
  block_labels n x xs p simple =
      let a = span_of returns x.body in
      let ex = exit_lines (suc n) x.exit in
      let b = span_of returns ex in
      let rest = laid_from named (suc n) xs in
      let f : p + a + b ≡ p + (a + b) = omega arith in
      labels_append returns x.body (ex ++ rest) p
      ∙ ap (λ l. l ++ labels_in returns (ex ++ rest) (p + a)) (simple_labels returns x.body x.exit p simple)
      ∙ labels_append returns ex rest (p + a)
      ∙ ap (λ l. l ++ labels_in returns rest (p + a + b)) (unlabelled_exit returns (suc n) x.exit (p + a))
      ∙ ap (labels_in returns rest) f

  -- the label line of another block is passed
  line_past : (b : Bool) (n : ℕ) (rest : List Stmt) (d m p : ℕ)
      → n ≢ m
      → found_in (labels_in returns (label_line b n ++ rest) p) d m ≡ found_in (labels_in returns rest p) d m
  line_past false n rest d m p ne = refl
  line_past true n rest d m p ne =
      let z : p + 0 ≡ p = omega arith in
      ap (λ a. found_in (a.labels p ++ labels_in returns rest (p + a.span)) d m) (piece_of_label returns n)
      ∙ found_past (labels_in returns rest (p + 0)) d m n p ne
      ∙ ap (λ q. found_in (labels_in returns rest q) d m) z

  line_here : (b : Bool) (n : ℕ) (rest : List Stmt) (d p : ℕ)
      → b ≡ true
      → found_in (labels_in returns (label_line b n ++ rest) p) d n ≡ p
  line_here false n rest d p e = absurd (cc)
  line_here true n rest d p e =
      ap (λ a. found_in (a.labels p ++ labels_in returns rest (p + a.span)) d n) (piece_of_label returns n)
      ∙ found_here (labels_in returns rest (p + 0)) d n p

  -- the label of a block leads to its position
  pub label_leads : (c n m : ℕ) (xs : List Block) (d p : ℕ)
      → m ≡ n + c
      → AllSimple returns xs
      → c < length xs
      → named m ≡ true
      → found_in (labels_in returns (laid_from named n xs) p) d m ≡ p + position returns n xs c
  label_leads c n m [] d p e all lt is = absurd (omega arith)
  label_leads zero n m (x ∷ xs) d p e all lt is =
      let h : m ≡ n = omega (arith, e) in
      let z : p ≡ p + 0 = omega arith in
      let ss = x.body ++ (exit_lines (suc n) x.exit ++ laid_from named (suc n) xs) in
      ap (found_in (labels_in returns (label_line (named n) n ++ ss) p) d) h
      ∙ line_here (named n) n ss d p (ap named (sym h) ∙ is) ∙ z
  label_leads (suc c) n m (x ∷ xs) d p e all lt is =
      let k = block_span returns n x in
      let q = position returns (suc n) xs c in
      let h : m ≡ suc n + c = omega (arith, e) in
      let g : p + k + q ≡ p + (k + q) = omega arith in
      line_past (named n) n (x.body ++ (exit_lines (suc n) x.exit ++ laid_from named (suc n) xs)) d m p
      (λ f. absurd (omega (arith, f, h)))
      ∙ ap (λ ls. found_in ls d m) (block_labels n x xs p all.0)
      ∙ label_leads c (suc n) m xs d (p + k) h all.1 (omega (arith, lt)) is
      ∙ g
