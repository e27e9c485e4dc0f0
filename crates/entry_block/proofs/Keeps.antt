-- What stays where a code begins apart, and that no edge leads to its entry.
use Rattle.std.proofs.Common.{◌≡◌, ◌≢◌, ◌∙◌, ℕ, zero, suc, ◌==◌, ◌<◌, Bool, true, false, cond, List, [], ◌∷◌, Option, Some, None, refl, sym, ap, subst, ⊎_elim, arith, true≢false}
use Rattle.std.specs.Prelude.{slice_get, ◌||◌}
use Rattle.std.specs.Option.{option_map}
use Rattle.std.proofs.lemmas.Bool.{cases_eq, or_left, or_right}
use Rattle.pcode_model.specs.declared.listing.Listing.{Listing}
use Rattle.pcode_model.specs.World.{Entry}
use Rattle.cmeaning.specs.declared.tree.Expr.{Expr}
use Rattle.cmeaning.specs.declared.tree.Stmt.{Stmt}
use Rattle.blockcode.specs.declared.code.Arm.{Arm}
use Rattle.blockcode.specs.declared.code.Exit.{Exit}
use Rattle.blockcode.specs.declared.code.Exit.TheVariants as X
use Rattle.blockcode.specs.declared.code.Block.{Block}
use Rattle.blockcode.specs.declared.code.Code.{Code}
use Rattle.blockcode.specs.Numbers.{AreNumbered}
use Rattle.parts.specs.Exprs.{AreTotal, reads_all}
use Rattle.edges.specs.Exits.{exit_args, LeadsTo, Onto, Out, Where, by_arms, leads}
use Rattle.edges.specs.Run.{Blocks, blocks_of_code, exit_at, exit_of, stmts_at}
use Rattle.edges.specs.Live.{AreSound, EndsInCall, IsBlock, IsSound, IsStrict, Leave, Live, Onward, Past, Read}
use Rattle.edges.specs.Follow.{moved}
use Rattle.entry_block.specs.Entered.{arm_names, begun_apart, entered, first_block, names, shifted, shifted_block, some_names}
use Rattle.entry_block.proofs.Rows.{entry_row, moved_row, never_entry, old_number, shifted_high}
use Rattle.entry_block.proofs.Moved.{args_moved, entry_exit, entry_stmts, exit_is, leads_moved, stmts_are, stop_moved}

-- ---- an exit names where it leads

onto_same : {b c : ℕ} → Onto b ≡ Onto c → b ≡ c
onto_same e = cc

equal : (a b : ℕ) → a ≡ b → (a == b) ≡ true
equal a b e = grind arith

arms_named : (n : ℕ) (arms : List Arm) (m : ℕ) → by_arms arms m ≡ Onto n → arm_names n arms ≡ true
arms_named n [] m e = absurd (cc)
arms_named n (a ∷ rest) m e = by (a.value == m) refl (arms_named n rest m)
  where
    to_first : (c : Bool) → (a.value == m) ≡ c → cond c (Onto a.to) (by_arms rest m) ≡ Onto n
    to_first c is = sym (ap (λ t. cond t (Onto a.to) (by_arms rest m)) is) ∙ e

    by : (c : Bool)
        → (a.value == m) ≡ c
        → (by_arms rest m ≡ Onto n → arm_names n rest ≡ true)
        → ((a.to == n) || arm_names n rest) ≡ true
    by true is later = or_left (a.to == n) (arm_names n rest) (equal a.to n (onto_same (to_first true is)))
    by false is later = or_right (a.to == n) (arm_names n rest) (later (to_first false is))

leads_named : (n : ℕ) (x : Exit) (ns : List ℕ) → leads x ns ≡ Onto n → names n x ≡ true
leads_named n (X.Return None) ns e = absurd (cc)
leads_named n (X.Return (Some u)) [] e = absurd (cc)
leads_named n (X.Return (Some u)) (m ∷ ns) e = absurd (cc)
leads_named n (X.Jump to) ns e = equal to n (onto_same e)
leads_named n (X.Test u taken other) [] e = absurd (cc)
leads_named n (X.Test u taken other) (zero ∷ ns) e =
    or_right (taken == n) (other == n) (equal other n (onto_same e))
leads_named n (X.Test u taken other) (suc m ∷ ns) e = or_left (taken == n) (other == n) (equal taken n (onto_same e))
leads_named n (X.Switch u arms) [] e = absurd (cc)
leads_named n (X.Switch u arms) (m ∷ ns) e = arms_named n arms m e
leads_named n X.Stop ns e = absurd (cc)

some_named : (n : ℕ) (blocks : List Block) (b : ℕ) (ns : List ℕ)
    → leads (exit_of (slice_get blocks b)) ns ≡ Onto n
    → some_names n blocks ≡ true
some_named n [] b ns e = absurd (cc)
some_named n (x ∷ rest) zero ns e = or_left (names n x.exit) (some_names n rest) (leads_named n x.exit ns e)
some_named n (x ∷ rest) (suc b) ns e = or_right (names n x.exit) (some_names n rest) (some_named n rest b ns e)

-- ---- with a block of its own

block_back : (n : ℕ) (o : Option Block) (x : Block) → option_map (shifted_block n) o ≡ Some x → (y : Block) × (o ≡ Some y)
block_back n None x e = absurd (cc)
block_back n (Some y) x e = (y, refl)

module _ (k : Code) (numbered : AreNumbered k) where
  abbrev source : Blocks
  source = blocks_of_code k

  abbrev target : Blocks
  target = blocks_of_code (entered k)

  abbrev to : ℕ → ℕ
  to = shifted k.entry

  -- where the moved exit leads, the old one led
  abbrev LedBack : ℕ → ℕ → Type 0
  LedBack b c = (d : ℕ) × (LeadsTo (exit_at source b) d × (c ≡ to d))

  where_back : (b c : ℕ) (ns : List ℕ) (h : Where)
      → leads (exit_at source b) ns ≡ h
      → moved to h ≡ Onto c
      → LedBack b c
  where_back b c ns (Onto d) is e = (d, ((ns, is), sym (onto_same e)))
  where_back b c ns (Out h) is e = absurd (cc)

  leads_back : (b c : ℕ) → LeadsTo (exit_at target (to b)) c → LedBack b c
  leads_back b c led =
      let x = exit_at source b in
      where_back b c led.0 (leads x led.0) refl
      (sym (leads_moved k.entry x led.0) ∙ sym (ap (λ z. leads z led.0) (exit_is k numbered b)) ∙ led.1)

  -- from the new block an edge leads to the one behind it alone
  first_leads : (c : ℕ) → LeadsTo (exit_at target k.entry) c → c ≡ to k.entry
  first_leads c led =
      let onto : Onto (suc k.entry) ≡ Onto c = sym (ap (λ z. leads z led.0) (entry_exit k numbered)) ∙ led.1 in
      sym (onto_same onto) ∙ sym (shifted_high k.entry k.entry (omega arith))

  -- What holds of the new block and of each moved one holds of all.
  each_block : (P : ℕ → Type 0) → P k.entry → ((b : ℕ) → P (to b)) → (b : ℕ) → P b
  each_block P here there b =
      ⊎_elim (λ (e : b ≡ k.entry). subst P (sym e) here)
      (λ (ne : b ≢ k.entry). let old = old_number k.entry b ne in subst P old.1 (there old.0))
      (cases_eq b k.entry)

  none_leads : (b : ℕ) → LeadsTo (exit_at target b) k.entry → ⊥
  none_leads =
      each_block (λ b. LeadsTo (exit_at target b) k.entry → ⊥)
      (λ led. never_entry k.entry k.entry (sym (first_leads k.entry led)))
      (λ b led. let back = leads_back b k.entry led in never_entry k.entry back.0 (sym back.1.1))

  moved_block : (b : ℕ) → IsBlock source b → IsBlock target (to b)
  moved_block b is =
      (shifted_block k.entry is.0, moved_row k numbered b ∙ ap (option_map (shifted_block k.entry)) is.1)

  entered_sound : IsSound source → IsSound target
  entered_sound sound = record {
    entry = (first_block k.entry, entry_row k numbered);
    onward =
        each_block (λ b. (c : ℕ) → LeadsTo (exit_at target b) c → IsBlock target c)
        (λ c led.
        let P : ℕ → Type 0 = λ d. IsBlock target d in
        subst P (sym (first_leads c led)) (moved_block k.entry sound.entry))
        (λ b c led.
        let back = leads_back b c led in
        let P : ℕ → Type 0 = λ d. IsBlock target d in
        subst P (sym back.1.1) (moved_block back.0 (sound.onward b back.0 back.1.0)));
    stmts =
        let P : List Stmt → Type 0 = λ rest. AreSound target.widths rest in
        each_block (λ b. AreSound target.widths (stmts_at target b)) (subst P (sym (entry_stmts k numbered)) tt)
        (λ b. subst P (sym (stmts_are k numbered b)) (sound.stmts b));
    exits =
        let P : Exit → Type 0 = λ x. AreTotal target.widths (exit_args x) in
        let Q : List Expr → Type 0 = λ es. AreTotal target.widths es in
        each_block (λ b. AreTotal target.widths (exit_args (exit_at target b)))
        (subst P (sym (entry_exit k numbered)) tt)
        (λ b. subst P (sym (exit_is k numbered b)) (subst Q (sym (args_moved k.entry (exit_at source b))) (sound.exits b)));
    stops =
        each_block (λ b. IsBlock target b → exit_at target b ≡ X.Stop → EndsInCall (stmts_at target b))
        (λ is stop. let jump : X.Jump (suc k.entry) ≡ X.Stop = sym (entry_exit k numbered) ∙ stop in absurd (cc))
        (λ b is stop.
        let P : List Stmt → Type 0 = λ rest. EndsInCall rest in
        let old = block_back k.entry (slice_get k.blocks b) is.0 (sym (moved_row k numbered b) ∙ is.1) in
        subst P (sym (stmts_are k numbered b))
        (sound.stops b old (stop_moved k.entry (exit_at source b) (sym (exit_is k numbered b) ∙ stop))));
  }

  live_back : (b d : ℕ) (rest : List Stmt) (v : ℕ) → d ≡ to b → Live target d rest v → Live source b rest v
  live_back b d left u is (Read e a rest v r) = Read b a rest v r
  live_back b d left u is (Past e a rest v ne live) = Past b a rest v ne (live_back b e rest v is live)
  live_back b d left u is (Leave e v r) =
      let P : List Expr → Type 0 = λ es. 0 < reads_all es v in
      let args : exit_args (exit_at target e) ≡ exit_args (exit_at source b) =
      ap (λ c. exit_args (exit_at target c)) is ∙ ap exit_args (exit_is k numbered b)
      ∙ args_moved k.entry (exit_at source b) in
      Leave b v (subst P args r)
  live_back b d left u is (Onward e c v w led same live) =
      let Q : ℕ → Type 0 = λ z. LeadsTo (exit_at target z) c in
      let back = leads_back b c (subst Q is led) in
      let P : List Stmt → Type 0 = λ r. Live source back.0 r w in
      let there = live_back back.0 c (stmts_at target c) w back.1.1 live in
      Onward b back.0 v w back.1.0 same
      (subst P (ap (stmts_at target) back.1.1 ∙ stmts_are k numbered back.0) there)

  entry_back : (v : ℕ) (rest : List Stmt) → rest ≡ [] → Live target k.entry rest v → Live source k.entry (stmts_at source k.entry) v
  entry_back u left none (Read d a rest v r) = absurd (cc)
  entry_back u left none (Past d a rest v ne live) = absurd (cc)
  entry_back u left none (Leave d v r) =
      let P : Exit → Type 0 = λ x. 0 < reads_all (exit_args x) v in
      let less : 0 < 0 = subst P (entry_exit k numbered) r in
      absurd (omega (arith, less))
  entry_back u left none (Onward d c v w led same live) =
      let on : c ≡ to k.entry = first_leads c led in
      let there = live_back k.entry c (stmts_at target c) w on live in
      let P : List Stmt → Type 0 = λ r. Live source k.entry r w in
      let Q : ℕ → Type 0 = λ z. Live source k.entry (stmts_at source k.entry) z in
      subst Q same (subst P (ap (stmts_at target) on ∙ stmts_are k numbered k.entry) there)

  entered_strict : (l : Listing) (e : Entry) → IsStrict l source e → IsStrict l target e
  entered_strict l e strict v live =
      strict v (entry_back v (stmts_at target k.entry) (entry_stmts k numbered) live)

  -- ---- the whole

  -- What holds of the code, and of it with the new block, holds of the code that begins apart.
  begun : (P : Code → Type 0) → (some_names k.entry k.blocks ≡ false → P k) → P (entered k) → P (begun_apart k)
  begun P itself new = by (some_names k.entry k.blocks) refl
    where
      by : (c : Bool) → some_names k.entry k.blocks ≡ c → P (cond c (entered k) k)
      by true is = new
      by false is = itself is

  -- No edge leads to its entry.
  pub apart : (b : ℕ) → LeadsTo (exit_at (blocks_of_code (begun_apart k)) b) k.entry → ⊥
  apart b =
      begun (λ m. LeadsTo (exit_at (blocks_of_code m) b) k.entry → ⊥)
      (λ none led. true≢false (sym (some_named k.entry k.blocks b led.0 led.1) ∙ none))
      (none_leads b)

  -- It is sound where the code is.
  pub apart_sound : IsSound source → IsSound (blocks_of_code (begun_apart k))
  apart_sound sound = begun (λ m. IsSound (blocks_of_code m)) (λ none. sound) (entered_sound sound)

  -- What is live as it is entered has a word where this holds of the code.
  pub apart_strict : (l : Listing) (e : Entry) → IsStrict l source e → IsStrict l (blocks_of_code (begun_apart k)) e
  apart_strict l e strict = begun (λ m. IsStrict l (blocks_of_code m) e) (λ none. strict) (entered_strict l e strict)
