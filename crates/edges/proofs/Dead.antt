-- Blocks without what nothing needed depends on show the same. What is needed may be what is live, or less: any set
-- that is closed at the statements that stay, so that a chain of dead assignments goes at once.
use Rattle.std.proofs.Common.{◌≡◌, ◌≢◌, ℕ, List, [], ◌∷◌, Option, Some, refl, sym, ap, ◌∙◌, subst}
use Rattle.machine.specs.TwoWay.{TwoWay}
use Rattle.pcode_model.specs.declared.listing.Listing.{Listing}
use Rattle.pcode_model.specs.World.{Entry}
use Rattle.cmeaning.specs.declared.tree.Expr.TheVariants as E
use Rattle.cmeaning.specs.declared.tree.Stmt.{Stmt}
use Rattle.cmeaning.proofs.Value.{value_of_var, width_of_var}
use Rattle.blockcode.specs.declared.code.Exit.TheVariants as X
use Rattle.blockcode.specs.Run.{call_returns}
use Rattle.parts.specs.Exprs.{reads_all, own, named, KeepsWidths}
use Rattle.parts.specs.Stmts.{action_of, target_of, args_of}
use Rattle.parts.proofs.Nodes.{with_var}
use Rattle.parts.proofs.Values.{with_each_itself}
use Rattle.edges.specs.Exits.{exit_args, leads, LeadsTo}
use Rattle.edges.specs.Run.{Blocks, stmts_at, exit_at, seen_blocks}
use Rattle.edges.specs.Live.{Live, Read, Past, Leave, Onward, IsDefined, IsLeftOf}
use Rattle.edges.specs.Dead.{IsKept, IsDropped, Pruned, Finish, Keep, Drop, PrunedBlocks}
use Rattle.edges.specs.Follow.{Link, Needs, NothingKnown, Needed, IsQuiet, Follows, Ends, Kept, Gone, StandsFor}
use Rattle.edges.proofs.Follow.{shows_the_same, target_defined}
use Rattle.edges.proofs.Returns.{KeepsCalls, Nothing, Both, Less, left_behind, returns_kept, quiet_no_call}
use Rattle.edges.proofs.Steps.{KeepsStmt, both_do, source_drops, KeepsExit, both_leave, own_carried, moved_own}

-- ---- each variable is seen as itself

abbrev pub Itself : Blocks → Blocks → Link
Itself k m = record { source = k; target = m; to = λ b. b; at = λ b. own }

own_widths : (k m : Blocks) (count : ℕ → ℕ) → k.widths ≡ m.widths → KeepsWidths k.widths m.widths own count
own_widths k m count e v r = width_of_var m.widths v ∙ ap (λ (w : ℕ → ℕ). w v) (sym e)

-- ---- the runs

calls_stay : (needs : Needs) (b : ℕ) (rest rest' : List Stmt) → Pruned needs b rest rest' → KeepsCalls rest rest'
calls_stay needs b rest rest' Finish = Nothing
calls_stay needs b rest rest' (Keep a r r' kept next) = Both a a r r' (calls_stay needs b r r' next)
calls_stay needs b rest rest' (Drop a r r' dropped next) =
    Less a r r' (quiet_no_call a dropped.quiet) (calls_stay needs b r r' next)

module _ (l : Listing) (needs : Needs) (k m : Blocks) (p : PrunedBlocks needs k m) where
  abbrev link : Link
  link = Itself k m

  own_stmt : (b : ℕ) (a : Stmt) (rest rest' : List Stmt)
      → IsKept needs b a rest
      → Pruned needs b rest rest'
      → (exit_at k b ≡ X.Stop → IsLeftOf rest)
      → KeepsStmt link needs b own own a a rest rest'
  own_stmt b a rest rest' kept next left = record {
    action = refl;
    returns = λ c e.
        returns_kept rest rest' (exit_at k b) (calls_stay needs b rest rest' next) left
        ∙ ap (λ x. call_returns rest' x) (p.exits b);
    args = with_each_itself (args_of a);
    widths = own_widths k m (reads_all (args_of a)) p.widths;
    needed = kept.reads;
    carried = λ v need.
        own_carried k.widths m.widths (needs b (a ∷ rest)) (target_of a) v (ap (λ (w : ℕ → ℕ). w v) p.widths)
        (kept.past v need);
  }

  pruned_exit : (b : ℕ) → KeepsExit link needs b own
  pruned_exit b = record {
    leads = λ ns. sym (ap (λ x. leads x ns) (p.exits b)) ∙ sym (moved_own (leads (exit_at k b) ns));
    args = with_each_itself (exit_args (exit_at k b)) ∙ ap exit_args (p.exits b);
    widths = own_widths k m (reads_all (exit_args (exit_at k b))) p.widths;
    needed = p.leave b;
    edges = λ c to v need. record {
      needed = p.onward b c v to need;
      same = with_var (named (m.through b c)) v ∙ ap (λ (g : ℕ → ℕ → ℕ → ℕ). E.Var (g b c v)) (sym p.through);
      widths = λ y r. p.even b c y;
    };
  }

  pruned_follows : (b : ℕ) (rest rest' : List Stmt)
      → Pruned needs b rest rest'
      → (exit_at k b ≡ X.Stop → IsLeftOf rest)
      → Follows l link needs NothingKnown b own rest rest'
  pruned_follows b rest rest' Finish left =
      Ends own [] (both_leave link needs NothingKnown b own (pruned_exit b))
  pruned_follows b rest rest' (Keep a r r' kept next) left =
      let left' = λ (e : exit_at k b ≡ X.Stop). left_behind a r (left e) in
      let step = both_do link needs NothingKnown b own own a a r r' (own_stmt b a r r' kept next left') in
      Kept own own a a r r' step (pruned_follows b r r' next left')
  pruned_follows b rest rest' (Drop a r r' dropped next) left =
      let left' = λ (e : exit_at k b ≡ X.Stop). left_behind a r (left e) in
      let step = source_drops link needs NothingKnown b l own a r r' dropped.quiet dropped.free in
      Gone own own a r r' step (pruned_follows b r r' next left')

  pruned_stands : StandsFor l link needs NothingKnown
  pruned_stands = record {
    entry = p.entry;
    first = λ e v need n h.
        value_of_var m.widths (m.first l e) v
        ∙ sym (ap (λ (g : Listing → Entry → ℕ → Option ℕ). g l e v) p.first)
        ∙ h;
    blocks = λ b. pruned_follows b (stmts_at k b) (stmts_at m b) (p.stmts b) (p.stops b);
  }

  module _ (e : Entry) (defined : IsDefined l k e) where
    -- Blocks less what isn't needed show the same.
    pub pruned_shows : TwoWay (seen_blocks l k e) (seen_blocks l m e)
    pruned_shows = shows_the_same l link needs NothingKnown pruned_stands e (λ i j. tt) defined

    pub pruned_defined : IsDefined l m e
    pruned_defined = target_defined l link needs NothingKnown pruned_stands e (λ i j. tt) defined

-- ---- what is live is such a set

some_is : {v y : ℕ} → Some v ≡ Some y → v ≡ y
some_is e = cc

module _ (k : Blocks) (b : ℕ) where
  -- With what is live each statement may stay.
  pub live_kept : (a : Stmt) (rest : List Stmt) → IsKept (Live k) b a rest
  live_kept a rest = record {
    reads = λ v r. Read b a rest v r;
    past = λ v live ne. Past b a rest v ne live;
  }

  -- A quiet one whose target isn't live may go.
  pub dead_dropped : (a : Stmt) (rest : List Stmt) (v : ℕ)
      → target_of a ≡ Some v
      → IsQuiet (action_of a)
      → (Live k b rest v → ⊥)
      → IsDropped (Live k) b a rest
  dead_dropped a rest v is quiet dead = record {
    quiet = quiet;
    free = λ w live.
        let P : ℕ → Type 0 = λ z. Live k b rest z in
        let ne : target_of a ≢ Some w = λ e. dead (subst P (some_is (sym e ∙ is)) live) in
        (ne, Past b a rest w ne live);
  }

  pub live_leave : Needed (reads_all (exit_args (exit_at k b))) (Live k b [])
  live_leave v r = Leave b v r

  pub live_onward : (c v : ℕ)
      → LeadsTo (exit_at k b) c
      → Live k c (stmts_at k c) v
      → Live k b [] (k.through b c v)
  live_onward c v to live = Onward b c (k.through b c v) v to refl live
