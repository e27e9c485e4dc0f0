-- The run of a code that begins apart is the old one under other numbers, after one step.
use Rattle.std.proofs.Common.{◌∙◌, ℕ, Bool, true, false, cond, List, [], ◌∷◌, refl, sym, ap, subst, arith}
use Rattle.machine.specs.TwoWay.{TwoWay}
use Rattle.machine.proofs.TwoWay.{two_way_refl}
use Rattle.pcode_model.specs.declared.listing.Listing.{Listing}
use Rattle.pcode_model.specs.World.{Entry}
use Rattle.cmeaning.specs.declared.tree.Stmt.{Stmt}
use Rattle.cmeaning.proofs.Value.{value_of_var, width_of_var}
use Rattle.blockcode.specs.declared.code.Exit.TheVariants as X
use Rattle.blockcode.specs.declared.code.Code.{Code}
use Rattle.blockcode.specs.Numbers.{AreNumbered}
use Rattle.blockcode.specs.Run.{call_returns}
use Rattle.parts.specs.Exprs.{KeepsWidths, named, own, reads_all}
use Rattle.parts.specs.Stmts.{args_of, target_of}
use Rattle.parts.proofs.Nodes.{with_var}
use Rattle.parts.proofs.Values.{with_each_itself}
use Rattle.edges.specs.Exits.{exit_args, leads}
use Rattle.edges.specs.Run.{blocks_of_code, exit_at, seen_blocks, stmts_at}
use Rattle.edges.specs.Live.{IsDefined}
use Rattle.edges.specs.Follow.{Ends, Follows, Kept, Link, Needs, NothingKnown, StandsLate}
use Rattle.edges.proofs.Follow.{shows_late}
use Rattle.edges.proofs.Steps.{KeepsExit, KeepsStmt, both_do, both_leave, own_carried}
use Rattle.entry_block.specs.Entered.{begun_apart, entered, shifted, some_names}
use Rattle.entry_block.proofs.Rows.{shifted_high}
use Rattle.entry_block.proofs.Moved.{args_moved, entry_exit, entry_stmts, exit_is, leads_moved, returns_moved, stmts_are}

-- all variables
abbrev all : Needs
all b rest v = Unit {0}

module _ (l : Listing) (k : Code) (numbered : AreNumbered k) where
  abbrev to : ℕ → ℕ
  to = shifted k.entry

  abbrev link : Link
  link = record { source = blocks_of_code k; target = blocks_of_code (entered k); to = to; at = λ b. own }

  same_widths : (count : ℕ → ℕ) → KeepsWidths link.source.widths link.target.widths own count
  same_widths count v r = width_of_var link.target.widths v

  stmt_kept : (b : ℕ) (a : Stmt) (rest : List Stmt) → KeepsStmt link all b own own a a rest rest
  stmt_kept b a rest = record {
    action = refl;
    returns = λ c e.
        sym (returns_moved k.entry rest (exit_at link.source b))
        ∙ sym (ap (call_returns rest) (exit_is k numbered b));
    args = with_each_itself (args_of a);
    widths = same_widths (reads_all (args_of a));
    needed = λ v r. tt;
    carried = λ v need.
        own_carried link.source.widths link.target.widths (all b (a ∷ rest)) (target_of a) v refl (λ e. tt);
  }

  exit_kept : (b : ℕ) → KeepsExit link all b own
  exit_kept b =
      let x = exit_at link.source b in
      record {
        leads = λ ns. ap (λ z. leads z ns) (exit_is k numbered b) ∙ leads_moved k.entry x ns;
        args =
            with_each_itself (exit_args x) ∙ sym (args_moved k.entry x) ∙ sym (ap exit_args (exit_is k numbered b));
        widths = same_widths (reads_all (exit_args x));
        needed = λ v r. tt;
        edges = λ c leads v need. record {
          needed = tt;
          same = with_var (named (link.target.through (to b) (to c))) v;
          widths = λ y r. refl;
        };
      }

  follows : (b : ℕ) (rest : List Stmt) → Follows l link all NothingKnown b own rest rest
  follows b [] = Ends own [] (both_leave link all NothingKnown b own (exit_kept b))
  follows b (a ∷ rest) =
      Kept own own a a rest rest (both_do link all NothingKnown b own own a a rest rest (stmt_kept b a rest))
      (follows b rest)

  stands : StandsLate l link all NothingKnown
  stands = record {
    empty = entry_stmts k numbered;
    jumps = entry_exit k numbered ∙ ap (λ b. X.Jump b) (sym (shifted_high k.entry k.entry (omega arith)));
    first = λ e v need n h. value_of_var link.target.widths (link.target.first l e) v ∙ h;
    blocks = λ b.
        let P : List Stmt → Type 0 = λ r. Follows l link all NothingKnown b own (stmts_at link.source b) r in
        subst P (sym (stmts_are k numbered b)) (follows b (stmts_at link.source b));
  }

  module _ (e : Entry) (defined : IsDefined l (blocks_of_code k) e) where
    entered_shows : TwoWay (seen_blocks l (blocks_of_code k) e) (seen_blocks l (blocks_of_code (entered k)) e)
    entered_shows = shows_late l link all NothingKnown stands e (λ i j. tt) defined

    -- A code that begins apart shows what it showed.
    pub apart_shows : TwoWay (seen_blocks l (blocks_of_code k) e) (seen_blocks l (blocks_of_code (begun_apart k)) e)
    apart_shows =
        let P : Bool → Type 0 =
        λ c. TwoWay (seen_blocks l (blocks_of_code k) e) (seen_blocks l (blocks_of_code (cond c (entered k) k)) e) in
        elim (some_names k.entry k.blocks) as P [
          | true ↦ entered_shows
          | false ↦ two_way_refl (seen_blocks l (blocks_of_code k) e)
        ]
