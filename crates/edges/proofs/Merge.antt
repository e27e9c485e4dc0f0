-- Variables under other names, where two that get one name are never both needed with different words: blocks less the
-- copies of a variable to itself show the same.
use Rattle.std.proofs.Common.{◌≡◌, ◌≢◌, ℕ, ◌<◌, List, [], ◌∷◌, Option, Some, None, refl, sym, ap, ◌∙◌, subst, arith}
use Rattle.machine.specs.TwoWay.{TwoWay}
use Rattle.pcode_model.specs.declared.listing.Listing.{Listing}
use Rattle.pcode_model.specs.World.{Entry}
use Rattle.cmeaning.specs.declared.tree.Expr.{Expr}
use Rattle.cmeaning.specs.declared.tree.Expr.TheVariants as E
use Rattle.cmeaning.specs.declared.tree.Stmt.{Stmt}
use Rattle.cmeaning.specs.declared.tree.Stmt.TheVariants as S
use Rattle.cmeaning.proofs.Value.{value_of_var, width_of_var}
use Rattle.blockcode.specs.declared.code.Exit.{Exit}
use Rattle.blockcode.specs.declared.code.Exit.TheVariants as X
use Rattle.blockcode.specs.Run.{call_returns}
use Rattle.parts.specs.Exprs.{reads, reads_all, named, KeepsWidths}
use Rattle.parts.specs.Stmts.{Action, action_of, target_of, args_of, renamed, IsAssign}
use Rattle.parts.proofs.Nodes.{with_var}
use Rattle.parts.proofs.Values.{read_is}
use Rattle.parts.proofs.Parts.{changed_is, assign_is}
use Rattle.edges.specs.Exits.{exit_args, exit_with, leads}
use Rattle.edges.specs.Run.{Blocks, stmts_at, exit_at, seen_blocks}
use Rattle.edges.specs.Live.{Live, Read, Past, Onward, StandsIn, ByStmt, IsDefined, IsLeftOf}
use Rattle.edges.specs.Follow.{Link, NothingKnown, IsQuiet, SourceDoes, Follows, Ends, Kept, Gone, StandsFor}
use Rattle.edges.specs.Merge.{IsApart, Merged, Finish, Name, Copy, MergedBlocks, NoClash}
use Rattle.edges.proofs.Follow.{shows_the_same, target_defined}
use Rattle.edges.proofs.Returns.{KeepsCalls, Nothing, Both, Less, left_behind, returns_kept, quiet_no_call}
use Rattle.edges.proofs.Steps.{Carried, KeepsStmt, both_do, source_assigns, KeepsExit, both_leave, named_carried, exit_with_args, exit_with_leads, moved_own}
use Rattle.edges.proofs.Dead.{live_leave}

abbrev pub ByName : Blocks → (ℕ → ℕ) → Blocks → Link
ByName k name m = record { source = k; target = m; to = λ b. b; at = λ b. named name }

some_is : {v y : ℕ} → Some v ≡ Some y → v ≡ y
some_is e = cc

quiet_assign : (v : ℕ) (u : Expr) (a : Stmt) → IsAssign v u a → IsQuiet (action_of a)
quiet_assign v u a is = let P : Action → Type 0 = λ z. IsQuiet z in subst P (sym is.action) tt

-- What doesn't clobber may share a name, but at a copy of the one to the other, which is left out.
pub apart_without : (k : Blocks) (name : ℕ → ℕ) (b : ℕ) (a : Stmt) (rest : List Stmt)
    → NoClash k name
    → StandsIn k b a rest
    → ((v w : ℕ) → IsAssign v (E.Var w) a → name v ≢ name w)
    → IsApart k name b (target_of a) rest
apart_without k name b a rest clash stands no_copy y v is live ne same =
    clash y v (λ e. ne (sym e)) (sym same)
    (ByStmt b a rest stands is (λ copy. no_copy y v copy (sym same)) live)

module _ (l : Listing) (k : Blocks) (name : ℕ → ℕ) (m : Blocks) (p : MergedBlocks k name m) where
  abbrev link : Link
  link = ByName k name m

  calls_stay : (b : ℕ) (rest rest' : List Stmt) → Merged k name b rest rest' → KeepsCalls rest rest'
  calls_stay b rest rest' Finish = Nothing
  calls_stay b rest rest' (Name a r r' apart next) = Both a (renamed name a) r r' (calls_stay b r r' next)
  calls_stay b rest rest' (Copy v w r r' same next) =
      let a = S.Assign v (E.Var w) in
      Less a r r' (quiet_no_call a (quiet_assign v (E.Var w) a (assign_is v (E.Var w)))) (calls_stay b r r' next)

  has_width : (count : ℕ → ℕ) → KeepsWidths k.widths m.widths (named name) count
  has_width count v r = width_of_var m.widths (name v) ∙ p.widths v

  -- an exit and its renamed one are Stop together
  returns_named : (rest : List Stmt) (x : Exit) → call_returns rest x ≡ call_returns rest (exit_with (named name) x)
  returns_named [] (X.Return None) = refl
  returns_named [] (X.Return (Some e)) = refl
  returns_named [] (X.Jump c) = refl
  returns_named [] (X.Test e c d) = refl
  returns_named [] (X.Switch e arms) = refl
  returns_named [] X.Stop = refl
  returns_named (a ∷ rest) x = refl

  stays : (b : ℕ) (a : Stmt) (rest rest' : List Stmt)
      → IsApart k name b (target_of a) rest
      → Merged k name b rest rest'
      → (exit_at k b ≡ X.Stop → IsLeftOf rest)
      → KeepsStmt link (Live k) b (named name) (named name) a (renamed name a) rest rest'
  stays b a rest rest' apart next left =
      let is = changed_is name (named name) a in
      let carried = λ (i' : Option ℕ) (v : ℕ).
      Carried k.widths m.widths (Live k b (a ∷ rest)) (named name) (named name)
      (target_of a) i' v in
      record {
        action = sym is.action;
        returns = λ c e.
            returns_kept rest rest' (exit_at k b) (calls_stay b rest rest' next) left
            ∙ returns_named rest' (exit_at k b)
            ∙ ap (call_returns rest') (sym (p.exits b));
        args = sym is.args;
        widths = has_width (reads_all (args_of a));
        needed = λ v r. Read b a rest v r;
        carried = λ v live.
            let P : Option ℕ → Type 0 = λ i'. carried i' v in
            subst P (sym is.target)
            (named_carried k.widths m.widths (Live k b (a ∷ rest)) name (target_of a) v (p.widths v)
            (λ y e ne. apart y v e live ne) (λ ne. Past b a rest v ne live));
      }

  leaves : (b : ℕ) → KeepsExit link (Live k) b (named name)
  leaves b = record {
    leads = λ ns.
        ap (λ x. leads x ns) (p.exits b)
        ∙ exit_with_leads (named name) (exit_at k b) ns
        ∙ sym (moved_own (leads (exit_at k b) ns));
    args = sym (exit_with_args (named name) (exit_at k b)) ∙ sym (ap exit_args (p.exits b));
    widths = has_width (reads_all (exit_args (exit_at k b)));
    needed = live_leave k b;
    edges = λ c to v live.
        let edge = p.edges b c v to live in
        record {
          needed = Onward b c (k.through b c v) v to refl live;
          same = with_var (named (m.through b c)) (name v) ∙ ap (λ z. E.Var z) edge;
          widths = λ y r.
              let P : ℕ → Type 0 = λ z. m.widths (m.through b c z) ≡ m.widths z in
              subst P (sym (read_is (name v) y r))
              (ap m.widths edge ∙ p.widths (k.through b c v) ∙ p.even b c v ∙ sym (p.widths v));
        };
  }

  copy_goes : (b v w : ℕ) (rest rest' : List Stmt)
      → name v ≡ name w
      → SourceDoes l link (Live k) NothingKnown b (named name) (named name) (S.Assign v (E.Var w)) rest rest'
  copy_goes b v w rest rest' same =
      let a = S.Assign v (E.Var w) in
      let is = assign_is v (E.Var w) in
      let reads_w : (u : ℕ) → 0 < reads (E.Var w) u → 0 < reads_all (args_of a) u =
      λ u r. let P : List Expr → Type 0 = λ es. 0 < reads_all es u in subst P (sym is.args) (omega (arith, r)) in
      source_assigns link (Live k) NothingKnown b l (named name) (named name) v (E.Var w) a rest rest' is
      (quiet_assign v (E.Var w) a is) (has_width (reads (E.Var w)))
      (λ u r. Read b a rest u (reads_w u r))
      (ap (λ z. E.Var z) same ∙ sym (with_var (named name) w))
      (λ u live ne. (Past b a rest u (λ e. ne (some_is (sym e ∙ is.target))) live, refl))

  follows : (b : ℕ) (rest rest' : List Stmt)
      → Merged k name b rest rest'
      → (exit_at k b ≡ X.Stop → IsLeftOf rest)
      → Follows l link (Live k) NothingKnown b (named name) rest rest'
  follows b rest rest' Finish left =
      Ends (named name) [] (both_leave link (Live k) NothingKnown b (named name) (leaves b))
  follows b rest rest' (Name a r r' apart next) left =
      let left' = λ (e : exit_at k b ≡ X.Stop). left_behind a r (left e) in
      Kept (named name) (named name) a (renamed name a) r r'
      (both_do link (Live k) NothingKnown b (named name) (named name) a (renamed name a) r r'
      (stays b a r r' apart next left'))
      (follows b r r' next left')
  follows b rest rest' (Copy v w r r' same next) left =
      let left' = λ (e : exit_at k b ≡ X.Stop). left_behind (S.Assign v (E.Var w)) r (left e) in
      Gone (named name) (named name) (S.Assign v (E.Var w)) r r' (copy_goes b v w r r' same)
      (follows b r r' next left')

  stands : StandsFor l link (Live k) NothingKnown
  stands = record {
    entry = p.entry;
    first = λ e v live n h. value_of_var m.widths (m.first l e) (name v) ∙ p.first l e v n live h;
    blocks = λ b. follows b (stmts_at k b) (stmts_at m b) (p.stmts b) (p.stops b);
  }

  module _ (e : Entry) (defined : IsDefined l k e) where
    -- Variables under names that keep apart what is live show the same.
    pub merged_shows : TwoWay (seen_blocks l k e) (seen_blocks l m e)
    merged_shows = shows_the_same l link (Live k) NothingKnown stands e (λ i j. tt) defined

    pub merged_defined : IsDefined l m e
    merged_defined = target_defined l link (Live k) NothingKnown stands e (λ i j. tt) defined
