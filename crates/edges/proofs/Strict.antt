-- Where what is live at the entry has a word, no run reads what was never assigned, and so none ends Undefined.
use Rattle.std.proofs.Common.{◌≡◌, ◌≢◌, ℕ, zero, suc, ◌==◌, cond, Bool, true, false, List, [], ◌∷◌, Option, Some, None, refl, sym, ◌∙◌, subst, ⊎_elim}
use Rattle.std.proofs.lemmas.Bool.{cases_eq}
use Rattle.machine.specs.Trace.{Call, End, Undefined}
use Rattle.machine.specs.Machine.{after}
use Rattle.pcode_model.specs.declared.listing.Listing.{Listing}
use Rattle.pcode_model.specs.Memory.{Bytes}
use Rattle.pcode_model.specs.World.{World, Entry, unless_over, recorded}
use Rattle.cmeaning.specs.declared.tree.Stmt.{Stmt}
use Rattle.cmeaning.specs.Value.{value_of}
use Rattle.cmeaning.specs.Do.{Local, values_of, do_simple}
use Rattle.blockcode.specs.declared.code.Arm.{Arm}
use Rattle.blockcode.specs.declared.code.Exit.{Exit}
use Rattle.blockcode.specs.declared.code.Exit.TheVariants as X
use Rattle.blockcode.specs.Run.{call_returns}
use Rattle.parts.specs.Exprs.{Env, Holds, all_of, widths_of}
use Rattle.parts.specs.Stmts.{Action, Done, Over, Goes, IsFine, calls, action_of, target_of, args_of, put_into, performed, act, done_with, done_by}
use Rattle.parts.proofs.Values.{put_same, put_other}
use Rattle.parts.proofs.Parts.{do_by_parts}
use Rattle.parts.proofs.Ends.{values_some, one_some, act_fine, over_kept}
use Rattle.edges.specs.Exits.{exit_args, Where, Onto, Out, by_arms, leads}
use Rattle.edges.specs.Run.{Blocks, exit_at, returns_at, Going, going, arrives, leaves, exec, blocks_step, start_blocks}
use Rattle.edges.specs.Live.{Live, Read, Past, Leave, Onward, IsStrict, IsDefined, EndsInCall, AreSound, IsSound}

-- ---- exits

abbrev FineWhere : Where → Type 0
FineWhere (Onto b) = Unit {0}
FineWhere (Out e) = e ≢ Undefined

arms_fine : (arms : List Arm) (n : ℕ) → FineWhere (by_arms arms n)
arms_fine [] n = λ e. cc
arms_fine (a ∷ rest) n =
    let P : Bool → Type 0 = λ c. FineWhere (cond c (Onto a.to) (by_arms rest n)) in
    elim (a.value == n) as P [ true ↦ tt | false ↦ arms_fine rest n ]

-- An exit other than Stop, whose argument has a value, leads to a block, or to an end that isn't Undefined.
leads_fine : (ws : ℕ → ℕ) (env : Env) (x : Exit) (ns : List ℕ)
    → x ≢ X.Stop
    → all_of (values_of ws env (exit_args x)) ≡ Some ns
    → FineWhere (leads x ns)
leads_fine ws env (X.Return None) ns ne h = λ e. cc
leads_fine ws env (X.Return (Some u)) ns ne h =
    let o = one_some (value_of ws env u) ns h in
    let P : List ℕ → Type 0 = λ z. FineWhere (leads (X.Return (Some u)) z) in
    subst P (sym o.2) (λ e. cc)
leads_fine ws env (X.Jump b) ns ne h = tt
leads_fine ws env (X.Test u taken other) ns ne h =
    let o = one_some (value_of ws env u) ns h in
    let P : List ℕ → Type 0 = λ z. FineWhere (leads (X.Test u taken other) z) in
    subst P (sym o.2) tt
leads_fine ws env (X.Switch u arms) ns ne h =
    let o = one_some (value_of ws env u) ns h in
    let P : List ℕ → Type 0 = λ z. FineWhere (leads (X.Switch u arms) z) in
    subst P (sym o.2) (arms_fine arms o.0)
leads_fine ws env X.Stop ns ne h = absurd (ne refl)

-- ---- states

-- what is live has a word, and the rest of the block is as it should be
pub record IsAlive (k : Blocks) (s : Going) : Type 0 where
  pub has : (v : ℕ) → Live k s.block s.rest v → Holds s.local.env v
  pub stmts : AreSound k.widths s.rest
  pub stops : exit_at k s.block ≡ X.Stop → EndsInCall s.rest

pub record IsFineState (k : Blocks) (s : Going) : Type 0 where
  pub over : s.local.world.over ≢ Some Undefined
  pub alive : s.local.world.over ≡ None → IsAlive k s

some_none : {h : End} → ◌≡◌ {A = Option End} (Some h) None → ⊥
some_none e = cc

some_end : {g h : End} → Some g ≡ Some h → g ≡ h
some_end e = cc

not_undefined : (o : Option End) → o ≡ None → o ≢ Some Undefined
not_undefined o e h = some_none (sym h ∙ e)

into_has : (ws : ℕ → ℕ) (i : Option ℕ) (value : ℕ → ℕ) (v : ℕ) (env : Env)
    → (i ≢ Some v → Holds env v)
    → Holds (put_into ws i value env) v
into_has ws None value v env h = h (λ e. cc)
into_has ws (Some x) value v env h =
    let P : ℕ → Type 0 = λ z. put_into ws (Some x) value env z ≡ Some (value (ws x)) in
    ⊎_elim
    (λ eq. (value (ws x), subst P (sym eq) (put_same env x (Some (value (ws x))))))
    (λ ne.
    let r = h (λ e. ne (let g : v ≡ x = cc in g)) in
    (r.0, put_other env x (Some (value (ws x))) v ne ∙ r.1))
    (cases_eq v x)

over_end : {e : End} {w w' : World Bytes} {value left : ℕ → ℕ} → Over e w ≡ Goes value left w' → ⊥
over_end e = cc

module _ (l : Listing) (k : Blocks) (sound : IsSound k) where
  -- ---- statements

  -- a statement that goes on, before the exit Stop, isn't the last one
  stops_on : (b : ℕ) (a : Stmt) (rest : List Stmt) (ks ns : List ℕ) (left value u : ℕ → ℕ) (w w' : World Bytes)
      → act l (returns_at k b rest) (action_of a) ks ns left w ≡ Goes value u w'
      → exit_at k b ≡ X.Stop
      → EndsInCall (a ∷ rest)
      → EndsInCall rest
  stops_on b a [] ks ns left value u w w' e stop call =
      let P : Action → Type 0 = λ z. act l (returns_at k b []) z ks ns left w ≡ Goes value u w' in
      let Q : Exit → Type 0 =
      λ z. calls l (call_returns [] z) (recorded (Call call.0 ns) w) ≡ Goes value u w' in
      absurd (over_end (subst Q stop (subst P call.1 e)))
  stops_on b a (c ∷ rest) ks ns left value u w w' e stop call = call

  module _
      (b : ℕ) (a : Stmt) (rest : List Stmt) (x : Local)
      (over : x.world.over ≡ None)
      (alive : IsAlive k (going b (a ∷ rest) x))
    where
      fine_done : (ks ns : List ℕ) (d : Done)
          → act l (returns_at k b rest) (action_of a) ks ns x.left x.world ≡ d
          → IsFine d
          → IsFineState k (going b rest (performed k.widths (target_of a) d x))
      fine_done ks ns (Over e w) is fine =
          record { over = λ h. fine (some_end h); alive = λ o. absurd (some_none o) }
      fine_done ks ns (Goes value u w) is fine = record {
        over = not_undefined w.over
            (over_kept l (returns_at k b rest) (action_of a) ks ns x.left value u x.world w is ∙ over);
        alive = λ o. record {
          has = λ v live. into_has k.widths (target_of a) value v x.env (λ ne. alive.has v (Past b a rest v ne live));
          stmts = alive.stmts.2;
          stops = λ e. stops_on b a rest ks ns x.left value u x.world w is e (alive.stops e);
        };
      }

      fine_stmt : IsFineState k (going b rest (do_simple l k.widths (returns_at k b rest) a x))
      fine_stmt =
          let r = returns_at k b rest in
          let ks = widths_of k.widths (args_of a) in
          let vs = values_some k.widths x.env (args_of a) alive.stmts.1 (λ v r. alive.has v (Read b a rest v r)) in
          let P : Option (List ℕ) → Type 0 =
          λ o. IsFineState k (going b rest (done_with o x (done_by l k.widths r a x))) in
          let Q : Local → Type 0 = λ y. IsFineState k (going b rest y) in
          let fine = act_fine l r k.widths a x.env vs.0 x.left x.world alive.stmts.0 vs.1 in
          subst Q (sym (do_by_parts l k.widths r a x))
          (subst P (sym vs.1) (fine_done ks vs.0 (act l r (action_of a) ks vs.0 x.left x.world) refl fine))

  -- ---- exits

  module _ (b : ℕ) (x : Local) (over : x.world.over ≡ None) (alive : IsAlive k (going b [] x)) where
    fine_arrives : (ns : List ℕ) (h : Where)
        → leads (exit_at k b) ns ≡ h
        → FineWhere h
        → IsFineState k (arrives k b h x)
    fine_arrives ns (Out e) to fine = record { over = λ h. fine (some_end h); alive = λ o. absurd (some_none o) }
    fine_arrives ns (Onto c) to fine = record {
      over = not_undefined x.world.over over;
      alive = λ o. record {
        has = λ v live. alive.has (k.through b c v) (Onward b c (k.through b c v) v (ns, to) refl live);
        stmts = sound.stmts c;
        stops = sound.stops c (sound.onward b c (ns, to));
      };
    }

    fine_leaves : IsFineState k (exec l k b [] x)
    fine_leaves =
        let exit = exit_at k b in
        let vs = values_some k.widths x.env (exit_args exit) (sound.exits b) (λ v r. alive.has v (Leave b v r)) in
        let P : Option (List ℕ) → Type 0 = λ o. IsFineState k (leaves k b o x) in
        subst P (sym vs.1)
        (fine_arrives vs.0 (leads exit vs.0) refl (leads_fine k.widths x.env exit vs.0 (λ e. alive.stops e) vs.1))

  -- ---- runs

  fine_exec : (b : ℕ) (rest : List Stmt) (x : Local)
      → x.world.over ≡ None
      → IsAlive k (going b rest x)
      → IsFineState k (exec l k b rest x)
  fine_exec b [] x over alive = fine_leaves b x over alive
  fine_exec b (a ∷ rest) x over alive = fine_stmt b a rest x over alive

  fine_step : (s : Going) (o : Option End)
      → s.local.world.over ≡ o
      → IsFineState k s
      → IsFineState k (unless_over o s (exec l k s.block s.rest s.local))
  fine_step s None over fine = fine_exec s.block s.rest s.local over (fine.alive over)
  fine_step s (Some h) over fine = fine

  fine_after : (n : ℕ) (s : Going) → IsFineState k s → IsFineState k (after (blocks_step l k) n s)
  fine_after zero s fine = fine
  fine_after (suc n) s fine = fine_after n (blocks_step l k s) (fine_step s s.local.world.over refl fine)

  module _ (e : Entry) (strict : IsStrict l k e) where
    fine_run : (n : ℕ) → IsFineState k (after (blocks_step l k) n (start_blocks l k e))
    fine_run n = fine_after n (start_blocks l k e) (record {
      over = λ h. some_none (sym h);
      alive = λ o. record {
        has = λ v live. strict v live;
        stmts = sound.stmts k.entry;
        stops = sound.stops k.entry sound.entry;
      };
    })

    -- Strict blocks are defined.
    pub strict_defined : IsDefined l k e
    strict_defined n = (fine_run n).over

    -- At each state of such a run what is live has a word.
    pub live_holds : (n : ℕ)
        → (after (blocks_step l k) n (start_blocks l k e)).local.world.over ≡ None
        → IsAlive k (after (blocks_step l k) n (start_blocks l k e))
    live_holds n over = (fine_run n).alive over
