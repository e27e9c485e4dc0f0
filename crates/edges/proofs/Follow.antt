-- The target shows what the source shows. States stand for each other where their blocks do, what is left of them
-- follows, and what is needed is seen. A step of the source is none of the target (a statement that is gone, so that
-- less is left of the block), one, or some copies or quiet statements of its own and one.
use Rattle.std.proofs.Common.{◌≡◌, ◌≢◌, ℕ, ◌+◌, ◌<◌, List, [], ◌∷◌, length, Bool, true, Option, Some, None, refl, sym, ap, ◌∙◌, subst, ◌⊎◌, inl, inr, ⊎_elim, arith}
use Rattle.machine.specs.Trace.{End, Undefined, Trace}
use Rattle.machine.specs.TwoWay.{IsFront, TwoWay, NeverEnds}
use Rattle.machine.specs.Machine.{after, seen, GoesOrWaits}
use Rattle.machine.proofs.Machine.{two_way_waiting, after_more, sees_more}
use Rattle.machine.proofs.TwoWay.{never_ends_along, front_eq, two_way_from, two_way_to, two_way_trans}
use Rattle.pcode_model.specs.declared.listing.Listing.{Listing}
use Rattle.pcode_model.specs.Memory.{Bytes}
use Rattle.pcode_model.specs.Spaces.{put}
use Rattle.pcode_model.specs.World.{World, Entry, ended, shown, unless_over}
use Rattle.cmeaning.specs.declared.tree.Expr.{Expr}
use Rattle.cmeaning.specs.declared.tree.Stmt.{Stmt}
use Rattle.cmeaning.specs.declared.tree.Stmt.TheVariants as S
use Rattle.cmeaning.specs.Value.{value_of}
use Rattle.cmeaning.specs.Do.{Local, assigned, with_word, values_of, do_simple}
use Rattle.cmeaning.proofs.Do.{do_assign}
use Rattle.blockcode.specs.declared.code.Code.{Code}
use Rattle.blockcode.specs.Run.{seen_code}
use Rattle.parts.specs.Exprs.{Env, all_of, widths_of, Below}
use Rattle.parts.specs.Stmts.{Action, Sets, Loads, Extras, Done, Over, Goes, action_of, target_of, args_of, put_into, performed, act, done_with, done_by}
use Rattle.parts.proofs.Parts.{do_by_parts}
use Rattle.parts.proofs.Ends.{act_returns}
use Rattle.edges.specs.Exits.{exit_args, Where, Onto, Out, leads}
use Rattle.edges.specs.Run.{Blocks, stmts_at, exit_at, returns_at, Going, going, over_edge, arrives, leaves, exec, blocks_step, blocks_machine, first_state, start_blocks, seen_blocks, blocks_of_code}
use Rattle.edges.specs.Live.{IsDefined}
use Rattle.edges.specs.Follow.{Link, Needs, Known, Sees, Meets, Copy, laid, if_some, copied, BothDo, IsQuiet, Gives, SourceDoes, moved, Leaving, BothLeave, Follows, Ends, Kept, Gone, More, Also, BlocksFollow, StandsFor, StandsLate, IsKnown}
use Rattle.edges.proofs.Codes.{seen_is}
use Rattle.edges.proofs.Grows.{blocks_grow}

abbrev NotLost : Going → Type 0
NotLost s = s.local.world.over ≢ Some Undefined

some_none : {h : End} → ◌≡◌ {A = Option End} (Some h) None → ⊥
some_none e = cc

-- ---- a step of a run that goes on

module _ (l : Listing) (k : Blocks) where
  -- A run that goes on carries out the next statement, or leaves the block.
  pub goes_on : (b : ℕ) (rest : List Stmt) (x : Local)
      → x.world.over ≡ None
      → blocks_step l k (going b rest x) ≡ exec l k b rest x
  goes_on b rest x e = ap (λ o. unless_over o (going b rest x) (exec l k b rest x)) e

  stays : (s : Going) (h : End) → s.local.world.over ≡ Some h → blocks_step l k s ≡ s
  stays s h e = ap (λ o. unless_over o s (exec l k s.block s.rest s.local)) e

  -- The next statement, by its parts.
  pub does : (b : ℕ) (a : Stmt) (rest : List Stmt) (x : Local)
      → x.world.over ≡ None
      → blocks_step l k (going b (a ∷ rest) x)
      ≡ going b rest
      (done_with (all_of (values_of k.widths x.env (args_of a))) x (done_by l k.widths (returns_at k b rest) a x))
  does b a rest x e = goes_on b (a ∷ rest) x e
      ∙ ap (going b rest) (do_by_parts l k.widths (returns_at k b rest) a x)

-- ---- copies

abbrev pub with_env : Env → Local → Local
with_env t x = record { env = t; left = x.left; world = x.world }

copy_some : (o : Option ℕ) (next : ℕ → Option Env) (t : Env)
    → if_some o next ≡ Some t
    → (n : ℕ) × (o ≡ Some n) × (next n ≡ Some t)
copy_some None next t e = absurd (cc)
copy_some (Some n) next t e = (n, refl, e)

-- After the copies the run stands before what follows them.
after_copies : (l : Listing) (k : Blocks) (b : ℕ) (cs : List Copy) (rest : List Stmt) (x : Local) (t : Env)
    → x.world.over ≡ None
    → copied k.widths cs x.env ≡ Some t
    → after (blocks_step l k) (length cs) (going b (laid cs rest) x) ≡ going b rest (with_env t x)
after_copies l k b [] rest x t over e =
    let same : x.env ≡ t = cc in ap (λ env. going b rest (with_env env x)) same
after_copies l k b (c ∷ cs) rest x t over e =
    let next = λ (n : ℕ). copied k.widths cs (put x.env c.0 (Some n)) in
    let p = copy_some (value_of k.widths x.env c.1) next t e in
    let returns = returns_at k b (laid cs rest) in
    let done : do_simple l k.widths returns (S.Assign c.0 c.1) x ≡ assigned c.0 p.0 x =
    do_assign l k.widths returns c.0 c.1 x ∙ ap (λ o. with_word o x (λ n. assigned c.0 n x)) p.1 in
    let step : blocks_step l k (going b (laid (c ∷ cs) rest) x) ≡ going b (laid cs rest) (assigned c.0 p.0 x) =
    goes_on l k b (laid (c ∷ cs) rest) x over ∙ ap (going b (laid cs rest)) done in
    ap (after (blocks_step l k) (length cs)) step
    ∙ after_copies l k b cs rest (assigned c.0 p.0 x) t over p.2

-- ---- quiet statements

quiet_returns : (l : Listing) (returns : ℕ → Bool) (action : Action) (ks ns : List ℕ) (left : ℕ → ℕ) (w : World Bytes)
    → IsQuiet action
    → act l (λ c. true) action ks ns left w ≡ act l returns action ks ns left w
quiet_returns l returns action ks ns left w q = act_returns l (λ c. true) returns action ks ns left w
    (λ callee e. absurd (let P : Action → Type 0 = λ z. IsQuiet z in subst P e q))

-- They change neither the world nor what a call has left, but where they have other arguments than they should.
quiet_gives : (l : Listing) (returns : ℕ → Bool) (action : Action) (ks ns : List ℕ) (left : ℕ → ℕ) (w : World Bytes)
    → IsQuiet action
    → (act l returns action ks ns left w ≡ Over Undefined w)
    ⊎ ((value : ℕ → ℕ) × (act l returns action ks ns left w ≡ Goes value left w))
quiet_gives l returns Sets ks [] left w q = inl refl
quiet_gives l returns Sets ks (n ∷ []) left w q = inr (_, refl)
quiet_gives l returns Sets ks (n ∷ m ∷ ns) left w q = inl refl
quiet_gives l returns (Loads space) ks [] left w q = inl refl
quiet_gives l returns (Loads space) ks (n ∷ []) left w q = inr (_, refl)
quiet_gives l returns (Loads space) ks (n ∷ m ∷ ns) left w q = inl refl
quiet_gives l returns (Extras offset) ks ns left w q = inr (_, refl)
quiet_gives l returns action ks ns left w q = absurd q

-- ---- states that stand for each other

pub record Standing (l : Listing) (p : Link) (needs : Needs) (known : Known) (s t : Going) : Type 0 where
  pub block : t.block ≡ p.to s.block
  pub through : ℕ → Expr
  pub follows : Follows l p needs known s.block through s.rest t.rest
  pub sees : Sees p.target.widths through (needs s.block s.rest) s.local.env t.local.env

-- They have shown the same; and they stand for each other until the run is over.
pub record Same (l : Listing) (p : Link) (needs : Needs) (known : Known) (s t : Going) : Type 0 where
  pub world : s.local.world ≡ t.local.world
  pub left : s.local.left ≡ t.local.left
  pub stand : s.local.world.over ≡ None → Standing l p needs known s t

module _ (l : Listing) (p : Link) (needs : Needs) (known : Known) (blocks : BlocksFollow l p needs known) where
  abbrev Alike : Going → Going → Type 0
  Alike s t = Same l p needs known s t

  -- After a step of the source and some of the target they do so again. Where the target takes none, the source has
  -- less left to do.
  abbrev Moves : Going → Going → Type 0
  Moves s t =
      (j : ℕ)
      × (((0 < j) ⊎ (length (blocks_step l p.source s).rest < length s.rest))
      × Alike (blocks_step l p.source s) (after (blocks_step l p.target) j t))

  -- ---- both do the same

  module _
      (b : ℕ) (f f' : ℕ → Expr) (a a' : Stmt) (rest rest' : List Stmt) (x y : Local)
      (left : x.left ≡ y.left)
      (meets : Meets p needs known b f (a ∷ rest) (a' ∷ rest') x y)
      (fit : BothDo p needs known b f f' a a' rest rest')
      (next : Follows l p needs known b f' rest rest')
    where
      abbrev returns : ℕ → Bool
      returns = returns_at p.source b rest

      abbrev returns' : ℕ → Bool
      returns' = returns_at p.target (p.to b) rest'

      abbrev ks : List ℕ
      ks = widths_of p.source.widths (args_of a)

      abbrev ks' : List ℕ
      ks' = widths_of p.target.widths (args_of a')

      done_alike : (ns : List ℕ)
          → act l returns (action_of a) ks ns x.left x.world ≡ act l returns' (action_of a') ks' ns y.left y.world
      done_alike ns =
          act_returns l returns returns' (action_of a) ks ns x.left x.world fit.returns
          ∙ ap (λ h. act l returns' h ks ns x.left x.world) fit.action
          ∙ ap (λ ms. act l returns' (action_of a') ms ns x.left x.world) fit.widths
          ∙ ap (λ u. act l returns' (action_of a') ks' ns u x.world) left
          ∙ ap (act l returns' (action_of a') ks' ns y.left) meets.world

      same_done : (d : Done)
          → Alike (going b rest (performed p.source.widths (target_of a) d x))
          (going (p.to b) rest' (performed p.target.widths (target_of a') d y))
      same_done (Over e w) = record { world = refl; left = left; stand = λ o. absurd (some_none o) }
      same_done (Goes value u w) = record {
        world = refl;
        left = refl;
        stand = λ o. record { block = refl; through = f'; follows = next; sees = fit.after x y meets value };
      }

      same_kept : (o o' : Option (List ℕ))
          → Below o o'
          → NotLost (going b rest (done_with o x (done_by l p.source.widths returns a x)))
          → Alike (going b rest (done_with o x (done_by l p.source.widths returns a x)))
          (going (p.to b) rest' (done_with o' y (done_by l p.target.widths returns' a' y)))
      same_kept None o' below never = absurd (never refl)
      same_kept (Some ns) o' below never =
          let d = act l returns (action_of a) ks ns x.left x.world in
          let s = going b rest (performed p.source.widths (target_of a) d x) in
          let P : Done → Type 0 = λ e. Alike s (going (p.to b) rest' (performed p.target.widths (target_of a') e y)) in
          let Q : Option (List ℕ) → Type 0 =
          λ z. Alike s (going (p.to b) rest' (done_with z y (done_by l p.target.widths returns' a' y))) in
          subst Q (sym (below ns refl)) (subst P (done_alike ns) (same_done d))

      moves_kept : NotLost (blocks_step l p.source (going b (a ∷ rest) x))
          → Moves (going b (a ∷ rest) x) (going (p.to b) (a' ∷ rest') y)
      moves_kept never =
          let o = all_of (values_of p.source.widths x.env (args_of a)) in
          let o' = all_of (values_of p.target.widths y.env (args_of a')) in
          let over' : y.world.over ≡ None = sym (ap (λ w. w.over) meets.world) ∙ meets.over in
          let step = does l p.source b a rest x meets.over in
          let step' = does l p.target (p.to b) a' rest' y over' in
          let t = blocks_step l p.target (going (p.to b) (a' ∷ rest') y) in
          let P : Going → Type 0 = λ u. Alike u t in
          let Q : Going → Type 0 =
          λ u. Alike (going b rest (done_with o x (done_by l p.source.widths returns a x))) u in
          let N : Going → Type 0 = λ u. NotLost u in (
            1,
            (
              inl (omega arith),
              subst P (sym step)
                  (subst Q (sym step') (same_kept o o' (fit.values x y meets) (subst N step never))),
            ),
          )

  -- ---- the source alone

  module _
      (b : ℕ) (f f' : ℕ → Expr) (a : Stmt) (rest rest' : List Stmt) (x y : Local)
      (left : x.left ≡ y.left)
      (meets : Meets p needs known b f (a ∷ rest) rest' x y)
      (fit : SourceDoes l p needs known b f f' a rest rest')
      (next : Follows l p needs known b f' rest rest')
    where
      abbrev alone : ℕ → Bool
      alone = returns_at p.source b rest

      abbrev widths_alone : List ℕ
      widths_alone = widths_of p.source.widths (args_of a)

      same_gone : (o : Option (List ℕ))
          → all_of (values_of p.source.widths x.env (args_of a)) ≡ o
          → NotLost (going b rest (done_with o x (done_by l p.source.widths alone a x)))
          → Alike (going b rest (done_with o x (done_by l p.source.widths alone a x))) (going (p.to b) rest' y)
      same_gone None e never = absurd (never refl)
      same_gone (Some ns) e never =
          let N : Done → Type 0 = λ z. NotLost (going b rest (performed p.source.widths (target_of a) z x)) in
          let P : Done → Type 0 =
          λ z. Alike (going b rest (performed p.source.widths (target_of a) z x)) (going (p.to b) rest' y) in
          let every = quiet_returns l alone (action_of a) widths_alone ns x.left x.world fit.quiet in
          ⊎_elim
          (λ lost. absurd (subst N lost never refl))
          (λ gives. subst P (sym gives.1) (record {
            world = meets.world;
            left = left;
            stand = λ o. record {
              block = refl;
              through = f';
              follows = next;
              sees = fit.after x y meets gives.0 (ns, e, every ∙ gives.1);
            };
          }))
          (quiet_gives l alone (action_of a) widths_alone ns x.left x.world fit.quiet)

      moves_gone : NotLost (blocks_step l p.source (going b (a ∷ rest) x))
          → Moves (going b (a ∷ rest) x) (going (p.to b) rest' y)
      moves_gone never =
          let o = all_of (values_of p.source.widths x.env (args_of a)) in
          let step = does l p.source b a rest x meets.over in
          let N : Going → Type 0 = λ u. NotLost u in
          let P : Going → Type 0 =
          λ u. ((0 < 0) ⊎ (length u.rest < length (a ∷ rest))) × Alike u (going (p.to b) rest' y) in
          (0, subst P (sym step) (inr (omega arith), same_gone o refl (subst N step never)))

  -- ---- the target alone

  -- A quiet statement of the target.
  after_quiet : (b : ℕ) (a : Stmt) (rest : List Stmt) (y : Local) (value : ℕ → ℕ)
      → y.world.over ≡ None
      → IsQuiet (action_of a)
      → Gives l p.target a y value
      → blocks_step l p.target (going b (a ∷ rest) y)
      ≡ going b rest (with_env (put_into p.target.widths (target_of a) value y.env) y)
  after_quiet b a rest y value over quiet gives =
      let returns = returns_at p.target b rest in
      let ws = p.target.widths in
      let ks = widths_of ws (args_of a) in
      does l p.target b a rest y over
      ∙ ap (λ o. going b rest (done_with o y (done_by l ws returns a y))) gives.1
      ∙ ap (λ d. going b rest (performed ws (target_of a) d y))
      (sym (quiet_returns l returns (action_of a) ks gives.0 y.left y.world quiet) ∙ gives.2)

  moves_later : (s t u : Going) (n : ℕ) → after (blocks_step l p.target) n t ≡ u → Moves s u → Moves s t
  moves_later s t u n to m =
      let P : Going → Type 0 = λ z. Alike (blocks_step l p.source s) z in
      let there : after (blocks_step l p.target) m.0 u ≡ after (blocks_step l p.target) (n + m.0) t =
      ap (after (blocks_step l p.target) m.0) (sym to) ∙ after_more (blocks_step l p.target) t n m.0 in
      (n + m.0, (⊎_elim (λ lt. inl (omega (arith, lt))) (λ less. inr less) m.1.0, subst P there m.1.1))

  -- ---- both leave

  module _
      (b : ℕ) (cs : List Copy) (x y : Local) (t : Env)
      (world : x.world ≡ y.world)
      (left : x.left ≡ y.left)
      (out : Leaving p needs b cs x y t)
    where
      same_arrives : (ns : List ℕ) (h : Where)
          → leads (exit_at p.source b) ns ≡ h
          → Alike (arrives p.source b h x) (arrives p.target (p.to b) (moved p.to h) (with_env t y))
      same_arrives ns (Onto c) e = record {
        world = world;
        left = left;
        stand = λ o. record { block = refl; through = p.at c; follows = blocks c; sees = out.onward c (ns, e) };
      }
      same_arrives ns (Out h) e = record { world = ap (ended h) world; left = left; stand = λ o. absurd (some_none o) }

      same_leaves : (f : ℕ → Expr) (o o' : Option (List ℕ))
          → Below o o'
          → BothLeave p needs known b f cs
          → NotLost (leaves p.source b o x)
          → Alike (leaves p.source b o x) (leaves p.target (p.to b) o' (with_env t y))
      same_leaves f None o' below fit never = absurd (never refl)
      same_leaves f (Some ns) o' below fit never =
          let s = arrives p.source b (leads (exit_at p.source b) ns) x in
          let P : Where → Type 0 = λ h. Alike s (arrives p.target (p.to b) h (with_env t y)) in
          let Q : Option (List ℕ) → Type 0 = λ z. Alike s (leaves p.target (p.to b) z (with_env t y)) in
          subst Q (sym (below ns refl))
          (subst P (sym (fit.leads ns)) (same_arrives ns (leads (exit_at p.source b) ns) refl))

  moves_ends : (b : ℕ) (f : ℕ → Expr) (cs : List Copy) (x y : Local)
      → x.left ≡ y.left
      → Meets p needs known b f [] (laid cs []) x y
      → BothLeave p needs known b f cs
      → NotLost (blocks_step l p.source (going b [] x))
      → Moves (going b [] x) (going (p.to b) (laid cs []) y)
  moves_ends b f cs x y left meets fit never =
      let fits = fit.after x y meets in
      let t : Env = fits.0 in
      let out = fits.1 in
      let over' : y.world.over ≡ None = sym (ap (λ w. w.over) meets.world) ∙ meets.over in
      let o = all_of (values_of p.source.widths x.env (exit_args (exit_at p.source b))) in
      let o' = all_of (values_of p.target.widths t (exit_args (exit_at p.target (p.to b)))) in
      let u = going (p.to b) [] (with_env t y) in
      let step : blocks_step l p.source (going b [] x) ≡ leaves p.source b o x = goes_on l p.source b [] x meets.over in
      let step' : blocks_step l p.target u ≡ leaves p.target (p.to b) o' (with_env t y) =
      goes_on l p.target (p.to b) [] (with_env t y) over' in
      let N : Going → Type 0 = λ u. NotLost u in
      let P : Going → Type 0 = λ z. Alike z (blocks_step l p.target u) in
      let Q : Going → Type 0 = λ z. Alike (leaves p.source b o x) z in
      moves_later (going b [] x) (going (p.to b) (laid cs []) y) u (length cs)
      (after_copies l p.target (p.to b) cs [] y t over' out.copied) (
        1,
        (
          inl (omega arith),
          subst P (sym step) (subst Q (sym step')
              (same_leaves b cs x y t meets.world left out f o o' out.values fit (subst N step never))),
        ),
      )

  -- ---- a step of the source

  -- it is known of a state of the source and of all that the target comes to
  abbrev KnowsOf : ℕ → List Stmt → List Stmt → Local → Local → Type 0
  KnowsOf b rest rest' x y =
      (j : ℕ) → known (going b rest x) (after (blocks_step l p.target) j (going (p.to b) rest' y))

  module _ (b : ℕ) (x : Local) (over : x.world.over ≡ None) where
    moves_at : (f : ℕ → Expr) (rest rest' : List Stmt) (y : Local)
        → x.world ≡ y.world
        → x.left ≡ y.left
        → KnowsOf b rest rest' x y
        → Follows l p needs known b f rest rest'
        → Sees p.target.widths f (needs b rest) x.env y.env
        → NotLost (blocks_step l p.source (going b rest x))
        → Moves (going b rest x) (going (p.to b) rest' y)
    moves_at f rest rest' y world left know (Ends g cs fit) sees never =
        moves_ends b g cs x y left (record { over = over; world = world; knows = know 0; sees = sees }) fit never
    moves_at f rest rest' y world left know (Kept g g' a a' r r' fit next) sees never =
        moves_kept b g g' a a' r r' x y left
        (record { over = over; world = world; knows = know 0; sees = sees }) fit next never
    moves_at f rest rest' y world left know (Gone g g' a r r' fit next) sees never =
        moves_gone b g g' a r r' x y left
        (record { over = over; world = world; knows = know 0; sees = sees }) fit next never
    moves_at f rest rest' y world left know (More g g' cs r r' fit next) sees never =
        let step = blocks_step l p.target in
        let s = going (p.to b) (laid cs r') y in
        let fits = fit.after x y (record { over = over; world = world; knows = know 0; sees = sees }) in
        let t : Env = fits.0 in
        let u = going (p.to b) r' (with_env t y) in
        let over' : y.world.over ≡ None = sym (ap (λ w. w.over) world) ∙ over in
        let to : after step (length cs) s ≡ u = after_copies l p.target (p.to b) cs r' y t over' fits.1 in
        let P : Going → Type 0 = λ z. known (going b r x) z in
        let know' : KnowsOf b r r' x (with_env t y) =
        λ j. subst P (sym (after_more step s (length cs) j) ∙ ap (after step j) to) (know (length cs + j)) in
        moves_later (going b r x) s u (length cs) to
        (moves_at g' r r' (with_env t y) world left know' next fits.2 never)
    moves_at f rest rest' y world left know (Also g g' a' r r' fit next) sees never =
        let step = blocks_step l p.target in
        let s = going (p.to b) (a' ∷ r') y in
        let fits = fit.after x y (record { over = over; world = world; knows = know 0; sees = sees }) never in
        let t : Env = put_into p.target.widths (target_of a') fits.0 y.env in
        let u = going (p.to b) r' (with_env t y) in
        let over' : y.world.over ≡ None = sym (ap (λ w. w.over) world) ∙ over in
        let to : step s ≡ u = after_quiet (p.to b) a' r' y fits.0 over' fit.quiet fits.1 in
        let P : Going → Type 0 = λ z. known (going b r x) z in
        let know' : KnowsOf b r r' x (with_env t y) =
        λ j. subst P (sym (after_more step s 1 j) ∙ ap (after step j) to) (know (1 + j)) in
        moves_later (going b r x) s u 1 to
        (moves_at g' r r' (with_env t y) world left know' next fits.2 never)

  -- ---- the runs, from an entry

  module _ (e : Entry) (knows : IsKnown l p known e) (defined : IsDefined l p.source e) where
    -- both come from the start
    abbrev Related : Going → Going → Type 0
    Related s t =
        (i : ℕ) × (j : ℕ)
        × (after (blocks_step l p.source) i (start_blocks l p.source e) ≡ s)
        × (after (blocks_step l p.target) j (start_blocks l p.target e) ≡ t)
        × Alike s t

    abbrev Onwards : Going → Going → Type 0
    Onwards s t =
        GoesOrWaits (blocks_machine l p.source) (blocks_machine l p.target) Related (λ u. length u.rest) s t

    later : (k : Blocks) (s : Going) (i j : ℕ)
        → after (blocks_step l k) i (start_blocks l k e) ≡ s
        → after (blocks_step l k) (i + j) (start_blocks l k e) ≡ after (blocks_step l k) j s
    later k s i j from =
        sym (after_more (blocks_step l k) (start_blocks l k e) i j) ∙ ap (after (blocks_step l k) j) from

    known_of : (s t : Going) → Related s t → (j : ℕ) → known s (after (blocks_step l p.target) j t)
    known_of s t r j =
        let P : Going → Type 0 =
        λ u. known u (after (blocks_step l p.target) (r.1 + j) (start_blocks l p.target e)) in
        let Q : Going → Type 0 = λ u. known s u in
        subst Q (later p.target t r.1 j r.3) (subst P r.2 (knows r.0 (r.1 + j)))

    never_of : (s t : Going) → Related s t → NotLost (blocks_step l p.source s)
    never_of s t r = let P : Going → Type 0 = λ u. NotLost u in subst P (later p.source s r.0 1 r.2) (defined (r.0 + 1))

    goes_by : (s t : Going) → Related s t → Moves s t → Onwards s t
    goes_by s t r m =
        let there = later p.source s r.0 1 r.2 in
        inr (0, (m.0, (m.1.0, (r.0 + 1, r.1 + m.0, there, later p.target t r.1 m.0 r.3, m.1.1))))

    goes : (s t : Going) (o : Option End) → s.local.world.over ≡ o → Related s t → Onwards s t
    goes s t (Some h) over r =
        inl (stays l p.source s h over, stays l p.target t h (sym (ap (λ w. w.over) r.4.world) ∙ over))
    goes s t None over r =
        let here = r.4.stand over in
        let P : ℕ → Type 0 =
        λ c. ((j : ℕ) → known s (after (blocks_step l p.target) j (going c t.rest t.local)))
        → Moves s (going c t.rest t.local) in
        let at : P (p.to s.block) =
        λ know. moves_at s.block s.local over here.through s.rest t.rest t.local r.4.world r.4.left know
        here.follows here.sees (never_of s t r) in
        goes_by s t r (subst P (sym here.block) at (known_of s t r))

    -- where the target has come to the source's start after some steps of its own
    shows_from : (j : ℕ)
        → Alike (start_blocks l p.source e) (after (blocks_step l p.target) j (start_blocks l p.target e))
        → TwoWay (seen_blocks l p.source e) (seen_blocks l p.target e)
    shows_from j same =
        let b = blocks_machine l p.target in
        let t = start_blocks l p.target e in
        let u = after (blocks_step l p.target) j t in
        let w : TwoWay (seen_blocks l p.source e) (seen b u) =
        two_way_waiting (blocks_machine l p.source) b Related (λ z. length z.rest)
        (blocks_grow l p.source) (blocks_grow l p.target)
        (record {
          same = λ s z r. ap (λ (w : World Bytes). shown w) r.4.world;
          goes = λ s z r. goes s z s.local.world.over refl r;
        })
        (start_blocks l p.source e) u (0, j, refl, refl, same) in
        let later_is : (n : ℕ) → seen b u n ≡ seen b t (j + n) =
        λ n. ap (λ (z : Going). shown z.local.world) (after_more (blocks_step l p.target) t j n) in
        two_way_trans (seen_blocks l p.source e) (seen b u) (seen_blocks l p.target e) w
        (record {
          there = λ n. (j + n, front_eq (seen b u n) (seen b t (j + n)) (later_is n));
          back = λ n.
              let P : Trace → Type 0 = λ z. IsFront (seen b t n) z in
              (n, subst P (sym (later_is n)) (sees_more b (blocks_grow l p.target) t n (j + n) (omega arith)));
        })

-- ---- the theorem

module _
    (l : Listing) (p : Link) (needs : Needs) (known : Known)
    (stands : StandsFor l p needs known)
    (e : Entry)
    (knows : IsKnown l p known e)
    (defined : IsDefined l p.source e)
  where
    starts : Same l p needs known (start_blocks l p.source e) (start_blocks l p.target e)
    starts =
        let b = p.source.entry in
        let P : ℕ → Type 0 = λ c. Follows l p needs known b (p.at b) (stmts_at p.source b) (stmts_at p.target c) in
        record {
          world = refl;
          left = refl;
          stand = λ o. record {
            block = sym stands.entry;
            through = p.at b;
            follows = subst P stands.entry (stands.blocks b);
            sees = stands.first e;
          };
        }

    -- The target shows what the source shows.
    pub shows_the_same : TwoWay (seen_blocks l p.source e) (seen_blocks l p.target e)
    shows_the_same = shows_from l p needs known stands.blocks e knows defined 0 starts

    -- And it is defined too.
    pub target_defined : IsDefined l p.target e
    target_defined =
        never_ends_along Undefined (seen_blocks l p.source e) (seen_blocks l p.target e) shows_the_same defined

-- The same where the target begins in an empty block of its own, which jumps to the source's entry.
module _
    (l : Listing) (p : Link) (needs : Needs) (known : Known)
    (stands : StandsLate l p needs known)
    (e : Entry)
    (knows : IsKnown l p known e)
    (defined : IsDefined l p.source e)
  where
    abbrev start : Local
    start = first_state l p.target e

    abbrev entered : Going
    entered =
        let b = p.to p.source.entry in
        going b (stmts_at p.target b) (over_edge (p.target.through p.target.entry b) start)

    enters : blocks_step l p.target (start_blocks l p.target e) ≡ entered
    enters =
        let b = p.target.entry in
        ap (λ r. exec l p.target b r start) stands.empty
        ∙ ap (λ x. leaves p.target b (all_of (values_of p.target.widths start.env (exit_args x))) start) stands.jumps
        ∙ ap (λ x. arrives p.target b (leads x []) start) stands.jumps

    starts_late : Same l p needs known (start_blocks l p.source e) entered
    starts_late = record {
      world = refl;
      left = refl;
      stand = λ o. record {
        block = refl;
        through = p.at p.source.entry;
        follows = stands.blocks p.source.entry;
        sees = stands.first e;
      };
    }

    pub shows_late : TwoWay (seen_blocks l p.source e) (seen_blocks l p.target e)
    shows_late =
        let P : Going → Type 0 = λ u. Same l p needs known (start_blocks l p.source e) u in
        shows_from l p needs known stands.blocks e knows defined 1 (subst P (sym enters) starts_late)

    pub late_defined : IsDefined l p.target e
    late_defined = never_ends_along Undefined (seen_blocks l p.source e) (seen_blocks l p.target e) shows_late defined

-- ---- codes

abbrev pub of_codes : Code → Code → (ℕ → ℕ) → (ℕ → ℕ → Expr) → Link
of_codes k m to at = record { source = blocks_of_code k; target = blocks_of_code m; to = to; at = at }

-- A code and one that stands for it, by their own runs.
module _
    (l : Listing) (k m : Code) (to : ℕ → ℕ) (at : ℕ → ℕ → Expr) (needs : Needs) (known : Known) (e : Entry)
    (stands : StandsFor l (of_codes k m to at) needs known)
    (knows : IsKnown l (of_codes k m to at) known e)
    (defined : NeverEnds Undefined (seen_code l k e))
  where
    blocks_defined : IsDefined l (blocks_of_code k) e
    blocks_defined n = let P : Trace → Type 0 = λ t. t.over ≢ Some Undefined in subst P (seen_is l k e n) (defined n)

    pub codes_show : TwoWay (seen_code l k e) (seen_code l m e)
    codes_show =
        let r = seen_blocks l (blocks_of_code k) e in
        let s = seen_blocks l (blocks_of_code m) e in
        two_way_from (seen_code l k e) r (seen_code l m e) (seen_is l k e)
        (two_way_to r s (seen_code l m e)
        (shows_the_same l (of_codes k m to at) needs known stands e knows blocks_defined)
        (λ n. sym (seen_is l m e n)))

    pub code_defined : NeverEnds Undefined (seen_code l m e)
    code_defined = never_ends_along Undefined (seen_code l k e) (seen_code l m e) codes_show defined
