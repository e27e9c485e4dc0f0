-- The usual ways to show a step: the target's arguments are the source's with the map's expressions in the place of the
-- variables, and what a statement assigns is seen under the name that the other one assigns.
use Rattle.std.proofs.Common.{◌≡◌, ◌≢◌, ℕ, zero, suc, ◌<◌, true, List, [], ◌∷◌, Option, Some, None, refl, sym, ap, ◌∙◌, subst, ◌⊎◌, inl, inr, ⊎_elim}
use Rattle.std.proofs.lemmas.Bool.{cases_eq}
use Rattle.machine.specs.Machine.{after}
use Rattle.pcode_model.specs.declared.listing.Listing.{Listing}
use Rattle.pcode_model.specs.Memory.{Bytes}
use Rattle.pcode_model.specs.World.{World, Entry}
use Rattle.cmeaning.specs.declared.tree.Expr.{Expr}
use Rattle.cmeaning.specs.declared.tree.Expr.TheVariants as E
use Rattle.cmeaning.specs.declared.tree.Stmt.{Stmt}
use Rattle.cmeaning.specs.Value.{value_of}
use Rattle.cmeaning.specs.Do.{Local, values_of}
use Rattle.cmeaning.proofs.Value.{value_of_var, width_of_var}
use Rattle.blockcode.specs.declared.code.Exit.{Exit}
use Rattle.blockcode.specs.declared.code.Exit.TheVariants as X
use Rattle.parts.specs.Exprs.{Env, reads, reads_all, with_all, with_each, own, named, seen_through, KeepsWidths, both, all_of, widths_of, Below}
use Rattle.parts.specs.Stmts.{Sets, Calls, Goes, action_of, target_of, args_of, map_target, put_into, act, IsAssign}
use Rattle.parts.proofs.Values.{value_with, value_agree, value_unread, values_with, values_agree, widths_with, put_same, put_other, value_put, var_unread, with_itself}
use Rattle.parts.proofs.Ends.{one_some}
use Rattle.edges.specs.Exits.{exit_args, exit_with, Where, Onto, Out, leads, LeadsTo}
use Rattle.edges.specs.Run.{Blocks, stmts_at, exit_at, returns_at, Going, blocks_step, start_blocks}
use Rattle.edges.specs.Follow.{Link, Needs, Known, Needed, Sees, BothDo, IsQuiet, Gives, SourceDoes, moved, BothLeave, IsKnown}

some_is : {v y : ℕ} → Some v ≡ Some y → v ≡ y
some_is e = cc

-- ---- what an assignment puts into an environment

module _ (ws : ℕ → ℕ) (i : Option ℕ) (value : ℕ → ℕ) (s : Env) where
  pub into_same : (v : ℕ) → i ≡ Some v → put_into ws i value s v ≡ Some (value (ws v))
  into_same v e = ap (λ j. put_into ws j value s v) e ∙ put_same s v (Some (value (ws v)))

pub into_other : (ws : ℕ → ℕ) (i : Option ℕ) (value : ℕ → ℕ) (s : Env) (v : ℕ)
    → i ≢ Some v
    → put_into ws i value s v ≡ s v
into_other ws None value s v ne = refl
into_other ws (Some x) value s v ne = put_other s x (Some (value (ws x))) v (λ e. ne (ap (λ z. Some z) (sym e)))

value_into : (ws : ℕ → ℕ) (i : Option ℕ) (value : ℕ → ℕ) (t : Env) (u : Expr)
    → ((y : ℕ) → i ≡ Some y → reads u y ≡ 0)
    → value_of ws (put_into ws i value t) u ≡ value_of ws t u
value_into ws None value t u h = refl
value_into ws (Some y) value t u h = value_put ws t y (Some (value (ws y))) u (h y refl)

-- ---- what is seen, by the widths of the source and of the target

module _ (ws ws' : ℕ → ℕ) where
  module _ (f : ℕ → Expr) (N : ℕ → Type 0) (s t : Env) (sees : Sees ws' f N s t) where
    -- The value of an expression whose variables are needed is that of what stands for it.
    pub value_seen : (e : Expr)
        → KeepsWidths ws ws' f (reads e)
        → Needed (reads e) N
        → (n : ℕ)
        → value_of ws s e ≡ Some n
        → value_of ws' t (with_all f e) ≡ Some n
    value_seen e same needed n h =
        value_with ws ws' f t e same
        ∙ value_agree ws s (seen_through ws' f t) e (λ v r m g. sees v (needed v r) m g) n h

    pub values_seen : (xs ys : List Expr)
        → with_each f xs ≡ ys
        → KeepsWidths ws ws' f (reads_all xs)
        → Needed (reads_all xs) N
        → Below (all_of (values_of ws s xs)) (all_of (values_of ws' t ys))
    values_seen xs ys is same needed ns h =
        ap (λ zs. all_of (values_of ws' t zs)) (sym is)
        ∙ values_with ws ws' f t xs same
        ∙ values_agree ws s (seen_through ws' f t) xs (λ v r m g. sees v (needed v r) m g) ns h

  -- How v is seen after the source assigned i and the target i': as what the target assigned, or as before, where
  -- neither assigned it.
  abbrev pub Carried : (ℕ → Type 0) → (ℕ → Expr) → (ℕ → Expr) → Option ℕ → Option ℕ → ℕ → Type 0
  Carried N f f' i i' v =
      ((y : ℕ) × (i ≡ Some v) × (i' ≡ Some y) × (ws v ≡ ws' y) × (f' v ≡ E.Var y))
      ⊎ ((i ≢ Some v) × N v × (f' v ≡ f v) × ((y : ℕ) → i' ≡ Some y → reads (f v) y ≡ 0))

  pub sees_after : (N N' : ℕ → Type 0) (f f' : ℕ → Expr) (i i' : Option ℕ) (s t : Env) (value : ℕ → ℕ)
      → Sees ws' f N s t
      → ((v : ℕ) → N' v → Carried N f f' i i' v)
      → Sees ws' f' N' (put_into ws i value s) (put_into ws' i' value t)
  sees_after N N' f f' i i' s t value sees carried v need n h =
      let u = put_into ws' i' value t in
      ⊎_elim
      (λ c.
      ap (value_of ws' u) c.4
      ∙ value_of_var ws' u c.0
      ∙ into_same ws' i' value t c.0 c.2
      ∙ ap (λ w. Some (value w)) (sym c.3)
      ∙ sym (into_same ws i value s v c.1)
      ∙ h)
      (λ c.
      ap (value_of ws' u) c.2
      ∙ value_into ws' i' value t (f v) c.3
      ∙ sees v c.1 n (sym (into_other ws i value s v c.0) ∙ h))
      (carried v need)

  -- Variables that go by names are carried, where no other one that is needed has the name of what is assigned.
  pub named_carried : (N : ℕ → Type 0) (name : ℕ → ℕ) (i : Option ℕ) (v : ℕ)
      → ws' (name v) ≡ ws v
      → ((y : ℕ) → i ≡ Some y → v ≢ y → name v ≢ name y)
      → (i ≢ Some v → N v)
      → Carried N (named name) (named name) i (map_target name i) v
  named_carried N name None v same apart need = inr (λ e. cc, need (λ e. cc), refl, λ y e. absurd (cc))
  named_carried N name (Some x) v same apart need = ⊎_elim
      (λ e. inl (name v, ap (λ z. Some z) e, ap (λ z. Some (name z)) e, sym same, refl))
      (λ ne.
      let other : v ≢ x = λ e. ne (sym e) in
      let away : Some x ≢ Some v = λ e. ne (some_is e) in
      inr (away, need away, refl, λ y e. var_unread (name v) y (λ g. apart x refl other (g ∙ sym (some_is e)))))
      (cases_eq x v)

  -- The same where each goes by its own.
  pub own_carried : (N : ℕ → Type 0) (i : Option ℕ) (v : ℕ)
      → ws v ≡ ws' v
      → (i ≢ Some v → N v)
      → Carried N own own i i v
  own_carried N None v same need = inr (λ e. cc, need (λ e. cc), refl, λ y e. absurd (cc))
  own_carried N (Some x) v same need = ⊎_elim
      (λ e. inl (v, ap (λ z. Some z) e, ap (λ z. Some z) e, same, refl))
      (λ ne.
      let away : Some x ≢ Some v = λ e. ne (some_is e) in
      inr (away, need away, refl, λ y e. var_unread v y (λ g. ne (some_is e ∙ sym g))))
      (cases_eq x v)

-- ---- what an assignment gives

goes_value : {value value' left left' : ℕ → ℕ} {w w' : World Bytes}
    → Goes value left w ≡ Goes value' left' w'
    → value ≡ value'
goes_value e = cc

-- What an assignment gives is its value.
pub assign_gives : (l : Listing) (k : Blocks) (v : ℕ) (u : Expr) (a : Stmt) (x : Local) (value : ℕ → ℕ)
    → IsAssign v u a
    → Gives l k a x value
    → (w : ℕ) → value_of k.widths x.env u ≡ Some (value w)
assign_gives l k v u a x value is gives w =
    let ks = widths_of k.widths (args_of a) in
    let args : both (value_of k.widths x.env u) (Some []) ≡ Some gives.0 =
    ap (λ es. all_of (values_of k.widths x.env es)) (sym is.args) ∙ gives.1 in
    let o = one_some (value_of k.widths x.env u) gives.0 args in
    let done : Goes (λ k. o.0) x.left x.world ≡ Goes value x.left x.world =
    sym (ap (λ ns. act l (λ c. true) Sets ks ns x.left x.world) o.2)
    ∙ sym (ap (λ h. act l (λ c. true) h ks gives.0 x.left x.world) is.action)
    ∙ gives.2 in
    o.1 ∙ ap (λ (g : ℕ → ℕ). Some (g w)) (goes_value done)

-- ---- steps

-- what a step needs where the target does what the source does, with the map's expressions in its arguments
pub record KeepsStmt
    (p : Link) (needs : Needs) (b : ℕ) (f f' : ℕ → Expr) (a a' : Stmt) (rest rest' : List Stmt) : Type 0
  where
    pub action : action_of a ≡ action_of a'
    pub returns : (callee : ℕ)
        → action_of a ≡ Calls callee
        → returns_at p.source b rest callee ≡ returns_at p.target (p.to b) rest' callee
    pub args : with_each f (args_of a) ≡ args_of a'
    pub widths : KeepsWidths p.source.widths p.target.widths f (reads_all (args_of a))
    pub needed : Needed (reads_all (args_of a)) (needs b (a ∷ rest))
    pub carried : (v : ℕ)
        → needs b rest v
        → Carried p.source.widths p.target.widths (needs b (a ∷ rest)) f f' (target_of a) (target_of a') v

-- over the edge from b to c
pub record KeepsEdge (p : Link) (needs : Needs) (b c : ℕ) (f : ℕ → Expr) (v : ℕ) : Type 0 where
  pub needed : needs b [] (p.source.through b c v)
  pub same : with_all (named (p.target.through (p.to b) (p.to c))) (p.at c v) ≡ f (p.source.through b c v)
  pub widths : (y : ℕ)
      → 0 < reads (p.at c v) y
      → p.target.widths (p.target.through (p.to b) (p.to c) y) ≡ p.target.widths y

-- where both leave, the target without copies
pub record KeepsExit (p : Link) (needs : Needs) (b : ℕ) (f : ℕ → Expr) : Type 0 where
  pub leads : (ns : List ℕ) → leads (exit_at p.target (p.to b)) ns ≡ moved p.to (leads (exit_at p.source b) ns)
  pub args : with_each f (exit_args (exit_at p.source b)) ≡ exit_args (exit_at p.target (p.to b))
  pub widths : KeepsWidths p.source.widths p.target.widths f (reads_all (exit_args (exit_at p.source b)))
  pub needed : Needed (reads_all (exit_args (exit_at p.source b))) (needs b [])
  pub edges : (c : ℕ)
      → LeadsTo (exit_at p.source b) c
      → (v : ℕ)
      → needs c (stmts_at p.source c) v
      → KeepsEdge p needs b c f v

-- an expression after an edge, and before it
over_edge_value : (ws : ℕ → ℕ) (g : ℕ → ℕ) (t : Env) (e : Expr)
    → ((y : ℕ) → 0 < reads e y → ws (g y) ≡ ws y)
    → value_of ws (λ y. t (g y)) e ≡ value_of ws t (with_all (named g) e)
over_edge_value ws g t e widths =
    value_unread ws (λ y. t (g y)) (seen_through ws (named g) t) e (λ y r. sym (value_of_var ws t (g y)))
    ∙ sym (value_with ws ws (named g) t e (λ y r. width_of_var ws (g y) ∙ widths y r))

module _ (p : Link) (needs : Needs) (known : Known) (b : ℕ) where
  abbrev ws : ℕ → ℕ
  ws = p.source.widths

  abbrev ws' : ℕ → ℕ
  ws' = p.target.widths

  -- Both do the same.
  pub both_do : (f f' : ℕ → Expr) (a a' : Stmt) (rest rest' : List Stmt)
      → KeepsStmt p needs b f f' a a' rest rest'
      → BothDo p needs known b f f' a a' rest rest'
  both_do f f' a a' rest rest' fit = record {
    action = fit.action;
    returns = fit.returns;
    widths = sym (widths_with ws ws' f (args_of a) fit.widths) ∙ ap (widths_of ws') fit.args;
    values = λ x y meets.
        values_seen ws ws' f (needs b (a ∷ rest)) x.env y.env meets.sees (args_of a) (args_of a') fit.args fit.widths
        fit.needed;
    after = λ x y meets value.
        sees_after ws ws' (needs b (a ∷ rest)) (needs b rest) f f' (target_of a) (target_of a') x.env y.env value
        meets.sees fit.carried;
  }

  -- The source alone does what nothing needed depends on.
  pub source_drops : (l : Listing) (f : ℕ → Expr) (a : Stmt) (rest rest' : List Stmt)
      → IsQuiet (action_of a)
      → ((v : ℕ) → needs b rest v → (target_of a ≢ Some v) × needs b (a ∷ rest) v)
      → SourceDoes l p needs known b f f a rest rest'
  source_drops l f a rest rest' quiet free = record {
    quiet = quiet;
    after = λ x y meets value gives v need n h.
        let r = free v need in
        meets.sees v r.1 n (sym (into_other ws (target_of a) value x.env v r.0) ∙ h);
  }

  -- An assignment is left out, and its expression stands for its target.
  module _
      (l : Listing) (f f' : ℕ → Expr) (v : ℕ) (u : Expr) (a : Stmt) (rest rest' : List Stmt)
      (is : IsAssign v u a)
      (quiet : IsQuiet (action_of a))
      (widths : KeepsWidths p.source.widths p.target.widths f (reads u))
      (needed : Needed (reads u) (needs b (a ∷ rest)))
      (at_target : f' v ≡ with_all f u)
      (others : (w : ℕ) → needs b rest w → w ≢ v → needs b (a ∷ rest) w × (f' w ≡ f w))
    where
      pub source_assigns : SourceDoes l p needs known b f f' a rest rest'
      source_assigns = record {
        quiet = quiet;
        after = λ x y meets value gives w need n h.
            let s = put_into ws (target_of a) value x.env in
            ⊎_elim
            (λ e.
            let P : ℕ → Type 0 = λ z. s z ≡ Some n in
            let here : s v ≡ Some (value (ws v)) = into_same ws (target_of a) value x.env v is.target in
            let m : Some (value (ws v)) ≡ Some n = sym here ∙ subst P e h in
            let given = assign_gives l p.source v u a x value is gives (ws v) in
            ap (λ z. value_of ws' y.env (f' z)) e
            ∙ ap (value_of ws' y.env) at_target
            ∙ value_seen ws ws' f (needs b (a ∷ rest)) x.env y.env meets.sees u widths needed (value (ws v)) given
            ∙ m)
            (λ ne.
            let r = others w need ne in
            let other : target_of a ≢ Some w = λ e. ne (let g : Some v ≡ Some w = sym is.target ∙ e in cc) in
            ap (value_of ws' y.env) r.1
            ∙ meets.sees w r.0 n (sym (into_other ws (target_of a) value x.env w other) ∙ h))
            (cases_eq w v);
      }

  -- Over an edge what was seen is seen through its names.
  pub sees_over : (c : ℕ) (f : ℕ → Expr) (s t : Env)
      → Sees p.target.widths f (needs b []) s t
      → ((v : ℕ) → needs c (stmts_at p.source c) v → KeepsEdge p needs b c f v)
      → Sees p.target.widths (p.at c) (needs c (stmts_at p.source c)) (λ v. s (p.source.through b c v))
      (λ y. t (p.target.through (p.to b) (p.to c) y))
  sees_over c f s t sees edge v need n h =
      let e = edge v need in
      over_edge_value ws' (p.target.through (p.to b) (p.to c)) t (p.at c v) e.widths
      ∙ ap (value_of ws' t) e.same
      ∙ sees (p.source.through b c v) e.needed n h

  -- Both leave.
  pub both_leave : (f : ℕ → Expr) → KeepsExit p needs b f → BothLeave p needs known b f []
  both_leave f fit = record {
    leads = fit.leads;
    after = λ x y meets. (
      y.env,
      record {
        copied = refl;
        values =
            values_seen ws ws' f (needs b []) x.env y.env meets.sees (exit_args (exit_at p.source b))
            (exit_args (exit_at p.target (p.to b))) fit.args fit.widths fit.needed;
        onward = λ c leads. sees_over c f x.env y.env meets.sees (fit.edges c leads);
      },
    );
  }

-- ---- exits with other arguments

-- What is read of an exit with expressions in the place of its variables.
pub exit_with_args : (f : ℕ → Expr) (x : Exit) → exit_args (exit_with f x) ≡ with_each f (exit_args x)
exit_with_args f (X.Return None) = refl
exit_with_args f (X.Return (Some e)) = refl
exit_with_args f (X.Jump b) = refl
exit_with_args f (X.Test e taken other) = refl
exit_with_args f (X.Switch e arms) = refl
exit_with_args f X.Stop = refl

-- It leads where it led.
pub exit_with_leads : (f : ℕ → Expr) (x : Exit) (ns : List ℕ) → leads (exit_with f x) ns ≡ leads x ns
exit_with_leads f (X.Return None) ns = refl
exit_with_leads f (X.Return (Some e)) [] = refl
exit_with_leads f (X.Return (Some e)) (n ∷ ns) = refl
exit_with_leads f (X.Jump b) ns = refl
exit_with_leads f (X.Test e taken other) [] = refl
exit_with_leads f (X.Test e taken other) (n ∷ ns) = refl
exit_with_leads f (X.Switch e arms) [] = refl
exit_with_leads f (X.Switch e arms) (n ∷ ns) = refl
exit_with_leads f X.Stop ns = refl

pub exit_itself : (x : Exit) → exit_with own x ≡ x
exit_itself (X.Return None) = refl
exit_itself (X.Return (Some e)) = ap (λ z. X.Return (Some z)) (with_itself e)
exit_itself (X.Jump b) = refl
exit_itself (X.Test e taken other) = ap (λ z. X.Test z taken other) (with_itself e)
exit_itself (X.Switch e arms) = ap (λ z. X.Switch z arms) (with_itself e)
exit_itself X.Stop = refl

-- Where the blocks have their own numbers an exit leads where it leads.
pub moved_own : (h : Where) → moved (λ b. b) h ≡ h
moved_own (Onto b) = refl
moved_own (Out e) = refl

-- ---- what is known

-- What holds at the start and is kept by each step holds of each state of a run.
pub holds_after : (l : Listing) (k : Blocks) (I : Going → Type 0)
    → ((s : Going) → I s → I (blocks_step l k s))
    → (n : ℕ) (s : Going) → I s → I (after (blocks_step l k) n s)
holds_after l k I step zero s i = i
holds_after l k I step (suc n) s i = holds_after l k I step n (blocks_step l k s) (step s i)

pub known_by : (l : Listing) (p : Link) (I J : Going → Type 0) (e : Entry)
    → I (start_blocks l p.source e)
    → ((s : Going) → I s → I (blocks_step l p.source s))
    → J (start_blocks l p.target e)
    → ((t : Going) → J t → J (blocks_step l p.target t))
    → IsKnown l p (λ s t. I s × J t) e
known_by l p I J e i step j step' m n = (
  holds_after l p.source I step m (start_blocks l p.source e) i,
  holds_after l p.target J step' n (start_blocks l p.target e) j,
)
