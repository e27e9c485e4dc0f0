-- A function that stands for a code by a certificate is strict: at each point of a path every value of the table was
-- passed, so what an op reads was.
use Rattle.std.proofs.Common.{◌≡◌, ℕ, Bool, true, false, List, [], ◌∷◌, ◌++◌, ◌⊎◌, inl, inr, Option, Some, None, refl, sym, ap, ◌∙◌, subst, slice_get}
use Rattle.std.specs.Prelude.{◌==◌, cond}
use Rattle.std.proofs.lemmas.Bool.{cases_eq}
use Rattle.heap_nodes.proofs.Places.{none_some, some_same}
use Rattle.pcode_model.specs.declared.listing.Listing.{Listing}
use Rattle.pcode_model.specs.Spaces.{put}
use Rattle.cmeaning.specs.declared.tree.Expr.{Expr}
use Rattle.cmeaning.specs.declared.tree.Expr.TheVariants as E
use Rattle.cmeaning.specs.declared.tree.Stmt.{Stmt}
use Rattle.cmeaning.specs.declared.tree.Stmt.TheVariants as S
use Rattle.blockcode.specs.declared.code.Block.{Block}
use Rattle.blockcode.specs.declared.code.Code.{Code}
use Rattle.blockcode.specs.Run.{widths}
use Rattle.parts.specs.Stmts.{target_of}
use Rattle.node_lists.specs.Chains.{IsIn, Apart}
use Rattle.node_lists.proofs.Chains.{in_left, in_right, in_either, apart_left, apart_right}
use Rattle.opgraph.specs.Graph.{OpRow, Graph, op_at, block_at, inputs_in, in_block, IsWhole}
use Rattle.ssa_model.specs.declared.form.SsaBlock.{SsaBlock}
use Rattle.ssa_model.specs.declared.form.SsaExit.{SsaExit}
use Rattle.ssa_model.specs.declared.form.SsaExit.TheVariants as X
use Rattle.ssa_model.specs.declared.form.Parts.{Parts}
use Rattle.ssa_model.specs.Roles.{Role, role_of}
use Rattle.ssa_model.specs.Outline.{form, form_in, outline, role_in, exit_in, exit_at, targets_in, block_with, predecessors_at, Leads}
use Rattle.ssa_model.specs.Paths.{Path, Start, Step, IsPassed, IsJoin, UsedAt, Read, Joined, Available, Strict, before_op}
use Rattle.ssa_model.specs.Formed.{exit_role}
use Rattle.ssa_model.specs.Lines.{line_of}
use Rattle.ssa_model.proofs.Places.{passed_more}
use Rattle.ssa_laws.proofs.Keeps.{before_first, join_line, no_line}
use Rattle.ssa_laws.proofs.Runs.{one_further, none_more, append_append}
use Rattle.opgraph.proofs.Whole.{place_of, in_at}
use Rattle.heritage_laws.specs.Certificate.{Table, gets, copies, Says, IsMade, IsSource, Makes, Reads, OfConst, OfOne, OfTwo, MakesAll, NoMore, Next, Renders, Finish, Assigns, Copied, Does, Closes, RendersBlock, IsHead, Tables, Passes, Certified}

-- ---- what a table has after an assignment

-- it is the new value, or one that the table had
pub put_cases : (t : Table) (v x y w : ℕ) → put t v (Some x) y ≡ Some w → (x ≡ w) ⊎ (t y ≡ Some w)
put_cases t v x y w is = by_case (y == v) is
  where
    by_case : (b : Bool) → cond b (Some x) (t y) ≡ Some w → (x ≡ w) ⊎ (t y ≡ Some w)
    by_case true e = inl (some_same e)
    by_case false e = inr e

-- ---- what an op says

pub said : {l : Listing} {g : Graph} {i : ℕ} {a : List ℕ → Stmt} {vs : List ℕ}
    → Says l g i a vs
    → line_of l i (op_at g i) ≡ a vs ∷ []
said {l = l} {i = i} {a = a} says =
    ap (line_of l i) says.is ∙ says.line says.row.inputs ∙ ap (λ us. a us ∷ []) says.inputs

pub saying : {l : Listing} {g : Graph} {i : ℕ} {a : List ℕ → Stmt} {vs : List ℕ}
    → Says l g i a vs
    → inputs_in (op_at g i) ≡ vs
saying says = ap inputs_in says.is ∙ says.inputs

module _ (l : Listing) (p : Parts) (whole : IsWhole p.graph) where
  abbrev IsRow : ℕ → OpRow → Type 0
  IsRow v r = op_at p.graph v ≡ Some r

  -- ---- what is passed

  -- the path passed the op of the value
  abbrev pub Passed : List ℕ → List ℕ → ℕ → Type 0
  Passed passed before v = IsPassed ((outline (form p)).forms v) v passed before

  abbrev pub ArePassed : List ℕ → List ℕ → List ℕ → Type 0
  ArePassed passed before vs = (v : ℕ) → IsIn v vs → Passed passed before v

  abbrev IsJoinAt : ℕ → Type 0
  IsJoinAt v = (r : OpRow) × IsRow v r × IsJoin (role_of r.code)

  pub more : (passed before behind : List ℕ) (v : ℕ) → Passed passed before v → Passed passed (before ++ behind) v
  more passed before behind v h =
      passed_more ((outline (form p)).forms v) v passed before (before ++ behind) (in_left v before behind) h

  pub here : (passed before : List ℕ) (v : ℕ) (r : OpRow) → IsRow v r → IsIn v before → Passed passed before v
  here passed before v r is m =
      subst (λ (o : Option OpRow). IsPassed (form_in (op_at p.graph) o) v passed before) (sym is) (inr m)

  -- over an edge
  pub on : (passed before : List ℕ) (b v : ℕ) → Passed passed (block_at p.graph b) v → Passed (b ∷ passed) before v
  on passed before b v h = by_row (op_at p.graph v) refl
    where
      by_row : (o : Option OpRow) → op_at p.graph v ≡ o → Passed (b ∷ passed) before v
      by_row None is =
          absurd
          (subst (λ (o : Option OpRow). IsPassed (form_in (op_at p.graph) o) v passed (block_at p.graph b)) is h)
      by_row (Some r) is =
          subst (λ (o : Option OpRow). IsPassed (form_in (op_at p.graph) o) v (b ∷ passed) before) (sym is)
          (placed (subst (λ (o : Option OpRow). IsPassed (form_in (op_at p.graph) o) v passed (block_at p.graph b)) is h))
        where
          placed : IsIn r.block passed ⊎ IsIn v (block_at p.graph b) → IsIn r.block (b ∷ passed) ⊎ IsIn v before
          placed (inl m) = inl (inr m)
          placed (inr m) = inl (inl (subst (in_block b) is ((whole.ops b v).0 m)))

  -- ---- what ops read

  -- the value was passed, and what it reads, if it says something
  pub record IsSafe (passed before : List ℕ) (v : ℕ) : Type 0 where
    pub value : Passed passed before v
    pub inputs : (a : Stmt) → line_of l v (op_at p.graph v) ≡ a ∷ [] → ArePassed passed before (inputs_in (op_at p.graph v))

  abbrev pub AreSafe : List ℕ → List ℕ → Table → Type 0
  AreSafe passed before t = (x v : ℕ) → t x ≡ Some v → IsSafe passed before v

  -- each of these ops is no MULTIEQUAL, and reads what was passed before it
  abbrev pub ReadPassed : List ℕ → List ℕ → List ℕ → Type 0
  ReadPassed passed before [] = Unit {0}
  ReadPassed passed before (i ∷ is) =
      (IsJoinAt i → ⊥)
      × ArePassed passed before (inputs_in (op_at p.graph i))
      × ReadPassed passed (before ++ i ∷ []) is

  safe_more : (passed before behind : List ℕ) (v : ℕ) → IsSafe passed before v → IsSafe passed (before ++ behind) v
  safe_more passed before behind v s = record {
    value = more passed before behind v s.value;
    inputs = λ a line w m. more passed before behind w (s.inputs a line w m);
  }

  pub table_more : (passed before behind : List ℕ) (t : Table) → AreSafe passed before t → AreSafe passed (before ++ behind) t
  table_more passed before behind t h x v is = safe_more passed before behind v (h x v is)

  pub put_safe : (passed before : List ℕ) (t : Table) (v x : ℕ)
      → AreSafe passed before t
      → IsSafe passed before x
      → AreSafe passed before (put t v (Some x))
  put_safe passed before t v x h s y w is = by_case (put_cases t v x y w is)
    where
      by_case : (x ≡ w) ⊎ (t y ≡ Some w) → IsSafe passed before w
      by_case (inl e) = subst (IsSafe passed before) e s
      by_case (inr e) = h y w e

  pub gets_safe : (passed before : List ℕ) (t : Table) (target : Option ℕ) (i : ℕ)
      → AreSafe passed before t
      → IsSafe passed before i
      → AreSafe passed before (gets t target i)
  gets_safe passed before t None i h s = h
  gets_safe passed before t (Some v) i h s = put_safe passed before t v i h s

  read_append : (passed before xs ys : List ℕ)
      → ReadPassed passed before xs
      → ReadPassed passed (before ++ xs) ys
      → ReadPassed passed before (xs ++ ys)
  read_append passed before [] ys h k = subst (λ zs. ReadPassed passed zs ys) (none_more before) k
  read_append passed before (x ∷ xs) ys h k = (
    h.0,
    h.1,
    read_append passed (before ++ x ∷ []) xs ys h.2
        (subst (λ zs. ReadPassed passed zs ys) (one_further before xs x) k),
  )

  -- what one of them reads was passed before it
  read_at : (passed before xs : List ℕ) (x : ℕ)
      → Apart (before ++ xs)
      → IsIn x xs
      → ReadPassed passed before xs
      → (IsJoinAt x → ⊥) × ArePassed passed (before_op x (before ++ xs)) (inputs_in (op_at p.graph x))
  read_at passed before [] x apart m h = absurd m
  read_at passed before (y ∷ ys) x apart m h =
      by_case (cases_eq x y) m
      (λ k. read_at passed (before ++ y ∷ []) ys x (subst Apart (one_further before ys y) apart) k h.2)
    where
      not_before : IsIn y before → ⊥
      not_before k = Rattle.node_lists.proofs.Chains.apart_sides before (y ∷ ys) y apart k (inl refl)

      by_case : (x ≡ y) ⊎ (x ≡ y → ⊥)
          → IsIn x (y ∷ ys)
          → (IsIn x ys
          → (IsJoinAt x → ⊥) × ArePassed passed (before_op x ((before ++ y ∷ []) ++ ys)) (inputs_in (op_at p.graph x)))
          → (IsJoinAt x → ⊥) × ArePassed passed (before_op x (before ++ y ∷ ys)) (inputs_in (op_at p.graph x))
      by_case (inl e) k next =
          subst
          (λ z. (IsJoinAt z → ⊥) × ArePassed passed (before_op z (before ++ y ∷ ys)) (inputs_in (op_at p.graph z))) (sym e)
          (h.0, subst (λ zs. ArePassed passed zs (inputs_in (op_at p.graph y))) (sym (before_first y before ys not_before)) h.1)
      by_case (inr n) (inl e) next = absurd (n e)
      by_case (inr n) (inr k) next =
          subst (λ zs. (IsJoinAt x → ⊥) × ArePassed passed (before_op x zs) (inputs_in (op_at p.graph x)))
          (sym (one_further before ys y)) (next k)

  -- ---- ops that are made

  -- what says something is no MULTIEQUAL
  says_no_join : (i : ℕ) (a : Stmt) → line_of l i (op_at p.graph i) ≡ a ∷ [] → IsJoinAt i → ⊥
  says_no_join i a line j =
      no_line (sym (join_line l i j.0.inputs (role_of j.0.code) j.0.width j.2) ∙ sym (ap (line_of l i) j.1) ∙ line)

  pub says_row : (i : ℕ) (a : Stmt) → line_of l i (op_at p.graph i) ≡ a ∷ [] → (r : OpRow) × IsRow i r
  says_row i a line = by_row (op_at p.graph i) refl
    where
      by_row : (o : Option OpRow) → op_at p.graph i ≡ o → (r : OpRow) × IsRow i r
      by_row None is = no_line (sym (ap (line_of l i) is) ∙ line)
      by_row (Some r) is = (r, is)

  -- The ops are read in order, and the value was passed after them.
  abbrev pub IsDone : List ℕ → List ℕ → List ℕ → ℕ → Type 0
  IsDone passed before ops v = ReadPassed passed before ops × IsSafe passed (before ++ ops) v

  -- an op that is made as the last one
  pub made_last : (passed before made : List ℕ) (a : List ℕ → Stmt) (vs : List ℕ) (i : ℕ)
      → Says l p.graph i a vs
      → ReadPassed passed before made
      → ArePassed passed (before ++ made) vs
      → IsDone passed before (made ++ i ∷ []) i
  made_last passed before made a vs i says read args = (
    read_append passed before made (i ∷ []) read (says_no_join i (a vs) (said says), inputs, tt),
    record {
      value =
          here passed (before ++ (made ++ i ∷ [])) i (says_row i (a vs) (said says)).0 (says_row i (a vs) (said says)).1
          (in_right i before (made ++ i ∷ []) (in_right i made (i ∷ []) (inl refl)));
      inputs = λ b line w m.
          subst (λ zs. Passed passed zs w) (append_append before made (i ∷ []))
          (more passed (before ++ made) (i ∷ []) w (inputs w m));
    },
  )
    where
      inputs : ArePassed passed (before ++ made) (inputs_in (op_at p.graph i))
      inputs = subst (ArePassed passed (before ++ made)) (sym (saying says)) args

  op_made : (passed before made ops : List ℕ) (a : List ℕ → Stmt) (vs : List ℕ) (i : ℕ)
      → Says l p.graph i a vs
      → IsMade i before made ops
      → ReadPassed passed before made
      → ArePassed passed (before ++ made) vs
      → IsDone passed before ops i
  op_made passed before made ops a vs i says (inl e) read args =
      subst (λ zs. IsDone passed before zs i) (sym e) (made_last passed before made a vs i says read args)
  op_made passed before made ops a vs i says (inr h) read args =
      subst (λ zs. IsDone passed before zs i) (sym h.0) (
        read,
        record {
          value = here passed (before ++ made) i (says_row i (a vs) (said says)).0 (says_row i (a vs) (said says)).1 h.1;
          inputs = λ b line. subst (ArePassed passed (before ++ made)) (sym (saying says)) args;
        },
      )

  pub makes_safe : (passed : List ℕ) (ws : ℕ → ℕ) (t : Table) (before : List ℕ) (e : Expr) (ops : List ℕ) (v : ℕ)
      → Makes l p.graph ws t before e ops v
      → AreSafe passed before t
      → IsDone passed before ops v
  makes_safe passed ws t before e ops v (Reads b x w is width) safe =
      (tt, safe_more passed b [] w (safe x w is))
  makes_safe passed ws t before e ops v (OfConst b o c i says width how) safe =
      op_made passed b [] o _ [] i says how tt (λ w m. absurd m)
  makes_safe passed ws t before e ops v (OfOne b m o k a x i makes says width how) safe =
      let d = makes_safe passed ws t b a m x makes safe in
      op_made passed b m o _ (x ∷ []) i says how d.0 (λ w q. one w q d.1.value)
    where
      one : (w : ℕ) → IsIn w (x ∷ []) → Passed passed (b ++ m) x → Passed passed (b ++ m) w
      one w (inl is) h = subst (Passed passed (b ++ m)) (sym is) h
      one w (inr q) h = absurd q
  makes_safe passed ws t before e ops v (OfTwo b m n o k a c x y i first second says width how) safe =
      let d = makes_safe passed ws t b a m x first safe in
      let f = makes_safe passed ws t (b ++ m) c n y second (table_more passed b m t safe) in
      op_made passed b (m ++ n) o _ (x ∷ y ∷ []) i says how (read_append passed b m n d.0 f.0)
      (λ w q. both w q
      (subst (λ zs. Passed passed zs x) (append_append b m n) (more passed (b ++ m) n x d.1.value))
      (subst (λ zs. Passed passed zs y) (append_append b m n) f.1.value))
    where
      both : (w : ℕ)
          → IsIn w (x ∷ y ∷ [])
          → Passed passed (b ++ (m ++ n)) x
          → Passed passed (b ++ (m ++ n)) y
          → Passed passed (b ++ (m ++ n)) w
      both w (inl is) h g = subst (Passed passed (b ++ (m ++ n))) (sym is) h
      both w (inr (inl is)) h g = subst (Passed passed (b ++ (m ++ n))) (sym is) g
      both w (inr (inr q)) h g = absurd q

  pub all_safe : (passed : List ℕ) (ws : ℕ → ℕ) (t : Table) (before : List ℕ) (es : List Expr) (ops vs : List ℕ)
      → MakesAll l p.graph ws t before es ops vs
      → AreSafe passed before t
      → ReadPassed passed before ops × ArePassed passed (before ++ ops) vs
  all_safe passed ws t before es ops vs (NoMore b) safe = (tt, λ w m. absurd m)
  all_safe passed ws t before es ops vs (Next b m o e rest v us makes next) safe =
      let d = makes_safe passed ws t b e m v makes safe in
      let f = all_safe passed ws t (b ++ m) rest o us next (table_more passed b m t safe) in
      (read_append passed b m o d.0 f.0, each d.1.value f.1)
    where
      each : Passed passed (b ++ m) v → ArePassed passed ((b ++ m) ++ o) us → ArePassed passed (b ++ (m ++ o)) (v ∷ us)
      each h g w (inl is) =
          subst (λ zs. Passed passed zs w) (append_append b m o)
          (more passed (b ++ m) o w (subst (Passed passed (b ++ m)) (sym is) h))
      each h g w (inr q) = subst (λ zs. Passed passed zs w) (append_append b m o) (g w q)

  -- ---- statements

  abbrev AreDone : List ℕ → List ℕ → List ℕ → Table → Type 0
  AreDone passed before ops t = ReadPassed passed before ops × AreSafe passed (before ++ ops) t

  further : (passed before made ops : List ℕ) (t : Table)
      → ReadPassed passed before made
      → AreDone passed (before ++ made) ops t
      → AreDone passed before (made ++ ops) t
  further passed before made ops t read d = (
    read_append passed before made ops read d.0,
    subst (λ zs. AreSafe passed zs t) (append_append before made ops) d.1,
  )

  -- what a COPY reads was passed
  pub source_passed : (passed before : List ℕ) (x y : ℕ)
      → IsSource l p.graph x y
      → IsSafe passed before x
      → ArePassed passed before (y ∷ [])
  source_passed passed before x y source safe w (inl q) = by_source source
    where
      by_source : (x ≡ y) ⊎ Says l p.graph x (copies x) (y ∷ []) → Passed passed before w
      by_source (inl same) = subst (Passed passed before) (same ∙ sym q) safe.value
      by_source (inr copy) =
          safe.inputs (S.Assign x (E.Var y)) (said copy) w (subst (IsIn w) (sym (saying copy)) (inl q))
  source_passed passed before x y source safe w (inr q) = absurd q

  pub renders_safe : (passed : List ℕ) (ws : ℕ → ℕ) (t : Table) (before : List ℕ) (body : List Stmt) (ops : List ℕ) (t' : Table)
      → Renders l p.graph ws t before body ops t'
      → AreSafe passed before t
      → AreDone passed before ops t'
  renders_safe passed ws t before body ops t' (Finish s b) safe = (tt, table_more passed b [] s safe)
  renders_safe passed ws t before body ops t' (Assigns s s' b m o a rest v e x is lone makes next) safe =
      let d = makes_safe passed ws s b e m x makes safe in
      further passed b m o s' d.0
      (renders_safe passed ws (put s v (Some x)) (b ++ m) rest o s' next
      (put_safe passed (b ++ m) s v x (table_more passed b m s safe) d.1))
  renders_safe passed ws t before body ops t' (Copied s s' b m o a rest v e x y i is lone makes source says next) safe =
      let d = makes_safe passed ws s b e m x makes safe in
      let f = made_last passed b m _ (y ∷ []) i says d.0 (source_passed passed (b ++ m) x y source d.1) in
      further passed b (m ++ i ∷ []) o s' f.0
      (renders_safe passed ws (put s v (Some i)) (b ++ (m ++ i ∷ [])) rest o s' next
      (put_safe passed (b ++ (m ++ i ∷ [])) s v i (table_more passed b (m ++ i ∷ []) s safe) f.1))
  renders_safe passed ws t before body ops t' (Does s s' b m o a rest i vs sets makes does next) safe =
      let d = all_safe passed ws s b _ m vs makes safe in
      let f = made_last passed b m does.line vs i does.says d.0 d.1 in
      further passed b (m ++ i ∷ []) o s' f.0
      (renders_safe passed ws (gets s (target_of a) i) (b ++ (m ++ i ∷ [])) rest o s' next
      (gets_safe passed (b ++ (m ++ i ∷ [])) s (target_of a) i (table_more passed b (m ++ i ∷ []) s safe) f.1))

  -- ---- exits

  exit_no_join : (e : SsaExit) (role : Role) → exit_role e ≡ Some role → IsJoin role → ⊥
  exit_no_join X.Return role is j = subst IsJoin (sym (some_same is)) j
  exit_no_join (X.Jump to) role is j = none_some is
  exit_no_join (X.Test taken other) role is j = subst IsJoin (sym (some_same is)) j
  exit_no_join (X.Switch arms) role is j = subst IsJoin (sym (some_same is)) j
  exit_no_join X.Stop role is j = none_some is

  last_passed : (passed before made vs ops : List ℕ) (e : SsaExit) (o : Option Role)
      → exit_role e ≡ o
      → Closes p.graph o made vs ops
      → ReadPassed passed before made
      → ArePassed passed (before ++ made) vs
      → ReadPassed passed before ops
  last_passed passed before made vs ops e None is closes read args = subst (ReadPassed passed before) (sym closes) read
  last_passed passed before made vs ops e (Some role) is closes read args =
      subst (ReadPassed passed before) (sym closes.1)
      (read_append passed before made (closes.0 ∷ []) read
      (no_join, subst (ArePassed passed (before ++ made)) (sym closes.3) args, tt))
    where
      no_join : IsJoinAt closes.0 → ⊥
      no_join j =
          exit_no_join e role is (subst IsJoin (some_same (sym (ap role_in j.1) ∙ closes.2)) j.2)

  -- ---- blocks

  block_passed : (passed : List ℕ) (ws : ℕ → ℕ) (heads : List ℕ) (b : ℕ) (x : Block) (e : SsaExit) (t t' : Table)
      → (r : RendersBlock l p.graph ws heads b x e t t')
      → AreSafe passed heads t
      → ReadPassed passed heads (r.body ++ r.last) × AreSafe passed (block_at p.graph b) t'
  block_passed passed ws heads b x e t t' r safe =
      let d = renders_safe passed ws t heads x.body r.body t' r.renders safe in
      let args = all_safe passed ws t' (heads ++ r.body) _ r.leaves.made r.leaves.vs r.leaves.args d.1 in (
        read_append passed heads r.body r.last d.0
            (last_passed passed (heads ++ r.body) r.leaves.made r.leaves.vs r.last e (exit_role e) refl r.leaves.closes
            args.0 args.1),
        subst (λ zs. AreSafe passed zs t') (append_append heads r.body r.last ∙ sym r.ops)
            (table_more passed (heads ++ r.body) r.last t' d.1),
      )

  -- ---- paths

  abbrev IsPath : List ℕ → ℕ → Type 0
  IsPath passed b = Path p.blocks p.entry.0 passed b

  module _ (k : Code) (c : Tables) (certified : Certified l k p c) where
    abbrev ws : ℕ → ℕ
    ws = widths k.variables

    abbrev IsBlock : ℕ → Type 0
    IsBlock b = (x : Block) × (slice_get k.blocks b ≡ Some x)

    abbrev Rendered : ℕ → Block → Type 0
    Rendered b x =
        (e : SsaExit)
        × (exit_at p.blocks b ≡ Some e)
        × RendersBlock l p.graph ws (c.heads b) b x e (c.at b) (c.now b)

    -- a block with an exit to another one is one of the code
    pub leads_block : (b d : ℕ) → Leads p.blocks b d → IsBlock b
    leads_block b d lead = by_block (slice_get k.blocks b) refl
      where
        by_exit : (o : Option SsaBlock) → exit_in o ≡ None → IsIn d (targets_in o) → ⊥
        by_exit None none m = m
        by_exit (Some x) none m = none_some (sym none)

        by_block : (o : Option Block) → slice_get k.blocks b ≡ o → IsBlock b
        by_block None is = absurd (by_exit (block_with b p.blocks) (certified.outside b is).0 lead)
        by_block (Some x) is = (x, is)

    head_safe : (passed : List ℕ) (b v : ℕ) → IsIn v (c.heads b) → IsSafe passed (c.heads b) v
    head_safe passed b v m =
        let h = certified.heads b v m in
        record {
          value = here passed (c.heads b) v h.0 h.1 m;
          inputs = λ a line w q. by_head h.0 h.1 h.2 a line w q;
        }
      where
        by_head : (r : OpRow)
            → IsRow v r
            → IsHead k.entry b r
            → (a : Stmt)
            → line_of l v (op_at p.graph v) ≡ a ∷ []
            → ArePassed passed (c.heads b) (inputs_in (op_at p.graph v))
        by_head r is (inl j) a line w q = absurd (says_no_join v a line (r, is, j))
        by_head r is (inr s) a line w q = absurd (subst (IsIn w) (ap inputs_in is ∙ s.2) q)

    -- over an edge
    edge_safe : (passed : List ℕ) (from to : ℕ)
        → Leads p.blocks from to
        → AreSafe passed (c.heads from) (c.at from)
        → AreSafe (from ∷ passed) (c.heads to) (c.at to)
    edge_safe passed from to lead safe a v is = by_passes (certified.edges from to place.0 a v place.1 is)
      where
        place : (n : ℕ) × (slice_get (predecessors_at p.blocks to) n ≡ Some from)
        place = place_of from (predecessors_at p.blocks to) ((certified.predecessors from to).1 lead)

        before_edge : AreSafe passed (block_at p.graph from) (c.now from)
        before_edge =
            let block = leads_block from to lead in
            let rendered = certified.blocks from block.0 block.1 in
            (block_passed passed ws (c.heads from) from block.0 rendered.0 (c.at from) (c.now from) rendered.2 safe).1

        by_passes : Passes p.graph (c.heads to) place.0 v (c.now from a) → IsSafe (from ∷ passed) (c.heads to) v
        by_passes (inl h) = head_safe (from ∷ passed) to v h.0
        by_passes (inr h) =
            let s = before_edge a v h.1 in
            record {
              value = on passed (c.heads to) from v s.value;
              inputs = λ b line w m. on passed (c.heads to) from w (s.inputs b line w m);
            }

    pub at_safe : (passed : List ℕ) (b : ℕ) → IsPath passed b → AreSafe passed (c.heads b) (c.at b)
    at_safe passed b Start a v is =
        subst (λ d. IsSafe [] (c.heads d) v) (sym certified.entry)
        (head_safe [] k.entry v (certified.first a v (subst (λ d. c.at d a ≡ Some v) certified.entry is)).0)
    at_safe passed b (Step ps from to path lead) a v is =
        edge_safe ps from to lead (at_safe ps from path) a v is

    -- ---- uses

    block_of : (x : ℕ) (r : OpRow) → IsRow x r → IsBlock r.block
    block_of x r is = by_block (slice_get k.blocks r.block) refl
      where
        by_block : (o : Option Block) → slice_get k.blocks r.block ≡ o → IsBlock r.block
        by_block None none =
            absurd
            (subst (IsIn x) (certified.outside r.block none).1
            ((whole.ops r.block x).1 (subst (in_block r.block) (sym is) refl)))
        by_block (Some y) some = (y, some)

    -- An op of a block is a head, or no MULTIEQUAL, and on each path what it reads was passed before it.
    pub in_place : (x : ℕ) (r : OpRow) (passed : List ℕ)
        → IsRow x r
        → IsPath passed r.block
        → IsIn x (c.heads r.block)
        ⊎ ((IsJoin (role_of r.code) → ⊥) × ArePassed passed (before_op x (block_at p.graph r.block)) r.inputs)
    in_place x r passed is path =
        by_list (in_either x (c.heads r.block) (rendered.2.body ++ rendered.2.last)
        (subst (IsIn x) rendered.2.ops ((whole.ops r.block x).1 (subst (in_block r.block) (sym is) refl))))
      where
        block : IsBlock r.block
        block = block_of x r is

        rendered : Rendered r.block block.0
        rendered = certified.blocks r.block block.0 block.1

        read : ReadPassed passed (c.heads r.block) (rendered.2.body ++ rendered.2.last)
        read =
            (block_passed passed ws (c.heads r.block) r.block block.0 rendered.0 (c.at r.block) (c.now r.block) rendered.2
            (at_safe passed r.block path)).0

        by_list : IsIn x (c.heads r.block) ⊎ IsIn x (rendered.2.body ++ rendered.2.last)
            → IsIn x (c.heads r.block)
            ⊎ ((IsJoin (role_of r.code) → ⊥) × ArePassed passed (before_op x (block_at p.graph r.block)) r.inputs)
        by_list (inl m) = inl m
        by_list (inr m) =
            let h = read_at passed (c.heads r.block) (rendered.2.body ++ rendered.2.last) x
            (subst Apart rendered.2.ops (whole.ops_once r.block)) m read in
            inr (
              λ j. h.0 (r, is, j),
              subst (λ zs. ArePassed passed (before_op x zs) r.inputs) (sym rendered.2.ops)
                  (subst (ArePassed passed (before_op x (c.heads r.block ++ (rendered.2.body ++ rendered.2.last))))
                  (ap inputs_in is) h.1),
            )

    reads_passed : (x v : ℕ) (r : OpRow) (passed : List ℕ)
        → IsRow x r
        → (IsJoin (role_of r.code) → ⊥)
        → IsIn v r.inputs
        → IsPath passed r.block
        → Passed passed (before_op x (block_at p.graph r.block)) v
    reads_passed x v r passed is plain m path = by_case (in_place x r passed is path)
      where
        by_head : (s : OpRow) → IsRow x s → IsHead k.entry r.block s → s ≡ r → Passed passed (before_op x (block_at p.graph r.block)) v
        by_head s at (inl j) same = absurd (plain (subst (λ (z : OpRow). IsJoin (role_of z.code)) same j))
        by_head s at (inr h) same = absurd (subst (IsIn v) (ap (λ (z : OpRow). z.inputs) (sym same) ∙ h.2) m)

        by_case : IsIn x (c.heads r.block)
            ⊎ ((IsJoin (role_of r.code) → ⊥) × ArePassed passed (before_op x (block_at p.graph r.block)) r.inputs)
            → Passed passed (before_op x (block_at p.graph r.block)) v
        by_case (inl q) =
            let h = certified.heads r.block x q in by_head h.0 h.1 h.2 (some_same (sym h.1 ∙ is))
        by_case (inr h) = h.1 v m

    joins_passed : (x place v b : ℕ) (r : OpRow) (passed : List ℕ)
        → IsRow x r
        → IsJoin (role_of r.code)
        → slice_get (predecessors_at p.blocks r.block) place ≡ Some b
        → slice_get r.inputs place ≡ Some v
        → IsPath passed b
        → Passed passed (block_at p.graph b) v
    joins_passed x place v b r passed is j from input path =
        by_case (in_place x r (b ∷ passed) is (Step passed b r.block path lead))
      where
        lead : Leads p.blocks b r.block
        lead = (certified.predecessors b r.block).0 (in_at (predecessors_at p.blocks r.block) place b from)

        block : IsBlock b
        block = leads_block b r.block lead

        rendered : Rendered b block.0
        rendered = certified.blocks b block.0 block.1

        before_edge : AreSafe passed (block_at p.graph b) (c.now b)
        before_edge =
            (block_passed passed ws (c.heads b) b block.0 rendered.0 (c.at b) (c.now b) rendered.2
            (at_safe passed b path)).1

        by_passes : (a : ℕ)
            → IsIn x (c.heads r.block)
            → Passes p.graph (c.heads r.block) place x (c.now b a)
            → Passed passed (block_at p.graph b) v
        by_passes a m (inl h) = (before_edge a v (h.1 v (ap (λ o. slice_get (inputs_in o) place) is ∙ input))).value
        by_passes a m (inr h) = absurd (h.0 m)

        by_case : IsIn x (c.heads r.block)
            ⊎ ((IsJoin (role_of r.code) → ⊥)
            × ArePassed (b ∷ passed) (before_op x (block_at p.graph r.block)) r.inputs)
            → Passed passed (block_at p.graph b) v
        by_case (inl m) =
            let a = certified.own r.block x m in by_passes a.0 m (certified.edges b r.block place a.0 x from a.1)
        by_case (inr h) = absurd (h.0 j)

    used : (v b : ℕ) (before : List ℕ) → UsedAt (form p) v b before → Available (outline (form p)) v b before
    used v b before (Read x r is plain m at stands) passed path =
        subst (λ zs. Passed passed zs v) (sym stands)
        (reads_passed x v r passed is plain m (subst (IsPath passed) at path))
    used v b before (Joined x place r is j from input stands) passed path =
        subst (λ zs. Passed passed zs v) (sym stands) (joins_passed x place v b r passed is j from input path)

-- A function that stands for a code by a certificate is strict.
pub certified_strict : (l : Listing) (k : Code) (p : Parts)
    → IsWhole p.graph
    → (c : Tables)
    → Certified l k p c
    → Strict (form p)
certified_strict l k p whole c certified = record { passes = used l p whole k c certified }
