-- What is kept along a run: of each value, its equation holds, or some path to this place doesn't pass it.
use Rattle.std.proofs.Common.{◌≡◌, ◌≢◌, ℕ, zero, suc, ◌<◌, true, List, [], ◌∷◌, ◌++◌, ◌⊎◌, inl, inr, length, map, Option, Some, None, refl, sym, ap, ◌∙◌, subst, slice_get, arith}
use Rattle.std.specs.Prelude.{◌==◌, cond, nat_lt}
use Rattle.std.proofs.lemmas.Bool.{cases_eq, eq-eqb}
use Rattle.heap_nodes.proofs.Places.{some_same, none_some}
use Rattle.bits_core.specs.declared.word.Width.{Width}
use Rattle.pcode_model.specs.declared.listing.Listing.{Listing}
use Rattle.pcode_model.specs.declared.storage.ParamStorage.{ParamStorage}
use Rattle.pcode_model.specs.World.{Entry}
use Rattle.cmeaning.specs.declared.tree.Stmt.{Stmt}
use Rattle.cmeaning.specs.Do.{values_of}
use Rattle.cmeaning.specs.Step.{word_at}
use Rattle.node_lists.specs.Chains.{IsIn, Apart}
use Rattle.node_lists.proofs.Chains.{eqb_is, eqb_not, in_right, in_either, apart_sides}
use Rattle.node_lists.proofs.Detach.{cases_in}
use Rattle.parts.specs.Exprs.{Env, Holds, AgreeOn, Below, all_of, widths_of, reads_all}
use Rattle.parts.specs.Stmts.{action_of, target_of, args_of, put_into}
use Rattle.parts.proofs.Values.{values_agree}
use Rattle.edges.proofs.Steps.{into_same, into_other}
use Rattle.opgraph.specs.Graph.{OpRow, op_at, block_at, in_block, IsWhole}
use Rattle.ssa_model.specs.declared.form.Parts.{Parts}
use Rattle.ssa_model.specs.Roles.{Role, Starts, Joins, role_of}
use Rattle.ssa_model.specs.Outline.{bytes_of, form, form_of, form_in, width_in, width_at, predecessors_at}
use Rattle.ssa_model.specs.Paths.{Path, Start, Step, Read, Joined, IsJoin, IsPassed, before_op}
use Rattle.ssa_model.specs.Formed.{fits, all_are}
use Rattle.ssa_model.specs.Edits.{IsSsa}
use Rattle.ssa_model.specs.Lines.{line_of, line_by, target, beside, or_else, carried, carried_row, through}
use Rattle.ssa_model.specs.Run.{first_by, first_word, blocks_of}
use Rattle.ssa_laws.specs.Law.{Equations, NoneAtEntry, computes, computed_with, value_in}
use Rattle.node_lists.specs.Families.{list_slot}
use Rattle.ssa_model.proofs.Lists.{before_here, before_far}
use Rattle.ssa_laws.proofs.Avoids.{IsMissed, avoids, block_is, missed_less, missed_not, not_passed}
use Rattle.ssa_laws.proofs.Lines.{IsLine, NoLine, OneLine, line_is, reads_in, read_by, both_hold, IsGiven}

-- ---- the value of a statement where variables change that it doesn't read

pub one_line : {a b : Stmt} → a ∷ [] ≡ b ∷ [] → a ≡ b
one_line e = cc

pub no_line : {a : Stmt} {P : Type 0} → [] ≡ a ∷ [] → P
no_line e = absurd (cc)

pub value_kept : (ws : ℕ → ℕ) (s t : Env) (a : Stmt) (n : ℕ)
    → AgreeOn (reads_all (args_of a)) s t
    → value_in ws s a ≡ Some n
    → value_in ws t a ≡ Some n
value_kept ws s t a n agree is =
    by_values (all_of (values_of ws s (args_of a))) (values_agree ws s t (args_of a) agree) is
  where
    by_values : (o : Option (List ℕ))
        → Below o (all_of (values_of ws t (args_of a)))
        → computed_with (action_of a) (widths_of ws (args_of a)) o ≡ Some n
        → value_in ws t a ≡ Some n
    by_values None below h = none_some h
    by_values (Some ns) below h =
        ap (computed_with (action_of a) (widths_of ws (args_of a))) (below ns refl) ∙ h

-- ---- small facts

pub before_first : (x : ℕ) (xs ys : List ℕ) → (IsIn x xs → ⊥) → before_op x (xs ++ x ∷ ys) ≡ xs
before_first x [] ys n = before_here x x ys refl
before_first x (y ∷ xs) ys n =
    before_far x y (xs ++ x ∷ ys) (λ e. n (inl (sym e)))
    ∙ ap (λ zs. y ∷ zs) (before_first x xs ys (λ m. n (inr m)))

pub join_line : (l : Listing) (x : ℕ) (vs : List ℕ) (role : Role) (w : Option Width)
    → IsJoin role
    → line_by l x vs role w ≡ []
join_line l x vs (Joins atom) w j = refl
join_line l x vs role w j = absurd j

pub target_at : (x v : ℕ) (w : Option Width) → target x w ≡ Some v → v ≡ x
target_at x v None h = none_some h
target_at x v (Some w) h = sym (some_same h)

pub target_some : (x : ℕ) (w : Option Width) → 0 < bytes_of w → target x w ≡ Some x
target_some x None h = absurd (omega (arith, h))
target_some x (Some w) h = refl

pub join_cases : (role : Role) → IsJoin role ⊎ (IsJoin role → ⊥)
join_cases (Joins atom) = inl tt
join_cases role = inr (λ h. h)

block_low : (bs : List (List ℕ)) (b x : ℕ) → IsIn x (list_slot (slice_get bs b)) → b < length bs
block_low [] b x m = absurd m
block_low (ys ∷ bs) zero x m = omega arith
block_low (ys ∷ bs) (suc b) x m = let h = block_low bs b x m in omega (arith, h)

-- the input of a MULTIEQUAL for a block that leads to its own
pub record IsBeside (from : ℕ) (bs vs : List ℕ) : Type 0 where
  pub place : ℕ
  pub value : ℕ
  pub block_at : slice_get bs place ≡ Some from
  pub value_at : slice_get vs place ≡ Some value
  pub is : beside from bs vs ≡ Some value

pub is_beside : (from : ℕ) (bs vs : List ℕ) → IsIn from bs → length vs ≡ length bs → IsBeside from bs vs
is_beside from [] vs m len = absurd m
is_beside from (b ∷ bs) [] m len = absurd (omega (arith, len))
is_beside from (b ∷ bs) (v ∷ vs) m len = by_case (cases_eq b from) m (λ k. is_beside from bs vs k (omega (arith, len)))
  where
    by_case : (b ≡ from) ⊎ (b ≡ from → ⊥)
        → IsIn from (b ∷ bs)
        → (IsIn from bs → IsBeside from bs vs)
        → IsBeside from (b ∷ bs) (v ∷ vs)
    by_case (inl h) q next = record {
      place = 0;
      value = v;
      block_at = ap Some h;
      value_at = refl;
      is = ap (λ c. cond c (Some v) (beside from bs vs)) (eq-eqb b from h);
    }
    by_case (inr n) (inl h) next = absurd (n (sym h))
    by_case (inr n) (inr k) next =
        let q = next k in
        record {
          place = suc q.place;
          value = q.value;
          block_at = q.block_at;
          value_at = q.value_at;
          is = ap (λ c. cond c (Some v) (beside from bs vs)) (eqb_not b from n) ∙ q.is;
        }

pub carried_plain : (v from to : ℕ) (bs : List ℕ) (r : OpRow) (role : Role)
    → (IsJoin role → r.block ≡ to → ⊥)
    → carried v from to bs r role ≡ v
carried_plain v from to bs r (Joins atom) n =
    ap (λ c. cond c (or_else (beside from bs r.inputs) v) v) (eqb_not r.block to (n tt))
carried_plain v from to bs r role n = refl

pub carried_join : (v from to w : ℕ) (bs : List ℕ) (r : OpRow) (role : Role)
    → IsJoin role
    → r.block ≡ to
    → beside from bs r.inputs ≡ Some w
    → carried v from to bs r role ≡ w
carried_join v from to w bs r (Joins atom) j same is =
    ap (λ c. cond c (or_else (beside from bs r.inputs) v) v) (eq-eqb r.block to same) ∙ ap (λ o. or_else o v) is
carried_join v from to w bs r role j same is = absurd j

pub all_width : (ws : ℕ → ℕ) (w k v : ℕ) (vs : List ℕ)
    → all_are w (map ws vs) ≡ true
    → slice_get vs k ≡ Some v
    → ws v ≡ w
all_width ws w k v [] h is = none_some is
all_width ws w zero v (u ∷ vs) h is =
    ap ws (sym (some_same is)) ∙ eqb_is (ws u) w (both_hold (ws u == w) (all_are w (map ws vs)) h).0
all_width ws w (suc k) v (u ∷ vs) h is =
    all_width ws w k v vs (both_hold (ws u == w) (all_are w (map ws vs)) h).1 is

pub map_length : (f : ℕ → ℕ) (xs : List ℕ) → length (map f xs) ≡ length xs
map_length f [] = refl
map_length f (x ∷ xs) = ap suc (map_length f xs)

pub join_fits : (ws : ℕ → ℕ) (w : ℕ) (vs : List ℕ) (role : Role)
    → IsJoin role
    → fits role w (map ws vs) ≡ true
    → all_are w (map ws vs) ≡ true
join_fits ws w vs (Joins atom) j h = (both_hold (nat_lt 0 w) (all_are w (map ws vs)) h).1
join_fits ws w vs role j h = absurd j

not_join_start : (role : Role) (s : ParamStorage) → role ≡ Starts s → IsJoin role → ⊥
not_join_start role s is j = subst IsJoin is j

module _ (l : Listing) (p : Parts) (e : Entry) (whole : IsWhole p.graph) (ssa : IsSsa (form p)) where
  abbrev ws : ℕ → ℕ
  ws = (blocks_of l p).widths

  abbrev IsRow : ℕ → OpRow → Type 0
  IsRow v r = op_at p.graph v ≡ Some r

  -- what is said of the statement of an op
  pub line_at : (v : ℕ) (r : OpRow) → IsRow v r → IsLine l v r.inputs (role_of r.code) r.width
  line_at v r is =
      line_is l v (width_at (op_at p.graph)) r.inputs (role_of r.code) r.width
      (ssa.formed.ops v (form_of (op_at p.graph) r) (ap (form_in (op_at p.graph)) is))

  pub reads_inputs : (v y : ℕ) (r : OpRow) (a : Stmt)
      → IsRow v r
      → line_of l v (Some r) ≡ a ∷ []
      → 0 < reads_all (args_of a) y
      → IsIn y r.inputs
  reads_inputs v y r a is line h = by_line (line_at v r is)
    where
      by_line : IsLine l v r.inputs (role_of r.code) r.width → IsIn y r.inputs
      by_line (NoLine none k) = no_line (sym none ∙ line)
      by_line (OneLine b one t reads c) =
          let same : a ≡ b = one_line (sym line ∙ one) in
          subst (IsIn y) reads (subst (λ z. IsIn y (read_by (args_of z))) same (reads_in (args_of a) y h))

  pub target_is : (v : ℕ) (r : OpRow) (a : Stmt)
      → IsRow v r
      → line_of l v (Some r) ≡ a ∷ []
      → target_of a ≡ target v r.width
  target_is v r a is line = by_line (line_at v r is)
    where
      by_line : IsLine l v r.inputs (role_of r.code) r.width → target_of a ≡ target v r.width
      by_line (NoLine none k) = no_line (sym none ∙ line)
      by_line (OneLine b one t reads c) = subst (λ z. target_of z ≡ target v r.width) (one_line (sym one ∙ line)) t

  pub computes_value : (v : ℕ) (r : OpRow) (a : Stmt)
      → IsRow v r
      → line_of l v (Some r) ≡ a ∷ []
      → computes (action_of a) ≡ true
      → 0 < bytes_of r.width
  computes_value v r a is line h = by_line (line_at v r is)
    where
      by_line : IsLine l v r.inputs (role_of r.code) r.width → 0 < bytes_of r.width
      by_line (NoLine none k) = no_line (sym none ∙ line)
      by_line (OneLine b one t reads c) =
          c (subst (λ z. computes (action_of z) ≡ true) (one_line (sym line ∙ one)) h)

  -- what has a statement is no entry value and no MULTIEQUAL
  pub not_start : (v : ℕ) (r : OpRow) (a : Stmt) (s : ParamStorage) {P : Type 0}
      → line_of l v (Some r) ≡ a ∷ []
      → role_of r.code ≡ Starts s
      → P
  not_start v r a s line role =
      no_line (sym (ap (λ z. line_by l v r.inputs z r.width) role) ∙ line)

  -- ---- an equation where other values change

  kept : (env env' : Env) (v : ℕ) (r : OpRow)
      → IsRow v r
      → env' v ≡ env v
      → ((a : Stmt) → line_of l v (Some r) ≡ a ∷ [] → (y : ℕ) → IsIn y r.inputs → env' y ≡ env y)
      → Equations l p e env v r
      → Equations l p e env' v r
  kept env env' v r is own others eq = record {
    first = λ s role. own ∙ eq.first s role;
    equation = λ a line h.
        let n = eq.equation a line h in (
          n.0,
          (
            own ∙ n.1.0,
            value_kept ws env env' a n.0
                (λ y m k q. others a line y (reads_inputs v y r a is line m) ∙ q) n.1.1,
          ),
        );
    word = λ k h. let n = eq.word k h in (n.0, own ∙ n.1);
  }

  -- ---- what is kept

  -- of values that no statement gives, MULTIEQUALs of the block among them, the equations hold
  pub record Keeps (env : Env) (b : ℕ) (before : List ℕ) : Type 0 where
    pub each : (v : ℕ) (r : OpRow) → IsRow v r → Equations l p e env v r ⊎ IsMissed (form p) v b before
    pub quiet : (v : ℕ) (r : OpRow)
        → IsRow v r
        → line_of l v (Some r) ≡ []
        → (IsJoin (role_of r.code) → r.block ≡ b)
        → Equations l p e env v r

  -- with one op more before the place
  missed_more : (x v b : ℕ) (r : OpRow) (before : List ℕ)
      → IsRow v r
      → v ≢ x
      → IsMissed (form p) v b before
      → IsMissed (form p) v b (before ++ x ∷ [])
  missed_more x v b r before is ne m =
      missed_less (form p) v b before (before ++ x ∷ []) (λ h. fewer (in_either v before (x ∷ []) h)) m
    where
      fewer : IsIn v before ⊎ IsIn v (x ∷ []) → IsIn v before
      fewer (inl h) = h
      fewer (inr (inl h)) = absurd (ne h)
      fewer (inr (inr h)) = absurd h

  -- ---- an op without a statement is passed

  pub pass : (env : Env) (b x : ℕ) (t : OpRow) (before : List ℕ)
      → IsRow x t
      → t.block ≡ b
      → line_of l x (Some t) ≡ []
      → Keeps env b before
      → Keeps env b (before ++ x ∷ [])
  pass env b x t before row place line k = record {
    each = λ v r is. by_case v r is (cases_eq v x);
    quiet = k.quiet;
  }
    where
      by_case : (v : ℕ) (r : OpRow)
          → IsRow v r
          → (v ≡ x) ⊎ (v ≡ x → ⊥)
          → Equations l p e env v r ⊎ IsMissed (form p) v b (before ++ x ∷ [])
      by_case v r is (inl h) =
          let same : r ≡ t = some_same (sym is ∙ ap (op_at p.graph) h ∙ row) in
          inl (k.quiet v r is ((λ i. line_of l (h i) (Some (same i))) ∙ line)
          (λ j. ap (λ (z : OpRow). z.block) same ∙ place))
      by_case v r is (inr n) = later (k.each v r is)
        where
          later : Equations l p e env v r ⊎ IsMissed (form p) v b before
              → Equations l p e env v r ⊎ IsMissed (form p) v b (before ++ x ∷ [])
          later (inl q) = inl q
          later (inr m) = inr (missed_more x v b r before is n m)

  -- ---- a statement is carried out

  -- a path leads to the block of each op
  reached : (v : ℕ) (r : OpRow) → IsRow v r → (passed : List ℕ) × Path p.blocks p.entry.0 passed r.block
  reached v r is =
      ssa.formed.reached r.block
      (block_low p.graph.blocks r.block v
      ((whole.ops r.block v).1 (subst (in_block r.block) (sym is) refl)))

  -- Of an op that reads the op x, some path to x doesn't pass it; x doesn't read itself.
  misses : (v x : ℕ) (r t : OpRow)
      → IsRow v r
      → IsRow x t
      → (IsJoin (role_of r.code) → ⊥)
      → IsIn x r.inputs
      → IsMissed (form p) v t.block (before_op x (block_at p.graph t.block))
  misses v x r t is row plain m =
      avoids (form p) ssa.strict (λ b y. (whole.ops b y).0) v x r t is row plain m (reached v r is)

  module _
      (env : Env) (b x : ℕ) (t : OpRow) (a : Stmt) (before behind : List ℕ) (value : ℕ → ℕ)
      (row : IsRow x t)
      (stands : block_at p.graph b ≡ before ++ x ∷ behind)
      (line : line_of l x (Some t) ≡ a ∷ [])
      (gives : computes (action_of a) ≡ true → value_in ws env a ≡ Some (value (ws x)))
      (k : Keeps env b before)
    where
      abbrev next : Env
      next = put_into ws (target_of a) value env

      place : t.block ≡ b
      place = block_is (form p) (λ c y. (whole.ops c y).0) b x t row
          (subst (IsIn x) (sym stands) (in_right x before (x ∷ behind) (inl refl)))

      before_is : before_op x (block_at p.graph t.block) ≡ before
      before_is =
          ap (λ c. before_op x (block_at p.graph c)) place
          ∙ ap (before_op x) stands
          ∙ before_first x before behind
          (λ m. apart_sides before (x ∷ behind) x (subst Apart stands (whole.ops_once b)) m (inl refl))

      plain_line : (v : ℕ) (r : OpRow) (c : Stmt)
          → line_of l v (Some r) ≡ c ∷ []
          → IsJoin (role_of r.code)
          → ⊥
      plain_line v r c is j = no_line (sym (join_line l v r.inputs (role_of r.code) r.width j) ∙ is)

      missed_here : (v : ℕ) (r : OpRow)
          → IsRow v r
          → (IsJoin (role_of r.code) → ⊥)
          → IsIn x r.inputs
          → IsMissed (form p) v b before
      missed_here v r is plain m =
          subst (λ ys. IsMissed (form p) v b ys) before_is
          (subst (λ c. IsMissed (form p) v c (before_op x (block_at p.graph t.block))) place
          (misses v x r t is row plain m))

      -- x reads itself nowhere
      not_own : IsIn x t.inputs → ⊥
      not_own m =
          let plain : IsJoin (role_of t.code) → ⊥ = plain_line x t a line in
          missed_not (form p) x t.block (before_op x (block_at p.graph t.block))
          (misses x x t t row row plain m)
          (ssa.strict.passes x t.block (before_op x (block_at p.graph t.block)) (Read x t row plain m refl refl))

      other : (v : ℕ) → v ≢ x → next v ≡ env v
      other v ne =
          into_other ws (target_of a) value env v
          (λ h. ne (target_at x v t.width (sym (target_is x t a row line) ∙ h)))

      own_value : 0 < bytes_of t.width → next x ≡ Some (value (ws x))
      own_value h = into_same ws (target_of a) value env x (target_is x t a row line ∙ target_some x t.width h)

      own : Equations l p e next x t
      own = record {
        first = λ s role. not_start x t a s line role;
        equation = λ c is h.
            let same : c ≡ a = one_line (sym is ∙ line) in
            let h' : computes (action_of a) ≡ true = subst (λ z. computes (action_of z) ≡ true) same h in (
              value (ws x),
              (
                own_value (computes_value x t a row line h'),
                subst (λ z. value_in ws next z ≡ Some (value (ws x))) (sym same)
                    (value_kept ws env next a (value (ws x))
                    (λ y m n q. other y (λ z. not_own (subst (λ w. IsIn w t.inputs) z (reads_inputs x y t a row line m))) ∙ q)
                    (gives h')),
              ),
            );
        word = λ j h. (value (ws x), own_value h);
      }

      pub carried_out : Keeps next b (before ++ x ∷ [])
      carried_out = record {
        each = λ v r is. by_case v r is (cases_eq v x);
        quiet = λ v r is none j.
            kept env next v r is
            (other v (λ h.
            let same : r ≡ t = some_same (sym is ∙ ap (op_at p.graph) h ∙ row) in
            no_line (sym none ∙ (λ i. line_of l (h i) (Some (same i))) ∙ line)))
            (λ c line y m. no_line (sym none ∙ line))
            (k.quiet v r is none j);
      }
        where
          by_case : (v : ℕ) (r : OpRow)
              → IsRow v r
              → (v ≡ x) ⊎ (v ≡ x → ⊥)
              → Equations l p e next v r ⊎ IsMissed (form p) v b (before ++ x ∷ [])
          by_case v r is (inl h) =
              let same : t ≡ r = some_same (sym row ∙ ap (op_at p.graph) (sym h) ∙ is) in
              inl (subst (λ z. Equations l p e next z r) (sym h) (subst (Equations l p e next x) same own))
          by_case v r is (inr n) = later (k.each v r is) (cases_in x r.inputs) (join_cases (role_of r.code))
            where
              later : Equations l p e env v r ⊎ IsMissed (form p) v b before
                  → IsIn x r.inputs ⊎ (IsIn x r.inputs → ⊥)
                  → IsJoin (role_of r.code) ⊎ (IsJoin (role_of r.code) → ⊥)
                  → Equations l p e next v r ⊎ IsMissed (form p) v b (before ++ x ∷ [])
              later (inr m) q j = inr (missed_more x v b r before is n m)
              later (inl eq) (inl m) (inr plain) = inr (missed_more x v b r before is n (missed_here v r is plain m))
              later (inl eq) (inl m) (inl j) =
                  inl (kept env next v r is (other v n) (λ c line y h. absurd (plain_line v r c line j)) eq)
              later (inl eq) (inr o) j =
                  inl (kept env next v r is (other v n)
                  (λ c line y h. other y (λ z. o (subst (λ w. IsIn w r.inputs) z h))) eq)

  -- ---- an edge is taken

  -- the value is a MULTIEQUAL of the block
  abbrev IsJoinOf : ℕ → ℕ → Type 0
  IsJoinOf c y = (t : OpRow) × IsRow y t × IsJoin (role_of t.code) × (t.block ≡ c)

  join_of : (c y : ℕ) → IsJoinOf c y ⊎ (IsJoinOf c y → ⊥)
  join_of c y = by_row (op_at p.graph y) refl
    where
      by_role : (t : OpRow)
          → IsRow y t
          → IsJoin (role_of t.code) ⊎ (IsJoin (role_of t.code) → ⊥)
          → (t.block ≡ c) ⊎ (t.block ≡ c → ⊥)
          → IsJoinOf c y ⊎ (IsJoinOf c y → ⊥)
      by_role t is (inl j) (inl same) = inl (t, is, j, same)
      by_role t is (inl j) (inr n) =
          inr (λ h. n (ap (λ (z : OpRow). z.block) (some_same (sym is ∙ h.1)) ∙ h.3))
      by_role t is (inr n) q =
          inr (λ h. n (subst (λ (z : OpRow). IsJoin (role_of z.code)) (some_same (sym h.1 ∙ is)) h.2))

      by_row : (o : Option OpRow) → op_at p.graph y ≡ o → IsJoinOf c y ⊎ (IsJoinOf c y → ⊥)
      by_row None is = inr (λ h. none_some (sym is ∙ h.1))
      by_row (Some t) is = by_role t is (join_cases (role_of t.code)) (cases_eq t.block c)

  some_join : (c : ℕ) (vs : List ℕ)
      → ((y : ℕ) × IsIn y vs × IsJoinOf c y) ⊎ ((y : ℕ) → IsIn y vs → IsJoinOf c y → ⊥)
  some_join c [] = inr (λ y m h. m)
  some_join c (v ∷ vs) = by_case (join_of c v) (some_join c vs)
    where
      by_case : IsJoinOf c v ⊎ (IsJoinOf c v → ⊥)
          → ((y : ℕ) × IsIn y vs × IsJoinOf c y) ⊎ ((y : ℕ) → IsIn y vs → IsJoinOf c y → ⊥)
          → ((y : ℕ) × IsIn y (v ∷ vs) × IsJoinOf c y) ⊎ ((y : ℕ) → IsIn y (v ∷ vs) → IsJoinOf c y → ⊥)
      by_case (inl h) rest = inl (v, inl refl, h)
      by_case (inr n) (inl h) = inl (h.0, inr h.1, h.2)
      by_case (inr n) (inr o) = inr (λ y m h. one_of y m h)
        where
          one_of : (y : ℕ) → IsIn y (v ∷ vs) → IsJoinOf c y → ⊥
          one_of y (inl same) h = n (subst (IsJoinOf c) same h)
          one_of y (inr m) h = o y m h

  module _
      (env : Env) (b c : ℕ)
      (lead : IsIn b (predecessors_at p.blocks c))
      (k : Keeps env b (block_at p.graph b))
    where
      abbrev arrived : Env
      arrived v = env (through p b c v)

      -- what is no MULTIEQUAL of the block stays
      stays : (y : ℕ) → (IsJoinOf c y → ⊥) → through p b c y ≡ y
      stays y n = by_row (op_at p.graph y) refl
        where
          by_row : (o : Option OpRow)
              → op_at p.graph y ≡ o
              → carried_row y b c (predecessors_at p.blocks c) o ≡ y
          by_row None is = refl
          by_row (Some t) is =
              carried_plain y b c (predecessors_at p.blocks c) t (role_of t.code) (λ j same. n (t, is, j, same))

      stays_at : (y : ℕ) → (IsJoinOf c y → ⊥) → arrived y ≡ env y
      stays_at y n = ap env (stays y n)

      missed_on : (v : ℕ) (r : OpRow)
          → IsRow v r
          → IsMissed (form p) v b (block_at p.graph b)
          → IsMissed (form p) v c []
      missed_on v r is m = record {
        passed = b ∷ m.passed;
        path = Step m.passed b c m.path ((ssa.formed.predecessors b c).0 lead);
        misses = not_passed (form p) v r (b ∷ m.passed) [] is not_in (λ h. h);
      }
        where
          not_in : IsIn r.block (b ∷ m.passed) → ⊥
          not_in (inl h) =
              m.misses (subst (λ (o : Option OpRow). IsPassed (form_in (op_at p.graph) o) v m.passed (block_at p.graph b))
              (sym is)
              (inr ((whole.ops b v).1 (subst (in_block b) (sym is) h))))
          not_in (inr h) =
              m.misses (subst (λ (o : Option OpRow). IsPassed (form_in (op_at p.graph) o) v m.passed (block_at p.graph b))
              (sym is) (inl h))

      -- a MULTIEQUAL of the block has the word of its input
      joins_word : (v : ℕ) (r : OpRow)
          → IsRow v r
          → (j : IsJoin (role_of r.code))
          → r.block ≡ c
          → NoneAtEntry p
          → 0 < bytes_of r.width
          → Holds arrived v
      joins_word v r is j same none h =
          by_input (is_beside b (predecessors_at p.blocks c) r.inputs lead
          (sym (map_length (width_at (op_at p.graph)) r.inputs)
          ∙ ssa.formed.joins v (form_of (op_at p.graph) r) (ap (form_in (op_at p.graph)) is) j
          ∙ ap (λ d. length (predecessors_at p.blocks d)) same))
        where
          by_value : (q : IsBeside b (predecessors_at p.blocks c) r.inputs) (o : Option OpRow)
              → op_at p.graph q.value ≡ o
              → width_in o ≡ bytes_of r.width
              → Holds arrived v
          by_value q None is' w = absurd (omega (arith, h, w))
          by_value q (Some t) is' w = by_kept (k.each q.value t is')
            where
              moved : through p b c v ≡ q.value
              moved =
                  ap (carried_row v b c (predecessors_at p.blocks c)) is
                  ∙ carried_join v b c q.value (predecessors_at p.blocks c) r (role_of r.code) j same q.is

              by_kept : Equations l p e env q.value t ⊎ IsMissed (form p) q.value b (block_at p.graph b)
                  → Holds arrived v
              by_kept (inl eq) =
                  let n = eq.word (λ i. none) (omega (arith, h, w)) in
                  (n.0, ap env moved ∙ n.1)
              by_kept (inr m) =
                  absurd (missed_not (form p) q.value b (block_at p.graph b) m
                  (ssa.strict.passes q.value b (block_at p.graph b)
                  (Joined v q.place r is j
                  (ap (λ d. slice_get (predecessors_at p.blocks d) q.place) same ∙ q.block_at) q.value_at refl)))

          by_input : IsBeside b (predecessors_at p.blocks c) r.inputs → Holds arrived v
          by_input q =
              by_value q (op_at p.graph q.value) refl
              (all_width (width_at (op_at p.graph)) (bytes_of r.width) q.place q.value r.inputs
              (join_fits (width_at (op_at p.graph)) (bytes_of r.width) r.inputs (role_of r.code) j
              (ssa.formed.ops v (form_of (op_at p.graph) r) (ap (form_in (op_at p.graph)) is))) q.value_at)

      joins_hold : (v : ℕ) (r : OpRow)
          → IsRow v r
          → IsJoin (role_of r.code)
          → r.block ≡ c
          → Equations l p e arrived v r
      joins_hold v r is j same = record {
        first = λ s role. absurd (not_join_start (role_of r.code) s role j);
        equation = λ a line h. no_line (sym (join_line l v r.inputs (role_of r.code) r.width j) ∙ line);
        word = λ none h. joins_word v r is j same (none j) h;
      }

      pub over_edge : Keeps arrived c []
      over_edge = record {
        each = λ v r is. by_case v r is (join_of c v);
        quiet = λ v r is none j. by_quiet v r is none j (join_cases (role_of r.code));
      }
        where
          by_quiet : (v : ℕ) (r : OpRow)
              → IsRow v r
              → line_of l v (Some r) ≡ []
              → (IsJoin (role_of r.code) → r.block ≡ c)
              → IsJoin (role_of r.code) ⊎ (IsJoin (role_of r.code) → ⊥)
              → Equations l p e arrived v r
          by_quiet v r is none j (inl i) = joins_hold v r is i (j i)
          by_quiet v r is none j (inr n) =
              kept env arrived v r is
              (stays_at v (λ h. n (subst (λ (z : OpRow). IsJoin (role_of z.code)) (some_same (sym h.1 ∙ is)) h.2)))
              (λ a line y m. no_line (sym none ∙ line))
              (k.quiet v r is none (λ i. absurd (n i)))

          by_case : (v : ℕ) (r : OpRow)
              → IsRow v r
              → IsJoinOf c v ⊎ (IsJoinOf c v → ⊥)
              → Equations l p e arrived v r ⊎ IsMissed (form p) v c []
          by_case v r is (inl h) =
              let same : h.0 ≡ r = some_same (sym h.1 ∙ is) in
              inl (joins_hold v r is (subst (λ (z : OpRow). IsJoin (role_of z.code)) same h.2)
              (ap (λ (z : OpRow). z.block) (sym same) ∙ h.3))
          by_case v r is (inr n) = later (k.each v r is) (some_join c r.inputs) (join_cases (role_of r.code))
            where
              later : Equations l p e env v r ⊎ IsMissed (form p) v b (block_at p.graph b)
                  → ((y : ℕ) × IsIn y r.inputs × IsJoinOf c y) ⊎ ((y : ℕ) → IsIn y r.inputs → IsJoinOf c y → ⊥)
                  → IsJoin (role_of r.code) ⊎ (IsJoin (role_of r.code) → ⊥)
                  → Equations l p e arrived v r ⊎ IsMissed (form p) v c []
              later (inr m) q j = inr (missed_on v r is m)
              later (inl eq) (inl q) (inr plain) =
                  inr (missed_less (form p) v c (before_op q.0 (block_at p.graph c)) [] (λ h. absurd h)
                  (subst (λ d. IsMissed (form p) v d (before_op q.0 (block_at p.graph d))) q.2.3
                  (misses v q.0 r q.2.0 is q.2.1 plain q.1)))
              later (inl eq) (inl q) (inl j) =
                  inl (kept env arrived v r is (stays_at v n)
                  (λ a line y m. no_line (sym (join_line l v r.inputs (role_of r.code) r.width j) ∙ line)) eq)
              later (inl eq) (inr o) j =
                  inl (kept env arrived v r is (stays_at v n) (λ a line y m. stays_at y (o y m)) eq)

  -- ---- a run begins

  first_is : (v : ℕ) (r : OpRow)
      → IsRow v r
      → line_of l v (Some r) ≡ []
      → (IsJoin (role_of r.code) → r.block ≡ p.entry.0)
      → Equations l p e ((blocks_of l p).first l e) v r
  first_is v r is none j = record {
    first = λ s role. begins s role;
    equation = λ a line h. no_line (sym none ∙ line);
    word = λ free h. by_line (line_at v r is) free h;
  }
    where
      begins : (s : ParamStorage)
          → role_of r.code ≡ Starts s
          → (blocks_of l p).first l e v ≡ Some (word_at l e (bytes_of r.width) s)
      begins s role = ap (first_word l e) is ∙ ap (first_by l e (bytes_of r.width)) role

      given : IsGiven (role_of r.code)
          → (IsJoin (role_of r.code) → NoneAtEntry p)
          → Holds ((blocks_of l p).first l e) v
      given (inl i) free = absurd (free i v r is i (j i))
      given (inr s) free = (word_at l e (bytes_of r.width) s.0, begins s.0 s.1)

      by_line : IsLine l v r.inputs (role_of r.code) r.width
          → (IsJoin (role_of r.code) → NoneAtEntry p)
          → 0 < bytes_of r.width
          → Holds ((blocks_of l p).first l e) v
      by_line (NoLine line g) free h = given (g h) free
      by_line (OneLine a one t reads c) free h = no_line (sym none ∙ one)

  pub at_start : Keeps ((blocks_of l p).first l e) p.entry.0 []
  at_start = record {
    each = λ v r is. inr (record {
      passed = [];
      path = Start;
      misses = not_passed (form p) v r [] [] is (λ h. h) (λ h. h);
    });
    quiet = first_is;
  }
