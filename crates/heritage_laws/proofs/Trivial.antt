-- Where a trivial MULTIEQUAL is replaced by its value, the function still stands for the code, by the same tables with the
-- value in the place of the MULTIEQUAL. Every path to the MULTIEQUAL's block passed the value before it. So the value is
-- no MULTIEQUAL of a block at whose beginning the replaced one was known, which would take another word there.
use Rattle.std.proofs.Common.{◌≡◌, ◌≢◌, ℕ, zero, suc, Bool, true, false, List, [], ◌∷◌, ◌++◌, ◌⊎◌, inl, inr, length, map, Option, Some, None, refl, sym, ap, ◌∙◌, subst, slice_get, arith, cond}
use Rattle.std.specs.Prelude.{◌==◌}
use Rattle.std.proofs.lemmas.Bool.{cases_eq, eq-eqb}
use Rattle.heap_nodes.proofs.Places.{none_some, some_same}
use Rattle.pcode_model.specs.declared.listing.Listing.{Listing}
use Rattle.pcode_model.specs.Spaces.{put}
use Rattle.pcode_model.specs.World.{Entry}
use Rattle.cmeaning.specs.declared.tree.Expr.{Expr}
use Rattle.cmeaning.specs.declared.tree.Stmt.{Stmt}
use Rattle.blockcode.specs.declared.code.Code.{Code}
use Rattle.blockcode.specs.Run.{widths}
use Rattle.parts.specs.Stmts.{target_of, map_target}
use Rattle.node_lists.specs.Chains.{IsIn, removed}
use Rattle.node_lists.proofs.Chains.{eqb_not, in_left, in_right, in_either, removed_absent, put_here, put_away}
use Rattle.opgraph.specs.Graph.{OpRow, op_at, block_at, inputs_in, in_block, IsWhole, renamed, renamed_row}
use Rattle.opgraph.proofs.Whole.{place_of, in_at}
use Rattle.ssa_model.specs.declared.form.Parts.{Parts}
use Rattle.ssa_model.specs.Roles.{role_of}
use Rattle.ssa_model.specs.Outline.{Form, bytes_of, form, form_of, form_in, role_in, width_in, width_at, predecessors_at}
use Rattle.ssa_model.specs.Paths.{Path, Start, Step, IsPassed, IsJoin, Joined}
use Rattle.ssa_model.specs.Edits.{IsSsa}
use Rattle.ssa_laws.proofs.Avoids.{Arrival, arrival, cut_at}
use Rattle.ssa_laws.proofs.Keeps.{IsBeside, is_beside, join_line, no_line, join_fits, all_width, map_length}
use Rattle.heritage_laws.specs.Certificate.{Table, gets, copies, Says, IsMade, Carries, IsSource, Makes, Reads, OfConst, OfOne, OfTwo, MakesAll, NoMore, Next, Renders, Finish, Assigns, Copied, Does, IsHead, Tables, Certified}
use Rattle.heritage_laws.specs.Trivial.{IsTrivial, replaced}
use Rattle.heritage_laws.proofs.Strict.{Passed, on, here, said, at_safe, in_place}
use Rattle.heritage_laws.proofs.Tabled.{IsBlock, reached}

-- ---- lists

-- what isn't in the second part is removed from the first one
removed_left : (x : ℕ) (xs ys : List ℕ) → (IsIn x ys → ⊥) → removed x (xs ++ ys) ≡ removed x xs ++ ys
removed_left x [] ys n = removed_absent x ys n
removed_left x (z ∷ xs) ys n = by_case (z == x) (removed_left x xs ys n)
  where
    by_case : (b : Bool)
        → removed x (xs ++ ys) ≡ removed x xs ++ ys
        → cond b (xs ++ ys) (z ∷ removed x (xs ++ ys)) ≡ cond b xs (z ∷ removed x xs) ++ ys
    by_case true rest = refl
    by_case false rest = ap (λ zs. z ∷ zs) rest

-- an item of the images is the image of one that stands there
map_get : (f : ℕ → ℕ) (xs : List ℕ) (n x : ℕ)
    → slice_get (map f xs) n ≡ Some x
    → (y : ℕ) × (slice_get xs n ≡ Some y) × (f y ≡ x)
map_get f [] n x is = none_some is
map_get f (y ∷ xs) zero x is = (y, refl, some_same is)
map_get f (y ∷ xs) (suc n) x is = map_get f xs n x is

-- lists of one length have items at the same places
same_place : (xs ys : List ℕ) (n x : ℕ)
    → length ys ≡ length xs
    → slice_get xs n ≡ Some x
    → (y : ℕ) × (slice_get ys n ≡ Some y)
same_place [] ys n x same is = none_some is
same_place (z ∷ xs) [] n x same is = absurd (omega (arith, same))
same_place (z ∷ xs) (y ∷ ys) zero x same is = (y, refl)
same_place (z ∷ xs) (y ∷ ys) (suc n) x same is = same_place xs ys n x (omega (arith, same)) is

map_target_some : (f : ℕ → ℕ) (o : Option ℕ) (v : ℕ)
    → map_target f o ≡ Some v
    → (u : ℕ) × (o ≡ Some u) × (f u ≡ v)
map_target_some f None v is = none_some is
map_target_some f (Some u) v is = (u, refl, some_same is)

-- ---- renamed rows

renamed_inputs : (x w : ℕ) (o : Option OpRow) → inputs_in (renamed_row x w o) ≡ map (renamed x w) (inputs_in o)
renamed_inputs x w None = refl
renamed_inputs x w (Some r) = refl

renamed_role : (x w : ℕ) (o : Option OpRow) → role_in (renamed_row x w o) ≡ role_in o
renamed_role x w None = refl
renamed_role x w (Some r) = refl

renamed_width : (x w : ℕ) (o : Option OpRow) → width_in (renamed_row x w o) ≡ width_in o
renamed_width x w None = refl
renamed_width x w (Some r) = refl

module _
    (l : Listing) (k : Code) (p q : Parts) (e : Entry) (whole : IsWhole p.graph) (ssa : IsSsa (form p)) (c : Tables)
    (certified : Certified l k p c)
    (x w : ℕ) (r : OpRow)
    (trivial : IsTrivial (form p) x w r)
    (change : form q ≡ replaced x w r (form p))
  where
    abbrev IsPath : List ℕ → ℕ → Type 0
    IsPath passed b = Path p.blocks p.entry.0 passed b

    -- ---- every path to x passed w before

    row_block : (v : ℕ) (s : OpRow) (b : ℕ) → op_at p.graph v ≡ Some s → IsIn v (block_at p.graph b) → s.block ≡ b
    row_block v s b is m = subst (in_block b) is ((whole.ops b v).0 m)

    in_own : (v : ℕ) (s : OpRow) → op_at p.graph v ≡ Some s → IsIn v (block_at p.graph s.block)
    in_own v s is = (whole.ops s.block v).1 (subst (in_block s.block) (sym is) refl)

    passed_block : (passed : List ℕ) (v : ℕ) (s : OpRow)
        → op_at p.graph v ≡ Some s
        → Passed l p whole passed [] v
        → IsIn s.block passed
    passed_block passed v s is h =
        no_more (subst (λ (o : Option OpRow). IsPassed (form_in (op_at p.graph) o) v passed []) is h)
      where
        no_more : IsIn s.block passed ⊎ IsIn v [] → IsIn s.block passed
        no_more (inl m) = m
        no_more (inr m) = absurd m

    same_length : length r.inputs ≡ length (predecessors_at p.blocks r.block)
    same_length =
        sym (map_length (width_at (op_at p.graph)) r.inputs)
        ∙ ssa.formed.joins x (form_of (op_at p.graph) r) (ap (form_in (op_at p.graph)) trivial.row) trivial.join

    module _ (s : OpRow) (row : op_at p.graph w ≡ Some s) where
      first_time : (passed : List ℕ) (b : ℕ)
          → IsPath passed b
          → b ≡ r.block
          → (IsIn r.block passed → ⊥)
          → IsIn s.block passed
      first_time passed b Start same new =
          absurd (none (predecessors_at p.blocks r.block) r.inputs
          (ap (predecessors_at p.blocks) (sym same) ∙ ssa.formed.entered) same_length trivial.reads)
        where
          none : (bs vs : List ℕ) → bs ≡ [] → length vs ≡ length bs → IsIn w vs → ⊥
          none bs [] is len m = m
          none bs (v ∷ vs) is len m = let h = ap length is in absurd (omega (arith, h, len))
      first_time passed b (Step ps from to path lead) same new = by_input (trivial.inputs there.value (in_at r.inputs there.place there.value there.value_at))
        where
          there : IsBeside from (predecessors_at p.blocks r.block) r.inputs
          there =
              is_beside from (predecessors_at p.blocks r.block) r.inputs
              (subst (λ d. IsIn from (predecessors_at p.blocks d)) same ((certified.predecessors from to).1 lead)) same_length

          available : Passed l p whole (from ∷ ps) [] there.value
          available =
              on l p whole ps [] from there.value
              (ssa.strict.passes there.value from (block_at p.graph from)
              (Joined x there.place r trivial.row trivial.join there.block_at there.value_at refl) ps path)

          by_input : (there.value ≡ w) ⊎ (there.value ≡ x) → IsIn s.block (from ∷ ps)
          by_input (inl is) = passed_block (from ∷ ps) w s row (subst (Passed l p whole (from ∷ ps) []) is available)
          by_input (inr is) =
              absurd (new (passed_block (from ∷ ps) x r trivial.row (subst (Passed l p whole (from ∷ ps) []) is available)))

      passed_before : (passed : List ℕ) → IsPath passed r.block → IsIn s.block passed
      passed_before passed path =
          let a = arrival p.blocks p.entry.0 r.block passed path in
          a.less s.block (first_time a.passed r.block a.path refl a.new)

    -- so w is no MULTIEQUAL of a block at whose beginning some variable has x
    not_head : (d a : ℕ) → IsBlock l k p e whole ssa c certified d → c.at d a ≡ Some x → IsIn w (c.heads d) → ⊥
    not_head d a block is m =
        by_place (at.value)
      where
        s : (s : OpRow) × (op_at p.graph w ≡ Some s) × IsHead k.entry d s
        s = certified.heads d w m

        own : s.0.block ≡ d
        own =
            let t = certified.blocks d block.0 block.1 in
            row_block w s.0 d s.1
            (subst (IsIn w) (sym t.2.ops) (in_left w (c.heads d) (t.2.body ++ t.2.last) m))

        first : Arrival p.blocks p.entry.0 (reached l k p e whole ssa c certified d block).0 d
        first =
            let path = reached l k p e whole ssa c certified d block in arrival p.blocks p.entry.0 d path.0 path.1

        at : Rattle.heritage_laws.proofs.Strict.IsSafe l p whole first.passed (c.heads d) x
        at = at_safe l p whole k c certified first.passed d first.path a x is

        not_passed : IsIn r.block first.passed → ⊥
        not_passed h =
            let cut = cut_at p.blocks p.entry.0 r.block first.passed d first.path h in
            first.new (subst (λ b. IsIn b first.passed) own
            (cut.less s.0.block (passed_before s.0 s.1 cut.passed cut.path)))

        not_here : IsIn x (c.heads d) → ⊥
        not_here h =
            let t = certified.blocks d block.0 block.1 in
            let same : r.block ≡ d =
            row_block x r d trivial.row
            (subst (IsIn x) (sym t.2.ops) (in_left x (c.heads d) (t.2.body ++ t.2.last) h)) in
            first.new (subst (λ b. IsIn b first.passed) own
            (passed_before s.0 s.1 first.passed (subst (IsPath first.passed) (sym same) first.path)))

        by_place : Passed l p whole first.passed (c.heads d) x → ⊥
        by_place h =
            by_row (subst (λ (o : Option OpRow). IsPassed (form_in (op_at p.graph) o) x first.passed (c.heads d)) trivial.row h)
          where
            by_row : IsIn r.block first.passed ⊎ IsIn x (c.heads d) → ⊥
            by_row (inl g) = not_passed g
            by_row (inr g) = not_here g

    -- ---- names

    abbrev name : ℕ → ℕ
    name = renamed x w

    name_other : (v : ℕ) → v ≢ x → name v ≡ v
    name_other v n = ap (λ b. cond b w v) (eqb_not v x n)

    name_x : name x ≡ w
    name_x = ap (λ b. cond b w x) (eq-eqb x x refl)

    abbrev after : Table → Table
    after t v = map_target name (t v)

    -- ---- the new function

    row_of : (i : ℕ) → i ≢ x → op_at q.graph i ≡ renamed_row x w (op_at p.graph i)
    row_of i n =
        ap (λ (f : Form). f.rows i) change
        ∙ put_away None (Some x) (λ y. renamed_row x w (op_at p.graph y)) i (λ h. n (sym (some_same h)))

    not_elsewhere : (b : ℕ) → b ≢ r.block → IsIn x (block_at p.graph b) → ⊥
    not_elsewhere b n m = n (sym (row_block x r b trivial.row m))

    list_of : (b : ℕ) → block_at q.graph b ≡ removed x (block_at p.graph b)
    list_of b = by_case (cases_eq r.block b)
      where
        by_case : (r.block ≡ b) ⊎ (r.block ≡ b → ⊥) → block_at q.graph b ≡ removed x (block_at p.graph b)
        by_case (inl same) =
            ap (λ (f : Form). f.lists b) change
            ∙ put_here (removed x (block_at p.graph r.block)) (Some r.block) (block_at p.graph) b (ap (λ z. Some z) same)
            ∙ ap (λ d. removed x (block_at p.graph d)) same
        by_case (inr n) =
            ap (λ (f : Form). f.lists b) change
            ∙ put_away (removed x (block_at p.graph r.block)) (Some r.block) (block_at p.graph) b (λ h. n (some_same h))
            ∙ sym (removed_absent x (block_at p.graph b) (not_elsewhere b (λ h. n (sym h))))

    blocks_same : q.blocks ≡ p.blocks
    blocks_same = ap (λ (f : Form). f.blocks) change

    -- x has the width of w
    width_x : width_at (op_at p.graph) w ≡ width_at (op_at p.graph) x
    width_x =
        let place = place_of w r.inputs trivial.reads in
        all_width (width_at (op_at p.graph)) (bytes_of r.width) place.0 w r.inputs
        (join_fits (width_at (op_at p.graph)) (bytes_of r.width) r.inputs (role_of r.code) trivial.join
        (ssa.formed.ops x (form_of (op_at p.graph) r) (ap (form_in (op_at p.graph)) trivial.row))) place.1
        ∙ sym (ap width_in trivial.row)

    width_other : (v : ℕ) → v ≢ x → width_at (op_at q.graph) v ≡ width_at (op_at p.graph) v
    width_other v n = ap width_in (row_of v n) ∙ renamed_width x w (op_at p.graph v)

    width_same : (v : ℕ) → width_at (op_at q.graph) (name v) ≡ width_at (op_at p.graph) v
    width_same v = by_case (cases_eq v x)
      where
        by_case : (v ≡ x) ⊎ (v ≡ x → ⊥) → width_at (op_at q.graph) (name v) ≡ width_at (op_at p.graph) v
        by_case (inl is) =
            ap (width_at (op_at q.graph)) (ap name is ∙ name_x)
            ∙ width_other w trivial.other
            ∙ width_x
            ∙ ap (width_at (op_at p.graph)) (sym is)
        by_case (inr n) = ap (width_at (op_at q.graph)) (name_other v n) ∙ width_other v n

    -- ---- ops

    says_other : (i : ℕ) (a : List ℕ → Stmt) (vs : List ℕ) → Says l p.graph i a vs → i ≢ x
    says_other i a vs says is =
        let same : says.row ≡ r = some_same (sym says.is ∙ ap (op_at p.graph) is ∙ trivial.row) in
        no_line
        (sym (join_line l i vs (role_of says.row.code) says.row.width
        (subst (λ (z : OpRow). IsJoin (role_of z.code)) (sym same) trivial.join))
        ∙ says.line vs)

    says_after : (i : ℕ) (a : List ℕ → Stmt) (vs : List ℕ) → Says l p.graph i a vs → Says l q.graph i a (map name vs)
    says_after i a vs says = record {
      row = record says.row { inputs = map name says.row.inputs };
      is = row_of i (says_other i a vs says) ∙ ap (renamed_row x w) says.is;
      line = says.line;
      inputs = ap (map name) says.inputs;
    }

    -- what stood before still does, but for x
    abbrev Within : List ℕ → List ℕ → Type 0
    Within before now = (i : ℕ) → i ≢ x → IsIn i before → IsIn i now

    within_more : (before now more : List ℕ) → Within before now → Within (before ++ more) (now ++ more)
    within_more before now more h i n m = by_case (in_either i before more m)
      where
        by_case : IsIn i before ⊎ IsIn i more → IsIn i (now ++ more)
        by_case (inl g) = in_left i now more (h i n g)
        by_case (inr g) = in_right i now more g

    made_after : (i : ℕ) (before now made ops : List ℕ)
        → i ≢ x
        → Within before now
        → IsMade i before made ops
        → IsMade i now made ops
    made_after i before now made ops n h (inl is) = inl is
    made_after i before now made ops n h (inr m) = inr (m.0, within_more before now made h i n m.1)

    abbrev ws : ℕ → ℕ
    ws = widths k.variables

    makes_after : (t : Table) (before : List ℕ) (a : Expr) (ops : List ℕ) (v : ℕ)
        → Makes l p.graph ws t before a ops v
        → (now : List ℕ)
        → Within before now
        → Makes l q.graph ws (after t) now a ops (name v)
    makes_after t before a ops v (Reads b z u is width) now h =
        Reads now z (name u) (ap (map_target name) is) (width_same u ∙ width)
    makes_after t before a ops v (OfConst b o n i says width how) now h =
        let other = says_other i _ [] says in
        subst (Makes l q.graph ws (after t) now _ o) (sym (name_other i other))
        (OfConst now o n i (says_after i _ [] says) (width_other i other ∙ width) (made_after i b now [] o other h how))
    makes_after t before a ops v (OfOne b m o g d z i makes says width how) now h =
        let other = says_other i _ (z ∷ []) says in
        subst (Makes l q.graph ws (after t) now _ o) (sym (name_other i other))
        (OfOne now m o g d (name z) i (makes_after t b d m z makes now h) (says_after i _ (z ∷ []) says)
        (width_other i other ∙ width) (made_after i b now m o other h how))
    makes_after t before a ops v (OfTwo b m n o g d f z y i first second says width how) now h =
        let other = says_other i _ (z ∷ y ∷ []) says in
        subst (Makes l q.graph ws (after t) now _ o) (sym (name_other i other))
        (OfTwo now m n o g d f (name z) (name y) i (makes_after t b d m z first now h)
        (makes_after t (b ++ m) f n y second (now ++ m) (within_more b now m h)) (says_after i _ (z ∷ y ∷ []) says)
        (width_other i other ∙ width) (made_after i b now (m ++ n) o other h how))

    all_after : (t : Table) (before : List ℕ) (es : List Expr) (ops vs : List ℕ)
        → MakesAll l p.graph ws t before es ops vs
        → (now : List ℕ)
        → Within before now
        → MakesAll l q.graph ws (after t) now es ops (map name vs)
    all_after t before es ops vs (NoMore b) now h = NoMore now
    all_after t before es ops vs (Next b m o a rest v us makes next) now h =
        Next now m o a rest (name v) (map name us) (makes_after t b a m v makes now h)
        (all_after t (b ++ m) rest o us next (now ++ m) (within_more b now m h))

    -- ---- statements

    put_after : (t : Table) (v u : ℕ) → put (after t) v (Some (name u)) ≡ after (put t v (Some u))
    put_after t v u = λ i y. at y i
      where
        at : (y : ℕ) → put (after t) v (Some (name u)) y ≡ after (put t v (Some u)) y
        at y = by_case (y == v)
          where
            by_case : (b : Bool) → cond b (Some (name u)) (map_target name (t y)) ≡ map_target name (cond b (Some u) (t y))
            by_case true = refl
            by_case false = refl

    gets_after : (t : Table) (target : Option ℕ) (i : ℕ) → i ≢ x → gets (after t) target i ≡ after (gets t target i)
    gets_after t None i n = refl
    gets_after t (Some v) i n = ap (λ z. put (after t) v (Some z)) (sym (name_other i n)) ∙ put_after t v i

    source_after : (z y : ℕ) → IsSource l p.graph z y → IsSource l q.graph (name z) (name y)
    source_after z y (inl same) = inl (ap name same)
    source_after z y (inr copy) =
        let other = says_other z (copies z) (y ∷ []) copy in
        inr (subst (λ i. Says l q.graph i (copies i) (name y ∷ [])) (sym (name_other z other))
        (says_after z (copies z) (y ∷ []) copy))

    carries_after : (a : Stmt) (i : ℕ) (vs : List ℕ)
        → Carries l p.graph ws a i vs
        → Carries l q.graph ws a i (map name vs)
    carries_after a i vs does = record {
      line = does.line;
      says = says_after i does.line vs does.says;
      parts = λ us same. does.parts us (same ∙ map_length name vs);
      width = λ v is. width_other i (says_other i does.line vs does.says) ∙ does.width v is;
    }

    renders_after : (t : Table) (before : List ℕ) (body : List Stmt) (ops : List ℕ) (t' : Table)
        → Renders l p.graph ws t before body ops t'
        → (now : List ℕ)
        → Within before now
        → Renders l q.graph ws (after t) now body ops (after t')
    renders_after t before body ops t' (Finish s b) now h = Finish (after s) now
    renders_after t before body ops t' (Assigns s s' b m o a rest v u z is lone makes next) now h =
        Assigns (after s) (after s') now m o a rest v u (name z) is lone (makes_after s b u m z makes now h)
        (subst (λ f. Renders l q.graph ws f (now ++ m) rest o (after s')) (sym (put_after s v z))
        (renders_after (put s v (Some z)) (b ++ m) rest o s' next (now ++ m) (within_more b now m h)))
    renders_after t before body ops t' (Copied s s' b m o a rest v u z y i is lone makes source says next) now h =
        let other = says_other i (copies i) (y ∷ []) says in
        Copied (after s) (after s') now m o a rest v u (name z) (name y) i is lone (makes_after s b u m z makes now h)
        (source_after z y source) (says_after i (copies i) (y ∷ []) says)
        (subst (λ f. Renders l q.graph ws f (now ++ (m ++ i ∷ [])) rest o (after s')) (sym (gets_after s (Some v) i other))
        (renders_after (put s v (Some i)) (b ++ (m ++ i ∷ [])) rest o s' next (now ++ (m ++ i ∷ []))
        (within_more b now (m ++ i ∷ []) h)))
    renders_after t before body ops t' (Does s s' b m o a rest i vs sets makes does next) now h =
        let other = says_other i does.line vs does.says in
        Does (after s) (after s') now m o a rest i (map name vs) sets (all_after s b _ m vs makes now h)
        (carries_after a i vs does)
        (subst (λ f. Renders l q.graph ws f (now ++ (m ++ i ∷ [])) rest o (after s'))
        (sym (gets_after s (target_of a) i other))
        (renders_after (gets s (target_of a) i) (b ++ (m ++ i ∷ [])) rest o s' next (now ++ (m ++ i ∷ []))
        (within_more b now (m ++ i ∷ []) h)))
