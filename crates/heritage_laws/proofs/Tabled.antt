-- What is live has a value in the table, and over an edge it keeps it.
use Rattle.std.proofs.Common.{◌≡◌, ◌≢◌, ℕ, ◌<◌, List, [], ◌∷◌, ◌++◌, ◌⊎◌, inl, inr, length, Option, Some, None, refl, sym, ap, ◌∙◌, subst, slice_get, arith, cond}
use Rattle.std.proofs.lemmas.Bool.{cases_eq}
use Rattle.heap_nodes.proofs.Places.{none_some, some_same}
use Rattle.pcode_model.specs.declared.listing.Listing.{Listing}
use Rattle.pcode_model.specs.Spaces.{put}
use Rattle.pcode_model.specs.World.{Entry}
use Rattle.cmeaning.specs.declared.tree.Stmt.{Stmt}
use Rattle.blockcode.specs.declared.code.Block.{Block}
use Rattle.blockcode.specs.declared.code.Exit.{Exit}
use Rattle.blockcode.specs.declared.code.Exit.TheVariants as C
use Rattle.blockcode.specs.declared.code.Code.{Code}
use Rattle.blockcode.specs.Run.{widths}
use Rattle.parts.specs.Exprs.{reads_all}
use Rattle.parts.specs.Stmts.{target_of, args_of}
use Rattle.parts.proofs.Values.{put_other}
use Rattle.edges.specs.Exits.{exit_args, Onto, leads, LeadsTo}
use Rattle.edges.specs.Run.{Blocks, stmts_of, exit_of, stmts_at, exit_at, blocks_of_code}
use Rattle.edges.specs.Live.{Live, Read, Past, Leave, Onward}
use Rattle.node_lists.specs.Chains.{IsIn}
use Rattle.node_lists.proofs.Chains.{in_left}
use Rattle.opgraph.specs.Graph.{OpRow, op_at, block_at, inputs_in, in_block, IsWhole}
use Rattle.opgraph.proofs.Whole.{place_of}
use Rattle.ssa_model.specs.declared.form.SsaBlock.{SsaBlock}
use Rattle.ssa_model.specs.declared.form.SsaExit.{SsaExit}
use Rattle.ssa_model.specs.declared.form.Parts.{Parts}
use Rattle.ssa_model.specs.Roles.{role_of}
use Rattle.ssa_model.specs.Outline as outlines
use Rattle.ssa_model.specs.Outline.{form, form_of, form_in, outline, ids, exit_in, block_with, width_at, predecessors_at, Leads}
use Rattle.ssa_model.specs.Paths.{Path, IsJoin, before_op}
use Rattle.ssa_model.specs.Edits.{IsSsa}
use Rattle.ssa_model.specs.Lines.{carried_row, through}
use Rattle.ssa_laws.proofs.Keeps.{is_beside, carried_plain, carried_join, map_length}
use Rattle.ssa_laws.proofs.Runs.{leads_to, in_ids}
use Rattle.heritage_laws.specs.Certificate.{Table, gets, exit_on, Renders, Finish, Assigns, Copied, Does, IsHead, Tables, Passes, Certified}
use Rattle.heritage_laws.proofs.Made.{Has, made_reads, all_reads}
use Rattle.heritage_laws.proofs.Strict.{ArePassed, in_place}

-- ---- statements

some_eq : {v w : ℕ} → v ≡ w → Some v ≡ Some w
some_eq e = ap (λ z. Some z) e

-- what an assignment doesn't change was there before
pub put_has : (t : Table) (v u x : ℕ) → x ≢ v → Has (put t v (Some u)) x → Has t x
put_has t v u x other h = (h.0, sym (put_other t v (Some u) x other) ∙ h.1)

gets_has : (t : Table) (target : Option ℕ) (u x : ℕ) → target ≢ Some x → Has (gets t target u) x → Has t x
gets_has t None u x other h = h
gets_has t (Some v) u x other h = put_has t v u x (λ e. other (some_eq (sym e))) h

module _ (l : Listing) (p : Parts) (ws : ℕ → ℕ) where
  abbrev FirstReads : List Stmt → ℕ → Type 0
  FirstReads [] x = ⊥
  FirstReads (a ∷ rest) x = 0 < reads_all (args_of a) x

  -- the table has what the first statement reads
  first_reads : (t : Table) (before : List ℕ) (body : List Stmt) (ops : List ℕ) (t' : Table)
      → Renders l p.graph ws t before body ops t'
      → (x : ℕ)
      → FirstReads body x
      → Has t x
  first_reads t before body ops t' (Finish s b) x r = absurd r
  first_reads t before body ops t' (Assigns s s' b m o a rest v e u is lone makes next) x r =
      made_reads l p.graph ws s b e m u makes x
      (let q = ap (λ es. reads_all es x) (sym is.args) in omega (arith, q, r))
  first_reads t before body ops t' (Copied s s' b m o a rest v e u y i is lone makes source says next) x r =
      made_reads l p.graph ws s b e m u makes x
      (let q = ap (λ es. reads_all es x) (sym is.args) in omega (arith, q, r))
  first_reads t before body ops t' (Does s s' b m o a rest i vs sets makes does next) x r =
      all_reads l p.graph ws s b (args_of a) m vs makes x r

  -- the statements behind the first one are rendered, and what that one doesn't assign the table has already
  abbrev BehindFirst : Table → List Stmt → Table → Type 0
  BehindFirst t [] t' = t ≡ t'
  BehindFirst t (a ∷ rest) t' =
      (s : Table)
      × (before : List ℕ)
      × (ops : List ℕ)
      × Renders l p.graph ws s before rest ops t'
      × ((x : ℕ) → target_of a ≢ Some x → Has s x → Has t x)

  behind_first : (t : Table) (before : List ℕ) (body : List Stmt) (ops : List ℕ) (t' : Table)
      → Renders l p.graph ws t before body ops t'
      → BehindFirst t body t'
  behind_first t before body ops t' (Finish s b) = refl
  behind_first t before body ops t' (Assigns s s' b m o a rest v e u is lone makes next) = (
    put s v (Some u),
    b ++ m,
    o,
    next,
    λ x other h. put_has s v u x (λ e. other (is.target ∙ some_eq (sym e))) h,
  )
  behind_first t before body ops t' (Copied s s' b m o a rest v e u y i is lone makes source says next) = (
    put s v (Some i),
    b ++ (m ++ i ∷ []),
    o,
    next,
    λ x other h. put_has s v i x (λ e. other (is.target ∙ some_eq (sym e))) h,
  )
  behind_first t before body ops t' (Does s s' b m o a rest i vs sets makes does next) = (
    gets s (target_of a) i,
    b ++ (m ++ i ∷ []),
    o,
    next,
    λ x other h. gets_has s (target_of a) i x other h,
  )

-- ---- exits

-- An exit over values leads where it led.
pub exit_on_leads : (x : Exit) (vs ns : List ℕ) → leads (exit_on x vs) ns ≡ leads x ns
exit_on_leads (C.Return None) vs ns = refl
exit_on_leads (C.Return (Some e)) vs [] = refl
exit_on_leads (C.Return (Some e)) vs (n ∷ ns) = refl
exit_on_leads (C.Jump b) vs ns = refl
exit_on_leads (C.Test e taken other) vs [] = refl
exit_on_leads (C.Test e taken other) vs (n ∷ ns) = refl
exit_on_leads (C.Switch e arms) vs [] = refl
exit_on_leads (C.Switch e arms) vs (n ∷ ns) = refl
exit_on_leads C.Stop vs ns = refl

-- a block that has an exit is in the list
with_in : (b : ℕ) (bs : List SsaBlock) (e : SsaExit) → exit_in (block_with b bs) ≡ Some e → IsIn b (ids bs)
with_in b [] e is = none_some is
with_in b (z ∷ bs) e is = by_case (cases_eq z.id.0 b) (with_in b bs e)
  where
    by_case : (z.id.0 ≡ b) ⊎ (z.id.0 ≡ b → ⊥)
        → (exit_in (block_with b bs) ≡ Some e → IsIn b (ids bs))
        → IsIn b (ids (z ∷ bs))
    by_case (inl h) next = inl (sym h)
    by_case (inr n) next =
        inr (next (ap exit_in (sym (ap (λ t. cond t (Some z) (block_with b bs))
        (Rattle.node_lists.proofs.Chains.eqb_not z.id.0 b n))) ∙ is))

module _
    (l : Listing) (k : Code) (p : Parts) (e : Entry) (whole : IsWhole p.graph) (ssa : IsSsa (form p)) (c : Tables)
    (certified : Certified l k p c)
  where
    abbrev kb : Blocks
    kb = blocks_of_code k

    abbrev pub IsBlock : ℕ → Type 0
    IsBlock b = (x : Block) × (slice_get k.blocks b ≡ Some x)

    abbrev IsPath : List ℕ → ℕ → Type 0
    IsPath passed b = Path p.blocks p.entry.0 passed b

    pub block_low : (b : ℕ) → IsBlock b → b < (outline (form p)).count
    block_low b x =
        let r = certified.blocks b x.0 x.1 in
        (ssa.formed.all b).0 (with_in b p.blocks r.0 r.1)

    -- each block is reached
    pub reached : (b : ℕ) → IsBlock b → (passed : List ℕ) × IsPath passed b
    reached b x = ssa.formed.reached b (block_low b x)

    -- a block to which an exit leads is one of the code
    pub led_block : (b d : ℕ) → Leads p.blocks b d → IsBlock d
    led_block b d lead = by_block (slice_get k.blocks d) refl
      where
        by_block : (o : Option Block) → slice_get k.blocks d ≡ o → IsBlock d
        by_block None is =
            let z = in_ids l p e whole ssa d p.blocks ((ssa.formed.all d).1 (ssa.formed.exits b d lead)) in
            none_some (sym (certified.outside d is).0 ∙ ap exit_in z.1)
        by_block (Some x) is = (x, is)

    -- the code's exits lead where the function's do
    pub code_leads : (b d : ℕ) → IsBlock b → LeadsTo (exit_at kb b) d → Leads p.blocks b d
    code_leads b d x leads_there =
        let r = certified.blocks b x.0 x.1 in
        let there : leads x.0.exit leads_there.0 ≡ Onto d =
        ap (λ o. leads (exit_of o) leads_there.0) (sym x.1) ∙ leads_there.1 in
        by_block (block_with b p.blocks) r.0 r.1
        (leads_to r.0 r.2.leaves.vs leads_there.0 d
        (ap (λ z. leads z leads_there.0) (r.2.leaves.same r.2.leaves.vs refl) ∙ exit_on_leads x.0.exit r.2.leaves.vs leads_there.0 ∙ there))
      where
        by_block : (o : Option SsaBlock) (e : SsaExit)
            → exit_in o ≡ Some e
            → IsIn d (outlines.targets e)
            → IsIn d (outlines.targets_in o)
        by_block None e is m = none_some is
        by_block (Some z) e is m = subst (λ y. IsIn d (outlines.targets y)) (sym (some_same is)) m

    -- ---- edges

    -- over an edge the variable has the value that it had before, by its name there
    abbrev pub Crosses : ℕ → ℕ → ℕ → ℕ → Type 0
    Crosses b d a u = (w : ℕ) × (c.now b a ≡ Some w) × (through p b d u ≡ w)

    pub crosses : (b d a u : ℕ) → Leads p.blocks b d → c.at d a ≡ Some u → Crosses b d a u
    crosses b d a u lead is = by_passes (certified.edges b d place.0 a u place.1 is)
      where
        place : (n : ℕ) × (slice_get (predecessors_at p.blocks d) n ≡ Some b)
        place = place_of b (predecessors_at p.blocks d) ((certified.predecessors b d).1 lead)

        join : (r : OpRow) → op_at p.graph u ≡ Some r → IsIn u (c.heads d) → IsJoin (role_of r.code) → Crosses b d a u
        join r row m j =
            by_input (certified.edges b d q.place a u q.block_at is)
          where
            block : r.block ≡ d
            block =
                let x = led_block b d lead in
                let t = certified.blocks d x.0 x.1 in
                subst (in_block d) row
                ((whole.ops d u).0 (subst (IsIn u) (sym t.2.ops) (in_left u (c.heads d) (t.2.body ++ t.2.last) m)))

            q : Rattle.ssa_laws.proofs.Keeps.IsBeside b (predecessors_at p.blocks d) r.inputs
            q =
                is_beside b (predecessors_at p.blocks d) r.inputs ((certified.predecessors b d).1 lead)
                (sym (map_length (width_at (op_at p.graph)) r.inputs)
                ∙ ssa.formed.joins u (form_of (op_at p.graph) r) (ap (form_in (op_at p.graph)) row) j
                ∙ ap (λ e. length (predecessors_at p.blocks e)) block)

            by_input : Passes p.graph (c.heads d) q.place u (c.now b a) → Crosses b d a u
            by_input (inl h) = (
              q.value,
              h.1 q.value (ap (λ o. slice_get (inputs_in o) q.place) row ∙ q.value_at),
              ap (carried_row u b d (predecessors_at p.blocks d)) row
                  ∙ carried_join u b d q.value (predecessors_at p.blocks d) r (role_of r.code) j block q.is,
            )
            by_input (inr h) = absurd (h.0 m)

        head : (r : OpRow) → op_at p.graph u ≡ Some r → IsIn u (c.heads d) → IsHead k.entry d r → Crosses b d a u
        head r row m (inl j) = join r row m j
        head r row m (inr s) =
            absurd
            (subst (IsIn b) (ap (predecessors_at p.blocks) (s.0 ∙ sym certified.entry) ∙ ssa.formed.entered)
            ((certified.predecessors b d).1 lead))

        other : (IsIn u (c.heads d) → ⊥) → through p b d u ≡ u
        other not = by_row (op_at p.graph u) refl
          where
            no_join : (r : OpRow) → op_at p.graph u ≡ Some r → IsJoin (role_of r.code) → r.block ≡ d → ⊥
            no_join r row j same =
                let path = reached d (led_block b d lead) in
                by_place path.0
                (in_place l p whole k c certified u r path.0 row (subst (IsPath path.0) (sym same) path.1))
              where
                by_place : (passed : List ℕ)
                    → IsIn u (c.heads r.block)
                    ⊎ ((IsJoin (role_of r.code) → ⊥)
                    × ArePassed l p whole passed (before_op u (block_at p.graph r.block)) r.inputs)
                    → ⊥
                by_place passed (inl m) = not (subst (λ z. IsIn u (c.heads z)) same m)
                by_place passed (inr h) = h.0 j

            by_row : (o : Option OpRow) → op_at p.graph u ≡ o → through p b d u ≡ u
            by_row None row = ap (carried_row u b d (predecessors_at p.blocks d)) row
            by_row (Some r) row =
                ap (carried_row u b d (predecessors_at p.blocks d)) row
                ∙ carried_plain u b d (predecessors_at p.blocks d) r (role_of r.code) (λ j same. no_join r row j same)

        by_passes : Passes p.graph (c.heads d) place.0 u (c.now b a) → Crosses b d a u
        by_passes (inl h) = let q = certified.heads d u h.0 in head q.0 q.1 h.0 q.2
        by_passes (inr h) = (u, h.1, other h.0)

    -- ---- what is live

    live_has : (b : ℕ) (x : Block)
        → slice_get k.blocks b ≡ Some x
        → (rest : List Stmt) (v : ℕ)
        → Live kb b rest v
        → (t : Table) (before ops : List ℕ)
        → Renders l p.graph (widths k.variables) t before rest ops (c.now b)
        → Has t v
    live_has b x is rest v (Read b' a rest' v' r) t before ops renders =
        first_reads l p (widths k.variables) t before (a ∷ rest') ops (c.now b) renders v r
    live_has b x is rest v (Past b' a rest' v' other live) t before ops renders =
        let q = behind_first l p (widths k.variables) t before (a ∷ rest') ops (c.now b) renders in
        q.4 v other (live_has b x is rest' v live q.0 q.1 q.2 q.3)
    live_has b x is rest v (Leave b' v' r) t before ops renders =
        let q = certified.blocks b x is in
        let h =
        all_reads l p.graph (widths k.variables) (c.now b) (c.heads b ++ q.2.body) (exit_args x.exit) q.2.leaves.made
        q.2.leaves.vs q.2.leaves.args v
        (let e = ap (λ o. reads_all (exit_args (exit_of o)) v) (sym is) in omega (arith, e, r)) in
        (h.0, ap (λ (s : Table). s v) (behind_first l p (widths k.variables) t before [] ops (c.now b) renders) ∙ h.1)
    live_has b x is rest v (Onward b' d v' w leads_there same live) t before ops renders =
        let lead = code_leads b d (x, is) leads_there in
        let y = led_block b d lead in
        let q = certified.blocks d y.0 y.1 in
        let renders' : Renders l p.graph (widths k.variables) (c.at d) (c.heads d) (stmts_at kb d) q.2.body (c.now d) =
        subst (λ o. Renders l p.graph (widths k.variables) (c.at d) (c.heads d) (stmts_of o) q.2.body (c.now d)) (sym y.1)
        q.2.renders in
        let h = live_has d y.0 y.1 (stmts_at kb d) w live (c.at d) (c.heads d) q.2.body renders' in
        let z = crosses b d w h.0 lead h.1 in (
          z.0,
          ap (λ (s : Table). s v) (behind_first l p (widths k.variables) t before [] ops (c.now b) renders)
              ∙ ap (c.now b) (sym same)
              ∙ z.1,
        )

    -- At each place of a block the table has what is live there.
    pub live_tabled : (b : ℕ)
        → IsBlock b
        → (rest : List Stmt) (t : Table) (before ops : List ℕ)
        → Renders l p.graph (widths k.variables) t before rest ops (c.now b)
        → (v : ℕ)
        → Live kb b rest v
        → Has t v
    live_tabled b x rest t before ops renders v live = live_has b x.0 x.1 rest v live t before ops renders
