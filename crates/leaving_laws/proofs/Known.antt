-- What is known of a run where its MULTIEQUALs are to be copied: each has a word where its block begins, and each of
-- their inputs where the block ends from which it comes.
use Rattle.std.proofs.Common.{◌≡◌, ℕ, ◌<◌, true, false, List, [], ◌∷◌, ◌++◌, ◌⊎◌, inl, inr, length, map, Option, Some, None, refl, sym, ap, ◌∙◌, subst, slice_get, true≢false}
use Rattle.std.specs.Prelude.{nat_lt}
use Rattle.std.proofs.lemmas.Bool.{ltb-true}
use Rattle.std.proofs.lemmas.Option.{slice_get_within}
use Rattle.pcode_model.specs.declared.listing.Listing.{Listing}
use Rattle.pcode_model.specs.World.{Entry}
use Rattle.parts.specs.Exprs.{Holds}
use Rattle.edges.specs.Run.{Blocks, stmts_at}
use Rattle.edges.specs.Leave.{HasInputs}
use Rattle.edges.specs.Follow.{IsKnown}
use Rattle.edges.proofs.Leave.{left_link}
use Rattle.node_lists.specs.Chains.{IsIn}
use Rattle.node_lists.specs.Families.{list_slot}
use Rattle.node_lists.proofs.Chains.{Cut, cut, in_right}
use Rattle.opgraph.specs.Graph.{OpRow, op_at, block_at, in_block, IsWhole}
use Rattle.opgraph.proofs.Whole.{in_at}
use Rattle.ssa_model.specs.declared.form.Parts.{Parts}
use Rattle.ssa_model.specs.Roles.{Role, Joins, role_of}
use Rattle.ssa_model.specs.Outline.{bytes_of, width_at, form, outline, form_of, form_in, forms_of, block_with, targets_in, predecessors_at}
use Rattle.ssa_model.specs.Paths as paths
use Rattle.ssa_model.specs.Paths.{IsPassed, Available, IsJoin}
use Rattle.ssa_model.specs.Formed.{fits, is_join, no_join}
use Rattle.ssa_model.specs.Edits.{IsSsa}
use Rattle.ssa_model.specs.Lines.{line_of, body_of, through}
use Rattle.ssa_model.specs.Run.{blocks_of}
use Rattle.ssa_laws.specs.Law.{NoneAtEntry, StandsAt, state_after}
use Rattle.ssa_laws.proofs.Lines.{both_hold}
use Rattle.ssa_laws.proofs.Keeps.{join_line, join_cases}
use Rattle.ssa_laws.proofs.Runs.{one_further, append_append, none_more, body_append, stmts_are, equations_hold}
use Rattle.leaving_laws.specs.Copied.{shape_of, heads_of, copied_blocks}
use Rattle.leaving_laws.proofs.Inputs.{Joined, edge_input}
use Rattle.leaving_laws.proofs.Strict.{input_value}
use Rattle.leaving_laws.proofs.Heads.{in_number, Head, in_heads, in_next}

wide_join : (role : Role) (w : ℕ) (vs : List ℕ) → IsJoin role → fits role w vs ≡ true → nat_lt 0 w ≡ true
wide_join (Joins atom) w vs j h = (both_hold (nat_lt 0 w) _ h).0
wide_join role w vs j h = absurd j

joined : (role : Role) (b w : ℕ) (ks : List ℕ)
    → IsJoin role
    → is_join (Some (record { block = b; role = role; width = w; inputs = ks })) ≡ true
joined (Joins atom) b w ks j = refl
joined role b w ks j = absurd j

not_joined : (role : Role) (b w : ℕ) (ks : List ℕ)
    → (IsJoin role → ⊥)
    → is_join (Some (record { block = b; role = role; width = w; inputs = ks })) ≡ false
not_joined (Joins atom) b w ks n = absurd (n tt)
not_joined role b w ks n = refl

-- a block with an op is one of the function
pub in_low : (p : Parts) (b v : ℕ) → IsIn v (block_at p.graph b) → b < length p.graph.blocks
in_low p b v m = by_list (slice_get p.graph.blocks b) refl m
  where
    by_list : (o : Option (List ℕ)) → slice_get p.graph.blocks b ≡ o → IsIn v (list_slot o) → b < length p.graph.blocks
    by_list None is m = absurd m
    by_list (Some xs) is m = slice_get_within p.graph.blocks b xs is

module _ (l : Listing) (p : Parts) (e : Entry) (whole : IsWhole p.graph) (ssa : IsSsa (form p)) where
  abbrev k : Blocks
  k = blocks_of l p

  -- a value that is available where the run stands has a word
  word_here : NoneAtEntry p
      → (i : ℕ)
      → (state_after l p e i).local.world.over ≡ None
      → (before behind : List ℕ)
      → StandsAt l p (state_after l p e i) before behind
      → (v : ℕ) (r : OpRow)
      → op_at p.graph v ≡ Some r
      → 0 < bytes_of r.width
      → Available (outline (form p)) v (state_after l p e i).block before
      → Holds (state_after l p e i).local.env v
  word_here none i over before behind stands v r is wide available =
      (equations_hold l p e whole ssa i over before behind stands v r is available).word (λ j. none) wide

  -- ---- the beginning

  -- what stands before a MULTIEQUAL is a MULTIEQUAL
  quiet_before : (b v : ℕ) (before behind : List ℕ)
      → block_at p.graph b ≡ before ++ v ∷ behind
      → Head p b v
      → (x : ℕ)
      → IsIn x before
      → line_of l x (op_at p.graph x) ≡ []
  quiet_before b v before behind ops h x m = by_row (op_at p.graph x) refl
    where
      c : Cut x before
      c = cut x before m

      whole_list : block_at p.graph b ≡ c.xs ++ x ∷ (c.ys ++ v ∷ behind)
      whole_list = ops ∙ ap (λ zs. zs ++ v ∷ behind) c.is ∙ append_append c.xs (x ∷ c.ys) (v ∷ behind)

      among : (zs : List ℕ) → no_join (forms_of (op_at p.graph)) (zs ++ v ∷ behind) → is_join (forms_of (op_at p.graph) v) ≡ false
      among [] q = q.0
      among (z ∷ zs) q = among zs q.1

      by_join : (r : OpRow)
          → op_at p.graph x ≡ Some r
          → IsJoin (role_of r.code) ⊎ (IsJoin (role_of r.code) → ⊥)
          → line_of l x (Some r) ≡ []
      by_join r is (inl j) = join_line l x r.inputs (role_of r.code) r.width j
      by_join r is (inr n) =
          let f = form_of (op_at p.graph) r in
          let g = form_of (op_at p.graph) h.row in
          let one = joined g.role g.block g.width g.inputs h.join in
          let other = ssa.formed.joins_first b c.xs (c.ys ++ v ∷ behind) x whole_list
          (ap (λ o. is_join (form_in (op_at p.graph) o)) is ∙ not_joined f.role f.block f.width f.inputs n) in
          absurd (true≢false
          (sym one ∙ sym (ap (λ o. is_join (form_in (op_at p.graph) o)) h.is) ∙ among c.ys other))

      by_row : (o : Option OpRow) → op_at p.graph x ≡ o → line_of l x (op_at p.graph x) ≡ []
      by_row None is = ap (line_of l x) is
      by_row (Some r) is = ap (line_of l x) is ∙ by_join r is (join_cases (role_of r.code))

  no_body : (xs : List ℕ) → ((x : ℕ) → IsIn x xs → line_of l x (op_at p.graph x) ≡ []) → body_of l p.graph xs ≡ []
  no_body [] quiet = refl
  no_body (x ∷ xs) quiet =
      ap (λ cs. cs ++ body_of l p.graph xs) (quiet x (inl refl)) ∙ no_body xs (λ y m. quiet y (inr m))

  -- a MULTIEQUAL's value is wide
  pub wide_head : (b v : ℕ) (h : Head p b v) → 0 < bytes_of h.row.width
  wide_head b v h =
      let is = wide_join (role_of h.row.code) (bytes_of h.row.width) (map (width_at (op_at p.graph)) h.row.inputs) h.join
      (ssa.formed.ops v (form_of (op_at p.graph) h.row) (ap (form_in (op_at p.graph)) h.is)) in
      ltb-true 0 (bytes_of h.row.width) is

  begin_known : NoneAtEntry p
      → (i : ℕ)
      → (state_after l p e i).local.world.over ≡ None
      → (state_after l p e i).rest ≡ stmts_at k (state_after l p e i).block
      → (v : ℕ)
      → Head p (state_after l p e i).block v
      → Holds (state_after l p e i).local.env v
  begin_known none i over rest v h =
      word_here none i over (c.xs ++ v ∷ []) c.ys stands v h.row h.is (wide_head b v h)
      (λ passed path. subst (λ o. IsPassed o v passed (c.xs ++ v ∷ [])) (sym (ap (form_in (op_at p.graph)) h.is))
      (inr (in_right v c.xs (v ∷ []) (inl refl))))
    where
      b : ℕ
      b = (state_after l p e i).block

      c : Cut v (block_at p.graph b)
      c = cut v (block_at p.graph b) ((whole.ops b v).1 (subst (in_block b) (sym h.is) h.place))

      nothing : line_of l v (op_at p.graph v) ≡ []
      nothing = ap (line_of l v) h.is ∙ join_line l v h.row.inputs (role_of h.row.code) h.row.width h.join

      front : body_of l p.graph (c.xs ++ v ∷ []) ≡ []
      front =
          body_append l p e whole ssa c.xs (v ∷ [])
          ∙ ap (λ zs. zs ++ body_of l p.graph (v ∷ [])) (no_body c.xs (quiet_before b v c.xs c.ys c.is h))
          ∙ ap (λ zs. zs ++ []) nothing

      same : body_of l p.graph (block_at p.graph b) ≡ body_of l p.graph c.ys
      same =
          ap (body_of l p.graph) (c.is ∙ one_further c.xs c.ys v)
          ∙ body_append l p e whole ssa (c.xs ++ v ∷ []) c.ys
          ∙ ap (λ zs. zs ++ body_of l p.graph c.ys) front

      low : b < length p.graph.blocks
      low = in_low p b v ((whole.ops b v).1 (subst (in_block b) (sym h.is) h.place))

      stands : StandsAt l p (state_after l p e i) (c.xs ++ v ∷ []) c.ys
      stands = record {
        ops = c.is ∙ one_further c.xs c.ys v;
        rest = rest ∙ stmts_are l p e whole ssa b low ∙ same;
      }

  -- ---- the end

  end_known : NoneAtEntry p
      → (i : ℕ)
      → (state_after l p e i).local.world.over ≡ None
      → (state_after l p e i).rest ≡ []
      → (c v : ℕ)
      → IsIn c (targets_in (block_with (state_after l p e i).block p.blocks))
      → Head p c v
      → Holds (state_after l p e i).local.env (through p (state_after l p e i).block c v)
  end_known none i over rest c v to h =
      subst (Holds (state_after l p e i).local.env) (sym q.is)
      (word_here none i over (block_at p.graph b) [] stands q.beside.value input.0 input.1.0 input.1.1 available)
    where
      b : ℕ
      b = (state_after l p e i).block

      lead : IsIn b (predecessors_at p.blocks c)
      lead = (ssa.formed.predecessors b c).1 to

      q : Joined l p whole ssa b c v h.row
      q = edge_input l p whole ssa b c v h.row h.is h.join h.place lead

      input : (r : OpRow) × ((op_at p.graph q.beside.value ≡ Some r) × (0 < bytes_of r.width))
      input =
          input_value l p e whole ssa v q.beside.value h.row h.is
          (in_at h.row.inputs q.beside.place q.beside.value q.beside.value_at)

      available : Available (outline (form p)) q.beside.value b (block_at p.graph b)
      available =
          ssa.strict.passes q.beside.value b (block_at p.graph b)
          (paths.Joined v q.beside.place h.row h.is h.join
          (subst (λ z. slice_get (predecessors_at p.blocks z) q.beside.place ≡ Some b) (sym h.place) q.beside.block_at)
          q.beside.value_at refl)

      stands : StandsAt l p (state_after l p e i) (block_at p.graph b) []
      stands = record { ops = sym (none_more (block_at p.graph b)); rest = rest }

  -- At each state of a run the MULTIEQUALs of its block, and at the block's end their inputs, have words.
  pub inputs_known : NoneAtEntry p → IsKnown l (left_link (shape_of p) k (copied_blocks l p)) (HasInputs (shape_of p) k) e
  inputs_known none i j = record {
    begins = λ over rest v m.
        begin_known none i over rest v
        (in_heads p whole (state_after l p e i).block v (in_number v (heads_of p (state_after l p e i).block) m));
    ends = λ over rest x m.
        let h = in_next p whole (state_after l p e i).block x m in
        end_known none i over rest x.0 x.1 h.0 h.1;
  }
