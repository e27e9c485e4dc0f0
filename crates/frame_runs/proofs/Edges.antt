-- Where a step leads: along an edge of the flow, unless the run has ended.
use Rattle.std.proofs.Common.{◌≡◌, ℕ, Bool, true, false, List, [], ◌∷◌, Option, Some, None, refl, sym, ap, ◌∙◌, subst, inl, inr}
use Rattle.std.specs.Prelude.{Result, Ok, Err, cond, ◌==◌, slice_index}
use Rattle.machine.specs.Trace.{End, Call}
use Rattle.pcode_model.specs.declared.listing.SpaceKind.{SpaceKind}
use Rattle.pcode_model.specs.declared.listing.SpaceKind.TheVariants.{Constant, Ram, Register, Unique}
use Rattle.pcode_model.specs.declared.listing.Varnode.{Varnode}
use Rattle.pcode_model.specs.declared.listing.Op.{Op}
use Rattle.pcode_model.specs.declared.listing.Place.{Place}
use Rattle.pcode_model.specs.declared.listing.Proto.{Proto}
use Rattle.pcode_model.specs.declared.listing.Instruction.{Instruction}
use Rattle.pcode_model.specs.declared.listing.Listing.{Listing}
use Rattle.pcode_model.specs.declared.opcode.Opcode.{Opcode}
use Rattle.pcode_model.specs.declared.opcode.Opcode.TheVariants as O
use Rattle.pcode_model.specs.declared.tables.TableAt.{TableAt}
use Rattle.pcode_model.specs.declared.flow.FlowWhy.{FlowWhy}
use Rattle.pcode_model.specs.declared.flow.FlowWhy.TheVariants.{NoTarget, FallsOff}
use Rattle.pcode_model.specs.declared.flow.Turn.TheVariants.{GoesOn, Switches}
use Rattle.pcode_model.specs.Spaces.{kind_of}
use Rattle.pcode_model.specs.Places.{Standing, Nothing, Passes, Does, standing, place, next_place, next_instruction, relative_place, branch_place}
use Rattle.pcode_model.specs.Memory.{Acts, Frame}
use Rattle.pcode_model.specs.World.{Taken, Stops, Took, take_answer, recorded}
use Rattle.pcode_model.specs.Step.{State, Goes, Calls, moved, in_world, write_varnode, write_out, fetched, asked, output, answered, called, gone, apply, divided, effect_of, effect_at, read_all, operands, step_at, varnode_at, proto_of, callee_at, returns}
use Rattle.pcode_model.specs.Flow.{IsIn, Way, Leads, Fails, stands, way_to, relative_way, branch_way, turn_of, turn_at, call_turn, turn_in, turn_ways, standing_ways, ways, LeadsTo}

-- none of the ways is a fault
abbrev pub NoFail : List Way → Type 0
NoFail ws = (why : FlowWhy) → IsIn (Fails why) ws → ⊥

module _ {M : Type 0} (m : Acts M) (l : Listing) where
  varnode_at_place : (k : SpaceKind) (w : Varnode) (n : ℕ) (s : State M) → (write_varnode m l k w n s).at ≡ s.at
  varnode_at_place Constant w n s = refl
  varnode_at_place Ram w n s = refl
  varnode_at_place Register w n s = refl
  varnode_at_place Unique w n s = refl

  out_at : (o : Option Varnode) (n : ℕ) (s : State M) → (write_out m l o n s).at ≡ s.at
  out_at None n s = refl
  out_at (Some w) n s = varnode_at_place (kind_of l w.space) w n s

  fetched_at : (o : Option Varnode) (r : Result ℕ End) (s : State M) → (fetched m l o r s).at ≡ s.at
  fetched_at o (Err e) s = refl
  fetched_at o (Ok n) s = out_at o n s

  asked_at : (o : Option Varnode) (t : Taken M) (s : State M) → (asked m l o t s).at ≡ s.at
  asked_at o (Stops w) s = refl
  asked_at o (Took a w) s = out_at o (output o a.word) (in_world w s)

  answered_at : (p : Proto) (t : Taken M) (s : State M) → (answered l p t s).at ≡ s.at
  answered_at p (Stops w) s = refl
  answered_at p (Took a w) s = refl

  called_at : (p : Proto) (r : Bool) (s : State M) → (called m l p r s).at ≡ s.at
  called_at p true s = answered_at p (take_answer m s.world) s
  called_at p false s = refl

-- a way that isn't a fault leads there
leads_by : (l : Listing) (why : FlowWhy) (q : Place) → (way_to l why q ≡ Fails why → ⊥) → way_to l why q ≡ Leads q
leads_by l why q h = by (stands l q) h where
  by : (b : Bool) → (cond b (Leads q) (Fails why) ≡ Fails why → ⊥) → cond b (Leads q) (Fails why) ≡ Leads q
  by true h = refl
  by false h = absurd (h refl)

relative_by : (l : Listing) (o : Option Place) (q : Place)
    → o ≡ Some q
    → ((why : FlowWhy) → relative_way l o ≡ Fails why → ⊥)
    → relative_way l o ≡ Leads q
relative_by l None q e h = absurd (cc)
relative_by l (Some p) q e h =
    let f : p ≡ q = cc in leads_by l FallsOff p (h FallsOff) ∙ ap Leads f

branch_by : (l : Listing) (i : Instruction) (n : ℕ) (to : Varnode) (q : Place)
    → branch_place i n to ≡ Some q
    → ((why : FlowWhy) → branch_way l i n to ≡ Fails why → ⊥)
    → branch_way l i n to ≡ Leads q
branch_by l i n to q e h = by (to.space == 0) e h where
  by : (b : Bool)
      → cond b (relative_place i n to) (Some (place to.offset 0)) ≡ Some q
      → ((why : FlowWhy) → cond b (relative_way l (relative_place i n to)) (way_to l NoTarget
      (place to.offset 0)) ≡ Fails why → ⊥)
      → cond b (relative_way l (relative_place i n to)) (way_to l NoTarget (place to.offset 0)) ≡ Leads q
  by true e h = relative_by l (relative_place i n to) q e h
  by false e h =
      let f : place to.offset 0 ≡ q = cc in leads_by l NoTarget (place to.offset 0) (h NoTarget) ∙ ap Leads f

module _
    {M : Type 0}
    (m : Acts M)
    (l : Listing)
    (t : List TableAt)
    (f : Frame)
    (s : State M)
    (i : Instruction)
  where
    -- a step to the next place goes on
    goes_on : (q : Place)
        → q ≡ next_place i s.at.index
        → NoFail (turn_ways l t s.at i GoesOn)
        → IsIn (Leads q) (turn_ways l t s.at i GoesOn)
    goes_on q e h =
        inl (ap Leads e ∙ sym (leads_by l FallsOff (next_place i s.at.index) (λ x. h FallsOff (inl (sym x)))))

    divided_goes : (out : Option Varnode) (o : Option ℕ)
        → (let u = apply m l (next_place i s.at.index) (divided out o) s in
        u.world.over ≡ None → NoFail (turn_ways l t s.at i GoesOn) → IsIn (Leads u.at) (turn_ways l t s.at i GoesOn))
    divided_goes out None on h = absurd (cc)
    divided_goes out (Some n) on h = goes_on _ (out_at m l out n (moved (next_place i s.at.index) s)) h

    -- a branch that is taken leads where its way leads
    branch_goes : (to : Varnode)
        → (let u = apply m l (next_place i s.at.index) (Goes (branch_place i s.at.index to)) s in
        u.world.over ≡ None
        → ((why : FlowWhy) → branch_way l i s.at.index to ≡ Fails why → ⊥)
        → Leads u.at ≡ branch_way l i s.at.index to)
    branch_goes to on h = by (branch_place i s.at.index to) refl on where
      by : (o : Option Place)
          → branch_place i s.at.index to ≡ o
          → (gone o s).world.over ≡ None
          → Leads (gone o s).at ≡ branch_way l i s.at.index to
      by None e on = absurd (cc)
      by (Some q) e on = sym (branch_by l i s.at.index to q e h)

    tests_goes : (to : Varnode) (b : Bool)
        → (let u = apply m l (next_place i s.at.index) (Goes (cond b (Some (next_place i s.at.index))
        (branch_place i s.at.index to))) s in
        let ws = branch_way l i s.at.index to ∷ way_to l FallsOff (next_place i s.at.index) ∷ [] in
        u.world.over ≡ None → NoFail ws → IsIn (Leads u.at) ws)
    tests_goes to true on h =
        inr (inl (sym (leads_by l FallsOff (next_place i s.at.index) (λ x. h FallsOff (inr (inl (sym x)))))))
    tests_goes to false on h = inl (branch_goes to on (λ why x. h why (inl (sym x))))

    call_goes : (r : Bool) (to : ℕ) (ws : List ℕ) (p : Proto)
        → (let u = apply m l (next_place i s.at.index) (Calls to ws p r) s in
        u.world.over ≡ None
        → NoFail (turn_ways l t s.at i (call_turn r))
        → IsIn (Leads u.at) (turn_ways l t s.at i (call_turn r)))
    call_goes true to ws p on h =
        goes_on _ (called_at m l p true (in_world (recorded (Call to ws) s.world) (moved
        (next_place i s.at.index) s))) h
    call_goes false to ws p on h = absurd (cc)

    indirect_goes : (out : Option Varnode) (vs : List Varnode) (ws : List ℕ)
        → (let u = apply m l (next_place i s.at.index)
        (effect_of l (f.own s.at 0) i s.at.index s.local O.CallInd out vs ws) s in
        u.world.over ≡ None → NoFail (turn_ways l t s.at i GoesOn) → IsIn (Leads u.at) (turn_ways l t s.at i GoesOn))
    indirect_goes out vs [] on h = absurd (cc)
    indirect_goes out vs (w ∷ ws) on h = call_goes true w ws (proto_of l None) on h

    code_goes : (out : Option Varnode) (vs : List Varnode) (code : Opcode) (ws : List ℕ)
        → (turn_of l code vs ≡ Switches → ⊥)
        → (let u = apply m l (next_place i s.at.index)
        (effect_of l (f.own s.at 0) i s.at.index s.local code out vs ws) s in
        u.world.over ≡ None
        → NoFail (turn_ways l t s.at i (turn_of l code vs))
        → IsIn (Leads u.at) (turn_ways l t s.at i (turn_of l code vs)))
    code_goes out vs (O.Unary op) ws none on h = goes_on _ (out_at m l out _ (moved (next_place i s.at.index) s)) h
    code_goes out vs (O.Binary op) ws none on h = goes_on _ (out_at m l out _ (moved (next_place i s.at.index) s)) h
    code_goes out vs (O.Divide op) ws none on h = divided_goes out _ on h
    code_goes out vs O.Load ws none on h = goes_on _ (fetched_at m l out _ (moved (next_place i s.at.index) s)) h
    code_goes out vs O.Store ws none on h = goes_on _ refl h
    code_goes out vs O.Branch ws none on h = inl (branch_goes (varnode_at vs 0) on (λ why x. h why (inl (sym x))))
    code_goes out vs O.CBranch ws none on h = tests_goes (varnode_at vs 0) (slice_index ws 0 == 0) on h
    code_goes out vs O.BranchInd ws none on h = absurd (none refl)
    code_goes out vs O.Call ws none on h =
        let callee = callee_at l (varnode_at vs 0).offset in
        call_goes (returns callee) (varnode_at vs 0).offset ws (proto_of l callee) on h
    code_goes out vs O.CallInd ws none on h = indirect_goes out vs ws on h
    code_goes out vs O.CallOther ws none on h = goes_on _ (asked_at m l out _ (moved (next_place i s.at.index) s)) h
    code_goes out vs O.Return ws none on h = absurd (cc)
    code_goes out vs (O.Float name) ws none on h = absurd (cc)
    code_goes out vs (O.FloatConversion op) ws none on h = absurd (cc)
    code_goes out vs (O.Analysis op) ws none on h = absurd (cc)
    code_goes out vs (O.LeftOut op) ws none on h = absurd (cc)

    read_goes : (op : Op) (r : Result (List ℕ) End)
        → (turn_of l op.code op.inputs ≡ Switches → ⊥)
        → (let u = apply m l (next_place i s.at.index) (effect_at l f i op r s) s in
        u.world.over ≡ None
        → NoFail (turn_ways l t s.at i (turn_of l op.code op.inputs))
        → IsIn (Leads u.at) (turn_ways l t s.at i (turn_of l op.code op.inputs)))
    read_goes op (Err e) none on h = absurd (cc)
    read_goes op (Ok ws) none on h = code_goes op.out op.inputs op.code ws none on h

-- A step from a reached place without a fault, which isn't a BRANCHIND, leads along an edge, unless the run has ended.
pub step_leads : {M : Type 0} (m : Acts M) (l : Listing) (t : List TableAt) (f : Frame) (s : State M) (here : Standing)
    → standing l s.at ≡ here
    → NoFail (ways l t s.at)
    → (turn_at l s.at ≡ Switches → ⊥)
    → (step_at m l f here s).world.over ≡ None
    → LeadsTo l t s.at (step_at m l f here s).at
step_leads m l t f s Nothing is h none on = absurd (cc)
step_leads m l t f s (Passes i) is h none on =
    let P : Standing → Type 0 = λ x. IsIn (Leads (next_instruction i)) (standing_ways l t s.at x) in
    let Q : Standing → Type 0 = λ x. NoFail (standing_ways l t s.at x) in
    let g = subst Q is h in
    subst P (sym is) (inl (sym (leads_by l FallsOff (next_instruction i) (λ x. g FallsOff (inl (sym x))))))
step_leads m l t f s (Does i op) is h none on =
    let u = step_at m l f (Does i op) s in
    let P : Standing → Type 0 = λ x. IsIn (Leads u.at) (standing_ways l t s.at x) in
    let Q : Standing → Type 0 = λ x. NoFail (standing_ways l t s.at x) in
    let N : Standing → Type 0 = λ x. turn_in l x ≡ Switches → ⊥ in
    subst P (sym is)
    (read_goes m l t f s i op (read_all m l f s (operands l op.code op.inputs)) (subst N is none) on (subst Q is h))
