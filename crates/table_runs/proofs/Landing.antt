-- A run that comes into the slice of a jump table by its first place and falls through goes from the BRANCHIND to the
-- place of x's word, and where a range has x's tree it holds x's word.
use Rattle.std.proofs.Common.{◌≡◌, ℕ, true, List, [], ◌∷◌, ◌++◌, Option, None, Result, Ok, Err, refl, sym, ap, ◌∙◌, subst, ⊎_elim}
use Rattle.machine.specs.Trace.{End}
use Rattle.pcode_model.specs.declared.listing.Varnode.{Varnode}
use Rattle.pcode_model.specs.declared.listing.Op.{Op}
use Rattle.pcode_model.specs.declared.listing.Instruction.{Instruction}
use Rattle.pcode_model.specs.declared.listing.Place.{Place}
use Rattle.pcode_model.specs.declared.listing.Listing.{Listing}
use Rattle.pcode_model.specs.declared.opcode.Opcode.{Opcode}
use Rattle.pcode_model.specs.declared.opcode.Opcode.TheVariants as O
use Rattle.pcode_model.specs.Spaces.{kind_of}
use Rattle.pcode_model.specs.Memory.{Acts, Frame}
use Rattle.pcode_model.specs.Places.{Standing, Nothing, Passes, Does, next_place, standing}
use Rattle.pcode_model.specs.Step.{State, operands, read_all, read_varnode, step, step_at, varnode_at, with_first}
use Rattle.table_form.specs.Trees.{Tree}
use Rattle.table_form.specs.Slices.{inputs_in, read, traced}
use Rattle.table_runs.specs.Words.{Words}
use Rattle.table_runs.specs.Shapes.{HasShape, IsRead}
use Rattle.table_runs.proofs.Leading.{FallsThrough}
use Rattle.table_runs.proofs.Sound.{Says}
use Rattle.table_runs.proofs.Stepping.{Enters, operand_says}
use Rattle.pcode_model.specs.declared.tables.Case.{Case}
use Rattle.pcode_model.specs.Places.{place}
use Rattle.pcode_model.specs.Step.{apply, effect_at, local_word, moved}
use Rattle.table_form.specs.Slices.{guard_of, is_jump, jumps_in, target_of}
use Rattle.table_form.specs.Tables.{HasTable, HoldsTree}
use Rattle.table_runs.specs.Words.{value}
use Rattle.table_runs.specs.Outside.{IsOutside}
use Rattle.table_runs.proofs.Giving.{IsFixedLoad}
use Rattle.table_runs.proofs.Leading.{Leads, passing_leads}
use Rattle.table_runs.proofs.Walking.{HoldsAt, LoadsSay, Walked, guard_from_falls, stepped, walked_from}

module _
    {M : Type 0}
    (m : Acts M)
    (l : Listing)
    (f : Frame)
    (e : Words)
    (first : State M)
    (enters : Enters m l e first)
    (front : List Place)
    (end : Place)
    (shapes : (before after : List Place) (p : Place) (i : Instruction) (op : Op)
    → front ≡ before ++ p ∷ after
    → standing l p ≡ Does i op
    → HasShape l op.code op.out op.inputs)
    (loads : LoadsSay m l f e first enters front end shapes)
  where
    -- as the slice is entered nothing is written
    pub entered : HoldsAt m l f e first enters front end shapes (traced l []) first
    entered = record {
      world = refl;
      bytes = enters.small;
      traces = λ s. record { kept = λ o none. refl; wrote = λ o w some. absurd (cc); once = λ o p same. refl };
      untouched = λ s o kind. refl;
    }

    -- ---- the BRANCHIND

    module _ (index : ℕ) (x : Tree) (cases : List Case) (table : HasTable l end front index x cases)
        (ends : (i : Instruction) (op : Op)
        → standing l end ≡ Does i op
        → (v : Varnode) × ((op.inputs ≡ v ∷ []) × IsRead l v))
        (fixed : (u : Tree) → IsOutside x u (target_of l front end) → IsFixedLoad l e u)
        (r : State M) (walked : Walked m l f front first r) (going : r.world.over ≡ None) (at : r.at ≡ end) where
      there : HoldsAt m l f e first enters front end shapes (traced l front) r
      there = walked_from m l f e first enters front end shapes loads [] front first r refl entered walked going

      falls : FallsThrough e (guard_of l front)
      falls =
          guard_from_falls m l f e first enters front end shapes loads table.slice.follow table.leaves
          [] front first r refl entered walked going at

      -- what the BRANCHIND reads, and where it goes
      record Jumps (y : Standing) : Type 0 where
        word : ℕ
        says : Says e (read l (traced l front) (varnode_at (inputs_in y) 0)) (varnode_at (inputs_in y) 0).size word
        state : step_at m l f y r ≡ moved (place word 0) r

      abbrev After : Instruction → Opcode → Option Varnode → List Varnode → Result (List ℕ) End → State M
      After i code out vs ws =
          apply m l (next_place i r.at.index) (effect_at l f i (record { code = code; out = out; inputs = vs }) ws r) r

      read_jumps : (i : Instruction) (out : Option Varnode) (v : Varnode)
          → IsRead l v
          → (n : Result ℕ End)
          → read_varnode m l (kind_of l v.space) v r ≡ n
          → (After i O.BranchInd out (v ∷ []) (with_first n (Ok []))).world.over ≡ None
          → (word : ℕ)
          × (Says e (read l (traced l front) v) v.size word
          × (After i O.BranchInd out (v ∷ []) (with_first n (Ok [])) ≡ moved (place word 0) r))
      read_jumps i out v is (Err x) g over = absurd (cc)
      read_jumps i out v is (Ok n) g over =
          (n, (operand_says m l f e first enters (traced l front) r there v n is g, refl))

      jumps : (y : Standing)
          → standing l end ≡ y
          → jumps_in y ≡ true
          → (step_at m l f y r).world.over ≡ None
          → Jumps y
      jumps Nothing g j over = absurd (cc)
      jumps (Passes i) g j over = absurd (cc)
      jumps (Does i op) g j over =
          let known = ends i op g in by op.code op.out op.inputs j known.0 known.1.0 known.1.1 over
        where
          by : (code : Opcode) (out : Option Varnode) (vs : List Varnode)
              → is_jump code ≡ true
              → (v : Varnode)
              → vs ≡ v ∷ []
              → IsRead l v
              → (After i code out vs (read_all m l f r (operands l code vs))).world.over ≡ None
              → Jumps (Does i (record { code = code; out = out; inputs = vs }))
          by O.BranchInd out vs k v same is none =
              subst (λ us. (After i O.BranchInd out us (read_all m l f r (operands l O.BranchInd us))).world.over ≡ None
              → Jumps (Does i (record { code = O.BranchInd; out = out; inputs = us }))) (sym same)
              (λ over_v. let x = read_jumps i out v is (read_varnode m l (kind_of l v.space) v r) refl over_v in
              record { word = x.0; says = x.1.0; state = x.1.1 }) none
          by code out vs k v same is none = absurd (cc)

      -- The run goes on at the place of x's word.
      pub record Goes : Type 0 where
        pub leads : Leads l end front e x cases
        pub state : step m l f r ≡ moved leads.case.place r

      pub goes : (step m l f r).world.over ≡ None → Goes
      goes over =
          let same : step m l f r ≡ step_at m l f (standing l end) r = stepped m l f r end at going in
          let jump = jumps (standing l end) refl table.slice.ends (ap (λ (z : State M). z.world.over) (sym same) ∙ over) in
          let known = passing_leads l end front e index x cases table jump.says.sound falls fixed in
          record {
            leads = known;
            state = same ∙ jump.state ∙ ap (λ q. moved q r) (ap (λ n. place n 0) (sym jump.says.is) ∙ sym known.is_first);
          }

    -- ---- where x is held

    -- A range that has x's tree before a place of the slice holds x's word there.
    pub held : (before : List Place) (x : Tree) (v : Varnode) (s : State M)
        → HoldsTree l (traced l before) x v
        → HoldsAt m l f e first enters front end shapes (traced l before) s
        → IsRead l v
        → local_word l v s.local ≡ value e x
    held before x v s has h is =
        let word : read_varnode m l (kind_of l v.space) v s ≡ Ok (local_word l v s.local) =
        ⊎_elim (λ k. ap (λ kind. read_varnode m l kind v s) k) (λ k. ap (λ kind. read_varnode m l kind v s) k) has.kind in
        sym (ap (value e) (sym has.is) ∙ (operand_says m l f e first enters (traced l before) s h v
        (local_word l v s.local) is word).is)
