-- The body that a code is laid out as shows what the code shows.
use Rattle.std.proofs.Common.{◌≡◌, ℕ, ◌-◌, Bool, true, Option, Some, None, length, refl, subst}
use Rattle.std.specs.Prelude.{List, slice_get}
use Rattle.machine.specs.Trace.{End, BadTarget}
use Rattle.machine.specs.TwoWay.{TwoWay, IsFront, NeverEnds}
use Rattle.machine.specs.Machine.{after, seen, IsMonotone}
use Rattle.machine.proofs.Ranked.{two_way_ranked}
use Rattle.machine.proofs.TwoWay.{front_of_going, front_refl, two_way_to}
use Rattle.pcode_model.specs.declared.listing.Listing.{Listing}
use Rattle.pcode_model.specs.World.{Entry, shown, unless_over}
use Rattle.cmeaning.specs.Flat.{Flat}
use Rattle.cmeaning.specs.Step.{CState, at, carry_out, seen_c}
use Rattle.cmeaning.proofs.Grows.{carried_grows}
use Rattle.blockcode.specs.declared.code.Code.{Code}
use Rattle.blockcode.specs.Run.{widths, first_local, start_code, seen_code, code_machine}
use Rattle.blockcode.specs.Laid.{jump_names, blocks_name, laid_body}
use Rattle.blockcode.specs.CanLay.{CanLay, has_switch}
use Rattle.blockcode.proofs.Grows.{code_grows}
use Rattle.naming.specs.declared.head.Head.{Head}
use Rattle.naming.specs.Named.{named_function}
use Rattle.naming.specs.Run.{body_machine, flat_machine, returns_of, seen_body, widths_of}
use Rattle.naming.specs.Covered.{IsCovered}
use Rattle.naming_laws.proofs.Keeps as naming
use Rattle.layout_laws.proofs.Follows.{Related, body_run, arrives}
use Rattle.layout_laws.proofs.Ends.{simulates, two_way_later}
use Rattle.layout.specs.Suits.{Declares}
use Rattle.layout.proofs.Declared.{widths_declared}
use Rattle.layout_laws.proofs.Declared.{first_declared}
use Rattle.layout_laws.proofs.Laid.{jump_leads, jump_named, lines, lines_given, true_or}

-- What the run of flat code has shown only grows.
flat_grows : (l : Listing) (ws : ℕ → ℕ) (returns : ℕ → Bool) (code : List Flat)
    → IsMonotone (flat_machine l ws returns code)
flat_grows l ws returns code s = by s.local.world.over refl where
  by : (o : Option End) → s.local.world.over ≡ o
      → let t = carry_out l ws returns (slice_get code s.position) s in
      IsFront (shown s.local.world) (shown (unless_over o s t).local.world)
  by (Some e) is = front_refl (shown s.local.world)
  by None is =
      let t = carry_out l ws returns (slice_get code s.position) s in
      front_of_going (shown s.local.world) (shown t.local.world) is
      (carried_grows l ws returns (slice_get code s.position) s)

-- The laid-out body, by its own numbers, shows what the code shows, from every entry. A code with a switch is one whose
-- run never ends BadTarget.
pub keeps : (l : Listing) (returns : ℕ → Bool) (k : Code) (e : Entry)
    → CanLay returns k
    → (has_switch k ≡ true → NeverEnds BadTarget (seen_code l k e))
    → TwoWay (seen_code l k e)
    (seen (body_machine l (widths k.variables) returns (laid_body k)) (at 0 (first_local l k.variables e)))
keeps l returns k e can never =
    let g = lines returns k in
    let given = lines_given returns k can in
    let u = start_code l k e in
    let c = at 0 (first_local l k.variables e) in
    let run = body_run l k g in
    let grows = flat_grows l (widths k.variables) returns g.flat in
    let jump = jump_leads returns k can 0 k.entry can.numbers.entry
    (λ ne. true_or (jump_names 0 k.entry k.entry) (blocks_name 0 k.blocks k.entry) (jump_named 0 k.entry ne)) in
    let a = arrives l k g given 0 k.entry u c refl refl jump refl in
    two_way_later (seen_code l k e) run grows a.steps c
    (two_way_ranked (code_machine l k) run (Related l k g) (code_grows l k) grows (simulates l k g given)
    (length k.blocks - k.entry) u (after run.step a.steps c) (record { meets = a.meets; never = never }))

-- So does the function that is made of the body below a head that declares the code's variables.
pub function_keeps : (l : Listing) (h : Head) (k : Code) (e : Entry)
    → CanLay (returns_of h) k
    → Declares k.variables h.params h.locals
    → IsCovered h (laid_body k)
    → (has_switch k ≡ true → NeverEnds BadTarget (seen_code l k e))
    → TwoWay (seen_code l k e) (seen_c l (named_function h (laid_body k)) e)
function_keeps l h k e can declares covered never =
    let body = laid_body k in
    let P : (ℕ → ℕ) → Type 0 = λ ws. TwoWay (seen_code l k e)
    (seen (body_machine l ws (returns_of h) body) (at 0 (first_local l k.variables e))) in
    let Q : CState → Type 0 = λ c. TwoWay (seen_code l k e)
    (seen (body_machine l (widths_of h) (returns_of h) body) c) in
    two_way_to (seen_code l k e) (seen_body l h body e) (seen_c l (named_function h body) e)
    (subst Q (first_declared l e h k.variables declares)
    (subst P (widths_declared h k.variables declares) (keeps l (returns_of h) k e can never)))
    (λ n. naming.named_run l h body e n covered)
