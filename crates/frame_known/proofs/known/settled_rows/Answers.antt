use Rattle.std.proofs.Common.{◌≡◌, ◌∙◌, Bool, List, Option, Some, None, true, false, length, replicate, set, ap, sym, subst, arith}
use Rattle.std.proofs.lemmas.List.{length-replicate}
use Rattle.pcode_model.specs.Step.{first_place}
use Rattle.frame_known.specs.Rows.{Row}
use Rattle.frame_known.specs.Settling.{Nothing_owed, Settling}
use Rattle.frame_known.proofs.Passing.{number_inside, settling_first}
use Rattle.frame_known.proofs.known.settled_rows.Goals as goal

pub index_mut-requires : goal.index_mut-requires
index_mut-requires c =
    let lt =
    number_inside c.args.listing.now c.args.blocks.now c.requires.flow c.entry_number-start.result
    (first_place c.args.listing.now) c.entry_number-start.ensures in
    let e : length c.in_ok-rows.rows.items ≡ length c.args.blocks.now =
    ap length (c.in_ok-rows.ensures {u = tt}) ∙ length-replicate {A = Option Row} (length c.args.blocks.now) None in
    omega (arith, lt, e, c.in_ok-rows.rows.ok.0)

pub index_mut-requires-2 : goal.index_mut-requires-2
index_mut-requires-2 c =
    let lt =
    number_inside c.args.listing.now c.args.blocks.now c.requires.flow c.entry_number-start.result
    (first_place c.args.listing.now) c.entry_number-start.ensures in
    let e : length c.in_ok-waits.waits.items ≡ length c.args.blocks.now =
    ap length (c.in_ok-waits.ensures {u = tt}) ∙ length-replicate (length c.args.blocks.now) false in
    omega (arith, lt, e, c.in_ok-waits.waits.ok.0)

pub settle-requires-clause-settling : goal.settle-requires-clause-settling
settle-requires-clause-settling c =
    let l = c.args.listing.now in
    let s = c.args.slots.now in
    let n = c.entry_number-start.result in
    let P : List (Option Row) → List Bool → Row → Type 0 =
    λ rows waits first. Settling l s c.args.blocks.now Nothing_owed (set rows n (Some first)) (set waits n true) in
    let x =
    settling_first l c.requires.read s c.requires.slots c.args.blocks.now c.requires.flow n
    c.entry_number-start.ensures in
    subst (λ rows. P rows c.in_ok-waits.waits.items c.in_ok-first.first) (sym (c.in_ok-rows.ensures {u = tt}))
    (subst (λ waits. P (replicate (length c.args.blocks.now) None) waits c.in_ok-first.first)
    (sym (c.in_ok-waits.ensures {u = tt}))
    (subst (λ first. P (replicate (length c.args.blocks.now) None) (replicate (length c.args.blocks.now) false) first)
    (sym (c.in_ok-first.ensures {u = tt})) x))
