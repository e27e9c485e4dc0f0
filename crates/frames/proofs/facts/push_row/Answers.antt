use Rattle.std.proofs.Common.{◌∙◌, ◌++◌, ◌∷◌, ℕ, List, None, ◌+◌, get_or, drop, ap, sym, arith, append_assoc}
use Rattle.std.proofs.lemmas.List.{drop_more}
use Rattle.frame_known.specs.Rows.{Row}
use Rattle.frames.specs.Walk.{fact_in, facts_of}
use Rattle.frames.proofs.Low.{below_at}
use Rattle.frames.proofs.facts.push_row.Goals as goal

pub push_fact-requires-clause-below : goal.push_fact-requires-clause-below
push_fact-requires-clause-below c =
    below_at c.args.slots.now.offsets c.args.row.now c.loop-slot.slot c.requires.row.below
    (omega (arith, c.requires.row.long))

pub loop-slot-preserved : goal.loop-slot-preserved
loop-slot-preserved c =
    let l = c.args.listing.now in
    let s = c.args.slots.now in
    let ks = s.keys.items in
    let row = c.args.row.now in
    let n = c.loop-slot.slot in
    let p = c.args.place in
    let here = fact_in l p s.width (get_or ks n 0) (get_or row n None) in
    let rest = facts_of l p s.width (drop (n + 1) ks) (drop (n + 1) row) in
    let in_ks = drop_more ks n 0 (omega arith) in
    let in_row = drop_more row n None (omega (arith, c.requires.row.long)) in
    let F : List ℕ → Row → List _ = λ xs r. c.loop-slot.facts.items ++ facts_of l p s.width xs r in
    ap (λ xs. xs ++ rest) (c.in_ok-push_fact.ensures {u = tt})
    ∙ append_assoc c.loop-slot.facts.items here rest
    ∙ sym (ap (λ xs. F xs (drop n row)) in_ks ∙ ap (F (get_or ks n 0 ∷ drop (n + 1) ks)) in_row)
    ∙ c.loop-slot.invariant
