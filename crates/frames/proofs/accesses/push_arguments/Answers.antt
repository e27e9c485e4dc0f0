use Rattle.std.proofs.Common.{◌∙◌, ◌+◌, ◌++◌, ◌∷◌, [], Some, get_or, drop, ap, sym, append_assoc}
use Rattle.pcode_model.specs.declared.listing.Storage.{Storage}
use Rattle.pcode_model.specs.declared.listing.Storage.TheVariants.{At}
use Rattle.std.proofs.lemmas.List.{drop_more}
use Rattle.pcode_model.specs.Step.{argument, arguments}
use Rattle.frame_facts.specs.Accesses.{stack_reaches}
use Rattle.frames.specs.Walk.{accesses_of}
use Rattle.frames.proofs.Reached.{one_argument}
use Rattle.frames.proofs.accesses.push_arguments.Goals as goal

pub loop-number-preserved : goal.loop-number-preserved
loop-number-preserved c =
    let l = c.args.listing.now in
    let s = c.args.slots.now in
    let row = c.args.row.now in
    let p = c.args.place in
    let sp = c.args.stack in
    let n = c.loop-number.number in
    let xs = c.args.arguments.now in
    let nothing : Storage = At (record { space = 0; offset = 0; size = 0 }) in
    let a = get_or xs n nothing in
    let here = accesses_of l s row p (stack_reaches (Some sp) (argument n a ∷ [])) in
    let rest = accesses_of l s row p (stack_reaches (Some sp) (arguments (n + 1) (drop (n + 1) xs))) in
    let split = drop_more xs n nothing c.loop-number-test.true in
    ap (λ ys. ys ++ rest) (c.in_ok-push_argument.ensures {u = tt})
    ∙ append_assoc c.loop-number.accesses.items here rest
    ∙ ap (λ ys. c.loop-number.accesses.items ++ ys)
    (sym (ap (λ ys. accesses_of l s row p (stack_reaches (Some sp) (arguments n ys))) split
    ∙ one_argument l s row p sp n a (drop (n + 1) xs)))
    ∙ c.loop-number.invariant
