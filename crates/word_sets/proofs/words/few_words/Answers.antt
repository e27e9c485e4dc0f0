use Rattle.std.proofs.Common.{◌<◌, ◌≤◌, length, subst, ◌∙◌, arith, inl, inr, ⊎_elim}
use Rattle.std.proofs.lemmas.Bool.{cases_lt}
use Rattle.std.proofs.lemmas.List.{length_push}
use Rattle.std.specs.List.Sorted.{IsNonDecreasing}
use Rattle.word_sets.proofs.Scanning.{scanning_first, scanning_turn, scanning_take, scanned_many, scanned_last, scanned_all, all_words, found_all}
use Rattle.word_sets.proofs.words.few_words.Goals as goal

pub words-init : goal.words-init
words-init c =
    rw c.new-out.ensures.items
    (scanning_first c.args.set.now.first c.deref-turns.result.now c.new-top.result.value c.args.most)

pub returns-in-Stop : goal.returns-in-Stop
returns-in-Stop c =
    let up : IsNonDecreasing c.deref-turns.result.now = rw c.deref-turns.ensures.value c.args.set.now.rising in
    let whole = all_words c.args.set.now c.args.width.bytes c.new-top.result.value c.deref-turns.result.now
    c.args.width.to c.deref-turns.ensures.value c.new-top.ensures.value in
    let all = scanned_all c.args.set.now.first c.deref-turns.result.now c.new-top.result.value c.args.most c.words.i
    c.words.is_in
    c.words.word c.words.out.items up c.words.invariant c.in-Stop.ensures in
    found_all _ c.args.most _ _ c.found.result (all ∙ whole) c.words.invariant.few c.found.ensures

pub words-preserved-in-Turn : goal.words-preserved-in-Turn
words-preserved-in-Turn c =
    let up : IsNonDecreasing c.deref-turns.result.now = rw c.deref-turns.ensures.value c.args.set.now.rising in
    scanning_turn c.args.set.now.first c.deref-turns.result.now c.new-top.result.value c.args.most c.words.i
    c.words.is_in
    c.words.word c.words.out.items up c.words.invariant
    c.in-Turn.turn c.max-word.result c.in-Turn.ensures
    (omega (arith, c.max-word.ensures)) (omega (arith, c.max-word.ensures))
    (⊎_elim (λ lt. inr (omega (arith, c.max-word.ensures))) (λ ge. inl (omega (arith, c.max-word.ensures)))
    (cases_lt c.words.word c.in-Turn.turn))

pub returns-then-len-most : goal.returns-then-len-most
returns-then-len-most c =
    let up : IsNonDecreasing c.deref-turns.result.now = rw c.deref-turns.ensures.value c.args.set.now.rising in
    let whole = all_words c.args.set.now c.args.width.bytes c.new-top.result.value c.deref-turns.result.now
    c.args.width.to c.deref-turns.ensures.value c.new-top.ensures.value in
    let full : c.args.most ≤ length c.words.out.items =
    omega (arith, c.len.ensures, c.words.out.ok.0, c.if-len-most.true) in
    let many = scanned_many c.args.set.now.first c.deref-turns.result.now c.new-top.result.value c.args.most c.words.i
    c.words.is_in
    c.words.word c.words.out.items up c.words.invariant c.in-Take.ensures full in
    inr (subst (λ xs. c.args.most < length xs) whole many)

pub returns-then-word-top : goal.returns-then-word-top
returns-then-word-top c =
    let up : IsNonDecreasing c.deref-turns.result.now = rw c.deref-turns.ensures.value c.args.set.now.rising in
    let whole = all_words c.args.set.now c.args.width.bytes c.new-top.result.value c.deref-turns.result.now
    c.args.width.to c.deref-turns.ensures.value c.new-top.ensures.value in
    let few : length c.words.out.items < c.args.most =
    omega (arith, c.len.ensures, c.words.out.ok.0, c.words.invariant.few, c.if-len-most.false) in
    let last = scanned_last c.args.set.now.first c.deref-turns.result.now c.new-top.result.value c.args.most c.words.i
    c.words.is_in
    c.words.word c.words.out.items up c.words.invariant
    c.in-Take.ensures c.if-word-top.true in
    found_all _ c.args.most _ _ c.found-then-word-top.result (c.in_ok-push-in-Take.ensures.items ∙ (last ∙ whole))
    (rw c.in_ok-push-in-Take.ensures.items (omega (arith, few, length_push c.words.out.items c.words.word)))
    c.found-then-word-top.ensures

pub words-preserved : goal.words-preserved
words-preserved c =
    let up : IsNonDecreasing c.deref-turns.result.now = rw c.deref-turns.ensures.value c.args.set.now.rising in
    let few : length c.words.out.items < c.args.most =
    omega (arith, c.len.ensures, c.words.out.ok.0, c.words.invariant.few, c.if-len-most.false) in
    rw c.in_ok-push-in-Take.ensures.items
    (scanning_take c.args.set.now.first c.deref-turns.result.now c.new-top.result.value c.args.most c.words.i
    c.words.is_in
    c.words.word c.words.out.items up c.words.invariant c.in-Take.ensures few)
