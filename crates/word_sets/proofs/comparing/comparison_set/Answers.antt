use Rattle.std.proofs.Common.{not, ap, ◌∙◌}
use Rattle.std.proofs.lemmas.Result.{IfOk-weaker}
use Rattle.bits_core.specs.Value.{flag}
use Rattle.word_sets.proofs.Orders.{moved_by, equal_value, not_equal_value, less_value, less_equal_value, signed_less_value, signed_less_equal_value}
use Rattle.word_sets.proofs.comparing.comparison_set.Goals as goal

pub returns-in-Equal : goal.returns-in-Equal
returns-in-Equal c =
    let h = moved_by c.args.t _ _ _ _ _ _ c.least.ensures.value c.least.ensures.width c.back-start.ensures.value
    c.back-at.ensures.value c.back-at.ensures.width c.next-after.ensures.value in
    IfOk-weaker c.arc.result _ _ (λ s e v lt. ap flag (e v) ∙ equal_value c.args.t v lt _ _ _ h c.in-Equal.is)
    c.arc.ensures

pub returns-in_ok-arc-in-NotEqual : goal.returns-in_ok-arc-in-NotEqual
returns-in_ok-arc-in-NotEqual c =
    let h = moved_by c.args.t _ _ _ _ _ _ c.least.ensures.value c.least.ensures.width c.back-start.ensures.value
    c.back-at.ensures.value c.back-at.ensures.width c.next-after.ensures.value in
    λ v lt.
    ap flag (c.complement.ensures v ∙ ap not ((c.in_ok-arc-in-NotEqual.ensures {u = tt}) v))
    ∙ not_equal_value c.args.t v lt _ _ _ h c.in-NotEqual.is

pub returns-in-Less : goal.returns-in-Less
returns-in-Less c =
    let h = moved_by c.args.t _ _ _ _ _ _ c.least.ensures.value c.least.ensures.width c.back-start.ensures.value
    c.back-at.ensures.value c.back-at.ensures.width c.next-after.ensures.value in
    IfOk-weaker c.strict.result _ _ (λ s e v lt. ap flag (e v) ∙ less_value c.args.t v lt _ _ _ h c.in-Less.is)
    c.strict.ensures

pub returns-in_ok-strict-in-LessEqual : goal.returns-in_ok-strict-in-LessEqual
returns-in_ok-strict-in-LessEqual c =
    let h = moved_by c.args.t _ _ _ _ _ _ c.least.ensures.value c.least.ensures.width c.back-start.ensures.value
    c.back-at.ensures.value c.back-at.ensures.width c.next-after.ensures.value in
    λ v lt.
    ap flag (c.complement-in-LessEqual.ensures v ∙ ap not ((c.in_ok-strict-in-LessEqual.ensures {u = tt}) v))
    ∙ less_equal_value c.args.t v lt _ _ _ h c.in-LessEqual.is

pub returns-in-SignedLess : goal.returns-in-SignedLess
returns-in-SignedLess c =
    let h = moved_by c.args.t _ _ _ _ _ _ c.least.ensures.value c.least.ensures.width c.back-start.ensures.value
    c.back-at.ensures.value c.back-at.ensures.width c.next-after.ensures.value in
    IfOk-weaker c.strict-in-SignedLess.result _ _
    (λ s e v lt. ap flag (e v) ∙ signed_less_value c.args.t v lt _ _ _ h c.in-SignedLess.is)
    c.strict-in-SignedLess.ensures

pub returns-in_ok-strict-in-SignedLessEqual : goal.returns-in_ok-strict-in-SignedLessEqual
returns-in_ok-strict-in-SignedLessEqual c =
    let h = moved_by c.args.t _ _ _ _ _ _ c.least.ensures.value c.least.ensures.width c.back-start.ensures.value
    c.back-at.ensures.value c.back-at.ensures.width c.next-after.ensures.value in
    λ v lt.
    ap flag (c.complement-in-SignedLessEqual.ensures v
    ∙ ap not ((c.in_ok-strict-in-SignedLessEqual.ensures {u = tt}) v))
    ∙ signed_less_equal_value c.args.t v lt _ _ _ h c.in-SignedLessEqual.is
