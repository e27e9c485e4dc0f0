use Rattle.std.proofs.Common.{arith}
use Rattle.entrytext.proofs.Formed.{by_form}
use Rattle.entrytext.proofs.Good.{hidden_wide, part_wide, state_some, state_wide}
use Rattle.entrytext.proofs.partial_entry.PartialEntry.step.Goals as goal

pub form-requires-clause-few : goal.form-requires-clause-few
form-requires-clause-few c = omega (arith, c.requires.formed.limited.spaces)

pub state-requires-clause-space : goal.state-requires-clause-space
state-requires-clause-space c =
    state_wide c.args.listing.now c.requires.formed c.args.line.now _ (c.in_ok-form.ensures {u = tt}) _ c.in-State.is

pub state-requires-clause-some : goal.state-requires-clause-some
state-requires-clause-some c =
    state_some c.args.listing.now c.requires.formed c.args.line.now _ (c.in_ok-form.ensures {u = tt}) _ c.in-State.is

pub hidden-requires : goal.hidden-requires
hidden-requires c =
    hidden_wide c.args.listing.now c.requires.formed c.args.line.now _ (c.in_ok-form.ensures {u = tt}) _ c.in-Hidden.is

pub answered-requires : goal.answered-requires
answered-requires c =
    part_wide c.args.listing.now c.requires.formed c.args.line.now _ (c.in_ok-form.ensures {u = tt}) _ _
    c.in-Answered.is

pub returns-in-State : goal.returns-in-State
returns-in-State c =
    by_form c.args.listing.now c.args.self.now c.state.new.self c.args.line.now _ _ c.state.result
    (c.in_ok-form.ensures {u = tt}) c.in-State.is c.state.ensures

pub returns-in-Hidden : goal.returns-in-Hidden
returns-in-Hidden c =
    by_form c.args.listing.now c.args.self.now c.hidden.new.self c.args.line.now _ _ c.hidden.result
    (c.in_ok-form.ensures {u = tt}) c.in-Hidden.is c.hidden.ensures

pub returns-in-Answer : goal.returns-in-Answer
returns-in-Answer c =
    by_form c.args.listing.now c.args.self.now c.answer.new.self c.args.line.now _ _ c.answer.result
    (c.in_ok-form.ensures {u = tt}) c.in-Answer.is c.answer.ensures

pub returns-in-Answered : goal.returns-in-Answered
returns-in-Answered c =
    by_form c.args.listing.now c.args.self.now c.answered.new.self c.args.line.now _ _ c.answered.result
    (c.in_ok-form.ensures {u = tt}) c.in-Answered.is c.answered.ensures
