use Rattle.std.proofs.Common.{sym, ap, ◌∙◌, ℕ}
use Rattle.cmeaning.specs.Do.{assigned, left_word, widths_in}
use Rattle.cmeaning.specs.Flat.{returns_by}
use Rattle.cmeaning.proofs.Do as done
use Rattle.c_run.specs.States.{left_of, local_of}
use Rattle.c_run.proofs.Accesses as access
use Rattle.c_run.proofs.Effects.{becomes_as}
use Rattle.c_run.proofs.simple.extra.Goals as goal

pub returns : goal.returns
returns c =
    becomes_as c.args.context.now.answers.now c.args.local.now
    (record {
      variables = c.assign.new.self;
      left = c.args.local.now.left;
      memory = c.args.local.now.memory;
      log = c.args.local.now.log;
    })
    _ _ (access.assigned_becomes c.args.context.now.answers.now c.args.local.now c.assign.new.self c.args.target
    c.in_ok-word.word.value c.assign.ensures.value c.assign.ensures.function)
    (ap (λ (n : ℕ). assigned c.args.target n (local_of c.args.context.now.answers.now c.args.local.now))
    (c.in_ok-word.ensures.value
    ∙ ap (λ (k : ℕ). left_word c.args.context.now.listing.now c.args.offset k (left_of c.args.local.now.left))
    c.width-width.ensures)
    ∙ (sym (done.do_extra c.args.context.now.listing.now (widths_in c.args.local.now.variables.f.now)
    (returns_by c.args.local.now.variables.f.now.callees) c.args.target c.args.offset
    (local_of c.args.context.now.answers.now c.args.local.now))))
