use Rattle.std.proofs.Common.{sym, ap, ◌∙◌, ℕ, refl}
use Rattle.bits_core.specs.declared.ops.Divide.{Divide}
use Rattle.bits_core.specs.Value.{divide_value}
use Rattle.cmeaning.specs.Do.{divided, divide_of, widths_in, with_word}
use Rattle.cmeaning.specs.Flat.{returns_by}
use Rattle.cmeaning.specs.Value.{value_of, width_of}
use Rattle.cmeaning.proofs.Do as done
use Rattle.cvalue.specs.Held.{env_of}
use Rattle.c_run.specs.States.{local_of}
use Rattle.c_run.proofs.Accesses as access
use Rattle.c_run.proofs.Effects.{becomes_as, word_lacks, word_has}
use Rattle.c_run.proofs.simple.divide_words.Goals as goal

pub returns-in_default : goal.returns-in_default
returns-in_default c =
    becomes_as c.args.context.now.answers.now c.args.local.now c.finish.new.self _ _
    (word_lacks c.args.context.now.answers.now c.args.local.now c.finish.new.self c.value.result
    (value_of (widths_in c.args.local.now.variables.f.now) (env_of c.args.local.now.variables.words.items)
    c.args.left.now)
    (λ (m : ℕ). with_word
    (value_of (widths_in c.args.local.now.variables.f.now)
    (env_of c.args.local.now.variables.words.items) c.args.right.now)
    (local_of c.args.context.now.answers.now c.args.local.now)
    (λ n. divided c.args.target
    (divide_value (divide_of c.args.op)
    (width_of (widths_in c.args.local.now.variables.f.now) c.args.left.now) m n)
    (local_of c.args.context.now.answers.now c.args.local.now)))
    c.in_default.is c.value.ensures.value (c.finish.ensures c.args.context.now.answers.now))
    (sym (done.do_divide c.args.context.now.listing.now (widths_in c.args.local.now.variables.f.now)
    (returns_by c.args.local.now.variables.f.now.callees) c.args.target c.args.op c.args.left.now c.args.right.now
    (local_of c.args.context.now.answers.now c.args.local.now)))

pub returns-in_default-value : goal.returns-in_default-value
returns-in_default-value c =
    becomes_as c.args.context.now.answers.now c.args.local.now c.finish-in_default-value.new.self _ _
    (word_has c.args.context.now.answers.now c.args.local.now c.finish-in_default-value.new.self c.value.result
    c.in-Some.a
    (value_of (widths_in c.args.local.now.variables.f.now) (env_of c.args.local.now.variables.words.items)
    c.args.left.now)
    (λ (m : ℕ). with_word
    (value_of (widths_in c.args.local.now.variables.f.now)
    (env_of c.args.local.now.variables.words.items) c.args.right.now)
    (local_of c.args.context.now.answers.now c.args.local.now)
    (λ n. divided c.args.target
    (divide_value (divide_of c.args.op)
    (width_of (widths_in c.args.local.now.variables.f.now) c.args.left.now) m n)
    (local_of c.args.context.now.answers.now c.args.local.now)))
    c.in-Some.is c.value.ensures.value
    (word_lacks c.args.context.now.answers.now c.args.local.now c.finish-in_default-value.new.self
    c.value-2.result
    (value_of (widths_in c.args.local.now.variables.f.now) (env_of c.args.local.now.variables.words.items)
    c.args.right.now)
    (λ (n : ℕ). divided c.args.target
    (divide_value (divide_of c.args.op)
    (width_of (widths_in c.args.local.now.variables.f.now) c.args.left.now) c.in-Some.a.value n)
    (local_of c.args.context.now.answers.now c.args.local.now))
    c.in_default-value.is c.value-2.ensures.value
    (c.finish-in_default-value.ensures c.args.context.now.answers.now)))
    (sym (done.do_divide c.args.context.now.listing.now (widths_in c.args.local.now.variables.f.now)
    (returns_by c.args.local.now.variables.f.now.callees) c.args.target c.args.op c.args.left.now
    c.args.right.now (local_of c.args.context.now.answers.now c.args.local.now)))

pub divide-requires : goal.divide-requires
divide-requires c =
    c.in-Some.ensures.width
    ∙ (access.width_for (widths_in c.args.local.now.variables.f.now) c.args.left.now
    ((widths_in c.args.local.now.variables.f.now) c.args.target) c.requires.left.1)
    ∙ sym (access.width_for (widths_in c.args.local.now.variables.f.now) c.args.right.now
    ((widths_in c.args.local.now.variables.f.now) c.args.target) c.requires.right.1)
    ∙ sym c.in-Some-value.ensures.width

pub assign-requires : goal.assign-requires
assign-requires c =
    c.in-Ok.ensures.width
    ∙ c.in-Some.ensures.width
    ∙ (access.width_for (widths_in c.args.local.now.variables.f.now) c.args.left.now
    ((widths_in c.args.local.now.variables.f.now) c.args.target) c.requires.left.1)

pub returns-in-Ok : goal.returns-in-Ok
returns-in-Ok c =
    becomes_as c.args.context.now.answers.now c.args.local.now
    (record {
      variables = c.assign.new.self;
      left = c.args.local.now.left;
      memory = c.args.local.now.memory;
      log = c.args.local.now.log;
    })
    _ _ (word_has c.args.context.now.answers.now c.args.local.now
    (record {
      variables = c.assign.new.self;
      left = c.args.local.now.left;
      memory = c.args.local.now.memory;
      log = c.args.local.now.log;
    })
    c.value.result c.in-Some.a
    (value_of (widths_in c.args.local.now.variables.f.now) (env_of c.args.local.now.variables.words.items)
    c.args.left.now)
    (λ (m : ℕ). with_word
    (value_of (widths_in c.args.local.now.variables.f.now)
    (env_of c.args.local.now.variables.words.items) c.args.right.now)
    (local_of c.args.context.now.answers.now c.args.local.now)
    (λ n. divided c.args.target
    (divide_value (divide_of c.args.op)
    (width_of (widths_in c.args.local.now.variables.f.now) c.args.left.now) m n)
    (local_of c.args.context.now.answers.now c.args.local.now)))
    c.in-Some.is c.value.ensures.value
    (word_has c.args.context.now.answers.now c.args.local.now
    (record {
      variables = c.assign.new.self;
      left = c.args.local.now.left;
      memory = c.args.local.now.memory;
      log = c.args.local.now.log;
    })
    c.value-2.result c.in-Some-value.b
    (value_of (widths_in c.args.local.now.variables.f.now) (env_of c.args.local.now.variables.words.items)
    c.args.right.now)
    (λ (n : ℕ). divided c.args.target
    (divide_value (divide_of c.args.op)
    (width_of (widths_in c.args.local.now.variables.f.now) c.args.left.now) c.in-Some.a.value n)
    (local_of c.args.context.now.answers.now c.args.local.now))
    c.in-Some-value.is c.value-2.ensures.value
    (becomes_as c.args.context.now.answers.now c.args.local.now
    (record {
      variables = c.assign.new.self;
      left = c.args.local.now.left;
      memory = c.args.local.now.memory;
      log = c.args.local.now.log;
    })
    _ _
    (access.assigned_becomes c.args.context.now.answers.now c.args.local.now c.assign.new.self c.args.target
    c.in-Ok.word.value c.assign.ensures.value c.assign.ensures.function)
    (sym (ap (λ o. divided c.args.target o (local_of c.args.context.now.answers.now c.args.local.now))
    (ap
    (λ (d : Divide).
    divide_value d (width_of (widths_in c.args.local.now.variables.f.now) c.args.left.now)
    c.in-Some.a.value c.in-Some-value.b.value)
    (sym c.divide_of.ensures)
    ∙ ap (λ (k : ℕ). divide_value c.divide_of.result k c.in-Some.a.value c.in-Some-value.b.value)
    (sym c.in-Some.ensures.width)
    ∙ c.in-Ok.ensures.value))))))
    (sym (done.do_divide c.args.context.now.listing.now (widths_in c.args.local.now.variables.f.now)
    (returns_by c.args.local.now.variables.f.now.callees) c.args.target c.args.op c.args.left.now
    c.args.right.now (local_of c.args.context.now.answers.now c.args.local.now)))

pub returns-in-Err : goal.returns-in-Err
returns-in-Err c =
    becomes_as c.args.context.now.answers.now c.args.local.now c.finish-in-Err.new.self _ _
    (word_has c.args.context.now.answers.now c.args.local.now c.finish-in-Err.new.self c.value.result c.in-Some.a
    (value_of (widths_in c.args.local.now.variables.f.now) (env_of c.args.local.now.variables.words.items)
    c.args.left.now)
    (λ (m : ℕ). with_word
    (value_of (widths_in c.args.local.now.variables.f.now)
    (env_of c.args.local.now.variables.words.items) c.args.right.now)
    (local_of c.args.context.now.answers.now c.args.local.now)
    (λ n. divided c.args.target
    (divide_value (divide_of c.args.op)
    (width_of (widths_in c.args.local.now.variables.f.now) c.args.left.now) m n)
    (local_of c.args.context.now.answers.now c.args.local.now)))
    c.in-Some.is c.value.ensures.value
    (word_has c.args.context.now.answers.now c.args.local.now c.finish-in-Err.new.self c.value-2.result
    c.in-Some-value.b
    (value_of (widths_in c.args.local.now.variables.f.now) (env_of c.args.local.now.variables.words.items)
    c.args.right.now)
    (λ (n : ℕ). divided c.args.target
    (divide_value (divide_of c.args.op)
    (width_of (widths_in c.args.local.now.variables.f.now) c.args.left.now) c.in-Some.a.value n)
    (local_of c.args.context.now.answers.now c.args.local.now))
    c.in-Some-value.is c.value-2.ensures.value
    (becomes_as c.args.context.now.answers.now c.args.local.now c.finish-in-Err.new.self _ _
    (c.finish-in-Err.ensures c.args.context.now.answers.now)
    (sym (ap (λ o. divided c.args.target o (local_of c.args.context.now.answers.now c.args.local.now))
    (access.no_quotient (divide_of c.args.op)
    (width_of (widths_in c.args.local.now.variables.f.now) c.args.left.now) c.in-Some.a.value
    c.in-Some-value.b.value (c.in-Err.ensures.zero.0 refl)))))))
    (sym (done.do_divide c.args.context.now.listing.now (widths_in c.args.local.now.variables.f.now)
    (returns_by c.args.local.now.variables.f.now.callees) c.args.target c.args.op c.args.left.now
    c.args.right.now (local_of c.args.context.now.answers.now c.args.local.now)))
