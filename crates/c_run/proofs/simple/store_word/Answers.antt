use Rattle.std.proofs.Common.{sym, ◌∙◌, ℕ}
use Rattle.std.proofs.lemmas.Result.{on_ok_weaker}
use Rattle.cmeaning.specs.Do.{accessed, stored, widths_in, with_word}
use Rattle.cmeaning.specs.Flat.{returns_by}
use Rattle.cmeaning.specs.Value.{value_of, width_of}
use Rattle.cmeaning.proofs.Do as done
use Rattle.cvalue.specs.Held.{env_of}
use Rattle.c_run.specs.States.{local_of}
use Rattle.c_run.proofs.Accesses as access
use Rattle.c_run.proofs.Effects.{becomes_as, word_lacks, word_has}
use Rattle.c_run.proofs.simple.store_word.Goals as goal

pub returns-in_default : goal.returns-in_default
returns-in_default c =
    becomes_as c.args.context.now.answers.now c.args.local.now c.finish.new.self _ _
    (word_lacks c.args.context.now.answers.now c.args.local.now c.finish.new.self c.value.result
    (value_of (widths_in c.args.local.now.variables.f.now) (env_of c.args.local.now.variables.words.items)
    c.args.address.now)
    (λ (a : ℕ).
    with_word
    (value_of (widths_in c.args.local.now.variables.f.now) (env_of c.args.local.now.variables.words.items)
    c.args.value.now)
    (local_of c.args.context.now.answers.now c.args.local.now)
    (λ n. stored c.args.context.now.listing.now (accessed c.args.context.now.listing.now c.args.space.now)
    (width_of (widths_in c.args.local.now.variables.f.now) c.args.value.now) a n
    (local_of c.args.context.now.answers.now c.args.local.now)))
    c.in_default.is c.value.ensures.value (c.finish.ensures c.args.context.now.answers.now))
    (sym (done.do_store c.args.context.now.listing.now (widths_in c.args.local.now.variables.f.now)
    (returns_by c.args.local.now.variables.f.now.callees) c.args.space.now c.args.address.now c.args.value.now
    (local_of c.args.context.now.answers.now c.args.local.now)))

pub returns-in_default-value : goal.returns-in_default-value
returns-in_default-value c =
    becomes_as c.args.context.now.answers.now c.args.local.now c.finish-in_default-value.new.self _ _
    (word_has c.args.context.now.answers.now c.args.local.now c.finish-in_default-value.new.self c.value.result
    c.in-Some.address
    (value_of (widths_in c.args.local.now.variables.f.now) (env_of c.args.local.now.variables.words.items)
    c.args.address.now)
    (λ (a : ℕ).
    with_word
    (value_of (widths_in c.args.local.now.variables.f.now) (env_of c.args.local.now.variables.words.items)
    c.args.value.now)
    (local_of c.args.context.now.answers.now c.args.local.now)
    (λ n. stored c.args.context.now.listing.now (accessed c.args.context.now.listing.now c.args.space.now)
    (width_of (widths_in c.args.local.now.variables.f.now) c.args.value.now) a n
    (local_of c.args.context.now.answers.now c.args.local.now)))
    c.in-Some.is c.value.ensures.value
    (word_lacks c.args.context.now.answers.now c.args.local.now c.finish-in_default-value.new.self
    c.value-2.result
    (value_of (widths_in c.args.local.now.variables.f.now) (env_of c.args.local.now.variables.words.items)
    c.args.value.now)
    (λ (n : ℕ).
    stored c.args.context.now.listing.now (accessed c.args.context.now.listing.now c.args.space.now)
    (width_of (widths_in c.args.local.now.variables.f.now) c.args.value.now) c.in-Some.address.value n
    (local_of c.args.context.now.answers.now c.args.local.now))
    c.in_default-value.is c.value-2.ensures.value
    (c.finish-in_default-value.ensures c.args.context.now.answers.now)))
    (sym (done.do_store c.args.context.now.listing.now (widths_in c.args.local.now.variables.f.now)
    (returns_by c.args.local.now.variables.f.now.callees) c.args.space.now c.args.address.now c.args.value.now
    (local_of c.args.context.now.answers.now c.args.local.now)))

pub returns : goal.returns
returns c =
    on_ok_weaker c.store.result (λ b. becomes_as c.args.context.now.answers.now c.args.local.now
    (record {
      variables = c.args.local.now.variables;
      left = c.args.local.now.left;
      memory = c.store.new.memory;
      log = c.store.new.log;
    })
    _ _ (word_has c.args.context.now.answers.now c.args.local.now
    (record {
      variables = c.args.local.now.variables;
      left = c.args.local.now.left;
      memory = c.store.new.memory;
      log = c.store.new.log;
    })
    c.value.result c.in-Some.address
    (value_of (widths_in c.args.local.now.variables.f.now) (env_of c.args.local.now.variables.words.items)
    c.args.address.now)
    (λ (a : ℕ).
    with_word
    (value_of (widths_in c.args.local.now.variables.f.now) (env_of c.args.local.now.variables.words.items)
    c.args.value.now)
    (local_of c.args.context.now.answers.now c.args.local.now)
    (λ n. stored c.args.context.now.listing.now (accessed c.args.context.now.listing.now c.args.space.now)
    (width_of (widths_in c.args.local.now.variables.f.now) c.args.value.now) a n
    (local_of c.args.context.now.answers.now c.args.local.now)))
    c.in-Some.is c.value.ensures.value
    (word_has c.args.context.now.answers.now c.args.local.now
    (record {
      variables = c.args.local.now.variables;
      left = c.args.local.now.left;
      memory = c.store.new.memory;
      log = c.store.new.log;
    })
    c.value-2.result c.in-Some-value.word
    (value_of (widths_in c.args.local.now.variables.f.now) (env_of c.args.local.now.variables.words.items)
    c.args.value.now)
    (λ (n : ℕ). stored c.args.context.now.listing.now (accessed c.args.context.now.listing.now c.args.space.now)
    (width_of (widths_in c.args.local.now.variables.f.now) c.args.value.now) c.in-Some.address.value n
    (local_of c.args.context.now.answers.now c.args.local.now))
    c.in-Some-value.is c.value-2.ensures.value
    (access.stored_becomes c.args.context.now.answers.now c.args.local.now c.store.new.memory c.store.new.log
    _ (b c.args.context.now.answers.now
    ∙ (access.stored_is c.args.context.now.listing.now
    (accessed c.args.context.now.listing.now c.args.space.now) c.accessed-space.result c.reduce.result
    c.in-Some.address.value (width_of (widths_in c.args.local.now.variables.f.now) c.args.value.now)
    c.from.result _ c.in-Some-value.word.value c.ram_shape-shape.result.big c.in_ok-bytes.bytes
    (local_of c.args.context.now.answers.now c.args.local.now).world c.accessed-space.ensures
    c.reduce.ensures.value c.ram_shape-shape.ensures.size
    (c.from.ensures ∙ c.in-Some-value.ensures.width) c.ram_shape-shape.ensures.big
    c.in_ok-bytes.ensures)))))
    (sym (done.do_store c.args.context.now.listing.now (widths_in c.args.local.now.variables.f.now)
    (returns_by c.args.local.now.variables.f.now.callees) c.args.space.now c.args.address.now c.args.value.now
    (local_of c.args.context.now.answers.now c.args.local.now))))
    c.store.ensures
