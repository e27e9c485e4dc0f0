use Rattle.std.proofs.Common.{sym, ap, ℕ}
use Rattle.cmeaning.specs.Do.{accessed, assigned, loaded, widths_in}
use Rattle.cmeaning.specs.Flat.{returns_by}
use Rattle.cmeaning.specs.Value.{value_of}
use Rattle.cmeaning.proofs.Do as done
use Rattle.cvalue.specs.Held.{env_of}
use Rattle.run_world.specs.Maps.{bytes_of}
use Rattle.c_run.specs.States.{local_of}
use Rattle.c_run.proofs.Accesses as access
use Rattle.c_run.proofs.Effects.{becomes_as, word_lacks, word_has}
use Rattle.c_run.proofs.simple.load.Goals as goal

pub returns-in_default : goal.returns-in_default
returns-in_default c =
    becomes_as c.args.context.now.answers.now c.args.local.now c.finish.new.self _ _
    (word_lacks c.args.context.now.answers.now c.args.local.now c.finish.new.self c.value.result
    (value_of (widths_in c.args.local.now.variables.f.now) (env_of c.args.local.now.variables.words.items)
    c.args.address.now)
    (λ (a : ℕ). assigned c.args.target
    (loaded c.args.context.now.listing.now (accessed c.args.context.now.listing.now c.args.space.now)
    ((widths_in c.args.local.now.variables.f.now) c.args.target) a (bytes_of c.args.local.now.memory))
    (local_of c.args.context.now.answers.now c.args.local.now))
    c.in_default.is c.value.ensures.value (c.finish.ensures c.args.context.now.answers.now))
    (sym (done.do_load c.args.context.now.listing.now (widths_in c.args.local.now.variables.f.now)
    (returns_by c.args.local.now.variables.f.now.callees) c.args.target c.args.space.now c.args.address.now
    (local_of c.args.context.now.answers.now c.args.local.now)))

pub returns : goal.returns
returns c =
    becomes_as c.args.context.now.answers.now c.args.local.now
    (record {
      variables = c.assign.new.self;
      left = c.args.local.now.left;
      memory = c.args.local.now.memory;
      log = c.args.local.now.log;
    })
    _ _ (word_has c.args.context.now.answers.now c.args.local.now
    (record {
      variables = c.assign.new.self;
      left = c.args.local.now.left;
      memory = c.args.local.now.memory;
      log = c.args.local.now.log;
    })
    c.value.result c.in-Some.address
    (value_of (widths_in c.args.local.now.variables.f.now) (env_of c.args.local.now.variables.words.items)
    c.args.address.now)
    (λ (a : ℕ). assigned c.args.target
    (loaded c.args.context.now.listing.now (accessed c.args.context.now.listing.now c.args.space.now)
    ((widths_in c.args.local.now.variables.f.now) c.args.target) a (bytes_of c.args.local.now.memory))
    (local_of c.args.context.now.answers.now c.args.local.now))
    c.in-Some.is c.value.ensures.value
    (becomes_as c.args.context.now.answers.now c.args.local.now
    (record {
      variables = c.assign.new.self;
      left = c.args.local.now.left;
      memory = c.args.local.now.memory;
      log = c.args.local.now.log;
    })
    _ _
    (access.assigned_becomes c.args.context.now.answers.now c.args.local.now c.assign.new.self c.args.target
    c.in_ok-word.word.value c.assign.ensures.value c.assign.ensures.function)
    (ap (λ (n : ℕ). assigned c.args.target n (local_of c.args.context.now.answers.now c.args.local.now))
    (access.loaded_is c.args.context.now.listing.now
    (accessed c.args.context.now.listing.now c.args.space.now) c.accessed-space.result c.reduce.result
    c.in-Some.address.value ((widths_in c.args.local.now.variables.f.now) c.args.target)
    c.width-width.result.bytes _ (bytes_of c.args.local.now.memory) c.in_ok-word.word.value
    c.accessed-space.ensures c.reduce.ensures.value c.ram_shape-shape.ensures.size c.width-width.ensures
    c.in_ok-word.ensures.value))))
    (sym (done.do_load c.args.context.now.listing.now (widths_in c.args.local.now.variables.f.now)
    (returns_by c.args.local.now.variables.f.now.callees) c.args.target c.args.space.now c.args.address.now
    (local_of c.args.context.now.answers.now c.args.local.now)))
