use Rattle.layout.proofs.Collected.{pushed}
use Rattle.layout.proofs.branches.add_value.Goals as goal

pub returns : goal.returns
returns c = pushed c.args.listed.now.items c.args.place c.args.value c.index_mut.result.now c.push.new.self c.requires
    c.index_mut.ensures.value c.in_ok-push.ensures.ok
