use Rattle.std.proofs.Common.{◌*◌, ◌%◌, ◌∙◌, ap}
use Rattle.run_world.specs.Setting.{size}
use Rattle.pcode_run.proofs.Accessing.{address_is}
use Rattle.pcode_run.proofs.accesses.byte_address.Goals as goal

pub returns-clause-value : goal.returns-clause-value
returns-clause-value c =
    let q = c.args in
    let n = size c.new-shape.result in
    let product =
    c.reduce.ensures.value
    ∙ ap (λ x. (x * c.from-2.result) % n) c.from.ensures
    ∙ ap (λ x. (c.reduce-words.result * x) % n) c.from-2.ensures in
    address_is q.listing.now q.space q.offset n c.word_size.result c.reduce-words.result c.reduce.result
    c.new-shape.ensures.size c.word_size.ensures c.reduce-words.ensures.value product
