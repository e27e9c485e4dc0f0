use Rattle.std.proofs.Common.{◌∙◌, ◌+◌, List, ap, drop, sym}
use Rattle.std.proofs.lemmas.List.{drop_more}
use Rattle.run_world.specs.declared.entry.Byte.{Byte}
use Rattle.run_world.specs.Maps.{at_offset}
use Rattle.run_world.specs.Meaning.{with_offsets}
use Rattle.run_world.proofs.offset_map.OffsetMap.of_bytes.Goals as goal

pub loop-b-init : goal.loop-b-init
loop-b-init c = ap (with_offsets c.args.bytes.now) c.new-map.ensures

pub loop-b-preserved : goal.loop-b-preserved
loop-b-preserved c =
    ap (with_offsets (drop (c.loop-b.b-index + 1) c.args.bytes.now)) c.in_ok-put.ensures
    ∙ sym (ap (λ (xs : List Byte). with_offsets xs (at_offset c.loop-b.map))
    (drop_more c.args.bytes.now c.loop-b.b-index (record { space = 0; offset = 0; value = 0 }) c.loop-b-test.true))
    ∙ c.loop-b.invariant
