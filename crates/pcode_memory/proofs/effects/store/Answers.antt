use Rattle.std.proofs.Common.{◌≡◌, ◌∙◌, ℕ, List, length, sym, ap}
use Rattle.pcode_model.specs.Memory.{is_framed, poke_whole}
use Rattle.pcode_model.specs.Spaces.{any_at, each_at, is_some, size_of}
use Rattle.run_world.specs.declared.trace.Event.TheVariants as event
use Rattle.run_world.specs.Log.{world_of}
use Rattle.run_world.specs.Maps.{at}
use Rattle.run_world.specs.Setting.{size}
use Rattle.run_world.proofs.Effects.{meets_is, recorded_is}
use Rattle.pcode_memory.specs.Context.{layout_of, whole_of}
use Rattle.pcode_memory.proofs.Acting.{store_outside, store_refused, store_made}
use Rattle.pcode_memory.proofs.effects.store.Goals as goal

pub returns-then-any_framed : goal.returns-then-any_framed
returns-then-any_framed c =
    let q = c.args in
    let y = layout_of q.context.now in
    let framed =
    ap (λ (z : ℕ). any_at z (is_framed y q.space) q.address (length q.bytes)) (sym c.requires.shape.size)
    ∙ ap (any_at (size q.shape) (is_framed y q.space) q.address) (sym c.len.ensures)
    ∙ sym c.any_framed.ensures
    ∙ c.if-any_framed.true in
    sym (store_outside y q.space q.address q.bytes
    (world_of (whole_of q.memory.now) q.context.now.answers.now q.log.now) framed)

pub returns-then-meets : goal.returns-then-meets
returns-then-meets c =
    let q = c.args in
    let y = layout_of q.context.now in
    let l = q.context.now.listing.now in
    let framed =
    ap (λ (z : ℕ). any_at z (is_framed y q.space) q.address (length q.bytes)) (sym c.requires.shape.size)
    ∙ ap (any_at (size q.shape) (is_framed y q.space) q.address) (sym c.len.ensures)
    ∙ sym c.any_framed.ensures
    ∙ c.if-any_framed.false in
    let fixed =
    sym (meets_is l q.context.now.setting q.shape q.space q.address (length q.bytes) c.requires.context.setting
    c.requires.shape)
    ∙ ap (any_at (size q.shape) (λ o. is_some (at q.context.now.setting.fixed q.space o)) q.address)
    (sym c.len-2.ensures)
    ∙ sym c.meets.ensures
    ∙ c.if-meets.true in
    sym (store_refused y q.space q.address q.bytes
    (world_of (whole_of q.memory.now) q.context.now.answers.now q.log.now) framed fixed)

pub returns : goal.returns
returns c =
    let q = c.args in
    let y = layout_of q.context.now in
    let l = q.context.now.listing.now in
    let framed =
    ap (λ (z : ℕ). any_at z (is_framed y q.space) q.address (length q.bytes)) (sym c.requires.shape.size)
    ∙ ap (any_at (size q.shape) (is_framed y q.space) q.address) (sym c.len.ensures)
    ∙ sym c.any_framed.ensures
    ∙ c.if-any_framed.false in
    let fixed =
    sym (meets_is l q.context.now.setting q.shape q.space q.address (length q.bytes) c.requires.context.setting
    c.requires.shape)
    ∙ ap (any_at (size q.shape) (λ o. is_some (at q.context.now.setting.fixed q.space o)) q.address)
    (sym c.len-2.ensures)
    ∙ sym c.meets.ensures
    ∙ c.if-meets.false in
    let memory : whole_of c.write.new.self
    ≡ each_at (size_of l q.space) (poke_whole l q.space) q.address q.bytes (whole_of q.memory.now) =
    c.in_ok-write.ensures
    ∙ ap (λ (bs : List ℕ). each_at (size q.shape) (poke_whole l q.space) q.address bs (whole_of q.memory.now))
    c.as_slice.ensures
    ∙ ap (λ (z : ℕ). each_at z (poke_whole l q.space) q.address q.bytes (whole_of q.memory.now))
    c.requires.shape.size in
    recorded_is (each_at (size_of l q.space) (poke_whole l q.space) q.address q.bytes (whole_of q.memory.now))
    (whole_of c.write.new.self) q.context.now.answers.now q.log.now (event.Store q.space q.address q.bytes)
    c.push.new.self memory c.in_ok-push.ensures.ok
    ∙ sym (store_made y q.space q.address q.bytes
    (world_of (whole_of q.memory.now) q.context.now.answers.now q.log.now) framed fixed)
