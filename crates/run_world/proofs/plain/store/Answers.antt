use Rattle.std.proofs.Common.{◌≡◌, ◌∙◌, ℕ, List, length, sym, ap}
use Rattle.pcode_model.specs.Memory.{poke}
use Rattle.pcode_model.specs.Spaces.{any_at, each_at, is_some, size_of}
use Rattle.run_world.specs.declared.trace.Event.TheVariants as event
use Rattle.run_world.specs.Log.{world_of}
use Rattle.run_world.specs.Maps.{at, bytes_of}
use Rattle.run_world.specs.Setting.{size}
use Rattle.run_world.proofs.Effects.{store_refused, store_made, meets_is, recorded_is}
use Rattle.run_world.proofs.plain.store.Goals as goal

pub returns-then-meets : goal.returns-then-meets
returns-then-meets c =
    let q = c.args in
    let met =
    sym (meets_is q.listing.now q.setting.now q.shape q.space q.address (length q.bytes) c.requires.setting
    c.requires.shape)
    ∙ ap (any_at (size q.shape) (λ o. is_some (at q.setting.now.fixed q.space o)) q.address) (sym c.len.ensures)
    ∙ sym c.meets.ensures
    ∙ c.if-meets.true in
    λ answers. sym (store_refused q.listing.now q.space q.address q.bytes
    (world_of (bytes_of q.memory.now) answers q.log.now) met)

pub returns : goal.returns
returns c =
    let q = c.args in
    let met =
    sym (meets_is q.listing.now q.setting.now q.shape q.space q.address (length q.bytes) c.requires.setting
    c.requires.shape)
    ∙ ap (any_at (size q.shape) (λ o. is_some (at q.setting.now.fixed q.space o)) q.address) (sym c.len.ensures)
    ∙ sym c.meets.ensures
    ∙ c.if-meets.false in
    let memory : bytes_of c.write.new.self
    ≡ each_at (size_of q.listing.now q.space) (poke q.space) q.address q.bytes (bytes_of q.memory.now) =
    c.in_ok-write.ensures
    ∙ ap (λ (bs : List ℕ). each_at (size q.shape) (poke q.space) q.address bs (bytes_of q.memory.now))
    c.as_slice.ensures
    ∙ ap (λ (z : ℕ). each_at z (poke q.space) q.address q.bytes (bytes_of q.memory.now)) c.requires.shape.size in
    λ answers.
    recorded_is (each_at (size_of q.listing.now q.space) (poke q.space) q.address q.bytes (bytes_of q.memory.now))
    (bytes_of c.write.new.self) answers q.log.now (event.Store q.space q.address q.bytes) c.push.new.self memory
    c.in_ok-push.ensures.ok
    ∙ sym
    (store_made q.listing.now q.space q.address q.bytes (world_of (bytes_of q.memory.now) answers q.log.now) met)
