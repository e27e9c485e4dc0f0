use Rattle.std.proofs.Common.{◌≡◌, ◌<◌, ◌-◌, Option, ap, ◌∙◌, subst, arith}
use Rattle.node_lists.specs.ListArena.{Ends}
use Rattle.node_lists.specs.Nodes.{number, of_slot, prev_of, next_of, key_of, ends_of}
use Rattle.node_lists.specs.Edits.{links}
use Rattle.node_lists.specs.declared.node.Head.{Head}
use Rattle.node_lists.proofs.Steps.{ends_two, ends_made, detached_steps}
use Rattle.node_lists.proofs.list_arena.ListArena.detach.Goals as goal

pub overflow_sub-head : goal.overflow_sub-head
overflow_sub-head g c =
    let node = c.node-node.result.now in let k = number node.list in
    let ek = ap (of_slot key_of) c.node-node.ensures in
    let same = ends_two c.args.self.now c.set_next.new.self c.set_prev.new.self c.set_prev.new.self c.args.at.number (number node.prev) (number node.next) k (ends_of c.head-head.result) c.set_next.ensures c.set_prev.ensures in
    let len : c.head-head.result.len ≡ ((links c.args.self.now).ends k).len = ap (λ (h : Ends). h.len) c.head-head.ensures.ends ∙ ap (λ (f : Option Rattle.std.proofs.Common.ℕ → Ends). (f k).len) same in
    let some : 0 < ((links c.args.self.now).ends k).len = subst (λ j. 0 < ((links c.args.self.now).ends j).len) ek c.requires.some in
    omega arith

pub returns : goal.returns
returns g c =
    let node = c.node-node.result.now in
    let k = number node.list in let t0 = c.args.self.now in let x = c.args.at.number in
    let same = ends_two t0 c.set_next.new.self c.set_prev.new.self c.set_prev.new.self x (number node.prev) (number node.next) k (ends_of c.head-head.result) c.set_next.ensures c.set_prev.ensures in
    let old : ends_of c.head-head.result ≡ (links t0).ends k = c.head-head.ensures.ends ∙ ap (λ (f : Option Rattle.std.proofs.Common.ℕ → Ends). f k) same in
    let head : Head = record { first = c.pick.result; last = c.pick-2.result; len = c.head-head.result.len - 1 } in
    let made = ends_made (number node.prev) (number node.next) ((links t0).ends k) c.head-head.result head c.pick.result c.pick-2.result (c.head-head.result.len - 1) (number node.next) (number node.prev)
    Rattle.std.proofs.Common.refl old c.pick.ensures.number c.pick-2.ensures.number in
    let len = ap (λ (h : Ends). h.len - 1) old in
    detached_steps t0 c.set_next.new.self c.set_prev.new.self c.set_head.new.self x (number node.prev)
    (number node.next) k (ends_of head) c.set_next.ensures c.set_prev.ensures c.set_head.ensures
    (ap (of_slot prev_of) c.node-node.ensures) (ap (of_slot next_of) c.node-node.ensures)
    (ap (of_slot key_of) c.node-node.ensures)
    (made
    ∙ (λ i.
    record {
      first =
          Rattle.node_lists.specs.ListArena.if_none (number node.prev) (number node.next)
          ((links t0).ends k).first;
      last =
          Rattle.node_lists.specs.ListArena.if_none (number node.next) (number node.prev)
          ((links t0).ends k).last;
      len = len i;
    }))
