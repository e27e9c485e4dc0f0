use Rattle.std.proofs.Common.{◌≡◌, ◌<◌, ◌+◌, ℕ, Option, Some, refl, ap, ◌∙◌, arith}
use Rattle.node_lists.specs.ListArena.{Ends, State, if_none}
use Rattle.node_lists.specs.Nodes.{number, ends_of}
use Rattle.node_lists.specs.Edits.{links}
use Rattle.node_lists.specs.declared.node.Head.{Head}
use Rattle.node_lists.proofs.Steps.{ends_three, ends_made, attached_steps}
use Rattle.node_lists.proofs.list_arena.ListArena.attach.Goals as goal

pub overflow_add-head : goal.overflow_add-head
overflow_add-head g c =
    let k = number c.args.list in
    let t0 = c.args.self.now in
    let x = c.args.at.number in let b = number c.args.before in let a = number c.args.after in
    let same = ends_three t0 c.set_place.new.self c.set_next.new.self c.set_prev.new.self c.set_prev.new.self x b a k (ends_of c.head-head.result) c.set_place.ensures.edited c.set_next.ensures c.set_prev.ensures in
    let len : c.head-head.result.len ≡ ((links t0).ends k).len = ap (λ (h : Ends). h.len) c.head-head.ensures.ends ∙ ap (λ (f : Option ℕ → Ends). (f k).len) same in
    let n : (links c.set_place.new.self).n ≡ (links t0).n = ap (λ (s : State). s.n) c.set_place.ensures.edited.state in
    let room : ((links t0).ends k).len < (links t0).n = c.requires.room in
    omega (arith, c.set_place.ensures.small)

pub returns : goal.returns
returns g c =
    let k = number c.args.list in
    let t0 = c.args.self.now in
    let x = c.args.at.number in let b = number c.args.before in let a = number c.args.after in
    let same = ends_three t0 c.set_place.new.self c.set_next.new.self c.set_prev.new.self c.set_prev.new.self x b a k (ends_of c.head-head.result) c.set_place.ensures.edited c.set_next.ensures c.set_prev.ensures in
    let old : ends_of c.head-head.result ≡ (links t0).ends k = c.head-head.ensures.ends ∙ ap (λ (f : Option ℕ → Ends). f k) same in
    let head : Head = record { first = c.pick.result; last = c.pick-2.result; len = c.head-head.result.len + 1 } in
    let made = ends_made b (Some x) ((links t0).ends k) c.head-head.result head c.pick.result c.pick-2.result (c.head-head.result.len + 1) a (Some x) refl old c.pick.ensures.number c.pick-2.ensures.number in
    let len = ap (λ (h : Ends). h.len + 1) old in
    attached_steps t0 c.set_place.new.self c.set_next.new.self c.set_prev.new.self c.set_head.new.self x b a k
    (ends_of head) c.set_place.ensures.edited c.set_next.ensures c.set_prev.ensures c.set_head.ensures
    (made
    ∙ (λ i.
    record {
      first = if_none b (Some x) ((links t0).ends k).first;
      last = if_none a (Some x) ((links t0).ends k).last;
      len = len i;
    }))
