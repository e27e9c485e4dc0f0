use Rattle.std.proofs.Common.{◌≡◌, Bool, not, ◌+◌, get_or}
use Rattle.std.specs.List.Sorted.{IsNonDecreasing}
use Rattle.word_sets.specs.Turns.{joined, noted, IsNext}
use Rattle.word_sets.proofs.Joining.{joining_step, swapped}
use Rattle.word_sets.proofs.set.WordSet.join.Goals as goal
use Rattle.word_sets.proofs.set.WordSet.join.Goals.{then-is_left_next, else-is_left_next}

pub points-preserved : goal.points-preserved
points-preserved c =
    let F = λ (x y : Bool). joined c.args.how x y in
    let f = c.args.self.now.first in
    let g = c.args.other.now.first in
    let a = c.deref-left.result.now in
    let b = c.deref-right.result.now in
    let up : IsNonDecreasing a = rw c.deref-left.ensures.value c.args.self.now.rising in
    let vp : IsNonDecreasing b = rw c.deref-right.ensures.value c.args.other.now.rising in
    let s = c.points.invariant in
    let out = c.in_ok-note.ensures {u = tt} in
    elim c.if-is_left_next.branch [
      | then-is_left_next w ↦
          let n : IsNext a c.points.i b c.points.j = rw w.if-is_left_next.true at c.is_left_next.ensures in
          let after : c.of-after.result ≡ F (not c.points.p) c.points.q = rw (← w.p-is, ← w.q-is) c.of-after.ensures in
          rw (out, w.i-is, w.j-is, w.p-is, w.q-is, w.mark-is)
          (joining_step F f g a b c.points.i c.points.j c.points.p c.points.q c.points.mark c.points.out.items s
          c.of-before.result c.of-after.result up vp n c.of-before.ensures after)
      | else-is_left_next w ↦
          let n : IsNext b c.points.j a c.points.i = rw w.if-is_left_next.false at c.is_left_next.ensures in
          let after : c.of-after.result ≡ F c.points.p (not c.points.q) = rw (← w.p-is, ← w.q-is) c.of-after.ensures in
          let G = λ (x y : Bool). F y x in
          let t = swapped F f g a b c.points.i c.points.j c.points.p c.points.q c.points.mark c.points.out.items s in
          let r = joining_step G g f b a c.points.j c.points.i c.points.q c.points.p c.points.mark c.points.out.items t
          c.of-before.result c.of-after.result vp up n c.of-before.ensures after in
          rw (out, w.i-is, w.j-is, w.p-is, w.q-is, w.mark-is)
          (swapped G g f b a (c.points.j + 1) c.points.i (not c.points.q) c.points.p (get_or b c.points.j 0)
          (noted c.points.out.items c.of-before.result c.of-after.result (get_or b c.points.j 0)) r)
    ]
