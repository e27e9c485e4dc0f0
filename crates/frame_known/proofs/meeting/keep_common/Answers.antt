use Rattle.std.proofs.Common.{◌≡◌, ◌∙◌, ◌+◌, ◌<◌, Bool, true, false, length, set, subst, sym, ap, None, arith}
use Rattle.frame_known.specs.Rows.{Row}
use Rattle.frame_known.specs.Steps.{entry}
use Rattle.frame_known.specs.Meeting.{is_lost}
use Rattle.frame_known.proofs.Joined.{Joining, joining_all, joining_first, joining_kept, joining_lost}
use Rattle.frame_known.proofs.meeting.keep_common.Goals as goal
use Rattle.frame_known.proofs.meeting.keep_common.Goals.{then-is_lost, else-is_lost}

pub loop-slot-init : goal.loop-slot-init
loop-slot-init c = joining_first c.args.row.now c.args.other.now

pub bounds-as_slice-slot : goal.bounds-as_slice-slot
bounds-as_slice-slot c =
    let e : length c.as_slice.result.now ≡ length c.loop-slot.row = ap length c.as_slice.ensures in
    omega (arith, e, c.loop-slot.invariant.long)

pub loop-slot-preserved : goal.loop-slot-preserved
loop-slot-preserved c =
    let n = c.loop-slot.slot in
    let row = c.args.row.now in
    let other = c.args.other.now in
    let lt : n < length row = omega arith in
    let P : Bool → Row → Type 0 = λ b r. Joining row other (n + 1) b r in
    elim c.if-is_lost.branch [
      | then-is_lost w ↦
          let h : is_lost (entry c.loop-slot.row n) (entry other n) ≡ true = cc in
          let e : c.if-is_lost.row ≡ set c.loop-slot.row n None = w.row-is ∙ w.set.ensures in
          subst (λ b. P b c.if-is_lost.row) (sym w.less-is)
          (subst (λ r. P true r) (sym e) (joining_lost row other n c.loop-slot.less c.loop-slot.row c.loop-slot.invariant lt h))
      | else-is_lost w ↦
          let h : is_lost (entry c.loop-slot.row n) (entry other n) ≡ false = cc in
          subst (λ b. P b c.if-is_lost.row) (sym w.less-is)
          (subst (λ r. P c.loop-slot.less r) (sym w.row-is)
          (joining_kept row other n c.loop-slot.less c.loop-slot.row c.loop-slot.invariant h))
    ]

pub returns : goal.returns
returns c =
    let end : c.loop-slot.slot ≡ length c.args.other.now = omega arith in
    joining_all c.args.row.now c.args.other.now c.loop-slot.less c.loop-slot.row c.requires
    (subst (λ n. Joining c.args.row.now c.args.other.now n c.loop-slot.less c.loop-slot.row) end c.loop-slot.invariant)
