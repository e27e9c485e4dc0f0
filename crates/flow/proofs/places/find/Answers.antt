use Rattle.std.proofs.Common.{arith, ap, ◌∙◌, refl}
use Rattle.std.specs.Prelude.{Some}
use Rattle.std.proofs.lemmas.Bool.{false≢true}
use Rattle.std.proofs.lemmas.Option.{slice_get_within, get_or_from_slice_get}
use Rattle.pcode_model.specs.Places.{place}
use Rattle.flow.proofs.Order.{bound_of_none, slice_at}
use Rattle.flow.proofs.places.find.Goals as goal
use Rattle.flow.proofs.places.find.Goals.{else-slot-places-via-then-slot-places+else-is_at, else-slot-places-via-else-slot-places}

pub returns-then-is_at : goal.returns-then-is_at
returns-then-is_at c =
    slice_at c.args.places.now c.lower_bound-slot.result c.if-slot-places.true
    ∙ ap Some ((c.if-is_at.ensures {u = tt}).0 refl)

pub returns-else-slot-places : goal.returns-else-slot-places
returns-else-slot-places c =
    bound_of_none c.args.places.now (place c.args.address c.args.index) c.lower_bound-slot.result c.requires
    c.lower_bound-slot.ensures
    (elim c.else-slot-places.branch [
      | else-slot-places-via-then-slot-places+else-is_at w ↦
          λ e. false≢true ((w.if-is_at.ensures {u = tt}).1
          (get_or_from_slice_get c.args.places.now c.lower_bound-slot.result
          (place c.args.address c.args.index) (place 0 0) e))
      | else-slot-places-via-else-slot-places w ↦
          λ e.
          let lt =
          slice_get_within c.args.places.now c.lower_bound-slot.result (place c.args.address c.args.index) e in
          omega arith
    ])
