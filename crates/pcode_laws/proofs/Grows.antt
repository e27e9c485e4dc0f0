-- A run of p-code only adds to what it has shown.
use Rattle.std.proofs.Common.{◌≡◌, ℕ, Bool, true, false, List, [], ◌∷◌, refl, Option, Some, None}
use Rattle.std.specs.Prelude.{Result, Ok, Err}
use Rattle.machine.specs.Trace.{Event, End, Call, Other}
use Rattle.machine.specs.TwoWay.{IsPrefix, IsFront}
use Rattle.machine.specs.Machine.{IsMonotone}
use Rattle.machine.proofs.TwoWay.{prefix_refl, prefix_trans, front_of_going, front_refl}
use Rattle.pcode_model.specs.declared.listing.SpaceKind.{SpaceKind}
use Rattle.pcode_model.specs.declared.listing.SpaceKind.TheVariants.{Constant, Ram, Register, Unique}
use Rattle.pcode_model.specs.declared.listing.Varnode.{Varnode}
use Rattle.pcode_model.specs.declared.listing.Place.{Place}
use Rattle.pcode_model.specs.declared.listing.Proto.{Proto}
use Rattle.pcode_model.specs.declared.listing.Listing.{Listing}
use Rattle.pcode_model.specs.Spaces.{kind_of}
use Rattle.pcode_model.specs.Places.{Standing, Nothing, Passes, Does, standing}
use Rattle.pcode_model.specs.Memory.{Acts, Frame}
use Rattle.pcode_model.specs.World.{Answer, World, recorded, stored_as, Taken, Stops, Took, took, take_from, take_answer, write_all, shown, unless_over}
use Rattle.pcode_model.specs.Step.{State, Effect, Ends, Goes, Writes, Fetches, Puts, Calls, Asks, moved, in_world, write_varnode, write_out, fetched, put_at, answered, called, output, asked, gone, apply, step_at, machine}

abbrev pub Adds : {M : Type 0} → World M → World M → Type 0
Adds w v = IsPrefix w.events v.events

pub adds_none : {M : Type 0} (w : World M) → Adds w w
adds_none w = prefix_refl w.events

pub adds_more : {M : Type 0} (u v w : World M) → Adds u v → Adds v w → Adds u w
adds_more u v w p q = prefix_trans u.events v.events w.events p q

pub adds_event : {M : Type 0} (x : Event) (w : World M) → Adds w (recorded x w)
adds_event x w = (x ∷ [], refl)

pub adds_store : {M : Type 0} (x : Event) (r : Result M End) (w : World M) → Adds w (stored_as x r w)
adds_store x (Err e) w = adds_none w
adds_store x (Ok m) w = (x ∷ [], refl)

adds_put : {M : Type 0} (m : Acts M) (own : Option ℕ) (s a : ℕ) (bs : List ℕ) (w : World M)
    → Adds w (put_at m own s a bs w)
adds_put m None s a bs w = adds_store _ (m.write s a bs w.memory) w
adds_put m (Some c) s a bs w = adds_none w

adds_varnode : {M : Type 0} (m : Acts M) (l : Listing) (k : SpaceKind) (v : Varnode) (n : ℕ) (s : State M)
    → Adds s.world (write_varnode m l k v n s).world
adds_varnode m l Constant v n s = adds_none s.world
adds_varnode m l Ram v n s = adds_store _ (m.write v.space v.offset _ s.world.memory) s.world
adds_varnode m l Register v n s = adds_none s.world
adds_varnode m l Unique v n s = adds_none s.world

adds_out : {M : Type 0} (m : Acts M) (l : Listing) (out : Option Varnode) (n : ℕ) (s : State M)
    → Adds s.world (write_out m l out n s).world
adds_out m l None n s = adds_none s.world
adds_out m l (Some v) n s = adds_varnode m l (kind_of l v.space) v n s

pub adds_fetched : {M : Type 0} (m : Acts M) (l : Listing) (out : Option Varnode) (r : Result ℕ End) (s : State M)
    → Adds s.world (fetched m l out r s).world
adds_fetched m l out (Err e) s = adds_none s.world
adds_fetched m l out (Ok n) s = adds_out m l out n s

abbrev pub world_taken : {M : Type 0} → Taken M → World M
world_taken (Stops w) = w
world_taken (Took a w) = w

pub adds_took : {M : Type 0} (m : Acts M) (a : Answer) (rest : List Answer) (r : Result M End) (w : World M)
    → Adds w (world_taken (took m a rest r w))
adds_took m a rest (Err e) w = adds_none w
adds_took m a rest (Ok x) w = adds_none w

pub adds_from : {M : Type 0} (m : Acts M) (answers : List Answer) (w : World M)
    → Adds w (world_taken (take_from m answers w))
adds_from m [] w = adds_none w
adds_from m (a ∷ rest) w = adds_took m a rest (write_all m a.memory w.memory) w

pub adds_answered : {M : Type 0} (l : Listing) (p : Proto) (t : Taken M) (s : State M) (w : World M)
    → Adds w (world_taken t)
    → Adds w (answered l p t s).world
adds_answered l p (Stops v) s w h = h
adds_answered l p (Took a v) s w h = h

pub adds_asked : {M : Type 0} (m : Acts M) (l : Listing) (out : Option Varnode) (t : Taken M) (s : State M)
    (w : World M)
    → Adds w (world_taken t)
    → Adds w (asked m l out t s).world
adds_asked m l out (Stops v) s w h = h
adds_asked m l out (Took a v) s w h =
    adds_more w v (write_out m l out (output out a.word) (in_world v s)).world h
    (adds_out m l out (output out a.word) (in_world v s))

adds_called : {M : Type 0} (m : Acts M) (l : Listing) (p : Proto) (returns : Bool) (s : State M)
    → Adds s.world (called m l p returns s).world
adds_called m l p true s = adds_answered l p (take_answer m s.world) s s.world (adds_from m s.world.answers s.world)
adds_called m l p false s = adds_none s.world

adds_gone : {M : Type 0} (to : Option Place) (s : State M) → Adds s.world (gone to s).world
adds_gone None s = adds_none s.world
adds_gone (Some p) s = adds_none s.world

pub adds_effect : {M : Type 0} (m : Acts M) (l : Listing) (next : Place) (e : Effect) (s : State M)
    → Adds s.world (apply m l next e s).world
adds_effect m l next (Ends e) s = adds_none s.world
adds_effect m l next (Goes to) s = adds_gone to s
adds_effect m l next (Writes out n) s = adds_out m l out n (moved next s)
adds_effect m l next (Fetches out own space a) s = adds_fetched m l out _ (moved next s)
adds_effect m l next (Puts own space a k n) s = adds_put m own space a _ s.world
adds_effect m l next (Calls to args p r) s =
    let w = recorded (Call to args) s.world in
    adds_more s.world w (called m l p r (in_world w (moved next s))).world (adds_event (Call to args) s.world)
    (adds_called m l p r (in_world w (moved next s)))
adds_effect m l next (Asks index args out) s =
    let w = recorded (Other index args) s.world in
    adds_asked m l out (take_answer m w) (moved next s) s.world
    (adds_more s.world w (world_taken (take_answer m w)) (adds_event (Other index args) s.world)
    (adds_from m w.answers w))

adds_step : {M : Type 0} (m : Acts M) (l : Listing) (f : Frame) (at : Standing) (s : State M)
    → Adds s.world (step_at m l f at s).world
adds_step m l f Nothing s = adds_none s.world
adds_step m l f (Passes i) s = adds_none s.world
adds_step m l f (Does i op) s = adds_effect m l _ _ s

pub grows_at : {M : Type 0} (over : Option End) (s t : State M)
    → s.world.over ≡ over
    → Adds s.world t.world
    → IsFront (shown s.world) (shown (unless_over over s t).world)
grows_at None s t e h = front_of_going (shown s.world) (shown t.world) e h
grows_at (Some x) s t e h = front_refl (shown s.world)

pub pcode_grows : {M : Type 0} (m : Acts M) (l : Listing) (f : Frame) → IsMonotone (machine m l f)
pcode_grows m l f s =
    grows_at s.world.over s (step_at m l f (standing l s.at) s) refl (adds_step m l f (standing l s.at) s)
