-- One step of both runs: the states stay equal but for their memories, or the first run ends Outside.
use Rattle.std.proofs.Common.{◌≡◌, ℕ, ◌<◌, Bool, true, false, List, [], ◌∷◌, Option, Some, None, refl, sym, ap, subst, ◌⊎◌, inl, inr}
use Rattle.std.specs.Prelude.{Result, Ok, Err}
use Rattle.machine.specs.Trace.{Event, End, Outside, NoReturn, BadTarget, NoAnswer, Call, Other}
use Rattle.machine.specs.TwoWay.{IsPrefix}
use Rattle.machine.specs.Agree.{IsOut}
use Rattle.bits_core.specs.Bytes.{word_of}
use Rattle.pcode_model.specs.declared.listing.SpaceKind.{SpaceKind}
use Rattle.pcode_model.specs.declared.listing.SpaceKind.TheVariants.{Constant, Ram, Register, Unique}
use Rattle.pcode_model.specs.declared.listing.Varnode.{Varnode}
use Rattle.pcode_model.specs.declared.listing.Instruction.{Instruction}
use Rattle.pcode_model.specs.declared.listing.Place.{Place}
use Rattle.pcode_model.specs.declared.listing.Proto.{Proto}
use Rattle.pcode_model.specs.declared.listing.Op.{Op}
use Rattle.pcode_model.specs.declared.listing.Listing.{Listing}
use Rattle.pcode_model.specs.Spaces.{kind_of, first_ram, is_big}
use Rattle.pcode_model.specs.Places.{Standing, Nothing, Passes, Does, next_place}
use Rattle.pcode_model.specs.Memory.{Layout, Whole, Apart, whole, apart}
use Rattle.pcode_model.specs.World.{Answer, World, ended, recorded, with_memory, stored_as, took, take_from, write_all, hide_all, shown, unless_over}
use Rattle.pcode_model.specs.Step.{State, Effect, Ends, Goes, Writes, Fetches, Puts, Calls, Asks, Operand, Reads, ReadsStack, moved, in_world, write_varnode, write_out, fetched, put_at, read_at, as_word, read_varnode, read_operand, with_first, read_all, effect_of, effect_at, answered, called, output, asked, gone, apply, operands, step_at, stack_address, bytes_in, size_out}
use Rattle.pcode_laws.specs.AsBytes.{seen_over}
use Rattle.pcode_laws.proofs.Grows.{adds_store, adds_fetched, adds_took, adds_answered, adds_asked, adds_effect}
use Rattle.frame_law.specs.Aligned.{ram_size, Aligned, AlignedOperand, AllAligned, AlignedEffect, IsAligned}
use Rattle.frame_law.proofs.Memories.{Same, Agrees, Equal, read_agrees, write_agrees, write_own_same, answer_agrees, hide_same}

-- the world and the state with another memory
abbrev pub over_world : World Whole → Apart → World Apart
over_world w v = seen_over (λ m. v) w

abbrev pub over_memory : State Whole → Apart → State Apart
over_memory s v = record { at = s.at; local = s.local; world = over_world s.world v }

-- the states are equal but for their memories, and these go together
pub record Alike (y : Layout) (s : State Whole) (t : State Apart) : Type 0 where
  pub world : Apart
  pub is : t ≡ over_memory s world
  pub same : Same y s.world.memory world

abbrev pub Went : Layout → State Whole → State Apart → Type 0
Went y s t = Alike y s t ⊎ IsOut (shown s.world) (shown t.world)

module _ (y : Layout) where
  pub alike : (s : State Whole) (v : Apart) → Same y s.world.memory v → Went y s (over_memory s v)
  alike s v same = inl (record { world = v; is = refl; same = same })

  out : (e : End) (w : World Whole) (s : State Whole) (t : State Apart)
      → e ≡ Outside
      → IsPrefix w.events t.world.events
      → Went y (in_world (ended e w) s) t
  out e w s t p q = inr (record { over = ap (λ x. Some x) p; events = q })

  both_end : (e f : End) (w : World Whole) (s : State Whole) (v : Apart)
      → f ≡ e
      → Same y w.memory v
      → Went y (in_world (ended e w) s) (in_world (ended f (over_world w v)) (over_memory s v))
  both_end e f w s v p same =
      let P : End → Type 0 =
      λ x. Went y (in_world (ended e w) s) (in_world (ended x (over_world w v)) (over_memory s v)) in
      subst P (sym p) (alike (in_world (ended e w) s) v same)

-- ---- writes and reads

module _ (y : Layout) where
  stored_goes : (x : Event) (r : Result Whole End) (q : Result Apart End) (s : State Whole) (v : Apart)
      → Same y s.world.memory v
      → Agrees (Same y) r q
      → Went y (in_world (stored_as x r s.world) s)
      (in_world (stored_as x q (over_world s.world v)) (over_memory s v))
  stored_goes x (Ok m) (Ok n) s v same h = alike y (in_world (recorded x (with_memory m s.world)) s) n h
  stored_goes x (Ok m) (Err f) s v same h = absurd h
  stored_goes x (Err e) q s v same (inl h) = out y e s.world s _ h (adds_store x q (over_world s.world v))
  stored_goes x (Err e) (Ok n) s v same (inr h) = absurd h
  stored_goes x (Err e) (Err f) s v same (inr h) = both_end y e f s.world s v h same

  varnode_goes : (k : SpaceKind) (z : Varnode) (n : ℕ) (s : State Whole) (v : Apart)
      → Same y s.world.memory v
      → Went y (write_varnode (whole y) y.listing k z n s)
      (write_varnode (apart y.listing) y.listing k z n (over_memory s v))
  varnode_goes Constant z n s v same = alike y s v same
  varnode_goes Ram z n s v same =
      let bs = bytes_in y.listing z.space z.size n in
      stored_goes _ ((whole y).write z.space z.offset bs s.world.memory)
      ((apart y.listing).write z.space z.offset bs v) s v same
      (write_agrees y z.space z.offset bs s.world.memory v same)
  varnode_goes Register z n s v same = alike y (write_varnode (whole y) y.listing Register z n s) v same
  varnode_goes Unique z n s v same = alike y (write_varnode (whole y) y.listing Unique z n s) v same

  out_goes : (o : Option Varnode) (n : ℕ) (s : State Whole) (v : Apart)
      → Same y s.world.memory v
      → Went y (write_out (whole y) y.listing o n s) (write_out (apart y.listing) y.listing o n (over_memory s v))
  out_goes None n s v same = alike y s v same
  out_goes (Some z) n s v same = varnode_goes (kind_of y.listing z.space) z n s v same

  fetched_goes : (o : Option Varnode) (r q : Result ℕ End) (s : State Whole) (v : Apart)
      → Same y s.world.memory v
      → Agrees Equal r q
      → Went y (fetched (whole y) y.listing o r s) (fetched (apart y.listing) y.listing o q (over_memory s v))
  fetched_goes o (Ok m) (Ok n) s v same h =
      let P : ℕ → Type 0 = λ k. Went y (write_out (whole y) y.listing o m s)
      (write_out (apart y.listing) y.listing o k (over_memory s v)) in
      subst P h (out_goes o m s v same)
  fetched_goes o (Ok m) (Err f) s v same h = absurd h
  fetched_goes o (Err e) q s v same (inl h) =
      out y e s.world s _ h (adds_fetched (apart y.listing) y.listing o q (over_memory s v))
  fetched_goes o (Err e) (Ok n) s v same (inr h) = absurd h
  fetched_goes o (Err e) (Err f) s v same (inr h) = both_end y e f s.world s v h same

module _ (y : Layout) (low : y.stack0 < ram_size y) where
  put_goes : (own : Option ℕ) (space a k : ℕ) (bs : List ℕ) (s : State Whole) (v : Apart)
      → Aligned y own space a k
      → Same y s.world.memory v
      → Went y (in_world (put_at (whole y) own space a bs s.world) s)
      (in_world (put_at (apart y.listing) own space a bs (over_world s.world v)) (over_memory s v))
  put_goes None space a k bs s v al same =
      stored_goes y _ ((whole y).write space a bs s.world.memory) ((apart y.listing).write space a bs v) s v same
      (write_agrees y space a bs s.world.memory v same)
  put_goes (Some c) space a k bs s v al same =
      alike y (in_world (put_at (whole y) (Some c) space a bs s.world) s) ((apart y.listing).write_own a c bs v)
      (write_own_same y low a c bs s.world.memory v al.inside al.offset same)

-- ---- answers

module _ (y : Layout) where
  answered_goes : (p : Proto) (a : Answer) (rest : List Answer) (r : Result Whole End) (q : Result Apart End)
      (w : World Whole) (s : State Whole) (v : Apart)
      → Same y w.memory v
      → Agrees (Same y) r q
      → Went y (answered y.listing p (took (whole y) a rest r w) s)
      (answered y.listing p (took (apart y.listing) a rest q (over_world w v)) (over_memory s v))
  answered_goes p a rest (Ok m) (Ok n) w s v same h =
      alike y (answered y.listing p (took (whole y) a rest (Ok m) w) s) (hide_all (apart y.listing) a.hidden n)
      (hide_same y a.hidden m n h)
  answered_goes p a rest (Ok m) (Err f) w s v same h = absurd h
  answered_goes p a rest (Err e) q w s v same (inl h) =
      out y e w s _ h (adds_answered y.listing p (took (apart y.listing) a rest q (over_world w v)) (over_memory s v)
      (over_world w v) (adds_took (apart y.listing) a rest q (over_world w v)))
  answered_goes p a rest (Err e) (Ok n) w s v same (inr h) = absurd h
  answered_goes p a rest (Err e) (Err f) w s v same (inr h) = both_end y e f w s v h same

  answers_go : (p : Proto) (answers : List Answer) (w : World Whole) (s : State Whole) (v : Apart)
      → Same y w.memory v
      → Went y (answered y.listing p (take_from (whole y) answers w) s)
      (answered y.listing p (take_from (apart y.listing) answers (over_world w v)) (over_memory s v))
  answers_go p [] w s v same = alike y (in_world (ended NoAnswer w) s) v same
  answers_go p (a ∷ rest) w s v same =
      answered_goes p a rest (write_all (whole y) a.memory w.memory) (write_all (apart y.listing) a.memory v) w s v
      same (answer_agrees y a.memory w.memory v same)

  asked_goes : (o : Option Varnode) (a : Answer) (rest : List Answer) (r : Result Whole End) (q : Result Apart End)
      (w : World Whole) (s : State Whole) (v : Apart)
      → Same y w.memory v
      → Agrees (Same y) r q
      → Went y (asked (whole y) y.listing o (took (whole y) a rest r w) s)
      (asked (apart y.listing) y.listing o (took (apart y.listing) a rest q (over_world w v)) (over_memory s v))
  asked_goes o a rest (Ok m) (Ok n) w s v same h =
      let after : World Whole = record {
        memory = hide_all (whole y) a.hidden m;
        answers = rest;
        events = w.events;
        over = w.over;
      } in
      out_goes y o (output o a.word) (in_world after s) (hide_all (apart y.listing) a.hidden n)
      (hide_same y a.hidden m n h)
  asked_goes o a rest (Ok m) (Err f) w s v same h = absurd h
  asked_goes o a rest (Err e) q w s v same (inl h) =
      out y e w s _ h (adds_asked (apart y.listing) y.listing o (took (apart y.listing) a rest q (over_world w v))
      (over_memory s v) (over_world w v) (adds_took (apart y.listing) a rest q (over_world w v)))
  asked_goes o a rest (Err e) (Ok n) w s v same (inr h) = absurd h
  asked_goes o a rest (Err e) (Err f) w s v same (inr h) = both_end y e f w s v h same

  asks_go : (o : Option Varnode) (answers : List Answer) (w : World Whole) (s : State Whole) (v : Apart)
      → Same y w.memory v
      → Went y (asked (whole y) y.listing o (take_from (whole y) answers w) s)
      (asked (apart y.listing) y.listing o (take_from (apart y.listing) answers (over_world w v)) (over_memory s v))
  asks_go o [] w s v same = alike y (in_world (ended NoAnswer w) s) v same
  asks_go o (a ∷ rest) w s v same =
      asked_goes o a rest (write_all (whole y) a.memory w.memory) (write_all (apart y.listing) a.memory v) w s v same
      (answer_agrees y a.memory w.memory v same)

  called_goes : (p : Proto) (returns : Bool) (s : State Whole) (v : Apart)
      → Same y s.world.memory v
      → Went y (called (whole y) y.listing p returns s) (called (apart y.listing) y.listing p returns (over_memory s v))
  called_goes p true s v same = answers_go p s.world.answers s.world s v same
  called_goes p false s v same = alike y (in_world (ended NoReturn s.world) s) v same

-- ---- operands

word_agrees : (l : Listing) (space : ℕ) (r q : Result (List ℕ) End)
    → Agrees Equal r q
    → Agrees Equal (as_word l space r) (as_word l space q)
word_agrees l space (Ok b) (Ok c) h = ap (word_of (is_big l space)) h
word_agrees l space (Ok b) (Err f) h = absurd h
word_agrees l space (Err e) q (inl h) = inl h
word_agrees l space (Err e) (Ok c) (inr h) = absurd h
word_agrees l space (Err e) (Err f) (inr h) = inr h

first_agrees : (r q : Result ℕ End) (rs qs : Result (List ℕ) End)
    → Agrees Equal r q
    → Agrees Equal rs qs
    → Agrees Equal (with_first r rs) (with_first q qs)
first_agrees (Ok m) (Ok n) (Ok ms) (Ok ns) h g = cc
first_agrees (Ok m) (Ok n) (Ok ms) (Err f) h g = absurd g
first_agrees (Ok m) (Ok n) (Err e) qs h (inl g) = inl g
first_agrees (Ok m) (Ok n) (Err e) (Ok ns) h (inr g) = absurd g
first_agrees (Ok m) (Ok n) (Err e) (Err f) h (inr g) = inr g
first_agrees (Ok m) (Err f) rs qs h g = absurd h
first_agrees (Err e) q rs qs (inl h) g = inl h
first_agrees (Err e) (Ok n) rs qs (inr h) g = absurd h
first_agrees (Err e) (Err f) rs qs (inr h) g = inr h

module _ (y : Layout) (low : y.stack0 < ram_size y) where
  varnode_agrees : (k : SpaceKind) (z : Varnode) (s : State Whole) (v : Apart)
      → Same y s.world.memory v
      → Agrees Equal (read_varnode (whole y) y.listing k z s)
      (read_varnode (apart y.listing) y.listing k z (over_memory s v))
  varnode_agrees Constant z s v same = refl
  varnode_agrees Ram z s v same =
      word_agrees y.listing z.space (read_at (whole y) None z.space z.offset z.size s.world.memory)
      (read_at (apart y.listing) None z.space z.offset z.size v)
      (read_agrees y low None z.space z.offset z.size s.world.memory v tt same)
  varnode_agrees Register z s v same = refl
  varnode_agrees Unique z s v same = refl

  operand_agrees : (x : Operand) (s : State Whole) (v : Apart)
      → AlignedOperand y s.at s.local x
      → Same y s.world.memory v
      → Agrees Equal (read_operand (whole y) y.listing y.frame s x)
      (read_operand (apart y.listing) y.listing y.frame (over_memory s v) x)
  operand_agrees (Reads z) s v al same = varnode_agrees (kind_of y.listing z.space) z s v same
  operand_agrees (ReadsStack n offset size) s v al same =
      let own = y.frame.own s.at n in
      let ram = first_ram y.listing in
      let a = stack_address y.listing offset y.listing.stack s.local in
      word_agrees y.listing ram (read_at (whole y) own ram a size s.world.memory)
      (read_at (apart y.listing) own ram a size v) (read_agrees y low own ram a size s.world.memory v al same)

  all_agree : (xs : List Operand) (s : State Whole) (v : Apart)
      → AllAligned y s.at s.local xs
      → Same y s.world.memory v
      → Agrees Equal (read_all (whole y) y.listing y.frame s xs)
      (read_all (apart y.listing) y.listing y.frame (over_memory s v) xs)
  all_agree [] s v al same = refl
  all_agree (x ∷ xs) s v al same =
      first_agrees (read_operand (whole y) y.listing y.frame s x)
      (read_operand (apart y.listing) y.listing y.frame (over_memory s v) x)
      (read_all (whole y) y.listing y.frame s xs)
      (read_all (apart y.listing) y.listing y.frame (over_memory s v) xs)
      (operand_agrees x s v al.0 same) (all_agree xs s v al.1 same)

-- ---- effects

gone_goes : (y : Layout) (to : Option Place) (s : State Whole) (v : Apart)
    → Same y s.world.memory v
    → Went y (gone to s) (gone to (over_memory s v))
gone_goes y None s v same = alike y (in_world (ended BadTarget s.world) s) v same
gone_goes y (Some p) s v same = alike y (moved p s) v same

module _ (y : Layout) (low : y.stack0 < ram_size y) (next : Place) where
  effect_goes : (e : Effect) (s : State Whole) (v : Apart)
      → AlignedEffect y e
      → Same y s.world.memory v
      → Went y (apply (whole y) y.listing next e s) (apply (apart y.listing) y.listing next e (over_memory s v))
  effect_goes (Ends e) s v al same = alike y (in_world (ended e s.world) s) v same
  effect_goes (Goes to) s v al same = gone_goes y to s v same
  effect_goes (Writes o n) s v al same = out_goes y o n (moved next s) v same
  effect_goes (Fetches o own space a) s v al same =
      let r = read_at (whole y) own space a (size_out o) s.world.memory in
      let q = read_at (apart y.listing) own space a (size_out o) v in
      fetched_goes y o (as_word y.listing space r) (as_word y.listing space q) (moved next s) v same
      (word_agrees y.listing space r q (read_agrees y low own space a (size_out o) s.world.memory v al same))
  effect_goes (Puts own space a k n) s v al same =
      put_goes y low own space a k (bytes_in y.listing space k n) (moved next s) v al same
  effect_goes (Calls to args p r) s v al same =
      called_goes y p r (in_world (recorded (Call to args) s.world) (moved next s)) v same
  effect_goes (Asks index args o) s v al same =
      asks_go y o s.world.answers (recorded (Other index args) s.world) (moved next s) v same

-- ---- steps

module _ (y : Layout) (low : y.stack0 < ram_size y) where
  op_goes : (i : Instruction) (op : Op) (r q : Result (List ℕ) End) (s : State Whole) (v : Apart)
      → ((ws : List ℕ) → r ≡ Ok ws → AlignedEffect y
      (effect_of y.listing (y.frame.own s.at 0) i s.at.index s.local op.code op.out op.inputs ws))
      → Same y s.world.memory v
      → Agrees Equal r q
      → (let next = next_place i s.at.index in
      Went y (apply (whole y) y.listing next (effect_at y.listing y.frame i op r s) s)
      (apply (apart y.listing) y.listing next (effect_at y.listing y.frame i op q (over_memory s v)) (over_memory s v)))
  op_goes i op (Ok ms) (Ok ns) s v al same h =
      let next = next_place i s.at.index in
      let e = effect_at y.listing y.frame i op (Ok ms) s in
      let P : List ℕ → Type 0 = λ ws. Went y (apply (whole y) y.listing next e s)
      (apply (apart y.listing) y.listing next (effect_at y.listing y.frame i op (Ok ws) (over_memory s v))
      (over_memory s v)) in
      subst P h (effect_goes y low next e s v (al ms refl) same)
  op_goes i op (Ok ms) (Err f) s v al same h = absurd h
  op_goes i op (Err e) q s v al same (inl h) =
      out y e s.world s _ h (adds_effect (apart y.listing) y.listing (next_place i s.at.index)
      (effect_at y.listing y.frame i op q (over_memory s v)) (over_memory s v))
  op_goes i op (Err e) (Ok ns) s v al same (inr h) = absurd h
  op_goes i op (Err e) (Err f) s v al same (inr h) = both_end y e f s.world s v h same

  -- where the accesses at a place lie where the frame says
  pub at_goes : (here : Standing) (s : State Whole) (v : Apart)
      → ((i : Instruction) (op : Op) → here ≡ Does i op → IsAligned y s i op)
      → Same y s.world.memory v
      → Went y (step_at (whole y) y.listing y.frame here s)
      (step_at (apart y.listing) y.listing y.frame here (over_memory s v))
  at_goes Nothing s v al same = alike y (in_world (ended BadTarget s.world) s) v same
  at_goes (Passes i) s v al same = alike y (step_at (whole y) y.listing y.frame (Passes i) s) v same
  at_goes (Does i op) s v al same =
      let here = al i op refl in
      let xs = operands y.listing op.code op.inputs in
      op_goes i op (read_all (whole y) y.listing y.frame s xs)
      (read_all (apart y.listing) y.listing y.frame (over_memory s v) xs) s v here.effect same
      (all_agree y low xs s v here.reads same)

pub over_goes : (y : Layout) (o : Option End) (s u : State Whole) (t v : State Apart)
    → Went y s t
    → Went y u v
    → Went y (unless_over o s u) (unless_over o t v)
over_goes y None s u t v g h = h
over_goes y (Some e) s u t v g h = g
