-- The run of a C function never ends Outside: its memory is bytes alone, so that no access is one of a stack variable.
use Rattle.std.proofs.Common.{◌≡◌, ℕ, zero, suc, Bool, true, false, List, [], ◌∷◌, slice_get, Option, Some, None, Result, Ok, Err, refl, sym, ◌∙◌, ap}
use Rattle.std.specs.Prelude.{◌%◌, length}
use Rattle.machine.specs.Trace.{Event, Call, Other, Store, End, Outside, Undefined, ReadOnlyWrite, NoAnswer, NoReturn, DivZero, Returned}
use Rattle.machine.specs.TwoWay.{NeverEnds}
use Rattle.machine.specs.Machine.{seen}
use Rattle.bits_core.specs.Value.{divide_value}
use Rattle.pcode_model.specs.declared.listing.Listing.{Listing}
use Rattle.pcode_model.specs.Spaces.{is_fixed, size_of}
use Rattle.pcode_model.specs.Memory.{ByteWrite, Bytes, any_fixed, plain, unless}
use Rattle.pcode_model.specs.World.{Answer, Entry, World, and_then, ended, recorded, stored_as, take_from, took, unless_over, write_all}
use Rattle.pcode_model.specs.Step.{bytes_in}
use Rattle.cmeaning.specs.declared.tree.Arm.{Arm}
use Rattle.cmeaning.specs.declared.tree.CFunction.{CFunction}
use Rattle.cmeaning.specs.declared.tree.Expr.{Expr}
use Rattle.cmeaning.specs.declared.tree.Stmt.{Stmt, out-Stmt}
use Rattle.cmeaning.specs.declared.tree.Stmt.TheOpen.{Stmt-F}
use Rattle.cmeaning.specs.Value.{width_of, value_of}
use Rattle.cmeaning.specs.Do.{Local, accessed, answered, asks, assigned, called, divide_of, divided, do_layer, in_world, loaded, stored, values_of, widths_in, with_word, with_words}
use Rattle.cmeaning.specs.Flat.{Choose, Do, Flat, Give, Jump, Test, found_in}
use Rattle.cmeaning.specs.Step.{CState, c_machine, c_step, carry_out, given, gives, goes_by, seen_c, start_c, tested}

-- the end isn't Outside
abbrev Within : Option End → Type 0
Within over = over ≡ Some Outside → ⊥

abbrev Safe : Local → Type 0
Safe x = Within x.world.over

none_within : Within None
none_within h = cc

undefined_within : Within (Some Undefined)
undefined_within h = cc

no_answer_within : Within (Some NoAnswer)
no_answer_within h = cc

no_return_within : Within (Some NoReturn)
no_return_within h = cc

div_zero_within : Within (Some DivZero)
div_zero_within h = cc

returned_within : (word : Option ℕ) → Within (Some (Returned word))
returned_within word h = cc

module _ (l : Listing) (ws : ℕ → ℕ) where
  word_safe : (a : Option ℕ) (x : Local) (next : ℕ → Local) → ((n : ℕ) → Safe (next n)) → Safe (with_word a x next)
  word_safe None x next h = undefined_within
  word_safe (Some n) x next h = h n

  words_safe : (xs : List (Option ℕ)) (x : Local) (next : List ℕ → Local)
      → ((ns : List ℕ) → Safe (next ns))
      → Safe (with_words xs x next)
  words_safe [] x next h = h []
  words_safe (a ∷ rest) x next h =
      word_safe a x (λ n. with_words rest x (λ ns. next (n ∷ ns)))
      (λ n. words_safe rest x (λ ns. next (n ∷ ns)) (λ ns. h (n ∷ ns)))

  -- ---- memory

  -- what fails fails with an end that isn't Outside
  abbrev Fails : {A : Type 0} → Result A End → Type 0
  Fails r = (e : End) → r ≡ Err e → Within (Some e)

  unless_fails : {A : Type 0} (b : Bool) (m : A) → Fails (unless b ReadOnlyWrite (Ok m))
  unless_fails true m e is out = cc
  unless_fails false m e is out = cc

  ok_fails : {A : Type 0} (m : A) → Fails (Ok m)
  ok_fails m e is out = cc

  err_fails : {A B : Type 0} (d : End) → Fails {A = A} (Err d) → Fails {A = B} (Err d)
  err_fails d h e is = h e (let s : d ≡ e = cc in ap Err s)

  then_fails : {A B : Type 0} (r : Result A End) (f : A → Result B End)
      → Fails r
      → ((a : A) → Fails (f a))
      → Fails (and_then r f)
  then_fails (Ok a) f h g = g a
  then_fails (Err d) f h g = err_fails d h

  all_fails : (xs : List ByteWrite) (m : Bytes) → Fails (write_all (plain l) xs m)
  all_fails [] m = ok_fails m
  all_fails (x ∷ xs) m = then_fails ((plain l).answer x m) (write_all (plain l) xs)
      (unless_fails (is_fixed l x.space x.offset) _) (λ n. all_fails xs n)

  store_safe : (e : Event) (r : Result Bytes End) (w : World Bytes)
      → Fails r
      → Within w.over
      → Within (stored_as e r w).over
  store_safe e (Err end) w h safe = h end refl
  store_safe e (Ok m) w h safe = safe

  -- ---- answers

  took_safe : (v : Option ℕ) (a : Answer) (rest : List Answer) (r : Result Bytes End) (x : Local)
      → Fails r
      → Safe x
      → Safe (answered ws v (took (plain l) a rest r x.world) x)
  took_safe v a rest (Err e) x h safe = h e refl
  took_safe v a rest (Ok m) x h safe = safe

  take_safe : (v : Option ℕ) (answers : List Answer) (x : Local)
      → Safe x
      → Safe (answered ws v (take_from (plain l) answers x.world) x)
  take_safe v [] x safe = no_answer_within
  take_safe v (a ∷ rest) x safe =
      took_safe v a rest (write_all (plain l) a.memory x.world.memory) x (all_fails a.memory x.world.memory) safe

  asks_safe : (v : Option ℕ) (e : Event) (x : Local) → Safe x → Safe (asks l ws v (in_world (recorded e x.world) x))
  asks_safe v e x safe = take_safe v x.world.answers (in_world (recorded e x.world) x) safe

  called_safe : (v : Option ℕ) (returns : Bool) (e : Event) (x : Local)
      → Safe x
      → Safe (called l ws v returns (in_world (recorded e x.world) x))
  called_safe v true e x safe = asks_safe v e x safe
  called_safe v false e x safe = no_return_within

  divided_safe : (v : ℕ) (n : Option ℕ) (x : Local) → Safe x → Safe (divided v n x)
  divided_safe v None x safe = div_zero_within
  divided_safe v (Some n) x safe = safe

  stored_safe : (s k a n : ℕ) (x : Local) → Safe x → Safe (stored l s k a n x)
  stored_safe s k a n x safe =
      let at = a % size_of l s in
      let bs = bytes_in l s k n in
      store_safe (Store s at bs) ((plain l).write s at bs x.world.memory) x.world
      (unless_fails (any_fixed l s at (length bs)) _) safe

  -- ---- statements

  layer_safe : (returns : ℕ → Bool) (s : Stmt-F Stmt Arm) (x : Local) → Safe x → Safe (do_layer l ws returns s x)
  layer_safe returns (Stmt-F.Assign v e) x safe = word_safe (value_of ws x.env e) x (λ n. assigned v n x) (λ n. safe)
  layer_safe returns (Stmt-F.Load v space address) x safe =
      word_safe (value_of ws x.env address) x
      (λ a. assigned v (loaded l (accessed l space) (ws v) a x.world.memory) x) (λ n. safe)
  layer_safe returns (Stmt-F.Store space address e) x safe =
      word_safe (value_of ws x.env address) x
      (λ a. with_word (value_of ws x.env e) x (λ n. stored l (accessed l space) (width_of ws e) a n x)) (λ a.
      word_safe (value_of ws x.env e) x (λ n. stored l (accessed l space) (width_of ws e) a n x)
      (λ n. stored_safe (accessed l space) (width_of ws e) a n x safe))
  layer_safe returns (Stmt-F.Call v callee args) x safe =
      words_safe (values_of ws x.env args) x
      (λ ns. called l ws v (returns callee) (in_world (recorded (Call callee ns) x.world) x))
      (λ ns. called_safe v (returns callee) (Call callee ns) x safe)
  layer_safe returns (Stmt-F.CallInd v callee args) x safe =
      word_safe (value_of ws x.env callee) x
      (λ a. with_words (values_of ws x.env args) x
      (λ ns. asks l ws v (in_world (recorded (Call a ns) x.world) x))) (λ a.
      words_safe (values_of ws x.env args) x (λ ns. asks l ws v (in_world (recorded (Call a ns) x.world) x))
      (λ ns. asks_safe v (Call a ns) x safe))
  layer_safe returns (Stmt-F.Other v index args) x safe =
      words_safe (values_of ws x.env args) x (λ ns. asks l ws v (in_world (recorded (Other index ns) x.world) x))
      (λ ns. asks_safe v (Other index ns) x safe)
  layer_safe returns (Stmt-F.Extra v offset) x safe = safe
  layer_safe returns (Stmt-F.Divide v op a b) x safe =
      word_safe (value_of ws x.env a) x
      (λ m. with_word (value_of ws x.env b) x
      (λ n. divided v (divide_value (divide_of op) (width_of ws a) m n) x)) (λ m.
      word_safe (value_of ws x.env b) x (λ n. divided v (divide_value (divide_of op) (width_of ws a) m n) x)
      (λ n. divided_safe v (divide_value (divide_of op) (width_of ws a) m n) x safe))
  layer_safe returns (Stmt-F.If c body) x safe = undefined_within
  layer_safe returns (Stmt-F.IfElse c body other) x safe = undefined_within
  layer_safe returns (Stmt-F.While c body) x safe = undefined_within
  layer_safe returns (Stmt-F.DoWhile body c) x safe = undefined_within
  layer_safe returns (Stmt-F.Loop body) x safe = undefined_within
  layer_safe returns Stmt-F.Break x safe = undefined_within
  layer_safe returns (Stmt-F.Switch e arms) x safe = undefined_within
  layer_safe returns (Stmt-F.Goto n) x safe = undefined_within
  layer_safe returns (Stmt-F.Label n) x safe = undefined_within
  layer_safe returns (Stmt-F.Return e) x safe = undefined_within

  -- ---- steps

  goes_safe : (n : Option ℕ) (s : CState) (to : ℕ → ℕ) → Safe s.local → Safe (goes_by n s to).local
  goes_safe None s to safe = undefined_within
  goes_safe (Some n) s to safe = safe

  gives_safe : (n : Option ℕ) (s : CState) → Safe s.local → Safe (gives n s).local
  gives_safe None s safe = undefined_within
  gives_safe (Some n) s safe = returned_within (Some n)

  given_safe : (e : Option Expr) (s : CState) → Safe s.local → Safe (given ws e s).local
  given_safe None s safe = returned_within None
  given_safe (Some e) s safe = gives_safe (value_of ws s.local.env e) s safe

  carried_safe : (returns : ℕ → Bool) (x : Option Flat) (s : CState)
      → Safe s.local
      → Safe (carry_out l ws returns x s).local
  carried_safe returns None s safe = undefined_within
  carried_safe returns (Some (Do x)) s safe = layer_safe returns (out-Stmt x) s.local safe
  carried_safe returns (Some (Test e p q)) s safe = goes_safe (value_of ws s.local.env e) s (tested p q) safe
  carried_safe returns (Some (Jump to)) s safe = safe
  carried_safe returns (Some (Choose e cases other)) s safe =
      goes_safe (value_of ws s.local.env e) s (found_in cases other) safe
  carried_safe returns (Some (Give e)) s safe = given_safe e s safe

unless_safe : (o : Option End) (s t : CState) → Safe s.local → Safe t.local → Safe (unless_over o s t).local
unless_safe None s t a b = b
unless_safe (Some e) s t a b = a

module _ (l : Listing) (f : CFunction) where
  step_safe : (s : CState) → Safe s.local → Safe (c_step l f s).local
  step_safe s safe = unless_safe s.local.world.over s _ safe (carried_safe l (widths_in f) _ _ s safe)

  steps_safe : (n : ℕ) (s : CState) → Safe s.local → Within (seen (c_machine l f) s n).over
  steps_safe zero s safe = safe
  steps_safe (suc n) s safe = steps_safe n (c_step l f s) (step_safe s safe)

  -- The C run of a function never ends Outside.
  pub never_outside : (e : Entry) → NeverEnds Outside (seen_c l f e)
  never_outside e n = steps_safe n (start_c l f e) none_within
