-- The C run only adds to what it has shown.
use Rattle.std.proofs.Common.{◌≡◌, ℕ, ◌%◌, Bool, true, false, List, [], ◌∷◌, ◌++◌, slice_get, Option, Some, None, Result, Ok, Err, refl, sym, ◌∙◌, subst, append_assoc}
use Rattle.machine.specs.Trace.{Event, Call, Other, Store, End}
use Rattle.machine.specs.TwoWay.{IsPrefix, GoesOn, IsFront}
use Rattle.machine.specs.Machine.{IsMonotone}
use Rattle.machine.proofs.TwoWay.{prefix_refl, front_refl}
use Rattle.bits_core.specs.Value.{divide_value}
use Rattle.pcode_model.specs.declared.listing.Listing.{Listing}
use Rattle.pcode_model.specs.Spaces.{size_of}
use Rattle.pcode_model.specs.Memory.{Bytes, plain}
use Rattle.pcode_model.specs.World.{Answer, World, stored_as, recorded, took, take_from, write_all, unless_over, shown}
use Rattle.pcode_model.specs.Step.{bytes_in}
use Rattle.cmeaning.specs.declared.tree.Arm.{Arm}
use Rattle.cmeaning.specs.declared.tree.CFunction.{CFunction}
use Rattle.cmeaning.specs.declared.tree.Expr.{Expr}
use Rattle.cmeaning.specs.declared.tree.Stmt.{Stmt, out-Stmt}
use Rattle.cmeaning.specs.declared.tree.Stmt.TheOpen.{Stmt-F}
use Rattle.cmeaning.specs.Value.{width_of, value_of}
use Rattle.cmeaning.specs.Do.{Local, in_world, assigned, with_word, with_words, values_of, accessed, loaded, stored, answered, asks, called, divided, divide_of, do_layer, do_simple, widths_in}
use Rattle.cmeaning.specs.Flat.{Flat, Do, Test, Jump, Choose, Give, flat_of, found_in, returns_by}
use Rattle.cmeaning.specs.Step.{CState, tested, carry_out, c_machine, given, gives, goes_by}

-- the second has shown what the first has, and maybe more events
abbrev pub Grew : Local → Local → Type 0
Grew x y = IsPrefix x.world.events y.world.events

one_more : (events : List Event) (e : Event) → IsPrefix events (events ++ e ∷ [])
one_more events e = (e ∷ [], refl)

then_more : (xs ys : List Event) (e : Event) → IsPrefix (xs ++ e ∷ []) ys → IsPrefix xs ys
then_more xs ys e p = (e ∷ p.0, p.1 ∙ append_assoc xs (e ∷ []) p.0)

word_grows : (a : Option ℕ) (x : Local) (next : ℕ → Local) → ((n : ℕ) → Grew x (next n)) → Grew x (with_word a x next)
word_grows None x next h = prefix_refl x.world.events
word_grows (Some n) x next h = h n

words_grow : (xs : List (Option ℕ)) (x : Local) (next : List ℕ → Local)
    → ((ns : List ℕ) → Grew x (next ns))
    → Grew x (with_words xs x next)
words_grow [] x next h = h []
words_grow (a ∷ rest) x next h =
    word_grows a x (λ n. with_words rest x (λ ns. next (n ∷ ns)))
    (λ n. words_grow rest x (λ ns. next (n ∷ ns)) (λ ns. h (n ∷ ns)))

store_grows : (e : Event) (r : Result Bytes End) (w : World Bytes) → IsPrefix w.events (stored_as e r w).events
store_grows e (Err end) w = prefix_refl w.events
store_grows e (Ok m) w = one_more w.events e

took_grows : (l : Listing) (ws : ℕ → ℕ) (v : Option ℕ) (a : Answer) (rest : List Answer) (r : Result Bytes End)
    (x : Local)
    → Grew x (answered ws v (took (plain l) a rest r x.world) x)
took_grows l ws v a rest (Err e) x = prefix_refl x.world.events
took_grows l ws v a rest (Ok m) x = prefix_refl x.world.events

take_grows : (l : Listing) (ws : ℕ → ℕ) (v : Option ℕ) (answers : List Answer) (x : Local)
    → Grew x (answered ws v (take_from (plain l) answers x.world) x)
take_grows l ws v [] x = prefix_refl x.world.events
take_grows l ws v (a ∷ rest) x = took_grows l ws v a rest (write_all (plain l) a.memory x.world.memory) x

asks_grow : (l : Listing) (ws : ℕ → ℕ) (v : Option ℕ) (e : Event) (x : Local)
    → Grew x (asks l ws v (in_world (recorded e x.world) x))
asks_grow l ws v e x =
    let y = in_world (recorded e x.world) x in
    then_more x.world.events (asks l ws v y).world.events e (take_grows l ws v x.world.answers y)

called_grows : (l : Listing) (ws : ℕ → ℕ) (v : Option ℕ) (returns : Bool) (e : Event) (x : Local)
    → Grew x (called l ws v returns (in_world (recorded e x.world) x))
called_grows l ws v true e x = asks_grow l ws v e x
called_grows l ws v false e x = one_more x.world.events e

divided_grows : (v : ℕ) (n : Option ℕ) (x : Local) → Grew x (divided v n x)
divided_grows v None x = prefix_refl x.world.events
divided_grows v (Some n) x = prefix_refl x.world.events

stored_grows : (l : Listing) (s k a n : ℕ) (x : Local) → Grew x (stored l s k a n x)
stored_grows l s k a n x =
    let at = a % size_of l s in
    let bs = bytes_in l s k n in
    store_grows (Store s at bs) ((plain l).write s at bs x.world.memory) x.world

layer_grows : (l : Listing) (ws : ℕ → ℕ) (returns : ℕ → Bool) (s : Stmt-F Stmt Arm) (x : Local)
    → Grew x (do_layer l ws returns s x)
layer_grows l ws returns (Stmt-F.Assign v e) x =
    word_grows (value_of ws x.env e) x (λ n. assigned v n x) (λ n. prefix_refl x.world.events)
layer_grows l ws returns (Stmt-F.Load v space address) x =
    word_grows (value_of ws x.env address) x (λ a. assigned v (loaded l (accessed l space) (ws v) a x.world.memory) x)
    (λ n. prefix_refl x.world.events)
layer_grows l ws returns (Stmt-F.Store space address e) x =
    word_grows (value_of ws x.env address) x
    (λ a. with_word (value_of ws x.env e) x (λ n. stored l (accessed l space) (width_of ws e) a n x)) (λ a.
    word_grows (value_of ws x.env e) x (λ n. stored l (accessed l space) (width_of ws e) a n x)
    (λ n. stored_grows l (accessed l space) (width_of ws e) a n x))
layer_grows l ws returns (Stmt-F.Call v callee args) x =
    words_grow (values_of ws x.env args) x
    (λ ns. called l ws v (returns callee) (in_world (recorded (Call callee ns) x.world) x))
    (λ ns. called_grows l ws v (returns callee) (Call callee ns) x)
layer_grows l ws returns (Stmt-F.CallInd v callee args) x =
    word_grows (value_of ws x.env callee) x
    (λ a. with_words (values_of ws x.env args) x (λ ns. asks l ws v (in_world (recorded (Call a ns) x.world) x)))
    (λ a.
    words_grow (values_of ws x.env args) x (λ ns. asks l ws v (in_world (recorded (Call a ns) x.world) x))
    (λ ns. asks_grow l ws v (Call a ns) x))
layer_grows l ws returns (Stmt-F.Other v index args) x =
    words_grow (values_of ws x.env args) x (λ ns. asks l ws v (in_world (recorded (Other index ns) x.world) x))
    (λ ns. asks_grow l ws v (Other index ns) x)
layer_grows l ws returns (Stmt-F.Extra v offset) x = prefix_refl x.world.events
layer_grows l ws returns (Stmt-F.Divide v op a b) x =
    word_grows (value_of ws x.env a) x
    (λ m. with_word (value_of ws x.env b) x (λ n. divided v (divide_value (divide_of op) (width_of ws a) m n) x))
    (λ m.
    word_grows (value_of ws x.env b) x (λ n. divided v (divide_value (divide_of op) (width_of ws a) m n) x)
    (λ n. divided_grows v (divide_value (divide_of op) (width_of ws a) m n) x))
layer_grows l ws returns (Stmt-F.If c body) x = prefix_refl x.world.events
layer_grows l ws returns (Stmt-F.IfElse c body other) x = prefix_refl x.world.events
layer_grows l ws returns (Stmt-F.While c body) x = prefix_refl x.world.events
layer_grows l ws returns (Stmt-F.DoWhile body c) x = prefix_refl x.world.events
layer_grows l ws returns (Stmt-F.Loop body) x = prefix_refl x.world.events
layer_grows l ws returns Stmt-F.Break x = prefix_refl x.world.events
layer_grows l ws returns (Stmt-F.Switch e arms) x = prefix_refl x.world.events
layer_grows l ws returns (Stmt-F.Goto n) x = prefix_refl x.world.events
layer_grows l ws returns (Stmt-F.Label n) x = prefix_refl x.world.events
layer_grows l ws returns (Stmt-F.Return e) x = prefix_refl x.world.events

-- a simple statement only adds events
pub simple_grows : (l : Listing) (ws : ℕ → ℕ) (returns : ℕ → Bool) (s : Stmt) (x : Local)
    → Grew x (do_simple l ws returns s x)
simple_grows l ws returns s x = layer_grows l ws returns (out-Stmt s) x

goes_grows : (n : Option ℕ) (s : CState) (to : ℕ → ℕ) → Grew s.local (goes_by n s to).local
goes_grows None s to = prefix_refl s.local.world.events
goes_grows (Some n) s to = prefix_refl s.local.world.events

gives_grows : (n : Option ℕ) (s : CState) → Grew s.local (gives n s).local
gives_grows None s = prefix_refl s.local.world.events
gives_grows (Some n) s = prefix_refl s.local.world.events

given_grows : (ws : ℕ → ℕ) (e : Option Expr) (s : CState) → Grew s.local (given ws e s).local
given_grows ws None s = prefix_refl s.local.world.events
given_grows ws (Some e) s = gives_grows (value_of ws s.local.env e) s

pub carried_grows : (l : Listing) (ws : ℕ → ℕ) (returns : ℕ → Bool) (x : Option Flat) (s : CState)
    → Grew s.local (carry_out l ws returns x s).local
carried_grows l ws returns None s = prefix_refl s.local.world.events
carried_grows l ws returns (Some (Do x)) s = simple_grows l ws returns x s.local
carried_grows l ws returns (Some (Test e p q)) s = goes_grows (value_of ws s.local.env e) s (tested p q)
carried_grows l ws returns (Some (Jump to)) s = prefix_refl s.local.world.events
carried_grows l ws returns (Some (Choose e cases other)) s =
    goes_grows (value_of ws s.local.env e) s (found_in cases other)
carried_grows l ws returns (Some (Give e)) s = given_grows ws e s

front_of : (o : Option End) (s t : CState)
    → s.local.world.over ≡ o
    → Grew s.local t.local
    → IsFront (shown s.local.world) (shown (unless_over o s t).local.world)
front_of (Some e) s t over h = front_refl (shown s.local.world)
front_of None s t over h = let P : Option End → Type 0 = λ o. GoesOn o (shown s.local.world) (shown t.local.world) in
    subst P (sym over) h

-- a step of a C run only adds to what it has shown, and changes nothing after an end
pub c_grows : (l : Listing) (f : CFunction) → IsMonotone (c_machine l f)
c_grows l f s =
    let t = carry_out l (widths_in f) (returns_by f.callees) (slice_get (flat_of f) s.position) s in
    front_of s.local.world.over s t refl
    (carried_grows l (widths_in f) (returns_by f.callees) (slice_get (flat_of f) s.position) s)
