-- The run of code on blocks only adds to what it has shown.
use Rattle.std.proofs.Common.{◌≡◌, ℕ, Bool, true, false, List, [], ◌∷◌, refl, Option, Some, None}
use Rattle.std.specs.Prelude.{◌==◌, ◌%◌, cond, drop, slice_get}
use Rattle.machine.specs.Trace.{End, Call, Other, Store}
use Rattle.machine.specs.TwoWay.{IsFront}
use Rattle.machine.specs.Machine.{IsMonotone}
use Rattle.machine.proofs.TwoWay.{front_of_going, front_refl}
use Rattle.pcode_model.specs.declared.listing.Listing.{Listing}
use Rattle.pcode_model.specs.Memory.{Bytes, plain}
use Rattle.pcode_model.specs.World.{World, recorded, Taken, Stops, Took, take_answer, shown, unless_over}
use Rattle.pcode_laws.proofs.Grows.{Adds, adds_none, adds_more, adds_event, adds_store, world_taken, adds_from}
use Rattle.cmeaning.specs.declared.tree.Arm.{Arm as CArm}
use Rattle.cmeaning.specs.declared.tree.Stmt.{Stmt, out-Stmt}
use Rattle.cmeaning.specs.declared.tree.Stmt.TheOpen.{Stmt-F}
use Rattle.bits_core.specs.Value.{divide_value}
use Rattle.pcode_model.specs.Spaces.{size_of}
use Rattle.pcode_model.specs.Step.{bytes_in}
use Rattle.cmeaning.specs.Value.{width_of, value_of}
use Rattle.cmeaning.specs.Do.{Local, in_world, with_word, with_words, values_of, assigned, loaded, divide_of, stored, answered, asks, called, divided, do_layer, do_simple, accessed}
use Rattle.cmeaning.specs.Step.{tested}
use Rattle.blockcode.specs.declared.code.Arm.{Arm}
use Rattle.blockcode.specs.declared.code.Block.{Block}
use Rattle.blockcode.specs.declared.code.Code.{Code}
use Rattle.blockcode.specs.declared.code.Exit.{Exit}
use Rattle.blockcode.specs.declared.code.Exit.TheVariants as X
use Rattle.blockcode.specs.Run.{CodeState, widths, call_returns, enters, enters_by, returns_with, chosen, leave, pass, pass_in, code_machine}

-- ---- statements

abbrev Goes : Local → Local → Type 0
Goes x y = Adds x.world y.world

adds_word : (o : Option ℕ) (x : Local) (next : ℕ → Local) → ((n : ℕ) → Goes x (next n)) → Goes x (with_word o x next)
adds_word None x next h = adds_none x.world
adds_word (Some n) x next h = h n

adds_words : (os : List (Option ℕ)) (x : Local) (next : List ℕ → Local)
    → ((ns : List ℕ) → Goes x (next ns))
    → Goes x (with_words os x next)
adds_words [] x next h = h []
adds_words (o ∷ os) x next h = adds_word o x (λ n. with_words os x (λ ns. next (n ∷ ns)))
    (λ n. adds_words os x (λ ns. next (n ∷ ns)) (λ ns. h (n ∷ ns)))

adds_answered : (ws : ℕ → ℕ) (v : Option ℕ) (t : Taken Bytes) (x : Local) (w : World Bytes)
    → Adds w (world_taken t)
    → Adds w (answered ws v t x).world
adds_answered ws v (Stops u) x w h = h
adds_answered ws v (Took a u) x w h = h

adds_asks : (l : Listing) (ws : ℕ → ℕ) (v : Option ℕ) (x : Local) → Goes x (asks l ws v x)
adds_asks l ws v x = adds_answered ws v (take_answer (plain l) x.world) x x.world
    (adds_from (plain l) x.world.answers x.world)

adds_called : (l : Listing) (ws : ℕ → ℕ) (v : Option ℕ) (returns : Bool) (x : Local) → Goes x (called l ws v returns x)
adds_called l ws v true x = adds_asks l ws v x
adds_called l ws v false x = adds_none x.world

adds_divided : (v : ℕ) (o : Option ℕ) (x : Local) → Goes x (divided v o x)
adds_divided v None x = adds_none x.world
adds_divided v (Some n) x = adds_none x.world

adds_stored : (l : Listing) (s k a n : ℕ) (x : Local) → Goes x (stored l s k a n x)
adds_stored l s k a n x = adds_store (Store s (a % size_of l s) (bytes_in l s k n))
    ((plain l).write s (a % size_of l s) (bytes_in l s k n) x.world.memory) x.world

adds_layer : (l : Listing) (ws : ℕ → ℕ) (returns : ℕ → Bool) (s : Stmt-F Stmt CArm) (x : Local)
    → Goes x (do_layer l ws returns s x)
adds_layer l ws returns (Stmt-F.Assign v e) x =
    adds_word (value_of ws x.env e) x (λ n. assigned v n x) (λ n. adds_none x.world)
adds_layer l ws returns (Stmt-F.Load v space address) x =
    adds_word (value_of ws x.env address) x (λ a. assigned v (loaded l (accessed l space) (ws v) a x.world.memory) x)
    (λ n. adds_none x.world)
adds_layer l ws returns (Stmt-F.Store space address e) x =
    let put = λ (a n : ℕ). stored l (accessed l space) (width_of ws e) a n x in
    adds_word (value_of ws x.env address) x (λ a. with_word (value_of ws x.env e) x (put a))
    (λ a. adds_word (value_of ws x.env e) x (put a) (λ n. adds_stored l (accessed l space) (width_of ws e) a n x))
adds_layer l ws returns (Stmt-F.Call v callee args) x =
    let call = λ (ns : List ℕ). called l ws v (returns callee) (in_world (recorded (Call callee ns) x.world) x) in
    adds_words (values_of ws x.env args) x call
    (λ ns. adds_more x.world (recorded (Call callee ns) x.world) (call ns).world
    (adds_event (Call callee ns) x.world)
    (adds_called l ws v (returns callee) (in_world (recorded (Call callee ns) x.world) x)))
adds_layer l ws returns (Stmt-F.CallInd v callee args) x =
    let call = λ (a : ℕ) (ns : List ℕ). asks l ws v (in_world (recorded (Call a ns) x.world) x) in
    adds_word (value_of ws x.env callee) x (λ a. with_words (values_of ws x.env args) x (call a))
    (λ a. adds_words (values_of ws x.env args) x (call a)
    (λ ns. adds_more x.world (recorded (Call a ns) x.world) (call a ns).world (adds_event (Call a ns) x.world)
    (adds_asks l ws v (in_world (recorded (Call a ns) x.world) x))))
adds_layer l ws returns (Stmt-F.Other v index args) x =
    let call = λ (ns : List ℕ). asks l ws v (in_world (recorded (Other index ns) x.world) x) in
    adds_words (values_of ws x.env args) x call
    (λ ns. adds_more x.world (recorded (Other index ns) x.world) (call ns).world
    (adds_event (Other index ns) x.world) (adds_asks l ws v (in_world (recorded (Other index ns) x.world) x)))
adds_layer l ws returns (Stmt-F.Extra v offset) x = adds_none x.world
adds_layer l ws returns (Stmt-F.Divide v op a b) x =
    let put = λ (m n : ℕ). divided v (divide_value (divide_of op) (width_of ws a) m n) x in
    adds_word (value_of ws x.env a) x (λ m. with_word (value_of ws x.env b) x (put m))
    (λ m. adds_word (value_of ws x.env b) x (put m)
    (λ n. adds_divided v (divide_value (divide_of op) (width_of ws a) m n) x))
adds_layer l ws returns s x = adds_none x.world

pub adds_simple : (l : Listing) (ws : ℕ → ℕ) (returns : ℕ → Bool) (s : Stmt) (x : Local)
    → Adds x.world (do_simple l ws returns s x).world
adds_simple l ws returns s x = adds_layer l ws returns (out-Stmt s) x

-- ---- the code run

abbrev Passes : CodeState → CodeState → Type 0
Passes s t = Adds s.local.world t.local.world

adds_enters : (o : Option ℕ) (s : CodeState) (next : ℕ → CodeState)
    → ((n : ℕ) → Passes s (next n))
    → Passes s (enters_by o s next)
adds_enters None s next h = adds_none s.local.world
adds_enters (Some n) s next h = h n

adds_chosen : (arms : List Arm) (s : CodeState) (n : ℕ) → Passes s (chosen arms s n)
adds_chosen [] s n = adds_none s.local.world
adds_chosen (a ∷ rest) s n = let Q : Bool → Type 0 = λ b. Passes s (cond b (enters a.to s) (chosen rest s n)) in
    elim (a.value == n) as Q [ true ↦ adds_none s.local.world | false ↦ adds_chosen rest s n ]

adds_returns : (o : Option ℕ) (s : CodeState) → Passes s (returns_with o s)
adds_returns None s = adds_none s.local.world
adds_returns (Some n) s = adds_none s.local.world

adds_leave : (ws : ℕ → ℕ) (e : Exit) (s : CodeState) → Passes s (leave ws e s)
adds_leave ws (X.Return None) s = adds_none s.local.world
adds_leave ws (X.Return (Some e)) s = adds_returns (value_of ws s.local.env e) s
adds_leave ws (X.Jump b) s = adds_none s.local.world
adds_leave ws (X.Test e taken other) s =
    adds_enters (value_of ws s.local.env e) s (λ n. enters (tested taken other n) s) (λ n. adds_none s.local.world)
adds_leave ws (X.Switch e arms) s =
    adds_enters (value_of ws s.local.env e) s (chosen arms s) (λ n. adds_chosen arms s n)
adds_leave ws X.Stop s = adds_none s.local.world

adds_pass : (l : Listing) (ws : ℕ → ℕ) (ss : List Stmt) (e : Exit) (s : CodeState) → Passes s (pass l ws ss e s)
adds_pass l ws [] e s = adds_leave ws e s
adds_pass l ws (x ∷ rest) e s = adds_simple l ws (λ a. call_returns rest e) x s.local

adds_in : (l : Listing) (ws : ℕ → ℕ) (b : Option Block) (s : CodeState) → Passes s (pass_in l ws b s)
adds_in l ws None s = adds_none s.local.world
adds_in l ws (Some b) s = adds_pass l ws (drop s.position b.body) b.exit s

code_at : (over : Option End) (s t : CodeState)
    → s.local.world.over ≡ over
    → Passes s t
    → IsFront (shown s.local.world) (shown (unless_over over s t).local.world)
code_at None s t e h = front_of_going (shown s.local.world) (shown t.local.world) e h
code_at (Some x) s t e h = front_refl (shown s.local.world)

-- What the run of a code has shown only grows.
pub code_grows : (l : Listing) (k : Code) → IsMonotone (code_machine l k)
code_grows l k s = code_at s.local.world.over s (pass_in l (widths k.variables) (slice_get k.blocks s.block) s) refl
    (adds_in l (widths k.variables) (slice_get k.blocks s.block) s)
