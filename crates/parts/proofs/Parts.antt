-- What a simple statement does, by its parts, and the parts of a statement with others.
use Rattle.std.proofs.Common.{◌≡◌, ℕ, ◌%◌, Bool, true, false, List, [], ◌∷◌, Option, Some, None, Result, Ok, Err, refl, sym, ap, ◌∙◌}
use Rattle.machine.specs.Trace.{Event, Call, Other, Store, End}
use Rattle.bits_core.specs.Value.{divide_value}
use Rattle.pcode_model.specs.declared.listing.Listing.{Listing}
use Rattle.pcode_model.specs.Spaces.{size_of}
use Rattle.pcode_model.specs.Memory.{Bytes, plain}
use Rattle.pcode_model.specs.World.{World, Answer, recorded, stored_as, take_from, took, write_all}
use Rattle.pcode_model.specs.Step.{bytes_in}
use Rattle.cmeaning.specs.declared.tree.Expr.{Expr}
use Rattle.cmeaning.specs.declared.tree.Arm.{Arm}
use Rattle.cmeaning.specs.declared.tree.Stmt.{Stmt, out-Stmt, roll-Stmt}
use Rattle.cmeaning.specs.declared.tree.Stmt.TheViews.{out-roll-Stmt, roll-out-Stmt}
use Rattle.cmeaning.specs.declared.tree.Stmt.TheVariants as S
use Rattle.cmeaning.specs.declared.tree.Stmt.TheOpen.{Stmt-F}
use Rattle.cmeaning.specs.Value.{width_of, value_of}
use Rattle.cmeaning.specs.Do.{Local, in_world, with_word, with_words, values_of, accessed, answered, asks, called, divided, divide_of, do_layer, do_simple}
use Rattle.parts.specs.Exprs.{both, all_of, widths_of, with_all, with_each, own}
use Rattle.parts.proofs.Values.{with_itself, with_each_itself}
use Rattle.parts.specs.Stmts.{map_target, layer_changed, changed, layer_action, layer_target, layer_args, args_of, Done, Over, Goes, performed, stores, takes, takes_from, takes_answer, calls, divides, act, done_with, done_by, Changes, IsAssign}

-- ---- operands

module _ (x : Local) where
  word_alike : (o : Option ℕ) (f g : ℕ → Local) → ((n : ℕ) → f n ≡ g n) → with_word o x f ≡ with_word o x g
  word_alike None f g h = refl
  word_alike (Some n) f g h = h n

  words_alike : (os : List (Option ℕ)) (f g : List ℕ → Local)
      → ((ns : List ℕ) → f ns ≡ g ns)
      → with_words os x f ≡ with_words os x g
  words_alike [] f g h = h []
  words_alike (o ∷ os) f g h =
      word_alike o (λ n. with_words os x (λ ns. f (n ∷ ns))) (λ n. with_words os x (λ ns. g (n ∷ ns)))
      (λ n. words_alike os (λ ns. f (n ∷ ns)) (λ ns. g (n ∷ ns)) (λ ns. h (n ∷ ns)))

  one_more : (n : ℕ) (os : Option (List ℕ)) (next : List ℕ → Local)
      → done_with os x (λ ns. next (n ∷ ns)) ≡ done_with (both (Some n) os) x next
  one_more n None next = refl
  one_more n (Some ns) next = refl

  words_done : (os : List (Option ℕ)) (next : List ℕ → Local) → with_words os x next ≡ done_with (all_of os) x next
  words_done [] next = refl
  words_done (None ∷ os) next = refl
  words_done (Some n ∷ os) next = words_done os (λ ns. next (n ∷ ns)) ∙ one_more n (all_of os) next

-- ---- effects

module _ (l : Listing) (ws : ℕ → ℕ) where
  stored_is : (e : Event) (r : Result Bytes End) (x : Local)
      → in_world (stored_as e r x.world) x ≡ performed ws None (stores e r x.left x.world) x
  stored_is e (Err end) x = refl
  stored_is e (Ok m) x = refl

  took_is : (v : Option ℕ) (a : Answer) (rest : List Answer) (r : Result Bytes End) (w : World Bytes) (x : Local)
      → answered ws v (took (plain l) a rest r w) x ≡ performed ws v (takes l a rest r w) x
  took_is v a rest (Err end) w x = refl
  took_is None a rest (Ok m) w x = refl
  took_is (Some v) a rest (Ok m) w x = refl

  taken_is : (v : Option ℕ) (answers : List Answer) (w : World Bytes) (x : Local)
      → answered ws v (take_from (plain l) answers w) x ≡ performed ws v (takes_from l answers w) x
  taken_is v [] w x = refl
  taken_is v (a ∷ rest) w x = took_is v a rest (write_all (plain l) a.memory w.memory) w x

  other_world : (v : Option ℕ) (d : Done) (w : World Bytes) (x : Local)
      → performed ws v d (in_world w x) ≡ performed ws v d x
  other_world v (Over e u) w x = refl
  other_world v (Goes value left u) w x = refl

  asks_is : (v : Option ℕ) (w : World Bytes) (x : Local)
      → asks l ws v (in_world w x) ≡ performed ws v (takes_answer l w) x
  asks_is v w x = taken_is v w.answers w (in_world w x) ∙ other_world v (takes_answer l w) w x

  called_is : (v : Option ℕ) (returns : Bool) (w : World Bytes) (x : Local)
      → called l ws v returns (in_world w x) ≡ performed ws v (calls l returns w) x
  called_is v true w x = asks_is v w x
  called_is v false w x = refl

  divided_is : (v : ℕ) (o : Option ℕ) (x : Local) → divided v o x ≡ performed ws (Some v) (divides o x.left x.world) x
  divided_is v None x = refl
  divided_is v (Some n) x = refl

  -- ---- statements

  module _ (returns : ℕ → Bool) where
    layer_is : (y : Stmt-F Stmt Arm) (x : Local)
        → do_layer l ws returns y x
        ≡ with_words (values_of ws x.env (layer_args y)) x
        (λ ns. performed ws (layer_target y)
        (act l returns (layer_action y) (widths_of ws (layer_args y)) ns x.left x.world) x)
    layer_is (Stmt-F.Assign v e) x = refl
    layer_is (Stmt-F.Load v space address) x = refl
    layer_is (Stmt-F.Store space address e) x =
        let s = accessed l space in
        word_alike x (value_of ws x.env address) _ _
        (λ a. word_alike x (value_of ws x.env e) _ _
        (λ n. let bs = bytes_in l s (width_of ws e) n in
        stored_is (Store s (a % size_of l s) bs) ((plain l).write s (a % size_of l s) bs x.world.memory) x))
    layer_is (Stmt-F.Call v callee args) x = words_alike x (values_of ws x.env args) _ _
        (λ ns. called_is v (returns callee) (recorded (Call callee ns) x.world) x)
    layer_is (Stmt-F.CallInd v callee args) x =
        word_alike x (value_of ws x.env callee) _ _
        (λ a. words_alike x (values_of ws x.env args) _ _ (λ ns. asks_is v (recorded (Call a ns) x.world) x))
    layer_is (Stmt-F.Other v index args) x =
        words_alike x (values_of ws x.env args) _ _ (λ ns. asks_is v (recorded (Other index ns) x.world) x)
    layer_is (Stmt-F.Extra v offset) x = refl
    layer_is (Stmt-F.Divide v op a b) x =
        word_alike x (value_of ws x.env a) _ _
        (λ m. word_alike x (value_of ws x.env b) _ _
        (λ n. divided_is v (divide_value (divide_of op) (width_of ws a) m n) x))
    layer_is y x = refl

    -- What a simple statement does depends on its arguments through their widths and values alone.
    pub do_by_parts : (s : Stmt) (x : Local)
        → do_simple l ws returns s x
        ≡ done_with (all_of (values_of ws x.env (args_of s))) x (done_by l ws returns s x)
    do_by_parts s x = layer_is (out-Stmt s) x
        ∙ words_done x (values_of ws x.env (args_of s)) (done_by l ws returns s x)

-- ---- statements with other parts

-- a statement that is a layer
out_is : (s : Stmt) (y : Stmt-F Stmt Arm) → roll-Stmt y ≡ s → out-Stmt s ≡ y
out_is s y is = ap out-Stmt (sym is) ∙ out-roll-Stmt y

module _ (g : ℕ → ℕ) (f : ℕ → Expr) where
  changes_by : (s t : Stmt) (y z : Stmt-F Stmt Arm)
      → out-Stmt s ≡ y
      → out-Stmt t ≡ z
      → layer_action z ≡ layer_action y
      → layer_target z ≡ map_target g (layer_target y)
      → layer_args z ≡ with_each f (layer_args y)
      → Changes g f s t
  changes_by s t y z es et a o xs = record {
    action = ap layer_action et ∙ a ∙ sym (ap layer_action es);
    target = ap layer_target et ∙ o ∙ sym (ap (λ q. map_target g (layer_target q)) es);
    args = ap layer_args et ∙ xs ∙ sym (ap (λ q. with_each f (layer_args q)) es);
  }

  layer_changes : (s : Stmt) (y : Stmt-F Stmt Arm) → out-Stmt s ≡ y → Changes g f s (layer_changed g f s y)
  layer_changes s (Stmt-F.Assign v e) is =
      changes_by s _ (Stmt-F.Assign v e) (Stmt-F.Assign (g v) (with_all f e)) is
      (out_is _ _ (S.rolls-Assign (g v) (with_all f e))) refl refl refl
  layer_changes s (Stmt-F.Load v space address) is =
      changes_by s _ (Stmt-F.Load v space address) (Stmt-F.Load (g v) space (with_all f address)) is
      (out_is _ _ (S.rolls-Load (g v) space (with_all f address))) refl refl refl
  layer_changes s (Stmt-F.Store space address e) is =
      changes_by s _ (Stmt-F.Store space address e) (Stmt-F.Store space (with_all f address) (with_all f e)) is
      (out_is _ _ (S.rolls-Store space (with_all f address) (with_all f e))) refl refl refl
  layer_changes s (Stmt-F.Call v callee args) is =
      changes_by s _ (Stmt-F.Call v callee args) (Stmt-F.Call (map_target g v) callee (with_each f args)) is
      (out_is _ _ (S.rolls-Call (map_target g v) callee (with_each f args))) refl refl refl
  layer_changes s (Stmt-F.CallInd v callee args) is =
      changes_by s _ (Stmt-F.CallInd v callee args)
      (Stmt-F.CallInd (map_target g v) (with_all f callee) (with_each f args)) is
      (out_is _ _ (S.rolls-CallInd (map_target g v) (with_all f callee) (with_each f args))) refl refl refl
  layer_changes s (Stmt-F.Other v index args) is =
      changes_by s _ (Stmt-F.Other v index args) (Stmt-F.Other (map_target g v) index (with_each f args)) is
      (out_is _ _ (S.rolls-Other (map_target g v) index (with_each f args))) refl refl refl
  layer_changes s (Stmt-F.Extra v offset) is =
      changes_by s _ (Stmt-F.Extra v offset) (Stmt-F.Extra (g v) offset) is
      (out_is _ _ (S.rolls-Extra (g v) offset)) refl refl refl
  layer_changes s (Stmt-F.Divide v op a b) is =
      changes_by s _ (Stmt-F.Divide v op a b) (Stmt-F.Divide (g v) op (with_all f a) (with_all f b)) is
      (out_is _ _ (S.rolls-Divide (g v) op (with_all f a) (with_all f b))) refl refl refl
  layer_changes s y is = changes_by s s y y is is refl refl refl

  -- The parts of a statement that is changed, whatever its kind.
  pub changed_is : (s : Stmt) → Changes g f s (changed g f s)
  changed_is s = layer_changes s (out-Stmt s) refl

-- ---- nothing changed

target_itself : (v : Option ℕ) → map_target (λ v. v) v ≡ v
target_itself None = refl
target_itself (Some v) = refl

layer_itself : (s : Stmt) (y : Stmt-F Stmt Arm) → roll-Stmt y ≡ s → layer_changed (λ v. v) own s y ≡ s
layer_itself s (Stmt-F.Assign v e) is = ap (S.Assign v) (with_itself e) ∙ sym (S.rolls-Assign v e) ∙ is
layer_itself s (Stmt-F.Load v space address) is =
    ap (S.Load v space) (with_itself address) ∙ sym (S.rolls-Load v space address) ∙ is
layer_itself s (Stmt-F.Store space address e) is =
    ap (λ z. S.Store space z (with_all own e)) (with_itself address)
    ∙ ap (S.Store space address) (with_itself e)
    ∙ sym (S.rolls-Store space address e)
    ∙ is
layer_itself s (Stmt-F.Call v callee args) is =
    ap (λ z. S.Call z callee (with_each own args)) (target_itself v)
    ∙ ap (S.Call v callee) (with_each_itself args)
    ∙ sym (S.rolls-Call v callee args)
    ∙ is
layer_itself s (Stmt-F.CallInd v callee args) is =
    ap (λ z. S.CallInd z (with_all own callee) (with_each own args)) (target_itself v)
    ∙ ap (λ z. S.CallInd v z (with_each own args)) (with_itself callee)
    ∙ ap (S.CallInd v callee) (with_each_itself args)
    ∙ sym (S.rolls-CallInd v callee args)
    ∙ is
layer_itself s (Stmt-F.Other v index args) is =
    ap (λ z. S.Other z index (with_each own args)) (target_itself v)
    ∙ ap (S.Other v index) (with_each_itself args)
    ∙ sym (S.rolls-Other v index args)
    ∙ is
layer_itself s (Stmt-F.Extra v offset) is = sym (S.rolls-Extra v offset) ∙ is
layer_itself s (Stmt-F.Divide v op a b) is =
    ap (λ z. S.Divide v op z (with_all own b)) (with_itself a)
    ∙ ap (S.Divide v op a) (with_itself b)
    ∙ sym (S.rolls-Divide v op a b)
    ∙ is
layer_itself s y is = refl

-- A statement with its own target, and each variable as itself.
pub changed_itself : (s : Stmt) → changed (λ v. v) own s ≡ s
changed_itself s = layer_itself s (out-Stmt s) (roll-out-Stmt s)

-- The parts of an assignment.
pub assign_is : (v : ℕ) (e : Expr) → IsAssign v e (S.Assign v e)
assign_is v e =
    let is = out_is (S.Assign v e) (Stmt-F.Assign v e) (S.rolls-Assign v e) in
    record { action = ap layer_action is; target = ap layer_target is; args = ap layer_args is }
