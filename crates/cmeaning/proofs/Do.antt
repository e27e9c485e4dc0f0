-- What each simple statement does.
use Rattle.std.proofs.Common.{◌≡◌, ℕ, List, Bool, Option, Some, None, refl, sym, ap, ◌∙◌}
use Rattle.machine.specs.Trace.{Call, Other}
use Rattle.bits_core.specs.Value.{divide_value}
use Rattle.pcode_model.specs.World.{recorded}
use Rattle.pcode_model.specs.declared.listing.Listing.{Listing}
use Rattle.cmeaning.specs.declared.tree.StatementDivision.{StatementDivision}
use Rattle.cmeaning.specs.declared.tree.Expr.{Expr}
use Rattle.cmeaning.specs.declared.tree.Arm.{Arm}
use Rattle.cmeaning.specs.declared.tree.Stmt.{Stmt, out-Stmt, roll-Stmt}
use Rattle.cmeaning.specs.declared.tree.Stmt.TheOpen.{Stmt-F}
use Rattle.cmeaning.specs.declared.tree.Stmt.TheViews.{out-roll-Stmt}
use Rattle.cmeaning.specs.declared.tree.Stmt.TheVariants as S
use Rattle.cmeaning.specs.Value.{width_of, value_of}
use Rattle.cmeaning.specs.Do.{Local, in_world, assigned, with_word, with_words, values_of, accessed, loaded, stored, asks, called, divided, divide_of, left_word, callee_in, callee_of, do_layer, do_simple}

-- of a statement that is a layer
of_layer : (l : Listing) (ws : ℕ → ℕ) (returns : ℕ → Bool) (s : Stmt) (y : Stmt-F Stmt Arm) (x : Local)
    → roll-Stmt y ≡ s
    → do_simple l ws returns s x ≡ do_layer l ws returns y x
of_layer l ws returns s y x is = ap (λ z. do_simple l ws returns z x) (sym is)
    ∙ ap (λ z. do_layer l ws returns z x) (out-roll-Stmt y)

layer_by_callee : (l : Listing) (ws : ℕ → ℕ) (r q : ℕ → Bool) (y : Stmt-F Stmt Arm) (x : Local)
    → ((a : ℕ) → callee_in y ≡ Some a → r a ≡ q a) → do_layer l ws r y x ≡ do_layer l ws q y x
layer_by_callee l ws r q (Stmt-F.Assign v e) x same = refl
layer_by_callee l ws r q (Stmt-F.Load v space address) x same = refl
layer_by_callee l ws r q (Stmt-F.Store space address e) x same = refl
layer_by_callee l ws r q (Stmt-F.Call v callee args) x same =
    let call = λ (b : Bool) (ns : List ℕ). called l ws v b (in_world (recorded (Call callee ns) x.world) x) in
    ap (λ b. with_words (values_of ws x.env args) x (call b)) (same callee refl)
layer_by_callee l ws r q (Stmt-F.CallInd v callee args) x same = refl
layer_by_callee l ws r q (Stmt-F.Other v index args) x same = refl
layer_by_callee l ws r q (Stmt-F.Extra v offset) x same = refl
layer_by_callee l ws r q (Stmt-F.Divide v op a b) x same = refl
layer_by_callee l ws r q y x same = refl

-- Of the callees it counts only whether the one that the statement calls returns.
pub do_by_callee : (l : Listing) (ws : ℕ → ℕ) (r q : ℕ → Bool) (s : Stmt) (x : Local)
    → ((a : ℕ) → callee_of s ≡ Some a → r a ≡ q a) → do_simple l ws r s x ≡ do_simple l ws q s x
do_by_callee l ws r q s x same = layer_by_callee l ws r q (out-Stmt s) x same

pub callee_of_assign : (v : ℕ) (e : Expr) → callee_of (S.Assign v e) ≡ None
callee_of_assign v e = ap callee_of (sym (S.rolls-Assign v e)) ∙ ap callee_in (out-roll-Stmt (Stmt-F.Assign v e))

pub do_assign : (l : Listing) (ws : ℕ → ℕ) (returns : ℕ → Bool) (v : ℕ) (e : Expr) (x : Local)
    → do_simple l ws returns (S.Assign v e) x ≡ with_word (value_of ws x.env e) x (λ n. assigned v n x)
do_assign l ws returns v e x = of_layer l ws returns (S.Assign v e) (Stmt-F.Assign v e) x (S.rolls-Assign v e)

pub do_load : (l : Listing) (ws : ℕ → ℕ) (returns : ℕ → Bool) (v : ℕ) (space : Option (List ℕ)) (address : Expr)
    (x : Local)
    → do_simple l ws returns (S.Load v space address) x
    ≡ with_word (value_of ws x.env address) x
    (λ a. assigned v (loaded l (accessed l space) (ws v) a x.world.memory) x)
do_load l ws returns v space address x =
    of_layer l ws returns (S.Load v space address) (Stmt-F.Load v space address) x (S.rolls-Load v space address)

pub do_store : (l : Listing) (ws : ℕ → ℕ) (returns : ℕ → Bool) (space : Option (List ℕ)) (address e : Expr) (x : Local)
    → do_simple l ws returns (S.Store space address e) x
    ≡ with_word (value_of ws x.env address) x
    (λ a. with_word (value_of ws x.env e) x (λ n. stored l (accessed l space) (width_of ws e) a n x))
do_store l ws returns space address e x =
    of_layer l ws returns (S.Store space address e) (Stmt-F.Store space address e) x (S.rolls-Store space address e)

pub do_call : (l : Listing) (ws : ℕ → ℕ) (returns : ℕ → Bool) (v : Option ℕ) (callee : ℕ) (args : List Expr) (x : Local)
    → do_simple l ws returns (S.Call v callee args) x
    ≡ with_words (values_of ws x.env args) x
    (λ ns. called l ws v (returns callee) (in_world (recorded (Call callee ns) x.world) x))
do_call l ws returns v callee args x =
    of_layer l ws returns (S.Call v callee args) (Stmt-F.Call v callee args) x (S.rolls-Call v callee args)

pub do_call_ind : (l : Listing) (ws : ℕ → ℕ) (returns : ℕ → Bool) (v : Option ℕ) (callee : Expr) (args : List Expr)
    (x : Local)
    → do_simple l ws returns (S.CallInd v callee args) x
    ≡ with_word (value_of ws x.env callee) x
    (λ a. with_words (values_of ws x.env args) x
    (λ ns. asks l ws v (in_world (recorded (Call a ns) x.world) x)))
do_call_ind l ws returns v callee args x =
    of_layer l ws returns (S.CallInd v callee args) (Stmt-F.CallInd v callee args) x (S.rolls-CallInd v callee args)

pub do_other : (l : Listing) (ws : ℕ → ℕ) (returns : ℕ → Bool) (v : Option ℕ) (index : ℕ) (args : List Expr) (x : Local)
    → do_simple l ws returns (S.Other v index args) x
    ≡ with_words (values_of ws x.env args) x (λ ns. asks l ws v (in_world (recorded (Other index ns) x.world) x))
do_other l ws returns v index args x =
    of_layer l ws returns (S.Other v index args) (Stmt-F.Other v index args) x (S.rolls-Other v index args)

pub do_extra : (l : Listing) (ws : ℕ → ℕ) (returns : ℕ → Bool) (v offset : ℕ) (x : Local)
    → do_simple l ws returns (S.Extra v offset) x ≡ assigned v (left_word l offset (ws v) x.left) x
do_extra l ws returns v offset x =
    of_layer l ws returns (S.Extra v offset) (Stmt-F.Extra v offset) x (S.rolls-Extra v offset)

pub do_divide : (l : Listing) (ws : ℕ → ℕ) (returns : ℕ → Bool) (v : ℕ) (op : StatementDivision) (a b : Expr)
    (x : Local)
    → do_simple l ws returns (S.Divide v op a b) x
    ≡ with_word (value_of ws x.env a) x
    (λ m. with_word (value_of ws x.env b) x
    (λ n. divided v (divide_value (divide_of op) (width_of ws a) m n) x))
do_divide l ws returns v op a b x =
    of_layer l ws returns (S.Divide v op a b) (Stmt-F.Divide v op a b) x (S.rolls-Divide v op a b)
