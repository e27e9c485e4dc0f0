-- A stretch of statements is carried out.
use Rattle.std.proofs.Common.{◌≡◌, ℕ, zero, suc, Bool, List, [], ◌∷◌, ◌++◌, length, drop, refl, sym, ap, ◌∙◌, subst, Option, Some, None}
use Rattle.std.specs.Prelude.{slice_get}
use Rattle.machine.specs.Trace.{End}
use Rattle.machine.specs.Machine.{after}
use Rattle.machine.proofs.Machine.{stands}
use Rattle.pcode_model.specs.declared.listing.Listing.{Listing}
use Rattle.pcode_model.specs.World.{unless_over}
use Rattle.cmeaning.specs.declared.tree.Stmt.{Stmt}
use Rattle.cmeaning.specs.Do.{Local, do_simple}
use Rattle.blockcode.specs.declared.code.Block.{Block}
use Rattle.blockcode.specs.declared.code.Code.{Code}
use Rattle.blockcode.specs.Run.{CodeState, at, widths, call_returns, pass, pass_in, code_step}

-- What stands in the first of two lists stands at the same place of both.
pub get_in_front : {A : Type 0} (xs ys : List A) (n : ℕ) (x : A)
    → slice_get xs n ≡ Some x
    → slice_get (xs ++ ys) n ≡ Some x
get_in_front [] ys n x e = absurd (cc)
get_in_front (y ∷ xs) ys zero x e = e
get_in_front (y ∷ xs) ys (suc n) x e = get_in_front xs ys n x e

-- What is left behind the first ones begins with the next one.
pub dropped : {A : Type 0} (xs : List A) (n : ℕ) (x : A) → slice_get xs n ≡ Some x → drop n xs ≡ x ∷ drop (suc n) xs
dropped [] n x e = absurd (cc)
dropped (y ∷ ys) zero x e = cc
dropped (y ∷ ys) (suc n) x e = dropped ys n x e

-- The first of what is left is the one at that place.
pub get_of_drop : {A : Type 0} (xs : List A) (n : ℕ) (x : A) (rest : List A)
    → drop n xs ≡ x ∷ rest
    → slice_get xs n ≡ Some x
get_of_drop [] zero x rest e = absurd (cc)
get_of_drop [] (suc n) x rest e = absurd (cc)
get_of_drop (y ∷ ys) zero x rest e = cc
get_of_drop (y ∷ ys) (suc n) x rest e = get_of_drop ys n x rest e

-- And behind it is what is left behind one more.
pub rest_of_drop : {A : Type 0} (xs : List A) (n : ℕ) (x : A) (rest : List A)
    → drop n xs ≡ x ∷ rest
    → drop (suc n) xs ≡ rest
rest_of_drop [] zero x rest e = absurd (cc)
rest_of_drop [] (suc n) x rest e = absurd (cc)
rest_of_drop (y ∷ ys) zero x rest e = cc
rest_of_drop (y ∷ ys) (suc n) x rest e = rest_of_drop ys n x rest e

-- Statements in a row, where a call in front of these others returns or not; after an end nothing more is done.
abbrev pub run_all : Listing → (ℕ → ℕ) → (List Stmt → Bool) → List Stmt → Local → Local
run_all l ws returns [] x = x
run_all l ws returns (a ∷ rest) x =
    run_all l ws returns rest (unless_over x.world.over x (do_simple l ws (λ c. returns rest) a x))

pub run_over : (l : Listing) (ws : ℕ → ℕ) (returns : List Stmt → Bool) (ss : List Stmt) (x : Local) (h : End)
    → x.world.over ≡ Some h → run_all l ws returns ss x ≡ x
run_over l ws returns [] x h e = refl
run_over l ws returns (a ∷ ss) x h e =
    ap (λ o. run_all l ws returns ss (unless_over o x (do_simple l ws (λ c. returns ss) a x))) e
    ∙ run_over l ws returns ss x h e

-- statements of a block behind which these others stand
abbrev pub returns_in : Block → List Stmt → List Stmt → Bool
returns_in b rest ss = call_returns (ss ++ rest) b.exit

-- in the block, before these statements
pub record Stands (k : Code) (b : Block) (rest : List Stmt) (t : CodeState) : Type 0 where
  pub block : slice_get k.blocks t.block ≡ Some b
  pub left : t.local.world.over ≡ None → drop t.position b.body ≡ rest

pub record Arrived (k : Code) (b : Block) (rest : List Stmt) (x : Local) (t : CodeState) : Type 0 where
  pub local : t.local ≡ x
  pub here : Stands k b rest t

module _ (l : Listing) (k : Code) where
  -- a run that is over stands still
  pub still : (t : CodeState) (h : End) → t.local.world.over ≡ Some h → code_step l k t ≡ t
  still t h e = ap (λ o. unless_over o t (pass_in l (widths k.variables) (slice_get k.blocks t.block) t)) e

  -- a step of a run that goes on, in a block in front of these statements
  pub step_in : (t : CodeState) (b : Block) (ss : List Stmt)
      → t.local.world.over ≡ None
      → slice_get k.blocks t.block ≡ Some b
      → drop t.position b.body ≡ ss
      → code_step l k t ≡ pass l (widths k.variables) ss b.exit t
  step_in t b ss go get here =
      ap (λ o. unless_over o t (pass_in l (widths k.variables) (slice_get k.blocks t.block) t)) go
      ∙ ap (λ c. pass_in l (widths k.variables) c t) get
      ∙ ap (λ c. pass l (widths k.variables) c b.exit t) here

  module _ (b : Block) (rest : List Stmt) where
    abbrev ran : List Stmt → Local → Local
    ran ss x = run_all l (widths k.variables) (returns_in b rest) ss x

    arrived_at : (ss : List Stmt) (t : CodeState) (o : Option End)
        → t.local.world.over ≡ o
        → Stands k b (ss ++ rest) t
        → Arrived k b rest (ran ss t.local) (after (code_step l k) (length ss) t)
    arrived_at [] t o e h = record { local = refl; here = h }
    arrived_at (a ∷ ss) t None e h =
        let one = do_simple l (widths k.variables) (λ c. returns_in b rest ss) a t.local in
        let t1 : CodeState = at t.block (suc t.position) one in
        let left : drop t.position b.body ≡ a ∷ (ss ++ rest) = h.left e in
        let moved : code_step l k t ≡ t1 = step_in t b (a ∷ (ss ++ rest)) e h.block left in
        let same : ran ss t1.local ≡ ran (a ∷ ss) t.local = sym (ap (λ o. ran ss (unless_over o t.local one)) e) in
        let there = arrived_at ss t1 t1.local.world.over refl
        (record { block = h.block; left = λ g. rest_of_drop b.body t.position a (ss ++ rest) left }) in
        let P : CodeState → Type 0 = λ u. Arrived k b rest (ran ss t1.local) (after (code_step l k) (length ss) u) in
        let Q : Local → Type 0 = λ x. Arrived k b rest x (after (code_step l k) (length (a ∷ ss)) t) in
        subst Q same (subst P (sym moved) there)
    arrived_at (a ∷ ss) t (Some x) e h =
        let here = stands (code_step l k) t (still t x e) (length (a ∷ ss)) in
        let P : CodeState → Type 0 = λ u. Arrived k b rest (ran (a ∷ ss) t.local) u in
        subst P (sym here) (record {
          local = sym (run_over l (widths k.variables) (returns_in b rest) (a ∷ ss) t.local x e);
          here = record { block = h.block; left = λ f. absurd (cc) };
        })

    -- As many steps as there are statements carry them out.
    pub arrives : (ss : List Stmt) (t : CodeState)
        → Stands k b (ss ++ rest) t
        → Arrived k b rest (ran ss t.local) (after (code_step l k) (length ss) t)
    arrives ss t h = arrived_at ss t t.local.world.over refl h
