-- When the blocks of a target do what the blocks of a source do. At each point each source variable that is needed is
-- seen through an expression over the target's variables: where it has a value, the expression has the same one. This
-- project's own.
use Rattle.std.specs.Prelude.{◌≡◌, ◌≢◌, ℕ, ◌<◌, true, List, [], ◌∷◌, Option, Some, None, ◌⊎◌}
use Rattle.pcode_model.specs.declared.listing.Listing.{Listing}
use Rattle.pcode_model.specs.Spaces.{put}
use Rattle.pcode_model.specs.World.{Entry}
use Rattle.machine.specs.Trace.{Undefined}
use Rattle.machine.specs.Machine.{after}
use Rattle.cmeaning.specs.declared.tree.Expr.{Expr}
use Rattle.cmeaning.specs.declared.tree.Expr.TheVariants as E
use Rattle.cmeaning.specs.declared.tree.Stmt.{Stmt}
use Rattle.cmeaning.specs.declared.tree.Stmt.TheVariants as S
use Rattle.cmeaning.specs.Value.{value_of}
use Rattle.cmeaning.specs.Do.{Local, values_of}
use Rattle.blockcode.specs.declared.code.Exit.TheVariants as X
use Rattle.parts.specs.Exprs.{Env, all_of, widths_of, Below}
use Rattle.parts.specs.Stmts.{Action, Sets, Loads, Calls, Extras, Goes, action_of, target_of, args_of, put_into, act}
use Rattle.edges.specs.Exits.{exit_args, Where, Onto, Out, leads, LeadsTo}
use Rattle.edges.specs.Run.{Blocks, Going, going, stmts_at, exit_at, returns_at, blocks_step, start_blocks}

-- source, target: the two runs.
-- to: the target's block for a block of the source.
-- at: how a variable of the source is seen at the beginning of a block of the source.
pub record Link : Type 0 where
  pub source : Blocks
  pub target : Blocks
  pub to : ℕ → ℕ
  pub at : ℕ → ℕ → Expr

-- Which variables of the source are needed, at a block with these statements left. Liveness is the least such set; any
-- set will do for which the conditions below hold, as "all values", or "what the sweep keeps".
abbrev pub Needs : Type 1
Needs = ℕ → List Stmt → ℕ → Type 0

-- What is known of each pair of states that the two runs come to, as that each variable holds a word of its width. It
-- is proved of the runs by themselves, and the conditions below may use it.
abbrev pub Known : Type 1
Known = Going → Going → Type 0

-- nothing
abbrev pub NothingKnown : Known
NothingKnown s t = Unit {0}

-- ---- what is seen

-- what is read is needed
abbrev pub Needed : (ℕ → ℕ) → (ℕ → Type 0) → Type 0
Needed count N = (v : ℕ) → 0 < count v → N v

-- through f, by the widths of the target
abbrev pub Sees : (ℕ → ℕ) → (ℕ → Expr) → (ℕ → Type 0) → Env → Env → Type 0
Sees ws f N s t = (v : ℕ) → N v → (n : ℕ) → s v ≡ Some n → value_of ws t (f v) ≡ Some n

-- the two stand in block b of the source, before these statements
pub record Meets
    (p : Link) (needs : Needs) (known : Known) (b : ℕ) (f : ℕ → Expr) (rest rest' : List Stmt) (x y : Local) : Type 0
  where
    pub over : x.world.over ≡ None
    pub world : x.world ≡ y.world
    pub knows : known (going b rest x) (going (p.to b) rest' y)
    pub sees : Sees p.target.widths f (needs b rest) x.env y.env

-- ---- copies: assignments, one after another

abbrev pub Copy : Type 0
Copy = ℕ × Expr

abbrev pub In : {A : Type 0} → A → List A → Type 0
In x [] = ⊥
In x (y ∷ ys) = (x ≡ y) ⊎ In x ys

-- for each x of a list, in order: g x takes the value of h x
abbrev pub copies_of : {A : Type 0} → (A → ℕ) → (A → ℕ) → List A → List Copy
copies_of g h [] = []
copies_of g h (x ∷ xs) = (g x, E.Var (h x)) ∷ copies_of g h xs

-- before other statements
abbrev pub laid : List Copy → List Stmt → List Stmt
laid [] rest = rest
laid (c ∷ cs) rest = S.Assign c.0 c.1 ∷ laid cs rest

abbrev pub if_some : Option ℕ → (ℕ → Option Env) → Option Env
if_some None next = None
if_some (Some n) next = next n

-- what the variables hold after them, where each has a value
abbrev pub copied : (ℕ → ℕ) → List Copy → Env → Option Env
copied ws [] t = Some t
copied ws (c ∷ cs) t = if_some (value_of ws t c.1) (λ n. copied ws cs (put t c.0 (Some n)))

-- ---- the steps

-- Both do the same, and what is needed afterwards is seen. A call returns in both or in none.
pub record BothDo
    (p : Link) (needs : Needs) (known : Known) (b : ℕ) (f f' : ℕ → Expr) (a a' : Stmt) (rest rest' : List Stmt)
    : Type 0
  where
    pub action : action_of a ≡ action_of a'
    pub returns : (callee : ℕ)
        → action_of a ≡ Calls callee
        → returns_at p.source b rest callee ≡ returns_at p.target (p.to b) rest' callee
    pub widths : widths_of p.source.widths (args_of a) ≡ widths_of p.target.widths (args_of a')
    pub values : (x y : Local)
        → Meets p needs known b f (a ∷ rest) (a' ∷ rest') x y
        → Below (all_of (values_of p.source.widths x.env (args_of a)))
        (all_of (values_of p.target.widths y.env (args_of a')))
    pub after : (x y : Local)
        → Meets p needs known b f (a ∷ rest) (a' ∷ rest') x y
        → (value : ℕ → ℕ)
        → Sees p.target.widths f' (needs b rest) (put_into p.source.widths (target_of a) value x.env)
        (put_into p.target.widths (target_of a') value y.env)

-- it changes its target and nothing else
abbrev pub IsQuiet : Action → Type 0
IsQuiet Sets = Unit {0}
IsQuiet (Loads space) = Unit {0}
IsQuiet (Extras offset) = Unit {0}
IsQuiet action = ⊥

-- what the source's statement gives its target
abbrev pub Gives : Listing → Blocks → Stmt → Local → (ℕ → ℕ) → Type 0
Gives l k a x value =
    (ns : List ℕ)
    × (all_of (values_of k.widths x.env (args_of a)) ≡ Some ns)
    × (act l (λ c. true) (action_of a) (widths_of k.widths (args_of a)) ns x.left x.world ≡ Goes value x.left x.world)

-- The source does what the target doesn't.
pub record SourceDoes
    (l : Listing) (p : Link) (needs : Needs) (known : Known) (b : ℕ) (f f' : ℕ → Expr) (a : Stmt)
    (rest rest' : List Stmt) : Type 0
  where
    pub quiet : IsQuiet (action_of a)
    pub after : (x y : Local)
        → Meets p needs known b f (a ∷ rest) rest' x y
        → (value : ℕ → ℕ)
        → Gives l p.source a x value
        → Sees p.target.widths f' (needs b rest) (put_into p.source.widths (target_of a) value x.env) y.env

-- The target assigns what the source doesn't, and each of these assignments has a value.
pub record TargetDoes
    (p : Link) (needs : Needs) (known : Known) (b : ℕ) (f f' : ℕ → Expr) (cs : List Copy) (rest rest' : List Stmt)
    : Type 0
  where
    pub after : (x y : Local)
        → Meets p needs known b f rest (laid cs rest') x y
        → (t : Env) × (copied p.target.widths cs y.env ≡ Some t) × Sees p.target.widths f' (needs b rest) x.env t

-- The target does what the source doesn't, and changes nothing but its target. Where the source goes on, it has a value.
pub record TargetAlso
    (l : Listing) (p : Link) (needs : Needs) (known : Known) (b : ℕ) (f f' : ℕ → Expr) (a' : Stmt)
    (rest rest' : List Stmt) : Type 0
  where
    pub quiet : IsQuiet (action_of a')
    pub after : (x y : Local)
        → Meets p needs known b f rest (a' ∷ rest') x y
        → (blocks_step l p.source (going b rest x)).local.world.over ≢ Some Undefined
        → (value : ℕ → ℕ)
        × Gives l p.target a' y value
        × Sees p.target.widths f' (needs b rest) x.env (put_into p.target.widths (target_of a') value y.env)

abbrev pub moved : (ℕ → ℕ) → Where → Where
moved to (Onto b) = Onto (to b)
moved to (Out e) = Out e

-- After the copies t holds what the exit reads, and over each edge what is needed behind it.
pub record Leaving (p : Link) (needs : Needs) (b : ℕ) (cs : List Copy) (x y : Local) (t : Env) : Type 0 where
  pub copied : copied p.target.widths cs y.env ≡ Some t
  pub values : Below (all_of (values_of p.source.widths x.env (exit_args (exit_at p.source b))))
      (all_of (values_of p.target.widths t (exit_args (exit_at p.target (p.to b)))))
  pub onward : (c : ℕ)
      → LeadsTo (exit_at p.source b) c
      → Sees p.target.widths (p.at c) (needs c (stmts_at p.source c)) (λ v. x.env (p.source.through b c v))
      (λ v. t (p.target.through (p.to b) (p.to c) v))

-- Both leave the block the same way, the target after some copies.
pub record BothLeave (p : Link) (needs : Needs) (known : Known) (b : ℕ) (f : ℕ → Expr) (cs : List Copy) : Type 0 where
  pub leads : (ns : List ℕ) → leads (exit_at p.target (p.to b)) ns ≡ moved p.to (leads (exit_at p.source b) ns)
  pub after : (x y : Local)
      → Meets p needs known b f [] (laid cs []) x y
      → (t : Env) × Leaving p needs b cs x y t

-- What is left of a block of the source, and what stands for it. The map goes from f to f' at each step.
pub data Follows (l : Listing) (p : Link) (needs : Needs) (known : Known) (b : ℕ)
    : (ℕ → Expr) → List Stmt → List Stmt → Type 0
  where
    Ends : (f : ℕ → Expr) (cs : List Copy)
        → BothLeave p needs known b f cs
        → Follows l p needs known b f [] (laid cs [])
    Kept : (f f' : ℕ → Expr) (a a' : Stmt) (rest rest' : List Stmt)
        → BothDo p needs known b f f' a a' rest rest'
        → Follows l p needs known b f' rest rest'
        → Follows l p needs known b f (a ∷ rest) (a' ∷ rest')
    Gone : (f f' : ℕ → Expr) (a : Stmt) (rest rest' : List Stmt)
        → SourceDoes l p needs known b f f' a rest rest'
        → Follows l p needs known b f' rest rest'
        → Follows l p needs known b f (a ∷ rest) rest'
    More : (f f' : ℕ → Expr) (cs : List Copy) (rest rest' : List Stmt)
        → TargetDoes p needs known b f f' cs rest rest'
        → Follows l p needs known b f' rest rest'
        → Follows l p needs known b f rest (laid cs rest')
    Also : (f f' : ℕ → Expr) (a' : Stmt) (rest rest' : List Stmt)
        → TargetAlso l p needs known b f f' a' rest rest'
        → Follows l p needs known b f' rest rest'
        → Follows l p needs known b f rest (a' ∷ rest')

-- ---- the whole

-- each block of the target does what its block of the source does
abbrev pub BlocksFollow : Listing → Link → Needs → Known → Type 0
BlocksFollow l p needs known =
    (b : ℕ) → Follows l p needs known b (p.at b) (stmts_at p.source b) (stmts_at p.target (p.to b))

-- the target stands for the source
pub record StandsFor (l : Listing) (p : Link) (needs : Needs) (known : Known) : Type 0 where
  pub entry : p.to p.source.entry ≡ p.target.entry
  pub first : (e : Entry)
      → Sees p.target.widths (p.at p.source.entry) (needs p.source.entry (stmts_at p.source p.source.entry))
      (p.source.first l e) (p.target.first l e)
  pub blocks : BlocksFollow l p needs known

-- The same where the target begins in an empty block of its own, which jumps to the source's entry.
pub record StandsLate (l : Listing) (p : Link) (needs : Needs) (known : Known) : Type 0 where
  pub empty : stmts_at p.target p.target.entry ≡ []
  pub jumps : exit_at p.target p.target.entry ≡ X.Jump (p.to p.source.entry)
  pub first : (e : Entry)
      → Sees p.target.widths (p.at p.source.entry) (needs p.source.entry (stmts_at p.source p.source.entry))
      (p.source.first l e)
      (λ v. p.target.first l e (p.target.through p.target.entry (p.to p.source.entry) v))
  pub blocks : BlocksFollow l p needs known

-- it is known of all pairs of states that the two runs come to from an entry
abbrev pub IsKnown : Listing → Link → Known → Entry → Type 0
IsKnown l p known e =
    (i j : ℕ)
    → known (after (blocks_step l p.source) i (start_blocks l p.source e))
    (after (blocks_step l p.target) j (start_blocks l p.target e))
