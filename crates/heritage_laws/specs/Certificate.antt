-- When a function in SSA form stands for a code of blocks: at each point of the code some variables have a value of the
-- function, and what the block's ops say is what its statements say, over these values.
use Rattle.std.specs.Prelude.{◌≡◌, ◌≢◌, ℕ, ◌<◌, List, [], ◌∷◌, ◌++◌, ◌⊎◌, ◌↔◌, length, map, Option, Some, None, slice_get}
use Rattle.bits_core.specs.declared.word.Word.{Word}
use Rattle.pcode_model.specs.declared.listing.Listing.{Listing}
use Rattle.pcode_model.specs.declared.storage.ParamStorage.{ParamStorage}
use Rattle.pcode_model.specs.Spaces.{put}
use Rattle.cmeaning.specs.declared.tree.Expr.{Expr}
use Rattle.cmeaning.specs.declared.tree.Expr.TheVariants as E
use Rattle.cmeaning.specs.declared.tree.Stmt.{Stmt}
use Rattle.cmeaning.specs.declared.tree.Stmt.TheVariants as S
use Rattle.cmeaning.specs.Value.{width_of}
use Rattle.blockcode.specs.declared.code.Block.{Block}
use Rattle.blockcode.specs.declared.code.Exit.{Exit}
use Rattle.blockcode.specs.declared.code.Exit.TheVariants as C
use Rattle.blockcode.specs.declared.code.Variable.{Variable}
use Rattle.blockcode.specs.declared.code.Code.{Code}
use Rattle.blockcode.specs.Run.{widths}
use Rattle.parts.specs.Exprs.{One, Two, one, two}
use Rattle.parts.specs.Stmts.{Sets, action_of, target_of, args_of, map_target, IsAssign}
use Rattle.edges.specs.Exits.{exit_args}
use Rattle.node_lists.specs.Chains.{IsIn}
use Rattle.opgraph.specs.Graph.{OpRow, Graph, op_at, block_at, inputs_in}
use Rattle.ssa_model.specs.declared.form.SsaExit.{SsaExit}
use Rattle.ssa_model.specs.declared.form.Parts.{Parts}
use Rattle.ssa_model.specs.Roles.{Role, Starts, role_of}
use Rattle.ssa_model.specs.Outline.{role_at, width_at, exit_at, predecessors_at, Leads}
use Rattle.ssa_model.specs.Paths.{IsJoin}
use Rattle.ssa_model.specs.Formed.{exit_role}
use Rattle.ssa_model.specs.Lines.{line_by, input, exit_over}

-- which value of the function a variable of the code has, where one is known
abbrev pub Table : Type 0
Table = ℕ → Option ℕ

-- the target of a statement has a value now, if there is one
abbrev pub gets : Table → Option ℕ → ℕ → Table
gets t None i = t
gets t (Some v) i = put t v (Some i)

-- ---- ops

-- the op says the statement over whatever values it reads, and it reads these
pub record Says (l : Listing) (g : Graph) (i : ℕ) (a : List ℕ → Stmt) (vs : List ℕ) : Type 0 where
  pub row : OpRow
  pub is : op_at g i ≡ Some row
  pub line : (us : List ℕ) → line_by l i us (role_of row.code) row.width ≡ a us ∷ []
  pub inputs : row.inputs ≡ vs

-- It is made as the last one, or an equal one that stands before in the block is taken again.
abbrev pub IsMade : ℕ → (before made ops : List ℕ) → Type 0
IsMade i before made ops = (ops ≡ made ++ i ∷ []) ⊎ ((ops ≡ made) × IsIn i (before ++ made))

-- the second statement is the first one with the value i as its target and these values as its arguments
pub record IsOver (a line : Stmt) (i : ℕ) (us : List ℕ) : Type 0 where
  pub action : action_of line ≡ action_of a
  pub target : target_of line ≡ map_target (λ v. i) (target_of a)
  pub args : args_of line ≡ map E.Var us

-- the op does what the statement does, with these values as its arguments
pub record Carries (l : Listing) (g : Graph) (ws : ℕ → ℕ) (a : Stmt) (i : ℕ) (vs : List ℕ) : Type 0 where
  pub line : List ℕ → Stmt
  pub says : Says l g i line vs
  pub parts : (us : List ℕ) → length us ≡ length vs → IsOver a (line us) i us
  pub width : (v : ℕ) → target_of a ≡ Some v → width_at (op_at g) i ≡ ws v

-- the statement of a COPY
abbrev pub copies : ℕ → List ℕ → Stmt
copies i us = S.Assign i (input us 0)

-- a COPY of x reads x itself, or what x is a COPY of
abbrev pub IsSource : Listing → Graph → (x y : ℕ) → Type 0
IsSource l g x y = (x ≡ y) ⊎ Says l g x (copies x) (y ∷ [])

-- ---- expressions, by the widths of the code's variables, the table, and the ops that stand before in the block

-- Some ops, and which value they make the expression.
pub data Makes (l : Listing) (g : Graph) (ws : ℕ → ℕ) (t : Table) : List ℕ → Expr → List ℕ → ℕ → Type 0 where
  Reads : (before : List ℕ) (x v : ℕ)
      → t x ≡ Some v
      → width_at (op_at g) v ≡ ws x
      → Makes l g ws t before (E.Var x) [] v
  OfConst : (before ops : List ℕ) (c : Word) (i : ℕ)
      → Says l g i (λ us. S.Assign i (E.Const c)) []
      → width_at (op_at g) i ≡ width_of ws (E.Const c)
      → IsMade i before [] ops
      → Makes l g ws t before (E.Const c) ops i
  OfOne : (before made ops : List ℕ) (k : One) (a : Expr) (x i : ℕ)
      → Makes l g ws t before a made x
      → Says l g i (λ us. S.Assign i (one k (input us 0))) (x ∷ [])
      → width_at (op_at g) i ≡ width_of ws (one k a)
      → IsMade i before made ops
      → Makes l g ws t before (one k a) ops i
  OfTwo : (before left right ops : List ℕ) (k : Two) (a b : Expr) (x y i : ℕ)
      → Makes l g ws t before a left x
      → Makes l g ws t (before ++ left) b right y
      → Says l g i (λ us. S.Assign i (two k (input us 0) (input us 1))) (x ∷ y ∷ [])
      → width_at (op_at g) i ≡ width_of ws (two k a b)
      → IsMade i before (left ++ right) ops
      → Makes l g ws t before (two k a b) ops i

-- the same of several, one after another
pub data MakesAll (l : Listing) (g : Graph) (ws : ℕ → ℕ) (t : Table)
    : List ℕ → List Expr → List ℕ → List ℕ → Type 0
  where
    NoMore : (before : List ℕ) → MakesAll l g ws t before [] [] []
    Next : (before made ops : List ℕ) (e : Expr) (es : List Expr) (v : ℕ) (vs : List ℕ)
        → Makes l g ws t before e made v
        → MakesAll l g ws t (before ++ made) es ops vs
        → MakesAll l g ws t before (e ∷ es) (made ++ ops) (v ∷ vs)

-- ---- statements

abbrev pub IsLone : Expr → Type 0
IsLone e = ((x : ℕ) × (e ≡ E.Var x)) ⊎ ((c : Word) × (e ≡ E.Const c))

-- From one table to another the ops do what the statements do. A lone variable or constant is assigned by a COPY.
pub data Renders (l : Listing) (g : Graph) (ws : ℕ → ℕ) : Table → List ℕ → List Stmt → List ℕ → Table → Type 0 where
  Finish : (t : Table) (before : List ℕ) → Renders l g ws t before [] [] t
  Assigns : (t t' : Table) (before made ops : List ℕ) (a : Stmt) (rest : List Stmt) (v : ℕ) (e : Expr) (x : ℕ)
      → IsAssign v e a
      → (IsLone e → ⊥)
      → Makes l g ws t before e made x
      → Renders l g ws (put t v (Some x)) (before ++ made) rest ops t'
      → Renders l g ws t before (a ∷ rest) (made ++ ops) t'
  Copied : (t t' : Table) (before made ops : List ℕ) (a : Stmt) (rest : List Stmt) (v : ℕ) (e : Expr) (x y i : ℕ)
      → IsAssign v e a
      → IsLone e
      → Makes l g ws t before e made x
      → IsSource l g x y
      → Says l g i (copies i) (y ∷ [])
      → Renders l g ws (put t v (Some i)) (before ++ (made ++ i ∷ [])) rest ops t'
      → Renders l g ws t before (a ∷ rest) ((made ++ i ∷ []) ++ ops) t'
  Does : (t t' : Table) (before made ops : List ℕ) (a : Stmt) (rest : List Stmt) (i : ℕ) (vs : List ℕ)
      → action_of a ≢ Sets
      → MakesAll l g ws t before (args_of a) made vs
      → Carries l g ws a i vs
      → Renders l g ws (gets t (target_of a) i) (before ++ (made ++ i ∷ [])) rest ops t'
      → Renders l g ws t before (a ∷ rest) ((made ++ i ∷ []) ++ ops) t'

-- ---- exits

-- the exit over these values of its arguments
abbrev pub exit_on : Exit → List ℕ → Exit
exit_on (C.Return None) vs = C.Return None
exit_on (C.Return (Some e)) vs = C.Return (Some (input vs 0))
exit_on (C.Jump b) vs = C.Jump b
exit_on (C.Test e taken other) vs = C.Test (input vs 0) taken other
exit_on (C.Switch e arms) vs = C.Switch (input vs 0) arms
exit_on C.Stop vs = C.Stop

-- the exit's op, which reads these values, stands last
abbrev pub Closes : Graph → Option Role → (made vs ops : List ℕ) → Type 0
Closes g None made vs ops = ops ≡ made
Closes g (Some role) made vs ops =
    (i : ℕ) × (ops ≡ made ++ i ∷ []) × (role_at (op_at g) i ≡ Some role) × (inputs_in (op_at g i) ≡ vs)

pub record Leaves (l : Listing) (g : Graph) (ws : ℕ → ℕ) (t : Table) (before : List ℕ) (x : Exit) (e : SsaExit) (ops : List ℕ)
    : Type 0
  where
    pub made : List ℕ
    pub vs : List ℕ
    pub args : MakesAll l g ws t before (exit_args x) made vs
    pub same : (us : List ℕ) → length us ≡ length vs → exit_over e us ≡ exit_on x us
    pub closes : Closes g (exit_role e) made vs ops

-- ---- blocks

-- The ops of a block: what the block begins with, what its statements say, and what its exit reads.
pub record RendersBlock (l : Listing) (g : Graph) (ws : ℕ → ℕ) (heads : List ℕ) (b : ℕ) (x : Block) (e : SsaExit) (t t' : Table)
    : Type 0
  where
    pub body : List ℕ
    pub last : List ℕ
    pub ops : block_at g b ≡ heads ++ (body ++ last)
    pub renders : Renders l g ws t heads x.body body t'
    pub leaves : Leaves l g ws t' (heads ++ body) x.exit e last

-- a MULTIEQUAL, or at the entry an entry value
abbrev pub IsHead : (entry b : ℕ) → OpRow → Type 0
IsHead entry b r =
    IsJoin (role_of r.code)
    ⊎ ((b ≡ entry) × ((s : ParamStorage) × (role_of r.code ≡ Starts s)) × (r.inputs ≡ []))

-- ---- the whole

-- at, now: the tables at the beginnings and the ends of the blocks.
-- heads: the entry values and MULTIEQUALs of the blocks.
-- rank: by which each block but the entry has a predecessor before it.
pub record Tables : Type 0 where
  pub at : ℕ → Table
  pub now : ℕ → Table
  pub heads : ℕ → List ℕ
  pub rank : ℕ → ℕ

-- Over the edge from the predecessor at a place of the block a variable has the value v. A MULTIEQUAL of the block has
-- its input at this place, once it has one; another value is the one before the edge.
abbrev pub Passes : Graph → (heads : List ℕ) (place v : ℕ) → Option ℕ → Type 0
Passes g heads place v o =
    (IsIn v heads × ((x : ℕ) → slice_get (inputs_in (op_at g v)) place ≡ Some x → o ≡ Some x))
    ⊎ ((IsIn v heads → ⊥) × (o ≡ Some v))

-- the entry value stands for the parameter
pub record IsFirst (g : Graph) (v : ℕ) (x : Variable) : Type 0 where
  pub storage : ParamStorage
  pub parameter : x.storage ≡ Some storage
  pub role : role_at (op_at g) v ≡ Some (Starts storage)
  pub width : width_at (op_at g) v ≡ x.width.bytes

pub record Certified (l : Listing) (k : Code) (p : Parts) (c : Tables) : Type 0 where
  -- the blocks of both have the same numbers and exits, and both begin in the same block
  pub entry : p.entry.0 ≡ k.entry
  pub blocks : (b : ℕ) (x : Block)
      → slice_get k.blocks b ≡ Some x
      → (e : SsaExit)
      × (exit_at p.blocks b ≡ Some e)
      × RendersBlock l p.graph (widths k.variables) (c.heads b) b x e (c.at b) (c.now b)
  pub outside : (b : ℕ)
      → slice_get k.blocks b ≡ None
      → (exit_at p.blocks b ≡ None) × (block_at p.graph b ≡ [])
  pub predecessors : (b d : ℕ) → IsIn b (predecessors_at p.blocks d) ↔ Leads p.blocks b d
  -- what a block begins with, each of which some variable has there
  pub heads : (b v : ℕ) → IsIn v (c.heads b) → (r : OpRow) × (op_at p.graph v ≡ Some r) × IsHead k.entry b r
  pub own : (b v : ℕ) → IsIn v (c.heads b) → (a : ℕ) × (c.at b a ≡ Some v)
  -- at the entry a variable that has a value is a parameter, and over each edge tables fit
  pub first : (a v : ℕ)
      → c.at k.entry a ≡ Some v
      → IsIn v (c.heads k.entry)
      × ((x : Variable) × (slice_get k.variables a ≡ Some x) × IsFirst p.graph v x)
  pub edges : (b d place a v : ℕ)
      → slice_get (predecessors_at p.blocks d) place ≡ Some b
      → c.at d a ≡ Some v
      → Passes p.graph (c.heads d) place v (c.now b a)
  -- each block but the entry has a predecessor before it
  pub order : (d : ℕ) (x : Block)
      → slice_get k.blocks d ≡ Some x
      → d ≢ k.entry
      → (b : ℕ) × IsIn b (predecessors_at p.blocks d) × (c.rank b < c.rank d)
