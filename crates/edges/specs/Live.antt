-- Which variables are live at a point: in a block, before the statements that are left of it. When two of them
-- interfere, when blocks are strict, and when their run is defined. This is what the passes over blocks share. This
-- project's own.
use Rattle.std.specs.Prelude.{◌≡◌, ◌≢◌, ℕ, ◌<◌, List, [], ◌∷◌, ◌++◌, Some, true, ◌⊎◌}
use Rattle.machine.specs.Trace.{Undefined}
use Rattle.machine.specs.TwoWay.{NeverEnds}
use Rattle.pcode_model.specs.declared.listing.Listing.{Listing}
use Rattle.pcode_model.specs.World.{Entry}
use Rattle.cmeaning.specs.declared.tree.Expr.TheVariants as E
use Rattle.cmeaning.specs.declared.tree.Stmt.{Stmt}
use Rattle.blockcode.specs.declared.code.Exit.TheVariants as X
use Rattle.blockcode.specs.declared.code.Block.{Block}
use Rattle.parts.specs.Exprs.{reads_all, Holds, AreTotal}
use Rattle.parts.specs.Stmts.{Calls, is_simple, action_of, target_of, args_of, IsAssign}
use Rattle.edges.specs.Exits.{exit_args, LeadsTo}
use Rattle.edges.specs.Run.{Blocks, stmts_at, exit_at, seen_blocks}

-- ---- live

-- A path leads from here to a read of the variable with no assignment to it between. Over an edge the variable goes by
-- the name that the edge gives it.
pub data Live (k : Blocks) : ℕ → List Stmt → ℕ → Type 0 where
  Read : (b : ℕ) (a : Stmt) (rest : List Stmt) (v : ℕ) → 0 < reads_all (args_of a) v → Live k b (a ∷ rest) v
  Past : (b : ℕ) (a : Stmt) (rest : List Stmt) (v : ℕ) → target_of a ≢ Some v → Live k b rest v → Live k b (a ∷ rest) v
  Leave : (b v : ℕ) → 0 < reads_all (exit_args (exit_at k b)) v → Live k b [] v
  Onward : (b c v w : ℕ) → LeadsTo (exit_at k b) c → k.through b c w ≡ v → Live k c (stmts_at k c) w → Live k b [] v

-- at the beginning of a block
abbrev pub LiveIn : Blocks → ℕ → ℕ → Type 0
LiveIn k b v = Live k b (stmts_at k b) v

-- ---- interfere

-- the statement stands in the block, in front of the others
abbrev pub StandsIn : Blocks → ℕ → Stmt → List Stmt → Type 0
StandsIn k b a rest = (before : List Stmt) × (stmts_at k b ≡ before ++ a ∷ rest)

-- Just after v is assigned what isn't w's, w is live: behind a statement, or over an edge.
pub data Clobbers (k : Blocks) (v w : ℕ) : Type 0 where
  ByStmt : (b : ℕ) (a : Stmt) (rest : List Stmt)
      → StandsIn k b a rest
      → target_of a ≡ Some v
      → (IsAssign v (E.Var w) a → ⊥)
      → Live k b rest w
      → Clobbers k v w
  OverEdge : (b c : ℕ)
      → LeadsTo (exit_at k b) c
      → k.through b c v ≢ v
      → k.through b c v ≢ k.through b c w
      → LiveIn k c w
      → Clobbers k v w

-- the entry assigns it: it is live there and has a first word
abbrev pub IsGiven : Listing → Blocks → Entry → ℕ → Type 0
IsGiven l k e v = LiveIn k k.entry v × Holds (k.first l e) v

-- Two variables that can't be one: just after one is assigned, by what is no copy of the other, the other is live; or
-- the entry assigns both.
abbrev pub Interfere : Listing → Blocks → Entry → ℕ → ℕ → Type 0
Interfere l k e v w = Clobbers k v w ⊎ (Clobbers k w v ⊎ (IsGiven l k e v × IsGiven l k e w))

-- ---- strict and defined

-- what is live at the entry has a first word: no path reads a variable before it is assigned
abbrev pub IsStrict : Listing → Blocks → Entry → Type 0
IsStrict l k e = (v : ℕ) → LiveIn k k.entry v → Holds (k.first l e) v

-- the run never ends Undefined
abbrev pub IsDefined : Listing → Blocks → Entry → Type 0
IsDefined l k e = NeverEnds Undefined (seen_blocks l k e)

-- ---- what strictness needs to give a run that never ends Undefined

abbrev pub IsCall : Stmt → Type 0
IsCall a = (callee : ℕ) × (action_of a ≡ Calls callee)

-- the last of these statements is a call
abbrev pub EndsInCall : List Stmt → Type 0
EndsInCall [] = ⊥
EndsInCall (a ∷ []) = IsCall a
EndsInCall (a ∷ b ∷ rest) = EndsInCall (b ∷ rest)

-- what is left of statements of which the last is a call
abbrev pub IsLeftOf : List Stmt → Type 0
IsLeftOf rest = EndsInCall rest ⊎ (rest ≡ [])

-- simple statements, whose arguments have values wherever their variables have
abbrev pub AreSound : (ℕ → ℕ) → List Stmt → Type 0
AreSound ws [] = Unit {0}
AreSound ws (a ∷ rest) = (is_simple (action_of a) ≡ true) × AreTotal ws (args_of a) × AreSound ws rest

abbrev pub IsBlock : Blocks → ℕ → Type 0
IsBlock k b = (x : Block) × (k.block b ≡ Some x)

-- stops: before the exit Stop stands a call, which doesn't return.
pub record IsSound (k : Blocks) : Type 0 where
  pub entry : IsBlock k k.entry
  pub onward : (b c : ℕ) → LeadsTo (exit_at k b) c → IsBlock k c
  pub stmts : (b : ℕ) → AreSound k.widths (stmts_at k b)
  pub exits : (b : ℕ) → AreTotal k.widths (exit_args (exit_at k b))
  pub stops : (b : ℕ) → IsBlock k b → exit_at k b ≡ X.Stop → EndsInCall (stmts_at k b)
