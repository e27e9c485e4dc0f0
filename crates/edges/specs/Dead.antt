-- Blocks less what nothing needed depends on. This project's own.
use Rattle.std.specs.Prelude.{◌≡◌, ◌≢◌, ℕ, List, [], ◌∷◌, Some}
use Rattle.cmeaning.specs.declared.tree.Stmt.{Stmt}
use Rattle.blockcode.specs.declared.code.Exit.TheVariants as X
use Rattle.parts.specs.Exprs.{reads_all}
use Rattle.parts.specs.Stmts.{action_of, target_of, args_of}
use Rattle.edges.specs.Exits.{exit_args, LeadsTo}
use Rattle.edges.specs.Run.{Blocks, stmts_at, exit_at}
use Rattle.edges.specs.Live.{IsLeftOf}
use Rattle.edges.specs.Follow.{Needs, Needed, IsQuiet}

-- what is needed at a statement that stays
pub record IsKept (needs : Needs) (b : ℕ) (a : Stmt) (rest : List Stmt) : Type 0 where
  pub reads : Needed (reads_all (args_of a)) (needs b (a ∷ rest))
  pub past : (v : ℕ) → needs b rest v → target_of a ≢ Some v → needs b (a ∷ rest) v

-- a statement that does nothing but assign what isn't needed
pub record IsDropped (needs : Needs) (b : ℕ) (a : Stmt) (rest : List Stmt) : Type 0 where
  pub quiet : IsQuiet (action_of a)
  pub free : (v : ℕ) → needs b rest v → (target_of a ≢ Some v) × needs b (a ∷ rest) v

-- statements less some
pub data Pruned (needs : Needs) (b : ℕ) : List Stmt → List Stmt → Type 0 where
  Finish : Pruned needs b [] []
  Keep : (a : Stmt) (rest rest' : List Stmt)
      → IsKept needs b a rest
      → Pruned needs b rest rest'
      → Pruned needs b (a ∷ rest) (a ∷ rest')
  Drop : (a : Stmt) (rest rest' : List Stmt)
      → IsDropped needs b a rest
      → Pruned needs b rest rest'
      → Pruned needs b (a ∷ rest) rest'

-- even: over an edge a variable has what one of its width had.
-- stops: before the exit Stop stands a call.
pub record PrunedBlocks (needs : Needs) (k m : Blocks) : Type 0 where
  pub entry : k.entry ≡ m.entry
  pub widths : k.widths ≡ m.widths
  pub first : k.first ≡ m.first
  pub through : k.through ≡ m.through
  pub even : (b c v : ℕ) → m.widths (m.through b c v) ≡ m.widths v
  pub exits : (b : ℕ) → exit_at k b ≡ exit_at m b
  pub stmts : (b : ℕ) → Pruned needs b (stmts_at k b) (stmts_at m b)
  pub stops : (b : ℕ) → exit_at k b ≡ X.Stop → IsLeftOf (stmts_at k b)
  pub leave : (b : ℕ) → Needed (reads_all (exit_args (exit_at k b))) (needs b [])
  pub onward : (b c v : ℕ) → LeadsTo (exit_at k b) c → needs c (stmts_at k c) v → needs b [] (k.through b c v)
