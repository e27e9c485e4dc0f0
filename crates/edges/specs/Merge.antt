-- Variables under other names, less the copies of a variable to itself. This project's own.
use Rattle.std.specs.Prelude.{◌≡◌, ◌≢◌, ℕ, List, [], ◌∷◌, Option, Some}
use Rattle.pcode_model.specs.declared.listing.Listing.{Listing}
use Rattle.pcode_model.specs.World.{Entry}
use Rattle.cmeaning.specs.declared.tree.Expr.TheVariants as E
use Rattle.cmeaning.specs.declared.tree.Stmt.{Stmt}
use Rattle.cmeaning.specs.declared.tree.Stmt.TheVariants as S
use Rattle.blockcode.specs.declared.code.Exit.TheVariants as X
use Rattle.parts.specs.Exprs.{named}
use Rattle.parts.specs.Stmts.{target_of, renamed}
use Rattle.edges.specs.Exits.{exit_with, LeadsTo}
use Rattle.edges.specs.Run.{Blocks, stmts_at, exit_at}
use Rattle.edges.specs.Live.{Live, LiveIn, Clobbers, IsLeftOf}

-- where y is assigned, no other live variable has its name
abbrev pub IsApart : Blocks → (ℕ → ℕ) → ℕ → Option ℕ → List Stmt → Type 0
IsApart k name b i rest = (y v : ℕ) → i ≡ Some y → Live k b rest v → v ≢ y → name v ≢ name y

pub data Merged (k : Blocks) (name : ℕ → ℕ) (b : ℕ) : List Stmt → List Stmt → Type 0 where
  Finish : Merged k name b [] []
  Name : (a : Stmt) (rest rest' : List Stmt)
      → IsApart k name b (target_of a) rest
      → Merged k name b rest rest'
      → Merged k name b (a ∷ rest) (renamed name a ∷ rest')
  Copy : (v w : ℕ) (rest rest' : List Stmt)
      → name v ≡ name w
      → Merged k name b rest rest'
      → Merged k name b (S.Assign v (E.Var w) ∷ rest) rest'

-- even: over an edge a variable has what one of its width had.
-- edges: over an edge a live variable has under its name what it has.
-- stops: before the exit Stop stands a call.
pub record MergedBlocks (k : Blocks) (name : ℕ → ℕ) (m : Blocks) : Type 0 where
  pub entry : k.entry ≡ m.entry
  pub widths : (v : ℕ) → m.widths (name v) ≡ k.widths v
  pub even : (b c v : ℕ) → k.widths (k.through b c v) ≡ k.widths v
  pub edges : (b c v : ℕ)
      → LeadsTo (exit_at k b) c
      → LiveIn k c v
      → m.through b c (name v) ≡ name (k.through b c v)
  pub first : (l : Listing) (e : Entry) (v n : ℕ)
      → LiveIn k k.entry v
      → k.first l e v ≡ Some n
      → m.first l e (name v) ≡ Some n
  pub exits : (b : ℕ) → exit_at m b ≡ exit_with (named name) (exit_at k b)
  pub stmts : (b : ℕ) → Merged k name b (stmts_at k b) (stmts_at m b)
  pub stops : (b : ℕ) → exit_at k b ≡ X.Stop → IsLeftOf (stmts_at k b)

-- two variables that get one name don't clobber one another
abbrev pub NoClash : Blocks → (ℕ → ℕ) → Type 0
NoClash k name = (v w : ℕ) → v ≢ w → name v ≡ name w → Clobbers k v w → ⊥
