-- Exits by their parts: what they read, and where they lead by the values of that. This project's own.
use Rattle.std.specs.Prelude.{◌≡◌, ℕ, ◌==◌, if◌then◌else◌, List, [], ◌∷◌, Some, None}
use Rattle.machine.specs.Trace.{End, Returned, BadTarget, Undefined}
use Rattle.cmeaning.specs.declared.tree.Expr.{Expr}
use Rattle.cmeaning.specs.Step.{tested}
use Rattle.blockcode.specs.declared.code.Arm.{Arm}
use Rattle.blockcode.specs.declared.code.Exit.{Exit}
use Rattle.blockcode.specs.declared.code.Exit.TheVariants as X
use Rattle.parts.specs.Exprs.{with_all}

abbrev pub exit_args : Exit → List Expr
exit_args (X.Return None) = []
exit_args (X.Return (Some e)) = e ∷ []
exit_args (X.Jump b) = []
exit_args (X.Test e taken other) = e ∷ []
exit_args (X.Switch e arms) = e ∷ []
exit_args X.Stop = []

-- an expression in the place of each variable that it reads
abbrev pub exit_with : (ℕ → Expr) → Exit → Exit
exit_with f (X.Return None) = X.Return None
exit_with f (X.Return (Some e)) = X.Return (Some (with_all f e))
exit_with f (X.Jump b) = X.Jump b
exit_with f (X.Test e taken other) = X.Test (with_all f e) taken other
exit_with f (X.Switch e arms) = X.Switch (with_all f e) arms
exit_with f X.Stop = X.Stop

-- on to a block, or to the end of the run
pub data Where : Type 0 where
  Onto : (block : ℕ) → Where
  Out : (how : End) → Where

-- to the first arm with the value; where there is none the run ends
abbrev pub by_arms : List Arm → ℕ → Where
by_arms [] n = Out BadTarget
by_arms (a ∷ rest) n = if a.value == n then Onto a.to else by_arms rest n

-- where an exit leads, by the values of its arguments
abbrev pub leads : Exit → List ℕ → Where
leads (X.Return None) ns = Out (Returned None)
leads (X.Return (Some e)) (n ∷ ns) = Out (Returned (Some n))
leads (X.Jump b) ns = Onto b
leads (X.Test e taken other) (n ∷ ns) = Onto (tested taken other n)
leads (X.Switch e arms) (n ∷ ns) = by_arms arms n
leads x ns = Out Undefined

-- the blocks that an exit can lead to
abbrev pub LeadsTo : Exit → ℕ → Type 0
LeadsTo x b = (ns : List ℕ) × (leads x ns ≡ Onto b)
