-- The variables of a function that leaves SSA form. A value is the variable of its number, and behind all ops each
-- MULTIEQUAL has one more.
use Rattle.std.specs.Prelude.{ℕ, ◌+◌, ◌-◌, nat_lt, if◌then◌else◌, length}
use Rattle.opgraph.specs.Graph.{op_at}
use Rattle.ssa_model.specs.declared.form.Parts.{Parts}
use Rattle.ssa_model.specs.Outline.{width_at}

-- the fresh variable of a MULTIEQUAL
abbrev pub fresh : Parts → ℕ → ℕ
fresh p v = length p.graph.ops + v

-- a fresh variable is as wide as its MULTIEQUAL
abbrev pub variable_width : Parts → ℕ → ℕ
variable_width p v =
    if nat_lt v (length p.graph.ops) then width_at (op_at p.graph) v
    else width_at (op_at p.graph) (v - length p.graph.ops)
