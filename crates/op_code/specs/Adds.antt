-- What is added for an op: statements behind a body, and locals behind the variables, whose numbers have 32 bits. No
-- part of what an op means, but how the code makes it.
use Rattle.std.specs.Prelude.{◌≡◌, ◌≤◌, ◌^◌, ◌++◌, List, length}
use Rattle.cmeaning.specs.declared.tree.Stmt.{Stmt}
use Rattle.blockcode.specs.declared.code.Variable.{Variable}
use Rattle.op_code.specs.Made.{Made, Read, ReadOne}

-- what is made is added
pub record Adds (variables all : List Variable) (body longer : List Stmt) (m : Made) : Type 0 where
  pub statements : longer ≡ body ++ m.statements
  pub locals : all ≡ variables ++ m.locals
  pub few : length all ≤ 2 ^ 32

-- what is done before an operand is read
abbrev pub before_one : ReadOne → Made
before_one r = record { statements = r.loads; locals = r.locals }

-- what is done before operands are read
abbrev pub before : Read → Made
before r = record { statements = r.loads; locals = r.locals }
