-- What is added behind what is added first.
use Rattle.std.proofs.Common.{◌≡◌, ℕ, ◌+◌, List, ◌++◌, length, ap, ap₂, ◌∙◌, append_assoc}
use Rattle.std.proofs.lemmas.List.{length-append}
use Rattle.cmeaning.specs.declared.tree.Stmt.{Stmt}
use Rattle.blockcode.specs.declared.code.Variable.{Variable}
use Rattle.op_code.specs.Made.{Made, followed}
use Rattle.op_code.specs.Adds.{Adds}

module _ (variables there all : List Variable) (body read longer : List Stmt) where
  pub adds_more : (first : Made) (more : ℕ → Made)
      → Adds variables there body read first
      → Adds there all read longer (more (length there))
      → Adds variables all body longer (followed first (more (length variables + length first.locals)))
  adds_more first more here rest =
      let next = length variables + length first.locals in
      let number : length there ≡ next = ap length here.locals ∙ length-append variables first.locals in
      record {
        statements =
            rest.statements
            ∙ ap₂ (λ (ss : List Stmt) (k : ℕ). ss ++ (more k).statements) here.statements number
            ∙ append_assoc body first.statements (more next).statements;
        locals =
            rest.locals
            ∙ ap₂ (λ (vs : List Variable) (k : ℕ). vs ++ (more k).locals) here.locals number
            ∙ append_assoc variables first.locals (more next).locals;
        few = rest.few;
      }
