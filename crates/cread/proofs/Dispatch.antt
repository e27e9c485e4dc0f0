-- A statement that begins with a word of its own.
use Rattle.std.proofs.Common.{◌≡◌, ℕ, suc, List, Some, refl}
use Rattle.ctext.specs.Names.{Scope}
use Rattle.cread.specs.declared.item.Line.{Line}
use Rattle.cread.specs.Statements.{line_at, line_by, statement_by, statement_at}

pub statement_word : (sc : Scope) (levels n : ℕ) (bytes : List ℕ) (word : Line) (rest : List ℕ)
    → levels ≡ suc n
    → line_at bytes ≡ Some (word, rest)
    → statement_at sc levels bytes ≡ line_by sc (statement_at sc n) word rest
unfolding statement_at statement_by
statement_word sc levels n bytes word rest one is = rw (one, is) refl
