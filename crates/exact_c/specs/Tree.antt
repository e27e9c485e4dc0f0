-- The tree of a text. This project's own.
use Rattle.std.specs.Prelude.{◌≡◌, List, ℕ}
use Rattle.cmeaning.specs.declared.tree.CFunction.{CFunction}
use Rattle.cmeaning.specs.Valid.{IsValid}
use Rattle.ctext.specs.Text.{text_of}

-- a valid tree, whose text the bytes are
pub record IsTreeOf (bytes : List ℕ) (f : CFunction) : Type 0 where
  pub valid : IsValid f
  pub text : bytes ≡ text_of f
