-- What a run has shown after some steps: its events in order, and its end once it has one.
-- This project's own. The number of steps is not shown, so runs of different machines can be compared.
use Rattle.std.specs.Prelude.{ℕ, List, Option}

-- What the world outside sees of a run. Words are compared as numbers; their widths, which a
-- function's prototype or the operation fixes, are not shown.
-- Call: a call of the function at `target`, with its argument words in order.
-- Other: the operation CALLOTHER with this index, with the words of its further inputs in order.
-- Store: bytes in the order of memory, written to a space (by its number) from the byte offset on.
pub data Event : Type 0 where
  Call : (target : ℕ) (args : List ℕ) → Event
  Other : (index : ℕ) (args : List ℕ) → Event
  Store : (space offset : ℕ) (bytes : List ℕ) → Event

-- How a run ends.
-- Returned: at a RETURN, with the word of the result where there is one.
-- DivZero: at a division or a remainder by 0.
-- ReadOnlyWrite: where a store other than to a stack variable, or a write of a callee, meets a
-- read-only byte.
-- NoAnswer: where a call finds no answer left.
-- NoReturn: at a call of a function that is declared not to return, after the call's event.
-- Outside: where an access other than a stack variable's own, or a write of a callee, meets a byte
-- of a stack variable or reads a hidden byte, or where a stack variable's own read meets a spoiled
-- byte.
-- BadTarget: where a branch has no place to go to.
-- Undefined: where a C step has no meaning.
pub data End : Type 0 where
  Returned : (word : Option ℕ) → End
  DivZero : End
  ReadOnlyWrite : End
  NoAnswer : End
  NoReturn : End
  Outside : End
  BadTarget : End
  Undefined : End

-- what a run has shown so far; no end means that it goes on
pub record Trace : Type 0 where
  pub events : List Event
  pub over : Option End
