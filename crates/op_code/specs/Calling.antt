-- A call, as a statement, and what follows it, by the number of its prototype. No part of what a call means.
use Rattle.std.specs.Prelude.{ℕ, List, ◌∷◌, ◌++◌, Some, map}
use Rattle.pcode_model.specs.declared.listing.Listing.{Listing}
use Rattle.pcode_model.specs.declared.listing.Varnode.{Varnode}
use Rattle.pcode_model.specs.Step.{proto_at}
use Rattle.cmeaning.specs.declared.tree.Stmt.TheVariants as S
use Rattle.op_code.specs.declared.calls.Calling.{Calling}
use Rattle.op_code.specs.declared.calls.Calling.TheVariants.{Direct, Indirect}
use Rattle.op_code.specs.Cover.{cover}
use Rattle.op_code.specs.Left.{Leftover, takes_left}
use Rattle.op_code.specs.Made.{Asking, Made, answered, gives_back, local_for}
use Rattle.op_code.specs.Words.{target, write_range}
use Rattle.pcode_model.specs.Spaces.{is_big}

abbrev pub called_by : Calling → Asking
called_by (Direct callee args) v = S.Call v callee args
called_by (Indirect callee args) v = S.CallInd v callee args

-- The call, and what takes its answer, before the pop. Where it has a result, this range's variables are assigned
-- behind what the call left in others.
abbrev pub given_by : Listing → List Varnode → ℕ → (proto : ℕ) → Calling → Made
given_by l ranges next proto call =
    gives_back l ranges next (proto_at l proto) (proto_at l proto).gives (called_by call)

abbrev pub result_given : Listing → List Varnode → ℕ → List Leftover → Varnode → Asking → Made
result_given l ranges next left z make = record {
  statements = make (Some (target ranges next z))
      ∷ (map takes_left left ++ write_range (is_big l z.space) ranges z next);
  locals = local_for (cover ranges z) z;
}

-- and the pop
abbrev pub answered_by : Listing → List Varnode → ℕ → (proto : ℕ) → Calling → Made
answered_by l ranges next proto call =
    answered l ranges next (proto_at l proto) (proto_at l proto).gives (called_by call)
