-- The run of a body by its own numbers, before it is the body of a function.
use Rattle.std.specs.Prelude.{ℕ, ◌-◌, Bool, List, length, slice_get}
use Rattle.machine.specs.Trace.{Trace}
use Rattle.machine.specs.Machine.{Machine, seen}
use Rattle.pcode_model.specs.declared.listing.Listing.{Listing}
use Rattle.pcode_model.specs.World.{Entry, first_world, shown, unless_over}
use Rattle.cmeaning.specs.declared.tree.CFunction.{CFunction}
use Rattle.cmeaning.specs.declared.tree.Stmt.{Stmt}
use Rattle.cmeaning.specs.Do.{variable_width}
use Rattle.cmeaning.specs.Flat.{Flat, pieces_of, flat_body, returns_by}
use Rattle.cmeaning.specs.Step.{CState, at, carry_out, first_word}
use Rattle.naming.specs.declared.head.Head.{Head}

-- Flat code by itself: by the widths of the variables, and by whether the callee at an address returns. The run of a
-- function is this one, of its flat code.
abbrev pub flat_machine : Listing → (ℕ → ℕ) → (ℕ → Bool) → List Flat → Machine CState
flat_machine l ws returns code = record {
  step = λ s. unless_over s.local.world.over s (carry_out l ws returns (slice_get code s.position) s);
  sight = λ s. shown s.local.world;
}

abbrev pub body_machine : Listing → (ℕ → ℕ) → (ℕ → Bool) → List Stmt → Machine CState
body_machine l ws returns body = flat_machine l ws returns (flat_body (pieces_of returns body))

-- ---- below a head

-- the function of a body by its own numbers, with all that the head has
abbrev pub unnamed : Head → List Stmt → CFunction
unnamed h body = record {
  callees = h.callees;
  name = h.name;
  gives = h.gives;
  params = h.params;
  locals = h.locals;
  body = body;
}

-- a variable's width in bytes by its own number: the parameters first, then the locals
abbrev pub widths_of : Head → ℕ → ℕ
widths_of h v = variable_width (slice_get h.params v) (slice_get h.locals (v - length h.params))

abbrev pub returns_of : Head → ℕ → Bool
returns_of h address = returns_by h.callees address

-- each parameter holds the entry's word at its storage, and no other variable is assigned
abbrev pub start_of : Listing → Head → Entry → CState
start_of l h e = at 0 (record {
  env = λ n. first_word l e (slice_get h.params n);
  left = λ o. 0;
  world = first_world e.bytes e;
})

-- what the body has shown after n steps
abbrev pub seen_body : Listing → Head → List Stmt → Entry → ℕ → Trace
seen_body l h body e n = seen (body_machine l (widths_of h) (returns_of h) body) (start_of l h e) n
