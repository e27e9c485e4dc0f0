-- The run of a C function: one step carries out one step of its flat code. Running past the last step, and a value that
-- is undefined, end the run Undefined. This project's own.
use Rattle.std.specs.Prelude.{ℕ, zero, suc, Bool, slice_get, Option, Some, None}
use Rattle.machine.specs.Trace.{Returned, Undefined, Trace}
use Rattle.machine.specs.Machine.{Machine, seen}
use Rattle.bits_core.specs.Bytes.{word_of}
use Rattle.pcode_model.specs.declared.storage.ParamStorage.{ParamStorage}
use Rattle.pcode_model.specs.declared.storage.ParamStorage.TheVariants.{Register, Unique, Stack}
use Rattle.pcode_model.specs.declared.listing.Listing.{Listing}
use Rattle.pcode_model.specs.Spaces.{size_of, is_big, first_ram, register_space, unique_space, bytes_at}
use Rattle.pcode_model.specs.Frame.{wrapped}
use Rattle.pcode_model.specs.World.{Entry, first_world, shown, unless_over}
use Rattle.pcode_model.specs.Step.{word_in_bytes, first_apart}
use Rattle.cmeaning.specs.declared.tree.Param.{Param}
use Rattle.cmeaning.specs.declared.tree.CFunction.{CFunction}
use Rattle.cmeaning.specs.declared.tree.Expr.{Expr}
use Rattle.cmeaning.specs.Value.{value_of}
use Rattle.cmeaning.specs.Do.{Local, ends, widths_in, do_simple}
use Rattle.cmeaning.specs.Flat.{Flat, Do, Test, Jump, Choose, Give, flat_of, found_in, returns_by}

-- the position in the flat code, and the variables and the world
pub record CState : Type 0 where
  pub position : ℕ
  pub local : Local

-- ---- a step

abbrev pub at : ℕ → Local → CState
at p x = record { position = p; local = x }

abbrev pub undefined : CState → CState
undefined s = at s.position (ends Undefined s.local)

-- where a value leads, if there is one
abbrev pub goes_by : Option ℕ → CState → (ℕ → ℕ) → CState
goes_by None s to = undefined s
goes_by (Some n) s to = at (to n) s.local

-- the first where a value isn't 0, else the second
abbrev pub tested : ℕ → ℕ → ℕ → ℕ
tested p q zero = q
tested p q (suc n) = p

abbrev pub gives : Option ℕ → CState → CState
gives None s = undefined s
gives (Some n) s = at s.position (ends (Returned (Some n)) s.local)

abbrev pub given : (ℕ → ℕ) → Option Expr → CState → CState
given ws None s = at s.position (ends (Returned None) s.local)
given ws (Some e) s = gives (value_of ws s.local.env e) s

-- by the widths of the variables, and by whether the callee at an address returns
abbrev pub carry_out : Listing → (ℕ → ℕ) → (ℕ → Bool) → Option Flat → CState → CState
carry_out l ws returns None s = undefined s
carry_out l ws returns (Some (Do x)) s = at (suc s.position) (do_simple l ws returns x s.local)
carry_out l ws returns (Some (Test e p q)) s = goes_by (value_of ws s.local.env e) s (tested p q)
carry_out l ws returns (Some (Jump to)) s = at to s.local
carry_out l ws returns (Some (Choose e cases other)) s = goes_by (value_of ws s.local.env e) s (found_in cases other)
carry_out l ws returns (Some (Give e)) s = given ws e s

-- After an end nothing changes.
abbrev pub c_step : Listing → CFunction → CState → CState
c_step l f s = unless_over s.local.world.over s
    (carry_out l (widths_in f) (returns_by f.callees) (slice_get (flat_of f) s.position) s)

abbrev pub c_machine : Listing → CFunction → Machine CState
c_machine l f = record { step = c_step l f; sight = λ s. shown s.local.world }

-- ---- the start

-- The entry's word at a parameter's storage. On the stack each byte is the hidden one, or the memory's where none is
-- hidden, as for a frame variable's own bytes.
abbrev pub word_at : Listing → Entry → ℕ → ParamStorage → ℕ
word_at l e k (Register offset) = word_in_bytes l (register_space l) offset k e.bytes
word_at l e k (Unique offset) = word_in_bytes l (unique_space l) offset k e.bytes
word_at l e k (Stack offset) = word_of (is_big l (first_ram l))
    (bytes_at (size_of l (first_ram l)) (first_apart l e).own (wrapped (size_of l (first_ram l)) offset) k)

abbrev pub first_word : Listing → Entry → Option Param → Option ℕ
first_word l e None = None
first_word l e (Some p) = Some (word_at l e p.width.bytes p.storage)

-- each parameter holds the entry's word at its storage, and no other variable is assigned
abbrev pub start_c : Listing → CFunction → Entry → CState
start_c l f e = at 0 (record {
  env = λ n. first_word l e (slice_get f.params n);
  left = λ o. 0;
  world = first_world e.bytes e;
})

-- what the C run has shown after n steps
abbrev pub seen_c : Listing → CFunction → Entry → ℕ → Trace
seen_c l f e n = seen (c_machine l f) (start_c l f e) n
