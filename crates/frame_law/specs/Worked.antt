-- Worked runs with a frame variable: a word of 4 bytes that lies 4 bytes below the stack pointer's entry word 0x100.
use Rattle.std.specs.Prelude.{◌≡◌, ℕ, ◌^◌, ◌-◌, ◌==◌, ◌&&◌, nat_le, Bool, true, false, if◌then◌else◌, List, [], ◌∷◌, ◌++◌, Some, None, codes}
use Rattle.machine.specs.Trace.{Event, Returned, Outside, Call, Trace}
use Rattle.bits_core.specs.declared.ops.Binary.TheVariants as B
use Rattle.pcode_model.specs.declared.listing.SpaceKind.{SpaceKind}
use Rattle.pcode_model.specs.declared.listing.SpaceKind.TheVariants.{Constant, Ram, Register, Unique}
use Rattle.pcode_model.specs.declared.listing.Space.{Space}
use Rattle.pcode_model.specs.declared.listing.Varnode.{Varnode}
use Rattle.pcode_model.specs.declared.listing.Op.{Op}
use Rattle.pcode_model.specs.declared.listing.Listing.{Listing}
use Rattle.pcode_model.specs.declared.opcode.Opcode.TheVariants as O
use Rattle.pcode_model.specs.Memory.{Frame}
use Rattle.pcode_model.specs.World.{Answer, Entry}
use Rattle.pcode_model.specs.Step.{seen_p, seen_f}

-- space 1 is ram, 2 the registers, 3 the unique space, with offsets of 4 bytes and the little end first
abbrev pub space : SpaceKind → Space
space kind = record { name = []; kind = kind; size = 4; big = false; word = 1 }

abbrev pub varnode : ℕ → ℕ → Varnode
varnode space offset = record { space = space; offset = offset; size = 4 }

abbrev pub result : Varnode
result = varnode 2 0x0

abbrev pub stack_pointer : Varnode
stack_pointer = varnode 2 0x10

abbrev pub address : Varnode
address = varnode 3 0x0

abbrev pub constant : ℕ → Varnode
constant n = varnode 0 n

-- One instruction: the address below the stack pointer, a store of 7 there, what comes between, a load to the result
-- from an address, and the return.
abbrev pub stores_and : List Op → Varnode → Listing
stores_and between from = record {
  version = 2;
  spaces = space Constant ∷ space Ram ∷ space Register ∷ space Unique ∷ [];
  stack = Some stack_pointer;
  protos = record { name = codes "c"; args = []; gives = Some result; pop = 0; keep = [] } ∷ [];
  func = record { name = codes "f"; address = 0x1000; proto = 0; returns = true };
  callees = [];
  fixed = [];
  code = record {
    address = 0x1000;
    length = 4;
    ops = record { code = O.Binary B.Subtract; out = Some address; inputs = stack_pointer ∷ constant 4 ∷ [] }
        ∷ record { code = O.Store; out = None; inputs = constant 1 ∷ address ∷ constant 7 ∷ [] }
        ∷ (between
        ++ (record { code = O.Load; out = Some result; inputs = constant 1 ∷ from ∷ [] }
        ∷ record { code = O.Return; out = None; inputs = constant 0 ∷ [] } ∷ []));
  } ∷ [];
}

-- the word's four offsets
abbrev pub below : ℕ → Bool
below c = nat_le (2 ^ 32 - 4) c

-- the store is the frame variable's, and so is the access at this index
abbrev pub frame_with : ℕ → Frame
frame_with n = record {
  own = λ p k. if p.index == 1 then Some (2 ^ 32 - 4) else (if p.index == n then Some (2 ^ 32 - 4) else None);
  framed = below;
}

-- the stack pointer holds 0x100, and all else is 0
abbrev pub entry : List Answer → Entry
entry answers = record {
  bytes = λ s o. if s == 2 && o == 0x11 then 1 else 0;
  hidden = λ o. None;
  answers = answers;
}

abbrev pub gave : List Event → ℕ → Trace
gave events word = record { events = events; over = Some (Returned (Some word)) }

abbrev pub outside : List Event → Trace
outside events = record { events = events; over = Some Outside }

abbrev pub calls : Op
calls = record { code = O.Call; out = None; inputs = varnode 1 0x2000 ∷ [] }

abbrev pub called : Event
called = Call 0x2000 []

-- an answer that hides a byte of the word
abbrev pub spoils : Answer
spoils = record {
  word = 0;
  registers = λ o. 0;
  memory = [];
  hidden = record { offset = 0xfd; value = 9 } ∷ [];
}

-- The variable's load finds what was stored, in both runs. A pointer's load of the same bytes ends the run of the
-- listing Outside, where the other run finds memory's own. So does the variable's load after a call that hid one of its
-- bytes; the call is shown by both.
pub record WorkedFrame : Type 0 where
  pub own_found : seen_p (stores_and [] address) (frame_with 2) (entry []) 4 ≡ gave [] 7
  pub own_found_apart : seen_f (stores_and [] address) (frame_with 2) (entry []) 4 ≡ gave [] 7
  pub pointer : seen_p (stores_and [] (constant 0xfc)) (frame_with 1) (entry []) 4 ≡ outside []
  pub pointer_apart : seen_f (stores_and [] (constant 0xfc)) (frame_with 1) (entry []) 4 ≡ gave [] 0
  pub spoiled : seen_p (stores_and (calls ∷ []) address) (frame_with 3) (entry (spoils ∷ [])) 5 ≡ outside (called ∷ [])
  pub spoiled_apart : seen_f (stores_and (calls ∷ []) address) (frame_with 3) (entry (spoils ∷ [])) 5
      ≡ gave (called ∷ []) 7
