-- The states of a run. This project's own.
use Rattle.std.specs.Prelude.{Option, Some, None}
use Rattle.pcode_model.specs.declared.listing.Place.{Place}
use Rattle.pcode_model.specs.Memory as M
use Rattle.pcode_model.specs.Places.{place}
use Rattle.pcode_model.specs.Step as S
use Rattle.run_world.specs.Log.{world_of}
use Rattle.run_world.specs.Maps.{bytes_of}
use Rattle.pcode_memory.specs.declared.context.PcodeContext.{PcodeContext}
use Rattle.pcode_memory.specs.Context.{whole_of}
use Rattle.pcode_operands.specs.declared.state.State.{State}
use Rattle.pcode_operands.specs.declared.state.WidePlace.{WidePlace}

abbrev pub state_of : PcodeContext → State → S.State M.Whole
state_of c s =
    record {
      at = place s.at.address s.at.index;
      local = bytes_of s.local;
      world = world_of (whole_of s.memory) c.answers.now s.log;
    }

abbrev pub place_of : WidePlace → Place
place_of s = place s.address s.index

abbrev pub places_of : Option WidePlace → Option Place
places_of None = None
places_of (Some s) = Some (place_of s)
