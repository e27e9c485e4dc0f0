-- A world as a memory and a log. This project's own.
use Rattle.std.specs.Prelude.{List, map, drop, Option, Some, None, Result, Ok, Err}
use Rattle.machine.specs.Trace as T
use Rattle.pcode_model.specs.World.{World, Taken, Stops, Took}
use Rattle.run_world.specs.Meaning.{answer_of, event_of, end_of, over_of}
use Rattle.run_world.specs.declared.entry.Answer.{Answer}
use Rattle.run_world.specs.declared.trace.End.{End}
use Rattle.run_world.specs.declared.log.Log.{Log}

-- the world of a memory, of a list of answers of which the log has taken the first ones, and of the log
abbrev pub world_of : {M : Type 0} → M → List Answer → Log → World M
world_of m answers log =
    record {
      memory = m;
      answers = map answer_of (drop log.taken answers);
      events = map event_of log.events;
      over = over_of log.end;
    }

-- what came of a change of memory: the memory after it, or the end that it met
abbrev pub made : {A M : Type 0} → Result A End → M → Result M T.End
made (Ok x) m = Ok m
made (Err e) m = Err (end_of e)

-- what came of taking an answer: the one that was taken, or none where the run has ended
abbrev pub taken : {M : Type 0} → Option Answer → World M → Taken M
taken None w = Stops w
taken (Some a) w = Took (answer_of a) w
