-- The text of a trace. This project's own.
use Rattle.std.specs.Prelude.{ℕ, ◌++◌, nat_lt, if◌then◌else◌, List, [], ◌∷◌, codes, Option, Some, None, slice_get}
use Rattle.ctext.specs.Names.{hex}
use Rattle.machine.specs.Trace.{Event, Call, Other, Store, End, Returned, DivZero, ReadOnlyWrite, NoAnswer, NoReturn, Outside, BadTarget, Undefined, Trace}
use Rattle.pcode_model.specs.declared.listing.Listing.{Listing}
use Rattle.pcode_model.specs.declared.listing.Space.{Space}

abbrev pub number_text : ℕ → List ℕ
number_text n = codes " 0x" ++ hex n

abbrev pub words_text : List ℕ → List ℕ
words_text [] = []
words_text (w ∷ ws) = number_text w ++ words_text ws

-- a byte has always two digits
abbrev pub pair_text : ℕ → List ℕ
pair_text b = if nat_lt b 16 then codes "0" ++ hex b else hex b

abbrev pub pairs_text : List ℕ → List ℕ
pairs_text [] = []
pairs_text (b ∷ bs) = pair_text b ++ pairs_text bs

abbrev pub name_in : Option Space → List ℕ
name_in None = []
name_in (Some s) = s.name

abbrev pub space_text : Listing → ℕ → List ℕ
space_text l n = name_in (slice_get l.spaces n)

abbrev pub store_text : Listing → ℕ → ℕ → List ℕ → List ℕ
store_text l space offset bytes = codes "store "
    ++ (space_text l space ++ (codes ":0x" ++ (hex offset ++ (codes " " ++ pairs_text bytes))))

abbrev pub event_text : Listing → Event → List ℕ
event_text l (Call target args) = codes "call" ++ (number_text target ++ words_text args)
event_text l (Other index args) = codes "other" ++ (number_text index ++ words_text args)
event_text l (Store space offset bytes) = store_text l space offset bytes

abbrev pub returned_text : Option ℕ → List ℕ
returned_text None = codes "returned"
returned_text (Some w) = codes "returned" ++ number_text w

abbrev pub end_text : End → List ℕ
end_text (Returned word) = returned_text word
end_text DivZero = codes "divzero"
end_text ReadOnlyWrite = codes "readonly"
end_text NoAnswer = codes "noanswer"
end_text NoReturn = codes "noreturn"
end_text Outside = codes "outside"
end_text BadTarget = codes "badtarget"
end_text Undefined = codes "undefined"

abbrev pub over_text : Option End → List ℕ
over_text None = codes "going"
over_text (Some e) = end_text e

-- one line for each event, each after the side
abbrev pub events_text : Listing → List ℕ → List Event → List ℕ
events_text l side [] = []
events_text l side (x ∷ xs) = (side ++ (event_text l x ++ codes "\n")) ++ events_text l side xs

-- the lines of the events and of how the run goes on or ended
abbrev pub trace_text : Listing → List ℕ → Trace → List ℕ
trace_text l side t = events_text l side t.events ++ (side ++ (over_text t.over ++ codes "\n"))
