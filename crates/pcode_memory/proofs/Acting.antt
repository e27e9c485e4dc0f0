-- The effects on a world whose memory has hidden and spoiled bytes.
use Rattle.std.proofs.Common.{◌≡◌, ℕ, ◌+◌, ◌<◌, Bool, true, false, List, [], ◌∷◌, length, drop, get_or, map, Option, Some, None, Result, Ok, Err, refl, ap, ◌∙◌}
use Rattle.machine.specs.Trace as T
use Rattle.pcode_model.specs.Spaces.{size_of, any_at, each_at, is_fixed}
use Rattle.pcode_model.specs.Memory.{Layout, Whole, is_framed, poke_whole, whole, unless}
use Rattle.pcode_model.specs.World.{World, Stops, Took, ended, recorded, with_memory, store, stored_as, write_all, hide_all, and_then, took, take_from, take_answer}
use Rattle.run_world.specs.declared.entry.Byte.{Byte}
use Rattle.run_world.specs.declared.entry.Answer.{Answer}
use Rattle.run_world.specs.declared.trace.End.{End}
use Rattle.run_world.specs.declared.log.Log.{Log}
use Rattle.run_world.specs.Meaning.{written, hidden, answer_of, end_of}
use Rattle.run_world.specs.Log.{world_of}
use Rattle.pcode_model.proofs.Members.{rest_at}
use Rattle.pcode_memory.specs.Effects.{concealed, end_by, first_end, first_refused, poked}

-- ---- stores

abbrev stores : Layout → ℕ → ℕ → List ℕ → World Whole → Bool → Bool → World Whole
stores y n a bs w framed fixed =
    stored_as (T.Store n a bs)
    (unless framed T.Outside
    (unless fixed T.ReadOnlyWrite (Ok (each_at (size_of y.listing n) (poke_whole y.listing n) a bs w.memory))))
    w

pub store_outside : (y : Layout) (n a : ℕ) (bs : List ℕ) (w : World Whole)
    → any_at (size_of y.listing n) (is_framed y n) a (length bs) ≡ true
    → store (whole y) n a bs w ≡ ended T.Outside w
store_outside y n a bs w framed =
    ap (λ t. stores y n a bs w t (any_at (size_of y.listing n) (is_fixed y.listing n) a (length bs))) framed

pub store_refused : (y : Layout) (n a : ℕ) (bs : List ℕ) (w : World Whole)
    → any_at (size_of y.listing n) (is_framed y n) a (length bs) ≡ false
    → any_at (size_of y.listing n) (is_fixed y.listing n) a (length bs) ≡ true
    → store (whole y) n a bs w ≡ ended T.ReadOnlyWrite w
store_refused y n a bs w framed fixed =
    ap (λ t. stores y n a bs w t (any_at (size_of y.listing n) (is_fixed y.listing n) a (length bs))) framed
    ∙ ap (λ t. stores y n a bs w false t) fixed

pub store_made : (y : Layout) (n a : ℕ) (bs : List ℕ) (w : World Whole)
    → any_at (size_of y.listing n) (is_framed y n) a (length bs) ≡ false
    → any_at (size_of y.listing n) (is_fixed y.listing n) a (length bs) ≡ false
    → store (whole y) n a bs w
    ≡ recorded (T.Store n a bs) (with_memory (each_at (size_of y.listing n) (poke_whole y.listing n) a bs w.memory) w)
store_made y n a bs w framed fixed =
    ap (λ t. stores y n a bs w t (any_at (size_of y.listing n) (is_fixed y.listing n) a (length bs))) framed
    ∙ ap (λ t. stores y n a bs w false t) fixed

-- ---- answers

abbrev pub made_by : Option End → Whole → Result Whole T.End
made_by None w = Ok w
made_by (Some e) w = Err (end_of e)

pub write_is : (y : Layout) (bs : List Byte) (w : Whole)
    → write_all (whole y) (map written bs) w ≡ made_by (first_refused y bs) (poked y.listing bs w)
write_is y [] w = refl
write_is y (b ∷ bs) w =
    one (is_framed y b.space b.offset) (is_fixed y.listing b.space b.offset)
    (write_is y bs (poke_whole y.listing b.space b.offset b.value w)) where
      one : (s t : Bool)
          → write_all (whole y) (map written bs) (poke_whole y.listing b.space b.offset b.value w)
          ≡ made_by (first_refused y bs) (poked y.listing bs (poke_whole y.listing b.space b.offset b.value w))
          → and_then
          (unless s T.Outside (unless t T.ReadOnlyWrite (Ok (poke_whole y.listing b.space b.offset b.value w))))
          (write_all (whole y) (map written bs))
          ≡ made_by (first_end (end_by s t) (first_refused y bs))
          (poked y.listing bs (poke_whole y.listing b.space b.offset b.value w))
      one true t e = refl
      one false true e = refl
      one false false e = e

pub hide_is : (y : Layout) (bs : List Byte) (w : Whole) → hide_all (whole y) (map hidden bs) w ≡ concealed y bs w
hide_is y [] w = refl
hide_is y (b ∷ bs) w = hide_is y bs _

pub take_refused : (y : Layout) (w : Whole) (answers : List Answer) (log : Log) (a : Answer) (e : End)
    → log.taken < length answers
    → a ≡ get_or answers log.taken a
    → first_refused y a.memory ≡ Some e
    → take_answer (whole y) (world_of w answers log) ≡ Stops (ended (end_of e) (world_of w answers log))
take_refused y w answers log a e more is stops =
    ap (λ xs. take_from (whole y) (map answer_of xs) (world_of w answers log)) (rest_at answers log.taken a more is)
    ∙ ap
    (λ r. took (whole y) (answer_of a) (map answer_of (drop (log.taken + 1) answers)) r (world_of w answers log))
    (write_is y a.memory w ∙ ap (λ t. made_by t (poked y.listing a.memory w)) stops)

pub take_made : (y : Layout) (w : Whole) (answers : List Answer) (log : Log) (a : Answer)
    → log.taken < length answers
    → a ≡ get_or answers log.taken a
    → first_refused y a.memory ≡ None
    → take_answer (whole y) (world_of w answers log)
    ≡ Took (answer_of a) (world_of (concealed y a.hidden (poked y.listing a.memory w)) answers
    (record { taken = log.taken + 1; events = log.events; end = log.end }))
take_made y w answers log a more is goes =
    ap (λ xs. take_from (whole y) (map answer_of xs) (world_of w answers log)) (rest_at answers log.taken a more is)
    ∙ ap
    (λ r. took (whole y) (answer_of a) (map answer_of (drop (log.taken + 1) answers)) r (world_of w answers log))
    (write_is y a.memory w ∙ ap (λ t. made_by t (poked y.listing a.memory w)) goes)
    ∙ ap
    (λ (k : Whole).
    Took (answer_of a) (world_of k answers (record { taken = log.taken + 1; events = log.events; end = log.end })))
    (hide_is y a.hidden (poked y.listing a.memory w))
