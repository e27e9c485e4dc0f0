-- The effects on a world whose memory is bytes alone.
use Rattle.std.proofs.Common.{◌≡◌, ℕ, ◌+◌, ◌<◌, ◌||◌, Bool, true, false, List, [], ◌∷◌, ◌++◌, length, drop, get_or, map, Option, Result, Ok, Err, refl, ap, ◌∙◌}
use Rattle.std.proofs.lemmas.List.{drop_more, map-append}
use Rattle.std.specs.List.{list_any}
use Rattle.machine.specs.Trace.{Store, End, ReadOnlyWrite}
use Rattle.pcode_model.specs.declared.listing.Listing.{Listing}
use Rattle.pcode_model.proofs.Members.{rest_at}
use Rattle.pcode_model.specs.Spaces.{size_of, any_at, each_at, is_fixed, is_some}
use Rattle.pcode_model.specs.Memory.{Bytes, HiddenWrite, plain, poke, unless}
use Rattle.pcode_model.specs.World.{World, Stops, Took, ended, recorded, with_memory, store, stored_as, write_all, hide_all, and_then, took, take_from, take_answer}
use Rattle.run_world.specs.declared.entry.Byte.{Byte}
use Rattle.run_world.specs.declared.entry.Answer.{Answer}
use Rattle.run_world.specs.declared.trace.Event.{Event}
use Rattle.run_world.specs.declared.shape.Shape.{Shape}
use Rattle.run_world.specs.declared.setting.Setting.{Setting}
use Rattle.run_world.specs.declared.log.Log.{Log}
use Rattle.run_world.specs.Maps.{at}
use Rattle.run_world.specs.Meaning.{written, poked, answer_of, event_of}
use Rattle.run_world.specs.Setting.{size, HasShape, IsSetting}
use Rattle.run_world.specs.Log.{world_of}

-- ---- tests of lists

pub any_here : {A : Type 0} (f : A → Bool) (xs : List A) (i : ℕ) (d : A)
    → i < length xs
    → f (get_or xs i d) ≡ true
    → list_any f (drop i xs) ≡ true
any_here f xs i d more is = ap (list_any f) (drop_more xs i d more) ∙ ap (λ b. b || list_any f (drop (i + 1) xs)) is

pub any_later : {A : Type 0} (f : A → Bool) (xs : List A) (i : ℕ) (d : A)
    → i < length xs
    → f (get_or xs i d) ≡ false
    → list_any f (drop i xs) ≡ list_any f (drop (i + 1) xs)
any_later f xs i d more isnt =
    ap (list_any f) (drop_more xs i d more) ∙ ap (λ b. b || list_any f (drop (i + 1) xs)) isnt

-- ---- read-only bytes

-- a setting looks up the read-only bytes of its listing
pub fixed_is : (l : Listing) (s : Setting) → IsSetting l s → (n o : ℕ) → is_some (at s.fixed n o) ≡ is_fixed l n o
fixed_is l s is n o = ap (λ (f : ℕ → ℕ → Option ℕ). is_some (f n o)) is.fixed

-- and so whether a range of a space of this shape meets one
pub meets_is : (l : Listing) (s : Setting) (shape : Shape) (n a k : ℕ)
    → IsSetting l s
    → HasShape l n shape
    → any_at (size shape) (λ o. is_some (at s.fixed n o)) a k ≡ any_at (size_of l n) (is_fixed l n) a k
meets_is l s shape n a k is has =
    ap (λ (f : ℕ → ℕ → Option ℕ). any_at (size shape) (λ o. is_some (f n o)) a k) is.fixed
    ∙ ap (λ z. any_at z (is_fixed l n) a k) has.size

-- ---- stores

pub store_refused : (l : Listing) (n a : ℕ) (bs : List ℕ) (w : World Bytes)
    → any_at (size_of l n) (is_fixed l n) a (length bs) ≡ true
    → store (plain l) n a bs w ≡ ended ReadOnlyWrite w
store_refused l n a bs w is =
    ap (λ b. stored_as (Store n a bs) (unless b ReadOnlyWrite (Ok (each_at (size_of l n) (poke n) a bs w.memory))) w) is

pub store_made : (l : Listing) (n a : ℕ) (bs : List ℕ) (w : World Bytes)
    → any_at (size_of l n) (is_fixed l n) a (length bs) ≡ false
    → store (plain l) n a bs w ≡ recorded (Store n a bs) (with_memory (each_at (size_of l n) (poke n) a bs w.memory) w)
store_made l n a bs w isnt =
    ap (λ b. stored_as (Store n a bs) (unless b ReadOnlyWrite (Ok (each_at (size_of l n) (poke n) a bs w.memory))) w)
    isnt

-- the world with another memory and one more event
pub recorded_is : {M : Type 0} (m m' : M) (answers : List Answer) (log : Log) (x : Event) (events : List Event)
    → m' ≡ m
    → events ≡ log.events ++ x ∷ []
    → world_of m' answers (record { taken = log.taken; events = events; end = log.end })
    ≡ recorded (event_of x) (with_memory m (world_of m' answers log))
recorded_is m m' answers log x events memory pushed =
    ap
    (λ (xs : List _).
    let w : World _ =
    record {
      memory = m';
      answers = map answer_of (drop log.taken answers);
      events = xs;
      over = Rattle.run_world.specs.Meaning.over_of log.end;
    } in
    w)
    (ap (map event_of) pushed ∙ map-append event_of log.events (x ∷ []))
    ∙ ap (λ (k : _). recorded (event_of x) (with_memory k (world_of m' answers log))) memory

-- ---- answers

abbrev made_if : Bool → Bytes → Result Bytes End
made_if true m = Err ReadOnlyWrite
made_if false m = Ok m

pub write_is : (l : Listing) (bs : List Byte) (m : Bytes)
    → write_all (plain l) (map written bs) m ≡ made_if (list_any (λ b. is_fixed l b.space b.offset) bs) (poked bs m)
write_is l [] m = refl
write_is l (b ∷ bs) m = one (is_fixed l b.space b.offset) (write_is l bs (poke b.space b.offset b.value m)) where
  one : (t : Bool)
      → write_all (plain l) (map written bs) (poke b.space b.offset b.value m)
      ≡ made_if (list_any (λ x. is_fixed l x.space x.offset) bs) (poked bs (poke b.space b.offset b.value m))
      → and_then (unless t ReadOnlyWrite (Ok (poke b.space b.offset b.value m))) (write_all (plain l) (map written bs))
      ≡ made_if (t || list_any (λ x. is_fixed l x.space x.offset) bs) (poked bs (poke b.space b.offset b.value m))
  one true e = refl
  one false e = e

pub hide_nothing : (l : Listing) (xs : List HiddenWrite) (m : Bytes) → hide_all (plain l) xs m ≡ m
hide_nothing l [] m = refl
hide_nothing l (x ∷ xs) m = hide_nothing l xs m

pub take_refused : (l : Listing) (m : Bytes) (answers : List Answer) (log : Log) (a : Answer)
    → log.taken < length answers
    → a ≡ get_or answers log.taken a
    → list_any (λ b. is_fixed l b.space b.offset) a.memory ≡ true
    → take_answer (plain l) (world_of m answers log) ≡ Stops (ended ReadOnlyWrite (world_of m answers log))
take_refused l m answers log a more is stops =
    ap (λ xs. take_from (plain l) (map answer_of xs) (world_of m answers log)) (rest_at answers log.taken a more is)
    ∙ ap
    (λ r. took (plain l) (answer_of a) (map answer_of (drop (log.taken + 1) answers)) r (world_of m answers log))
    (write_is l a.memory m ∙ ap (λ t. made_if t (poked a.memory m)) stops)

pub take_made : (l : Listing) (m : Bytes) (answers : List Answer) (log : Log) (a : Answer)
    → log.taken < length answers
    → a ≡ get_or answers log.taken a
    → list_any (λ b. is_fixed l b.space b.offset) a.memory ≡ false
    → take_answer (plain l) (world_of m answers log)
    ≡ Took (answer_of a)
    (world_of (poked a.memory m) answers (record { taken = log.taken + 1; events = log.events; end = log.end }))
take_made l m answers log a more is goes =
    ap (λ xs. take_from (plain l) (map answer_of xs) (world_of m answers log)) (rest_at answers log.taken a more is)
    ∙ ap
    (λ r. took (plain l) (answer_of a) (map answer_of (drop (log.taken + 1) answers)) r (world_of m answers log))
    (write_is l a.memory m ∙ ap (λ t. made_if t (poked a.memory m)) goes)
    ∙ ap
    (λ (k : Bytes).
    Took (answer_of a) (world_of k answers (record { taken = log.taken + 1; events = log.events; end = log.end })))
    (hide_nothing l (answer_of a).hidden (poked a.memory m))
