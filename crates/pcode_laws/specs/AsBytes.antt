-- Memories that are seen as bytes: what is done to one is done to the bytes that are seen of it. A law of such a memory
-- holds of each run, however its memory keeps the bytes apart. This project's own.
use Rattle.std.specs.Prelude.{◌≡◌, ℕ, List, Result, Ok, Err}
use Rattle.machine.specs.Trace.{End}
use Rattle.pcode_model.specs.declared.listing.Listing.{Listing}
use Rattle.pcode_model.specs.Memory.{ByteWrite, HiddenWrite, Acts, Bytes, plain}
use Rattle.pcode_model.specs.World.{World, Taken, Stops, Took}

-- another value in place of the one that there is, unless the run ends
abbrev pub with_value : {A B : Type 0} → (A → B) → Result A End → Result B End
with_value f (Ok x) = Ok (f x)
with_value f (Err e) = Err e

-- A pointer's reads and writes and the bytes that an answer writes are those of bytes alone, and what an answer hides
-- isn't seen.
pub record AsBytes {M : Type 0} (m : Acts M) (l : Listing) (look : M → Bytes) : Type 0 where
  pub read : (s a k : ℕ) (w : M) → m.read s a k w ≡ (plain l).read s a k (look w)
  pub write : (s a : ℕ) (bs : List ℕ) (w : M) → with_value look (m.write s a bs w) ≡ (plain l).write s a bs (look w)
  pub answer : (x : ByteWrite) (w : M) → with_value look (m.answer x w) ≡ (plain l).answer x (look w)
  pub hide : (x : HiddenWrite) (w : M) → look (m.hide x w) ≡ look w

-- the world over what is seen of its memory
abbrev pub seen_over : {M N : Type 0} → (M → N) → World M → World N
seen_over look w = record { memory = look w.memory; answers = w.answers; events = w.events; over = w.over }

abbrev pub taken_over : {M N : Type 0} → (M → N) → Taken M → Taken N
taken_over look (Stops w) = Stops (seen_over look w)
taken_over look (Took a w) = Took a (seen_over look w)
