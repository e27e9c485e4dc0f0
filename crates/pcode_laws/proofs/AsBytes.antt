-- The world of a memory that is seen as bytes goes as the world of the bytes does.
use Rattle.std.proofs.Common.{◌≡◌, ℕ, Bool, true, false, List, [], ◌∷◌, length, refl, ap, ◌∙◌}
use Rattle.std.specs.Prelude.{Result, Ok, Err}
use Rattle.machine.specs.Trace.{Event, End, Store, ReadOnlyWrite}
use Rattle.pcode_model.specs.declared.listing.Listing.{Listing}
use Rattle.pcode_model.specs.Spaces.{size_of, next, each_at, is_fixed}
use Rattle.pcode_model.specs.Memory.{ByteWrite, HiddenWrite, Acts, Bytes, Apart, any_fixed, apart, plain, poke, poke_apart, unless}
use Rattle.pcode_model.specs.World.{Answer, World, Took, and_then, hide_all, store, stored_as, take_answer, take_from, took, write_all}
use Rattle.pcode_laws.specs.AsBytes.{AsBytes, with_value, seen_over, taken_over}

-- ---- the memory with bytes of frame variables apart

pokes_apart : (size s a : ℕ) (bs : List ℕ) (w : Apart)
    → (each_at size (poke_apart s) a bs w).bytes ≡ each_at size (poke s) a bs w.bytes
pokes_apart size s a [] w = refl
pokes_apart size s a (b ∷ bs) w = pokes_apart size s (next size a) bs (poke_apart s a b w)

unless_with : {A B : Type 0} (f : A → B) (b : Bool) (e : End) (r : Result A End)
    → with_value f (unless b e r) ≡ unless b e (with_value f r)
unless_with f true e r = refl
unless_with f false e r = refl

-- The memory of the frame run is seen as its bytes.
pub apart_as_bytes : (l : Listing) → AsBytes (apart l) l (λ w. w.bytes)
apart_as_bytes l = record {
  read = λ s a k w. refl;
  write = λ s a bs w.
      let size = size_of l s in
      let fixed = any_fixed l s a (length bs) in
      unless_with (λ (v : Apart). v.bytes) fixed ReadOnlyWrite (Ok (each_at size (poke_apart s) a bs w))
      ∙ ap (λ m. unless fixed ReadOnlyWrite (Ok m)) (pokes_apart size s a bs w);
  answer = λ x w. unless_with (λ (v : Apart). v.bytes) (is_fixed l x.space x.offset) ReadOnlyWrite
      (Ok (poke_apart x.space x.offset x.value w));
  hide = λ x w. refl;
}

-- ---- any such memory

stored_over : {M N : Type 0} (look : M → N) (x : Event) (r : Result M End) (w : World M)
    → seen_over look (stored_as x r w) ≡ stored_as x (with_value look r) (seen_over look w)
stored_over look x (Ok m) w = refl
stored_over look x (Err e) w = refl

took_over : {M : Type 0} (m : Acts M) (l : Listing) (look : M → Bytes) (a : Answer) (rest : List Answer)
    (r : Result M End) (w : World M)
    → ((n : M) → look (hide_all m a.hidden n) ≡ hide_all (plain l) a.hidden (look n))
    → taken_over look (took m a rest r w) ≡ took (plain l) a rest (with_value look r) (seen_over look w)
took_over m l look a rest (Err e) w hidden = refl
took_over m l look a rest (Ok n) w hidden =
    ap (λ (b : Bytes). Took a (record { memory = b; answers = rest; events = w.events; over = w.over })) (hidden n)

module _ {M : Type 0} (m : Acts M) (l : Listing) (look : M → Bytes) (is : AsBytes m l look) where
  -- A store is the same store of the bytes.
  pub store_over : (s a : ℕ) (bs : List ℕ) (w : World M)
      → seen_over look (store m s a bs w) ≡ store (plain l) s a bs (seen_over look w)
  store_over s a bs w = stored_over look (Store s a bs) (m.write s a bs w.memory) w
      ∙ ap (λ r. stored_as (Store s a bs) r (seen_over look w)) (is.write s a bs w.memory)

  then_over : (x : ByteWrite) (xs : List ByteWrite) (r : Result M End)
      → ((n : M) → with_value look (write_all m xs n) ≡ write_all (plain l) xs (look n))
      → with_value look (and_then r (write_all m xs)) ≡ and_then (with_value look r) (write_all (plain l) xs)
  then_over x xs (Ok n) h = h n
  then_over x xs (Err e) h = refl

  writes_over : (xs : List ByteWrite) (w : M)
      → with_value look (write_all m xs w) ≡ write_all (plain l) xs (look w)
  writes_over [] w = refl
  writes_over (x ∷ xs) w = then_over x xs (m.answer x w) (λ n. writes_over xs n)
      ∙ ap (λ r. and_then r (write_all (plain l) xs)) (is.answer x w)

  hides_over : (xs : List HiddenWrite) (w : M) → look (hide_all m xs w) ≡ hide_all (plain l) xs (look w)
  hides_over [] w = refl
  hides_over (x ∷ xs) w = hides_over xs (m.hide x w) ∙ ap (hide_all (plain l) xs) (is.hide x w)

  takes_from : (answers : List Answer) (w : World M)
      → taken_over look (take_from m answers w) ≡ take_from (plain l) answers (seen_over look w)
  takes_from [] w = refl
  takes_from (a ∷ rest) w =
      took_over m l look a rest (write_all m a.memory w.memory) w (λ n. hides_over a.hidden n)
      ∙ ap (λ r. took (plain l) a rest r (seen_over look w)) (writes_over a.memory w.memory)

  -- The next answer is taken as over the bytes.
  pub takes_over : (w : World M)
      → taken_over look (take_answer m w) ≡ take_answer (plain l) (seen_over look w)
  takes_over w = takes_from w.answers w
