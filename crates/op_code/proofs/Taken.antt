-- An answer is taken: memory stays bytes, and the code's run takes the same one.
use Rattle.std.proofs.Common.{◌≡◌, ℕ, ◌<◌, Bool, true, false, List, [], ◌∷◌, Some, None, refl, sym, ap, ◌∙◌, subst}
use Rattle.std.specs.Prelude.{Result, Ok, Err}
use Rattle.machine.specs.Trace.{End, Event, NoAnswer, ReadOnlyWrite}
use Rattle.pcode_model.specs.declared.listing.Place.{Place}
use Rattle.pcode_model.specs.declared.listing.Listing.{Listing}
use Rattle.pcode_model.specs.declared.listing.Varnode.{Varnode}
use Rattle.pcode_model.specs.Memory.{Acts, ByteWrite, Bytes, HiddenWrite, plain, poke, unless}
use Rattle.pcode_model.specs.Spaces.{is_fixed}
use Rattle.pcode_model.specs.World.{AllAnswers, AllWrites, Answer, IsAnswer, Stops, Taken, Took, World, and_then, hide_all, recorded, take_answer, take_from, took, write_all}
use Rattle.pcode_model.specs.Step.{State, in_world, moved}
use Rattle.pcode_laws.specs.AsBytes.{AsBytes, seen_over, taken_over, with_value}
use Rattle.pcode_laws.proofs.AsBytes.{takes_over}
use Rattle.range_words.specs.Own.{HasOwn}
use Rattle.range_words.specs.Ranges.{AreBytes}
use Rattle.range_words.proofs.Variables.{byte_put}
use Rattle.cmeaning.specs.Do.{Local}
use Rattle.cmeaning.specs.Do as code
use Rattle.op_code.proofs.Sees.{Meets, Sees, sees_on}

module _
    {M : Type 0}
    (m : Acts M)
    (l : Listing)
    (look : M → Bytes)
    (own : M → ℕ → ℕ)
    (is : AsBytes m l look)
    (has : HasOwn m l look own)
  where
    -- ---- what an answer writes

    -- where there is a memory, it holds bytes, and the frame these
    abbrev HasBytes : (ℕ → ℕ) → Result M End → Type 0
    HasBytes g (Ok w) = AreBytes (look w) × (own w ≡ g)
    HasBytes g (Err e) = Unit {0}

    write_bytes : (g : ℕ → ℕ) (x : ByteWrite) (fixed : Bool) (w : M) (r : Result M End)
        → x.value < 256
        → AreBytes (look w)
        → own w ≡ g
        → m.answer x w ≡ r
        → with_value look r ≡ unless fixed ReadOnlyWrite (Ok (poke x.space x.offset x.value (look w)))
        → HasBytes g r
    write_bytes g x fixed w (Err e) small are frame ran same = tt
    write_bytes g x true w (Ok n) small are frame ran same = absurd (cc)
    write_bytes g x false w (Ok n) small are frame ran same =
        let there : look n ≡ poke x.space x.offset x.value (look w) = cc in
        let P : Bytes → Type 0 = λ b. AreBytes b in
        (subst P (sym there) (byte_put x.space x.offset x.value (look w) small are), has.answer x w n ran ∙ frame)

    then_bytes : (g : ℕ → ℕ) (r : Result M End) (next : M → Result M End)
        → HasBytes g r
        → ((n : M) → AreBytes (look n) → own n ≡ g → HasBytes g (next n))
        → HasBytes g (and_then r next)
    then_bytes g (Ok n) next are on = on n are.0 are.1
    then_bytes g (Err e) next are on = tt

    writes_bytes : (g : ℕ → ℕ) (xs : List ByteWrite) (w : M)
        → AllWrites l xs
        → AreBytes (look w)
        → own w ≡ g
        → HasBytes g (write_all m xs w)
    writes_bytes g [] w all are frame = (are, frame)
    writes_bytes g (x ∷ xs) w all are frame =
        then_bytes g (m.answer x w) (write_all m xs)
        (write_bytes g x (is_fixed l x.space x.offset) w (m.answer x w) all.0.1.1 are frame refl (is.answer x w))
        (λ n there same. writes_bytes g xs n all.1 there same)

    -- what it hides isn't seen
    hides_none : (xs : List HiddenWrite) (w : M) → look (hide_all m xs w) ≡ look w
    hides_none [] w = refl
    hides_none (x ∷ xs) w = hides_none xs (m.hide x w) ∙ is.hide x w

    hides_own : (xs : List HiddenWrite) (w : M) → own (hide_all m xs w) ≡ own w
    hides_own [] w = refl
    hides_own (x ∷ xs) w = hides_own xs (m.hide x w) ∙ has.hide x w

    -- ---- what a call leads to, where the frame had these bytes

    -- The run has ended.
    pub record IsStopped (g : ℕ → ℕ) (w : World M) : Type 0 where
      pub end : End
      pub over : w.over ≡ Some end
      pub memory : AreBytes (look w.memory)
      pub frame : own w.memory ≡ g
      pub answers : AllAnswers l w.answers

    -- The run goes on.
    pub record IsTaken (g : ℕ → ℕ) (a : Answer) (w : World M) : Type 0 where
      pub answer : IsAnswer l a
      pub over : w.over ≡ None
      pub memory : AreBytes (look w.memory)
      pub frame : own w.memory ≡ g
      pub answers : AllAnswers l w.answers

    abbrev pub IsTakenSo : (ℕ → ℕ) → Taken M → Type 0
    IsTakenSo g (Stops w) = IsStopped g w
    IsTakenSo g (Took a w) = IsTaken g a w

    took_so : (a : Answer) (rest : List Answer) (r : Result M End) (w : World M)
        → IsAnswer l a
        → AllAnswers l rest
        → AllAnswers l w.answers
        → w.over ≡ None
        → AreBytes (look w.memory)
        → HasBytes (own w.memory) r
        → IsTakenSo (own w.memory) (took m a rest r w)
    took_so a rest (Err e) w answer others left go are there =
        record { end = e; over = refl; memory = are; frame = refl; answers = left }
    took_so a rest (Ok n) w answer others left go are there =
        let P : Bytes → Type 0 = λ b. AreBytes b in
        record {
          answer = answer;
          over = go;
          memory = subst P (sym (hides_none a.hidden n)) there.0;
          frame = hides_own a.hidden n ∙ there.1;
          answers = others;
        }

    takes_so_from : (answers : List Answer) (w : World M)
        → AllAnswers l answers
        → AllAnswers l w.answers
        → w.over ≡ None
        → AreBytes (look w.memory)
        → IsTakenSo (own w.memory) (take_from m answers w)
    takes_so_from [] w all left go are =
        record { end = NoAnswer; over = refl; memory = are; frame = refl; answers = left }
    takes_so_from (a ∷ rest) w all left go are =
        took_so a rest (write_all m a.memory w.memory) w all.0 all.1 left go are
        (writes_bytes (own w.memory) a.memory w.memory all.0.memory are refl)

    -- The next answer is taken, or the run ends.
    pub takes_so : (w : World M)
        → w.over ≡ None
        → AreBytes (look w.memory)
        → AllAnswers l w.answers
        → IsTakenSo (own w.memory) (take_answer m w)
    takes_so w go are all = takes_so_from w.answers w all all go are

    -- ---- both runs

    -- what a call leaves that has no target
    abbrev pub left_by : Answer → World Bytes → Local → Local
    left_by a w x = record { env = x.env; left = a.registers; world = w }

    module _ (ranges : List Varnode) (s : State M) (x : Local) (sees : Sees l ranges look own s x) where
      -- The code takes the same answer.
      pub takes_same : (e : Event)
          → take_answer (plain l) (recorded e x.world) ≡ taken_over look (take_answer m (recorded e s.world))
      takes_same e =
          ap (λ w. take_answer (plain l) (recorded e w)) (sym sees.world) ∙ sym (takes_over m l look is (recorded e s.world))

      pub sees_taken : (a : Answer) (w : World M)
          → IsTaken (own s.world.memory) a w
          → Sees l ranges look own (in_world w s) (left_by a (seen_over look w) x)
      sees_taken a w taken =
          sees_on l ranges look own s (in_world w s) x (left_by a (seen_over look w) x) sees refl taken.frame refl refl
          taken.memory taken.answers

      pub stops_meets : (next : Place) (w : World M)
          → IsStopped (own s.world.memory) w
          → Meets l ranges look own next (in_world w (moved next s)) (code.in_world (seen_over look w) x)
      stops_meets next w stopped = record {
        sees = sees_on l ranges look own s (in_world w (moved next s)) x (code.in_world (seen_over look w) x) sees refl
            stopped.frame refl refl stopped.memory stopped.answers;
        at = λ g. refl;
      }
