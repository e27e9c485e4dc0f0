-- Loads and stores of the code are those of the listing.
use Rattle.std.proofs.Common.{◌≡◌, ℕ, ◌%◌, ◌*◌, ◌<◌, ◌≤◌, Bool, true, false, List, length, Option, Some, None, refl, sym, ap, ◌∙◌, subst, arith}
use Rattle.std.specs.Prelude.{Result, Ok, Err}
use Rattle.std.proofs.Math.Nat.{mod-eq_of_lt}
use Rattle.machine.specs.Trace.{End, Event, ReadOnlyWrite, Store}
use Rattle.bits_core.specs.Value.{limit}
use Rattle.pcode_model.specs.declared.listing.Space.{Space}
use Rattle.pcode_model.specs.declared.listing.SpaceKind.TheVariants.{Ram}
use Rattle.pcode_model.specs.declared.listing.Varnode.{Varnode}
use Rattle.pcode_model.specs.declared.listing.Place.{Place}
use Rattle.pcode_model.specs.declared.listing.Listing.{Listing}
use Rattle.pcode_model.specs.Spaces.{each_at, kind_in, offset_bytes_in, size_in, size_of, word_size}
use Rattle.std.specs.Prelude.{slice_get}
use Rattle.pcode_model.specs.Memory.{Acts, Bytes, any_fixed, plain, poke, unless}
use Rattle.pcode_model.specs.World.{AllAnswers, World, store, stored_as}
use Rattle.pcode_model.specs.Step.{State, as_word, byte_address, bytes_in, in_world, moved, word_in_bytes}
use Rattle.pcode_laws.specs.AsBytes.{AsBytes, seen_over}
use Rattle.pcode_laws.proofs.AsBytes.{store_over}
use Rattle.range_words.specs.Own.{HasOwn}
use Rattle.range_words.specs.Ranges.{AreBytes}
use Rattle.range_words.proofs.Variables.{bytes_stored}
use Rattle.cmeaning.specs.declared.tree.Expr.{Expr}
use Rattle.cmeaning.specs.declared.tree.Stmt.TheVariants as S
use Rattle.cmeaning.specs.Value.{width_of, value_of}
use Rattle.cmeaning.specs.Do.{Local, accessed, assigned, do_simple, loaded, stored, with_word}
use Rattle.cmeaning.specs.Do as code
use Rattle.cmeaning.proofs.Do.{do_load, do_store}
use Rattle.op_values.proofs.Means.{Means, constant_means}
use Rattle.op_values.proofs.Addresses.{address_means}
use Rattle.op_code.specs.Made.{address, address_of, name_of, offset_bytes}
use Rattle.op_code.specs.Form.{IsDirect, IsMemory}
use Rattle.op_code.proofs.Sees.{Meets, Sees, sees_on}

-- ---- addresses

limit_in : (o : Option Space) → kind_in o ≡ Ram → size_in o ≡ limit (offset_bytes_in o)
unfolding limit
limit_in None h = absurd (cc)
limit_in (Some s) h = refl

pub space_limit : (l : Listing) (s : ℕ) → IsMemory l s → size_of l s ≡ limit (offset_bytes l s)
space_limit l s is = limit_in (slice_get l.spaces s) is.ram

-- The expression's value, modulo the space, is this byte address of it.
pub record Points (ws : ℕ → ℕ) (env : ℕ → Option ℕ) (l : Listing) (s : ℕ) (e : Expr) (at : ℕ) : Type 0 where
  pub word : ℕ
  pub value : value_of ws env e ≡ Some word
  pub is : word % size_of l s ≡ at

module _ (ws : ℕ → ℕ) (env : ℕ → Option ℕ) (l : Listing) where
  -- an offset that counts words of the space
  pub address_points : (s w a : ℕ) (e : Expr)
      → IsMemory l s
      → 0 < w
      → w ≤ 16
      → Means ws env e w a
      → Points ws env l s (address l s w e) (byte_address l s a)
  address_points s w a e is some small m =
      let lim = space_limit l s is in
      let few : word_size l s < 256 = omega (arith, is.word) in
      let narrow : offset_bytes l s ≤ 16 = omega (arith, is.few) in
      let there = address_means ws env (offset_bytes l s) (word_size l s) is.some narrow few w a e some small m in
      record {
        word = there.word;
        value = there.means.value;
        is = ap (λ n. there.word % n) lim ∙ there.is ∙ ap (λ n. a * word_size l s % n) (sym lim);
      }

  -- where a direct range of memory lies
  pub direct_points : (v : Varnode) → IsDirect l v → Points ws env l v.space (address_of l v) v.offset
  direct_points v is =
      let lim = space_limit l v.space is.0 in
      let small : offset_bytes l v.space ≤ 16 = omega (arith, is.0.few) in
      let P : ℕ → Type 0 = λ n. v.offset < n in
      let m = constant_means ws env (offset_bytes l v.space) v.offset is.0.some small (subst P lim is.1) in
      record { word = v.offset; value = m.value; is = mod-eq_of_lt is.1 }

-- ---- statements

module _ (l : Listing) (ws : ℕ → ℕ) (returns : ℕ → Bool) (s : ℕ) (is : IsMemory l s) where
  pub load_runs : (v k at : ℕ) (e : Expr) (x : Local)
      → ws v ≡ k
      → Points ws x.env l s e at
      → do_simple l ws returns (S.Load v (name_of l s) e) x ≡ assigned v (word_in_bytes l s at k x.world.memory) x
  load_runs v k at e x wide points =
      let mem = x.world.memory in
      do_load l ws returns v (name_of l s) e x
      ∙ ap (λ o. with_word o x (λ a. assigned v (loaded l (accessed l (name_of l s)) (ws v) a mem) x)) points.value
      ∙ ap (λ t. assigned v (loaded l t (ws v) points.word mem) x) is.name
      ∙ ap (λ j. assigned v (loaded l s j points.word mem) x) wide
      ∙ ap (λ b. assigned v (word_in_bytes l s b k mem) x) points.is

  pub store_runs : (k n at : ℕ) (e d : Expr) (x : Local)
      → Points ws x.env l s e at
      → Means ws x.env d k n
      → do_simple l ws returns (S.Store (name_of l s) e d) x
      ≡ code.in_world (store (plain l) s at (bytes_in l s k n) x.world) x
  store_runs k n at e d x points m =
      do_store l ws returns (name_of l s) e d x
      ∙ ap (λ o. with_word o x (λ a. with_word (value_of ws x.env d) x
      (λ n. stored l (accessed l (name_of l s)) (width_of ws d) a n x))) points.value
      ∙ ap (λ o. with_word o x (λ n. stored l (accessed l (name_of l s)) (width_of ws d) points.word n x)) m.value
      ∙ ap (λ t. stored l t (width_of ws d) points.word n x) is.name
      ∙ ap (λ j. stored l s j points.word n x) m.width
      ∙ ap (λ b. code.in_world (store (plain l) s b (bytes_in l s k n) x.world) x) points.is

-- ---- both

-- memory stays bytes
stored_bytes : (l : Listing) (s a k n : ℕ) (fixed : Bool) (w : World Bytes)
    → AreBytes w.memory
    → (let bs = bytes_in l s k n in
    let r : Result Bytes End = unless fixed ReadOnlyWrite (Ok (each_at (size_of l s) (poke s) a bs w.memory)) in
    AreBytes (stored_as (Store s a bs) r w).memory)
stored_bytes l s a k n true w are = are
stored_bytes l s a k n false w are = bytes_stored l s a k n w.memory are

-- a store takes no answer
stored_answers : {M : Type 0} (l : Listing) (x : Event) (r : Result M End) (w : World M)
    → AllAnswers l w.answers
    → AllAnswers l (stored_as x r w).answers
stored_answers l x (Ok n) w are = are
stored_answers l x (Err e) w are = are

module _ {M : Type 0} (m : Acts M) (l : Listing) (look : M → Bytes) (is : AsBytes m l look) where
  -- a pointer's read has a value
  pub read_is : (s a k : ℕ) (w : M) → as_word l s (m.read s a k w) ≡ Ok (word_in_bytes l s a k (look w))
  read_is s a k w = ap (as_word l s) (is.read s a k w)

  module _ (own : M → ℕ → ℕ) (has : HasOwn m l look own) where
    -- a store leaves the bytes of the frame
    own_stored : (s a : ℕ) (bs : List ℕ) (w : World M) → own (store m s a bs w).memory ≡ own w.memory
    own_stored s a bs w = by (m.write s a bs w.memory) refl
      where
        by : (r : Result M End)
            → m.write s a bs w.memory ≡ r
            → own (stored_as (Store s a bs) r w).memory ≡ own w.memory
        by (Ok v) e = has.write s a bs w.memory v e
        by (Err h) e = refl

    -- the same store is made on both sides
    pub store_meets : (ranges : List Varnode) (next : Place) (at a k n : ℕ) (s : State M) (x : Local)
        → Sees l ranges look own s x
        → Meets l ranges look own next (in_world (store m at a (bytes_in l at k n) s.world) (moved next s))
        (code.in_world (store (plain l) at a (bytes_in l at k n) x.world) x)
    store_meets ranges next at a k n s x sees =
        let bs = bytes_in l at k n in
        let same = store_over m l look is at a bs s.world in
        let fixed = any_fixed l at a (length bs) in
        let P : World Bytes → Type 0 = λ w. AreBytes w.memory in
        record {
          sees = sees_on l ranges look own s (in_world (store m at a bs s.world) (moved next s)) x
              (code.in_world (store (plain l) at a bs x.world) x) sees refl (own_stored at a bs s.world)
              (same ∙ ap (store (plain l) at a bs) sees.world) refl
              (subst P (sym same) (stored_bytes l at a k n fixed (seen_over look s.world) sees.memory))
              (stored_answers l (Store at a bs) (m.write at a bs s.world.memory) s.world sees.answers);
          at = λ _. refl;
        }
