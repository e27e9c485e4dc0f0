-- What a LOAD and a STORE make of a state.
use Rattle.std.proofs.Common.{◌≡◌, ◌*◌, ◌%◌, ℕ, Bool, List, [], ◌∷◌, Option, Some, Result, Ok, sym, ap, ◌∙◌}
use Rattle.std.proofs.lemmas.Nat.{mul-mod_first}
use Rattle.bits_core.specs.Bytes.{word_bytes}
use Rattle.bits_core.specs.declared.word.Word.{Word}
use Rattle.machine.specs.Trace.{End}
use Rattle.pcode_model.specs.declared.listing.Listing.{Listing}
use Rattle.pcode_model.specs.declared.listing.Instruction.{Instruction}
use Rattle.pcode_model.specs.declared.listing.Op.{Op}
use Rattle.pcode_model.specs.declared.listing.Place.{Place}
use Rattle.pcode_model.specs.declared.listing.Varnode.{Varnode}
use Rattle.pcode_model.specs.declared.opcode.Opcode.TheVariants as O
use Rattle.pcode_model.specs.Memory.{Acts, Frame, Layout, Whole, whole}
use Rattle.pcode_model.specs.Places.{Does, next_place}
use Rattle.pcode_model.specs.Spaces.{is_big, size_of, word_size}
use Rattle.pcode_model.specs.Step.{State, all_but_first, as_word, byte_address, bytes_in, fetched, in_world, moved, put_at, read_all, read_at, size_out, step_at, varnode_at}
use Rattle.pcode_model.specs.World.{World}
use Rattle.pcode_run.proofs.Doing.{does}

pub address_is : (l : Listing) (space offset n k words to : ℕ)
    → n ≡ size_of l space
    → k ≡ word_size l space
    → words ≡ offset % n
    → to ≡ (words * k) % n
    → to ≡ byte_address l space offset
address_is l space offset n k words to size is first second =
    second
    ∙ ap (λ x. (x * k) % n) first
    ∙ mul-mod_first offset k n
    ∙ ap (λ x. (offset * x) % n) is
    ∙ ap (λ x. (offset * word_size l space) % x) size

-- a write of a frame variable, whichever offset it has
pub own_put : (y : Layout) (l : Listing) (s : State Whole) (w : Whole) (own : Option ℕ) (c space a k n : ℕ)
    (big : Bool) (bs : List ℕ)
    → own ≡ Some c
    → big ≡ is_big l space
    → bs ≡ word_bytes big k n
    → ((d : ℕ) → w ≡ (whole y).write_own a d bs s.world.memory)
    → (let t : World Whole =
    record { memory = w; answers = s.world.answers; events = s.world.events; over = s.world.over } in
    in_world t s)
    ≡ in_world (put_at (whole y) own space a (bytes_in l space k n) s.world) s
own_put y l s w own c space a k n big bs is order bytes wrote =
    let with : Whole → State Whole =
    λ x. (let t : World Whole =
    record { memory = x; answers = s.world.answers; events = s.world.events; over = s.world.over } in
    in_world t s) in
    ap with (wrote c
    ∙ ap (λ (xs : List ℕ). (whole y).write_own a c xs s.world.memory)
    (bytes ∙ ap (λ (b : Bool). word_bytes b k n) order))
    ∙ ap (λ (o : Option ℕ). in_world (put_at (whole y) o space a (bytes_in l space k n) s.world) s) (sym is)

module _ {M : Type 0} (m : Acts M) (l : Listing) (f : Frame) (i : Instruction) (s : State M) (op : Op) (a : Word)
    (v : Varnode) (own : Option ℕ) (address : ℕ) (next : Place) where
  pub loaded : (size : ℕ) (r : Result ℕ End)
      → op.code ≡ O.Load
      → read_all m l f s (all_but_first op.inputs) ≡ Ok (a.value ∷ [])
      → v ≡ varnode_at op.inputs 0
      → own ≡ f.own s.at 0
      → address ≡ byte_address l v.offset a.value
      → next ≡ next_place i s.at.index
      → size ≡ size_out op.out
      → r ≡ as_word l v.offset (read_at m own v.offset address size s.world.memory)
      → fetched m l op.out r (moved next s) ≡ step_at m l f (Does i op) s
  loaded size r kind read is owns to then wide got =
      ap (λ (x : Result ℕ End). fetched m l op.out x (moved next s))
      (got ∙ ap (λ x. as_word l v.offset (read_at m own v.offset address x s.world.memory)) wide)
      ∙ ap
      (λ (p : Place).
      fetched m l op.out (as_word l v.offset (read_at m own v.offset address (size_out op.out) s.world.memory))
      (moved p s))
      then
      ∙ ap
      (λ (o : Option ℕ).
      fetched m l op.out (as_word l v.offset (read_at m o v.offset address (size_out op.out) s.world.memory))
      (moved (next_place i s.at.index) s))
      owns
      ∙ ap
      (λ x. fetched m l op.out
      (as_word l v.offset (read_at m (f.own s.at 0) v.offset x (size_out op.out) s.world.memory))
      (moved (next_place i s.at.index) s))
      to
      ∙ ap
      (λ (w : Varnode).
      fetched m l op.out
      (as_word l w.offset
      (read_at m (f.own s.at 0) w.offset (byte_address l w.offset a.value) (size_out op.out) s.world.memory))
      (moved (next_place i s.at.index) s))
      is
      ∙ sym (does m l f i s op O.Load (Ok (a.value ∷ [])) kind read)

  pub stored : (b : Word) (w : Varnode)
      → op.code ≡ O.Store
      → read_all m l f s (all_but_first op.inputs) ≡ Ok (a.value ∷ b.value ∷ [])
      → v ≡ varnode_at op.inputs 0
      → w ≡ varnode_at op.inputs 2
      → own ≡ f.own s.at 0
      → address ≡ byte_address l v.offset a.value
      → next ≡ next_place i s.at.index
      → in_world (put_at m own v.offset address (bytes_in l v.offset w.size b.value) (moved next s).world)
      (moved next s)
      ≡ step_at m l f (Does i op) s
  stored b w kind read is third owns to then =
      ap
      (λ (p : Place).
      in_world (put_at m own v.offset address (bytes_in l v.offset w.size b.value) s.world) (moved p s))
      then
      ∙ ap
      (λ (o : Option ℕ). in_world (put_at m o v.offset address (bytes_in l v.offset w.size b.value) s.world)
      (moved (next_place i s.at.index) s))
      owns
      ∙ ap
      (λ x. in_world (put_at m (f.own s.at 0) v.offset x (bytes_in l v.offset w.size b.value) s.world)
      (moved (next_place i s.at.index) s))
      to
      ∙ ap
      (λ (x : Varnode). in_world
      (put_at m (f.own s.at 0) v.offset (byte_address l v.offset a.value)
      (bytes_in l v.offset x.size b.value) s.world)
      (moved (next_place i s.at.index) s))
      third
      ∙ ap
      (λ (x : Varnode). in_world
      (put_at m (f.own s.at 0) x.offset (byte_address l x.offset a.value)
      (bytes_in l x.offset (varnode_at op.inputs 2).size b.value) s.world)
      (moved (next_place i s.at.index) s))
      is
      ∙ sym (does m l f i s op O.Store (Ok (a.value ∷ b.value ∷ [])) kind read)
