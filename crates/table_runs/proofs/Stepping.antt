-- An op of a slice, in a run over any memory: what was written to each space still says what its bytes are.
use Rattle.std.proofs.Common.{◌≡◌, ◌≢◌, ℕ, zero, suc, ◌<◌, Bool, true, false, cond, List, [], ◌∷◌, map, Option, Some, None, Result, Ok, Err, refl, sym, ap, ◌∙◌, subst, ⊎_elim, arith}
use Rattle.std.specs.Prelude.{◌==◌, ◌&&◌, if◌then◌else◌}
use Rattle.std.proofs.lemmas.Bool.Decides.{nat_tests}
use Rattle.bits_core.specs.declared.ops.Unary.{Unary}
use Rattle.bits_core.specs.declared.ops.Divide.{Divide}
use Rattle.bits_core.specs.declared.ops.Binary.{Binary}
use Rattle.bits_core.specs.declared.ops.Binary.TheVariants as B
use Rattle.bits_core.specs.Value.{IsBinarySized, IsUnarySized, binary_value, divide_value, limit}
use Rattle.machine.specs.Trace.{End}
use Rattle.pcode_model.specs.declared.listing.SpaceKind.{SpaceKind}
use Rattle.pcode_model.specs.declared.listing.SpaceKind.TheVariants.{Constant, Ram, Register, Unique}
use Rattle.pcode_model.specs.declared.listing.Varnode.{Varnode}
use Rattle.pcode_model.specs.declared.listing.Instruction.{Instruction}
use Rattle.pcode_model.specs.declared.listing.Place.{Place}
use Rattle.pcode_model.specs.declared.listing.Listing.{Listing}
use Rattle.pcode_model.specs.declared.opcode.Opcode.{Opcode}
use Rattle.pcode_model.specs.declared.opcode.Opcode.TheVariants as O
use Rattle.pcode_model.specs.Spaces.{is_big, kind_of}
use Rattle.pcode_model.specs.Places.{branch_place, next_place}
use Rattle.pcode_model.specs.Memory.{Acts, Frame}
use Rattle.pcode_model.specs.World.{World}
use Rattle.pcode_model.specs.Step.{State, apply, as_word, byte_address, divided, effect_at, fetched, gone, in_range, moved, operands, read_all, read_at, read_varnode, size_out, varnode_at, with_first, with_word, word_in_bytes, write_out, write_varnode}
use Rattle.range_words.specs.Ranges.{AreBytes}
use Rattle.range_words.proofs.Variables.{bytes_written}
use Rattle.table_form.specs.Trees.{Tree, Entry, Number, End as Leaf, More}
use Rattle.table_form.specs.Slices.{Trace, Written, binary_tree, output_tree, part_tree, parts, read, together, with_byte, with_output, wrote}
use Rattle.table_runs.specs.Words.{Words}
use Rattle.table_runs.specs.Shapes.{HasShape, IsLocalRange, IsRead, One, Two, Divides, Loads, Tests}
use Rattle.table_runs.proofs.Making.{binary_says, divide_says, load_says, unary_says}
use Rattle.table_runs.proofs.Reading.{Traces}
use Rattle.table_runs.proofs.Sound.{Says}
use Rattle.table_runs.proofs.Together.{range_says}
use Rattle.table_runs.proofs.Writing.{writes_traces}

-- bytes that nothing has written are one part
untouched_parts : (last : ℕ → Option Written) (o k : ℕ)
    → ((p : ℕ) → last p ≡ None)
    → 0 < k
    → parts last o k ≡ record { writer = None; from = o; size = k } ∷ []
untouched_parts last o zero none some = absurd (omega (arith, some))
untouched_parts last o (suc zero) none some = ap (λ w. record { writer = w; from = o; size = 1 } ∷ []) (none o)
untouched_parts last o (suc (suc k)) none some =
    ap (with_byte (last o) o) (untouched_parts last (suc o) (suc k) none (omega arith))
    ∙ ap (λ w. with_byte w o (record { writer = None; from = suc o; size = suc k } ∷ [])) (none o)

-- What is asked of the state in which a run enters the slice: the words of ranges are those that it holds, and those
-- of memory what a read of it gives.
pub record Enters {M : Type 0} (m : Acts M) (l : Listing) (e : Words) (first : State M) : Type 0 where
  pub constants : kind_of l 0 ≡ Constant
  pub small : AreBytes first.local
  pub locals : (s o k : ℕ) → kind_of l s ≢ Ram → e.range s o k ≡ word_in_bytes l s o k first.local
  pub rams : (s o k n : ℕ)
      → kind_of l s ≡ Ram
      → as_word l s (m.read s o k first.world.memory) ≡ Ok n
      → (e.range s o k ≡ n) × (n < limit k)

module _
    {M : Type 0}
    (m : Acts M)
    (l : Listing)
    (f : Frame)
    (e : Words)
    (first : State M)
    (enters : Enters m l e first)
  where
    -- The slice was entered in the state `first`, and its ops up to here have written this.
    pub record Holds (t : Trace) (s : State M) : Type 0 where
      pub world : s.world ≡ first.world
      pub bytes : AreBytes s.local
      pub traces : (space : ℕ) → Traces l e space (t space) first.local s.local
      pub untouched : (space o : ℕ) → kind_of l space ≡ Ram → t space o ≡ None

    -- ---- operands

    module _ (t : Trace) (s : State M) (h : Holds t s) where
      abbrev WordOf : Varnode → ℕ → Type 0
      WordOf v n = read_varnode m l (kind_of l v.space) v s ≡ Ok n

      -- the tree of a varnode that is no constant
      other_tree : (v : Varnode)
          → v.space ≢ 0
          → read l t v ≡ together (is_big l v.space) v.size (map (part_tree l v.space) (parts (t v.space) v.offset v.size))
      other_tree v other = by (v.space == 0) refl
        where
          whole : Tree
          whole = together (is_big l v.space) v.size (map (part_tree l v.space) (parts (t v.space) v.offset v.size))

          by : (b : Bool) → (v.space == 0) ≡ b → cond b (Number v.offset v.size) whole ≡ whole
          by true g = let same : v.space ≡ 0 = grind (arith, nat_tests) in absurd (other same)
          by false g = refl

      constant_says : (v : Varnode) → IsRead l v → v.space ≡ 0 → Says e (read l t v) v.size v.offset
      constant_says v is zero_space =
          let same : read l t v ≡ Number v.offset v.size =
          ap (λ n. cond (n == 0) (Number v.offset v.size)
          (together (is_big l v.space) v.size (map (part_tree l v.space) (parts (t v.space) v.offset v.size)))) zero_space in
          subst (λ tree. Says e tree v.size v.offset) (sym same)
          (record { is = refl; wide = refl; sound = is.fits zero_space })

      ram_says : (v : Varnode) (n : ℕ)
          → IsRead l v
          → kind_of l v.space ≡ Ram
          → as_word l v.space (m.read v.space v.offset v.size s.world.memory) ≡ Ok n
          → v.space ≢ 0
          → Says e (read l t v) v.size n
      ram_says v n is kind w other =
          let had = enters.rams v.space v.offset v.size n kind
          (ap (λ (x : World M). as_word l v.space (m.read v.space v.offset v.size x.memory)) (sym h.world) ∙ w) in
          let one = untouched_parts (t v.space) v.offset v.size (λ p. h.untouched v.space p kind) is.some in
          let same : read l t v ≡ Entry v.space v.offset v.size =
          other_tree v other ∙ ap (λ ps. together (is_big l v.space) v.size (map (part_tree l v.space) ps)) one in
          subst (λ tree. Says e tree v.size n) (sym same)
          (record { is = had.0; wide = refl; sound = rw had.0 had.1 })

      local_says : (v : Varnode) (n : ℕ)
          → IsRead l v
          → kind_of l v.space ≢ Ram
          → v.space ≢ 0
          → Says e (read l t v) v.size (word_in_bytes l v.space v.offset v.size s.local)
      local_says v n is kind other =
          subst (λ tree. Says e tree v.size (word_in_bytes l v.space v.offset v.size s.local)) (sym (other_tree v other))
          (range_says l e v.space (t v.space) first.local s.local (λ o k. enters.locals v.space o k kind) enters.small h.bytes
          (h.traces v.space) v.offset v.size (is.inside other))

      -- An operand's tree has the word that is read.
      pub operand_says : (v : Varnode) (n : ℕ) → IsRead l v → WordOf v n → Says e (read l t v) v.size n
      operand_says v n is w = by (kind_of l v.space) refl w
        where
          elsewhere : (k : SpaceKind) → kind_of l v.space ≡ k → k ≢ Constant → v.space ≢ 0
          elsewhere k g other zero_space = other (sym g ∙ ap (kind_of l) zero_space ∙ enters.constants)

          by : (k : SpaceKind) → kind_of l v.space ≡ k → read_varnode m l k v s ≡ Ok n → Says e (read l t v) v.size n
          by Constant g r = let same : v.offset ≡ n = cc in subst (Says e (read l t v) v.size) same (constant_says v is (is.home g))
          by Ram g r = ram_says v n is g r (elsewhere Ram g (λ x. cc))
          by Register g r =
              let same : word_in_bytes l v.space v.offset v.size s.local ≡ n = cc in
              subst (Says e (read l t v) v.size) same
              (local_says v n is (λ x. no_ram (sym g ∙ x)) (elsewhere Register g (λ x. cc)))
            where
              no_ram : Register ≡ Ram → ⊥
              no_ram x = cc
          by Unique g r =
              let same : word_in_bytes l v.space v.offset v.size s.local ≡ n = cc in
              subst (Says e (read l t v) v.size) same
              (local_says v n is (λ x. no_ram (sym g ∙ x)) (elsewhere Unique g (λ x. cc)))
            where
              no_ram : Unique ≡ Ram → ⊥
              no_ram x = cc

      -- ---- what is written

      local_holds : (z : Varnode) (tree : Tree) (n : ℕ) (next : Place)
          → IsLocalRange l z
          → Says e tree z.size n
          → Holds (wrote z tree t) (record { at = next; local = with_word l z n s.local; world = s.world })
      local_holds z tree n next is says = record {
        world = h.world;
        bytes = bytes_written l z n s.local h.bytes;
        traces = writes_traces l e z tree n is.inside says t first.local s.local h.traces;
        untouched = λ space o kind. by space o kind (space == z.space && in_range z o) refl;
      }
        where
          not_ram : kind_of l z.space ≡ Ram → ⊥
          not_ram g = ⊎_elim (λ x. registers (sym x ∙ g)) (λ x. uniques (sym x ∙ g)) is.kind
            where
              registers : Register ≡ Ram → ⊥
              registers x = cc

              uniques : Unique ≡ Ram → ⊥
              uniques x = cc

          by : (space o : ℕ)
              → kind_of l space ≡ Ram
              → (b : Bool)
              → (space == z.space && in_range z o) ≡ b
              → cond b (Some (record { to = z.offset; size = z.size; tree = tree })) (t space o) ≡ None
          by space o kind true g =
              let same : space ≡ z.space = grind (arith, nat_tests) in
              absurd (not_ram (ap (kind_of l) (sym same) ∙ kind))
          by space o kind false g = h.untouched space o kind

      -- The output is written, and its trace is the tree's.
      written_holds : (z : Varnode) (tree : Tree) (n : ℕ) (next : Place)
          → IsLocalRange l z
          → Says e tree z.size n
          → Holds (wrote z tree t) (write_out m l (Some z) n (moved next s))
      written_holds z tree n next is says =
          ⊎_elim
          (λ g. subst (λ k. Holds (wrote z tree t) (write_varnode m l k z n (moved next s))) (sym g) (local_holds z tree n next is says))
          (λ g. subst (λ k. Holds (wrote z tree t) (write_varnode m l k z n (moved next s))) (sym g) (local_holds z tree n next is says))
          is.kind

      -- ---- ops

      -- Where the op is a LOAD, what it reads is what its tree's LOAD gives.
      abbrev pub LoadSays : Opcode → Option Varnode → List Varnode → Type 0
      LoadSays O.Load out vs =
          (a n : ℕ)
          → as_word l (varnode_at vs 0).offset
          (read_at m (f.own s.at 0) (varnode_at vs 0).offset (byte_address l (varnode_at vs 0).offset a) (size_out out) s.world.memory)
          ≡ Ok n
          → (e.load (varnode_at vs 0).offset (size_out out) (More (read l t (varnode_at vs 1)) Leaf) a ≡ n)
          × (n < limit (size_out out))
      LoadSays code out vs = Unit {0}

      -- the state after an op of an instruction whose operands have these words
      abbrev pub After : Instruction → Opcode → Option Varnode → List Varnode → Result (List ℕ) End → State M
      After i code out vs ws =
          apply m l (next_place i s.at.index) (effect_at l f i (record { code = code; out = out; inputs = vs }) ws s) s

      -- after it, where the run goes on
      abbrev Keeps : Instruction → Opcode → Option Varnode → List Varnode → Result (List ℕ) End → Type 0
      Keeps i code out vs ws =
          (After i code out vs ws).world.over ≡ None
          → Holds (with_output out (output_tree l t code vs (size_out out)) t) (After i code out vs ws)

      abbrev result : Varnode → Result ℕ End
      result v = read_varnode m l (kind_of l v.space) v s

      abbrev division : Divide → Varnode → Varnode → Varnode → Tree
      division op z v w = output_tree l t (O.Divide op) (v ∷ w ∷ []) z.size

      abbrev loaded : Varnode → Varnode → Varnode → Tree
      loaded z space v = output_tree l t O.Load (space ∷ v ∷ []) z.size

      abbrev fetch : Varnode → Varnode → ℕ → Result ℕ End
      fetch z space a =
          as_word l space.offset
          (read_at m (f.own s.at 0) space.offset (byte_address l space.offset a) z.size s.world.memory)

      module _ (i : Instruction) where
        one_keeps : (op : Unary) (z v : Varnode)
            → IsUnarySized op v.size z.size
            → IsLocalRange l z
            → IsRead l v
            → Keeps i (O.Unary op) (Some z) (v ∷ []) (with_first (result v) (Ok []))
        one_keeps op z v sized made is = by (result v) refl
          where
            by : (r : Result ℕ End) → result v ≡ r → Keeps i (O.Unary op) (Some z) (v ∷ []) (with_first r (Ok []))
            by (Err x) g over = absurd (cc)
            by (Ok n) g over =
                written_holds z _ _ _ made
                (unary_says e op (v.space == 0) (read l t v) v.size z.size n made.some sized (operand_says v n is g))

        dropped_tree : (op : Binary) (k n : ℕ) (a b : Tree) (w : Varnode)
            → (op ≡ B.Subpiece → w.offset ≡ n)
            → binary_tree op k a b n ≡ binary_tree op k a b w.offset
        dropped_tree B.Subpiece k n a b w h = ap (binary_tree B.Subpiece k a b) (sym (h refl))
        dropped_tree op k n a b w h = refl

        constant_word : (w : Varnode) (n : ℕ) → w.space ≡ 0 → result w ≡ Ok n → w.offset ≡ n
        constant_word w n zero_space g =
            let kind : kind_of l w.space ≡ Constant = ap (kind_of l) zero_space ∙ enters.constants in
            let same : Ok w.offset ≡ Ok n = ap (λ k. read_varnode m l k w s) (sym kind) ∙ g in
            cc

        two_keeps : (op : Binary) (z v w : Varnode)
            → IsBinarySized op v.size w.size z.size
            → (op ≡ B.Subpiece → w.space ≡ 0)
            → IsLocalRange l z
            → IsRead l v
            → IsRead l w
            → Keeps i (O.Binary op) (Some z) (v ∷ w ∷ []) (with_first (result v) (with_first (result w) (Ok [])))
        two_keeps op z v w sized drops made is also = by (result v) (result w) refl refl
          where
            by : (r q : Result ℕ End)
                → result v ≡ r
                → result w ≡ q
                → Keeps i (O.Binary op) (Some z) (v ∷ w ∷ []) (with_first r (with_first q (Ok [])))
            by (Err x) q g h over = absurd (cc)
            by (Ok a) (Err x) g h over = absurd (cc)
            by (Ok a) (Ok b) g h over =
                written_holds z _ _ _ made
                (subst (λ tree. Says e tree z.size (binary_value op v.size a w.size b z.size))
                (dropped_tree op z.size b (read l t v) (read l t w) w (λ x. constant_word w b (drops x) h))
                (binary_says e op (read l t v) (read l t w) v.size w.size z.size a b made.some sized
                (operand_says v a is g) (operand_says w b also h)))

        divide_keeps : (op : Divide) (z v w : Varnode)
            → v.size ≡ z.size
            → w.size ≡ z.size
            → IsLocalRange l z
            → IsRead l v
            → IsRead l w
            → Keeps i (O.Divide op) (Some z) (v ∷ w ∷ []) (with_first (result v) (with_first (result w) (Ok [])))
        divide_keeps op z v w one other made is also = by (result v) (result w) refl refl
          where
            wide : (v : Varnode) (n : ℕ) → v.size ≡ z.size → Says e (read l t v) v.size n → Says e (read l t v) z.size n
            wide v n same h = subst (λ k. Says e (read l t v) k n) same h

            divided_keeps : (a b : ℕ)
                → result v ≡ Ok a
                → result w ≡ Ok b
                → (o : Option ℕ)
                → divide_value op z.size a b ≡ o
                → (apply m l (next_place i s.at.index) (divided (Some z) o) s).world.over ≡ None
                → Holds (wrote z (division op z v w) t) (apply m l (next_place i s.at.index) (divided (Some z) o) s)
            divided_keeps a b g h None d over = absurd (cc)
            divided_keeps a b g h (Some n) d over =
                written_holds z (division op z v w) n _ made
                (divide_says e op (read l t v) (read l t w) z.size a b n
                (wide v a one (operand_says v a is g)) (wide w b other (operand_says w b also h)) d)

            by : (r q : Result ℕ End)
                → result v ≡ r
                → result w ≡ q
                → Keeps i (O.Divide op) (Some z) (v ∷ w ∷ []) (with_first r (with_first q (Ok [])))
            by (Err x) q g h over = absurd (cc)
            by (Ok a) (Err x) g h over = absurd (cc)
            by (Ok a) (Ok b) g h over = divided_keeps a b g h (divide_value op z.size a b) refl over

        load_keeps : (z space v : Varnode)
            → IsLocalRange l z
            → IsRead l v
            → LoadSays O.Load (Some z) (space ∷ v ∷ [])
            → Keeps i O.Load (Some z) (space ∷ v ∷ []) (with_first (result v) (Ok []))
        load_keeps z space v made is says = by (result v) refl
          where
            fetched_keeps : (a : ℕ)
                → result v ≡ Ok a
                → (r : Result ℕ End)
                → fetch z space a ≡ r
                → (fetched m l (Some z) r (moved (next_place i s.at.index) s)).world.over ≡ None
                → Holds (wrote z (loaded z space v) t) (fetched m l (Some z) r (moved (next_place i s.at.index) s))
            fetched_keeps a g (Err x) had over = absurd (cc)
            fetched_keeps a g (Ok n) had over =
                let known = says a n had in
                written_holds z (loaded z space v) n _ made
                (load_says e space.offset z.size v.size a n (read l t v) (operand_says v a is g) known.0 known.1)

            by : (r : Result ℕ End) → result v ≡ r → Keeps i O.Load (Some z) (space ∷ v ∷ []) (with_first r (Ok []))
            by (Err x) g over = absurd (cc)
            by (Ok a) g over = fetched_keeps a g (fetch z space a) refl over

        gone_keeps : (to : Option Place) → (gone to s).world.over ≡ None → Holds t (gone to s)
        gone_keeps None over = absurd (cc)
        gone_keeps (Some p) over =
            record { world = h.world; bytes = h.bytes; traces = h.traces; untouched = h.untouched }

        test_keeps : (to v : Varnode) → Keeps i O.CBranch None (to ∷ v ∷ []) (with_first (result v) (Ok []))
        test_keeps to v = by (result v) refl
          where
            by : (r : Result ℕ End) → result v ≡ r → Keeps i O.CBranch None (to ∷ v ∷ []) (with_first r (Ok []))
            by (Err x) g over = absurd (cc)
            by (Ok n) g over =
                gone_keeps (if n == 0 then Some (next_place i s.at.index) else branch_place i s.at.index to) over

        -- After an op of a slice, where the run goes on, what was written still says what the bytes are.
        pub op_keeps : (code : Opcode) (out : Option Varnode) (vs : List Varnode)
            → HasShape l code out vs
            → LoadSays code out vs
            → Keeps i code out vs (read_all m l f s (operands l code vs))
        op_keeps code out vs (One op z v sized made is) says = one_keeps op z v sized made is
        op_keeps code out vs (Two op z v w sized drops made is also) says = two_keeps op z v w sized drops made is also
        op_keeps code out vs (Divides op z v w one other made is also) says = divide_keeps op z v w one other made is also
        op_keeps code out vs (Loads z space v made is) says = load_keeps z space v made is says
        op_keeps code out vs (Tests to v is) says = test_keeps to v
