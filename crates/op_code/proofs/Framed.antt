-- What stands for a LOAD and a STORE of frame variables: their range is read, and written. Neither is observed.
use Rattle.std.proofs.Common.{◌≡◌, ℕ, ◌+◌, ◌≤◌, Bool, List, [], ◌∷◌, ◌++◌, length, Option, Some, None, refl, sym, ap, ◌∙◌, subst, inl, arith}
use Rattle.std.specs.Prelude.{Ok}
use Rattle.pcode_model.specs.declared.listing.Varnode.{Varnode}
use Rattle.pcode_model.specs.declared.listing.Instruction.{Instruction}
use Rattle.pcode_model.specs.declared.listing.Place.{Place}
use Rattle.pcode_model.specs.declared.listing.Listing.{Listing}
use Rattle.pcode_model.specs.declared.opcode.Opcode.{Opcode}
use Rattle.pcode_model.specs.declared.opcode.Opcode.TheVariants as O
use Rattle.pcode_model.specs.Memory.{Acts, Bytes, Frame}
use Rattle.pcode_model.specs.Places.{Does, next_place}
use Rattle.pcode_model.specs.Spaces.{first_ram, kind_of}
use Rattle.pcode_model.specs.World.{World}
use Rattle.pcode_model.specs.Step.{Reads, State, all_read, as_word, byte_address, bytes_in, fetched, in_world, local_word, moved, put_at, read_all, read_varnode, step_at, with_first, write_varnode}
use Rattle.pcode_laws.specs.AsBytes.{AsBytes}
use Rattle.range_words.specs.Own.{HasOwn, frame_range, with_own}
use Rattle.range_words.proofs.Own.{frame_word_is, frame_written}
use Rattle.range_words.proofs.Variables.{local_word_below}
use Rattle.cmeaning.specs.declared.tree.Stmt.{Stmt}
use Rattle.cmeaning.specs.declared.tree.Stmt.TheVariants as S
use Rattle.cmeaning.specs.Do.{Local}
use Rattle.blockcode.proofs.Straight.{run_all}
use Rattle.op_code.specs.Form.{IsLoad, IsOperand, IsOutput, IsStore}
use Rattle.op_code.specs.Made.{frame_word, loads_by, reads, sets_range, stores_by, word_at}
use Rattle.op_code.proofs.Computes.{computed, one_of, sets_meet}
use Rattle.op_code.proofs.Operands.{goes, range_has, reads_all, run_append, word_read}
use Rattle.op_code.proofs.Sees.{AreWide, Meets, Sees, Setting, seen_bytes, wide_back, wide_front}
use Rattle.op_code.proofs.Sets.{assign_makes, range_meets}
use Rattle.op_code.proofs.Steps.{op_of, own_load_step, own_store_step}

module _
    {M : Type 0}
    (m : Acts M)
    (l : Listing)
    (f : Frame)
    (look : M → Bytes)
    (own : M → ℕ → ℕ)
    (ranges : List Varnode)
    (ws : ℕ → ℕ)
    (is : AsBytes m l look)
    (has : HasOwn m l look own)
    (set : Setting l ranges ws)
    (i : Instruction)
    (s : State M)
    (x : Local)
    (go : s.world.over ≡ None)
    (sees : Sees l ranges look own s x)
    (n : ℕ)
    (free : length ranges ≤ n)
    (returns : List Stmt → Bool)
    (c : ℕ)
    (access : f.own s.at 0 ≡ Some c)
  where
    abbrev at : Place
    at = next_place i s.at.index

    abbrev done : Opcode → Option Varnode → List Varnode → State M
    done code out vs = step_at m l f (Does i (op_of code out vs)) s

    -- the address is read, and has a word
    abbrev address_read : (v : Varnode) → (a : ℕ) × (read_varnode m l (kind_of l v.space) v s ≡ Ok a)
    address_read v = word_read m l look is (kind_of l v.space) v s

    load_done : (z from v : Varnode)
        → IsLoad (Some c) l ranges from z
        → done O.Load (Some z) (from ∷ v ∷ [])
        ≡ write_varnode m l (kind_of l z.space) z (local_word l (frame_range l c z.size) (seen_bytes l own s))
        (moved at s)
    load_done z from v h =
        let a = address_read v in
        let to = byte_address l from.offset a.0 in
        let memory = s.world.memory in
        own_load_step m l f i s c from v z a.0 (ap (λ r. with_first r (Ok [])) a.1) access
        ∙ ap (λ r. fetched m l (Some z) (as_word l r (m.read_own to c z.size memory)) (moved at s)) h.0
        ∙ ap (λ r. fetched m l (Some z) (as_word l (first_ram l) r) (moved at s)) (has.read_own to c z.size memory)
        ∙ ap (λ w. write_varnode m l (kind_of l z.space) z w (moved at s))
        (sym (frame_word_is l set.even (own memory) s.local c z.size h.1.below))

    pub load_framed : (z from v : Varnode)
        → IsLoad (Some c) l ranges from z
        → IsOutput l ranges z
        → AreWide ws n (loads_by (Some c) l ranges n (Some z) (from ∷ v ∷ [])).locals
        → Meets l ranges look own at (done O.Load (Some z) (from ∷ v ∷ []))
        (run_all l ws returns (loads_by (Some c) l ranges n (Some z) (from ∷ v ∷ [])).statements x)
    load_framed z from v h out wide =
        let range = frame_range l c z.size in
        let word = local_word l range (seen_bytes l own s) in
        let e = frame_word l ranges c z.size in
        let there = done O.Load (Some z) (from ∷ v ∷ []) in
        sets_meet m l f look own ranges ws is has set at s go n free z returns (λ u. S.Assign u e) n x there out
        (omega arith) wide (goes m l f look own ranges ws is has set s go x sees)
        (inl (computed m l f look own ranges ws is has set at s go n free z (λ u. S.Assign u e) x there word sees
        (local_word_below l range (seen_bytes l own s) sees.bytes)
        (assign_makes l ws x e z.size word
        (range_has m l f look own ranges ws is has set s go range x.env out.0 h.1.cover sees.holds))
        (load_done z from v h)))

    -- ---- STORE

    -- the state in which these bytes are written to the frame
    abbrev written : (address : ℕ) → List ℕ → State M
    written address bs = in_world (put_at m (Some c) (first_ram l) address bs s.world) (moved at s)

    store_done : (to v w : Varnode) (b : ℕ)
        → IsStore (Some c) l ranges to w
        → read_all m l f s (all_read (w ∷ [])) ≡ Ok (b ∷ [])
        → done O.Store None (to ∷ v ∷ w ∷ [])
        ≡ written (byte_address l to.offset (address_read v).0) (bytes_in l (first_ram l) w.size b)
    store_done to v w b h read =
        let a = address_read v in
        let address = byte_address l to.offset a.0 in
        own_store_step m l f i s c to v w a.0 b
        (ap (λ r. with_first r (read_all m l f s (all_read (w ∷ [])))) a.1
        ∙ ap (λ r. with_first (Ok a.0) r) read) access
        ∙ ap (λ r. written address (bytes_in l r w.size b)) h.0

    pub store_framed : (to v w : Varnode)
        → IsStore (Some c) l ranges to w
        → IsOperand l ranges w
        → AreWide ws n (stores_by (Some c) l ranges n (to ∷ v ∷ w ∷ [])).locals
        → Meets l ranges look own at (done O.Store None (to ∷ v ∷ w ∷ []))
        (run_all l ws returns (stores_by (Some c) l ranges n (to ∷ v ∷ w ∷ [])).statements x)
    store_framed to v w h operand wide =
        let xs = Reads w ∷ [] in
        let reading = reads l (f.own s.at) ranges n xs in
        let k = n + length reading.locals in
        let d = word_at reading 0 in
        let range = frame_range l c w.size in
        let setting = sets_range l ranges k range (λ u. S.Assign u d) in
        let rest = λ (ss : List Stmt). returns (ss ++ setting.statements) in
        let y : Local = run_all l ws rest reading.loads x in
        let r = reads_all m l f look own ranges ws is has set s go xs rest n x (operand, tt) free
        (wide_front ws n reading.locals setting.locals wide) sees in
        let on = goes m l f look own ranges ws is has set s go y r.sees in
        let o = one_of m l f ws s y.env w d r.words r.have in
        let bs = bytes_in l (first_ram l) w.size o.word in
        let address = byte_address l to.offset (address_read v).0 in
        let memory = s.world.memory in
        let P : Local → Type 0 = λ u. Meets l ranges look own at (done O.Store None (to ∷ v ∷ w ∷ [])) u in
        let Q : State M → Type 0 = λ t. Meets l ranges look own at t (run_all l ws returns setting.statements y) in
        subst P (sym (run_append l ws returns reading.loads setting.statements x))
        (subst Q (sym (store_done to v w o.word h (r.read ∙ ap (λ q. Ok q) o.are)))
        (range_meets m l look own ranges ws is has set at s y y on on r.sees returns (λ u. S.Assign u d) k range o.word
        (written address bs) operand.0 h.1.cover o.has.below (omega (arith, free))
        (wide_back ws n reading.locals setting.locals wide) (assign_makes l ws y d w.size o.word o.has.means)
        (ap (λ g. with_own l g s.local) (has.write_own address c bs memory)
        ∙ frame_written l set.even (own memory) s.local c w.size o.word h.1.below)
        (ap (λ (b : Bytes). let v : World Bytes = record {
          memory = b;
          answers = s.world.answers;
          events = s.world.events;
          over = s.world.over;
        } in v) (has.look_own address c bs memory)) refl))
