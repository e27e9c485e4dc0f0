-- The code of the plain lowering shows what the listing shows.
use Rattle.std.proofs.Common.{◌≡◌, ◌+◌, ◌<◌, ◌%◌, ℕ, List, ◌++◌, length, map, Option, None, Some, refl, sym, ap, ◌∙◌, subst, arith}
use Rattle.std.specs.Prelude.{ℤ, pos, negsuc}
use Rattle.std.proofs.lemmas.List.{length-map}
use Rattle.machine.specs.TwoWay.{TwoWay}
use Rattle.machine.specs.Machine.{seen}
use Rattle.pcode_model.specs.declared.listing.Listing.{Listing}
use Rattle.pcode_model.specs.declared.storage.ParamStorage.{ParamStorage}
use Rattle.pcode_model.specs.declared.storage.ParamStorage.TheVariants as P
use Rattle.pcode_model.specs.declared.tables.TableAt.{TableAt}
use Rattle.pcode_model.specs.declared.atoms.Atom.{Atom}
use Rattle.pcode_model.specs.declared.flow.Block as flow_block
use Rattle.pcode_model.specs.Memory.{Acts, Frame, Bytes, or_else}
use Rattle.pcode_model.specs.Frame.{wrapped}
use Rattle.pcode_model.specs.Spaces.{first_ram}
use Rattle.pcode_model.specs.World.{Entry, IsEntry, first_world}
use Rattle.pcode_model.specs.Step.{first_apart, local_word, machine, stack0, start}
use Rattle.pcode_model.specs.declared.listing.Varnode.{Varnode}
use Rattle.pcode_model.specs.Flow.{starts_of}
use Rattle.pcode_laws.specs.AsBytes.{AsBytes}
use Rattle.range_words.specs.Own.{HasOwn, stack_size, with_own}
use Rattle.range_words.specs.Ranges.{AreBytes, Holds, IsInside}
use Rattle.range_words.proofs.Own.{frame_word_is, own_bytes, word_else}
use Rattle.cmeaning.specs.Step.{word_at}
use Rattle.blockcode.specs.Run.{first_word, first_local, start_code, seen_code}
use Rattle.op_values.proofs.Means.{nearest_is}
use Rattle.op_code.proofs.Entering.{entry_found}
use Rattle.op_code.proofs.Variables.{atom_at, locals_made, locals_wide, variable_get, variables_set}
use Rattle.op_code.specs.Lowered.{lowered, range_at, range_of, ranges_of, variable_for}
use Rattle.op_code.specs.Lowerable.{IsLowerable}
use Rattle.plain_laws.proofs.Exits.{Left}
use Rattle.plain_laws.proofs.Follows.{Given, follows}

-- ---- the start

-- an offset from the entry word is one of the stack's addresses
offset_below : (l : Listing) (o : ℤ) → 0 < stack_size l → wrapped (stack_size l) o < stack_size l
offset_below l (pos n) some = omega (arith, some)
offset_below l (negsuc n) some = omega (arith, some)

-- the frame variables' own bytes are bytes
first_bytes : (l : Listing) (e : Entry) → IsEntry l e → (o : ℕ) → (first_apart l e).own o < 256
first_bytes l e entry o =
    let a = (stack0 l e + o) % stack_size l in
    by (e.hidden a) (λ b is. entry.hidden a b is) (entry.bytes (first_ram l) a)
  where
    by : (h : Option ℕ) → ((b : ℕ) → h ≡ Some b → b < 256) → {n : ℕ} → n < 256 → or_else h n < 256
    by None hidden small = small
    by (Some b) hidden small = hidden b refl

module _
    (l : Listing)
    (t : List TableAt)
    (f : Frame)
    (blocks : List flow_block.Block)
    (atoms : List Atom)
    (form : IsLowerable l t f blocks atoms)
    (e : Entry)
  where
    -- what ranges of variables have at the entry
    abbrev entered : Bytes
    entered = with_own l (first_apart l e).own e.bytes

    word_is : (s : ParamStorage) (k : ℕ)
        → 0 < k
        → IsInside l (range_at l s k)
        → word_at l e k s ≡ local_word l (range_at l s k) entered
    word_is (P.Register o) k some inside =
        sym (word_else l (first_apart l e).own e.bytes (range_at l (P.Register o) k) form.registers)
    word_is (P.Unique o) k some inside =
        sym (word_else l (first_apart l e).own e.bytes (range_at l (P.Unique o) k) form.uniques)
    word_is (P.Stack o) k some inside =
        sym (frame_word_is l form.even (first_apart l e).own e.bytes (wrapped (stack_size l) o) k
        (offset_below l o (omega (arith, some, inside))))

    starts_held : Holds l (ranges_of l atoms) entered
        (first_local l (map variable_for atoms ++ locals_made l f blocks atoms) e).env
    starts_held n v is =
        let r = atom_at l atoms n v form.narrow is in
        let V : Varnode → Type 0 = λ w. IsInside l w in
        ap (first_word l e) (variable_get atoms (locals_made l f blocks atoms) n r.atom r.get)
        ∙ ap (λ k. Some (word_at l e k (r.atom).storage)) (nearest_is (r.atom).size r.narrow.0 r.narrow.1)
        ∙ ap (λ n. Some n)
        (word_is (r.atom).storage (r.atom).size r.narrow.0 (subst V (sym r.range) (form.table.inside n v is)))
        ∙ ap (λ w. Some (local_word l w entered)) r.range

-- ---- the run of the listing and that of the code

given : (l : Listing) (t : List TableAt) (f : Frame) (blocks : List flow_block.Block) (atoms : List Atom)
    → IsLowerable l t f blocks atoms
    → Given l t f blocks (ranges_of l atoms) (lowered l f blocks atoms)
given l t f blocks atoms form = record {
  first = length atoms;
  flow = form.flow;
  setting = variables_set l f blocks atoms t form;
  plain = form.plain;
  blocks_are = refl;
  free = omega (arith, length-map atoms (range_of l));
  wide = locals_wide l f blocks atoms;
}

-- The run of the code shows what the run of the listing shows, over any memory that holds the entry's bytes and is seen
-- as bytes, and whose frame variables have bytes of their own, which are first those that the frame run has.
pub keeps : {M : Type 0} (m : Acts M) (look : M → Bytes) (own : M → ℕ → ℕ) (l : Listing) (f : Frame) (t : List TableAt)
    (blocks : List flow_block.Block) (atoms : List Atom) (e : Entry) (w : M)
    → IsLowerable l t f blocks atoms
    → IsEntry l e
    → AsBytes m l look
    → HasOwn m l look own
    → look w ≡ e.bytes
    → own w ≡ (first_apart l e).own
    → TwoWay (seen (machine m l f) (start l e w)) (seen_code l (lowered l f blocks atoms) e)
keeps m look own l f t blocks atoms e w form entry as_bytes has_own is frame =
    let k = lowered l f blocks atoms in
    let P : Bytes → Type 0 = λ b. AreBytes b in
    let H : (ℕ → ℕ) → Type 0 = λ g. Holds l (ranges_of l atoms) (with_own l g e.bytes) (start_code l k e).local.env in
    let B : (ℕ → ℕ) → Type 0 = λ g. AreBytes (with_own l g e.bytes) in
    let left : Left l (ranges_of l atoms) look own (starts_of blocks) (start l e w) (start_code l k e) = record {
      sees = record {
        world = ap (λ b. first_world b e) is;
        holds = subst H (sym frame) (starts_held l t f blocks atoms form e);
        bytes = subst B (sym frame) (own_bytes l (first_apart l e).own e.bytes entry.bytes (first_bytes l e entry));
        memory = subst P (sym is) entry.bytes;
        answers = entry.answers;
      };
      at = λ g. (refl, entry_found l t blocks form.flow);
    } in
    follows m l f t blocks (ranges_of l atoms) k look own as_bytes has_own (given l t f blocks atoms form) (start l e w)
    (start_code l k e) left
