-- What an op leaves of ranges of which it writes no byte, over any memory.
use Rattle.std.proofs.Common.{◌≡◌, ℕ, false, List, Option, Some, None, refl, sym, ap, ◌∙◌}
use Rattle.std.specs.Prelude.{Result, Ok, Err}
use Rattle.machine.specs.Trace.{End}
use Rattle.pcode_model.specs.declared.listing.SpaceKind.{SpaceKind}
use Rattle.pcode_model.specs.declared.listing.SpaceKind.TheVariants.{Constant, Ram, Register, Unique}
use Rattle.pcode_model.specs.declared.listing.Varnode.{Varnode}
use Rattle.pcode_model.specs.declared.listing.Place.{Place}
use Rattle.pcode_model.specs.declared.listing.Listing.{Listing}
use Rattle.pcode_model.specs.declared.opcode.Opcode.{Opcode}
use Rattle.pcode_model.specs.declared.opcode.Opcode.TheVariants as O
use Rattle.pcode_model.specs.declared.listing.Instruction.{Instruction}
use Rattle.pcode_model.specs.Spaces.{kind_of}
use Rattle.pcode_model.specs.Memory.{Acts, Bytes}
use Rattle.pcode_model.specs.World.{Taken, Stops, Took}
use Rattle.pcode_model.specs.Step.{State, Effect, Ends, Goes, Writes, Fetches, Puts, Calls, Asks, moved, in_world, local_word, write_varnode, write_out, fetched, asked, output, gone, apply, divided, effect_of}
use Rattle.range_words.specs.Ranges.{IsInside}
use Rattle.range_words.proofs.Variables.{read_else}
use Rattle.frame_facts.specs.Facts.{shares, writes}
use Rattle.frame_runs.proofs.Words.{apart_from}

-- the effect writes to this output, if at all, and calls nothing
abbrev pub WritesTo : Option Varnode → Effect → Type 0
WritesTo out (Ends e) = Unit {0}
WritesTo out (Goes to) = Unit {0}
WritesTo out (Writes o n) = o ≡ out
WritesTo out (Fetches o own space a) = o ≡ out
WritesTo out (Puts own space a k n) = Unit {0}
WritesTo out (Calls to args p r) = ⊥
WritesTo out (Asks index args o) = o ≡ out

divided_to : (out : Option Varnode) (o : Option ℕ) → WritesTo out (divided out o)
divided_to out None = tt
divided_to out (Some n) = refl

abbrev pub IsCall : Opcode → Type 0
IsCall O.Call = Unit {0}
IsCall O.CallInd = Unit {0}
IsCall code = ⊥

pub writes_to : (l : Listing) (own : Option ℕ) (i : Instruction) (n : ℕ) (b : Bytes) (code : Opcode)
    (out : Option Varnode)
    (vs : List Varnode) (ws : List ℕ)
    → (IsCall code → ⊥)
    → WritesTo out (effect_of l own i n b code out vs ws)
writes_to l own i n b (O.Unary op) out vs ws other = refl
writes_to l own i n b (O.Binary op) out vs ws other = refl
writes_to l own i n b (O.Divide op) out vs ws other = divided_to out _
writes_to l own i n b O.Load out vs ws other = refl
writes_to l own i n b O.Store out vs ws other = tt
writes_to l own i n b O.Branch out vs ws other = tt
writes_to l own i n b O.CBranch out vs ws other = tt
writes_to l own i n b O.BranchInd out vs ws other = tt
writes_to l own i n b O.Call out vs ws other = absurd (other tt)
writes_to l own i n b O.CallInd out vs ws other = absurd (other tt)
writes_to l own i n b O.CallOther out vs ws other = refl
writes_to l own i n b O.Return out vs ws other = tt
writes_to l own i n b (O.Float name) out vs ws other = tt
writes_to l own i n b (O.FloatConversion op) out vs ws other = tt
writes_to l own i n b (O.Analysis op) out vs ws other = tt
writes_to l own i n b (O.LeftOut op) out vs ws other = tt

module _
    {M : Type 0}
    (m : Acts M)
    (l : Listing)
    (out : Option Varnode)
    (fits : (w : Varnode) → out ≡ Some w → IsInside l w)
    (v : Varnode)
    (inside : IsInside l v)
    (unwritten : writes out v ≡ false)
  where
    varnode_keeps : (k : SpaceKind) (w : Varnode) (n : ℕ) (s : State M)
        → IsInside l w
        → shares w v ≡ false
        → local_word l v (write_varnode m l k w n s).local ≡ local_word l v s.local
    varnode_keeps Constant w n s h apart = refl
    varnode_keeps Ram w n s h apart = refl
    varnode_keeps Register w n s h apart = read_else l w n s.local h v inside (apart_from w v apart)
    varnode_keeps Unique w n s h apart = read_else l w n s.local h v inside (apart_from w v apart)

    out_keeps : (o : Option Varnode) (n : ℕ) (s : State M)
        → o ≡ out
        → local_word l v (write_out m l o n s).local ≡ local_word l v s.local
    out_keeps None n s e = refl
    out_keeps (Some w) n s e =
        varnode_keeps (kind_of l w.space) w n s (fits w (sym e)) (ap (λ x. writes x v) e ∙ unwritten)

    fetched_keeps : (o : Option Varnode) (r : Result ℕ End) (s : State M)
        → o ≡ out
        → local_word l v (fetched m l o r s).local ≡ local_word l v s.local
    fetched_keeps o (Err e) s is = refl
    fetched_keeps o (Ok n) s is = out_keeps o n s is

    asked_keeps : (o : Option Varnode) (t : Taken M) (s : State M)
        → o ≡ out
        → local_word l v (asked m l o t s).local ≡ local_word l v s.local
    asked_keeps o (Stops w) s is = refl
    asked_keeps o (Took a w) s is = out_keeps o (output o a.word) (in_world w s) is

    gone_keeps : (to : Option Place) (s : State M) → local_word l v (gone to s).local ≡ local_word l v s.local
    gone_keeps None s = refl
    gone_keeps (Some p) s = refl

    -- A range of which the op writes no byte keeps its word.
    pub effect_keeps : (next : Place) (e : Effect) (s : State M)
        → WritesTo out e
        → local_word l v (apply m l next e s).local ≡ local_word l v s.local
    effect_keeps next (Ends e) s is = refl
    effect_keeps next (Goes to) s is = gone_keeps to s
    effect_keeps next (Writes o n) s is = out_keeps o n (moved next s) is
    effect_keeps next (Fetches o own space a) s is = fetched_keeps o _ (moved next s) is
    effect_keeps next (Puts own space a k n) s is = refl
    effect_keeps next (Calls to args p r) s is = absurd is
    effect_keeps next (Asks index args o) s is = asked_keeps o _ (moved next s) is
