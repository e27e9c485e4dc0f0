-- What stands for the pop of the stack pointer behind a call. For a pop of 0 nothing is done, as the listing's run writes
-- the word that the stack pointer has.
use Rattle.std.proofs.Common.{◌≡◌, ℕ, zero, suc, ◌+◌, ◌%◌, ◌≤◌, Bool, List, length, Option, Some, None, refl, sym, ap, ◌∙◌, subst, arith}
use Rattle.std.specs.Prelude.{IfSome}
use Rattle.std.proofs.Math.Nat.{mod-eq_of_lt, mod-lt}
use Rattle.bits_core.specs.Value.{limit}
use Rattle.bits_core.proofs.Limits.{limit_pos}
use Rattle.pcode_model.specs.declared.listing.Varnode.{Varnode}
use Rattle.pcode_model.specs.declared.listing.Place.{Place}
use Rattle.pcode_model.specs.declared.listing.Proto.{Proto}
use Rattle.pcode_model.specs.declared.listing.Listing.{Listing}
use Rattle.pcode_model.specs.Memory.{Acts, Bytes}
use Rattle.pcode_model.specs.World.{World}
use Rattle.pcode_model.specs.Step.{State, local_word, with_pop, with_word}
use Rattle.pcode_laws.specs.AsBytes.{AsBytes}
use Rattle.range_words.specs.Own.{HasOwn}
use Rattle.range_words.specs.Ranges.{AreBytes, Holds}
use Rattle.range_words.proofs.Variables.{local_word_below, written_same}
use Rattle.cmeaning.specs.declared.tree.Stmt.{Stmt}
use Rattle.cmeaning.specs.declared.tree.Stmt.TheVariants as S
use Rattle.cmeaning.specs.Do.{Local}
use Rattle.blockcode.proofs.Straight.{run_all}
use Rattle.op_code.specs.Made.{above, pops, pops_by}
use Rattle.op_code.specs.Form.{IsGiven}
use Rattle.op_code.proofs.Kept.{pop_own}
use Rattle.op_code.proofs.Pointer.{above_means}
use Rattle.op_code.proofs.Sees.{AreWide, Meets, Sees, Setting, seen_bytes}
use Rattle.op_code.proofs.Sets.{assign_makes, range_meets}

module _
    {M : Type 0}
    (m : Acts M)
    (l : Listing)
    (look : M → Bytes)
    (own : M → ℕ → ℕ)
    (ranges : List Varnode)
    (ws : ℕ → ℕ)
    (is : AsBytes m l look)
    (has : HasOwn m l look own)
    (set : Setting l ranges ws)
    (next : Place)
    (bytes : Bytes)
    (w : World M)
    (returns : List Stmt → Bool)
    (k : ℕ)
    (behind : length ranges ≤ k)
    (y : Local)
    (on : y.world.over ≡ None)
  where
    -- the state before, and the one with the pop of a stack pointer, where there is one
    abbrev before : State M
    before = record { at = next; local = bytes; world = w }

    abbrev popped : Option Varnode → ℕ → State M
    popped st pop = record { at = next; local = with_pop l st pop bytes; world = w }

    module _ (seen : Sees l ranges look own before y) where
      abbrev all : Bytes
      all = seen_bytes l own before

      -- 0 leaves the bytes
      none_popped : (sp : Varnode) → IsGiven l ranges sp → seen_bytes l own (popped (Some sp) 0) ≡ all
      none_popped sp given =
          let n = local_word l sp all in
          let none : n + 0 ≡ n = omega arith in
          pop_own l (own w.memory) set.registers sp 0 bytes given.0
          ∙ ap (λ j. with_word l sp (j % limit sp.size) all) none
          ∙ ap (λ j. with_word l sp j all) (mod-eq_of_lt (local_word_below l sp all seen.bytes))
          ∙ written_same l sp all seen.bytes

      pops_so : (st : Option Varnode) (pop : ℕ)
          → IfSome st (IsGiven l ranges)
          → AreWide ws k (pops_by st pop l ranges k).locals
          → Meets l ranges look own next (popped st pop) (run_all l ws returns (pops_by st pop l ranges k).statements y)
      pops_so None pop given wide = record { sees = seen; at = λ g. refl }
      pops_so (Some sp) zero given wide =
          let same = none_popped sp given in
          let H : Bytes → Type 0 = λ b. Holds l ranges b y.env in
          let B : Bytes → Type 0 = λ b. AreBytes b in
          record {
            sees = record {
              world = seen.world;
              holds = subst H (sym same) seen.holds;
              bytes = subst B (sym same) seen.bytes;
              memory = seen.memory;
              answers = seen.answers;
            };
            at = λ g. refl;
          }
      pops_so (Some sp) (suc n) given wide =
          let e = above l ranges sp (suc n) in
          let word = (local_word l sp all + suc n) % limit sp.size in
          range_meets m l look own ranges ws is has set next before y y on on seen returns (λ u. S.Assign u e) k sp word
          (popped (Some sp) (suc n)) given.1.0 given.1.1
          (mod-lt (local_word l sp all + suc n) (limit_pos sp.size)) behind wide
          (assign_makes l ws y e sp.size word
          (above_means l ranges ws set all y.env seen.holds seen.bytes sp given.1.0 given.1.1 (suc n)))
          (pop_own l (own w.memory) set.registers sp (suc n) bytes given.0) refl refl

      -- The pop by a prototype.
      pub pops_meet : (p : Proto)
          → IfSome l.stack (IsGiven l ranges)
          → AreWide ws k (pops l ranges k p).locals
          → Meets l ranges look own next (popped l.stack p.pop)
          (run_all l ws returns (pops l ranges k p).statements y)
      pops_meet p given wide = pops_so l.stack p.pop given wide
