-- What a walk finds is what the definitions have.
use Rattle.std.proofs.Common.{◌≡◌, List, [], IsPermutation, subst, sym}
use Rattle.std.specs.Prelude.{ℤ, ◌<ℤ◌, ◌↔◌}
use Rattle.std.specs.List.{dedup}
use Rattle.std.specs.List.Sorted.{IsSorted}
use Rattle.std.specs.Ordering.{int_cmp, int_eq}
use Rattle.pcode_model.specs.declared.flow.Block.{Block}
use Rattle.pcode_model.specs.declared.listing.Listing.{Listing}
use Rattle.pcode_model.specs.Flow.{IsFlow, IsIn}
use Rattle.frame_facts.specs.Accesses.{IsFrameAccess}
use Rattle.frame_facts.specs.Listed.{IsAccessBefore, IsEscape, IsFactBefore, IsListedFact, Lists}
use Rattle.frame_known.specs.declared.known.Known.{Known}
use Rattle.frame_known.specs.Known.{AreKnown}
use Rattle.frames.specs.Walk.{accesses_found, escapes_found, facts_found}
use Rattle.frames.proofs.AllAccesses.{accesses_are}
use Rattle.frames.proofs.Escaping.{escapes_are}
use Rattle.frames.proofs.AllFacts.{facts_are, rising_of}
use Rattle.frames.proofs.Rising.{all_kept, kept_rising}
use Rattle.frame_known.proofs.Found.{rises}

module _ (l : Listing) (blocks : List Block) (k : Known) (are : AreKnown l blocks k) where
  pub accesses_listed : IsFlow l [] blocks
      → Lists (IsFrameAccess l [] []) IsAccessBefore (accesses_found l k.slots k.rows.items blocks)
  accesses_listed flow = accesses_are l blocks k.slots k.rows.items are flow

  pub facts_listed : IsFlow l [] blocks
      → Lists (IsListedFact l []) IsFactBefore (facts_found l k.slots k.rows.items blocks)
  facts_listed flow =
      let ks = k.slots.keys.items in
      facts_are l blocks k.slots k.rows.items are flow (rising_of ks (rises ks are.slots.rising))

  -- What was found, sorted and each kept once, is what escapes.
  pub escapes_listed : IsFlow l [] blocks
      → (found sorted kept : List ℤ)
      → found ≡ escapes_found l k.slots k.rows.items blocks
      → IsPermutation found sorted
      → IsSorted int_cmp sorted
      → kept ≡ dedup int_eq sorted
      → Lists (IsEscape l []) ◌<ℤ◌ kept
  escapes_listed flow found sorted kept are_found permuted in_order is =
      let each : (o : ℤ) → IsIn o kept ↔ IsEscape l [] o =
      λ o.
      let some = all_kept found sorted kept permuted in_order is o in
      let all = escapes_are l blocks k.slots k.rows.items are flow o in (
        λ h. all.0 (subst (λ xs. IsIn o xs) are_found (some.0 h)),
        λ e. some.1 (subst (λ xs. IsIn o xs) (sym are_found) (all.1 e)),
      )
      in
      record { each = each; in_order = kept_rising found sorted kept permuted in_order is }
