-- Each access of a listing's frame has ends that are offsets of 32 bits of a stack.
use Rattle.std.proofs.Common.{◌≡◌, ◌≤◌, ◌^◌, Option, Some, arith, refl, sym, subst}
use Rattle.std.specs.Prelude.{IsSome}
use Rattle.std.proofs.lemmas.Int.{ints}
use Rattle.pcode_model.specs.declared.frame.FrameAccess.{FrameAccess}
use Rattle.pcode_model.specs.declared.listing.Listing.{Listing}
use Rattle.pcode_model.specs.declared.listing.Varnode.{Varnode}
use Rattle.frame_facts.specs.Accesses.{frame_limit, stack_width}
use Rattle.frame_facts.proofs.Bounded.{IsKnown, limit_near}
use Rattle.plain_valid.specs.Long.{IsLongAccess}

has_one : (o : Option Varnode) (sp : Varnode) → o ≡ Some sp → IsSome o
has_one o sp is = subst (λ (x : Option Varnode). IsSome x) (sym is) refl

pub long_access : (l : Listing) (a : FrameAccess) → IsKnown l a → IsLongAccess l a
long_access l a known =
    let near : frame_limit (stack_width l) ≤ 2 ^ 20 = limit_near (stack_width l) in
    let few = known.few.1 in
    let from = known.within.0 in
    let to = known.within.1 in
    record {
      begins = omega (arith, ints);
      ends = omega (arith, ints);
      stack = has_one l.stack known.pointer known.is_pointer;
    }
