-- The frame of a listing: two of them have the same accesses, and without a stack pointer it is empty.
use Rattle.std.proofs.Common.{◌≡◌, ◌∙◌, ℕ, List, Some, None, sym}
use Rattle.pcode_model.specs.declared.listing.Varnode.{Varnode}
use Rattle.pcode_model.specs.declared.listing.Place.{Place}
use Rattle.pcode_model.specs.declared.listing.Listing.{Listing}
use Rattle.pcode_model.specs.declared.tables.TableAt.{TableAt}
use Rattle.pcode_model.specs.declared.frame.Frame.{Frame}
use Rattle.pcode_model.specs.declared.frame.FrameAccess.{FrameAccess}
use Rattle.pcode_model.specs.Flow.{IsIn}
use Rattle.pcode_model.specs.Frame.{no_variables}
use Rattle.frame_facts.specs.Facts.{Fact}
use Rattle.frame_facts.specs.Accesses.{IsFrameAccess}
use Rattle.frame_facts.specs.Listed.{IsFrame}

module _ (l : Listing) (t : List TableAt) (evaluated : List Place) where
  -- what one of them has the other has
  pub same_accesses : (f g : Frame)
      → IsFrame l t evaluated f
      → IsFrame l t evaluated g
      → (a : FrameAccess)
      → IsIn a f.accesses
      → IsIn a g.accesses
  same_accesses f g is also a here = (also.accesses.each a).1 ((is.accesses.each a).0 here)

  module _ (none : l.stack ≡ None) where
    no_pointer : (v : Varnode) → l.stack ≡ Some v → ⊥
    no_pointer v is = let e : None ≡ Some v = sym none ∙ is in cc

    never_known : (p : Place) (v : Varnode) (c : ℕ) → Fact l t p v c → ⊥
    never_known p v c fact = let can = (fact.1.1).can p v c fact.1.0 in no_pointer can.stack can.is

    never_access : (a : FrameAccess) → IsFrameAccess l t evaluated a → ⊥
    never_access a is = never_known a.place is.by.base is.base is.fact

    -- Without a stack pointer nothing is known of the stack.
    pub without_pointer : IsFrame l t evaluated no_variables
    without_pointer = record {
      facts = record {
        each = λ x. (λ is. absurd is, λ h. never_known x.place x.range h.1.0 h.1.1.0);
        in_order = tt;
      };
      escapes = record {
        each = λ o. (λ is. absurd is, λ h. never_known h.1.0.at h.1.0.range h.0 h.1.0.fact);
        in_order = tt;
      };
      accesses = record {
        each = λ a. (λ is. absurd is, λ h. never_access a h.1.is_class.access);
        in_order = tt;
      };
      variables = record {
        each = λ v. (λ is. absurd is, λ h. never_access h.0 h.1.is_class.access);
        in_order = tt;
      };
    }
