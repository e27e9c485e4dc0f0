-- Accesses of the frame fall into classes, and two frame variables that share a byte are one.
use Rattle.std.proofs.Common.{◌≡◌, ◌<◌, List, arith}
use Rattle.std.specs.Prelude.{ℤ, pos, ◌+ℤ◌, ◌-ℤ◌}
use Rattle.std.proofs.lemmas.Int.{ints}
use Rattle.pcode_model.specs.declared.listing.Place.{Place}
use Rattle.pcode_model.specs.declared.listing.Listing.{Listing}
use Rattle.pcode_model.specs.declared.tables.TableAt.{TableAt}
use Rattle.pcode_model.specs.declared.frame.FrameAccess.{FrameAccess}
use Rattle.pcode_model.specs.declared.frame.FrameVariable.{FrameVariable}
use Rattle.frame_facts.specs.Accesses.{AreJoined, Chained, IsByte, IsClass, IsFrameAccess, IsFrameVariable, Same, ShareByte}

module _ (l : Listing) (t : List TableAt) (evaluated : List Place) where
  abbrev Joined : FrameAccess → FrameAccess → Type 0
  Joined a b = AreJoined l t evaluated a b

  -- what is joined to an access is one
  pub joined_access : (a b : FrameAccess) → Joined a b → IsFrameAccess l t evaluated b
  joined_access a b (Same c is) = is
  joined_access a b (Chained c d e first is share) = is

  share_back : (a b : FrameAccess) → ShareByte a b → ShareByte b a
  share_back a b share = (share.0, (share.1.1, share.1.0))

  -- a chain goes on with another one
  pub joined_on : (a b c : FrameAccess) → Joined a b → Joined b c → Joined a c
  joined_on a b c first (Same d is) = first
  joined_on a b c first (Chained d e f rest is share) = Chained a e c (joined_on a b e first rest) is share

  -- and may be gone back
  pub joined_back : (a b : FrameAccess) → Joined a b → Joined b a
  joined_back a b (Same c is) = Same c is
  joined_back a b (Chained c d e first is share) =
      joined_on b d a (Chained b b d (Same b is) (joined_access a d first) (share_back d b share)) (joined_back a d first)

  -- Classes with a byte in common have all of them in common.
  class_bytes : (a b : FrameAccess) (v w : FrameVariable)
      → IsClass l t evaluated a v
      → IsClass l t evaluated b w
      → (o : ℤ)
      → IsByte v.offset v.size o
      → IsByte w.offset w.size o
      → (p : ℤ)
      → IsByte v.offset v.size p
      → IsByte w.offset w.size p
  class_bytes a b v w first second o in_v in_w p at =
      let x = (first.bytes o).0 in_v in
      let y = (second.bytes o).0 in_w in
      let z = (first.bytes p).0 at in
      let over : Joined b x.0 =
      Chained b y.0 x.0 y.1.0 (joined_access a x.0 x.1.0) (o, (y.1.1, x.1.1)) in
      let to : Joined b z.0 = joined_on b a z.0 (joined_on b x.0 a over (joined_back a x.0 x.1.0)) z.1.0 in
      (second.bytes p).1 (z.0, (to, z.1.1))

  -- Two frame variables that share a byte are the same bytes.
  pub variables_same : (v w : FrameVariable)
      → IsFrameVariable l t evaluated v
      → IsFrameVariable l t evaluated w
      → (o : ℤ)
      → IsByte v.offset v.size o
      → IsByte w.offset w.size o
      → (v.offset ≡ w.offset) × (v.size ≡ w.size)
  variables_same v w is also o in_v in_w =
      let to = class_bytes is.0 also.0 v w is.1.is_class also.1.is_class o in_v in_w in
      let from = class_bytes also.0 is.0 w v also.1.is_class is.1.is_class o in_w in_v in
      let some : 0 < v.size = omega (arith, ints, in_v.0, in_v.1) in
      let more : 0 < w.size = omega (arith, ints, in_w.0, in_w.1) in
      let v_first = to v.offset (omega (arith, ints), omega (arith, ints, some)) in
      let w_first = from w.offset (omega (arith, ints), omega (arith, ints, more)) in
      let v_last = to ((v.offset +ℤ pos v.size) -ℤ pos 1) (omega (arith, ints, some), omega (arith, ints, some)) in
      let w_last = from ((w.offset +ℤ pos w.size) -ℤ pos 1) (omega (arith, ints, more), omega (arith, ints, more)) in (
        omega (arith, ints, v_first.0, w_first.0),
        omega (arith, ints, v_first.0, w_first.0, v_last.1, w_last.1, some, more),
      )
