-- The stack pointer's width, and the prototypes of a listing's calls.
use Rattle.std.proofs.Common.{◌≡◌, ℕ, ◌+◌, ◌<◌, ◌≤◌, ◌^◌, Bool, true, false, List, [], ◌∷◌, Option, Some, None, IfSome, refl, sym, ap, ◌∙◌, subst, arith}
use Rattle.std.specs.Prelude.{cond, slice_get}
use Rattle.std.specs.List.{AllByRecursion}
use Rattle.std.proofs.lemmas.Bool.Decides.{nat_tests}
use Rattle.bits_core.specs.Value.{limit}
use Rattle.pcode_model.specs.declared.listing.Space.{Space}
use Rattle.pcode_model.specs.declared.listing.Function.{Function}
use Rattle.pcode_model.specs.declared.listing.Varnode.{Varnode}
use Rattle.pcode_model.specs.declared.listing.Proto.{Proto}
use Rattle.pcode_model.specs.declared.listing.Listing.{Listing}
use Rattle.pcode_model.specs.Spaces.{size_in, offset_bytes_in, first_ram}
use Rattle.pcode_model.specs.Ranges.{meets}
use Rattle.pcode_model.specs.WellFormed.{IsWellFormed, IsProto, ShareNothing, IsStackPointer}
use Rattle.pcode_model.specs.Step.{in_range, in_some, proto_in, proto_at, proto_of}
use Rattle.pcode_model.proofs.Members.{of_member, member_at}
use Rattle.frame_facts.specs.Facts.{offsets}

-- ---- widths

-- there are as many offsets as words of the stack pointer's width
pub offsets_are : (l : Listing) → IsWellFormed l → (sp : Varnode) → l.stack ≡ Some sp → offsets l ≡ limit sp.size
unfolding limit
offsets_are l read sp is =
    let P : Option Varnode → Type 0 = λ o. IfSome o (IsStackPointer l.spaces) in
    let s : IsStackPointer l.spaces sp = subst P is read.stack in
    size_by (slice_get l.spaces (first_ram l)) ∙ ap (λ n. 256 ^ n) (sym s.wide)
  where
    size_by : (o : Option Space) → size_in o ≡ 256 ^ offset_bytes_in o
    size_by None = refl
    size_by (Some s) = refl

-- ---- prototypes

-- the prototypes that calls go by are declared, or there is none
pub proto_fine : (l : Listing) → IsWellFormed l → (o : Option Function) → IsProto l.spaces l.stack (proto_of l o)
proto_fine l read o = of o where
  in_list : (p : Option Proto) → ((q : Proto) → p ≡ Some q → IsProto l.spaces l.stack q)
      → IsProto l.spaces l.stack (proto_in p)
  in_list None h = record {
    args = tt;
    args_few = omega arith;
    gives = tt;
    pop = omega arith;
    keep = tt;
    keep_few = omega arith;
    result_apart = tt;
    kept_apart = tt;
  }
  in_list (Some q) h = h q refl

  at : (n : ℕ) → IsProto l.spaces l.stack (proto_at l n)
  at n = in_list (slice_get l.protos n)
      (λ q e. of_member (IsProto l.spaces l.stack) q l.protos read.protos (member_at l.protos n q e))

  of : (o : Option Function) → IsProto l.spaces l.stack (proto_of l o)
  of None = at l.func.proto
  of (Some f) = at f.proto

-- ---- kept ranges

-- a byte of a range
pub within : (v : Varnode) (o : ℕ) → in_range v o ≡ true → (v.offset ≤ o) × (o < v.offset + v.size)
within v o h = (grind (arith, nat_tests), grind (arith, nat_tests))

pub in_it : (v : Varnode) (o : ℕ) → v.offset ≤ o → o < v.offset + v.size → in_range v o ≡ true
in_it v o a b = grind (arith, nat_tests)

-- a byte of ranges that share nothing with another range isn't one of that
pub kept_meets : (Q : Varnode → Type 0) (g : Varnode) (o : ℕ)
    → ((x : Varnode) → Q x → ShareNothing x g)
    → in_range g o ≡ true
    → (keep : List Varnode)
    → AllByRecursion Q keep
    → in_some keep o ≡ true
    → ⊥
kept_meets Q g o sel here [] all h = absurd (cc)
kept_meets Q g o sel here (x ∷ keep) all h = by (in_range x o) refl (kept_meets Q g o sel here keep all.1) h where
  by : (b : Bool) → in_range x o ≡ b → (in_some keep o ≡ true → ⊥) → cond b true (in_some keep o) ≡ true → ⊥
  by true e rest h =
      let share : meets x.offset x.size g.offset g.size ≡ false = sel x all.0 in
      let a = within x o e in
      let b = within g o here in
      let meet : meets x.offset x.size g.offset g.size ≡ true = grind (arith, nat_tests, a.0, a.1, b.0, b.1) in
      let f : true ≡ false = sym meet ∙ share in
      cc
  by false e rest h = rest h
