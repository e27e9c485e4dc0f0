-- What the reader promises of the prototypes of a listing's functions.
use Rattle.std.proofs.Common.{◌<◌, ℕ, zero, suc, Bool, true, false, List, [], ◌∷◌, length, Some, None, refl, inl, inr, sym, subst, arith}
use Rattle.std.specs.Prelude.{◌==◌, if◌then◌else◌, slice_get}
use Rattle.std.specs.List.{AllByRecursion}
use Rattle.pcode_model.specs.declared.listing.Function.{Function}
use Rattle.pcode_model.specs.declared.listing.Listing.{Listing}
use Rattle.pcode_model.specs.declared.listing.Proto.{Proto}
use Rattle.pcode_model.specs.declared.listing.Storage.{Storage}
use Rattle.pcode_model.specs.declared.listing.Storage.TheVariants.{At, Stack}
use Rattle.pcode_model.specs.declared.listing.Varnode.{Varnode}
use Rattle.pcode_model.specs.Flow.{IsIn}
use Rattle.pcode_model.specs.Step.{callee_at, callee_in, proto_at, proto_in, proto_of}
use Rattle.pcode_model.specs.WellFormed.{IsArgument, IsFunction, IsProto, IsStorage, IsWellFormed}
use Rattle.stackvars.specs.Accesses.{passed}

-- a prototype of the listing
pub record IsDeclared (l : Listing) (p : Proto) : Type 0 where
  pub is : IsProto l.spaces l.stack p
  pub among : IsIn p l.protos

module _ (l : Listing) (read : IsWellFormed l) where
  at : (ps : List Proto)
      → AllByRecursion (IsProto l.spaces l.stack) ps
      → (n : ℕ)
      → n < length ps
      → IsProto l.spaces l.stack (proto_in (slice_get ps n)) × IsIn (proto_in (slice_get ps n)) ps
  at [] h n small = absurd (omega arith)
  at (p ∷ ps) h zero small = (h.0, inl refl)
  at (p ∷ ps) h (suc n) small = let r = at ps h.1 n (omega arith) in (r.0, inr r.1)

  declared_at : (n : ℕ) → n < length l.protos → IsDeclared l (proto_at l n)
  declared_at n small = let r = at l.protos read.protos n small in record { is = r.0; among = r.1 }

  -- The prototype of the function, which each callee has that isn't declared.
  pub own_declared : IsDeclared l (proto_of l None)
  own_declared = declared_at l.func.proto read.func.proto

  by_callees : (fs : List Function)
      → AllByRecursion (IsFunction l.spaces (length l.protos)) fs
      → (a : ℕ)
      → IsDeclared l (proto_of l (callee_in fs a))
  by_callees [] all a = own_declared
  by_callees (f ∷ fs) all a = by (f.address == a) (by_callees fs all.1 a)
    where
      by : (b : Bool)
          → IsDeclared l (proto_of l (callee_in fs a))
          → IsDeclared l (proto_of l (if b then Some f else callee_in fs a))
      by true rest = declared_at f.proto all.0.proto
      by false rest = rest

  -- The prototype of the callee at an address.
  pub callee_declared : (a : ℕ) → IsDeclared l (proto_of l (callee_at l a))
  callee_declared a = by_callees l.callees read.callees a

  -- An argument that isn't on the stack is a range of registers.
  pub passed_storage : (args : List Storage)
      → AllByRecursion (IsArgument l.spaces l.stack) args
      → (v : Varnode)
      → IsIn v (passed args)
      → IsStorage l.spaces v
  passed_storage [] all v is = absurd is
  passed_storage (At w ∷ args) all v (inl e) = subst (λ (x : Varnode). IsStorage l.spaces x) (sym e) all.0
  passed_storage (At w ∷ args) all v (inr is) = passed_storage args all.1 v is
  passed_storage (Stack offset size ∷ args) all v is = passed_storage args all.1 v is
