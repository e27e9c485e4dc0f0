-- The spaces and the stack pointer of a well formed listing.
use Rattle.std.proofs.Common.{◌≡◌, ◌+◌, ◌≤◌, ℕ, zero, suc, false, List, [], ◌∷◌, Option, Some, ap, subst, arith}
use Rattle.std.specs.Prelude.{nat_lt, slice_get, IfSome}
use Rattle.std.specs.List.{AllByRecursion}
use Rattle.std.proofs.lemmas.Bool.Decides.{nat_tests}
use Rattle.pcode_model.specs.declared.listing.Listing.{Listing}
use Rattle.pcode_model.specs.declared.listing.Space.{Space}
use Rattle.pcode_model.specs.declared.listing.Varnode.{Varnode}
use Rattle.pcode_model.specs.Spaces.{first_ram, kind_in, offset_bytes_in, size_in}
use Rattle.pcode_model.specs.WellFormed.{AreSpaces, IsDeclared, IsRegister, IsStackPointer, IsWellFormed}
use Rattle.run_world.proofs.Declared.{register_not_constant, size_most}
use Rattle.pcode_operands.specs.Used.{IsInside, IsStack}

-- a range of registers lies inside its space, which has at most 2 to the 64 bytes
pub register_inside : (l : Listing) (v : Varnode) → AreSpaces l.spaces → IsRegister l.spaces v → IsInside l v
register_inside l v good is =
    let inside : nat_lt (size_in (slice_get l.spaces v.space)) (v.offset + v.size) ≡ false = is.inside in
    record {
      inside = grind (arith, nat_tests, inside);
      small = size_most l.spaces v.space good (register_not_constant (kind_in (slice_get l.spaces v.space)) is.kind);
    }

declared_few : (ss : List Space) (n : ℕ) → AllByRecursion IsDeclared ss → offset_bytes_in (slice_get ss n) ≤ 8
declared_few [] n all = omega arith
declared_few (s ∷ ss) zero all = all.0.few
declared_few (s ∷ ss) (suc n) all = declared_few ss n all.1

-- an offset has at most 8 bytes
offset_few : (ss : List Space) (n : ℕ) → AreSpaces ss → offset_bytes_in (slice_get ss n) ≤ 8
offset_few [] n good = absurd good
offset_few (s ∷ ss) zero good = let e : s.size ≡ 8 = ap (λ (x : Space). x.size) good.0 in omega (arith, e)
offset_few (s ∷ ss) (suc n) good = declared_few ss n good.1

-- the stack pointer, where there is one, is a register range of at most 8 bytes
pub stack_is : (l : Listing) (v : Varnode) → IsWellFormed l → l.stack ≡ Some v → IsStack l v
stack_is l v good e =
    let P : Option Varnode → Type 0 = λ x. IfSome x (IsStackPointer l.spaces) in
    let is : IsStackPointer l.spaces v = subst P e good.stack in
    let narrow : v.size ≤ 8 = omega (arith, is.wide, offset_few l.spaces (first_ram l) good.spaces) in
    record {
      local =
          record {
            some = is.register.some;
            few = omega (arith, narrow);
            inside = register_inside l v good.spaces is.register;
          };
      narrow = narrow;
    }
