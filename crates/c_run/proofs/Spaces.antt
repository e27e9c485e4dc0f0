-- The spaces of a well-formed listing.
use Rattle.std.proofs.Common.{◌≡◌, ℕ, ◌+◌, ◌<◌, ◌≤◌, ◌^◌, ◌&&◌, not, Bool, true, false, List, Option, Some, None, refl, ap, ◌∙◌, arith, subst}
use Rattle.std.specs.Prelude.{IfSome, nat_lt, slice_get}
use Rattle.std.proofs.lemmas.Bool.Decides.{nat_tests}
use Rattle.pcode_model.specs.declared.listing.Listing.{Listing}
use Rattle.pcode_model.specs.declared.listing.SpaceKind.{SpaceKind}
use Rattle.pcode_model.specs.declared.listing.SpaceKind.TheVariants.{Constant, Ram, Register, Unique}
use Rattle.pcode_model.specs.declared.listing.Varnode.{Varnode}
use Rattle.pcode_model.specs.Spaces.{kind_of, register_space, same_kind, size_of, unique_space}
use Rattle.pcode_model.specs.WellFormed.{IsRegister, IsStackPointer, IsWellFormed}
use Rattle.pcode_laws.proofs.SpaceKinds.{first_is, same_is}
use Rattle.cmeaning.specs.Do.{accessed, space_named}
use Rattle.run_world.specs.Setting.{HasShape}
use Rattle.run_world.specs.declared.shape.Shape.{Shape}
use Rattle.run_world.proofs.Declared.{size_most}
use Rattle.cmeaning.specs.Fits.{lies_in, names_ram}

pub both : (a b : Bool) → a && b ≡ true → (a ≡ true) × (b ≡ true)
both true true h = (refl, refl)
both true false h = absurd cc
both false b h = absurd cc

pub ram_accessed : (l : Listing) (space : Option (List ℕ))
    → IsWellFormed l
    → names_ram l space ≡ true
    → kind_of l (accessed l space) ≡ Ram
ram_accessed l None formed h = first_is Ram l.spaces formed.complete.ram
ram_accessed l (Some name) formed h = same_is Ram (kind_of l (space_named name l.spaces)) (both _ _ h).0

-- sizes
pub small_of : (l : Listing) (n : ℕ) (k : SpaceKind)
    → IsWellFormed l
    → kind_of l n ≡ k
    → same_kind Constant k ≡ false
    → size_of l n ≤ 2 ^ 64
small_of l n k formed is other = size_most l.spaces n formed.spaces (ap (same_kind Constant) is ∙ other)

pub registers_small : (l : Listing) → IsWellFormed l → size_of l (register_space l) ≤ 2 ^ 64
registers_small l formed =
    small_of l (register_space l) Register formed (first_is Register l.spaces (omega (arith, formed.complete.register)))
    refl

pub uniques_small : (l : Listing) → IsWellFormed l → size_of l (unique_space l) ≤ 2 ^ 64
uniques_small l formed =
    small_of l (unique_space l) Unique formed (first_is Unique l.spaces (omega (arith, formed.complete.unique))) refl

pub register_small : (l : Listing) (v : Varnode) → IsWellFormed l → IsRegister l.spaces v → size_of l v.space ≤ 2 ^ 64
register_small l v formed is = small_of l v.space Register formed (same_is Register (kind_of l v.space) is.kind) refl

-- the stack pointer, where there is one, is a range of registers
pub stack_register : (l : Listing) (v : Varnode) → IsWellFormed l → l.stack ≡ Some v → IsRegister l.spaces v
stack_register l v formed e =
    let P : Option Varnode → Type 0 = λ x. IfSome x (IsStackPointer l.spaces) in
    let is : IsStackPointer l.spaces v = subst P e formed.stack in
    is.register

-- ranges
pub inside : (l : Listing) (space offset count : ℕ)
    → lies_in l space offset count ≡ true
    → offset + count ≤ size_of l space
inside l space offset count h =
    let lies : not (nat_lt (size_of l space) (offset + count)) ≡ true = h in
    grind (arith, nat_tests, lies)

pub register_inside : (l : Listing) (v : Varnode) (shape : Shape)
    → IsRegister l.spaces v
    → HasShape l v.space shape
    → v.offset ≤ shape.last
register_inside l v shape is has =
    let inside : nat_lt (size_of l v.space) (v.offset + v.size) ≡ false = is.inside in
    let some : 0 < v.size = is.some in
    let ends : shape.last + 1 ≡ size_of l v.space = has.size in
    grind (arith, nat_tests, inside, some, ends)
