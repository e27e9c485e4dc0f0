-- What the prototypes of a well formed listing have.
use Rattle.std.proofs.Common.{◌≡◌, ℕ, zero, suc, ◌<◌, ◌≤◌, ◌^◌, ◌==◌, Bool, true, false, cond, List, [], ◌∷◌, length, Option, Some, None, refl, sym, subst, arith}
use Rattle.std.specs.Prelude.{IfSome, slice_get}
use Rattle.std.specs.List.{AllByRecursion}
use Rattle.pcode_model.specs.declared.listing.Function.{Function}
use Rattle.pcode_model.specs.declared.listing.Listing.{Listing}
use Rattle.pcode_model.specs.declared.listing.Proto.{Proto}
use Rattle.pcode_model.specs.declared.listing.SpaceKind.{SpaceKind}
use Rattle.pcode_model.specs.declared.listing.SpaceKind.TheVariants.{Constant, Ram, Register, Unique}
use Rattle.pcode_model.specs.declared.listing.Storage.{Storage}
use Rattle.pcode_model.specs.declared.listing.Storage.TheVariants.{At, Stack}
use Rattle.pcode_model.specs.declared.listing.Varnode.{Varnode}
use Rattle.pcode_model.specs.Spaces.{kind_of, same_kind}
use Rattle.pcode_model.specs.Step.{callee_at, callee_in, proto_at, proto_in, proto_of}
use Rattle.pcode_model.specs.WellFormed as formed
use Rattle.pcode_model.specs.WellFormed.{AreSpaces, IsFunction, IsProto, IsRegister, IsStorage}
use Rattle.pcode_laws.proofs.Within.{get_within}
use Rattle.pcode_operands.specs.Calls.{Ends}
use Rattle.pcode_operands.specs.Used.{IsArgument, IsLocal, IsStack, IsUsed}
use Rattle.pcode_operands.proofs.Registers.{register_inside, stack_is}

-- ---- ranges of registers

not_true : true ≡ false → ⊥
not_true h = cc

register_isnt : (k : SpaceKind) → same_kind Register k ≡ true → same_kind Constant k ≡ true → ⊥
register_isnt Constant is constant = not_true (sym is)
register_isnt Ram is constant = not_true (sym is)
register_isnt Register is constant = not_true (sym constant)
register_isnt Unique is constant = not_true (sym is)

storage_used : (l : Listing) (v : Varnode) → AreSpaces l.spaces → IsStorage l.spaces v → IsUsed l v
storage_used l v good is = record {
  some = is.register.some;
  few = is.few;
  inside = λ other. register_inside l v good is.register;
  fits = λ constant. absurd (register_isnt (kind_of l v.space) is.register.kind constant);
}

argument_used : (l : Listing) (a : Storage) → AreSpaces l.spaces → formed.IsArgument l.spaces l.stack a → IsArgument l a
argument_used l (At v) good is = storage_used l v good is
argument_used l (Stack offset size) good is = (is.0, is.1)

arguments_used : (l : Listing) (xs : List Storage)
    → AreSpaces l.spaces
    → AllByRecursion (formed.IsArgument l.spaces l.stack) xs
    → AllByRecursion (IsArgument l) xs
arguments_used l [] good all = tt
arguments_used l (x ∷ xs) good all = (argument_used l x good all.0, arguments_used l xs good all.1)

result_local : (l : Listing) (o : Option Varnode)
    → AreSpaces l.spaces
    → IfSome o (IsStorage l.spaces)
    → IfSome o (IsLocal l)
result_local l None good is = tt
result_local l (Some v) good is =
    record { some = is.register.some; few = is.few; inside = register_inside l v good is.register }

kept_end : (l : Listing) (vs : List Varnode)
    → AreSpaces l.spaces
    → AllByRecursion (IsRegister l.spaces) vs
    → AllByRecursion Ends vs
kept_end l [] good all = tt
kept_end l (v ∷ vs) good all =
    let i = register_inside l v good all.0 in
    (record { some = all.0.some; below = omega (arith, i.inside, i.small) }, kept_end l vs good all.1)

-- ---- prototypes

pub record Runs (l : Listing) (p : Proto) : Type 0 where
  pub args : AllByRecursion (IsArgument l) p.args
  pub few : length p.args < 2 ^ 32
  pub gives : IfSome p.gives (IsLocal l)
  pub keep : AllByRecursion Ends p.keep

runs : (l : Listing) (p : Proto) → AreSpaces l.spaces → IsProto l.spaces l.stack p → Runs l p
runs l p good is = record {
  args = arguments_used l p.args good is.args;
  few = let most : length p.args ≤ 16 = is.args_few in omega (arith, most);
  gives = result_local l p.gives good is.gives;
  keep = kept_end l p.keep good is.keep;
}

got : {A : Type 0} (P : A → Type 0) (xs : List A) (n : ℕ)
    → AllByRecursion P xs
    → n < length xs
    → IfSome (slice_get xs n) P
got P [] n all below = tt
got P (x ∷ xs) zero all below = all.0
got P (x ∷ xs) (suc n) all below = got P xs n all.1 (omega (arith, below))

proto_runs : (l : Listing) (n : ℕ) → formed.IsWellFormed l → n < length l.protos → Runs l (proto_at l n)
proto_runs l n good below =
    let s = get_within l.protos n below in
    let P : Option Proto → Type 0 = λ o. IfSome o (IsProto l.spaces l.stack) in
    let Q : Option Proto → Type 0 = λ o. Runs l (proto_in o) in
    subst Q (sym s.1)
    (runs l s.0 good.spaces (subst P s.1 (got (IsProto l.spaces l.stack) l.protos n good.protos below)))

found : (P : Function → Type 0) (g f : Function) (rest : Option Function) (b : Bool)
    → cond b (Some g) rest ≡ Some f
    → P g
    → (rest ≡ Some f → P f)
    → P f
found P g f rest true e here later = let same : g ≡ f = cc in subst P same here
found P g f rest false e here later = later e

callee_is : (P : Function → Type 0) (fs : List Function) (a : ℕ) (f : Function)
    → AllByRecursion P fs
    → callee_in fs a ≡ Some f
    → P f
callee_is P [] a f all is = absurd (cc)
callee_is P (g ∷ fs) a f all is = found P g f (callee_in fs a) (g.address == a) is all.0 (callee_is P fs a f all.1)

pub callee_proto : (l : Listing) (a : ℕ) (f : Function)
    → formed.IsWellFormed l
    → callee_at l a ≡ Some f
    → f.proto < length l.protos
callee_proto l a f good is = (callee_is (IsFunction l.spaces (length l.protos)) l.callees a f good.callees is).proto

-- the prototype of a callee that isn't declared
pub own_runs : (l : Listing) → formed.IsWellFormed l → Runs l (proto_of l None)
own_runs l good = proto_runs l l.func.proto good good.func.proto

pub called_runs : (l : Listing) (a : ℕ) → formed.IsWellFormed l → Runs l (proto_of l (callee_at l a))
called_runs l a good = by (callee_at l a) refl where
  by : (o : Option Function) → callee_at l a ≡ o → Runs l (proto_of l o)
  by None is = own_runs l good
  by (Some f) is = proto_runs l f.proto good (callee_proto l a f good is)

pub stack_runs : (l : Listing) → formed.IsWellFormed l → IfSome l.stack (IsStack l)
stack_runs l good = by l.stack refl where
  by : (o : Option Varnode) → l.stack ≡ o → IfSome o (IsStack l)
  by None is = tt
  by (Some v) is = stack_is l v good is
