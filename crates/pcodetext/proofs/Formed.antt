-- What has been said keeps to the rules of a listing: the rules, what holds where a part is empty yet, and what is to
-- be shown of each kind of line.
use Rattle.std.proofs.Common.{◌≡◌, ◌<◌, ◌≤◌, ◌⊎◌, ℕ, Bool, true, false, List, [], ◌∷◌, ◌++◌, length, arith}
use Rattle.std.specs.Prelude.{Option, Some, None, IfSome, codes}
use Rattle.std.specs.List.{AllByRecursion}
use Rattle.std.specs.Option.{is_none, is_some, option_to_list}
use Rattle.line_reader.specs.Faults.{first_fault}
use Rattle.pcode_model.specs.declared.listing.Fixed.{Fixed}
use Rattle.pcode_model.specs.declared.listing.Function.{Function}
use Rattle.pcode_model.specs.declared.listing.Instruction.{Instruction}
use Rattle.pcode_model.specs.declared.listing.Proto.{Proto}
use Rattle.pcode_model.specs.declared.listing.Space.{Space}
use Rattle.pcode_model.specs.declared.listing.Varnode.{Varnode}
use Rattle.pcode_model.specs.Flow.{AreApart}
use Rattle.pcode_model.specs.WellFormed.{AreDistinct, AreSpaces, FixedRise, HasKnownOps, HasOps, HaveWords, IsComplete, IsFixed, IsFunction, IsNamedFunction, IsNamedProto, IsNamedSpace, IsProto, IsShort, IsStackPointer, total_ops}
use Rattle.pcode_model.specs.Functions.{function_address}
use Rattle.pcodetext.specs.declared.partial_listing.PartialListing.{PartialListing}
use Rattle.pcodetext.specs.declared.line_kinds.Form.{Form}
use Rattle.pcodetext.specs.LineKinds.{after, faults, is_two}
use Rattle.pcodetext.specs.Tables.{function_name, proto_name, space_name}
use Rattle.pcodetext.proofs.FormIs.{IsForm, known_of}
use Rattle.pcodetext.proofs.Passing.{never, not_both}

-- the rules that spaces keep to; `two` is whether the lines say version 2
pub record KeepSpaces (two : Bool) (spaces : List Space) : Type 0 where
  pub formed : AreSpaces spaces
  pub words : HaveWords spaces
  pub named : AllByRecursion IsNamedSpace spaces
  pub few : length spaces ≤ 9
  pub distinct : AreDistinct space_name spaces
  pub no_stack : AllByRecursion (λ s. s.name ≡ codes "stack" → ⊥) spaces
  pub one : two ≡ false → AllByRecursion (λ s. s.word ≡ 1) spaces

-- the rules that prototypes keep to
pub record KeepProtos (spaces : List Space) (stack : Option Varnode) (protos : List Proto) : Type 0 where
  pub complete : 0 < length protos → IsComplete spaces
  pub formed : AllByRecursion (IsProto spaces stack) protos
  pub named : AllByRecursion IsNamedProto protos
  pub few : length protos ≤ 64
  pub distinct : AreDistinct proto_name protos

-- the rules that the listing's function and its callees keep to, where there are so many prototypes
pub record KeepFunctions
    (two : Bool) (spaces : List Space) (protos : ℕ) (main : Option Function) (others : List Function) : Type 0 where
  pub func : IfSome main (IsFunction spaces protos)
  pub func_named : IfSome main IsNamedFunction
  pub returns : IfSome main (λ f. f.returns ≡ true)
  pub callees : AllByRecursion (IsFunction spaces protos) others
  pub named : AllByRecursion IsNamedFunction others
  pub few : length others ≤ 1024
  pub names : AreDistinct function_name (option_to_list main ++ others)
  pub addresses : AreDistinct function_address (option_to_list main ++ others)
  pub one : two ≡ false → AllByRecursion (λ f. f.returns ≡ true) others

-- the rules that read-only bytes keep to
pub record KeepFixed (spaces : List Space) (fixed : List Fixed) : Type 0 where
  pub formed : AllByRecursion (IsFixed spaces) fixed
  pub rising : FixedRise fixed

-- the rules that instructions keep to: those before the last one, the last one, how many ops they have, and whether
-- `end` stands
pub record KeepCode
    (spaces : List Space) (done : List Instruction) (last : Option Instruction) (ops : ℕ) (ended : Bool) : Type 0 where
  pub apart : AreApart (done ++ option_to_list last)
  pub first : is_some last ≡ false → done ≡ []
  pub formed : AllByRecursion HasOps (done ++ option_to_list last)
  pub known : AllByRecursion (HasKnownOps spaces) (done ++ option_to_list last)
  pub short : AllByRecursion IsShort (done ++ option_to_list last)
  pub total : total_ops (done ++ option_to_list last) ≡ ops
  pub few : ops ≤ 16384
  pub closed : ended ≡ true → is_some last ≡ true

-- nothing of what stands after the function's line
pub record IsEarly (s : PartialListing) : Type 0 where
  pub callees : s.callees ≡ []
  pub fixed : s.fixed ≡ []
  pub done : s.done ≡ []
  pub last : is_some s.last ≡ false

pub record IsFormed (s : PartialListing) : Type 0 where
  pub version : IfSome s.version (λ n. (n ≡ 1) ⊎ (n ≡ 2))
  pub spaces : KeepSpaces (is_two s.version) s.spaces
  pub stack : IfSome s.stack (IsStackPointer s.spaces)
  pub protos : KeepProtos s.spaces s.stack s.protos
  pub functions : KeepFunctions (is_two s.version) s.spaces (length s.protos) s.func s.callees
  pub fixed : KeepFixed s.spaces s.fixed
  pub code : KeepCode s.spaces s.done s.last s.ops s.ended
  -- the function stands after a prototype, and all that follows after the function
  pub no_func : length s.protos ≡ 0 → is_some s.func ≡ false
  pub early : is_some s.func ≡ false → IsEarly s

-- a line of that form without a fault keeps to the rules
abbrev pub Keeps : PartialListing → Form → Type 0
Keeps s l = IsFormed s → IsForm (known_of s) l → first_fault (faults s l) ≡ None → IsFormed (after s l)

-- where there is a function, there is a prototype
pub has_protos : (s : PartialListing) → IsFormed s → is_none s.func ≡ false → length s.protos ≡ 0 → ⊥
has_protos s f some z = not_both s.func some (f.no_func z)

-- ---- where there are none yet

pub no_protos : (spaces : List Space) (stack : Option Varnode) (protos : List Proto)
    → length protos ≡ 0
    → KeepProtos spaces stack protos
no_protos spaces stack [] none =
    record { complete = λ some. absurd (omega arith); formed = tt; named = tt; few = omega arith; distinct = tt }
no_protos spaces stack (p ∷ protos) none = absurd (omega arith)

pub no_functions : (two : Bool) (spaces : List Space) (protos : ℕ) (func : Option Function) (callees : List Function)
    → is_some func ≡ false
    → callees ≡ []
    → KeepFunctions two spaces protos func callees
no_functions two spaces protos (Some f) callees none empty = absurd (never none)
no_functions two spaces protos None [] none empty = record {
  func = tt;
  func_named = tt;
  returns = tt;
  callees = tt;
  named = tt;
  few = omega arith;
  names = tt;
  addresses = tt;
  one = λ e. tt;
}
no_functions two spaces protos None (f ∷ callees) none empty = absurd cc

pub no_fixed : (spaces : List Space) (fixed : List Fixed) → fixed ≡ [] → KeepFixed spaces fixed
no_fixed spaces [] empty = record { formed = tt; rising = tt }
no_fixed spaces (f ∷ fixed) empty = absurd cc
