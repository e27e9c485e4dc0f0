-- What the lines before the code say.
use Rattle.std.proofs.Common.{◌≡◌, ◌<◌, ◌^◌, ℕ, true, false, List, [], ◌∷◌, refl, arith}
use Rattle.std.specs.Prelude.{codes, Option, Some, None}
use Rattle.listing_lines.specs.Text.{Line}
use Rattle.listing_print.specs.Printed.{function_line, proto_line, space_line, version_line}
use Rattle.pcode_model.specs.declared.listing.Function.{Function}
use Rattle.pcode_model.specs.declared.listing.Proto.{Proto}
use Rattle.pcode_model.specs.declared.listing.Space.{Space}
use Rattle.pcode_model.specs.declared.listing.SpaceKind.{SpaceKind}
use Rattle.pcode_model.specs.declared.listing.SpaceKind.TheVariants.{Constant, Ram, Register, Unique}
use Rattle.pcode_model.specs.Spaces.{same_kind}
use Rattle.pcode_model.specs.WellFormed.{AreSpaces, IsDeclared, constant_space}
use Rattle.pcodetext.specs.declared.function_line.FunctionLine.{FunctionLine}
use Rattle.pcodetext.specs.declared.line_kinds.Form.TheVariants as form
use Rattle.pcodetext.specs.declared.partial_listing.PartialListing.{PartialListing}
use Rattle.pcodetext.specs.declared.proto_line.ProtoLine.{ProtoLine}
use Rattle.pcodetext.specs.declared.space_line.SpaceLine.{SpaceLine}
use Rattle.pcodetext.specs.declared.written.Named.TheVariants as named
use Rattle.pcodetext.specs.declared.written.Written.{Written}
use Rattle.pcodetext.specs.Meaning.{start}
use Rattle.listing_again.proofs.Lines.{func_again, pcode_again, space_again}
use Rattle.listing_again.proofs.Ranged.{proto_again}
use Rattle.listing_again.proofs.Ranges.{IsRange}
use Rattle.generator.specs.Generated.{address, function, proto, space, spaces}
use Rattle.generator_again.proofs.Saying.{Says, says_line, says_then}

-- ---- what is said

-- with these spaces, prototypes and functions
abbrev headed : Option ℕ → List Space → List Proto → Option Function → PartialListing
headed version listed protos func = record {
  version = version;
  spaces = listed;
  stack = None;
  protos = protos;
  func = func;
  callees = [];
  fixed = [];
  done = [];
  last = None;
  ops = 0;
  ended = false;
}

ram : Space
ram = space (codes "ram") Ram

register : Space
register = space (codes "register") Register

unique : Space
unique = space (codes "unique") Unique

-- before the code
abbrev pub before_code : PartialListing
before_code = headed (Some 1) spaces (proto ∷ []) (Some function)

abbrev pub header_lines : List Line
header_lines = version_line 1
    ∷ space_line 1 (space (codes "ram") Ram) ∷ space_line 1 (space (codes "register") Register)
    ∷ space_line 1 (space (codes "unique") Unique)
    ∷ proto_line spaces proto ∷ function_line (codes "func") spaces (proto ∷ []) function ∷ []

-- ---- line by line

abbrev with_spaces : List Space → PartialListing
with_spaces listed = headed (Some 1) listed [] None

version_says : Says start (version_line 1 ∷ []) (with_spaces (constant_space ∷ []))
version_says = says_line start _ _ (form.Pcode 1) refl (pcode_again start 1 (omega arith)) refl refl

abbrev space_read : List ℕ → SpaceKind → SpaceLine
space_read name kind = record { name = name; kind = kind; size = 4; big = false; word = 1 }

ram_says : Says (with_spaces (constant_space ∷ [])) (space_line 1 (space (codes "ram") Ram) ∷ [])
    (with_spaces (constant_space ∷ space (codes "ram") Ram ∷ []))
ram_says = says_line (with_spaces (constant_space ∷ [])) _ _ (form.Space (space_read (codes "ram") Ram)) refl
    (space_again (with_spaces (constant_space ∷ [])) (space_read (codes "ram") Ram)
    (record { name = refl; kind = refl; size = omega arith; word = omega arith; one = λ e. refl })) refl refl

register_says : Says (with_spaces (constant_space ∷ space (codes "ram") Ram ∷ []))
    (space_line 1 (space (codes "register") Register) ∷ [])
    (with_spaces (constant_space ∷ space (codes "ram") Ram ∷ space (codes "register") Register ∷ []))
register_says = says_line (with_spaces (constant_space ∷ space (codes "ram") Ram ∷ [])) _ _
    (form.Space (space_read (codes "register") Register)) refl
    (space_again (with_spaces (constant_space ∷ space (codes "ram") Ram ∷ [])) (space_read (codes "register") Register)
    (record { name = refl; kind = refl; size = omega arith; word = omega arith; one = λ e. refl })) refl refl

unique_says : Says (with_spaces (constant_space ∷ space (codes "ram") Ram ∷ space (codes "register") Register ∷ []))
    (space_line 1 (space (codes "unique") Unique) ∷ []) (with_spaces spaces)
unique_says =
    says_line (with_spaces (constant_space ∷ space (codes "ram") Ram ∷ space (codes "register") Register ∷ [])) _ _
    (form.Space (space_read (codes "unique") Unique)) refl
    (space_again (with_spaces (constant_space ∷ space (codes "ram") Ram ∷ space (codes "register") Register ∷ []))
    (space_read (codes "unique") Unique)
    (record { name = refl; kind = refl; size = omega arith; word = omega arith; one = λ e. refl })) refl refl

-- the register at an offset, as it is written
abbrev register_read : ℕ → Written
register_read offset = record { space = named.Space 2; offset = offset; size = 4 }

register_is : (offset : ℕ) → offset < 16 ^ 16 → IsRange spaces (register_read offset)
register_is offset far = record { space = (refl, refl); offset = far; size = omega arith }

abbrev proto_read : ProtoLine
proto_read = record {
  name = codes "c";
  args = register_read 0 ∷ register_read 4 ∷ [];
  gives = Some (register_read 0);
  pop = 0;
  keep = [];
}

declared : (name : Line) (kind : SpaceKind) → same_kind Constant kind ≡ false → IsDeclared (space name kind)
declared name kind e = record {
  kind = e;
  some = omega arith;
  few = omega arith;
  word_some = omega arith;
  word_few = omega arith;
}

are_spaces : AreSpaces spaces
are_spaces = (
  refl,
  (declared (codes "ram") Ram refl, (declared (codes "register") Register refl, (declared (codes "unique") Unique refl, tt))),
)

proto_says : Says (with_spaces spaces) (proto_line spaces proto ∷ []) (headed (Some 1) spaces (proto ∷ []) None)
proto_says = says_line (with_spaces spaces) _ _ (form.Proto proto_read) refl
    (proto_again (with_spaces spaces) proto_read are_spaces
    (record {
      name = refl;
      args = (register_is 0 (omega arith), (register_is 4 (omega arith), tt));
      gives = register_is 0 (omega arith);
      pop = omega arith;
      keep = tt;
    }) refl refl) refl refl

abbrev func_read : FunctionLine
func_read = record { name = codes "gen"; space = named.Space 1; address = address 0; proto = Some 0; returns = true }

func_says : Says (headed (Some 1) spaces (proto ∷ []) None) (function_line (codes "func") spaces (proto ∷ []) function ∷ [])
    before_code
func_says = says_line (headed (Some 1) spaces (proto ∷ []) None) _ _ (form.Func func_read) refl
    (func_again (headed (Some 1) spaces (proto ∷ []) None) func_read
    (record {
      name = refl;
      space = (refl, refl);
      address = omega arith;
      proto = record { name = refl; known = refl };
    }) refl refl refl) refl refl

-- The lines before the code have no fault, and say what each generated listing has but for its code.
pub header_says : Says start header_lines before_code
header_says =
    says_then start _ before_code _ _ version_says
    (says_then _ _ before_code _ _ ram_says
    (says_then _ _ before_code _ _ register_says
    (says_then _ _ before_code _ _ unique_says (says_then _ _ before_code _ _ proto_says func_says))))
