-- Ranges of the register space that lines write, as they stand in a listing.
use Rattle.std.proofs.Common.{◌≡◌, ◌<◌, ◌≤◌, ◌+◌, ◌%◌, ◌^◌, ℕ, Bool, true, false, List, ap, sym, arith}
use Rattle.std.proofs.Math.Nat.{mod-le}
use Rattle.std.specs.Prelude.{◌==◌, nat_lt, if◌then◌else◌}
use Rattle.std.proofs.lemmas.Bool.Decides.{nat_tests}
use Rattle.std.proofs.lemmas.Bool.{not-false}
use Rattle.pcode_model.specs.declared.listing.Space.{Space}
use Rattle.pcode_model.specs.declared.listing.SpaceKind.TheVariants.{Register}
use Rattle.pcode_model.specs.WellFormed.{AreSpaces, IsRegister}
use Rattle.pcodetext.specs.declared.written.Named.{Named}
use Rattle.pcodetext.specs.declared.written.Named.TheVariants as named
use Rattle.pcodetext.specs.declared.written.Written.{Written}
use Rattle.pcodetext.specs.Checks.{is_of_kind, is_unknown, leaves_known, leaves_space}
use Rattle.pcodetext.specs.Convert.{number, reduced, varnode}
use Rattle.pcodetext.specs.ProtoLine.{is_other}
use Rattle.pcodetext.proofs.Passing.{never}
use Rattle.pcodetext.proofs.Spaces.{not_first}

less_is_inside : (x a b size : ℕ) → b ≤ a → nat_lt x (a + size) ≡ false → nat_lt x (b + size) ≡ false
less_is_inside x a b size le h = grind (arith, nat_tests)

pub reduced_le : (n offset size : ℕ) → reduced n offset size ≤ offset
reduced_le n offset size = by_space (n == 0)
  where
    by_space : (t : Bool) → (if t then offset % 256 ^ size else offset) ≤ offset
    by_space true = mod-le offset (256 ^ size)
    by_space false = omega arith

pub register_by : (spaces : List Space) (space : Named) (offset size : ℕ)
    → is_of_kind Register spaces space ≡ true
    → 0 < size
    → size < 10 ^ 5
    → leaves_known spaces space offset size ≡ false
    → IsRegister spaces (varnode (record { space = space; offset = offset; size = size }))
register_by spaces (named.Space n) offset size kind some few inside =
    let le : reduced n offset size ≤ offset = reduced_le n offset size in
    record { kind = kind; some = some; few = few; inside = less_is_inside _ offset (reduced n offset size) size le inside }
register_by spaces named.Stack offset size kind some few inside = absurd (never (sym kind))
register_by spaces named.Unknown offset size kind some few inside = absurd (never (sym kind))

pub register_is : (spaces : List Space) (w : Written)
    → is_of_kind Register spaces w.space ≡ true
    → 0 < w.size
    → w.size < 10 ^ 5
    → leaves_space spaces w ≡ false
    → IsRegister spaces (varnode w)
register_is spaces w kind some few inside = register_by spaces w.space w.offset w.size kind some few inside

-- a known space that isn't another one is the register space
pub register_kind : (spaces : List Space) (space : Named)
    → is_other spaces space ≡ false
    → is_unknown space ≡ false
    → is_of_kind Register spaces space ≡ true
register_kind spaces (named.Space n) other known = not-false _ other
register_kind spaces named.Stack other known = absurd (never known)
register_kind spaces named.Unknown other known = absurd (never known)

-- an offset in the register space isn't reduced
pub register_offset : (spaces : List Space)
    → AreSpaces spaces
    → (w : Written)
    → is_of_kind Register spaces w.space ≡ true
    → (varnode w).offset ≡ w.offset
register_offset spaces h w kind = by_space w.space kind
  where
    by_space : (space : Named)
        → is_of_kind Register spaces space ≡ true
        → reduced (number space) w.offset w.size ≡ w.offset
    by_space (named.Space n) k =
        ap (λ (t : Bool). if t then w.offset % 256 ^ w.size else w.offset) (not_first spaces n h k)
    by_space named.Stack k = absurd (never (sym k))
    by_space named.Unknown k = absurd (never (sym k))
