-- What written ranges stand for.
use Rattle.std.specs.Prelude.{if◌then◌else◌, ℕ, ◌%◌, ◌==◌, ◌^◌}
use Rattle.pcode_model.specs.declared.listing.Varnode.{Varnode}
use Rattle.pcodetext.specs.declared.written.Named.TheVariants as named
use Rattle.pcodetext.specs.declared.written.Named.{Named}
use Rattle.pcodetext.specs.declared.written.Written.{Written}

-- of a line without a fault the names are known
abbrev pub number : Named → ℕ
number (named.Space n) = n
number named.Stack = 0
number named.Unknown = 0

-- a constant is reduced to its size as it is read
abbrev pub reduced : ℕ → ℕ → ℕ → ℕ
reduced space offset size = if space == 0 then offset % 256 ^ size else offset

abbrev pub varnode : Written → Varnode
varnode w = record { space = number w.space; offset = reduced (number w.space) w.offset w.size; size = w.size }
