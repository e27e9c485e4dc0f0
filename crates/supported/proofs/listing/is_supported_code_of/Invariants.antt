use Rattle.std.proofs.Common.{◌≡◌, drop}
use Rattle.supported.specs.Supported.{is_supported_code_of}
use Rattle.supported.proofs.listing.is_supported_code_of.Given as goal

abbrev pub invariant-loop-instruction : goal.invariant-loop-instruction
invariant-loop-instruction l = is_supported_code_of (drop l.instruction-index l.code) ≡ is_supported_code_of l.code
