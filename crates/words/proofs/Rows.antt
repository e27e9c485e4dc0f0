-- Lists of words, by computation.
use Rattle.std.proofs.Common.{refl}
use Rattle.std.specs.Str.Parse.{digits_value, digits_value_after}
use Rattle.clap.proofs.OnLiterals.{clap_on_literals}
use Rattle.words.specs.Worked.{Refused, Taken}

pub taken : Taken
unfolding clap_on_literals
taken = record {
  nothing = refl;
  input = refl;
  file = refl;
  stage = refl;
  stage_file = refl;
  file_stage = refl;
  equals = refl;
  dashes = refl;
  empty = refl;
  least = refl;
  zeros = refl;
  greatest = refl;
}

pub refused : Refused
unfolding clap_on_literals
refused = record {
  stage = refl;
  no_stage = refl;
  great = refl;
  long = refl;
  no_digits = refl;
  beside_file = refl;
  beside_stage = refl;
  twice = refl;
  two_files = refl;
  help = refl;
  version = refl;
  unknown = refl;
}
