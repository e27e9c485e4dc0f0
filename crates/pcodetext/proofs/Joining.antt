-- Ranges read so far, before those that are still to come.
use Rattle.std.proofs.Common.{List, ◌++◌}
use Rattle.std.specs.Prelude.{Option}
use Rattle.std.specs.Option.{option_map}
use Rattle.listing_lines.specs.Text.{Line}
use Rattle.pcodetext.specs.declared.written.Written.{Written}

abbrev pub joined : List Written → Option (List Written) → Option (List Written)
joined found more = option_map (λ last. found ++ last) more

abbrev pub joined_before : List Written → Option (List Written × List Line) → Option (List Written × List Line)
joined_before found more = option_map (λ m. (found ++ m.0, m.1)) more
