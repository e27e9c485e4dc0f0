use Rattle.listing_lines.proofs.Cutting.{cut_first}
use Rattle.listing_lines.proofs.parts.first_part.Goals as goal

pub returns-clause-parts : goal.returns-clause-parts
returns-clause-parts c = cut_first _ _ _ c.place_of-end.ensures.place c.place_of-end.ensures.within
