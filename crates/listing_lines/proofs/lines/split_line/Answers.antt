use Rattle.std.proofs.Common.{◌∙◌, sym}
use Rattle.listing_lines.proofs.Cutting.{cut_ended, cut_last}
use Rattle.listing_lines.proofs.lines.split_line.Goals as goal

pub returns-then-end-bytes-clause-lines : goal.returns-then-end-bytes-clause-lines
returns-then-end-bytes-clause-lines c = cut_last _ c.requires (sym c.place_of-end.ensures.place ∙ c.if-end-bytes.true)

pub returns-clause-lines : goal.returns-clause-lines
returns-clause-lines c = cut_ended c.args.bytes.now _ _ c.place_of-end.ensures.place c.place_of-end.ensures.within c.if-end-bytes.false c.without_cr.ensures
