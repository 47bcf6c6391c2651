-- `tally_line` is the line of a stream: its number, and the others behind it.
use Rattle.listing.specs.Line.{tally_fields}
use Rattle.listing.proofs.tally_line.Goals as goal

pub returns : goal.returns
unfolding tally_fields
returns c = c.numbered.ensures
