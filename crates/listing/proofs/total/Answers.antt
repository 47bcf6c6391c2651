-- `total` is the line of its word and no number.
use Rattle.listing.specs.Line.{ascii}
use Rattle.listing.proofs.total.Goals as goal

pub returns : goal.returns
unfolding ascii
returns c = c.worded.ensures
