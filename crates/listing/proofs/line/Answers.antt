-- `line` is the line of an event: its number, and the others behind it.
use Rattle.listing.specs.Line.{event_fields}
use Rattle.listing.proofs.line.Goals as goal

pub returns : goal.returns
unfolding event_fields
returns c = c.numbered.ensures
