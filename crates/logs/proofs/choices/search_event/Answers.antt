-- `search_event` compares the line with that of the event, and has the session after it.
use Rattle.table.specs.Fold.{if}
use Rattle.listing.specs.Line.{text_of}
use Rattle.trace.specs.Trace.{handed}
use Rattle.logs.specs.Following.{first_that_is}
use Rattle.logs.specs.Inner.{found_if}
use Rattle.logs.proofs.choices.search_event.Goals as goal

pub returns : goal.returns
unfolding first_that_is found_if handed text_of if
returns c = rw (c.search_text.ensures, c.step-stepped.ensures)
