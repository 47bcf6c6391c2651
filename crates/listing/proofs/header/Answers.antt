-- `header` holds the words as they stand in the code: they are the header's fields, rendered.
use Rattle.listing.specs.Line.{ascii, onward, rendered, header_fields, text_of}
use Rattle.listing.proofs.header.Goals as goal

pub returns : goal.returns
unfolding ascii onward rendered header_fields text_of
returns c = c.holding.ensures
