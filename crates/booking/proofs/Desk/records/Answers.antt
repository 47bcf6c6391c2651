-- `Desk::records` hands over the cells, of which those past the streams are empty.
use Rattle.booking.proofs.Cells.{desk_records}
use Rattle.booking.proofs.Desk.records.Goals as goal

pub returns : goal.returns
returns c = desk_records _ c.requires
