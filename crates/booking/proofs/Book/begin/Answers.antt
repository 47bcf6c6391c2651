-- `Book::begin` gives the refusal of W, H and k, or a table of two desks that have booked nothing.
use borrow.Author.Tests.{ne_eqb}
use Rattle.table.specs.Fold.{if}
use Rattle.table.proofs.Margins.{refusal_some, ranges_told}
use Rattle.booking.specs.Bookings.{begun_of}
use Rattle.booking.proofs.Book.begin.Goals as goal

pub returns-in-Ok : goal.returns-in-Ok
unfolding begun_of if
returns-in-Ok c =
    rw (c.accepted.ensures, c.empty.ensures, c.empty-in-Ok.ensures, ← ranges_told _ _ _ _ c.in-Ok.ensures)

pub returns-in-Err : goal.returns-in-Err
unfolding begun_of if
returns-in-Err c =
    rw (c.refused.ensures, c.zero.ensures, c.from.ensures, ← ranges_told _ _ _ _ c.in-Err.ensures, ne_eqb _ 0 (refusal_some c.in-Err.refusal))
