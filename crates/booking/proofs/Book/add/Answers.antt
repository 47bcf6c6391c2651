-- `Book::add` gives the refusal, or the table with the desk that is left and its count.
use borrow.Author.Tests.{ne_eqb}
use Rattle.table.specs.Fold.{if}
use Rattle.booking.specs.Bookings.{with_stream, add_of}
use Rattle.booking.proofs.Refusals.{refusal_some}
use Rattle.booking.proofs.Book.add.Goals as goal

pub returns-in-Ok : goal.returns-in-Ok
unfolding add_of with_stream if
returns-in-Ok c = rw (c.accepted.ensures, c.with_desk.ensures, c.in-Ok.ensures.value, ← c.in-Ok.ensures.number)

pub returns-in-Err : goal.returns-in-Err
unfolding add_of if
returns-in-Err c = rw (c.refused.ensures, ← c.in-Err.ensures.number, ne_eqb _ 0 (refusal_some c.in-Err.refusal))
