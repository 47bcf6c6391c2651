-- `Desk::without_stream` closes up over the stream of a number.
use mathlib.Core.Path.{◌≡◌}
use borrow.Author.Rules.{rules}
use Rattle.table.specs.Reservations.{no_record}
use Rattle.booking.specs.Bookings.{without_stream}
use Rattle.booking.proofs.Desk.without_stream.Goals as goal

pub returns : goal.returns
unfolding without_stream
returns c =
    let none : c.default.result ≡ no_record = search rules in
    rw (c.closed_up.ensures, none)
