-- `Desk::with_stream` puts a stream behind the others.
use native.Mathlib.Numerals.{add-one}
use Rattle.booking.specs.Bookings.{with_stream}
use Rattle.booking.proofs.Desk.with_stream.Goals as goal

pub returns : goal.returns
unfolding with_stream
returns c = rw add-one
