-- `Book::records` puts desk 2's streams behind desk 1's.
use mathlib.Core.Path.{◌≡◌}
use Prim.Native.Nat.{◌-◌}
use native.Mathlib.Omega.{arith}
use lib.ListN.{length, length-append}
use Rattle.table.specs.Reservations.{records_of}
use Rattle.booking.specs.Book.{streams_of, streams_in, count_in}
use Rattle.booking.proofs.Cells.{cells_of, both_listed}
use Rattle.booking.proofs.Book.records.Goals as goal

pub returns : goal.returns
unfolding records_of
returns c =
    let b = c.args.self in
    let one = cells_of _ c.requires.0 in
    let two = cells_of _ c.requires.1 in
    let more : c.count-count.result - b.first.count ≡ b.second.count = omega (arith, c.count-count.ensures) in
    let all : length (streams_in b) ≡ count_in b = omega (arith, length-append (streams_of b.first) (streams_of b.second), one.long, two.long) in
    rw (c.copy_from_slice.ensures.after, more, c.count-count.ensures, all, both_listed b.first b.second one two c.requires.2)
