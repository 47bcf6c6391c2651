-- What is done to a booking table: it is begun, streams are added and withdrawn, and it is finished. Document 02, Req 10.
use Rattle.std.specs.Prelude.{not, [], ℕ, suc, ◌-◌, set, replicate, leb, ltb, eqb}
use Rattle.table.specs.Fold.{if, closed_up}
use Rattle.table.specs.Refusal.{given, ◌or_next◌, outside}
use Rattle.table.specs.Ranges.{streams_max}
use Rattle.table.specs.Admission.{load_of, ranges_refusal, stream_refusal}
use Rattle.table.specs.Reservations.{no_record, records_of, table_of_records}
use Rattle.table.specs.declared.Table.{Table}
use Rattle.booking.specs.Book.{desk_of, with_desk, streams_in, count_in, table_in, shares_in, is_sound}
use Rattle.booking.specs.declared.Desk.{Desk}
use Rattle.booking.specs.declared.Book.{Book}
use Rattle.booking.specs.declared.Receipt.{Receipt}
use Rattle.booking.specs.declared.Booked.{Booked}
use Rattle.booking.specs.declared.Finished.{Finished}
use Rattle.booking.specs.declared.Closed.{Closed}
use Rattle.booking.specs.declared.Booking.{Booking}
use Rattle.booking.specs.declared.Booking.TheVariants.{Add, Withdraw}

-- "An accepted booking replies 0 and the desk's own count after it; a refused one changes nothing", and its value is 0
abbrev pub accepted : ℕ → Receipt
accepted count = record { number = 0; value = count }

abbrev pub refused : ℕ → Receipt
refused number = record { number = number; value = 0 }

abbrev pub booked : Book → Receipt → Booked
booked b receipt = record { book = b; receipt = receipt }

-- a desk that has booked nothing, with its limit, and a table of two such
abbrev pub empty_desk : ℕ → Desk
empty_desk limit = record { limit = limit; count = 0; streams = replicate streams_max no_record }

abbrev pub empty_book : ℕ → ℕ → ℕ → ℕ → ℕ → Book
empty_book worst span k limit1 limit2 =
    record { worst = worst; span = span; padding = k; unused = 0; first = empty_desk limit1; second = empty_desk limit2 }

-- "Refusals: at the beginning 2, 3, 4, leaving an all-zero table"
abbrev pub zero_book : Book
zero_book = empty_book 0 0 0 0 0

unfoldable pub begun_of : ℕ → ℕ → ℕ → ℕ → ℕ → Booked
begun_of worst span k limit1 limit2 =
    let refusal = ranges_refusal worst span k in
    if (eqb refusal 0) (booked (empty_book worst span k limit1 limit2) (accepted 0)) (booked zero_book (refused refusal))

-- a stream more of a desk: it "counts its own streams from 1 in order of booking"
unfoldable pub with_stream : Desk → ℕ → ℕ → Desk
with_stream d e p =
    record { limit = d.limit; count = suc d.count; streams = set d.streams d.count (record { reserved = e; period = p }) }

-- and one less, "closing up after a withdrawal"
unfoldable pub without_stream : Desk → ℕ → Desk
without_stream d number =
    record { limit = d.limit; count = d.count - 1; streams = closed_up no_record (number - 1) d.streams }

-- the table with a stream more of a desk, and with one less
abbrev pub added : Book → ℕ → ℕ → ℕ → Book
added b desk e p = with_desk b desk (with_stream (desk_of b desk) e p)

abbrev pub withdrawn : Book → ℕ → ℕ → Book
withdrawn b desk number = with_desk b desk (without_stream (desk_of b desk) number)

-- "first of all in a booking 31 [..], next 30 (desk not 1 or 2)"
unfoldable pub desk_refusal : Book → ℕ → ℕ
desk_refusal b desk = given (not (is_sound b)) 31 or_next given (outside 1 2 desk) 30

-- "then for adding 1 (table full), 5, 6, 18 (the desk's sum would pass its limit), 7"
unfoldable pub add_refusal : Book → ℕ → ℕ → ℕ → ℕ
add_refusal b desk e p =
    let own = with_stream (desk_of b desk) e p in
    desk_refusal b desk
    or_next given (leb streams_max (count_in b)) 1
    or_next stream_refusal b.worst b.span b.padding e p
    or_next given (ltb own.limit (shares_in b own)) 18
    or_next given (ltb b.span (load_of (table_in (added b desk e p)))) 7

-- "for withdrawing 19 (the desk has no stream of that number)"
unfoldable pub withdraw_refusal : Book → ℕ → ℕ → ℕ
withdraw_refusal b desk number = desk_refusal b desk or_next given (outside 1 (desk_of b desk).count number) 19

-- "A desk may add a stream or withdraw one of its own."
unfoldable pub add_of : Book → ℕ → ℕ → ℕ → Booked
add_of b desk e p =
    let refusal = add_refusal b desk e p in
    if (eqb refusal 0) (booked (added b desk e p) (accepted (suc (desk_of b desk).count))) (booked b (refused refusal))

unfoldable pub withdraw_of : Book → ℕ → ℕ → Booked
withdraw_of b desk number =
    let refusal = withdraw_refusal b desk number in
    if (eqb refusal 0) (booked (withdrawn b desk number) (accepted ((desk_of b desk).count - 1))) (booked b (refused refusal))

-- a booking is either
abbrev pub booking_of : Book → Booking → Booked
booking_of b (Add desk e p) = add_of b desk e p
booking_of b (Withdraw desk number) = withdraw_of b desk number

-- the finished table's streams, as opening takes them; 31 and none where the table handed in is not sound
unfoldable pub finished_of : Book → Finished
finished_of b =
    if (is_sound b) (record { number = 0; records = records_of (streams_in b) }) (record { number = 31; records = records_of [] })

-- the table of them that is opened
abbrev pub finished_table : Book → Table
finished_table b =
    let streams = (finished_of b).records in table_of_records b.worst b.span b.padding streams.rows streams.count

-- finishing answers them beside the booking table, of which nothing changes
abbrev pub closed_of : Book → Closed
closed_of b = record { book = b; finished = finished_of b }
