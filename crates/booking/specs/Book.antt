-- A booking table. Document 02, Req 10: "Rental and in-house crews book streams into the same table before opening. Each desk has a limit on the sum of g × (H / p) over its own streams, and both limits are fixed when the table is begun. [...] W, H and k are fixed first." Load and admission are those of `Admission`: there are no others.
use Rattle.std.specs.Prelude.{Bool, ◌&&◌, ◌||◌, List, ◌++◌, ℕ, ◌+◌, length, take, leb, ltb, eqb}
use Rattle.table.specs.Fold.{if, all_to}
use Rattle.table.specs.Ranges.{streams_max}
use Rattle.table.specs.Admission.{shares_of, ranges_refusal, admission_of}
use Rattle.table.specs.Reservations.{record_at, lent_table}
use Rattle.table.specs.declared.Table.{Table}
use Rattle.table.specs.declared.numbers.Numbers.{Numbers}
use Rattle.table.specs.declared.reservations.Reservation.{Reservation}
use Rattle.booking.specs.declared.Desk.{Desk}
use Rattle.booking.specs.declared.Book.{Book}

-- "W, H and k are fixed first."
abbrev pub numbers_of : Book → Numbers
numbers_of b = record { worst = b.worst; span = b.span; padding = b.padding }

-- desk 1 and desk 2; a number that is neither is refused before it is looked at
unfoldable pub desk_of : Book → ℕ → Desk
desk_of b desk = if (eqb desk 1) b.first b.second

-- the same table, of which that desk is another
unfoldable pub with_desk : Book → ℕ → Desk → Book
with_desk b desk d =
    record {
      worst = b.worst;
      span = b.span;
      padding = b.padding;
      unused = b.unused;
      first = if (eqb desk 1) d b.first;
      second = if (eqb desk 1) b.second d;
    }

-- a desk's own streams, "in order of booking"
abbrev pub streams_of : Desk → List Reservation
streams_of d = take d.count d.streams

-- "In the finished table desk 1's streams come first, then desk 2's."
abbrev pub streams_in : Book → List Reservation
streams_in b = streams_of b.first ++ streams_of b.second

-- "the number of all streams"
abbrev pub count_in : Book → ℕ
count_in b = b.first.count + b.second.count

-- some streams with the W, H and k of the booking table, as opening takes them; and so all of its streams
abbrev pub table_with : Book → List Reservation → Table
table_with b streams = lent_table b.worst b.span b.padding streams

abbrev pub table_in : Book → Table
table_in b = table_with b (streams_in b)

-- "the sum of g × (H / p) over its own streams", which is a load without its last term
abbrev pub shares_in : Book → Desk → ℕ
shares_in b d = shares_of (table_with b (streams_of d))

-- "breaks [..] a desk's limit": a sum that is as large as the limit does not
unfoldable pub keeps_limit : Book → Desk → Bool
keeps_limit b d = leb (shares_in b d) d.limit

-- "an unused cell is not 0": a desk has eight cells, and the first are used
unfoldable pub empty_cell : Reservation → Bool
empty_cell r = eqb r.reserved 0 && eqb r.period 0

unfoldable pub sound_cells : Desk → Bool
sound_cells d =
    eqb (length d.streams) streams_max
    && leb d.count streams_max
    && all_to (λ i. ltb i d.count || empty_cell (record_at d.streams i)) streams_max

-- "the table handed in breaks 2 to 7": a table without streams has no load, and breaks none of 5 to 7
unfoldable pub table_refusal : Book → ℕ
table_refusal b = if (eqb (count_in b) 0) (ranges_refusal b.worst b.span b.padding) (admission_of (table_in b))

-- what is not refused by 31; one cell of the table itself is unused, too
unfoldable pub is_sound : Book → Bool
is_sound b =
    sound_cells b.first
    && sound_cells b.second
    && leb (count_in b) streams_max
    && eqb (table_refusal b) 0
    && keeps_limit b b.first
    && keeps_limit b b.second
    && eqb b.unused 0
