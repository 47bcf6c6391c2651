-- A file of bookings, line by line: whether each line may stand where it stands, and what is printed.
use Rattle.std.specs.Prelude.{Bool, true, false, not, List, [], ◌∷◌, ◌++◌, ℕ, suc, ◌+◌, min, eqb, length, drop, Result, Ok, Err}
use Rattle.table.specs.Fold.{if}
use Rattle.order.specs.declared.Order.TheVariants.{Nearest}
use Rattle.file.specs.declared.form.Form.TheVariants.{Two}
use Rattle.listing.specs.Line.{newline, rendered, receipt_fields}
use Rattle.notes.specs.Line.{notes_of}
use Rattle.booking.specs.Bookings.{accepted, booked, zero_book, begun_of, booking_of, finished_of, finished_table}
use Rattle.booking.specs.declared.Book.{Book}
use Rattle.booking.specs.declared.Booked.{Booked}
use Rattle.booking.specs.declared.Receipt.{Receipt}
use Rattle.ledger.specs.Entry.{entry_of}
use Rattle.ledger.specs.declared.Entry.{Entry}
use Rattle.ledger.specs.declared.Entry.TheVariants.{Blank, Begin, Call, Wrong}
use Rattle.ledger.specs.declared.Fault.{Fault}
use Rattle.ledger.specs.declared.Fault.TheVariants.{Unbegun, Amiss}

-- the lines of a file, each without its newline; what follows the last newline is one, too
unfoldable pub lines_after : List ℕ → List ℕ → List (List ℕ)
lines_after line [] = line ∷ []
lines_after line (byte ∷ rest) = if (eqb byte newline) (line ∷ lines_after [] rest) (lines_after (line ++ (byte ∷ [])) rest)

abbrev pub lines_of : List ℕ → List (List ℕ)
lines_of file = lines_after [] file

-- where the line ends that goes on at an index: at the first newline from there on, or at the end of the file; past that there is none
unfoldable pub line_length : List ℕ → ℕ
line_length [] = 0
line_length (byte ∷ rest) = if (eqb byte newline) 0 (suc (line_length rest))

unfoldable pub line_end : List ℕ → ℕ → ℕ
line_end file start = min start (length file) + line_length (drop start file)

-- `begin` comes first, and once: whether a line may stand where a table is begun or is not, and whether one is begun then. Blank lines stand anywhere.
abbrev pub stands : Bool → Entry → Bool
stands begun Blank = true
stands begun (Begin worst span k limit1 limit2) = not begun
stands begun (Call booking) = begun
stands begun Wrong = false

abbrev pub begins : Bool → Entry → Bool
begins begun Blank = begun
begins begun (Begin worst span k limit1 limit2) = true
begins begun (Call booking) = begun
begins begun Wrong = begun

-- the first line that may not stand where it stands, by its number, and whether a table was begun before it; or that none was begun at all
unfoldable pub judged_from : ℕ → Bool → List (List ℕ) → Result (Unit {0}) Fault
judged_from number begun [] = if begun (Ok tt) (Err Unbegun)
judged_from number begun (line ∷ rest) =
    if (stands begun (entry_of line)) (judged_from (suc number) (begins begun (entry_of line)) rest) (Err (Amiss number begun))

abbrev pub judged_of : List ℕ → Result (Unit {0}) Fault
judged_of file = judged_from 1 false (lines_of file)

-- what a line comes to: the table afterwards, and its reply; of a blank or wrong line nothing
abbrev pub taken_by : Book → Entry → Booked
taken_by b Blank = booked b (accepted 0)
taken_by b (Begin worst span k limit1 limit2) = begun_of worst span k limit1 limit2
taken_by b (Call booking) = booking_of b booking
taken_by b Wrong = booked b (accepted 0)

-- a line that is taken has its reply: the number and the value
abbrev pub replied_to : Receipt → Entry → List ℕ
replied_to r Blank = []
replied_to r (Begin worst span k limit1 limit2) = rendered (receipt_fields r.number r.value)
replied_to r (Call booking) = rendered (receipt_fields r.number r.value)
replied_to r Wrong = []

-- and after the last line comes the finished table, as notes that are composed to its file, unless the beginning was refused, which leaves a table that cannot be finished
unfoldable pub finished_notes : Book → List ℕ
finished_notes b = if (eqb (finished_of b).number 0) (notes_of Two Nearest (finished_table b) []) []

unfoldable pub printed_from : Book → List (List ℕ) → List ℕ
printed_from b [] = finished_notes b
printed_from b (line ∷ rest) =
    let t = taken_by b (entry_of line) in replied_to t.receipt (entry_of line) ++ printed_from t.book rest

-- all that is printed of a file that is right
abbrev pub printed_of : List ℕ → List ℕ
printed_of file = printed_from zero_book (lines_of file)
