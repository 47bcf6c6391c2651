-- What is wrong with a line: the first of these that is so, from its start on. A right line may still stand where it may not.
use Rattle.std.specs.Prelude.{Bool, true, false, not, ◌&&◌, ◌||◌, ℕ, ◌+◌, ltb, eqb}
use Rattle.table.specs.Fold.{if}
use Rattle.notes.specs.declared.Notes.{Notes}
use Rattle.notes.specs.declared.fault.Fault.{Fault}
use Rattle.notes.specs.declared.fault.Fault.TheVariants.{Return, Mark, Word, Numbers, OneWord, NoNumber, TooLarge, NoOrder, Misplaced, NinthStream, LateEvent}
use Rattle.notes.specs.declared.draft.Place.{Place}
use Rattle.notes.specs.declared.draft.Place.TheVariants.{Between, Within, Comment, Returned, Stray, Amiss}
use Rattle.notes.specs.declared.draft.Draft.{Draft}
use Rattle.notes.specs.declared.heard.Heard.{Heard}
use Rattle.notes.specs.declared.line.Line.{Line}
use Rattle.notes.specs.Draft.{takes_name}
use Rattle.notes.specs.Line.{line_of}
use Rattle.notes.specs.Numbers.{is_right, is_known, takes, fits, room_at}
use Rattle.notes.specs.Heard.{is_marked}

abbrev pub is_stray : Place → Bool
is_stray Between = false
is_stray Within = false
is_stray Comment = false
is_stray Returned = false
is_stray Stray = true
is_stray Amiss = false

abbrev pub is_amiss : Place → Bool
is_amiss Between = false
is_amiss Within = false
is_amiss Comment = false
is_amiss Returned = false
is_amiss Stray = false
is_amiss Amiss = true

-- a right line, after so many numbers of the table and so many events: one stream too many, one event too many, or one that comes too early, too late or twice
unfoldable pub stream_fault : ℕ → ℕ → Fault
stream_fault numbers events = if (eqb numbers 3 && eqb events 0) NinthStream Misplaced

unfoldable pub event_fault : ℕ → Fault
event_fault numbers = if (eqb numbers 3) LateEvent Misplaced

abbrev pub right_fault : ℕ → ℕ → Line → Fault
right_fault numbers events Line.Blank = Misplaced
right_fault numbers events (Line.Worst n) = Misplaced
right_fault numbers events (Line.Span n) = Misplaced
right_fault numbers events (Line.Padding n) = Misplaced
right_fault numbers events (Line.Ordered o) = Misplaced
right_fault numbers events (Line.Stream e p) = stream_fault numbers events
right_fault numbers events (Line.Call event) = event_fault numbers
right_fault numbers events Line.Wrong = Misplaced

-- more or fewer fields behind a word than it takes
unfoldable pub count_fault : ℕ → Fault
count_fault word = if (takes_name word) OneWord (Numbers (takes word))

-- a field behind a word that is not as it should be: no name of an order, no number, or one too large
unfoldable pub field_fault : Draft → Bool → Fault
field_fault d digits =
    if (takes_name d.word) NoOrder
    (if (is_amiss d.place && not digits) NoNumber
    (TooLarge (room_at d)))

-- behind a word of notes: such a field, or too few
unfoldable pub value_fault : Draft → Bool → ℕ → ℕ → Fault
value_fault d digits numbers events =
    if (is_amiss d.place || not (fits d)) (field_fault d digits)
    (if (is_right (line_of d)) (right_fault numbers events (line_of d))
    (count_fault d.word))

-- a carriage return within the line, a byte order mark, no word of notes, more fields than it takes
unfoldable pub fault_of : Draft → Heard → ℕ → ℕ → Fault
fault_of d h numbers events =
    if (is_stray d.place) Return
    (if (is_marked h.word) Mark
    (if (not (is_known d.word) || (is_amiss d.place && eqb d.fields 1)) Word
    (if (ltb (takes d.word + 1) d.fields) (count_fault d.word)
    (value_fault d h.number.digits numbers events))))

abbrev pub fault_by : Notes → Fault
fault_by n = fault_of n.draft n.heard n.numbers n.events
