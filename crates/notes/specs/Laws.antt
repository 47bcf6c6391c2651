-- What is proved of notes.
use Rattle.std.specs.Prelude.{true, false, ◌≡◌, List, [], ◌∷◌, ◌++◌, map, ℕ, ◌+◌, ◌*◌, ◌^◌, ◌≤◌, ◌<◌, eqb, length, drop, replicate, Option, None, Some, Result, Ok}
use Prim.Native.Char.{code}
use Rattle.table.specs.Fold.{if}
use Rattle.table.specs.Ranges.{streams_max}
use Rattle.table.specs.declared.Table.{Table}
use Rattle.cells.specs.Cells.{Bytes}
use Rattle.order.specs.declared.Order.{Order}
use Rattle.order.specs.declared.Order.TheVariants.{Nearest}
use Rattle.file.specs.declared.form.Form.{Form}
use Rattle.file.specs.declared.form.Form.TheVariants.{Two, Three}
use Rattle.file.specs.Reading.{events_in, form_in, order_in, table_in, trace_in, is_laid_out}
use Rattle.file.specs.Laws.{Coded, Words}
use Rattle.file.specs.File.{event_size, file_of}
use Rattle.file.specs.Listing.{listing_file, sweep_file}
use Rattle.listing.specs.Line.{space, newline, ascii, rendered}
use Rattle.listing.specs.Laws.{Each}
use Rattle.notes.specs.declared.Notes.{Notes}
use Rattle.notes.specs.declared.Composed.{Composed}
use Rattle.notes.specs.declared.Composed.TheVariants.{Written, Streamless}
use Rattle.notes.specs.declared.Flaw.{Flaw}
use Rattle.notes.specs.declared.line.Line.{Line}
use Rattle.notes.specs.declared.draft.Draft.{Draft}
use Rattle.notes.specs.declared.line.Line.TheVariants.{Blank, Worst, Span, Padding, Ordered, Stream, Call, Wrong}
use Rattle.notes.specs.declared.draft.Place.TheVariants.{Returned}
use Rattle.notes.specs.Draft.{held_after, blank, tab, carriage_return, with_byte}
use Rattle.notes.specs.Line.{line_of, line_shown, head_lines, notes_of}
use Rattle.notes.specs.Words.{words_of, line_of_words}
use Rattle.notes.specs.Notes.{noted, started, after, expected_by, Read, read, line_refusal, refused_by, trace_after, bytes_read, ended, Filed, filed, written_by, filed_by}
use Rattle.notes.specs.Cases.{Case, cases}

-- a line whose numbers have room in their fields
abbrev pub Fits : Line → Type 0
Fits Blank = Unit
Fits (Worst n) = n < 2 ^ 32
Fits (Span n) = n < 2 ^ 32
Fits (Padding n) = n < 2 ^ 32
Fits (Ordered order) = Unit
Fits (Stream reserved period) = (reserved < 2 ^ 32) × (period < 2 ^ 32)
Fits (Call event) = Coded event
Fits Wrong = ⊥

-- A line that is shown is read as that line, wherever it may stand; where the trace refuses its event, the notes have heard of it.
abbrev pub LineReadsBack : Type 0
LineReadsBack =
    (line numbers : ℕ) (form : Form) (order : Order) (table : Table) (events : ℕ) (began : Option ℕ) (trace : List ℕ) (l : Line) → Fits l
    → let n = noted line numbers form order table events began in
    (after n l).wrong ≡ false → bytes_read (read n trace) (rendered (line_shown l)) ≡ read (refused_by (after n l) (line_refusal trace events l)) (trace_after trace events l)

-- A line that is read byte by byte is the line of its words, whatever bytes they are.
unfoldable pub drawn : Draft → List ℕ → Draft
drawn d [] = d
drawn d (byte ∷ rest) = drawn (with_byte d byte) rest

abbrev pub LineByWords : Type 0
LineByWords = (line : List ℕ) → line_of (drawn blank line) ≡ line_of_words (words_of line)

-- So a line of notes is taken as what its words say, where that may stand; where it may not, the line is told with what was expected, and the trace stays.
abbrev pub LineIsJudged : Type 0
LineIsJudged =
    (line numbers : ℕ) (form : Form) (order : Order) (table : Table) (events : ℕ) (began : Option ℕ) (trace bytes : List ℕ) → Each (λ byte. byte ≡ newline → ⊥) bytes
    → let n = noted line numbers form order table events began in
    let l = line_of_words (words_of bytes) in
    let r = bytes_read (read n trace) (bytes ++ (newline ∷ [])) in
    ((after n l).wrong ≡ false → r ≡ read (refused_by (after n l) (line_refusal trace events l)) (trace_after trace events l))
    × ((after n l).wrong ≡ true
    → (r.notes.wrong ≡ true) × (r.notes.line ≡ line) × (expected_by r.notes ≡ expected_by n) × (r.trace ≡ trace))

-- An arrival without a tag has tag 0.
abbrev pub TagMayBeLeftOut : Type 0
TagMayBeLeftOut =
    (stream place : List ℕ)
    → line_of_words (ascii "arrival" ∷ stream ∷ place ∷ ascii "0" ∷ []) ≡ line_of_words (ascii "arrival" ∷ stream ∷ place ∷ [])

-- The line of an order gives the notes a third entry of their file, with its order; any other leaves form and order as they are, which are two entries and nearest at first.
abbrev pub OrderIsOfItsLine : Type 0
OrderIsOfItsLine =
    ((n : Notes) (o : Order) → (after n (Ordered o)).wrong ≡ false → ((after n (Ordered o)).form ≡ Three) × ((after n (Ordered o)).order ≡ o))
    × ((n : Notes) (l : Line) → ((o : Order) → l ≡ Ordered o → ⊥) → ((after n l).form ≡ n.form) × ((after n l).order ≡ n.order))

-- Words are told apart by the numbers as which they are held, however many letters they have.
abbrev pub Letter : ℕ → Type 0
Letter byte = (code "a" ≤ byte) × (byte ≤ code "z")

abbrev pub WordsTell : Type 0
WordsTell = (a b : List ℕ) → Each Letter a → Each Letter b → held_after 0 a ≡ held_after 0 b → a ≡ b

-- Notes may be read in pieces: it makes no difference where they are cut.
abbrev pub PiecesJoin : Type 0
PiecesJoin = (r : Read) (a b : List ℕ) → bytes_read r (a ++ b) ≡ bytes_read (bytes_read r a) b

-- A tab reads as a space, wherever it stands.
abbrev pub TabIsSpace : Type 0
TabIsSpace = (r : Read) (a b : List ℕ) → bytes_read r (a ++ (tab ∷ b)) ≡ bytes_read r (a ++ (space ∷ b))

-- what composing makes of what has been read
abbrev pub composed_of : Read → List ℕ → Filed
composed_of r out = let last = ended r.notes r.trace in filed_by last.notes last.trace out

-- A carriage return before a newline is dropped, unless another one stands before it: the reply and the file are the same without it.
abbrev pub ReturnIsDropped : Type 0
ReturnIsDropped =
    (r : Read) (more out : List ℕ) → (r.notes.draft.place ≡ Returned → ⊥)
    → composed_of (bytes_read r (carriage_return ∷ newline ∷ more)) out ≡ composed_of (bytes_read r (newline ∷ more)) out

-- what composing says of a file of so many bytes, whose table has streams, or whose first event stands right after the head of its notes, or which has none
abbrev pub said_of : Form → Table → List ℕ → ℕ → Result Composed Flaw
said_of form t trace len = Ok (written_by t.count (if (eqb (events_in trace) 0) None (Some (t.count + head_lines form + 1))) len)

-- What is shown of a file is composed to that file, byte for byte, whatever stood in the buffers that are lent for the trace and the file, if they have the room.
abbrev pub ShownComposes : Type 0
ShownComposes =
    (file buffer out : List ℕ) → Bytes file → is_laid_out file ≡ true → events_in (trace_in file) ≤ events_in buffer → length file ≤ length out
    → composed_of (bytes_read (read started buffer) (notes_of (form_in file) (order_in file) (table_in file) (trace_in file))) out
    ≡ filed (said_of (form_in file) (table_in file) (trace_in file) (length file)) (file ++ drop (length file) out)

-- So are the notes of any table without events, to a file of two entries; what stands past the table's count is not shown, and not in the file.
abbrev pub TableComposes : Type 0
TableComposes =
    (t : Table) (buffer out : List ℕ) → Words t → t.count ≤ streams_max
    → let file = file_of Two Nearest t [] in
    length file ≤ length out
    → composed_of (bytes_read (read started buffer) (notes_of Two Nearest t [])) out ≡ filed (Ok (written_by t.count None (length file))) (file ++ drop (length file) out)

-- What a message quotes is of the wrong line, whether it ended with a newline or with the notes.
abbrev pub HeardStays : Type 0
HeardStays = (n : Notes) (trace : List ℕ) → (ended n trace).notes.wrong ≡ true → (ended n trace).notes.heard ≡ n.heard

-- Where no file is written, no byte of its buffer changes.
abbrev pub NothingElseWritten : Type 0
NothingElseWritten =
    (n : Notes) (trace out : List ℕ)
    → ((len : ℕ) → (filed_by n trace out).reply ≡ Ok (Written len) → ⊥) → ((len : ℕ) (event : Option ℕ) → (filed_by n trace out).reply ≡ Ok (Streamless len event) → ⊥)
    → (filed_by n trace out).out ≡ out

-- what composing makes of some notes, in buffers of zeros for so many events and a file of so many bytes
abbrev pub composed_in : ℕ → ℕ → List ℕ → Filed
composed_in events size notes = composed_of (bytes_read (read started (replicate (event_size * events) 0)) notes) (replicate size 0)

-- Notes of listing (P), as they might be written by hand, are composed to the 234 bytes of its file; and notes with an order to a file of three entries.
abbrev pub hand_written : List ℕ
hand_written =
    ascii "# listing (P)\nworst 25000\n  span  1000000\npadding 1 # as the card says\n\nstream 25000 250000\nstream 175000 500000\narrival 1 100\nturn\ndone 5000\nturn#\nclock 0105000\nturn\narrival 2 900\nturn\nclock 106000\ndone 25000 \nclock 160000"

abbrev pub with_order : List ℕ
with_order =
    ascii "worst 25000\nspan 1000000\npadding 1\norder\tsweep # as the archive shelves do\nstream 25000 250000\nstream 175000 500000\narrival 1 100"

abbrev pub ListingComposes : Type 0
ListingComposes =
    (composed_in 11 234 hand_written ≡ filed (Ok (Written 234)) listing_file)
    × (composed_in 1 90 with_order ≡ filed (Ok (Written 90)) sweep_file)

-- Each case of `Cases` comes out as it stands there.
abbrev pub CasesHold : Type 0
CasesHold = map (λ (k : Case). (composed_in 2 106 k.notes).reply) cases ≡ map (λ (k : Case). k.answer) cases
