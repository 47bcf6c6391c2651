-- The session file of document 01: the page to hold beside its section "Session file". Reading and writing are said over it.
use Rattle.std.specs.Prelude.{Bool, List, [], ◌∷◌, ◌++◌, ℕ, zero, suc, ◌+◌, ◌*◌, eqb, length}
use Rattle.table.specs.Fold.{if}
use Rattle.table.specs.Admission.{reserved_at, period_at}
use Rattle.table.specs.declared.Table.{Table}
use Rattle.order.specs.Order.{order_number}
use Rattle.order.specs.declared.Order.{Order}
use Rattle.cells.specs.Cells.{cell}
use Rattle.file.specs.declared.form.Form.{Form}
use Rattle.file.specs.declared.form.Form.TheVariants.{Two, Three}
use Rattle.file.specs.declared.event.Event.{Event}
use Rattle.file.specs.declared.event.Event.TheVariants.{Arrival, Turn, OwnTurn, Done, Clock, Malformed}

-- ---- the two forms

-- "Two bytes: number of entries, always 2." But document 02, Req 08: "A third entry in the contents table".
abbrev pub entries_of : Form → ℕ
entries_of Two = 2
entries_of Three = 3

-- "Two entries of 12 bytes"; document 02, Req 08: "the first body starts after the last entry": at 26 or at 38
abbrev pub table_start : Form → ℕ
table_start form = 2 + 12 * entries_of form

-- the furthest place of these
abbrev pub table_start_max : ℕ
table_start_max = table_start Three

-- Document 02, Req 08: "A third entry [..] holds four bytes". They stand after the trace; in a file of two entries nothing does.
abbrev pub third_length : Form → ℕ
third_length Two = 0
third_length Three = 4

-- "0 nearest, 1 sweep"
unfoldable pub third_body : Form → Order → List ℕ
third_body form order = cell (third_length form) (order_number order)

-- the form whose third body has this length, else that of two entries
unfoldable pub form_of_third : ℕ → Form
form_of_third n = if (eqb n (third_length Three)) Three Two

-- and whether there is one
unfoldable pub is_third_length : ℕ → Bool
is_third_length n = eqb n (third_length (form_of_third n))

-- ---- the contents table

-- "Two entries of 12 bytes: kind, offset, length, four bytes each."
unfoldable pub entry : ℕ → ℕ → ℕ → List ℕ
entry kind offset len = cell 4 kind ++ cell 4 offset ++ cell 4 len

-- Document 02, Req 08: "A third entry in the contents table, kind 3", the last: for a body at this offset
abbrev pub third_entry : Form → ℕ → List ℕ
third_entry Two offset = []
third_entry Three offset = entry 3 offset (third_length Three)

-- "Two bytes: number of entries [..] Entry one is kind 1 (table) [..]; entry two is kind 2 (trace), right after it": for bodies of these lengths
unfoldable pub contents : Form → ℕ → ℕ → List ℕ
contents form table trace =
    let start = table_start form in
    cell 2 (entries_of form) ++ entry 1 start table ++ entry 2 (start + table) trace ++ third_entry form (start + table + trace)

-- ---- the bodies

-- "then e and p of each stream, four bytes each": of the first n streams
unfoldable pub stream_cells : Table → ℕ → List ℕ
stream_cells t zero = []
stream_cells t (suc n) = stream_cells t n ++ (cell 4 (reserved_at t n) ++ cell 4 (period_at t n))

-- "Table body: W, H, k, count (0 to 8), four bytes each, then e and p of each stream"
unfoldable pub table_body : Table → List ℕ
table_body t =
    cell 4 t.worst ++ cell 4 t.span ++ cell 4 t.padding ++ cell 4 t.count ++ stream_cells t t.count

-- "Trace body: 0 to 4,000 events of 16 bytes"
abbrev pub events_max : ℕ
events_max = 4_000

abbrev pub event_size : ℕ
event_size = 16

-- "Event: kind, stream, six zero bytes, eight bytes of value." But document 02, Req 07: "an arrival's tag fills the first four of the six zero bytes; other events keep zeros".
unfoldable pub event_cells : ℕ → ℕ → ℕ → ℕ → List ℕ
event_cells kind stream tag value = cell 1 kind ++ cell 1 stream ++ cell 4 tag ++ cell 2 0 ++ cell 8 value

-- "Kinds: 1 arrival, 2 turn, 3 own turn, 4 done, 5 clock. Turn has stream 0 and value 0; done and clock have stream 0." What is malformed has no bytes.
unfoldable pub bytes_of : Event → List ℕ
bytes_of (Arrival stream place tag) = event_cells 1 stream tag place
bytes_of Turn = event_cells 2 0 0 0
bytes_of (OwnTurn stream index) = event_cells 3 stream 0 index
bytes_of (Done duration) = event_cells 4 0 0 duration
bytes_of (Clock time) = event_cells 5 0 0 time
bytes_of Malformed = []

-- a trace body: its events, one after the other
unfoldable pub trace_of : List Event → List ℕ
trace_of [] = []
trace_of (e ∷ es) = bytes_of e ++ trace_of es

-- ---- the file

-- "Contents table first, then the bodies; numbers little-endian": the table, the trace, and the third body, which "the file ends with"
unfoldable pub file_of : Form → Order → Table → List ℕ → List ℕ
file_of form order t trace = contents form (length (table_body t)) (length trace) ++ table_body t ++ trace ++ third_body form order
