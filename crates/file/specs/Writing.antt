-- Writing a session file, and an event of a trace, into a buffer that is lent.
use Rattle.std.specs.Prelude.{Bool, true, false, not, ◌&&◌, List, ◌++◌, ℕ, ◌*◌, leb, ltb, eqb, length, drop}
use Rattle.std.proofs.lemmas.List.Edits.{sets}
use Rattle.std.specs.declared.result.Result.{Result}
use Rattle.table.specs.Fold.{if}
use Rattle.table.specs.Refusal.{given, ◌or_next◌}
use Rattle.table.specs.Ranges.{streams_max}
use Rattle.table.specs.declared.Table.{Table}
use Rattle.order.specs.Order.{order_number}
use Rattle.order.specs.declared.Order.{Order}
use Rattle.file.specs.File.{contents, table_body, file_of, events_max, event_size, bytes_of}
use Rattle.file.specs.Reading.{events_in, is_trace}
use Rattle.file.specs.Refusal.{answer_by}
use Rattle.file.specs.declared.refusal.Refusal.{Refusal}
use Rattle.file.specs.declared.form.Form.{Form}
use Rattle.file.specs.declared.form.Form.TheVariants.{Two, Three}
use Rattle.file.specs.declared.event.Event.{Event}
use Rattle.file.specs.declared.event.Event.TheVariants.{Arrival, Turn, OwnTurn, Done, Clock, Malformed}

-- Document 02, Req 08: "a file with two entries means nearest", so it has no place for another order
abbrev pub has_place : Form → Order → Bool
has_place Two order = eqb (order_number order) 0
has_place Three order = true

-- "it writes count up to 8 and up to 4,000 events of the above form"
unfoldable pub is_writable : Form → Order → Table → List ℕ → Bool
is_writable form order t trace = leb t.count streams_max && has_place form order && is_trace trace

-- "Writing: 16, 17": 16 "file or event not as laid out", 17 "output buffer shorter than the file"
unfoldable pub write_refusal : Form → Order → Table → List ℕ → ℕ → ℕ
write_refusal form order t trace room =
    given (not (is_writable form order t trace)) 16
    or_next given (ltb room (length (file_of form order t trace))) 17

-- how long the file is, or the refusal
unfoldable pub write_of : Form → Order → Table → List ℕ → List ℕ → Result ℕ Refusal
write_of form order t trace out =
    answer_by (write_refusal form order t trace (length out)) (length (file_of form order t trace))

-- "Writing leaves bytes after the file unchanged"; "A refused call returns its number and changes no byte of session or buffer."
unfoldable pub written_on : Form → Order → Table → List ℕ → List ℕ → List ℕ
written_on form order t trace out =
    let file = file_of form order t trace in
    if (eqb (write_refusal form order t trace (length out)) 0) (file ++ drop (length file) out) out

-- what stands before the trace of a file of so many events, stored at the start of a buffer: there is no file of more than eight streams, or of more than 4,000 events
unfoldable pub headed_on : Form → Table → ℕ → List ℕ → List ℕ
headed_on form t events out =
    if (leb t.count streams_max && leb events events_max)
    (sets out 0 (contents form (length (table_body t)) (event_size * events) ++ table_body t))
    out

-- "Event: kind, stream, six zero bytes, eight bytes of value": a stream has one byte
abbrev pub stream_byte_max : ℕ
stream_byte_max = 255

-- an event that has bytes: it is not malformed, and its stream has room in one byte
unfoldable pub is_storable : Event → Bool
is_storable (Arrival stream place tag) = leb stream stream_byte_max
is_storable Turn = true
is_storable (OwnTurn stream index) = leb stream stream_byte_max
is_storable (Done duration) = true
is_storable (Clock time) = true
is_storable Malformed = false

-- Of an event to be stored at i of a trace, counted from 0: 16 "file or event not as laid out", 17 past the last whole one
unfoldable pub put_refusal : List ℕ → ℕ → Event → ℕ
put_refusal trace i e =
    given (not (is_storable e)) 16
    or_next given (leb (events_in trace) i) 17

-- a trace with an event stored at i; where that is refused it stays as it is
unfoldable pub with_event : List ℕ → ℕ → Event → List ℕ
with_event trace i e = if (eqb (put_refusal trace i e) 0) (sets trace (event_size * i) (bytes_of e)) trace
