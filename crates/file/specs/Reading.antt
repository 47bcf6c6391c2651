-- What reading makes of any bytes.
use Rattle.std.specs.Prelude.{Bool, true, false, not, ◌&&◌, List, ℕ, ◌+◌, ◌-◌, ◌*◌, ◌/◌, ◌%◌, leb, ltb, eqb, length, take, drop}
use Rattle.std.specs.declared.result.Result.{Result}
use Rattle.std.specs.declared.result.Result.TheVariants.{Ok, Err}
use Rattle.table.specs.Fold.{if, all_to, list_to}
use Rattle.table.specs.Ranges.{streams_max}
use Rattle.table.specs.declared.Table.{Table}
use Rattle.cells.specs.Cells.{number_at}
use Rattle.order.specs.Order.{is_order, order_of}
use Rattle.order.specs.declared.Order.{Order}
use Rattle.file.specs.File.{entries_of, table_start, third_length, events_max, event_size}
use Rattle.file.specs.declared.form.Form.{Form}
use Rattle.file.specs.declared.form.Form.TheVariants.{Two, Three}
use Rattle.file.specs.declared.outline.Outline.{Outline}
use Rattle.file.specs.declared.Layout.{Layout}
use Rattle.file.specs.declared.refusal.Refusal.{Refusal}
use Rattle.file.specs.declared.refusal.Refusal.TheVariants.{Layout as NotLaidOut}
use Rattle.file.specs.declared.event.Event.{Event}
use Rattle.file.specs.declared.event.Event.TheVariants.{Arrival, Turn, OwnTurn, Done, Clock, Malformed}

-- ---- events

-- "Kinds: 1 arrival, 2 turn, 3 own turn, 4 done, 5 clock. Turn has stream 0 and value 0; done and clock have stream 0." An arrival alone has a tag; document 02, Req 07: "other events keep zeros".
unfoldable pub event_of : ℕ → ℕ → ℕ → ℕ → Event
event_of kind stream tag value =
    if (eqb kind 1) (Arrival stream value tag)
    (if (not (eqb tag 0)) Malformed
    (if (eqb kind 2 && eqb stream 0 && eqb value 0) Turn
    (if (eqb kind 3) (OwnTurn stream value)
    (if (eqb kind 4 && eqb stream 0) (Done value)
    (if (eqb kind 5 && eqb stream 0) (Clock value)
    Malformed)))))

-- "Event: kind, stream, six zero bytes, eight bytes of value", where by document 02, Req 07, "an arrival's tag fills the first four of the six zero bytes": the event in the 16 bytes from an index on
unfoldable pub event_from : List ℕ → ℕ → Event
event_from trace at =
    if (eqb (number_at 2 trace (at + 6)) 0)
    (event_of (number_at 1 trace at) (number_at 1 trace (at + 1)) (number_at 4 trace (at + 2)) (number_at 8 trace (at + 8)))
    Malformed

-- how many whole events a trace has
abbrev pub events_in : List ℕ → ℕ
events_in trace = length trace / event_size

-- the event at i of a trace, counted from 0; there is none past the last whole one
unfoldable pub event_at : List ℕ → ℕ → Event
event_at trace i = if (ltb i (events_in trace)) (event_from trace (event_size * i)) Malformed

abbrev pub formed : Event → Bool
formed (Arrival stream place tag) = true
formed Turn = true
formed (OwnTurn stream index) = true
formed (Done duration) = true
formed (Clock time) = true
formed Malformed = false

-- "Trace body: 0 to 4,000 events of 16 bytes", each "of the above form"
unfoldable pub is_trace : List ℕ → Bool
is_trace trace =
    eqb (length trace % event_size) 0
    && leb (events_in trace) events_max
    && all_to (λ i. formed (event_at trace i)) (events_in trace)

-- ---- where the parts of a file are

-- By its first two bytes a file is one of three entries, or else one of two, and then `is_contents` judges whether they say so.
unfoldable pub form_in : List ℕ → Form
form_in file = if (eqb (number_at 2 file 0) (entries_of Three)) Three Two

-- "the first body starts after the last entry"
abbrev pub start_in : List ℕ → ℕ
start_in file = table_start (form_in file)

-- the count in a table body that starts at an index
abbrev pub count_at : List ℕ → ℕ → ℕ
count_at file at = number_at 4 file (at + 12)

-- the length of a table body: W, H, k and count, and e and p of each stream
abbrev pub table_length : ℕ → ℕ
table_length count = 16 + 8 * count

-- "kind 2 (trace), right after it"
abbrev pub trace_start : List ℕ → ℕ
trace_start file = start_in file + table_length (count_at file (start_in file))

-- the third body comes right after the trace, and "the file ends with it"
abbrev pub trace_end : List ℕ → ℕ
trace_end file = length file - third_length (form_in file)

-- the number that the third body holds; where there is no byte of it, 0
abbrev pub third_in : List ℕ → ℕ
third_in file = number_at (third_length (form_in file)) file (trace_end file)

-- "0 nearest, 1 sweep; a file with two entries means nearest"
abbrev pub order_in : List ℕ → Order
order_in file = order_of (third_in file)

-- the part of a list from one index up to another
abbrev pub part : ℕ → ℕ → List ℕ → List ℕ
part start end bytes = take (end - start) (drop start bytes)

-- "Trace body: [..] a part of the file that starts in its middle."
abbrev pub trace_in : List ℕ → List ℕ
trace_in file = part (trace_start file) (trace_end file) file

-- a number for each of the eight places of a table, and 0 past the count
unfoldable pub column : (ℕ → ℕ) → ℕ → List ℕ
column f count = list_to (λ i. if (ltb i count) (f i) 0) streams_max

-- the table whose body starts at an index
unfoldable pub table_at : List ℕ → ℕ → Table
table_at file at =
    record {
      worst = number_at 4 file at;
      span = number_at 4 file (at + 4);
      padding = number_at 4 file (at + 8);
      count = count_at file at;
      reserved = column (λ i. number_at 4 file (at + 16 + 8 * i)) (count_at file at);
      period = column (λ i. number_at 4 file (at + 20 + 8 * i)) (count_at file at);
    }

abbrev pub table_in : List ℕ → Table
table_in file = table_at file (start_in file)

-- ---- reading

-- the entry at an index has this kind, offset and length
unfoldable pub is_entry : List ℕ → ℕ → ℕ → ℕ → ℕ → Bool
is_entry file at kind offset len =
    eqb (number_at 4 file at) kind && eqb (number_at 4 file (at + 4)) offset && eqb (number_at 4 file (at + 8)) len

-- the last entry, where there is a third, is that of a body at this offset: "the entry in another place than last, is 16"
abbrev pub is_third_entry : Form → List ℕ → ℕ → Bool
is_third_entry Two file offset = true
is_third_entry Three file offset = is_entry file 26 3 offset (third_length Three)

-- the contents table is that of a file of this form whose trace starts and ends there
unfoldable pub is_contents : Form → List ℕ → ℕ → ℕ → Bool
is_contents form file start end =
    eqb (number_at 2 file 0) (entries_of form)
    && is_entry file 2 1 (table_start form) (start - table_start form)
    && is_entry file 14 2 start (end - start)
    && is_third_entry form file end

-- whether it is that of a file of so many streams and events: there is none of more than eight, or of more than 4,000
unfoldable pub has_contents : Form → List ℕ → ℕ → ℕ → Bool
has_contents form file count events =
    let start = table_start form + table_length count in
    leb count streams_max && leb events events_max && is_contents form file start (start + event_size * events)

-- "count (0 to 8)"; and the table body is not cut short, nor the third body
abbrev pub is_outlined : List ℕ → Bool
is_outlined file = leb (count_at file (start_in file)) streams_max && leb (trace_start file + third_length (form_in file)) (length file)

-- where the parts of any bytes are, before anything in them is judged but the count
unfoldable pub outline_of : List ℕ → Result Outline Refusal
outline_of file =
    if (is_outlined file)
    (Ok (record { form = form_in file; count = count_at file (start_in file); start = trace_start file; end = trace_end file }))
    (Err NotLaidOut)

-- of the order "another value [..] is 16"; and "Reading does not judge the table"
unfoldable pub is_laid_out : List ℕ → Bool
is_laid_out file =
    is_outlined file
    && is_contents (form_in file) file (trace_start file) (trace_end file)
    && is_order (third_in file)
    && is_trace (trace_in file)

-- what reading says of a file that is
abbrev pub laid_out : Form → Order → ℕ → ℕ → ℕ → ℕ → Layout
laid_out form order count start end events =
    record { form = form; order = order; count = count; start = start; end = end; events = events }

-- "Anything else is 16."
unfoldable pub read_of : List ℕ → Result Layout Refusal
read_of file =
    if (is_laid_out file)
    (Ok (laid_out (form_in file) (order_in file) (count_at file (start_in file)) (trace_start file) (trace_end file) (events_in (trace_in file))))
    (Err NotLaidOut)
