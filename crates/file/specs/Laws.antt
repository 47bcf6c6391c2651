-- What is proved of the session file.
use Rattle.std.specs.Prelude.{true, ◌⊎◌, ◌≡◌, List, [], ◌∷◌, ◌++◌, ℕ, ◌+◌, ◌*◌, ◌%◌, ◌^◌, ◌≤◌, ◌<◌, length, take, drop}
use Rattle.std.specs.declared.result.Result.TheVariants.{Ok, Err}
use Rattle.table.specs.Fold.{list_to}
use Rattle.table.specs.Ranges.{streams_max}
use Rattle.table.specs.Admission.{reserved_at, period_at}
use Rattle.table.specs.declared.Table.{Table}
use Rattle.cells.specs.Cells.{cell, number_at, Bytes}
use Rattle.order.specs.Order.{is_order}
use Rattle.order.specs.declared.Order.{Order}
use Rattle.order.specs.declared.Order.TheVariants.{Nearest, Sweep}
use Rattle.file.specs.File.{table_start, third_length, is_third_length, form_of_third, entry, table_body, event_size, events_max, bytes_of, trace_of, file_of}
use Rattle.file.specs.Reading.{event_of, event_from, events_in, event_at, formed, is_trace, form_in, table_length, part, order_in, table_in, trace_in, column, is_laid_out, laid_out, read_of}
use Rattle.file.specs.Writing.{is_writable, write_refusal, write_of, written_on, put_refusal, with_event}
use Rattle.file.specs.Listing.{listing_table, listing_events, listing_file, sweep_events, sweep_file}
use Rattle.file.specs.declared.Layout.{Layout}
use Rattle.file.specs.declared.refusal.Refusal.{Refusal}
use Rattle.file.specs.declared.refusal.Refusal.TheVariants.{Layout as NotLaidOut}
use Rattle.file.specs.declared.form.Form.{Form}
use Rattle.file.specs.declared.form.Form.TheVariants.{Two, Three}
use Rattle.file.specs.declared.event.Event.{Event}
use Rattle.file.specs.declared.event.Event.TheVariants.{Arrival, Turn, OwnTurn, Done, Clock, Malformed}

-- a table's numbers, "all unsigned and of 32 bits", as every table of the code has them
pub record Words (t : Table) : Type 0 where
  pub worst_fits : t.worst < 2 ^ 32
  pub span_fits : t.span < 2 ^ 32
  pub padding_fits : t.padding < 2 ^ 32
  pub reserved_fits : (i : ℕ) → reserved_at t i < 2 ^ 32
  pub period_fits : (i : ℕ) → period_at t i < 2 ^ 32

-- a table with 0 in the places past its count, where a file has nothing
unfoldable pub trimmed : Table → Table
trimmed t =
    record {
      worst = t.worst;
      span = t.span;
      padding = t.padding;
      count = t.count;
      reserved = column (reserved_at t) t.count;
      period = column (period_at t) t.count;
    }

-- "A written session file reads back to the same table and trace", and to the same form and order: whatever stood in the buffer, and whatever stands after the file
abbrev pub WrittenReadsBack : Type 0
WrittenReadsBack =
    (form : Form) (order : Order) (t : Table) (trace out : List ℕ) (n : ℕ) → Words t → write_of form order t trace out ≡ Ok n
    → let file = take n (written_on form order t trace out) in
    let start = table_start form + table_length t.count in
    let end = start + length trace in
    (read_of file ≡ Ok (laid_out form order t.count start end (events_in trace))) × (table_in file ≡ trimmed t) × (part start end file ≡ trace)

-- A table that was read has numbers of 32 bits and nothing past its count. So it is read back as it is.
abbrev pub TableReadIsTrimmed : Type 0
TableReadIsTrimmed = (file : List ℕ) → Bytes file → Words (table_in file) × (trimmed (table_in file) ≡ table_in file)

-- "an accepted file is written again byte for byte"; document 02, Req 08: "a file is written back with as many entries as it had"
abbrev pub AcceptedWritesBack : Type 0
AcceptedWritesBack =
    (file out : List ℕ) (layout : Layout)
    → Bytes file → read_of file ≡ Ok layout → length file ≤ length out
    → let trace = part layout.start layout.end file in
    (write_of layout.form layout.order (table_in file) trace out ≡ Ok (length file))
    × (written_on layout.form layout.order (table_in file) trace out ≡ file ++ drop (length file) out)

-- "A refused call returns its number and changes no byte of session or buffer."
abbrev pub RefusedChangesNothing : Type 0
RefusedChangesNothing =
    (form : Form) (order : Order) (t : Table) (trace out : List ℕ) (refusal : Refusal)
    → write_of form order t trace out ≡ Err refusal → written_on form order t trace out ≡ out

-- the file that is written is within the buffer
abbrev pub WrittenIsWithin : Type 0
WrittenIsWithin =
    (form : Form) (order : Order) (t : Table) (trace out : List ℕ) (n : ℕ) → write_of form order t trace out ≡ Ok n → n ≤ length out

-- "Writing leaves bytes after the file unchanged"
abbrev pub RestIsUnchanged : Type 0
RestIsUnchanged =
    (form : Form) (order : Order) (t : Table) (trace out : List ℕ) (n : ℕ)
    → write_of form order t trace out ≡ Ok n → drop n (written_on form order t trace out) ≡ drop n out

-- "Anything else is 16": the files that are accepted are those of some form, order, table and trace that can be written, and no others.
abbrev pub AcceptedAreTheWritten : Type 0
AcceptedAreTheWritten =
    ((form : Form) (order : Order) (t : Table) (trace : List ℕ)
    → Words t → is_writable form order t trace ≡ true → is_laid_out (file_of form order t trace) ≡ true)
    × ((file : List ℕ) → Bytes file → is_laid_out file ≡ true
    → (is_writable (form_in file) (order_in file) (table_in file) (trace_in file) ≡ true)
    × (file ≡ file_of (form_in file) (order_in file) (table_in file) (trace_in file)))

-- The trace of an accepted file is a part of it, and no event of it is malformed. The third body comes after it and ends the file.
pub record Within (file : List ℕ) (layout : Layout) : Type 0 where
  pub count_high : layout.count ≤ streams_max
  pub events_high : layout.events ≤ events_max
  pub in_middle : layout.start ≡ table_start layout.form + table_length layout.count
  pub whole_events : layout.end ≡ layout.start + event_size * layout.events
  pub in_file : layout.end ≤ length file
  pub third_last : layout.end + third_length layout.form ≡ length file
  pub all_formed : (i : ℕ) → i < layout.events → formed (event_at (part layout.start layout.end file) i) ≡ true

abbrev pub AcceptedIsWithin : Type 0
AcceptedIsWithin = (file : List ℕ) (layout : Layout) → read_of file ≡ Ok layout → Within file layout

-- the longest file that is accepted has 64,122 bytes
abbrev pub LongestFile : Type 0
LongestFile = (file : List ℕ) (layout : Layout) → read_of file ≡ Ok layout → length file ≤ 64_122

-- ---- the forms

-- Forms and the lengths of their third bodies determine each other.
abbrev pub ThirdsAreForms : Type 0
ThirdsAreForms =
    ((form : Form) → (is_third_length (third_length form) ≡ true) × (form_of_third (third_length form) ≡ form))
    × ((n : ℕ) → is_third_length n ≡ true → third_length (form_of_third n) ≡ n)

-- the file of before there was an order
abbrev pub old_file : Table → List ℕ → List ℕ
old_file t trace =
    let size = length (table_body t) in
    cell 2 2 ++ entry 1 26 size ++ entry 2 (26 + size) (length trace) ++ table_body t ++ trace

-- Document 02, Req 08: "a file with two entries means nearest", and it is what it was.
abbrev pub TwoMeansNearest : Type 0
TwoMeansNearest =
    ((file : List ℕ) (layout : Layout) → read_of file ≡ Ok layout → layout.form ≡ Two → layout.order ≡ Nearest)
    × ((order : Order) (t : Table) (trace : List ℕ) → file_of Two order t trace ≡ old_file t trace)

-- So a sweep cannot be written in two entries.
abbrev pub SweepNeedsThree : Type 0
SweepNeedsThree =
    (t : Table) (trace out : List ℕ)
    → (write_refusal Two Sweep t trace (length out) ≡ 16) × (write_of Two Sweep t trace out ≡ Err NotLaidOut) × (written_on Two Sweep t trace out ≡ out)

-- what the contents table and the third body of a file of three entries say
pub record ThreeEntries (file : List ℕ) : Type 0 where
  pub entries_are : number_at 2 file 0 ≡ 3
  pub first_kind : number_at 4 file 2 ≡ 1
  pub second_kind : number_at 4 file 14 ≡ 2
  pub last_kind : number_at 4 file 26 ≡ 3
  pub last_length : number_at 4 file 34 ≡ 4
  pub at_the_end : number_at 4 file 30 + 4 ≡ length file
  pub an_order : is_order (number_at 4 file (number_at 4 file 30)) ≡ true

-- "Refusals: another value, or the entry in another place than last, is 16": any bytes that are accepted have two entries, or three as above
abbrev pub AcceptedHasItsEntries : Type 0
AcceptedHasItsEntries = (file : List ℕ) → is_laid_out file ≡ true → (number_at 2 file 0 ≡ 2) ⊎ ThreeEntries file

-- and any others are refused.
abbrev pub OthersAreRefused : Type 0
OthersAreRefused = (file : List ℕ) → (number_at 2 file 0 ≡ 2 → ⊥) → (ThreeEntries file → ⊥) → read_of file ≡ Err NotLaidOut

-- ---- events

-- an event whose numbers have room in its cells
abbrev pub Coded : Event → Type 0
Coded (Arrival stream place tag) = (stream < 256) × (place < 2 ^ 64) × (tag < 2 ^ 32)
Coded Turn = Unit
Coded (OwnTurn stream index) = (stream < 256) × (index < 2 ^ 64)
Coded (Done duration) = duration < 2 ^ 64
Coded (Clock time) = time < 2 ^ 64
Coded Malformed = ⊥

-- an event's bytes, at its place in a trace, are read as that event
abbrev pub EventReadsBack : Type 0
EventReadsBack =
    (e : Event) (before after : List ℕ) (i : ℕ) → Coded e → length before ≡ event_size * i
    → event_at (before ++ (bytes_of e ++ after)) i ≡ e

-- and an event that was read has the bytes that it was read from
abbrev pub EventWritesBack : Type 0
EventWritesBack =
    (trace : List ℕ) (i : ℕ) → Bytes trace → formed (event_at trace i) ≡ true
    → Coded (event_at trace i) × (bytes_of (event_at trace i) ≡ take event_size (drop (event_size * i) trace))

-- the event of 16 bytes as it was read before there were tags, where its six bytes are 0: kind, stream and value alone
abbrev pub read_before : List ℕ → ℕ → Event
read_before trace at = event_of (number_at 1 trace at) (number_at 1 trace (at + 1)) 0 (number_at 8 trace (at + 8))

-- Document 02, Req 07: "so old files read with tag 0". Where the six bytes are 0, the event is what it was
abbrev pub SixZerosReadAsBefore : Type 0
SixZerosReadAsBefore = (trace : List ℕ) (at : ℕ) → number_at 6 trace (at + 2) ≡ 0 → event_from trace at ≡ read_before trace at

-- And "other events keep zeros": where the six bytes are not 0, there is an arrival or nothing
abbrev pub OthersKeepZeros : Type 0
OthersKeepZeros =
    (trace : List ℕ) (at : ℕ) → formed (event_from trace at) ≡ true → (number_at 1 trace at ≡ 1 → ⊥) → number_at 6 trace (at + 2) ≡ 0

-- an event that was stored in a trace is read from it, and the trace is as long as before; one that has room in its cells is stored wherever the trace has a place
abbrev pub StoredReadsBack : Type 0
StoredReadsBack =
    (trace : List ℕ) (i : ℕ) (e : Event) → Coded e → i < events_in trace
    → (put_refusal trace i e ≡ 0) × (event_at (with_event trace i e) i ≡ e) × (length (with_event trace i e) ≡ length trace)

abbrev pub AllCoded : List Event → Type 0
AllCoded [] = Unit
AllCoded (e ∷ es) = Coded e × AllCoded es

-- So a trace and its events determine each other: up to 4,000 events make a trace, which is read as these events,
abbrev pub TraceReadsBack : Type 0
TraceReadsBack =
    (es : List Event) → AllCoded es → length es ≤ events_max
    → (is_trace (trace_of es) ≡ true) × (list_to (event_at (trace_of es)) (events_in (trace_of es)) ≡ es)

-- and a trace is the bytes of the events that are read from it.
abbrev pub TraceWritesBack : Type 0
TraceWritesBack =
    (trace : List ℕ) → Bytes trace → is_trace trace ≡ true
    → let es = list_to (event_at trace) (events_in trace) in AllCoded es × (trace_of es ≡ trace)

-- a trace as it was accepted before there were tags
pub record OldTrace (trace : List ℕ) : Type 0 where
  pub whole_events : length trace % event_size ≡ 0
  pub events_high : events_in trace ≤ events_max
  pub six_zeros : (i : ℕ) → i < events_in trace → number_at 6 trace (event_size * i + 2) ≡ 0
  pub of_a_kind : (i : ℕ) → i < events_in trace → formed (read_before trace (event_size * i)) ≡ true

-- It is accepted as before, and its events are what they were.
abbrev pub OldTraceReads : Type 0
OldTraceReads =
    (trace : List ℕ) → OldTrace trace
    → (is_trace trace ≡ true) × ((i : ℕ) → i < events_in trace → event_at trace i ≡ read_before trace (event_size * i))

-- So its file, which has two entries, is accepted as before and read as nearest, and by `AcceptedWritesBack` written again byte for byte.
abbrev pub OldFileReads : Type 0
OldFileReads =
    (t : Table) (trace : List ℕ) → Words t → t.count ≤ streams_max → OldTrace trace
    → let start = 26 + table_length t.count in
    read_of (old_file t trace) ≡ Ok (laid_out Two Nearest t.count start (start + length trace) (events_in trace))

-- ---- worked cases

-- Listing (P) is read as document 01 gives it, and it is the file of its table and its events.
abbrev pub ListingReads : Type 0
ListingReads =
    (read_of listing_file ≡ Ok (laid_out Two Nearest 2 58 234 11))
    × (table_in listing_file ≡ listing_table)
    × (list_to (event_at (trace_in listing_file)) 11 ≡ listing_events)
    × (file_of Two Nearest listing_table (trace_of listing_events) ≡ listing_file)

-- and a file of three entries, of its table, one arrival and the order sweep.
abbrev pub SweepReads : Type 0
SweepReads =
    (read_of sweep_file ≡ Ok (laid_out Three Sweep 2 70 86 1))
    × (table_in sweep_file ≡ listing_table)
    × (list_to (event_at (trace_in sweep_file)) 1 ≡ sweep_events)
    × (file_of Three Sweep listing_table (trace_of sweep_events) ≡ sweep_file)
