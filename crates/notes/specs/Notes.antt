-- Notes, read line by line into a table and a trace: the three table numbers in order, then an order if there is one, then streams, then events.
use Rattle.std.specs.Prelude.{Bool, true, false, ◌&&◌, List, [], ◌∷◌, ℕ, ◌+◌, ◌-◌, ◌*◌, ◌^◌, ltb, eqb, take, replicate, set, Option, None, Some, Result, Ok, Err}
use Rattle.table.specs.Fold.{if}
use Rattle.table.specs.Ranges.{streams_max}
use Rattle.table.specs.Admission.{with_padding}
use Rattle.table.specs.declared.Table.{Table}
use Rattle.order.specs.declared.Order.{Order}
use Rattle.order.specs.declared.Order.TheVariants.{Nearest}
use Rattle.file.specs.File.{third_length, events_max, event_size}
use Rattle.file.specs.Reading.{events_in}
use Rattle.file.specs.Writing.{write_of, written_on, put_refusal, with_event}
use Rattle.file.specs.Refusal.{refusal_of}
use Rattle.file.specs.declared.refusal.Refusal.{Refusal}
use Rattle.file.specs.declared.refusal.Refusal.TheVariants.{Room as NoRoom}
use Rattle.file.specs.declared.form.Form.{Form}
use Rattle.file.specs.declared.form.Form.TheVariants.{Two, Three}
use Rattle.listing.specs.Line.{newline}
use Rattle.notes.specs.declared.Notes.{Notes}
use Rattle.notes.specs.declared.Composed.{Composed}
use Rattle.notes.specs.declared.Composed.TheVariants.{Written, Streamless}
use Rattle.notes.specs.declared.Flaw.{Flaw}
use Rattle.notes.specs.declared.Flaw.TheVariants.{Wrong, Unfinished, Refused}
use Rattle.notes.specs.declared.Expected.{Expected}
use Rattle.notes.specs.declared.Expected.TheVariants.{Worst, Span, Padding, OrderStreamOrEvent, StreamOrEvent, Event, NoMore}
use Rattle.notes.specs.declared.line.Line.{Line}
use Rattle.notes.specs.Draft.{blank, with_byte}
use Rattle.notes.specs.Line.{line_of}
use Rattle.notes.specs.Heard.{unheard, heard_with}
use Rattle.notes.specs.Fault.{fault_by}

-- notes at the start of a line: its number, how many table numbers have been read, the form and the order of their file, the table so far, and how many events, each of which is in the trace, and the line of the first
abbrev pub noted : ℕ → ℕ → Form → Order → Table → ℕ → Option ℕ → Notes
noted line numbers form order table events began =
    record { line = line; numbers = numbers; form = form; order = order; table = table; events = events; began = began; draft = blank; heard = unheard; refused = None; wrong = false }

abbrev pub no_table : Table
no_table = record { worst = 0; span = 0; padding = 0; count = 0; reserved = replicate streams_max 0; period = replicate streams_max 0 }

-- document 02, Req 08: "a file with two entries means nearest"
abbrev pub started : Notes
started = noted 1 0 Two Nearest no_table 0 None

-- the same notes, of which the line that is being read is wrong
abbrev pub stopped : Notes → Notes
stopped n =
    record { line = n.line; numbers = n.numbers; form = n.form; order = n.order; table = n.table; events = n.events; began = n.began; draft = n.draft; heard = n.heard; refused = n.refused; wrong = true }

-- the number of the line after this one; a machine's number stays at its highest
unfoldable pub next_line : ℕ → ℕ
next_line line = if (ltb line (2 ^ 64 - 1)) (line + 1) line

-- the notes after a right line, which has given them this many table numbers, this table and this many events, of which the first stood there
abbrev pub advanced : Notes → ℕ → Table → ℕ → Option ℕ → Notes
advanced n numbers table events began =
    record { line = next_line n.line; numbers = numbers; form = n.form; order = n.order; table = table; events = events; began = began; draft = blank; heard = unheard; refused = n.refused; wrong = false }

-- and after the line of an order, for which their file has a third entry
abbrev pub ordered : Notes → Order → Notes
ordered n o =
    record { line = next_line n.line; numbers = n.numbers; form = Three; order = o; table = n.table; events = n.events; began = n.began; draft = blank; heard = unheard; refused = n.refused; wrong = false }

-- a table with one number set (`with_padding` is of `Admission`), and with a stream more
abbrev pub with_worst : Table → ℕ → Table
with_worst t x =
    record { worst = x; span = t.span; padding = t.padding; count = t.count; reserved = t.reserved; period = t.period }

abbrev pub with_span : Table → ℕ → Table
with_span t x =
    record { worst = t.worst; span = x; padding = t.padding; count = t.count; reserved = t.reserved; period = t.period }

abbrev pub with_stream : Table → ℕ → ℕ → Table
with_stream t e p =
    record {
      worst = t.worst;
      span = t.span;
      padding = t.padding;
      count = t.count + 1;
      reserved = set t.reserved t.count e;
      period = set t.period t.count p;
    }

-- worst, span and padding, in this order and once each; then an order, once or not at all; then up to eight streams, then up to 4,000 events: the notes after a line
unfoldable pub after_number : Notes → ℕ → Table → Notes
after_number n place table = if (eqb n.numbers place) (advanced n (place + 1) table n.events n.began) (stopped n)

unfoldable pub takes_order : Notes → Bool
takes_order n = eqb n.numbers 3 && eqb (third_length n.form) 0 && eqb n.table.count 0 && eqb n.events 0

unfoldable pub after_order : Notes → Order → Notes
after_order n o = if (takes_order n) (ordered n o) (stopped n)

unfoldable pub after_stream : Notes → ℕ → ℕ → Notes
after_stream n e p =
    if (eqb n.numbers 3 && eqb n.events 0 && ltb n.table.count streams_max)
    (advanced n 3 (with_stream n.table e p) 0 n.began)
    (stopped n)

unfoldable pub began_by : Notes → Option ℕ
began_by n = if (eqb n.events 0) (Some n.line) n.began

unfoldable pub after_event : Notes → Notes
after_event n =
    if (eqb n.numbers 3 && ltb n.events events_max) (advanced n 3 n.table (n.events + 1) (began_by n)) (stopped n)

abbrev pub after : Notes → Line → Notes
after n Line.Blank = advanced n n.numbers n.table n.events n.began
after n (Line.Worst x) = after_number n 0 (with_worst n.table x)
after n (Line.Span x) = after_number n 1 (with_span n.table x)
after n (Line.Padding x) = after_number n 2 (with_padding n.table x)
after n (Line.Ordered o) = after_order n o
after n (Line.Stream e p) = after_stream n e p
after n (Line.Call event) = after_event n
after n Line.Wrong = stopped n

-- what is expected where a line is wrong, or where the notes end too early
unfoldable pub expected_by : Notes → Expected
expected_by n =
    if (eqb n.numbers 0) Worst
    (if (eqb n.numbers 1) Span
    (if (eqb n.numbers 2) Padding
    (if (takes_order n) OrderStreamOrEvent
    (if (eqb n.events 0 && ltb n.table.count streams_max) StreamOrEvent
    (if (ltb n.events events_max) Event
    NoMore)))))

-- what has been read, and the trace with the events so far at its start
pub record Read : Type 0 where
  pub notes : Notes
  pub trace : List ℕ

abbrev pub read : Notes → List ℕ → Read
read n trace = record { notes = n; trace = trace }

-- an event goes to the trace, behind those before it
abbrev pub trace_after : List ℕ → ℕ → Line → List ℕ
trace_after trace i Line.Blank = trace
trace_after trace i (Line.Worst x) = trace
trace_after trace i (Line.Span x) = trace
trace_after trace i (Line.Padding x) = trace
trace_after trace i (Line.Ordered o) = trace
trace_after trace i (Line.Stream e p) = trace
trace_after trace i (Line.Call event) = with_event trace i event
trace_after trace i Line.Wrong = trace

-- the number by which it is refused, or 0
abbrev pub line_refusal : List ℕ → ℕ → Line → ℕ
line_refusal trace i Line.Blank = 0
line_refusal trace i (Line.Worst x) = 0
line_refusal trace i (Line.Span x) = 0
line_refusal trace i (Line.Padding x) = 0
line_refusal trace i (Line.Ordered o) = 0
line_refusal trace i (Line.Stream e p) = 0
line_refusal trace i (Line.Call event) = put_refusal trace i event
line_refusal trace i Line.Wrong = 0

-- and the notes that have heard of it, if it is
abbrev pub refused_as : Notes → Refusal → Notes
refused_as n refusal =
    record { line = n.line; numbers = n.numbers; form = n.form; order = n.order; table = n.table; events = n.events; began = n.began; draft = n.draft; heard = n.heard; refused = Some refusal; wrong = n.wrong }

unfoldable pub refused_by : Notes → ℕ → Notes
refused_by n number = if (eqb number 0) n (refused_as n (refusal_of number))

-- a line has ended: a wrong one leaves the trace as it was
unfoldable pub line_ended : Notes → List ℕ → Read
line_ended n trace =
    let line = line_of n.draft in
    let next = after n line in
    if next.wrong (read next trace) (read (refused_by next (line_refusal trace n.events line)) (trace_after trace n.events line))

-- the line that is being read has a byte more
abbrev pub lengthened : Notes → ℕ → Notes
lengthened n byte =
    record {
      line = n.line;
      numbers = n.numbers;
      form = n.form;
      order = n.order;
      table = n.table;
      events = n.events;
      began = n.began;
      draft = with_byte n.draft byte;
      heard = heard_with n.heard n.draft byte;
      refused = n.refused;
      wrong = n.wrong;
    }

-- a byte more, and any number of them. After a wrong line nothing changes.
unfoldable pub byte_read : Read → ℕ → Read
byte_read r byte =
    if r.notes.wrong r
    (if (eqb byte newline) (line_ended r.notes r.trace)
    (read (lengthened r.notes byte) r.trace))

unfoldable pub bytes_read : Read → List ℕ → Read
bytes_read r [] = r
bytes_read r (byte ∷ rest) = bytes_read (byte_read r byte) rest

-- what composing answers, and the buffer afterwards
pub record Filed : Type 0 where
  pub reply : Result Composed Flaw
  pub out : List ℕ

abbrev pub filed : Result Composed Flaw → List ℕ → Filed
filed reply out = record { reply = reply; out = out }

-- a file whose table has no stream is written, and told as such: opening refuses it by 1
unfoldable pub written_by : ℕ → Option ℕ → ℕ → Composed
written_by streams began len = if (eqb streams 0) (Streamless len began) (Written len)

abbrev pub told : ℕ → Option ℕ → Result ℕ Refusal → Result Composed Flaw
told streams began (Ok len) = Ok (written_by streams began len)
told streams began (Err refusal) = Err (Refused refusal)

-- the events at the start of a trace
abbrev pub trace_of_notes : Notes → List ℕ → List ℕ
trace_of_notes n trace = take (event_size * n.events) trace

-- an event that was refused goes before what is written
abbrev pub unless_refused : Option Refusal → List ℕ → Filed → Filed
unless_refused None out written = written
unless_refused (Some refusal) out written = filed (Err (Refused refusal)) out

-- Notes that are right and whole are written as a session file; of others nothing is. Where the trace refused an event, that is told; 17, no room, is for another trace, which is shorter.
unfoldable pub filed_by : Notes → List ℕ → List ℕ → Filed
filed_by n trace out =
    if n.wrong (filed (Err (Wrong n.line (fault_by n) (expected_by n))) out)
    (if (ltb n.numbers 3) (filed (Err (Unfinished (expected_by n))) out)
    (unless_refused n.refused out
    (if (ltb (events_in trace) n.events) (filed (Err (Refused NoRoom)) out)
    (filed (told n.table.count n.began (write_of n.form n.order n.table (trace_of_notes n trace) out))
    (written_on n.form n.order n.table (trace_of_notes n trace) out)))))

-- the end of the notes ends their last line
abbrev pub ended : Notes → List ℕ → Read
ended n trace = byte_read (read n trace) newline
