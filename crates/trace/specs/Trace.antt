-- A trace run through a session, event by event, and the whole of what the program prints.
use Rattle.std.specs.Prelude.{Option, None, Some, List, [], ◌++◌, ℕ, zero, suc, ◌+◌, eqb}
use Rattle.table.specs.Fold.{if}
use Rattle.table.specs.Admission.{admission_of}
use Rattle.table.specs.Margin.{over_in}
use Rattle.table.specs.declared.Table.{Table}
use Rattle.order.specs.declared.Order.{Order}
use Rattle.session.specs.Calls.{answer_to, Line, line_of}
use Rattle.session.specs.Opening.{opening_of}
use Rattle.session.specs.declared.Session.{Session}
use Rattle.calls.specs.declared.Call.{Call}
use Rattle.file.specs.Reading.{event_at, events_in, table_in, order_in, trace_in, is_laid_out}
use Rattle.file.specs.declared.event.Event.{Event}
use Rattle.listing.specs.Line.{rendered, header_fields, event_fields, refused_fields, text_of}
use Rattle.trace.specs.declared.Stepped.{Stepped}

-- what an event comes to: the session afterwards, and the numbers of its line
pub record Outcome : Type 0 where
  pub session : Session
  pub line : Line

-- "Kinds: 1 arrival, 2 turn, 3 own turn, 4 done, 5 clock." An event that is not as laid out is no call; no file that was read has one.
abbrev pub call_of : Event → Option Call
call_of (Event.Arrival stream place tag) = Some (Call.Arrival stream place tag)
call_of Event.Turn = Some Call.Turn
call_of (Event.OwnTurn stream index) = Some (Call.OwnTurn stream index)
call_of (Event.Done duration) = Some (Call.Done duration)
call_of (Event.Clock time) = Some (Call.Clock time)
call_of Event.Malformed = None

-- an event that is a call, with its number
unfoldable pub called : Session → ℕ → Call → Outcome
called s n k =
    let a = answer_to s k in
    record { session = a.session; line = line_of n k a }

-- the call that an event asks for. Where there is none, since the event is not as laid out, it gives 16 and changes nothing.
abbrev pub asked : Session → ℕ → Option Call → Outcome
asked s n (Some k) = called s n k
asked s n None =
    record { session = s; line = record { event = n; answer = 16; stream = 0; value = 0; clock = s.clock.0; tag = 0 } }

unfoldable pub applied : Session → ℕ → Event → Outcome
applied s n event = asked s n (call_of event)

-- "its number from 1, the reply, the stream [...], the value [...], the clock afterwards", and by document 02, Req 07, "a last field, the tag of the request sent or done, else 0"
abbrev pub fields_of : Line → List (List ℕ)
fields_of l = event_fields l.event l.answer l.stream l.value l.clock l.tag

-- an outcome as the code hands it over
unfoldable pub handed : Outcome → Stepped
handed o = record { session = o.session; text = text_of (fields_of o.line) }

-- "a line per event": what is printed of the events from i on, so many of them
unfoldable pub printed_from : Session → List ℕ → ℕ → ℕ → List ℕ
printed_from s trace i zero = []
printed_from s trace i (suc left) =
    let o = applied s (i + 1) (event_at trace i) in
    rendered (fields_of o.line) ++ printed_from o.session trace (i + 1) left

-- "If reading or opening refuses it prints `refused N`, nothing more. Else a header, then a line per event", and of a load over the span "`refused 7 N` with N the amount over the span"
unfoldable pub run_of : Table → Order → List ℕ → List ℕ
run_of t order trace =
    let opened = opening_of t order in
    if (eqb (admission_of t) 0)
    (rendered header_fields ++ printed_from opened.session trace 0 (events_in trace))
    (rendered (refused_fields (admission_of t) (over_in opened.admission)))

unfoldable pub listing_of : List ℕ → List ℕ
listing_of file = if (is_laid_out file) (run_of (table_in file) (order_in file) (trace_in file)) (rendered (refused_fields 16 0))
