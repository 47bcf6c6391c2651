-- How a listing is followed, line by line, and what is said of it. The quotes are document 02, Req 09.
use Rattle.std.specs.Prelude.{Option, None, Some, Result, Ok, Err, Bool, true, false, not, ◌&&◌, List, [], ◌∷◌, map, ℕ, ◌+◌, ◌-◌, length, leb, eqb}
use Rattle.table.specs.Fold.{if}
use Rattle.table.specs.declared.margin.Margin.{Margin}
use Rattle.table.specs.declared.refusal.Refusal.{Refusal as Unadmitted}
use Rattle.table.specs.declared.Table.{Table}
use Rattle.order.specs.declared.Order.{Order}
use Rattle.session.specs.Opening.{zero_session, opening_of}
use Rattle.session.specs.declared.Session.{Session}
use Rattle.file.specs.Reading.{event_at, events_in, table_in, order_in, trace_in, is_laid_out}
use Rattle.file.specs.declared.event.Event.{Event}
use Rattle.file.specs.declared.refusal.Refusal.TheVariants.{Layout as NotLaidOut}
use Rattle.trace.specs.Refusal.{refusal_number, refusal_over}
use Rattle.trace.specs.declared.refusal.Refusal.{Refusal}
use Rattle.listing.specs.Line.{rendered, header_fields, refused_fields, accepted_fields, place_fields}
use Rattle.trace.specs.Trace.{applied, fields_of}
use Rattle.logs.specs.Choices.{may_be}
use Rattle.logs.specs.Lines.{lines_of, left_of, same_bytes}
use Rattle.logs.specs.declared.Follower.{Follower}
use Rattle.logs.specs.declared.Fed.{Fed}
use Rattle.logs.specs.declared.Awaited.{Awaited}
use Rattle.logs.specs.declared.Awaited.TheVariants.{First, Event as EventAt}

-- ---- how far a listing was followed

-- a follower that has seen no line yet, of a file that is refused, and of a table that is opened
abbrev pub starting : Session → Option Refusal → Follower
starting s refusal = record { session = s; refusal = refusal; due = 1; failed = false }

abbrev pub refused_at : Refusal → Follower
refused_at refusal = starting zero_session (Some refusal)

-- what refuses a table, of what opening answers
abbrev pub unadmitted : Result Margin Unadmitted → Option Refusal
unadmitted (Ok m) = None
unadmitted (Err r) = Some (Refusal.Table r)

unfoldable pub opened_at : Table → Order → Follower
opened_at t order =
    let opened = opening_of t order in
    starting opened.session (unadmitted opened.admission)

-- its number, or 0, and the amount over the span
abbrev pub number_of : Option Refusal → ℕ
number_of None = 0
number_of (Some r) = refusal_number r

abbrev pub over_of : Option Refusal → ℕ
over_of None = 0
over_of (Some r) = refusal_over r

unfoldable pub begun : List ℕ → Follower
begun file = if (is_laid_out file) (opened_at (table_in file) (order_in file)) (refused_at (Refusal.File NotLaidOut))

-- the events of a file that is read
unfoldable pub trace_of : List ℕ → List ℕ
trace_of file = if (is_laid_out file) (trace_in file) []

-- the line that is due, where "the header is line 1" and that of the first event line 2: the first, which is the header or the refusal; that of an event, counted from 0; or none
unfoldable pub awaited : Follower → List ℕ → Option Awaited
awaited f trace =
    if (leb f.due 1) (Some First)
    (if (eqb (number_of f.refusal) 0 && leb (f.due - 1) (events_in trace)) (Some (EventAt (f.due - 2))) None)

-- ---- what may stand there

-- a line that may stand next, and the session after it
pub record Next : Type 0 where
  pub fields : List (List ℕ)
  pub session : Session

unfoldable pub first_fields : Follower → List (List ℕ)
first_fields f = if (eqb (number_of f.refusal) 0) header_fields (refused_fields (number_of f.refusal) (over_of f.refusal))

abbrev pub next_by : Session → ℕ → Event → Next
next_by s n event = let o = applied s n event in record { fields = fields_of o.line; session = o.session }

abbrev pub nexts_at : Follower → List ℕ → Option Awaited → List Next
nexts_at f trace (Some First) = record { fields = first_fields f; session = f.session } ∷ []
nexts_at f trace (Some (EventAt i)) = map (next_by f.session (i + 1)) (may_be f.session (event_at trace i))
nexts_at f trace None = []

abbrev pub nexts : Follower → List ℕ → List Next
nexts f trace = nexts_at f trace (awaited f trace)

-- their lines
abbrev pub lines_of_nexts : List Next → List (List ℕ)
lines_of_nexts xs = map (λ (x : Next). rendered x.fields) xs

-- ---- following

-- the first of them that is this line: the session after it
unfoldable pub first_that_is : List ℕ → List Next → Option Session
first_that_is line [] = None
first_that_is line (x ∷ rest) = if (same_bytes line (rendered x.fields)) (Some x.session) (first_that_is line rest)

-- one line more: it follows, or it does not, and then nothing more is looked at
abbrev pub follower : Follower → Session → ℕ → Bool → Follower
follower f s due failed = record { session = s; refusal = f.refusal; due = due; failed = failed }

abbrev pub followed : Follower → Option Session → Follower
followed f (Some s) = follower f s (f.due + 1) false
followed f None = follower f f.session f.due true

unfoldable pub with_line : Follower → List ℕ → List ℕ → Follower
with_line f trace line = if f.failed f (followed f (first_that_is line (nexts f trace)))

unfoldable pub with_lines : Follower → List ℕ → List (List ℕ) → Follower
with_lines f trace [] = f
with_lines f trace (line ∷ rest) = with_lines (with_line f trace line) trace rest

-- a piece of a listing: the lines that end in it, and how many bytes are left behind them
unfoldable pub fed_by : Follower → List ℕ → List ℕ → Fed
fed_by f trace piece = record { follower = with_lines f trace (lines_of piece); left = length (left_of piece) }

-- ---- what is said of a listing

-- it is accepted; or a line does not follow, and these could have stood there
pub data Checked : Type 0 where
  accepted : Checked
  rejected : ℕ → List (List ℕ) → Checked

-- nothing more is due
abbrev pub is_nothing : Option Awaited → Bool
is_nothing (Some First) = false
is_nothing (Some (EventAt i)) = false
is_nothing None = true

-- "A missing, a surplus or an unended line does not follow": a listing is whole where every line followed, nothing is left behind the last and no line is due
unfoldable pub is_whole : Follower → List ℕ → List ℕ → Bool
is_whole f trace left = not f.failed && eqb (length left) 0 && is_nothing (awaited f trace)

-- "the number of the first line that does not follow (the header is line 1)", and "each line that could have stood there"; "below a surplus one nothing"
unfoldable pub checked_by : Follower → List ℕ → List ℕ → Checked
checked_by f trace left =
    if (is_whole f trace left) accepted
    (rejected f.due (lines_of_nexts (nexts f trace)))

-- what is said of a whole listing
unfoldable pub checked_of : List ℕ → List ℕ → Checked
checked_of file listing =
    let trace = trace_of file in
    checked_by (with_lines (begun file) trace (lines_of listing)) trace (left_of listing)

-- "It prints `accepted`, or the number of the first line that does not follow (the header is line 1) and below it each line that could have stood there"
unfoldable pub report_of : Checked → List (List ℕ)
report_of accepted = rendered accepted_fields ∷ []
report_of (rejected number lines) = rendered (place_fields number) ∷ lines
