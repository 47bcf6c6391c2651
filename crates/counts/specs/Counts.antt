-- The counts of a session file, and of a list of them: a tally for each of the eight stream numbers. The quotes are document 02's Req 01.
use Rattle.std.specs.Prelude.{Option, None, Some, Result, Ok, Err, Bool, true, false, ◌&&◌, ◌||◌, List, [], ◌∷◌, ◌++◌, ℕ, zero, suc, ◌^◌, ltb, get_or}
use Rattle.table.specs.Fold.{if, all_to, list_to}
use Rattle.table.specs.Ranges.{streams_max}
use Rattle.table.specs.declared.margin.Margin.{Margin}
use Rattle.table.specs.declared.refusal.Refusal.{Refusal as Unadmitted}
use Rattle.table.specs.declared.Table.{Table}
use Rattle.calls.specs.declared.Call.{Call}
use Rattle.order.specs.declared.Order.{Order}
use Rattle.session.specs.Opening.{opening_of}
use Rattle.session.specs.History.{Moment, history_of}
use Rattle.file.specs.Reading.{event_at, events_in, table_in, order_in, trace_in, is_laid_out}
use Rattle.file.specs.declared.event.Event.{Event}
use Rattle.file.specs.declared.refusal.Refusal.TheVariants.{Layout as NotLaidOut}
use Rattle.trace.specs.Refusal.{refusal_number, refusal_over}
use Rattle.trace.specs.declared.refusal.Refusal.{Refusal}
use Rattle.counts.specs.Tally.{nothing, together, tally_of}
use Rattle.counts.specs.declared.Tally.{Tally}
use Rattle.counts.specs.declared.Counts.{Counts}
use Rattle.counts.specs.declared.Filed.{Filed}

-- the tally of a stream, counted from 0
abbrev pub row_at : List Tally → ℕ → Tally
row_at rows i = get_or rows i nothing

-- a machine's number has 64 bits: where a sum passes them that is known, and no number stands. The largest is no sum, and so cannot pass.
abbrev pub small : ℕ → Bool
small n = ltb n (2 ^ 64)

unfoldable pub fits : Tally → Bool
fits a = small a.jobs && small a.late && small a.expired && small a.time

-- two tallies, or none where a sum passes
unfoldable pub sum_of : Tally → Tally → Option Tally
sum_of a b = if (fits (together a b)) (Some (together a b)) None

abbrev pub known : List Tally → Counts
known rows = record { rows = Some rows }

abbrev pub passed : Counts
passed = record { rows = None }

-- whether a sum has passed, and the rows where none has
abbrev pub has_passed : Option (List Tally) → Bool
has_passed (Some rows) = false
has_passed None = true

abbrev pub rows_in : Option (List Tally) → List Tally
rows_in (Some rows) = rows
rows_in None = []

unfoldable pub counts : (ℕ → Tally) → Counts
counts f = if (all_to (λ i. fits (f i)) streams_max) (known (list_to f streams_max)) passed

-- no files, or no calls
abbrev pub none : Counts
none = known (list_to (λ i. nothing) streams_max)

-- two of them by "the same rule", stream number by stream number
abbrev pub both_rows : Counts → Counts → ℕ → Tally
both_rows a b i = together (row_at (rows_in a.rows) i) (row_at (rows_in b.rows) i)

unfoldable pub both : Counts → Counts → Counts
both a b = if (has_passed a.rows || has_passed b.rows) passed (counts (both_rows a b))

-- the call of an event; an event that is not as laid out is none, and no file that was read has one
abbrev pub calls_of : Event → List Call
calls_of (Event.Arrival stream place tag) = Call.Arrival stream place tag ∷ []
calls_of Event.Turn = Call.Turn ∷ []
calls_of (Event.OwnTurn stream index) = Call.OwnTurn stream index ∷ []
calls_of (Event.Done duration) = Call.Done duration ∷ []
calls_of (Event.Clock time) = Call.Clock time ∷ []
calls_of Event.Malformed = []

-- those of the first n events of a trace
unfoldable pub calls_to : List ℕ → ℕ → List Call
calls_to trace zero = []
calls_to trace (suc n) = calls_to trace n ++ calls_of (event_at trace n)

-- the counts of a history
abbrev pub counts_of : List Moment → Counts
counts_of past = counts (λ i. tally_of i past)

-- an answer of a table that is admitted, or what refuses it
abbrev pub admitted_by : {A : Type 0} → Result Margin Unadmitted → A → Result A Refusal
admitted_by (Ok m) x = Ok x
admitted_by (Err r) x = Err (Refusal.Table r)

unfoldable pub opened_file : Table → Order → List ℕ → Result Filed Refusal
opened_file t order trace =
    let opened = opening_of t order in
    admitted_by opened.admission
    (record { count = t.count; counts = counts_of (history_of opened.session (calls_to trace (events_in trace))) })

unfoldable pub filed_of : List ℕ → Result Filed Refusal
filed_of file = if (is_laid_out file) (opened_file (table_in file) (order_in file) (trace_in file)) (Err (Refusal.File NotLaidOut))

-- "A refused file gets its number and adds nothing." Where its load is over the span, the amount over stands beside the number. No file that is counted has a number, which is then 0.
abbrev pub number_in : Result Filed Refusal → ℕ
number_in (Ok filed) = 0
number_in (Err r) = refusal_number r

abbrev pub over_in : Result Filed Refusal → ℕ
over_in (Ok filed) = 0
over_in (Err r) = refusal_over r

abbrev pub counts_in : Result Filed Refusal → Counts
counts_in (Ok filed) = filed.counts
counts_in (Err r) = none

-- "Then the same per stream number over all files"
unfoldable pub totals_of : List (List ℕ) → Counts
totals_of [] = none
totals_of (file ∷ rest) = both (counts_in (filed_of file)) (totals_of rest)
