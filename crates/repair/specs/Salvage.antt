-- Salvage of a broken session file: the page to hold beside Req 11 of document 02.
use Rattle.std.specs.Prelude.{Bool, true, false, not, ◌&&◌, ◌||◌, List, [], ◌∷◌, ◌++◌, map, ℕ, ◌+◌, ◌*◌, ◌%◌, ltb, eqb, length, take, drop, get_or}
use Rattle.table.specs.Fold.{if, join_to, count_to}
use Rattle.table.specs.Refusal.{given, ◌or_next◌}
use Rattle.order.specs.declared.Order.TheVariants.{Nearest}
use Rattle.file.specs.File.{events_max, event_size, file_of}
use Rattle.file.specs.Reading.{events_in, event_at, formed, form_in, start_in, count_at, trace_start, trace_in, table_in, has_contents, is_outlined}
use Rattle.file.specs.declared.form.Form.{Form}
use Rattle.file.specs.declared.form.Form.TheVariants.{Two, Three}
use Rattle.repair.specs.declared.change.Change.{Change}
use Rattle.repair.specs.declared.Salvaged.{Salvaged}

-- ---- what is taken of an old file

-- a file is of two entries unless it says 3
abbrev pub is_two : Form → Bool
is_two Two = true
is_two Three = false

-- "If the count is above 8, the table is cut short or the first two bytes say 3 it refuses." Else "The tool takes the table body from the place just after two entries, uses its own count, and takes whole events from there to the end": as reading does, whose table body and trace these are.
unfoldable pub is_salvageable : List ℕ → Bool
is_salvageable old = is_two (form_in old) && is_outlined old

-- how many streams it has, by its table body
abbrev pub count_in : List ℕ → ℕ
count_in old = count_at old (start_in old)

-- ---- which events are kept

-- how many of the first n events of a trace are sound: those that do not "break the layout", as reading judges them
abbrev pub sound_to : List ℕ → ℕ → ℕ
sound_to trace n = count_to (λ i. formed (event_at trace i)) n

-- "of the sound ones the first 4,000 are kept", or as many as there is room for: the event at i of a trace is one of them
unfoldable pub is_kept : ℕ → List ℕ → ℕ → Bool
is_kept room trace i = formed (event_at trace i) && ltb (sound_to trace i) room

-- the bytes of the event at i
abbrev pub event_bytes : List ℕ → ℕ → List ℕ
event_bytes trace i = take event_size (drop (event_size * i) trace)

-- "takes whole events from there to the end": what is kept of the first n of them, and of all
abbrev pub kept_to : ℕ → List ℕ → ℕ → List ℕ
kept_to room trace n = join_to (λ i. if (is_kept room trace i) (event_bytes trace i) []) n

abbrev pub kept_of : ℕ → List ℕ → List ℕ
kept_of room trace = kept_to room trace (events_in trace)

-- and how many they are
abbrev pub kept_count : ℕ → List ℕ → ℕ
kept_count room trace = count_to (is_kept room trace) (events_in trace)

-- "It writes a sound file": of two entries, with the table as it stands there
unfoldable pub salvaged_file : List ℕ → List ℕ
salvaged_file old = file_of Two Nearest (table_in old) (kept_of events_max (trace_in old))

-- ---- the list of changes

-- "lists each change: the byte position in the old file and whether the contents were rewritten [..], an event dropped or a tail cut, by position"
abbrev pub contents_change : Change
contents_change = record { kind = 1; position = 0 }

abbrev pub dropped_at : ℕ → Change
dropped_at position = record { kind = 2; position = position }

abbrev pub cut_at : ℕ → Change
cut_at position = record { kind = 3; position = position }

-- "(once, at 0, if any of the 26 bytes changes)": they stay where they are the contents table of the file that is written
unfoldable pub contents_stay : List ℕ → Bool
contents_stay old = has_contents Two old (count_in old) (kept_count events_max (trace_in old))

-- "Events that break the layout are dropped", and those for which there is no room: of the first n events of a trace that starts at a position
abbrev pub drops_to : ℕ → ℕ → List ℕ → ℕ → List Change
drops_to room at trace n = join_to (λ i. if (is_kept room trace i) [] (dropped_at (at + event_size * i) ∷ [])) n

-- "and so is a torn rest": what is left behind the last whole event
abbrev pub cuts_of : ℕ → List ℕ → List Change
cuts_of at trace = if (eqb (length trace % event_size) 0) [] (cut_at (at + event_size * events_in trace) ∷ [])

-- what is changed of a trace that starts at a position
unfoldable pub trace_changes : ℕ → ℕ → List ℕ → List Change
trace_changes room at trace = drops_to room at trace (events_in trace) ++ cuts_of at trace

-- the whole list, in order of position: of contents that stay or do not, and of the trace behind them
abbrev pub list_from : Bool → ℕ → List ℕ → List Change
list_from stay at trace = (if stay [] (contents_change ∷ [])) ++ trace_changes events_max at trace

unfoldable pub changes_of : List ℕ → List Change
changes_of old = list_from (contents_stay old) (trace_start old) (trace_in old)

-- ---- salvaging

-- "Refusals: 16 as said; 17 where the file or the list does not fit": into a buffer of so many bytes, and a list with room for so many changes
unfoldable pub salvage_refusal : List ℕ → ℕ → ℕ → ℕ
salvage_refusal old bytes places =
    given (not (is_salvageable old)) 16
    or_next given (ltb bytes (length (salvaged_file old)) || ltb places (length (changes_of old))) 17

-- a change as two numbers: its kind, and its position
abbrev pub pair_of : Change → List ℕ
pair_of change = change.kind ∷ change.position ∷ []

abbrev pub change_of : List ℕ → Change
change_of pair = record { kind = get_or pair 0 0; position = get_or pair 1 0 }

-- changes, as pairs, at the start of a list; what stood behind them stays
abbrev pub put_on : List Change → List (List ℕ) → List (List ℕ)
put_on changes list = map pair_of changes ++ drop (length changes) list

-- how long the file is and how many changes are listed, and 0; or the refusal, and zeros
unfoldable pub salvage_of : List ℕ → List ℕ → List (List ℕ) → Salvaged
salvage_of old out changes =
    let refusal = salvage_refusal old (length out) (length changes) in
    if (eqb refusal 0)
    (record { number = 0; length = length (salvaged_file old); changes = length (changes_of old) })
    (record { number = refusal; length = 0; changes = 0 })

-- the file stands at the start of its buffer and the list at the start of its own; "A refused call returns its number and changes no byte"
unfoldable pub salvaged_on : List ℕ → List ℕ → List (List ℕ) → List ℕ
salvaged_on old out changes =
    let file = salvaged_file old in
    if (eqb (salvage_refusal old (length out) (length changes)) 0) (file ++ drop (length file) out) out

unfoldable pub listed_on : List ℕ → List ℕ → List (List ℕ) → List (List ℕ)
listed_on old out changes =
    if (eqb (salvage_refusal old (length out) (length changes)) 0) (put_on (changes_of old) changes) changes
