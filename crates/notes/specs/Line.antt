-- The lines of notes: which there are, what is read as each, and how each is shown.
use Rattle.std.specs.Prelude.{Bool, List, [], ◌∷◌, ◌++◌, ℕ, zero, suc, ◌+◌, ◌-◌, ◌^◌, ltb, eqb}
use Rattle.table.specs.Fold.{if}
use Rattle.table.specs.Ranges.{streams_max}
use Rattle.table.specs.Admission.{reserved_at, period_at}
use Rattle.table.specs.declared.Table.{Table}
use Rattle.file.specs.Reading.{events_in, event_at}
use Rattle.file.specs.declared.form.Form.{Form}
use Rattle.file.specs.declared.form.Form.TheVariants.{Two, Three}
use Rattle.file.specs.declared.event.Event.{Event}
use Rattle.file.specs.declared.event.Event.TheVariants.{Arrival, Turn, OwnTurn, Done, Clock, Malformed}
use Rattle.order.specs.declared.Order.{Order}
use Rattle.order.specs.declared.Order.TheVariants.{Nearest, Sweep}
use Rattle.listing.specs.Line.{ascii, rendered, worded_fields}
use Rattle.notes.specs.declared.line.Line.{Line}
use Rattle.notes.specs.declared.line.Line.TheVariants.{Blank, Worst, Span, Padding, Ordered, Stream, Call, Wrong}
use Rattle.notes.specs.declared.draft.Place.{Place}
use Rattle.notes.specs.declared.draft.Place.TheVariants.{Between, Within, Comment, Returned, Stray, Amiss}
use Rattle.notes.specs.declared.draft.Draft.{Draft}
use Rattle.notes.specs.Draft.{held, takes_name}

-- a number of the table has 32 bits, as "a tag of 32 bits" has, and the stream of an event eight
abbrev pub in_word : ℕ → Bool
in_word n = ltb n (2 ^ 32)

abbrev pub in_byte : ℕ → Bool
in_byte n = ltb n (2 ^ 8)

-- the line of a word alone
unfoldable pub word_line : ℕ → Line
word_line word = if (eqb word (held "turn")) (Call Turn) Wrong

-- the line of a word and a name: document 02, Req 08: "0 nearest, 1 sweep", and notes have these words for them
unfoldable pub order_line : ℕ → Line
order_line name =
    if (eqb name (held "nearest")) (Ordered Nearest)
    (if (eqb name (held "sweep")) (Ordered Sweep)
    Wrong)

-- the line of a word and a number
unfoldable pub table_line : ℕ → ℕ → Line
table_line word n =
    if (eqb word (held "worst")) (Worst n)
    (if (eqb word (held "span")) (Span n)
    (if (eqb word (held "padding")) (Padding n)
    Wrong))

unfoldable pub number_line : ℕ → ℕ → Line
number_line word n =
    if (eqb word (held "done")) (Call (Done n))
    (if (eqb word (held "clock")) (Call (Clock n))
    (if (takes_name word) (order_line n)
    (if (in_word n) (table_line word n)
    Wrong)))

-- the line of a word and two numbers
unfoldable pub stream_line : ℕ → ℕ → Line
stream_line a b = if (in_word a) (if (in_word b) (Stream a b) Wrong) Wrong

unfoldable pub pair_line : ℕ → ℕ → ℕ → Line
pair_line word a b =
    if (eqb word (held "stream")) (stream_line a b)
    (if (in_byte a)
    (if (eqb word (held "arrival")) (Call (Arrival a b 0))
    (if (eqb word (held "own")) (Call (OwnTurn a b))
    Wrong))
    Wrong)

-- the line of a word and three numbers. Document 02, Req 07: "A queued request becomes a place with a tag of 32 bits. Arrival takes both"
unfoldable pub triple_line : ℕ → ℕ → ℕ → ℕ → Line
triple_line word a b c =
    if (eqb word (held "arrival")) (if (in_byte a) (if (in_word c) (Call (Arrival a b c)) Wrong) Wrong)
    Wrong

-- the line that has been read, by how many fields it has
unfoldable pub fields_line : Draft → Line
fields_line d =
    if (eqb d.fields 0) Blank
    (if (eqb d.fields 1) (word_line d.word)
    (if (eqb d.fields 2) (number_line d.word d.last)
    (if (eqb d.fields 3) (pair_line d.word d.before d.last)
    (triple_line d.word d.earlier d.before d.last))))

abbrev pub place_line : Place → Draft → Line
place_line Between d = fields_line d
place_line Within d = fields_line d
place_line Comment d = fields_line d
place_line Returned d = fields_line d
place_line Stray d = Wrong
place_line Amiss d = Wrong

abbrev pub line_of : Draft → Line
line_of d = place_line d.place d

-- a tag is shown where it is not 0, so that old notes stay as they are
abbrev pub tag_shown : ℕ → List ℕ
tag_shown zero = []
tag_shown (suc n) = suc n ∷ []

-- the fields of a line that is shown. What is no line of notes is shown as an empty one.
abbrev pub event_shown : Event → List (List ℕ)
event_shown (Arrival stream place tag) = worded_fields (ascii "arrival") (stream ∷ place ∷ tag_shown tag)
event_shown Turn = worded_fields (ascii "turn") []
event_shown (OwnTurn stream index) = worded_fields (ascii "own") (stream ∷ index ∷ [])
event_shown (Done duration) = worded_fields (ascii "done") (duration ∷ [])
event_shown (Clock time) = worded_fields (ascii "clock") (time ∷ [])
event_shown Malformed = worded_fields [] []

-- an order's line has no number
abbrev pub order_shown : Order → List (List ℕ)
order_shown Nearest = worded_fields (ascii "order nearest") []
order_shown Sweep = worded_fields (ascii "order sweep") []

abbrev pub line_shown : Line → List (List ℕ)
line_shown (Worst n) = worded_fields (ascii "worst") (n ∷ [])
line_shown (Span n) = worded_fields (ascii "span") (n ∷ [])
line_shown (Padding n) = worded_fields (ascii "padding") (n ∷ [])
line_shown (Ordered order) = order_shown order
line_shown (Stream reserved period) = worded_fields (ascii "stream") (reserved ∷ period ∷ [])
line_shown (Call event) = event_shown event
line_shown Blank = worded_fields [] []
line_shown Wrong = worded_fields [] []

-- the lines of a file, in order and counted from 0: the three numbers of its table, its order if it has a third entry, its streams, and the events. A table has eight places for streams.
unfoldable pub stream_at : Table → ℕ → Line
stream_at t i = if (ltb i streams_max) (Stream (reserved_at t i) (period_at t i)) Wrong

unfoldable pub after_head : Table → List ℕ → ℕ → Line
after_head t trace i = if (ltb i t.count) (stream_at t i) (Call (event_at trace (i - t.count)))

-- how many lines stand before the streams
abbrev pub head_lines : Form → ℕ
head_lines Two = 3
head_lines Three = 4

unfoldable pub line_at : Form → Order → Table → List ℕ → ℕ → Line
line_at form order t trace i =
    if (eqb i 0) (Worst t.worst)
    (if (eqb i 1) (Span t.span)
    (if (eqb i 2) (Padding t.padding)
    (if (ltb i (head_lines form)) (Ordered order)
    (after_head t trace (i - head_lines form)))))

-- the first n lines of the notes of a file, as they are printed
unfoldable pub shown_to : Form → Order → Table → List ℕ → ℕ → List ℕ
shown_to form order t trace zero = []
shown_to form order t trace (suc n) = shown_to form order t trace n ++ rendered (line_shown (line_at form order t trace n))

-- all of them
abbrev pub notes_of : Form → Order → Table → List ℕ → List ℕ
notes_of form order t trace = shown_to form order t trace (head_lines form + t.count + events_in trace)
