-- What is shown of a file is composed to that file: line by line, first the numbers of the table, then the order if it has a third entry, then the streams, then the events.
use Rattle.std.specs.Prelude.{Option, None, Some}
use mathlib.Core.Bool.{true, false}
use mathlib.Core.Path.{◌≡◌, refl, sym, ap, ◌∙◌}
use mathlib.Core.List.{List, [], ◌++◌}
use Prim.Native.Nat.{ℕ, zero, suc, ◌+◌, ◌-◌, ◌*◌, ◌^◌, ◌≤◌, ◌<◌}
use native.Mathlib.Omega.{arith}
use lib.Dec.{eqb}
use lib.ListN.{length, take, drop, set, length-append, length-take}
use lib.Seq.{sets, sets-eq, length-sets, length-take-le, take_at, take-add, take_all}
use borrow.Author.Tests.{ne_eqb, lt-ltb, le-ltb, le-leb}
use Rattle.table.specs.Fold.{if, list_to, all_to}
use Rattle.table.specs.Refusal.{given, ◌or_next◌}
use Rattle.table.specs.Ranges.{streams_max}
use Rattle.table.specs.Admission.{reserved_at, period_at}
use Rattle.table.specs.declared.Table.{Table}
use Rattle.cells.specs.Cells.{Bytes}
use Rattle.cells.proofs.Numbers.{bytes_part}
use Rattle.order.specs.declared.Order.{Order}
use Rattle.order.specs.declared.Order.TheVariants.{Nearest}
use Rattle.file.specs.declared.form.Form.{Form}
use Rattle.file.specs.declared.form.Form.TheVariants.{Two, Three}
use Rattle.file.specs.File.{event_size, events_max, bytes_of, stream_cells, table_body, file_of}
use Rattle.file.specs.Reading.{laid_out, events_in, event_at, formed, is_trace, column, count_at, start_in, trace_start, trace_end, form_in, order_in, trace_in, table_at, table_in, is_laid_out}
use Rattle.file.specs.Writing.{put_refusal, with_event, is_writable, write_refusal, write_of, written_on}
use Rattle.file.specs.Laws.{Words, trimmed}
use Rattle.file.proofs.Accepted.{read_accepted}
use Rattle.file.proofs.Columns.{column_at}
use Rattle.file.proofs.Events.{event_writes_back}
use Rattle.file.proofs.Round.{table_read_is_trimmed, accepted_is_within, accepted_writes_back, two_means_nearest}
use Rattle.file.proofs.Stores.{stored_there}
use Rattle.file.proofs.Traces.{length_event, coded_storable}
use Rattle.file.proofs.Writes.{write_done}
use Rattle.listing.specs.Line.{rendered}
use Rattle.notes.specs.declared.Notes.{Notes}
use Rattle.notes.specs.declared.line.Line.{Line}
use Rattle.notes.specs.declared.line.Line.TheVariants.{Worst, Span, Padding, Ordered, Stream, Call}
use Rattle.notes.specs.Line.{fields_line, line_shown, stream_at, after_head, head_lines, line_at, shown_to}
use Rattle.notes.specs.Notes.{noted, started, no_table, with_worst, with_span, next_line, after_number, takes_order, after_order, after_stream, began_by, after_event, after, Read, read, line_refusal, refused_by, trace_after, line_ended, byte_read, bytes_read, Filed, filed, told, filed_by, ended}
use Rattle.notes.specs.Laws.{Fits, ShownComposes, TableComposes}
use Rattle.notes.proofs.Bytes.{pieces_join}
use Rattle.notes.proofs.Choices.{filed_whole}
use Rattle.notes.proofs.ReadBack.{line_reads_back}

-- ---- lists

-- a column with a number more
column_more : (f : ℕ → ℕ) (j : ℕ) → j < streams_max → set (column f j) j (f j) ≡ column f (suc j)
unfolding column list_to if
column_more f zero h = refl
column_more f (suc zero) h = refl
column_more f (suc (suc zero)) h = refl
column_more f (suc (suc (suc zero))) h = refl
column_more f (suc (suc (suc (suc zero)))) h = refl
column_more f (suc (suc (suc (suc (suc zero))))) h = refl
column_more f (suc (suc (suc (suc (suc (suc zero)))))) h = refl
column_more f (suc (suc (suc (suc (suc (suc (suc zero))))))) h = refl
column_more f (suc (suc (suc (suc (suc (suc (suc (suc j)))))))) h = absurd (omega (arith, h))

-- ---- the events in the trace

-- a buffer after the first e events of a trace were stored in it
unfoldable stored : List ℕ → List ℕ → ℕ → List ℕ
stored buffer trace zero = buffer
stored buffer trace (suc e) = with_event (stored buffer trace e) e (event_at trace e)

module _ (trace : List ℕ) (b : Bytes trace) (well : (i : ℕ) → i < events_in trace → formed (event_at trace i) ≡ true)
    (buffer : List ℕ) (room : events_in trace ≤ events_in buffer) where
  -- sixteen bytes more at the place of an event
  one_more : (l v : List ℕ) (e : ℕ) → e < events_in l → length v ≡ event_size → take (event_size * e) l ≡ take (event_size * e) trace
      → v ≡ take event_size (drop (event_size * e) trace)
      → take (event_size * suc e) (sets l (event_size * e) v) ≡ take (event_size * suc e) trace
  one_more l v e here size before is =
      let at = event_size * e in
      let size-before : length (take at l) ≡ at = length-take-le at l (omega arith) in
      let long : length (take at l ++ v) ≡ event_size * suc e = length-append (take at l) v ∙ omega (arith, size, size-before) in
      let next : event_size * suc e ≡ at + event_size = omega arith in
      ap (take (event_size * suc e)) (sets-eq v l at (omega (arith, size)))
      ∙ take_at (take at l ++ v) (drop (at + length v) l) (event_size * suc e) long
      ∙ rw (before, is, next) (sym (take-add at event_size trace))

  -- the events that are stored are the start of the trace, in a buffer as long as before
  stored_are : (e : ℕ) → e ≤ events_in trace
      → (take (event_size * e) (stored buffer trace e) ≡ take (event_size * e) trace) × (length (stored buffer trace e) ≡ length buffer)
  unfolding stored
  stored_are zero h = (refl, refl)
  stored_are (suc e) h =
      let q = stored_are e (omega arith) in
      let w = event_writes_back trace e b (well e (omega arith)) in
      let here : e < events_in (stored buffer trace e) = omega (arith, q.1, room, h) in
      let size : length (bytes_of (event_at trace e)) ≡ event_size = length_event (event_at trace e) w.0 in
      rw (← (stored_there (stored buffer trace e) e (event_at trace e) (coded_storable (event_at trace e) w.0) here).1)
      (one_more (stored buffer trace e) (bytes_of (event_at trace e)) e here size q.0 w.1, length-sets (stored buffer trace e) (event_size * e) (bytes_of (event_at trace e)) ∙ q.1)

-- ---- the lines, one after the other

next_line_lem : (n : ℕ) → n < 2 ^ 64 - 1 → next_line n ≡ n + 1
unfolding next_line if
next_line_lem n h = rw (lt-ltb n (2 ^ 64 - 1) h)

-- the head has three lines, or four
head_range : (form : Form) → (3 ≤ head_lines form) × (head_lines form ≤ 4)
head_range Two = (omega arith, omega arith)
head_range Three = (omega arith, omega arith)

-- the line of the first event, which stands after `first` others, once there is one
abbrev began_of : ℕ → ℕ → Option ℕ
began_of first zero = None
began_of first (suc e) = Some (first + 1)

began_there : (first e : ℕ) (form : Form) (order : Order) (t : Table) → began_by (noted (e + (first + 1)) 3 form order t e (began_of first e)) ≡ Some (first + 1)
unfolding began_by if
began_there first zero form order t = ap Some (omega arith)
began_there first (suc e) form order t = rw (ne_eqb (suc e) 0 (λ z. omega (arith, z)))

began_is : (first e : ℕ) → began_of first e ≡ if (eqb e 0) None (Some (first + 1))
unfolding if
began_is first zero = refl
began_is first (suc e) = rw (ne_eqb (suc e) 0 (λ z. omega (arith, z)))

module _ (form : Form) (order : Order) (nearest : form ≡ Two → order ≡ Nearest) (t : Table) (w : Words t) (few : t.count ≤ streams_max) (trace : List ℕ) (b : Bytes trace)
    (well : (i : ℕ) → i < events_in trace → formed (event_at trace i) ≡ true) (short : events_in trace ≤ events_max) (buffer : List ℕ) (room : events_in trace ≤ events_in buffer) where
  -- what has been read of the first m lines
  abbrev read_of : ℕ → Read
  read_of m = bytes_read (read started buffer) (shown_to form order t trace m)

  abbrev line_there : ℕ → Line
  line_there = line_at form order t trace

  -- a line more: it is read as the line that was shown
  line_more : (m line numbers : ℕ) (f : Form) (o : Order) (table : Table) (events : ℕ) (began : Option ℕ) (so_far : List ℕ) (l : Line) (next : Notes) → line_there m ≡ l → Fits l
      → read_of m ≡ read (noted line numbers f o table events began) so_far → after (noted line numbers f o table events began) l ≡ next → next.wrong ≡ false → line_refusal so_far events l ≡ 0
      → read_of (suc m) ≡ read next (trace_after so_far events l)
  unfolding shown_to refused_by if
  line_more m line numbers f o table events began so_far l next is fits before then right kept =
      pieces_join (read started buffer) (shown_to form order t trace m) (rendered (line_shown (line_there m)))
      ∙ ap (λ (r : Read). bytes_read r (rendered (line_shown (line_there m)))) before
      ∙ ap (λ (k : Line). bytes_read (read (noted line numbers f o table events began) so_far) (rendered (line_shown k))) is
      ∙ line_reads_back line numbers f o table events began so_far l fits (ap (λ (n : Notes). n.wrong) then ∙ right)
      ∙ ap (λ (n : Notes). read (refused_by n (line_refusal so_far events l)) (trace_after so_far events l)) then
      ∙ ap (λ (number : ℕ). read (refused_by next number) (trace_after so_far events l)) kept

  -- the table with its first j streams
  abbrev streams_of : ℕ → Table
  streams_of j =
      record { worst = t.worst; span = t.span; padding = t.padding; count = j; reserved = column (reserved_at t) j; period = column (period_at t) j }

  numbers_read : read_of 3 ≡ read (noted 4 3 Two Nearest (streams_of 0) 0 None) buffer
  unfolding shown_to bytes_read line_at after_number next_line if column list_to
  numbers_read =
      line_more 2 3 2 Two Nearest (with_span (with_worst no_table t.worst) t.span) 0 None buffer (Padding t.padding) (noted 4 3 Two Nearest (streams_of 0) 0 None) refl w.padding_fits
      (line_more 1 2 1 Two Nearest (with_worst no_table t.worst) 0 None buffer (Span t.span) (noted 3 2 Two Nearest (with_span (with_worst no_table t.worst) t.span) 0 None) refl w.span_fits
      (line_more 0 1 0 Two Nearest no_table 0 None buffer (Worst t.worst) (noted 2 1 Two Nearest (with_worst no_table t.worst) 0 None) refl w.worst_fits refl refl refl refl)
      refl refl refl)
      refl refl refl

  -- the head: the numbers, and the order in a file with a third entry
  order_there : form ≡ Three → line_there 3 ≡ Ordered order
  unfolding line_at if
  order_there is = rw is

  head_read : (f : Form) → form ≡ f → read_of (head_lines f) ≡ read (noted (head_lines f + 1) 3 f order (streams_of 0) 0 None) buffer
  unfolding takes_order after_order next_line if
  head_read Two is = numbers_read ∙ ap (λ (o : Order). read (noted 4 3 Two o (streams_of 0) 0 None) buffer) (sym (nearest is))
  head_read Three is =
      line_more 3 4 3 Two Nearest (streams_of 0) 0 None buffer (Ordered order) (noted 5 3 Three order (streams_of 0) 0 None) (order_there is) tt numbers_read refl refl refl

  abbrev head : ℕ
  head = head_lines form

  -- the lines after the head
  after_there : (i : ℕ) → line_there (i + head) ≡ after_head t trace i
  unfolding line_at if
  after_there i =
      let low = (head_range form).0 in
      let e : i + head - head ≡ i = omega arith in
      rw (
        ne_eqb (i + head) 0 (λ z. omega (arith, z, low)),
        ne_eqb (i + head) 1 (λ z. omega (arith, z, low)),
        ne_eqb (i + head) 2 (λ z. omega (arith, z, low)),
        le-ltb (i + head) head (omega arith),
        e,
      )

  stream_there : (j : ℕ) → j < t.count → line_there (j + head) ≡ Stream (reserved_at t j) (period_at t j)
  unfolding after_head stream_at if
  stream_there j h = after_there j ∙ rw (lt-ltb j t.count h, lt-ltb j streams_max (omega (arith, few, h)))

  stream_taken : (j : ℕ) → j < streams_max
      → after (noted (j + (head + 1)) 3 form order (streams_of j) 0 None) (Stream (reserved_at t j) (period_at t j)) ≡ noted (suc j + (head + 1)) 3 form order (streams_of (suc j)) 0 None
  unfolding after_stream if
  stream_taken j h =
      let e : j + (head + 1) + 1 ≡ suc j + (head + 1) = omega arith in
      let more : j + 1 ≡ suc j = omega arith in
      rw (lt-ltb j streams_max h, next_line_lem (j + (head + 1)) (omega (arith, h, (head_range form).1)), e, more, column_more (reserved_at t) j h, column_more (period_at t) j h)

  streams_read : (j : ℕ) → j ≤ t.count → read_of (j + head) ≡ read (noted (j + (head + 1)) 3 form order (streams_of j) 0 None) buffer
  streams_read zero h =
      let none : 0 + head ≡ head = omega arith in
      let first : 0 + (head + 1) ≡ head + 1 = omega arith in
      rw (none, first) (head_read form refl)
  streams_read (suc j) h =
      let m : suc j + head ≡ suc (j + head) = omega arith in
      ap read_of m
      ∙ line_more (j + head) (j + (head + 1)) 3 form order (streams_of j) 0 None buffer (Stream (reserved_at t j) (period_at t j)) (noted (suc j + (head + 1)) 3 form order (streams_of (suc j)) 0 None)
      (stream_there j h)
      (w.reserved_fits j, w.period_fits j)
      (streams_read j (omega arith))
      (stream_taken j (omega arith))
      refl
      refl

  abbrev lines : ℕ
  lines = t.count + head

  event_there : (e : ℕ) → line_there (e + lines) ≡ Call (event_at trace e)
  unfolding after_head if
  event_there e =
      let past : e + lines ≡ e + t.count + head = omega arith in
      let at : e + t.count - t.count ≡ e = omega arith in
      ap line_there past ∙ after_there (e + t.count) ∙ rw (le-ltb (e + t.count) t.count (omega arith), at)

  event_taken : (e : ℕ) → e < events_max
      → after (noted (e + (lines + 1)) 3 form order (trimmed t) e (began_of lines e)) (Call (event_at trace e)) ≡ noted (suc e + (lines + 1)) 3 form order (trimmed t) (suc e) (Some (lines + 1))
  unfolding after_event if
  event_taken e h =
      let k : e + (lines + 1) + 1 ≡ suc e + (lines + 1) = omega arith in
      let more : e + 1 ≡ suc e = omega arith in
      rw (lt-ltb e events_max h, next_line_lem (e + (lines + 1)) (omega (arith, few, (head_range form).1)), began_there lines e form order (trimmed t), k, more)

  -- the trace has room for each event
  event_kept : (e : ℕ) → e < events_in trace → put_refusal (stored buffer trace e) e (event_at trace e) ≡ 0
  event_kept e h =
      let q = stored_are trace b well buffer room e (omega arith) in
      let here : e < events_in (stored buffer trace e) = omega (arith, q.1, room, h) in
      let w = (event_writes_back trace e b (well e h)).0 in
      sym (stored_there (stored buffer trace e) e (event_at trace e) (coded_storable (event_at trace e) w) here).0

  events_read : (e : ℕ) → e ≤ events_in trace
      → read_of (e + lines) ≡ read (noted (e + (lines + 1)) 3 form order (trimmed t) e (began_of lines e)) (stored buffer trace e)
  unfolding stored trimmed
  events_read zero h =
      let none : 0 + lines ≡ t.count + head = omega arith in
      let first : 0 + (lines + 1) ≡ t.count + (head + 1) = omega arith in
      rw (none, first) (streams_read t.count (omega arith))
  events_read (suc e) h =
      let m : suc e + lines ≡ suc (e + lines) = omega arith in
      ap read_of m
      ∙ line_more (e + lines) (e + (lines + 1)) 3 form order (trimmed t) e (began_of lines e) (stored buffer trace e) (Call (event_at trace e)) (noted (suc e + (lines + 1)) 3 form order (trimmed t) (suc e) (Some (lines + 1)))
      (event_there e)
      (event_writes_back trace e b (well e (omega arith))).0
      (events_read e (omega arith))
      (event_taken e (omega (arith, short, h)))
      refl
      (event_kept e h)

-- ---- the end

-- what is written of what has been read
abbrev written_of : List ℕ → Read → Filed
written_of out r = filed_by (ended r.notes r.trace).notes (ended r.notes r.trace).trace out

-- the end of the notes leaves a blank line, which says nothing
at_end : (line : ℕ) (form : Form) (order : Order) (events : ℕ) (began : Option ℕ) (table : Table) (trace out : List ℕ) → events ≤ events_in trace
    → written_of out (read (noted line 3 form order table events began) trace)
    ≡ filed (told table.count began (write_of form order table (take (event_size * events) trace) out)) (written_on form order table (take (event_size * events) trace) out)
unfolding byte_read line_ended refused_by fields_line if
at_end line form order events began table trace out room = filed_whole (noted (next_line line) 3 form order table events began) trace out refl (omega arith) refl room

-- a file of two entries means nearest
two_nearest : (file : List ℕ) → is_laid_out file ≡ true → form_in file ≡ Two → order_in file ≡ Nearest
two_nearest file h is =
    let count = count_at file (start_in file) in
    let events = events_in (trace_in file) in
    two_means_nearest.0 file (laid_out (form_in file) (order_in file) count (trace_start file) (trace_end file) events)
    (read_accepted file h)
    is

pub shown_composes : ShownComposes
unfolding table_at
shown_composes file buffer out b h room space =
    let form = form_in file in
    let order = order_in file in
    let t = table_in file in
    let trace = trace_in file in
    let e = events_in trace in
    let first = t.count + head_lines form in
    let a = read_accepted file h in
    let inside = accepted_is_within file _ a in
    let table = table_read_is_trimmed file b in
    let bytes = bytes_part (trace_end file - trace_start file) (trace_start file) file b in
    let index : head_lines form + t.count + e ≡ e + first = omega arith in
    let size : length trace ≤ event_size * e = omega (arith, length-take (trace_end file - trace_start file) (drop (trace_start file) file), inside.whole_events) in
    let stores = stored_are trace bytes inside.all_formed buffer room e (omega arith) in
    let back = accepted_writes_back file out _ b a space in
    ap (λ (m : ℕ). written_of out (bytes_read (read started buffer) (shown_to form order t trace m))) index
    ∙ ap (written_of out) (events_read form order (two_nearest file h) t table.0 inside.count_high trace bytes inside.all_formed inside.events_high buffer room e (omega arith))
    ∙ at_end (e + (first + 1)) form order e (began_of first e) (trimmed t) (stored buffer trace e) out (omega (arith, stores.1, room))
    ∙ rw (began_is first e, table.1, stores.0, take_all (event_size * e) trace size, back.0, back.1)

-- ---- a table without events

-- what stands past the count is not in the file
cells_trimmed : (t : Table) (n : ℕ) → n ≤ t.count → t.count ≤ streams_max → stream_cells (trimmed t) n ≡ stream_cells t n
unfolding stream_cells trimmed
cells_trimmed t zero within few = refl
cells_trimmed t (suc n) within few =
    rw (cells_trimmed t n (omega arith) few, column_at (reserved_at t) t.count n (omega arith) few, column_at (period_at t) t.count n (omega arith) few)

file_trimmed : (t : Table) → t.count ≤ streams_max → file_of Two Nearest (trimmed t) [] ≡ file_of Two Nearest t []
unfolding file_of table_body trimmed
file_trimmed t few = rw (cells_trimmed t t.count (omega arith) few)

file_taken : (t : Table) (room : ℕ) → t.count ≤ streams_max → length (file_of Two Nearest t []) ≤ room → write_refusal Two Nearest t [] room ≡ 0
unfolding write_refusal is_writable is_trace all_to given ◌or_next◌
file_taken t room few fits = rw (le-leb t.count streams_max few, le-ltb room (length (file_of Two Nearest t [])) fits)

pub table_composes : TableComposes
unfolding trimmed
table_composes t buffer out w few fits =
    let none : head_lines Two + t.count + 0 ≡ t.count + head_lines Two = omega arith in
    let same = file_trimmed t few in
    let done = write_done Two Nearest (trimmed t) [] out (file_taken (trimmed t) (length out) few (rw same fits)) in
    ap (λ (m : ℕ). written_of out (bytes_read (read started buffer) (shown_to Two Nearest t [] m))) none
    ∙ ap (written_of out) (streams_read Two Nearest (λ _. refl) t w few [] (λ i. omega arith) (λ i l. absurd (omega arith)) (omega arith) buffer (omega arith) t.count (omega arith))
    ∙ at_end (t.count + (head_lines Two + 1)) Two Nearest 0 None (trimmed t) buffer out (omega arith)
    ∙ rw (done.0, done.1, same)
