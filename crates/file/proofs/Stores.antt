-- The parts of a file, stored from place to place.
use mathlib.Core.Bool.{true}
use mathlib.Core.Path.{◌≡◌, refl, sym, ap, ◌∙◌}
use mathlib.Core.List.{List, ◌++◌}
use Prim.Native.Nat.{ℕ, suc, ◌+◌, ◌*◌, ◌≤◌, ◌<◌}
use borrow.Author.Tests.{lt-leb}
use native.Mathlib.Omega.{arith}
use lib.ListN.{length, drop, length-append}
use lib.Seq.{sets}
use Rattle.table.specs.Fold.{if}
use Rattle.table.specs.Refusal.{given, ◌or_next◌}
use Rattle.table.specs.Admission.{reserved_at, period_at}
use Rattle.table.specs.declared.Table.{Table}
use Rattle.order.specs.declared.Order.{Order}
use Rattle.cells.specs.Cells.{cell}
use Rattle.cells.proofs.Numbers.{length_cell}
use Rattle.cells.proofs.Runs.{sets_next, sets_start, Wrote, wrote_more}
use Rattle.file.specs.File.{entries_of, table_start, third_body, entry, third_entry, contents, stream_cells, table_body, event_size, event_cells, bytes_of, file_of}
use Rattle.file.specs.Reading.{events_in, table_length}
use Rattle.file.specs.Writing.{is_storable, put_refusal, with_event}
use Rattle.file.specs.declared.form.Form.{Form}
use Rattle.file.specs.declared.event.Event.{Event}
use Rattle.file.proofs.Lengths.{length_contents, length_table, length_streams, length_four}

-- three cells of four bytes, and four
three : (out : List ℕ) (at a b c : ℕ)
    → sets (sets (sets out at (cell 4 a)) (at + 4) (cell 4 b)) (at + 8) (cell 4 c) ≡ sets out at (cell 4 a ++ cell 4 b ++ cell 4 c)
three out at a b c =
    let eight : length (cell 4 a ++ cell 4 b) ≡ 8 = length-append (cell 4 a) (cell 4 b) ∙ omega (arith, length_cell 4 a, length_cell 4 b) in
    rw (sets_next (cell 4 a) (cell 4 b) out at 4 (length_cell 4 a)) (sets_next (cell 4 a ++ cell 4 b) (cell 4 c) out at 8 eight)

pub entry_stored : (out : List ℕ) (at kind offset len : ℕ)
    → sets (sets (sets out at (cell 4 kind)) (at + 4) (cell 4 offset)) (at + 8) (cell 4 len) ≡ sets out at (entry kind offset len)
unfolding entry
entry_stored = three

pub contents_stored : (out : List ℕ) (form : Form) (table trace : ℕ)
    → let start = table_start form in
    sets
    (sets (sets (sets out 0 (cell 2 (entries_of form))) 2 (entry 1 start table)) 14 (entry 2 (start + table) trace))
    26
    (third_entry form (start + table + trace))
    ≡ sets out 0 (contents form table trace)
unfolding contents entry cell
contents_stored out form table trace = refl

pub table_stored : (out : List ℕ) (at : ℕ) (t : Table)
    → sets
    (sets (sets (sets (sets out at (cell 4 t.worst)) (at + 4) (cell 4 t.span)) (at + 8) (cell 4 t.padding)) (at + 12) (cell 4 t.count))
    (at + 16)
    (stream_cells t t.count)
    ≡ sets out at (table_body t)
unfolding table_body
table_stored out at t =
    let a = cell 4 t.worst ++ cell 4 t.span ++ cell 4 t.padding in
    let twelve : length a ≡ 12 = simp (length-append, length_cell) in
    rw (
      three out at t.worst t.span t.padding,
      sets_next a (cell 4 t.count) out at 12 twelve,
    )
    (sets_next (a ++ cell 4 t.count) (stream_cells t t.count) out at 16 (length_four t.worst t.span t.padding t.count))

-- a turn of the loop that stores the streams
pub stream_stored : (out : List ℕ) (at : ℕ) (t : Table) (i : ℕ)
    → sets (sets (sets out at (stream_cells t i)) (at + 8 * i) (cell 4 (reserved_at t i))) (at + 8 * i + 4) (cell 4 (period_at t i))
    ≡ sets out at (stream_cells t (suc i))
unfolding stream_cells
stream_stored out at t i =
    let e = cell 4 (reserved_at t i) in
    let p = cell 4 (period_at t i) in
    sets_next e p (sets out at (stream_cells t i)) (at + 8 * i) 4 (length_cell 4 (reserved_at t i))
    ∙ sets_next (stream_cells t i) (e ++ p) out at (8 * i) (length_streams t i)

-- the cells of an event
pub event_stored : (out : List ℕ) (at kind stream tag value : ℕ)
    → sets (sets (sets (sets (sets out at (cell 1 kind)) (at + 1) (cell 1 stream)) (at + 2) (cell 4 tag)) (at + 6) (cell 2 0)) (at + 8) (cell 8 value)
    ≡ sets out at (event_cells kind stream tag value)
unfolding event_cells
event_stored out at kind stream tag value =
    let a = cell 1 kind ++ cell 1 stream in
    let b = a ++ cell 4 tag in
    let two : length a ≡ 2 = simp (length-append, length_cell) in
    let six : length b ≡ 6 = simp (length-append, length_cell) in
    let eight : length (b ++ cell 2 0) ≡ 8 = simp (length-append, length_cell) in
    rw (
      sets_next (cell 1 kind) (cell 1 stream) out at 1 (length_cell 1 kind),
      sets_next a (cell 4 tag) out at 2 two,
      sets_next b (cell 2 0) out at 6 six,
    )
    (sets_next (b ++ cell 2 0) (cell 8 value) out at 8 eight)

-- an event that is not refused is stored
pub stored_there : (trace : List ℕ) (i : ℕ) (e : Event) → is_storable e ≡ true → i < events_in trace
    → (0 ≡ put_refusal trace i e) × (sets trace (event_size * i) (bytes_of e) ≡ with_event trace i e)
unfolding with_event put_refusal given ◌or_next◌ if
stored_there trace i e h there = rw (h, lt-leb (events_in trace) i there) (refl, refl)

pub file_parts : (form : Form) (order : Order) (t : Table) (trace : List ℕ)
    → file_of form order t trace ≡ contents form (length (table_body t)) (length trace) ++ table_body t ++ trace ++ third_body form order
unfolding file_of
file_parts form order t trace = refl

-- what stands before the trace, the trace and the third body, each where the one before it ends, are the file
module _ (form : Form) (order : Order) (t : Table) (trace out : List ℕ) where
  abbrev head : List ℕ
  head = contents form (length (table_body t)) (length trace) ++ table_body t

  -- the buffer after each of the three
  abbrev pub stored_head : List ℕ
  stored_head = sets out 0 head

  abbrev pub stored_trace : List ℕ
  stored_trace = sets stored_head (table_start form + table_length t.count) trace

  abbrev pub stored_third : List ℕ
  stored_third = sets stored_trace (table_start form + table_length t.count + length trace) (third_body form order)

  first : Wrote out head (table_start form + table_length t.count) stored_head
  first =
      let size = length-append (contents form (length (table_body t)) (length trace)) (table_body t) in
      record { next = omega (arith, size, length_contents form (length (table_body t)) (length trace), length_table t); holds = refl }

  pub file_stored : length (file_of form order t trace) ≤ length out
      → stored_third ≡ file_of form order t trace ++ drop (length (file_of form order t trace)) out
  file_stored h =
      let second = wrote_more trace first refl refl in
      let all = wrote_more (third_body form order) second refl refl in
      all.holds ∙ ap (sets out 0) (sym (file_parts form order t trace)) ∙ sets_start (file_of form order t trace) out h
