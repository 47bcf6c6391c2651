-- What writing refuses, test by test, and what it answers and leaves in the buffer.
use mathlib.Core.Bool.{Bool, true, false, not, ◌&&◌}
use mathlib.Core.Path.{◌≡◌, refl, sym}
use mathlib.Core.List.{List, ◌++◌}
use Prim.Native.Nat.{ℕ, ◌+◌, ◌*◌, ◌≤◌, ◌<◌}
use borrow.Author.Tests.{le-leb, lt-leb, eqb-true, leb-true, ltb-false}
use lib.Dec.{eqb, ltb}
use lib.ListN.{length, drop}
use Rattle.std.specs.declared.result.Result.{Result}
use Rattle.std.specs.declared.result.Result.TheVariants.{Ok, Err}
use Rattle.table.specs.Fold.{if}
use Rattle.table.specs.Refusal.{given, ◌or_next◌}
use Rattle.table.specs.declared.Table.{Table}
use Rattle.table.proofs.Tests.{both, given_none, or_next_none}
use Rattle.order.specs.declared.Order.{Order}
use Rattle.file.specs.File.{table_start, third_length, file_of, event_size}
use Rattle.file.specs.Reading.{events_in, is_trace, table_length}
use Rattle.file.specs.Writing.{has_place, is_writable, write_refusal, write_of, written_on}
use Rattle.file.specs.declared.form.Form.{Form}
use Rattle.file.specs.Refusal.{refusal_of, answer_by}
use Rattle.file.specs.declared.refusal.Refusal.{Refusal}
use Rattle.file.proofs.Lengths.{length_file}
use Rattle.file.proofs.Trace.{trace_of_lem}
use Rattle.file.proofs.Accepted.{chosen, unchosen}

module _ (form : Form) (order : Order) (t : Table) (trace : List ℕ) (room : ℕ) where
  pub count_refused : 8 < t.count → write_refusal form order t trace room ≡ 16
  unfolding write_refusal is_writable given ◌or_next◌
  count_refused h = rw (lt-leb _ _ h)

  module _ (count : t.count ≤ 8) where
    pub rest_refused : (has_place form order && is_trace trace) ≡ false → write_refusal form order t trace room ≡ 16
    unfolding write_refusal is_writable given ◌or_next◌
    rest_refused h = rw (le-leb _ _ count, h)

    pub room_decides : (has_place form order && is_trace trace) ≡ true
        → write_refusal form order t trace room ≡ given (ltb room (table_start form + table_length t.count + length trace + third_length form)) 17
    unfolding write_refusal is_writable given ◌or_next◌
    room_decides h = rw (le-leb _ _ count, h, length_file form order t trace)

-- what can be written
pub record Writable (form : Form) (order : Order) (t : Table) (trace : List ℕ) : Type 0 where
  pub count_high : t.count ≤ 8
  pub placed : has_place form order ≡ true
  pub trace_right : is_trace trace ≡ true

pub writable_parts : (form : Form) (order : Order) (t : Table) (trace : List ℕ) → is_writable form order t trace ≡ true → Writable form order t trace
unfolding is_writable
writable_parts form order t trace h =
    let a = both _ _ h in
    let b = both _ _ a.0 in
    record { count_high = leb-true _ _ b.0; placed = b.1; trace_right = a.1 }

pub is_writable_lem : (form : Form) (order : Order) (t : Table) (trace : List ℕ) → Writable form order t trace → is_writable form order t trace ≡ true
unfolding is_writable
is_writable_lem form order t trace q = rw (le-leb _ _ q.count_high, q.placed, q.trace_right)

not_false : (b : Bool) → not b ≡ false → b ≡ true
not_false true h = refl
not_false false h = sym h

-- what is not refused can be, and has room
pub writable_of : (form : Form) (order : Order) (t : Table) (trace : List ℕ) (room : ℕ) → write_refusal form order t trace room ≡ 0
    → (is_writable form order t trace ≡ true) × (length (file_of form order t trace) ≤ room)
unfolding write_refusal
writable_of form order t trace room h =
    let unwritable = not (is_writable form order t trace) in
    let short = ltb room (length (file_of form order t trace)) in
    let a = or_next_none (given unwritable 16) (given short 17) h in
    (not_false (is_writable form order t trace) (given_none unwritable 15 a.0), ltb-false _ _ (given_none short 16 a.1))

module _ (form : Form) (order : Order) (t : Table) (trace out : List ℕ) where
  abbrev answer : Result ℕ Refusal
  answer = answer_by (write_refusal form order t trace (length out)) (length (file_of form order t trace))

  -- a refusal is the answer, and the buffer is as it was
  pub write_refused : (refusal : Refusal) → Err refusal ≡ answer
      → (Err refusal ≡ write_of form order t trace out) × (out ≡ written_on form order t trace out)
  unfolding write_of written_on if
  write_refused refusal h =
      (h, rw ((unchosen (eqb (write_refusal form order t trace (length out)) 0) (length (file_of form order t trace)) (sym h)).0))

  pub write_done : write_refusal form order t trace (length out) ≡ 0
      → (write_of form order t trace out ≡ Ok (length (file_of form order t trace)))
      × (written_on form order t trace out ≡ file_of form order t trace ++ drop (length (file_of form order t trace)) out)
  unfolding write_of written_on if
  write_done e = (rw e, rw e)

  -- what is answered by a length can be written, and there is room
  pub record Checked (n : ℕ) : Type 0 where
    pub length_is : length (file_of form order t trace) ≡ n
    pub unrefused : write_refusal form order t trace (length out) ≡ 0
    pub fits : length (file_of form order t trace) ≤ length out
    pub count_high : t.count ≤ 8
    pub whole : length trace ≡ event_size * events_in trace
    pub events_high : events_in trace ≤ 4_000

  pub checked : (n : ℕ) → Ok n ≡ answer → Checked n
  checked n h =
      let q = chosen (eqb (write_refusal form order t trace (length out)) 0) (refusal_of (write_refusal form order t trace (length out))) (sym h) in
      let none = eqb-true _ _ q.0 in
      let w = writable_of form order t trace (length out) none in
      let parts = writable_parts form order t trace w.0 in
      let right = trace_of_lem trace parts.trace_right in
      record {
        length_is = q.1;
        unrefused = none;
        fits = w.1;
        count_high = parts.count_high;
        whole = right.whole;
        events_high = right.events_high;
      }
