-- The laws of the session file.
use mathlib.Core.Bool.{Bool, true, false}
use mathlib.Core.Path.{◌≡◌, refl, sym, ap, ◌∙◌}
use mathlib.Core.Logic.{◌⊎◌, inl, inr, ⊎_elim}
use mathlib.Core.List.{List, [], ◌++◌, append-nil}
use Prim.Native.Nat.{ℕ, ◌+◌, ◌*◌, ◌^◌, ◌≤◌, ◌<◌}
use native.Mathlib.Omega.{arith}
use borrow.Author.Tests.{eqb-true, le-ltb}
use lib.Dec.{eqb}
use lib.ListN.{length, take, drop}
use lib.Seq.{take_at, drop_at}
use Rattle.std.specs.declared.result.Result.TheVariants.{Ok, Err}
use Rattle.table.specs.Fold.{if}
use Rattle.table.specs.Refusal.{given}
use Rattle.table.specs.declared.Table.{Table}
use Rattle.table.proofs.Tests.{le_or_lt}
use Rattle.order.specs.Order.{is_order, order_of}
use Rattle.order.specs.declared.Order.{Order}
use Rattle.order.specs.declared.Order.TheVariants.{Nearest, Sweep}
use Rattle.cells.specs.Cells.{cell, number_at, Bytes}
use Rattle.cells.proofs.Numbers.{number_lt}
use Rattle.file.specs.File.{table_start, third_length, third_body, entry, contents, table_body, file_of}
use Rattle.file.specs.Reading.{events_in, form_in, start_in, table_length, part, count_at, trace_start, trace_end, order_in, trace_in, table_at, table_in, is_laid_out, laid_out, read_of}
use Rattle.file.specs.Writing.{is_writable, write_refusal, write_of, written_on}
use Rattle.file.specs.Laws.{Words, trimmed, WrittenIsWithin, WrittenReadsBack, RefusedChangesNothing, RestIsUnchanged, TableReadIsTrimmed, AcceptedWritesBack, AcceptedAreTheWritten, AcceptedIsWithin, LongestFile, old_file, TwoMeansNearest, SweepNeedsThree, ThreeEntries, AcceptedHasItsEntries, OthersAreRefused, OldFileReads}
use Rattle.file.specs.declared.form.Form.{Form}
use Rattle.file.specs.declared.form.Form.TheVariants.{Two, Three}
use Rattle.file.specs.Refusal.{refusal_of}
use Rattle.file.specs.declared.refusal.Refusal.TheVariants.{Layout as NotLaidOut}
use Rattle.file.proofs.Forms.{start_low, third_low, order_placed}
use Rattle.file.proofs.Columns.{column_lt, column_again}
use Rattle.file.proofs.Lengths.{length_file}
use Rattle.file.proofs.Trace.{trace_of_lem}
use Rattle.file.proofs.Traces.{old_trace_reads}
use Rattle.file.proofs.Accepted.{entry_of, Contents, accepted_of, chosen, unchosen, answered, read_refused, read_accepted}
use Rattle.file.proofs.Writes.{count_refused, rest_refused, room_decides, is_writable_lem, writable_of, write_refused, write_done}
use Rattle.file.proofs.WriteBack.{length_trace, write_back}
use Rattle.file.proofs.ReadBack.{form_back, order_back, table_back, count_back, start_back, end_back, trace_back, laid_back}

-- ---- a table that was read

pub table_read_is_trimmed : TableReadIsTrimmed
unfolding table_at trimmed
table_read_is_trimmed file b =
    let word : (at : ℕ) → number_at 4 file at < 2 ^ 32 = λ at. number_lt 4 file at b in
    let start = start_in file in (
      record {
        worst_fits = word start;
        span_fits = word (start + 4);
        padding_fits = word (start + 8);
        reserved_fits = λ i. column_lt (2 ^ 32) (λ i. number_at 4 file (start + 16 + 8 * i)) _ i (λ i. word (start + 16 + 8 * i)) (omega arith);
        period_fits = λ i. column_lt (2 ^ 32) (λ i. number_at 4 file (start + 20 + 8 * i)) _ i (λ i. word (start + 20 + 8 * i)) (omega arith);
      },
      rw (
        column_again (λ i. number_at 4 file (start + 16 + 8 * i)) (count_at file start),
        column_again (λ i. number_at 4 file (start + 20 + 8 * i)) (count_at file start),
      ),
    )

-- ---- files are those of forms, orders, tables and traces

writable_back : (file : List ℕ) → is_laid_out file ≡ true → is_writable (form_in file) (order_in file) (table_in file) (trace_in file) ≡ true
unfolding table_at
writable_back file h =
    let q = accepted_of file h in
    is_writable_lem (form_in file) (order_in file) (table_in file) (trace_in file)
    (record { count_high = q.count_high; placed = order_placed (form_in file) file (trace_end file); trace_right = q.trace_right })

pub accepted_are_the_written : AcceptedAreTheWritten
accepted_are_the_written = (laid_back, λ file b h. (writable_back file h, sym (write_back file b h)))

-- what reading says of the file that can be written
pub reads_back : (form : Form) (order : Order) (t : Table) (trace : List ℕ) → Words t → is_writable form order t trace ≡ true
    → let start = table_start form + table_length t.count in
    read_of (file_of form order t trace) ≡ Ok (laid_out form order t.count start (start + length trace) (events_in trace))
reads_back form order t trace q right =
    read_accepted (file_of form order t trace) (laid_back form order t trace q right)
    ∙ rw (
      trace_back form order t trace q right,
      order_back form order t trace q right,
      start_back form order t trace q right,
      end_back form order t trace q right,
      count_back form order t trace q right,
      form_back form order t trace q right,
    )

-- ---- what was written reads back

-- an answer that gives a length comes from a file that was written, and it is its length
pub written : (form : Form) (order : Order) (t : Table) (trace out : List ℕ) (n : ℕ) → write_of form order t trace out ≡ Ok n
    → (write_refusal form order t trace (length out) ≡ 0) × (length (file_of form order t trace) ≡ n)
unfolding write_of
written form order t trace out n h =
    let refusal = write_refusal form order t trace (length out) in
    let q = chosen (eqb refusal 0) (refusal_of refusal) h in
    (eqb-true _ _ q.0, q.1)

pub written_is_within : WrittenIsWithin
written_is_within form order t trace out n h =
    let w = written form order t trace out n h in
    omega (arith, w.1, (writable_of form order t trace (length out) w.0).1)

pub written_reads_back : WrittenReadsBack
written_reads_back form order t trace out n q h =
    let w = written form order t trace out n h in
    let right = (writable_of form order t trace (length out) w.0).0 in
    let whole = file_of form order t trace in
    let file : take n (written_on form order t trace out) ≡ whole
    = ap (take n) (write_done form order t trace out w.0).1 ∙ take_at whole (drop (length whole) out) n w.1 in
    let trace-is : part (table_start form + table_length t.count) (table_start form + table_length t.count + length trace) whole ≡ trace
    = rw (← end_back form order t trace q right, ← start_back form order t trace q right) (trace_back form order t trace q right) in
    rw file (reads_back form order t trace q right, table_back form order t trace q right, trace-is)

pub rest_is_unchanged : RestIsUnchanged
rest_is_unchanged form order t trace out n h =
    let w = written form order t trace out n h in
    rw ((write_done form order t trace out w.0).1, w.1) (drop_at (file_of form order t trace) (drop n out) n w.1)

-- ---- what was refused

pub refused_changes_nothing : RefusedChangesNothing
unfolding write_of written_on if
refused_changes_nothing form order t trace out refusal h =
    rw ((unchosen (eqb (write_refusal form order t trace (length out)) 0) (length (file_of form order t trace)) h).0)

-- ---- what was accepted is written back

fits : (file out : List ℕ) → Bytes file → is_laid_out file ≡ true → length file ≤ length out
    → write_refusal (form_in file) (order_in file) (table_in file) (trace_in file) (length out) ≡ 0
unfolding table_at given
fits file out b h room =
    let q = accepted_of file h in
    let size : start_in file + table_length (count_at file (start_in file)) + length (trace_in file) + third_length (form_in file) ≤ length out
    = omega (arith, length_file (form_in file) (order_in file) (table_in file) (trace_in file), ap length (write_back file b h), room) in
    room_decides
    (form_in file)
    (order_in file)
    (table_in file)
    (trace_in file)
    (length out)
    q.count_high
    (rw (order_placed (form_in file) file (trace_end file)) q.trace_right)
    ∙ rw (le-ltb _ _ size)

pub accepted_writes_back : AcceptedWritesBack
accepted_writes_back file out layout b h room =
    let a = answered file layout h in
    let same = write_back file b a.accepted in
    let done = write_done (form_in file) (order_in file) (table_in file) (trace_in file) out (fits file out b a.accepted room) in
    rw (← a.start_is, ← a.end_is, ← a.order_is, ← a.form_is) (done.0 ∙ rw same, done.1 ∙ rw same)

-- ---- where the parts of an accepted file are

pub accepted_is_within : AcceptedIsWithin
accepted_is_within file layout h =
    let a = answered file layout h in
    let q = accepted_of file a.accepted in
    let w = trace_of_lem (trace_in file) q.trace_right in
    record {
      count_high = rw (← a.count_is) q.count_high;
      events_high = rw (← a.events_are) w.events_high;
      in_middle = rw (← a.start_is, ← a.form_is, ← a.count_is) refl;
      whole_events = rw (← a.end_is, ← a.start_is, ← a.events_are) (omega (arith, q.long, w.whole, length_trace file q));
      in_file = rw (← a.end_is) (omega arith);
      third_last = rw (← a.end_is, ← a.form_is) (omega (arith, q.long));
      all_formed = rw (← a.events_are, ← a.start_is, ← a.end_is) w.all_formed;
    }

pub longest_file : LongestFile
longest_file file layout h =
    let w = accepted_is_within file layout h in
    omega (arith, w.count_high, w.events_high, w.in_middle, w.whole_events, w.third_last, start_low layout.form, third_low layout.form)

-- ---- the forms

pub third_none : (order : Order) → third_body Two order ≡ []
unfolding third_body cell
third_none order = refl

is_old : (order : Order) (t : Table) (trace : List ℕ) → file_of Two order t trace ≡ old_file t trace
unfolding file_of contents
is_old order t trace =
    let size = length (table_body t) in
    let front = cell 2 2 ++ entry 1 26 size ++ entry 2 (26 + size) (length trace) in
    rw (third_none order, append-nil front, append-nil (front ++ table_body t ++ trace))

two_is_nearest : (file : List ℕ) → form_in file ≡ Two → order_in file ≡ Nearest
unfolding order_of number_at if
two_is_nearest file h = rw h refl

pub two_means_nearest : TwoMeansNearest
two_means_nearest = (
  λ file layout h two. let a = answered file layout h in sym a.order_is ∙ two_is_nearest file (a.form_is ∙ two),
  is_old,
)

pub old_file_reads : OldFileReads
old_file_reads t trace q c old =
    let right = is_writable_lem Two Nearest t trace (record { count_high = c; placed = refl; trace_right = (old_trace_reads trace old).0 }) in
    rw (← is_old Nearest t trace) (reads_back Two Nearest t trace q right)

unplaced : (t : Table) (trace : List ℕ) (room : ℕ) → write_refusal Two Sweep t trace room ≡ 16
unplaced t trace room =
    ⊎_elim
    (λ (few : t.count ≤ 8). rest_refused Two Sweep t trace room few refl)
    (λ (many : 8 < t.count). count_refused Two Sweep t trace room many)
    (le_or_lt t.count 8)

pub sweep_needs_three : SweepNeedsThree
unfolding if
sweep_needs_three t trace out =
    let refusal = unplaced t trace (length out) in
    let refused = write_refused Two Sweep t trace out NotLaidOut (rw refusal) in
    (refusal, sym refused.0, sym refused.1)

-- what the tests of a form say of its entries
entries_of : (form : Form) (file : List ℕ) (start end : ℕ) → Contents form file start end → end + third_length form ≡ length file
    → is_order (number_at (third_length form) file end) ≡ true → (number_at 2 file 0 ≡ 2) ⊎ ThreeEntries file
entries_of Two file start end q last order = inl q.entries
entries_of Three file start end q last order =
    let third = entry_of file 26 3 end 4 q.third_entry in
    inr
    (record {
      entries_are = q.entries;
      first_kind = q.table_entry.kind_is;
      second_kind = q.trace_entry.kind_is;
      last_kind = third.kind_is;
      last_length = third.length_is;
      at_the_end = omega (arith, third.offset_is, last);
      an_order = rw third.offset_is order;
    })

pub accepted_has_its_entries : AcceptedHasItsEntries
accepted_has_its_entries file h =
    let q = accepted_of file h in
    entries_of (form_in file) file (trace_start file) (trace_end file) q.contents_right (omega (arith, q.long)) q.order_right

pub others_are_refused : OthersAreRefused
others_are_refused file two three = go (is_laid_out file) refl
  where
    go : (b : Bool) → is_laid_out file ≡ b → read_of file ≡ Err NotLaidOut
    go true e = absurd (⊎_elim two three (accepted_has_its_entries file e))
    go false e = read_refused file e
