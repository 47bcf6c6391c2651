-- The file of a form, an order, a table and a trace is accepted, and gives them back: each number is read from its own cell.
use mathlib.Core.Bool.{true}
use mathlib.Core.Path.{◌≡◌, refl, ap, ◌∙◌}
use mathlib.Core.List.{List, [], ◌++◌, append_assoc, append-nil}
use Prim.Native.Nat.{ℕ, zero, suc, ◌+◌, ◌-◌, ◌*◌, ◌^◌, ◌≤◌, ◌<◌}
use native.Mathlib.Omega.{arith}
use native.Mathlib.Nat.{not-suc-le-zero, add-zero}
use lib.ListN.{length, drop, length-append}
use lib.Seq.{drop_at, take_at}
use Rattle.table.specs.Admission.{reserved_at, period_at}
use Rattle.table.specs.declared.Table.{Table}
use Rattle.table.proofs.Folds.{at_or_below}
use Rattle.order.specs.Order.{order_number, is_order, order_of}
use Rattle.order.specs.declared.Order.{Order}
use Rattle.order.proofs.Orders.{numbers_are_orders}
use Rattle.cells.specs.Cells.{cell, number_at}
use Rattle.cells.proofs.Numbers.{length_cell, number_cell, number_past, cell_reads_back}
use Rattle.file.specs.File.{entries_of, table_start, third_length, third_body, entry, contents, stream_cells, table_body, file_of}
use Rattle.file.specs.Reading.{form_in, start_in, table_length, count_at, trace_start, trace_end, third_in, order_in, trace_in, table_at, table_in, is_third_entry, is_contents, is_laid_out}
use Rattle.file.specs.Writing.{is_writable}
use Rattle.file.specs.Laws.{Words, trimmed}
use Rattle.file.specs.declared.form.Form.{Form}
use Rattle.file.specs.declared.form.Form.TheVariants.{Two, Three}
use Rattle.file.proofs.Columns.{column_agree}
use Rattle.file.proofs.Forms.{entries_few, form_is, order_fits}
use Rattle.file.proofs.Lengths.{length_contents, length_streams, length_four, length_table, length_file}
use Rattle.file.proofs.Stores.{file_parts}
use Rattle.file.proofs.Trace.{trace_of_lem}
use Rattle.file.proofs.Accepted.{Entry, is_entry_lem, Contents, is_contents_lem, trace_decides}
use Rattle.file.proofs.Writes.{Writable, writable_parts}

-- a number past a run of known length
number_after : (w n at : ℕ) (a b : List ℕ) → length a ≡ n → number_at w (a ++ b) (n + at) ≡ number_at w b at
number_after w n at a b e = rw (← e) (number_past w a b at)

-- the numbers of the stream at i
row : (t : Table) (after : List ℕ) (n i : ℕ) → i < n → reserved_at t i < 2 ^ 32 → period_at t i < 2 ^ 32
    → (number_at 4 (stream_cells t n ++ after) (8 * i + 0) ≡ reserved_at t i) × (number_at 4 (stream_cells t n ++ after) (8 * i + 4) ≡ period_at t i)
unfolding stream_cells
row t after zero i l he hp = absurd (not-suc-le-zero l)
row t after (suc n) i l he hp =
    let s = stream_cells t n in
    let x = cell 4 (reserved_at t n) in
    let y = cell 4 (period_at t n) in
    at_or_below
    (λ j. reserved_at t j < 2 ^ 32 → period_at t j < 2 ^ 32 → (number_at 4 (s ++ (x ++ y) ++ after) (8 * j + 0) ≡ reserved_at t j) × (number_at 4 (s ++ (x ++ y) ++ after) (8 * j + 4) ≡ period_at t j))
    i
    l
    (λ he2 hp2. (
      rw (append_assoc s (x ++ y) after, append_assoc x y after, number_after 4 (8 * n) 0 s (x ++ (y ++ after)) (length_streams t n))
          (number_cell 4 (reserved_at t n) (y ++ after) he2),
      rw (append_assoc s (x ++ y) after, append_assoc x y after, number_after 4 (8 * n) 4 s (x ++ (y ++ after)) (length_streams t n), number_after 4 4 0 x (y ++ after) (length_cell 4 (reserved_at t n)))
          (number_cell 4 (period_at t n) after hp2),
    ))
    (λ u he2 hp2. rw (append_assoc s (x ++ y) after) (row t ((x ++ y) ++ after) n i u he2 hp2))
    he
    hp

-- what stands in a table body, wherever that starts
record TableThere (t : Table) (file : List ℕ) (at : ℕ) : Type 0 where
  worst_there : number_at 4 file at ≡ t.worst
  span_there : number_at 4 file (at + 4) ≡ t.span
  padding_there : number_at 4 file (at + 8) ≡ t.padding
  count_there : number_at 4 file (at + 12) ≡ t.count
  reserved_there : (i : ℕ) → i < t.count → number_at 4 file (at + 16 + 8 * i) ≡ reserved_at t i
  period_there : (i : ℕ) → i < t.count → number_at 4 file (at + 20 + 8 * i) ≡ period_at t i

module _ (t : Table) (q : Words t) (count : t.count ≤ 8) (before after : List ℕ) (at : ℕ) (e : length before ≡ at) where
  -- the four numbers, by computing where they stand in the body
  four : let body = table_body t ++ after in
      (number_at 4 body 0 ≡ t.worst) × (number_at 4 body 4 ≡ t.span) × (number_at 4 body 8 ≡ t.padding) × (number_at 4 body 12 ≡ t.count)
  unfolding table_body cell number_at
  four = (
    number_cell 4 t.worst [] q.worst_fits,
    number_cell 4 t.span [] q.span_fits,
    number_cell 4 t.padding [] q.padding_fits,
    number_cell 4 t.count [] (omega arith),
  )

  in_body : (i : ℕ) → number_at 4 (before ++ (table_body t ++ after)) (at + i) ≡ number_at 4 (table_body t ++ after) i
  in_body i = number_after 4 at i before (table_body t ++ after) e

  in_streams : (i : ℕ) → number_at 4 (table_body t ++ after) (16 + i) ≡ number_at 4 (stream_cells t t.count ++ after) i
  unfolding table_body
  in_streams i =
      let a = cell 4 t.worst ++ cell 4 t.span ++ cell 4 t.padding ++ cell 4 t.count in
      rw (append_assoc a (stream_cells t t.count) after)
      (number_after 4 16 i a (stream_cells t t.count ++ after) (length_four t.worst t.span t.padding t.count))

  table_there : TableThere t (before ++ (table_body t ++ after)) at
  table_there =
      let rows : (i : ℕ) → i < t.count → _ = λ i l. row t after t.count i l (q.reserved_fits i) (q.period_fits i) in
      record {
        worst_there = rw (← add-zero at) (in_body 0 ∙ four.0);
        span_there = in_body 4 ∙ four.1;
        padding_there = in_body 8 ∙ four.2;
        count_there = in_body 12 ∙ four.3;
        reserved_there = λ i l.
            let k : at + 16 + 8 * i ≡ at + (16 + (8 * i + 0)) = omega arith in
            rw k (in_body (16 + (8 * i + 0)) ∙ in_streams (8 * i + 0) ∙ (rows i l).0);
        period_there = λ i l.
            let k : at + 20 + 8 * i ≡ at + (16 + (8 * i + 4)) = omega arith in
            rw k (in_body (16 + (8 * i + 4)) ∙ in_streams (8 * i + 4) ∙ (rows i l).1);
      }

table_is : (t : Table) (file : List ℕ) (at : ℕ) → TableThere t file at → table_at file at ≡ trimmed t
unfolding table_at trimmed
table_is t file at q =
    rw (
      q.worst_there,
      q.span_there,
      q.padding_there,
      q.count_there,
      column_agree (λ i. number_at 4 file (at + 16 + 8 * i)) (reserved_at t) t.count q.reserved_there,
      column_agree (λ i. number_at 4 file (at + 20 + 8 * i)) (period_at t) t.count q.period_there,
    )

-- what stands in a contents table
module _ (table trace : ℕ) (after : List ℕ) (h : table ≤ table_length 8) (k : trace ≤ 64_000) where
  third_there : (form : Form) → is_third_entry form (contents form table trace ++ after) (table_start form + table + trace) ≡ true
  unfolding contents entry cell number_at
  third_there Two = refl
  third_there Three =
      is_entry_lem _ _ _ _ _ (record { kind_is = refl; offset_is = number_cell 4 (table_start Three + table + trace) [] (omega arith); length_is = refl })

  pub entries_there : (form : Form)
      → let file = contents form table trace ++ after in
      let start = table_start form in
      (number_at 2 file 0 ≡ entries_of form) × Entry file 2 1 start table × Entry file 14 2 (start + table) trace
  unfolding contents entry cell number_at
  entries_there form =
      let few = entries_few form in (
        number_cell 2 (entries_of form) [] (omega (arith, few)),
        record {
          kind_is = refl;
          offset_is = number_cell 4 (table_start form) [] (omega (arith, few));
          length_is = number_cell 4 table [] (omega arith);
        },
        record {
          kind_is = refl;
          offset_is = number_cell 4 (table_start form + table) [] (omega (arith, few));
          length_is = number_cell 4 trace [] (omega arith);
        },
      )

module _ (form : Form) (order : Order) (t : Table) (trace : List ℕ) (q : Words t) (h : is_writable form order t trace ≡ true) where
  right : Writable form order t trace
  right = writable_parts form order t trace h

  abbrev file : List ℕ
  file = file_of form order t trace

  abbrev front : List ℕ
  front = contents form (length (table_body t)) (length trace)

  abbrev start : ℕ
  start = table_start form + table_length t.count

  abbrev end : ℕ
  end = start + length trace

  parts : file ≡ front ++ (table_body t ++ (trace ++ third_body form order))
  parts =
      file_parts form order t trace
      ∙ append_assoc (front ++ table_body t) trace (third_body form order)
      ∙ append_assoc front (table_body t) (trace ++ third_body form order)

  table_short : length (table_body t) ≤ table_length 8
  table_short = omega (arith, length_table t, right.count_high)

  trace_short : length trace ≤ 64_000
  trace_short = let w = trace_of_lem trace right.trace_right in omega (arith, w.whole, w.events_high)

  -- the form that was written
  pub form_back : form_in file ≡ form
  form_back = form_is file form (rw parts (entries_there (length (table_body t)) (length trace) (table_body t ++ (trace ++ third_body form order)) table_short trace_short form).0)

  there : TableThere t file (table_start form)
  there =
      rw parts
      (table_there t q right.count_high front (trace ++ third_body form order) (table_start form) (length_contents form (length (table_body t)) (length trace)))

  -- the table that was written
  pub table_back : table_in file ≡ trimmed t
  table_back = rw form_back (table_is t file (table_start form) there)

  pub count_back : count_at file (start_in file) ≡ t.count
  count_back = rw form_back there.count_there

  pub start_back : trace_start file ≡ start
  start_back = ap (λ f. table_start f + table_length (count_at file (table_start f))) form_back ∙ ap (λ (n : ℕ). table_start form + table_length n) there.count_there

  pub end_back : trace_end file ≡ end
  end_back = rw form_back (omega (arith, length_file form order t trace))

  length_front : length (front ++ table_body t) ≡ start
  length_front = length-append front (table_body t) ∙ omega (arith, length_contents form (length (table_body t)) (length trace), length_table t)

  rest : drop start file ≡ trace ++ third_body form order
  rest =
      rw (file_parts form order t trace, append_assoc (front ++ table_body t) trace (third_body form order))
      (drop_at (front ++ table_body t) (trace ++ third_body form order) start length_front)

  -- the trace that was written
  pub trace_back : trace_in file ≡ trace
  trace_back = rw (start_back, end_back, rest) (take_at trace (third_body form order) (end - start) (omega arith))

  -- and the order
  number_there : number_at (third_length form) file end ≡ order_number order
  unfolding third_body
  number_there =
      let third = cell (third_length form) (order_number order) in
      let size : length (front ++ table_body t ++ trace) ≡ end = length-append (front ++ table_body t) trace ∙ omega (arith, length_front) in
      rw (file_parts form order t trace, ← size, ← append-nil third)
      (cell_reads_back (third_length form) (order_number order) (front ++ table_body t ++ trace) [] (order_fits form order right.placed))

  number_back : third_in file ≡ order_number order
  number_back = rw (end_back, form_back) number_there

  pub order_back : order_in file ≡ order
  order_back = ap order_of number_back ∙ (numbers_are_orders.0 order).1

  contents_back : Contents form file start end
  contents_back =
      let after = table_body t ++ (trace ++ third_body form order) in
      let e = entries_there (length (table_body t)) (length trace) after table_short trace_short form in
      let third = third_there (length (table_body t)) (length trace) after table_short trace_short form in
      let n = length_table t in
      let a : start - table_start form ≡ length (table_body t) = omega arith in
      let b : end - start ≡ length trace = omega arith in
      rw parts
      (record { entries = e.0; table_entry = rw a e.1; trace_entry = rw (b, ← n) e.2; third_entry = rw (← n) third })

  -- it is accepted
  pub laid_back : is_laid_out file ≡ true
  laid_back =
      let contents-are : is_contents (form_in file) file (trace_start file) (trace_end file) ≡ true
      = rw (start_back, end_back, form_back) (is_contents_lem form file start end contents_back) in
      let order_is : is_order (third_in file) ≡ true = ap is_order number_back ∙ (numbers_are_orders.0 order).0 in
      trace_decides
      file
      (rw count_back right.count_high)
      (omega (arith, start_back, ap third_length form_back, length_file form order t trace))
      (rw (contents-are, order_is))
      ∙ rw trace_back right.trace_right
