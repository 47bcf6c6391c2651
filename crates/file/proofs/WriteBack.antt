-- An accepted file is the file of its form, its order, its table and its trace: each cell of that file is the bytes that its number was read from, and the parts join.
use mathlib.Core.Bool.{true}
use mathlib.Core.Path.{◌≡◌, refl, sym, ap, ◌∙◌}
use mathlib.Core.List.{List, ◌++◌}
use Prim.Native.Nat.{ℕ, zero, suc, ◌+◌, ◌-◌, ◌*◌, ◌≤◌, ◌<◌}
use native.Mathlib.Omega.{arith}
use lib.ListN.{length, take, drop, length-drop}
use lib.Seq.{take-add, drop-drop, take_all, length-take-le}
use Rattle.table.specs.Admission.{reserved_at, period_at}
use Rattle.table.specs.declared.Table.{Table}
use Rattle.order.proofs.Orders.{numbers_are_orders}
use Rattle.cells.specs.Cells.{cell, number_at, Bytes}
use Rattle.cells.proofs.Numbers.{cell_number}
use Rattle.file.specs.File.{entries_of, table_start, third_length, third_body, entry, third_entry, contents, stream_cells, table_body, file_of}
use Rattle.file.specs.Reading.{form_in, start_in, table_length, count_at, trace_start, trace_end, order_in, trace_in, table_at, table_in, is_third_entry, is_laid_out}
use Rattle.file.specs.declared.form.Form.{Form}
use Rattle.file.specs.declared.form.Form.TheVariants.{Two, Three}
use Rattle.file.proofs.Forms.{after_two}
use Rattle.file.proofs.Columns.{column_at}
use Rattle.file.proofs.Lengths.{length_table}
use Rattle.file.proofs.Stores.{file_parts}
use Rattle.file.proofs.Accepted.{Entry, entry_of, Accepted, accepted_of}

-- two neighbouring parts are one
pub glue : (from a b : ℕ) (l : List ℕ) → take a (drop from l) ++ take b (drop (from + a) l) ≡ take (a + b) (drop from l)
glue from a b l = sym (take-add a b (drop from l) ∙ rw (drop-drop a from l))

module _ (file : List ℕ) (b : Bytes file) where
  -- the cell of a number is where it was read
  pub piece : (w at n : ℕ) → number_at w file at ≡ n → at + w ≤ length file → cell w n ≡ take w (drop at file)
  piece w at n e h = rw e at (cell_number w file at b h)

  entry_there : (at kind offset len : ℕ) → Entry file at kind offset len → at + 12 ≤ length file → entry kind offset len ≡ take 12 (drop at file)
  unfolding entry
  entry_there at kind offset len q h =
      rw (
        piece 4 at kind q.kind_is (omega arith),
        piece 4 (at + 4) offset q.offset_is (omega arith),
        piece 4 (at + 8) len q.length_is (omega arith),
        glue at 4 4 file,
        glue at 8 4 file,
      )

  third_entry_there : (form : Form) (offset : ℕ) → is_third_entry form file offset ≡ true → table_start form ≤ length file
      → third_entry form offset ≡ take (table_start form - 26) (drop 26 file)
  third_entry_there Two offset q h = refl
  third_entry_there Three offset q h = entry_there 26 3 offset 4 (entry_of file 26 3 offset 4 q) h

  pub contents_there : (form : Form) (table trace : ℕ) → let start = table_start form in
      number_at 2 file 0 ≡ entries_of form → Entry file 2 1 start table → Entry file 14 2 (start + table) trace
      → is_third_entry form file (start + table + trace) ≡ true → start ≤ length file → contents form table trace ≡ take start file
  unfolding contents
  contents_there form table trace e one two three h =
      let start = table_start form in
      let long = after_two form in
      let k : 26 + (start - 26) ≡ start = omega arith in
      rw (
        piece 2 0 (entries_of form) e (omega arith),
        entry_there 2 1 start table one (omega arith),
        entry_there 14 2 (start + table) trace two (omega arith),
        third_entry_there form (start + table + trace) three h,
        glue 0 2 12 file,
        glue 0 14 12 file,
        glue 0 26 (start - 26) file,
        k,
      )

  streams_there : (t : Table) (at n : ℕ) → ((i : ℕ) → i < n → number_at 4 file (at + 8 * i) ≡ reserved_at t i)
      → ((i : ℕ) → i < n → number_at 4 file (at + 4 + 8 * i) ≡ period_at t i) → at + 8 * n ≤ length file
      → stream_cells t n ≡ take (8 * n) (drop at file)
  unfolding stream_cells
  streams_there t at zero he hp h = refl
  streams_there t at (suc n) he hp h =
      let before = streams_there t at n (λ i l. he i (omega arith)) (λ i l. hp i (omega arith)) (omega arith) in
      let k : at + 4 + 8 * n ≡ at + 8 * n + 4 = omega arith in
      let m : 8 * suc n ≡ 8 * n + 8 = omega arith in
      rw (
        before,
        piece 4 (at + 8 * n) (reserved_at t n) (he n (omega arith)) (omega arith),
        piece 4 (at + 4 + 8 * n) (period_at t n) (hp n (omega arith)) (omega arith),
        k,
        glue (at + 8 * n) 4 4 file,
        glue at (8 * n) 8 file,
        m,
      )

  pub table_there : (at : ℕ) → count_at file at ≤ 8 → at + table_length (count_at file at) ≤ length file
      → table_body (table_at file at) ≡ take (table_length (count_at file at)) (drop at file)
  unfolding table_body table_at
  table_there at c h =
      let n = count_at file at in
      let row = streams_there (table_at file at) (at + 16) n
      (λ i l. sym (column_at (λ i. number_at 4 file (at + 16 + 8 * i)) n i l c))
      (λ i l. let k : at + 16 + 4 + 8 * i ≡ at + 20 + 8 * i = omega arith in rw k (sym (column_at (λ i. number_at 4 file (at + 20 + 8 * i)) n i l c)))
      (omega arith) in
      rw (
        cell_number 4 file at b (omega arith),
        cell_number 4 file (at + 4) b (omega arith),
        cell_number 4 file (at + 8) b (omega arith),
        cell_number 4 file (at + 12) b (omega arith),
        glue at 4 4 file,
        glue at 8 4 file,
        glue at 12 4 file,
      )
      (ap (λ (s : List ℕ). take 16 (drop at file) ++ s) row ∙ glue at 16 (8 * n) file)

-- four neighbouring parts that reach to the end are the whole
assemble : (l a b c d : List ℕ) (n m k j : ℕ) → a ≡ take n l → b ≡ take m (drop n l) → c ≡ take k (drop (n + m) l)
    → d ≡ take j (drop (n + m + k) l) → n + m + k + j ≡ length l → a ++ b ++ c ++ d ≡ l
assemble l a b c d n m k j ha hb hc hd e =
    rw (ha, hb, hc, hd, ← take-add n m l, ← take-add (n + m) k l, ← take-add (n + m + k) j l) (take_all (n + m + k + j) l (omega arith))

pub length_trace : (file : List ℕ) → Accepted file → length (trace_in file) ≡ trace_end file - trace_start file
length_trace file q =
    length-take-le (trace_end file - trace_start file) (drop (trace_start file) file)
    (omega (arith, q.long, length-drop (trace_start file) file))

module _ (file : List ℕ) (b : Bytes file) (q : Accepted file) where
  length_body : length (table_body (table_in file)) ≡ table_length (count_at file (start_in file))
  unfolding table_at
  length_body = length_table (table_in file)

  front : contents (form_in file) (length (table_body (table_in file))) (length (trace_in file)) ≡ take (start_in file) file
  front =
      let k : trace_start file - start_in file ≡ table_length (count_at file (start_in file)) = omega arith in
      let e : trace_start file + (trace_end file - trace_start file) ≡ trace_end file = omega (arith, q.long) in
      rw (length_body, length_trace file q)
      (contents_there
      file
      b
      (form_in file)
      (table_length (count_at file (start_in file)))
      (trace_end file - trace_start file)
      q.contents_right.entries
      (rw k at q.contents_right.table_entry)
      q.contents_right.trace_entry
      (rw e q.contents_right.third_entry)
      (omega (arith, q.long)))

  -- the number that was read is that of the order
  third : third_body (form_in file) (order_in file) ≡ take (third_length (form_in file)) (drop (trace_end file) file)
  unfolding third_body
  third =
      rw (numbers_are_orders.1 _ q.order_right)
      (cell_number (third_length (form_in file)) file (trace_end file) b (omega (arith, q.long)))

-- Writing what was read gives the file again.
pub write_back : (file : List ℕ) → Bytes file → is_laid_out file ≡ true → file_of (form_in file) (order_in file) (table_in file) (trace_in file) ≡ file
write_back file b h =
    let q = accepted_of file h in
    let n = table_length (count_at file (start_in file)) in
    let e : start_in file + n + (trace_end file - trace_start file) ≡ trace_end file = omega (arith, q.long) in
    file_parts (form_in file) (order_in file) (table_in file) (trace_in file)
    ∙ assemble
    file
    (contents (form_in file) (length (table_body (table_in file))) (length (trace_in file)))
    (table_body (table_in file))
    (trace_in file)
    (third_body (form_in file) (order_in file))
    (start_in file)
    n
    (trace_end file - trace_start file)
    (third_length (form_in file))
    (front file b q)
    (table_there file b (start_in file) q.count_high (omega (arith, q.long)))
    refl
    (rw e (third file b q))
    (omega (arith, q.long))
