-- How long the parts of a file are.
use mathlib.Core.Path.{◌≡◌, refl, ◌∙◌}
use mathlib.Core.List.{List, ◌++◌}
use Prim.Native.Nat.{ℕ, zero, suc, ◌+◌, ◌*◌}
use native.Mathlib.Omega.{arith}
use lib.ListN.{length, length-append}
use Rattle.table.specs.Admission.{reserved_at, period_at}
use Rattle.table.specs.declared.Table.{Table}
use Rattle.order.specs.Order.{order_number}
use Rattle.order.specs.declared.Order.{Order}
use Rattle.cells.specs.Cells.{cell}
use Rattle.cells.proofs.Numbers.{length_cell}
use Rattle.file.specs.File.{entry, contents, table_start, third_length, third_body, stream_cells, table_body, file_of}
use Rattle.file.specs.Reading.{table_length}
use Rattle.file.specs.declared.form.Form.{Form}
use Rattle.file.specs.declared.form.Form.TheVariants.{Two, Three}

pub length_contents : (form : Form) (table trace : ℕ) → length (contents form table trace) ≡ table_start form
unfolding contents entry cell
length_contents Two table trace = refl
length_contents Three table trace = refl

pub length_third : (form : Form) (order : Order) → length (third_body form order) ≡ third_length form
unfolding third_body
length_third form order = length_cell (third_length form) (order_number order)

pub length_streams : (t : Table) (n : ℕ) → length (stream_cells t n) ≡ 8 * n
unfolding stream_cells cell
length_streams t zero = refl
length_streams t (suc n) =
    length-append (stream_cells t n) (cell 4 (reserved_at t n) ++ cell 4 (period_at t n)) ∙ omega (arith, length_streams t n)

-- the four numbers before the streams
pub length_four : (a b c d : ℕ) → length (cell 4 a ++ cell 4 b ++ cell 4 c ++ cell 4 d) ≡ 16
unfolding cell
length_four a b c d = refl

pub length_table : (t : Table) → length (table_body t) ≡ table_length t.count
unfolding table_body
length_table t =
    length-append (cell 4 t.worst ++ cell 4 t.span ++ cell 4 t.padding ++ cell 4 t.count) (stream_cells t t.count)
    ∙ omega (arith, length_four t.worst t.span t.padding t.count, length_streams t t.count)

pub length_file : (form : Form) (order : Order) (t : Table) (trace : List ℕ)
    → length (file_of form order t trace) ≡ table_start form + table_length t.count + length trace + third_length form
unfolding file_of
length_file form order t trace = simp (length-append, length_contents, length_table, length_third)
